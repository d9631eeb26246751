use lib.ListN.{get_or}
use Prim.Native.Nat.{ℕ, ◌+◌}
use mathlib.Core.Path.{◌∙◌, ap, sym, refl}
use Rattle.scope.specs.Refusals.{or_counts}
use Rattle.base.specs.Choice.{pick}
use Rattle.base.proofs.MemberLaws.{get_d_default}
use Rattle.scope.specs.declared.Name.TheVariants.{User}
use Rattle.scope.specs.Table.{is_deleted}
use Rattle.scope.proofs.BiMapLaws.{accepted, insert_done}
use Rattle.scope.proofs.CountsLaws.{user_covered}
use Rattle.scope.proofs.StoredLaws.{mapped_is}
use Rattle.scope.proofs.Counts.map.Goals as goal

pub unwrap-self-requires : goal.unwrap-self-requires
unwrap-self-requires c = rw (accepted _ _ _ _ _ (User c.args.user) _ _ (record { index = c.requires.user_lt_capacity; global = c.requires.global_lt_capacity; forward = c.requires.user_in_bounds; backward = c.requires.global_in_bounds }) c.inserted.ensures) refl

pub returns-clause-value : goal.returns-clause-value
returns-clause-value c =
    let e = c.args in
    let a = accepted _ _ _ _ _ (User e.user) _ _ (record { index = c.requires.user_lt_capacity; global = c.requires.global_lt_capacity; forward = c.requires.user_in_bounds; backward = c.requires.global_in_bounds }) c.inserted.ensures in
    let w = get_or e.records.now e.global.0 47 in
    let u = c.used_with-used.ensures in
    mapped_is e.self _ e.user.0 e.global.0 w _ (ap (or_counts e.self) (sym c.unwrap-self.ensures ∙ a) ∙ user_covered _ e.user e.global.0)
    (u ∙ ap (λ (w : ℕ). e.self.used + pick (is_deleted w) 1 0) (get_d_default e.records.now e.global.0 0 47 c.requires.global_in_bounds_2))

pub returns-clause-gu_value : goal.returns-clause-gu_value
returns-clause-gu_value c =
    (insert_done _ _ _ _ _ _ (User c.args.user) _ _ (record { index = c.requires.user_lt_capacity; global = c.requires.global_lt_capacity; forward = c.requires.user_in_bounds; backward = c.requires.global_in_bounds }) c.inserted.ensures).forward

pub returns-clause-ug_value : goal.returns-clause-ug_value
returns-clause-ug_value c =
    (insert_done _ _ _ _ _ _ (User c.args.user) _ _ (record { index = c.requires.user_lt_capacity; global = c.requires.global_lt_capacity; forward = c.requires.user_in_bounds; backward = c.requires.global_in_bounds }) c.inserted.ensures).backward
