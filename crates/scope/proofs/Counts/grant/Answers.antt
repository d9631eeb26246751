use mathlib.Core.Path.{◌∙◌, ap, sym, refl}
use Rattle.scope.specs.Refusals.{or_counts}
use Rattle.scope.specs.declared.Name.TheVariants.{Solver}
use Rattle.scope.proofs.BiMapLaws.{accepted, insert_done}
use Rattle.scope.proofs.CountsLaws.{solver_covered}
use Rattle.scope.proofs.StoredLaws.{granted_is, grant_from}
use native.Mathlib.Omega.{arith}
use Rattle.scope.proofs.Counts.grant.Goals as goal

pub unwrap-self-requires : goal.unwrap-self-requires
unwrap-self-requires c = rw (accepted _ _ _ _ _ (Solver c.args.solver) _ _ (record { index = c.requires.solver_lt_capacity; global = c.requires.global_lt_capacity; forward = c.requires.solver_in_bounds; backward = c.requires.global_in_bounds }) c.inserted.ensures) refl

pub least_free-requires-clause-all_mapped : goal.least_free-requires-clause-all_mapped
least_free-requires-clause-all_mapped c =
    let e = c.args in
    let a = accepted _ _ _ _ _ (Solver e.solver) _ _ (record { index = c.requires.solver_lt_capacity; global = c.requires.global_lt_capacity; forward = c.requires.solver_in_bounds; backward = c.requires.global_in_bounds }) c.inserted.ensures in
    let p = insert_done _ _ _ _ _ _ (Solver e.solver) _ _ (record { index = c.requires.solver_lt_capacity; global = c.requires.global_lt_capacity; forward = c.requires.solver_in_bounds; backward = c.requires.global_in_bounds }) c.inserted.ensures in
    (grant_from e.self _ e.solver.0 e.global.0 _ e.gs.now _ (ap (or_counts e.self) (sym c.unwrap-self.ensures ∙ a) ∙ solver_covered _ e.solver e.global.0) p.forward
    c.requires.solver_in_bounds c.requires.solver_in_bounds_2 c.requires.all_mapped (omega arith)).1

pub returns-clause-value : goal.returns-clause-value
returns-clause-value c =
    let e = c.args in
    let a = accepted _ _ _ _ _ (Solver e.solver) _ _ (record { index = c.requires.solver_lt_capacity; global = c.requires.global_lt_capacity; forward = c.requires.solver_in_bounds; backward = c.requires.global_in_bounds }) c.inserted.ensures in
    granted_is e.self _ e.solver.0 e.global.0 _ _ (ap (or_counts e.self) (sym c.unwrap-self.ensures ∙ a) ∙ solver_covered _ e.solver e.global.0) c.least_free.ensures

pub returns-clause-sg_value : goal.returns-clause-sg_value
returns-clause-sg_value c =
    (insert_done _ _ _ _ _ _ (Solver c.args.solver) _ _ (record { index = c.requires.solver_lt_capacity; global = c.requires.global_lt_capacity; forward = c.requires.solver_in_bounds; backward = c.requires.global_in_bounds }) c.inserted.ensures).backward

pub returns-clause-gs_value : goal.returns-clause-gs_value
returns-clause-gs_value c =
    (insert_done _ _ _ _ _ _ (Solver c.args.solver) _ _ (record { index = c.requires.solver_lt_capacity; global = c.requires.global_lt_capacity; forward = c.requires.solver_in_bounds; backward = c.requires.global_in_bounds }) c.inserted.ensures).forward
