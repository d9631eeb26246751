use Rattle.model.proofs.RowLaws.{users_fill_there, users_start, users_count_some, users_count_none, users_count_end}
use Rattle.model.proofs.RowLaws.{users_count_bound, users_count_room, users_fill_start, users_fill_some, users_fill_none, users_fill_end}
use Rattle.model.proofs.ValueLaws.{mark_small}
use mathlib.Core.Path.{sym, ap, ◌∙◌}
use lib.ListN.{length}
use native.Mathlib.Omega.{arith}
use Rattle.model.proofs.fill_users.Goals as goal
use Rattle.model.proofs.fill_users.Goals.{then-v-ne0, else-v-ne0}

pub loop-u-init : goal.loop-u-init
loop-u-init c = (sym (ap length (users_start _)), users_fill_start _ _)

pub overflow_mul-users : goal.overflow_mul-users
overflow_mul-users c =
    let z = mark_small _ c.requires.sound in omega arith

pub overflow_add-users : goal.overflow_add-users
overflow_add-users c =
    let z = mark_small _ c.requires.sound in omega arith

pub bounds-users-k : goal.bounds-users-k
bounds-users-k c =
    users_fill_there _ _ _ _ _ (users_count_room _ _ _ _ c.loop-u-test.true c.user_value-v.ensures.value c.if-v-ne0.true
    c.loop-u.invariant.0) c.requires.room c.loop-u.invariant.1

pub overflow_add-k : goal.overflow_add-k
overflow_add-k c = let x = users_count_bound _ _ _ c.loop-u.invariant.0 in omega arith

pub loop-u-preserved : goal.loop-u-preserved
loop-u-preserved c = elim c.if-v-ne0.branch [
  | then-v-ne0 w ↦ (
    w.k-is ∙ users_count_some _ _ _ _ c.user_value-v.ensures.value w.if-v-ne0.true c.loop-u.invariant.0,
    w.users-is ∙ users_fill_some _ _ _ _ _ _ _ c.loop-u.invariant.1 c.loop-u.invariant.0
        c.user_value-v.ensures.value w.if-v-ne0.true (omega arith),
  )
  | else-v-ne0 w ↦ (
    w.k-is ∙ users_count_none _ _ _ _ c.user_value-v.ensures.value w.if-v-ne0.false c.loop-u.invariant.0,
    w.users-is ∙ users_fill_none _ _ _ _ _ c.loop-u.invariant.1 c.user_value-v.ensures.value w.if-v-ne0.false,
  )
]

pub returns-clause-value : goal.returns-clause-value
returns-clause-value c =
    users_count_end _ _ _ c.loop-u.invariant.0 (omega arith) (omega arith)

pub returns-clause-fills : goal.returns-clause-fills
returns-clause-fills c =
    users_fill_end _ _ _ _ c.loop-u.invariant.1
    (omega arith) (omega arith)
