use mathlib.Core.Path.{sym, ap, ◌∙◌}
use lib.ListN.{length}
use native.Mathlib.Omega.{arith}
use Rattle.model.proofs.RowLaws.{users_start, users_count_some, users_count_none, users_count_end, users_count_bound}
use Rattle.model.proofs.count_users.Goals as goal
use Rattle.model.proofs.count_users.Goals.{then-v-ne0, else-v-ne0}

pub loop-u-init : goal.loop-u-init
loop-u-init c = sym (ap length (users_start _))

pub overflow_add-k : goal.overflow_add-k
overflow_add-k c = let x = users_count_bound _ _ _ c.loop-u.invariant in omega arith

pub loop-u-preserved : goal.loop-u-preserved
loop-u-preserved c = elim c.if-v-ne0.branch [
  | then-v-ne0 w ↦ w.k-is ∙ users_count_some _ _ _ _ c.user_value-v.ensures.value w.if-v-ne0.true c.loop-u.invariant
  | else-v-ne0 w ↦ w.k-is ∙ users_count_none _ _ _ _ c.user_value-v.ensures.value w.if-v-ne0.false c.loop-u.invariant
]

pub returns : goal.returns
returns c = users_count_end _ _ _ c.loop-u.invariant (omega arith) (omega arith)
