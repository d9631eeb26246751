-- What is known of a held solver index of a sound table.
use Prim.Native.Nat.{ℕ}
use native.Mathlib.Omega.{arith}
use Rattle.scope.specs.Table.{Table}
use Rattle.scope.specs.Sound.{Sound}
use Rattle.scope.proofs.PairLaws.{below_mark}
use Rattle.scope.proofs.MoveLaws.{undeleted_below, used_some, next_least}
use Rattle.scope.proofs.RemoveLaws.{held_undeleted}
use Rattle.removal.specs.Asks.{Sweepable}

pub holding_of : (t : Table) → Sound t → (s : ℕ)
    → Sweepable t.counts t.user_from_global t.solver_from_global t.global_from_solver t.assignment t.records s
holding_of t h s g e =
    let z = h.sizes in
    let u = held_undeleted t g s h e in
    let k = undeleted_below t g h u in
    let l = below_mark s g h.solver e in
    record {
      held = record {
        live = record { user = omega arith; solver = omega arith; words = omega arith; small = omega arith; undeleted = u; used = used_some t g h u };
        solver = omega arith;
        below = l;
        next = next_least t h;
      };
      value = omega arith;
      small = h.values.small s;
    }
