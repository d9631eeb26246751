use Prim.Native.Nat.{ℕ, ◌+◌, ◌-◌, ◌<◌}
use mathlib.Core.List.{List}
use mathlib.Core.Path.{◌≡◌, sym, ap, ◌∙◌}
use native.Mathlib.Omega.{arith}
use lib.ListN.{get_or, take, drop}
use lib.Pointwise.{bytes_decides}
use lib.Seq.{get_or-drop, get_or-take}
use Rattle.sections.proofs.queues.all_taken.Goals as goal

pub returns : goal.returns
returns c =
    λ e l h.
    let a = c.args in
    let s : take a.n a.head.now ≡ take (a.n + 1 - 1) (drop 1 a.place.now) = (bytes_decides _ _).0 (sym c.eq.ensures ∙ e) in
    let p : l < a.n + 1 - 1 = omega (arith, h) in
    let j : 1 + l ≡ l + 1 = omega arith in
    sym (get_or-take a.n a.head.now l 0 h) ∙ ap (λ (xs : List ℕ). get_or xs l 0) s ∙ get_or-take (a.n + 1 - 1) (drop 1 a.place.now) l 0 p
    ∙ rw get_or-drop (ap (λ (i : ℕ). get_or a.place.now i 0) j)
