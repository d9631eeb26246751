-- Three words stored one after another.
use Prim.Native.Nat.{ℕ, ◌+◌}
use mathlib.Core.Path.{◌≡◌}
use mathlib.Core.List.{List, [], ◌∷◌}
use native.Mathlib.Numerals.{towards_suc}
use lib.ListN.{set}
use lib.Seq.{sets}

pub three_stored : (l ws : List ℕ) (at i j x y z w : ℕ) → x ∷ y ∷ z ∷ [] ≡ ws → i ≡ at + 1 → j ≡ at + 2 → w ≡ z → set (set (set l at x) i y) j w ≡ sets l at ws
three_stored l ws at i j x y z w q a b e = rw (a, b, e, ← q) (simp towards_suc)
