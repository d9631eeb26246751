-- Laws of `Codes` and `Valid`: how a caller shows that what it writes can be read.
use Prim.Native.Nat.{ℕ, zero, suc, ◌+◌, ◌-◌, ◌<◌}
use mathlib.Core.Path.{◌≡◌}
use mathlib.Core.List.{List, [], ◌∷◌, ◌++◌}
use mathlib.Core.Bool.{true}
use native.Mathlib.Omega.{arith}
use lib.Dec.{ltb}
use lib.ListN.{length, get_or, take, drop, length-drop, length-take}
use lib.Seq.{get_or-drop, get_or-take}
use borrow.Author.Tests.{ltb-true}
use Rattle.base.proofs.BelowLaws.{all_at}
use Rattle.drat.specs.Grammar.{Step, Codes, Valid}
use Rattle.drat.specs.Writing.{part, codes_test}

-- no codes; one more in front
pub codes_nil : Codes []
codes_nil i h = absurd (omega arith)

pub codes_cons : (c : ℕ) (cs : List ℕ) → c < 8192 → Codes cs → Codes (c ∷ cs)
codes_cons c cs h k zero l = h
codes_cons c cs h k (suc i) l = k i (omega arith)

pub codes_append : (cs ds : List ℕ) → Codes cs → Codes ds → Codes (cs ++ ds)
codes_append [] ds h k = k
codes_append (c ∷ cs) ds h k = codes_cons c (cs ++ ds) (h 0 (omega arith)) (codes_append cs ds (λ i l. h (suc i) (omega arith)) k)

-- a part of such a list
pub codes_drop : (a : ℕ) (cs : List ℕ) → Codes cs → Codes (drop a cs)
codes_drop a cs h i l = rw get_or-drop (h (a + i) (omega (arith, length-drop a cs)))

pub codes_take : (n : ℕ) (cs : List ℕ) → Codes cs → Codes (take n cs)
codes_take n cs h i l =
    let e = length-take n cs in
    let k : i < n = omega arith in
    rw (get_or-take n cs i 0 k) (h i (omega arith))

pub codes_part : (a b : ℕ) (cs : List ℕ) → Codes cs → Codes (part a b cs)
codes_part a b cs h = codes_take (b - a) (drop a cs) (codes_drop a cs h)

-- the test says it
pub codes_true : (cs : List ℕ) → codes_test cs ≡ true → Codes cs
codes_true cs h i l = ltb-true (get_or cs i 0) 8192 (all_at (length cs) (λ j. ltb (get_or cs j 0) 8192) h i l)

pub valid_append : (ss ts : List Step) → Valid ss → Valid ts → Valid (ss ++ ts)
unfolding Valid
valid_append [] ts h k = k
valid_append (s ∷ ss) ts h k = (h.0, valid_append ss ts h.1 k)
