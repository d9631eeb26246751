-- What a call says that may be refused: its number is 0 exactly where it is accepted.
use Rattle.std.specs.Prelude.{ℕ, ◌<◌, ◌≡◌, Ok, Err, Result, refl}
use mathlib.Core.Path.{sym, ap}
use lib.Dec.{eqb}
use Rattle.base.specs.Choice.{pick}
use native.Mathlib.Omega.{arith}
use Rattle.scope.specs.declared.Refusal.{Refusal}
use Rattle.scope.specs.declared.Refusal.TheVariants.{Unsound, Short, OutOfRange, NotSampled, NoRoom, Deleted, Assumed, NotHeld, HasValue, BadSize, NotInDrat, FewUnknown, Unmatched, BadLists, StillAssumed}
use Rattle.scope.specs.Refusals.{number, refused_by}

-- a refusal's number is not 0
pub number_above_0 : (r : Refusal) → 0 < number r
number_above_0 Unsound = omega arith
number_above_0 Short = omega arith
number_above_0 OutOfRange = omega arith
number_above_0 NotSampled = omega arith
number_above_0 NoRoom = omega arith
number_above_0 Deleted = omega arith
number_above_0 Assumed = omega arith
number_above_0 NotHeld = omega arith
number_above_0 HasValue = omega arith
number_above_0 BadSize = omega arith
number_above_0 NotInDrat = omega arith
number_above_0 FewUnknown = omega arith
number_above_0 Unmatched = omega arith
number_above_0 BadLists = omega arith
number_above_0 StillAssumed = omega arith

pub number_not_0 : (r : Refusal) → number r ≡ 0 → ⊥
number_not_0 r e = let k = number_above_0 r in omega arith

-- a call that is refused, and one that is accepted
pub refused_err : {A : Type 0} (x : Result A Refusal) (r : Refusal) → x ≡ Err r → refused_by x ≡ number r
refused_err x r e = rw e

pub refused_ok : {A : Type 0} (x : Result A Refusal) (a : A) → x ≡ Ok a → refused_by x ≡ 0
refused_ok x a e = rw e

pub ok_err : {A : Type 0} (a : A) (r : Refusal) → ◌≡◌ {A = Result A Refusal} (Ok a) (Err r) → ⊥
ok_err a r e = number_not_0 r (sym (ap refused_by e))

abbrev refusal_or : {A : Type 0} → Refusal → Result A Refusal → Refusal
refusal_or r (Ok a) = r
refusal_or r (Err s) = s

pub same_err : {A : Type 0} (r s : Refusal) → ◌≡◌ {A = Result A Refusal} (Err r) (Err s) → r ≡ s
same_err r s e = ap (refusal_or r) e

-- the number tells the refusal
abbrev pub refusal_at : ℕ → Refusal
refusal_at n =
    pick (eqb n 1) Unsound (pick (eqb n 2) Short (pick (eqb n 3) OutOfRange (pick (eqb n 4) NotSampled (pick (eqb n 5) NoRoom
    (pick (eqb n 6) Deleted (pick (eqb n 7) Assumed (pick (eqb n 8) NotHeld (pick (eqb n 9) HasValue (pick (eqb n 10) BadSize
    (pick (eqb n 11) NotInDrat (pick (eqb n 12) FewUnknown (pick (eqb n 14) Unmatched (pick (eqb n 15) BadLists StillAssumed)))))))))))))

pub refusal_back : (r : Refusal) → refusal_at (number r) ≡ r
refusal_back Unsound = refl
refusal_back Short = refl
refusal_back OutOfRange = refl
refusal_back NotSampled = refl
refusal_back NoRoom = refl
refusal_back Deleted = refl
refusal_back Assumed = refl
refusal_back NotHeld = refl
refusal_back HasValue = refl
refusal_back BadSize = refl
refusal_back NotInDrat = refl
refusal_back FewUnknown = refl
refusal_back Unmatched = refl
refusal_back BadLists = refl
refusal_back StillAssumed = refl
