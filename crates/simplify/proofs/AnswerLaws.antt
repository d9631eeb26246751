-- The number and the values of an answer tell the answer.
use Rattle.std.specs.Prelude.{Result, Ok, Err}
use Prim.Native.Nat.{ℕ}
use mathlib.Core.Path.{◌≡◌, refl, sym, ap, ◌∙◌}
use mathlib.Core.Bool.{Bool, true, false}
use mathlib.Core.List.{[], ◌∷◌}
use lib.Dec.{eqb}
use lib.ListN.{get_or}
use Rattle.base.specs.Choice.{pick}
use Rattle.scope.specs.declared.Counts.{Counts}
use Rattle.scope.specs.declared.Simplified.{Simplified}
use Rattle.scope.specs.declared.Simplified.TheVariants.{Kept, Dropped, Shortened, Binary}
use Rattle.scope.specs.Simplify.{simplified_number}
use Rattle.simplify.specs.declared.Reduced.{Reduced}
use Rattle.scope.specs.declared.Refusal.{Refusal}
use Rattle.scope.specs.Refusals.{number}
use Rattle.scope.proofs.RefusedLaws.{refusal_at, refusal_back}
use Rattle.simplify.specs.Answers.{reduced}

sort_of : (w : Simplified) → get_or (Kept ∷ Dropped ∷ Shortened ∷ Binary ∷ []) (simplified_number w) Kept ≡ w
sort_of Kept = refl
sort_of Dropped = refl
sort_of Shortened = refl
sort_of Binary = refl

sort_one : (w v : Simplified) → simplified_number w ≡ simplified_number v → w ≡ v
sort_one w v e = sym (sort_of w) ∙ ap (λ (n : ℕ). get_or (Kept ∷ Dropped ∷ Shortened ∷ Binary ∷ []) n Kept) e ∙ sort_of v

flag_of_lem : (b : Bool) → eqb (pick b 1 0) 1 ≡ b
flag_of_lem true = refl
flag_of_lem false = refl

flag_one : (a b : Bool) → ◌≡◌ {A = ℕ} (pick a 1 0) (pick b 1 0) → a ≡ b
flag_one a b e = sym (flag_of_lem a) ∙ ap (λ (n : ℕ). eqb n 1) e ∙ flag_of_lem b

number_one : (r q : Refusal) → number r ≡ number q → r ≡ q
number_one r q e = sym (refusal_back r) ∙ ap refusal_at e ∙ refusal_back q

pub reduced_one : (r q : Result Reduced Refusal) (c : Counts) → (reduced r c).answer ≡ (reduced q c).answer → r ≡ q
reduced_one (Ok x) (Ok y) c h =
    let p : simplified_number x.what ≡ simplified_number y.what = cc in
    let q : x.left ≡ y.left = cc in
    let r : ◌≡◌ {A = ℕ} (pick x.redundant 1 0) (pick y.redundant 1 0) = cc in
    let s : x.bytes ≡ y.bytes = cc in
    rw (sort_one x.what y.what p, q, flag_one x.redundant y.redundant r, s) refl
reduced_one (Ok x) (Err r) c h = cc
reduced_one (Err r) (Ok x) c h = cc
reduced_one (Err r) (Err q) c h = let p : number r ≡ number q = cc in ap Err (number_one r q p)
