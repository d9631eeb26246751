-- The number and the values of an answer tell the answer.
use Rattle.std.specs.Prelude.{Result, Ok, Err}
use mathlib.Core.Path.{◌≡◌, sym, ap, ◌∙◌}
use Rattle.scope.specs.declared.Counts.{Counts}
use Rattle.scope.specs.declared.Refusal.{Refusal}
use Rattle.scope.specs.Refusals.{number}
use Rattle.scope.proofs.RefusedLaws.{refusal_at, refusal_back}
use Rattle.binary.specs.declared.Thinned.{Thinned}
use Rattle.binary.specs.Answers.{thinned}

number_one : (r q : Refusal) → number r ≡ number q → r ≡ q
number_one r q e = sym (refusal_back r) ∙ ap refusal_at e ∙ refusal_back q

pub thinned_one : (r q : Result Thinned Refusal) (c : Counts) → (thinned r c).answer ≡ (thinned q c).answer → r ≡ q
thinned_one (Ok x) (Ok y) c h =
    let p : x.words ≡ y.words = cc in
    let q : x.half ≡ y.half = cc in
    let r : x.bytes ≡ y.bytes = cc in
    λ d. Ok (record { words = p d; half = q d; bytes = r d })
thinned_one (Ok x) (Err r) c h = cc
thinned_one (Err r) (Ok x) c h = cc
thinned_one (Err r) (Err q) c h = let p : number r ≡ number q = cc in ap Err (number_one r q p)
