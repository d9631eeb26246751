-- What is judged whole is read whole, and the counts are those of its literals and steps.
use Prim.Native.Nat.{ℕ, ◌+◌, ◌≤◌}
use mathlib.Core.Bool.{true}
use mathlib.Core.List.{List, ◌++◌}
use mathlib.Core.Path.{◌≡◌, sym, ap, ap₂, ◌∙◌}
use lib.ListN.{length, length-append}
use native.Mathlib.Omega.{arith}
use Rattle.drat.proofs.Complete.{body_length, spells_read}
use Rattle.drat.proofs.Sound.{Bytes}
use Rattle.drat.specs.Filled.{codes_of, counted}
use Rattle.drat.specs.Grammar.{Step, Spells, none, step}
use Rattle.drat.specs.Reading.{steps, read_proof}
use Rattle.drat.specs.declared.Format.{Format}
use Rattle.drat_judge.specs.Local.{judged, lits_by, steps_by}
use Rattle.drat_judge.proofs.JudgedLaws.{judged_spells}
use Rattle.drat_judge.proofs.TallyLaws.{steps_by_lem, lits_by_lem}
use Rattle.std.specs.Prelude.{Ok}
use Rattle.drat.specs.Filled.{size}

pub counts_are : (f : Format) (s : List ℕ) → Bytes s → judged f s ≡ true → Ok (size (lits_by f s) (steps_by f s)) ≡ counted (read_proof f s)
unfolding counted
counts_are f s hb h =
    let j = judged_spells f s hb h in
    ap₂ (λ (x y : ℕ). Ok (size x y)) (lits_by_lem j.spelled) (steps_by_lem j.spelled) ∙ sym (ap counted (spells_read j.spelled))

-- literals and steps take a byte each
spells_size : {f : Format} {bs : List ℕ} {ss : List Step} → Spells f bs ss → length (codes_of ss) + length ss ≤ length bs
unfolding codes_of
spells_size (none w) = omega arith
spells_size (step {ws = ws} {os = os} {bs = bs} {rest = r} {cs = cs} {ss = ss} w b p g t) =
    omega (
      arith,
      spells_size t,
      body_length p,
      length-append ws ((os ++ bs) ++ r),
      length-append (os ++ bs) r,
      length-append os bs,
      length-append cs (codes_of ss),
    )

pub judged_size : (f : Format) (s : List ℕ) → Bytes s → judged f s ≡ true
    → (ss : List Step) × (read_proof f s ≡ steps ss) × (length (codes_of ss) + length ss ≤ length s)
judged_size f s hb h = let j = judged_spells f s hb h in (j.ss, spells_read j.spelled, spells_size j.spelled)
