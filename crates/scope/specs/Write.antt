-- Rename and Write (document 01, `MapStep::map`, `add_step`, src/proof/drat.rs).
use Rattle.std.specs.Prelude.{ℕ, ◌-◌, Bool, true, false, ◌&&◌, ◌||◌, not, List, [], ◌∷◌, map, eqb, ltb, leb, length, get_or}
use Rattle.base.specs.Choice.{pick}
use Rattle.base.specs.Bounded.{any_of}
use Rattle.base.specs.Answer.{accepted}
use Rattle.drat.specs.Grammar.{encode}
use Rattle.drat.specs.declared.Format.{Format}
use Rattle.scope.specs.declared.ProofStep.{ProofStep}
use Rattle.scope.specs.declared.ProofStep.TheVariants.{UnitClauses}
use Rattle.scope.specs.declared.Writes.{Writes}
use Rattle.scope.specs.declared.Writes.TheVariants.{Add, AddEach, Delete, Nothing, Refused}
use Rattle.scope.specs.Literals.{code_of, index_of, sign_of}
use Rattle.scope.specs.Table.{Table}
use Rattle.scope.specs.Sound.{soundb}
use Rattle.scope.specs.Outcome.{Outcome, unless}
use Rattle.scope.specs.Marks.{lits_held_else}
use Rattle.scope.specs.Steps.{rule_of, kind_of, step_words, literals_of, hashes_of, clause_steps}

-- A literal under its global name: a solver literal's index is looked up in `holder`, a map's word for each index, and the sign stays; a global
-- literal is not touched.
abbrev pub rename_lit : (ℕ → ℕ) → Bool → ℕ → ℕ
rename_lit holder solver_vars c = pick solver_vars (code_of (holder (index_of c) - 1) (sign_of c)) c

unfoldable pub rename_lits : (ℕ → ℕ) → Bool → List ℕ → List ℕ
rename_lits holder solver_vars lits = map (rename_lit holder solver_vars) lits

-- the holders by the table
abbrev pub holders : Table → ℕ → ℕ
holders t s = get_or t.global_from_solver s 0

-- units and hashes differ in number
unfoldable pub unmatched : ProofStep → List ℕ → List ℕ → Bool
unmatched step lits hashes = eqb (kind_of step) (kind_of UnitClauses) && not (eqb (length lits) (length hashes))

-- too many literals, or a global one beyond the capacity
unfoldable pub outside : Table → Bool → List ℕ → Bool
outside t solver_vars lits = ltb 8192 (length lits) || (not solver_vars && any_of (λ c. leb t.counts.capacity (index_of c)) lits)

-- 1; 14, units and hashes differ in number; 3; 8 for a solver literal; then `rest`.
unfoldable pub step_refusal : Table → ProofStep → Bool → List ℕ → List ℕ → ℕ → ℕ
step_refusal t step solver_vars lits hashes rest =
    pick (not (soundb t)) 1
    (pick (unmatched step lits hashes) 14
    (pick (outside t solver_vars (literals_of step lits)) 3
    (lits_held_else t solver_vars (literals_of step lits) rest)))

-- ---- Rename: literals and hashes are filled, hashes unchanged.

unfoldable pub rename_refusal : Table → ProofStep → Bool → List ℕ → List ℕ → ℕ → ℕ → ℕ
rename_refusal t step solver_vars lits hashes outs hash_outs =
    step_refusal t step solver_vars lits hashes
    (pick (ltb outs (length (literals_of step lits)) || ltb hash_outs (length (hashes_of step hashes))) 2 0)

-- The answer is how many literals and how many hashes were filled, and the step, which is as given but for these.
unfoldable pub rename_of : Table → ProofStep → Bool → List ℕ → List ℕ → ℕ → ℕ → Outcome
rename_of t step solver_vars lits hashes outs hash_outs =
    let ls = literals_of step lits in
    let hs = hashes_of step hashes in
    unless (rename_refusal t step solver_vars lits hashes outs hash_outs) t
    (record {
      answer = accepted (length ls ∷ length hs ∷ step_words step);
      table = t;
      notes = [];
      words = rename_lits (holders t) solver_vars ls;
      more = hs;
      bytes = [];
    })

-- ---- Write: the bytes of the kind's adds or delete are filled.

abbrev pub lacked : Writes → Bool
lacked Add = false
lacked AddEach = false
lacked Delete = false
lacked Nothing = false
lacked Refused = true

unfoldable pub step_bytes : Format → Table → ProofStep → Bool → List ℕ → List ℕ
step_bytes f t step solver_vars lits = encode f (clause_steps step (rename_lits (holders t) solver_vars (literals_of step lits)))

-- the same refusals with 11, a kind DRAT lacks, before 2
unfoldable pub write_refusal : Format → Table → ProofStep → Bool → List ℕ → List ℕ → ℕ → ℕ
write_refusal f t step solver_vars lits hashes room =
    step_refusal t step solver_vars lits hashes
    (pick (lacked (rule_of step).writes) 11
    (pick (ltb room (length (step_bytes f t step solver_vars lits))) 2 0))

-- The answer is how many bytes were filled.
unfoldable pub write_of : Format → Table → ProofStep → Bool → List ℕ → List ℕ → ℕ → Outcome
write_of f t step solver_vars lits hashes room =
    let bs = step_bytes f t step solver_vars lits in
    unless (write_refusal f t step solver_vars lits hashes room) t
    (record { answer = accepted (length bs ∷ []); table = t; notes = []; words = []; more = []; bytes = bs })
