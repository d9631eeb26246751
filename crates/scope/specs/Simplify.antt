-- Simplify a clause (document 01, closure of `unit_simplify`).
use Rattle.std.specs.Prelude.{ℕ, ◌+◌, ◌-◌, Bool, true, false, ◌&&◌, ◌||◌, not, List, [], ◌∷◌, ◌++◌, eqb, ltb, length, get_or}
use Rattle.base.specs.Choice.{pick}
use Rattle.base.specs.Bounded.{any_of, keep_of}
use Rattle.base.specs.Answer.{accepted}
use Rattle.drat.specs.Grammar.{Step, encode}
use Rattle.drat.specs.declared.Format.{Format}
use Rattle.scope.specs.declared.Simplified.{Simplified}
use Rattle.scope.specs.declared.Simplified.TheVariants.{Kept, Dropped, Shortened, Binary}
use Rattle.scope.specs.declared.DeleteClauseProof.{DeleteClauseProof}
use Rattle.scope.specs.declared.DeleteClauseProof.TheVariants.{Redundant, Satisfied, Simplified as simpler}
use Rattle.scope.specs.declared.ProofStep.TheVariants.{AtClause, DeleteClause}
use Rattle.scope.specs.Literals.{index_of, sign_of}
use Rattle.scope.specs.Table.{Table}
use Rattle.scope.specs.Sound.{soundb}
use Rattle.scope.specs.Outcome.{Outcome, unless}
use Rattle.scope.specs.Steps.{clause_steps}
use Rattle.scope.specs.Marks.{lits_held_else}
use Rattle.scope.specs.Write.{rename_lits, holders}

-- a literal's value by the assignment
abbrev pub is_true : Table → ℕ → Bool
is_true t c = eqb (get_or t.assignment (index_of c) 0) (2 - sign_of c)

abbrev pub is_false : Table → ℕ → Bool
is_false t c = eqb (get_or t.assignment (index_of c) 0) (1 + sign_of c)

-- the literals that are not false
unfoldable pub unfalse : Table → List ℕ → List ℕ
unfalse t lits = keep_of (λ c. not (is_false t c)) lits

-- A true literal drops the clause; otherwise false literals go. Two left then is binary; where none went, it is kept.
unfoldable pub simplified : Table → List ℕ → Simplified
simplified t lits =
    pick (any_of (is_true t) lits) Dropped
    (pick (not (any_of (is_false t) lits)) Kept
    (pick (eqb (length (unfalse t lits)) 2) Binary Shortened))

-- what is left of the clause, in solver literals
abbrev pub rest_of : Simplified → Table → List ℕ → List ℕ
rest_of Kept t lits = lits
rest_of Dropped t lits = []
rest_of Shortened t lits = unfalse t lits
rest_of Binary t lits = unfalse t lits

-- the add step's redundant flag: only if the clause was and over two remain; no where there is no add step
abbrev pub flag_of : Simplified → Bool → Bool
flag_of Kept redundant = false
flag_of Dropped redundant = false
flag_of Shortened redundant = redundant
flag_of Binary redundant = false

-- the cause of the delete step
abbrev pub delete_cause : Bool → DeleteClauseProof → DeleteClauseProof
delete_cause redundant otherwise = pick redundant Redundant otherwise

-- The steps, from the rest and the old clause under global names.
abbrev pub simplify_steps : Simplified → Bool → List ℕ → List ℕ → List Step
simplify_steps Kept redundant rest old = []
simplify_steps Dropped redundant rest old = clause_steps (DeleteClause (delete_cause redundant Satisfied)) old
simplify_steps Shortened redundant rest old = clause_steps (AtClause redundant) rest ++ clause_steps (DeleteClause (delete_cause redundant simpler)) old
simplify_steps Binary redundant rest old = clause_steps (AtClause false) rest ++ clause_steps (DeleteClause (delete_cause redundant simpler)) old

unfoldable pub simplify_bytes : Format → Table → List ℕ → Bool → List ℕ
simplify_bytes f t lits redundant =
    let k = simplified t lits in
    encode f (simplify_steps k redundant (rename_lits (holders t) true (rest_of k t lits)) (rename_lits (holders t) true lits))

-- 1; 3 for more than 8,192 literals; 8; 12 where no literal is true, one is false and not two are left; 2.
unfoldable pub simplify_refusal : Format → Table → List ℕ → Bool → ℕ → ℕ → ℕ
simplify_refusal f t lits redundant outs room =
    pick (not (soundb t)) 1
    (pick (ltb 8192 (length lits)) 3
    (lits_held_else t true lits
    (pick (not (any_of (is_true t) lits) && (any_of (is_false t) lits && ltb (length (unfalse t lits)) 2)) 12
    (pick (ltb outs (length (rest_of (simplified t lits) t lits)) || ltb room (length (simplify_bytes f t lits redundant))) 2 0))))

abbrev pub simplified_number : Simplified → ℕ
simplified_number Kept = 0
simplified_number Dropped = 1
simplified_number Shortened = 2
simplified_number Binary = 3

-- The rest and the bytes are filled; the answer is what was made of the clause, the number of literals, the flag and the number of bytes.
unfoldable pub simplify_of : Format → Table → List ℕ → Bool → ℕ → ℕ → Outcome
simplify_of f t lits redundant outs room =
    let k = simplified t lits in
    let rest = rest_of k t lits in
    let bs = simplify_bytes f t lits redundant in
    unless (simplify_refusal f t lits redundant outs room) t
    (record {
      answer = accepted (simplified_number k ∷ length rest ∷ pick (flag_of k redundant) 1 0 ∷ length bs ∷ []);
      table = t;
      notes = [];
      words = rest;
      more = [];
      bytes = bs;
    })
