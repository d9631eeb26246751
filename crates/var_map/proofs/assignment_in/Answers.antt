use native.Mathlib.Omega.{arith}
use Rattle.scope.specs.Lookup.{assignment_word_of}
use Rattle.var_map.proofs.LookupLaws.{no_word, a_word, same_word}
use Rattle.var_map.proofs.assignment_in.Goals as goal

pub returns-then-mark-solver : goal.returns-then-mark-solver
unfolding assignment_word_of
returns-then-mark-solver c =
    let beyond = c.if-mark-solver.true in
    λ t k m p. no_word t k _ _ _ _ m (omega arith)

pub returns : goal.returns
unfolding assignment_word_of
returns c =
    let below = c.if-mark-solver.false in
    λ t k m p. a_word t k _ _ _ _ m _ (omega arith) (same_word _ _ p c.word_at.ensures)
