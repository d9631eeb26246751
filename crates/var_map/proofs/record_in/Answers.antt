use native.Mathlib.Omega.{arith}
use Rattle.scope.specs.Lookup.{record_word_of}
use Rattle.var_map.proofs.LookupLaws.{no_word, a_word, record_word_lem}
use Rattle.var_map.proofs.record_in.Goals as goal

pub returns-then-mark-global : goal.returns-then-mark-global
unfolding record_word_of
returns-then-mark-global c =
    let beyond = c.if-mark-global.true in
    λ t k m p. no_word t k _ _ _ _ m (omega arith)

pub returns : goal.returns
unfolding record_word_of
returns c =
    let below = c.if-mark-global.false in
    λ t k m p. a_word t k _ _ _ _ m _ (omega arith) (record_word_lem t _ _ _ _ k m p (omega arith) c.word_at.ensures)
