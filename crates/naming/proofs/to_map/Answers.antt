use Rattle.table.proofs.FoundLaws.{global_word, global_word_lem}
use Rattle.scope.proofs.ResultLaws.{word_none, word_some}
use mathlib.Core.Path.{sym, ◌∙◌, ap}
use Rattle.naming.proofs.to_map.Goals as goal

pub returns-in-None : goal.returns-in-None
returns-in-None c =
    rw c.saturating_sub.ensures (sym (word_none _ _ _ (global_word_lem _ _ c.global_of.ensures ∙ ap global_word c.in-None.is)))

pub returns-in-Some : goal.returns-in-Some
returns-in-Some c = sym (word_some _ _ _ _ (global_word_lem _ _ c.global_of.ensures ∙ ap global_word c.in-Some.is))
