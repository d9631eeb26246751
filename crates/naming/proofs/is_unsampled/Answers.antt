use Rattle.table.proofs.FoundLaws.{global_word, global_word_lem}
use Rattle.naming.proofs.SampledLaws.{inside_below, unsampled_none, unsampled_some}
use mathlib.Core.Path.{◌∙◌, ap}
use Rattle.naming.proofs.is_unsampled.Goals as goal

pub returns-in_default : goal.returns-in_default
returns-in_default c = unsampled_none _ _ _ ((global_word_lem _ _ c.global_of.ensures ∙ ap global_word c.in_default.is))

pub bounds-records-g : goal.bounds-records-g
bounds-records-g c = inside_below _ _ _ _ c.requires
    ((global_word_lem _ _ c.global_of.ensures ∙ ap global_word c.in-Some.is))

pub returns : goal.returns
returns c = unsampled_some _ _ _ _ c.requires
    ((global_word_lem _ _ c.global_of.ensures ∙ ap global_word c.in-Some.is))
