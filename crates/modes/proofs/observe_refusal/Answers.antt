use Rattle.modes.proofs.ObserveCallLaws.{mark_words, observe_7, observe_2, observe_0}
use Rattle.modes.proofs.observe_refusal.Goals as goal

pub none_assumed-requires : goal.none_assumed-requires
none_assumed-requires c =
    mark_words _ c.requires.records_value

pub returns-then-not-none_assumed : goal.returns-then-not-none_assumed
returns-then-not-none_assumed c =
    observe_7 _ _ _ c.requires.records_value _ c.none_assumed.ensures c.if-not-none_assumed.true

pub returns-then-outs-n : goal.returns-then-outs-n
returns-then-outs-n c =
    observe_2 _ _ _ c.requires.records_value _ c.none_assumed.ensures c.if-not-none_assumed.false _ c.requires.hidden_value c.if-outs-n.true

pub returns : goal.returns
returns c =
    observe_0 _ _ _ c.requires.records_value _ c.none_assumed.ensures c.if-not-none_assumed.false _ c.requires.hidden_value c.if-outs-n.false
