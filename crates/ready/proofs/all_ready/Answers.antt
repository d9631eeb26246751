use Rattle.std.proofs.Common.{rules, tests}
use mathlib.Core.Path.{◌∙◌}
use Rattle.std.proofs.lemmas.Iterator.{YieldsList-from_slice}
use Rattle.std.proofs.lemmas.Iterator.Search.{all_from_yields_List}
use Rattle.scope.specs.Literals.{index_of}
use Rattle.ready.specs.Ready.{is_ready}
use Rattle.ready.proofs.ReadyLaws.{all_is}
use Rattle.ready.proofs.all_ready.Goals as goal

pub returns : goal.returns
returns c =
    let a = c.args in
    all_from_yields_List (λ x. is_ready a.gu.now a.sg.now a.records.now a.sampling (index_of x)) _ _ c.all.result c.all.ensures.ran
    (YieldsList-from_slice a.lits.now cc) (λ x b q k. search (rules, tests))
    ∙ all_is _ _
