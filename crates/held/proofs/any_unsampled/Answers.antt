use Rattle.std.proofs.Common.{rules, tests}
use mathlib.Core.Path.{◌∙◌}
use Rattle.std.proofs.lemmas.Iterator.{YieldsList-from_slice}
use Rattle.std.proofs.lemmas.Iterator.Search.{any_from_yields_List}
use Rattle.scope.specs.Literals.{index_of}
use Rattle.naming.specs.Parts.{is_unsampled}
use Rattle.base.proofs.MemberLaws.{any_is}
use Rattle.held.proofs.any_unsampled.Goals as goal

pub returns-then-sampling : goal.returns-then-sampling
returns-then-sampling c =
    rw c.if-sampling.true
    (any_from_yields_List (λ x. is_unsampled c.args.gu.now c.args.records.now (index_of x)) _ _ c.any.result c.any.ensures.ran
    (YieldsList-from_slice c.args.lits.now cc) (λ x b q k. search (rules, tests))
    ∙ any_is _ _)
