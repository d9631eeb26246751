use Rattle.std.proofs.Common.{rules, tests, arith, eqb, take, get_or, ◌-◌, ◌≡◌}
use mathlib.Core.Path.{◌∙◌}
use Rattle.std.proofs.lemmas.Iterator.{YieldsList-from_slice}
use Rattle.std.proofs.lemmas.Iterator.Search.{any_from_yields_List}
use Rattle.scope.specs.Literals.{index_of}
use Rattle.base.proofs.MemberLaws.{any_is}
use Rattle.distinct.proofs.named_before.Goals as goal

pub returns : goal.returns
returns c =
    any_from_yields_List (λ x. eqb (index_of x) (index_of (get_or c.args.lits.now c.args.i 0))) _ _ c.any.result c.any.ensures.ran
    (YieldsList-from_slice (take c.args.i c.args.lits.now) (let e : c.args.i - 0 ≡ c.args.i = omega arith in cc)) (λ x b q k. search (rules, tests))
    ∙ any_is _ _
