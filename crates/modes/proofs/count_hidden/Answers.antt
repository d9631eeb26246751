use borrow.Author.Rules.{rules}
use mathlib.Core.Path.{ap, ◌∙◌}
use native.Mathlib.Omega.{arith}
use Rattle.base.proofs.CountLaws.{count_same}
use Rattle.base.proofs.MemberLaws.{get_d_default}
use Rattle.scope.specs.Modes.{is_hidden}
use Rattle.modes.proofs.count_hidden.Goals as goal

pub returns : goal.returns
returns c =
    c.count_words.ensures is_hidden (λ x b h. search rules)
    ∙ count_same _ _ _ (λ i m. ap is_hidden (get_d_default c.args.records.now i 0 47 (omega arith)))
