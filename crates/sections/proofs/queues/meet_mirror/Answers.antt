use Rattle.std.proofs.Common.{rules}
use Rattle.sections.proofs.QueueLaws.{even_two}
use mathlib.Core.Path.{refl, ◌∙◌}
use Rattle.sections.proofs.queues.meet_mirror.Goals as goal

pub returns : goal.returns
returns c =
    even_two c.args.s.now.lists.now c.args.s.now.n c.args.s.now.place.now c.args.s.now.placed c.args.head.now (search rules)
    c.requires.even _ _ _ _ c.requires.facing refl c.if-s-y.false (c.if-s-k.false ∙ c.not_lit.ensures)
