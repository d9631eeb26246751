use native.Mathlib.Omega.{arith}
use Rattle.sections.proofs.QueueLaws.{even_start, even_end}
use Rattle.sections.proofs.queues.heads_meet.Goals as goal

pub loop-walk-init : goal.loop-walk-init
loop-walk-init c = (
  even_start c.args.s.now.lists.now c.args.s.now.n c.args.s.now.place.now c.args.s.now.placed _
      c.start_heads.ensures,
  omega arith,
  omega arith,
)

pub returns : goal.returns
returns c =
    λ e. even_end c.args.s.now.lists.now c.args.s.now.n c.args.s.now.place.now c.args.s.now.placed _
    c.loop-walk.invariant.0 c.requires (c.all_taken.ensures e)
