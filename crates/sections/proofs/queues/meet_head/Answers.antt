use Rattle.std.proofs.Common.{rules}
use Rattle.sections.proofs.QueueLaws.{head_entry, even_one}
use mathlib.Core.Path.{refl, sym, ◌∙◌}
use native.Mathlib.Omega.{arith}
use Rattle.sections.proofs.queues.meet_head.Goals as goal

pub meet_mirror-requires-clause-facing : goal.meet_mirror-requires-clause-facing
meet_mirror-requires-clause-facing c =
    let low = head_entry c.args.s.now.lists.now c.args.s.now.n c.args.s.now.place.now c.args.s.now.placed c.args.head.now
    c.requires.even c.requires.inside _ _ c.if-s-x.false refl
    c.if-s-x-2.false in
    record {
      low = c.if-s-x.false;
      is = refl;
      ahead = c.if-s-x-2.false;
      other = omega (arith, c.not_lit-y.ensures, c.args.s.now.placed.even);
      mirror = c.not_lit-y.ensures;
      apart = c.if-y-x.true;
    }

pub returns : goal.returns
returns c =
    even_one c.args.s.now.lists.now c.args.s.now.n c.args.s.now.place.now c.args.s.now.placed c.args.head.now (search rules)
    c.requires.even _ _ c.if-s-x.false refl c.if-s-x-2.false
    (sym c.not_lit-y.ensures ∙ c.if-y-x.false)
