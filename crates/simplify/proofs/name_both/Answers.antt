use Rattle.simplify.proofs.SimplifyLaws.{room_rest}
use Rattle.steps.proofs.LiteralLaws.{nameable_named}
use Rattle.simplify.proofs.name_both.Goals as goal

pub keep_rest-requires : goal.keep_rest-requires
keep_rest-requires c =
    room_rest _ _ c.args.whole.now.nameable c.args.rest.now c.requires.lits_in_bounds c.args.whole.now.assignment.now

pub rename_lits-requires-clause-named : goal.rename_lits-requires-clause-named
rename_lits-requires-clause-named c = nameable_named _ _ _ c.args.whole.now.nameable
