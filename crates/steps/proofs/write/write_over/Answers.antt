use Rattle.steps.proofs.WriteLaws.{laid_short, laid_whole}
use Rattle.steps.proofs.LiteralLaws.{names_codes, names_part, names_given}
use Rattle.steps.proofs.write.write_over.Goals as goal

pub bytes_len-n-requires-clause-codes : goal.bytes_len-n-requires-clause-codes
bytes_len-n-requires-clause-codes c =
    (names_given c.args.gs.now c.args.solvervars c.args.lits.now _ _ c.requires.lits_in_bounds
    c.rename_lits.ensures c.requires.nameable.few (names_codes c.args.gs.now c.args.solvervars
    c.args.lits.now c.requires.nameable.small c.requires.nameable.codes)).0

pub returns-then-out-n-clause-value : goal.returns-then-out-n-clause-value
returns-then-out-n-clause-value c =
    (laid_short c.args.f c.args.writes _ _ _ _ (names_part c.args.gs.now c.args.solvervars c.args.lits.now _ _
    c.requires.lits_in_bounds c.rename_lits.ensures) c.bytes_len-n.ensures.value c.if-out-n.true).0

pub returns-then-out-n-clause-out : goal.returns-then-out-n-clause-out
returns-then-out-n-clause-out c =
    (laid_short c.args.f c.args.writes _ _ _ _ (names_part c.args.gs.now c.args.solvervars c.args.lits.now _ _
    c.requires.lits_in_bounds c.rename_lits.ensures) c.bytes_len-n.ensures.value c.if-out-n.true).1

pub put_bytes-requires-clause-codes : goal.put_bytes-requires-clause-codes
put_bytes-requires-clause-codes c =
    (names_given c.args.gs.now c.args.solvervars c.args.lits.now _ _ c.requires.lits_in_bounds
    c.rename_lits.ensures c.requires.nameable.few (names_codes c.args.gs.now
    c.args.solvervars c.args.lits.now c.requires.nameable.small c.requires.nameable.codes)).0

pub returns-clause-value : goal.returns-clause-value
returns-clause-value c =
    (laid_whole c.args.f c.args.writes _ _ _ _ _ (names_part c.args.gs.now c.args.solvervars c.args.lits.now _ _
    c.requires.lits_in_bounds c.rename_lits.ensures)
    c.bytes_len-n.ensures.value c.if-out-n.false
    c.put_bytes.ensures.fills).0

pub returns-clause-out : goal.returns-clause-out
returns-clause-out c =
    (laid_whole c.args.f c.args.writes _ _ _ _ _ (names_part c.args.gs.now c.args.solvervars c.args.lits.now _ _
    c.requires.lits_in_bounds c.rename_lits.ensures)
    c.bytes_len-n.ensures.value c.if-out-n.false
    c.put_bytes.ensures.fills).1
