use Rattle.table.proofs.FoundLaws.{solver_word, solver_word_lem}
use mathlib.Core.Path.{ap, ◌∙◌}
use Rattle.granting.proofs.GrantLaws.{next_asks, next_done, kept_done, reads_below}
use Rattle.granting.proofs.grant_index.Goals as goal

pub grant_next-requires : goal.grant_next-requires
grant_next-requires c =
    let k = next_asks _ _ _ _ c.requires.asks (solver_word_lem _ _ c.solver_of.ensures ∙ ap solver_word c.in_default.is) in
    record {
      solver_in_bounds = k.0;
      next_value = k.1.0;
      next_in_bounds = k.1.1.0;
      next_in_bounds_2 = k.1.1.1.0;
      next_lt_capacity = k.1.1.1.1.0;
      global_in_bounds = k.1.1.1.1.1.0;
      global_lt_capacity = k.1.1.1.1.1.1.0;
      at_in_bounds = k.1.1.1.1.1.1.1;
    }

pub returns-in_default : goal.returns-in_default
returns-in_default c =
    let none = solver_word_lem _ _ c.solver_of.ensures ∙ ap solver_word c.in_default.is in
    let asks = c.requires.asks in
    let n = c.grant_next.ensures in
    let k = next_done _ _ _ _ _ _ _ _ _ _ _ _ _ _ _ (reads_below _ _ _ _ asks) none (next_asks _ _ _ _ asks none).1.0
    (n.solver_value, (n.counts_value, (n.at_value, (n.sg_value, (n.gs_value, (n.assignment_value, n.fills)))))) in
    record { by_index = k.0; by_index_2 = k.1 }

pub returns : goal.returns
returns c =
    let k = kept_done _ _ _ _ _ _ c.args.p.at _ c.args.notes.now (solver_word_lem _ _ c.solver_of.ensures ∙ ap solver_word c.in-Some.is) in
    record { by_index = k.0; by_index_2 = k.1 }
