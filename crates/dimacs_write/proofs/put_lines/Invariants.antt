use Prim.Native.Nat.{◌+◌}
use mathlib.Core.Path.{◌≡◌}
use mathlib.Core.Bool.{true}
use lib.Seq.{sets}
use lib.ListN.{length, drop}
use Rattle.drat.specs.Listed.{rises_to}
use Rattle.dimacs.specs.Cnf.{clause_lines}
use Rattle.dimacs.specs.Calls.{clauses_by}
use Rattle.dimacs_write.proofs.put_lines.Given as goal

abbrev pub invariant-loop-end : goal.invariant-loop-end
invariant-loop-end l =
    (rises_to (length l.codes) l.a (drop l.end-index l.ends) ≡ true)
    × (l.at + length (clause_lines (clauses_by l.codes l.a (drop l.end-index l.ends))) ≡ l.start + length (clause_lines (clauses_by l.codes 0 l.ends)))
    × (sets l.out l.at (clause_lines (clauses_by l.codes l.a (drop l.end-index l.ends))) ≡ sets l.initial.out l.start (clause_lines (clauses_by l.codes 0 l.ends)))
