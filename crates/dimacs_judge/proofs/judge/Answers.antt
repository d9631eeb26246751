use Prim.Native.Nat.{◌-◌}
use mathlib.Core.Path.{◌≡◌, sym, ap, ◌∙◌}
use lib.ListN.{length, take, drop, length-drop}
use lib.Seq.{take_all}
use native.Mathlib.Omega.{arith}
use Rattle.drat_judge.specs.Local.{tally}
use Rattle.dimacs_judge.proofs.TallyLaws.{judged_counts}
use Rattle.dimacs_judge.proofs.judge.Goals as goal

pub returns : goal.returns
returns c =
    let a = c.args in
    let s = a.s.now in
    let lim = c.limit_of in
    let run = c.lines_run in
    let all : take (length s - a.from) (drop a.from s) ≡ drop a.from s = take_all (length s - a.from) (drop a.from s)
    (omega (arith, length-drop a.from s)) in
    judged_counts s a.v a.from lim.result (omega arith) lim.ensures (omega arith)
    (sym run.ensures ∙ c.if-not-lines_run.false) c.tally_of.result c.tally_of-2.result
    (c.tally_of.ensures ∙ ap (tally 32 32) all) (c.tally_of-2.ensures ∙ ap (tally 10 10) all)
