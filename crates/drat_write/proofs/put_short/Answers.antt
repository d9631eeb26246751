use Prim.Native.Nat.{ℕ, ◌+◌, ◌<◌}
use mathlib.Core.Path.{◌≡◌, sym, ap, ◌∙◌}
use native.Mathlib.Omega.{arith}
use lib.Seq.{sets}
use lib.ListN.{length, get_or, set, drop, length-set}
use Rattle.drat.proofs.Shapes.{short_sets}
use Rattle.drat.proofs.Steps.{numbers_done}
use Rattle.drat.specs.Grammar.{numbers}
use Rattle.drat.specs.declared.Format.TheVariants.{Binary}
use Rattle.drat_write.proofs.put_short.Goals as goal

pub loop-i-preserved : goal.loop-i-preserved
loop-i-preserved c =
    let a = c.args in
    let l = c.loop-i in
    let h : l.i < length a.lits.now = omega arith in
    let e : a.at + (l.i + 1) ≡ a.at + l.i + 1 = omega arith in (
      omega arith,
      simp length-set l.invariant.1,
      ap (λ (p : ℕ). sets (set l.out (a.at + l.i) (get_or a.lits.now l.i 0 + 2)) p (numbers Binary (drop (l.i + 1) a.lits.now))) e
          ∙ short_sets a.lits.now l.out (a.at + l.i) l.i c.requires.short h
          ∙ l.invariant.2,
    )

pub returns-clause-fills : goal.returns-clause-fills
returns-clause-fills c =
    let a = c.args in
    let l = c.loop-i in
    sym (ap (sets l.out (a.at + l.i)) (numbers_done Binary a.lits.now l.i c.loop-i-test.false)) ∙ l.invariant.2
