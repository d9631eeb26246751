use Prim.Native.Nat.{ℕ, ◌-◌, ◌+◌}
use mathlib.Core.Path.{◌≡◌, refl, sym, ap, ◌∙◌}
use native.Mathlib.Omega.{arith}
use lib.ListN.{set}
use lib.Seq.{sets}
use Rattle.drat.proofs.Shapes.{last_digits, last_digits_sets, last_digits_step, last_digits_none}
use Rattle.drat_write.proofs.put_digits.Goals as goal

pub loop-i-init : goal.loop-i-init
loop-i-init g c =
    let e : g.row.N - 0 ≡ g.row.N = omega arith in
    ap (λ (k : ℕ). sets (set c.args.out.now (c.args.at + g.row.N) 32) c.args.at (last_digits k c.args.n)) e

pub loop-i-preserved : goal.loop-i-preserved
loop-i-preserved g c =
    let l = c.loop-i in
    last_digits_step (g.row.N - l.i) (g.row.N - (l.i + 1)) l.rest l.out c.args.at _ (omega arith) (omega arith) ∙ l.invariant

pub returns-clause-fills : goal.returns-clause-fills
returns-clause-fills g c =
    let a = c.args in
    let l = c.loop-i in
    sym (last_digits_none (g.row.N - l.i) l.rest l.out a.at (omega arith)) ∙ l.invariant ∙ last_digits_sets g.row.N a.n a.out.now a.at (a.at + g.row.N) 32 refl
