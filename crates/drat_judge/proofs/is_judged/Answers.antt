use mathlib.Core.Bool.{Bool, ◌&&◌}
use mathlib.Core.Path.{ap, ◌∙◌}
use lib.ListN.{length}
use native.Mathlib.Omega.{arith}
use Rattle.drat_judge.proofs.RunsLaws.{ended_done}
use Rattle.drat_judge.proofs.is_judged.Goals as goal

pub returns-then-n-lt4 : goal.returns-then-n-lt4
returns-then-n-lt4 c =
    let a = c.args in
    let s = a.s.now in
    let h = c.head_runs in
    let ra = c.byte_back-a in
    let rb = c.byte_back-b in
    let rc = c.byte_back-c in
    let rp = c.byte_back in
    ap (λ (t : Bool). h.result && t)
    (c.is_end.ensures
    ∙ ended_done a.f s (length s) ra.result rb.result rc.result rp.result (omega arith) ra.ensures rb.ensures rc.ensures rp.ensures)
    ∙ h.ensures
