use Prim.Native.Nat.{ℕ, ◌-◌}
use mathlib.Core.List.{List}
use mathlib.Core.Path.{◌≡◌, ap, ◌∙◌}
use lib.Dec.{eqb}
use lib.ListN.{length, take, drop, length-drop}
use lib.Pointwise.{pointwise}
use lib.Seq.{take_all}
use native.Mathlib.Omega.{arith}
use Rattle.dimacs.specs.Cnf.{header_start}
use Rattle.dimacs_read.proofs.HeadingLaws.{starts_same}
use Rattle.dimacs_read.proofs.heading.header_starts.Goals as goal

pub returns : goal.returns
returns c =
    let a = c.args in
    let s = a.s.now in
    let all : take (length s - a.at) (drop a.at s) ≡ drop a.at s = take_all (length s - a.at) (drop a.at s) (omega (arith, length-drop a.at s)) in
    c.starts_with.ensures.value ∙ ap (λ (l : List ℕ). pointwise eqb header_start (take (length header_start) l)) all ∙ starts_same header_start (drop a.at s)
