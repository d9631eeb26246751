use mathlib.Core.Path.{◌≡◌}
use mathlib.Core.Bool.{false}
use lib.ListN.{drop}
use Rattle.dimacs.specs.Reading.{header_place}
use Rattle.dimacs_read.proofs.heading.header_place.Given as goal

abbrev pub invariant-loop-i : goal.invariant-loop-i
invariant-loop-i l = header_place false 0 l.s ≡ header_place l.inside l.i (drop l.i l.s)
