use Rattle.sections.specs.Tally.{Cleared}
use Rattle.scope.specs.Binary.{sections_of, has_mirror}
use Rattle.base.specs.Bounded.{every_of}
use mathlib.Core.Bool.{true}
use mathlib.Core.Path.{◌≡◌}
use lib.ListN.{take}
use Rattle.sections.proofs.exact.each_mirrored.Given as goal

abbrev pub invariant-loop-m : goal.invariant-loop-m
invariant-loop-m l = (every_of (has_mirror (sections_of l.s.n l.s.lists.now) l.l) (take l.m-index l.es) ≡ true) × Cleared l.es l.m-index l.tally
