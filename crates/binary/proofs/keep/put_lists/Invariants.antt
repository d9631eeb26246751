use Rattle.scope.specs.Binary.{sections_of, section_words}
use Rattle.binary.specs.Entries.{kept_by, words_by}
use Rattle.binary.proofs.EachLaws.{from}
use lib.Seq.{sets}
use Prim.Native.Nat.{◌+◌}
use lib.ListN.{length}
use mathlib.Core.Path.{◌≡◌}
use Rattle.binary.proofs.keep.put_lists.Given as goal

abbrev pub invariant-loop-l : goal.invariant-loop-l
invariant-loop-l l =
    (l.at + length (from (λ i es. section_words (kept_by l.assignment i es)) l.s.n l.s.lists.now l.l) ≡ length (words_by l.assignment (sections_of l.s.n l.s.lists.now)))
    × (sets l.out l.at (from (λ i es. section_words (kept_by l.assignment i es)) l.s.n l.s.lists.now l.l) ≡ sets l.initial.out 0 (words_by l.assignment (sections_of l.s.n l.s.lists.now)))
