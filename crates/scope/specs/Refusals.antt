-- The refusals of document 01 by their numbers, and what a call says that may be refused.
use Rattle.std.specs.Prelude.{ℕ, Ok, Err, Result}
use Rattle.scope.specs.declared.Counts.{Counts}
use Rattle.scope.specs.declared.Refusal.{Refusal}
use Rattle.scope.specs.declared.Refusal.TheVariants.{Unsound, Short, OutOfRange, NotSampled, NoRoom, Deleted, Assumed, NotHeld, HasValue, BadSize, NotInDrat, FewUnknown, Unmatched, BadLists, StillAssumed}

abbrev pub number : Refusal → ℕ
number Unsound = 1
number Short = 2
number OutOfRange = 3
number NotSampled = 4
number NoRoom = 5
number Deleted = 6
number Assumed = 7
number NotHeld = 8
number HasValue = 9
number BadSize = 10
number NotInDrat = 11
number FewUnknown = 12
number Unmatched = 14
number BadLists = 15
number StillAssumed = 16

-- its refusal, 0 for none
abbrev pub refused_by : {A : Type 0} → Result A Refusal → ℕ
refused_by (Ok _) = 0
refused_by (Err r) = number r

-- the counts that it answers: those given, if it is refused
abbrev pub or_counts : Counts → Result Counts Refusal → Counts
or_counts c (Ok d) = d
or_counts c (Err r) = c
