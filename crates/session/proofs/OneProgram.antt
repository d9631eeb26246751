-- The claim over programs at work: an Open of capacity 1 in memory that holds fives, then the program of Accounts.antt. Its ledger there is
-- `program_ledger`, and demand 3 holds of it.
use mathlib.Core.Path.{refl}
use mathlib.Core.List.{[], ◌∷◌}
use Rattle.drat.specs.declared.Format.TheVariants.{Text}
use Rattle.scope.specs.Table.{table_of}
use Rattle.scope.specs.Sound.{sizesb}
use Rattle.scope.specs.Notes.{notes_words}
use Rattle.scope.specs.Outcome.{unless}
use Rattle.scope.specs.Open.{open_counts, empty_table, open_of}
use Rattle.scope.specs.Contract.{Memory, Meets}
use Rattle.session.specs.Session.{start, Holds}
use Rattle.session.specs.Made.{ledger}
use Rattle.session.proofs.Accounts.{saying, keeping, program, program_met}
use Rattle.session.proofs.MadeLaws.{demand3_made}

abbrev opening : Memory
opening =
    keeping (table_of (open_counts 1) (5 ∷ []) (5 ∷ []) (5 ∷ []) (5 ∷ []) (5 ∷ []) (5 ∷ []))
    (λ c. table_of c (0 ∷ []) (0 ∷ []) (0 ∷ []) (0 ∷ []) (0 ∷ []) (47 ∷ [])) [] []

open_met : Meets (λ t room. open_of t) (saying [] (open_counts 1)) opening
unfolding notes_words open_of unless sizesb empty_table
open_met = record { answer = refl; table = refl; noted = refl }

pub one_program : Holds Text (ledger (start (empty_table 1)) program)
unfolding empty_table
one_program = demand3_made Text (saying [] (open_counts 1)) opening [] open_met refl program program_met
