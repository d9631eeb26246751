-- Rename, Write, Simplify and Simplify binary with a format and a step by number.
use Rattle.std.specs.Prelude.{ℕ, Bool, List, [], Option, Some, None}
use Rattle.scope.specs.declared.ProofStep.{ProofStep}
use Rattle.scope.specs.Table.{Table}
use Rattle.scope.specs.Steps.{step_words}
use Rattle.scope.specs.Outcome.{Outcome}
use Rattle.scope.specs.Write.{rename_of, write_of}
use Rattle.scope.specs.Simplify.{simplify_of}
use Rattle.scope.specs.Binary.{binary_of}
use Rattle.numbers.specs.declared.HzStep.{HzStep}
use Rattle.numbers.specs.Numbers.{for_known, format_for, step_for}

abbrev pub step_given : HzStep → Option ProofStep
step_given step = step_for step.kind step.a step.b

-- a step in words, by what it stands for
abbrev pub words_at : Option ProofStep → List ℕ
words_at (Some s) = step_words s
words_at None = []

unfoldable pub rename_at : HzStep → Table → Bool → List ℕ → List ℕ → ℕ → ℕ → Outcome
rename_at step t solver_vars lits hashes outs hash_outs =
    for_known (step_given step) t (λ s. rename_of t s solver_vars lits hashes outs hash_outs)

unfoldable pub write_at : ℕ → HzStep → Table → Bool → List ℕ → List ℕ → ℕ → Outcome
write_at format step t solver_vars lits hashes room =
    for_known (format_for format) t (λ f. for_known (step_given step) t (λ s. write_of f t s solver_vars lits hashes room))

unfoldable pub simplify_at : ℕ → Table → List ℕ → Bool → ℕ → ℕ → Outcome
simplify_at format t lits redundant outs room = for_known (format_for format) t (λ f. simplify_of f t lits redundant outs room)

unfoldable pub binary_at : ℕ → Table → List ℕ → ℕ → ℕ → Outcome
binary_at format t lists outs room = for_known (format_for format) t (λ f. binary_of f t lists outs room)
