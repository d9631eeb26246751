use Rattle.std.proofs.Common.{◌≡◌, ◌≤◌, Bool, ℕ, get_or}
use Rattle.base.specs.Bounded.{count}
use Rattle.table.proofs.checks.count_words.Given as goal

abbrev pub invariant-loop-i : goal.invariant-loop-i
invariant-loop-i g l =
    (l.k ≤ l.i) × ((p : ℕ → Bool) → ((x : ℕ) (b : Bool) → goal.F-post g l.test x b → b ≡ p x) → l.k ≡ count l.i (λ i. p (get_or l.xs i 0)))
