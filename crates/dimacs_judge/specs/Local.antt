-- Judging by neighbours: bytes are clause lines where each may stand after the four before it and the last is a line feed.
-- And how many literals and clauses they are, by counting bytes.
use Rattle.std.specs.Prelude.{ℕ, ◌-◌, Bool, ◌&&◌, ◌||◌, not, List, [], ◌∷◌, eqb, get_or, drop}
use Rattle.base.specs.Choice.{pick}
use Rattle.drat.specs.Numeral.{in_range, digit}
use Rattle.drat_judge.specs.Local.{near, closing}
use Rattle.dimacs_judge.specs.declared.limit.Limit.{Limit}
use Rattle.dimacs_judge.specs.Limits.{above}

-- x is the byte in question and a b c p are the four before it.
-- A digit, a line feed, after a digit a blank and after another byte a minus.
abbrev pub known : ℕ → ℕ → Bool
known p x = digit x || (eqb x 10 || pick (near p) (eqb x 32) (eqb x 45))

-- After a minus no 0 and no minus; a line feed after a closing 0 and nowhere else.
unfoldable pub line_next : ℕ → ℕ → ℕ → Bool
line_next c p x = known p x && (not (eqb p 45 && not (in_range 49 127 x)) && pick (eqb x 10) (closing c p) (not (closing c p)))

-- And no number is above the limit.
unfoldable pub may_follow : Limit → ℕ → ℕ → ℕ → ℕ → ℕ → Bool
may_follow t a b c p x = line_next c p x && not (above t a b c p x)

-- Each byte of l may follow the four before it, which for the first are a b c p, and the last is a line feed.
unfoldable pub runs : Limit → ℕ → ℕ → ℕ → ℕ → List ℕ → Bool
runs t a b c p [] = eqb p 10
runs t a b c p (x ∷ l) = may_follow t a b c p x && runs t b c p x l

-- The judging from place i on.
abbrev pub runs_at : Limit → List ℕ → ℕ → Bool
runs_at t s i = runs t (get_or s (i - 4) 0) (get_or s (i - 3) 0) (get_or s (i - 2) 0) (get_or s (i - 1) 0) (drop i s)
