-- Judging by neighbours: bytes are whole steps where each byte may stand after the four before it and the last ones end a step.
-- And how many literals and steps they are, by counting bytes.
use Rattle.std.specs.Prelude.{ℕ, ◌+◌, ◌-◌, ◌*◌, Bool, ◌&&◌, ◌||◌, not, List, [], ◌∷◌, eqb, leb, ltb, get_or, drop}
use Rattle.base.specs.Choice.{pick}
use Rattle.drat.specs.Numeral.{in_range, digit}
use Rattle.drat.specs.Reading.{sep}
use Rattle.drat.specs.declared.Format.{Format}
use Rattle.drat.specs.declared.Format.TheVariants.{Text, Binary}

-- ---- numbers: x is the byte in question and a b c p are the four before it

-- A digit, in text that was judged up to there: of the bytes above the digits only `d` is in it, and no digit stands directly after a `d`.
abbrev pub near : ℕ → Bool
near x = in_range 48 127 x

-- The digit x makes no number above 4096: it is the fourth digit or an earlier one, and of four the first is at most 4, and at most 3
-- where the other three are above 096.
unfoldable pub small : ℕ → ℕ → ℕ → ℕ → ℕ → Bool
small a b c p x =
    (not (near b) || (not (near c) || not (near p)))
    || (not (near a) && leb b (52 - pick (in_range 49 127 c || (eqb p 57 && in_range 55 127 x)) 1 0))

-- p is a closing 0: no digit is before it.
abbrev pub closing : ℕ → ℕ → Bool
closing c p = eqb p 48 && not (near c)

-- ---- text. Every byte is a digit, a minus, a `d` or a separator there.

-- A separator, in text that was judged up to there.
abbrev pub low : ℕ → Bool
low p = not (in_range 45 127 p)

-- a b c and a separator end with a closing 0 and one or two separators; c is one of them if it is no digit, since a separator stands
-- after no minus.
abbrev pub closed : ℕ → ℕ → ℕ → Bool
closed a b c = closing b c || (not (near c) && closing a b)

-- A digit makes no number above 4096 and stands after no `d` and no closing 0.
abbrev pub digit_next : ℕ → ℕ → ℕ → ℕ → ℕ → Bool
digit_next a b c p x = digit x && (small a b c p x && not (eqb p 100 || closing c p))

-- A minus stands after a separator, a `d` after a closing 0 and one or two of them.
abbrev pub mark_next : ℕ → ℕ → ℕ → ℕ → ℕ → Bool
mark_next a b c p x = low p && (eqb x 45 || (eqb x 100 && closed a b c))

-- A separator stands anywhere, but after a minus stands a digit that is not 0.
unfoldable pub text_next : ℕ → ℕ → ℕ → ℕ → ℕ → Bool
text_next a b c p x = (digit_next a b c p x || (sep x || mark_next a b c p x)) && (not (eqb p 45) || in_range 49 127 x)

-- ---- both formats

-- In binary: after a step's end a letter; after another last byte of a code, or a letter, any byte but 1; after a first of two bytes
-- one that makes it a code of 128 to 8193.
unfoldable pub binary_next : ℕ → ℕ → Bool
binary_next p x =
    pick (ltb p 128) (pick (eqb p 0) (eqb x 97 || eqb x 100) (not (eqb x 1)))
    (in_range 1 64 x && (ltb x 64 || leb p 129))

abbrev pub may_follow : Format → ℕ → ℕ → ℕ → ℕ → ℕ → Bool
may_follow Text a b c p x = text_next a b c p x
may_follow Binary a b c p x = binary_next p x

-- a b c p end a step: a closing 0, or one and one or two separators; byte 0.
abbrev pub ended : Format → ℕ → ℕ → ℕ → ℕ → Bool
ended Text a b c p = closing c p || (low p && closed a b c)
ended Binary a b c p = eqb p 0

-- Each byte of l may follow the four before it, which for the first are a b c p, and the last ones end a step.
unfoldable pub runs : Format → ℕ → ℕ → ℕ → ℕ → List ℕ → Bool
runs f a b c p [] = ended f a b c p
runs f a b c p (x ∷ l) = may_follow f a b c p x && runs f b c p x l

-- What stands d places before the first byte, as if a step ended there: a closing 0 between line feeds; byte 0.
abbrev pub before : Format → ℕ → ℕ
before Text d = pick (eqb d 2) 48 10
before Binary d = 0

abbrev pub judged : Format → List ℕ → Bool
judged f l = runs f (before f 4) (before f 3) (before f 2) (before f 1) l

-- How many bytes of l are from lo to hi.
unfoldable pub tally : ℕ → ℕ → List ℕ → ℕ
tally lo hi [] = 0
tally lo hi (x ∷ l) = pick (in_range lo hi x) 1 0 + tally lo hi l

-- How many of them stand directly after a separator of text; p is the byte before the first.
unfoldable pub starts : ℕ → ℕ → ℕ → List ℕ → ℕ
starts lo hi p [] = 0
starts lo hi p (x ∷ l) = pick (ltb p 45 && in_range lo hi x) 1 0 + starts lo hi x l

-- In text each step has one closing 0, and literals and closing 0s begin with a minus or a digit. In binary each step has one 0,
-- and each literal, each letter and each 0 one byte below 128.
abbrev pub steps_by : Format → List ℕ → ℕ
steps_by Text l = starts 48 48 10 l
steps_by Binary l = tally 0 0 l

abbrev pub lits_by : Format → List ℕ → ℕ
lits_by Text l = starts 45 99 10 l - starts 48 48 10 l
lits_by Binary l = tally 0 127 l - 2 * tally 0 0 l

-- The byte k places before place i; the judging from place i on.
abbrev pub byte_back : Format → List ℕ → ℕ → ℕ → ℕ
byte_back f s i k = pick (ltb i k) (before f (k - i)) (get_or s (i - k) 0)

abbrev pub runs_at : Format → List ℕ → ℕ → Bool
runs_at f s i = runs f (byte_back f s i 4) (byte_back f s i 3) (byte_back f s i 2) (byte_back f s i 1) (drop i s)
