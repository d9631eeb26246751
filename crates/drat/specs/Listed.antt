-- The call that writes a whole proof from the three lists that the reader fills: what it answers, and the bytes that it fills.
use Rattle.std.specs.Prelude.{ℕ, List, [], ◌∷◌, Bool, ◌&&◌, ◌||◌, not, eqb, leb, ltb, length, get_or}
use Rattle.base.specs.Choice.{pick}
use Rattle.base.specs.Bounded.{all_below}
use Rattle.base.specs.Answer.{refused}
use Rattle.drat.specs.Grammar.{Step, step_of, encode}
use Rattle.drat.specs.Writing.{Writing, part, codes_test, fitted}
use Rattle.drat.specs.declared.Kind.{Kind}
use Rattle.drat.specs.declared.Kind.TheVariants.{Add, Delete}
use Rattle.drat.specs.declared.Format.{Format}

-- 0 is an add, 1 a delete.
abbrev pub kind_at : ℕ → Kind
kind_at n = pick (eqb n 0) Add Delete

-- The steps whose literals stand one after another among the codes, the next one's from n on, by each step's end and kind.
unfoldable pub listed : List ℕ → ℕ → List ℕ → List ℕ → List Step
listed codes n [] ks = []
listed codes n (e ∷ es) [] = []
listed codes n (e ∷ es) (k ∷ ks) = step_of (kind_at k) (part n e codes) ∷ listed codes e es ks

-- The ends do not fall, from n on, and the last is m.
unfoldable pub rises_to : ℕ → ℕ → List ℕ → Bool
rises_to m n [] = eqb n m
rises_to m n (e ∷ es) = leb n e && rises_to m e es

-- Every kind is 0 or 1.
abbrev pub kinds_test : List ℕ → Bool
kinds_test ks = all_below (length ks) (λ i. ltb (get_or ks i 0) 2)

-- The lists are no proof: a code is too large, there is not one end to each kind, the ends do not lead through all codes, or a kind is unknown.
abbrev pub unlisted : List ℕ → List ℕ → List ℕ → Bool
unlisted codes es ks = not (codes_test codes) || (not (eqb (length es) (length ks)) || (not (rises_to (length codes) 0 es) || not (kinds_test ks)))

-- The steps of the lists, from the start of an output of `room` bytes: 3, 2.
abbrev pub write_all_of : Format → List ℕ → List ℕ → List ℕ → ℕ → Writing
write_all_of f codes es ks room = pick (unlisted codes es ks) (record { answer = refused 3 []; bytes = [] }) (fitted (encode f (listed codes 0 es ks)) room 0)
