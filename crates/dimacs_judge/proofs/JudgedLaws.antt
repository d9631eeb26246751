-- Bytes that are judged are clause lines: an induction over the bytes, with a claim for each state that the last four bytes can be in.
use Prim.Native.Nat.{ℕ, ◌+◌, ◌-◌, ◌*◌, ◌≤◌, ◌<◌}
use mathlib.Core.Bool.{true}
use mathlib.Core.List.{List, [], ◌∷◌, ◌++◌, append_assoc}
use mathlib.Core.Path.{◌≡◌, refl, sym, ap, ◌∙◌, subst, subst₂}
use native.Mathlib.Omega.{arith}
use Rattle.drat.specs.Grammar.{Signed, plus, minus}
use Rattle.drat.specs.Numeral.{decimal, Numeral}
use Rattle.dimacs.specs.Cnf.{magnitude, Line, closed, lit, Lines, none, line}
use Rattle.dimacs_judge.specs.declared.limit.Limit.{Limit}
use Rattle.dimacs_judge.specs.Limits.{LimitOf}
use Rattle.drat_judge.proofs.NumberLaws.{digit_one, digit_more, NumberHere, with_digit_lem, with_rest}
use Rattle.dimacs_judge.specs.Local.{may_follow, runs}
use Rattle.dimacs_judge.proofs.NextLaws.{runs_cons, runs_end, First, closes, negative, begins, After, blank, further}
use Rattle.dimacs_judge.proofs.NextLaws.{after_start, after_minus, after_zero, after_first, after_second, after_third, after_fourth}

-- l is clause lines
pub record LinesHere (v : ℕ) (l : List ℕ) : Type 0 where
  pub cls : List (List ℕ)
  pub spelled : Lines v l cls

-- l is the rest of a clause line, and then clause lines
record LineHere (v : ℕ) (l : List ℕ) : Type 0 where
  bytes : List ℕ
  rest : List ℕ
  cs : List ℕ
  split : l ≡ bytes ++ rest
  spelled : Line v bytes cs
  then : LinesHere v rest

-- l is a blank, and then the rest of a clause line and clause lines
record BlankHere (v : ℕ) (l : List ℕ) : Type 0 where
  rest : List ℕ
  split : l ≡ 32 ∷ rest
  then : LineHere v rest

-- the rest of a number after its digits ds, and then a blank and a line's rest
abbrev Digits : ℕ → List ℕ → List ℕ → Type 0
Digits v ds l = NumberHere v (BlankHere v) ds l

-- ---- putting bytes in front
with_line : (v : ℕ) (l : List ℕ) → LineHere v l → LinesHere v l
with_line v l b =
    record {
      cls = b.cs ∷ b.then.cls;
      spelled = subst (λ (m : List ℕ). Lines v m (b.cs ∷ b.then.cls)) (sym b.split)
          (line b.spelled b.then.spelled);
    }

with_end : (v : ℕ) (l : List ℕ) → LinesHere v l → LineHere v (48 ∷ 10 ∷ l)
with_end v l s = record { bytes = 48 ∷ 10 ∷ []; rest = l; cs = []; split = refl; spelled = closed; then = s }

with_signed : (v : ℕ) (bs l : List ℕ) (c : ℕ) → Signed bs c → magnitude c ≤ v → BlankHere v l → LineHere v (bs ++ l)
with_signed v bs l c n h k =
    let b = k.then in
    record {
      bytes = bs ++ 32 ∷ b.bytes;
      rest = b.rest;
      cs = c ∷ b.cs;
      split = ap (λ (m : List ℕ). bs ++ m) k.split ∙ ap (λ (m : List ℕ). bs ++ 32 ∷ m) b.split ∙ sym (append_assoc bs (32 ∷ b.bytes) b.rest);
      spelled = lit n h b.spelled;
      then = b.then;
    }

positive : (v : ℕ) → v ≤ 4096 → (l : List ℕ) → Digits v [] l → LineHere v l
positive v hv l n =
    let s = n.small in
    subst (LineHere v) (sym n.split)
    (with_signed v n.digits n.rest (2 * n.index) (plus (omega (arith, s)) n.spelled) (omega (arith, s)) n.then)

negated : (v : ℕ) → v ≤ 4096 → (l : List ℕ) → Digits v [] l → LineHere v (45 ∷ l)
negated v hv l n =
    let s = n.small in
    subst (LineHere v) (ap (λ (m : List ℕ). 45 ∷ m) (sym n.split))
    (with_signed v (45 ∷ n.digits) n.rest (2 * n.index + 1) (minus (omega (arith, s)) n.spelled) (omega (arith, s)) n.then)

-- ---- what l must be where the bytes before it end so
module _ (v : ℕ) (t : Limit) (hv : v ≤ 4096) (lim : LimitOf v t) where
  record Here (l : List ℕ) : Type 0 where
    start : (a b c : ℕ) → runs t a b c 10 l ≡ true → LinesHere v l
    item : (a b c : ℕ) → runs t a b c 32 l ≡ true → LineHere v l
    zero : (a b c : ℕ) → c < 48 → runs t a b c 48 l ≡ true → (m : List ℕ) × (l ≡ 10 ∷ m) × LinesHere v m
    sign : (a b c : ℕ) → runs t a b c 45 l ≡ true → Digits v [] l
    first : (a b c p : ℕ) → c < 48 → 49 ≤ p → p ≤ 57 → runs t a b c p l ≡ true → (ds : List ℕ) → Numeral decimal ds (p - 48) → p - 48 ≤ v → Digits v ds l
    second : (a b c p : ℕ) → b < 48 → 48 ≤ c → c ≤ 57 → 48 ≤ p → p ≤ 57 → runs t a b c p l ≡ true → (ds : List ℕ)
        → Numeral decimal ds (10 * (c - 48) + (p - 48)) → 10 * (c - 48) + (p - 48) ≤ v → Digits v ds l
    third : (a b c p : ℕ) → 48 ≤ b → b ≤ 57 → 48 ≤ c → c ≤ 57 → 48 ≤ p → p ≤ 57 → runs t a b c p l ≡ true → (ds : List ℕ)
        → Numeral decimal ds (10 * (10 * (b - 48) + (c - 48)) + (p - 48)) → 10 * (10 * (b - 48) + (c - 48)) + (p - 48) ≤ v → Digits v ds l
    fourth : (a b c p : ℕ) → 48 ≤ a → a ≤ 57 → 48 ≤ b → b ≤ 57 → 48 ≤ c → c ≤ 57 → 48 ≤ p → p ≤ 57 → runs t a b c p l ≡ true → (ds : List ℕ) (n : ℕ)
        → Numeral decimal ds n → n ≤ v → Digits v ds l

  -- the bytes end
  here_none : Here []
  here_none =
      record {
        start = λ a b c e. record { cls = []; spelled = none };
        item = λ a b c e. absurd (omega (arith, runs_end t a b c 32 e));
        zero = λ a b c k e. absurd (omega (arith, runs_end t a b c 48 e));
        sign = λ a b c e. absurd (omega (arith, runs_end t a b c 45 e));
        first = λ a b c p q h k e ds n m. absurd (omega (arith, runs_end t a b c p e, h));
        second = λ a b c p q h k i j e ds n m. absurd (omega (arith, runs_end t a b c p e, i));
        third = λ a b c p q r h k i j e ds n m. absurd (omega (arith, runs_end t a b c p e, i));
        fourth = λ a b c p q r y z h k i j e ds u n m. absurd (omega (arith, runs_end t a b c p e, i));
      }

  module _ (x : ℕ) (l : List ℕ) (h : Here l) where
    -- x stands where a number or the closing 0 may begin
    begun : (b c q : ℕ) → q < 45 → runs t b c q x l ≡ true → First v x → LineHere v (x ∷ l)
    begun b c q k e (closes z) =
        let r = h.zero b c q (omega arith) (subst (λ (y : ℕ). runs t b c q y l ≡ true) z e) in
        subst₂ (λ (y : ℕ) (m : List ℕ). LineHere v (y ∷ m)) (sym z) (sym r.1) (with_end v r.0 r.2)
    begun b c q k e (negative z) =
        subst (λ (y : ℕ). LineHere v (y ∷ l)) (sym z) (negated v hv l (h.sign b c q (subst (λ (y : ℕ). runs t b c q y l ≡ true) z e)))
    begun b c q k e (begins y z w) =
        positive v hv (x ∷ l) (with_digit_lem [] x l (h.first b c q x (omega arith) y z e (x ∷ []) (digit_one x y z) w))

    -- a blank stands after a number
    ended : (b c p n : ℕ) (ds : List ℕ) → runs t b c p x l ≡ true → Numeral decimal ds n → n ≤ v → x ≡ 32 → Digits v ds (x ∷ l)
    ended b c p n ds e d m z =
        with_rest ds (x ∷ l) n d m
        (record { rest = l; split = ap (λ (y : ℕ). y ∷ l) z; then = h.item b c p (subst (λ (y : ℕ). runs t b c p y l ≡ true) z e) })

    here_start : (a b c : ℕ) → runs t a b c 10 (x ∷ l) ≡ true → LinesHere v (x ∷ l)
    here_start a b c e =
        let r = runs_cons t a b c 10 x l e in
        with_line v (x ∷ l) (begun b c 10 (omega arith) r.1 (after_start v t hv lim a b c 10 x r.0 (omega arith)))

    here_item : (a b c : ℕ) → runs t a b c 32 (x ∷ l) ≡ true → LineHere v (x ∷ l)
    here_item a b c e =
        let r = runs_cons t a b c 32 x l e in begun b c 32 (omega arith) r.1 (after_start v t hv lim a b c 32 x r.0 (omega arith))

    here_zero : (a b c : ℕ) → c < 48 → runs t a b c 48 (x ∷ l) ≡ true → (m : List ℕ) × (x ∷ l ≡ 10 ∷ m) × LinesHere v m
    here_zero a b c k e =
        let r = runs_cons t a b c 48 x l e in
        let z = after_zero v t hv lim a b c 48 x r.0 refl k in
        (l, ap (λ (y : ℕ). y ∷ l) z, h.start b c 48 (subst (λ (y : ℕ). runs t b c 48 y l ≡ true) z r.1))

    here_sign : (a b c : ℕ) → runs t a b c 45 (x ∷ l) ≡ true → Digits v [] (x ∷ l)
    here_sign a b c e =
        let r = runs_cons t a b c 45 x l e in
        let z = after_minus v t hv lim a b c 45 x r.0 refl in
        with_digit_lem [] x l (h.first b c 45 x (omega arith) z.0 z.1 r.1 (x ∷ []) (digit_one x z.0 z.1) z.2)

    here_first : (a b c p : ℕ) → c < 48 → 49 ≤ p → p ≤ 57 → runs t a b c p (x ∷ l) ≡ true → (ds : List ℕ) → Numeral decimal ds (p - 48) → p - 48 ≤ v
        → Digits v ds (x ∷ l)
    here_first a b c p k i j e ds d m = go (after_first v t hv lim a b c p x r.0 (omega arith) j i k)
      where
        r : (may_follow t a b c p x ≡ true) × (runs t b c p x l ≡ true)
        r = runs_cons t a b c p x l e

        go : After v (p - 48) x → Digits v ds (x ∷ l)
        go (blank z) = ended b c p (p - 48) ds r.1 d m z
        go (further y z w) = with_digit_lem ds x l (h.second b c p x k (omega arith) j y z r.1 (ds ++ x ∷ []) (digit_more ds (p - 48) x y z d) w)

    here_second : (a b c p : ℕ) → b < 48 → 48 ≤ c → c ≤ 57 → 48 ≤ p → p ≤ 57 → runs t a b c p (x ∷ l) ≡ true → (ds : List ℕ)
        → Numeral decimal ds (10 * (c - 48) + (p - 48)) → 10 * (c - 48) + (p - 48) ≤ v → Digits v ds (x ∷ l)
    here_second a b c p o kc lc kp lp e ds d m = go (after_second v t hv lim a b c p x r.0 kp lp kc lc o)
      where
        r : (may_follow t a b c p x ≡ true) × (runs t b c p x l ≡ true)
        r = runs_cons t a b c p x l e

        n : ℕ
        n = 10 * (c - 48) + (p - 48)

        go : After v (10 * (c - 48) + (p - 48)) x → Digits v ds (x ∷ l)
        go (blank z) = ended b c p n ds r.1 d m z
        go (further y z w) = with_digit_lem ds x l (h.third b c p x kc lc kp lp y z r.1 (ds ++ x ∷ []) (digit_more ds n x y z d) w)

    here_third : (a b c p : ℕ) → 48 ≤ b → b ≤ 57 → 48 ≤ c → c ≤ 57 → 48 ≤ p → p ≤ 57 → runs t a b c p (x ∷ l) ≡ true → (ds : List ℕ)
        → Numeral decimal ds (10 * (10 * (b - 48) + (c - 48)) + (p - 48)) → 10 * (10 * (b - 48) + (c - 48)) + (p - 48) ≤ v → Digits v ds (x ∷ l)
    here_third a b c p kb lb kc lc kp lp e ds d m = go (after_third v t hv lim a b c p x r.0 kp lp kc lc kb lb)
      where
        r : (may_follow t a b c p x ≡ true) × (runs t b c p x l ≡ true)
        r = runs_cons t a b c p x l e

        n : ℕ
        n = 10 * (10 * (b - 48) + (c - 48)) + (p - 48)

        go : After v (10 * (10 * (b - 48) + (c - 48)) + (p - 48)) x → Digits v ds (x ∷ l)
        go (blank z) = ended b c p n ds r.1 d m z
        go (further y z w) =
            with_digit_lem ds x l (h.fourth b c p x kb lb kc lc kp lp y z r.1 (ds ++ x ∷ []) (10 * n + (x - 48)) (digit_more ds n x y z d) w)

    here_fourth : (a b c p : ℕ) → 48 ≤ a → a ≤ 57 → 48 ≤ b → b ≤ 57 → 48 ≤ c → c ≤ 57 → 48 ≤ p → p ≤ 57 → runs t a b c p (x ∷ l) ≡ true → (ds : List ℕ) (n : ℕ)
        → Numeral decimal ds n → n ≤ v → Digits v ds (x ∷ l)
    here_fourth a b c p ka la kb lb kc lc kp lp e ds n d m =
        let r = runs_cons t a b c p x l e in
        ended b c p n ds r.1 d m (after_fourth v t hv lim a b c p x r.0 kp lp kc lc kb lb ka la)

  here : (l : List ℕ) → Here l
  here [] = here_none
  here (x ∷ l) = more_here (here l)
    where
      more_here : Here l → Here (x ∷ l)
      more_here h =
          record {
            start = here_start x l h;
            item = here_item x l h;
            zero = here_zero x l h;
            sign = here_sign x l h;
            first = here_first x l h;
            second = here_second x l h;
            third = here_third x l h;
            fourth = here_fourth x l h;
          }

  -- bytes after a line feed that are judged are clause lines
  pub judged_lines : (a b c : ℕ) (l : List ℕ) → runs t a b c 10 l ≡ true → LinesHere v l
  judged_lines a b c l e = (here l).start a b c e
