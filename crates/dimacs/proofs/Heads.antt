-- The header's place and the header: what the grammar has is read, and what is read the grammar has.
use Prim.Native.Nat.{ℕ, zero, suc, ◌+◌, ◌≤◌}
use mathlib.Core.Path.{◌≡◌, refl, sym, ap, ap₂, ◌∙◌, subst}
use mathlib.Core.List.{List, [], ◌∷◌, ◌++◌, append_assoc}
use mathlib.Core.Bool.{Bool, true, false, ◌&&◌, not}
use native.Mathlib.Omega.{arith}
use lib.Dec.{eqb, leb}
use lib.ListN.{length, get_or, drop, length-append}
use lib.Seq.{drop_at, get_or-drop}
use borrow.Author.Tests.{eqb-true, eqb-false, eq-eqb, ne_eqb, leb-true, le-leb}
use Rattle.base.specs.Choice.{pick}
use Rattle.base.proofs.BelowLaws.{and_left, and_right}
use Rattle.drat.proofs.Sound.{first_is}
use Rattle.dimacs.specs.Cnf.{Unbroken, Comments, no_comments, comment, Count, Header, header, header_start}
use Rattle.dimacs.specs.Reading.{header_place, digits_of, value_from, proper, starts_with, head, no_head, head_by, head_from}
use Rattle.dimacs.proofs.Digits.{AllDigits, count_digits, count_value, count_proper, proper_count, digits_all, digits_split, digits_apart}

-- ---- the place

unbroken_rest : (b : ℕ) (text : List ℕ) → Unbroken (b ∷ text) → Unbroken text
unbroken_rest b text h i e = h (suc i) e

-- inside a `c` line, up to its line feed
comment_read : (text rest : List ℕ) (i : ℕ) → Unbroken text → header_place true i (text ++ 10 ∷ rest) ≡ header_place false (i + length text + 1) rest
unfolding header_place
comment_read [] rest i h = ap (λ (j : ℕ). header_place false j rest) (omega arith)
comment_read (b ∷ text) rest i h =
    rw (ne_eqb b 10 (h 0), header_place) (comment_read text rest (i + 1) (unbroken_rest b text h) ∙ ap (λ (j : ℕ). header_place false j rest) (omega arith))

at_rest : (rest : List ℕ) (i : ℕ) → (get_or rest 0 0 ≡ 99 → ⊥) → header_place false i rest ≡ i
unfolding header_place
at_rest [] i h = refl
at_rest (b ∷ rest) i h = rw (ne_eqb b 99 h)

-- over `c` lines that are closed
comments_read : {cm : List ℕ} → Comments cm → (rest : List ℕ) (i : ℕ) → header_place false i (cm ++ rest) ≡ header_place false (i + length cm) rest
unfolding header_place
comments_read no_comments rest i = ap (λ (j : ℕ). header_place false j rest) (omega arith)
comments_read (comment text {rest = r} u c) rest i =
    ap (header_place true (i + 1)) (append_assoc text (10 ∷ r) rest)
    ∙ comment_read text (r ++ rest) (i + 1) u
    ∙ comments_read c rest (i + 1 + length text + 1)
    ∙ ap (λ (j : ℕ). header_place false j rest) (omega (arith, length-append text (10 ∷ r)))

pub place_read : {cm : List ℕ} → Comments cm → (rest : List ℕ) (i : ℕ) → (get_or rest 0 0 ≡ 99 → ⊥) → header_place false i (cm ++ rest) ≡ i + length cm
place_read {cm} c rest i h = comments_read c rest i ∙ at_rest rest (i + length cm) h

-- a last `c` line that is not closed goes up to the end
unclosed_read : (text : List ℕ) (i : ℕ) → Unbroken text → header_place true i text ≡ i + length text
unfolding header_place
unclosed_read [] i h = omega arith
unclosed_read (b ∷ text) i h = rw (ne_eqb b 10 (h 0), header_place) (unclosed_read text (i + 1) (unbroken_rest b text h) ∙ omega arith)

pub end_read : {cm : List ℕ} → Comments cm → (text : List ℕ) → Unbroken text → header_place false 0 (cm ++ 99 ∷ text) ≡ length (cm ++ 99 ∷ text)
unfolding header_place
end_read {cm} c text u = comments_read c (99 ∷ text) 0 ∙ unclosed_read text (0 + length cm + 1) u ∙ omega (arith, length-append cm (99 ∷ text))

-- what stands before the place
pub data Placed (i : ℕ) (l : List ℕ) (p : ℕ) : Type 0 where
  ahead : {cm : List ℕ} (rest : List ℕ) → Comments cm → l ≡ cm ++ rest → (get_or rest 0 0 ≡ 99 → ⊥) → p ≡ i + length cm → Placed i l p
  cut : {cm : List ℕ} (text : List ℕ) → Comments cm → Unbroken text → l ≡ cm ++ 99 ∷ text → p ≡ i + length l → Placed i l p

-- the same inside a `c` line
data Inside (i : ℕ) (l : List ℕ) (p : ℕ) : Type 0 where
  over : (text : List ℕ) {rest : List ℕ} → Unbroken text → l ≡ text ++ 10 ∷ rest → Placed (i + length text + 1) rest p → Inside i l p
  unended : Unbroken l → p ≡ i + length l → Inside i l p

unbroken_nil : Unbroken []
unbroken_nil i e = omega arith

unbroken_cons : (b : ℕ) (text : List ℕ) → (b ≡ 10 → ⊥) → Unbroken text → Unbroken (b ∷ text)
unbroken_cons b text h u zero e = h e
unbroken_cons b text h u (suc i) e = u i e

place_sound : (l : List ℕ) (i : ℕ) → Placed i l (header_place false i l) × Inside i l (header_place true i l)
unfolding header_place
place_sound [] i = (ahead [] no_comments refl (λ e. omega arith) (omega arith), unended unbroken_nil (omega arith))
place_sound (b ∷ l) i = both (place_sound l (i + 1))
  where
    begun : (p : ℕ) → b ≡ 99 → Inside (i + 1) l p → Placed i (b ∷ l) p
    begun p e (over text u s (ahead {cm = cm} r c s' h q)) =
        ahead r (comment text u c) (ap₂ (λ (x : ℕ) (y : List ℕ). x ∷ y) e (s ∙ ap (λ (y : List ℕ). text ++ 10 ∷ y) s' ∙ sym (append_assoc text (10 ∷ cm) r))) h
        (omega (arith, q, length-append text (10 ∷ cm)))
    begun p e (over text {rest = rest} u s (cut {cm = cm} t c w s' q)) =
        cut t (comment text u c) w
        (ap₂ (λ (x : ℕ) (y : List ℕ). x ∷ y) e (s ∙ ap (λ (y : List ℕ). text ++ 10 ∷ y) s' ∙ sym (append_assoc text (10 ∷ cm) (99 ∷ t))))
        (omega (arith, q, ap length s ∙ length-append text (10 ∷ rest)))
    begun p e (unended u q) = cut l no_comments u (ap (λ (x : ℕ). x ∷ l) e) (omega (arith, q))

    outer : Inside (i + 1) l (header_place true (i + 1) l) → (t : Bool) → eqb b 99 ≡ t → Placed i (b ∷ l) (pick t (header_place true (i + 1) l) i)
    outer ih true e = begun (header_place true (i + 1) l) (eqb-true b 99 e) ih
    outer ih false e = ahead (b ∷ l) no_comments refl (eqb-false b 99 e) (omega arith)

    go_on : (p : ℕ) → (b ≡ 10 → ⊥) → Inside (i + 1) l p → Inside i (b ∷ l) p
    go_on p h (over text {rest = rest} u s r) =
        over (b ∷ text) (unbroken_cons b text h u) (ap (λ (y : List ℕ). b ∷ y) s) (subst (λ (j : ℕ). Placed j rest p) (omega arith) r)
    go_on p h (unended u q) = unended (unbroken_cons b l h u) (omega (arith, q))

    inner : Placed (i + 1) l (header_place false (i + 1) l) → Inside (i + 1) l (header_place true (i + 1) l) → (t : Bool) → eqb b 10 ≡ t
        → Inside i (b ∷ l) (header_place (not t) (i + 1) l)
    inner ih₁ ih₂ true e =
        over [] unbroken_nil (ap (λ (x : ℕ). x ∷ l) (eqb-true b 10 e)) (subst (λ (j : ℕ). Placed j l (header_place false (i + 1) l)) (omega arith) ih₁)
    inner ih₁ ih₂ false e = go_on (header_place true (i + 1) l) (eqb-false b 10 e) ih₂

    both : Placed (i + 1) l (header_place false (i + 1) l) × Inside (i + 1) l (header_place true (i + 1) l)
        → Placed i (b ∷ l) (pick (eqb b 99) (header_place true (i + 1) l) i) × Inside i (b ∷ l) (header_place (not (eqb b 10)) (i + 1) l)
    both ih = (outer ih.1 (eqb b 99) refl, inner ih.0 ih.1 (eqb b 10) refl)

pub placed : (l : List ℕ) → Placed 0 l (header_place false 0 l)
placed l = (place_sound l 0).0

-- ---- the header

pub starts_split : (bs l : List ℕ) → starts_with bs l ≡ true → (rest : List ℕ) × (l ≡ bs ++ rest)
unfolding starts_with
starts_split [] l h = (l, refl)
starts_split (b ∷ bs) [] h = let z : ◌≡◌ {A = ℕ} 0 1 = cc in absurd (omega arith)
starts_split (b ∷ bs) (x ∷ l) h =
    let r = starts_split bs l (and_right (eqb x b) (starts_with bs l) h) in
    (r.0, ap₂ (λ (y : ℕ) (m : List ℕ). y ∷ m) (eqb-true x b (and_left (eqb x b) (starts_with bs l) h)) r.1)

starts_with_lem : (bs l : List ℕ) → starts_with bs (bs ++ l) ≡ true
unfolding starts_with
starts_with_lem [] l = refl
starts_with_lem (b ∷ bs) l = rw (eq-eqb b b refl) (starts_with_lem bs l)

-- a list in three parts, by place
middle : (xs ys zs l : List ℕ) (a b : ℕ) → l ≡ xs ++ (ys ++ zs) → a ≡ length xs → b ≡ length xs + length ys → (drop a l ≡ ys ++ zs) × (drop b l ≡ zs)
middle xs ys zs l a b e p q = (
  ap (drop a) e ∙ drop_at xs (ys ++ zs) a (sym p),
  ap (drop b) (e ∙ sym (append_assoc xs ys zs)) ∙ drop_at (xs ++ ys) zs b (length-append xs ys ∙ sym q),
)

first_of : (l : List ℕ) (a : ℕ) → get_or l a 0 ≡ get_or (drop a l) 0 0
first_of l a = ap (λ (k : ℕ). get_or l k 0) (omega arith) ∙ sym (get_or-drop a l 0 0)

-- a header's line with its two runs of digits
module _ (vs ks rest l : List ℕ) (e : l ≡ header_start ++ (vs ++ 32 ∷ (ks ++ 10 ∷ rest))) where
  after_blank : l ≡ (header_start ++ (vs ++ 32 ∷ [])) ++ (ks ++ 10 ∷ rest)
  after_blank = e ∙ ap (λ (m : List ℕ). header_start ++ m) (sym (append_assoc vs (32 ∷ []) (ks ++ 10 ∷ rest)))

  first_part : (drop 6 l ≡ vs ++ 32 ∷ (ks ++ 10 ∷ rest)) × (drop (6 + length vs) l ≡ 32 ∷ (ks ++ 10 ∷ rest))
  first_part = middle header_start vs (32 ∷ (ks ++ 10 ∷ rest)) l 6 (6 + length vs) e refl refl

  second_part : (drop (7 + length vs) l ≡ ks ++ 10 ∷ rest) × (drop (7 + length vs + length ks) l ≡ 10 ∷ rest)
  second_part =
      let n : 7 + length vs ≡ length (header_start ++ (vs ++ 32 ∷ [])) = omega (arith, length-append vs (32 ∷ [])) in
      middle (header_start ++ (vs ++ 32 ∷ [])) ks (10 ∷ rest) l (7 + length vs) (7 + length vs + length ks) after_blank n (omega (arith, n))

  pub blank_there : get_or l (6 + length vs) 0 ≡ 32
  blank_there = first_of l (6 + length vs) ∙ ap (λ (m : List ℕ). get_or m 0 0) first_part.1

  pub feed_there : get_or l (7 + length vs + length ks) 0 ≡ 10
  feed_there = first_of l (7 + length vs + length ks) ∙ ap (λ (m : List ℕ). get_or m 0 0) second_part.1

  pub head_by_lem : AllDigits vs → AllDigits ks → (i : ℕ) → head_from i l ≡ head_by i l vs ks
  unfolding head_from
  head_by_lem hv hk i =
      let p : digits_of (drop 6 l) ≡ vs = ap digits_of first_part.0 ∙ digits_apart vs (32 ∷ (ks ++ 10 ∷ rest)) hv refl in
      let q : digits_of (drop (7 + length vs) l) ≡ ks = ap digits_of second_part.0 ∙ digits_apart ks (10 ∷ rest) hk refl in
      ap (λ (x : List ℕ). head_by i l x (digits_of (drop (7 + length x) l))) p ∙ ap (head_by i l vs) q

pub record HeadRead (hs : List ℕ) (v k : ℕ) : Type 0 where
  pub digits : List ℕ
  pub counts : Count digits k
  pub reads : (i : ℕ) (l : List ℕ) → head_from i (hs ++ l) ≡ head v digits (i + length hs)

head_line : {vs ks : List ℕ} {v k : ℕ} → Count vs v → v ≤ 4096 → Count ks k → (i : ℕ) (l : List ℕ)
    → head_from i ((header_start ++ (vs ++ 32 ∷ (ks ++ 10 ∷ []))) ++ l) ≡ head v ks (i + length (header_start ++ (vs ++ 32 ∷ (ks ++ 10 ∷ []))))
head_line {vs} {ks} {v} {k} cv small ck i l =
    let m = (header_start ++ (vs ++ 32 ∷ (ks ++ 10 ∷ []))) ++ l in
    let e : m ≡ header_start ++ (vs ++ 32 ∷ (ks ++ 10 ∷ l)) =
    ap (λ (x : List ℕ). header_start ++ x) (append_assoc vs (32 ∷ (ks ++ 10 ∷ [])) l ∙ ap (λ (x : List ℕ). vs ++ 32 ∷ x) (append_assoc ks (10 ∷ []) l)) in
    let n : i + (8 + length vs + length ks) ≡ i + length (header_start ++ (vs ++ 32 ∷ (ks ++ 10 ∷ []))) =
    omega (arith, length-append vs (32 ∷ (ks ++ 10 ∷ [])), length-append ks (10 ∷ [])) in
    head_by_lem vs ks l m e (count_digits cv) (count_digits ck) i
    ∙ rw (
      starts_with_lem header_start ((vs ++ 32 ∷ (ks ++ 10 ∷ [])) ++ l),
      count_proper cv,
      count_proper ck,
      count_value cv,
      le-leb v 4096 small,
      blank_there vs ks l m e,
      feed_there vs ks l m e,
      n,
    )

pub head_read : {hs : List ℕ} {v k : ℕ} → Header hs v k → HeadRead hs v k
head_read (header {ks = ks} cv small ck) = record { digits = ks; counts = ck; reads = head_line cv small ck }

pub record HeadSound (i : ℕ) (l : List ℕ) (v : ℕ) (ks : List ℕ) (j : ℕ) : Type 0 where
  pub bytes : List ℕ
  pub rest : List ℕ
  pub split : l ≡ bytes ++ rest
  pub spelled : Header bytes v (value_from 0 ks)
  pub place : j ≡ i + length bytes

head_parts : (v w : ℕ) (ks ms : List ℕ) (i j : ℕ) → head v ks i ≡ head w ms j → (v ≡ w) × (ks ≡ ms) × (i ≡ j)
head_parts v w ks ms i j e = (cc, cc, cc)

pub head_none : (v : ℕ) (ks : List ℕ) (j : ℕ) → no_head ≡ head v ks j → ⊥
head_none v ks j e = let z : ◌≡◌ {A = ℕ} 0 1 = cc in omega arith

-- the six tests
record Tested (l vs ks : List ℕ) : Type 0 where
  opens : starts_with header_start l ≡ true
  proper_v : proper vs ≡ true
  small : value_from 0 vs ≤ 4096
  blank : get_or l (6 + length vs) 0 ≡ 32
  proper_k : proper ks ≡ true
  feed : get_or l (7 + length vs + length ks) 0 ≡ 10

tested : (l vs ks : List ℕ) → starts_with header_start l && (proper vs && (leb (value_from 0 vs) 4096 && (eqb (get_or l (6 + length vs) 0) 32
    && (proper ks && eqb (get_or l (7 + length vs + length ks) 0) 10)))) ≡ true → Tested l vs ks
tested l vs ks h =
    let h₁ = and_right (starts_with header_start l) _ h in
    let h₂ = and_right (proper vs) _ h₁ in
    let h₃ = and_right (leb (value_from 0 vs) 4096) _ h₂ in
    let h₄ = and_right (eqb (get_or l (6 + length vs) 0) 32) _ h₃ in
    record {
      opens = and_left (starts_with header_start l) _ h;
      proper_v = and_left (proper vs) _ h₁;
      small = leb-true (value_from 0 vs) 4096 (and_left (leb (value_from 0 vs) 4096) _ h₂);
      blank = eqb-true _ 32 (and_left (eqb (get_or l (6 + length vs) 0) 32) _ h₃);
      proper_k = and_left (proper ks) _ h₄;
      feed = eqb-true _ 10 (and_right (proper ks) _ h₄);
    }

head_tested : (i : ℕ) (l vs ks : List ℕ) → vs ≡ digits_of (drop 6 l) → ks ≡ digits_of (drop (7 + length vs) l) → Tested l vs ks
    → HeadSound i l (value_from 0 vs) ks (i + (8 + length vs + length ks))
head_tested i l vs ks ev ek t =
    let s = starts_split header_start l t.opens in
    let a = digits_split (drop 6 l) in
    let l₁ : l ≡ header_start ++ (vs ++ a.0) =
    s.1 ∙ ap (λ (m : List ℕ). header_start ++ m) (sym (ap (drop 6) s.1) ∙ a.1 ∙ ap (λ (m : List ℕ). m ++ a.0) (sym ev)) in
    let p = first_is a.0 32 (omega arith)
    (sym (ap (λ (m : List ℕ). get_or m 0 0) (middle header_start vs a.0 l 6 (6 + length vs) l₁ refl refl).1) ∙ sym (first_of l (6 + length vs)) ∙ t.blank) in
    let l₂ : l ≡ (header_start ++ (vs ++ 32 ∷ [])) ++ p.0 =
    l₁ ∙ ap (λ (m : List ℕ). header_start ++ m) (ap (λ (m : List ℕ). vs ++ m) p.1 ∙ sym (append_assoc vs (32 ∷ []) p.0)) in
    let n : 7 + length vs ≡ length (header_start ++ (vs ++ 32 ∷ [])) = omega (arith, length-append vs (32 ∷ [])) in
    let d : drop (7 + length vs) l ≡ p.0 = ap (drop (7 + length vs)) l₂ ∙ drop_at (header_start ++ (vs ++ 32 ∷ [])) p.0 (7 + length vs) (sym n) in
    let b = digits_split (drop (7 + length vs) l) in
    let r : p.0 ≡ ks ++ b.0 = sym d ∙ b.1 ∙ ap (λ (m : List ℕ). m ++ b.0) (sym ek) in
    let l₃ : l ≡ (header_start ++ (vs ++ 32 ∷ [])) ++ (ks ++ b.0) = l₂ ∙ ap (λ (m : List ℕ). (header_start ++ (vs ++ 32 ∷ [])) ++ m) r in
    let q = first_is b.0 10 (omega arith)
    (sym (ap (λ (m : List ℕ). get_or m 0 0)
    (middle (header_start ++ (vs ++ 32 ∷ [])) ks b.0 l (7 + length vs) (7 + length vs + length ks) l₃ n (omega (arith, n))).1)
    ∙ sym (first_of l (7 + length vs + length ks)) ∙ t.feed) in
    let cv = proper_count vs (subst AllDigits (sym ev) (digits_all (drop 6 l))) t.proper_v in
    let ck = proper_count ks (subst AllDigits (sym ek) (digits_all (drop (7 + length vs) l))) t.proper_k in
    record {
      bytes = header_start ++ (vs ++ 32 ∷ (ks ++ 10 ∷ []));
      rest = q.0;
      split = l₂ ∙ ap (λ (m : List ℕ). header_start ++ m) (append_assoc vs (32 ∷ []) p.0
          ∙ ap (λ (m : List ℕ). vs ++ 32 ∷ m) (r ∙ ap (λ (m : List ℕ). ks ++ m) q.1 ∙ sym (append_assoc ks (10 ∷ []) q.0))
          ∙ sym (append_assoc vs (32 ∷ (ks ++ 10 ∷ [])) q.0));
      spelled = header cv t.small ck;
      place = omega (arith, length-append vs (32 ∷ (ks ++ 10 ∷ [])), length-append ks (10 ∷ []));
    }

pub head_sound : (i : ℕ) (l : List ℕ) (v : ℕ) (ks : List ℕ) (j : ℕ) → head_from i l ≡ head v ks j → HeadSound i l v ks j
unfolding head_from
head_sound i l v ks j e = go (starts_with header_start l && (proper vs && (leb (value_from 0 vs) 4096 && (eqb (get_or l (6 + length vs) 0) 32
    && (proper ms && eqb (get_or l (7 + length vs + length ms) 0) 10))))) refl e
  where
    vs : List ℕ
    vs = digits_of (drop 6 l)

    ms : List ℕ
    ms = digits_of (drop (7 + length vs) l)

    go : (t : Bool) → starts_with header_start l && (proper vs && (leb (value_from 0 vs) 4096 && (eqb (get_or l (6 + length vs) 0) 32
        && (proper ms && eqb (get_or l (7 + length vs + length ms) 0) 10)))) ≡ t
        → pick t (head (value_from 0 vs) ms (i + (8 + length vs + length ms))) no_head ≡ head v ks j → HeadSound i l v ks j
    go true h e =
        let q = head_parts (value_from 0 vs) v ms ks (i + (8 + length vs + length ms)) j e in
        let r = head_tested i l vs ms refl refl (tested l vs ms h) in
        subst (λ (x : ℕ). HeadSound i l x ks j) q.0 (subst (λ (x : List ℕ). HeadSound i l (value_from 0 vs) x j) q.1
        (subst (λ (x : ℕ). HeadSound i l (value_from 0 vs) ms x) q.2 r))
    go false h e = absurd (head_none v ks j e)

-- a header starts with `p`
pub head_first : {hs : List ℕ} {v k : ℕ} → Header hs v k → (l : List ℕ) → get_or (hs ++ l) 0 0 ≡ 99 → ⊥
head_first (header cv small ck) l e = omega arith

pub head_absent : (i : ℕ) (l : List ℕ) → head_from i l ≡ no_head → (hs r : List ℕ) (v k : ℕ) → Header hs v k → l ≡ hs ++ r → ⊥
head_absent i l e hs r v k h s =
    let q = head_read h in
    head_none v q.digits (i + length hs) (sym e ∙ ap (head_from i) s ∙ q.reads i r)
