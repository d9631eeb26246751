-- Laws of the call that writes a whole proof from its three lists, and that the reader gives the lists back.
use Prim.Native.Nat.{ℕ, suc, ◌+◌, ◌-◌, ◌*◌, ◌≤◌, ◌<◌}
use mathlib.Core.Path.{◌≡◌, refl, sym, ap, ap₂, ◌∙◌}
use mathlib.Core.List.{List, [], ◌∷◌, ◌++◌, append_assoc}
use mathlib.Core.Bool.{Bool, true, false, ◌&&◌, not}
use native.Mathlib.Omega.{arith}
use lib.Dec.{eqb, leb, ltb}
use lib.ListN.{length, get_or, drop, take-append-drop, length-append, length-take, length-drop, drop_of_length-le}
use lib.Seq.{sets, drop-drop}
use borrow.Author.Tests.{eqb-true, eqb-false, leb-true, ltb-true, le-ltb, lt-ltb, not-false}
use Rattle.base.specs.Choice.{pick}
use Rattle.base.specs.Answer.{accepted, refused}
use Rattle.base.proofs.BelowLaws.{and_left, and_right, all_at}
use Rattle.base.proofs.MemberLaws.{or_left, or_right}
use Rattle.base.proofs.SetsLaws.{sets_append}
use Rattle.drat.specs.Grammar.{step_of, opens, ends, number, numbers, encode_step, encode, Codes, Valid}
use Rattle.drat.specs.Writing.{part, codes_test}
use Rattle.drat.specs.Filled.{kind_number, codes_of, ends_from, kinds_of, answer_of, read_of}
use Rattle.drat.specs.Listed.{kind_at, listed, rises_to, kinds_test, unlisted, write_all_of}
use Rattle.drat.specs.declared.Kind.TheVariants.{Add, Delete}
use Rattle.drat.specs.declared.Format.{Format}
use Rattle.drat.proofs.CodesLaws.{codes_true, codes_part}
use Rattle.drat.proofs.Steps.{next, step_length, opens_le, ends_le}
use Rattle.drat.proofs.Shapes.{numbers_le}
use Rattle.drat.proofs.Complete.{round_trip}

-- ---- ends, one more

pub rises_next : (m n : ℕ) (es : List ℕ) (i : ℕ) → i < length es → rises_to m n (drop i es) ≡ leb n (get_or es i 0) && rises_to m (get_or es i 0) (drop (i + 1) es)
unfolding rises_to
rises_next m n es i h = ap (rises_to m n) (next es i h)

pub rises_done : (m n : ℕ) (es : List ℕ) (i : ℕ) → length es ≤ i → rises_to m n (drop i es) ≡ eqb n m
unfolding rises_to
rises_done m n es i h = ap (rises_to m n) (drop_of_length-le es h)

pub rises_le : (m n : ℕ) (es : List ℕ) → rises_to m n es ≡ true → n ≤ m
unfolding rises_to
rises_le m n [] h = omega (arith, eqb-true n m h)
rises_le m n (e ∷ es) h = omega (arith, leb-true n e (and_left (leb n e) (rises_to m e es) h), rises_le m e es (and_right (leb n e) (rises_to m e es) h))

-- the flag of a pass over the ends
pub rises_more : (ok : Bool) (m n : ℕ) (es : List ℕ) (i : ℕ) → i < length es
    → (ok && leb n (get_or es i 0)) && rises_to m (get_or es i 0) (drop (i + 1) es) ≡ ok && rises_to m n (drop i es)
rises_more true m n es i h = sym (rises_next m n es i h)
rises_more false m n es i h = refl

-- the next end lies between, and the ends after it rise
pub rises_at : (m n : ℕ) (es : List ℕ) (i : ℕ) → i < length es → rises_to m n (drop i es) ≡ true → (n ≤ get_or es i 0) × (get_or es i 0 ≤ m)
    × (rises_to m (get_or es i 0) (drop (i + 1) es) ≡ true)
rises_at m n es i h r =
    let e = get_or es i 0 in
    let x = sym (rises_next m n es i h) ∙ r in
    let y = and_right (leb n e) (rises_to m e (drop (i + 1) es)) x in
    (leb-true n e (and_left (leb n e) (rises_to m e (drop (i + 1) es)) x), rises_le m e (drop (i + 1) es) y, y)

-- ---- steps, one more

pub listed_next : (codes : List ℕ) (n : ℕ) (es ks : List ℕ) (i : ℕ) → i < length es → i < length ks
    → listed codes n (drop i es) (drop i ks) ≡ step_of (kind_at (get_or ks i 0)) (part n (get_or es i 0) codes) ∷ listed codes (get_or es i 0) (drop (i + 1) es)
    (drop (i + 1) ks)
unfolding listed
listed_next codes n es ks i h k = ap₂ (listed codes n) (next es i h) (next ks i k)

pub listed_done : (codes : List ℕ) (n : ℕ) (es ks : List ℕ) (i : ℕ) → length es ≤ i → listed codes n (drop i es) ks ≡ []
unfolding listed
listed_done codes n es ks i h = ap (λ (l : List ℕ). listed codes n l ks) (drop_of_length-le es h)

-- their bytes, and how they are laid
module _ (f : Format) (codes : List ℕ) (n : ℕ) (es ks : List ℕ) where
  pub listed_none : (i : ℕ) → length es ≤ i → encode f (listed codes n (drop i es) (drop i ks)) ≡ []
  unfolding encode
  listed_none i h = ap (encode f) (listed_done codes n es (drop i ks) i h)

  module _ (i : ℕ) (h : i < length es) (l : length es ≡ length ks) where
    abbrev this : List ℕ
    this = encode_step f (step_of (kind_at (get_or ks i 0)) (part n (get_or es i 0) codes))

    abbrev rest : List ℕ
    rest = encode f (listed codes (get_or es i 0) (drop (i + 1) es) (drop (i + 1) ks))

    listed_bytes : encode f (listed codes n (drop i es) (drop i ks)) ≡ this ++ rest
    unfolding encode
    listed_bytes = ap (encode f) (listed_next codes n es ks i h (omega arith))

    pub listed_step : length (encode f (listed codes n (drop i es) (drop i ks))) ≡ length this + length rest
    listed_step = ap length listed_bytes ∙ length-append this rest

    pub listed_sets : (o : List ℕ) (p : ℕ) → sets (sets o p this) (p + length this) rest ≡ sets o p (encode f (listed codes n (drop i es) (drop i ks)))
    listed_sets o p = sym (ap (sets o p) listed_bytes ∙ sets_append this rest o p)

-- ---- how many bytes

-- the bytes beside the literals
unfoldable pub frames : Format → List ℕ → ℕ
frames f [] = 0
frames f (k ∷ ks) = length (opens f (kind_at k)) + length (ends f) + frames f ks

pub frames_next : (f : Format) (ks : List ℕ) (i : ℕ) → i < length ks
    → frames f (drop i ks) ≡ length (opens f (kind_at (get_or ks i 0))) + length (ends f) + frames f (drop (i + 1) ks)
unfolding frames
frames_next f ks i h = ap (frames f) (next ks i h)

pub frames_done : (f : Format) (ks : List ℕ) (i : ℕ) → length ks ≤ i → frames f (drop i ks) ≡ 0
unfolding frames
frames_done f ks i h = ap (frames f) (drop_of_length-le ks h)

frames_le : (f : Format) (ks : List ℕ) → frames f ks ≤ 4 * length ks
unfolding frames
frames_le f [] = omega arith
frames_le f (k ∷ ks) = omega (arith, opens_le f (kind_at k), ends_le f, frames_le f ks)

numbers_append : (f : Format) (a b : List ℕ) → numbers f (a ++ b) ≡ numbers f a ++ numbers f b
unfolding numbers
numbers_append f [] b = refl
numbers_append f (x ∷ a) b = ap (λ (l : List ℕ). number f x ++ l) (numbers_append f a b) ∙ sym (append_assoc (number f x) (numbers f a) (numbers f b))

-- past the last end nothing is left
rest_none : (n : ℕ) (codes : List ℕ) → eqb n (length codes) ≡ true → drop n codes ≡ []
rest_none n codes h =
    let k : length codes ≤ n = omega (arith, eqb-true n (length codes) h) in
    drop_of_length-le codes k

-- a part and what is after it
part_rest : (n e : ℕ) (codes : List ℕ) → n ≤ e → part n e codes ++ drop e codes ≡ drop n codes
part_rest n e codes h =
    let p : n + (e - n) ≡ e = omega arith in
    sym (ap (λ (l : List ℕ). part n e codes ++ l) (drop-drop (e - n) n codes ∙ ap (λ (i : ℕ). drop i codes) p)) ∙ take-append-drop (e - n) (drop n codes)

pub listed_length : (f : Format) (codes : List ℕ) (n : ℕ) (es ks : List ℕ) → length es ≡ length ks → rises_to (length codes) n es ≡ true
    → length (encode f (listed codes n es ks)) ≡ length (numbers f (drop n codes)) + frames f ks
unfolding listed rises_to encode frames numbers
listed_length f codes n [] [] l h = omega (arith, ap (λ (x : List ℕ). length (numbers f x)) (rest_none n codes h))
listed_length f codes n [] (k ∷ ks) l h = absurd (omega arith)
listed_length f codes n (e ∷ es) [] l h = absurd (omega arith)
listed_length f codes n (e ∷ es) (k ∷ ks) l h =
    let a = and_left (leb n e) (rises_to (length codes) e es) h in
    let b = and_right (leb n e) (rises_to (length codes) e es) h in
    let p = ap (λ (x : List ℕ). length (numbers f x)) (part_rest n e codes (leb-true n e a)) in
    let q = ap length (numbers_append f (part n e codes) (drop e codes)) ∙ length-append (numbers f (part n e codes)) (numbers f (drop e codes)) in
    length-append (encode_step f (step_of (kind_at k) (part n e codes))) (encode f (listed codes e es ks))
    ∙ omega (arith, p, q, step_length f (kind_at k) (part n e codes), listed_length f codes e es ks (omega arith) b)

-- at most six a literal and four a step
pub listed_le : (f : Format) (codes es ks : List ℕ) → Codes codes → length es ≡ length ks → rises_to (length codes) 0 es ≡ true
    → length (encode f (listed codes 0 es ks)) ≤ 6 * length codes + 4 * length es
listed_le f codes es ks h l r = omega (arith, listed_length f codes 0 es ks l r, numbers_le f codes h, frames_le f ks)

-- ---- the reader gives the lists back

pub listed_valid : (codes : List ℕ) (n : ℕ) (es ks : List ℕ) → Codes codes → Valid (listed codes n es ks)
unfolding listed Valid
listed_valid codes n [] ks h = tt
listed_valid codes n (e ∷ es) [] h = tt
listed_valid codes n (e ∷ es) (k ∷ ks) h = (codes_part n e codes h, listed_valid codes e es ks h)

pub listed_codes : (codes : List ℕ) (n : ℕ) (es ks : List ℕ) → length es ≡ length ks → rises_to (length codes) n es ≡ true
    → codes_of (listed codes n es ks) ≡ drop n codes
unfolding listed rises_to codes_of
listed_codes codes n [] [] l h = sym (rest_none n codes h)
listed_codes codes n [] (k ∷ ks) l h = absurd (omega arith)
listed_codes codes n (e ∷ es) [] l h = absurd (omega arith)
listed_codes codes n (e ∷ es) (k ∷ ks) l h =
    let a = and_left (leb n e) (rises_to (length codes) e es) h in
    let b = and_right (leb n e) (rises_to (length codes) e es) h in
    ap (λ (x : List ℕ). part n e codes ++ x) (listed_codes codes e es ks (omega arith) b) ∙ part_rest n e codes (leb-true n e a)

part_length : (n e : ℕ) (codes : List ℕ) → n ≤ e → e ≤ length codes → n + length (part n e codes) ≡ e
part_length n e codes h k = omega (arith, length-take (e - n) (drop n codes), length-drop n codes)

pub listed_ends : (codes : List ℕ) (n : ℕ) (es ks : List ℕ) → length es ≡ length ks → rises_to (length codes) n es ≡ true → ends_from n (listed codes n es ks) ≡ es
unfolding listed rises_to ends_from
listed_ends codes n [] [] l h = refl
listed_ends codes n [] (k ∷ ks) l h = absurd (omega arith)
listed_ends codes n (e ∷ es) [] l h = absurd (omega arith)
listed_ends codes n (e ∷ es) (k ∷ ks) l h =
    let a = and_left (leb n e) (rises_to (length codes) e es) h in
    let b = and_right (leb n e) (rises_to (length codes) e es) h in
    let p = part_length n e codes (leb-true n e a) (rises_le (length codes) e es b) in
    ap (λ (x : ℕ). x ∷ ends_from x (listed codes e es ks)) p ∙ ap (λ (x : List ℕ). e ∷ x) (listed_ends codes e es ks (omega arith) b)

kind_back : (k : ℕ) → k < 2 → kind_number (kind_at k) ≡ k
kind_back k h = go (eqb k 0) refl
  where
    go : (t : Bool) → eqb k 0 ≡ t → kind_number (pick t Add Delete) ≡ k
    go true e = sym (eqb-true k 0 e)
    go false e = omega (arith, eqb-false k 0 e)

listed_kinds : (codes : List ℕ) (n : ℕ) (es ks : List ℕ) → length es ≡ length ks → ((i : ℕ) → i < length ks → get_or ks i 0 < 2)
    → kinds_of (listed codes n es ks) ≡ ks
unfolding listed kinds_of
listed_kinds codes n [] [] l h = refl
listed_kinds codes n [] (k ∷ ks) l h = absurd (omega arith)
listed_kinds codes n (e ∷ es) [] l h = absurd (omega arith)
listed_kinds codes n (e ∷ es) (k ∷ ks) l h = ap₂ (λ (x : ℕ) (y : List ℕ). x ∷ y) (kind_back k (h 0 (omega arith)))
    (listed_kinds codes e es ks (omega arith) (λ i j. h (suc i) (omega arith)))

pub listed_count : (codes : List ℕ) (n : ℕ) (es ks : List ℕ) → length es ≡ length ks → length (listed codes n es ks) ≡ length es
unfolding listed
listed_count codes n [] ks l = refl
listed_count codes n (e ∷ es) [] l = absurd (omega arith)
listed_count codes n (e ∷ es) (k ∷ ks) l = ap suc (listed_count codes e es ks (omega arith))

-- ---- the call

module _ (codes es ks : List ℕ) where
  -- the four ways to be no proof, in the order in which they are tried
  pub unlisted_codes : codes_test codes ≡ false → unlisted codes es ks ≡ true
  unlisted_codes h = rw h

  pub unlisted_count : codes_test codes ≡ true → eqb (length es) (length ks) ≡ false → unlisted codes es ks ≡ true
  unlisted_count h k = rw (h, k)

  pub unlisted_ends : codes_test codes ≡ true → eqb (length es) (length ks) ≡ true → rises_to (length codes) 0 es ≡ false → unlisted codes es ks ≡ true
  unlisted_ends h k l = rw (h, k, l)

  pub unlisted_kinds : codes_test codes ≡ true → eqb (length es) (length ks) ≡ true → rises_to (length codes) 0 es ≡ true
      → unlisted codes es ks ≡ not (kinds_test ks)
  unlisted_kinds h k l = rw (h, k, l)

  pub record Listed : Type 0 where
    pub coded : Codes codes
    pub paired : length es ≡ length ks
    pub rising : rises_to (length codes) 0 es ≡ true
    pub kinded : (i : ℕ) → i < length ks → get_or ks i 0 < 2

  -- what is not refused is a proof
  pub is_listed : unlisted codes es ks ≡ false → Listed
  is_listed h =
      let x = or_right (not (codes_test codes)) _ h in
      let y = or_right (not (eqb (length es) (length ks))) _ x in
      let z = not-false (kinds_test ks) (or_right (not (rises_to (length codes) 0 es)) _ y) in
      record {
        coded = codes_true codes (not-false (codes_test codes) (or_left (not (codes_test codes)) _ h));
        paired = eqb-true (length es) (length ks) (not-false (eqb (length es) (length ks)) (or_left (not (eqb (length es) (length ks))) _ x));
        rising = not-false (rises_to (length codes) 0 es) (or_left (not (rises_to (length codes) 0 es)) _ y);
        kinded = λ i l. ltb-true (get_or ks i 0) 2 (all_at (length ks) (λ j. ltb (get_or ks j 0) 2) z i l);
      }

  module _ (f : Format) (room : ℕ) where
    pub all_unlisted : unlisted codes es ks ≡ true → write_all_of f codes es ks room ≡ record { answer = refused 3 []; bytes = [] }
    all_unlisted h = rw h

    pub all_lacking : unlisted codes es ks ≡ false → room < length (encode f (listed codes 0 es ks))
        → write_all_of f codes es ks room ≡ record { answer = refused 2 []; bytes = [] }
    all_lacking h l = rw (h, lt-ltb room (0 + length (encode f (listed codes 0 es ks))) (omega (arith, l)))

    pub all_done : unlisted codes es ks ≡ false → length (encode f (listed codes 0 es ks)) ≤ room
        → write_all_of f codes es ks room ≡ record {
          answer = accepted ((0 + length (encode f (listed codes 0 es ks))) ∷ []);
          bytes =
              encode f (listed codes 0 es ks);
        }
    all_done h l = rw (h, le-ltb room (0 + length (encode f (listed codes 0 es ks))) (omega (arith, l)))

  -- What is written is read back as the three lists, in slices that just hold them.
  pub read_back : (f : Format) → unlisted codes es ks ≡ false
      → read_of f (encode f (listed codes 0 es ks)) (length codes) (length es) (length ks) ≡ record {
        answer = accepted (length codes ∷ length es ∷ []);
        codes =
            codes;
        ends = es;
        kinds = ks;
      }
  unfolding answer_of
  read_back f h =
      let l = is_listed h in
      let ss = listed codes 0 es ks in
      let c = listed_codes codes 0 es ks l.paired l.rising in
      let e = listed_ends codes 0 es ks l.paired l.rising in
      let k = listed_kinds codes 0 es ks l.paired l.kinded in
      let n = listed_count codes 0 es ks l.paired in
      ap (λ p. answer_of p (length codes) (length es) (length ks)) (round_trip f ss (listed_valid codes 0 es ks l.coded))
      ∙ rw (
        c,
        e,
        k,
        n,
        le-ltb (length codes) (length codes) (omega arith),
        le-ltb (length es) (length es) (omega arith),
        le-ltb (length ks) (length es)
            (omega (arith, l.paired)),
      )
