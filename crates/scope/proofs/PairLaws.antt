-- How a single change of a word passes through the parts of soundness: two mutually inverse maps, the rows of globals, the values.
use Prim.Native.Nat.{ℕ, suc, ◌+◌, ◌-◌, ◌<◌, ◌≤◌}
use mathlib.Core.Path.{◌≡◌, refl, sym, ap, ◌∙◌}
use mathlib.Core.Logic.{◌↔◌, ◌≢◌}
use mathlib.Core.List.{List}
use native.Mathlib.Omega.{arith}
use native.Mathlib.Decide.{dec_lt, ℕ_discrete}
use lib.Dec.{eqb}
use lib.ListN.{get_or, length, set}
use lib.Seq.{get_or-set_other, get_or-set_same}
use borrow.Author.Tests.{eqb-true, eqb-false}
use Rattle.base.proofs.LeastLaws.{Least, least_has}
use Rattle.base.proofs.Pigeon.{pigeon}
use Rattle.scope.specs.Sound.{Inverse, Pair, Row, Rows, Values}
use Rattle.scope.specs.Table.{least_free}

-- ---- two mutually inverse maps

-- i and j, which are in neither map, are joined
inverse_link : (a b : List ℕ) (i j : ℕ) → Inverse a b → i < length a → j < length b → get_or a i 0 ≡ 0 → get_or b j 0 ≡ 0
    → Inverse (set a i (j + 1)) (set b j (i + 1))
inverse_link a b i j inv hi hj ai bj x y = go (ℕ_discrete x i) (ℕ_discrete y j)
  where
    go : Dec (x ≡ i) → Dec (y ≡ j) → (get_or (set a i (j + 1)) x 0 ≡ y + 1) ↔ (get_or (set b j (i + 1)) y 0 ≡ x + 1)
    go (yes e) (yes q) = rw (e, q, get_or-set_same a i (j + 1) 0 hi, get_or-set_same b j (i + 1) 0 hj) (λ _. refl, λ _. refl)
    go (yes e) (no q) =
        rw (e, get_or-set_same a i (j + 1) 0 hi, get_or-set_other b j y (i + 1) 0 q)
        (λ h. absurd (q (omega arith)), λ h. let z = (inv i y).1 h in absurd (omega arith))
    go (no e) (yes q) =
        rw (q, get_or-set_other a i x (j + 1) 0 e, get_or-set_same b j (i + 1) 0 hj)
        (λ h. let z = (inv x j).0 h in absurd (omega arith), λ h. absurd (e (omega arith)))
    go (no e) (no q) = rw (get_or-set_other a i x (j + 1) 0 e, get_or-set_other b j y (i + 1) 0 q) (inv x y)

-- i and j, which the maps take to each other, are parted
inverse_cut : (a b : List ℕ) (i j : ℕ) → Inverse a b → i < length a → j < length b → get_or a i 0 ≡ j + 1 → Inverse (set a i 0) (set b j 0)
inverse_cut a b i j inv hi hj ai x y = go (ℕ_discrete x i) (ℕ_discrete y j)
  where
    go : Dec (x ≡ i) → Dec (y ≡ j) → (get_or (set a i 0) x 0 ≡ y + 1) ↔ (get_or (set b j 0) y 0 ≡ x + 1)
    go (yes e) (yes q) = rw (e, q, get_or-set_same a i 0 0 hi, get_or-set_same b j 0 0 hj) (λ h. absurd (omega arith), λ h. absurd (omega arith))
    go (yes e) (no q) =
        rw (e, get_or-set_same a i 0 0 hi, get_or-set_other b j y 0 0 q)
        (λ h. absurd (omega arith), λ h. let z = (inv i y).1 h in absurd (q (omega arith)))
    go (no e) (yes q) =
        rw (q, get_or-set_other a i x 0 0 e, get_or-set_same b j 0 0 hj)
        (λ h. let z = (inv x j).0 h in let w = (inv i j).0 ai in absurd (e (omega arith)), λ h. absurd (omega arith))
    go (no e) (no q) = rw (get_or-set_other a i x 0 0 e, get_or-set_other b j y 0 0 q) (inv x y)

pub pair_link : {a b : List ℕ} {amark bmark : ℕ} (amark' bmark' i j : ℕ) → Pair a b amark bmark → i < length a → j < length b
    → get_or a i 0 ≡ 0 → get_or b j 0 ≡ 0 → amark ≤ amark' → i < amark' → bmark ≤ bmark' → j < bmark'
    → Pair (set a i (j + 1)) (set b j (i + 1)) amark' bmark'
pair_link {a} {b} amark' bmark' i j p hi hj ai bj k l m n =
    record {
      inverse = inverse_link a b i j p.inverse hi hj ai bj;
      atail = λ x h. rw (get_or-set_other a i x (j + 1) 0 (omega arith)) (p.atail x (omega arith));
      btail = λ x h. rw (get_or-set_other b j x (i + 1) 0 (omega arith)) (p.btail x (omega arith));
    }

zero_at : (l : List ℕ) (i k : ℕ) → i < length l → get_or l k 0 ≡ 0 → get_or (set l i 0) k 0 ≡ 0
zero_at l i k h e = go (ℕ_discrete k i)
  where
    go : Dec (k ≡ i) → get_or (set l i 0) k 0 ≡ 0
    go (yes q) = rw q (get_or-set_same l i 0 0 h)
    go (no q) = rw (get_or-set_other l i k 0 0 q) e

pub pair_cut : {a b : List ℕ} {amark bmark : ℕ} (i j : ℕ) → Pair a b amark bmark → i < length a → j < length b → get_or a i 0 ≡ j + 1
    → Pair (set a i 0) (set b j 0) amark bmark
pair_cut {a} {b} i j p hi hj ai =
    record {
      inverse = inverse_cut a b i j p.inverse hi hj ai;
      atail = λ x h. zero_at a i x hi (p.atail x h);
      btail = λ x h. zero_at b j x hj (p.btail x h);
    }

pub pair_grow : {a b : List ℕ} {amark bmark : ℕ} (bmark' : ℕ) → Pair a b amark bmark → bmark ≤ bmark' → Pair a b amark bmark'
pair_grow bmark' p h = record { inverse = p.inverse; atail = p.atail; btail = λ x l. p.btail x (omega arith) }

pub pair_flip : {a b : List ℕ} {amark bmark : ℕ} → Pair a b amark bmark → Pair b a bmark amark
pair_flip p = record { inverse = λ i j. ((p.inverse j i).1, (p.inverse j i).0); atail = p.btail; btail = p.atail }

-- an index that is in a map is below its watermark
pub below_mark : {a b : List ℕ} {amark bmark : ℕ} (i j : ℕ) → Pair a b amark bmark → get_or a i 0 ≡ j + 1 → i < amark
below_mark {a} {b} {amark} i j p h = go (dec_lt i amark)
  where
    go : Dec (i < amark) → i < amark
    go (yes l) = l
    go (no n) = let z = p.atail i (omega arith) in absurd (omega arith)

-- ---- the least free index

pub free_at : {a b : List ℕ} {amark bmark : ℕ} → Pair a b amark bmark → get_or a (least_free a amark) 0 ≡ 0
unfolding least_free
free_at {a} {b} {amark} p = go (dec_lt (least_free a amark) amark)
  where
    q : Least amark (λ i. eqb (get_or a i 0) 0) (least_free a amark)
    q = least_has amark (λ i. eqb (get_or a i 0) 0)

    go : Dec (least_free a amark < amark) → get_or a (least_free a amark) 0 ≡ 0
    go (yes h) = eqb-true (get_or a (least_free a amark) 0) 0 (q.here h)
    go (no n) = p.atail (least_free a amark) (omega arith)

pub free_most : (a : List ℕ) (amark : ℕ) → least_free a amark ≤ amark
unfolding least_free
free_most a amark = (least_has amark (λ i. eqb (get_or a i 0) 0)).within

-- below the watermark it is free
pub free_word : (a : List ℕ) (amark i : ℕ) → i ≡ least_free a amark → i < amark → get_or a i 0 ≡ 0
unfolding least_free
free_word a amark i e h =
    rw e (eqb-true (get_or a (least_free a amark) 0) 0 ((least_has amark (λ i. eqb (get_or a i 0) 0)).here (omega arith)))

-- below it every index is taken
pub free_before : (a : List ℕ) (amark i : ℕ) → i < least_free a amark → get_or a i 0 ≢ 0
unfolding least_free
free_before a amark i h = eqb-false (get_or a i 0) 0 ((least_has amark (λ i. eqb (get_or a i 0) 0)).before i h)

-- Of two mutually inverse maps, the second empty from n up: where the first is full below n, the second has no gap there.
pub no_gap : {a b : List ℕ} {amark bmark : ℕ} (n g : ℕ) → Pair a b amark bmark → bmark ≤ n → ((i : ℕ) → i < n → get_or a i 0 ≢ 0) → g < n
    → get_or b g 0 ≢ 0
no_gap {a} {b} {amark} {bmark} n g p hb full hg bg =
    let z = pigeon (suc n) n h (record { bound = λ i l. bound_by i (ℕ_discrete i n) l; one = λ i j l k e. one_by i j (ℕ_discrete i n) (ℕ_discrete j n) l k e }) in
    omega arith
  where
    goes : {x : ℕ} → Dec (x ≡ n) → ℕ → ℕ
    goes (yes e) y = g
    goes (no e) y = y

    h : ℕ → ℕ
    h i = goes (ℕ_discrete i n) (get_or a i 0 - 1)

    back : (i : ℕ) → i < n → get_or b (get_or a i 0 - 1) 0 ≡ i + 1
    back i l = let z = full i l in (p.inverse i (get_or a i 0 - 1)).0 (omega arith)

    bound_by : (i : ℕ) (d : Dec (i ≡ n)) → i < suc n → goes d (get_or a i 0 - 1) < n
    bound_by i (yes e) l = hg
    bound_by i (no e) l = let z = below_mark (get_or a i 0 - 1) i (pair_flip p) (back i (omega arith)) in omega arith

    one_by : (i j : ℕ) (d : Dec (i ≡ n)) (k : Dec (j ≡ n)) → i < suc n → j < suc n → goes d (get_or a i 0 - 1) ≡ goes k (get_or a j 0 - 1) → i ≡ j
    one_by i j (yes e) (yes q) l m r = e ∙ sym q
    one_by i j (yes e) (no q) l m r = let z = back j (omega arith) in let w : get_or b g 0 ≡ j + 1 = rw r z in absurd (omega arith)
    one_by i j (no e) (yes q) l m r = let z = back i (omega arith) in let w : get_or b g 0 ≡ i + 1 = rw (← r) z in absurd (omega arith)
    one_by i j (no e) (no q) l m r =
        let x = back i (omega arith) in
        let y = back j (omega arith) in
        let w = ap (λ (x : ℕ). get_or b x 0) r in
        omega arith

-- with an index that has none, the least free index of the inverse map is below the watermark
pub free_below : {a b : List ℕ} {amark bmark : ℕ} (g : ℕ) → Pair a b amark bmark → g < bmark → get_or b g 0 ≡ 0 → least_free a amark < bmark
free_below {a} {b} {amark} {bmark} g p hg e = go (dec_lt (least_free a amark) bmark)
  where
    go : Dec (least_free a amark < bmark) → least_free a amark < bmark
    go (yes l) = l
    go (no n) = absurd (no_gap bmark g p (omega arith) (λ i l. free_before a amark i (omega arith)) hg e)

-- ---- rows and values

-- the list is as it was but at g
abbrev pub Off : ℕ → ℕ → List ℕ → List ℕ → Type 0
Off d g l l' = (k : ℕ) → k ≢ g → get_or l' k d ≡ get_or l k d

pub off_set : (d g v : ℕ) (l : List ℕ) → Off d g l (set l g v)
off_set d g v l k n = get_or-set_other l g k v d n

pub off_same : (d g : ℕ) (l : List ℕ) → Off d g l l
off_same d g l k n = refl

pub rows_at : {records users solvers records' users' solvers' : List ℕ} {mark : ℕ} (mark' g : ℕ) → Rows records users solvers mark
    → Off 47 g records records' → Off 0 g users users' → Off 0 g solvers solvers' → mark ≤ mark' → g < mark'
    → Row (get_or records' g 47) (get_or users' g 0) (get_or solvers' g 0) → Rows records' users' solvers' mark'
rows_at {records} {users} {solvers} {records'} {users'} {solvers'} mark' g p a b c d e r =
    record { row = λ k. go k (ℕ_discrete k g); tail = λ k h. a k (omega arith) ∙ p.tail k (omega arith) }
  where
    go : (k : ℕ) → Dec (k ≡ g) → Row (get_or records' k 47) (get_or users' k 0) (get_or solvers' k 0)
    go k (yes q) = rw q r
    go k (no q) = rw (a k q, b k q, c k q) (p.row k)

pub values_put : {assignment : List ℕ} {mark : ℕ} (mark' s v : ℕ) → Values assignment mark → s < length assignment → mark ≤ mark' → s < mark' → v ≤ 2
    → Values (set assignment s v) mark'
values_put {assignment} mark' s v p hs a b c =
    record { small = λ k. go k (ℕ_discrete k s); tail = λ k h. rw (get_or-set_other assignment s k v 0 (omega arith)) (p.tail k (omega arith)) }
  where
    go : (k : ℕ) → Dec (k ≡ s) → get_or (set assignment s v) k 0 ≤ 2
    go k (yes q) = rw (q, get_or-set_same assignment s v 0 hs) c
    go k (no q) = rw (get_or-set_other assignment s k v 0 q) (p.small k)
