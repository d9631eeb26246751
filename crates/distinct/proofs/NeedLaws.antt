-- Laws of the loops that count: what is kept after i literals, whichever way is counted, and which users are marked.
use Prim.Native.Nat.{ℕ, ◌+◌, ◌-◌, ◌^◌, ◌≤◌, ◌<◌, max}
use mathlib.Core.Path.{◌≡◌, refl, sym, ap, ◌∙◌, subst}
use mathlib.Core.Bool.{Bool, true, false, ◌&&◌, ◌||◌, not, true≢false}
use mathlib.Core.List.{List, [], ◌∷◌}
use mathlib.Core.Logic.{⊎_elim}
use native.Mathlib.Omega.{arith}
use lib.Dec.{eqb, ltb, leb}
use lib.ListN.{length, get_or, set, take, replicate, length-set}
use lib.Seq.{take_all, get_or-set_same, get_or-set_other}
use borrow.Author.Tests.{eq-eqb, ne_eqb, eqb-true, ltb-true, ltb-false, lt-ltb}
use Rattle.base.specs.Answer.{accepted, refused}
use Rattle.base.specs.Choice.{pick}
use Rattle.base.specs.Bounded.{count, any_of}
use Rattle.base.proofs.Truth.{same}
use Rattle.base.proofs.BelowLaws.{and_true, and_both, and_left, and_right, and_not_right}
use Rattle.base.proofs.CountLaws.{count_most, count_none}
use Rattle.base.proofs.StoreLaws.{zeros}
use Rattle.base.proofs.MemberLaws.{or_none, or_left, or_right}
use Rattle.std.specs.Prelude.{Option, Some, None}
use Rattle.std.specs.Option.{is_some}
use Rattle.scope.specs.declared.Solver.{Solver}
use Rattle.table.proofs.FoundLaws.{solver_word}
use Rattle.scope.specs.Literals.{index_of}
use Rattle.scope.proofs.ResultLaws.{word_none, word_some}
use Rattle.distinct.specs.declared.Needs.{Needs}
use Rattle.distinct.specs.declared.UsersCounted.{UsersCounted}
use Rattle.scope.specs.Distinct.{named, count_named, is_first, plain_count, top_of, is_low, needs_grant, Counting, users_by, Within}
use Rattle.distinct.specs.Users.{needs_by}
use Rattle.scope.proofs.DistinctLaws.{named_start, named_more, named_count_start, named_count_more, named_most}
use Rattle.scope.proofs.DistinctLaws.{plain_count_lem, first_count_more, top_start, top_more, top_low, top_tight}
use Rattle.scope.proofs.DistinctUsers.{within_of}

-- ---- the tests of one user

pub needs_none : (gu sg : List ℕ) (u : ℕ) → get_or gu u 0 ≡ 0 → true ≡ needs_grant gu sg u
unfolding needs_grant
needs_none gu sg u e = sym (word_none true _ _ e)

needs_some : (gu sg : List ℕ) (u g : ℕ) → get_or gu u 0 ≡ g + 1 → eqb (get_or sg g 0) 0 ≡ needs_grant gu sg u
unfolding needs_grant
needs_some gu sg u g e = sym (word_some true (λ g. eqb (get_or sg g 0) 0) _ g e)

pub needs_solver : (gu sg : List ℕ) (u g : ℕ) (o : Option Solver) (b : Bool) → get_or gu u 0 ≡ g + 1 → get_or sg g 0 ≡ solver_word o → is_some o ≡ not b
    → b ≡ needs_grant gu sg u
needs_solver gu sg u g None true e q s = sym (eq-eqb (get_or sg g 0) 0 q) ∙ needs_some gu sg u g e
needs_solver gu sg u g (Some i) false e q s = sym (ne_eqb (get_or sg g 0) 0 (λ z. omega arith)) ∙ needs_some gu sg u g e
needs_solver gu sg u g None false e q s = absurd (true≢false (sym s))
needs_solver gu sg u g (Some i) true e q s = absurd (true≢false s)

-- a user that has a solver index is mapped
held_mapped : (gu sg : List ℕ) (mark u : ℕ) → needs_grant gu sg u ≡ false → is_low gu mark u ≡ false
unfolding is_low
held_mapped gu sg mark u e =
    let n : get_or gu u 0 ≡ 0 → ⊥ = λ z. true≢false (needs_none gu sg u z ∙ e) in
    and_not_right (ltb u mark) _ (ne_eqb (get_or gu u 0) 0 n)

-- a test that says of a user that it is unmapped and below the watermark
pub low_is : (a : Bool) (gu : List ℕ) (mark u : ℕ) → (a ≡ true → (u < mark) × (get_or gu u 0 ≡ 0)) → (u < mark → get_or gu u 0 ≡ 0 → a ≡ true)
    → a ≡ is_low gu mark u
unfolding is_low
low_is true gu mark u f g = sym (and_both (lt-ltb u mark (f refl).0) (eq-eqb (get_or gu u 0) 0 (f refl).1))
low_is false gu mark u f g = go (ltb u mark && eqb (get_or gu u 0) 0) refl
  where
    go : (b : Bool) → ltb u mark && eqb (get_or gu u 0) 0 ≡ b → false ≡ b
    go false e = refl
    go true e = g (ltb-true u mark (and_left (ltb u mark) _ e)) (eqb-true (get_or gu u 0) 0 (and_right (ltb u mark) _ e))

-- ---- the counts after i literals

-- how many users of the first i literals pass a test, by the users and by the literals
abbrev pub by_users : List ℕ → ℕ → (ℕ → Bool) → ℕ
by_users lits i p = count_named 4096 p (take i lits)

abbrev pub by_lits : List ℕ → ℕ → (ℕ → Bool) → ℕ
by_lits lits i p = count i (is_first p lits)

pub record CountedTo (f : (ℕ → Bool) → ℕ) (mark : ℕ) (gu sg lits : List ℕ) (i : ℕ) (n : Needs) : Type 0 where
  pub low : n.low ≡ f (is_low gu mark)
  pub top : n.top ≡ top_of mark (take i lits)
  pub grants : n.grants ≡ f (needs_grant gu sg)

-- n with the watermark after raised above the user u, and m with u counted if it is the first
abbrev pub with_top : Needs → ℕ → Needs
with_top n u = record n { top = max n.top (u + 1) }

abbrev pub with_user : ℕ → List ℕ → Needs → Bool → ℕ → Needs
with_user mark gu m first u = record m { low = m.low + pick (first && is_low gu mark u) 1 0; grants = m.grants + pick first 1 0 }

low_eq : {n m : Needs} → n ≡ m → n.low ≡ m.low
low_eq e = ap (λ (k : Needs). k.low) e

top_eq : {n m : Needs} → n ≡ m → n.top ≡ m.top
top_eq e = ap (λ (k : Needs). k.top) e

grants_eq : {n m : Needs} → n ≡ m → n.grants ≡ m.grants
grants_eq e = ap (λ (k : Needs). k.grants) e

counted_start : (f : (ℕ → Bool) → ℕ) (mark : ℕ) (gu sg lits : List ℕ) (n : Needs) → ((p : ℕ → Bool) → f p ≡ 0)
    → n ≡ record { low = 0; top = mark; grants = 0 } → CountedTo f mark gu sg lits 0 n
counted_start f mark gu sg lits n z e =
    record {
      low = low_eq e ∙ sym (z (is_low gu mark));
      top = top_eq e ∙ top_start mark lits;
      grants = grants_eq e ∙ sym (z (needs_grant gu sg));
    }

-- one literal more, whose user is u: what it adds, where `first` says that no earlier one has its user
module _ (f g : (ℕ → Bool) → ℕ) (first : Bool) (mark : ℕ) (gu sg lits : List ℕ) (i : ℕ) (n m : Needs)
    (a : (p : ℕ → Bool) → g p ≡ f p + pick (first && p (index_of (get_or lits i 0))) 1 0) (l : i < length lits)
    (d : CountedTo f mark gu sg lits i n) (e : m ≡ with_top n (index_of (get_or lits i 0))) where
  counted_top : m.top ≡ top_of mark (take (i + 1) lits)
  counted_top = let x = top_eq e in let y = d.top in let z = top_more mark lits i l in omega arith

  -- a user that has a solver index adds nothing
  counted_held : needs_grant gu sg (index_of (get_or lits i 0)) ≡ false → CountedTo g mark gu sg lits (i + 1) m
  counted_held h =
      record {
        low = low_eq e ∙ d.low ∙ sym (none (is_low gu mark) (held_mapped gu sg mark _ h));
        top = counted_top;
        grants = grants_eq e ∙ d.grants ∙ sym (none (needs_grant gu sg) h);
      }
    where
      none : (p : ℕ → Bool) → p (index_of (get_or lits i 0)) ≡ false → g p ≡ f p
      none p q = let x = a p in let y : ◌≡◌ {A = ℕ} (pick (first && p (index_of (get_or lits i 0))) 1 0) 0 = rw (and_not_right first _ q) in omega arith

  counted_needs : (r : Needs) → needs_grant gu sg (index_of (get_or lits i 0)) ≡ true → r ≡ with_user mark gu m first (index_of (get_or lits i 0))
      → CountedTo g mark gu sg lits (i + 1) r
  counted_needs r h c =
      record {
        low = low_eq c ∙ ap (λ (k : ℕ). k + pick (first && is_low gu mark (index_of (get_or lits i 0))) 1 0) (low_eq e ∙ d.low) ∙ sym (a (is_low gu mark));
        top = top_eq c ∙ counted_top;
        grants = grants_eq c ∙ ap (λ (k : ℕ). k + pick first 1 0) (grants_eq e ∙ d.grants)
            ∙ ap (λ (b : Bool). f (needs_grant gu sg) + pick b 1 0) (sym (and_true first) ∙ ap (λ (b : Bool). first && b) (sym h))
            ∙ sym (a (needs_grant gu sg));
      }

counted_end : (k : (ℕ → Bool) → List ℕ → ℕ) (f : (ℕ → Bool) → ℕ) (mark : ℕ) (gu sg lits : List ℕ) (i : ℕ) (n : Needs) → length lits ≤ i
    → ((p : ℕ → Bool) → f p ≡ k p lits)
    → CountedTo f mark gu sg lits i n → n ≡ needs_by k mark gu sg lits
counted_end k f mark gu sg lits i n l q d =
    let a = d.low ∙ q (is_low gu mark) in
    let t = d.top ∙ ap (top_of mark) (take_all i lits l) in
    let b = d.grants ∙ q (needs_grant gu sg) in
    λ j. record { low = a j; top = t j; grants = b j }

-- ---- the marks after i literals

pub record Marked (gu sg lits : List ℕ) (i : ℕ) (seen : List ℕ) : Type 0 where
  pub size : length seen ≡ 4096
  pub at : (v : ℕ) → v < 4096 → eqb (get_or seen v 0) 0 ≡ not (named (take i lits) v && needs_grant gu sg v)

marked_start : (gu sg lits : List ℕ) → Marked gu sg lits 0 (replicate 4096 0)
marked_start gu sg lits = record { size = refl; at = λ v l. rw (zeros 4096 v, named_start lits v) }

-- a user that is not seen yet is one that no earlier literal has
seen_first : (gu sg lits : List ℕ) (i u : ℕ) (seen : List ℕ) → u < 4096 → needs_grant gu sg u ≡ true → Marked gu sg lits i seen
    → eqb (get_or seen u 0) 0 ≡ not (named (take i lits) u)
seen_first gu sg lits i u seen l h m = m.at u l ∙ ap not (ap (λ (b : Bool). named (take i lits) u && b) h ∙ and_true (named (take i lits) u))

-- N named before, E the user of this literal, Q in need
unmarked : (N E Q : Bool) → (E ≡ true → Q ≡ false) → not (N && Q) ≡ not ((N || E) && Q)
unmarked true E Q h = refl
unmarked false true Q h = rw (h refl)
unmarked false false Q h = refl

marked_held : (gu sg lits : List ℕ) (i : ℕ) (seen : List ℕ) → i < length lits → needs_grant gu sg (index_of (get_or lits i 0)) ≡ false
    → Marked gu sg lits i seen → Marked gu sg lits (i + 1) seen
marked_held gu sg lits i seen l h m =
    let u = index_of (get_or lits i 0) in
    record {
      size = m.size;
      at = λ v b. m.at v b ∙ unmarked (named (take i lits) v) (eqb u v) (needs_grant gu sg v)
          (λ e. ap (needs_grant gu sg) (sym (eqb-true u v e)) ∙ h)
          ∙ ap (λ (x : Bool). not (x && needs_grant gu sg v)) (sym (named_more lits i v l));
    }

marked_needs : (gu sg lits : List ℕ) (i : ℕ) (seen : List ℕ) → i < length lits → index_of (get_or lits i 0) < 4096
    → needs_grant gu sg (index_of (get_or lits i 0)) ≡ true → Marked gu sg lits i seen → Marked gu sg lits (i + 1) (set seen (index_of (get_or lits i 0)) 1)
marked_needs gu sg lits i seen l k h m =
    let u = index_of (get_or lits i 0) in
    let z = m.size in
    record {
      size = simp length-set m.size;
      at = λ v b. ⊎_elim
          (λ (e : v ≡ u). rw (named_more lits i v l, e, get_or-set_same seen u 1 0 (omega arith), eq-eqb u u refl, h) (all (named (take i lits) u)))
          (λ (e : v ≡ u → ⊥). rw (named_more lits i v l, get_or-set_other seen u v 1 0 e, ne_eqb u v (λ o. e (sym o)), or_none (named (take i lits) v))
          (m.at v b))
          (same v u);
    }
  where
    all : (b : Bool) → false ≡ not ((b || true) && true)
    all true = refl
    all false = refl

-- ---- the loop with marks

pub record MarkedTo (mark : ℕ) (gu sg lits : List ℕ) (i : ℕ) (seen : List ℕ) (n : Needs) : Type 0 where
  pub counted : CountedTo (by_users lits i) mark gu sg lits i n
  pub marked : Marked gu sg lits i seen

adds_user : (lits : List ℕ) (i : ℕ) → i < length lits → index_of (get_or lits i 0) < 4096
    → (p : ℕ → Bool) → by_users lits (i + 1) p ≡ by_users lits i p + pick (not (named (take i lits) (index_of (get_or lits i 0))) && p (index_of
    (get_or lits i 0))) 1 0
unfolding is_first
adds_user lits i l k p = named_count_more lits i p l k

pub marks_start : (mark : ℕ) (gu sg lits : List ℕ) (n : Needs) → n ≡ record { low = 0; top = mark; grants = 0 }
    → MarkedTo mark gu sg lits 0 (replicate 4096 0) n
marks_start mark gu sg lits n e =
    record {
      counted = counted_start (by_users lits 0) mark gu sg lits n (named_count_start lits) e;
      marked = marked_start gu sg lits;
    }

pub marks_small : (mark : ℕ) (gu sg lits : List ℕ) (i u : ℕ) (seen : List ℕ) (n m : Needs) → MarkedTo mark gu sg lits i seen n → m ≡ with_top n u
    → (m.low ≤ 8192) × (m.grants ≤ 8192)
marks_small mark gu sg lits i u seen n m d e =
    let a = low_eq e ∙ d.counted.low in
    let b = grants_eq e ∙ d.counted.grants in
    let x = named_most 4096 (is_low gu mark) (take i lits) in
    let y = named_most 4096 (needs_grant gu sg) (take i lits) in
    (omega arith, omega arith)

module _ (mark : ℕ) (gu sg lits : List ℕ) (i : ℕ) (seen : List ℕ) (n m : Needs) (w : Within lits 4096) (l : i < length lits)
    (d : MarkedTo mark gu sg lits i seen n) (e : m ≡ with_top n (index_of (get_or lits i 0))) where
  first : Bool
  first = not (named (take i lits) (index_of (get_or lits i 0)))

  pub marks_held : needs_grant gu sg (index_of (get_or lits i 0)) ≡ false → MarkedTo mark gu sg lits (i + 1) seen m
  unfolding first
  marks_held h =
      record {
        counted = counted_held (by_users lits i) (by_users lits (i + 1)) first mark gu sg lits i n m (adds_user lits i l (w.at i l)) l d.counted e h;
        marked = marked_held gu sg lits i seen l h d.marked;
      }

  pub marks_needs : (place : ℕ) (r : Needs) → place ≡ index_of (get_or lits i 0) → needs_grant gu sg (index_of (get_or lits i 0)) ≡ true
      → r ≡ with_user mark gu m (eqb (get_or seen place 0) 0) (index_of (get_or lits i 0))
      → MarkedTo mark gu sg lits (i + 1) (set seen place 1) r
  unfolding first
  marks_needs place r q h c =
      let u = index_of (get_or lits i 0) in
      let f = ap (λ (v : ℕ). eqb (get_or seen v 0) 0) q ∙ seen_first gu sg lits i u seen (w.at i l) h d.marked in
      record {
        counted = counted_needs (by_users lits i) (by_users lits (i + 1)) first mark gu sg lits i n m (adds_user lits i l (w.at i l)) l d.counted e r h
            (subst (λ (b : Bool). r ≡ with_user mark gu m b u) f c);
        marked = subst (λ (v : ℕ). Marked gu sg lits (i + 1) (set seen v 1)) (sym q) (marked_needs gu sg lits i seen l (w.at i l) h d.marked);
      }

-- ---- the plain loop

abbrev pub PlainTo : ℕ → List ℕ → List ℕ → List ℕ → ℕ → Needs → Type 0
PlainTo mark gu sg lits i n = CountedTo (by_lits lits i) mark gu sg lits i n

adds_lit : (lits : List ℕ) (i : ℕ) (p : ℕ → Bool)
    → by_lits lits (i + 1) p ≡ by_lits lits i p + pick (not (named (take i lits) (index_of (get_or lits i 0))) && p (index_of (get_or lits i 0))) 1 0
unfolding is_first
adds_lit lits i p = first_count_more lits i p

pub plain_start : (mark : ℕ) (gu sg lits : List ℕ) (n : Needs) → n ≡ record { low = 0; top = mark; grants = 0 } → PlainTo mark gu sg lits 0 n
plain_start mark gu sg lits n e = counted_start (by_lits lits 0) mark gu sg lits n (λ p. count_none (is_first p lits)) e

pub plain_small : (mark : ℕ) (gu sg lits : List ℕ) (i u : ℕ) (n m : Needs) → length lits ≤ 8192 → i ≤ length lits → PlainTo mark gu sg lits i n
    → m ≡ with_top n u → (m.low ≤ 8192) × (m.grants ≤ 8192)
plain_small mark gu sg lits i u n m l c d e =
    let a = low_eq e ∙ d.low in
    let b = grants_eq e ∙ d.grants in
    let x = count_most i (is_first (is_low gu mark) lits) in
    let y = count_most i (is_first (needs_grant gu sg) lits) in
    (omega arith, omega arith)

module _ (mark : ℕ) (gu sg lits : List ℕ) (i : ℕ) (n m : Needs) (l : i < length lits)
    (d : PlainTo mark gu sg lits i n) (e : m ≡ with_top n (index_of (get_or lits i 0))) where
  pub plain_held : needs_grant gu sg (index_of (get_or lits i 0)) ≡ false → PlainTo mark gu sg lits (i + 1) m
  plain_held h =
      counted_held (by_lits lits i) (by_lits lits (i + 1)) (not (named (take i lits) (index_of (get_or lits i 0)))) mark gu sg lits i n m
      (adds_lit lits i) l d e h

  pub plain_needs : (before : Bool) (r : Needs) → before ≡ named (take i lits) (index_of (get_or lits i 0))
      → needs_grant gu sg (index_of (get_or lits i 0)) ≡ true
      → r ≡ with_user mark gu m (not before) (index_of (get_or lits i 0))
      → PlainTo mark gu sg lits (i + 1) r
  plain_needs before r b h c =
      counted_needs (by_lits lits i) (by_lits lits (i + 1)) (not (named (take i lits) (index_of (get_or lits i 0)))) mark gu sg lits i n m
      (adds_lit lits i) l d e r h (subst (λ (x : Bool). r ≡ with_user mark gu m (not x) (index_of (get_or lits i 0))) b c)

pub plain_end : (mark : ℕ) (gu sg lits : List ℕ) (i : ℕ) (n : Needs) → i ≡ length lits → PlainTo mark gu sg lits i n
    → n ≡ needs_by plain_count mark gu sg lits
unfolding plain_count
plain_end mark gu sg lits i n e d =
    counted_end plain_count (by_lits lits i) mark gu sg lits i n (omega arith) (λ p. ap (λ (m : ℕ). count m (is_first p lits)) e) d

-- ---- the answers

module _ (lits : List ℕ) (b : Bool) (q : b ≡ ltb 8192 (length lits) || any_of (λ c. leb 4096 (index_of c)) lits) where
  pub users_refused : (k : Counting) (mark : ℕ) (gu sg : List ℕ) → b ≡ true → refused 3 [] ≡ users_by k mark gu sg lits
  unfolding users_by
  users_refused k mark gu sg e = rw (sym q ∙ e)

  module _ (e : b ≡ false) where
    pub users_range : (length lits ≤ 8192) × Within lits 4096
    users_range = (
      ltb-false 8192 (length lits) (or_left (ltb 8192 (length lits)) _ (sym q ∙ e)),
      within_of lits 4096 (or_right (ltb 8192 (length lits)) _ (sym q ∙ e)),
    )

    pub users_told : (k : Counting) (mark : ℕ) (gu sg : List ℕ) (n : Needs) (r : UsersCounted) → n ≡ needs_by k mark gu sg lits
        → r ≡ record { users = n.low + (n.top - mark); grants = n.grants }
        → accepted (r.users ∷ r.grants ∷ []) ≡ users_by k mark gu sg lits
    unfolding users_by
    users_told k mark gu sg n r h z =
        ap (λ (x : UsersCounted). accepted (x.users ∷ x.grants ∷ [])) z
        ∙ rw (sym q ∙ e) (λ i. accepted (((h i).low + ((h i).top - mark)) ∷ (h i).grants ∷ []))

    pub users_fit : (k : Counting) (mark : ℕ) (gu sg : List ℕ) (n : Needs) → k (is_low gu mark) lits ≤ 8192 → n ≡ needs_by k mark gu sg lits
        → (mark ≤ n.top) × (n.low + (n.top - mark) < 2 ^ 32)
    users_fit k mark gu sg n l h =
        let a = ap (λ (m : Needs). m.low) h in
        let t = ap (λ (m : Needs). m.top) h in
        let u = top_low mark lits in
        let v = top_tight mark lits (max mark 4096) (omega arith) (λ i j. let x = users_range.1.at i j in omega arith) in
        (omega arith, omega arith)

pub plain_most : (p : ℕ → Bool) (lits : List ℕ) → length lits ≤ 8192 → plain_count p lits ≤ 8192
unfolding plain_count
plain_most p lits l = let x = count_most (length lits) (is_first p lits) in omega arith

-- counted plainly, it is the same
pub plainly_counted : (mark : ℕ) (gu sg lits : List ℕ) (n : Needs) → Within lits 4096 → n ≡ needs_by plain_count mark gu sg lits
    → n ≡ needs_by (count_named 4096) mark gu sg lits
plainly_counted mark gu sg lits n w e =
    e ∙ (λ i. record { low = plain_count_lem (is_low gu mark) lits w i; top = top_of mark lits; grants = plain_count_lem (needs_grant gu sg) lits w i })
