-- Laws by which marks and Assign are what crates/scope/specs/Marks.antt says.
use Rattle.std.specs.Prelude.{Result, Ok, Err}
use Prim.Native.Nat.{ℕ, zero, suc, ◌+◌, ◌-◌, ◌≤◌, ◌<◌}
use mathlib.Core.Path.{◌≡◌, refl, sym, ap, ◌∙◌, subst}
use mathlib.Core.Bool.{true, false}
use mathlib.Core.List.{List, []}
use mathlib.Core.Logic.{◌≢◌}
use native.Mathlib.Omega.{arith}
use lib.ListN.{length, get_or, set}
use borrow.Author.Tests.{eq-eqb, ne_eqb}
use Rattle.base.specs.Answer.{accepted, refused}
use Rattle.base.proofs.MemberLaws.{get_d_default}
use Rattle.scope.specs.declared.Counts.{Counts}
use Rattle.scope.specs.declared.Mark.{Mark}
use Rattle.scope.specs.Table.{Table, table_of, record_of, put_record, put_value}
use Rattle.scope.specs.Literals.{index_of}
use Rattle.scope.specs.Sound.{soundb}
use Rattle.scope.specs.Notes.{notes_words}
use Rattle.scope.specs.Outcome.{Outcome, unless, changing}
use Rattle.scope.specs.Contract.{Does}
use Rattle.scope.specs.Marks.{not_held, held_else, holder_of, marked, mark, mark_refusal, mark_of, true_value, assign_refusal, assign_of}
use Rattle.scope.proofs.SoundLaws.{sound_of}
use Rattle.scope.proofs.PairLaws.{below_mark, pair_flip}
use Rattle.scope.proofs.MarkLaws.{held_else_lem}
use Rattle.scope.specs.Refusals.{number}
use Rattle.table.proofs.FoundLaws.{held_err, held_ok}
use Rattle.scope.specs.declared.Refusal.{Refusal}
use Rattle.scope.specs.declared.Refusal.TheVariants.{NotHeld, HasValue}
use Rattle.marks.specs.Answers.{changed, with_records, with_values}

-- ---- a call that changes only the table

refusing : (n : ℕ) (t u : Table) (c : Counts) (k : ℕ) → n ≢ 0 → k ≡ n → Does (unless k t (changing u)) (record { answer = refused n []; counts = c }) t [] []
unfolding unless notes_words
refusing zero t u c k h e = absurd (h refl)
refusing (suc n) t u c k h e = rw e (record { answer = refl; table = refl; noted = refl })

doing : (t u left : Table) (c : Counts) (k : ℕ) → k ≡ 0 → left ≡ u → Does (unless k t (changing u)) (record { answer = accepted []; counts = c }) left [] []
unfolding unless notes_words
doing t u left c k e q = rw e (record { answer = refl; table = q; noted = refl })

-- ---- a held solver index of a sound table

pub record HeldFacts (t : Table) (s g : ℕ) : Type 0 where
  pub solver : s < t.counts.capacity
  pub assignment : s < length t.assignment
  pub record_place : g < length t.records
  pub record_word_lem : get_or t.records g 0 ≡ record_of t g
  pub small : record_of t g ≤ 71

pub held_facts : (t : Table) (s g : ℕ) → soundb t ≡ true → get_or t.global_from_solver s 0 ≡ g + 1 → HeldFacts t s g
held_facts t s g k h =
    let p = sound_of t k in
    let z = p.sizes in
    let x : s < t.counts.solver = below_mark s g p.solver h in
    let y : g < t.counts.global = below_mark g s (pair_flip p.solver) ((p.solver.inverse s g).0 h) in
    let l : g < length t.records = omega arith in
    record { solver = omega arith; assignment = omega arith; record_place = l; record_word_lem = get_d_default t.records g 0 47 l; small = (p.rows.row g).small }

-- the word of a list, by the list that a table has
same_word : {xs ys : List ℕ} (i w : ℕ) → xs ≡ ys → get_or ys i 0 ≡ w → get_or xs i 0 ≡ w
same_word i w e h = ap (λ (l : List ℕ). get_or l i 0) e ∙ h

-- the counts that come back are those given
pub in_left : (o : Outcome) (r : Result (Unit {0}) Refusal) (c : Counts) (gu ug sg gs a rs : List ℕ) → Does o (changed r c) (table_of c gu ug sg gs a rs) [] []
    → Does o (changed r c) (table_of (changed r c).counts gu ug sg gs a rs) [] []
in_left o (Ok _) c gu ug sg gs a rs h = h
in_left o (Err r) c gu ug sg gs a rs h = h

-- ---- marks

module _ (t : Table) (m : Mark) (s : ℕ) where
  pub mark_1 : (c : Counts) → soundb t ≡ false → Does (mark_of t m s) (record { answer = refused 1 []; counts = c }) t [] []
  unfolding mark_of mark_refusal
  mark_1 c k = refusing 1 t (mark m s t) c _ (λ z. omega arith) (rw k)

  module _ (k : soundb t ≡ true) where
    mark_unheld : get_or t.global_from_solver s 0 ≡ 0 → Does (mark_of t m s) (changed (Err NotHeld) t.counts) t [] []
    unfolding mark_of mark_refusal held_else not_held
    mark_unheld h = refusing 8 t (mark m s t) _ _ (λ z. omega arith) (rw (k, eq-eqb (get_or t.global_from_solver s 0) 0 h))

    mark_done : (g : ℕ) → get_or t.global_from_solver s 0 ≡ g + 1
        → Does (mark_of t m s) (changed (Ok tt) t.counts) (with_records t (set t.records g (marked m (get_or t.records g 0)))) [] []
    unfolding mark_of mark_refusal not_held mark put_record
    mark_done g h =
        let d : holder_of t s ≡ g = omega arith in
        let w = (held_facts t s g k h).record_word_lem in
        doing t (mark m s t) _ _ _ (rw k (held_else_lem t s 0 (ne_eqb (get_or t.global_from_solver s 0) 0 (λ z. omega arith))))
        (ap (λ (l : List ℕ). with_records t l) (ap (λ (r : ℕ). set t.records g (marked m r)) w
        ∙ ap (λ (j : ℕ). set t.records j (marked m (record_of t j))) (sym d)))

-- the holder has a record, and that is one of the 72
module _ (s g : ℕ) (gs rs : List ℕ) (h : get_or gs s 0 ≡ g + 1) (t : Table) (k : soundb t ≡ true) (p : t.global_from_solver ≡ gs) (q : t.records ≡ rs) where
  pub mark_in_place : length rs ≤ g → ⊥
  mark_in_place l = let x = (held_facts t s g k (same_word s (g + 1) p h)).record_place in let e = ap length q in omega arith

  pub mark_in_small : 71 < get_or rs g 0 → ⊥
  mark_in_small l =
      let x = held_facts t s g k (same_word s (g + 1) p h) in
      let e = same_word g (get_or rs g 0) q refl in
      let y = x.record_word_lem in
      let z = x.small in
      omega arith

-- in the lists gs and rs, of every sound table that has them
module _ (m : Mark) (s : ℕ) (gs rs : List ℕ) where
  abbrev MarkIn : Result (Unit {0}) Refusal → List ℕ → Type 0
  MarkIn r rs2 =
      (t : Table) → soundb t ≡ true → t.global_from_solver ≡ gs → t.records ≡ rs
      → Does (mark_of t m s) (changed r t.counts) (with_records t rs2) [] []

  pub mark_in_unheld : get_or gs s 0 ≡ 0 → MarkIn (Err NotHeld) rs
  mark_in_unheld h t k p q =
      subst (λ (l : List ℕ). Does (mark_of t m s) (changed (Err NotHeld) t.counts) (with_records t l) [] []) q
      (mark_unheld t m s k (same_word s 0 p h))

  pub mark_in_done : (g v : ℕ) → get_or gs s 0 ≡ g + 1 → v ≡ marked m (get_or rs g 0) → MarkIn (Ok tt) (set rs g v)
  mark_in_done g v h e t k p q =
      subst (λ (l : List ℕ). Does (mark_of t m s) (changed (Ok tt) t.counts) (with_records t l) [] [])
      (ap (λ (l : List ℕ). set l g (marked m (get_or l g 0))) q ∙ ap (λ (w : ℕ). set rs g w) (sym e))
      (mark_done t m s k g (same_word s (g + 1) p h))

-- ---- Assign

module _ (t : Table) (lit : ℕ) where
  pub assign_1 : (c : Counts) → soundb t ≡ false → Does (assign_of t lit) (record { answer = refused 1 []; counts = c }) t [] []
  unfolding assign_of assign_refusal
  assign_1 c k = refusing 1 t _ c _ (λ z. omega arith) (rw k)

  module _ (k : soundb t ≡ true) where
    assign_unheld : get_or t.global_from_solver (index_of lit) 0 ≡ 0 → Does (assign_of t lit) (changed (Err NotHeld) t.counts) t [] []
    unfolding assign_of assign_refusal held_else not_held
    assign_unheld h = refusing 8 t _ _ _ (λ z. omega arith) (rw (k, eq-eqb (get_or t.global_from_solver (index_of lit) 0) 0 h))

    assign_9 : get_or t.global_from_solver (index_of lit) 0 ≢ 0 → get_or t.assignment (index_of lit) 0 ≢ 0
        → Does (assign_of t lit) (changed (Err HasValue) t.counts) t [] []
    unfolding assign_of assign_refusal not_held
    assign_9 h n =
        let w = held_else_lem t (index_of lit) _ (ne_eqb (get_or t.global_from_solver (index_of lit) 0) 0 h) in
        refusing 9 t _ _ _ (λ z. omega arith) (rw k (w ∙ rw (ne_eqb (get_or t.assignment (index_of lit) 0) 0 n)))

    assign_done : get_or t.global_from_solver (index_of lit) 0 ≢ 0 → get_or t.assignment (index_of lit) 0 ≡ 0
        → Does (assign_of t lit) (changed (Ok tt) t.counts) (with_values t (set t.assignment (index_of lit) (true_value lit))) [] []
    unfolding assign_of assign_refusal not_held put_value
    assign_done h z =
        let w = held_else_lem t (index_of lit) _ (ne_eqb (get_or t.global_from_solver (index_of lit) 0) 0 h) in
        doing t _ _ _ _ (rw k (w ∙ rw z)) refl

-- in the lists gs and vs, of every sound table that has them
module _ (lit : ℕ) (gs vs : List ℕ) where
  abbrev AssignIn : Result (Unit {0}) Refusal → List ℕ → Type 0
  AssignIn r vs2 =
      (t : Table) → soundb t ≡ true → t.global_from_solver ≡ gs → t.assignment ≡ vs
      → Does (assign_of t lit) (changed r t.counts) (with_values t vs2) [] []

  pub assign_in_unheld : (r : Refusal) → ((t : Table) → t.global_from_solver ≡ gs → number r ≡ held_else t (index_of lit) 0) → AssignIn (Err r) vs
  assign_in_unheld r f t k p q =
      let u = held_err t (index_of lit) r (f t p) in
      subst (λ (l : List ℕ). Does (assign_of t lit) (changed (Err r) t.counts) (with_values t l) [] []) q
      (rw u.0 (assign_unheld t lit k u.1))

  module _ (f : (t : Table) → t.global_from_solver ≡ gs → 0 ≡ held_else t (index_of lit) 0) where
    -- a held index has an assignment word
    pub assign_in_place : (t : Table) → soundb t ≡ true → t.global_from_solver ≡ gs → t.assignment ≡ vs → length vs ≤ index_of lit → ⊥
    assign_in_place t k p q l =
        let h = held_ok t (index_of lit) (f t p) in
        let x = (held_facts t (index_of lit) (get_or t.global_from_solver (index_of lit) 0 - 1) k (omega arith)).assignment in
        let e = ap length q in
        omega arith

    pub assign_in_9 : get_or vs (index_of lit) 0 ≢ 0 → AssignIn (Err HasValue) vs
    assign_in_9 n t k p q =
        subst (λ (l : List ℕ). Does (assign_of t lit) (changed (Err HasValue) t.counts) (with_values t l) [] []) q
        (assign_9 t lit k (held_ok t (index_of lit) (f t p)) (λ z. n (same_word (index_of lit) 0 (sym q) z)))

    pub assign_in_done : (v : ℕ) → get_or vs (index_of lit) 0 ≡ 0 → v ≡ true_value lit → AssignIn (Ok tt) (set vs (index_of lit) v)
    assign_in_done v z e t k p q =
        subst (λ (l : List ℕ). Does (assign_of t lit) (changed (Ok tt) t.counts) (with_values t l) [] [])
        (ap (λ (l : List ℕ). set l (index_of lit) (true_value lit)) q ∙ ap (λ (w : ℕ). set vs (index_of lit) w) (sym e))
        (assign_done t lit k (held_ok t (index_of lit) (f t p)) (same_word (index_of lit) 0 q z))
