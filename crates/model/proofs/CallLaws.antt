-- The call: what its refusal and its accepted outcome say of the answer and of the lent memory.
use Rattle.std.specs.Prelude.{Ok, Err}
use Rattle.std.specs.Prelude as P
use Prim.Native.Nat.{ℕ, ◌≤◌, ◌<◌}
use mathlib.Core.Path.{◌≡◌, refl, sym, ap, ◌∙◌}
use mathlib.Core.Bool.{true, false, ◌||◌, not}
use mathlib.Core.List.{List, [], ◌∷◌}
use native.Mathlib.Omega.{arith}
use lib.Dec.{ltb}
use lib.ListN.{length}
use lib.Seq.{sets}
use borrow.Author.Tests.{lt-ltb, le-ltb, ltb-false, not-false}
use Rattle.base.specs.Choice.{pick}
use Rattle.base.specs.Answer.{Answer, accepted, refused}
use Rattle.base.proofs.MemberLaws.{or_left, or_right}
use Rattle.scope.proofs.ResultLaws.{past, unless_some}
use Rattle.scope.specs.Table.{Table}
use Rattle.scope.specs.Sound.{soundb}
use Rattle.scope.specs.Notes.{Note, notes_words}
use Rattle.scope.specs.Outcome.{Outcome, refusal, unless}
use Rattle.scope.specs.Contract.{Said, Does}
use Rattle.scope.specs.Models.{global_model, user_model, model_refusal, model_of}
use Rattle.model.specs.declared.Modelled.{Modelled}
use Rattle.scope.specs.declared.Counts.{Counts}
use Rattle.scope.specs.declared.Refusal.{Refusal}
use Rattle.scope.specs.declared.Refusal.TheVariants.{Unsound}
use Rattle.scope.specs.Refusals.{number, refused_by}
use Rattle.scope.proofs.RefusedLaws.{number_not_0, refused_err, refusal_at, refusal_back}
use Rattle.model.specs.Answers.{modelled}
use Rattle.model.proofs.RowLaws.{globals_count, users_most}

-- the number and the values tell the answer
abbrev modelled_from : Answer → P.Result Modelled Refusal
modelled_from (accepted []) = Err Unsound
modelled_from (accepted (a ∷ [])) = Err Unsound
modelled_from (accepted (a ∷ b ∷ vs)) = Ok (record { globals = a; users = b })
modelled_from (refused n vs) = Err (refusal_at n)

modelled_back : (r : P.Result Modelled Refusal) (c : Counts) → modelled_from (modelled r c).answer ≡ r
modelled_back (Ok x) c = refl
modelled_back (Err r) c = ap Err (refusal_back r)

pub modelled_one : (r s : P.Result Modelled Refusal) (t : Table) → (modelled r t.counts).answer ≡ (modelled s t.counts).answer → r ≡ s
modelled_one r s t h = sym (modelled_back r t.counts) ∙ ap modelled_from h ∙ modelled_back s t.counts

-- ---- refusals

refusal_1 : (t : Table) (a b : ℕ) → soundb t ≡ false → 1 ≡ model_refusal t a b
unfolding model_refusal
refusal_1 t a b h = rw h

pub refusal_2_globals : (t : Table) (a b : ℕ) → soundb t ≡ true → a < t.counts.global → 2 ≡ model_refusal t a b
unfolding model_refusal
refusal_2_globals t a b h l = rw (h, globals_count t, lt-ltb a t.counts.global l)

module _ (t : Table) (a b k : ℕ) (h : soundb t ≡ true) (l : t.counts.global ≤ a) (e : k ≡ length (user_model t)) where
  pub refusal_2_users : b < k → 2 ≡ model_refusal t a b
  unfolding model_refusal
  refusal_2_users m = rw (h, globals_count t, le-ltb a t.counts.global l, ← e, lt-ltb b k m)

  pub refusal_0 : k ≤ b → 0 ≡ model_refusal t a b
  unfolding model_refusal
  refusal_0 m = rw (h, globals_count t, le-ltb a t.counts.global l, ← e, le-ltb b k m)

-- with room for a literal for each user
pub refusal_0_ample : (t : Table) (a b : ℕ) → soundb t ≡ true → t.counts.global ≤ a → t.counts.user ≤ b → 0 ≡ model_refusal t a b
refusal_0_ample t a b h l m = let k = users_most t in refusal_0 t a b (length (user_model t)) h l refl (omega arith)

-- where none applies
pub record ModelAsks (t : Table) (a b : ℕ) : Type 0 where
  pub sound : soundb t ≡ true
  pub globals : t.counts.global ≤ a
  pub users : length (user_model t) ≤ b

pub model_asks : (t : Table) (a b n : ℕ) → n ≡ model_refusal t a b → n ≡ 0 → ModelAsks t a b
unfolding model_refusal
model_asks t a b n e z =
    let p = past (not (soundb t)) 1 (pick (ltb a (length (global_model t)) || ltb b (length (user_model t))) 2 0) (omega arith) (sym e ∙ z) in
    let x = ltb a (length (global_model t)) in
    let y = ltb b (length (user_model t)) in
    let q = past (x || y) 2 0 (omega arith) p.1 in
    let k = ltb-false a (length (global_model t)) (or_left x y q.0) in
    let g = globals_count t in
    record { sound = not-false (soundb t) p.0; globals = omega arith; users = ltb-false b (length (user_model t)) (or_right x y q.0) }

-- ---- the call

model_refused : (t : Table) (a b n : ℕ) → n ≡ model_refusal t a b → (n ≡ 0 → ⊥) → model_of t a b ≡ refusal n t
unfolding model_of
model_refused t a b n e h = unless_some n (model_refusal t a b) t _ e h

-- what an accepted call comes to
abbrev model_done : Table → Outcome
model_done t =
    record {
      answer = accepted (length (global_model t) ∷ length (user_model t) ∷ []);
      table = t;
      notes = [];
      words = global_model t;
      more = user_model t;
      bytes = [];
    }

model_done_lem : (t : Table) (a b n : ℕ) → n ≡ model_refusal t a b → n ≡ 0 → model_of t a b ≡ model_done t
unfolding model_of unless
model_done_lem t a b n e z = rw (← e, z)

-- what a call says of its answer and the table, and of the two lent slices
pub record ModelTold (t : Table) (a b : List ℕ) (said : Said) (left : Table) (x y : List ℕ) : Type 0 where
  pub does : Does (model_of t (length a) (length b)) said left [] []
  pub globals : x ≡ sets a 0 (model_of t (length a) (length b)).words
  pub users : y ≡ sets b 0 (model_of t (length a) (length b)).more

model_told_by : (t : Table) (a b : List ℕ) (o : Outcome) → model_of t (length a) (length b) ≡ o → o.notes ≡ [] → (said : Said) (left : Table) (x y : List ℕ)
    → said.answer ≡ o.answer → left ≡ o.table → x ≡ sets a 0 o.words → y ≡ sets b 0 o.more → ModelTold t a b said left x y
unfolding notes_words
model_told_by t a b o e z said left x y p q r s =
    record {
      does = record {
        answer = p ∙ sym (ap (λ (w : Outcome). w.answer) e);
        table = q ∙ sym (ap (λ (w : Outcome). w.table) e);
        noted = sym (ap (λ (w : Outcome). sets [] 0 (notes_words w.notes)) e ∙ ap (λ (ns : List Note). sets [] 0 (notes_words ns)) z);
      };
      globals = r ∙ sym (ap (λ (w : Outcome). sets a 0 w.words) e);
      users = s ∙ sym (ap (λ (w : Outcome). sets b 0 w.more) e);
    }

pub model_told_refused : {A : Type 0} (t : Table) (a b : List ℕ) (x : P.Result A Refusal) (r : Refusal)
    → refused_by x ≡ model_refusal t (length a) (length b) → x ≡ Err r → ModelTold t a b (modelled (Err r) t.counts) t a b
model_told_refused t a b x r e w =
    model_told_by t a b (refusal (number r) t)
    (model_refused t (length a) (length b) (number r) (sym (refused_err x r w) ∙ e) (number_not_0 r)) refl _ _ _ _ refl refl refl refl

pub model_told_unsound : (t : Table) (a b : List ℕ) → soundb t ≡ false → ModelTold t a b (modelled (Err Unsound) t.counts) t a b
model_told_unsound t a b h = model_told_refused {A = Unit {0}} t a b (Err Unsound) Unsound (refusal_1 t (length a) (length b) h) refl

pub model_told_done : (t : Table) (a b : List ℕ) (n k : ℕ) (x y : List ℕ) → n ≡ model_refusal t (length a) (length b) → n ≡ 0
    → x ≡ sets a 0 (global_model t) → k ≡ length (user_model t) → y ≡ sets b 0 (user_model t)
    → ModelTold t a b (modelled (Ok (record { globals = t.counts.global; users = k })) t.counts) t x y
model_told_done t a b n k x y e z p q r =
    model_told_by t a b (model_done t) (model_done_lem t (length a) (length b) n e z) refl _ _ _ _
    (rw (globals_count t, q)) refl p r
