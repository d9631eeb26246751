-- Demand 3 as one theorem: after any list of calls on a freshly opened table, in either format, with any arguments, every map agrees with
-- its inverse, a global has a user name exactly when it is undeleted and not hidden, and the joined proof bytes have one reading, the
-- ledger's steps. Each call keeps an invariant of the session: the table is sound, the entries tell its names, the bytes are the encoding of
-- the ledger's steps.
use Prim.Native.Nat.{ℕ}
use mathlib.Core.Path.{◌≡◌, refl, sym, ◌∙◌, subst}
use mathlib.Core.Logic.{◌↔◌}
use mathlib.Core.List.{List, [], ◌∷◌, ◌++◌}
use Rattle.base.specs.Answer.{accepted}
use Rattle.drat.specs.Grammar.{Step, Spells, Valid, encode}
use Rattle.drat.specs.declared.Format.{Format}
use Rattle.drat.proofs.Written.{encode_spells}
use Rattle.drat.proofs.Complete.{one_reading, encode_append}
use Rattle.drat.proofs.CodesLaws.{valid_append}
use Rattle.scope.specs.Table.{Table, record_of}
use Rattle.scope.specs.Sound.{Sound}
use Rattle.scope.specs.Outcome.{Outcome}
use Rattle.scope.specs.Open.{open_of}
use Rattle.scope.proofs.SoundLaws.{sound_to, shown_of, shown_to}
use Rattle.scope.proofs.MoveLaws.{reach_sound}
use Rattle.scope.proofs.OpenLaws.{open_opened, open_sound}
use Rattle.session.specs.Ledger.{notes_of, nil, Enters}
use Rattle.session.specs.Entered.{entries_of}
use Rattle.session.specs.Session.{Turn, turn_does, State, start, enter, after_turn, run, Holds}
use Rattle.session.proofs.HeldLaws.{held_says}
use Rattle.session.proofs.AgreeLaws.{Agrees, reach_agrees, empty_agrees}
use Rattle.session.proofs.CallLaws.{Lawful, Owed, refusing, accepting, turn_owed}
use Rattle.session.proofs.EnterLaws.{enters_append, enters_once}
use Rattle.session.proofs.LookupLaws.{says_global, says_user, says_solver, says_holder, has_user, is_shown_lem}

infixl 20 ◌⇄◌
◌⇄◌ : {A B C : Type 0} → A ↔ B → B ↔ C → A ↔ C
x ⇄ y = (λ a. y.0 (x.0 a), λ c. x.1 (y.1 c))

back : {A B : Type 0} → A ↔ B → B ↔ A
back x = (x.1, x.0)

pub record Invariant (f : Format) (σ : State) : Type 0 where
  pub sound : Sound σ.table
  pub agrees : Agrees σ.log σ.table
  pub steps : List Step
  pub entered : Enters σ.lines steps
  pub spelt : σ.bytes ≡ encode f steps
  pub valid : Valid steps

-- an accepted call: the notes, which tell the holders of the table it leaves, enter its lines as the steps that it writes
accepted_keeps : (f : Format) (σ : State) (x : Turn) (vs : List ℕ) (o : Outcome) → Lawful f x σ.table vs o → Invariant f σ
    → Invariant f (enter σ x.call o (accepted vs))
unfolding enter
accepted_keeps f σ x vs o l i =
    let notes = notes_of (σ.log ++ entries_of x.call o.notes) in
    let a = reach_agrees σ.log l.path i.sound i.agrees in
    record {
      sound = reach_sound l.path i.sound;
      agrees = a;
      steps = i.steps ++ l.steps;
      entered = enters_append i.entered (l.enters notes (λ s g e. (held_says s g notes).1 (a.held s ∙ e)));
      spelt = rw (encode_append f i.steps l.steps, ← l.bytes, ← i.spelt);
      valid = valid_append i.steps l.steps i.valid l.valid;
    }

pub enter_keeps : (f : Format) (σ : State) (x : Turn) (o : Outcome) → Owed f x σ.table o → Invariant f σ
    → Invariant f (enter σ x.call o o.answer)
unfolding enter
enter_keeps f σ x o refusing i = i
enter_keeps f σ x o (accepting {vs = vs} e l) i = rw e (accepted_keeps f σ x vs o l i)

pub after_keeps : (f : Format) (σ : State) (x : Turn) → Invariant f σ → Invariant f (after_turn f σ x)
unfolding after_turn
after_keeps f σ x i = enter_keeps f σ x (turn_does f x σ.table) (turn_owed f x σ.table) i

pub run_keeps : (f : Format) (σ : State) (xs : List Turn) → Invariant f σ → Invariant f (run f σ xs)
unfolding run
run_keeps f σ [] i = i
run_keeps f σ (x ∷ xs) i = run_keeps f (after_turn f σ x) xs (after_keeps f σ x i)

-- what the invariant says of a state
pub invariant_holds : (f : Format) (σ : State) → Invariant f σ → Holds f σ
invariant_holds f σ i =
    let t = σ.table in
    let p = i.sound in
    let r : Spells f σ.bytes i.steps = rw i.spelt (encode_spells f i.steps i.valid) in
    record {
      sound = sound_to t p;
      users = λ u g. says_global t u g p ⇄ p.user.inverse u g ⇄ back (says_user t g u p);
      solvers = λ s g. says_holder t s g p ⇄ p.solver.inverse s g ⇄ back (says_solver t g s p);
      named = λ g. has_user t g p ⇄ ((p.rows.row g).named, (p.rows.row g).seen) ⇄ back (is_shown_lem t g p);
      shown = λ g. (λ e. shown_of (record_of t g) (sym (i.agrees.seen g) ∙ e), λ h. i.agrees.seen g ∙ shown_to (record_of t g) h) ⇄ back (is_shown_lem t g p);
      holder = λ s g. held_says s g (notes_of σ.log) ⇄ (λ e. sym (i.agrees.held s) ∙ e, λ e. i.agrees.held s ∙ e) ⇄ back (says_holder t s g p);
      steps = i.steps;
      entered = i.entered;
      reading = r;
      only = λ x q. one_reading q r;
    }

-- it holds after an accepted Open
pub open_start : (f : Format) (t : Table) (vs : List ℕ) → (open_of t).answer ≡ accepted vs → Invariant f (start (open_of t).table)
unfolding encode Valid
open_start f t vs e =
    let o = open_opened t vs e in
    record {
      sound = open_sound t vs e;
      agrees = subst (λ (s : Table). Agrees [] s) (sym o.table) (empty_agrees t.counts.capacity);
      steps = [];
      entered = nil;
      spelt = refl;
      valid = tt;
    }

-- Demand 3: any list of calls after one accepted Open, in one format throughout.
pub demand3 : (f : Format) (t : Table) (vs : List ℕ) → (open_of t).answer ≡ accepted vs → (xs : List Turn)
    → Holds f (run f (start (open_of t).table) xs)
demand3 f t vs e xs = invariant_holds f _ (run_keeps f (start (open_of t).table) xs (open_start f t vs e))

-- The reading is the ledger's steps: what the bytes spell is what the lines enter as, and nothing else.
pub session_reading : (f : Format) (σ : State) → Holds f σ → (x : List Step) → Spells f σ.bytes x ↔ Enters σ.lines x
session_reading f σ h x =
    (λ q. subst (Enters σ.lines) (sym (h.only x q)) h.entered, λ q. subst (Spells f σ.bytes) (sym (enters_once h.entered q)) h.reading)
