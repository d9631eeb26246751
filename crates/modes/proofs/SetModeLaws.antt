-- Set mode: the refusals, by the tests that the code makes, and the call.
use Rattle.std.specs.Prelude.{Some, None, Ok, Err}
use Rattle.std.specs.Prelude as P
use Prim.Native.Nat.{ℕ, ◌*◌, ◌/◌, ◌%◌, ◌≤◌, ◌<◌, ◌^◌}
use mathlib.Core.Path.{◌≡◌, refl, sym, ap, ◌∙◌, subst}
use mathlib.Core.Bool.{true, false, not}
use mathlib.Core.List.{List, [], ◌∷◌}
use native.Mathlib.Omega.{arith}
use lib.Dec.{eqb, ltb, leb}
use lib.ListN.{length, get_or, set}
use lib.Seq.{sets}
use borrow.Author.Tests.{eq-eqb, ne_eqb, lt-ltb, le-ltb, le-leb, lt-leb, leb-false, ltb-false, not-false}
use Rattle.scope.specs.declared.Counts.{Counts}
use Rattle.scope.specs.declared.User.{User}
use Rattle.scope.specs.declared.SamplingMode.{SamplingMode}
use Rattle.scope.specs.declared.SamplingMode.TheVariants.{Sample, Witness, Hide}
use Rattle.base.specs.Choice.{pick}
use Rattle.scope.specs.Table.{Table, table_of, mode_of, assumed_of, is_deleted, record_of, with_mode, least_free}
use Rattle.scope.specs.Sound.{soundb}
use Rattle.scope.specs.Outcome.{Result, stay, noting}
use Rattle.scope.specs.Map.{next_user}
use Rattle.scope.specs.Modes.{mode_number, is_unused, delete_if_unused, show, hide, change, set_mode, set_mode_refusal, set_mode_of}
use Rattle.scope.specs.Contract.{Said, Does}
use Rattle.scope.proofs.SoundLaws.{sound_of}
use Rattle.scope.proofs.ResultLaws.{past, by_choose, choose_then, choose_else}
use Rattle.changes.specs.Leaves.{Leaves, Room}
use Rattle.changes.specs.Solvers.{solvers_of}
use Rattle.scope.specs.Cursor.{AllMapped}
use Rattle.changes.proofs.LeavesLaws.{leaves_stay, notes_fit}
use Rattle.changes.proofs.CallLaws.{call_refused, call_accepted, call_noted}
use Rattle.changes.proofs.DeletionLaws.{record_read}
use Rattle.modes.specs.Asks.{There, ShowAsks, HideAsks, Sets, SetAsks}
use Rattle.modes.specs.Counting.{mode_notes}
use Rattle.scope.specs.declared.Refusal.{Refusal}
use Rattle.scope.specs.declared.Refusal.TheVariants.{Unsound}
use Rattle.scope.specs.Refusals.{number, refused_by}
use Rattle.scope.proofs.RefusedLaws.{number_not_0, refused_err}
use Rattle.modes.specs.Answers.{mode_set}
use Rattle.modes.proofs.NotesLaws.{there_live, mode_notes_lem, mode_notes_few}
use Rattle.modes.proofs.ChangeLaws.{change_leaves}

-- ---- refusals

mode_small : (mode : SamplingMode) → mode_number mode < 3
mode_small Sample = omega arith
mode_small Witness = omega arith
mode_small Hide = omega arith

-- a global below its watermark has its words
pub below_words : (t : Table) (g : ℕ) → soundb t ≡ true → g < t.counts.global → (g < length t.records) × (g < length t.solver_from_global)
below_words t g y l = let z = (sound_of t y).sizes in omega arith

module _ (t : Table) (g : ℕ) (mode : SamplingMode) (room : ℕ) where
  set_1 : soundb t ≡ false → 1 ≡ set_mode_refusal t g mode room
  unfolding set_mode_refusal
  set_1 n = rw n

  module _ (y : soundb t ≡ true) where
    pub set_3 : t.counts.global ≤ g → 3 ≡ set_mode_refusal t g mode room
    unfolding set_mode_refusal
    set_3 l = rw (y, le-leb _ _ l)

    module _ (l : g < t.counts.global) where
      read : get_or t.records g 0 ≡ record_of t g
      read = record_read t g (below_words t g y l).0

      pub set_6 : 36 ≤ get_or t.records g 0 → 6 ≡ set_mode_refusal t g mode room
      unfolding set_mode_refusal
      set_6 k = let e = read in rw (y, lt-leb _ _ l, le-leb 36 (record_of t g) (omega arith))

      module _ (k : get_or t.records g 0 < 36) where
        set_there : There t g
        set_there = let e = read in record { sound = sound_of t y; undeleted = omega arith }

        pub set_7 : get_or t.records g 0 / 18 % 2 ≡ 1 → 7 ≡ set_mode_refusal t g mode room
        unfolding set_mode_refusal
        set_7 a = let e = read in rw (y, lt-leb _ _ l, lt-leb 36 (record_of t g) (omega arith), eq-eqb (assumed_of (record_of t g)) 1 (omega arith))

        module _ (a : get_or t.records g 0 / 18 % 2 ≡ 1 → ⊥) (n : ℕ)
            (q : n ≡ mode_notes (get_or t.solver_from_global g 0) (get_or t.records g 0) (mode_number mode)) where
          unassumed : eqb (assumed_of (record_of t g)) 1 ≡ false
          unassumed = let x = read in ne_eqb (assumed_of (record_of t g)) 1 (λ z. a (omega arith))

          notes_are : length (set_mode g (mode_number mode) t).notes ≡ n
          notes_are =
              mode_notes_lem t g set_there (mode_number mode)
              ∙ ap (λ (r : ℕ). mode_notes (get_or t.solver_from_global g 0) r (mode_number mode)) (sym read)
              ∙ sym q

          pub set_2 : room < 3 * n → 2 ≡ set_mode_refusal t g mode room
          unfolding set_mode_refusal
          set_2 w = let x = read in rw (y, lt-leb _ _ l, lt-leb 36 (record_of t g) (omega arith), unassumed, notes_are, lt-ltb _ _ w)

          pub set_0 : 3 * n ≤ room → 0 ≡ set_mode_refusal t g mode room
          unfolding set_mode_refusal
          set_0 w = let x = read in rw (y, lt-leb _ _ l, lt-leb 36 (record_of t g) (omega arith), unassumed, notes_are, le-ltb _ _ w)

-- ---- the call

pub set_refused : {A : Type 0} (t : Table) (g : ℕ) (mode : SamplingMode) (x : P.Result A Refusal) (r : Refusal) (words : List ℕ)
    → refused_by x ≡ set_mode_refusal t g mode (length words) → x ≡ Err r
    → Does (set_mode_of t g mode (length words)) (mode_set (Err r) t.counts) t words words
unfolding set_mode_of
set_refused t g mode x r words e w =
    call_refused (set_mode_refusal t g mode (length words)) (number r) t _ words (sym (refused_err x r w) ∙ e) (number_not_0 r)

pub set_unsound : (t : Table) (g : ℕ) (mode : SamplingMode) (words : List ℕ) → soundb t ≡ false
    → Does (set_mode_of t g mode (length words)) (mode_set (Err Unsound) t.counts) t words words
set_unsound t g mode words n = set_refused {A = Unit {0}} t g mode (Err Unsound) Unsound words (set_1 t g mode (length words) n) refl

module _ (t : Table) (g : ℕ) (mode : SamplingMode) (room n : ℕ) (e : n ≡ set_mode_refusal t g mode room) (z : n ≡ 0) where
  pub set_asks : (from : ℕ) → AllMapped t.global_from_user t.counts.user from
      → SetAsks t.counts t.global_from_user t.user_from_global t.solver_from_global t.records g (mode_number mode) from room
  unfolding set_mode_refusal
  set_asks from h =
      let a = past (not (soundb t)) 1 _ (omega arith) (sym e ∙ z) in
      let b = past (leb t.counts.global g) 3 _ (omega arith) a.1 in
      let d = past (is_deleted (record_of t g)) 6 _ (omega arith) b.1 in
      let f = past (eqb (assumed_of (record_of t g)) 1) 7 _ (omega arith) d.1 in
      let k = past (ltb room (3 * length (set_mode g (mode_number mode) t).notes)) 2 0 (omega arith) f.1 in
      record {
        gs = t.global_from_solver;
        a = t.assignment;
        sets = record {
          there = record { sound = sound_of t (not-false (soundb t) a.0); undeleted = leb-false 36 (record_of t g) d.0 };
          mode = mode_small mode;
          mapped = h;
          words = ltb-false room (3 * length (set_mode g (mode_number mode) t).notes) k.0;
        };
      }

  pub set_does : (said : Said) (left : Table) (words words2 : List ℕ) → Does (noting (λ us. us) (set_mode g (mode_number mode) t)) said left words words2
      → Does (set_mode_of t g mode room) said left words words2
  unfolding set_mode_of
  set_does said left words words2 k = call_accepted (set_mode_refusal t g mode room) n t _ said left words words2 e z k

-- ---- by the old mode and the new one

-- neither U(g,-) nor D answers a user
hide_value : (t : Table) (g : ℕ) → (hide g t).value ≡ []
unfolding hide delete_if_unused
hide_value t g = by_choose (λ (x : Result (List ℕ)). x.value ≡ []) (is_unused _ g) (λ e. refl) (λ e. refl)

module _ (t : Table) (g m : ℕ) (l : g < length t.records) where
  old_mode : mode_of (get_or t.records g 0) ≡ mode_of (record_of t g)
  old_mode = ap mode_of (record_read t g l)

  -- what is left, where no user is answered, and where one is
  plain_does : (x : Result (List ℕ)) → set_mode g m t ≡ x → x.value ≡ [] → (next : ℕ) (d : Counts) (left : Table) (words words2 : List ℕ)
      → Leaves x 0 next left words words2
      → Does (noting (λ us. us) (set_mode g m t)) (mode_set (Ok (record { user = None; counts = d; notes = next / 3 })) d) left words words2
  plain_does x e v next d left words words2 k =
      subst (λ (r : Result (List ℕ)). Does (noting (λ us. us) r) (mode_set (Ok (record { user = None; counts = d; notes = next / 3 })) d) left words words2) (sym e)
      (call_noted (λ us. us) [] x next d left words words2 k (sym v))

  pub same_does : mode_of (get_or t.records g 0) ≡ m → (words : List ℕ)
      → Does (noting (λ us. us) (set_mode g m t)) (mode_set (Ok (record { user = None; counts = t.counts; notes = 0 })) t.counts) t words words
  unfolding set_mode
  same_does e words = plain_does (stay [] t) (choose_then _ _ _ (eq-eqb _ _ (sym old_mode ∙ e))) refl 0 t.counts t words words (leaves_stay t 0 words)

  module _ (n : mode_of (get_or t.records g 0) ≡ m → ⊥) where
    other_mode : eqb (mode_of (record_of t g)) m ≡ false
    other_mode = ne_eqb _ _ (λ z. n (old_mode ∙ z))

    module _ (e : m ≡ 2) where
      pub hide_is : set_mode g m t ≡ hide g t
      unfolding set_mode
      hide_is = choose_else _ _ _ other_mode ∙ choose_then _ _ _ (eq-eqb _ _ e)

      pub hide_does : (next : ℕ) (d : Counts) (left : Table) (words words2 : List ℕ) → Leaves (hide g t) 0 next left words words2
          → Does (noting (λ us. us) (set_mode g m t)) (mode_set (Ok (record { user = None; counts = d; notes = next / 3 })) d) left words words2
      hide_does = plain_does (hide g t) hide_is (hide_value t g)

    module _ (k : m ≡ 2 → ⊥) where
      module _ (e : mode_of (get_or t.records g 0) ≡ 2) where
        pub show_is : set_mode g m t ≡ show g m t
        unfolding set_mode
        show_is = choose_else _ _ _ other_mode ∙ choose_else _ _ _ (ne_eqb _ _ k) ∙ choose_then _ _ _ (eq-eqb _ _ (sym old_mode ∙ e))

        pub show_does : (next : ℕ) (u : User) (d : Counts) (left : Table) (words words2 : List ℕ) → Leaves (show g m t) 0 next left words words2
            → u.0 ≡ least_free t.global_from_user t.counts.user
            → Does (noting (λ us. us) (set_mode g m t)) (mode_set (Ok (record { user = Some u; counts = d; notes = next / 3 })) d) left words words2
        unfolding show next_user
        show_does next u d left words words2 w q =
            subst (λ (r : Result (List ℕ)). Does (noting (λ us. us) r) (mode_set (Ok (record { user = Some u; counts = d; notes = next / 3 })) d) left words words2) (sym show_is)
            (call_noted (λ us. us) (u.0 ∷ []) (show g m t) next d left words words2 w (ap (λ (v : ℕ). v ∷ []) q))

      module _ (e : mode_of (get_or t.records g 0) ≡ 2 → ⊥) where
        pub change_is : set_mode g m t ≡ change g m t
        unfolding set_mode
        change_is = choose_else _ _ _ other_mode ∙ choose_else _ _ _ (ne_eqb _ _ k) ∙ choose_else _ _ _ (ne_eqb _ _ (λ z. e (old_mode ∙ z)))

        pub change_does : (records words words2 : List ℕ) → records ≡ set t.records g (with_mode (get_or t.records g 0) m)
            → words2 ≡ sets words 0 (3 ∷ g ∷ pick (eqb m 0) 1 0 ∷ [])
            → Does (noting (λ us. us) (set_mode g m t)) (mode_set (Ok (record { user = None; counts = t.counts; notes = 1 })) t.counts)
            (table_of t.counts t.global_from_user t.user_from_global t.solver_from_global t.global_from_solver t.assignment records) words words2
        unfolding change
        change_does records words words2 p q =
            plain_does (change g m t) change_is refl 3 t.counts _ words words2
            (change_leaves t g m records words words2 l p q)

-- ---- what they ask

module _ (t : Table) (g m from room : ℕ) (h : Sets t g m from room) where
  here : g < length t.records
  here = (there_live t g h.there).words

  -- notes fit
  pub set_fits : (x : Result (List ℕ)) → set_mode g m t ≡ x → (next : ℕ) (left : Table) (words words2 : List ℕ) → Leaves x 0 next left words words2
      → next / 3 < 2 ^ 32
  set_fits x e next left words words2 k =
      let b = ap (λ (r : Result (List ℕ)). length r.notes) e in
      let d = mode_notes_lem t g h.there m in
      let f = mode_notes_few (get_or t.solver_from_global g 0) (record_of t g) m in
      notes_fit k (omega arith)

  room_of : (x : Result (List ℕ)) → set_mode g m t ≡ x → Room x 0 room
  room_of x e = subst (λ (r : Result (List ℕ)). Room r 0 room) e (let w = h.words in record { words = omega arith })

  module _ (n : mode_of (get_or t.records g 0) ≡ m → ⊥) where
    pub hide_asks : (e : m ≡ 2) → HideAsks t.counts t.global_from_user t.user_from_global t.solver_from_global t.records g 0 room
    hide_asks e =
        record {
          gs = t.global_from_solver;
          a = t.assignment;
          hides = record { there = h.there; shown = λ z. n (old_mode t g m here ∙ z ∙ sym e) };
          words = room_of (hide g t) (hide_is t g m here n e);
        }

    module _ (k : m ≡ 2 → ⊥) where
      pub show_asks : (e : mode_of (get_or t.records g 0) ≡ 2) → ShowAsks t.counts t.global_from_user t.user_from_global t.records g m from 0 room
      unfolding show
      show_asks e =
          let r = (room_of (show g m t) (show_is t g m here n k e)).words in
          record {
            solvers = solvers_of t;
            shows = record { there = h.there; hidden = sym (old_mode t g m here) ∙ e; mode = let l = h.mode in omega arith; mapped = h.mapped };
            words = omega arith;
          }

      pub change_asks : (e : mode_of (get_or t.records g 0) ≡ 2 → ⊥) → (g < length t.records) × ((get_or t.records g 0 < 36) × ((m < 3) × (3 ≤ room)))
      unfolding change
      change_asks e =
          let r = (room_of (change g m t) (change_is t g m here n k e)).words in
          let l = there_live t g h.there in
          let q = record_read t g l.words in
          let u = l.undeleted in
          (l.words, (omega arith, (h.mode, omega arith)))
