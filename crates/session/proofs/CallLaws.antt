-- What every call owes a session: if it is refused, the table as it was; if it is accepted, a path of allowed moves of which the ledger
-- enters what it does, and the bytes of the ledger's clause steps. The path keeps what is assumed, unless the call is Released.
use Prim.Native.Nat.{ℕ, zero, suc, ◌+◌, ◌*◌, ◌<◌, ◌≤◌}
use mathlib.Core.Path.{◌≡◌, refl, sym, ap, ◌∙◌, subst}
use mathlib.Core.Bool.{Bool, true, false, ◌&&◌, ◌||◌, not}
use mathlib.Core.List.{List, [], ◌∷◌, map}
use native.Mathlib.Omega.{arith}
use lib.Dec.{eqb, ltb, leb}
use lib.ListN.{length, get_or}
use borrow.Author.Tests.{eqb-false, leb-false, ltb-false, not-false}
use Rattle.base.specs.Bounded.{all_below, any_of}
use Rattle.base.specs.Answer.{accepted}
use Rattle.base.proofs.MemberLaws.{or_left, or_right}
use Rattle.base.proofs.BelowLaws.{and_left, and_right}
use Rattle.drat.specs.Grammar.{Step, Codes, Valid, encode}
use Rattle.drat.specs.declared.Format.{Format}
use Rattle.scope.specs.declared.SamplingMode.{SamplingMode}
use Rattle.scope.specs.declared.SamplingMode.TheVariants.{Sample, Witness, Hide}
use Rattle.scope.specs.declared.Mark.{Mark}
use Rattle.scope.specs.declared.ProofStep.{ProofStep}
use Rattle.scope.specs.declared.Simplified.{Simplified}
use Rattle.scope.specs.declared.Simplified.TheVariants.{Kept, Dropped, Shortened, Binary}
use Rattle.scope.specs.Literals.{index_of}
use Rattle.scope.specs.Table.{Table, record_of, assumed_of, is_deleted, undeleted}
use Rattle.scope.specs.Sound.{soundb, Sound}
use Rattle.scope.specs.Notes.{Note}
use Rattle.scope.specs.Entries.{noted}
use Rattle.base.specs.Choice.{pick}
use Rattle.scope.specs.Outcome.{Outcome, unless, short, noting, refusal}
use Rattle.scope.specs.Lookup.{lookup_of, global_from_user_of, user_from_global_of, solver_from_global_of, global_from_solver_of, record_word_of, assignment_word_of}
use Rattle.scope.specs.Map as Maps
use Rattle.scope.specs.Grant as Grants
use Rattle.scope.specs.Pose as Poses
use Rattle.scope.specs.Remove as Removes
use Rattle.scope.specs.Map.{to_map, unsampled, map_refusal, map_of, new_user_refusal, new_user_of}
use Rattle.scope.specs.Grant.{grant_refusal, grant_of}
use Rattle.scope.specs.Pose.{users_to_map, pose_refusal, pose_of}
use Rattle.scope.specs.Modes
use Rattle.scope.specs.Modes.{mode_number, set_mode_refusal, set_mode_of, observe_refusal, observe_of}
use Rattle.scope.specs.Marks.{not_held, holder_of, mark_refusal, mark_of, assign_refusal, assign_of, unheld}
use Rattle.scope.specs.Remove.{remove_refusal, remove_of, sweep_refusal, sweep_of}
use Rattle.scope.specs.Steps.{rule_of, literals_of, clause_steps}
use Rattle.scope.specs.Write.{rename_lits, holders, unmatched, outside, step_refusal, rename_of, lacked, step_bytes, write_refusal, write_of}
use Rattle.scope.specs.Simplify.{is_true, is_false, unfalse, simplified, rest_of, simplify_steps, simplify_bytes, simplify_refusal, simplified_number, simplify_of}
use Rattle.scope.specs.Binary.{cutsb, mirrored, sections_for, section_count, each_section, deletes_at, filled_codes, kept_words, delete_bytes, binary_refusal, binary_of}
use Rattle.scope.specs.Models.{model_of}
use Rattle.scope.specs.Calls
use Rattle.scope.proofs.SoundLaws.{sound_of}
use Rattle.scope.proofs.MoveLaws.{Path, Reach, stop, reach_sound}
use Rattle.scope.proofs.ResultLaws.{past}
use Rattle.scope.proofs.MapLaws.{map_room_of, map_user_reach, new_user_reach}
use Rattle.scope.proofs.GrantLaws.{grant_reach}
use Rattle.scope.proofs.PoseLaws.{pose_room_of, pose_reach}
use Rattle.scope.proofs.ModeLaws.{set_mode_reach, observe_reach}
use Rattle.scope.proofs.MarkLaws.{held_past, lits_past, is_release, mark_reach, assign_reach}
use Rattle.scope.proofs.RemoveLaws.{remove_reach, sweep_reach}
use Rattle.scope.proofs.WriteLaws.{solver_codes, rename_codes, keep_none, written_valid}
use Rattle.scope.proofs.BinaryLaws.{all_held, deletes_valid}
use Rattle.session.specs.Ledger.{EntersLit, Pairwise, nil, cons, Enters}
use Rattle.session.specs.Entered.{hidden_by, entries_of, simplify_lines, lines_of}
use Rattle.session.specs.Session.{Turn, turn, turn_does}
use Rattle.session.specs.Made.{filled_by}
use Rattle.session.proofs.ToldLaws.{ToldFor, last_snoc, take_filled}
use Rattle.session.proofs.EnterLaws.{Tell, solver_lits, lits_enter, write_enters}
use Rattle.session.proofs.BinaryLines.{binary_enters}

-- ---- what is owed

-- a call that takes an assumption back
abbrev pub releasing : Calls.Call → Bool
releasing (Calls.lookup asked i) = false
releasing (Calls.map_user u sampling) = false
releasing Calls.new_user = false
releasing (Calls.pose lits sampling) = false
releasing (Calls.grant g) = false
releasing (Calls.set_mode g mode) = false
releasing Calls.observe = false
releasing (Calls.mark m s) = is_release m
releasing (Calls.assign c) = false
releasing (Calls.remove s) = false
releasing Calls.sweep = false
releasing (Calls.simplify lits redundant) = false
releasing (Calls.simplify_binary lists) = false
releasing (Calls.rename step solver_vars lits hashes) = false
releasing (Calls.write step solver_vars lits hashes) = false
releasing Calls.model = false

-- the clause steps written are how the ledger's lines enter, by notes that tell the holders of the table left
pub record Lawful (f : Format) (x : Turn) (t : Table) (vs : List ℕ) (o : Outcome) : Type 0 where
  pub path : Path (releasing x.call) t (entries_of x.call o.notes) o.table
  pub steps : List Step
  pub enters : (notes : List Note) → Tell notes o.table → Enters (lines_of x.call vs o.words notes) steps
  pub bytes : o.bytes ≡ encode f steps
  pub valid : Valid steps
  pub told : ToldFor x vs o

pub data Owed (f : Format) (x : Turn) (t : Table) : Outcome → Type 0 where
  refusing : {n : ℕ} → Owed f x t (refusal n t)
  accepting : {o : Outcome} {vs : List ℕ} → o.answer ≡ accepted vs → Lawful f x t vs o → Owed f x t o

-- either way a sound table stays sound
pub owed_sound : (f : Format) (x : Turn) (t : Table) (o : Outcome) → Owed f x t o → Sound t → Sound o.table
owed_sound f x t o refusing p = p
owed_sound f x t o (accepting e l) p = reach_sound l.path p

owed : (f : Format) (x : Turn) (t : Table) (n : ℕ) (o : Outcome) → (n ≡ 0 → Owed f x t o) → Owed f x t (unless n t o)
unfolding unless
owed f x t zero o h = h refl
owed f x t (suc n) o h = refusing

-- a call that is judged for soundness first
first_sound : (t : Table) (rest : ℕ) → pick (not (soundb t)) 1 rest ≡ 0 → Sound t × (rest ≡ 0)
first_sound t rest e = let x = past (not (soundb t)) 1 rest (omega arith) e in (sound_of t (not-false (soundb t) x.0), x.1)

-- refusal 2 left room for the notes
roomy : (room : ℕ) (notes : List Note) → short room notes ≡ false → 3 * length notes ≤ room
roomy room notes z = ltb-false room (3 * length notes) z

-- ---- calls that write no clause step

-- a call of which the ledger enters its notes alone: it hides nothing, has no line, and answers no count of bytes
abbrev Quiet : Calls.Call → Type 0
Quiet call =
    (hidden_by call ≡ []) × ((vs ws : List ℕ) (notes : List Note) → lines_of call vs ws notes ≡ []) × ((vs : List ℕ) → (filled_by call vs).bytes ≡ 0)

quiet_lawful : (f : Format) (x : Turn) (t : Table) (vs : List ℕ) (o : Outcome) → Quiet x.call → o.bytes ≡ []
    → (filled_by x.call vs).notes ≡ length o.notes → 3 * length o.notes ≤ x.rooms.notes
    → Path (releasing x.call) t (map noted o.notes) o.table
    → Lawful f x t vs o
unfolding entries_of encode Valid
quiet_lawful f x t vs o (hidden, lines, counted) b n m r =
    record {
      path = rw hidden r;
      steps = [];
      enters = λ notes h. rw (lines vs o.words notes) nil;
      bytes = b;
      valid = tt;
      told =
          record {
            notes = n;
            note_room = m;
            lines = λ out notes h. lines vs _ notes ∙ sym (lines vs o.words notes);
            bytes = rw b (counted vs);
            byte_room = rw b (omega arith);
          };
    }

lookup_owed : (f : Format) (x : Turn) (t : Table) (values : List ℕ) → Quiet x.call → ((vs : List ℕ) → (filled_by x.call vs).notes ≡ 0)
    → Owed f x t (lookup_of t values)
unfolding lookup_of
lookup_owed f x t values q n = owed f x t _ _ (λ e. accepting refl (quiet_lawful f x t values _ q refl (n values) (omega arith) stop))

map_owed : (f : Format) (t : Table) (u : ℕ) (sampling : Bool) (rooms : Calls.Rooms)
    → Owed f (turn (Calls.map_user u sampling) rooms) t (map_of t u sampling rooms.notes)
unfolding map_of map_refusal lines_of
map_owed f t u sampling rooms = owed f _ t _ _ (λ e.
    let (p, e1) = first_sound t _ e in
    let (a, e2) = past (leb t.counts.capacity u) 3 _ (omega arith) e1 in
    let (b, e3) = past (sampling && unsampled t u) 4 _ (omega arith) e2 in
    let (c, e4) = past (ltb t.counts.capacity (undeleted t + to_map t u)) 5 _ (omega arith) e3 in
    let (z, _) = past (short rooms.notes (Maps.map_user u t).notes) 2 _ (omega arith) e4 in
    accepting refl (quiet_lawful f _ t _ _ (refl, λ vs ws notes. refl, λ vs. refl) refl refl (roomy rooms.notes (Maps.map_user u t).notes z)
    (map_user_reach t u (map_room_of t u p a c))))

new_user_owed : (f : Format) (t : Table) (rooms : Calls.Rooms) → Owed f (turn Calls.new_user rooms) t (new_user_of t rooms.notes)
unfolding new_user_of new_user_refusal lines_of
new_user_owed f t rooms = owed f _ t _ _ (λ e.
    let (p, e1) = first_sound t _ e in
    let (a, e2) = past (ltb t.counts.capacity (undeleted t + 1)) 5 _ (omega arith) e1 in
    let (z, _) = past (short rooms.notes (Maps.new_user t).notes) 2 _ (omega arith) e2 in
    accepting refl (quiet_lawful f _ t _ _ (refl, λ vs ws notes. refl, λ vs. refl) refl (last_snoc 0 _ (Maps.new_user t).value)
    (roomy rooms.notes (Maps.new_user t).notes z) (new_user_reach t p (ltb-false t.counts.capacity (undeleted t + 1) a))))

pose_owed : (f : Format) (t : Table) (lits : List ℕ) (sampling : Bool) (rooms : Calls.Rooms)
    → Owed f (turn (Calls.pose lits sampling) rooms) t (pose_of t lits sampling rooms.words rooms.notes)
unfolding pose_of pose_refusal lines_of
pose_owed f t lits sampling rooms = owed f _ t _ _ (λ e.
    let (p, e1) = first_sound t _ e in
    let (a, e2) = past (ltb 8192 (length lits) || any_of (λ c. leb t.counts.capacity (index_of c)) lits) 3 _ (omega arith) e1 in
    let (b, e3) = past (sampling && any_of (λ c. unsampled t (index_of c)) lits) 4 _ (omega arith) e2 in
    let (c, e4) = past (ltb t.counts.capacity (undeleted t + users_to_map t lits)) 5 _ (omega arith) e3 in
    let (z, _) = past (ltb rooms.words (length lits) || short rooms.notes (Poses.pose lits t).notes) 2 _ (omega arith) e4 in
    accepting refl (quiet_lawful f _ t _ _ (refl, λ vs ws notes. refl, λ vs. refl) refl refl
    (roomy rooms.notes (Poses.pose lits t).notes (or_right (ltb rooms.words (length lits)) _ z))
    (pose_reach t lits (pose_room_of t lits p (or_right (ltb 8192 (length lits)) _ a) c))))

grant_owed : (f : Format) (t : Table) (g : ℕ) (rooms : Calls.Rooms) → Owed f (turn (Calls.grant g) rooms) t (grant_of t g rooms.notes)
unfolding grant_of grant_refusal lines_of
grant_owed f t g rooms = owed f _ t _ _ (λ e.
    let (p, e1) = first_sound t _ e in
    let (a, e2) = past (leb t.counts.global g) 3 _ (omega arith) e1 in
    let (b, e3) = past (is_deleted (record_of t g)) 6 _ (omega arith) e2 in
    let (z, _) = past (short rooms.notes (Grants.grant g t).notes) 2 _ (omega arith) e3 in
    accepting refl (quiet_lawful f _ t _ _ (refl, λ vs ws notes. refl, λ vs. refl) refl refl (roomy rooms.notes (Grants.grant g t).notes z)
    (grant_reach t g p (leb-false 36 (record_of t g) b))))

observe_owed : (f : Format) (t : Table) (rooms : Calls.Rooms)
    → Owed f (turn Calls.observe rooms) t (observe_of t rooms.words rooms.notes)
unfolding observe_of observe_refusal lines_of
observe_owed f t rooms = owed f _ t _ _ (λ e.
    let shown : ℕ → Bool = λ g. not (Modes.is_hidden (record_of t g) && eqb (assumed_of (record_of t g)) 1) in
    let (p, e1) = first_sound t _ e in
    let (y, e2) = past (not (all_below t.counts.global shown)) 7 _ (omega arith) e1 in
    let (z, _) = past (ltb rooms.words (length (Modes.observe t).value) || short rooms.notes (Modes.observe t).notes) 2 _ (omega arith) e2 in
    accepting refl (quiet_lawful f _ t _ _ (refl, λ vs ws notes. refl, λ vs. refl) refl refl
    (roomy rooms.notes (Modes.observe t).notes (or_right (ltb rooms.words (length (Modes.observe t).value)) _ z)) (observe_reach t p)))

mark_owed : (f : Format) (t : Table) (m : Mark) (s : ℕ) (rooms : Calls.Rooms) → Owed f (turn (Calls.mark m s) rooms) t (mark_of t m s)
unfolding mark_of mark_refusal not_held lines_of
mark_owed f t m s rooms = owed f _ t _ _ (λ e.
    let (p, e1) = first_sound t _ e in
    let (a, e2) = held_past t s _ e1 in
    accepting refl (quiet_lawful f _ t _ _ (refl, λ vs ws notes. refl, λ vs. refl) refl refl (omega arith)
    (mark_reach t m s p (eqb-false (get_or t.global_from_solver s 0) 0 a))))

assign_owed : (f : Format) (t : Table) (c : ℕ) (rooms : Calls.Rooms) → Owed f (turn (Calls.assign c) rooms) t (assign_of t c)
unfolding assign_of assign_refusal not_held lines_of
assign_owed f t c rooms = owed f _ t _ _ (λ e.
    let (p, e1) = first_sound t _ e in
    let (a, e2) = held_past t (index_of c) _ e1 in
    accepting refl (quiet_lawful f _ t _ _ (refl, λ vs ws notes. refl, λ vs. refl) refl refl (omega arith)
    (assign_reach t c p (eqb-false (get_or t.global_from_solver (index_of c) 0) 0 a))))

remove_owed : (f : Format) (t : Table) (s : ℕ) (rooms : Calls.Rooms) → Owed f (turn (Calls.remove s) rooms) t (remove_of t s rooms.notes)
unfolding remove_of remove_refusal not_held lines_of
remove_owed f t s rooms = owed f _ t _ _ (λ e.
    let (p, e1) = first_sound t _ e in
    let (a, e2) = held_past t s _ e1 in
    let (b, e3) = past (eqb (assumed_of (record_of t (holder_of t s))) 1) 16 _ (omega arith) e2 in
    let (z, _) = past (short rooms.notes (Removes.remove s t).notes) 2 _ (omega arith) e3 in
    accepting refl (quiet_lawful f _ t _ _ (refl, λ vs ws notes. refl, λ vs. refl) refl refl (roomy rooms.notes (Removes.remove s t).notes z)
    (remove_reach t s p (eqb-false (get_or t.global_from_solver s 0) 0 a) (eqb-false (assumed_of (record_of t (holder_of t s))) 1 b))))

sweep_owed : (f : Format) (t : Table) (rooms : Calls.Rooms) → Owed f (turn Calls.sweep rooms) t (sweep_of t rooms.notes)
unfolding sweep_of sweep_refusal lines_of
sweep_owed f t rooms = owed f _ t _ _ (λ e.
    let (p, e1) = first_sound t _ e in
    let (z, _) = past (short rooms.notes (Removes.sweep t).notes) 2 _ (omega arith) e1 in
    accepting refl (quiet_lawful f _ t _ _ (refl, λ vs ws notes. refl, λ vs. refl) refl refl (roomy rooms.notes (Removes.sweep t).notes z)
    (sweep_reach t p)))

rename_owed : (f : Format) (t : Table) (step : ProofStep) (solver_vars : Bool) (lits hashes : List ℕ) (rooms : Calls.Rooms)
    → Owed f (turn (Calls.rename step solver_vars lits hashes) rooms) t (rename_of t step solver_vars lits hashes rooms.words rooms.more)
unfolding rename_of lines_of
rename_owed f t step solver_vars lits hashes rooms = owed f _ t _ _ (λ e.
    accepting refl (quiet_lawful f _ t _ _ (refl, λ vs ws notes. refl, λ vs. refl) refl refl (omega arith) stop))

model_owed : (f : Format) (t : Table) (rooms : Calls.Rooms) → Owed f (turn Calls.model rooms) t (model_of t rooms.words rooms.more)
unfolding model_of lines_of
model_owed f t rooms = owed f _ t _ _ (λ e.
    accepting refl (quiet_lawful f _ t _ _ (refl, λ vs ws notes. refl, λ vs. refl) refl refl (omega arith) stop))

-- ---- Set mode, of which the ledger enters also that it hides

set_mode_owed : (f : Format) (t : Table) (g : ℕ) (m : SamplingMode) (rooms : Calls.Rooms)
    → Owed f (turn (Calls.set_mode g m) rooms) t (set_mode_of t g m rooms.notes)
unfolding set_mode_of set_mode_refusal lines_of entries_of encode Valid
set_mode_owed f t g m rooms = owed f _ t _ _ (λ e.
    let (p, e1) = first_sound t _ e in
    let (a, e2) = past (leb t.counts.global g) 3 _ (omega arith) e1 in
    let (b, e3) = past (is_deleted (record_of t g)) 6 _ (omega arith) e2 in
    let (c, e4) = past (eqb (assumed_of (record_of t g)) 1) 7 _ (omega arith) e3 in
    let (z, _) = past (short rooms.notes (Modes.set_mode g (mode_number m) t).notes) 2 _ (omega arith) e4 in
    accepting refl (record {
      path = by_mode m p (leb-false 36 (record_of t g) b);
      steps = [];
      enters = λ notes h. nil;
      bytes = refl;
      valid = tt;
      told =
          record {
            notes = last_snoc 0 _ (Modes.set_mode g (mode_number m) t).value;
            note_room = roomy rooms.notes (Modes.set_mode g (mode_number m) t).notes z;
            lines = λ out notes h. refl;
            bytes = refl;
            byte_room = omega arith;
          };
    }))
  where
    by_mode : (m : SamplingMode) → Sound t → record_of t g < 36
        → Reach t (entries_of (Calls.set_mode g m) (noting (λ us. us) (Modes.set_mode g (mode_number m) t)).notes) (Modes.set_mode g (mode_number m) t).table
    by_mode Sample p h = set_mode_reach t g 0 p h (omega arith)
    by_mode Witness p h = set_mode_reach t g 1 p h (omega arith)
    by_mode Hide p h = set_mode_reach t g 2 p h (omega arith)

-- ---- the writing calls

-- The table stays, there are no notes, nothing is hidden, and the answer tells what was filled, for which there was room. The two facts that
-- a writing call owes: its lines enter as the steps whose encoding it fills, and the steps' codes are valid.
record Writes (f : Format) (x : Turn) (t : Table) (vs : List ℕ) (o : Outcome) (steps : List Step) : Type 0 where
  table : o.table ≡ t
  notes : o.notes ≡ []
  hidden : hidden_by x.call ≡ []
  bytes : o.bytes ≡ encode f steps
  note_count : (filled_by x.call vs).notes ≡ 0
  word_count : (filled_by x.call vs).words ≡ length o.words
  byte_count : (filled_by x.call vs).bytes ≡ length o.bytes
  word_room : length o.words ≤ x.rooms.words
  byte_room : length o.bytes ≤ x.rooms.bytes
  enters : (notes : List Note) → Tell notes t → Enters (lines_of x.call vs o.words notes) steps
  valid : Valid steps

writing_lawful : (f : Format) (x : Turn) (t : Table) (vs : List ℕ) (o : Outcome) (steps : List Step) → Writes f x t vs o steps → Lawful f x t vs o
unfolding entries_of
writing_lawful f x t vs o steps w =
    record {
      path = rw (w.notes, w.hidden, w.table) stop;
      steps = steps;
      enters = λ notes h. w.enters notes (subst (Tell notes) w.table h);
      bytes = w.bytes;
      valid = w.valid;
      told =
          record {
            notes = rw w.notes w.note_count;
            note_room = rw w.notes (omega arith);
            lines = λ out notes e.
                ap (λ (ws : List ℕ). lines_of x.call vs ws notes)
                (take_filled out o.words (filled_by x.call vs).words w.word_count (let r = w.word_room in omega arith));
            bytes = w.byte_count;
            byte_room = w.byte_room;
          };
    }

write_owed : (f : Format) (t : Table) (step : ProofStep) (solver_vars : Bool) (lits hashes : List ℕ) (rooms : Calls.Rooms)
    → Owed f (turn (Calls.write step solver_vars lits hashes) rooms) t (turn_does f (turn (Calls.write step solver_vars lits hashes) rooms) t)
unfolding turn_does Calls.perform write_of write_refusal step_refusal step_bytes lines_of
write_owed f t step solver_vars lits hashes rooms = owed f _ t _ _ (λ e.
    let ls = literals_of step lits in
    let (p, e1) = first_sound t _ e in
    let (a, e2) = past (unmatched step lits hashes) 14 _ (omega arith) e1 in
    let (inside, e3) = past (outside t solver_vars ls) 3 _ (omega arith) e2 in
    let (held, e4) = lits_past t solver_vars ls _ e3 in
    let (d, e5) = past (lacked (rule_of step).writes) 11 _ (omega arith) e4 in
    let (z, _) = past (ltb rooms.bytes (length (step_bytes f t step solver_vars lits))) 2 _ (omega arith) e5 in
    accepting refl (writing_lawful f _ t _ _ (clause_steps step (rename_lits (holders t) solver_vars ls)) (record {
      table = refl;
      notes = refl;
      hidden = refl;
      bytes = refl;
      note_count = refl;
      word_count = refl;
      byte_count = refl;
      word_room = omega arith;
      byte_room = ltb-false rooms.bytes _ z;
      enters = λ notes h. write_enters notes step solver_vars lits _ (lits_enter t notes h solver_vars ls held);
      valid = written_valid (rule_of step).writes (rename_lits (holders t) solver_vars ls) (rename_codes t solver_vars ls p inside held);
    })))

simplify_owed : (f : Format) (t : Table) (lits : List ℕ) (redundant : Bool) (rooms : Calls.Rooms)
    → Owed f (turn (Calls.simplify lits redundant) rooms) t (turn_does f (turn (Calls.simplify lits redundant) rooms) t)
unfolding turn_does Calls.perform simplify_of simplify_refusal simplify_bytes unheld unfalse Valid lines_of
simplify_owed f t lits redundant rooms = owed f _ t _ _ (λ e.
    let rest = rest_of (simplified t lits) t lits in
    let (p, e1) = first_sound t _ e in
    let (a, e2) = past (ltb 8192 (length lits)) 3 _ (omega arith) e1 in
    let (held, e3) = lits_past t true lits _ e2 in
    let kept = keep_none (λ c. not_held t (index_of c)) _ lits held in
    let (d, e4) = past (not (any_of (is_true t) lits) && (any_of (is_false t) lits && ltb (length (unfalse t lits)) 2)) 12 _ (omega arith) e3 in
    let (z, _) = past (ltb rooms.words (length rest) || ltb rooms.bytes (length (simplify_bytes f t lits redundant))) 2 _ (omega arith) e4 in
    let steps = simplify_steps (simplified t lits) redundant (rename_lits (holders t) true rest) (rename_lits (holders t) true lits) in
    accepting refl (writing_lawful f _ t _ _ steps (record {
      table = refl;
      notes = refl;
      hidden = refl;
      bytes = refl;
      note_count = refl;
      word_count = refl;
      byte_count = refl;
      word_room = ltb-false rooms.words (length rest) (or_left _ _ z);
      byte_room = ltb-false rooms.bytes _ (or_right (ltb rooms.words (length rest)) _ z);
      enters = λ notes h. by_kind (simplified t lits) _ notes (solver_lits t notes h lits held) (solver_lits t notes h (unfalse t lits) kept);
      valid = valid_kind (simplified t lits) (solver_codes t lits p held) (solver_codes t (unfalse t lits) p kept);
    })))
  where
    by_kind : (k : Simplified) (vs : List ℕ) (notes : List Note) → Pairwise (EntersLit notes true) lits (rename_lits (holders t) true lits)
        → Pairwise (EntersLit notes true) (unfalse t lits) (rename_lits (holders t) true (unfalse t lits))
        → Enters (simplify_lines (simplified_number k ∷ vs) lits (rest_of k t lits) notes)
        (simplify_steps k redundant (rename_lits (holders t) true (rest_of k t lits)) (rename_lits (holders t) true lits))
    by_kind Kept vs notes all some = nil
    by_kind Dropped vs notes all some = cons (record { kind = refl; lits = all }) nil
    by_kind Shortened vs notes all some = cons (record { kind = refl; lits = some }) (cons (record { kind = refl; lits = all }) nil)
    by_kind Binary vs notes all some = cons (record { kind = refl; lits = some }) (cons (record { kind = refl; lits = all }) nil)

    valid_kind : (k : Simplified) → Codes (rename_lits (holders t) true lits) → Codes (rename_lits (holders t) true (unfalse t lits))
        → Valid (simplify_steps k redundant (rename_lits (holders t) true (rest_of k t lits)) (rename_lits (holders t) true lits))
    valid_kind Kept all some = tt
    valid_kind Dropped all some = (all, tt)
    valid_kind Shortened all some = (some, (all, tt))
    valid_kind Binary all some = (some, (all, tt))

binary_owed : (f : Format) (t : Table) (lists : List ℕ) (rooms : Calls.Rooms)
    → Owed f (turn (Calls.simplify_binary lists) rooms) t (turn_does f (turn (Calls.simplify_binary lists) rooms) t)
unfolding turn_does Calls.perform binary_of binary_refusal sections_for delete_bytes lines_of
binary_owed f t lists rooms = owed f _ t _ _ (λ e.
    let ss = sections_for t lists in
    let (p, e1) = first_sound t _ e in
    let (a, e2) = past (not (cutsb (section_count t) lists && mirrored ss)) 15 _ (omega arith) e1 in
    let (held, e3) = lits_past t true (filled_codes ss) _ e2 in
    let (z, _) = past (ltb rooms.words (length (kept_words t ss)) || ltb rooms.bytes (length (delete_bytes f t ss))) 2 _ (omega arith) e3 in
    let b = not-false (cutsb (section_count t) lists && mirrored ss) a in
    let m = and_right (cutsb (section_count t) lists) _ b in
    accepting refl (writing_lawful f _ t _ _ (each_section (deletes_at t) 0 ss) (record {
      table = refl;
      notes = refl;
      hidden = refl;
      bytes = refl;
      note_count = refl;
      word_count = refl;
      byte_count = refl;
      word_room = ltb-false rooms.words (length (kept_words t ss)) (or_left _ _ z);
      byte_room = ltb-false rooms.bytes _ (or_right (ltb rooms.words (length (kept_words t ss))) _ z);
      enters = λ notes h. binary_enters t (section_count t) lists m held (and_left (cutsb (section_count t) lists) _ b) notes h;
      valid = deletes_valid t 0 ss p (all_held t ss m held);
    })))

-- ---- every call

abbrev CallOwed : Format → Calls.Call → Calls.Rooms → Table → Type 0
CallOwed f call rooms t = Owed f (turn call rooms) t (turn_does f (turn call rooms) t)

call_owed : (f : Format) (call : Calls.Call) (rooms : Calls.Rooms) (t : Table) → CallOwed f call rooms t
unfolding turn_does Calls.perform lines_of global_from_user_of user_from_global_of solver_from_global_of global_from_solver_of record_word_of assignment_word_of
call_owed f (Calls.lookup asked i) rooms t = by_asked asked
  where
    quiet : (asked : Calls.Asked) → Quiet (Calls.lookup asked i)
    quiet asked = (refl, λ vs ws notes. refl, λ vs. refl)

    by_asked : (asked : Calls.Asked) → CallOwed f (Calls.lookup asked i) rooms t
    by_asked Calls.global_from_user = lookup_owed f _ t _ (quiet Calls.global_from_user) (λ vs. refl)
    by_asked Calls.user_from_global = lookup_owed f _ t _ (quiet Calls.user_from_global) (λ vs. refl)
    by_asked Calls.solver_from_global = lookup_owed f _ t _ (quiet Calls.solver_from_global) (λ vs. refl)
    by_asked Calls.global_from_solver = lookup_owed f _ t _ (quiet Calls.global_from_solver) (λ vs. refl)
    by_asked Calls.record_word = lookup_owed f _ t _ (quiet Calls.record_word) (λ vs. refl)
    by_asked Calls.assignment_word = lookup_owed f _ t _ (quiet Calls.assignment_word) (λ vs. refl)
call_owed f (Calls.map_user u sampling) rooms t = map_owed f t u sampling rooms
call_owed f Calls.new_user rooms t = new_user_owed f t rooms
call_owed f (Calls.pose lits sampling) rooms t = pose_owed f t lits sampling rooms
call_owed f (Calls.grant g) rooms t = grant_owed f t g rooms
call_owed f (Calls.set_mode g m) rooms t = set_mode_owed f t g m rooms
call_owed f Calls.observe rooms t = observe_owed f t rooms
call_owed f (Calls.mark m s) rooms t = mark_owed f t m s rooms
call_owed f (Calls.assign c) rooms t = assign_owed f t c rooms
call_owed f (Calls.remove s) rooms t = remove_owed f t s rooms
call_owed f Calls.sweep rooms t = sweep_owed f t rooms
call_owed f (Calls.simplify lits redundant) rooms t = simplify_owed f t lits redundant rooms
call_owed f (Calls.simplify_binary lists) rooms t = binary_owed f t lists rooms
call_owed f (Calls.rename step solver_vars lits hashes) rooms t = rename_owed f t step solver_vars lits hashes rooms
call_owed f (Calls.write step solver_vars lits hashes) rooms t = write_owed f t step solver_vars lits hashes rooms
call_owed f Calls.model rooms t = model_owed f t rooms

pub turn_owed : (f : Format) (x : Turn) (t : Table) → Owed f x t (turn_does f x t)
turn_owed f x t = call_owed f x.call x.rooms t
