-- Every call leaves a sound table sound, whether or not a session reaches it. So each keeps the stored numbers those of the recount
-- (document 02, order 5). An unsound table, and so one that stores another number, is refused with 1 and stays.
use Prim.Native.Nat.{ℕ, ◌≤◌, ◌<◌}
use mathlib.Core.Path.{◌≡◌, refl, ◌∙◌}
use mathlib.Core.Bool.{Bool, true, false}
use native.Mathlib.Omega.{arith}
use lib.ListN.{get_or}
use Rattle.drat.specs.declared.Format.{Format}
use Rattle.scope.specs.Table.{Table, undeleted, next_solver}
use Rattle.scope.specs.Sound.{soundb, Stored, Sound}
use Rattle.scope.specs.Outcome.{refusal, unless}
use Rattle.scope.specs.Calls as Calls
use Rattle.scope.specs.Calls.{perform}
use Rattle.scope.specs.Lookup.{lookup_of, global_from_user_of, user_from_global_of, solver_from_global_of, global_from_solver_of, record_word_of, assignment_word_of}
use Rattle.scope.specs.Map.{map_refusal, map_of, new_user_refusal, new_user_of}
use Rattle.scope.specs.Grant.{grant, grant_refusal, grant_of}
use Rattle.scope.specs.Pose.{pose_refusal, pose_of}
use Rattle.scope.specs.Modes.{set_mode_refusal, set_mode_of, observe_refusal, observe_of}
use Rattle.scope.specs.Marks.{mark_refusal, mark_of, assign_refusal, assign_of}
use Rattle.scope.specs.Remove.{remove_refusal, remove_of, sweep_refusal, sweep_of}
use Rattle.scope.specs.Simplify.{simplify_refusal, simplify_of}
use Rattle.scope.specs.Binary.{binary_refusal, binary_of}
use Rattle.scope.specs.Write.{step_refusal, rename_refusal, rename_of, write_refusal, write_of}
use Rattle.scope.specs.Models.{model_refusal, model_of}
use Rattle.scope.proofs.SoundLaws.{sound_of, sound_to}
use Rattle.scope.proofs.FillLaws.{next_granted, full_refused, free_taken}
use Rattle.session.specs.Session.{Turn, turn_does}
use Rattle.session.proofs.CallLaws.{owed_sound, turn_owed}

keeps_sound : (f : Format) (x : Turn) (t : Table) → Sound t → Sound (turn_does f x t).table
keeps_sound f x t p = owed_sound f x t _ (turn_owed f x t) p

pub turn_sound : (f : Format) (x : Turn) (t : Table) → soundb t ≡ true → soundb (turn_does f x t).table ≡ true
turn_sound f x t e = sound_to _ (keeps_sound f x t (sound_of t e))

pub turn_used : (f : Format) (x : Turn) (t : Table) → soundb t ≡ true → (turn_does f x t).table.counts.used ≡ undeleted (turn_does f x t).table
turn_used f x t e = (keeps_sound f x t (sound_of t e)).stored.used

pub turn_next : (f : Format) (x : Turn) (t : Table) → soundb t ≡ true → (turn_does f x t).table.counts.next ≡ next_solver (turn_does f x t).table
turn_next f x t e = (keeps_sound f x t (sound_of t e)).stored.next

-- a table that does not store the recount is unsound
pub miscounted : (t : Table) → (Stored t → ⊥) → soundb t ≡ false
miscounted t n = go (soundb t) refl
  where
    go : (b : Bool) → soundb t ≡ b → soundb t ≡ false
    go true e = absurd (n (sound_of t e).stored)
    go false e = e

-- and every call refuses an unsound one
pub unsound_refused : (f : Format) (call : Calls.Call) (rooms : Calls.Rooms) (t : Table) → soundb t ≡ false → perform f call rooms t ≡ refusal 1 t
unfolding unless perform lookup_of global_from_user_of user_from_global_of solver_from_global_of global_from_solver_of record_word_of assignment_word_of map_refusal map_of
    new_user_refusal new_user_of grant_refusal grant_of pose_refusal pose_of set_mode_refusal set_mode_of observe_refusal observe_of mark_refusal mark_of assign_refusal assign_of
    remove_refusal remove_of sweep_refusal sweep_of simplify_refusal simplify_of binary_refusal binary_of step_refusal rename_refusal rename_of write_refusal write_of
    model_refusal model_of
unsound_refused f (Calls.lookup Calls.global_from_user i) rooms t e = rw e
unsound_refused f (Calls.lookup Calls.user_from_global i) rooms t e = rw e
unsound_refused f (Calls.lookup Calls.solver_from_global i) rooms t e = rw e
unsound_refused f (Calls.lookup Calls.global_from_solver i) rooms t e = rw e
unsound_refused f (Calls.lookup Calls.record_word i) rooms t e = rw e
unsound_refused f (Calls.lookup Calls.assignment_word i) rooms t e = rw e
unsound_refused f (Calls.map_user u s) rooms t e = rw e
unsound_refused f Calls.new_user rooms t e = rw e
unsound_refused f (Calls.pose lits s) rooms t e = rw e
unsound_refused f (Calls.grant g) rooms t e = rw e
unsound_refused f (Calls.set_mode g m) rooms t e = rw e
unsound_refused f Calls.observe rooms t e = rw e
unsound_refused f (Calls.mark m s) rooms t e = rw e
unsound_refused f (Calls.assign c) rooms t e = rw e
unsound_refused f (Calls.remove s) rooms t e = rw e
unsound_refused f Calls.sweep rooms t e = rw e
unsound_refused f (Calls.simplify lits r) rooms t e = rw e
unsound_refused f (Calls.simplify_binary lists) rooms t e = rw e
unsound_refused f (Calls.rename step v lits hashes) rooms t e = rw e
unsound_refused f (Calls.write step v lits hashes) rooms t e = rw e
unsound_refused f Calls.model rooms t e = rw e

-- ---- what the laws say together

module _ (f : Format) (x : Turn) (t : Table) (e : soundb t ≡ true) where
  left : Sound (turn_does f x t).table
  left = sound_of _ (turn_sound f x t e)

  -- after any call New user is 5 exactly where the undeleted globals are as many as the capacity,
  pub turn_full : (room : ℕ) → (turn_does f x t).table.counts.capacity ≤ undeleted (turn_does f x t).table → new_user_refusal (turn_does f x t).table room ≡ 5
  turn_full room l = full_refused _ room left (omega (arith, turn_used f x t e))

  pub turn_free : (room : ℕ) → undeleted (turn_does f x t).table < (turn_does f x t).table.counts.capacity → new_user_refusal (turn_does f x t).table room ≡ 5 → ⊥
  turn_free room l = free_taken _ room left (omega (arith, turn_used f x t e))

  -- and Grant gives the least unmapped solver index
  pub turn_granted : (g : ℕ) → get_or (turn_does f x t).table.solver_from_global g 0 ≡ 0 → (grant g (turn_does f x t).table).value ≡ next_solver (turn_does f x t).table
  turn_granted g h = next_granted _ g left h ∙ turn_next f x t e

-- a table that does not store the recount is refused with 1 in every call, and stays
pub miscounted_refused : (f : Format) (call : Calls.Call) (rooms : Calls.Rooms) (t : Table) → (Stored t → ⊥) → perform f call rooms t ≡ refusal 1 t
miscounted_refused f call rooms t n = unsound_refused f call rooms t (miscounted t n)
