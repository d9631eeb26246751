-- The contracts of the code make a call met, one law for each function. What a law asks for is what the function's `ensures` say, word for
-- word, save that `said` stands for the reading of the function's answer with the counts, such as `granted r c`.
use Prim.Native.Nat.{ℕ, suc}
use mathlib.Core.Path.{◌≡◌, refl, sym}
use mathlib.Core.Bool.{Bool}
use mathlib.Core.List.{List, [], ◌∷◌}
use lib.ListN.{length}
use lib.Seq.{sets}
use Rattle.base.specs.Lent.{Lent, Fills, old}
use Rattle.drat.specs.declared.Format.{Format}
use Rattle.scope.specs.declared.Counts.{Counts}
use Rattle.scope.specs.declared.User.{User}
use Rattle.scope.specs.declared.Global.{Global}
use Rattle.scope.specs.declared.Solver.{Solver}
use Rattle.scope.specs.declared.SamplingMode.{SamplingMode}
use Rattle.scope.specs.declared.Mark.{Mark}
use Rattle.scope.specs.declared.ProofStep.{ProofStep}
use Rattle.scope.specs.Contract.{Said, Memory, Meets, lent, quiet, before}
use Rattle.scope.specs.Lookup.{global_from_user_of, user_from_global_of, solver_from_global_of, global_from_solver_of, record_word_of, assignment_word_of}
use Rattle.scope.specs.Map.{map_of, new_user_of}
use Rattle.scope.specs.Grant.{grant_of}
use Rattle.scope.specs.Pose.{pose_of}
use Rattle.scope.specs.Modes.{set_mode_of, observe_of}
use Rattle.scope.specs.Marks.{mark_of, assign_of}
use Rattle.scope.specs.Remove.{remove_of, sweep_of}
use Rattle.scope.specs.Simplify.{simplify_refusal, simplify_of}
use Rattle.scope.specs.Binary.{binary_refusal, binary_of}
use Rattle.scope.specs.Write.{step_refusal, rename_of, write_refusal, write_of}
use Rattle.scope.specs.Models.{model_of}
use Rattle.scope.specs.Calls
use Rattle.scope.specs.Calls.{Call, lending, perform}
use Rattle.session.specs.Session.{turn, turn_does}
use Rattle.session.specs.Made.{fillable, none_lent, Has, made, Met}

-- ---- the shapes

-- nothing is filled where nothing was lent
none_has : (ws : List ℕ) → Has none_lent ws
none_has ws = sym (go 0 ws)
  where
    go : (i : ℕ) (ws : List ℕ) → sets [] i ws ≡ []
    go i [] = refl
    go i (w ∷ ws) = go (suc i) ws

-- no slice but that for notes, if that
plain_met : (f : Format) (call : Call) (said : Said) (memory : Memory)
    → Meets (λ t room. turn_does f (turn call (lending room 0 0 0)) t) said memory → Met f (made call said memory none_lent none_lent none_lent)
plain_met f call said memory h =
    let o = turn_does f (turn call (lending (length memory.notes) 0 0 0)) memory.table in
    record { meets = h; words = none_has o.words; more = none_has o.more; bytes = none_has o.bytes }

-- one slice of words beside the notes
words_met : (f : Format) (call : Call) (said : Said) (memory : Memory) (out : Lent)
    → Meets (λ t room. turn_does f (turn call (lending room (length (old out)) 0 0)) t) said memory
    → Fills out 0 (turn_does f (turn call (lending (length memory.notes) (length (old out)) 0 0)) memory.table).words
    → Met f (made call said memory (fillable out) none_lent none_lent)
words_met f call said memory out h k =
    let o = turn_does f (turn call (lending (length memory.notes) (length (old out)) 0 0)) memory.table in
    record { meets = h; words = k; more = none_has o.more; bytes = none_has o.bytes }

-- two slices of words
more_met : (f : Format) (call : Call) (said : Said) (memory : Memory) (out more : Lent)
    → Meets (λ t room. turn_does f (turn call (lending room (length (old out)) (length (old more)) 0)) t) said memory
    → Fills out 0 (turn_does f (turn call (lending (length memory.notes) (length (old out)) (length (old more)) 0)) memory.table).words
    → Fills more 0 (turn_does f (turn call (lending (length memory.notes) (length (old out)) (length (old more)) 0)) memory.table).more
    → Met f (made call said memory (fillable out) (fillable more) none_lent)
more_met f call said memory out more h k l =
    let o = turn_does f (turn call (lending (length memory.notes) (length (old out)) (length (old more)) 0)) memory.table in
    record { meets = h; words = k; more = l; bytes = none_has o.bytes }

-- ---- Lookup

pub global_from_user_met : (f : Format) (user : User) (said : Said) (c : Counts) (gu ug sg gs assignment records : Lent)
    → Meets (λ t room. global_from_user_of t user.0) said (quiet c gu ug sg gs assignment records)
    → Met f (made (Calls.lookup Calls.global_from_user user.0) said (quiet c gu ug sg gs assignment records) none_lent none_lent none_lent)
unfolding turn_does perform
global_from_user_met f user said c gu ug sg gs assignment records h = plain_met f _ said _ h

pub user_from_global_met : (f : Format) (global : Global) (said : Said) (c : Counts) (gu ug sg gs assignment records : Lent)
    → Meets (λ t room. user_from_global_of t global.0) said (quiet c gu ug sg gs assignment records)
    → Met f (made (Calls.lookup Calls.user_from_global global.0) said (quiet c gu ug sg gs assignment records) none_lent none_lent none_lent)
unfolding turn_does perform
user_from_global_met f global said c gu ug sg gs assignment records h = plain_met f _ said _ h

pub solver_from_global_met : (f : Format) (global : Global) (said : Said) (c : Counts) (gu ug sg gs assignment records : Lent)
    → Meets (λ t room. solver_from_global_of t global.0) said (quiet c gu ug sg gs assignment records)
    → Met f (made (Calls.lookup Calls.solver_from_global global.0) said (quiet c gu ug sg gs assignment records) none_lent none_lent none_lent)
unfolding turn_does perform
solver_from_global_met f global said c gu ug sg gs assignment records h = plain_met f _ said _ h

pub global_from_solver_met : (f : Format) (solver : Solver) (said : Said) (c : Counts) (gu ug sg gs assignment records : Lent)
    → Meets (λ t room. global_from_solver_of t solver.0) said (quiet c gu ug sg gs assignment records)
    → Met f (made (Calls.lookup Calls.global_from_solver solver.0) said (quiet c gu ug sg gs assignment records) none_lent none_lent none_lent)
unfolding turn_does perform
global_from_solver_met f solver said c gu ug sg gs assignment records h = plain_met f _ said _ h

pub record_met : (f : Format) (global : Global) (said : Said) (c : Counts) (gu ug sg gs assignment records : Lent)
    → Meets (λ t room. record_word_of t global.0) said (quiet c gu ug sg gs assignment records)
    → Met f (made (Calls.lookup Calls.record_word global.0) said (quiet c gu ug sg gs assignment records) none_lent none_lent none_lent)
unfolding turn_does perform
record_met f global said c gu ug sg gs assignment records h = plain_met f _ said _ h

pub assignment_met : (f : Format) (solver : Solver) (said : Said) (c : Counts) (gu ug sg gs assignment records : Lent)
    → Meets (λ t room. assignment_word_of t solver.0) said (quiet c gu ug sg gs assignment records)
    → Met f (made (Calls.lookup Calls.assignment_word solver.0) said (quiet c gu ug sg gs assignment records) none_lent none_lent none_lent)
unfolding turn_does perform
assignment_met f solver said c gu ug sg gs assignment records h = plain_met f _ said _ h

-- ---- calls that fill notes

-- `naming::global_from_user`
pub map_met : (f : Format) (user : User) (sampling : Bool) (said : Said) (c : Counts) (gu ug sg gs assignment records notes : Lent)
    → Meets (λ t room. map_of t user.0 sampling room) said (lent c gu ug sg gs assignment records notes)
    → Met f (made (Calls.map_user user.0 sampling) said (lent c gu ug sg gs assignment records notes) none_lent none_lent none_lent)
unfolding turn_does perform
map_met f user sampling said c gu ug sg gs assignment records notes h = plain_met f _ said _ h

-- `naming::new_user_var`
pub new_user_met : (f : Format) (said : Said) (c : Counts) (gu ug sg gs assignment records notes : Lent)
    → Meets (λ t room. new_user_of t room) said (lent c gu ug sg gs assignment records notes)
    → Met f (made Calls.new_user said (lent c gu ug sg gs assignment records notes) none_lent none_lent none_lent)
unfolding turn_does perform
new_user_met f said c gu ug sg gs assignment records notes h = plain_met f _ said _ h

-- `granting::solver_from_global`
pub grant_met : (f : Format) (global : Global) (said : Said) (c : Counts) (gu ug sg gs assignment records notes : Lent)
    → Meets (λ t room. grant_of t global.0 room) said (lent c gu ug sg gs assignment records notes)
    → Met f (made (Calls.grant global.0) said (lent c gu ug sg gs assignment records notes) none_lent none_lent none_lent)
unfolding turn_does perform
grant_met f global said c gu ug sg gs assignment records notes h = plain_met f _ said _ h

-- `modes::set_sampling_mode`
pub set_mode_met : (f : Format) (global : Global) (mode : SamplingMode) (said : Said) (c : Counts) (gu ug sg gs assignment records notes : Lent)
    → Meets (λ t room. set_mode_of t global.0 mode room) said (lent c gu ug sg gs assignment records notes)
    → Met f (made (Calls.set_mode global.0 mode) said (lent c gu ug sg gs assignment records notes) none_lent none_lent none_lent)
unfolding turn_does perform
set_mode_met f global mode said c gu ug sg gs assignment records notes h = plain_met f _ said _ h

-- `removal::remove_solver_var`
pub remove_met : (f : Format) (solver : Solver) (said : Said) (c : Counts) (gu ug sg gs assignment records notes : Lent)
    → Meets (λ t room. remove_of t solver.0 room) said (lent c gu ug sg gs assignment records notes)
    → Met f (made (Calls.remove solver.0) said (lent c gu ug sg gs assignment records notes) none_lent none_lent none_lent)
unfolding turn_does perform
remove_met f solver said c gu ug sg gs assignment records notes h = plain_met f _ said _ h

-- `removal::sweep`
pub sweep_met : (f : Format) (said : Said) (c : Counts) (gu ug sg gs assignment records notes : Lent)
    → Meets (λ t room. sweep_of t room) said (lent c gu ug sg gs assignment records notes)
    → Met f (made Calls.sweep said (lent c gu ug sg gs assignment records notes) none_lent none_lent none_lent)
unfolding turn_does perform
sweep_met f said c gu ug sg gs assignment records notes h = plain_met f _ said _ h

-- ---- calls that fill notes and words

-- `posing::solver_from_user_lits`
pub pose_met : (f : Format) (lits : Lent) (sampling : Bool) (said : Said) (c : Counts) (gu ug sg gs assignment records out notes : Lent)
    → Meets (λ t room. pose_of t (old lits) sampling (length (old out)) room) said (lent c gu ug sg gs assignment records notes)
    → Fills out 0 (pose_of (before c gu ug sg gs assignment records) (old lits) sampling (length (old out)) (length (old notes))).words
    → Met f (made (Calls.pose (old lits) sampling) said (lent c gu ug sg gs assignment records notes) (fillable out) none_lent none_lent)
unfolding turn_does perform
pose_met f lits sampling said c gu ug sg gs assignment records out notes h k = words_met f _ said _ out h k

-- `modes::observe_internal_vars`
pub observe_met : (f : Format) (said : Said) (c : Counts) (gu ug sg gs assignment records users notes : Lent)
    → Meets (λ t room. observe_of t (length (old users)) room) said (lent c gu ug sg gs assignment records notes)
    → Fills users 0 (observe_of (before c gu ug sg gs assignment records) (length (old users)) (length (old notes))).words
    → Met f (made Calls.observe said (lent c gu ug sg gs assignment records notes) (fillable users) none_lent none_lent)
unfolding turn_does perform
observe_met f said c gu ug sg gs assignment records users notes h k = words_met f _ said _ users h k

-- ---- calls that change the table only

-- `marks::mark`
pub mark_met : (f : Format) (mark : Mark) (solver : Solver) (said : Said) (c : Counts) (gu ug sg gs assignment records : Lent)
    → Meets (λ t room. mark_of t mark solver.0) said (quiet c gu ug sg gs assignment records)
    → Met f (made (Calls.mark mark solver.0) said (quiet c gu ug sg gs assignment records) none_lent none_lent none_lent)
unfolding turn_does perform
mark_met f mark solver said c gu ug sg gs assignment records h = plain_met f _ said _ h

-- `marks::assign_lit`
pub assign_met : (f : Format) (lit : ℕ) (said : Said) (c : Counts) (gu ug sg gs assignment records : Lent)
    → Meets (λ t room. assign_of t lit) said (quiet c gu ug sg gs assignment records)
    → Met f (made (Calls.assign lit) said (quiet c gu ug sg gs assignment records) none_lent none_lent none_lent)
unfolding turn_does perform
assign_met f lit said c gu ug sg gs assignment records h = plain_met f _ said _ h

-- ---- calls that leave the table

-- `simplify::simplify_clause`
pub simplify_met : (f : Format) (lits : Lent) (redundant : Bool) (said : Said) (c : Counts) (gu ug sg gs assignment records out bytes : Lent)
    → Meets (λ t room. simplify_of f t (old lits) redundant (length (old out)) (length (old bytes))) said (quiet c gu ug sg gs assignment records)
    → Fills out 0 (simplify_of f (before c gu ug sg gs assignment records) (old lits) redundant (length (old out)) (length (old bytes))).words
    → Fills bytes 0 (simplify_of f (before c gu ug sg gs assignment records) (old lits) redundant (length (old out)) (length (old bytes))).bytes
    → Met f (made (Calls.simplify (old lits) redundant) said (quiet c gu ug sg gs assignment records) (fillable out) none_lent (fillable bytes))
unfolding turn_does perform simplify_of simplify_refusal
simplify_met f lits redundant said c gu ug sg gs assignment records out bytes h k l =
    let o = simplify_of f (before c gu ug sg gs assignment records) (old lits) redundant (length (old out)) (length (old bytes)) in
    record { meets = h; words = k; more = none_has o.more; bytes = l }

-- `binary::simplify_binary`
pub binary_met : (f : Format) (lists : Lent) (said : Said) (c : Counts) (gu ug sg gs assignment records out bytes : Lent)
    → Meets (λ t room. binary_of f t (old lists) (length (old out)) (length (old bytes))) said (quiet c gu ug sg gs assignment records)
    → Fills out 0 (binary_of f (before c gu ug sg gs assignment records) (old lists) (length (old out)) (length (old bytes))).words
    → Fills bytes 0 (binary_of f (before c gu ug sg gs assignment records) (old lists) (length (old out)) (length (old bytes))).bytes
    → Met f (made (Calls.simplify_binary (old lists)) said (quiet c gu ug sg gs assignment records) (fillable out) none_lent (fillable bytes))
unfolding turn_does perform binary_of binary_refusal
binary_met f lists said c gu ug sg gs assignment records out bytes h k l =
    let o = binary_of f (before c gu ug sg gs assignment records) (old lists) (length (old out)) (length (old bytes)) in
    record { meets = h; words = k; more = none_has o.more; bytes = l }

-- `steps::rename_step`
pub rename_met : (f : Format) (step : ProofStep) (solvervars : Bool) (lits hashes : Lent) (said : Said) (c : Counts)
    (gu ug sg gs assignment records out hashout : Lent)
    → Meets (λ t room. rename_of t step solvervars (old lits) (old hashes) (length (old out)) (length (old hashout))) said
    (quiet c gu ug sg gs assignment records)
    → Fills out 0
    (rename_of (before c gu ug sg gs assignment records) step solvervars (old lits) (old hashes) (length (old out)) (length (old hashout))).words
    → Fills hashout 0
    (rename_of (before c gu ug sg gs assignment records) step solvervars (old lits) (old hashes) (length (old out)) (length (old hashout))).more
    → Met f (made (Calls.rename step solvervars (old lits) (old hashes)) said (quiet c gu ug sg gs assignment records) (fillable out) (fillable hashout)
    none_lent)
unfolding turn_does perform
rename_met f step solvervars lits hashes said c gu ug sg gs assignment records out hashout h k l = more_met f _ said _ out hashout h k l

-- `steps::write_step`
pub write_met : (f : Format) (step : ProofStep) (solvervars : Bool) (lits hashes : Lent) (said : Said) (c : Counts)
    (gu ug sg gs assignment records out : Lent)
    → Meets (λ t room. write_of f t step solvervars (old lits) (old hashes) (length (old out))) said (quiet c gu ug sg gs assignment records)
    → Fills out 0 (write_of f (before c gu ug sg gs assignment records) step solvervars (old lits) (old hashes) (length (old out))).bytes
    → Met f (made (Calls.write step solvervars (old lits) (old hashes)) said (quiet c gu ug sg gs assignment records) none_lent none_lent (fillable out))
unfolding turn_does perform write_of write_refusal step_refusal
write_met f step solvervars lits hashes said c gu ug sg gs assignment records out h k =
    let o = write_of f (before c gu ug sg gs assignment records) step solvervars (old lits) (old hashes) (length (old out)) in
    record { meets = h; words = none_has o.words; more = none_has o.more; bytes = k }

-- `model::model`
pub model_met : (f : Format) (said : Said) (c : Counts) (gu ug sg gs assignment records globals users : Lent)
    → Meets (λ t room. model_of t (length (old globals)) (length (old users))) said (quiet c gu ug sg gs assignment records)
    → Fills globals 0 (model_of (before c gu ug sg gs assignment records) (length (old globals)) (length (old users))).words
    → Fills users 0 (model_of (before c gu ug sg gs assignment records) (length (old globals)) (length (old users))).more
    → Met f (made Calls.model said (quiet c gu ug sg gs assignment records) (fillable globals) (fillable users) none_lent)
unfolding turn_does perform
model_met f said c gu ug sg gs assignment records globals users h k l = more_met f _ said _ globals users h k l
