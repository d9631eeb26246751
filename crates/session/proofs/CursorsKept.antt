-- Cursors that outlive a call, of a table known to be sound. The one has every user below it mapped: only taking a user unmaps one, so it is kept by
-- every call but Set mode to Hide, and by Set mode on a global whose user is not below it. The other has no global below it deleted: only a note D says
-- of one that it is, so it is kept by every call but Set mode to Hide, Remove and Sweep, and by
-- these if they delete none below it. A search that starts at a cursor finds what one from 0 does
-- (crates/scope/proofs/CursorLaws.antt).
use Prim.Native.Nat.{ℕ, zero, suc, ◌+◌, ◌-◌, ◌≤◌, ◌<◌}
use mathlib.Core.Path.{◌≡◌, refl, sym, ap, ◌∙◌, subst}
use mathlib.Core.Bool.{Bool, true, false, ◌&&◌, ◌||◌, not, true≢false}
use mathlib.Core.Logic.{◌≢◌}
use mathlib.Core.List.{List, [], ◌∷◌, ◌++◌, map}
use native.Mathlib.Omega.{arith}
use native.Mathlib.Decide.{dec_lt, ℕ_discrete}
use lib.Dec.{eqb, ltb, leb}
use lib.ListN.{length, get_or, set}
use lib.Seq.{get_or-set_same, get_or-set_other}
use borrow.Author.Tests.{eq-eqb, ne_eqb, lt-leb, ltb-false, not-false}
use Rattle.base.specs.Choice.{pick}
use Rattle.base.specs.Bounded.{any_of, least}
use Rattle.base.specs.Answer.{Answer, accepted, number_of, values_of}
use Rattle.base.proofs.MemberLaws.{or_right, any_append}
use Rattle.drat.specs.declared.Format.{Format}
use Rattle.scope.specs.declared.SamplingMode.{SamplingMode}
use Rattle.scope.specs.declared.SamplingMode.TheVariants.{Sample, Witness, Hide}
use Rattle.scope.specs.Literals.{index_of}
use Rattle.scope.specs.Table.{Table, fresh_record, user_record, mode_of, record_of, is_deleted, undeleted}
use Rattle.scope.specs.Table.{give_user, take_user, give_solver, take_solver, put_record, put_value, drop_global}
use Rattle.scope.specs.Sound.{Sound, soundb}
use Rattle.scope.specs.Notes.{Note, user+, user-, solver+, solver-, deletes, changes}
use Rattle.scope.specs.Entries.{Entry, noted, hides}
use Rattle.scope.specs.Outcome.{Result, each, Outcome, unless, noting}
use Rattle.scope.specs.Lookup.{lookup_of, global_from_user_of, user_from_global_of, solver_from_global_of, global_from_solver_of, record_word_of, assignment_word_of}
use Rattle.scope.specs.Map.{global_for, map_one, fill_gap, map_user, to_map, unsampled, map_refusal, map_of, next_user, new_user, new_user_refusal, new_user_of}
use Rattle.scope.specs.Grant.{grant_one, grant, grant_of}
use Rattle.scope.specs.Pose.{pose_one, pose, pose_of}
use Rattle.scope.specs.Modes.{show, change, set_mode, set_mode_of, is_hidden, observe_one, observe, observe_of}
use Rattle.scope.specs.Marks.{mark_of, assign_of}
use Rattle.scope.specs.Simplify.{simplify_of}
use Rattle.scope.specs.Binary.{binary_of}
use Rattle.scope.specs.Write.{rename_of, write_of}
use Rattle.scope.specs.Models.{model_of}
use Rattle.scope.specs.Cursor.{NoneFree, AllMapped}
use Rattle.scope.specs.Calls as Calls
use Rattle.scope.proofs.CursorLaws.{cursor_start, cursor_kept, cursor_least}
use Rattle.scope.proofs.PairLaws.{below_mark, pair_flip}
use Rattle.scope.proofs.SoundLaws.{sound_of}
use Rattle.scope.proofs.ResultLaws.{past, by_word, by_choose}
use Rattle.scope.proofs.MapLaws.{Mapped, map_user_mapped, new_user_room, next_user_free, next_user_most, next_user_before}
use Rattle.scope.proofs.MapLaws.{Mappable, map_one_fresh, map_one_value, MapRoom, map_room_of, map_user_free, map_user_has, map_last_mappable}
use Rattle.scope.proofs.MoveLaws.{Move, gives_user, takes_user, gives_solver, takes_solver, puts_record, deletes_global, puts_value, tells_mode, hides_again}
use Rattle.scope.proofs.MoveLaws.{apply, entries, Legal, Path, stop, move, move_sound, undeleted_below}
use Rattle.session.specs.Entered.{hidden, hidden_by, entries_of}
use Rattle.session.specs.Session.{Turn, turn, turn_does}
use Rattle.session.proofs.CallLaws.{Owed, refusing, accepting, turn_owed}

-- ---- members of a list

pub data Among {A : Type 0} (x : A) : List A → Type 0 where
  first : {xs : List A} → Among x (x ∷ xs)
  later : {y : A} {xs : List A} → Among x xs → Among x (y ∷ xs)

among_rest : {A : Type 0} {x : A} (ys : List A) {xs : List A} → Among x xs → Among x (ys ++ xs)
among_rest [] a = a
among_rest (y ∷ ys) a = later (among_rest ys a)

-- ---- both

-- A smaller cursor is one too.
pub cursor_less : (free : ℕ → Bool) (mark from less : ℕ) → NoneFree free mark from → less ≤ from → NoneFree free mark less
cursor_less free mark from less c l = record { within = omega (arith, c.within); below = λ k b. c.below k (omega arith) }

-- ---- users

-- every user below `from` is mapped
abbrev pub UsersMapped : Table → ℕ → Type 0
UsersMapped t from = AllMapped t.global_from_user t.counts.user from

-- of a global that the entries hide, the user is not below
abbrev Spared : List Entry → Table → ℕ → Type 0
Spared es t from = (g u : ℕ) → Among (hides g) es → get_or t.user_from_global g 0 ≡ u + 1 → from ≤ u

-- an unmapped user is not below
free_above : (t : Table) (from u : ℕ) → UsersMapped t from → get_or t.global_from_user u 0 ≡ 0 → from ≤ u
free_above t from u c e = go (dec_lt u from)
  where
    go : Dec (u < from) → from ≤ u
    go (yes l) = absurd (true≢false (sym (eq-eqb (get_or t.global_from_user u 0) 0 e) ∙ c.below u l))
    go (no n) = omega arith

set_mapped : (t : Table) (from u v : ℕ) (mark : ℕ) → UsersMapped t from → from ≤ u → t.counts.user ≤ mark
    → AllMapped (set t.global_from_user u v) mark from
set_mapped t from u v mark c a m =
    cursor_kept _ _ _ _ from c m (λ k l n. ap (λ (w : ℕ). eqb w 0) (get_or-set_other t.global_from_user u k v 0 (λ e. omega arith)) ∙ n)

set_spared : (t : Table) (from h v : ℕ) (es : List Entry) → h < length t.user_from_global → ((u : ℕ) → v ≡ u + 1 → from ≤ u) → Spared es t from
    → (g u : ℕ) → Among (hides g) es → get_or (set t.user_from_global h v) g 0 ≡ u + 1 → from ≤ u
set_spared t from h v es l n s g u a e = go (ℕ_discrete g h)
  where
    go : Dec (g ≡ h) → from ≤ u
    go (yes q) = n u (sym (get_or-set_same t.user_from_global h v 0 l) ∙ ap (λ (i : ℕ). get_or (set t.user_from_global h v) i 0) (sym q) ∙ e)
    go (no q) = s g u a (sym (get_or-set_other t.user_from_global h g v 0 q) ∙ e)

users_move : (m : Move) (t : Table) (from : ℕ) (es : List Entry) → Sound t → Legal m t → UsersMapped t from → Spared (entries m ++ es) t from
    → UsersMapped (apply m t) from × Spared es (apply m t) from
unfolding give_user take_user give_solver take_solver put_record put_value drop_global
users_move (gives_user g u r) t from es p l c s =
    let a = free_above t from u c l.no_global in
    let z = p.sizes in
    let b = l.global in (
      set_mapped t from u (g + 1) _ c a (omega arith),
      set_spared t from g (u + 1) es (omega arith) (λ v e. omega arith) (λ h v k e. s h v (later k) e),
    )
users_move (takes_user g u r) t from es p l c s =
    let a = s g u first l.has in
    let z = p.sizes in
    let b = below_mark g u (pair_flip p.user) l.has in (
      set_mapped t from u 0 _ c a (omega arith),
      set_spared t from g 0 es (omega arith) (λ v e. absurd (omega arith)) (λ h v k e. s h v (later (later k)) e),
    )
users_move (gives_solver g i) t from es p l c s = (c, λ h v k e. s h v (later k) e)
users_move (takes_solver g i) t from es p l c s = (c, λ h v k e. s h v (later k) e)
users_move (puts_record g r) t from es p l c s = (c, s)
users_move (deletes_global g) t from es p l c s = (c, λ h v k e. s h v (later k) e)
users_move (puts_value i v) t from es p l c s = (c, s)
users_move (tells_mode g sample) t from es p l c s = (c, λ h v k e. s h v (later k) e)
users_move (hides_again g) t from es p l c s = (c, λ h v k e. s h v (later k) e)

users_path : {b : Bool} {t t' : Table} {es : List Entry} (from : ℕ) → Path b t es t' → Sound t → UsersMapped t from → Spared es t from → UsersMapped t' from
users_path from stop p c s = c
users_path from (move {t = t} {es = es} m l f k r) p c s =
    let x = users_move m t from es p l c s in
    users_path from r (move_sound m t p l) x.0 x.1

users_owed : (f : Format) (x : Turn) (t : Table) (from : ℕ) (o : Outcome) → Owed f x t o → Sound t → UsersMapped t from
    → ((notes : List Note) → Spared (entries_of x.call notes) t from) → UsersMapped o.table from
users_owed f x t from o refusing p c s = c
users_owed f x t from o (accepting e l) p c s = users_path from l.path p c (s o.notes)

-- a note hides nothing
no_hides : (g : ℕ) (ns : List Note) → Among (hides g) (map noted ns) → ⊥
no_hides g [] x' = elim x' [ ]
no_hides g (n ∷ ns) (later a) = no_hides g ns a

-- ---- the laws

-- 0 is such a cursor.
pub users_start : (t : Table) → UsersMapped t 0
users_start t = cursor_start _ _

-- of every call but Set mode to Hide the ledger enters its notes alone
hides_none : (call : Calls.Call) → ((g : ℕ) → call ≢ Calls.set_mode g Hide) → hidden_by call ≡ []
hides_none (Calls.set_mode g Sample) n = refl
hides_none (Calls.set_mode g Witness) n = refl
hides_none (Calls.set_mode g Hide) n = absurd (n g refl)
hides_none (Calls.lookup asked i) n = refl
hides_none (Calls.map_user u sampling) n = refl
hides_none Calls.new_user n = refl
hides_none (Calls.pose lits sampling) n = refl
hides_none (Calls.grant g) n = refl
hides_none Calls.observe n = refl
hides_none (Calls.mark m s) n = refl
hides_none (Calls.assign c) n = refl
hides_none (Calls.remove s) n = refl
hides_none Calls.sweep n = refl
hides_none (Calls.simplify lits redundant) n = refl
hides_none (Calls.simplify_binary lists) n = refl
hides_none (Calls.rename step solver_vars lits hashes) n = refl
hides_none (Calls.write step solver_vars lits hashes) n = refl
hides_none Calls.model n = refl

-- It is kept by every call but Set mode to Hide,
pub call_users : (f : Format) (call : Calls.Call) (rooms : Calls.Rooms) (t : Table) (from : ℕ) → ((g : ℕ) → call ≢ Calls.set_mode g Hide) → soundb t ≡ true
    → UsersMapped t from → UsersMapped (Calls.perform f call rooms t).table from
unfolding turn_does entries_of
call_users f call rooms t from n k c =
    users_owed f (turn call rooms) t from _ (turn_owed f (turn call rooms) t) (sound_of t k) c
    (λ notes g u a e. absurd (no_hides g notes (subst (λ (es : List Entry). Among (hides g) (es ++ map noted notes)) (hides_none call n) a)))

-- and by Set mode on a global of which the user, where it has one, is not below it.
pub set_mode_users : (f : Format) (g : ℕ) (mode : SamplingMode) (rooms : Calls.Rooms) (t : Table) (from : ℕ) → soundb t ≡ true → UsersMapped t from
    → ((u : ℕ) → get_or t.user_from_global g 0 ≡ u + 1 → from ≤ u) → UsersMapped (Calls.perform f (Calls.set_mode g mode) rooms t).table from
unfolding turn_does entries_of
set_mode_users f g mode rooms t from k c s =
    users_owed f (turn (Calls.set_mode g mode) rooms) t from _ (turn_owed f (turn (Calls.set_mode g mode) rooms) t) (sound_of t k) c
    (λ notes h u a e. s u (subst (λ (i : ℕ). get_or t.user_from_global i 0 ≡ u + 1) (only mode notes h a) e))
  where
    only : (m : SamplingMode) (notes : List Note) (h : ℕ) → Among (hides h) (hidden m g ++ map noted notes) → h ≡ g
    only Sample notes h a = absurd (no_hides h notes a)
    only Witness notes h a = absurd (no_hides h notes a)
    only Hide notes h first = refl
    only Hide notes h (later a) = absurd (no_hides h notes a)

-- After an accepted New user the next user is one.
pub new_user_users : (t : Table) (room u g n : ℕ) → (new_user_of t room).answer ≡ accepted (u ∷ g ∷ n ∷ []) → UsersMapped (new_user_of t room).table (u + 1)
unfolding new_user_of new_user_refusal new_user unless
new_user_users t room u g n = go (new_user_refusal t room) refl
  where
    go : (r : ℕ) → new_user_refusal t room ≡ r → (unless r t (noting (λ vs. vs) (new_user t))).answer ≡ accepted (u ∷ g ∷ n ∷ [])
        → UsersMapped (unless r t (noting (λ vs. vs) (new_user t))).table (u + 1)
    go (suc r) q e = absurd (let x = ap number_of e in omega arith)
    go zero q e =
        let x = past (not (soundb t)) 1 _ (omega arith) q in
        let p = sound_of t (not-false (soundb t) x.0) in
        let y = past (ltb t.counts.capacity (undeleted t + 1)) 5 _ (omega arith) x.1 in
        let m = map_user_mapped t (next_user t) (new_user_room t p (ltb-false t.counts.capacity (undeleted t + 1) y.0)) in
        let w : next_user t ≡ u = ap (λ (a : Answer). get_or (values_of a) 0 0) e in
        subst (λ (v : ℕ). UsersMapped (map_user (next_user t) t).table (v + 1)) w (up_to p m)
      where
        up_to : Sound t → Mapped t (next_user t) (map_user (next_user t) t) → UsersMapped (map_user (next_user t) t).table (next_user t + 1)
        up_to p m =
            record {
              within = let l = m.user in omega arith;
              below = λ k l. ne_eqb (get_or (map_user (next_user t) t).table.global_from_user k 0) 0 (filled k l (ℕ_discrete k (next_user t)));
            }
          where
            filled : (k : ℕ) → k < next_user t + 1 → Dec (k ≡ next_user t) → get_or (map_user (next_user t) t).table.global_from_user k 0 ≢ 0
            filled k l (yes q) = rw q (let h = m.has in λ z. omega arith)
            filled k l (no q) =
                let b = next_user_most t in
                rw (m.other k q (omega arith)) (next_user_before t k (omega arith))

-- ---- globals

-- no global below `from` is deleted
abbrev pub GlobalsAlive : Table → ℕ → Type 0
GlobalsAlive t from = NoneFree (λ g. is_deleted (record_of t g)) t.counts.global from

-- no global that the entries delete is below `from`
abbrev DeletesAbove : List Entry → ℕ → Type 0
DeletesAbove es from = (g : ℕ) → Among (noted (deletes g)) es → from ≤ g

-- a record that is put is not one of a deleted global
put_alive : (t : Table) (from g r mark : ℕ) → GlobalsAlive t from → g < length t.records → r < 36 → t.counts.global ≤ mark
    → NoneFree (λ k. is_deleted (get_or (set t.records g r) k fresh_record)) mark from
put_alive t from g r mark c l small m = cursor_kept _ _ _ _ from c m (λ k b n. go k n (ℕ_discrete k g))
  where
    go : (k : ℕ) → is_deleted (record_of t k) ≡ false → Dec (k ≡ g) → is_deleted (get_or (set t.records g r) k fresh_record) ≡ false
    go k n (yes q) = rw (q, get_or-set_same t.records g r fresh_record l) (lt-leb 36 r small)
    go k n (no q) = rw (get_or-set_other t.records g k r fresh_record q) n

globals_move : (m : Move) (t : Table) (from : ℕ) → Sound t → Legal m t → GlobalsAlive t from → DeletesAbove (entries m) from
    → GlobalsAlive (apply m t) from
unfolding give_user take_user give_solver take_solver put_record put_value drop_global
globals_move (gives_user g u r) t from p l c d =
    let z = p.sizes in
    let b = l.global in
    put_alive t from g r _ c (omega arith) l.shown.0 (omega arith)
globals_move (takes_user g u r) t from p l c d =
    let z = p.sizes in
    let b = below_mark g u (pair_flip p.user) l.has in
    put_alive t from g r _ c (omega arith) l.undeleted (omega arith)
globals_move (gives_solver g i) t from p l c d = cursor_kept _ _ _ _ from c (omega arith) (λ k b n. n)
globals_move (takes_solver g i) t from p l c d = c
globals_move (puts_record g r) t from p l c d =
    let z = p.sizes in
    let b = undeleted_below t g p l.old in
    put_alive t from g r _ c (omega arith) l.new (omega arith)
globals_move (deletes_global g) t from p l c d =
    let a = d g first in
    cursor_kept _ _ _ _ from c (omega arith) (λ k b n. rw (get_or-set_other t.records g k (record_of t g + 36) fresh_record (λ q. omega arith)) n)
globals_move (puts_value i v) t from p l c d = c
globals_move (tells_mode g sample) t from p l c d = c
globals_move (hides_again g) t from p l c d = c

among_front : {A : Type 0} {x : A} {ys : List A} (xs : List A) → Among x ys → Among x (ys ++ xs)
among_front xs first = first
among_front xs (later a) = later (among_front xs a)

globals_path : {b : Bool} {t t' : Table} {es : List Entry} (from : ℕ) → Path b t es t' → Sound t → GlobalsAlive t from → DeletesAbove es from → GlobalsAlive t' from
globals_path from stop p c d = c
globals_path from (move {t = t} {es = es} m l f k r) p c d =
    globals_path from r (move_sound m t p l) (globals_move m t from p l c (λ g a. d g (among_front es a))) (λ g a. d g (among_rest (entries m) a))

globals_owed : (f : Format) (x : Turn) (t : Table) (from : ℕ) (o : Outcome) → Owed f x t o → Sound t → GlobalsAlive t from
    → DeletesAbove (entries_of x.call o.notes) from → GlobalsAlive o.table from
globals_owed f x t from o refusing p c d = c
globals_owed f x t from o (accepting e l) p c d = globals_path from l.path p c d

-- ---- calls that make no note D

abbrev is_delete : Note → Bool
is_delete (user+ g u) = false
is_delete (user- g) = false
is_delete (solver+ g i) = false
is_delete (solver- g) = false
is_delete (deletes g) = true
is_delete (changes g sample) = false

abbrev NoneD : List Note → Type 0
NoneD ns = any_of is_delete ns ≡ false

none_both : (ns ms : List Note) → NoneD ns → NoneD ms → NoneD (ns ++ ms)
none_both ns ms a b = any_append is_delete ns ms ∙ rw (a, b)

none_each : (f : ℕ → Table → Result (List ℕ)) → ((i : ℕ) (s : Table) → NoneD (f i s).notes) → (n : ℕ) (t : Table) → NoneD (each n f t).notes
unfolding each any_of
none_each f h zero t = refl
none_each f h (suc n) t = none_both (each n f t).notes _ (none_each f h n t) (h n (each n f t).table)

none_map_one : (u : ℕ) (t : Table) → NoneD (map_one u t).notes
unfolding map_one any_of
none_map_one u t = refl

none_map : (u : ℕ) (t : Table) → NoneD (map_user u t).notes
unfolding map_user fill_gap any_of
none_map u t =
    by_word (λ (x : Result ℕ). NoneD x.notes) (get_or t.global_from_user u 0)
    (λ e. none_both (fill_gap (u - t.counts.user) t).notes _ (none_each _ (λ i s. none_map_one (t.counts.user + i) s) (u - t.counts.user) t)
    (none_map_one u _))
    (λ g e. refl)

none_grant : (g : ℕ) (t : Table) → NoneD (grant g t).notes
unfolding grant grant_one any_of
none_grant g t = by_word (λ (x : Result ℕ). NoneD x.notes) (get_or t.solver_from_global g 0) (λ e. refl) (λ s e. refl)

none_pose : (lits : List ℕ) (t : Table) → NoneD (pose lits t).notes
unfolding pose pose_one
none_pose lits t =
    none_each _ (λ i s. none_both (map_user (index_of (get_or lits i 0)) s).notes _ (none_map (index_of (get_or lits i 0)) s) (none_grant _ _)) (length lits) t

none_observe : (t : Table) → NoneD (observe t).notes
unfolding observe observe_one show any_of
none_observe t =
    none_each _ (λ g s. by_choose (λ (x : Result (List ℕ)). NoneD x.notes) (is_hidden (record_of s g)) (λ e. refl) (λ e. refl)) t.counts.global t

none_mode : (g m : ℕ) (t : Table) → eqb m 2 ≡ false → NoneD (set_mode g m t).notes
unfolding set_mode show change any_of
none_mode g m t e =
    by_choose (λ (x : Result (List ℕ)). NoneD x.notes) (eqb (mode_of (record_of t g)) m) (λ a. refl)
    (λ a.
    by_choose (λ (x : Result (List ℕ)). NoneD x.notes) (eqb m 2) (λ b. absurd (true≢false (sym b ∙ e)))
    (λ b. by_choose (λ (x : Result (List ℕ)). NoneD x.notes) (eqb (mode_of (record_of t g)) 2) (λ c. refl) (λ c. refl)))

none_unless : (n : ℕ) (t : Table) (o : Outcome) → NoneD o.notes → NoneD (unless n t o).notes
unfolding unless any_of
none_unless zero t o h = h
none_unless (suc n) t o h = refl

-- Set mode to Hide, Remove and Sweep
abbrev pub may_delete : Calls.Call → Bool
may_delete (Calls.lookup asked i) = false
may_delete (Calls.map_user u sampling) = false
may_delete Calls.new_user = false
may_delete (Calls.pose lits sampling) = false
may_delete (Calls.grant g) = false
may_delete (Calls.set_mode g Sample) = false
may_delete (Calls.set_mode g Witness) = false
may_delete (Calls.set_mode g Hide) = true
may_delete Calls.observe = false
may_delete (Calls.mark m s) = false
may_delete (Calls.assign c) = false
may_delete (Calls.remove s) = true
may_delete Calls.sweep = true
may_delete (Calls.simplify lits redundant) = false
may_delete (Calls.simplify_binary lists) = false
may_delete (Calls.rename step solver_vars lits hashes) = false
may_delete (Calls.write step solver_vars lits hashes) = false
may_delete Calls.model = false

-- the others make none
none_call : (f : Format) (call : Calls.Call) (rooms : Calls.Rooms) (t : Table) → may_delete call ≡ false → NoneD (Calls.perform f call rooms t).notes
unfolding Calls.perform any_of lookup_of global_from_user_of user_from_global_of solver_from_global_of global_from_solver_of record_word_of assignment_word_of map_of new_user_of
    new_user grant_of pose_of set_mode_of observe_of mark_of assign_of simplify_of binary_of rename_of write_of model_of
none_call f (Calls.lookup Calls.global_from_user i) rooms t d = none_unless _ t _ refl
none_call f (Calls.lookup Calls.user_from_global i) rooms t d = none_unless _ t _ refl
none_call f (Calls.lookup Calls.solver_from_global i) rooms t d = none_unless _ t _ refl
none_call f (Calls.lookup Calls.global_from_solver i) rooms t d = none_unless _ t _ refl
none_call f (Calls.lookup Calls.record_word i) rooms t d = none_unless _ t _ refl
none_call f (Calls.lookup Calls.assignment_word i) rooms t d = none_unless _ t _ refl
none_call f (Calls.map_user u sampling) rooms t d = none_unless _ t _ (none_map u t)
none_call f Calls.new_user rooms t d = none_unless _ t _ (none_map (next_user t) t)
none_call f (Calls.pose lits sampling) rooms t d = none_unless _ t _ (none_pose lits t)
none_call f (Calls.grant g) rooms t d = none_unless _ t _ (none_grant g t)
none_call f (Calls.set_mode g Sample) rooms t d = none_unless _ t _ (none_mode g 0 t refl)
none_call f (Calls.set_mode g Witness) rooms t d = none_unless _ t _ (none_mode g 1 t refl)
none_call f (Calls.set_mode g Hide) rooms t d = absurd (true≢false d)
none_call f Calls.observe rooms t d = none_unless _ t _ (none_observe t)
none_call f (Calls.mark m s) rooms t d = none_unless _ t _ refl
none_call f (Calls.assign c) rooms t d = none_unless _ t _ refl
none_call f (Calls.remove s) rooms t d = absurd (true≢false d)
none_call f Calls.sweep rooms t d = absurd (true≢false d)
none_call f (Calls.simplify lits redundant) rooms t d = none_unless _ t _ refl
none_call f (Calls.simplify_binary lists) rooms t d = none_unless _ t _ refl
none_call f (Calls.rename step solver_vars lits hashes) rooms t d = none_unless _ t _ refl
none_call f (Calls.write step solver_vars lits hashes) rooms t d = none_unless _ t _ refl
none_call f Calls.model rooms t d = none_unless _ t _ refl

note_among : {n : Note} (ns : List Note) → Among (noted n) (map noted ns) → Among n ns
note_among {n = n} [] x' = elim x' [ ]
note_among (n ∷ ns) first = first
note_among (n ∷ ns) (later a) = later (note_among ns a)

none_among : {g : ℕ} {ns : List Note} → NoneD ns → Among (deletes g) ns → ⊥
unfolding any_of
none_among h first = true≢false h
none_among {ns = n ∷ ns} h (later a) = none_among (or_right (is_delete n) _ h) a

-- among what the ledger enters of a call a note is one of the call's
entry_note : {n : Note} (call : Calls.Call) (ns : List Note) → Among (noted n) (hidden_by call ++ map noted ns) → Among n ns
entry_note (Calls.set_mode g Sample) ns a = note_among ns a
entry_note (Calls.set_mode g Witness) ns a = note_among ns a
entry_note (Calls.set_mode g Hide) ns (later a) = note_among ns a
entry_note (Calls.lookup asked i) ns a = note_among ns a
entry_note (Calls.map_user u sampling) ns a = note_among ns a
entry_note Calls.new_user ns a = note_among ns a
entry_note (Calls.pose lits sampling) ns a = note_among ns a
entry_note (Calls.grant g) ns a = note_among ns a
entry_note Calls.observe ns a = note_among ns a
entry_note (Calls.mark m s) ns a = note_among ns a
entry_note (Calls.assign c) ns a = note_among ns a
entry_note (Calls.remove s) ns a = note_among ns a
entry_note Calls.sweep ns a = note_among ns a
entry_note (Calls.simplify lits redundant) ns a = note_among ns a
entry_note (Calls.simplify_binary lists) ns a = note_among ns a
entry_note (Calls.rename step solver_vars lits hashes) ns a = note_among ns a
entry_note (Calls.write step solver_vars lits hashes) ns a = note_among ns a
entry_note Calls.model ns a = note_among ns a

-- ---- the laws

-- 0 is such a cursor.
pub globals_start : (t : Table) → GlobalsAlive t 0
globals_start t = cursor_start _ _

-- It is kept by every call but Set mode to Hide, Remove and Sweep.
pub call_globals : (f : Format) (call : Calls.Call) (rooms : Calls.Rooms) (t : Table) (from : ℕ) → may_delete call ≡ false → soundb t ≡ true
    → GlobalsAlive t from → GlobalsAlive (Calls.perform f call rooms t).table from
unfolding turn_does entries_of
call_globals f call rooms t from d k c =
    globals_owed f (turn call rooms) t from _ (turn_owed f (turn call rooms) t) (sound_of t k) c
    (λ g a. absurd (none_among (none_call f call rooms t d) (entry_note call _ a)))

-- and by every call that deletes no global below it.
pub deletes_globals : (f : Format) (call : Calls.Call) (rooms : Calls.Rooms) (t : Table) (from : ℕ) → soundb t ≡ true → GlobalsAlive t from
    → ((g : ℕ) → Among (deletes g) (Calls.perform f call rooms t).notes → from ≤ g) → GlobalsAlive (Calls.perform f call rooms t).table from
unfolding turn_does entries_of
deletes_globals f call rooms t from k c d =
    globals_owed f (turn call rooms) t from _ (turn_owed f (turn call rooms) t) (sound_of t k) c (λ g a. d g (entry_note call _ a))

-- the global that is taken for a user, where it is not the one of its own index
taken_least : (t : Table) (u : ℕ) → global_for t u ≢ u → global_for t u ≡ least t.counts.global (λ g. is_deleted (record_of t g))
unfolding global_for
taken_least t u n = go (eqb u t.counts.global || is_deleted (record_of t u)) n
  where
    go : (b : Bool) → pick b u (least t.counts.global (λ g. is_deleted (record_of t g))) ≢ u
        → pick b u (least t.counts.global (λ g. is_deleted (record_of t g))) ≡ least t.counts.global (λ g. is_deleted (record_of t g))
    go true n = absurd (n refl)
    go false n = refl

taken_alive : (t : Table) (u : ℕ) → Mappable t u → global_for t u ≢ u → GlobalsAlive (map_one u t).table (global_for t u)
unfolding map_one give_user
taken_alive t u m n =
    let z = m.sound.sizes in
    let w = (map_one_fresh t u m).within in
    put_alive t (global_for t u) (global_for t u) user_record _ (cursor_least _ _ _ (taken_least t u n)) (omega arith) (omega arith) (omega arith)

mapped_alive : (t : Table) (u : ℕ) → MapRoom t u → get_or t.global_from_user u 0 ≡ 0 → (map_user u t).value ≢ u
    → GlobalsAlive (map_user u t).table (map_user u t).value
mapped_alive t u m e =
    let s = (fill_gap (u - t.counts.user) t).table in
    subst (λ (x : Result ℕ). x.value ≢ u → GlobalsAlive x.table x.value) (sym (map_user_free t u e))
    (λ n.
    let v = map_one_value s u in
    subst (λ (g : ℕ). GlobalsAlive (map_one u s).table g) (sym v) (taken_alive s u (map_last_mappable t u m e) (λ q. n (v ∙ q))))

-- After an accepted Map that made a note, of a user that got a global of another index, that global is one,
pub map_globals : (t : Table) (u : ℕ) (sampling : Bool) (room g n : ℕ) → (map_of t u sampling room).answer ≡ accepted (g ∷ n ∷ []) → g ≢ u → n ≢ 0
    → GlobalsAlive (map_of t u sampling room).table g
unfolding map_of map_refusal unless
map_globals t u sampling room g n = go (map_refusal t u sampling room) refl
  where
    go : (r : ℕ) → map_refusal t u sampling room ≡ r → (unless r t (noting (λ v. v ∷ []) (map_user u t))).answer ≡ accepted (g ∷ n ∷ []) → g ≢ u → n ≢ 0
        → GlobalsAlive (unless r t (noting (λ v. v ∷ []) (map_user u t))).table g
    go (suc r) q e a b = absurd (let x = ap number_of e in omega arith)
    go zero q e a b =
        let x = past (not (soundb t)) 1 _ (omega arith) q in
        let p = sound_of t (not-false (soundb t) x.0) in
        let y = past (leb t.counts.capacity u) 3 _ (omega arith) x.1 in
        let z = past (sampling && unsampled t u) 4 _ (omega arith) y.1 in
        let w = past (ltb t.counts.capacity (undeleted t + to_map t u)) 5 _ (omega arith) z.1 in
        let v : (map_user u t).value ≡ g = ap (λ (x : Answer). get_or (values_of x) 0 0) e in
        let c : length (map_user u t).notes ≡ n = ap (λ (x : Answer). get_or (values_of x) 1 0) e in
        subst (λ (h : ℕ). GlobalsAlive (map_user u t).table h) v
        (mapped_alive t u (map_room_of t u p y.0 w.0) (free (get_or t.global_from_user u 0) refl c b) (λ k. a (sym v ∙ k)))
      where
        free : (w : ℕ) → get_or t.global_from_user u 0 ≡ w → length (map_user u t).notes ≡ n → n ≢ 0 → get_or t.global_from_user u 0 ≡ 0
        free zero h c b = h
        free (suc i) h c b =
            absurd (b (sym c ∙ ap (λ (x : Result ℕ). length x.notes) (map_user_has t u i (omega arith))))

-- and so it is after an accepted New user.
pub new_user_globals : (t : Table) (room u g n : ℕ) → (new_user_of t room).answer ≡ accepted (u ∷ g ∷ n ∷ []) → g ≢ u → GlobalsAlive (new_user_of t room).table g
unfolding new_user_of new_user_refusal new_user unless
new_user_globals t room u g n = go (new_user_refusal t room) refl
  where
    go : (r : ℕ) → new_user_refusal t room ≡ r → (unless r t (noting (λ vs. vs) (new_user t))).answer ≡ accepted (u ∷ g ∷ n ∷ []) → g ≢ u
        → GlobalsAlive (unless r t (noting (λ vs. vs) (new_user t))).table g
    go (suc r) q e a = absurd (let x = ap number_of e in omega arith)
    go zero q e a =
        let x = past (not (soundb t)) 1 _ (omega arith) q in
        let p = sound_of t (not-false (soundb t) x.0) in
        let y = past (ltb t.counts.capacity (undeleted t + 1)) 5 _ (omega arith) x.1 in
        let w : next_user t ≡ u = ap (λ (x : Answer). get_or (values_of x) 0 0) e in
        let v : (map_user (next_user t) t).value ≡ g = ap (λ (x : Answer). get_or (values_of x) 1 0) e in
        subst (λ (h : ℕ). GlobalsAlive (map_user (next_user t) t).table h) v
        (mapped_alive t (next_user t) (new_user_room t p (ltb-false t.counts.capacity (undeleted t + 1) y.0)) (next_user_free t p)
        (λ k. a (sym v ∙ k ∙ w)))
