-- Promise c: where there is room each call is accepted and does its work. "Short" or "no free global" cannot be said with nothing tried, and
-- a table that does nothing does not meet what is said here of the table left.
use Prim.Native.Nat.{ℕ, zero, suc, ◌+◌, ◌-◌, ◌*◌, ◌<◌, ◌≤◌}
use mathlib.Core.Path.{◌≡◌, refl, sym, ap, ◌∙◌}
use mathlib.Core.Bool.{Bool, true, false, ◌&&◌}
use mathlib.Core.Logic.{◌≢◌}
use mathlib.Core.List.{List, [], ◌∷◌, ◌++◌}
use native.Mathlib.Omega.{arith}
use lib.ListN.{length, get_or, length-append, length-set}
use lib.Seq.{get_or-set_same}
use borrow.Author.Tests.{lt-leb, le-ltb, eqb-true, eq-eqb, ne_eqb}
use Rattle.base.specs.Answer.{accepted}
use Rattle.scope.specs.declared.SamplingMode.{SamplingMode}
use Rattle.scope.specs.declared.SamplingMode.TheVariants.{Sample, Witness, Hide}
use Rattle.scope.specs.declared.Mark.{Mark}
use Rattle.scope.specs.Literals.{index_of}
use Rattle.scope.specs.Table.{Table, record_of, mode_of, assumed_of, with_mode, give_user, take_user, take_solver, put_record, put_value, undeleted, drop_global}
use Rattle.scope.specs.Sound.{Sound, sizesb}
use Rattle.scope.specs.Outcome.{Result, Outcome, each, noting, changing, telling, refusal}
use Rattle.scope.specs.Open.{empty_table, open_of}
use Rattle.scope.specs.Lookup.{lookup_of}
use Rattle.scope.specs.Map.{to_map, unsampled, map_user, new_user, next_user, map_refusal, map_of, new_user_refusal, new_user_of}
use Rattle.scope.specs.Grant.{grant, grant_refusal, grant_of}
use Rattle.scope.specs.Modes.{mode_number, delete_if_unused, show, hide, change, set_mode, set_mode_refusal, set_mode_of}
use Rattle.scope.specs.Marks.{not_held, holder_of, marked, mark, mark_refusal, mark_of, true_value, assign_refusal, assign_of}
use Rattle.scope.specs.Remove.{remove_held, remove, remove_refusal, remove_of, sweep_held, sweep_one, sweep, sweep_refusal, sweep_of, learn}
use Rattle.scope.proofs.SoundLaws.{sound_to}
use Rattle.scope.proofs.PairLaws.{below_mark}
use Rattle.scope.proofs.MoveLaws.{undeleted_below}
use Rattle.scope.proofs.ResultLaws.{by_choose, by_word, unless_some, unless_none}
use Rattle.scope.proofs.MapLaws.{MapRoom, map_user_mapped, new_user_room, next_user_to_map}
use Rattle.scope.proofs.GrantLaws.{to_grant, grant_granted}
use Rattle.scope.proofs.RemoveLaws.{holder_holds, held_undeleted, removed_free, is_due, sweep_complete}
use Rattle.scope.proofs.MarkLaws.{held_else_lem}
use Rattle.scope.proofs.RuledOut.{map_accepted, new_user_accepted, grant_accepted}

-- ---- Open and Lookup

pub open_works : (t : Table) → sizesb t ≡ true → open_of t ≡ changing (empty_table t.counts.capacity)
unfolding open_of
open_works t h = unless_none _ t _ (rw h)

pub lookup_works : (t : Table) (vs : List ℕ) → Sound t → lookup_of t vs ≡ telling vs t
unfolding lookup_of
lookup_works t vs p = unless_none _ t _ (rw (sound_to t p))

-- ---- names

-- the user has the global answered
pub map_works : (t : Table) (u : ℕ) (sampling : Bool) (room : ℕ) → MapRoom t u → sampling && unsampled t u ≡ false → 3 * to_map t u ≤ room
    → ((map_of t u sampling room).answer ≡ accepted ((map_user u t).value ∷ to_map t u ∷ []))
    × (get_or (map_of t u sampling room).table.global_from_user u 0 ≡ (map_user u t).value + 1)
unfolding map_of
map_works t u sampling room m s h =
    let e = unless_none (map_refusal t u sampling room) t (noting (λ g. g ∷ []) (map_user u t)) (map_accepted t u sampling room m s h) in
    let x = map_user_mapped t u m in (
      ap (λ (o : Outcome). o.answer) e ∙ ap (λ (n : ℕ). accepted ((map_user u t).value ∷ n ∷ [])) x.count,
      ap (λ (o : Outcome). get_or o.table.global_from_user u 0) e ∙ x.has,
    )

pub new_user_works : (t : Table) (room : ℕ) → Sound t → undeleted t + 1 ≤ t.counts.capacity → 3 ≤ room
    → ((new_user_of t room).answer ≡ accepted (next_user t ∷ (map_user (next_user t) t).value ∷ 1 ∷ []))
    × (get_or (new_user_of t room).table.global_from_user (next_user t) 0 ≡ (map_user (next_user t) t).value + 1)
unfolding new_user_of new_user
new_user_works t room p h k =
    let e = unless_none (new_user_refusal t room) t (noting (λ vs. vs) (new_user t)) (new_user_accepted t room p h k) in
    let x = map_user_mapped t (next_user t) (new_user_room t p h) in (
      ap (λ (o : Outcome). o.answer) e
          ∙ ap (λ (n : ℕ). accepted (next_user t ∷ (map_user (next_user t) t).value ∷ n ∷ [])) (x.count ∙ next_user_to_map t p),
      ap (λ (o : Outcome). get_or o.table.global_from_user (next_user t) 0) e ∙ x.has,
    )

-- the global holds the index answered
pub grant_works : (t : Table) (g room : ℕ) → Sound t → record_of t g < 36 → 3 * to_grant t g ≤ room
    → ((grant_of t g room).answer ≡ accepted ((grant g t).value ∷ to_grant t g ∷ []))
    × (get_or (grant_of t g room).table.global_from_solver (grant g t).value 0 ≡ g + 1)
unfolding grant_of
grant_works t g room p k h =
    let e = unless_none (grant_refusal t g room) t (noting (λ s. s ∷ []) (grant g t)) (grant_accepted t g room p (undeleted_below t g p k) k h) in
    let x = grant_granted t g p k in (
      ap (λ (o : Outcome). o.answer) e ∙ ap (λ (n : ℕ). accepted ((grant g t).value ∷ n ∷ [])) x.count,
      ap (λ (o : Outcome). get_or o.table.global_from_solver (grant g t).value 0) e ∙ x.holds,
    )

-- ---- modes

delete_notes : (g : ℕ) (t : Table) → length (delete_if_unused g t).notes ≤ 1
unfolding delete_if_unused
delete_notes g t = by_choose (λ (x : Result (List ℕ)). length x.notes ≤ 1) _ (λ e. omega arith) (λ e. omega arith)

-- at most two notes
pub set_mode_notes : (g m : ℕ) (t : Table) → length (set_mode g m t).notes ≤ 2
unfolding set_mode hide show change
set_mode_notes g m t =
    by_choose (λ (x : Result (List ℕ)). length x.notes ≤ 2) _ (λ e. omega arith)
    (λ e. by_choose (λ (x : Result (List ℕ)). length x.notes ≤ 2) _
    (λ e. let d = delete_notes g (take_user g (get_or t.user_from_global g 0 - 1) (with_mode (record_of t g) 2) t) in omega arith)
    (λ e. by_choose (λ (x : Result (List ℕ)). length x.notes ≤ 2) _ (λ e. omega arith) (λ e. omega arith)))

-- a deletion leaves the mode
delete_mode : (g : ℕ) (t : Table) → g < length t.records → mode_of (record_of (delete_if_unused g t).table g) ≡ mode_of (record_of t g)
unfolding delete_if_unused drop_global put_record
delete_mode g t l =
    by_choose (λ (x : Result (List ℕ)). mode_of (record_of x.table g) ≡ mode_of (record_of t g)) _
    (λ e. rw (get_or-set_same t.records g (record_of t g + 36) 47 l) (omega arith))
    (λ e. refl)

pub set_mode_sets : (t : Table) (g m : ℕ) → Sound t → g < t.counts.global → m < 3 → mode_of (record_of (set_mode g m t).table g) ≡ m
unfolding set_mode hide show change give_user take_user put_record
set_mode_sets t g m p l k =
    let z = p.sizes in
    let same = get_or-set_same t.records g (with_mode (record_of t g) m) 47 (omega arith) in
    by_choose (λ (x : Result (List ℕ)). mode_of (record_of x.table g) ≡ m) _ (λ e. eqb-true (mode_of (record_of t g)) m e)
    (λ e. by_choose (λ (x : Result (List ℕ)). mode_of (record_of x.table g) ≡ m) _ (λ f. hidden (eqb-true m 2 f))
    (λ f. by_choose (λ (x : Result (List ℕ)). mode_of (record_of x.table g) ≡ m) _ (λ h. rw same (omega arith)) (λ h. rw same (omega arith))))
  where
    hidden : m ≡ 2 → mode_of (record_of (hide g t).table g) ≡ m
    hidden f =
        let z = p.sizes in
        let w = take_user g (get_or t.user_from_global g 0 - 1) (with_mode (record_of t g) 2) t in
        let a = length-set t.records g (with_mode (record_of t g) 2) in
        let b = get_or-set_same t.records g (with_mode (record_of t g) 2) 47 (omega arith) in
        let c = delete_mode g w (omega arith) in
        let d = ap mode_of b in
        omega arith

pub set_mode_accepted : (t : Table) (g : ℕ) (m : SamplingMode) (room : ℕ) → Sound t → record_of t g < 36 → assumed_of (record_of t g) ≡ 0 → 6 ≤ room
    → set_mode_refusal t g m room ≡ 0
unfolding set_mode_refusal
set_mode_accepted t g m room p h a k =
    let c = set_mode_notes g (mode_number m) t in
    rw (
      sound_to t p,
      lt-leb t.counts.global g (undeleted_below t g p h),
      lt-leb 36 (record_of t g) h,
      ne_eqb (assumed_of (record_of t g)) 1 (omega arith),
      le-ltb room (3 * length (set_mode g (mode_number m) t).notes) (omega arith),
    )

mode_below : (m : SamplingMode) → mode_number m < 3
mode_below Sample = omega arith
mode_below Witness = omega arith
mode_below Hide = omega arith

-- the global has the mode
pub set_mode_works : (t : Table) (g : ℕ) (m : SamplingMode) (room : ℕ) → Sound t → record_of t g < 36 → assumed_of (record_of t g) ≡ 0 → 6 ≤ room
    → ((set_mode_of t g m room).answer ≡ accepted ((set_mode g (mode_number m) t).value ++ (length (set_mode g (mode_number m) t).notes ∷ [])))
    × (mode_of (record_of (set_mode_of t g m room).table g) ≡ mode_number m)
unfolding set_mode_of
set_mode_works t g m room p h a k =
    let e = unless_none (set_mode_refusal t g m room) t (noting (λ us. us) (set_mode g (mode_number m) t)) (set_mode_accepted t g m room p h a k) in (
      ap (λ (o : Outcome). o.answer) e,
      ap (λ (o : Outcome). mode_of (record_of o.table g)) e ∙ set_mode_sets t g (mode_number m) p (undeleted_below t g p h) (mode_below m),
    )

-- ---- removal

pub remove_notes : (g s : ℕ) (t : Table) → length (remove_held g s t).notes ≤ 2
unfolding remove_held
remove_notes g s t = let d = delete_notes g (take_solver g s t) in omega arith

-- the index is held no more
pub remove_works : (t : Table) (s room : ℕ) → Sound t → get_or t.global_from_solver s 0 ≢ 0 → assumed_of (record_of t (holder_of t s)) ≡ 0 → 6 ≤ room
    → ((remove_of t s room).answer ≡ accepted (length (remove s t).notes ∷ [])) × (get_or (remove_of t s room).table.global_from_solver s 0 ≡ 0)
unfolding remove_of remove_refusal remove not_held
remove_works t s room p n a k =
    let c = remove_notes (holder_of t s) s t in
    let r : remove_refusal t s room ≡ 0 =
    rw (sound_to t p)
    (held_else_lem t s _ (ne_eqb (get_or t.global_from_solver s 0) 0 n)
    ∙ rw (
      ne_eqb (assumed_of (record_of t (holder_of t s))) 1 (omega arith),
      le-ltb room (3 * length (remove_held (holder_of t s) s t).notes) (omega arith),
    )) in
    let e = unless_none (remove_refusal t s room) t (noting (λ us. []) (remove s t)) r in
    (ap (λ (o : Outcome). o.answer) e, ap (λ (o : Outcome). get_or o.table.global_from_solver s 0) e ∙ removed_free t (holder_of t s) s p (holder_holds t s n))

-- An index whose global is assumed: 16, whatever room there is.
pub remove_assumed : (t : Table) (s room : ℕ) → Sound t → get_or t.global_from_solver s 0 ≢ 0 → assumed_of (record_of t (holder_of t s)) ≡ 1
    → remove_of t s room ≡ refusal 16 t
unfolding remove_of remove_refusal not_held
remove_assumed t s room p n a =
    unless_some 16 (remove_refusal t s room) t _
    (rw (sound_to t p)
    (sym (held_else_lem t s _ (ne_eqb (get_or t.global_from_solver s 0) 0 n) ∙ rw (eq-eqb (assumed_of (record_of t (holder_of t s))) 1 a))))
    (λ z. omega arith)

sweep_one_notes : (s : ℕ) (t : Table) → length (sweep_one s t).notes ≤ 2
unfolding sweep_one sweep_held
sweep_one_notes s t =
    by_word (λ (x : Result (List ℕ)). length x.notes ≤ 2) _ (λ e. omega arith)
    (λ g e. by_choose (λ (x : Result (List ℕ)). length x.notes ≤ 2) _ (λ z. remove_notes g s (learn g s t)) (λ z. omega arith))

sweep_notes : (n : ℕ) (t : Table) → length (each n sweep_one t).notes ≤ 2 * n
unfolding each
sweep_notes zero t = omega arith
sweep_notes (suc n) t =
    let a = sweep_notes n t in
    let b = sweep_one_notes n (each n sweep_one t).table in
    let c = length-append (each n sweep_one t).notes (sweep_one n (each n sweep_one t).table).notes in
    omega arith

-- an index that is still held is held by a global that is not isolated, or is assumed
pub sweep_works : (t : Table) (room : ℕ) → Sound t → 6 * t.counts.solver ≤ room
    → ((sweep_of t room).answer ≡ accepted (length (sweep t).notes ∷ []))
    × ((s g : ℕ) → get_or (sweep_of t room).table.global_from_solver s 0 ≡ g + 1 → is_due (record_of (sweep_of t room).table g) ≡ false)
unfolding sweep_of sweep_refusal sweep
sweep_works t room p k =
    let c = sweep_notes t.counts.solver t in
    let r : sweep_refusal t room ≡ 0 = rw (sound_to t p, le-ltb room (3 * length (each t.counts.solver sweep_one t).notes) (omega arith)) in
    let e = unless_none (sweep_refusal t room) t (noting (λ us. []) (sweep t)) r in (
      ap (λ (o : Outcome). o.answer) e,
      λ s g h.
          ap (λ (o : Outcome). is_due (record_of o.table g)) e
          ∙ sweep_complete t p s g (sym (ap (λ (o : Outcome). get_or o.table.global_from_solver s 0) e) ∙ h),
    )

-- ---- marks and Assign

pub mark_works : (t : Table) (m : Mark) (s : ℕ) → Sound t → get_or t.global_from_solver s 0 ≢ 0
    → ((mark_of t m s).answer ≡ accepted []) × (record_of (mark_of t m s).table (holder_of t s) ≡ marked m (record_of t (holder_of t s)))
unfolding mark_of mark_refusal not_held mark put_record
mark_works t m s p n =
    let z = p.sizes in
    let l = undeleted_below t (holder_of t s) p (held_undeleted t (holder_of t s) s p (holder_holds t s n)) in
    let r : mark_refusal t s ≡ 0 = rw (sound_to t p) (held_else_lem t s 0 (ne_eqb (get_or t.global_from_solver s 0) 0 n)) in
    let e = unless_none (mark_refusal t s) t (changing (mark m s t)) r in (
      ap (λ (o : Outcome). o.answer) e,
      ap (λ (o : Outcome). record_of o.table (holder_of t s)) e
          ∙ get_or-set_same t.records (holder_of t s) (marked m (record_of t (holder_of t s))) 47 (omega arith),
    )

-- the literal is true
pub assign_works : (t : Table) (c : ℕ) → Sound t → get_or t.global_from_solver (index_of c) 0 ≢ 0 → get_or t.assignment (index_of c) 0 ≡ 0
    → ((assign_of t c).answer ≡ accepted []) × (get_or (assign_of t c).table.assignment (index_of c) 0 ≡ true_value c)
unfolding assign_of assign_refusal not_held put_value
assign_works t c p n v =
    let z = p.sizes in
    let l = below_mark (index_of c) (holder_of t (index_of c)) p.solver (holder_holds t (index_of c) n) in
    let h = ne_eqb (get_or t.global_from_solver (index_of c) 0) 0 n in
    let r : assign_refusal t c ≡ 0 = rw (sound_to t p) (held_else_lem t (index_of c) _ h ∙ rw (eq-eqb (get_or t.assignment (index_of c) 0) 0 v)) in
    let e = unless_none (assign_refusal t c) t (changing (put_value (index_of c) (true_value c) t)) r in (
      ap (λ (o : Outcome). o.answer) e,
      ap (λ (o : Outcome). get_or o.table.assignment (index_of c) 0) e ∙ get_or-set_same t.assignment (index_of c) (true_value c) 0 (omega arith),
    )
