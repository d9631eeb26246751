-- Promise c, of the calls that fill further slices: Pose, Observe, Simplify, Simplify binary, Rename, Write and Model are accepted and do their work where
-- there is room.
use Prim.Native.Nat.{ℕ, zero, suc, ◌+◌, ◌-◌, ◌*◌, ◌<◌, ◌≤◌}
use mathlib.Core.Path.{◌≡◌, refl, sym, ap, subst, ◌∙◌}
use mathlib.Core.Bool.{Bool, true, false, ◌&&◌, not}
use mathlib.Core.Logic.{◌≢◌}
use mathlib.Core.List.{List, [], ◌∷◌}
use native.Mathlib.Omega.{arith}
use native.Mathlib.Decide.{ℕ_discrete, dec_lt}
use lib.Dec.{eqb, ltb, leb}
use lib.ListN.{length, get_or, length-append, get_or-append}
use lib.Seq.{get_or-set_same, get_or_at}
use borrow.Author.Tests.{lt-leb, le-ltb, ne_eqb}
use Rattle.base.specs.Answer.{accepted}
use Rattle.base.specs.Bounded.{any_of}
use Rattle.base.proofs.BelowLaws.{and_not_right, all_intro}
use Rattle.base.proofs.MemberLaws.{any_intro}
use Rattle.drat.specs.Reading.{read_proof, steps}
use Rattle.drat.specs.Grammar.{Valid}
use Rattle.drat.specs.declared.Format.{Format}
use Rattle.drat.proofs.Written.{encode_spells}
use Rattle.drat.proofs.Complete.{spells_read}
use Rattle.scope.specs.declared.ProofStep.{ProofStep}
use Rattle.scope.specs.Literals.{index_of, sign_of, code_of}
use Rattle.scope.specs.Table.{Table, record_of, mode_of, assumed_of, with_mode, give_user, undeleted}
use Rattle.scope.specs.Sound.{Sound}
use Rattle.scope.specs.Outcome.{Result, Outcome, each}
use Rattle.scope.specs.Map.{unsampled, map_user}
use Rattle.scope.specs.Grant.{grant}
use Rattle.scope.specs.Pose.{pose_one, pose, users_to_map, pose_refusal, pose_of}
use Rattle.scope.specs.Modes.{show, is_hidden, observe_one, observe, observe_refusal, observe_of}
use Rattle.scope.specs.Steps.{rule_of, literals_of, hashes_of, step_words, clause_steps}
use Rattle.scope.specs.Write.{rename_lits, holders, unmatched, outside, step_refusal, rename_refusal, rename_of, lacked, step_bytes, write_refusal, write_of}
use Rattle.scope.specs.declared.Simplified.{Simplified}
use Rattle.scope.specs.declared.Simplified.TheVariants.{Kept, Dropped, Shortened, Binary}
use Rattle.scope.specs.Marks.{not_held, unheld}
use Rattle.scope.specs.Simplify.{is_true, is_false, unfalse, simplified, rest_of, simplify_steps, simplify_bytes, simplify_refusal, simplify_of}
use Rattle.scope.specs.Binary.{cutsb, mirrored, sections_for, section_count, each_section, deletes_at, filled_codes, kept_words, delete_bytes}
use Rattle.scope.specs.Binary.{binary_refusal, binary_of}
use Rattle.scope.specs.Models.{global_model, user_model, model_refusal, model_of}
use Rattle.scope.proofs.SoundLaws.{sound_to}
use Rattle.scope.proofs.MoveLaws.{undeleted_below}
use Rattle.scope.proofs.ResultLaws.{by_choose, each_keeps, unless_none}
use Rattle.scope.proofs.ModeLaws.{observe_passed, observe_one_sound, hidden_of, show_records}
use Rattle.scope.proofs.MapLaws.{MapRoom, map_user_mapped, map_user_has, mapped_global}
use Rattle.scope.proofs.GrantLaws.{grant_granted, grant_has}
use Rattle.scope.proofs.PoseLaws.{PoseRoom, pose_step, users_to_grant, pose_room, pose_one_posed, pose_count, pose_part_words}
use Rattle.scope.proofs.WriteLaws.{rename_codes, solver_codes, keep_none, written_valid}
use Rattle.scope.proofs.MarkLaws.{lits_else}
use Rattle.scope.proofs.BinaryLaws.{all_held, deletes_valid}

-- ---- Observe

-- the globals below i are not hidden
record Unhidden (i : ℕ) (s : Table) : Type 0 where
  shown : (k : ℕ) → k < i → is_hidden (record_of s k) ≡ false

witness_shown : (r : ℕ) → is_hidden (with_mode r 1) ≡ false
unfolding is_hidden
witness_shown r = and_not_right (ltb (with_mode r 1) 36) _ (ne_eqb (mode_of (with_mode r 1)) 2 (λ e. omega arith))

fresh_shown : is_hidden 47 ≡ false
unfolding is_hidden
fresh_shown = refl

show_here : (s : Table) (i : ℕ) → Sound s → is_hidden (record_of s i) ≡ true → record_of (show i 1 s).table i ≡ with_mode (record_of s i) 1
unfolding show give_user
show_here s i p e =
    let z = p.sizes in
    let b = undeleted_below s i p (hidden_of (record_of s i) e).0 in
    get_or-set_same s.records i (with_mode (record_of s i) 1) 47 (omega arith)

observe_turn : (i : ℕ) (s : Table) → Sound s → Unhidden i s → Unhidden (i + 1) (observe_one i s).table
unfolding observe_one
observe_turn i s p o = by_choose (λ (x : Result (List ℕ)). Unhidden (i + 1) x.table) _
    (λ e. record { shown = λ k l. after e k l (ℕ_discrete k i) })
    (λ e. record { shown = λ k l. stays e k l (ℕ_discrete k i) })
  where
    after : is_hidden (record_of s i) ≡ true → (k : ℕ) → k < i + 1 → Dec (k ≡ i) → is_hidden (record_of (show i 1 s).table k) ≡ false
    after e k l (yes q) = rw (q, show_here s i p e) (witness_shown (record_of s i))
    after e k l (no q) = rw (show_records s i 1 k q) (o.shown k (omega arith))

    stays : is_hidden (record_of s i) ≡ false → (k : ℕ) → k < i + 1 → Dec (k ≡ i) → is_hidden (record_of s k) ≡ false
    stays e k l (yes q) = rw q e
    stays e k l (no q) = o.shown k (omega arith)

-- nobody is hidden afterwards
pub observe_complete : (t : Table) → Sound t → (g : ℕ) → is_hidden (record_of (observe t).table g) ≡ false
unfolding observe
observe_complete t p g = go (dec_lt g t.counts.global)
  where
    all : (i : ℕ) → Unhidden i (each i observe_one t).table
    all i =
        (each_keeps observe_one t (λ (i : ℕ) (s : Table). Sound s × Unhidden i s) i (p, record { shown = λ k l. absurd (omega arith) })
        (λ j s l q. (observe_one_sound s j q.0, observe_turn j s q.0 q.1))
        i (omega arith)).1

    go : Dec (g < t.counts.global) → is_hidden (record_of (each t.counts.global observe_one t).table g) ≡ false
    go (yes l) = (all t.counts.global).shown g l
    go (no l) =
        let o = observe_passed t p t.counts.global in
        let e = o.global in
        rw (o.sound.rows.tail g (omega arith)) fresh_shown

one_user : (g : ℕ) (t : Table) → (length (observe_one g t).value ≤ 1) × (length (observe_one g t).notes ≤ 2)
unfolding observe_one show
one_user g t =
    by_choose (λ (x : Result (List ℕ)). (length x.value ≤ 1) × (length x.notes ≤ 2)) _ (λ e. (omega arith, omega arith)) (λ e. (omega arith, omega arith))

observe_most : (n : ℕ) (t : Table) → (length (each n observe_one t).value ≤ n) × (length (each n observe_one t).notes ≤ 2 * n)
unfolding each
observe_most zero t = (omega arith, omega arith)
observe_most (suc n) t =
    let a = observe_most n t in
    let b = one_user n (each n observe_one t).table in
    let c = length-append (each n observe_one t).notes (observe_one n (each n observe_one t).table).notes in
    let d = length-append (each n observe_one t).value (observe_one n (each n observe_one t).table).value in
    (omega arith, omega arith)

pub observe_accepted : (t : Table) (outs room : ℕ) → Sound t → ((g : ℕ) → is_hidden (record_of t g) ≡ true → assumed_of (record_of t g) ≡ 0)
    → t.counts.global ≤ outs → 6 * t.counts.global ≤ room → observe_refusal t outs room ≡ 0
unfolding observe_refusal observe
observe_accepted t outs room p h k l =
    let a = observe_most t.counts.global t in
    rw (
      sound_to t p,
      all_intro t.counts.global (λ g. not (is_hidden (record_of t g) && eqb (assumed_of (record_of t g)) 1)) (λ g l. free g (is_hidden (record_of t g)) refl),
      le-ltb outs (length (each t.counts.global observe_one t).value) (omega arith),
      le-ltb room (3 * length (each t.counts.global observe_one t).notes) (omega arith),
    )
  where
    free : (g : ℕ) (b : Bool) → is_hidden (record_of t g) ≡ b → not (is_hidden (record_of t g) && eqb (assumed_of (record_of t g)) 1) ≡ true
    free g true e = let z = h g e in rw (e, ne_eqb (assumed_of (record_of t g)) 1 (omega arith))
    free g false e = rw e

pub observe_works : (t : Table) (outs room : ℕ) → Sound t → ((g : ℕ) → is_hidden (record_of t g) ≡ true → assumed_of (record_of t g) ≡ 0)
    → t.counts.global ≤ outs → 6 * t.counts.global ≤ room
    → ((observe_of t outs room).answer ≡ accepted (length (observe t).value ∷ length (observe t).notes ∷ []))
    × ((g : ℕ) → is_hidden (record_of (observe_of t outs room).table g) ≡ false)
unfolding observe_of
observe_works t outs room p h k l =
    let e = unless_none (observe_refusal t outs room) t _ (observe_accepted t outs room p h k l) in
    (ap (λ (o : Outcome). o.answer) e, λ g. ap (λ (o : Outcome). is_hidden (record_of o.table g)) e ∙ observe_complete t p g)

-- ---- Rename and Write

pub step_accepted : (t : Table) (step : ProofStep) (solver_vars : Bool) (lits hashes : List ℕ) (rest : ℕ) → Sound t → unmatched step lits hashes ≡ false
    → outside t solver_vars (literals_of step lits) ≡ false → unheld t solver_vars (literals_of step lits) ≡ false
    → step_refusal t step solver_vars lits hashes rest ≡ rest
unfolding step_refusal
step_accepted t step solver_vars lits hashes rest p a b c = rw (sound_to t p, a, b) (lits_else t solver_vars (literals_of step lits) rest c)

pub rename_works : (t : Table) (step : ProofStep) (solver_vars : Bool) (lits hashes : List ℕ) (outs hash_outs : ℕ) → Sound t
    → unmatched step lits hashes ≡ false → outside t solver_vars (literals_of step lits) ≡ false → unheld t solver_vars (literals_of step lits) ≡ false
    → length (literals_of step lits) ≤ outs → length (hashes_of step hashes) ≤ hash_outs
    → ((rename_of t step solver_vars lits hashes outs hash_outs).answer ≡ accepted (length (literals_of step lits) ∷ length (hashes_of step hashes) ∷ step_words step))
    × ((rename_of t step solver_vars lits hashes outs hash_outs).words ≡ rename_lits (holders t) solver_vars (literals_of step lits))
    × ((rename_of t step solver_vars lits hashes outs hash_outs).more ≡ hashes_of step hashes)
unfolding rename_of rename_refusal
rename_works t step solver_vars lits hashes outs hash_outs p a b c h k =
    let r : rename_refusal t step solver_vars lits hashes outs hash_outs ≡ 0 =
    step_accepted t step solver_vars lits hashes _ p a b c
    ∙ rw (le-ltb outs (length (literals_of step lits)) h, le-ltb hash_outs (length (hashes_of step hashes)) k) in
    let e = unless_none (rename_refusal t step solver_vars lits hashes outs hash_outs) t _ r in
    (ap (λ (o : Outcome). o.answer) e, ap (λ (o : Outcome). o.words) e, ap (λ (o : Outcome). o.more) e)

-- the bytes are read back as the kind's adds or delete of the literals under their holders
pub write_works : (f : Format) (t : Table) (step : ProofStep) (solver_vars : Bool) (lits hashes : List ℕ) (room : ℕ) → Sound t
    → unmatched step lits hashes ≡ false → outside t solver_vars (literals_of step lits) ≡ false → unheld t solver_vars (literals_of step lits) ≡ false
    → lacked (rule_of step).writes ≡ false → length (step_bytes f t step solver_vars lits) ≤ room
    → ((write_of f t step solver_vars lits hashes room).answer ≡ accepted (length (step_bytes f t step solver_vars lits) ∷ []))
    × (read_proof f (write_of f t step solver_vars lits hashes room).bytes ≡ steps (clause_steps step (rename_lits (holders t) solver_vars (literals_of step lits))))
unfolding write_of write_refusal step_bytes
write_works f t step solver_vars lits hashes room p a b c d h =
    let r : write_refusal f t step solver_vars lits hashes room ≡ 0 =
    step_accepted t step solver_vars lits hashes _ p a b c ∙ rw (d, le-ltb room (length (step_bytes f t step solver_vars lits)) h) in
    let e = unless_none (write_refusal f t step solver_vars lits hashes room) t _ r in
    let v = written_valid (rule_of step).writes _ (rename_codes t solver_vars (literals_of step lits) p b c) in (
      ap (λ (o : Outcome). o.answer) e,
      ap (λ (o : Outcome). read_proof f o.bytes) e
          ∙ spells_read (encode_spells f (clause_steps step (rename_lits (holders t) solver_vars (literals_of step lits))) v),
    )

-- ---- Simplify

simplify_valid : (k : Simplified) (t : Table) (lits : List ℕ) (redundant : Bool) → Sound t → unheld t true lits ≡ false
    → Valid (simplify_steps k redundant (rename_lits (holders t) true (rest_of k t lits)) (rename_lits (holders t) true lits))
unfolding unheld unfalse Valid
simplify_valid Kept t lits redundant p b = tt
simplify_valid Dropped t lits redundant p b = (solver_codes t lits p b, tt)
simplify_valid Shortened t lits redundant p b =
    (solver_codes t (unfalse t lits) p (keep_none (λ c. not_held t (index_of c)) (λ c. not (is_false t c)) lits b), (solver_codes t lits p b, tt))
simplify_valid Binary t lits redundant p b =
    (solver_codes t (unfalse t lits) p (keep_none (λ c. not_held t (index_of c)) (λ c. not (is_false t c)) lits b), (solver_codes t lits p b, tt))

-- the rest is filled, and the bytes are read back as the steps under global names
pub simplify_works : (f : Format) (t : Table) (lits : List ℕ) (redundant : Bool) (outs room : ℕ) → Sound t → length lits ≤ 8192 → unheld t true lits ≡ false
    → not (any_of (is_true t) lits) && (any_of (is_false t) lits && ltb (length (unfalse t lits)) 2) ≡ false
    → length (rest_of (simplified t lits) t lits) ≤ outs → length (simplify_bytes f t lits redundant) ≤ room
    → ((simplify_of f t lits redundant outs room).words ≡ rest_of (simplified t lits) t lits)
    × (read_proof f (simplify_of f t lits redundant outs room).bytes
    ≡ steps (simplify_steps (simplified t lits) redundant (rename_lits (holders t) true (rest_of (simplified t lits) t lits)) (rename_lits (holders t) true lits)))
unfolding simplify_of simplify_refusal simplify_bytes
simplify_works f t lits redundant outs room p h b c k l =
    let r : simplify_refusal f t lits redundant outs room ≡ 0 =
    rw (sound_to t p, le-ltb 8192 (length lits) h)
    (lits_else t true lits _ b
    ∙ rw (c, le-ltb outs (length (rest_of (simplified t lits) t lits)) k, le-ltb room (length (simplify_bytes f t lits redundant)) l)) in
    let e = unless_none (simplify_refusal f t lits redundant outs room) t _ r in (
      ap (λ (o : Outcome). o.words) e,
      ap (λ (o : Outcome). read_proof f o.bytes) e ∙ spells_read (encode_spells f _ (simplify_valid (simplified t lits) t lits redundant p b)),
    )

-- ---- Simplify binary

-- the lists answered are those that stay, and the bytes are read back as the delete steps
pub binary_works : (f : Format) (t : Table) (lists : List ℕ) (outs room : ℕ) → Sound t → cutsb (section_count t) lists ≡ true
    → mirrored (sections_for t lists) ≡ true → unheld t true (filled_codes (sections_for t lists)) ≡ false
    → length (kept_words t (sections_for t lists)) ≤ outs → length (delete_bytes f t (sections_for t lists)) ≤ room
    → ((binary_of f t lists outs room).words ≡ kept_words t (sections_for t lists))
    × (read_proof f (binary_of f t lists outs room).bytes ≡ steps (each_section (deletes_at t) 0 (sections_for t lists)))
unfolding binary_of binary_refusal delete_bytes
binary_works f t lists outs room p a b c k l =
    let ss = sections_for t lists in
    let r : binary_refusal f t lists outs room ≡ 0 =
    rw (sound_to t p, a, b)
    (lits_else t true (filled_codes ss) _ c ∙ rw (le-ltb outs (length (kept_words t ss)) k, le-ltb room (length (delete_bytes f t ss)) l)) in
    let e = unless_none (binary_refusal f t lists outs room) t _ r in (
      ap (λ (o : Outcome). o.words) e,
      ap (λ (o : Outcome). read_proof f o.bytes) e ∙ spells_read (encode_spells f _ (deletes_valid t 0 ss p (all_held t ss b c))),
    )

-- ---- Model

pub model_works : (t : Table) (globals users : ℕ) → Sound t → length (global_model t) ≤ globals → length (user_model t) ≤ users
    → ((model_of t globals users).answer ≡ accepted (length (global_model t) ∷ length (user_model t) ∷ []))
    × ((model_of t globals users).words ≡ global_model t)
    × ((model_of t globals users).more ≡ user_model t)
unfolding model_of model_refusal
model_works t globals users p h k =
    let r : model_refusal t globals users ≡ 0 = rw (sound_to t p, le-ltb globals (length (global_model t)) h, le-ltb users (length (user_model t)) k) in
    let e = unless_none (model_refusal t globals users) t _ r in
    (ap (λ (o : Outcome). o.answer) e, ap (λ (o : Outcome). o.words) e, ap (λ (o : Outcome). o.more) e)

-- ---- Pose

-- The literal v stands for the literal c: its index is held by the global of the user, sign kept.
pub record Stands (s : Table) (c v : ℕ) : Type 0 where
  pub sign : sign_of v ≡ sign_of c
  pub holder : get_or s.global_from_solver (index_of v) 0 ≡ get_or s.global_from_user (index_of c) 0
  pub mapped : get_or s.global_from_user (index_of c) 0 ≢ 0

-- a grant leaves who holds an index already
grant_holders : (t : Table) (g k h : ℕ) → Sound t → record_of t g < 36 → get_or t.global_from_solver k 0 ≡ h + 1
    → get_or (grant g t).table.global_from_solver k 0 ≡ h + 1
grant_holders t g k h p q e = go (get_or t.solver_from_global g 0) refl
  where
    go : (w : ℕ) → get_or t.solver_from_global g 0 ≡ w → get_or (grant g t).table.global_from_solver k 0 ≡ h + 1
    go zero z =
        let x = grant_granted t g p q in
        let a = (p.solver.inverse k h).0 e in
        let apart : h ≢ g = λ i. let b = ap (λ (j : ℕ). get_or t.solver_from_global j 0) i in omega arith in
        (x.sound.solver.inverse k h).1 (x.other h apart ∙ a)
    go (suc s) z = ap (λ (x : Result ℕ). get_or x.table.global_from_solver k 0) (grant_has t g s (omega arith)) ∙ e

-- a user that has a global keeps it
map_users : (t : Table) (u v : ℕ) → MapRoom t u → get_or t.global_from_user v 0 ≢ 0
    → get_or (map_user u t).table.global_from_user v 0 ≡ get_or t.global_from_user v 0
map_users t u v m n = go (get_or t.global_from_user u 0) refl
  where
    below : Dec (v < t.counts.user) → v < t.counts.user
    below (yes l) = l
    below (no l) = absurd (n (m.sound.user.atail v (omega arith)))

    go : (w : ℕ) → get_or t.global_from_user u 0 ≡ w → get_or (map_user u t).table.global_from_user v 0 ≡ get_or t.global_from_user v 0
    go zero z =
        let apart : v ≢ u = λ i. n (ap (λ (j : ℕ). get_or t.global_from_user j 0) i ∙ z) in
        (map_user_mapped t u m).other v apart (below (dec_lt v t.counts.user))
    go (suc g) z = ap (λ (x : Result ℕ). get_or x.table.global_from_user v 0) (map_user_has t u g (omega arith))

pose_keeps : (s : Table) (c d v : ℕ) → MapRoom s (index_of c) → Stands s d v → Stands (pose_one c s).table d v
unfolding pose_one
pose_keeps s c d v m x =
    let u = index_of c in
    let k = pose_one_posed s u m in
    let t = (map_user u s).table in
    let g = (map_user u s).value in
    let n = x.mapped in
    let h = get_or s.global_from_user (index_of d) 0 - 1 in
    let a = map_users s u (index_of d) m n in
    let b = ap (λ (l : List ℕ). get_or l (index_of d) 0) k.granted.same.global_from_user in
    let e = ap (λ (l : List ℕ). get_or l (index_of v) 0) k.mapped.same.global_from_solver in
    let f = x.holder in
    let q = (mapped_global t u g k.mapped.sound k.mapped.has).0 in
    let i = grant_holders t g (index_of v) h k.mapped.sound q (omega arith) in
    record { sign = x.sign; holder = omega arith; mapped = λ z. n (omega arith) }

pose_stands : (s : Table) (c : ℕ) → MapRoom s (index_of c) → Stands (pose_one c s).table c (pose_one c s).value
unfolding pose_one
pose_stands s c m =
    let k = pose_one_posed s (index_of c) m in
    let a = k.granted.holds in
    let b = ap (λ (l : List ℕ). get_or l (index_of c) 0) k.granted.same.global_from_user in
    let d = k.mapped.has in
    let y = grant (map_user (index_of c) s).value (map_user (index_of c) s).table in
    let i : index_of (code_of y.value (sign_of c)) ≡ y.value = omega arith in
    record {
      sign = omega arith;
      holder = ap (λ (n : ℕ). get_or y.table.global_from_solver n 0) i ∙ a ∙ sym d ∙ sym b;
      mapped = λ e. omega arith;
    }

-- after i literals each of them stands
record AllStand (t : Table) (lits : List ℕ) (i : ℕ) : Type 0 where
  stands : (j : ℕ) → j < i → Stands (each i (pose_step lits) t).table (get_or lits j 0) (get_or (each i (pose_step lits) t).value j 0)

pose_all : (t : Table) (lits : List ℕ) → PoseRoom t lits → (i : ℕ) → i ≤ length lits → AllStand t lits i
unfolding each
pose_all t lits r zero l = record { stands = λ j k. absurd (omega arith) }
pose_all t lits r (suc i) l = let o = pose_all t lits r i (omega arith) in record { stands = λ j k. go o j k (ℕ_discrete j i) }
  where
    go : AllStand t lits i → (j : ℕ) → j < suc i → Dec (j ≡ i)
        → Stands (each (suc i) (pose_step lits) t).table (get_or lits j 0) (get_or (each (suc i) (pose_step lits) t).value j 0)
    go o j k (yes e) =
        rw (e, get_or_at (each i (pose_step lits) t).value (pose_one (get_or lits i 0) (each i (pose_step lits) t).table).value [] 0 i (pose_part_words t lits i))
        (pose_stands (each i (pose_step lits) t).table (get_or lits i 0) (pose_room t lits r i l))
    go o j k (no e) =
        let w = pose_part_words t lits i in
        rw (get_or-append (each i (pose_step lits) t).value ((pose_one (get_or lits i 0) (each i (pose_step lits) t).table).value ∷ []) 0 j (omega arith))
        (pose_keeps (each i (pose_step lits) t).table (get_or lits i 0) (get_or lits j 0) (get_or (each i (pose_step lits) t).value j 0)
        (pose_room t lits r i l)
        (o.stands j (omega arith)))

pub pose_accepted : (t : Table) (lits : List ℕ) (sampling : Bool) (outs room : ℕ) → PoseRoom t lits → length lits ≤ 8192
    → sampling && any_of (λ c. unsampled t (index_of c)) lits ≡ false → length lits ≤ outs → 3 * (users_to_map t lits + users_to_grant t lits) ≤ room
    → pose_refusal t lits sampling outs room ≡ 0
unfolding pose_refusal
pose_accepted t lits sampling outs room r h s k l =
    let c = pose_count t lits r in
    rw (
      sound_to t r.sound,
      le-ltb 8192 (length lits) h,
      any_intro (λ c. leb t.counts.capacity (index_of c)) lits 0 (λ i q. lt-leb t.counts.capacity (index_of (get_or lits i 0)) (r.within i q)),
      s,
      le-ltb t.counts.capacity (undeleted t + users_to_map t lits) r.room,
      le-ltb outs (length lits) k,
      le-ltb room (3 * length (pose lits t).notes) (omega arith),
    )

-- each literal answered is held by the global of its user, sign kept
pub pose_works : (t : Table) (lits : List ℕ) (sampling : Bool) (outs room : ℕ) → PoseRoom t lits → length lits ≤ 8192
    → sampling && any_of (λ c. unsampled t (index_of c)) lits ≡ false → length lits ≤ outs → 3 * (users_to_map t lits + users_to_grant t lits) ≤ room
    → ((pose_of t lits sampling outs room).answer ≡ accepted (length lits ∷ (users_to_map t lits + users_to_grant t lits) ∷ []))
    × ((i : ℕ) → i < length lits → Stands (pose_of t lits sampling outs room).table (get_or lits i 0) (get_or (pose_of t lits sampling outs room).words i 0))
unfolding pose_of pose
pose_works t lits sampling outs room r h s k l =
    let e = unless_none (pose_refusal t lits sampling outs room) t _ (pose_accepted t lits sampling outs room r h s k l) in (
      ap (λ (o : Outcome). o.answer) e ∙ ap (λ (n : ℕ). accepted (length lits ∷ n ∷ [])) (pose_count t lits r),
      λ i q.
          subst (λ (o : Outcome). Stands o.table (get_or lits i 0) (get_or o.words i 0)) (sym e) ((pose_all t lits r (length lits) (omega arith)).stands i q),
    )
