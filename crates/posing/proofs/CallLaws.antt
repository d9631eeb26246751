-- Laws of the call Pose: refusals, and what an accepted call does.
use Rattle.std.specs.Prelude.{Result, Ok, Err}
use Prim.Native.Nat.{ℕ, ◌+◌, ◌-◌, ◌*◌, ◌/◌, ◌^◌, ◌≤◌, ◌<◌}
use mathlib.Core.Path.{◌≡◌, refl, sym, ap, ◌∙◌}
use mathlib.Core.Bool.{Bool, true, false, ◌&&◌, ◌||◌, not}
use mathlib.Core.List.{List, [], ◌∷◌}
use native.Mathlib.Omega.{arith}
use lib.Dec.{ltb, leb}
use lib.ListN.{length}
use lib.Seq.{sets}
use borrow.Author.Tests.{lt-ltb, le-ltb, ltb-false, not-false}
use Rattle.base.specs.Answer.{Answer, accepted, refused}
use Rattle.base.specs.Bounded.{any_of}
use Rattle.base.proofs.CountLaws.{count_most}
use Rattle.base.proofs.MemberLaws.{or_left, or_right}
use Rattle.scope.specs.declared.Counts.{Counts}
use Rattle.scope.specs.Literals.{index_of}
use Rattle.scope.specs.Table.{Table, undeleted}
use Rattle.scope.specs.Sound.{soundb}
use Rattle.scope.specs.Outcome.{short}
use Rattle.scope.specs.Map.{unsampled}
use Rattle.scope.specs.Pose.{pose, users_to_map, pose_refusal, pose_of}
use Rattle.scope.specs.Contract.{Does}
use Rattle.scope.proofs.SoundLaws.{sound_of}
use Rattle.scope.proofs.PoseLaws.{users_to_grant, pose_room_of, pose_count}
use Rattle.scope.proofs.ResultLaws.{past}
use Rattle.changes.specs.Leaves.{Leaves}
use Rattle.changes.proofs.LeavesLaws.{notes_told}
use Rattle.changes.proofs.CallLaws.{call_refused, call_accepted, refused_words, accepted_words}
use Rattle.naming.specs.Parts.{is_unsampled}
use Rattle.scope.proofs.MoveLaws.{used_most}
use Rattle.distinct.specs.declared.Needs.{Needs}
use Rattle.scope.specs.Distinct.{count_named, is_low, needs_grant, Within}
use Rattle.distinct.specs.Users.{needs_by}
use Rattle.scope.proofs.DistinctLaws.{named_most, top_low}
use Rattle.scope.proofs.DistinctUsers.{within_of, users_are, grants_are, after_most}
use Rattle.posing.specs.declared.PosedLits.{PosedLits}
use Rattle.scope.specs.declared.Refusal.{Refusal}
use Rattle.scope.specs.declared.Refusal.TheVariants.{Unsound}
use Rattle.scope.specs.Refusals.{number, refused_by}
use Rattle.scope.proofs.RefusedLaws.{number_not_0, refused_err, refusal_at, refusal_back}
use Rattle.table.proofs.AnswerLaws.{one_of}
use Rattle.posing.specs.Answers.{posed}
use Rattle.posing.specs.Asks.{PoseAsks}

-- ---- the stored number of undeleted globals, and what the counting gave

pub record PoseCounts (t : Table) (lits : List ℕ) (low top grants : ℕ) : Type 0 where
  pub used_is : t.counts.used ≡ undeleted t
  pub users_is : low + (top - t.counts.user) ≡ users_to_map t lits
  pub grants_is : grants ≡ users_to_grant t lits
  pub capacity_most : t.counts.capacity ≤ 4096
  pub used_most : t.counts.used ≤ t.counts.capacity
  pub low_most : low ≤ 4096
  pub above : t.counts.user ≤ top
  pub top_most : top ≤ 4096
  pub grants_most : grants ≤ 4096

pub counts_by : (t : Table) (lits : List ℕ) (n : Needs) → soundb t ≡ true → Within lits t.counts.capacity
    → n ≡ needs_by (count_named 4096) t.counts.user t.global_from_user t.solver_from_global lits
    → PoseCounts t lits n.low n.top n.grants
counts_by t lits n y w h =
    let s = sound_of t y in
    let z = s.sizes in
    let e = s.stored.used in
    let c = used_most t s in
    let l = ap (λ (k : Needs). k.low) h in
    let p = ap (λ (k : Needs). k.top) h in
    let g = ap (λ (k : Needs). k.grants) h in
    let a = named_most 4096 (is_low t.global_from_user t.counts.user) lits in
    let b = named_most 4096 (needs_grant t.global_from_user t.solver_from_global) lits in
    let m = after_most t lits y w in
    let u = top_low t.counts.user lits in
    let v = users_are t lits y w in
    record {
      used_is = e;
      users_is = omega arith;
      grants_is = g ∙ grants_are t lits y w;
      capacity_most = omega arith;
      used_most = omega arith;
      low_most = omega arith;
      above = omega arith;
      top_most = omega arith;
      grants_most = omega arith;
    }

-- ---- refusals

unsampled_are : (t : Table) (lits : List ℕ) → any_of (λ c. is_unsampled t.global_from_user t.records (index_of c)) lits ≡ any_of (λ c. unsampled t
    (index_of c))
    lits
unfolding is_unsampled unsampled
unsampled_are t lits = refl

module _ (t : Table) (lits : List ℕ) (sampling : Bool) (outs room : ℕ) where
  pose_1 : soundb t ≡ false → 1 ≡ pose_refusal t lits sampling outs room
  unfolding pose_refusal
  pose_1 n = rw n

  module _ (y : soundb t ≡ true) where
    pub pose_many : 8192 < length lits → 3 ≡ pose_refusal t lits sampling outs room
    unfolding pose_refusal
    pose_many l = rw (y, lt-ltb 8192 (length lits) l)

    module _ (l : length lits ≤ 8192) where
      pub pose_3 : (b : Bool) → b ≡ any_of (λ c. leb t.counts.capacity (index_of c)) lits → b ≡ true → 3 ≡ pose_refusal t lits sampling outs room
      unfolding pose_refusal
      pose_3 b q e =
          let a : any_of (λ c. leb t.counts.capacity (index_of c)) lits ≡ true = sym q ∙ e in
          rw (y, le-ltb 8192 (length lits) l, a)

      module _ (a : any_of (λ c. leb t.counts.capacity (index_of c)) lits ≡ false) where
        pub pose_4 : (b : Bool) → b ≡ sampling && any_of (λ c. is_unsampled t.global_from_user t.records (index_of c)) lits → b ≡ true
            → 4 ≡ pose_refusal t lits sampling outs room
        unfolding pose_refusal
        pose_4 b q e =
            let s : sampling && any_of (λ c. unsampled t (index_of c)) lits ≡ true = ap (λ (x : Bool). sampling && x) (sym
            (unsampled_are t lits)) ∙ sym q ∙ e in
            rw (y, le-ltb 8192 (length lits) l, a, s)

        module _ (b : Bool) (q : b ≡ sampling && any_of (λ c. is_unsampled t.global_from_user t.records (index_of c)) lits) (e : b ≡ false)
            (low top grants : ℕ) (k : PoseCounts t lits low top grants) where
          sampled : sampling && any_of (λ c. unsampled t (index_of c)) lits ≡ false
          sampled = ap (λ (x : Bool). sampling && x) (sym (unsampled_are t lits)) ∙ sym q ∙ e

          pub pose_5 : t.counts.capacity < t.counts.used + (low + (top - t.counts.user)) → 5 ≡ pose_refusal t lits sampling outs room
          unfolding pose_refusal
          pose_5 h =
              let c = k.used_is in
              let d = k.users_is in
              let f : ltb t.counts.capacity (undeleted t + users_to_map t lits) ≡ true =
              lt-ltb _ _ (let x : t.counts.capacity < undeleted t + users_to_map t lits = omega arith in x) in
              rw (y, le-ltb 8192 (length lits) l, a, sampled, f)

          module _ (h : t.counts.used + (low + (top - t.counts.user)) ≤ t.counts.capacity) where
            enough : ltb t.counts.capacity (undeleted t + users_to_map t lits) ≡ false
            enough =
                let c = k.used_is in
                let d = k.users_is in
                le-ltb _ _ (let x : undeleted t + users_to_map t lits ≤ t.counts.capacity = omega arith in x)

            words : 3 * length (pose lits t).notes ≡ 3 * (low + (top - t.counts.user) + grants)
            words =
                let n = pose_count t lits (pose_room_of t lits (sound_of t y) a enough) in
                let d = k.users_is in
                let g = k.grants_is in
                omega arith

            pub pose_2 : ltb outs (length lits) || ltb room (3 * (low + (top - t.counts.user) + grants)) ≡ true → 2 ≡ pose_refusal t lits sampling outs room
            unfolding pose_refusal
            pose_2 r = rw (y, le-ltb 8192 (length lits) l, a, sampled, enough, words, r)

            pub pose_0 : ltb outs (length lits) || ltb room (3 * (low + (top - t.counts.user) + grants)) ≡ false → 0 ≡ pose_refusal t lits sampling outs room
            unfolding pose_refusal
            pose_0 r = rw (y, le-ltb 8192 (length lits) l, a, sampled, enough, words, r)

-- no refusal is what the inner steps ask
pub pose_asks : (t : Table) (lits : List ℕ) (sampling : Bool)
    (n outs room : ℕ) → n ≡ pose_refusal t lits sampling outs room → n ≡ 0 → PoseAsks t lits outs room
unfolding pose_refusal
pose_asks t lits sampling n outs room q e =
    let a = past (not (soundb t)) 1 _ (omega arith) (sym q ∙ e) in
    let b = past (ltb 8192 (length lits) || any_of (λ c. leb t.counts.capacity (index_of c)) lits) 3 _ (omega arith) a.1 in
    let c = past (sampling && any_of (λ c. unsampled t (index_of c)) lits) 4 _ (omega arith) b.1 in
    let d = past (ltb t.counts.capacity (undeleted t + users_to_map t lits)) 5 _ (omega arith) c.1 in
    let f = past (ltb outs (length lits) || short room (pose lits t).notes) 2 0 (omega arith) d.1 in
    record {
      sound = not-false (soundb t) a.0;
      within = within_of lits t.counts.capacity (or_right (ltb 8192 (length lits)) _ b.0);
      enough = ltb-false t.counts.capacity (undeleted t + users_to_map t lits) d.0;
      words = ltb-false room (3 * length (pose lits t).notes) (or_right (ltb outs (length lits)) _ f.0);
      places = ltb-false outs (length lits) (or_left (ltb outs (length lits)) _ f.0);
      few = ltb-false 8192 (length lits) (or_left (ltb 8192 (length lits)) _ b.0);
    }

-- and all users with globals are sampled if that is required
pub pose_sampled : (t : Table) (lits : List ℕ) (sampling : Bool)
    (n outs room : ℕ) → n ≡ pose_refusal t lits sampling outs room → n ≡ 0
    → sampling && any_of (λ c. is_unsampled t.global_from_user t.records (index_of c)) lits ≡ false
unfolding pose_refusal
pose_sampled t lits sampling n outs room q e =
    let a = past (not (soundb t)) 1 _ (omega arith) (sym q ∙ e) in
    let b = past (ltb 8192 (length lits) || any_of (λ c. leb t.counts.capacity (index_of c)) lits) 3 _ (omega arith) a.1 in
    let c = past (sampling && any_of (λ c. unsampled t (index_of c)) lits) 4 _ (omega arith) b.1 in
    ap (λ (x : Bool). sampling && x) (unsampled_are t lits) ∙ c.0

-- ---- the call

grants_most : (t : Table) (lits : List ℕ) → users_to_grant t lits ≤ t.counts.capacity
unfolding users_to_grant
grants_most t lits = count_most t.counts.capacity _

-- the count of notes fits a word
pub pose_few : (t : Table) (lits : List ℕ) (outs room : ℕ) → PoseAsks t lits outs room → length (pose lits t).notes < 2 ^ 32
pose_few t lits outs room h =
    let z = (sound_of t h.sound).sizes in
    let n = pose_count t lits (record { sound = sound_of t h.sound; within = h.within.at; room = h.enough }) in
    let g = grants_most t lits in
    let r = h.enough in
    omega arith

pub pose_refused : {A : Type 0} (t : Table) (lits : List ℕ) (sampling : Bool) (x : Result A Refusal) (k : Refusal) (out words : List ℕ)
    → refused_by x ≡ pose_refusal t lits sampling (length out) (length words) → x ≡ Err k
    → Does (pose_of t lits sampling (length out) (length words)) (posed (Err k) t.counts) t words words
    × (out ≡ sets out 0 (pose_of t lits sampling (length out) (length words)).words)
unfolding pose_of
pose_refused t lits sampling x k out words q w =
    let r = pose_refusal t lits sampling (length out) (length words) in
    let e : number k ≡ r = sym (refused_err x k w) ∙ q in
    (call_refused r (number k) t _ words e (number_not_0 k), ap (λ (l : List ℕ). sets out 0 l) (sym (refused_words r (number k) t _ e (number_not_0 k))))

pub pose_unsound : (t : Table) (lits : List ℕ) (sampling : Bool) (out words : List ℕ) → soundb t ≡ false
    → Does (pose_of t lits sampling (length out) (length words)) (posed (Err Unsound) t.counts) t words words
    × (out ≡ sets out 0 (pose_of t lits sampling (length out) (length words)).words)
pose_unsound t lits sampling out words n =
    pose_refused {A = Unit {0}} t lits sampling (Err Unsound) Unsound out words (pose_1 t lits sampling (length out) (length words) n) refl

-- an accepted one
pub pose_done : (t : Table) (lits : List ℕ) (sampling : Bool) (n at : ℕ) (left : Table) (out out' words words' : List ℕ)
    → n ≡ pose_refusal t lits sampling (length out) (length words) → n ≡ 0
    → Leaves (pose lits t) 0 at left words words' × (out' ≡ sets out 0 (pose lits t).value)
    → Does (pose_of t lits sampling (length out) (length words)) (posed (Ok (record { filled = length lits; counts = left.counts; notes = at / 3 })) t.counts) left words words'
    × (out' ≡ sets out 0 (pose_of t lits sampling (length out) (length words)).words)
unfolding pose_of
pose_done t lits sampling n at left out out' words words' q e h =
    let r = pose_refusal t lits sampling (length out) (length words) in (
      call_accepted r n t _ _ left words words' q e
          (record { answer = λ i. accepted (length lits ∷ notes_told h.0 i ∷ []); table = h.0.table; noted = h.0.noted }),
      h.1 ∙ ap (λ (l : List ℕ). sets out 0 l) (sym (accepted_words r n t _ q e)),
    )

-- The number and the values tell the answer.
abbrev posed_from : Answer → Counts → Result PosedLits Refusal
posed_from (accepted []) d = Err Unsound
posed_from (accepted (m ∷ [])) d = Err Unsound
posed_from (accepted (m ∷ n ∷ ns)) d = Ok (record { filled = m; counts = d; notes = n })
posed_from (refused n vs) d = Err (refusal_at n)

posed_back : (c : Counts) (x : Result PosedLits Refusal) → posed_from (posed x c).answer (posed x c).counts ≡ x
posed_back c (Ok x) = refl
posed_back c (Err r) = ap Err (refusal_back r)

pub posed_one : (x y : Result PosedLits Refusal) (c : Counts) → posed x c ≡ posed y c → x ≡ y
posed_one x y c = one_of (λ z. posed z c) (λ s. posed_from s.answer s.counts) (posed_back c) x y
