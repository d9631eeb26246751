-- Laws of Pose at once: when it is accepted with no note.
use Rattle.std.specs.Prelude.{Ok}
use Rattle.std.specs.List.{list_all}
use Prim.Native.Nat.{ℕ, zero, suc, ◌+◌, ◌-◌, ◌≤◌, ◌<◌}
use mathlib.Core.Path.{◌≡◌, refl, sym, ap, ◌∙◌, subst}
use mathlib.Core.Bool.{Bool, true, false, ◌&&◌, ◌||◌, not, true≢false}
use mathlib.Core.List.{List, [], ◌∷◌, ◌++◌, map}
use mathlib.Core.Logic.{◌≢◌, ⊎_elim}
use native.Mathlib.Omega.{arith}
use lib.Dec.{eqb, ltb}
use lib.ListN.{length, get_or, replicate, length-replicate}
use lib.Seq.{sets}
use borrow.Author.Tests.{lt-ltb, le-ltb, ltb-true, eq-eqb}
use Rattle.base.specs.Answer.{Answer, accepted}
use Rattle.base.specs.Bounded.{count, any_of, every_of}
use Rattle.base.specs.Choice.{pick}
use Rattle.base.proofs.MemberLaws.{word_inside, any_none, any_some, any_intro, every_at, every_intro, or_neither}
use Rattle.base.proofs.Truth.{same}
use Rattle.scope.specs.Literals.{code_of, index_of, sign_of}
use Rattle.scope.specs.Table.{Table, mode_of}
use Rattle.scope.specs.Sound.{soundb}
use Rattle.scope.specs.Outcome.{Result, unless}
use Rattle.scope.specs.Pose.{pose, pose_refusal, pose_of}
use Rattle.scope.specs.Contract.{Does}
use Rattle.scope.specs.Distinct.{named, count_named, needs_grant}
use Rattle.scope.proofs.DistinctUsers.{grants_are}
use Rattle.scope.proofs.PoseLaws.{pose_count}
use Rattle.scope.proofs.ResultLaws.{word_none, word_some}
use Rattle.scope.proofs.SoundLaws.{sound_of}
use Rattle.changes.specs.AtOnce.{value_at_once, at_once}
use Rattle.naming.specs.Parts.{is_unsampled}
use Rattle.naming.proofs.CallLaws.{all_inside}
use Rattle.naming.proofs.SampledLaws.{unsampled_some, inside_below}
use Rattle.posing.specs.Answers.{posed}
use Rattle.posing.specs.Asks.{PoseAsks}
use Rattle.held.specs.Parts.{held_word, held_code, AllHeld}
use Rattle.ready.specs.Ready.{is_ready, PosedAtOnce}
use Rattle.posing.proofs.CallLaws.{pose_asks, pose_sampled}
use Rattle.held.proofs.RunLaws.{fits_both}
use Rattle.posing.proofs.HeldLaws.{pose_held, solvers_inside}

-- a test that std makes
pub all_is : {A : Type 0} (p : A → Bool) (xs : List A) → list_all p xs ≡ every_of p xs
unfolding every_of
all_is p [] = refl
all_is p (x ∷ xs) = ap (λ (b : Bool). p x && b) (all_is p xs)

-- ---- the test of one user

module _ (gu sg records : List ℕ) (sampling : Bool) (u : ℕ) where
  pub unready_unmapped : get_or gu u 0 ≡ 0 → false ≡ is_ready gu sg records sampling u
  unfolding is_ready
  unready_unmapped e = sym (word_none false _ _ e)

  module _ (g : ℕ) (e : get_or gu u 0 ≡ g + 1) where
    pub unready_ungranted : get_or sg g 0 ≡ 0 → false ≡ is_ready gu sg records sampling u
    unfolding is_ready
    unready_ungranted k = sym (word_some false _ _ g e ∙ word_none false _ _ k)

    module _ (s : ℕ) (k : get_or sg g 0 ≡ s + 1) where
      pub ready_is : is_ready gu sg records sampling u
          ≡ ltb s 4096 && (not sampling || (ltb g (length records) && eqb (mode_of (get_or records g 0)) 0))
      unfolding is_ready
      ready_is = word_some false _ _ g e ∙ word_some false _ _ s k

      pub unready_large : 4096 ≤ s → false ≡ is_ready gu sg records sampling u
      unready_large l = sym (ready_is ∙ rw (le-ltb s 4096 l))

      module _ (l : s < 4096) where
        pub ready_free : sampling ≡ false → true ≡ is_ready gu sg records sampling u
        ready_free n = sym (ready_is ∙ rw (lt-ltb s 4096 l, n))

        module _ (y : sampling ≡ true) where
          pub unready_outside : length records ≤ g → false ≡ is_ready gu sg records sampling u
          unready_outside b = sym (ready_is ∙ rw (lt-ltb s 4096 l, y, le-ltb g (length records) b))

          pub ready_record : g < length records → eqb (mode_of (get_or records g 0)) 0 ≡ is_ready gu sg records sampling u
          ready_record b = sym (ready_is ∙ rw (lt-ltb s 4096 l, y, lt-ltb g (length records) b))

-- ---- what the test says of the words

pub record ReadyWords (gu sg : List ℕ) (u : ℕ) : Type 0 where
  pub mapped : get_or gu u 0 ≢ 0
  pub granted : get_or sg (get_or gu u 0 - 1) 0 ≢ 0
  pub small : get_or sg (get_or gu u 0 - 1) 0 ≤ 4096
  pub word_is : held_word gu sg u ≡ get_or sg (get_or gu u 0 - 1) 0

and_first : (a b : Bool) → a && b ≡ true → a ≡ true
and_first true b e = refl
and_first false b e = e

and_second : (a b : Bool) → a && b ≡ true → b ≡ true
and_second true b e = e
and_second false b e = absurd (true≢false (sym e))

module _ (gu sg records : List ℕ) (sampling : Bool) (u : ℕ) (h : is_ready gu sg records sampling u ≡ true) where
  pub ready_words : ReadyWords gu sg u
  unfolding held_word
  ready_words = go (get_or gu u 0) refl
    where
      more : (g s : ℕ) → get_or gu u 0 ≡ g + 1 → get_or sg g 0 ≡ s → ReadyWords gu sg u
      more g zero e k = absurd (true≢false (sym h ∙ sym (unready_ungranted gu sg records sampling u g e k)))
      more g (suc s) e k =
          let k' : get_or sg g 0 ≡ s + 1 = omega arith in
          let l = ltb-true s 4096 (and_first (ltb s 4096) _ (sym (ready_is gu sg records sampling u g e s k') ∙ h)) in
          let q : get_or gu u 0 - 1 ≡ g = omega arith in
          let w = ap (λ (j : ℕ). get_or sg j 0) q in
          record {
            mapped = λ z. omega arith;
            granted = λ z. omega arith;
            small = omega arith;
            word_is = word_some 0 (λ g. get_or sg g 0) _ g e ∙ sym w;
          }

      go : (w : ℕ) → get_or gu u 0 ≡ w → ReadyWords gu sg u
      go zero e = absurd (true≢false (sym h ∙ sym (unready_unmapped gu sg records sampling u e)))
      go (suc g) e = more g (get_or sg g 0) (omega arith) refl

-- the literal at a place, where all users pass the test
module _ (gu sg records lits : List ℕ) (sampling b : Bool) (q : b ≡ every_of (λ c. is_ready gu sg records sampling (index_of c)) lits) (e : b ≡ true)
    (i : ℕ) (l : i < length lits) where
  pub ready_at : ReadyWords gu sg (index_of (get_or lits i 0))
  ready_at =
      ready_words gu sg records sampling _ (every_at (λ c. is_ready gu sg records sampling (index_of c)) lits i 0 (sym q ∙ e) l)

  pub user_there : index_of (get_or lits i 0) < length gu
  user_there = word_inside gu _ ready_at.mapped

  pub global_there : get_or gu (index_of (get_or lits i 0)) 0 - 1 < length sg
  global_there = word_inside sg _ ready_at.granted

  pub ready_code : code_of (get_or sg (get_or gu (index_of (get_or lits i 0)) 0 - 1) 0 - 1) (sign_of (get_or lits i 0)) ≡ held_code gu sg (get_or lits i 0)
  unfolding held_code
  ready_code = ap (λ (w : ℕ). code_of (w - 1) (sign_of (get_or lits i 0))) (sym ready_at.word_is)

-- ---- where all users pass the test, the call is accepted with no note

none_said : (r m n : ℕ) (t : Table) (x : Result (List ℕ)) → (r ≡ 0 → m ≡ 0 → ⊥)
    → [] ≡ at_once (unless r t (record { answer = accepted (n ∷ m ∷ []); table = x.table; notes = x.notes; words = x.value; more = []; bytes = [] }))
unfolding unless
none_said zero zero n t x k = absurd (k refl refl)
none_said zero (suc m) n t x k = refl
none_said (suc r) m n t x k = refl

-- the call by each room
module _ (t : Table) (lits : List ℕ) (sampling : Bool) (out out' : List ℕ) where
  abbrev Done-at : ℕ → List ℕ → List ℕ → Type 0
  Done-at room words words' =
      Does (pose_of t lits sampling (length out) room) (posed (Ok (record { filled = length lits; counts = t.counts; notes = 0 })) t.counts) t words words'
      × (out' ≡ sets out 0 (pose_of t lits sampling (length out) room).words)

  once_done : ((words : List ℕ) → Done-at (length words) words words) → PosedAtOnce t lits sampling true out out'
  once_done d =
      record {
        once = record {
          value = λ room. ap (λ (a : Answer). value_at_once a) (any room).0.answer;
          stays = λ v q words. let x = (d words).0 in
              record { answer = ap (λ (l : List ℕ). accepted (l ++ (0 ∷ []))) (sym q) ∙ x.answer; table = x.table; noted = x.noted };
        };
        filled = λ room. (any room).1;
      }
    where
      any : (room : ℕ) → Done-at room (replicate room 0) (replicate room 0)
      any room = subst (λ (n : ℕ). Done-at n (replicate room 0) (replicate room 0)) (length-replicate {A = ℕ} room 0) (d (replicate room 0))

  -- It is refused, or makes a note.
  once_not : ((room : ℕ) → pose_refusal t lits sampling (length out) room ≡ 0 → length (pose lits t).notes ≡ 0 → ⊥)
      → PosedAtOnce t lits sampling false out out
  unfolding pose_of
  once_not h =
      record {
        once = record {
          value = λ room. none_said (pose_refusal t lits sampling (length out) room) (length (pose lits t).notes) (length lits) t (pose lits t) (h room);
          stays = λ v q words. absurd (let n = ap length q in omega arith);
        };
        filled = λ room. refl;
      }

none_counted : (n : ℕ) (p : ℕ → Bool) → count n p ≡ 0 → (i : ℕ) → i < n → p i ≡ false
unfolding count
none_counted zero p e i l = absurd (omega arith)
none_counted (suc n) p e i l = go (p n) refl e (λ z k. none_counted n p z i k)
  where
    go : (b : Bool) → p n ≡ b → pick b (suc (count n p)) (count n p) ≡ 0 → (count n p ≡ 0 → i < n → p i ≡ false) → p i ≡ false
    go true q z f = absurd (omega arith)
    go false q z f = ⊎_elim (λ (k : i ≡ n). ap p k ∙ q) (λ (k : i ≡ n → ⊥). f z (omega arith)) (same i n)

none_named : (lits : List ℕ) (p : ℕ → Bool) → count_named 4096 p lits ≡ 0 → (v : ℕ) → v < 4096 → named lits v && p v ≡ false
unfolding count_named
none_named lits p e = none_counted 4096 (λ v. named lits v && p v) e

module _ (t : Table) (sampling : Bool) (y : soundb t ≡ true) where
  -- on a sound table the test fails only of a user to grant a solver index, or one that is not sampled
  ready_of : (u : ℕ) → needs_grant t.global_from_user t.solver_from_global u ≡ false → sampling && is_unsampled t.global_from_user t.records u ≡ false
      → is_ready t.global_from_user t.solver_from_global t.records sampling u ≡ true
  unfolding needs_grant
  ready_of u n h = go (get_or t.global_from_user u 0) refl
    where
      sampled : (a b : Bool) → a && not b ≡ false → not a || b ≡ true
      sampled false b e = refl
      sampled true true e = refl
      sampled true false e = absurd (true≢false e)

      more : (g s : ℕ) → get_or t.global_from_user u 0 ≡ g + 1 → get_or t.solver_from_global g 0 ≡ s
          → is_ready t.global_from_user t.solver_from_global t.records sampling u ≡ true
      more g zero e k = absurd (true≢false (sym (word_some true _ _ g e ∙ eq-eqb (get_or t.solver_from_global g 0) 0 k) ∙ n))
      more g (suc s) e k =
          let k' : get_or t.solver_from_global g 0 ≡ s + 1 = omega arith in
          let b = (solvers_inside t y).at g in
          let l : s < 4096 = omega arith in
          let m = all_inside t y in
          let q = ap (λ (x : Bool). sampling && x) (unsampled_some t.global_from_user t.records u g m e) ∙ h in
          let z = sampled sampling (eqb (mode_of (get_or t.records g 0)) 0) q in
          ready_is t.global_from_user t.solver_from_global t.records sampling u g e s k'
          ∙ rw (lt-ltb s 4096 l, lt-ltb g (length t.records) (inside_below t.global_from_user (length t.records) u g m e)) z

      go : (w : ℕ) → get_or t.global_from_user u 0 ≡ w → is_ready t.global_from_user t.solver_from_global t.records sampling u ≡ true
      go zero e = absurd (true≢false (sym (word_none true _ _ e) ∙ n))
      go (suc g) e = more g (get_or t.solver_from_global g 0) (omega arith) refl

  -- and it passes only of one that is sampled
  ready_sampled : (u : ℕ) → is_ready t.global_from_user t.solver_from_global t.records sampling u ≡ true
      → sampling && is_unsampled t.global_from_user t.records u ≡ false
  ready_sampled u h = go (get_or t.global_from_user u 0) refl
    where
      sampled : (a b c : Bool) → not a || (c && b) ≡ true → a && not b ≡ false
      sampled false b c e = refl
      sampled true true c e = refl
      sampled true false c e = absurd (true≢false (sym (and_second c false e)))

      more : (g s : ℕ) → get_or t.global_from_user u 0 ≡ g + 1 → get_or t.solver_from_global g 0 ≡ s
          → sampling && is_unsampled t.global_from_user t.records u ≡ false
      more g zero e k = absurd (true≢false (sym h ∙ sym (unready_ungranted _ _ t.records sampling u g e k)))
      more g (suc s) e k =
          let k' : get_or t.solver_from_global g 0 ≡ s + 1 = omega arith in
          let r = and_second (ltb s 4096) _ (sym (ready_is t.global_from_user t.solver_from_global t.records sampling u g e s k') ∙ h) in
          ap (λ (x : Bool). sampling && x) (sym (unsampled_some t.global_from_user t.records u g (all_inside t y) e))
          ∙ sampled sampling (eqb (mode_of (get_or t.records g 0)) 0) (ltb g (length t.records)) r

      go : (w : ℕ) → get_or t.global_from_user u 0 ≡ w → sampling && is_unsampled t.global_from_user t.records u ≡ false
      go zero e = absurd (true≢false (sym h ∙ sym (unready_unmapped _ _ t.records sampling u e)))
      go (suc g) e = more g (get_or t.solver_from_global g 0) (omega arith) refl

abbrev passes : Table → Bool → ℕ → Bool
passes t sampling c = is_ready t.global_from_user t.solver_from_global t.records sampling (index_of c)

module _ (t : Table) (lits : List ℕ) (sampling : Bool) (y : soundb t ≡ true) where
  any_asked : (p : ℕ → Bool) → ((i : ℕ) → i < length lits → sampling && p (get_or lits i 0) ≡ false) → sampling && any_of p lits ≡ false
  any_asked p h = go sampling h
    where
      go : (b : Bool) → ((i : ℕ) → i < length lits → b && p (get_or lits i 0) ≡ false) → b && any_of p lits ≡ false
      go false k = refl
      go true k = any_intro p lits 0 k

  each_asked : (p : ℕ → Bool) → sampling && any_of p lits ≡ false → (i : ℕ) → i < length lits → sampling && p (get_or lits i 0) ≡ false
  each_asked p h i l = go sampling h
    where
      go : (b : Bool) → b && any_of p lits ≡ false → b && p (get_or lits i 0) ≡ false
      go false k = refl
      go true k = any_none p lits i 0 k l

  all_held : (outs : ℕ) → length lits ≤ 8192 → length lits ≤ outs → every_of (passes t sampling) lits ≡ true
      → AllHeld t.global_from_user t.solver_from_global t.records lits sampling outs
  all_held outs few places h =
      record {
        few = few;
        places = places;
        held = record {
          most = omega arith;
          held = λ i l z. let r = ready_words _ _ t.records sampling _ (every_at (passes t sampling) lits i 0 h l) in r.granted (sym r.word_is ∙ z);
        };
        sampled = any_asked _ (λ i l. ready_sampled t sampling y _ (every_at (passes t sampling) lits i 0 h l));
      }

  -- accepted with no note, so all pass
  all_pass : (outs room : ℕ) → pose_refusal t lits sampling outs room ≡ 0 → length (pose lits t).notes ≡ 0 → every_of (passes t sampling) lits ≡ true
  all_pass outs room q n =
      let h = pose_sampled t lits sampling 0 outs room (sym q) refl in
      every_intro (passes t sampling) lits 0 (λ i l. ready_of t sampling y _ (no_grant i l) (each_asked _ h i l))
    where
      a : PoseAsks t lits outs room
      a = pose_asks t lits sampling 0 outs room (sym q) refl

      none : count_named 4096 (needs_grant t.global_from_user t.solver_from_global) lits ≡ 0
      none =
          let k = pose_count t lits (record { sound = sound_of t y; within = a.within.at; room = a.enough }) in
          let g = grants_are t lits y a.within in
          omega (arith, n)

      both : (b d : Bool) → b ≡ true → b && d ≡ false → d ≡ false
      both true d e k = k
      both false d e k = absurd (true≢false (sym e))

      no_grant : (i : ℕ) → i < length lits → needs_grant t.global_from_user t.solver_from_global (index_of (get_or lits i 0)) ≡ false
      no_grant i l =
          let v = index_of (get_or lits i 0) in
          let w = a.within.at i l in
          let z = (sound_of t y).sizes in
          both (named lits v) (needs_grant t.global_from_user t.solver_from_global v)
          (any_some (λ c. eqb (index_of c) v) lits i 0 l (eq-eqb v v refl))
          (none_named lits (needs_grant t.global_from_user t.solver_from_global) none v (omega arith))

-- ---- of every sound table with these lists

module _ (gu sg records lits : List ℕ) (sampling : Bool) (out : List ℕ) where
  abbrev Says : Bool → List ℕ → Type 0
  Says r out' = (t : Table) → soundb t ≡ true → t.global_from_user ≡ gu → t.solver_from_global ≡ sg → t.records ≡ records
      → PosedAtOnce t lits sampling r out out'

  pub in_many : ltb 8192 (length lits) || ltb (length out) (length lits) ≡ true → Says false out
  in_many h t y a b d = once_not t lits sampling out out
      (λ room q n. let p = pose_asks t lits sampling 0 (length out) room (sym q) refl in
      true≢false (sym h ∙ or_neither (le-ltb 8192 (length lits) p.few) (le-ltb (length out) (length lits) p.places)))

  module _ (r : Bool) (q : r ≡ every_of (λ c. is_ready gu sg records sampling (index_of c)) lits) where
    here : (t : Table) → t.global_from_user ≡ gu → t.solver_from_global ≡ sg → t.records ≡ records → every_of (passes t sampling) lits ≡ r
    here t a b d = rw (a, b, d) (sym q)

    pub in_unready : r ≡ false → Says false out
    in_unready e t y a b d = once_not t lits sampling out out
        (λ room k n. true≢false (sym (all_pass t lits sampling y (length out) room k n) ∙ here t a b d ∙ e))

    pub in_ready : (out' : List ℕ) → ltb 8192 (length lits) || ltb (length out) (length lits) ≡ false → r ≡ true
        → out' ≡ sets out 0 (map (held_code gu sg) lits) → Says true out'
    in_ready out' f e o t y a b d =
        let k = fits_both (length lits) (length out) f in
        let h = all_held t lits sampling y (length out) k.0 k.1 (here t a b d ∙ e) in
        let o' : out' ≡ sets out 0 (map (held_code t.global_from_user t.solver_from_global) lits) = rw (a, b) o in
        once_done t lits sampling out out' (λ words. pose_held t lits sampling out out' words y h o')
