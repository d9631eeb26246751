-- Laws of the calls Map and New user: refusals, and what an accepted call does.
use Rattle.std.specs.Prelude.{Result, Ok, Err}
use Prim.Native.Nat.{ℕ, zero, suc, ◌+◌, ◌-◌, ◌*◌, ◌/◌, ◌^◌, ◌≤◌, ◌<◌}
use mathlib.Core.Path.{◌≡◌, refl, sym, ap, ◌∙◌, subst}
use mathlib.Core.Bool.{Bool, true, false, ◌&&◌, not}
use mathlib.Core.List.{List, [], ◌∷◌}
use native.Mathlib.Omega.{arith}
use lib.Dec.{ltb, leb}
use lib.ListN.{length, get_or}
use borrow.Author.Tests.{lt-ltb, le-ltb, le-leb, lt-leb, leb-false, ltb-false, not-false}
use Rattle.base.specs.Answer.{accepted, refused}
use Rattle.scope.specs.declared.Counts.{Counts}
use Rattle.scope.specs.declared.Global.{Global}
use Rattle.scope.specs.declared.Refusal.{Refusal}
use Rattle.scope.specs.declared.Refusal.TheVariants.{Unsound}
use Rattle.scope.specs.declared.User.{User}
use Rattle.scope.specs.Refusals.{number}
use Rattle.scope.specs.Table.{Table, word, least_free, undeleted}
use Rattle.scope.specs.Sound.{Sizes, soundb}
use Rattle.scope.specs.Outcome.{short}
use Rattle.scope.specs.Map.{map_user, next_user, new_user, to_map, unsampled, map_refusal, map_of, new_user_refusal, new_user_of}
use Rattle.scope.specs.Contract.{Said, Does}
use Rattle.scope.proofs.RefusedLaws.{number_not_0, refusal_at, refusal_back}
use Rattle.scope.proofs.MoveLaws.{used_most}
use Rattle.scope.proofs.SoundLaws.{sound_of}
use Rattle.scope.proofs.MapLaws.{map_user_count, mapped_global, next_user_to_map, next_user_within}
use Rattle.scope.proofs.PairLaws.{free_most}
use Rattle.scope.proofs.ResultLaws.{past}
use Rattle.table.proofs.AnswerLaws.{one_of}
use Rattle.changes.specs.Leaves.{Leaves}
use Rattle.changes.proofs.LeavesLaws.{leaves_giving}
use Rattle.changes.proofs.CallLaws.{call_refused, call_accepted, call_noted}
use Rattle.naming.specs.declared.UserMapped.{UserMapped}
use Rattle.naming.specs.declared.NewUser.{NewUser}
use Rattle.naming.specs.Parts.{is_unsampled, MapBelow}
use Rattle.mapping.specs.Asks.{MapAsks}
use Rattle.naming.specs.Answers.{user_mapped, new_user_mapped}

-- ---- the parts over lists are those of the table

pub to_map_is : (t : Table) (u n : ℕ) → n ≡ word (u - t.counts.user + 1) (λ g. 0) (get_or t.global_from_user u 0) → n ≡ to_map t u
unfolding to_map
to_map_is t u n e = e

unsampled_is : (t : Table) (u : ℕ) → is_unsampled t.global_from_user t.records u ≡ unsampled t u
unfolding is_unsampled unsampled
unsampled_is t u = refl

pub all_inside : (t : Table) → soundb t ≡ true → MapBelow t.global_from_user (length t.records)
all_inside t y = record { at = λ i. go i (get_or t.global_from_user i 0) refl }
  where
    go : (i w : ℕ) → get_or t.global_from_user i 0 ≡ w → get_or t.global_from_user i 0 ≤ length t.records
    go i zero e = omega arith
    go i (suc g) e =
        let z = (sound_of t y).sizes in
        let q : get_or t.global_from_user i 0 ≡ g + 1 = omega arith in
        let m = (mapped_global t i g (sound_of t y) q).1 in
        omega arith

-- ---- the numbers are small

pub used_small : (t : Table) → soundb t ≡ true → t.counts.used ≤ 4096
used_small t y = let p = sound_of t y in let z = p.sizes in let m = used_most t p in omega arith

to_map_most : (t : Table) (u : ℕ) → to_map t u ≤ u + 1
unfolding to_map word
to_map_most t u = go (get_or t.global_from_user u 0)
  where
    go : (w : ℕ) → word (u - t.counts.user + 1) (λ g. 0) w ≤ u + 1
    go zero = omega arith
    go (suc g) = omega arith

-- the stored number of undeleted globals, and the number of users to map
pub record MapCounts (t : Table) (u n : ℕ) : Type 0 where
  pub sizes : Sizes t
  pub used_is : t.counts.used ≡ undeleted t
  pub n_is : n ≡ to_map t u
  pub used_most : t.counts.used ≤ 4096
  pub n_most : n ≤ u + 1

pub map_counts_lem : (t : Table) (u n : ℕ) → soundb t ≡ true → n ≡ word (u - t.counts.user + 1) (λ g. 0) (get_or t.global_from_user u 0) → MapCounts t u n
map_counts_lem t u n y q =
    let p = sound_of t y in
    let b = to_map_is t u n q in
    let d = to_map_most t u in
    record { sizes = p.sizes; used_is = p.stored.used; n_is = b; used_most = used_small t y; n_most = omega arith }

-- ---- refusals of Map

module _ (t : Table) (u : ℕ) (sampling : Bool) (room : ℕ) where
  map_1 : soundb t ≡ false → 1 ≡ map_refusal t u sampling room
  unfolding map_refusal
  map_1 n = rw n

  module _ (y : soundb t ≡ true) where
    pub map_3 : t.counts.capacity ≤ u → 3 ≡ map_refusal t u sampling room
    unfolding map_refusal
    map_3 l = rw (y, le-leb t.counts.capacity u l)

    module _ (l : u < t.counts.capacity) where
      pub map_4 : (b : Bool) → b ≡ is_unsampled t.global_from_user t.records u → sampling && b ≡ true → 4 ≡ map_refusal t u sampling room
      unfolding map_refusal
      map_4 b q e =
          let s : sampling && unsampled t u ≡ true = rw (← unsampled_is t u, ← q) e in
          rw (y, lt-leb t.counts.capacity u l, s)

      module _ (b : Bool) (q : b ≡ is_unsampled t.global_from_user t.records u) (e : sampling && b ≡ false) (n : ℕ) (k : MapCounts t u n) where
        sampled : sampling && unsampled t u ≡ false
        sampled = rw (← unsampled_is t u, ← q) e

        pub map_5 : t.counts.capacity < t.counts.used + n → 5 ≡ map_refusal t u sampling room
        unfolding map_refusal
        map_5 h =
            let a = k.used_is in
            let c = k.n_is in
            let f : ltb t.counts.capacity (undeleted t + to_map t u) ≡ true =
            lt-ltb _ _ (let x : t.counts.capacity < undeleted t + to_map t u = omega arith in x) in
            rw (y, lt-leb t.counts.capacity u l, sampled, f)

        module _ (h : t.counts.used + n ≤ t.counts.capacity) where
          enough : ltb t.counts.capacity (undeleted t + to_map t u) ≡ false
          enough =
              let a = k.used_is in
              let c = k.n_is in
              le-ltb _ _ (let x : undeleted t + to_map t u ≤ t.counts.capacity = omega arith in x)

          words : length (map_user u t).notes ≡ n
          words = map_user_count t u ∙ sym k.n_is

          pub map_2 : room < 3 * n → 2 ≡ map_refusal t u sampling room
          unfolding map_refusal
          map_2 r = rw (y, lt-leb t.counts.capacity u l, sampled, enough, words, lt-ltb room (3 * n) r)

          pub map_0 : 3 * n ≤ room → 0 ≡ map_refusal t u sampling room
          unfolding map_refusal
          map_0 r = rw (y, lt-leb t.counts.capacity u l, sampled, enough, words, le-ltb room (3 * n) r)

-- no refusal is what the inner mapping asks
pub map_asks : (t : Table) (u : ℕ) (sampling : Bool) (room : ℕ) → 0 ≡ map_refusal t u sampling room → MapAsks t u 0 room
unfolding map_refusal
map_asks t u sampling room q =
    let a = past (not (soundb t)) 1 _ (omega arith) (sym q) in
    let b = past (leb t.counts.capacity u) 3 _ (omega arith) a.1 in
    let c = past (sampling && unsampled t u) 4 _ (omega arith) b.1 in
    let d = past (ltb t.counts.capacity (undeleted t + to_map t u)) 5 _ (omega arith) c.1 in
    let f = past (short room (map_user u t).notes) 2 0 (omega arith) d.1 in
    record {
      sound = not-false (soundb t) a.0;
      within = leb-false t.counts.capacity u b.0;
      enough = ltb-false t.counts.capacity (undeleted t + to_map t u) d.0;
      words = let w = ltb-false room (3 * length (map_user u t).notes) f.0 in let x = map_user_count t u in omega arith;
    }

-- the count of notes fits a word
pub map_few : (t : Table) (u at room : ℕ) → MapAsks t u at room → length (map_user u t).notes < 2 ^ 32
map_few t u at room h =
    let z = (sound_of t h.sound).sizes in
    let x = map_user_count t u in
    let r = h.enough in
    omega arith

pub map_refused : (t : Table) (u : ℕ) (sampling : Bool) (r : Refusal) (words : List ℕ) → number r ≡ map_refusal t u sampling (length words)
    → Does (map_of t u sampling (length words)) (user_mapped (Err r) t.counts) t words words
unfolding map_of
map_refused t u sampling r words q = call_refused (map_refusal t u sampling (length words)) (number r) t _ words q (number_not_0 r)

pub map_unsound : (t : Table) (u : ℕ) (sampling : Bool) (words : List ℕ) → soundb t ≡ false
    → Does (map_of t u sampling (length words)) (user_mapped (Err Unsound) t.counts) t words words
map_unsound t u sampling words n = map_refused t u sampling Unsound words (map_1 t u sampling (length words) n)

pub map_done : (t : Table) (u : ℕ) (sampling : Bool) (at : ℕ) (g : Global) (left : Table) (words words' : List ℕ)
    → 0 ≡ map_refusal t u sampling (length words)
    → (g.0 ≡ (map_user u t).value) × Leaves (map_user u t) 0 at left words words'
    → Does (map_of t u sampling (length words)) (user_mapped (Ok (record { global = g; counts = left.counts; notes = at / 3 })) t.counts) left words words'
unfolding map_of
map_done t u sampling at g left words words' q h =
    call_accepted (map_refusal t u sampling (length words)) 0 t _ _ left words words' q refl
    (call_noted (λ g. g ∷ []) (g.0 ∷ []) (map_user u t) at left.counts left words words' h.1 (ap (λ (i : ℕ). i ∷ []) h.0))

-- ---- New user

new_words : (t : Table) → soundb t ≡ true → length (new_user t).notes ≡ 1
unfolding new_user
new_words t y = map_user_count t (next_user t) ∙ next_user_to_map t (sound_of t y)

module _ (t : Table) (room : ℕ) where
  new_1 : soundb t ≡ false → 1 ≡ new_user_refusal t room
  unfolding new_user_refusal
  new_1 n = rw n

  module _ (y : soundb t ≡ true) where
    pub new_5 : t.counts.capacity < t.counts.used + 1 → 5 ≡ new_user_refusal t room
    unfolding new_user_refusal
    new_5 h =
        let a = (sound_of t y).stored.used in
        let f : ltb t.counts.capacity (undeleted t + 1) ≡ true = lt-ltb _ _ (let x : t.counts.capacity < undeleted t + 1 = omega arith in x) in
        rw (y, f)

    module _ (h : t.counts.used + 1 ≤ t.counts.capacity) where
      one_more : ltb t.counts.capacity (undeleted t + 1) ≡ false
      one_more =
          let a = (sound_of t y).stored.used in
          le-ltb _ _ (let x : undeleted t + 1 ≤ t.counts.capacity = omega arith in x)

      pub new_2 : room < 3 → 2 ≡ new_user_refusal t room
      unfolding new_user_refusal
      new_2 r = rw (y, one_more, new_words t y, lt-ltb room 3 r)

      pub new_0 : 3 ≤ room → 0 ≡ new_user_refusal t room
      unfolding new_user_refusal
      new_0 r = rw (y, one_more, new_words t y, le-ltb room 3 r)

-- what the search and the inner mapping ask
pub record NewAsks (t : Table) (room : ℕ) : Type 0 where
  pub marked : t.counts.user ≤ length t.global_from_user
  pub asks : MapAsks t (next_user t) 0 room

pub new_asks : (t : Table) (room : ℕ) → 0 ≡ new_user_refusal t room → NewAsks t room
unfolding new_user_refusal
new_asks t room q =
    let a = past (not (soundb t)) 1 _ (omega arith) (sym q) in
    let d = past (ltb t.counts.capacity (undeleted t + 1)) 5 _ (omega arith) a.1 in
    let f = past (short room (new_user t).notes) 2 0 (omega arith) d.1 in
    let y = not-false (soundb t) a.0 in
    let p = sound_of t y in
    let z = p.sizes in
    let r = ltb-false t.counts.capacity (undeleted t + 1) d.0 in
    let m = next_user_to_map t p in
    let w = ltb-false room (3 * length (new_user t).notes) f.0 in
    let x = new_words t y in
    record {
      marked = omega arith;
      asks = record { sound = y; within = next_user_within t p (omega arith); enough = omega arith; words = omega arith };
    }

pub next_is : (t : Table) (u : ℕ) → u ≡ least_free t.global_from_user t.counts.user → u ≡ next_user t
unfolding next_user
next_is t u e = e

-- the user found
pub found_asks : (t : Table) (u room : ℕ) → NewAsks t room → u ≡ least_free t.global_from_user t.counts.user → MapAsks t u 0 room
found_asks t u room h e = subst (λ (k : ℕ). MapAsks t k 0 room) (sym (next_is t u e)) h.asks

-- it is at most the watermark: there is no gap below it
pub found_low : (gu : List ℕ) (mark u : ℕ) → u ≡ least_free gu mark → u ≤ mark
found_low gu mark u e = let m = free_most gu mark in omega arith

pub new_refused : (t : Table) (r : Refusal) (words : List ℕ) → number r ≡ new_user_refusal t (length words)
    → Does (new_user_of t (length words)) (new_user_mapped (Err r) t.counts) t words words
unfolding new_user_of
new_refused t r words q = call_refused (new_user_refusal t (length words)) (number r) t _ words q (number_not_0 r)

pub new_unsound : (t : Table) (words : List ℕ) → soundb t ≡ false
    → Does (new_user_of t (length words)) (new_user_mapped (Err Unsound) t.counts) t words words
new_unsound t words n = new_refused t Unsound words (new_1 t (length words) n)

pub new_done : (t : Table) (u : User) (at : ℕ) (g : Global) (left : Table) (words words' : List ℕ) → 0 ≡ new_user_refusal t (length words)
    → u.0 ≡ least_free t.global_from_user t.counts.user
    → (g.0 ≡ (map_user u.0 t).value) × Leaves (map_user u.0 t) 0 at left words words'
    → Does (new_user_of t (length words)) (new_user_mapped (Ok (record { user = u; global = g; counts = left.counts; notes = at / 3 })) t.counts) left
    words words'
unfolding new_user_of new_user
new_done t u at g left words words' q f h =
    let i = next_is t u.0 f in
    let k = subst (λ (v : ℕ). Leaves (map_user v t) 0 at left words words') i h.1 in
    let w = subst (λ (v : ℕ). g.0 ≡ (map_user v t).value) i h.0 in
    call_accepted (new_user_refusal t (length words)) 0 t _ _ left words words' q refl
    (call_noted (λ vs. vs) (u.0 ∷ g.0 ∷ []) (new_user t) at left.counts left words words' (leaves_giving k) (λ j. i j ∷ w j ∷ []))

-- ---- the number and the values tell the answer

abbrev mapped_from : Said → Result UserMapped Refusal
mapped_from s = elim s.answer [
  | accepted vs ↦ Ok (record { global = record { 0 = get_or vs 0 0 }; counts = s.counts; notes = get_or vs 1 0 })
  | refused n vs ↦ Err (refusal_at n)
]

mapped_back : (c : Counts) (x : Result UserMapped Refusal) → mapped_from (user_mapped x c) ≡ x
mapped_back c (Ok m) = refl
mapped_back c (Err r) = ap Err (refusal_back r)

pub user_mapped_one : (x y : Result UserMapped Refusal) (c : Counts) → user_mapped x c ≡ user_mapped y c → x ≡ y
user_mapped_one x y c = one_of (λ z. user_mapped z c) mapped_from (mapped_back c) x y

abbrev new_from : Said → Result NewUser Refusal
new_from s = elim s.answer [
  | accepted vs ↦
      Ok (record { user = record { 0 = get_or vs 0 0 }; global = record { 0 = get_or vs 1 0 }; counts = s.counts; notes = get_or vs 2 0 })
  | refused n vs ↦ Err (refusal_at n)
]

new_back : (c : Counts) (x : Result NewUser Refusal) → new_from (new_user_mapped x c) ≡ x
new_back c (Ok m) = refl
new_back c (Err r) = ap Err (refusal_back r)

pub new_user_mapped_one : (x y : Result NewUser Refusal) (c : Counts) → new_user_mapped x c ≡ new_user_mapped y c → x ≡ y
new_user_mapped_one x y c = one_of (λ z. new_user_mapped z c) new_from (new_back c) x y
