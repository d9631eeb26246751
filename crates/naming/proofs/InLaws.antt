-- Laws of Map on the map of users and the records alone: what it says at once on every sound table that has these lists.
use Prim.Native.Nat.{ℕ, ◌+◌, ◌-◌, ◌≤◌, ◌<◌}
use mathlib.Core.Path.{◌≡◌, sym, ap, ◌∙◌, subst}
use mathlib.Core.Bool.{Bool, true, false, ◌&&◌, not}
use mathlib.Core.List.{List, [], ◌∷◌}
use native.Mathlib.Omega.{arith}
use lib.Dec.{eqb}
use lib.ListN.{length, get_or}
use borrow.Author.Tests.{eq-eqb, ne_eqb}
use Rattle.base.proofs.MemberLaws.{word_inside}
use Rattle.scope.specs.Table.{Table, mode_of}
use Rattle.scope.specs.Sound.{soundb}
use Rattle.scope.specs.Outcome.{stay}
use Rattle.scope.specs.Map.{map_user, to_map, map_refusal, map_of}
use Rattle.scope.proofs.MoveLaws.{used_most}
use Rattle.scope.proofs.SoundLaws.{sound_of}
use Rattle.scope.proofs.MapLaws.{map_user_count}
use Rattle.scope.proofs.ResultLaws.{word_none, word_some}
use Rattle.changes.specs.AtOnce.{AtOnce}
use Rattle.changes.proofs.AtOnceLaws.{at_once_found, at_once_noted, at_once_refused}
use Rattle.naming.proofs.SampledLaws.{unsampled_some, inside_below}
use Rattle.naming.proofs.CallLaws.{all_inside, map_counts_lem, map_4, map_0}

-- an unmapped user makes a note, or is refused
noted : (t : Table) (u : ℕ) (sampling : Bool) → get_or t.global_from_user u 0 ≡ 0 → AtOnce (λ room. map_of t u sampling room) t []
unfolding map_of to_map
noted t u sampling e =
    let m = map_user_count t u in
    let w = word_none (u - t.counts.user + 1) (λ g. 0) _ e in
    at_once_noted (map_refusal t u sampling) t (map_user u t) (u - t.counts.user) (omega arith)

-- a mapped one
module _ (t : Table) (u g : ℕ) (sampling : Bool) (y : soundb t ≡ true) (e : get_or t.global_from_user u 0 ≡ g + 1) where
  within : u < t.counts.capacity
  within =
      let z = (sound_of t y).sizes in
      let l = word_inside t.global_from_user u (λ k. omega arith) in
      omega arith

  has_record : g < length t.records
  has_record = inside_below t.global_from_user (length t.records) u g (all_inside t y) e

  refused : sampling ≡ true → (mode_of (get_or t.records g 0) ≡ 0 → ⊥) → AtOnce (λ room. map_of t u sampling room) t []
  unfolding map_of
  refused s n =
      let q = unsampled_some t.global_from_user t.records u g (all_inside t y) e in
      at_once_refused (map_refusal t u sampling) t (map_user u t)
      (λ room z. let k = map_4 t u sampling room y within _ q (rw (s, ne_eqb (mode_of (get_or t.records g 0)) 0 n)) in omega arith)

  found : sampling && not (eqb (mode_of (get_or t.records g 0)) 0) ≡ false → AtOnce (λ room. map_of t u sampling room) t (g ∷ [])
  unfolding map_of map_user
  found s =
      let q = unsampled_some t.global_from_user t.records u g (all_inside t y) e in
      let w = sym (word_some (u - t.counts.user + 1) (λ g. 0) _ g e) in
      let m = used_most t (sound_of t y) in
      at_once_found (map_refusal t u sampling) t (map_user u t) g
      (λ room. sym (map_0 t u sampling room y within _ q s 0 (map_counts_lem t u 0 y w) (omega arith) (omega arith)))
      (word_some _ (λ g. stay g t) _ g e)

-- of every sound table with these lists
module _ (gu records : List ℕ) (u : ℕ) (sampling : Bool) where
  abbrev Says : List ℕ → Type 0
  Says vs = (t : Table) → soundb t ≡ true → t.global_from_user ≡ gu → t.records ≡ records → AtOnce (λ room. map_of t u sampling room) t vs

  pub in_unmapped : get_or gu u 0 ≡ 0 → Says []
  in_unmapped e t y a b = noted t u sampling (ap (λ (l : List ℕ). get_or l u 0) a ∙ e)

  module _ (g : ℕ) (e : get_or gu u 0 ≡ g + 1) where
    here : (t : Table) → t.global_from_user ≡ gu → get_or t.global_from_user u 0 ≡ g + 1
    here t a = ap (λ (l : List ℕ). get_or l u 0) a ∙ e

    -- no sound table has it
    pub in_outside : length records ≤ g → Says []
    in_outside l t y a b = absurd (let h = has_record t u g sampling y (here t a) in let z = ap length b in omega arith)

    pub in_unsampled : sampling ≡ true → (mode_of (get_or records g 0) ≡ 0 → ⊥) → Says []
    in_unsampled s n t y a b = refused t u g sampling y (here t a) s (subst (λ (l : List ℕ). mode_of (get_or l g 0) ≡ 0 → ⊥) (sym b) n)

    pub in_free : sampling ≡ false → Says (g ∷ [])
    in_free s t y a b = found t u g sampling y (here t a) (rw s)

    pub in_sampled : sampling ≡ true → mode_of (get_or records g 0) ≡ 0 → Says (g ∷ [])
    in_sampled s n t y a b = found t u g sampling y (here t a)
        (let k = ap (λ (l : List ℕ). mode_of (get_or l g 0)) b ∙ n in rw (s, eq-eqb (mode_of (get_or t.records g 0)) 0 k))
