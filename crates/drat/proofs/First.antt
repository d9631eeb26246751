-- The first step alone is what the grammar has there.
use Prim.Native.Nat.{ℕ, ◌+◌, ◌-◌, ◌≤◌}
use mathlib.Core.Path.{◌≡◌, refl, sym, ap, ◌∙◌}
use mathlib.Core.List.{List, [], ◌∷◌, ◌++◌}
use mathlib.Core.Bool.{Bool, true, false}
use native.Mathlib.Omega.{arith}
use lib.Dec.{ltb}
use lib.ListN.{length, take, drop, length-append}
use borrow.Author.Tests.{lt-ltb, ltb-false}
use Rattle.base.specs.Choice.{pick}
use Rattle.base.specs.Answer.{accepted, refused}
use lib.Seq.{drop_at, take_at}
use Rattle.drat.specs.Grammar.{Lead, Free, Begins, Body}
use Rattle.drat.specs.Reading.{lead, One, got, fault, one_step}
use Rattle.drat.specs.Filled.{first_token, first_by, first_of}
use Rattle.drat.specs.declared.Kind.{Kind}
use Rattle.drat.specs.declared.Format.{Format}
use Rattle.drat.proofs.Complete.{step_clear, body_length, step_read}
use Rattle.drat.proofs.Separators.{Split, nothing_lead, lead_split, split_rest, lead_read}
use Rattle.drat.proofs.Sound.{Bytes, bytes_drop, step_sound}

-- it is whole, after what may be passed before it
pub first_read : {f : Format} {k : Kind} {ws os bs cs r : List ℕ} → Lead f ws → Begins f k os → Body f bs cs → Free f r
    → first_of f (ws ++ ((os ++ bs) ++ r)) ≡ accepted (os ++ bs)
unfolding first_by
first_read {f} {k} {ws} {os = o} {bs} {cs} {r} w b p g =
    let l = ws ++ ((o ++ bs) ++ r) in
    let n = length ws in
    let e = lead_read w ((o ++ bs) ++ r) (step_clear b p r) in
    let t : first_token f l ≡ n = ap (λ (y : ℕ). pick (ltb y (length l)) y 0) e
    ∙ ap (λ (u : Bool). pick u n 0) (lt-ltb n (length l) (omega (
      arith,
      body_length p,
      length-append ws ((o ++ bs) ++ r),
      length-append (o ++ bs) r,
      length-append o bs,
    ))) in
    let d = drop_at ws ((o ++ bs) ++ r) n refl in
    ap (λ (y : ℕ). first_by y l (one_step f y (drop y l))) t
    ∙ ap (λ (y : List ℕ). first_by n l (one_step f n y)) d
    ∙ ap (first_by n l) (step_read b p n g)
    ∙ ap accepted (ap (λ (y : List ℕ). take (n + length (o ++ bs) - n) y) d ∙ take_at (o ++ bs) r (n + length (o ++ bs) - n) (omega arith))

-- what is answered stands so in the bytes
pub record FirstRead (f : Format) (s part : List ℕ) : Type 0 where
  pub kind : Kind
  pub front : List ℕ
  pub opens : List ℕ
  pub bytes : List ℕ
  pub cs : List ℕ
  pub rest : List ℕ
  pub split : s ≡ front ++ ((opens ++ bytes) ++ rest)
  pub fronts : Lead f front
  pub begins : Begins f kind opens
  pub spelled : Body f bytes cs
  pub free : Free f rest
  pub is_part : part ≡ opens ++ bytes

part_of : (a b : List ℕ) → accepted a ≡ accepted b → a ≡ b
part_of a b e = cc

not_accepted : (i : ℕ) (b : List ℕ) → refused 13 (i ∷ []) ≡ accepted b → ⊥
not_accepted i b e = let z : ◌≡◌ {A = ℕ} 0 1 = cc in omega arith

-- a step at place i, after the bytes `front`
first_at_lem : (f : Format) (s part : List ℕ) (i : ℕ) (t : Split f s) → Bytes s → i ≡ lead f s
    → first_by i s (one_step f i (drop i s)) ≡ accepted part → FirstRead f s part
unfolding first_by
first_at_lem f s p i t hb z e = go (one_step f i (drop i s)) refl e
  where
    d : drop i s ≡ t.rest
    d = ap (λ (n : ℕ). drop n s) z ∙ split_rest f s t

    go : (o : One) → one_step f i (drop i s) ≡ o → first_by i s o ≡ accepted p → FirstRead f s p
    go (got u j) o e =
        let r = step_sound f i (drop i s) u j (bytes_drop i s hb) o in
        let bs = r.front ++ r.bytes in
        record {
          kind = u.kind;
          front = t.front;
          opens = r.front;
          bytes = r.bytes;
          cs = u.lits;
          rest = r.rest;
          split = t.split ∙ ap (λ (m : List ℕ). t.front ++ m) (sym d ∙ r.split);
          fronts = t.fronts;
          begins = r.begins;
          spelled = r.spelled;
          free = r.free;
          is_part = sym (part_of (take (j - i) (drop i s)) p e) ∙ ap (take (j - i)) r.split ∙ take_at bs r.rest (j - i) (omega (arith, r.place));
        }
    go fault o e = absurd (not_accepted i p e)

-- bytes that may all be passed have no step
none_first : (f : Format) (s part : List ℕ) → Bytes s → length s ≤ lead f s → first_by 0 s (one_step f 0 s) ≡ accepted part → ⊥
unfolding first_by
none_first f s p hb h e = go (one_step f 0 s) refl e
  where
    go : (o : One) → one_step f 0 s ≡ o → first_by 0 s o ≡ accepted p → ⊥
    go (got u j) o e =
        let r = step_sound f 0 s u j hb o in
        let m = (r.front ++ r.bytes) ++ r.rest in
        let z = ap (lead f) r.split ∙ lead_read (nothing_lead f) m (step_clear r.begins r.spelled r.rest) in
        omega (
          arith,
          h,
          z,
          body_length r.spelled,
          ap length r.split ∙ length-append (r.front ++ r.bytes) r.rest,
          length-append r.front r.bytes,
        )
    go fault o e = not_accepted 0 p e

pub first_sound : (f : Format) (s part : List ℕ) → Bytes s → first_of f s ≡ accepted part → FirstRead f s part
first_sound f s p hb e = go (ltb (lead f s) (length s)) refl e
  where
    go : (u : Bool) → ltb (lead f s) (length s) ≡ u
        → first_by (pick u (lead f s) 0) s (one_step f (pick u (lead f s) 0) (drop (pick u (lead f s) 0) s)) ≡ accepted p → FirstRead f s p
    go true q e = first_at_lem f s p (lead f s) (lead_split f s) hb refl e
    go false q e = absurd (none_first f s p hb (ltb-false (lead f s) (length s) q) e)
