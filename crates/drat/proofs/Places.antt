-- The reader at a place of its input, with no bound on its depth to carry.
use Prim.Native.Nat.{ℕ, zero, suc, ◌+◌, ◌-◌, ◌≤◌, ◌<◌}
use mathlib.Core.Path.{◌≡◌, refl, sym, ap, ◌∙◌}
use mathlib.Core.List.{List, [], ◌∷◌, ◌++◌}
use native.Mathlib.Omega.{arith}
use lib.ListN.{length, get_or, drop, length-append, length-drop, drop_of_length-le}
use lib.Seq.{drop-drop}
use Rattle.drat.specs.Grammar.{Step, stop}
use Rattle.drat.specs.Reading.{signed_from, token, opening, Part, whole, broken, cons_part, body, One, got, fault, as_step, one_step, Proof, steps, fault_at}
use Rattle.drat.specs.Reading.{lead, past, cons_step, steps_from, read_proof}
use Rattle.drat.specs.declared.Kind.{Kind}
use Rattle.drat.specs.declared.Format.{Format}
use Rattle.drat.specs.declared.Token.{Token}
use Rattle.drat.specs.declared.Token.TheVariants.{Lit, Stop}
use Rattle.drat.proofs.Complete.{signed_first, number_length, body_length, stop_some, none_left, body_lit, body_stop, body_bad, one_opens, one_wrong}
use Rattle.drat.proofs.Complete.{steps_got}
use Rattle.drat.proofs.Complete.{steps_not}
use Rattle.drat.proofs.Steps.{next}
use Rattle.drat.proofs.Separators.{lead_le}
use Rattle.drat.proofs.Sound.{Bytes, bytes_drop, signed_sound, token_sound, token_stop, opening_sound, step_sound}
use Rattle.std.specs.Prelude.{Option, Some, None}
use Rattle.drat.specs.Reading.{opens}

-- each token takes a byte, and so does a number
pub signed_moves : (i : ℕ) (l : List ℕ) (c j : ℕ) → signed_from i l ≡ Some (Lit c j) → (i < j) × (j ≤ i + length l)
signed_moves i l c j e =
    let r = signed_sound i l c j e in
    let f = signed_first r.spelled in
    omega (arith, r.place, ap length f.2, ap length r.split ∙ length-append r.bytes r.rest)

pub lit_moves : (f : Format) (i : ℕ) (l : List ℕ) (c j : ℕ) → Bytes l → token f i l ≡ Some (Lit c j) → (i < j) × (j ≤ i + length l)
lit_moves f i l c j hb e =
    let r = token_sound f i l c j hb e in
    omega (arith, r.place, number_length r.spelled, ap length r.split ∙ length-append r.bytes r.rest)

pub stop_moves : (f : Format) (i : ℕ) (l : List ℕ) (j : ℕ) → token f i l ≡ Some (Stop j) → (i < j) × (j ≤ i + length l)
stop_moves f i l j e =
    let r = token_stop f i l j e in
    omega (arith, r.place, stop_some f, ap length r.split ∙ length-append (stop f) r.rest)

pub open_moves : (f : Format) (i : ℕ) (l : List ℕ) (k : Kind) (j : ℕ) → opening f i l ≡ opens k j → (i ≤ j) × (j ≤ i + length l)
open_moves f i l k j e =
    let r = opening_sound f i l k j e in
    omega (arith, r.place, ap length r.split ∙ length-append r.bytes r.rest)

pub step_moves : (f : Format) (i : ℕ) (l : List ℕ) (s : Step) (j : ℕ) → Bytes l → one_step f i l ≡ got s j → (i < j) × (j ≤ i + length l)
step_moves f i l s j hb e =
    let r = step_sound f i l s j hb e in
    omega (
      arith,
      r.place,
      body_length r.spelled,
      length-append r.front r.bytes,
      ap length r.split
          ∙ length-append (r.front ++ r.bytes) r.rest,
    )

pub shorter : (i j : ℕ) (l : List ℕ) → i < j → j ≤ i + length l → length (drop (j - i) l) < length l
shorter i j l p q = simp length-drop (omega arith)

-- enough depth is as good as more
pub body_depth : (f : Format) (n m i : ℕ) (l : List ℕ) → Bytes l → length l ≤ n → length l ≤ m → body f n i l ≡ body f m i l
unfolding body token
body_depth f zero zero i l hb p q = refl
body_depth f zero (suc m) i [] hb p q = refl
body_depth f zero (suc m) i (b ∷ l) hb p q = absurd (omega arith)
body_depth f (suc n) zero i [] hb p q = refl
body_depth f (suc n) zero i (b ∷ l) hb p q = absurd (omega arith)
body_depth f (suc n) (suc m) i l hb p q = go (token f i l) refl (λ j. body_depth f n m j (drop (j - i) l) (bytes_drop (j - i) l hb))
  where
    go : (t : Option Token) → token f i l ≡ t → ((j : ℕ) → length (drop (j - i) l) ≤ n → length (drop (j - i) l) ≤ m
        → body f n j (drop (j - i) l) ≡ body f m j (drop (j - i) l)) → body f (suc n) i l ≡ body f (suc m) i l
    go (Some (Lit c j)) t ih =
        let v = lit_moves f i l c j hb t in
        let w = shorter i j l v.0 v.1 in
        body_lit f n i l c j t ∙ ap (cons_part c) (ih j (omega arith) (omega arith)) ∙ sym (body_lit f m i l c j t)
    go (Some (Stop j)) t ih = body_stop f n i l j t ∙ sym (body_stop f m i l j t)
    go None t ih = body_bad f n i l t ∙ sym (body_bad f m i l t)

-- a step and what may be passed after it
pub past_moves : (f : Format) (i : ℕ) (l : List ℕ) (j : ℕ) → i ≤ j → j ≤ i + length l → (j ≤ past f i l j) × (past f i l j ≤ i + length l)
past_moves f i l j p q = omega (arith, lead_le f (drop (j - i) l), length-drop (j - i) l)

pub steps_depth : (f : Format) (n m i : ℕ) (l : List ℕ) → Bytes l → length l ≤ n → length l ≤ m → steps_from f n i l ≡ steps_from f m i l
unfolding steps_from
steps_depth f zero zero i l hb p q = refl
steps_depth f zero (suc m) i [] hb p q = refl
steps_depth f zero (suc m) i (b ∷ l) hb p q = absurd (omega arith)
steps_depth f (suc n) zero i [] hb p q = refl
steps_depth f (suc n) zero i (b ∷ l) hb p q = absurd (omega arith)
steps_depth f (suc n) (suc m) i [] hb p q = refl
steps_depth f (suc n) (suc m) i (b ∷ l) hb p q = go (one_step f i (b ∷ l)) refl (λ j. steps_depth f n m j (drop (j - i) (b ∷ l)) (bytes_drop (j - i) (b ∷ l) hb))
  where
    go : (o : One) → one_step f i (b ∷ l) ≡ o → ((j : ℕ) → length (drop (j - i) (b ∷ l)) ≤ n → length (drop (j - i) (b ∷ l)) ≤ m
        → steps_from f n j (drop (j - i) (b ∷ l)) ≡ steps_from f m j (drop (j - i) (b ∷ l))) → steps_from f (suc n) i (b ∷ l) ≡ steps_from f (suc m) i (b ∷ l)
    go (got s j) o ih =
        let v = step_moves f i (b ∷ l) s j hb o in
        let x = past_moves f i (b ∷ l) j (omega (arith, v.0)) v.1 in
        let k = past f i (b ∷ l) j in
        let w = shorter i k (b ∷ l) (omega (arith, v.0, x.0)) x.1 in
        steps_got f n i (b ∷ l) s j o ∙ ap (cons_step s) (ih k (omega (arith, w)) (omega (arith, w))) ∙ sym (steps_got f m i (b ∷ l) s j o)
    go fault o ih = steps_not f n i b l o ∙ sym (steps_not f m i b l o)

-- literals, a step and all steps from place i of s
unfoldable pub body_at : Format → List ℕ → ℕ → Part
body_at f s i = body f (length s) i (drop i s)

unfoldable pub step_at : Format → List ℕ → ℕ → One
step_at f s i = one_step f i (drop i s)

unfoldable pub proof_at : Format → List ℕ → ℕ → Proof
proof_at f s i = steps_from f (length s) i (drop i s)

-- the place after what may be passed at place i
abbrev pub token_at : Format → List ℕ → ℕ → ℕ
token_at f s i = i + lead f (drop i s)

module _ (f : Format) (s : List ℕ) (hb : Bytes s) where
  drops : (i j : ℕ) → i ≤ j → drop (j - i) (drop i s) ≡ drop j s
  drops i j h = let e : i + (j - i) ≡ j = omega arith in drop-drop (j - i) i s ∙ ap (λ (k : ℕ). drop k s) e

  rest_le : (i : ℕ) → length (drop i s) ≤ length s
  rest_le i = simp length-drop (omega arith)

  pub lit_at : (i : ℕ) → i ≤ length s → (c j : ℕ) → token f i (drop i s) ≡ Some (Lit c j) → (body_at f s i ≡ cons_part c (body_at f s j)) × (i < j) × (j ≤ length s)
  unfolding body_at
  lit_at i h c j e =
      let v = lit_moves f i (drop i s) c j (bytes_drop i s hb) e in
      let w = length-drop i s in (
        body_depth f (length s) (suc (length s)) i (drop i s) (bytes_drop i s hb) (rest_le i) (omega (arith, rest_le i))
            ∙ body_lit f (length s) i (drop i s) c j e
            ∙ ap (λ (l : List ℕ). cons_part c (body f (length s) j l)) (drops i j (omega arith)),
        v.0,
        omega (arith, v.1),
      )

  pub stop_at : (i : ℕ) → i ≤ length s → (j : ℕ) → token f i (drop i s) ≡ Some (Stop j) → (body_at f s i ≡ whole [] j) × (i < j) × (j ≤ length s)
  unfolding body_at
  stop_at i h j e =
      let v = stop_moves f i (drop i s) j e in
      let w = length-drop i s in (
        body_depth f (length s) (suc (length s)) i (drop i s) (bytes_drop i s hb) (rest_le i) (omega (arith, rest_le i))
            ∙ body_stop f (length s) i (drop i s) j e,
        v.0,
        omega (arith, v.1),
      )

  pub bad_at : (i : ℕ) → token f i (drop i s) ≡ None → body_at f s i ≡ broken
  unfolding body_at
  bad_at i e = body_depth f (length s) (suc (length s)) i (drop i s) (bytes_drop i s hb) (rest_le i) (omega (arith, rest_le i))
      ∙ body_bad f (length s) i (drop i s) e

  pub opens_at : (i : ℕ) → i ≤ length s → (k : Kind) (j : ℕ) → opening f i (drop i s) ≡ opens k j → (step_at f s i ≡ as_step k (body_at f s j)) × (i ≤ j)
      × (j ≤ length s)
  unfolding body_at step_at
  opens_at i h k j e =
      let v = open_moves f i (drop i s) k j e in
      let w = length-drop i s in
      let d = drops i j v.0 in
      let u : length (drop j s) ≤ length (drop i s) = omega (arith, length-drop j s, v.0) in (
        one_opens f i (drop i s) k j e
            ∙ ap (λ (l : List ℕ). as_step k (body f (length (drop i s)) j l)) d
            ∙ ap (as_step k) (body_depth f (length (drop i s)) (length s) j (drop j s) (bytes_drop j s hb) u (rest_le j)),
        v.0,
        omega (arith, v.1),
      )

  pub wrong_at_lem : (i : ℕ) → opening f i (drop i s) ≡ None → step_at f s i ≡ fault
  unfolding step_at
  wrong_at_lem i e = one_wrong f i (drop i s) e

  pub got_at : (i : ℕ) → i ≤ length s → (t : Step) (j : ℕ) → step_at f s i ≡ got t j → proof_at f s i ≡ cons_step t (proof_at f s (token_at f s j))
  unfolding step_at proof_at
  got_at i h t j e =
      let v = step_moves f i (drop i s) t j (bytes_drop i s hb) e in
      let k : past f i (drop i s) j ≡ token_at f s j = ap (λ (l : List ℕ). j + lead f l) (drops i j (omega (arith, v.0))) in
      steps_depth f (length s) (suc (length s)) i (drop i s) (bytes_drop i s hb) (rest_le i) (omega (arith, rest_le i))
      ∙ steps_got f (length s) i (drop i s) t j e
      ∙ ap (λ (x : ℕ). cons_step t (steps_from f (length s) x (drop (x - i) (drop i s)))) k
      ∙ ap (λ (l : List ℕ). cons_step t (steps_from f (length s) (token_at f s j) l)) (drops i (token_at f s j) (omega (arith, v.0)))

  pub token_le : (i : ℕ) → i ≤ length s → token_at f s i ≤ length s
  token_le i h = omega (arith, lead_le f (drop i s), length-drop i s)

  pub fault_at_lem : (i : ℕ) → i < length s → step_at f s i ≡ fault → proof_at f s i ≡ fault_at i
  unfolding step_at proof_at
  fault_at_lem i h e =
      let d = next s i h in
      steps_depth f (length s) (suc (length s)) i (drop i s) (bytes_drop i s hb) (rest_le i) (omega (arith, rest_le i))
      ∙ ap (steps_from f (suc (length s)) i) d
      ∙ steps_not f (length s) i (get_or s i 0) (drop (i + 1) s) (ap (one_step f i) (sym d) ∙ e)

  pub end_at : (i : ℕ) → length s ≤ i → proof_at f s i ≡ steps []
  unfolding proof_at
  end_at i h = ap (steps_from f (length s) i) (drop_of_length-le s h) ∙ none_left f (length s) i

pub proof_at_zero : (f : Format) (s : List ℕ) → read_proof f s ≡ proof_at f s (token_at f s 0)
unfolding read_proof proof_at
proof_at_zero f s = let e : lead f s ≡ token_at f s 0 = omega arith in ap (λ (k : ℕ). steps_from f (length s) k (drop k s)) e
