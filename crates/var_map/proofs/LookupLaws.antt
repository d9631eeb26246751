-- Laws by which the lookups are what crates/scope/specs/Lookup.antt says.
use Rattle.std.specs.Prelude.{Option, Some, None, Ok}
use Prim.Native.Nat.{ℕ, zero, suc, ◌≤◌, ◌<◌}
use mathlib.Core.Path.{◌≡◌, refl, sym, ap, ◌∙◌, subst}
use mathlib.Core.Bool.{Bool, true, false}
use mathlib.Core.List.{List, [], ◌∷◌}
use native.Mathlib.Omega.{arith}
use lib.ListN.{length, get_or}
use lib.Dec.{ltb}
use borrow.Author.Tests.{lt-ltb, le-ltb, ltb-false}
use Rattle.base.specs.Answer.{accepted, refused}
use Rattle.base.specs.Choice.{pick}
use Rattle.base.proofs.MemberLaws.{get_d_default}
use Rattle.scope.specs.declared.Counts.{Counts}
use Rattle.scope.specs.Table.{Table, word, record_of}
use Rattle.scope.specs.Sound.{soundb}
use Rattle.scope.specs.Notes.{notes_words}
use Rattle.scope.specs.Outcome.{unless}
use Rattle.scope.specs.Contract.{Said, Does}
use Rattle.scope.specs.Lookup.{found, lookup_of}
use Rattle.scope.proofs.SoundLaws.{sound_of}
use Rattle.var_map.specs.Answers.{got}

pub lookup_1 : (t : Table) (c : Counts) (ws : List ℕ) → soundb t ≡ false → Does (lookup_of t ws) (record { answer = refused 1 []; counts = c }) t [] []
unfolding lookup_of unless notes_words
lookup_1 t c ws k = record { answer = rw k; table = rw k; noted = rw k }

lookup_told : (t : Table) (vs ws : List ℕ) → soundb t ≡ true → vs ≡ ws → Does (lookup_of t ws) (record { answer = accepted vs; counts = t.counts }) t [] []
unfolding lookup_of unless notes_words
lookup_told t vs ws k q = record { answer = rw (k, q); table = rw k; noted = rw k }

-- ---- what a map says that is 0 from its watermark up

-- as an index of a sort, f of its number, which n undoes
module _ {B : Type 0} (f : ℕ → B) (n : B → ℕ) (h : (j : ℕ) → n (f j) ≡ j) where
  said_found : (c : Counts) (w : ℕ) → got n (Ok (word None (λ j. Some (f j)) w)) c ≡ record { answer = accepted (word [] (λ j. j ∷ []) w); counts = c }
  unfolding word
  said_found c zero = refl
  said_found c (suc j) = ap (λ (i : ℕ). record { answer = accepted (i ∷ []); counts = c }) (h j)

  pub in_found : (t : Table) → soundb t ≡ true → (xs ys : List ℕ) (mark i : ℕ) → ((j : ℕ) → mark ≤ j → get_or xs j 0 ≡ 0) → xs ≡ ys
      → (o : Option B) → o ≡ word None (λ j. Some (f j)) (get_or ys i 0) → Does (lookup_of t (found xs mark i)) (got n (Ok o) t.counts) t [] []
  unfolding found word
  in_found t k xs ys mark i tail e o q =
      subst (λ (s : Said). Does (lookup_of t (found xs mark i)) s t [] [])
      (sym (ap (λ (p : Option B). got n (Ok p) t.counts) q ∙ said_found t.counts (get_or ys i 0)))
      (lookup_told t _ _ k (sym (go (ltb i mark) refl)))
    where
      go : (b : Bool) → ltb i mark ≡ b → pick b (word [] (λ j. j ∷ []) (get_or xs i 0)) [] ≡ word [] (λ j. j ∷ []) (get_or ys i 0)
      go true l = rw e
      go false l = rw (← e, tail i (ltb-false i mark l))

-- ---- a word below the watermark

module _ (t : Table) (k : soundb t ≡ true) (x n mark i : ℕ) (e : n ≡ mark) where
  pub no_word : mark ≤ i → Does (lookup_of t (pick (ltb i n) (x ∷ []) [])) (record { answer = accepted []; counts = t.counts }) t [] []
  no_word l = lookup_told t _ _ k (rw (e, le-ltb i mark l))

  pub a_word : (w : ℕ) → i < mark → w ≡ x → Does (lookup_of t (pick (ltb i n) (x ∷ []) [])) (record { answer = accepted (w ∷ []); counts = t.counts }) t [] []
  a_word w l q = lookup_told t _ _ k (rw (e, lt-ltb i mark l, q))

pub same_word : {xs ys : List ℕ} (i w : ℕ) → xs ≡ ys → w ≡ get_or ys i 0 → w ≡ get_or xs i 0
same_word i w e q = q ∙ ap (λ (l : List ℕ). get_or l i 0) (sym e)

-- of a sound table the record of a global below the watermark is in the list
pub record_word_lem : (t : Table) (records : List ℕ) (mark g w : ℕ) → soundb t ≡ true → t.counts.global ≡ mark → t.records ≡ records → g < mark
    → w ≡ get_or records g 0 → w ≡ record_of t g
record_word_lem t records mark g w k m e l q =
    let z = (sound_of t k).sizes in
    let y : g < length t.records = omega arith in
    same_word g w e q ∙ get_d_default t.records g 0 47 y
