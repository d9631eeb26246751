-- The writer and the reader with a format and a kind by number.
use Rattle.std.specs.Prelude.{Some, None}
use Prim.Native.Nat.{ℕ, zero, suc, ◌+◌, ◌-◌}
use mathlib.Core.Path.{◌≡◌, refl, sym, ap, ap₂, ◌∙◌}
use mathlib.Core.List.{List, [], ◌∷◌}
use native.Mathlib.Omega.{arith}
use lib.ListN.{length, take, drop, get_or}
use Rattle.base.specs.Answer.{Answer, refused}
use Rattle.drat.specs.declared.Format.{Format}
use Rattle.drat.specs.declared.Kind.{Kind}
use Rattle.drat.specs.Writing.{part, write_clause_of}
use Rattle.drat.specs.Listed.{write_all_of}
use Rattle.drat.specs.Filled.{refusing, read_of, first_token, first_of, first_by, first}
use Rattle.drat.specs.Reading.{One, got, fault, one_step}
use Rattle.numbers.specs.Numbers.{format_for, kind_for}
use Rattle.numbers.specs.Surface.{placed, part_of}
use Rattle.capi.specs.Codec.{no_writing, write_clause_at, write_proof_at, read_at, first_at, first_place_at}
use Rattle.numbers.proofs.NumberLaws.{known_is, unknown_is}

-- the same answer in numbers
pub same_numbers : (layout : Answer → List ℕ) {a a' : Answer} {ns : List ℕ} → a' ≡ a → ns ≡ layout a → ns ≡ layout a'
same_numbers layout e h = h ∙ sym (ap layout e)

-- ---- the writer of one clause

module _ (format kind : ℕ) (buf : List ℕ) (a b room at : ℕ) where
  pub write_clause_is : {f : Format} {k : Kind} → format_for format ≡ Some f → kind_for kind ≡ Some k
      → write_clause_at format kind buf a b room at ≡ write_clause_of f k buf a b room at
  unfolding write_clause_at
  write_clause_is e g = known_is _ _ e ∙ known_is _ _ g

  pub no_clause_format : format_for format ≡ None → write_clause_at format kind buf a b room at ≡ no_writing
  unfolding write_clause_at
  no_clause_format e = unknown_is _ _ e

  pub no_clause_kind : {f : Format} → format_for format ≡ Some f → kind_for kind ≡ None → write_clause_at format kind buf a b room at ≡ no_writing
  unfolding write_clause_at
  no_clause_kind e g = known_is _ _ e ∙ unknown_is _ _ g

-- ---- the writer of a whole proof

module _ (format : ℕ) (codes es ks : List ℕ) (room : ℕ) where
  pub write_proof_is : {f : Format} → format_for format ≡ Some f → write_proof_at format codes es ks room ≡ write_all_of f codes es ks room
  unfolding write_proof_at
  write_proof_is e = known_is _ _ e

  pub no_proof_format : format_for format ≡ None → write_proof_at format codes es ks room ≡ no_writing
  unfolding write_proof_at
  no_proof_format e = unknown_is _ _ e

-- ---- the reader

module _ (format : ℕ) (s : List ℕ) (a b c : ℕ) where
  pub read_is : {f : Format} → format_for format ≡ Some f → read_at format s a b c ≡ read_of f s a b c
  unfolding read_at
  read_is e = known_is _ _ e

  pub no_read_format : format_for format ≡ None → read_at format s a b c ≡ refusing 4294967295 []
  unfolding read_at
  no_read_format e = unknown_is _ _ e

-- ---- the first step alone

module _ (format : ℕ) (s : List ℕ) where
  pub first_is : {f : Format} → format_for format ≡ Some f → first_at format s ≡ first_of f s
  unfolding first_at
  first_is e = known_is _ _ e

  pub place_is : {f : Format} → format_for format ≡ Some f → first_place_at format s ≡ first_token f s
  unfolding first_place_at
  place_is e = known_is _ _ e

  pub no_first_format : format_for format ≡ None → first_at format s ≡ refused 4294967295 []
  unfolding first_at
  no_first_format e = unknown_is _ _ e

  pub no_place_format : format_for format ≡ None → first_place_at format s ≡ 0
  unfolding first_place_at
  no_place_format e = unknown_is _ _ e

take_again : (j : ℕ) (s : List ℕ) → take (length (take j s)) s ≡ take j s
take_again zero s = refl
take_again (suc j) [] = refl
take_again (suc j) (x ∷ s) = ap (λ (l : List ℕ). x ∷ l) (take_again j s)

part_sized : (i n : ℕ) (s : List ℕ) → part i (i + n) s ≡ take n (drop i s)
part_sized i n s = let e : i + n - i ≡ n = omega arith in ap (λ (k : ℕ). take k (drop i s)) e

part_taken : (i : ℕ) (l s : List ℕ) (x : One) → l ≡ part_of (first_by i s x) → part i (i + length l) s ≡ part_of (first_by i s x)
unfolding first_by
part_taken i l s (got p j) e =
    part_sized i (length l) s ∙ ap (λ (k : List ℕ). take (length k) (drop i s)) e ∙ take_again (j - i) (drop i s)
part_taken i l s fault e = part_sized i (length l) s ∙ ap (λ (k : List ℕ). take (length k) (drop i s)) e

part_is : (i : ℕ) (l : List ℕ) → l ≡ part_of (first i l)
part_is i [] = refl
part_is i (b ∷ l) = refl

first_place_lem : (i : ℕ) (l : List ℕ) → get_or (placed i (first i l)) 1 0 ≡ i
first_place_lem i [] = refl
first_place_lem i (b ∷ l) = refl

first_length : (i : ℕ) (l : List ℕ) → get_or (placed i (first i l)) 2 0 ≡ length l
first_length i [] = refl
first_length i (b ∷ l) = refl

-- the part answered is so many bytes from its place on
pub first_taken : (format : ℕ) (s : List ℕ) {f : Format} → format_for format ≡ Some f → (l : List ℕ) {k p n : ℕ} → first (first_token f s) l ≡ first_of f s
    → k ∷ p ∷ n ∷ [] ≡ placed (first_token f s) (first (first_token f s) l) → part p (p + n) s ≡ part_of (first_at format s)
first_taken format s {f} q l h g =
    let i = first_token f s in
    let e = ap (λ (ns : List ℕ). get_or ns 2 0) g ∙ first_length i l in
    let d = ap (λ (ns : List ℕ). get_or ns 1 0) g ∙ first_place_lem i l in
    ap₂ (λ (p n : ℕ). part p (p + n) s) d e ∙ part_taken i l s (one_step f i (drop i s)) (part_is i l ∙ ap part_of h) ∙ sym (ap part_of (first_is format s q))
