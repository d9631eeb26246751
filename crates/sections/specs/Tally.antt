-- A slot for each code, to count the entries of a section.
use Rattle.std.specs.Prelude.{ℕ, ◌≡◌, true, List, eqb, length, get_or, take}
use Rattle.base.specs.Choice.{pick}
use Rattle.scope.specs.Binary.{times, section_at, has_mirror}

-- each slot has how often its code stands among these entries
pub record Tallied (es tally : List ℕ) : Type 0 where
  pub size : length tally ≡ 8192
  pub slot : (m : ℕ) → get_or tally m 0 ≡ times m es

-- The slot of the entry m has k: how often m stands in the section of l, or nothing, where its mirror was found before.
pub record Slot (ss : List (List ℕ)) (l m k : ℕ) : Type 0 where
  pub full : (k ≡ 0 → ⊥) → k ≡ times m (section_at ss l)
  pub empty : k ≡ 0 → has_mirror ss l m ≡ true

-- of the entries tallied, the slots of the first i are cleared
pub record Cleared (es : List ℕ) (i : ℕ) (tally : List ℕ) : Type 0 where
  pub size : length tally ≡ 8192
  pub slot : (m : ℕ) → get_or tally m 0 ≡ pick (eqb (times m (take i es)) 0) (times m es) 0
