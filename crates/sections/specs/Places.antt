-- Where the sections stand in their words.
use Rattle.std.specs.Prelude.{ℕ, ◌+◌, ◌%◌, ◌≤◌, ◌<◌, ◌≡◌, length, get_or, List}
use Rattle.drat.specs.Writing.{part}
use Rattle.scope.specs.Binary.{sections_of, section_at}

-- The count of the section of l stands at the place l, its entries after it, up to the place l + 1; there are n sections, an even number.
pub record Placed (lists : List ℕ) (n : ℕ) (place : List ℕ) : Type 0 where
  pub few : n ≤ 8192
  pub even : n % 2 ≡ 0
  pub size : length place ≡ 8193
  pub rises : (l : ℕ) → l < n → get_or place l 0 < get_or place (l + 1) 0
  pub within : (l : ℕ) → l < n → get_or place (l + 1) 0 ≤ length lists
  pub section : (l : ℕ) → l < n → section_at (sections_of n lists) l ≡ part (get_or place l 0 + 1) (get_or place (l + 1) 0) lists

-- every entry is the code of a section
pub record Inside (lists : List ℕ) (n : ℕ) : Type 0 where
  pub entry : (l i : ℕ) → i < length (section_at (sections_of n lists) l) → get_or (section_at (sections_of n lists) l) i 0 < n
