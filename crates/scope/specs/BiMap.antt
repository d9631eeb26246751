-- Insertion into a map pair (document 01, `VarBiMapMut`): the counts are lent, it advances watermarks, and the two stored numbers pass through.
use Rattle.std.specs.Prelude.{ℕ, ◌+◌, ◌≤◌, ◌≡◌, ◌&&◌, List, eqb, ltb, length, get_or, set}
use Rattle.base.specs.Choice.{pick}
use Rattle.scope.specs.declared.Counts.{Counts}
use Rattle.scope.specs.declared.Name.{Name}
use Rattle.scope.specs.declared.Name.TheVariants.{User, Solver}
use Rattle.scope.specs.Table.{cover_user, cover_solver}

-- the index of a name that is not global
abbrev pub index_in : Name → ℕ
index_in (User u) = u.0
index_in (Solver s) = s.0

-- the watermark of its map
abbrev pub watermark_of : Name → Counts → ℕ
watermark_of (User u) c = c.user
watermark_of (Solver s) c = c.solver

-- the counts that cover it and its global
abbrev pub cover_name : Name → Counts → ℕ → Counts
cover_name (User u) c g = cover_user c u.0 g
cover_name (Solver s) c g = cover_solver c s.0 g

-- 3 where an index is at or above the capacity, or past its map; 0 for none
unfoldable pub insert_refusal : Counts → List ℕ → List ℕ → ℕ → ℕ → ℕ
insert_refusal c fwd bwd i g = pick (ltb i c.capacity && ltb g c.capacity && ltb i (length fwd) && ltb g (length bwd)) 0 3

-- The refusal k, the counts r and the maps f and b that an insertion of the name n for the global g leaves. A refusal leaves all as it was.
pub record Inserts (c : Counts) (fwd bwd : List ℕ) (n : Name) (g k : ℕ) (r : Counts) (f b : List ℕ) : Type 0 where
  pub refusal : k ≡ insert_refusal c fwd bwd (index_in n) g
  pub counts : r ≡ pick (eqb k 0) (cover_name n c g) c
  pub forward : f ≡ pick (eqb k 0) (set fwd (index_in n) (g + 1)) fwd
  pub backward : b ≡ pick (eqb k 0) (set bwd g (index_in n + 1)) bwd

-- Both maps of a pair are empty from their watermarks up, and the watermarks are at most the capacity.
pub record Covered (n : Name) (c : Counts) (fwd bwd : List ℕ) : Type 0 where
  pub forward : (i : ℕ) → watermark_of n c ≤ i → get_or fwd i 0 ≡ 0
  pub backward : (g : ℕ) → c.global ≤ g → get_or bwd g 0 ≡ 0
  pub mark : watermark_of n c ≤ c.capacity
  pub global : c.global ≤ c.capacity
