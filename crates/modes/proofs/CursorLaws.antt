-- The cursor of the user indices: the index found is mapped, and the cursor goes past it.
use Prim.Native.Nat.{ℕ, ◌+◌, ◌<◌, max}
use mathlib.Core.Path.{◌≡◌}
use mathlib.Core.List.{List}
use lib.ListN.{length, set}
use Rattle.scope.specs.Table.{least_free}
use Rattle.scope.specs.Cursor.{AllMapped}
use Rattle.scope.proofs.CursorLaws.{free_mapped}
use Rattle.scope.proofs.StoredLaws.{given_from}

pub mapped_more : (xs : List ℕ) (mark u v : ℕ) → u ≡ least_free xs mark → u < length xs → AllMapped (set xs u (v + 1)) (max mark (u + 1)) (u + 1)
mapped_more xs mark u v e l = given_from xs mark u v l (free_mapped xs mark u e)
