-- Laws by which Open is what crates/scope/specs/Open.antt says.
use Prim.Native.Nat.{ℕ}
use mathlib.Core.Path.{◌≡◌, ap, ◌∙◌}
use mathlib.Core.Bool.{Bool, true, false}
use mathlib.Core.List.{List, []}
use native.Mathlib.Omega.{arith}
use lib.ListN.{length, replicate}
use Rattle.base.proofs.Truth.{truth}
use Rattle.base.specs.Answer.{accepted, refused}
use Rattle.table.proofs.CheckLaws.{yes_of, no_of}
use Rattle.scope.specs.declared.Counts.{Counts}
use Rattle.scope.specs.Table.{Table, table_of}
use Rattle.scope.specs.Sound.{sizesb}
use Rattle.scope.specs.Notes.{notes_words}
use Rattle.scope.specs.Outcome.{unless}
use Rattle.scope.specs.Contract.{Does}
use Rattle.scope.specs.Open.{open_counts, empty_table, open_of}

-- ---- the call

pub refused_10 : (t : Table) (c : Counts) (b : Bool) → b ≡ sizesb t → b ≡ false
    → Does (open_of t) (record { answer = refused 10 []; counts = c }) t [] []
unfolding open_of unless notes_words
refused_10 t c b e n =
    let k : sizesb t ≡ false = no_of e n in
    record { answer = rw k; table = rw k; noted = rw k }

-- lists that have their lengths, each filled with one value, are the empty table
filled_with : (n m v : ℕ) (xs : List ℕ) → xs ≡ replicate m v → m ≡ n → xs ≡ replicate n v
filled_with n m v xs e q = e ∙ ap (λ (k : ℕ). replicate k v) q

open_lengths : (n : ℕ) (gu ug sg gs a r : List ℕ) → sizesb (table_of (open_counts n) gu ug sg gs a r) ≡ true
    → (length gu ≡ n) × (length ug ≡ n) × (length sg ≡ n) × (length gs ≡ n) × (length a ≡ n) × (length r ≡ n)
unfolding sizesb
open_lengths n gu ug sg gs a r h = let k = simp truth at h in (omega arith, omega arith, omega arith, omega arith, omega arith, omega arith)

pub opened_empty : (n : ℕ) (gu ug sg gs a r gu' ug' sg' gs' a' r' : List ℕ) (b : Bool)
    → b ≡ sizesb (table_of (open_counts n) gu ug sg gs a r) → b ≡ true
    → gu' ≡ replicate (length gu) 0 → ug' ≡ replicate (length ug) 0 → sg' ≡ replicate (length sg) 0
    → gs' ≡ replicate (length gs) 0 → a' ≡ replicate (length a) 0 → r' ≡ replicate (length r) 47
    → Does (open_of (table_of (open_counts n) gu ug sg gs a r)) (record { answer = accepted []; counts = open_counts n })
    (table_of (open_counts n) gu' ug' sg' gs' a' r') [] []
unfolding open_of unless notes_words empty_table
opened_empty n gu ug sg gs a r gu' ug' sg' gs' a' r' b e y p1 p2 p3 p4 p5 p6 =
    let k : sizesb (table_of (open_counts n) gu ug sg gs a r) ≡ true = yes_of e y in
    let z = open_lengths n gu ug sg gs a r k in
    record {
      answer = rw k;
      table = rw k (λ i. table_of (open_counts n)
          (filled_with n (length gu) 0 gu' p1 z.0 i)
          (filled_with n (length ug) 0 ug' p2 z.1 i)
          (filled_with n (length sg) 0 sg' p3 z.2 i)
          (filled_with n (length gs) 0 gs' p4 z.3 i)
          (filled_with n (length a) 0 a' p5 z.4 i)
          (filled_with n (length r) 47 r' p6 z.5 i));
      noted = rw k;
    }
