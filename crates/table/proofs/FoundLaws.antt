-- What a lookup's answer says of the word: for `Some g` the word is g + 1, for `None` it is 0; refusal 8 by what it answers, and what refusal 8 says of the word.
use Rattle.std.specs.Prelude.{Option, Some, None}
use Prim.Native.Nat.{ℕ, zero, suc, ◌+◌}
use mathlib.Core.Path.{◌≡◌, refl, sym, ap, ◌∙◌}
use mathlib.Core.Logic.{◌≢◌}
use mathlib.Core.Bool.{Bool}
use mathlib.Core.List.{List}
use native.Mathlib.Omega.{arith}
use lib.Dec.{eqb}
use lib.ListN.{get_or}
use borrow.Author.Tests.{ne_eqb}
use Rattle.base.specs.Choice.{pick}
use Rattle.scope.specs.declared.Global.{Global}
use Rattle.scope.specs.declared.Refusal.{Refusal}
use Rattle.scope.specs.declared.Refusal.TheVariants.{NotHeld}
use Rattle.scope.specs.declared.Solver.{Solver}
use Rattle.scope.specs.declared.User.{User}
use Rattle.scope.specs.Table.{Table}
use Rattle.scope.specs.Marks.{not_held, held_else}
use Rattle.scope.specs.Refusals.{number}
use Rattle.scope.proofs.RefusedLaws.{number_not_0, refusal_at, refusal_back}
use Rattle.scope.proofs.WordLaws.{word_read}
use Rattle.table.specs.Found.{found_user, found_global, found_solver}

-- ---- the word of an answer

abbrev pub user_word : Option User → ℕ
user_word (Some u) = u.0 + 1
user_word None = 0

abbrev pub global_word : Option Global → ℕ
global_word (Some g) = g.0 + 1
global_word None = 0

abbrev pub solver_word : Option Solver → ℕ
solver_word (Some s) = s.0 + 1
solver_word None = 0

pub user_word_lem : (w : ℕ) (f : Option User) → f ≡ found_user w → w ≡ user_word f
user_word_lem = word_read user_word _ _ refl (λ i. refl)

pub global_word_lem : (w : ℕ) (f : Option Global) → f ≡ found_global w → w ≡ global_word f
global_word_lem = word_read global_word _ _ refl (λ i. refl)

pub solver_word_lem : (w : ℕ) (f : Option Solver) → f ≡ found_solver w → w ≡ solver_word f
solver_word_lem = word_read solver_word _ _ refl (λ i. refl)

-- ---- refusal 8

pub unheld_8 : (t : Table) (gs : List ℕ) (s : ℕ) → t.global_from_solver ≡ gs → None ≡ found_global (get_or gs s 0) → 8 ≡ held_else t s 0
unfolding held_else not_held
unheld_8 t gs s e q = rw (e, global_word_lem (get_or gs s 0) None q)

pub held_0 : (t : Table) (gs : List ℕ) (s : ℕ) (g : Global) → t.global_from_solver ≡ gs → Some g ≡ found_global (get_or gs s 0) → 0 ≡ held_else t s 0
unfolding held_else not_held
held_0 t gs s g e q = let w = global_word_lem (get_or gs s 0) (Some g) q in rw (e, ne_eqb (get_or gs s 0) 0 (λ z. omega arith))

pub held_err : (t : Table) (s : ℕ) (r : Refusal) → number r ≡ held_else t s 0 → (r ≡ NotHeld) × (get_or t.global_from_solver s 0 ≡ 0)
unfolding held_else not_held
held_err t s r = go (get_or t.global_from_solver s 0)
  where
    go : (w : ℕ) → number r ≡ pick (eqb w 0) 8 0 → (r ≡ NotHeld) × (w ≡ 0)
    go zero e = (sym (refusal_back r) ∙ ap refusal_at e, refl)
    go (suc w) e = absurd (number_not_0 r (e ∙ ap (λ (b : Bool). pick b 8 0) (ne_eqb (suc w) 0 (λ z. omega arith))))

pub held_ok : (t : Table) (s : ℕ) → 0 ≡ held_else t s 0 → get_or t.global_from_solver s 0 ≢ 0
unfolding held_else not_held
held_ok t s e z =
    let q : ◌≡◌ {A = ℕ} 0 8 = e ∙ ap (λ (w : ℕ). pick (eqb w 0) 8 0) z in
    omega arith
