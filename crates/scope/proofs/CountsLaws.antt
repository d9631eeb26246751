-- The counts after a single change, field by field.
use Prim.Native.Nat.{ℕ, ◌+◌, max}
use mathlib.Core.Path.{◌≡◌, sym, ap, ◌∙◌}
use native.Mathlib.Omega.{arith}
use Rattle.scope.specs.declared.Counts.{Counts}
use Rattle.scope.specs.declared.User.{User as UserIndex}
use Rattle.scope.specs.declared.Solver.{Solver as SolverIndex}
use Rattle.scope.specs.declared.Name.{Name}
use Rattle.scope.specs.declared.Name.TheVariants.{User, Solver}
use Rattle.scope.specs.Table.{cover_user, cover_solver}
use Rattle.scope.specs.BiMap.{cover_name}

pub cover_solver_is : (c : Counts) (s g a b : ℕ) → a ≡ max c.solver (s + 1) → b ≡ max c.global (g + 1)
    → ◌≡◌ {A = Counts} (record { capacity = c.capacity; user = c.user; global = b; solver = a; used = c.used; next = c.next }) (cover_solver c s g)
cover_solver_is c s g a b p q = λ i. record { capacity = c.capacity; user = c.user; global = q i; solver = p i; used = c.used; next = c.next }

pub cover_user_is : (c : Counts) (u g a b : ℕ) → a ≡ max c.user (u + 1) → b ≡ max c.global (g + 1)
    → ◌≡◌ {A = Counts} (record { capacity = c.capacity; user = a; global = b; solver = c.solver; used = c.used; next = c.next }) (cover_user c u g)
cover_user_is c u g a b p q = λ i. record { capacity = c.capacity; user = p i; global = q i; solver = c.solver; used = c.used; next = c.next }

-- what covers a name covers the user, or the solver index, that it is
pub user_covered : (c : Counts) (u : UserIndex) (g : ℕ) → cover_name (User u) c g ≡ cover_user c u.0 g
user_covered c u g =
    let a : (cover_name (User u) c g).user ≡ max c.user (u.0 + 1) = omega arith in
    let b : (cover_name (User u) c g).global ≡ max c.global (g + 1) = omega arith in
    λ i. record { capacity = c.capacity; user = a i; global = b i; solver = c.solver; used = c.used; next = c.next }

pub solver_covered : (c : Counts) (s : SolverIndex) (g : ℕ) → cover_name (Solver s) c g ≡ cover_solver c s.0 g
solver_covered c s g =
    let a : (cover_name (Solver s) c g).solver ≡ max c.solver (s.0 + 1) = omega arith in
    let b : (cover_name (Solver s) c g).global ≡ max c.global (g + 1) = omega arith in
    λ i. record { capacity = c.capacity; user = c.user; global = b i; solver = a i; used = c.used; next = c.next }

pub cover_name_user : (c r : Counts) (n : Name) (u : UserIndex) (g : ℕ) → n ≡ User u → r ≡ cover_user c u.0 g → r ≡ cover_name n c g
cover_name_user c r n u g e q = q ∙ sym (ap (λ (m : Name). cover_name m c g) e ∙ user_covered c u g)

pub cover_name_solver : (c r : Counts) (n : Name) (s : SolverIndex) (g : ℕ) → n ≡ Solver s → r ≡ cover_solver c s.0 g → r ≡ cover_name n c g
cover_name_solver c r n s g e q = q ∙ sym (ap (λ (m : Name). cover_name m c g) e ∙ solver_covered c s g)
