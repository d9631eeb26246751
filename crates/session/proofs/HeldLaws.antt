-- The function that computes a holder says what document 01's sentence says: the latest S grant of s was to g, and no S(g,-) came later.
use Prim.Native.Nat.{ℕ, ◌+◌}
use mathlib.Core.Path.{◌≡◌, refl}
use mathlib.Core.Logic.{◌↔◌}
use mathlib.Core.Bool.{Bool, true, false, not, ◌&&◌, false≢true}
use mathlib.Core.List.{List, [], ◌∷◌}
use native.Mathlib.Omega.{arith}
use borrow.Author.Tests.{eq-eqb, eqb-true}
use Rattle.base.specs.Choice.{pick}
use Rattle.base.specs.Bounded.{any_of}
use Rattle.base.proofs.MemberLaws.{or_second}
use Rattle.scope.specs.Notes.{Note, user+, user-, solver+, solver-, deletes, changes, grants, withdraws, Held, latest, older, global_of, held_by}

-- who holds s was granted it
held_granted : {s g : ℕ} {ns : List Note} → Held s g ns → any_of (grants s) ns ≡ true
unfolding any_of
held_granted {s} {g} (latest {ns = ns} a b) = rw (eq-eqb s s refl)
held_granted {s} {g} (older {n = n} {ns = ns} h) = or_second (grants s n) (any_of (grants s) ns) (held_granted h)

computed : {s g : ℕ} {ns : List Note} → Held s g ns → held_by ns s ≡ g + 1
unfolding held_by
computed {s} {g} (latest {ns = ns} a b) = rw (eq-eqb s s refl, a, b)
computed {s} {g} (older {n = n} {ns = ns} h) = rw (held_granted h) (skip (grants s n) (computed h))
  where
    skip : (b : Bool) → held_by ns s ≡ g + 1 → pick (b && (not true && not (any_of (withdraws (global_of n)) ns))) (global_of n + 1) (held_by ns s) ≡ g + 1
    skip true q = q
    skip false q = q

-- a note that grants s is S(global_of n, s)
at_grant : (s : ℕ) (n : Note) (ns : List Note) → grants s n ≡ true → any_of (grants s) ns ≡ false → any_of (withdraws (global_of n)) ns ≡ false
    → Held s (global_of n) (n ∷ ns)
at_grant s (user+ g u) ns h a b = absurd (false≢true h)
at_grant s (user- g) ns h a b = absurd (false≢true h)
at_grant s (solver+ g k) ns h a b = rw (eqb-true k s h) (latest a b)
at_grant s (solver- g) ns h a b = absurd (false≢true h)
at_grant s (deletes g) ns h a b = absurd (false≢true h)
at_grant s (changes g sample) ns h a b = absurd (false≢true h)

related : (s g : ℕ) (ns : List Note) → held_by ns s ≡ g + 1 → Held s g ns
unfolding held_by
related s g [] e = absurd (omega arith)
related s g (n ∷ ns) e = go (grants s n) (any_of (grants s) ns) (any_of (withdraws (global_of n)) ns) refl refl refl e (λ q. related s g ns q)
  where
    go : (a b c : Bool) → grants s n ≡ a → any_of (grants s) ns ≡ b → any_of (withdraws (global_of n)) ns ≡ c
        → pick (a && (not b && not c)) (global_of n + 1) (held_by ns s) ≡ g + 1 → (held_by ns s ≡ g + 1 → Held s g ns) → Held s g (n ∷ ns)
    go true false false p q r e f = let x : global_of n ≡ g = omega arith in rw (← x) (at_grant s n ns p q r)
    go true false true p q r e f = older (f e)
    go true true c p q r e f = older (f e)
    go false b c p q r e f = older (f e)

pub held_says : (s g : ℕ) (ns : List Note) → Held s g ns ↔ (held_by ns s ≡ g + 1)
held_says s g ns = (computed, related s g ns)
