-- When a call is done at once, and when it is not.
use Prim.Native.Nat.{ℕ, zero, suc}
use mathlib.Core.Path.{◌≡◌, refl, sym, ap, ◌∙◌, subst}
use mathlib.Core.List.{List, [], ◌∷◌, ◌++◌}
use native.Mathlib.Omega.{arith}
use lib.ListN.{length}
use Rattle.base.specs.Answer.{Answer, accepted}
use Rattle.scope.specs.Table.{Table}
use Rattle.scope.specs.Notes.{notes_words}
use Rattle.scope.specs.Outcome.{Result, Outcome, stay, unless, noting}
use Rattle.scope.specs.Contract.{Does}
use Rattle.scope.proofs.ResultLaws.{unless_none, unless_some}
use Rattle.changes.specs.AtOnce.{value_at_once, at_once, AtOnce}

-- Where the call is accepted with no note, its value is said: nothing is said only of a call that is refused or makes a note.
pub at_once_says : {call : ℕ → Outcome} {t : Table} {vs : List ℕ} → AtOnce call t vs → (room v : ℕ) → (call room).answer ≡ accepted (v ∷ 0 ∷ [])
    → vs ≡ v ∷ []
at_once_says h room v e = h.value room ∙ ap (λ (a : Answer). value_at_once a) e

-- a call whose operation answers one index
abbrev called : (ℕ → ℕ) → Table → Result ℕ → ℕ → Outcome
called refusing t x room = unless (refusing room) t (noting (λ v. v ∷ []) x)

stay_does : (t : Table) (v w : ℕ) (words : List ℕ) → v ∷ [] ≡ w ∷ []
    → Does (noting (λ v. v ∷ []) (stay v t)) (record { answer = accepted (w ∷ 0 ∷ []); counts = t.counts }) t words words
unfolding notes_words
stay_does t v w words q = record { answer = ap (λ (l : List ℕ). accepted (l ++ (0 ∷ []))) (sym q); table = refl; noted = refl }

-- It is never refused, and there is nothing to do.
pub at_once_found : (refusing : ℕ → ℕ) (t : Table) (x : Result ℕ) (v : ℕ) → ((room : ℕ) → refusing room ≡ 0) → x ≡ stay v t
    → AtOnce (called refusing t x) t (v ∷ [])
at_once_found refusing t x v e k =
    let o : (room : ℕ) → noting (λ v. v ∷ []) (stay v t) ≡ called refusing t x room
    = λ room. sym (unless_none (refusing room) t _ (e room) ∙ ap (λ (y : Result ℕ). noting (λ v. v ∷ []) y) k) in
    record {
      value = λ room. ap (λ (y : Outcome). at_once y) (o room);
      stays = λ w q words.
          subst (λ (y : Outcome). Does y (record { answer = accepted (w ∷ 0 ∷ []); counts = t.counts }) t words words) (o (length words))
          (stay_does t v w words q);
    }

nothing_found : (call : ℕ → Outcome) (t : Table) → ((room : ℕ) → [] ≡ at_once (call room)) → AtOnce call t []
nothing_found call t h = record { value = h; stays = λ w q words. absurd (let n = ap length q in omega arith) }

none_said : (n m k : ℕ) (t : Table) (x : Result ℕ) → m ≡ suc k
    → [] ≡ at_once (unless n t (record { answer = accepted (x.value ∷ m ∷ []); table = x.table; notes = x.notes; words = []; more = []; bytes = [] }))
unfolding unless
none_said zero m k t x h = rw h
none_said (suc n) m k t x h = refl

-- It makes a note, or is refused.
pub at_once_noted : (refusing : ℕ → ℕ) (t : Table) (x : Result ℕ) (k : ℕ) → length x.notes ≡ suc k → AtOnce (called refusing t x) t []
at_once_noted refusing t x k e = nothing_found _ t (λ room. none_said (refusing room) (length x.notes) k t x e)

-- It is refused.
pub at_once_refused : (refusing : ℕ → ℕ) (t : Table) (x : Result ℕ) → ((room : ℕ) → refusing room ≡ 0 → ⊥) → AtOnce (called refusing t x) t []
at_once_refused refusing t x h =
    nothing_found _ t (λ room. sym (ap (λ (y : Outcome). at_once y) (unless_some (refusing room) (refusing room) t _ refl (h room))))
