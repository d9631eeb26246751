-- What Lookup says of a sound table: the words of its lists, and nothing at or beyond a watermark.
use Prim.Native.Nat.{ℕ, zero, suc, ◌+◌, ◌-◌, ◌≤◌, ◌<◌}
use mathlib.Core.Path.{◌≡◌, refl, sym, ap, ◌∙◌, subst}
use mathlib.Core.Bool.{Bool, true, false, not}
use mathlib.Core.Logic.{◌↔◌, ◌≢◌}
use mathlib.Core.List.{List, [], ◌∷◌}
use native.Mathlib.Omega.{arith}
use lib.Dec.{ltb}
use lib.ListN.{get_or}
use borrow.Author.Tests.{ltb-true, ltb-false, lt-ltb}
use Rattle.base.specs.Choice.{pick}
use Rattle.base.specs.Answer.{accepted, number_of, values_of}
use Rattle.scope.specs.Table.{Table, word, record_of}
use Rattle.scope.specs.Sound.{soundb, Shown, Sound}
use Rattle.scope.specs.Outcome.{unless, telling}
use Rattle.scope.specs.Lookup.{found, lookup_of, global_from_user_of, user_from_global_of, solver_from_global_of, global_from_solver_of, record_word_of}
use Rattle.scope.proofs.SoundLaws.{sound_of, sound_to}
use Rattle.scope.proofs.MoveLaws.{undeleted_below}
use Rattle.scope.proofs.ResultLaws.{word_some}
use Rattle.session.specs.Session.{Says, HasUser, IsShown}

-- what is looked up is answered
answered : (t : Table) (vs : List ℕ) → Sound t → (lookup_of t vs).answer ≡ accepted vs
unfolding lookup_of unless
answered t vs p = rw (sound_to t p)

said : (t : Table) (vs ws : List ℕ) → Sound t → ((lookup_of t vs).answer ≡ accepted ws) ↔ (vs ≡ ws)
said t vs ws p = (λ e. ap values_of (sym (answered t vs p) ∙ e), λ e. answered t vs p ∙ ap accepted e)

-- a map's word, which is 0 from the watermark up
abbrev head_of : List ℕ → ℕ
head_of [] = 0
head_of (x ∷ xs) = x + 1

found_says : (xs : List ℕ) (mark i j : ℕ) → ((k : ℕ) → mark ≤ k → get_or xs k 0 ≡ 0) → (found xs mark i ≡ j ∷ []) ↔ (get_or xs i 0 ≡ j + 1)
unfolding found word
found_says xs mark i j tail = (λ e. to (ltb i mark) (get_or xs i 0) e, λ e. from e)
  where
    to : (b : Bool) (w : ℕ) → pick b (word [] (λ k. k ∷ []) w) [] ≡ j ∷ [] → w ≡ j + 1
    to true zero e = absurd (let x : 0 ≡ j + 1 = ap head_of e in omega arith)
    to true (suc w) e = let x : w + 1 ≡ j + 1 = ap head_of e in omega arith
    to false w e = absurd (let x : 0 ≡ j + 1 = ap head_of e in omega arith)

    below : (b : Bool) → ltb i mark ≡ b → get_or xs i 0 ≡ j + 1 → b ≡ true
    below true q e = refl
    below false q e = absurd (let z = tail i (ltb-false i mark q) in omega arith)

    from : get_or xs i 0 ≡ j + 1 → pick (ltb i mark) (word [] (λ k. k ∷ []) (get_or xs i 0)) [] ≡ j ∷ []
    from e = rw (below (ltb i mark) refl e) (word_some [] (λ k. k ∷ []) (get_or xs i 0) j e)

says : (t : Table) (xs : List ℕ) (mark i j : ℕ) → Sound t → ((k : ℕ) → mark ≤ k → get_or xs k 0 ≡ 0)
    → ((lookup_of t (found xs mark i)).answer ≡ accepted (j ∷ [])) ↔ (get_or xs i 0 ≡ j + 1)
says t xs mark i j p tail =
    let a = said t (found xs mark i) (j ∷ []) p in
    let b = found_says xs mark i j tail in
    (λ e. b.0 (a.0 e), λ e. a.1 (b.1 e))

pub says_global : (t : Table) (u g : ℕ) → Sound t → Says global_from_user_of t u g ↔ (get_or t.global_from_user u 0 ≡ g + 1)
unfolding global_from_user_of
says_global t u g p = says t t.global_from_user t.counts.user u g p p.user.atail

pub says_user : (t : Table) (g u : ℕ) → Sound t → Says user_from_global_of t g u ↔ (get_or t.user_from_global g 0 ≡ u + 1)
unfolding user_from_global_of
says_user t g u p = says t t.user_from_global t.counts.global g u p p.user.btail

pub says_solver : (t : Table) (g s : ℕ) → Sound t → Says solver_from_global_of t g s ↔ (get_or t.solver_from_global g 0 ≡ s + 1)
unfolding solver_from_global_of
says_solver t g s p = says t t.solver_from_global t.counts.global g s p p.solver.btail

pub says_holder : (t : Table) (s g : ℕ) → Sound t → Says global_from_solver_of t s g ↔ (get_or t.global_from_solver s 0 ≡ g + 1)
unfolding global_from_solver_of
says_holder t s g p = says t t.global_from_solver t.counts.solver s g p p.solver.atail

pub has_user : (t : Table) (g : ℕ) → Sound t → HasUser t g ↔ (get_or t.user_from_global g 0 ≢ 0)
has_user t g p = (
  λ h z. let e = (says_user t g h.0 p).0 h.1 in omega arith,
  λ n. (get_or t.user_from_global g 0 - 1, (says_user t g (get_or t.user_from_global g 0 - 1) p).1 (omega arith)),
)

-- a record's word, below the watermark
pub says_record : (t : Table) (g r : ℕ) → Sound t → Says record_word_of t g r ↔ ((g < t.counts.global) × (record_of t g ≡ r))
unfolding record_word_of
says_record t g r p = (
  λ e. to (ltb g t.counts.global) refl ((said t _ (r ∷ []) p).0 e),
  λ h. (said t _ (r ∷ []) p).1 (rw (lt-ltb g t.counts.global h.0) (ap (λ (w : ℕ). w ∷ []) h.1)),
)
  where
    to : (b : Bool) → ltb g t.counts.global ≡ b → pick b (record_of t g ∷ []) [] ≡ r ∷ [] → (g < t.counts.global) × (record_of t g ≡ r)
    to true q e = (ltb-true g t.counts.global q, let y : record_of t g + 1 ≡ r + 1 = ap head_of e in omega arith)
    to false q e = absurd (let x : 0 ≡ r + 1 = ap head_of e in omega arith)

-- what is shown is below it
pub is_shown_lem : (t : Table) (g : ℕ) → Sound t → IsShown t g ↔ Shown (record_of t g)
is_shown_lem t g p = (
  λ h. subst Shown (sym ((says_record t g h.0 p).0 h.1).1) h.2,
  λ h. (record_of t g, (says_record t g (record_of t g) p).1 (undeleted_below t g p h.0, refl), h),
)

-- a Lookup is answered on a sound table only
pub says_sound : (t : Table) (s g : ℕ) → Says global_from_solver_of t s g → Sound t
unfolding global_from_solver_of lookup_of unless
says_sound t s g e = go (soundb t) refl e
  where
    go : (b : Bool) → soundb t ≡ b
        → (unless (pick (not b) 1 0) t (telling (found t.global_from_solver t.counts.solver s) t)).answer ≡ accepted (g ∷ []) → Sound t
    go true q h = sound_of t q
    go false q h = absurd (let x : 1 ≡ 0 = ap number_of h in omega arith)
