-- Answers and outcomes told in numbers.
use Prim.Native.Nat.{ℕ}
use mathlib.Core.Path.{◌≡◌, refl, ap, sym, subst, ◌∙◌}
use mathlib.Core.Logic.{◌≢◌}
use mathlib.Core.List.{List, [], ◌∷◌}
use native.Mathlib.Omega.{arith}
use lib.ListN.{length}
use lib.Seq.{sets}
use Rattle.base.specs.Answer.{Answer, refused}
use Rattle.scope.specs.declared.Counts.{Counts}
use Rattle.scope.specs.Table.{Table, table_of}
use Rattle.scope.specs.Notes.{notes_words}
use Rattle.scope.specs.Outcome.{Outcome, refusal}
use Rattle.scope.specs.Contract.{Said, Does}
use Rattle.drat.specs.Filled.{first}
use Rattle.numbers.specs.Surface.{placed, Given}
use Rattle.numbers.specs.Flat.{Numbered}

-- an answer, by what it is
pub numbered_by : {said said' : Said} {layout : Answer → List ℕ} {ns : List ℕ} {d : Counts} → said ≡ said' → ns ≡ layout said'.answer → d ≡ said'.counts
    → Numbered said layout ns d
numbered_by {layout = layout} e n h =
    record { fields = n ∙ sym (ap (λ (s : Said). layout s.answer) e); counts = h ∙ sym (ap (λ (s : Said). s.counts) e) }

-- What a call does, with its answer told in numbers.
pub numbered_given : {o : Outcome} {said : Said} {layout : Answer → List ℕ} {ns : List ℕ} {d : Counts} {gu ug sg gs a r words words' : List ℕ}
    → Does o said (table_of said.counts gu ug sg gs a r) words words' → Numbered said layout ns d → Given o layout ns (table_of d gu ug sg gs a r) words words'
numbered_given {layout = layout} {gu = gu} {ug = ug} {sg = sg} {gs = gs} {a = a} {r = r} does told =
    record {
      fields = told.fields ∙ ap layout does.answer;
      table = ap (λ (c : Counts). table_of c gu ug sg gs a r) told.counts ∙ does.table;
      noted = does.noted;
    }

-- The same of a call whose answer has no counts of its own.
pub numbered_left : {o : Outcome} {said : Said} {layout : Answer → List ℕ} {ns : List ℕ} {d : Counts} {left : Table} {words words' : List ℕ}
    → Does o said left words words' → Numbered said layout ns d → Given o layout ns left words words'
numbered_left {layout = layout} does told = record { fields = told.fields ∙ ap layout does.answer; table = does.table; noted = does.noted }

-- nothing is done
pub refused_given : {n : ℕ} {layout : Answer → List ℕ} {ns : List ℕ} {t : Table} {words : List ℕ} → ns ≡ layout (refused n [])
    → Given (refusal n t) layout ns t words words
unfolding notes_words
refused_given e = record { fields = e; table = refl; noted = refl }

-- the same outcome, told in numbers
pub same_given : {o o' : Outcome} {layout : Answer → List ℕ} {ns : List ℕ} {left : Table} {words words' : List ℕ} → o' ≡ o → Given o layout ns left words words'
    → Given o' layout ns left words words'
same_given {layout = layout} {ns = ns} {left = left} {words = words} {words' = words'} e g =
    subst (λ (o : Outcome). Given o layout ns left words words') (sym e) g

-- a call that is a refusal and is lent no words for notes
pub quiet_refused : {o : Outcome} {n : ℕ} {layout : Answer → List ℕ} {ns : List ℕ} {t : Table} → o ≡ refusal n t → ns ≡ layout (refused n [])
    → Given o layout ns t [] []
quiet_refused e h = same_given e (refused_given h)

-- another word for the first value
pub second_same : {k n m : ℕ} {ns : List ℕ} → n ≡ m → k ∷ n ∷ ns ≡ k ∷ m ∷ ns
second_same {k = k} {ns = ns} e = ap (λ (v : ℕ). k ∷ v ∷ ns) e

-- an empty part, and any other
pub no_part : (i : ℕ) (l : List ℕ) → length l ≡ 0 → 13 ∷ i ∷ 0 ∷ [] ≡ placed i (first i l)
no_part i [] h = refl
no_part i (b ∷ l) h = absurd (let z : ◌≡◌ {A = ℕ} 0 1 = cc in omega arith)

pub some_part : (i : ℕ) (l : List ℕ) → length l ≢ 0 → 0 ∷ i ∷ length l ∷ [] ≡ placed i (first i l)
some_part i [] n = absurd (n refl)
some_part i (b ∷ l) n = refl

-- what is filled, by another name
pub filled_same : (before : List ℕ) (at : ℕ) {xs ys after : List ℕ} → ys ≡ xs → after ≡ sets before at xs → after ≡ sets before at ys
filled_same before at e h = h ∙ ap (sets before at) (sym e)
