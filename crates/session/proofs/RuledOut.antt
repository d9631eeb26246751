-- What demand 3 rules out. Where an accepted call has a clause with a solver literal that nobody holds by the notes so far, there is no list of
-- steps as which the ledger's lines enter, and the claim is false, whatever the bytes are and whatever comes later. So it is where the bytes
-- are of other steps than the ledger's.
use Prim.Native.Nat.{ℕ, ◌+◌, ◌*◌, ◌/◌}
use mathlib.Core.Path.{◌≡◌, refl, sym, ap, ◌∙◌, subst}
use mathlib.Core.Bool.{Bool, true, true≢false}
use mathlib.Core.Logic.{◌≢◌}
use mathlib.Core.List.{List, [], ◌∷◌, ◌++◌, map, append_assoc, append-nil}
use native.Mathlib.Omega.{arith}
use Rattle.base.specs.Answer.{Answer, accepted, refused}
use Rattle.drat.specs.Grammar.{Step, Spells, Valid, encode}
use Rattle.drat.specs.declared.Format.{Format}
use Rattle.drat.specs.declared.Kind.{Kind}
use Rattle.drat.specs.declared.Kind.TheVariants.{Add, Delete}
use Rattle.drat.proofs.Written.{encode_spells}
use Rattle.scope.specs.declared.ProofStep.TheVariants.{AtClause, UnitClauses, DeleteClause}
use Rattle.scope.specs.declared.DeleteClauseProof.{DeleteClauseProof}
use Rattle.scope.specs.declared.Simplified.{Simplified}
use Rattle.scope.specs.declared.Simplified.TheVariants.{Kept, Dropped, Shortened, Binary}
use Rattle.scope.specs.Simplify.{simplified_number}
use Rattle.scope.specs.Notes.{Note, Held}
use Rattle.scope.specs.Outcome.{Outcome}
use Rattle.scope.specs.Calls.{Call, simplify, write}
use Rattle.session.specs.Ledger.{notes_of, Line, line, EntersLit, plus, minus, given, Pairwise, cons, Enters}
use Rattle.session.specs.Entered.{entries_of, lines_of}
use Rattle.session.specs.Session.{Turn, turn_does, State, enter, after_turn, run, Holds}
use Rattle.session.proofs.EnterLaws.{enters_once}

-- ---- a literal that nobody holds

abbrev pub Nobody : ℕ → List Note → Type 0
Nobody s notes = (g : ℕ) → Held s g notes → ⊥

no_lit : {notes : List Note} {b : Bool} {c d : ℕ} → EntersLit notes b c d → b ≡ true → Nobody (c / 2) notes → ⊥
no_lit {notes} (plus {s = s} {g = g} h) q n = let i : 2 * s / 2 ≡ s = omega arith in n g (subst (λ (k : ℕ). Held k g notes) (sym i) h)
no_lit {notes} (minus {s = s} {g = g} h) q n = let i : (2 * s + 1) / 2 ≡ s = omega arith in n g (subst (λ (k : ℕ). Held k g notes) (sym i) h)
no_lit given q n = absurd (true≢false (sym q))

no_lits : (notes : List Note) (bs cs : List ℕ) (c : ℕ) {ds : List ℕ} → Nobody (c / 2) notes → Pairwise (EntersLit notes true) (bs ++ c ∷ cs) ds → ⊥
no_lits notes [] cs c n (cons x xs) = no_lit x refl n
no_lits notes (b ∷ bs) cs c n (cons x xs) = no_lits notes bs cs c n xs

no_line : (ls ms : List Line) (kind : Kind) (notes : List Note) (bs cs : List ℕ) (c : ℕ) {ss : List Step} → Nobody (c / 2) notes
    → Enters (ls ++ line kind true (bs ++ c ∷ cs) notes ∷ ms) ss → ⊥
no_line [] ms kind notes bs cs c n (cons x xs) = no_lits notes bs cs c n x.lits
no_line (l ∷ ls) ms kind notes bs cs c n (cons x xs) = no_line ls ms kind notes bs cs c n xs

-- Some clause is entered with such a literal: whatever the bytes are.
pub unheld_refuted : (f : Format) (σ : State) (ls ms : List Line) (kind : Kind) (notes : List Note) (bs cs : List ℕ) (c : ℕ) → Nobody (c / 2) notes
    → σ.lines ≡ ls ++ line kind true (bs ++ c ∷ cs) notes ∷ ms → Holds f σ → ⊥
unheld_refuted f σ ls ms kind notes bs cs c n q h =
    no_line ls ms kind notes bs cs c n (subst (λ (x : List Line). Enters x h.steps) q h.entered)

-- ---- accepted calls with such a literal, whatever they filled, and whatever calls come later

-- what the ledger has stays
enter_grows : (σ : State) (call : Call) (o : Outcome) (a : Answer) → (ms : List Line) × ((enter σ call o a).lines ≡ σ.lines ++ ms)
unfolding enter
enter_grows σ call o (accepted vs) = (lines_of call vs o.words (notes_of (σ.log ++ entries_of call o.notes)), refl)
enter_grows σ call o (refused n vs) = ([], sym (append-nil σ.lines))

run_grows : (f : Format) (σ : State) (xs : List Turn) → (ms : List Line) × ((run f σ xs).lines ≡ σ.lines ++ ms)
unfolding run after_turn
run_grows f σ [] = ([], sym (append-nil σ.lines))
run_grows f σ (x ∷ xs) =
    let (ms, p) = enter_grows σ x.call (turn_does f x σ.table) (turn_does f x σ.table).answer in
    let (ns, q) = run_grows f (after_turn f σ x) xs in
    (ms ++ ns, q ∙ ap (λ (ls : List Line). ls ++ ns) p ∙ append_assoc σ.lines ms ns)

-- the notes so far, once an accepted call's are entered
abbrev pub sofar : State → Call → Outcome → List Note
sofar σ call o = notes_of (σ.log ++ entries_of call o.notes)

-- the claim is false of this call's state and of every later one
abbrev pub Refuted : Format → State → Call → Outcome → List ℕ → Type 0
Refuted f σ call o vs = (xs : List Turn) → Holds f (run f (enter σ call o (accepted vs)) xs) → ⊥

unheld_call : (f : Format) (σ : State) (call : Call) (o : Outcome) (vs : List ℕ) (ls ms : List Line) (kind : Kind) (bs cs : List ℕ) (c : ℕ)
    → lines_of call vs o.words (sofar σ call o) ≡ ls ++ line kind true (bs ++ c ∷ cs) (sofar σ call o) ∷ ms
    → Nobody (c / 2) (sofar σ call o) → Refuted f σ call o vs
unfolding enter
unheld_call f σ call o vs ls ms kind bs cs c e n xs h =
    let l = line kind true (bs ++ c ∷ cs) (sofar σ call o) in
    let (ns, q) = run_grows f (enter σ call o (accepted vs)) xs in
    unheld_refuted f _ (σ.lines ++ ls) (ms ++ ns) kind (sofar σ call o) bs cs c n
    (q
    ∙ ap (λ (x : List Line). (σ.lines ++ x) ++ ns) e
    ∙ append_assoc σ.lines (ls ++ l ∷ ms) ns
    ∙ ap (λ (x : List Line). σ.lines ++ x) (append_assoc ls (l ∷ ms) ns)
    ∙ sym (append_assoc σ.lines ls (l ∷ (ms ++ ns))))
    h

pub unheld_add : (f : Format) (σ : State) (redundant : Bool) (bs cs hashes : List ℕ) (c : ℕ) (o : Outcome) (vs : List ℕ)
    → Nobody (c / 2) (sofar σ (write (AtClause redundant) true (bs ++ c ∷ cs) hashes) o)
    → Refuted f σ (write (AtClause redundant) true (bs ++ c ∷ cs) hashes) o vs
unfolding lines_of
unheld_add f σ redundant bs cs hashes c o vs n = unheld_call f σ _ o vs [] [] Add bs cs c refl n

pub unheld_delete : (f : Format) (σ : State) (cause : DeleteClauseProof) (bs cs hashes : List ℕ) (c : ℕ) (o : Outcome) (vs : List ℕ)
    → Nobody (c / 2) (sofar σ (write (DeleteClause cause) true (bs ++ c ∷ cs) hashes) o)
    → Refuted f σ (write (DeleteClause cause) true (bs ++ c ∷ cs) hashes) o vs
unfolding lines_of
unheld_delete f σ cause bs cs hashes c o vs n = unheld_call f σ _ o vs [] [] Delete bs cs c refl n

map_around : {A B : Type 0} (g : A → B) (xs ys : List A) (y : A) → map g (xs ++ y ∷ ys) ≡ map g xs ++ g y ∷ map g ys
map_around g [] ys y = refl
map_around g (x ∷ xs) ys y = ap (λ l. g x ∷ l) (map_around g xs ys y)

pub unheld_unit : (f : Format) (σ : State) (bs cs hashes : List ℕ) (c : ℕ) (o : Outcome) (vs : List ℕ)
    → Nobody (c / 2) (sofar σ (write UnitClauses true (bs ++ c ∷ cs) hashes) o) → Refuted f σ (write UnitClauses true (bs ++ c ∷ cs) hashes) o vs
unfolding lines_of
unheld_unit f σ bs cs hashes c o vs n =
    let notes = sofar σ (write UnitClauses true (bs ++ c ∷ cs) hashes) o in
    unheld_call f σ _ o vs (map (λ b. line Add true (b ∷ []) notes) bs) (map (λ b. line Add true (b ∷ []) notes) cs) Add [] [] c
    (map_around (λ b. line Add true (b ∷ []) notes) bs cs c) n

-- Simplify where it drops, shortens or leaves a binary clause
pub unheld_simplified : (f : Format) (σ : State) (redundant : Bool) (bs cs : List ℕ) (c : ℕ) (what : Simplified) (o : Outcome) (vs : List ℕ)
    → what ≢ Kept → Nobody (c / 2) (sofar σ (simplify (bs ++ c ∷ cs) redundant) o)
    → Refuted f σ (simplify (bs ++ c ∷ cs) redundant) o (simplified_number what ∷ vs)
unfolding lines_of
unheld_simplified f σ redundant bs cs c Kept o vs k n = absurd (k refl)
unheld_simplified f σ redundant bs cs c Dropped o vs k n = unheld_call f σ _ o _ [] [] Delete bs cs c refl n
unheld_simplified f σ redundant bs cs c Shortened o vs k n =
    unheld_call f σ _ o _ (line Add true o.words (sofar σ (simplify (bs ++ c ∷ cs) redundant) o) ∷ []) [] Delete bs cs c refl n
unheld_simplified f σ redundant bs cs c Binary o vs k n =
    unheld_call f σ _ o _ (line Add true o.words (sofar σ (simplify (bs ++ c ∷ cs) redundant) o) ∷ []) [] Delete bs cs c refl n

-- ---- the bytes are of other clause steps than the ledger's

pub misread : (f : Format) (σ : State) (ss us : List Step) → Enters σ.lines ss → Valid us → σ.bytes ≡ encode f us → Holds f σ → us ≡ ss
misread f σ ss us e v b h = h.only us (subst (λ (x : List ℕ). Spells f x us) (sym b) (encode_spells f us v)) ∙ sym (enters_once h.entered e)
