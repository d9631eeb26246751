-- Demand 3 of any program: calls that met their contracts, the first on the table that an accepted Open left, each other on the table that
-- the one before left, are a session of the definitions. What the ledger reads from memory is what the definitions say was filled.
use Prim.Native.Nat.{ℕ}
use mathlib.Core.Path.{◌≡◌, refl, sym, ap, ◌∙◌, subst}
use mathlib.Core.List.{List, [], ◌∷◌, ◌++◌}
use lib.ListN.{take}
use Rattle.base.specs.Answer.{Answer, accepted, refused, values_of}
use Rattle.drat.specs.declared.Format.{Format}
use Rattle.scope.specs.Table.{Table}
use Rattle.scope.specs.Notes.{Note}
use Rattle.scope.specs.Outcome.{Outcome}
use Rattle.scope.specs.Open.{open_of}
use Rattle.scope.specs.Contract.{Said, Memory, Does, Meets}
use Rattle.scope.specs.Calls.{Call}
use Rattle.session.specs.Ledger.{notes_of}
use Rattle.session.specs.Entered.{entries_of, lines_of}
use Rattle.session.specs.Session.{turn_does, State, start, enter, Holds}
use Rattle.session.specs.Made.{notes_in, filled_by, Has, Made, turn_of, leaves, Program, ends, calls, seen, ledger}
use Rattle.session.proofs.ToldLaws.{ToldFor, take_filled, notes_filled}
use Rattle.session.proofs.CallLaws.{Owed, refusing, accepting, turn_owed}
use Rattle.session.proofs.SessionLaws.{Invariant, enter_keeps, invariant_holds, open_start}

-- the ledger enters the same of two outcomes that agree in what it is fed
enter_same : (σ : State) (call : Call) (vs : List ℕ) (o o' : Outcome) → o.table ≡ o'.table → o.notes ≡ o'.notes
    → ((notes : List Note) → lines_of call vs o.words notes ≡ lines_of call vs o'.words notes) → o.bytes ≡ o'.bytes
    → enter σ call o (accepted vs) ≡ enter σ call o' (accepted vs)
unfolding enter
enter_same σ call vs o o' p q r s = λ i.
    record {
      table = p i;
      log = σ.log ++ entries_of call (q i);
      lines = σ.lines ++ r (notes_of (σ.log ++ entries_of call (q i))) i;
      bytes = σ.bytes ++ s i;
    }

-- what stands in memory, by an outcome
record Filled (m : Made) (o : Outcome) : Type 0 where
  kept : Does o m.said (leaves m) m.memory.notes m.memory.noted
  words : Has m.words o.words
  bytes : Has m.bytes o.bytes

seen_accepted : (σ : State) (m : Made) (o : Outcome) (vs : List ℕ) → Filled m o → o.answer ≡ accepted vs → ToldFor (turn_of m) vs o
    → enter σ m.call (seen m) (accepted vs) ≡ enter σ m.call o (accepted vs)
unfolding seen
seen_accepted σ m o vs k q told =
    let v : values_of m.said.answer ≡ vs = ap values_of (k.kept.answer ∙ q) in
    let call = m.call in
    enter_same σ call vs (seen m) o k.kept.table
    (ap (notes_in _) k.kept.noted
    ∙ notes_filled m.memory.notes o.notes _ (ap (λ (x : List ℕ). (filled_by call x).notes) v ∙ told.notes) told.note_room)
    (λ notes.
    ap (λ (x : List ℕ). lines_of call vs (take (filled_by call x).words m.words.left) notes) v
    ∙ ap (λ (x : List ℕ). lines_of call vs (take (filled_by call vs).words x) notes) k.words
    ∙ told.lines m.words.lent notes refl)
    (ap (take (filled_by call (values_of m.said.answer)).bytes) k.bytes
    ∙ take_filled m.bytes.lent o.bytes _ (ap (λ (x : List ℕ). (filled_by call x).bytes) v ∙ told.bytes) told.byte_room)

-- what is seen of a call that met its contract is entered as what the definitions give
seen_entered : (f : Format) (σ : State) (m : Made) (o : Outcome) → Filled m o → Owed f (turn_of m) m.memory.table o
    → enter σ m.call (seen m) m.said.answer ≡ enter σ m.call o o.answer
unfolding enter seen
seen_entered f σ m o k (refusing {n = n}) =
    ap (enter σ m.call (seen m)) k.kept.answer
    ∙ λ i. record { table = k.kept.table i; log = σ.log; lines = σ.lines; bytes = σ.bytes }
seen_entered f σ m o k (accepting {vs = vs} q l) =
    ap (enter σ m.call (seen m)) (k.kept.answer ∙ q) ∙ seen_accepted σ m o vs k q l.told ∙ sym (ap (enter σ m.call o) q)

-- the state after a call has the table that it left
entered_table : (σ : State) (call : Call) (o : Outcome) (a : Answer) → (enter σ call o a).table ≡ o.table
unfolding enter
entered_table σ call o (accepted vs) = refl
entered_table σ call o (refused n vs) = refl

ledger_keeps : (f : Format) (t : Table) (ms : List Made) → Program f t ms → (σ : State) → σ.table ≡ t → Invariant f σ → Invariant f (ledger σ ms)
unfolding ledger seen
ledger_keeps f t [] ends σ e i = i
ledger_keeps f t (m ∷ ms) (calls k p) σ e i =
    let o = turn_does f (turn_of m) m.memory.table in
    let w = turn_owed f (turn_of m) m.memory.table in
    let q = seen_entered f σ m o (record { kept = k.meets; words = k.words; bytes = k.bytes }) w in
    ledger_keeps f (leaves m) ms p (enter σ m.call (seen m) m.said.answer)
    (entered_table σ m.call (seen m) m.said.answer)
    (subst (Invariant f) (sym q) (enter_keeps f σ (turn_of m) o (subst (λ (x : Table). Owed f (turn_of m) x o) (sym e) w) i))

-- Demand 3 of any program: one Open that met its contract and was accepted, then calls that met theirs.
pub demand3_made : (f : Format) (said : Said) (memory : Memory) (vs : List ℕ) → Meets (λ t room. open_of t) said memory → said.answer ≡ accepted vs
    → (ms : List Made) → Program f (memory.leaves said.counts) ms → Holds f (ledger (start (memory.leaves said.counts)) ms)
demand3_made f said memory vs k a ms p =
    let t = memory.leaves said.counts in
    let i = open_start f memory.table vs (sym k.answer ∙ a) in
    invariant_holds f _ (ledger_keeps f t ms p (start t) refl (subst (λ (x : Table). Invariant f (start x)) (sym k.table) i))
