-- Order 2 over sessions: an assumed global holds a solver index, and no list of calls takes the index from it, unless one of them releases it. So a step
-- with solver literals that are assumed finds their globals.
use Prim.Native.Nat.{ℕ, zero, suc, ◌-◌}
use mathlib.Core.Path.{◌≡◌, refl, sym, ap, ◌∙◌, subst}
use mathlib.Core.Bool.{Bool, true, false, ◌&&◌, ◌||◌, not}
use mathlib.Core.Logic.{◌≢◌}
use mathlib.Core.List.{List, [], ◌∷◌}
use native.Mathlib.Omega.{arith}
use lib.Dec.{ltb}
use lib.ListN.{length, get_or}
use borrow.Author.Tests.{eqb-false, ne_eqb}
use Rattle.base.specs.Choice.{pick}
use Rattle.base.specs.Bounded.{any_of}
use Rattle.base.specs.Answer.{Answer, accepted, refused, number_of}
use Rattle.base.proofs.MemberLaws.{or_neither}
use Rattle.drat.specs.declared.Format.{Format}
use Rattle.scope.specs.declared.Mark.TheVariants.{Used, Assumed, Released}
use Rattle.scope.specs.declared.ProofStep.{ProofStep}
use Rattle.scope.specs.Literals.{code_of, index_of, sign_of}
use Rattle.scope.specs.Table.{Table, record_of, assumed_of}
use Rattle.scope.specs.Sound.{soundb, Sound}
use Rattle.scope.specs.Outcome.{Outcome, unless, changing}
use Rattle.scope.specs.Marks.{not_held, unheld, lits_held_else, mark, mark_refusal, mark_of}
use Rattle.scope.specs.Steps.{rule_of, literals_of, hashes_of}
use Rattle.scope.specs.Write.{rename_lits, holders, unmatched, outside, step_refusal, rename_refusal, rename_of, lacked, step_bytes, write_refusal, write_of}
use Rattle.scope.specs.Open.{empty_table, open_of}
use Rattle.scope.specs.Lookup.{record_word_of}
use Rattle.scope.specs.Simplify.{is_true, is_false, unfalse, simplified, rest_of, simplify_bytes, simplify_refusal, simplify_of}
use Rattle.scope.specs.Calls
use Rattle.scope.proofs.PairLaws.{below_mark, pair_flip}
use Rattle.scope.proofs.MoveLaws.{HoldsAssumed, Indexed, reach_indexed, reach_assumes}
use Rattle.scope.proofs.OpenLaws.{blank_at, open_opened, open_sound}
use Rattle.scope.proofs.ResultLaws.{past}
use Rattle.scope.proofs.MarkLaws.{held_past, mark_assumes}
use Rattle.session.specs.Session.{Turn, turn, turn_does, State, start, enter, after_turn, run, Says}
use Rattle.session.specs.Assumed.{AssumedBy, NoneReleases, LitsAssumed}
use Rattle.session.proofs.CallLaws.{Owed, refusing, accepting, releasing, owed_sound, turn_owed}
use Rattle.session.proofs.LookupLaws.{says_sound, says_holder, says_record}

-- ---- one call

owed_indexed : (f : Format) (x : Turn) (t : Table) (o : Outcome) → Owed f x t o → Sound t → Indexed t → Indexed o.table
owed_indexed f x t o refusing p w = w
owed_indexed f x t o (accepting e l) p w = reach_indexed l.path p w

-- a call that takes no assumption back
owed_assumes : (f : Format) (x : Turn) (t : Table) (o : Outcome) → Owed f x t o → releasing x.call ≡ false → Sound t
    → (g s : ℕ) → HoldsAssumed t g s → HoldsAssumed o.table g s
owed_assumes f x t o refusing e p g s a = a
owed_assumes f x t o (accepting q l) e p g s a = reach_assumes (rw e at l.path) p g s a

keeps : (f : Format) (x : Turn) (t : Table) (g s : ℕ) → releasing x.call ≡ false → Sound t → HoldsAssumed t g s → HoldsAssumed (turn_does f x t).table g s
keeps f x t g s e p a = owed_assumes f x t _ (turn_owed f x t) e p g s a

-- one that takes back that of another index
releases_other : (f : Format) (rooms : Calls.Rooms) (t : Table) (k g s : ℕ) → k ≢ s → Sound t → HoldsAssumed t g s
    → HoldsAssumed (turn_does f (turn (Calls.mark Released k) rooms) t).table g s
unfolding turn_does Calls.perform mark_of mark_refusal not_held unless
releases_other f rooms t k g s n p a = go (mark_refusal t k) refl
  where
    go : (r : ℕ) → mark_refusal t k ≡ r → HoldsAssumed (unless r t (changing (mark Released k t))).table g s
    go zero e =
        let b = past (not (soundb t)) 1 _ (omega arith) e in
        mark_assumes t Released k g s p (eqb-false (get_or t.global_from_solver k 0) 0 (held_past t k 0 b.1).0) n a
    go (suc r) e = a

call_assumes : (f : Format) (call : Calls.Call) (rooms : Calls.Rooms) (t : Table) (g s : ℕ) → call ≢ Calls.mark Released s → Sound t → HoldsAssumed t g s
    → HoldsAssumed (turn_does f (turn call rooms) t).table g s
call_assumes f (Calls.mark Released k) rooms t g s n = releases_other f rooms t k g s (λ e. n (ap (Calls.mark Released) e))
call_assumes f (Calls.lookup asked i) rooms t g s n = keeps f _ t g s refl
call_assumes f (Calls.map_user u sampling) rooms t g s n = keeps f _ t g s refl
call_assumes f Calls.new_user rooms t g s n = keeps f _ t g s refl
call_assumes f (Calls.pose lits sampling) rooms t g s n = keeps f _ t g s refl
call_assumes f (Calls.grant h) rooms t g s n = keeps f _ t g s refl
call_assumes f (Calls.set_mode h mode) rooms t g s n = keeps f _ t g s refl
call_assumes f Calls.observe rooms t g s n = keeps f _ t g s refl
call_assumes f (Calls.mark Used k) rooms t g s n = keeps f _ t g s refl
call_assumes f (Calls.mark Assumed k) rooms t g s n = keeps f _ t g s refl
call_assumes f (Calls.assign c) rooms t g s n = keeps f _ t g s refl
call_assumes f (Calls.remove k) rooms t g s n = keeps f _ t g s refl
call_assumes f Calls.sweep rooms t g s n = keeps f _ t g s refl
call_assumes f (Calls.simplify lits redundant) rooms t g s n = keeps f _ t g s refl
call_assumes f (Calls.simplify_binary lists) rooms t g s n = keeps f _ t g s refl
call_assumes f (Calls.rename step solver_vars lits hashes) rooms t g s n = keeps f _ t g s refl
call_assumes f (Calls.write step solver_vars lits hashes) rooms t g s n = keeps f _ t g s refl
call_assumes f Calls.model rooms t g s n = keeps f _ t g s refl

-- ---- any list of calls

pub after_table : (σ : State) (call : Calls.Call) (o : Outcome) (a : Answer) → (enter σ call o a).table ≡ o.table
unfolding enter
after_table σ call o (accepted vs) = refl
after_table σ call o (refused n vs) = refl

run_assumes : (f : Format) (σ : State) (xs : List Turn) (g s : ℕ) → NoneReleases xs s → Sound σ.table → HoldsAssumed σ.table g s
    → Sound (run f σ xs).table × HoldsAssumed (run f σ xs).table g s
unfolding run after_turn
run_assumes f σ [] g s n p a = (p, a)
run_assumes f σ (x ∷ xs) g s n p a =
    let o = turn_does f x σ.table in
    let e = sym (after_table σ x.call o o.answer) in
    run_assumes f (after_turn f σ x) xs g s n.1 (subst Sound e (owed_sound f x σ.table o (turn_owed f x σ.table) p))
    (subst (λ (t : Table). HoldsAssumed t g s) e (call_assumes f x.call x.rooms σ.table g s n.0 p a))

assumed_of_lem : (t : Table) (g s : ℕ) → AssumedBy t g s → Sound t × HoldsAssumed t g s
assumed_of_lem t g s a =
    let p = says_sound t s g a.held in
    let r = ((says_record t g a.word p).0 a.recorded).1 in
    (p, record { held = (says_holder t s g p).0 a.held; assumed = ap assumed_of r ∙ a.assumed })

assumed_to : (t : Table) (g s : ℕ) → Sound t → HoldsAssumed t g s → AssumedBy t g s
assumed_to t g s p a =
    let l = below_mark g s (pair_flip p.solver) ((p.solver.inverse s g).0 a.held) in
    record {
      held = (says_holder t s g p).1 a.held;
      word = record_of t g;
      recorded = (says_record t g (record_of t g) p).1 (l, refl);
      assumed = a.assumed;
    }

run_indexed : (f : Format) (σ : State) (xs : List Turn) → Sound σ.table → Indexed σ.table → Sound (run f σ xs).table × Indexed (run f σ xs).table
unfolding run after_turn
run_indexed f σ [] p w = (p, w)
run_indexed f σ (x ∷ xs) p w =
    let o = turn_does f x σ.table in
    let e = sym (after_table σ x.call o o.answer) in
    let h = turn_owed f x σ.table in
    run_indexed f (after_turn f σ x) xs (subst Sound e (owed_sound f x σ.table o h p)) (subst Indexed e (owed_indexed f x σ.table o h p w))

-- no record of an empty table is assumed
empty_indexed : (n : ℕ) → Indexed (empty_table n)
unfolding empty_table
empty_indexed n = record { index = λ g a. absurd (let e = ap assumed_of (blank_at n 47 g) in omega arith) }

-- After any list of calls on a freshly opened table: a global whose record says that it is assumed holds a solver index.
pub assumed_holds : (f : Format) (t : Table) (vs : List ℕ) → (open_of t).answer ≡ accepted vs → (xs : List Turn) (g r : ℕ)
    → Says record_word_of (run f (start (open_of t).table) xs).table g r → assumed_of r ≡ 1
    → (s : ℕ) × AssumedBy (run f (start (open_of t).table) xs).table g s
assumed_holds f t vs e xs g r h a =
    let u = (run f (start (open_of t).table) xs).table in
    let o = open_opened t vs e in
    let (p, w) = run_indexed f (start (open_of t).table) xs (open_sound t vs e) (subst Indexed (sym o.table) (empty_indexed t.counts.capacity)) in
    let b = ap assumed_of ((says_record u g r p).0 h).1 ∙ a in
    let n = w.index g b in
    let s = get_or u.solver_from_global g 0 - 1 in
    (s, assumed_to u g s p (record { held = (p.solver.inverse s g).1 (omega arith); assumed = b }))

-- Whatever the state, the calls, their arguments and rooms.
pub assumed_stays : (f : Format) (σ : State) (xs : List Turn) (g s : ℕ) → AssumedBy σ.table g s → NoneReleases xs s
    → AssumedBy (run f σ xs).table g s
assumed_stays f σ xs g s a n =
    let (p, b) = assumed_of_lem σ.table g s a in
    let (q, c) = run_assumes f σ xs g s n p b in
    assumed_to (run f σ xs).table g s q c

-- ---- a step with such literals

-- Refusal 8 does not apply to them, and they are renamed to the same global literals as before.
pub assumed_named : (f : Format) (σ : State) (xs : List Turn) (lits globals : List ℕ) → LitsAssumed σ.table xs lits globals
    → (unheld (run f σ xs).table true lits ≡ false) × (rename_lits (holders (run f σ xs).table) true lits ≡ globals)
unfolding unheld not_held any_of rename_lits
assumed_named f σ xs [] [] h = (refl, refl)
assumed_named f σ xs [] (d ∷ ds) h = elim h [ ]
assumed_named f σ xs (c ∷ cs) [] h = elim h [ ]
assumed_named f σ xs (c ∷ cs) (d ∷ ds) (a, e, n, h) =
    let w = (assumed_of_lem _ (index_of d) (index_of c) (assumed_stays f σ xs (index_of d) (index_of c) a n)).1.held in
    let (held, named) = assumed_named f σ xs cs ds h in
    let r : code_of (get_or (run f σ xs).table.global_from_solver (index_of c) 0 - 1) (sign_of c) ≡ d = omega arith in
    (or_neither (ne_eqb (get_or (run f σ xs).table.global_from_solver (index_of c) 0) 0 (λ z. omega arith)) held, λ i. r i ∷ named i)

-- kinds without literals have none
kind_held : (t : Table) (lits : List ℕ) (b : Bool) → unheld t true lits ≡ false → unheld t true (pick b lits []) ≡ false
unfolding unheld any_of
kind_held t lits true e = e
kind_held t lits false e = refl

not_8 : (b : Bool) (n rest : ℕ) → n ≢ 8 → rest ≢ 8 → pick b n rest ≢ 8
not_8 true n rest p q = p
not_8 false n rest p q = q

step_not_8 : (t : Table) (step : ProofStep) (lits hashes : List ℕ) (rest : ℕ) → unheld t true lits ≡ false → rest ≢ 8
    → step_refusal t step true lits hashes rest ≢ 8
unfolding step_refusal lits_held_else
step_not_8 t step lits hashes rest h n =
    not_8 (not (soundb t)) 1 _ (λ e. omega arith)
    (not_8 (unmatched step lits hashes) 14 _ (λ e. omega arith)
    (not_8 (outside t true (literals_of step lits)) 3 _ (λ e. omega arith) (rw (kind_held t lits (rule_of step).renamed h) n)))

number_is : (n : ℕ) (t : Table) (o : Outcome) → number_of o.answer ≡ 0 → number_of (unless n t o).answer ≡ n
unfolding unless
number_is zero t o e = e
number_is (suc n) t o e = refl

-- Rename, Write and Simplify are not refused with 8 for them.
module _ (f : Format) (σ : State) (xs : List Turn) (lits globals : List ℕ) (h : LitsAssumed σ.table xs lits globals) where
  pub assumed_renamed : (step : ProofStep) (hashes : List ℕ) (outs hash_outs : ℕ)
      → number_of (rename_of (run f σ xs).table step true lits hashes outs hash_outs).answer ≢ 8
  unfolding rename_of rename_refusal
  assumed_renamed step hashes outs hash_outs z =
      let t = (run f σ xs).table in
      step_not_8 t step lits hashes _ (assumed_named f σ xs lits globals h).0
      (not_8 (ltb outs (length (literals_of step lits)) || ltb hash_outs (length (hashes_of step hashes))) 2 0 (λ e. omega arith) (λ e. omega arith))
      (sym (number_is (rename_refusal t step true lits hashes outs hash_outs) t _ refl) ∙ z)

  pub assumed_written : (step : ProofStep) (hashes : List ℕ) (room : ℕ) → number_of (write_of f (run f σ xs).table step true lits hashes room).answer ≢ 8
  unfolding write_of write_refusal
  assumed_written step hashes room z =
      let t = (run f σ xs).table in
      step_not_8 t step lits hashes _ (assumed_named f σ xs lits globals h).0
      (not_8 (lacked (rule_of step).writes) 11 _ (λ e. omega arith)
      (not_8 (ltb room (length (step_bytes f t step true lits))) 2 0 (λ e. omega arith) (λ e. omega arith)))
      (sym (number_is (write_refusal f t step true lits hashes room) t _ refl) ∙ z)

  pub assumed_simplified : (redundant : Bool) (outs room : ℕ) → number_of (simplify_of f (run f σ xs).table lits redundant outs room).answer ≢ 8
  unfolding simplify_of simplify_refusal lits_held_else
  assumed_simplified redundant outs room z =
      let t = (run f σ xs).table in
      not_8 (not (soundb t)) 1 _ (λ e. omega arith)
      (not_8 (ltb 8192 (length lits)) 3 _ (λ e. omega arith)
      (rw (assumed_named f σ xs lits globals h).0
      (not_8 (not (any_of (is_true t) lits) && (any_of (is_false t) lits && ltb (length (unfalse t lits)) 2)) 12 _ (λ e. omega arith)
      (not_8 (ltb outs (length (rest_of (simplified t lits) t lits)) || ltb room (length (simplify_bytes f t lits redundant))) 2 0 (λ e. omega arith)
      (λ e. omega arith)))))
      (sym (number_is (simplify_refusal f t lits redundant outs room) t _ refl) ∙ z)
