-- Write: the bytes of a step by what its rule writes, and what the call comes to.
use Rattle.std.specs.Prelude.{Result, Ok, Err}
use Prim.Native.Nat.{ℕ, ◌≤◌, ◌<◌}
use mathlib.Core.Path.{◌≡◌, refl, sym, ap, ◌∙◌}
use mathlib.Core.Bool.{Bool, true, false}
use mathlib.Core.List.{List, [], ◌∷◌}
use native.Mathlib.Omega.{arith}
use lib.Dec.{ltb}
use lib.ListN.{length}
use lib.Seq.{sets}
use borrow.Author.Tests.{lt-ltb, le-ltb}
use Rattle.base.specs.Choice.{pick}
use Rattle.base.specs.Answer.{accepted}
use Rattle.drat.specs.Grammar.{step_of, encode_step, encode}
use Rattle.drat.specs.declared.Format.{Format}
use Rattle.drat.specs.declared.Kind.TheVariants.{Add as add, Delete as delete}
use Rattle.scope.specs.declared.ProofStep.{ProofStep}
use Rattle.scope.specs.declared.KindRule.{KindRule}
use Rattle.scope.specs.declared.Writes.{Writes}
use Rattle.scope.specs.declared.Writes.TheVariants.{Add, Delete, Nothing, Refused}
use Rattle.scope.specs.Table.{Table, table_of}
use Rattle.scope.specs.Sound.{soundb}
use Rattle.scope.specs.Steps.{rule_of, written, clause_steps, literals_of}
use Rattle.scope.specs.Outcome.{Outcome, refusal}
use Rattle.scope.specs.Write.{rename_lits, holders, lacked, step_refusal, step_bytes, write_refusal, write_of}
use Rattle.scope.specs.declared.Refusal.{Refusal}
use Rattle.scope.specs.declared.Refusal.TheVariants.{Unsound, Short as short, NotInDrat}
use Rattle.scope.specs.Refusals.{number}
use Rattle.scope.proofs.RefusedLaws.{number_not_0}
use Rattle.steps.specs.Refusals.{laid, laid_bytes}
use Rattle.steps.specs.Answers.{recorded}
use Rattle.drat.proofs.Complete.{encode_one}
use Rattle.steps.proofs.UnitLaws.{encode_none}
use Rattle.steps.proofs.StepLaws.{refuse_1, refused_first, refused_later}
use Rattle.scope.proofs.ResultLaws.{unless_some, unless_none}
use Rattle.steps.proofs.CallLaws.{Told, told, told_refusal}

-- ---- the bytes of a step that writes so

module _ (f : Format) (w : Writes) (ls : List ℕ) where
  by_kind : (v : Writes) → w ≡ v → encode f (written w ls) ≡ encode f (written v ls)
  by_kind v q = ap (λ (x : Writes). encode f (written x ls)) q

  pub bytes_add : w ≡ Add → encode f (written w ls) ≡ encode_step f (step_of add ls)
  bytes_add q = by_kind Add q ∙ encode_one f (step_of add ls)

  pub bytes_delete : w ≡ Delete → encode f (written w ls) ≡ encode_step f (step_of delete ls)
  bytes_delete q = by_kind Delete q ∙ encode_one f (step_of delete ls)

  pub bytes_nothing : w ≡ Nothing → encode f (written w ls) ≡ []
  bytes_nothing q = by_kind Nothing q ∙ encode_none f

  pub bytes_refused : w ≡ Refused → encode f (written w ls) ≡ []
  bytes_refused q = by_kind Refused q ∙ encode_none f

-- what a step writes, by its rule
pub writes_by : (step : ProofStep) (r : KindRule) → r ≡ rule_of step → r.writes ≡ (rule_of step).writes
writes_by step r e = ap (λ (x : KindRule). x.writes) e

-- ---- bytes with room or without

pub short_laid : (bs o : List ℕ) (n : ℕ) → n ≡ length bs → length o < n → (Err short ≡ laid bs (length o)) × (o ≡ sets o 0 (laid_bytes bs (length o)))
short_laid bs o n e l =
    let h = lt-ltb (length o) (length bs) (omega arith) in
    (rw h, rw h)

pub whole_laid : (bs o p : List ℕ) (n : ℕ) → n ≡ length bs → n ≤ length o → p ≡ sets o 0 bs → (Ok n ≡ laid bs (length o))
    × (p ≡ sets o 0 (laid_bytes bs (length o)))
whole_laid bs o p n e l q =
    let h = le-ltb (length o) (length bs) (omega arith) in
    (rw h (ap Ok e), rw h q)

-- of a step whose literals are read back from a buffer
pub laid_short : (f : Format) (w : Writes) (xs ys : List ℕ) (n : ℕ) (o : List ℕ) → xs ≡ ys → n ≡ length (encode f (written w xs)) → length o < n
    → (Err short ≡ laid (encode f (written w ys)) (length o)) × (o ≡ sets o 0 (laid_bytes (encode f (written w ys)) (length o)))
laid_short f w xs ys n o e q l =
    short_laid (encode f (written w ys)) o n (q ∙ ap (λ (zs : List ℕ). length (encode f (written w zs))) e) l

pub laid_whole : (f : Format) (w : Writes) (xs ys : List ℕ) (n : ℕ) (o p : List ℕ) → xs ≡ ys → n ≡ length (encode f (written w xs)) → n ≤ length o
    → p ≡ sets o 0 (encode f (written w xs))
    → (Ok n ≡ laid (encode f (written w ys)) (length o)) × (p ≡ sets o 0 (laid_bytes (encode f (written w ys)) (length o)))
laid_whole f w xs ys n o p e q l r =
    whole_laid (encode f (written w ys)) o p n (q ∙ ap (λ (zs : List ℕ). length (encode f (written w zs))) e) l
    (r ∙ ap (λ (zs : List ℕ). sets o 0 (encode f (written w zs))) e)

-- an answer opened
pub laid_done : (bs : List ℕ) (room n : ℕ) (r : Result ℕ Refusal) → r ≡ laid bs room → r ≡ Ok n → (ltb room (length bs) ≡ false) × (n ≡ length bs)
laid_done bs room n r e q = go (ltb room (length bs)) refl (sym q ∙ e)
  where
    go : (b : Bool) → ltb room (length bs) ≡ b → Ok n ≡ pick b (Err short) (Ok (length bs)) → (ltb room (length bs) ≡ false) × (n ≡ length bs)
    go true y w = (cc, cc)
    go false y w = (y, cc)

pub laid_refused : (bs : List ℕ) (room : ℕ) (x : Refusal) (r : Result ℕ Refusal) → r ≡ laid bs room → r ≡ Err x
    → (ltb room (length bs) ≡ true) × (x ≡ short)
laid_refused bs room x r e q = go (ltb room (length bs)) refl (sym q ∙ e)
  where
    go : (b : Bool) → ltb room (length bs) ≡ b → Err x ≡ pick b (Err short) (Ok (length bs)) → (ltb room (length bs) ≡ true) × (x ≡ short)
    go true y w = (y, cc)
    go false y w = (cc, cc)

pub filled_done : (bs o p : List ℕ) → ltb (length o) (length bs) ≡ false → p ≡ sets o 0 (laid_bytes bs (length o)) → p ≡ sets o 0 bs
filled_done bs o p e q = q ∙ rw e

pub filled_refused : (bs o p : List ℕ) → ltb (length o) (length bs) ≡ true → p ≡ sets o 0 (laid_bytes bs (length o)) → p ≡ o
filled_refused bs o p e q = q ∙ rw e

-- ---- the call

-- the table that an answer leaves is the one given
recorded_same : (r : Result ℕ Refusal) (t : Table) → table_of (recorded r t.counts).counts t.global_from_user t.user_from_global t.solver_from_global
    t.global_from_solver t.assignment t.records ≡ t
recorded_same (Ok n) t = refl
recorded_same (Err r) t = refl

module _ (f : Format) (t : Table) (step : ProofStep) (s : Bool) (lits hashes d : List ℕ) where
  abbrev outcome : Outcome
  outcome = write_of f t step s lits hashes (length d)

  abbrev refusing : ℕ
  refusing = write_refusal f t step s lits hashes (length d)

  abbrev bytes : List ℕ
  bytes = encode f (clause_steps step (rename_lits (holders t) s (literals_of step lits)))

  abbrev filled : Outcome
  filled = record { answer = accepted (length bytes ∷ []); table = t; notes = []; words = []; more = []; bytes = bytes }

  write_refused : (r : Refusal) → number r ≡ refusing → Told outcome (recorded (Err r) t.counts) t [] [] d [] [] d
  unfolding write_of
  write_refused r e = told_refusal outcome (number r) t (recorded (Err r) t.counts) [] [] d (unless_some (number r) refusing t _ e (number_not_0 r)) refl

  pub write_first : (r : Refusal) → number r ≡ step_refusal t step s lits hashes 0 → Told outcome (recorded (Err r) t.counts) t [] [] d [] [] d
  unfolding write_refusal
  write_first r e = write_refused r (refused_first t step s lits hashes (number r) _ e (number_not_0 r))

  pub write_unsound : soundb t ≡ false → Told outcome (recorded (Err Unsound) t.counts) t [] [] d [] [] d
  write_unsound h = write_first Unsound (refuse_1 t step s lits hashes h)

  pub write_lacked : (n : ℕ) → n ≡ step_refusal t step s lits hashes 0 → n ≡ 0 → lacked (rule_of step).writes ≡ true
      → Told outcome (recorded (Err NotInDrat) t.counts) t [] [] d [] [] d
  unfolding write_refusal
  write_lacked n e z h = write_refused NotInDrat (sym (refused_later t step s lits hashes n _ e z ∙ rw h))

  pub write_judged : (n : ℕ) (r : Result ℕ Refusal) (x : List ℕ) → n ≡ step_refusal t step s lits hashes 0 → n ≡ 0
      → lacked (rule_of step).writes ≡ false → r ≡ laid bytes (length d) → x ≡ sets d 0 (laid_bytes bytes (length d))
      → Told outcome (recorded r t.counts)
      (table_of (recorded r t.counts).counts t.global_from_user t.user_from_global t.solver_from_global t.global_from_solver t.assignment
      t.records)
      [] [] d [] [] x
  unfolding write_of write_refusal step_bytes
  write_judged n r x e z h p u = go (ltb (length d) (length bytes)) refl p u
    where
      after : (b : Bool) → ltb (length d) (length bytes) ≡ b → refusing ≡ pick b 2 0
      after b y = refused_later t step s lits hashes n _ e z ∙ rw (h, y)

      go : (b : Bool) → ltb (length d) (length bytes) ≡ b → r ≡ pick b (Err short) (Ok (length bytes)) → x ≡ sets d 0 (pick b [] bytes)
          → Told outcome (recorded r t.counts)
          (table_of (recorded r t.counts).counts t.global_from_user t.user_from_global t.solver_from_global t.global_from_solver t.assignment
          t.records)
          [] [] d [] [] x
      go true y a w = told outcome (refusal 2 t) (recorded r t.counts) _ [] [] d [] [] x (unless_some 2 refusing t _ (sym (after true y)) (λ q. omega arith))
          refl (ap (λ (q : Result ℕ Refusal). (recorded q t.counts).answer) a) (recorded_same r t) refl refl w
      go false y a w = told outcome filled (recorded r t.counts) _ [] [] d [] [] x (unless_none refusing t filled (after false y)) refl
          (ap (λ (q : Result ℕ Refusal). (recorded q t.counts).answer) a) (recorded_same r t) refl refl w
