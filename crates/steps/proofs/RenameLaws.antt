-- Rename: what the call comes to.
use Rattle.std.specs.Prelude.{Result, Ok, Err}
use Prim.Native.Nat.{ℕ, ◌≤◌, ◌<◌}
use mathlib.Core.Path.{◌≡◌, refl, sym, ap, ap₂, ◌∙◌}
use mathlib.Core.Bool.{Bool, true, false, ◌||◌}
use mathlib.Core.List.{List, [], ◌∷◌}
use native.Mathlib.Omega.{arith}
use lib.ListN.{length, get_or}
use lib.Seq.{sets}
use Rattle.base.specs.Choice.{pick}
use Rattle.base.specs.Answer.{accepted}
use Rattle.scope.specs.declared.ProofStep.{ProofStep}
use Rattle.scope.specs.Table.{Table}
use Rattle.scope.specs.Sound.{soundb}
use Rattle.scope.specs.Steps.{rule_of, has_hashes, literals_of, hashes_of, step_words}
use Rattle.scope.specs.Outcome.{Outcome}
use Rattle.scope.specs.Contract.{Does}
use Rattle.scope.specs.Write.{rename_lits, holders, unmatched, step_refusal, rename_refusal, rename_of}
use Rattle.scope.specs.declared.Refusal.{Refusal}
use Rattle.scope.specs.declared.Refusal.TheVariants.{Unsound, Short, OutOfRange, NotHeld}
use Rattle.scope.specs.Refusals.{number}
use Rattle.scope.proofs.RefusedLaws.{number_not_0}
use Rattle.base.proofs.MemberLaws.{or_none}
use borrow.Author.Tests.{lt-ltb, le-ltb}
use lib.Dec.{ltb}
use Rattle.steps.specs.Names.{names_by, unnamed}
use Rattle.steps.specs.Refusals.{literal_refusal}
use Rattle.steps.specs.Answers.{renamed, in_full}
use Rattle.steps.proofs.LiteralLaws.{refuse_many, refuse_unheld, pass_solver, unnamed_sound}
use Rattle.steps.proofs.StepLaws.{refuse_1, refuse_literals, rename_first, rename_short, rename_pass}
use Rattle.scope.proofs.ResultLaws.{unless_some, unless_none}
use Rattle.steps.proofs.CallLaws.{Told, told, told_refusal}

module _ (t : Table) (step : ProofStep) (s : Bool) (lits hashes a b : List ℕ) where
  -- what the call comes to
  abbrev outcome : Outcome
  outcome = rename_of t step s lits hashes (length a) (length b)

  abbrev refusing : ℕ
  refusing = rename_refusal t step s lits hashes (length a) (length b)

  pub rename_refused : (r : Refusal) → number r ≡ refusing → Told outcome (renamed (Err r) t.counts) t a b [] a b []
  unfolding rename_of
  rename_refused r e = told_refusal outcome (number r) t (renamed (Err r) t.counts) a b [] (unless_some (number r) refusing t _ e (number_not_0 r)) refl

  pub rename_unsound : soundb t ≡ false → Told outcome (renamed (Err Unsound) t.counts) t a b [] a b []
  rename_unsound h = rename_refused Unsound (rename_first t step s lits hashes (length a) (length b) 1 (refuse_1 t step s lits hashes h) (λ q. omega arith))

  pub rename_done : (n : ℕ) (x y : List ℕ) → n ≡ refusing → n ≡ 0
      → x ≡ sets a 0 (rename_lits (holders t) s (literals_of step lits)) → y ≡ sets b 0 (hashes_of step hashes)
      → Told outcome (renamed (Ok (record { lits = length (literals_of step lits); hashes = length (hashes_of step hashes); step = step })) t.counts)
      t a b [] x y []
  unfolding rename_of
  rename_done n x y e z r u = told outcome _ _ t a b [] x y [] (unless_none refusing t _ (sym e ∙ z)) refl refl refl r u refl

-- ---- Rename of the solver literals of a step without hashes, by the map alone

no_hashes : (b : Bool) → pick {A = List ℕ} b [] [] ≡ []
no_hashes true = refl
no_hashes false = refl

module _ (t : Table) (step : ProofStep) (k : ℕ) (gs lits a : List ℕ) (h : soundb t ≡ true) (g : t.global_from_solver ≡ gs) (c : (rule_of step).renamed ≡ true)
    (u : unmatched step lits [] ≡ false) where
  abbrev alone : Outcome
  alone = rename_of t step true lits [] (length a) k

  abbrev refusing_alone : ℕ
  refusing_alone = rename_refusal t step true lits [] (length a) k

  -- what the call comes to, of what it answers and leaves in `out`
  abbrev Alone : Result ℕ Refusal → List ℕ → Type 0
  Alone r x = Does alone (renamed (in_full r step) t.counts) t [] [] × ((x ≡ sets a 0 alone.words) × (alone.more ≡ []))

  all_carried : literals_of step lits ≡ lits
  all_carried = rw c

  none_hashed : hashes_of step [] ≡ []
  none_hashed = no_hashes (has_hashes step)

  judged : (r : ℕ) → r ≡ literal_refusal t true lits → r ≡ step_refusal t step true lits [] 0
  judged r e = refuse_literals t step true lits [] r h u (e ∙ ap (literal_refusal t true) (sym all_carried))

  alone_refused : (r : Refusal) → number r ≡ refusing_alone → Alone (Err r) a
  unfolding rename_of
  alone_refused r e =
      let q = unless_some (number r) refusing_alone t _ e (number_not_0 r) in
      let d = told_refusal alone (number r) t (renamed (Err r) t.counts) a [] [] q refl in
      (d.does, (d.words, ap (λ (o : Outcome). o.more) q))

  pub alone_many : 8192 < length lits → Alone (Err OutOfRange) a
  alone_many l =
      alone_refused OutOfRange (rename_first t step true lits [] (length a) k 3 (judged 3 (refuse_many t true lits l)) (λ q. omega arith))

  pub alone_unheld : length lits ≤ 8192 → unnamed gs lits ≡ true → Alone (Err NotHeld) a
  alone_unheld l e =
      let r = judged 8 (refuse_unheld t gs true lits g l refl (sym (unnamed_sound t gs lits h g) ∙ e)) in
      alone_refused NotHeld (rename_first t step true lits [] (length a) k 8 r (λ q. omega arith))

  passed : length lits ≤ 8192 → unnamed gs lits ≡ false → 0 ≡ step_refusal t step true lits [] 0
  passed l e = judged 0 (pass_solver t gs true lits g l refl (sym (unnamed_sound t gs lits h g) ∙ e))

  rooms : (b : Bool) → ltb (length a) (length lits) ≡ b → ltb (length a) (length (literals_of step lits)) || ltb k (length (hashes_of step [])) ≡ b
  rooms b e = rw (all_carried, none_hashed, e, le-ltb k 0 (omega arith)) (or_none b)

  pub alone_short : length lits ≤ 8192 → unnamed gs lits ≡ false → length a < length lits → Alone (Err Short) a
  alone_short l e m =
      alone_refused Short (rename_short t step true lits [] (length a) k 0 (passed l e) refl (rooms true (lt-ltb (length a) (length lits) m)))

  pub alone_done : (x : List ℕ) → length lits ≤ 8192 → unnamed gs lits ≡ false → length lits ≤ length a → x ≡ sets a 0 (names_by gs true lits)
      → Alone (Ok (length lits)) x
  unfolding rename_of
  alone_done x l e m w =
      let z = rename_pass t step true lits [] (length a) k 0 (passed l e) refl (rooms false (le-ltb (length a) (length lits) m)) in
      let q = unless_none refusing_alone t _ (sym z) in
      let v = w ∙ ap (λ (ws : List ℕ). sets a 0 (rename_lits (λ s. get_or ws s 0) true lits)) (sym g)
      ∙ ap (λ (ls : List ℕ). sets a 0 (rename_lits (holders t) true ls)) (sym all_carried) in
      let r = told alone _ (renamed (in_full (Ok (length lits)) step) t.counts) t a [] [] x [] [] q refl
      (ap₂ (λ (ls hs : List ℕ). accepted (length ls ∷ length hs ∷ step_words step)) (sym all_carried) (sym none_hashed))
      refl v (ap (λ (hs : List ℕ). sets [] 0 hs) (sym none_hashed)) refl in
      (r.does, (r.words, ap (λ (o : Outcome). o.more) q ∙ none_hashed))
