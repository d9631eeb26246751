-- What Simplify and Write write can be read: every literal under its global name has an index below 4,096.
use Prim.Native.Nat.{ℕ, suc, ◌<◌}
use mathlib.Core.Path.{◌≡◌}
use mathlib.Core.Bool.{Bool, true, false}
use mathlib.Core.Logic.{◌≢◌}
use mathlib.Core.List.{List, [], ◌∷◌, map}
use native.Mathlib.Omega.{arith}
use lib.Dec.{ltb, leb}
use lib.ListN.{length, get_or}
use borrow.Author.Tests.{eqb-false, leb-false}
use Rattle.base.specs.Choice.{pick}
use Rattle.base.specs.Bounded.{any_of, keep_of}
use Rattle.base.proofs.MemberLaws.{or_left, or_right, or_neither}
use Rattle.drat.specs.Grammar.{step_of, Codes, Valid}
use Rattle.drat.specs.declared.Kind.TheVariants.{Add as add}
use Rattle.drat.proofs.CodesLaws.{codes_nil, codes_cons}
use Rattle.scope.specs.declared.Writes.{Writes}
use Rattle.scope.specs.declared.Writes.TheVariants.{Add, AddEach, Delete, Nothing, Refused}
use Rattle.scope.specs.Literals.{index_of}
use Rattle.scope.specs.Table.{Table}
use Rattle.scope.specs.Sound.{Sound}
use Rattle.scope.specs.Marks.{not_held, holder_of, unheld}
use Rattle.scope.specs.Steps.{written}
use Rattle.scope.specs.Write.{rename_lit, rename_lits, holders, outside}
use Rattle.scope.proofs.PairLaws.{below_mark, pair_flip}

-- the holder of a held index is below the capacity
pub holder_within : (t : Table) (s : ℕ) → Sound t → get_or t.global_from_solver s 0 ≢ 0 → holder_of t s < t.counts.capacity
holder_within t s p n =
    let z = p.sizes in
    let b = below_mark (holder_of t s) s (pair_flip p.solver) ((p.solver.inverse s (holder_of t s)).0 (omega arith)) in
    omega arith

solver_code : (t : Table) (c : ℕ) → Sound t → not_held t (index_of c) ≡ false → rename_lit (holders t) true c < 8192
unfolding not_held
solver_code t c p e =
    let z = p.sizes in
    let b = holder_within t (index_of c) p (eqb-false (get_or t.global_from_solver (index_of c) 0) 0 e) in
    omega arith

pub solver_codes : (t : Table) (lits : List ℕ) → Sound t → any_of (λ c. not_held t (index_of c)) lits ≡ false → Codes (rename_lits (holders t) true lits)
unfolding any_of rename_lits
solver_codes t [] p e = codes_nil
solver_codes t (c ∷ lits) p e =
    codes_cons (rename_lit (holders t) true c) (rename_lits (holders t) true lits)
    (solver_code t c p (or_left (not_held t (index_of c)) _ e))
    (solver_codes t lits p (or_right (not_held t (index_of c)) _ e))

pub global_codes : (t : Table) (lits : List ℕ) → Sound t → any_of (λ c. leb t.counts.capacity (index_of c)) lits ≡ false
    → Codes (rename_lits (holders t) false lits)
unfolding any_of rename_lits
global_codes t [] p e = codes_nil
global_codes t (c ∷ lits) p e =
    let z = p.sizes in
    let a = leb-false t.counts.capacity (index_of c) (or_left (leb t.counts.capacity (index_of c)) _ e) in
    codes_cons c (rename_lits (holders t) false lits) (omega arith) (global_codes t lits p (or_right (leb t.counts.capacity (index_of c)) _ e))

-- under either sort of names, past refusals 3 and 8
pub rename_codes : (t : Table) (solver_vars : Bool) (lits : List ℕ) → Sound t → outside t solver_vars lits ≡ false → unheld t solver_vars lits ≡ false
    → Codes (rename_lits (holders t) solver_vars lits)
unfolding outside unheld
rename_codes t true lits p a b = solver_codes t lits p b
rename_codes t false lits p a b = global_codes t lits p (or_right (ltb 8192 (length lits)) _ a)

-- a test that no literal passes, no literal that is kept passes
pub keep_none : (p q : ℕ → Bool) (lits : List ℕ) → any_of p lits ≡ false → any_of p (keep_of q lits) ≡ false
unfolding any_of keep_of
keep_none p q [] e = e
keep_none p q (c ∷ lits) e = go (q c) (or_left (p c) _ e) (keep_none p q lits (or_right (p c) _ e))
  where
    go : (b : Bool) → p c ≡ false → any_of p (keep_of q lits) ≡ false → any_of p (pick b (c ∷ keep_of q lits) (keep_of q lits)) ≡ false
    go true x y = or_neither x y
    go false x y = y

-- the steps that are written
pub written_valid : (w : Writes) (cs : List ℕ) → Codes cs → Valid (written w cs)
unfolding Valid
written_valid Add cs h = (h, tt)
written_valid AddEach cs h = each_valid cs h
  where
    each_valid : (cs : List ℕ) → Codes cs → Valid (map (λ c. step_of add (c ∷ [])) cs)
    each_valid [] h = tt
    each_valid (c ∷ cs) h = (codes_cons c [] (h 0 (omega arith)) codes_nil, each_valid cs (λ i l. h (suc i) (omega arith)))
written_valid Delete cs h = (h, tt)
written_valid Nothing cs h = tt
written_valid Refused cs h = tt
