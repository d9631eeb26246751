-- Past 15 and 8 every clause that goes can be named, and its literals are below 8,192.
use Prim.Native.Nat.{ℕ, ◌+◌, ◌≤◌}
use mathlib.Core.Path.{◌≡◌, refl, sym, ap, ap₂, ◌∙◌, subst}
use mathlib.Core.Bool.{Bool, true, false}
use mathlib.Core.List.{List, [], ◌∷◌}
use native.Mathlib.Omega.{arith}
use lib.Dec.{eqb}
use lib.ListN.{length, get_or}
use lib.Seq.{sets}
use borrow.Author.Tests.{eqb-false}
use Rattle.base.specs.Bounded.{any_of}
use Rattle.base.proofs.MemberLaws.{or_left, or_right}
use Rattle.drat.specs.Grammar.{encode_step}
use Rattle.drat.specs.declared.Format.{Format}
use Rattle.scope.specs.Literals.{index_of, not_lit}
use Rattle.scope.specs.Table.{Table, table_of}
use Rattle.scope.specs.Marks.{not_held, unheld}
use Rattle.scope.specs.Sound.{soundb}
use Rattle.scope.specs.Write.{rename_lit, rename_lits, outside}
use Rattle.scope.specs.Binary.{section_at, mirrored, filled_codes}
use Rattle.scope.proofs.SoundLaws.{sound_of}
use Rattle.scope.proofs.BinaryLaws.{pair_held, not_index}
use Rattle.steps.specs.Names.{names_by}
use Rattle.steps.proofs.LiteralLaws.{nameable}
use Rattle.binary.specs.Entries.{goes_as, goes_by, clause_by, delete_by, unheld_by, AllNamed, Small}
use Rattle.binary.proofs.EachLaws.{at}

-- the map and the watermark of a sound table
pub small : (t : Table) → soundb t ≡ true → Small t.counts.solver t.global_from_solver
unfolding unheld outside any_of
small t h = let z = (sound_of t h).sizes in record {
  mark = omega arith;
  words = (nameable t true [] h (record { inside = refl; held = refl })).small;
}

-- a table with no more than this map
bare : List ℕ → Table
bare gs = table_of (record { capacity = 0; user = 0; global = 0; solver = 0; used = 0; next = 0 }) [] [] [] gs [] []

pub all_named : (solver : ℕ) (gs : List ℕ) (ss : List (List ℕ)) → Small solver gs → mirrored ss ≡ true → any_of (unheld_by gs) (filled_codes ss) ≡ false
    → AllNamed gs ss
unfolding bare unheld not_held any_of
all_named solver gs ss w h e l i k =
    let m = get_or (section_at ss l) i 0 in
    let p = pair_held (bare gs) ss h e l i k in
    let a = or_left (eqb (get_or gs (index_of (not_lit l)) 0) 0) _ p in
    let b = or_left (eqb (get_or gs (index_of m) 0) 0) false (or_right (eqb (get_or gs (index_of (not_lit l)) 0) 0) _ p) in
    record {
      small = w.words;
      first = eqb-false (get_or gs (index_of l) 0) 0 (subst (λ (s : ℕ). eqb (get_or gs s 0) 0 ≡ false) (not_index l) a);
      second = eqb-false (get_or gs (index_of m) 0) 0 b;
    }

-- ---- a clause

module _ (gs : List ℕ) (x m : ℕ) where
  -- both named
  pub pair_named : (a b : ℕ) → a ≡ rename_lit (λ s. get_or gs s 0) true x → b ≡ rename_lit (λ s. get_or gs s 0) true m → a ∷ b ∷ [] ≡ names_by gs true (x ∷ m ∷ [])
  unfolding rename_lits
  pair_named a b i j = ap₂ (λ (y z : ℕ). y ∷ z ∷ []) i j

-- ---- the entry m under l, where x is not l

module _ (gs : List ℕ) (l x m : ℕ) (e : x ≡ not_lit l) where
  pub goes_is : (assignment : List ℕ) (r b : Bool) → r ≡ goes_as assignment l x m → r ≡ b → goes_by assignment l m ≡ b
  goes_is assignment r b p q = sym (ap (λ (y : ℕ). goes_as assignment l y m) e) ∙ sym p ∙ q

-- what its delete step takes and what it fills
module _ (f : Format) (gs : List ℕ) (l m x : ℕ) where
  pub delete_len : (k : ℕ) → k ≡ length (encode_step f (clause_by gs x m)) → x ≡ not_lit l → k ≡ length (encode_step f (delete_by gs l m))
  delete_len k p e = p ∙ ap (λ (y : ℕ). length (encode_step f (clause_by gs y m))) e

  pub clause_fits : (at room : ℕ) → at + length (encode_step f (delete_by gs l m)) ≤ room → x ≡ not_lit l → at + length (encode_step f (clause_by gs x m)) ≤ room
  clause_fits at room p e = subst (λ (y : ℕ). at + length (encode_step f (clause_by gs y m)) ≤ room) (sym e) p

  pub delete_place : (at k : ℕ) → k ≡ at + length (encode_step f (clause_by gs x m)) → x ≡ not_lit l → k ≡ at + length (encode_step f (delete_by gs l m))
  delete_place at k p e = p ∙ ap (λ (y : ℕ). at + length (encode_step f (clause_by gs y m))) e

  pub delete_put : (o w : List ℕ) (at : ℕ) → w ≡ sets o at (encode_step f (clause_by gs x m)) → x ≡ not_lit l → w ≡ sets o at (encode_step f (delete_by gs l m))
  delete_put o w at p e = p ∙ ap (λ (y : ℕ). sets o at (encode_step f (clause_by gs y m))) e
