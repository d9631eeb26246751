-- A file written here is read as the clauses that it was written from.
use mathlib.Core.Path.{◌≡◌, refl, sym, ap, ◌∙◌}
use mathlib.Core.List.{List, [], ◌∷◌}
use mathlib.Core.Bool.{Bool, true, false}
use native.Mathlib.Omega.{arith}
use Prim.Native.Nat.{ℕ, ◌+◌, ◌≤◌}
use lib.Dec.{ltb}
use lib.ListN.{length}
use borrow.Author.Tests.{le-ltb}
use Rattle.base.specs.Answer.{accepted, refused}
use Rattle.drat.specs.Writing.{Writing}
use Rattle.dimacs.specs.Cnf.{Cnf, largest, written}
use Rattle.dimacs.specs.Reading.{File, file, read_file}
use Rattle.dimacs.specs.Calls.{clauses_by, unwritable, write_cnf_of, cnf_by, read_cnf_of}
use Rattle.dimacs.proofs.ClauseLaws.{clauses_count, codes_back, ends_back}
use Rattle.dimacs.proofs.Written.{is_writable, written_cnf}
use Rattle.dimacs.proofs.Files.{cnf_read_lem, one_file}

-- the writing call's three answers
module _ (codes es : List ℕ) (room : ℕ) where
  cnf_refused : unwritable codes es ≡ true → write_cnf_of codes es room ≡ record { answer = refused 3 []; bytes = [] }
  cnf_refused h = rw h

  cnf_lacking : unwritable codes es ≡ false → ltb room (0 + length (written (largest codes) (clauses_by codes 0 es))) ≡ true
      → write_cnf_of codes es room ≡ record { answer = refused 2 []; bytes = [] }
  cnf_lacking h u = rw (h, u)

  cnf_done : unwritable codes es ≡ false → ltb room (0 + length (written (largest codes) (clauses_by codes 0 es))) ≡ false
      → write_cnf_of codes es room ≡ record {
        answer = accepted ((0 + length (written (largest codes) (clauses_by codes 0 es))) ∷ []);
        bytes = written (largest codes) (clauses_by codes 0 es);
      }
  cnf_done h u = rw (h, u)

module _ (codes es : List ℕ) (h : unwritable codes es ≡ false) where
  pub written_read : read_file (written (largest codes) (clauses_by codes 0 es)) ≡ file (largest codes) (clauses_by codes 0 es)
  written_read = cnf_read_lem (written_cnf codes es h)

  -- and has no other reading
  pub written_once : (v : ℕ) (cls : List (List ℕ)) → Cnf (written (largest codes) (clauses_by codes 0 es)) v cls → (v ≡ largest codes) × (cls ≡ clauses_by
      codes 0 es)
  written_once v cls g = one_file g (written_cnf codes es h)

  -- in slices that hold them
  back : (a b : ℕ) → length codes ≤ a → length es ≤ b → read_cnf_of (written (largest codes) (clauses_by codes 0 es)) a b ≡ record {
    answer = accepted (largest codes ∷ length codes ∷ length es ∷ []);
    codes = codes;
    ends = es;
  }
  unfolding cnf_by
  back a b p q =
      let w = is_writable codes es h in
      ap (λ (f : File). cnf_by f a b) written_read
      ∙ rw (codes_back codes es w.rising, ends_back codes es w.rising, clauses_count codes 0 es, le-ltb a (length codes) p, le-ltb b (length es) q)

-- What an accepted call filled is read back, in any slices that hold it.
module _ (codes es : List ℕ) (room n : ℕ) (e : (write_cnf_of codes es room).answer ≡ accepted (n ∷ [])) where
  refused_not : (k : ℕ) → refused k [] ≡ accepted (n ∷ []) → ⊥
  refused_not k q = let z : ◌≡◌ {A = ℕ} 0 1 = cc in omega arith

  filled : (t : Bool) → unwritable codes es ≡ t → (unwritable codes es ≡ false) × ((write_cnf_of codes es room).bytes ≡ written (largest codes) (clauses_by
      codes 0 es))
  filled true h = absurd (refused_not 3 (sym (ap (λ (x : Writing). x.answer) (cnf_refused codes es room h)) ∙ e))
  filled false h = (h, go (ltb room (0 + length (written (largest codes) (clauses_by codes 0 es)))) refl)
    where
      go : (u : Bool) → ltb room (0 + length (written (largest codes) (clauses_by codes 0 es))) ≡ u
          → (write_cnf_of codes es room).bytes ≡ written (largest codes) (clauses_by codes 0 es)
      go true u = absurd (refused_not 2 (sym (ap (λ (x : Writing). x.answer) (cnf_lacking codes es room h u)) ∙ e))
      go false u = ap (λ (x : Writing). x.bytes) (cnf_done codes es room h u)

  pub cnf_back : (a b : ℕ) → length codes ≤ a → length es ≤ b → read_cnf_of (write_cnf_of codes es room).bytes a b ≡ record {
    answer = accepted (largest codes ∷ length codes ∷ length es ∷ []);
    codes = codes;
    ends = es;
  }
  cnf_back a b p q =
      let w = filled (unwritable codes es) refl in
      ap (λ (l : List ℕ). read_cnf_of l a b) w.1 ∙ back codes es w.0 a b p q
