-- Laws of a run of literals whose users have solver indices: each is only looked up.
use Rattle.std.specs.Prelude.{Option, None, Ok, Err}
use Prim.Native.Nat.{ℕ, zero, suc, ◌+◌, ◌≤◌, ◌<◌}
use mathlib.Core.Path.{◌≡◌, refl, sym, ap, ◌∙◌, subst}
use mathlib.Core.Bool.{Bool, false, ◌&&◌, ◌||◌, true≢false}
use mathlib.Core.List.{List, map}
use mathlib.Core.Logic.{⊎_elim}
use native.Mathlib.Omega.{arith}
use lib.Dec.{ltb}
use lib.ListN.{length, get_or, set, take, length-map, length-set}
use lib.Seq.{sets}
use borrow.Author.Tests.{ltb-false}
use Rattle.base.specs.Bounded.{any_of}
use Rattle.base.proofs.MemberLaws.{or_left, or_right}
use Rattle.base.proofs.StoreLaws.{stored_part, copied, copy_start, copy_next, copy_end}
use Rattle.base.proofs.Truth.{same}
use Rattle.scope.specs.Literals.{code_of, index_of, sign_of}
use Rattle.scope.specs.Table.{word}
use Rattle.scope.proofs.ResultLaws.{word_none, word_some}
use Rattle.scope.specs.declared.Solver.{Solver}
use Rattle.table.specs.Found.{found_solver}
use Rattle.naming.specs.Parts.{is_unsampled, MapBelow}
use Rattle.held.specs.Parts.{held_word, held_code, HeldTo, HeldRun, none, more, HeldTried}

-- ---- a user that has a solver index already

pub held_none : (gu sg : List ℕ) (u : ℕ) → get_or gu u 0 ≡ 0 → None ≡ found_solver (held_word gu sg u)
unfolding held_word word
held_none gu sg u e = rw e

pub held_some : (gu sg : List ℕ) (u g : ℕ) (f : Option Solver) → get_or gu u 0 ≡ g + 1 → f ≡ found_solver (get_or sg g 0) → f ≡ found_solver (held_word gu sg u)
unfolding held_word
held_some gu sg u g f e q = q ∙ ap found_solver (sym (word_some 0 (λ g. get_or sg g 0) _ g e))

-- ---- a run

pub run_more : {gu sg lits : List ℕ} {a b : ℕ} {out m : List ℕ} (s w : ℕ) → HeldRun gu sg lits a out b m → b < length lits
    → held_word gu sg (index_of (get_or lits b 0)) ≡ s + 1 → w ≡ code_of s (sign_of (get_or lits b 0)) → HeldRun gu sg lits a out (b + 1) (set m b w)
run_more {gu} {sg} {lits} {a} {b} {out} {m} s w r l e q =
    subst (λ (x : ℕ). HeldRun gu sg lits a out (b + 1) (set m b x)) (sym q) (more s r l e)

pub run_length : {gu sg lits : List ℕ} {a : ℕ} {out : List ℕ} {b : ℕ} {m : List ℕ} → HeldRun gu sg lits a out b m → length m ≡ length out
run_length none = refl
run_length (more {b = b} {m = m} s r l e) = length-set m b _ ∙ run_length r

held_code_lem : (gu sg : List ℕ) (c s : ℕ) → held_word gu sg (index_of c) ≡ s + 1 → code_of s (sign_of c) ≡ held_code gu sg c
unfolding held_code
held_code_lem gu sg c s e = omega arith

pub run_up : {gu sg lits : List ℕ} {a : ℕ} {out : List ℕ} {b : ℕ} {m : List ℕ} → HeldRun gu sg lits a out b m → a ≤ b
run_up none = omega arith
run_up (more s r l e) = let x = run_up r in omega arith

-- from the start on: whose users have solver indices, and what was stored
pub run_held : {gu sg lits out : List ℕ} {b : ℕ} {m : List ℕ} → HeldRun gu sg lits 0 out b m
    → HeldTo gu sg lits b × (m ≡ copied (held_code gu sg) out lits b)
run_held {gu} {sg} {lits} {out} {b} none = (
  record { most = omega arith; held = λ i l. absurd (omega arith) },
  copy_start (held_code gu sg) out lits,
)
run_held {gu} {sg} {lits} {out} {b} (more {b = i} {m = m} s r l e) = let h = run_held r in (
  record {
    most = omega arith;
    held = λ j k. ⊎_elim
        (λ (q : j ≡ i). rw q (λ z. omega arith))
        (λ (q : j ≡ i → ⊥). h.0.held j (omega arith))
        (same j i);
  },
  copy_next (held_code gu sg) out lits m i _ l h.1 (held_code_lem gu sg (get_or lits i 0) s e),
)

pub held_small : (gu sg : List ℕ) (u s : ℕ) → MapBelow sg 4096 → held_word gu sg u ≡ s + 1 → s < 4096
unfolding held_word
held_small gu sg u s m e = go (get_or gu u 0) refl
  where
    go : (w : ℕ) → get_or gu u 0 ≡ w → s < 4096
    go zero q = absurd (let z = sym (word_none 0 (λ g. get_or sg g 0) _ q) ∙ e in omega arith)
    go (suc g) q =
        let k : get_or gu u 0 ≡ g + 1 = omega arith in
        let z = sym (word_some 0 (λ g. get_or sg g 0) _ g k) ∙ e in
        let b = m.at g in
        omega arith

-- ---- what was tried

pub tried_some : (gu sg records lits : List ℕ) (sampling : Bool) (n : ℕ) (codes codes' out : List ℕ) → HeldRun gu sg lits 0 codes n codes'
    → HeldTried gu sg records lits sampling (Err n) out out
tried_some gu sg records lits sampling n codes codes' out r =
    record { lead = (run_held r).0; all = λ e. absurd (true≢false (sym e)); stored = refl }

pub tried_all : (gu sg records lits : List ℕ) (sampling b : Bool) (n : ℕ) (codes codes' out out' : List ℕ)
    → length lits ≤ 8192
    → length lits ≤ length codes
    → length lits ≤ length out
    → length lits ≤ n
    → HeldRun gu sg lits 0 codes n codes'
    → b ≡ sampling && any_of (λ c. is_unsampled gu records (index_of c)) lits
    → b ≡ false
    → out' ≡ sets out 0 (take n codes')
    → HeldTried gu sg records lits sampling (Ok tt) out out'
tried_all gu sg records lits sampling b n codes codes' out out' few l places k r q e s =
    let h = run_held r in
    let m = h.0.most in
    let z : n ≡ length lits = omega arith in
    let c = copy_end (held_code gu sg) codes lits codes' n k h.1 in
    record {
      lead = subst (λ (j : ℕ). HeldTo gu sg lits j) z h.0;
      all = λ _. record { few = few; places = places; held = subst (λ (j : ℕ). HeldTo gu sg lits j) z h.0; sampled = sym q ∙ e };
      stored = s ∙ ap (λ (w : List ℕ). sets out 0 w)
          (stored_part codes codes' (map (held_code gu sg) lits) n c (z ∙ sym (length-map lits (held_code gu sg))) (omega arith));
    }

pub fits_both : (n outs : ℕ) → ltb 8192 n || ltb outs n ≡ false → (n ≤ 8192) × (n ≤ outs)
fits_both n outs e = (ltb-false 8192 n (or_left (ltb 8192 n) _ e), ltb-false outs n (or_right (ltb 8192 n) _ e))
