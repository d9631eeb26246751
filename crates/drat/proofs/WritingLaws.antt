-- Laws of the call that writes one clause, case by case.
use Prim.Native.Nat.{ℕ, ◌+◌, ◌-◌, ◌≤◌, ◌<◌}
use mathlib.Core.Path.{◌≡◌, refl, ap}
use mathlib.Core.List.{List, [], ◌∷◌}
use mathlib.Core.Bool.{Bool, true, false, ◌&&◌, not}
use native.Mathlib.Omega.{arith}
use native.Mathlib.Numerals.{add-one}
use lib.Dec.{ltb}
use Rattle.std.specs.Prelude.{Result, Ok, Err}
use lib.ListN.{length, get_or, drop, length-take}
use borrow.Author.Tests.{ltb-false, lt-ltb, le-ltb, not-false}
use Rattle.base.proofs.MemberLaws.{or_left, or_right}
use Rattle.base.specs.Bounded.{all_below}
use Rattle.base.specs.Answer.{accepted, refused}
use Rattle.drat.specs.Grammar.{step_of, encode_step, Codes}
use Rattle.drat.specs.Writing.{part, codes_test, no_clause, write_clause_of, wrote}
use Rattle.drat.specs.declared.WriteError.{WriteError}
use Rattle.drat.specs.declared.WriteError.TheVariants.{Outside, Room}
use Rattle.drat.specs.declared.Kind.{Kind}
use Rattle.drat.specs.declared.Format.{Format}
use Rattle.drat.proofs.CodesLaws.{codes_true}

-- the test that all words are below a bound, one word more
pub test_none : (b : ℕ) (l : List ℕ) → true ≡ all_below 0 (λ i. ltb (get_or l i 0) b)
unfolding all_below
test_none b l = refl

pub test_more : (b : ℕ) (l : List ℕ) (i : ℕ) (t : Bool) → t ≡ all_below i (λ j. ltb (get_or l j 0) b)
    → t && ltb (get_or l i 0) b ≡ all_below (i + 1) (λ j. ltb (get_or l j 0) b)
unfolding all_below
test_more b l i t e = rw add-one (ap (λ (x : Bool). x && ltb (get_or l i 0) b) e)

-- the four ways to be no clause, in the order in which they are tried
module _ (buf : List ℕ) (a b : ℕ) where
  pub outside_turned : b < a → no_clause buf a b ≡ true
  outside_turned h = rw (lt-ltb b a h)

  pub outside_past : a ≤ b → length buf < b → no_clause buf a b ≡ true
  outside_past h k = rw (le-ltb b a h, lt-ltb (length buf) b k)

  pub outside_long : a ≤ b → b ≤ length buf → 8192 < b - a → no_clause buf a b ≡ true
  outside_long h k l = rw (le-ltb b a h, le-ltb (length buf) b k, lt-ltb 8192 (b - a) l)

  pub outside_codes : a ≤ b → b ≤ length buf → b - a ≤ 8192 → no_clause buf a b ≡ not (codes_test (part a b buf))
  outside_codes h k l = rw (le-ltb b a h, le-ltb (length buf) b k, le-ltb 8192 (b - a) l)

  pub record Clause : Type 0 where
    pub ordered : a ≤ b
    pub within : b ≤ length buf
    pub short : length (part a b buf) ≤ 8192
    pub codes : Codes (part a b buf)

  -- what is not outside is a clause that can be written
  pub inside : no_clause buf a b ≡ false → Clause
  inside h =
      let x = or_right (ltb b a) _ h in
      let y = or_right (ltb (length buf) b) _ x in
      record {
        ordered = ltb-false b a (or_left (ltb b a) _ h);
        within = ltb-false (length buf) b (or_left (ltb (length buf) b) _ x);
        short = omega (arith, ltb-false 8192 (b - a) (or_left (ltb 8192 (b - a)) _ y), length-take (b - a) (drop a buf));
        codes = codes_true (part a b buf) (not-false (codes_test (part a b buf)) (or_right (ltb 8192 (b - a)) _ y));
      }

-- the call's three answers
module _ (f : Format) (k : Kind) (buf : List ℕ) (a b room at : ℕ) where
  pub write_outside : no_clause buf a b ≡ true → write_clause_of f k buf a b room at ≡ record { answer = refused 3 []; bytes = [] }
  write_outside h = rw h

  pub write_lacking : no_clause buf a b ≡ false → room < at + length (encode_step f (step_of k (part a b buf)))
      → write_clause_of f k buf a b room at ≡ record { answer = refused 2 []; bytes = [] }
  write_lacking h l = rw (h, lt-ltb room (at + length (encode_step f (step_of k (part a b buf)))) l)

  pub write_done : no_clause buf a b ≡ false → at + length (encode_step f (step_of k (part a b buf))) ≤ room
      → write_clause_of f k buf a b room at ≡ record {
        answer = accepted ((at + length (encode_step f (step_of k (part a b buf)))) ∷ []);
        bytes =
            encode_step f (step_of k (part a b buf));
      }
  write_done h l = rw (h, le-ltb room (at + length (encode_step f (step_of k (part a b buf)))) l)

-- the answer's reading loses nothing
pub wrote_one : (x y : Result ℕ WriteError) → wrote x ≡ wrote y → x ≡ y
wrote_one (Ok i) (Ok j) e = cc
wrote_one (Ok i) (Err Outside) e = let z : ◌≡◌ {A = ℕ} 0 1 = cc in absurd (omega arith)
wrote_one (Ok i) (Err Room) e = let z : ◌≡◌ {A = ℕ} 0 1 = cc in absurd (omega arith)
wrote_one (Err Outside) (Ok j) e = let z : ◌≡◌ {A = ℕ} 0 1 = cc in absurd (omega arith)
wrote_one (Err Outside) (Err Outside) e = refl
wrote_one (Err Outside) (Err Room) e = let z : ◌≡◌ {A = ℕ} 3 2 = cc in absurd (omega arith)
wrote_one (Err Room) (Ok j) e = let z : ◌≡◌ {A = ℕ} 0 1 = cc in absurd (omega arith)
wrote_one (Err Room) (Err Outside) e = let z : ◌≡◌ {A = ℕ} 2 3 = cc in absurd (omega arith)
wrote_one (Err Room) (Err Room) e = refl
