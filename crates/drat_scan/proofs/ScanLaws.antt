-- The scan fills nothing: its turns are those of a fill of empty slices.
use Prim.Native.Nat.{ℕ, ◌+◌, ◌≤◌, ◌<◌}
use mathlib.Core.List.{List, []}
use mathlib.Core.Path.{◌≡◌, refl, ap, ◌∙◌}
use lib.ListN.{length, drop, set}
use lib.Seq.{sets}
use native.Mathlib.Omega.{arith}
use Rattle.drat.proofs.Ends.{first_within, first_part}
use Rattle.drat.proofs.Places.{token_at, step_moves}
use Rattle.drat.proofs.Scanning.{Inner, Outer, inner_start, inner_more, outer_start, outer_more, outer_wrong, outer_bad, outer_end}
use Rattle.drat.proofs.Sound.{Bytes, bytes_drop}
use Rattle.drat.specs.Filled.{counted, end_of, first_token, first_of, first}
use Rattle.drat.specs.Reading.{token, opening, One, got, fault, one_step, read_proof}
use Rattle.drat.specs.Writing.{part}
use Rattle.drat.specs.declared.Format.{Format}
use Rattle.drat.specs.declared.Kind.{Kind}
use Rattle.drat.specs.declared.Token.TheVariants.{Lit, Stop}
use Rattle.std.specs.Prelude.{Some, None, Ok, Err}
use Rattle.drat.specs.Filled.{size}
use Rattle.drat.specs.Reading.{opens}

-- between steps: n literals and m steps were read
pub record Between (f : Format) (s : List ℕ) (at n m : ℕ) : Type 0 where
  codes : List ℕ
  ends : List ℕ
  kinds : List ℕ
  pub outer : Outer f s [] [] [] codes ends kinds at n m

-- inside a step whose literals start at place first, with n₀ literals before it
pub record InStep (f : Format) (s : List ℕ) (first n₀ at n : ℕ) : Type 0 where
  codes : List ℕ
  pub inner : Inner f s [] first n₀ codes at n

pub between_start : (f : Format) (s : List ℕ) → Bytes s → Between f s (token_at f s 0) 0 0
between_start f s hb = record { codes = []; ends = []; kinds = []; outer = outer_start f s [] [] [] hb }

pub inside_start : (f : Format) (s : List ℕ) (at n : ℕ) → at ≤ length s → n ≤ at → InStep f s at n at n
inside_start f s at n h g = record { codes = []; inner = inner_start f s [] at n h g }

pub inside_more : (f : Format) (s : List ℕ) (first n₀ at n c j : ℕ) → Bytes s → InStep f s first n₀ at n → token f at (drop at s) ≡ Some (Lit c j)
    → InStep f s first n₀ j (n + 1)
inside_more f s first n₀ at n c j hb i e = record { codes = set i.codes n c; inner = inner_more f s [] i.codes first n₀ at n c j hb i.inner e }

-- what was read does not depend on the slice
onto : (f : Format) (s codes : List ℕ) (first n₀ at n : ℕ) (i : InStep f s first n₀ at n) → Inner f s codes first n₀ (sets codes n₀ i.inner.ds) at n
onto f s codes first n₀ at n i =
    let r = i.inner in
    record { ds = r.ds; within = r.within; after = r.after; small = r.small; read = r.read; count = r.count; held = refl }

module _ (f : Format) (s : List ℕ) (start n m : ℕ) (hb : Bytes s) (b : Between f s start n m) where
  pub between_more : (k : Kind) (first at n' j : ℕ) → opening f start (drop start s) ≡ opens k first → InStep f s first n at n'
      → token f at (drop at s) ≡ Some (Stop j) → Between f s (token_at f s j) n' (m + 1)
  between_more k first at n' j e i t =
      record {
        codes = _;
        ends = _;
        kinds = _;
        outer = outer_more f s [] [] [] b.codes b.ends b.kinds start n m hb b.outer k first e
            (sets b.codes n i.inner.ds) at n' j (onto f s b.codes first n at n' i) t;
      }

  pub between_wrong : start < length s → opening f start (drop start s) ≡ None → Err start ≡ counted (read_proof f s)
  between_wrong h e = (outer_wrong f s [] [] [] b.codes b.ends b.kinds start n m hb b.outer h e [] [] []).answer

  pub between_bad : start < length s → (k : Kind) (first at n' : ℕ) → opening f start (drop start s) ≡ opens k first → InStep f s first n at n'
      → token f at (drop at s) ≡ None → Err start ≡ counted (read_proof f s)
  between_bad h k first at n' e i t =
      (outer_bad f s [] [] [] b.codes b.ends b.kinds start n m hb b.outer h k first e (sets b.codes n i.inner.ds) at n'
      (onto f s b.codes first n at n' i) t [] [] []).answer

  pub between_end : length s ≤ start → Ok (size n m) ≡ counted (read_proof f s)
  between_end h = (outer_end f s [] [] [] b.codes b.ends b.kinds start n m hb b.outer h).answer

-- a step's end is not before its start
pub end_after : (f : Format) (s : List ℕ) (i : ℕ) → Bytes s → i ≤ end_of i (one_step f i (drop i s))
unfolding end_of
end_after f s i hb = go (one_step f i (drop i s)) refl
  where
    go : (o : One) → one_step f i (drop i s) ≡ o → i ≤ end_of i o
    go (got t j) e = let m = step_moves f i (drop i s) t j (bytes_drop i s hb) e in omega (arith, m.0)
    go fault e = omega arith

-- the part from the first token to the end of the step there
pub first_is : (f : Format) (s : List ℕ) (i e : ℕ) → Bytes s → i ≡ first_token f s → e ≡ end_of i (one_step f i (drop i s))
    → first (first_token f s) (part i e s) ≡ first_of f s
first_is f s i e hb q h =
    ap (λ (n : ℕ). first (first_token f s) (part i n s)) h
    ∙ ap (λ (x : ℕ). first (first_token f s) (part x (end_of x (one_step f x (drop x s))) s)) q
    ∙ first_part f s hb (first_token f s) (first_within f s)
