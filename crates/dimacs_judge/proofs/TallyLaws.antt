-- What is counted in clause lines: a blank for each literal, a line feed for each clause.
use Prim.Native.Nat.{ℕ, ◌-◌, ◌≤◌}
use mathlib.Core.Bool.{true}
use mathlib.Core.Logic.{inl}
use mathlib.Core.List.{List, ◌∷◌}
use mathlib.Core.Path.{◌≡◌, refl, sym, ap, ap₂, ◌∙◌, subst}
use lib.ListN.{length, get_or, drop, length-append, length-drop}
use native.Mathlib.Omega.{arith}
use Rattle.drat.specs.Filled.{codes_of}
use Rattle.dimacs.specs.Cnf.{Line, closed, lit, Lines, none, line}
use Rattle.dimacs.specs.Reading.{clauses_at}
use Rattle.dimacs.specs.Calls.{adds, all_codes, tallied}
use Rattle.dimacs.proofs.LineLaws.{lines_read}
use Rattle.dimacs_judge.specs.declared.limit.Limit.{Limit}
use Rattle.drat_judge.specs.Local.{tally}
use Rattle.dimacs_judge.specs.Limits.{LimitOf}
use Rattle.drat_judge.proofs.TallyLaws.{tally_append, signed_none}
use Rattle.dimacs_judge.specs.Local.{runs, runs_at}
use Rattle.dimacs_judge.proofs.JudgedLaws.{judged_lines}
use Rattle.std.specs.Prelude.{Ok}
use Rattle.drat.specs.Filled.{size}

line_counts : {v : ℕ} {bs cs : List ℕ} → Line v bs cs → (tally 32 32 bs ≡ length cs) × (tally 10 10 bs ≡ 1)
unfolding tally
line_counts closed = (refl, refl)
line_counts (lit {bs = bs} {rest = rest} s g t) =
    let k = line_counts t in (
      omega (arith, tally_append 32 32 bs (32 ∷ rest), signed_none s 32 32 (inl (omega arith)), k.0),
      omega (arith, tally_append 10 10 bs (32 ∷ rest), signed_none s 10 10 (inl (omega arith)), k.1),
    )

lines_count : {v : ℕ} {l : List ℕ} {cls : List (List ℕ)} → Lines v l cls → (tally 32 32 l ≡ length (all_codes cls)) × (tally 10 10 l ≡ length cls)
unfolding tally adds codes_of
lines_count none = (refl, refl)
lines_count (line {bs = bs} {rest = rest} {cs = cs} {cls = cls} p t) =
    let h = line_counts p in
    let k = lines_count t in (
      omega (arith, tally_append 32 32 bs rest, h.0, k.0, length-append cs (all_codes cls)),
      omega (arith, tally_append 10 10 bs rest, h.1, k.1),
    )

-- so the counts are what is read
pub lines_tallied : (s : List ℕ) (v j : ℕ) (cls : List (List ℕ)) → Lines v (drop j s) cls
    → tallied (clauses_at s v j) ≡ Ok (size (tally 32 32 (drop j s)) (tally 10 10 (drop j s)))
unfolding tallied
lines_tallied s v j cls h =
    let k = lines_count h in
    ap tallied (lines_read h (length s) j (omega (arith, length-drop j s))) ∙ sym (ap₂ (λ (x y : ℕ). Ok (size x y)) k.0 k.1)

module _ (s : List ℕ) (v j : ℕ) (t : Limit) where
  pub judged_counts : v ≤ 4096 → LimitOf v t → get_or s (j - 1) 0 ≡ 10 → runs_at t s j ≡ true → (n m : ℕ) → n ≡ tally 32 32 (drop j s)
      → m ≡ tally 10 10 (drop j s) → tallied (clauses_at s v j) ≡ Ok (size n m)
  judged_counts hv lim h e n m en em =
      let k = judged_lines v t hv lim (get_or s (j - 4) 0) (get_or s (j - 3) 0) (get_or s (j - 2) 0) (drop j s)
      (subst (λ (p : ℕ). runs t (get_or s (j - 4) 0) (get_or s (j - 3) 0) (get_or s (j - 2) 0) p (drop j s) ≡ true) h e) in
      lines_tallied s v j k.cls k.spelled ∙ ap₂ (λ (x y : ℕ). Ok (size x y)) (sym en) (sym em)
