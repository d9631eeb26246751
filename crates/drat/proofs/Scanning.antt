-- The reader's two loops, turn by turn: what holds before a turn holds after it, and what the ways out answer.
use Prim.Native.Nat.{ℕ, suc, ◌+◌, ◌≤◌, ◌<◌}
use mathlib.Core.Path.{◌≡◌, refl, sym, ap, ap₂, ◌∙◌}
use mathlib.Core.List.{List, [], ◌∷◌, ◌++◌, append_assoc, append-nil}
use native.Mathlib.Omega.{arith}
use lib.ListN.{length, drop, set, length-append}
use lib.Seq.{sets}
use Rattle.base.proofs.SetsLaws.{sets_append, store_next}
use Rattle.drat.specs.Grammar.{Step, step_of}
use Rattle.drat.specs.Reading.{token, opening, Part, whole, broken, cons_part, got, as_step, Proof, steps, fault_at, cons_step, read_proof}
use Rattle.drat.specs.Filled.{kind_number, codes_of, ends_from, kinds_of, counted, Scan}
use Rattle.drat.specs.declared.Kind.{Kind}
use Rattle.drat.specs.declared.Format.{Format}
use Rattle.drat.specs.declared.Token.TheVariants.{Lit, Stop}
use Rattle.drat.proofs.Sound.{Bytes, steps_fault, steps_part}
use Rattle.drat.proofs.Places.{body_at, step_at, proof_at, token_at, token_le, lit_at, stop_at, bad_at, opens_at, wrong_at_lem, got_at, fault_at_lem, end_at}
use Rattle.drat.proofs.Places.{proof_at_zero}
use Rattle.std.specs.Prelude.{Some, None, Ok, Err}
use Rattle.drat.specs.Filled.{size}
use Rattle.drat.specs.Reading.{opens}

-- what was read before, in front of the rest
unfoldable pub prepend : List ℕ → Part → Part
prepend ds (whole cs j) = whole (ds ++ cs) j
prepend ds broken = broken

unfoldable pub prepend_steps : List Step → Proof → Proof
prepend_steps ss (steps ts) = steps (ss ++ ts)
prepend_steps ss (fault_at i) = fault_at i

prepend_nil : (p : Part) → p ≡ prepend [] p
unfolding prepend
prepend_nil (whole cs j) = refl
prepend_nil broken = refl

prepend_snoc : (ds : List ℕ) (c : ℕ) (p : Part) → prepend ds (cons_part c p) ≡ prepend (ds ++ c ∷ []) p
unfolding prepend cons_part
prepend_snoc ds c (whole cs j) = ap (λ (l : List ℕ). whole l j) (sym (append_assoc ds (c ∷ []) cs))
prepend_snoc ds c broken = refl

steps_nil : (p : Proof) → p ≡ prepend_steps [] p
unfolding prepend_steps
steps_nil (steps ts) = refl
steps_nil (fault_at i) = refl

steps_snoc : (ss : List Step) (s : Step) (p : Proof) → prepend_steps ss (cons_step s p) ≡ prepend_steps (ss ++ s ∷ []) p
unfolding prepend_steps cons_step
steps_snoc ss s (steps ts) = ap steps (sym (append_assoc ss (s ∷ []) ts))
steps_snoc ss s (fault_at i) = refl

-- one step more at the end of what is filled
pub codes_of_append : (ss ts : List Step) → codes_of (ss ++ ts) ≡ codes_of ss ++ codes_of ts
unfolding codes_of
codes_of_append [] ts = refl
codes_of_append (s ∷ ss) ts = ap (λ (l : List ℕ). s.lits ++ l) (codes_of_append ss ts) ∙ sym (append_assoc s.lits (codes_of ss) (codes_of ts))

pub codes_snoc : (ss : List Step) (s : Step) → codes_of (ss ++ s ∷ []) ≡ codes_of ss ++ s.lits
unfolding codes_of
codes_snoc ss s = codes_of_append ss (s ∷ []) ∙ ap (λ (l : List ℕ). codes_of ss ++ l) (append-nil s.lits)

kinds_snoc : (ss : List Step) (s : Step) → kinds_of (ss ++ s ∷ []) ≡ kinds_of ss ++ kind_number s.kind ∷ []
unfolding kinds_of
kinds_snoc [] s = refl
kinds_snoc (t ∷ ss) s = ap (λ (l : List ℕ). kind_number t.kind ∷ l) (kinds_snoc ss s)

pub ends_snoc : (n : ℕ) (ss : List Step) (s : Step) → ends_from n (ss ++ s ∷ []) ≡ ends_from n ss ++ (n + length (codes_of ss) + length s.lits) ∷ []
unfolding ends_from codes_of
ends_snoc n [] s = ap (λ (k : ℕ). (k + length s.lits) ∷ []) (omega arith)
ends_snoc n (t ∷ ss) s =
    let e : n + length t.lits + length (codes_of ss) ≡ n + length (t.lits ++ codes_of ss) = simp length-append (omega arith) in
    ap (λ (l : List ℕ). (n + length t.lits) ∷ l) (ends_snoc (n + length t.lits) ss s
    ∙ ap (λ (k : ℕ). ends_from (n + length t.lits) ss ++ (k + length s.lits) ∷ []) e)

kinds_length : (ss : List Step) → length (kinds_of ss) ≡ length ss
unfolding kinds_of
kinds_length [] = refl
kinds_length (t ∷ ss) = ap suc (kinds_length ss)

pub ends_length : (n : ℕ) (ss : List Step) → length (ends_from n ss) ≡ length ss
unfolding ends_from
ends_length n [] = refl
ends_length n (t ∷ ss) = ap suc (ends_length (n + length t.lits) ss)

-- inside a step: the literals ds were read from place at₀ on
pub record Inner (f : Format) (s codes₀ : List ℕ) (at₀ n₀ : ℕ) (codes : List ℕ) (at n : ℕ) : Type 0 where
  pub ds : List ℕ
  pub within : at ≤ length s
  pub after : at₀ ≤ at
  pub small : n ≤ at
  pub read : body_at f s at₀ ≡ prepend ds (body_at f s at)
  pub count : n ≡ n₀ + length ds
  pub held : codes ≡ sets codes₀ n₀ ds

-- between steps: the steps ss were read from the start on
pub record Outer (f : Format) (s codes₀ ends₀ kinds₀ codes ends kinds : List ℕ) (at n m : ℕ) : Type 0 where
  pub ss : List Step
  pub within : at ≤ length s
  pub small : (n ≤ at) × (m ≤ at)
  pub read : read_proof f s ≡ prepend_steps ss (proof_at f s at)
  pub count : (n ≡ length (codes_of ss)) × (m ≡ length ss)
  pub codes_held : codes ≡ sets codes₀ 0 (codes_of ss)
  pub ends_held : ends ≡ sets ends₀ 0 (ends_from 0 ss)
  pub kinds_held : kinds ≡ sets kinds₀ 0 (kinds_of ss)

pub inner_start : (f : Format) (s codes : List ℕ) (at n : ℕ) → at ≤ length s → n ≤ at → Inner f s codes at n codes at n
inner_start f s codes at n h g = record {
  ds = [];
  within = h;
  after = omega arith;
  small = g;
  read = prepend_nil (body_at f s at);
  count = omega arith;
  held =
      refl;
}

pub inner_more : (f : Format) (s codes₀ codes : List ℕ) (at₀ n₀ at n c j : ℕ) → Bytes s → Inner f s codes₀ at₀ n₀ codes at n → token f at (drop at s) ≡ Some (Lit c j)
    → Inner f s codes₀ at₀ n₀ (set codes n c) j (n + 1)
inner_more f s codes₀ codes at₀ n₀ at n c j hb r e =
    let l = lit_at f s hb at r.within c j e in
    record {
      ds = r.ds ++ c ∷ [];
      within = l.2;
      after = omega (arith, r.after);
      small = omega (arith, r.small);
      read = r.read ∙ ap (prepend r.ds) l.0 ∙ prepend_snoc r.ds c (body_at f s j);
      count = omega (arith, r.count, length-append r.ds (c ∷ []));
      held = store_next codes₀ _ r.ds n₀ n c r.held r.count;
    }

pub outer_start : (f : Format) (s codes ends kinds : List ℕ) → Bytes s → Outer f s codes ends kinds codes ends kinds (token_at f s 0) 0 0
unfolding codes_of ends_from kinds_of
outer_start f s codes ends kinds hb = record {
  ss = [];
  within = token_le f s hb 0 (omega arith);
  small = omega arith;
  read = proof_at_zero f s ∙ steps_nil (proof_at f s (token_at f s 0));
  count =
      (refl, refl);
  codes_held = refl;
  ends_held = refl;
  kinds_held = refl;
}

module _ (f : Format) (s codes₀ ends₀ kinds₀ codes₁ ends kinds : List ℕ) (start n₁ m : ℕ) (hb : Bytes s)
    (o : Outer f s codes₀ ends₀ kinds₀ codes₁ ends kinds start n₁ m) where
  -- a whole step
  pub outer_more : (k : Kind) (first : ℕ) → opening f start (drop start s) ≡ opens k first → (codes : List ℕ) (at n j : ℕ)
      → Inner f s codes₁ first n₁ codes at n → token f at (drop at s) ≡ Some (Stop j)
      → Outer f s codes₀ ends₀ kinds₀ codes (set ends m n) (set kinds m (kind_number k)) (token_at f s j) n (m + 1)
  unfolding as_step prepend
  outer_more k first e codes at n j r t =
      let a = opens_at f s hb start o.within k first e in
      let b = stop_at f s hb at r.within j t in
      let g : step_at f s start ≡ got (step_of k r.ds) j = a.0 ∙ ap (as_step k) (r.read ∙ ap (prepend r.ds) b.0)
      ∙ ap (λ (x : List ℕ). got (step_of k x) j) (append-nil r.ds) in
      let c = codes_snoc o.ss (step_of k r.ds) in
      let z : n₁ ≡ length (codes_of o.ss) → n₁ ≡ 0 + length (codes_of o.ss) = λ h. omega arith in
      let v : n ≡ 0 + length (codes_of o.ss) + length r.ds = omega (arith, r.count, o.count) in
      record {
        ss = o.ss ++ step_of k r.ds ∷ [];
        within = token_le f s hb j b.2;
        small = omega (arith, r.small, r.after, o.small, a.1, b.1);
        read = o.read ∙ ap (prepend_steps o.ss) (got_at f s hb start o.within (step_of k r.ds) j g)
            ∙ steps_snoc o.ss (step_of k r.ds) (proof_at f s (token_at f s j));
        count = (
          omega (arith, r.count, o.count, ap length c ∙ length-append (codes_of o.ss) r.ds),
          omega (arith, o.count, length-append o.ss (step_of k r.ds ∷ [])),
        );
        codes_held = r.held ∙ ap₂ (λ (x : List ℕ) (i : ℕ). sets x i r.ds) o.codes_held (z o.count.0)
            ∙ sym (sets_append (codes_of o.ss) r.ds codes₀ 0) ∙ sym (ap (sets codes₀ 0) c);
        ends_held = ap (λ (y : ℕ). set ends m y) v ∙ store_next ends₀ _ (ends_from 0 o.ss) 0 m (0 + length (codes_of o.ss) + length r.ds) o.ends_held
            (omega (arith, o.count, ends_length 0 o.ss)) ∙ sym (ap (sets ends₀ 0) (ends_snoc 0 o.ss (step_of k r.ds)));
        kinds_held = store_next kinds₀ _ (kinds_of o.ss) 0 m (kind_number k) o.kinds_held (omega (arith, o.count, kinds_length o.ss))
            ∙ sym (ap (sets kinds₀ 0) (kinds_snoc o.ss (step_of k r.ds)));
      }

  -- a fault: the answer is the step's start
  stopped : proof_at f s start ≡ fault_at start → (codes ends' kinds' : List ℕ) → Scan f s codes₀ ends₀ kinds₀ codes ends' kinds' (Err start)
  unfolding prepend_steps counted
  stopped e codes ends' kinds' =
      let p : read_proof f s ≡ fault_at start = o.read ∙ ap (prepend_steps o.ss) e in
      record { answer = sym (ap counted p); filled = λ ss q. absurd (steps_fault ss start (sym p ∙ q)) }

  pub outer_wrong : start < length s → opening f start (drop start s) ≡ None → (codes ends' kinds' : List ℕ)
      → Scan f s codes₀ ends₀ kinds₀ codes ends' kinds' (Err start)
  outer_wrong h e = stopped (fault_at_lem f s hb start h (wrong_at_lem f s hb start e))

  pub outer_bad : start < length s → (k : Kind) (first : ℕ) → opening f start (drop start s) ≡ opens k first → (codes : List ℕ) (at n : ℕ)
      → Inner f s codes₁ first n₁ codes at n → token f at (drop at s) ≡ None
      → (codes ends' kinds' : List ℕ) → Scan f s codes₀ ends₀ kinds₀ codes ends' kinds' (Err start)
  unfolding as_step prepend
  outer_bad h k first e codes at n r t =
      let a = opens_at f s hb start o.within k first e in
      stopped (fault_at_lem f s hb start h (a.0 ∙ ap (as_step k) (r.read ∙ ap (prepend r.ds) (bad_at f s hb at t))))

  -- the end: all steps were whole
  pub outer_end : length s ≤ start → Scan f s codes₀ ends₀ kinds₀ codes₁ ends kinds (Ok (size n₁ m))
  unfolding prepend_steps counted
  outer_end h =
      let p : read_proof f s ≡ steps o.ss = o.read ∙ ap (prepend_steps o.ss) (end_at f s hb start h) ∙ ap steps (append-nil o.ss) in
      record {
        answer = ap₂ (λ (x y : ℕ). Ok (size x y)) o.count.0 o.count.1 ∙ sym (ap counted p);
        filled = λ ss q. let e = steps_part o.ss ss (sym p ∙ q) in (
          o.codes_held ∙ ap (λ (x : List Step). sets codes₀ 0 (codes_of x)) e,
          o.ends_held
              ∙ ap (λ (x : List Step). sets ends₀ 0 (ends_from 0 x)) e,
          o.kinds_held ∙ ap (λ (x : List Step). sets kinds₀ 0 (kinds_of x)) e,
        );
      }
