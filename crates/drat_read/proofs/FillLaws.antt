-- The fill from step to step: all steps are whole, so that each turn fills one more.
use Prim.Native.Nat.{ℕ, ◌+◌, ◌≤◌, ◌<◌}
use mathlib.Core.Bool.{Bool, true, false, ◌||◌}
use mathlib.Core.List.{List, [], ◌∷◌, ◌++◌}
use mathlib.Core.Path.{◌≡◌, refl, sym, ap, ap₂, ◌∙◌, subst, subst₂}
use lib.Dec.{ltb}
use lib.ListN.{length, drop, set, length-append}
use lib.Seq.{sets}
use native.Mathlib.Numerals.{add-one}
use native.Mathlib.Omega.{arith}
use borrow.Author.Tests.{ltb-false}
use Rattle.base.proofs.MemberLaws.{or_left, or_right}
use Rattle.base.specs.Choice.{pick}
use Rattle.drat.proofs.Ends.{step_is, scan_whole, answer_steps, call_filled}
use Rattle.drat.proofs.Places.{body_at, step_at, proof_at, opens_at, stop_at, got_at, fault_at_lem, token_at}
use Rattle.drat.proofs.Scanning.{prepend_steps, codes_of_append, Inner, Outer, inner_start, inner_more, outer_more, outer_end}
use Rattle.drat.proofs.Sound.{Bytes, as_step_lem, cons_step_lem, steps_fault}
use Rattle.drat.specs.Filled.{kind_number, codes_of, counted, refusing, filling, Scan, ReadCall}
use Rattle.drat.specs.Grammar.{Step}
use Rattle.drat.specs.Reading.{token, opening, whole, One, got, fault, one_step, Proof, steps, fault_at, read_proof}
use Rattle.drat.specs.declared.Format.{Format}
use Rattle.drat.specs.declared.Kind.{Kind}
use Rattle.drat.specs.declared.ReadError.TheVariants.{Room}
use Rattle.drat.specs.declared.Token.TheVariants.{Lit, Stop}
use Rattle.drat_judge.proofs.CountsLaws.{judged_size}
use Rattle.drat_judge.specs.Local.{judged}
use Rattle.drat_read.specs.Known.{StepsFit, Found, room_for, BodyFits, BodyFilled, IsStep}
use Rattle.drat_read.proofs.BodyLaws.{body_is, NextToken, stops, goes, next_token}
use Rattle.std.specs.Prelude.{Some, Ok, Err}
use Rattle.drat.specs.Filled.{size}
use Rattle.drat.specs.Reading.{opens}

-- ---- what a whole is made of
rest_steps : (ds : List Step) (p : Proof) (ss : List Step) → prepend_steps ds p ≡ steps ss → (ts : List Step) × (p ≡ steps ts) × (ss ≡ ds ++ ts)
unfolding prepend_steps
rest_steps ds (steps ts) ss e = (ts, refl, cc)
rest_steps ds (fault_at i) ss e = absurd (steps_fault ss i e)

codes_more : (ss ts : List Step) (t : Step) → length (codes_of ss) + length t.lits ≤ length (codes_of (ss ++ t ∷ ts))
unfolding codes_of
codes_more ss ts t =
    omega (arith, ap length (codes_of_append ss (t ∷ ts)), length-append (codes_of ss) (t.lits ++ codes_of ts), length-append t.lits (codes_of ts))

-- literals that were filled, one by one
along : (f : Format) (s : List ℕ) → Bytes s → (rest codes₁ codes₂ : List ℕ) (at₁ n₁ at₂ n₂ j : ℕ) → Inner f s codes₁ at₁ n₁ codes₂ at₂ n₂
    → body_at f s at₂ ≡ whole rest j → (z : ℕ) × Inner f s codes₁ at₁ n₁ (sets codes₂ n₂ rest) z (n₂ + length rest) × (token f z (drop z s) ≡ Some (Stop j))
along f s hb [] codes₁ codes₂ at₁ n₁ at₂ n₂ j i e = go (next_token f s at₂ [] j hb i.within e)
  where
    go : NextToken f s at₂ [] j → (z : ℕ) × Inner f s codes₁ at₁ n₁ codes₂ z (n₂ + 0) × (token f z (drop z s) ≡ Some (Stop j))
    go (stops t q k) = let z : n₂ ≡ n₂ + 0 = omega arith in (at₂, subst (Inner f s codes₁ at₁ n₁ codes₂ at₂) z i, t)
    go (goes c k ds t q b u v) = let z : ◌≡◌ {A = ℕ} 0 1 = cc in absurd (omega arith)
along f s hb (x ∷ rest) codes₁ codes₂ at₁ n₁ at₂ n₂ j i e = go (next_token f s at₂ (x ∷ rest) j hb i.within e)
    (λ codes k n. along f s hb rest codes₁ codes at₁ n₁ k n j)
  where
    go : NextToken f s at₂ (x ∷ rest) j
        → ((codes : List ℕ) (k n : ℕ) → Inner f s codes₁ at₁ n₁ codes k n → body_at f s k ≡ whole rest j → (z : ℕ)
        × Inner f s codes₁ at₁ n₁ (sets codes n rest) z (n + length rest) × (token f z (drop z s) ≡ Some (Stop j)))
        → (z : ℕ) × Inner f s codes₁ at₁ n₁ (sets codes₂ n₂ (x ∷ rest)) z (n₂ + length (x ∷ rest)) × (token f z (drop z s) ≡ Some (Stop j))
    go (stops t q k) ih = let z : ◌≡◌ {A = ℕ} 0 1 = cc in absurd (omega arith)
    go (goes c k ds t q b u v) ih =
        let qx : c ≡ x = cc in
        let qr : ds ≡ rest = cc in
        let g = ih (set codes₂ n₂ x) k (n₂ + 1) (inner_more f s codes₁ codes₂ at₁ n₁ at₂ n₂ x k hb i (t ∙ ap (λ (y : ℕ). Some (Lit y k)) qx))
        (b ∙ ap (λ (y : List ℕ). whole y j) qr) in
        let w : n₂ + 1 + length rest ≡ n₂ + length (x ∷ rest) = omega arith in
        (g.0, subst₂ (λ (y : ℕ) (l : ℕ). Inner f s codes₁ at₁ n₁ (sets (set codes₂ n₂ x) y rest) g.0 l) (add-one n₂) w g.1, g.2)

module _ (f : Format) (s codes₀ ends₀ kinds₀ codes ends kinds : List ℕ) (at n m : ℕ) (hb : Bytes s) (o : Outer f s codes₀ ends₀ kinds₀ codes ends kinds at n m)
  where
    -- the step at a place before the end, and those after it
    record Coming (ss : List Step) : Type 0 where
      now : Step
      end : ℕ
      later : List Step
      here : step_at f s at ≡ got now end
      all : ss ≡ o.ss ++ now ∷ later

    coming : (ss : List Step) → read_proof f s ≡ steps ss → at < length s → Coming ss
    coming ss e h = go (step_at f s at) refl
      where
        r : (ts : List Step) × (proof_at f s at ≡ steps ts) × (ss ≡ o.ss ++ ts)
        r = rest_steps o.ss (proof_at f s at) ss (sym o.read ∙ e)

        go : (t : One) → step_at f s at ≡ t → Coming ss
        go (got t j) g =
            let q = cons_step_lem t (proof_at f s (token_at f s j)) r.0 (sym (got_at f s hb at o.within t j g) ∙ r.1) in
            record { now = t; end = j; later = q.0; here = g; all = r.2 ∙ ap (λ (l : List Step). o.ss ++ l) (sym q.2) }
        go fault g = absurd (steps_fault r.0 at (sym (fault_at_lem f s hb at h g) ∙ r.1))

    module _ (a b c : ℕ) (w : StepsFit f s a b c) (h : at < length s) where
      pub fill_here : IsStep (one_step f at (drop at s))
      fill_here = let g = coming w.ss w.reads h in record { step = g.now; end = g.end; is = sym (step_is f s at) ∙ g.here }

      pub fill_opens : (k : Kind) (first : ℕ) → opening f at (drop at s) ≡ opens k first → BodyFits f s first n a
      fill_opens k first e =
          let g = coming w.ss w.reads h in
          let x = opens_at f s hb at o.within k first e in
          let p = as_step_lem k (body_at f s first) g.now g.end (sym x.0 ∙ g.here) in
          let l : length g.now.lits ≡ length p.0 = sym (ap (λ (t : Step). length t.lits) p.2) in
          record {
            cs = p.0;
            end = g.end;
            inside = x.2;
            low = omega (arith, o.small, x.1);
            reads = sym (body_is f s first) ∙ p.1;
            fits = omega (arith, o.count, codes_more o.ss g.later g.now, w.codes_fit, ap (λ (t : List Step). length (codes_of t)) g.all);
          }

      pub fill_room : (m < b) × (m < c)
      fill_room =
          let g = coming w.ss w.reads h in
          let l = ap length g.all ∙ length-append o.ss (g.now ∷ g.later) in
          (omega (arith, o.count, w.ends_fit), omega (arith, o.count, w.kinds_fit))

    -- one step more
    pub fill_step : (k : Kind) (first : ℕ) → opening f at (drop at s) ≡ opens k first → (codes' : List ℕ) (at' n' : ℕ)
        → BodyFilled f s first n codes codes' at' n'
        → (at < at') × Outer f s codes₀ ends₀ kinds₀ codes' (set ends m n') (set kinds m (kind_number k)) (token_at f s at') n' (m + 1)
    fill_step k first e codes' at' n' b =
        let x = opens_at f s hb at o.within k first e in
        let g = along f s hb b.cs codes codes first n first n at' (inner_start f s codes first n x.2 (omega (arith, x.1, o.small)))
        (body_is f s first ∙ b.reads) in
        let i : Inner f s codes first n codes' g.0 n' = subst₂ (λ (y : List ℕ) (l : ℕ). Inner f s codes first n y g.0 l) (sym b.held) (sym b.count)
        g.1 in (
          omega (arith, x.1, i.after, stop_at f s hb g.0 i.within at' g.2),
          outer_more f s codes₀ ends₀ kinds₀ codes ends kinds at n m hb o k first e
              codes' g.0 n' at' i g.2,
        )

    -- no step more
    pub fill_end : length s ≤ at → Scan f s codes₀ ends₀ kinds₀ codes ends kinds (Ok (size n m))
    fill_end h = outer_end f s codes₀ ends₀ kinds₀ codes ends kinds at n m hb o h

-- the numbers of literals and of steps say whether slices hold them
pub whole_found : (f : Format) (s : List ℕ) (n m a b c : ℕ) → Ok (size n m) ≡ counted (read_proof f s) → Found f s a b c (room_for (size n m) a b c)
whole_found f s n m a b c e = go (ltb a n || ltb b m || ltb c m) refl
  where
    w : (ss : List Step) × (read_proof f s ≡ steps ss) × (n ≡ length (codes_of ss)) × (m ≡ length ss)
    w = scan_whole (read_proof f s) n m e

    go : (t : Bool) → ltb a n || ltb b m || ltb c m ≡ t → Found f s a b c (pick t (Err Room) (Ok tt))
    go true h = answer_steps f s a b c w.0 w.1
        ∙ ap₂ (λ (x y : ℕ). pick (ltb a x || ltb b y || ltb c y) (refusing 2 []) (filling w.0)) (sym w.2) (sym w.3)
        ∙ ap (λ (t : Bool). pick t (refusing 2 []) (filling w.0)) h
    go false h =
        let r = or_left (ltb a n || ltb b m) (ltb c m) h in
        record {
          ss = w.0;
          reads = w.1;
          codes_fit = omega (arith, ltb-false a n (or_left (ltb a n) (ltb b m) r), w.2);
          ends_fit = omega (arith, ltb-false b m (or_right (ltb a n) (ltb b m) r), w.3);
          kinds_fit = omega (arith, ltb-false c m (or_right (ltb a n || ltb b m) (ltb c m) h), w.3);
        }

-- slices with a word for each byte hold what is judged whole
pub ample_fits : (f : Format) (s : List ℕ) (a b c : ℕ) → Bytes s → judged f s ≡ true → length s ≤ a → length s ≤ b → length s ≤ c → StepsFit f s a b c
ample_fits f s a b c hb h ha hc hk =
    let j = judged_size f s hb h in
    record {
      ss = j.0;
      reads = j.1;
      codes_fit = omega (arith, j.2, ha);
      ends_fit = omega (arith, j.2, hc);
      kinds_fit = omega (arith, j.2, hk);
    }

-- what was filled is what the call answers
pub fits_call : (f : Format) (s codes ends kinds codes' ends' kinds' : List ℕ) (n m : ℕ) → StepsFit f s (length codes) (length ends) (length kinds)
    → Scan f s codes ends kinds codes' ends' kinds' (Ok (size n m)) → ReadCall f s codes ends kinds codes' ends' kinds' (Ok (size n m))
fits_call f s codes ends kinds codes' ends' kinds' n m h q =
    call_filled f s codes ends kinds h.ss h.reads h.codes_fit h.ends_fit h.kinds_fit codes' ends' kinds' n m q
