-- The place after a step, literal by literal; and what a call of the reader answers, from what its scans answer.
use Prim.Native.Nat.{ℕ, zero, suc, ◌-◌, ◌≤◌, ◌<◌}
use mathlib.Core.Path.{◌≡◌, refl, sym, ap, ap₂, ◌∙◌}
use mathlib.Core.List.{List, [], ◌∷◌}
use mathlib.Core.Bool.{Bool, true, false, ◌||◌}
use native.Mathlib.Omega.{arith}
use lib.Dec.{ltb}
use lib.ListN.{length, drop, take}
use lib.Seq.{sets}
use borrow.Author.Tests.{le-ltb}
use Rattle.base.specs.Choice.{pick}
use Rattle.base.specs.Answer.{accepted, refused}
use Rattle.drat.specs.Grammar.{Step}
use Rattle.drat.specs.Reading.{lead, Part, whole, broken, cons_part, One, got, fault, as_step, one_step, Proof, steps, fault_at, read_proof}
use Rattle.drat.specs.Filled.{end_of, counted, codes_of, Scan, Filling, refusing, filling, answer_of, read_of, read, ReadCall, first_token, first_by}
use Rattle.drat.specs.Filled.{first}
use Rattle.drat.specs.Writing.{part}
use Rattle.drat.specs.declared.Kind.{Kind}
use Rattle.drat.specs.declared.Format.{Format}
use Rattle.drat.specs.declared.ReadError.{ReadError}
use Rattle.drat.specs.declared.ReadError.TheVariants.{NotWhole, Room}
use Rattle.drat.proofs.Places.{step_at, step_moves}
use Rattle.drat.proofs.Separators.{lead_le}
use Rattle.drat.proofs.Sound.{Bytes, bytes_drop}
use Rattle.std.specs.Prelude.{Result, Ok, Err}
use Rattle.drat.specs.declared.Size.{Size}
use Rattle.drat.specs.Filled.{size}

unfoldable pub end_part : ℕ → Part → ℕ
end_part i (whole cs j) = j
end_part i broken = i

pub end_cons : (i c : ℕ) (p : Part) → end_part i (cons_part c p) ≡ end_part i p
unfolding end_part cons_part
end_cons i c (whole cs j) = refl
end_cons i c broken = refl

pub end_step : (i : ℕ) (k : Kind) (p : Part) → end_of i (as_step k p) ≡ end_part i p
unfolding end_part end_of as_step
end_step i k (whole cs j) = refl
end_step i k broken = refl

pub end_whole : (i : ℕ) (cs : List ℕ) (j : ℕ) → end_part i (whole cs j) ≡ j
unfolding end_part
end_whole i cs j = refl

pub end_broken : (i : ℕ) → end_part i broken ≡ i
unfolding end_part
end_broken i = refl

pub end_fault : (i : ℕ) → end_of i fault ≡ i
unfolding end_of
end_fault i = refl

pub step_is : (f : Format) (s : List ℕ) (i : ℕ) → step_at f s i ≡ one_step f i (drop i s)
unfolding step_at
step_is f s i = refl

-- what a scan's answer says of the bytes
pub size_parts : (n m i j : ℕ) → ◌≡◌ {A = Result Size ℕ} (Ok (size n m)) (Ok (size i j)) → (n ≡ i) × (m ≡ j)
size_parts n m i j e =
    let z : size n m ≡ size i j = cc in
    (ap (λ (w : Size). w.lits) z, ap (λ (w : Size). w.steps) z)

pub scan_whole : (p : Proof) (n m : ℕ) → Ok (size n m) ≡ counted p → (ss : List Step) × (p ≡ steps ss) × (n ≡ length (codes_of ss)) × (m ≡ length ss)
unfolding counted
scan_whole (steps ss) n m e = let z = size_parts n m _ _ e in (ss, refl, z.0, z.1)
scan_whole (fault_at i) n m e = let z : ◌≡◌ {A = ℕ} 0 1 = cc in absurd (omega arith)

scan_fault : (p : Proof) (i : ℕ) → Err i ≡ counted p → p ≡ fault_at i
unfolding counted
scan_fault (steps ss) i e = let z : ◌≡◌ {A = ℕ} 0 1 = cc in absurd (omega arith)
scan_fault (fault_at j) i e = cc

module _ (f : Format) (s : List ℕ) (a b c : ℕ) where
  pub answer_fault : (i : ℕ) → Err i ≡ counted (read_proof f s) → read_of f s a b c ≡ refusing 13 (i ∷ [])
  unfolding answer_of
  answer_fault i e = ap (λ (p : Proof). answer_of p a b c) (scan_fault (read_proof f s) i e)

  pub answer_steps : (ss : List Step) → read_proof f s ≡ steps ss
      → read_of f s a b c ≡ pick (ltb a (length (codes_of ss)) || ltb b (length ss) || ltb c (length ss)) (refusing 2 []) (filling ss)
  unfolding answer_of
  answer_steps ss e = ap (λ (p : Proof). answer_of p a b c) e

module _ (f : Format) (s codes ends kinds : List ℕ) where
  -- a call that refuses fills nothing
  pub call_refused : (r : Result Size ReadError) (n : ℕ) (vs : List ℕ) → read r ≡ refused n vs → read_of f s (length codes) (length ends) (length kinds) ≡ refusing n vs
      → ReadCall f s codes ends kinds codes ends kinds r
  call_refused r n vs e h =
      record {
        answer = e ∙ sym (ap (λ (x : Filling). x.answer) h);
        codes_after = sym (ap (λ (x : Filling). sets codes 0 x.codes) h);
        ends_after = sym (ap (λ (x : Filling). sets ends 0 x.ends) h);
        kinds_after = sym (ap (λ (x : Filling). sets kinds 0 x.kinds) h);
      }

  -- a call that fills all steps
  pub call_filled : (ss : List Step) → read_proof f s ≡ steps ss → length (codes_of ss) ≤ length codes → length ss ≤ length ends → length ss ≤ length kinds
      → (codes' ends' kinds' : List ℕ) (n m : ℕ) → Scan f s codes ends kinds codes' ends' kinds' (Ok (size n m))
      → ReadCall f s codes ends kinds codes' ends' kinds' (Ok (size n m))
  unfolding counted
  call_filled ss h ha hb hc codes' ends' kinds' n m q =
      let e = q.answer ∙ ap counted h in
      let z = size_parts n m _ _ e in
      let qn = z.0 in
      let qm = z.1 in
      let l = q.filled ss h in
      let a : read_of f s (length codes) (length ends) (length kinds) ≡ filling ss =
      answer_steps f s (length codes) (length ends) (length kinds) ss h ∙ simp (
        le-ltb (length codes) (length (codes_of ss)) ha,
        le-ltb (length ends) (length ss) hb,
        le-ltb (length kinds) (length ss) hc,
      ) in
      record {
        answer = ap₂ (λ (x y : ℕ). accepted (x ∷ y ∷ [])) qn qm ∙ sym (ap (λ (x : Filling). x.answer) a);
        codes_after = l.0 ∙ sym (ap (λ (x : Filling). sets codes 0 x.codes) a);
        ends_after = l.1 ∙ sym (ap (λ (x : Filling). sets ends 0 x.ends) a);
        kinds_after = l.2 ∙ sym (ap (λ (x : Filling). sets kinds 0 x.kinds) a);
      }

-- the answer's reading loses nothing
pub read_one : (x y : Result Size ReadError) → read x ≡ read y → x ≡ y
read_one (Ok v) (Ok w) e = let n : v.lits ≡ w.lits = cc in let m : v.steps ≡ w.steps = cc in ap₂ (λ (x y : ℕ). Ok (size x y)) n m
read_one (Ok v) (Err (NotWhole p)) e = let z : ◌≡◌ {A = ℕ} 0 1 = cc in absurd (omega arith)
read_one (Ok v) (Err Room) e = let z : ◌≡◌ {A = ℕ} 0 1 = cc in absurd (omega arith)
read_one (Err (NotWhole p)) (Ok w) e = let z : ◌≡◌ {A = ℕ} 0 1 = cc in absurd (omega arith)
read_one (Err (NotWhole p)) (Err (NotWhole q)) e = cc
read_one (Err (NotWhole p)) (Err Room) e = let z : ◌≡◌ {A = ℕ} 13 2 = cc in absurd (omega arith)
read_one (Err Room) (Ok w) e = let z : ◌≡◌ {A = ℕ} 0 1 = cc in absurd (omega arith)
read_one (Err Room) (Err (NotWhole p)) e = let z : ◌≡◌ {A = ℕ} 2 13 = cc in absurd (omega arith)
read_one (Err Room) (Err Room) e = refl

-- the first token's place is in the input
pub first_within : (f : Format) (s : List ℕ) → first_token f s ≤ length s
first_within f s = go (ltb (lead f s) (length s))
  where
    go : (t : Bool) → pick t (lead f s) 0 ≤ length s
    go true = lead_le f s
    go false = omega arith

-- the first step alone: its part is empty only where no step is whole
pub first_part : (f : Format) (s : List ℕ) → Bytes s → (i : ℕ) → i ≤ length s
    → first i (part i (end_of i (one_step f i (drop i s))) s) ≡ first_by i s (one_step f i (drop i s))
unfolding end_of first_by
first_part f s hb i h = go (one_step f i (drop i s)) refl
  where
    some : (j : ℕ) (l : List ℕ) → 0 < j → j ≤ length l → first i (take j l) ≡ accepted (take j l)
    some zero l p q = absurd (omega arith)
    some (suc j) [] p q = absurd (omega arith)
    some (suc j) (b ∷ l) p q = refl

    go : (o : One) → one_step f i (drop i s) ≡ o → first i (part i (end_of i o) s) ≡ first_by i s o
    go (got t j) e = let m = step_moves f i (drop i s) t j (bytes_drop i s hb) e in some (j - i) (drop i s) (omega (arith, m.0)) (omega (arith, m.1))
    go fault e =
        let z : i - i ≡ 0 = omega arith in
        ap (λ (n : ℕ). first i (take n (drop i s))) z
