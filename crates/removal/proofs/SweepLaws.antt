-- Within a sweep each held solver index has a global of its own, so what the first pass reads of an index is what the second one meets.
use Prim.Native.Nat.{ℕ, zero, suc, ◌+◌, ◌*◌, ◌≤◌, ◌<◌, ◌^◌}
use mathlib.Core.Path.{◌≡◌, refl, sym, ap, ◌∙◌}
use mathlib.Core.Bool.{Bool, true, false, ◌&&◌}
use mathlib.Core.List.{List, []}
use native.Mathlib.Numerals.{add-one}
use native.Mathlib.Omega.{arith}
use lib.Dec.{eqb}
use lib.ListN.{length, get_or}
use lib.Seq.{get_or-set_same}
use Rattle.base.specs.Choice.{pick}
use Rattle.scope.specs.Table.{Table, word, isolated_of, assumed_of, record_of, with_unit, put_record}
use Rattle.scope.specs.Sound.{Sound, soundb}
use Rattle.scope.specs.Outcome.{Result, stay, choose, each}
use Rattle.scope.specs.Remove.{remove_held, learn, sweep_held, sweep_one, sweep}
use Rattle.scope.proofs.SoundLaws.{sound_of}
use Rattle.scope.proofs.ResultLaws.{each_zero}
use Rattle.scope.proofs.RemoveLaws.{Swept, sweep_passed, learn_same}
use Rattle.changes.proofs.TurnLaws.{each_count}
use Rattle.removal.specs.Counting.{learnt, is_loose, swept_notes, notes_at, notes_by}
use Rattle.removal.proofs.CountingLaws.{removal_notes_lem, removal_few}
use Rattle.removal.proofs.HeldLaws.{holding_of}

-- what a value leaves of the record
record_learnt : (g s : ℕ) (t : Table) → g < length t.records → record_of (learn g s t) g ≡ learnt (record_of t g) (get_or t.assignment s 0)
unfolding learn learnt put_record word
record_learnt g s t l = go (get_or t.assignment s 0)
  where
    go : (v : ℕ) → record_of (word t (λ i. put_record g (with_unit (record_of t g) v) t) v) g ≡ word (record_of t g) (λ i. with_unit (record_of t g) v) v
    go zero = refl
    go (suc i) = get_or-set_same t.records g (with_unit (record_of t g) (suc i)) 47 l

choose_notes : (b : Bool) (x : Result (List ℕ)) (t : Table) → length (choose b x (stay [] t)).notes ≡ pick b (length x.notes) 0
unfolding choose
choose_notes true x t = refl
choose_notes false x t = refl

-- of a held index
swept_notes_lem : (g s : ℕ) (t : Table) → g < length t.records
    → length (sweep_held g s (learn g s t)).notes ≡ swept_notes (get_or t.user_from_global g 0) (record_of t g) (get_or t.assignment s 0)
unfolding sweep_held swept_notes
swept_notes_lem g s t l =
    let e = record_learnt g s t l in
    let u = (learn_same t g s).user_from_global in
    choose_notes (eqb (isolated_of (record_of (learn g s t) g)) 1 && eqb (assumed_of (record_of (learn g s t) g)) 0) (remove_held g s (learn g s t)) (learn g s t)
    ∙ ap (λ (n : ℕ). pick (eqb (isolated_of (record_of (learn g s t) g)) 1 && eqb (assumed_of (record_of (learn g s t) g)) 0) n 0) (removal_notes_lem g s (learn g s t))
    ∙ rw (e, u)

-- of an index whose global, if it is held, has a record
pub one_notes : (s : ℕ) (t : Table) → ((g : ℕ) → get_or t.global_from_solver s 0 ≡ g + 1 → g < length t.records) → length (sweep_one s t).notes ≡ notes_at t s
unfolding sweep_one notes_by word
one_notes s t h = go (get_or t.global_from_solver s 0) refl
  where
    go : (w : ℕ) → get_or t.global_from_solver s 0 ≡ w
        → length (word (stay [] t) (λ g. sweep_held g s (learn g s t)) w).notes ≡ word 0
        (λ g. swept_notes (get_or t.user_from_global g 0) (record_of t g) (get_or t.assignment s 0)) w
    go zero e = refl
    go (suc g) e = swept_notes_lem g s t (h g (e ∙ sym (add-one g)))

-- an index that is not swept yet
notes_ahead : (t : Table) (n : ℕ) (left : Table) → Swept t n left → notes_at left n ≡ notes_at t n
unfolding notes_by word
notes_ahead t n left a = rw (a.holders n (omega arith), a.user_from_global, a.assignment) (go (get_or t.global_from_solver n 0) refl)
  where
    go : (w : ℕ) → get_or t.global_from_solver n 0 ≡ w
        → word 0 (λ g. swept_notes (get_or t.user_from_global g 0) (record_of left g) (get_or t.assignment n 0)) w ≡ word 0
        (λ g. swept_notes (get_or t.user_from_global g 0) (record_of t g) (get_or t.assignment n 0)) w
    go zero e = refl
    go (suc g) e = ap (λ (r : ℕ). swept_notes (get_or t.user_from_global g 0) r (get_or t.assignment n 0)) (a.records n g (omega arith) (e ∙ sym (add-one g)))

-- one more index is counted
pub swept_more : (t : Table) → Sound t → (s n k : ℕ) → n ≡ length (each s sweep_one t).notes → k ≡ notes_at t s → n + k ≡ length (each (s + 1) sweep_one t).notes
swept_more t h s n k p q =
    let a = sweep_passed t h s in
    let x = each_count s sweep_one t in
    let y = one_notes s (each s sweep_one t).table (λ g e. (holding_of (each s sweep_one t).table a.sound s g e).held.live.words) in
    let z = notes_ahead t s (each s sweep_one t).table a in
    omega arith

pub swept_none : (t : Table) → 0 ≡ length (each 0 sweep_one t).notes
swept_none t = ap (λ (x : Result (List ℕ)). length x.notes) (sym (each_zero sweep_one t))

pub swept_end : (t : Table) (s n : ℕ) → s ≡ t.counts.solver → n ≡ length (each s sweep_one t).notes → n ≡ length (sweep t).notes
unfolding sweep
swept_end t s n e p = p ∙ ap (λ (i : ℕ). length (each i sweep_one t).notes) e

-- an index makes two notes at most
pub notes_few : (ug gs assignment records : List ℕ) (s : ℕ) → notes_by ug gs assignment records s ≤ 2
unfolding notes_by swept_notes word
notes_few ug gs assignment records s = go (get_or gs s 0)
  where
    few : (b : Bool) (n : ℕ) → n ≤ 2 → pick b n 0 ≤ 2
    few true n l = l
    few false n l = omega arith

    go : (w : ℕ) → word 0 (λ g. swept_notes (get_or ug g 0) (get_or records g 47) (get_or assignment s 0)) w ≤ 2
    go zero = omega arith
    go (suc g) = few (is_loose (learnt (get_or records g 47) (get_or assignment s 0))) _ (removal_few (get_or ug g 0) _)

-- a sweep makes two notes at most of each index
pub turns_few : (t : Table) → Sound t → (s : ℕ) → length (each s sweep_one t).notes ≤ 2 * s
turns_few t h zero = let e = swept_none t in omega arith
turns_few t h (suc s) =
    let x = turns_few t h s in
    let y = swept_more t h s _ _ refl refl in
    let w = notes_few t.user_from_global t.global_from_solver t.assignment t.records s in
    rw (← add-one s) (omega arith)

-- so that their number fits
pub count_fits : (t : Table) → soundb t ≡ true → (s n k : ℕ) → s < t.counts.solver → n ≡ length (each s sweep_one t).notes → k ≡ notes_at t s
    → n + k < 2 ^ 32
count_fits t y s n k l p q =
    let h = sound_of t y in
    let z = h.sizes in
    let x = turns_few t h s in
    let w = notes_few t.user_from_global t.global_from_solver t.assignment t.records s in
    omega arith

pub sweep_few : (t : Table) → Sound t → length (sweep t).notes ≤ 2 * t.counts.solver
unfolding sweep
sweep_few t h = turns_few t h t.counts.solver
