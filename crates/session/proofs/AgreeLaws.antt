-- What a ledger enters of an allowed move tells what the move does to the holders and to what is shown. So along a path of moves the ledger
-- and the table agree.
use Prim.Native.Nat.{ℕ, zero, suc, ◌+◌, ◌<◌}
use mathlib.Core.Path.{◌≡◌, refl, sym, ap, ◌∙◌}
use mathlib.Core.Bool.{Bool, true, false, ◌&&◌, ◌||◌, not}
use mathlib.Core.Logic.{◌≢◌}
use mathlib.Core.List.{List, [], ◌++◌}
use native.Mathlib.Omega.{arith}
use native.Mathlib.Decide.{ℕ_discrete}
use lib.Dec.{eqb}
use lib.ListN.{get_or, length, set}
use lib.Seq.{get_or-set_other, get_or-set_same}
use borrow.Author.Tests.{eq-eqb, ne_eqb}
use Rattle.base.specs.Choice.{pick}
use Rattle.scope.specs.Table.{Table, word, record_of, mode_of, is_shown, give_user, take_user, give_solver, take_solver, put_record, put_value, drop_global}
use Rattle.scope.specs.Sound.{Inverse, Sound}
use Rattle.scope.specs.Notes.{Note, held_by}
use Rattle.scope.specs.Entries.{Entry}
use Rattle.scope.specs.Open.{empty_table}
use Rattle.scope.proofs.SoundLaws.{shown_to, hidden_to}
use Rattle.scope.proofs.PairLaws.{below_mark, pair_flip}
use Rattle.scope.proofs.MoveLaws.{Move, apply, entries, Legal, gives_user, takes_user, gives_solver, takes_solver, puts_record}
use Rattle.scope.proofs.MoveLaws.{deletes_global, puts_value, tells_mode, hides_again, undeleted_below, move_sound, Path, stop, move}
use Rattle.scope.proofs.OpenLaws.{blank_at}
use Rattle.session.specs.Ledger.{notes_of, shown_by}
use Rattle.session.proofs.LedgerLaws.{lost, hold_all, show_all, held_append, shown_append, notes_append, hold_append, show_append}

-- ---- what is shown

shown_same : (r r' : ℕ) → r < 36 → r' < 36 → (mode_of r' ≢ 2 → mode_of r ≢ 2) → (mode_of r ≢ 2 → mode_of r' ≢ 2) → is_shown r ≡ is_shown r'
shown_same r r' h k a b = go (ℕ_discrete (mode_of r) 2)
  where
    go : Dec (mode_of r ≡ 2) → is_shown r ≡ is_shown r'
    go (yes e) = hidden_to r (λ q. q.1 e) ∙ sym (hidden_to r' (λ q. a q.1 e))
    go (no n) = shown_to r (h, n) ∙ sym (shown_to r' (k, b n))

-- a record put at g changes what is shown at g only
put_shown : (records : List ℕ) (g r k : ℕ) (b : Bool) → g < length records → is_shown r ≡ b
    → is_shown (get_or (set records g r) k 47) ≡ pick (eqb g k) b (is_shown (get_or records k 47))
put_shown records g r k b h e = go (ℕ_discrete k g)
  where
    go : Dec (k ≡ g) → is_shown (get_or (set records g r) k 47) ≡ pick (eqb g k) b (is_shown (get_or records k 47))
    go (yes q) = rw (q, eq-eqb g g refl, get_or-set_same records g r 47 h) e
    go (no q) = rw (ne_eqb g k (λ z. q (sym z)), get_or-set_other records g k r 47 q)

or_pick : (a b : Bool) → a || (not false && b) ≡ pick a true b
or_pick true b = refl
or_pick false b = refl

and_pick : (a b : Bool) → false || (not a && b) ≡ pick a false b
and_pick true b = refl
and_pick false b = refl

pick_at : (g k : ℕ) (f : ℕ → Bool) → pick (eqb g k) (f g) (f k) ≡ f k
pick_at g k f = go (ℕ_discrete g k)
  where
    go : Dec (g ≡ k) → pick (eqb g k) (f g) (f k) ≡ f k
    go (yes e) = rw (eq-eqb g k e) (ap f e)
    go (no n) = rw (ne_eqb g k n)

in_records : (t : Table) (g : ℕ) → Sound t → g < t.counts.global → g < length t.records
in_records t g p h = let z = p.sizes in omega arith

show_move : (m : Move) (t : Table) → Sound t → Legal m t → (k : ℕ) → show_all (entries m) k (is_shown (record_of t k)) ≡ is_shown (record_of (apply m t) k)
unfolding give_user take_user give_solver take_solver put_record drop_global put_value
show_move (gives_user g u r) t p l k =
    or_pick (eqb g k) (is_shown (record_of t k)) ∙ sym (put_shown t.records g r k true (rw p.sizes.records l.global) (shown_to r l.shown))
show_move (takes_user g u r) t p l k =
    and_pick (eqb g k) (is_shown (record_of t k))
    ∙ sym (put_shown t.records g r k false (in_records t g p (below_mark g u (pair_flip p.user) l.has)) (hidden_to r (λ q. q.1 l.hidden)))
show_move (gives_solver g s) t p l k = refl
show_move (takes_solver g s) t p l k = refl
show_move (puts_record g r) t p l k =
    sym (put_shown t.records g r k (is_shown (record_of t g)) (in_records t g p (undeleted_below t g p l.old))
    (sym (shown_same (record_of t g) r l.old l.new l.to l.from))
    ∙ pick_at g k (λ x. is_shown (record_of t x)))
show_move (deletes_global g) t p l k =
    and_pick (eqb g k) (is_shown (record_of t k))
    ∙ sym (put_shown t.records g (record_of t g + 36) k false (in_records t g p (undeleted_below t g p l.undeleted))
    (hidden_to (record_of t g + 36) (λ q. omega arith)))
show_move (puts_value s v) t p l k = refl
show_move (tells_mode g sample) t p l k = refl
show_move (hides_again g) t p l k =
    and_pick (eqb g k) (is_shown (record_of t k)) ∙ rw (← (hidden_to (record_of t g) l)) (pick_at g k (λ x. is_shown (record_of t x)))

-- ---- who holds an index

lost_none : (w : ℕ) → pick (lost (λ g. false) w) 0 w ≡ w
unfolding word
lost_none zero = refl
lost_none (suc w) = refl

give_held : (gs : List ℕ) (g s k : ℕ) → s < length gs
    → pick (eqb s k) (g + 1) (pick (lost (λ h. false) (get_or gs k 0)) 0 (get_or gs k 0)) ≡ get_or (set gs s (g + 1)) k 0
give_held gs g s k h = go (ℕ_discrete k s)
  where
    go : Dec (k ≡ s) → pick (eqb s k) (g + 1) (pick (lost (λ h. false) (get_or gs k 0)) 0 (get_or gs k 0)) ≡ get_or (set gs s (g + 1)) k 0
    go (yes q) = rw (q, eq-eqb s s refl, get_or-set_same gs s (g + 1) 0 h)
    go (no q) = rw (ne_eqb s k (λ z. q (sym z)), get_or-set_other gs s k (g + 1) 0 q) (lost_none (get_or gs k 0))

-- of two mutually inverse maps, the words that name g stand at one place
take_held : (gs sg : List ℕ) (g s k : ℕ) → Inverse gs sg → s < length gs → get_or sg g 0 ≡ s + 1
    → pick (lost (λ h. eqb g h) (get_or gs k 0)) 0 (get_or gs k 0) ≡ get_or (set gs s 0) k 0
unfolding word
take_held gs sg g s k inv h e = go (ℕ_discrete k s) (get_or gs k 0) refl
  where
    go : Dec (k ≡ s) → (w : ℕ) → get_or gs k 0 ≡ w → pick (lost (λ h. eqb g h) w) 0 w ≡ get_or (set gs s 0) k 0
    go (yes q) zero r = rw (q, get_or-set_same gs s 0 0 h)
    go (yes q) (suc x) r =
        let z = (inv s g).1 e in
        let y : get_or gs s 0 ≡ suc x = rw (← q) r in
        rw (q, eq-eqb g x (omega arith), get_or-set_same gs s 0 0 h)
    go (no q) zero r = rw (get_or-set_other gs s k 0 0 q) (sym r)
    go (no q) (suc x) r = rw (ne_eqb g x other, get_or-set_other gs s k 0 0 q) (sym r)
      where
        other : g ≡ x → ⊥
        other y =
            let z : get_or sg x 0 ≡ k + 1 = (inv k x).0 (omega arith) in
            let w : get_or sg g 0 ≡ k + 1 = rw y z in
            q (omega arith)

hold_move : (m : Move) (t : Table) → Sound t → Legal m t → (k : ℕ)
    → hold_all (notes_of (entries m)) k (get_or t.global_from_solver k 0) ≡ get_or (apply m t).global_from_solver k 0
unfolding notes_of give_user take_user give_solver take_solver put_record drop_global put_value
hold_move (gives_user g u r) t p l k = lost_none (get_or t.global_from_solver k 0)
hold_move (takes_user g u r) t p l k = lost_none (get_or t.global_from_solver k 0)
hold_move (gives_solver g s) t p l k = give_held t.global_from_solver g s k (let z = p.sizes in let y = l.mark in omega arith)
hold_move (takes_solver g s) t p l k =
    take_held t.global_from_solver t.solver_from_global g s k p.solver.inverse
    (let z = p.sizes in let y = below_mark s g p.solver ((p.solver.inverse s g).1 l) in omega arith) l
hold_move (puts_record g r) t p l k = refl
hold_move (deletes_global g) t p l k = lost_none (get_or t.global_from_solver k 0)
hold_move (puts_value s v) t p l k = refl
hold_move (tells_mode g sample) t p l k = lost_none (get_or t.global_from_solver k 0)
hold_move (hides_again g) t p l k = refl

-- ---- along a path

reach_hold : {b : Bool} {t t' : Table} {es : List Entry} → Path b t es t' → Sound t → (k : ℕ)
    → hold_all (notes_of es) k (get_or t.global_from_solver k 0) ≡ get_or t'.global_from_solver k 0
unfolding notes_of
reach_hold stop p k = refl
reach_hold (move {t = t} {es = es} m l f q r) p k =
    ap (λ (ns : List Note). hold_all ns k (get_or t.global_from_solver k 0)) (notes_append (entries m) es)
    ∙ hold_append (notes_of (entries m)) (notes_of es) k (get_or t.global_from_solver k 0)
    ∙ ap (λ (w : ℕ). hold_all (notes_of es) k w) (hold_move m t p l k)
    ∙ reach_hold r (move_sound m t p l) k

reach_show : {b : Bool} {t t' : Table} {es : List Entry} → Path b t es t' → Sound t → (k : ℕ)
    → show_all es k (is_shown (record_of t k)) ≡ is_shown (record_of t' k)
reach_show stop p k = refl
reach_show (move {t = t} {es = es} m l f q r) p k =
    show_append (entries m) es k (is_shown (record_of t k)) ∙ ap (λ (b : Bool). show_all es k b) (show_move m t p l k) ∙ reach_show r (move_sound m t p l) k

-- The entries so far tell the holders and what is shown.
pub record Agrees (log : List Entry) (t : Table) : Type 0 where
  pub held : (s : ℕ) → held_by (notes_of log) s ≡ get_or t.global_from_solver s 0
  pub seen : (g : ℕ) → shown_by log g ≡ is_shown (record_of t g)

pub reach_agrees : {b : Bool} {t t' : Table} {es : List Entry} (log : List Entry) → Path b t es t' → Sound t → Agrees log t → Agrees (log ++ es) t'
reach_agrees {b} {t} {t'} {es} log r p a =
    record {
      held = λ s.
          ap (λ (ns : List Note). held_by ns s) (notes_append log es)
          ∙ held_append (notes_of log) (notes_of es) s
          ∙ ap (λ (w : ℕ). hold_all (notes_of es) s w) (a.held s)
          ∙ reach_hold r p s;
      seen = λ g. shown_append log es g ∙ ap (λ (b : Bool). show_all es g b) (a.seen g) ∙ reach_show r p g;
    }

-- no entries tell the empty table
pub empty_agrees : (n : ℕ) → Agrees [] (empty_table n)
unfolding empty_table notes_of held_by shown_by
empty_agrees n = record { held = λ s. sym (blank_at n 0 s); seen = λ g. rw (blank_at n 47 g) (sym (hidden_to 47 (λ q. omega arith))) }
