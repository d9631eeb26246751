-- Where the reader answers with a place, the steps before it are whole and none is whole there.
use Prim.Native.Nat.{ℕ, zero, suc, ◌+◌, ◌-◌, ◌≤◌, ◌<◌}
use mathlib.Core.Path.{◌≡◌, refl, sym, ap, ap₂, ◌∙◌, subst}
use mathlib.Core.List.{List, [], ◌∷◌, ◌++◌, append_assoc, append-nil}
use mathlib.Core.Logic.{◌⊎◌, inl, inr}
use mathlib.Core.Bool.{true≢false}
use native.Mathlib.Omega.{arith}
use lib.ListN.{length, get_or, drop, length-append}
use lib.Seq.{drop_at, get_or-append-add}
use Rattle.drat.specs.Grammar.{Step, step_of, Sep, Seps, no_seps, sep_then, Lead, text_lead, no_lead, Free, at_end, at_sep, any_byte, Begins, Body, last}
use Rattle.drat.specs.Grammar.{lit, Spells, none}
use Rattle.drat.specs.Grammar.{step}
use Rattle.drat.specs.Reading.{lead, past, One, got, fault, one_step, Proof, steps, fault_at, cons_step, steps_from, read_proof}
use Rattle.drat.specs.declared.Kind.{Kind}
use Rattle.drat.specs.declared.Format.{Format}
use Rattle.drat.specs.declared.Format.TheVariants.{Text, Binary}
use Rattle.drat.proofs.Complete.{skip, step_clear, body_length, step_read, steps_got, steps_not, rest_past}
use Rattle.drat.proofs.Separators.{sep_is, Clear, Split, nothing_lead, lead_split, split_rest, lead_read, spells_lead}
use Rattle.drat.proofs.Sound.{Bytes, bytes_rest, bytes_drop, step_sound, rest_next, fault_got, steps_fault}
use Rattle.drat.proofs.Places.{step_moves}

-- a token of text may begin after l
pub data Fresh : Format → List ℕ → Type 0 where
  fresh_start : {f : Format} → Fresh f []
  fresh_sep : (l : List ℕ) {b : ℕ} → Sep b → Fresh Text (l ++ b ∷ [])
  fresh_byte : {l : List ℕ} → Fresh Binary l

-- the first step that is not whole starts after `before`, at place i + length before; a token begins there, and no whole step does
pub record FaultRead (f : Format) (i : ℕ) (l : List ℕ) (p : ℕ) : Type 0 where
  pub before : List ℕ
  pub rest : List ℕ
  pub ss : List Step
  pub split : l ≡ before ++ rest
  pub whole : Spells f before ss
  pub place : p ≡ i + length before
  pub fresh : Fresh f before
  pub more : 0 < length rest
  pub clear : Clear f rest
  pub not_whole : (k : Kind) (os bs r cs : List ℕ) → Begins f k os → Body f bs cs → Free f r → rest ≡ (os ++ bs) ++ r → ⊥

-- what may come next still may where the bytes end sooner
free_front : {f : Format} (a b : List ℕ) → Free f (a ++ b) → Free f a
free_front {f = Text} [] b h = at_end
free_front {f = Text} (x ∷ a) b (at_sep s) = at_sep s
free_front {f = Binary} a b h = any_byte

fresh_more : {f : Format} {l : List ℕ} (a : List ℕ) → Fresh f l → 0 < length l → Fresh f (a ++ l)
fresh_more a fresh_start h = absurd (omega arith)
fresh_more a (fresh_sep l {b = b} s) h = subst (Fresh Text) (append_assoc a l (b ∷ [])) (fresh_sep (a ++ l) s)
fresh_more a fresh_byte h = fresh_byte

fresh_front : {f : Format} (a l : List ℕ) → Fresh f a → Fresh f l → Fresh f (a ++ l)
fresh_front {f} a [] x y = subst (Fresh f) (sym (append-nil a)) x
fresh_front a (b ∷ l) x y = fresh_more a y (omega arith)

-- after a whole step in text there is a separator before the next token
some_between : {f : Format} (a r : List ℕ) → Free f (a ++ r) → Clear f r → 0 < length r → (f ≡ Binary) ⊎ (0 < length a)
some_between {f = Binary} a r h c m = inl refl
some_between {f = Text} (x ∷ a) r h c m = inr (omega arith)
some_between {f = Text} [] [] h c m = absurd (omega arith)
some_between {f = Text} [] (b ∷ r) (at_sep s) c m = absurd (true≢false (sym (sep_is s) ∙ c))

fresh_after : {f : Format} (a l : List ℕ) → Fresh f l → (f ≡ Binary) ⊎ (0 < length l) → Fresh f (a ++ l)
fresh_after a l x (inl e) = subst (λ (g : Format). Fresh g (a ++ l)) (sym e) fresh_byte
fresh_after a l x (inr h) = fresh_more a x h

fresh_seps : {ws : List ℕ} → Seps ws → Fresh Text ws
fresh_seps no_seps = fresh_start
fresh_seps (sep_then b no_seps) = fresh_sep [] b
fresh_seps (sep_then {b = x} b (sep_then c s)) = fresh_more (x ∷ []) (fresh_seps (sep_then c s)) (omega arith)

fresh_lead : {f : Format} {ws : List ℕ} → Lead f ws → Fresh f ws
fresh_lead (text_lead s) = fresh_seps s
fresh_lead no_lead = fresh_byte

-- bytes that may be passed, in front
front_fault : (f : Format) (i : ℕ) (l : List ℕ) (p : ℕ) (t : Split f l) → FaultRead f (i + lead f l) t.rest p → FaultRead f i l p
front_fault f i l p t r =
    record {
      before = t.front ++ r.before;
      rest = r.rest;
      ss = r.ss;
      split = t.split ∙ ap (λ (m : List ℕ). t.front ++ m) r.split ∙ sym (append_assoc t.front r.before r.rest);
      whole = spells_lead t.fronts r.whole;
      place = simp length-append (omega (arith, r.place, t.size));
      fresh = fresh_front t.front r.before (fresh_lead t.fronts) r.fresh;
      more = r.more;
      clear = r.clear;
      not_whole = r.not_whole;
    }

cons_fault : (s : Step) (q : Proof) (p : ℕ) → cons_step s q ≡ fault_at p → q ≡ fault_at p
unfolding cons_step
cons_fault s (steps ts) p e = let z : ◌≡◌ {A = ℕ} 0 1 = cc in absurd (omega arith)
cons_fault s (fault_at j) p e = e

fault_kept : (s : Step) (p : ℕ) → cons_step s (fault_at p) ≡ fault_at p
unfolding cons_step
fault_kept s p = refl

place_is : (i j : ℕ) → fault_at i ≡ fault_at j → i ≡ j
place_is i j e = cc

pub steps_fault_read : (f : Format) (n i : ℕ) (l : List ℕ) (p : ℕ) → Bytes l → Clear f l → length l ≤ n → steps_from f n i l ≡ fault_at p → FaultRead f i l p
unfolding steps_from
steps_fault_read f zero i [] p hb hc h e = absurd (steps_fault [] p (sym e))
steps_fault_read f zero i (b ∷ l) p hb hc h e = absurd (omega arith)
steps_fault_read f (suc n) i [] p hb hc h e = absurd (steps_fault [] p (sym e))
steps_fault_read f (suc n) i (b ∷ l) p hb hc h e = go (one_step f i (b ∷ l)) refl (λ j m. steps_fault_read f n j m p)
  where
    go : (o : One) → one_step f i (b ∷ l) ≡ o
        → ((j : ℕ) (m : List ℕ) → Bytes m → Clear f m → length m ≤ n → steps_from f n j m ≡ fault_at p → FaultRead f j m p)
        → FaultRead f i (b ∷ l) p
    go (got s j) o ih =
        let r = step_sound f i (b ∷ l) s j hb o in
        let bs = r.front ++ r.bytes in
        let k = past f i (b ∷ l) j in
        let d = rest_next f i j (b ∷ l) bs r.rest r.split r.place in
        let t = lead_split f r.rest in
        let m : drop (k - i) (b ∷ l) ≡ t.rest = d.1 ∙ split_rest f r.rest t in
        let v = step_moves f i (b ∷ l) s j hb o in
        let w : length t.rest ≤ n =
        omega (arith, v.0, r.place, h, ap length r.split ∙ length-append bs r.rest, ap length t.split ∙ length-append t.front t.rest) in
        let q = cons_fault s (steps_from f n k (drop (k - i) (b ∷ l))) p (sym (steps_got f n i (b ∷ l) s j o) ∙ e) in
        let x = ih k t.rest (subst Bytes m (bytes_drop (k - i) (b ∷ l) hb)) t.clear w (ap (steps_from f n k) (sym m) ∙ q) in
        let y = front_fault f j r.rest p t (subst (λ (z : ℕ). FaultRead f z t.rest p) d.0 x) in
        record {
          before = bs ++ y.before;
          rest = y.rest;
          ss = s ∷ y.ss;
          split = r.split ∙ ap (λ (z : List ℕ). bs ++ z) y.split ∙ sym (append_assoc bs y.before y.rest);
          whole = step (nothing_lead f) r.begins r.spelled (free_front y.before y.rest (subst (Free f) y.split r.free)) y.whole;
          place = omega (arith, y.place, r.place, length-append bs y.before);
          fresh = fresh_after bs y.before y.fresh (some_between y.before y.rest (subst (Free f) y.split r.free) y.clear y.more);
          more = y.more;
          clear = y.clear;
          not_whole = y.not_whole;
        }
    go fault o ih =
        record {
          before = [];
          rest = b ∷ l;
          ss = [];
          split = refl;
          whole = none (nothing_lead f);
          place = sym (place_is i p (sym (steps_not f n i b l o) ∙ e)) ∙ omega arith;
          fresh = fresh_start;
          more = omega arith;
          clear = hc;
          not_whole = λ k os bs r cs x y g z. fault_got (step_of k cs) (i + length (os ++ bs)) (sym o ∙ ap (one_step f i) z ∙ step_read x y i g);
        }

pub read_fault : (f : Format) (l : List ℕ) (p : ℕ) → Bytes l → read_proof f l ≡ fault_at p → FaultRead f 0 l p
unfolding read_proof
read_fault f l p hb e =
    let t = lead_split f l in
    let d = split_rest f l t in
    let z : 0 + lead f l ≡ lead f l = omega arith in
    front_fault f 0 l p t (steps_fault_read f (length l) (0 + lead f l) t.rest p (subst Bytes d (bytes_drop (lead f l) l hb)) t.clear
    (omega (arith, ap length t.split ∙ length-append t.front t.rest))
    (ap₂ (λ (x : ℕ) (m : List ℕ). steps_from f (length l) x m) z (sym d) ∙ e))

-- ---- such a place is the one answered, so there is one at most

-- a list's last word
end_word : (l : List ℕ) (b : ℕ) → get_or (l ++ b ∷ []) (length l) 0 ≡ b
end_word l b = let e : length l ≡ length l + 0 = omega arith in ap (λ (k : ℕ). get_or (l ++ b ∷ []) k 0) e ∙ get_or-append-add l (b ∷ []) 0 0

same_end : (l m : List ℕ) (b c : ℕ) → l ++ b ∷ [] ≡ m ++ c ∷ [] → b ≡ c
same_end l m b c e =
    let n : length l ≡ length m = omega (arith, sym (length-append l (b ∷ [])) ∙ ap length e ∙ length-append m (c ∷ [])) in
    sym (end_word l b) ∙ ap₂ (λ (x : List ℕ) (k : ℕ). get_or x k 0) e n ∙ end_word m c

fresh_end : (l m : List ℕ) (c : ℕ) → l ≡ m ++ c ∷ [] → Fresh Text l → Sep c
fresh_end l m c e fresh_start = absurd (omega (arith, ap length e, length-append m (c ∷ [])))
fresh_end l m c e (fresh_sep k {b = b} s) = subst Sep (same_end k m b c e) s

ends_so : (b : ℕ) (l : List ℕ) → (m : List ℕ) × (c : ℕ) × (b ∷ l ≡ m ++ c ∷ [])
ends_so b [] = ([], b, refl)
ends_so b (x ∷ l) = let r = ends_so x l in (b ∷ r.0, r.1, ap (λ (k : List ℕ). b ∷ k) r.2)

-- a text step ends with its 0, after which no token may begin
body_ends : {bs cs : List ℕ} → Body Text bs cs → (m : List ℕ) × (bs ≡ m ++ 48 ∷ [])
body_ends last = ([], refl)
body_ends (lit {bs = bs} p t) = let r = body_ends t in (bs ++ r.0, ap (λ (k : List ℕ). bs ++ k) r.1 ∙ sym (append_assoc bs r.0 (48 ∷ [])))

no_sep_zero : Sep 48 → ⊥
no_sep_zero s = true≢false (sym (sep_is s))

-- what may come next after a step inside `before`, and what is known of the rest of it
inner_free : {f : Format} {bs cs : List ℕ} (a r q : List ℕ) → Body f bs cs → Free f r → Fresh f ((a ++ bs) ++ r) → Free f (r ++ q) × Fresh f r
inner_free {f = Binary} a r q b h x = (any_byte, fresh_byte)
inner_free {f = Text} a [] q b h x =
    let m = body_ends b in
    absurd (no_sep_zero (fresh_end _ (a ++ m.0) 48
    (append-nil _ ∙ ap (λ (k : List ℕ). a ++ k) m.1 ∙ sym (append_assoc a m.0 (48 ∷ []))) x))
inner_free {f = Text} {bs = bs} a (c ∷ r) q b (at_sep s) x =
    let m = ends_so c r in
    let z = fresh_end _ ((a ++ bs) ++ m.0) m.1 (ap (λ (k : List ℕ). (a ++ bs) ++ k) m.2 ∙ sym (append_assoc (a ++ bs) m.0 (m.1 ∷ []))) x in
    (at_sep s, subst (Fresh Text) (sym m.2) (fresh_sep m.0 z))

-- where no whole step stands the reader finds none
not_got : (f : Format) (l : List ℕ) → Bytes l → ((k : Kind) (os bs r cs : List ℕ) → Begins f k os → Body f bs cs → Free f r → l ≡ (os ++ bs) ++ r → ⊥)
    → (i : ℕ) → one_step f i l ≡ fault
not_got f l hb h i = go (one_step f i l) refl
  where
    go : (o : One) → one_step f i l ≡ o → one_step f i l ≡ fault
    go (got s j) e =
        let r = step_sound f i l s j hb e in
        absurd (h s.kind r.front r.bytes r.rest s.lits r.begins r.spelled r.free r.split)
    go fault e = e

fault_here : (f : Format) (n i : ℕ) (q : List ℕ) → 0 < length q → length q ≤ n → one_step f i q ≡ fault → steps_from f n i q ≡ fault_at i
fault_here f zero i q m k h = absurd (omega arith)
fault_here f (suc n) i [] m k h = absurd (omega arith)
fault_here f (suc n) i (b ∷ q) m k h = steps_not f n i b q h

steps_fault_at : {f : Format} {bs : List ℕ} {ss : List Step} → Spells f bs ss → (q : List ℕ) → Fresh f bs → Clear f q → 0 < length q
    → ((j : ℕ) → one_step f j q ≡ fault) → (n i : ℕ) → length (bs ++ q) ≤ n
    → steps_from f n (i + lead f (bs ++ q)) (drop (lead f (bs ++ q)) (bs ++ q)) ≡ fault_at (i + length bs)
steps_fault_at {f} (none {ws = ws} w) q x c m h n i k =
    let e = lead_read w q c in
    ap₂ (λ (y z : ℕ). steps_from f n y (drop z (ws ++ q))) (ap (λ (y : ℕ). i + y) e) e
    ∙ ap (steps_from f n (i + length ws)) (drop_at ws q (length ws) refl)
    ∙ fault_here f n (i + length ws) q m (omega (arith, k, length-append ws q)) (h (i + length ws))
steps_fault_at {f} (step {ws = ws} {os = o} {bs = bs} {rest = r} w b p g t) q x c m h zero i k =
    absurd (omega (arith, k, m, length-append (ws ++ ((o ++ bs) ++ r)) q))
steps_fault_at {f} (step {ws = ws} {os = o} {bs = bs} {rest = r} {cs = cs} {ss = ss} {k = kind} w b p g t) q x c m h (suc n) i k =
    let l = (o ++ bs) ++ (r ++ q) in
    let a = i + length ws in
    let whole : (ws ++ ((o ++ bs) ++ r)) ++ q ≡ ws ++ l = append_assoc ws ((o ++ bs) ++ r) q ∙ ap (λ (y : List ℕ). ws ++ y) (append_assoc (o ++ bs) r q) in
    let flat : ws ++ ((o ++ bs) ++ r) ≡ ((ws ++ o) ++ bs) ++ r =
    sym (append_assoc ws (o ++ bs) r) ∙ ap (λ (y : List ℕ). y ++ r) (sym (append_assoc ws o bs)) in
    let v = inner_free (ws ++ o) r q p g (subst (Fresh f) flat x) in
    let e = lead_read w l (step_clear b p (r ++ q)) in
    let ih = steps_fault_at t q v.1 c m h n (a + length (o ++ bs))
    (omega (arith, k, body_length p, ap length whole, length-append ws l, length-append (o ++ bs) (r ++ q), length-append o bs)) in
    ap (λ (y : List ℕ). steps_from f (suc n) (i + lead f y) (drop (lead f y) y)) whole
    ∙ ap₂ (λ (y z : ℕ). steps_from f (suc n) y (drop z (ws ++ l))) (ap (λ (y : ℕ). i + y) e) e
    ∙ ap (steps_from f (suc n) a) (drop_at ws l (length ws) refl)
    ∙ steps_got f n a l (step_of kind cs) (a + length (o ++ bs)) (step_read b p a v.0)
    ∙ ap₂ (λ (y : ℕ) (z : List ℕ). cons_step (step_of kind cs) (steps_from f n y z))
    (ap (λ (y : List ℕ). a + length (o ++ bs) + lead f y) (skip a (o ++ bs) (r ++ q))) (rest_past f a (o ++ bs) (r ++ q))
    ∙ ap (cons_step (step_of kind cs)) ih
    ∙ fault_kept (step_of kind cs) (a + length (o ++ bs) + length r)
    ∙ ap fault_at (omega (arith, length-append ws ((o ++ bs) ++ r), length-append (o ++ bs) r))

pub fault_read : (f : Format) (l : List ℕ) (p : ℕ) → Bytes l → FaultRead f 0 l p → read_proof f l ≡ fault_at p
unfolding read_proof
fault_read f l p hb r =
    let z : lead f l ≡ 0 + lead f l = omega arith in
    let e = r.split in
    let h = not_got f r.rest (bytes_rest l r.before r.rest hb e) r.not_whole in
    ap (λ (y : ℕ). steps_from f (length l) y (drop (lead f l) l)) z
    ∙ ap (λ (y : List ℕ). steps_from f (length l) (0 + lead f y) (drop (lead f y) y)) e
    ∙ steps_fault_at r.whole r.rest r.fresh r.clear r.more h (length l) 0 (omega (arith, ap length e))
    ∙ sym (ap fault_at r.place)

pub one_fault : (f : Format) (l : List ℕ) (p q : ℕ) → Bytes l → FaultRead f 0 l p → FaultRead f 0 l q → p ≡ q
one_fault f l p q hb x y = place_is p q (sym (fault_read f l p hb x) ∙ fault_read f l q hb y)
