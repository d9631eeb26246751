-- What the grammar spells is read: the reader gives back the steps, and so the bytes have one reading.
use Prim.Native.Nat.{ℕ, zero, suc, ◌+◌, ◌-◌, ◌*◌, ◌≤◌, ◌<◌}
use mathlib.Core.Path.{◌≡◌, refl, sym, ap, ap₂, ◌∙◌}
use mathlib.Core.Bool.{true, false}
use mathlib.Core.List.{List, [], ◌∷◌, ◌++◌, append_assoc, append-nil}
use native.Mathlib.Omega.{arith}
use native.Mathlib.Nat.{mul-le-mul_left}
use lib.ListN.{length, get_or, drop, length-append, drop_of_length-le}
use lib.Seq.{drop_at, drop-drop, get_or-append-add}
use borrow.Author.Tests.{ne_eqb, lt-ltb, le-ltb}
use Rattle.drat.proofs.Numerals.{numeral_pos, is_in_range}
use Rattle.drat.specs.Numeral.{digit, decimal, leb128, Numeral, one, more}
use Rattle.drat.specs.Grammar.{Step, step_of, Gap, Free, at_end, at_sep, any_byte, Begins, bare, dee, letter_a, letter_d, stop, Signed, plus, minus}
use Rattle.drat.specs.Grammar.{Number, spaced, code, Body, last, lit, Spells, none, step, encode_step, encode, Valid}
use Rattle.drat.proofs.Separators.{sep_is, no_sep, Clear, gap_seps, seps_read, lead_read, lead_all, gap_first, gap_apart, gap_length}
use Rattle.drat.proofs.Written.{encode_spells}
use Rattle.drat.specs.Reading.{digits_from, signed_from, sep, seps, lead, past, then_gap, leb_from, close_from, token, gap_from, opening, whole, broken}
use Rattle.drat.specs.Reading.{cons_part, body, got, fault, as_step, one_step, steps, fault_at, cons_step, steps_from, read_proof}
use Rattle.drat.specs.declared.Kind.{Kind}
use Rattle.drat.specs.declared.Kind.TheVariants.{Add, Delete}
use Rattle.drat.specs.declared.Format.{Format}
use Rattle.drat.specs.declared.Format.TheVariants.{Text, Binary}
use Rattle.drat.specs.declared.Token.TheVariants.{Lit, Stop}
use Rattle.std.specs.Prelude.{Some, None}
use Rattle.drat.specs.Reading.{opens}

-- one decimal digit
pub digit_read : (sign v d i : ℕ) (l : List ℕ) → d < 10 → 0 < 10 * v + d → 10 * v + d ≤ 4096
    → digits_from sign v i ((48 + d) ∷ l) ≡ digits_from sign (10 * v + d) (i + 1) l
unfolding digits_from
digit_read sign v d i l hd h0 h1 =
    let e : 48 + d - 48 ≡ d = omega arith in
    simp (e, is_in_range 48 57 (48 + d) (omega arith) (omega arith), ne_eqb (10 * v + d) 0 (omega arith), le-ltb 4096 (10 * v + d) h1)

pub decimal_read : {bs : List ℕ} {v : ℕ} → Numeral decimal bs v → v ≤ 4096 → (sign i : ℕ) (l : List ℕ)
    → digits_from sign 0 i (bs ++ l) ≡ digits_from sign v (i + length bs) l
decimal_read (one {d = d} p q) h sign i l = digit_read sign 0 d i l q (omega arith) (omega arith) ∙ ap (λ (x : ℕ). digits_from sign x (i + 1) l) (omega arith)
decimal_read (more {d = d} {v = v} {bs = bs} p n) h sign i l =
    ap (digits_from sign 0 i) (append_assoc bs ((48 + d) ∷ []) l)
    ∙ decimal_read n (omega arith) sign i ((48 + d) ∷ l)
    ∙ digit_read sign v d (i + length bs) l p (omega (arith, numeral_pos decimal n)) (omega arith)
    ∙ ap₂ (λ (x j : ℕ). digits_from sign x j l) (omega arith) (simp length-append (omega arith))

pub leb_read : {bs : List ℕ} {n : ℕ} → Numeral leb128 bs n → (v w i : ℕ) (l : List ℕ) → 0 < w → 2 ≤ v + w * n → v + w * n ≤ 8193
    → leb_from v w i (bs ++ l) ≡ Some (Lit (v + w * n - 2) (i + length bs))
unfolding leb_from
leb_read (one {d = d} p q) v w i l hw h2 h = simp (lt-ltb d 128 q, ne_eqb d 0 (omega arith), le-ltb (v + w * d) 2 h2, le-ltb 8193 (v + w * d) h)
leb_read (more {d = d} {v = x} {bs = bs} p n) v w i l hw h2 h =
    let e : 128 + d - 128 ≡ d = omega arith in
    let s : w * 1 ≤ w * x = mul-le-mul_left w (numeral_pos leb128 n) in
    let b : w ≤ 64 = omega arith in
    simp (e, le-ltb (128 + d) 128 (omega arith), le-ltb 64 w b)
    (leb_read n (v + w * d) (w * 128) (i + 1) l (omega arith) (omega arith) (omega arith) ∙ ap₂ (λ (x y : ℕ). Some (Lit x y)) (omega arith) (omega arith))

-- no digit stands first
abbrev pub Apart : List ℕ → Type 0
Apart l = digit (get_or l 0 0) ≡ false

-- a run of digits ends before it
run_read : (sign x i : ℕ) (l : List ℕ) → Apart l → digits_from sign (x + 1) i l ≡ Some (Lit (2 * x + sign) i)
unfolding digits_from
run_read sign x i [] h = let e : x + 1 - 1 ≡ x = omega arith in simp (e, ne_eqb (x + 1) 0 (omega arith))
run_read sign x i (b ∷ l) h = let e : x + 1 - 1 ≡ x = omega arith in simp (h, e, ne_eqb (x + 1) 0 (omega arith))

pub decimal_first : {bs : List ℕ} {v : ℕ} → Numeral decimal bs v → (b : ℕ) × (m : List ℕ) × (bs ≡ b ∷ m) × (49 ≤ b) × (b ≤ 57)
decimal_first (one {d = d} p q) = (48 + d, [], refl, omega arith, omega arith)
decimal_first (more {d = d} p n) = let f = decimal_first n in (f.0, f.1 ++ (48 + d) ∷ [], ap (λ (m : List ℕ). m ++ (48 + d) ∷ []) f.2, f.3, f.4)

leb_first : {bs : List ℕ} {v : ℕ} → Numeral leb128 bs v → (b : ℕ) × (m : List ℕ) × (bs ≡ b ∷ m) × (0 < b)
leb_first (one {d = d} p q) = (d, [], refl, p)
leb_first (more {d = d} {bs = bs} p n) = (128 + d, bs, refl, omega arith)

leb_token : {bs : List ℕ} {v : ℕ} → Numeral leb128 bs v → (i : ℕ) (l : List ℕ) → token Binary i (bs ++ l) ≡ leb_from 0 1 i (bs ++ l)
unfolding token
leb_token n i l = let f = leb_first n in rw f.2 (simp (ne_eqb f.0 0 (omega arith)))

digits_read : {bs : List ℕ} {x : ℕ} → x < 4096 → Numeral decimal bs (x + 1) → (sign i : ℕ) (l : List ℕ) → Apart l
    → digits_from sign 0 i (bs ++ l) ≡ Some (Lit (2 * x + sign) (i + length bs))
digits_read {bs} {x} h n sign i l a = decimal_read n (omega arith) sign i l ∙ run_read sign x (i + length bs) l a

-- a number is read up to the byte after it
pub signed_read : {bs : List ℕ} {c : ℕ} → Signed bs c → (i : ℕ) (l : List ℕ) → Apart l → signed_from i (bs ++ l) ≡ Some (Lit c (i + length bs))
unfolding signed_from
signed_read (plus {bs = bs} {i = x} h n) i l a =
    let f = decimal_first n in
    let e : signed_from i (bs ++ l) ≡ digits_from 0 0 i (bs ++ l) = rw f.2 (simp (ne_eqb f.0 45 (omega arith))) in
    e ∙ digits_read h n 0 i l a ∙ ap (λ (y : ℕ). Some (Lit y (i + length bs))) (omega arith)
signed_read (minus {bs = bs} {i = x} h n) i l a = digits_read h n 1 (i + 1) l a ∙ ap (λ (y : ℕ). Some (Lit (2 * x + 1) y)) (omega arith)

-- past what was read
pub skip : (i : ℕ) (bs l : List ℕ) → drop (i + length bs - i) (bs ++ l) ≡ l
skip i bs l = drop_at bs l (i + length bs - i) (omega arith)

pub signed_first : {bs : List ℕ} {c : ℕ} → Signed bs c → (b : ℕ) × (m : List ℕ) × (bs ≡ b ∷ m) × (b < 100) × (b ≡ 48 → ⊥) × (45 ≤ b)
signed_first (plus h n) = let f = decimal_first n in (f.0, f.1, f.2, omega arith, λ e. omega arith, omega arith)
signed_first (minus {bs = bs} h n) = (45, bs, refl, omega arith, λ e. omega arith, omega arith)

-- a literal is read as one, with its separators where it has some
gap_follows : {bs gs : List ℕ} {c : ℕ} → Signed bs c → Gap gs → (i : ℕ) (l : List ℕ) → Clear Text l
    → token Text i (bs ++ (gs ++ l)) ≡ Some (Lit c (i + length bs + length gs))
unfolding token then_gap
gap_follows {bs} {gs} {c} n g i l h =
    let f = signed_first n in
    let m = bs ++ (gs ++ l) in
    let k : i + length bs - i ≡ length bs + 0 = omega arith in
    let b : sep (get_or m (i + length bs - i) 0) ≡ true =
    ap (λ (j : ℕ). sep (get_or m j 0)) k ∙ ap sep (get_or-append-add bs (gs ++ l) 0 0) ∙ gap_first g l in
    let e : token Text i m ≡ then_gap i m (signed_from i m) = rw f.2 (simp (ne_eqb f.0 48 f.4)) in
    e ∙ ap (then_gap i m) (signed_read n i (gs ++ l) (gap_apart g l)) ∙ (simp b)
    ∙ ap (λ (x : List ℕ). Some (Lit c (i + length bs + seps x))) (skip i bs (gs ++ l))
    ∙ ap (λ (x : ℕ). Some (Lit c (i + length bs + x))) (seps_read (gap_seps g) l h)

pub token_number : {f : Format} {bs : List ℕ} {c : ℕ} → Number f bs c → (i : ℕ) (l : List ℕ) → Clear f l → token f i (bs ++ l) ≡ Some (Lit c (i + length bs))
token_number (spaced {bs = bs} {gs = gs} {c = c} n g) i l h =
    ap (token Text i) (append_assoc bs gs l) ∙ gap_follows n g i l h ∙ ap (λ (x : ℕ). Some (Lit c x)) (simp length-append (omega arith))
token_number (code {bs = bs} {c = c} h n) i l _ =
    leb_token n i l ∙ leb_read n 0 1 i l (omega arith) (omega arith) (omega arith) ∙ ap (λ (y : ℕ). Some (Lit y (i + length bs))) (omega arith)

pub token_ends : {f : Format} {l : List ℕ} → Free f l → (i : ℕ) → token f i (stop f ++ l) ≡ Some (Stop (i + length (stop f)))
unfolding token close_from
token_ends at_end i = refl
token_ends (at_sep s) i = simp (sep_is s)
token_ends any_byte i = refl

-- a text step's first byte after its opening is no separator and no `d`
body_first : {bs cs : List ℕ} → Body Text bs cs → (b : ℕ) × (m : List ℕ) × (bs ≡ b ∷ m) × (b < 100) × (45 ≤ b)
body_first last = (48, [], refl, omega arith, omega arith)
body_first (lit {rest = r} (spaced {gs = gs} n g) t) =
    let f = signed_first n in
    (f.0, (f.1 ++ gs) ++ r, ap (λ (m : List ℕ). (m ++ gs) ++ r) f.2, f.3, f.5)

pub body_clear : {f : Format} {bs cs : List ℕ} → Body f bs cs → (l : List ℕ) → Clear f (bs ++ l)
body_clear {f = Text} h l = let f = body_first h in rw f.2 (no_sep f.0 (omega arith))
body_clear {f = Binary} h l = tt

pub step_clear : {f : Format} {k : Kind} {os bs cs : List ℕ} → Begins f k os → Body f bs cs → (l : List ℕ) → Clear f ((os ++ bs) ++ l)
step_clear bare h l = body_clear h l
step_clear (dee g) h l = refl
step_clear letter_a h l = tt
step_clear letter_d h l = tt

pub opening_read : {f : Format} {k : Kind} {os bs cs : List ℕ} → Begins f k os → Body f bs cs → (i : ℕ) (l : List ℕ)
    → opening f i ((os ++ bs) ++ l) ≡ opens k (i + length os)
unfolding opening gap_from
opening_read bare h i l = let f = body_first h in rw f.2 (simp (ne_eqb f.0 100 (omega arith)) (ap (λ (x : ℕ). opens Add x) (omega arith)))
opening_read {bs = bs} (dee {gs = gs} g) h i l =
    ap (gap_from (i + 1)) (append_assoc gs bs l) ∙ (simp (gap_first g (bs ++ l)))
    ∙ ap (λ (x : ℕ). opens Delete (i + 1 + x)) (seps_read (gap_seps g) (bs ++ l) (body_clear h l))
    ∙ ap (λ (x : ℕ). opens Delete x) (omega arith)
opening_read letter_a h i l = refl
opening_read letter_d h i l = refl

-- the reader's equations, case by case
pub body_lit : (f : Format) (n i : ℕ) (l : List ℕ) (c j : ℕ) → token f i l ≡ Some (Lit c j) → body f (suc n) i l ≡ cons_part c (body f n j (drop (j - i) l))
unfolding body
body_lit f n i l c j e = rw (e, body)

pub body_stop : (f : Format) (n i : ℕ) (l : List ℕ) (j : ℕ) → token f i l ≡ Some (Stop j) → body f (suc n) i l ≡ whole [] j
unfolding body
body_stop f n i l j e = rw (e, body)

pub body_bad : (f : Format) (n i : ℕ) (l : List ℕ) → token f i l ≡ None → body f (suc n) i l ≡ broken
unfolding body
body_bad f n i l e = rw (e, body)

-- each literal takes a byte
numeral_length : {bs : List ℕ} {v : ℕ} → Numeral leb128 bs v → 0 < length bs
numeral_length n = let f = leb_first n in rw f.2 (omega arith)

pub number_length : {f : Format} {bs : List ℕ} {c : ℕ} → Number f bs c → 0 < length bs
number_length (spaced n g) = simp length-append (omega (arith, gap_length g))
number_length (code h n) = numeral_length n

pub stop_some : (f : Format) → 0 < length (stop f)
stop_some Text = omega arith
stop_some Binary = omega arith

pub body_length : {f : Format} {bs cs : List ℕ} → Body f bs cs → length cs < length bs
body_length {f} last = stop_some f
body_length (lit {bs = bs} {rest = r} p t) = simp length-append (omega (arith, number_length p, body_length t))

pub body_read : {f : Format} {bs cs : List ℕ} → Body f bs cs → (n i : ℕ) {l : List ℕ} → Free f l → length cs < n
    → body f n i (bs ++ l) ≡ whole cs (i + length bs)
unfolding cons_part
body_read {f} last zero i g h = absurd (omega arith)
body_read {f} last (suc n) i {l} g h = body_stop f n i (stop f ++ l) (i + length (stop f)) (token_ends g i)
body_read {f} (lit {bs = bs} {rest = r} {cs = cs} {c = c} p t) zero i g h = absurd (omega arith)
body_read {f} (lit {bs = bs} {rest = r} {cs = cs} {c = c} p t) (suc n) i {l} g h =
    ap (body f (suc n) i) (append_assoc bs r l)
    ∙ body_lit f n i (bs ++ (r ++ l)) c (i + length bs) (token_number p i (r ++ l) (body_clear t l))
    ∙ ap (λ (m : List ℕ). cons_part c (body f n (i + length bs) m)) (skip i bs (r ++ l))
    ∙ ap (cons_part c) (body_read t n (i + length bs) g (omega arith))
    ∙ ap (whole (c ∷ cs)) (simp length-append (omega arith))

pub one_opens : (f : Format) (i : ℕ) (l : List ℕ) (k : Kind) (j : ℕ) → opening f i l ≡ opens k j
    → one_step f i l ≡ as_step k (body f (length l) j (drop (j - i) l))
unfolding one_step
one_opens f i l k j e = rw (e, one_step)

pub one_wrong : (f : Format) (i : ℕ) (l : List ℕ) → opening f i l ≡ None → one_step f i l ≡ fault
unfolding one_step
one_wrong f i l e = rw (e, one_step)

pub step_read : {f : Format} {k : Kind} {os bs cs : List ℕ} → Begins f k os → Body f bs cs → (i : ℕ) {l : List ℕ} → Free f l
    → one_step f i ((os ++ bs) ++ l) ≡ got (step_of k cs) (i + length (os ++ bs))
unfolding as_step
step_read {f} {k} {os = o} {bs} {cs} b h i {l} g =
    one_opens f i ((o ++ bs) ++ l) k (i + length o) (opening_read b h i l)
    ∙ ap (λ (m : List ℕ). as_step k (body f (length ((o ++ bs) ++ l)) (i + length o) (drop (i + length o - i) m))) (append_assoc o bs l)
    ∙ ap (λ (m : List ℕ). as_step k (body f (length ((o ++ bs) ++ l)) (i + length o) m)) (skip i o (bs ++ l))
    ∙ ap (as_step k) (body_read h (length ((o ++ bs) ++ l)) (i + length o) g (simp length-append (omega (arith, body_length h))))
    ∙ ap (got (step_of k cs)) (simp length-append (omega arith))

pub steps_got : (f : Format) (n i : ℕ) (l : List ℕ) (s : Step) (j : ℕ) → one_step f i l ≡ got s j
    → steps_from f (suc n) i l ≡ cons_step s (steps_from f n (past f i l j) (drop (past f i l j - i) l))
unfolding steps_from one_step opening
steps_got f n i [] s j e = cc
steps_got f n i (b ∷ l) s j e = rw (e, steps_from)

pub steps_not : (f : Format) (n i b : ℕ) (l : List ℕ) → one_step f i (b ∷ l) ≡ fault → steps_from f (suc n) i (b ∷ l) ≡ fault_at i
unfolding steps_from
steps_not f n i b l e = rw (e, steps_from)

-- what stands after the bytes bs that were read, and after those that may be passed there
pub rest_past : (f : Format) (i : ℕ) (bs r : List ℕ) → drop (past f i (bs ++ r) (i + length bs) - i) (bs ++ r) ≡ drop (lead f r) r
rest_past f i bs r =
    let e : i + length bs + lead f r - i ≡ length bs + lead f r = omega arith in
    ap (λ (m : List ℕ). drop (i + length bs + lead f m - i) (bs ++ r)) (skip i bs r)
    ∙ ap (λ (n : ℕ). drop n (bs ++ r)) e
    ∙ sym (drop-drop (lead f r) (length bs) (bs ++ r))
    ∙ ap (drop (lead f r)) (drop_at bs r (length bs) refl)

pub none_left : (f : Format) (n i : ℕ) → steps_from f n i [] ≡ steps []
unfolding steps_from
none_left f zero i = refl
none_left f (suc n) i = refl

pub steps_read : {f : Format} {bs : List ℕ} {ss : List Step} → Spells f bs ss → (n i : ℕ) → length bs ≤ n
    → steps_from f n (i + lead f bs) (drop (lead f bs) bs) ≡ steps ss
unfolding steps_from cons_step
steps_read {f} (none {ws = ws} w) n i h =
    let e = lead_all w in
    let z : length ws ≤ length ws = omega arith in
    ap (λ (x : ℕ). steps_from f n (i + lead f ws) (drop x ws)) e
    ∙ ap (steps_from f n (i + lead f ws)) (drop_of_length-le ws z)
    ∙ none_left f n (i + lead f ws)
steps_read {f} (step {ws = ws} {os = o} {bs = bs} {rest = r} w b p g t) zero i h = absurd (omega (arith, body_length p, simp length-append at h))
steps_read {f} (step {ws = ws} {os = o} {bs = bs} {rest = r} {cs = cs} {ss = ss} {k = k} w b p g t) (suc n) i h =
    let m = (o ++ bs) ++ r in
    let a = i + length ws in
    let e = lead_read w m (step_clear b p r) in
    ap₂ (λ (x y : ℕ). steps_from f (suc n) x (drop y (ws ++ m))) (ap (λ (x : ℕ). i + x) e) e
    ∙ ap (steps_from f (suc n) a) (drop_at ws m (length ws) refl)
    ∙ steps_got f n a m (step_of k cs) (a + length (o ++ bs)) (step_read b p a g)
    ∙ ap₂ (λ (x : ℕ) (y : List ℕ). cons_step (step_of k cs) (steps_from f n x y))
    (ap (λ (y : List ℕ). a + length (o ++ bs) + lead f y) (skip a (o ++ bs) r)) (rest_past f a (o ++ bs) r)
    ∙ ap (cons_step (step_of k cs)) (steps_read t n (a + length (o ++ bs)) (omega (arith, body_length p, simp length-append at h)))

-- what the grammar spells is read
pub spells_read : {f : Format} {bs : List ℕ} {ss : List Step} → Spells f bs ss → read_proof f bs ≡ steps ss
unfolding read_proof
spells_read {f} {bs} {ss} h =
    let e : lead f bs ≡ 0 + lead f bs = omega arith in
    ap (λ (x : ℕ). steps_from f (length bs) x (drop (lead f bs) bs)) e ∙ steps_read h (length bs) 0 (omega arith)

-- the bytes have one reading
pub one_reading : {f : Format} {bs : List ℕ} {ss ts : List Step} → Spells f bs ss → Spells f bs ts → ss ≡ ts
one_reading h g = cc (spells_read h, spells_read g)

-- what is written is read as the steps that it was written from
pub round_trip : (f : Format) (ss : List Step) → Valid ss → read_proof f (encode f ss) ≡ steps ss
round_trip f ss v = spells_read (encode_spells f ss v)

-- what is written for some steps and then for others is what is written for all; so pieces that are written one by one have one reading
pub encode_append : (f : Format) (ss ts : List Step) → encode f (ss ++ ts) ≡ encode f ss ++ encode f ts
unfolding encode
encode_append f [] ts = refl
encode_append f (s ∷ ss) ts = ap (λ (l : List ℕ). encode_step f s ++ l) (encode_append f ss ts) ∙ sym (append_assoc (encode_step f s) (encode f ss) (encode f ts))

pub encode_one : (f : Format) (s : Step) → encode f (s ∷ []) ≡ encode_step f s
unfolding encode
encode_one f s = append-nil (encode_step f s)

-- what is written has one reading, the steps that it was written from
pub reading : (f : Format) (ss : List Step) → Valid ss → Spells f (encode f ss) ss × ((ts : List Step) → Spells f (encode f ss) ts → ts ≡ ss)
reading f ss v = (encode_spells f ss v, λ ts h. one_reading h (encode_spells f ss v))
