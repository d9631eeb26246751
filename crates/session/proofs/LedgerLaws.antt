-- The ledger after further entries: who holds an index, and which globals are shown, one entry after the other.
use Prim.Native.Nat.{ℕ, ◌+◌}
use mathlib.Core.Path.{◌≡◌, refl, sym, ap, ◌∙◌}
use mathlib.Core.Bool.{Bool, true, false, ◌&&◌, ◌||◌, not, true≢false}
use mathlib.Core.List.{List, [], ◌∷◌, ◌++◌, append_assoc, append-nil}
use Rattle.base.specs.Choice.{pick}
use Rattle.base.specs.Bounded.{any_of}
use Rattle.base.proofs.MemberLaws.{or_none}
use Rattle.scope.specs.Table.{word}
use Rattle.scope.specs.Notes.{Note, grants, withdraws, global_of, held_by}
use Rattle.scope.specs.Entries.{Entry, noted, hides}
use Rattle.scope.proofs.ResultLaws.{word_some}
use Rattle.session.specs.Ledger.{notes_of, is_show, is_end, shown_by}

-- ---- one entry after the other

-- the holder's word w names a global that is withdrawn
abbrev pub lost : (ℕ → Bool) → ℕ → Bool
lost withdrawn w = word false withdrawn w

abbrev pub hold_step : Note → ℕ → ℕ → ℕ
hold_step n s w = pick (grants s n) (global_of n + 1) (pick (lost (λ g. withdraws g n) w) 0 w)

abbrev pub show_step : Entry → ℕ → Bool → Bool
show_step e g b = is_show g e || (not (is_end g e) && b)

abbrev pub hold_all : List Note → ℕ → ℕ → ℕ
hold_all [] s w = w
hold_all (n ∷ ns) s w = hold_all ns s (hold_step n s w)

abbrev pub show_all : List Entry → ℕ → Bool → Bool
show_all [] g b = b
show_all (e ∷ es) g b = show_all es g (show_step e g b)

-- ---- one entry more at the end

or_assoc : (a b c : Bool) → (a || b) || c ≡ a || (b || c)
or_assoc true b c = refl
or_assoc false b c = refl

any_snoc : {A : Type 0} (p : A → Bool) (xs : List A) (x : A) → any_of p (xs ++ x ∷ []) ≡ any_of p xs || p x
unfolding any_of
any_snoc p [] x = or_none (p x)
any_snoc p (y ∷ xs) x = rw (any_snoc p xs x) (sym (or_assoc (p y) (any_of p xs) (p x)))

-- with no grant of s, nobody holds s
none_step : (a b c : Bool) (g w : ℕ) → (b ≡ false → w ≡ 0) → a || b ≡ false → pick (a && (not b && not c)) g w ≡ 0
none_step true b c g w f h = absurd (true≢false h)
none_step false b c g w f h = f h

no_grant : (ns : List Note) (s : ℕ) → any_of (grants s) ns ≡ false → held_by ns s ≡ 0
unfolding any_of held_by
no_grant [] s h = refl
no_grant (n ∷ ns) s h =
    none_step (grants s n) (any_of (grants s) ns) (any_of (withdraws (global_of n)) ns) (global_of n + 1) (held_by ns s) (λ q. no_grant ns s q) h

-- a, b, c: the first note grants s, a later one does, a later one withdraws its global; d: so does the last note, by withdrawn
held_core : (a b c d : Bool) (withdrawn : ℕ → Bool) (g m w w' : ℕ) → (b ≡ false → w ≡ 0) → w' ≡ pick d m (pick (lost withdrawn w) 0 w)
    → pick (a && (not (b || d) && not (c || withdrawn g))) (g + 1) w'
    ≡ pick d m (pick (lost withdrawn (pick (a && (not b && not c)) (g + 1) w)) 0 (pick (a && (not b && not c)) (g + 1) w))
unfolding word
held_core true true c d withdrawn g m w w' f h = h
held_core true false c true withdrawn g m w w' f h = h
held_core true false true false withdrawn g m w w' f h = h
held_core true false false false withdrawn g m w w' f h = rw (word_some false withdrawn (g + 1) g refl) (go (withdrawn g) (h ∙ rw (f refl) refl))
  where
    go : (b : Bool) → w' ≡ 0 → pick (not b) (g + 1) w' ≡ pick b 0 (g + 1)
    go true q = q
    go false q = refl
held_core false b c d withdrawn g m w w' f h = h

held_one : (a : Bool) (m : ℕ) → pick (a && (not false && not false)) m 0 ≡ pick a m 0
held_one true m = refl
held_one false m = refl

held_snoc : (ns : List Note) (n : Note) (s : ℕ) → held_by (ns ++ n ∷ []) s ≡ hold_step n s (held_by ns s)
unfolding held_by any_of word
held_snoc [] n s = held_one (grants s n) (global_of n + 1)
held_snoc (x ∷ ns) n s =
    rw (any_snoc (grants s) ns n, any_snoc (withdraws (global_of x)) ns n)
    (held_core (grants s x) (any_of (grants s) ns) (any_of (withdraws (global_of x)) ns) (grants s n) (λ g. withdraws g n)
    (global_of x) (global_of n + 1) (held_by ns s) (held_by (ns ++ n ∷ []) s) (λ q. no_grant ns s q) (held_snoc ns n s))

shown_core : (a e sn en b b' : Bool) → b' ≡ sn || (not en && b) → (a && not (e || en)) || b' ≡ sn || (not en && ((a && not e) || b))
shown_core true true true en b b' h = h
shown_core true false true true b b' h = h
shown_core true false true false b b' h = refl
shown_core false e true en b b' h = h
shown_core true true false true b b' h = h
shown_core true false false true b b' h = h
shown_core false e false true b b' h = h
shown_core true true false false b b' h = h
shown_core true false false false b b' h = refl
shown_core false e false false b b' h = h

shown_one : (a e : Bool) → (a && not false) || false ≡ a || (not e && false)
shown_one true e = refl
shown_one false true = refl
shown_one false false = refl

shown_snoc : (es : List Entry) (n : Entry) (g : ℕ) → shown_by (es ++ n ∷ []) g ≡ show_step n g (shown_by es g)
unfolding shown_by any_of
shown_snoc [] n g = shown_one (is_show g n) (is_end g n)
shown_snoc (e ∷ es) n g =
    rw (any_snoc (is_end g) es n)
    (shown_core (is_show g e) (any_of (is_end g) es) (is_show g n) (is_end g n) (shown_by es g) (shown_by (es ++ n ∷ []) g) (shown_snoc es n g))

-- ---- a run of entries more at the end

pub held_append : (ns ms : List Note) (s : ℕ) → held_by (ns ++ ms) s ≡ hold_all ms s (held_by ns s)
held_append ns [] s = ap (λ (l : List Note). held_by l s) (append-nil ns)
held_append ns (m ∷ ms) s =
    ap (λ (l : List Note). held_by l s) (sym (append_assoc ns (m ∷ []) ms))
    ∙ held_append (ns ++ m ∷ []) ms s
    ∙ ap (λ (w : ℕ). hold_all ms s w) (held_snoc ns m s)

pub shown_append : (es fs : List Entry) (g : ℕ) → shown_by (es ++ fs) g ≡ show_all fs g (shown_by es g)
shown_append es [] g = ap (λ (l : List Entry). shown_by l g) (append-nil es)
shown_append es (f ∷ fs) g =
    ap (λ (l : List Entry). shown_by l g) (sym (append_assoc es (f ∷ []) fs))
    ∙ shown_append (es ++ f ∷ []) fs g
    ∙ ap (λ (b : Bool). show_all fs g b) (shown_snoc es f g)

pub notes_append : (es fs : List Entry) → notes_of (es ++ fs) ≡ notes_of es ++ notes_of fs
unfolding notes_of
notes_append [] fs = refl
notes_append (noted n ∷ es) fs = ap (λ (l : List Note). n ∷ l) (notes_append es fs)
notes_append (hides g ∷ es) fs = notes_append es fs

pub hold_append : (ns ms : List Note) (s w : ℕ) → hold_all (ns ++ ms) s w ≡ hold_all ms s (hold_all ns s w)
hold_append [] ms s w = refl
hold_append (n ∷ ns) ms s w = hold_append ns ms s (hold_step n s w)

pub show_append : (es fs : List Entry) (g : ℕ) (b : Bool) → show_all (es ++ fs) g b ≡ show_all fs g (show_all es g b)
show_append [] fs g b = refl
show_append (e ∷ es) fs g b = show_append es fs g (show_step e g b)
