-- Laws of literals whose users have solver indices: they need nothing, and each is only looked up.
use Rattle.std.specs.Prelude.{Result, Ok, Err}
use Prim.Native.Nat.{ℕ, zero, suc, ◌+◌, ◌-◌, ◌≤◌, ◌<◌}
use mathlib.Core.Path.{◌≡◌, refl, sym, ap, ◌∙◌, subst}
use mathlib.Core.Bool.{Bool, true, false, ◌&&◌, ◌||◌, true≢false}
use mathlib.Core.List.{List, [], map}
use mathlib.Core.Logic.{◌≢◌, ◌⊎◌, ⊎_elim}
use native.Mathlib.Numerals.{add-one}
use native.Mathlib.Omega.{arith}
use lib.Dec.{eqb, ltb, leb}
use lib.ListN.{length, get_or, take, drop, length-take, length-drop, take-append-drop}
use lib.Seq.{sets, take_all, drop-length, get_or-take, get_or-drop}
use borrow.Author.Tests.{le-ltb, ne_eqb, lt-leb}
use Rattle.base.specs.Bounded.{any_of}
use Rattle.base.specs.Choice.{pick}
use Rattle.base.proofs.BelowLaws.{and_not_right}
use Rattle.base.proofs.CountLaws.{count_same}
use Rattle.base.proofs.MemberLaws.{word_inside, any_append, any_intro, or_neither}
use Rattle.base.proofs.StoreLaws.{copied}
use Rattle.base.proofs.Truth.{split}
use Rattle.scope.specs.Literals.{code_of, index_of, sign_of}
use Rattle.scope.specs.Table.{Table}
use Rattle.scope.specs.Sound.{soundb}
use Rattle.scope.specs.Pose.{pose_of}
use Rattle.scope.specs.Contract.{Said, Does}
use Rattle.scope.specs.Distinct.{named, count_named, top_of, is_low, needs_grant, Within}
use Rattle.scope.proofs.DistinctLaws.{named_count_start, top_start, top_low, top_over, top_tight}
use Rattle.scope.proofs.DistinctUsers.{within_of, within_up, within_none}
use Rattle.scope.proofs.ResultLaws.{word_none, word_some}
use Rattle.scope.proofs.SoundLaws.{sound_of}
use Rattle.naming.specs.Parts.{MapBelow}
use Rattle.distinct.specs.declared.Needs.{Needs}
use Rattle.distinct.specs.Users.{needs_by}
use Rattle.std.specs.Result.{is_ok}
use Rattle.posing.specs.Answers.{posed}
use Rattle.held.specs.Parts.{held_word, held_code, HeldTo, HeldRun, none, more, AllHeld, HeldTried, lead_of}
use Rattle.held.proofs.RunLaws.{run_held}
use Rattle.posing.proofs.AllLaws.{LitsDone, lits_start, lits_more, lits_end}
use Rattle.posing.proofs.CallLaws.{pose_0, pose_done, PoseCounts, counts_by}
use Rattle.posing.proofs.PlaceLaws.{place_held}

-- the word of a solver index in a sound table is at most 4,096
pub solvers_inside : (t : Table) → soundb t ≡ true → MapBelow t.solver_from_global 4096
solvers_inside t y = record { at = λ g. go g (get_or t.solver_from_global g 0) refl }
  where
    go : (g w : ℕ) → get_or t.solver_from_global g 0 ≡ w → get_or t.solver_from_global g 0 ≤ 4096
    go g zero e = omega arith
    go g (suc s) e =
        let z = (sound_of t y).sizes in
        let q : get_or t.solver_from_global g 0 ≡ s + 1 = omega arith in
        let b = ((sound_of t y).solver.inverse s g).1 q in
        let i = word_inside t.global_from_solver s (λ n. omega arith) in
        omega arith

-- each literal of a run is done as it is looked up, whatever was done before
pub run_done : {lits : List ℕ} {a : ℕ} {out : List ℕ} (t s : Table) (at : ℕ) (words words' out₀ : List ℕ) {b : ℕ} {m : List ℕ}
    → HeldRun s.global_from_user s.solver_from_global lits a out b m
    → LitsDone t lits a at s words words' out₀ out → LitsDone t lits b at s words words' out₀ m
run_done t s at words words' out₀ none d = d
run_done {lits} t s at words words' out₀ (more {b = i} {m = m} v r l e) d =
    let p = place_held s (index_of (get_or lits i 0)) v at words' e in
    lits_more t lits i at v at (code_of v (sign_of (get_or lits i 0))) s s words words' words' out₀ m l (run_done t s at words words' out₀ r d) p.0 p.1 refl

-- the first i literals, where the users of n have solver indices: the run is made from the words
run_of : (gu sg lits out : List ℕ) (n : ℕ) → HeldTo gu sg lits n → (i : ℕ) → i ≤ n → HeldRun gu sg lits 0 out i (copied (held_code gu sg) out lits i)
run_of gu sg lits out n h zero l = none
run_of gu sg lits out n h (suc i) l = go (held_word gu sg (index_of (get_or lits i 0))) refl (run_of gu sg lits out n h i (omega arith))
  where
    go : (w : ℕ) → held_word gu sg (index_of (get_or lits i 0)) ≡ w → HeldRun gu sg lits 0 out i (copied (held_code gu sg) out lits i)
        → HeldRun gu sg lits 0 out (suc i) (copied (held_code gu sg) out lits (suc i))
    go zero e r = absurd (h.held i l e)
    go (suc s) e r =
        let m = h.most in
        let k : i < length lits = omega arith in
        let q : held_word gu sg (index_of (get_or lits i 0)) ≡ s + 1 = omega arith in
        let x = more s r k q in
        let z = (run_held x).1 in
        subst (λ (j : ℕ). HeldRun gu sg lits 0 out j (copied (held_code gu sg) out lits j)) (add-one i)
        (subst (λ (o : List ℕ). HeldRun gu sg lits 0 out (i + 1) o) z x)

-- ---- the literals after the first n, whose users need nothing

held_needs : (gu sg : List ℕ) (u : ℕ) → held_word gu sg u ≢ 0 → (needs_grant gu sg u ≡ false) × (get_or gu u 0 ≢ 0)
unfolding held_word needs_grant
held_needs gu sg u n = go (get_or gu u 0) refl
  where
    go : (w : ℕ) → get_or gu u 0 ≡ w → (needs_grant gu sg u ≡ false) × (get_or gu u 0 ≢ 0)
    go zero q = absurd (n (word_none 0 (λ g. get_or sg g 0) _ q))
    go (suc g) q =
        let k : get_or gu u 0 ≡ g + 1 = omega arith in (
          word_some true (λ g. eqb (get_or sg g 0) 0) _ g k ∙ ne_eqb (get_or sg g 0) 0 (λ z. n (word_some 0 (λ g. get_or sg g 0) _ g k ∙ z)),
          λ z. omega arith,
        )

any_rest : (p : ℕ → Bool) (xs : List ℕ) (n : ℕ) → n ≤ length xs → ((i : ℕ) → i < n → p (get_or xs i 0) ≡ false) → any_of p (drop n xs) ≡ any_of p xs
any_rest p xs n l h =
    sym (ap (any_of p) (sym (take-append-drop n xs)) ∙ any_append p (take n xs) (drop n xs) ∙ ap (λ (b : Bool). b || any_of p (drop n xs)) before)
  where
    before : any_of p (take n xs) ≡ false
    before = any_intro p (take n xs) 0 (λ i k. let e = length-take n xs in let z : i < n = omega arith in ap p (get_or-take n xs i 0 z) ∙ h i z)

module _ (lits : List ℕ) (n : ℕ) (l : n ≤ length lits) where
  -- a test that no user before them passes counts the same
  count_rest : (p : ℕ → Bool) → ((i : ℕ) → i < n → p (index_of (get_or lits i 0)) ≡ false) → count_named 4096 p (drop n lits) ≡ count_named 4096 p lits
  unfolding count_named
  count_rest p f = count_same 4096 _ _ (λ v k. go v (p v) refl)
    where
      go : (v : ℕ) (b : Bool) → p v ≡ b → named (drop n lits) v && p v ≡ named lits v && p v
      go v false e = and_not_right (named (drop n lits) v) (p v) e ∙ sym (and_not_right (named lits v) (p v) e)
      go v true e = ap (λ (x : Bool). x && p v) (any_rest (λ c. eqb (index_of c) v) lits n l
          (λ i k. ne_eqb _ v (λ q. true≢false (sym e ∙ ap p (sym q) ∙ f i k))))

  top_rest : (mark : ℕ) → ((i : ℕ) → i < n → index_of (get_or lits i 0) < mark) → top_of mark (drop n lits) ≡ top_of mark lits
  top_rest mark f =
      let a = top_tight mark lits (top_of mark (drop n lits)) (top_low mark (drop n lits)) (λ i k. up i k (split i n)) in
      let b = top_tight mark (drop n lits) (top_of mark lits) (top_low mark lits)
      (λ i k. let e = length-drop n lits in let x = top_over mark lits (n + i) (omega arith) in
      subst (λ (c : ℕ). index_of c < top_of mark lits) (sym (get_or-drop n lits i 0)) x) in
      omega arith
    where
      up : (i : ℕ) → i < length lits → (i < n) ⊎ (n ≤ i) → index_of (get_or lits i 0) < top_of mark (drop n lits)
      up i k s = ⊎_elim
          (λ (j : i < n). let x = f i j in let y = top_low mark (drop n lits) in omega arith)
          (λ (j : n ≤ i).
          let e = length-drop n lits in
          let x = top_over mark (drop n lits) (i - n) (omega arith) in
          let q : n + (i - n) ≡ i = omega arith in
          subst (λ (c : ℕ). index_of c < top_of mark (drop n lits)) (get_or-drop n lits (i - n) 0 ∙ ap (λ (m : ℕ). get_or lits m 0) q) x)
          s

module _ (t : Table) (lits : List ℕ) (n : ℕ) (y : soundb t ≡ true) (h : HeldTo t.global_from_user t.solver_from_global lits n) where
  mapped : (i : ℕ) → i < n → get_or t.global_from_user (index_of (get_or lits i 0)) 0 ≢ 0
  mapped i l = (held_needs _ _ _ (h.held i l)).1

  inside : (i : ℕ) → i < n → index_of (get_or lits i 0) < t.counts.capacity
  inside i l = let z = (sound_of t y).sizes in let k = word_inside t.global_from_user _ (mapped i l) in omega arith

  outside_rest : any_of (λ c. leb t.counts.capacity (index_of c)) (drop n lits) ≡ any_of (λ c. leb t.counts.capacity (index_of c)) lits
  outside_rest = any_rest (λ c. leb t.counts.capacity (index_of c)) lits n h.most (λ i l. lt-leb t.counts.capacity _ (inside i l))

  low_none : (i : ℕ) → i < n → is_low t.global_from_user t.counts.user (index_of (get_or lits i 0)) ≡ false
  unfolding is_low
  low_none i l = and_not_right (ltb (index_of (get_or lits i 0)) t.counts.user) _ (ne_eqb _ 0 (mapped i l))

  below : (i : ℕ) → i < n → index_of (get_or lits i 0) < t.counts.user
  below i l = ⊎_elim (λ (k : index_of (get_or lits i 0) < t.counts.user). k)
      (λ (k : t.counts.user ≤ index_of (get_or lits i 0)). absurd (mapped i l ((sound_of t y).user.atail _ k)))
      (split (index_of (get_or lits i 0)) t.counts.user)

  -- they need what all need
  pub needs_rest : needs_by (count_named 4096) t.counts.user t.global_from_user t.solver_from_global (drop n lits)
      ≡ needs_by (count_named 4096) t.counts.user t.global_from_user t.solver_from_global lits
  needs_rest =
      let a = count_rest lits n h.most (is_low t.global_from_user t.counts.user) low_none in
      let b = top_rest lits n h.most t.counts.user below in
      let c = count_rest lits n h.most (needs_grant t.global_from_user t.solver_from_global) (λ i l. (held_needs _ _ _ (h.held i l)).0) in
      λ i. record { low = a i; top = b i; grants = c i }

-- the part of the literals that is judged
part_is : (lits : List ℕ) (n : ℕ) → take (length lits - n) (drop n lits) ≡ drop n lits
part_is lits n = take_all (length lits - n) (drop n lits) (let e = length-drop n lits in omega arith)

module _ (t : Table) (lits : List ℕ) (n : ℕ) (b : Bool) (y : soundb t ≡ true) (h : HeldTo t.global_from_user t.solver_from_global lits n) where
  pub rest_outside : b ≡ any_of (λ c. leb t.counts.capacity (index_of c)) (take (length lits - n) (drop n lits))
      → b ≡ any_of (λ c. leb t.counts.capacity (index_of c)) lits
  rest_outside e = e ∙ ap (any_of (λ c. leb t.counts.capacity (index_of c))) (part_is lits n) ∙ outside_rest t lits n y h

  pub rest_inside : b ≡ any_of (λ c. leb t.counts.capacity (index_of c)) (take (length lits - n) (drop n lits)) → b ≡ false
      → any_of (λ c. leb t.counts.capacity (index_of c)) lits ≡ false
  rest_inside e q = sym (rest_outside e) ∙ q

  pub rest_asks : length lits ≤ 8192
      → b ≡ any_of (λ c. leb t.counts.capacity (index_of c)) (take (length lits - n) (drop n lits)) → b ≡ false
      → (length (take (length lits - n) (drop n lits)) ≤ 8192) × Within (take (length lits - n) (drop n lits)) 4096
  rest_asks l e q =
      let z = (sound_of t y).sizes in
      let d = ap length (part_is lits n) ∙ length-drop n lits in
      (omega arith, within_up _ t.counts.capacity 4096 (omega arith) (within_of _ t.counts.capacity (sym e ∙ q)))

  -- what is counted of the rest is what all need
  pub rest_counts : (k : Needs) → b ≡ any_of (λ c. leb t.counts.capacity (index_of c)) (take (length lits - n) (drop n lits)) → b ≡ false
      → k ≡ needs_by (count_named 4096) t.counts.user t.global_from_user t.solver_from_global (take (length lits - n) (drop n lits))
      → PoseCounts t lits k.low k.top k.grants
  rest_counts k e q s =
      counts_by t lits k y (within_of _ t.counts.capacity (rest_inside e q))
      (s ∙ ap (needs_by (count_named 4096) t.counts.user t.global_from_user t.solver_from_global) (part_is lits n) ∙ needs_rest t lits n y h)

-- ---- where all users have solver indices nothing is needed

none_needed : (t : Table) (lits : List ℕ) → soundb t ≡ true → HeldTo t.global_from_user t.solver_from_global lits (length lits)
    → record { low = 0; top = t.counts.user; grants = 0 } ≡ needs_by (count_named 4096) t.counts.user t.global_from_user t.solver_from_global lits
none_needed t lits y h =
    let a = sym (named_count_start [] (is_low t.global_from_user t.counts.user)) in
    let b = top_start t.counts.user [] in
    let c = sym (named_count_start [] (needs_grant t.global_from_user t.solver_from_global)) in
    let e : record { low = 0; top = t.counts.user; grants = 0 } ≡ needs_by (count_named 4096) t.counts.user t.global_from_user t.solver_from_global [] =
    λ i. record { low = a i; top = b i; grants = c i } in
    e ∙ ap (needs_by (count_named 4096) t.counts.user t.global_from_user t.solver_from_global) (sym (drop-length lits))
    ∙ needs_rest t lits (length lits) y h

-- The call is accepted with no note.
pub pose_held : (t : Table) (lits : List ℕ) (sampling : Bool) (out out' words : List ℕ) → soundb t ≡ true
    → AllHeld t.global_from_user t.solver_from_global t.records lits sampling (length out)
    → out' ≡ sets out 0 (map (held_code t.global_from_user t.solver_from_global) lits)
    → Does (pose_of t lits sampling (length out) (length words)) (posed (Ok (record { filled = length lits; counts = t.counts; notes = 0 })) t.counts) t words words
    × (out' ≡ sets out 0 (pose_of t lits sampling (length out) (length words)).words)
pose_held t lits sampling out out' words y a e =
    let w : Within lits t.counts.capacity = record { at = inside t lits (length lits) y a.held } in
    let k = counts_by t lits _ y w (none_needed t lits y a.held) in
    let r = pose_0 t lits sampling (length out) (length words) y a.few (within_none lits t.counts.capacity w) _ (sym a.sampled) refl
    0 t.counts.user 0 k (omega arith)
    (or_neither (le-ltb (length out) (length lits) a.places) (le-ltb (length words) _ (omega arith))) in
    pose_done t lits sampling 0 0 t out out' words words r refl
    (lits_end t lits (length lits) 0 t words words out out' (omega arith)
    (all_done (length lits) out' a.held (e ∙ ap (λ (l : List ℕ). sets out 0 (map f l)) (sym (take_all (length lits) lits (omega arith))))))
  where
    f : ℕ → ℕ
    f = held_code t.global_from_user t.solver_from_global

    -- the first n literals are done where their users have solver indices
    all_done : (n : ℕ) (m : List ℕ) → HeldTo t.global_from_user t.solver_from_global lits n → m ≡ copied f out lits n
        → LitsDone t lits n 0 t words words out m
    all_done n m h q =
        subst (λ (o : List ℕ). LitsDone t lits n 0 t words words out o) (sym q)
        (run_done t t 0 words words out (run_of t.global_from_user t.solver_from_global lits out n h n (omega arith)) (lits_start t lits words out))

-- ---- the call

-- the users of the first literals have solver indices
pub tried_lead : (gu sg records lits : List ℕ) (sampling : Bool) (r : Result (Unit {0}) ℕ) (out out1 : List ℕ)
    → HeldTried gu sg records lits sampling r out out1 → (n : ℕ) → r ≡ Err n → HeldTo gu sg lits n
tried_lead gu sg records lits sampling r out out1 h n e =
    subst (λ (x : Result (Unit {0}) ℕ). HeldTo gu sg lits (lead_of (length lits) x)) e h.lead

module _ (t : Table) (lits : List ℕ) (sampling : Bool) (r : Result (Unit {0}) ℕ) (out out1 : List ℕ)
    (h : HeldTried t.global_from_user t.solver_from_global t.records lits sampling r out out1) where
  chosen : (b : Bool) → is_ok r ≡ b → out1 ≡ pick b (sets out 0 (map (held_code t.global_from_user t.solver_from_global) lits)) out
  chosen b e = h.stored ∙ ap (λ (x : Bool). pick x (sets out 0 (map (held_code t.global_from_user t.solver_from_global) lits)) out) e

  pub tried_done : (words : List ℕ) → soundb t ≡ true → (u : Unit {0}) → r ≡ Ok u
      → Does (pose_of t lits sampling (length out) (length words)) (posed (Ok (record { filled = length lits; counts = t.counts; notes = 0 })) t.counts) t words words
      × (out1 ≡ sets out 0 (pose_of t lits sampling (length out) (length words)).words)
  tried_done words y u e = let q = ap is_ok e in pose_held t lits sampling out out1 words y (h.all q) (chosen true q)

  -- where nothing was filled, the call goes on as if nothing had been tried
  pub tried_on : (n : ℕ) (a : Said) (left : Table) (words words' out' : List ℕ) → r ≡ Err n
      → Does (pose_of t lits sampling (length out1) (length words)) a left words words'
      × (out' ≡ sets out1 0 (pose_of t lits sampling (length out1) (length words)).words)
      → Does (pose_of t lits sampling (length out) (length words)) a left words words'
      × (out' ≡ sets out 0 (pose_of t lits sampling (length out) (length words)).words)
  tried_on n a left words words' out' e d =
      subst (λ (o : List ℕ). Does (pose_of t lits sampling (length o) (length words)) a left words words'
      × (out' ≡ sets o 0 (pose_of t lits sampling (length o) (length words)).words))
      (chosen false (ap is_ok e)) d
