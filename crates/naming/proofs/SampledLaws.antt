-- Laws of a user whose global is not Sample.
use Prim.Native.Nat.{ℕ, ◌+◌, ◌<◌}
use mathlib.Core.Path.{◌≡◌, sym, ap, ◌∙◌}
use mathlib.Core.Bool.{false, not}
use mathlib.Core.List.{List}
use native.Mathlib.Omega.{arith}
use lib.Dec.{eqb}
use lib.ListN.{length, get_or}
use Rattle.base.proofs.MemberLaws.{get_d_default}
use Rattle.scope.specs.Table.{mode_of}
use Rattle.scope.proofs.ResultLaws.{word_none, word_some}
use Rattle.naming.specs.Parts.{is_unsampled, MapBelow}

pub unsampled_none : (gu records : List ℕ) (u : ℕ) → get_or gu u 0 ≡ 0 → false ≡ is_unsampled gu records u
unfolding is_unsampled
unsampled_none gu records u e = sym (word_none false _ _ e)

pub unsampled_some : (gu records : List ℕ) (u g : ℕ) → MapBelow gu (length records) → get_or gu u 0 ≡ g + 1
    → not (eqb (mode_of (get_or records g 0)) 0) ≡ is_unsampled gu records u
unfolding is_unsampled
unsampled_some gu records u g h e =
    let x = h.at u in
    ap (λ (r : ℕ). not (eqb (mode_of r) 0)) (get_d_default records g 0 47 (omega arith))
    ∙ sym (word_some false (λ g. not (eqb (mode_of (get_or records g 47)) 0)) _ g e)

pub inside_below : (gu : List ℕ) (n u g : ℕ) → MapBelow gu n → get_or gu u 0 ≡ g + 1 → g < n
inside_below gu n u g h e = let x = h.at u in omega arith
