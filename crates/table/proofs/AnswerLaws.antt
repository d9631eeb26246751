-- A reading of an answer that has a way back loses nothing: the number and the values tell the answer.
use mathlib.Core.Path.{◌≡◌, sym, ap, ◌∙◌}
use Rattle.scope.specs.Contract.{Said}

pub one_of : {A : Type 0} (read : A → Said) (back : Said → A) → ((x : A) → back (read x) ≡ x) → (x y : A) → read x ≡ read y → x ≡ y
one_of read back h x y e = sym (h x) ∙ ap back e ∙ h y
