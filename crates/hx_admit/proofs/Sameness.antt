-- The test of two objects.
--     same_object_exact, differs     objects that pass the test are one;  others aren't
use Rattle.std.proofs.Common.{◌≡◌, Bool, true, false, refl}
use Rattle.std.specs.Bool.{Decides}
use Rattle.hx_object.proofs.Sameness.{same_object_from}
use Rattle.hx_object.specs.declared.object.Object.{Object}
use Rattle.hx_model.specs.Answers.{same_object}

same_object-Decides : (a b : Object) → Decides (same_object a b) (a ≡ b)
unfolding same_object
same_object-Decides a b = same_object_from a b (same_object a b) refl

pub same_object_exact : (a b : Object) → same_object a b ≡ true → a ≡ b
same_object_exact a b e = (same_object-Decides a b).0 e

pub same_object_is : (a b : Object) → a ≡ b → same_object a b ≡ true
same_object_is a b e = (same_object-Decides a b).1 e

-- objects that aren't one differ by the test too
pub differs : (a b : Object) → (a ≡ b → ⊥) → same_object a b ≡ false
differs a b apart = by (same_object a b) refl
  where
    by : (t : Bool) → same_object a b ≡ t → t ≡ false
    by true e = absurd (apart (same_object_exact a b e))
    by false e = refl
