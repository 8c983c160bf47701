-- Identities that are one.
--     same_id_by     a test that tells whether two identities are equal is that of the definitions
use Rattle.std.proofs.Common.{◌≡◌, Bool, true, false, refl, sym, ap, ◌∙◌, true≢false}
use Rattle.std.specs.Cmp.{tied_itself}
use Rattle.std.proofs.lemmas.Bool.{false_from_ne_true}
use Rattle.hx_object.specs.declared.object.Id.{Id}
use Rattle.hx_model.specs.State.{same_id}
use Rattle.hx_model.proofs.Objects.{id_total, is_same_id, same_from_Equal}

pub same_id_by : (a b : Id) (r : Bool) → (r ≡ true → a ≡ b) → (a ≡ b → r ≡ true) → r ≡ same_id a b
same_id_by a b true is back = sym (ap (same_id a) (sym (is refl)) ∙ same_from_Equal a a (tied_itself id_total a))
same_id_by a b false is back = sym (false_from_ne_true (same_id a b) (λ e. true≢false (sym (back (is_same_id a b e)))))
