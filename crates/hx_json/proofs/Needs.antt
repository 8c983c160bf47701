-- What the kept members say that is needed to know is what all members of a body say.
use Rattle.std.proofs.Common.{◌≡◌, ℕ, List, [], ◌++◌, false, option_and_then, unwrap_or, true, bytes_eq, codes, refl, ap, ◌∙◌}
use Rattle.serde_json.specs.Data.{Data, null, boolean, number, string, array, object}
use Rattle.serde_json.specs.Find.{get, get_member}
use Rattle.hx_object.specs.Needs.{amount_at, containers_of, is_end, is_token, need_of}
use Rattle.hx_object.specs.Values.{counted_member, in_spec, in_status, items_in, text_in, unless_null}
use Rattle.hx_object.specs.declared.kind.Kind.{Kind}
use Rattle.hx_object.specs.declared.kind.Kind.TheVariants as of
use Rattle.hx_json.specs.Inside.{need_said}
use Rattle.hx_json.specs.Reading.{kept_members, without}
use Rattle.hx_json.proofs.Orders.{get_without, type_kept}

-- a member that isn't one that each object has is kept
module _ (name : List ℕ) (version : bytes_eq name (codes "apiVersion") ≡ false) (kind : bytes_eq name (codes "kind") ≡ false) (metadata : bytes_eq name (codes "metadata") ≡ false) where
  pub member_kept : (d : Data) → get_member name (kept_members d) ≡ get name d
  member_kept null = refl
  member_kept (boolean b) = refl
  member_kept (number n) = refl
  member_kept (string s) = refl
  member_kept (array ds) = refl
  member_kept (object ms) =
      get_without (codes "metadata") name (without (codes "kind") (without (codes "apiVersion") ms)) metadata
      ∙ get_without (codes "kind") name (without (codes "apiVersion") ms) kind
      ∙ get_without (codes "apiVersion") name ms version

spec_kept : (name : List ℕ) (d : Data) → in_spec name (object (kept_members d)) ≡ in_spec name d
spec_kept name d = ap (λ o. option_and_then (counted_member name) (unless_null o)) (member_kept (codes "spec") refl refl refl d)

status_kept : (name : List ℕ) (d : Data) → in_status name (object (kept_members d)) ≡ in_status name d
status_kept name d = ap (λ o. option_and_then (counted_member name) (unless_null o)) (member_kept (codes "status") refl refl refl d)

pub need_kept : (kind : Kind) (d : Data) → need_of kind (kept_members d) ≡ need_said kind d
need_kept of.Secret d = λ i. record { finished = false; token = is_token (type_kept d i); storage = 0; containers = [] }
need_kept of.Pod d = λ i. record {
  finished = is_end (text_in (status_kept (codes "phase") d i));
  token = false;
  storage = 0;
  containers = containers_of false (items_in (spec_kept (codes "containers") d i)) ++ containers_of true (items_in (spec_kept (codes "initContainers") d i));
}
need_kept of.PersistentVolumeClaim d = λ i. record {
  finished = false;
  token = false;
  storage = unwrap_or (option_and_then (amount_at (codes "storage")) (option_and_then (counted_member (codes "requests")) (spec_kept (codes "resources") d i))) 0;
  containers = [];
}
need_kept kind d = refl
