-- A body says what requests give.
use Rattle.std.proofs.Common.{◌≡◌, ◌≤◌, ℕ, List, [], Bool, true, false, cond, ◌&&◌, Option, Some, None, unwrap_or, bytes_eq, codes, refl, ap, ◌∙◌, ◌||◌}
use Rattle.std.specs.List.{list_all}
use Rattle.std.specs.Option.{option_map_or}
use Rattle.serde_json.specs.Data.{Data, null, boolean, number, string, array, object, Items, no_items, item, depth}
use Rattle.serde_json.specs.Find.{get}
use Rattle.serde_json.specs.Read.{max_depth}
use Rattle.hx_object.specs.Canonical.{IsCanonical}
use Rattle.hx_object.specs.declared.kind.Kind.{Kind}
use Rattle.hx_object.specs.declared.kind.Kind.TheVariants as of
use Rattle.hx_object.specs.declared.object.Mode.TheVariants.{Propagate, Remove, Ignore}
use Rattle.hx_object.specs.declared.object.ModeEntry.{ModeEntry}
use Rattle.hx_model.specs.First.{first, or_else, so}
use Rattle.hx_model.specs.Serving.{is_given, is_given_mode, has_type, is_text_or_none, is_typed}
use Rattle.hx_json.specs.Inside.{has_quantities}
use Rattle.hx_json.specs.Reading.{Target, counted_member, entries_of, head_faults, in_spec, is_elsewhere, is_text, items_in, kept_members, member_fault, mode_of_text, own_faults, payload_of, quota_fault, text_or, type_fault, unless_null}
use Rattle.hx_json.specs.declared.fault.JsonFault.TheVariants.{WrongPlace}
use Rattle.hx_json.proofs.Legal.{kept_in_order, kept_shallow}
use Rattle.hx_json.proofs.Orders.{type_kept}
use Rattle.hx_json.proofs.Quotas.{both_none, quota_sound}
use Rattle.hx_json.proofs.RoundTrip.{read-compact_text}

mode_given : (text : List ℕ) → is_given_mode (unwrap_or (mode_of_text text) Propagate) ≡ true
mode_given text = by (bytes_eq text [] || bytes_eq text (codes "Propagate")) (bytes_eq text (codes "Remove")) (bytes_eq text (codes "Ignore"))
  where
    by : (a b c : Bool) → is_given_mode (unwrap_or (cond a (Some Propagate) (cond b (Some Remove) (cond c (Some Ignore) None))) Propagate) ≡ true
    by true b c = refl
    by false true c = refl
    by false false true = refl
    by false false false = refl

both : (u v : Bool) → u ≡ true → v ≡ true → (u && v) ≡ true
both true v h k = k
both false v h k = h

entries_given : (ds : Items) → list_all (λ (e : ModeEntry). is_given_mode e.mode) (entries_of ds) ≡ true
entries_given no_items = refl
entries_given (item d ds) = both _ _ (mode_given (text_or [] (counted_member (codes "mode") d))) (entries_given ds)

pub payload_given : (kind : Kind) (d : Data) → is_given (payload_of kind d) ≡ true
payload_given of.HncConfiguration d = entries_given (items_in (in_spec (codes "resources") d))
payload_given kind d = refl

-- ---- the type of a Secret

-- what is kept of a Secret has the type that its body has
pub typed_is : (kind : Kind) (d : Data) → IsCanonical d → depth d ≤ max_depth → is_typed kind (payload_of kind d) ≡ has_type kind d
typed_is of.Secret d h shallow =
    ap (λ o. option_map_or (has_type of.Secret) o true) (read-compact_text (object (kept_members d)) (kept_in_order d h) (kept_shallow d shallow))
    ∙ ap is_text_or_none (type_kept d)
typed_is kind d h shallow = refl

type_sound : (found : Option Data) → type_fault (codes "type") is_text (unless_null found) ≡ None → is_text_or_none found ≡ true
type_sound None h = refl
type_sound (Some null) h = refl
type_sound (Some (boolean b)) h = cc
type_sound (Some (number n)) h = cc
type_sound (Some (string text)) h = refl
type_sound (Some (array ds)) h = cc
type_sound (Some (object ms)) h = cc

own_sound : (kind : Kind) (d : Data) → first (own_faults kind d) ≡ None → has_type kind d ≡ true
own_sound of.Secret d h = type_sound (get (codes "type") d) (both_none (type_fault (codes "type") is_text (counted_member (codes "type") d)) None h).0
own_sound kind d h = refl

-- a body whose members are without fault has a text as its type
pub typed_sound : (p : Target) (d : Data) → member_fault p d ≡ None → has_type p.kind d ≡ true
typed_sound p d h =
    let own = (both_none (first (head_faults p.kind p.name d)) (or_else (first (own_faults p.kind d)) (so (is_elsewhere p.ns p.name d) WrongPlace)) h).1 in
    own_sound p.kind d (both_none (first (own_faults p.kind d)) (so (is_elsewhere p.ns p.name d) WrongPlace) own).0

own_quantities : (kind : Kind) (d : Data) → first (own_faults kind d) ≡ None → has_quantities kind d ≡ true
own_quantities of.HierarchicalResourceQuota d h = quota_sound d (both_none (quota_fault d) None h).0
own_quantities kind d h = refl

-- and quantities as a quota's limits
pub quantities_sound : (p : Target) (d : Data) → member_fault p d ≡ None → has_quantities p.kind d ≡ true
quantities_sound p d h =
    let own = (both_none (first (head_faults p.kind p.name d)) (or_else (first (own_faults p.kind d)) (so (is_elsewhere p.ns p.name d) WrongPlace)) h).1 in
    own_quantities p.kind d (both_none (first (own_faults p.kind d)) (so (is_elsewhere p.ns p.name d) WrongPlace) own).0
