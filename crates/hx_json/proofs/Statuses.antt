-- An object may be stored with what the body of its row reports, if requests give it without that.
--     with_legal, with_kept    it is legal, and may be stored
--     reported_typed           its type is the same
--     still_sound              it has no fault that it hasn't without it
use Rattle.std.proofs.Common.{◌≡◌, ℕ, List, Bool, true, Option, sym, refl, ◌∙◌}
use Rattle.serde_json.specs.Data.{Data}
use Rattle.hx_object.specs.Canonical.{IsCanonical}
use Rattle.hx_object.specs.Faults.{IsLegal, IsPayloadOf, has_legal_labels, object_fault}
use Rattle.hx_object.specs.Sizes.{size_of}
use Rattle.hx_object.specs.declared.kind.Kind.{Kind}
use Rattle.hx_object.specs.declared.kind.Kind.TheVariants as of
use Rattle.hx_object.specs.declared.object.AnchorStatus.{AnchorStatus}
use Rattle.hx_object.specs.declared.object.Condition.{Condition}
use Rattle.hx_object.specs.declared.object.Limit.{Limit}
use Rattle.hx_object.specs.declared.object.Object.{Object}
use Rattle.hx_object.specs.declared.object.Payload.{Payload}
use Rattle.hx_object.specs.declared.object.Payload.TheVariants.{Namespace, Config, Hierarchy, Anchor, Quota, Plain}
use Rattle.hx_object.specs.declared.object.Usage.{Usage}
use Rattle.hx_model.specs.Serving.{IsGiven, IsKept, is_given, is_kept, is_typed}
use Rattle.hx_json.specs.Rows.{reported, with_status}
use Rattle.hx_json.proofs.Usages.{usages_legal}

reported_kept : (d : Data) (payload : Payload) → is_given payload ≡ true → is_kept (reported d payload) ≡ true
reported_kept d (Namespace terminating) h = refl
reported_kept d (Config entries) h = h
reported_kept d (Hierarchy parent cascade children conditions) h = refl
reported_kept d (Anchor status) h = refl
reported_kept d (Quota hard status) h = refl
reported_kept d (Plain members need) h = refl

reported_payload : (d : Data) (kind : Kind) (payload : Payload) → IsCanonical d → IsPayloadOf kind payload → IsPayloadOf kind (reported d payload)
reported_payload d kind (Namespace terminating) canonical h = h
reported_payload d kind (Config entries) canonical h = h
reported_payload d kind (Hierarchy parent cascade children conditions) canonical h = h
reported_payload d kind (Anchor status) canonical h = h
reported_payload d kind (Quota hard status) canonical h = let usages = usages_legal d canonical in (h.0, h.1, h.2, usages.0, usages.1)
reported_payload d kind (Plain members need) canonical h = h

no_type : (kind : Kind) (terminating : Bool) → is_typed kind (Namespace terminating) ≡ true
no_type of.Secret terminating = refl
no_type kind terminating = refl

no_anchor_type : (kind : Kind) (status : Option AnchorStatus) → is_typed kind (Anchor status) ≡ true
no_anchor_type of.Secret status = refl
no_anchor_type kind status = refl

no_hierarchy_type : (kind : Kind) (parent : Option (List ℕ)) (cascade : Bool) (children : List (List ℕ)) (conditions : List Condition) → is_typed kind (Hierarchy parent cascade children conditions) ≡ true
no_hierarchy_type of.Secret parent cascade children conditions = refl
no_hierarchy_type kind parent cascade children conditions = refl

no_quota_type : (kind : Kind) (hard : List Limit) (status : List Usage) → is_typed kind (Quota hard status) ≡ true
no_quota_type of.Secret hard status = refl
no_quota_type kind hard status = refl

pub reported_typed : (d : Data) (kind : Kind) (payload : Payload) → is_typed kind (reported d payload) ≡ is_typed kind payload
reported_typed d kind (Namespace terminating) = no_type kind _ ∙ sym (no_type kind terminating)
reported_typed d kind (Anchor status) = no_anchor_type kind _ ∙ sym (no_anchor_type kind status)
reported_typed d kind (Config entries) = refl
reported_typed d kind (Hierarchy parent cascade children conditions) = no_hierarchy_type kind parent cascade _ _ ∙ sym (no_hierarchy_type kind parent cascade children conditions)
reported_typed d kind (Quota hard status) = no_quota_type kind hard _ ∙ sym (no_quota_type kind hard status)
reported_typed d kind (Plain members need) = refl

same_fault : (d : Data) (x : Object) (payload : Payload) → object_fault (record x { payload = reported d payload }) ≡ object_fault (record x { payload = payload })
unfolding object_fault has_legal_labels size_of
same_fault d x (Namespace terminating) = refl
same_fault d x (Config entries) = refl
same_fault d x (Hierarchy parent cascade children conditions) = refl
same_fault d x (Anchor status) = refl
same_fault d x (Quota hard status) = refl
same_fault d x (Plain members need) = refl

pub still_sound : (d : Data) (x : Object) → object_fault (with_status d x) ≡ object_fault x
still_sound d x = same_fault d x x.payload

pub with_legal : (d : Data) (x : Object) → IsCanonical d → IsLegal x → IsLegal (with_status d x)
with_legal d x canonical legal = record { sound = still_sound d x ∙ legal.sound; home = legal.home; payload = reported_payload d x.id.kind x.payload canonical legal.payload }

pub with_kept : (d : Data) (x : Object) → IsGiven x → IsKept (with_status d x)
with_kept d x given = record {
  labels = given.labels;
  annotations = given.annotations;
  payload = reported_kept d x.payload given.payload;
  typed = reported_typed d x.id.kind x.payload ∙ given.typed;
}
