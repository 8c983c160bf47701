-- Objects stay legal where their versions and their status change.
--     keyed_legal        the namespace of a legal object has no slash
--     legal_with_version      with another version
--     HasLegalStatus, status_legal   what a payload tells of a quota is legal;  as it is in a legal object
--     legal_replaced     with such a status of another object
use Rattle.std.proofs.Common.{◌≡◌, ℕ, Bool, true, false, not, ◌&&◌, ◌||◌, List, [], ◌∷◌, map, None, Some, Option, refl, sym, ap, ◌∙◌, subst, true≢false, eqb-true, ◌==◌}
use Rattle.std.specs.Prelude.{if◌then◌else◌}
use Rattle.std.specs.List.{AllByRecursion, list_all}
use Rattle.std.proofs.lemmas.Bool.{and_parts}
use Rattle.hx_object.specs.Faults.{IsLegal, object_fault, has_legal_names, has_legal_labels, has_legal_namespace, IsPayloadOf, IsUsage}
use Rattle.hx_object.specs.Json.{hard_pair}
use Rattle.hx_object.specs.Kinds.{is_in_cluster}
use Rattle.hx_object.specs.Names.{is_dns_label, is_dns_byte, is_dns_end, is_name_of, has_length, has_ends}
use Rattle.hx_object.specs.Pairs.{has_ascending_keys}
use Rattle.hx_object.specs.Sizes.{size_of, specified_size, hierarchy_size, quota_size}
use Rattle.hx_object.specs.declared.kind.Kind.{Kind}
use Rattle.hx_object.specs.declared.kind.Kind.TheVariants.{Secret}
use Rattle.hx_object.specs.declared.object.Object.{Object}
use Rattle.hx_object.specs.declared.object.AnchorStatus.{AnchorStatus}
use Rattle.hx_object.specs.declared.object.Condition.{Condition}
use Rattle.hx_object.specs.declared.object.Limit.{Limit}
use Rattle.hx_object.specs.declared.object.Usage.{Usage}
use Rattle.hx_object.specs.declared.object.ObjectFault.{ObjectFault}
use Rattle.hx_object.specs.declared.object.ObjectFault.TheVariants.{BadName}
use Rattle.hx_object.specs.declared.object.Payload.{Payload}
use Rattle.hx_object.specs.declared.object.Payload.TheVariants.{Namespace as NamespaceOf, Config, Hierarchy, Anchor, Quota, Plain}
use Rattle.hx_model.specs.State.{with_version}
use Rattle.hx_model.specs.Answers.{with_status, replaced_by}
use Rattle.hx_model.specs.Serving.{is_typed}
use Rattle.hx_model.proofs.Storing.{HasNoSlash, IsKeyed}

-- ---- versions

pub legal_with_version : (x : Object) (version : ℕ) → IsLegal x → IsLegal (with_version x version)
unfolding object_fault has_legal_names has_legal_labels size_of
legal_with_version x version legal = record { sound = legal.sound; home = legal.home; payload = legal.payload }

-- ---- status

-- what holds of a payload with another status, and of each payload that stays
module _ (Q : Payload → Payload → Type 0) (namespace : (t u : Bool) → Q (NamespaceOf t) (NamespaceOf u)) (hierarchy : (p : Option (List ℕ)) (c : Bool) (a b : List (List ℕ)) (d e : List Condition) → Q (Hierarchy p c a d) (Hierarchy p c b e))
    (anchor : (s t : Option AnchorStatus) → Q (Anchor s) (Anchor t)) (quota : (h : List Limit) (s t : List Usage) → Q (Quota h s) (Quota h t)) (same : (x : Payload) → Q x x) where
  by_status : (old x : Payload) → Q x (with_status old x)
  by_status (NamespaceOf t) (NamespaceOf u) = namespace u t
  by_status (NamespaceOf t) (Config fs) = same (Config fs)
  by_status (NamespaceOf t) (Hierarchy e f g h) = same (Hierarchy e f g h)
  by_status (NamespaceOf t) (Anchor u) = same (Anchor u)
  by_status (NamespaceOf t) (Quota k u) = same (Quota k u)
  by_status (NamespaceOf t) (Plain n o) = same (Plain n o)
  by_status (Hierarchy a b c d) (Hierarchy e f g h) = hierarchy e f g c h d
  by_status (Hierarchy a b c d) (NamespaceOf u) = same (NamespaceOf u)
  by_status (Hierarchy a b c d) (Config fs) = same (Config fs)
  by_status (Hierarchy a b c d) (Anchor t) = same (Anchor t)
  by_status (Hierarchy a b c d) (Quota k t) = same (Quota k t)
  by_status (Hierarchy a b c d) (Plain n o) = same (Plain n o)
  by_status (Anchor s) (Anchor t) = anchor t s
  by_status (Anchor s) (NamespaceOf u) = same (NamespaceOf u)
  by_status (Anchor s) (Config fs) = same (Config fs)
  by_status (Anchor s) (Hierarchy e f g h) = same (Hierarchy e f g h)
  by_status (Anchor s) (Quota k t) = same (Quota k t)
  by_status (Anchor s) (Plain n o) = same (Plain n o)
  by_status (Quota h s) (Quota k t) = quota k t s
  by_status (Quota h s) (NamespaceOf u) = same (NamespaceOf u)
  by_status (Quota h s) (Config fs) = same (Config fs)
  by_status (Quota h s) (Hierarchy e f g i) = same (Hierarchy e f g i)
  by_status (Quota h s) (Anchor t) = same (Anchor t)
  by_status (Quota h s) (Plain n o) = same (Plain n o)
  by_status (Config es) x = same x
  by_status (Plain m n) x = same x

same_specified : (old x : Payload) → specified_size (with_status old x) ≡ specified_size x
unfolding hierarchy_size quota_size
same_specified = by_status (λ x y. specified_size y ≡ specified_size x) (λ t u. refl) (λ p c a b d e. refl) (λ s t. refl) (λ h s t. refl) (λ x. refl)

-- the names of what is told ascend, and its amounts are ones that are counted
abbrev pub HasLegalStatus : Payload → Type 0
HasLegalStatus (Quota hard status) = (has_ascending_keys (map hard_pair status) ≡ true) × AllByRecursion IsUsage status
HasLegalStatus payload = Unit {0}

pub status_legal : (kind : Kind) (p : Payload) → IsPayloadOf kind p → HasLegalStatus p
status_legal kind (Quota hard status) is = (is.3, is.4)
status_legal kind payload is = tt

still_of_kind : (kind : Kind) (old x : Payload) → HasLegalStatus old → IsPayloadOf kind x → IsPayloadOf kind (with_status old x)
still_of_kind kind (NamespaceOf t) (NamespaceOf u) told is = is
still_of_kind kind (Hierarchy a b c d) (Hierarchy e f g h) told is = is
still_of_kind kind (Anchor s) (Anchor t) told is = is
still_of_kind kind (Quota h s) (Quota k t) told is = (is.0, is.1, is.2, told.0, told.1)
still_of_kind kind old x told is = is

-- the faults of an object depend on its payload by what is specified of it alone
fault_by_size : (x y : Object) → y.id ≡ x.id → y.labels ≡ x.labels → y.annotations ≡ x.annotations → specified_size y.payload ≡ specified_size x.payload → object_fault y ≡ object_fault x
unfolding object_fault has_legal_labels size_of
fault_by_size x y id labels annotations size = rw (id, labels, annotations, size) refl

pub legal_replaced : (old x : Object) → HasLegalStatus old.payload → IsLegal x → IsLegal (replaced_by old x)
legal_replaced old x told legal = record {
  sound = fault_by_size x (replaced_by old x) refl refl refl (same_specified old.payload x.payload) ∙ legal.sound;
  home = legal.home;
  payload = still_of_kind x.id.kind old.payload x.payload told legal.payload;
}

pub same_size : (old x : Object) → size_of (replaced_by old x) ≡ size_of x
unfolding size_of
same_size old x = rw (same_specified old.payload x.payload) refl

-- ---- what requests give

still_typed : (kind : Kind) (old x : Payload) → is_typed kind x ≡ true → is_typed kind (with_status old x) ≡ true
still_typed Secret old x is = by_status (λ x y. is_typed Secret x ≡ true → is_typed Secret y ≡ true) (λ t u is. is) (λ p c a b d e is. is) (λ s t is. is) (λ h s t is. is) (λ x is. is) old x is
still_typed kind old x is = refl

-- ---- keys

dns_no_slash : (bytes : List ℕ) → list_all is_dns_byte bytes ≡ true → HasNoSlash bytes
dns_no_slash [] h = tt
dns_no_slash (byte ∷ bytes) h =
    let parts = and_parts (is_dns_byte byte) (list_all is_dns_byte bytes) h in
    (apart byte parts.0, dns_no_slash bytes parts.1)
  where
    apart : (byte : ℕ) → is_dns_byte byte ≡ true → (byte == 47) ≡ false
    apart byte p = elim (byte == 47) as (λ b. (byte == 47) ≡ b → b ≡ false) [
      | true ↦ λ e. absurd (true≢false (sym p ∙ ap is_dns_byte (eqb-true byte 47 e)))
      | false ↦ λ e. refl
    ] refl

label_no_slash : (bytes : List ℕ) → is_dns_label bytes ≡ true → HasNoSlash bytes
unfolding is_dns_label
label_no_slash bytes h =
    let parts = and_parts (has_length 1 63 bytes) (list_all is_dns_byte bytes && has_ends is_dns_end bytes) h in
    dns_no_slash bytes (and_parts (list_all is_dns_byte bytes) (has_ends is_dns_end bytes) parts.1).0

-- an object without fault has legal names
passed : (b : Bool) (fault : ObjectFault) (rest : Option ObjectFault) → (if not b then Some fault else rest) ≡ None → b ≡ true
passed true fault rest e = refl
passed false fault rest e = absurd (let h : Some fault ≡ None = e in cc)

names_from_sound : (x : Object) → object_fault x ≡ None → has_legal_names x.id ≡ true
unfolding object_fault
names_from_sound x e = passed (has_legal_names x.id) BadName _ e

pub keyed_legal : (x : Object) → IsLegal x → IsKeyed x
unfolding has_legal_names
keyed_legal x legal =
    let names = and_parts (has_legal_namespace x.id) (is_name_of x.id.kind x.id.name) (names_from_sound x legal.sound) in
    elim (is_in_cluster x.id.kind) as (λ b. is_in_cluster x.id.kind ≡ b → (b || is_dns_label x.id.ns) ≡ true → HasNoSlash x.id.ns) [
      | true ↦ λ e _. subst HasNoSlash (sym (legal.home e)) tt
      | false ↦ λ e label. label_no_slash x.id.ns label
    ] refl names.0
