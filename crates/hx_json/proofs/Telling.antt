-- The value of a legal object tells the object, so no two legal objects have one text.
use Rattle.std.proofs.Common.{◌≡◌, ◌<◌, ◌^◌, ℕ, List, [], ◌∷◌, true, false, true≢false, Some, None, Ordering, Less, Equal, Greater, is_eq, nat_cmp, bytes_eq, codes, refl, sym, subst, ap, ◌∙◌, decimal}
use Rattle.std.specs.Ordering.{match_ordering}
use Rattle.std.specs.Cmp.Lexicographic.{slice_cmp}
use Rattle.std.proofs.lemmas.Fmt.{decimal_injective}
use Rattle.std.proofs.lemmas.Map.Text.{is_eq-slice_cmp}
use Rattle.std.proofs.lemmas.Slice.Eq.{bytes_eq-Decides}
use Rattle.serde_json.specs.Data.{Data, string, object, Members, no_members, member, put}
use Rattle.serde_json.specs.Find.{get, get_member}
use Rattle.serde_json.proofs.Views.{get_member-put, get_member-put_other}
use Rattle.hx_object.specs.Faults.{IsPayloadOf, IsLegal}
use Rattle.hx_object.specs.Json.{pairs_members, unless_empty, metadata_of, hierarchy_spec, hierarchy_status, limits_members, quota_status, members_in, own_members, object_data, object_text}
use Rattle.hx_object.specs.Kinds.{name_of, number_of, api_version_of}
use Rattle.hx_object.specs.declared.kind.Kind.{Kind}
use Rattle.hx_object.specs.declared.object.Object.{Object}
use Rattle.hx_object.specs.declared.object.Payload.{Payload}
use Rattle.hx_object.specs.declared.object.Payload.TheVariants.{Namespace, Config, Hierarchy, Anchor, Quota, Plain}
use Rattle.hx_json.specs.Reading.{text_or, pairs_of, without, kept_members}
use Rattle.hx_object.specs.Pairs.{has_ascending_keys}
use Rattle.hx_model.specs.Serving.{IsServed}
use Rattle.hx_json.proofs.InOrder.{metadata, plain_whole, same_data}
use Rattle.hx_json.proofs.Payloads.{kind_named, kind_told, told_payload, payload_told}

-- ---- what was put can be taken away

without_put : (k : List ℕ) (d : Data) (ms : Members) → get_member k ms ≡ None → without k (put k d ms) ≡ ms
without_put k d no_members h = rw ((bytes_eq-Decides k k).1 refl)
without_put k d (member l e ms) h = by (slice_cmp nat_cmp k l) refl (without_put k d ms) h
  where
    by : (o : Ordering) → slice_cmp nat_cmp k l ≡ o → (get_member k ms ≡ None → without k (put k d ms) ≡ ms) → match_ordering o (get_member k ms) (Some e) (get_member k ms) ≡ None
        → without k (match_ordering o (member k d (member l e ms)) (member l d ms) (member l e (put k d ms))) ≡ member l e ms
    by Less is later none = rw ((bytes_eq-Decides k k).1 refl)
    by Equal is later none = absurd (cc)
    by Greater is later none = let apart : bytes_eq k l ≡ false = sym (is_eq-slice_cmp k l) ∙ ap is_eq is in rw apart (ap (member l e) (later none))

-- no member has the name of one that each object has
unfoldable pub LacksHead : Members → Type 0
LacksHead ms = (get_member (codes "apiVersion") ms ≡ None) × (get_member (codes "kind") ms ≡ None) × (get_member (codes "metadata") ms ≡ None)

pub other_text : (a b : List ℕ) → bytes_eq a b ≡ false → a ≡ b → ⊥
other_text a b apart same = true≢false (sym ((bytes_eq-Decides a b).1 same) ∙ apart)

pub head_taken : (version kind metadata : Data) (own : Members) → LacksHead own
    → kept_members (object (put (codes "apiVersion") version (put (codes "kind") kind (put (codes "metadata") metadata own)))) ≡ own
unfolding LacksHead
head_taken version kind metadata own h =
    let with_metadata = put (codes "metadata") metadata own in
    let with_kind = put (codes "kind") kind with_metadata in
    let no_kind = get_member-put_other (codes "kind") (codes "metadata") metadata own (other_text _ _ refl) ∙ h.1 in
    let no_version =
    get_member-put_other (codes "apiVersion") (codes "kind") kind with_metadata (other_text _ _ refl)
    ∙ get_member-put_other (codes "apiVersion") (codes "metadata") metadata own (other_text _ _ refl) ∙ h.0 in
    ap (λ ms. without (codes "metadata") (without (codes "kind") ms)) (without_put (codes "apiVersion") version with_kind no_version)
    ∙ ap (without (codes "metadata")) (without_put (codes "kind") kind with_metadata no_kind)
    ∙ without_put (codes "metadata") metadata own h.2

-- ---- the metadata

-- the members under the names of the metadata
IsTold : Members → Members → Members → List ℕ → List ℕ → List ℕ → Type 0
IsTold ms annotations labels name ns version =
    (members_in (get_member (codes "annotations") ms) ≡ annotations)
    × (members_in (get_member (codes "labels") ms) ≡ labels)
    × (text_or [] (get_member (codes "name") ms) ≡ name)
    × (text_or [] (get_member (codes "namespace") ms) ≡ ns)
    × (text_or [] (get_member (codes "resourceVersion") ms) ≡ version)

metadata_told : (annotations labels : Members) (name ns version : List ℕ) → IsTold (metadata annotations labels name ns version) annotations labels name ns version
unfolding IsTold
metadata_told no_members no_members name [] version = (refl, refl, refl, refl, refl)
metadata_told no_members no_members name (c ∷ ns) version = (refl, refl, refl, refl, refl)
metadata_told no_members (member l e labels) name [] version = (refl, refl, refl, refl, refl)
metadata_told no_members (member l e labels) name (c ∷ ns) version = (refl, refl, refl, refl, refl)
metadata_told (member k d annotations) no_members name [] version = (refl, refl, refl, refl, refl)
metadata_told (member k d annotations) no_members name (c ∷ ns) version = (refl, refl, refl, refl, refl)
metadata_told (member k d annotations) (member l e labels) name [] version = (refl, refl, refl, refl, refl)
metadata_told (member k d annotations) (member l e labels) name (c ∷ ns) version = (refl, refl, refl, refl, refl)

pub pairs_told : (ps : List (List ℕ × List ℕ)) → pairs_of (pairs_members ps) ≡ ps
pairs_told [] = refl
pairs_told (p ∷ ps) = ap (λ qs. p ∷ qs) (pairs_told ps)

-- ---- the object

both_lack : (spec status : Members) → LacksHead (member (codes "spec") (object spec) (unless_empty (codes "status") status no_members))
unfolding LacksHead
both_lack spec no_members = (refl, refl, refl)
both_lack spec (member k d status) = (refl, refl, refl)

pub own_lacks : (kind : Kind) (payload : Payload) → IsPayloadOf kind payload → LacksHead (own_members payload)
unfolding LacksHead
own_lacks kind (Namespace terminating) h = (refl, refl, refl)
own_lacks kind (Config entries) h = (refl, refl, refl)
own_lacks kind (Hierarchy parent cascade children conditions) h = both_lack (hierarchy_spec parent cascade) (hierarchy_status children conditions)
own_lacks kind (Anchor None) h = (refl, refl, refl)
own_lacks kind (Anchor (Some status)) h = (refl, refl, refl)
own_lacks kind (Quota hard status) h = both_lack (member (codes "hard") (object (limits_members hard)) no_members) (quota_status status)
own_lacks kind (Plain members need) h = subst LacksHead (sym (plain_whole kind members need h.1)) h.1.own

own_told : (x : Object) → IsLegal x → kept_members (object_data x) ≡ own_members x.payload
own_told x legal =
    head_taken (string (api_version_of x.id.kind)) (string (name_of x.id.kind)) (object (metadata_of x)) (own_members x.payload) (own_lacks x.id.kind x.payload legal.payload)

-- what is put first and second is found behind what is put third
pub behind : (name : List ℕ) (version kind metadata : Data) (own : Members) → bytes_eq name (codes "apiVersion") ≡ false
    → get name (object (put (codes "apiVersion") version (put (codes "kind") kind (put (codes "metadata") metadata own)))) ≡ get_member name (put (codes "kind") kind (put (codes "metadata") metadata own))
behind name version kind metadata own apart = get_member-put_other name (codes "apiVersion") version _ (other_text _ _ apart)

kind_there : (x : Object) → get (codes "kind") (object_data x) ≡ Some (string (name_of x.id.kind))
kind_there x =
    behind (codes "kind") (string (api_version_of x.id.kind)) (string (name_of x.id.kind)) (object (metadata_of x)) (own_members x.payload) refl
    ∙ get_member-put (codes "kind") (string (name_of x.id.kind)) (put (codes "metadata") (object (metadata_of x)) (own_members x.payload))

pub metadata_there : (x : Object) → get (codes "metadata") (object_data x) ≡ Some (object (metadata_of x))
metadata_there x =
    behind (codes "metadata") (string (api_version_of x.id.kind)) (string (name_of x.id.kind)) (object (metadata_of x)) (own_members x.payload) refl
    ∙ get_member-put_other (codes "metadata") (codes "kind") (string (name_of x.id.kind)) (put (codes "metadata") (object (metadata_of x)) (own_members x.payload)) (other_text _ _ refl)
    ∙ get_member-put (codes "metadata") (object (metadata_of x)) (own_members x.payload)

one_kind : (a b : Object) → object_data a ≡ object_data b → a.id.kind ≡ b.id.kind
one_kind a b same =
    let there : Some (string (name_of a.id.kind)) ≡ Some (string (name_of b.id.kind)) = sym (kind_there a) ∙ ap (get (codes "kind")) same ∙ kind_there b in
    let named : Some a.id.kind ≡ Some b.id.kind = sym (kind_told a.id.kind) ∙ ap (λ o. kind_named (text_or [] o)) there ∙ kind_told b.id.kind in
    cc

one_metadata : (a b : Object) → object_data a ≡ object_data b → metadata_of a ≡ metadata_of b
one_metadata a b same = ap members_in (sym (metadata_there a) ∙ ap (get (codes "metadata")) same ∙ metadata_there b)

one_payload : (a b : Object) → IsLegal a → IsLegal b → object_data a ≡ object_data b → a.payload ≡ b.payload
one_payload a b p q same =
    let kind = one_kind a b same in
    let own : own_members a.payload ≡ own_members b.payload = sym (own_told a p) ∙ ap kept_members same ∙ own_told b q in
    sym (payload_told a.id.kind a.payload p.payload)
    ∙ (λ i. told_payload (number_of (kind i)) (kind i) (own i))
    ∙ payload_told b.id.kind b.payload q.payload

object_told : (x : Object) → IsTold (metadata_of x) (pairs_members x.annotations) (pairs_members x.labels) x.id.name x.id.ns (decimal x.version)
object_told x = metadata_told (pairs_members x.annotations) (pairs_members x.labels) x.id.name x.id.ns (decimal x.version)

told : (a b : Object) → IsLegal a → IsLegal b → a.version < 2 ^ 64 → b.version < 2 ^ 64 → object_data a ≡ object_data b → a ≡ b
unfolding IsTold
told a b p q h k same =
    let kind = one_kind a b same in
    let payload = one_payload a b p q same in
    let m = one_metadata a b same in
    let s = object_told a in
    let t = object_told b in
    let annotations =
    sym (pairs_told a.annotations) ∙ ap pairs_of (sym s.0 ∙ ap (λ ms. members_in (get_member (codes "annotations") ms)) m ∙ t.0) ∙ pairs_told b.annotations in
    let labels = sym (pairs_told a.labels) ∙ ap pairs_of (sym s.1 ∙ ap (λ ms. members_in (get_member (codes "labels") ms)) m ∙ t.1) ∙ pairs_told b.labels in
    let name = sym s.2 ∙ ap (λ ms. text_or [] (get_member (codes "name") ms)) m ∙ t.2 in
    let ns = sym s.3 ∙ ap (λ ms. text_or [] (get_member (codes "namespace") ms)) m ∙ t.3 in
    let digits = sym s.4 ∙ ap (λ ms. text_or [] (get_member (codes "resourceVersion") ms)) m ∙ t.4 in
    let version = decimal_injective a.version b.version h k digits in
    λ i. record {
      id = record { kind = kind i; ns = ns i; name = name i };
      labels = labels i;
      annotations = annotations i;
      payload = payload i;
      version = version i;
    }

-- no two legal objects have one text
pub text_told : (a b : Object) → IsLegal a → IsLegal b
    → has_ascending_keys a.labels ≡ true → has_ascending_keys a.annotations ≡ true → a.version < 2 ^ 64
    → has_ascending_keys b.labels ≡ true → has_ascending_keys b.annotations ≡ true → b.version < 2 ^ 64
    → object_text a ≡ object_text b → a ≡ b
text_told a b p q la aa va lb ab vb same =
    told a b p q va vb (same_data a b p q (record { labels = la; annotations = aa }) (record { labels = lb; annotations = ab }) same)

-- no two objects that may be stored have one text
pub served_told : (a b : Object) → IsServed a → IsServed b → a.version < 2 ^ 64 → b.version < 2 ^ 64 → object_text a ≡ object_text b → a ≡ b
served_told a b p q va vb same =
    text_told a b p.legal q.legal p.kept.labels p.kept.annotations va q.kept.labels q.kept.annotations vb same
