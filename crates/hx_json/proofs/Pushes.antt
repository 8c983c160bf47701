-- Texts put together piece by piece are those of the values.
use Rattle.std.proofs.Common.{◌≡◌, ℕ, List, [], ◌∷◌, ◌++◌, Bool, true, false, true≢false, ◌==◌, length, codes, refl, sym, ap, ◌∙◌, append_assoc, decimal, Option, Some, None}
use Rattle.json.specs.Print.{quoted, escape_byte}
use Rattle.serde_json.specs.Data.{Data, string, object, Members, no_members, member}
use Rattle.serde_json.specs.Written.{compact_text, items_text, members_text}
use Rattle.hx_object.specs.Json.{pairs_members, unless_empty, unless_blank, texts_items, entries_items, conditions_items, quota_status, hierarchy_spec, hierarchy_status, metadata_of, object_text}
use Rattle.hx_object.specs.Kinds.{name_of, api_version_of}
use Rattle.hx_object.specs.declared.kind.Kind.{Kind}
use Rattle.hx_object.specs.declared.kind.Kind.TheVariants as kind
use Rattle.hx_object.specs.declared.object.AnchorStatus.{AnchorStatus}
use Rattle.hx_object.specs.declared.object.Condition.{Condition}
use Rattle.hx_object.specs.declared.object.Limit.{Limit}
use Rattle.hx_object.specs.declared.object.ModeEntry.{ModeEntry}
use Rattle.hx_object.specs.declared.object.Object.{Object}
use Rattle.hx_object.specs.declared.object.Usage.{Usage}
use Rattle.hx_object.specs.declared.object.Need.{Need}
use Rattle.hx_object.specs.declared.object.Payload.{Payload}
use Rattle.hx_object.specs.declared.object.Payload.TheVariants.{Namespace, Config, Hierarchy, Anchor, Quota, Plain}
use Rattle.hx_object.specs.Json.{own_members}
use Rattle.hx_model.specs.Json.{objects_items, list_text}
use Rattle.hx_model.specs.Replies.{status_text, deleted_text}
use Rattle.hx_model.specs.declared.refusal.Refusal.{Refusal}
use Rattle.hx_model.specs.declared.refusal.Refusal.TheVariants as of
use Rattle.hx_json.specs.Pushed.{pairs_text, pairs_front, namespace_text, metadata_text, head_text, namespace_rest, config_rest, quota_spec, hard_text, used_text, usages_rest, spec_part, conditions_alone, conditions_behind, status_rest, rest_text, pushed_list, pushed_status, pushed_deleted, rule_text, over_text}

-- two brackets behind a text
closed_twice : (text : List ℕ) → (text ++ 125 ∷ []) ++ 125 ∷ [] ≡ text ++ codes "}}"
closed_twice text = append_assoc text (125 ∷ []) (125 ∷ [])

-- ---- metadata

-- two members that are joined by a comma
seam : (name text rest : List ℕ) → name ++ (text ++ 44 ∷ rest) ≡ (name ++ (text ++ 44 ∷ [])) ++ rest
seam name text rest = ap (λ t. name ++ t) (sym (append_assoc text (44 ∷ []) rest)) ∙ sym (append_assoc name (text ++ 44 ∷ []) rest)

-- labels, and then a member that is always there
labels_front : (labels : List (List ℕ × List ℕ)) (k : List ℕ) (d : Data) (ms : Members)
    → members_text false (unless_empty (codes "labels") (pairs_members labels) (member k d ms)) ≡ pairs_front (codes "\"labels\":") labels ++ members_text false (member k d ms)
unfolding escape_byte
labels_front [] k d ms = refl
labels_front (p ∷ labels) k d ms = seam (codes "\"labels\":") (pairs_text (p ∷ labels)) (members_text false (member k d ms))

annotations_front : (annotations labels : List (List ℕ × List ℕ)) (k : List ℕ) (d : Data) (ms : Members)
    → members_text false (unless_empty (codes "annotations") (pairs_members annotations) (unless_empty (codes "labels") (pairs_members labels) (member k d ms)))
    ≡ pairs_front (codes "\"annotations\":") annotations ++ members_text false (unless_empty (codes "labels") (pairs_members labels) (member k d ms))
unfolding escape_byte
annotations_front [] labels k d ms = refl
annotations_front (p ∷ annotations) [] k d ms = seam (codes "\"annotations\":") (pairs_text (p ∷ annotations)) (members_text false (member k d ms))
annotations_front (p ∷ annotations) (q ∷ labels) k d ms =
    seam (codes "\"annotations\":") (pairs_text (p ∷ annotations)) (members_text false (unless_empty (codes "labels") (pairs_members (q ∷ labels)) (member k d ms)))

-- the members that each object has in its metadata
abbrev identity_rest : List ℕ → List ℕ → Members
identity_rest ns version = unless_blank (codes "namespace") ns (member (codes "resourceVersion") (string version) no_members)

identity_is : (name ns version : List ℕ) → members_text false (member (codes "name") (string name) (identity_rest ns version))
    ≡ codes "\"name\":" ++ (quoted name ++ (namespace_text ns ++ (codes ",\"resourceVersion\":" ++ (quoted version ++ codes "}"))))
unfolding escape_byte
identity_is name [] version = refl
identity_is name (c ∷ ns) version = ap (λ t. codes "\"name\":" ++ (quoted name ++ t)) (sym (append_assoc (codes ",\"namespace\":") (quoted (c ∷ ns)) (codes ",\"resourceVersion\":" ++ (quoted version ++ codes "}"))))

pub metadata_pushed : (x : Object) → compact_text (object (metadata_of x)) ≡ metadata_text x
unfolding metadata_text
metadata_pushed x =
    let rest = identity_rest x.id.ns (decimal x.version) in
    ap (λ t. 123 ∷ t)
    (annotations_front x.annotations x.labels (codes "name") (string x.id.name) rest
    ∙ ap (λ t. pairs_front (codes "\"annotations\":") x.annotations ++ t)
    (labels_front x.labels (codes "name") (string x.id.name) rest
    ∙ ap (λ t. pairs_front (codes "\"labels\":") x.labels ++ t) (identity_is x.id.name x.id.ns (decimal x.version))))

-- ---- objects of kinds that keep no members

-- an object's text by its own members, which come behind its metadata
whole_text : (x : Object) (rest : List ℕ) → List ℕ
whole_text x rest =
    codes "{\"apiVersion\":" ++ (quoted (api_version_of x.id.kind) ++ (codes ",\"kind\":" ++ (quoted (name_of x.id.kind) ++ (codes ",\"metadata\":" ++ (compact_text (object (metadata_of x)) ++ rest)))))

whole_pushed : (x : Object) (rest : List ℕ) → whole_text x rest ≡ head_text x ++ rest
unfolding whole_text head_text
whole_pushed x rest =
    let m = metadata_text x in
    let v = quoted (api_version_of x.id.kind) in
    let k = quoted (name_of x.id.kind) in
    ap (λ t. codes "{\"apiVersion\":" ++ (v ++ (codes ",\"kind\":" ++ (k ++ (codes ",\"metadata\":" ++ (t ++ rest)))))) (metadata_pushed x)
    ∙ ap (λ t. codes "{\"apiVersion\":" ++ (v ++ t)) (sym (append_assoc (codes ",\"kind\":") (k ++ (codes ",\"metadata\":" ++ m)) rest ∙ ap (λ t. codes ",\"kind\":" ++ t) (append_assoc k (codes ",\"metadata\":" ++ m) rest)))
    ∙ sym (append_assoc (codes "{\"apiVersion\":") (v ++ (codes ",\"kind\":" ++ (k ++ (codes ",\"metadata\":" ++ m)))) rest
    ∙ ap (λ t. codes "{\"apiVersion\":" ++ t) (append_assoc v (codes ",\"kind\":" ++ (k ++ (codes ",\"metadata\":" ++ m))) rest))

namespace_pushed : (x : Object) (terminating : Bool) → x.payload ≡ Namespace terminating → head_text x ++ namespace_rest terminating ≡ object_text x
unfolding object_text namespace_rest whole_text escape_byte
namespace_pushed x true is = sym (whole_pushed x (namespace_rest true)) ∙ rw is refl
namespace_pushed x false is = sym (whole_pushed x (namespace_rest false)) ∙ rw is refl

config_pushed : (x : Object) (entries : List ModeEntry) → x.payload ≡ Config entries → head_text x ++ config_rest entries ≡ object_text x
unfolding object_text config_rest whole_text escape_byte
config_pushed x entries is =
    sym (whole_pushed x (config_rest entries)) ∙ ap (λ t. whole_text x (codes ",\"spec\":{\"resources\":[" ++ t)) (sym (closed_twice (items_text false (entries_items entries)))) ∙ rw is refl

usages_are : (status : List Usage) → members_text true (unless_empty (codes "status") (quota_status status) no_members) ≡ usages_rest status
unfolding escape_byte
usages_are [] = refl
usages_are (usage ∷ status) =
    let hard = hard_text (usage ∷ status) in
    let used = used_text (usage ∷ status) in
    ap (λ t. codes ",\"status\":{\"hard\":{" ++ t) (append_assoc hard (codes ",\"used\":{" ++ (used ++ 125 ∷ [])) (125 ∷ []) ∙ ap (λ t. hard ++ (codes ",\"used\":{" ++ t)) (closed_twice used))

quota_pushed : (x : Object) (hard : List Limit) (status : List Usage) → x.payload ≡ Quota hard status → head_text x ++ (quota_spec hard ++ usages_rest status) ≡ object_text x
unfolding object_text quota_spec whole_text escape_byte
quota_pushed x hard status is =
    sym (whole_pushed x (quota_spec hard ++ usages_rest status)) ∙ ap (λ t. whole_text x (quota_spec hard ++ t)) (sym (usages_are status)) ∙ rw is refl

pub usages_filled : (usages : List Usage) → length usages == 0 ≡ false
    → codes ",\"status\":{\"hard\":{" ++ (hard_text usages ++ (codes ",\"used\":{" ++ (used_text usages ++ codes "}}"))) ≡ usages_rest usages
usages_filled [] h = absurd (true≢false h)
usages_filled (usage ∷ usages) h = refl

anchor_pushed : (x : Object) (status : Option AnchorStatus) → x.payload ≡ Anchor status → head_text x ++ members_text true (own_members (Anchor status)) ≡ object_text x
unfolding object_text whole_text escape_byte
anchor_pushed x None is = sym (whole_pushed x (members_text true (own_members (Anchor None)))) ∙ rw is refl
anchor_pushed x (Some status) is = sym (whole_pushed x (members_text true (own_members (Anchor (Some status))))) ∙ rw is refl

spec_is : (parent : Option (List ℕ)) (cascade : Bool) (rest : List ℕ) → codes ",\"spec\":" ++ (compact_text (object (hierarchy_spec parent cascade)) ++ rest) ≡ spec_part parent cascade ++ rest
unfolding escape_byte
spec_is None true rest = refl
spec_is None false rest = refl
spec_is (Some parent) true rest = refl
spec_is (Some parent) false rest = refl

status_is : (children : List (List ℕ)) (conditions : List Condition) → members_text true (unless_empty (codes "status") (hierarchy_status children conditions) no_members) ≡ status_rest children conditions
unfolding escape_byte
status_is [] [] = refl
status_is [] (c ∷ conditions) = ap (λ t. codes ",\"status\":{\"conditions\":[" ++ t) (closed_twice (items_text false (conditions_items (c ∷ conditions))))
status_is (t ∷ children) [] = ap (λ t. codes ",\"status\":{\"children\":[" ++ t) (closed_twice (items_text false (texts_items (t ∷ children))))
status_is (t ∷ children) (c ∷ conditions) =
    let texts = items_text false (texts_items (t ∷ children)) in
    let others = items_text false (conditions_items (c ∷ conditions)) in
    ap (λ l. codes ",\"status\":{\"children\":[" ++ l)
    (append_assoc texts (codes ",\"conditions\":[" ++ (others ++ 125 ∷ [])) (125 ∷ [])
    ∙ ap (λ l. texts ++ (codes ",\"conditions\":[" ++ l)) (closed_twice others)
    ∙ ap (λ l. texts ++ l) (sym (append_assoc (codes ",\"conditions\":[") others (codes "}}"))))

hierarchy_pushed : (x : Object) (parent : Option (List ℕ)) (cascade : Bool) (children : List (List ℕ)) (conditions : List Condition) → x.payload ≡ Hierarchy parent cascade children conditions
    → head_text x ++ (spec_part parent cascade ++ status_rest children conditions) ≡ object_text x
unfolding object_text whole_text escape_byte
hierarchy_pushed x parent cascade children conditions is =
    sym (whole_pushed x (spec_part parent cascade ++ status_rest children conditions))
    ∙ ap (λ t. whole_text x (spec_part parent cascade ++ t)) (sym (status_is children conditions))
    ∙ ap (λ t. whole_text x t) (sym (spec_is parent cascade (members_text true (unless_empty (codes "status") (hierarchy_status children conditions) no_members))))
    ∙ rw is refl

-- an object whose kind isn't plain
pub rest_pushed : (x : Object) (payload : Payload) → x.payload ≡ payload → ((members : List ℕ) (need : Need) → payload ≡ Plain members need → ⊥) → head_text x ++ rest_text payload ≡ object_text x
rest_pushed x (Namespace terminating) is other = namespace_pushed x terminating is
rest_pushed x (Config entries) is other = config_pushed x entries is
rest_pushed x (Hierarchy parent cascade children conditions) is other = hierarchy_pushed x parent cascade children conditions is
rest_pushed x (Anchor status) is other = anchor_pushed x status is
rest_pushed x (Quota hard status) is other = quota_pushed x hard status is
rest_pushed x (Plain members need) is other = absurd (other members need refl)

pub conditions_filled : (conditions : List Condition) → length conditions == 0 ≡ false
    → codes ",\"status\":{\"conditions\":[" ++ (items_text false (conditions_items conditions) ++ codes "}}") ≡ conditions_alone conditions
conditions_filled [] h = absurd (true≢false h)
conditions_filled (c ∷ conditions) h = refl

pub status_filled : (children : List (List ℕ)) (conditions : List Condition) → length children == 0 ≡ false
    → codes ",\"status\":{\"children\":[" ++ (items_text false (texts_items children) ++ (conditions_behind conditions ++ codes "}}")) ≡ status_rest children conditions
status_filled [] conditions h = absurd (true≢false h)
status_filled (t ∷ children) conditions h = refl

-- ---- lists, refusals and removals

list_name : (k : Kind) → quoted (name_of k ++ codes "List") ≡ codes "\"" ++ (name_of k ++ codes "List\"")
unfolding escape_byte
list_name kind.Namespace = refl
list_name _ = refl

list_name_then : (k : Kind) (rest : List ℕ) → quoted (name_of k ++ codes "List") ++ rest ≡ codes "\"" ++ (name_of k ++ (codes "List\"" ++ rest))
list_name_then k rest = ap (λ t. t ++ rest) (list_name k) ∙ ap (λ t. 34 ∷ t) (append_assoc (name_of k) (codes "List\"") rest)

pub list_pushed : (k : Kind) (xs : List Object) (version : ℕ) → pushed_list k xs version ≡ list_text k xs version
unfolding pushed_list list_text escape_byte
list_pushed k xs version =
    ap (λ t. codes "{\"apiVersion\":" ++ (quoted (api_version_of k) ++ (codes ",\"items\":[" ++ (items_text false (objects_items xs) ++ (codes ",\"kind\":" ++ t)))))
    (sym (list_name_then k (codes ",\"metadata\":{\"resourceVersion\":" ++ (quoted (decimal version) ++ codes "}}")))
    ∙ ap (λ t. quoted (name_of k ++ codes "List") ++ (codes ",\"metadata\":{\"resourceVersion\":" ++ t)) (sym (closed_twice (quoted (decimal version)))))

pub status_pushed : (r : Refusal) → pushed_status r ≡ status_text r
unfolding pushed_status status_text rule_text over_text escape_byte
status_pushed (of.Broken rule) = refl
status_pushed (of.OverQuota ns quota resource used asked hard) = refl
status_pushed _ = refl

pub deleted_pushed : (version : ℕ) → pushed_deleted version ≡ deleted_text version
unfolding pushed_deleted deleted_text escape_byte
deleted_pushed version = ap (λ t. codes "{\"apiVersion\":\"v1\",\"kind\":\"Status\",\"metadata\":{\"resourceVersion\":" ++ t) (sym (append_assoc (quoted (decimal version)) (125 ∷ []) (codes ",\"status\":\"Success\"}")))
