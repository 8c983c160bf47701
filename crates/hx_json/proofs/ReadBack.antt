-- An object that may be stored is what its text says.
--     object_back      the object of its identity and its version that its value says is itself
--     said_back        the same of a tree of its text
--     tree_back        its text has a tree that is read as it stands
use Rattle.std.proofs.Common.{◌≡◌, ℕ, List, [], ◌∷◌, Bool, true, false, true≢false, Option, Some, None, Err, option_and_then, unwrap_or, bytes_eq, ◌&&◌, map, codes, refl, sym, subst, ap, ◌∙◌, decimal}
use Rattle.std.specs.List.{AllByRecursion, list_all}
use Rattle.std.proofs.lemmas.Bool.{and_parts}
use Rattle.serde_json.specs.Data.{Data, null, string, object, Members, no_members, member, put}
use Rattle.serde_json.specs.Find.{get, get_member}
use Rattle.serde_json.specs.Read.{read}
use Rattle.serde_json.proofs.Views.{get_member-put_other}
use Rattle.json.specs.Json.{Json}
use Rattle.hx_object.specs.Canonical.{IsCanonical}
use Rattle.hx_object.specs.Faults.{IsPayloadOf, IsUsage, object_fault}
use Rattle.hx_object.specs.Json.{pairs_members, unless_empty, texts_items, metadata_of, phase_of, mode_text, entry_data, entries_items, condition_data, conditions_items, anchor_text, hard_pair, hierarchy_spec, hierarchy_status, members_in, own_members, object_data, object_text}
use Rattle.hx_object.specs.Kinds.{is_plain}
use Rattle.hx_object.specs.Pairs.{has_ascending_keys}
use Rattle.hx_object.specs.declared.kind.Kind.{Kind}
use Rattle.hx_object.specs.declared.kind.Kind.TheVariants as of
use Rattle.hx_object.specs.declared.object.AnchorStatus.{AnchorStatus}
use Rattle.hx_object.specs.declared.object.AnchorStatus.TheVariants.{Missing, Ok, Conflict, Forbidden}
use Rattle.hx_object.specs.declared.object.Condition.{Condition}
use Rattle.hx_object.specs.declared.object.Condition.TheVariants.{InCycle, ParentMissing, IllegalParent, Ancestor, AnchorMissing}
use Rattle.hx_object.specs.declared.object.Id.{Id}
use Rattle.hx_object.specs.declared.object.Mode.{Mode}
use Rattle.hx_object.specs.declared.object.Mode.TheVariants.{Propagate, AllowPropagate, Remove, Ignore}
use Rattle.hx_object.specs.declared.object.ModeEntry.{ModeEntry}
use Rattle.hx_object.specs.declared.object.Object.{Object}
use Rattle.hx_object.specs.declared.object.Payload.{Payload}
use Rattle.hx_object.specs.declared.object.Payload.TheVariants.{Namespace, Config, Hierarchy, Anchor, Quota, Plain}
use Rattle.hx_object.specs.declared.object.Limit.{Limit}
use Rattle.hx_object.specs.declared.object.Usage.{Usage}
use Rattle.hx_model.specs.Serving.{IsServed, has_type, is_given_mode, is_kept, is_typed}
use Rattle.hx_json.specs.Reading.{counted_member, entry_of, entries_of, in_spec, is_this, items_in, kept_members, limits_of, metadata_in, mode_of_text, pairs_in, pairs_of, payload_of, plain_of, text_in, truth_in, unless_empty_text, unless_null}
use Rattle.hx_json.specs.Inside.{has_quantities}
use Rattle.hx_json.specs.Fits.{is_fit}
use Rattle.hx_json.specs.Rows.{Gives, IsTextOf, IsUnsound, condition_in, conditions_of, in_front, in_status, reported, row_fault, said_object, status_named, texts_of, usages_of, with_status}
use Rattle.hx_json.specs.Trees.{data_of, has_sorted_usages, is_ordered, tree_of, IsNoTree, IsOrdered}
use Rattle.hx_json.specs.declared.fault.JsonFault.{JsonFault}
use Rattle.hx_json.specs.declared.fault.JsonFault.TheVariants as faults
use Rattle.hx_json.proofs.Given.{typed_is}
use Rattle.hx_json.proofs.InOrder.{canonical_object, metadata, plain_whole, shallow_object}
use Rattle.hx_json.proofs.Normal.{compact_ordered, compact_usages}
use Rattle.hx_json.proofs.Orders.{ordered_canonical, ordered_read, ordered_shallow}
use Rattle.hx_json.proofs.Quotas.{limits_back, quantities_back}
use Rattle.hx_json.proofs.RoundTrip.{read-compact_text}
use Rattle.hx_json.proofs.Statuses.{reported_typed, still_sound}
use Rattle.hx_json.proofs.Telling.{behind, head_taken, metadata_there, other_text, own_lacks, pairs_told}
use Rattle.hx_json.proofs.Usages.{usages_back}

-- ---- the payload

mode_back : (mode : Mode) → is_given_mode mode ≡ true → unwrap_or (mode_of_text (mode_text mode)) Propagate ≡ mode
mode_back Propagate h = refl
mode_back AllowPropagate h = absurd (true≢false (sym h))
mode_back Remove h = refl
mode_back Ignore h = refl

entry_back : (e : ModeEntry) → is_given_mode e.mode ≡ true → entry_of (entry_data e) ≡ e
entry_back e h = λ i. record { group = e.group; resource = e.resource; mode = mode_back e.mode h i }

entries_back : (es : List ModeEntry) → list_all (λ (e : ModeEntry). is_given_mode e.mode) es ≡ true → entries_of (entries_items es) ≡ es
entries_back [] h = refl
entries_back (e ∷ es) h =
    let parts = and_parts (is_given_mode e.mode) (list_all (λ (e : ModeEntry). is_given_mode e.mode) es) h in
    λ i. entry_back e parts.0 i ∷ entries_back es parts.1 i

parent_back : (parent : Option (List ℕ)) (cascade : Bool) → ((parent ≡ Some []) → ⊥) → unless_empty_text (text_in (counted_member (codes "parent") (object (hierarchy_spec parent cascade)))) ≡ parent
parent_back None false h = refl
parent_back None true h = refl
parent_back (Some []) cascade h = absurd (h refl)
parent_back (Some (byte ∷ parent)) false h = refl
parent_back (Some (byte ∷ parent)) true h = refl

cascade_back : (parent : Option (List ℕ)) (cascade : Bool) → truth_in (counted_member (codes "allowCascadingDeletion") (object (hierarchy_spec parent cascade))) ≡ cascade
cascade_back None false = refl
cascade_back None true = refl
cascade_back (Some parent) false = refl
cascade_back (Some parent) true = refl

phase_back : (terminating : Bool) → is_this (codes "Terminating") (option_and_then (counted_member (codes "phase")) (Some (object (member (codes "phase") (string (phase_of terminating)) no_members)))) ≡ terminating
phase_back true = refl
phase_back false = refl

status_back : (status : AnchorStatus)
    → option_and_then status_named (text_in (option_and_then (counted_member (codes "status")) (Some (object (member (codes "status") (string (anchor_text status)) no_members))))) ≡ Some status
status_back Missing = refl
status_back Ok = refl
status_back Conflict = refl
status_back Forbidden = refl

texts_back : (texts : List (List ℕ)) → texts_of (texts_items texts) ≡ texts
texts_back [] = refl
texts_back (text ∷ texts) = ap (λ ts. text ∷ ts) (texts_back texts)

condition_back : (c : Condition) → condition_in (condition_data c) ≡ Some c
condition_back InCycle = refl
condition_back ParentMissing = refl
condition_back IllegalParent = refl
condition_back Ancestor = refl
condition_back AnchorMissing = refl

conditions_back : (cs : List Condition) → conditions_of (conditions_items cs) ≡ cs
conditions_back [] = refl
conditions_back (c ∷ cs) = λ i. in_front (condition_back c i) (conditions_back cs i)

-- a member of what is reported of a hierarchy
reported_member : List ℕ → List (List ℕ) → List Condition → Option Data
reported_member name children conditions =
    let own = unless_empty (codes "status") (hierarchy_status children conditions) no_members in
    option_and_then (counted_member name) (unless_null (get_member (codes "status") own))

children_back : (children : List (List ℕ)) (conditions : List Condition) → texts_of (items_in (reported_member (codes "children") children conditions)) ≡ children
unfolding reported_member
children_back [] [] = refl
children_back [] (c ∷ cs) = refl
children_back (text ∷ texts) conditions = texts_back (text ∷ texts)

halts_back : (children : List (List ℕ)) (conditions : List Condition) → conditions_of (items_in (reported_member (codes "conditions") children conditions)) ≡ conditions
unfolding reported_member
halts_back [] [] = refl
halts_back [] (c ∷ cs) = conditions_back (c ∷ cs)
halts_back (text ∷ texts) [] = refl
halts_back (text ∷ texts) (c ∷ cs) = conditions_back (c ∷ cs)

-- a member of what is reported of a quota
reported_of : List ℕ → List Limit → List Usage → Option Data
reported_of name hard status = option_and_then (counted_member name) (unless_null (get_member (codes "status") (own_members (Quota hard status))))

used_back : (hard : List Limit) (status : List Usage) → has_ascending_keys (map hard_pair status) ≡ true → AllByRecursion IsUsage status
    → usages_of (reported_of (codes "used") hard status) (members_in (reported_of (codes "hard") hard status)) ≡ status
unfolding reported_of
used_back hard [] ascends h = refl
used_back hard (usage ∷ status) ascends h = usages_back (usage ∷ status) ascends h

plain_kind : (kind : Kind) (d : Data) → is_plain kind ≡ true → payload_of kind d ≡ plain_of kind (kept_members d)
plain_kind of.Namespace d h = absurd (true≢false (sym h))
plain_kind of.HncConfiguration d h = absurd (true≢false (sym h))
plain_kind of.HierarchyConfiguration d h = absurd (true≢false (sym h))
plain_kind of.SubnamespaceAnchor d h = absurd (true≢false (sym h))
plain_kind of.HierarchicalResourceQuota d h = absurd (true≢false (sym h))
plain_kind kind d h = refl

-- the value whose members are those that each object has, and its own
module _ (version kind metadata : Data) where
  abbrev whole : Members → Data
  whole own = object (put (codes "apiVersion") version (put (codes "kind") kind (put (codes "metadata") metadata own)))

  member_there : (name : List ℕ) (own : Members) → bytes_eq name (codes "apiVersion") ≡ false → bytes_eq name (codes "kind") ≡ false → bytes_eq name (codes "metadata") ≡ false
      → get name (whole own) ≡ get_member name own
  member_there name own v k m =
      behind name version kind metadata own v
      ∙ get_member-put_other name (codes "kind") kind (put (codes "metadata") metadata own) (other_text _ _ k)
      ∙ get_member-put_other name (codes "metadata") metadata own (other_text _ _ m)

  spec_there : (name : List ℕ) (own : Members) → in_spec name (whole own) ≡ option_and_then (counted_member name) (unless_null (get_member (codes "spec") own))
  spec_there name own = ap (λ o. option_and_then (counted_member name) (unless_null o)) (member_there (codes "spec") own refl refl refl)

  status_there : (name : List ℕ) (own : Members) → in_status name (whole own) ≡ option_and_then (counted_member name) (unless_null (get_member (codes "status") own))
  status_there name own = ap (λ o. option_and_then (counted_member name) (unless_null o)) (member_there (codes "status") own refl refl refl)

  -- what a row says, as a request's body says it and with what is reported besides
  row_payload : Kind → Members → Payload
  row_payload k own = reported (whole own) (payload_of k (whole own))

  payload_back : (k : Kind) (payload : Payload) → IsPayloadOf k payload → is_kept payload ≡ true → row_payload k (own_members payload) ≡ payload
  unfolding row_payload reported_member reported_of
  payload_back k (Namespace terminating) h kept =
      let own = own_members (Namespace terminating) in
      ap (λ k. row_payload k own) h
      ∙ ap (λ o. Namespace (is_this (codes "Terminating") o)) (status_there (codes "phase") own)
      ∙ ap Namespace (phase_back terminating)
  payload_back k (Config entries) h kept =
      ap (λ k. row_payload k (own_members (Config entries))) h
      ∙ ap (λ o. Config (entries_of (items_in o))) (spec_there (codes "resources") (own_members (Config entries)))
      ∙ ap Config (entries_back entries kept)
  payload_back k (Hierarchy parent cascade children conditions) h kept =
      let own = own_members (Hierarchy parent cascade children conditions) in
      let parents : _ ≡ parent = ap (λ o. unless_empty_text (text_in o)) (spec_there (codes "parent") own) ∙ parent_back parent cascade h.1 in
      let cascades : _ ≡ cascade = ap truth_in (spec_there (codes "allowCascadingDeletion") own) ∙ cascade_back parent cascade in
      let child : _ ≡ children = ap (λ o. texts_of (items_in o)) (status_there (codes "children") own) ∙ children_back children conditions in
      let condition : _ ≡ conditions = ap (λ o. conditions_of (items_in o)) (status_there (codes "conditions") own) ∙ halts_back children conditions in
      ap (λ k. row_payload k own) h.0 ∙ (λ i. Hierarchy (parents i) (cascades i) (child i) (condition i))
  payload_back k (Anchor None) h kept =
      ap (λ k. row_payload k no_members) h
      ∙ ap (λ o. Anchor (option_and_then status_named (text_in o))) (status_there (codes "status") no_members)
  payload_back k (Anchor (Some status)) h kept =
      let own = own_members (Anchor (Some status)) in
      ap (λ k. row_payload k own) h
      ∙ ap (λ o. Anchor (option_and_then status_named (text_in o))) (status_there (codes "status") own)
      ∙ ap Anchor (status_back status)
  payload_back k (Quota hard status) h kept =
      let own = own_members (Quota hard status) in
      let limits : _ ≡ hard = ap (λ o. limits_of (members_in o)) (spec_there (codes "hard") own) ∙ limits_back hard h.2 in
      let usages : _ ≡ status = (λ i. usages_of (status_there (codes "used") own i) (members_in (status_there (codes "hard") own i))) ∙ used_back hard status h.3 h.4 in
      ap (λ k. row_payload k own) h.0 ∙ (λ i. Quota (limits i) (usages i))
  payload_back k (Plain members need) h kept =
      ap (reported (whole (own_members (Plain members need)))) (plain_kind k _ h.0
      ∙ ap (plain_of k) (head_taken version kind metadata (own_members (Plain members need)) (own_lacks k (Plain members need) h) ∙ plain_whole k members need h.1))
      ∙ (λ i. Plain (sym h.1.text i) (sym h.1.says i))

-- ---- the pairs

labels_back : (annotations labels : Members) (name ns version : List ℕ) → pairs_in (counted_member (codes "labels") (object (metadata annotations labels name ns version))) ≡ pairs_of labels
labels_back no_members no_members name [] version = refl
labels_back no_members no_members name (c ∷ ns) version = refl
labels_back no_members (member l e labels) name ns version = refl
labels_back (member k d annotations) no_members name [] version = refl
labels_back (member k d annotations) no_members name (c ∷ ns) version = refl
labels_back (member k d annotations) (member l e labels) name ns version = refl

annotations_back : (annotations labels : Members) (name ns version : List ℕ) → pairs_in (counted_member (codes "annotations") (object (metadata annotations labels name ns version))) ≡ pairs_of annotations
annotations_back no_members no_members name [] version = refl
annotations_back no_members no_members name (c ∷ ns) version = refl
annotations_back no_members (member l e labels) name [] version = refl
annotations_back no_members (member l e labels) name (c ∷ ns) version = refl
annotations_back (member k d annotations) labels name ns version = refl

-- ---- the object

-- the object of an identity that the value of a row says
abbrev row_object : Id → ℕ → Data → Object
row_object id version d = with_status d (said_object id version d)

object_back : (x : Object) → IsServed x → row_object x.id x.version (object_data x) ≡ x
unfolding row_payload
object_back x served =
    let there : metadata_in (object_data x) ≡ object (metadata_of x) = ap (λ o. unwrap_or o null) (metadata_there x) in
    let a = pairs_members x.annotations in
    let l = pairs_members x.labels in
    let labels = ap (λ d. pairs_in (counted_member (codes "labels") d)) there ∙ labels_back a l x.id.name x.id.ns (decimal x.version) ∙ pairs_told x.labels in
    let annotations = ap (λ d. pairs_in (counted_member (codes "annotations") d)) there ∙ annotations_back a l x.id.name x.id.ns (decimal x.version) ∙ pairs_told x.annotations in
    let payload = payload_back _ _ _ x.id.kind x.payload served.legal.payload served.kept.payload in
    λ i. record { id = x.id; labels = labels i; annotations = annotations i; payload = payload i; version = x.version }

canonical : (x : Object) → IsServed x → IsCanonical (object_data x)
canonical x served = canonical_object x served.legal (record { labels = served.kept.labels; annotations = served.kept.annotations })

-- its text has a tree that is read as it stands
pub tree_back : (x : Object) → IsServed x → IsOrdered x.id.kind (object_text x)
unfolding object_text
tree_back x served = compact_ordered x.id.kind (object_data x) (canonical x served) (shallow_object x served.legal)

-- and the limits that it reports ascend
usages_ordered : (x : Object) (j : Json) → IsServed x → tree_of (object_text x) ≡ Some j → has_sorted_usages j ≡ true
unfolding object_text
usages_ordered x j served is = compact_usages (object_data x) j (canonical x served) (shallow_object x served.legal) is

value_back : (x : Object) → IsServed x → read (object_text x) ≡ Some (object_data x)
unfolding object_text
value_back x served = read-compact_text (object_data x) (canonical x served) (shallow_object x served.legal)

-- a tree of its text says it
pub said_back : (x : Object) (j : Json) → IsServed x → tree_of (object_text x) ≡ Some j → is_ordered x.id.kind j ≡ true → row_object x.id x.version (data_of j) ≡ x
said_back x j served is ordered =
    let found : Some (data_of j) ≡ Some (object_data x) = sym (ordered_read (object_text x) x.id.kind j is ordered) ∙ value_back x served in
    let same : data_of j ≡ object_data x = cc in
    ap (row_object x.id x.version) same ∙ object_back x served

-- ---- its row

-- what is fit for a row, part by part
pub fit_parts : (kind : Kind) (j : Json) → is_fit kind j ≡ true
    → (is_ordered kind j ≡ true) × (has_type kind (data_of j) ≡ true) × (has_quantities kind (data_of j) ≡ true) × (has_sorted_usages j ≡ true)
fit_parts kind j fit =
    let all = and_parts (is_ordered kind j && has_type kind (data_of j) && has_quantities kind (data_of j)) (has_sorted_usages j) fit in
    let more = and_parts (is_ordered kind j && has_type kind (data_of j)) (has_quantities kind (data_of j)) all.0 in
    let first = and_parts (is_ordered kind j) (has_type kind (data_of j)) more.0 in
    (first.0, first.1, more.1, all.1)

module _ (id : Id) (version : ℕ) (text : List ℕ) (x : Object) (h : IsTextOf id version text x) where
  text_ordered : IsOrdered id.kind text
  text_ordered = subst (λ (id : Id). IsOrdered id.kind text) h.id_is (subst (IsOrdered x.id.kind) (sym h.text_is) (tree_back x h.served))

  -- a text without a tree isn't that of an object
  pub treeless : (f : JsonFault) → IsNoTree text f → Gives (Err (row_fault f)) x
  treeless faults.NoMemory none = tt
  treeless f none = absurd (no_tree none)
    where
      no_tree : tree_of text ≡ None → ⊥
      no_tree none = let clash : Some text_ordered.0 ≡ None = sym text_ordered.1 ∙ none in cc

  -- its tree is read as it stands
  ordered : (j : Json) → tree_of text ≡ Some j → is_ordered id.kind j ≡ true
  ordered j is =
      let found : Some text_ordered.0 ≡ Some j = sym text_ordered.1 ∙ is in
      let same : text_ordered.0 ≡ j = cc in
      ap (is_ordered id.kind) (sym same) ∙ text_ordered.2

  pub told : (j : Json) → tree_of text ≡ Some j → is_ordered id.kind j ≡ true → with_status (data_of j) (said_object id version (data_of j)) ≡ x
  told j is ordered =
      (λ i. row_object (sym h.id_is i) (sym h.version_is i) (data_of j))
      ∙ said_back x j h.served (ap tree_of (sym h.text_is) ∙ is) (ap (λ (id : Id). is_ordered id.kind j) h.id_is ∙ ordered)

  -- the type of a Secret is a text
  typed : (j : Json) → tree_of text ≡ Some j → is_ordered id.kind j ≡ true → has_type id.kind (data_of j) ≡ true
  typed j is ordered =
      let typed = subst (λ (y : Object). is_typed y.id.kind y.payload ≡ true) (sym (told j is ordered)) h.served.kept.typed in
      let whole = typed_is id.kind (data_of j) (ordered_canonical text id.kind j is ordered) (ordered_shallow text id.kind j is ordered) in
      sym whole ∙ sym (reported_typed (data_of j) id.kind (payload_of id.kind (data_of j))) ∙ typed

  -- the limits of a quota are quantities
  measured : (j : Json) → tree_of text ≡ Some j → is_ordered id.kind j ≡ true → has_quantities id.kind (data_of j) ≡ true
  measured j is ordered =
      quantities_back id.kind (data_of j) (subst (λ (y : Object). IsPayloadOf y.id.kind y.payload) (sym (told j is ordered)) h.served.legal.payload)

  -- a text whose tree isn't fit for a row isn't that of an object
  pub unfit : (j : Json) → tree_of text ≡ Some j → is_fit id.kind j ≡ false → ⊥
  unfit j is other =
      let o = ordered j is in
      let usages = usages_ordered x j h.served (ap tree_of (sym h.text_is) ∙ is) in
      true≢false (sym (λ i. o i && typed j is o i && measured j is o i && usages i) ∙ other)

  -- and it has no fault of an object
  pub faultless : (j : Json) (f : JsonFault) → tree_of text ≡ Some j → is_ordered id.kind j ≡ true → IsUnsound (said_object id version (data_of j)) f → Gives (Err (row_fault f)) x
  faultless j f is ordered unsound = by f unsound
    where
      said : Object
      said = said_object id version (data_of j)

      sound : object_fault said ≡ None
      sound = sym (still_sound (data_of j) said) ∙ ap object_fault (told j is ordered) ∙ h.served.legal.sound

      by : (f : JsonFault) → IsUnsound said f → Gives (Err (row_fault f)) x
      by faults.NotJson h = h
      by faults.NotWhole h = h
      by faults.WrongKind h = h
      by (faults.MissingMember m) h = h
      by (faults.WrongType m) h = h
      by (faults.BadQuantity m) h = h
      by faults.WrongPlace h = h
      by (faults.Object fault) unsound = let clash : Some fault ≡ None = sym unsound ∙ sound in cc
      by faults.NoMemory h = tt
