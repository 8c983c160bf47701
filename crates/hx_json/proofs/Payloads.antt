-- What the members of an object tell of its kind and its payload.
use Rattle.std.proofs.Common.{◌≡◌, ◌≤◌, ◌<◌, ℕ, List, [], ◌∷◌, Bool, true, false, cond, ◌==◌, Option, Some, None, option_map, find, bytes_eq, codes, refl, sym, ap, ◌∙◌, arith, eqb-true}
use Rattle.serde_json.specs.Data.{Data, object, Items, no_items, item, Members, no_members, member}
use Rattle.serde_json.specs.Find.{get, get_member}
use Rattle.serde_json.specs.Read.{read}
use Rattle.hx_object.specs.Faults.{IsPayloadOf}
use Rattle.hx_object.specs.Json.{unless_empty, texts_items, phase_of, mode_text, entry_data, entries_items, reason_text, conditions_items, anchor_text, hierarchy_spec, hierarchy_status, limits_members, quota_status, members_in, own_members}
use Rattle.hx_object.specs.Kinds.{all_kinds, name_of, number_of}
use Rattle.hx_object.proofs.KindTests.{plain_number}
use Rattle.hx_object.specs.declared.kind.Kind.{Kind}
use Rattle.hx_object.specs.declared.kind.Kind.TheVariants.{Namespace as NamespaceKind, HncConfiguration, HierarchyConfiguration, SubnamespaceAnchor, HierarchicalResourceQuota, Role, RoleBinding, ConfigMap, Secret, NetworkPolicy, LimitRange, Pod, Service, PersistentVolumeClaim}
use Rattle.hx_object.specs.declared.object.Mode.{Mode}
use Rattle.hx_object.specs.declared.object.Mode.TheVariants.{Propagate, AllowPropagate, Remove, Ignore}
use Rattle.hx_object.specs.declared.object.ModeEntry.{ModeEntry}
use Rattle.hx_object.specs.declared.object.Condition.{Condition}
use Rattle.hx_object.specs.declared.object.Condition.TheVariants.{InCycle, ParentMissing, IllegalParent, Ancestor, AnchorMissing}
use Rattle.hx_object.specs.declared.object.AnchorStatus.{AnchorStatus}
use Rattle.hx_object.specs.declared.object.AnchorStatus.TheVariants.{Missing, Ok, Conflict, Forbidden}
use Rattle.hx_object.specs.declared.object.Payload.{Payload}
use Rattle.hx_object.specs.declared.object.Payload.TheVariants.{Namespace, Config, Hierarchy, Anchor, Quota, Plain}
use Rattle.hx_json.specs.Reading.{text_in, text_or, truth_in, items_in, limits_of, plain_of}
use Rattle.hx_json.specs.Rows.{usages_of}
use Rattle.hx_json.proofs.InOrder.{status_of, plain_whole}
use Rattle.hx_json.proofs.Quotas.{limits_back}
use Rattle.hx_json.proofs.Usages.{usages_told}

-- ---- the kind

-- the kind of a name
pub kind_named : List ℕ → Option Kind
kind_named name = find (λ kind. bytes_eq name (name_of kind)) all_kinds

pub kind_told : (kind : Kind) → kind_named (name_of kind) ≡ Some kind
unfolding kind_named
kind_told NamespaceKind = refl
kind_told HncConfiguration = refl
kind_told HierarchyConfiguration = refl
kind_told SubnamespaceAnchor = refl
kind_told HierarchicalResourceQuota = refl
kind_told Role = refl
kind_told RoleBinding = refl
kind_told ConfigMap = refl
kind_told Secret = refl
kind_told NetworkPolicy = refl
kind_told LimitRange = refl
kind_told Pod = refl
kind_told Service = refl
kind_told PersistentVolumeClaim = refl

-- ---- the parts of payloads

told_phase : List ℕ → Bool
told_phase text = bytes_eq text (codes "Terminating")

phase_told : (terminating : Bool) → told_phase (phase_of terminating) ≡ terminating
unfolding told_phase
phase_told true = refl
phase_told false = refl

told_mode : List ℕ → Mode
told_mode text =
    cond (bytes_eq text (codes "Propagate")) Propagate (cond (bytes_eq text (codes "AllowPropagate")) AllowPropagate (cond (bytes_eq text (codes "Remove")) Remove Ignore))

mode_told : (mode : Mode) → told_mode (mode_text mode) ≡ mode
unfolding told_mode
mode_told Propagate = refl
mode_told AllowPropagate = refl
mode_told Remove = refl
mode_told Ignore = refl

told_entry : Data → ModeEntry
told_entry d = record { group = text_or [] (get (codes "group") d); resource = text_or [] (get (codes "resource") d); mode = told_mode (text_or [] (get (codes "mode") d)) }

entry_told : (e : ModeEntry) → told_entry (entry_data e) ≡ e
unfolding told_entry
entry_told e = λ i. record { group = e.group; resource = e.resource; mode = mode_told e.mode i }

told_entries : Items → List ModeEntry
told_entries no_items = []
told_entries (item d ds) = told_entry d ∷ told_entries ds

entries_told : (entries : List ModeEntry) → told_entries (entries_items entries) ≡ entries
unfolding told_entries
entries_told [] = refl
entries_told (e ∷ es) = λ i. entry_told e i ∷ entries_told es i

told_texts : Items → List (List ℕ)
told_texts no_items = []
told_texts (item d ds) = text_or [] (Some d) ∷ told_texts ds

texts_told : (texts : List (List ℕ)) → told_texts (texts_items texts) ≡ texts
unfolding told_texts
texts_told [] = refl
texts_told (text ∷ texts) = ap (λ ts. text ∷ ts) (texts_told texts)

told_condition : List ℕ → Condition
told_condition text =
    cond (bytes_eq text (codes "InCycle")) InCycle (cond (bytes_eq text (codes "ParentMissing")) ParentMissing
    (cond (bytes_eq text (codes "IllegalParent")) IllegalParent (cond (bytes_eq text (codes "AncestorHaltActivities")) Ancestor AnchorMissing)))

condition_told : (c : Condition) → told_condition (reason_text c) ≡ c
unfolding told_condition
condition_told InCycle = refl
condition_told ParentMissing = refl
condition_told IllegalParent = refl
condition_told Ancestor = refl
condition_told AnchorMissing = refl

told_conditions : Items → List Condition
told_conditions no_items = []
told_conditions (item d ds) = told_condition (text_or [] (get (codes "reason") d)) ∷ told_conditions ds

conditions_told : (conditions : List Condition) → told_conditions (conditions_items conditions) ≡ conditions
unfolding told_conditions
conditions_told [] = refl
conditions_told (c ∷ cs) = λ i. condition_told c i ∷ conditions_told cs i

told_anchor : List ℕ → AnchorStatus
told_anchor text =
    cond (bytes_eq text (codes "Missing")) Missing (cond (bytes_eq text (codes "Ok")) Ok (cond (bytes_eq text (codes "Conflict")) Conflict Forbidden))

anchor_told : (status : AnchorStatus) → told_anchor (anchor_text status) ≡ status
unfolding told_anchor
anchor_told Missing = refl
anchor_told Ok = refl
anchor_told Conflict = refl
anchor_told Forbidden = refl

-- ---- the hierarchy

parent_told : (parent : Option (List ℕ)) (cascade : Bool) → text_in (get_member (codes "parent") (hierarchy_spec parent cascade)) ≡ parent
parent_told None false = refl
parent_told None true = refl
parent_told (Some parent) false = refl
parent_told (Some parent) true = refl

cascade_told : (parent : Option (List ℕ)) (cascade : Bool) → truth_in (get_member (codes "allowCascadingDeletion") (hierarchy_spec parent cascade)) ≡ cascade
cascade_told None false = refl
cascade_told None true = refl
cascade_told (Some parent) false = refl
cascade_told (Some parent) true = refl

children_there : (children conditions : Items) → items_in (get_member (codes "children") (status_of children conditions)) ≡ children
children_there no_items no_items = refl
children_there no_items (item d ds) = refl
children_there (item c cs) no_items = refl
children_there (item c cs) (item d ds) = refl

conditions_there : (children conditions : Items) → items_in (get_member (codes "conditions") (status_of children conditions)) ≡ conditions
conditions_there no_items no_items = refl
conditions_there no_items (item d ds) = refl
conditions_there (item c cs) no_items = refl
conditions_there (item c cs) (item d ds) = refl

status_there : (spec status : Members) → members_in (get_member (codes "status") (member (codes "spec") (object spec) (unless_empty (codes "status") status no_members))) ≡ status
status_there spec no_members = refl
status_there spec (member k d status) = refl

-- what the spec and the status of a hierarchy tell
told_hierarchy : Members → Members → Payload
told_hierarchy spec status =
    Hierarchy (text_in (get_member (codes "parent") spec)) (truth_in (get_member (codes "allowCascadingDeletion") spec))
    (told_texts (items_in (get_member (codes "children") status))) (told_conditions (items_in (get_member (codes "conditions") status)))

hierarchy_told : (parent : Option (List ℕ)) (cascade : Bool) (children : List (List ℕ)) (conditions : List Condition)
    → told_hierarchy (hierarchy_spec parent cascade) (hierarchy_status children conditions) ≡ Hierarchy parent cascade children conditions
unfolding told_hierarchy
hierarchy_told parent cascade children conditions =
    let child = ap told_texts (children_there (texts_items children) (conditions_items conditions)) ∙ texts_told children in
    let condition = ap told_conditions (conditions_there (texts_items children) (conditions_items conditions)) ∙ conditions_told conditions in
    λ i. Hierarchy (parent_told parent cascade i) (cascade_told parent cascade i) (child i) (condition i)

-- ---- the payload

-- the member of the status that is a text
status_text : List ℕ → Members → Option (List ℕ)
status_text name ms = text_in (get_member name (members_in (get_member (codes "status") ms)))

-- what the spec and the status of a quota tell
told_quota : Members → Members → Payload
told_quota spec status = Quota (limits_of (members_in (get_member (codes "hard") spec))) (usages_of (get_member (codes "used") status) (members_in (get_member (codes "hard") status)))

-- what the members tell, by the kind and its number
pub told_payload : ℕ → Kind → Members → Payload
told_payload n kind ms =
    cond (n == 1) (Namespace (told_phase (text_or [] (get_member (codes "phase") (members_in (get_member (codes "status") ms))))))
    (cond (n == 2) (Config (told_entries (items_in (get_member (codes "resources") (members_in (get_member (codes "spec") ms))))))
    (cond (n == 3) (told_hierarchy (members_in (get_member (codes "spec") ms)) (members_in (get_member (codes "status") ms)))
    (cond (n == 4) (Anchor (option_map told_anchor (status_text (codes "status") ms)))
    (cond (n == 5) (told_quota (members_in (get_member (codes "spec") ms)) (members_in (get_member (codes "status") ms))) (plain_of kind ms)))))

differs : (n k : ℕ) → k < n → (n == k) ≡ false
differs n k more = by (n == k) refl
  where
    by : (v : Bool) → (n == k) ≡ v → v ≡ false
    by true e = absurd (omega (arith, eqb-true n k e))
    by false e = refl

plain_told : (n : ℕ) (kind : Kind) (ms : Members) → 6 ≤ n → told_payload n kind ms ≡ plain_of kind ms
unfolding told_payload
plain_told n kind ms h = rw (differs n 1 (omega arith), differs n 2 (omega arith), differs n 3 (omega arith), differs n 4 (omega arith), differs n 5 (omega arith))

pub payload_told : (kind : Kind) (payload : Payload) → IsPayloadOf kind payload → told_payload (number_of kind) kind (own_members payload) ≡ payload
unfolding told_payload status_text told_quota
payload_told kind (Namespace terminating) h = ap (λ n. told_payload n kind (own_members (Namespace terminating))) (ap number_of h) ∙ ap Namespace (phase_told terminating)
payload_told kind (Config entries) h = ap (λ n. told_payload n kind (own_members (Config entries))) (ap number_of h) ∙ ap Config (entries_told entries)
payload_told kind (Hierarchy parent cascade children conditions) h =
    ap (λ n. told_payload n kind (own_members (Hierarchy parent cascade children conditions))) (ap number_of h.0)
    ∙ ap (told_hierarchy (hierarchy_spec parent cascade)) (status_there (hierarchy_spec parent cascade) (hierarchy_status children conditions))
    ∙ hierarchy_told parent cascade children conditions
payload_told kind (Anchor None) h = ap (λ n. told_payload n kind no_members) (ap number_of h)
payload_told kind (Anchor (Some status)) h = ap (λ n. told_payload n kind (own_members (Anchor (Some status)))) (ap number_of h) ∙ ap (λ s. Anchor (Some s)) (anchor_told status)
payload_told kind (Quota hard status) h =
    let spec = member (codes "hard") (object (limits_members hard)) no_members in
    ap (λ n. told_payload n kind (own_members (Quota hard status))) (ap number_of h.0)
    ∙ ap (told_quota spec) (status_there spec (quota_status status))
    ∙ (λ i. Quota (limits_back hard h.2 i) (usages_told status h.3 h.4 i))
payload_told kind (Plain members need) h =
    plain_told (number_of kind) kind (members_in (read members)) (plain_number kind h.0)
    ∙ ap (plain_of kind) (plain_whole kind members need h.1)
    ∙ (λ i. Plain (sym h.1.text i) (sym h.1.says i))
