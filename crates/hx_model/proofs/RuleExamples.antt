-- Rules of admission on modes, copies and exceptions, computed. Each expected value is written out.
--     acme, kube      two namespaces, of which kube is excluded
use Rattle.std.specs.Prelude.{codes}
use Rattle.std.proofs.Common.{◌≡◌, ℕ, true, false, List, [], ◌∷◌, Option, None, Some, refl}
use Rattle.hx_object.specs.declared.kind.Kind.{Kind}
use Rattle.hx_object.specs.declared.kind.Kind.TheVariants.{Role, ConfigMap, Service}
use Rattle.hx_object.specs.declared.object.Mode.TheVariants.{Propagate, Remove}
use Rattle.hx_object.specs.declared.object.ModeEntry.{ModeEntry}
use Rattle.hx_object.specs.declared.object.Object.{Object}
use Rattle.hx_object.specs.declared.object.Payload.TheVariants.{Config, Hierarchy, Plain}
use Rattle.serde_json.proofs.OnLiterals.{serde_json_on_literals}
use Rattle.hx_object.specs.Sizes.{size_of, config_size, is_tree_key, is_reconciled_key, is_counted}
use Rattle.hx_model.specs.declared.ask.Ask.TheVariants.{Create, Replace, Delete}
use Rattle.hx_model.specs.declared.ask.Answer.TheVariants.{Deleted, Refused}
use Rattle.hx_model.specs.declared.refusal.Refusal.{Refusal}
use Rattle.hx_model.specs.declared.refusal.Refusal.TheVariants.{Broken}
use Rattle.hx_model.specs.declared.rule.Rule.TheVariants.{X1, H7, C1, O1, C2, C3, C4, C6, O3}
use Rattle.hx_object.specs.Names.{is_dns_label, is_key, is_qualified_part}
use Rattle.hx_select.specs.Selectors.{selector_of}
use Rattle.hx_select.specs.TreeSelects.{tree_select_of}
use Rattle.hx_model.specs.Answers.{same_object, answer_to, refusal_of}
use Rattle.hx_model.specs.Limits.{is_copy, counts}
use Rattle.hx_model.specs.Modes.{config_id}
use Rattle.hx_model.specs.Windows.{opened}
use Rattle.hx_model.proofs.Quiet.{quietly}
use Rattle.hx_model.specs.State.{State, Objects, ascends, with_version}
use Rattle.hx_model.specs.Texts.{new_namespace}
use Rattle.hx_model.specs.Tree.{hierarchy_id}

abbrev acme : List ℕ
acme = codes "acme"

abbrev kube : List ℕ
kube = codes "kube-system"

abbrev stored : List ℕ → ℕ → Object
stored name version = with_version (new_namespace name) version

-- labels and annotations
abbrev Pairs : Type 0
Pairs = List (List ℕ × List ℕ)

-- the label of a copy
abbrev copied : Pairs
copied = (codes "hnc.x-k8s.io/inherited-from", acme) ∷ []

abbrev plain : Kind → List ℕ → Pairs → Pairs → ℕ → Object
plain kind ns labels annotations version = record { id = record { kind = kind; ns = ns; name = codes "r" }; labels = labels; annotations = annotations; payload = Plain (codes "{}") (record { finished = false; token = false; storage = 0; containers = [] }); version = version }

-- an HNCConfiguration with entries
abbrev configured : List ModeEntry → ℕ → Object
configured entries version = record { id = config_id; labels = []; annotations = []; payload = Config entries; version = version }

abbrev entry : List ℕ → List ℕ → ModeEntry
entry group resource = record { group = group; resource = resource; mode = Propagate }

abbrev rbac : List ℕ
rbac = codes "rbac.authorization.k8s.io"

abbrev secrets : ModeEntry
secrets = entry [] (codes "secrets")

abbrev pods : ModeEntry
pods = entry [] (codes "pods")

abbrev roles : ModeEntry
roles = entry rbac (codes "roles")

abbrev unknown : ModeEntry
unknown = entry [] (codes "roles")

-- kube is excluded, and admission may be skipped
abbrev state : Objects → ℕ → State
state objects last = record { objects = objects; last = last; config = record { excluded = kube ∷ []; allow_skip = true }; window = opened 0 }

abbrev two : State
two = state (stored acme 1 ∷ stored kube 2 ∷ []) 2

pub two_in_order : ascends two.objects ≡ true
two_in_order = refl

-- ---- modes

-- what a POST of an HNCConfiguration with these entries is refused for
abbrev posted : List ModeEntry → Option Refusal
posted entries = refusal_of two (Create (configured entries 0) true)

pub two_resources_pass : refusal_of two (Create (configured (secrets ∷ entry (codes "networking.k8s.io") (codes "networkpolicies") ∷ []) 0) false) ≡ None
unfolding counts is_copy size_of config_size serde_json_on_literals
two_resources_pass = refl

pub another_name : refusal_of two (Create (record (configured (unknown ∷ []) 0) { id = record config_id { name = codes "other" }; labels = copied }) false) ≡ Some (Broken C1)
another_name = refl

-- the group counts: the core group has no roles
pub unknown_resource : posted (pods ∷ pods ∷ roles ∷ unknown ∷ []) ≡ Some (Broken C2)
unknown_resource = refl

pub named_twice : posted (pods ∷ roles ∷ secrets ∷ secrets ∷ []) ≡ Some (Broken C3)
named_twice = refl

pub fixed_mode : posted (pods ∷ roles ∷ []) ≡ Some (Broken C4)
fixed_mode = refl

pub fixed_mode_of_bindings : posted (entry rbac (codes "rolebindings") ∷ []) ≡ Some (Broken C4)
fixed_mode_of_bindings = refl

pub not_propagated : posted (pods ∷ []) ≡ Some (Broken C6)
not_propagated = refl

pub services_are_not_propagated : posted (secrets ∷ entry [] (codes "services") ∷ []) ≡ Some (Broken C6)
services_are_not_propagated = refl

pub claims_are_not_propagated : posted (entry [] (codes "persistentvolumeclaims") ∷ []) ≡ Some (Broken C6)
claims_are_not_propagated = refl

-- a PUT is judged like a POST, and a removal by neither its name nor its entries
abbrev with_config : State
with_config = state (stored acme 1 ∷ stored kube 2 ∷ configured (pods ∷ []) 3 ∷ []) 3

pub with_config_in_order : ascends with_config.objects ≡ true
with_config_in_order = refl

pub put_same_entries : answer_to with_config (Replace (configured (pods ∷ []) 0) None false) ≡ (Refused (Broken C6), with_config)
unfolding is_copy
put_same_entries = refl

pub config_is_removed : quietly (answer_to with_config (Delete config_id false)) ≡ (Deleted 4, state (stored acme 1 ∷ stored kube 2 ∷ []) 4)
unfolding is_copy counts size_of config_size serde_json_on_literals
config_is_removed = refl

-- ---- copies

-- acme and kube have copies of a Role, and acme has one of a kind that is ignored, and a Service with the label of a copy
abbrev copies : State
copies = state (stored acme 1 ∷ stored kube 2 ∷ plain Role acme copied [] 3 ∷ plain Role kube copied [] 4 ∷ plain ConfigMap acme copied [] 5 ∷ plain Service acme copied [] 6 ∷ []) 6

pub copies_in_order : ascends copies.objects ≡ true
copies_in_order = refl

pub post_copy : refusal_of two (Create (plain Role acme copied [] 0) false) ≡ Some (Broken O1)
post_copy = refl

-- the label is nobody's to give, whatever the kind
pub post_labelled_namespace : refusal_of two (Create (record (new_namespace (codes "team")) { labels = copied; annotations = (codes "hnc.x-k8s.io/subnamespace-of", acme) ∷ [] }) false) ≡ Some (Broken O1)
post_labelled_namespace = refl

pub post_labelled_service : refusal_of two (Create (plain Service acme copied [] 0) false) ≡ Some (Broken O1)
post_labelled_service = refl

pub skip_does_not_help : refusal_of two (Create (plain Role acme copied [] 0) true) ≡ Some (Broken O1)
skip_does_not_help = refl

-- skipping has to be allowed first
pub skip_is_first : refusal_of (record two { config = record { excluded = []; allow_skip = false } }) (Create (plain Role acme copied [] 0) true) ≡ Some (Broken X1)
skip_is_first = refl

-- the name of a HierarchyConfiguration comes before its labels, and they before its parent
abbrev under_none : List ℕ → Object
under_none name = record { id = record (hierarchy_id acme) { name = name }; labels = copied; annotations = []; payload = Hierarchy (Some (codes "none")) false [] []; version = 0 }

pub name_before_copies : refusal_of two (Create (under_none (codes "other")) false) ≡ Some (Broken H7)
name_before_copies = refl

pub copies_before_parents : refusal_of two (Create (under_none (codes "hierarchy")) false) ≡ Some (Broken O1)
copies_before_parents = refl

pub copies_before_entries : refusal_of two (Create (record (configured (unknown ∷ []) 0) { labels = copied }) false) ≡ Some (Broken O1)
copies_before_entries = refl

-- a PUT gives the label to a source
abbrev source : State
source = state (stored acme 1 ∷ plain Role acme [] [] 2 ∷ []) 2

pub put_label : refusal_of source (Replace (plain Role acme copied [] 0) None false) ≡ Some (Broken O1)
unfolding is_copy
put_label = refl

-- a copy is neither changed, nor made a source, nor given as it is
pub put_copy : refusal_of copies (Replace (plain Role acme copied ((codes "a", codes "b") ∷ []) 0) None false) ≡ Some (Broken O1)
unfolding is_copy
put_copy = refl

pub put_source : refusal_of copies (Replace (plain Role acme [] [] 0) None false) ≡ Some (Broken O1)
unfolding is_copy
put_source = refl

pub put_same_copy : answer_to copies (Replace (plain Role acme copied [] 0) None false) ≡ (Refused (Broken O1), copies)
unfolding is_copy
put_same_copy = refl

-- a Service with the label is no copy, and keeps or loses it
pub put_labelled_service : refusal_of copies (Replace (plain Service acme copied [] 0) None false) ≡ None
unfolding is_copy same_object counts size_of is_counted is_tree_key is_reconciled_key
put_labelled_service = refl

pub put_unlabelled_service : refusal_of copies (Replace (plain Service acme [] [] 0) None false) ≡ None
unfolding is_copy same_object counts size_of is_counted is_tree_key is_reconciled_key
put_unlabelled_service = refl

-- a copy is removed where reconcilers don't look, or where its kind is ignored
pub copy_stays : refusal_of copies (Delete (plain Role acme [] [] 0).id true) ≡ Some (Broken O1)
unfolding is_copy
copy_stays = refl

pub excluded_copy_goes : refusal_of copies (Delete (plain Role kube [] [] 0).id false) ≡ None
unfolding is_copy counts size_of is_counted is_tree_key is_reconciled_key
excluded_copy_goes = refl

pub ignored_copy_goes : refusal_of copies (Delete (plain ConfigMap acme [] [] 0).id false) ≡ None
unfolding is_copy counts size_of is_counted is_tree_key is_reconciled_key
ignored_copy_goes = refl

pub labelled_service_goes : refusal_of copies (Delete (plain Service acme [] [] 0).id false) ≡ None
unfolding is_copy counts size_of is_counted is_tree_key is_reconciled_key
labelled_service_goes = refl

-- a kind whose copies are to go isn't ignored
abbrev removing : State
removing = state (stored acme 1 ∷ configured (record { group = []; resource = codes "configmaps"; mode = Remove } ∷ []) 2 ∷ plain ConfigMap acme copied [] 3 ∷ []) 3

pub removed_copy_stays : refusal_of removing (Delete (plain ConfigMap acme [] [] 0).id false) ≡ Some (Broken O1)
unfolding is_copy
removed_copy_stays = refl

-- ---- exceptions

abbrev select : List ℕ → List ℕ × List ℕ
select text = (codes "propagate.hnc.x-k8s.io/select", text)

abbrev tree_select : List ℕ → List ℕ × List ℕ
tree_select text = (codes "propagate.hnc.x-k8s.io/treeSelect", text)

abbrev none : List ℕ → List ℕ × List ℕ
none text = (codes "propagate.hnc.x-k8s.io/none", text)

-- what a POST of an object with these annotations is refused for
abbrev excepted : Kind → Pairs → Option Refusal
excepted kind annotations = refusal_of two (Create (plain kind acme [] annotations 0) true)

pub no_truth_value : excepted Role (none (codes "yes") ∷ []) ≡ Some (Broken O3)
no_truth_value = refl

pub two_exceptions : excepted ConfigMap (none (codes "false") ∷ select (codes "a") ∷ []) ≡ Some (Broken O3)
two_exceptions = refl

-- an empty one counts as absent
pub one_exception : excepted ConfigMap (none (codes "true") ∷ select [] ∷ []) ≡ None
unfolding is_copy counts size_of
one_exception = refl

-- a selector of spaces alone holds always, and names of namespaces aren't spaces alone
pub select_of_spaces : excepted ConfigMap (select (codes "  ") ∷ []) ≡ None
unfolding selector_of is_copy counts size_of
select_of_spaces = refl

pub tree_select_of_spaces : excepted ConfigMap (tree_select (codes "  ") ∷ []) ≡ Some (Broken O3)
unfolding tree_select_of
tree_select_of_spaces = refl

pub select_without_end : excepted ConfigMap (select (codes "a,") ∷ []) ≡ Some (Broken O3)
unfolding selector_of is_key is_qualified_part
select_without_end = refl

pub tree_select_of_one : excepted ConfigMap (tree_select (codes "beta") ∷ []) ≡ None
unfolding tree_select_of is_dns_label is_copy counts size_of
tree_select_of_one = refl

-- of two neither is read
pub two_selects : excepted ConfigMap (select (codes "a") ∷ tree_select (codes "beta") ∷ []) ≡ Some (Broken O3)
two_selects = refl

-- exceptions of what can't be copied say nothing
pub excepted_service : excepted Service (none (codes "yes") ∷ []) ≡ None
unfolding is_copy counts size_of
excepted_service = refl

pub put_exception : refusal_of source (Replace (plain Role acme [] (none (codes "yes") ∷ []) 0) None false) ≡ Some (Broken O3)
unfolding is_copy
put_exception = refl

-- the label of a copy comes before exceptions
pub label_before_exceptions : refusal_of two (Create (plain Role acme copied (none (codes "yes") ∷ []) 0) false) ≡ Some (Broken O1)
label_before_exceptions = refl
