-- Plans, computed. Each expected value is written out.
--     acme over team over app: Roles r of acme and of team, the second of other contents
--     acme holds an anchor of team
use Rattle.std.specs.Prelude.{codes}
use Rattle.std.proofs.Common.{◌≡◌, ℕ, Bool, true, false, List, [], ◌∷◌, ◌++◌, Option, None, Some, refl}
use Rattle.std.specs.Fmt.{digits}
use Rattle.hx_object.specs.Names.{is_dns_label, is_key, is_qualified_part}
use Rattle.hx_object.specs.Sizes.{is_tree_key}
use Rattle.hx_object.specs.declared.kind.Kind.TheVariants.{Role}
use Rattle.hx_object.specs.declared.object.AnchorStatus.{AnchorStatus}
use Rattle.hx_object.specs.declared.object.AnchorStatus.TheVariants.{Missing, Ok as Fine, Conflict, Forbidden}
use Rattle.hx_object.specs.declared.object.Condition.{Condition}
use Rattle.hx_object.specs.declared.object.Condition.TheVariants as told
use Rattle.hx_object.specs.declared.object.Limit.{Limit}
use Rattle.hx_object.specs.declared.object.Mode.{Mode}
use Rattle.hx_object.specs.declared.object.Mode.TheVariants.{Propagate, Remove, Ignore}
use Rattle.hx_object.specs.declared.object.Need.{Need}
use Rattle.hx_object.specs.declared.object.Object.{Object}
use Rattle.hx_object.specs.declared.object.Payload.TheVariants.{Anchor, Hierarchy, Namespace as NamespaceOf, Plain, Quota}
use Rattle.hx_object.specs.declared.object.Usage.{Usage}
use Rattle.hx_select.specs.Selectors.{selector_of}
use Rattle.hx_select.specs.TreeSelects.{tree_select_of}
use Rattle.hx_model.specs.Answers.{same_object}
use Rattle.hx_model.specs.Limits.{is_copy}
use Rattle.hx_model.specs.Propagation.{id_in}
use Rattle.hx_model.specs.State.{State, namespace_id, with_version}
use Rattle.hx_model.specs.Subnamespaces.{anchor_id}
use Rattle.hx_model.specs.Texts.{new_namespace}
use Rattle.hx_model.specs.Tree.{hierarchy_id}
use Rattle.hx_model.specs.Wanted.{quota_id}
use Rattle.hx_model.specs.Windows.{opened}
use Rattle.hx_model.specs.declared.config.RunConfig.{RunConfig}
use Rattle.hx_model.specs.declared.key.Key.TheVariants as key
use Rattle.hx_model.specs.declared.key.Write.{Write}
use Rattle.hx_model.specs.declared.key.Write.TheVariants.{Put, Cut}
use Rattle.hx_reconcile.specs.Briefs.{facts_of, planned}
use Rattle.hx_reconcile.specs.declared.brief.Facts.TheVariants as facts

abbrev acme : List ℕ
acme = codes "acme"

abbrev team : List ℕ
team = codes "team"

abbrev app : List ℕ
app = codes "app"

abbrev pair : List ℕ → List ℕ → List (List ℕ × List ℕ)
pair key value = (key, value) ∷ []

abbrev no_need : Need
no_need = record { finished = false; token = false; storage = 0; containers = [] }

-- a Role r with these labels, annotations and contents
abbrev role : List ℕ → List (List ℕ × List ℕ) → List (List ℕ × List ℕ) → List ℕ → ℕ → Object
role ns labels annotations text version = record { id = id_in Role (codes "r") ns; labels = labels; annotations = annotations; payload = Plain text no_need; version = version }

abbrev far : List (List ℕ × List ℕ) → Object
far annotations = role acme [] annotations (codes "{}") 6

abbrev near : Object
near = role team [] [] (codes "{\"rules\":[]}") 7

abbrev from : List ℕ → List (List ℕ × List ℕ)
from ns = pair (codes "hnc.x-k8s.io/inherited-from") ns

abbrev copy_of_far : ℕ → Object
copy_of_far version = role app (from acme) [] (codes "{}") version

abbrev copy_of_near : Object
copy_of_near = role app (from team) [] (codes "{\"rules\":[]}") 0

-- app, which has a label of its own
abbrev open_app : Object
open_app = record (new_namespace app) { labels = pair (codes "tier") (codes "web"); version = 3 }

-- what is planned for r in app, which takes part
abbrev in_app : Mode → List Object → Option Object → Option Write
in_app mode sources place = planned (key.Copy app Role (codes "r")) (facts.Copy (Some open_app) true place mode sources)

-- ---- the source that wins

farthest_source : in_app Propagate (far [] ∷ near ∷ []) None ≡ Some (Put (copy_of_far 0))
unfolding is_copy same_object
farthest_source = refl

-- the exception of acme's Role keeps it away
kept_away : in_app Propagate (far (pair (codes "propagate.hnc.x-k8s.io/none") (codes "true")) ∷ near ∷ []) None ≡ Some (Put copy_of_near)
unfolding is_copy same_object
kept_away = refl

not_selected : in_app Propagate (far (pair (codes "propagate.hnc.x-k8s.io/select") (codes "tier=db")) ∷ near ∷ []) None ≡ Some (Put copy_of_near)
unfolding is_copy same_object selector_of is_key is_qualified_part
not_selected = refl

-- the copy doesn't keep the exception, and keeps the other annotation
selected : in_app Propagate (far ((codes "note", codes "x") ∷ (codes "propagate.hnc.x-k8s.io/select", codes "tier=web") ∷ []) ∷ near ∷ []) None
    ≡ Some (Put (record (copy_of_far 0) { annotations = pair (codes "note") (codes "x") }))
unfolding is_copy same_object selector_of is_key is_qualified_part
selected = refl

-- an exception that can't be read lets the source go nowhere
unread : in_app Propagate (far (pair (codes "propagate.hnc.x-k8s.io/select") (codes "tier>1")) ∷ []) None ≡ None
unfolding is_copy same_object selector_of is_key is_qualified_part
unread = refl

-- app isn't under team by its stored labels
not_under : in_app Propagate (far (pair (codes "propagate.hnc.x-k8s.io/treeSelect") (codes "team")) ∷ near ∷ []) None ≡ Some (Put copy_of_near)
unfolding is_copy same_object tree_select_of is_dns_label
not_under = refl

-- ---- what stands in the place

right_copy : in_app Propagate (far [] ∷ near ∷ []) (Some (copy_of_far 9)) ≡ None
unfolding is_copy same_object
right_copy = refl

-- also in place of a source of app's own
own_source : in_app Propagate (far [] ∷ []) (Some (role app [] [] (codes "{\"rules\":[1]}") 9)) ≡ Some (Put (copy_of_far 0))
unfolding is_copy same_object
own_source = refl

copy_without_source : in_app Propagate [] (Some (copy_of_far 9)) ≡ Some (Cut (id_in Role (codes "r") app))
unfolding is_copy same_object
copy_without_source = refl

removed_copy : in_app Remove (far [] ∷ []) (Some (copy_of_far 9)) ≡ Some (Cut (id_in Role (codes "r") app))
unfolding is_copy same_object
removed_copy = refl

removed_source : in_app Remove (far [] ∷ []) (Some (role app [] [] (codes "{}") 9)) ≡ None
unfolding is_copy same_object
removed_source = refl

ignored_copy : in_app Ignore (far [] ∷ []) (Some (copy_of_far 9)) ≡ None
unfolding is_copy same_object
ignored_copy = refl

-- ---- namespaces that take no part

abbrev config : List (List ℕ) → RunConfig
config excluded = record { excluded = excluded; allow_skip = false }

abbrev under : List ℕ → List ℕ → ℕ → Object
under ns parent version = record { id = hierarchy_id ns; labels = []; annotations = []; payload = Hierarchy (Some parent) false [] []; version = version }

-- team under acme, and a copy in team
abbrev tree : List (List ℕ) → State
tree excluded = record {
  objects = with_version (new_namespace acme) 1 ∷ with_version (new_namespace team) 2 ∷ under team acme 3 ∷ role acme [] [] (codes "{}") 4 ∷ role team (from app) [] (codes "{}") 5 ∷ [];
  last = 5;
  config = config excluded;
  window = opened 0;
}

-- the same without acme
abbrev orphan : State
orphan = record (tree []) { objects = with_version (new_namespace team) 2 ∷ under team acme 3 ∷ role team (from app) [] (codes "{}") 5 ∷ [] }

-- what is planned for r in team
abbrev plan_in : State → Option Write
plan_in s = planned (key.Copy team Role (codes "r")) (facts_of s (key.Copy team Role (codes "r")))

included : plan_in (tree []) ≡ Some (Put (role team (from acme) [] (codes "{}") 0))
unfolding is_copy same_object
included = refl

excluded : plan_in (tree (team ∷ [])) ≡ None
unfolding is_copy same_object
excluded = refl

-- the copy stays where the parent is missing
halted : plan_in orphan ≡ None
unfolding is_copy same_object
halted = refl

-- ---- tree labels

-- app was under other
abbrev moved_app : Object
moved_app = record open_app {
  labels =
      (codes "app.tree.hnc.x-k8s.io/depth", codes "0")
      ∷ (codes "other.tree.hnc.x-k8s.io/depth", codes "1")
      ∷ (codes "tier", codes "web") ∷ [];
}

abbrev mended : List (List ℕ × List ℕ)
mended =
    (codes "acme.tree.hnc.x-k8s.io/depth", codes "2")
    ∷ (codes "app.tree.hnc.x-k8s.io/depth", codes "0")
    ∷ (codes "hnc.x-k8s.io/included-namespace", codes "true")
    ∷ (codes "team.tree.hnc.x-k8s.io/depth", codes "1")
    ∷ (codes "tier", codes "web") ∷ []

abbrev labels_of : Object → Bool → Option Write
labels_of x takes_part = planned (key.Tree app) (facts.Tree (Some x) takes_part (app ∷ team ∷ acme ∷ []))

mended_labels : labels_of moved_app true ≡ Some (Put (record moved_app { labels = mended; version = 0 }))
unfolding is_tree_key same_object digits
mended_labels = refl

right_labels : labels_of (record moved_app { labels = mended }) true ≡ None
unfolding is_tree_key same_object digits
right_labels = refl

halted_labels : labels_of moved_app false ≡ None
unfolding is_tree_key same_object digits
halted_labels = refl

-- ---- subnamespaces

-- acme with an anchor of team, and these objects of team
abbrev anchors : Option AnchorStatus → List (List ℕ) → List Object → State
anchors status excluded rest = record {
  objects = with_version (new_namespace acme) 1 ∷ rest ++ record { id = anchor_id acme team; labels = []; annotations = pair (codes "note") (codes "x"); payload = Anchor status; version = 4 } ∷ [];
  last = 5;
  config = config excluded;
  window = opened 0;
}

abbrev child_in : State → Option Write
child_in s = planned (key.Child acme team) (facts_of s (key.Child acme team))

abbrev team_of : List ℕ → Object
team_of parent = record { id = namespace_id team; labels = []; annotations = pair (codes "hnc.x-k8s.io/subnamespace-of") parent; payload = NamespaceOf false; version = 0 }

made : child_in (anchors None [] []) ≡ Some (Put (team_of acme))
made = refl

taken : child_in (anchors None [] (with_version (new_namespace team) 2 ∷ [])) ≡ None
taken = refl

excluded_name : child_in (anchors None (team ∷ []) []) ≡ None
excluded_name = refl

excluded_parent : child_in (anchors None (acme ∷ []) []) ≡ None
excluded_parent = refl

-- team asks for nothing in acme
not_anchored : planned (key.Child team acme) (facts_of (tree []) (key.Child team acme)) ≡ None
not_anchored = refl

-- ---- statuses of anchors

abbrev status_in : State → Option Write
status_in s = planned (key.Anchor acme team) (facts_of s (key.Anchor acme team))

abbrev reported : AnchorStatus → Option Write
reported status = Some (Put (record { id = anchor_id acme team; labels = []; annotations = pair (codes "note") (codes "x"); payload = Anchor (Some status); version = 0 }))

missing_child : status_in (anchors None [] []) ≡ reported Missing
unfolding same_object
missing_child = refl

own_child : status_in (anchors (Some Missing) [] (with_version (team_of acme) 2 ∷ [])) ≡ reported Fine
unfolding same_object
own_child = refl

right_status : status_in (anchors (Some Fine) [] (with_version (team_of acme) 2 ∷ [])) ≡ None
unfolding same_object
right_status = refl

-- another namespace names team its own
foreign_child : status_in (anchors (Some Fine) [] (with_version (team_of app) 2 ∷ [])) ≡ reported Conflict
unfolding same_object
foreign_child = refl

-- also where team isn't a subnamespace
no_child : status_in (anchors None [] (with_version (new_namespace team) 2 ∷ [])) ≡ reported Conflict
unfolding same_object
no_child = refl

forbidden_child : status_in (anchors None (team ∷ []) (with_version (team_of acme) 2 ∷ [])) ≡ reported Forbidden
unfolding same_object
forbidden_child = refl

-- ---- removals

-- team, on its way out or not, beside acme, and these objects
abbrev with_team : Bool → List Object → State
with_team terminating rest = record {
  objects = with_version (new_namespace acme) 1 ∷ record (with_version (new_namespace team) 2) { payload = NamespaceOf terminating } ∷ rest;
  last = 9;
  config = config [];
  window = opened 0;
}

abbrev removal_in : State → Option Write
removal_in s = planned (key.Purge team) (facts_of s (key.Purge team))

-- what lies in it goes first, in order
hierarchy_first : removal_in (with_team true (under team acme 3 ∷ far [] ∷ near ∷ [])) ≡ Some (Cut (hierarchy_id team))
hierarchy_first = refl

role_next : removal_in (with_team true (far [] ∷ near ∷ [])) ≡ Some (Cut (id_in Role (codes "r") team))
role_next = refl

-- and then itself, whatever lies in acme
then_itself : removal_in (with_team true (far [] ∷ [])) ≡ Some (Cut (namespace_id team))
then_itself = refl

staying : removal_in (with_team false (far [] ∷ near ∷ [])) ≡ None
staying = refl

-- ---- reports

abbrev report_in : State → List ℕ → Option Write
report_in s n = planned (key.Report n) (facts_of s (key.Report n))

-- a HierarchyConfiguration that tells these
abbrev telling : List ℕ → List (List ℕ) → List Condition → Object
telling n children conditions = record { id = hierarchy_id n; labels = []; annotations = []; payload = Hierarchy None false children conditions; version = 0 }

-- of acme its child is told, and of a subnamespace with its anchor nothing
told_child : report_in (anchors (Some Fine) [] (with_version (team_of acme) 2 ∷ [])) acme ≡ Some (Put (telling acme (team ∷ []) []))
told_child = refl

untold : report_in (anchors (Some Fine) [] (with_version (team_of acme) 2 ∷ [])) team ≡ None
untold = refl

-- of one that is excluded nothing
kept_out : report_in (anchors (Some Fine) (acme ∷ []) (with_version (team_of acme) 2 ∷ [])) acme ≡ None
kept_out = refl

-- a subnamespace of app, which isn't there, or which is there and has no anchor
missing_parent : report_in (anchors (Some Fine) [] (with_version (team_of app) 2 ∷ [])) team ≡ Some (Put (telling team [] (told.ParentMissing ∷ [])))
missing_parent = refl

without_anchor : report_in (anchors (Some Fine) [] (with_version (new_namespace app) 2 ∷ with_version (team_of app) 3 ∷ [])) team ≡ Some (Put (telling team [] (told.AnchorMissing ∷ [])))
without_anchor = refl

-- why it is halted comes first
both_told : report_in (anchors (Some Fine) [] (record (with_version (new_namespace app) 2) { payload = NamespaceOf true } ∷ with_version (team_of app) 3 ∷ [])) team ≡ Some (Put (telling team [] (told.ParentMissing ∷ told.AnchorMissing ∷ [])))
both_told = refl

-- what it gives stays, and where it tells the same nothing is written
abbrev flagged : List (List ℕ) → Object
flagged children = record { id = hierarchy_id acme; labels = []; annotations = pair (codes "note") (codes "x"); payload = Hierarchy None true children []; version = 3 }

given_stays : report_in (anchors (Some Fine) [] (with_version (team_of acme) 2 ∷ flagged [] ∷ [])) acme ≡ Some (Put (record (flagged (team ∷ [])) { version = 0 }))
unfolding same_object
given_stays = refl

right_report : report_in (anchors (Some Fine) [] (with_version (team_of acme) 2 ∷ flagged (team ∷ []) ∷ [])) acme ≡ None
unfolding same_object
right_report = refl

-- ---- usage

abbrev pods : Limit
pods = record { resource = codes "pods"; written = codes "9"; amount = 9000 }

-- a quota in acme of at most nine Pods
abbrev nine : List Usage → Object
nine status = record { id = quota_id acme (codes "q"); labels = pair (codes "tier") (codes "web"); annotations = []; payload = Quota (pods ∷ []) status; version = 7 }

abbrev two_used : List Usage
two_used = record { resource = codes "pods"; hard = 9000; used = 2000 } ∷ []

-- what is planned for it, where so much is used
abbrev used_in_acme : Bool → List ℕ → Option Object → Option Write
used_in_acme live sums quota = planned (key.Used acme (codes "q")) (facts.Used live quota sums)

tells_sum : used_in_acme true (2000 ∷ []) (Some (nine [])) ≡ Some (Put (record (nine two_used) { version = 0 }))
unfolding same_object
tells_sum = refl

-- it tells another sum
other_sum : used_in_acme true (2000 ∷ []) (Some (nine (record { resource = codes "pods"; hard = 9000; used = 1000 } ∷ []))) ≡ Some (Put (record (nine two_used) { version = 0 }))
unfolding same_object
other_sum = refl

right_sum : used_in_acme true (2000 ∷ []) (Some (nine two_used)) ≡ None
unfolding same_object
right_sum = refl

-- acme is on its way out
leaving_quota : used_in_acme false (2000 ∷ []) (Some (nine [])) ≡ None
leaving_quota = refl

no_quota : used_in_acme true [] None ≡ None
no_quota = refl

-- ---- other facts

-- facts that aren't of the key plan nothing
other_facts : planned (key.Tree app) (facts.Used true (Some (nine [])) (2000 ∷ [])) ≡ None
other_facts = refl
