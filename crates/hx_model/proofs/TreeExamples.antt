-- Trees and rules of admission, computed. Each expected value is written out.
--     tree        acme over team over app
--     ring        a and b name each other, and c lies under b
--     line        so many namespaces, each under the one before it
use Rattle.std.specs.Prelude.{codes, ◌++◌}
use Rattle.std.proofs.Common.{◌≡◌, ℕ, zero, suc, ◌+◌, ◌-◌, Bool, true, false, List, [], ◌∷◌, Option, None, Some, refl}
use Rattle.std.specs.Fmt.{digits}
use Rattle.serde_json.proofs.OnLiterals.{serde_json_on_literals}
use Rattle.hx_object.specs.declared.kind.Kind.TheVariants.{HierarchyConfiguration}
use Rattle.hx_object.specs.declared.object.Object.{Object}
use Rattle.hx_object.specs.declared.object.Payload.TheVariants.{Hierarchy}
use Rattle.hx_model.specs.declared.ask.Ask.TheVariants.{Create, Replace}
use Rattle.hx_model.specs.declared.ask.Answer.TheVariants.{One, Refused}
use Rattle.hx_model.specs.declared.node.Halt.TheVariants.{InCycle, Ancestor}
use Rattle.hx_model.specs.declared.refusal.Refusal.TheVariants.{Broken}
use Rattle.hx_model.specs.declared.rule.Rule.TheVariants.{X1, H7, N3, H1, H2, H3, H4, H6, H8}
use Rattle.hx_model.specs.Windows.{opened}
use Rattle.hx_model.proofs.Quiet.{quietly}
use Rattle.hx_model.specs.State.{State, Objects, ascends, with_version}
use Rattle.hx_model.specs.Texts.{new_namespace, two_digits}
use Rattle.hx_model.specs.Replies.{status_text}
use Rattle.hx_model.specs.Limits.{is_copy, counts}
use Rattle.hx_model.specs.Forest.{chain_of, depth_of, subtree_of, halt_of}
use Rattle.hx_model.specs.Tree.{hierarchy_id, forest_of}
use Rattle.hx_model.specs.Answers.{same_object, answer_to, refusal_of}
use Rattle.hx_model.specs.declared.config.RunConfig.{RunConfig}

-- nothing is excluded, and nothing skipped
abbrev no_config : RunConfig
no_config = record { excluded = []; allow_skip = false }

abbrev acme : List ℕ
acme = codes "acme"

abbrev team : List ℕ
team = codes "team"

abbrev app : List ℕ
app = codes "app"

abbrev ops : List ℕ
ops = codes "ops"

abbrev gone : List ℕ
gone = codes "gone"

abbrev kube : List ℕ
kube = codes "kube-system"

-- the namespace as it is stored
abbrev stored : List ℕ → ℕ → Object
stored name version = with_version (new_namespace name) version

-- a HierarchyConfiguration that names a parent or none
abbrev named : List ℕ → Option (List ℕ) → Bool → ℕ → Object
named ns parent cascade version = record { id = hierarchy_id ns; labels = []; annotations = []; payload = Hierarchy parent cascade [] []; version = version }

abbrev under : List ℕ → List ℕ → ℕ → Object
under ns parent version = named ns (Some parent) false version

abbrev root : List ℕ → ℕ → Object
root ns version = named ns None false version

-- a namespace with the annotation of a subnamespace
abbrev sub : List ℕ → List ℕ → ℕ → Object
sub name parent version = record (stored name version) { annotations = (codes "hnc.x-k8s.io/subnamespace-of", parent) ∷ [] }

abbrev state : Objects → ℕ → State
state objects last = record { objects = objects; last = last; config = no_config; window = opened 0 }

-- ---- acme over team over app

abbrev tree : State
tree = state (stored acme 1 ∷ stored app 3 ∷ stored team 2 ∷ under app team 5 ∷ under team acme 4 ∷ []) 5

pub tree_in_order : ascends tree.objects ≡ true
tree_in_order = refl

pub chain_of_app : chain_of (forest_of tree) app ≡ app ∷ team ∷ acme ∷ []
chain_of_app = refl

pub depth_of_app : depth_of (forest_of tree) app ≡ 2
depth_of_app = refl

pub depth_of_acme : depth_of (forest_of tree) acme ≡ 0
depth_of_acme = refl

pub subtree_of_acme : subtree_of (forest_of tree) acme ≡ acme ∷ app ∷ team ∷ []
subtree_of_acme = refl

pub app_goes_on : halt_of (forest_of tree) app ≡ None
app_goes_on = refl

-- a parent out of the subtree of the namespace is refused, and the state stays
pub post_under_app : answer_to tree (Create (under acme app 0) false) ≡ (Refused (Broken H2), tree)
post_under_app = refl

pub post_under_itself : answer_to tree (Create (under acme acme 0) false) ≡ (Refused (Broken H2), tree)
post_under_itself = refl

-- so is a parent that isn't there
pub post_under_gone : answer_to tree (Create (under acme gone 0) false) ≡ (Refused (Broken H1), tree)
post_under_gone = refl

-- the same with a HierarchyConfiguration that is there
abbrev rooted : State
rooted = state (stored acme 1 ∷ stored app 3 ∷ stored team 2 ∷ root acme 6 ∷ under app team 5 ∷ under team acme 4 ∷ []) 6

pub rooted_in_order : ascends rooted.objects ≡ true
rooted_in_order = refl

pub put_under_app : answer_to rooted (Replace (under acme app 0) None false) ≡ (Refused (Broken H2), rooted)
unfolding is_copy
put_under_app = refl

pub put_under_itself : answer_to rooted (Replace (under acme acme 0) None false) ≡ (Refused (Broken H2), rooted)
unfolding is_copy
put_under_itself = refl

pub put_under_gone : answer_to rooted (Replace (under acme gone 0) None false) ≡ (Refused (Broken H1), rooted)
unfolding is_copy
put_under_gone = refl

-- ---- a ring

abbrev a : List ℕ
a = codes "a"

abbrev b : List ℕ
b = codes "b"

abbrev c : List ℕ
c = codes "c"

-- b under a, and c under b, where admission may be skipped or not
abbrev open_ring : Bool → State
open_ring allow_skip = record { objects = stored a 1 ∷ stored b 2 ∷ stored c 3 ∷ under b a 4 ∷ under c b 5 ∷ []; last = 5; config = record { excluded = []; allow_skip = allow_skip }; window = opened 0 }

abbrev ring : State
ring = record { objects = stored a 1 ∷ stored b 2 ∷ stored c 3 ∷ under a b 6 ∷ under b a 4 ∷ under c b 5 ∷ []; last = 6; config = record { excluded = []; allow_skip = true }; window = opened 0 }

pub ring_in_order : ascends ring.objects ≡ true
ring_in_order = refl

-- the ring is closed where rules are passed over
pub skips : quietly (answer_to (open_ring true) (Create (under a b 0) true)) ≡ (One (under a b 6) true, ring)
unfolding counts
skips = refl

pub does_not_skip : answer_to (open_ring true) (Create (under a b 0) false) ≡ (Refused (Broken H2), open_ring true)
does_not_skip = refl

pub may_not_skip : answer_to (open_ring false) (Create (under a b 0) true) ≡ (Refused (Broken X1), open_ring false)
may_not_skip = refl

pub a_in_cycle : halt_of (forest_of ring) a ≡ Some InCycle
a_in_cycle = refl

pub b_in_cycle : halt_of (forest_of ring) b ≡ Some InCycle
b_in_cycle = refl

pub c_under_cycle : halt_of (forest_of ring) c ≡ Some Ancestor
c_under_cycle = refl

pub chain_of_c : chain_of (forest_of ring) c ≡ c ∷ b ∷ a ∷ []
chain_of_c = refl

-- c doesn't leave while an ancestor is halted, and a may
pub c_stays : answer_to ring (Replace (root c 0) None false) ≡ (Refused (Broken H4), ring)
unfolding is_copy same_object
c_stays = refl

pub a_leaves : refusal_of ring (Replace (root a 0) None false) ≡ None
unfolding is_copy same_object counts
a_leaves = refl

-- ---- the greatest depth

-- n00, n01 and so on
abbrev numbered : ℕ → List ℕ
numbered k = 110 ∷ two_digits k

-- so many objects, by the numbers from that one
abbrev crowd_from : (ℕ → Object) → ℕ → ℕ → Objects
crowd_from make zero k = []
crowd_from make (suc left) k = make k ∷ crowd_from make left (k + 1)

-- the namespaces n00 to n65, of which as many as given lie under the one before
abbrev line : ℕ → State
line deepest = state (crowd_from (λ k. stored (numbered k) 1) 66 0 ++ crowd_from (λ k. under (numbered k) (numbered (k - 1)) 1) deepest 1) 1

pub line_in_order : ascends (line 64).objects ≡ true
line_in_order = refl

pub greatest_depth_fits : refusal_of (line 63) (Create (under (codes "n64") (codes "n63") 0) false) ≡ None
unfolding counts
greatest_depth_fits = refl

pub too_deep : refusal_of (line 64) (Create (under (codes "n65") (codes "n64") 0) false) ≡ Some (Broken H8)
too_deep = refl

pub depth_of_last : depth_of (forest_of (line 64)) (codes "n64") ≡ 64
depth_of_last = refl

-- ---- names and annotations

pub another_name : answer_to tree (Create (record (root acme 0) { id = record { kind = HierarchyConfiguration; ns = acme; name = codes "other" } }) false) ≡ (Refused (Broken H7), tree)
another_name = refl

pub post_annotated : answer_to tree (Create (sub ops acme 0) false) ≡ (Refused (Broken N3), tree)
post_annotated = refl

-- acme, and its subnamespace team
abbrev nested : State
nested = state (stored acme 1 ∷ stored ops 2 ∷ sub team acme 3 ∷ []) 3

pub nested_in_order : ascends nested.objects ≡ true
nested_in_order = refl

pub put_unannotated : answer_to nested (Replace (new_namespace team) None false) ≡ (Refused (Broken N3), nested)
unfolding is_copy
put_unannotated = refl

-- the annotation names the parent
pub chain_of_team : chain_of (forest_of nested) team ≡ team ∷ acme ∷ []
chain_of_team = refl

pub another_parent : answer_to nested (Create (under team ops 0) false) ≡ (Refused (Broken H3), nested)
another_parent = refl

-- ---- excluded namespaces

abbrev kept_out : State
kept_out = record { objects = stored kube 1 ∷ stored team 2 ∷ []; last = 2; config = record { excluded = kube ∷ []; allow_skip = false }; window = opened 0 }

pub kept_out_in_order : ascends kept_out.objects ≡ true
kept_out_in_order = refl

pub excluded_parent : answer_to kept_out (Create (under team kube 0) false) ≡ (Refused (Broken H6), kept_out)
excluded_parent = refl

pub excluded_namespace : answer_to kept_out (Create (under kube team 0) false) ≡ (Refused (Broken H6), kept_out)
excluded_namespace = refl

-- ---- a parent that is missing

-- team lies under a namespace that isn't there
abbrev lost : State
lost = state (stored team 1 ∷ under team gone 2 ∷ []) 2

-- a PUT that names the same parent brings no new one
pub same_parent : quietly (answer_to lost (Replace (named team (Some gone) true 0) None false)) ≡ (One (named team (Some gone) true 3) false, record lost { objects = stored team 1 ∷ named team (Some gone) true 3 ∷ []; last = 3 })
unfolding is_copy same_object counts
same_parent = refl

-- ---- what is said of a broken rule

pub status_of_H2 : status_text (Broken H2)
    ≡ codes "{\"apiVersion\":\"v1\",\"code\":403,\"details\":{\"rule\":\"H2\"},\"kind\":\"Status\",\"message\":\"the new parent is in the subtree of the namespace\",\"metadata\":{},\"reason\":\"Forbidden\",\"status\":\"Failure\"}"
unfolding status_text digits serde_json_on_literals
status_of_H2 = refl
