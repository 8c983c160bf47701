-- Anchors, deletion and purging, computed. Each expected value is written out.
--     asked          acme asks for team by an anchor, and gets it
--     removed        a namespace goes after what lies in it
--     late           a copy is taken before its namespace goes, and isn't made
--     line, ring     which namespaces go together
--     flagged, family    they go where the flag lets them: with the first of them, or with its anchor
--     chain          so many subnamespaces, each of the one before it
--     wanting, clearing  what an anchor wants, and a namespace on its way out
--     done           a settled state
use Rattle.std.specs.Prelude.{codes}
use Rattle.std.proofs.Common.{◌≡◌, ℕ, zero, suc, ◌+◌, ◌-◌, Bool, true, false, true≢false, sym, List, [], ◌∷◌, ◌++◌, Option, None, Some, refl, ap, ◌∙◌, subst, arith}
use Rattle.std.specs.List.{AllByRecursion}
use Rattle.std.specs.Fmt.{digits}
use Rattle.hx_object.specs.Kinds.{is_quota}
use Rattle.hx_object.specs.Sizes.{is_tree_key, is_reconciled_key, is_counted, size_of}
use Rattle.hx_object.specs.WellKnown.{subnamespace_of}
use Rattle.hx_object.specs.declared.kind.Kind.TheVariants.{Role, RoleBinding, ConfigMap, Secret, NetworkPolicy, LimitRange}
use Rattle.hx_object.specs.declared.object.AnchorStatus.{AnchorStatus}
use Rattle.hx_object.specs.declared.object.AnchorStatus.TheVariants.{Missing, Ok, Forbidden}
use Rattle.hx_object.specs.declared.object.AnchorStatus.TheVariants as stands
use Rattle.hx_object.specs.declared.object.Id.{Id}
use Rattle.hx_object.specs.declared.object.Need.{Need}
use Rattle.hx_object.specs.declared.object.Object.{Object}
use Rattle.hx_object.specs.declared.object.Payload.TheVariants.{Namespace as NamespaceOf, Hierarchy, Anchor, Plain}
use Rattle.hx_model.specs.declared.ask.Ask.TheVariants.{Create, Replace, Delete}
use Rattle.hx_model.specs.declared.ask.Answer.TheVariants.{One, Deleted, Refused as Refusing}
use Rattle.hx_model.specs.declared.config.RunConfig.{RunConfig}
use Rattle.hx_model.specs.declared.key.Finish.TheVariants.{Conflict, Written}
use Rattle.hx_model.specs.declared.key.Key.TheVariants as key
use Rattle.hx_model.specs.declared.key.Write.TheVariants.{Put, Cut}
use Rattle.hx_model.specs.declared.refusal.Refusal.TheVariants.{Broken}
use Rattle.hx_model.specs.declared.rule.Rule.TheVariants.{N1, N2, N4, A1, A2, A3, A4}
use Rattle.hx_model.specs.Answers.{same_object, answer_to, refusal_of, writes_of}
use Rattle.hx_model.specs.Keys.{same_key}
use Rattle.hx_model.specs.Limits.{is_copy, is_anchor, is_namespace, counts}
use Rattle.hx_model.specs.Machine.{History, Request, Took, Finished, opening_world, IsHistory, replay}
use Rattle.hx_model.specs.Propagation.{id_in}
use Rattle.hx_model.specs.Settled.{IsSettled, IsSettledIn, HasCopies, HasChild, HasReport, HasStatus, HasUsages}
use Rattle.hx_model.specs.Windows.{opened}
use Rattle.hx_model.proofs.Quiet.{quiet, quietly}
use Rattle.hx_model.specs.State.{State, Objects, ascends, least_in, namespace_id, opening_state, with_version}
use Rattle.hx_model.specs.Subnamespaces.{anchor_id, is_reached}
use Rattle.hx_model.specs.Texts.{new_namespace, two_digits}
use Rattle.hx_model.specs.Tree.{hierarchy_id, is_terminating}
use Rattle.hx_model.specs.Wanted.{quota_id, wanted_write}
use Rattle.hx_model.proofs.Objects.{found_id}
use Rattle.hx_model.proofs.Storing.{All-found}

-- nothing is excluded, and nothing skipped
abbrev no_config : RunConfig
no_config = record { excluded = []; allow_skip = false }

abbrev acme : List ℕ
acme = codes "acme"

abbrev team : List ℕ
team = codes "team"

abbrev app : List ℕ
app = codes "app"

-- the namespace as it is stored
abbrev stored : List ℕ → ℕ → Object
stored name version = with_version (new_namespace name) version

-- a subnamespace, whose annotation names its parent
abbrev owned : List ℕ → List ℕ → ℕ → Object
owned name parent version = record (stored name version) { annotations = (subnamespace_of, parent) ∷ [] }

-- a namespace on its way out
abbrev leaving : Object → Object
leaving x = record x { payload = NamespaceOf true }

-- the anchor by which a namespace asks for a subnamespace
abbrev anchor : List ℕ → List ℕ → Option AnchorStatus → ℕ → Object
anchor ns name status version = record { id = anchor_id ns name; labels = []; annotations = []; payload = Anchor status; version = version }

-- a HierarchyConfiguration
abbrev hierarchy : List ℕ → Option (List ℕ) → Bool → ℕ → Object
hierarchy ns parent cascade version = record { id = hierarchy_id ns; labels = []; annotations = []; payload = Hierarchy parent cascade [] []; version = version }

abbrev no_need : Need
no_need = record { finished = false; token = false; storage = 0; containers = [] }

abbrev role_in : List ℕ → ℕ → Object
role_in ns version = record { id = id_in Role (codes "r") ns; labels = []; annotations = []; payload = Plain (codes "{}") no_need; version = version }

abbrev state : Objects → ℕ → State
state objects last = record { objects = objects; last = last; config = no_config; window = opened 0 }

-- ---- an anchor

-- a worker makes the subnamespace, and another turn sets the anchor's status. The subnamespace then goes by its anchor alone
abbrev asked : History
asked =
    Request (Create (new_namespace acme) false) (One (stored acme 1) true)
    ∷ Request (Create (anchor acme team None 0) false) (One (anchor acme team None 2) true)
    ∷ Took 1 (key.Child acme team) false
    ∷ Finished 1 (Written 3)
    ∷ Took 1 (key.Anchor acme team) false
    ∷ Finished 1 (Written 4)
    ∷ Request (Delete (namespace_id team) false) (Refusing (Broken N1))
    ∷ []

pub asked_legal : IsHistory (opening_world false (opening_state no_config 0)) asked
unfolding is_copy is_tree_key is_reconciled_key is_counted counts size_of digits same_object same_key
asked_legal = (
  (refl, λ _. refl),
  (
    (refl, λ _. refl),
    ((refl, refl, λ _. refl), ((refl, refl, refl, omega arith), ((refl, refl, λ _. refl), ((refl, refl, refl, omega arith), ((refl, λ _. refl), tt))))),
  ),
)

pub asked_leaves : quiet (replay (opening_world false (opening_state no_config 0)) asked).state ≡ state (stored acme 1 ∷ owned team acme 3 ∷ anchor acme team (Some Ok) 4 ∷ []) 4
unfolding is_copy is_tree_key is_reconciled_key is_counted counts size_of digits same_object same_key
asked_leaves = refl

-- ---- a namespace that is removed

abbrev a : List ℕ
a = codes "a"

abbrev b : List ℕ
b = codes "b"

abbrev c : List ℕ
c = codes "c"

-- a with Role r
abbrev pair : State
pair = state (stored a 1 ∷ role_in a 2 ∷ []) 2

-- nothing comes into it any more, and what lies in it goes first
abbrev removed : History
removed =
    Request (Delete (namespace_id a) false) (Deleted 3)
    ∷ Request (Create (record (role_in a 0) { id = id_in Role (codes "s") a }) false) (Refusing (Broken N4))
    ∷ Request (Replace (record (role_in a 0) { labels = (codes "team", codes "red") ∷ [] }) None false) (Refusing (Broken N4))
    ∷ Took 1 (key.Purge a) false
    ∷ Finished 1 (Written 4)
    ∷ Took 1 (key.Purge a) false
    ∷ Finished 1 (Written 5)
    ∷ []

pub removed_legal : IsHistory (opening_world false pair) removed
unfolding is_copy is_tree_key is_reconciled_key is_counted counts size_of digits same_object same_key
removed_legal = (
  (refl, λ _. refl),
  (
    (refl, λ _. refl),
    (
      (refl, λ _. refl),
      ((refl, refl, λ _. refl), ((refl, refl, refl, omega arith), ((refl, refl, λ _. refl), ((refl, refl, refl, omega arith), tt)))),
    ),
  ),
)

-- the namespace is on its way out, with the version of the removal
pub removed_begins : quiet (answer_to pair (Delete (namespace_id a) false)).1 ≡ state (leaving (stored a 3) ∷ role_in a 2 ∷ []) 3
unfolding is_copy is_tree_key is_reconciled_key is_counted counts size_of
removed_begins = refl

-- nothing is left
pub removed_leaves : quiet (replay (opening_world false pair) removed).state ≡ state [] 5
unfolding is_copy is_tree_key is_reconciled_key is_counted counts size_of digits same_object same_key
removed_leaves = refl

-- one that is on its way out already takes no version
pub removed_again : answer_to (state (leaving (stored a 3) ∷ role_in a 2 ∷ []) 3) (Delete (namespace_id a) false) ≡ (Deleted 3, state (leaving (stored a 3) ∷ role_in a 2 ∷ []) 3)
unfolding is_copy is_tree_key is_reconciled_key is_counted counts size_of
removed_again = refl

-- ---- a copy that is late

-- acme over team, with Role r in acme
abbrev tree : State
tree = state (stored acme 1 ∷ stored team 2 ∷ hierarchy team (Some acme) false 3 ∷ role_in acme 4 ∷ []) 4

-- the first worker plans a copy in team, and the second one clears team away meanwhile
abbrev late : History
late =
    Took 1 (key.Copy team Role (codes "r")) false
    ∷ Request (Delete (namespace_id team) false) (Deleted 5)
    ∷ Took 2 (key.Purge team) false
    ∷ Finished 2 (Written 6)
    ∷ Took 2 (key.Purge team) false
    ∷ Finished 2 (Written 7)
    ∷ Finished 1 (Conflict 4 7)
    ∷ []

pub late_legal : IsHistory (opening_world false tree) late
unfolding is_copy is_tree_key is_reconciled_key is_counted counts size_of digits same_object same_key
late_legal = (
  (refl, refl, λ _. refl),
  (
    (refl, λ _. refl),
    (
      (refl, refl, λ _. refl),
      ((refl, refl, refl, omega arith), ((refl, refl, λ _. refl), ((refl, refl, refl, omega arith), ((refl, refl, refl, refl), tt)))),
    ),
  ),
)

-- no object lies in team
pub late_leaves : quiet (replay (opening_world false tree) late).state ≡ state (stored acme 1 ∷ role_in acme 4 ∷ []) 7
unfolding is_copy is_tree_key is_reconciled_key is_counted counts size_of digits same_object same_key
late_leaves = refl

pub none_in_team : least_in (replay (opening_world false tree) late).state.objects team ≡ None
unfolding is_copy is_tree_key is_reconciled_key is_counted counts size_of digits same_object same_key
none_in_team = refl

-- ---- what goes with a namespace

-- b is a subnamespace of a, and c one of b
abbrev line : State
line = state (stored a 1 ∷ owned b a 2 ∷ owned c b 3 ∷ []) 3

pub line_in_order : ascends line.objects ≡ true
line_in_order = refl

pub reached_from_top : is_reached line a c ≡ true
reached_from_top = refl

pub not_reached_from_below : is_reached line c a ≡ false
not_reached_from_below = refl

-- what names its parent by a HierarchyConfiguration alone stays
pub not_reached_by_hierarchy : is_reached (state (stored a 1 ∷ stored b 2 ∷ hierarchy b (Some a) false 3 ∷ []) 3) a b ≡ false
not_reached_by_hierarchy = refl

pub lower_part_goes : writes_of line (Delete (namespace_id b) false) ≡ Put (leaving (owned b a 4)) ∷ Put (leaving (owned c b 4)) ∷ []
lower_part_goes = refl

-- a and b name each other, and c names b
abbrev ring : State
ring = state (owned a b 1 ∷ owned b a 2 ∷ owned c b 3 ∷ []) 3

pub ring_goes : writes_of ring (Delete (namespace_id a) false) ≡ Put (leaving (owned a b 4)) ∷ Put (leaving (owned b a 4)) ∷ Put (leaving (owned c b 4)) ∷ []
ring_goes = refl

pub ring_keeps_others : writes_of ring (Delete (namespace_id c) false) ≡ Put (leaving (owned c b 4)) ∷ []
ring_keeps_others = refl

-- the flag of the namespace or of one above it lets all of them go, in one commit and with one version
abbrev flagged : State
flagged = state (stored a 1 ∷ owned b a 2 ∷ owned c b 3 ∷ hierarchy a None true 4 ∷ []) 4

pub flagged_in_order : ascends flagged.objects ≡ true
flagged_in_order = refl

pub all_go : quietly (answer_to flagged (Delete (namespace_id a) false)) ≡ (Deleted 5, state (leaving (stored a 5) ∷ leaving (owned b a 5) ∷ leaving (owned c b 5) ∷ hierarchy a None true 4 ∷ []) 5)
unfolding is_copy is_tree_key is_reconciled_key is_counted counts size_of
all_go = refl

pub flag_above : quietly (answer_to flagged (Delete (namespace_id b) false)) ≡ (Deleted 5, state (stored a 1 ∷ leaving (owned b a 5) ∷ leaving (owned c b 5) ∷ hierarchy a None true 4 ∷ []) 5)
unfolding is_copy is_tree_key is_reconciled_key is_counted counts size_of
flag_above = refl

-- what is on its way out already keeps its version
pub some_went_before : quietly (answer_to (state (stored a 1 ∷ leaving (owned b a 2) ∷ owned c b 3 ∷ hierarchy a None true 4 ∷ []) 4) (Delete (namespace_id a) false))
    ≡ (Deleted 5, state (leaving (stored a 5) ∷ leaving (owned b a 2) ∷ leaving (owned c b 5) ∷ hierarchy a None true 4 ∷ []) 5)
unfolding is_copy is_tree_key is_reconciled_key is_counted counts size_of
some_went_before = refl

-- ---- what goes with an anchor

-- acme asks for b, which asks for c, where b has the flag or not
abbrev family : Bool → Bool → State
family cascade allow_skip = record {
  objects = stored acme 1 ∷ owned b acme 2 ∷ owned c b 3 ∷ hierarchy b None cascade 4 ∷ anchor acme b (Some Ok) 5 ∷ anchor b c (Some Ok) 6 ∷ [];
  last = 6;
  config = record { excluded = []; allow_skip = allow_skip };
  window = opened 0;
}

pub family_in_order : ascends (family true false).objects ≡ true
family_in_order = refl

-- the anchor goes at once, and what it asked for is on its way out
pub anchor_goes : quietly (answer_to (family true false) (Delete (anchor_id acme b) false))
    ≡ (Deleted 7, record (family true false) { objects = stored acme 1 ∷ leaving (owned b acme 7) ∷ leaving (owned c b 7) ∷ hierarchy b None true 4 ∷ anchor b c (Some Ok) 6 ∷ []; last = 7 })
unfolding is_copy is_tree_key is_reconciled_key is_counted counts size_of
anchor_goes = refl

-- where rules are passed over, it goes alone, whether the flag is there or not
pub anchor_goes_alone : quietly (answer_to (family false true) (Delete (anchor_id acme b) true))
    ≡ (Deleted 7, record (family false true) { objects = stored acme 1 ∷ owned b acme 2 ∷ owned c b 3 ∷ hierarchy b None false 4 ∷ anchor b c (Some Ok) 6 ∷ []; last = 7 })
unfolding is_copy is_tree_key is_reconciled_key is_counted counts size_of
anchor_goes_alone = refl

pub flag_is_not_asked : writes_of (family true true) (Delete (anchor_id acme b) true) ≡ Cut (anchor_id acme b) ∷ []
flag_is_not_asked = refl

-- an anchor whose name is another's namespace goes alone
pub conflict_goes_alone : quietly (answer_to (state (stored acme 1 ∷ stored team 2 ∷ anchor acme team (Some stands.Conflict) 3 ∷ []) 3) (Delete (anchor_id acme team) false)) ≡ (Deleted 4, state (stored acme 1 ∷ stored team 2 ∷ []) 4)
unfolding is_copy is_tree_key is_reconciled_key is_counted counts size_of
conflict_goes_alone = refl

-- ---- refusals

-- acme has an anchor of team, which is its subnamespace
abbrev anchored : State
anchored = state (stored acme 1 ∷ owned team acme 2 ∷ anchor acme team (Some Ok) 3 ∷ []) 3

pub anchored_stays : answer_to anchored (Delete (namespace_id team) false) ≡ (Refusing (Broken N1), anchored)
unfolding is_copy
anchored_stays = refl

pub without_anchor_goes : refusal_of (state (stored acme 1 ∷ owned team acme 2 ∷ []) 2) (Delete (namespace_id team) false) ≡ None
unfolding is_copy is_tree_key is_reconciled_key is_counted counts size_of
without_anchor_goes = refl

pub followed_stays : answer_to line (Delete (namespace_id a) false) ≡ (Refusing (Broken N2), line)
unfolding is_copy
followed_stays = refl

-- where both are broken, the anchor is named
pub anchor_first : refusal_of (family false false) (Delete (namespace_id b) false) ≡ Some (Broken N1)
unfolding is_copy
anchor_first = refl

-- a namespace on its way out takes in no anchor and no HierarchyConfiguration, and isn't changed itself
abbrev parting : State
parting = state (leaving (stored a 1) ∷ stored b 2 ∷ role_in a 3 ∷ []) 3

pub no_anchor_comes : refusal_of parting (Create (anchor a team None 0) false) ≡ Some (Broken N4)
no_anchor_comes = refl

pub no_hierarchy_comes : refusal_of parting (Create (hierarchy a (Some b) false 0) false) ≡ Some (Broken N4)
no_hierarchy_comes = refl

pub parting_is_not_changed : refusal_of parting (Replace (record (new_namespace a) { labels = (codes "team", codes "red") ∷ [] }) None false) ≡ Some (Broken N4)
unfolding is_copy
parting_is_not_changed = refl

-- what lies in it may be removed
pub parting_gives : quietly (answer_to parting (Delete (role_in a 0).id false)) ≡ (Deleted 4, state (leaving (stored a 1) ∷ stored b 2 ∷ []) 4)
unfolding is_copy is_tree_key is_reconciled_key is_counted counts size_of
parting_gives = refl

-- a namespace of the name is there
pub name_is_taken : refusal_of (state (stored acme 1 ∷ stored team 2 ∷ []) 2) (Create (anchor acme team None 0) false) ≡ Some (Broken A1)
name_is_taken = refl

pub name_belongs_elsewhere : refusal_of (state (stored acme 1 ∷ stored app 2 ∷ owned team app 3 ∷ []) 3) (Create (anchor acme team None 0) false) ≡ Some (Broken A1)
name_belongs_elsewhere = refl

-- where it is the subnamespace, the anchor comes
pub name_is_its_own : refusal_of (state (stored acme 1 ∷ owned team acme 2 ∷ []) 2) (Create (anchor acme team None 0) false) ≡ None
unfolding is_copy is_tree_key is_reconciled_key is_counted counts size_of
name_is_its_own = refl

-- app is excluded
abbrev kept_out : State
kept_out = record { objects = stored acme 1 ∷ stored app 2 ∷ []; last = 2; config = record { excluded = app ∷ []; allow_skip = true }; window = opened 0 }

pub excluded_asks : refusal_of kept_out (Create (anchor app team None 0) false) ≡ Some (Broken A2)
excluded_asks = refl

pub excluded_is_asked_for : refusal_of (record kept_out { objects = stored acme 1 ∷ [] }) (Create (anchor acme app None 0) false) ≡ Some (Broken A2)
excluded_is_asked_for = refl

-- where rules are passed over, the anchor comes, and is told that it is forbidden
pub excluded_passes : refusal_of kept_out (Create (anchor acme app None 0) true) ≡ None
unfolding is_copy is_tree_key is_reconciled_key is_counted counts size_of
excluded_passes = refl

pub kept_child_stays : answer_to (family false false) (Delete (anchor_id acme b) false) ≡ (Refusing (Broken A3), family false false)
unfolding is_copy
kept_child_stays = refl

-- a child by its HierarchyConfiguration counts as well
pub other_child_stays : refusal_of (state (stored a 1 ∷ owned b a 2 ∷ stored c 3 ∷ hierarchy c (Some b) false 4 ∷ anchor a b (Some Ok) 5 ∷ []) 5) (Delete (anchor_id a b) false) ≡ Some (Broken A3)
unfolding is_copy
other_child_stays = refl

-- n00, n01 and so on
abbrev numbered : ℕ → List ℕ
numbered k = 110 ∷ two_digits k

-- so many subnamespaces, each of the one before it, by the numbers from that one
abbrev chain_from : ℕ → ℕ → Objects
chain_from zero k = []
chain_from (suc left) k = owned (numbered k) (numbered (k - 1)) 1 ∷ chain_from left (k + 1)

-- n00, and so many below it
abbrev chain : ℕ → State
chain deepest = state (stored (numbered 0) 1 ∷ chain_from deepest 1) 1

pub chain_in_order : ascends (chain 64).objects ≡ true
chain_in_order = refl

pub greatest_depth_fits : refusal_of (chain 64) (Create (anchor (codes "n63") team None 0) false) ≡ None
unfolding is_copy is_tree_key is_reconciled_key is_counted counts size_of
greatest_depth_fits = refl

pub too_deep : refusal_of (chain 64) (Create (anchor (codes "n64") team None 0) false) ≡ Some (Broken A4)
too_deep = refl

-- ---- what anchors and namespaces on their way out want

-- acme's anchor of team, by what namespace has the name
abbrev wanting : Objects → Option AnchorStatus → State
wanting named status = state (stored acme 1 ∷ named ++ anchor acme team status 3 ∷ []) 3

pub child_is_wanted : wanted_write (wanting [] None) (key.Child acme team) ≡ Some (Put (owned team acme 0))
child_is_wanted = refl

pub status_is_missing : wanted_write (wanting [] None) (key.Anchor acme team) ≡ Some (Put (anchor acme team (Some Missing) 0))
unfolding same_object
status_is_missing = refl

pub status_is_ok : wanted_write (wanting (owned team acme 2 ∷ []) None) (key.Anchor acme team) ≡ Some (Put (anchor acme team (Some Ok) 0))
unfolding same_object
status_is_ok = refl

pub status_is_conflict : wanted_write (wanting (stored team 2 ∷ []) None) (key.Anchor acme team) ≡ Some (Put (anchor acme team (Some stands.Conflict) 0))
unfolding same_object
status_is_conflict = refl

pub no_child_in_conflict : wanted_write (wanting (stored team 2 ∷ []) None) (key.Child acme team) ≡ None
no_child_in_conflict = refl

-- an excluded name is asked for in vain
abbrev forbidden : State
forbidden = record (wanting [] None) { config = record { excluded = team ∷ []; allow_skip = false } }

pub status_is_forbidden : wanted_write forbidden (key.Anchor acme team) ≡ Some (Put (anchor acme team (Some Forbidden) 0))
unfolding same_object
status_is_forbidden = refl

pub no_child_where_forbidden : wanted_write forbidden (key.Child acme team) ≡ None
no_child_where_forbidden = refl

-- a status that stands is left
pub status_stands : wanted_write (wanting (owned team acme 2 ∷ []) (Some Ok)) (key.Anchor acme team) ≡ None
unfolding same_object
status_stands = refl

-- a namespace on its way out makes no subnamespace and reports nothing, and gives what lies in it first
abbrev clearing : Objects → State
clearing inside = state (leaving (stored acme 1) ∷ inside) 3

pub no_child_when_leaving : wanted_write (clearing (anchor acme team None 3 ∷ [])) (key.Child acme team) ≡ None
no_child_when_leaving = refl

pub no_status_when_leaving : wanted_write (clearing (anchor acme team None 3 ∷ [])) (key.Anchor acme team) ≡ None
no_status_when_leaving = refl

pub least_goes_first : wanted_write (clearing (hierarchy acme None false 2 ∷ anchor acme team None 3 ∷ [])) (key.Purge acme) ≡ Some (Cut (hierarchy_id acme))
least_goes_first = refl

pub namespace_goes_last : wanted_write (clearing []) (key.Purge acme) ≡ Some (Cut (namespace_id acme))
namespace_goes_last = refl

pub nothing_goes : wanted_write (wanting [] None) (key.Purge acme) ≡ None
nothing_goes = refl

-- ---- settled states

pub leaving_is_not_settled : IsSettled (clearing []) → ⊥
leaving_is_not_settled settled = true≢false (settled.none_leaving acme (leaving (stored acme 1)) refl)

pub unreported_is_not_settled : IsSettled (wanting (owned team acme 2 ∷ []) None) → ⊥
unfolding digits
unreported_is_not_settled settled = absurd (let e : Anchor None ≡ Anchor (Some Ok) = settled.statuses acme team (anchor acme team None 3) refl in cc)

pub childless_is_not_settled : IsSettled (wanting [] (Some Missing)) → ⊥
childless_is_not_settled settled = true≢false (sym (settled.children acme team (anchor acme team (Some Missing) 3) refl refl refl))

-- acme and its subnamespace have the labels of the tree, and the anchor its status
abbrev included : List ℕ × List ℕ
included = (codes "hnc.x-k8s.io/included-namespace", codes "true")

abbrev far : List ℕ → List ℕ → List ℕ × List ℕ
far name depth = (name ++ codes ".tree.hnc.x-k8s.io/depth", depth)

abbrev acme_row : Object
acme_row = record (stored acme 5) { labels = far acme (codes "0") ∷ included ∷ [] }

abbrev team_row : Object
team_row = record (owned team acme 6) { labels = far acme (codes "1") ∷ included ∷ far team (codes "0") ∷ [] }

abbrev anchor_row : Object
anchor_row = anchor acme team (Some Ok) 4

-- what is told of acme: its child
abbrev report_row : Object
report_row = record (hierarchy acme None false 7) { payload = Hierarchy None false (team ∷ []) [] }

abbrev done : State
done = state (acme_row ∷ team_row ∷ report_row ∷ anchor_row ∷ []) 7

-- three more turns after the anchor's leave that state
abbrev labelling : History
labelling =
    Took 1 (key.Tree acme) false
    ∷ Finished 1 (Written 5)
    ∷ Took 2 (key.Tree team) false
    ∷ Finished 2 (Written 6)
    ∷ Took 1 (key.Report acme) false
    ∷ Finished 1 (Written 7)
    ∷ []

pub labelling_legal : IsHistory (replay (opening_world false (opening_state no_config 0)) asked) labelling
unfolding is_copy is_tree_key is_reconciled_key is_counted counts size_of digits same_object same_key
labelling_legal = ((refl, refl, λ _. refl), ((refl, refl, refl, omega arith), ((refl, refl, λ _. refl), ((refl, refl, refl, omega arith), ((refl, refl, λ _. refl), ((refl, refl, refl, omega arith), tt))))))

pub labelling_leaves : quiet (replay (opening_world false (opening_state no_config 0)) (asked ++ labelling)).state ≡ done
unfolding is_copy is_tree_key is_reconciled_key is_counted counts size_of digits same_object same_key
labelling_leaves = refl

-- nothing is there that is copied
copies_in_acme : HasCopies done acme acme_row
copies_in_acme Role name may = tt
copies_in_acme RoleBinding name may = tt
copies_in_acme ConfigMap name may = tt
copies_in_acme Secret name may = tt
copies_in_acme NetworkPolicy name may = tt
copies_in_acme LimitRange name may = tt
copies_in_acme _ name may = absurd (true≢false (sym may))

copies_in_team : HasCopies done team team_row
copies_in_team Role name may = tt
copies_in_team RoleBinding name may = tt
copies_in_team ConfigMap name may = tt
copies_in_team Secret name may = tt
copies_in_team NetworkPolicy name may = tt
copies_in_team LimitRange name may = tt
copies_in_team _ name may = absurd (true≢false (sym may))

settled_acme : IsSettledIn done acme acme_row
unfolding digits is_tree_key
settled_acme = record { labels = refl; copies = copies_in_acme }

settled_team : IsSettledIn done team team_row
unfolding digits is_tree_key
settled_team = record { labels = refl; copies = copies_in_team }

-- an anchor is no namespace
other_kinds : {A : Type 0} (one other : Id) → is_anchor one.kind ≡ true → is_anchor other.kind ≡ false → one ≡ other → A
other_kinds one other is none same = absurd (true≢false (sym is ∙ ap (λ (id : Id). is_anchor id.kind) same ∙ none))

-- what a row says by its identity
abbrev SaysPlace : Object → Type 0
SaysPlace x = (n : List ℕ) → x.id ≡ namespace_id n → IsSettledIn done n x

abbrev SaysAnchor : Object → Type 0
SaysAnchor x = (n m : List ℕ) → x.id ≡ anchor_id n m → HasChild done n m × HasStatus done n m x

place_of_acme : SaysPlace acme_row
place_of_acme n same = subst (λ (id : Id). IsSettledIn done id.name acme_row) same settled_acme

place_of_team : SaysPlace team_row
place_of_team n same = subst (λ (id : Id). IsSettledIn done id.name team_row) same settled_team

no_place : SaysPlace anchor_row
no_place n same = other_kinds anchor_row.id (namespace_id n) refl refl same

report_no_place : SaysPlace report_row
report_no_place n same = absurd (true≢false (sym (ap (λ (id : Id). is_namespace id.kind) same)))

places_of_done : AllByRecursion SaysPlace done.objects
places_of_done = (place_of_acme, (place_of_team, (report_no_place, (no_place, tt))))

-- the anchor has its subnamespace, and its status
child_of_anchor : HasChild done acme team
child_of_anchor = λ acts allowed. refl

anchor_of_row : SaysAnchor anchor_row
anchor_of_row n m same = subst (λ (id : Id). HasChild done id.ns id.name × HasStatus done id.ns id.name anchor_row) same (child_of_anchor, refl)

anchors_of_done : AllByRecursion SaysAnchor done.objects
anchors_of_done = (
  (λ n m same. other_kinds (anchor_id n m) acme_row.id refl refl (sym same)),
  ((λ n m same. other_kinds (anchor_id n m) team_row.id refl refl (sym same)), ((λ n m same. other_kinds (anchor_id n m) report_row.id refl refl (sym same)), (anchor_of_row, tt))),
)

-- of acme its child is told, and of team there is nothing to tell
abbrev SaysReport : Object → Type 0
SaysReport x = (n : List ℕ) → x.id ≡ namespace_id n → HasReport done n

report_of_acme : SaysReport acme_row
report_of_acme n same = subst (λ (id : Id). HasReport done id.name) same (λ _. (None, false, refl))

report_of_team : SaysReport team_row
report_of_team n same = subst (λ (id : Id). HasReport done id.name) same (λ _. (refl, refl))

reports_of_done : AllByRecursion SaysReport done.objects
reports_of_done = (
  report_of_acme,
  (
    report_of_team,
    ((λ n same. absurd (true≢false (sym (ap (λ (id : Id). is_namespace id.kind) same)))), ((λ n same. other_kinds anchor_row.id (namespace_id n) refl refl same), tt)),
  ),
)

-- there is no quota
abbrev SaysUsages : Object → Type 0
SaysUsages x = (n m : List ℕ) → x.id ≡ quota_id n m → HasUsages done n x

no_usages : (x : Object) → is_quota x.id.kind ≡ false → SaysUsages x
no_usages x other n m same = absurd (true≢false (sym (sym other ∙ ap (λ (id : Id). is_quota id.kind) same)))

usages_of_done : AllByRecursion SaysUsages done.objects
usages_of_done = (no_usages acme_row refl, (no_usages team_row refl, (no_usages report_row refl, (no_usages anchor_row refl, tt))))

pub done_is_settled : IsSettled done
done_is_settled = record {
  none_leaving = λ n x at. All-found (λ (y : Object). is_terminating y.payload ≡ false) (namespace_id n) x done.objects (refl, (refl, (refl, (refl, tt)))) at;
  places = λ n x at acts. All-found SaysPlace (namespace_id n) x done.objects places_of_done at n (sym (found_id done.objects (namespace_id n) x at));
  children = λ n m x at. (All-found SaysAnchor (anchor_id n m) x done.objects anchors_of_done at n m (sym (found_id done.objects (anchor_id n m) x at))).0;
  statuses = λ n m x at. (All-found SaysAnchor (anchor_id n m) x done.objects anchors_of_done at n m (sym (found_id done.objects (anchor_id n m) x at))).1;
  reports = λ n x at. All-found SaysReport (namespace_id n) x done.objects reports_of_done at n (sym (found_id done.objects (namespace_id n) x at));
  usages = λ n m x at. All-found SaysUsages (quota_id n m) x done.objects usages_of_done at n m (sym (found_id done.objects (quota_id n m) x at));
}
