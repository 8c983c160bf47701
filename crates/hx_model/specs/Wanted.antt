-- What the keys of reconcilers prescribe: for each at most one write, by the state as it is.
--     wanted_copy, wanted_tree     the write of a place of copies;  of a namespace's tree labels
--     wanted_child, wanted_anchor  of the subnamespace that an anchor asks for;  of an anchor's status
--     wanted_report                of the HierarchyConfiguration that tells of a namespace
--     wanted_used                  of a quota's status
--     wanted_purge                 of a namespace that is on its way out: its objects go one by one, and then the namespace
--     wanted_write s key           the write of a key
--     guards_of s key              the identities that the write rests on, each with its version or absent
-- Objects are compared without their versions, and a write that would change nothing is none. What is put has no version yet.
use Rattle.std.specs.Option.{option_map_or}
use Rattle.std.specs.Prelude.{ℕ, Bool, false, not, ◌&&◌, ◌||◌, is_some, List, [], ◌∷◌, Option, Some, None, map, option_map, if◌then◌else◌}
use Rattle.hx_object.specs.WellKnown.{subnamespace_of}
use Rattle.hx_object.specs.declared.kind.Kind.{Kind}
use Rattle.hx_object.specs.declared.kind.Kind.TheVariants.{HierarchicalResourceQuota}
use Rattle.hx_object.specs.declared.object.AnchorStatus.{AnchorStatus}
use Rattle.hx_object.specs.declared.object.AnchorStatus.TheVariants.{Missing, Ok, Conflict, Forbidden}
use Rattle.hx_object.specs.declared.object.Id.{Id}
use Rattle.hx_object.specs.declared.object.Limit.{Limit}
use Rattle.hx_object.specs.declared.object.Mode.{Mode}
use Rattle.hx_object.specs.declared.object.Mode.TheVariants.{Propagate, AllowPropagate, Remove, Ignore}
use Rattle.hx_object.specs.declared.object.Object.{Object}
use Rattle.hx_object.specs.declared.object.Payload.{Payload}
use Rattle.hx_object.specs.declared.object.Payload.TheVariants.{Namespace as NamespaceOf, Anchor, Quota}
use Rattle.hx_object.specs.declared.object.Usage.{Usage}
use Rattle.hx_model.specs.Answers.{same_object}
use Rattle.hx_model.specs.Charges.{hard_of, resource_named}
use Rattle.hx_model.specs.First.{so}
use Rattle.hx_model.specs.Forest.{chain_of, children_of, is_in, is_live}
use Rattle.hx_model.specs.Limits.{is_copy}
use Rattle.hx_model.specs.Modes.{mode_of}
use Rattle.hx_model.specs.Moves.{is_eligible}
use Rattle.hx_model.specs.Propagation.{copy_of, id_in, sources_above, top_of}
use Rattle.hx_model.specs.Quotas.{used}
use Rattle.hx_model.specs.Reports.{conditions_of, report_write}
use Rattle.hx_model.specs.State.{State, object_at, namespace_id, with_version, least_in}
use Rattle.hx_model.specs.Subnamespaces.{anchor_id, is_owned_by}
use Rattle.hx_model.specs.Cases.{is_leaving}
use Rattle.hx_model.specs.Tree.{forest_of, hierarchy_id}
use Rattle.hx_model.specs.TreeLabels.{is_open, prescribed_labels}
use Rattle.hx_model.specs.declared.key.Guard.{Guard}
use Rattle.hx_model.specs.declared.key.Key.{Key}
use Rattle.hx_model.specs.declared.key.Key.TheVariants as key
use Rattle.hx_model.specs.declared.key.Write.{Write}
use Rattle.hx_model.specs.declared.key.Write.TheVariants.{Put, Cut}

-- ---- what changes

-- an object stands in place of what differs from it
abbrev pub placed : Object → Option Object → Option Write
placed x None = Some (Put x)
placed x (Some old) = so (not (same_object (with_version old 0) x)) (Put x)

-- a copy goes, and a source stays
abbrev pub without_copy : Option Object → Option Write
without_copy (Some x) = so (is_copy x) (Cut x.id)
without_copy None = None

-- ---- copies

-- the copy of the source that wins, or none
abbrev pub copied : Option Object → List ℕ → Option Object → Option Write
copied (Some top) n place = placed (copy_of top n) place
copied None n place = without_copy place

-- by the mode of the kind: what is propagated, what is taken away again, and what is left alone
abbrev pub copied_in : Mode → Option Object → List ℕ → Option Object → Option Write
copied_in Propagate top n place = copied top n place
copied_in AllowPropagate top n place = copied top n place
copied_in Remove top n place = without_copy place
copied_in Ignore top n place = None

-- the write of a place in a namespace, by the namespace's labels as they are stored, and the sources above it, the farthest first
abbrev pub copy_write : Bool → Option Object → Mode → List Object → List ℕ → Option Object → Option Write
copy_write acts None mode sources n place = None
copy_write acts (Some x) mode sources n place = if acts then copied_in mode (top_of mode x.labels sources) n place else None

abbrev pub wanted_copy : State → List ℕ → Kind → List ℕ → Option Write
wanted_copy s n kind name =
    copy_write (is_open (forest_of s) n) (object_at s.objects (namespace_id n)) (mode_of s kind) (sources_above s n kind name) n (object_at s.objects (id_in kind name n))

-- ---- tree labels

-- a namespace with the labels that its chain prescribes
abbrev pub labelled : List (List ℕ) → Object → Object
labelled chain x = record x { labels = prescribed_labels chain x.labels; version = 0 }

abbrev pub tree_write : Bool → List (List ℕ) → Option Object → Option Write
tree_write acts chain None = None
tree_write acts chain (Some x) = if acts then placed (labelled chain x) (Some x) else None

abbrev pub wanted_tree : State → List ℕ → Option Write
wanted_tree s n = tree_write (is_open (forest_of s) n) (chain_of (forest_of s) n) (object_at s.objects (namespace_id n))

-- ---- subnamespaces

-- the subnamespace m of n, as it is made
abbrev pub subnamespace : List ℕ → List ℕ → Object
subnamespace n m = record { id = namespace_id m; labels = []; annotations = (subnamespace_of, n) ∷ []; payload = NamespaceOf false; version = 0 }

-- where n takes part and holds the anchor, its name isn't excluded and no namespace has it
abbrev pub child_write : Bool → Bool → Bool → Bool → List ℕ → List ℕ → Option Write
child_write acts anchored excluded taken n m = so (acts && (anchored && (not excluded && not taken))) (Put (subnamespace n m))

abbrev pub wanted_child : State → List ℕ → List ℕ → Option Write
wanted_child s n m =
    child_write (is_open (forest_of s) n) (is_some (object_at s.objects (anchor_id n m))) (is_in m s.config.excluded) (is_some (object_at s.objects (namespace_id m))) n m

-- the status of an anchor m in n, by the namespace m
abbrev pub status_by : Bool → List ℕ → Option Object → AnchorStatus
status_by excluded n found = if excluded then Forbidden else named_status found
  where
    named_status : Option Object → AnchorStatus
    named_status None = Missing
    named_status (Some x) = if is_owned_by n x then Ok else Conflict

abbrev pub anchor_status : State → List ℕ → List ℕ → AnchorStatus
anchor_status s n m = status_by (is_in n s.config.excluded || is_in m s.config.excluded) n (object_at s.objects (namespace_id m))

-- an anchor with a status
abbrev pub with_status_of : AnchorStatus → Object → Object
with_status_of status x = record x { payload = Anchor (Some status); version = 0 }

-- where its namespace isn't on its way out
abbrev pub anchor_write : Bool → AnchorStatus → Option Object → Option Write
anchor_write live status None = None
anchor_write live status (Some x) = if live then placed (with_status_of status x) (Some x) else None

abbrev pub wanted_anchor : State → List ℕ → List ℕ → Option Write
wanted_anchor s n m = anchor_write (is_live (forest_of s) n) (anchor_status s n m) (object_at s.objects (anchor_id n m))

-- ---- reports

-- where the namespace is there, included and not on its way out
abbrev pub wanted_report : State → List ℕ → Option Write
wanted_report s n = report_write (is_eligible (forest_of s) n) (object_at s.objects (hierarchy_id n)) (children_of (forest_of s) n) (conditions_of s n) n

-- ---- usage

-- a quota in n
abbrev pub quota_id : List ℕ → List ℕ → Id
quota_id n name = id_in HierarchicalResourceQuota name n

-- what is used in the subtree of n of what a limit is of. A name that stands for no resource counts nothing
abbrev pub used_of : State → List ℕ → Limit → ℕ
used_of s n limit = option_map_or (used s n) (resource_named limit.resource) 0

-- what is used of each limit of a quota
abbrev pub sums_of : State → List ℕ → Option Object → List ℕ
sums_of s n None = []
sums_of s n (Some x) = map (used_of s n) (hard_of x.payload)

-- limits beside what is used of each
abbrev pub usages : List Limit → List ℕ → List Usage
usages (limit ∷ hard) (sum ∷ sums) = record { resource = limit.resource; hard = limit.amount; used = sum } ∷ usages hard sums
usages _ _ = []

-- a quota tells them
abbrev pub with_usages : List ℕ → Payload → Payload
with_usages sums (Quota hard status) = Quota hard (usages hard sums)
with_usages sums payload = payload

abbrev pub with_sums : List ℕ → Object → Object
with_sums sums x = record x { payload = with_usages sums x.payload; version = 0 }

-- where its namespace isn't on its way out
abbrev pub used_write : Bool → List ℕ → Option Object → Option Write
used_write live sums None = None
used_write live sums (Some x) = if live then placed (with_sums sums x) (Some x) else None

abbrev pub wanted_used : State → List ℕ → List ℕ → Option Write
wanted_used s n name = used_write (is_live (forest_of s) n) (sums_of s n (object_at s.objects (quota_id n name))) (object_at s.objects (quota_id n name))

-- ---- removals

-- the first object that lies in the namespace or, where none does, the namespace itself
abbrev pub next_to_go : Option Id → List ℕ → Id
next_to_go None n = namespace_id n
next_to_go (Some id) n = id

abbrev pub purge_write : Bool → Option Id → List ℕ → Option Write
purge_write leaves least n = so leaves (Cut (next_to_go least n))

-- the identity of the first object that lies in the namespace
abbrev pub least_id : State → List ℕ → Option Id
least_id s n = option_map (λ (x : Object). x.id) (least_in s.objects n)

abbrev pub wanted_purge : State → List ℕ → Option Write
wanted_purge s n = purge_write (is_leaving (forest_of s) n) (least_id s n) n

-- ---- keys

abbrev pub wanted_write : State → Key → Option Write
wanted_write s (key.Copy n kind name) = wanted_copy s n kind name
wanted_write s (key.Tree n) = wanted_tree s n
wanted_write s (key.Report n) = wanted_report s n
wanted_write s (key.Child n name) = wanted_child s n name
wanted_write s (key.Anchor n name) = wanted_anchor s n name
wanted_write s (key.Used n name) = wanted_used s n name
wanted_write s (key.Purge n) = wanted_purge s n

-- an identity, with the version of its object or none where it isn't there
abbrev pub guard_at : State → Id → Guard
guard_at s id = record { id = id; version = option_map (λ (x : Object). x.version) (object_at s.objects id) }

-- the first object that lies in the namespace, where one does, and the namespace
abbrev pub purge_guards : State → Option Id → List ℕ → List Guard
purge_guards s None n = guard_at s (namespace_id n) ∷ []
purge_guards s (Some id) n = guard_at s id ∷ guard_at s (namespace_id n) ∷ []

abbrev pub guards_of : State → Key → List Guard
guards_of s (key.Copy n kind name) = guard_at s (id_in kind name n) ∷ guard_at s (namespace_id n) ∷ []
guards_of s (key.Tree n) = guard_at s (namespace_id n) ∷ []
guards_of s (key.Report n) = guard_at s (hierarchy_id n) ∷ guard_at s (namespace_id n) ∷ []
guards_of s (key.Child n name) = guard_at s (anchor_id n name) ∷ guard_at s (namespace_id n) ∷ guard_at s (namespace_id name) ∷ []
guards_of s (key.Anchor n name) = guard_at s (anchor_id n name) ∷ guard_at s (namespace_id n) ∷ []
guards_of s (key.Used n name) = guard_at s (quota_id n name) ∷ guard_at s (namespace_id n) ∷ []
guards_of s (key.Purge n) = purge_guards s (least_id s n) n
