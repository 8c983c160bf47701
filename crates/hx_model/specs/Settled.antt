-- When a state is settled: no namespace is on its way out, each that takes part holds exactly the copies and the tree labels that its place prescribes, each anchor has its subnamespace and its status, each namespace that isn't excluded tells its children and its conditions, and each quota tells what is used of its limits.
--     HasTreeLabels s n x  a namespace has the labels that its chain prescribes
--     IsKeptIn             what lies in a place of copies, by the mode of the kind: the copy of the source that wins, or else no copy
--     HasChild, HasStatus  an anchor in a namespace that takes part has its subnamespace;  each anchor has its status
--     TellsExactly         a HierarchyConfiguration tells children and conditions, or isn't there where there is nothing to tell
--     HasUsages            a quota tells of each of its limits what is used in the subtree of its namespace
--     IsSettled s          so it is in each namespace
-- Objects are compared without their versions. What is ignored is left alone.
use Rattle.std.specs.Prelude.{◌≡◌, ℕ, Bool, true, false, List, [], Option, Some, None, IfSome, is_some, map}
use Rattle.hx_object.specs.Kinds.{can_be_copied}
use Rattle.hx_object.specs.declared.kind.Kind.{Kind}
use Rattle.hx_object.specs.declared.object.Condition.{Condition}
use Rattle.hx_object.specs.declared.object.Limit.{Limit}
use Rattle.hx_object.specs.declared.object.Mode.{Mode}
use Rattle.hx_object.specs.declared.object.Mode.TheVariants.{Propagate, AllowPropagate, Remove, Ignore}
use Rattle.hx_object.specs.declared.object.Object.{Object}
use Rattle.hx_object.specs.declared.object.Payload.TheVariants.{Anchor, Hierarchy, Quota}
use Rattle.hx_model.specs.Forest.{chain_of, children_of, is_excluded, is_in}
use Rattle.hx_model.specs.Limits.{is_copy}
use Rattle.hx_model.specs.Modes.{mode_of}
use Rattle.hx_model.specs.Propagation.{copy_of, id_in, top_source}
use Rattle.hx_model.specs.Reports.{conditions_of}
use Rattle.hx_model.specs.State.{State, object_at, namespace_id, with_version}
use Rattle.hx_model.specs.Subnamespaces.{anchor_id}
use Rattle.hx_model.specs.Tree.{forest_of, hierarchy_id, is_terminating}
use Rattle.hx_model.specs.TreeLabels.{is_open, prescribed_labels}
use Rattle.hx_model.specs.Wanted.{anchor_status, quota_id, usages, used_of}

-- ---- places of copies

-- a copy doesn't lie there
abbrev pub HasNoCopy : Option Object → Type 0
HasNoCopy place = IfSome place (λ x. is_copy x ≡ false)

-- the copy of the source that wins lies there or, where none does, no copy
abbrev pub HasCopyOf : Option Object → List ℕ → Option Object → Type 0
HasCopyOf (Some top) n place = (x : Object) × (place ≡ Some x) × (with_version x 0 ≡ copy_of top n)
HasCopyOf None n place = HasNoCopy place

-- by the mode of the kind
abbrev pub IsKeptIn : Mode → Option Object → List ℕ → Option Object → Type 0
IsKeptIn Propagate top n place = HasCopyOf top n place
IsKeptIn AllowPropagate top n place = HasCopyOf top n place
IsKeptIn Remove top n place = HasNoCopy place
IsKeptIn Ignore top n place = Unit {0}

-- ---- namespaces

-- the namespace has the labels that its chain prescribes
abbrev pub HasTreeLabels : State → List ℕ → Object → Type 0
HasTreeLabels s n x = x.labels ≡ prescribed_labels (chain_of (forest_of s) n) x.labels

-- each of its places holds what its labels and the sources above prescribe
abbrev pub HasCopies : State → List ℕ → Object → Type 0
HasCopies s n x = (kind : Kind) (name : List ℕ) → can_be_copied kind ≡ true → IsKeptIn (mode_of s kind) (top_source s n kind name x.labels) n (object_at s.objects (id_in kind name n))

pub record IsSettledIn (s : State) (n : List ℕ) (x : Object) : Type 0 where
  pub labels : HasTreeLabels s n x
  pub copies : HasCopies s n x

-- ---- anchors

-- where its namespace takes part and its name isn't excluded, a namespace of its name is there
abbrev pub HasChild : State → List ℕ → List ℕ → Type 0
HasChild s n m = is_open (forest_of s) n ≡ true → is_in m s.config.excluded ≡ false → is_some (object_at s.objects (namespace_id m)) ≡ true

-- its status is the one that its name has
abbrev pub HasStatus : State → List ℕ → List ℕ → Object → Type 0
HasStatus s n m x = x.payload ≡ Anchor (Some (anchor_status s n m))

-- ---- reports

-- it tells them, and nothing else; it isn't there only where there are none
abbrev pub TellsExactly : Option Object → List (List ℕ) → List Condition → Type 0
TellsExactly (Some x) children conditions = (parent : Option (List ℕ)) × (cascade : Bool) × (x.payload ≡ Hierarchy parent cascade children conditions)
TellsExactly None children conditions = (children ≡ []) × (conditions ≡ [])

-- the HierarchyConfiguration of a namespace that isn't excluded tells its children and its conditions
abbrev pub HasReport : State → List ℕ → Type 0
HasReport s n = is_excluded (forest_of s) n ≡ false → TellsExactly (object_at s.objects (hierarchy_id n)) (children_of (forest_of s) n) (conditions_of s n)

-- ---- usage

-- it tells of each limit what is used in the subtree of n, and nothing else
abbrev pub HasUsages : State → List ℕ → Object → Type 0
HasUsages s n x = (hard : List Limit) × (x.payload ≡ Quota hard (usages hard (map (used_of s n) hard)))

-- no namespace is on its way out, and it is so in each that takes part, for each anchor, for what is told of each namespace, and for each quota
pub record IsSettled (s : State) : Type 0 where
  pub none_leaving : (n : List ℕ) (x : Object) → object_at s.objects (namespace_id n) ≡ Some x → is_terminating x.payload ≡ false
  pub places : (n : List ℕ) (x : Object) → object_at s.objects (namespace_id n) ≡ Some x → is_open (forest_of s) n ≡ true → IsSettledIn s n x
  pub children : (n m : List ℕ) (x : Object) → object_at s.objects (anchor_id n m) ≡ Some x → HasChild s n m
  pub statuses : (n m : List ℕ) (x : Object) → object_at s.objects (anchor_id n m) ≡ Some x → HasStatus s n m x
  pub reports : (n : List ℕ) (x : Object) → object_at s.objects (namespace_id n) ≡ Some x → HasReport s n
  pub usages : (n m : List ℕ) (x : Object) → object_at s.objects (quota_id n m) ≡ Some x → HasUsages s n x
