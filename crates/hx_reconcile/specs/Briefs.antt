-- What a brief stands for, and what is planned for it.
--     facts_of s key        what of a state the write of a key depends on
--     StandsFor brief s     the brief is copied out of a state
--     planned_by brief      the write, by the brief alone
--     hand_by worker brief  what a worker holds that was given the brief
--     IsWanted brief write  the write is the wanted one of every valid state that the brief stands for
--     IsStorableFor brief write   what is put there may be stored in every such state
--     IsPlanned brief write what every plan keeps
--     Planned               a brief and its write
use Rattle.std.specs.Prelude.{ℕ, ◌≡◌, ◌<◌, ◌^◌, Bool, false, length, is_some, Option, Some, None}
use Rattle.std.specs.List.{AllByRecursion}
use Rattle.hx_object.specs.declared.object.Object.{Object}
use Rattle.hx_model.specs.Answers.{same_object}
use Rattle.hx_model.specs.Cases.{is_leaving}
use Rattle.hx_model.specs.Forest.{chain_of, children_of, is_in, is_live}
use Rattle.hx_model.specs.Hands.{Hand}
use Rattle.hx_model.specs.Modes.{mode_of}
use Rattle.hx_model.specs.Moves.{is_eligible}
use Rattle.hx_model.specs.Propagation.{id_in, sources_above}
use Rattle.hx_model.specs.Reports.{conditions_of, report_write}
use Rattle.hx_model.specs.Serving.{IsServed}
use Rattle.hx_model.specs.State.{State, object_at, namespace_id, with_version}
use Rattle.hx_model.specs.Subnamespaces.{anchor_id}
use Rattle.hx_model.specs.Tree.{forest_of, hierarchy_id}
use Rattle.hx_model.specs.TreeLabels.{is_open}
use Rattle.hx_model.specs.Valid.{IsValid}
use Rattle.hx_model.specs.Wanted.{anchor_status, anchor_write, child_write, copy_write, guards_of, least_id, purge_write, quota_id, sums_of, tree_write, used_write, wanted_write}
use Rattle.hx_model.specs.declared.key.Key.{Key}
use Rattle.hx_model.specs.declared.key.Key.TheVariants as key
use Rattle.hx_model.specs.declared.key.Write.{Write}
use Rattle.hx_model.specs.declared.key.Write.TheVariants.{Put, Cut}
use Rattle.hx_reconcile.specs.declared.brief.Brief.{Brief}
use Rattle.hx_reconcile.specs.declared.brief.Facts.{Facts}
use Rattle.hx_reconcile.specs.declared.brief.Facts.TheVariants as facts

-- ---- what is copied out of a state

-- what the write of a key looks at: mostly the namespace, whether it takes part, and what lies there
abbrev pub facts_of : State → Key → Facts
facts_of s (key.Copy n kind name) =
    facts.Copy (object_at s.objects (namespace_id n)) (is_open (forest_of s) n) (object_at s.objects (id_in kind name n)) (mode_of s kind) (sources_above s n kind name)
facts_of s (key.Tree n) = facts.Tree (object_at s.objects (namespace_id n)) (is_open (forest_of s) n) (chain_of (forest_of s) n)
facts_of s (key.Report n) = facts.Report (is_eligible (forest_of s) n) (object_at s.objects (hierarchy_id n)) (children_of (forest_of s) n) (conditions_of s n)
facts_of s (key.Child n name) =
    facts.Child (is_open (forest_of s) n) (is_some (object_at s.objects (anchor_id n name))) (is_in name s.config.excluded) (is_some (object_at s.objects (namespace_id name)))
facts_of s (key.Anchor n name) = facts.Anchor (is_live (forest_of s) n) (object_at s.objects (anchor_id n name)) (anchor_status s n name)
facts_of s (key.Used n name) = facts.Used (is_live (forest_of s) n) (object_at s.objects (quota_id n name)) (sums_of s n (object_at s.objects (quota_id n name)))
facts_of s (key.Purge n) = facts.Purge (is_leaving (forest_of s) n) (least_id s n)

-- its version, its guards and its facts are those of the state, for its key
pub record StandsFor (brief : Brief) (s : State) : Type 0 where
  pub seen : brief.seen ≡ s.last
  pub guards : brief.guards ≡ guards_of s brief.key
  pub facts : brief.facts ≡ facts_of s brief.key

-- ---- what is planned

-- an object is there, whatever its version
abbrev pub is_placed : Option Object → Object → Bool
is_placed None x = false
is_placed (Some old) x = same_object (with_version old 0) x

-- the write of a key by facts of its kind
abbrev pub planned : Key → Facts → Option Write
planned (key.Copy n kind name) (facts.Copy ns takes_part place mode sources) = copy_write takes_part ns mode sources n place
planned (key.Tree n) (facts.Tree ns takes_part chain) = tree_write takes_part chain ns
planned (key.Report n) (facts.Report takes hierarchy children conditions) = report_write takes hierarchy children conditions n
planned (key.Child n name) (facts.Child takes_part anchored excluded taken) = child_write takes_part anchored excluded taken n name
planned (key.Anchor n name) (facts.Anchor live anchor status) = anchor_write live status anchor
planned (key.Used n name) (facts.Used live quota sums) = used_write live sums quota
planned (key.Purge n) (facts.Purge leaving least) = purge_write leaving least n
planned _ _ = None

abbrev pub planned_by : Brief → Option Write
planned_by brief = planned brief.key brief.facts

-- what a worker holds that was given a brief
abbrev pub hand_by : ℕ → Brief → Hand
hand_by worker brief = record { worker = worker; key = brief.key; seen = brief.seen; guards = brief.guards; write = planned_by brief }

-- the wanted one of every valid state that the brief stands for
abbrev pub IsWanted : Brief → Option Write → Type 0
IsWanted brief write = (s : State) → IsValid s → StandsFor brief s → write ≡ wanted_write s brief.key

-- an object that is put may be stored, and has no version yet
abbrev pub IsStorable : Option Write → Type 0
IsStorable None = Unit {0}
IsStorable (Some (Cut id)) = Unit {0}
IsStorable (Some (Put x)) = IsServed x × (x.version ≡ 0)

-- so it is for every valid state that the brief stands for
abbrev pub IsStorableFor : Brief → Option Write → Type 0
IsStorableFor brief write = (s : State) → IsValid s → StandsFor brief s → IsStorable write

-- where a namespace is written, its chain is no longer than a machine counts, and where a quota is, so are its sums
abbrev pub IsShort : Facts → Option Write → Type 0
IsShort (facts.Tree ns takes_part chain) (Some write) = length chain < 2 ^ 64
IsShort (facts.Used live quota sums) (Some write) = AllByRecursion (λ sum. sum < 2 ^ 128) sums
IsShort _ _ = Unit {0}

-- the write is the planned one
pub record IsPlanned (brief : Brief) (write : Option Write) : Type 0 where
  pub planned : write ≡ planned_by brief
  pub short : IsShort brief.facts write

pub record Planned : Type 0 where
  pub brief : Brief
  pub write : Option Write
