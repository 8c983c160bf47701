-- What is planned for a valid state may be stored in it.
--     storable      an object that is put is served, and has no version
use Rattle.std.proofs.Common.{◌≡◌, ℕ, ◌<◌, ◌^◌, Bool, true, false, cond, not, ◌||◌, List, [], ◌∷◌, ◌++◌, length, find, Option, None, Some, option_and_then, is_some, refl, sym, ap, ◌∙◌, subst, true≢false, bytes_eq}
use Rattle.std.specs.List.{AllByRecursion}
use Rattle.std.specs.Option.{option_map_or}
use Rattle.std.proofs.lemmas.Bool.{and_parts}
use Rattle.hx_object.specs.Faults.{has_legal_names, has_legal_namespace}
use Rattle.hx_object.specs.Kinds.{can_be_copied}
use Rattle.hx_object.specs.Names.{is_dns_label, is_name_of}
use Rattle.hx_object.specs.declared.kind.Kind.{Kind}
use Rattle.hx_object.specs.declared.kind.Kind.TheVariants.{Namespace}
use Rattle.hx_object.specs.declared.object.AnchorStatus.{AnchorStatus}
use Rattle.hx_object.specs.declared.object.Condition.{Condition}
use Rattle.hx_object.specs.declared.object.Id.{Id}
use Rattle.hx_object.specs.declared.object.Mode.{Mode}
use Rattle.hx_object.specs.declared.object.Mode.TheVariants.{Propagate, AllowPropagate, Remove, Ignore}
use Rattle.hx_object.specs.declared.object.Object.{Object}
use Rattle.hx_model.specs.Answers.{same_object}
use Rattle.hx_model.specs.Cases.{is_leaving}
use Rattle.hx_model.specs.First.{so}
use Rattle.hx_model.specs.Forest.{chain_of, children_of, is_excluded, is_in, is_live, node_of, tail_of}
use Rattle.hx_model.specs.Limits.{is_copy}
use Rattle.hx_model.specs.Modes.{mode_of}
use Rattle.hx_model.specs.Propagation.{as_list, copy_of, goes_to, id_in, is_source, source_at, sources_above, sources_along, top_of}
use Rattle.hx_model.specs.Moves.{is_eligible}
use Rattle.hx_model.specs.Reports.{bare_report, conditions_of, is_telling, report_write, with_report}
use Rattle.hx_model.specs.Serving.{IsServed}
use Rattle.hx_model.specs.State.{State, Objects, namespace_id, object_at, with_version}
use Rattle.hx_model.specs.Subnamespaces.{anchor_id}
use Rattle.hx_model.specs.Tree.{forest_of, hierarchy_id}
use Rattle.hx_model.specs.TreeLabels.{is_open}
use Rattle.hx_model.specs.Valid.{IsStored}
use Rattle.hx_model.specs.Wanted.{anchor_status, anchor_write, child_write, copied_in, copy_write, labelled, least_id, placed, purge_write, quota_id, subnamespace, sums_of, tree_write, used_write, with_status_of, with_sums, without_copy}
use Rattle.hx_model.specs.declared.key.Key.{Key}
use Rattle.hx_model.specs.declared.key.Key.TheVariants as key
use Rattle.hx_model.specs.declared.key.Write.{Write}
use Rattle.hx_model.specs.declared.key.Write.TheVariants.{Put, Cut}
use Rattle.hx_model.specs.declared.node.Node.{Node}
use Rattle.hx_model.proofs.Climbing.{same_itself}
use Rattle.hx_model.proofs.Objects.{found_id}
use Rattle.hx_model.proofs.Planting.{there-objects}
use Rattle.hx_model.proofs.Storing.{All-found}
use Rattle.hx_model.proofs.Walking.{chain_there}
use Rattle.hx_reconcile.specs.Briefs.{IsPlanned, IsShort, IsStorable, IsStorableFor, facts_of, planned, planned_by}
use Rattle.hx_reconcile.specs.declared.brief.Brief.{Brief}
use Rattle.hx_reconcile.specs.declared.brief.Facts.{Facts}
use Rattle.hx_reconcile.specs.declared.brief.Facts.TheVariants as facts
use Rattle.hx_reconcile.proofs.Legal.{AreLabels, bare_report_served, copy_served, labelled_served, legal_names, report_served, status_served, subnamespace_served, sums_served}

-- ---- what a write puts

placed_storable : (x : Object) (place : Option Object) → IsServed x → x.version ≡ 0 → IsStorable (placed x place)
placed_storable x None served fresh = (served, fresh)
placed_storable x (Some old) served fresh = elim (same_object (with_version old 0) x) as (λ b. IsStorable (so (not b) (Put x))) [
  | true ↦ tt
  | false ↦ (served, fresh)
]

without_storable : (place : Option Object) → IsStorable (without_copy place)
without_storable None = tt
without_storable (Some x) = elim (is_copy x) as (λ b. IsStorable (so b (Cut x.id))) [ true ↦ tt | false ↦ tt ]

in_mode : (mode : Mode) (top : Option Object) (n : List ℕ) (place : Option Object) → ((x : Object) → top ≡ Some x → IsServed (copy_of x n)) → IsStorable (copied_in mode top n place)
in_mode Propagate (Some x) n place served = placed_storable (copy_of x n) place (served x refl) refl
in_mode Propagate None n place served = without_storable place
in_mode AllowPropagate (Some x) n place served = placed_storable (copy_of x n) place (served x refl) refl
in_mode AllowPropagate None n place served = without_storable place
in_mode Remove top n place served = without_storable place
in_mode Ignore top n place served = tt

-- what is found is one of the list
found_in : (P : Object → Type 0) (test : Object → Bool) (xs : List Object) (x : Object) → AllByRecursion P xs → find test xs ≡ Some x → P x
found_in P test [] x all e = absurd (let h : None ≡ Some x = e in cc)
found_in P test (y ∷ xs) x all e =
    elim (test y) as (λ b. cond b (Some y) (find test xs) ≡ Some x → P x) [
      | true ↦ λ some. subst P (let h : y ≡ x = cc in h) all.0
      | false ↦ λ rest. found_in P test xs x all.1 rest
    ] e

-- a source that may be stored
record IsServedSource (x : Object) : Type 0 where
  served : IsServed x
  copied : can_be_copied x.id.kind ≡ true

copy_storable : (acts : Bool) (ns : Option Object) (mode : Mode) (sources : List Object) (n : List ℕ) (place : Option Object) → ((y : Object) → ns ≡ Some y → is_dns_label n ≡ true) → AllByRecursion IsServedSource sources
    → IsStorable (copy_write acts ns mode sources n place)
copy_storable acts None mode sources n place named all = tt
copy_storable false (Some y) mode sources n place named all = tt
copy_storable true (Some y) mode sources n place named all =
    in_mode mode (top_of mode y.labels sources) n place (λ x e.
    let source = found_in IsServedSource (λ x. goes_to mode x y.labels) sources x all e in
    copy_served x n source.served source.copied (named y refl))

tree_storable : (acts : Bool) (chain : List (List ℕ)) (ns : Option Object) → ((y : Object) → ns ≡ Some y → IsServed y) → AreLabels chain → length chain < 2 ^ 64 → IsStorable (tree_write acts chain ns)
tree_storable acts chain None served names short = tt
tree_storable false chain (Some y) served names short = tt
tree_storable true chain (Some y) served names short = placed_storable (labelled chain y) (Some y) (labelled_served y chain (served y refl) names short) refl

child_storable : (acts anchored excluded taken : Bool) (n m : List ℕ) → (anchored ≡ true → IsServed (subnamespace n m)) → IsStorable (child_write acts anchored excluded taken n m)
child_storable true true false false n m served = (served refl, refl)
child_storable true true false true n m served = tt
child_storable true true true taken n m served = tt
child_storable true false excluded taken n m served = tt
child_storable false anchored excluded taken n m served = tt

anchor_storable : (live : Bool) (status : AnchorStatus) (anchor : Option Object) → ((y : Object) → anchor ≡ Some y → IsServed (with_status_of status y)) → IsStorable (anchor_write live status anchor)
anchor_storable live status None served = tt
anchor_storable false status (Some y) served = tt
anchor_storable true status (Some y) served = placed_storable (with_status_of status y) (Some y) (served y refl) refl

used_storable : (live : Bool) (sums : List ℕ) (quota : Option Object) → ((y : Object) → quota ≡ Some y → IsServed (with_sums sums y)) → IsStorable (used_write live sums quota)
used_storable live sums None served = tt
used_storable false sums (Some y) served = tt
used_storable true sums (Some y) served = placed_storable (with_sums sums y) (Some y) (served y refl) refl

report_storable : (takes : Bool) (found : Option Object) (children : List (List ℕ)) (conditions : List Condition) (n : List ℕ) → ((y : Object) → found ≡ Some y → IsServed (with_report children conditions y)) → (takes ≡ true → IsServed (bare_report n children conditions))
    → IsStorable (report_write takes found children conditions n)
report_storable false None children conditions n served bare = tt
report_storable false (Some y) children conditions n served bare = tt
report_storable true None children conditions n served bare = elim (is_telling children conditions) as (λ b. IsStorable (so b (Put (bare_report n children conditions)))) [ true ↦ (bare refl, refl) | false ↦ tt ]
report_storable true (Some y) children conditions n served bare = placed_storable (with_report children conditions y) (Some y) (served y refl) refl

purge_storable : (leaves : Bool) (least : Option Id) (n : List ℕ) → IsStorable (purge_write leaves least n)
purge_storable true least n = tt
purge_storable false least n = tt

-- ---- what a valid state has

all_served : (last : ℕ) (objects : Objects) → AllByRecursion (IsStored last) objects → AllByRecursion IsServed objects
all_served last [] all = tt
all_served last (x ∷ objects) all = (all.0.served, all_served last objects all.1)

-- a namespace that is there has a legal name
named_there : (objects : Objects) (n : List ℕ) (y : Object) → AllByRecursion IsServed objects → object_at objects (namespace_id n) ≡ Some y → is_dns_label n ≡ true
unfolding has_legal_names
named_there objects n y all e =
    let names : has_legal_names (namespace_id n) ≡ true = ap has_legal_names (found_id objects (namespace_id n) y e) ∙ legal_names y (All-found IsServed (namespace_id n) y objects all e).legal in
    (and_parts (has_legal_namespace (namespace_id n)) (is_name_of Namespace n) names).1

there_is : (o : Option Object) → is_some o ≡ true → (y : Object) × (o ≡ Some y)
there_is (Some y) e = (y, refl)
there_is None e = absurd (true≢false (sym e))

-- so has one that takes reports
eligible_named : (s : State) (n : List ℕ) → AllByRecursion IsServed s.objects → is_eligible (forest_of s) n ≡ true → is_dns_label n ≡ true
eligible_named s n all eligible =
    let live = (and_parts (is_live (forest_of s) n) (not (is_excluded (forest_of s) n)) eligible).0 in
    let found = there_is (object_at s.objects (namespace_id n)) (sym (there-objects s.config.excluded s.objects n all) ∙ live_there (node_of (forest_of s) n) live) in
    named_there s.objects n found.0 all found.1
  where
    live_there : (o : Option Node) → option_map_or (λ (node : Node). not node.terminating) o false ≡ true → is_some o ≡ true
    live_there (Some node) e = refl
    live_there None e = absurd (true≢false (sym e))

-- a subnamespace of an anchor that is there has legal names
child_served : (objects : Objects) (n m : List ℕ) → AllByRecursion IsServed objects → is_some (object_at objects (anchor_id n m)) ≡ true → IsServed (subnamespace n m)
unfolding has_legal_names
child_served objects n m all e =
    let found = there_is (object_at objects (anchor_id n m)) e in
    let y = found.0 in
    let names : has_legal_names (anchor_id n m) ≡ true = ap has_legal_names (found_id objects (anchor_id n m) y found.1) ∙ legal_names y (All-found IsServed (anchor_id n m) y objects all found.1).legal in
    let labels = and_parts (is_dns_label n) (is_dns_label m) names in
    subnamespace_served n m labels.0 labels.1

-- an anchor that is there, with another status
anchor_served : (objects : Objects) (n m : List ℕ) (status : AnchorStatus) (y : Object) → AllByRecursion IsServed objects → object_at objects (anchor_id n m) ≡ Some y → IsServed (with_status_of status y)
anchor_served objects n m status y all e = status_served status y (All-found IsServed (anchor_id n m) y objects all e) (sym (ap (λ (id : Id). id.kind) (found_id objects (anchor_id n m) y e)))

-- a quota that is there, with other usages
quota_served : (objects : Objects) (n m : List ℕ) (sums : List ℕ) (y : Object) → AllByRecursion IsServed objects → AllByRecursion (λ sum. sum < 2 ^ 128) sums → object_at objects (quota_id n m) ≡ Some y → IsServed (with_sums sums y)
quota_served objects n m sums y all fit e = sums_served sums y (All-found IsServed (quota_id n m) y objects all e) fit

all_append : (P : Object → Type 0) (xs ys : List Object) → AllByRecursion P xs → AllByRecursion P ys → AllByRecursion P (xs ++ ys)
all_append P [] ys p q = q
all_append P (x ∷ xs) ys p q = (p.0, all_append P xs ys p.1 q)

source_served : (objects : Objects) (id : Id) → AllByRecursion IsServed objects → AllByRecursion IsServedSource (as_list (source_at objects id))
source_served objects id all =
    elim (object_at objects id) as (λ o. object_at objects id ≡ o → AllByRecursion IsServedSource (as_list (option_and_then (λ x. so (is_source x) x) o))) [
      | None ↦ λ e. tt
      | Some y ↦ λ e. elim (is_source y) as (λ b. is_source y ≡ b → AllByRecursion IsServedSource (as_list (so b y))) [
        | true ↦ λ t. (record { served = All-found IsServed id y objects all e; copied = (and_parts (can_be_copied y.id.kind) (not (is_copy y)) t).0 }, tt)
        | false ↦ λ t. tt
      ] refl
    ] refl

sources_served : (objects : Objects) (kind : Kind) (name : List ℕ) (chain : List (List ℕ)) → AllByRecursion IsServed objects → AllByRecursion IsServedSource (sources_along objects kind name chain)
sources_served objects kind name [] all = tt
sources_served objects kind name (a ∷ chain) all = all_append IsServedSource (sources_along objects kind name chain) (as_list (source_at objects (id_in kind name a))) (sources_served objects kind name chain all) (source_served objects (id_in kind name a) all)

each_in : (P : List ℕ → Type 0) (names : List (List ℕ)) → ((a : List ℕ) → is_in a names ≡ true → P a) → AllByRecursion P names
each_in P [] holds = tt
each_in P (n ∷ names) holds = (holds n (ap (λ b. b || is_in n names) (same_itself n)), each_in P names (λ a e. holds a (later (bytes_eq a n) (is_in a names) e)))
  where
    later : (b c : Bool) → c ≡ true → (b || c) ≡ true
    later true c e = refl
    later false c e = e

-- each member of a chain has a legal name
chain_named : (s : State) (n : List ℕ) → AllByRecursion IsServed s.objects → AreLabels (chain_of (forest_of s) n)
chain_named s n all =
    each_in (λ a. is_dns_label a ≡ true) (chain_of (forest_of s) n) (λ a e.
    let found = there_is (object_at s.objects (namespace_id a)) (sym (there-objects s.config.excluded s.objects a all) ∙ (chain_there (forest_of s) n).there a e) in
    named_there s.objects a found.0 all found.1)

-- ---- what is planned

planned_tree : (s : State) (n : List ℕ) (write : Option Write) → AllByRecursion IsServed s.objects
    → IsShort (facts.Tree (object_at s.objects (namespace_id n)) (is_open (forest_of s) n) (chain_of (forest_of s) n)) write → write ≡ tree_write (is_open (forest_of s) n) (chain_of (forest_of s) n) (object_at s.objects (namespace_id n)) → IsStorable write
planned_tree s n None all short e = tt
planned_tree s n (Some write) all short e =
    subst IsStorable (sym e) (tree_storable (is_open (forest_of s) n) (chain_of (forest_of s) n) (object_at s.objects (namespace_id n)) (λ y there. All-found IsServed (namespace_id n) y s.objects all there) (chain_named s n all) short)

planned_used : (s : State) (n m : List ℕ) (write : Option Write) → AllByRecursion IsServed s.objects
    → IsShort (facts.Used (is_live (forest_of s) n) (object_at s.objects (quota_id n m)) (sums_of s n (object_at s.objects (quota_id n m)))) write
    → write ≡ used_write (is_live (forest_of s) n) (sums_of s n (object_at s.objects (quota_id n m))) (object_at s.objects (quota_id n m)) → IsStorable write
planned_used s n m None all short e = tt
planned_used s n m (Some write) all short e =
    subst IsStorable (sym e) (used_storable (is_live (forest_of s) n) (sums_of s n (object_at s.objects (quota_id n m))) (object_at s.objects (quota_id n m)) (λ y there. quota_served s.objects n m (sums_of s n (object_at s.objects (quota_id n m))) y all short there))

planned_storable : (s : State) (k : Key) (found : Facts) (write : Option Write) → AllByRecursion IsServed s.objects → found ≡ facts_of s k → IsShort found write → write ≡ planned k found → IsStorable write
planned_storable s (key.Copy n kind name) found write all e short is =
    subst IsStorable (sym (is ∙ ap (planned (key.Copy n kind name)) e))
    (copy_storable (is_open (forest_of s) n) (object_at s.objects (namespace_id n)) (mode_of s kind) (sources_above s n kind name) n (object_at s.objects (id_in kind name n)) (λ y there. named_there s.objects n y all there)
    (sources_served s.objects kind name (tail_of (chain_of (forest_of s) n)) all))
planned_storable s (key.Tree n) found write all e short is =
    planned_tree s n write all (subst (λ (f : Facts). IsShort f write) e short) (is ∙ ap (planned (key.Tree n)) e)
planned_storable s (key.Report n) found write all e short is =
    subst IsStorable (sym (is ∙ ap (planned (key.Report n)) e))
    (report_storable (is_eligible (forest_of s) n) (object_at s.objects (hierarchy_id n)) (children_of (forest_of s) n) (conditions_of s n) n
    (λ y there. report_served (children_of (forest_of s) n) (conditions_of s n) y (All-found IsServed (hierarchy_id n) y s.objects all there) (sym (ap (λ (id : Id). id.kind) (found_id s.objects (hierarchy_id n) y there))))
    (λ eligible. bare_report_served n (children_of (forest_of s) n) (conditions_of s n) (eligible_named s n all eligible)))
planned_storable s (key.Child n name) found write all e short is =
    subst IsStorable (sym (is ∙ ap (planned (key.Child n name)) e))
    (child_storable (is_open (forest_of s) n) (is_some (object_at s.objects (anchor_id n name))) (is_in name s.config.excluded) (is_some (object_at s.objects (namespace_id name))) n name (child_served s.objects n name all))
planned_storable s (key.Anchor n name) found write all e short is =
    subst IsStorable (sym (is ∙ ap (planned (key.Anchor n name)) e))
    (anchor_storable (is_live (forest_of s) n) (anchor_status s n name) (object_at s.objects (anchor_id n name)) (λ y there. anchor_served s.objects n name (anchor_status s n name) y all there))
planned_storable s (key.Used n name) found write all e short is =
    planned_used s n name write all (subst (λ (f : Facts). IsShort f write) e short) (is ∙ ap (planned (key.Used n name)) e)
planned_storable s (key.Purge n) found write all e short is =
    subst IsStorable (sym (is ∙ ap (planned (key.Purge n)) e)) (purge_storable (is_leaving (forest_of s) n) (least_id s n) n)

pub storable : (brief : Brief) (write : Option Write) → IsPlanned brief write → IsStorableFor brief write
storable brief write is s valid stands = planned_storable s brief.key brief.facts write (all_served s.last s.objects valid.stored) stands.facts is.short is.planned

-- the same of a brief that is seen as it is
pub storable_seen : (brief seen : Brief) (write : Option Write) → seen ≡ brief → write ≡ planned_by seen → IsShort seen.facts write → IsStorableFor brief write
storable_seen brief seen write same planned short = subst (λ (b : Brief). IsStorableFor b write) same (storable seen write (record { planned = planned; short = short }))
