-- A write of tree labels, a copy, a report, a status or usage keeps the order.
--     calm_on        removals and subnamespaces still want nothing
--     keys_same      what other keys want, by what stays
--     late_writes    so each such write keeps the order
use Rattle.std.proofs.Common.{◌≡◌, ◌≢◌, ◌⊎◌, ℕ, Bool, true, false, Option, Some, None, List, inl, inr, refl, sym, ap, ◌∙◌, true≢false, nat_lt}
use Rattle.std.specs.Prelude.{is_none, is_some}
use Rattle.std.specs.Str.{bytes_eq}
use Rattle.std.proofs.lemmas.Bool.{cases_Bool, false_from_ne_true, lt-ltb}
use Rattle.hx_object.specs.Kinds.{can_be_copied, is_namespace, is_plain}
use Rattle.hx_object.specs.declared.kind.Kind.{Kind}
use Rattle.hx_object.specs.declared.object.Id.{Id}
use Rattle.hx_object.specs.declared.object.Object.{Object}
use Rattle.hx_model.specs.Cases.{is_leaving}
use Rattle.hx_model.specs.Forest.{chain_of, children_of, depth_of, halt_of, in_chain, is_in, is_live, tail_of}
use Rattle.hx_model.specs.Modes.{config_id, mode_in}
use Rattle.hx_model.specs.Moves.{is_eligible}
use Rattle.hx_model.specs.Propagation.{id_in, sources_along}
use Rattle.hx_model.specs.State.{State, object_at, same_id, namespace_id}
use Rattle.hx_model.specs.Subnamespaces.{anchor_id}
use Rattle.hx_model.specs.Tree.{forest_of, hierarchy_id}
use Rattle.hx_model.specs.TreeLabels.{is_open}
use Rattle.hx_model.specs.Wanted.{anchor_write, child_write, copy_write, least_id, purge_write, quota_id, tree_write, wanted_write}
use Rattle.hx_model.specs.declared.key.Key.{Key}
use Rattle.hx_model.specs.declared.key.Key.TheVariants as key
use Rattle.hx_model.specs.declared.resource.Resource.{Resource}
use Rattle.hx_model.specs.Quotas.{used}
use Rattle.hx_model.proofs.Climbing.{is_same}
use Rattle.hx_model.proofs.Conflicting.{head_out, tail_chain}
use Rattle.hx_model.proofs.Objects.{is_same_id}
use Rattle.hx_marks.proofs.Frames.{closed_wants, staying_removal, status_stays}
use Rattle.hx_marks.proofs.Making.{copy_write_known, fresh_satisfies, is_removal}
use Rattle.hx_marks.proofs.Replacing.{copied_leaf, sources_same, uncopied}
use Rattle.hx_marks.proofs.Reporting.{conditions_same, same_report}
use Rattle.hx_marks.proofs.UsageTree.{kept_alike, used_alike}
use Rattle.hx_bound.specs.Bound.{LateWrites, next_of}
use Rattle.hx_order.specs.Ranks.{precedes, rank_of}
use Rattle.hx_bound.specs.Rank.{IsCalm, is_early}
use Rattle.hx_bound.proofs.Deepening.{deeper}
use Rattle.hx_bound.proofs.LateSteps.{IsLateStep, kinds_differ, late_step, place_of}
use Rattle.hx_bound.proofs.Ranking.{by_rank}

-- what begins to want a write comes behind a key
abbrev Begins : State → State → Key → Key → Type 0
Begins s t k j = wanted_write t j ≢ None → (wanted_write s j ≢ None) ⊎ (precedes (forest_of s) k j ≡ true)

none_by : (a b : Option Object) → is_some a ≡ is_some b → is_none a ≡ is_none b
none_by None None e = refl
none_by None (Some y) e = absurd (true≢false (sym e))
none_by (Some x) None e = absurd (true≢false e)
none_by (Some x) (Some y) e = refl

-- where no removal is wanted, the namespace stays
stays_there : (s : State) (n : List ℕ) → wanted_write s (key.Purge n) ≡ None → is_leaving (forest_of s) n ≡ false
stays_there s n none = by (is_leaving (forest_of s) n) none
  where
    by : (leaves : Bool) → purge_write leaves (least_id s n) n ≡ None → leaves ≡ false
    by false e = refl
    by true e = absurd (true≢false (ap is_some e))

module _ (s t : State) (k : Key) (q : Id) (step : IsLateStep s t q) (own : wanted_write t k ≡ None) where
  calm_on : IsCalm s → IsCalm t
  calm_on calm (key.Purge n) early = staying_removal t n (ap (λ f. is_leaving f n) step.tree ∙ stays_there s n (calm (key.Purge n) refl))
  calm_on calm (key.Child n m) early = (λ i. child_write (is_open (step.tree i) n) (step.anchors n m i) (is_in m ((step.config i).excluded)) (step.names m i) n m) ∙ calm (key.Child n m) refl
  calm_on calm _ early = absurd (true≢false (sym early))

  -- ---- what begins

  -- a key that wants the same
  same : (j : Key) → wanted_write t j ≡ wanted_write s j → Begins s t k j
  same j is wants = inl (λ none. wants (is ∙ none))

  -- one that wants nothing
  quiet : (j : Key) → wanted_write t j ≡ None → Begins s t k j
  quiet j none wants = absurd (wants none)

  -- the key itself
  itself : (j : Key) → j ≡ k → Begins s t k j
  itself j is wants = absurd (wants (ap (wanted_write t) is ∙ own))

  -- one of a later rank
  later : (j : Key) → nat_lt (rank_of k) (rank_of j) ≡ true → Begins s t k j
  later j less wants = inr (by_rank (forest_of s) k j less)

  -- a removal or a subnamespace
  early : IsCalm s → (j : Key) → is_early j ≡ true → Begins s t k j
  early calm j is = quiet j (calm_on calm j is)

  -- ---- keys that want the same

  tree_same : (m : List ℕ) → object_at t.objects (namespace_id m) ≡ object_at s.objects (namespace_id m) → Begins s t k (key.Tree m)
  tree_same m home = same (key.Tree m) (λ i. tree_write (is_open (step.tree i) m) (chain_of (step.tree i) m) (home i))

  -- where the place stays, and what lies above it under its kind and name
  copy_same : (m : List ℕ) (kind : Kind) (name : List ℕ) → object_at t.objects (namespace_id m) ≡ object_at s.objects (namespace_id m) → object_at t.objects config_id ≡ object_at s.objects config_id
      → object_at t.objects (id_in kind name m) ≡ object_at s.objects (id_in kind name m)
      → ((a : List ℕ) → is_in a (tail_of (chain_of (forest_of s) m)) ≡ true → object_at t.objects (id_in kind name a) ≡ object_at s.objects (id_in kind name a)) → Begins s t k (key.Copy m kind name)
  copy_same m kind name home modes place above = same (key.Copy m kind name) (
      (λ i. copy_write (is_open (step.tree i) m) (home i) (mode_in (modes i) kind) (sources_along t.objects kind name (tail_of (chain_of (step.tree i) m))) m (place i))
      ∙ ap (λ xs. copy_write (is_open (forest_of s) m) (object_at s.objects (namespace_id m)) (mode_in (object_at s.objects config_id) kind) xs m (object_at s.objects (id_in kind name m))) (sources_same s.objects t.objects kind name (tail_of (chain_of (forest_of s) m)) above))

  report_same : (m : List ℕ) → object_at t.objects (namespace_id m) ≡ object_at s.objects (namespace_id m) → object_at t.objects (hierarchy_id m) ≡ object_at s.objects (hierarchy_id m) → Begins s t k (key.Report m)
  report_same m home place =
      let told = conditions_same s t m (ap (λ f. halt_of f m) step.tree) home step.names (λ p. none_by (object_at t.objects (anchor_id p m)) (object_at s.objects (anchor_id p m)) (step.anchors p m)) in
      same (key.Report m) (sym (same_report s t m (ap (λ f. is_eligible f m) step.tree) place home (ap (λ f. children_of f m) step.tree) told).0)

  anchor_same : (n m : List ℕ) → object_at t.objects (namespace_id m) ≡ object_at s.objects (namespace_id m) → object_at t.objects (anchor_id n m) ≡ object_at s.objects (anchor_id n m) → Begins s t k (key.Anchor n m)
  anchor_same n m home place = same (key.Anchor n m) (λ i. anchor_write (is_live (step.tree i) n) (status_stays s t n m step.config home i) (place i))

  -- where nothing is written that is charged
  used_same : is_plain q.kind ≡ false → (n name : List ℕ) → object_at t.objects (namespace_id n) ≡ object_at s.objects (namespace_id n) → object_at t.objects (quota_id n name) ≡ object_at s.objects (quota_id n name) → Begins s t k (key.Used n name)
  used_same free n name home place =
      let stays : (r : Resource) → used s n r ≡ used t n r = used_alike s t n step.up step.ascending (λ p plain. step.others p (kinds_differ is_plain p q plain free)) (λ x plain at. ap (λ f. in_chain f x.id.ns n) (sym step.tree)) in
      same (key.Used n name) (sym (kept_alike s t n stays name place (ap (λ f. is_live f n) step.tree) home).0)

  -- ---- where what is written is no namespace

  home_same : is_namespace q.kind ≡ false → (m : List ℕ) → object_at t.objects (namespace_id m) ≡ object_at s.objects (namespace_id m)
  home_same leaf m = step.others (namespace_id m) (kinds_differ is_namespace (namespace_id m) q refl leaf)

  -- and nothing that can be copied
  copy_beside : is_namespace q.kind ≡ false → can_be_copied q.kind ≡ false → object_at t.objects config_id ≡ object_at s.objects config_id → (m : List ℕ) (kind : Kind) (name : List ℕ) → Begins s t k (key.Copy m kind name)
  copy_beside leaf plain modes m kind name = elim (cases_Bool (can_be_copied kind)) [
    | inr out ↦ quiet (key.Copy m kind name) (uncopied t m kind name out)
    | inl copied ↦ copy_same m kind name (home_same leaf m) modes (step.others (id_in kind name m) (kinds_differ can_be_copied (id_in kind name m) q copied plain)) (λ a _. step.others (id_in kind name a) (kinds_differ can_be_copied (id_in kind name a) q copied plain))
  ]

-- ---- tree labels

begins_tree : (s t : State) (n : List ℕ) → IsLateStep s t (namespace_id n) → wanted_write t (key.Tree n) ≡ None → IsCalm s → (j : Key) → Begins s t (key.Tree n) j
begins_tree s t n step own calm (key.Purge m) = early s t (key.Tree n) (namespace_id n) step own calm (key.Purge m) refl
begins_tree s t n step own calm (key.Child m a) = early s t (key.Tree n) (namespace_id n) step own calm (key.Child m a) refl
begins_tree s t n step own calm (key.Tree m) = elim (cases_Bool (bytes_eq m n)) [
  | inl is ↦ itself s t (key.Tree n) (namespace_id n) step own (key.Tree m) (ap (λ a. key.Tree a) (is_same m n is))
  | inr apart ↦ tree_same s t (key.Tree n) (namespace_id n) step own m (step.others (namespace_id m) apart)
]
begins_tree s t n step own calm j = later s t (key.Tree n) (namespace_id n) step own j refl

-- ---- copies

module _ (s t : State) (n : List ℕ) (kind : Kind) (name : List ℕ) (step : IsLateStep s t (id_in kind name n)) (own : wanted_write t (key.Copy n kind name) ≡ None) (copied : can_be_copied kind ≡ true) (leaf : is_namespace kind ≡ false) where
  abbrev k : Key
  k = key.Copy n kind name

  abbrev q : Id
  q = id_in kind name n

  -- a copy in a namespace above which the place lies
  below : (m : List ℕ) (other : Kind) (called : List ℕ) → is_in n (tail_of (chain_of (forest_of s) m)) ≡ true → Begins s t k (key.Copy m other called)
  below m other called mem = elim (cases_Bool (is_open (forest_of s) m)) [
    | inr shut ↦ quiet s t k q step own (key.Copy m other called) (closed_wants t m other called (ap (λ f. is_open f m) step.tree ∙ shut))
    | inl acts ↦ λ wants. inr (lt-ltb (depth_of (forest_of s) n) (depth_of (forest_of s) m) (deeper (forest_of s) n m acts (tail_chain (forest_of s) m n mem) apart))
  ]
    where
      apart : bytes_eq n m ≡ false
      apart = false_from_ne_true (bytes_eq n m) (λ h. true≢false (sym mem ∙ ap (λ a. is_in a (tail_of (chain_of (forest_of s) m))) (is_same n m h) ∙ head_out (forest_of s) m))

  copies : (m : List ℕ) (other : Kind) (called : List ℕ) → Begins s t k (key.Copy m other called)
  copies m other called = elim (cases_Bool (can_be_copied other)) [
    | inr out ↦ quiet s t k q step own (key.Copy m other called) (uncopied t m other called out)
    | inl may ↦ elim (cases_Bool (same_id (id_in other called m) q)) [
      | inl is ↦ itself s t k q step own (key.Copy m other called) (ap (λ (p : Id). key.Copy p.ns p.kind p.name) (is_same_id (id_in other called m) q is))
      | inr apart ↦ elim (cases_Bool (is_in n (tail_of (chain_of (forest_of s) m)))) [
        | inl mem ↦ below m other called mem
        | inr out ↦ copy_same s t k q step own m other called (home_same s t k q step own leaf m) (step.others config_id (modes_apart)) (step.others (id_in other called m) apart) (λ a has. step.others (id_in other called a) (above out a has))
      ]
    ]
  ]
    where
      modes_apart : same_id config_id q ≡ false
      modes_apart = false_from_ne_true (same_id config_id q) (λ h. true≢false (sym copied ∙ ap (λ (p : Id). can_be_copied p.kind) (sym (is_same_id config_id q h))))

      above : is_in n (tail_of (chain_of (forest_of s) m)) ≡ false → (a : List ℕ) → is_in a (tail_of (chain_of (forest_of s) m)) ≡ true → same_id (id_in other called a) q ≡ false
      above out a has = false_from_ne_true (same_id (id_in other called a) q) (λ h.
          true≢false (sym has ∙ ap (λ (p : Id). is_in p.ns (tail_of (chain_of (forest_of s) m))) (is_same_id (id_in other called a) q h) ∙ out))

  begins_copy : IsCalm s → (j : Key) → Begins s t k j
  begins_copy calm (key.Purge m) = early s t k q step own calm (key.Purge m) refl
  begins_copy calm (key.Child m a) = early s t k q step own calm (key.Child m a) refl
  begins_copy calm (key.Tree m) = tree_same s t k q step own m (home_same s t k q step own leaf m)
  begins_copy calm (key.Copy m other called) = copies m other called
  begins_copy calm j = later s t k q step own j refl

-- ---- reports, statuses, usage

begins_report : (s t : State) (n : List ℕ) → IsLateStep s t (hierarchy_id n) → wanted_write t (key.Report n) ≡ None → IsCalm s → (j : Key) → Begins s t (key.Report n) j
begins_report s t n step own calm (key.Purge m) = early s t (key.Report n) (hierarchy_id n) step own calm (key.Purge m) refl
begins_report s t n step own calm (key.Child m a) = early s t (key.Report n) (hierarchy_id n) step own calm (key.Child m a) refl
begins_report s t n step own calm (key.Tree m) = tree_same s t (key.Report n) (hierarchy_id n) step own m (step.others (namespace_id m) refl)
begins_report s t n step own calm (key.Copy m kind name) = copy_beside s t (key.Report n) (hierarchy_id n) step own refl refl (step.others config_id refl) m kind name
begins_report s t n step own calm (key.Report m) = elim (cases_Bool (same_id (hierarchy_id m) (hierarchy_id n))) [
  | inl is ↦ itself s t (key.Report n) (hierarchy_id n) step own (key.Report m) (ap (λ (p : Id). key.Report p.ns) (is_same_id (hierarchy_id m) (hierarchy_id n) is))
  | inr apart ↦ report_same s t (key.Report n) (hierarchy_id n) step own m (step.others (namespace_id m) refl) (step.others (hierarchy_id m) apart)
]
begins_report s t n step own calm j = later s t (key.Report n) (hierarchy_id n) step own j refl

begins_anchor : (s t : State) (n a : List ℕ) → IsLateStep s t (anchor_id n a) → wanted_write t (key.Anchor n a) ≡ None → IsCalm s → (j : Key) → Begins s t (key.Anchor n a) j
begins_anchor s t n a step own calm (key.Purge m) = early s t (key.Anchor n a) (anchor_id n a) step own calm (key.Purge m) refl
begins_anchor s t n a step own calm (key.Child m b) = early s t (key.Anchor n a) (anchor_id n a) step own calm (key.Child m b) refl
begins_anchor s t n a step own calm (key.Tree m) = tree_same s t (key.Anchor n a) (anchor_id n a) step own m (step.others (namespace_id m) refl)
begins_anchor s t n a step own calm (key.Copy m kind name) = copy_beside s t (key.Anchor n a) (anchor_id n a) step own refl refl (step.others config_id refl) m kind name
begins_anchor s t n a step own calm (key.Report m) = report_same s t (key.Anchor n a) (anchor_id n a) step own m (step.others (namespace_id m) refl) (step.others (hierarchy_id m) refl)
begins_anchor s t n a step own calm (key.Anchor m b) = elim (cases_Bool (same_id (anchor_id m b) (anchor_id n a))) [
  | inl is ↦ itself s t (key.Anchor n a) (anchor_id n a) step own (key.Anchor m b) (ap (λ (p : Id). key.Anchor p.ns p.name) (is_same_id (anchor_id m b) (anchor_id n a) is))
  | inr apart ↦ anchor_same s t (key.Anchor n a) (anchor_id n a) step own m b (step.others (namespace_id b) refl) (step.others (anchor_id m b) apart)
]
begins_anchor s t n a step own calm (key.Used m b) = later s t (key.Anchor n a) (anchor_id n a) step own (key.Used m b) refl

begins_used : (s t : State) (n a : List ℕ) → IsLateStep s t (quota_id n a) → wanted_write t (key.Used n a) ≡ None → IsCalm s → (j : Key) → Begins s t (key.Used n a) j
begins_used s t n a step own calm (key.Purge m) = early s t (key.Used n a) (quota_id n a) step own calm (key.Purge m) refl
begins_used s t n a step own calm (key.Child m b) = early s t (key.Used n a) (quota_id n a) step own calm (key.Child m b) refl
begins_used s t n a step own calm (key.Tree m) = tree_same s t (key.Used n a) (quota_id n a) step own m (step.others (namespace_id m) refl)
begins_used s t n a step own calm (key.Copy m kind name) = copy_beside s t (key.Used n a) (quota_id n a) step own refl refl (step.others config_id refl) m kind name
begins_used s t n a step own calm (key.Report m) = report_same s t (key.Used n a) (quota_id n a) step own m (step.others (namespace_id m) refl) (step.others (hierarchy_id m) refl)
begins_used s t n a step own calm (key.Anchor m b) = anchor_same s t (key.Used n a) (quota_id n a) step own m b (step.others (namespace_id b) refl) (step.others (anchor_id m b) refl)
begins_used s t n a step own calm (key.Used m b) = elim (cases_Bool (same_id (quota_id m b) (quota_id n a))) [
  | inl is ↦ itself s t (key.Used n a) (quota_id n a) step own (key.Used m b) (ap (λ (p : Id). key.Used p.ns p.name) (is_same_id (quota_id m b) (quota_id n a) is))
  | inr apart ↦ used_same s t (key.Used n a) (quota_id n a) step own refl m b (step.others (namespace_id m) refl) (step.others (quota_id m b) apart)
]

-- ---- each of them

begins_by_key : (s t : State) (k : Key) → IsLateStep s t (place_of k) → wanted_write t k ≡ None → IsCalm s → is_early k ≡ false → ((n : List ℕ) (kind : Kind) (name : List ℕ) → k ≡ key.Copy n kind name → can_be_copied kind ≡ true) → (j : Key) → Begins s t k j
begins_by_key s t (key.Tree n) step own calm late copied j = begins_tree s t n step own calm j
begins_by_key s t (key.Copy n kind name) step own calm late copied j = begins_copy s t n kind name step own (copied n kind name refl) (copied_leaf kind (copied n kind name refl)) calm j
begins_by_key s t (key.Report n) step own calm late copied j = begins_report s t n step own calm j
begins_by_key s t (key.Anchor n a) step own calm late copied j = begins_anchor s t n a step own calm j
begins_by_key s t (key.Used n a) step own calm late copied j = begins_used s t n a step own calm j
begins_by_key s t (key.Child n m) step own calm late copied j = absurd (true≢false late)
begins_by_key s t (key.Purge n) step own calm late copied j = absurd (true≢false late)

late_once : (k : Key) → is_early k ≡ false → is_removal k ≡ false
late_once (key.Purge n) late = absurd (true≢false late)
late_once _ late = refl

pub late_writes : LateWrites
late_writes s k write w calm late =
    let t = next_of s write in
    let step = late_step s k write w late in
    let own = fresh_satisfies s k write w.valid (late_once k late) w.wants in
    let copied : (n : List ℕ) (kind : Kind) (name : List ℕ) → k ≡ key.Copy n kind name → can_be_copied kind ≡ true =
    λ n kind name is. (copy_write_known s n kind name write (ap (wanted_write s) (sym is) ∙ w.wants)).copied in
    record {
      calm = calm_on s t k (place_of k) step own calm;
      order = λ a b. ap (λ f. precedes f a b) step.tree;
      done = own;
      begins = begins_by_key s t k step own calm late copied;
    }
