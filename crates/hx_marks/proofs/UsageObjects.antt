-- A write that leaves the tree of namespaces: which quotas tell something else after it.
--     usage_of_object          a quota that isn't marked tells the same
--     usage_within_object      one that is marked is one that the write may make wait
use Rattle.std.proofs.Common.{◌≡◌, ℕ, Bool, true, false, ◌||◌, Option, Some, None, List, [], ◌∷◌, inl, inr, refl, sym, ap, ◌∙◌, subst, true≢false}
use Rattle.std.specs.Prelude.{is_some, if◌then◌else◌}
use Rattle.std.specs.Option.{option_map_or}
use Rattle.std.proofs.lemmas.Bool.{cases_Bool, or_cases, or_left, or_right, false_from_ne_true}
use Rattle.hx_object.specs.Kinds.{is_namespace, is_hierarchy, is_quota}
use Rattle.hx_object.specs.declared.kind.Kind.{Kind}
use Rattle.hx_object.specs.declared.kind.Kind.TheVariants as of
use Rattle.hx_object.specs.declared.kind.Kind.TheVariants.{HierarchicalResourceQuota}
use Rattle.hx_object.specs.declared.object.Id.{Id}
use Rattle.hx_object.specs.declared.object.Limit.{Limit}
use Rattle.hx_object.specs.declared.object.Object.{Object}
use Rattle.hx_model.specs.Charges.{hard_of, resource_named}
use Rattle.hx_model.specs.Covered.{IsSameFor}
use Rattle.hx_model.specs.Forest.{Forest, in_chain, is_live}
use Rattle.hx_model.specs.Keys.{same_key, is_among, is_key, may_mark}
use Rattle.hx_model.specs.Limits.{part_of}
use Rattle.hx_model.specs.Quotas.{charge_below, charge_before, used}
use Rattle.hx_model.specs.State.{State, object_at, same_id, ascends, state_after}
use Rattle.hx_model.specs.Tree.{forest_of}
use Rattle.hx_model.specs.Valid.{IsValid}
use Rattle.hx_model.specs.Wanted.{quota_id, used_of, sums_of}
use Rattle.hx_model.specs.Writes.{id_written, MayWrite, MayWriteAll}
use Rattle.hx_model.specs.declared.key.Key.{Key}
use Rattle.hx_model.specs.declared.key.Key.TheVariants as key
use Rattle.hx_model.specs.declared.key.Write.{Write}
use Rattle.hx_model.specs.declared.key.Write.TheVariants.{Put, Cut}
use Rattle.hx_model.specs.declared.resource.Resource.{Resource}
use Rattle.hx_model.proofs.Objects.{found_again, is_same_id}
use Rattle.hx_model.proofs.Rising.{used_same}
use Rattle.hx_model.proofs.Writes.{ascends_after}
use Rattle.hx_marks.specs.Law.{object_written}
use Rattle.hx_marks.specs.Usage.{is_recharged, is_limit_of, counts_change, charged_usage, usage_marks}
use Rattle.hx_marks.proofs.Among.{same_key_is, among_here}
use Rattle.hx_marks.proofs.Leaving.{Leaves, leaves, namespaces_stay}
use Rattle.hx_marks.proofs.UsageFrames.{kept_used, map_same_where, sums_stay}
use Rattle.hx_marks.proofs.UsageCharges.{IsOf, found_is_of, written_is_of, uncharged, charged_below, same_charge, usage_of_kept, quota_unplain, charged_marked, charged_touched}
use Rattle.hx_marks.proofs.Within.{touched_within, unplain_within}

-- ---- the law

module _ (s t : State) (id : Id) (new : Option Object) (left : Leaves s t id new) (is : IsOf id new) (up : ascends s.objects ≡ true) (ascending : ascends t.objects ≡ true) (namespace : is_namespace id.kind ≡ false) where
  abbrev old : Option Object
  old = object_at s.objects id

  abbrev f : Forest
  f = forest_of s

  -- what is used of a resource stays, where what is written is charged the same of it or lies elsewhere
  module _ (a : List ℕ) (r : Resource) (same : in_chain f id.ns a ≡ true → charge_before old r ≡ charge_before new r) where
    here_stays : part_of (charge_below f a r) old ≡ part_of (charge_below (forest_of t) a r) (object_at t.objects id)
    here_stays =
        charged_below f a r id old (found_is_of s id)
        ∙ by (in_chain f id.ns a) refl
        ∙ sym (charged_below f a r id new is)
        ∙ (λ i. part_of (charge_below (sym left.tree i) a r) (sym left.here i))
      where
        by : (b : Bool) → in_chain f id.ns a ≡ b → (if b then charge_before old r else 0) ≡ (if b then charge_before new r else 0)
        by true inside = same inside
        by false outside = refl

    place_stays : (q : Id) → part_of (charge_below f a r) (object_at s.objects q) ≡ part_of (charge_below (forest_of t) a r) (object_at t.objects q)
    place_stays q = elim (cases_Bool (same_id q id)) [
      | inr apart ↦ (λ i. part_of (charge_below (sym left.tree i) a r) (sym (left.others q apart) i))
      | inl here ↦ subst (λ (p : Id). part_of (charge_below f a r) (object_at s.objects p) ≡ part_of (charge_below (forest_of t) a r) (object_at t.objects p)) (sym (is_same_id q id here)) here_stays
    ]

    used_stays : used s a r ≡ used t a r
    used_stays = used_same s t a r up ascending place_stays

  -- a quota that isn't written tells the same, where what is used of its limits stays
  module _ (n name : List ℕ) (apart : same_id (quota_id n name) id ≡ false) where
    quota_stays : object_at t.objects (quota_id n name) ≡ object_at s.objects (quota_id n name)
    quota_stays = left.others (quota_id n name) apart

    told_alike : sums_of t n (object_at s.objects (quota_id n name)) ≡ sums_of s n (object_at s.objects (quota_id n name)) → IsSameFor s t (key.Used n name)
    told_alike sums = kept_used s t n name (ap (λ g. is_live g n) left.tree) (namespaces_stay s t id left.others namespace n) quota_stays sums

  -- a quota is written: no charge changes
  own_law : is_quota id.kind ≡ true → (n name : List ℕ) → is_among (key.Used n name) (key.Used id.ns id.name ∷ []) ≡ false → IsSameFor s t (key.Used n name)
  own_law quota n name out =
      told_alike n name
      (false_from_ne_true (same_id (quota_id n name) id) (λ h. true≢false (sym (ap (λ (q : Id). is_among (key.Used q.ns q.name) (key.Used id.ns id.name ∷ [])) (is_same_id (quota_id n name) id h) ∙ among_here (key.Used id.ns id.name) []) ∙ out)))
      (sums_stay s t n (λ r. used_stays n r (λ inside. uncharged id old r (quota_unplain id.kind quota) (found_is_of s id) ∙ sym (uncharged id new r (quota_unplain id.kind quota) is))) (object_at s.objects (quota_id n name)))

  -- a limit of which the charge stays
  limit_alike : (n : List ℕ) (limit : Limit) → is_limit_of old new limit ≡ false → used_of t n limit ≡ used_of s n limit
  limit_alike n limit stays = by (resource_named limit.resource) stays
    where
      by : (o : Option Resource) → option_map_or (is_recharged old new) o false ≡ false → option_map_or (used t n) o 0 ≡ option_map_or (used s n) o 0
      by None e = refl
      by (Some r) e = sym (used_stays n r (λ inside. same_charge old new r e))

  -- any other object
  charged_law : is_quota id.kind ≡ false → (n name : List ℕ) → is_among (key.Used n name) (charged_usage s id.ns old new) ≡ false → IsSameFor s t (key.Used n name)
  charged_law quota n name out =
      told_alike n name
      (false_from_ne_true (same_id (quota_id n name) id) (λ h. true≢false (ap (λ (q : Id). is_quota q.kind) (is_same_id (quota_id n name) id h) ∙ quota)))
      (by (object_at s.objects (quota_id n name)) refl)
    where
      by : (found : Option Object) → object_at s.objects (quota_id n name) ≡ found → sums_of t n found ≡ sums_of s n found
      by None at = refl
      by (Some q) at = elim (cases_Bool (in_chain f id.ns n)) [
        | inr beside ↦ sums_stay s t n (λ r. used_stays n r (λ inside. absurd (true≢false (sym inside ∙ beside)))) (Some q)
        | inl inside ↦
            map_same_where (is_limit_of old new) (used_of t n) (used_of s n) (hard_of q.payload)
            (false_from_ne_true (counts_change old new q) (λ counts. true≢false (sym (charged_marked s id old new n name q inside at counts) ∙ out)))
            (limit_alike n)
      ]

  kept_law : (n name : List ℕ) → is_among (key.Used n name) (if is_quota id.kind then key.Used id.ns id.name ∷ [] else charged_usage s id.ns old new) ≡ false → IsSameFor s t (key.Used n name)
  kept_law n name out = by (is_quota id.kind) refl out
    where
      by : (b : Bool) → is_quota id.kind ≡ b → is_among (key.Used n name) (if b then key.Used id.ns id.name ∷ [] else charged_usage s id.ns old new) ≡ false → IsSameFor s t (key.Used n name)
      by true quota out = own_law quota n name out
      by false other out = charged_law other n name out

-- a quota that isn't marked tells the same before and after the write
pub usage_of_object : (s : State) (write : Write) → IsValid s → MayWriteAll s (write ∷ []) → is_namespace (id_written write).kind ≡ false → is_hierarchy (id_written write).kind ≡ false
    → (n name : List ℕ) → is_among (key.Used n name) (usage_marks s (id_written write) (object_at s.objects (id_written write)) (object_written write)) ≡ false → IsSameFor s (state_after s (write ∷ [])) (key.Used n name)
usage_of_object s write valid may namespace hierarchical n name out =
    let id = id_written write in
    let t = state_after s (write ∷ []) in
    kept_law s t id (object_written write) (leaves s write namespace hierarchical) (written_is_of write) valid.in_order (ascends_after (write ∷ []) s.objects valid.in_order) namespace n name
    (ap (is_among (key.Used n name)) (sym (usage_of_kept s id (object_at s.objects id) (object_written write) namespace hierarchical)) ∙ out)

-- ---- and nothing else is marked

-- the quota that is written is there before or after the write
written_key : (s : State) (write : Write) (k : Key) → MayWrite s write → is_quota (id_written write).kind ≡ true → is_among k (key.Used (id_written write).ns (id_written write).name ∷ []) ≡ true
    → (is_key s k || is_key (state_after s (write ∷ [])) k) ≡ true
written_key s write k may quota mem = elim (or_cases (same_key k (key.Used (id_written write).ns (id_written write).name)) false mem) [
  | inr never ↦ absurd (true≢false (sym never))
  | inl same ↦ ap (λ l. is_key s l || is_key (state_after s (write ∷ [])) l) (same_key_is k (key.Used (id_written write).ns (id_written write).name) same) ∙ by write may (named (id_written write) quota)
]
  where
    quota_kind : (kind : Kind) → is_quota kind ≡ true → HierarchicalResourceQuota ≡ kind
    quota_kind of.HierarchicalResourceQuota quota = refl
    quota_kind _ quota = absurd (true≢false (sym quota))

    named : (id : Id) → is_quota id.kind ≡ true → quota_id id.ns id.name ≡ id
    named id quota i = record { kind = quota_kind id.kind quota i; ns = id.ns; name = id.name }

    by : (w : Write) → MayWrite s w → quota_id (id_written w).ns (id_written w).name ≡ id_written w → (is_key s (key.Used (id_written w).ns (id_written w).name) || is_key (state_after s (w ∷ [])) (key.Used (id_written w).ns (id_written w).name)) ≡ true
    by (Put x) may is = or_right (is_key s (key.Used x.id.ns x.id.name)) (is_key (state_after s (Put x ∷ [])) (key.Used x.id.ns x.id.name)) (ap (λ (q : Id). is_some (object_at (state_after s (Put x ∷ [])).objects q)) is ∙ ap is_some (found_again x s.objects))
    by (Cut id) may is = or_left (is_key s (key.Used id.ns id.name)) (is_key (state_after s (Cut id ∷ [])) (key.Used id.ns id.name)) (ap (λ (q : Id). is_some (object_at s.objects q)) is ∙ ap is_some may.there.1)

module _ (s : State) (write : Write) (k : Key) where
  abbrev place : Id
  place = id_written write

  abbrev before : Option Object
  before = object_at s.objects place

  kept_within : MayWrite s write → (b : Bool) → is_quota place.kind ≡ b → is_among k (if b then key.Used place.ns place.name ∷ [] else charged_usage s place.ns before (object_written write)) ≡ true → may_mark s (write ∷ []) k ≡ true
  kept_within may true quota h = unplain_within s write k (written_key s write k may quota h) (quota_unplain place.kind quota)
  kept_within may false other h = let charged = charged_touched s place before (object_written write) k h in touched_within s write k (or_left (is_key s k) _ charged.0) charged.1

  -- one that is marked is one that the write may make wait
  pub usage_within_object : IsValid s → MayWriteAll s (write ∷ []) → is_namespace place.kind ≡ false → is_hierarchy place.kind ≡ false → is_among k (usage_marks s place before (object_written write)) ≡ true → may_mark s (write ∷ []) k ≡ true
  usage_within_object valid may namespace hierarchical mem =
      kept_within may.each.0 (is_quota place.kind) refl (ap (is_among k) (sym (usage_of_kept s place before (object_written write) namespace hierarchical)) ∙ mem)
