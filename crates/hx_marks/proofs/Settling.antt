-- A valid state is settled exactly if no key wants a write.
--     same_object-Decides           the test of two objects tells whether they are equal
--     placed_stands, stands_placed  nothing is put where the object stands;  and only there
--     settled_exactly, nothing_wanted
use Rattle.std.proofs.Common.{◌≡◌, ℕ, Bool, true, false, not, ◌&&◌, Option, Some, None, List, [], ◌∷◌, map, refl, sym, ap, ◌∙◌, subst, true≢false}
use Rattle.std.specs.Prelude.{is_some}
use Rattle.std.specs.Bool.{Decides}
use Rattle.std.proofs.lemmas.Bool.{and_parts, not-true}
use Rattle.hx_object.specs.Kinds.{can_be_copied, is_quota}
use Rattle.hx_object.specs.Faults.{IsPayloadOf}
use Rattle.hx_object.specs.declared.kind.Kind.{Kind}
use Rattle.hx_object.specs.declared.kind.Kind.TheVariants.{HierarchicalResourceQuota}
use Rattle.hx_object.specs.declared.object.Condition.{Condition}
use Rattle.hx_object.specs.declared.object.Id.{Id}
use Rattle.hx_object.specs.declared.object.Limit.{Limit}
use Rattle.hx_object.specs.declared.object.Mode.{Mode}
use Rattle.hx_object.specs.declared.object.Mode.TheVariants.{Propagate, AllowPropagate, Remove, Ignore}
use Rattle.hx_object.specs.declared.object.Object.{Object}
use Rattle.hx_object.specs.declared.object.Payload.{Payload}
use Rattle.hx_object.specs.declared.object.Payload.TheVariants.{Namespace as NamespaceOf, Config, Hierarchy, Anchor, Quota, Plain}
use Rattle.hx_object.proofs.Sameness.{same_object_from}
use Rattle.hx_model.specs.Answers.{same_object}
use Rattle.hx_model.specs.Cases.{is_leaving}
use Rattle.hx_model.specs.Charges.{hard_of}
use Rattle.hx_model.specs.First.{so}
use Rattle.hx_model.specs.Forest.{chain_of, children_of, is_excluded, is_in, is_live}
use Rattle.hx_model.specs.Limits.{is_copy}
use Rattle.hx_model.specs.Modes.{mode_of}
use Rattle.hx_model.specs.Propagation.{copy_of, id_in, sources_above, top_source}
use Rattle.hx_model.specs.Moves.{is_eligible}
use Rattle.hx_model.specs.Reports.{bare_report, conditions_of, is_telling, report_write, with_report}
use Rattle.hx_model.specs.Settled.{HasNoCopy, HasCopyOf, HasUsages, IsKeptIn, IsSettled, TellsExactly}
use Rattle.hx_model.specs.State.{State, object_at, namespace_id, with_version, has_home}
use Rattle.hx_model.specs.Subnamespaces.{allows_cascade, anchor_id}
use Rattle.hx_model.specs.Tree.{forest_of, hierarchy_id, is_terminating, spec_parent}
use Rattle.hx_model.specs.TreeLabels.{is_open}
use Rattle.hx_model.specs.Valid.{IsStored, IsValid}
use Rattle.hx_model.specs.Wanted.{placed, without_copy, copied, copied_in, copy_write, wanted_copy, labelled, tree_write, wanted_tree, wanted_write, child_write, wanted_child, subnamespace, with_status_of, anchor_status, anchor_write, wanted_anchor, wanted_report, quota_id, usages, used_of, sums_of, with_usages, with_sums, used_write, wanted_used, next_to_go, least_id, purge_write, wanted_purge}
use Rattle.hx_model.specs.declared.key.Key.{Key}
use Rattle.hx_model.specs.declared.key.Key.TheVariants as key
use Rattle.hx_model.specs.declared.key.Write.{Write}
use Rattle.hx_model.specs.declared.key.Write.TheVariants.{Put, Cut}
use Rattle.hx_model.proofs.Objects.{found_id}
use Rattle.hx_model.proofs.Planting.{there-objects}
use Rattle.hx_model.proofs.Storing.{All-found}
use Rattle.hx_marks.proofs.Frames.{unanchored_child, unanchored_status, staying_removal}
use Rattle.hx_marks.proofs.Replacing.{leaving_is, live_is, leaving_found, valid_served}
use Rattle.hx_marks.proofs.Reporting.{eligible_there, silent_wants}
use Rattle.hx_marks.proofs.Wanting.{wants_copied}

pub same_object-Decides : (a b : Object) → Decides (same_object a b) (a ≡ b)
unfolding same_object
same_object-Decides a b = same_object_from a b (same_object a b) refl

none_some : {A : Type 0} (a : A) → Some a ≡ None → ⊥
none_some a e = true≢false (ap is_some e)

-- ---- what is put

-- where nothing is put the object stands, but for its version
pub placed_stands : (x : Object) (place : Option Object) → placed x place ≡ None → (old : Object) × (place ≡ Some old) × (with_version old 0 ≡ x)
placed_stands x None e = absurd (none_some (Put x) e)
placed_stands x (Some old) e = by (same_object (with_version old 0) x) refl e
  where
    by : (b : Bool) → same_object (with_version old 0) x ≡ b → so (not b) (Put x) ≡ None → (z : Object) × (Some old ≡ Some z) × (with_version z 0 ≡ x)
    by true is h = (old, refl, (same_object-Decides (with_version old 0) x).0 is)
    by false is h = absurd (none_some (Put x) h)

-- where it stands nothing is put
pub stands_placed : (x old : Object) → with_version old 0 ≡ x → placed x (Some old) ≡ None
stands_placed x old e = ap (λ b. so (not b) (Put x)) ((same_object-Decides (with_version old 0) x).1 e)

-- ---- places of copies

gone_stands : (place : Option Object) → without_copy place ≡ None → HasNoCopy place
gone_stands None e = tt
gone_stands (Some x) e = by (is_copy x) e
  where
    by : (b : Bool) → so b (Cut x.id) ≡ None → b ≡ false
    by true h = absurd (none_some (Cut x.id) h)
    by false h = refl

stands_gone : (place : Option Object) → HasNoCopy place → without_copy place ≡ None
stands_gone None kept = refl
stands_gone (Some x) kept = ap (λ b. so b (Cut x.id)) kept

copied_stands : (top : Option Object) (n : List ℕ) (place : Option Object) → copied top n place ≡ None → HasCopyOf top n place
copied_stands (Some top) n place e = placed_stands (copy_of top n) place e
copied_stands None n place e = gone_stands place e

stands_copied : (top : Option Object) (n : List ℕ) (place : Option Object) → HasCopyOf top n place → copied top n place ≡ None
stands_copied (Some top) n place kept = ap (placed (copy_of top n)) kept.1 ∙ stands_placed (copy_of top n) kept.0 kept.2
stands_copied None n place kept = stands_gone place kept

-- what a place prescribes stands exactly if it wants nothing
pub kept_from : (mode : Mode) (top : Option Object) (n : List ℕ) (place : Option Object) → copied_in mode top n place ≡ None → IsKeptIn mode top n place
kept_from Propagate top n place e = copied_stands top n place e
kept_from AllowPropagate top n place e = copied_stands top n place e
kept_from Remove top n place e = gone_stands place e
kept_from Ignore top n place e = tt

pub from_kept : (mode : Mode) (top : Option Object) (n : List ℕ) (place : Option Object) → IsKeptIn mode top n place → copied_in mode top n place ≡ None
from_kept Propagate top n place kept = stands_copied top n place kept
from_kept AllowPropagate top n place kept = stands_copied top n place kept
from_kept Remove top n place kept = stands_gone place kept
from_kept Ignore top n place kept = refl

-- ---- reports

-- where nothing is to be told of a namespace, its HierarchyConfiguration tells all
tells_from : (found : Option Object) (children : List (List ℕ)) (conditions : List Condition) (n : List ℕ) → report_write true found children conditions n ≡ None → TellsExactly found children conditions
tells_from None [] [] n e = (refl, refl)
tells_from None [] (c ∷ cs) n e = absurd (none_some (Put (bare_report n [] (c ∷ cs))) e)
tells_from None (m ∷ ms) conditions n e = absurd (none_some (Put (bare_report n (m ∷ ms) conditions)) e)
tells_from (Some x) children conditions n e =
    let stands = placed_stands (with_report children conditions x) (Some x) e in
    let same : x ≡ stands.0 = let h = stands.1 in cc in
    (spec_parent x.payload, allows_cascade x.payload, ap (λ (o : Object). o.payload) same ∙ ap (λ (o : Object). o.payload) stands.2)

-- and where it does, nothing is
from_tells : (found : Option Object) (children : List (List ℕ)) (conditions : List Condition) (n : List ℕ) → TellsExactly found children conditions → report_write true found children conditions n ≡ None
from_tells None children conditions n told = λ i. so (is_telling (told.0 i) (told.1 i)) (Put (bare_report n children conditions))
from_tells (Some x) children conditions n told =
    let tells : x.payload ≡ Hierarchy (spec_parent x.payload) (allows_cascade x.payload) children conditions =
    told.2 ∙ sym (λ i. Hierarchy (spec_parent (told.2 i)) (allows_cascade (told.2 i)) children conditions) in
    stands_placed (with_report children conditions x) x (λ i. record x { payload = tells i; version = 0 })

-- ---- usage

module _ (s : State) (n : List ℕ) where
  -- where a payload of a quota stands with what is used, it tells that
  tells_used : (payload : Payload) → IsPayloadOf HierarchicalResourceQuota payload → payload ≡ with_usages (map (used_of s n) (hard_of payload)) payload → (hard : List Limit) × (payload ≡ Quota hard (usages hard (map (used_of s n) hard)))
  tells_used (Quota hard status) of e = (hard, e)
  tells_used (NamespaceOf terminating) of e = absurd (true≢false (ap is_quota of))
  tells_used (Config entries) of e = absurd (true≢false (ap is_quota of))
  tells_used (Hierarchy parent cascade children conditions) of e = absurd (true≢false (ap is_quota of.0))
  tells_used (Anchor status) of e = absurd (true≢false (ap is_quota of))
  tells_used (Plain members need) of e = absurd (true≢false (sym of.0))

  -- and one that tells it stands
  stands_used : (x : Object) → HasUsages s n x → with_version x 0 ≡ with_sums (sums_of s n (Some x)) x
  stands_used x (hard, told) =
      let same : x.payload ≡ with_usages (map (used_of s n) (hard_of x.payload)) x.payload = told ∙ sym (ap (λ payload. with_usages (map (used_of s n) (hard_of payload)) payload) told) in
      λ i. record x { payload = same i; version = 0 }

  used_wanted : (name : List ℕ) (x : Object) → object_at s.objects (quota_id n name) ≡ Some x → is_live (forest_of s) n ≡ true → wanted_used s n name ≡ placed (with_sums (sums_of s n (Some x)) x) (Some x)
  used_wanted name x at lives i = used_write (lives i) (sums_of s n (at i)) (at i)

-- ---- states

-- what a namespace that takes part wants
copy_wanted : (s : State) (n : List ℕ) (x : Object) (kind : Kind) (name : List ℕ) → object_at s.objects (namespace_id n) ≡ Some x → is_open (forest_of s) n ≡ true
    → wanted_copy s n kind name ≡ copied_in (mode_of s kind) (top_source s n kind name x.labels) n (object_at s.objects (id_in kind name n))
copy_wanted s n x kind name at acts i = copy_write (acts i) (at i) (mode_of s kind) (sources_above s n kind name) n (object_at s.objects (id_in kind name n))

tree_wanted : (s : State) (n : List ℕ) (x : Object) → object_at s.objects (namespace_id n) ≡ Some x → is_open (forest_of s) n ≡ true → wanted_tree s n ≡ placed (labelled (chain_of (forest_of s) n) x) (Some x)
tree_wanted s n x at acts i = tree_write (acts i) (chain_of (forest_of s) n) (at i)

-- a namespace that stays wants no removal, and only such a one
stays_from : (s : State) → IsValid s → (n : List ℕ) (x : Object) → wanted_write s (key.Purge n) ≡ None → object_at s.objects (namespace_id n) ≡ Some x → is_terminating x.payload ≡ false
stays_from s valid n x none at = by (is_terminating x.payload) (leaving_is s valid n x at)
  where
    by : (leaves : Bool) → is_leaving (forest_of s) n ≡ leaves → leaves ≡ false
    by false is = refl
    by true is = absurd (none_some (Cut (next_to_go (least_id s n) n)) (sym (ap (λ b. purge_write b (least_id s n) n) is) ∙ none))

-- the namespace of what is found in one is there, and so it isn't on its way out
home_live : (s : State) → IsValid s → ((n : List ℕ) (x : Object) → object_at s.objects (namespace_id n) ≡ Some x → is_terminating x.payload ≡ false)
    → (n : List ℕ) (q : Id) → has_home s.objects q ≡ is_some (object_at s.objects (namespace_id n)) → (x : Object) → object_at s.objects q ≡ Some x → is_live (forest_of s) n ≡ true
home_live s valid none_leaving n q lies x at = by (object_at s.objects (namespace_id n)) refl home
  where
    home : is_some (object_at s.objects (namespace_id n)) ≡ true
    home = sym lies ∙ ap (has_home s.objects) (found_id s.objects q x at) ∙ All-found (λ (y : Object). has_home s.objects y.id ≡ true) q x s.objects valid.housed at

    by : (o : Option Object) → object_at s.objects (namespace_id n) ≡ o → is_some o ≡ true → is_live (forest_of s) n ≡ true
    by None absent there = absurd (true≢false (sym there))
    by (Some y) found there = live_is s valid n y found ∙ ap not (none_leaving n y found)

-- where no subnamespace is wanted, it is there
child_from : (acts excluded taken : Bool) (anchor : Option Object) (n m : List ℕ) (x : Object) → anchor ≡ Some x → child_write acts (is_some anchor) excluded taken n m ≡ None → acts ≡ true → excluded ≡ false → taken ≡ true
child_from acts excluded true anchor n m x at none opens included = refl
child_from acts excluded false anchor n m x at none opens included =
    absurd (none_some (Put (subnamespace n m)) ((λ i. child_write (sym opens i) (is_some (sym at i)) (sym included i) false n m) ∙ none))

-- where no key wants a write, the state is settled
pub settled_exactly : (s : State) → IsValid s → ((k : Key) → wanted_write s k ≡ None) → IsSettled s
settled_exactly s valid none = record {
  none_leaving = staying;
  places = λ n x at acts. record {
    labels =
        let stands = placed_stands (labelled (chain_of (forest_of s) n) x) (Some x) (sym (tree_wanted s n x at acts) ∙ none (key.Tree n)) in
        let same : x ≡ stands.0 = let e = stands.1 in cc in
        ap (λ (o : Object). o.labels) same ∙ ap (λ (o : Object). o.labels) stands.2;
    copies = λ kind name can. kept_from (mode_of s kind) (top_source s n kind name x.labels) n (object_at s.objects (id_in kind name n)) (sym (copy_wanted s n x kind name at acts) ∙ none (key.Copy n kind name));
  };
  children = λ n m x at. child_from (is_open (forest_of s) n) (is_in m s.config.excluded) (is_some (object_at s.objects (namespace_id m))) (object_at s.objects (anchor_id n m)) n m x at (none (key.Child n m));
  statuses = λ n m x at.
      let written : anchor_write (is_live (forest_of s) n) (anchor_status s n m) (object_at s.objects (anchor_id n m)) ≡ placed (with_status_of (anchor_status s n m) x) (Some x) =
      (λ i. anchor_write (home_live s valid staying n (anchor_id n m) refl x at i) (anchor_status s n m) (at i)) in
      let stands = placed_stands (with_status_of (anchor_status s n m) x) (Some x) (sym written ∙ none (key.Anchor n m)) in
      let same : x ≡ stands.0 = let e = stands.1 in cc in
      ap (λ (o : Object). o.payload) same ∙ ap (λ (o : Object). o.payload) stands.2;
  reports = λ n x at included.
      let children = children_of (forest_of s) n in
      let conditions = conditions_of s n in
      let eligible : is_eligible (forest_of s) n ≡ true = λ i. (live_is s valid n x at ∙ ap not (staying n x at)) i && not (included i) in
      tells_from (object_at s.objects (hierarchy_id n)) children conditions n (sym (ap (λ b. report_write b (object_at s.objects (hierarchy_id n)) children conditions n) eligible) ∙ none (key.Report n));
  usages = λ n m x at.
      let stands = placed_stands (with_sums (sums_of s n (Some x)) x) (Some x) (sym (used_wanted s n m x at (home_live s valid staying n (quota_id n m) refl x at)) ∙ none (key.Used n m)) in
      let same : x ≡ stands.0 = let e = stands.1 in cc in
      let quota : IsPayloadOf HierarchicalResourceQuota x.payload =
      subst (λ (q : Id). IsPayloadOf q.kind x.payload) (sym (found_id s.objects (quota_id n m) x at)) (All-found (IsStored s.last) (quota_id n m) x s.objects valid.stored at).served.legal.payload in
      tells_used s n x.payload quota (ap (λ (o : Object). o.payload) same ∙ ap (λ (o : Object). o.payload) stands.2);
}
  where
    staying : (n : List ℕ) (x : Object) → object_at s.objects (namespace_id n) ≡ Some x → is_terminating x.payload ≡ false
    staying n x at = stays_from s valid n x (none (key.Purge n)) at

-- in a settled state no key wants one
pub nothing_wanted : (s : State) → IsValid s → IsSettled s → (k : Key) → wanted_write s k ≡ None
nothing_wanted s valid settled (key.Copy n kind name) = by (is_open (forest_of s) n) (object_at s.objects (namespace_id n)) refl refl
  where
    -- a kind that can't be copied wants nothing
    uncopied : (acts : Bool) (found : Option Object) → can_be_copied kind ≡ false → copy_write acts found (mode_of s kind) (sources_above s n kind name) n (object_at s.objects (id_in kind name n)) ≡ None
    uncopied acts found out = nothing (copy_write acts found (mode_of s kind) (sources_above s n kind name) n (object_at s.objects (id_in kind name n))) refl
      where
        nothing : (o : Option Write) → copy_write acts found (mode_of s kind) (sources_above s n kind name) n (object_at s.objects (id_in kind name n)) ≡ o → o ≡ None
        nothing None is = refl
        nothing (Some write) is = absurd (true≢false (sym (wants_copied s.objects (chain_of (forest_of s) n) n kind name acts found (λ none. none_some write (sym is ∙ none))) ∙ out))

    kinds : (acts : Bool) (x : Object) (b : Bool) → can_be_copied kind ≡ b → is_open (forest_of s) n ≡ true → object_at s.objects (namespace_id n) ≡ Some x
        → copied_in (mode_of s kind) (top_source s n kind name x.labels) n (object_at s.objects (id_in kind name n)) ≡ None
    kinds acts x true can is at = from_kept (mode_of s kind) (top_source s n kind name x.labels) n (object_at s.objects (id_in kind name n)) ((settled.places n x at is).copies kind name can)
    kinds acts x false out is at = uncopied true (Some x) out

    by : (acts : Bool) (found : Option Object) → is_open (forest_of s) n ≡ acts → object_at s.objects (namespace_id n) ≡ found → wanted_copy s n kind name ≡ None
    by acts None is at = ap (λ o. copy_write (is_open (forest_of s) n) o (mode_of s kind) (sources_above s n kind name) n (object_at s.objects (id_in kind name n))) at
    by true (Some x) is at = copy_wanted s n x kind name at is ∙ kinds true x (can_be_copied kind) refl is at
    by false (Some x) is at = λ i. copy_write (is i) (at i) (mode_of s kind) (sources_above s n kind name) n (object_at s.objects (id_in kind name n))
nothing_wanted s valid settled (key.Tree n) = by (is_open (forest_of s) n) (object_at s.objects (namespace_id n)) refl refl
  where
    by : (acts : Bool) (found : Option Object) → is_open (forest_of s) n ≡ acts → object_at s.objects (namespace_id n) ≡ found → wanted_tree s n ≡ None
    by acts None is at = ap (tree_write (is_open (forest_of s) n) (chain_of (forest_of s) n)) at
    by true (Some x) is at =
        let labels = (settled.places n x at is).labels in
        tree_wanted s n x at is ∙ stands_placed (labelled (chain_of (forest_of s) n) x) x (λ i. record x { labels = labels i; version = 0 })
    by false (Some x) is at = λ i. tree_write (is i) (chain_of (forest_of s) n) (at i)
nothing_wanted s valid settled (key.Report n) = by (is_eligible (forest_of s) n) refl
  where
    children : List (List ℕ)
    children = children_of (forest_of s) n

    conditions : List Condition
    conditions = conditions_of s n

    found : Option Object
    found = object_at s.objects (hierarchy_id n)

    there : (o : Option Object) → object_at s.objects (namespace_id n) ≡ o → is_eligible (forest_of s) n ≡ true → TellsExactly found children conditions
    there None absent eligible = absurd (true≢false (sym (eligible_there (forest_of s) n eligible) ∙ there-objects s.config.excluded s.objects n (valid_served s valid) ∙ ap is_some absent))
    there (Some x) at eligible = settled.reports n x at (not-true (is_excluded (forest_of s) n) (and_parts (is_live (forest_of s) n) _ eligible).1)

    by : (eligible : Bool) → is_eligible (forest_of s) n ≡ eligible → wanted_report s n ≡ None
    by false is = silent_wants s n is
    by true is = ap (λ b. report_write b found children conditions n) is ∙ from_tells found children conditions n (there (object_at s.objects (namespace_id n)) refl is)
nothing_wanted s valid settled (key.Child n m) = by (object_at s.objects (anchor_id n m)) refl
  where
    held : (acts excluded taken : Bool) → (acts ≡ true → excluded ≡ false → taken ≡ true) → child_write acts true excluded taken n m ≡ None
    held false excluded taken has = refl
    held true true taken has = refl
    held true false taken has = ap (λ b. child_write true true false b n m) (has refl refl)

    by : (o : Option Object) → object_at s.objects (anchor_id n m) ≡ o → wanted_child s n m ≡ None
    by None absent = unanchored_child s n m absent
    by (Some x) at =
        ap (λ o. child_write (is_open (forest_of s) n) (is_some o) (is_in m s.config.excluded) (is_some (object_at s.objects (namespace_id m))) n m) at
        ∙ held (is_open (forest_of s) n) (is_in m s.config.excluded) (is_some (object_at s.objects (namespace_id m))) (settled.children n m x at)
nothing_wanted s valid settled (key.Anchor n m) = by (is_live (forest_of s) n) (object_at s.objects (anchor_id n m)) refl refl
  where
    by : (live : Bool) (found : Option Object) → is_live (forest_of s) n ≡ live → object_at s.objects (anchor_id n m) ≡ found → wanted_anchor s n m ≡ None
    by live None is at = unanchored_status s n m at
    by false (Some x) is at = λ i. anchor_write (is i) (anchor_status s n m) (at i)
    by true (Some x) is at =
        (λ i. anchor_write (is i) (anchor_status s n m) (at i))
        ∙ stands_placed (with_status_of (anchor_status s n m) x) x (λ i. record x { payload = settled.statuses n m x at i; version = 0 })
nothing_wanted s valid settled (key.Used n name) = by (is_live (forest_of s) n) (object_at s.objects (quota_id n name)) refl refl
  where
    by : (live : Bool) (found : Option Object) → is_live (forest_of s) n ≡ live → object_at s.objects (quota_id n name) ≡ found → wanted_used s n name ≡ None
    by live None is at = λ i. used_write (is_live (forest_of s) n) (sums_of s n (at i)) (at i)
    by false (Some x) is at = λ i. used_write (is i) (sums_of s n (at i)) (at i)
    by true (Some x) is at = used_wanted s n name x at is ∙ stands_placed (with_sums (sums_of s n (Some x)) x) x (stands_used s n x (settled.usages n name x at))
nothing_wanted s valid settled (key.Purge n) = by (is_leaving (forest_of s) n) refl
  where
    by : (leaves : Bool) → is_leaving (forest_of s) n ≡ leaves → wanted_purge s n ≡ None
    by false is = staying_removal s n is
    by true is = let found = leaving_found s valid n is in absurd (true≢false (sym found.2 ∙ settled.none_leaving n found.0 found.1))
