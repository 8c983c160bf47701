-- Each key that is kept wants a write.
--     planned_here   what is planned by the facts of a state is what is wanted in it
--     place_same     what is planned for a place of copies is what is wanted there
--     all_wanting    all that are kept want a write
use Rattle.std.proofs.Common.{◌≡◌, ℕ, Bool, true, false, Option, Some, None, List, [], flat_map, refl, sym, ap, ◌∙◌}
use Rattle.std.specs.Prelude.{is_some, if◌then◌else◌}
use Rattle.std.specs.List.{AllByRecursion}
use Rattle.hx_audit.specs.Candidates.{active_kinds, anchor_keys, copy_keys, is_lacking, kind_keys, lacking_keys, listed_in, open_keys, place_facts, place_keys, quota_keys, senders, sent_keys, state_of, taken_keys, wanted, wanting, wanting_of}
use Rattle.hx_audit.proofs.Holding.{all_joined, all_over, kept_all}
use Rattle.hx_audit.proofs.Senders.{along_senders}
use Rattle.hx_model.specs.Forest.{chain_of, tail_of}
use Rattle.hx_model.specs.Machine.{wants}
use Rattle.hx_model.specs.Moves.{mode_at}
use Rattle.hx_model.specs.Propagation.{id_in, sources_along}
use Rattle.hx_model.specs.State.{State, object_at, namespace_id}
use Rattle.hx_model.specs.TreeLabels.{is_open}
use Rattle.hx_model.specs.Wanted.{copy_write, wanted_write}
use Rattle.hx_model.specs.declared.key.Key.{Key}
use Rattle.hx_model.specs.declared.key.Key.TheVariants as key
use Rattle.hx_object.specs.declared.kind.Kind.{Kind}
use Rattle.hx_object.specs.declared.kind.Kind.TheVariants.{SubnamespaceAnchor, HierarchicalResourceQuota}
use Rattle.hx_object.specs.declared.object.Object.{Object}
use Rattle.hx_reconcile.specs.Briefs.{facts_of, planned}
use Rattle.hx_survey.specs.Surveyed.{Surveyed, tree_of}

pub planned_here : (s : State) (k : Key) → planned k (facts_of s k) ≡ wanted_write s k
planned_here s (key.Copy n kind name) = refl
planned_here s (key.Tree n) = refl
planned_here s (key.Report n) = refl
planned_here s (key.Child n name) = refl
planned_here s (key.Anchor n name) = refl
planned_here s (key.Used n name) = refl
planned_here s (key.Purge n) = refl

module _ (v : Surveyed) where
  -- what is above a namespace
  abbrev pub above_of : List ℕ → List (List ℕ)
  above_of n = tail_of (chain_of (tree_of v) n)

  -- those of them that have sources of a kind
  abbrev pub senders_of : List ℕ → Kind → List (List ℕ)
  senders_of n kind = senders v.objects kind (above_of n)

  -- a place in a namespace that takes part
  pub place_same : (n : List ℕ) (x : Object) (kind : Kind) (name : List ℕ) → is_open (tree_of v) n ≡ true → object_at v.objects (namespace_id n) ≡ Some x
      → wanted_write (state_of v) (key.Copy n kind name) ≡ planned (key.Copy n kind name) (place_facts v.objects (mode_at v.objects kind) x (senders_of n kind) n kind name)
  place_same n x kind name acts at =
      (λ i. copy_write (acts i) (at i) (mode_at v.objects kind) (sources_along v.objects kind name (above_of n)) n (object_at v.objects (id_in kind name n)))
      ∙ sym (ap (λ sources. copy_write true (Some x) (mode_at v.objects kind) sources n (object_at v.objects (id_in kind name n))) (along_senders v.objects kind name (above_of n)))

  abbrev Wants : Key → Type 0
  Wants k = wants (state_of v) k ≡ true

  wanted_all : (k : Key) → AllByRecursion Wants (wanted v k)
  wanted_all k = kept_all Wants k (facts_of (state_of v) k) (λ h. sym (ap is_some (planned_here (state_of v) k)) ∙ h)

  module _ (n : List ℕ) (x : Object) (acts : is_open (tree_of v) n ≡ true) (at : object_at v.objects (namespace_id n) ≡ Some x) (kind : Kind) where
    place_all : (name : List ℕ) → AllByRecursion Wants (place_keys v.objects (mode_at v.objects kind) x (senders_of n kind) n kind name)
    place_all name = kept_all Wants (key.Copy n kind name) (place_facts v.objects (mode_at v.objects kind) x (senders_of n kind) n kind name) (λ h. ap is_some (place_same n x kind name acts at) ∙ h)

    lacking_all : (y : Object) → AllByRecursion Wants (lacking_keys v.objects (mode_at v.objects kind) x (senders_of n kind) n kind y)
    lacking_all y = by (is_lacking v.objects n kind y)
      where
        by : (b : Bool) → AllByRecursion Wants (if b then place_keys v.objects (mode_at v.objects kind) x (senders_of n kind) n kind y.id.name else [])
        by true = place_all y.id.name
        by false = tt

    sent_all : (a : List ℕ) → AllByRecursion Wants (sent_keys v.objects (mode_at v.objects kind) x (senders_of n kind) n kind a)
    sent_all a = all_over Wants (lacking_keys v.objects (mode_at v.objects kind) x (senders_of n kind) n kind) lacking_all (listed_in v.objects kind a)

    taken_all : AllByRecursion Wants (taken_keys v.objects (mode_at v.objects kind) x (senders_of n kind) n kind)
    taken_all = all_over Wants (λ (y : Object). place_keys v.objects (mode_at v.objects kind) x (senders_of n kind) n kind y.id.name) (λ y. place_all y.id.name) (listed_in v.objects kind n)

    kind_all : AllByRecursion Wants (kind_keys v.objects x (above_of n) n kind)
    kind_all =
        all_joined Wants (taken_keys v.objects (mode_at v.objects kind) x (senders_of n kind) n kind) (flat_map (sent_keys v.objects (mode_at v.objects kind) x (senders_of n kind) n kind) (senders_of n kind)) taken_all
        (all_over Wants (sent_keys v.objects (mode_at v.objects kind) x (senders_of n kind) n kind) sent_all (senders_of n kind))

  open_all : (n : List ℕ) (acts : Bool) → is_open (tree_of v) n ≡ acts → AllByRecursion Wants (open_keys v.objects (active_kinds v) acts (above_of n) n)
  open_all n false is = tt
  open_all n true is = by (object_at v.objects (namespace_id n)) refl
    where
      by : (o : Option Object) → object_at v.objects (namespace_id n) ≡ o → AllByRecursion Wants (copy_keys v.objects (active_kinds v) (above_of n) n o)
      by None at = tt
      by (Some x) at = all_over Wants (kind_keys v.objects x (above_of n) n) (kind_all n x is at) (active_kinds v)

  -- of a namespace
  all_of : (n : List ℕ) → AllByRecursion Wants (wanting_of v n)
  all_of n =
      all_joined Wants (open_keys v.objects (active_kinds v) (is_open (tree_of v) n) (above_of n) n) _ (open_all n (is_open (tree_of v) n) refl)
      (all_joined Wants (wanted v (key.Tree n)) _ (wanted_all (key.Tree n))
      (all_joined Wants (wanted v (key.Report n)) _ (wanted_all (key.Report n))
      (all_joined Wants (wanted v (key.Purge n)) _ (wanted_all (key.Purge n))
      (all_joined Wants (flat_map (anchor_keys v n) (listed_in v.objects SubnamespaceAnchor n)) _
      (all_over Wants (anchor_keys v n) (λ y. all_joined Wants (wanted v (key.Child n y.id.name)) (wanted v (key.Anchor n y.id.name)) (wanted_all (key.Child n y.id.name)) (wanted_all (key.Anchor n y.id.name))) (listed_in v.objects SubnamespaceAnchor n))
      (all_over Wants (quota_keys v n) (λ y. wanted_all (key.Used n y.id.name)) (listed_in v.objects HierarchicalResourceQuota n))))))

  pub all_wanting : AllByRecursion Wants (wanting v)
  all_wanting = all_over Wants (λ e. wanting_of v e.0) (λ e. all_of e.0) (tree_of v)
