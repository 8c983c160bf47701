-- The first object in a namespace, by the kinds in their order.
--     least_by_kinds     it is the first of the first kind that has one there
use Rattle.std.proofs.Common.{◌≡◌, ℕ, ◌<◌, ◌≤◌, eqb, eqb-true, Bool, true, false, cond, not, ◌&&◌, ◌||◌, List, [], ◌∷◌, Option, Some, None, refl, sym, ap, ◌∙◌, subst, arith, rules, true≢false}
use Rattle.std.specs.List.{AllByRecursion, list_any}
use Rattle.std.specs.Ordering.{is_gt, nat_cmp, ordering_then}
use Rattle.std.specs.Str.{bytes_eq}
use Rattle.std.specs.declared.cmp.Ordering.{Ordering}
use Rattle.std.specs.declared.cmp.Ordering.TheVariants.{Less, Equal, Greater}
use Rattle.std.proofs.lemmas.Bool.{and_parts, and_from, false_from_ne_true}
use Rattle.std.proofs.lemmas.Cmp.{ranked}
use Rattle.hx_object.proofs.Identities.{number_of-one}
use Rattle.hx_object.specs.Kinds.{number_of, is_in_cluster}
use Rattle.hx_object.specs.Order.{id_cmp}
use Rattle.hx_object.specs.Texts.{bytes_cmp}
use Rattle.hx_object.specs.declared.kind.Kind.{Kind}
use Rattle.hx_object.specs.declared.kind.Kind.TheVariants.{Namespace, HncConfiguration, HierarchyConfiguration, SubnamespaceAnchor, HierarchicalResourceQuota, Role, RoleBinding, ConfigMap, Secret, NetworkPolicy, LimitRange, Pod, Service, PersistentVolumeClaim}
use Rattle.hx_object.specs.declared.object.Id.{Id}
use Rattle.hx_object.specs.declared.object.Object.{Object}
use Rattle.hx_model.specs.First.{first_of, or_else}
use Rattle.hx_model.specs.State.{Objects, ascends, is_below_all, is_listed, least_in, lies_in}
use Rattle.hx_model.proofs.Lists.{any_witness}
use Rattle.hx_survey.specs.Inside.{first_listed}
use Rattle.hx_survey.proofs.Placed.{flipped}
use Rattle.hx_survey.proofs.Sides.{below_all}

abbrev namespaced : List Kind
namespaced =
    HierarchyConfiguration ∷ SubnamespaceAnchor ∷ HierarchicalResourceQuota ∷ Role ∷ RoleBinding ∷ ConfigMap ∷ Secret ∷ NetworkPolicy ∷ LimitRange ∷ Pod ∷ Service ∷ PersistentVolumeClaim ∷ []

-- ---- the kinds

-- each has a lower number than those behind it
abbrev Rises : List Kind → Type 0
Rises [] = Unit {0}
Rises (k ∷ ks) = AllByRecursion (λ j. (number_of k < number_of j)) ks × Rises ks

-- a kind is among them, by its number
abbrev has_kind : Kind → List Kind → Bool
has_kind kind ks = list_any (λ k. eqb (number_of k) (number_of kind)) ks

in_namespaces : (kind : Kind) → is_in_cluster kind ≡ false → has_kind kind namespaced ≡ true
in_namespaces Namespace out = absurd (true≢false out)
in_namespaces HncConfiguration out = absurd (true≢false out)
in_namespaces HierarchyConfiguration out = refl
in_namespaces SubnamespaceAnchor out = refl
in_namespaces HierarchicalResourceQuota out = refl
in_namespaces Role out = refl
in_namespaces RoleBinding out = refl
in_namespaces ConfigMap out = refl
in_namespaces Secret out = refl
in_namespaces NetworkPolicy out = refl
in_namespaces LimitRange out = refl
in_namespaces Pod out = refl
in_namespaces Service out = refl
in_namespaces PersistentVolumeClaim out = refl

all_namespaced : AllByRecursion (λ k. is_in_cluster k ≡ false) namespaced
all_namespaced = (refl, (refl, (refl, (refl, (refl, (refl, (refl, (refl, (refl, (refl, (refl, (refl, tt))))))))))))

-- ---- objects of kinds

module _ (n : List ℕ) where
  -- the first that is found does not depend on one that none takes
  same_first : (g h : Kind → Option Object) (ks : List Kind) → AllByRecursion (λ k. g k ≡ h k) ks → first_of g ks ≡ first_of h ks
  same_first g h [] all = refl
  same_first g h (k ∷ ks) all = (λ i. or_else (all.0 i) (same_first g h ks all.1 i))

  not_listed : (x : Object) → lies_in n x.id ≡ false → (k : Kind) → is_in_cluster k ≡ false → is_listed k (Some n) x ≡ false
  not_listed x out k home = false_from_ne_true (is_listed k (Some n) x) (λ h.
      let parts = and_parts (eqb (number_of k) (number_of x.id.kind)) (bytes_eq x.id.ns n) h in
      let same : k ≡ x.id.kind = number_of-one k x.id.kind (eqb-true _ _ parts.0) in
      let free : not (is_in_cluster x.id.kind) ≡ true = ap not (subst (λ (j : Kind). is_in_cluster j ≡ false) same home) in
      true≢false (sym (and_from (not (is_in_cluster x.id.kind)) (bytes_eq n x.id.ns) free (flipped n x.id.ns ∙ parts.1)) ∙ out))

  passed : (x : Object) (objects : Objects) → lies_in n x.id ≡ false → (ks : List Kind) → AllByRecursion (λ k. is_in_cluster k ≡ false) ks → AllByRecursion (λ k. first_listed (x ∷ objects) n k ≡ first_listed objects n k) ks
  passed x objects out [] all = tt
  passed x objects out (k ∷ ks) all = (ap (λ b. cond b (Some x) (first_listed objects n k)) (not_listed x out k all.0), passed x objects out ks all.1)

  -- ---- the first of all

  later : (a b : Id) → id_cmp a b ≡ Less → number_of a.kind ≤ number_of b.kind
  later a b h = by (nat_cmp (number_of a.kind) (number_of b.kind)) refl h
    where
      by : (o : Ordering) → o ≡ nat_cmp (number_of a.kind) (number_of b.kind) → ordering_then o (ordering_then (bytes_cmp a.ns b.ns) (bytes_cmp a.name b.name)) ≡ Less → number_of a.kind ≤ number_of b.kind
      by Less is h = let r : number_of a.kind < number_of b.kind = ranked (number_of a.kind) (number_of b.kind) Less is in omega (arith, r)
      by Equal is h = let r : number_of a.kind ≡ number_of b.kind = ranked (number_of a.kind) (number_of b.kind) Equal is in omega (arith, r)
      by Greater is h = absurd (true≢false (ap is_gt h))

  apart : (k : Kind) (y : Object) → number_of k < number_of y.id.kind → is_listed k (Some n) y ≡ false
  apart k y less = false_from_ne_true (is_listed k (Some n) y) (λ h.
      let same : number_of k ≡ number_of y.id.kind = eqb-true _ _ (and_parts (eqb (number_of k) (number_of y.id.kind)) (bytes_eq y.id.ns n) h).0 in
      omega (arith, same, less))

  none_listed : (k : Kind) (x : Id) (objects : Objects) → number_of k < number_of x.kind → AllByRecursion (λ (y : Object). id_cmp x y.id ≡ Less) objects → first_listed objects n k ≡ None
  none_listed k x [] less all = refl
  none_listed k x (y ∷ objects) less all =
      let more : number_of k < number_of y.id.kind = omega (arith, less, later x y.id all.0) in
      ap (λ b. cond b (Some y) (first_listed objects n k)) (apart k y more) ∙ none_listed k x objects less all.1

  hit : (x : Object) (objects : Objects) → AllByRecursion (λ (y : Object). id_cmp x.id y.id ≡ Less) objects → bytes_eq x.id.ns n ≡ true → (ks : List Kind) → Rises ks → has_kind x.id.kind ks ≡ true → first_of (first_listed (x ∷ objects) n) ks ≡ Some x
  hit x objects low home [] up has = absurd (true≢false (sym has))
  hit x objects low home (k ∷ ks) up has =
      elim (eqb (number_of k) (number_of x.id.kind)) as (λ b. eqb (number_of k) (number_of x.id.kind) ≡ b → (b || has_kind x.id.kind ks) ≡ true → or_else (cond (b && bytes_eq x.id.ns n) (Some x) (first_listed objects n k)) (first_of (first_listed (x ∷ objects) n) ks) ≡ Some x) [
        | true ↦ λ is has. ap (λ b. or_else (cond b (Some x) (first_listed objects n k)) (first_of (first_listed (x ∷ objects) n) ks)) home
        | false ↦ λ out has.
            let found = any_witness (λ j. number_of k < number_of j) (λ j. eqb (number_of j) (number_of x.id.kind)) ks up.0 has in
            let same : number_of found.0 ≡ number_of x.id.kind = eqb-true _ _ found.2 in
            let less : number_of k < number_of x.id.kind = omega (arith, found.1, same) in
            ap (λ o. or_else o (first_of (first_listed (x ∷ objects) n) ks)) (none_listed k x.id objects less low) ∙ hit x objects low home ks up.1 has
      ] refl has

  rises : Rises namespaced
  rises = search rules

  -- it is the first of the first kind that has one there
  pub least_by_kinds : (objects : Objects) → ascends objects ≡ true → first_of (first_listed objects n) namespaced ≡ least_in objects n
  least_by_kinds [] order = refl
  least_by_kinds (x ∷ objects) order =
      let parts = and_parts (is_below_all x.id objects) (ascends objects) order in
      elim (lies_in n x.id) as (λ b. lies_in n x.id ≡ b → first_of (first_listed (x ∷ objects) n) namespaced ≡ cond b (Some x) (least_in objects n)) [
        | true ↦ λ is.
            let both = and_parts (not (is_in_cluster x.id.kind)) (bytes_eq n x.id.ns) is in
            hit x objects (below_all x.id objects parts.0) (flipped x.id.ns n ∙ both.1) namespaced rises (in_namespaces x.id.kind (free (is_in_cluster x.id.kind) both.0))
        | false ↦ λ out. same_first (first_listed (x ∷ objects) n) (first_listed objects n) namespaced (passed x objects out namespaced all_namespaced) ∙ least_by_kinds objects parts.1
      ] refl
    where
      free : (b : Bool) → not b ≡ true → b ≡ false
      free true h = absurd (true≢false (sym h))
      free false h = refl
