-- When a quota tells the same in two states.
--     without_used        where it isn't there in either, its key wants nothing
--     kept_used           where its namespace and it stay, and what is used of its limits, its key wants the same
--     sums_stay           what is used of its limits stays where what is used of each resource does
--     nothing_there       nothing is charged at a place of a kind that isn't kept as it is given
--     map_same_where      what two functions make of a list is the same, where they agree on what a test doesn't hold for
--     chains_stay         where the tree is kept, so are the chains
--     keeps_used          the quotas of a namespace that stays tell the same
--     left_used           and so do those of another one that aren't among its keys
use Rattle.std.proofs.Common.{◌≡◌, ℕ, Bool, true, false, Option, Some, None, List, [], ◌∷◌, map, inl, inr, refl, sym, ap, ◌∙◌, true≢false}
use Rattle.std.specs.Prelude.{if◌then◌else◌}
use Rattle.std.specs.List.{list_any}
use Rattle.std.specs.Option.{option_map_or}
use Rattle.std.proofs.lemmas.Bool.{cases_Bool, or_parts}
use Rattle.hx_object.specs.Kinds.{is_plain, is_namespace, is_anchor}
use Rattle.hx_object.specs.declared.kind.Kind.{Kind}
use Rattle.hx_object.specs.declared.kind.Kind.TheVariants as of
use Rattle.hx_object.specs.declared.object.Id.{Id}
use Rattle.hx_object.specs.declared.object.Limit.{Limit}
use Rattle.hx_object.specs.declared.object.Object.{Object}
use Rattle.hx_model.specs.Charges.{charge_of, hard_of, resource_named}
use Rattle.hx_model.specs.Covered.{IsSameFor}
use Rattle.hx_model.specs.Forest.{Forest, is_in, is_live, chain_of}
use Rattle.hx_model.specs.Keys.{is_among}
use Rattle.hx_model.specs.Limits.{part_of}
use Rattle.hx_model.specs.Quotas.{charge_below, used}
use Rattle.hx_model.specs.State.{State, object_at, namespace_id}
use Rattle.hx_model.specs.Tree.{forest_of}
use Rattle.hx_model.specs.Wanted.{quota_id, used_of, sums_of, used_write, wanted_used, wanted_write}
use Rattle.hx_model.specs.declared.key.Key.TheVariants as key
use Rattle.hx_model.specs.declared.resource.Resource.{Resource}
use Rattle.hx_model.proofs.Objects.{found_id}
use Rattle.hx_model.proofs.Rising.{used_same}
use Rattle.hx_marks.specs.Usage.{usage_keys}
use Rattle.hx_marks.proofs.EndingChains.{quiet_chain}
use Rattle.hx_marks.proofs.Frames.{none_in_both, same_in_both}
use Rattle.hx_marks.proofs.Keeping.{guard_same}
use Rattle.hx_marks.proofs.KeptTree.{KeepsTree, kept_live, kept_quieter}
use Rattle.hx_marks.proofs.UsageCharges.{uncharged_kind}
use Rattle.hx_marks.proofs.Wanting.{usage_among}

-- ---- one quota

absent_used : (s : State) (n name : List ℕ) → object_at s.objects (quota_id n name) ≡ None → wanted_write s (key.Used n name) ≡ None
absent_used s n name none = ap (λ o. used_write (is_live (forest_of s) n) (sums_of s n o) o) none

pub without_used : (s t : State) (n name : List ℕ) → object_at s.objects (quota_id n name) ≡ None → object_at t.objects (quota_id n name) ≡ None → IsSameFor s t (key.Used n name)
without_used s t n name before after = none_in_both s t (key.Used n name) (absent_used s n name before) (absent_used t n name after)

pub kept_used : (s t : State) (n name : List ℕ) → is_live (forest_of t) n ≡ is_live (forest_of s) n → object_at t.objects (namespace_id n) ≡ object_at s.objects (namespace_id n)
    → object_at t.objects (quota_id n name) ≡ object_at s.objects (quota_id n name)
    → sums_of t n (object_at s.objects (quota_id n name)) ≡ sums_of s n (object_at s.objects (quota_id n name)) → IsSameFor s t (key.Used n name)
kept_used s t n name live home quota sums =
    let same : wanted_used t n name ≡ wanted_used s n name =
    ap (λ o. used_write (is_live (forest_of t) n) (sums_of t n o) o) quota ∙ (λ i. used_write (live i) (sums i) (object_at s.objects (quota_id n name))) in
    same_in_both s t (key.Used n name) (sym same) (λ i. guard_same s t (quota_id n name) quota i ∷ guard_same s t (namespace_id n) home i ∷ [])

-- ---- its limits

-- where two functions agree on what a test doesn't hold for
pub map_same_where : {A B : Type 0} (test : A → Bool) (f g : A → B) (xs : List A) → list_any test xs ≡ false → ((x : A) → test x ≡ false → f x ≡ g x) → map f xs ≡ map g xs
map_same_where test f g [] none same = refl
map_same_where test f g (x ∷ xs) none same =
    let parts = or_parts (test x) (list_any test xs) none in
    λ i. same x parts.0 i ∷ map_same_where test f g xs parts.1 same i

map_same : {A B : Type 0} (f g : A → B) (xs : List A) → ((x : A) → f x ≡ g x) → map f xs ≡ map g xs
map_same f g [] same = refl
map_same f g (x ∷ xs) same = λ i. same x i ∷ map_same f g xs same i

module _ (s t : State) (n : List ℕ) (same : (r : Resource) → used s n r ≡ used t n r) where
  pub limit_stays : (limit : Limit) → used_of t n limit ≡ used_of s n limit
  limit_stays limit = by (resource_named limit.resource)
    where
      by : (o : Option Resource) → option_map_or (used t n) o 0 ≡ option_map_or (used s n) o 0
      by None = refl
      by (Some r) = sym (same r)

  pub sums_stay : (found : Option Object) → sums_of t n found ≡ sums_of s n found
  sums_stay None = refl
  sums_stay (Some x) = map_same (used_of t n) (used_of s n) (hard_of x.payload) limit_stays

-- ---- what is charged

plain_leaf : (kind : Kind) → is_plain kind ≡ true → is_namespace kind ≡ false
plain_leaf of.Namespace plain = absurd (true≢false (sym plain))
plain_leaf _ plain = refl

plain_no_anchor : (kind : Kind) → is_plain kind ≡ true → is_anchor kind ≡ false
plain_no_anchor of.SubnamespaceAnchor plain = absurd (true≢false (sym plain))
plain_no_anchor _ plain = refl

nothing_either : (b : Bool) (n : ℕ) → n ≡ 0 → (if b then n else 0) ≡ 0
nothing_either true n e = e
nothing_either false n e = refl

-- nothing is charged at a place of another kind
pub nothing_there : (s : State) (f : Forest) (a : List ℕ) (r : Resource) (q : Id) → is_plain q.kind ≡ false → part_of (charge_below f a r) (object_at s.objects q) ≡ 0
nothing_there s f a r q other = by (object_at s.objects q) refl
  where
    by : (found : Option Object) → object_at s.objects q ≡ found → part_of (charge_below f a r) found ≡ 0
    by None at = refl
    by (Some x) at = nothing_either (is_in a (chain_of f x.id.ns)) (charge_of x r) (uncharged_kind x r (ap (λ (i : Id). is_plain i.kind) (sym (found_id s.objects q x at)) ∙ other))

-- ---- a tree that is kept

module _ (s t : State) (all : KeepsTree s t) where
  abbrev f : Forest
  f = forest_of s

  abbrev g : Forest
  g = forest_of t

  pub chains_stay : (m : List ℕ) → chain_of g m ≡ chain_of f m
  chains_stay m = quiet_chain f g (kept_quieter s t all) m

  -- each place is charged the same in each subtree
  place_stays : (a : List ℕ) (r : Resource) (q : Id) → part_of (charge_below f a r) (object_at s.objects q) ≡ part_of (charge_below g a r) (object_at t.objects q)
  place_stays a r q = elim (cases_Bool (is_plain q.kind)) [
    | inr other ↦ nothing_there s f a r q other ∙ sym (nothing_there t g a r q other)
    | inl plain ↦ by (object_at s.objects q) ∙ ap (part_of (charge_below g a r)) (sym (all.others q (plain_leaf q.kind plain) (plain_no_anchor q.kind plain)))
  ]
    where
      by : (found : Option Object) → part_of (charge_below f a r) found ≡ part_of (charge_below g a r) found
      by None = refl
      by (Some x) = ap (λ chain. if is_in a chain then charge_of x r else 0) (sym (chains_stay x.id.ns))

  used_stays : (a : List ℕ) (r : Resource) → used s a r ≡ used t a r
  used_stays a r = used_same s t a r all.up all.ascending (place_stays a r)

  -- the quotas of a namespace that stays tell the same
  pub keeps_used : (n name : List ℕ) → object_at t.objects (namespace_id n) ≡ object_at s.objects (namespace_id n) → IsSameFor s t (key.Used n name)
  keeps_used n name home = kept_used s t n name (kept_live s t all n home) home (all.others (quota_id n name) refl refl) (sums_stay s t n (used_stays n) (object_at s.objects (quota_id n name)))

  -- and so do those of another one that aren't among its keys
  pub left_used : (n name : List ℕ) → is_among (key.Used n name) (usage_keys s.objects n) ≡ false → IsSameFor s t (key.Used n name)
  left_used n name out =
      let none = by (object_at s.objects (quota_id n name)) refl in
      without_used s t n name none (all.others (quota_id n name) refl refl ∙ none)
    where
      by : (found : Option Object) → object_at s.objects (quota_id n name) ≡ found → found ≡ None
      by None at = refl
      by (Some q) at = absurd (true≢false (sym (usage_among s.objects n name q at) ∙ out))
