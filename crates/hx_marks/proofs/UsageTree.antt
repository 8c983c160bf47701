-- What a quota tells in two states, by what lies in its subtree.
--     unmarked_apart      where the key of a quota isn't among those of some namespaces, its own isn't among them
--     kept_alike          where the quota, its namespace and what its subtree uses stay, its key wants the same
--     used_alike          as much is used where what is charged lies in the same subtree
--     plain_inside        what is charged lies in a namespace
--     found_home          what lies in a namespace, lies in one that is there
use Rattle.std.proofs.Common.{◌≡◌, ℕ, true, false, ◌||◌, Option, Some, None, List, refl, sym, ap, ◌∙◌, subst, inl, inr, true≢false}
use Rattle.std.specs.Prelude.{is_some, option_and_then, if◌then◌else◌}
use Rattle.std.proofs.lemmas.Bool.{cases_Bool, false_from_ne_true}
use Rattle.hx_object.specs.Kinds.{is_in_cluster, is_plain}
use Rattle.hx_object.specs.declared.kind.Kind.{Kind}
use Rattle.hx_object.specs.declared.kind.Kind.TheVariants as of
use Rattle.hx_object.specs.declared.object.Id.{Id}
use Rattle.hx_object.specs.declared.object.Object.{Object}
use Rattle.hx_model.specs.Charges.{charge_of}
use Rattle.hx_model.specs.Covered.{IsSameFor}
use Rattle.hx_model.specs.Forest.{is_in, is_live, in_chain}
use Rattle.hx_model.specs.Keys.{is_among}
use Rattle.hx_model.specs.Limits.{part_of}
use Rattle.hx_model.specs.Quotas.{charge_below, used}
use Rattle.hx_model.specs.State.{State, Objects, object_at, namespace_id, has_home, ascends}
use Rattle.hx_model.specs.Tree.{forest_of}
use Rattle.hx_model.specs.Valid.{AreHoused}
use Rattle.hx_model.specs.Wanted.{quota_id}
use Rattle.hx_model.specs.declared.key.Key.TheVariants as key
use Rattle.hx_model.specs.declared.resource.Resource.{Resource}
use Rattle.hx_model.proofs.Objects.{found_id}
use Rattle.hx_model.proofs.Rising.{used_same}
use Rattle.hx_model.proofs.Storing.{All-found}
use Rattle.hx_marks.specs.Usage.{usage_keys, usage_of}
use Rattle.hx_marks.proofs.Among.{among_flat_map, passing_name}
use Rattle.hx_marks.proofs.UsageFrames.{kept_used, nothing_there, sums_stay}
use Rattle.hx_marks.proofs.Wanting.{usage_among}

-- ---- quotas that are marked

-- where the key of a quota isn't among those of some namespaces, its own isn't among them
pub unmarked_apart : (objects : Objects) (a name : List ℕ) (q : Object) (names : List (List ℕ)) → object_at objects (quota_id a name) ≡ Some q → is_among (key.Used a name) (usage_of objects names) ≡ false → is_in a names ≡ false
unmarked_apart objects a name q names at out = false_from_ne_true (is_in a names) (λ mem.
    let marked : is_among (key.Used a name) (usage_of objects names) ≡ true =
    among_flat_map (key.Used a name) (usage_keys objects) names ∙ passing_name (λ m. is_among (key.Used a name) (usage_keys objects m)) a names mem (usage_among objects a name q at) in
    true≢false (sym marked ∙ out))

-- ---- keys that want the same

-- the quota, its namespace and what is used there stay
pub kept_alike : (s t : State) (a : List ℕ) → ((r : Resource) → used s a r ≡ used t a r) → (name : List ℕ) → object_at t.objects (quota_id a name) ≡ object_at s.objects (quota_id a name) → is_live (forest_of t) a ≡ is_live (forest_of s) a
    → object_at t.objects (namespace_id a) ≡ object_at s.objects (namespace_id a) → IsSameFor s t (key.Used a name)
kept_alike s t a same name quota live home = kept_used s t a name live home quota (sums_stay s t a same (object_at s.objects (quota_id a name)))

-- ---- what is used

module _ (s t : State) (a : List ℕ) where
  -- what is charged is found alike, and lies in the subtree of a in both states or in neither
  pub used_alike : ascends s.objects ≡ true → ascends t.objects ≡ true → ((q : Id) → is_plain q.kind ≡ true → object_at t.objects q ≡ object_at s.objects q)
      → ((x : Object) → is_plain x.id.kind ≡ true → object_at s.objects x.id ≡ Some x → in_chain (forest_of s) x.id.ns a ≡ in_chain (forest_of t) x.id.ns a)
      → (r : Resource) → used s a r ≡ used t a r
  used_alike up high others alike r = used_same s t a r up high (λ q. elim (cases_Bool (is_plain q.kind)) [
    | inl plain ↦ by q plain (object_at s.objects q) refl ∙ sym (ap (part_of (charge_below (forest_of t) a r)) (others q plain))
    | inr other ↦ nothing_there s (forest_of s) a r q other ∙ sym (nothing_there t (forest_of t) a r q other)
  ])
    where
      by : (q : Id) → is_plain q.kind ≡ true → (o : Option Object) → object_at s.objects q ≡ o → part_of (charge_below (forest_of s) a r) (object_at s.objects q) ≡ part_of (charge_below (forest_of t) a r) (object_at s.objects q)
      by q plain None at = ap (part_of (charge_below (forest_of s) a r)) at ∙ sym (ap (part_of (charge_below (forest_of t) a r)) at)
      by q plain (Some x) at =
          let place : q ≡ x.id = found_id s.objects q x at in
          ap (part_of (charge_below (forest_of s) a r)) at
          ∙ ap (λ b. if b then charge_of x r else 0) (alike x (ap (λ (p : Id). is_plain p.kind) (sym place) ∙ plain) (ap (object_at s.objects) (sym place) ∙ at))
          ∙ sym (ap (part_of (charge_below (forest_of t) a r)) at)

-- ---- where objects lie

-- what is charged lies in a namespace
pub plain_inside : (kind : Kind) → is_plain kind ≡ true → is_in_cluster kind ≡ false
plain_inside of.Namespace is = absurd (true≢false (sym is))
plain_inside of.HncConfiguration is = absurd (true≢false (sym is))
plain_inside _ is = refl

-- what lies in a namespace, lies in one that is there
pub found_home : (objects : Objects) (q : Id) (x : Object) → AreHoused objects → object_at objects q ≡ Some x → is_in_cluster q.kind ≡ false → is_some (object_at objects (namespace_id q.ns)) ≡ true
found_home objects q x housed at inside =
    sym (ap (λ b. b || is_some (option_and_then (object_at objects) (if b then None else Some (namespace_id q.ns)))) inside)
    ∙ subst (λ (p : Id). has_home objects p ≡ true) (sym (found_id objects q x at)) (All-found (λ (y : Object). has_home objects y.id ≡ true) q x objects housed at)
