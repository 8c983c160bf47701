-- The conflicts that a move of a namespace makes, found in its subtree.
--     over_met           whether a source is overwritten, by the chain of its namespace
--     put_keeps, cut_keeps   a write of one identity keeps what is found under the others
--     moves_conflict     a move makes a conflict exactly if one is found in the subtree
--     stays_no_conflict  where the tree stays, no HierarchyConfiguration makes one
--     with_same_parent   with the parent that it has the tree is the same
--     put_decided, cut_decided   so a HierarchyConfiguration that is put or cut, by the parent that it leaves
use Rattle.std.specs.Prelude.{is_some, option_and_then, if◌then◌else◌}
use Rattle.std.proofs.Common.{◌≡◌, ℕ, ◌==◌, Bool, true, false, cond, not, ◌&&◌, Option, Some, None, option_map, List, [], ◌∷◌, ◌++◌, refl, sym, ap, ◌∙◌, subst, inl, inr, eq-eqb, true≢false}
use Rattle.std.specs.List.{list_any, AllByRecursion}
use Rattle.std.specs.Option.{option_map_or}
use Rattle.std.specs.Str.{bytes_eq}
use Rattle.std.proofs.lemmas.Bool.{and_parts, and_from, cases_Bool, not-true, not_from_false, false_from_ne_true}
use Rattle.hx_object.specs.Kinds.{can_be_copied, number_of}
use Rattle.hx_object.specs.declared.kind.Kind.{Kind}
use Rattle.hx_object.specs.declared.kind.Kind.TheVariants as kinds
use Rattle.hx_object.specs.declared.object.Id.{Id}
use Rattle.hx_object.specs.declared.object.Object.{Object}
use Rattle.hx_model.specs.Answers.{is_listed}
use Rattle.hx_model.specs.Conflicts.{is_overwritten, makes_conflict}
use Rattle.hx_model.specs.First.{so, or_else}
use Rattle.hx_model.specs.Forest.{Forest, is_in, names_of, is_there, is_live, parent_of, chain_of, in_chain, tail_of, subtree_of, with_parent}
use Rattle.hx_model.specs.Cases.{same_name}
use Rattle.hx_model.specs.declared.node.Node.{Node}
use Rattle.hx_model.specs.Valid.{IsStored, IsValid}
use Rattle.hx_model.specs.Limits.{is_copy, is_hierarchy}
use Rattle.hx_model.specs.Modes.{config_id, mode_in}
use Rattle.hx_model.specs.Propagation.{is_source, source_at, sources_along, as_list, top_of, id_in}
use Rattle.hx_model.specs.Serving.{IsServed}
use Rattle.hx_model.specs.State.{State, Objects, ascends, object_at, same_id, put, cut, namespace_id, home_in}
use Rattle.hx_model.specs.Tree.{hierarchy, hierarchy_id, forest_in, forest_of, node_in, named_parent, subnamespace_parent, parent_with}
use Rattle.hx_model.proofs.Planting.{node_of-objects, there-objects, forest-put_hierarchy, forest-cut_hierarchy, put_there, home_of_hierarchy, forest-put_moves, forest-cut_moves}
use Rattle.hx_model.specs.TreeLabels.{is_open, prescribed_labels}
use Rattle.hx_model.proofs.Climbing.{is_same, same_itself}
use Rattle.hx_model.proofs.Conflicting.{conflict_found, conflict_of, reached_any}
use Rattle.hx_model.proofs.Moving.{IsApart, moved_chain_same, moved_there}
use Rattle.hx_model.proofs.Objects.{is_same_id, object_at-put, object_at-cut, found_id}
use Rattle.hx_model.proofs.Opening.{moved_chain_below, moved_open_same, moved_open_below, not_live}
use Rattle.hx_model.proofs.Parents.{in_below}
use Rattle.hx_model.proofs.Passing.{any_filter, passing_object, found_object, found_name, passing_kind, found_kind}
use Rattle.hx_model.proofs.Walking.{names_have, no_parent, passes_in}
use Rattle.hx_model.specs.Moves.{labels_in, is_met, open_chain, open_moved, is_newly_met, overwrites_kind, overwrites_in}

-- ---- in a tree

-- a source is overwritten, by a tree of its own
abbrev over : Objects → Forest → Id → Bool
over objects f id =
    is_open f id.ns
    && (is_some (source_at objects id) && is_some (top_of (mode_in (object_at objects config_id) id.kind) (prescribed_labels (chain_of f id.ns) (labels_in objects id.ns)) (sources_along objects id.kind id.name (tail_of (chain_of f id.ns)))))

and_false : (a : Bool) → (a && false) ≡ false
and_false true = refl
and_false false = refl

-- by the chain of its namespace
over_met : (objects : Objects) (f : Forest) (id : Id) → over objects f id ≡ (is_some (source_at objects id) && is_met objects id.ns (open_chain f id.ns) id.kind id.name)
over_met objects f id =
    elim (is_open f id.ns) as (λ b. (b && (is_some (source_at objects id) && is_some (top_of (mode_in (object_at objects config_id) id.kind) (prescribed_labels (chain_of f id.ns) (labels_in objects id.ns)) (sources_along objects id.kind id.name (tail_of (chain_of f id.ns))))))
    ≡ (is_some (source_at objects id) && is_met objects id.ns (cond b (chain_of f id.ns) []) id.kind id.name)) [
      | true ↦ ap (λ b. is_some (source_at objects id) && b) (reached_any (mode_in (object_at objects config_id) id.kind) (prescribed_labels (chain_of f id.ns) (labels_in objects id.ns)) objects id.kind id.name (tail_of (chain_of f id.ns)))
      | false ↦ sym (and_false (is_some (source_at objects id)))
    ]

-- ---- other identities

-- what is found under other identities stays
abbrev pub KeepsOthers : Id → Objects → Objects → Type 0
KeepsOthers id old new = (q : Id) → same_id q id ≡ false → object_at new q ≡ object_at old q

pub put_keeps : (x : Object) (id : Id) (objects : Objects) → x.id ≡ id → KeepsOthers id objects (put x objects)
put_keeps x id objects placed q apart = object_at-put x objects q ∙ ap (λ b. cond b (Some x) (object_at objects q)) (ap (same_id q) placed ∙ apart)

pub cut_keeps : (id : Id) (objects : Objects) → KeepsOthers id objects (cut id objects)
cut_keeps id objects q apart = object_at-cut id objects q ∙ ap (λ b. cond b None (object_at objects q)) apart

uncopied : (kind : Kind) → is_hierarchy kind ≡ true → can_be_copied kind ≡ false
uncopied kinds.HierarchyConfiguration is = refl
uncopied kinds.Namespace is = refl
uncopied kinds.HncConfiguration is = refl
uncopied kinds.Role is = absurd (true≢false (sym is))
uncopied kinds.RoleBinding is = absurd (true≢false (sym is))
uncopied kinds.ConfigMap is = absurd (true≢false (sym is))
uncopied kinds.Secret is = absurd (true≢false (sym is))
uncopied kinds.NetworkPolicy is = absurd (true≢false (sym is))
uncopied kinds.LimitRange is = absurd (true≢false (sym is))
uncopied _ is = refl

-- nothing of another kind is a source
no_source : (objects : Objects) (q : Id) → can_be_copied q.kind ≡ false → source_at objects q ≡ None
no_source objects q out = by (object_at objects q) refl
  where
    by : (o : Option Object) → object_at objects q ≡ o → option_and_then (λ x. so (is_source x) x) o ≡ None
    by None e = refl
    by (Some x) e = ap (λ b. so (b && not (is_copy x)) x) (ap (λ (i : Id). can_be_copied i.kind) (sym (found_id objects q x e)) ∙ out)

module _ (id : Id) (is : is_hierarchy id.kind ≡ true) (old new : Objects) (keeps : KeepsOthers id old new) where
  other_kind : (q : Id) → is_hierarchy q.kind ≡ false → object_at new q ≡ object_at old q
  other_kind q out = keeps q (false_from_ne_true (same_id q id) (λ h. true≢false (sym is ∙ sym (ap (λ (i : Id). is_hierarchy i.kind) (is_same_id q id h)) ∙ out)))

  same_source : (q : Id) → source_at new q ≡ source_at old q
  same_source q = elim (cases_Bool (same_id q id)) [
    | inl h ↦
        let out : can_be_copied q.kind ≡ false = ap (λ (i : Id). can_be_copied i.kind) (is_same_id q id h) ∙ uncopied id.kind is in
        no_source new q out ∙ sym (no_source old q out)
    | inr apart ↦ ap (λ o. option_and_then (λ x. so (is_source x) x) o) (keeps q apart)
  ]

  same_sources : (kind : Kind) (name : List ℕ) (chain : List (List ℕ)) → sources_along new kind name chain ≡ sources_along old kind name chain
  same_sources kind name [] = refl
  same_sources kind name (a ∷ chain) = λ i. same_sources kind name chain i ++ as_list (same_source (id_in kind name a) i)

  -- a source is overwritten in a tree as before
  pub over_same : (f : Forest) (q : Id) → over new f q ≡ over old f q
  over_same f q i =
      is_open f q.ns
      && (is_some (same_source q i)
      && is_some (top_of (mode_in (other_kind config_id refl i) q.kind) (prescribed_labels (chain_of f q.ns) (option_map_or (λ (x : Object). x.labels) (other_kind (namespace_id q.ns) refl i) [])) (same_sources q.kind q.name (tail_of (chain_of f q.ns)) i)))

  pub over_after : (s : State) (f : Forest) → old ≡ s.objects → forest_in s.config.excluded new ≡ f → (q : Id) → is_overwritten (record s { objects = new }) q ≡ over s.objects f q
  over_after s f here tree q = ap (λ (g : Forest). over new g q) tree ∙ over_same f q ∙ ap (λ (objects : Objects). over objects f q) here

  -- where the tree stays, nothing is overwritten that wasn't
  pub stays_no_conflict : (s : State) → old ≡ s.objects → forest_in s.config.excluded new ≡ forest_of s → makes_conflict s (record s { objects = new }) ≡ false
  stays_no_conflict s here tree = false_from_ne_true (makes_conflict s (record s { objects = new })) (λ h.
      let found = conflict_found s (record s { objects = new }) h in
      true≢false (sym found.1 ∙ over_after s (forest_of s) here tree found.0 ∙ found.2))

-- ---- the subtree

open_is_there : (f : Forest) (n : List ℕ) → is_open f n ≡ true → is_there f n ≡ true
open_is_there f n h = elim (cases_Bool (is_there f n)) [
  | inl there ↦ there
  | inr out ↦ absurd (true≢false (sym (and_parts (is_live f n) _ h).0 ∙ not_live f n out))
]

source_there : (objects : Objects) (q : Id) → is_some (source_at objects q) ≡ true → (x : Object) × (object_at objects q ≡ Some x) × (is_source x ≡ true)
source_there objects q h = by (object_at objects q) refl h
  where
    test : (b : Bool) (x : Object) → is_some (so b x) ≡ true → b ≡ true
    test true x e = refl
    test false x e = absurd (true≢false (sym e))

    by : (o : Option Object) → object_at objects q ≡ o → is_some (option_and_then (λ x. so (is_source x) x) o) ≡ true → (x : Object) × (object_at objects q ≡ Some x) × (is_source x ≡ true)
    by None e h = absurd (true≢false (sym h))
    by (Some x) e h = (x, e, test (is_source x) x h)

there_source : (objects : Objects) (x : Object) → object_at objects x.id ≡ Some x → is_source x ≡ true → is_some (source_at objects x.id) ≡ true
there_source objects x at is = ap (λ o. is_some (option_and_then (λ y. so (is_source y) y) o)) at ∙ ap (λ b. is_some (so b x)) is

and_out : (a b : Bool) → a ≡ true → (a && b) ≡ false → b ≡ false
and_out true b h e = e
and_out false b h e = absurd (true≢false (sym h))

listed_here : (x : Object) → is_listed x.id.kind (Some x.id.ns) x ≡ true
listed_here x = and_from (number_of x.id.kind == number_of x.id.kind) (bytes_eq x.id.ns x.id.ns) (eq-eqb (number_of x.id.kind) (number_of x.id.kind) refl) (same_itself x.id.ns)

module _ (s : State) (n : List ℕ) (parent : Option (List ℕ)) (apart : IsApart (forest_of s) n parent) (there : is_there (forest_of s) n ≡ true) where
  -- what the chain of a member is then
  chain_then : (m : List ℕ) → in_chain (forest_of s) m n ≡ true → open_chain (with_parent n parent (forest_of s)) m ≡ open_moved (forest_of s) n parent m
  chain_then m has i = if moved_open_below (forest_of s) n parent apart there m has i then moved_chain_below (forest_of s) n parent apart m has i else []

  -- outside all stays
  over_outside : (q : Id) → in_chain (forest_of s) q.ns n ≡ false → over s.objects (with_parent n parent (forest_of s)) q ≡ over s.objects (forest_of s) q
  over_outside q out i =
      let chain = moved_chain_same (forest_of s) n parent q.ns out i in
      moved_open_same (forest_of s) n parent q.ns out i
      && (is_some (source_at s.objects q) && is_some (top_of (mode_in (object_at s.objects config_id) q.kind) (prescribed_labels chain (labels_in s.objects q.ns)) (sources_along s.objects q.kind q.name (tail_of chain))))

  -- a member of the subtree has a new conflict
  abbrev here_in : List ℕ → Bool
  here_in m = overwrites_in s.objects m (open_moved (forest_of s) n parent m) (open_chain (forest_of s) m)

  -- a source that is overwritten then, and wasn't, is found
  finds : (x : Object) → object_at s.objects x.id ≡ Some x → is_source x ≡ true → over s.objects (with_parent n parent (forest_of s)) x.id ≡ true → over s.objects (forest_of s) x.id ≡ false → list_any here_in (subtree_of (forest_of s) n) ≡ true
  finds x at is after before =
      let has : in_chain (forest_of s) x.id.ns n ≡ true = elim (cases_Bool (in_chain (forest_of s) x.id.ns n)) [
        | inl inside ↦ inside
        | inr outside ↦ absurd (true≢false (sym after ∙ over_outside x.id outside ∙ before))
      ] in
      let home : is_there (forest_of s) x.id.ns ≡ true = sym (moved_there (forest_of s) n parent x.id.ns) ∙ open_is_there (with_parent n parent (forest_of s)) x.id.ns (and_parts (is_open (with_parent n parent (forest_of s)) x.id.ns) _ after).0 in
      let source = there_source s.objects x at is in
      let met = (and_parts (is_some (source_at s.objects x.id)) _ (sym (over_met s.objects (with_parent n parent (forest_of s)) x.id) ∙ after)).1 in
      let unmet = and_out (is_some (source_at s.objects x.id)) (is_met s.objects x.id.ns (open_chain (forest_of s) x.id.ns) x.id.kind x.id.name) source (sym (over_met s.objects (forest_of s) x.id) ∙ before) in
      let met_then : is_met s.objects x.id.ns (open_moved (forest_of s) n parent x.id.ns) x.id.kind x.id.name ≡ true = sym (ap (λ chain. is_met s.objects x.id.ns chain x.id.kind x.id.name) (chain_then x.id.ns has)) ∙ met in
      let newly : is_newly_met s.objects x.id.ns (open_moved (forest_of s) n parent x.id.ns) (open_chain (forest_of s) x.id.ns) x ≡ true = and_from (is_source x) _ is (and_from _ _ met_then (not_from_false _ unmet)) in
      passes_in here_in x.id.ns (subtree_of (forest_of s) n)
      (in_below (forest_of s) x.id.ns n ∙ and_from (is_in x.id.ns (names_of (forest_of s))) (in_chain (forest_of s) x.id.ns n) (sym (names_have (forest_of s) x.id.ns) ∙ home) has)
      (passing_kind (overwrites_kind s.objects x.id.ns (open_moved (forest_of s) n parent x.id.ns) (open_chain (forest_of s) x.id.ns)) x.id.kind (and_parts (can_be_copied x.id.kind) (not (is_copy x)) is).0
      (any_filter (is_newly_met s.objects x.id.ns (open_moved (forest_of s) n parent x.id.ns) (open_chain (forest_of s) x.id.ns)) (is_listed x.id.kind (Some x.id.ns)) s.objects
      ∙ passing_object (λ y. is_listed x.id.kind (Some x.id.ns) y && is_newly_met s.objects x.id.ns (open_moved (forest_of s) n parent x.id.ns) (open_chain (forest_of s) x.id.ns) y) s.objects x.id x at (and_from _ _ (listed_here x) newly)))

  -- what is found in the subtree is one
  abbrev IsFound : Type 0
  IsFound = (x : Object) × (over s.objects (with_parent n parent (forest_of s)) x.id ≡ true) × (over s.objects (forest_of s) x.id ≡ false)

  found_in : ascends s.objects ≡ true → list_any here_in (subtree_of (forest_of s) n) ≡ true → IsFound
  found_in up h =
      let at = found_name here_in (subtree_of (forest_of s) n) h in
      let has : in_chain (forest_of s) at.0 n ≡ true = (and_parts (is_in at.0 (names_of (forest_of s))) _ (sym (in_below (forest_of s) at.0 n) ∙ at.1)).1 in
      let after = open_moved (forest_of s) n parent at.0 in
      let before = open_chain (forest_of s) at.0 in
      let kind = found_kind (overwrites_kind s.objects at.0 after before) at.2 in
      let found = found_object (λ y. is_listed kind.0 (Some at.0) y && is_newly_met s.objects at.0 after before y) s.objects up (sym (any_filter (is_newly_met s.objects at.0 after before) (is_listed kind.0 (Some at.0)) s.objects) ∙ kind.2) in
      of_member at.0 has found.0 found.1 (is_same found.0.id.ns at.0 (and_parts (number_of kind.0 == number_of found.0.id.kind) _ (and_parts (is_listed kind.0 (Some at.0) found.0) _ found.2).0).1) (and_parts (is_listed kind.0 (Some at.0) found.0) _ found.2).1
    where
      at_home : (x : Object) → in_chain (forest_of s) x.id.ns n ≡ true → object_at s.objects x.id ≡ Some x → is_newly_met s.objects x.id.ns (open_moved (forest_of s) n parent x.id.ns) (open_chain (forest_of s) x.id.ns) x ≡ true → IsFound
      at_home x has at newly =
          let parts = and_parts (is_source x) _ newly in
          let tests = and_parts (is_met s.objects x.id.ns (open_moved (forest_of s) n parent x.id.ns) x.id.kind x.id.name) _ parts.1 in
          let source = there_source s.objects x at parts.0 in (
            x,
            over_met s.objects (with_parent n parent (forest_of s)) x.id ∙ and_from _ _ source (ap (λ chain. is_met s.objects x.id.ns chain x.id.kind x.id.name) (chain_then x.id.ns has) ∙ tests.0),
            over_met s.objects (forest_of s) x.id ∙ ap (λ b. is_some (source_at s.objects x.id) && b) (not-true _ tests.1) ∙ and_false _,
          )

      of_member : (m : List ℕ) → in_chain (forest_of s) m n ≡ true → (x : Object) → object_at s.objects x.id ≡ Some x → x.id.ns ≡ m → is_newly_met s.objects m (open_moved (forest_of s) n parent m) (open_chain (forest_of s) m) x ≡ true → IsFound
      of_member m has x at is newly =
          at_home x (subst (λ (k : List ℕ). in_chain (forest_of s) k n ≡ true) (sym is) has) at
          (subst (λ (k : List ℕ). is_newly_met s.objects k (open_moved (forest_of s) n parent k) (open_chain (forest_of s) k) x ≡ true) (sym is) newly)

  -- a move makes a conflict exactly if one is found in the subtree
  pub moves_conflict : (id : Id) (new : Objects) → is_hierarchy id.kind ≡ true → KeepsOthers id s.objects new → ascends s.objects ≡ true → forest_in s.config.excluded new ≡ with_parent n parent (forest_of s)
      → makes_conflict s (record s { objects = new }) ≡ list_any here_in (subtree_of (forest_of s) n)
  moves_conflict id new is keeps up tree = both (makes_conflict s (record s { objects = new })) (list_any here_in (subtree_of (forest_of s) n))
      (λ h.
      let found = conflict_found s (record s { objects = new }) h in
      let after : over s.objects (with_parent n parent (forest_of s)) found.0 ≡ true = sym (over_after id is s.objects new keeps s (with_parent n parent (forest_of s)) refl tree found.0) ∙ found.1 in
      let x = source_there s.objects found.0 (and_parts (is_some (source_at s.objects found.0)) _ (and_parts (is_open (with_parent n parent (forest_of s)) found.0.ns) _ after).1).0 in
      let same = found_id s.objects found.0 x.0 x.1 in
      finds x.0 (subst (λ (q : Id). object_at s.objects q ≡ Some x.0) same x.1) x.2
      (subst (λ (q : Id). over s.objects (with_parent n parent (forest_of s)) q ≡ true) same after)
      (subst (λ (q : Id). over s.objects (forest_of s) q ≡ false) same found.2))
      (λ h.
      let found = found_in up h in
      conflict_of s (record s { objects = new }) found.0.id (over_after id is s.objects new keeps s (with_parent n parent (forest_of s)) refl tree found.0.id ∙ found.1) found.2)
    where
      both : (r t : Bool) → (r ≡ true → t ≡ true) → (t ≡ true → r ≡ true) → r ≡ t
      both true true to from = refl
      both true false to from = sym (to refl)
      both false true to from = from refl
      both false false to from = refl

-- ---- a HierarchyConfiguration is written or removed

all_served : (last : ℕ) (objects : Objects) → AllByRecursion (IsStored last) objects → AllByRecursion IsServed objects
all_served last [] h = tt
all_served last (x ∷ objects) h = (h.0.served, all_served last objects h.1)

same_names : (a b : Option (List ℕ)) → same_name a b ≡ true → a ≡ b
same_names None None h = refl
same_names None (Some b) h = absurd (true≢false (sym h))
same_names (Some a) None h = absurd (true≢false (sym h))
same_names (Some a) (Some b) h = ap (λ x. Some x) (is_same a b h)

itself : (a : Option (List ℕ)) → same_name a a ≡ true
itself None = refl
itself (Some a) = same_itself a

cut_absent : (id : Id) (objects : Objects) → object_at objects id ≡ None → cut id objects ≡ objects
cut_absent id [] none = refl
cut_absent id (y ∷ objects) none =
    elim (same_id id y.id) as (λ b. cond b (Some y) (object_at objects id) ≡ None → cond (not b) (y ∷ cut id objects) (cut id objects) ≡ y ∷ objects) [
      | true ↦ λ e. absurd (true≢false (ap is_some e))
      | false ↦ λ e. ap (λ (xs : Objects). y ∷ xs) (cut_absent id objects e)
    ] none

module _ (s : State) (valid : IsValid s) where
  served : AllByRecursion IsServed s.objects
  served = all_served s.last s.objects valid.stored

  parent_there : (n : List ℕ) (home : Object) → object_at s.objects (namespace_id n) ≡ Some home → parent_of (forest_of s) n ≡ parent_with (object_at s.objects (hierarchy_id n)) home
  parent_there n home there =
      ap (λ o. option_and_then (λ (node : Node). node.parent) o) (node_of-objects s.config.excluded s.objects n served ∙ ap (option_map (node_in s.config.excluded s.objects)) there)
      ∙ ap (λ (q : Id). parent_with (object_at s.objects (hierarchy_id q.name)) home) (sym (found_id s.objects (namespace_id n) home there))

  -- with the parent that it has the tree is the same
  pub with_same_parent : (n : List ℕ) (home : Object) → object_at s.objects (namespace_id n) ≡ Some home → with_parent n (parent_of (forest_of s) n) (forest_of s) ≡ forest_of s
  with_same_parent n home there = by (object_at s.objects (hierarchy_id n)) refl
    where
      by : (old : Option Object) → object_at s.objects (hierarchy_id n) ≡ old → with_parent n (parent_of (forest_of s) n) (forest_of s) ≡ forest_of s
      by None none =
          ap (λ p. with_parent n p (forest_of s)) (parent_there n home there ∙ ap (λ o. parent_with o home) none)
          ∙ sym (forest-cut_hierarchy s.config.excluded s.objects n home there valid.in_order served)
          ∙ ap (forest_in s.config.excluded) (cut_absent (hierarchy_id n) s.objects none)
      by (Some old) is =
          let same = found_id s.objects (hierarchy_id n) old is in
          ap (λ p. with_parent n p (forest_of s)) (parent_there n home there ∙ ap (λ o. parent_with o home) is)
          ∙ sym (forest-put_hierarchy s.config.excluded old s.objects n home (sym same) there valid.in_order served)
          ∙ ap (forest_in s.config.excluded) (put_there old s.objects (subst (λ (q : Id). object_at s.objects q ≡ Some old) same is) valid.in_order)

  -- the tree that a HierarchyConfiguration leaves which names that parent, or is gone
  abbrev pub tree_by : Id → Option (List ℕ) → Forest
  tree_by id named = if bytes_eq id.name hierarchy then option_map_or (λ home. with_parent id.ns (or_else (subnamespace_parent home) named) (forest_of s)) (home_in s.objects id) (forest_of s) else forest_of s

  -- and the parent that its namespace has then
  abbrev pub parent_by : Id → Option (List ℕ) → Option (List ℕ)
  parent_by id named = if bytes_eq id.name hierarchy then option_and_then (λ home. or_else (subnamespace_parent home) named) (object_at s.objects (namespace_id id.ns)) else parent_of (forest_of s) id.ns

  -- where the parent stays there is no new conflict, and else those that are found in the subtree
  pub record IsDecided (id : Id) (parent : Option (List ℕ)) (new : Objects) : Type 0 where
    pub stays : same_name (parent_of (forest_of s) id.ns) parent ≡ true → makes_conflict s (record s { objects = new }) ≡ false
    pub moves : same_name (parent_of (forest_of s) id.ns) parent ≡ false → is_there (forest_of s) id.ns ≡ true → IsApart (forest_of s) id.ns parent
        → makes_conflict s (record s { objects = new }) ≡ list_any (λ m. overwrites_in s.objects m (open_moved (forest_of s) id.ns parent m) (open_chain (forest_of s) m)) (subtree_of (forest_of s) id.ns)

  module _ (id : Id) (is : is_hierarchy id.kind ≡ true) (named : Option (List ℕ)) (new : Objects) (keeps : KeepsOthers id s.objects new) where
    kept : (parent : Option (List ℕ)) → parent ≡ parent_of (forest_of s) id.ns → forest_in s.config.excluded new ≡ forest_of s → IsDecided id parent new
    kept parent same tree = record {
      stays = λ _. stays_no_conflict id is s.objects new keeps s refl tree;
      moves = λ differs _ _. absurd (true≢false (sym (itself (parent_of (forest_of s) id.ns)) ∙ sym (ap (same_name (parent_of (forest_of s) id.ns)) same) ∙ differs));
    }

    by_home : (o : Option Object) → object_at s.objects (namespace_id id.ns) ≡ o
        → forest_in s.config.excluded new ≡ option_map_or (λ home. with_parent id.ns (or_else (subnamespace_parent home) named) (forest_of s)) o (forest_of s)
        → IsDecided id (option_and_then (λ home. or_else (subnamespace_parent home) named) o) new
    by_home None gone tree = kept None (sym (no_parent (forest_of s) id.ns (there-objects s.config.excluded s.objects id.ns served ∙ ap is_some gone))) tree
    by_home (Some home) there tree = record {
      stays = λ same.
          let parent : or_else (subnamespace_parent home) named ≡ parent_of (forest_of s) id.ns = sym (same_names (parent_of (forest_of s) id.ns) (or_else (subnamespace_parent home) named) same) in
          stays_no_conflict id is s.objects new keeps s refl (tree ∙ ap (λ p. with_parent id.ns p (forest_of s)) parent ∙ with_same_parent id.ns home there);
      moves = λ _ here apart. moves_conflict s id.ns (or_else (subnamespace_parent home) named) apart here id new is keeps valid.in_order tree;
    }

    pub move_decided : forest_in s.config.excluded new ≡ tree_by id named → IsDecided id (parent_by id named) new
    move_decided tree = by_name (bytes_eq id.name hierarchy) tree
      where
        by_name : (b : Bool) → forest_in s.config.excluded new ≡ (if b then option_map_or (λ home. with_parent id.ns (or_else (subnamespace_parent home) named) (forest_of s)) (home_in s.objects id) (forest_of s) else forest_of s)
            → IsDecided id (if b then option_and_then (λ home. or_else (subnamespace_parent home) named) (object_at s.objects (namespace_id id.ns)) else parent_of (forest_of s) id.ns) new
        by_name true tree = by_home (object_at s.objects (namespace_id id.ns)) refl (tree ∙ ap (λ o. option_map_or (λ home. with_parent id.ns (or_else (subnamespace_parent home) named) (forest_of s)) o (forest_of s)) (home_of_hierarchy s.objects id is))
        by_name false tree = kept (parent_of (forest_of s) id.ns) refl tree

  -- one is put
  pub put_decided : (id : Id) (x : Object) → is_hierarchy id.kind ≡ true → x.id ≡ id → IsDecided id (parent_by id (named_parent x)) (put x s.objects)
  put_decided id x is same = move_decided id is (named_parent x) (put x s.objects) (put_keeps x id s.objects same) (forest-put_moves s.config.excluded s.objects id is valid.in_order served x (named_parent x) same refl)

  -- one is cut
  pub cut_decided : (id : Id) → is_hierarchy id.kind ≡ true → IsDecided id (parent_by id None) (cut id s.objects)
  cut_decided id is = move_decided id is None (cut id s.objects) (cut_keeps id s.objects) (forest-cut_moves s.config.excluded s.objects id is valid.in_order served)
