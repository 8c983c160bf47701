-- Two states in which the namespaces keep their places in the tree.
--     node_alike               a namespace that is found alike has the node that it had, where HierarchyConfigurations are found alike
--     StaysThere               a namespace is there before and then, and keeps its place
--     KeepsTree                all namespaces stay or keep their places, and all else but anchors stays
--     kept_node, kept_live     then one that is found alike has the node that it had, and is live as before
--     node_before, node_then   the nodes of one that keeps its place
--     kept_quieter             the names and the parents stay, and only fewer are live
use Rattle.std.proofs.Common.{◌≡◌, ℕ, Bool, true, false, not, Some, option_map, List, ◌⊎◌, inl, inr, refl, sym, ap, ◌∙◌}
use Rattle.std.specs.Prelude.{is_some, option_and_then}
use Rattle.std.specs.List.{AllByRecursion}
use Rattle.std.specs.Option.{option_map_or}
use Rattle.hx_object.specs.Kinds.{is_namespace, is_anchor}
use Rattle.hx_object.specs.declared.object.Id.{Id}
use Rattle.hx_object.specs.declared.object.Object.{Object}
use Rattle.hx_model.specs.First.{or_else}
use Rattle.hx_model.specs.Forest.{Forest, is_in, node_of, is_live}
use Rattle.hx_model.specs.Serving.{IsServed}
use Rattle.hx_model.specs.State.{State, ascends, object_at, namespace_id}
use Rattle.hx_model.specs.Tree.{forest_of, hierarchy_id, is_terminating, named_parent, node_in, parent_with}
use Rattle.hx_model.specs.Writes.{KeepsItsPlace}
use Rattle.hx_model.specs.declared.node.Node.{Node}
use Rattle.hx_model.proofs.Objects.{found_id}
use Rattle.hx_model.proofs.Planting.{node_of-objects}
use Rattle.hx_marks.proofs.EndingChains.{IsQuieter}

-- a namespace that is found alike has the node that it had
pub node_alike : (s t : State) → AllByRecursion IsServed s.objects → AllByRecursion IsServed t.objects → t.config.excluded ≡ s.config.excluded
    → ((name : List ℕ) → object_at t.objects (hierarchy_id name) ≡ object_at s.objects (hierarchy_id name))
    → (m : List ℕ) → object_at t.objects (namespace_id m) ≡ object_at s.objects (namespace_id m) → node_of (forest_of t) m ≡ node_of (forest_of s) m
node_alike s t before after excluded hierarchy m same =
    node_of-objects t.config.excluded t.objects m after
    ∙ ap (option_map (node_in t.config.excluded t.objects)) same
    ∙ ap (λ (node : Object → Node). option_map node (object_at s.objects (namespace_id m))) (λ i y. record { parent = parent_with (hierarchy y.id.name i) y; terminating = is_terminating y.payload; excluded = is_in y.id.name (excluded i) })
    ∙ sym (node_of-objects s.config.excluded s.objects m before)

-- one that is there before and then
pub record StaysThere (s t : State) (m : List ℕ) : Type 0 where
  pub old : Object
  pub new : Object
  pub before : object_at s.objects (namespace_id m) ≡ Some old
  pub after : object_at t.objects (namespace_id m) ≡ Some new
  pub keeps : KeepsItsPlace old new

-- all of them, and all else but anchors stays
pub record KeepsTree (s t : State) : Type 0 where
  pub excluded : t.config.excluded ≡ s.config.excluded
  pub served : AllByRecursion IsServed s.objects
  pub serves : AllByRecursion IsServed t.objects
  pub up : ascends s.objects ≡ true
  pub ascending : ascends t.objects ≡ true
  pub others : (q : Id) → is_namespace q.kind ≡ false → is_anchor q.kind ≡ false → object_at t.objects q ≡ object_at s.objects q
  pub homes : (m : List ℕ) → (object_at t.objects (namespace_id m) ≡ object_at s.objects (namespace_id m)) ⊎ StaysThere s t m

module _ (s t : State) (all : KeepsTree s t) where
  abbrev f : Forest
  f = forest_of s

  abbrev g : Forest
  g = forest_of t

  -- the node of one that is found alike
  pub kept_node : (m : List ℕ) → object_at t.objects (namespace_id m) ≡ object_at s.objects (namespace_id m) → node_of g m ≡ node_of f m
  kept_node m same = node_alike s t all.served all.serves all.excluded (λ name. all.others (hierarchy_id name) refl refl) m same

  -- that of one that keeps its place
  pub node_before : (m : List ℕ) (stays : StaysThere s t m) → node_of f m ≡ Some (node_in s.config.excluded s.objects stays.old)
  node_before m stays = node_of-objects s.config.excluded s.objects m all.served ∙ ap (option_map (node_in s.config.excluded s.objects)) stays.before

  pub node_then : (m : List ℕ) (stays : StaysThere s t m) → node_of g m ≡ Some (record (node_in s.config.excluded s.objects stays.old) { terminating = is_terminating stays.new.payload })
  node_then m stays =
      let same : stays.new.id ≡ stays.old.id = sym (found_id t.objects (namespace_id m) stays.new stays.after) ∙ found_id s.objects (namespace_id m) stays.old stays.before in
      let config : object_at t.objects (hierarchy_id stays.new.id.name) ≡ object_at s.objects (hierarchy_id stays.old.id.name) = all.others (hierarchy_id stays.new.id.name) refl refl ∙ ap (λ (q : Id). object_at s.objects (hierarchy_id q.name)) same in
      node_of-objects t.config.excluded t.objects m all.serves
      ∙ ap (option_map (node_in t.config.excluded t.objects)) stays.after
      ∙ (λ i. Some (record { parent = or_else (stays.keeps.annotation i) (option_and_then named_parent (config i)); terminating = is_terminating stays.new.payload; excluded = is_in ((same i).name) (all.excluded i) }))

  pub kept_live : (m : List ℕ) → object_at t.objects (namespace_id m) ≡ object_at s.objects (namespace_id m) → is_live g m ≡ is_live f m
  kept_live m same = ap (λ o. option_map_or (λ (node : Node). not node.terminating) o false) (kept_node m same)

  -- one that isn't on its way out then wasn't before
  live_before : (m : List ℕ) (stays : StaysThere s t m) → is_live g m ≡ true → is_live f m ≡ true
  live_before m stays lives =
      ap (λ o. option_map_or (λ (node : Node). not node.terminating) o false) (node_before m stays)
      ∙ by (is_terminating stays.old.payload) (is_terminating stays.new.payload) stays.keeps.phase (sym (ap (λ o. option_map_or (λ (node : Node). not node.terminating) o false) (node_then m stays)) ∙ lives)
    where
      by : (old new : Bool) → (old ≡ true → new ≡ true) → not new ≡ true → not old ≡ true
      by false new phase lives = refl
      by true new phase lives = sym (ap not (phase refl)) ∙ lives

  -- the same names and parents, and only fewer are live
  pub kept_quieter : IsQuieter f g
  kept_quieter = record {
    there = λ m. elim (all.homes m) [ inl same ↦ ap is_some (kept_node m same) | inr stays ↦ ap is_some (node_then m stays) ∙ sym (ap is_some (node_before m stays)) ];
    parent = λ m. elim (all.homes m) [
      | inl same ↦ ap (λ o. option_and_then (λ (node : Node). node.parent) o) (kept_node m same)
      | inr stays ↦ ap (λ o. option_and_then (λ (node : Node). node.parent) o) (node_then m stays) ∙ sym (ap (λ o. option_and_then (λ (node : Node). node.parent) o) (node_before m stays))
    ];
    excluded = λ m. elim (all.homes m) [
      | inl same ↦ ap (λ o. option_map_or (λ (node : Node). node.excluded) o false) (kept_node m same)
      | inr stays ↦ ap (λ o. option_map_or (λ (node : Node). node.excluded) o false) (node_then m stays) ∙ sym (ap (λ o. option_map_or (λ (node : Node). node.excluded) o false) (node_before m stays))
    ];
    live = λ m lives. elim (all.homes m) [ inl same ↦ sym (kept_live m same) ∙ lives | inr stays ↦ live_before m stays lives ];
  }
