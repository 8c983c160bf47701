-- Walks up by indices.
--     by_name                   where a name lies that may be none, lies that name, or it isn't there
--     ends_index                how many nodes are passed: one more
--     to_index, to_found        after how many steps a name is come to: one more, and none where it lies there
--     to_begin, to_nowhere, to_none      the first step, a name that isn't there, and where there is no next one
--     names_index, names_begin      the names that are passed
--     named_place               the place at an index is that of the name there
use Rattle.std.specs.Prelude.{option_and_then, slice_get}
use Rattle.std.proofs.Common.{◌≡◌, ℕ, zero, suc, ◌+◌, ◌-◌, ◌<◌, Bool, true, false, cond, Option, Some, None, option_map, List, [], ◌∷◌, is_some, refl, sym, ap, ◌∙◌, true≢false}
use Rattle.std.specs.List.{IsDistinct}
use Rattle.std.specs.Map.{keys_of}
use Rattle.std.specs.Str.{bytes_eq}
use Rattle.std.proofs.lemmas.Option.{none-some, same_Some}
use Rattle.hx_model.specs.Forest.{Forest, is_there, parent_of}
use Rattle.hx_model.specs.Walks.{walk_to}
use Rattle.hx_model.proofs.Climbing.{is_same, same_itself}
use Rattle.hx_forest.specs.declared.nodes.Nodes.{Nodes}
use Rattle.hx_forest.specs.NodeTable.{Place}
use Rattle.hx_forest.specs.ParentRefs.{forest_of, node_in, place_of, index_at, name_in, place_in, parent_in}
use Rattle.hx_forest.specs.Inside.{nodes_end, walk_names}
use Rattle.hx_forest.proofs.Placing.{name_at_index, own_index}
use Rattle.hx_forest.proofs.ParentRefs.{node_there, place_at_name, place_there, node_above, kept_place}
use Rattle.hx_forest.proofs.Stepping.{counted_on, ends_on, to_on, to_out, to_here}
use Rattle.hx_forest.proofs.Passing.{names_on, names_none}

-- where a name lies that may be none lies that name, or it isn't there
by_name : (nodes : Nodes) (next : Option (List ℕ)) → {P : Type 0} → (name_in nodes (index_at nodes next) ≡ next → P)
    → ((n : List ℕ) → next ≡ Some n → is_there (forest_of nodes) n ≡ false → name_in nodes (index_at nodes next) ≡ None → P) → P
by_name nodes None there missing = there refl
by_name nodes (Some n) {P} there missing = by (index_at nodes (Some n)) refl
  where
    by : (o : Option ℕ) → index_at nodes (Some n) ≡ o → P
    by None none = missing n refl (ap is_some (node_there nodes n ∙ ap node_in (sym (place_at_name nodes (Some n)) ∙ ap (place_in nodes) none))) (ap (name_in nodes) none)
    by (Some i) at = there (ap (name_in nodes) at ∙ name_at_index nodes.places.entries n i at)

-- ---- how many nodes are passed

pub ends_index : (left : ℕ) (nodes : Nodes) (at above : Option ℕ) (passed : ℕ) → 0 < left → is_some (place_in nodes at) ≡ true → above ≡ index_at nodes (parent_in nodes at)
    → counted_on (passed + 1) (nodes_end (left - 1) (forest_of nodes) (node_in (place_in nodes above))) ≡ counted_on passed (nodes_end left (forest_of nodes) (node_in (place_in nodes at)))
ends_index left nodes at above passed pos there is = by (place_in nodes at) refl
  where
    by : (o : Option Place) → place_in nodes at ≡ o → counted_on (passed + 1) (nodes_end (left - 1) (forest_of nodes) (node_in (place_in nodes above))) ≡ counted_on passed (nodes_end left (forest_of nodes) (node_in (place_in nodes at)))
    by None none = absurd (true≢false (sym there ∙ ap is_some none))
    by (Some p) here =
        ap (λ o. counted_on (passed + 1) (nodes_end (left - 1) (forest_of nodes) o)) (node_above nodes at above p.node is (ap node_in here))
        ∙ ends_on left (forest_of nodes) (node_in (place_in nodes at)) p.node passed pos (ap node_in here)

-- ---- after how many steps a name is come to

pub to_none : (left : ℕ) (f : Forest) (a : List ℕ) → walk_to left f None a ≡ None
to_none zero f a = refl
to_none (suc left) f a = refl

pub to_begin : (left : ℕ) (nodes : Nodes) (next : Option (List ℕ)) (a : List ℕ) → walk_to left (forest_of nodes) (name_in nodes (index_at nodes next)) a ≡ walk_to left (forest_of nodes) next a
to_begin left nodes next a = by_name nodes next (ap (λ o. walk_to left (forest_of nodes) o a))
    (λ n is out none. ap (λ o. walk_to left (forest_of nodes) o a) none ∙ to_none left (forest_of nodes) a ∙ sym (to_out left (forest_of nodes) next n a is out))

-- one that isn't there is in no chain
pub to_nowhere : (left : ℕ) (nodes : Nodes) (next : Option (List ℕ)) (a : List ℕ) → index_at nodes (Some a) ≡ None → walk_to left (forest_of nodes) next a ≡ None
to_nowhere left nodes next a none = go left (forest_of nodes) next a (ap is_some (node_there nodes a ∙ ap node_in (sym (place_at_name nodes (Some a)) ∙ ap (place_in nodes) none)))
  where
    go : (left : ℕ) (f : Forest) (next : Option (List ℕ)) (a : List ℕ) → is_there f a ≡ false → walk_to left f next a ≡ None
    go zero f next a out = refl
    go (suc left) f None a out = refl
    go (suc left) f (Some n) a out = by (is_there f n) refl (bytes_eq n a) refl (go left f (parent_of f n) a out)
      where
        by : (t : Bool) → is_there f n ≡ t → (b : Bool) → bytes_eq n a ≡ b → walk_to left f (parent_of f n) a ≡ None → cond t (cond b (Some 0) (option_map (λ k. suc k) (walk_to left f (parent_of f n) a))) None ≡ None
        by false _ b _ _ = refl
        by true there true same _ = absurd (true≢false (sym there ∙ ap (is_there f) (is_same n a same) ∙ out))
        by true _ false _ rest = ap (option_map (λ (k : ℕ). suc k)) rest

pub to_found : (left : ℕ) (nodes : Nodes) (i : ℕ) (a : List ℕ) → 0 < left → index_at nodes (Some a) ≡ Some i → walk_to left (forest_of nodes) (name_in nodes (Some i)) a ≡ Some 0
to_found left nodes i a pos at = kept_place nodes a i at (λ p there _.
    to_here left (forest_of nodes) (name_in nodes (Some i)) a a pos (name_at_index nodes.places.entries a i at) (ap is_some (node_there nodes a ∙ ap node_in there)) (same_itself a))

pub to_index : (left : ℕ) (nodes : Nodes) (i e : ℕ) (above : Option ℕ) (a : List ℕ) → 0 < left → IsDistinct bytes_eq (keys_of nodes.places.entries) → index_at nodes (Some a) ≡ Some e → (i ≡ e → ⊥) → above ≡ index_at nodes (parent_in nodes (Some i))
    → walk_to left (forest_of nodes) (name_in nodes (Some i)) a ≡ option_map (λ k. suc k) (walk_to (left - 1) (forest_of nodes) (name_in nodes above) a)
to_index left nodes i e above a pos distinct at apart is = by (slice_get nodes.places.entries i) refl
  where
    f : Forest
    f = forest_of nodes

    by : (o : Option (List ℕ × Place)) → slice_get nodes.places.entries i ≡ o → walk_to left f (name_in nodes (Some i)) a ≡ option_map (λ k. suc k) (walk_to (left - 1) f (name_in nodes above) a)
    by None none =
        let up : above ≡ None = is ∙ ap (λ o. index_at nodes (option_and_then (λ (p : Place). p.node.parent) (option_map (λ (e : List ℕ × Place). e.1) o))) none in
        ap (λ o. walk_to left f (option_map (λ (e : List ℕ × Place). e.0) o) a) none ∙ to_none left f a
        ∙ sym (ap (λ o. option_map (λ k. suc k) (walk_to (left - 1) f (name_in nodes o) a)) up ∙ ap (option_map (λ (k : ℕ). suc k)) (to_none (left - 1) f a))
    by (Some m) here =
        let name : name_in nodes (Some i) ≡ Some m.0 = ap (option_map (λ (e : List ℕ × Place). e.0)) here in
        let place : place_of nodes m.0 ≡ Some m.1 = place_there nodes i m.0 m.1 distinct here in
        let up : above ≡ index_at nodes m.1.node.parent = is ∙ ap (λ o. index_at nodes (option_and_then (λ (p : Place). p.node.parent) (option_map (λ (e : List ℕ × Place). e.1) o))) here in
        to_on left f (name_in nodes (Some i)) m.0 a m.1.node pos name (node_there nodes m.0 ∙ ap node_in place) (other (bytes_eq m.0 a) refl)
        ∙ ap (option_map (λ (k : ℕ). suc k)) (sym (to_begin (left - 1) nodes m.1.node.parent a) ∙ ap (λ o. walk_to (left - 1) f (name_in nodes o) a) (sym up))
      where
        other : (b : Bool) → bytes_eq m.0 a ≡ b → bytes_eq m.0 a ≡ false
        other false out = out
        other true same = absurd (apart (same_Some i e (sym (own_index nodes.places.entries i m.0 m.1 distinct here) ∙ ap (λ (x : List ℕ). index_at nodes (Some x)) (is_same m.0 a same) ∙ at)))

-- ---- the names that are passed

pub names_begin : (left : ℕ) (nodes : Nodes) (next : Option (List ℕ)) → walk_names left (forest_of nodes) (name_in nodes (index_at nodes next)) ≡ walk_names left (forest_of nodes) next
names_begin left nodes next = by_name nodes next (ap (walk_names left (forest_of nodes)))
    (λ n is out none. ap (walk_names left (forest_of nodes)) none ∙ names_none left (forest_of nodes) ∙ sym (ap (walk_names left (forest_of nodes)) is ∙ stop left n out))
  where
    stop : (k : ℕ) (n : List ℕ) → is_there (forest_of nodes) n ≡ false → walk_names k (forest_of nodes) (Some n) ≡ []
    stop zero n out = refl
    stop (suc k) n out = ap (λ b. cond b (n ∷ walk_names k (forest_of nodes) (parent_of (forest_of nodes) n)) []) out

pub names_index : (left : ℕ) (nodes : Nodes) (at above : Option ℕ) (n : List ℕ) → 0 < left → IsDistinct bytes_eq (keys_of nodes.places.entries) → name_in nodes at ≡ Some n → above ≡ index_at nodes (parent_in nodes at)
    → walk_names left (forest_of nodes) (name_in nodes at) ≡ n ∷ walk_names (left - 1) (forest_of nodes) (name_in nodes above)
names_index left nodes None above n pos distinct here is = absurd (none-some n here)
names_index left nodes (Some i) above n pos distinct here is = by (slice_get nodes.places.entries i) refl
  where
    by : (o : Option (List ℕ × Place)) → slice_get nodes.places.entries i ≡ o → walk_names left (forest_of nodes) (name_in nodes (Some i)) ≡ n ∷ walk_names (left - 1) (forest_of nodes) (name_in nodes above)
    by None none = absurd (none-some n (sym (ap (option_map (λ (e : List ℕ × Place). e.0)) none) ∙ here))
    by (Some m) there =
        let name : m.0 ≡ n = same_Some m.0 n (sym (ap (option_map (λ (e : List ℕ × Place). e.0)) there) ∙ here) in
        let place : place_of nodes n ≡ Some m.1 = ap (place_of nodes) (sym name) ∙ place_there nodes i m.0 m.1 distinct there in
        let up : above ≡ index_at nodes m.1.node.parent = is ∙ ap (λ o. index_at nodes (option_and_then (λ (p : Place). p.node.parent) (option_map (λ (e : List ℕ × Place). e.1) o))) there in
        ap (walk_names left (forest_of nodes)) here
        ∙ names_on left nodes n m.1 pos place
        ∙ ap (λ xs. n ∷ xs) (sym (names_begin (left - 1) nodes m.1.node.parent) ∙ ap (λ o. walk_names (left - 1) (forest_of nodes) (name_in nodes o)) (sym up))

-- ---- what lies at an index

-- the place at an index is that of the name there
pub named_place : (nodes : Nodes) (at : Option ℕ) (n : List ℕ) → IsDistinct bytes_eq (keys_of nodes.places.entries) → name_in nodes at ≡ Some n → place_in nodes at ≡ place_of nodes n
named_place nodes None n distinct here = absurd (none-some n here)
named_place nodes (Some i) n distinct here = by (slice_get nodes.places.entries i) refl
  where
    by : (o : Option (List ℕ × Place)) → slice_get nodes.places.entries i ≡ o → place_in nodes (Some i) ≡ place_of nodes n
    by None none = absurd (none-some n (sym (ap (option_map (λ (e : List ℕ × Place). e.0)) none) ∙ here))
    by (Some m) there =
        let name : m.0 ≡ n = same_Some m.0 n (sym (ap (option_map (λ (e : List ℕ × Place). e.0)) there) ∙ here) in
        ap (option_map (λ (e : List ℕ × Place). e.1)) there ∙ sym (ap (place_of nodes) (sym name) ∙ place_there nodes i m.0 m.1 distinct there)
