-- ParentRefs up, after a place has changed.
--     parent_refs_set, parent_refs_add, parent_refs_cut            one is changed, added, taken out
--     up_by_number                            a way that was just found
--     node_there, node_at_there               the node of a name is that of its place
--     absent_place, among_places, among_indices     a name that isn't there, and one that is
--     place_at_name, node_at_name             what lies where a name lies
--     parent_ref_index, step_index                   a way comes to where the parent lies
--     node_above, parent_there, parent_at_name      what lies above a node
--     place_there, kept_place                 a place at an index, and under its name
--     parent_refs_changed, nodes_changed, nodes_same        the place at an index is changed
--     put_nodes, cut_nodes, changed_nodes     the forest then
use Rattle.std.specs.Prelude.{is_some, option_and_then, slice_get}
use Rattle.std.specs.List.{IsDistinct}
use Rattle.std.proofs.Common.{◌≡◌, ℕ, suc, ◌<◌, ◌≤◌, Bool, true, false, cond, List, [], ◌∷◌, length, Option, Some, None, option_map, refl, sym, ap, subst, ◌∙◌, arith, true≢false}
use Rattle.std.specs.Map.{keys_of, lookup}
use Rattle.std.specs.Option.{option_map_or}
use Rattle.std.specs.Str.{bytes_eq}
use Rattle.std.proofs.lemmas.Cmp.{nat_list_eq_equiv}
use Rattle.std.proofs.lemmas.Map.Entries.{lookup_from_place}
use Rattle.std.proofs.lemmas.Option.{same_Some, none-some}
use Rattle.hx_model.specs.declared.node.Node.{Node}
use Rattle.hx_model.specs.Forest.{is_there, node_of, parent_of, with_changed}
use Rattle.hx_model.specs.ForestChanges.{with_node, without_node, forest_from}
use Rattle.hx_model.proofs.Climbing.{is_same}
use Rattle.hx_forest.specs.declared.nodes.Nodes.{Nodes}
use Rattle.hx_forest.specs.declared.node_table.Step.{Step}
use Rattle.hx_forest.specs.declared.node_table.ParentRef.{ParentRef}
use Rattle.hx_forest.specs.NodeTable.{Place, step_of, entry_in, changed_at}
use Rattle.hx_forest.specs.Inside.{node_at}
use Rattle.hx_forest.specs.ParentRefs.{nodes_of, place_of, place_at, node_in, forest_of, index_at, place_in, parent_in, IsAt, LeadsUp, LeadUp, AllLeadUp}
use Rattle.hx_forest.proofs.Placing.{place_at_index, name_at_index, own_index, look_changed}
use Rattle.hx_forest.proofs.Named.{same_values}
use Rattle.hx_forest.proofs.NodeLookups.{ascends-forest, forest-put, forest-cut, forest-changed, node_of-forest}

-- ---- ways

module _ (old new : List ℕ → Option Place) (n : List ℕ) (w : Option Place) (is : (q : List ℕ) → new q ≡ cond (bytes_eq n q) w (old q)) where
  -- a place is the one that changed, or is as it was
  pub either : {P : Type 0} (b : List ℕ) (q : Place) → new b ≡ Some q → (n ≡ b → w ≡ Some q → P) → (old b ≡ Some q → P) → P
  either {P} b q e here there = by (bytes_eq n b) refl (sym (is b) ∙ e)
    where
      by : (t : Bool) → bytes_eq n b ≡ t → cond t w (old b) ≡ Some q → P
      by true same h = here (is_same n b same) h
      by false _ h = there h

  parent_refs_by : (d e : ℕ) → LeadUp old d → d ≤ e → ((p : Place) → p.up.number ≤ d → LeadsUp old p → LeadsUp new p)
      → ((q : Place) → w ≡ Some q → (q.number ≤ e) × (q.up.number ≤ d) × LeadsUp old q)
      → ((b : List ℕ) (p q : Place) → w ≡ Some p → old b ≡ Some q → 0 < p.number → p.number ≡ q.number → n ≡ b)
      → LeadUp new e
  parent_refs_by d e links more onward fine mine = record {
    ups = λ a p h. either a p h (λ _ g. onward p (fine p g).1 (fine p g).2) (λ g. onward p (links.parent_refs a p g) (links.ups a p g));
    own = λ a b p q h k pos same. either a p h
        (λ na g. either b q k (λ nb _. sym na ∙ nb) (λ m. sym na ∙ mine b p q g m pos same))
        (λ g. either b q k (λ nb m. sym (mine a q p m g (subst (λ (i : ℕ). 0 < i) same pos) (sym same)) ∙ nb) (λ m. links.own a b p q g m pos same));
    numbers = λ a p h. either a p h (λ _ g. (fine p g).0) (λ g. let few = links.numbers a p g in omega (arith, few));
    parent_refs = λ a p h. either a p h (λ _ g. let few = (fine p g).1 in omega (arith, few)) (λ g. let few = links.parent_refs a p g in omega (arith, few));
  }

-- a place that keeps its number
pub parent_refs_set : (old new : List ℕ → Option Place) (d : ℕ) (n : List ℕ) (was place : Place) → ((q : List ℕ) → new q ≡ cond (bytes_eq n q) (Some place) (old q)) → old n ≡ Some was → place.number ≡ was.number
    → place.up.number ≤ d → LeadsUp old place → LeadUp old d → LeadUp new d
parent_refs_set old new d n was place is there number small up links = parent_refs_by old new n (Some place) is d d links (omega arith) onward fine mine
  where
    onward : (p : Place) → p.up.number ≤ d → LeadsUp old p → LeadsUp new p
    onward p _ h b q e pos parent_ref = either old new n (Some place) is b q e
        (λ nb g.
        let same : was.number ≡ q.number = sym number ∙ ap (λ (x : Place). x.number) (same_Some place q g) in
        h n was there (subst (λ (i : ℕ). 0 < i) (sym same) pos) (parent_ref ∙ sym same) ∙ ap Some nb)
        (λ g. h b q g pos parent_ref)

    fine : (q : Place) → Some place ≡ Some q → (q.number ≤ d) × (q.up.number ≤ d) × LeadsUp old q
    fine q e =
        let few : place.number ≤ d = subst (λ (i : ℕ). i ≤ d) (sym number) (links.numbers n was there) in
        subst (λ (x : Place). (x.number ≤ d) × (x.up.number ≤ d) × LeadsUp old x) (same_Some place q e) (few, small, up)

    mine : (b : List ℕ) (p q : Place) → Some place ≡ Some p → old b ≡ Some q → 0 < p.number → p.number ≡ q.number → n ≡ b
    mine b p q e h pos same =
        let mark : p.number ≡ was.number = ap (λ (x : Place). x.number) (sym (same_Some place p e)) ∙ number in
        links.own n b was q there h (subst (λ (i : ℕ). 0 < i) mark pos) (sym mark ∙ same)

-- one with a new number
pub parent_refs_add : (old new : List ℕ → Option Place) (d e : ℕ) (n : List ℕ) (place : Place) → ((q : List ℕ) → new q ≡ cond (bytes_eq n q) (Some place) (old q)) → d ≤ e → place.number ≤ e → (0 < place.number → d < place.number)
    → place.up.number ≤ d → LeadsUp old place → LeadUp old d → LeadUp new e
parent_refs_add old new d e n place is more few fresh small up links = parent_refs_by old new n (Some place) is d e links more onward fine mine
  where
    onward : (p : Place) → p.up.number ≤ d → LeadsUp old p → LeadsUp new p
    onward p less h b q e pos parent_ref = either old new n (Some place) is b q e
        (λ nb g.
        let same : place.number ≡ q.number = ap (λ (x : Place). x.number) (same_Some place q g) in
        let late = fresh (subst (λ (i : ℕ). 0 < i) (sym same) pos) in
        absurd (omega (arith, less, parent_ref, same, late)))
        (λ g. h b q g pos parent_ref)

    fine : (q : Place) → Some place ≡ Some q → (q.number ≤ e) × (q.up.number ≤ d) × LeadsUp old q
    fine q h = subst (λ (x : Place). (x.number ≤ e) × (x.up.number ≤ d) × LeadsUp old x) (same_Some place q h) (few, small, up)

    mine : (b : List ℕ) (p q : Place) → Some place ≡ Some p → old b ≡ Some q → 0 < p.number → p.number ≡ q.number → n ≡ b
    mine b p q h g pos same =
        let mark : place.number ≡ p.number = ap (λ (x : Place). x.number) (same_Some place p h) in
        let late = fresh (subst (λ (i : ℕ). 0 < i) (sym mark) pos) in
        let early = links.numbers b q g in
        absurd (omega (arith, mark, late, early, same))

pub parent_refs_cut : (old new : List ℕ → Option Place) (d : ℕ) (n : List ℕ) → ((q : List ℕ) → new q ≡ cond (bytes_eq n q) None (old q)) → LeadUp old d → LeadUp new d
parent_refs_cut old new d n is links = parent_refs_by old new n None is d d links (omega arith)
    (λ p _ h b q e pos parent_ref. either old new n None is b q e (λ _ g. absurd (none-some q g)) (λ g. h b q g pos parent_ref))
    (λ q g. absurd (none-some q g)) (λ b p q g. absurd (none-some p g))

-- a way that was just found
pub up_by_number : (at : List ℕ → Option Place) (d : ℕ) (p : Place) → p.up.number ≡ option_map_or (λ q. q.number) (option_and_then at p.node.parent) 0 → LeadUp at d → LeadsUp at p × (p.up.number ≤ d)
up_by_number at d p is links = by p.node.parent refl
  where
    by : (o : Option (List ℕ)) → p.node.parent ≡ o → LeadsUp at p × (p.up.number ≤ d)
    by None none =
        let zero_parent_ref : p.up.number ≡ 0 = is ∙ ap (λ (o : Option (List ℕ)). option_map_or (λ q. q.number) (option_and_then at o) 0) none in
        ((λ b q h pos parent_ref. absurd (omega (arith, zero_parent_ref, parent_ref, pos))), omega (arith, zero_parent_ref))
    by (Some n) some = found (at n) refl
      where
        found : (o : Option Place) → at n ≡ o → LeadsUp at p × (p.up.number ≤ d)
        found None none =
            let zero_parent_ref : p.up.number ≡ 0 = is ∙ ap (λ (o : Option (List ℕ)). option_map_or (λ q. q.number) (option_and_then at o) 0) some ∙ ap (λ (o : Option Place). option_map_or (λ q. q.number) o 0) none in
            ((λ b q h pos parent_ref. absurd (omega (arith, zero_parent_ref, parent_ref, pos))), omega (arith, zero_parent_ref))
        found (Some r) there =
            let parent_ref_to : p.up.number ≡ r.number = is ∙ ap (λ (o : Option (List ℕ)). option_map_or (λ q. q.number) (option_and_then at o) 0) some ∙ ap (λ (o : Option Place). option_map_or (λ q. q.number) o 0) there in
            let few = links.numbers n r there in
            ((λ b q h pos parent_ref. some ∙ ap Some (links.own n b r q there h (omega (arith, parent_ref_to, parent_ref, pos)) (sym parent_ref_to ∙ parent_ref))), omega (arith, parent_ref_to, few))

-- ---- the forest

pub node_among : (es : List (List ℕ × Place)) (q : List ℕ) → lookup (bytes_eq q) (nodes_of es) ≡ option_map (λ p. p.node) (lookup (bytes_eq q) es)
node_among [] q = refl
node_among (e ∷ es) q = elim (bytes_eq q e.0) as (λ b. cond b (Some e.1.node) (lookup (bytes_eq q) (nodes_of es)) ≡ option_map (λ (p : Place). p.node) (cond b (Some e.1) (lookup (bytes_eq q) es))) [
  | true ↦ refl
  | false ↦ node_among es q
]

-- the node of a name is that of its place
pub node_there : (nodes : Nodes) (n : List ℕ) → node_of (forest_of nodes) n ≡ option_map (λ p. p.node) (place_of nodes n)
node_there nodes n = node_of-forest (nodes_of nodes.places.entries) n ∙ node_among nodes.places.entries n

pub absent_place : (nodes : Nodes) (n : List ℕ) → is_there (forest_of nodes) n ≡ false → place_of nodes n ≡ None
absent_place nodes n out = by (place_of nodes n) (sym (ap is_some (node_there nodes n)) ∙ out)
  where
    by : (o : Option Place) → is_some (option_map (λ p. p.node) o) ≡ false → o ≡ None
    by None _ = refl
    by (Some p) some = absurd (true≢false some)

pub among_places : (nodes : Nodes) (n : List ℕ) → is_there (forest_of nodes) n ≡ true → place_of nodes n ≡ None → ⊥
among_places nodes n there none = true≢false (sym there ∙ ap is_some (node_there nodes n ∙ ap (option_map (λ (p : Place). p.node)) none))

-- a name that is there lies somewhere
pub among_indices : (nodes : Nodes) (n : List ℕ) → is_there (forest_of nodes) n ≡ true → index_at nodes (Some n) ≡ None → ⊥
among_indices nodes n there none = among_places nodes n there (sym (place_at_index nodes.places.entries n) ∙ ap (λ o. option_map (λ (e : List ℕ × Place). e.1) (entry_in nodes.places.entries o)) none)

pub same_keys : (es : List (List ℕ × Place)) → keys_of (nodes_of es) ≡ keys_of es
same_keys [] = refl
same_keys (e ∷ es) = ap (λ ks. e.0 ∷ ks) (same_keys es)

pub same_count : (es : List (List ℕ × Place)) → length (nodes_of es) ≡ length es
same_count [] = refl
same_count (e ∷ es) = ap (λ k. suc k) (same_count es)

module _ (new old : List (List ℕ × Place)) (n : List ℕ) where
  look : (w : Option Place) → ((q : List ℕ) → lookup (bytes_eq q) new ≡ cond (bytes_eq n q) w (lookup (bytes_eq q) old))
      → (q : List ℕ) → lookup (bytes_eq q) (nodes_of new) ≡ cond (bytes_eq n q) (option_map (λ p. p.node) w) (lookup (bytes_eq q) (nodes_of old))
  look w is q = node_among new q ∙ ap (option_map (λ (p : Place). p.node)) (is q) ∙ by (bytes_eq n q)
    where
      by : (b : Bool) → option_map (λ (p : Place). p.node) (cond b w (lookup (bytes_eq q) old)) ≡ cond b (option_map (λ p. p.node) w) (lookup (bytes_eq q) (nodes_of old))
      by true = refl
      by false = sym (node_among old q)

  pub put_nodes : (place : Place) → ((q : List ℕ) → lookup (bytes_eq q) new ≡ cond (bytes_eq n q) (Some place) (lookup (bytes_eq q) old)) → forest_from (nodes_of new) ≡ with_node n place.node (forest_from (nodes_of old))
  put_nodes place is = forest-put (nodes_of new) (nodes_of old) n place.node (look (Some place) is)

  pub cut_nodes : ((q : List ℕ) → lookup (bytes_eq q) new ≡ cond (bytes_eq n q) None (lookup (bytes_eq q) old)) → forest_from (nodes_of new) ≡ without_node n (forest_from (nodes_of old))
  cut_nodes is = forest-cut (nodes_of new) (nodes_of old) n (look None is)

  -- a place whose node stays
  pub same_nodes : (was place : Place) → lookup (bytes_eq n) old ≡ Some was → place.node ≡ was.node → ((q : List ℕ) → lookup (bytes_eq q) new ≡ cond (bytes_eq n q) (Some place) (lookup (bytes_eq q) old))
      → forest_from (nodes_of new) ≡ forest_from (nodes_of old)
  same_nodes was place there node is = same_values (forest_from (nodes_of new)) (forest_from (nodes_of old)) (ascends-forest (nodes_of new)) (ascends-forest (nodes_of old)) (λ q.
      node_of-forest (nodes_of new) q ∙ look (Some place) is q ∙ at q (bytes_eq n q) refl ∙ sym (node_of-forest (nodes_of old) q))
    where
      at : (q : List ℕ) (b : Bool) → bytes_eq n q ≡ b → cond b (Some place.node) (lookup (bytes_eq q) (nodes_of old)) ≡ lookup (bytes_eq q) (nodes_of old)
      at q true same = ap Some node ∙ sym (ap (λ (m : List ℕ). lookup (bytes_eq m) (nodes_of old)) (sym (is_same n q same)) ∙ node_among old n ∙ ap (option_map (λ (p : Place). p.node)) there)
      at q false out = refl

  pub changed_nodes : (change : Node → Node) (was place : Place) → lookup (bytes_eq n) old ≡ Some was → place.node ≡ change was.node
      → ((q : List ℕ) → lookup (bytes_eq q) new ≡ cond (bytes_eq n q) (Some place) (lookup (bytes_eq q) old)) → forest_from (nodes_of new) ≡ with_changed n change (forest_from (nodes_of old))
  changed_nodes change was place there node is = forest-changed (nodes_of new) (nodes_of old) n change was.node (node_among old n ∙ ap (option_map (λ (p : Place). p.node)) there)
      (λ q. look (Some place) is q ∙ ap (λ (x : Node). cond (bytes_eq n q) (Some x) (lookup (bytes_eq q) (nodes_of old))) node)

-- the node of a name that may be none
pub node_at_there : (nodes : Nodes) (next : Option (List ℕ)) → node_at (forest_of nodes) next ≡ node_in (place_at nodes next)
node_at_there nodes None = refl
node_at_there nodes (Some n) = node_there nodes n

-- ---- indices

-- what lies where a name lies
pub place_at_name : (nodes : Nodes) (next : Option (List ℕ)) → place_in nodes (index_at nodes next) ≡ place_at nodes next
place_at_name nodes None = refl
place_at_name nodes (Some n) = place_at_index nodes.places.entries n

pub node_at_name : (nodes : Nodes) (next : Option (List ℕ)) → node_in (place_in nodes (index_at nodes next)) ≡ node_at (forest_of nodes) next
node_at_name nodes next = ap node_in (place_at_name nodes next) ∙ sym (node_at_there nodes next)

-- a place that lies at an index lies there with its name
named : (nodes : Nodes) (at : Option ℕ) (p : Place) → place_in nodes at ≡ Some p → {P : Type 0} → ((i : ℕ) (n : List ℕ) → at ≡ Some i → slice_get nodes.places.entries i ≡ Some (n, p) → P) → P
named nodes None p is then = absurd (none-some p is)
named nodes (Some i) p is {P} then = by (slice_get nodes.places.entries i) refl is
  where
    by : (o : Option (List ℕ × Place)) → slice_get nodes.places.entries i ≡ o → option_map (λ e. e.1) o ≡ Some p → P
    by None _ none = absurd (none-some p none)
    by (Some e) there same = then i (e.0) refl (there ∙ ap (λ (x : Place). Some (e.0, x)) (same_Some e.1 p same))

-- it is found by that name
pub place_there : (nodes : Nodes) (i : ℕ) (n : List ℕ) (p : Place) → IsDistinct bytes_eq (keys_of nodes.places.entries) → slice_get nodes.places.entries i ≡ Some (n, p) → place_of nodes n ≡ Some p
place_there nodes i n p distinct there = lookup_from_place nat_list_eq_equiv nodes.places.entries i n p distinct there

-- a way that comes to a place of its number comes to where the parent lies
pub parent_ref_index : (nodes : Nodes) (at : Option ℕ) (p : Place) (j : ℕ) → IsDistinct bytes_eq (keys_of nodes.places.entries) → AllLeadUp nodes → place_in nodes at ≡ Some p → IsAt nodes p.up j → index_at nodes p.node.parent ≡ Some j
parent_ref_index nodes at p j distinct links here parent_ref = named nodes at p here (λ i n _ there. named nodes (Some j) parent_ref.place parent_ref.is (λ k b same above.
    let above_at : slice_get nodes.places.entries j ≡ Some (b, parent_ref.place) = ap (slice_get nodes.places.entries) (same_Some j k same) ∙ above in
    let parent : p.node.parent ≡ Some b = links.ups n p (place_there nodes i n p distinct there) b parent_ref.place (place_there nodes j b parent_ref.place distinct above_at)
    (subst (λ (x : ℕ). 0 < x) (sym parent_ref.number) parent_ref.some) (sym parent_ref.number) in
    ap (index_at nodes) parent ∙ own_index nodes.places.entries j b parent_ref.place distinct above_at))

parent_named : (o : Option Place) (node : Node) → node_in o ≡ Some node → option_and_then (λ p. p.node.parent) o ≡ node.parent
parent_named None node is = absurd (none-some node is)
parent_named (Some p) node is = ap (λ (x : Node). x.parent) (same_Some p.node node is)

-- what the node at an index names as its parent
pub parent_there : (nodes : Nodes) (at : Option ℕ) (node : Node) → node_in (place_in nodes at) ≡ Some node → parent_in nodes at ≡ node.parent
parent_there nodes at node is = parent_named (place_in nodes at) node is

pub parent_at_name : (nodes : Nodes) (n : List ℕ) (i : ℕ) → index_at nodes (Some n) ≡ Some i → parent_of (forest_of nodes) n ≡ parent_in nodes (Some i)
parent_at_name nodes n i at = ap (option_and_then (λ (node : Node). node.parent)) (node_there nodes n ∙ ap node_in (sym (place_at_name nodes (Some n)) ∙ ap (place_in nodes) at)) ∙ by (place_in nodes (Some i))
  where
    by : (o : Option Place) → option_and_then (λ (node : Node). node.parent) (node_in o) ≡ option_and_then (λ p. p.node.parent) o
    by None = refl
    by (Some p) = refl

-- a step goes to where the parent lies
pub step_index : (nodes : Nodes) (at : Option ℕ) (step : Step) (j : ℕ) → IsDistinct bytes_eq (keys_of nodes.places.entries) → AllLeadUp nodes → Some step ≡ option_map (λ e. step_of e.1) (entry_in nodes.places.entries at) → IsAt nodes step.up j
    → Some j ≡ index_at nodes (parent_in nodes at)
step_index nodes at step j distinct links is parent_ref = by (entry_in nodes.places.entries at) refl is
  where
    by : (o : Option (List ℕ × Place)) → entry_in nodes.places.entries at ≡ o → Some step ≡ option_map (λ e. step_of e.1) o → Some j ≡ index_at nodes (parent_in nodes at)
    by None _ same = absurd (none-some step (sym same))
    by (Some e) here same =
        let p = e.1 in
        let lies : place_in nodes at ≡ Some p = ap (option_map (λ (e : List ℕ × Place). e.1)) here in
        let up : step.up ≡ p.up = ap (λ (s : Step). s.up) (same_Some step (step_of p) same) in
        sym (ap (λ o. index_at nodes (option_and_then (λ (p : Place). p.node.parent) o)) lies ∙ parent_ref_index nodes at p j distinct links lies (subst (λ (u : ParentRef). IsAt nodes u j) up parent_ref))

-- the node above it
pub node_above : (nodes : Nodes) (at above : Option ℕ) (node : Node) → above ≡ index_at nodes (parent_in nodes at) → node_in (place_in nodes at) ≡ Some node → node_in (place_in nodes above) ≡ node_at (forest_of nodes) node.parent
node_above nodes at above node is here = ap (λ (o : Option ℕ). node_in (place_in nodes o)) (is ∙ ap (index_at nodes) (parent_there nodes at node here)) ∙ node_at_name nodes node.parent

-- a name that lies at an index has a place
pub kept_place : (nodes : Nodes) (n : List ℕ) (i : ℕ) → index_at nodes (Some n) ≡ Some i → {P : Type 0} → ((p : Place) → place_of nodes n ≡ Some p → place_in nodes (Some i) ≡ Some p → P) → P
kept_place nodes n i at {P} then = by (slice_get nodes.places.entries i) refl
  where
    name : option_map (λ e. e.0) (slice_get nodes.places.entries i) ≡ Some n
    name = name_at_index nodes.places.entries n i at

    by : (o : Option (List ℕ × Place)) → slice_get nodes.places.entries i ≡ o → P
    by None none = absurd (none-some n (sym (ap (option_map (λ (e : List ℕ × Place). e.0)) none) ∙ name))
    by (Some e) there =
        let lies : place_in nodes (Some i) ≡ Some e.1 = ap (option_map (λ (e : List ℕ × Place). e.1)) there in
        then e.1 (sym (place_at_name nodes (Some n)) ∙ ap (place_in nodes) at ∙ lies) lies

-- ---- the place at an index is changed

module _ (old new : Nodes) (n : List ℕ) (i : ℕ) (change : Place → Place) (at : index_at old (Some n) ≡ Some i) (is : new.places.entries ≡ changed_at change i old.places.entries) where
  pub look_new : (p : Place) → place_of old n ≡ Some p → (q : List ℕ) → place_of new q ≡ cond (bytes_eq n q) (Some (change p)) (place_of old q)
  look_new p there q = ap (lookup (bytes_eq q)) is ∙ look_changed change old.places.entries n i p at there q

  pub parent_refs_changed : new.drawn ≡ old.drawn → ((p : Place) → (change p).number ≡ p.number) → ((p : Place) → place_of old n ≡ Some p → ((change p).up.number ≤ old.drawn) × LeadsUp (place_of old) (change p)) → AllLeadUp old → AllLeadUp new
  parent_refs_changed drawn number fine links = kept_place old n i at (λ p there _.
      subst (LeadUp (place_of new)) (sym drawn)
      (parent_refs_set (place_of old) (place_of new) old.drawn n p (change p) (look_new p there) there (number p) (fine p there).0 (fine p there).1 links))

  pub nodes_changed : (make : Node → Node) → ((p : Place) → (change p).node ≡ make p.node) → forest_of new ≡ with_changed n make (forest_of old)
  nodes_changed make same = kept_place old n i at (λ p there _. changed_nodes new.places.entries old.places.entries n make p (change p) there (same p) (look_new p there))

  pub nodes_same : ((p : Place) → (change p).node ≡ p.node) → forest_of new ≡ forest_of old
  nodes_same same = kept_place old n i at (λ p there _. same_nodes new.places.entries old.places.entries n p (change p) there (same p) (look_new p there))
