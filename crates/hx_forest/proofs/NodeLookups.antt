-- A forest is values under names.
--     with_node-value, forest-values      with a node in its place, and of nodes in any order
--     node_of-with_node, ascends-with_node      after a node is put in its place
--     node_of-forest, ascends-forest, length-forest      the forest of entries
--     forest-put, forest-cut, forest-changed      after a change of them
use Rattle.std.proofs.Common.{◌≡◌, ℕ, true, cond, Some, None, List, [], ◌∷◌, length, Less, Equal, Greater, refl, sym, ap, ◌∙◌}
use Rattle.std.specs.List.{IsDistinct}
use Rattle.std.specs.Map.{keys_of, lookup}
use Rattle.std.specs.Str.{bytes_eq}
use Rattle.std.specs.FinMap.Entries.{by_order}
use Rattle.std.proofs.lemmas.Map.Lookups.{exact_bytes}
use Rattle.hx_object.specs.Texts.{bytes_cmp}
use Rattle.hx_model.specs.declared.node.Node.{Node}
use Rattle.hx_model.specs.Forest.{Forest, node_of, with_changed}
use Rattle.hx_model.specs.ForestChanges.{with_node, without_node, forest_from}
use Rattle.hx_forest.specs.Named.{with_value, values_from}
use Rattle.hx_forest.proofs.Named.{ascends, lookup-with_value, ascends-with_value, lookup-values, ascends-values, values-put, values-cut, values-changed, length-values}

pub with_node-value : (n : List ℕ) (node : Node) (f : Forest) → with_node n node f ≡ with_value n node f
with_node-value n node [] = refl
with_node-value n node (e ∷ f) =
    elim (bytes_cmp n e.0) as (λ o. bytes_cmp n e.0 ≡ o → by_order o ((n, node) ∷ e ∷ f) ((n, node) ∷ f) (e ∷ with_node n node f) ≡ by_order o ((n, node) ∷ e ∷ f) ((e.0, node) ∷ f) (e ∷ with_value n node f)) [
      | Less ↦ λ _. refl
      | Equal ↦ λ is. ap (λ (k : List ℕ). (k, node) ∷ f) (exact_bytes n e.0 is)
      | Greater ↦ λ _. ap (λ (g : Forest). e ∷ g) (with_node-value n node f)
    ] refl

pub forest-values : (es : List (List ℕ × Node)) → forest_from es ≡ values_from es
forest-values [] = refl
forest-values (e ∷ es) = with_node-value e.0 e.1 (forest_from es) ∙ ap (λ (g : Forest). with_value e.0 e.1 g) (forest-values es)

-- ---- with a node in its place

pub node_of-with_node : (n : List ℕ) (node : Node) (f : Forest) (q : List ℕ) → node_of (with_node n node f) q ≡ cond (bytes_eq q n) (Some node) (node_of f q)
node_of-with_node n node f q = ap (λ (g : Forest). node_of g q) (with_node-value n node f) ∙ lookup-with_value n node f q

pub ascends-with_node : (n : List ℕ) (node : Node) (f : Forest) → ascends f ≡ true → ascends (with_node n node f) ≡ true
ascends-with_node n node f h = ap (λ (g : Forest). ascends g) (with_node-value n node f) ∙ ascends-with_value n node f h

-- ---- of nodes in any order

pub node_of-forest : (es : List (List ℕ × Node)) (q : List ℕ) → node_of (forest_from es) q ≡ lookup (bytes_eq q) es
node_of-forest es q = ap (λ (g : Forest). node_of g q) (forest-values es) ∙ lookup-values es q

pub ascends-forest : (es : List (List ℕ × Node)) → ascends (forest_from es) ≡ true
ascends-forest es = ap (λ (g : Forest). ascends g) (forest-values es) ∙ ascends-values es

pub length-forest : (es : List (List ℕ × Node)) → IsDistinct bytes_eq (keys_of es) → length (forest_from es) ≡ length es
length-forest es distinct = ap (λ (g : Forest). length g) (forest-values es) ∙ length-values es distinct

-- after a node is kept, where each look-up says so
pub forest-put : (new old : List (List ℕ × Node)) (n : List ℕ) (node : Node) → ((q : List ℕ) → lookup (bytes_eq q) new ≡ cond (bytes_eq n q) (Some node) (lookup (bytes_eq q) old)) → forest_from new ≡ with_node n node (forest_from old)
forest-put new old n node is = forest-values new ∙ values-put new old n node is ∙ sym (forest-values ((n, node) ∷ old))

-- after one is dropped
pub forest-cut : (new old : List (List ℕ × Node)) (n : List ℕ) → ((q : List ℕ) → lookup (bytes_eq q) new ≡ cond (bytes_eq n q) None (lookup (bytes_eq q) old)) → forest_from new ≡ without_node n (forest_from old)
forest-cut new old n is = forest-values new ∙ values-cut new old n is ∙ ap (λ (g : Forest). without_node n g) (sym (forest-values old))

-- and after one is changed
pub forest-changed : (new old : List (List ℕ × Node)) (n : List ℕ) (change : Node → Node) (node : Node) → lookup (bytes_eq n) old ≡ Some node
    → ((q : List ℕ) → lookup (bytes_eq q) new ≡ cond (bytes_eq n q) (Some (change node)) (lookup (bytes_eq q) old)) → forest_from new ≡ with_changed n change (forest_from old)
forest-changed new old n change node there is = forest-values new ∙ values-changed new old n change node there is ∙ ap (λ (g : Forest). with_changed n change g) (sym (forest-values old))
