-- The labels by which a namespace tells its ancestors (HNC user guide, "Hierarchical labels").
--     tree_labels_of chain       for each member of a chain its name, how far it is, under its key
--     prescribed_labels chain labels   a namespace's own labels, with those of the tree that its chain prescribes
--     is_open s n                the namespace takes part: it is there and not on its way out, and neither excluded nor halted
use Rattle.std.specs.Prelude.{ℕ, suc, Bool, not, ◌&&◌, List, [], ◌∷◌, ◌++◌, codes, filter, is_none}
use Rattle.std.specs.Fmt.{decimal}
use Rattle.hx_object.specs.Pairs.{with_pair}
use Rattle.hx_object.specs.Sizes.{is_tree_key}
use Rattle.hx_object.specs.WellKnown.{tree_suffix, included_namespace}
use Rattle.hx_model.specs.Forest.{Forest, is_live, is_excluded, halt_of}

-- the key of the label that tells an ancestor
abbrev pub tree_key : List ℕ → List ℕ
tree_key a = a ++ tree_suffix

-- the labels of the members of a chain, the first of which is so far away
abbrev pub tree_labels_from : ℕ → List (List ℕ) → List (List ℕ × List ℕ)
tree_labels_from far [] = []
tree_labels_from far (a ∷ chain) = (tree_key a, decimal far) ∷ tree_labels_from (suc far) chain

abbrev pub tree_labels_of : List (List ℕ) → List (List ℕ × List ℕ)
tree_labels_of chain = tree_labels_from 0 chain

-- labels with others in their places
abbrev pub with_pairs : List (List ℕ × List ℕ) → List (List ℕ × List ℕ) → List (List ℕ × List ℕ)
with_pairs [] labels = labels
with_pairs (pair ∷ pairs) labels = with_pair pair.0 pair.1 (with_pairs pairs labels)

-- the labels that aren't the tree's
abbrev pub own_labels : List (List ℕ × List ℕ) → List (List ℕ × List ℕ)
own_labels labels = filter (λ pair. not (is_tree_key pair.0)) labels

-- its own labels, the one of a namespace that takes part, and those of the tree
abbrev pub prescribed_labels : List (List ℕ) → List (List ℕ × List ℕ) → List (List ℕ × List ℕ)
prescribed_labels chain labels = with_pairs (tree_labels_of chain) (with_pair included_namespace (codes "true") (own_labels labels))

-- there and not on its way out, included, and not halted
abbrev pub is_open : Forest → List ℕ → Bool
is_open f n = is_live f n && (not (is_excluded f n) && is_none (halt_of f n))
