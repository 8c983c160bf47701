-- Changes of a forest that code makes and no rule looks at.
--     with_node, without_node      with a namespace in its place;  without it
--     with_terminating             with a namespace on its way out
--     forest_from                  the forest of nodes in any order
use Rattle.std.specs.Prelude.{ℕ, true, not, List, [], ◌∷◌, filter}
use Rattle.std.specs.Str.{bytes_eq}
use Rattle.std.specs.FinMap.Entries.{by_order}
use Rattle.hx_object.specs.Texts.{bytes_cmp}
use Rattle.hx_model.specs.declared.node.Node.{Node}
use Rattle.hx_model.specs.Forest.{Forest, with_changed}

-- the forest with a node in its place, instead of one of its name
abbrev pub with_node : List ℕ → Node → Forest → Forest
with_node n node [] = (n, node) ∷ []
with_node n node (e ∷ f) = by_order (bytes_cmp n e.0) ((n, node) ∷ e ∷ f) ((n, node) ∷ f) (e ∷ with_node n node f)

-- the forest of nodes in any order: of two with one name the first one counts
abbrev pub forest_from : List (List ℕ × Node) → Forest
forest_from [] = []
forest_from (e ∷ es) = with_node e.0 e.1 (forest_from es)

-- without a namespace
abbrev pub without_node : List ℕ → Forest → Forest
without_node n f = filter (λ e. not (bytes_eq n e.0)) f

abbrev pub with_terminating : List ℕ → Forest → Forest
with_terminating n f = with_changed n (λ node. record node { terminating = true }) f
