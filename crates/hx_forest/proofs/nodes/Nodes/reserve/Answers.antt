use Rattle.std.proofs.Common.{List, ℕ, sym, subst, ◌≡◌, Some}
use Rattle.std.specs.Map.{lookup}
use Rattle.std.specs.Str.{bytes_eq}
use Rattle.hx_model.specs.ForestChanges.{forest_from}
use Rattle.hx_forest.specs.NodeTable.{Place}
use Rattle.hx_forest.specs.ParentRefs.{LeadUp, nodes_of}
use Rattle.hx_forest.specs.Notes.{IsNoted}
use Rattle.hx_forest.proofs.nodes.Nodes.reserve.Goals as goal

pub returns-clause-parent_refs : goal.returns-clause-parent_refs
returns-clause-parent_refs c = subst (λ (es : List (List ℕ × Place)). LeadUp (λ n. lookup (bytes_eq n) es) c.args.self.now.drawn) (sym c.reserve.ensures.entries)

pub returns-clause-notes : goal.returns-clause-notes
returns-clause-notes c = λ notes. record {
  each = subst (λ (es : List (List ℕ × Place)). (n : List ℕ) (p : Place) → lookup (bytes_eq n) es ≡ Some p → IsNoted c.args.self.now.epoch (forest_from (nodes_of es)) n p) (sym c.reserve.ensures.entries) notes.each;
}
