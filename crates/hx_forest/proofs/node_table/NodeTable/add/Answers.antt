use Rattle.std.proofs.Common.{◌≡◌, ◌∙◌, ◌++◌, [], ◌∷◌, ℕ, List, None, ap, sym, subst}
use Rattle.std.specs.Map.{lookup}
use Rattle.std.specs.Str.{bytes_eq}
use Rattle.indexmap.proofs.CallerLemmas.{insert_entry-new}
use Rattle.hx_model.specs.declared.node.Node.{Node}
use Rattle.hx_forest.specs.declared.node_table.Standing.{Standing}
use Rattle.hx_forest.specs.declared.node_table.Step.{Step}
use Rattle.hx_forest.specs.NodeTable.{place_with, places_from, AreStanding}
use Rattle.hx_forest.proofs.Placing.{none_places, places_push, standing_push}
use Rattle.hx_forest.proofs.Restless.{count_push, small_count}
use Rattle.hx_forest.proofs.node_table.NodeTable.add.Goals as goal

pub invariant_of-self : goal.invariant_of-self
invariant_of-self c =
    let es = c.self.inside.nodes.entries in
    let rs = c.self.inside.rungs.items in
    let none : lookup (bytes_eq c.args.name) es ≡ None = none_places es rs c.args.name c.self.invariant.0 (ap (λ v. lookup (bytes_eq c.args.name) v.entries) c.self.view_is ∙ c.requires.absent) in
    let inserted = rw c.unwrap-none.ensures at c.insert.ensures.entries in
    let nodes : c.insert.new.self.entries ≡ es ++ (c.args.name, c.args.node) ∷ [] = inserted ∙ insert_entry-new bytes_eq c.self.inside.nodes c.args.name c.args.node none in
    let rungs : c.push.new.self.items ≡ rs ++ (c.args.step, c.standing_of-standing.result) ∷ [] = rw c.unwrap.ensures at c.push.ensures.items in
    let standing = standing_push es rs c.args.name c.args.node (c.args.step, c.standing_of-standing.result) c.self.invariant.0 c.standing_of-standing.ensures in (
      subst (λ (xs : List (List ℕ × Node)). AreStanding xs c.push.new.self.items) (sym nodes) (subst (λ (xs : List (Step × Standing)). AreStanding (es ++ (c.args.name, c.args.node) ∷ []) xs) (sym rungs) standing),
      c.insert.ensures.unique,
      count_push rs c.push.new.self.items (c.args.step, c.standing_of-standing.result) c.self.inside.restless c.one_more-self-inside.result rungs c.self.invariant.2
          (small_count rs c.self.inside.restless _ _ c.self.invariant.2 c.self.inside.rungs.ok.0 c.self.inside.rungs.ok.1 c.self.inside.rungs.small) c.one_more-self-inside.ensures,
    )

pub returns-clause-entries : goal.returns-clause-entries
returns-clause-entries c =
    let es = c.self.inside.nodes.entries in
    let rs = c.self.inside.rungs.items in
    let none : lookup (bytes_eq c.args.name) es ≡ None = none_places es rs c.args.name c.self.invariant.0 (ap (λ v. lookup (bytes_eq c.args.name) v.entries) c.self.view_is ∙ c.requires.absent) in
    let inserted = rw c.unwrap-none.ensures at c.insert.ensures.entries in
    let nodes : c.insert.new.self.entries ≡ es ++ (c.args.name, c.args.node) ∷ [] = inserted ∙ insert_entry-new bytes_eq c.self.inside.nodes c.args.name c.args.node none in
    let rungs : c.push.new.self.items ≡ rs ++ (c.args.step, c.standing_of-standing.result) ∷ [] = rw c.unwrap.ensures at c.push.ensures.items in
    (λ i. places_from (nodes i) (rungs i)) ∙ places_push es rs c.args.name c.args.node (c.args.step, c.standing_of-standing.result) c.self.invariant.0
    ∙ ap (λ v. v.entries ++ (c.args.name, place_with c.args.step c.args.node) ∷ []) c.self.view_is
