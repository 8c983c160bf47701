use Rattle.std.proofs.Common.{◌≡◌, ◌++◌, ◌∷◌, [], true, ℕ, List, sym, ap, ◌∙◌, rules}
use Rattle.std.specs.Prelude.{is_some, option_copied}
use Rattle.hx_model.specs.Forest.{is_there}
use Rattle.hx_marks.specs.Senders.{senders_of}
use Rattle.hx_marks.proofs.Linking.{none_links, put_links, top_links}
use Rattle.hx_marks.proofs.links.links_below.Goals as goal

pub fill-requires : goal.fill-requires
fill-requires c =
    let objects = c.args.current.now.store.now.objects in
    let kinds = c.args.kinds.now in
    let f = c.args.current.now.forest.now.nodes in
    let n = c.args.top.now in
    let above = c.args.above.now in
    let there : is_there f n ≡ true = ap is_some (sym c.node.ensures ∙ ap option_copied c.in-Some.is) in
    let none : c.new-senders.result.items ≡ [] = search rules in
    let same = c.in_ok-put_first.ensures ∙ ap (λ (xs : List (List ℕ)). senders_of objects kinds (n ∷ []) ++ xs) (c.in_ok-push_sending.ensures ∙ ap (λ (xs : List (List ℕ)). xs ++ senders_of objects kinds above) none) in
    put_links objects kinds f n above c.new-links.result c.put.new.self n c.put_first.new.senders.items
    (none_links objects kinds f n above c.new-links.result c.new-links.ensures) (top_links objects kinds f n above c.put_first.new.senders.items there same) c.in_ok-put.ensures
