use Rattle.std.proofs.Common.{rules, ◌≡◌, ◌+◌, ◌≤◌, ◌<◌, ◌∙◌, ◌++◌, true, false, not, List, [], ◌∷◌, ℕ, length, filter, is_some, option_copied, sym, ap, subst, arith, length-append}
use Rattle.std.proofs.lemmas.List.{take_all}
use Rattle.std.specs.Str.{bytes_eq}
use Rattle.hx_model.specs.Forest.{Forest, is_there, children_of}
use Rattle.hx_forest.specs.ParentRefs.{nodes_of}
use Rattle.hx_forest.proofs.Named.{ascends}
use Rattle.hx_forest.proofs.NodeLookups.{ascends-forest}
use Rattle.hx_forest.proofs.Descending.{IsDescent, descent_start, descent_on, descent_end, few_found, nothing_below}
use Rattle.hx_forest.proofs.forest.Forest.below.Goals as goal

pub returns-in_default : goal.returns-in_default
returns-in_default c =
    let f = c.args.self.now.nodes in
    let out : is_there f c.args.name.now ≡ false = ap is_some (sym c.node.ensures ∙ ap option_copied c.in_default.is) in
    c.new-names.ensures.items ∙ sym (nothing_below f c.args.name.now out)

pub loop-at-init : goal.loop-at-init
loop-at-init c =
    let f = c.args.self.now.nodes in
    let a = c.args.name.now in
    let there : is_there f a ≡ true = ap is_some (sym c.node.ensures ∙ ap option_copied c.in-Some.is) in
    let start : c.push.new.self.items ≡ a ∷ [] = search rules in
    (omega arith, subst (IsDescent f a 0) (sym start) (descent_start f a there))

pub loop-at-smaller : goal.loop-at-smaller
loop-at-smaller c =
    let f = c.args.self.now.nodes in
    let a = c.args.name.now in
    let few = few_found f a c.loop-at.at c.loop-at.names.items c.loop-at.invariant.1 in
    let within : c.loop-at.at < length c.loop-at.names.items = search rules in
    omega (arith, few, within)

pub loop-at-preserved : goal.loop-at-preserved
loop-at-preserved c =
    let f = c.args.self.now.nodes in
    let a = c.args.name.now in
    let q = c.index.result.now in
    let names = c.loop-at.names.items in
    let up : ascends f ≡ true = subst (λ (g : Forest). ascends g ≡ true) (ap (λ k. k.nodes) c.self.view_is) (ascends-forest (nodes_of c.self.inside.nodes.places.entries)) in
    let within : c.loop-at.at < length names = search rules in
    let new : c.push_others.new.names.items ≡ names ++ filter (λ m. not (bytes_eq m a)) (children_of f q) =
    c.in_ok-push_others.ensures ∙ ap (λ (xs : List (List ℕ)). names ++ filter (λ m. not (bytes_eq m a)) xs) c.children-children.ensures.names in
    (rw new (omega (arith, within, length-append names (filter (λ m. not (bytes_eq m a)) (children_of f q)))), subst (IsDescent f a (c.loop-at.at + 1)) (sym new) (descent_on f a q c.loop-at.at names up within c.index.ensures c.loop-at.invariant.1))

pub returns : goal.returns
returns c =
    let f = c.args.self.now.nodes in
    let names = c.loop-at.names.items in
    let up : ascends f ≡ true = subst (λ (g : Forest). ascends g ≡ true) (ap (λ k. k.nodes) c.self.view_is) (ascends-forest (nodes_of c.self.inside.nodes.places.entries)) in
    let past : length names ≤ c.loop-at.at = search rules in
    descent_end f c.args.name.now c.loop-at.at names c.sort_unstable.new.self.items up past (take_all c.loop-at.at names past) c.loop-at.invariant.0 c.loop-at.invariant.1 c.sort_unstable.ensures.permutation c.sort_unstable.ensures.sorted
