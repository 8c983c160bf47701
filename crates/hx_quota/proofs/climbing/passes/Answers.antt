use Rattle.std.proofs.Common.{◌<◌, ◌-◌, List, ℕ, sym, ap, subst, ◌∙◌, arith}
use Rattle.std.specs.List.{IsDistinct}
use Rattle.std.specs.Str.{bytes_eq}
use Rattle.hx_quota.specs.Counters.{tree_of}
use Rattle.hx_quota.specs.Inside.{entries_in, ordered}
use Rattle.hx_quota.specs.Anew.{name_at, named, walk_from}
use Rattle.hx_quota.proofs.Formed.{all_named}
use Rattle.hx_quota.proofs.Placed.{same_keys}
use Rattle.hx_quota.proofs.Reached.{lies_at}
use Rattle.hx_quota.proofs.Stepping.{target_here, target_other}
use Rattle.hx_quota.proofs.Trees.{goes_on, has_come}
use Rattle.hx_quota.proofs.climbing.passes.Goals as goal

pub loop-left-init : goal.loop-left-init
loop-left-init c =
    let places = c.args.places.now.entries in
    ap (λ left. walk_from left places c.args.first (named (entries_in places) c.args.target)) c.count-left.ensures.count

pub returns-then-at-target : goal.returns-then-at-target
returns-then-at-target c =
    let places = c.args.places.now.entries in
    let above = named (entries_in places) c.args.target in
    let at = c.in-Some.at in
    let lies = lies_at places (subst (λ (ks : List (List ℕ)). IsDistinct bytes_eq ks) (sym (same_keys places)) c.count-left.ensures.distinct) c.args.target c.requires in
    let some_left : 0 < c.loop-left.left = omega (arith, c.loop-left-test.true) in
    sym (has_come c.loop-left.left (tree_of (ordered places)) (name_at (entries_in places) at) above some_left (target_here places above c.args.target lies at c.if-at-target.true) (all_named places at))
    ∙ ap (λ o. walk_from c.loop-left.left places o above) (sym c.in-Some.is) ∙ c.loop-left.invariant

pub loop-left-preserved : goal.loop-left-preserved
loop-left-preserved c =
    let places = c.args.places.now.entries in
    let above = named (entries_in places) c.args.target in
    let at = c.in-Some.at in
    let left = c.loop-left.left in
    let lies = lies_at places (subst (λ (ks : List (List ℕ)). IsDistinct bytes_eq ks) (sym (same_keys places)) c.count-left.ensures.distinct) c.args.target c.requires in
    let some_left : 0 < left = omega (arith, c.loop-left-test.true) in
    c.parent_index-next.ensures.walks (left - 1) above
    ∙ sym (goes_on left (tree_of (ordered places)) (name_at (entries_in places) at) above some_left (target_other places above c.args.target lies at c.count-left.ensures.distinct (λ same. absurd (omega (arith, same, c.if-at-target.false)))) (all_named places at))
    ∙ ap (λ o. walk_from left places o above) (sym c.in-Some.is) ∙ c.loop-left.invariant
