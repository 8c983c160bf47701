use Rattle.std.proofs.Common.{◌≡◌, ◌<◌, length, Option, Some, ℕ, ap, sym, subst, ◌∙◌, arith}
use Rattle.std.specs.Prelude.{IfSome}
use Rattle.hx_quota.specs.Inside.{entries_in}
use Rattle.hx_quota.specs.Anew.{name_from, named, chain_at, chain_behind}
use Rattle.hx_quota.proofs.Opened.{itself_at, up_on, on_top, step_up}
use Rattle.hx_quota.proofs.climbing.top_of.Goals as goal

pub loop-next-init : goal.loop-next-init
loop-next-init c = record {
  within = c.requires.within;
  inside = c.parent_index-next.ensures.within;
  parent = c.parent_index-next.ensures.name;
  above = itself_at c.args.places.now.entries c.requires.ended c.args.first c.requires.within;
}

pub loop-next-smaller : goal.loop-next-smaller
loop-next-smaller c =
    let places = c.args.places.now.entries in
    let es = entries_in places in
    let lies : c.in-Some.at < length places = subst (λ (o : Option ℕ). IfSome o (λ i. i < length places)) c.in-Some.is c.loop-next.invariant.inside in
    let behind : length (chain_at es c.parent_index-next-in-Some.result) ≡ length (chain_behind es c.in-Some.at) = ap length c.parent_index-next-in-Some.ensures.chain in
    let here : length (chain_at es c.loop-next.next) ≡ length (chain_at es (Some c.in-Some.at)) = ap (λ (o : Option ℕ). length (chain_at es o)) c.in-Some.is in
    omega (arith, behind, here, up_on places c.requires.ended c.in-Some.at lies)

pub loop-next-preserved : goal.loop-next-preserved
loop-next-preserved c =
    let places = c.args.places.now.entries in
    let es = entries_in places in
    let lies : c.in-Some.at < length places = subst (λ (o : Option ℕ). IfSome o (λ i. i < length places)) c.in-Some.is c.loop-next.invariant.inside in
    record {
      within = lies;
      inside = c.parent_index-next-in-Some.ensures.within;
      parent = c.parent_index-next-in-Some.ensures.name;
      above = step_up places c.requires.ended c.loop-next.top c.loop-next.invariant.within c.in-Some.at lies (ap (name_from es) (sym c.in-Some.is) ∙ c.loop-next.invariant.parent) (named es c.args.first) c.loop-next.invariant.above;
    }

pub returns-clause-root : goal.returns-clause-root
returns-clause-root c =
    let places = c.args.places.now.entries in
    let es = entries_in places in
    on_top places c.requires.ended c.loop-next.top c.loop-next.invariant.within (name_from es c.loop-next.next) c.loop-next.invariant.parent (ap (name_from es) c.in_default.is)
