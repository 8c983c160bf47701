use Rattle.std.proofs.Common.{rules, refl, ◌∙◌}
use Rattle.hx_quota.specs.Inside.{entries_in}
use Rattle.hx_quota.specs.Anew.{chain_at, HasAdjusted}
use Rattle.hx_quota.proofs.Formed.{begun, may_step, more_of, shorter_left}
use Rattle.hx_quota.proofs.climbing.adjust_up.Goals as goal

pub loop-next-init : goal.loop-next-init
loop-next-init c = record {
  underway = begun c.args.change.now.take c.args.change.now.give c.args.places.now.entries c.args.first;
  rings = refl;
  room = search rules;
}

pub adjust-requires : goal.adjust-requires
adjust-requires c = λ before found.
    may_step c.args.change.now.take c.args.change.now.give c.args.places.now.entries c.loop-next.places.entries (chain_at (entries_in c.args.places.now.entries) c.args.first) c.requires.ends c.requires.distinct c.in-Some.at c.loop-next.next c.in-Some.is
    before found c.loop-next.invariant.underway c.requires.may

pub loop-next-smaller : goal.loop-next-smaller
loop-next-smaller c =
    let has : HasAdjusted c.args.change.now.take c.args.change.now.give c.in-Some.at c.loop-next.places.entries c.adjust.new.self.entries = search rules in
    shorter_left c.args.change.now.take c.args.change.now.give c.args.places.now.entries c.loop-next.places.entries (chain_at (entries_in c.args.places.now.entries) c.args.first) c.requires.ends c.requires.distinct c.in-Some.at c.loop-next.next c.in-Some.is
    has.before has.found c.loop-next.invariant.underway c.adjust.new.self.entries has.after has.put c.parent_index-next.result c.parent_index-next.ensures.chain

pub loop-next-preserved : goal.loop-next-preserved
loop-next-preserved c =
    let has : HasAdjusted c.args.change.now.take c.args.change.now.give c.in-Some.at c.loop-next.places.entries c.adjust.new.self.entries = search rules in
    record {
      underway = more_of c.args.change.now.take c.args.change.now.give c.args.places.now.entries c.loop-next.places.entries (chain_at (entries_in c.args.places.now.entries) c.args.first) c.requires.ends c.requires.distinct c.in-Some.at c.loop-next.next c.in-Some.is
          has.before has.found c.loop-next.invariant.underway c.adjust.new.self.entries has.after has.put c.parent_index-next.result c.parent_index-next.ensures.chain has.sums;
      rings = c.adjust.ensures.rings ∙ c.loop-next.invariant.rings;
      room = search rules;
    }
