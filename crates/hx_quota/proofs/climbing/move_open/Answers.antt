use Rattle.std.proofs.Common.{◌<◌, List, ℕ, ap, sym, subst, ◌∙◌}
use Rattle.std.specs.Prelude.{IfSome}
use Rattle.std.specs.Map.{keys_of}
use Rattle.hx_quota.specs.Counters.{Entry, with_parent}
use Rattle.hx_quota.specs.Inside.{entries_from, entries_in, ordered}
use Rattle.hx_quota.specs.Anew.{name_from, named}
use Rattle.hx_quota.proofs.Keeping.{summed_moved, ended_by_move, all_ends}
use Rattle.hx_quota.proofs.Opened.{tree_at}
use Rattle.hx_quota.proofs.Placed.{same_keys, same_length}
use Rattle.hx_quota.proofs.Reached.{from_there, there_at}
use Rattle.hx_quota.proofs.climbing.move_open.Goals as goal

pub take_over-requires-clause-ended : goal.take_over-requires-clause-ended
take_over-requires-clause-ended c =
    let old = c.args.places.now.entries in
    c.requires.opened.ended (named (entries_in old) c.args.at) (tree_at old c.requires.opened.ended c.args.at c.requires.within)

pub take_over-requires-clause-ends : goal.take_over-requires-clause-ends
take_over-requires-clause-ends c =
    let old = c.args.places.now.entries in
    all_ends (ordered old) (name_from (entries_in old) c.args.up) (from_there old c.args.up) c.requires.opened.ended

pub take_over-requires-clause-summed : goal.take_over-requires-clause-summed
take_over-requires-clause-summed c = c.requires.opened.summed

pub set_parent-requires-clause-within : goal.set_parent-requires-clause-within
set_parent-requires-clause-within c = subst (λ (k : ℕ). c.args.at < k) (sym (same_length c.take_over.new.places.entries c.args.places.now.entries c.take_over.ensures.entries)) c.requires.within

pub set_parent-requires-clause-given : goal.set_parent-requires-clause-given
set_parent-requires-clause-given c = subst (λ (k : ℕ). IfSome c.args.up (λ i. i < k)) (sym (same_length c.take_over.new.places.entries c.args.places.now.entries c.take_over.ensures.entries)) c.requires.given

pub returns-clause-entries : goal.returns-clause-entries
returns-clause-entries c =
    let same = c.take_over.ensures.entries in
    c.set_parent.ensures.entries ∙ (λ i. with_parent (named (same i) c.args.at) (name_from (same i) c.args.up) (entries_from (same i)))

pub returns-clause-names : goal.returns-clause-names
returns-clause-names c =
    c.set_parent.ensures.names ∙ sym (same_keys c.take_over.new.places.entries) ∙ ap (λ (xs : List (List ℕ × Entry)). keys_of xs) c.take_over.ensures.entries ∙ same_keys c.args.places.now.entries

pub returns-clause-rings : goal.returns-clause-rings
returns-clause-rings c = c.set_parent.ensures.rings ∙ c.take_over.ensures.rings

pub returns-clause-opened : goal.returns-clause-opened
returns-clause-opened c =
    let old = c.args.places.now.entries in
    let mid = c.take_over.new.places.entries in
    let new = c.set_parent.new.places.entries in
    let n = named (entries_in old) c.args.at in
    let parent = name_from (entries_in old) c.args.up in
    let there = there_at old c.args.at c.requires.within in
    let same = c.take_over.ensures.entries in
    let over = c.set_parent.ensures.entries ∙ (λ i. with_parent (named (same i) c.args.at) (name_from (same i) c.args.up) (ordered mid)) in
    record {
      summed = summed_moved old mid new n parent (ap entries_from same) c.take_over.ensures.sums over c.set_parent.ensures.sums;
      ended = ended_by_move (ordered old) (ordered new) n parent there (from_there old c.args.up) c.requires.free (returns-clause-entries c) c.requires.opened.ended;
    }
