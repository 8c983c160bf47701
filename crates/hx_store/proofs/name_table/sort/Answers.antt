use Rattle.std.proofs.Common.{◌∙◌}
use Rattle.hx_store.proofs.Descending.{places_moved, sorted_backwards, sorted_names}
use Rattle.hx_store.proofs.Shown.{names_distinct}
use Rattle.hx_store.proofs.name_table.sort.Goals as goal

pub returns-clause-descends : goal.returns-clause-descends
returns-clause-descends c = sorted_backwards c.sort_unstable.new.self.keys c.reverse.new.self.keys (sorted_names c.sort_unstable.new.self.keys c.in_ok-sort_unstable.ensures.sorted) c.reverse.ensures.keys

pub returns-clause-places : goal.returns-clause-places
returns-clause-places c q =
    places_moved c.sort_unstable.new.self.keys c.reverse.new.self.keys c.reverse.ensures.reordered.0 (names_distinct c.reverse.new.self.keys c.reverse.ensures.unique) q
    ∙ places_moved c.args.places.now.keys c.sort_unstable.new.self.keys c.sort_unstable.ensures.reordered.0 (names_distinct c.sort_unstable.new.self.keys c.sort_unstable.ensures.unique) q

pub returns-in_err-sort_unstable-clause-places : goal.returns-in_err-sort_unstable-clause-places
returns-in_err-sort_unstable-clause-places c = places_moved c.args.places.now.keys c.sort_unstable.new.self.keys c.sort_unstable.ensures.reordered.0 (names_distinct c.sort_unstable.new.self.keys c.sort_unstable.ensures.unique)
