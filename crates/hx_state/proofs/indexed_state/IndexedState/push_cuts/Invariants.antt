use Rattle.std.proofs.Common.{◌≡◌, ◌++◌, drop}
use Rattle.std.specs.Prelude.{flat_map}
use Rattle.std.specs.Option.{option_to_list}
use Rattle.hx_state.specs.Happening.{cut_event}
use Rattle.hx_state.proofs.indexed_state.IndexedState.push_cuts.Given as goal

-- the events so far, and those of the rest
abbrev pub invariant-loop-write : goal.invariant-loop-write
invariant-loop-write l = l.events.items ++ flat_map (λ w. option_to_list (cut_event l.self.state w)) (drop l.write-index l.writes) ≡ l.initial.events.items ++ flat_map (λ w. option_to_list (cut_event l.self.state w)) l.writes
