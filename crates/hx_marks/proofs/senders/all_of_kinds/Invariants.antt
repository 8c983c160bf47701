use Rattle.std.proofs.Common.{◌≡◌, ◌++◌, true, drop}
use Rattle.std.specs.List.{list_all}
use Rattle.std.specs.Prelude.{flat_map, option_copied}
use Rattle.hx_model.specs.Forest.{chain_of}
use Rattle.hx_model.specs.Moves.{chain_from}
use Rattle.hx_model.specs.TreeLabels.{is_open}
use Rattle.hx_marks.specs.Law.{all_of}
use Rattle.hx_marks.specs.Senders.{senders_of}
use Rattle.hx_marks.proofs.senders.all_of_kinds.Given as goal

-- the marks so far, and those of the rest; what sends something above; the rest takes part
abbrev pub invariant-loop-member : goal.invariant-loop-member
invariant-loop-member l = (l.keys.items ++ flat_map (λ m. all_of l.current.store.now.objects (chain_of l.current.forest.now.nodes m) m) (drop l.member-index l.members) ≡ l.initial.keys.items ++ flat_map (λ m. all_of l.current.store.now.objects (chain_of l.current.forest.now.nodes m) m) l.members) × ((l.senders.items ≡ senders_of l.current.store.now.objects l.kinds (chain_from l.current.forest.now.nodes (option_copied l.known))) × (list_all (is_open l.current.forest.now.nodes) (drop l.member-index l.members) ≡ true))
