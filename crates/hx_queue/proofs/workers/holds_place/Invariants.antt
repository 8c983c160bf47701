use Rattle.std.proofs.Common.{◌≡◌, drop}
use Rattle.std.specs.List.{list_any}
use Rattle.hx_queue.specs.Spread.{is_place_of}
use Rattle.hx_queue.specs.declared.workers.Handed.{Handed}
use Rattle.hx_queue.proofs.workers.holds_place.Given as goal

-- what is left tells it
abbrev pub invariant-loop-hand : goal.invariant-loop-hand
invariant-loop-hand l = list_any (λ (h : Handed). is_place_of l.id h.brief.key) (drop l.hand-index l.hands) ≡ list_any (λ (h : Handed). is_place_of l.id h.brief.key) l.hands
