use Rattle.std.proofs.Common.{◌≡◌, ◌++◌, drop}
use Rattle.std.specs.Prelude.{filter, flat_map}
use Rattle.hx_marks.specs.Law.{is_sent, listed_in}
use Rattle.hx_marks.proofs.wants.sent_in_mode.Given as goal

-- what the names so far send, and the rest
abbrev pub invariant-loop-name : goal.invariant-loop-name
invariant-loop-name l = l.objects.items ++ flat_map (λ a. filter (is_sent l.mode) (listed_in l.store.objects l.kind a)) (drop l.name-index l.names) ≡ l.initial.objects.items ++ flat_map (λ a. filter (is_sent l.mode) (listed_in l.store.objects l.kind a)) l.names
