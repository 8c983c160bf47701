use Rattle.std.proofs.Common.{◌≡◌, drop}
use Rattle.hx_json.specs.Reading.{first_of_items}
use Rattle.hx_json.specs.Inside.{entry_fault}
use Rattle.hx_json.specs.Trees.{said_items}
use Rattle.hx_json.proofs.read.member_checks.check_entries.Given as goal

-- the first fault is that of the entries to come
abbrev pub invariant-loop-entry : goal.invariant-loop-entry
invariant-loop-entry l = first_of_items (entry_fault l.part) (said_items l.entries) ≡ first_of_items (entry_fault l.part) (said_items (drop l.entry-index l.entries))
