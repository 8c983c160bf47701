use Rattle.std.proofs.Common.{◌≡◌, ◌++◌, false, drop, string_bytes}
use Rattle.hx_discovery.specs.Documents.{listed, group_text}
use Rattle.hx_discovery.proofs.groups.push_groups.Given as goal

-- with the text of those that are left it is the whole
abbrev pub invariant-loop-group : goal.invariant-loop-group
invariant-loop-group l = string_bytes l.out ++ listed group_text l.later (drop l.group-index l.groups) ≡ string_bytes l.fn.out ++ listed group_text false l.groups
