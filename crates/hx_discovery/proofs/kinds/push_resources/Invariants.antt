use Rattle.std.proofs.Common.{◌≡◌, ◌++◌, false, drop, string_bytes}
use Rattle.hx_discovery.specs.Documents.{listed, resource_text}
use Rattle.hx_discovery.proofs.kinds.push_resources.Given as goal

-- with the text of those that are left it is the whole
abbrev pub invariant-loop-kind : goal.invariant-loop-kind
invariant-loop-kind l = string_bytes l.out ++ listed resource_text l.later (drop l.kind-index l.kinds) ≡ string_bytes l.fn.out ++ listed resource_text false l.kinds
