use Rattle.std.proofs.Common.{◌≡◌, ◌++◌, false, drop, string_bytes}
use Rattle.hx_discovery.specs.Documents.{listed, patch_text}
use Rattle.hx_discovery.proofs.schemas.push_patches.Given as goal

-- with the text of those that are left it is the whole
abbrev pub invariant-loop-kind : goal.invariant-loop-kind
invariant-loop-kind l = string_bytes l.out ++ listed (patch_text l.group) l.later (drop l.kind-index l.kinds) ≡ string_bytes l.fn.out ++ listed (patch_text l.group) false l.kinds
