use Rattle.std.proofs.Common.{◌≡◌, ◌++◌, false, drop, string_bytes}
use Rattle.hx_discovery.specs.Documents.{listed, schema_place_text}
use Rattle.hx_discovery.proofs.schemas.push_schema_places.Given as goal

-- with the text of those that are left it is the whole
abbrev pub invariant-loop-group : goal.invariant-loop-group
invariant-loop-group l = string_bytes l.out ++ listed schema_place_text l.later (drop l.group-index l.groups) ≡ string_bytes l.fn.out ++ listed schema_place_text false l.groups
