use Rattle.std.proofs.Common.{◌≡◌, ◌++◌, drop, map, string_bytes}
use Rattle.std.specs.List.{flat_map}
use Rattle.hx_object.specs.Json.{reason_text}
use Rattle.hx_report.specs.Words.{spaced}
use Rattle.hx_report.proofs.words.push_spaced_reasons.Given as goal

-- with the reasons that are left it is the whole
abbrev pub invariant-loop-condition : goal.invariant-loop-condition
invariant-loop-condition l = string_bytes l.out ++ flat_map spaced (map reason_text (drop l.condition-index l.conditions)) ≡ string_bytes l.fn.out ++ flat_map spaced (map reason_text l.conditions)
