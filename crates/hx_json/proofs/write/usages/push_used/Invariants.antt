use Rattle.std.proofs.Common.{◌≡◌, ◌++◌, false, drop, map, string_bytes}
use Rattle.serde_json.specs.Written.{members_text}
use Rattle.hx_object.specs.Json.{used_pair, pairs_members}
use Rattle.hx_json.proofs.write.usages.push_used.Given as goal

-- with the text of those that are left it is the whole
abbrev pub invariant-loop-usage : goal.invariant-loop-usage
invariant-loop-usage l = string_bytes l.out ++ members_text l.later (pairs_members (map used_pair (drop l.usage-index l.usages))) ≡ string_bytes l.fn.out ++ members_text false (pairs_members (map used_pair l.usages))
