use Rattle.std.proofs.Common.{◌≡◌, ◌++◌, false, drop, string_bytes}
use Rattle.serde_json.specs.Written.{members_text}
use Rattle.hx_object.specs.Json.{limits_members}
use Rattle.hx_json.proofs.write.payload.push_limits.Given as goal

-- with the text of those that are left it is the whole
abbrev pub invariant-loop-limit : goal.invariant-loop-limit
invariant-loop-limit l = string_bytes l.out ++ members_text l.later (limits_members (drop l.limit-index l.limits)) ≡ string_bytes l.fn.out ++ members_text false (limits_members l.limits)
