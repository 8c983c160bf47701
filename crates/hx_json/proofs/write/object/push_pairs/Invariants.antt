use Rattle.std.proofs.Common.{◌≡◌, ◌++◌, false, drop, string_bytes}
use Rattle.serde_json.specs.Written.{members_text}
use Rattle.hx_object.specs.Json.{pairs_members}
use Rattle.hx_json.proofs.write.object.push_pairs.Given as goal

-- with the text of the pairs that are left it is the whole
abbrev pub invariant-loop-key : goal.invariant-loop-key
invariant-loop-key l = string_bytes l.out ++ members_text l.later (pairs_members (drop l.key-index l.pairs)) ≡ string_bytes l.fn.out ++ members_text false (pairs_members l.pairs)
