use Rattle.std.proofs.Common.{◌≡◌, ◌++◌, ◌∷◌, false, drop, length, string_bytes}
use Rattle.json.specs.Value.{members_view}
use Rattle.serde_json.specs.Written.{members_text}
use Rattle.hx_json.specs.Trees.{kept_of, laid_members, places_from, places_in}
use Rattle.hx_json.proofs.read.kept.push_kept.Given as goal

-- the text so far, and that of the members to come; and the places
abbrev pub invariant-loop-key : goal.invariant-loop-key
invariant-loop-key l = record {
  text : 123 ∷ members_text false (laid_members (kept_of (members_view l.members))) ≡ string_bytes l.out ++ members_text l.later (laid_members (kept_of (members_view (drop l.key-index l.members))));
  places : places_in (laid_members (kept_of (members_view l.members))) ≡ places_from (length (string_bytes l.out)) l.later l.places (laid_members (kept_of (members_view (drop l.key-index l.members))));
}
