-- Where the members that each object has go among the kept members of a plain kind.
--     joined                members as text without braces
--     below                 the members in front of a name
--     place_of              where a name goes in the text of members
--     IsPlaced text places  the text is of canonical members, and the places are those of `apiVersion`, `kind` and `metadata`
use Rattle.std.specs.Prelude.{◌≡◌, ◌≤◌, ℕ, ◌+◌, Bool, true, false, List, [], ◌∷◌, ◌++◌, codes, length, if◌then◌else◌}
use Rattle.std.specs.Ordering.{is_lt}
use Rattle.json.specs.Print.{quoted}
use Rattle.serde_json.specs.Data.{object, Members, no_members, member, depth}
use Rattle.serde_json.specs.Read.{max_depth}
use Rattle.serde_json.specs.Written.{comma_if, compact_text}
use Rattle.hx_object.specs.Canonical.{IsCanonical}
use Rattle.hx_object.specs.Texts.{bytes_cmp}
use Rattle.hx_object.specs.declared.members.Places.{Places}

-- the members with commas between them, and one in front where something stands before them
abbrev pub joined : Bool → Members → List ℕ
joined later no_members = []
joined later (member k d ms) = comma_if later ++ (quoted k ++ 58 ∷ (compact_text d ++ joined true ms))

-- of members in order, those whose keys are less than a name
abbrev pub below : List ℕ → Members → Members
below name no_members = no_members
below name (member k d ms) = if is_lt (bytes_cmp k name) then member k d (below name ms) else no_members

-- how many bytes of the members' text stand in front of where a name goes: a brace, and the members below it
abbrev pub place_of : List ℕ → Members → ℕ
place_of name ms = 1 + length (joined false (below name ms))

-- the text is that of canonical members, and each place is where its name goes
pub record IsPlaced (members : List ℕ) (places : Places) : Type 0 where
  pub whole : Members
  pub text : members ≡ compact_text (object whole)
  pub canonical : IsCanonical (object whole)
  pub shallow : depth (object whole) ≤ max_depth
  pub api_version : places.api_version ≡ place_of (codes "apiVersion") whole
  pub kind : places.kind ≡ place_of (codes "kind") whole
  pub metadata : places.metadata ≡ place_of (codes "metadata") whole
