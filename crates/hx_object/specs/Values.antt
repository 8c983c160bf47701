-- Looking into JSON values.
--     counted_member name d    a member that is there and isn't null
--     in_spec name d           such a member of `spec`
--     in_status name d         such a member of `status`
--     text_in, items_in        the text or the items of a member that is one or has some
-- A member that is absent, or null, counts as absent.
use Rattle.std.specs.Prelude.{ℕ, List, codes, Option, Some, None, option_and_then}
use Rattle.serde_json.specs.Data.{Data, null, string, array, Items, no_items}
use Rattle.serde_json.specs.Find.{get}

-- a member, where it is there and isn't null
abbrev pub unless_null : Option Data → Option Data
unless_null (Some null) = None
unless_null found = found

-- a member that counts, or none
abbrev pub counted_member : List ℕ → Data → Option Data
counted_member name d = unless_null (get name d)

-- a member of `spec`
abbrev pub in_spec : List ℕ → Data → Option Data
in_spec name d = option_and_then (counted_member name) (counted_member (codes "spec") d)

-- a member of `status`
abbrev pub in_status : List ℕ → Data → Option Data
in_status name d = option_and_then (counted_member name) (counted_member (codes "status") d)

-- the text of a member that is one
abbrev pub text_in : Option Data → Option (List ℕ)
text_in (Some (string text)) = Some text
text_in _ = None

-- the items of a member that is a list
abbrev pub items_in : Option Data → Items
items_in (Some (array ds)) = ds
items_in _ = no_items
