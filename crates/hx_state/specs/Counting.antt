-- What is limited, as running numbers.
--     counts_of objects     the numbers of the objects
--     is_new_name           a namespace or an anchor would bring a name that none has
--     is_last_name          the name of one would go with it
--     name_change           what a write changes of the names
--     come, gone            what that adds to their number, and what it takes off
--     IsPart                the numbers have those of an object
--     Counts                the numbers once one object stands in the place of another, and names have come or gone
--     IsTooWide             one of those doesn't fit 64 bits
use Rattle.std.specs.Prelude.{◌≡◌, ◌⊎◌, ◌≤◌, ◌+◌, ◌-◌, ◌^◌, ℕ, Bool, not, ◌&&◌, Option, Some, None, if◌then◌else◌}
use Rattle.hx_object.specs.declared.object.Id.{Id}
use Rattle.hx_object.specs.declared.object.Object.{Object}
use Rattle.hx_model.specs.State.{Objects, cut}
use Rattle.hx_model.specs.Limits.{part_of, counted_one, counted_size, names_in, objects_in, bytes_in, is_named}
use Rattle.hx_model.specs.Writes.{gives_name}
use Rattle.hx_state.specs.declared.limits.LimitCounts.{LimitCounts}
use Rattle.hx_state.specs.declared.names.NameChange.{NameChange}
use Rattle.hx_state.specs.declared.names.NameChange.TheVariants.{Comes, Goes, Stays}

-- the numbers of the objects
abbrev pub counts_of : Objects → LimitCounts
counts_of objects = record { names = names_in objects; objects = objects_in objects; bytes = bytes_in objects }

-- ---- names

-- of a namespace or an anchor, where neither has the name
abbrev pub is_new_name : Objects → Id → Bool
is_new_name objects id = gives_name id.kind && not (is_named objects id.name)

-- of a namespace or an anchor, where no other has the name
abbrev pub is_last_name : Objects → Id → Bool
is_last_name objects id = gives_name id.kind && not (is_named (cut id objects) id.name)

-- by what is there and what is there then
abbrev pub name_change : Objects → Id → Option Object → Option Object → NameChange
name_change objects id None (Some x) = if is_new_name objects id then Comes else Stays
name_change objects id (Some old) None = if is_last_name objects id then Goes else Stays
name_change objects id old new = Stays

-- what it adds to the number of names
abbrev pub come : NameChange → ℕ
come Comes = 1
come change = 0

-- what it takes off
abbrev pub gone : NameChange → ℕ
gone Goes = 1
gone change = 0

-- ---- numbers

-- the numbers have those of an object
pub record IsPart (found : Option Object) (counts : LimitCounts) : Type 0 where
  pub objects : part_of counted_one found ≤ counts.objects
  pub bytes : part_of counted_size found ≤ counts.bytes

-- an object stands in the place of another; either may be none
pub record Counts (old new : Option Object) (name : NameChange) (before after : LimitCounts) : Type 0 where
  pub names : after.names + gone name ≡ before.names + come name
  pub objects : after.objects + part_of counted_one old ≡ before.objects + part_of counted_one new
  pub bytes : after.bytes + part_of counted_size old ≡ before.bytes + part_of counted_size new

-- a number doesn't fit 64 bits once one part of it stands in the place of another
abbrev pub IsWide : ℕ → ℕ → ℕ → Type 0
IsWide old new before = 2 ^ 64 ≤ before - old + new

-- one of the numbers doesn't
abbrev pub IsTooWide : Option Object → Option Object → NameChange → LimitCounts → Type 0
IsTooWide old new name before =
    IsWide (gone name) (come name) before.names
    ⊎ (IsWide (part_of counted_one old) (part_of counted_one new) before.objects ⊎ IsWide (part_of counted_size old) (part_of counted_size new) before.bytes)
