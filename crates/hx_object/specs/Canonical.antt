-- Values that a compact text stands for: whole numbers of 64 bits, and the members of each object in byte order.
use Rattle.std.specs.Prelude.{◌≡◌, ◌<◌, ◌^◌, ℕ, pos, negsuc, List, ⊤}
use Rattle.std.specs.Ordering.{nat_cmp}
use Rattle.std.specs.declared.cmp.Ordering.TheVariants.{Less}
use Rattle.std.specs.Cmp.Lexicographic.{slice_cmp}
use Rattle.serde_json.specs.Data.{Num, unsigned, negative, float, Data, null, boolean, number, string, array, object, Items, no_items, item, Members, no_members, member}

abbrev pub IsWhole : Num → Type 0
IsWhole (unsigned n) = n < 2 ^ 64
IsWhole (negative (pos n)) = ⊥
IsWhole (negative (negsuc n)) = n < 2 ^ 63
IsWhole (float x) = ⊥

-- the key comes before those of the members
abbrev pub IsBefore : List ℕ → Members → Type 0
IsBefore k no_members = ⊤
IsBefore k (member l d ms) = (slice_cmp nat_cmp k l ≡ Less) × IsBefore k ms

abbrev mutual
  pub IsCanonical : Data → Type 0
  IsCanonical null = ⊤
  IsCanonical (boolean b) = ⊤
  IsCanonical (number n) = IsWhole n
  IsCanonical (string s) = ⊤
  IsCanonical (array ds) = AreCanonical ds
  IsCanonical (object ms) = AreMembers ms

  pub AreCanonical : Items → Type 0
  AreCanonical no_items = ⊤
  AreCanonical (item d ds) = IsCanonical d × AreCanonical ds

  pub AreMembers : Members → Type 0
  AreMembers no_members = ⊤
  AreMembers (member k d ms) = IsBefore k ms × IsCanonical d × AreMembers ms
