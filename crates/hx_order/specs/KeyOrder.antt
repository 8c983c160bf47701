-- The order of keys: by their kind, in the order of its variants, then by namespace, then by the number of a copy's kind, then by name.
--     variant_of, place_of, number_in, name_in   the columns by which keys are compared
--     key_cmp a b        the first column that differs decides, texts by their bytes
use Rattle.std.specs.Prelude.{ℕ, List, []}
use Rattle.std.specs.declared.cmp.Ordering.{Ordering}
use Rattle.std.specs.Ordering.{nat_cmp, ordering_then}
use Rattle.hx_object.specs.Kinds.{number_of}
use Rattle.hx_object.specs.Texts.{bytes_cmp}
use Rattle.hx_model.specs.declared.key.Key.{Key}
use Rattle.hx_model.specs.declared.key.Key.TheVariants as key

-- the place of a key's kind among the kinds of keys
abbrev pub variant_of : Key → ℕ
variant_of (key.Copy n kind name) = 0
variant_of (key.Tree n) = 1
variant_of (key.Report n) = 2
variant_of (key.Child n name) = 3
variant_of (key.Anchor n name) = 4
variant_of (key.Used n name) = 5
variant_of (key.Purge n) = 6

-- its namespace
abbrev pub place_of : Key → List ℕ
place_of (key.Copy n kind name) = n
place_of (key.Tree n) = n
place_of (key.Report n) = n
place_of (key.Child n name) = n
place_of (key.Anchor n name) = n
place_of (key.Used n name) = n
place_of (key.Purge n) = n

-- the number of the kind of a copy, and 0 of any other key
abbrev pub number_in : Key → ℕ
number_in (key.Copy n kind name) = number_of kind
number_in _ = 0

-- its name, which is empty where it has none
abbrev pub name_in : Key → List ℕ
name_in (key.Copy n kind name) = name
name_in (key.Child n name) = name
name_in (key.Anchor n name) = name
name_in (key.Used n name) = name
name_in _ = []

abbrev pub key_cmp : Key → Key → Ordering
key_cmp a b = ordering_then (nat_cmp (variant_of a) (variant_of b)) (ordering_then (bytes_cmp (place_of a) (place_of b)) (ordering_then (nat_cmp (number_in a) (number_in b)) (bytes_cmp (name_in a) (name_in b))))
