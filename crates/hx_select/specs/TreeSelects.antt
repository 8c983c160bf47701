-- The tree selectors of HNC's exceptions: names of namespaces joined by commas, at most one of them without `!`.
--     tree_select_of text       the tree selector that a text is, or the first fault of the text
--     in_tree select labels     whether it holds for the labels of a namespace
use Rattle.std.specs.Prelude.{ℕ, Bool, true, not, cond, ◌&&◌, ◌==◌, List, [], ◌∷◌, ◌++◌, map, reverse, slice_index, codes, Option, Some, None, is_some, Result, Ok, Err, if◌then◌else◌}
use Rattle.std.specs.List.{list_all, slice_split}
use Rattle.hx_object.specs.Names.{is_dns_label}
use Rattle.hx_object.specs.Pairs.{value_of}
use Rattle.hx_object.specs.WellKnown.{tree_suffix}
use Rattle.hx_select.specs.declared.tree_select.TreeSelect.{TreeSelect}
use Rattle.hx_select.specs.declared.tree_select.TreeFault.{TreeFault}
use Rattle.hx_select.specs.declared.tree_select.TreeFault.TheVariants.{Syntax, BadName, TwoPlain}

-- ---- what is held

-- whether a namespace with the labels is at or below the one of a name. The value of the label says how far, and isn't looked at
abbrev pub is_under : List (List ℕ × List ℕ) → List ℕ → Bool
is_under labels name = is_some (value_of labels (name ++ tree_suffix))

-- whether it is under the plain name, where there is one
abbrev pub is_under_plain : List (List ℕ × List ℕ) → Option (List ℕ) → Bool
is_under_plain labels None = true
is_under_plain labels (Some name) = is_under labels name

-- whether it is under the plain name and under none of the others
abbrev pub in_tree : TreeSelect → List (List ℕ × List ℕ) → Bool
in_tree select labels = is_under_plain labels select.plain && list_all (λ name. not (is_under labels name)) select.not

-- ---- how a text is read

abbrev byte_of : List ℕ → ℕ
byte_of text = slice_index text 0

abbrev pub is_space : ℕ → Bool
is_space byte = byte == byte_of (codes " ")

-- a text without the spaces at its start
abbrev pub without_leading : List ℕ → List ℕ
without_leading [] = []
without_leading (byte ∷ rest) = cond (is_space byte) (without_leading rest) (byte ∷ rest)

-- a text without the spaces at its end
abbrev pub without_trailing : List ℕ → List ℕ
without_trailing text = reverse (without_leading (reverse text))

-- a text without the spaces around it
abbrev pub stripped : List ℕ → List ℕ
stripped text = without_trailing (without_leading text)

abbrev pub is_comma : ℕ → Bool
is_comma byte = byte == byte_of (codes ",")

-- what stands between the commas, without spaces around it
abbrev pub pieces_of : List ℕ → List (List ℕ)
pieces_of text = map stripped (slice_split is_comma text)

-- the selector with one more name behind a `!`
abbrev pub with_negated : TreeSelect → List ℕ → Result TreeSelect TreeFault
with_negated select name = if is_dns_label name then Ok (record select { not = select.not ++ name ∷ [] }) else Err BadName

-- the selector with its plain name, of which there may be one
abbrev pub set_plain : TreeSelect → Option (List ℕ) → List ℕ → Result TreeSelect TreeFault
set_plain select None name = Ok (record select { plain = Some name })
set_plain select (Some other) name = Err TwoPlain

abbrev pub with_plain : TreeSelect → List ℕ → Result TreeSelect TreeFault
with_plain select name = if is_dns_label name then set_plain select select.plain name else Err BadName

-- the selector with one more piece
abbrev pub with_piece : TreeSelect → List ℕ → Result TreeSelect TreeFault
with_piece select [] = Err Syntax
with_piece select (byte ∷ rest) = if byte == byte_of (codes "!") then with_negated select rest else with_plain select (byte ∷ rest)

-- the selector with more pieces, up to the first one at fault
abbrev pub with_pieces : Result TreeSelect TreeFault → List (List ℕ) → Result TreeSelect TreeFault
with_pieces (Ok select) (piece ∷ pieces) = with_pieces (with_piece select piece) pieces
with_pieces (Ok select) [] = Ok select
with_pieces (Err fault) pieces = Err fault

-- the selector without a name
abbrev pub unlimited : TreeSelect
unlimited = record { plain = None; not = [] }

-- the tree selector that a text is, or its first fault
unfoldable pub tree_select_of : List ℕ → Result TreeSelect TreeFault
tree_select_of text = with_pieces (Ok unlimited) (pieces_of text)
