-- Field selectors of lists: `metadata.name=NAME`, `metadata.namespace=NAMESPACE`, or both with a comma between.
--     are_fields text     the text is one of these
--     fields_in text      the name and the namespace that it asks for
--     fields_text query   the text of the field selector
use Rattle.std.specs.Prelude.{ℕ, slice_index, Bool, not, ◌&&◌, ◌||◌, ◌==◌, List, [], codes, Option, is_some, unwrap_or}
use Rattle.std.specs.List.{before_first, after_first, list_all}
use Rattle.std.specs.Option.{option_or}
use Rattle.std.specs.Str.{bytes_eq}
use Rattle.hx_object.specs.Pairs.{value_of}
use Rattle.hx_api.specs.Paths.{is_blank}
use Rattle.hx_model.specs.First.{so}
use Rattle.hx_model.specs.declared.fields.Fields.{Fields}

abbrev pub is_equals_sign : ℕ → Bool
is_equals_sign byte = byte == slice_index (codes "=") 0

abbrev pub is_comma : ℕ → Bool
is_comma byte = byte == slice_index (codes ",") 0

abbrev pub is_backslash : ℕ → Bool
is_backslash byte = byte == slice_index (codes "\\") 0

-- a byte that stands for itself in a value: those that don't are escaped by a backslash, which is not taken here
abbrev pub is_plain : ℕ → Bool
is_plain byte = not (is_equals_sign byte) && not (is_comma byte) && not (is_backslash byte)

-- a value: not empty, and of such bytes
abbrev pub is_value : List ℕ → Bool
is_value value = not (is_blank value) && list_all is_plain value

-- the value that a term asks of a field, if it is a term of that field
abbrev pub value_in : List ℕ → List ℕ → Option (List ℕ)
value_in field term = so (bytes_eq (before_first is_equals_sign term) field && is_value (after_first is_equals_sign term)) (after_first is_equals_sign term)

-- the term before the first comma, and what stands behind it
abbrev pub first_term : List ℕ → List ℕ
first_term text = before_first is_comma text

abbrev pub second_term : List ℕ → List ℕ
second_term text = after_first is_comma text

-- the value that either term asks of a field
abbrev pub value_asked : List ℕ → List ℕ → Option (List ℕ)
value_asked field text = option_or (value_in field (first_term text)) (value_in field (second_term text))

abbrev pub names : List ℕ → Bool
names term = is_some (value_in (codes "metadata.name") term)

abbrev pub places : List ℕ → Bool
places term = is_some (value_in (codes "metadata.namespace") term)

-- one term, or one of each field
abbrev pub are_terms : List ℕ → List ℕ → Bool
are_terms first second = (names first && (is_blank second || places second)) || (places first && (is_blank second || names second))

-- the text is a field selector that is served
unfoldable pub are_fields : List ℕ → Bool
are_fields text = are_terms (first_term text) (second_term text)

-- the name and the namespace that it asks for
unfoldable pub fields_in : List ℕ → Fields
fields_in text = record { name = value_asked (codes "metadata.name") text; ns = value_asked (codes "metadata.namespace") text }

-- the text of the field selector. One that is absent is empty
abbrev pub fields_text : List (List ℕ × List ℕ) → List ℕ
fields_text query = unwrap_or (value_of query (codes "fieldSelector")) []
