-- The parameters of a query.
--     path_of, query_of target    the path, and the query behind its first `?`
--     parameters_of query         its names and values, form decoded
--     selector_text query         the text of the label selector
--     since_in query              the version that the feed is read from, where one is given
--     bad_parameter feed list query    the first other parameter whose value isn't taken
-- Of several parameters of one name the first counts. Parameters that aren't named here are ignored.
use Rattle.std.specs.Prelude.{ℕ, slice_index, Bool, true, false, not, ◌&&◌, ◌==◌, List, [], ◌∷◌, codes, map, Option, Some, None, option_and_then, unwrap_or}
use Rattle.std.specs.List.{before_first, after_first}
use Rattle.std.specs.Str.{bytes_eq}
use Rattle.std.specs.Str.Lossy.{utf8_lossy}
use Rattle.form_urlencoded.specs.Form.{decode, raw_pairs}
use Rattle.hx_json.specs.LongDecimals.{long_decimal}
use Rattle.hx_json.specs.Reading.{is_long_decimal}
use Rattle.hx_object.specs.Pairs.{value_of}
use Rattle.hx_model.specs.First.{so, first}
use Rattle.hx_api.specs.FieldSelectors.{are_fields, fields_text}

-- ---- targets

abbrev pub is_question_mark : ℕ → Bool
is_question_mark byte = byte == slice_index (codes "?") 0

-- what stands before the first `?`, or all
abbrev pub path_of : List ℕ → List ℕ
path_of target = before_first is_question_mark target

-- what stands behind the first `?`, or nothing
abbrev pub query_of : List ℕ → List ℕ
query_of target = after_first is_question_mark target

-- ---- parameters

-- the text that a name or a value stands for: form decoded, with U+FFFD for what isn't UTF-8
abbrev pub form_text : List ℕ → List ℕ
form_text bytes = utf8_lossy (decode bytes)

-- a name and a value as texts
abbrev pub text_pair : List ℕ × List ℕ → List ℕ × List ℕ
text_pair pair = (form_text pair.0, form_text pair.1)

-- the names and the values of a query, in order
abbrev pub Parameters : Type 0
Parameters = List (List ℕ × List ℕ)

unfoldable pub parameters_of : List ℕ → Parameters
parameters_of query = map text_pair (raw_pairs query)

-- ---- values

-- the parameter has a value that isn't empty
abbrev pub is_given : Option (List ℕ) → Bool
is_given (Some (byte ∷ text)) = true
is_given _ = false

-- the value of `admission` that is taken
abbrev pub is_skip : Option (List ℕ) → Bool
is_skip (Some text) = bytes_eq text (codes "skip")
is_skip None = false

-- any other value of `admission`
abbrev pub is_other_admission : Option (List ℕ) → Bool
is_other_admission (Some text) = not (bytes_eq text (codes "skip"))
is_other_admission None = false

-- a value of `since` that is no number
abbrev pub is_other_since : Option (List ℕ) → Bool
is_other_since (Some text) = not (is_long_decimal text)
is_other_since None = false

-- the version that the feed is read from, where one is given
abbrev pub since_in : Parameters → Option ℕ
since_in query = option_and_then long_decimal (value_of query (codes "since"))

-- the text of the label selector. One that is absent is empty
abbrev pub selector_text : Parameters → List ℕ
selector_text query = unwrap_or (value_of query (codes "labelSelector")) []

-- the first other parameter whose value isn't taken, at the feed of events, at a list or elsewhere. A list takes a field selector
unfoldable pub bad_parameter : Bool → Bool → Parameters → Option (List ℕ)
bad_parameter feed list query =
    first (so (is_other_admission (value_of query (codes "admission"))) (codes "admission")
    ∷ so (feed && is_other_since (value_of query (codes "since"))) (codes "since")
    ∷ so (is_given (value_of query (codes "watch"))) (codes "watch")
    ∷ so (is_given (value_of query (codes "fieldSelector")) && not (list && are_fields (fields_text query))) (codes "fieldSelector")
    ∷ so (is_given (value_of query (codes "dryRun"))) (codes "dryRun")
    ∷ so (is_given (value_of query (codes "continue"))) (codes "continue")
    ∷ [])
