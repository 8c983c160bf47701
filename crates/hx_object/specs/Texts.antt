-- The bytes of texts, and the order of texts by them.
--     bytes_in     the bytes of a text, wherever they lie
--     bytes_cmp    the order of texts
use Rattle.std.specs.Prelude.{ℕ, List, string_bytes}
use Rattle.std.specs.declared.cmp.Ordering.{Ordering}
use Rattle.std.specs.Ordering.{nat_cmp}
use Rattle.std.specs.Cmp.Lexicographic.{slice_cmp}
use Rattle.hx_object.specs.declared.text.Form.{Form}
use Rattle.hx_object.specs.declared.text.Form.TheVariants.{Short, Long}

-- the bytes of a text, wherever they lie
abbrev pub bytes_in : Form → List ℕ
bytes_in (Short text) = text.bytes
bytes_in (Long text) = string_bytes text

-- the first byte that differs decides, and else the shorter text is less
abbrev pub bytes_cmp : List ℕ → List ℕ → Ordering
bytes_cmp = slice_cmp nat_cmp
