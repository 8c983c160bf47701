-- Words and lines of a report.
--     words_text ws      words with one space between them, or `-` where there are none
--     line_text ws       a line of words
--     named_line name ws a line that begins with a name
use Rattle.std.specs.Prelude.{ℕ, List, [], ◌∷◌, ◌++◌, codes}
use Rattle.std.specs.List.{flat_map}

-- a space and a word
abbrev pub spaced : List ℕ → List ℕ
spaced word = codes " " ++ word

-- words with one space between them, or `-` where there are none
abbrev pub words_text : List (List ℕ) → List ℕ
words_text [] = codes "-"
words_text (word ∷ words) = word ++ flat_map spaced words

-- a line of words
abbrev pub line_text : List (List ℕ) → List ℕ
line_text words = words_text words ++ codes "\n"

-- a line that begins with a name, behind which words stand
abbrev pub named_line : List ℕ → List (List ℕ) → List ℕ
named_line name words = name ++ (codes " " ++ line_text words)
