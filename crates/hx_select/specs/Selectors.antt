-- Label selectors, as the Kubernetes documentation has them ("Labels and Selectors").
--     selector_of text            the selector that a text is, or the first fault of the text
--     selects selector labels     whether the selector holds for labels
--     everything                  the selector that always holds
-- The grammar over tokens:
--     selector    = nothing | requirement ( "," requirement )*
--     requirement = key | "!" key | key ("=" | "==" | "!=") value | key "in" set | key "notin" set
--     set         = "(" value ( "," value )* ")"
--     value       = word | nothing
use Rattle.std.specs.Prelude.{ℕ, Bool, true, false, not, List, [], ◌∷◌, ◌++◌, length, codes, Option, Some, None, is_some, Result, Ok, Err, if◌then◌else◌}
use Rattle.std.specs.List.{list_all, list_any}
use Rattle.std.specs.Str.{bytes_eq}
use Rattle.hx_object.specs.Names.{is_label_key, is_label_value}
use Rattle.hx_object.specs.Pairs.{value_of}
use Rattle.hx_select.specs.declared.token.TokenKind.{TokenKind}
use Rattle.hx_select.specs.declared.token.TokenKind.TheVariants.{Comma, Open, Close, Bang, Equal, EqualEqual, NotEqual, Word}
use Rattle.hx_select.specs.declared.selector.Selector.{Selector}
use Rattle.hx_select.specs.declared.selector.Requirement.{Requirement}
use Rattle.hx_select.specs.declared.selector.Test.{Test}
use Rattle.hx_select.specs.declared.selector.Test.TheVariants.{There, Absent, In, NotIn}
use Rattle.hx_select.specs.declared.selector.SelectFault.{SelectFault}
use Rattle.hx_select.specs.declared.selector.SelectFault.TheVariants.{Syntax, BadKey, BadValue}
use Rattle.hx_select.specs.Tokens.{Token, tokens_of}

-- ---- what is held

-- whether a value is one of some
abbrev pub is_among : List ℕ → List (List ℕ) → Bool
is_among value values = list_any (bytes_eq value) values

-- whether a test holds for the value of a label, if the label is there
abbrev pub holds_for : Test → Option (List ℕ) → Bool
holds_for There label = is_some label
holds_for Absent label = not (is_some label)
holds_for (In values) None = false
holds_for (In values) (Some value) = is_among value values
holds_for (NotIn values) None = true
holds_for (NotIn values) (Some value) = not (is_among value values)

-- whether each requirement holds
abbrev pub selects : Selector → List (List ℕ × List ℕ) → Bool
selects selector labels = list_all (λ need. holds_for need.test (value_of labels need.key)) selector.needs

-- no requirements
abbrev pub everything : Selector
everything = record { needs = [] }

-- ---- how a text is read

-- a place between two tokens, by what has been read of a requirement. A truth value says whether the values are those that a label has to have, or those that it may not have
pub data Place : Type 0 where
  -- at the start: nothing of it
  Opening : Place
  -- behind a comma between requirements
  Wanted : Place
  -- `!`
  Negated : Place
  -- a key
  Named : List ℕ → Place
  -- a key and `=`, `==` or `!=`
  Compared : List ℕ → Bool → Place
  -- a key and `in` or `notin`
  Listed : List ℕ → Bool → Place
  -- a set up to where a value stands
  Valued : List ℕ → Bool → List (List ℕ) → Place
  -- a set up to the end of a word
  Parted : List ℕ → Bool → List (List ℕ) → Place
  -- the whole
  Whole : Requirement → Place

-- what comes of a token at a place: another place, the end of a requirement by a comma, or a fault
pub data Step : Type 0 where
  To : Place → Step
  Ends : Requirement → Step
  Stops : SelectFault → Step

abbrev pub requirement : List ℕ → Test → Requirement
requirement key test = record { key = key; test = test }

-- a key with values that its label has to have, or may not have
abbrev pub comparing : List ℕ → Bool → List (List ℕ) → Requirement
comparing key true values = requirement key (In values)
comparing key false values = requirement key (NotIn values)

-- a word that has to be a key
abbrev pub key_at : ℕ → List ℕ → Place → Step
key_at at word place = if is_label_key word then To place else Stops (BadKey at)

-- a word that has to be a value
abbrev pub value_at : ℕ → List ℕ → Place → Step
value_at at word place = if is_label_value word then To place else Stops (BadValue at)

-- a word that has to be `in` or `notin`
abbrev pub operator_at : ℕ → List ℕ → List ℕ → Step
operator_at at word key =
    if bytes_eq word (codes "in") then To (Listed key true) else
    if bytes_eq word (codes "notin") then To (Listed key false) else Stops (Syntax at)

-- what comes of a token of a kind at a place
abbrev pub step : Place → TokenKind → ℕ → List ℕ → Step
step Opening Bang at word = To Negated
step Opening Word at word = key_at at word (Named word)
step Wanted Bang at word = To Negated
step Wanted Word at word = key_at at word (Named word)
step Negated Word at word = key_at at word (Whole (requirement word Absent))
step (Named key) Comma at word = Ends (requirement key There)
step (Named key) Equal at word = To (Compared key true)
step (Named key) EqualEqual at word = To (Compared key true)
step (Named key) NotEqual at word = To (Compared key false)
step (Named key) Word at word = operator_at at word key
step (Compared key has) Comma at word = Ends (comparing key has ([] ∷ []))
step (Compared key has) Word at word = value_at at word (Whole (comparing key has (word ∷ [])))
step (Listed key has) Open at word = To (Valued key has [])
step (Valued key has values) Comma at word = To (Valued key has (values ++ [] ∷ []))
step (Valued key has values) Close at word = To (Whole (comparing key has (values ++ [] ∷ [])))
step (Valued key has values) Word at word = value_at at word (Parted key has (values ++ word ∷ []))
step (Parted key has values) Comma at word = To (Valued key has values)
step (Parted key has values) Close at word = To (Whole (comparing key has values))
step (Whole need) Comma at word = Ends need
step _ _ at word = Stops (Syntax at)

-- what comes of the end of a text of so many bytes: the last requirement, if any, or a fault
abbrev pub last_at : ℕ → Place → Result (List Requirement) SelectFault
last_at end Opening = Ok []
last_at end (Named key) = Ok (requirement key There ∷ [])
last_at end (Compared key has) = Ok (comparing key has ([] ∷ []) ∷ [])
last_at end (Whole need) = Ok (need ∷ [])
last_at end _ = Err (Syntax end)

-- a requirement before those that are read behind it
abbrev pub with_need : Requirement → Result (List Requirement) SelectFault → Result (List Requirement) SelectFault
with_need need (Ok needs) = Ok (need ∷ needs)
with_need need (Err fault) = Err fault

-- what is read behind a step
abbrev pub behind : Step → (Place → Result (List Requirement) SelectFault) → Result (List Requirement) SelectFault
behind (To place) reads = reads place
behind (Ends need) reads = with_need need (reads Wanted)
behind (Stops fault) reads = Err fault

-- the requirements that tokens are, from a place to the end of a text of so many bytes
abbrev pub needs_from : ℕ → Place → List Token → Result (List Requirement) SelectFault
needs_from end place [] = last_at end place
needs_from end place (token ∷ tokens) = behind (step place token.kind token.at token.text) (λ next. needs_from end next tokens)

-- the requirements that a text is, or its first fault
abbrev pub needs_of : List ℕ → Result (List Requirement) SelectFault
needs_of text = needs_from (length text) Opening (tokens_of text)

abbrev pub selector_by : Result (List Requirement) SelectFault → Result Selector SelectFault
selector_by (Ok needs) = Ok (record { needs = needs })
selector_by (Err fault) = Err fault

-- the selector that a text is, or its first fault
unfoldable pub selector_of : List ℕ → Result Selector SelectFault
selector_of text = selector_by (needs_of text)
