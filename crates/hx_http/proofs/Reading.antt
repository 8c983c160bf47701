-- Lines that are read as a head are those of a head of httparse's grammar.
use Rattle.std.proofs.Common.{◌≡◌, ◌≤◌, ◌<◌, ◌+◌, ◌-◌, ℕ, suc, Bool, true, false, List, [], ◌∷◌, ◌++◌, None, Some, refl, sym, ap, subst, ◌∙◌, cond, length, take, drop, map, codes, get_or, arith, append_assoc, add-one}
use Rattle.std.specs.Prelude.{◌==◌, ◌&&◌, nat_lt, IsTrue}
use Rattle.std.specs.declared.option.Option.{Option}
use Rattle.std.specs.Option.{option_map}
use Rattle.std.specs.List.{flat_map, list_all, AllByRecursion}
use Rattle.std.specs.Str.{bytes_eq, is_utf8}
use Rattle.std.specs.Str.Lines.{strip_carriage_return}
use Rattle.std.proofs.lemmas.List.{take-append-drop, length-map}
use Rattle.std.proofs.lemmas.List.Elements.{All-from_recursion}
use Rattle.std.proofs.lemmas.Grind.{common_steps}
use Rattle.std.proofs.lemmas.Bool.Decides.{nat_tests}
use Rattle.std.proofs.lemmas.Slice.Eq.{bytes_eq-Decides}
use Rattle.std.proofs.lemmas.Str.{IsUtf8-from_is_utf8}
use Rattle.httparse.specs.Grammar.{is_token_byte, is_uri_byte, is_value_byte, trim_ows, AllPass, LineEnd, crlf, lf, print_end, print_blank, print_version, Field, print_field, IsField, IsToken, RequestHead, print_request, IsRequestHead}
use Rattle.httparse.specs.Spans.{name_and_value}
use Rattle.httparse.proofs.GrammarLemmas.{cons-append}
use Rattle.hx_http.specs.Fronts.{Front, further, with_line, line_ended, front_from, front_of}
use Rattle.hx_http.specs.Heads.{Head, cut_at, grown, is_word, minor_of, start_by, start_behind, start_in, field_in, field_of, both, fields_of, head_by, head_of, parts_of}

-- a line and its end
pub record Row : Type 0 where
  pub text : List ℕ
  pub end : LineEnd

abbrev pub print_row : Row → List ℕ
print_row row = row.text ++ print_end row.end

abbrev pub text_of : Row → List ℕ
text_of row = row.text

-- bytes are empty lines, these lines and an empty one. Once the head has begun none are passed over
pub record Lines (begun : Bool) (bytes : List ℕ) (lines : List (List ℕ)) : Type 0 where
  pub blank : List LineEnd
  pub rows : List Row
  pub last : LineEnd
  pub none : begun ≡ true → blank ≡ []
  pub texts : map text_of rows ≡ lines
  pub is : bytes ≡ print_blank blank ++ (flat_map print_row rows ++ print_end last)

-- ---- a line and its carriage return

strip-ends : (line : List ℕ) → (end : LineEnd) × (line ++ 10 ∷ [] ≡ strip_carriage_return line ++ print_end end)
strip-ends line = go (get_or line (length line - 1) 0 == 13) refl
  where
    go : (b : Bool) → (get_or line (length line - 1) 0 == 13) ≡ b → (end : LineEnd) × (line ++ 10 ∷ [] ≡ cond b (take (length line - 1) line) line ++ print_end end)
    go false is = (lf, refl)
    go true is =
        let thirteen : get_or line (length line - 1) 0 ≡ 13 = grind (arith, nat_tests, is) in
        let some : 0 < length line = grind (arith, common_steps, thirteen) in
        let last : drop (length line - 1) line ≡ 13 ∷ [] = grind (arith, common_steps, thirteen, some) in
        let whole : line ≡ take (length line - 1) line ++ 13 ∷ [] = sym (take-append-drop (length line - 1) line) ∙ ap (λ l. take (length line - 1) line ++ l) last in
        (crlf, ap (λ l. l ++ 10 ∷ []) whole ∙ append_assoc (take (length line - 1) line) (13 ∷ []) (10 ∷ []))

-- ---- lines of a front

abbrev Shows : Bool → List ℕ → List ℕ → Option Front → Type 0
Shows begun line bytes found = (f : Front) → found ≡ Some f → Lines begun (line ++ take f.length bytes) f.lines

some_of : (f g : Front) → ◌≡◌ {A = Option Front} (Some f) (Some g) → f ≡ g
some_of f g e = cc e

-- one byte of the line
shows_byte : (begun : Bool) (line bytes : List ℕ) (byte : ℕ) (found : Option Front) → Shows begun (line ++ byte ∷ []) bytes found → Shows begun line (byte ∷ bytes) (option_map further found)
shows_byte begun line bytes byte None shows f e = absurd (cc e)
shows_byte begun line bytes byte (Some g) shows f e =
    let is = some_of (further g) f e in
    let here : (line ++ byte ∷ []) ++ take g.length bytes ≡ line ++ take (g.length + 1) (byte ∷ bytes) = append_assoc line (byte ∷ []) (take g.length bytes) ∙ ap (λ n. line ++ take n (byte ∷ bytes)) (sym (add-one g.length)) in
    subst (λ (f : Front). Lines begun (line ++ take f.length (byte ∷ bytes)) f.lines) is (subst (λ l. Lines begun l g.lines) here (shows g refl))

-- an empty line before the head
shows_blank : (line bytes : List ℕ) (found : Option Front) → strip_carriage_return line ≡ [] → Shows false [] bytes found → Shows false line (10 ∷ bytes) (option_map further found)
shows_blank line bytes None empty shows f e = absurd (cc e)
shows_blank line bytes (Some g) empty shows f e =
    let is = some_of (further g) f e in
    let rest = shows g refl in
    let ends = strip-ends line in
    let front : line ++ 10 ∷ [] ≡ print_end ends.0 = ends.1 ∙ ap (λ l. l ++ print_end ends.0) empty in
    let bytes_are : line ++ take (g.length + 1) (10 ∷ bytes) ≡ print_blank (ends.0 ∷ rest.blank) ++ (flat_map print_row rest.rows ++ print_end rest.last) =
    ap (λ n. line ++ take n (10 ∷ bytes)) (add-one g.length) ∙ sym (append_assoc line (10 ∷ []) (take g.length bytes)) ∙ ap (λ l. l ++ take g.length bytes) front ∙ ap (λ l. print_end ends.0 ++ l) rest.is
    ∙ sym (append_assoc (print_end ends.0) (print_blank rest.blank) (flat_map print_row rest.rows ++ print_end rest.last)) in
    subst (λ (f : Front). Lines false (line ++ take f.length (10 ∷ bytes)) f.lines) is
    (record { blank = ends.0 ∷ rest.blank; rows = rest.rows; last = rest.last; none = λ no. absurd (cc no); texts = rest.texts; is = bytes_are })

-- the empty line that ends the head
shows_last : (line bytes : List ℕ) → strip_carriage_return line ≡ [] → Shows true line (10 ∷ bytes) (option_map further (Some (record { length = 0; lines = [] })))
shows_last line bytes empty f e =
    let is = some_of (record { length = 1; lines = [] }) f e in
    let ends = strip-ends line in
    subst (λ (f : Front). Lines true (line ++ take f.length (10 ∷ bytes)) f.lines) is
    (record { blank = []; rows = []; last = ends.0; none = λ _. refl; texts = refl; is = ends.1 ∙ ap (λ l. l ++ print_end ends.0) empty })

-- another line
shows_line : (begun : Bool) (line bytes : List ℕ) (byte : ℕ) (text : List ℕ) (found : Option Front) → strip_carriage_return line ≡ byte ∷ text → Shows true [] bytes found
    → Shows begun line (10 ∷ bytes) (option_map further (option_map (with_line (byte ∷ text)) found))
shows_line begun line bytes byte text None is shows f e = absurd (cc e)
shows_line begun line bytes byte text (Some g) stripped shows f e =
    let is = some_of (further (with_line (byte ∷ text) g)) f e in
    let rest = shows g refl in
    let ends = strip-ends line in
    let row : Row = record { text = byte ∷ text; end = ends.0 } in
    let front : line ++ 10 ∷ [] ≡ print_row row = ends.1 ∙ ap (λ l. l ++ print_end ends.0) stripped in
    let none : print_blank rest.blank ++ (flat_map print_row rest.rows ++ print_end rest.last) ≡ flat_map print_row rest.rows ++ print_end rest.last =
    ap (λ b. print_blank b ++ (flat_map print_row rest.rows ++ print_end rest.last)) (rest.none refl) in
    let bytes_are : line ++ take (g.length + 1) (10 ∷ bytes) ≡ flat_map print_row (row ∷ rest.rows) ++ print_end rest.last =
    ap (λ n. line ++ take n (10 ∷ bytes)) (add-one g.length) ∙ sym (append_assoc line (10 ∷ []) (take g.length bytes)) ∙ ap (λ l. l ++ take g.length bytes) front ∙ ap (λ l. print_row row ++ l) (rest.is ∙ none)
    ∙ sym (append_assoc (print_row row) (flat_map print_row rest.rows) (print_end rest.last)) in
    subst (λ (f : Front). Lines begun (line ++ take f.length (10 ∷ bytes)) f.lines) is
    (record { blank = []; rows = row ∷ rest.rows; last = rest.last; none = λ _. refl; texts = ap (λ l. (byte ∷ text) ∷ l) rest.texts; is = bytes_are })

shows_ended : (begun : Bool) (line bytes text : List ℕ) (rest : Bool → Option Front) → strip_carriage_return line ≡ text → ((b : Bool) → Shows b [] bytes (rest b)) → Shows begun line (10 ∷ bytes) (option_map further (line_ended begun text rest))
shows_ended false line bytes [] rest is shows = shows_blank line bytes (rest false) is (shows false)
shows_ended true line bytes [] rest is shows = shows_last line bytes is
shows_ended false line bytes (byte ∷ text) rest is shows = shows_line false line bytes byte text (rest true) is (shows true)
shows_ended true line bytes (byte ∷ text) rest is shows = shows_line true line bytes byte text (rest true) is (shows true)

pub front-lines : (bytes : List ℕ) (begun : Bool) (line : List ℕ) → Shows begun line bytes (front_from bytes begun line)
front-lines [] begun line = λ f e. absurd (cc e)
front-lines (byte ∷ bytes) begun line =
    by_byte (byte == 10) refl
    (shows_ended begun line bytes (strip_carriage_return line) (λ (b : Bool). front_from bytes b []) refl (λ b. front-lines bytes b []))
    (shows_byte begun line bytes byte _ (front-lines bytes begun (line ++ byte ∷ [])))
  where
    feed : Option Front
    feed = line_ended begun (strip_carriage_return line) (λ (b : Bool). front_from bytes b [])

    on : Option Front
    on = front_from bytes begun (line ++ byte ∷ [])

    by_byte : (b : Bool) → (byte == 10) ≡ b → Shows begun line (10 ∷ bytes) (option_map further feed) → Shows begun line (byte ∷ bytes) (option_map further on)
        → Shows begun line (byte ∷ bytes) (option_map further (cond b feed on))
    by_byte false is p q = q
    by_byte true is p q = let ten : byte ≡ 10 = grind (arith, nat_tests, is) in subst (λ d. Shows begun line (d ∷ bytes) (option_map further feed)) (sym ten) p

-- ---- what is read was printed

cut-sound : (stop : ℕ) (s : List ℕ) (cut : List ℕ × List ℕ) → cut_at stop s ≡ Some cut → s ≡ cut.0 ++ stop ∷ cut.1
cut-sound stop [] cut e = absurd (cc e)
cut-sound stop (byte ∷ s) cut e = by_byte (byte == stop) refl (λ inner is. cut-sound stop s inner is) e
  where
    deeper : (found : Option (List ℕ × List ℕ)) → cut_at stop s ≡ found → grown byte found ≡ Some cut → ((inner : List ℕ × List ℕ) → cut_at stop s ≡ Some inner → s ≡ inner.0 ++ stop ∷ inner.1) → byte ∷ s ≡ cut.0 ++ stop ∷ cut.1
    deeper None is e ih = absurd (cc e)
    deeper (Some inner) is e ih =
        let same : ◌≡◌ {A = List ℕ × List ℕ} (byte ∷ inner.0, inner.1) cut = cc e in
        subst (λ (c : List ℕ × List ℕ). byte ∷ s ≡ c.0 ++ stop ∷ c.1) same (ap (λ l. byte ∷ l) (ih inner is))

    by_byte : (b : Bool) → (byte == stop) ≡ b → ((inner : List ℕ × List ℕ) → cut_at stop s ≡ Some inner → s ≡ inner.0 ++ stop ∷ inner.1) → cond b (Some ([], s)) (grown byte (cut_at stop s)) ≡ Some cut → byte ∷ s ≡ cut.0 ++ stop ∷ cut.1
    by_byte true is ih e =
        let same : ◌≡◌ {A = List ℕ × List ℕ} ([], s) cut = cc e in
        let byte_is : byte ≡ stop = grind (arith, nat_tests, is) in
        subst (λ (c : List ℕ × List ℕ). byte ∷ s ≡ c.0 ++ stop ∷ c.1) same (ap (λ b. b ∷ s) byte_is)
    by_byte false is ih e = deeper (cut_at stop s) refl e ih

and_true : (a b : Bool) → (a && b) ≡ true → (a ≡ true) × (b ≡ true)
and_true true true e = (refl, refl)
and_true true false e = absurd (cc e)
and_true false b e = absurd (cc e)

all-sound : (test : ℕ → Bool) (s : List ℕ) → list_all test s ≡ true → AllPass test s
all-sound test s e = All-from_recursion (λ b. IsTrue (test b)) s (walk s e)
  where
    walk : (s : List ℕ) → list_all test s ≡ true → AllByRecursion (λ b. IsTrue (test b)) s
    walk [] e = tt
    walk (byte ∷ s) e = let parts = and_true (test byte) (list_all test s) e in (parts.0, walk s parts.1)

word-sound : (test : ℕ → Bool) (s : List ℕ) → is_word test s ≡ true → (0 < length s) × AllPass test s
word-sound test s e =
    let parts = and_true (nat_lt 0 (length s)) (list_all test s) e in
    let some : 0 < length s = grind (arith, nat_tests, parts.0) in
    (some, all-sound test s parts.1)

-- a header was read
record ReadField (line : List ℕ) (end : LineEnd) (pair : List ℕ × List ℕ) : Type 0 where
  field : Field
  is_field : IsField field
  prints : print_field field ≡ line ++ print_end end
  shows : name_and_value field ≡ pair

field-sound : (line : List ℕ) (end : LineEnd) (pair : List ℕ × List ℕ) → field_of line ≡ Some pair → ReadField line end pair
field-sound line end pair e = by_cut (cut_at 58 line) refl e
  where
    by_test : (cut : List ℕ × List ℕ) → line ≡ cut.0 ++ 58 ∷ cut.1 → (b : Bool) → (is_word is_token_byte cut.0 && list_all is_value_byte cut.1) ≡ b → cond b (Some (cut.0, trim_ows cut.1)) None ≡ Some pair → ReadField line end pair
    by_test cut line_is false test e = absurd (cc e)
    by_test cut line_is true test e =
        let parts = and_true _ _ test in
        let field : Field = record { name = cut.0; raw = cut.1; end = end } in
        let prints : print_field field ≡ (cut.0 ++ 58 ∷ cut.1) ++ print_end end = simp (append_assoc, cons-append) in
        record {
          field = field;
          is_field = record { name = word-sound is_token_byte cut.0 parts.0; raw = all-sound is_value_byte cut.1 parts.1 };
          prints = prints ∙ ap (λ l. l ++ print_end end) (sym line_is);
          shows = cc e;
        }

    by_cut : (found : Option (List ℕ × List ℕ)) → cut_at 58 line ≡ found → field_in found ≡ Some pair → ReadField line end pair
    by_cut None is e = absurd (cc e)
    by_cut (Some cut) is e = by_test cut (cut-sound 58 line cut is) (is_word is_token_byte cut.0 && list_all is_value_byte cut.1) refl e

record ReadFields (rows : List Row) (pairs : List (List ℕ × List ℕ)) : Type 0 where
  fields : List Field
  are_fields : AllByRecursion IsField fields
  prints : flat_map print_field fields ≡ flat_map print_row rows
  shows : map name_and_value fields ≡ pairs
  many : length fields ≡ length rows

fields-sound : (rows : List Row) (pairs : List (List ℕ × List ℕ)) → fields_of (map text_of rows) ≡ Some pairs → ReadFields rows pairs
fields-sound [] pairs e = record { fields = []; are_fields = tt; prints = refl; shows = cc e; many = refl }
fields-sound (row ∷ rows) pairs e = by_field (field_of row.text) refl (fields_of (map text_of rows)) refl e (λ pairs is. fields-sound rows pairs is)
  where
    by_field : (first : Option (List ℕ × List ℕ)) → field_of row.text ≡ first → (rest : Option (List (List ℕ × List ℕ))) → fields_of (map text_of rows) ≡ rest → both first rest ≡ Some pairs
        → ((pairs : List (List ℕ × List ℕ)) → fields_of (map text_of rows) ≡ Some pairs → ReadFields rows pairs) → ReadFields (row ∷ rows) pairs
    by_field None first_is rest rest_is e ih = absurd (cc e)
    by_field (Some pair) first_is None rest_is e ih = absurd (cc e)
    by_field (Some pair) first_is (Some more) rest_is e ih =
        let first = field-sound row.text row.end pair first_is in
        let rest = ih more rest_is in
        let same : ◌≡◌ {A = List (List ℕ × List ℕ)} (pair ∷ more) pairs = cc e in
        record {
          fields = first.field ∷ rest.fields;
          are_fields = (first.is_field, rest.are_fields);
          prints = ap (λ l. l ++ flat_map print_field rest.fields) first.prints ∙ ap (λ l. print_row row ++ l) rest.prints;
          shows = ap (λ p. p ∷ map name_and_value rest.fields) first.shows ∙ ap (λ l. pair ∷ l) rest.shows ∙ same;
          many = ap suc rest.many;
        }

-- the first line was read
record ReadStart (line : List ℕ) (pairs : List (List ℕ × List ℕ)) (head : Head) : Type 0 where
  method : List ℕ
  target : List ℕ
  minor : ℕ
  is_method : IsToken method
  is_target : (0 < length target) × AllPass is_uri_byte target
  is_text : is_utf8 target ≡ true
  few : minor ≤ 1
  prints : line ≡ method ++ 32 ∷ (target ++ 32 ∷ print_version minor)
  shows : ◌≡◌ {A = Head} (record { method = method; target = target; minor = minor; fields = pairs }) head

minor-sound : (text : List ℕ) (minor : ℕ) → minor_of text ≡ Some minor → (minor ≤ 1) × (text ≡ print_version minor)
minor-sound text minor e = newer (bytes_eq text (codes "HTTP/1.1")) refl (bytes_eq text (codes "HTTP/1.0")) refl e
  where
    newer : (a : Bool) → bytes_eq text (codes "HTTP/1.1") ≡ a → (b : Bool) → bytes_eq text (codes "HTTP/1.0") ≡ b → cond a (Some 1) (cond b (Some 0) None) ≡ Some minor → (minor ≤ 1) × (text ≡ print_version minor)
    newer true is b other e =
        let same : 1 ≡ minor = cc e in
        let text_is : text ≡ codes "HTTP/1.1" = grind (arith, bytes_eq-Decides, is) in
        (omega (arith, same), text_is ∙ ap print_version same)
    newer false is true other e =
        let same : 0 ≡ minor = cc e in
        let text_is : text ≡ codes "HTTP/1.0" = grind (arith, bytes_eq-Decides, other) in
        (omega (arith, same), text_is ∙ ap print_version same)
    newer false is false other e = absurd (cc e)

start-sound : (line : List ℕ) (pairs : List (List ℕ × List ℕ)) (head : Head) → start_in pairs (cut_at 32 line) ≡ Some head → ReadStart line pairs head
start-sound line pairs head e = first (cut_at 32 line) refl e
  where
    tested : (method target : List ℕ) (minor : ℕ) → line ≡ method ++ 32 ∷ (target ++ 32 ∷ print_version minor) → minor ≤ 1
        → (b : Bool) → (is_word is_token_byte method && (is_word is_uri_byte target && is_utf8 target)) ≡ b → cond b (Some (record { method = method; target = target; minor = minor; fields = pairs })) None ≡ Some head → ReadStart line pairs head
    tested method target minor line_is few false test e = absurd (cc e)
    tested method target minor line_is few true test e =
        let parts = and_true _ _ test in
        let more = and_true _ _ parts.1 in
        record { method = method; target = target; minor = minor; is_method = word-sound is_token_byte method parts.0; is_target = word-sound is_uri_byte target more.0; is_text = more.1; few = few; prints = line_is; shows = cc e }

    third : (method target text : List ℕ) → line ≡ method ++ 32 ∷ (target ++ 32 ∷ text) → (found : Option ℕ) → minor_of text ≡ found → start_by method target pairs found ≡ Some head → ReadStart line pairs head
    third method target text line_is None is e = absurd (cc e)
    third method target text line_is (Some minor) is e =
        let read = minor-sound text minor is in
        tested method target minor (line_is ∙ ap (λ t. method ++ 32 ∷ (target ++ 32 ∷ t)) read.1) read.0 (is_word is_token_byte method && (is_word is_uri_byte target && is_utf8 target)) refl e

    second : (method rest : List ℕ) → line ≡ method ++ 32 ∷ rest → (found : Option (List ℕ × List ℕ)) → cut_at 32 rest ≡ found → start_behind method pairs found ≡ Some head → ReadStart line pairs head
    second method rest line_is None is e = absurd (cc e)
    second method rest line_is (Some cut) is e = third method cut.0 cut.1 (line_is ∙ ap (λ l. method ++ 32 ∷ l) (cut-sound 32 rest cut is)) (minor_of cut.1) refl e

    first : (found : Option (List ℕ × List ℕ)) → cut_at 32 line ≡ found → start_in pairs found ≡ Some head → ReadStart line pairs head
    first None is e = absurd (cc e)
    first (Some cut) is e = second cut.0 cut.1 (cut-sound 32 line cut is) (cut_at 32 cut.1) refl e

-- ---- the whole head

-- the bytes are a head of the grammar, with these parts
pub record IsPrinted (bytes : List ℕ) (head : Head) (lines : ℕ) : Type 0 where
  pub tree : RequestHead
  pub is_head : IsRequestHead tree
  pub prints : bytes ≡ print_request tree
  pub shows : parts_of tree ≡ head
  pub many : length tree.fields + 1 ≡ lines

printed : (bytes : List ℕ) (blank : List LineEnd) (rows : List Row) (last : LineEnd) (head : Head) → bytes ≡ print_blank blank ++ (flat_map print_row rows ++ print_end last) → head_of (map text_of rows) ≡ Some head → IsPrinted bytes head (length rows)
unfolding head_of print_request
printed bytes blank [] last head is e = absurd (cc e)
printed bytes blank (row ∷ rows) last head is e = by_fields (fields_of (map text_of rows)) refl e
  where
    by_fields : (found : Option (List (List ℕ × List ℕ))) → fields_of (map text_of rows) ≡ found → head_by row.text found ≡ Some head → IsPrinted bytes head (length (row ∷ rows))
    by_fields None fields_are e = absurd (cc e)
    by_fields (Some pairs) fields_are e =
        let start = start-sound row.text pairs head e in
        let fields = fields-sound rows pairs fields_are in
        let tree : RequestHead = record { blank = blank; method = start.method; target = start.target; minor = start.minor; line_end = row.end; fields = fields.fields; last = last } in
        let text : print_row row ≡ (start.method ++ 32 ∷ (start.target ++ 32 ∷ print_version start.minor)) ++ print_end row.end = ap (λ l. l ++ print_end row.end) start.prints in
        let whole : print_request tree ≡ print_blank blank ++ (((start.method ++ 32 ∷ (start.target ++ 32 ∷ print_version start.minor)) ++ print_end row.end ++ flat_map print_field fields.fields) ++ print_end last) = simp (append_assoc, cons-append) in
        record {
          tree = tree;
          is_head = record { method = start.is_method; target = start.is_target; target_text = IsUtf8-from_is_utf8 start.target start.is_text; minor = start.few; fields = All-from_recursion IsField fields.fields fields.are_fields };
          prints = is ∙ ap (λ l. print_blank blank ++ ((print_row row ++ l) ++ print_end last)) (sym fields.prints) ∙ ap (λ l. print_blank blank ++ ((l ++ flat_map print_field fields.fields) ++ print_end last)) text ∙ sym whole;
          shows = (λ i. record { method = start.method; target = start.target; minor = start.minor; fields = fields.shows i }) ∙ start.shows;
          many = omega (arith, fields.many);
        }

-- lines that a front has and that are read as a head: the front is a head of the grammar
pub head-printed : (bytes : List ℕ) (front : Front) (head : Head) → front_of bytes ≡ Some front → head_of front.lines ≡ Some head → IsPrinted (take front.length bytes) head (length front.lines)
head-printed bytes front head is e =
    let lines = front-lines bytes false [] front is in
    let read : head_of (map text_of lines.rows) ≡ Some head = ap head_of lines.texts ∙ e in
    let found = printed (take front.length bytes) lines.blank lines.rows lines.last head lines.is read in
    subst (λ n. IsPrinted (take front.length bytes) head n) (sym (length-map lines.rows text_of) ∙ ap length lines.texts) found
