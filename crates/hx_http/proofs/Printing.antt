-- The lines of a head of httparse's grammar, and the head that they are read as.
use Rattle.std.proofs.Common.{◌≡◌, ◌≤◌, ◌<◌, ◌+◌, ◌-◌, ℕ, suc, zero, Bool, true, false, List, [], ◌∷◌, ◌++◌, None, Some, refl, sym, ap, ◌∙◌, cond, length, take, map, codes, get_or, arith, append_assoc, append-nil, length-append, eq-eqb}
use Rattle.std.specs.Prelude.{◌==◌, ◌&&◌, nat_lt, IsTrue}
use Rattle.std.specs.declared.option.Option.{Option}
use Rattle.std.specs.Option.{option_map}
use Rattle.std.specs.List.{flat_map, list_all, AllByRecursion}
use Rattle.std.specs.Str.{is_utf8}
use Rattle.std.specs.Str.Lines.{strip_carriage_return}
use Rattle.std.proofs.Math.Seq.{get_or-append_seam, take-append_seam}
use Rattle.std.proofs.lemmas.List.Elements.{recursion_from_All}
use Rattle.std.proofs.lemmas.Bool.Decides.{nat_tests}
use Rattle.std.proofs.lemmas.Bool.{ne_eqb, false≢true}
use Rattle.std.proofs.lemmas.Str.{is_utf8-from_IsUtf8}
use Rattle.httparse.specs.Grammar.{is_token_byte, is_uri_byte, is_value_byte, trim_ows, AllPass, LineEnd, crlf, lf, print_end, print_blank, print_version, Field, print_field, IsField, print_section, RequestHead, print_request, IsRequestHead}
use Rattle.httparse.specs.Spans.{name_and_value}
use Rattle.httparse.proofs.GrammarLemmas.{cons-append}
use Rattle.hx_http.specs.Fronts.{Front, further, with_line, line_ended, front_from, front_of}
use Rattle.hx_http.specs.Heads.{cut_at, grown, is_word, minor_of, start_by, start_behind, start_in, field_in, field_of, both, fields_of, head_by, head_of, parts_of}
use Rattle.hx_http.specs.Searches.{after}
use Rattle.hx_http.specs.Inside.{HasNoFeed}

-- ---- so many bytes and these lines later

add_up : (a m n : ℕ) → a + m + n ≡ a + (m + n)
add_up a m n = omega arith

pub after-after : (n m : ℕ) (texts more : List (List ℕ)) (found : Option Front) → after n texts (after m more found) ≡ after (m + n) (texts ++ more) found
after-after n m texts more None = refl
after-after n m texts more (Some front) =
    let longer : front.length + m + n ≡ front.length + (m + n) = omega arith in
    let lines : texts ++ (more ++ front.lines) ≡ (texts ++ more) ++ front.lines = sym (append_assoc texts more front.lines) in
    λ i. Some (record { length = longer i; lines = lines i })

pub further-after : (found : Option Front) → option_map further found ≡ after 1 [] found
further-after None = refl
further-after (Some front) = refl

pub line-after : (text : List ℕ) (found : Option Front) → option_map (with_line text) found ≡ after 0 (text ∷ []) found
line-after text None = refl
line-after text (Some front) =
    let same : front.length ≡ front.length + 0 = omega arith in
    λ i. Some (record { length = same i; lines = text ∷ front.lines })

pub after-none : (found : Option Front) → after 0 [] found ≡ found
after-none None = refl
after-none (Some front) =
    let same : front.length + 0 ≡ front.length = omega arith in
    λ i. Some (record { length = same i; lines = front.lines })

-- ---- bytes without a line feed

pub no_feed-append : (a b : List ℕ) → HasNoFeed a → HasNoFeed b → HasNoFeed (a ++ b)
no_feed-append [] b p q = q
no_feed-append (byte ∷ a) b p q = (p.0, no_feed-append a b p.1 q)

pub front-stretch : (s rest : List ℕ) (begun : Bool) (line : List ℕ) → HasNoFeed s → front_from (s ++ rest) begun line ≡ after (length s) [] (front_from rest begun (line ++ s))
front-stretch [] rest begun line none = sym (after-none _) ∙ ap (λ l. after 0 [] (front_from rest begun l)) (sym (append-nil line))
front-stretch (byte ∷ s) rest begun line none =
    let ih = front-stretch s rest begun (line ++ byte ∷ []) none.1 in
    let first : front_from (byte ∷ (s ++ rest)) begun line ≡ option_map further (front_from (s ++ rest) begun (line ++ byte ∷ [])) =
    ap (λ t. option_map further (cond t (line_ended begun (strip_carriage_return line) (λ b. front_from (s ++ rest) b [])) (front_from (s ++ rest) begun (line ++ byte ∷ [])))) none.0 in
    let longer : length s + 1 ≡ length (byte ∷ s) = omega arith in
    first ∙ further-after _ ∙ ap (after 1 []) ih ∙ after-after 1 (length s) [] [] _ ∙ ap (λ n. after n [] (front_from rest begun ((line ++ byte ∷ []) ++ s))) longer
    ∙ ap (λ l. after (length (byte ∷ s)) [] (front_from rest begun l)) (append_assoc line (byte ∷ []) s)

pub front-feed : (rest : List ℕ) (begun : Bool) (line : List ℕ) → front_from (10 ∷ rest) begun line ≡ after 1 [] (line_ended begun (strip_carriage_return line) (λ (b : Bool). front_from rest b []))
front-feed rest begun line = further-after _

-- ---- carriage returns

pub strip-return : (text : List ℕ) → strip_carriage_return (text ++ 13 ∷ []) ≡ text
strip-return text =
    let len : length (text ++ 13 ∷ []) - 1 ≡ length text = omega (arith, length-append text (13 ∷ [])) in
    let last : get_or (text ++ 13 ∷ []) (length (text ++ 13 ∷ []) - 1) 0 ≡ 13 = rw len (get_or-append_seam text 13 [] 0) in
    let front : take (length (text ++ 13 ∷ []) - 1) (text ++ 13 ∷ []) ≡ text = rw len (take-append_seam text (13 ∷ [])) in
    ap (λ t. cond t (take (length (text ++ 13 ∷ []) - 1) (text ++ 13 ∷ [])) (text ++ 13 ∷ [])) (eq-eqb _ 13 last) ∙ front

-- bytes other than the carriage return and the line feed
abbrev pub IsPlain : ℕ → Type 0
IsPlain byte = ((byte == 10) ≡ false) × ((byte == 13) ≡ false)

abbrev pub AllPlain : List ℕ → Type 0
AllPlain bytes = AllByRecursion IsPlain bytes

pub plain-feed : (s : List ℕ) → AllPlain s → HasNoFeed s
plain-feed [] p = tt
plain-feed (byte ∷ s) p = (p.0.0, plain-feed s p.1)

pub plain-append : (a b : List ℕ) → AllPlain a → AllPlain b → AllPlain (a ++ b)
plain-append [] b p q = q
plain-append (byte ∷ a) b p q = (p.0, plain-append a b p.1 q)

last_plain : (s : List ℕ) → AllPlain s → (get_or s (length s - 1) 0 == 13) ≡ false
last_plain [] p = refl
last_plain (byte ∷ []) p = p.0.1
last_plain (byte ∷ next ∷ s) p =
    let k : length (byte ∷ next ∷ s) - 1 ≡ suc (length (next ∷ s) - 1) = omega arith in
    rw k (last_plain (next ∷ s) p.1)

pub strip-plain : (s : List ℕ) → AllPlain s → strip_carriage_return s ≡ s
strip-plain s p = ap (λ t. cond t (take (length s - 1) s) s) (last_plain s p)

pub plain_from : (test : ℕ → Bool) → ((byte : ℕ) → test byte ≡ true → IsPlain byte) → (s : List ℕ) → AllPass test s → AllPlain s
plain_from test plain s pass = walk s (recursion_from_All _ s pass)
  where
    walk : (s : List ℕ) → AllByRecursion (λ b. IsTrue (test b)) s → AllPlain s
    walk [] p = tt
    walk (byte ∷ s) p = (plain byte p.0, walk s p.1)

differs : (test : ℕ → Bool) (byte other : ℕ) → test byte ≡ true → test other ≡ false → (byte == other) ≡ false
differs test byte other is fails = ne_eqb byte other (λ e. false≢true (sym fails ∙ ap test (sym e) ∙ is))

token_plain : (byte : ℕ) → is_token_byte byte ≡ true → IsPlain byte
unfolding is_token_byte
token_plain byte is = (differs is_token_byte byte 10 is refl, differs is_token_byte byte 13 is refl)

uri_plain : (byte : ℕ) → is_uri_byte byte ≡ true → IsPlain byte
uri_plain byte is = (differs is_uri_byte byte 10 is refl, differs is_uri_byte byte 13 is refl)

value_plain : (byte : ℕ) → is_value_byte byte ≡ true → IsPlain byte
value_plain byte is = (differs is_value_byte byte 10 is refl, differs is_value_byte byte 13 is refl)

-- ---- lines

-- a line that isn't empty
pub front-line : (byte : ℕ) (s rest : List ℕ) (end : LineEnd) (begun : Bool) → AllPlain (byte ∷ s)
    → front_from ((byte ∷ s) ++ (print_end end ++ rest)) begun [] ≡ after (length (byte ∷ s) + length (print_end end)) ((byte ∷ s) ∷ []) (front_from rest true [])
front-line byte s rest end begun plain = go end
  where
    text : List ℕ
    text = byte ∷ s

    ended : (b : Bool) (line : List ℕ) → line ≡ byte ∷ s → line_ended b line (λ (b : Bool). front_from rest b []) ≡ after 0 ((byte ∷ s) ∷ []) (front_from rest true [])
    ended true line is = rw is (line-after (byte ∷ s) _)
    ended false line is = rw is (line-after (byte ∷ s) _)

    go : (end : LineEnd) → front_from ((byte ∷ s) ++ (print_end end ++ rest)) begun [] ≡ after (length (byte ∷ s) + length (print_end end)) ((byte ∷ s) ∷ []) (front_from rest true [])
    go lf =
        let len : 0 + 1 + length (byte ∷ s) ≡ length (byte ∷ s) + length (print_end lf) = omega arith in
        front-stretch (byte ∷ s) (10 ∷ rest) begun [] (plain-feed (byte ∷ s) plain)
        ∙ ap (after (length (byte ∷ s)) []) (front-feed rest begun (byte ∷ s) ∙ ap (after 1 []) (ended begun _ (strip-plain (byte ∷ s) plain)) ∙ after-after 1 0 [] ((byte ∷ s) ∷ []) _)
        ∙ after-after (length (byte ∷ s)) (0 + 1) [] ((byte ∷ s) ∷ []) _ ∙ ap (λ n. after n ((byte ∷ s) ∷ []) (front_from rest true [])) len
    go crlf =
        let len : 0 + 1 + length ((byte ∷ s) ++ 13 ∷ []) ≡ length (byte ∷ s) + length (print_end crlf) = omega (arith, length-append (byte ∷ s) (13 ∷ [])) in
        ap (λ l. front_from l begun []) (sym (append_assoc (byte ∷ s) (13 ∷ []) (10 ∷ rest)))
        ∙ front-stretch ((byte ∷ s) ++ 13 ∷ []) (10 ∷ rest) begun [] (no_feed-append (byte ∷ s) (13 ∷ []) (plain-feed (byte ∷ s) plain) (refl, tt))
        ∙ ap (after (length ((byte ∷ s) ++ 13 ∷ [])) []) (front-feed rest begun ((byte ∷ s) ++ 13 ∷ []) ∙ ap (after 1 []) (ended begun _ (strip-return (byte ∷ s))) ∙ after-after 1 0 [] ((byte ∷ s) ∷ []) _)
        ∙ after-after (length ((byte ∷ s) ++ 13 ∷ [])) (0 + 1) [] ((byte ∷ s) ∷ []) _ ∙ ap (λ n. after n ((byte ∷ s) ∷ []) (front_from rest true [])) len

-- empty lines before the head
pub front-blank : (ends : List LineEnd) (rest : List ℕ) → front_from (print_blank ends ++ rest) false [] ≡ after (length (print_blank ends)) [] (front_from rest false [])
front-blank [] rest = sym (after-none _)
front-blank (lf ∷ ends) rest =
    let len : length (print_blank ends) + 1 ≡ length (print_blank (lf ∷ ends)) = omega arith in
    further-after _ ∙ ap (after 1 []) (front-blank ends rest) ∙ after-after 1 (length (print_blank ends)) [] [] _ ∙ ap (λ n. after n [] (front_from rest false [])) len
front-blank (crlf ∷ ends) rest =
    let len : length (print_blank ends) + 1 + 1 ≡ length (print_blank (crlf ∷ ends)) = omega arith in
    further-after _ ∙ ap (after 1 []) (further-after _ ∙ ap (after 1 []) (front-blank ends rest) ∙ after-after 1 (length (print_blank ends)) [] [] _) ∙ after-after 1 (length (print_blank ends) + 1) [] [] _ ∙ ap (λ n. after n [] (front_from rest false [])) len

-- the empty line that ends the head
pub front-last : (end : LineEnd) (rest : List ℕ) → front_from (print_end end ++ rest) true [] ≡ Some (record { length = length (print_end end); lines = [] })
front-last lf rest = refl
front-last crlf rest = refl

-- ---- headers

abbrev pub field_text : Field → List ℕ
field_text f = f.name ++ 58 ∷ f.raw

pub field_plain : (f : Field) → IsField f → AllPlain (field_text f)
field_plain f is = plain-append f.name (58 ∷ f.raw) (plain_from is_token_byte token_plain f.name is.name.1) ((refl, refl), plain_from is_value_byte value_plain f.raw is.raw)

field-split : (f : Field) → print_field f ≡ field_text f ++ print_end f.end
field-split f = simp (append_assoc, cons-append)

regroup : (f : Field) (rest : List ℕ) → print_field f ++ rest ≡ field_text f ++ (print_end f.end ++ rest)
regroup f rest = simp (append_assoc, cons-append)

front-text : (text rest : List ℕ) (end : LineEnd) (begun : Bool) → 0 < length text → AllPlain text
    → front_from (text ++ (print_end end ++ rest)) begun [] ≡ after (length text + length (print_end end)) (text ∷ []) (front_from rest true [])
front-text [] rest end begun some plain = absurd (omega arith)
front-text (byte ∷ s) rest end begun some plain = front-line byte s rest end begun plain

pub front-field : (f : Field) (rest : List ℕ) → IsField f → front_from (print_field f ++ rest) true [] ≡ after (length (print_field f)) (field_text f ∷ []) (front_from rest true [])
front-field f rest is =
    let some : 0 < length (field_text f) = omega (arith, length-append f.name (58 ∷ f.raw)) in
    let len : length (field_text f) + length (print_end f.end) ≡ length (print_field f) = omega (arith, length-append (field_text f) (print_end f.end), ap length (field-split f)) in
    ap (λ l. front_from l true []) (regroup f rest) ∙ front-text (field_text f) rest f.end true some (field_plain f is) ∙ ap (λ n. after n (field_text f ∷ []) (front_from rest true [])) len

pub front-section : (fields : List Field) (last : LineEnd) (rest : List ℕ) → AllByRecursion IsField fields
    → front_from (print_section fields last ++ rest) true [] ≡ Some (record { length = length (print_section fields last); lines = map field_text fields })
front-section [] last rest is = front-last last rest
front-section (f ∷ fields) last rest is =
    let ih = front-section fields last rest is.1 in
    let split : print_section (f ∷ fields) last ++ rest ≡ print_field f ++ (print_section fields last ++ rest) =
    ap (λ l. l ++ rest) (append_assoc (print_field f) (flat_map print_field fields) (print_end last)) ∙ append_assoc (print_field f) (print_section fields last) rest in
    let len : length (print_section fields last) + length (print_field f) ≡ length (print_section (f ∷ fields) last) =
    omega (arith, ap length (append_assoc (print_field f) (flat_map print_field fields) (print_end last)), length-append (print_field f) (print_section fields last)) in
    ap (λ l. front_from l true []) split ∙ front-field f _ is.0 ∙ ap (after (length (print_field f)) (field_text f ∷ [])) ih
    ∙ (λ i. Some (record { length = len i; lines = field_text f ∷ map field_text fields }))

-- ---- a whole head

abbrev pub start_text : RequestHead → List ℕ
start_text h = h.method ++ 32 ∷ (h.target ++ 32 ∷ print_version h.minor)

abbrev pub head_lines : RequestHead → List (List ℕ)
head_lines h = start_text h ∷ map field_text h.fields

minor_plain : (minor : ℕ) → minor ≤ 1 → AllPlain (print_version minor)
minor_plain zero few = plain-append (codes "HTTP/1.") (48 ∷ []) version_plain ((refl, refl), tt)
  where
    version_plain : AllPlain (codes "HTTP/1.")
    version_plain = ((refl, refl), ((refl, refl), ((refl, refl), ((refl, refl), ((refl, refl), ((refl, refl), ((refl, refl), tt)))))))
minor_plain (suc zero) few = plain-append (codes "HTTP/1.") (49 ∷ []) version_plain ((refl, refl), tt)
  where
    version_plain : AllPlain (codes "HTTP/1.")
    version_plain = ((refl, refl), ((refl, refl), ((refl, refl), ((refl, refl), ((refl, refl), ((refl, refl), ((refl, refl), tt)))))))
minor_plain (suc (suc minor)) few = absurd (omega arith)

start_plain : (h : RequestHead) → IsRequestHead h → AllPlain (start_text h)
start_plain h is =
    plain-append h.method (32 ∷ (h.target ++ 32 ∷ print_version h.minor)) (plain_from is_token_byte token_plain h.method is.method.1)
    ((refl, refl), plain-append h.target (32 ∷ print_version h.minor) (plain_from is_uri_byte uri_plain h.target is.target.1) ((refl, refl), minor_plain h.minor is.minor))

-- the front of a head, whatever follows it
pub front-head : (h : RequestHead) (rest : List ℕ) → IsRequestHead h → front_of (print_request h ++ rest) ≡ Some (record { length = length (print_request h); lines = head_lines h })
unfolding print_request
front-head h rest is =
    let section = print_section h.fields h.last in
    let some : 0 < length (start_text h) = omega (arith, length-append h.method (32 ∷ (h.target ++ 32 ∷ print_version h.minor))) in
    let split : print_request h ++ rest ≡ print_blank h.blank ++ (start_text h ++ (print_end h.line_end ++ (section ++ rest))) = simp (append_assoc, cons-append) in
    let whole : print_request h ≡ print_blank h.blank ++ (start_text h ++ (print_end h.line_end ++ section)) = simp (append_assoc, cons-append) in
    let len : length section + (length (start_text h) + length (print_end h.line_end)) + length (print_blank h.blank) ≡ length (print_request h) =
    omega (arith, ap length whole, length-append (print_blank h.blank) (start_text h ++ (print_end h.line_end ++ section)), length-append (start_text h) (print_end h.line_end ++ section), length-append (print_end h.line_end) section) in
    ap (λ l. front_from l false []) split ∙ front-blank h.blank _
    ∙ ap (after (length (print_blank h.blank)) []) (front-text (start_text h) (section ++ rest) h.line_end false some (start_plain h is)
    ∙ ap (after (length (start_text h) + length (print_end h.line_end)) (start_text h ∷ [])) (front-section h.fields h.last rest (recursion_from_All IsField h.fields is.fields)))
    ∙ (λ i. Some (record { length = len i; lines = head_lines h }))

-- ---- what the lines are read as

cut-front : (stop : ℕ) (a b : List ℕ) → AllByRecursion (λ byte. (byte == stop) ≡ false) a → cut_at stop (a ++ stop ∷ b) ≡ Some (a, b)
cut-front stop [] b p = ap (λ t. cond t (Some ([], b)) (grown stop (cut_at stop b))) (eq-eqb stop stop refl)
cut-front stop (byte ∷ a) b p = ap (λ t. cond t (Some ([], a ++ stop ∷ b)) (grown byte (cut_at stop (a ++ stop ∷ b)))) p.0 ∙ ap (grown byte) (cut-front stop a b p.1)

without : (test : ℕ → Bool) (stop : ℕ) → test stop ≡ false → (s : List ℕ) → AllPass test s → AllByRecursion (λ byte. (byte == stop) ≡ false) s
without test stop fails s pass = walk s (recursion_from_All _ s pass)
  where
    walk : (s : List ℕ) → AllByRecursion (λ b. IsTrue (test b)) s → AllByRecursion (λ byte. (byte == stop) ≡ false) s
    walk [] p = tt
    walk (byte ∷ s) p = (differs test byte stop p.0 fails, walk s p.1)

token_stops : (is_token_byte 32 ≡ false) × (is_token_byte 58 ≡ false)
unfolding is_token_byte
token_stops = (refl, refl)

all_from : (test : ℕ → Bool) (s : List ℕ) → AllPass test s → list_all test s ≡ true
all_from test s pass = walk s (recursion_from_All _ s pass)
  where
    walk : (s : List ℕ) → AllByRecursion (λ b. IsTrue (test b)) s → list_all test s ≡ true
    walk [] p = refl
    walk (byte ∷ s) p = rw (p.0, walk s p.1) refl

word_from : (test : ℕ → Bool) (s : List ℕ) → 0 < length s → AllPass test s → is_word test s ≡ true
word_from test s some pass =
    let long : nat_lt 0 (length s) ≡ true = grind (arith, nat_tests, some) in
    rw (long, all_from test s pass) refl

field-read : (f : Field) → IsField f → field_of (field_text f) ≡ Some (name_and_value f)
field-read f is =
    let cut = cut-front 58 f.name f.raw (without is_token_byte 58 token_stops.1 f.name is.name.1) in
    let name = word_from is_token_byte f.name is.name.0 is.name.1 in
    let raw = all_from is_value_byte f.raw is.raw in
    let tests : (is_word is_token_byte f.name && list_all is_value_byte f.raw) ≡ true = rw (name, raw) refl in
    ap field_in cut ∙ ap (λ t. cond t (Some (f.name, trim_ows f.raw)) None) tests

fields-read : (fields : List Field) → AllByRecursion IsField fields → fields_of (map field_text fields) ≡ Some (map name_and_value fields)
fields-read [] is = refl
fields-read (f ∷ fields) is = ap (λ a. both a (fields_of (map field_text fields))) (field-read f is.0) ∙ ap (both (Some (name_and_value f))) (fields-read fields is.1)

minor-read : (minor : ℕ) → minor ≤ 1 → minor_of (print_version minor) ≡ Some minor
minor-read zero few = refl
minor-read (suc zero) few = refl
minor-read (suc (suc minor)) few = absurd (omega arith)

pub head-read : (h : RequestHead) → IsRequestHead h → head_of (head_lines h) ≡ Some (parts_of h)
unfolding head_of
head-read h is =
    let fields = fields-read h.fields (recursion_from_All IsField h.fields is.fields) in
    let pairs = map name_and_value h.fields in
    let method = cut-front 32 h.method (h.target ++ 32 ∷ print_version h.minor) (without is_token_byte 32 token_stops.0 h.method is.method.1) in
    let target = cut-front 32 h.target (print_version h.minor) (without is_uri_byte 32 refl h.target is.target.1) in
    let minor = minor-read h.minor is.minor in
    let tests : (is_word is_token_byte h.method && (is_word is_uri_byte h.target && is_utf8 h.target)) ≡ true =
    rw (word_from is_token_byte h.method is.method.0 is.method.1, word_from is_uri_byte h.target is.target.0 is.target.1, is_utf8-from_IsUtf8 h.target is.target_text) refl in
    ap (head_by (start_text h)) fields ∙ ap (start_in pairs) method ∙ ap (start_behind h.method pairs) target ∙ ap (start_by h.method h.target pairs) minor
    ∙ ap (λ t. cond t (Some (parts_of h)) None) tests
