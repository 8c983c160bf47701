-- The compact text of a canonical value reads as that value, so no two have one text.
use Rattle.std.proofs.Common.{◌≡◌, ℕ, suc, ◌≤◌, pos, negsuc, List, [], Option, Some, option_map, option_and_then, Greater, refl, sym, ap, ◌∙◌, arith, append-nil, nat_cmp}
use Rattle.std.specs.Prelude.{⊤}
use Rattle.std.specs.Ordering.{ordering_reverse}
use Rattle.std.proofs.lemmas.Cmp.{nat_list_cmp_total}
use Rattle.std.specs.Cmp.Lexicographic.{slice_cmp}
use Rattle.json.specs.Lex.{tokens}
use Rattle.json.specs.Print.{IsNumber}
use Rattle.json.specs.Json as json
use Rattle.json.specs.Tree as tree
use Rattle.json.proofs.Printed.Tokens.{tokens-print}
use Rattle.json.proofs.Printed.Trees.{value-json_tokens, ArePrintable-json_tokens}
use Rattle.json.proofs.Printed.Decimals.{IsNumber-decimal, IsNumber-signed_decimal}
use Rattle.serde_json.specs.Data.{Num, unsigned, negative, float, Data, null, boolean, number, string, array, object, Items, no_items, item, Members, no_members, member, put, depth, items_depth, members_depth}
use Rattle.serde_json.specs.Read.{number_of, of_json, of_items, of_members, max_depth, read}
use Rattle.serde_json.specs.Written.{number_text, outline, items_outline, members_outline, compact_text}
use Rattle.serde_json.proofs.Numbers.{number_of-decimal, number_of-negative}
use Rattle.serde_json.proofs.Texts.{print-outline}
use Rattle.json.specs.Token.{Token}
use Rattle.hx_object.specs.Canonical.{IsWhole, IsBefore, IsCanonical, AreCanonical, AreMembers}

-- ---- numbers

pub number_read : (n : Num) → IsWhole n → number_of (number_text n) ≡ Some n
number_read (unsigned n) h = number_of-decimal n h
number_read (negative (pos n)) h = absurd h
number_read (negative (negsuc n)) h = number_of-negative n h
number_read (float x) h = absurd h

is_number : (n : Num) → IsWhole n → IsNumber (number_text n)
is_number (unsigned n) h = IsNumber-decimal n h
is_number (negative (pos n)) h = absurd h
is_number (negative (negsuc n)) h = IsNumber-signed_decimal (negsuc n) (omega arith)
is_number (float x) h = absurd h

-- ---- members in order

abbrev pub join : Members → Members → Members
join no_members more = more
join (member k d ms) more = member k d (join ms more)

-- each key of the first comes before those of the second
abbrev pub AreBefore : Members → Members → Type 0
AreBefore no_members more = ⊤
AreBefore (member k d ms) more = IsBefore k more × AreBefore ms more

pub join_one : (found : Members) (k : List ℕ) (d : Data) (rest : Members) → join (join found (member k d no_members)) rest ≡ join found (member k d rest)
join_one no_members k d rest = refl
join_one (member l e ms) k d rest = ap (member l e) (join_one ms k d rest)

pub put_last : (found : Members) (k : List ℕ) (d e : Data) (rest : Members) → AreBefore found (member k e rest) → put k d found ≡ join found (member k d no_members)
put_last no_members k d e rest h = refl
put_last (member l f ms) k d e rest h =
    let above : slice_cmp nat_cmp k l ≡ Greater = nat_list_cmp_total.antisymm k l ∙ ap ordering_reverse h.0.0 in
    rw above (ap (member l f) (put_last ms k d e rest h.1))

pub join_none : (found : Members) → join found no_members ≡ found
join_none no_members = refl
join_none (member k d ms) = ap (member k d) (join_none ms)

pub still_before : (found : Members) (k : List ℕ) (d : Data) (rest : Members) → AreBefore found (member k d rest) → IsBefore k rest → AreBefore (join found (member k d no_members)) rest
still_before no_members k d rest h first = (first, tt)
still_before (member l e ms) k d rest h first = (h.0.1, still_before ms k d rest h.1 first)

-- ---- the value that the outline is

mutual
  of_outline : (d : Data) → IsCanonical d → of_json (outline d) ≡ Some d
  of_outline null h = refl
  of_outline (boolean b) h = refl
  of_outline (number n) h = ap (option_map number) (number_read n h)
  of_outline (string s) h = refl
  of_outline (array ds) h = ap (option_map array) (of_items_outline ds h)
  of_outline (object ms) h = ap (option_map object) (of_members_outline ms no_members h tt)

  of_items_outline : (ds : Items) → AreCanonical ds → of_items (items_outline ds) ≡ Some ds
  of_items_outline no_items h = refl
  of_items_outline (item d ds) h =
      ap (option_and_then (λ x. option_map (item x) (of_items (items_outline ds)))) (of_outline d h.0) ∙ ap (option_map (item d)) (of_items_outline ds h.1)

  of_members_outline : (ms found : Members) → AreMembers ms → AreBefore found ms → of_members (members_outline ms) found ≡ Some (join found ms)
  of_members_outline no_members found h before = ap Some (sym (join_none found))
  of_members_outline (member k d ms) found h before =
      ap (option_and_then (λ x. of_members (members_outline ms) (put k x found))) (of_outline d h.1)
      ∙ ap (of_members (members_outline ms)) (put_last found k d d ms before)
      ∙ of_members_outline ms (join found (member k d no_members)) h.2 (still_before found k d ms before h.0)
      ∙ ap Some (join_one found k d ms)

-- ---- its numbers and its depth

mutual
  pub numbers : (d : Data) → IsCanonical d → tree.HasNumbers (outline d)
  numbers null h = tt
  numbers (boolean b) h = tt
  numbers (number n) h = is_number n h
  numbers (string s) h = tt
  numbers (array ds) h = items_numbers ds h
  numbers (object ms) h = members_numbers ms h

  items_numbers : (ds : Items) → AreCanonical ds → tree.ItemsHaveNumbers (items_outline ds)
  items_numbers no_items h = tt
  items_numbers (item d ds) h = (numbers d h.0, items_numbers ds h.1)

  members_numbers : (ms : Members) → AreMembers ms → tree.MembersHaveNumbers (members_outline ms)
  members_numbers no_members h = tt
  members_numbers (member k d ms) h = (numbers d h.1, members_numbers ms h.2)

mutual
  pub depth-outline : (d : Data) → tree.depth (outline d) ≡ depth d
  depth-outline null = refl
  depth-outline (boolean b) = refl
  depth-outline (number n) = refl
  depth-outline (string s) = refl
  depth-outline (array ds) = ap suc (depth-items ds)
  depth-outline (object ms) = ap suc (depth-members ms)

  depth-items : (ds : Items) → tree.items_depth (items_outline ds) ≡ items_depth ds
  depth-items no_items = refl
  depth-items (item d ds) = omega (arith, depth-outline d, depth-items ds)

  depth-members : (ms : Members) → tree.members_depth (members_outline ms) ≡ members_depth ms
  depth-members no_members = refl
  depth-members (member k d ms) = omega (arith, depth-outline d, depth-members ms)

-- ---- the law

abbrev whole : Option (json.Json × List Token) → Option Data
whole o = option_and_then of_json (option_and_then (λ p. json.if_last p.0 p.1) o)

pub read-compact_text : (d : Data) → IsCanonical d → depth d ≤ max_depth → read (compact_text d) ≡ Some d
read-compact_text d h shallow =
    let ts = tree.json_tokens (outline d) in
    let same : tokens (compact_text d) ≡ ts = ap tokens (sym (print-outline d)) ∙ tokens-print ts (ArePrintable-json_tokens (outline d) (numbers d h)) in
    ap whole (ap (json.value max_depth) (same ∙ sym (append-nil ts)) ∙ value-json_tokens (outline d) max_depth [] (omega (arith, depth-outline d))) ∙ of_outline d h

-- no two canonical values have one text
pub compact_text_once : (d e : Data) → IsCanonical d → IsCanonical e → depth d ≤ max_depth → depth e ≤ max_depth → compact_text d ≡ compact_text e → d ≡ e
compact_text_once d e h k p q same =
    let both : Some d ≡ Some e = sym (read-compact_text d h p) ∙ ap read same ∙ read-compact_text e k q in cc
