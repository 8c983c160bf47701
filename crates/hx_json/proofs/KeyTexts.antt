-- The key of an object that may be stored is UTF-8, since its names are ASCII.
use Rattle.std.proofs.Common.{◌≡◌, ◌∙◌, ◌<◌, ◌≤◌, ℕ, Bool, true, false, not, ◌&&◌, ◌||◌, ◌==◌, nat_lt, nat_le, List, [], ◌∷◌, ◌++◌, length, codes, Option, Some, None, refl, sym, subst, ap, arith, true≢false, eqb-true, inl, inr, IsUtf8}
use Rattle.std.specs.Prelude.{if◌then◌else◌}
use Rattle.std.specs.List.{list_all, slice_split, join_with_byte}
use Rattle.std.proofs.lemmas.Bool.{and_parts, or_cases}
use Rattle.std.proofs.lemmas.Bool.Decides.{Decides-ltb, leb_tells}
use Rattle.std.proofs.lemmas.List.Splits.{join_with_byte-slice_split}
use Rattle.json.proofs.Printed.Utf8.{are_ascii, IsUtf8-are_ascii}
use Rattle.hx_object.specs.Faults.{object_fault, has_legal_names, has_legal_namespace}
use Rattle.hx_object.specs.Kinds.{is_in_cluster, number_of}
use Rattle.hx_object.specs.Names.{is_lower, is_digit, dash, is_dns_byte, is_part_byte, is_role_byte, is_dns_label, is_dns_part, is_subdomain, is_role_name, is_name_of, is_points, has_length, has_ends, is_dns_end, point}
use Rattle.hx_object.specs.declared.kind.Kind.{Kind}
use Rattle.hx_object.specs.declared.kind.Kind.TheVariants as of
use Rattle.hx_object.specs.declared.object.Object.{Object}
use Rattle.hx_object.specs.declared.object.ObjectFault.{ObjectFault}
use Rattle.hx_object.specs.declared.object.ObjectFault.TheVariants.{BadName}
use Rattle.hx_model.specs.Serving.{IsServed}
use Rattle.hx_model.specs.Texts.{key_text, two_digits}

-- ---- bytes

below : (byte most : ℕ) → nat_le byte most ≡ true → most < 128 → nat_lt byte 128 ≡ true
below byte most h small =
    let le : byte ≤ most = elim (leb_tells byte most) [ inl low ↦ low.1 | inr high ↦ absurd (true≢false (sym h ∙ high.0)) ] in
    (Decides-ltb byte 128).1 (omega (arith, le, small))

between : (byte least most : ℕ) → (nat_le least byte && nat_le byte most) ≡ true → most < 128 → nat_lt byte 128 ≡ true
between byte least most h small = below byte most (and_parts (nat_le least byte) (nat_le byte most) h).1 small

is_dash : (byte : ℕ) → (byte == dash) ≡ true → nat_lt byte 128 ≡ true
is_dash byte h = ap (λ b. nat_lt b 128) (eqb-true byte dash h)

dns_byte : (byte : ℕ) → is_dns_byte byte ≡ true → nat_lt byte 128 ≡ true
dns_byte byte h = elim (or_cases (is_lower byte || is_digit byte) (byte == dash) h) [
  | inl other ↦ elim (or_cases (is_lower byte) (is_digit byte) other) [ inl lower ↦ between byte 97 122 lower (omega arith) | inr digit ↦ between byte 48 57 digit (omega arith) ]
  | inr is ↦ is_dash byte is
]

part_byte : (byte : ℕ) → is_part_byte false byte ≡ true → nat_lt byte 128 ≡ true
part_byte byte h = elim (or_cases (is_lower byte || false) (is_digit byte || byte == dash) h) [
  | inl letter ↦ elim (or_cases (is_lower byte) false letter) [ inl lower ↦ between byte 97 122 lower (omega arith) | inr is ↦ absurd (true≢false (sym is)) ]
  | inr other ↦ elim (or_cases (is_digit byte) (byte == dash) other) [ inl digit ↦ between byte 48 57 digit (omega arith) | inr is ↦ is_dash byte is ]
]

role_byte : (byte : ℕ) → is_role_byte byte ≡ true → nat_lt byte 128 ≡ true
role_byte byte h = below byte 126 (and_parts (nat_le byte 126) _ (and_parts (nat_le 33 byte) _ h).1).0 (omega arith)

-- ---- names

both : (u v : Bool) → u ≡ true → v ≡ true → (u && v) ≡ true
both true v h k = k
both false v h k = h

ascii_all : (p : ℕ → Bool) → ((byte : ℕ) → p byte ≡ true → nat_lt byte 128 ≡ true) → (xs : List ℕ) → list_all p xs ≡ true → are_ascii xs ≡ true
ascii_all p low [] h = refl
ascii_all p low (x ∷ xs) h = let parts = and_parts (p x) (list_all p xs) h in both (nat_lt x 128) _ (low x parts.0) (ascii_all p low xs parts.1)

ascii_append : (xs ys : List ℕ) → are_ascii xs ≡ true → are_ascii ys ≡ true → are_ascii (xs ++ ys) ≡ true
ascii_append [] ys h k = k
ascii_append (x ∷ xs) ys h k = let parts = and_parts (nat_lt x 128) (are_ascii xs) h in both (nat_lt x 128) _ parts.0 (ascii_append xs ys parts.1 k)

label_ascii : (name : List ℕ) → is_dns_label name ≡ true → are_ascii name ≡ true
unfolding is_dns_label
label_ascii name h = ascii_all is_dns_byte dns_byte name (and_parts (list_all is_dns_byte name) (has_ends is_dns_end name) (and_parts (has_length 1 63 name) _ h).1).0

role_ascii : (name : List ℕ) → is_role_name name ≡ true → are_ascii name ≡ true
unfolding is_role_name
role_ascii name h = ascii_all is_role_byte role_byte name (and_parts (list_all is_role_byte name) (not (is_points name)) (and_parts (has_length 1 253 name) _ h).1).0

part_ascii : (part : List ℕ) → is_dns_part false part ≡ true → are_ascii part ≡ true
unfolding is_dns_part
part_ascii part h = ascii_all (is_part_byte false) part_byte part (and_parts (list_all (is_part_byte false) part) (has_ends is_dns_end part) (and_parts (nat_le 1 (length part)) _ h).1).0

parts_ascii : (parts : List (List ℕ)) → list_all (is_dns_part false) parts ≡ true → are_ascii (join_with_byte point parts) ≡ true
parts_ascii [] h = refl
parts_ascii (part ∷ []) h = part_ascii part (and_parts (is_dns_part false part) true h).0
parts_ascii (part ∷ next ∷ parts) h =
    let split = and_parts (is_dns_part false part) (list_all (is_dns_part false) (next ∷ parts)) h in
    ascii_append part (point ∷ join_with_byte point (next ∷ parts)) (part_ascii part split.0) (parts_ascii (next ∷ parts) split.1)

subdomain_ascii : (name : List ℕ) → is_subdomain false name ≡ true → are_ascii name ≡ true
unfolding is_subdomain
subdomain_ascii name h =
    subst (λ text. are_ascii text ≡ true) (join_with_byte-slice_split point name)
    (parts_ascii (slice_split (λ byte. byte == point) name) (and_parts (has_length 1 253 name) _ h).1)

name_ascii : (kind : Kind) (name : List ℕ) → is_name_of kind name ≡ true → are_ascii name ≡ true
name_ascii of.Namespace name h = label_ascii name h
name_ascii of.SubnamespaceAnchor name h = label_ascii name h
name_ascii of.Role name h = role_ascii name h
name_ascii of.RoleBinding name h = role_ascii name h
name_ascii kind name h = subdomain_ascii name h

digits_ascii : (kind : Kind) → are_ascii (two_digits (number_of kind)) ≡ true
digits_ascii of.Namespace = refl
digits_ascii kind = refl

-- ---- the key

sound_first : (b : Bool) (fault : ObjectFault) (rest : Option ObjectFault) → (if not b then Some fault else rest) ≡ None → b ≡ true
sound_first true fault rest e = refl
sound_first false fault rest e = absurd (let clash : Some fault ≡ None = e in cc)

legal_names : (x : Object) → object_fault x ≡ None → has_legal_names x.id ≡ true
unfolding object_fault
legal_names x sound = sound_first (has_legal_names x.id) BadName _ sound

namespace_ascii : (kind : Kind) (ns : List ℕ) → (is_in_cluster kind ≡ true → ns ≡ []) → (is_in_cluster kind || is_dns_label ns) ≡ true → are_ascii ns ≡ true
namespace_ascii kind ns home h = by (is_in_cluster kind) home h
  where
    by : (b : Bool) → (b ≡ true → ns ≡ []) → (b || is_dns_label ns) ≡ true → are_ascii ns ≡ true
    by true home h = ap are_ascii (home refl)
    by false home h = label_ascii ns h

pub key_utf8 : (x : Object) → IsServed x → IsUtf8 (key_text x.id)
unfolding key_text has_legal_names
key_utf8 x served =
    let names = and_parts (has_legal_namespace x.id) (is_name_of x.id.kind x.id.name) (legal_names x served.legal.sound) in
    let name = name_ascii x.id.kind x.id.name names.1 in
    let ns = namespace_ascii x.id.kind x.id.ns served.legal.home names.0 in
    let last = codes "/" ++ x.id.name in
    let rest = codes "/" ++ (x.id.ns ++ last) in
    IsUtf8-are_ascii (two_digits (number_of x.id.kind) ++ rest) (ascii_append (two_digits (number_of x.id.kind)) rest (digits_ascii x.id.kind) (ascii_append x.id.ns last ns name))
