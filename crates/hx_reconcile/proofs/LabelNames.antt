-- Keys and values of the labels that reconcilers write.
--     label_length           a DNS label isn't long
--     label_value            it is the value of a label
--     tree_key_legal         with the suffix of the tree it is the key of one
--     tree_key_of_tree       and that is a label of the tree
--     depth_legal            a number that a machine counts to is the value of a label
use Rattle.std.proofs.Common.{◌≡◌, ℕ, zero, suc, ◌+◌, ◌-◌, ◌%◌, ◌<◌, ◌≤◌, ◌^◌, Bool, true, false, cond, not, ◌&&◌, ◌||◌, ◌==◌, List, [], ◌∷◌, ◌++◌, length, get_or, drop, codes, None, Some, decimal, nat_eq, nat_le, nat_lt, refl, sym, ap, ◌∙◌, true≢false, eqb-true, arith}
use Rattle.std.specs.List.{ends_with, list_all, slice_split, prefix_len, onto_first, position_or_len}
use Rattle.std.specs.Cmp.Lexicographic.{pointwise, nat_list_eq_equiv}
use Rattle.std.proofs.Math.Seq.{drop-append-add, take-append-add, drop-append_seam}
use Rattle.std.proofs.lemmas.Bool.{and_parts, and_from, leb-true, le-leb}
use Rattle.std.proofs.lemmas.Fmt.{decimal_by_steps, decimal_nonempty, length-decimal-le}
use Rattle.std.proofs.lemmas.List.{length-append}
use Rattle.std.proofs.lemmas.List.Folds.{list_all-append}
use Rattle.hx_object.specs.Names.{is_dns_label, is_dns_byte, is_dns_end, is_dns_part, is_part_byte, is_subdomain, is_lower, is_upper, is_digit, is_alphanumeric, is_qualified_byte, is_qualified_part, is_label_value, is_label_key, is_key, is_key_cut_at, first_slash, has_length, has_ends}
use Rattle.hx_object.specs.Sizes.{is_tree_key}
use Rattle.hx_object.specs.WellKnown.{tree_suffix}
use Rattle.hx_model.specs.TreeLabels.{tree_key}

-- ---- bytes

all_more : (p q : ℕ → Bool) → ((b : ℕ) → p b ≡ true → q b ≡ true) → (xs : List ℕ) → list_all p xs ≡ true → list_all q xs ≡ true
all_more p q more [] all = refl
all_more p q more (x ∷ xs) all =
    let parts = and_parts (p x) (list_all p xs) all in
    and_from (q x) (list_all q xs) (more x parts.0) (all_more p q more xs parts.1)

at_all : (p : ℕ → Bool) (xs : List ℕ) (i : ℕ) → list_all p xs ≡ true → i < length xs → p (get_or xs i 0) ≡ true
at_all p [] i all within = absurd (omega arith)
at_all p (x ∷ xs) zero all within = (and_parts (p x) (list_all p xs) all).0
at_all p (x ∷ xs) (suc i) all within = at_all p xs i (and_parts (p x) (list_all p xs) all).1 (omega arith)

qualified_by : (l u d a r : Bool) → ((l || d) || a) ≡ true → ((l || (u || d)) || (a || r)) ≡ true
qualified_by true u d a r e = refl
qualified_by false true d a r e = refl
qualified_by false false true a r e = refl
qualified_by false false false true r e = refl
qualified_by false false false false r e = absurd (true≢false (sym e))

dns_qualified : (b : ℕ) → is_dns_byte b ≡ true → is_qualified_byte b ≡ true
dns_qualified b e = qualified_by (is_lower b) (is_upper b) (is_digit b) (b == 45) (b == 95 || b == 46) e

alphanumeric_by : (l u d a : Bool) → ((l || d) || a) ≡ true → not a ≡ true → (l || (u || d)) ≡ true
alphanumeric_by true u d a e n = refl
alphanumeric_by false true d a e n = refl
alphanumeric_by false false true a e n = refl
alphanumeric_by false false false true e n = absurd (true≢false (sym n))
alphanumeric_by false false false false e n = absurd (true≢false (sym e))

dns_alphanumeric : (b : ℕ) → is_dns_byte b ≡ true → is_dns_end b ≡ true → is_alphanumeric b ≡ true
dns_alphanumeric b e n = alphanumeric_by (is_lower b) (is_upper b) (is_digit b) (b == 45) e n

part_by : (l u d a : Bool) → ((l || d) || a) ≡ true → ((l || (false && u)) || (d || a)) ≡ true
part_by true u d a e = refl
part_by false u true a e = refl
part_by false u false true e = refl
part_by false u false false e = absurd (true≢false (sym e))

dns_part_byte : (b : ℕ) → is_dns_byte b ≡ true → is_part_byte false b ≡ true
dns_part_byte b e = part_by (is_lower b) (is_upper b) (is_digit b) (b == 45) e

-- a byte that a DNS label can't have
other_byte : (c : ℕ) → is_dns_byte c ≡ false → (b : ℕ) → is_dns_byte b ≡ true → not (b == c) ≡ true
other_byte c none b e = elim (b == c) as (λ t. (b == c) ≡ t → not t ≡ true) [
  | true ↦ λ same. absurd (true≢false (sym e ∙ (ap is_dns_byte (eqb-true b c same) ∙ none)))
  | false ↦ λ apart. refl
] refl

-- ---- values

record IsDnsLabel (n : List ℕ) : Type 0 where
  short : has_length 1 63 n ≡ true
  bytes : list_all is_dns_byte n ≡ true
  ends : has_ends is_dns_end n ≡ true
  least : 1 ≤ length n
  most : length n ≤ 63

dns_label_parts : (n : List ℕ) → is_dns_label n ≡ true → IsDnsLabel n
unfolding is_dns_label
dns_label_parts n e =
    let p = and_parts (has_length 1 63 n) (list_all is_dns_byte n && has_ends is_dns_end n) e in
    let q = and_parts (list_all is_dns_byte n) (has_ends is_dns_end n) p.1 in
    let r = and_parts (nat_le 1 (length n)) (nat_le (length n) 63) p.0 in
    record { short = p.0; bytes = q.0; ends = q.1; least = leb-true 1 (length n) r.0; most = leb-true (length n) 63 r.1 }

pub label_length : (n : List ℕ) → is_dns_label n ≡ true → length n ≤ 63
label_length n e = (dns_label_parts n e).most

pub label_value : (n : List ℕ) → is_dns_label n ≡ true → is_label_value n ≡ true
unfolding is_qualified_part
label_value n e =
    let label = dns_label_parts n e in
    let least = label.least in
    let ends = and_parts (is_dns_end (get_or n 0 0)) (is_dns_end (get_or n (length n - 1) 0)) label.ends in
    or_true (nat_eq (length n) 0) _
    (and_from (has_length 1 63 n) _ label.short
    (and_from (list_all is_qualified_byte n) _ (all_more is_dns_byte is_qualified_byte dns_qualified n label.bytes)
    (and_from (is_alphanumeric (get_or n 0 0)) _ (dns_alphanumeric _ (at_all is_dns_byte n 0 label.bytes (omega arith)) ends.0) (dns_alphanumeric _ (at_all is_dns_byte n (length n - 1) label.bytes (omega arith)) ends.1))))
  where
    or_true : (a b : Bool) → b ≡ true → (a || b) ≡ true
    or_true true b h = refl
    or_true false b h = h

digit_alphanumeric : (b : ℕ) → is_digit b ≡ true → is_alphanumeric b ≡ true
digit_alphanumeric b e = by (is_lower b) (is_upper b) (is_digit b) e
  where
    by : (l u d : Bool) → d ≡ true → (l || (u || d)) ≡ true
    by true u d h = refl
    by false true d h = refl
    by false false d h = h

digit_qualified : (b : ℕ) → is_digit b ≡ true → is_qualified_byte b ≡ true
digit_qualified b e = by (is_alphanumeric b) _ (digit_alphanumeric b e)
  where
    by : (a r : Bool) → a ≡ true → (a || r) ≡ true
    by true r h = refl
    by false r h = absurd (true≢false (sym h))

digit_byte : (n : ℕ) → n < 10 → is_digit (48 + n) ≡ true
digit_byte n small = and_from (nat_le 48 (48 + n)) (nat_le (48 + n) 57) (le-leb 48 (48 + n) (omega arith)) (le-leb (48 + n) 57 (omega arith))

all_digits : (n : ℕ) → n < 2 ^ 64 → list_all is_digit (decimal n) ≡ true
all_digits n fits =
    decimal_by_steps (λ n ds. list_all is_digit ds ≡ true) (λ n small. and_from (is_digit (48 + n)) true (digit_byte n small) refl)
    (λ n ds more all. list_all-append is_digit ds ((48 + n % 10) ∷ []) ∙ and_from (list_all is_digit ds) _ all (and_from (is_digit (48 + n % 10)) true (digit_byte (n % 10) (omega arith)) refl))
    n fits

pub depth_legal : (n : ℕ) → n < 2 ^ 64 → is_label_value (decimal n) ≡ true
unfolding is_qualified_part
depth_legal n fits =
    let least = decimal_nonempty n fits in
    let most = length-decimal-le 20 n (omega arith) (omega arith) fits in
    let digits = all_digits n fits in
    or_true (nat_eq (length (decimal n)) 0) _
    (and_from (has_length 1 63 (decimal n)) _ (and_from (nat_le 1 (length (decimal n))) _ (le-leb 1 (length (decimal n)) (omega arith)) (le-leb (length (decimal n)) 63 (omega arith)))
    (and_from (list_all is_qualified_byte (decimal n)) _ (all_more is_digit is_qualified_byte digit_qualified (decimal n) digits)
    (and_from (is_alphanumeric (get_or (decimal n) 0 0)) _ (digit_alphanumeric (get_or (decimal n) 0 0) (at_all is_digit (decimal n) 0 digits (omega arith)))
    (digit_alphanumeric (get_or (decimal n) (length (decimal n) - 1) 0) (at_all is_digit (decimal n) (length (decimal n) - 1) digits (omega arith))))))
  where
    or_true : (a b : Bool) → b ≡ true → (a || b) ≡ true
    or_true true b h = refl
    or_true false b h = h

-- ---- keys

-- a front that passes is in front of what passes behind it
prefix_all : (q : ℕ → Bool) (xs ys : List ℕ) → list_all q xs ≡ true → prefix_len q (xs ++ ys) ≡ length xs + prefix_len q ys
prefix_all q [] ys all = omega arith
prefix_all q (x ∷ xs) ys all =
    let parts = and_parts (q x) (list_all q xs) all in
    ap (λ b. cond b (1 + prefix_len q (xs ++ ys)) 0) parts.0 ∙ omega (arith, prefix_all q xs ys parts.1)

-- a front without the byte at which is cut is a part
split_front : (cuts : ℕ → Bool) (xs : List ℕ) (y : ℕ) (ys : List ℕ) → list_all (λ b. not (cuts b)) xs ≡ true → cuts y ≡ true → slice_split cuts (xs ++ y ∷ ys) ≡ xs ∷ slice_split cuts ys
split_front cuts [] y ys all cut = ap (λ b. cond b ([] ∷ slice_split cuts ys) (onto_first y (slice_split cuts ys))) cut
split_front cuts (x ∷ xs) y ys all cut =
    let parts = and_parts (not (cuts x)) (list_all (λ b. not (cuts b)) xs) all in
    ap (λ b. cond b ([] ∷ slice_split cuts (xs ++ y ∷ ys)) (onto_first x (slice_split cuts (xs ++ y ∷ ys)))) (flipped (cuts x) parts.0)
    ∙ ap (onto_first x) (split_front cuts xs y ys parts.1 cut)
  where
    flipped : (b : Bool) → not b ≡ true → b ≡ false
    flipped true h = absurd (true≢false (sym h))
    flipped false h = refl

part_of_label : (n : List ℕ) → is_dns_label n ≡ true → is_dns_part false n ≡ true
unfolding is_dns_part
part_of_label n e =
    let label = dns_label_parts n e in
    and_from (nat_le 1 (length n)) _ (le-leb 1 (length n) label.least) (and_from (list_all (is_part_byte false) n) _ (all_more is_dns_byte (is_part_byte false) dns_part_byte n label.bytes) label.ends)

tail_parts : list_all (is_dns_part false) (slice_split (λ byte. byte == 46) (codes "tree.hnc.x-k8s.io")) ≡ true
unfolding is_dns_part
tail_parts = refl

domain_legal : (n : List ℕ) → is_dns_label n ≡ true → is_subdomain false (n ++ codes ".tree.hnc.x-k8s.io") ≡ true
unfolding is_subdomain
domain_legal n e =
    let label = dns_label_parts n e in
    let least = label.least in
    let most = label.most in
    let size : length (n ++ codes ".tree.hnc.x-k8s.io") ≡ length n + 18 = length-append n (codes ".tree.hnc.x-k8s.io") in
    and_from (has_length 1 253 (n ++ codes ".tree.hnc.x-k8s.io")) _
    (and_from (nat_le 1 (length (n ++ codes ".tree.hnc.x-k8s.io"))) _ (le-leb 1 _ (omega arith)) (le-leb _ 253 (omega arith)))
    (ap (list_all (is_dns_part false)) (split_front (λ byte. byte == 46) n 46 (codes "tree.hnc.x-k8s.io") (all_more is_dns_byte (λ b. not (b == 46)) (other_byte 46 refl) n label.bytes) refl)
    ∙ and_from (is_dns_part false n) _ (part_of_label n e) tail_parts)

slash_place : (n : List ℕ) → is_dns_label n ≡ true → first_slash (tree_key n) ≡ Some (length n + 18)
slash_place n e =
    let label = dns_label_parts n e in
    let place : position_or_len (λ byte. byte == 47) (tree_key n) ≡ length n + 18 = prefix_all (λ b. not (b == 47)) n tree_suffix (all_more is_dns_byte (λ b. not (b == 47)) (other_byte 47 refl) n label.bytes) in
    let size : length (tree_key n) ≡ length n + 24 = length-append n tree_suffix in
    let within : nat_lt (position_or_len (λ byte. byte == 47) (tree_key n)) (length (tree_key n)) ≡ true = le-leb _ _ (omega arith) in
    ap (λ b. cond b (Some (position_or_len (λ byte. byte == 47) (tree_key n))) None) within ∙ ap Some place

cut_key : (n : List ℕ) → is_dns_label n ≡ true → is_key_cut_at false (tree_key n) (Some (length n + 18)) ≡ true
unfolding is_qualified_part
cut_key n e =
    let rest : length n + 18 + 1 ≡ length n + 19 = omega arith in
    ap (λ (k : List ℕ). is_subdomain false k && is_qualified_part (drop (length n + 18 + 1) (tree_key n))) (take-append-add n tree_suffix 18)
    ∙ and_from (is_subdomain false (n ++ codes ".tree.hnc.x-k8s.io")) _ (domain_legal n e)
    (ap (λ (k : ℕ). is_qualified_part (drop k (tree_key n))) rest ∙ ap is_qualified_part (drop-append-add n tree_suffix 19))

pub tree_key_legal : (n : List ℕ) → is_dns_label n ≡ true → is_label_key (tree_key n) ≡ true
unfolding is_key
tree_key_legal n e = ap (is_key_cut_at false (tree_key n)) (slash_place n e) ∙ cut_key n e

ends_with-append : (xs suffix : List ℕ) → ends_with nat_eq (xs ++ suffix) suffix ≡ true
ends_with-append xs suffix =
    let size = length-append xs suffix in
    let cut : length (xs ++ suffix) - length suffix ≡ length xs = omega arith in
    ap (λ (k : ℕ). pointwise nat_eq suffix (drop k (xs ++ suffix))) cut
    ∙ (ap (λ (k : List ℕ). pointwise nat_eq suffix k) (drop-append_seam xs suffix)
    ∙ nat_list_eq_equiv.refl suffix)

pub tree_key_of_tree : (n : List ℕ) → is_dns_label n ≡ true → is_tree_key (tree_key n) ≡ true
unfolding is_tree_key
tree_key_of_tree n e =
    let label = dns_label_parts n e in
    let least = label.least in
    let size : length (tree_key n) ≡ length n + 24 = length-append n tree_suffix in
    and_from (nat_lt (length tree_suffix) (length (tree_key n))) (ends_with nat_eq (tree_key n) tree_suffix) (le-leb (suc 24) (length (tree_key n)) (omega arith)) (ends_with-append n tree_suffix)
