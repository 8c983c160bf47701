-- The compact text of a canonical value has an ordered tree.
--     compact_ordered    it is read as it stands
--     compact_usages     and so is what it reports of a quota
use Rattle.std.proofs.Common.{◌≡◌, ◌≤◌, ℕ, List, [], Bool, true, false, cond, ◌&&◌, pos, negsuc, Option, Some, None, option_map, option_and_then, unwrap_or, is_some, is_lt, Ordering, Less, Equal, Greater, nat_cmp, codes, refl, sym, ap, ◌∙◌, arith, true≢false, append-nil}
use Rattle.std.specs.Cmp.Lexicographic.{slice_cmp}
use Rattle.std.proofs.lemmas.Bool.{and_parts}
use Rattle.std.proofs.lemmas.Cmp.{nat_list_cmp_total}
use Rattle.json.specs.Lex.{tokens}
use Rattle.json.specs.Json as json
use Rattle.json.specs.Json.{Json}
use Rattle.json.specs.Find as find
use Rattle.json.specs.Tree as tree
use Rattle.json.proofs.Printed.Tokens.{tokens-print}
use Rattle.json.proofs.Printed.Trees.{value-json_tokens, ArePrintable-json_tokens}
use Rattle.serde_json.specs.Data.{Num, unsigned, negative, float, Data, null, boolean, number, string, array, object, Items, no_items, item, Members, no_members, member, depth}
use Rattle.serde_json.specs.Read.{max_depth}
use Rattle.serde_json.specs.Written.{number_text, outline, items_outline, members_outline, compact_text}
use Rattle.serde_json.proofs.Texts.{print-outline}
use Rattle.hx_object.specs.Canonical.{IsWhole, IsBefore, IsCanonical, AreCanonical, AreMembers}
use Rattle.hx_object.specs.declared.kind.Kind.{Kind}
use Rattle.hx_json.specs.Trees.{unless_float, whole_in, is_tame, items_are_tame, members_are_tame, is_after, is_sorted, items_are_sorted, are_sorted, is_head, kept_of, keeps_order, keeps_order_for, is_sorted_in, has_sorted_pairs, has_sorted_metadata, has_sorted_usages, tree_of, IsOrdered}
use Rattle.hx_json.proofs.RoundTrip.{depth-outline, number_read, numbers}

both : (u v : Bool) → u ≡ true → v ≡ true → (u && v) ≡ true
both true v h k = k
both false v h k = h

-- ---- its tree

pub tree_compact : (d : Data) → IsCanonical d → depth d ≤ max_depth → tree_of (compact_text d) ≡ Some (outline d)
tree_compact d h shallow =
    let ts = tree.json_tokens (outline d) in
    let same : tokens (compact_text d) ≡ ts = ap tokens (sym (print-outline d)) ∙ tokens-print ts (ArePrintable-json_tokens (outline d) (numbers d h)) in
    ap (λ t. option_and_then (λ p. json.if_last p.0 p.1) (json.value max_depth t)) (same ∙ sym (append-nil ts))
    ∙ ap (option_and_then (λ p. json.if_last p.0 p.1)) (value-json_tokens (outline d) max_depth [] (omega (arith, depth-outline d)))

-- ---- its numbers

tame_num : (n : Num) → IsWhole n → is_some (whole_in (number_text n)) ≡ true
tame_num (unsigned n) h = ap (λ o. is_some (unless_float o)) (number_read (unsigned n) h)
tame_num (negative (pos n)) h = absurd h
tame_num (negative (negsuc n)) h = ap (λ o. is_some (unless_float o)) (number_read (negative (negsuc n)) h)
tame_num (float x) h = absurd h

mutual
  tame : (d : Data) → IsCanonical d → is_tame (outline d) ≡ true
  tame null h = refl
  tame (boolean b) h = refl
  tame (number n) h = tame_num n h
  tame (string s) h = refl
  tame (array ds) h = tame_items ds h
  tame (object ms) h = tame_members ms h

  tame_items : (ds : Items) → AreCanonical ds → items_are_tame (items_outline ds) ≡ true
  tame_items no_items h = refl
  tame_items (item d ds) h = both (is_tame (outline d)) _ (tame d h.0) (tame_items ds h.1)

  tame_members : (ms : Members) → AreMembers ms → members_are_tame (members_outline ms) ≡ true
  tame_members no_members h = refl
  tame_members (member k d ms) h = both (is_tame (outline d)) _ (tame d h.1) (tame_members ms h.2)

-- ---- its order

AreAfter : Option (List ℕ) → Members → Type 0
AreAfter None ms = Unit {0}
AreAfter (Some b) ms = IsBefore b ms

after_first : (b : Option (List ℕ)) (k : List ℕ) (d : Data) (ms : Members) → AreAfter b (member k d ms) → is_after b k ≡ true
unfolding AreAfter
after_first None k d ms h = refl
after_first (Some b) k d ms h = ap is_lt h.0

mutual
  unfolding AreAfter

  sorted : (d : Data) → IsCanonical d → is_sorted (outline d) ≡ true
  sorted null h = refl
  sorted (boolean b) h = refl
  sorted (number n) h = refl
  sorted (string s) h = refl
  sorted (array ds) h = sorted_items ds h
  sorted (object ms) h = sorted_members None ms tt h

  sorted_items : (ds : Items) → AreCanonical ds → items_are_sorted (items_outline ds) ≡ true
  sorted_items no_items h = refl
  sorted_items (item d ds) h = both (is_sorted (outline d)) _ (sorted d h.0) (sorted_items ds h.1)

  sorted_members : (b : Option (List ℕ)) (ms : Members) → AreAfter b ms → AreMembers ms → are_sorted b (members_outline ms) ≡ true
  sorted_members b no_members after h = refl
  sorted_members b (member k d ms) after h = both (is_after b k) _ (after_first b k d ms after) (both (is_sorted (outline d)) _ (sorted d h.1) (sorted_members (Some k) ms h.0 h.2))

-- ---- what a sorted tree has is sorted

IsSorted : Option Json → Type 0
IsSorted None = Unit {0}
IsSorted (Some j) = is_sorted j ≡ true

later_sorted : (o : Option Json) (b : Bool) (j : Json) → IsSorted o → is_sorted j ≡ true → IsSorted (find.later_or o (cond b (Some j) None))
unfolding IsSorted
later_sorted None true j h k = k
later_sorted None false j h k = tt
later_sorted (Some i) b j h k = h

found_sorted : (name : List ℕ) (b : Option (List ℕ)) (ms : json.Members) → are_sorted b ms ≡ true → IsSorted (find.get_member name ms)
unfolding IsSorted
found_sorted name b json.no_members h = tt
found_sorted name b (json.member k j ms) h =
    let parts = and_parts (is_after b k) _ h in
    let rest = and_parts (is_sorted j) _ parts.1 in
    later_sorted (find.get_member name ms) _ j (found_sorted name (Some k) ms rest.1) rest.0

get_sorted : (name : List ℕ) (j : Json) → is_sorted j ≡ true → IsSorted (find.get name j)
unfolding IsSorted
get_sorted name json.null h = tt
get_sorted name (json.boolean b) h = tt
get_sorted name (json.number text) h = tt
get_sorted name (json.string text) h = tt
get_sorted name (json.array js) h = tt
get_sorted name (json.object ms) h = found_sorted name None ms h

unwrapped : (o : Option Json) → IsSorted o → unwrap_or (option_map is_sorted o) true ≡ true
unfolding IsSorted
unwrapped None h = refl
unwrapped (Some j) h = h

pairs_sorted : (o : Option Json) → IsSorted o → unwrap_or (option_map has_sorted_pairs o) true ≡ true
unfolding IsSorted
pairs_sorted None h = refl
pairs_sorted (Some j) h =
    both (is_sorted_in (codes "labels") j) _ (unwrapped (find.get (codes "labels") j) (get_sorted (codes "labels") j h)) (unwrapped (find.get (codes "annotations") j) (get_sorted (codes "annotations") j h))

-- ---- what is kept of it

less : (o : Ordering) → is_lt o ≡ true → o ≡ Less
less Less h = refl
less Equal h = absurd (true≢false (sym h))
less Greater h = absurd (true≢false (sym h))

over : (b : Option (List ℕ)) (k l : List ℕ) → is_after b k ≡ true → is_after (Some k) l ≡ true → is_after b l ≡ true
over None k l h next = refl
over (Some b) k l h next = ap is_lt (nat_list_cmp_total.trans b k l (less (slice_cmp nat_cmp b k) h) (less (slice_cmp nat_cmp k l) next))

skip : (b : Option (List ℕ)) (k : List ℕ) (ms : json.Members) → is_after b k ≡ true → are_sorted (Some k) ms ≡ true → are_sorted b ms ≡ true
skip b k json.no_members h rest = refl
skip b k (json.member l j ms) h rest = let parts = and_parts (is_after (Some k) l) _ rest in both (is_after b l) _ (over b k l h parts.0) parts.1

kept_sorted : (b : Option (List ℕ)) (ms : json.Members) → are_sorted b ms ≡ true → are_sorted b (kept_of ms) ≡ true
kept_sorted b json.no_members h = refl
kept_sorted b (json.member k j ms) h =
    let parts = and_parts (is_after b k) _ h in
    let rest = and_parts (is_sorted j) _ parts.1 in
    by (is_head k) (kept_sorted b ms (skip b k ms parts.0 rest.1)) (both (is_after b k) _ parts.0 (both (is_sorted j) _ rest.0 (kept_sorted (Some k) ms rest.1)))
  where
    by : (v : Bool) → are_sorted b (kept_of ms) ≡ true → are_sorted b (json.member k j (kept_of ms)) ≡ true → are_sorted b (cond v (kept_of ms) (json.member k j (kept_of ms))) ≡ true
    by true without with = without
    by false without with = with

order_kept : (j : Json) → is_sorted j ≡ true → keeps_order j ≡ true
order_kept json.null h = refl
order_kept (json.boolean b) h = refl
order_kept (json.number text) h = refl
order_kept (json.string text) h = refl
order_kept (json.array js) h = refl
order_kept (json.object ms) h = kept_sorted None ms h

hard_sorted : (o : Option Json) → IsSorted o → unwrap_or (option_map (is_sorted_in (codes "hard")) o) true ≡ true
unfolding IsSorted
hard_sorted None h = refl
hard_sorted (Some j) h = unwrapped (find.get (codes "hard") j) (get_sorted (codes "hard") j h)

order_kept_for : (kind : Kind) (j : Json) → is_sorted j ≡ true → keeps_order_for kind j ≡ true
order_kept_for Kind.Namespace j h = refl
order_kept_for Kind.HncConfiguration j h = refl
order_kept_for Kind.HierarchyConfiguration j h = refl
order_kept_for Kind.SubnamespaceAnchor j h = refl
order_kept_for Kind.HierarchicalResourceQuota j h = hard_sorted (find.get (codes "spec") j) (get_sorted (codes "spec") j h)
order_kept_for _ j h = order_kept j h

-- the compact text of a canonical value is read as it stands
pub compact_ordered : (kind : Kind) (d : Data) → IsCanonical d → depth d ≤ max_depth → IsOrdered kind (compact_text d)
compact_ordered kind d h shallow =
    let j = outline d in
    let order = sorted d h in (
      j,
      tree_compact d h shallow,
      both (is_tame j) _ (tame d h) (both (has_sorted_metadata j) _ (pairs_sorted (find.get (codes "metadata") j) (get_sorted (codes "metadata") j order)) (order_kept_for kind j order)),
    )

-- and so are the limits that it reports
pub compact_usages : (d : Data) (j : Json) → IsCanonical d → depth d ≤ max_depth → tree_of (compact_text d) ≡ Some j → has_sorted_usages j ≡ true
compact_usages d j h shallow is =
    let found : Some (outline d) ≡ Some j = sym (tree_compact d h shallow) ∙ is in
    let same : outline d ≡ j = cc in
    ap has_sorted_usages (sym same) ∙ hard_sorted (find.get (codes "status") (outline d)) (get_sorted (codes "status") (outline d) (sorted d h))
