-- A value that was read and has no float is canonical.
use Rattle.std.proofs.Common.{◌≡◌, ℕ, zero, suc, ◌^◌, ◌<◌, ◌≤◌, pos, negsuc, List, Bool, true, false, cond, ◌&&◌, ◌==◌, Option, Some, None, option_map, option_and_then, Ordering, Less, Equal, Greater, refl, ap, ◌∙◌, subst, arith, nat_cmp, drop, get_or, true≢false}
use Rattle.std.specs.Prelude.{⊤, nat_lt, nat_le}
use Rattle.std.proofs.lemmas.Bool.{or_parts}
use Rattle.std.proofs.lemmas.Bool.Decides.{nat_tests}
use Rattle.std.specs.Ordering.{match_ordering, ordering_reverse}
use Rattle.std.proofs.lemmas.Cmp.{nat_list_cmp_total}
use Rattle.std.specs.Cmp.Lexicographic.{slice_cmp}
use Rattle.std.specs.Float.{binary64, float_is_finite}
use Rattle.fast_float.specs.Text.{Parts, minus, scan, digits_of, nearest, with_sign}
use Rattle.json.specs.Lex.{tokens}
use Rattle.json.specs.Json as json
use Rattle.serde_json.specs.Data.{Num, unsigned, negative, float, Data, null, boolean, number, string, array, object, Items, no_items, item, Members, no_members, member, put}
use Rattle.serde_json.specs.Read.{number_of, number_from, float_of, is_integer, of_json, of_items, of_members, max_depth, read}
use Rattle.serde_json.specs.Written.{has_float, items_have_float, members_have_float}
use Rattle.hx_object.specs.Canonical.{IsWhole, IsBefore, IsCanonical, AreCanonical, AreMembers}

-- ---- numbers

IsTidyNum : Num → Type 0
IsTidyNum (unsigned n) = n < 2 ^ 64
IsTidyNum (negative (pos n)) = ⊥
IsTidyNum (negative (negsuc n)) = n < 2 ^ 63
IsTidyNum (float x) = ⊤

IsTidyOption : Option Num → Type 0
IsTidyOption None = ⊤
IsTidyOption (Some n) = IsTidyNum n

tidy_float : (sign : Bool) (p : Parts) → IsTidyOption (float_of sign p)
unfolding IsTidyOption IsTidyNum
tidy_float sign p = by (float_is_finite (nearest binary64 sign p))
  where
    by : (v : Bool) → IsTidyOption (cond v (Some (float (nearest binary64 sign p))) None)
    by true = tt
    by false = tt

tidy_unsigned : (p : Parts) → IsTidyOption (number_from false p)
unfolding IsTidyOption IsTidyNum
tidy_unsigned p = by (is_integer p) (nat_lt (digits_of p) (2 ^ 64)) refl
  where
    by : (u v : Bool) → nat_lt (digits_of p) (2 ^ 64) ≡ v → IsTidyOption (cond (u && v) (Some (unsigned (digits_of p))) (float_of false p))
    by true true e = grind (arith, nat_tests)
    by true false e = tidy_float false p
    by false v e = tidy_float false p

tidy_sign : (n : ℕ) → 0 < n → n ≤ 2 ^ 63 → IsTidyNum (negative (with_sign true n))
unfolding IsTidyNum
tidy_sign zero some most = absurd (omega arith)
tidy_sign (suc n) some most = omega arith

tidy_negative : (p : Parts) → IsTidyOption (number_from true p)
unfolding IsTidyOption
tidy_negative p = by (is_integer p) (nat_lt 0 (digits_of p)) refl (nat_le (digits_of p) (2 ^ 63)) refl
  where
    by : (u v : Bool) → nat_lt 0 (digits_of p) ≡ v → (w : Bool) → nat_le (digits_of p) (2 ^ 63) ≡ w
        → IsTidyOption (cond (u && v && w) (Some (negative (with_sign true (digits_of p)))) (float_of true p))
    by true true e true f = tidy_sign (digits_of p) (grind (arith, nat_tests)) (grind (arith, nat_tests))
    by true true e false f = tidy_float true p
    by true false e w f = tidy_float true p
    by false v e w f = tidy_float true p

tidy_number : (s : List ℕ) → IsTidyOption (number_of s)
unfolding number_of
tidy_number s = by (get_or s 0 0 == minus)
  where
    by : (v : Bool) → IsTidyOption (cond v (number_from true (scan (drop 1 s))) (number_from false (scan s)))
    by true = tidy_negative (scan (drop 1 s))
    by false = tidy_unsigned (scan s)

-- ---- values

mutual
  IsTidy : Data → Type 0
  IsTidy null = ⊤
  IsTidy (boolean b) = ⊤
  IsTidy (number n) = IsTidyNum n
  IsTidy (string s) = ⊤
  IsTidy (array ds) = AreTidyItems ds
  IsTidy (object ms) = AreTidy ms

  AreTidyItems : Items → Type 0
  AreTidyItems no_items = ⊤
  AreTidyItems (item d ds) = IsTidy d × AreTidyItems ds

  AreTidy : Members → Type 0
  AreTidy no_members = ⊤
  AreTidy (member k d ms) = IsBefore k ms × IsTidy d × AreTidy ms

pub before_all : (k l : List ℕ) (ms : Members) → slice_cmp nat_cmp k l ≡ Less → IsBefore l ms → IsBefore k ms
before_all k l no_members less h = tt
before_all k l (member m e ms) less h = (nat_list_cmp_total.trans k l m less h.0, before_all k l ms less h.1)

before_put_at : (o : Ordering) (q k l : List ℕ) (d e : Data) (ms : Members) → slice_cmp nat_cmp q k ≡ Less → IsBefore q (member l e ms) → IsBefore q (put k d ms)
    → IsBefore q (match_ordering o (member k d (member l e ms)) (member l d ms) (member l e (put k d ms)))
before_put_at Less q k l d e ms less h later = (less, h)
before_put_at Equal q k l d e ms less h later = h
before_put_at Greater q k l d e ms less h later = (h.0, later)

pub before_put : (q k : List ℕ) (d : Data) (ms : Members) → slice_cmp nat_cmp q k ≡ Less → IsBefore q ms → IsBefore q (put k d ms)
before_put q k d no_members less h = (less, tt)
before_put q k d (member l e ms) less h = before_put_at (slice_cmp nat_cmp k l) q k l d e ms less h (before_put q k d ms less h.1)

tidy_put_at : (o : Ordering) (k l : List ℕ) (d e : Data) (ms : Members) → slice_cmp nat_cmp k l ≡ o → IsTidy d → AreTidy (member l e ms) → AreTidy (put k d ms)
    → AreTidy (match_ordering o (member k d (member l e ms)) (member l d ms) (member l e (put k d ms)))
unfolding AreTidy
tidy_put_at Less k l d e ms is one h later = ((is, before_all k l ms is h.0), one, h)
tidy_put_at Equal k l d e ms is one h later = (h.0, one, h.2)
tidy_put_at Greater k l d e ms is one h later =
    let less : slice_cmp nat_cmp l k ≡ Less = nat_list_cmp_total.antisymm l k ∙ ap ordering_reverse is in
    (before_put l k d ms less h.0, h.1, later)

tidy_put : (k : List ℕ) (d : Data) (ms : Members) → IsTidy d → AreTidy ms → AreTidy (put k d ms)
unfolding AreTidy
tidy_put k d no_members one h = (tt, one, tt)
tidy_put k d (member l e ms) one h = tidy_put_at (slice_cmp nat_cmp k l) k l d e ms refl one h (tidy_put k d ms one h.2)

If : {A : Type 0} → (A → Type 0) → Option A → Type 0
If P None = ⊤
If P (Some a) = P a

if_map : {A B : Type 0} (P : A → Type 0) (Q : B → Type 0) (f : A → B) → ((a : A) → P a → Q (f a)) → (o : Option A) → If P o → If Q (option_map f o)
unfolding If
if_map P Q f h None x = tt
if_map P Q f h (Some a) x = h a x

if_then : {A B : Type 0} (P : A → Type 0) (Q : B → Type 0) (f : A → Option B) → ((a : A) → P a → If Q (f a)) → (o : Option A) → If P o → If Q (option_and_then f o)
unfolding If
if_then P Q f h None x = tt
if_then P Q f h (Some a) x = h a x

if_num : (o : Option Num) → IsTidyOption o → If IsTidyNum o
unfolding If IsTidyOption
if_num None h = tt
if_num (Some n) h = h

mutual
  unfolding If IsTidy AreTidyItems AreTidy

  tidy_json : (j : json.Json) → If IsTidy (of_json j)
  tidy_json json.null = tt
  tidy_json (json.boolean b) = tt
  tidy_json (json.number s) = if_map IsTidyNum IsTidy number (λ n h. h) (number_of s) (if_num _ (tidy_number s))
  tidy_json (json.string s) = tt
  tidy_json (json.array js) = if_map AreTidyItems IsTidy array (λ ds h. h) (of_items js) (tidy_items js)
  tidy_json (json.object ms) = if_map AreTidy IsTidy object (λ ds h. h) (of_members ms no_members) (tidy_members ms no_members tt)

  tidy_items : (js : json.Items) → If AreTidyItems (of_items js)
  tidy_items json.no_items = tt
  tidy_items (json.item j js) =
      if_then IsTidy AreTidyItems (λ d. option_map (item d) (of_items js)) (λ d h. if_map AreTidyItems AreTidyItems (item d) (λ ds g. (h, g)) (of_items js) (tidy_items js)) (of_json j) (tidy_json j)

  tidy_members : (ms : json.Members) (found : Members) → AreTidy found → If AreTidy (of_members ms found)
  tidy_members json.no_members found h = h
  tidy_members (json.member k j ms) found h =
      if_then IsTidy AreTidy (λ d. of_members ms (put k d found)) (λ d g. tidy_members ms (put k d found) (tidy_put k d found g h)) (of_json j) (tidy_json j)

whole_num : (n : Num) → IsTidyNum n → has_float (number n) ≡ false → IsWhole n
unfolding IsTidyNum
whole_num (unsigned n) h whole = h
whole_num (negative (pos n)) h whole = h
whole_num (negative (negsuc n)) h whole = h
whole_num (float x) h whole = absurd (true≢false whole)

mutual
  unfolding IsTidy AreTidyItems AreTidy

  canonical : (d : Data) → IsTidy d → has_float d ≡ false → IsCanonical d
  canonical null h whole = tt
  canonical (boolean b) h whole = tt
  canonical (number n) h whole = whole_num n h whole
  canonical (string s) h whole = tt
  canonical (array ds) h whole = canonical_items ds h whole
  canonical (object ms) h whole = canonical_members ms h whole

  canonical_items : (ds : Items) → AreTidyItems ds → items_have_float ds ≡ false → AreCanonical ds
  canonical_items no_items h whole = tt
  canonical_items (item d ds) h whole = let p = or_parts (has_float d) _ whole in (canonical d h.0 p.0, canonical_items ds h.1 p.1)

  canonical_members : (ms : Members) → AreTidy ms → members_have_float ms ≡ false → AreMembers ms
  canonical_members no_members h whole = tt
  canonical_members (member k d ms) h whole = let p = or_parts (has_float d) _ whole in (h.0, canonical d h.1 p.0, canonical_members ms h.2 p.1)

any : (o : Option json.Json) → If (λ _. ⊤) o
unfolding If
any None = tt
any (Some j) = tt

tidy_read : (text : List ℕ) → If IsTidy (read text)
tidy_read text =
    let parsed = option_and_then (λ p. json.if_last p.0 p.1) (json.value max_depth (tokens text)) in
    if_then (λ _. ⊤) IsTidy of_json (λ j h. tidy_json j) parsed (any parsed)

pub read-canonical : (text : List ℕ) (d : Data) → read text ≡ Some d → has_float d ≡ false → IsCanonical d
unfolding If
read-canonical text d is whole = canonical d (subst (If IsTidy) is (tidy_read text)) whole
