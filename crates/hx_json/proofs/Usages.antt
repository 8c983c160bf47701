-- What is reported of quotas.
--     usages_legal    what a canonical value says are usages of a legal quota
--     usages_back     usages are read back from their members
--     usages_told     and from what is reported
use Rattle.std.proofs.Common.{◌≡◌, ◌<◌, ◌^◌, ℕ, List, [], ◌∷◌, Bool, true, false, cond, Option, Some, None, Ordering, Less, Equal, Greater, is_eq, is_lt, nat_cmp, nat_lt, map, option_and_then, unwrap_or, codes, refl, sym, ap, ◌∙◌, arith, true≢false}
use Rattle.std.specs.List.{AllByRecursion}
use Rattle.std.specs.Ordering.{match_ordering, ordering_reverse}
use Rattle.std.specs.Cmp.Lexicographic.{slice_cmp}
use Rattle.std.proofs.lemmas.Bool.{and_parts}
use Rattle.std.proofs.lemmas.Bool.Decides.{nat_tests}
use Rattle.std.proofs.lemmas.Cmp.{nat_list_cmp_total}
use Rattle.std.proofs.lemmas.Map.Text.{is_eq-slice_cmp}
use Rattle.std.proofs.lemmas.Slice.Eq.{bytes_eq-Decides}
use Rattle.serde_json.specs.Data.{Data, string, object, Members, no_members, member}
use Rattle.serde_json.specs.Find.{get_member}
use Rattle.hx_object.specs.Canonical.{IsCanonical, AreMembers}
use Rattle.hx_object.specs.Faults.{IsUsage}
use Rattle.hx_object.specs.Json.{hard_pair, used_pair, members_in, pairs_members, quota_status}
use Rattle.hx_object.specs.Pairs.{has_ascending_keys}
use Rattle.hx_object.specs.Quantities.{quantity_text}
use Rattle.hx_object.specs.declared.object.Usage.{Usage}
use Rattle.hx_quantity.specs.Printed.{printed_amount}
use Rattle.hx_quantity.proofs.PrintedBack.{printed-back, printed-below}
use Rattle.hx_json.specs.Reading.{counted_member, text_in, unless_null}
use Rattle.hx_json.specs.Rows.{amount_said, limit_said, usage_of, usages_of, usages_said}
use Rattle.hx_json.proofs.InOrder.{less, rest_ascends}
use Rattle.hx_json.proofs.Quotas.{members_inside}

-- ---- what a value says is legal

amount_below : (found : Option Data) → amount_said found < 2 ^ 128
amount_below found = by (text_in found)
  where
    by : (o : Option (List ℕ)) → unwrap_or (option_and_then printed_amount o) 0 < 2 ^ 128
    by None = omega arith
    by (Some text) = printed-below text

limit_below : (d : Data) → limit_said d < 2 ^ 64
limit_below d = by (nat_lt (amount_said (Some d)) (2 ^ 64)) refl
  where
    by : (small : Bool) → nat_lt (amount_said (Some d)) (2 ^ 64) ≡ small → cond small (amount_said (Some d)) 0 < 2 ^ 64
    by true e = grind (arith, nat_tests)
    by false e = omega arith

usages_ascend : (used : Option Data) (ms : Members) → AreMembers ms → has_ascending_keys (map hard_pair (usages_of used ms)) ≡ true
usages_ascend used no_members h = refl
usages_ascend used (member k d no_members) h = refl
usages_ascend used (member k d (member l e ms)) h = rw h.0.0 (usages_ascend used (member l e ms) h.2)

are_usages : (used : Option Data) (ms : Members) → AllByRecursion IsUsage (usages_of used ms)
are_usages used no_members = tt
are_usages used (member k d ms) = ((limit_below d, amount_below (option_and_then (counted_member k) used)), are_usages used ms)

pub usages_legal : (d : Data) → IsCanonical d → (has_ascending_keys (map hard_pair (usages_said d)) ≡ true) × AllByRecursion IsUsage (usages_said d)
usages_legal d h = (usages_ascend _ _ (members_inside (codes "status") (codes "hard") d h), are_usages _ _)

-- ---- amounts and their texts

amount_back : (n : ℕ) → n < 2 ^ 128 → amount_said (Some (string (quantity_text n))) ≡ n
amount_back n h = ap (λ o. unwrap_or o 0) (printed-back n h)

limit_back : (n : ℕ) → n < 2 ^ 64 → limit_said (string (quantity_text n)) ≡ n
limit_back n h =
    let small : nat_lt n (2 ^ 64) ≡ true = grind (arith, nat_tests) in
    ap (λ m. cond (nat_lt m (2 ^ 64)) m 0) (amount_back n (omega arith)) ∙ rw small refl

-- ---- what is used, by its name

-- the members tell what is used of a resource
abbrev IsIn : Members → Usage → Type 0
IsIn ms usage = get_member usage.resource ms ≡ Some (string (quantity_text usage.used))

-- the resource comes behind a name
abbrev IsBehind : List ℕ → Usage → Type 0
IsBehind k usage = slice_cmp nat_cmp k usage.resource ≡ Less

at_equal : (o : Ordering) (a b : Option Data) → is_eq o ≡ true → match_ordering o a b a ≡ b
at_equal Less a b e = absurd (true≢false (sym e))
at_equal Equal a b e = refl
at_equal Greater a b e = absurd (true≢false (sym e))

first_in : (k : List ℕ) (d : Data) (ms : Members) → get_member k (member k d ms) ≡ Some d
first_in k d ms = at_equal (slice_cmp nat_cmp k k) (get_member k ms) (Some d) (is_eq-slice_cmp k k ∙ (bytes_eq-Decides k k).1 refl)

all_behind : (k l : List ℕ) (us : List Usage) → slice_cmp nat_cmp k l ≡ Less → AllByRecursion (IsBehind l) us → AllByRecursion (IsBehind k) us
all_behind k l [] below h = tt
all_behind k l (u ∷ us) below h = (nat_list_cmp_total.trans k l u.resource below h.0, all_behind k l us below h.1)

later_behind : (u : Usage) (us : List Usage) → has_ascending_keys (map hard_pair (u ∷ us)) ≡ true → AllByRecursion (IsBehind u.resource) us
later_behind u [] h = tt
later_behind u (v ∷ us) h =
    let parts = and_parts (is_lt (slice_cmp nat_cmp u.resource v.resource)) (has_ascending_keys (map hard_pair (v ∷ us))) h in
    let first = less (slice_cmp nat_cmp u.resource v.resource) parts.0 in
    (first, all_behind u.resource v.resource us first (later_behind v us parts.1))

-- a member in front of all of them hides none
further_in : (k : List ℕ) (d : Data) (ms : Members) (us : List Usage) → AllByRecursion (IsBehind k) us → AllByRecursion (IsIn ms) us → AllByRecursion (IsIn (member k d ms)) us
further_in k d ms [] h found = tt
further_in k d ms (u ∷ us) h found =
    let above : slice_cmp nat_cmp u.resource k ≡ Greater = nat_list_cmp_total.antisymm u.resource k ∙ ap ordering_reverse h.0 in
    (rw above found.0, further_in k d ms us h.1 found.1)

all_in : (us : List Usage) → has_ascending_keys (map hard_pair us) ≡ true → AllByRecursion (IsIn (pairs_members (map used_pair us))) us
all_in [] h = tt
all_in (u ∷ us) h =
    let rest = pairs_members (map used_pair us) in
    let used = string (quantity_text u.used) in
    (first_in u.resource used rest, further_in u.resource used rest us (later_behind u us h) (all_in us (rest_ascends (hard_pair u) (map hard_pair us) h)))

-- ---- usages and their members

usage_back : (ms : Members) (u : Usage) → IsIn ms u → IsUsage u → usage_of (Some (object ms)) u.resource (string (quantity_text u.hard)) ≡ u
usage_back ms u found h =
    let hard = limit_back u.hard h.0 in
    let used : amount_said (unless_null (get_member u.resource ms)) ≡ u.used = ap (λ o. amount_said (unless_null o)) found ∙ amount_back u.used h.1 in
    λ i. record { resource = u.resource; hard = hard i; used = used i }

each_back : (ms : Members) (us : List Usage) → AllByRecursion (IsIn ms) us → AllByRecursion IsUsage us → usages_of (Some (object ms)) (pairs_members (map hard_pair us)) ≡ us
each_back ms [] found h = refl
each_back ms (u ∷ us) found h = λ i. usage_back ms u found.0 h.0 i ∷ each_back ms us found.1 h.1 i

pub usages_back : (us : List Usage) → has_ascending_keys (map hard_pair us) ≡ true → AllByRecursion IsUsage us
    → usages_of (Some (object (pairs_members (map used_pair us)))) (pairs_members (map hard_pair us)) ≡ us
usages_back us ascends h = each_back (pairs_members (map used_pair us)) us (all_in us ascends) h

pub usages_told : (us : List Usage) → has_ascending_keys (map hard_pair us) ≡ true → AllByRecursion IsUsage us
    → usages_of (get_member (codes "used") (quota_status us)) (members_in (get_member (codes "hard") (quota_status us))) ≡ us
usages_told [] ascends h = refl
usages_told (u ∷ us) ascends h = usages_back (u ∷ us) ascends h
