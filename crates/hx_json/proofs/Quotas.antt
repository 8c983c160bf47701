-- Limits of quotas.
--     amount_laid          what is read of a value as it stands
--     quota_payload        what a canonical body without fault says of a quota is a quota's payload
--     quota_sound          a quota without fault has quantities as its limits
--     quantities_back      so has one whose payload is a quota's
--     limits_back          limits are read back from their members
--     members_inside       the members of a member inside another one of a canonical value stand in order
use Rattle.std.proofs.Common.{◌≡◌, ℕ, List, [], ◌∷◌, Bool, true, false, not, Option, Some, None, Result, Ok, Err, Ordering, Less, Equal, Greater, nat_cmp, map, option_and_then, unwrap_or, is_some, is_none, cond, ◌&&◌, codes, refl, sym, ap, ◌∙◌, true≢false}
use Rattle.std.specs.Prelude.{⊤}
use Rattle.std.specs.List.{AllByRecursion}
use Rattle.std.specs.Ordering.{match_ordering}
use Rattle.std.specs.Cmp.Lexicographic.{slice_cmp}
use Rattle.std.proofs.lemmas.Bool.{and_parts}
use Rattle.json.specs.Json as json
use Rattle.json.specs.Json.{Json}
use Rattle.serde_json.specs.Data.{Data, null, boolean, number, string, array, object, Members, no_members, member}
use Rattle.serde_json.specs.Find.{get, get_member}
use Rattle.hx_object.specs.Canonical.{IsCanonical, AreMembers}
use Rattle.hx_object.specs.Faults.{IsLimit, IsPayloadOf}
use Rattle.hx_object.specs.Json.{limit_pair, limits_members, members_in}
use Rattle.hx_object.specs.Needs.{amount_in, amount_of_text, if_ok, written_in}
use Rattle.hx_object.specs.Pairs.{has_ascending_keys}
use Rattle.hx_object.specs.Quantities.{factor_of, quantity_of}
use Rattle.hx_object.specs.declared.kind.Kind.{Kind}
use Rattle.hx_object.specs.declared.kind.Kind.TheVariants as of
use Rattle.hx_object.specs.declared.object.Limit.{Limit}
use Rattle.hx_object.specs.declared.quantity.QuantityFault.{QuantityFault}
use Rattle.hx_object.specs.declared.quantity.QuantityFault.TheVariants.{Syntax}
use Rattle.hx_model.specs.First.{first, or_else, so}
use Rattle.hx_json.specs.Inside.{has_quantities}
use Rattle.hx_json.specs.Reading.{are_quantities, counted_member, hard_faults, hard_path, in_spec, inner_fault, is_object, is_quantity, limit_of, limits_of, payload_of, quota_fault, required_fault, unless_null}
use Rattle.hx_json.specs.Rows.{reported}
use Rattle.hx_json.specs.Trees.{data_of, laid_out}
use Rattle.hx_json.specs.declared.fault.JsonFault.{JsonFault}
use Rattle.hx_json.specs.declared.fault.JsonFault.TheVariants.{BadQuantity, MissingMember, WrongType}

-- ---- as they stand

pub amount_laid : (j : Json) → amount_in (laid_out j) ≡ amount_in (data_of j)
amount_laid json.null = refl
amount_laid (json.boolean b) = refl
amount_laid (json.number text) = refl
amount_laid (json.string text) = refl
amount_laid (json.array js) = refl
amount_laid (json.object ms) = refl

-- a member that is null has no members either
pub no_null : (o : Option Data) → members_in (unless_null o) ≡ members_in o
no_null None = refl
no_null (Some null) = refl
no_null (Some (boolean b)) = refl
no_null (Some (number n)) = refl
no_null (Some (string s)) = refl
no_null (Some (array ds)) = refl
no_null (Some (object ms)) = refl

-- ---- canonical values

IsFound : Option Data → Type 0
IsFound None = ⊤
IsFound (Some d) = IsCanonical d

found_canonical : (name : List ℕ) (ms : Members) → AreMembers ms → IsFound (get_member name ms)
unfolding IsFound
found_canonical name no_members h = tt
found_canonical name (member k d ms) h = by (slice_cmp nat_cmp name k) (found_canonical name ms h.2)
  where
    by : (o : Ordering) → IsFound (get_member name ms) → IsFound (match_ordering o (get_member name ms) (Some d) (get_member name ms))
    by Less later = later
    by Equal later = h.1
    by Greater later = later

not_null : (o : Option Data) → IsFound o → IsFound (unless_null o)
unfolding IsFound
not_null None h = tt
not_null (Some null) h = tt
not_null (Some (boolean b)) h = h
not_null (Some (number n)) h = h
not_null (Some (string s)) h = h
not_null (Some (array ds)) h = h
not_null (Some (object ms)) h = h

counted_canonical : (name : List ℕ) (d : Data) → IsCanonical d → IsFound (counted_member name d)
unfolding IsFound
counted_canonical name null h = tt
counted_canonical name (boolean b) h = tt
counted_canonical name (number n) h = tt
counted_canonical name (string s) h = tt
counted_canonical name (array ds) h = tt
counted_canonical name (object ms) h = not_null (get_member name ms) (found_canonical name ms h)

inside_canonical : (name : List ℕ) (o : Option Data) → IsFound o → IsFound (option_and_then (counted_member name) o)
unfolding IsFound
inside_canonical name None h = tt
inside_canonical name (Some d) h = counted_canonical name d h

members_canonical : (o : Option Data) → IsFound o → AreMembers (members_in o)
unfolding IsFound
members_canonical None h = tt
members_canonical (Some null) h = tt
members_canonical (Some (boolean b)) h = tt
members_canonical (Some (number n)) h = tt
members_canonical (Some (string s)) h = tt
members_canonical (Some (array ds)) h = tt
members_canonical (Some (object ms)) h = h

pub members_inside : (outer name : List ℕ) (d : Data) → IsCanonical d → AreMembers (members_in (option_and_then (counted_member name) (counted_member outer d)))
members_inside outer name d h = members_canonical (option_and_then (counted_member name) (counted_member outer d)) (inside_canonical name (counted_member outer d) (counted_canonical outer d h))

-- ---- what a body says is a quota's payload

limits_ascend : (ms : Members) → AreMembers ms → has_ascending_keys (map limit_pair (limits_of ms)) ≡ true
limits_ascend no_members h = refl
limits_ascend (member k d no_members) h = refl
limits_ascend (member k d (member l e ms)) h = rw h.0.0 (limits_ascend (member l e ms) h.2)

read_amount : (r : Result ℕ QuantityFault) → is_some (if_ok r) ≡ true → r ≡ Ok (unwrap_or (if_ok r) 0)
read_amount (Ok amount) h = refl
read_amount (Err fault) h = absurd (true≢false (sym h))

read_text : (o : Option (List ℕ)) → is_some (option_and_then amount_of_text o) ≡ true → quantity_of (unwrap_or o []) ≡ Ok (unwrap_or (option_and_then amount_of_text o) 0)
read_text None h = absurd (true≢false (sym h))
read_text (Some text) h = read_amount (quantity_of text) h

limits_legal : (ms : Members) → are_quantities ms ≡ true → AllByRecursion IsLimit (limits_of ms)
limits_legal no_members h = tt
limits_legal (member k d ms) h =
    let parts = and_parts (is_quantity d) (are_quantities ms) h in
    (read_text (written_in d) parts.0, limits_legal ms parts.1)

pub quota_payload : (d : Data) → IsCanonical d → has_quantities of.HierarchicalResourceQuota d ≡ true → IsPayloadOf of.HierarchicalResourceQuota (payload_of of.HierarchicalResourceQuota d)
quota_payload d h quantities =
    let ms = members_in (in_spec (codes "hard") d) in
    (refl, limits_ascend ms (members_inside (codes "spec") (codes "hard") d h), limits_legal ms quantities, refl, tt)

-- ---- a quota without fault

passed : (b : Bool) (fault : JsonFault) → so (not b) fault ≡ None → b ≡ true
passed true fault h = refl
passed false fault h = absurd (let clash : Some fault ≡ None = h in cc)

pub both_none : {A : Type 0} (a b : Option A) → or_else a b ≡ None → (a ≡ None) × (b ≡ None)
both_none None b h = (refl, h)
both_none (Some x) b h = cc

hard_sound : (spec : Data) → first (hard_faults spec) ≡ None → are_quantities (members_in (get (codes "hard") spec)) ≡ true
hard_sound spec h =
    let quantities = so (not (are_quantities (members_in (get (codes "hard") spec)))) (BadQuantity hard_path) in
    let rest = both_none (required_fault hard_path is_object (get (codes "hard") spec)) (or_else quantities None) h in
    passed (are_quantities (members_in (get (codes "hard") spec))) (BadQuantity hard_path) (both_none quantities None rest.1).0

pub quota_sound : (d : Data) → quota_fault d ≡ None → has_quantities of.HierarchicalResourceQuota d ≡ true
quota_sound d h = by (counted_member (codes "spec") d) h
  where
    inner : (spec : Data) (b : Bool) → (cond b (first (hard_faults spec)) (Some (WrongType hard_path))) ≡ None → are_quantities (members_in (counted_member (codes "hard") spec)) ≡ true
    inner spec true h = ap are_quantities (no_null (get (codes "hard") spec)) ∙ hard_sound spec h
    inner spec false h = absurd (let clash : Some (WrongType hard_path) ≡ None = h in cc)

    by : (o : Option Data) → or_else (so (is_none o) (MissingMember hard_path)) (inner_fault hard_path (λ spec. first (hard_faults spec)) o) ≡ None
        → are_quantities (members_in (option_and_then (counted_member (codes "hard")) o)) ≡ true
    by None h = absurd (let clash : Some (MissingMember hard_path) ≡ None = h in cc)
    by (Some spec) h = inner spec (is_object spec) h

-- ---- a payload of a quota

no_text : (amount : ℕ) → quantity_of [] ≡ Ok amount → ⊥
unfolding quantity_of factor_of
no_text amount h = let clash : Err Syntax ≡ Ok amount = h in cc

is_read : (o : Option (List ℕ)) (amount : ℕ) → quantity_of (unwrap_or o []) ≡ Ok amount → is_some (option_and_then amount_of_text o) ≡ true
is_read None amount h = absurd (no_text amount h)
is_read (Some text) amount h = ap (λ r. is_some (if_ok r)) h

both : (u v : Bool) → u ≡ true → v ≡ true → (u && v) ≡ true
both true v h k = k
both false v h k = h

are_read : (ms : Members) → AllByRecursion IsLimit (limits_of ms) → are_quantities ms ≡ true
are_read no_members h = refl
are_read (member k d ms) h = both (is_quantity d) (are_quantities ms) (is_read (written_in d) (unwrap_or (amount_in d) 0) h.0) (are_read ms h.1)

pub quantities_back : (kind : Kind) (d : Data) → IsPayloadOf kind (reported d (payload_of kind d)) → has_quantities kind d ≡ true
quantities_back of.HierarchicalResourceQuota d h = are_read (members_in (in_spec (codes "hard") d)) h.2
quantities_back kind d h = refl

-- ---- limits and their members

limit_back : (limit : Limit) → IsLimit limit → limit_of limit.resource (string limit.written) ≡ limit
limit_back limit h = λ i. record { resource = limit.resource; written = limit.written; amount = unwrap_or (if_ok (h i)) 0 }

pub limits_back : (limits : List Limit) → AllByRecursion IsLimit limits → limits_of (limits_members limits) ≡ limits
limits_back [] h = refl
limits_back (limit ∷ limits) h = λ i. limit_back limit h.0 i ∷ limits_back limits h.1 i
