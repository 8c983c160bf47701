-- How many names there are after a write.
--     AreNamed objects       they are in order, and each namespace lies in none
--     named_valid            so are those of a valid state
--     names_by               the number of names is that of any texts that have the same names
--     named-put, named-cut   which names there are after a put;  and before a cut
--     names_put_new, names_put_other     the number after a put
--     names_cut, names_cut_other                         the number after a cut
--     is_named_by            a name is one of a namespace, or of some anchor among those of the name
--     named_without_namespace, named_without_anchor      a name once its namespace is cut, or one of its anchors
use Rattle.std.proofs.Common.{◌≡◌, ℕ, zero, suc, ◌+◌, ◌==◌, eqb-true, Bool, true, false, cond, not, ◌&&◌, ◌||◌, Option, Some, None, List, [], ◌∷◌, filter, map, length, sum_by, inl, inr, refl, sym, ap, ◌∙◌, subst, arith, true≢false}
use Rattle.std.specs.Prelude.{is_some, is_none, nat_lt, if◌then◌else◌}
use Rattle.std.specs.List.{AllByRecursion, list_any}
use Rattle.std.specs.Str.{bytes_eq}
use Rattle.std.specs.Ordering.{is_lt}
use Rattle.std.specs.Cmp.{tied_itself, both_ways}
use Rattle.std.proofs.lemmas.Bool.{and_parts, and_from, or_cases, or_left, or_right, false_from_ne_true, lt-ltb, le-ltb}
use Rattle.std.proofs.lemmas.List.Sums.{sum_by-cons}
use Rattle.hx_object.proofs.KindTests.{namespace_kind}
use Rattle.hx_object.specs.Order.{id_cmp}
use Rattle.hx_object.specs.declared.kind.Kind.{Kind}
use Rattle.hx_object.specs.declared.object.Id.{Id}
use Rattle.hx_object.specs.declared.object.Object.{Object}
use Rattle.hx_model.specs.Forest.{is_in}
use Rattle.hx_model.specs.Limits.{is_namespace, is_anchor, namespace_one, stands_alone, distinct_in, names_in, is_named, part_of}
use Rattle.hx_model.specs.State.{State, Objects, same_id, object_at, put, cut, is_below_all, ascends, namespace_id}
use Rattle.hx_model.specs.Valid.{IsValid, IsStored}
use Rattle.hx_model.specs.Writes.{gives_name}
use Rattle.hx_model.proofs.Conflicting.{found_any, any_found}
use Rattle.hx_model.proofs.Distinct.{one_unless, same_text, itself, same_number}
use Rattle.hx_model.proofs.Objects.{id_total, is_same_id, same_from_Equal, object_at-put, object_at-cut, found_id, found_again, ascends-put, ascends-cut, sum-cut}
use Rattle.hx_model.proofs.Planting.{namespace_is_homed}
use Rattle.hx_model.proofs.Storing.{All-put, All-cut, All-found}

-- ---- what has a name

-- a namespace lies in no namespace, and so its name is its identity
abbrev pub IsHomed : Object → Type 0
IsHomed x = is_namespace x.id.kind ≡ true → x.id ≡ namespace_id x.id.name

-- in order, and each namespace is told by its name
pub record AreNamed (objects : Objects) : Type 0 where
  pub in_order : ascends objects ≡ true
  pub homed : AllByRecursion IsHomed objects

homed_stored : (last : ℕ) (objects : Objects) → AllByRecursion (IsStored last) objects → AllByRecursion IsHomed objects
homed_stored last [] all = tt
homed_stored last (x ∷ objects) all = (namespace_is_homed x all.0.served, homed_stored last objects all.1)

pub named_valid : (s : State) → IsValid s → AreNamed s.objects
named_valid s valid = record { in_order = valid.in_order; homed = homed_stored s.last s.objects valid.stored }

pub named_put : (x : Object) (objects : Objects) → IsHomed x → AreNamed objects → AreNamed (put x objects)
named_put x objects home named = record { in_order = ascends-put x objects named.in_order; homed = All-put IsHomed x objects home named.homed }

pub named_cut : (id : Id) (objects : Objects) → AreNamed objects → AreNamed (cut id objects)
named_cut id objects named = record { in_order = ascends-cut id objects named.in_order; homed = All-cut IsHomed id objects named.homed }

no_anchor : (kind : Kind) → is_namespace kind ≡ true → is_anchor kind ≡ false
no_anchor kind is = ap is_anchor (namespace_kind kind is)

-- ---- the number by the texts

-- the names of some rows: those of namespaces, and those of anchors alone
abbrev is_counted : Objects → Object → Bool
is_counted all x = is_namespace x.id.kind || stands_alone all x

abbrev named_by : (Object → Bool) → Objects → List (List ℕ)
named_by test rows = map (λ (x : Object). x.id.name) (filter test rows)

is_in_named : (test : Object → Bool) (q : List ℕ) (rows : Objects) → is_in q (named_by test rows) ≡ list_any (λ (x : Object). test x && bytes_eq q x.id.name) rows
is_in_named test q [] = refl
is_in_named test q (x ∷ rows) = elim (test x) as (λ b. is_in q (map (λ (y : Object). y.id.name) (cond b (x ∷ filter test rows) (filter test rows))) ≡ ((b && bytes_eq q x.id.name) || list_any (λ (y : Object). test y && bytes_eq q y.id.name) rows)) [
  | true ↦ ap (λ b. bytes_eq q x.id.name || b) (is_in_named test q rows)
  | false ↦ is_in_named test q rows
]

-- what is there isn't told of another row by the order
below_apart : (id : Id) (y : Object) (rows : Objects) → is_below_all id (y ∷ rows) ≡ true → id ≡ y.id → ⊥
below_apart id y rows low same = true≢false (sym (and_parts (is_lt (id_cmp id y.id)) (is_below_all id rows) low).0 ∙ ap is_lt (sym (ap (id_cmp id) same) ∙ tied_itself id_total id))

-- each namespace of some rows is found among all
abbrev IsFoundIn : Objects → Object → Type 0
IsFoundIn all x = is_namespace x.id.kind ≡ true → is_some (object_at all (namespace_id x.id.name)) ≡ true

-- an anchor alone has no name of a namespace
alone_apart : (all : Objects) (x : Object) → stands_alone all x ≡ true → is_some (object_at all (namespace_id x.id.name)) ≡ true → ⊥
alone_apart all x alone there = by (object_at all (namespace_id x.id.name)) (and_parts (is_anchor x.id.kind) (is_none (object_at all (namespace_id x.id.name))) alone).1 there
  where
    by : (o : Option Object) → is_none o ≡ true → is_some o ≡ true → ⊥
    by None none some = true≢false (sym some)
    by (Some y) none some = true≢false (sym none)

-- no row after a namespace has its name
namespace_alone : (all : Objects) (x : Object) (rows : Objects) → is_namespace x.id.kind ≡ true → IsHomed x → IsFoundIn all x → is_below_all x.id rows ≡ true → AllByRecursion IsHomed rows
    → list_any (λ (y : Object). is_counted all y && bytes_eq x.id.name y.id.name) rows ≡ false
namespace_alone all x [] is home found low homed = refl
namespace_alone all x (y ∷ rows) is home found low homed =
    let apart : (is_counted all y && bytes_eq x.id.name y.id.name) ≡ false = false_from_ne_true _ (λ h.
    let parts = and_parts (is_counted all y) (bytes_eq x.id.name y.id.name) h in
    let name = same_text x.id.name y.id.name parts.1 in
    elim (or_cases (is_namespace y.id.kind) (stands_alone all y) parts.0) [
      | inl too ↦ below_apart x.id y rows low (home is ∙ ap namespace_id name ∙ sym (homed.0 too))
      | inr alone ↦ alone_apart all y alone (subst (λ (n : List ℕ). is_some (object_at all (namespace_id n)) ≡ true) name (found is))
    ]) in
    ap (λ b. b || list_any (λ (z : Object). is_counted all z && bytes_eq x.id.name z.id.name) rows) apart ∙ namespace_alone all x rows is home found (and_parts (is_lt (id_cmp x.id y.id)) (is_below_all x.id rows) low).1 homed.1

-- the name of an anchor alone is counted where it is one of another anchor alone
anchor_alone : (all : Objects) (x : Object) (rows : Objects) → stands_alone all x ≡ true → AllByRecursion (IsFoundIn all) rows
    → list_any (λ (y : Object). stands_alone all y && bytes_eq x.id.name y.id.name) rows ≡ list_any (λ (y : Object). is_counted all y && bytes_eq x.id.name y.id.name) rows
anchor_alone all x [] alone found = refl
anchor_alone all x (y ∷ rows) alone found =
    let rest = anchor_alone all x rows alone found.1 in
    let here : (stands_alone all y && bytes_eq x.id.name y.id.name) ≡ (is_counted all y && bytes_eq x.id.name y.id.name) = same (is_namespace y.id.kind) (bytes_eq x.id.name y.id.name) refl refl in
    λ i. here i || rest i
  where
    same : (n e : Bool) → is_namespace y.id.kind ≡ n → bytes_eq x.id.name y.id.name ≡ e → (stands_alone all y && e) ≡ ((n || stands_alone all y) && e)
    same false e is eq = refl
    same true false is eq = apart (stands_alone all y)
      where
        apart : (b : Bool) → (b && false) ≡ false
        apart true = refl
        apart false = refl
    same true true is eq = absurd (alone_apart all x alone (subst (λ (n : List ℕ). is_some (object_at all (namespace_id n)) ≡ true) (sym (same_text x.id.name y.id.name eq)) (found.0 is)))

-- namespaces, with the names of anchors alone, are as many as the texts
abbrev AreCounted : Objects → Objects → Type 0
AreCounted all rows = sum_by namespace_one rows + distinct_in (named_by (stands_alone all) rows) ≡ distinct_in (named_by (is_counted all) rows)

counted_row : (all : Objects) (x : Object) (rows : Objects) → AreCounted all rows → is_below_all x.id rows ≡ true → AllByRecursion IsHomed (x ∷ rows) → AllByRecursion (IsFoundIn all) (x ∷ rows) → AreCounted all (x ∷ rows)
counted_row all x rows rest low homed found = by (is_namespace x.id.kind) (stands_alone all x) refl refl
  where
    by : (n s : Bool) → is_namespace x.id.kind ≡ n → stands_alone all x ≡ s
        → sum_by namespace_one (x ∷ rows) + distinct_in (map (λ (y : Object). y.id.name) (cond s (x ∷ filter (stands_alone all) rows) (filter (stands_alone all) rows)))
        ≡ distinct_in (map (λ (y : Object). y.id.name) (cond (n || s) (x ∷ filter (is_counted all) rows) (filter (is_counted all) rows)))
    by true true is alone = absurd (true≢false (sym (and_parts (is_anchor x.id.kind) (is_none (object_at all (namespace_id x.id.name))) alone).0 ∙ no_anchor x.id.kind is))
    by true false is alone =
        let one : namespace_one x ≡ 1 = ap (λ b. if b then 1 else 0) is in
        let new : one_unless (is_in x.id.name (named_by (is_counted all) rows)) ≡ 1 = ap one_unless (is_in_named (is_counted all) x.id.name rows ∙ namespace_alone all x rows is homed.0 found.0 low homed.1) in
        omega (arith, rest, one, new, sum_by-cons namespace_one x rows)
    by false true is alone =
        let none : namespace_one x ≡ 0 = ap (λ b. if b then 1 else 0) is in
        let same : one_unless (is_in x.id.name (named_by (stands_alone all) rows)) ≡ one_unless (is_in x.id.name (named_by (is_counted all) rows)) =
        ap one_unless (is_in_named (stands_alone all) x.id.name rows ∙ anchor_alone all x rows alone found.1 ∙ sym (is_in_named (is_counted all) x.id.name rows)) in
        omega (arith, rest, none, same, sum_by-cons namespace_one x rows)
    by false false is alone =
        let none : namespace_one x ≡ 0 = ap (λ b. if b then 1 else 0) is in
        omega (arith, rest, none, sum_by-cons namespace_one x rows)

counted_rows : (all rows : Objects) → ascends rows ≡ true → AllByRecursion IsHomed rows → AllByRecursion (IsFoundIn all) rows → AreCounted all rows
counted_rows all [] up homed found = refl
counted_rows all (x ∷ rows) up homed found =
    let parts = and_parts (is_below_all x.id rows) (ascends rows) up in
    counted_row all x rows (counted_rows all rows parts.1 homed.1 found.1) parts.0 homed found

-- ---- what is there

pub same_itself : (id : Id) → same_id id id ≡ true
same_itself id = same_from_Equal id id (tied_itself id_total id)

pub some_is : {A : Type 0} (o : Option A) → is_some o ≡ true → (x : A) × (o ≡ Some x)
some_is (Some x) some = (x, refl)
some_is None some = absurd (true≢false (sym some))

-- each row is there
rows_there : (all rows : Objects) → ((q : Id) → is_some (object_at rows q) ≡ true → is_some (object_at all q) ≡ true) → AllByRecursion (λ (x : Object). is_some (object_at all x.id) ≡ true) rows
rows_there all [] among = tt
rows_there all (x ∷ rows) among = (
  among x.id (ap (λ b. is_some (cond b (Some x) (object_at rows x.id))) (same_itself x.id)),
  rows_there all rows (λ q there. among q (later (same_id q x.id) (object_at rows q) there)),
)
  where
    later : (b : Bool) (o : Option Object) → is_some o ≡ true → is_some (cond b (Some x) o) ≡ true
    later true o there = refl
    later false o there = there

-- each namespace is found by its name
found_in : (all rows : Objects) → AllByRecursion (λ (x : Object). is_some (object_at all x.id) ≡ true) rows → AllByRecursion IsHomed rows → AllByRecursion (IsFoundIn all) rows
found_in all [] there homed = tt
found_in all (x ∷ rows) there homed = (λ is. subst (λ (id : Id). is_some (object_at all id) ≡ true) (homed.0 is) there.0, found_in all rows there.1 homed.1)

-- what is found is told by its name, where it is a namespace
pub home_of : (objects : Objects) (id : Id) → AllByRecursion IsHomed objects → is_some (object_at objects id) ≡ true → is_namespace id.kind ≡ true → id ≡ namespace_id id.name
home_of objects id homed there =
    let x = some_is (object_at objects id) there in
    subst (λ (k : Id). is_namespace k.kind ≡ true → k ≡ namespace_id k.name) (sym (found_id objects id x.0 x.1)) (All-found IsHomed id x.0 objects homed x.1)

-- ---- names by identities

-- an identity gives a name: of the namespace, or of an anchor
abbrev is_name_of : List ℕ → Id → Bool
is_name_of q id = same_id id (namespace_id q) || (is_anchor id.kind && bytes_eq q id.name)

giving : (q : List ℕ) (id : Id) → is_name_of q id ≡ true → (gives_name id.kind ≡ true) × (bytes_eq q id.name ≡ true)
giving q id is = elim (or_cases (same_id id (namespace_id q)) (is_anchor id.kind && bytes_eq q id.name) is) [
  | inl same ↦ subst (λ (k : Id). (gives_name k.kind ≡ true) × (bytes_eq q k.name ≡ true)) (sym (is_same_id id (namespace_id q) same)) (refl, itself q)
  | inr anchor ↦
      let parts = and_parts (is_anchor id.kind) (bytes_eq q id.name) anchor in
      (or_right (is_namespace id.kind) (is_anchor id.kind) parts.0, parts.1)
]

pub given_by : (q : List ℕ) (id : Id) → gives_name id.kind ≡ true → (is_namespace id.kind ≡ true → id ≡ namespace_id id.name) → bytes_eq q id.name ≡ true → is_name_of q id ≡ true
given_by q id gives home named = elim (or_cases (is_namespace id.kind) (is_anchor id.kind) gives) [
  | inl is ↦ or_left (same_id id (namespace_id q)) _ (subst (λ (k : Id). same_id id k ≡ true) (home is ∙ ap namespace_id (sym (same_text q id.name named))) (same_itself id))
  | inr anchor ↦ or_right (same_id id (namespace_id q)) _ (and_from _ _ anchor named)
]

-- what gives a name and is there
pub named_from : (objects : Objects) (q : List ℕ) (id : Id) → is_some (object_at objects id) ≡ true → is_name_of q id ≡ true → is_named objects q ≡ true
named_from objects q id there is = elim (or_cases (same_id id (namespace_id q)) (is_anchor id.kind && bytes_eq q id.name) is) [
  | inl same ↦ or_left _ _ (subst (λ (k : Id). is_some (object_at objects k) ≡ true) (is_same_id id (namespace_id q) same) there)
  | inr anchor ↦
      let x = some_is (object_at objects id) there in
      or_right (is_some (object_at objects (namespace_id q))) _ (any_found (λ k. is_anchor k.kind && bytes_eq q k.name) objects id x.0 x.1 anchor)
]

named_to : (objects : Objects) (q : List ℕ) → is_named objects q ≡ true → (id : Id) × (is_some (object_at objects id) ≡ true) × (is_name_of q id ≡ true)
named_to objects q named = elim (or_cases (is_some (object_at objects (namespace_id q))) (list_any (λ (x : Object). is_anchor x.id.kind && bytes_eq q x.id.name) objects) named) [
  | inl there ↦ (namespace_id q, there, or_left (same_id (namespace_id q) (namespace_id q)) _ (same_itself (namespace_id q)))
  | inr anchor ↦
      let found = found_any (λ k. is_anchor k.kind && bytes_eq q k.name) objects anchor in
      (found.0, ap is_some found.2, or_right (same_id found.0 (namespace_id q)) _ found.3)
]

-- where the same namespaces and anchors are there, there are the same names
abbrev pub AreAlike : Objects → Objects → Type 0
AreAlike old new = (id : Id) → gives_name id.kind ≡ true → is_some (object_at old id) ≡ is_some (object_at new id)

pub named_alike : (old new : Objects) → AreAlike old new → (q : List ℕ) → is_named old q ≡ is_named new q
named_alike old new alike q = both_ways (is_named old q) (is_named new q) (kept old new alike) (kept new old (λ id gives. sym (alike id gives)))
  where
    kept : (one other : Objects) → AreAlike one other → is_named one q ≡ true → is_named other q ≡ true
    kept one other same named =
        let found = named_to one q named in
        named_from other q found.0 (sym (same found.0 (giving q found.0 found.2).0) ∙ found.1) found.2

-- an identity is counted under a name
abbrev is_counted_as : Objects → List ℕ → Id → Bool
is_counted_as objects q id = (is_namespace id.kind || (is_anchor id.kind && is_none (object_at objects (namespace_id id.name)))) && bytes_eq q id.name

-- the texts of the rows are the names
counted_names : (objects : Objects) → AllByRecursion IsHomed objects → (q : List ℕ) → is_in q (named_by (is_counted objects) objects) ≡ is_named objects q
counted_names objects homed q = is_in_named (is_counted objects) q objects ∙ both_ways _ _ there back
  where
    there : list_any (λ (x : Object). is_counted objects x && bytes_eq q x.id.name) objects ≡ true → is_named objects q ≡ true
    there h =
        let found = found_any (is_counted_as objects q) objects h in
        let parts = and_parts (is_namespace found.0.kind || (is_anchor found.0.kind && is_none (object_at objects (namespace_id found.0.name)))) (bytes_eq q found.0.name) found.3 in
        let some = ap is_some found.2 in
        named_from objects q found.0 some (given_by q found.0 (gives found.0 parts.0) (home_of objects found.0 homed some) parts.1)
      where
        gives : (id : Id) → (is_namespace id.kind || (is_anchor id.kind && is_none (object_at objects (namespace_id id.name)))) ≡ true → gives_name id.kind ≡ true
        gives id h = elim (or_cases (is_namespace id.kind) (is_anchor id.kind && is_none (object_at objects (namespace_id id.name))) h) [
          | inl is ↦ or_left (is_namespace id.kind) _ is
          | inr alone ↦ or_right (is_namespace id.kind) _ (and_parts (is_anchor id.kind) (is_none (object_at objects (namespace_id id.name))) alone).0
        ]

    by_namespace : is_some (object_at objects (namespace_id q)) ≡ true → list_any (λ (x : Object). is_counted objects x && bytes_eq q x.id.name) objects ≡ true
    by_namespace some =
        let x = some_is (object_at objects (namespace_id q)) some in
        any_found (is_counted_as objects q) objects (namespace_id q) x.0 x.1 (itself q)

    back : is_named objects q ≡ true → list_any (λ (x : Object). is_counted objects x && bytes_eq q x.id.name) objects ≡ true
    back named = elim (or_cases (is_some (object_at objects (namespace_id q))) (list_any (λ (x : Object). is_anchor x.id.kind && bytes_eq q x.id.name) objects) named) [
      | inl some ↦ by_namespace some
      | inr anchor ↦
          let found = found_any (λ k. is_anchor k.kind && bytes_eq q k.name) objects anchor in
          let parts = and_parts (is_anchor found.0.kind) (bytes_eq q found.0.name) found.3 in
          let name = same_text q found.0.name parts.1 in
          elim (object_at objects (namespace_id found.0.name)) as (λ o. object_at objects (namespace_id found.0.name) ≡ o → list_any (λ (x : Object). is_counted objects x && bytes_eq q x.id.name) objects ≡ true) [
            | Some x ↦ λ at. by_namespace (ap (λ (n : List ℕ). is_some (object_at objects (namespace_id n))) name ∙ ap is_some at)
            | None ↦ λ none. any_found (is_counted_as objects q) objects found.0 found.1 found.2 (and_from _ _ (or_right (is_namespace found.0.kind) _ (and_from _ _ parts.0 (ap is_none none))) parts.1)
          ] refl
    ]

-- the number of names is that of any texts that have the same names
pub names_by : (objects : Objects) (texts : List (List ℕ)) → AreNamed objects → ((q : List ℕ) → is_in q texts ≡ is_named objects q) → names_in objects ≡ distinct_in texts
names_by objects texts named same =
    counted_rows objects objects named.in_order named.homed (found_in objects objects (rows_there objects objects (λ q there. there)) named.homed)
    ∙ same_number (named_by (is_counted objects) objects) texts (λ q. counted_names objects named.homed q ∙ sym (same q))

-- ---- one write

-- a name after a put of a namespace or an anchor
pub named-put : (x : Object) (objects : Objects) (q : List ℕ) → gives_name x.id.kind ≡ true → IsHomed x → is_named (put x objects) q ≡ (bytes_eq q x.id.name || is_named objects q)
named-put x objects q gives home = both_ways (is_named (put x objects) q) (bytes_eq q x.id.name || is_named objects q) there back
  where
    there : is_named (put x objects) q ≡ true → (bytes_eq q x.id.name || is_named objects q) ≡ true
    there named =
        let found = named_to (put x objects) q named in
        by found.0 found.2 (same_id found.0 x.id) refl (sym (ap is_some (object_at-put x objects found.0)) ∙ found.1)
      where
        by : (id : Id) → is_name_of q id ≡ true → (b : Bool) → same_id id x.id ≡ b → is_some (cond b (Some x) (object_at objects id)) ≡ true → (bytes_eq q x.id.name || is_named objects q) ≡ true
        by id is true same some = or_left (bytes_eq q x.id.name) _ (subst (λ (k : Id). bytes_eq q k.name ≡ true) (is_same_id id x.id same) (giving q id is).1)
        by id is false other some = or_right (bytes_eq q x.id.name) _ (named_from objects q id some is)

    back : (bytes_eq q x.id.name || is_named objects q) ≡ true → is_named (put x objects) q ≡ true
    back h = elim (or_cases (bytes_eq q x.id.name) (is_named objects q) h) [
      | inl own ↦ named_from (put x objects) q x.id (ap is_some (found_again x objects)) (given_by q x.id gives home own)
      | inr named ↦
          let found = named_to objects q named in
          named_from (put x objects) q found.0 (ap is_some (object_at-put x objects found.0) ∙ either (same_id found.0 x.id) (object_at objects found.0) found.1) found.2
    ]
      where
        either : (b : Bool) (o : Option Object) → is_some o ≡ true → is_some (cond b (Some x) o) ≡ true
        either true o some = refl
        either false o some = some

-- a name before a cut of a namespace or an anchor that is there
pub named-cut : (id : Id) (objects : Objects) (q : List ℕ) → gives_name id.kind ≡ true → AllByRecursion IsHomed objects → is_some (object_at objects id) ≡ true → is_named objects q ≡ (bytes_eq q id.name || is_named (cut id objects) q)
named-cut id objects q gives homed here = both_ways (is_named objects q) (bytes_eq q id.name || is_named (cut id objects) q) there back
  where
    there : is_named objects q ≡ true → (bytes_eq q id.name || is_named (cut id objects) q) ≡ true
    there named =
        let found = named_to objects q named in
        by found.0 found.1 found.2 (same_id found.0 id) refl
      where
        by : (k : Id) → is_some (object_at objects k) ≡ true → is_name_of q k ≡ true → (b : Bool) → same_id k id ≡ b → (bytes_eq q id.name || is_named (cut id objects) q) ≡ true
        by k some is true same = or_left (bytes_eq q id.name) _ (subst (λ (j : Id). bytes_eq q j.name ≡ true) (is_same_id k id same) (giving q k is).1)
        by k some is false other = or_right (bytes_eq q id.name) _ (named_from (cut id objects) q k (ap is_some (object_at-cut id objects k ∙ ap (λ b. cond b None (object_at objects k)) other) ∙ some) is)

    back : (bytes_eq q id.name || is_named (cut id objects) q) ≡ true → is_named objects q ≡ true
    back h = elim (or_cases (bytes_eq q id.name) (is_named (cut id objects) q) h) [
      | inl own ↦ named_from objects q id here (given_by q id gives (home_of objects id homed here) own)
      | inr named ↦
          let found = named_to (cut id objects) q named in
          named_from objects q found.0 (kept (same_id found.0 id) (object_at objects found.0) (sym (ap is_some (object_at-cut id objects found.0)) ∙ found.1)) found.2
    ]
      where
        kept : (b : Bool) (o : Option Object) → is_some (cond b None o) ≡ true → is_some o ≡ true
        kept true o some = absurd (true≢false (sym some))
        kept false o some = some

-- a namespace or an anchor is put
pub names_put_new : (x : Object) (objects : Objects) → AreNamed objects → IsHomed x → gives_name x.id.kind ≡ true → names_in (put x objects) ≡ names_in objects + one_unless (is_named objects x.id.name)
names_put_new x objects named home gives =
    let texts = named_by (is_counted objects) objects in
    let new : names_in (put x objects) ≡ one_unless (is_in x.id.name texts) + distinct_in texts =
    names_by (put x objects) (x.id.name ∷ texts) (named_put x objects home named) (λ q. ap (λ b. bytes_eq q x.id.name || b) (counted_names objects named.homed q) ∙ sym (named-put x objects q gives home)) in
    let old : names_in objects ≡ distinct_in texts = names_by objects texts named (counted_names objects named.homed) in
    let here : one_unless (is_in x.id.name texts) ≡ one_unless (is_named objects x.id.name) = ap one_unless (counted_names objects named.homed x.id.name) in
    omega (arith, new, old, here)

-- where the same namespaces and anchors are there, there are as many names
names_alike : (old new : Objects) → AreNamed old → AreNamed new → AreAlike old new → names_in new ≡ names_in old
names_alike old new before after alike =
    names_by new (named_by (is_counted old) old) after (λ q. counted_names old before.homed q ∙ named_alike old new alike q)
    ∙ sym (names_by old (named_by (is_counted old) old) before (counted_names old before.homed))

-- a put of what is there leaves the same namespaces and anchors
pub alike_put_same : (x : Object) (objects : Objects) → is_some (object_at objects x.id) ≡ true → AreAlike objects (put x objects)
alike_put_same x objects there id gives = by (same_id id x.id) refl ∙ sym (ap is_some (object_at-put x objects id))
  where
    by : (b : Bool) → same_id id x.id ≡ b → is_some (object_at objects id) ≡ is_some (cond b (Some x) (object_at objects id))
    by true same = subst (λ (k : Id). is_some (object_at objects k) ≡ true) (sym (is_same_id id x.id same)) there
    by false other = refl

-- an identity that gives a name isn't one that gives none
other_kind : (id other : Id) → gives_name id.kind ≡ true → gives_name other.kind ≡ false → same_id id other ≡ false
other_kind id other gives none = false_from_ne_true (same_id id other) (λ same. true≢false (sym gives ∙ ap (λ (k : Id). gives_name k.kind) (is_same_id id other same) ∙ none))

pub alike_put_other : (x : Object) (objects : Objects) → gives_name x.id.kind ≡ false → AreAlike objects (put x objects)
alike_put_other x objects none id gives = sym (ap is_some (object_at-put x objects id ∙ ap (λ b. cond b (Some x) (object_at objects id)) (other_kind id x.id gives none)))

pub alike_cut_other : (id : Id) (objects : Objects) → gives_name id.kind ≡ false → AreAlike objects (cut id objects)
alike_cut_other id objects none k gives = sym (ap is_some (object_at-cut id objects k ∙ ap (λ b. cond b None (object_at objects k)) (other_kind k id gives none)))

-- one that gives no name is homed anyway
homed_other : (x : Object) → gives_name x.id.kind ≡ false → IsHomed x
homed_other x none is = absurd (true≢false (sym (or_left (is_namespace x.id.kind) (is_anchor x.id.kind) is) ∙ none))

-- an object is put that is neither a namespace nor an anchor
pub names_put_other : (x : Object) (objects : Objects) → AreNamed objects → gives_name x.id.kind ≡ false → names_in (put x objects) ≡ names_in objects
names_put_other x objects named none =
    names_alike objects (put x objects) named (named_put x objects (homed_other x none) named) (alike_put_other x objects none)

-- a namespace or an anchor is cut
pub names_cut : (id : Id) (x : Object) (objects : Objects) → AreNamed objects → object_at objects id ≡ Some x → gives_name id.kind ≡ true → names_in objects ≡ names_in (cut id objects) + one_unless (is_named (cut id objects) id.name)
names_cut id x objects named there gives =
    let left = named_cut id objects named in
    let texts = named_by (is_counted (cut id objects)) (cut id objects) in
    let old : names_in objects ≡ one_unless (is_in id.name texts) + distinct_in texts =
    names_by objects (id.name ∷ texts) named (λ q. ap (λ b. bytes_eq q id.name || b) (counted_names (cut id objects) left.homed q) ∙ sym (named-cut id objects q gives named.homed (ap is_some there))) in
    let new : names_in (cut id objects) ≡ distinct_in texts = names_by (cut id objects) texts left (counted_names (cut id objects) left.homed) in
    let here : one_unless (is_in id.name texts) ≡ one_unless (is_named (cut id objects) id.name) = ap one_unless (counted_names (cut id objects) left.homed id.name) in
    omega (arith, new, old, here)

-- an object is cut that is neither
pub names_cut_other : (id : Id) (objects : Objects) → AreNamed objects → gives_name id.kind ≡ false → names_in (cut id objects) ≡ names_in objects
names_cut_other id objects named none = names_alike objects (cut id objects) named (named_cut id objects named) (alike_cut_other id objects none)

-- ---- names by look-ups

-- the anchors of a name
abbrev pub anchors_in : Objects → List ℕ → Objects
anchors_in objects name = filter (λ (x : Object). is_anchor x.id.kind && bytes_eq name x.id.name) objects

above_zero : (n : ℕ) → (suc n == 0) ≡ false
above_zero n = false_from_ne_true (suc n == 0) (λ e. let h : suc n ≡ 0 = eqb-true (suc n) 0 e in omega (arith, h))

any_by_length : (test : Object → Bool) (objects : Objects) → list_any test objects ≡ not (length (filter test objects) == 0)
any_by_length test [] = refl
any_by_length test (x ∷ objects) = elim (test x) as (λ b. (b || list_any test objects) ≡ not (length (cond b (x ∷ filter test objects) (filter test objects)) == 0)) [
  | true ↦ sym (ap not (above_zero (length (filter test objects))))
  | false ↦ any_by_length test objects
]

length_by_sum : (test : Object → Bool) (objects : Objects) → length (filter test objects) ≡ sum_by (λ x. if test x then 1 else 0) objects
length_by_sum test [] = refl
length_by_sum test (x ∷ objects) =
    let f : Object → ℕ = λ x. if test x then 1 else 0 in
    elim (test x) as (λ b. test x ≡ b → length (cond b (x ∷ filter test objects) (filter test objects)) ≡ sum_by f (x ∷ objects)) [
      | true ↦ λ e. let one : f x ≡ 1 = ap (λ b. if b then 1 else 0) e in omega (arith, one, length_by_sum test objects, sum_by-cons f x objects)
      | false ↦ λ e. let none : f x ≡ 0 = ap (λ b. if b then 1 else 0) e in omega (arith, none, length_by_sum test objects, sum_by-cons f x objects)
    ] refl

-- a name is one of a namespace, or of some anchor
pub is_named_by : (objects : Objects) (name : List ℕ) → is_named objects name ≡ (is_some (object_at objects (namespace_id name)) || not (length (anchors_in objects name) == 0))
is_named_by objects name = ap (λ b. is_some (object_at objects (namespace_id name)) || b) (any_by_length (λ (x : Object). is_anchor x.id.kind && bytes_eq name x.id.name) objects)

-- as many anchors of a name as the sum counts
abbrev anchored_one : List ℕ → Object → ℕ
anchored_one name x = if is_anchor x.id.kind && bytes_eq name x.id.name then 1 else 0

anchors-cut : (id : Id) (x : Object) (objects : Objects) (name : List ℕ) → ascends objects ≡ true → object_at objects id ≡ Some x → length (anchors_in (cut id objects) name) + anchored_one name x ≡ length (anchors_in objects name)
anchors-cut id x objects name up there =
    let sum : sum_by (anchored_one name) (cut id objects) + part_of (anchored_one name) (object_at objects id) ≡ sum_by (anchored_one name) objects = sum-cut (anchored_one name) id objects up in
    let part : part_of (anchored_one name) (object_at objects id) ≡ anchored_one name x = ap (part_of (anchored_one name)) there in
    let test : Object → Bool = λ y. is_anchor y.id.kind && bytes_eq name y.id.name in
    omega (arith, sum, part, length_by_sum test (cut id objects), length_by_sum test objects)

-- the name of a namespace, once that is cut
pub named_without_namespace : (id : Id) (x : Object) (objects : Objects) → AreNamed objects → object_at objects id ≡ Some x → is_namespace id.kind ≡ true
    → is_named (cut id objects) id.name ≡ not (length (anchors_in objects id.name) == 0)
named_without_namespace id x objects named there is =
    let home : id ≡ namespace_id id.name = home_of objects id named.homed (ap is_some there) is in
    let gone : object_at (cut id objects) (namespace_id id.name) ≡ None =
    object_at-cut id objects (namespace_id id.name) ∙ ap (λ b. cond b None (object_at objects (namespace_id id.name))) (subst (λ (k : Id). same_id k id ≡ true) home (same_itself id)) in
    let none : anchored_one id.name x ≡ 0 = ap (λ b. if b && bytes_eq id.name x.id.name then 1 else 0) (no_anchor x.id.kind (subst (λ (k : Id). is_namespace k.kind ≡ true) (found_id objects id x there) is)) in
    let same : length (anchors_in (cut id objects) id.name) ≡ length (anchors_in objects id.name) = omega (arith, none, anchors-cut id x objects id.name named.in_order there) in
    is_named_by (cut id objects) id.name ∙ (λ i. is_some (gone i) || not (same i == 0))

-- the name of an anchor, once that is cut: another namespace has it, or another anchor
pub named_without_anchor : (id : Id) (x : Object) (objects : Objects) → ascends objects ≡ true → object_at objects id ≡ Some x → is_anchor id.kind ≡ true
    → is_named (cut id objects) id.name ≡ (is_some (object_at objects (namespace_id id.name)) || nat_lt 1 (length (anchors_in objects id.name)))
named_without_anchor id x objects up there is =
    let apart : same_id (namespace_id id.name) id ≡ false = false_from_ne_true _ (λ same. true≢false (sym is ∙ ap (λ (k : Id). is_anchor k.kind) (sym (is_same_id (namespace_id id.name) id same)))) in
    let stays : object_at (cut id objects) (namespace_id id.name) ≡ object_at objects (namespace_id id.name) =
    object_at-cut id objects (namespace_id id.name) ∙ ap (λ b. cond b None (object_at objects (namespace_id id.name))) apart in
    let one : anchored_one id.name x ≡ 1 = ap (λ b. if b then 1 else 0) (subst (λ (k : Id). (is_anchor k.kind && bytes_eq id.name k.name) ≡ true) (found_id objects id x there) (and_from _ _ is (itself id.name))) in
    let fewer : length (anchors_in (cut id objects) id.name) + 1 ≡ length (anchors_in objects id.name) = omega (arith, one, anchors-cut id x objects id.name up there) in
    is_named_by (cut id objects) id.name ∙ (λ i. is_some (stays i) || more (length (anchors_in (cut id objects) id.name)) (length (anchors_in objects id.name)) fewer i)
  where
    more : (m n : ℕ) → m + 1 ≡ n → not (m == 0) ≡ nat_lt 1 n
    more zero n e = sym (le-ltb 1 n (omega (arith, e)))
    more (suc m) n e = ap not (above_zero m) ∙ sym (lt-ltb 1 n (omega (arith, e)))
