-- Places whose parts lie in three lists.
--     keys_joined, length_joined              names and length are those of the links
--     sums_joined, name_joined, up_joined, parent_joined, own_found, own_such      what is found at an index lies there in its list
--     found_keys, found_at                    what is found under a name
--     joined_link, joined_own, joined_sums    a change at an index in one list is one of the place there
--     set_row, no_row                         such changes of one list
--     table_linked, table_shifted             the lists stay equally long
--     has_adjusted, none_adjusted             the sums at an index are adjusted
--     table_pushed, joined_push               a place that comes
--     link_parent, place_out, links_out, distinct_out, place_absent, table_out      one that goes
use Rattle.std.specs.Prelude.{is_some, option_and_then, position, slice_get, slice_set, swap_remove, take, get_or, IfSome}
use Rattle.std.proofs.Common.{◌≡◌, ℕ, zero, suc, ◌+◌, ◌-◌, ◌<◌, ◌≤◌, ◌||◌, true, false, cond, Option, Some, None, option_map, List, [], ◌∷◌, ◌++◌, length, refl, sym, ap, subst, ◌∙◌, arith, true≢false}
use Rattle.std.specs.List.{IsDistinct, list_any}
use Rattle.std.specs.Map.{keys_of, lookup}
use Rattle.std.specs.Str.{bytes_eq}
use Rattle.std.proofs.lemmas.Cmp.{nat_list_eq_equiv}
use Rattle.std.proofs.lemmas.Map.Entries.{lookup_from_place}
use Rattle.std.proofs.lemmas.List.{length-append, length-take, length-set}
use Rattle.std.proofs.lemmas.Option.{none-some, same_Some, slice_get-get_or}
use Rattle.indexmap.specs.IndexMap.{set_value_at}
use Rattle.indexmap.proofs.RemoveLemmas.{swap_out, none_out}
use Rattle.hx_quota.specs.PlaceRows.{Place, Places, Link, Links, Rows, first_row, behind, place_of_parts, joined, changed_row, IsTable, place_at, new_place, IsFoundAt}
use Rattle.hx_quota.specs.Inside.{entries_in}
use Rattle.hx_quota.specs.Anew.{changed_at, name_at, name_from, with_sums, with_parent_at, HasAdjusted}
use Rattle.hx_quota.specs.SumRows.{AdjustsRow}
use Rattle.hx_quota.proofs.Indexed.{index_found}

pub keys_joined : (links : Links) (owns sums : Rows) → keys_of (joined links owns sums) ≡ keys_of links
keys_joined [] owns sums = refl
keys_joined (e ∷ links) owns sums = ap (λ ks. e.0 ∷ ks) (keys_joined links (behind owns) (behind sums))

pub length_joined : (links : Links) (owns sums : Rows) → length (joined links owns sums) ≡ length links
length_joined [] owns sums = refl
length_joined (e ∷ links) owns sums = ap (λ k. suc k) (length_joined links (behind owns) (behind sums))

-- ---- what is found at an index

abbrev pub Row : Type 0
Row = List ℕ × Place

abbrev link_of : Place → Link
link_of p = p.entry.parent

own_joined : (links : Links) (owns sums : Rows) → length owns ≡ length links → (at : ℕ) → option_map (λ (e : Row). e.1.entry.own) (slice_get (joined links owns sums) at) ≡ slice_get owns at
own_joined [] [] sums same at = refl
own_joined [] (o ∷ owns) sums same at = absurd (omega (arith, same))
own_joined (e ∷ links) [] sums same at = absurd (omega (arith, same))
own_joined (e ∷ links) (o ∷ owns) sums same zero = refl
own_joined (e ∷ links) (o ∷ owns) sums same (suc at) = own_joined links owns (behind sums) (omega (arith, same)) at

pub sums_joined : (links : Links) (owns sums : Rows) → length sums ≡ length links → (at : ℕ) → option_map (λ (e : Row). e.1.sums) (slice_get (joined links owns sums) at) ≡ slice_get sums at
sums_joined [] owns [] same at = refl
sums_joined [] owns (s ∷ sums) same at = absurd (omega (arith, same))
sums_joined (e ∷ links) owns [] same at = absurd (omega (arith, same))
sums_joined (e ∷ links) owns (s ∷ sums) same zero = refl
sums_joined (e ∷ links) owns (s ∷ sums) same (suc at) = sums_joined links (behind owns) sums (omega (arith, same)) at

pub name_joined : (links : Links) (owns sums : Rows) (at : ℕ) → name_at (entries_in (joined links owns sums)) at ≡ option_map (λ (e : List ℕ × Link). e.0) (slice_get links at)
name_joined [] owns sums at = refl
name_joined (e ∷ links) owns sums zero = refl
name_joined (e ∷ links) owns sums (suc at) = name_joined links (behind owns) (behind sums) at

-- the name at an index that may be none
pub up_joined : (links : Links) (owns sums : Rows) (names : List (List ℕ)) → ((at : ℕ) → option_map (λ (e : List ℕ × Link). e.0) (slice_get links at) ≡ slice_get names at) → (up : Option ℕ)
    → name_from (entries_in (joined links owns sums)) up ≡ option_and_then (slice_get names) up
up_joined links owns sums names each None = refl
up_joined links owns sums names each (Some at) = name_joined links owns sums at ∙ each at

pub parent_joined : (links : Links) (owns sums : Rows) (at : ℕ) → option_and_then (λ (e : Row). e.1.entry.parent) (slice_get (joined links owns sums) at) ≡ option_and_then (λ (e : List ℕ × Link). e.1) (slice_get links at)
parent_joined [] owns sums at = refl
parent_joined (e ∷ links) owns sums zero = refl
parent_joined (e ∷ links) owns sums (suc at) = parent_joined links (behind owns) (behind sums) at

-- what a namespace has by itself lies in its row
pub own_found : (links : Links) (owns sums : Rows) → length owns ≡ length links → (at : ℕ) (n : List ℕ) (p : Place) → slice_get (joined links owns sums) at ≡ Some (n, p) → slice_get owns at ≡ Some p.entry.own
own_found links owns sums same at n p is = sym (own_joined links owns sums same at) ∙ ap (λ (o : Option Row). option_map (λ e. e.1.entry.own) o) is

-- and what is said of each holds of the row
pub own_such : (P : List ℕ → Type 0) (links : Links) (owns sums : Rows) → length owns ≡ length links → (at : ℕ) → ((n : List ℕ) (p : Place) → slice_get (joined links owns sums) at ≡ Some (n, p) → P p.entry.own) → (own : List ℕ) → slice_get owns at ≡ Some own → P own
own_such P links owns sums same at each own is = by (slice_get (joined links owns sums) at) refl (own_joined links owns sums same at ∙ is)
  where
    by : (o : Option Row) → slice_get (joined links owns sums) at ≡ o → option_map (λ (e : Row). e.1.entry.own) o ≡ Some own → P own
    by None found h = absurd (none-some own h)
    by (Some e) found h = subst P (same_Some e.1.entry.own own h) (each e.0 e.1 found)

-- ---- what is found under a name

lookup_joined : (links : Links) (owns sums : Rows) (q : List ℕ) → option_map (λ (p : Place). link_of p) (place_at (joined links owns sums) q) ≡ lookup (bytes_eq q) links
lookup_joined [] owns sums q = refl
lookup_joined (e ∷ links) owns sums q = elim (bytes_eq q e.0) as (λ b. option_map (λ (p : Place). link_of p) (cond b (Some (place_of_parts e.1 (first_row owns) (first_row sums))) (place_at (joined links (behind owns) (behind sums)) q)) ≡ cond b (Some e.1) (lookup (bytes_eq q) links)) [
  | true ↦ refl
  | false ↦ lookup_joined links (behind owns) (behind sums) q
]

-- as many are found there as there are such names
pub found_keys : (links : Links) (owns sums : Rows) (names : List (List ℕ)) → keys_of links ≡ names → (q : List ℕ) → is_some (place_at (joined links owns sums) q) ≡ list_any (bytes_eq q) names
found_keys links owns sums names same q = found_in (joined links owns sums) ∙ ap (list_any (bytes_eq q)) (keys_joined links owns sums ∙ same)
  where
    found_in : (places : Places) → is_some (place_at places q) ≡ list_any (bytes_eq q) (keys_of places)
    found_in [] = refl
    found_in (e ∷ places) = elim (bytes_eq q e.0) as (λ b. is_some (cond b (Some e.1) (place_at places q)) ≡ (b || list_any (bytes_eq q) (keys_of places))) [
      | true ↦ refl
      | false ↦ found_in places
    ]

pub found_at : (places : Places) (n : List ℕ) (o : Option ℕ) → IsDistinct bytes_eq (keys_of places) → o ≡ position (bytes_eq n) (keys_of places) → is_some o ≡ is_some (place_at places n) → IfSome o (λ i. i < length places) → IsFoundAt places n o
found_at places n None distinct is found within = nothing (place_at places n) (sym found)
  where
    nothing : (w : Option Place) → is_some w ≡ false → w ≡ None
    nothing None h = refl
    nothing (Some p) h = absurd (true≢false h)
found_at places n (Some i) distinct is found within =
    let row : Row = get_or places i (n, new_place) in
    let at : slice_get places i ≡ Some row = slice_get-get_or places i (n, new_place) within in
    let name : slice_get (keys_of places) i ≡ Some n = index_found n (keys_of places) i (sym is) (let long = key_count places in omega (arith, within, long)) in
    let same : row.0 ≡ n = same_Some row.0 n (sym (ap (λ (o : Option Row). option_map (λ e. e.0) o) at) ∙ sym (key_found places i) ∙ name) in
    let here : slice_get places i ≡ Some (n, row.1) = at ∙ ap (λ (k : List ℕ). Some (k, row.1)) same in
    (row.1, here, lookup_from_place nat_list_eq_equiv places i n row.1 distinct here)
  where
    key_count : (xs : Places) → length (keys_of xs) ≡ length xs
    key_count [] = refl
    key_count (x ∷ xs) = ap (λ k. suc k) (key_count xs)

    key_found : (xs : Places) (at : ℕ) → slice_get (keys_of xs) at ≡ option_map (λ (e : Row). e.0) (slice_get xs at)
    key_found [] at = refl
    key_found (x ∷ xs) zero = refl
    key_found (x ∷ xs) (suc at) = key_found xs at

-- ---- a change at an index

pub joined_link : (links : Links) (owns sums : Rows) (at : ℕ) (link : Link) → joined (set_value_at links at link) owns sums ≡ with_parent_at at link (joined links owns sums)
joined_link [] owns sums at link = refl
joined_link (e ∷ links) owns sums zero link = refl
joined_link (e ∷ links) owns sums (suc at) link = ap (λ xs. (e.0, place_of_parts e.1 (first_row owns) (first_row sums)) ∷ xs) (joined_link links (behind owns) (behind sums) at link)

pub joined_own : (links : Links) (owns sums : Rows) → length owns ≡ length links → (at : ℕ) (change : List ℕ → List ℕ)
    → joined links (changed_row at change owns) sums ≡ changed_at at (λ (p : Place). record p { entry = record (p.entry) { own = change p.entry.own } }) (joined links owns sums)
joined_own [] [] sums same at change = refl
joined_own [] (o ∷ owns) sums same at change = absurd (omega (arith, same))
joined_own (e ∷ links) [] sums same at change = absurd (omega (arith, same))
joined_own (e ∷ links) (o ∷ owns) sums same zero change = refl
joined_own (e ∷ links) (o ∷ owns) sums same (suc at) change = ap (λ xs. (e.0, place_of_parts e.1 o (first_row sums)) ∷ xs) (joined_own links owns (behind sums) (omega (arith, same)) at change)

pub joined_sums : (links : Links) (owns sums : Rows) → length sums ≡ length links → (at : ℕ) (row : List ℕ) → joined links owns (slice_set sums at row) ≡ with_sums at row (joined links owns sums)
joined_sums [] owns [] same at row = refl
joined_sums [] owns (s ∷ sums) same at row = absurd (omega (arith, same))
joined_sums (e ∷ links) owns [] same at row = absurd (omega (arith, same))
joined_sums (e ∷ links) owns (s ∷ sums) same zero row = refl
joined_sums (e ∷ links) owns (s ∷ sums) same (suc at) row = ap (λ xs. (e.0, place_of_parts e.1 (first_row owns) s) ∷ xs) (joined_sums links (behind owns) sums (omega (arith, same)) at row)

-- a link that is replaced leaves the names
keys_linked : (links : Links) (at : ℕ) (link : Link) → keys_of (set_value_at links at link) ≡ keys_of links
keys_linked [] at link = refl
keys_linked (e ∷ links) zero link = refl
keys_linked (e ∷ links) (suc at) link = ap (λ ks. e.0 ∷ ks) (keys_linked links at link)

length_linked : (links : Links) (at : ℕ) (link : Link) → length (set_value_at links at link) ≡ length links
length_linked [] at link = refl
length_linked (e ∷ links) zero link = refl
length_linked (e ∷ links) (suc at) link = ap (λ k. suc k) (length_linked links at link)

pub table_linked : (links : Links) (owns sums : Rows) (at : ℕ) (link : Link) → IsTable links owns sums → IsTable (set_value_at links at link) owns sums
table_linked links owns sums at link is = record {
  distinct = subst (λ (ks : List (List ℕ)). IsDistinct bytes_eq ks) (sym (keys_linked links at link)) is.distinct;
  own = is.own ∙ sym (length_linked links at link);
  whole = is.whole ∙ sym (length_linked links at link);
}

length_changed : (at : ℕ) (change : List ℕ → List ℕ) (rows : Rows) → length (changed_row at change rows) ≡ length rows
length_changed at change [] = refl
length_changed zero change (row ∷ rows) = refl
length_changed (suc at) change (row ∷ rows) = ap (λ k. suc k) (length_changed at change rows)

pub table_shifted : (links : Links) (owns sums : Rows) (at : ℕ) (change : List ℕ → List ℕ) → IsTable links owns sums → IsTable links (changed_row at change owns) sums
table_shifted links owns sums at change is = record { distinct = is.distinct; own = length_changed at change owns ∙ is.own; whole = is.whole }

pub set_row : (at : ℕ) (change : List ℕ → List ℕ) (rows : Rows) (row : List ℕ) → slice_get rows at ≡ Some row → slice_set rows at (change row) ≡ changed_row at change rows
set_row at change [] row is = refl
set_row zero change (x ∷ rows) row is = ap (λ (y : List ℕ). change y ∷ rows) (sym (same_Some x row is))
set_row (suc at) change (x ∷ rows) row is = ap (λ xs. x ∷ xs) (set_row at change rows row is)

pub no_row : (at : ℕ) (change : List ℕ → List ℕ) (rows : Rows) → length rows ≤ at → rows ≡ changed_row at change rows
no_row at change [] far = refl
no_row zero change (x ∷ rows) far = absurd (omega (arith, far))
no_row (suc at) change (x ∷ rows) far = ap (λ xs. x ∷ xs) (no_row at change rows (omega (arith, far)))

-- the sums at an index are adjusted
pub has_adjusted : (take give : List ℕ) (at : ℕ) (links : Links) (owns old new : Rows) → IsTable links owns old → AdjustsRow take give at old new → HasAdjusted take give at (joined links owns old) (joined links owns new)
has_adjusted take give at links owns old new is has = record {
  before = has.before;
  after = has.after;
  found = sym (sums_joined links owns old is.whole at ∙ has.there);
  put = ap (joined links owns) has.rows ∙ joined_sums links owns old is.whole at has.after;
  sums = has.each;
}

pub none_adjusted : (links : Links) (owns sums : Rows) (at : ℕ) → length sums ≡ length links → slice_get sums at ≡ None → slice_get (joined links owns sums) at ≡ None
none_adjusted links owns sums at same none = nothing (slice_get (joined links owns sums) at) (sums_joined links owns sums same at ∙ none)
  where
    nothing : (o : Option Row) → option_map (λ (e : Row). e.1.sums) o ≡ None → o ≡ None
    nothing None h = refl
    nothing (Some e) h = absurd (none-some e.1.sums (sym h))

-- ---- places that come and go

pub table_pushed : (links new : Links) (owns sums : Rows) (n : List ℕ) (link : Link) (own whole : List ℕ) → IsTable links owns sums → new ≡ links ++ (n, link) ∷ [] → IsDistinct bytes_eq (keys_of new) → IsTable new (owns ++ own ∷ []) (sums ++ whole ∷ [])
table_pushed links new owns sums n link own whole is same distinct =
    let long : length new ≡ length links + 1 = ap length same ∙ length-append links ((n, link) ∷ []) in
    let as_own : length owns ≡ length links = is.own in
    let as_whole : length sums ≡ length links = is.whole in
    record {
      distinct = distinct;
      own = let more = length-append owns (own ∷ []) in omega (arith, long, as_own, more);
      whole = let more = length-append sums (whole ∷ []) in omega (arith, long, as_whole, more);
    }

pub joined_push : (links : Links) (owns sums : Rows) → length owns ≡ length links → length sums ≡ length links → (n : List ℕ) (link : Link) (own whole : List ℕ)
    → joined (links ++ (n, link) ∷ []) (owns ++ own ∷ []) (sums ++ whole ∷ []) ≡ joined links owns sums ++ (n, place_of_parts link own whole) ∷ []
joined_push [] [] [] as_owns as_sums n link own whole = refl
joined_push [] [] (s ∷ sums) as_owns as_sums n link own whole = absurd (omega (arith, as_sums))
joined_push [] (o ∷ owns) sums as_owns as_sums n link own whole = absurd (omega (arith, as_owns))
joined_push (e ∷ links) [] sums as_owns as_sums n link own whole = absurd (omega (arith, as_owns))
joined_push (e ∷ links) (o ∷ owns) [] as_owns as_sums n link own whole = absurd (omega (arith, as_sums))
joined_push (e ∷ links) (o ∷ owns) (s ∷ sums) as_owns as_sums n link own whole = ap (λ xs. (e.0, place_of_parts e.1 o s) ∷ xs) (joined_push links owns sums (omega (arith, as_owns)) (omega (arith, as_sums)) n link own whole)

joined_take : (n : ℕ) (links : Links) (owns sums : Rows) → length owns ≡ length links → length sums ≡ length links → joined (take n links) (take n owns) (take n sums) ≡ take n (joined links owns sums)
joined_take zero links owns sums as_owns as_sums = refl
joined_take (suc n) [] owns sums as_owns as_sums = refl
joined_take (suc n) (e ∷ links) [] sums as_owns as_sums = absurd (omega (arith, as_owns))
joined_take (suc n) (e ∷ links) (o ∷ owns) [] as_owns as_sums = absurd (omega (arith, as_sums))
joined_take (suc n) (e ∷ links) (o ∷ owns) (s ∷ sums) as_owns as_sums = ap (λ xs. (e.0, place_of_parts e.1 o s) ∷ xs) (joined_take n links owns sums (omega (arith, as_owns)) (omega (arith, as_sums)))

-- a place of the parts of a row
abbrev row_of : List ℕ × Link → List ℕ → List ℕ → Row
row_of e own whole = (e.0, place_of_parts e.1 own whole)

joined_set : (links : Links) (owns sums : Rows) → length owns ≡ length links → length sums ≡ length links → (at : ℕ) (e : List ℕ × Link) (own whole : List ℕ)
    → joined (slice_set links at e) (slice_set owns at own) (slice_set sums at whole) ≡ slice_set (joined links owns sums) at (row_of e own whole)
joined_set [] [] [] as_owns as_sums at e own whole = refl
joined_set [] [] (s ∷ sums) as_owns as_sums at e own whole = absurd (omega (arith, as_sums))
joined_set [] (o ∷ owns) sums as_owns as_sums at e own whole = absurd (omega (arith, as_owns))
joined_set (l ∷ links) [] sums as_owns as_sums at e own whole = absurd (omega (arith, as_owns))
joined_set (l ∷ links) (o ∷ owns) [] as_owns as_sums at e own whole = absurd (omega (arith, as_sums))
joined_set (l ∷ links) (o ∷ owns) (s ∷ sums) as_owns as_sums zero e own whole = refl
joined_set (l ∷ links) (o ∷ owns) (s ∷ sums) as_owns as_sums (suc at) e own whole = ap (λ xs. row_of l o s ∷ xs) (joined_set links owns sums (omega (arith, as_owns)) (omega (arith, as_sums)) at e own whole)

joined_get : (links : Links) (owns sums : Rows) → length owns ≡ length links → length sums ≡ length links → (at : ℕ) → at < length links → (e : List ℕ × Link) (own whole : List ℕ) (row : Row)
    → row_of (get_or links at e) (get_or owns at own) (get_or sums at whole) ≡ get_or (joined links owns sums) at row
joined_get [] owns sums as_owns as_sums at within e own whole row = absurd (omega (arith, within))
joined_get (l ∷ links) [] sums as_owns as_sums at within e own whole row = absurd (omega (arith, as_owns))
joined_get (l ∷ links) (o ∷ owns) [] as_owns as_sums at within e own whole row = absurd (omega (arith, as_sums))
joined_get (l ∷ links) (o ∷ owns) (s ∷ sums) as_owns as_sums zero within e own whole row = refl
joined_get (l ∷ links) (o ∷ owns) (s ∷ sums) as_owns as_sums (suc at) within e own whole row = joined_get links owns sums (omega (arith, as_owns)) (omega (arith, as_sums)) at (omega (arith, within)) e own whole row

pub length_swap : {X : Type 0} (xs : List X) (at : ℕ) (x : X) → at < length xs → length (swap_remove xs at x) + 1 ≡ length xs
length_swap xs at x within =
    let last = get_or xs (length xs - 1) x in
    let cut = length-take (length xs - 1) (slice_set xs at last) in
    let same = length-set xs at last in
    omega (arith, within, cut, same)

-- what is said of the parents of places holds of links
pub link_parent : (links : Links) (owns sums : Rows) (n m : List ℕ) → ((p : Place) → place_at (joined links owns sums) m ≡ Some p → p.entry.parent ≡ Some n → ⊥) → (o : Link) → lookup (bytes_eq m) links ≡ Some o → o ≡ Some n → ⊥
link_parent links owns sums n m none o found is = by (place_at (joined links owns sums) m) refl (lookup_joined links owns sums m ∙ found)
  where
    by : (w : Option Place) → place_at (joined links owns sums) m ≡ w → option_map (λ (p : Place). link_of p) w ≡ Some o → ⊥
    by None there h = none-some o h
    by (Some p) there h = none p there (same_Some (link_of p) o h ∙ is)

module _ (links : Links) (owns sums : Rows) (is : IsTable links owns sums) (n : List ℕ) where
  joined_swap : (at : ℕ) → at < length links → (e : List ℕ × Link) (own whole : List ℕ) (row : Row) → joined (swap_remove links at e) (swap_remove owns at own) (swap_remove sums at whole) ≡ swap_remove (joined links owns sums) at row
  joined_swap at within e own whole row =
      let last : ℕ = length links - 1 in
      let places = joined links owns sums in
      let along : length owns - 1 ≡ last = ap (λ k. k - 1) is.own in
      let beside : length sums - 1 ≡ last = ap (λ k. k - 1) is.whole in
      let over : length places - 1 ≡ last = ap (λ k. k - 1) (length_joined links owns sums) in
      (λ i. joined (swap_remove links at e) (take (along i) (slice_set owns at (get_or owns (along i) own))) (take (beside i) (slice_set sums at (get_or sums (beside i) whole))))
      ∙ joined_take last (slice_set links at (get_or links last e)) (slice_set owns at (get_or owns last own)) (slice_set sums at (get_or sums last whole))
      (length-set owns at (get_or owns last own) ∙ is.own ∙ sym (length-set links at (get_or links last e))) (length-set sums at (get_or sums last whole) ∙ is.whole ∙ sym (length-set links at (get_or links last e)))
      ∙ ap (take last) (joined_set links owns sums is.own is.whole at (get_or links last e) (get_or owns last own) (get_or sums last whole))
      ∙ ap (λ (x : Row). take last (slice_set places at x)) (joined_get links owns sums is.own is.whole last (omega (arith, within)) e own whole row)
      ∙ sym (λ i. take (over i) (slice_set places at (get_or places (over i) row)))

  -- the places without one that lay at an index
  pub place_out : (at : ℕ) → Some at ≡ position (bytes_eq n) (keys_of links) → at < length links → (e : List ℕ × Link) (own whole : List ℕ)
      → (q : List ℕ) → place_at (joined (swap_remove links at e) (swap_remove owns at own) (swap_remove sums at whole)) q ≡ cond (bytes_eq n q) None (place_at (joined links owns sums) q)
  place_out at index within e own whole q =
      let places = joined links owns sums in
      let row : Row = get_or places at (n, new_place) in
      let keys = keys_joined links owns sums in
      let there : slice_get places at ≡ Some row = slice_get-get_or places at (n, new_place) (let long = length_joined links owns sums in omega (arith, within, long)) in
      let out = swap_out bytes_eq nat_list_eq_equiv (bytes_eq n) (nat_list_eq_equiv.congr n) places at row (ap (position (bytes_eq n)) keys ∙ sym index) there (subst (λ (ks : List (List ℕ)). IsDistinct bytes_eq ks) (sym keys) is.distinct)
      (joined (swap_remove links at e) (swap_remove owns at own) (swap_remove sums at whole)) (joined_swap at within e own whole row) in
      out.updated.0 q

  -- and the links
  pub links_out : (at : ℕ) → Some at ≡ position (bytes_eq n) (keys_of links) → (e : List ℕ × Link) → slice_get links at ≡ Some e → (q : List ℕ) → lookup (bytes_eq q) (swap_remove links at e) ≡ cond (bytes_eq n q) None (lookup (bytes_eq q) links)
  links_out at index e there q = (swap_out bytes_eq nat_list_eq_equiv (bytes_eq n) (nat_list_eq_equiv.congr n) links at e (sym index) there is.distinct (swap_remove links at e) refl).updated.0 q

  -- no name of which is there twice
  pub distinct_out : (at : ℕ) → Some at ≡ position (bytes_eq n) (keys_of links) → (e : List ℕ × Link) → slice_get links at ≡ Some e → IsDistinct bytes_eq (keys_of (swap_remove links at e))
  distinct_out at index e there = (swap_out bytes_eq nat_list_eq_equiv (bytes_eq n) (nat_list_eq_equiv.congr n) links at e (sym index) there is.distinct (swap_remove links at e) refl).unique

  -- one that isn't there
  pub place_absent : None ≡ position (bytes_eq n) (keys_of links) → (q : List ℕ) → place_at (joined links owns sums) q ≡ cond (bytes_eq n q) None (place_at (joined links owns sums) q)
  place_absent index q =
      let places = joined links owns sums in
      (none_out bytes_eq nat_list_eq_equiv (bytes_eq n) (nat_list_eq_equiv.congr n) places places (ap (position (bytes_eq n)) (keys_joined links owns sums) ∙ sym index) refl).0 q

  pub table_out : (new : Links) (at : ℕ) (e : List ℕ × Link) (own whole : List ℕ) → IsDistinct bytes_eq (keys_of new) → at < length links → new ≡ swap_remove links at e → IsTable new (swap_remove owns at own) (swap_remove sums at whole)
  table_out new at e own whole distinct within same =
      let long : length new + 1 ≡ length links = ap (λ (xs : Links). length xs + 1) same ∙ length_swap links at e within in
      let as_own : length owns ≡ length links = is.own in
      let as_whole : length sums ≡ length links = is.whole in
      record {
        distinct = distinct;
        own = let less = length_swap owns at own (omega (arith, within, as_own)) in omega (arith, less, long, as_own);
        whole = let less = length_swap sums at whole (omega (arith, within, as_whole)) in omega (arith, less, long, as_whole);
      }
