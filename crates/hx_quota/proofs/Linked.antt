-- Names with those of their parents, which lie at indices.
--     keys_linked, length_linked, name_linked, up_linked      what is found there
--     linked_set, ups_set      another parent
--     linked_push, ups_push    one more without a parent
--     ups_out, table_left, places_left      one that goes, and the last one at its index
--     relinked_to, relink_one, relink_none, relink_that, relink_all      indices that are relinked one after the other
use Rattle.std.specs.Prelude.{option_and_then, position, slice_get, slice_set, swap_remove, take, get_or, nat_eq, IfSome}
use Rattle.std.proofs.Common.{◌≡◌, ℕ, zero, suc, ◌-◌, ◌<◌, Bool, true, false, cond, Option, Some, None, option_map, List, [], ◌∷◌, ◌++◌, map, length, refl, sym, ap, ◌∙◌, subst, inl, inr, ◌≢◌, arith, true≢false}
use Rattle.std.specs.List.{IsDistinct}
use Rattle.std.specs.Map.{keys_of, lookup}
use Rattle.std.specs.Option.{option_map_or}
use Rattle.std.specs.Str.{bytes_eq}
use Rattle.std.proofs.lemmas.Bool.Decides.{eqb_tells}
use Rattle.std.proofs.lemmas.Cmp.{nat_list_eq_equiv}
use Rattle.std.proofs.lemmas.List.{length-append, length-set}
use Rattle.std.proofs.lemmas.Map.Entries.{lookup_from_place}
use Rattle.std.proofs.lemmas.Option.{none-some, same_Some, slice_get-get_or}
use Rattle.indexmap.specs.IndexMap.{set_value_at}
use Rattle.hx_quota.specs.PlaceRows.{Place, Link, Links, Names, Rows, Ups, joined, linked, placed, place_at, ups_behind, AreUps, IsTable, relinked}
use Rattle.hx_quota.proofs.Indexed.{index_found}
use Rattle.hx_quota.proofs.Joined.{distinct_out, length_swap, link_parent, links_out, place_out, table_out}

abbrev Row : Type 0
Row = List ℕ × Link

-- ---- what is found

pub keys_linked : (among names : Names) (ups : Ups) → keys_of (linked among names ups) ≡ names
keys_linked among [] ups = refl
keys_linked among (n ∷ names) ups = ap (λ ks. n ∷ ks) (keys_linked among names (ups_behind ups))

pub length_linked : (among names : Names) (ups : Ups) → length (linked among names ups) ≡ length names
length_linked among [] ups = refl
length_linked among (n ∷ names) ups = ap (λ k. suc k) (length_linked among names (ups_behind ups))

pub name_linked : (among names : Names) (ups : Ups) (at : ℕ) → option_map (λ (e : Row). e.0) (slice_get (linked among names ups) at) ≡ slice_get names at
name_linked among [] ups at = refl
name_linked among (n ∷ names) ups zero = refl
name_linked among (n ∷ names) ups (suc at) = name_linked among names (ups_behind ups) at

pub up_linked : (among names : Names) (ups : Ups) → length ups ≡ length names → (at : ℕ)
    → option_and_then (λ (e : Row). e.1) (slice_get (linked among names ups) at) ≡ option_and_then (slice_get among) (option_and_then (λ (u : Option ℕ). u) (slice_get ups at))
up_linked among [] [] same at = refl
up_linked among [] (u ∷ ups) same at = absurd (omega (arith, same))
up_linked among (n ∷ names) [] same at = absurd (omega (arith, same))
up_linked among (n ∷ names) (u ∷ ups) same zero = refl
up_linked among (n ∷ names) (u ∷ ups) same (suc at) = up_linked among names ups (omega (arith, same)) at

row_linked : (among names : Names) (ups : Ups) → length ups ≡ length names → (k : ℕ) (u : Option ℕ) → slice_get ups k ≡ Some u
    → (n : List ℕ) × (slice_get (linked among names ups) k ≡ Some (n, option_and_then (slice_get among) u))
row_linked among names [] same k u is = absurd (none-some u is)
row_linked among [] (v ∷ ups) same k u is = absurd (omega (arith, same))
row_linked among (n ∷ names) (v ∷ ups) same zero u is = (n, ap (λ (o : Option ℕ). Some (n, option_and_then (slice_get among) o)) (same_Some v u is))
row_linked among (n ∷ names) (v ∷ ups) same (suc k) u is = row_linked among names ups (omega (arith, same)) k u is

-- among other names, and with changed indices
linked_moved : (among new names : Names) (ups : Ups) (change : Option ℕ → Option ℕ) → ((k : ℕ) (u : Option ℕ) → slice_get ups k ≡ Some u → option_and_then (slice_get among) u ≡ option_and_then (slice_get new) (change u))
    → linked among names ups ≡ linked new names (map change ups)
linked_moved among new [] ups change each = refl
linked_moved among new (n ∷ names) [] change each = ap (λ xs. (n, None) ∷ xs) (linked_moved among new names [] change each)
linked_moved among new (n ∷ names) (u ∷ ups) change each = λ i. (n, each 0 u refl i) ∷ linked_moved among new names ups change (λ k v here. each (suc k) v here) i

same_ups : (ups : Ups) → map (λ (u : Option ℕ). u) ups ≡ ups
same_ups [] = refl
same_ups (u ∷ ups) = ap (λ xs. u ∷ xs) (same_ups ups)

-- ---- what holds of each index

module _ (P : Option ℕ → Type 0) where
  each_set : (ups : Ups) (at : ℕ) (up : Option ℕ) → P up → ((k : ℕ) (u : Option ℕ) → slice_get ups k ≡ Some u → P u) → (k : ℕ) (u : Option ℕ) → slice_get (slice_set ups at up) k ≡ Some u → P u
  each_set [] at up has each k u is = each k u is
  each_set (v ∷ ups) zero up has each zero u is = subst P (same_Some up u is) has
  each_set (v ∷ ups) zero up has each (suc k) u is = each (suc k) u is
  each_set (v ∷ ups) (suc at) up has each zero u is = each zero u is
  each_set (v ∷ ups) (suc at) up has each (suc k) u is = each_set ups at up has (λ j w here. each (suc j) w here) k u is

  each_push : (ups : Ups) → P None → ((k : ℕ) (u : Option ℕ) → slice_get ups k ≡ Some u → P u) → (k : ℕ) (u : Option ℕ) → slice_get (ups ++ None ∷ []) k ≡ Some u → P u
  each_push [] has each zero u is = subst P (same_Some None u is) has
  each_push [] has each (suc k) u is = absurd (none-some u is)
  each_push (v ∷ ups) has each zero u is = each zero u is
  each_push (v ∷ ups) has each (suc k) u is = each_push ups has (λ j w here. each (suc j) w here) k u is

  each_take : (n : ℕ) (ups : Ups) → ((k : ℕ) (u : Option ℕ) → slice_get ups k ≡ Some u → P u) → (k : ℕ) (u : Option ℕ) → slice_get (take n ups) k ≡ Some u → P u
  each_take zero ups each k u is = absurd (none-some u is)
  each_take (suc n) [] each k u is = absurd (none-some u is)
  each_take (suc n) (v ∷ ups) each zero u is = each zero u is
  each_take (suc n) (v ∷ ups) each (suc k) u is = each_take n ups (λ j w here. each (suc j) w here) k u is

  each_swap : (ups : Ups) (at : ℕ) (x : Option ℕ) → at < length ups → ((k : ℕ) (u : Option ℕ) → slice_get ups k ≡ Some u → P u) → (k : ℕ) (u : Option ℕ) → slice_get (swap_remove ups at x) k ≡ Some u → P u
  each_swap ups at x within each =
      let last : ℕ = length ups - 1 in
      let moved = get_or ups last x in
      each_take last (slice_set ups at moved) (each_set ups at moved (each last moved (slice_get-get_or ups last x (omega (arith, within)))) each)

each_map : (P Q : Option ℕ → Type 0) (change : Option ℕ → Option ℕ) (ups : Ups) → ((k : ℕ) (u : Option ℕ) → slice_get ups k ≡ Some u → P u) → ((u : Option ℕ) → P u → Q (change u)) → (k : ℕ) (u : Option ℕ) → slice_get (map change ups) k ≡ Some u → Q u
each_map P Q change [] each turn k u is = absurd (none-some u is)
each_map P Q change (v ∷ ups) each turn zero u is = subst Q (same_Some (change v) u is) (turn v (each zero v refl))
each_map P Q change (v ∷ ups) each turn (suc k) u is = each_map P Q change ups (λ j w here. each (suc j) w here) turn k u is

-- ---- one gets another parent

pub linked_set : (among names : Names) (ups : Ups) → length ups ≡ length names → (at : ℕ) (up : Option ℕ) → linked among names (slice_set ups at up) ≡ set_value_at (linked among names ups) at (option_and_then (slice_get among) up)
linked_set among [] [] same at up = refl
linked_set among [] (u ∷ ups) same at up = absurd (omega (arith, same))
linked_set among (n ∷ names) [] same at up = absurd (omega (arith, same))
linked_set among (n ∷ names) (u ∷ ups) same zero up = refl
linked_set among (n ∷ names) (u ∷ ups) same (suc at) up = ap (λ xs. (n, option_and_then (slice_get among) u) ∷ xs) (linked_set among names ups (omega (arith, same)) at up)

pub ups_set : (names : Names) (ups : Ups) (at : ℕ) (up : Option ℕ) → IfSome up (λ i. i < length names) → AreUps names ups → AreUps names (slice_set ups at up)
ups_set names ups at up within are = (length-set ups at up ∙ are.0, each_set (λ u. IfSome u (λ i. i < length names)) ups at up within are.1)

-- ---- one comes

get_before : (names : Names) (n : List ℕ) (i : ℕ) → i < length names → slice_get names i ≡ slice_get (names ++ n ∷ []) i
get_before [] n i within = absurd (omega (arith, within))
get_before (m ∷ names) n zero within = refl
get_before (m ∷ names) n (suc i) within = get_before names n i (omega (arith, within))

linked_behind : (among names : Names) (ups : Ups) (n : List ℕ) → length ups ≡ length names → linked among (names ++ n ∷ []) (ups ++ None ∷ []) ≡ linked among names ups ++ (n, None) ∷ []
linked_behind among [] [] n same = refl
linked_behind among [] (u ∷ ups) n same = absurd (omega (arith, same))
linked_behind among (m ∷ names) [] n same = absurd (omega (arith, same))
linked_behind among (m ∷ names) (u ∷ ups) n same = ap (λ xs. (m, option_and_then (slice_get among) u) ∷ xs) (linked_behind among names ups n (omega (arith, same)))

pub linked_push : (names : Names) (ups : Ups) (n : List ℕ) → AreUps names ups → linked (names ++ n ∷ []) (names ++ n ∷ []) (ups ++ None ∷ []) ≡ linked names names ups ++ (n, None) ∷ []
linked_push names ups n are =
    let new = names ++ n ∷ [] in
    linked_behind new names ups n are.0
    ∙ ap (λ xs. xs ++ (n, None) ∷ []) (ap (linked new names) (sym (same_ups ups)) ∙ sym (linked_moved names new names ups (λ (u : Option ℕ). u) (λ k u here. stays u (are.1 k u here))))
  where
    stays : (u : Option ℕ) → IfSome u (λ i. i < length names) → option_and_then (slice_get names) u ≡ option_and_then (slice_get (names ++ n ∷ [])) u
    stays None within = refl
    stays (Some i) within = get_before names n i within

pub ups_push : (names : Names) (ups : Ups) (n : List ℕ) → AreUps names ups → AreUps (names ++ n ∷ []) (ups ++ None ∷ [])
ups_push names ups n are =
    let longer = length-append names (n ∷ []) in
    let more = length-append ups (None ∷ []) in
    let level = are.0 in (
      omega (arith, longer, more, level),
      each_push (λ u. IfSome u (λ i. i < length (names ++ n ∷ []))) ups tt (λ k u here. further u (are.1 k u here)),
    )
  where
    further : (u : Option ℕ) → IfSome u (λ i. i < length names) → IfSome u (λ i. i < length (names ++ n ∷ []))
    further None within = tt
    further (Some i) within = let longer = length-append names (n ∷ []) in omega (arith, within, longer)

-- ---- one goes

linked_take : (k : ℕ) (among names : Names) (ups : Ups) → length ups ≡ length names → linked among (take k names) (take k ups) ≡ take k (linked among names ups)
linked_take zero among names ups same = refl
linked_take (suc k) among [] ups same = refl
linked_take (suc k) among (n ∷ names) [] same = absurd (omega (arith, same))
linked_take (suc k) among (n ∷ names) (u ∷ ups) same = ap (λ xs. (n, option_and_then (slice_get among) u) ∷ xs) (linked_take k among names ups (omega (arith, same)))

linked_put : (among names : Names) (ups : Ups) → length ups ≡ length names → (at : ℕ) (n : List ℕ) (u : Option ℕ)
    → linked among (slice_set names at n) (slice_set ups at u) ≡ slice_set (linked among names ups) at (n, option_and_then (slice_get among) u)
linked_put among [] [] same at n u = refl
linked_put among [] (v ∷ ups) same at n u = absurd (omega (arith, same))
linked_put among (m ∷ names) [] same at n u = absurd (omega (arith, same))
linked_put among (m ∷ names) (v ∷ ups) same zero n u = refl
linked_put among (m ∷ names) (v ∷ ups) same (suc at) n u = ap (λ xs. (m, option_and_then (slice_get among) v) ∷ xs) (linked_put among names ups (omega (arith, same)) at n u)

linked_get : (among names : Names) (ups : Ups) → length ups ≡ length names → (at : ℕ) → at < length names → (n : List ℕ) (u : Option ℕ) (e : Row)
    → (get_or names at n, option_and_then (slice_get among) (get_or ups at u)) ≡ get_or (linked among names ups) at e
linked_get among [] ups same at within n u e = absurd (omega (arith, within))
linked_get among (m ∷ names) [] same at within n u e = absurd (omega (arith, same))
linked_get among (m ∷ names) (v ∷ ups) same zero within n u e = refl
linked_get among (m ∷ names) (v ∷ ups) same (suc at) within n u e = linked_get among names ups (omega (arith, same)) at (omega (arith, within)) n u e

linked_swap : (among names : Names) (ups : Ups) → length ups ≡ length names → (at : ℕ) → at < length names → (n : List ℕ) (u : Option ℕ) (e : Row)
    → linked among (swap_remove names at n) (swap_remove ups at u) ≡ swap_remove (linked among names ups) at e
linked_swap among names ups same at within n u e =
    let last : ℕ = length names - 1 in
    let links = linked among names ups in
    let along : length ups - 1 ≡ last = ap (λ k. k - 1) same in
    let over : length links - 1 ≡ last = ap (λ k. k - 1) (length_linked among names ups) in
    (λ i. linked among (take last (slice_set names at (get_or names last n))) (take (along i) (slice_set ups at (get_or ups (along i) u))))
    ∙ linked_take last among (slice_set names at (get_or names last n)) (slice_set ups at (get_or ups last u)) (length-set ups at (get_or ups last u) ∙ same ∙ sym (length-set names at (get_or names last n)))
    ∙ ap (take last) (linked_put among names ups same at (get_or names last n) (get_or ups last u))
    ∙ ap (λ (x : Row). take last (slice_set links at x)) (linked_get among names ups same last (omega (arith, within)) n u e)
    ∙ sym (λ i. take (over i) (slice_set links at (get_or links (over i) e)))

-- what lies at an index then
get_take : (k : ℕ) (names : Names) (i : ℕ) → i < k → slice_get (take k names) i ≡ slice_get names i
get_take zero names i within = absurd (omega (arith, within))
get_take (suc k) [] i within = refl
get_take (suc k) (m ∷ names) zero within = refl
get_take (suc k) (m ∷ names) (suc i) within = get_take k names i (omega (arith, within))

get_other : (names : Names) (at : ℕ) (n : List ℕ) (i : ℕ) → (i ≡ at → ⊥) → slice_get (slice_set names at n) i ≡ slice_get names i
get_other [] at n i other = refl
get_other (m ∷ names) zero n zero other = absurd (other refl)
get_other (m ∷ names) zero n (suc i) other = refl
get_other (m ∷ names) (suc at) n zero other = refl
get_other (m ∷ names) (suc at) n (suc i) other = get_other names at n i (λ same. other (ap (λ k. suc k) same))

get_here : (names : Names) (at : ℕ) (n : List ℕ) → at < length names → slice_get (slice_set names at n) at ≡ Some n
get_here [] at n within = absurd (omega (arith, within))
get_here (m ∷ names) zero n within = refl
get_here (m ∷ names) (suc at) n within = get_here names at n (omega (arith, within))

-- the index of another one, below a number
abbrev IsOther : ℕ → ℕ → Option ℕ → Type 0
IsOther count at u = IfSome u (λ i. (i < count) × (i ≢ at))

module _ (names : Names) (ups : Ups) (owns sums : Rows) (is : IsTable (linked names names ups) owns sums) (are : AreUps names ups) (at : ℕ) (n : List ℕ) (within : at < length names) (index : Some at ≡ position (bytes_eq n) names) (u : Option ℕ)
    (childless : (m : List ℕ) (p : Place) → bytes_eq n m ≡ false → place_at (placed names ups owns sums) m ≡ Some p → p.entry.parent ≡ Some n → ⊥) where
  abbrev links : Links
  links = linked names names ups

  abbrev gone : Row
  gone = get_or links at (n, None)

  inside : at < length links
  inside = let long = length_linked names names ups in omega (arith, within, long)

  there : slice_get links at ≡ Some gone
  there = slice_get-get_or links at (n, None) inside

  index_linked : Some at ≡ position (bytes_eq n) (keys_of links)
  index_linked = index ∙ ap (position (bytes_eq n)) (sym (keys_linked names names ups))

  here : slice_get names at ≡ Some n
  here = index_found n names at (sym index) within

  distinct : IsDistinct bytes_eq (keys_of (swap_remove links at gone))
  distinct = distinct_out links owns sums is n at index_linked gone there

  updated : (q : List ℕ) → lookup (bytes_eq q) (swap_remove links at gone) ≡ cond (bytes_eq n q) None (lookup (bytes_eq q) links)
  updated q = links_out links owns sums is n at index_linked gone there q

  apart : (m : List ℕ) (o : Link) → bytes_eq n m ≡ false → lookup (bytes_eq m) links ≡ Some o → o ≡ Some n → ⊥
  apart m o out = link_parent links owns sums n m (λ p. childless m p out) o

  abbrev new : Names
  new = swap_remove names at n

  abbrev left : Ups
  left = swap_remove ups at u

  abbrev last : ℕ
  last = length names - 1

  swapped : linked names new left ≡ swap_remove links at gone
  swapped = linked_swap names names ups are.0 at within n u gone

  level : length left ≡ length new
  level =
      let same = are.0 in
      let fewer = length_swap names at n within in
      let less = length_swap ups at u (omega (arith, within, same)) in
      omega (arith, same, fewer, less)

  -- none of those that stay has it as its parent
  alone : (k : ℕ) (v : Option ℕ) → slice_get left k ≡ Some v → option_and_then (slice_get names) v ≡ Some n → ⊥
  alone k v is_up named =
      let row = row_linked names new left level k v is_up in
      by (bytes_eq n row.0) refl (sym (updated row.0) ∙ lookup_from_place nat_list_eq_equiv (swap_remove links at gone) k row.0 (option_and_then (slice_get names) v) distinct (ap (λ (xs : Links). slice_get xs k) (sym swapped) ∙ row.1))
    where
      by : (b : Bool) → bytes_eq n (row_linked names new left level k v is_up).0 ≡ b → cond b None (lookup (bytes_eq (row_linked names new left level k v is_up).0) links) ≡ Some (option_and_then (slice_get names) v) → ⊥
      by true same found = none-some (option_and_then (slice_get names) v) found
      by false out found = apart (row_linked names new left level k v is_up).0 (option_and_then (slice_get names) v) out found named

  others : (k : ℕ) (v : Option ℕ) → slice_get left k ≡ Some v → IsOther (length names) at v
  others k None up = tt
  others k (Some i) up = (
    each_swap (λ v. IfSome v (λ j. j < length names)) ups at u (let same = are.0 in omega (arith, within, same)) are.1 k (Some i) up,
    λ same. alone k (Some i) up (ap (slice_get names) same ∙ here),
  )

  -- where the parent of one of them lies
  moved : (v : Option ℕ) → IsOther (length names) at v → option_and_then (slice_get names) v ≡ option_and_then (slice_get new) (relinked last at v)
  moved None other = refl
  moved (Some i) other = elim (eqb_tells i last) [
    | inl h ↦ to_here h.1 ∙ ap (λ b. slice_get new (cond b at i)) (sym h.0)
    | inr h ↦ stays h.1 ∙ ap (λ b. slice_get new (cond b at i)) (sym h.0)
  ]
    where
      lies : i < length names
      lies = other.0

      apart_from : i ≢ at
      apart_from = other.1

      to_here : i ≡ last → slice_get names i ≡ slice_get new at
      to_here is_last =
          let before : at < last = omega (arith, within, lies, is_last, apart_from) in
          ap (slice_get names) is_last ∙ slice_get-get_or names last n (omega (arith, within))
          ∙ sym (get_take last (slice_set names at (get_or names last n)) at before ∙ get_here names at (get_or names last n) within)

      stays : i ≢ last → slice_get names i ≡ slice_get new i
      stays not_last =
          let before : i < last = omega (arith, lies, not_last) in
          sym (get_take last (slice_set names at (get_or names last n)) i before ∙ get_other names at (get_or names last n) i apart_from)

  below : (v : Option ℕ) → IsOther (length names) at v → IfSome (relinked last at v) (λ i. i < length new)
  below None other = tt
  below (Some i) other = elim (eqb_tells i last) [
    | inl h ↦ subst (λ (b : Bool). cond b at i < length new) (sym h.0) (to_here h.1)
    | inr h ↦ subst (λ (b : Bool). cond b at i < length new) (sym h.0) (stays h.1)
  ]
    where
      lies : i < length names
      lies = other.0

      apart_from : i ≢ at
      apart_from = other.1

      to_here : i ≡ last → at < length new
      to_here is_last = let fewer = length_swap names at n within in omega (arith, fewer, within, lies, is_last, apart_from)

      stays : i ≢ last → i < length new
      stays not_last = let fewer = length_swap names at n within in omega (arith, fewer, lies, not_last)

  linked_out : linked new new (map (relinked last at) left) ≡ swap_remove links at gone
  linked_out = sym (linked_moved names new new left (relinked last at) (λ k v up. moved v (others k v up))) ∙ swapped

  pub ups_out : AreUps new (map (relinked last at) left)
  ups_out = (
    length_map left ∙ level,
    each_map (IsOther (length names) at) (λ v. IfSome v (λ i. i < length new)) (relinked last at) left others below,
  )
    where
      length_map : (us : Ups) → length (map (relinked last at) us) ≡ length us
      length_map [] = refl
      length_map (v ∷ us) = ap (λ k. suc k) (length_map us)

  -- what is left is a table of the places that are left
  pub table_left : (own whole : List ℕ) → IsTable (linked new new (map (relinked last at) left)) (swap_remove owns at own) (swap_remove sums at whole)
  table_left own whole =
      table_out links owns sums is n (linked new new (map (relinked last at) left)) at gone own whole (subst (λ (xs : Links). IsDistinct bytes_eq (keys_of xs)) (sym linked_out) distinct) inside linked_out

  pub places_left : (own whole : List ℕ) (q : List ℕ) → place_at (placed new (map (relinked last at) left) (swap_remove owns at own) (swap_remove sums at whole)) q ≡ cond (bytes_eq n q) None (place_at (placed names ups owns sums) q)
  places_left own whole q = ap (λ (xs : Links). place_at (joined xs (swap_remove owns at own) (swap_remove sums at whole)) q) linked_out ∙ place_out links owns sums is n at index_linked inside gone own whole q

-- ---- one after the other

abbrev pub relinked_to : ℕ → ℕ → ℕ → Ups → Ups
relinked_to zero from to ups = ups
relinked_to (suc k) from to [] = []
relinked_to (suc k) from to (u ∷ ups) = relinked from to u ∷ relinked_to k from to ups

pub relink_one : (k from to : ℕ) (ups : Ups) (u : Option ℕ) → slice_get (relinked_to k from to ups) k ≡ Some u → slice_set (relinked_to k from to ups) k (relinked from to u) ≡ relinked_to (suc k) from to ups
relink_one zero from to [] u is = refl
relink_one zero from to (x ∷ ups) u is = ap (λ (o : Option ℕ). relinked from to o ∷ ups) (sym (same_Some x u is))
relink_one (suc k) from to [] u is = refl
relink_one (suc k) from to (x ∷ ups) u is = ap (λ us. relinked from to x ∷ us) (relink_one k from to ups u is)

-- one that doesn't lie there stays
pub relink_none : (k from to : ℕ) (ups : Ups) (u : Option ℕ) → slice_get (relinked_to k from to ups) k ≡ Some u → option_map_or (λ i. nat_eq i from) u false ≡ false → relinked_to k from to ups ≡ relinked_to (suc k) from to ups
relink_none zero from to [] u is out = refl
relink_none zero from to (x ∷ ups) u is out = ap (λ (o : Option ℕ). o ∷ ups) (stays x (ap (λ (o : Option ℕ). option_map_or (λ i. nat_eq i from) o false) (same_Some x u is) ∙ out))
  where
    stays : (x : Option ℕ) → option_map_or (λ i. nat_eq i from) x false ≡ false → x ≡ relinked from to x
    stays None h = refl
    stays (Some i) h = ap (λ b. Some (cond b to i)) (sym h)
relink_none (suc k) from to [] u is out = refl
relink_none (suc k) from to (x ∷ ups) u is out = ap (λ us. relinked from to x ∷ us) (relink_none k from to ups u is out)

-- and one that does lies elsewhere
pub relink_that : (from to : ℕ) (u : Option ℕ) → option_map_or (λ i. nat_eq i from) u false ≡ true → Some to ≡ relinked from to u
relink_that from to None h = absurd (true≢false (sym h))
relink_that from to (Some i) h = ap (λ b. Some (cond b to i)) (sym h)

pub relink_all : (from to : ℕ) (ups : Ups) → relinked_to (length ups) from to ups ≡ map (relinked from to) ups
relink_all from to [] = refl
relink_all from to (u ∷ ups) = ap (λ us. relinked from to u ∷ us) (relink_all from to ups)
