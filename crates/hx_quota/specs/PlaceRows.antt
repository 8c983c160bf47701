-- What is kept of namespaces.
--     Place, Places            what is kept of a namespace;  of all, under their names, in the order in which it lies
--     PlacesView               the places, the links that close rings, and how many more fit without taking memory
--     new_place                the place of a namespace that comes
--     ring_in                  the link of a namespace that closes a ring
--     linked                   names with those of their parents, which lie at indices
--     joined                   the places whose parts lie in three lists
--     placed                   those of names, the indices of parents, and rows
--     changed_row              rows with one changed
--     IsTable                  these are equally long, and names are distinct
--     UpsView, most_places     the indices of parents, and the room;  the most places
--     AreUps                   indices of parents, each below the number of names
--     relinked                 an index where one lies that lay at another
--     IsFoundAt                the place of a name lies at an index, or it has none
use Rattle.std.specs.Prelude.{◌≡◌, ℕ, zero, suc, ◌<◌, nat_eq, List, [], ◌∷◌, length, replicate, slice_get, Option, Some, None, option_and_then, IfSome, if◌then◌else◌, refl}
use Rattle.std.specs.Coded.{Coded, code_by, coded×, coded_list, coded_option, coded_ℕ}
use Rattle.std.specs.List.{IsDistinct}
use Rattle.std.specs.Map.{keys_of, lookup}
use Rattle.std.specs.Str.{bytes_eq}
use Rattle.hx_quota.specs.Counters.{Entry, entry_code, new_entry}

-- what is kept of a namespace: its entry, and what it has with all below it
pub record Place : Type 0 where
  pub entry : Entry
  pub sums : List ℕ

abbrev pub place_code : Coded Place
place_code = code_by (Entry × List ℕ) (coded× entry_code (coded_list coded_ℕ)) (λ p. (p.entry, p.sums)) (λ p. record { entry = p.0; sums = p.1 }) (λ _. refl)

abbrev pub Places : Type 0
Places = List (List ℕ × Place)

-- the place of a name
abbrev pub place_at : Places → List ℕ → Option Place
place_at places n = lookup (bytes_eq n) places

-- a parent, or none
abbrev pub Link : Type 0
Link = Option (List ℕ)

abbrev pub Links : Type 0
Links = List (List ℕ × Link)

-- the link of a namespace that closes a ring, where there is one
abbrev pub ring_in : Links → List ℕ → Link
ring_in rings n = option_and_then (λ (link : Link). link) (lookup (bytes_eq n) rings)

-- the places, the links that close rings, and how many more fit without taking memory
pub record PlacesView : Type 0 where
  pub entries : Places
  pub rings : Links
  pub spare : ℕ

abbrev pub places_code : Coded PlacesView
places_code = code_by (Places × (Links × ℕ)) (coded× (coded_list (coded× (coded_list coded_ℕ) place_code)) (coded× (coded_list (coded× (coded_list coded_ℕ) (coded_option (coded_list coded_ℕ)))) coded_ℕ))
    (λ v. (v.entries, (v.rings, v.spare))) (λ p. record { entries = p.0; rings = p.1.0; spare = p.1.1 }) (λ _. refl)

-- the place of a namespace that comes
abbrev pub new_place : Place
new_place = record { entry = new_entry; sums = replicate 15 0 }

-- ---- three lists

abbrev pub Rows : Type 0
Rows = List (List ℕ)

abbrev pub Names : Type 0
Names = List (List ℕ)

-- the indices of parents
abbrev pub Ups : Type 0
Ups = List (Option ℕ)

-- the first index, and those behind it
abbrev pub first_up : Ups → Option ℕ
first_up [] = None
first_up (up ∷ ups) = up

abbrev pub ups_behind : Ups → Ups
ups_behind [] = []
ups_behind (up ∷ ups) = ups

-- names with those of their parents, which lie at indices among names
abbrev pub linked : Names → Names → Ups → Links
linked among [] ups = []
linked among (n ∷ names) ups = (n, option_and_then (slice_get among) (first_up ups)) ∷ linked among names (ups_behind ups)

-- the first row, and those behind it
abbrev pub first_row : Rows → List ℕ
first_row [] = []
first_row (row ∷ rows) = row

abbrev pub behind : Rows → Rows
behind [] = []
behind (row ∷ rows) = rows

-- a place of its parts
abbrev pub place_of_parts : Link → List ℕ → List ℕ → Place
place_of_parts link own sums = record { entry = record { parent = link; own = own }; sums = sums }

-- the places whose links, own sums and sums over subtrees lie in three lists
abbrev pub joined : Links → Rows → Rows → Places
joined [] owns sums = []
joined (e ∷ links) owns sums = (e.0, place_of_parts e.1 (first_row owns) (first_row sums)) ∷ joined links (behind owns) (behind sums)

-- those of names, the indices of their parents, and rows
abbrev pub placed : Names → Ups → Rows → Rows → Places
placed names ups owns sums = joined (linked names names ups) owns sums

-- with the row at an index changed
abbrev pub changed_row : ℕ → (List ℕ → List ℕ) → Rows → Rows
changed_row at change [] = []
changed_row zero change (row ∷ rows) = change row ∷ rows
changed_row (suc at) change (row ∷ rows) = row ∷ changed_row at change rows

-- the lists are equally long, and no name is there twice
pub record IsTable (links : Links) (owns sums : Rows) : Type 0 where
  pub distinct : IsDistinct bytes_eq (keys_of links)
  pub own : length owns ≡ length links
  pub whole : length sums ≡ length links

-- the place of a name lies at that index, and there is none without one
abbrev pub IsFoundAt : Places → List ℕ → Option ℕ → Type 0
IsFoundAt places n None = place_at places n ≡ None
IsFoundAt places n (Some at) = (p : Place) × (slice_get places at ≡ Some (n, p)) × (place_at places n ≡ Some p)

-- ---- where parents lie

-- the indices of parents, and how many more there is room for
pub record UpsView : Type 0 where
  pub items : Ups
  pub spare : ℕ

-- the most places, so that their indices have 32 bits
abbrev pub most_places : ℕ
most_places = 4_294_967_296

-- an index for each name, or none, each below their number
abbrev pub AreUps : Names → Ups → Type 0
AreUps names ups = (length ups ≡ length names) × ((k : ℕ) (up : Option ℕ) → slice_get ups k ≡ Some up → IfSome up (λ i. i < length names))

-- an index, where one lies that lay at another
abbrev pub relinked : ℕ → ℕ → Option ℕ → Option ℕ
relinked from to None = None
relinked from to (Some at) = Some (if nat_eq at from then to else at)
