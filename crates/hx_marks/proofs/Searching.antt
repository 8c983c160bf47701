-- A search among names in order, as of namespaces that begin to leave.
--     searched          it finds a name exactly if the name is among them
--     same_members      in another order they are the same
--     same_apart        so are the names that aren't among them
--     marks_alike       what a write marks among others depends on who is among them alone
use Rattle.std.proofs.Common.{◌≡◌, ℕ, Bool, false, cond, not, ◌&&◌, ◌||◌, Option, Some, None, List, [], ◌∷◌, ◌++◌, length, Result, Ok, Err, refl, sym, ap, ◌∙◌}
use Rattle.std.specs.Prelude.{flat_map, is_ok, if◌then◌else◌}
use Rattle.std.specs.List.Sorted.{IsSorted, IsPermutation, IsSearchInRange, IsBinarySearchResult}
use Rattle.std.specs.Option.{option_map_or}
use Rattle.std.specs.Str.{bytes_eq}
use Rattle.std.proofs.lemmas.List.Sorted.{searchable_from_sorted, list_any-IsPermutation}
use Rattle.hx_object.specs.Texts.{bytes_cmp}
use Rattle.hx_model.specs.Forest.{Forest, is_in, parent_of}
use Rattle.hx_model.specs.State.{State, object_at}
use Rattle.hx_model.specs.Tree.{forest_of}
use Rattle.hx_model.specs.Writes.{id_written}
use Rattle.hx_model.specs.declared.key.Write.{Write}
use Rattle.hx_model.proofs.Climbing.{same_itself}
use Rattle.hx_forest.proofs.Ascending.{found_has, missed_has}
use Rattle.hx_forest.proofs.Named.{name_total}
use Rattle.hx_marks.specs.Before.{marks_before, marks_before_among}
use Rattle.hx_marks.specs.Law.{apart, follows, begins_by, following_marks, object_written}
use Rattle.hx_object.specs.Kinds.{is_namespace}

-- ---- the search

pub searched : (xs : List (List ℕ)) (n : List ℕ) (r : Result ℕ ℕ) → IsSorted bytes_cmp xs → IsSearchInRange r (length xs) → IsBinarySearchResult (λ y. bytes_cmp y n) xs r → is_ok r ≡ is_in n xs
searched xs n (Ok at) up within found = sym (found_has xs at n n within found ∙ ap (λ b. b || is_in n xs) (same_itself n))
searched xs n (Err at) up within missed =
    let parts = missed (searchable_from_sorted name_total (λ (x : List ℕ). x) xs n up) in
    sym (missed_has xs at n n parts.0 parts.1 ∙ ap (λ b. not b && is_in n xs) (same_itself n))

-- ---- the names

pub same_members : (xs ys : List (List ℕ)) → IsPermutation xs ys → (q : List ℕ) → is_in q ys ≡ is_in q xs
same_members xs ys moved q = sym (list_any-IsPermutation (bytes_eq q) xs ys moved)

pub same_apart : (names xs ys : List (List ℕ)) → ((q : List ℕ) → is_in q xs ≡ is_in q ys) → apart names xs ≡ apart names ys
same_apart [] xs ys same = refl
same_apart (n ∷ names) xs ys same = λ i. cond (not (same n i)) (n ∷ same_apart names xs ys same i) (same_apart names xs ys same i)

follows_alike : (f : Forest) (names others : List (List ℕ)) (n : List ℕ) → ((q : List ℕ) → is_in q names ≡ is_in q others) → follows f names n ≡ follows f others n
follows_alike f names others n same = by (parent_of f n)
  where
    by : (next : Option (List ℕ)) → option_map_or (λ p. not (bytes_eq p n) && is_in p names) next false ≡ option_map_or (λ p. not (bytes_eq p n) && is_in p others) next false
    by None = refl
    by (Some p) = ap (λ b. not (bytes_eq p n) && b) (same p)

pub marks_alike : (s : State) (names others : List (List ℕ)) (writes : List Write) → ((q : List ℕ) → is_in q names ≡ is_in q others) → flat_map (marks_before_among s names) writes ≡ flat_map (marks_before_among s others) writes
marks_alike s names others [] same = refl
marks_alike s names others (write ∷ writes) same =
    let begins : Bool = begins_by (object_at s.objects (id_written write)) (object_written write) in
    let follow = follows_alike (forest_of s) names others (id_written write).name same in
    λ i. (if begins && (is_namespace (id_written write).kind && follow i) then following_marks s (id_written write).name else marks_before s write) ++ marks_alike s names others writes same i
