-- What a tree's value is: what the grammar of values gives, and what look-ups in the tree find.
use Rattle.std.proofs.Common.{◌≡◌, ℕ, List, Bool, true, false, cond, Option, Some, None, option_map, option_and_then, unwrap_or, is_some, refl, sym, ap, ◌∙◌, subst, true≢false, bytes_eq}
use Rattle.std.proofs.lemmas.Bool.{and_parts}
use Rattle.std.proofs.lemmas.Slice.Eq.{bytes_eq-Decides}
use Rattle.json.specs.Json as json
use Rattle.json.specs.Json.{Json}
use Rattle.json.specs.Find as find
use Rattle.serde_json.specs.Data.{Num, unsigned, negative, float, Data, number, array, object, item, Members, no_members, put}
use Rattle.serde_json.specs.Find.{get, get_member}
use Rattle.serde_json.specs.Read.{number_of, of_json, of_items, of_members, read}
use Rattle.serde_json.specs.Written.{has_float, items_have_float, members_have_float}
use Rattle.serde_json.proofs.Views.{get_member-put, get_member-put_other}
use Rattle.hx_json.proofs.NoFloat.{none_of, no_float_put}
use Rattle.hx_json.specs.Trees as tree
use Rattle.hx_json.specs.Trees.{unless_float, is_tame, items_are_tame, members_are_tame, data_of, items_of, members_onto, tree_of}

-- ---- tame trees are values

whole_is : (o : Option Num) → is_some (unless_float o) ≡ true → o ≡ Some (unwrap_or (unless_float o) (unsigned 0))
whole_is None h = absurd (true≢false (sym h))
whole_is (Some (unsigned n)) h = refl
whole_is (Some (negative z)) h = refl
whole_is (Some (float x)) h = absurd (true≢false (sym h))

mutual
  pub of_tame : (j : Json) → is_tame j ≡ true → of_json j ≡ Some (data_of j)
  of_tame json.null h = refl
  of_tame (json.boolean b) h = refl
  of_tame (json.number text) h = ap (option_map number) (whole_is (number_of text) h)
  of_tame (json.string text) h = refl
  of_tame (json.array js) h = ap (option_map array) (of_tame_items js h)
  of_tame (json.object ms) h = ap (option_map object) (of_tame_members ms no_members h)

  of_tame_items : (js : json.Items) → items_are_tame js ≡ true → of_items js ≡ Some (tree.items_of js)
  of_tame_items json.no_items h = refl
  of_tame_items (json.item j js) h =
      let parts = and_parts (is_tame j) _ h in
      ap (option_and_then (λ d. option_map (item d) (of_items js))) (of_tame j parts.0) ∙ ap (option_map (item (data_of j))) (of_tame_items js parts.1)

  of_tame_members : (ms : json.Members) (found : Members) → members_are_tame ms ≡ true → of_members ms found ≡ Some (members_onto ms found)
  of_tame_members json.no_members found h = refl
  of_tame_members (json.member k j ms) found h =
      let parts = and_parts (is_tame j) _ h in
      ap (option_and_then (λ d. of_members ms (put k d found))) (of_tame j parts.0) ∙ of_tame_members ms (put k (data_of j) found) parts.1

-- ---- their numbers are whole

whole_num : (o : Option Num) → has_float (number (unwrap_or (unless_float o) (unsigned 0))) ≡ false
whole_num None = refl
whole_num (Some (unsigned n)) = refl
whole_num (Some (negative z)) = refl
whole_num (Some (float x)) = refl

mutual
  pub whole_data : (j : Json) → has_float (data_of j) ≡ false
  whole_data json.null = refl
  whole_data (json.boolean b) = refl
  whole_data (json.number text) = whole_num (number_of text)
  whole_data (json.string text) = refl
  whole_data (json.array js) = whole_items js
  whole_data (json.object ms) = whole_members ms no_members refl

  whole_items : (js : json.Items) → items_have_float (tree.items_of js) ≡ false
  whole_items json.no_items = refl
  whole_items (json.item j js) = none_of (has_float (data_of j)) _ (whole_data j) (whole_items js)

  whole_members : (ms : json.Members) (found : Members) → members_have_float found ≡ false → members_have_float (members_onto ms found) ≡ false
  whole_members json.no_members found h = h
  whole_members (json.member k j ms) found h = whole_members ms (put k (data_of j) found) (no_float_put k (data_of j) found (whole_data j) h)

-- ---- look-ups

or_earlier : Option Data → Option Data → Option Data
or_earlier None earlier = earlier
or_earlier (Some d) earlier = Some d

get_put : (name k : List ℕ) (d : Data) (found : Members) (b : Bool) → bytes_eq k name ≡ b → get_member name (put k d found) ≡ cond b (Some d) (get_member name found)
get_put name k d found true e = let same : k ≡ name = (bytes_eq-Decides k name).0 e in subst (λ n. get_member n (put k d found) ≡ Some d) same (get_member-put k d found)
get_put name k d found false e = get_member-put_other name k d found (λ same. true≢false (sym ((bytes_eq-Decides k name).1 (sym same)) ∙ e))

found_later : (o : Option Json) (j : Json) (b : Bool) (before : Option Data)
    → or_earlier (option_map data_of o) (cond b (Some (data_of j)) before) ≡ or_earlier (option_map data_of (find.later_or o (cond b (Some j) None))) before
unfolding or_earlier
found_later None j true before = refl
found_later None j false before = refl
found_later (Some i) j b before = refl

get_onto : (name : List ℕ) (ms : json.Members) (found : Members) → get_member name (members_onto ms found) ≡ or_earlier (option_map data_of (find.get_member name ms)) (get_member name found)
unfolding or_earlier
get_onto name json.no_members found = refl
get_onto name (json.member k j ms) found =
    get_onto name ms (put k (data_of j) found)
    ∙ ap (or_earlier (option_map data_of (find.get_member name ms))) (get_put name k (data_of j) found (bytes_eq k name) refl)
    ∙ found_later (find.get_member name ms) j (bytes_eq k name) (get_member name found)

or_none : (o : Option Data) → or_earlier o None ≡ o
unfolding or_earlier
or_none None = refl
or_none (Some d) = refl

-- a look-up finds the value of what the tree has
pub get_of : (name : List ℕ) (j : Json) → get name (data_of j) ≡ option_map data_of (find.get name j)
get_of name json.null = refl
get_of name (json.boolean b) = refl
get_of name (json.number text) = refl
get_of name (json.string text) = refl
get_of name (json.array js) = refl
get_of name (json.object ms) = get_onto name ms no_members ∙ or_none _

-- ---- what a text reads as

pub read_tame : (text : List ℕ) (j : Json) → tree_of text ≡ Some j → is_tame j ≡ true → read text ≡ Some (data_of j)
read_tame text j is h = ap (option_and_then of_json) is ∙ of_tame j h
