-- Values under names after a change, and in order of values in any order.
--     name_total, same_name-cmp      the order of names is total, and tells the same apart as their test
--     is_below_all n vs, ascends vs  a name is less than all;  the names are in ascending order
--     none_below                     a name that is less than all isn't found
--     lookup-with_value, lookup-without_value, lookup-with_changed      what is found after a change
--     ascends-with_value, ascends-without_value, ascends-with_changed   the order stays
--     same_values                    values in order that answer alike are the same
--     lookup-values, ascends-values  of values in any order
--     values-put, values-cut, values-changed      the values in order after a change of those in any order
--     none_among, length-values      as many values as there are in any order
use Rattle.std.proofs.Common.{◌≡◌, ℕ, ◌+◌, Bool, true, false, cond, not, ◌&&◌, T, Option, Some, None, List, [], ◌∷◌, length, Ordering, Less, Equal, Greater, is_eq, is_lt, is_some, refl, sym, ap, ◌∙◌, arith, true≢false}
use Rattle.std.specs.Bool.{passes}
use Rattle.std.specs.Cmp.{IsTotalOrder}
use Rattle.std.specs.Cmp.Lexicographic.{texts_ties}
use Rattle.std.specs.Option.{option_map}
use Rattle.std.specs.List.{AllByRecursion, IsDistinct}
use Rattle.std.specs.Map.{keys_of, lookup}
use Rattle.std.specs.Str.{bytes_eq}
use Rattle.std.specs.FinMap.Entries.{find, below_all, is_sorted, find-put, is_sorted-put, is_sorted-where_key, length-put, same_entries}
use Rattle.std.proofs.lemmas.Bool.{and_parts}
use Rattle.std.proofs.lemmas.Cmp.{nat_list_cmp_total, nat_list_eq_equiv}
use Rattle.std.proofs.lemmas.Map.Entries.{lookup-filter-keys}
use Rattle.std.proofs.lemmas.Map.Keys.{IsDistinct-head, IsDistinct-tail}
use Rattle.std.proofs.lemmas.Map.Lookups.{exact_bytes}
use Rattle.hx_object.specs.Texts.{bytes_cmp}
use Rattle.hx_model.proofs.Climbing.{is_same}
use Rattle.hx_forest.specs.Named.{Named, with_value, without_value, with_changed, values_from}

-- ---- the order of names

pub name_total : IsTotalOrder bytes_cmp
name_total = nat_list_cmp_total

-- the test and the order tell the same names apart
pub same_name-cmp : (a b : List ℕ) → bytes_eq a b ≡ is_eq (bytes_cmp a b)
same_name-cmp a b = texts_ties a b

flip_test : (a b : List ℕ) → bytes_eq a b ≡ bytes_eq b a
flip_test a b = nat_list_eq_equiv.symm a b

pub less : (o : Ordering) → is_lt o ≡ true → o ≡ Less
less Less e = refl
less Equal e = absurd (true≢false (sym e))
less Greater e = absurd (true≢false (sym e))

holds : (b : Bool) → T b → b ≡ true
holds true h = refl
holds false h = absurd h

module _ {V : Type 0} where
  -- a name is less than all
  abbrev pub is_below_all : List ℕ → Named V → Bool
  is_below_all n vs = below_all bytes_cmp n vs

  abbrev pub ascends : Named V → Bool
  ascends vs = is_sorted bytes_cmp vs

  -- a name that is less than all isn't found
  pub none_below : (n : List ℕ) (vs : Named V) → is_below_all n vs ≡ true → lookup (bytes_eq n) vs ≡ None
  none_below n [] h = refl
  none_below n (y ∷ vs) h =
      let parts = and_parts (is_lt (bytes_cmp n y.0)) (is_below_all n vs) h in
      ap (λ b. cond b (Some y.1) (lookup (bytes_eq n) vs)) (same_name-cmp n y.0 ∙ ap is_eq (less (bytes_cmp n y.0) parts.0)) ∙ none_below n vs parts.1

  -- ---- what is found

  -- by the order is found what is by the test
  found : (q : List ℕ) (vs : Named V) → find bytes_cmp q vs ≡ lookup (bytes_eq q) vs
  found q [] = refl
  found q (e ∷ vs) = λ i. cond (sym (same_name-cmp q e.0) i) (Some e.1) (found q vs i)

  pub lookup-with_value : (n : List ℕ) (v : V) (vs : Named V) (q : List ℕ) → lookup (bytes_eq q) (with_value n v vs) ≡ cond (bytes_eq q n) (Some v) (lookup (bytes_eq q) vs)
  lookup-with_value n v vs q = sym (found q (with_value n v vs)) ∙ find-put bytes_cmp name_total q n v vs ∙ (λ i. cond (sym (same_name-cmp q n) i) (Some v) (found q vs i))

  pub lookup-without_value : (n : List ℕ) (vs : Named V) (q : List ℕ) → lookup (bytes_eq q) (without_value n vs) ≡ cond (bytes_eq q n) None (lookup (bytes_eq q) vs)
  lookup-without_value n vs q =
      lookup-filter-keys (bytes_eq q) (λ k. not (bytes_eq n k)) (not (bytes_eq q n)) (λ k same. ap (λ (m : List ℕ). not (bytes_eq n m)) (sym (is_same q k same)) ∙ ap not (flip_test n q)) vs ∙ turned (bytes_eq q n)
    where
      turned : (b : Bool) → cond (not b) (lookup (bytes_eq q) vs) None ≡ cond b None (lookup (bytes_eq q) vs)
      turned true = refl
      turned false = refl

  pub lookup-with_changed : (n : List ℕ) (change : V → V) (vs : Named V) (q : List ℕ) → lookup (bytes_eq q) (with_changed n change vs) ≡ cond (bytes_eq n q) (option_map change (lookup (bytes_eq q) vs)) (lookup (bytes_eq q) vs)
  lookup-with_changed n change [] q = none (bytes_eq n q)
    where
      none : (b : Bool) → ◌≡◌ {A = Option V} None (cond b None None)
      none true = refl
      none false = refl
  lookup-with_changed n change (e ∷ vs) q =
      elim (bytes_eq q e.0) as (λ b. bytes_eq q e.0 ≡ b → cond b (Some (cond (bytes_eq n e.0) (change e.1) e.1)) (lookup (bytes_eq q) (with_changed n change vs)) ≡ cond (bytes_eq n q) (option_map change (cond b (Some e.1) (lookup (bytes_eq q) vs))) (cond b (Some e.1) (lookup (bytes_eq q) vs))) [
        | true ↦ λ is. ap (λ (k : List ℕ). Some (cond (bytes_eq n k) (change e.1) e.1)) (sym (is_same q e.0 is)) ∙ here (bytes_eq n q)
        | false ↦ λ out. lookup-with_changed n change vs q
      ] refl
    where
      here : (b : Bool) → Some (cond b (change e.1) e.1) ≡ cond b (option_map change (Some e.1)) (Some e.1)
      here true = refl
      here false = refl

  -- ---- the order stays

  pub ascends-with_value : (n : List ℕ) (v : V) (vs : Named V) → ascends vs ≡ true → ascends (with_value n v vs) ≡ true
  ascends-with_value n v vs h = holds _ (is_sorted-put bytes_cmp name_total n v vs (passes _ h))

  pub ascends-without_value : (n : List ℕ) (vs : Named V) → ascends vs ≡ true → ascends (without_value n vs) ≡ true
  ascends-without_value n vs h = holds _ (is_sorted-where_key bytes_cmp (λ k. not (bytes_eq n k)) vs (passes _ h))

  below_with_changed : (a n : List ℕ) (change : V → V) (vs : Named V) → is_below_all a (with_changed n change vs) ≡ is_below_all a vs
  below_with_changed a n change [] = refl
  below_with_changed a n change (y ∷ vs) = ap (λ b. is_lt (bytes_cmp a y.0) && b) (below_with_changed a n change vs)

  pub ascends-with_changed : (n : List ℕ) (change : V → V) (vs : Named V) → ascends (with_changed n change vs) ≡ ascends vs
  ascends-with_changed n change [] = refl
  ascends-with_changed n change (y ∷ vs) = λ i. below_with_changed y.0 n change vs i && ascends-with_changed n change vs i

  -- values in order that answer alike are the same
  pub same_values : (vs ws : Named V) → ascends vs ≡ true → ascends ws ≡ true → ((q : List ℕ) → lookup (bytes_eq q) vs ≡ lookup (bytes_eq q) ws) → vs ≡ ws
  same_values vs ws hv hw alike = same_entries bytes_cmp name_total exact_bytes vs ws (passes _ hv) (passes _ hw) (λ q. found q vs ∙ alike q ∙ sym (found q ws))

  -- ---- values in any order

  pub lookup-values : (es : List (List ℕ × V)) (q : List ℕ) → lookup (bytes_eq q) (values_from es) ≡ lookup (bytes_eq q) es
  lookup-values [] q = refl
  lookup-values (e ∷ es) q = lookup-with_value e.0 e.1 (values_from es) q ∙ ap (cond (bytes_eq q e.0) (Some e.1)) (lookup-values es q)

  pub ascends-values : (es : List (List ℕ × V)) → ascends (values_from es) ≡ true
  ascends-values [] = refl
  ascends-values (e ∷ es) = ascends-with_value e.0 e.1 (values_from es) (ascends-values es)

  -- after a value is kept, where each look-up says so
  pub values-put : (new old : List (List ℕ × V)) (n : List ℕ) (v : V) → ((q : List ℕ) → lookup (bytes_eq q) new ≡ cond (bytes_eq n q) (Some v) (lookup (bytes_eq q) old)) → values_from new ≡ with_value n v (values_from old)
  values-put new old n v is =
      same_values (values_from new) (with_value n v (values_from old)) (ascends-values new) (ascends-with_value n v (values_from old) (ascends-values old)) (λ q.
      lookup-values new q ∙ is q
      ∙ (λ i. cond {A = Option V} (flip_test n q i) (Some v) (sym (lookup-values old q) i))
      ∙ sym (lookup-with_value n v (values_from old) q))

  -- after one is dropped
  pub values-cut : (new old : List (List ℕ × V)) (n : List ℕ) → ((q : List ℕ) → lookup (bytes_eq q) new ≡ cond (bytes_eq n q) None (lookup (bytes_eq q) old)) → values_from new ≡ without_value n (values_from old)
  values-cut new old n is =
      same_values (values_from new) (without_value n (values_from old)) (ascends-values new) (ascends-without_value n (values_from old) (ascends-values old)) (λ q.
      lookup-values new q ∙ is q
      ∙ (λ i. cond {A = Option V} (flip_test n q i) None (sym (lookup-values old q) i))
      ∙ sym (lookup-without_value n (values_from old) q))

  -- and after one is changed
  pub values-changed : (new old : List (List ℕ × V)) (n : List ℕ) (change : V → V) (v : V) → lookup (bytes_eq n) old ≡ Some v
      → ((q : List ℕ) → lookup (bytes_eq q) new ≡ cond (bytes_eq n q) (Some (change v)) (lookup (bytes_eq q) old)) → values_from new ≡ with_changed n change (values_from old)
  values-changed new old n change v there is =
      same_values (values_from new) (with_changed n change (values_from old)) (ascends-values new) (ascends-with_changed n change (values_from old) ∙ ascends-values old) (λ q.
      lookup-values new q ∙ is q
      ∙ at q (bytes_eq n q) refl
      ∙ ap (λ (o : Option V). cond (bytes_eq n q) (option_map change o) o) (sym (lookup-values old q))
      ∙ sym (lookup-with_changed n change (values_from old) q))
    where
      at : (q : List ℕ) (b : Bool) → bytes_eq n q ≡ b → cond b (Some (change v)) (lookup (bytes_eq q) old) ≡ cond b (option_map change (lookup (bytes_eq q) old)) (lookup (bytes_eq q) old)
      at q true same = sym (ap (option_map change) (ap (λ (m : List ℕ). lookup (bytes_eq m) old) (sym (is_same n q same)) ∙ there))
      at q false out = refl

  -- ---- as many values as there are in any order

  pub none_among : (n : List ℕ) (es : List (List ℕ × V)) → AllByRecursion (λ y. bytes_eq n y ≡ false) (keys_of es) → lookup (bytes_eq n) es ≡ None
  none_among n [] apart = refl
  none_among n (e ∷ es) apart = ap (λ b. cond b (Some e.1) (lookup (bytes_eq n) es)) apart.0 ∙ none_among n es apart.1

  pub length-values : (es : List (List ℕ × V)) → IsDistinct bytes_eq (keys_of es) → length (values_from es) ≡ length es
  length-values [] distinct = refl
  length-values (e ∷ es) distinct =
      let vs = values_from es in
      let none = found e.0 vs ∙ lookup-values es e.0 ∙ none_among e.0 es (IsDistinct-head bytes_eq e.0 (keys_of es) distinct) in
      let more : length (with_value e.0 e.1 vs) ≡ length vs + 1 = length-put bytes_cmp name_total e.0 e.1 vs (passes _ (ascends-values es)) ∙ ap (λ (o : Option V). cond (is_some o) (length vs) (length vs + 1)) none in
      let rest = length-values es (IsDistinct-tail bytes_eq e.0 (keys_of es) distinct) in
      omega (arith, more, rest)
