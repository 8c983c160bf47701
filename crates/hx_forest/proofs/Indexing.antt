-- Lists of children by the names of their parents.
--     list_put, fits_put                the list at an index is another one
--     still_full, full_joined           where there are names, and where one has joined
--     no_list                           a name without a list has none of a child taken away
--     tied_other, tied_names            the lists are tied to the nodes, once that of a name without a namespace is another one, and once only room has changed
--     lists_named, tied_named, index_named     where the names of the nodes stay
--     held_names, held_tied             and the lists
--     within_lists                      where a name lies, lies a list
use Rattle.std.proofs.Common.{◌≡◌, ℕ, Bool, true, false, cond, not, ◌&&◌, ◌||◌, List, [], ◌∷◌, length, Option, Some, None, option_map, refl, sym, ap, subst, ◌∙◌, arith, true≢false}
use Rattle.std.specs.Prelude.{◌<◌, ◌≤◌, ◌==◌, IfSome, slice_get, slice_set, slice_index_or}
use Rattle.std.specs.Map.{keys_of, lookup}
use Rattle.std.specs.Str.{bytes_eq}
use Rattle.std.proofs.Math.Dec.{eqb-suc-zero}
use Rattle.std.proofs.lemmas.Bool.{or_left}
use Rattle.std.proofs.lemmas.Map.Entries.{length-keys_of}
use Rattle.std.proofs.lemmas.Option.{none-some, same_Some, slice_get-get_or}
use Rattle.hx_model.specs.Forest.{Forest, is_in}
use Rattle.hx_model.proofs.Climbing.{is_same, same_itself}
use Rattle.hx_forest.specs.declared.children.Children.{Children}
use Rattle.hx_forest.specs.declared.nodes.Nodes.{Nodes}
use Rattle.hx_forest.specs.Names.{IsAscending, NamesView}
use Rattle.hx_forest.specs.ParentRefs.{index_at}
use Rattle.hx_forest.specs.Children.{Lists, list_at, others_of, lists_of, names_in, IsTied, IsIndex, HasList, Fits}
use Rattle.hx_forest.proofs.Ascending.{none_ascends}
use Rattle.hx_forest.proofs.Listing.{has_first}
use Rattle.hx_forest.proofs.Slots.{set_here, set_other, own_slot, index_within, index_keys}

-- ---- the list at an index is another one

module _ (nodes : Nodes) (old new : Children) (p : List ℕ) (o : Option ℕ) (i : ℕ) (was is : NamesView) (lists : new.lists.items ≡ slice_set old.lists.items i is) (others : new.others.entries ≡ old.others.entries)
    (there : IfSome o (λ k. k < length old.lists.items)) (lies : was ≡ slice_index_or old.lists.items i was) (some : o ≡ Some i) (at : index_at nodes (Some p) ≡ o) where
  within : i < length old.lists.items
  within = subst (λ (x : Option ℕ). IfSome x (λ k. k < length old.lists.items)) some there

  found : lists_of nodes old p ≡ Some was
  found = ap (λ x. list_at old x p) (at ∙ some) ∙ slice_get-get_or old.lists.items i was within ∙ ap Some (sym lies)

  lists_put : (q : List ℕ) → lists_of nodes new q ≡ cond (bytes_eq p q) (Some is) (lists_of nodes old q)
  lists_put q = by (bytes_eq p q) refl
    where
      apart : bytes_eq p q ≡ false → (x : Option ℕ) → index_at nodes (Some q) ≡ x → list_at new x q ≡ list_at old x q
      apart out None none = ap (λ es. lookup (bytes_eq q) es) others
      apart out (Some j) here = ap (λ xs. slice_get xs j) lists ∙ set_other old.lists.items i j is (own_slot nodes.places.entries p q i j (at ∙ some) here out)

      by : (b : Bool) → bytes_eq p q ≡ b → lists_of nodes new q ≡ cond b (Some is) (lists_of nodes old q)
      by true same = subst (λ (x : List ℕ). lists_of nodes new x ≡ Some is) (is_same p q same)
          (ap (λ x. list_at new x p) (at ∙ some) ∙ ap (λ xs. slice_get xs i) lists ∙ set_here old.lists.items i is within)
      by false out = apart out (index_at nodes (Some q)) refl

  put_here : lists_of nodes new p ≡ Some is
  put_here = lists_put p ∙ ap (λ b. cond b (Some is) (lists_of nodes old p)) (same_itself p)

  pub list_put : (test : List (List ℕ) → List ℕ → Bool) → IsAscending is.names → ((q : List ℕ) → is_in q is.names ≡ test was.names q) → HasList (lists_of nodes old) (lists_of nodes new) p (λ q. test (names_in (lists_of nodes old p)) q)
  list_put test up has = record {
    others = λ q out. lists_put q ∙ ap (λ b. cond b (Some is) (lists_of nodes old q)) out;
    order = subst (λ (x : Option NamesView). IsAscending (names_in x)) (sym put_here) up;
    members = λ q. ap (λ x. is_in q (names_in x)) put_here ∙ has q ∙ ap (λ x. test (names_in x) q) (sym found);
  }

  pub fits_put : (j k : ℕ) → k ≤ j → (Fits j (Some was) → Fits k (Some is)) → (q : List ℕ) → Fits j (lists_of nodes old q) → Fits k (lists_of nodes new q)
  fits_put j k less onward q fits = by (bytes_eq p q) refl
    where
      fewer : (x : Option NamesView) → Fits j x → Fits k x
      fewer None h = tt
      fewer (Some n) h = λ full. let few = h full in omega (arith, few, less)

      by : (b : Bool) → bytes_eq p q ≡ b → Fits k (lists_of nodes new q)
      by true same = subst (λ (x : List ℕ). Fits k (lists_of nodes new x)) (is_same p q same)
          (subst (Fits k) (sym put_here) (onward (subst (Fits j) found (subst (λ (x : List ℕ). Fits j (lists_of nodes old x)) (sym (is_same p q same)) fits))))
      by false out = subst (Fits k) (sym (lists_put q ∙ ap (λ b. cond b (Some is) (lists_of nodes old q)) out)) (fewer (lists_of nodes old q) fits)

-- ---- where there are names

no_more : (b : Bool) → (b && false) ≡ false
no_more true = refl
no_more false = refl

-- where there are names once one is taken away, there were some
pub still_full : (old new : List (List ℕ)) (c : List ℕ) → ((q : List ℕ) → is_in q new ≡ (not (bytes_eq q c) && is_in q old)) → (length new == 0) ≡ false → (length old == 0) ≡ false
still_full old [] c has full = absurd (true≢false full)
still_full [] (x ∷ xs) c has full = absurd (true≢false (sym (has_first x xs) ∙ has x ∙ no_more (not (bytes_eq x c))))
still_full (y ∷ ys) (x ∷ xs) c has full = eqb-suc-zero (length ys)

-- where one has joined, there are some
pub full_joined : (o : Option NamesView) (c : List ℕ) (test : List ℕ → Bool) → ((q : List ℕ) → is_in q (names_in o) ≡ (bytes_eq q c || test q)) → IfSome o (λ l. (length l.names == 0) ≡ false)
full_joined None c test has = tt
full_joined (Some l) c test has = by l.names (has c ∙ or_left (bytes_eq c c) (test c) (same_itself c))
  where
    by : (names : List (List ℕ)) → is_in c names ≡ true → (length names == 0) ≡ false
    by [] h = absurd (true≢false (sym h))
    by (x ∷ xs) h = eqb-suc-zero (length xs)

-- a name without a list has none of a child taken away
pub no_list : (old new : Lists) (p c : List ℕ) → ((q : List ℕ) → new q ≡ old q) → old p ≡ None → HasList old new p (λ q. not (bytes_eq q c) && is_in q (names_in (old p)))
no_list old new p c same none = record {
  others = λ q out. same q;
  order = subst (λ (o : Option NamesView). IsAscending (names_in o)) (sym (same p ∙ none)) none_ascends;
  members = λ q. ap (λ (o : Option NamesView). is_in q (names_in o)) (same p ∙ none) ∙ sym (ap (λ (o : Option NamesView). not (bytes_eq q c) && is_in q (names_in o)) none ∙ no_more (not (bytes_eq q c)));
}

-- ---- tied to the nodes

-- the list of a name without a namespace is another one
pub tied_other : (nodes : Nodes) (old new : Children) (p : List ℕ) → new.lists ≡ old.lists → ((q : List ℕ) → bytes_eq p q ≡ false → others_of new q ≡ others_of old q) → IfSome (others_of new p) (λ l. (length l.names == 0) ≡ false)
    → index_at nodes (Some p) ≡ None → IsTied nodes old → IsTied nodes new
tied_other nodes old new p same others full none tied = record {
  as_many = ap (λ v. length v.items) same ∙ tied.as_many;
  apart = λ q l is. by q l is (bytes_eq p q) refl;
}
  where
    by : (q : List ℕ) (l : NamesView) → others_of new q ≡ Some l → (b : Bool) → bytes_eq p q ≡ b → (index_at nodes (Some q) ≡ None) × ((length l.names == 0) ≡ false)
    by q l is true here =
        let one = is_same p q here in
        (subst (λ (x : List ℕ). index_at nodes (Some x) ≡ None) one none, subst (λ (o : Option NamesView). IfSome o (λ l. (length l.names == 0) ≡ false)) (ap (others_of new) one ∙ is) full)
    by q l is false out = tied.apart q l (sym (others q out) ∙ is)

-- only room has changed
pub tied_names : (nodes : Nodes) (old new : Children) → length new.lists.items ≡ length old.lists.items
    → ((q : List ℕ) → option_map (λ n. n.names) (others_of new q) ≡ option_map (λ n. n.names) (others_of old q)) → IsTied nodes old → IsTied nodes new
tied_names nodes old new same names tied = record {
  as_many = same ∙ tied.as_many;
  apart = λ q l is. by q l (others_of old q) refl (ap (option_map (λ (n : NamesView). n.names)) (sym is) ∙ names q);
}
  where
    by : (q : List ℕ) (l : NamesView) (o : Option NamesView) → others_of old q ≡ o → Some (l.names) ≡ option_map (λ n. n.names) o → (index_at nodes (Some q) ≡ None) × ((length l.names == 0) ≡ false)
    by q l None _ h = absurd (none-some l.names (sym h))
    by q l (Some m) was h =
        let apart = tied.apart q m was in
        (apart.0, ap (λ names. length names == 0) (same_Some l.names m.names h) ∙ apart.1)

-- ---- where the names of the nodes stay

pub lists_named : (before after : Nodes) (c : Children) → keys_of after.places.entries ≡ keys_of before.places.entries → (q : List ℕ) → lists_of after c q ≡ lists_of before c q
lists_named before after c names q = ap (λ o. list_at c o q) (index_keys before.places.entries after.places.entries q names)

pub tied_named : (before after : Nodes) (c : Children) → keys_of after.places.entries ≡ keys_of before.places.entries → IsTied before c → IsTied after c
tied_named before after c names tied = record {
  as_many = tied.as_many ∙ sym (sym (length-keys_of after.places.entries) ∙ ap (λ (ks : List (List ℕ)). length ks) names ∙ length-keys_of before.places.entries);
  apart = λ q l is. let apart = tied.apart q l is in (index_keys before.places.entries after.places.entries q names ∙ apart.0, apart.1);
}

pub index_named : (before after : Nodes) (c : Children) (f : Forest) → keys_of after.places.entries ≡ keys_of before.places.entries → IsIndex before c f → IsIndex after c f
index_named before after c f names index = record {
  tied = tied_named before after c names index.tied;
  each = λ q. ap names_in (lists_named before after c names q) ∙ index.each q;
}

-- and the lists
module _ (before after : Nodes) (old new : Children) (names : keys_of after.places.entries ≡ keys_of before.places.entries) (lists : new.lists.items ≡ old.lists.items) (others : new.others.entries ≡ old.others.entries) where
  pub held_names : (q : List ℕ) → option_map (λ n. n.names) (lists_of after new q) ≡ option_map (λ n. n.names) (lists_of before old q)
  held_names q = ap (option_map (λ (n : NamesView). n.names)) (by (index_at after (Some q)) ∙ lists_named before after old names q)
    where
      by : (o : Option ℕ) → list_at new o q ≡ list_at old o q
      by None = ap (λ es. lookup (bytes_eq q) es) others
      by (Some i) = ap (λ xs. slice_get xs i) lists

  pub held_tied : IsTied before old → IsTied after new
  held_tied tied = tied_names after old new (ap (λ (xs : List NamesView). length xs) lists) (λ q. ap (λ es. option_map (λ (n : NamesView). n.names) (lookup (bytes_eq q) es)) others) (tied_named before after old names tied)

-- where a name lies, lies a list
pub within_lists : (nodes : Nodes) (c : Children) (name : Option (List ℕ)) (at : Option ℕ) → IsTied nodes c → at ≡ index_at nodes name → IfSome at (λ i. i < length c.lists.items)
within_lists nodes c name at tied is = subst (λ (o : Option ℕ). IfSome o (λ i. i < length c.lists.items)) (sym is) (by name)
  where
    inner : (n : List ℕ) (o : Option ℕ) → index_at nodes (Some n) ≡ o → IfSome o (λ i. i < length c.lists.items)
    inner n None _ = tt
    inner n (Some i) here = let less = index_within nodes.places.entries n i here in omega (arith, less, tied.as_many)

    by : (x : Option (List ℕ)) → IfSome (index_at nodes x) (λ i. i < length c.lists.items)
    by None = tt
    by (Some n) = inner n (index_at nodes (Some n)) refl
