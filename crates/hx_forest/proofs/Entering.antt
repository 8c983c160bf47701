-- Lists of children, once a namespace has come or gone.
--     Carries                       a list has the names of another one, and where that has room it has as much
--     carries_in, tied_entered      once a namespace has come at the end
--     carries_out, tied_left        once one is gone, and the last one has filled the gap
use Rattle.std.specs.Prelude.{◌<◌, ◌==◌, slice_get}
use Rattle.std.proofs.Common.{◌≡◌, ℕ, Bool, true, false, cond, not, ◌&&◌, List, [], ◌∷◌, ◌++◌, length, Option, Some, None, option_map, refl, sym, ap, subst, ◌∙◌, arith, true≢false, length-append}
use Rattle.std.specs.Map.{keys_of}
use Rattle.std.specs.Str.{bytes_eq}
use Rattle.std.proofs.Math.Dec.{eqb-suc-zero}
use Rattle.std.proofs.lemmas.Map.Entries.{length-keys_of}
use Rattle.std.proofs.lemmas.Option.{none-some, same_Some}
use Rattle.hx_model.proofs.Climbing.{is_same, same_itself}
use Rattle.hx_forest.specs.declared.children.Children.{Children}
use Rattle.hx_forest.specs.declared.nodes.Nodes.{Nodes}
use Rattle.hx_forest.specs.Names.{NamesView}
use Rattle.hx_forest.specs.NodeTable.{moved, IsCut}
use Rattle.hx_forest.specs.ParentRefs.{index_at}
use Rattle.hx_forest.specs.Children.{list_at, others_of, lists_of, names_in, IsTied, IsTaken, HasEntered, HasLeft, Fits}
use Rattle.hx_forest.proofs.Slots.{push_here, push_before, length_moved, moved_slot, index_push, index_within, own_slot}

-- a list has the names of another one, and as much room where there are names
pub record Carries (was is : Option NamesView) : Type 0 where
  pub names : names_in is ≡ names_in was
  pub fits : (k : ℕ) → Fits k was → Fits k is

same_list : (was is : Option NamesView) → is ≡ was → Carries was is
same_list was is same = record { names = ap names_in same; fits = λ k fits. subst (Fits k) (sym same) fits }

-- ---- a namespace has come

module _ (before after : Nodes) (old new : Children) (name : List ℕ) (names : keys_of after.places.entries ≡ keys_of before.places.entries ++ name ∷ []) (absent : index_at before (Some name) ≡ None) (tied : IsTied before old) (entered : HasEntered old new name) where
  at_after : (q : List ℕ) → index_at after (Some q) ≡ cond (bytes_eq name q) (Some (length before.places.entries)) (index_at before (Some q))
  at_after q = index_push before.places.entries after.places.entries name q names absent

  at_other : (q : List ℕ) → bytes_eq name q ≡ false → index_at after (Some q) ≡ index_at before (Some q)
  at_other q out = at_after q ∙ ap (λ b. cond b (Some (length before.places.entries)) (index_at before (Some q))) out

  pub carries_in : (q : List ℕ) → Carries (lists_of before old q) (lists_of after new q)
  carries_in q = by (bytes_eq name q) refl
    where
      here : lists_of after new name ≡ Some entered.list
      here = ap (λ o. list_at new o name) (at_after name ∙ ap (λ b. cond b (Some (length before.places.entries)) (index_at before (Some name))) (same_itself name) ∙ ap Some (sym tied.as_many))
          ∙ ap (λ xs. slice_get xs (length old.lists.items)) entered.lists ∙ push_here old.lists.items entered.list

      taken : (o : Option NamesView) → IsTaken o entered.list → Carries o (Some entered.list)
      taken None none = record { names = none; fits = λ k _ full. absurd (true≢false (sym (ap (λ (xs : List (List ℕ)). length xs == 0) none) ∙ full)) }
      taken (Some n) same = same_list (Some n) (Some entered.list) (ap Some same)

      other : bytes_eq name q ≡ false → (o : Option ℕ) → index_at before (Some q) ≡ o → list_at new o q ≡ list_at old o q
      other out None _ = entered.others q ∙ ap (λ b. cond b None (others_of old q)) out
      other out (Some j) at = ap (λ xs. slice_get xs j) entered.lists ∙ push_before old.lists.items entered.list j (let within = index_within before.places.entries q j at in omega (arith, within, tied.as_many))

      by : (b : Bool) → bytes_eq name q ≡ b → Carries (lists_of before old q) (lists_of after new q)
      by true same = subst (λ (x : List ℕ). Carries (lists_of before old x) (lists_of after new x)) (is_same name q same)
          (subst (λ (x : Option NamesView). Carries x (lists_of after new name)) (sym (ap (λ o. list_at old o name) absent)) (subst (Carries (others_of old name)) (sym here) (taken (others_of old name) entered.is)))
      by false out = same_list (lists_of before old q) (lists_of after new q) (ap (λ o. list_at new o q) (at_other q out) ∙ other out (index_at before (Some q)) refl)

  pub tied_entered : IsTied after new
  tied_entered = record {
    as_many = as_many;
    apart = λ q l is. by q l (bytes_eq name q) refl (sym (entered.others q) ∙ is);
  }
    where
      as_many : length new.lists.items ≡ length after.places.entries
      as_many =
          let longer = ap (λ (xs : List NamesView). length xs) entered.lists in
          let lists = length-append old.lists.items (entered.list ∷ []) in
          let more = ap (λ (ks : List (List ℕ)). length ks) names in
          let keys = length-append (keys_of before.places.entries) (name ∷ []) in
          let was = length-keys_of before.places.entries in
          let is = length-keys_of after.places.entries in
          omega (arith, longer, lists, more, keys, was, is, tied.as_many)

      by : (q : List ℕ) (l : NamesView) (b : Bool) → bytes_eq name q ≡ b → cond b None (others_of old q) ≡ Some l → (index_at after (Some q) ≡ None) × ((length l.names == 0) ≡ false)
      by q l true _ is = absurd (none-some l is)
      by q l false out is = let apart = tied.apart q l is in (at_other q out ∙ apart.0, apart.1)

-- ---- one is gone

module _ (before after : Nodes) (old new : Children) (name : List ℕ) (at : ℕ) (cut : IsCut before.places.entries after.places.entries name at) (here : index_at before (Some name) ≡ Some at) (tied : IsTied before old) (left : HasLeft old new at name) where
  out_name : index_at after (Some name) ≡ None
  out_name = cut.places name ∙ ap (λ b. cond b None (option_map (moved at (length after.places.entries)) (index_at before (Some name)))) (same_itself name)

  at_others : (q : List ℕ) → bytes_eq name q ≡ false → index_at after (Some q) ≡ option_map (moved at (length after.places.entries)) (index_at before (Some q))
  at_others q out = cut.places q ∙ ap (λ b. cond b None (option_map (moved at (length after.places.entries)) (index_at before (Some q)))) out

  -- no list beside the nodes is that of the name
  none_beside : (l : NamesView) → others_of old name ≡ Some l → ⊥
  none_beside l is = none-some at (sym (tied.apart name l is).0 ∙ here)

  others_name : others_of new name ≡ cond (not (length left.list.names == 0) && true) (Some left.list) (others_of old name)
  others_name = left.others name ∙ ap (λ b. cond (not (length left.list.names == 0) && b) (Some left.list) (others_of old name)) (same_itself name)

  others_out : (q : List ℕ) → bytes_eq name q ≡ false → others_of new q ≡ others_of old q
  others_out q out = left.others q ∙ ap (λ b. cond (not (length left.list.names == 0) && b) (Some left.list) (others_of old q)) out ∙ by (not (length left.list.names == 0))
    where
      by : (b : Bool) → cond (b && false) (Some left.list) (others_of old q) ≡ others_of old q
      by true = refl
      by false = refl

  within : at < length old.lists.items
  within = let less = index_within before.places.entries name at here in omega (arith, less, tied.as_many)

  pub carries_out : (q : List ℕ) → Carries (lists_of before old q) (lists_of after new q)
  carries_out q = by (bytes_eq name q) refl
    where
      empty : (xs : List (List ℕ)) → (length xs == 0) ≡ true → [] ≡ xs
      empty [] _ = refl
      empty (x ∷ xs) none = absurd (true≢false (sym none ∙ eqb-suc-zero (length xs)))

      alone : (o : Option NamesView) → others_of old name ≡ o → (length left.list.names == 0) ≡ true → Carries (Some left.list) o
      alone None _ none = record { names = empty left.list.names none; fits = λ k _. tt }
      alone (Some l) is _ = absurd (none_beside l is)

      goes : (b : Bool) → (length left.list.names == 0) ≡ b → Carries (Some left.list) (cond (not b && true) (Some left.list) (others_of old name))
      goes true none = alone (others_of old name) refl none
      goes false _ = same_list (Some left.list) (Some left.list) refl

      stays : bytes_eq name q ≡ false → (o : Option ℕ) → index_at before (Some q) ≡ o → list_at new (option_map (moved at (length after.places.entries)) o) q ≡ list_at old o q
      stays out None _ = others_out q out
      stays out (Some j) there =
          ap (λ xs. slice_get xs (moved at (length after.places.entries) j)) left.lists
          ∙ moved_slot old.lists.items at (length after.places.entries) j left.list (cut.fewer ∙ sym tied.as_many) within
          (let less = index_within before.places.entries q j there in omega (arith, less, tied.as_many)) (own_slot before.places.entries name q at j here there out)

      by : (b : Bool) → bytes_eq name q ≡ b → Carries (lists_of before old q) (lists_of after new q)
      by true same = subst (λ (x : List ℕ). Carries (lists_of before old x) (lists_of after new x)) (is_same name q same)
          (subst (λ (x : Option NamesView). Carries x (lists_of after new name)) (sym (ap (λ o. list_at old o name) here ∙ left.is))
          (subst (Carries (Some left.list)) (sym (ap (λ o. list_at new o name) out_name ∙ others_name)) (goes (length left.list.names == 0) refl)))
      by false out = same_list (lists_of before old q) (lists_of after new q) (ap (λ o. list_at new o q) (at_others q out) ∙ stays out (index_at before (Some q)) refl)

  pub tied_left : IsTied after new
  tied_left = record {
    as_many = as_many;
    apart = λ q l is. by q l is (bytes_eq name q) refl;
  }
    where
      as_many : length new.lists.items ≡ length after.places.entries
      as_many =
          let shorter = ap (λ (xs : List NamesView). length xs) left.lists in
          let less = length_moved old.lists.items at left.list within in
          omega (arith, shorter, less, cut.fewer, tied.as_many)

      full : (l : NamesView) (b : Bool) → (length left.list.names == 0) ≡ b → cond (not b && true) (Some left.list) (others_of old name) ≡ Some l → (length l.names == 0) ≡ false
      full l true _ is = absurd (none_beside l is)
      full l false some is = ap (λ (n : NamesView). length n.names == 0) (sym (same_Some left.list l is)) ∙ some

      by : (q : List ℕ) (l : NamesView) → others_of new q ≡ Some l → (b : Bool) → bytes_eq name q ≡ b → (index_at after (Some q) ≡ None) × ((length l.names == 0) ≡ false)
      by q l is true same =
          let one = is_same name q same in
          (subst (λ (x : List ℕ). index_at after (Some x) ≡ None) one out_name, full l (length left.list.names == 0) refl (sym others_name ∙ ap (others_of new) one ∙ is))
      by q l is false out =
          let apart = tied.apart q l (sym (others_out q out) ∙ is) in
          (at_others q out ∙ ap (option_map (moved at (length after.places.entries))) apart.0, apart.1)
