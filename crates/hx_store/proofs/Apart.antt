-- The objects of places have identities that differ.
use Rattle.std.proofs.Common.{◌≡◌, ℕ, false, Option, Some, None, List, [], ◌∷◌, ◌++◌, refl, ap, ◌∙◌}
use Rattle.std.specs.Prelude.{option_and_then}
use Rattle.std.specs.Option.{option_or}
use Rattle.std.specs.List.{AllByRecursion, IsDistinct, flat_map}
use Rattle.std.specs.Map.{keys_of, values_of}
use Rattle.std.specs.Str.{bytes_eq}
use Rattle.std.proofs.lemmas.List.Folds.{find-append}
use Rattle.std.proofs.lemmas.Map.Keys.{IsDistinct-head, IsDistinct-tail}
use Rattle.std.proofs.lemmas.Slice.Eq.{bytes_eq-Decides}
use Rattle.hx_object.specs.declared.kind.Kind.{Kind}
use Rattle.hx_object.specs.declared.object.Id.{Id}
use Rattle.hx_object.specs.declared.object.Object.{Object}
use Rattle.hx_model.specs.State.{same_id, object_at}
use Rattle.hx_store.specs.ObjectTable.{entries_of, IsKindTable, AreDistinct, found, place_in, place_of, of_place, objects_in, objects_of}
use Rattle.hx_store.specs.declared.name_map.NameMap.{NameMap}
use Rattle.hx_store.specs.declared.kind_table.KindTable.{KindTable}
use Rattle.hx_store.proofs.Finding.{none_among, each, level, id_of, apart_in, apart_of, own_in}

-- no identity is that of a later object
abbrev pub AreApart : List Object → Type 0
AreApart [] = Unit {0}
AreApart (x ∷ xs) = (object_at xs x.id ≡ None) × AreApart xs

both_apart : (xs ys : List Object) → AreApart xs → AreApart ys → AllByRecursion (λ x. object_at ys x.id ≡ None) xs → AreApart (xs ++ ys)
both_apart [] ys left right across = right
both_apart (x ∷ xs) ys left right across =
    (find-append (λ y. same_id x.id y.id) xs ys ∙ ap (λ o. option_or o (object_at ys x.id)) left.0 ∙ across.0, both_apart xs ys left.1 right across.1)

all_map : {X : Type 0} (P Q : X → Type 0) → ((x : X) → P x → Q x) → (xs : List X) → AllByRecursion P xs → AllByRecursion Q xs
all_map P Q step [] all = tt
all_map P Q step (x ∷ xs) all = (step x all.0, all_map P Q step xs all.1)

all_append : (Q : Object → Type 0) (xs ys : List Object) → AllByRecursion Q xs → AllByRecursion Q ys → AllByRecursion Q (xs ++ ys)
all_append Q [] ys left right = right
all_append Q (x ∷ xs) ys left right = (left.0, all_append Q xs ys left.1 right)

module _ {V : Type 0} (f : V → List Object) where
  all_flat : (Q : Object → Type 0) (es : List (List ℕ × V)) → AllByRecursion (λ e. AllByRecursion Q (f e.1)) es → AllByRecursion Q (flat_map f (values_of es))
  all_flat Q [] all = tt
  all_flat Q (e ∷ es) all = all_append Q (f e.1) (flat_map f (values_of es)) all.0 (all_flat Q es all.1)

  -- where the objects of each entry are apart, and have its key
  pub flat_apart : (key : Id → List ℕ) (es : List (List ℕ × V)) → IsDistinct bytes_eq (keys_of es) → AllByRecursion (λ e. AreApart (f e.1)) es → AllByRecursion (λ e. AllByRecursion (λ x. key x.id ≡ e.0) (f e.1)) es
      → ((q : Id) → AllByRecursion (λ e. bytes_eq (key q) e.0 ≡ false → object_at (f e.1) q ≡ None) es) → AreApart (flat_map f (values_of es))
  flat_apart key [] distinct inner own others = tt
  flat_apart key (e ∷ es) distinct inner own others =
      both_apart (f e.1) (flat_map f (values_of es)) inner.0 (flat_apart key es (IsDistinct-tail bytes_eq e.0 (keys_of es) distinct) inner.1 own.1 (λ q. (others q).1))
      (all_map (λ x. key x.id ≡ e.0) (λ x. object_at (flat_map f (values_of es)) x.id ≡ None) absent (f e.1) own.0)
    where
      absent : (x : Object) → key x.id ≡ e.0 → object_at (flat_map f (values_of es)) x.id ≡ None
      absent x same =
          level f x.id (key x.id) es (IsDistinct-tail bytes_eq e.0 (keys_of es) distinct) (others x.id).1
          ∙ ap (option_and_then (λ v. object_at (f v) x.id)) (none_among e.0 (key x.id) es ((bytes_eq-Decides (key x.id) e.0).1 same) (IsDistinct-head bytes_eq e.0 (keys_of es) distinct))

module _ (kind : Kind) (ns : List ℕ) (name_map : NameMap) (distinct : AreDistinct name_map) (own : (m : List ℕ) (x : Object) → found (place_in name_map m) ≡ Some x → x.id ≡ id_of kind ns m) where
  named : (m : List ℕ) (v : Option Object) → place_in name_map m ≡ Some v → AllByRecursion (λ x. x.id.name ≡ m) (of_place v)
  named m None e = tt
  named m (Some x) e = (ap (λ (i : Id). i.name) (own m x (ap found e)), tt)

  pub lies_in : AllByRecursion (λ x. x.id.ns ≡ ns) (objects_in name_map)
  lies_in = all_flat of_place (λ x. x.id.ns ≡ ns) (entries_of name_map) (each (λ m v. AllByRecursion (λ x. x.id.ns ≡ ns) (of_place v)) (entries_of name_map) distinct lies)
    where
      lies : (m : List ℕ) (v : Option Object) → place_in name_map m ≡ Some v → AllByRecursion (λ x. x.id.ns ≡ ns) (of_place v)
      lies m None e = tt
      lies m (Some x) e = (ap (λ (i : Id). i.ns) (own m x (ap found e)), tt)

  pub name_map_apart : AreApart (objects_in name_map)
  name_map_apart = flat_apart of_place (λ i. i.name) (entries_of name_map) distinct
      (each (λ m v. AreApart (of_place v)) (entries_of name_map) distinct (λ m v e. one v))
      (each (λ m v. AllByRecursion (λ x. x.id.name ≡ m) (of_place v)) (entries_of name_map) distinct named)
      (λ q. each (λ m v. bytes_eq q.name m ≡ false → object_at (of_place v) q ≡ None) (entries_of name_map) distinct (apart_in kind ns name_map distinct own q))
    where
      one : (v : Option Object) → AreApart (of_place v)
      one None = tt
      one (Some x) = (refl, tt)

module _ (kind : Kind) (kind_table : KindTable) (distinct : IsKindTable kind_table) (own : (n m : List ℕ) (x : Object) → found (place_of kind_table n m) ≡ Some x → x.id ≡ id_of kind n m) where
  pub kind_table_apart : AreApart (objects_of kind_table)
  kind_table_apart = flat_apart objects_in (λ i. i.ns) kind_table.namespaces.entries distinct.0
      (each (λ n name_map. AreApart (objects_in name_map)) kind_table.namespaces.entries distinct.0 (λ n name_map e. name_map_apart kind n name_map (distinct.1 n name_map e).0.0 (own_in kind kind_table distinct own n name_map e)))
      (each (λ n name_map. AllByRecursion (λ x. x.id.ns ≡ n) (objects_in name_map)) kind_table.namespaces.entries distinct.0 (λ n name_map e. lies_in kind n name_map (distinct.1 n name_map e).0.0 (own_in kind kind_table distinct own n name_map e)))
      (λ q. each (λ n name_map. bytes_eq q.ns n ≡ false → object_at (objects_in name_map) q ≡ None) kind_table.namespaces.entries distinct.0 (apart_of kind kind_table distinct own q))
