-- What is found among the objects of places: each in the place of its identity.
use Rattle.std.proofs.Common.{◌≡◌, ◌<◌, ◌+◌, ◌-◌, ◌==◌, ℕ, zero, suc, Bool, true, false, cond, ◌&&◌, Option, Some, None, List, [], ◌∷◌, refl, sym, ap, subst, ◌∙◌, true≢false, eqb-true, eq-eqb, arith}
use Rattle.std.specs.Prelude.{is_some, option_and_then, slice_get}
use Rattle.std.specs.Option.{option_or}
use Rattle.std.specs.List.{AllByRecursion, IsDistinct, flat_map}
use Rattle.std.specs.Map.{keys_of, values_of, lookup}
use Rattle.std.specs.Str.{bytes_eq}
use Rattle.std.proofs.lemmas.Bool.{false_from_ne_true}
use Rattle.std.proofs.lemmas.Option.{slice_get_within}
use Rattle.std.proofs.lemmas.List.Folds.{find-append}
use Rattle.std.proofs.lemmas.Map.Keys.{IsDistinct-head, IsDistinct-tail}
use Rattle.std.proofs.lemmas.Slice.Eq.{bytes_eq-Decides}
use Rattle.hx_object.specs.Kinds.{number_of}
use Rattle.hx_object.specs.declared.kind.Kind.{Kind}
use Rattle.hx_object.specs.declared.kind.Kind.TheVariants.{Namespace, HncConfiguration, HierarchyConfiguration, SubnamespaceAnchor, HierarchicalResourceQuota, Role, RoleBinding, ConfigMap, Secret, NetworkPolicy, LimitRange, Pod, Service, PersistentVolumeClaim}
use Rattle.hx_object.specs.declared.object.Id.{Id}
use Rattle.hx_object.specs.declared.object.Object.{Object}
use Rattle.hx_model.specs.State.{same_id, object_at}
use Rattle.hx_model.proofs.Objects.{object_at-objects_from}
use Rattle.hx_store.proofs.ByKind.{number_of-least}
use Rattle.hx_store.specs.ObjectTable.{entries_of, Place, IsKindTable, AreDistinct, IsSound, found, place_in, place_of, place_at, name_map_in, of_place, objects_in, objects_of, all_objects, objects_at}
use Rattle.hx_store.specs.declared.name_map.NameMap.{NameMap}
use Rattle.hx_store.specs.declared.kind_table.KindTable.{KindTable}
use Rattle.hx_store.specs.declared.object_table.ObjectTable.{ObjectTable}

-- ---- keys that are texts

pub text_itself : (n : List ℕ) → bytes_eq n n ≡ true
text_itself n = (bytes_eq-Decides n n).1 refl

pub or_none : {X : Type 0} (o : Option X) → option_or o None ≡ o
or_none None = refl
or_none (Some x) = refl

module _ {V : Type 0} where
  -- no later key is that of the first
  pub none_among : (k : List ℕ) (n : List ℕ) (es : List (List ℕ × V)) → bytes_eq n k ≡ true → AllByRecursion (λ y. bytes_eq k y ≡ false) (keys_of es) → lookup (bytes_eq n) es ≡ None
  none_among k n [] same apart = refl
  none_among k n (e ∷ es) same apart =
      let other : bytes_eq n e.0 ≡ false = subst (λ m. bytes_eq m e.0 ≡ false) (sym ((bytes_eq-Decides n k).0 same)) apart.0 in
      ap (λ b. cond b (Some e.1) (lookup (bytes_eq n) es)) other ∙ none_among k n es same apart.1

  -- what holds of all that look-ups find holds of each entry
  pub each : (P : List ℕ → V → Type 0) (es : List (List ℕ × V)) → IsDistinct bytes_eq (keys_of es) → ((n : List ℕ) (v : V) → lookup (bytes_eq n) es ≡ Some v → P n v) → AllByRecursion (λ e. P e.0 e.1) es
  each P [] distinct holds = tt
  each P (e ∷ es) distinct holds = (
    holds e.0 e.1 (ap (λ b. cond b (Some e.1) (lookup (bytes_eq e.0) es)) (text_itself e.0)),
    each P es (IsDistinct-tail bytes_eq e.0 (keys_of es) distinct) (λ n v later. holds n v (past n v (bytes_eq n e.0) refl later)),
  )
    where
      past : (n : List ℕ) (v : V) (b : Bool) → bytes_eq n e.0 ≡ b → lookup (bytes_eq n) es ≡ Some v → cond (bytes_eq n e.0) (Some e.1) (lookup (bytes_eq n) es) ≡ Some v
      past n v true same later = absurd (true≢false (ap is_some (sym later ∙ none_among e.0 n es same (IsDistinct-head bytes_eq e.0 (keys_of es) distinct))))
      past n v false other later = ap (λ b. cond b (Some e.1) (lookup (bytes_eq n) es)) other ∙ later

-- ---- where all objects of an entry have its key, what is found is found in one entry

module _ {V : Type 0} (f : V → List Object) (q : Id) (n : List ℕ) where
  pub level : (es : List (List ℕ × V)) → IsDistinct bytes_eq (keys_of es) → AllByRecursion (λ e. bytes_eq n e.0 ≡ false → object_at (f e.1) q ≡ None) es
      → object_at (flat_map f (values_of es)) q ≡ option_and_then (λ v. object_at (f v) q) (lookup (bytes_eq n) es)
  level [] distinct apart = refl
  level (e ∷ es) distinct apart =
      find-append (λ x. same_id q x.id) (f e.1) (flat_map f (values_of es))
      ∙ by (level es (IsDistinct-tail bytes_eq e.0 (keys_of es) distinct) apart.1) (bytes_eq n e.0) refl
    where
      by : object_at (flat_map f (values_of es)) q ≡ option_and_then (λ v. object_at (f v) q) (lookup (bytes_eq n) es)
          → (b : Bool) → bytes_eq n e.0 ≡ b → option_or (object_at (f e.1) q) (object_at (flat_map f (values_of es)) q) ≡ option_and_then (λ v. object_at (f v) q) (cond b (Some e.1) (lookup (bytes_eq n) es))
      by rest true same = ap (option_or (object_at (f e.1) q)) (rest ∙ ap (option_and_then (λ v. object_at (f v) q)) (none_among e.0 n es same (IsDistinct-head bytes_eq e.0 (keys_of es) distinct))) ∙ or_none (object_at (f e.1) q)
      by rest false other = ap (λ o. option_or o (object_at (flat_map f (values_of es)) q)) (apart.0 other) ∙ rest

-- ---- the objects of one kind and namespace

abbrev pub id_of : Kind → List ℕ → List ℕ → Id
id_of kind ns name = record { kind = kind; ns = ns; name = name }

pub and_false : (b : Bool) → (b && false) ≡ false
and_false true = refl
and_false false = refl

pub and_true : (b : Bool) → (b && true) ≡ b
and_true true = refl
and_true false = refl

module _ (kind : Kind) (ns : List ℕ) (name_map : NameMap) (distinct : AreDistinct name_map) (own : (m : List ℕ) (x : Object) → found (place_in name_map m) ≡ Some x → x.id ≡ id_of kind ns m) where
  pub apart_in : (q : Id) (m : List ℕ) (v : Option Object) → place_in name_map m ≡ Some v → bytes_eq q.name m ≡ false → object_at (of_place v) q ≡ None
  apart_in q m None e other = refl
  apart_in q m (Some x) e other =
      ap (λ i. cond (same_id q i) (Some x) None) (own m x (ap found e))
      ∙ ap (λ b. cond (number_of q.kind == number_of kind && bytes_eq q.ns ns && b) (Some x) None) other
      ∙ ap (λ b. cond {A = Option Object} b (Some x) None) (and_false (number_of q.kind == number_of kind && bytes_eq q.ns ns))

  pub found_in : (q : Id) → object_at (objects_in name_map) q ≡ cond (number_of q.kind == number_of kind && bytes_eq q.ns ns) (found (place_in name_map q.name)) None
  found_in q = level of_place q q.name (entries_of name_map) distinct (each (λ m v. bytes_eq q.name m ≡ false → object_at (of_place v) q ≡ None) (entries_of name_map) distinct (apart_in q)) ∙ by (place_in name_map q.name) refl
    where
      by : (p : Place) → place_in name_map q.name ≡ p → option_and_then (λ v. object_at (of_place v) q) p ≡ cond (number_of q.kind == number_of kind && bytes_eq q.ns ns) (found p) None
      by None e = none (number_of q.kind == number_of kind && bytes_eq q.ns ns)
        where
          none : (b : Bool) → None ≡ cond {A = Option Object} b None None
          none true = refl
          none false = refl
      by (Some None) e = none (number_of q.kind == number_of kind && bytes_eq q.ns ns)
        where
          none : (b : Bool) → None ≡ cond {A = Option Object} b None None
          none true = refl
          none false = refl
      by (Some (Some x)) e =
          ap (λ i. cond (same_id q i) (Some x) None) (own q.name x (ap found e))
          ∙ ap (λ b. cond (number_of q.kind == number_of kind && bytes_eq q.ns ns && b) (Some x) None) (text_itself q.name)
          ∙ ap (λ b. cond {A = Option Object} b (Some x) None) (and_true (number_of q.kind == number_of kind && bytes_eq q.ns ns))

-- ---- the objects of one kind

module _ (kind : Kind) (kind_table : KindTable) (distinct : IsKindTable kind_table) (own : (n m : List ℕ) (x : Object) → found (place_of kind_table n m) ≡ Some x → x.id ≡ id_of kind n m) where
  pub own_in : (n : List ℕ) (name_map : NameMap) → name_map_in kind_table n ≡ Some name_map → (m : List ℕ) (x : Object) → found (place_in name_map m) ≡ Some x → x.id ≡ id_of kind n m
  own_in n name_map e m x there = own n m x (ap (λ o. found (option_and_then (λ s. place_in s m) o)) e ∙ there)

  pub apart_of : (q : Id) (n : List ℕ) (name_map : NameMap) → name_map_in kind_table n ≡ Some name_map → bytes_eq q.ns n ≡ false → object_at (objects_in name_map) q ≡ None
  apart_of q n name_map e other =
      found_in kind n name_map (distinct.1 n name_map e).0.0 (own_in n name_map e) q
      ∙ ap (λ b. cond (number_of q.kind == number_of kind && b) (found (place_in name_map q.name)) None) other
      ∙ ap (λ b. cond {A = Option Object} b (found (place_in name_map q.name)) None) (and_false (number_of q.kind == number_of kind))

  pub found_of : (q : Id) → object_at (objects_of kind_table) q ≡ cond (number_of q.kind == number_of kind) (found (place_of kind_table q.ns q.name)) None
  found_of q = level objects_in q q.ns kind_table.namespaces.entries distinct.0 (each (λ n name_map. bytes_eq q.ns n ≡ false → object_at (objects_in name_map) q ≡ None) kind_table.namespaces.entries distinct.0 (apart_of q)) ∙ by (name_map_in kind_table q.ns) refl
    where
      by : (o : Option NameMap) → name_map_in kind_table q.ns ≡ o → option_and_then (λ name_map. object_at (objects_in name_map) q) o ≡ cond (number_of q.kind == number_of kind) (found (option_and_then (λ name_map. place_in name_map q.name) o)) None
      by None e = none (number_of q.kind == number_of kind)
        where
          none : (b : Bool) → None ≡ cond {A = Option Object} b None None
          none true = refl
          none false = refl
      by (Some name_map) e =
          found_in kind q.ns name_map (distinct.1 q.ns name_map e).0.0 (own_in q.ns name_map e) q
          ∙ ap (λ b. cond (number_of q.kind == number_of kind && b) (found (place_in name_map q.name)) None) (text_itself q.ns)
          ∙ ap (λ b. cond {A = Option Object} b (found (place_in name_map q.name)) None) (and_true (number_of q.kind == number_of kind))

-- ---- the objects of all kinds

-- the kind at an index
pub kind_of_index : (i : ℕ) → i < 14 → (k : Kind) × (number_of k ≡ i + 1)
kind_of_index zero h = (Namespace, refl)
kind_of_index (suc zero) h = (HncConfiguration, refl)
kind_of_index (suc (suc zero)) h = (HierarchyConfiguration, refl)
kind_of_index (suc (suc (suc zero))) h = (SubnamespaceAnchor, refl)
kind_of_index (suc (suc (suc (suc zero)))) h = (HierarchicalResourceQuota, refl)
kind_of_index (suc (suc (suc (suc (suc zero))))) h = (Role, refl)
kind_of_index (suc (suc (suc (suc (suc (suc zero)))))) h = (RoleBinding, refl)
kind_of_index (suc (suc (suc (suc (suc (suc (suc zero))))))) h = (ConfigMap, refl)
kind_of_index (suc (suc (suc (suc (suc (suc (suc (suc zero)))))))) h = (Secret, refl)
kind_of_index (suc (suc (suc (suc (suc (suc (suc (suc (suc zero))))))))) h = (NetworkPolicy, refl)
kind_of_index (suc (suc (suc (suc (suc (suc (suc (suc (suc (suc zero)))))))))) h = (LimitRange, refl)
kind_of_index (suc (suc (suc (suc (suc (suc (suc (suc (suc (suc (suc zero))))))))))) h = (Pod, refl)
kind_of_index (suc (suc (suc (suc (suc (suc (suc (suc (suc (suc (suc (suc zero)))))))))))) h = (Service, refl)
kind_of_index (suc (suc (suc (suc (suc (suc (suc (suc (suc (suc (suc (suc (suc zero))))))))))))) h = (PersistentVolumeClaim, refl)
kind_of_index (suc (suc (suc (suc (suc (suc (suc (suc (suc (suc (suc (suc (suc (suc i)))))))))))))) h = absurd (omega arith)

module _ (q : Id) where
  -- each of the tables of kinds has the objects of one kind, by the kinds' numbers
  abbrev InOrder : List KindTable → ℕ → Type 0
  InOrder [] n = Unit {0}
  InOrder (s ∷ rest) n = ((number_of q.kind == n) ≡ true → object_at (objects_of s) q ≡ found (place_of s q.ns q.name)) × ((number_of q.kind == n) ≡ false → object_at (objects_of s) q ≡ None) × InOrder rest (n + 1)

  other : (n : ℕ) → number_of q.kind < n → (number_of q.kind == n) ≡ false
  other n less = false_from_ne_true _ (λ t. absurd (omega (arith, eqb-true (number_of q.kind) n t, less)))

  none_past : (ss : List KindTable) (n : ℕ) → InOrder ss n → number_of q.kind < n → object_at (flat_map objects_of ss) q ≡ None
  none_past [] n in_order less = refl
  none_past (s ∷ ss) n in_order less =
      find-append (λ x. same_id q x.id) (objects_of s) (flat_map objects_of ss)
      ∙ ap (λ o. option_or o (object_at (flat_map objects_of ss) q)) (in_order.1 (other n less)) ∙ none_past ss (n + 1) in_order.2 (omega arith)

  found_from : (ss : List KindTable) (n j : ℕ) → InOrder ss n → number_of q.kind ≡ n + j → object_at (flat_map objects_of ss) q ≡ found (option_and_then (λ s. place_of s q.ns q.name) (slice_get ss j))
  found_from [] n j in_order e = refl
  found_from (s ∷ ss) n zero in_order e =
      find-append (λ x. same_id q x.id) (objects_of s) (flat_map objects_of ss)
      ∙ ap (option_or (object_at (objects_of s) q)) (none_past ss (n + 1) in_order.2 (omega arith)) ∙ or_none (object_at (objects_of s) q)
      ∙ in_order.0 (eq-eqb (number_of q.kind) n (omega arith))
  found_from (s ∷ ss) n (suc j) in_order e =
      find-append (λ x. same_id q x.id) (objects_of s) (flat_map objects_of ss)
      ∙ ap (λ o. option_or o (object_at (flat_map objects_of ss) q)) (in_order.1 (apart e)) ∙ found_from ss (n + 1) j in_order.2 (omega arith)
    where
      apart : number_of q.kind ≡ n + suc j → (number_of q.kind == n) ≡ false
      apart e = false_from_ne_true _ (λ t. absurd (omega (arith, eqb-true (number_of q.kind) n t, e)))

  order_from : (ss : List KindTable) (i : ℕ) → ((j : ℕ) (s : KindTable) → slice_get ss j ≡ Some s → (m : ℕ) → m ≡ i + j + 1 → object_at (objects_of s) q ≡ cond (number_of q.kind == m) (found (place_of s q.ns q.name)) None) → InOrder ss (i + 1)
  order_from [] i holds = tt
  order_from (s ∷ ss) i holds =
      let this = holds zero s refl (i + 1) (omega arith) in (
        λ t. this ∙ ap (λ b. cond {A = Option Object} b (found (place_of s q.ns q.name)) None) t,
        λ t. this ∙ ap (λ b. cond {A = Option Object} b (found (place_of s q.ns q.name)) None) t,
        order_from ss (i + 1) (λ j t e m at. holds (suc j) t e m (omega arith)),
      )

-- what is found among all objects is what is in the place
found_among : (places : ObjectTable) → IsSound places → (q : Id) → object_at (all_objects places) q ≡ found (place_at places q)
found_among places sound q = found_from q places.kinds 1 (number_of q.kind - 1) (order_from q places.kinds 0 of_kind) (omega (arith, number_of-least q.kind))
  where
    of_kind : (j : ℕ) (s : KindTable) → slice_get places.kinds j ≡ Some s → (m : ℕ) → m ≡ 0 + j + 1 → object_at (objects_of s) q ≡ cond (number_of q.kind == m) (found (place_of s q.ns q.name)) None
    of_kind j s e m at =
        let within = slice_get_within places.kinds j s e in
        let long = sound.distinct.0 in
        let k = kind_of_index j (omega (arith, within, long)) in
        let here : slice_get places.kinds (number_of k.0 - 1) ≡ Some s = subst (λ i. slice_get places.kinds i ≡ Some s) (omega (arith, k.1)) e in
        let same : number_of k.0 ≡ m = omega (arith, k.1, at) in
        found_of k.0 s (sound.distinct.1 j s e) (λ n name x there. sound.own (id_of k.0 n name) x (ap (λ o. found (option_and_then (λ t. place_of t n name) o)) here ∙ there)) q
        ∙ ap (λ i. cond {A = Option Object} (number_of q.kind == i) (found (place_of s q.ns q.name)) None) same

pub found_at : (places : ObjectTable) → IsSound places → (q : Id) → object_at (objects_at places) q ≡ found (place_at places q)
found_at places sound q = object_at-objects_from (all_objects places) q ∙ found_among places sound q
