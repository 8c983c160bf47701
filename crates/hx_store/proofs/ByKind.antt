-- How the places of all kinds change, where one of them is edited.
use Rattle.std.proofs.Common.{◌≡◌, ◌≢◌, ◌≤◌, ◌<◌, ◌-◌, ◌==◌, ℕ, zero, suc, Bool, true, false, cond, ◌&&◌, Some, List, [], ◌∷◌, length, get_or, refl, sym, ap, subst, ◌∙◌, true≢false, eqb-true, eq-eqb, arith, lit≤}
use Rattle.std.specs.Prelude.{slice_get, slice_set, option_and_then}
use Rattle.std.specs.Str.{bytes_eq}
use Rattle.std.proofs.lemmas.List.{length-set}
use Rattle.std.proofs.lemmas.Option.{slice_get-get_or}
use Rattle.hx_object.specs.Kinds.{number_of}
use Rattle.hx_object.specs.declared.kind.Kind.{Kind}
use Rattle.hx_object.specs.declared.kind.Kind.TheVariants.{Namespace, HncConfiguration, HierarchyConfiguration, SubnamespaceAnchor, HierarchicalResourceQuota, Role, RoleBinding, ConfigMap, Secret, NetworkPolicy, LimitRange, Pod, Service, PersistentVolumeClaim}
use Rattle.hx_object.specs.declared.object.Id.{Id}
use Rattle.hx_store.specs.ObjectTable.{Place, EditsKindTable, EditsObjectTable, IsKindTable, IsObjectTable, place_of, place_at}
use Rattle.hx_store.specs.declared.kind_table.KindTable.{KindTable}
use Rattle.hx_store.specs.declared.object_table.ObjectTable.{ObjectTable}

-- numbers begin with one
pub number_of-least : (k : Kind) → 1 ≤ number_of k
number_of-least Namespace = lit≤ tt
number_of-least HncConfiguration = lit≤ tt
number_of-least HierarchyConfiguration = lit≤ tt
number_of-least SubnamespaceAnchor = lit≤ tt
number_of-least HierarchicalResourceQuota = lit≤ tt
number_of-least Role = lit≤ tt
number_of-least RoleBinding = lit≤ tt
number_of-least ConfigMap = lit≤ tt
number_of-least Secret = lit≤ tt
number_of-least NetworkPolicy = lit≤ tt
number_of-least LimitRange = lit≤ tt
number_of-least Pod = lit≤ tt
number_of-least Service = lit≤ tt
number_of-least PersistentVolumeClaim = lit≤ tt

module _ {X : Type 0} where
  pub slice_get-set_same : (xs : List X) (i : ℕ) (v : X) → i < length xs → slice_get (slice_set xs i v) i ≡ Some v
  slice_get-set_same [] i v h = absurd (omega arith)
  slice_get-set_same (x ∷ xs) zero v h = refl
  slice_get-set_same (x ∷ xs) (suc i) v h = slice_get-set_same xs i v (omega arith)

  pub slice_get-set_other : (xs : List X) (i j : ℕ) (v : X) → i ≢ j → slice_get (slice_set xs i v) j ≡ slice_get xs j
  slice_get-set_other [] i j v apart = refl
  slice_get-set_other (x ∷ xs) zero zero v apart = absurd (apart refl)
  slice_get-set_other (x ∷ xs) zero (suc j) v apart = refl
  slice_get-set_other (x ∷ xs) (suc i) zero v apart = refl
  slice_get-set_other (x ∷ xs) (suc i) (suc j) v apart = slice_get-set_other xs i j v (λ e. apart (ap suc e))

module _ (old : ObjectTable) (i : ℕ) (d now : KindTable) (id : Id) (long : length old.kinds ≡ 14) (within : i < 14) (at : i ≡ number_of id.kind - 1) where
  there : slice_get old.kinds i ≡ Some (get_or old.kinds i d)
  there = slice_get-get_or old.kinds i d (omega arith)

  pub set_edits : (g : Place → Place) (ns name : List ℕ) → ns ≡ id.ns → name ≡ id.name → EditsKindTable g (get_or old.kinds i d) now ns name → EditsObjectTable g old (record { kinds = slice_set old.kinds i now }) id
  set_edits g ns name same_ns same_name edits q = by (number_of id.kind == number_of q.kind) refl
    where
      new : ObjectTable
      new = record { kinds = slice_set old.kinds i now }

      edited : EditsKindTable g (get_or old.kinds i d) now id.ns id.name
      edited = subst (λ n. EditsKindTable g (get_or old.kinds i d) now n id.name) same_ns (subst (λ m. EditsKindTable g (get_or old.kinds i d) now ns m) same_name edits)

      by : (b : Bool) → (number_of id.kind == number_of q.kind) ≡ b → place_at (record { kinds = slice_set old.kinds i now }) q ≡ cond (b && bytes_eq id.ns q.ns && bytes_eq id.name q.name) (g (place_at old q)) (place_at old q)
      by true e =
          let here : i ≡ number_of q.kind - 1 = at ∙ ap (λ n. n - 1) (eqb-true (number_of id.kind) (number_of q.kind) e) in
          let is_now : slice_get (slice_set old.kinds i now) (number_of q.kind - 1) ≡ Some now = subst (λ j. slice_get (slice_set old.kinds i now) j ≡ Some now) here (slice_get-set_same old.kinds i now (omega arith)) in
          let was : slice_get old.kinds (number_of q.kind - 1) ≡ Some (get_or old.kinds i d) = subst (λ j. slice_get old.kinds j ≡ Some (get_or old.kinds i d)) here there in
          ap (option_and_then (λ s. place_of s q.ns q.name)) is_now ∙ edited q.ns q.name
          ∙ ap (λ o. let p = option_and_then (λ s. place_of s q.ns q.name) o in cond (bytes_eq id.ns q.ns && bytes_eq id.name q.name) (g p) p) (sym was)
      by false e =
          let apart : i ≢ number_of q.kind - 1 = λ same. true≢false (sym (eq-eqb (number_of id.kind) (number_of q.kind) (omega (arith, number_of-least id.kind, number_of-least q.kind))) ∙ e) in
          ap (option_and_then (λ s. place_of s q.ns q.name)) (slice_get-set_other old.kinds i (number_of q.kind - 1) now apart)

  pub set_places : (IsKindTable (get_or old.kinds i d) → IsKindTable now) → IsObjectTable old → IsObjectTable (record { kinds = slice_set old.kinds i now })
  set_places keeps were = (length-set old.kinds i now ∙ long, λ j s e. by j s e (i == j) refl)
    where
      by : (j : ℕ) (s : KindTable) → slice_get (slice_set old.kinds i now) j ≡ Some s → (b : Bool) → (i == j) ≡ b → IsKindTable s
      by j s e true same =
          let is_now : slice_get (slice_set old.kinds i now) j ≡ Some now = subst (λ k. slice_get (slice_set old.kinds i now) k ≡ Some now) (eqb-true i j same) (slice_get-set_same old.kinds i now (omega arith)) in
          let this : now ≡ s = cc in
          subst IsKindTable this (keeps (were.1 i (get_or old.kinds i d) there))
      by j s e false same = were.1 j s (sym (slice_get-set_other old.kinds i j now (λ k. true≢false (sym (eq-eqb i j k) ∙ same))) ∙ e)
