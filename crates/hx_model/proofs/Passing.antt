-- What passes a test among lists, and what is found there.
--     out_left, out_right             neither of two holds
--     any_filter                      a test of what a filter keeps
--     passing_object, found_object    an object that is found passes a test, and back
--     passing_name, found_name        the same for names
--     passing_kind, found_kind        the same for the kinds that can be copied
use Rattle.std.proofs.Common.{◌≡◌, ℕ, Bool, true, false, cond, ◌&&◌, ◌||◌, Option, Some, None, List, [], ◌∷◌, filter, refl, sym, ap, ◌∙◌, subst, inl, inr, true≢false}
use Rattle.std.specs.Prelude.{is_some}
use Rattle.std.specs.List.{list_any, AllByRecursion}
use Rattle.std.specs.Cmp.{tied_itself}
use Rattle.std.specs.Str.{bytes_eq}
use Rattle.std.proofs.lemmas.Bool.{and_parts, or_cases, or_left, or_right, false_from_ne_true}
use Rattle.hx_object.specs.Kinds.{can_be_copied}
use Rattle.hx_object.specs.declared.kind.Kind.{Kind}
use Rattle.hx_object.specs.declared.kind.Kind.TheVariants as of
use Rattle.hx_object.specs.declared.object.Id.{Id}
use Rattle.hx_object.specs.declared.object.Object.{Object}
use Rattle.hx_model.specs.Forest.{is_in}
use Rattle.hx_model.specs.Moves.{copied_kinds}
use Rattle.hx_model.specs.State.{Objects, object_at, same_id, ascends, is_below_all}
use Rattle.hx_model.proofs.Climbing.{is_same, same_itself}
use Rattle.hx_model.proofs.Objects.{id_total, is_same_id, same_from_Equal, none_below}

-- ---- what passes

pub out_left : (a b : Bool) → (a || b) ≡ false → a ≡ false
out_left true b h = h
out_left false b h = refl

pub out_right : (a b : Bool) → (a || b) ≡ false → b ≡ false
out_right true b h = absurd (true≢false h)
out_right false b h = h

pub any_filter : {A : Type 0} (p q : A → Bool) (xs : List A) → list_any p (filter q xs) ≡ list_any (λ x. q x && p x) xs
any_filter p q [] = refl
any_filter p q (x ∷ xs) = elim (q x) as (λ b. list_any p (cond b (x ∷ filter q xs) (filter q xs)) ≡ ((b && p x) || list_any (λ y. q y && p y) xs)) [
  | true ↦ ap (λ b. p x || b) (any_filter p q xs)
  | false ↦ any_filter p q xs
]

-- an object that is found, and passes
pub passing_object : (p : Object → Bool) (objects : Objects) (id : Id) (x : Object) → object_at objects id ≡ Some x → p x ≡ true → list_any p objects ≡ true
passing_object p [] id x at passes = absurd (true≢false (sym (ap is_some at)))
passing_object p (y ∷ objects) id x at passes =
    elim (same_id id y.id) as (λ b. cond b (Some y) (object_at objects id) ≡ Some x → (p y || list_any p objects) ≡ true) [
      | true ↦ λ e. or_left (p y) _ (ap p (inside y x e) ∙ passes)
      | false ↦ λ e. or_right (p y) _ (passing_object p objects id x e passes)
    ] at
  where
    inside : (a b : Object) → Some a ≡ Some b → a ≡ b
    inside a b e = cc

pub found_object : (p : Object → Bool) (objects : Objects) → ascends objects ≡ true → list_any p objects ≡ true → (x : Object) × (object_at objects x.id ≡ Some x) × (p x ≡ true)
found_object p [] up h = absurd (true≢false (sym h))
found_object p (y ∷ objects) up h = elim (or_cases (p y) (list_any p objects) h) [
  | inl here ↦ (y, ap (λ b. cond b (Some y) (object_at objects y.id)) (same_from_Equal y.id y.id (tied_itself id_total y.id)), here)
  | inr later ↦
      let parts = and_parts (is_below_all y.id objects) (ascends objects) up in
      let found = found_object p objects parts.1 later in
      (found.0, ap (λ b. cond b (Some y) (object_at objects found.0.id)) (differs found.0 parts.0 found.1) ∙ found.1, found.2)
]
  where
    none_some : (x : Object) → ◌≡◌ {A = Option Object} None (Some x) → ⊥
    none_some x e = true≢false (sym (ap is_some e))

    differs : (x : Object) → is_below_all y.id objects ≡ true → object_at objects x.id ≡ Some x → same_id x.id y.id ≡ false
    differs x low found = false_from_ne_true (same_id x.id y.id) (λ h. none_some x (sym (none_below y.id objects low) ∙ ap (object_at objects) (sym (is_same_id x.id y.id h)) ∙ found))

-- a name of a list that passes
pub passing_name : (t : List ℕ → Bool) (a : List ℕ) (xs : List (List ℕ)) → is_in a xs ≡ true → t a ≡ true → list_any t xs ≡ true
passing_name t a [] h passes = absurd (true≢false (sym h))
passing_name t a (x ∷ xs) h passes = elim (or_cases (bytes_eq a x) (is_in a xs) h) [
  | inl here ↦ or_left (t x) (list_any t xs) (subst (λ (b : List ℕ). t b ≡ true) (is_same a x here) passes)
  | inr later ↦ or_right (t x) (list_any t xs) (passing_name t a xs later passes)
]

pub found_name : (t : List ℕ → Bool) (xs : List (List ℕ)) → list_any t xs ≡ true → (a : List ℕ) × (is_in a xs ≡ true) × (t a ≡ true)
found_name t [] h = absurd (true≢false (sym h))
found_name t (x ∷ xs) h = elim (or_cases (t x) (list_any t xs) h) [
  | inl here ↦ (x, or_left (bytes_eq x x) (is_in x xs) (same_itself x), here)
  | inr later ↦ let found = found_name t xs later in (found.0, or_right (bytes_eq found.0 x) (is_in found.0 xs) found.1, found.2)
]

-- a kind that can be copied, and passes
pub passing_kind : (t : Kind → Bool) (kind : Kind) → can_be_copied kind ≡ true → t kind ≡ true → list_any t copied_kinds ≡ true
passing_kind t of.Role is h = or_left (t of.Role) _ h
passing_kind t of.RoleBinding is h = or_right (t of.Role) _ (or_left (t of.RoleBinding) _ h)
passing_kind t of.ConfigMap is h = or_right (t of.Role) _ (or_right (t of.RoleBinding) _ (or_left (t of.ConfigMap) _ h))
passing_kind t of.Secret is h = or_right (t of.Role) _ (or_right (t of.RoleBinding) _ (or_right (t of.ConfigMap) _ (or_left (t of.Secret) _ h)))
passing_kind t of.NetworkPolicy is h = or_right (t of.Role) _ (or_right (t of.RoleBinding) _ (or_right (t of.ConfigMap) _ (or_right (t of.Secret) _ (or_left (t of.NetworkPolicy) _ h))))
passing_kind t of.LimitRange is h = or_right (t of.Role) _ (or_right (t of.RoleBinding) _ (or_right (t of.ConfigMap) _ (or_right (t of.Secret) _ (or_right (t of.NetworkPolicy) _ (or_left (t of.LimitRange) _ h)))))
passing_kind t _ is h = absurd (true≢false (sym is))

pub found_kind : (t : Kind → Bool) → list_any t copied_kinds ≡ true → (kind : Kind) × (can_be_copied kind ≡ true) × (t kind ≡ true)
found_kind t h = among copied_kinds (refl, (refl, (refl, (refl, (refl, (refl, tt)))))) h
  where
    among : (xs : List Kind) → AllByRecursion (λ kind. can_be_copied kind ≡ true) xs → list_any t xs ≡ true → (kind : Kind) × (can_be_copied kind ≡ true) × (t kind ≡ true)
    among [] all h = absurd (true≢false (sym h))
    among (x ∷ xs) all h = elim (or_cases (t x) (list_any t xs) h) [
      | inl here ↦ (x, all.0, here)
      | inr later ↦ among xs all.1 later
    ]
