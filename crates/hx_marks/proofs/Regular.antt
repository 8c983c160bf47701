-- The writes of a request and of a key are one, or each ends something.
--     regular_request   the writes of each ask, in a state whose objects are in order
use Rattle.std.proofs.Common.{◌≡◌, ℕ, ◌+◌, Bool, true, false, cond, not, ◌&&◌, Option, Some, None, List, [], ◌∷◌, map, filter, refl, sym, ap, ◌∙◌, inl, inr, true≢false}
use Rattle.std.specs.Prelude.{is_some, if◌then◌else◌}
use Rattle.std.specs.Cmp.{tied_itself}
use Rattle.std.specs.List.{AllByRecursion}
use Rattle.std.proofs.lemmas.Bool.{and_parts, false_from_ne_true}
use Rattle.hx_object.specs.Kinds.{is_namespace, is_anchor}
use Rattle.hx_object.specs.declared.object.Id.{Id}
use Rattle.hx_object.specs.declared.object.Object.{Object}
use Rattle.hx_model.specs.Answers.{same_object, replaced_by, replacing, begins_to_leave, ended, ending, is_ended, owns_named, deleting, writes_of}
use Rattle.hx_model.specs.State.{State, Objects, object_at, ascends, is_below_all, same_id, with_version}
use Rattle.hx_model.specs.Tree.{is_terminating, namespaces_in}
use Rattle.hx_model.specs.declared.ask.Ask.{Ask}
use Rattle.hx_model.specs.declared.ask.Ask.TheVariants.{Get, List as ListOf, Create, Replace, Delete, Document as DocumentOf, Events as EventsSince}
use Rattle.hx_model.specs.declared.key.Write.TheVariants.{Put, Cut}
use Rattle.hx_model.proofs.Objects.{id_total, is_same_id, same_from_Equal, none_below}
use Rattle.hx_marks.specs.Halves.{IsEndingWrite, IsRegular}

-- ---- objects in order

all_then : (P Q : Object → Type 0) (xs : Objects) → ((x : Object) → P x → Q x) → AllByRecursion P xs → AllByRecursion Q xs
all_then P Q [] more all = tt
all_then P Q (x ∷ xs) more all = (more x all.0, all_then P Q xs more all.1)

-- each of them is found under its identity
each_found : (objects : Objects) → ascends objects ≡ true → AllByRecursion (λ (x : Object). object_at objects x.id ≡ Some x) objects
each_found [] up = tt
each_found (y ∷ objects) up =
    let parts = and_parts (is_below_all y.id objects) (ascends objects) up in (
      ap (λ b. cond b (Some y) (object_at objects y.id)) (same_from_Equal y.id y.id (tied_itself id_total y.id)),
      all_then (λ (x : Object). object_at objects x.id ≡ Some x) (λ (x : Object). object_at (y ∷ objects) x.id ≡ Some x) objects
          (λ x found. ap (λ b. cond b (Some y) (object_at objects x.id)) (apart x parts.0 found) ∙ found) (each_found objects parts.1),
    )
  where
    apart : (x : Object) → is_below_all y.id objects ≡ true → object_at objects x.id ≡ Some x → same_id x.id y.id ≡ false
    apart x low found = false_from_ne_true (same_id x.id y.id) (λ h. true≢false (ap is_some (sym found ∙ ap (object_at objects) (is_same_id x.id y.id h) ∙ none_below y.id objects low)))

-- ---- endings

module _ (s : State) (n : List ℕ) where
  stood : (terminating reached : Bool) → (not terminating && reached) ≡ true → terminating ≡ false
  stood true reached e = absurd (true≢false (sym e))
  stood false reached e = refl

  ending_each : (xs : Objects) → AllByRecursion (λ (x : Object). object_at s.objects x.id ≡ Some x) xs → AllByRecursion (IsEndingWrite s) (map (λ (x : Object). Put (ended (s.last + 1) x)) (filter (begins_to_leave s n) (namespaces_in xs)))
  ending_each [] found = tt
  ending_each (x ∷ xs) found =
      let rest = ending_each xs found.1 in
      elim (is_namespace x.id.kind) as (λ b. is_namespace x.id.kind ≡ b → AllByRecursion (IsEndingWrite s) (map (λ (y : Object). Put (ended (s.last + 1) y)) (filter (begins_to_leave s n) (cond b (x ∷ namespaces_in xs) (namespaces_in xs))))) [
        | false ↦ λ _. rest
        | true ↦ λ is.
            elim (begins_to_leave s n x) as (λ c. begins_to_leave s n x ≡ c → AllByRecursion (IsEndingWrite s) (map (λ (y : Object). Put (ended (s.last + 1) y)) (cond c (x ∷ filter (begins_to_leave s n) (namespaces_in xs)) (filter (begins_to_leave s n) (namespaces_in xs))))) [
              | false ↦ λ _. rest
              | true ↦ λ begins. (record { kind = is; old = x; there = found.0; stood = stood (is_terminating x.payload) _ begins; is = refl }, rest)
            ] refl
      ] refl

  all_ending : ascends s.objects ≡ true → AllByRecursion (IsEndingWrite s) (ending s n)
  all_ending up = ending_each s.objects (each_found s.objects up)

-- ---- requests

regular_deletion : (s : State) (id : Id) (skip : Bool) → ascends s.objects ≡ true → IsRegular s (deleting s id skip)
regular_deletion s id skip up =
    elim (is_namespace id.kind) as (λ b.
    IsRegular s (if b then (if is_ended (object_at s.objects id) then [] else ending s id.name) else (
    if is_anchor id.kind && (not skip && owns_named s id) then Cut id ∷ ending s id.name else Cut id ∷ []))) [
      | true ↦ elim (is_ended (object_at s.objects id)) as (λ e. IsRegular s (if e then [] else ending s id.name)) [ true ↦ inr tt | false ↦ inr (all_ending s id.name up) ]
      | false ↦ by (is_anchor id.kind) refl
    ]
  where
    by : (a : Bool) → is_anchor id.kind ≡ a → IsRegular s (if a && (not skip && owns_named s id) then Cut id ∷ ending s id.name else Cut id ∷ [])
    by false is = inl (Cut id, refl)
    by true is = elim (not skip && owns_named s id) as (λ o. IsRegular s (if o then Cut id ∷ ending s id.name else Cut id ∷ [])) [ true ↦ inr (is, all_ending s id.name up) | false ↦ inl (Cut id, refl) ]

regular_replacing : (s : State) (found : Option Object) (x : Object) (version : ℕ) → IsRegular s (replacing found x version)
regular_replacing s None x version = inr tt
regular_replacing s (Some old) x version =
    elim (same_object (replaced_by old x) old) as (λ b. IsRegular s (if b then [] else Put (with_version (replaced_by old x) version) ∷ [])) [
      | true ↦ inr tt
      | false ↦ inl (Put (with_version (replaced_by old x) version), refl)
    ]

pub regular_request : (s : State) (ask : Ask) → ascends s.objects ≡ true → IsRegular s (writes_of s ask)
regular_request s (Get id) up = inr tt
regular_request s (ListOf kind ns selector fields) up = inr tt
regular_request s (DocumentOf document) up = inr tt
regular_request s (EventsSince version) up = inr tt
regular_request s (Create x skip) up = inl (Put (with_version x (s.last + 1)), refl)
regular_request s (Replace x expected skip) up = regular_replacing s (object_at s.objects x.id) x (s.last + 1)
regular_request s (Delete id skip) up = regular_deletion s id skip up
