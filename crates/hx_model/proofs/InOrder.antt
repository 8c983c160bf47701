-- The order of the events of a commit.
--     requests_tell_in_order     of a request
--     turns_tell_once            of a worker's turn
use Rattle.std.proofs.Common.{◌≡◌, ◌≤◌, ◌+◌, ℕ, Bool, true, false, not, ◌&&◌, List, [], ◌∷◌, ◌++◌, length, map, filter, flat_map, Option, Some, None, refl, sym, ap, subst, ◌∙◌, arith, true≢false, append-nil}
use Rattle.std.specs.Prelude.{option_map, if◌then◌else◌}
use Rattle.std.specs.List.{AllByRecursion}
use Rattle.std.specs.Option.{option_to_list}
use Rattle.std.specs.Ordering.{is_lt}
use Rattle.std.proofs.lemmas.Bool.{and_parts, and_from}
use Rattle.std.proofs.lemmas.Grind.{flat_map-append}
use Rattle.std.proofs.lemmas.List.{map-append}
use Rattle.hx_object.specs.Kinds.{number_of, is_namespace, is_anchor}
use Rattle.hx_object.specs.Order.{id_cmp}
use Rattle.hx_object.specs.declared.kind.Kind.{Kind}
use Rattle.hx_object.specs.declared.kind.Kind.TheVariants as kind
use Rattle.hx_object.specs.declared.object.Id.{Id}
use Rattle.hx_object.specs.declared.object.Object.{Object}
use Rattle.hx_model.specs.declared.ask.Ask.{Ask}
use Rattle.hx_model.specs.declared.ask.Ask.TheVariants.{Get, List as ListOf, Create, Replace, Delete, Document as DocumentOf, Events as EventsSince}
use Rattle.hx_model.specs.declared.event.Event.{Event}
use Rattle.hx_model.specs.declared.event.What.TheVariants.{Removed}
use Rattle.hx_model.specs.declared.key.Write.{Write}
use Rattle.hx_model.specs.declared.key.Write.TheVariants.{Put, Cut}
use Rattle.hx_model.specs.declared.refusal.Refusal.{Refusal}
use Rattle.hx_model.specs.Answers.{refusal_of, writes_of, replacing, replaced_by, same_object, ended, ending, begins_to_leave, deleting, owns_named, is_ended}
use Rattle.hx_model.specs.Happening.{RequestsTellInOrder, TurnsTellOnce, objects_told}
use Rattle.hx_model.specs.Machine.{writes_if}
use Rattle.hx_model.specs.State.{State, Objects, ascends, is_below_all, object_at, with_version, event_by, events_of, is_put}
use Rattle.hx_model.specs.Tree.{namespaces_in}
use Rattle.hx_model.proofs.Lists.{all_more, all_filtered}
use Rattle.hx_model.proofs.Objects.{ascends-filter, found_id}

-- the identity is of a namespace
abbrev OfNamespace : Object → Type 0
OfNamespace x = is_namespace x.id.kind ≡ true

namespace_number : (k : Kind) → is_namespace k ≡ true → number_of k ≡ 1
namespace_number kind.Namespace is = refl
namespace_number k is = absurd (true≢false (sym is))

anchor_number : (k : Kind) → is_anchor k ≡ true → number_of k ≡ 4
anchor_number kind.SubnamespaceAnchor is = refl
anchor_number k is = absurd (true≢false (sym is))

-- ---- namespaces that begin to leave

-- they keep their identities
below_ended : (version : ℕ) (id : Id) (xs : Objects) → is_below_all id (map (ended version) xs) ≡ is_below_all id xs
below_ended version id [] = refl
below_ended version id (x ∷ xs) = ap (λ b. is_lt (id_cmp id x.id) && b) (below_ended version id xs)

ascends_ended : (version : ℕ) (xs : Objects) → ascends (map (ended version) xs) ≡ ascends xs
ascends_ended version [] = refl
ascends_ended version (x ∷ xs) = ap (λ b. b && ascends (map (ended version) xs)) (below_ended version x.id xs) ∙ ap (λ b. is_below_all x.id xs && b) (ascends_ended version xs)

module _ (s : State) where
  -- a write puts an ended namespace
  abbrev leaves : Object → Write
  leaves x = Put (ended (s.last + 1) x)

  abbrev told_by : List Write → Objects
  told_by ws = objects_told (flat_map (event_by s.objects (s.last + 1)) ws)

  told_ended : (xs : Objects) → told_by (map leaves xs) ≡ map (ended (s.last + 1)) xs
  told_ended [] = refl
  told_ended (x ∷ xs) = ap (λ ys. ended (s.last + 1) x ∷ ys) (told_ended xs)

  all_put : (xs : Objects) → filter is_put (map leaves xs) ≡ map leaves xs
  all_put [] = refl
  all_put (x ∷ xs) = ap (λ ws. leaves x ∷ ws) (all_put xs)

  none_cut : (xs : Objects) → filter (λ w. not (is_put w)) (map leaves xs) ≡ []
  none_cut [] = refl
  none_cut (x ∷ xs) = none_cut xs

  told_append : (ws more : List Write) → told_by (ws ++ more) ≡ told_by ws ++ told_by more
  told_append ws more =
      ap objects_told (flat_map-append (event_by s.objects (s.last + 1)) ws more)
      ∙ map-append (λ (e : Event). e.object) (flat_map (event_by s.objects (s.last + 1)) ws) (flat_map (event_by s.objects (s.last + 1)) more)

  told_leaving : (xs : Objects) → objects_told (events_of s (map leaves xs)) ≡ map (ended (s.last + 1)) xs
  told_leaving xs = ap told_by (ap (λ ws. ws ++ filter (λ w. not (is_put w)) (map leaves xs)) (all_put xs) ∙ ap (λ ws. map leaves xs ++ ws) (none_cut xs) ∙ append-nil (map leaves xs)) ∙ told_ended xs

  told_with_cut : (id : Id) (xs : Objects) → objects_told (events_of s (Cut id ∷ map leaves xs)) ≡ map (ended (s.last + 1)) xs ++ told_by (Cut id ∷ [])
  told_with_cut id xs =
      ap told_by (ap (λ ws. ws ++ (Cut id ∷ filter (λ w. not (is_put w)) (map leaves xs))) (all_put xs) ∙ ap (λ ws. map leaves xs ++ (Cut id ∷ ws)) (none_cut xs))
      ∙ told_append (map leaves xs) (Cut id ∷ [])
      ∙ ap (λ ys. ys ++ told_by (Cut id ∷ [])) (told_ended xs)

  -- ---- an anchor behind namespaces

  -- a namespace stands before an anchor
  before_anchor : (x : Object) (id : Id) → OfNamespace x → is_anchor id.kind ≡ true → is_lt (id_cmp x.id id) ≡ true
  before_anchor x id is anchor = rw (namespace_number x.id.kind is, anchor_number id.kind anchor) refl

  below_with : (id : Id) (xs : Objects) (z : Object) → is_below_all id xs ≡ true → is_lt (id_cmp id z.id) ≡ true → is_below_all id (xs ++ z ∷ []) ≡ true
  below_with id [] z low less = and_from _ _ less refl
  below_with id (x ∷ xs) z low less = let parts = and_parts (is_lt (id_cmp id x.id)) (is_below_all id xs) low in and_from _ _ parts.0 (below_with id xs z parts.1 less)

  ascends_with : (xs : Objects) (z : Object) → ascends xs ≡ true → AllByRecursion (λ (x : Object). is_lt (id_cmp x.id z.id) ≡ true) xs → ascends (xs ++ z ∷ []) ≡ true
  ascends_with [] z up all = refl
  ascends_with (x ∷ xs) z up all = let parts = and_parts (is_below_all x.id xs) (ascends xs) up in and_from _ _ (below_with x.id xs z parts.0 all.0) (ascends_with xs z parts.1 all.1)

  all_before : (id : Id) (xs : Objects) (z : Object) → is_anchor id.kind ≡ true → id ≡ z.id → AllByRecursion OfNamespace xs → AllByRecursion (λ (x : Object). is_lt (id_cmp x.id z.id) ≡ true) (map (ended (s.last + 1)) xs)
  all_before id [] z anchor same all = tt
  all_before id (x ∷ xs) z anchor same all = (subst (λ (q : Id). is_lt (id_cmp x.id q) ≡ true) same (before_anchor x id all.0 anchor), all_before id xs z anchor same all.1)

  -- ---- requests

  cut_in_order : (id : Id) (xs : Objects) (found : Option Object) → object_at s.objects id ≡ found → is_anchor id.kind ≡ true → ascends xs ≡ true → AllByRecursion OfNamespace xs
      → ascends (map (ended (s.last + 1)) xs ++ objects_told (option_to_list (option_map (λ (y : Object). record { version = s.last + 1; what = Removed; object = with_version y (s.last + 1) }) found))) ≡ true
  cut_in_order id xs None there anchor up all = ap ascends (append-nil (map (ended (s.last + 1)) xs)) ∙ ascends_ended (s.last + 1) xs ∙ up
  cut_in_order id xs (Some y) there anchor up all =
      ascends_with (map (ended (s.last + 1)) xs) (with_version y (s.last + 1)) (ascends_ended (s.last + 1) xs ∙ up) (all_before id xs (with_version y (s.last + 1)) anchor (found_id s.objects id y there) all)

  one_cut : (found : Option Object) → ascends (objects_told (option_to_list (option_map (λ (y : Object). record { version = s.last + 1; what = Removed; object = with_version y (s.last + 1) }) found))) ≡ true
  one_cut None = refl
  one_cut (Some y) = refl

  module _ (up : ascends s.objects ≡ true) (n : List ℕ) where
    abbrev going : Objects
    going = filter (begins_to_leave s n) (namespaces_in s.objects)

    going_up : ascends going ≡ true
    going_up = ascends-filter (begins_to_leave s n) (namespaces_in s.objects) (ascends-filter (λ (x : Object). is_namespace x.id.kind) s.objects up)

    going_are : AllByRecursion OfNamespace going
    going_are =
        let spaces : AllByRecursion OfNamespace (namespaces_in s.objects) = all_filtered OfNamespace (λ (x : Object). is_namespace x.id.kind) s.objects (each s.objects) in
        all_filtered OfNamespace (begins_to_leave s n) (namespaces_in s.objects) (all_more OfNamespace (λ (x : Object). begins_to_leave s n x ≡ true → OfNamespace x) (namespaces_in s.objects) (λ x is _. is) spaces)
      where
        each : (xs : Objects) → AllByRecursion (λ (x : Object). is_namespace x.id.kind ≡ true → OfNamespace x) xs
        each [] = tt
        each (x ∷ xs) = (λ is. is, each xs)

  deletes_in_order : (id : Id) (skip : Bool) → ascends s.objects ≡ true → ascends (objects_told (events_of s (deleting s id skip))) ≡ true
  deletes_in_order id skip up =
      elim (is_namespace id.kind) as (λ b. ascends (objects_told (events_of s (if b then (if is_ended (object_at s.objects id) then [] else ending s id.name) else (if is_anchor id.kind && (not skip && owns_named s id) then Cut id ∷ ending s id.name else Cut id ∷ [])))) ≡ true) [
        | true ↦ elim (is_ended (object_at s.objects id)) as (λ b. ascends (objects_told (events_of s (if b then [] else ending s id.name))) ≡ true) [
          | true ↦ refl
          | false ↦ ap ascends (told_leaving (going up id.name)) ∙ ascends_ended (s.last + 1) (going up id.name) ∙ going_up up id.name
        ]
        | false ↦ elim (is_anchor id.kind) as (λ b. is_anchor id.kind ≡ b → ascends (objects_told (events_of s (if b && (not skip && owns_named s id) then Cut id ∷ ending s id.name else Cut id ∷ []))) ≡ true) [
          | true ↦ λ anchor. elim (not skip && owns_named s id) as (λ b. ascends (objects_told (events_of s (if b then Cut id ∷ ending s id.name else Cut id ∷ []))) ≡ true) [
            | true ↦ ap ascends (told_with_cut id (going up id.name) ∙ ap (λ es. map (ended (s.last + 1)) (going up id.name) ++ objects_told es) (append-nil (event_by s.objects (s.last + 1) (Cut id))))
                ∙ cut_in_order id (going up id.name) (object_at s.objects id) refl anchor (going_up up id.name) (going_are up id.name)
            | false ↦ single
          ]
          | false ↦ λ other. single
        ] refl
      ]
    where
      single : ascends (objects_told (events_of s (Cut id ∷ []))) ≡ true
      single = ap (λ es. ascends (objects_told es)) (append-nil (event_by s.objects (s.last + 1) (Cut id))) ∙ one_cut (object_at s.objects id)

  replaces_in_order : (found : Option Object) (x : Object) → ascends (objects_told (events_of s (replacing found x (s.last + 1)))) ≡ true
  replaces_in_order None x = refl
  replaces_in_order (Some old) x = elim (same_object (replaced_by old x) old) as (λ b. ascends (objects_told (events_of s (if b then [] else Put (with_version (replaced_by old x) (s.last + 1)) ∷ []))) ≡ true) [
    | true ↦ refl
    | false ↦ refl
  ]

  writes_in_order : (ask : Ask) → ascends s.objects ≡ true → ascends (objects_told (events_of s (writes_of s ask))) ≡ true
  writes_in_order (Get id) up = refl
  writes_in_order (ListOf kind ns selector fields) up = refl
  writes_in_order (Create x skip) up = refl
  writes_in_order (Replace x expected skip) up = replaces_in_order (object_at s.objects x.id) x
  writes_in_order (Delete id skip) up = deletes_in_order id skip up
  writes_in_order (DocumentOf document) up = refl
  writes_in_order (EventsSince version) up = refl

pub requests_tell_in_order : RequestsTellInOrder
requests_tell_in_order s ask valid = by (refusal_of s ask)
  where
    by : (refusal : Option Refusal) → ascends (objects_told (events_of s (writes_if refusal (writes_of s ask)))) ≡ true
    by (Some refusal) = refl
    by None = writes_in_order s ask valid.in_order

pub turns_tell_once : TurnsTellOnce
turns_tell_once s None = omega arith
turns_tell_once s (Some (Put x)) = omega arith
turns_tell_once s (Some (Cut id)) = by (object_at s.objects id)
  where
    by : (found : Option Object) → length {A = Event} (option_to_list (option_map (λ (y : Object). record { version = s.last + 1; what = Removed; object = with_version y (s.last + 1) }) found) ++ []) ≤ 1
    by None = omega arith
    by (Some y) = omega arith
