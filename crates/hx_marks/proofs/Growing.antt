-- The keys that may want a write, where the chain has more members, and where other objects are put.
--     kind_grows, wants_grow     they only become more where the tail of the chain has more members
--     filter_put                 a filter of objects, where one is put that it drops
--     wants_put                  they are the same where an object is put that can't be copied
use Rattle.std.proofs.Common.{◌≡◌, ℕ, Bool, true, false, cond, ◌&&◌, ◌||◌, Some, None, List, [], ◌∷◌, ◌++◌, map, filter, Less, Equal, Greater, refl, sym, ap, ◌∙◌, inl, inr, true≢false, eqb, eqb-true}
use Rattle.std.specs.Prelude.{is_some, if◌then◌else◌}
use Rattle.std.specs.List.{list_any}
use Rattle.std.specs.Str.{bytes_eq}
use Rattle.std.specs.FinMap.Entries.{by_order}
use Rattle.std.proofs.lemmas.Bool.{or_cases, or_left, or_right, false_from_ne_true}
use Rattle.std.proofs.lemmas.List.Folds.{list_any-append}
use Rattle.hx_object.specs.Kinds.{number_of, can_be_copied}
use Rattle.hx_object.specs.Order.{id_cmp}
use Rattle.hx_object.specs.declared.kind.Kind.{Kind}
use Rattle.hx_object.specs.declared.object.Object.{Object}
use Rattle.hx_model.specs.Answers.{is_listed}
use Rattle.hx_model.specs.Forest.{is_in, tail_of}
use Rattle.hx_model.specs.Keys.{same_key, is_among}
use Rattle.hx_model.specs.Limits.{is_copy}
use Rattle.hx_model.specs.Modes.{config_id, mode_in}
use Rattle.hx_model.specs.Moves.{mode_at, copied_kinds}
use Rattle.hx_model.specs.State.{Objects, object_at, same_id, put}
use Rattle.hx_model.specs.declared.key.Key.{Key}
use Rattle.hx_model.proofs.Objects.{same_kind, same_from_Equal}
use Rattle.hx_marks.specs.Law.{is_ignored, is_sent, listed_in, sent_from, key_for, wants_of_kind, wants_of}
use Rattle.hx_marks.proofs.Among.{among_flat_map, among_map, found_name, passing_name, found_kind, passing_kind}
use Rattle.hx_marks.proofs.Wanting.{any_flat_map}

-- ---- more members

module _ (objects : Objects) (small big : List (List ℕ)) (within : (a : List ℕ) → is_in a (tail_of small) ≡ true → is_in a (tail_of big) ≡ true) (m : List ℕ) (k : Key) where
  -- of one kind
  pub kind_grows : (kind : Kind) → is_among k (wants_of_kind objects small m kind) ≡ true → is_among k (wants_of_kind objects big m kind) ≡ true
  kind_grows kind h =
      elim (is_ignored (mode_at objects kind)) as (λ b.
      is_among k (if b then [] else map (key_for m) (sent_from objects kind (tail_of small) ++ filter is_copy (listed_in objects kind m))) ≡ true
      → is_among k (if b then [] else map (key_for m) (sent_from objects kind (tail_of big) ++ filter is_copy (listed_in objects kind m))) ≡ true) [
        | true ↦ λ none. none
        | false ↦ λ some. of_big some
      ] h
    where
      test : Object → Bool
      test x = same_key k (key_for m x)

      sends : List ℕ → Objects
      sends a = filter (is_sent (mode_at objects kind)) (listed_in objects kind a)

      copies : Objects
      copies = filter is_copy (listed_in objects kind m)

      parts : (names : List (List ℕ)) → is_among k (map (key_for m) (sent_from objects kind names ++ copies)) ≡ (list_any (λ a. list_any test (sends a)) names || list_any test copies)
      parts names =
          among_map k (key_for m) (sent_from objects kind names ++ copies)
          ∙ list_any-append test (sent_from objects kind names) copies
          ∙ ap (λ b. b || list_any test copies) (any_flat_map test sends names)

      of_big : is_among k (map (key_for m) (sent_from objects kind (tail_of small) ++ copies)) ≡ true → is_among k (map (key_for m) (sent_from objects kind (tail_of big) ++ copies)) ≡ true
      of_big some = parts (tail_of big) ∙ elim (or_cases (list_any (λ a. list_any test (sends a)) (tail_of small)) (list_any test copies) (sym (parts (tail_of small)) ∙ some)) [
        | inl sent ↦
            let found = found_name (λ a. list_any test (sends a)) (tail_of small) sent in
            or_left (list_any (λ a. list_any test (sends a)) (tail_of big)) _ (passing_name (λ a. list_any test (sends a)) found.0 (tail_of big) (within found.0 found.1) found.2)
        | inr there ↦ or_right (list_any (λ a. list_any test (sends a)) (tail_of big)) _ there
      ]

  -- of all kinds
  pub wants_grow : is_among k (wants_of objects small m) ≡ true → is_among k (wants_of objects big m) ≡ true
  wants_grow h =
      let found = found_kind (λ kind. is_among k (wants_of_kind objects small m kind)) (sym (among_flat_map k (wants_of_kind objects small m) copied_kinds) ∙ h) in
      among_flat_map k (wants_of_kind objects big m) copied_kinds ∙ passing_kind (λ kind. is_among k (wants_of_kind objects big m kind)) found.0 found.1 (kind_grows found.0 found.2)

-- ---- an object that can't be copied is put

-- one that a filter drops, where it wasn't there
pub filter_put : (p : Object → Bool) (x : Object) (objects : Objects) → p x ≡ false → object_at objects x.id ≡ None → filter p (put x objects) ≡ filter p objects
filter_put p x [] drops absent = ap (λ b. cond b (x ∷ []) []) drops
filter_put p x (y ∷ objects) drops absent =
    elim (id_cmp x.id y.id) as (λ o. id_cmp x.id y.id ≡ o → filter p (by_order o (x ∷ y ∷ objects) (x ∷ objects) (y ∷ put x objects)) ≡ filter p (y ∷ objects)) [
      | Less ↦ λ e. ap (λ b. cond b (x ∷ filter p (y ∷ objects)) (filter p (y ∷ objects))) drops
      | Equal ↦ λ e. absurd (true≢false (ap is_some (sym (ap (λ b. cond b (Some y) (object_at objects x.id)) (same_from_Equal x.id y.id e)) ∙ absent)))
      | Greater ↦ λ e. ap (λ rest. cond (p y) (y ∷ rest) rest) (filter_put p x objects drops (later (same_id x.id y.id) absent))
    ] refl
  where
    later : (b : Bool) → cond b (Some y) (object_at objects x.id) ≡ None → object_at objects x.id ≡ None
    later true e = absurd (true≢false (ap is_some e))
    later false e = e

module _ (objects : Objects) (x : Object) (uncopied : can_be_copied x.id.kind ≡ false) (absent : object_at objects x.id ≡ None) (modes : object_at (put x objects) config_id ≡ object_at objects config_id) where
  listed_put : (kind : Kind) (a : List ℕ) → can_be_copied kind ≡ true → listed_in (put x objects) kind a ≡ listed_in objects kind a
  listed_put kind a copied = filter_put (is_listed kind (Some a)) x objects (ap (λ b. b && bytes_eq x.id.ns a) apart) absent
    where
      apart : eqb (number_of kind) (number_of x.id.kind) ≡ false
      apart = false_from_ne_true (eqb (number_of kind) (number_of x.id.kind)) (λ h. true≢false (sym copied ∙ ap can_be_copied (same_kind kind x.id.kind (eqb-true _ _ h)) ∙ uncopied))

  sent_put : (kind : Kind) (names : List (List ℕ)) → can_be_copied kind ≡ true → sent_from (put x objects) kind names ≡ sent_from objects kind names
  sent_put kind [] copied = refl
  sent_put kind (a ∷ names) copied = λ i. filter (is_sent (mode_in (modes i) kind)) (listed_put kind a copied i) ++ sent_put kind names copied i

  pub wants_put : (chain : List (List ℕ)) (m : List ℕ) (k : Key) → is_among k (wants_of (put x objects) chain m) ≡ true → is_among k (wants_of objects chain m) ≡ true
  wants_put chain m k h =
      let found = found_kind (λ kind. is_among k (wants_of_kind (put x objects) chain m kind)) (sym (among_flat_map k (wants_of_kind (put x objects) chain m) copied_kinds) ∙ h) in
      among_flat_map k (wants_of_kind objects chain m) copied_kinds ∙ passing_kind (λ kind. is_among k (wants_of_kind objects chain m kind)) found.0 found.1 (ap (is_among k) (sym (same found.0 found.1)) ∙ found.2)
    where
      same : (kind : Kind) → can_be_copied kind ≡ true → wants_of_kind (put x objects) chain m kind ≡ wants_of_kind objects chain m kind
      same kind copied = λ i. if is_ignored (mode_in (modes i) kind) then [] else map (key_for m) (sent_put kind (tail_of chain) copied i ++ filter is_copy (listed_put kind m copied i))
