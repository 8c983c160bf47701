-- Where the write of a source makes a conflict.
--     conflict_put     in its own place, or where it goes to sources of its kind and name
--     conflict_alike   not there, where the source that it replaces went to the same labels
--     reached_down     a place is reached from one of the namespaces above
--     reached_none     and not where no source of its kind and name lies in another namespace
--     reached_beside   where the source in one namespace doesn't go there, the others tell
use Rattle.std.proofs.Common.{◌≡◌, ℕ, Bool, true, false, cond, not, ◌&&◌, ◌||◌, Option, Some, None, List, [], ◌∷◌, ◌⊎◌, filter, refl, sym, ap, ◌∙◌, subst, true≢false, eqb, eq-eqb, eqb-true, inl, inr}
use Rattle.std.specs.Prelude.{is_some, is_none, option_and_then, Result, IfOk}
use Rattle.hx_object.specs.declared.memory.NoMemory.{NoMemory}
use Rattle.std.specs.List.{list_any}
use Rattle.std.specs.Option.{option_map_or, MatchOption}
use Rattle.std.specs.Str.{bytes_eq}
use Rattle.std.proofs.lemmas.Map.Entries.{option_filter}
use Rattle.std.proofs.lemmas.Bool.{and_parts, and_from, and_left, and_right, or_cases, or_left, or_right, not-true, not_from_false, false_from_ne_true}
use Rattle.hx_object.specs.Kinds.{number_of, can_be_copied, is_anchor}
use Rattle.hx_object.specs.declared.kind.Kind.{Kind}
use Rattle.hx_object.specs.declared.object.Id.{Id}
use Rattle.hx_object.specs.declared.object.Mode.{Mode}
use Rattle.hx_object.specs.declared.object.Mode.TheVariants.{Propagate}
use Rattle.hx_object.specs.declared.object.Object.{Object}
use Rattle.hx_select.specs.Selectors.{selector_of}
use Rattle.hx_select.specs.TreeSelects.{tree_select_of}
use Rattle.hx_model.specs.Cases.{same_name}
use Rattle.hx_model.specs.Exceptions.{is_allowed, passes, is_false, select_of, tree_select_in, none_of, select_allows, tree_select_allows}
use Rattle.hx_model.specs.Conflicts.{labels_at, makes_conflict}
use Rattle.hx_model.specs.First.{so}
use Rattle.hx_model.specs.Forest.{is_in, in_chain, chain_of, tail_of}
use Rattle.hx_model.specs.Modes.{mode_of}
use Rattle.hx_model.specs.Propagation.{goes_to, is_propagated, is_source, stays_home, id_in, source_at}
use Rattle.hx_model.specs.State.{State, same_id, object_at, put, ascends}
use Rattle.hx_model.specs.Tree.{forest_of}
use Rattle.hx_model.specs.TreeLabels.{is_open}
use Rattle.hx_model.proofs.Climbing.{is_same, same_itself}
use Rattle.hx_model.proofs.Conflicting.{found_any, any_found, goes_from, unpropagated, reached_any, tail_in, tail_chain, head_out, reaches, overwritten_by, overwritten_now, overwritten_put, other_at, conflict_found, conflict_of}
use Rattle.hx_model.proofs.Objects.{is_same_id, same_kind, object_at-filter, found_id, found_again}
use Rattle.hx_model.proofs.Walking.{both, passes_in}
use Rattle.hx_reconcile.specs.Reaches.{reaches as reach_has}
use Rattle.hx_reconcile.specs.declared.reach.Reach.{Reach}
use Rattle.hx_store.specs.Sources.{HasNoneBeside, indexed_in}
use Rattle.hx_admit.specs.Conflicting.{with_object, is_source_of, is_source_in, is_alike, goes_as_before, IsReachOf, goes_down, goes_beside, is_reached, is_taken, is_hit, hits}

-- ---- names

-- a name that passes
member : (P : List ℕ → Bool) (names : List (List ℕ)) → list_any P names ≡ true → (a : List ℕ) × (is_in a names ≡ true) × (P a ≡ true)
member P [] h = absurd (true≢false (sym h))
member P (a ∷ names) h = elim (or_cases (P a) (list_any P names) h) [
  | inl here ↦ (a, or_left (bytes_eq a a) (is_in a names) (same_itself a), here)
  | inr later ↦ let found = member P names later in (found.0, or_right (bytes_eq found.0 a) (is_in found.0 names) found.1, found.2)
]

-- two tests that agree but for a name that isn't there
any_same : (P Q : List ℕ → Bool) (n : List ℕ) (names : List (List ℕ)) → is_in n names ≡ false → ((a : List ℕ) → bytes_eq n a ≡ false → P a ≡ Q a) → list_any P names ≡ list_any Q names
any_same P Q n [] out same = refl
any_same P Q n (a ∷ names) out same =
    let parts = apart (bytes_eq n a) (is_in n names) out in
    (λ i. same a parts.0 i || list_any P names) ∙ ap (λ b. Q a || b) (any_same P Q n names parts.1 same)
  where
    apart : (b c : Bool) → (b || c) ≡ false → (b ≡ false) × (c ≡ false)
    apart true c e = absurd (true≢false e)
    apart false c e = (refl, e)

-- ---- Booleans

so_some : (b : Bool) (x : Object) → is_some (so b x) ≡ true → b ≡ true
so_some true x e = refl
so_some false x e = e

some_so : (b : Bool) (x : Object) → b ≡ true → is_some (so b x) ≡ true
some_so true x e = refl
some_so false x e = absurd (true≢false (sym e))

none_from : {A : Type 0} (o : Option A) → is_some o ≡ false → is_none o ≡ true
none_from None e = refl
none_from (Some a) e = absurd (true≢false e)

some_from : {A : Type 0} (o : Option A) → is_none o ≡ true → is_some o ≡ false
some_from None e = refl
some_from (Some a) e = absurd (true≢false (sym e))

last_false : (a b c : Bool) → a ≡ true → b ≡ true → (a && (b && c)) ≡ false → c ≡ false
last_false true true c ea eb e = e
last_false true false c ea eb e = absurd (true≢false (sym eb))
last_false false b c ea eb e = absurd (true≢false (sym ea))

middle_false : (a b c : Bool) → a ≡ true → c ≡ true → (a && (b && c)) ≡ false → b ≡ false
middle_false true true true ea ec e = e
middle_false true true false ea ec e = absurd (true≢false (sym ec))
middle_false true false c ea ec e = refl
middle_false false b c ea ec e = absurd (true≢false (sym ea))

-- the source that is found
source_there : (o : Option Object) → is_some (option_and_then (λ x. so (is_source x) x) o) ≡ true → (y : Object) × (o ≡ Some y) × (is_source y ≡ true)
source_there None e = absurd (true≢false (sym e))
source_there (Some y) e = (y, refl, so_some (is_source y) y e)

-- what goes is a source
goes_source : (mode : Mode) (x : Object) (labels : List (List ℕ × List ℕ)) → goes_to mode x labels ≡ true → is_source x ≡ true
goes_source mode x labels e = (and_parts (is_source x) _ (and_parts _ _ e).1).0

kept_out : (p : Object → Bool) (o : Option Object) (y : Object) → option_filter p o ≡ Some y → (o ≡ Some y) × (p y ≡ true)
kept_out p None y e = absurd (true≢false (sym (ap is_some e)))
kept_out p (Some z) y e = by (p z) refl e
  where
    by : (b : Bool) → p z ≡ b → cond {A = Option Object} b (Some z) None ≡ Some y → (Some z ≡ Some y) × (p y ≡ true)
    by true is e = (e, subst (λ (o : Option Object). option_map_or p o true ≡ true) e is)
    by false is e = absurd (true≢false (sym (ap is_some e)))

-- ---- the places of a kind and a name

module _ (s : State) (x : Object) (copied : can_be_copied x.id.kind ≡ true) where
  abbrev place : List ℕ → Id
  place m = id_in x.id.kind x.id.name m

  abbrev own_mode : Mode
  own_mode = mode_of s x.id.kind

  abbrev Now : Id → Type 0
  Now id = (overwritten_by s (mode_of s id.kind) (put x s.objects) id ≡ true) × (overwritten_by s (mode_of s id.kind) s.objects id ≡ false)

  apart_place : (a : List ℕ) → bytes_eq x.id.ns a ≡ false → same_id (place a) x.id ≡ false
  apart_place a apart = false_from_ne_true (same_id (place a) x.id) (λ h.
      true≢false (sym (same_itself x.id.ns) ∙ ap (bytes_eq x.id.ns) (sym (ap (λ (q : Id). q.ns) (is_same_id (place a) x.id h))) ∙ apart))

  reached_is : (m : List ℕ) → is_reached s m x.id.kind x.id.name ≡ reaches s own_mode s.objects (place m)
  unfolding is_reached
  reached_is m = reached_any own_mode (labels_at s m) s.objects x.id.kind x.id.name (tail_of (chain_of (forest_of s) m))

  -- its own place isn't among those above it
  own_reaches : reaches s own_mode (put x s.objects) (place x.id.ns) ≡ reaches s own_mode s.objects (place x.id.ns)
  own_reaches = any_same _ _ x.id.ns (tail_of (chain_of (forest_of s) x.id.ns)) (head_out (forest_of s) x.id.ns) (λ a apart. ap (goes_from own_mode (labels_at s x.id.ns)) (other_at x s.objects (place a) (apart_place a apart)))

  own : Now x.id → (is_source x ≡ true) × (is_taken s x ≡ true)
  unfolding is_taken
  own now =
      let after = and_parts (is_open (forest_of s) x.id.ns) _ now.0 in
      let rest = and_parts (is_some (source_at (put x s.objects) x.id)) _ after.1 in
      let reach : reaches s own_mode s.objects x.id ≡ true = sym own_reaches ∙ rest.1 in
      let free = middle_false (is_open (forest_of s) x.id.ns) (is_some (source_at s.objects x.id)) (reaches s own_mode s.objects x.id) after.0 reach now.1 in (
        so_some (is_source x) x (sym (ap (λ o. is_some (option_and_then (λ y. so (is_source y) y) o)) (found_again x s.objects)) ∙ rest.0),
        and_from (is_none (source_at s.objects x.id)) _ (none_from (source_at s.objects x.id) free) (and_from (is_open (forest_of s) x.id.ns) _ after.0 (reached_is x.id.ns ∙ reach)),
      )

  own_from : is_source x ≡ true → is_taken s x ≡ true → Now x.id
  unfolding is_taken
  own_from source taken =
      let parts = and_parts (is_none (source_at s.objects x.id)) _ taken in
      let rest = and_parts (is_open (forest_of s) x.id.ns) _ parts.1 in
      let reach : reaches s own_mode s.objects x.id ≡ true = sym (reached_is x.id.ns) ∙ rest.1 in (
        and_from (is_open (forest_of s) x.id.ns) _ rest.0 (and_from (is_some (source_at (put x s.objects) x.id)) _ (ap (λ o. is_some (option_and_then (λ y. so (is_source y) y) o)) (found_again x s.objects) ∙ some_so (is_source x) x source) (own_reaches ∙ reach)),
        and_right (is_open (forest_of s) x.id.ns) _ (and_left (is_some (source_at s.objects x.id)) _ (some_from (source_at s.objects x.id) parts.0)),
      )

  -- another place: its source is the one that was there
  other_source : (m : List ℕ) → bytes_eq x.id.ns m ≡ false → source_at (put x s.objects) (place m) ≡ source_at s.objects (place m)
  other_source m apart = ap (option_and_then (λ y. so (is_source y) y)) (other_at x s.objects (place m) (apart_place m apart))

  other : (m : List ℕ) → bytes_eq x.id.ns m ≡ false → Now (place m) → (is_hit s x m ≡ true) × (is_some (source_at s.objects (place m)) ≡ true)
  unfolding is_hit
  other m apart now =
      let after = and_parts (is_open (forest_of s) m) _ now.0 in
      let rest = and_parts (is_some (source_at (put x s.objects) (place m))) _ after.1 in
      let source : is_some (source_at s.objects (place m)) ≡ true = sym (ap is_some (other_source m apart)) ∙ rest.0 in
      let none : reaches s own_mode s.objects (place m) ≡ false = last_false (is_open (forest_of s) m) (is_some (source_at s.objects (place m))) _ after.0 source now.1 in
      let above = member _ (tail_of (chain_of (forest_of s) m)) rest.1 in
      let goes = by (bytes_eq x.id.ns above.0) refl above.0 refl above.1 above.2 none in (
        and_from (not (bytes_eq m x.id.ns)) _ (not_from_false (bytes_eq m x.id.ns) (flipped m apart))
            (and_from (in_chain (forest_of s) m x.id.ns) _ (tail_chain (forest_of s) m x.id.ns goes.0)
            (and_from (is_open (forest_of s) m) _ after.0
            (and_from (goes_to own_mode x (labels_at s m)) _ goes.1 (not_from_false (is_reached s m x.id.kind x.id.name) (reached_is m ∙ none))))),
        source,
      )
    where
      flipped : (m : List ℕ) → bytes_eq x.id.ns m ≡ false → bytes_eq m x.id.ns ≡ false
      flipped m apart = false_from_ne_true (bytes_eq m x.id.ns) (λ h. true≢false (sym (same_itself x.id.ns) ∙ ap (bytes_eq x.id.ns) (sym (is_same m x.id.ns h)) ∙ apart))

      by : (b : Bool) → b ≡ b → (a : List ℕ) → bytes_eq x.id.ns a ≡ b → is_in a (tail_of (chain_of (forest_of s) m)) ≡ true → goes_from own_mode (labels_at s m) (object_at (put x s.objects) (place a)) ≡ true
          → reaches s own_mode s.objects (place m) ≡ false → (is_in x.id.ns (tail_of (chain_of (forest_of s) m)) ≡ true) × (goes_to own_mode x (labels_at s m) ≡ true)
      by true _ a e mem goes none =
          let is : a ≡ x.id.ns = sym (is_same x.id.ns a e) in (
            subst (λ (n : List ℕ). is_in n (tail_of (chain_of (forest_of s) m)) ≡ true) is mem,
            sym (ap (goes_from own_mode (labels_at s m)) (ap (λ n. object_at (put x s.objects) (place n)) is ∙ found_again x s.objects)) ∙ goes,
          )
      by false _ a e mem goes none = absurd (true≢false (sym (passes_in (λ n. goes_from own_mode (labels_at s m) (object_at s.objects (place n))) a (tail_of (chain_of (forest_of s) m)) mem
          (sym (ap (goes_from own_mode (labels_at s m)) (other_at x s.objects (place a) (apart_place a e))) ∙ goes)) ∙ none))

  other_from : (m : List ℕ) → is_hit s x m ≡ true → is_some (source_at s.objects (place m)) ≡ true → Now (place m)
  unfolding is_hit
  other_from m hit source =
      let one = and_parts (not (bytes_eq m x.id.ns)) _ hit in
      let two = and_parts (in_chain (forest_of s) m x.id.ns) _ one.1 in
      let three = and_parts (is_open (forest_of s) m) _ two.1 in
      let four = and_parts (goes_to own_mode x (labels_at s m)) _ three.1 in
      let apart : bytes_eq x.id.ns m ≡ false = false_from_ne_true (bytes_eq x.id.ns m) (λ h. true≢false (sym (same_itself m) ∙ ap (bytes_eq m) (sym (is_same x.id.ns m h)) ∙ not-true (bytes_eq m x.id.ns) one.0)) in
      let none : reaches s own_mode s.objects (place m) ≡ false = sym (reached_is m) ∙ not-true _ four.1 in
      let reach : reaches s own_mode (put x s.objects) (place m) ≡ true = passes_in (λ n. goes_from own_mode (labels_at s m) (object_at (put x s.objects) (place n))) x.id.ns (tail_of (chain_of (forest_of s) m)) (tail_in (forest_of s) m x.id.ns apart two.0)
      (ap (goes_from own_mode (labels_at s m)) (found_again x s.objects) ∙ four.0) in (
        and_from (is_open (forest_of s) m) _ three.0 (and_from (is_some (source_at (put x s.objects) (place m))) _ (ap is_some (other_source m apart) ∙ source) reach),
        and_right (is_open (forest_of s) m) _ (and_right (is_some (source_at s.objects (place m))) _ none),
      )

  -- identities of another kind or name
  abbrev is_named : Id → Bool
  is_named id = eqb (number_of id.kind) (number_of x.id.kind) && bytes_eq id.name x.id.name

  not_named : (id : Id) (a : List ℕ) → is_named id ≡ false → same_id (id_in id.kind id.name a) x.id ≡ false
  not_named id a out = false_from_ne_true (same_id (id_in id.kind id.name a) x.id) (λ h.
      let is = is_same_id (id_in id.kind id.name a) x.id h in
      true≢false (sym (and_from (eqb (number_of id.kind) (number_of x.id.kind)) _ (eq-eqb _ _ (ap (λ (q : Id). number_of q.kind) is)) (ap (λ (q : Id). bytes_eq id.name q.name) (sym is) ∙ same_itself id.name)) ∙ out))

  stays : (id : Id) → is_named id ≡ false → overwritten_by s (mode_of s id.kind) (put x s.objects) id ≡ overwritten_by s (mode_of s id.kind) s.objects id
  stays id out = λ i. is_open (forest_of s) id.ns && (is_some (option_and_then (λ y. so (is_source y) y) (other_at x s.objects id (not_named id id.ns out) i))
      && list_any (λ a. goes_from (mode_of s id.kind) (labels_at s id.ns) (other_at x s.objects (id_in id.kind id.name a) (not_named id a out) i)) (tail_of (chain_of (forest_of s) id.ns)))

  placed_id : (id : Id) → is_named id ≡ true → id ≡ place id.ns
  placed_id id is =
      let parts = and_parts (eqb (number_of id.kind) (number_of x.id.kind)) _ is in
      let kind = same_kind id.kind x.id.kind (eqb-true _ _ parts.0) in
      let name = is_same id.name x.id.name parts.1 in
      λ i. record { kind = kind i; ns = id.ns; name = name i }

  -- ---- the two ways

  hits_from : (m : List ℕ) → ascends s.objects ≡ true → is_hit s x m ≡ true → is_some (source_at s.objects (place m)) ≡ true → hits s x ≡ true
  unfolding hits
  hits_from m order hit source =
      let found = source_there (object_at s.objects (place m)) source in
      let is = found_id s.objects (place m) found.0 found.1 in
      let test : is_source_of x.id.kind x.id.name found.0 ≡ true = and_from (eqb (number_of x.id.kind) (number_of found.0.id.kind) && bytes_eq found.0.id.name x.id.name) _
      (and_from (eqb (number_of x.id.kind) (number_of found.0.id.kind)) _ (eq-eqb _ _ (ap (λ (q : Id). number_of q.kind) is)) (ap (λ (q : Id). bytes_eq q.name x.id.name) (sym is) ∙ same_itself x.id.name)) found.2 in
      any_found (λ id. is_hit s x id.ns) (filter (is_source_of x.id.kind x.id.name) s.objects) (place m) found.0
      (object_at-filter (is_source_of x.id.kind x.id.name) s.objects (place m) order ∙ ap (option_filter (is_source_of x.id.kind x.id.name)) found.1 ∙ ap (λ b. cond {A = Option Object} b (Some found.0) None) test) hit

  hits_at : ascends s.objects ≡ true → hits s x ≡ true → (m : List ℕ) × (is_hit s x m ≡ true) × (is_some (source_at s.objects (place m)) ≡ true)
  unfolding hits
  hits_at order h =
      let found = found_any (λ id. is_hit s x id.ns) (filter (is_source_of x.id.kind x.id.name) s.objects) h in
      let kept = kept_out (is_source_of x.id.kind x.id.name) (object_at s.objects found.0) found.1 (sym (object_at-filter (is_source_of x.id.kind x.id.name) s.objects found.0 order) ∙ found.2) in
      let is = found_id s.objects found.0 found.1 kept.0 in
      let tests = and_parts (eqb (number_of x.id.kind) (number_of found.1.id.kind) && bytes_eq found.1.id.name x.id.name) (is_source found.1) kept.1 in
      let names = and_parts (eqb (number_of x.id.kind) (number_of found.1.id.kind)) (bytes_eq found.1.id.name x.id.name) tests.0 in
      let kind : x.id.kind ≡ found.0.kind = same_kind x.id.kind found.1.id.kind (eqb-true _ _ names.0) ∙ ap (λ (q : Id). q.kind) (sym is) in
      let name : x.id.name ≡ found.0.name = sym (is_same found.1.id.name x.id.name names.1) ∙ ap (λ (q : Id). q.name) (sym is) in
      let at : object_at s.objects (place found.0.ns) ≡ Some found.1 = (λ i. object_at s.objects (record { kind = kind i; ns = found.0.ns; name = name i })) ∙ kept.0 in
      (found.0.ns, found.3, ap (λ o. is_some (option_and_then (λ y. so (is_source y) y) o)) at ∙ some_so (is_source found.1) found.1 tests.1)

  hit_source : (m : List ℕ) → is_hit s x m ≡ true → is_source x ≡ true
  unfolding is_hit
  hit_source m hit = goes_source own_mode x (labels_at s m) (and_parts (goes_to own_mode x (labels_at s m)) (not (is_reached s m x.id.kind x.id.name))
      (and_parts (is_open (forest_of s) m) _ (and_parts (in_chain (forest_of s) m x.id.ns) _ (and_parts (not (bytes_eq m x.id.ns)) _ hit).1).1).1).0

  abbrev found : Bool
  found = is_source x && (is_taken s x || hits s x)

  at_place : (m : List ℕ) → ascends s.objects ≡ true → Now (place m) → found ≡ true
  at_place m order now = by (bytes_eq x.id.ns m) refl
    where
      by : (b : Bool) → bytes_eq x.id.ns m ≡ b → found ≡ true
      by true e = let here = own (subst (λ (n : List ℕ). Now (place n)) (sym (is_same x.id.ns m e)) now) in and_from (is_source x) _ here.0 (or_left (is_taken s x) (hits s x) here.1)
      by false e = let there = other m e now in and_from (is_source x) _ (hit_source m there.0) (or_right (is_taken s x) (hits s x) (hits_from m order there.0 there.1))

  -- what makes a conflict is a source
  forth_source : makes_conflict s (with_object s x) ≡ true → is_source x ≡ true
  forth_source h =
      let new = conflict_found s (with_object s x) h in
      by new.0 (sym (overwritten_put s x new.0 copied) ∙ new.1, sym (overwritten_now s new.0) ∙ new.2) (is_named new.0) refl
    where
      at : (m : List ℕ) → Now (place m) → (b : Bool) → bytes_eq x.id.ns m ≡ b → is_source x ≡ true
      at m now true e = (own (subst (λ (n : List ℕ). Now (place n)) (sym (is_same x.id.ns m e)) now)).0
      at m now false e = hit_source m (other m e now).0

      by : (id : Id) → Now id → (b : Bool) → is_named id ≡ b → is_source x ≡ true
      by id now true e = at id.ns (subst Now (placed_id id e) now) (bytes_eq x.id.ns id.ns) refl
      by id now false e = absurd (true≢false (sym now.0 ∙ stays id e ∙ now.1))

  forth : ascends s.objects ≡ true → makes_conflict s (with_object s x) ≡ true → found ≡ true
  forth order h =
      let new = conflict_found s (with_object s x) h in
      by new.0 (sym (overwritten_put s x new.0 copied) ∙ new.1, sym (overwritten_now s new.0) ∙ new.2) (is_named new.0) refl
    where
      by : (id : Id) → Now id → (b : Bool) → is_named id ≡ b → found ≡ true
      by id now true e = at_place id.ns order (subst Now (placed_id id e) now)
      by id now false e = absurd (true≢false (sym now.0 ∙ stays id e ∙ now.1))

  makes : (id : Id) → Now id → makes_conflict s (with_object s x) ≡ true
  makes id now = conflict_of s (with_object s x) id (overwritten_put s x id copied ∙ now.0) (overwritten_now s id ∙ now.1)

  back : ascends s.objects ≡ true → found ≡ true → makes_conflict s (with_object s x) ≡ true
  back order h =
      let parts = and_parts (is_source x) (is_taken s x || hits s x) h in
      by parts.0 (or_cases (is_taken s x) (hits s x) parts.1)
    where
      by : is_source x ≡ true → (is_taken s x ≡ true) ⊎ (hits s x ≡ true) → makes_conflict s (with_object s x) ≡ true
      by source (inl taken) = makes x.id (own_from source taken)
      by source (inr hit) = let at = hits_at order hit in makes (place at.0) (other_from at.0 at.1 at.2)

-- the write of a source makes a conflict in its own place, or where it goes to sources of its kind and name
pub conflict_put : (s : State) (x : Object) → can_be_copied x.id.kind ≡ true → ascends s.objects ≡ true → makes_conflict s (with_object s x) ≡ (is_source x && (is_taken s x || hits s x))
conflict_put s x copied order = both (makes_conflict s (with_object s x)) (is_source x && (is_taken s x || hits s x)) (forth s x copied order) (back s x copied order)

-- a copy makes none
pub no_conflict : (s : State) (x : Object) → can_be_copied x.id.kind ≡ true → is_source x ≡ false → false ≡ makes_conflict s (with_object s x)
no_conflict s x copied out = sym (false_from_ne_true (makes_conflict s (with_object s x)) (λ h. true≢false (sym (forth_source s x copied h) ∙ out)))

pub conflict_taken : (s : State) (x : Object) → can_be_copied x.id.kind ≡ true → ascends s.objects ≡ true → is_source x ≡ true → is_taken s x ≡ true → true ≡ makes_conflict s (with_object s x)
conflict_taken s x copied order source taken = sym (conflict_put s x copied order ∙ and_from (is_source x) _ source (or_left (is_taken s x) (hits s x) taken))

pub conflict_hits : (s : State) (x : Object) → can_be_copied x.id.kind ≡ true → ascends s.objects ≡ true → is_source x ≡ true → is_taken s x ≡ false → hits s x ≡ makes_conflict s (with_object s x)
conflict_hits s x copied order source taken = sym (conflict_put s x copied order ∙ (λ i. source i && (taken i || hits s x)))

-- ---- where a source goes as before

same_name_exact : (a b : Option (List ℕ)) → same_name a b ≡ true → a ≡ b
same_name_exact None None e = refl
same_name_exact None (Some m) e = absurd (true≢false (sym e))
same_name_exact (Some n) None e = absurd (true≢false (sym e))
same_name_exact (Some n) (Some m) e = ap Some (is_same n m e)

-- exceptions that are the same let a source go to the same labels
goes_alike : (mode : Mode) (old x : Object) (labels : List (List ℕ × List ℕ)) → is_alike old x ≡ true → goes_to mode x labels ≡ true → goes_to mode old labels ≡ true
goes_alike mode old x labels alike goes =
    let one = and_parts (is_source old) _ alike in
    let two = and_parts (not (stays_home old)) _ one.1 in
    let three = and_parts (same_name (select_of old) (select_of x)) _ two.1 in
    let four = and_parts (same_name (tree_select_in old) (tree_select_in x)) _ three.1 in
    let select = same_name_exact (select_of old) (select_of x) three.0 in
    let tree = same_name_exact (tree_select_in old) (tree_select_in x) four.0 in
    let none = same_name_exact (none_of old) (none_of x) four.1 in
    let parts = and_parts (is_propagated mode) _ goes in
    let allowed : is_allowed x labels ≡ true = (and_parts (not (stays_home x)) _ (and_parts (is_source x) _ parts.1).1).1 in
    let same : is_allowed old labels ≡ is_allowed x labels = λ i. passes (λ text. select_allows labels (selector_of text)) (select i) && (passes (λ text. tree_select_allows labels (tree_select_of text)) (tree i) && passes is_false (none i)) in
    and_from (is_propagated mode) _ parts.0 (and_from (is_source old) _ one.0 (and_from (not (stays_home old)) _ two.0 (same ∙ allowed)))

-- where the source that it replaces went to the same labels, it goes nowhere anew
no_hit : (s : State) (x old : Object) (m : List ℕ) → object_at s.objects x.id ≡ Some old → is_alike old x ≡ true → is_hit s x m ≡ true → ⊥
unfolding is_hit is_reached
no_hit s x old m there alike hit =
    let one = and_parts (not (bytes_eq m x.id.ns)) _ hit in
    let two = and_parts (in_chain (forest_of s) m x.id.ns) _ one.1 in
    let three = and_parts (is_open (forest_of s) m) _ two.1 in
    let four = and_parts (goes_to (mode_of s x.id.kind) x (labels_at s m)) _ three.1 in
    let apart : bytes_eq x.id.ns m ≡ false = false_from_ne_true (bytes_eq x.id.ns m) (λ h. true≢false (sym (same_itself m) ∙ ap (bytes_eq m) (sym (is_same x.id.ns m h)) ∙ not-true (bytes_eq m x.id.ns) one.0)) in
    let goes : goes_from (mode_of s x.id.kind) (labels_at s m) (object_at s.objects x.id) ≡ true = ap (goes_from (mode_of s x.id.kind) (labels_at s m)) there ∙ goes_alike (mode_of s x.id.kind) old x (labels_at s m) alike four.0 in
    let reached = reached_any (mode_of s x.id.kind) (labels_at s m) s.objects x.id.kind x.id.name (tail_of (chain_of (forest_of s) m))
    ∙ passes_in (λ n. goes_from (mode_of s x.id.kind) (labels_at s m) (object_at s.objects (id_in x.id.kind x.id.name n))) x.id.ns (tail_of (chain_of (forest_of s) m)) (tail_in (forest_of s) m x.id.ns apart two.0) goes in
    true≢false (sym reached ∙ not-true _ four.1)

none_passes : (P : Object → Bool) (ys : List Object) → ((y : Object) → P y ≡ false) → list_any P ys ≡ false
none_passes P [] none = refl
none_passes P (y ∷ ys) none = ap (λ b. b || list_any P ys) (none y) ∙ none_passes P ys none

hits_none : (s : State) (x : Object) → ((m : List ℕ) → is_hit s x m ≡ true → ⊥) → hits s x ≡ false
unfolding hits
hits_none s x none = none_passes (λ y. is_hit s x y.id.ns) (filter (is_source_of x.id.kind x.id.name) s.objects) (λ y. false_from_ne_true (is_hit s x y.id.ns) (none y.id.ns))

pub conflict_alike : (s : State) (x : Object) (found : Option Object) → can_be_copied x.id.kind ≡ true → ascends s.objects ≡ true → is_source x ≡ true → is_taken s x ≡ false → object_at s.objects x.id ≡ found → goes_as_before found x ≡ true
    → false ≡ makes_conflict s (with_object s x)
conflict_alike s x None copied order source taken there alike = absurd (true≢false (sym alike))
conflict_alike s x (Some old) copied order source taken there alike = sym (hits_none s x (λ m. no_hit s x old m there alike)) ∙ conflict_hits s x copied order source taken

-- ---- what goes nowhere

goes_nowhere : (mode : Mode) (x : Object) (labels : List (List ℕ × List ℕ)) → stays_home x ≡ true → goes_to mode x labels ≡ true → ⊥
goes_nowhere mode x labels home goes = true≢false (sym home ∙ not-true (stays_home x) (and_parts (not (stays_home x)) _ (and_parts (is_source x) _ (and_parts (is_propagated mode) _ goes).1).1).0)

hit_goes : (s : State) (x : Object) (m : List ℕ) → is_hit s x m ≡ true → goes_to (mode_of s x.id.kind) x (labels_at s m) ≡ true
unfolding is_hit
hit_goes s x m hit = (and_parts (goes_to (mode_of s x.id.kind) x (labels_at s m)) _ (and_parts (is_open (forest_of s) m) _ (and_parts (in_chain (forest_of s) m x.id.ns) _ (and_parts (not (bytes_eq m x.id.ns)) _ hit).1).1).1).0

pub home_hits : (s : State) (x : Object) → stays_home x ≡ true → false ≡ hits s x
home_hits s x home = sym (hits_none s x (λ m hit. goes_nowhere (mode_of s x.id.kind) x (labels_at s m) home (hit_goes s x m hit)))

pub mode_hits : (s : State) (x : Object) (mode : Mode) → mode ≡ mode_of s x.id.kind → is_propagated mode ≡ false → false ≡ hits s x
mode_hits s x mode is out = sym (hits_none s x (λ m hit. true≢false (sym (and_parts (is_propagated (mode_of s x.id.kind)) _ (hit_goes s x m hit)).0 ∙ ap is_propagated (sym is) ∙ out)))

-- ---- a place that is reached

no_name : (P : List ℕ → Bool) (names : List (List ℕ)) → ((a : List ℕ) → P a ≡ false) → list_any P names ≡ false
no_name P [] none = refl
no_name P (a ∷ names) none = ap (λ b. b || list_any P names) (none a) ∙ no_name P names none

pub reached_down : (s : State) (ns : List ℕ) (kind : Kind) (name : List ℕ) (mode : Mode) → mode ≡ mode_of s kind → list_any (goes_down s mode ns kind name) (tail_of (chain_of (forest_of s) ns)) ≡ is_reached s ns kind name
unfolding is_reached goes_down
reached_down s ns kind name mode is = ap (λ m. list_any (λ a. goes_from m (labels_at s ns) (object_at s.objects (id_in kind name a))) (tail_of (chain_of (forest_of s) ns))) is ∙ sym (reached_any (mode_of s kind) (labels_at s ns) s.objects kind name (tail_of (chain_of (forest_of s) ns)))

pub unreached : (s : State) (ns : List ℕ) (kind : Kind) (name : List ℕ) (mode : Mode) → mode ≡ mode_of s kind → is_propagated mode ≡ false → false ≡ is_reached s ns kind name
unfolding goes_down
unreached s ns kind name mode is out = sym (no_name (goes_down s mode ns kind name) (tail_of (chain_of (forest_of s) ns)) (λ a. by (object_at s.objects (id_in kind name a)))) ∙ reached_down s ns kind name mode is
  where
    by : (found : Option Object) → goes_from mode (labels_at s ns) found ≡ false
    by None = refl
    by (Some x) = unpropagated mode x (labels_at s ns) out

-- ---- a name that no source has in another namespace

-- what fails under each other name passes nowhere among those
pub none_later : (P : List ℕ → Bool) (n : List ℕ) (names : List (List ℕ)) → is_in n names ≡ false → ((a : List ℕ) → bytes_eq n a ≡ false → P a ≡ false) → list_any P names ≡ false
none_later P n names out none = any_same P (λ a. false) n names out none ∙ no_name (λ a. false) names (λ a. refl)

-- what goes somewhere is a source
pub goes_none : (mode : Mode) (labels : List (List ℕ × List ℕ)) (found : Option Object) → indexed_in found ≡ None → goes_from mode labels found ≡ false
goes_none mode labels None none = refl
goes_none mode labels (Some x) none = false_from_ne_true (goes_to mode x labels) (λ goes.
    let kept : indexed_in (Some x) ≡ Some x = ap (λ b. cond {A = Option Object} b (Some x) None) (or_left (is_source x) (is_anchor x.id.kind) (goes_source mode x labels goes)) in
    true≢false (ap is_some (sym kept ∙ none)))

pub reached_none : (s : State) (ns : List ℕ) (kind : Kind) (name : List ℕ) → HasNoneBeside s.objects kind name ns → is_reached s ns kind name ≡ false
unfolding goes_down
reached_none s ns kind name none =
    sym (reached_down s ns kind name (mode_of s kind) refl)
    ∙ none_later (goes_down s (mode_of s kind) ns kind name) ns (tail_of (chain_of (forest_of s) ns)) (head_out (forest_of s) ns)
    (λ a apart. goes_none (mode_of s kind) (labels_at s ns) (object_at s.objects (id_in kind name a)) (none a apart))

-- ---- what is there

pub taken_unreached : (s : State) (x : Object) → is_reached s x.id.ns x.id.kind x.id.name ≡ false → false ≡ is_taken s x
unfolding is_taken
taken_unreached s x out = sym (and_right (is_none (source_at s.objects x.id)) _ (and_right (is_open (forest_of s) x.id.ns) _ out))

pub taken_found : (s : State) (x : Object) (found : Option Object) → object_at s.objects x.id ≡ found → is_source_in found ≡ true → false ≡ is_taken s x
unfolding is_taken
taken_found s x found there is = sym (and_left (is_none (source_at s.objects x.id)) _ (ap (λ o. is_none (option_and_then (λ y. so (is_source y) y) o)) there ∙ by found is))
  where
    by : (found : Option Object) → is_source_in found ≡ true → is_none (option_and_then (λ y. so (is_source y) y) found) ≡ false
    by None is = absurd (true≢false (sym is))
    by (Some y) is = ap (λ b. is_none (so b y)) is

pub taken_closed : (s : State) (x : Object) → is_open (forest_of s) x.id.ns ≡ false → false ≡ is_taken s x
unfolding is_taken
taken_closed s x closed = sym (and_right (is_none (source_at s.objects x.id)) _ (and_left (is_open (forest_of s) x.id.ns) _ closed))

pub taken_reached : (s : State) (x : Object) (found : Option Object) → object_at s.objects x.id ≡ found → is_source_in found ≡ false → is_open (forest_of s) x.id.ns ≡ true → is_reached s x.id.ns x.id.kind x.id.name ≡ is_taken s x
unfolding is_taken
taken_reached s x found there out takes_part = sym ((λ i. free i && (takes_part i && is_reached s x.id.ns x.id.kind x.id.name)))
  where
    by : (found : Option Object) → is_source_in found ≡ false → is_none (option_and_then (λ y. so (is_source y) y) found) ≡ true
    by None out = refl
    by (Some y) out = ap (λ b. is_none (so b y)) out

    free : is_none (source_at s.objects x.id) ≡ true
    free = ap (λ o. is_none (option_and_then (λ y. so (is_source y) y) o)) there ∙ by found out

-- ---- a member of a chain

pub down_found : (s : State) (mode : Mode) (ns : List ℕ) (kind : Kind) (name a : List ℕ) (x : Object) (r : Result Bool NoMemory) → object_at s.objects (id_in kind name a) ≡ Some x → IfOk r (λ goes. goes ≡ goes_to mode x (labels_at s ns)) → IfOk r (λ goes. goes ≡ goes_down s mode ns kind name a)
unfolding goes_down
down_found s mode ns kind name a x r at goes = subst (λ (o : Option Object). IfOk r (λ goes. goes ≡ option_map_or (λ y. goes_to mode y (labels_at s ns)) o false)) (sym at) goes

pub down_none : (s : State) (mode : Mode) (ns : List ℕ) (kind : Kind) (name a : List ℕ) → object_at s.objects (id_in kind name a) ≡ None → false ≡ goes_down s mode ns kind name a
unfolding goes_down
down_none s mode ns kind name a at = sym (ap (λ (o : Option Object). option_map_or (λ y. goes_to mode y (labels_at s ns)) o false) at)

-- ---- a place below

pub hit_itself : (s : State) (x : Object) (m : List ℕ) → bytes_eq m x.id.ns ≡ true → false ≡ is_hit s x m
unfolding is_hit
hit_itself s x m e = sym (and_left (not (bytes_eq m x.id.ns)) _ (ap not e))

pub hit_beside : (s : State) (x : Object) (m : List ℕ) → in_chain (forest_of s) m x.id.ns ≡ false → false ≡ is_hit s x m
unfolding is_hit
hit_beside s x m e = sym (and_right (not (bytes_eq m x.id.ns)) _ (and_left (in_chain (forest_of s) m x.id.ns) _ e))

pub hit_closed : (s : State) (x : Object) (m : List ℕ) → is_open (forest_of s) m ≡ false → false ≡ is_hit s x m
unfolding is_hit
hit_closed s x m e = sym (and_right (not (bytes_eq m x.id.ns)) _ (and_right (in_chain (forest_of s) m x.id.ns) _ (and_left (is_open (forest_of s) m) _ e)))

pub hit_missed : (s : State) (x : Object) (m : List ℕ) (mode : Mode) → mode ≡ mode_of s x.id.kind → goes_to mode x (labels_at s m) ≡ false → false ≡ is_hit s x m
unfolding is_hit
hit_missed s x m mode is e = sym (and_right (not (bytes_eq m x.id.ns)) _ (and_right (in_chain (forest_of s) m x.id.ns) _ (and_right (is_open (forest_of s) m) _ (and_left (goes_to (mode_of s x.id.kind) x (labels_at s m)) _ (ap (λ k. goes_to k x (labels_at s m)) (sym is) ∙ e)))))

pub hit_anew : (s : State) (x : Object) (m : List ℕ) (mode : Mode) → bytes_eq m x.id.ns ≡ false → in_chain (forest_of s) m x.id.ns ≡ true → is_open (forest_of s) m ≡ true → mode ≡ mode_of s x.id.kind → goes_to mode x (labels_at s m) ≡ true
    → not (is_reached s m x.id.kind x.id.name) ≡ is_hit s x m
unfolding is_hit
hit_anew s x m mode other below takes_part is goes =
    sym (λ i. not (other i) && (below i && (takes_part i && ((ap (λ k. goes_to k x (labels_at s m)) (sym is) ∙ goes) i && not (is_reached s m x.id.kind x.id.name)))))

-- ---- a source that was read before

-- a name that doesn't pass may be left out
any_but : (P : List ℕ → Bool) (n : List ℕ) (names : List (List ℕ)) → P n ≡ false → list_any (λ a. not (bytes_eq a n) && P a) names ≡ list_any P names
any_but P n [] out = refl
any_but P n (a ∷ names) out = λ i. by (bytes_eq a n) refl i || any_but P n names out i
  where
    by : (b : Bool) → bytes_eq a n ≡ b → (not b && P a) ≡ P a
    by true e = sym (ap P (is_same a n e) ∙ out)
    by false e = refl

propagates : (mode : Mode) → is_propagated mode ≡ true → mode ≡ Propagate
propagates Propagate e = refl
propagates _ e = absurd (true≢false (sym e))

-- where the source in one namespace doesn't go there, the others tell
pub reached_beside : (s : State) (x : Object) (m : List ℕ) (before : Reach) → IsReachOf before (object_at s.objects x.id) → is_propagated (mode_of s x.id.kind) ≡ true → reach_has before (labels_at s m) ≡ false
    → list_any (goes_beside s x.id.ns m x.id.kind x.id.name) (tail_of (chain_of (forest_of s) m)) ≡ is_reached s m x.id.kind x.id.name
unfolding goes_beside goes_down
reached_beside s x m before read spreads out =
    any_but (goes_down s Propagate m x.id.kind x.id.name) x.id.ns (tail_of (chain_of (forest_of s) m)) (sym (read (labels_at s m)) ∙ out)
    ∙ reached_down s m x.id.kind x.id.name Propagate (sym (propagates (mode_of s x.id.kind) spreads))

-- a source goes to no place anew where the one that it replaces went
pub hit_before : (s : State) (x : Object) (m : List ℕ) (before : Reach) → IsReachOf before (object_at s.objects x.id) → is_propagated (mode_of s x.id.kind) ≡ true → bytes_eq m x.id.ns ≡ false → in_chain (forest_of s) m x.id.ns ≡ true → reach_has before (labels_at s m) ≡ true
    → false ≡ is_hit s x m
unfolding is_hit goes_down
hit_before s x m before read spreads other below went =
    let apart : bytes_eq x.id.ns m ≡ false = false_from_ne_true (bytes_eq x.id.ns m) (λ h. true≢false (sym (same_itself m) ∙ ap (bytes_eq m) (sym (is_same x.id.ns m h)) ∙ other)) in
    let reached : is_reached s m x.id.kind x.id.name ≡ true =
    sym (reached_down s m x.id.kind x.id.name Propagate (sym (propagates (mode_of s x.id.kind) spreads)))
    ∙ passes_in (goes_down s Propagate m x.id.kind x.id.name) x.id.ns (tail_of (chain_of (forest_of s) m)) (tail_in (forest_of s) m x.id.ns apart below) (sym (read (labels_at s m)) ∙ went) in
    sym (and_right (not (bytes_eq m x.id.ns)) _ (and_right (in_chain (forest_of s) m x.id.ns) _ (and_right (is_open (forest_of s) m) _ (and_right (goes_to (mode_of s x.id.kind) x (labels_at s m)) _ (ap not reached)))))

-- what was read of a source tells where it goes
pub read_goes : (s : State) (x : Object) (m : List ℕ) (after : Reach) (b : Bool) → IsReachOf after (Some x) → is_propagated (mode_of s x.id.kind) ≡ true → reach_has after (labels_at s m) ≡ b → goes_to (mode_of s x.id.kind) x (labels_at s m) ≡ b
read_goes s x m after b read spreads is = ap (λ mode. goes_to mode x (labels_at s m)) (propagates (mode_of s x.id.kind) spreads) ∙ sym (read (labels_at s m)) ∙ is

pub beside_home : (s : State) (home ns : List ℕ) (kind : Kind) (name a : List ℕ) → bytes_eq a home ≡ true → false ≡ goes_beside s home ns kind name a
unfolding goes_beside
beside_home s home ns kind name a e = sym (and_left (not (bytes_eq a home)) _ (ap not e))

pub beside_other : (s : State) (home ns : List ℕ) (kind : Kind) (name a : List ℕ) → bytes_eq a home ≡ false → goes_down s Propagate ns kind name a ≡ goes_beside s home ns kind name a
unfolding goes_beside
beside_other s home ns kind name a e = sym (ap (λ b. not b && goes_down s Propagate ns kind name a) e)

pub hits_is : (s : State) (x : Object) → list_any (λ (y : Object). is_hit s x y.id.ns) (filter (is_source_of x.id.kind x.id.name) s.objects) ≡ hits s x
unfolding hits
hits_is s x = refl

-- the members behind the first one
pub stepped : {A : Type 0} (view : A → List ℕ) (s t : List (List ℕ)) (r : Option A) → MatchOption r ((s ≡ []) × (t ≡ [])) (λ x. s ≡ view x ∷ t) → t ≡ tail_of s
stepped view s t None (e, f) = f ∙ sym (ap tail_of e)
stepped view s t (Some x) e = sym (ap tail_of e)
