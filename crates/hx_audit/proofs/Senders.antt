-- Of the namespaces above only those count that have sources of a kind.
--     along_senders    they have the sources that all have
--     kind_active      a kind of which an object is found, and that isn't ignored
use Rattle.std.proofs.Common.{◌≡◌, ℕ, suc, Bool, true, false, cond, not, ◌&&◌, ◌==◌, Option, Some, None, List, [], ◌∷◌, ◌++◌, filter, length, refl, sym, ap, ◌∙◌, subst, true≢false, eq-eqb, arith}
use Rattle.std.specs.Prelude.{option_and_then}
use Rattle.std.specs.List.{list_any}
use Rattle.std.specs.Str.{bytes_eq}
use Rattle.std.proofs.lemmas.Bool.{and_from, ne_eqb}
use Rattle.hx_audit.specs.Candidates.{has_sources, is_active, is_ignored, listed_in, senders}
use Rattle.hx_model.proofs.Climbing.{same_itself}
use Rattle.hx_model.proofs.Objects.{found_id}
use Rattle.hx_model.proofs.Passing.{any_filter, passing_object}
use Rattle.hx_model.specs.Answers.{is_listed}
use Rattle.hx_model.specs.First.{so}
use Rattle.hx_model.specs.Moves.{mode_at}
use Rattle.hx_model.specs.Propagation.{as_list, id_in, is_source, source_at, sources_along}
use Rattle.hx_model.specs.State.{Objects, object_at}
use Rattle.hx_object.specs.Kinds.{number_of}
use Rattle.hx_object.specs.declared.kind.Kind.{Kind}
use Rattle.hx_object.specs.declared.object.Id.{Id}
use Rattle.hx_object.specs.declared.object.Object.{Object}

-- what is found in a namespace is listed there
pub there_listed : (t : Object → Bool) (objects : Objects) (kind : Kind) (n name : List ℕ) (x : Object) → object_at objects (id_in kind name n) ≡ Some x → t x ≡ true → list_any t (listed_in objects kind n) ≡ true
there_listed t objects kind n name x at h =
    let is : id_in kind name n ≡ x.id = found_id objects (id_in kind name n) x at in
    let there : is_listed kind (Some n) x ≡ true =
    subst (λ (q : Id). ((number_of kind == number_of q.kind) && bytes_eq q.ns n) ≡ true) is (and_from (number_of kind == number_of kind) (bytes_eq n n) (eq-eqb (number_of kind) (number_of kind) refl) (same_itself n)) in
    any_filter t (is_listed kind (Some n)) objects ∙ passing_object (λ y. is_listed kind (Some n) y && t y) objects (id_in kind name n) x at (and_from (is_listed kind (Some n) x) (t x) there h)

-- ---- senders

module _ (objects : Objects) (kind : Kind) where
  pub source_sends : (a name : List ℕ) (t : Object) → object_at objects (id_in kind name a) ≡ Some t → is_source t ≡ true → has_sources objects kind a ≡ true
  source_sends a name t at source = there_listed is_source objects kind a name t at source

  no_source : (a name : List ℕ) → has_sources objects kind a ≡ false → source_at objects (id_in kind name a) ≡ None
  no_source a name none = by (object_at objects (id_in kind name a)) refl
    where
      of : (x : Object) (b : Bool) → object_at objects (id_in kind name a) ≡ Some x → is_source x ≡ b → so b x ≡ None
      of x true at is = absurd (true≢false (sym (source_sends a name x at is) ∙ none))
      of x false at is = refl

      by : (o : Option Object) → object_at objects (id_in kind name a) ≡ o → option_and_then (λ x. so (is_source x) x) o ≡ None
      by None at = refl
      by (Some x) at = of x (is_source x) at refl

  pub along_senders : (name : List ℕ) (above : List (List ℕ)) → sources_along objects kind name (senders objects kind above) ≡ sources_along objects kind name above
  along_senders name [] = refl
  along_senders name (a ∷ above) = by (has_sources objects kind a) refl (along_senders name above)
    where
      by : (b : Bool) → has_sources objects kind a ≡ b → sources_along objects kind name (senders objects kind above) ≡ sources_along objects kind name above
          → sources_along objects kind name (cond b (a ∷ senders objects kind above) (senders objects kind above)) ≡ sources_along objects kind name above ++ as_list (source_at objects (id_in kind name a))
      by true is rest = ap (λ xs. xs ++ as_list (source_at objects (id_in kind name a))) rest
      by false is rest = rest ∙ sym (append_none (sources_along objects kind name above)) ∙ ap (λ o. sources_along objects kind name above ++ as_list o) (sym (no_source a name is))
        where
          append_none : (xs : List Object) → xs ++ as_list None ≡ xs
          append_none [] = refl
          append_none (x ∷ xs) = ap (λ ys. x ∷ ys) (append_none xs)

-- ---- kinds

some_there : (xs : List Object) → list_any (λ x. true) xs ≡ true → not (length xs == 0) ≡ true
some_there [] h = absurd (true≢false (sym h))
some_there (x ∷ xs) h = ap not (some (length xs))
  where
    some : (m : ℕ) → (suc m == 0) ≡ false
    some m = ne_eqb (suc m) 0 (λ e. omega (arith, e))

pub kind_active : (objects : Objects) (kind : Kind) (n name : List ℕ) (x : Object) → is_ignored (mode_at objects kind) ≡ false → object_at objects (id_in kind name n) ≡ Some x → is_active objects kind ≡ true
kind_active objects kind n name x counts at =
    let listed : is_listed kind None x ≡ true =
    subst (λ (q : Id). ((number_of kind == number_of q.kind) && true) ≡ true) (found_id objects (id_in kind name n) x at) (and_from (number_of kind == number_of kind) true (eq-eqb (number_of kind) (number_of kind) refl) refl) in
    and_from (not (is_ignored (mode_at objects kind))) (not (length (filter (is_listed kind None) objects) == 0)) (ap not counts)
    (some_there (filter (is_listed kind None) objects) (any_filter (λ y. true) (is_listed kind None) objects ∙ passing_object (λ y. is_listed kind None y && true) objects (id_in kind name n) x at (and_from (is_listed kind None x) true listed refl)))
