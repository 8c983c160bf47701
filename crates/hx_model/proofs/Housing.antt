-- In a state that is valid objects lie in namespaces that are there.
--     home_there       a namespace in which an object lies is there, but for the empty name
--     no_empty_name    which no namespace has
--     gives_no_home    so between states that are valid none comes in which objects lay
use Rattle.std.proofs.Common.{◌≡◌, ◌⊎◌, ℕ, Bool, true, false, not, ◌&&◌, ◌||◌, Option, Some, None, List, [], ◌∷◌, inl, inr, refl, sym, ap, ◌∙◌, subst, true≢false, option_and_then}
use Rattle.std.specs.Prelude.{is_some, if◌then◌else◌}
use Rattle.std.specs.List.{AllByRecursion}
use Rattle.std.specs.Str.{bytes_eq}
use Rattle.std.proofs.lemmas.Bool.{and_parts, false_from_ne_true, not-true}
use Rattle.hx_object.specs.Faults.{object_fault, has_legal_names, has_legal_namespace}
use Rattle.hx_object.specs.Kinds.{is_in_cluster}
use Rattle.hx_object.specs.Names.{is_name_of, is_dns_label}
use Rattle.hx_object.specs.declared.object.Id.{Id}
use Rattle.hx_object.specs.declared.object.Object.{Object}
use Rattle.hx_object.specs.declared.object.ObjectFault.{ObjectFault}
use Rattle.hx_object.specs.declared.object.ObjectFault.TheVariants.{BadName}
use Rattle.hx_model.specs.Forest.{Forest, names_of, is_there, in_chain}
use Rattle.hx_model.specs.Serving.{IsServed}
use Rattle.hx_model.specs.State.{State, Objects, object_at, namespace_id, has_home}
use Rattle.hx_model.specs.Tree.{forest_of}
use Rattle.hx_model.specs.Valid.{IsValid}
use Rattle.hx_model.proofs.Climbing.{is_same, same_itself}
use Rattle.hx_model.proofs.Objects.{found_id}
use Rattle.hx_model.proofs.Planting.{there-objects}
use Rattle.hx_model.proofs.Storing.{All-found}
use Rattle.hx_model.proofs.Walking.{names_have}
use Rattle.hx_model.specs.Excess.{comes_below, is_home, gives_home, GivesNoHome}
use Rattle.hx_model.proofs.Lists.{all_more, any_witness, each_is_in}
use Rattle.hx_model.proofs.Wanting.{stored_served, found_there}

-- an object without fault has legal names
names_from_sound : (x : Object) → object_fault x ≡ None → has_legal_names x.id ≡ true
unfolding object_fault
names_from_sound x e = by (has_legal_names x.id) _ e
  where
    by : (b : Bool) (rest : Option ObjectFault) → (if not b then Some BadName else rest) ≡ None → b ≡ true
    by true rest none = refl
    by false rest some = absurd (let h : Some BadName ≡ None = some in cc)

-- a namespace that is served has a legal name
legal_name : (n : List ℕ) (x : Object) → IsServed x → namespace_id n ≡ x.id → is_dns_label n ≡ true
unfolding has_legal_names
legal_name n x is same =
    let parts = and_parts (has_legal_namespace x.id) (is_name_of x.id.kind x.id.name) (names_from_sound x is.legal.sound) in
    ap (λ (id : Id). is_name_of id.kind id.name) same ∙ parts.1

module _ (s : State) (valid : IsValid s) where
  served : AllByRecursion IsServed s.objects
  served = stored_served s.last s.objects valid.stored

  -- the name of a namespace is legal
  name_legal : (n : List ℕ) → is_there (forest_of s) n ≡ true → is_dns_label n ≡ true
  name_legal n there = by (object_at s.objects (namespace_id n)) refl (sym (there-objects s.config.excluded s.objects n served) ∙ there)
    where
      by : (found : Option Object) → object_at s.objects (namespace_id n) ≡ found → is_some found ≡ true → is_dns_label n ≡ true
      by None at some = absurd (true≢false (sym some))
      by (Some x) at some = legal_name n x (All-found IsServed (namespace_id n) x s.objects served at) (found_id s.objects (namespace_id n) x at)

  pub no_empty_name : is_there (forest_of s) [] ≡ true → ⊥
  unfolding is_dns_label
  no_empty_name there = true≢false (sym (name_legal [] there))

  -- the namespace of an object is there, where it has one
  abbrev HasHome : Object → Type 0
  HasHome x = (is_there (forest_of s) x.id.ns ≡ true) ⊎ (x.id.ns ≡ [])

  home_of : (x : Object) → IsServed x → has_home s.objects x.id ≡ true → HasHome x
  home_of x is home = elim (is_in_cluster x.id.kind) as (λ b. is_in_cluster x.id.kind ≡ b → (b || is_some (option_and_then (object_at s.objects) (if b then None else Some (namespace_id x.id.ns)))) ≡ true → HasHome x) [
    | true ↦ λ cluster _. inr (is.legal.home cluster)
    | false ↦ λ _ there. inl (found_there s x.id.ns valid there)
  ] refl home

  homes : (objects : Objects) → AllByRecursion IsServed objects → AllByRecursion (λ (x : Object). has_home s.objects x.id ≡ true) objects → AllByRecursion HasHome objects
  homes [] all housed = tt
  homes (x ∷ objects) all housed = (home_of x all.0 housed.0, homes objects all.1 housed.1)

  pub home_there : (n : List ℕ) → is_home s.objects n ≡ true → (is_there (forest_of s) n ≡ true) ⊎ (n ≡ [])
  home_there n home =
      let found = any_witness HasHome (λ (x : Object). bytes_eq n x.id.ns) s.objects (homes s.objects served valid.housed) home in
      subst (λ (m : List ℕ). (is_there (forest_of s) m ≡ true) ⊎ (m ≡ [])) (sym (is_same n found.0.id.ns found.2)) found.1

-- each of the names is of a namespace that is there
pub names_there : (f : Forest) → AllByRecursion (λ n. is_there f n ≡ true) (names_of f)
names_there f = all_more _ _ (names_of f) (λ n found. names_have f n ∙ found (bytes_eq n) (same_itself n)) (each_is_in (names_of f))

pub gives_no_home : GivesNoHome
gives_no_home s t a before after = false_from_ne_true (gives_home s t a) (λ gives.
    let f = forest_of s in
    let g = forest_of t in
    let found = any_witness (λ n. is_there g n ≡ true) (λ n. comes_below f g a n && is_home s.objects n) (names_of g) (names_there g) gives in
    let parts = and_parts (comes_below f g a found.0) (is_home s.objects found.0) found.2 in
    let new = (and_parts (not (is_there f found.0)) (in_chain g found.0 a) parts.0).0 in
    elim (home_there s before found.0 parts.1) [
      | inl there ↦ true≢false (sym there ∙ not-true (is_there f found.0) new)
      | inr empty ↦ no_empty_name t after (subst (λ (m : List ℕ). is_there g m ≡ true) empty found.1)
    ])
