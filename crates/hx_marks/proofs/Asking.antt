-- The keys of anchors among keys.
--     is_anchor_place, copied_no_anchor     the identity of an anchor, and kinds that aren't
--     asking_among, asking_known   both keys of an anchor that asks for a name, and back
--     anchor_key_is, child_of_anchor, status_of_anchor     its keys are two
--     anchor_key                   both keys of an anchor that is there are keys of the state
--     leaving_among                the key of the removal of a namespace that is on its way out
use Rattle.std.proofs.Common.{◌≡◌, ℕ, true, false, ◌&&◌, Some, List, [], ◌∷◌, filter, refl, sym, ap, ◌∙◌, subst, inl, inr, ◌⊎◌, true≢false}
use Rattle.std.specs.Prelude.{is_some, if◌then◌else◌}
use Rattle.std.specs.Str.{bytes_eq}
use Rattle.std.proofs.lemmas.Bool.{and_parts, and_from, or_cases, or_right}
use Rattle.hx_object.specs.Kinds.{can_be_copied, is_anchor}
use Rattle.hx_object.specs.declared.kind.Kind.{Kind}
use Rattle.hx_object.specs.declared.kind.Kind.TheVariants.{SubnamespaceAnchor}
use Rattle.hx_object.specs.declared.object.Id.{Id}
use Rattle.hx_object.specs.declared.object.Object.{Object}
use Rattle.hx_model.specs.Cases.{is_leaving}
use Rattle.hx_model.specs.Forest.{Forest}
use Rattle.hx_model.specs.Keys.{same_key, is_among, is_key}
use Rattle.hx_model.specs.State.{State, Objects, object_at, ascends}
use Rattle.hx_model.specs.Subnamespaces.{anchor_id}
use Rattle.hx_model.specs.declared.key.Key.{Key}
use Rattle.hx_model.specs.declared.key.Key.TheVariants as key
use Rattle.hx_model.proofs.Climbing.{is_same, same_itself}
use Rattle.hx_model.proofs.Objects.{found_id}
use Rattle.hx_marks.specs.Law.{anchor_keys, asking_keys, leaving_keys}
use Rattle.hx_store.specs.Sources.{is_anchor_of}
use Rattle.hx_marks.proofs.Among.{same_key_is, among_here, among_flat_map, any_filter, passing_object, found_object}

-- ---- identities

anchor_kind : (kind : Kind) → is_anchor kind ≡ true → kind ≡ SubnamespaceAnchor
anchor_kind SubnamespaceAnchor is = refl
anchor_kind _ is = absurd (true≢false (sym is))

pub is_anchor_place : (id : Id) → is_anchor id.kind ≡ true → id ≡ anchor_id id.ns id.name
is_anchor_place id is i = record { kind = anchor_kind id.kind is i; ns = id.ns; name = id.name }

-- a kind that can be copied is no anchor
pub copied_no_anchor : (kind : Kind) → can_be_copied kind ≡ true → is_anchor kind ≡ false
copied_no_anchor SubnamespaceAnchor e = absurd (true≢false (sym e))
copied_no_anchor _ e = refl

-- ---- the anchors that ask for a name

pub asking_among : (objects : Objects) (m n : List ℕ) (k : Key) (x : Object) → object_at objects (anchor_id m n) ≡ Some x → is_among k (anchor_keys (anchor_id m n)) ≡ true → is_among k (asking_keys objects n) ≡ true
asking_among objects m n k x at mem =
    let place = found_id objects (anchor_id m n) x at in
    among_flat_map k (λ (y : Object). anchor_keys y.id) (filter (is_anchor_of n) objects)
    ∙ any_filter (λ (y : Object). is_among k (anchor_keys y.id)) (is_anchor_of n) objects
    ∙ passing_object (λ (y : Object). is_anchor_of n y && is_among k (anchor_keys y.id)) objects (anchor_id m n) x at
    (and_from (is_anchor_of n x) (is_among k (anchor_keys x.id))
    (subst (λ (q : Id). (is_anchor q.kind && bytes_eq n q.name) ≡ true) place (same_itself n))
    (subst (λ (q : Id). is_among k (anchor_keys q) ≡ true) place mem))

pub asking_known : (objects : Objects) (n : List ℕ) (k : Key) → ascends objects ≡ true → is_among k (asking_keys objects n) ≡ true → (m : List ℕ) × (x : Object) × (object_at objects (anchor_id m n) ≡ Some x) × (is_among k (anchor_keys (anchor_id m n)) ≡ true)
asking_known objects n k up mem =
    let found = found_object (λ (y : Object). is_anchor_of n y && is_among k (anchor_keys y.id)) objects up
    (sym (among_flat_map k (λ (y : Object). anchor_keys y.id) (filter (is_anchor_of n) objects) ∙ any_filter (λ (y : Object). is_among k (anchor_keys y.id)) (is_anchor_of n) objects) ∙ mem) in
    let x = found.0 in
    let both = and_parts (is_anchor_of n x) (is_among k (anchor_keys x.id)) found.2 in
    let parts = and_parts (is_anchor x.id.kind) (bytes_eq n x.id.name) both.0 in
    let place : x.id ≡ anchor_id x.id.ns n = is_anchor_place x.id parts.0 ∙ ap (anchor_id x.id.ns) (sym (is_same n x.id.name parts.1)) in
    (x.id.ns, x, ap (object_at objects) (sym place) ∙ found.1, subst (λ (q : Id). is_among k (anchor_keys q) ≡ true) place both.1)

-- ---- both keys of an anchor

pub anchor_key_is : (m n : List ℕ) (k : Key) → is_among k (anchor_keys (anchor_id m n)) ≡ true → (k ≡ key.Child m n) ⊎ (k ≡ key.Anchor m n)
anchor_key_is m n k mem = elim (or_cases (same_key k (key.Child m n)) (is_among k (key.Anchor m n ∷ [])) mem) [
  | inl child ↦ inl (same_key_is k (key.Child m n) child)
  | inr later ↦ elim (or_cases (same_key k (key.Anchor m n)) false later) [
    | inl status ↦ inr (same_key_is k (key.Anchor m n) status)
    | inr none ↦ absurd (true≢false (sym none))
  ]
]

pub child_of_anchor : (m n : List ℕ) → is_among (key.Child m n) (anchor_keys (anchor_id m n)) ≡ true
child_of_anchor m n = among_here (key.Child m n) (key.Anchor m n ∷ [])

pub status_of_anchor : (m n : List ℕ) → is_among (key.Anchor m n) (anchor_keys (anchor_id m n)) ≡ true
status_of_anchor m n = or_right (same_key (key.Anchor m n) (key.Child m n)) (is_among (key.Anchor m n) (key.Anchor m n ∷ [])) (among_here (key.Anchor m n) [])

-- they are keys of a state where the anchor is there
pub anchor_key : (s : State) (m n : List ℕ) (x : Object) (k : Key) → object_at s.objects (anchor_id m n) ≡ Some x → is_among k (anchor_keys (anchor_id m n)) ≡ true → is_key s k ≡ true
anchor_key s m n x k at mem = elim (anchor_key_is m n k mem) [
  | inl child ↦ ap (is_key s) child ∙ ap is_some at
  | inr status ↦ ap (is_key s) status ∙ ap is_some at
]

-- ---- removals

pub leaving_among : (f : Forest) (n : List ℕ) → is_leaving f n ≡ true → is_among (key.Purge n) (leaving_keys f n) ≡ true
leaving_among f n leaves = ap (λ b. is_among (key.Purge n) (if b then key.Purge n ∷ [] else [])) leaves ∙ among_here (key.Purge n) []
