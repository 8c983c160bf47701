-- The keys that may want a write are keys of the state.
--     any_witness        what passes a test of a list
--     wants_named        a copy key that may want a write is of a kind and a name that some object has
--     found_some         what passes a test among objects is found under its identity
--     child_key, status_key     so is each of an anchor that is there
--     leaving_key        and that of the removal of a namespace that is on its way out
--     copy_key           the copies of an object have a key in each namespace that is there
--     all_keys           each key of a namespace that is there is one of the state
--     touched_within     a key of the states before and after a write may wait, where the write touches it
--     unplain_within     so may each, where the write is of no kind that is kept as it is given
use Rattle.std.proofs.Common.{◌≡◌, ℕ, Bool, true, false, cond, ◌&&◌, ◌==◌, Option, None, List, [], ◌∷◌, ◌++◌, map, filter, inl, inr, refl, sym, ap, ◌∙◌, subst, true≢false, eqb-true, eq-eqb, Some}
use Rattle.std.specs.Prelude.{is_some, if◌then◌else◌}
use Rattle.std.specs.List.{list_any}
use Rattle.std.specs.Cmp.{tied_itself}
use Rattle.std.specs.Option.{option_map_or}
use Rattle.std.specs.Str.{bytes_eq}
use Rattle.std.proofs.lemmas.Bool.{and_parts, and_from, or_cases, or_left, or_right}
use Rattle.std.proofs.lemmas.List.Folds.{list_any-append}
use Rattle.hx_object.specs.Kinds.{number_of, can_be_copied, is_plain}
use Rattle.hx_object.specs.declared.kind.Kind.{Kind}
use Rattle.hx_object.specs.declared.kind.Kind.TheVariants.{SubnamespaceAnchor}
use Rattle.hx_object.specs.declared.object.Id.{Id}
use Rattle.hx_object.specs.declared.object.Object.{Object}
use Rattle.hx_object.proofs.Identities.{number_of-one}
use Rattle.hx_model.specs.Answers.{is_listed}
use Rattle.hx_model.specs.Cases.{is_leaving}
use Rattle.hx_model.specs.Forest.{Forest, node_of, is_there, tail_of}
use Rattle.hx_model.specs.Keys.{same_key, is_among, has_named, is_name, is_key, is_key_of_either, touches, may_mark}
use Rattle.hx_model.specs.Limits.{is_copy}
use Rattle.hx_model.specs.Moves.{mode_at, copied_kinds}
use Rattle.hx_model.specs.State.{State, Objects, object_at, same_id, state_after}
use Rattle.hx_model.specs.Subnamespaces.{anchor_id}
use Rattle.hx_model.specs.Tree.{forest_of}
use Rattle.hx_model.specs.Writes.{id_written}
use Rattle.hx_model.specs.declared.key.Key.{Key}
use Rattle.hx_model.specs.declared.key.Key.TheVariants as key
use Rattle.hx_model.specs.declared.key.Write.{Write}
use Rattle.hx_model.specs.declared.node.Node.{Node}
use Rattle.hx_model.proofs.Climbing.{is_same, same_itself}
use Rattle.hx_model.proofs.Objects.{id_total, same_from_Equal}
use Rattle.hx_marks.proofs.Among.{same_key_is, among_cond, among_map, among_flat_map, any_filter, passing_object, found_name, found_kind}
use Rattle.hx_marks.proofs.Wanting.{any_flat_map, all_parts}
use Rattle.hx_marks.specs.Law.{is_ignored, is_sent, listed_in, sent_from, key_for, wants_of_kind, wants_of, child_keys, status_keys, leaving_keys, all_of}

-- ---- tests of lists

pub any_witness : {A : Type 0} (p : A → Bool) (xs : List A) → list_any p xs ≡ true → (x : A) × (p x ≡ true)
any_witness p [] h = absurd (true≢false (sym h))
any_witness p (x ∷ xs) h = elim (or_cases (p x) (list_any p xs) h) [
  | inl here ↦ (x, here)
  | inr later ↦ any_witness p xs later
]

-- a test that holds where another one does
pub any_more : {A : Type 0} (p q : A → Bool) (xs : List A) → ((x : A) → p x ≡ true → q x ≡ true) → list_any p xs ≡ true → list_any q xs ≡ true
any_more p q [] more h = h
any_more p q (x ∷ xs) more h = elim (or_cases (p x) (list_any p xs) h) [
  | inl here ↦ or_left (q x) (list_any q xs) (more x here)
  | inr later ↦ or_right (q x) (list_any q xs) (any_more p q xs more later)
]

-- ---- copy keys

abbrev name_of_key : Key → List ℕ
name_of_key (key.Copy m kind name) = name
name_of_key _ = []

module _ (objects : Objects) (m : List ℕ) (kind : Kind) (k : Key) where
  -- an object of the kind, in some namespace, has the key
  abbrev IsOf : Object → Bool
  IsOf x = (number_of kind == number_of x.id.kind) && same_key k (key_for m x)

  -- of such objects a list has one
  from_listed : (a : List ℕ) (p : Object → Bool) → list_any (λ x. same_key k (key_for m x)) (filter p (listed_in objects kind a)) ≡ true → list_any IsOf objects ≡ true
  from_listed a p h =
      let all : list_any (λ x. is_listed kind (Some a) x && (p x && same_key k (key_for m x))) objects ≡ true =
      sym (any_filter (λ x. same_key k (key_for m x)) p (listed_in objects kind a) ∙ any_filter (λ x. p x && same_key k (key_for m x)) (is_listed kind (Some a)) objects) ∙ h in
      any_more (λ x. is_listed kind (Some a) x && (p x && same_key k (key_for m x))) IsOf objects
      (λ x passes.
      let parts = and_parts (is_listed kind (Some a) x) (p x && same_key k (key_for m x)) passes in
      and_from (number_of kind == number_of x.id.kind) (same_key k (key_for m x)) (and_parts (number_of kind == number_of x.id.kind) (bytes_eq x.id.ns a) parts.0).0 (and_parts (p x) (same_key k (key_for m x)) parts.1).1) all

  key_is : (x : Object) → IsOf x ≡ true → k ≡ key.Copy m kind x.id.name
  key_is x h =
      let parts = and_parts (number_of kind == number_of x.id.kind) (same_key k (key_for m x)) h in
      same_key_is k (key_for m x) parts.1 ∙ ap (λ (other : Kind). key.Copy m other x.id.name) (sym (number_of-one kind x.id.kind (eqb-true _ _ parts.0)))

  -- then some object has the kind and the name of the key
  named : list_any IsOf objects ≡ true → (name : List ℕ) × (k ≡ key.Copy m kind name) × (has_named objects kind name ≡ true)
  named h =
      let found = any_witness IsOf objects h in
      let is = key_is found.0 found.1 in (
        found.0.id.name,
        is,
        any_more IsOf (λ (x : Object). (number_of kind == number_of x.id.kind) && bytes_eq found.0.id.name x.id.name) objects
            (λ x passes.
            let same : found.0.id.name ≡ x.id.name = ap name_of_key (sym is ∙ key_is x passes) in
            and_from (number_of kind == number_of x.id.kind) (bytes_eq found.0.id.name x.id.name) (and_parts (number_of kind == number_of x.id.kind) (same_key k (key_for m x)) passes).0
            (subst (λ (n : List ℕ). bytes_eq found.0.id.name n ≡ true) same (same_itself found.0.id.name))) h,
      )

  -- the objects that a kind's keys are of
  of_kind : (names : List (List ℕ)) → list_any (λ x. same_key k (key_for m x)) (sent_from objects kind names ++ filter is_copy (listed_in objects kind m)) ≡ true → list_any IsOf objects ≡ true
  of_kind names h =
      let P : Object → Bool = λ x. same_key k (key_for m x) in
      elim (or_cases (list_any P (sent_from objects kind names)) (list_any P (filter is_copy (listed_in objects kind m))) (sym (list_any-append P (sent_from objects kind names) (filter is_copy (listed_in objects kind m))) ∙ h)) [
        | inl above ↦
            let sends : List ℕ → Objects = λ a. filter (is_sent (mode_at objects kind)) (listed_in objects kind a) in
            let found = found_name (λ a. list_any P (sends a)) names (sym (any_flat_map P sends names) ∙ above) in
            from_listed found.0 (is_sent (mode_at objects kind)) found.2
        | inr here ↦ from_listed m is_copy here
      ]

-- a copy key that may want a write
pub wants_named : (objects : Objects) (chain : List (List ℕ)) (m : List ℕ) (k : Key) → is_among k (wants_of objects chain m) ≡ true
    → (kind : Kind) × (name : List ℕ) × (k ≡ key.Copy m kind name) × (can_be_copied kind ≡ true) × (has_named objects kind name ≡ true)
wants_named objects chain m k mem =
    let found = found_kind (λ kind. is_among k (wants_of_kind objects chain m kind)) (sym (among_flat_map k (wants_of_kind objects chain m) copied_kinds) ∙ mem) in
    let all = named objects m found.0 k (of_kind objects m found.0 k (tail_of chain) (sym (among_map k (key_for m) (sent_from objects found.0 (tail_of chain) ++ filter is_copy (listed_in objects found.0 m))) ∙ counted found.0 (is_ignored (mode_at objects found.0)) found.2)) in
    (found.0, all.0, all.1, found.1, all.2)
  where
    counted : (kind : Kind) (b : Bool) → is_among k (if b then [] else map (key_for m) (sent_from objects kind (tail_of chain) ++ filter is_copy (listed_in objects kind m))) ≡ true
        → is_among k (map (key_for m) (sent_from objects kind (tail_of chain) ++ filter is_copy (listed_in objects kind m))) ≡ true
    counted kind true h = absurd (true≢false (sym h))
    counted kind false h = h

-- ---- keys of anchors

-- an object that passes is found, under its identity
pub found_some : (p : Object → Bool) (objects : Objects) → list_any p objects ≡ true → (x : Object) × (p x ≡ true) × (is_some (object_at objects x.id) ≡ true)
found_some p [] h = absurd (true≢false (sym h))
found_some p (y ∷ objects) h = elim (or_cases (p y) (list_any p objects) h) [
  | inl here ↦ (y, here, ap (λ b. is_some (cond b (Some y) (object_at objects y.id))) (same_from_Equal y.id y.id (tied_itself id_total y.id)))
  | inr later ↦ let found = found_some p objects later in (found.0, found.1, either (same_id found.0.id y.id) (object_at objects found.0.id) found.2)
]
  where
    either : (b : Bool) (o : Option Object) → is_some o ≡ true → is_some (cond b (Some y) o) ≡ true
    either true o there = refl
    either false o there = there

-- the keys by the names of the anchors in a namespace
anchors_there : (objects : Objects) (m : List ℕ) (k : Key) (of_name : List ℕ → Key) → is_among k (map (λ (x : Object). of_name x.id.name) (listed_in objects SubnamespaceAnchor m)) ≡ true
    → (name : List ℕ) × (k ≡ of_name name) × (is_some (object_at objects (anchor_id m name)) ≡ true)
anchors_there objects m k of_name mem =
    let test : Object → Bool = λ x. is_listed SubnamespaceAnchor (Some m) x && same_key k (of_name x.id.name) in
    let found = found_some test objects
    (sym (any_filter (λ (x : Object). same_key k (of_name x.id.name)) (is_listed SubnamespaceAnchor (Some m)) objects) ∙ sym (among_map k (λ (x : Object). of_name x.id.name) (listed_in objects SubnamespaceAnchor m)) ∙ mem) in
    let parts = and_parts (is_listed SubnamespaceAnchor (Some m) found.0) _ found.1 in
    (found.0.id.name, same_key_is k (of_name found.0.id.name) parts.1, ap (λ (q : Id). is_some (object_at objects q)) (is_anchor_of found.0 parts.0) ∙ found.2)
  where
    is_anchor_of : (x : Object) → is_listed SubnamespaceAnchor (Some m) x ≡ true → anchor_id m x.id.name ≡ x.id
    is_anchor_of x h =
        let parts = and_parts (number_of SubnamespaceAnchor == number_of x.id.kind) (bytes_eq x.id.ns m) h in
        let kind : SubnamespaceAnchor ≡ x.id.kind = number_of-one SubnamespaceAnchor x.id.kind (eqb-true _ _ parts.0) in
        let home : m ≡ x.id.ns = sym (is_same x.id.ns m parts.1) in
        λ i. record { kind = kind i; ns = home i; name = x.id.name }

pub child_key : (s : State) (m : List ℕ) (k : Key) → is_among k (child_keys s.objects m) ≡ true → is_key s k ≡ true
child_key s m k mem = let found = anchors_there s.objects m k (key.Child m) mem in ap (is_key s) found.1 ∙ found.2

pub status_key : (s : State) (m : List ℕ) (k : Key) → is_among k (status_keys s.objects m) ≡ true → is_key s k ≡ true
status_key s m k mem = let found = anchors_there s.objects m k (key.Anchor m) mem in ap (is_key s) found.1 ∙ found.2

-- ---- keys of a state

-- a namespace that is on its way out is there
pub leaving_there : (f : Forest) (n : List ℕ) → is_leaving f n ≡ true → is_there f n ≡ true
leaving_there f n h = by (node_of f n) h
  where
    by : (o : Option Node) → option_map_or (λ (node : Node). node.terminating) o false ≡ true → is_some o ≡ true
    by None e = absurd (true≢false (sym e))
    by (Some node) e = refl

-- the key of the removal of a namespace that is there
pub removal_key : (s : State) (n : List ℕ) (k : Key) → is_there (forest_of s) n ≡ true → is_among k (key.Purge n ∷ []) ≡ true → is_key s k ≡ true
removal_key s n k there mem = elim (or_cases (same_key k (key.Purge n)) false mem) [
  | inl same ↦ ap (is_key s) (same_key_is k (key.Purge n) same) ∙ or_left (is_there (forest_of s) n) (has_named s.objects SubnamespaceAnchor n) there
  | inr never ↦ absurd (true≢false (sym never))
]

pub leaving_key : (s : State) (n : List ℕ) (k : Key) → is_among k (leaving_keys (forest_of s) n) ≡ true → is_key s k ≡ true
leaving_key s n k mem =
    let parts = and_parts (is_leaving (forest_of s) n) _ (sym (among_cond k (is_leaving (forest_of s) n) (key.Purge n ∷ [])) ∙ mem) in
    removal_key s n k (leaving_there (forest_of s) n parts.0) parts.1

-- the copies of an object, in a namespace that is there
pub copy_key : (s : State) (x : Object) (m : List ℕ) → object_at s.objects x.id ≡ Some x → can_be_copied x.id.kind ≡ true → is_there (forest_of s) m ≡ true → is_key s (key_for m x) ≡ true
copy_key s x m at copied there =
    and_from (is_name s m) _ (or_left (is_there (forest_of s) m) _ there)
    (and_from (can_be_copied x.id.kind) _ copied
    (passing_object (λ (y : Object). (number_of x.id.kind == number_of y.id.kind) && bytes_eq x.id.name y.id.name) s.objects x.id x at
    (and_from (number_of x.id.kind == number_of x.id.kind) _ (eq-eqb (number_of x.id.kind) (number_of x.id.kind) refl) (same_itself x.id.name))))

-- the keys of a name of the state
pub all_keys : (s : State) (chain : List (List ℕ)) (m : List ℕ) (k : Key) → is_name s m ≡ true → is_among k (all_of s.objects chain m) ≡ true → is_key s k ≡ true
all_keys s chain m k name mem = elim (all_parts s.objects chain m k mem) [
  | inl tree ↦ ap (is_key s) (same_key_is k (key.Tree m) tree) ∙ name
  | inr (inl copy) ↦
      let found = wants_named s.objects chain m k copy in
      ap (is_key s) found.2 ∙ and_from (is_name s m) (can_be_copied found.0 && has_named s.objects found.0 found.1) name (and_from (can_be_copied found.0) (has_named s.objects found.0 found.1) found.3 found.4)
  | inr (inr child) ↦ child_key s m k child
]

-- ---- what a write may make wait

module _ (s : State) (write : Write) (k : Key) (either : is_key_of_either s (state_after s (write ∷ [])) k ≡ true) where
  -- a key that the write touches
  pub touched_within : touches s (id_written write) k ≡ true → may_mark s (write ∷ []) k ≡ true
  touched_within touched = and_from (is_key_of_either s (state_after s (write ∷ [])) k) _ either (by (is_plain (id_written write).kind))
    where
      by : (plain : Bool) → (if plain then touches s (id_written write) k else true) ≡ true
      by true = touched
      by false = refl

  -- each key, where what is written isn't kept as it is given
  pub unplain_within : is_plain (id_written write).kind ≡ false → may_mark s (write ∷ []) k ≡ true
  unplain_within unplain = and_from (is_key_of_either s (state_after s (write ∷ [])) k) _ either (ap (λ plain. if plain then touches s (id_written write) k else true) unplain)
