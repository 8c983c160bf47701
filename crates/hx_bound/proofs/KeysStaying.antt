-- The writes of keys bring no keys.
--     any_put, any_cut    what passes after an object is put, or cut
--     Known s id          what an identity may bring to a state is there already
--     known_place         so it is with the identity that a key of the state writes
--     next_valid          the state after a write is valid
--     keys_stay
use Rattle.std.proofs.Common.{◌≡◌, ◌+◌, ◌==◌, ◌⊎◌, ℕ, Bool, true, false, cond, not, ◌&&◌, ◌||◌, Option, Some, None, List, [], ◌∷◌, Less, Equal, Greater, inl, inr, refl, sym, ap, ◌∙◌, subst, true≢false, eq-eqb}
use Rattle.std.specs.FinMap.Entries.{by_order}
use Rattle.std.specs.Prelude.{is_some}
use Rattle.std.specs.List.{list_any}
use Rattle.std.specs.Str.{bytes_eq}
use Rattle.std.proofs.lemmas.Bool.{and_from, and_parts, eqb-true, or_cases, or_left, or_right}
use Rattle.hx_object.specs.Kinds.{number_of, can_be_copied, is_anchor, is_namespace, is_quota}
use Rattle.hx_object.specs.Order.{id_cmp}
use Rattle.hx_object.proofs.Identities.{number_of-one}
use Rattle.hx_object.specs.declared.kind.Kind.{Kind}
use Rattle.hx_object.specs.declared.kind.Kind.TheVariants as of
use Rattle.hx_object.specs.declared.kind.Kind.TheVariants.{SubnamespaceAnchor, HierarchicalResourceQuota}
use Rattle.hx_object.specs.declared.object.Id.{Id}
use Rattle.hx_object.specs.declared.object.Object.{Object}
use Rattle.hx_model.specs.Forest.{is_there}
use Rattle.hx_model.specs.Hands.{versioned}
use Rattle.hx_model.specs.Machine.{wants}
use Rattle.hx_model.specs.Writes.{id_written}
use Rattle.hx_model.specs.Keys.{has_named, is_key, is_name}
use Rattle.hx_model.specs.Propagation.{id_in}
use Rattle.hx_model.specs.State.{State, Objects, cut, object_at, put, same_id, namespace_id, state_after, with_version}
use Rattle.hx_model.specs.Tree.{forest_of}
use Rattle.hx_model.specs.Valid.{IsValid}
use Rattle.hx_model.specs.Wanted.{wanted_write}
use Rattle.hx_model.specs.declared.key.Key.{Key}
use Rattle.hx_model.specs.declared.key.Key.TheVariants as key
use Rattle.hx_model.specs.declared.key.Write.{Write}
use Rattle.hx_model.specs.declared.key.Write.TheVariants.{Put, Cut}
use Rattle.hx_model.proofs.Climbing.{is_same, same_itself}
use Rattle.hx_model.proofs.Objects.{found_id, is_same_id, object_at-cut, object_at-put}
use Rattle.hx_model.proofs.Passing.{passing_object}
use Rattle.hx_model.proofs.Planting.{there-objects}
use Rattle.hx_model.proofs.Wanting.{found_there, wanted_is_key}
use Rattle.hx_model.proofs.Writes.{valid_after}
use Rattle.hx_marks.proofs.Making.{child_write_known, copy_write_known, removal_write_known, status_write_known, tree_write_known, used_write_known}
use Rattle.hx_marks.proofs.Permitting.{wanted_may_be_written}
use Rattle.hx_marks.proofs.Replacing.{copied_leaf, valid_served}
use Rattle.hx_marks.proofs.ReportWrites.{report_write_known}
use Rattle.hx_bound.specs.Bound.{KeysStay, Writes, next_of}
use Rattle.hx_bound.proofs.LateSteps.{copied_anchor, place_of}

-- ---- what passes

any_put : (t : Object → Bool) (x : Object) (objects : Objects) → list_any t (put x objects) ≡ true → (t x ≡ true) ⊎ (list_any t objects ≡ true)
any_put t x [] h = elim (or_cases (t x) false h) [ inl here ↦ inl here | inr never ↦ inr never ]
any_put t x (y ∷ objects) h = elim (id_cmp x.id y.id) as (λ o. list_any t (by_order o (x ∷ y ∷ objects) (x ∷ objects) (y ∷ put x objects)) ≡ true → (t x ≡ true) ⊎ ((t y || list_any t objects) ≡ true)) [
  | Less ↦ λ e. or_cases (t x) (t y || list_any t objects) e
  | Equal ↦ λ e. elim (or_cases (t x) (list_any t objects) e) [ inl here ↦ inl here | inr later ↦ inr (or_right (t y) (list_any t objects) later) ]
  | Greater ↦ λ e. elim (or_cases (t y) (list_any t (put x objects)) e) [
    | inl first ↦ inr (or_left (t y) (list_any t objects) first)
    | inr later ↦ elim (any_put t x objects later) [ inl here ↦ inl here | inr old ↦ inr (or_right (t y) (list_any t objects) old) ]
  ]
] h

any_cut : (t : Object → Bool) (id : Id) (objects : Objects) → list_any t (cut id objects) ≡ true → list_any t objects ≡ true
any_cut t id [] h = h
any_cut t id (y ∷ objects) h = elim (same_id id y.id) as (λ b. list_any t (cond (not b) (y ∷ cut id objects) (cut id objects)) ≡ true → (t y || list_any t objects) ≡ true) [
  | true ↦ λ e. or_right (t y) (list_any t objects) (any_cut t id objects e)
  | false ↦ λ e. elim (or_cases (t y) (list_any t (cut id objects)) e) [
    | inl here ↦ or_left (t y) (list_any t objects) here
    | inr later ↦ or_right (t y) (list_any t objects) (any_cut t id objects later)
  ]
] h

-- an object of a kind has a name
abbrev is_called : Kind → List ℕ → Object → Bool
is_called kind name x = (number_of kind == number_of x.id.kind) && bytes_eq name x.id.name

-- what is there has its name
named_there : (objects : Objects) (id : Id) → is_some (object_at objects id) ≡ true → has_named objects id.kind id.name ≡ true
named_there objects id there = by (object_at objects id) refl there
  where
    by : (o : Option Object) → object_at objects id ≡ o → is_some o ≡ true → has_named objects id.kind id.name ≡ true
    by None at e = absurd (true≢false (sym e))
    by (Some x) at e =
        let itself : is_called id.kind id.name x ≡ true =
        subst (λ (q : Id). ((number_of id.kind == number_of q.kind) && bytes_eq id.name q.name) ≡ true) (found_id objects id x at) (and_from (number_of id.kind == number_of id.kind) (bytes_eq id.name id.name) (eq-eqb (number_of id.kind) (number_of id.kind) refl) (same_itself id.name)) in
        passing_object (is_called id.kind id.name) objects id x at itself

-- ---- what a write brings

-- a namespace of the identity has a name of the state, what can be copied has a name of its kind there, and an anchor or a quota is there
record Known (s : State) (id : Id) : Type 0 where
  named : is_namespace id.kind ≡ true → is_name s id.name ≡ true
  paired : can_be_copied id.kind ≡ true → has_named s.objects id.kind id.name ≡ true
  anchored : is_anchor id.kind ≡ true → is_some (object_at s.objects id) ≡ true
  quoted : is_quota id.kind ≡ true → is_some (object_at s.objects id) ≡ true

copied_quota : (kind : Kind) → can_be_copied kind ≡ true → is_quota kind ≡ false
copied_quota of.HierarchicalResourceQuota e = absurd (true≢false (sym e))
copied_quota _ e = refl

never : {A : Type 0} (test : Bool) → test ≡ false → test ≡ true → A
never test out is = absurd (true≢false (sym is ∙ out))

known_place : (s : State) (k : Key) → is_key s k ≡ true → Known s (place_of k)
known_place s (key.Copy n kind name) h =
    let held = (and_parts (is_name s n) _ h).1 in
    let parts = and_parts (can_be_copied kind) _ held in
    record { named = never (is_namespace kind) (copied_leaf kind parts.0); paired = λ _. parts.1; anchored = never (is_anchor kind) (copied_anchor kind parts.0); quoted = never (is_quota kind) (copied_quota kind parts.0) }
known_place s (key.Tree n) h = record { named = λ _. h; paired = never false refl; anchored = never false refl; quoted = never false refl }
known_place s (key.Purge n) h = record { named = λ _. h; paired = never false refl; anchored = never false refl; quoted = never false refl }
known_place s (key.Child n m) h = record { named = λ _. or_right (is_there (forest_of s) m) (has_named s.objects SubnamespaceAnchor m) (named_there s.objects (id_in SubnamespaceAnchor m n) h); paired = never false refl; anchored = never false refl; quoted = never false refl }
known_place s (key.Report n) h = record { named = never false refl; paired = never false refl; anchored = never false refl; quoted = never false refl }
known_place s (key.Anchor n m) h = record { named = never false refl; paired = never false refl; anchored = λ _. h; quoted = never false refl }
known_place s (key.Used n name) h = record { named = never false refl; paired = never false refl; anchored = never false refl; quoted = λ _. h }

abbrev is_put : Write → Bool
is_put (Put x) = true
is_put (Cut id) = false

-- what is put is of that identity
puts_at : (s : State) (k : Key) (x : Object) → IsValid s → wanted_write s k ≡ Some (Put x) → x.id ≡ place_of k
puts_at s (key.Copy n kind name) x valid wants = (copy_write_known s n kind name (Put x) wants).place
puts_at s (key.Tree n) x valid wants = let known = tree_write_known s n (Put x) wants in ap id_written known.puts ∙ sym (found_id s.objects (namespace_id n) known.home known.there)
puts_at s (key.Report n) x valid wants = let known = report_write_known s n (Put x) valid wants in ap id_written known.puts ∙ known.place
puts_at s (key.Child n m) x valid wants = ap id_written (child_write_known s n m (Put x) wants).puts
puts_at s (key.Anchor n m) x valid wants = let known = status_write_known s n m (Put x) wants in ap id_written known.puts ∙ sym (found_id s.objects (id_in SubnamespaceAnchor m n) known.anchor known.there)
puts_at s (key.Used n name) x valid wants = let known = used_write_known s n name (Put x) wants in ap id_written known.puts ∙ sym (found_id s.objects (id_in HierarchicalResourceQuota name n) known.quota known.there)
puts_at s (key.Purge n) x valid wants = absurd (true≢false (ap is_put (removal_write_known s n (Put x) wants).cuts))

-- ---- the state after it

pub next_valid : (s : State) (k : Key) (write : Write) → Writes s k write → IsValid (next_of s write)
next_valid s k write w = valid_after s (versioned (s.last + 1) write ∷ []) w.valid (wanted_may_be_written s k write w.valid w.fits w.wants w.served)

-- what is there afterwards was there before, or its name was
record StayKnown (s t : State) : Type 0 where
  homes : (m : List ℕ) → is_some (object_at t.objects (namespace_id m)) ≡ true → is_name s m ≡ true
  asked : (m : List ℕ) → has_named t.objects SubnamespaceAnchor m ≡ true → has_named s.objects SubnamespaceAnchor m ≡ true
  called : (kind : Kind) (name : List ℕ) → can_be_copied kind ≡ true → has_named t.objects kind name ≡ true → has_named s.objects kind name ≡ true
  anchors : (n m : List ℕ) → is_some (object_at t.objects (id_in SubnamespaceAnchor m n)) ≡ true → is_some (object_at s.objects (id_in SubnamespaceAnchor m n)) ≡ true
  quotas : (n m : List ℕ) → is_some (object_at t.objects (id_in HierarchicalResourceQuota m n)) ≡ true → is_some (object_at s.objects (id_in HierarchicalResourceQuota m n)) ≡ true

module _ (s t : State) (valid : IsValid t) (stay : StayKnown s t) where
  names_stay : (m : List ℕ) → is_name t m ≡ true → is_name s m ≡ true
  names_stay m h = elim (or_cases (is_there (forest_of t) m) (has_named t.objects SubnamespaceAnchor m) h) [
    | inl there ↦ stay.homes m (sym (there-objects t.config.excluded t.objects m (valid_served t valid)) ∙ there)
    | inr asked ↦ or_right (is_there (forest_of s) m) (has_named s.objects SubnamespaceAnchor m) (stay.asked m asked)
  ]

  all_stay : (j : Key) → is_key t j ≡ true → is_key s j ≡ true
  all_stay (key.Copy n kind name) h =
      let named = and_parts (is_name t n) _ h in
      let held = and_parts (can_be_copied kind) _ named.1 in
      and_from (is_name s n) (can_be_copied kind && has_named s.objects kind name) (names_stay n named.0) (and_from (can_be_copied kind) (has_named s.objects kind name) held.0 (stay.called kind name held.0 held.1))
  all_stay (key.Tree n) h = names_stay n h
  all_stay (key.Report n) h = names_stay n h
  all_stay (key.Purge n) h = names_stay n h
  all_stay (key.Child n m) h = stay.anchors n m h
  all_stay (key.Anchor n m) h = stay.anchors n m h
  all_stay (key.Used n name) h = stay.quotas n name h

-- ---- an object goes

some_cut : (id q : Id) (objects : Objects) → is_some (object_at (cut id objects) q) ≡ true → is_some (object_at objects q) ≡ true
some_cut id q objects h = by (same_id q id) (sym (ap is_some (object_at-cut id objects q)) ∙ h)
  where
    by : (b : Bool) → is_some (cond b None (object_at objects q)) ≡ true → is_some (object_at objects q) ≡ true
    by true e = absurd (true≢false (sym e))
    by false e = e

cut_known : (s : State) (id : Id) → IsValid s → StayKnown s (state_after s (Cut id ∷ []))
cut_known s id valid = record {
  homes = λ m h. or_left (is_there (forest_of s) m) (has_named s.objects SubnamespaceAnchor m) (found_there s m valid (some_cut id (namespace_id m) s.objects h));
  asked = λ m h. any_cut (is_called SubnamespaceAnchor m) id s.objects h;
  called = λ kind name copied h. any_cut (is_called kind name) id s.objects h;
  anchors = λ n m h. some_cut id (id_in SubnamespaceAnchor m n) s.objects h;
  quotas = λ n m h. some_cut id (id_in HierarchicalResourceQuota m n) s.objects h;
}

-- ---- an object is put

some_put : (y : Object) (q : Id) (objects : Objects) → is_some (object_at (put y objects) q) ≡ true → (q ≡ y.id) ⊎ (is_some (object_at objects q) ≡ true)
some_put y q objects h = by (same_id q y.id) refl (sym (ap is_some (object_at-put y objects q)) ∙ h)
  where
    by : (b : Bool) → same_id q y.id ≡ b → is_some (cond b (Some y) (object_at objects q)) ≡ true → (q ≡ y.id) ⊎ (is_some (object_at objects q) ≡ true)
    by true is e = inl (is_same_id q y.id is)
    by false is e = inr e

put_known : (s : State) (y : Object) → IsValid s → Known s y.id → StayKnown s (state_after s (Put y ∷ []))
put_known s y valid known = record {
  homes = λ m h. elim (some_put y (namespace_id m) s.objects h) [
    | inl is ↦ ap (λ (q : Id). is_name s q.name) is ∙ known.named (ap (λ (q : Id). is_namespace q.kind) (sym is))
    | inr old ↦ or_left (is_there (forest_of s) m) (has_named s.objects SubnamespaceAnchor m) (found_there s m valid old)
  ];
  asked = λ m h. elim (any_put (is_called SubnamespaceAnchor m) y s.objects h) [
    | inl here ↦
        let same = called_as SubnamespaceAnchor m here in
        (λ i. has_named s.objects (same.0 i) (same.1 i)) ∙ named_there s.objects y.id (known.anchored (ap is_anchor (sym same.0)))
    | inr old ↦ old
  ];
  called = λ kind name copied h. elim (any_put (is_called kind name) y s.objects h) [
    | inl here ↦
        let same = called_as kind name here in
        (λ i. has_named s.objects (same.0 i) (same.1 i)) ∙ known.paired (ap can_be_copied (sym same.0) ∙ copied)
    | inr old ↦ old
  ];
  anchors = λ n m h. elim (some_put y (id_in SubnamespaceAnchor m n) s.objects h) [
    | inl is ↦ ap (λ q. is_some (object_at s.objects q)) is ∙ known.anchored (ap (λ (q : Id). is_anchor q.kind) (sym is))
    | inr old ↦ old
  ];
  quotas = λ n m h. elim (some_put y (id_in HierarchicalResourceQuota m n) s.objects h) [
    | inl is ↦ ap (λ q. is_some (object_at s.objects q)) is ∙ known.quoted (ap (λ (q : Id). is_quota q.kind) (sym is))
    | inr old ↦ old
  ];
}
  where
    called_as : (kind : Kind) (name : List ℕ) → is_called kind name y ≡ true → (kind ≡ y.id.kind) × (name ≡ y.id.name)
    called_as kind name h = let parts = and_parts (number_of kind == number_of y.id.kind) _ h in (number_of-one kind y.id.kind (eqb-true (number_of kind) (number_of y.id.kind) parts.0), is_same name y.id.name parts.1)

-- ---- each of them

wants_some : (s : State) (k : Key) (write : Write) → wanted_write s k ≡ Some write → wants s k ≡ true
wants_some s k write is = ap is_some is

stay_by : (s : State) (k : Key) (write : Write) → Writes s k write → StayKnown s (next_of s write)
stay_by s k (Cut id) w = cut_known s id w.valid
stay_by s k (Put x) w =
    put_known s (with_version x (s.last + 1)) w.valid (subst (Known s) (sym (puts_at s k x w.valid w.wants)) (known_place s k (wanted_is_key s w.valid k (wants_some s k (Put x) w.wants))))

pub keys_stay : KeysStay
keys_stay s k write w j h = all_stay s (next_of s write) (next_valid s k write w) (stay_by s k write w) j h
