-- What a DELETE changes.
--     ended_among      those that go with a namespace begin to leave, found under their names
--     may_delete       the writes of a DELETE may be made
use Rattle.std.proofs.Common.{◌≡◌, ◌≢◌, ◌<◌, ◌≤◌, ◌+◌, ℕ, Bool, true, false, cond, not, ◌&&◌, ◌||◌, List, [], ◌∷◌, ◌++◌, length, filter, map, Some, Option, is_lt, refl, sym, ap, subst, ◌∙◌, arith, true≢false}
use Rattle.std.specs.Prelude.{if◌then◌else◌, is_none}
use Rattle.std.specs.List.{AllByRecursion, IsDistinct, flat_map, list_any}
use Rattle.std.specs.Cmp.{tied_itself}
use Rattle.std.specs.Str.{bytes_eq}
use Rattle.std.proofs.lemmas.Bool.{and_parts, false_from_ne_true}
use Rattle.std.proofs.lemmas.List.Concat.{flat_map-cons}
use Rattle.hx_object.specs.Faults.{IsLegal, IsPayloadOf}
use Rattle.hx_object.specs.Kinds.{is_plain}
use Rattle.hx_object.specs.Order.{id_cmp}
use Rattle.hx_object.specs.declared.kind.Kind.{Kind}
use Rattle.hx_object.specs.declared.kind.Kind.TheVariants.{Namespace, SubnamespaceAnchor, Secret}
use Rattle.hx_object.specs.declared.object.Id.{Id}
use Rattle.hx_object.specs.declared.object.Object.{Object}
use Rattle.hx_object.specs.declared.object.Payload.{Payload}
use Rattle.hx_object.specs.declared.object.Payload.TheVariants.{Namespace as NamespaceOf, Config, Hierarchy, Anchor, Quota, Plain}
use Rattle.hx_object.proofs.KindTests.{namespace_kind}
use Rattle.hx_model.specs.Answers.{with_status, ended, begins_to_leave, ending, is_ended, owns_named}
use Rattle.hx_model.specs.Forest.{names_of, in_chain, subtree_of}
use Rattle.hx_model.specs.Limits.{is_namespace, is_anchor, is_hierarchy, greatest_version}
use Rattle.hx_model.specs.Serving.{IsServed, is_typed}
use Rattle.hx_model.specs.State.{State, Objects, object_at, same_id, namespace_id, is_below_all, ascends, has_home}
use Rattle.hx_model.specs.Subnamespaces.{owned_node, owners_of}
use Rattle.hx_model.specs.Tree.{namespaces_in, is_terminating}
use Rattle.hx_model.specs.Valid.{IsValid}
use Rattle.hx_model.specs.Writes.{MayPut, MayCut, MayWrite, MayWriteAll, AreApart, HasPlace, are_joined, id_written, gives_name, removes_namespace, changes_names}
use Rattle.hx_model.specs.declared.key.Write.{Write}
use Rattle.hx_model.specs.declared.key.Write.TheVariants.{Put, Cut}
use Rattle.hx_model.proofs.Legality.{legal_replaced}
use Rattle.hx_model.proofs.Objects.{id_total, is_same_id, same_from_Equal, ascends-filter}
use Rattle.hx_model.proofs.Planting.{namespace_is_homed}
use Rattle.hx_admit.specs.Inside.{IsDeletion}
use Rattle.hx_admit.specs.Removing.{ended_at, ended_found}
use Rattle.hx_state.proofs.Counting.{valid_served}
use Rattle.hx_admit.proofs.Reviewing.{may_none}
use Rattle.hx_state.proofs.Alone.{alone_distinct, alone_apart, alone_naming}

-- ---- each namespace is found

-- each object is found under its identity
abbrev IsFoundIn : Objects → Object → Type 0
IsFoundIn objects x = object_at objects x.id ≡ Some x

all_apart : (y : Object) (objects some : Objects) → is_below_all y.id some ≡ true → AllByRecursion (IsFoundIn objects) some → AllByRecursion (IsFoundIn (y ∷ objects)) some
all_apart y objects [] low found = tt
all_apart y objects (x ∷ some) low found =
    let parts = and_parts (is_lt (id_cmp y.id x.id)) (is_below_all y.id some) low in
    let apart : same_id x.id y.id ≡ false = false_from_ne_true (same_id x.id y.id) (λ h. true≢false (sym parts.0 ∙ ap is_lt (ap (id_cmp y.id) (is_same_id x.id y.id h) ∙ tied_itself id_total y.id))) in
    (ap (λ b. cond b (Some y) (object_at objects x.id)) apart ∙ found.0, all_apart y objects some parts.1 found.1)

all_found : (objects : Objects) → ascends objects ≡ true → AllByRecursion (IsFoundIn objects) objects
all_found [] up = tt
all_found (y ∷ objects) up =
    let parts = and_parts (is_below_all y.id objects) (ascends objects) up in
    (ap (λ b. cond b (Some y) (object_at objects y.id)) (same_from_Equal y.id y.id (tied_itself id_total y.id)), all_apart y objects objects parts.0 (all_found objects parts.1))

-- a namespace that is stored, under its name
record IsStoredNamespace (s : State) (x : Object) : Type 0 where
  is : is_namespace x.id.kind ≡ true
  served : IsServed x
  found : object_at s.objects x.id ≡ Some x
  named : object_at s.objects (namespace_id x.id.name) ≡ Some x

stored_namespaces : (s : State) (some : Objects) → AllByRecursion IsServed some → AllByRecursion (IsFoundIn s.objects) some → AllByRecursion (IsStoredNamespace s) (namespaces_in some)
stored_namespaces s [] served found = tt
stored_namespaces s (x ∷ some) served found =
    elim (is_namespace x.id.kind) as (λ b. is_namespace x.id.kind ≡ b → AllByRecursion (IsStoredNamespace s) (cond b (x ∷ namespaces_in some) (namespaces_in some))) [
      | true ↦ λ is.
          (record { is = is; served = served.0; found = found.0; named = ap (object_at s.objects) (sym (namespace_is_homed x served.0 is)) ∙ found.0 }, stored_namespaces s some served.1 found.1)
      | false ↦ λ out. stored_namespaces s some served.1 found.1
    ] refl

all_stored : (s : State) → IsValid s → AllByRecursion (IsStoredNamespace s) (namespaces_in s.objects)
all_stored s valid = stored_namespaces s s.objects (valid_served s valid) (all_found s.objects valid.in_order)

-- ---- those that go with a namespace

module _ (s : State) (test : List ℕ → Bool) where
  abbrev leaves : Object → Bool
  leaves x = not (is_terminating x.payload) && test x.id.name

  -- of some namespaces, those whose names pass
  ended_each : (xs : Objects) → AllByRecursion (IsStoredNamespace s) xs → flat_map (ended_at s) (filter test (names_of (map (λ (x : Object). (x.id.name, owned_node x)) xs))) ≡ map (λ (x : Object). Put (ended (s.last + 1) x)) (filter leaves xs)
  ended_each [] stored = refl
  ended_each (x ∷ xs) stored =
      let rest = names_of (map (λ (y : Object). (y.id.name, owned_node y)) xs) in
      elim (test x.id.name) as (λ b. flat_map (ended_at s) (cond b (x.id.name ∷ filter test rest) (filter test rest)) ≡ map (λ (y : Object). Put (ended (s.last + 1) y)) (cond (not (is_terminating x.payload) && b) (x ∷ filter leaves xs) (filter leaves xs))) [
        | true ↦ flat_map-cons (ended_at s) x.id.name (filter test rest)
            ∙ ap (λ ws. ws ++ flat_map (ended_at s) (filter test rest)) (ap (ended_found (s.last + 1)) stored.0.named)
            ∙ here (is_terminating x.payload) (ended_each xs stored.1)
        | false ↦ ended_each xs stored.1 ∙ skipped (is_terminating x.payload)
      ]
    where
      here : (t : Bool) → flat_map (ended_at s) (filter test (names_of (map (λ (y : Object). (y.id.name, owned_node y)) xs))) ≡ map (λ (y : Object). Put (ended (s.last + 1) y)) (filter leaves xs)
          → ((if t then [] else Put (ended (s.last + 1) x) ∷ []) ++ flat_map (ended_at s) (filter test (names_of (map (λ (y : Object). (y.id.name, owned_node y)) xs)))) ≡ map (λ (y : Object). Put (ended (s.last + 1) y)) (cond (not t && true) (x ∷ filter leaves xs) (filter leaves xs))
      here true e = e
      here false e = ap (λ ws. Put (ended (s.last + 1) x) ∷ ws) e

      skipped : (t : Bool) → map (λ (y : Object). Put (ended (s.last + 1) y)) (filter leaves xs) ≡ map (λ (y : Object). Put (ended (s.last + 1) y)) (cond (not t && false) (x ∷ filter leaves xs) (filter leaves xs))
      skipped true = refl
      skipped false = refl

-- those that go with a namespace begin to leave, found under their names
pub ended_among : (s : State) → IsValid s → (n : List ℕ) → flat_map (ended_at s) (subtree_of (owners_of s) n) ≡ ending s n
ended_among s valid n = ended_each s (λ m. in_chain (owners_of s) m n) (namespaces_in s.objects) (all_stored s valid)

-- ---- what may be written

typed_ended : (kind : Kind) → is_typed kind (NamespaceOf true) ≡ true
typed_ended Secret = refl
typed_ended _ = refl

-- the payload of a namespace
phase_of : (kind : Kind) (payload : Payload) → kind ≡ Namespace → IsPayloadOf kind payload → with_status (NamespaceOf true) payload ≡ NamespaceOf true
phase_of kind (NamespaceOf t) is own = refl
phase_of kind (Config entries) is own = absurd (let h = sym is ∙ own in cc)
phase_of kind (Hierarchy a b c d) is own = absurd (let h = sym is ∙ own.0 in cc)
phase_of kind (Anchor status) is own = absurd (let h = sym is ∙ own in cc)
phase_of kind (Quota hard status) is own = absurd (let h = sym is ∙ own.0 in cc)
phase_of kind (Plain members need) is own = absurd (true≢false (sym own.0 ∙ ap is_plain is))

legal_ended : (x : Object) (version : ℕ) → is_namespace x.id.kind ≡ true → IsLegal x → IsLegal (ended version x)
legal_ended x version is legal =
    subst (λ (p : Payload). IsLegal (record x { payload = p; version = version })) (phase_of x.id.kind x.payload (namespace_kind x.id.kind is) legal.payload)
    (legal_replaced (record x { payload = NamespaceOf true; version = version }) x tt legal)

served_ended : (x : Object) (version : ℕ) → is_namespace x.id.kind ≡ true → IsServed x → IsServed (ended version x)
served_ended x version is served = record {
  legal = legal_ended x version is served.legal;
  kept = record { labels = served.kept.labels; annotations = served.kept.annotations; payload = refl; typed = typed_ended x.id.kind };
}

may_end : (s : State) (x : Object) → IsStoredNamespace s x → MayPut s (ended (s.last + 1) x)
may_end s x stored = record {
  served = served_ended x (s.last + 1) stored.is stored.served;
  next = refl;
  home = ap (λ (kind : Kind). has_home s.objects (record x.id { kind = kind })) (namespace_kind x.id.kind stored.is);
  place = λ _. subst (λ (o : Option Object). HasPlace o (ended (s.last + 1) x)) (sym stored.found) (record { annotation = refl; phase = λ _. refl });
}

-- a write by which a namespace begins to leave
record IsEnding (s : State) (w : Write) : Type 0 where
  may : MayWrite s w
  is : is_namespace (id_written w).kind ≡ true
  stays : removes_namespace w ≡ false
  unnamed : changes_names s.objects w ≡ false

is_ending : (s : State) (x : Object) → IsStoredNamespace s x → IsEnding s (Put (ended (s.last + 1) x))
is_ending s x stored = record {
  may = may_end s x stored;
  is = stored.is;
  stays = refl;
  unnamed = ap (λ (o : Option Object). gives_name x.id.kind && is_none o) stored.found ∙ and_false (gives_name x.id.kind);
}
  where
    and_false : (b : Bool) → (b && false) ≡ false
    and_false true = refl
    and_false false = refl

all_ending : (s : State) (test : Object → Bool) (xs : Objects) → AllByRecursion (IsStoredNamespace s) xs → AllByRecursion (IsEnding s) (map (λ (x : Object). Put (ended (s.last + 1) x)) (filter test xs))
all_ending s test [] stored = tt
all_ending s test (x ∷ xs) stored = elim (test x) as (λ b. AllByRecursion (IsEnding s) (map (λ (y : Object). Put (ended (s.last + 1) y)) (cond b (x ∷ filter test xs) (filter test xs)))) [
  | true ↦ (is_ending s x stored.0, all_ending s test xs stored.1)
  | false ↦ all_ending s test xs stored.1
]

-- ---- identities

-- each is less than those after it
apart_below : (id : Id) (version : ℕ) (test : Object → Bool) (xs : Objects) → is_below_all id xs ≡ true → AllByRecursion (λ q. same_id id q ≡ false) (map id_written (map (λ (x : Object). Put (ended version x)) (filter test xs)))
apart_below id version test [] low = tt
apart_below id version test (x ∷ xs) low =
    let parts = and_parts (is_lt (id_cmp id x.id)) (is_below_all id xs) low in
    let apart : same_id id x.id ≡ false = false_from_ne_true (same_id id x.id) (λ h. true≢false (sym parts.0 ∙ ap is_lt (ap (id_cmp id) (sym (is_same_id id x.id h)) ∙ tied_itself id_total id))) in
    elim (test x) as (λ b. AllByRecursion (λ q. same_id id q ≡ false) (map id_written (map (λ (y : Object). Put (ended version y)) (cond b (x ∷ filter test xs) (filter test xs))))) [
      | true ↦ (apart, apart_below id version test xs parts.1)
      | false ↦ apart_below id version test xs parts.1
    ]

distinct_ending : (version : ℕ) (test : Object → Bool) (xs : Objects) → ascends xs ≡ true → IsDistinct same_id (map id_written (map (λ (x : Object). Put (ended version x)) (filter test xs)))
unfolding IsDistinct
distinct_ending version test [] up = tt
distinct_ending version test (x ∷ xs) up =
    let parts = and_parts (is_below_all x.id xs) (ascends xs) up in
    elim (test x) as (λ b. IsDistinct same_id (map id_written (map (λ (y : Object). Put (ended version y)) (cond b (x ∷ filter test xs) (filter test xs))))) [
      | true ↦ (apart_below x.id version test xs parts.0, distinct_ending version test xs parts.1)
      | false ↦ distinct_ending version test xs parts.1
    ]

-- an anchor is no namespace
anchor_apart : (id : Id) (ids : List Id) → is_namespace id.kind ≡ false → AllByRecursion (λ (q : Id). is_namespace q.kind ≡ true) ids → AllByRecursion (λ q. same_id id q ≡ false) ids
anchor_apart id [] out are = tt
anchor_apart id (q ∷ ids) out are = (false_from_ne_true (same_id id q) (λ h. true≢false (sym are.0 ∙ ap (λ (r : Id). is_namespace r.kind) (sym (is_same_id id q h)) ∙ out)), anchor_apart id ids out are.1)

distinct_cons : (id : Id) (ids : List Id) → AllByRecursion (λ q. same_id id q ≡ false) ids → IsDistinct same_id ids → IsDistinct same_id (id ∷ ids)
unfolding IsDistinct
distinct_cons id ids apart distinct = (apart, distinct)

-- where no HierarchyConfiguration is written
unjoined : (ids : List Id) → AllByRecursion (λ (q : Id). is_hierarchy q.kind ≡ false) ids → AreApart ids
unjoined ids out = each ids
  where
    none : (a : Id) (bs : List Id) → AllByRecursion (λ (q : Id). is_hierarchy q.kind ≡ false) bs → AllByRecursion (λ b. are_joined a b ≡ false) bs
    none a [] out = tt
    none a (b ∷ bs) out = (by (is_namespace a.kind) (is_hierarchy b.kind) (bytes_eq a.name b.ns) out.0, none a bs out.1)
      where
        by : (p q r : Bool) → q ≡ false → (p && q && r) ≡ false
        by true true r e = absurd (true≢false e)
        by true false r e = refl
        by false q r e = refl

    each : (some : List Id) → AllByRecursion (λ a. AllByRecursion (λ b. are_joined a b ≡ false) ids) some
    each [] = tt
    each (a ∷ some) = (none a ids out, each some)

-- ---- the writes of a DELETE

all_by : {A : Type 0} (P Q : A → Type 0) (xs : List A) → ((x : A) → P x → Q x) → AllByRecursion P xs → AllByRecursion Q xs
all_by P Q [] f all = tt
all_by P Q (x ∷ xs) f all = (f x all.0, all_by P Q xs f all.1)

all_ids : (P : Id → Type 0) (ws : List Write) → AllByRecursion (λ w. P (id_written w)) ws → AllByRecursion P (map id_written ws)
all_ids P [] all = tt
all_ids P (w ∷ ws) all = (all.0, all_ids P ws all.1)

none_any : {A : Type 0} (t : A → Bool) (xs : List A) → AllByRecursion (λ x. t x ≡ false) xs → list_any t xs ≡ false
none_any t [] all = refl
none_any t (x ∷ xs) all = ap (λ b. b || list_any t xs) all.0 ∙ none_any t xs all.1

none_kept : {A : Type 0} (t : A → Bool) (xs : List A) → AllByRecursion (λ x. t x ≡ false) xs → filter t xs ≡ []
none_kept t [] all = refl
none_kept t (x ∷ xs) all = ap (λ b. cond b (x ∷ filter t xs) (filter t xs)) all.0 ∙ none_kept t xs all.1

no_hierarchy : (kind : Kind) → is_namespace kind ≡ true → is_hierarchy kind ≡ false
no_hierarchy kind is = ap is_hierarchy (namespace_kind kind is)

no_hierarchy_anchor : (kind : Kind) → is_anchor kind ≡ true → (is_hierarchy kind ≡ false) × (is_namespace kind ≡ false)
no_hierarchy_anchor SubnamespaceAnchor is = (refl, refl)
no_hierarchy_anchor _ is = absurd (true≢false (sym is))

module _ (s : State) (valid : IsValid s) where
  ends : (n : List ℕ) → AllByRecursion (IsEnding s) (ending s n)
  ends n = all_ending s (begins_to_leave s n) (namespaces_in s.objects) (all_stored s valid)

  in_order : ascends (namespaces_in s.objects) ≡ true
  in_order = ascends-filter (λ (x : Object). is_namespace x.id.kind) s.objects valid.in_order

  -- a namespace, and what goes with it
  may_end_all : (n : List ℕ) → (ending s n ≢ [] → s.last < greatest_version) → MayWriteAll s (ending s n)
  may_end_all n fits = record {
    each = all_by (IsEnding s) (MayWrite s) (ending s n) (λ w e. e.may) (ends n);
    distinct = distinct_ending (s.last + 1) (begins_to_leave s n) (namespaces_in s.objects) in_order;
    apart = unjoined (map id_written (ending s n)) (all_ids (λ (q : Id). is_hierarchy q.kind ≡ false) (ending s n) (all_by (IsEnding s) (λ w. is_hierarchy (id_written w).kind ≡ false) (ending s n) (λ w e. no_hierarchy (id_written w).kind e.is) (ends n)));
    alone = λ some. absurd (true≢false (sym some ∙ none_any removes_namespace (ending s n) (all_by (IsEnding s) (λ w. removes_namespace w ≡ false) (ending s n) (λ w e. e.stays) (ends n))));
    naming = few (none_kept (changes_names s.objects) (ending s n) (all_by (IsEnding s) (λ w. changes_names s.objects w ≡ false) (ending s n) (λ w e. e.unnamed) (ends n)));
    fits = fits;
  }
    where
      few : {ws : List Write} → ws ≡ [] → length ws ≤ 1
      few e = rw e (omega arith)

  -- an object that is no namespace
  may_cut : (id : Id) (x : Object) → object_at s.objects id ≡ Some x → is_namespace id.kind ≡ false → MayCut s id
  may_cut id x there out = record { there = (x, there); leaf = λ is. absurd (true≢false (sym is ∙ out)) }

  may_cut_alone : (id : Id) (x : Object) → object_at s.objects id ≡ Some x → is_namespace id.kind ≡ false → s.last < greatest_version → MayWriteAll s (Cut id ∷ [])
  may_cut_alone id x there out fits = record {
    each = (may_cut id x there out, tt);
    distinct = alone_distinct id;
    apart = alone_apart id;
    alone = λ _. refl;
    naming = alone_naming s.objects (Cut id);
    fits = λ _. fits;
  }

  -- an anchor, and what goes with it
  may_cut_anchor : (id : Id) (x : Object) → object_at s.objects id ≡ Some x → is_anchor id.kind ≡ true → s.last < greatest_version → MayWriteAll s (Cut id ∷ ending s id.name)
  may_cut_anchor id x there is fits =
      let out = no_hierarchy_anchor id.kind is in
      let rest = may_end_all id.name (λ _. fits) in
      let are = all_ids (λ (q : Id). is_namespace q.kind ≡ true) (ending s id.name) (all_by (IsEnding s) (λ w. is_namespace (id_written w).kind ≡ true) (ending s id.name) (λ w e. e.is) (ends id.name)) in
      record {
        each = (may_cut id x there out.1, rest.each);
        distinct = distinct_cons id (map id_written (ending s id.name)) (anchor_apart id (map id_written (ending s id.name)) out.1 are) rest.distinct;
        apart = unjoined (id ∷ map id_written (ending s id.name)) (out.0, all_by (λ (q : Id). is_namespace q.kind ≡ true) (λ (q : Id). is_hierarchy q.kind ≡ false) (map id_written (ending s id.name)) (λ (q : Id) e. no_hierarchy q.kind e) are);
        alone = λ some. absurd (true≢false (sym some ∙ ap (λ b. b || list_any removes_namespace (ending s id.name)) out.1 ∙ none_any removes_namespace (ending s id.name) (all_by (IsEnding s) (λ w. removes_namespace w ≡ false) (ending s id.name) (λ w e. e.stays) (ends id.name))));
        naming = one (gives_name id.kind) (none_kept (changes_names s.objects) (ending s id.name) (all_by (IsEnding s) (λ w. changes_names s.objects w ≡ false) (ending s id.name) (λ w e. e.unnamed) (ends id.name)));
        fits = λ _. fits;
      }
    where
      one : (b : Bool) → filter (changes_names s.objects) (ending s id.name) ≡ [] → length (cond b (Cut id ∷ filter (changes_names s.objects) (ending s id.name)) (filter (changes_names s.objects) (ending s id.name))) ≤ 1
      one true e = rw e (omega arith)
      one false e = rw e (omega arith)

-- some writes of which this is the first
some_first : (w : Write) (ws : List Write) → (w ∷ ws) ≢ []
some_first w ws e = cc

-- the writes of a DELETE may be made
pub may_delete : (s : State) (id : Id) (old : Object) (skip : Bool) (writes : List Write) → IsDeletion s id old skip writes → (writes ≢ [] → s.last < greatest_version) → MayWriteAll s writes
may_delete s id old skip writes d fits = subst (MayWriteAll s) (sym d.changes) (by (is_namespace id.kind) (is_ended (object_at s.objects id)) (is_anchor id.kind) (not skip && owns_named s id) refl refl (subst (λ ws. ws ≢ [] → s.last < greatest_version) d.changes fits))
  where
    by : (a b c e : Bool) → is_namespace id.kind ≡ a → is_anchor id.kind ≡ c
        → ((if a then (if b then [] else ending s id.name) else (if c && e then Cut id ∷ ending s id.name else Cut id ∷ [])) ≢ [] → s.last < greatest_version)
        → MayWriteAll s (if a then (if b then [] else ending s id.name) else (if c && e then Cut id ∷ ending s id.name else Cut id ∷ []))
    by true true c e is anchor fits = may_none s [] refl
    by true false c e is anchor fits = may_end_all s d.valid id.name fits
    by false b true true out is fits = may_cut_anchor s d.valid id old d.there is (fits (some_first (Cut id) (ending s id.name)))
    by false b true false out is fits = may_cut_alone s d.valid id old d.there out (fits (some_first (Cut id) []))
    by false b false e out is fits = may_cut_alone s d.valid id old d.there out (fits (some_first (Cut id) []))
