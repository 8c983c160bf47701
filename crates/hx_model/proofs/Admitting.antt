-- Limits after an admitted POST or PUT that raises a charge.
--     charged_plain        what is charged is of a kind that is kept as it is given
--     charge-replaced      a replacement is charged what the object is that is given
--     quotas-put           an object of such a kind leaves the quotas that hold for a namespace
--     used-put             and adds its charge to what the namespaces above it use
--     held_at_admission    where it is admitted, the limits of what it raises hold afterwards
use Rattle.std.proofs.Common.{◌≡◌, ◌≤◌, ◌<◌, ◌+◌, ℕ, Bool, true, false, cond, not, ◌&&◌, Option, Some, None, List, [], ◌∷◌, ◌++◌, filter, flat_map, sum_by, Less, Equal, Greater, refl, sym, ap, ◌∙◌, subst, arith, true≢false, nat_lt, ltb-false, lt-ltb}
use Rattle.std.specs.Prelude.{is_some, is_none, if◌then◌else◌, ◌==◌, option_and_then}
use Rattle.std.specs.List.{AllByRecursion}
use Rattle.std.specs.Str.{bytes_eq}
use Rattle.std.specs.FinMap.Entries.{by_order}
use Rattle.std.proofs.lemmas.Bool.{and_parts, or_left, or_right, true_from_ne_false}
use Rattle.hx_object.proofs.Sameness.{exact_object}
use Rattle.hx_object.specs.Kinds.{is_plain, number_of}
use Rattle.hx_object.specs.Order.{id_cmp}
use Rattle.hx_object.specs.declared.kind.Kind.{Kind}
use Rattle.hx_object.specs.declared.kind.Kind.TheVariants as of
use Rattle.hx_object.specs.declared.object.Id.{Id}
use Rattle.hx_object.specs.declared.object.Limit.{Limit}
use Rattle.hx_object.specs.declared.object.Object.{Object}
use Rattle.hx_object.specs.declared.object.Payload.{Payload}
use Rattle.hx_object.specs.declared.object.Payload.TheVariants.{Namespace as NamespaceOf, Hierarchy, Anchor, Quota}
use Rattle.hx_model.specs.Answers.{with_status, replaced_by, same_object, replacing, refusal_of, writes_of, place_refusal, version_refusal, rule_refusal, quota_refusal}
use Rattle.hx_model.specs.Charges.{charge_of, charge_by, is_pod, is_claim, is_finished, storage_in, containers_in, asked_by, is_charged, hard_of}
use Rattle.hx_model.specs.First.{so, or_else, first_of}
use Rattle.hx_model.specs.Forest.{is_in, chain_of, in_chain}
use Rattle.hx_model.specs.Limits.{is_copy, is_namespace, is_hierarchy, part_of}
use Rattle.hx_model.specs.Overruns.{IsWithin, AreWithin, HoldsFor, IsHeldAtAdmission}
use Rattle.hx_model.specs.Quotas.{quotas_in, quotas_for, charge_below, used, charge_before, rise_of, over_by, over_limit, over_quota, first_over, refused_by_quotas}
use Rattle.hx_model.specs.State.{State, Objects, object_at, put, ascends, is_listed, with_version, state_after}
use Rattle.hx_model.specs.Tree.{forest_of}
use Rattle.hx_model.specs.declared.ask.Ask.{Ask}
use Rattle.hx_model.specs.declared.ask.Ask.TheVariants.{Get, List as ListOf, Create, Replace, Delete, Document as DocumentOf, Events as EventsSince}
use Rattle.hx_model.specs.declared.key.Write.TheVariants.{Put}
use Rattle.hx_model.specs.declared.resource.Resource.{Resource}
use Rattle.hx_model.specs.declared.resource.Resource.TheVariants.{Pods, RequestsCpu, RequestsMemory, LimitsCpu, LimitsMemory, RequestsStorage}
use Rattle.hx_model.proofs.Climbing.{same_itself, is_same}
use Rattle.hx_model.proofs.Freely.{free_elsewhere}
use Rattle.hx_model.proofs.Objects.{exact_ids, found_id, sum-put}
use Rattle.hx_model.proofs.Planting.{forest-put}

-- ---- charges

pub charged_plain : (x : Object) (r : Resource) → 0 < charge_of x r → is_plain x.id.kind ≡ true
charged_plain x r charged = true_from_ne_false (is_plain x.id.kind) (λ other. let none : charge_of x r ≡ 0 = free_elsewhere x other r in omega (arith, none, charged))

-- such a kind isn't one of those that make the tree, nor that of quotas
plain_apart : (kind : Kind) → is_plain kind ≡ true → (is_namespace kind ≡ false) × (is_hierarchy kind ≡ false) × ((number_of of.HierarchicalResourceQuota == number_of kind) ≡ false)
plain_apart of.Namespace plain = absurd (true≢false (sym plain))
plain_apart of.HncConfiguration plain = absurd (true≢false (sym plain))
plain_apart of.HierarchyConfiguration plain = absurd (true≢false (sym plain))
plain_apart of.SubnamespaceAnchor plain = absurd (true≢false (sym plain))
plain_apart of.HierarchicalResourceQuota plain = absurd (true≢false (sym plain))
plain_apart _ plain = (refl, refl, refl)

-- what was read of two payloads is alike
pub record ReadsAlike (p q : Payload) : Type 0 where
  pub finished : is_finished p ≡ is_finished q
  pub storage : storage_in p ≡ storage_in q
  pub containers : containers_in p ≡ containers_in q

charge_alike : (kind : Kind) (p q : Payload) (r : Resource) → ReadsAlike p q → charge_by kind p r ≡ charge_by kind q r
charge_alike kind p q Pods alike = ap (λ b. if is_pod kind && not b then 1000 else 0) alike.finished
charge_alike kind p q RequestsCpu alike = λ i. if is_pod kind && not (alike.finished i) then asked_by 0 (alike.containers i) else 0
charge_alike kind p q RequestsMemory alike = λ i. if is_pod kind && not (alike.finished i) then asked_by 1 (alike.containers i) else 0
charge_alike kind p q LimitsCpu alike = λ i. if is_pod kind && not (alike.finished i) then asked_by 2 (alike.containers i) else 0
charge_alike kind p q LimitsMemory alike = λ i. if is_pod kind && not (alike.finished i) then asked_by 3 (alike.containers i) else 0
charge_alike kind p q RequestsStorage alike = ap (λ n. if is_claim kind then n else 0) alike.storage
charge_alike kind p q _ alike = refl

pub alike_itself : (p : Payload) → ReadsAlike p p
alike_itself p = record { finished = refl; storage = refl; containers = refl }

-- a status tells nothing that is charged
pub status_alike : (old x : Payload) → ReadsAlike (with_status old x) x
status_alike (NamespaceOf _) (NamespaceOf _) = record { finished = refl; storage = refl; containers = refl }
status_alike (NamespaceOf _) x = alike_itself x
status_alike (Hierarchy _ _ _ _) (Hierarchy _ _ _ _) = record { finished = refl; storage = refl; containers = refl }
status_alike (Hierarchy _ _ _ _) x = alike_itself x
status_alike (Anchor _) (Anchor _) = record { finished = refl; storage = refl; containers = refl }
status_alike (Anchor _) x = alike_itself x
status_alike (Quota _ _) (Quota _ _) = record { finished = refl; storage = refl; containers = refl }
status_alike (Quota _ _) x = alike_itself x
status_alike _ x = alike_itself x

-- an object with another payload and version
abbrev pub made : Object → Payload → ℕ → Object
made x payload version = record x { payload = payload; version = version }

-- one that reads alike is charged the same
pub charge_made : (x : Object) (payload : Payload) (version : ℕ) (r : Resource) → ReadsAlike payload x.payload → charge_of (made x payload version) r ≡ charge_of x r
unfolding charge_of is_copy
charge_made x payload version r alike = ap (λ n. if is_charged x then n else 0) (charge_alike x.id.kind payload x.payload r alike)

pub charge-replaced : (old x : Object) (r : Resource) → charge_of (replaced_by old x) r ≡ charge_of x r
charge-replaced old x r = charge_made x (with_status old.payload x.payload) old.version r (status_alike old.payload x.payload)

-- ---- quotas

-- rows that a test of identities keeps, where what is put fails it
filter-put : (p : Id → Bool) (x : Object) (objects : Objects) → p x.id ≡ false → filter (λ (y : Object). p y.id) (put x objects) ≡ filter (λ (y : Object). p y.id) objects
filter-put p x [] out = ap (λ b. cond b (x ∷ []) []) out
filter-put p x (y ∷ objects) out =
    elim (id_cmp x.id y.id) as (λ o. id_cmp x.id y.id ≡ o → filter (λ (z : Object). p z.id) (by_order o (x ∷ y ∷ objects) (x ∷ objects) (y ∷ put x objects)) ≡ filter (λ (z : Object). p z.id) (y ∷ objects)) [
      | Less ↦ λ e. dropped x out (y ∷ objects)
      | Equal ↦ λ e. dropped x out objects ∙ sym (dropped y (subst (λ (q : Id). p q ≡ false) (exact_ids x.id y.id e) out) objects)
      | Greater ↦ λ e. ap (λ (l : Objects). cond (p y.id) (y ∷ l) l) (filter-put p x objects out)
    ] refl
  where
    dropped : (z : Object) → p z.id ≡ false → (rows : Objects) → filter (λ (u : Object). p u.id) (z ∷ rows) ≡ filter (λ (u : Object). p u.id) rows
    dropped z fails rows = ap (λ b. cond b (z ∷ filter (λ (u : Object). p u.id) rows) (filter (λ (u : Object). p u.id) rows)) fails

module _ (s : State) (z : Object) (plain : is_plain z.id.kind ≡ true) where
  abbrev next : State
  next = state_after s (Put z ∷ [])

  same_forest : forest_of next ≡ forest_of s
  same_forest = let apart = plain_apart z.id.kind plain in forest-put s.config.excluded z s.objects apart.0 apart.1

  same_quotas : (a : List ℕ) → quotas_in next.objects a ≡ quotas_in s.objects a
  same_quotas a = filter-put (λ id. (number_of of.HierarchicalResourceQuota == number_of id.kind) && bytes_eq id.ns a) z s.objects (ap (λ b. b && bytes_eq z.id.ns a) (plain_apart z.id.kind plain).2)

  pub quotas-put : (n : List ℕ) → quotas_for next n ≡ quotas_for s n
  quotas-put n = λ i. flat_map (λ a. same_quotas a i) (chain_of (same_forest i) n)

  pub used-put : (a : List ℕ) (r : Resource) → ascends s.objects ≡ true → in_chain (forest_of s) z.id.ns a ≡ true → used next a r + charge_before (object_at s.objects z.id) r ≡ used s a r + charge_of z r
  unfolding used
  used-put a r up inside =
      let f : Object → ℕ = charge_below (forest_of s) a r in
      let tree : sum_by (charge_below (forest_of next) a r) next.objects ≡ sum_by f (put z s.objects) = ap (λ t. sum_by (charge_below t a r) (put z s.objects)) same_forest in
      let sum : sum_by f (put z s.objects) + part_of f (object_at s.objects z.id) ≡ sum_by f s.objects + f z = sum-put f z s.objects up in
      let own : f z ≡ charge_of z r = ap (λ b. if b then charge_of z r else 0) inside in
      let old : part_of f (object_at s.objects z.id) ≡ charge_before (object_at s.objects z.id) r = by (object_at s.objects z.id) refl in
      omega (arith, tree, sum, own, old)
    where
      by : (found : Option Object) → object_at s.objects z.id ≡ found → part_of (charge_below (forest_of s) a r) found ≡ charge_before found r
      by None there = refl
      by (Some y) there = ap (λ b. if b then charge_of y r else 0) (sym (ap (λ (q : Id). in_chain (forest_of s) q.ns a) (found_id s.objects z.id y there)) ∙ inside)

-- ---- the quotas of a chain lie in it

all_append : (P : Object → Type 0) (xs ys : Objects) → AllByRecursion P xs → AllByRecursion P ys → AllByRecursion P (xs ++ ys)
all_append P [] ys p q = q
all_append P (x ∷ xs) ys p q = (p.0, all_append P xs ys p.1 q)

lie_in : (a : List ℕ) (chain : List (List ℕ)) (objects : Objects) → is_in a chain ≡ true → AllByRecursion (λ (q : Object). is_in q.id.ns chain ≡ true) (quotas_in objects a)
lie_in a chain [] here = tt
lie_in a chain (x ∷ objects) here =
    elim (is_listed of.HierarchicalResourceQuota (Some a) x) as (λ b. is_listed of.HierarchicalResourceQuota (Some a) x ≡ b → AllByRecursion (λ (q : Object). is_in q.id.ns chain ≡ true) (cond b (x ∷ quotas_in objects a) (quotas_in objects a))) [
      | true ↦ λ is. (subst (λ (n : List ℕ). is_in n chain ≡ true) (sym (is_same x.id.ns a (and_parts _ (bytes_eq x.id.ns a) is).1)) here, lie_in a chain objects here)
      | false ↦ λ other. lie_in a chain objects here
    ] refl

lie_along : (objects : Objects) (chain names : List (List ℕ)) → ((a : List ℕ) → is_in a names ≡ true → is_in a chain ≡ true) → AllByRecursion (λ (q : Object). is_in q.id.ns chain ≡ true) (flat_map (quotas_in objects) names)
lie_along objects chain [] among = tt
lie_along objects chain (a ∷ names) among =
    all_append _ (quotas_in objects a) (flat_map (quotas_in objects) names)
    (lie_in a chain objects (among a (or_left (bytes_eq a a) (is_in a names) (same_itself a))))
    (lie_along objects chain names (λ b h. among b (or_right (bytes_eq b a) (is_in b names) h)))

-- ---- what isn't refused

none_left : {A : Type 0} (a b : Option A) → or_else a b ≡ None → a ≡ None
none_left None b none = refl
none_left (Some x) b none = none

none_right : {A : Type 0} (a b : Option A) → or_else a b ≡ None → b ≡ None
none_right None b none = none
none_right (Some x) b none = absurd (true≢false (ap is_some none))

fails_so : {A : Type 0} (test : Bool) (a : A) → so test a ≡ None → test ≡ false
fails_so true a none = absurd (true≢false (ap is_some none))
fails_so false a none = refl

-- where a rise doesn't pass a limit, the sum with it is within
within_by : (sum rise amount : ℕ) → 0 < rise → (nat_lt 0 rise && nat_lt amount (sum + rise)) ≡ false → sum + rise ≤ amount
within_by sum rise amount rises fails =
    let over : nat_lt amount (sum + rise) ≡ false = sym (ap (λ b. b && nat_lt amount (sum + rise)) (lt-ltb 0 rise rises)) ∙ fails in
    omega (arith, ltb-false amount (sum + rise) over)

module _ (s : State) (x : Object) (payload : Payload) (version : ℕ) (r : Resource) (old : Option Object) (up : ascends s.objects ≡ true) (there : object_at s.objects x.id ≡ old) (alike : ReadsAlike payload x.payload) (rises : 0 < rise_of old x r) where
  abbrev after : State
  after = state_after s (Put (made x payload version) ∷ [])

  plain_kind : is_plain x.id.kind ≡ true
  plain_kind = charged_plain x r (omega (arith, rises))

  -- what is used by the namespaces above it
  used_after : (a : List ℕ) → in_chain (forest_of s) x.id.ns a ≡ true → used after a r ≡ used s a r + rise_of old x r
  used_after a inside =
      let sum : used after a r + charge_before (object_at s.objects x.id) r ≡ used s a r + charge_of (made x payload version) r = used-put s (made x payload version) plain_kind a r up inside in
      let before : charge_before (object_at s.objects x.id) r ≡ charge_before old r = ap (λ o. charge_before o r) there in
      let own : charge_of (made x payload version) r ≡ charge_of x r = charge_made x payload version r alike in
      omega (arith, sum, before, own, rises)

  limit_within : (q : Object) (limit : Limit) → in_chain (forest_of s) x.id.ns q.id.ns ≡ true → over_limit s old x q limit ≡ None → IsWithin after r q limit
  limit_within q limit inside none named =
      let passes : over_by (used s q.id.ns r) (rise_of old x r) q.id limit ≡ None = sym (ap (option_and_then (λ p. over_by (used s q.id.ns p) (rise_of old x p) q.id limit)) named) ∙ none in
      let within : used s q.id.ns r + rise_of old x r ≤ limit.amount = within_by (used s q.id.ns r) (rise_of old x r) limit.amount rises (fails_so _ _ passes) in
      omega (arith, within, used_after q.id.ns inside)

  limits_within : (q : Object) (limits : List Limit) → in_chain (forest_of s) x.id.ns q.id.ns ≡ true → first_of (over_limit s old x q) limits ≡ None → AllByRecursion (IsWithin after r q) limits
  limits_within q [] inside none = tt
  limits_within q (limit ∷ limits) inside none =
      (limit_within q limit inside (none_left (over_limit s old x q limit) (first_of (over_limit s old x q) limits) none), limits_within q limits inside (none_right (over_limit s old x q limit) (first_of (over_limit s old x q) limits) none))

  quotas_within : (quotas : Objects) → AllByRecursion (λ (q : Object). in_chain (forest_of s) x.id.ns q.id.ns ≡ true) quotas → first_over s old x quotas ≡ None
      → AreWithin after r quotas
  quotas_within [] inside none = tt
  quotas_within (q ∷ quotas) inside none =
      (limits_within q (hard_of q.payload) inside.0 (none_left (over_quota s old x q) (first_over s old x quotas) none), quotas_within quotas inside.1 (none_right (over_quota s old x q) (first_over s old x quotas) none))

  held_after : refused_by_quotas s old x ≡ None → HoldsFor after x.id.ns r
  held_after none =
      let all : AreWithin after r (quotas_for s x.id.ns) =
      quotas_within (quotas_for s x.id.ns) (lie_along s.objects (chain_of (forest_of s) x.id.ns) (chain_of (forest_of s) x.id.ns) (λ a h. h)) (none_right _ (first_over s old x (quotas_for s x.id.ns)) none) in
      subst (λ (quotas : Objects). AreWithin after r quotas) (sym (quotas-put s (made x payload version) plain_kind x.id.ns)) all

-- ---- admission

is_same_object : (a b : Object) → same_object a b ≡ true → a ≡ b
unfolding same_object
is_same_object a b same = exact_object a b same

-- what an ask that isn't refused passes
passed_place : (s : State) (ask : Ask) → refusal_of s ask ≡ None → place_refusal s ask ≡ None
passed_place s ask none = none_left (place_refusal s ask) _ none

passed_quotas : (s : State) (ask : Ask) → refusal_of s ask ≡ None → quota_refusal s ask ≡ None
passed_quotas s ask none =
    none_left (quota_refusal s ask) _ (none_right (rule_refusal s ask) _ (none_right (version_refusal s ask) _ (none_right (place_refusal s ask) _ none)))

module _ (s : State) (x : Object) (r : Resource) (up : ascends s.objects ≡ true) where
  created : (skip : Bool) → refusal_of s (Create x skip) ≡ None → 0 < rise_of (object_at s.objects x.id) x r → HoldsFor (state_after s (Put (with_version x (s.last + 1)) ∷ [])) x.id.ns r
  created skip none rises =
      let absent : object_at s.objects x.id ≡ None = not_there (object_at s.objects x.id) (fails_so _ _ (none_left _ None (none_right _ _ (passed_place s (Create x skip) none)))) in
      held_after s x x.payload (s.last + 1) r None up absent (alike_itself x.payload) (subst (λ o. 0 < rise_of o x r) absent rises) (passed_quotas s (Create x skip) none)
    where
      not_there : (found : Option Object) → is_some found ≡ false → found ≡ None
      not_there None e = refl
      not_there (Some y) e = absurd (true≢false e)

  replaced : (found : Option Object) → object_at s.objects x.id ≡ found → is_none found ≡ false → refused_by_quotas s found x ≡ None → 0 < rise_of found x r → HoldsFor (state_after s (replacing found x (s.last + 1))) x.id.ns r
  replaced None there some none rises = absurd (true≢false some)
  replaced (Some old) there some none rises = by (same_object (replaced_by old x) old) refl
    where
      by : (b : Bool) → same_object (replaced_by old x) old ≡ b → HoldsFor (state_after s (if b then [] else Put (with_version (replaced_by old x) (s.last + 1)) ∷ [])) x.id.ns r
      by true same =
          let charge : charge_of x r ≡ charge_of old r = sym (charge-replaced old x r) ∙ ap (λ y. charge_of y r) (is_same_object (replaced_by old x) old same) in
          absurd (omega (arith, charge, rises))
      by false other = held_after s x (with_status old.payload x.payload) (s.last + 1) r (Some old) up there (status_alike old.payload x.payload) rises none

pub held_at_admission : IsHeldAtAdmission
held_at_admission s (Create y skip) x r up given none rises =
    let same : y ≡ x = cc in
    subst (λ (z : Object). 0 < rise_of (object_at s.objects z.id) z r → HoldsFor (state_after s (writes_of s (Create y skip))) z.id.ns r) same (created s y r up skip none) rises
held_at_admission s (Replace y expected skip) x r up given none rises =
    let same : y ≡ x = cc in
    subst (λ (z : Object). 0 < rise_of (object_at s.objects z.id) z r → HoldsFor (state_after s (writes_of s (Replace y expected skip))) z.id.ns r) same
    (replaced s y r up (object_at s.objects y.id) refl (fails_so _ _ (passed_place s (Replace y expected skip) none)) (passed_quotas s (Replace y expected skip) none)) rises
held_at_admission s (Get id) x r up given none rises = absurd (true≢false (sym (ap is_some given)))
held_at_admission s (ListOf kind ns selector fields) x r up given none rises = absurd (true≢false (sym (ap is_some given)))
held_at_admission s (DocumentOf document) x r up given none rises = absurd (true≢false (sym (ap is_some given)))
held_at_admission s (EventsSince version) x r up given none rises = absurd (true≢false (sym (ap is_some given)))
held_at_admission s (Delete id skip) x r up given none rises = absurd (true≢false (sym (ap is_some given)))
