-- What is written without a charge.
--     free_elsewhere, free_copy    objects of a kind that isn't kept as it is given are charged nothing;  nor are copies
--     is_copy-copied               what is copied is a copy
--     keys_raise_nothing           what a key wants raises no charge
--     deletions_raise_nothing      nor does a DELETE
use Rattle.std.proofs.Common.{◌≡◌, ℕ, ◌+◌, ◌-◌, Bool, true, false, cond, not, ◌&&◌, Option, Some, None, List, [], ◌∷◌, map, filter, Less, Equal, Greater, refl, sym, ap, ◌∙◌, arith, true≢false, bytes_eq}
use Rattle.std.specs.Prelude.{is_some, if◌then◌else◌}
use Rattle.std.specs.FinMap.Entries.{by_order}
use Rattle.std.proofs.lemmas.Bool.{and_parts, and_from, and_right}
use Rattle.hx_object.proofs.KindTests.{namespace_kind}
use Rattle.hx_object.specs.Kinds.{is_plain, is_namespace, can_be_copied}
use Rattle.hx_object.specs.Pairs.{value_of, with_pair}
use Rattle.hx_object.specs.Texts.{bytes_cmp}
use Rattle.hx_object.specs.WellKnown.{inherited_from}
use Rattle.hx_object.specs.declared.object.AnchorStatus.{AnchorStatus}
use Rattle.hx_object.specs.declared.object.Condition.{Condition}
use Rattle.hx_object.specs.declared.object.Id.{Id}
use Rattle.hx_object.specs.declared.object.Mode.{Mode}
use Rattle.hx_object.specs.declared.object.Mode.TheVariants.{Propagate, AllowPropagate, Remove, Ignore}
use Rattle.hx_object.specs.declared.object.Object.{Object}
use Rattle.hx_model.specs.Answers.{same_object, begins_to_leave, ended, ending, is_ended, owns_named}
use Rattle.hx_model.specs.Charges.{charge_of, charge_by}
use Rattle.hx_model.specs.First.{so}
use Rattle.hx_model.specs.Forest.{chain_of, children_of, is_live}
use Rattle.hx_model.specs.Hands.{writes_for}
use Rattle.hx_model.specs.Limits.{is_copy, is_anchor}
use Rattle.hx_model.specs.Modes.{mode_of}
use Rattle.hx_model.specs.Moves.{is_eligible}
use Rattle.hx_model.specs.Overruns.{raised_by, RaiseNothing, KeysRaiseNothing, DeletionsRaiseNothing}
use Rattle.hx_model.specs.Propagation.{is_source, is_propagated, goes_to, copy_of, id_in, sources_above, top_of}
use Rattle.hx_model.specs.Quotas.{charge_before}
use Rattle.hx_model.specs.Reports.{report_write, with_report, bare_report, conditions_of}
use Rattle.hx_model.specs.State.{State, Objects, object_at, namespace_id, with_version}
use Rattle.hx_model.specs.Subnamespaces.{anchor_id}
use Rattle.hx_model.specs.Tree.{forest_of, hierarchy_id, namespaces_in}
use Rattle.hx_model.specs.TreeLabels.{is_open}
use Rattle.hx_model.specs.Wanted.{anchor_status, placed, without_copy, copied, copied_in, copy_write, labelled, tree_write, subnamespace, with_status_of, anchor_write, quota_id, sums_of, with_sums, used_write, wanted_write}
use Rattle.hx_model.specs.declared.key.Key.{Key}
use Rattle.hx_model.specs.declared.key.Key.TheVariants as key
use Rattle.hx_model.specs.declared.key.Write.{Write}
use Rattle.hx_model.specs.declared.key.Write.TheVariants.{Put, Cut}
use Rattle.hx_model.specs.declared.resource.Resource.{Resource}
use Rattle.hx_model.proofs.Climbing.{same_itself}
use Rattle.hx_model.proofs.Objects.{found_id}

-- ---- objects that are charged nothing

-- an object is charged nothing
abbrev IsFree : Object → Type 0
IsFree x = (r : Resource) → charge_of x r ≡ 0

pub free_elsewhere : (x : Object) → is_plain x.id.kind ≡ false → IsFree x
unfolding charge_of
free_elsewhere x other r = ap (λ b. if b && not (is_copy x) then charge_by x.id.kind x.payload r else 0) other

pub free_copy : (x : Object) → is_copy x ≡ true → IsFree x
unfolding charge_of
free_copy x is r = ap (λ b. if b then charge_by x.id.kind x.payload r else 0) (and_right (is_plain x.id.kind) (not (is_copy x)) (ap not is))

-- also with another version
free_versioned : (x : Object) (version : ℕ) → IsFree x → IsFree (with_version x version)
unfolding charge_of is_copy
free_versioned x version free = free

-- and wherever it is put
raises_nothing : (s : State) (x : Object) (r : Resource) → IsFree x → raised_by s (Put x) r ≡ 0
raises_nothing s x r free = ap (λ n. n - charge_before (object_at s.objects x.id) r) (free r) ∙ omega arith

-- ---- copies

value_with_pair : (key value : List ℕ) (pairs : List (List ℕ × List ℕ)) → is_some (value_of (with_pair key value pairs) key) ≡ true
value_with_pair key value [] = ap (λ b. is_some (cond b (Some value) None)) (same_itself key)
value_with_pair key value (pair ∷ pairs) =
    elim (bytes_cmp key pair.0) as (λ o. is_some (value_of (by_order o ((key, value) ∷ pair ∷ pairs) ((key, value) ∷ pairs) (pair ∷ with_pair key value pairs)) key) ≡ true) [
      | Less ↦ ap (λ b. is_some (cond b (Some value) (value_of (pair ∷ pairs) key))) (same_itself key)
      | Equal ↦ ap (λ b. is_some (cond b (Some value) (value_of pairs key))) (same_itself key)
      | Greater ↦ either (bytes_eq key pair.0) (value_with_pair key value pairs)
    ]
  where
    either : (b : Bool) → is_some (value_of (with_pair key value pairs) key) ≡ true → is_some (cond b (Some pair.1) (value_of (with_pair key value pairs) key)) ≡ true
    either true later = refl
    either false later = later

-- what is copied is a copy
pub is_copy-copied : (x : Object) (n : List ℕ) → can_be_copied x.id.kind ≡ true → is_copy (copy_of x n) ≡ true
unfolding is_copy
is_copy-copied x n can = and_from (can_be_copied x.id.kind) (is_some (value_of (with_pair inherited_from x.id.ns x.labels) inherited_from)) can (value_with_pair inherited_from x.id.ns x.labels)

-- the source that wins can be copied
top_can : (mode : Mode) (labels : List (List ℕ × List ℕ)) (sources : List Object) (x : Object) → top_of mode labels sources ≡ Some x → can_be_copied x.id.kind ≡ true
top_can mode labels [] x found = absurd (true≢false (sym (ap is_some found)))
top_can mode labels (y ∷ sources) x found =
    elim (goes_to mode y labels) as (λ b. goes_to mode y labels ≡ b → cond b (Some y) (top_of mode labels sources) ≡ Some x → can_be_copied x.id.kind ≡ true) [
      | true ↦ λ goes some.
          let source = and_parts (is_source y) _ (and_parts (is_propagated mode) _ goes).1 in
          let same : y ≡ x = cc in
          sym (ap (λ (z : Object). can_be_copied z.id.kind) same) ∙ (and_parts (can_be_copied y.id.kind) (not (is_copy y)) source.0).0
      | false ↦ λ stays rest. top_can mode labels sources x rest
    ] refl found

-- ---- what keys want

-- a write that puts nothing that is charged
abbrev PutsFree : Write → Type 0
PutsFree (Put x) = IsFree x
PutsFree (Cut id) = Unit {0}

abbrev WantsFree : Option Write → Type 0
WantsFree None = Unit {0}
WantsFree (Some write) = PutsFree write

if_so : (test : Bool) (write : Write) → PutsFree write → WantsFree (so test write)
if_so true write free = free
if_so false write free = tt

if_acts : (acts : Bool) (wanted : Option Write) → WantsFree wanted → WantsFree (if acts then wanted else None)
if_acts true wanted free = free
if_acts false wanted free = tt

placed_free : (x : Object) (found : Option Object) → IsFree x → WantsFree (placed x found)
placed_free x None free = free
placed_free x (Some old) free = if_so (not (same_object (with_version old 0) x)) (Put x) free

without_free : (found : Option Object) → WantsFree (without_copy found)
without_free None = tt
without_free (Some x) = if_so (is_copy x) (Cut x.id) tt

copied_free : (top : Option Object) (n : List ℕ) (place : Option Object) → ((x : Object) → top ≡ Some x → can_be_copied x.id.kind ≡ true) → WantsFree (copied top n place)
copied_free None n place can = without_free place
copied_free (Some x) n place can = placed_free (copy_of x n) place (free_copy (copy_of x n) (is_copy-copied x n (can x refl)))

by_mode : (mode : Mode) (top : Option Object) (n : List ℕ) (place : Option Object) → ((x : Object) → top ≡ Some x → can_be_copied x.id.kind ≡ true) → WantsFree (copied_in mode top n place)
by_mode Propagate top n place can = copied_free top n place can
by_mode AllowPropagate top n place can = copied_free top n place can
by_mode Remove top n place can = without_free place
by_mode Ignore top n place can = tt

copy_free : (acts : Bool) (home : Option Object) (mode : Mode) (sources : List Object) (n : List ℕ) (place : Option Object) → WantsFree (copy_write acts home mode sources n place)
copy_free acts None mode sources n place = tt
copy_free acts (Some x) mode sources n place = if_acts acts _ (by_mode mode (top_of mode x.labels sources) n place (top_can mode x.labels sources))

tree_free : (acts : Bool) (chain : List (List ℕ)) (found : Option Object) → ((x : Object) → found ≡ Some x → is_plain x.id.kind ≡ false) → WantsFree (tree_write acts chain found)
tree_free acts chain None kind = tt
tree_free acts chain (Some x) kind = if_acts acts _ (placed_free (labelled chain x) (Some x) (free_elsewhere (labelled chain x) (kind x refl)))

anchor_free : (live : Bool) (status : AnchorStatus) (found : Option Object) → ((x : Object) → found ≡ Some x → is_plain x.id.kind ≡ false) → WantsFree (anchor_write live status found)
anchor_free live status None kind = tt
anchor_free live status (Some x) kind = if_acts live _ (placed_free (with_status_of status x) (Some x) (free_elsewhere (with_status_of status x) (kind x refl)))

report_free : (takes : Bool) (found : Option Object) (children : List (List ℕ)) (conditions : List Condition) (n : List ℕ) → ((x : Object) → found ≡ Some x → is_plain x.id.kind ≡ false) → WantsFree (report_write takes found children conditions n)
report_free takes None children conditions n kind = if_so _ (Put (bare_report n children conditions)) (free_elsewhere (bare_report n children conditions) refl)
report_free takes (Some x) children conditions n kind = if_so _ (Put (with_report children conditions x)) (free_elsewhere (with_report children conditions x) (kind x refl))

used_free : (live : Bool) (sums : List ℕ) (found : Option Object) → ((x : Object) → found ≡ Some x → is_plain x.id.kind ≡ false) → WantsFree (used_write live sums found)
used_free live sums None kind = tt
used_free live sums (Some x) kind = if_acts live _ (placed_free (with_sums sums x) (Some x) (free_elsewhere (with_sums sums x) (kind x refl)))

-- the kind of what is found
found_kind : (objects : Objects) (id : Id) → is_plain id.kind ≡ false → (x : Object) → object_at objects id ≡ Some x → is_plain x.id.kind ≡ false
found_kind objects id other x found = sym (ap (λ (q : Id). is_plain q.kind) (found_id objects id x found)) ∙ other

wanted_free : (s : State) (k : Key) → WantsFree (wanted_write s k)
wanted_free s (key.Copy n kind name) = copy_free (is_open (forest_of s) n) (object_at s.objects (namespace_id n)) (mode_of s kind) (sources_above s n kind name) n (object_at s.objects (id_in kind name n))
wanted_free s (key.Tree n) = tree_free (is_open (forest_of s) n) (chain_of (forest_of s) n) (object_at s.objects (namespace_id n)) (found_kind s.objects (namespace_id n) refl)
wanted_free s (key.Report n) = report_free (is_eligible (forest_of s) n) (object_at s.objects (hierarchy_id n)) (children_of (forest_of s) n) (conditions_of s n) n (found_kind s.objects (hierarchy_id n) refl)
wanted_free s (key.Child n name) = if_so _ (Put (subnamespace n name)) (free_elsewhere (subnamespace n name) refl)
wanted_free s (key.Anchor n name) = anchor_free (is_live (forest_of s) n) (anchor_status s n name) (object_at s.objects (anchor_id n name)) (found_kind s.objects (anchor_id n name) refl)
wanted_free s (key.Used n name) = used_free (is_live (forest_of s) n) (sums_of s n (object_at s.objects (quota_id n name))) (object_at s.objects (quota_id n name)) (found_kind s.objects (quota_id n name) refl)
wanted_free s (key.Purge n) = if_so _ (Cut _) tt

written_free : (t : State) (wanted : Option Write) (r : Resource) → WantsFree wanted → RaiseNothing t (writes_for t wanted) r
written_free t None r free = tt
written_free t (Some (Put x)) r free = (raises_nothing t (with_version x (t.last + 1)) r (free_versioned x (t.last + 1) free), tt)
written_free t (Some (Cut id)) r free = (refl, tt)

pub keys_raise_nothing : KeysRaiseNothing
keys_raise_nothing s t k r = written_free t (wanted_write s k) r (wanted_free s k)

-- ---- deletions

module _ (s : State) (r : Resource) where
  -- namespaces that are on their way out from now on
  ending_raises : (p : Object → Bool) (objects : Objects) → RaiseNothing s (map (λ (x : Object). Put (ended (s.last + 1) x)) (filter p (namespaces_in objects))) r
  ending_raises p [] = tt
  ending_raises p (x ∷ objects) =
      elim (is_namespace x.id.kind) as (λ b. is_namespace x.id.kind ≡ b → RaiseNothing s (map (λ (y : Object). Put (ended (s.last + 1) y)) (filter p (cond b (x ∷ namespaces_in objects) (namespaces_in objects)))) r) [
        | true ↦ λ is. elim (p x) as (λ b. RaiseNothing s (map (λ (y : Object). Put (ended (s.last + 1) y)) (cond b (x ∷ filter p (namespaces_in objects)) (filter p (namespaces_in objects)))) r) [
          | true ↦ (raises_nothing s (ended (s.last + 1) x) r (free_elsewhere (ended (s.last + 1) x) (ap is_plain (namespace_kind x.id.kind is))), ending_raises p objects)
          | false ↦ ending_raises p objects
        ]
        | false ↦ λ other. ending_raises p objects
      ] refl

  either : (b : Bool) (ws us : List Write) → RaiseNothing s ws r → RaiseNothing s us r → RaiseNothing s (if b then ws else us) r
  either true ws us p q = p
  either false ws us p q = q

pub deletions_raise_nothing : DeletionsRaiseNothing
deletions_raise_nothing s id skip r =
    let leaving : RaiseNothing s (ending s id.name) r = ending_raises s r (begins_to_leave s id.name) s.objects in
    either s r (is_namespace id.kind) _ _
    (either s r (is_ended (object_at s.objects id)) _ _ tt leaving)
    (either s r (is_anchor id.kind && (not skip && owns_named s id)) _ _ (refl, leaving) (refl, tt))
