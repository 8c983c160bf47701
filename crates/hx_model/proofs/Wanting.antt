-- A key that wants a write is one of its state.
--     stored_served     what is stored is served
--     found_there       a namespace that is found is in the tree
--     named_by          a namespace that is there has its name in the state
--     sources_name      the sources along a chain have a kind that can be copied, and the name
--     wanted_is_key     a key that wants a write in a state that is valid is one of the state
use Rattle.std.proofs.Common.{◌≡◌, ◌⊎◌, ℕ, Bool, true, false, cond, ◌&&◌, ◌==◌, Option, Some, None, List, [], ◌∷◌, ◌++◌, option_and_then, inl, inr, refl, sym, ap, ◌∙◌, subst, true≢false, eq-eqb}
use Rattle.std.specs.Prelude.{is_some, not}
use Rattle.std.specs.Option.{option_map_or}
use Rattle.std.specs.List.{AllByRecursion, list_any}
use Rattle.std.specs.Str.{bytes_eq}
use Rattle.std.proofs.lemmas.Bool.{and_parts, and_from, or_left, or_right}
use Rattle.hx_object.specs.Kinds.{number_of, can_be_copied}
use Rattle.hx_object.specs.declared.kind.Kind.{Kind}
use Rattle.hx_object.specs.declared.kind.Kind.TheVariants.{SubnamespaceAnchor}
use Rattle.hx_object.specs.declared.object.Condition.{Condition}
use Rattle.hx_object.specs.declared.object.Id.{Id}
use Rattle.hx_object.specs.declared.object.Mode.{Mode}
use Rattle.hx_object.specs.declared.object.Mode.TheVariants.{Propagate, AllowPropagate, Remove, Ignore}
use Rattle.hx_object.specs.declared.object.Object.{Object}
use Rattle.hx_model.specs.Cases.{is_leaving}
use Rattle.hx_model.specs.First.{so}
use Rattle.hx_model.specs.Forest.{Forest, node_of, is_there, is_live, chain_of, children_of, tail_of}
use Rattle.hx_model.specs.Keys.{has_named, is_name, is_key}
use Rattle.hx_model.specs.Limits.{is_copy}
use Rattle.hx_model.specs.Machine.{wants}
use Rattle.hx_model.specs.Modes.{mode_of}
use Rattle.hx_model.specs.Moves.{is_eligible}
use Rattle.hx_model.specs.Propagation.{is_source, source_at, id_in, as_list, sources_along, sources_above, top_of}
use Rattle.hx_model.specs.Reports.{report_write, conditions_of}
use Rattle.hx_model.specs.Serving.{IsServed}
use Rattle.hx_model.specs.State.{State, Objects, object_at, namespace_id, same_id}
use Rattle.hx_model.specs.Subnamespaces.{anchor_id}
use Rattle.hx_model.specs.Tree.{forest_of, hierarchy_id}
use Rattle.hx_model.specs.TreeLabels.{is_open}
use Rattle.hx_model.specs.Valid.{IsValid, IsStored}
use Rattle.hx_model.specs.Wanted.{without_copy, copied, copied_in, copy_write, tree_write, child_write, anchor_status, anchor_write, sums_of, quota_id, used_write}
use Rattle.hx_model.specs.declared.key.Key.{Key}
use Rattle.hx_model.specs.declared.key.Key.TheVariants as key
use Rattle.hx_model.specs.declared.node.Node.{Node}
use Rattle.hx_model.proofs.Climbing.{same_itself}
use Rattle.hx_model.proofs.Objects.{found_id}
use Rattle.hx_model.proofs.Planting.{there-objects}
use Rattle.hx_model.proofs.Lists.{all_more}

-- ---- what is there

pub stored_served : (last : ℕ) (objects : Objects) → AllByRecursion (IsStored last) objects → AllByRecursion IsServed objects
stored_served last objects stored = all_more (IsStored last) IsServed objects (λ x is. is.served) stored

-- a namespace that is found is in the tree
pub found_there : (s : State) (n : List ℕ) → IsValid s → is_some (object_at s.objects (namespace_id n)) ≡ true → is_there (forest_of s) n ≡ true
found_there s n valid found = there-objects s.config.excluded s.objects n (stored_served s.last s.objects valid.stored) ∙ found

named_by : (s : State) (n : List ℕ) → is_there (forest_of s) n ≡ true → is_name s n ≡ true
named_by s n there = or_left (is_there (forest_of s) n) (has_named s.objects SubnamespaceAnchor n) there

live_there : (f : Forest) (n : List ℕ) → is_live f n ≡ true → is_there f n ≡ true
live_there f n h = by (node_of f n) h
  where
    by : (o : Option Node) → option_map_or (λ (node : Node). not node.terminating) o false ≡ true → is_some o ≡ true
    by None e = absurd (true≢false (sym e))
    by (Some node) e = refl

leaving_there : (f : Forest) (n : List ℕ) → is_leaving f n ≡ true → is_there f n ≡ true
leaving_there f n h = by (node_of f n) h
  where
    by : (o : Option Node) → option_map_or (λ (node : Node). node.terminating) o false ≡ true → is_some o ≡ true
    by None e = absurd (true≢false (sym e))
    by (Some node) e = refl

-- what is there where the test holds
from_so : {A : Type 0} (b : Bool) (x : A) → is_some (so b x) ≡ true → b ≡ true
from_so true x h = refl
from_so false x h = absurd (true≢false (sym h))

-- ---- copies

-- some object is of the kind and has the name
has_found : (objects : Objects) (id : Id) (x : Object) → object_at objects id ≡ Some x → has_named objects id.kind id.name ≡ true
has_found objects id x found = ap (λ (q : Id). has_named objects q.kind q.name) (found_id objects id x found) ∙ has objects found
  where
    test : Object → Bool
    test y = (number_of x.id.kind == number_of y.id.kind) && bytes_eq x.id.name y.id.name

    passes : test x ≡ true
    passes = and_from (number_of x.id.kind == number_of x.id.kind) (bytes_eq x.id.name x.id.name) (eq-eqb (number_of x.id.kind) (number_of x.id.kind) refl) (same_itself x.id.name)

    has : (rows : Objects) → object_at rows id ≡ Some x → list_any test rows ≡ true
    has [] e = absurd (true≢false (sym (ap is_some e)))
    has (y ∷ rows) e = elim (same_id id y.id) as (λ b. cond b (Some y) (object_at rows id) ≡ Some x → list_any test (y ∷ rows) ≡ true) [
      | true ↦ λ here. or_left (test y) (list_any test rows) (subst (λ z. test z ≡ true) (let same : x ≡ y = cc in same) passes)
      | false ↦ λ later. or_right (test y) (list_any test rows) (has rows later)
    ] e

-- a copy is of a kind that can be copied
copy_kind : (x : Object) → is_copy x ≡ true → can_be_copied x.id.kind ≡ true
unfolding is_copy
copy_kind x copy = (and_parts (can_be_copied x.id.kind) _ copy).0

module _ (s : State) (kind : Kind) (name : List ℕ) where
  -- the kind can be copied, and some object of it has the name
  abbrev IsHeld : Type 0
  IsHeld = (can_be_copied kind && has_named s.objects kind name) ≡ true

  held_by : (n : List ℕ) (x : Object) → object_at s.objects (id_in kind name n) ≡ Some x → can_be_copied x.id.kind ≡ true → IsHeld
  held_by n x found is = and_from (can_be_copied kind) (has_named s.objects kind name) (ap (λ (q : Id). can_be_copied q.kind) (found_id s.objects (id_in kind name n) x found) ∙ is) (has_found s.objects (id_in kind name n) x found)

  -- a source does, and where none is there, there is none
  source_held : (n : List ℕ) (found : Option Object) → object_at s.objects (id_in kind name n) ≡ found → IsHeld ⊎ (option_and_then (λ x. so (is_source x) x) found ≡ None)
  source_held n None is = inr refl
  source_held n (Some x) is = elim (is_source x) as (λ b. is_source x ≡ b → IsHeld ⊎ (so b x ≡ None)) [
    | true ↦ λ source. inl (held_by n x is (and_parts (can_be_copied x.id.kind) (not (is_copy x)) source).0)
    | false ↦ λ _. inr refl
  ] refl

  pub sources_name : (chain : List (List ℕ)) → IsHeld ⊎ (sources_along s.objects kind name chain ≡ [])
  sources_name [] = inr refl
  sources_name (a ∷ chain) = both (sources_name chain) (source_held a (object_at s.objects (id_in kind name a)) refl)
    where
      both : IsHeld ⊎ (sources_along s.objects kind name chain ≡ []) → IsHeld ⊎ (source_at s.objects (id_in kind name a) ≡ None) → IsHeld ⊎ (sources_along s.objects kind name (a ∷ chain) ≡ [])
      both (inl held) _ = inl held
      both (inr none) (inl held) = inl held
      both (inr none) (inr no_source) = inr (λ i. none i ++ as_list (no_source i))

  -- a copy that lies there
  from_place : (n : List ℕ) (place : Option Object) → object_at s.objects (id_in kind name n) ≡ place → is_some (without_copy place) ≡ true → IsHeld
  from_place n None is h = absurd (true≢false (sym h))
  from_place n (Some x) is h = held_by n x is (copy_kind x (from_so (is_copy x) _ h))

  from_sources : (mode : Mode) (labels : List (List ℕ × List ℕ)) (n : List ℕ) (sources : List Object) → IsHeld ⊎ (sources ≡ []) → is_some (copied (top_of mode labels sources) n (object_at s.objects (id_in kind name n))) ≡ true → IsHeld
  from_sources mode labels n sources (inl held) h = held
  from_sources mode labels n sources (inr none) h =
      from_place n (object_at s.objects (id_in kind name n)) refl (ap (λ some. is_some (copied (top_of mode labels some) n (object_at s.objects (id_in kind name n)))) (sym none) ∙ h)

  copied_held : (mode : Mode) (labels : List (List ℕ × List ℕ)) (n : List ℕ) → is_some (copied_in mode (top_of mode labels (sources_above s n kind name)) n (object_at s.objects (id_in kind name n))) ≡ true → IsHeld
  copied_held Propagate labels n h = from_sources Propagate labels n (sources_above s n kind name) (sources_name (tail_of (chain_of (forest_of s) n))) h
  copied_held AllowPropagate labels n h = from_sources AllowPropagate labels n (sources_above s n kind name) (sources_name (tail_of (chain_of (forest_of s) n))) h
  copied_held Remove labels n h = from_place n (object_at s.objects (id_in kind name n)) refl h
  copied_held Ignore labels n h = absurd (true≢false (sym h))

  copy_key : (n : List ℕ) → IsValid s → (acts : Bool) (found : Option Object) → object_at s.objects (namespace_id n) ≡ found → is_some (copy_write acts found (mode_of s kind) (sources_above s n kind name) n (object_at s.objects (id_in kind name n))) ≡ true
      → is_key s (key.Copy n kind name) ≡ true
  copy_key n valid acts None is h = absurd (true≢false (sym h))
  copy_key n valid false (Some x) is h = absurd (true≢false (sym h))
  copy_key n valid true (Some x) is h =
      and_from (is_name s n) (can_be_copied kind && has_named s.objects kind name) (named_by s n (found_there s n valid (ap is_some is))) (copied_held (mode_of s kind) x.labels n h)

-- ---- the other keys

tree_found : (acts : Bool) (chain : List (List ℕ)) (found : Option Object) → is_some (tree_write acts chain found) ≡ true → is_some found ≡ true
tree_found acts chain None h = absurd (true≢false (sym h))
tree_found acts chain (Some x) h = refl

report_takes : (takes : Bool) (found : Option Object) (children : List (List ℕ)) (conditions : List Condition) (n : List ℕ) → is_some (report_write takes found children conditions n) ≡ true → takes ≡ true
report_takes takes None children conditions n h = (and_parts takes _ (from_so _ _ h)).0
report_takes takes (Some x) children conditions n h = (and_parts takes _ (from_so _ _ h)).0

child_anchored : (acts anchored excluded taken : Bool) (n m : List ℕ) → is_some (child_write acts anchored excluded taken n m) ≡ true → anchored ≡ true
child_anchored acts anchored excluded taken n m h = (and_parts anchored _ (and_parts acts _ (from_so (acts && (anchored && (not excluded && not taken))) _ h)).1).0

used_found : (live : Bool) (sums : List ℕ) (found : Option Object) → is_some (used_write live sums found) ≡ true → is_some found ≡ true
used_found live sums None h = absurd (true≢false (sym h))
used_found live sums (Some x) h = refl

pub wanted_is_key : (s : State) → IsValid s → (k : Key) → wants s k ≡ true → is_key s k ≡ true
wanted_is_key s valid (key.Copy n kind name) h = copy_key s kind name n valid (is_open (forest_of s) n) (object_at s.objects (namespace_id n)) refl h
wanted_is_key s valid (key.Tree n) h = named_by s n (found_there s n valid (tree_found (is_open (forest_of s) n) (chain_of (forest_of s) n) (object_at s.objects (namespace_id n)) h))
wanted_is_key s valid (key.Report n) h =
    let eligible : is_eligible (forest_of s) n ≡ true = report_takes (is_eligible (forest_of s) n) (object_at s.objects (hierarchy_id n)) (children_of (forest_of s) n) (conditions_of s n) n h in
    named_by s n (live_there (forest_of s) n (and_parts (is_live (forest_of s) n) _ eligible).0)
wanted_is_key s valid (key.Child n name) h = child_anchored (is_open (forest_of s) n) (is_some (object_at s.objects (anchor_id n name))) _ _ n name h
wanted_is_key s valid (key.Anchor n name) h = anchor_found (is_live (forest_of s) n) (object_at s.objects (anchor_id n name)) h
  where
    anchor_found : (live : Bool) (found : Option Object) → is_some (anchor_write live (anchor_status s n name) found) ≡ true → is_some found ≡ true
    anchor_found live None e = absurd (true≢false (sym e))
    anchor_found live (Some x) e = refl
wanted_is_key s valid (key.Used n name) h = used_found (is_live (forest_of s) n) (sums_of s n (object_at s.objects (quota_id n name))) (object_at s.objects (quota_id n name)) h
wanted_is_key s valid (key.Purge n) h = named_by s n (leaving_there (forest_of s) n (from_so (is_leaving (forest_of s) n) _ h))
