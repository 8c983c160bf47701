-- A namespace is replaced, and keeps its annotation and its phase: what stays.
--     valid_served             the objects of a valid state are served
--     same_phase               a namespace that doesn't begin to leave keeps its phase
--     leaving_is, live_is      a namespace that is found is on its way out, or isn't, as its payload tells
--     leaving_found            one that is on its way out is found
--     sources_same, uncopied   what a place rests on, where the sources of a chain stay;  a kind that can't be copied wants nothing
--     replaced_forest          the forest stays
--     replaced_other           so does each object but the namespace
--     copy_by, tree_by         what its keys and others want afterwards, by the namespace that is found
use Rattle.std.proofs.Common.{◌≡◌, ℕ, Bool, true, false, cond, not, ◌&&◌, Option, Some, None, List, [], ◌∷◌, ◌++◌, refl, sym, ap, ◌∙◌, subst, true≢false, option_map}
use Rattle.std.specs.Option.{option_map_or}
use Rattle.std.specs.Prelude.{is_some, option_and_then}
use Rattle.std.specs.List.{AllByRecursion}
use Rattle.std.specs.Str.{bytes_eq}
use Rattle.std.proofs.lemmas.Bool.{or_left, or_right, false_from_ne_true}
use Rattle.hx_object.specs.Kinds.{can_be_copied, is_namespace}
use Rattle.hx_object.specs.declared.kind.Kind.{Kind}
use Rattle.hx_object.specs.declared.kind.Kind.TheVariants as of
use Rattle.hx_object.specs.declared.object.Id.{Id}
use Rattle.hx_object.specs.declared.object.Object.{Object}
use Rattle.hx_model.specs.Cases.{is_leaving}
use Rattle.hx_model.specs.First.{so}
use Rattle.hx_model.specs.Forest.{is_in, chain_of, tail_of, node_of, is_live}
use Rattle.hx_model.specs.Modes.{config_id, mode_in, mode_of}
use Rattle.hx_model.specs.Propagation.{is_source, id_in, as_list, sources_along, sources_above}
use Rattle.hx_model.specs.Serving.{IsServed}
use Rattle.hx_model.specs.State.{State, Objects, object_at, put, same_id, namespace_id, state_after}
use Rattle.hx_model.specs.Tree.{subnamespace_parent, is_terminating, forest_in, forest_of, node_in}
use Rattle.hx_model.specs.TreeLabels.{is_open}
use Rattle.hx_model.specs.Valid.{IsValid, IsStored}
use Rattle.hx_model.specs.Wanted.{copy_write, wanted_copy, tree_write, wanted_tree}
use Rattle.hx_model.specs.Writes.{KeepsItsPlace}
use Rattle.hx_model.specs.declared.key.Write.{Write}
use Rattle.hx_model.specs.declared.key.Write.TheVariants.{Put}
use Rattle.hx_model.specs.declared.node.Node.{Node}
use Rattle.hx_model.proofs.Climbing.{same_itself}
use Rattle.hx_model.proofs.Objects.{is_same_id, object_at-put}
use Rattle.hx_model.proofs.Planting.{forest-put_again, node_of-objects}
use Rattle.hx_marks.specs.Law.{begins_to_end}
use Rattle.hx_marks.proofs.Wanting.{wants_copied}

-- ---- valid states

all_served : (last : ℕ) (objects : Objects) → AllByRecursion (IsStored last) objects → AllByRecursion IsServed objects
all_served last [] all = tt
all_served last (x ∷ objects) all = (all.0.served, all_served last objects all.1)

pub valid_served : (s : State) → IsValid s → AllByRecursion IsServed s.objects
valid_served s valid = all_served s.last s.objects valid.stored

-- a namespace that doesn't begin to leave stays, or stays on its way out
pub same_phase : (old x : Object) → KeepsItsPlace old x → begins_to_end old x ≡ false → is_terminating x.payload ≡ is_terminating old.payload
same_phase old x keeps stays = by (is_terminating old.payload) (is_terminating x.payload) keeps.phase stays
  where
    by : (before after : Bool) → (before ≡ true → after ≡ true) → (after && not before) ≡ false → after ≡ before
    by true after phase out = phase refl
    by false true phase out = absurd (true≢false out)
    by false false phase out = refl

-- ---- who is on its way out

-- by the namespace that is found
module _ (s : State) (valid : IsValid s) (n : List ℕ) where
  nodes : node_of (forest_of s) n ≡ option_map (node_in s.config.excluded s.objects) (object_at s.objects (namespace_id n))
  nodes = node_of-objects s.config.excluded s.objects n (valid_served s valid)

  pub leaving_is : (x : Object) → object_at s.objects (namespace_id n) ≡ Some x → is_leaving (forest_of s) n ≡ is_terminating x.payload
  leaving_is x at = ap (λ o. option_map_or (λ (node : Node). node.terminating) o false) (nodes ∙ ap (option_map (node_in s.config.excluded s.objects)) at)

  pub live_is : (x : Object) → object_at s.objects (namespace_id n) ≡ Some x → is_live (forest_of s) n ≡ not (is_terminating x.payload)
  live_is x at = ap (λ o. option_map_or (λ (node : Node). not node.terminating) o false) (nodes ∙ ap (option_map (node_in s.config.excluded s.objects)) at)

  pub leaving_found : is_leaving (forest_of s) n ≡ true → (x : Object) × (object_at s.objects (namespace_id n) ≡ Some x) × (is_terminating x.payload ≡ true)
  leaving_found leaves = by (object_at s.objects (namespace_id n)) refl
    where
      by : (o : Option Object) → object_at s.objects (namespace_id n) ≡ o → (x : Object) × (object_at s.objects (namespace_id n) ≡ Some x) × (is_terminating x.payload ≡ true)
      by None absent = absurd (true≢false (sym leaves ∙ ap (λ o. option_map_or (λ (node : Node). node.terminating) o false) (nodes ∙ ap (option_map (node_in s.config.excluded s.objects)) absent)))
      by (Some x) at = (x, at, sym (leaving_is x at) ∙ leaves)

-- ---- what a place rests on

-- a kind that can be copied is no namespace
pub copied_leaf : (kind : Kind) → can_be_copied kind ≡ true → is_namespace kind ≡ false
copied_leaf of.Namespace e = absurd (true≢false (sym e))
copied_leaf _ e = refl

-- where the objects of a kind and name stay along a chain, so do the sources
pub sources_same : (old new : Objects) (kind : Kind) (name : List ℕ) (chain : List (List ℕ)) → ((a : List ℕ) → is_in a chain ≡ true → object_at new (id_in kind name a) ≡ object_at old (id_in kind name a))
    → sources_along new kind name chain ≡ sources_along old kind name chain
sources_same old new kind name [] same = refl
sources_same old new kind name (a ∷ chain) same =
    let rest = sources_same old new kind name chain (λ b mem. same b (or_right (bytes_eq b a) (is_in b chain) mem)) in
    let here = same a (or_left (bytes_eq a a) (is_in a chain) (same_itself a)) in
    λ i. rest i ++ as_list (option_and_then (λ x. so (is_source x) x) (here i))

-- a kind that can't be copied wants nothing
pub uncopied : (s : State) (n : List ℕ) (kind : Kind) (name : List ℕ) → can_be_copied kind ≡ false → wanted_copy s n kind name ≡ None
uncopied s n kind name out = by (wanted_copy s n kind name) refl
  where
    by : (o : Option Write) → wanted_copy s n kind name ≡ o → o ≡ None
    by None is = refl
    by (Some write) is =
        absurd (true≢false (sym (wants_copied s.objects (chain_of (forest_of s) n) n kind name (is_open (forest_of s) n) (object_at s.objects (namespace_id n)) (λ none. true≢false (ap is_some (sym is ∙ none)))) ∙ out))

-- ---- a namespace in the place of another

module _ (s : State) (x old : Object) (valid : IsValid s) (phase : is_terminating x.payload ≡ is_terminating old.payload) (is : is_namespace x.id.kind ≡ true) (there : object_at s.objects x.id ≡ Some old) (annotated : subnamespace_parent x ≡ subnamespace_parent old) where
  pub replaced_forest : forest_in s.config.excluded (put x s.objects) ≡ forest_of s
  replaced_forest = forest-put_again s.config.excluded x old s.objects is there annotated phase valid.in_order (valid_served s valid)

  -- another identity is found as before
  pub replaced_other : (q : Id) → same_id q x.id ≡ false → object_at (put x s.objects) q ≡ object_at s.objects q
  replaced_other q apart = object_at-put x s.objects q ∙ ap (λ b. cond b (Some x) (object_at s.objects q)) apart

  -- such is that of no namespace
  pub no_namespace : (q : Id) → is_namespace q.kind ≡ false → object_at (put x s.objects) q ≡ object_at s.objects q
  no_namespace q out = replaced_other q (false_from_ne_true (same_id q x.id) (λ h. true≢false (sym (ap (λ (p : Id). is_namespace p.kind) (is_same_id q x.id h) ∙ is) ∙ out)))

  -- and that of a namespace of another name
  pub other_name : (m : List ℕ) → bytes_eq m x.id.name ≡ false → object_at (put x s.objects) (namespace_id m) ≡ object_at s.objects (namespace_id m)
  other_name m apart = replaced_other (namespace_id m) (false_from_ne_true (same_id (namespace_id m) x.id) (λ h. true≢false (sym (subst (λ (q : Id). bytes_eq m q.name ≡ true) (is_same_id (namespace_id m) x.id h) (same_itself m)) ∙ apart)))

  -- a place of copies wants what it wanted, but for the labels of the namespace
  pub copy_by : (m : List ℕ) (kind : Kind) (name : List ℕ) → can_be_copied kind ≡ true
      → wanted_copy (state_after s (Put x ∷ [])) m kind name
      ≡ copy_write (is_open (forest_of s) m) (object_at (put x s.objects) (namespace_id m)) (mode_of s kind) (sources_above s m kind name) m (object_at s.objects (id_in kind name m))
  copy_by m kind name copied =
      let f = replaced_forest in
      let out = copied_leaf kind copied in
      let mode : object_at (put x s.objects) config_id ≡ object_at s.objects config_id = no_namespace config_id refl in
      let place : object_at (put x s.objects) (id_in kind name m) ≡ object_at s.objects (id_in kind name m) = no_namespace (id_in kind name m) out in
      let sources = sources_same s.objects (put x s.objects) kind name (tail_of (chain_of (forest_of s) m)) (λ a _. no_namespace (id_in kind name a) out) in
      (λ i. copy_write (is_open (f i) m) (object_at (put x s.objects) (namespace_id m)) (mode_in (mode i) kind) (sources_along (put x s.objects) kind name (tail_of (chain_of (f i) m))) m (place i))
      ∙ ap (λ xs. copy_write (is_open (forest_of s) m) (object_at (put x s.objects) (namespace_id m)) (mode_of s kind) xs m (object_at s.objects (id_in kind name m))) sources

  pub tree_by : (m : List ℕ) → wanted_tree (state_after s (Put x ∷ [])) m ≡ tree_write (is_open (forest_of s) m) (chain_of (forest_of s) m) (object_at (put x s.objects) (namespace_id m))
  tree_by m = ap (λ f. tree_write (is_open f m) (chain_of f m) (object_at (put x s.objects) (namespace_id m))) replaced_forest
