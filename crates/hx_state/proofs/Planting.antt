-- The changes of the tree by writes.
--     IsPlanted      a change gives the tree of the objects after a write
--     planted        it is the one that is planned
use Rattle.std.proofs.Common.{◌≡◌, Bool, true, false, not, ◌&&◌, [], ◌∷◌, None, Some, Option, IfSome, refl, sym, ap, subst, ◌∙◌}
use Rattle.std.specs.Prelude.{is_some, if◌then◌else◌, option_map}
use Rattle.std.specs.List.{AllByRecursion}
use Rattle.std.specs.Option.{option_map_or}
use Rattle.std.specs.Str.{bytes_eq}
use Rattle.hx_object.specs.declared.object.Id.{Id}
use Rattle.hx_object.specs.declared.object.Object.{Object}
use Rattle.hx_forest.specs.declared.change.Change.{Change as TreeChange}
use Rattle.hx_forest.specs.declared.change.Change.TheVariants.{SetParent, SetTerminating}
use Rattle.hx_model.specs.First.{so}
use Rattle.hx_model.specs.Forest.{Forest, is_there, with_parent}
use Rattle.hx_model.specs.Limits.{is_namespace, is_hierarchy}
use Rattle.hx_model.specs.Serving.{IsServed}
use Rattle.hx_model.specs.State.{State, object_at, ascends, cut, home_in, namespace_id, after_writes}
use Rattle.hx_model.specs.Tree.{hierarchy, parent_with, named_parent, is_terminating, forest_in, forest_of}
use Rattle.hx_model.specs.declared.key.Write.{Write}
use Rattle.hx_model.specs.declared.key.Write.TheVariants.{Put, Cut}
use Rattle.hx_model.proofs.Objects.{found_id}
use Rattle.hx_model.proofs.Planting.{hierarchy_kind, namespace_is_homed, there-objects, forest-put, forest-cut, forest-put_namespace, forest-put_again, forest-put_terminating, forest-cut_namespace, forest-put_moves, forest-cut_moves}
use Rattle.hx_model.proofs.Storing.{All-found}
use Rattle.hx_store.specs.Changes.{id_of, object_of}
use Rattle.hx_state.specs.Planning.{LeadTo, MayMake, planting, moving, tree_change, listed}
use Rattle.hx_state.specs.Homes.{moved_by}
use Rattle.hx_model.specs.Writes.{KeepsItsPlace}

-- a change gives the tree of the objects after a write
abbrev pub IsPlanted : State → Write → Option TreeChange → Type 0
IsPlanted t w change = LeadTo (listed change) (forest_of t) (forest_in t.config.excluded (after_writes (w ∷ []) t.objects))

module _ (t : State) (up : ascends t.objects ≡ true) (served : AllByRecursion IsServed t.objects) where
  -- ---- HierarchyConfigurations

  -- the namespace that is found is in the tree
  home_there : (id : Id) → is_hierarchy id.kind ≡ true → IfSome (home_in t.objects id) (λ _. is_there (forest_of t) id.ns ≡ true)
  home_there id is = by (home_in t.objects id) (ap (λ kind. home_in t.objects (record id { kind = kind })) (hierarchy_kind id is))
    where
      by : (found : Option Object) → found ≡ object_at t.objects (namespace_id id.ns) → IfSome found (λ _. is_there (forest_of t) id.ns ≡ true)
      by None e = tt
      by (Some x) e = there-objects t.config.excluded t.objects id.ns served ∙ ap is_some (sym e)

  -- the change sets the parent of a namespace that is there
  moves : (id : Id) (new : Option Object) (f : Forest) (named : Bool) (home : Option Object) → IfSome home (λ _. is_there f id.ns ≡ true)
      → LeadTo (listed (if named then option_map (λ x. SetParent id.ns (parent_with new x)) home else None)) f (if named then option_map_or (λ x. with_parent id.ns (parent_with new x) f) home f else f)
  moves id new f true (Some x) there = record { may = (there, tt); gives = refl }
  moves id new f true None there = record { may = tt; gives = refl }
  moves id new f false home there = record { may = tt; gives = refl }

  moved : (w : Write) → MayMake t w → is_hierarchy (id_of w).kind ≡ true → moved_by (id_of w) (object_of w) (home_in t.objects (id_of w)) (forest_of t) ≡ forest_in t.config.excluded (after_writes (w ∷ []) t.objects)
  moved (Put x) may is = sym (forest-put_moves t.config.excluded t.objects x.id is up served x (named_parent x) refl refl)
  moved (Cut id) may is = sym (forest-cut_moves t.config.excluded t.objects id is up served)

  -- ---- namespaces

  -- one in the place of another, by how their phases are
  stands : (x old : Object) → IsServed x → is_namespace x.id.kind ≡ true → object_at t.objects x.id ≡ Some old → KeepsItsPlace old x → (now before : Bool) → is_terminating x.payload ≡ now → is_terminating old.payload ≡ before
      → IsPlanted t (Put x) (so (now && not before) (SetTerminating x.id.name))
  stands x old fine is there later true false leaves stayed =
      let homed : x.id ≡ namespace_id x.id.name = namespace_is_homed x fine is in
      record {
        gives = sym (forest-put_terminating t.config.excluded x old t.objects homed there later.annotation leaves up served);
        may = (there-objects t.config.excluded t.objects x.id.name served ∙ ap is_some (ap (object_at t.objects) (sym homed) ∙ there), tt);
      }
  stands x old fine is there later true true leaves stayed =
      record { gives = sym (forest-put_again t.config.excluded x old t.objects is there later.annotation (leaves ∙ sym stayed) up served); may = tt }
  stands x old fine is there later false false leaves stayed =
      record { gives = sym (forest-put_again t.config.excluded x old t.objects is there later.annotation (leaves ∙ sym stayed) up served); may = tt }
  stands x old fine is there later false true leaves stayed = absurd (let h : false ≡ true = sym leaves ∙ later.phase stayed in cc)

  plants : (w : Write) (found : Option Object) → MayMake t w → object_at t.objects (id_of w) ≡ found → is_namespace (id_of w).kind ≡ true → IsPlanted t w (planting t found (object_of w))
  plants (Put x) None may none is =
      let homed : x.id ≡ namespace_id x.id.name = namespace_is_homed x may.0 is in
      record {
        gives = sym (forest-put_namespace t.config.excluded x t.objects homed up served);
        may = (there-objects t.config.excluded t.objects x.id.name served ∙ ap is_some (ap (object_at t.objects) (sym homed) ∙ none), tt);
      }
  plants (Put x) (Some old) may there is =
      stands x old may.0 is there (subst (λ (o : Option Object). IfSome o (λ old. KeepsItsPlace old x)) there (may.1 is)) (is_terminating x.payload) (is_terminating old.payload) refl refl
  plants (Cut id) None may none is = absurd (let h = sym none ∙ may.1 in cc)
  plants (Cut id) (Some old) may there is =
      let same : id ≡ old.id = found_id t.objects id old there in
      let homed : old.id ≡ namespace_id old.id.name = namespace_is_homed old (All-found IsServed id old t.objects served there) (subst (λ (q : Id). is_namespace q.kind ≡ true) same is) in
      record {
        gives = sym (forest-cut_namespace t.config.excluded old.id.name t.objects served) ∙ ap (λ q. forest_in t.config.excluded (cut q t.objects)) (sym (same ∙ homed));
        may = (there-objects t.config.excluded t.objects old.id.name served ∙ ap is_some (ap (object_at t.objects) (sym (same ∙ homed)) ∙ there), tt);
      }

  -- ---- other objects

  leaves_tree : (w : Write) → is_namespace (id_of w).kind ≡ false → is_hierarchy (id_of w).kind ≡ false → IsPlanted t w None
  leaves_tree (Put x) other leaf = record { gives = sym (forest-put t.config.excluded x t.objects other leaf); may = tt }
  leaves_tree (Cut id) other leaf = record { gives = sym (forest-cut t.config.excluded id t.objects other leaf); may = tt }

  -- the change that is planned gives the tree after the write
  pub planted : (w : Write) → MayMake t w → IsPlanted t w (tree_change t w)
  planted w may = by_namespace (is_namespace (id_of w).kind) refl
    where
      by_hierarchy : (b : Bool) → is_hierarchy (id_of w).kind ≡ b → is_namespace (id_of w).kind ≡ false → IsPlanted t w (if b then moving (id_of w) (object_of w) (home_in t.objects (id_of w)) else None)
      by_hierarchy true is other =
          let steps = moves (id_of w) (object_of w) (forest_of t) (bytes_eq (id_of w).name hierarchy) (home_in t.objects (id_of w)) (home_there (id_of w) is) in
          record { gives = steps.gives ∙ moved w may is; may = steps.may }
      by_hierarchy false leaf other = leaves_tree w other leaf

      by_namespace : (b : Bool) → is_namespace (id_of w).kind ≡ b → IsPlanted t w (if b then planting t (object_at t.objects (id_of w)) (object_of w) else (if is_hierarchy (id_of w).kind then moving (id_of w) (object_of w) (home_in t.objects (id_of w)) else None))
      by_namespace true is = plants w (object_at t.objects (id_of w)) may refl is
      by_namespace false other = by_hierarchy (is_hierarchy (id_of w).kind) refl other
