-- The changes of the owners by writes.
--     owners-there, owner_found      what they tell of a name, by the row of its namespace
--     owned              the change that is planned gives the owners of the objects after a write
use Rattle.std.proofs.Common.{◌≡◌, Bool, true, false, [], ◌∷◌, None, Some, Option, IfSome, List, ℕ, refl, sym, ap, subst, ◌∙◌}
use Rattle.std.specs.Prelude.{is_some, if◌then◌else◌, option_map}
use Rattle.std.specs.List.{AllByRecursion}
use Rattle.hx_object.specs.declared.object.Id.{Id}
use Rattle.hx_object.specs.declared.object.Object.{Object}
use Rattle.hx_model.specs.Forest.{is_there, node_of}
use Rattle.hx_model.specs.ForestChanges.{with_node}
use Rattle.hx_model.specs.Limits.{is_namespace}
use Rattle.hx_model.specs.Serving.{IsServed}
use Rattle.hx_model.specs.State.{State, Objects, object_at, ascends, put, cut, namespace_id, after_writes}
use Rattle.hx_model.specs.Subnamespaces.{owned_node, owners_in, owners_of}
use Rattle.hx_model.specs.Tree.{subnamespace_parent}
use Rattle.hx_model.specs.Writes.{KeepsItsPlace}
use Rattle.hx_model.specs.declared.key.Write.{Write}
use Rattle.hx_model.specs.declared.node.Node.{Node}
use Rattle.hx_model.specs.declared.key.Write.TheVariants.{Put, Cut}
use Rattle.hx_model.proofs.Objects.{found_id}
use Rattle.hx_model.proofs.Planting.{all_homed, look_up, namespace_is_homed, namespaces-put, namespaces-cut, nodes-put, nodes-cut, put_there}
use Rattle.hx_model.proofs.Storing.{All-found}
use Rattle.hx_store.specs.Changes.{id_of, object_of}
use Rattle.hx_state.specs.Planning.{LeadTo, MayMake, owning, owner_change, listed}

-- ---- what they tell

-- a namespace is under the parent that its annotation names
pub owner_found : (objects : Objects) (n : List ℕ) → AllByRecursion IsServed objects → option_map (λ (node : Node). node.parent) (node_of (owners_in objects) n) ≡ option_map subnamespace_parent (object_at objects (namespace_id n))
owner_found objects n served = ap (option_map (λ (node : Node). node.parent)) (look_up owned_node objects n (all_homed objects served)) ∙ each (object_at objects (namespace_id n))
  where
    each : (found : Option Object) → option_map (λ (node : Node). node.parent) (option_map owned_node found) ≡ option_map subnamespace_parent found
    each None = refl
    each (Some x) = refl

-- ---- the owners after a write

module _ (objects : Objects) (up : ascends objects ≡ true) (served : AllByRecursion IsServed objects) where
  -- a namespace is there where its row is
  pub owners-there : (n : List ℕ) → is_there (owners_in objects) n ≡ is_some (object_at objects (namespace_id n))
  owners-there n = ap is_some (look_up owned_node objects n (all_homed objects served)) ∙ each (object_at objects (namespace_id n))
    where
      each : (found : Option Object) → is_some (option_map owned_node found) ≡ is_some found
      each None = refl
      each (Some x) = refl

  -- a namespace in the place of one with the same annotation leaves them as they are
  owners-put_again : (x old : Object) → is_namespace x.id.kind ≡ true → object_at objects x.id ≡ Some old → subnamespace_parent x ≡ subnamespace_parent old → owners_in (put x objects) ≡ owners_in objects
  owners-put_again x old is there annotated =
      let same : x.id ≡ old.id = found_id objects x.id old there in
      let old_is : is_namespace old.id.kind ≡ true = subst (λ (q : Id). is_namespace q.kind ≡ true) same is in
      let old_home : old.id ≡ namespace_id old.id.name = namespace_is_homed old (All-found IsServed x.id old objects served there) old_is in
      let home : x.id ≡ namespace_id x.id.name = subst (λ (q : Id). q ≡ namespace_id q.name) (sym same) old_home in
      let node : owned_node x ≡ owned_node old = λ i. record { parent = annotated i; terminating = false; excluded = false } in
      nodes-put owned_node x home objects up (all_homed objects served)
      ∙ (λ i. with_node ((same i).name) (node i) (owners_in objects))
      ∙ sym (nodes-put owned_node old old_home objects up (all_homed objects served))
      ∙ ap owners_in (put_there old objects (subst (λ (q : Id). object_at objects q ≡ Some old) same there) up)

-- ---- the change that is planned

module _ (t : State) (up : ascends t.objects ≡ true) (served : AllByRecursion IsServed t.objects) where
  -- where its row is found or not
  there_by : (id : Id) (found : Option Object) → id ≡ namespace_id id.name → object_at t.objects id ≡ found → is_there (owners_of t) id.name ≡ is_some found
  there_by id found homed is = owners-there t.objects up served id.name ∙ ap is_some (ap (object_at t.objects) (sym homed) ∙ is)

  owns : (w : Write) (found : Option Object) → MayMake t w → object_at t.objects (id_of w) ≡ found → is_namespace (id_of w).kind ≡ true → LeadTo (listed (owning found (object_of w))) (owners_of t) (owners_in (after_writes (w ∷ []) t.objects))
  owns (Put x) None may none is =
      let homed : x.id ≡ namespace_id x.id.name = namespace_is_homed x may.0 is in
      record { gives = sym (nodes-put owned_node x homed t.objects up (all_homed t.objects served)); may = (there_by x.id None homed none, tt) }
  owns (Put x) (Some old) may there is =
      let keeps : KeepsItsPlace old x = subst (λ (o : Option Object). IfSome o (λ old. KeepsItsPlace old x)) there (may.1 is) in
      record { gives = sym (owners-put_again t.objects up served x old is there keeps.annotation); may = tt }
  owns (Cut id) None may none is = absurd (let h : None ≡ Some may.0 = sym none ∙ may.1 in cc)
  owns (Cut id) (Some old) may there is =
      let same : id ≡ old.id = found_id t.objects id old there in
      let homed : old.id ≡ namespace_id old.id.name = namespace_is_homed old (All-found IsServed id old t.objects served there) (subst (λ (q : Id). is_namespace q.kind ≡ true) same is) in
      record {
        gives = sym (ap (λ q. owners_in (cut q t.objects)) (same ∙ homed) ∙ nodes-cut owned_node old.id.name t.objects (all_homed t.objects served));
        may = (there_by old.id (Some old) homed (subst (λ (q : Id). object_at t.objects q ≡ Some old) same there), tt);
      }

  owns_none : (w : Write) → is_namespace (id_of w).kind ≡ false → LeadTo [] (owners_of t) (owners_in (after_writes (w ∷ []) t.objects))
  owns_none (Put x) other = record { gives = sym (namespaces-put owned_node x t.objects other); may = tt }
  owns_none (Cut id) other = record { gives = sym (namespaces-cut owned_node id t.objects other); may = tt }

  -- the change that is planned gives the owners after the write
  pub owned : (w : Write) → MayMake t w → LeadTo (listed (owner_change t w)) (owners_of t) (owners_in (after_writes (w ∷ []) t.objects))
  owned w may = by (is_namespace (id_of w).kind) refl
    where
      by : (b : Bool) → is_namespace (id_of w).kind ≡ b → LeadTo (listed (if b then owning (object_at t.objects (id_of w)) (object_of w) else None)) (owners_of t) (owners_in (after_writes (w ∷ []) t.objects))
      by true is = owns w (object_at t.objects (id_of w)) may refl is
      by false other = owns_none w other
