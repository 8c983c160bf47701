-- What the rules look at of a namespace: the parent that its annotation names.
--     owner_kept       it is had of the namespace that a case has for it
--     same_there, same_owner, same_after, same_parent      what is said by it alone
--     moved_same       the change of the tree by a HierarchyConfiguration is, too
use Rattle.std.proofs.Common.{◌≡◌, List, ℕ, Option, None, Some, IfSome, refl, sym, ap, ◌∙◌}
use Rattle.std.specs.Prelude.{is_some, option_map, option_and_then, if◌then◌else◌}
use Rattle.std.specs.Str.{bytes_eq}
use Rattle.hx_object.specs.declared.object.Id.{Id}
use Rattle.hx_object.specs.declared.object.Object.{Object}
use Rattle.hx_forest.specs.declared.change.Change.{Change as TreeChange}
use Rattle.hx_forest.specs.declared.change.Change.TheVariants.{SetParent}
use Rattle.hx_model.specs.First.{or_else}
use Rattle.hx_model.specs.Tree.{hierarchy, subnamespace_parent, named_parent, parent_with}
use Rattle.hx_state.specs.Planning.{moving}
use Rattle.hx_state.specs.Homes.{annotated}

-- ---- of a namespace that stands for it

annotated_owner : (owner : Option (List ℕ)) → subnamespace_parent (annotated owner) ≡ owner
annotated_owner None = refl
annotated_owner (Some p) = refl

pub owner_kept : (owners : Option (Option (List ℕ))) → option_map subnamespace_parent (option_map annotated owners) ≡ owners
owner_kept None = refl
owner_kept (Some owner) = ap Some (annotated_owner owner)

-- ---- by it alone

pub same_there : (a b : Option Object) → option_map subnamespace_parent a ≡ option_map subnamespace_parent b → is_some a ≡ is_some b
same_there a b same = sym (found a) ∙ ap is_some same ∙ found b
  where
    found : (o : Option Object) → is_some (option_map subnamespace_parent o) ≡ is_some o
    found None = refl
    found (Some x) = refl

pub same_owner : (a b : Option Object) → option_map subnamespace_parent a ≡ option_map subnamespace_parent b → option_and_then subnamespace_parent a ≡ option_and_then subnamespace_parent b
same_owner a b same = sym (joined a) ∙ ap (option_and_then (λ o. o)) same ∙ joined b
  where
    joined : (o : Option Object) → option_and_then (λ p. p) (option_map subnamespace_parent o) ≡ option_and_then subnamespace_parent o
    joined None = refl
    joined (Some x) = refl

-- the parent with the HierarchyConfiguration that is given
pub same_after : (new : Option Object) (a b : Option Object) → option_map subnamespace_parent a ≡ option_map subnamespace_parent b → option_and_then (parent_with new) a ≡ option_and_then (parent_with new) b
same_after new a b same = sym (joined a) ∙ ap (option_and_then (λ owner. or_else owner (option_and_then named_parent new))) same ∙ joined b
  where
    joined : (o : Option Object) → option_and_then (λ owner. or_else owner (option_and_then named_parent new)) (option_map subnamespace_parent o) ≡ option_and_then (parent_with new) o
    joined None = refl
    joined (Some x) = refl

-- what is the parent with the one that is there
pub same_parent : (old : Option Object) (a b : Option Object) (parent : Option (List ℕ)) → option_map subnamespace_parent a ≡ option_map subnamespace_parent b → IfSome b (λ x. parent ≡ parent_with old x) → IfSome a (λ x. parent ≡ parent_with old x)
same_parent old None b parent same is = tt
same_parent old (Some x) None parent same is = absurd (let h : Some (subnamespace_parent x) ≡ None = same in cc)
same_parent old (Some x) (Some y) parent same is = is ∙ sym (same_after old (Some x) (Some y) same)

-- the change of the tree by a HierarchyConfiguration
pub moved_same : (id : Id) (new a b : Option Object) → option_map subnamespace_parent a ≡ option_map subnamespace_parent b → moving id new a ≡ moving id new b
moved_same id new a b same = ap (λ (o : Option TreeChange). if bytes_eq id.name hierarchy then o else None) (sym (joined a) ∙ ap (option_map (λ owner. SetParent id.ns (or_else owner (option_and_then named_parent new)))) same ∙ joined b)
  where
    joined : (o : Option Object) → option_map (λ owner. SetParent id.ns (or_else owner (option_and_then named_parent new))) (option_map subnamespace_parent o) ≡ option_map (λ x. SetParent id.ns (parent_with new x)) o
    joined None = refl
    joined (Some x) = refl
