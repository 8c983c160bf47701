-- The namespace of a HierarchyConfiguration.
--     owner_in       the parent that the annotation of a namespace names, where that is there
--     annotated      a namespace whose annotation names this parent, or which has none
--     home_in_case   the namespace, as far as the rules and the tree look at it
--     IsHomeOf       the parent that the annotation of a HierarchyConfiguration's namespace names, where that is there. The rules look at no other object's
--     moved_by       the tree after a HierarchyConfiguration is written or removed
use Rattle.std.specs.Prelude.{◌≡◌, ℕ, true, false, option_copied, option_map, List, [], ◌∷◌, Option, if◌then◌else◌}
use Rattle.std.specs.Option.{option_map_or}
use Rattle.std.specs.Str.{bytes_eq}
use Rattle.hx_object.specs.declared.object.Id.{Id}
use Rattle.hx_object.specs.WellKnown.{subnamespace_of}
use Rattle.hx_object.specs.declared.object.Object.{Object}
use Rattle.hx_object.specs.declared.object.Payload.TheVariants.{Namespace as NamespaceOf}
use Rattle.hx_model.specs.Forest.{Forest, with_parent}
use Rattle.hx_model.specs.Limits.{is_hierarchy}
use Rattle.hx_model.specs.State.{State, home_in, namespace_id}
use Rattle.hx_model.specs.Tree.{hierarchy, parent_with, subnamespace_parent}
use Rattle.hx_state.specs.declared.home.Home.{Home}

-- the parent that the annotation of a namespace names, where that is there
abbrev pub owner_in : Option Home → Option (Option (List ℕ))
owner_in home = option_map (λ h. option_copied h.owner) home

-- a namespace whose annotation names this parent, or which has none
abbrev pub annotated : Option (List ℕ) → Object
annotated owner = record { id = namespace_id []; version = 0; labels = []; annotations = option_map_or (λ p. (subnamespace_of, p) ∷ []) owner []; payload = NamespaceOf false }

-- the namespace, as far as the rules and the tree look at it
abbrev pub home_in_case : Option Home → Option Object
home_in_case home = option_map annotated (owner_in home)

-- the parent that the annotation of a HierarchyConfiguration's namespace names, where that is there
abbrev pub IsHomeOf : State → Id → Option (Option (List ℕ)) → Type 0
IsHomeOf s id owner = is_hierarchy id.kind ≡ true → owner ≡ option_map subnamespace_parent (home_in s.objects id)

-- the tree after a HierarchyConfiguration is written or removed. One of another name says nothing of it
abbrev pub moved_by : Id → Option Object → Option Object → Forest → Forest
moved_by id new home f = if bytes_eq id.name hierarchy then option_map_or (λ x. with_parent id.ns (parent_with new x) f) home f else f
