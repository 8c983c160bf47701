-- Where a write is looked at for conflicts.
--     with_object s x                the state with an object put
--     goes_as_before found x         what is found is a source with the same exceptions, which goes somewhere
--     IsReachOf reach found          what is found goes to the labels that a reach has
--     goes_down s mode ns kind name a   the source of a kind and name in a namespace goes to the labels of a place
--     goes_beside s home ns kind name a   the same of a kind that is propagated, but for the source in one namespace
--     is_reached s ns kind name      a source from above goes to a place
--     is_taken s x                   there was no source in the place of x, whose namespace takes part, and one from above goes there
--     is_hit s x m                   x goes to a namespace below its own that takes part, and none went there before
--     hits s x                       it does so where a source of its kind and name lies
--     config_after s id new          the HNCConfiguration that counts then
--     comes_over s found kind        a kind comes to be propagated, and some source of it lies where a source from above goes
use Rattle.std.specs.Prelude.{◌≡◌, ℕ, Bool, false, not, ◌&&◌, List, [], ◌∷◌, filter, is_none, is_some, Option, None, if◌then◌else◌}
use Rattle.std.specs.List.{list_any}
use Rattle.std.specs.Option.{option_map_or}
use Rattle.std.specs.Str.{bytes_eq}
use Rattle.hx_object.specs.WellKnown.{config}
use Rattle.hx_object.specs.declared.kind.Kind.{Kind}
use Rattle.hx_object.specs.declared.kind.Kind.TheVariants.{Role, RoleBinding, ConfigMap, Secret, NetworkPolicy, LimitRange}
use Rattle.hx_object.specs.declared.object.Id.{Id}
use Rattle.hx_object.specs.declared.object.Mode.{Mode}
use Rattle.hx_object.specs.declared.object.Mode.TheVariants.{Propagate}
use Rattle.hx_object.specs.declared.object.Object.{Object}
use Rattle.hx_model.specs.Answers.{is_listed}
use Rattle.hx_model.specs.Cases.{same_name}
use Rattle.hx_model.specs.Conflicts.{labels_at}
pub use Rattle.hx_model.specs.Conflicts.{with_written}
use Rattle.hx_model.specs.Exceptions.{select_of, tree_select_in, none_of}
use Rattle.hx_model.specs.Forest.{in_chain, chain_of, tail_of}
use Rattle.hx_model.specs.Modes.{config_id, mode_in, mode_of}
use Rattle.hx_model.specs.Propagation.{is_propagated, is_source, goes_to, id_in, source_at, stays_home, top_source}
use Rattle.hx_model.specs.State.{State, object_at, put}
use Rattle.hx_model.specs.Tree.{forest_of}
use Rattle.hx_model.specs.TreeLabels.{is_open}
use Rattle.hx_reconcile.specs.Reaches.{reaches}
use Rattle.hx_reconcile.specs.declared.reach.Reach.{Reach}
pub use Rattle.hx_store.specs.Sources.{is_source_of}

-- the state with an object put
abbrev pub with_object : State → Object → State
with_object s x = record s { objects = put x s.objects }

-- what is found is a source
abbrev pub is_source_in : Option Object → Bool
is_source_in found = option_map_or is_source found false

-- what is found is a source with the same exceptions, which goes somewhere
abbrev pub is_alike : Object → Object → Bool
is_alike old x =
    is_source old
    && (not (stays_home old)
    && (same_name (select_of old) (select_of x)
    && (same_name (tree_select_in old) (tree_select_in x)
    && same_name (none_of old) (none_of x))))

abbrev pub goes_as_before : Option Object → Object → Bool
goes_as_before found x = option_map_or (λ old. is_alike old x) found false

-- what is found goes to the labels that a reach has, where its kind is propagated
abbrev pub IsReachOf : Reach → Option Object → Type 0
IsReachOf reach found = (labels : List (List ℕ × List ℕ)) → reaches reach labels ≡ option_map_or (λ x. goes_to Propagate x labels) found false

-- the source of a kind and name in a namespace goes to the labels of a place
unfoldable pub goes_down : State → Mode → List ℕ → Kind → List ℕ → List ℕ → Bool
goes_down s mode ns kind name a = option_map_or (λ x. goes_to mode x (labels_at s ns)) (object_at s.objects (id_in kind name a)) false

-- the same of a kind that is propagated, but for the source in one namespace
unfoldable pub goes_beside : State → List ℕ → List ℕ → Kind → List ℕ → List ℕ → Bool
goes_beside s home ns kind name a = not (bytes_eq a home) && goes_down s Propagate ns kind name a

-- a source from above goes to a place
unfoldable pub is_reached : State → List ℕ → Kind → List ℕ → Bool
is_reached s ns kind name = is_some (top_source s ns kind name (labels_at s ns))

-- there was no source in its place, its namespace takes part, and a source from above goes there
unfoldable pub is_taken : State → Object → Bool
is_taken s x = is_none (source_at s.objects x.id) && (is_open (forest_of s) x.id.ns && is_reached s x.id.ns x.id.kind x.id.name)

-- it goes to a namespace below its own that takes part, and none went there before
unfoldable pub is_hit : State → Object → List ℕ → Bool
is_hit s x m =
    not (bytes_eq m x.id.ns)
    && (in_chain (forest_of s) m x.id.ns
    && (is_open (forest_of s) m
    && (goes_to (mode_of s x.id.kind) x (labels_at s m)
    && not (is_reached s m x.id.kind x.id.name))))

-- it does so where a source of its kind and name lies
unfoldable pub hits : State → Object → Bool
hits s x = list_any (λ (y : Object). is_hit s x y.id.ns) (filter (is_source_of x.id.kind x.id.name) s.objects)

-- ---- modes

-- the kinds whose objects can be copied
abbrev pub copied_kinds : List Kind
copied_kinds = Role ∷ RoleBinding ∷ ConfigMap ∷ Secret ∷ NetworkPolicy ∷ LimitRange ∷ []

-- the HNCConfiguration that counts then
abbrev pub config_after : State → Id → Option Object → Option Object
config_after s id new = if bytes_eq id.name config && bytes_eq id.ns [] then new else object_at s.objects config_id

-- a place takes part, and a source from above would go there if its kind were propagated
unfoldable pub would_go : State → Id → Bool
would_go s id = is_open (forest_of s) id.ns && list_any (goes_down s Propagate id.ns id.kind id.name) (tail_of (chain_of (forest_of s) id.ns))

-- a source lies where a source from above would go
unfoldable pub has_overwritten : State → Kind → Bool
has_overwritten s kind = list_any (λ (y : Object). is_source y && would_go s y.id) (filter (is_listed kind None) s.objects)

-- a kind comes to be propagated by an HNCConfiguration, and some source of it lies so
unfoldable pub comes_over : State → Option Object → Kind → Bool
comes_over s found kind = is_propagated (mode_in found kind) && (not (is_propagated (mode_of s kind)) && has_overwritten s kind)
