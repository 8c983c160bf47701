-- Which sources go where, and what a copy is.
--     is_source x            an object of a kind that can be copied, and that isn't a copy
--     goes_to mode x labels  a source of a kind in this mode goes to a namespace of these labels below its own
--     source_at objects id   the source of an identity
--     sources_along          the sources of a kind and name in the namespaces of a chain, the farthest first
--     top_source s n kind name labels   the source that wins at a place: the farthest one that goes there
--     copy_of x n            the copy of a source in a namespace
--     is_hnc_key             an annotation that a copy doesn't keep
-- The kinds, the modes and the exceptions are HNC's. That the certificates of a cluster and the tokens of service accounts go nowhere, and which annotations a copy keeps, is this project's choice.
use Rattle.std.specs.Prelude.{ℕ, Bool, true, false, not, ◌&&◌, ◌||◌, nat_eq, List, [], ◌∷◌, ◌++◌, codes, filter, find, take, Option, Some, None, option_and_then}
use Rattle.std.specs.List.{ends_with}
use Rattle.std.specs.Str.{bytes_eq}
use Rattle.hx_object.specs.Kinds.{can_be_copied}
use Rattle.hx_object.specs.Names.{first_slash}
use Rattle.hx_object.specs.Pairs.{with_pair}
use Rattle.hx_object.specs.WellKnown.{inherited_from, root_certificates}
use Rattle.hx_object.specs.declared.kind.Kind.{Kind}
use Rattle.hx_object.specs.declared.kind.Kind.TheVariants.{ConfigMap}
use Rattle.hx_object.specs.declared.object.Id.{Id}
use Rattle.hx_object.specs.declared.object.Mode.{Mode}
use Rattle.hx_object.specs.declared.object.Mode.TheVariants.{Propagate}
use Rattle.hx_object.specs.declared.object.Object.{Object}
use Rattle.hx_object.specs.declared.object.Payload.{Payload}
use Rattle.hx_object.specs.declared.object.Payload.TheVariants.{Plain}
use Rattle.hx_model.specs.Exceptions.{is_allowed}
use Rattle.hx_model.specs.First.{so}
use Rattle.hx_model.specs.Forest.{chain_of, tail_of}
use Rattle.hx_model.specs.Limits.{is_copy}
use Rattle.hx_model.specs.Modes.{mode_of}
use Rattle.hx_model.specs.State.{State, Objects, object_at}
use Rattle.hx_model.specs.Tree.{forest_of}

-- ---- sources

abbrev pub is_source : Object → Bool
is_source x = can_be_copied x.id.kind && not (is_copy x)

abbrev pub is_config_map : Kind → Bool
is_config_map ConfigMap = true
is_config_map _ = false

-- the token of a service account
abbrev pub is_token : Payload → Bool
is_token (Plain members need) = need.token
is_token _ = false

-- what goes nowhere, whatever its mode
abbrev pub stays_home : Object → Bool
stays_home x = (is_config_map x.id.kind && bytes_eq x.id.name root_certificates) || is_token x.payload

abbrev pub is_propagated : Mode → Bool
is_propagated Propagate = true
is_propagated _ = false

-- a source of a kind in this mode goes to a namespace of these labels below its own
abbrev pub goes_to : Mode → Object → List (List ℕ × List ℕ) → Bool
goes_to mode x labels = is_propagated mode && (is_source x && (not (stays_home x) && is_allowed x labels))

-- ---- the source that wins

abbrev pub source_at : Objects → Id → Option Object
source_at objects id = option_and_then (λ x. so (is_source x) x) (object_at objects id)

abbrev pub id_in : Kind → List ℕ → List ℕ → Id
id_in kind name n = record { kind = kind; ns = n; name = name }

abbrev pub as_list : {A : Type 0} → Option A → List A
as_list (Some a) = a ∷ []
as_list None = []

-- the sources of a kind and name in the namespaces of a chain, the farthest first
abbrev pub sources_along : Objects → Kind → List ℕ → List (List ℕ) → List Object
sources_along objects kind name [] = []
sources_along objects kind name (a ∷ chain) = sources_along objects kind name chain ++ as_list (source_at objects (id_in kind name a))

-- those in the proper ancestors of a namespace
abbrev pub sources_above : State → List ℕ → Kind → List ℕ → List Object
sources_above s n kind name = sources_along s.objects kind name (tail_of (chain_of (forest_of s) n))

-- the first of some sources, the farthest first, that goes to these labels
abbrev pub top_of : Mode → List (List ℕ × List ℕ) → List Object → Option Object
top_of mode labels sources = find (λ x. goes_to mode x labels) sources

-- the source that wins at a place, where the namespace has these labels
abbrev pub top_source : State → List ℕ → Kind → List ℕ → List (List ℕ × List ℕ) → Option Object
top_source s n kind name labels = top_of (mode_of s kind) labels (sources_above s n kind name)

-- ---- copies

-- a domain of HNC's
abbrev pub is_hnc_domain : List ℕ → Bool
is_hnc_domain prefix = bytes_eq prefix (codes "hnc.x-k8s.io") || ends_with nat_eq prefix (codes ".hnc.x-k8s.io")

-- the key has a prefix, before its first slash, that is a domain of HNC's
abbrev pub is_hnc_cut_at : List ℕ → Option ℕ → Bool
is_hnc_cut_at key None = false
is_hnc_cut_at key (Some slash) = is_hnc_domain (take slash key)

abbrev pub is_hnc_key : List ℕ → Bool
is_hnc_key key = is_hnc_cut_at key (first_slash key)

-- a copy keeps the annotations that aren't HNC's
abbrev pub kept_annotations : List (List ℕ × List ℕ) → List (List ℕ × List ℕ)
kept_annotations annotations = filter (λ pair. not (is_hnc_key pair.0)) annotations

-- the source's kind, name, labels and contents, and the label that tells where it comes from. It has no version yet
abbrev pub copy_of : Object → List ℕ → Object
copy_of x n = record {
  id = id_in x.id.kind x.id.name n;
  labels = with_pair inherited_from x.id.ns x.labels;
  annotations = kept_annotations x.annotations;
  payload = x.payload;
  version = 0;
}
