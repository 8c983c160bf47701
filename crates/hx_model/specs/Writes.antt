-- What one commit may write.
--     id_written w        the identity that a write is of
--     MayWrite s w        an object that is put may be stored and has the next version, and one that is cut is there. A namespace is cut where it is on its way out and nothing lies in it
--     AreApart s ws       no write is of a namespace whose HierarchyConfiguration another one writes
--     MayWriteAll s ws    the writes of one commit: each may be made, no identity is written twice, a namespace goes alone, and at most one name comes or goes
-- The order of the writes then doesn't matter.
use Rattle.std.specs.Prelude.{◌≡◌, ◌≢◌, ◌<◌, ◌≤◌, ◌+◌, ℕ, Bool, true, false, ◌&&◌, ◌||◌, is_none, List, [], length, filter, map, Option, Some, None, IsSomeAnd}
use Rattle.std.specs.List.{AllByRecursion, IsDistinct, list_any}
use Rattle.std.specs.Str.{bytes_eq}
use Rattle.hx_object.specs.declared.kind.Kind.{Kind}
use Rattle.hx_object.specs.declared.object.Id.{Id}
use Rattle.hx_object.specs.declared.object.Object.{Object}
use Rattle.hx_model.specs.Limits.{is_namespace, is_hierarchy, is_anchor, greatest_version}
use Rattle.hx_model.specs.Serving.{IsServed}
use Rattle.hx_model.specs.State.{State, Objects, object_at, namespace_id, same_id, has_home, least_in}
use Rattle.hx_model.specs.Tree.{subnamespace_parent, is_terminating}
use Rattle.hx_model.specs.declared.key.Write.{Write}
use Rattle.hx_model.specs.declared.key.Write.TheVariants.{Put, Cut}

-- the identity that is written
abbrev pub id_written : Write → Id
id_written (Put x) = x.id
id_written (Cut id) = id

-- a namespace keeps the annotation that names its parent, and one that is on its way out stays so
pub record KeepsItsPlace (old x : Object) : Type 0 where
  pub annotation : subnamespace_parent x ≡ subnamespace_parent old
  pub phase : is_terminating old.payload ≡ true → is_terminating x.payload ≡ true

-- what a namespace keeps that is there; one that comes isn't on its way out
abbrev pub HasPlace : Option Object → Object → Type 0
HasPlace (Some old) x = KeepsItsPlace old x
HasPlace None x = is_terminating x.payload ≡ false

-- an object that may be stored as the next write: its namespace is there
pub record MayPut (s : State) (x : Object) : Type 0 where
  pub served : IsServed x
  pub next : x.version ≡ s.last + 1
  pub home : has_home s.objects x.id ≡ true
  pub place : is_namespace x.id.kind ≡ true → HasPlace (object_at s.objects x.id) x

-- a namespace that may go: it is on its way out, and nothing lies in it
pub record MayLeave (s : State) (n : List ℕ) : Type 0 where
  pub ended : IsSomeAnd (object_at s.objects (namespace_id n)) (λ x. is_terminating x.payload ≡ true)
  pub empty : least_in s.objects n ≡ None

-- an object that may be taken away: it is there, and a namespace may go
pub record MayCut (s : State) (id : Id) : Type 0 where
  pub there : (x : Object) × (object_at s.objects id ≡ Some x)
  pub leaf : is_namespace id.kind ≡ true → MayLeave s id.name

-- an object that is put may be stored, and one that is cut is there
abbrev pub MayWrite : State → Write → Type 0
MayWrite s (Put x) = MayPut s x
MayWrite s (Cut id) = MayCut s id

-- one is of a namespace, and the other of a HierarchyConfiguration that lies in it
abbrev pub are_joined : Id → Id → Bool
are_joined a b = is_namespace a.kind && is_hierarchy b.kind && bytes_eq a.name b.ns

-- no other write touches the namespace of a HierarchyConfiguration that is written
abbrev pub AreApart : List Id → Type 0
AreApart ids = AllByRecursion (λ a. AllByRecursion (λ b. are_joined a b ≡ false) ids) ids

-- a namespace is taken away
abbrev pub removes_namespace : Write → Bool
removes_namespace (Put x) = false
removes_namespace (Cut id) = is_namespace id.kind

-- namespaces and anchors give names, which are limited
abbrev pub gives_name : Kind → Bool
gives_name kind = is_namespace kind || is_anchor kind

-- a name may come or go
abbrev pub changes_names : Objects → Write → Bool
changes_names objects (Put x) = gives_name x.id.kind && is_none (object_at objects x.id)
changes_names objects (Cut id) = gives_name id.kind

-- the writes of one commit
pub record MayWriteAll (s : State) (ws : List Write) : Type 0 where
  pub each : AllByRecursion (MayWrite s) ws
  pub distinct : IsDistinct same_id (map id_written ws)
  pub apart : AreApart (map id_written ws)
  pub alone : list_any removes_namespace ws ≡ true → length ws ≡ 1
  pub naming : length (filter (changes_names s.objects) ws) ≤ 1
  pub fits : ws ≢ [] → s.last < greatest_version
