-- What the keys of the writes of one commit promise.
--     IsEndingWrite s w        a namespace begins to leave, or an anchor goes
--     IsRegular s writes       there is one write, or each ends something
--     Covers s writes keys     each other key wants the same, on the same guards, before and after the writes
--     IsWithin s writes keys   each of them is a key of the state before or after the writes, and where one object that is kept as it is given is written, one that it touches
use Rattle.std.specs.Prelude.{◌≡◌, ◌⊎◌, ◌+◌, true, false, List, [], ◌∷◌, Some}
use Rattle.std.specs.List.{AllByRecursion}
use Rattle.hx_object.specs.Kinds.{is_anchor, is_namespace}
use Rattle.hx_object.specs.declared.object.Object.{Object}
use Rattle.hx_model.specs.Answers.{ended}
use Rattle.hx_model.specs.Covered.{IsSameFor}
use Rattle.hx_model.specs.Keys.{is_among, may_mark}
use Rattle.hx_model.specs.State.{State, object_at, state_after}
use Rattle.hx_model.specs.Tree.{is_terminating}
use Rattle.hx_model.specs.declared.key.Key.{Key}
use Rattle.hx_model.specs.declared.key.Write.{Write}
use Rattle.hx_model.specs.declared.key.Write.TheVariants.{Put, Cut}

-- a namespace that is there is on its way out from now on
pub record EndsNamespace (s : State) (x : Object) : Type 0 where
  pub kind : is_namespace x.id.kind ≡ true
  pub old : Object
  pub there : object_at s.objects x.id ≡ Some old
  pub stood : is_terminating old.payload ≡ false
  pub is : x ≡ ended (s.last + 1) old

abbrev pub IsEndingWrite : State → Write → Type 0
IsEndingWrite s (Put x) = EndsNamespace s x
IsEndingWrite s (Cut id) = is_anchor id.kind ≡ true

-- so are the writes of a request, and of a key
abbrev pub IsRegular : State → List Write → Type 0
IsRegular s writes = ((write : Write) × (writes ≡ write ∷ [])) ⊎ AllByRecursion (IsEndingWrite s) writes

-- a key that isn't among them wants the same write on the same guards before and after the writes, or none either time
abbrev pub Covers : State → List Write → List Key → Type 0
Covers s writes keys = IsRegular s writes → (k : Key) → is_among k keys ≡ false → IsSameFor s (state_after s writes) k

-- each of them is one that a commit of the writes may make wait (`may_mark`): a key of the state before or after them. Where there is one write, of an object that is kept as it is given, it is a key that this object touches: of a copy of its kind and name in the subtree of its namespace, of a quota in a namespace of its chain, or of the removal of its namespace. Without writes there is none
abbrev pub IsWithin : State → List Write → List Key → Type 0
IsWithin s writes keys = IsRegular s writes → (k : Key) → is_among k keys ≡ true → may_mark s writes k ≡ true
