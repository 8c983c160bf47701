-- That the rules look at the tree of the next state.
--     IsParentAfter     the parent after a write, as the rules have it, is the one in the tree of the state after it
use Rattle.std.specs.Prelude.{◌≡◌, Bool, true, [], ◌∷◌, Option, Some, None}
use Rattle.hx_object.specs.declared.object.Id.{Id}
use Rattle.hx_object.specs.declared.object.Object.{Object}
use Rattle.hx_model.specs.Answers.{case_at}
use Rattle.hx_model.specs.Forest.{parent_of}
use Rattle.hx_model.specs.Limits.{is_hierarchy}
use Rattle.hx_model.specs.RulesHierarchy.{parent_after}
use Rattle.hx_model.specs.State.{State, state_after}
use Rattle.hx_model.specs.Tree.{forest_of}
use Rattle.hx_model.specs.Valid.{IsValid}
use Rattle.hx_model.specs.declared.key.Write.{Write}
use Rattle.hx_model.specs.declared.key.Write.TheVariants.{Put, Cut}

-- the namespace of a HierarchyConfiguration names that parent once this is written
abbrev pub IsParentAfter : State → Write → Id → Option Object → Option Object → Bool → Type 0
IsParentAfter s write id old new skip = parent_of (forest_of (state_after s (write ∷ []))) id.ns ≡ parent_after (case_at s id old new skip)

-- where one is put
abbrev pub PutTellsParent : Type 0
PutTellsParent = (s : State) (x : Object) (old : Option Object) (skip : Bool) → IsValid s → is_hierarchy x.id.kind ≡ true → IsParentAfter s (Put x) x.id old (Some x) skip

-- where one is cut
abbrev pub CutTellsParent : Type 0
CutTellsParent = (s : State) (id : Id) (old : Option Object) (skip : Bool) → IsValid s → is_hierarchy id.kind ≡ true → IsParentAfter s (Cut id) id old None skip
