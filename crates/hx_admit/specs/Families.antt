-- What the rules on removals and on anchors look at besides, as it is found out.
--     allows_cascade_in     a namespace allows cascading deletion
--     IsFamilyFor           what is told of the namespace that has a name, where a rule looks at it: where a namespace is removed, and where an anchor is written or removed and the rules aren't skipped
-- Whether its chain allows cascading deletion is found out only where others would go with it.
use Rattle.std.specs.Prelude.{◌≡◌, ℕ, Bool, true, false, not, ◌&&◌, is_some, List, Option, option_copied}
use Rattle.std.specs.Option.{option_map_or}
use Rattle.hx_object.specs.declared.object.Id.{Id}
use Rattle.hx_object.specs.declared.object.Object.{Object}
use Rattle.hx_model.specs.Answers.{family_of}
use Rattle.hx_model.specs.Limits.{is_namespace, is_anchor}
use Rattle.hx_model.specs.State.{State, Objects, object_at}
use Rattle.hx_model.specs.Subnamespaces.{allows_cascade}
use Rattle.hx_model.specs.Tree.{hierarchy_id}
use Rattle.hx_admit.specs.declared.case.Family as kin

-- a namespace allows cascading deletion
abbrev pub allows_cascade_in : Objects → List ℕ → Bool
allows_cascade_in objects a = option_map_or (λ (x : Object). allows_cascade x.payload) (object_at objects (hierarchy_id a)) false

-- what is told of the namespace that has the name, where a rule looks at it
pub record IsFamilyFor (s : State) (id : Id) (new : Option Object) (skip : Bool) (f : kin.Family) : Type 0 where
  pub anchored : is_namespace id.kind ≡ true → is_some new ≡ false → f.anchored ≡ (family_of s id.name).anchored
  pub followers : is_namespace id.kind ≡ true → is_some new ≡ false → (f.has_followers && not f.cascades) ≡ ((family_of s id.name).has_followers && not (family_of s id.name).cascades)
  pub named : is_anchor id.kind ≡ true → skip ≡ false → option_copied f.named ≡ (family_of s id.name).named
  pub children : is_anchor id.kind ≡ true → skip ≡ false → is_some new ≡ false → (f.has_children && not f.cascades) ≡ ((family_of s id.name).has_children && not (family_of s id.name).cascades)
