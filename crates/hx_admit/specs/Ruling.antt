-- What the check of the rules is given.
--     family_in      the family that code has
--     case_of        the case that code has
--     IsAtHome       the namespace of a HierarchyConfiguration is there where the tree has it, and has the parent that the tree says
use Rattle.std.specs.Prelude.{◌≡◌, is_some, option_copied, IfSome}
use Rattle.hx_model.specs.Cases.{Case, Family}
use Rattle.hx_model.specs.Forest.{is_there, parent_of}
use Rattle.hx_model.specs.Tree.{hierarchy}
pub use Rattle.hx_model.specs.Tree.{parent_with}
use Rattle.hx_state.specs.Homes.{home_in_case}
use Rattle.hx_admit.specs.declared.case.Case as code
use Rattle.hx_admit.specs.declared.case.Family as kin

-- the family that code has
abbrev pub family_in : kin.Family → Family
family_in f = record { named = option_copied f.named; anchored = f.anchored; has_children = f.has_children; has_followers = f.has_followers; cascades = f.cascades }

-- the case that code has
abbrev pub case_of : code.Case → Case
case_of c = record { id = c.id.now; old = option_copied c.old; new = option_copied c.new; home = home_in_case c.home; hnc_config = option_copied c.hnc_config; conflict = c.conflict; family = family_in c.family; tree = c.forest.now.nodes; config = c.config.now; skip = c.skip }

-- the namespace of a HierarchyConfiguration is there where the tree has it, and has the parent that the tree says
pub record IsAtHome (c : Case) : Type 0 where
  pub there : is_there c.tree c.id.ns ≡ is_some c.home
  pub parent : c.id.name ≡ hierarchy → IfSome c.home (λ x. parent_of c.tree c.id.ns ≡ parent_with c.old x)
