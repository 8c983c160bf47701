-- What the rules of admission look at: a write or a removal, and where it is made.
--     Family       what the rules on removals and on anchors look at besides
--     Case         the objects before and after, the namespace and the tree
--     subject_of   the namespace that an identity is of, or lies in
--     breaks       the denial by a rule, where a test finds that it is broken
--     is_leaving   a namespace is on its way out
--     is_kept_out  a namespace is excluded
use Rattle.std.specs.Prelude.{ℕ, Bool, false, List, Option, is_some, if◌then◌else◌}
use Rattle.std.specs.Option.{option_map_or, option_eq}
use Rattle.std.specs.Str.{bytes_eq}
use Rattle.hx_object.specs.Kinds.{is_namespace}
use Rattle.hx_object.specs.declared.object.Id.{Id}
use Rattle.hx_object.specs.declared.object.Object.{Object}
use Rattle.hx_model.specs.First.{so}
use Rattle.hx_model.specs.Forest.{Forest, is_in, node_of}
use Rattle.hx_model.specs.declared.config.RunConfig.{RunConfig}
use Rattle.hx_model.specs.declared.denial.Denial.{Denial}
use Rattle.hx_model.specs.declared.denial.Denial.TheVariants.{Broken}
use Rattle.hx_model.specs.declared.rule.Rule.{Rule}

-- Of the namespace that has the object's name: the namespace itself, whether the parent that its annotation names holds an anchor for it, whether some namespace names it as its parent, whether its reach has others, and whether its chain allows cascading deletion
pub record Family : Type 0 where
  pub named : Option Object
  pub anchored : Bool
  pub has_children : Bool
  pub has_followers : Bool
  pub cascades : Bool

-- `old` is the object that is there, `new` the one that is given, and `home` the namespace that the identity lies in. `hnc_config` is the HNCConfiguration that is stored, and `tree` the tree before the write. `conflict` says that some source is overwritten after the write that wasn't before
pub record Case : Type 0 where
  pub id : Id
  pub old : Option Object
  pub new : Option Object
  pub home : Option Object
  pub hnc_config : Option Object
  pub conflict : Bool
  pub family : Family
  pub tree : Forest
  pub config : RunConfig
  pub skip : Bool

-- a POST or a PUT
abbrev pub is_write : Case → Bool
is_write c = is_some c.new

-- the namespace that an identity is of, or lies in
abbrev pub subject_of : Id → List ℕ
subject_of id = if is_namespace id.kind then id.name else id.ns

-- a namespace is there, and on its way out
abbrev pub is_leaving : Forest → List ℕ → Bool
is_leaving f n = option_map_or (λ node. node.terminating) (node_of f n) false

-- the denial by a rule, where a test finds that it is broken
abbrev pub breaks : Rule → Bool → Option Denial
breaks rule test = so test (Broken rule)

-- a test holds of what is there
abbrev pub any_of : {A : Type 0} → (A → Bool) → Option A → Bool
any_of test found = option_map_or test found false

-- a namespace is excluded, also where it isn't there
abbrev pub is_kept_out : Case → List ℕ → Bool
is_kept_out c n = is_in n c.config.excluded

-- both are there and alike, or neither is there
abbrev pub same_name : Option (List ℕ) → Option (List ℕ) → Bool
same_name a b = option_eq bytes_eq a b
