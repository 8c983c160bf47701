-- What tells the parent that the annotation of a namespace names.
--     TellOwners objects owners     nodes that are there where namespaces are, each under the parent that the annotation names
use Rattle.std.specs.Prelude.{◌≡◌, ℕ, List, option_map}
use Rattle.hx_model.specs.Forest.{Forest, node_of}
use Rattle.hx_model.specs.State.{Objects, object_at, namespace_id}
use Rattle.hx_model.specs.Tree.{subnamespace_parent}
use Rattle.hx_model.specs.declared.node.Node.{Node}

-- the owners tell of each namespace that is there which parent its annotation names
abbrev pub TellOwners : Objects → Forest → Type 0
TellOwners objects owners = (n : List ℕ) → option_map (λ (node : Node). node.parent) (node_of owners n) ≡ option_map subnamespace_parent (object_at objects (namespace_id n))
