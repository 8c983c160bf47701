-- What is removed.
--     ended_at s m     the write by which a namespace begins to leave, where it is there and doesn't yet
use Rattle.std.specs.Prelude.{ℕ, ◌+◌, List, [], ◌∷◌, Option, Some, None, if◌then◌else◌}
use Rattle.hx_object.specs.declared.object.Object.{Object}
use Rattle.hx_model.specs.Answers.{ended}
use Rattle.hx_model.specs.State.{State, object_at, namespace_id}
use Rattle.hx_model.specs.Tree.{is_terminating}
use Rattle.hx_model.specs.declared.key.Write.{Write}
use Rattle.hx_model.specs.declared.key.Write.TheVariants.{Put}

-- one that is there begins to leave, unless it does already
abbrev pub ended_found : ℕ → Option Object → List Write
ended_found version None = []
ended_found version (Some x) = if is_terminating x.payload then [] else Put (ended version x) ∷ []

-- the same of the namespace of a name
abbrev pub ended_at : State → List ℕ → List Write
ended_at s m = ended_found (s.last + 1) (object_at s.objects (namespace_id m))
