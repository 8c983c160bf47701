-- Which keys want a write.
--     namespaces objects       the namespaces
--     wanting_of, wanting_in   the keys that want a write, of a namespace;  of some namespaces
use Rattle.std.specs.Prelude.{ℕ, List, None, filter, flat_map}
use Rattle.hx_object.specs.declared.kind.Kind.TheVariants.{Namespace}
use Rattle.hx_object.specs.declared.object.Object.{Object}
use Rattle.hx_model.specs.Answers.{is_listed}
use Rattle.hx_model.specs.Machine.{wants}
use Rattle.hx_model.specs.State.{State, Objects}
use Rattle.hx_model.specs.Tree.{forest_of}
use Rattle.hx_model.specs.declared.key.Key.{Key}
use Rattle.hx_marks.specs.Law.{known_of}

-- the namespaces
abbrev pub namespaces : Objects → List Object
namespaces objects = filter (is_listed Namespace None) objects

-- the keys of a namespace that want a write
abbrev pub wanting_of : State → List ℕ → List Key
wanting_of s n = filter (wants s) (known_of s.objects (forest_of s) n)

-- the same for some namespaces
abbrev pub wanting_in : State → List Object → List Key
wanting_in s namespaces = flat_map (λ (x : Object). wanting_of s x.id.name) namespaces
