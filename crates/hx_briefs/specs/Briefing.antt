-- What a brief is copied out of.
--     id_found               the identity of what is found
--     AreParts s k brief     the brief has this key, and its version, its guards and its facts are those of the state for it
--     nearest_first          the sources of a kind and name in the namespaces of a chain, the nearest first
use Rattle.std.specs.Prelude.{◌≡◌, ℕ, List, [], ◌∷◌, ◌++◌, Option, option_map}
use Rattle.hx_object.specs.declared.kind.Kind.{Kind}
use Rattle.hx_object.specs.declared.object.Id.{Id}
use Rattle.hx_object.specs.declared.object.Object.{Object}
use Rattle.hx_model.specs.Propagation.{as_list, id_in, source_at}
use Rattle.hx_model.specs.State.{Objects, State}
use Rattle.hx_model.specs.Wanted.{guards_of}
use Rattle.hx_model.specs.declared.key.Key.{Key}
use Rattle.hx_reconcile.specs.Briefs.{facts_of}
use Rattle.hx_reconcile.specs.declared.brief.Brief.{Brief}

-- the identity of what is found
abbrev pub id_found : Option Object → Option Id
id_found found = option_map (λ (x : Object). x.id) found

-- the brief has this key, and its version, its guards and its facts are those of the state for it
abbrev pub AreParts : State → Key → Brief → Type 0
AreParts s k brief = (brief.key ≡ k) × (brief.seen ≡ s.last) × (brief.guards ≡ guards_of s k) × (brief.facts ≡ facts_of s k)

-- the sources of a kind and name in the namespaces of a chain, the nearest first
abbrev pub nearest_first : Objects → Kind → List ℕ → List (List ℕ) → List Object
nearest_first objects kind name [] = []
nearest_first objects kind name (a ∷ chain) = as_list (source_at objects (id_in kind name a)) ++ nearest_first objects kind name chain
