-- Turns of workers, computed. Each expected value is written out.
--     overtaken      a source changes between a take and its finish: the copy is made all the same, and made again by the next turn
--     guarded        a source of the user's own is written between a take and its finish, which then meets a conflict
use Rattle.std.specs.Prelude.{codes}
use Rattle.std.proofs.Common.{◌≡◌, ℕ, true, false, true≢false, sym, List, [], ◌∷◌, None, Some, refl, arith}
use Rattle.std.specs.Fmt.{digits}
use Rattle.hx_object.specs.Sizes.{is_tree_key, size_of}
use Rattle.hx_object.specs.declared.kind.Kind.TheVariants.{Role}
use Rattle.hx_object.specs.declared.object.Need.{Need}
use Rattle.hx_object.specs.declared.object.Object.{Object}
use Rattle.hx_object.specs.declared.object.Payload.TheVariants.{Hierarchy, Plain}
use Rattle.hx_model.specs.declared.ask.Ask.TheVariants.{Create, Replace}
use Rattle.hx_model.specs.declared.ask.Answer.TheVariants.{One}
use Rattle.hx_model.specs.declared.config.RunConfig.{RunConfig}
use Rattle.hx_model.specs.declared.key.Finish.TheVariants.{Nothing, Conflict, Written}
use Rattle.hx_model.specs.declared.key.Key.{Key}
use Rattle.hx_model.specs.declared.key.Key.TheVariants as key
use Rattle.hx_model.specs.Answers.{same_object}
use Rattle.hx_model.specs.Keys.{same_key}
use Rattle.hx_model.specs.Limits.{is_copy, counts}
use Rattle.hx_model.specs.Machine.{History, Request, Took, Finished, Already, HeldBy, Dropped, opening_world, IsHistory, IsLegal, replay}
use Rattle.hx_model.specs.Propagation.{id_in}
use Rattle.hx_model.specs.Windows.{opened}
use Rattle.hx_model.specs.State.{State, Objects, object_at, with_version}
use Rattle.hx_model.specs.Texts.{new_namespace}
use Rattle.hx_model.specs.Tree.{hierarchy_id}

abbrev no_config : RunConfig
no_config = record { excluded = []; allow_skip = false }

abbrev acme : List ℕ
acme = codes "acme"

abbrev team : List ℕ
team = codes "team"

abbrev stored : List ℕ → ℕ → Object
stored name version = with_version (new_namespace name) version

abbrev under : List ℕ → List ℕ → ℕ → Object
under ns parent version = record { id = hierarchy_id ns; labels = []; annotations = []; payload = Hierarchy (Some parent) false [] []; version = version }

abbrev no_need : Need
no_need = record { finished = false; token = false; storage = 0; containers = [] }

abbrev role_in : List ℕ → List ℕ → ℕ → Object
role_in ns members version = record { id = id_in Role (codes "r") ns; labels = []; annotations = []; payload = Plain members no_need; version = version }

abbrev state : Objects → ℕ → State
state objects last = record { objects = objects; last = last; config = no_config; window = opened 0 }

-- ---- a source that changes meanwhile

-- acme over team, with Role r in acme
abbrev tree : State
tree = state (stored acme 1 ∷ stored team 2 ∷ under team acme 3 ∷ role_in acme (codes "{}") 4 ∷ []) 4

abbrev copy_in_team : Key
copy_in_team = key.Copy team Role (codes "r")

abbrev other : ℕ → Object
other version = role_in acme (codes "{\"rules\":[]}") version

abbrev overtaken : History
overtaken =
    Took 1 copy_in_team false
    ∷ Request (Replace (other 0) None false) (One (other 5) false)
    ∷ Finished 1 (Written 6)
    ∷ Took 1 copy_in_team false
    ∷ Finished 1 (Written 7)
    ∷ Took 1 copy_in_team true
    ∷ Finished 1 Nothing
    ∷ []

pub overtaken_legal : IsHistory (opening_world false tree) overtaken
unfolding is_copy is_tree_key counts size_of digits same_object same_key
overtaken_legal = (
  (refl, refl, λ _. refl),
  (
    (refl, λ _. refl),
    (
      (refl, refl, refl, omega arith),
      (
        (refl, refl, λ _. refl),
        (
          (refl, refl, refl, omega arith),
          ((refl, refl, λ e. absurd (true≢false e)), (refl, tt)),
        ),
      ),
    ),
  ),
)

-- the copy that comes of it
pub overtaken_leaves : object_at (replay (opening_world false tree) overtaken).state.objects (id_in Role (codes "r") team) ≡ Some (record (role_in team (codes "{\"rules\":[]}") 7) { labels = (codes "hnc.x-k8s.io/inherited-from", acme) ∷ [] })
unfolding is_copy is_tree_key counts size_of digits same_object same_key
overtaken_leaves = refl

-- ---- a source of the user's own

-- the same tree, where requests may pass over the rules
abbrev open_tree : State
open_tree = record tree { config = record { excluded = []; allow_skip = true } }

-- the user writes a Role r in team, past the rule on conflicts
abbrev guarded : History
guarded =
    Took 1 copy_in_team true
    ∷ Request (Create (role_in team (codes "{}") 0) true) (One (role_in team (codes "{}") 5) true)
    ∷ HeldBy 2 copy_in_team 1
    ∷ Finished 1 (Conflict 4 5)
    ∷ []

pub guarded_legal : IsHistory (opening_world false open_tree) guarded
unfolding is_copy is_tree_key counts size_of digits same_object same_key
guarded_legal =
    ((refl, refl, λ e. absurd (true≢false e)), ((refl, λ _. refl), ((refl, refl), ((refl, refl, refl, refl), tt))))

-- the next turn overwrites it, since that is wanted now
abbrev taken_again : History
taken_again = Took 1 copy_in_team false ∷ Finished 1 (Written 6) ∷ []

pub taken_again_legal : IsHistory (replay (opening_world false open_tree) guarded) taken_again
unfolding is_copy is_tree_key counts size_of digits same_object same_key
taken_again_legal = ((refl, refl, λ _. refl), ((refl, refl, refl, omega arith), tt))

-- a key that is dropped may be taken again, and no other worker has it meanwhile
abbrev dropped : History
dropped = Took 1 copy_in_team false ∷ Already 1 copy_in_team ∷ Dropped 1 (Some copy_in_team) ∷ Took 2 copy_in_team false ∷ Dropped 1 None ∷ []

pub dropped_legal : IsHistory (opening_world false tree) dropped
unfolding is_copy is_tree_key counts size_of digits same_object same_key
dropped_legal = ((refl, refl, λ _. refl), (refl, (refl, ((refl, refl, λ _. refl), (refl, tt)))))

-- what wants nothing isn't taken unless it is named
pub not_marked : IsLegal (opening_world false tree) (Took 1 (key.Copy acme Role (codes "r")) false) → ⊥
unfolding is_copy is_tree_key digits same_object same_key
not_marked legal = true≢false (sym (legal.2 refl))
