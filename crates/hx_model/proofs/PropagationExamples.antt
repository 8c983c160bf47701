-- Modes, copies, tree labels and conflicts, computed. Each expected value is written out.
--     tree       acme over team over app, with Role r in acme
use Rattle.std.specs.Prelude.{codes}
use Rattle.std.proofs.Common.{◌≡◌, ℕ, true, false, List, [], ◌∷◌, None, Some, refl}
use Rattle.std.specs.Fmt.{digits}
use Rattle.hx_object.specs.Sizes.{is_tree_key}
use Rattle.hx_object.specs.declared.kind.Kind.TheVariants.{Role, ConfigMap, Secret}
use Rattle.hx_object.specs.declared.object.Mode.TheVariants.{Propagate, Remove, Ignore}
use Rattle.hx_object.specs.declared.object.ModeEntry.{ModeEntry}
use Rattle.hx_object.specs.declared.object.Mode.{Mode}
use Rattle.hx_object.specs.declared.object.Need.{Need}
use Rattle.hx_object.specs.declared.object.Object.{Object}
use Rattle.hx_object.specs.declared.object.Payload.TheVariants.{Config, Hierarchy, Plain}
use Rattle.hx_model.specs.declared.config.RunConfig.{RunConfig}
use Rattle.hx_model.specs.declared.key.Key.TheVariants as key
use Rattle.hx_model.specs.declared.key.Write.TheVariants.{Put}
use Rattle.hx_model.specs.Conflicts.{is_overwritten, makes_conflict}
use Rattle.hx_object.specs.Sizes.{size_of}
use Rattle.hx_model.specs.declared.ask.Ask.TheVariants.{Create, Replace}
use Rattle.hx_model.specs.declared.refusal.Refusal.TheVariants.{Broken}
use Rattle.hx_model.specs.declared.rule.Rule.TheVariants.{O2, H5, C5}
use Rattle.hx_model.specs.Limits.{is_copy, counts}
use Rattle.hx_model.specs.Answers.{same_object, refusal_of}
use Rattle.hx_model.specs.Modes.{config_id, mode_of}
use Rattle.hx_model.specs.Propagation.{id_in, is_hnc_key}
use Rattle.hx_model.specs.Windows.{opened}
use Rattle.hx_model.specs.State.{State, Objects, ascends, with_version}
use Rattle.hx_model.specs.Texts.{new_namespace}
use Rattle.hx_model.specs.Tree.{hierarchy_id}
use Rattle.hx_model.specs.Wanted.{wanted_write}

abbrev no_config : RunConfig
no_config = record { excluded = []; allow_skip = false }

abbrev acme : List ℕ
acme = codes "acme"

abbrev team : List ℕ
team = codes "team"

abbrev app : List ℕ
app = codes "app"

abbrev stored : List ℕ → ℕ → Object
stored name version = with_version (new_namespace name) version

abbrev under : List ℕ → List ℕ → ℕ → Object
under ns parent version = record { id = hierarchy_id ns; labels = []; annotations = []; payload = Hierarchy (Some parent) false [] []; version = version }

abbrev no_need : Need
no_need = record { finished = false; token = false; storage = 0; containers = [] }

abbrev role_in : List ℕ → ℕ → Object
role_in ns version = record { id = id_in Role (codes "r") ns; labels = []; annotations = []; payload = Plain (codes "{}") no_need; version = version }

abbrev state : Objects → ℕ → State
state objects last = record { objects = objects; last = last; config = no_config; window = opened 0 }

-- ---- acme over team over app

abbrev tree : State
tree = state (stored acme 1 ∷ stored app 3 ∷ stored team 2 ∷ under app team 5 ∷ under team acme 4 ∷ role_in acme 6 ∷ []) 6

pub tree_in_order : ascends tree.objects ≡ true
tree_in_order = refl

-- ---- modes

pub roles_are_propagated : mode_of tree Role ≡ Propagate
roles_are_propagated = refl

pub others_are_ignored : mode_of tree ConfigMap ≡ Ignore
others_are_ignored = refl

abbrev entry : Mode → ModeEntry
entry mode = record { group = []; resource = codes "secrets"; mode = mode }

abbrev configured : State
configured = state (record { id = config_id; labels = []; annotations = []; payload = Config (entry Remove ∷ entry Propagate ∷ []); version = 1 } ∷ []) 1

-- the first entry that names a kind counts
pub secrets_are_removed : mode_of configured Secret ≡ Remove
secrets_are_removed = refl

-- ---- copies

pub copy_in_app : wanted_write tree (key.Copy app Role (codes "r")) ≡ Some (Put (record (role_in app 0) { labels = (codes "hnc.x-k8s.io/inherited-from", acme) ∷ [] }))
unfolding is_copy same_object digits
copy_in_app = refl

pub no_copy_of_another_name : wanted_write tree (key.Copy app Role (codes "s")) ≡ None
unfolding is_copy same_object digits
no_copy_of_another_name = refl

pub no_copy_in_acme : wanted_write tree (key.Copy acme Role (codes "r")) ≡ None
unfolding is_copy same_object digits
no_copy_in_acme = refl

pub hnc_keys : is_hnc_key (codes "propagate.hnc.x-k8s.io/select") ≡ true
hnc_keys = refl

pub hnc_key : is_hnc_key (codes "hnc.x-k8s.io/subnamespace-of") ≡ true
hnc_key = refl

pub no_hnc_key : is_hnc_key (codes "hnc.x-k8s.io") ≡ false
no_hnc_key = refl

pub other_key : is_hnc_key (codes "xhnc.x-k8s.io/a") ≡ false
other_key = refl

-- ---- tree labels

pub labels_of_app : wanted_write tree (key.Tree app) ≡ Some (Put (record (new_namespace app) {
  labels =
      (codes "acme.tree.hnc.x-k8s.io/depth", codes "2")
      ∷ (codes "app.tree.hnc.x-k8s.io/depth", codes "0")
      ∷ (codes "hnc.x-k8s.io/included-namespace", codes "true")
      ∷ (codes "team.tree.hnc.x-k8s.io/depth", codes "1") ∷ [];
}))
unfolding is_tree_key same_object digits
labels_of_app = refl

-- ---- conflicts

-- team alone has Role r, and lies below acme
abbrev lower : State
lower = state (stored acme 1 ∷ stored team 2 ∷ under team acme 3 ∷ role_in team 4 ∷ []) 4

-- acme and team have a Role r each, and neither lies below the other
abbrev apart : State
apart = state (stored acme 1 ∷ stored team 2 ∷ role_in acme 3 ∷ role_in team 4 ∷ []) 4

abbrev secret_in : List ℕ → ℕ → Object
secret_in ns version = record { id = id_in Secret (codes "s") ns; labels = []; annotations = []; payload = Plain (codes "{}") no_need; version = version }

-- acme and team have a Secret s each, and team lies below acme
abbrev secrets : State
secrets = state (stored acme 1 ∷ stored team 2 ∷ under team acme 3 ∷ secret_in acme 4 ∷ secret_in team 5 ∷ []) 5

-- team has a Role r of its own
abbrev torn : State
torn = state (stored acme 1 ∷ stored app 3 ∷ stored team 2 ∷ under app team 5 ∷ under team acme 4 ∷ role_in acme 6 ∷ role_in team 7 ∷ []) 7

pub role_of_team : is_overwritten torn (id_in Role (codes "r") team) ≡ true
unfolding is_copy is_tree_key digits
role_of_team = refl

pub role_of_acme : is_overwritten torn (id_in Role (codes "r") acme) ≡ false
unfolding is_copy is_tree_key digits
role_of_acme = refl

pub new_conflict : makes_conflict tree torn ≡ true
unfolding is_copy is_tree_key digits
new_conflict = refl

pub old_conflict : makes_conflict torn torn ≡ false
unfolding is_copy is_tree_key digits
old_conflict = refl

-- ---- refusals

-- a source below one that goes there
pub role_below : refusal_of tree (Create (role_in team 0) false) ≡ Some (Broken O2)
unfolding is_copy is_tree_key counts size_of digits same_object
role_below = refl

-- and one above it
pub role_above : refusal_of lower (Create (role_in acme 0) false) ≡ Some (Broken O2)
unfolding is_copy is_tree_key counts size_of digits same_object
role_above = refl

-- a namespace that comes below such a source
pub team_stays : refusal_of apart (Create (under team acme 0) false) ≡ Some (Broken H5)
unfolding is_copy is_tree_key counts size_of digits same_object
team_stays = refl

-- the contents of a source that is overwritten may change: no conflict is new
pub contents_change : refusal_of torn (Replace (record (role_in team 0) { payload = Plain (codes "{\"rules\":[]}") no_need }) None false) ≡ None
unfolding is_copy is_tree_key counts size_of digits same_object
contents_change = refl

-- a kind of which two sources lie one below the other
pub secrets_stay : refusal_of secrets (Create (record { id = config_id; labels = []; annotations = []; payload = Config (entry Propagate ∷ []); version = 0 }) false) ≡ Some (Broken C5)
unfolding is_copy is_tree_key counts size_of digits same_object
secrets_stay = refl
