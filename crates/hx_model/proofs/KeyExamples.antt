-- Which keys a commit may make wait, computed. Each expected value is worked out by hand.
--     tree           acme over team, and ops beside them, with these objects
--     waits          a commit of one write may make a key wait
use Rattle.std.specs.Prelude.{codes}
use Rattle.std.proofs.Common.{◌≡◌, ℕ, Bool, true, false, List, [], ◌∷◌, None, Some, refl}
use Rattle.hx_object.specs.declared.kind.Kind.{Kind}
use Rattle.hx_object.specs.declared.kind.Kind.TheVariants.{ConfigMap, HierarchicalResourceQuota, Pod, Secret, SubnamespaceAnchor}
use Rattle.hx_object.specs.declared.object.Object.{Object}
use Rattle.hx_object.specs.declared.object.Payload.{Payload}
use Rattle.hx_object.specs.declared.object.Payload.TheVariants.{Anchor, Hierarchy, Plain, Quota}
use Rattle.hx_model.specs.Keys.{may_mark}
use Rattle.hx_model.specs.Windows.{opened}
use Rattle.hx_model.specs.State.{State, Objects, with_version}
use Rattle.hx_model.specs.Texts.{new_namespace}
use Rattle.hx_model.specs.Tree.{hierarchy_id}
use Rattle.hx_model.specs.declared.key.Key.{Key}
use Rattle.hx_model.specs.declared.key.Key.TheVariants as key
use Rattle.hx_model.specs.declared.key.Write.{Write}
use Rattle.hx_model.specs.declared.key.Write.TheVariants.{Put, Cut}

abbrev acme : List ℕ
acme = codes "acme"

abbrev ops : List ℕ
ops = codes "ops"

abbrev team : List ℕ
team = codes "team"

abbrev holds : Kind → List ℕ → List ℕ → Payload → Object
holds kind ns name payload = record { id = record { kind = kind; ns = ns; name = name }; labels = []; annotations = []; payload = payload; version = 1 }

abbrev plain : Payload
plain = Plain (codes "{}") (record { finished = false; token = false; storage = 0; containers = [] })

abbrev stored : List ℕ → Object
stored name = with_version (new_namespace name) 1

abbrev under : List ℕ → List ℕ → Object
under ns parent = record { id = hierarchy_id ns; labels = []; annotations = []; payload = Hierarchy (Some parent) false [] []; version = 1 }

abbrev quota : List ℕ → Object
quota ns = holds HierarchicalResourceQuota ns (codes "q") (Quota [] [])

abbrev pod : List ℕ → Object
pod ns = holds Pod ns (codes "p") plain

abbrev config : List ℕ → Object
config ns = holds ConfigMap ns (codes "c") plain

abbrev anchor : List ℕ → List ℕ → Object
anchor ns name = holds SubnamespaceAnchor ns name (Anchor None)

abbrev tree : Objects → State
tree objects = record { objects = stored acme ∷ stored ops ∷ stored team ∷ under team acme ∷ objects; last = 1; config = record { excluded = []; allow_skip = true }; window = opened 0 }

abbrev waits : Objects → Write → Key → Bool
waits objects write k = may_mark (tree objects) (write ∷ []) k

-- ---- usage

-- a Pod that is written under no quota makes none tell anew
no_quota : waits [] (Put (pod team)) (key.Used acme (codes "q")) ≡ false
no_quota = refl

-- one beside it tells what it told
beside_quota : waits (quota ops ∷ []) (Put (pod team)) (key.Used ops (codes "q")) ≡ false
beside_quota = refl

-- one below it, too
below_quota : waits (quota team ∷ []) (Put (pod acme)) (key.Used team (codes "q")) ≡ false
below_quota = refl

-- one above it may tell something else
above_quota : waits (quota acme ∷ []) (Put (pod team)) (key.Used acme (codes "q")) ≡ true
above_quota = refl

-- but none of another name
other_quota : waits (quota acme ∷ []) (Put (pod team)) (key.Used acme (codes "r")) ≡ false
other_quota = refl

-- a quota that is written tells
new_quota : waits [] (Put (quota acme)) (key.Used acme (codes "q")) ≡ true
new_quota = refl

-- ---- copies

-- Pods aren't copied
no_copies : waits [] (Put (pod team)) (key.Copy team Pod (codes "p")) ≡ false
no_copies = refl

-- a ConfigMap has copies in its subtree
copies_below : waits [] (Put (config acme)) (key.Copy team ConfigMap (codes "c")) ≡ true
copies_below = refl

-- so it has when it goes
copies_go : waits (config acme ∷ []) (Cut (config acme).id) (key.Copy team ConfigMap (codes "c")) ≡ true
copies_go = refl

-- none beside it
copies_beside : waits [] (Put (config acme)) (key.Copy ops ConfigMap (codes "c")) ≡ false
copies_beside = refl

-- none above it
copies_above : waits [] (Put (config team)) (key.Copy acme ConfigMap (codes "c")) ≡ false
copies_above = refl

-- none of another kind that has the name
copies_of_secrets : waits (holds Secret acme (codes "c") plain ∷ []) (Put (config acme)) (key.Copy team Secret (codes "c")) ≡ false
copies_of_secrets = refl

-- none in a namespace that isn't there
copies_nowhere : waits [] (Put (config (codes "none"))) (key.Copy (codes "none") ConfigMap (codes "c")) ≡ false
copies_nowhere = refl

-- ---- names

-- a HierarchyConfiguration may make wait what any namespace wants
moved_waits : waits [] (Put (under ops acme)) (key.Tree team) ≡ true
moved_waits = refl

-- but no name that neither a namespace has nor an anchor asks for
moved_nowhere : waits [] (Put (under ops acme)) (key.Report (codes "none")) ≡ false
moved_nowhere = refl

-- an anchor that is written asks for one
asked_waits : waits [] (Put (anchor acme (codes "none"))) (key.Report (codes "none")) ≡ true
asked_waits = refl

-- a Pod makes only the removal of its namespace wait
pod_waits : waits [] (Put (pod team)) (key.Purge team) ≡ true
pod_waits = refl

pod_leaves_labels : waits [] (Put (pod team)) (key.Tree team) ≡ false
pod_leaves_labels = refl

-- ---- several writes

-- no write makes no key wait
no_writes : may_mark (tree (quota acme ∷ [])) [] (key.Used acme (codes "q")) ≡ false
no_writes = refl

-- several make keys of the two states wait
several_wait : may_mark (tree (anchor acme team ∷ [])) (Cut (anchor acme team).id ∷ Put (stored team) ∷ []) (key.Child acme team) ≡ true
several_wait = refl

several_nowhere : may_mark (tree []) (Put (stored ops) ∷ Put (stored team) ∷ []) (key.Child acme team) ≡ false
several_nowhere = refl
