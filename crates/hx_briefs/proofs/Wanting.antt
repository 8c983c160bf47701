-- Which keys want a write.
--     stands_for           a brief of the parts of a state stands for it
--     wanted_here          the write of a key is planned by the facts of the state
--     wanted_by            what is planned for a brief of a key is the wanted write
--     known_listed         a key that wants a write is known of a namespace that is listed
use Rattle.std.proofs.Common.{◌≡◌, ◌≢◌, ℕ, Bool, true, false, cond, ◌&&◌, ◌||◌, ◌==◌, Option, Some, None, List, [], ◌∷◌, ◌++◌, map, filter, refl, sym, ap, ◌∙◌, subst, true≢false}
use Rattle.std.specs.Prelude.{is_some, is_none, not, if◌then◌else◌}
use Rattle.std.specs.List.{list_any}
use Rattle.std.specs.Option.{option_map_or}
use Rattle.std.specs.Str.{bytes_eq}
use Rattle.std.proofs.lemmas.Bool.{and_parts, or_left, or_right}
use Rattle.hx_object.specs.Kinds.{number_of, is_namespace}
use Rattle.hx_object.specs.declared.kind.Kind.{Kind}
use Rattle.hx_object.specs.declared.kind.Kind.TheVariants.{Namespace}
use Rattle.hx_object.specs.declared.object.Object.{Object}
use Rattle.hx_model.specs.Cases.{is_leaving}
use Rattle.hx_model.specs.Forest.{Forest, node_of, is_live, is_excluded, halt_of, chain_of}
use Rattle.hx_model.specs.Keys.{is_among}
use Rattle.hx_model.specs.Moves.{is_eligible}
use Rattle.hx_model.specs.State.{State, Objects}
use Rattle.hx_model.specs.Tree.{forest_of, namespaces_in, node_in}
use Rattle.hx_model.specs.TreeLabels.{is_open}
use Rattle.hx_model.specs.Wanted.{wanted_write, guards_of}
use Rattle.hx_model.specs.declared.key.Key.{Key}
use Rattle.hx_model.specs.declared.key.Key.TheVariants as key
use Rattle.hx_model.specs.declared.key.Write.{Write}
use Rattle.hx_model.specs.declared.node.Node.{Node}
use Rattle.hx_model.proofs.Climbing.{is_same}
use Rattle.hx_marks.proofs.Among.{among_append, among_here}
use Rattle.hx_marks.proofs.Reporting.{own_report}
use Rattle.hx_marks.proofs.Wanting.{all_known}
use Rattle.hx_marks.specs.Law.{all_of, known_of, leaving_keys, status_keys}
use Rattle.hx_marks.specs.Reports.{report_keys}
use Rattle.hx_marks.specs.Usage.{usage_keys}
use Rattle.hx_reconcile.specs.Briefs.{StandsFor, facts_of, planned, planned_by}
use Rattle.hx_reconcile.specs.declared.brief.Brief.{Brief}
use Rattle.hx_briefs.specs.Briefing.{AreParts}
use Rattle.hx_briefs.specs.Wants.{namespaces}

-- ---- what is copied out

pub stands_for : (s : State) (k : Key) (brief : Brief) → AreParts s k brief → StandsFor brief s
stands_for s k brief parts = record { seen = parts.1; guards = parts.2 ∙ ap (guards_of s) (sym parts.0); facts = parts.3 ∙ ap (facts_of s) (sym parts.0) }

-- ---- what is wanted

pub wanted_here : (s : State) (k : Key) → planned k (facts_of s k) ≡ wanted_write s k
wanted_here s (key.Copy n kind name) = refl
wanted_here s (key.Tree n) = refl
wanted_here s (key.Report n) = refl
wanted_here s (key.Child n name) = refl
wanted_here s (key.Anchor n name) = refl
wanted_here s (key.Used n name) = refl
wanted_here s (key.Purge n) = refl

-- what is planned for a brief of a key
pub wanted_by : (s : State) (k : Key) (bare given : Brief) (write : Option Write) → write ≡ planned_by given → given ≡ bare → bare.key ≡ k → bare.facts ≡ facts_of s k → write ≡ wanted_write s k
wanted_by s k bare given write planned_so same key found = planned_so ∙ ap planned_by same ∙ (λ i. planned (key i) (found i)) ∙ wanted_here s k

-- ---- namespaces that are listed

kind_listed : (kind : Kind) → ((number_of Namespace == number_of kind) && true) ≡ is_namespace kind
kind_listed Namespace = refl
kind_listed _ = refl

namespaces_are : (objects : Objects) → namespaces objects ≡ namespaces_in objects
namespaces_are objects = ap (λ (p : Object → Bool). filter p objects) (λ i x. kind_listed x.id.kind i)

-- a name passes, and so does the first namespace, or another one
step : (t : List ℕ → Bool) (m n : List ℕ) (node : Node) (rest : Option Node) (others b : Bool) → bytes_eq m n ≡ b → is_some (cond b (Some node) rest) ≡ true → t m ≡ true → (is_some rest ≡ true → others ≡ true) → (t n || others) ≡ true
step t m n node rest others true is there passes later = or_left (t n) others (subst (λ (a : List ℕ). t a ≡ true) (is_same m n is) passes)
step t m n node rest others false is there passes later = or_right (t n) others (later there)

listed_passes : (g : Object → Node) (t : List ℕ → Bool) (m : List ℕ) (xs : List Object) → is_some (node_of (map (λ (x : Object). (x.id.name, g x)) xs) m) ≡ true → t m ≡ true → list_any (λ (x : Object). t x.id.name) xs ≡ true
listed_passes g t m [] there passes = absurd (true≢false (sym there))
listed_passes g t m (x ∷ xs) there passes =
    step t m x.id.name (g x) (node_of (map (λ (y : Object). (y.id.name, g y)) xs) m) (list_any (λ (y : Object). t y.id.name) xs) (bytes_eq m x.id.name) refl there passes (λ later. listed_passes g t m xs later passes)

live_there : (o : Option Node) → option_map_or (λ (node : Node). not node.terminating) o false ≡ true → is_some o ≡ true
live_there None h = h
live_there (Some node) h = refl

open_there : (f : Forest) (m : List ℕ) → is_open f m ≡ true → is_some (node_of f m) ≡ true
open_there f m acts = live_there (node_of f m) (and_parts (is_live f m) (not (is_excluded f m) && is_none (halt_of f m)) acts).0

leaving_there : (o : Option Node) → option_map_or (λ (node : Node). node.terminating) o false ≡ true → is_some o ≡ true
leaving_there None h = h
leaving_there (Some node) h = refl

-- ---- keys that are known

module _ (s : State) where
  -- a key is known of some namespace
  abbrev IsListed : Key → Type 0
  IsListed k = list_any (λ (x : Object). is_among k (known_of s.objects (forest_of s) x.id.name)) (namespaces s.objects) ≡ true

  -- the keys of a namespace, where it takes part
  abbrev open_keys : List ℕ → List Key
  open_keys m = if is_open (forest_of s) m then all_of s.objects (chain_of (forest_of s) m) m else []

  module _ (k : Key) (m : List ℕ) where
    listed : is_some (node_of (forest_of s) m) ≡ true → is_among k (known_of s.objects (forest_of s) m) ≡ true → IsListed k
    listed there known =
        ap (λ (xs : List Object). list_any (λ (x : Object). is_among k (known_of s.objects (forest_of s) x.id.name)) xs) (namespaces_are s.objects)
        ∙ listed_passes (node_in s.config.excluded s.objects) (λ n. is_among k (known_of s.objects (forest_of s) n)) m (namespaces_in s.objects) there known

    -- those that may be wanted though the namespace takes no part
    abbrev others : List Key
    others = report_keys (forest_of s) m ++ (status_keys s.objects m ++ (usage_keys s.objects m ++ leaving_keys (forest_of s) m))

    beside : is_among k others ≡ true → is_among k (known_of s.objects (forest_of s) m) ≡ true
    beside mem = among_append k (open_keys m) others ∙ or_right (is_among k (open_keys m)) (is_among k others) mem

    -- a status, a usage or a removal
    behind : is_among k (status_keys s.objects m ++ (usage_keys s.objects m ++ leaving_keys (forest_of s) m)) ≡ true → is_among k (known_of s.objects (forest_of s) m) ≡ true
    behind mem = beside (among_append k (report_keys (forest_of s) m) _ ∙ or_right (is_among k (report_keys (forest_of s) m)) _ mem)

    -- a usage or a removal
    last : is_among k (usage_keys s.objects m ++ leaving_keys (forest_of s) m) ≡ true → is_among k (known_of s.objects (forest_of s) m) ≡ true
    last mem = behind (among_append k (status_keys s.objects m) _ ∙ or_right (is_among k (status_keys s.objects m)) _ mem)

    open_listed : is_open (forest_of s) m ≡ true → is_among k (all_of s.objects (chain_of (forest_of s) m) m) ≡ true → IsListed k
    open_listed acts mem =
        listed (open_there (forest_of s) m acts)
        (among_append k (open_keys m) others
        ∙ or_left (is_among k (open_keys m)) (is_among k others) (ap (λ b. is_among k (if b then all_of s.objects (chain_of (forest_of s) m) m else [])) acts ∙ mem))

    status_listed : is_live (forest_of s) m ≡ true → is_among k (status_keys s.objects m) ≡ true → IsListed k
    status_listed live mem =
        listed (live_there (node_of (forest_of s) m) live)
        (behind (among_append k (status_keys s.objects m) (usage_keys s.objects m ++ leaving_keys (forest_of s) m) ∙ or_left (is_among k (status_keys s.objects m)) _ mem))

    usage_listed : is_live (forest_of s) m ≡ true → is_among k (usage_keys s.objects m) ≡ true → IsListed k
    usage_listed live mem =
        listed (live_there (node_of (forest_of s) m) live)
        (last (among_append k (usage_keys s.objects m) (leaving_keys (forest_of s) m) ∙ or_left (is_among k (usage_keys s.objects m)) _ mem))

  report_listed : (m : List ℕ) → is_eligible (forest_of s) m ≡ true → IsListed (key.Report m)
  report_listed m eligible =
      let k = key.Report m in
      listed k m (live_there (node_of (forest_of s) m) (and_parts (is_live (forest_of s) m) (not (is_excluded (forest_of s) m)) eligible).0)
      (beside k m (among_append k (report_keys (forest_of s) m) (status_keys s.objects m ++ (usage_keys s.objects m ++ leaving_keys (forest_of s) m)) ∙ or_left (is_among k (report_keys (forest_of s) m)) _ (own_report (forest_of s) m eligible)))

  removal_listed : (m : List ℕ) → is_leaving (forest_of s) m ≡ true → IsListed (key.Purge m)
  removal_listed m leaves =
      let k = key.Purge m in
      listed k m (leaving_there (node_of (forest_of s) m) leaves)
      (last k m
      (among_append k (usage_keys s.objects m) (leaving_keys (forest_of s) m)
      ∙ or_right (is_among k (usage_keys s.objects m)) (is_among k (leaving_keys (forest_of s) m)) (ap (λ b. is_among k (if b then k ∷ [] else [])) leaves ∙ among_here k [])))

  pub known_listed : (k : Key) → wanted_write s k ≢ None → IsListed k
  known_listed (key.Copy n kind name) wants = let known = all_known s (key.Copy n kind name) wants in open_listed (key.Copy n kind name) known.0 known.1 known.2
  known_listed (key.Tree n) wants = let known = all_known s (key.Tree n) wants in open_listed (key.Tree n) known.0 known.1 known.2
  known_listed (key.Report n) wants = report_listed n (all_known s (key.Report n) wants)
  known_listed (key.Child n name) wants = let known = all_known s (key.Child n name) wants in open_listed (key.Child n name) known.0 known.1 known.2
  known_listed (key.Anchor n name) wants = let known = all_known s (key.Anchor n name) wants in status_listed (key.Anchor n name) n known.0 known.1
  known_listed (key.Used n name) wants = let known = all_known s (key.Used n name) wants in usage_listed (key.Used n name) n known.0 known.1
  known_listed (key.Purge n) wants = removal_listed n (all_known s (key.Purge n) wants)
