-- The places of namespaces, in the order in which they lie.
--     Place, NodeTableView           a node with a step; all of them by their names, and how many more fit without taking memory
--     place_with, step_of         a place, and the step of it
--     standing_of                 how a node stands
--     is_restless, restless_in    a node names a parent and isn't eligible, by how it stands;  how many of the rungs stand so
--     places_from, AreStanding    the places of nodes and of rungs in the same order, where each rung says how its node stands
--     index_in, entry_in          where a name lies, and what lies there
--     changed_at                  a place is another one
--     moved, IsCut                where something lies once one is gone and the last one has filled the gap;  so it is with places
use Rattle.std.specs.Prelude.{◌≡◌, ℕ, zero, suc, ◌+◌, ◌==◌, Bool, true, false, not, ◌&&◌, cond, List, [], ◌∷◌, Option, Some, None, option_map, option_and_then, is_some, slice_get, length, if◌then◌else◌, refl}
use Rattle.std.specs.Coded.{Coded, code_by, coded×, coded_list, coded_ℕ}
use Rattle.std.specs.Str.{bytes_eq}
use Rattle.hx_model.specs.contracts.node.Node as node
use Rattle.hx_model.specs.declared.node.Node.{Node}
use Rattle.hx_forest.specs.contracts.node_table.Step as step
use Rattle.hx_forest.specs.declared.node_table.Standing.{Standing}
use Rattle.hx_forest.specs.declared.node_table.Step.{Step}
use Rattle.hx_forest.specs.declared.node_table.ParentRef.{ParentRef}

-- a node with a number that no other place has had, the way to the place of its parent, and the epoch of its note
pub record Place : Type 0 where
  pub node : Node
  pub number : ℕ
  pub up : ParentRef
  pub noted : ℕ

-- the places by their names, and how many more fit without taking memory
pub record NodeTableView : Type 0 where
  pub entries : List (List ℕ × Place)
  pub spare : ℕ

-- a place of a step and a node
abbrev pub place_with : Step → Node → Place
place_with s n = record { node = n; number = s.number; up = s.up; noted = s.noted }

-- the step of it
abbrev pub step_of : Place → Step
step_of p = record { number = p.number; up = p.up; noted = p.noted }

-- both, as a pair
abbrev pub place_code : Coded Place
place_code = code_by (Step × Node) (coded× step.the_row.coded node.the_row.coded)
    (λ p. (step_of p, p.node)) (λ q. place_with q.0 q.1) (λ _. refl)

abbrev pub places_code : Coded NodeTableView
places_code = code_by (List (List ℕ × Place) × ℕ) (coded× (coded_list (coded× (coded_list coded_ℕ) place_code)) coded_ℕ)
    (λ v. (v.entries, v.spare)) (λ p. record { entries = p.0; spare = p.1 }) (λ _. refl)

-- how a node stands
abbrev pub standing_of : Node → Standing
standing_of n = record { root = not (is_some n.parent); eligible = not n.terminating && not n.excluded }

-- it names a parent, and isn't eligible
abbrev pub is_restless : Standing → Bool
is_restless s = not s.root && not s.eligible

abbrev pub one_if : Bool → ℕ
one_if true = 1
one_if false = 0

-- how many stand so
abbrev pub restless_in : List (Step × Standing) → ℕ
restless_in [] = 0
restless_in (r ∷ rs) = one_if (is_restless r.1) + restless_in rs

-- the places of nodes by their names, and of rungs in the same order
abbrev pub places_from : List (List ℕ × Node) → List (Step × Standing) → List (List ℕ × Place)
places_from [] rs = []
places_from (e ∷ es) [] = []
places_from (e ∷ es) (r ∷ rs) = (e.0, place_with r.0 e.1) ∷ places_from es rs

-- there are as many, and each rung says how its node stands
abbrev pub AreStanding : List (List ℕ × Node) → List (Step × Standing) → Type 0
AreStanding [] [] = Unit {0}
AreStanding [] (r ∷ rs) = ⊥
AreStanding (e ∷ es) [] = ⊥
AreStanding (e ∷ es) (r ∷ rs) = (r.1 ≡ standing_of e.1) × AreStanding es rs

-- where a name lies
abbrev pub index_in : List (List ℕ × Place) → List ℕ → Option ℕ
index_in [] n = None
index_in (e ∷ es) n = cond (bytes_eq n e.0) (Some 0) (option_map (λ i. suc i) (index_in es n))

-- what lies at an index
abbrev pub entry_in : List (List ℕ × Place) → Option ℕ → Option (List ℕ × Place)
entry_in es at = option_and_then (slice_get es) at

-- the place at an index is another one
abbrev pub changed_at : (Place → Place) → ℕ → List (List ℕ × Place) → List (List ℕ × Place)
changed_at change at [] = []
changed_at change zero (e ∷ es) = (e.0, change e.1) ∷ es
changed_at change (suc at) (e ∷ es) = e ∷ changed_at change at es

-- with another way up
abbrev pub with_up : ParentRef → Place → Place
with_up up p = record p { up = up }

-- with another epoch
abbrev pub with_noted : ℕ → Place → Place
with_noted epoch p = record p { noted = epoch }

-- on its way out
abbrev pub terminating : Place → Place
terminating p = record p { node = record (p.node) { terminating = true } }

-- with another parent
abbrev pub below : Option (List ℕ) → Place → Place
below parent p = record p { node = record (p.node) { parent = parent } }

-- where something lies once what lay at an index is gone, and the last one has filled the gap
abbrev pub moved : ℕ → ℕ → ℕ → ℕ
moved at last i = if i == last then at else i

-- the place of a name at an index is gone so
pub record IsCut (old new : List (List ℕ × Place)) (n : List ℕ) (at : ℕ) : Type 0 where
  pub fewer : length new + 1 ≡ length old
  pub places : (q : List ℕ) → index_in new q ≡ cond (bytes_eq n q) None (option_map (moved at (length new)) (index_in old q))
