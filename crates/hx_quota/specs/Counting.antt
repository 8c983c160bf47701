-- What counters of a tree and its objects say, and what a write changes of them.
--     parent_there f n       the parent of a namespace, where that is there
--     own_charge objects n r what the objects of a namespace are charged
--     Counts objects f es    the counters have each namespace of the tree, under its parent, with what its objects are charged
--     AreRegular es          names are in order, and each namespace has a sum of each resource
--     changed, changed_all   counters after a change, and after several, the first one first
--     MayChange, MayChangeAll   what the changes need
--     changes_of_tree f c    the changes by a change of the tree
--     deltas_of old new      what an object is charged that stands in the place of another, resource by resource
-- Counters know no parent that isn't there: a namespace that others named before it came takes them in.
use Rattle.std.specs.Prelude.{◌≡◌, ℕ, Bool, true, not, nat_eq, List, [], ◌∷◌, ◌++◌, length, map, filter, sum_by, Option, Some, None, option_and_then, is_some, IfSome, if◌then◌else◌}
use Rattle.std.specs.Str.{bytes_eq}
use Rattle.hx_object.specs.declared.object.Object.{Object}
use Rattle.hx_forest.specs.declared.change.Change.{Change as TreeChange}
use Rattle.hx_forest.specs.declared.change.Change.TheVariants as tree
use Rattle.hx_model.specs.Charges.{all_resources, charge_of}
use Rattle.hx_model.specs.First.{so}
use Rattle.hx_model.specs.Forest.{Forest, children_of, is_there, parent_of, subtree_of}
use Rattle.hx_model.specs.Quotas.{charge_before}
use Rattle.hx_model.specs.State.{Objects}
use Rattle.hx_model.specs.declared.resource.Resource.{Resource}
use Rattle.hx_quota.specs.Counters.{Entries, entry_of, tree_of, own_in, with_entry, new_entry, without_entry, with_parent, with_shifted, sums_of, AreApart, HaveOld, AllFit}
use Rattle.hx_quota.specs.declared.change.CounterChange.{CounterChange}
use Rattle.hx_quota.specs.declared.change.CounterChange.TheVariants.{Add, Move, Shift, Remove}
use Rattle.hx_quota.specs.Inside.{entries_from}
use Rattle.hx_quota.specs.declared.entry.Delta.{Delta}
use Rattle.hx_quota.specs.Counters.{Entry}

-- ---- what is counted

-- a name, where a namespace has it
abbrev pub if_there : Forest → List ℕ → Option (List ℕ)
if_there f p = so (is_there f p) p

-- the parent of a namespace, where that is there
abbrev pub parent_there : Forest → List ℕ → Option (List ℕ)
parent_there f n = option_and_then (if_there f) (parent_of f n)

-- what an object is charged, where it lies in n
abbrev pub charge_in : List ℕ → Resource → Object → ℕ
charge_in n r x = if bytes_eq x.id.ns n then charge_of x r else 0

-- what the objects of n are charged
abbrev pub own_charge : Objects → List ℕ → Resource → ℕ
own_charge objects n r = sum_by (charge_in n r) objects

-- the counters have each namespace of the tree, under its parent, with what its objects are charged
pub record Counts (objects : Objects) (f : Forest) (es : Entries) : Type 0 where
  pub there : (n : List ℕ) → is_some (entry_of es n) ≡ is_there f n
  pub parents : (n : List ℕ) → parent_of (tree_of es) n ≡ parent_there f n
  pub own : (n : List ℕ) (r : Resource) → own_in es n r ≡ own_charge objects n r

-- names are in order, and each namespace has a sum of each resource
pub record AreRegular (es : Entries) : Type 0 where
  pub ordered : entries_from es ≡ es
  pub long : (n : List ℕ) (e : Entry) → entry_of es n ≡ Some e → length e.own ≡ 15

-- ---- changes

abbrev pub changed : CounterChange → Entries → Entries
changed (Add name) es = with_entry name new_entry es
changed (Move moved parent) es = with_parent moved parent es
changed (Shift n deltas) es = with_shifted (n ∷ []) deltas es
changed (Remove name) es = without_entry name es

abbrev pub changed_all : List CounterChange → Entries → Entries
changed_all [] es = es
changed_all (c ∷ changes) es = changed_all changes (changed c es)

-- what the calls need that make them
abbrev pub MayChange : CounterChange → Entries → Type 0
MayChange (Add name) es = entry_of es name ≡ None
MayChange (Move moved parent) es = (is_some (entry_of es moved) ≡ true) × IfSome parent (λ p. is_some (entry_of es p) ≡ true)
MayChange (Shift n deltas) es = (is_some (entry_of es n) ≡ true) × AreApart deltas × HaveOld deltas (sums_of es (n ∷ [])) × AllFit (with_shifted (n ∷ []) deltas es)
MayChange (Remove name) es = (is_some (entry_of es name) ≡ true) × ((r : Resource) → own_in es name r ≡ 0) × (subtree_of (tree_of es) name ≡ name ∷ [])

abbrev pub MayChangeAll : List CounterChange → Entries → Type 0
MayChangeAll [] es = Unit {0}
MayChangeAll (c ∷ changes) es = MayChange c es × MayChangeAll changes (changed c es)

-- ---- by a change of the tree

-- it comes under its parent, where that is there then
abbrev pub under_parent : Forest → List ℕ → Option (List ℕ) → List CounterChange
under_parent f n None = []
under_parent f n (Some p) = if is_there f p then Move n (Some p) ∷ [] else (if bytes_eq n p then Move n (Some n) ∷ [] else [])

-- those that named it before come under it
abbrev pub taken_in : Forest → List ℕ → List CounterChange
taken_in f n = map (λ c. Move c (Some n)) (children_of f n)

-- those that name it have no parent that is there any more
abbrev pub let_go : Forest → List ℕ → List CounterChange
let_go f n = map (λ c. Move c None) (children_of f n)

-- a namespace gets a parent, where both are there
abbrev pub moved_under : Forest → List ℕ → Option (List ℕ) → List CounterChange
moved_under f n parent = if is_there f n then Move n (option_and_then (if_there f) parent) ∷ [] else []

abbrev pub changes_of_tree : Forest → TreeChange → List CounterChange
changes_of_tree f (tree.Add name node) = Add name ∷ (under_parent f name node.parent ++ taken_in f name)
changes_of_tree f (tree.SetParent name parent) = moved_under f name parent
changes_of_tree f (tree.SetTerminating name) = []
changes_of_tree f (tree.Remove name) = let_go f name ++ Remove name ∷ []

-- ---- by an object

-- what is charged of a resource changes
abbrev pub is_recharged : Option Object → Option Object → Resource → Bool
is_recharged old new r = not (nat_eq (charge_before old r) (charge_before new r))

abbrev pub delta_by : Option Object → Option Object → Resource → Delta
delta_by old new r = record { resource = r; old = charge_before old r; new = charge_before new r }

-- what is charged before and then, of each resource of which that changes
abbrev pub deltas_of : Option Object → Option Object → List Delta
deltas_of old new = map (delta_by old new) (filter (is_recharged old new) all_resources)
