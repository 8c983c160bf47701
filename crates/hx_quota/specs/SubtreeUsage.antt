-- What subtrees use, as it is counted.
--     UsageView              what is counted now, and once the staged changes are made
--     Tells, IsCounted       what is counted counts these objects and that tree, unless it is lost
--     HasTotals              totals are those of entries
--     IsReady                staged changes may be made: there is room for them
--     is_charged_kind        objects of a kind may be charged
--     are_uncharged          writes of other kinds
--     is_staying             a change of the tree that leaves all parents of a forest
--     is_told_tree           changes of the tree that are told
--     is_one_alone           one write that leaves the tree as it is
--     are_told               writes that are told, with the changes of the tree by them
--     AreOnce                each that names a namespace that comes or goes is there once
--     deltas_among           what is charged before and then, of some resources
--     MayShift               what a shift needs beside that it fits
--     IsHoused               nothing is charged where there is no namespace
--     MayStage               what writes need, and the changes of the tree by them
use Rattle.std.specs.Prelude.{◌≡◌, ◌≤◌, ℕ, Bool, true, false, not, ◌&&◌, ◌||◌, List, [], ◌∷◌, length, map, filter, slice_index, Option, IfSome, is_some, refl}
use Rattle.std.specs.Coded.{Coded, code_by, coded×, coded_list, coded_ℕ, coded_option}
use Rattle.std.specs.List.{list_all, IsDistinct}
use Rattle.std.specs.Str.{bytes_eq}
use Rattle.hx_object.specs.declared.kind.Kind.{Kind}
use Rattle.hx_object.specs.declared.object.Object.{Object}
use Rattle.hx_forest.specs.Kept.{changed_by_all, MayChangeAll as MayChangeTree}
use Rattle.hx_forest.specs.declared.change.Change.{Change as TreeChange}
use Rattle.hx_forest.specs.declared.change.Change.TheVariants as tree
use Rattle.hx_model.specs.Cases.{same_name}
use Rattle.hx_model.specs.Charges.{resources_for}
use Rattle.hx_model.specs.Forest.{Forest, is_there, parent_of, children_of}
use Rattle.hx_model.specs.State.{Objects, ascends, after_writes}
use Rattle.hx_model.specs.declared.key.Write.{Write}
use Rattle.hx_model.specs.declared.resource.Resource.{Resource}
use Rattle.hx_store.specs.Changes.{id_of}
use Rattle.hx_quota.specs.declared.change.CounterChange.{CounterChange}
use Rattle.hx_quota.specs.declared.entry.Delta.{Delta}
use Rattle.hx_quota.specs.Counters.{Entries, CountersView, entry_code, entry_of, place_of, total_of, sums_of, AreApart, HaveOld}
use Rattle.hx_quota.specs.Counting.{Counts, AreRegular, MayChangeAll, own_charge, is_recharged, delta_by}

-- the entries that count, none where that is lost: now, and once the staged changes are made
pub record UsageView : Type 0 where
  pub now : Option Entries
  pub next : Option Entries

-- both, as a pair
abbrev pub usage_code : Coded UsageView
usage_code = code_by (Option Entries × Option Entries) (coded× (coded_option (coded_list (coded× (coded_list coded_ℕ) entry_code))) (coded_option (coded_list (coded× (coded_list coded_ℕ) entry_code))))
    (λ u. (u.now, u.next)) (λ p. record { now = p.0; next = p.1 }) (λ _. refl)

-- entries count these objects and that tree
pub record Tells (objects : Objects) (f : Forest) (es : Entries) : Type 0 where
  pub regular : AreRegular es
  pub counts : Counts objects f es

-- those that count do
abbrev pub IsCounted : Objects → Forest → Option Entries → Type 0
IsCounted objects f counted = IfSome counted (Tells objects f)

-- ---- what is kept

-- what all namespaces have together of each resource
abbrev pub HasTotals : List ℕ → Entries → Type 0
HasTotals totals es = (r : Resource) → slice_index totals (place_of r) ≡ total_of es r

-- totals are those of the entries, and the staged changes may be made: there is room for as many namespaces more
pub record IsReady (counters : CountersView) (totals : List ℕ) (staged : List CounterChange) : Type 0 where
  pub regular : AreRegular counters.entries
  pub whole : HasTotals totals counters.entries
  pub may : MayChangeAll staged counters.entries
  pub room : length staged ≤ counters.spare

-- ---- writes

-- a list has something
abbrev pub is_any : List Resource → Bool
is_any [] = false
is_any (r ∷ rs) = true

-- objects of the kind may be charged
abbrev pub is_charged_kind : Kind → Bool
is_charged_kind kind = is_any (resources_for kind)

-- no object of the kinds is charged
abbrev pub are_uncharged : List Write → Bool
are_uncharged writes = list_all (λ w. not (is_charged_kind (id_of w).kind)) writes

-- which namespaces are there, and their parents, stay
abbrev pub is_staying : Forest → TreeChange → Bool
is_staying f (tree.SetTerminating name) = true
is_staying f (tree.SetParent name parent) = same_name (parent_of f name) parent
is_staying f _ = false

-- one change of the tree at most is told, and several that leave all parents
abbrev pub is_told_tree : Forest → List TreeChange → Bool
is_told_tree f (c ∷ []) = true
is_told_tree f changes = list_all (is_staying f) changes

-- one write that leaves the tree as it is
abbrev pub is_one_alone : List Write → List TreeChange → Bool
is_one_alone (w ∷ []) [] = true
is_one_alone writes changes = false

-- such a write is told, and so are writes that change no charge where the changes of the tree by them are
abbrev pub are_told : Forest → List Write → List TreeChange → Bool
are_told f writes changes = is_one_alone writes changes || (are_uncharged writes && is_told_tree f changes)

-- each that names a namespace that comes or goes is there once
abbrev pub AreOnce : Forest → TreeChange → Type 0
AreOnce f (tree.Add name node) = IsDistinct bytes_eq (children_of f name)
AreOnce f (tree.SetParent name parent) = Unit {0}
AreOnce f (tree.SetTerminating name) = Unit {0}
AreOnce f (tree.Remove name) = IsDistinct bytes_eq (children_of f name)

-- what is charged before and then, of each of some resources of which that changes
abbrev pub deltas_among : List Resource → Option Object → Option Object → List Delta
deltas_among resources old new = map (delta_by old new) (filter (is_recharged old new) resources)

-- the sums of a namespace may be shifted, if what all have together fits then
abbrev pub MayShift : Entries → List ℕ → List Delta → Type 0
MayShift es n deltas = (is_some (entry_of es n) ≡ true) × AreApart deltas × HaveOld deltas (sums_of es (n ∷ []))

-- nothing is charged where there is no namespace
abbrev pub IsHoused : Objects → Forest → Type 0
IsHoused objects f = (n : List ℕ) (r : Resource) → is_there f n ≡ false → own_charge objects n r ≡ 0

-- the objects are in order, the tree may be changed so, and nothing is charged then where there is no namespace
pub record MayStage (objects : Objects) (f : Forest) (writes : List Write) (changes : List TreeChange) : Type 0 where
  pub in_order : ascends objects ≡ true
  pub tree : MayChangeTree changes f
  pub housed : IsHoused (after_writes writes objects) (changed_by_all changes f)
