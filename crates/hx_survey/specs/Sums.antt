-- What all subtrees are charged for a resource, found together.
--     is_among k places      a place is among some
--     reaches ups q a        a walk up from a place comes to another
--     flow ups sums places a what some places have together that reach a
--     is_led up places       a parent is among some places, if there is one
--     IsBottomUp ups places  no place stands twice, and the parent of each stands behind it
--     IsOrder                so it is with all places
--     is_set_above           a parent is marked, if there is one
--     IsPlacing              places that stand in order from the top, and what is marked is that they do
--     passed_on ups p sums   where the sum of p is added to that of its parent
--     AreWays                where rings are cut open, what they share, and an order of what is left
--     sum_of f seams sums n  the sum of a name: 0 where it isn't there
--     AreSums, IsTotal, AreTotals    each sum is what the subtree is charged;  the same of what is noted
--     IsSurvey               objects that ascend, the tree of their namespaces, and what was noted of its subtrees
use Rattle.std.specs.Prelude.{◌≡◌, ℕ, ◌+◌, ◌<◌, ◌≤◌, ◌==◌, Bool, true, false, ◌||◌, cond, List, [], ◌∷◌, length, reverse, sum_by, Option, Some, None, slice_index_or, slice_set}
use Rattle.std.specs.List.{AllByRecursion}
use Rattle.std.specs.Option.{option_map_or}
use Rattle.hx_model.specs.Forest.{Forest}
use Rattle.hx_model.specs.Quotas.{charge_below}
use Rattle.hx_model.specs.State.{Objects, ascends}
use Rattle.hx_model.specs.Tree.{forest_in}
use Rattle.hx_model.specs.declared.resource.Resource.{Resource}
use Rattle.hx_survey.specs.Inside.{place_of, up_at, walk_at}
use Rattle.hx_survey.specs.Seams.{AreCuts, AreSeams, shared_at}
use Rattle.hx_survey.specs.declared.totals.Total.{Total}
use Rattle.hx_survey.specs.declared.totals.Totals.{Totals}
use Rattle.hx_survey.specs.declared.totals.Ways.{Ways}

-- a place is among some
abbrev pub is_among : ℕ → List ℕ → Bool
is_among k [] = false
is_among k (q ∷ places) = (q == k) || is_among k places

-- a walk up from a place comes to another
abbrev pub reaches : List (Option ℕ) → ℕ → ℕ → Bool
reaches ups q a = walk_at (λ place. place == a) (length ups) ups (Some q)

-- what some places have together that reach a
abbrev pub flow : List (Option ℕ) → List ℕ → List ℕ → ℕ → ℕ
flow ups sums [] a = 0
flow ups sums (q ∷ places) a = cond (reaches ups q a) (slice_index_or sums q 0) 0 + flow ups sums places a

-- ---- orders

-- a parent is among some places, if there is one
abbrev pub is_led : Option ℕ → List ℕ → Bool
is_led None places = true
is_led (Some up) places = is_among up places

-- no place stands twice, and the parent of each stands behind it
abbrev pub IsBottomUp : List (Option ℕ) → List ℕ → Type 0
IsBottomUp ups [] = Unit {0}
IsBottomUp ups (p ∷ places) = (is_among p places ≡ false) × (is_led (up_at ups p) places ≡ true) × IsBottomUp ups places

-- so it is with all places
pub record IsOrder (ups : List (Option ℕ)) (places : List ℕ) : Type 0 where
  pub order : IsBottomUp ups places
  pub all : (k : ℕ) → k < length ups → is_among k places ≡ true
  pub within : (k : ℕ) → is_among k places ≡ true → k < length ups
  pub few : length places ≤ length ups

-- a parent is marked, if there is one
abbrev pub is_set_above : List Bool → Option ℕ → Bool
is_set_above placed None = true
is_set_above placed (Some up) = slice_index_or placed up false

-- places that stand in order from the top, and what is marked is that they do
pub record IsPlacing (ups : List (Option ℕ)) (places : List ℕ) (placed : List Bool) : Type 0 where
  pub order : IsBottomUp ups (reverse places)
  pub marks : (k : ℕ) → slice_index_or placed k false ≡ is_among k (reverse places)
  pub as_many : length placed ≡ length ups

-- where rings are cut open, what they share, and an order of what is left
pub record AreWays (ups : List (Option ℕ)) (ways : Ways) : Type 0 where
  pub seams : AreSeams ups ways.seams.now
  pub cuts : AreCuts ups ways.seams.now ways.cuts.now
  pub order : IsOrder ways.cuts.now ways.order.now

-- ---- sums

-- where the sum of a place is added to that of its parent
abbrev pub passed_on : List (Option ℕ) → ℕ → List ℕ → List ℕ
passed_on ups p sums = option_map_or (λ up. slice_set sums up (slice_index_or sums up 0 + slice_index_or sums p 0)) (up_at ups p) sums

-- the sum of a name
abbrev pub sum_of : Forest → List (Option ℕ) → List ℕ → List ℕ → ℕ
sum_of f seams sums n = option_map_or (λ k. slice_index_or sums (shared_at seams k) 0) (place_of f n) 0

-- each sum is what the subtree is charged
abbrev pub AreSums : Objects → Forest → Resource → List (Option ℕ) → List ℕ → Type 0
AreSums objects f r seams sums = (n : List ℕ) → sum_of f seams sums n ≡ sum_by (charge_below f n r) objects

-- the same of what is noted
abbrev pub IsTotal : Objects → Forest → List (Option ℕ) → Total → Type 0
IsTotal objects f seams total = AreSums objects f total.resource seams total.sums.items

abbrev pub AreTotals : Objects → Forest → List (Option ℕ) → List Total → Type 0
AreTotals objects f seams totals = AllByRecursion (IsTotal objects f seams) totals

-- ---- what is kept

-- a survey keeps objects that ascend, the tree of their namespaces, and what was noted of its subtrees
pub record IsSurvey (objects : Objects) (excluded : List (List ℕ)) (tree : Forest) (totals : Totals) : Type 0 where
  pub order : ascends objects ≡ true
  pub tree_is : tree ≡ forest_in excluded objects
  pub totals_are : AreTotals objects tree totals.seams.items totals.each.items
