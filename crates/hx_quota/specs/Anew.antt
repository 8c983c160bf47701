-- Sums over subtrees that are formed anew, namespace by namespace.
--     name_at, name_from, named      the name at an index of entries, at one that may be none, and at one that is there
--     chain_at              the chain of the name at an index
--     chain_behind          that of its parent
--     walk_from, walk_behind      whether a walk up from an index passes a name, and one from its parent
--     changed_at            places with a change at an index:
--     with_sums, with_parent_at, with_shifted_at      other sums, another parent, own sums after deltas
--     HasAdjusted           the sums at an index are adjusted
use Rattle.std.specs.Prelude.{◌≡◌, ℕ, zero, suc, ◌<◌, Bool, List, [], ◌∷◌, Option, Some, option_and_then, option_map, unwrap_or, slice_get, slice_index}
use Rattle.hx_model.specs.Forest.{parent_of}
use Rattle.hx_model.specs.Moves.{chain_from}
use Rattle.hx_model.specs.Walks.{walk_has}
use Rattle.hx_quota.specs.declared.entry.Delta.{Delta}
use Rattle.hx_quota.specs.Counters.{Entry, tree_of, shifted}
use Rattle.hx_quota.specs.Inside.{Place, Places, adjusted, entries_from, entries_in, ordered}

-- the name at an index
abbrev pub name_at : List (List ℕ × Entry) → ℕ → Option (List ℕ)
name_at es at = option_map (λ e. e.0) (slice_get es at)

-- the name at an index that may be none
abbrev pub name_from : List (List ℕ × Entry) → Option ℕ → Option (List ℕ)
name_from es at = option_and_then (name_at es) at

-- the name at an index that is there
abbrev pub named : List (List ℕ × Entry) → ℕ → List ℕ
named es at = unwrap_or (name_at es at) []

-- the chain of the namespace at an index, where there is one
abbrev pub chain_at : List (List ℕ × Entry) → Option ℕ → List (List ℕ)
chain_at es at = chain_from (tree_of (entries_from es)) (option_and_then (name_at es) at)

-- that of its parent
abbrev pub chain_behind : List (List ℕ × Entry) → ℕ → List (List ℕ)
chain_behind es at = chain_from (tree_of (entries_from es)) (option_and_then (parent_of (tree_of (entries_from es))) (name_at es at))

-- whether a walk up from an index, where there is one, passes a name in so many steps
abbrev pub walk_from : ℕ → Places → Option ℕ → List ℕ → Bool
walk_from left places at a = walk_has left (tree_of (ordered places)) (option_and_then (name_at (entries_in places)) at) a

-- and one from its parent
abbrev pub walk_behind : ℕ → Places → ℕ → List ℕ → Bool
walk_behind left places at a = walk_has left (tree_of (ordered places)) (option_and_then (parent_of (tree_of (ordered places))) (name_at (entries_in places) at)) a

-- with the place at an index changed
abbrev pub changed_at : ℕ → (Place → Place) → Places → Places
changed_at at change [] = []
changed_at zero change (e ∷ places) = (e.0, change e.1) ∷ places
changed_at (suc at) change (e ∷ places) = e ∷ changed_at at change places

-- with other sums at an index
abbrev pub with_sums : ℕ → List ℕ → Places → Places
with_sums at sums places = changed_at at (λ (p : Place). record p { sums = sums }) places

-- with another parent of the namespace at an index, or none
abbrev pub with_parent_at : ℕ → Option (List ℕ) → Places → Places
with_parent_at at parent places = changed_at at (λ (p : Place). record p { entry = record (p.entry) { parent = parent } }) places

-- with own sums shifted at an index
abbrev pub with_shifted_at : ℕ → List Delta → Places → Places
with_shifted_at at deltas places = changed_at at (λ (p : Place). record p { entry = record (p.entry) { own = shifted deltas p.entry.own } }) places

-- the sums at an index are adjusted
pub record HasAdjusted (take give : List ℕ) (at : ℕ) (old new : Places) : Type 0 where
  pub before : List ℕ
  pub after : List ℕ
  pub found : Some before ≡ option_map (λ (e : List ℕ × Place). e.1.sums) (slice_get old at)
  pub put : new ≡ with_sums at after old
  pub sums : (k : ℕ) → k < 15 → slice_index after k ≡ adjusted take give before k
