-- Steps up by indices.
--     up_name, up_chain, up_walks      the name at the index of a parent, and the chain and the walks from it, are those of the parent
--     walk_above                       whether it passes a name
--     target_here, target_other      whether an index is that of a name
use Rattle.std.specs.Prelude.{option_and_then, slice_get}
use Rattle.std.proofs.Common.{◌≡◌, ℕ, true, false, Option, Some, None, option_map, List, length, refl, ap, ◌∙◌}
use Rattle.std.specs.List.{IsDistinct}
use Rattle.std.specs.Map.{keys_of}
use Rattle.std.specs.Option.{option_map_or}
use Rattle.std.specs.Str.{bytes_eq}
use Rattle.std.proofs.lemmas.Bool.{false_from_ne_true}
use Rattle.hx_model.specs.Forest.{Forest, parent_of, in_chain}
use Rattle.hx_model.specs.Moves.{chain_from}
use Rattle.hx_model.specs.Walks.{walk_has}
use Rattle.hx_model.proofs.Climbing.{is_same, same_itself}
use Rattle.hx_model.proofs.Walking.{walk_has_chain}
use Rattle.hx_quota.specs.PlaceRows.{Place, IsFoundAt}
use Rattle.hx_quota.specs.Counters.{Entry, tree_of}
use Rattle.hx_quota.specs.Inside.{Places, entries_in, ordered}
use Rattle.hx_quota.specs.Anew.{name_at, name_from, chain_at, chain_behind, walk_from, walk_behind}
use Rattle.hx_quota.proofs.Formed.{parent_index}
use Rattle.hx_quota.proofs.Indexed.{entry_index, same_index}
use Rattle.hx_quota.proofs.Trees.{has_ended}

abbrev Row : Type 0
Row = List ℕ × Place

name_row : (places : Places) (i : ℕ) → name_at (entries_in places) i ≡ option_map (λ (e : Row). e.0) (slice_get places i)
name_row places i = ap (λ (o : Option (List ℕ × Entry)). option_map (λ e. e.0) o) (entry_index places i) ∙ either (slice_get places i)
  where
    either : (o : Option Row) → option_map (λ (e : List ℕ × Entry). e.0) (option_map (λ (x : Row). (x.0, x.1.entry)) o) ≡ option_map (λ (e : Row). e.0) o
    either None = refl
    either (Some e) = refl

-- ---- the parent

module _ (places : Places) (at : ℕ) (up : Option ℕ) (distinct : IsDistinct bytes_eq (keys_of places))
    (is : name_from (entries_in places) up ≡ option_and_then (λ (e : Row). e.1.entry.parent) (slice_get places at)) where
  pub up_name : name_from (entries_in places) up ≡ option_and_then (parent_of (tree_of (ordered places))) (name_at (entries_in places) at)
  up_name = is ∙ parent_index places at distinct

  pub up_chain : chain_at (entries_in places) up ≡ chain_behind (entries_in places) at
  up_chain = ap (chain_from (tree_of (ordered places))) up_name

  pub up_walks : (left : ℕ) (above : List ℕ) → walk_from left places up above ≡ walk_behind left places at above
  up_walks left above = ap (λ (o : Option (List ℕ)). walk_has left (tree_of (ordered places)) o above) up_name

-- whether a walk passes a name
pub walk_above : (f : Forest) (o : Option (List ℕ)) (above : List ℕ) → walk_has (length f) f o above ≡ option_map_or (λ p. in_chain f p above) o false
walk_above f None above = has_ended (length f) f None above refl
walk_above f (Some p) above = walk_has_chain f p above

-- ---- the index of a name

module _ (places : Places) (above : List ℕ) (target : ℕ) (lies : IsFoundAt places above (Some target)) (at : ℕ) where
  pub target_here : at ≡ target → option_map_or (λ n. bytes_eq n above) (name_at (entries_in places) at) false ≡ true
  target_here same =
      ap (λ (o : Option (List ℕ)). option_map_or (λ n. bytes_eq n above) o false) (name_row places at ∙ ap (λ (k : ℕ). option_map (λ (e : Row). e.0) (slice_get places k)) same ∙ ap (λ (o : Option Row). option_map (λ (e : Row). e.0) o) lies.1)
      ∙ same_itself above

  pub target_other : IsDistinct bytes_eq (keys_of places) → (at ≡ target → ⊥) → option_map_or (λ n. bytes_eq n above) (name_at (entries_in places) at) false ≡ false
  target_other distinct other = ap (λ (o : Option (List ℕ)). option_map_or (λ n. bytes_eq n above) o false) (name_row places at) ∙ by (slice_get places at) refl
    where
      by : (o : Option Row) → slice_get places at ≡ o → option_map_or (λ n. bytes_eq n above) (option_map (λ (e : Row). e.0) o) false ≡ false
      by None here = refl
      by (Some e) here = false_from_ne_true (bytes_eq e.0 above) (λ same. other (same_index places at target above e.1 lies.0 distinct (here ∙ ap (λ (k : List ℕ). Some (k, e.1)) (is_same e.0 above same)) lies.1))
