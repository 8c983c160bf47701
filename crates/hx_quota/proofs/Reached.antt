-- What lies at an index.
--     named_at, lies_at, there_at      the name and the place at an index that is there
--     no_sums_at                       it has sums
--     at_index                         its place, where its sums are read, and those above it
--     found_row, found_named, found_name      the index of a name has that name
--     from_there                       one at an index that may be none is there
use Rattle.std.specs.Prelude.{is_some, option_and_then, slice_get, unwrap_or, IfSome}
use Rattle.std.proofs.Common.{◌≡◌, ℕ, zero, suc, ◌<◌, true, Option, Some, None, option_map, List, [], ◌∷◌, length, refl, sym, ap, ◌∙◌, subst, arith, true≢false}
use Rattle.std.specs.List.{IsDistinct}
use Rattle.std.specs.Map.{keys_of}
use Rattle.std.specs.Str.{bytes_eq}
use Rattle.std.proofs.lemmas.Option.{none-some, same_Some}
use Rattle.hx_model.specs.Forest.{is_there, parent_of}
use Rattle.hx_model.specs.Moves.{chain_from}
use Rattle.hx_quota.specs.PlaceRows.{Place, IsFoundAt}
use Rattle.hx_quota.specs.Counters.{Entry, entry_of, tree_of}
use Rattle.hx_quota.specs.Inside.{Places, entries_in, ordered, place_at}
use Rattle.hx_quota.specs.Anew.{name_at, name_from, named, chain_behind}
use Rattle.hx_quota.proofs.Formed.{all_named, named_place}
use Rattle.hx_quota.proofs.Indexed.{entry_index}
use Rattle.hx_quota.proofs.Placed.{entry_in, entry_at, same_keys}
use Rattle.hx_quota.proofs.UsedSums.{in_tree}

pub named_at : (places : Places) (at : ℕ) → at < length places → name_at (entries_in places) at ≡ Some (named (entries_in places) at)
named_at [] at within = absurd (omega (arith, within))
named_at (e ∷ places) zero within = refl
named_at (e ∷ places) (suc at) within = named_at places at (omega (arith, within))

-- it has sums
pub no_sums_at : (places : Places) (at : ℕ) → None ≡ option_map (λ (e : List ℕ × Place). e.1.sums) (slice_get places at) → at < length places → ⊥
no_sums_at [] at none within = let no : ⊥ = omega (arith, within) in no
no_sums_at (e ∷ places) zero none within = none-some e.1.sums none
no_sums_at (e ∷ places) (suc at) none within = no_sums_at places at none (omega (arith, within))

module _ (places : Places) (distinct : IsDistinct bytes_eq (keys_of (entries_in places))) (at : ℕ) (within : at < length places) where
  pub lies_at : IsFoundAt places (named (entries_in places) at) (Some at)
  lies_at = named_place places at (named (entries_in places) at) (subst (λ (ks : List (List ℕ)). IsDistinct bytes_eq ks) (same_keys places) distinct) (named_at places at within)

  -- where its sums are read
  pub at_index : (sums : List ℕ) → Some sums ≡ option_map (λ (e : List ℕ × Place). e.1.sums) (slice_get places at)
      → (p : Place) × (place_at places (named (entries_in places) at) ≡ Some p) × (p.sums ≡ sums) × (chain_behind (entries_in places) at ≡ chain_from (tree_of (ordered places)) (parent_of (tree_of (ordered places)) (named (entries_in places) at)))
  at_index sums found =
      let f = tree_of (ordered places) in
      let lies = lies_at in (
        lies.0,
        lies.2,
        same_Some lies.0.sums sums (sym (ap (λ (o : Option (List ℕ × Place)). option_map (λ e. e.1.sums) o) lies.1) ∙ sym found),
        ap (λ (o : Option (List ℕ)). chain_from f (option_and_then (parent_of f) o)) (named_at places at within),
      )

-- one at an index that may be none is there
pub from_there : (places : Places) (at : Option ℕ) → IfSome (name_from (entries_in places) at) (λ n. is_some (entry_of (ordered places) n) ≡ true)
from_there places None = tt
from_there places (Some at) = by (name_at (entries_in places) at) (all_named places at)
  where
    by : (o : Option (List ℕ)) → IfSome o (λ m. is_there (tree_of (ordered places)) m ≡ true) → IfSome o (λ n. is_some (entry_of (ordered places) n) ≡ true)
    by None there = tt
    by (Some m) there = sym (in_tree (ordered places) m) ∙ there

pub there_at : (places : Places) (at : ℕ) → at < length places → is_some (entry_of (ordered places) (named (entries_in places) at)) ≡ true
there_at places at within = subst (λ (o : Option (List ℕ)). IfSome o (λ n. is_some (entry_of (ordered places) n) ≡ true)) (named_at places at within) (from_there places (Some at))

-- ---- the index of a name

pub found_row : (places : Places) (n : List ℕ) (at : ℕ) → IsFoundAt places n (Some at) → name_at (entries_in places) at ≡ Some n
found_row places n at lies = ap (λ (o : Option (List ℕ × Entry)). option_map (λ e. e.0) o) (entry_index places at ∙ ap (λ (o : Option (List ℕ × Place)). option_map (λ x. (x.0, x.1.entry)) o) lies.1)

pub found_named : (places : Places) (n : List ℕ) (at : ℕ) → IsFoundAt places n (Some at) → named (entries_in places) at ≡ n
found_named places n at lies = ap (λ (o : Option (List ℕ)). unwrap_or o []) (found_row places n at lies)

pub found_name : (places : Places) (n : List ℕ) (o : Option ℕ) → is_some (entry_of (ordered places) n) ≡ true → IsFoundAt places n o → name_from (entries_in places) o ≡ Some n
found_name places n None there away = absurd (true≢false (sym there ∙ ap is_some (entry_at places n ∙ ap entry_in away)))
found_name places n (Some at) there lies = found_row places n at lies
