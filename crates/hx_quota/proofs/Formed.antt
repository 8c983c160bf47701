-- Sums that are adjusted along a chain, step by step.
--     step_left                        a chain by indices is its first name and what is behind it
--     IsUnderway                       the sums along a chain are adjusted, but for those of names that are left
--     begun, more_of, ended            it is so at first, after a step, and at the end
--     shorter_left, may_step           less is left after a step;  the next sums may be adjusted
--     parent_index, all_named, named_place      what is found by an index
use Rattle.std.specs.Prelude.{is_some, option_and_then, slice_get, slice_index, take, IfSome}
use Rattle.std.proofs.Common.{◌≡◌, ℕ, zero, suc, ◌<◌, Bool, true, false, cond, not, ◌&&◌, Option, Some, None, option_map, List, [], ◌∷◌, length, refl, sym, ap, ◌∙◌, subst, arith}
use Rattle.std.specs.List.{IsDistinct}
use Rattle.std.specs.Map.{keys_of}
use Rattle.std.specs.Str.{bytes_eq}
use Rattle.std.proofs.lemmas.Bool.{or_left}
use Rattle.std.proofs.lemmas.Cmp.{nat_list_eq_equiv}
use Rattle.std.proofs.lemmas.Map.Entries.{lookup_from_place}
use Rattle.std.proofs.lemmas.Option.{none-some, same_Some}
use Rattle.hx_model.specs.Forest.{is_in, is_there, parent_of, chain_of, tail_of}
use Rattle.hx_model.specs.Moves.{chain_from}
use Rattle.hx_model.specs.declared.node.Node.{Node}
use Rattle.hx_model.proofs.Climbing.{same_itself}
use Rattle.hx_model.proofs.Opening.{chain_first}
use Rattle.hx_quota.specs.Counters.{Entry}
use Rattle.hx_quota.specs.PlaceRows.{Place, IsFoundAt}
use Rattle.hx_quota.specs.Counters.{node_for, tree_of}
use Rattle.hx_quota.specs.Inside.{Places, entries_from, entries_in, ordered, place_at, adjusted, MayAdjust, IsAdjusted, ends_up}
use Rattle.hx_quota.specs.Anew.{name_at, chain_at, chain_behind, with_sums}
use Rattle.hx_quota.proofs.Adjusting.{is_done, here_left, next_distinct, next_inside, may_now, adjusted_one}
use Rattle.hx_quota.proofs.Ending.{chain_on, distinct_from, in_places}
use Rattle.hx_quota.proofs.Indexed.{entry_index, found_index, entries_with, place_with}
use Rattle.hx_quota.proofs.Placed.{entry_in, entry_at}
use Rattle.hx_quota.proofs.Sums.{Pair}
use Rattle.hx_quota.proofs.Trees.{node_of-tree}

abbrev Rows : Type 0
Rows = List Pair

-- ---- the first name

-- the name at the index of a place
name_of : (es : Rows) (places : Places) → entries_in places ≡ es → (at : ℕ) (m : List ℕ) (p : Place) → slice_get places at ≡ Some (m, p) → name_at es at ≡ Some m
name_of es places same at m p is =
    ap (λ (xs : Rows). name_at xs at) (sym same) ∙ ap (λ (o : Option Pair). option_map (λ e. e.0) o) (entry_index places at ∙ ap (λ (o : Option (List ℕ × Place)). option_map (λ x. (x.0, x.1.entry)) o) is)

module _ (es : Rows) (places : Places) (same : entries_in places ≡ es) (distinct : IsDistinct bytes_eq (keys_of es))
    (at : ℕ) (m : List ℕ) (p : Place) (is : slice_get places at ≡ Some (m, p)) where
  pub here : place_at places m ≡ Some p
  here = found_index places at m p (subst (λ (xs : Rows). IsDistinct bytes_eq (keys_of xs)) (sym same) distinct) is

  here_there : is_there (tree_of (entries_from es)) m ≡ true
  here_there = ap (λ (xs : Rows). is_there (tree_of (entries_from xs)) m) (sym same) ∙ in_places places m ∙ ap is_some here

  -- its chain begins with it
  first_left : is_in m (chain_at es (Some at)) ≡ true
  first_left =
      let f = tree_of (entries_from es) in
      ap (λ (o : Option (List ℕ)). is_in m (chain_from f o)) (name_of es places same at m p is) ∙ ap (is_in m) (chain_first f m here_there) ∙ or_left (bytes_eq m m) (is_in m (tail_of (chain_of f m))) (same_itself m)

  step_left : ends_up (tree_of (entries_from es)) m ≡ true → chain_at es (Some at) ≡ m ∷ chain_behind es at
  step_left ends =
      let f = tree_of (entries_from es) in
      let name = name_of es places same at m p is in
      ap (λ (o : Option (List ℕ)). chain_from f o) name ∙ chain_on f m here_there ends
      ∙ ap (λ ns. m ∷ ns) (sym (ap (λ (o : Option (List ℕ)). chain_from f (option_and_then (parent_of f) o)) name))

-- ---- along a chain

-- the sums along a chain are adjusted, but for those of names that are left
pub record IsUnderway (take give : List ℕ) (was now : Places) (names left : List (List ℕ)) : Type 0 where
  pub distinct : IsDistinct bytes_eq left
  pub inside : (q : List ℕ) → is_in q left ≡ true → is_in q names ≡ true
  pub places : (q : List ℕ) → IsAdjusted take give (is_done names left q) (place_at was q) (place_at now q)
  pub same : entries_in now ≡ entries_in was

as_it_was : (take give : List ℕ) (b : Bool) (o : Option Place) → b ≡ false → IsAdjusted take give b o o
as_it_was take give b None out = refl
as_it_was take give b (Some p) out = (p, refl, refl, λ k within. sym (ap (λ c. cond c (adjusted take give p.sums k) (slice_index p.sums k)) out))

pub begun : (take give : List ℕ) (was : Places) (first : Option ℕ) → IsUnderway take give was was (chain_at (entries_in was) first) (chain_at (entries_in was) first)
begun take give was first = record {
  distinct = distinct_from (tree_of (ordered was)) (option_and_then (name_at (entries_in was)) first);
  inside = λ q h. h;
  places = λ q. as_it_was take give (is_done names names q) (place_at was q) (none (is_in q names));
  same = refl;
}
  where
    names : List (List ℕ)
    names = chain_at (entries_in was) first

    none : (b : Bool) → (b && not b) ≡ false
    none true = refl
    none false = refl

module _ (take give : List ℕ) (was now : Places) (names : List (List ℕ)) where
  pub ended : (left : List (List ℕ)) → IsUnderway take give was now names left → left ≡ [] → (q : List ℕ) → IsAdjusted take give (is_in q names) (place_at was q) (place_at now q)
  ended left far none q = subst (λ (b : Bool). IsAdjusted take give b (place_at was q) (place_at now q)) (ap (λ (xs : List (List ℕ)). is_done names xs q) none ∙ whole (is_in q names)) (far.places q)
    where
      whole : (b : Bool) → (b && true) ≡ b
      whole true = refl
      whole false = refl

-- the place whose sums are found at an index
by_sums : (o : Option (List ℕ × Place)) (sums : List ℕ) → Some sums ≡ option_map (λ (e : List ℕ × Place). e.1.sums) o → (m : List ℕ) × (p : Place) × (o ≡ Some (m, p)) × (p.sums ≡ sums)
by_sums None sums is = absurd (none-some sums (sym is))
by_sums (Some e) sums is = (e.0, e.1, refl, sym (same_Some sums e.1.sums is))

module _ (take give : List ℕ) (was now : Places) (names : List (List ℕ)) (ends : (q : List ℕ) → is_in q names ≡ true → ends_up (tree_of (ordered was)) q ≡ true) (distinct : IsDistinct bytes_eq (keys_of (entries_in was))) (at : ℕ) (o : Option ℕ) (here_is : o ≡ Some at)
    (before : List ℕ) (found : Some before ≡ option_map (λ (e : List ℕ × Place). e.1.sums) (slice_get now at)) where
  pub may_step : IsUnderway take give was now names (chain_at (entries_in was) o) → ((q : List ℕ) (x : Place) → is_in q names ≡ true → place_at was q ≡ Some x → MayAdjust take give x.sums) → MayAdjust take give before
  may_step under may =
      let es = entries_in was in
      let far : IsUnderway take give was now names (chain_at es (Some at)) = subst (λ (x : Option ℕ). IsUnderway take give was now names (chain_at es x)) here_is under in
      let place = by_sums (slice_get now at) before found in
      let m = place.0 in
      let p = place.1 in
      let is = place.2 in
      let first = step_left es now far.same distinct at m p is (ends m (far.inside m (first_left es now far.same distinct at m p is))) in
      subst (λ (s : List ℕ). MayAdjust take give s) place.3
      (may_now take give names (chain_at es (Some at)) (chain_behind es at) m first (place_at was m) p
      (subst (λ (w : Option Place). IsAdjusted take give (is_done names (chain_at es (Some at)) m) (place_at was m) w) (here es now far.same distinct at m p is) (far.places m))
      (λ x there. may m x (far.inside m (here_left take give names (chain_at es (Some at)) (chain_behind es at) m first)) there))

  module _ (under : IsUnderway take give was now names (chain_at (entries_in was) o)) (new : Places) (sums : List ℕ) (new_is : new ≡ with_sums at sums now) (next : Option ℕ)
      (behind : chain_at (entries_in new) next ≡ chain_behind (entries_in new) at) where
    entries_stay : entries_in new ≡ entries_in was
    entries_stay = ap entries_in new_is ∙ entries_with at sums now ∙ under.same

    left_is : chain_at (entries_in was) o ≡ (by_sums (slice_get now at) before found).0 ∷ chain_at (entries_in was) next
    left_is =
        let es = entries_in was in
        let place = by_sums (slice_get now at) before found in
        let inside : is_in place.0 names ≡ true = under.inside place.0 (ap (λ (x : Option ℕ). is_in place.0 (chain_at es x)) here_is ∙ first_left es now under.same distinct at place.0 place.1 place.2) in
        ap (chain_at es) here_is ∙ step_left es now under.same distinct at place.0 place.1 place.2 (ends place.0 inside)
        ∙ ap (λ ns. place.0 ∷ ns) (sym ((λ i. chain_at (sym entries_stay i) next) ∙ behind ∙ (λ i. chain_behind (entries_stay i) at)))

    pub more_of : ((k : ℕ) → k < 15 → slice_index sums k ≡ adjusted take give before k) → IsUnderway take give was new names (chain_at (entries_in was) next)
    more_of sum =
        let es = entries_in was in
        let place = by_sums (slice_get now at) before found in
        let m = place.0 in
        let p = place.1 in
        let is = place.2 in
        let left = chain_at es o in
        let rest = chain_at es next in
        let alone : IsDistinct bytes_eq (keys_of (entries_in now)) = subst (λ (xs : Rows). IsDistinct bytes_eq (keys_of xs)) (sym under.same) distinct in
        let same_sums : (k : ℕ) → k < 15 → slice_index sums k ≡ adjusted take give p.sums k = subst (λ (s : List ℕ). (k : ℕ) → k < 15 → slice_index sums k ≡ adjusted take give s k) (sym place.3) sum in
        record {
          distinct = next_distinct take give names left rest m left_is under.distinct;
          inside = next_inside take give names left rest m left_is under.inside;
          places = adjusted_one take give names left rest m left_is was now new p (record p { sums = sums }) under.distinct under.inside under.places (here es now under.same distinct at m p is) refl same_sums
              (λ q. ap (λ (xs : Places). place_at xs q) new_is ∙ place_with at sums now m p alone is q);
          same = entries_stay;
        }

    pub shorter_left : length (chain_at (entries_in was) next) < length (chain_at (entries_in was) o)
    shorter_left =
        let long : length (chain_at (entries_in was) o) ≡ suc (length (chain_at (entries_in was) next)) = ap length left_is in
        omega (arith, long)

-- ---- indices and names

parent_is : (places : Places) (at : ℕ) (n : List ℕ) (p : Place) → slice_get places at ≡ Some (n, p) → place_at places n ≡ Some p → p.entry.parent ≡ option_and_then (parent_of (tree_of (ordered places))) (name_at (entries_in places) at)
parent_is places at n p is found =
    sym (ap (λ (o : Option (List ℕ)). option_and_then (parent_of (tree_of (ordered places))) o) (name_of (entries_in places) places refl at n p is)
    ∙ ap (λ (o : Option Node). option_and_then (λ node. node.parent) o) (node_of-tree (ordered places) n ∙ ap (λ (o : Option Entry). option_map node_for o) (entry_at places n ∙ ap entry_in found)))

no_parent : (places : Places) (at : ℕ) → slice_get places at ≡ None → None ≡ option_and_then (parent_of (tree_of (ordered places))) (name_at (entries_in places) at)
no_parent places at none =
    sym (ap (λ (o : Option Pair). option_and_then (parent_of (tree_of (ordered places))) (option_map (λ e. e.0) o)) (entry_index places at ∙ ap (λ (o : Option (List ℕ × Place)). option_map (λ x. (x.0, x.1.entry)) o) none))

pub parent_index : (places : Places) (at : ℕ) → IsDistinct bytes_eq (keys_of places) → option_and_then (λ (e : List ℕ × Place). e.1.entry.parent) (slice_get places at) ≡ option_and_then (parent_of (tree_of (ordered places))) (name_at (entries_in places) at)
parent_index places at distinct = by (slice_get places at) refl
  where
    by : (o : Option (List ℕ × Place)) → slice_get places at ≡ o → option_and_then (λ (e : List ℕ × Place). e.1.entry.parent) o ≡ option_and_then (parent_of (tree_of (ordered places))) (name_at (entries_in places) at)
    by None is = no_parent places at is
    by (Some e) is = parent_is places at e.0 e.1 is (lookup_from_place nat_list_eq_equiv places at e.0 e.1 distinct is)

-- what has a name at an index is there
named_there : (places : Places) (at : ℕ) (m : List ℕ) → name_at (entries_in places) at ≡ Some m → is_some (place_at places m) ≡ true
named_there [] at m is = absurd (none-some m is)
named_there (e ∷ places) zero m is = subst (λ (k : List ℕ). is_some (place_at (e ∷ places) k) ≡ true) (same_Some e.0 m is) (ap (λ b. is_some (cond b (Some e.1) (place_at places e.0))) (same_itself e.0))
named_there (e ∷ places) (suc at) m is = elim (bytes_eq m e.0) as (λ b. is_some (cond b (Some e.1) (place_at places m)) ≡ true) [
  | true ↦ refl
  | false ↦ named_there places at m is
]

pub all_named : (places : Places) (at : ℕ) → IfSome (name_at (entries_in places) at) (λ m. is_there (tree_of (ordered places)) m ≡ true)
all_named places at = by (name_at (entries_in places) at) refl
  where
    by : (o : Option (List ℕ)) → name_at (entries_in places) at ≡ o → IfSome o (λ m. is_there (tree_of (ordered places)) m ≡ true)
    by None is = tt
    by (Some m) is = in_places places m ∙ named_there places at m is

-- the place of a name lies where the name does
pub named_place : (places : Places) (at : ℕ) (n : List ℕ) → IsDistinct bytes_eq (keys_of places) → name_at (entries_in places) at ≡ Some n → IsFoundAt places n (Some at)
named_place places at n distinct named = by (slice_get places at) refl (sym (ap (λ (o : Option Pair). option_map (λ e. e.0) o) (entry_index places at)) ∙ named)
  where
    by : (o : Option (List ℕ × Place)) → slice_get places at ≡ o → option_map (λ (e : Pair). e.0) (option_map (λ (x : List ℕ × Place). (x.0, x.1.entry)) o) ≡ Some n → IsFoundAt places n (Some at)
    by None is h = absurd (none-some n h)
    by (Some e) is h =
        let here : slice_get places at ≡ Some (n, e.1) = is ∙ ap (λ (k : List ℕ). Some (k, e.1)) (same_Some e.0 n h) in
        (e.1, here, lookup_from_place nat_list_eq_equiv places at n e.1 distinct here)
