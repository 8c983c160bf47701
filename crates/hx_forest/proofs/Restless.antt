-- How many rungs stand restless.
--     same_restless         with one changed that stands as it did
--     small_count, count_push, count_set, count_cut      so a count is kept
--     none_restless, none_named      where none stands so, none of their nodes does
--     all_eligible              and each that names a parent is eligible
use Rattle.std.specs.Prelude.{◌<◌, ◌^◌, slice_get, swap_remove, slice_set, slice_index_or, take, nat_lt, is_some, option_and_then}
use Rattle.std.proofs.Common.{◌≡◌, ◌≤◌, ℕ, zero, suc, ◌+◌, ◌-◌, Bool, true, false, cond, not, ◌&&◌, List, [], ◌∷◌, ◌++◌, length, Option, Some, None, option_map, refl, sym, ap, ◌∙◌, arith, true≢false}
use Rattle.std.specs.Map.{lookup}
use Rattle.std.specs.Option.{option_map_or}
use Rattle.std.specs.Str.{bytes_eq}
use Rattle.std.proofs.lemmas.Bool.{ltb-false}
use Rattle.std.proofs.lemmas.Option.{none-some, same_Some}
use Rattle.hx_model.specs.Forest.{Forest, node_of, parent_of}
use Rattle.hx_model.specs.Moves.{is_eligible}
use Rattle.hx_model.specs.declared.node.Node.{Node}
use Rattle.hx_forest.specs.declared.node_table.Standing.{Standing}
use Rattle.hx_forest.specs.declared.node_table.Step.{Step}
use Rattle.hx_forest.specs.declared.nodes.Nodes.{Nodes as Kept}
use Rattle.hx_forest.specs.ParentRefs.{forest_of, place_of}
use Rattle.hx_forest.proofs.ParentRefs.{node_there}
use Rattle.hx_forest.specs.NodeTable.{Place, place_with, standing_of, places_from, AreStanding, is_restless, one_if, restless_in}

abbrev Nodes : Type 0
Nodes = List (List ℕ × Node)

abbrev Rungs : Type 0
Rungs = List (Step × Standing)

-- what a rung counts
abbrev counts : Step × Standing → ℕ
counts r = one_if (is_restless r.1)

at_most_one : (b : Bool) → one_if b ≤ 1
at_most_one true = omega arith
at_most_one false = omega arith

few_restless : (rs : Rungs) → restless_in rs ≤ length rs
few_restless [] = omega arith
few_restless (r ∷ rs) = omega (arith, at_most_one (is_restless r.1), few_restless rs)

push_restless : (rs : Rungs) (r : Step × Standing) → restless_in (rs ++ r ∷ []) ≡ restless_in rs + counts r
push_restless [] r = omega arith
push_restless (x ∷ rs) r = let more = push_restless rs r in omega (arith, more)

set_restless : (rs : Rungs) (i : ℕ) (r s : Step × Standing) → slice_get rs i ≡ Some r → restless_in (slice_set rs i s) + counts r ≡ restless_in rs + counts s
set_restless [] i r s at = absurd (none-some r at)
set_restless (x ∷ rs) zero r s at = let same : counts x ≡ counts r = ap (λ (y : Step × Standing). counts y) (same_Some x r at) in omega (arith, same)
set_restless (x ∷ rs) (suc i) r s at = let more = set_restless rs i r s at in omega (arith, more)

pub same_restless : (rs : Rungs) (i : ℕ) (r s : Step × Standing) → slice_get rs i ≡ Some r → s.1 ≡ r.1 → restless_in (slice_set rs i s) ≡ restless_in rs
same_restless rs i r s at same =
    let set = set_restless rs i r s at in
    let alike : counts s ≡ counts r = ap (λ (t : Standing). one_if (is_restless t)) same in
    omega (arith, set, alike)

-- ---- one out

last_out : (rs : Rungs) (x d : Step × Standing) → restless_in (take (length rs) (x ∷ rs)) + counts (slice_index_or (x ∷ rs) (length rs) d) ≡ restless_in (x ∷ rs)
last_out [] x d = omega arith
last_out (y ∷ rs) x d = let more = last_out rs y d in omega (arith, more)

-- the last one is the same where a copy of it is put in another place
last_stays : (rs : Rungs) (i k : ℕ) (d : Step × Standing) → slice_index_or (slice_set rs i (slice_index_or rs k d)) k d ≡ slice_index_or rs k d
last_stays [] i k d = refl
last_stays (x ∷ rs) zero zero d = refl
last_stays (x ∷ rs) zero (suc k) d = refl
last_stays (x ∷ rs) (suc i) zero d = refl
last_stays (x ∷ rs) (suc i) (suc k) d = last_stays rs i k d

set_length : (rs : Rungs) (i : ℕ) (s : Step × Standing) → length (slice_set rs i s) ≡ length rs
set_length [] i s = refl
set_length (x ∷ rs) zero s = refl
set_length (x ∷ rs) (suc i) s = ap (λ k. suc k) (set_length rs i s)

one_off : (k : ℕ) → suc k - 1 ≡ k
one_off k = omega arith

cut_restless : (rs : Rungs) (i : ℕ) (r : Step × Standing) → slice_get rs i ≡ Some r → restless_in (swap_remove rs i r) + counts r ≡ restless_in rs
cut_restless [] i r at = absurd (none-some r at)
cut_restless (x ∷ rs) i r at = ap (λ k. restless_in (take k (slice_set (x ∷ rs) i (slice_index_or (x ∷ rs) k r))) + counts r) (one_off (length rs)) ∙ by (slice_set (x ∷ rs) i last) refl
  where
    last : Step × Standing
    last = slice_index_or (x ∷ rs) (length rs) r

    by : (ys : Rungs) → slice_set (x ∷ rs) i last ≡ ys → restless_in (take (length rs) (slice_set (x ∷ rs) i last)) + counts r ≡ restless_in (x ∷ rs)
    by [] e = absurd (no_length (ap length (sym e) ∙ set_length (x ∷ rs) i last))
      where
        no_length : {k : ℕ} → 0 ≡ suc k → ⊥
        no_length h = cc
    by (y ∷ ys) e =
        let long : length ys ≡ length rs = pred_same (sym (ap length e) ∙ set_length (x ∷ rs) i last) in
        let out = last_out ys y r in
        let end : counts (slice_index_or (y ∷ ys) (length rs) r) ≡ counts last = ap (λ (zs : Rungs). counts (slice_index_or zs (length rs) r)) (sym e) ∙ ap (λ (z : Step × Standing). counts z) (last_stays (x ∷ rs) i (length rs) r) in
        let set = set_restless (x ∷ rs) i r last at in
        let whole : restless_in (take (length rs) (y ∷ ys)) + counts (slice_index_or (y ∷ ys) (length rs) r) ≡ restless_in (y ∷ ys) = ap (λ k. restless_in (take k (y ∷ ys)) + counts (slice_index_or (y ∷ ys) k r)) (sym long) ∙ out in
        let same : restless_in (y ∷ ys) ≡ restless_in (slice_set (x ∷ rs) i last) = ap restless_in (sym e) in
        let cut : restless_in (take (length rs) (slice_set (x ∷ rs) i last)) ≡ restless_in (take (length rs) (y ∷ ys)) = ap (λ (zs : Rungs). restless_in (take (length rs) zs)) e in
        omega (arith, whole, end, set, same, cut)
      where
        pred_same : {a b : ℕ} → suc a ≡ suc b → a ≡ b
        pred_same h = cc

-- ---- a count that is kept

-- there are fewer than a vector may have
pub small_count : (rs : Rungs) (count len cap : ℕ) → count ≡ restless_in rs → len ≡ length rs → len ≤ cap → cap < 2 ^ 63 → count < 2 ^ 63
small_count rs count len cap is long within small = omega (arith, is, long, within, small, few_restless rs)

among : (rs : Rungs) (i : ℕ) (r : Step × Standing) → slice_get rs i ≡ Some r → counts r ≤ restless_in rs
among rs i r at = let cut = cut_restless rs i r at in omega (arith, cut)

pub count_cut : (rs ss : Rungs) (i : ℕ) (r : Step × Standing) (count less : ℕ) → slice_get rs i ≡ Some r → ss ≡ swap_remove rs i r → count ≡ restless_in rs → (counts r ≤ count → less + counts r ≡ count) → less ≡ restless_in ss
count_cut rs ss i r count less at out is cuts =
    let within = among rs i r at in
    let cut = cut_restless rs i r at in
    let now = cuts (omega (arith, within, is)) in
    let same : restless_in ss ≡ restless_in (swap_remove rs i r) = ap restless_in out in
    omega (arith, now, cut, same, is)

pub count_set : (rs : Rungs) (i : ℕ) (r s : Step × Standing) (count less more : ℕ) → slice_get rs i ≡ Some r → count ≡ restless_in rs → count < 2 ^ 63
    → (counts r ≤ count → less + counts r ≡ count) → (less < 2 ^ 63 → more ≡ less + counts s) → more ≡ restless_in (slice_set rs i s)
count_set rs i r s count less more at is small cuts adds =
    let within = among rs i r at in
    let set = set_restless rs i r s at in
    let cut = cuts (omega (arith, within, is)) in
    let add = adds (omega (arith, cut, small)) in
    omega (arith, set, cut, add, is)

pub count_push : (rs ss : Rungs) (r : Step × Standing) (count more : ℕ) → ss ≡ rs ++ r ∷ [] → count ≡ restless_in rs → count < 2 ^ 63 → (count < 2 ^ 63 → more ≡ count + counts r) → more ≡ restless_in ss
count_push rs ss r count more pushed is small adds = adds small ∙ ap (λ k. k + counts r) is ∙ sym (ap restless_in pushed ∙ push_restless rs r)

-- ---- none

both_none : (a b : ℕ) → a + b ≡ 0 → (a ≡ 0) × (b ≡ 0)
both_none a b e = (omega (arith, e), omega (arith, e))

stands : (b : Bool) → one_if b ≡ 0 → b ≡ false
stands true e = absurd (cc)
stands false e = refl

-- a count that isn't above none
pub no_more : (k : ℕ) → nat_lt 0 k ≡ false → k ≡ 0
no_more k e = let least = ltb-false 0 k e in omega (arith, least)

pub none_restless : (es : Nodes) (rs : Rungs) → AreStanding es rs → restless_in rs ≡ 0 → (q : List ℕ) (p : Place) → lookup (bytes_eq q) (places_from es rs) ≡ Some p → is_restless (standing_of p.node) ≡ false
none_restless [] rs is none q p at = absurd (none-some p at)
none_restless (e ∷ es) [] is none q p at = absurd is
none_restless (e ∷ es) (r ∷ rs) is none q p at =
    let parts = both_none (counts r) (restless_in rs) none in
    elim (bytes_eq q e.0) as (λ b. cond b (Some (place_with r.0 e.1)) (lookup (bytes_eq q) (places_from es rs)) ≡ Some p → is_restless (standing_of p.node) ≡ false) [
      | true ↦ λ here. ap (λ (x : Place). is_restless (standing_of x.node)) (sym (same_Some (place_with r.0 e.1) p here)) ∙ ap is_restless (sym is.0) ∙ stands (is_restless r.1) parts.0
      | false ↦ λ later. none_restless es rs is.1 parts.1 q p later
    ] at

-- so it is with the nodes by their names
pub none_named : (nodes : Kept) → ((q : List ℕ) (p : Place) → place_of nodes q ≡ Some p → is_restless (standing_of p.node) ≡ false) → (q : List ℕ) (node : Node) → node_of (forest_of nodes) q ≡ Some node → is_restless (standing_of node) ≡ false
none_named nodes none q node at = by (place_of nodes q) refl
  where
    by : (o : Option Place) → place_of nodes q ≡ o → is_restless (standing_of node) ≡ false
    by None out = absurd (none-some node (sym (ap (option_map (λ p. p.node)) out) ∙ sym (node_there nodes q) ∙ at))
    by (Some p) there =
        let same : p.node ≡ node = same_Some p.node node (sym (ap (option_map (λ p. p.node)) there) ∙ sym (node_there nodes q) ∙ at) in
        ap (λ (m : Node). is_restless (standing_of m)) (sym same) ∙ none q p there

-- then each that names a parent is eligible
pub all_eligible : (f : Forest) → ((q : List ℕ) (node : Node) → node_of f q ≡ Some node → is_restless (standing_of node) ≡ false) → (n : List ℕ) → is_some (parent_of f n) ≡ true → is_eligible f n ≡ true
all_eligible f none n has = by (node_of f n) refl has
  where
    eligible : (a b : Bool) → a ≡ true → (not (not a) && not b) ≡ false → b ≡ true
    eligible true true h e = refl
    eligible true false h e = absurd (true≢false e)
    eligible false b h e = absurd (true≢false (sym h))

    by : (o : Option Node) → node_of f n ≡ o → is_some (option_and_then (λ node. node.parent) o) ≡ true → (option_map_or (λ node. not node.terminating) o false && not (option_map_or (λ node. node.excluded) o false)) ≡ true
    by None out h = absurd (true≢false (sym h))
    by (Some node) there h = eligible (is_some node.parent) (not node.terminating && not node.excluded) h (none n node there)
