-- Walks up by indices are walks up by names.
--     up_there        where the parent of what lies at an index lies
--     walk_law        a walk by indices passes what a walk by names does
--     passes_chain    it tells whether a name is in a chain
--     comes_to        and whether a walk comes back
--     halt_law        and why a namespace is halted
--     subtree_by      and what a subtree has
use Rattle.std.proofs.Common.{◌≡◌, ℕ, zero, suc, ◌-◌, ◌<◌, arith, eqb, eqb-true, Bool, true, false, cond, not, ◌&&◌, ◌||◌, List, [], ◌∷◌, map, filter, length, Option, Some, None, option_map, refl, sym, ap, ◌∙◌, true≢false}
use Rattle.std.specs.Prelude.{is_some, is_none, option_and_then, slice_get, slice_index_or, if◌then◌else◌}
use Rattle.std.specs.List.{AllByRecursion, list_any}
use Rattle.std.specs.Option.{option_map_or}
use Rattle.std.specs.Str.{bytes_eq}
use Rattle.std.proofs.lemmas.Bool.{false_from_ne_true}
use Rattle.std.proofs.lemmas.List.{length-map}
use Rattle.std.proofs.lemmas.Option.{none-some, same_Some}
use Rattle.hx_model.specs.First.{so, or_else, first}
use Rattle.hx_model.specs.Forest.{Forest, node_of, is_there, is_live, is_excluded, parent_of, in_chain, comes_back, own_halt_of, has_halted_ancestor, halt_of, tail_of, names_of, subtree_of}
use Rattle.hx_model.specs.declared.node.Halt.{Halt}
use Rattle.hx_model.specs.declared.node.Halt.TheVariants.{InCycle, ParentMissing, IllegalParent, Ancestor}
use Rattle.hx_model.specs.declared.node.Node.{Node}
use Rattle.hx_model.proofs.Walking.{walk_any, walk_any_chain, chain_from, chain_tail, chain_there, chain_missing, no_halt_apart, no_parent}
use Rattle.hx_survey.specs.Inside.{place_of, place_at, node_at, ups_of, halts_of, up_at, halt_at, walk_at, halt_under, halt_by}
use Rattle.hx_survey.proofs.Placed.{found_at, none_at, node_place, same_places, names_by}

pub mapped_at : {A B : Type 0} (g : A → B) (xs : List A) (k : ℕ) (x : A) (d : B) → slice_get xs k ≡ Some x → slice_index_or (map g xs) k d ≡ g x
mapped_at g [] k x d h = absurd (none-some x h)
mapped_at g (y ∷ xs) zero x d h = ap g (same_Some y x h)
mapped_at g (y ∷ xs) (suc k) x d h = mapped_at g xs k x d h

-- where the parent of what lies at an index lies
pub up_there : (f : Forest) (n : List ℕ) (k : ℕ) → place_of f n ≡ Some k → up_at (ups_of f) k ≡ place_at f (parent_of f n)
up_there f n k here =
    let there = found_at f n k here in
    mapped_at (λ (e : List ℕ × Node). place_at f (e.1).parent) f k (n, there.node) None there.entry
    ∙ sym (ap (λ o. place_at f (option_and_then (λ (node : Node). node.parent) o)) there.found)

-- a walk by indices passes what a walk by names does
pub walk_law : (t : List ℕ → Bool) (test : ℕ → Bool) (f : Forest) → ((n : List ℕ) (k : ℕ) → place_of f n ≡ Some k → t n ≡ test k) → (left : ℕ) (next : Option (List ℕ)) → walk_at test left (ups_of f) (place_at f next) ≡ walk_any t left f next
walk_law t test f alike zero next = refl
walk_law t test f alike (suc left) None = refl
walk_law t test f alike (suc left) (Some n) = at (walk_law t test f alike left (parent_of f n)) (place_of f n) refl
  where
    at : walk_at test left (ups_of f) (place_at f (parent_of f n)) ≡ walk_any t left f (parent_of f n) → (o : Option ℕ) → place_of f n ≡ o → walk_at test (suc left) (ups_of f) o ≡ (is_there f n && (t n || walk_any t left f (parent_of f n)))
    at on None out = sym (ap (λ (o : Option Node). is_some o && (t n || walk_any t left f (parent_of f n))) (none_at f n out))
    at on (Some k) here =
        let there = found_at f n k here in
        (λ i. sym (alike n k here) i || walk_at test left (ups_of f) (up_there f n k here i))
        ∙ ap (λ b. t n || b) on
        ∙ sym (ap (λ (o : Option Node). is_some o && (t n || walk_any t left f (parent_of f n))) there.found)

-- what isn't one tests so
pub not_one : (i k : ℕ) → (i ≡ k → ⊥) → eqb i k ≡ false
not_one i k apart = false_from_ne_true (eqb i k) (λ h. apart (eqb-true i k h))

-- one step of a walk
pub walk_step : (test : ℕ → Bool) (left : ℕ) (ups : List (Option ℕ)) (at : Option ℕ) (k : ℕ) → 0 < left → at ≡ Some k → test k ≡ false → walk_at test (left - 1) ups (up_at ups k) ≡ walk_at test left ups at
walk_step test zero ups at k some is out = absurd (omega arith)
walk_step test (suc left) ups at k some is out =
    let less : suc left - 1 ≡ left = omega arith in
    ap (λ l. walk_at test l ups (up_at ups k)) less ∙ sym (ap (λ b. b || walk_at test left ups (up_at ups k)) out) ∙ sym (ap (walk_at test (suc left) ups) is)

-- whether a name that lies at an index is in a chain
pub passes_chain : (f : Forest) (n a : List ℕ) (k : ℕ) → place_of f a ≡ Some k → walk_at (λ i. eqb i k) (length f) (ups_of f) (place_of f n) ≡ in_chain f n a
passes_chain f n a k here = walk_law (bytes_eq a) (λ i. eqb i k) f (λ m i there. same_places f m a i k there here) (length f) (Some n) ∙ walk_any_chain (bytes_eq a) f n

-- one that isn't there is in none
pub missing_chain : (f : Forest) (n a : List ℕ) → place_of f a ≡ None → false ≡ in_chain f n a
missing_chain f n a out = sym (false_from_ne_true (in_chain f n a) (λ h. true≢false (sym ((chain_there f n).there a h) ∙ ap (λ (o : Option Node). is_some o) (none_at f a out))))

none_from : (t : List ℕ → Bool) (left : ℕ) (f : Forest) → walk_any t left f None ≡ false
none_from t zero f = refl
none_from t (suc left) f = refl

-- whether the walk from one that lies at an index comes back to it
pub comes_to : (f : Forest) (n : List ℕ) (k : ℕ) → place_of f n ≡ Some k → walk_at (λ i. eqb i k) (length f) (ups_of f) (up_at (ups_of f) k) ≡ comes_back f n
comes_to f n k here =
    ap (walk_at (λ i. eqb i k) (length f) (ups_of f)) (up_there f n k here)
    ∙ walk_law (bytes_eq n) (λ i. eqb i k) f (λ m i there. same_places f m n i k there here) (length f) (parent_of f n)
    ∙ by (parent_of f n)
  where
    by : (o : Option (List ℕ)) → walk_any (bytes_eq n) (length f) f o ≡ option_map_or (λ p. in_chain f p n) o false
    by None = none_from (bytes_eq n) (length f) f
    by (Some p) = walk_any_chain (bytes_eq n) f p

-- ---- the reasons that one has by itself

marked : (a b : Bool) → first (so false InCycle ∷ so (not (not a)) ParentMissing ∷ so b IllegalParent ∷ []) ≡ (if a then Some ParentMissing else if b then Some IllegalParent else None)
marked true b = refl
marked false true = refl
marked false false = refl

above_by : (o : Option Node) → halt_under o ≡ first (so false InCycle ∷ so (not (option_map_or (λ (node : Node). not node.terminating) o false)) ParentMissing ∷ so (option_map_or (λ (node : Node). node.excluded) o false) IllegalParent ∷ [])
above_by None = refl
above_by (Some node) = sym (marked node.terminating node.excluded)

abbrev told_of : Forest → Bool → Option (List ℕ) → Option Halt
told_of f b o = first (so b InCycle ∷ so (option_map_or (λ p. not (is_live f p)) o false) ParentMissing ∷ so (option_map_or (λ p. is_excluded f p) o false) IllegalParent ∷ [])

-- without a cycle it is that by the node of the parent
pub halt_apart : (f : Forest) (n : List ℕ) (k : ℕ) → place_of f n ≡ Some k → comes_back f n ≡ false → halt_by (node_at f (Some k)) (node_at f (up_at (ups_of f) k)) ≡ own_halt_of f n
halt_apart f n k here apart =
    let there = found_at f n k here in
    let node : node_at f (Some k) ≡ Some there.node = ap (λ o. option_map (λ (e : List ℕ × Node). e.1) o) there.entry in
    let parent : parent_of f n ≡ (there.node).parent = ap (λ (o : Option Node). option_and_then (λ (m : Node). m.parent) o) there.found in
    ap (λ o. halt_by o (node_at f (up_at (ups_of f) k))) node
    ∙ ap (λ o. halt_by (Some there.node) (node_at f o)) (up_there f n k here ∙ ap (place_at f) parent)
    ∙ by ((there.node).parent)
    ∙ sym (ap (λ (o : Option (List ℕ)). told_of f false o) parent)
    ∙ sym (ap (λ b. told_of f b (parent_of f n)) apart)
  where
    by : (o : Option (List ℕ)) → (if is_none o then None else halt_under (node_at f (place_at f o))) ≡ told_of f false o
    by None = refl
    by (Some p) = ap halt_under (node_place f p) ∙ above_by (node_of f p)

-- in a cycle it is that
pub halt_cycle : (f : Forest) (n : List ℕ) → comes_back f n ≡ true → Some InCycle ≡ own_halt_of f n
halt_cycle f n back = sym (ap (λ b. first (so b InCycle ∷ so (option_map_or (λ p. not (is_live f p)) (parent_of f n) false) ParentMissing ∷ so (option_map_or (λ p. is_excluded f p) (parent_of f n) false) IllegalParent ∷ [])) back)

-- ---- why one is halted

-- one that isn't there isn't, by itself
pub no_own_halt : (f : Forest) (n : List ℕ) → place_of f n ≡ None → None ≡ own_halt_of f n
no_own_halt f n out = sym (ap (λ (o : Option (List ℕ)). first (so (option_map_or (λ p. in_chain f p n) o false) InCycle ∷ so (option_map_or (λ p. not (is_live f p)) o false) ParentMissing ∷ so (option_map_or (λ p. is_excluded f p) o false) IllegalParent ∷ [])) (no_parent f n (ap (λ (o : Option Node). is_some o) (none_at f n out))))

-- nor by others
pub no_halt : (f : Forest) (n : List ℕ) → place_of f n ≡ None → None ≡ halt_of f n
no_halt f n out =
    let gone = chain_missing f n (ap (λ (o : Option Node). is_some o) (none_at f n out)) in
    sym (ap (λ (o : Option Halt). or_else o (or_else (so (has_halted_ancestor f n) Ancestor) None)) (sym (no_own_halt f n out))
    ∙ ap (λ xs. or_else (so (list_any (λ a. is_some (own_halt_of f a)) (tail_of xs)) Ancestor) None) gone)

-- the reason that is noted for one that lies at an index
pub own_at : (f : Forest) (n : List ℕ) (k : ℕ) → place_of f n ≡ Some k → halt_at (halts_of f) k ≡ own_halt_of f n
own_at f n k here = let there = found_at f n k here in mapped_at (λ (e : List ℕ × Node). own_halt_of f e.0) f k (n, there.node) None there.entry

above_law : (f : Forest) (n : List ℕ) (k : ℕ) → place_of f n ≡ Some k → own_halt_of f n ≡ None
    → walk_at (λ i. is_some (halt_at (halts_of f) i)) (length f) (ups_of f) (up_at (ups_of f) k) ≡ has_halted_ancestor f n
above_law f n k here free =
    ap (walk_at (λ i. is_some (halt_at (halts_of f) i)) (length f) (ups_of f)) (up_there f n k here)
    ∙ walk_law t (λ i. is_some (halt_at (halts_of f) i)) f (λ m i there. ap is_some (sym (own_at f m i there))) (length f) (parent_of f n)
    ∙ by (parent_of f n)
    ∙ sym (ap (list_any t) (chain_tail f n (no_halt_apart f n free)))
  where
    t : List ℕ → Bool
    t a = is_some (own_halt_of f a)

    by : (o : Option (List ℕ)) → walk_any t (length f) f o ≡ list_any t (chain_from f o)
    by None = none_from t (length f) f
    by (Some p) = walk_any_chain t f p

-- the reason of one that lies at an index: that by itself, or else that one above has one
pub halt_law : (f : Forest) (n : List ℕ) (k : ℕ) → place_of f n ≡ Some k
    → or_else (halt_at (halts_of f) k) (so (walk_at (λ i. is_some (halt_at (halts_of f) i)) (length f) (ups_of f) (up_at (ups_of f) k)) Ancestor) ≡ halt_of f n
halt_law f n k here = ap (λ (o : Option Halt). or_else o (so above Ancestor)) (own_at f n k here) ∙ by (own_halt_of f n) refl
  where
    above : Bool
    above = walk_at (λ i. is_some (halt_at (halts_of f) i)) (length f) (ups_of f) (up_at (ups_of f) k)

    alone : (o : Option Halt) → or_else o None ≡ o
    alone None = refl
    alone (Some h) = refl

    by : (o : Option Halt) → own_halt_of f n ≡ o → or_else o (so above Ancestor) ≡ or_else o (or_else (so (has_halted_ancestor f n) Ancestor) None)
    by None free = ap (λ b. so b Ancestor) (above_law f n k here free) ∙ sym (alone (so (has_halted_ancestor f n) Ancestor))
    by (Some h) is = refl

-- ---- over what is noted

as_long : (f : Forest) → length (ups_of f) ≡ length f
as_long f = length-map f (λ (e : List ℕ × Node). place_at f (e.1).parent)

module _ (f : Forest) (ups : List (Option ℕ)) (ups_are : ups ≡ ups_of f) (n : List ℕ) where
  whole : (test : ℕ → Bool) (first : Option ℕ) → walk_at test (length ups) ups first ≡ walk_at test (length f) (ups_of f) first
  whole test first = ap (λ us. walk_at test (length us) us first) ups_are ∙ ap (λ l. walk_at test l (ups_of f) first) (as_long f)

  pub in_chain_by : (a : List ℕ) (first : Option ℕ) (k : ℕ) → first ≡ place_of f n → place_of f a ≡ Some k → walk_at (λ i. eqb i k) (length ups) ups first ≡ in_chain f n a
  in_chain_by a first k is there = whole (λ i. eqb i k) first ∙ ap (walk_at (λ i. eqb i k) (length f) (ups_of f)) is ∙ passes_chain f n a k there

  pub comes_back_by : (up : Option ℕ) (k : ℕ) → up ≡ up_at ups k → place_of f n ≡ Some k → walk_at (λ i. eqb i k) (length ups) ups up ≡ comes_back f n
  comes_back_by up k is here =
      whole (λ i. eqb i k) up ∙ ap (walk_at (λ i. eqb i k) (length f) (ups_of f)) (is ∙ ap (λ us. up_at us k) ups_are) ∙ comes_to f n k here

  pub halt_apart_by : (up : Option ℕ) (k : ℕ) → up ≡ up_at ups k → place_of f n ≡ Some k → comes_back f n ≡ false → halt_by (node_at f (Some k)) (node_at f up) ≡ own_halt_of f n
  halt_apart_by up k is here apart = ap (λ o. halt_by (node_at f (Some k)) (node_at f o)) (is ∙ ap (λ us. up_at us k) ups_are) ∙ halt_apart f n k here apart

  pub halt_at_by : (halts : List (Option Halt)) (k : ℕ) → halts ≡ halts_of f → place_of f n ≡ Some k
      → or_else (halt_at halts k) (so (walk_at (λ i. is_some (halt_at halts i)) (length ups) ups (up_at ups k)) Ancestor) ≡ halt_of f n
  halt_at_by halts k halts_are here =
      ap (λ hs. or_else (halt_at hs k) (so (walk_at (λ i. is_some (halt_at hs i)) (length ups) ups (up_at ups k)) Ancestor)) halts_are
      ∙ ap (λ b. or_else (halt_at (halts_of f) k) (so b Ancestor)) (whole (λ i. is_some (halt_at (halts_of f) i)) (up_at ups k) ∙ ap (λ us. walk_at (λ i. is_some (halt_at (halts_of f) i)) (length f) (ups_of f) (up_at us k)) ups_are)
      ∙ halt_law f n k here

-- one that isn't there doesn't come back
pub no_cycle : (f : Forest) (n : List ℕ) → place_of f n ≡ None → false ≡ comes_back f n
no_cycle f n out = sym (ap (λ (o : Option (List ℕ)). option_map_or (λ p. in_chain f p n) o false) (no_parent f n (ap (λ (o : Option Node). is_some o) (none_at f n out))))

-- ---- subtrees

all_so : {P : List ℕ × Node → Type 0} → ((e : List ℕ × Node) → P e) → (f : Forest) → AllByRecursion P f
all_so so [] = tt
all_so so (x ∷ f) = (so x, all_so so f)

-- the subtree by the walks that pass a place
pub subtree_by : (f : Forest) (ups : List (Option ℕ)) → ups ≡ ups_of f → (a : List ℕ) (k : ℕ) → place_of f a ≡ Some k
    → map (λ (e : List ℕ × Node). e.0) (filter (λ (e : List ℕ × Node). walk_at (λ i. eqb i k) (length ups) ups (place_of f e.0)) f) ≡ subtree_of f a
subtree_by f ups ups_are a k here =
    names_by (λ n. in_chain f n a) (λ (e : List ℕ × Node). walk_at (λ i. eqb i k) (length ups) ups (place_of f e.0)) f
    (all_so (λ e. sym (in_chain_by f ups ups_are e.0 a (place_of f e.0) k refl here)) f)

none_kept : (t : List ℕ → Bool) (names : List (List ℕ)) → ((n : List ℕ) → t n ≡ false) → filter t names ≡ []
none_kept t [] out = refl
none_kept t (n ∷ names) out = ap (λ b. cond b (n ∷ filter t names) (filter t names)) (out n) ∙ none_kept t names out

-- a name that isn't there has none
pub no_subtree : (f : Forest) (a : List ℕ) → place_of f a ≡ None → [] ≡ subtree_of f a
no_subtree f a out = sym (none_kept (λ n. in_chain f n a) (names_of f) (λ n. sym (missing_chain f n a out)))
