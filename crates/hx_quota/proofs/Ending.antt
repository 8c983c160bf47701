-- Walks up the parents that end at a namespace without one.
--     free, chain_on         a walk that ends doesn't come round:  a chain is its namespace and the chain of the parent
--     more, shorter          a walk that ends does so in more steps, and from those above
--     there_by, parent_by    who is on it is there
--     closed_all             where all walks end, all parents are there
use Rattle.std.specs.Prelude.{is_some, option_and_then}
use Rattle.std.proofs.Common.{◌≡◌, ℕ, zero, suc, true, Option, Some, None, List, ◌∷◌, length, refl, sym, ap, ◌∙◌, subst, true≢false}
use Rattle.std.specs.List.{IsDistinct}
use Rattle.std.specs.Str.{bytes_eq}
use Rattle.std.proofs.lemmas.Bool.{and_parts, and_from, false_from_ne_true}
use Rattle.std.proofs.lemmas.Option.{none-some}
use Rattle.hx_model.specs.declared.node.Node.{Node}
use Rattle.hx_model.specs.Forest.{Forest, node_of, is_there, parent_of, chain_of, in_chain, tail_of}
use Rattle.hx_model.specs.Moves.{chain_from}
use Rattle.hx_model.proofs.Climbing.{Above, itself, through, chain_above, none_there}
use Rattle.hx_model.proofs.Opening.{chain_first}
use Rattle.hx_model.proofs.Walking.{chain_there}
use Rattle.hx_quota.specs.PlaceRows.{Place}
use Rattle.hx_quota.specs.Counters.{Entries, tree_of}
use Rattle.hx_quota.specs.Inside.{Places, place_at, ordered, AreClosed, IsFree, ends_by, ends_up, AllEnd}
use Rattle.hx_quota.proofs.Moved.{behind}
use Rattle.hx_quota.proofs.Placed.{entry_in, entry_at}
use Rattle.hx_quota.proofs.UsedSums.{in_tree}

-- ---- a walk that ends doesn't come round

pub more : (f : Forest) (left : ℕ) (next : Option (List ℕ)) → ends_by left f next ≡ true → ends_by (suc left) f next ≡ true
more f left None h = refl
more f zero (Some n) h = absurd (true≢false (sym h))
more f (suc left) (Some n) h =
    let parts = and_parts (is_there f n) (ends_by left f (parent_of f n)) h in
    and_from (is_there f n) (ends_by (suc left) f (parent_of f n)) parts.0 (more f left (parent_of f n) parts.1)

pub shorter : (f : Forest) (m a : List ℕ) → Above f m a → (left : ℕ) → ends_by left f (Some m) ≡ true → ends_by left f (Some a) ≡ true
shorter f m a (itself there) left h = h
shorter f m a (through {p = p} there on rest) zero h = absurd (true≢false (sym h))
shorter f m a (through {p = p} there on rest) (suc left) h =
    let parts = and_parts (is_there f m) (ends_by left f (parent_of f m)) h in
    more f left (Some a) (shorter f p a rest left (subst (λ (o : Option (List ℕ)). ends_by left f o ≡ true) on parts.1))

no_way_back : (f : Forest) (left : ℕ) (n p : List ℕ) → ends_by left f (Some n) ≡ true → parent_of f n ≡ Some p → Above f p n → ⊥
no_way_back f zero n p h on up = true≢false (sym h)
no_way_back f (suc left) n p h on up =
    let parts = and_parts (is_there f n) (ends_by left f (parent_of f n)) h in
    no_way_back f left n p (shorter f p n up left (subst (λ (o : Option (List ℕ)). ends_by left f o ≡ true) on parts.1)) on up

pub free : (f : Forest) (n : List ℕ) → ends_up f n ≡ true → IsFree f n (parent_of f n)
free f n h = at (parent_of f n) refl
  where
    at : (o : Option (List ℕ)) → parent_of f n ≡ o → IsFree f n o
    at None on = refl
    at (Some p) on = false_from_ne_true (in_chain f p n) (λ up. no_way_back f (length f) n p h on (chain_above f p n up))

pub chain_on : (f : Forest) (n : List ℕ) → is_there f n ≡ true → ends_up f n ≡ true → chain_of f n ≡ n ∷ chain_from f (parent_of f n)
chain_on f n there h = chain_first f n there ∙ ap (λ ns. n ∷ ns) (behind f n there (parent_of f n) refl (free f n h) (tail_of (chain_of f n)) (chain_first f n there))

-- a chain of a parent is of distinct names
pub distinct_from : (f : Forest) (o : Option (List ℕ)) → IsDistinct bytes_eq (chain_from f o)
distinct_from f None = (none_there f).distinct
distinct_from f (Some n) = (chain_there f n).distinct

-- ---- parents

pub there_by : (f : Forest) (left : ℕ) (q : List ℕ) → ends_by left f (Some q) ≡ true → is_there f q ≡ true
there_by f zero q h = absurd (true≢false (sym h))
there_by f (suc left) q h = (and_parts (is_there f q) (ends_by left f (parent_of f q)) h).0

pub parent_by : (f : Forest) (left : ℕ) (m q : List ℕ) → ends_by left f (Some m) ≡ true → parent_of f m ≡ Some q → is_there f q ≡ true
parent_by f zero m q h on = absurd (true≢false (sym h))
parent_by f (suc left) m q h on =
    there_by f left q (subst (λ (o : Option (List ℕ)). ends_by left f o ≡ true) on (and_parts (is_there f m) (ends_by left f (parent_of f m)) h).1)

pub closed_all : (es : Entries) → AllEnd (tree_of es) → AreClosed es
closed_all es all m q on = parent_by (tree_of es) (length (tree_of es)) m q (all m (has_parent (node_of (tree_of es) m) on)) on
  where
    has_parent : (o : Option Node) → option_and_then (λ node. node.parent) o ≡ Some q → is_some o ≡ true
    has_parent None h = absurd (none-some q h)
    has_parent (Some x) h = refl

-- ---- all walks

pub in_places : (places : Places) (n : List ℕ) → is_there (tree_of (ordered places)) n ≡ is_some (place_at places n)
in_places places n = in_tree (ordered places) n ∙ ap is_some (entry_at places n) ∙ either (place_at places n)
  where
    either : (o : Option Place) → is_some (entry_in o) ≡ is_some o
    either None = refl
    either (Some p) = refl
