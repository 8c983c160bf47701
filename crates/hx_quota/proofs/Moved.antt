-- What namespaces have with all below them, after one has moved.
--     tree_moved         the forest then
--     usage_kept         what namespaces have together is read from no parent
--     used_before, used_after      what it has is in the sums of those that were above it, and then of those that are
--     closed_moved       all parents are there
-- The namespace is in the chain of neither parent.
use Rattle.std.specs.Prelude.{is_some, option_and_then, sum_by, IfSome}
use Rattle.std.proofs.Common.{◌≡◌, ℕ, ◌+◌, Bool, true, false, cond, ◌&&◌, ◌||◌, Option, Some, None, option_map, List, [], ◌∷◌, refl, sym, ap, ◌∙◌, subst, arith, true≢false}
use Rattle.std.specs.Str.{bytes_eq}
use Rattle.std.proofs.lemmas.List.Sums.{sum_by-cons}
use Rattle.std.proofs.lemmas.Option.{none-some, same_Some}
use Rattle.hx_model.specs.declared.node.Node.{Node}
use Rattle.hx_model.specs.declared.resource.Resource.{Resource}
use Rattle.hx_model.specs.Forest.{Forest, is_in, node_of, is_there, parent_of, chain_of, in_chain, tail_of, with_parent as forest_with_parent}
use Rattle.hx_model.specs.Moves.{chain_from}
use Rattle.hx_model.proofs.Climbing.{Above, itself, through, above_chain, chain_above, is_same}
use Rattle.hx_model.proofs.Moving.{with_that, moved_node, moved_there, moved_parent, other_parent, moved_chain_same}
use Rattle.hx_model.proofs.Parents.{up_to_all, chain_alone, chain_parent}
use Rattle.hx_model.proofs.Walking.{both}
use Rattle.hx_quota.specs.Counters.{Entries, node_for, tree_of, own_of, part_of, used_in, with_parent}
use Rattle.hx_quota.specs.Inside.{AreClosed, IsFree}
use Rattle.hx_quota.proofs.Attaching.{IsUnder, chain_under, apart_under}
use Rattle.hx_quota.proofs.Cutting.{sum-both, sum-alike}

pub tree_moved : (n : List ℕ) (parent : Option (List ℕ)) (es : Entries) → tree_of (with_parent n parent es) ≡ forest_with_parent n parent (tree_of es)
tree_moved n parent [] = refl
tree_moved n parent (e ∷ es) = λ i. (e.0, either (bytes_eq n e.0) i) ∷ tree_moved n parent es i
  where
    either : (b : Bool) → node_for (cond b (record (e.1) { parent = parent }) e.1) ≡ cond b (with_that parent (node_for e.1)) (node_for e.1)
    either true = refl
    either false = refl

-- what the namespaces of es have together whose chain in f has a
abbrev pub usage : Forest → Entries → List ℕ → Resource → ℕ
usage f es a r = sum_by (part_of f a r) es

pub usage_kept : (f : Forest) (n : List ℕ) (parent : Option (List ℕ)) (es : Entries) (a : List ℕ) (r : Resource) → usage f (with_parent n parent es) a r ≡ usage f es a r
usage_kept f n parent [] a r = refl
usage_kept f n parent (e ∷ es) a r =
    let here : part_of f a r (e.0, cond (bytes_eq n e.0) (record (e.1) { parent = parent }) e.1) ≡ part_of f a r e = either (bytes_eq n e.0) in
    omega (arith, here, usage_kept f n parent es a r, sum_by-cons (part_of f a r) e es, sum_by-cons (part_of f a r) (e.0, cond (bytes_eq n e.0) (record (e.1) { parent = parent }) e.1) (with_parent n parent es))
  where
    either : (b : Bool) → part_of f a r (e.0, cond b (record (e.1) { parent = parent }) e.1) ≡ part_of f a r e
    either true = refl
    either false = refl

each : (y z b : Bool) (k : ℕ) → (z ≡ true → b ≡ true → y ≡ false) → cond (y || (z && b)) k 0 ≡ cond y k 0 + cond b (cond z k 0) 0
each true true true k apart = absurd (true≢false (apart refl refl))
each true true false k apart = omega arith
each true false true k apart = omega arith
each true false false k apart = omega arith
each false true true k apart = omega arith
each false true false k apart = omega arith
each false false true k apart = omega arith
each false false false k apart = omega arith

-- a namespace gives what it has to those above its parent
usage_under : (f g : Forest) (n p : List ℕ) → IsUnder f g n p → in_chain g p n ≡ false → (es : Entries) (a : List ℕ) (r : Resource)
    → usage f es a r ≡ usage g es a r + cond (in_chain g p a) (usage g es n r) 0
usage_under f g n p is free es a r = sum-both (part_of f a r) (part_of g a r) (part_of g n r) (in_chain g p a) es (λ e.
    ap (λ b. cond b (own_of r e.1) 0) (chain_under f g n p is free e.0 a)
    ∙ each (in_chain g e.0 a) (in_chain g e.0 n) (in_chain g p a) (own_of r e.1) (apart_under f g n p is free e.0 a))

-- chains depend on look-ups alone
same_above : (f g : Forest) → ((m : List ℕ) → node_of f m ≡ node_of g m) → (m a : List ℕ) → Above f m a → Above g m a
same_above f g same m a (itself there) = itself (sym (ap is_some (same m)) ∙ there)
same_above f g same m a (through {p = q} there on rest) = through (sym (ap is_some (same m)) ∙ there) (sym (ap (λ (o : Option Node). option_and_then (λ node. node.parent) o) (same m)) ∙ on) (same_above f g same q a rest)

usage_same : (f g : Forest) → ((m : List ℕ) → node_of f m ≡ node_of g m) → (es : Entries) (a : List ℕ) (r : Resource) → usage f es a r ≡ usage g es a r
usage_same f g same es a r = sum-alike (part_of f a r) (part_of g a r) es (λ e _. ap (λ b. cond b (own_of r e.1) 0) (both (in_chain f e.0 a) (in_chain g e.0 a)
    (λ h. above_chain g e.0 a (same_above f g same e.0 a (chain_above f e.0 a h))) (λ h. above_chain f e.0 a (same_above g f (λ m. sym (same m)) e.0 a (chain_above g e.0 a h)))))

module _ (f : Forest) (n : List ℕ) (there : is_there f n ≡ true) where
  -- as a root
  abbrev rooted : Forest
  rooted = forest_with_parent n None f

  under_moved : (p : List ℕ) → IsUnder (forest_with_parent n (Some p) f) rooted n p
  under_moved p = record {
    others = λ m out. moved_node f n (Some p) m ∙ ap (λ b. cond b (option_map (with_that (Some p)) (node_of f m)) (node_of f m)) out ∙ sym (moved_node f n None m ∙ ap (λ b. cond b (option_map (with_that None) (node_of f m)) (node_of f m)) out);
    there = moved_there f n (Some p) n ∙ there;
    root_there = moved_there f n None n ∙ there;
    root = moved_parent f n None there;
    under = moved_parent f n (Some p) there;
  }

  under_now : (p : List ℕ) → parent_of f n ≡ Some p → IsUnder f rooted n p
  under_now p is = record {
    others = λ m out. sym (moved_node f n None m ∙ ap (λ b. cond b (option_map (with_that None) (node_of f m)) (node_of f m)) out);
    there = there;
    root_there = moved_there f n None n ∙ there;
    root = moved_parent f n None there;
    under = is;
  }

  root_now : parent_of f n ≡ None → (m : List ℕ) → node_of f m ≡ node_of rooted m
  root_now is m = sym (moved_node f n None m ∙ at (bytes_eq n m) refl)
    where
      plain : (o : Option Node) → option_and_then (λ node. node.parent) o ≡ None → option_map (with_that None) o ≡ o
      plain None h = refl
      plain (Some node) h = λ i. Some (record node { parent = sym h i })

      at : (b : Bool) → bytes_eq n m ≡ b → cond b (option_map (with_that None) (node_of f m)) (node_of f m) ≡ node_of f m
      at true same = plain (node_of f m) (subst (λ (k : List ℕ). parent_of f k ≡ None) (is_same n m same) is)
      at false out = refl

  -- the chain of a parent is the same without n
  free_rooted : (p : List ℕ) → in_chain f p n ≡ false → in_chain rooted p n ≡ false
  free_rooted p free = ap (is_in n) (moved_chain_same f n None p free) ∙ free

  above_rooted : (p a : List ℕ) → in_chain f p n ≡ false → in_chain rooted p a ≡ in_chain f p a
  above_rooted p a free = ap (is_in a) (moved_chain_same f n None p free)

  no_more : (k : ℕ) → k ≡ k + 0
  no_more k = omega arith

  -- with the old parent, and with the new one
  usage_now : (o : Option (List ℕ)) → parent_of f n ≡ o → IsFree f n o → (es : Entries) (a : List ℕ) (r : Resource) → usage f es a r ≡ usage rooted es a r + cond (is_in a (chain_from f o)) (usage rooted es n r) 0
  usage_now None is free es a r = usage_same f rooted (root_now is) es a r ∙ no_more (usage rooted es a r)
  usage_now (Some p) is free es a r = usage_under f rooted n p (under_now p is) (free_rooted p free) es a r
      ∙ ap (λ b. usage rooted es a r + cond b (usage rooted es n r) 0) (above_rooted p a free)

  usage_then : (o : Option (List ℕ)) → IsFree f n o → (es : Entries) (a : List ℕ) (r : Resource) → usage (forest_with_parent n o f) es a r ≡ usage rooted es a r + cond (is_in a (chain_from f o)) (usage rooted es n r) 0
  usage_then None free es a r = no_more (usage rooted es a r)
  usage_then (Some p) free es a r = usage_under (forest_with_parent n (Some p) f) rooted n p (under_moved p) (free_rooted p free) es a r
      ∙ ap (λ b. usage rooted es a r + cond b (usage rooted es n r) 0) (above_rooted p a free)

  -- n is in no chain of its parent
  not_in_from : (o : Option (List ℕ)) → IsFree f n o → is_in n (chain_from f o) ≡ false
  not_in_from None free = refl
  not_in_from (Some p) free = free

  -- what is behind n is the chain of its parent
  pub behind : (o : Option (List ℕ)) → parent_of f n ≡ o → IsFree f n o → (from : List (List ℕ)) → chain_of f n ≡ n ∷ from → from ≡ chain_from f o
  behind None is free from h = ap tail_of (sym h ∙ chain_alone f n there is)
  behind (Some p) is free from h = ap tail_of (sym h ∙ chain_parent f n p there is) ∙ up_to_all n (chain_of f p) free

module _ (es : Entries) (n : List ℕ) (there : is_there (tree_of es) n ≡ true) (free_old : IsFree (tree_of es) n (parent_of (tree_of es) n)) where
  -- what a namespace has of others than n and all below it
  abbrev pub rest_of : List ℕ → Resource → ℕ
  rest_of a r = usage (forest_with_parent n None (tree_of es)) es a r

  used_itself : (r : Resource) → used_in es n r ≡ rest_of n r
  used_itself r =
      let f = tree_of es in
      usage_now f n there (parent_of f n) refl free_old es n r ∙ ap (λ b. rest_of n r + cond b (rest_of n r) 0) (not_in_from f n there (parent_of f n) free_old) ∙ sym (no_more f n there (rest_of n r))

  -- with n, and all below it, in the subtrees of those above it
  pub used_before : (a : List ℕ) (r : Resource) → used_in es a r ≡ rest_of a r + cond (is_in a (chain_from (tree_of es) (parent_of (tree_of es) n))) (used_in es n r) 0
  used_before a r =
      let f = tree_of es in
      usage_now f n there (parent_of f n) refl free_old es a r ∙ ap (λ k. rest_of a r + cond (is_in a (chain_from f (parent_of f n))) k 0) (sym (used_itself r))

  -- and then in those of the chain of its new parent
  pub used_after : (parent : Option (List ℕ)) → IsFree (tree_of es) n parent → (a : List ℕ) (r : Resource)
      → used_in (with_parent n parent es) a r ≡ rest_of a r + cond (is_in a (chain_from (tree_of es) parent)) (used_in es n r) 0
  used_after parent free a r =
      let f = tree_of es in
      let h = forest_with_parent n parent f in
      ap (λ t. usage t (with_parent n parent es) a r) (tree_moved n parent es) ∙ usage_kept h n parent es a r
      ∙ usage_then f n there parent free es a r
      ∙ ap (λ k. rest_of a r + cond (is_in a (chain_from f parent)) k 0) (sym (used_itself r))

-- all parents are there
pub closed_moved : (es : Entries) (n : List ℕ) (parent : Option (List ℕ)) → is_there (tree_of es) n ≡ true → IfSome parent (λ p. is_there (tree_of es) p ≡ true) → AreClosed es → AreClosed (with_parent n parent es)
closed_moved es n parent there given closed m q is = ap (λ t. is_there t q) (tree_moved n parent es) ∙ moved_there f n parent q ∙ at (bytes_eq n m) refl
  where
    f : Forest
    f = tree_of es

    now : parent_of (forest_with_parent n parent f) m ≡ Some q
    now = sym (ap (λ t. parent_of t m) (tree_moved n parent es)) ∙ is

    of_parent : (o : Option (List ℕ)) → IfSome o (λ p. is_there f p ≡ true) → o ≡ Some q → is_there f q ≡ true
    of_parent None h e = absurd (none-some q e)
    of_parent (Some p) h e = subst (λ (x : List ℕ). is_there f x ≡ true) (same_Some p q e) h

    at : (b : Bool) → bytes_eq n m ≡ b → is_there f q ≡ true
    at true same = of_parent parent given (sym (moved_parent f n parent there) ∙ subst (λ (k : List ℕ). parent_of (forest_with_parent n parent f) k ≡ Some q) (sym (is_same n m same)) now)
    at false out = closed m q (sym (other_parent f n parent m out) ∙ now)
