-- The forest with another parent for a namespace that is there.
--     moved_names, moved_length, moved_there       the same namespaces
--     moved_parent, other_parent                   what each names as its parent
--     moved_chain_same                             a chain without it stays as it was
--     moved_chain                                  the chain of the namespace itself
--     moved_in_chain, moved_chain_length           a chain that has it: so far up to it, and then from the new parent
--     moved_reaches_deeper                         whether its subtree is then too deep
-- The new parent is none, or one whose chain doesn't have the namespace.
use Rattle.std.specs.Prelude.{is_some, option_and_then, nat_lt}
use Rattle.std.proofs.Common.{◌≡◌, ℕ, zero, suc, ◌+◌, ◌≤◌, ◌⊎◌, Bool, true, false, cond, not, ◌&&◌, ◌||◌, Option, Some, None, option_map, List, [], ◌∷◌, ◌++◌, length, filter, refl, sym, ap, ◌∙◌, subst, inl, inr, arith, true≢false}
use Rattle.std.specs.List.{list_any}
use Rattle.std.specs.Option.{option_map_or}
use Rattle.std.specs.Str.{bytes_eq}
use Rattle.std.proofs.lemmas.Bool.{false_from_ne_true}
use Rattle.std.proofs.lemmas.List.{length-map}
use Rattle.std.proofs.lemmas.Option.{none-some, same_Some}
use Rattle.hx_model.specs.declared.node.Node.{Node}
use Rattle.hx_model.specs.Forest.{Forest, is_in, names_of, node_of, is_there, parent_of, chain_of, in_chain, depth_of, reaches_deeper, with_changed, with_parent}
use Rattle.hx_model.specs.Walks.{walk_to, length_from}
use Rattle.hx_model.proofs.Climbing.{Climbs, at_top, stopped, onward, chain-Climbs, one_end, kept, last_in_push, Above, itself, through, chain_above, above_chain, chain_trans, is_same, same_itself}
use Rattle.hx_model.proofs.Parents.{up_to, up_to_all, chain_alone, chain_parent, swap_same}
use Rattle.hx_model.proofs.Walking.{chain_from, walk_has_chain, walk_to_has}

-- ---- names and look-ups

-- a change keeps the names
pub changed_names : (n : List ℕ) (change : Node → Node) (f : Forest) → names_of (with_changed n change f) ≡ names_of f
changed_names n change [] = refl
changed_names n change (e ∷ f) = ap (λ ns. e.0 ∷ ns) (changed_names n change f)

-- the node of a name after a change
pub changed_node : (n : List ℕ) (change : Node → Node) (f : Forest) (m : List ℕ) → node_of (with_changed n change f) m ≡ cond (bytes_eq n m) (option_map change (node_of f m)) (node_of f m)
changed_node n change [] m = none (bytes_eq n m)
  where
    none : (b : Bool) → ◌≡◌ {A = Option Node} None (cond b None None)
    none true = refl
    none false = refl
changed_node n change (e ∷ f) m =
    elim (bytes_eq m e.0) as (λ b. bytes_eq m e.0 ≡ b → cond b (Some (cond (bytes_eq n e.0) (change e.1) e.1)) (node_of (with_changed n change f) m) ≡ cond (bytes_eq n m) (option_map change (cond b (Some e.1) (node_of f m))) (cond b (Some e.1) (node_of f m))) [
      | true ↦ λ is. ap (λ (k : List ℕ). Some (cond (bytes_eq n k) (change e.1) e.1)) (sym (is_same m e.0 is)) ∙ found (bytes_eq n m) e.1
      | false ↦ λ out. changed_node n change f m
    ] refl
  where
    found : (b : Bool) (node : Node) → Some (cond b (change node) node) ≡ cond b (option_map change (Some node)) (Some node)
    found true node = refl
    found false node = refl

-- a node with that parent
abbrev pub with_that : Option (List ℕ) → Node → Node
with_that parent node = record node { parent = parent }

-- the names stay
pub moved_names : (f : Forest) (n : List ℕ) (parent : Option (List ℕ)) → names_of (with_parent n parent f) ≡ names_of f
moved_names f n parent = changed_names n (with_that parent) f

-- as many as before
pub moved_length : (f : Forest) (n : List ℕ) (parent : Option (List ℕ)) → length (with_parent n parent f) ≡ length f
moved_length f n parent = length-map f _

-- the node of a name after a move
pub moved_node : (f : Forest) (n : List ℕ) (parent : Option (List ℕ)) (m : List ℕ) → node_of (with_parent n parent f) m ≡ cond (bytes_eq n m) (option_map (with_that parent) (node_of f m)) (node_of f m)
moved_node f n parent m = changed_node n (with_that parent) f m

-- the same names are there
pub moved_there : (f : Forest) (n : List ℕ) (parent : Option (List ℕ)) (m : List ℕ) → is_there (with_parent n parent f) m ≡ is_there f m
moved_there f n parent m = ap is_some (moved_node f n parent m) ∙ either (bytes_eq n m) (node_of f m)
  where
    either : (b : Bool) (o : Option Node) → is_some (cond b (option_map (with_that parent) o) o) ≡ is_some o
    either true None = refl
    either true (Some node) = refl
    either false o = refl

-- n names the new parent
pub moved_parent : (f : Forest) (n : List ℕ) (parent : Option (List ℕ)) → is_there f n ≡ true → parent_of (with_parent n parent f) n ≡ parent
moved_parent f n parent there =
    ap (λ o. option_and_then (λ (node : Node). node.parent) o) (moved_node f n parent n ∙ ap (λ b. cond b (option_map (with_that parent) (node_of f n)) (node_of f n)) (same_itself n))
    ∙ given (node_of f n) there
  where
    given : (o : Option Node) → is_some o ≡ true → option_and_then (λ node. node.parent) (option_map (with_that parent) o) ≡ parent
    given None e = absurd (true≢false (sym e))
    given (Some node) e = refl

-- another one names what it named
pub other_parent : (f : Forest) (n : List ℕ) (parent : Option (List ℕ)) (m : List ℕ) → bytes_eq n m ≡ false → parent_of (with_parent n parent f) m ≡ parent_of f m
other_parent f n parent m apart =
    ap (λ o. option_and_then (λ (node : Node). node.parent) o) (moved_node f n parent m ∙ ap (λ b. cond b (option_map (with_that parent) (node_of f m)) (node_of f m)) apart)

-- ---- chains without n

climbs_same : (f : Forest) (n : List ℕ) (parent : Option (List ℕ)) (built : List (List ℕ)) (next : Option (List ℕ)) (all : List (List ℕ)) → Climbs f built next all → is_in n all ≡ false → Climbs (with_parent n parent f) built next all
climbs_same f n parent built None all at_top out = at_top
climbs_same f n parent built (Some m) all (stopped stops) out = stopped (ap (λ b. b && not (is_in m built)) (moved_there f n parent m) ∙ stops)
climbs_same f n parent built (Some m) all (onward goes rest) out =
    onward (ap (λ b. b && not (is_in m built)) (moved_there f n parent m) ∙ goes)
    (subst (λ (next : Option (List ℕ)). Climbs (with_parent n parent f) (built ++ m ∷ []) next all) (sym (other_parent f n parent m apart)) (climbs_same f n parent (built ++ m ∷ []) (parent_of f m) all rest out))
  where
    member : is_in m all ≡ true
    member = kept f (built ++ m ∷ []) (parent_of f m) all rest m (last_in_push built m)

    apart : bytes_eq n m ≡ false
    apart = false_from_ne_true (bytes_eq n m) (λ h. true≢false (sym (subst (λ (k : List ℕ). is_in k all ≡ true) (sym (is_same n m h)) member) ∙ out))

-- a chain that doesn't have n stays as it was
pub moved_chain_same : (f : Forest) (n : List ℕ) (parent : Option (List ℕ)) (m : List ℕ) → in_chain f m n ≡ false → chain_of (with_parent n parent f) m ≡ chain_of f m
moved_chain_same f n parent m out = one_end (with_parent n parent f) [] (Some m) _ _ (chain-Climbs (with_parent n parent f) m) (climbs_same f n parent [] (Some m) (chain_of f m) (chain-Climbs f m) out)

-- ---- chains with n

-- n is so many steps above
pub data Steps (f : Forest) (n : List ℕ) : List ℕ → ℕ → Type 0 where
  arrived : {m : List ℕ} → m ≡ n → is_there f m ≡ true → Steps f n m 0
  step : {m q : List ℕ} {k : ℕ} → is_there f m ≡ true → bytes_eq m n ≡ false → parent_of f m ≡ Some q → Steps f n q k → Steps f n m (suc k)

abbrev StepsFrom : Forest → List ℕ → Option (List ℕ) → ℕ → Type 0
StepsFrom f n None k = ⊥
StepsFrom f n (Some m) k = Steps f n m k

step_from : (f : Forest) (n m : List ℕ) (next : Option (List ℕ)) (k : ℕ) → is_there f m ≡ true → bytes_eq m n ≡ false → parent_of f m ≡ next → StepsFrom f n next k → Steps f n m (suc k)
step_from f n m None k there apart is h = absurd h
step_from f n m (Some q) k there apart is h = step there apart is h

one_more : (f : Forest) (n m : List ℕ) (k : ℕ) (o : Option ℕ) → is_there f m ≡ true → bytes_eq m n ≡ false → ((i : ℕ) → o ≡ Some i → StepsFrom f n (parent_of f m) i) → option_map (λ i. suc i) o ≡ Some k → Steps f n m k
one_more f n m k None there apart on e = absurd (none-some k e)
one_more f n m k (Some i) there apart on e = subst (λ (j : ℕ). Steps f n m j) (same_Some (suc i) k e) (step_from f n m (parent_of f m) i there apart refl (on i refl))

-- what the walk counts is how far n is above
pub walk_to_Steps : (left : ℕ) (f : Forest) (n : List ℕ) (next : Option (List ℕ)) (k : ℕ) → walk_to left f next n ≡ Some k → StepsFrom f n next k
walk_to_Steps zero f n None k h = absurd (none-some k h)
walk_to_Steps zero f n (Some m) k h = absurd (none-some k h)
walk_to_Steps (suc left) f n None k h = absurd (none-some k h)
walk_to_Steps (suc left) f n (Some m) k h =
    elim (is_there f m) as (λ b. is_there f m ≡ b → cond b (cond (bytes_eq m n) (Some 0) (option_map (λ i. suc i) (walk_to left f (parent_of f m) n))) None ≡ Some k → Steps f n m k) [
      | true ↦ λ there. elim (bytes_eq m n) as (λ b. bytes_eq m n ≡ b → cond b (Some 0) (option_map (λ i. suc i) (walk_to left f (parent_of f m) n)) ≡ Some k → Steps f n m k) [
        | true ↦ λ is e. subst (λ (j : ℕ). Steps f n m j) (same_Some 0 k e) (arrived (is_same m n is) there)
        | false ↦ λ apart e. one_more f n m k (walk_to left f (parent_of f m) n) there apart (λ i gives. walk_to_Steps left f n (parent_of f m) i gives) e
      ] refl
      | false ↦ λ out e. absurd (none-some k e)
    ] refl h

not_apart : (m n : List ℕ) → m ≡ n → bytes_eq m n ≡ false → ⊥
not_apart m n is out = true≢false (sym (subst (λ (k : List ℕ). bytes_eq m k ≡ true) is (same_itself m)) ∙ out)

pub one_count : (f : Forest) (n m : List ℕ) (j k : ℕ) → Steps f n m j → Steps f n m k → j ≡ k
one_count f n m j k (arrived is _) (arrived _ _) = refl
one_count f n m j k (arrived is _) (step _ apart _ _) = absurd (not_apart m n is apart)
one_count f n m j k (step _ apart _ _) (arrived is _) = absurd (not_apart m n is apart)
one_count f n m j k (step {q = p} {k = i} _ _ low left) (step {q = q} {k = l} _ _ high right) =
    ap (λ c. suc c) (one_count f n p i l left (subst (λ (x : List ℕ). Steps f n x l) (same_Some q p (sym high ∙ low)) right))

pub steps_above : (f : Forest) (n m : List ℕ) (k : ℕ) → Steps f n m k → Above f m n
steps_above f n m k (arrived is there) = subst (λ (x : List ℕ). Above f m x) is (itself there)
steps_above f n m k (step {q = q} {k = i} there apart is rest) = through there is (steps_above f n q i rest)

moved_above : (f : Forest) (n : List ℕ) (parent : Option (List ℕ)) (m : List ℕ) (k : ℕ) → Steps f n m k → Above (with_parent n parent f) m n
moved_above f n parent m k (arrived is there) = subst (λ (x : List ℕ). Above (with_parent n parent f) m x) is (itself (moved_there f n parent m ∙ there))
moved_above f n parent m k (step {q = q} {k = i} there apart is rest) = through (moved_there f n parent m ∙ there) (other_parent f n parent m (swap_same m n apart) ∙ is) (moved_above f n parent q i rest)

-- the new parent's chain doesn't have n
abbrev pub IsApart : Forest → List ℕ → Option (List ℕ) → Type 0
IsApart f n parent = option_map_or (λ p. in_chain f p n) parent false ≡ false

abbrev OnTheWay : Forest → List ℕ → Option (List ℕ) → ℕ → List ℕ → Type 0
OnTheWay f n parent k a = ((j : ℕ) × (j ≤ k) × Steps f n a j) ⊎ (is_in a (chain_from f parent) ≡ true)

in_new_chain : (f : Forest) (n : List ℕ) (parent : Option (List ℕ)) (p a : List ℕ) → IsApart f n parent → parent ≡ Some p → Above (with_parent n parent f) p a → is_in a (chain_from f parent) ≡ true
in_new_chain f n parent p a apart is h =
    let out : in_chain f p n ≡ false = subst (λ (o : Option (List ℕ)). option_map_or (λ q. in_chain f q n) o false ≡ false) is apart in
    subst (λ (o : Option (List ℕ)). is_in a (chain_from f o) ≡ true) (sym is)
    (subst (λ (xs : List (List ℕ)). is_in a xs ≡ true) (moved_chain_same f n parent p out) (above_chain (with_parent n parent f) p a h))

-- who is above in the new forest is on the way to n, or in the chain of the new parent
on_the_way : (f : Forest) (n : List ℕ) (parent : Option (List ℕ)) (m a : List ℕ) (k : ℕ) → IsApart f n parent → Steps f n m k → Above (with_parent n parent f) m a → OnTheWay f n parent k a
on_the_way f n parent m a k apart (arrived is there) (itself _) = inl (0, omega arith, arrived is there)
on_the_way f n parent m a k apart (arrived is there) (through {p = p} _ on rest) =
    let new : parent_of (with_parent n parent f) m ≡ parent = subst (λ (x : List ℕ). parent_of (with_parent n parent f) x ≡ parent) (sym is) (moved_parent f n parent (subst (λ (x : List ℕ). is_there f x ≡ true) is there)) in
    inr (in_new_chain f n parent p a apart (sym new ∙ on) rest)
on_the_way f n parent m a k apart (step {k = i} there off is more) (itself _) = inl (suc i, omega arith, step there off is more)
on_the_way f n parent m a k apart (step {q = q} {k = i} there off is more) (through {p = p} _ on rest) =
    let same : p ≡ q = same_Some p q (sym on ∙ other_parent f n parent m (swap_same m n off) ∙ is) in
    elim (on_the_way f n parent q a i apart more (subst (λ (x : List ℕ). Above (with_parent n parent f) x a) same rest)) [
      | inl near ↦ inl (near.0, omega (arith, near.1), near.2)
      | inr far ↦ inr far
    ]

far_apart : (f : Forest) (n : List ℕ) (parent : Option (List ℕ)) (m : List ℕ) → IsApart f n parent → in_chain f m n ≡ true → is_in m (chain_from f parent) ≡ true → ⊥
far_apart f n None m apart has mem = true≢false (sym mem)
far_apart f n (Some p) m apart has mem = true≢false (sym (chain_trans f p m n mem has) ∙ apart)

-- the chain of a namespace before n doesn't come back to it
pub no_return : (f : Forest) (n : List ℕ) (parent : Option (List ℕ)) (m q : List ℕ) (i : ℕ) → IsApart f n parent → Steps f n m (suc i) → Steps f n q i → in_chain (with_parent n parent f) q m ≡ false
no_return f n parent m q i apart long short = false_from_ne_true (in_chain (with_parent n parent f) q m) (λ h.
    elim (on_the_way f n parent q m i apart short (chain_above (with_parent n parent f) q m h)) [
      | inl near ↦ omega (arith, near.1, one_count f n m (suc i) near.0 long near.2)
      | inr far ↦ far_apart f n parent m apart (above_chain f m n (steps_above f n m (suc i) long)) far
    ])

-- the chain of n itself is n and the chain of its new parent
pub moved_chain : (f : Forest) (n : List ℕ) (parent : Option (List ℕ)) → IsApart f n parent → is_there f n ≡ true → chain_of (with_parent n parent f) n ≡ n ∷ chain_from f parent
moved_chain f n None apart there = chain_alone (with_parent n None f) n (moved_there f n None n ∙ there) (moved_parent f n None there)
moved_chain f n (Some p) apart there =
    chain_parent (with_parent n (Some p) f) n p (moved_there f n (Some p) n ∙ there) (moved_parent f n (Some p) there)
    ∙ ap (λ xs. n ∷ up_to n xs) (moved_chain_same f n (Some p) p apart)
    ∙ ap (λ xs. n ∷ xs) (up_to_all n (chain_of f p) apart)

length_of_from : (f : Forest) (parent : Option (List ℕ)) → length (chain_from f parent) ≡ length_from f parent
length_of_from f None = refl
length_of_from f (Some p) = refl

moved_steps_length : (f : Forest) (n : List ℕ) (parent : Option (List ℕ)) (m : List ℕ) (k : ℕ) → IsApart f n parent → Steps f n m k → length (chain_of (with_parent n parent f) m) ≡ k + 1 + length_from f parent
moved_steps_length f n parent m k apart (arrived is there) =
    let at = moved_chain f n parent apart (subst (λ (x : List ℕ). is_there f x ≡ true) is there) in
    let long : length (chain_of (with_parent n parent f) m) ≡ suc (length (chain_from f parent)) = ap (λ (x : List ℕ). length (chain_of (with_parent n parent f) x)) is ∙ ap length at in
    omega (arith, long, length_of_from f parent)
moved_steps_length f n parent m k apart (step {q = q} {k = i} there off is more) =
    let out : in_chain (with_parent n parent f) q m ≡ false = no_return f n parent m q i apart (step there off is more) more in
    let whole : chain_of (with_parent n parent f) m ≡ m ∷ chain_of (with_parent n parent f) q =
    chain_parent (with_parent n parent f) m q (moved_there f n parent m ∙ there) (other_parent f n parent m (swap_same m n off) ∙ is)
    ∙ ap (λ xs. m ∷ xs) (up_to_all m (chain_of (with_parent n parent f) q) out) in
    let long : length (chain_of (with_parent n parent f) m) ≡ suc (length (chain_of (with_parent n parent f) q)) = ap length whole in
    omega (arith, long, moved_steps_length f n parent q i apart more)

-- n is still above who was below it
pub moved_in_chain : (f : Forest) (n : List ℕ) (parent : Option (List ℕ)) (m : List ℕ) (k : ℕ) → walk_to (length f) f (Some m) n ≡ Some k → in_chain (with_parent n parent f) m n ≡ true
moved_in_chain f n parent m k h = above_chain (with_parent n parent f) m n (moved_above f n parent m k (walk_to_Steps (length f) f n (Some m) k h))

-- as far as n is, and n itself, and then the chain of the new parent
pub moved_chain_length : (f : Forest) (n : List ℕ) (parent : Option (List ℕ)) (m : List ℕ) (k : ℕ) → IsApart f n parent → walk_to (length f) f (Some m) n ≡ Some k → length (chain_of (with_parent n parent f) m) ≡ k + 1 + length_from f parent
moved_chain_length f n parent m k apart h = moved_steps_length f n parent m k apart (walk_to_Steps (length f) f n (Some m) k h)

-- a walk that doesn't come to n tells that it isn't in the chain
pub walk_to_none : (f : Forest) (n m : List ℕ) → walk_to (length f) f (Some m) n ≡ None → in_chain f m n ≡ false
walk_to_none f n m h = sym (walk_to_has (length f) f (Some m) n ∙ walk_has_chain f m n) ∙ ap is_some h

-- a chain that didn't have n doesn't have it then
pub moved_not_in_chain : (f : Forest) (n : List ℕ) (parent : Option (List ℕ)) (m : List ℕ) → walk_to (length f) f (Some m) n ≡ None → in_chain (with_parent n parent f) m n ≡ false
moved_not_in_chain f n parent m h = let out = walk_to_none f n m h in ap (is_in n) (moved_chain_same f n parent m out) ∙ out

-- ---- depths

any_filter : (t u : List ℕ → Bool) (xs : List (List ℕ)) → list_any t (filter u xs) ≡ list_any (λ x. u x && t x) xs
any_filter t u [] = refl
any_filter t u (x ∷ xs) = elim (u x) as (λ b. list_any t (cond b (x ∷ filter u xs) (filter u xs)) ≡ ((b && t x) || list_any (λ y. u y && t y) xs)) [
  | true ↦ ap (λ b. t x || b) (any_filter t u xs)
  | false ↦ any_filter t u xs
]

any_same : (t u : List ℕ → Bool) → ((x : List ℕ) → t x ≡ u x) → (xs : List (List ℕ)) → list_any t xs ≡ list_any u xs
any_same t u same [] = refl
any_same t u same (x ∷ xs) = ap (λ b. b || list_any t xs) (same x) ∙ ap (λ b. u x || b) (any_same t u same xs)

-- the subtree of n is too deep after the move exactly if one below it is too far from it
pub moved_reaches_deeper : (most : ℕ) (f : Forest) (n : List ℕ) (parent : Option (List ℕ)) → IsApart f n parent
    → reaches_deeper most (with_parent n parent f) n ≡ list_any (λ m. option_map_or (λ k. nat_lt most (k + length_from f parent)) (walk_to (length f) f (Some m) n) false) (names_of f)
moved_reaches_deeper most f n parent apart =
    any_filter (λ m. nat_lt most (depth_of (with_parent n parent f) m)) (λ m. in_chain (with_parent n parent f) m n) (names_of (with_parent n parent f))
    ∙ ap (list_any (λ m. in_chain (with_parent n parent f) m n && nat_lt most (depth_of (with_parent n parent f) m))) (moved_names f n parent)
    ∙ any_same (λ m. in_chain (with_parent n parent f) m n && nat_lt most (depth_of (with_parent n parent f) m)) (λ m. option_map_or (λ k. nat_lt most (k + length_from f parent)) (walk_to (length f) f (Some m) n) false) (λ m. at m (walk_to (length f) f (Some m) n) refl) (names_of f)
  where
    at : (m : List ℕ) (o : Option ℕ) → walk_to (length f) f (Some m) n ≡ o
        → (in_chain (with_parent n parent f) m n && nat_lt most (depth_of (with_parent n parent f) m)) ≡ option_map_or (λ k. nat_lt most (k + length_from f parent)) o false
    at m None h = ap (λ b. b && nat_lt most (depth_of (with_parent n parent f) m)) (moved_not_in_chain f n parent m h)
    at m (Some k) h =
        let deep : depth_of (with_parent n parent f) m ≡ k + length_from f parent = omega (arith, moved_chain_length f n parent m k apart h) in
        ap (λ b. b && nat_lt most (depth_of (with_parent n parent f) m)) (moved_in_chain f n parent m k h) ∙ ap (nat_lt most) deep
