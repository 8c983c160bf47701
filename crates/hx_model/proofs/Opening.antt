-- Who takes part in a tree once a namespace has another parent.
--     chain_first, halts_by_members       a chain begins with its namespace, which isn't halted where none of its members is by itself
--     moved_chain_below                   the whole chain of one below it
--     moved_open_below                    whether one below it takes part
--     moved_open_same                     one that isn't below it takes part as before
-- The new parent is none, or one whose chain doesn't have the namespace.
use Rattle.std.specs.Prelude.{is_some, is_none}
use Rattle.std.proofs.Common.{◌≡◌, ℕ, Bool, true, false, cond, not, ◌&&◌, ◌||◌, Option, Some, None, option_map, List, [], ◌∷◌, ◌++◌, length, refl, sym, ap, ◌∙◌, subst, inl, inr, true≢false}
use Rattle.std.specs.List.{list_any, list_all}
use Rattle.std.specs.Option.{option_map_or}
use Rattle.std.specs.Str.{bytes_eq}
use Rattle.std.proofs.lemmas.Bool.{cases_Bool, or_left, or_right, false_from_ne_true}
use Rattle.std.proofs.lemmas.List.Folds.{list_any-append, list_all-append}
use Rattle.hx_model.specs.declared.node.Node.{Node}
use Rattle.hx_model.specs.declared.node.Halt.{Halt}
use Rattle.hx_model.specs.declared.node.Halt.TheVariants.{InCycle, ParentMissing, IllegalParent, Ancestor}
use Rattle.hx_model.specs.First.{so, first}
use Rattle.hx_model.specs.Forest.{Forest, is_in, node_of, is_there, is_live, is_excluded, parent_of, chain_of, in_chain, own_halt_of, halt_of, has_halted_ancestor, tail_of, with_parent}
use Rattle.hx_model.specs.Moves.{is_eligible, is_open_above, moved_chain_of, is_moved_open}
use Rattle.hx_model.specs.TreeLabels.{is_open}
use Rattle.hx_model.specs.Walks.{walk_to}
use Rattle.hx_model.proofs.Climbing.{through, chain_above, above_chain, chain_trans, is_same, same_itself}
use Rattle.hx_model.proofs.Moving.{with_that, moved_node, moved_there, moved_parent, other_parent, moved_chain_same, moved_chain, Steps, arrived, step, IsApart, walk_to_Steps, walk_to_none, no_return}
use Rattle.hx_model.proofs.Parents.{up_to, up_to_all, chain_alone, chain_parent, swap_same, out_head, out_tail}
use Rattle.hx_model.proofs.Walking.{chain_from, chain_there}

-- ---- chains

-- a chain begins with its namespace
pub chain_first : (f : Forest) (n : List ℕ) → is_there f n ≡ true → chain_of f n ≡ n ∷ tail_of (chain_of f n)
chain_first f n there = by (parent_of f n) refl
  where
    from : (xs : List (List ℕ)) → chain_of f n ≡ n ∷ xs → chain_of f n ≡ n ∷ tail_of (chain_of f n)
    from xs e = e ∙ ap (λ ys. n ∷ tail_of ys) (sym e)

    by : (next : Option (List ℕ)) → parent_of f n ≡ next → chain_of f n ≡ n ∷ tail_of (chain_of f n)
    by None is = from [] (chain_alone f n there is)
    by (Some p) is = from (up_to n (chain_of f p)) (chain_parent f n p there is)

-- n is so many steps above who has it in its chain
pub steps_of : (f : Forest) (n m : List ℕ) → in_chain f m n ≡ true → (k : ℕ) × Steps f n m k
steps_of f n m h = found (walk_to (length f) f (Some m) n) refl
  where
    found : (o : Option ℕ) → walk_to (length f) f (Some m) n ≡ o → (k : ℕ) × Steps f n m k
    found None e = absurd (true≢false (sym h ∙ walk_to_none f n m e))
    found (Some k) e = (k, walk_to_Steps (length f) f n (Some m) k e)

-- nothing comes before n in its own chain
up_none : (f : Forest) (n : List ℕ) → is_there f n ≡ true → up_to n (chain_of f n) ≡ []
up_none f n there = ap (up_to n) (chain_first f n there) ∙ ap (λ b. cond b [] (n ∷ up_to n (tail_of (chain_of f n)))) (same_itself n)

-- a cut at m that isn't met before n changes nothing up to n
up_twice : (m n : List ℕ) (xs : List (List ℕ)) → is_in m (up_to n xs) ≡ false → up_to n (up_to m xs) ≡ up_to n xs
up_twice m n [] out = refl
up_twice m n (x ∷ xs) out =
    elim (bytes_eq n x) as (λ b. bytes_eq n x ≡ b → is_in m (cond b [] (x ∷ up_to n xs)) ≡ false → up_to n (cond (bytes_eq m x) [] (x ∷ up_to m xs)) ≡ cond b [] (x ∷ up_to n xs)) [
      | true ↦ λ is none. elim (bytes_eq m x) as (λ b. up_to n (cond b [] (x ∷ up_to m xs)) ≡ []) [
        | true ↦ refl
        | false ↦ ap (λ b. cond b [] (x ∷ up_to n (up_to m xs))) is
      ]
      | false ↦ λ apart none.
          ap (λ b. up_to n (cond b [] (x ∷ up_to m xs))) (out_head (bytes_eq m x) (is_in m (up_to n xs)) none)
          ∙ ap (λ b. cond b [] (x ∷ up_to n (up_to m xs))) apart
          ∙ ap (λ ys. x ∷ ys) (up_twice m n xs (out_tail (bytes_eq m x) (is_in m (up_to n xs)) none))
    ] refl out

-- the way up to n from one step further below
up_step : (f : Forest) (n m q : List ℕ) → is_there f m ≡ true → bytes_eq m n ≡ false → parent_of f m ≡ Some q → is_in m (up_to n (chain_of f q)) ≡ false → up_to n (chain_of f m) ≡ m ∷ up_to n (chain_of f q)
up_step f n m q there off is out =
    ap (up_to n) (chain_parent f m q there is)
    ∙ ap (λ b. cond b [] (m ∷ up_to n (up_to m (chain_of f q)))) (swap_same m n off)
    ∙ ap (λ ys. m ∷ ys) (up_twice m n (chain_of f q) out)

module _ (f : Forest) (n : List ℕ) (parent : Option (List ℕ)) (apart : IsApart f n parent) where
  -- the chain of a namespace before n, which doesn't come back to it
  on : (m q : List ℕ) (i : ℕ) → is_there f m ≡ true → bytes_eq m n ≡ false → parent_of f m ≡ Some q → Steps f n q i → chain_of (with_parent n parent f) m ≡ m ∷ chain_of (with_parent n parent f) q
  on m q i there off is more =
      chain_parent (with_parent n parent f) m q (moved_there f n parent m ∙ there) (other_parent f n parent m (swap_same m n off) ∙ is)
      ∙ ap (λ xs. m ∷ xs) (up_to_all m (chain_of (with_parent n parent f) q) (no_return f n parent m q i apart (step there off is more) more))

  not_met : (m q : List ℕ) (i : ℕ) → is_there f m ≡ true → bytes_eq m n ≡ false → parent_of f m ≡ Some q → Steps f n q i → chain_of (with_parent n parent f) q ≡ moved_chain_of f n parent q → is_in m (up_to n (chain_of f q)) ≡ false
  not_met m q i there off is more rest =
      out_head (is_in m (up_to n (chain_of f q))) (is_in m (n ∷ chain_from f parent))
      (sym (list_any-append (bytes_eq m) (up_to n (chain_of f q)) (n ∷ chain_from f parent)) ∙ sym (ap (is_in m) rest) ∙ no_return f n parent m q i apart (step there off is more) more)

  pub moved_chain_steps : (m : List ℕ) (k : ℕ) → Steps f n m k → chain_of (with_parent n parent f) m ≡ moved_chain_of f n parent m
  moved_chain_steps m k (arrived is there) =
      let here : is_there f n ≡ true = subst (λ (x : List ℕ). is_there f x ≡ true) is there in
      subst (λ (x : List ℕ). chain_of (with_parent n parent f) x ≡ moved_chain_of f n parent x) (sym is)
      (moved_chain f n parent apart here ∙ sym (ap (λ xs. xs ++ n ∷ chain_from f parent) (up_none f n here)))
  moved_chain_steps m k (step {q = q} {k = i} there off is more) =
      let rest = moved_chain_steps q i more in
      on m q i there off is more ∙ ap (λ xs. m ∷ xs) rest
      ∙ sym (ap (λ xs. xs ++ n ∷ chain_from f parent) (up_step f n m q there off is (not_met m q i there off is more rest)))

  -- up to n as before, and then the chain of the new parent
  pub moved_chain_below : (m : List ℕ) → in_chain f m n ≡ true → chain_of (with_parent n parent f) m ≡ moved_chain_of f n parent m
  moved_chain_below m has = let steps = steps_of f n m has in moved_chain_steps m steps.0 steps.1

-- ---- reasons

-- it has no reason by itself
abbrev is_good : Forest → List ℕ → Bool
is_good f a = is_none (own_halt_of f a)

-- it has none, by the three tests
abbrev has_none : Bool → Bool → Bool → Bool
has_none comes dead shut = is_none (first (so comes InCycle ∷ so dead ParentMissing ∷ so shut IllegalParent ∷ []))

by_parent : (f : Forest) (a : List ℕ) (next : Option (List ℕ)) → parent_of f a ≡ next
    → is_good f a ≡ has_none (option_map_or (λ p. in_chain f p a) next false) (option_map_or (λ p. not (is_live f p)) next false) (option_map_or (λ p. is_excluded f p) next false)
by_parent f a next is = ap (λ (o : Option (List ℕ)). has_none (option_map_or (λ p. in_chain f p a) o false) (option_map_or (λ p. not (is_live f p)) o false) (option_map_or (λ p. is_excluded f p) o false)) is

eligible_parent : (comes live shut : Bool) → comes ≡ false → has_none comes (not live) shut ≡ (live && not shut)
eligible_parent true live shut e = absurd (true≢false e)
eligible_parent false true true e = refl
eligible_parent false true false e = refl
eligible_parent false false shut e = refl

-- under a parent that doesn't come back to it, it has none exactly if the parent is eligible
good_under : (f : Forest) (a p : List ℕ) → parent_of f a ≡ Some p → in_chain f p a ≡ false → is_good f a ≡ is_eligible f p
good_under f a p is out = by_parent f a (Some p) is ∙ eligible_parent (in_chain f p a) (is_live f p) (is_excluded f p) out

-- a namespace isn't halted exactly if no member of its chain has a reason by itself
pub halts_by_members : (f : Forest) (m : List ℕ) → is_there f m ≡ true → is_none (halt_of f m) ≡ list_all (λ a. is_none (own_halt_of f a)) (chain_of f m)
halts_by_members f m there =
    both (own_halt_of f m) (has_halted_ancestor f m)
    ∙ ap (λ b. is_good f m && b) (none_of_all (tail_of (chain_of f m)))
    ∙ sym (ap (list_all (is_good f)) (chain_first f m there))
  where
    both : (o : Option Halt) (b : Bool) → is_none (first (o ∷ so b Ancestor ∷ [])) ≡ (is_none o && not b)
    both None true = refl
    both None false = refl
    both (Some halt) b = refl

    head : (o : Option Halt) (b c : Bool) → not b ≡ c → not (is_some o || b) ≡ (is_none o && c)
    head None b c e = e
    head (Some halt) b c e = refl

    none_of_all : (xs : List (List ℕ)) → not (list_any (λ a. is_some (own_halt_of f a)) xs) ≡ list_all (is_good f) xs
    none_of_all [] = refl
    none_of_all (x ∷ xs) = head (own_halt_of f x) (list_any (λ a. is_some (own_halt_of f a)) xs) (list_all (is_good f) xs) (none_of_all xs)

-- ---- nodes

pub not_live : (f : Forest) (m : List ℕ) → is_there f m ≡ false → is_live f m ≡ false
not_live f m out = absent (node_of f m) out
  where
    absent : (o : Option Node) → is_some o ≡ false → option_map_or (λ (node : Node). not node.terminating) o false ≡ false
    absent None e = refl
    absent (Some node) e = absurd (true≢false e)

pub moved_live : (f : Forest) (n : List ℕ) (parent : Option (List ℕ)) (a : List ℕ) → is_live (with_parent n parent f) a ≡ is_live f a
moved_live f n parent a = ap (λ o. option_map_or (λ (node : Node). not node.terminating) o false) (moved_node f n parent a) ∙ either (bytes_eq n a) (node_of f a)
  where
    either : (b : Bool) (o : Option Node) → option_map_or (λ (node : Node). not node.terminating) (cond b (option_map (with_that parent) o) o) false ≡ option_map_or (λ (node : Node). not node.terminating) o false
    either true None = refl
    either true (Some node) = refl
    either false o = refl

pub moved_excluded : (f : Forest) (n : List ℕ) (parent : Option (List ℕ)) (a : List ℕ) → is_excluded (with_parent n parent f) a ≡ is_excluded f a
moved_excluded f n parent a = ap (λ o. option_map_or (λ (node : Node). node.excluded) o false) (moved_node f n parent a) ∙ either (bytes_eq n a) (node_of f a)
  where
    either : (b : Bool) (o : Option Node) → option_map_or (λ (node : Node). node.excluded) (cond b (option_map (with_that parent) o) o) false ≡ option_map_or (λ (node : Node). node.excluded) o false
    either true None = refl
    either true (Some node) = refl
    either false o = refl

pub moved_eligible : (f : Forest) (n : List ℕ) (parent : Option (List ℕ)) (a : List ℕ) → is_eligible (with_parent n parent f) a ≡ is_eligible f a
moved_eligible f n parent a i = moved_live f n parent a i && not (moved_excluded f n parent a i)

-- ---- chains that don't have n

all_alike : (t u : List ℕ → Bool) (xs : List (List ℕ)) → ((a : List ℕ) → is_in a xs ≡ true → t a ≡ u a) → list_all t xs ≡ list_all u xs
all_alike t u [] same = refl
all_alike t u (x ∷ xs) same =
    ap (λ b. b && list_all t xs) (same x (or_left (bytes_eq x x) (is_in x xs) (same_itself x)))
    ∙ ap (λ b. u x && b) (all_alike t u xs (λ a mem. same a (or_right (bytes_eq a x) (is_in a xs) mem)))

module _ (f : Forest) (n : List ℕ) (parent : Option (List ℕ)) (m : List ℕ) (out : in_chain f m n ≡ false) where
  -- a member of such a chain has the reasons that it had
  good_same : (a : List ℕ) → is_in a (chain_of f m) ≡ true → is_good (with_parent n parent f) a ≡ is_good f a
  good_same a mem = by (parent_of f a) refl
    where
      off : bytes_eq n a ≡ false
      off = false_from_ne_true (bytes_eq n a) (λ h. true≢false (sym (subst (λ (x : List ℕ). is_in x (chain_of f m) ≡ true) (sym (is_same n a h)) mem) ∙ out))

      by : (next : Option (List ℕ)) → parent_of f a ≡ next → is_good (with_parent n parent f) a ≡ is_good f a
      by None is = by_parent (with_parent n parent f) a None (other_parent f n parent a off ∙ is) ∙ sym (by_parent f a None is)
      by (Some q) is =
          let above : in_chain f q n ≡ false = false_from_ne_true (in_chain f q n) (λ h. true≢false (sym (chain_trans f m a n mem (above_chain f a n (through ((chain_there f m).there a mem) is (chain_above f q n h)))) ∙ out)) in
          by_parent (with_parent n parent f) a (Some q) (other_parent f n parent a off ∙ is)
          ∙ (λ i. has_none (is_in a (moved_chain_same f n parent q above i)) (not (moved_live f n parent q i)) (moved_excluded f n parent q i))
          ∙ sym (by_parent f a (Some q) is)

  goods_same : list_all (is_good (with_parent n parent f)) (chain_of f m) ≡ list_all (is_good f) (chain_of f m)
  goods_same = all_alike (is_good (with_parent n parent f)) (is_good f) (chain_of f m) good_same

  -- such a namespace takes part as before
  pub moved_open_same : is_open (with_parent n parent f) m ≡ is_open f m
  moved_open_same = elim (cases_Bool (is_there f m)) [
    | inl there ↦
        let same : is_none (halt_of (with_parent n parent f) m) ≡ is_none (halt_of f m) =
        halts_by_members (with_parent n parent f) m (moved_there f n parent m ∙ there)
        ∙ ap (list_all (is_good (with_parent n parent f))) (moved_chain_same f n parent m out)
        ∙ goods_same ∙ sym (halts_by_members f m there) in
        (λ i. moved_live f n parent m i && (not (moved_excluded f n parent m i) && same i))
    | inr gone ↦
        ap (λ b. b && (not (is_excluded (with_parent n parent f) m) && is_none (halt_of (with_parent n parent f) m))) (moved_live f n parent m ∙ not_live f m gone)
        ∙ sym (ap (λ b. b && (not (is_excluded f m) && is_none (halt_of f m))) (not_live f m gone))
  ]

-- ---- chains that have n

and_assoc : (a b c : Bool) → ((a && b) && c) ≡ (a && (b && c))
and_assoc true b c = refl
and_assoc false b c = refl

and_true : (a : Bool) → (a && true) ≡ a
and_true true = refl
and_true false = refl

module _ (f : Forest) (n : List ℕ) (parent : Option (List ℕ)) (apart : IsApart f n parent) (there : is_there f n ≡ true) where
  -- from n on nobody is halted exactly if the new parent takes part
  top : (next : Option (List ℕ)) → parent ≡ next → IsApart f n next
      → (is_good (with_parent n parent f) n && list_all (is_good (with_parent n parent f)) (chain_from f next)) ≡ is_open_above f next
  top None is far = ap (λ b. b && true) (by_parent (with_parent n parent f) n None (moved_parent f n parent there ∙ is))
  top (Some p) is far =
      (λ i. (good_under (with_parent n parent f) n p (moved_parent f n parent there ∙ is) (ap (is_in n) (moved_chain_same f n parent p far) ∙ far) ∙ moved_eligible f n parent p) i && goods_same f n parent p far i)
      ∙ and_assoc (is_live f p) (not (is_excluded f p)) (list_all (is_good f) (chain_of f p))
      ∙ elim (cases_Bool (is_there f p)) [
        | inl here ↦ ap (λ b. is_live f p && (not (is_excluded f p) && b)) (sym (halts_by_members f p here))
        | inr gone ↦
            ap (λ b. b && (not (is_excluded f p) && list_all (is_good f) (chain_of f p))) (not_live f p gone)
            ∙ sym (ap (λ b. b && (not (is_excluded f p) && is_none (halt_of f p))) (not_live f p gone))
      ]

  -- on the way up to n each is without a reason exactly if the next one is eligible
  way : (m : List ℕ) (k : ℕ) → Steps f n m k
      → (is_eligible f m && list_all (is_good (with_parent n parent f)) (up_to n (chain_of f m))) ≡ (list_all (is_eligible f) (up_to n (chain_of f m)) && is_eligible f n)
  way m k (arrived is here) =
      subst (λ (x : List ℕ). (is_eligible f x && list_all (is_good (with_parent n parent f)) (up_to n (chain_of f x))) ≡ (list_all (is_eligible f) (up_to n (chain_of f x)) && is_eligible f n)) (sym is)
      (ap (λ xs. is_eligible f n && list_all (is_good (with_parent n parent f)) xs) (up_none f n there) ∙ and_true (is_eligible f n) ∙ sym (ap (λ xs. list_all (is_eligible f) xs && is_eligible f n) (up_none f n there)))
  way m k (step {q = q} {k = i} here off is more) =
      let back = no_return f n parent m q i apart (step here off is more) more in
      let path = up_step f n m q here off is (not_met f n parent apart m q i here off is more (moved_chain_steps f n parent apart q i more)) in
      ap (λ xs. is_eligible f m && list_all (is_good (with_parent n parent f)) xs) path
      ∙ ap (λ b. is_eligible f m && (b && list_all (is_good (with_parent n parent f)) (up_to n (chain_of f q))))
      (good_under (with_parent n parent f) m q (other_parent f n parent m (swap_same m n off) ∙ is) back ∙ moved_eligible f n parent q)
      ∙ ap (λ b. is_eligible f m && b) (way q i more)
      ∙ sym (and_assoc (is_eligible f m) (list_all (is_eligible f) (up_to n (chain_of f q))) (is_eligible f n))
      ∙ sym (ap (λ xs. list_all (is_eligible f) xs && is_eligible f n) path)

  -- all up to n are eligible, and the new parent takes part
  pub moved_open_below : (m : List ℕ) → in_chain f m n ≡ true → is_open (with_parent n parent f) m ≡ is_moved_open f n parent m
  moved_open_below m has =
      let steps = steps_of f n m has in
      let here : is_there f m ≡ true = member steps.1 in
      let halts : is_none (halt_of (with_parent n parent f) m) ≡ (list_all (is_good (with_parent n parent f)) (up_to n (chain_of f m)) && is_open_above f parent) =
      halts_by_members (with_parent n parent f) m (moved_there f n parent m ∙ here)
      ∙ ap (list_all (is_good (with_parent n parent f))) (moved_chain_steps f n parent apart m steps.0 steps.1)
      ∙ list_all-append (is_good (with_parent n parent f)) (up_to n (chain_of f m)) (n ∷ chain_from f parent)
      ∙ ap (λ b. list_all (is_good (with_parent n parent f)) (up_to n (chain_of f m)) && b) (top parent refl apart) in
      (λ i. moved_live f n parent m i && (not (moved_excluded f n parent m i) && halts i))
      ∙ sym (and_assoc (is_live f m) (not (is_excluded f m)) (list_all (is_good (with_parent n parent f)) (up_to n (chain_of f m)) && is_open_above f parent))
      ∙ sym (and_assoc (is_eligible f m) (list_all (is_good (with_parent n parent f)) (up_to n (chain_of f m))) (is_open_above f parent))
      ∙ ap (λ b. b && is_open_above f parent) (way m steps.0 steps.1)
      ∙ and_assoc (list_all (is_eligible f) (up_to n (chain_of f m))) (is_eligible f n) (is_open_above f parent)
    where
      member : {k : ℕ} → Steps f n m k → is_there f m ≡ true
      member (arrived is here) = here
      member (step here off is more) = here
