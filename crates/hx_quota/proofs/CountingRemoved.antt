-- Counters of a tree and its objects, where a namespace goes.
--     removed      they may be changed so, and then count the tree without it
use Rattle.std.proofs.Common.{◌≡◌, ℕ, Bool, true, false, cond, not, ◌&&◌, ◌||◌, Option, Some, None, option_map, List, [], ◌∷◌, filter, refl, sym, ap, ◌∙◌, subst, true≢false}
use Rattle.std.specs.Prelude.{is_some, option_and_then}
use Rattle.std.specs.List.{IsDistinct}
use Rattle.std.specs.Option.{option_map_or}
use Rattle.std.specs.Str.{bytes_eq}
use Rattle.std.proofs.lemmas.Bool.{and_parts}
use Rattle.std.proofs.lemmas.Map.Keys.{IsDistinct-tail}
use Rattle.std.proofs.lemmas.Option.{none-some, same_Some}
use Rattle.hx_forest.specs.declared.change.Change.TheVariants as tree
use Rattle.hx_forest.proofs.Named.{lookup-without_value, ascends, is_below_all, none_below, ascends-with_changed}
use Rattle.hx_model.specs.First.{so}
use Rattle.hx_model.specs.Forest.{Forest, is_in, names_of, node_of, is_there, parent_of, is_child, children_of, in_chain, subtree_of}
use Rattle.hx_model.specs.ForestChanges.{without_node}
use Rattle.hx_model.specs.State.{Objects}
use Rattle.hx_model.specs.declared.node.Node.{Node}
use Rattle.hx_model.specs.declared.resource.Resource.{Resource}
use Rattle.hx_model.proofs.Climbing.{Above, itself, through, chain_above, above_chain, is_same, same_itself}
use Rattle.hx_model.proofs.Parents.{swap_same}
use Rattle.hx_model.proofs.Walking.{both}
use Rattle.hx_quota.specs.declared.change.CounterChange.{CounterChange}
use Rattle.hx_quota.specs.declared.change.CounterChange.TheVariants.{Move, Remove}
use Rattle.hx_quota.specs.Counters.{Entry}
use Rattle.hx_quota.specs.Counters.{Entries, entry_of, node_for, tree_of, own_of, without_entry, with_parent}
use Rattle.hx_quota.specs.Counting.{Counts, if_there, parent_there, own_charge, changed, changed_all, MayChange, MayChangeAll, let_go, changes_of_tree}
use Rattle.hx_quota.proofs.CountingMoves.{changed_both, may_both, steps, HasTree, has_counted, counted, has_moved, has_alike, child_there, among_children, not_among}
use Rattle.hx_quota.proofs.Trees.{node_of-tree}
use Rattle.hx_quota.proofs.UsedSums.{in_tree}

-- ---- names alone

module _ (n : List ℕ) (t : List ℕ → Bool) (same : (m : List ℕ) → t m ≡ bytes_eq n m) where
  abbrev passing : Entries → List (List ℕ)
  passing es = filter t (names_of (tree_of es))

  passing_next : (y : List ℕ × Entry) (es : Entries) (b : Bool) → bytes_eq n y.0 ≡ b → passing (y ∷ es) ≡ cond b (y.0 ∷ passing es) (passing es)
  passing_next y es b is = ap (λ b. cond b (y.0 ∷ passing es) (passing es)) (same y.0 ∙ is)

  none_passes : (es : Entries) → entry_of es n ≡ None → passing es ≡ []
  none_passes [] none = refl
  none_passes (y ∷ es) none = at (bytes_eq n y.0) refl none (none_passes es)
    where
      at : (b : Bool) → bytes_eq n y.0 ≡ b → cond b (Some y.1) (entry_of es n) ≡ None → (entry_of es n ≡ None → passing es ≡ []) → passing (y ∷ es) ≡ []
      at true is h rest = absurd (true≢false (ap is_some h))
      at false out h rest = passing_next y es false out ∙ rest h

  one_passes : (es : Entries) → ascends es ≡ true → is_some (entry_of es n) ≡ true → passing es ≡ n ∷ []
  one_passes [] up there = absurd (true≢false (sym there))
  one_passes (y ∷ es) up there = at (bytes_eq n y.0) refl there (one_passes es parts.1)
    where
      parts : (is_below_all y.0 es ≡ true) × (ascends es ≡ true)
      parts = and_parts (is_below_all y.0 es) (ascends es) up

      at : (b : Bool) → bytes_eq n y.0 ≡ b → is_some (cond b (Some y.1) (entry_of es n)) ≡ true → (is_some (entry_of es n) ≡ true → passing es ≡ n ∷ []) → passing (y ∷ es) ≡ n ∷ []
      at true is h rest =
          let absent : entry_of es n ≡ None = subst (λ (k : List ℕ). entry_of es k ≡ None) (sym (is_same n y.0 is)) (none_below y.0 es parts.0) in
          passing_next y es true is ∙ (λ i. sym (is_same n y.0 is) i ∷ none_passes es absent i)
      at false out h rest = passing_next y es false out ∙ rest h

-- above a name that none has as its parent is nothing but itself
only_itself : (g : Forest) (m a : List ℕ) → ((k : List ℕ) → parent_of g k ≡ Some a → ⊥) → Above g m a → m ≡ a
only_itself g m a free (itself there) = refl
only_itself g m a free (through {p = q} there on rest) = absurd (free m (on ∙ ap Some (only_itself g q a free rest)))

-- so it is alone in its subtree
alone : (es : Entries) (n : List ℕ) → ascends es ≡ true → is_some (entry_of es n) ≡ true → ((k : List ℕ) → parent_of (tree_of es) k ≡ Some n → ⊥) → subtree_of (tree_of es) n ≡ n ∷ []
alone es n up there free = one_passes n (λ m. in_chain (tree_of es) m n) (λ m. both (in_chain (tree_of es) m n) (bytes_eq n m)
    (λ h. subst (λ (k : List ℕ). bytes_eq n k ≡ true) (sym (only_itself (tree_of es) m n free (chain_above (tree_of es) m n h))) (same_itself n))
    (λ h. subst (λ (k : List ℕ). in_chain (tree_of es) k n ≡ true) (is_same n m h) (above_chain (tree_of es) n n (itself (in_tree es n ∙ there))))) es up there

module _ (f : Forest) (n : List ℕ) where
  -- it names the namespace, and has been let go
  abbrev is_gone : List (List ℕ) → List ℕ → Bool
  is_gone left m = is_child f n m && not (is_in m left)

  -- the parents before those that are left are let go
  abbrev leaving : List (List ℕ) → List ℕ → Option (List ℕ)
  leaving left m = cond (is_gone left m) None (parent_there f m)

  -- ---- those that name it are let go

  module _ (objects : Objects) where
    record Leaves (left : List (List ℕ)) (es : Entries) : Type 0 where
      has : HasTree objects (is_there f) (leaving left) es
      children : (m : List ℕ) → is_in m left ≡ true → is_child f n m ≡ true
      distinct : IsDistinct bytes_eq left
      order : ascends es ≡ true

    abbrev let_one_go : List ℕ → CounterChange
    let_one_go c = Move c None

    leaves_less : (c : List ℕ) (cs : List (List ℕ)) (es : Entries) → Leaves (c ∷ cs) es → MayChange (let_one_go c) es × Leaves cs (changed (let_one_go c) es)
    leaves_less c cs es leaves = ((leaves.has.there c ∙ there_c, tt), less)
      where
        among : is_in c (c ∷ cs) ≡ true
        among = ap (λ b. b || is_in c cs) (same_itself c)

        is_one : is_child f n c ≡ true
        is_one = leaves.children c among

        there_c : is_there f c ≡ true
        there_c = child_there f n c is_one

        goes : leaving cs c ≡ None
        goes = λ i. cond (is_one i && not (not_among c cs leaves.distinct i)) None (parent_there f c)

        or_later : (a b : Bool) → b ≡ true → (a || b) ≡ true
        or_later true b h = refl
        or_later false b h = h

        less : Leaves cs (with_parent c None es)
        less = record {
          has = has_moved objects (is_there f) (leaving (c ∷ cs)) (leaving cs) es c None leaves.has there_c goes (λ m out. ap (λ b. cond (is_child f n m && not (b || is_in m cs)) None (parent_there f m)) (sym (swap_same c m out)));
          children = λ m h. leaves.children m (or_later (bytes_eq m c) (is_in m cs) h);
          distinct = IsDistinct-tail bytes_eq c cs leaves.distinct;
          order = ascends-with_changed c _ es ∙ leaves.order;
        }

    -- ---- it goes

    abbrev without : Forest
    without = without_node n f

    node_gone : node_of without n ≡ None
    node_gone = lookup-without_value n f n ∙ ap (λ b. cond b None (node_of f n)) (same_itself n)

    node_other : (m : List ℕ) → bytes_eq m n ≡ false → node_of without m ≡ node_of f m
    node_other m out = lookup-without_value n f m ∙ ap (λ b. cond b None (node_of f m)) out

    -- none names it
    free_then : (m : List ℕ) → leaving [] m ≡ Some n → ⊥
    free_then m = at (parent_of f m)
      where
        by : (q : List ℕ) (b c : Bool) → bytes_eq n q ≡ b → cond (b && true) None (so c q) ≡ Some n → ⊥
        by q true c same h = none-some n h
        by q false true out h = true≢false (sym (subst (λ (k : List ℕ). bytes_eq n k ≡ true) (sym (same_Some q n h)) (same_itself n)) ∙ out)
        by q false false out h = none-some n h

        at : (o : Option (List ℕ)) → cond (option_map_or (bytes_eq n) o false && true) None (option_and_then (if_there f) o) ≡ Some n → ⊥
        at None h = none-some n h
        at (Some q) h = by q (bytes_eq n q) (is_there f q) refl h

    parent_then : (m : List ℕ) → bytes_eq m n ≡ false → leaving [] m ≡ parent_there without m
    parent_then m out = at (parent_of f m) ∙ ap (λ (o : Option Node). option_and_then (if_there without) (option_and_then (λ node. node.parent) o)) (sym (node_other m out))
      where
        by : (q : List ℕ) (b : Bool) → bytes_eq n q ≡ b → cond (b && true) None (so (is_there f q) q) ≡ so (is_there without q) q
        by q true same = ap (λ b. so b q) (sym (subst (λ (k : List ℕ). is_there without k ≡ false) (is_same n q same) (ap is_some node_gone)))
        by q false other = ap (λ b. so b q) (ap is_some (sym (node_other q (swap_same n q other))))

        at : (o : Option (List ℕ)) → cond (option_map_or (bytes_eq n) o false && true) None (option_and_then (if_there f) o) ≡ option_and_then (if_there without) o
        at None = refl
        at (Some q) = by q (bytes_eq n q) refl

    module _ (nothing : (r : Resource) → own_charge objects n r ≡ 0) (es : Entries) (is : HasTree objects (is_there f) (leaving []) es) where
      has_last : HasTree objects (is_there without) (parent_there without) (without_entry n es)
      has_last = record {
        there = λ m. ap is_some (lookup-without_value n es m) ∙ there (bytes_eq m n) m ∙ sym (ap is_some (lookup-without_value n f m));
        parents = λ m. ap (λ (o : Option Node). option_and_then (λ node. node.parent) o) (node_of-tree (without_entry n es) m ∙ ap (option_map node_for) (lookup-without_value n es m)) ∙ parent m (bytes_eq m n) refl;
        own = λ m r. ap (λ (o : Option Entry). option_map_or (own_of r) o 0) (lookup-without_value n es m) ∙ own m r (bytes_eq m n) refl;
      }
        where
          there : (b : Bool) (m : List ℕ) → is_some (cond {A = Option Entry} b None (entry_of es m)) ≡ is_some (cond {A = Option Node} b None (node_of f m))
          there true m = refl
          there false m = is.there m

          parent : (m : List ℕ) (b : Bool) → bytes_eq m n ≡ b → option_and_then (λ node. node.parent) (option_map node_for (cond b None (entry_of es m))) ≡ parent_there without m
          parent m true same = subst (λ (k : List ℕ). None ≡ parent_there without k) (sym (is_same m n same)) (sym (ap (λ (o : Option Node). option_and_then (if_there without) (option_and_then (λ node. node.parent) o)) node_gone))
          parent m false out = ap (λ (o : Option Node). option_and_then (λ node. node.parent) o) (sym (node_of-tree es m)) ∙ is.parents m ∙ parent_then m out

          own : (m : List ℕ) (r : Resource) (b : Bool) → bytes_eq m n ≡ b → option_map_or (own_of r) (cond b None (entry_of es m)) 0 ≡ own_charge objects m r
          own m r true same = subst (λ (k : List ℕ). 0 ≡ own_charge objects k r) (sym (is_same m n same)) (sym (nothing r))
          own m r false out = is.own m r

    pub removed : (es : Entries) → is_there f n ≡ true → Counts objects f es → ascends es ≡ true → IsDistinct bytes_eq (children_of f n) → ((r : Resource) → own_charge objects n r ≡ 0)
        → MayChangeAll (changes_of_tree f (tree.Remove n)) es × Counts objects without (changed_all (changes_of_tree f (tree.Remove n)) es)
    removed es here counts up distinct nothing =
        let leaves : Leaves (children_of f n) es = record {
          has = has_alike objects (is_there f) (parent_there f) (leaving (children_of f n)) es (has_counted objects f es counts) all_left;
          children = λ m h. sym (among_children f n m) ∙ h;
          distinct = distinct;
          order = up;
        } in
        let gone = steps Leaves let_one_go leaves_less (children_of f n) es leaves in
        let last : Entries = changed_all (let_go f n) es in
        let there : is_some (entry_of last n) ≡ true = gone.1.has.there n ∙ here in
        let free = alone last n gone.1.order there (λ k on. free_then k (sym (gone.1.has.parents k) ∙ on)) in (
          may_both (let_go f n) (Remove n ∷ []) es gone.0 ((there, (λ r. gone.1.has.own n r ∙ nothing r), free), tt),
          counted objects without _ (subst (λ (x : Entries). HasTree objects (is_there without) (parent_there without) x) (sym (changed_both (let_go f n) (Remove n ∷ []) es)) (has_last nothing last gone.1.has)),
        )
      where
        all_left : (m : List ℕ) → leaving (children_of f n) m ≡ parent_there f m
        all_left m = ap (λ b. cond (is_child f n m && not b) None (parent_there f m)) (among_children f n m) ∙ at (is_child f n m)
          where
            at : (b : Bool) → cond (b && not b) None (parent_there f m) ≡ parent_there f m
            at true = refl
            at false = refl
