-- Counters of a tree and its objects, where a namespace comes.
--     added      they may be changed so, and then count the tree with it
use Rattle.std.proofs.Common.{◌≡◌, ℕ, Bool, true, false, cond, ◌&&◌, ◌||◌, Option, Some, None, option_map, List, [], ◌∷◌, refl, sym, ap, ◌∙◌, subst, true≢false}
use Rattle.std.specs.Prelude.{is_some, option_and_then}
use Rattle.std.specs.List.{IsDistinct}
use Rattle.std.specs.Option.{option_map_or}
use Rattle.std.specs.Str.{bytes_eq}
use Rattle.std.proofs.lemmas.Bool.{false_from_ne_true}
use Rattle.std.proofs.lemmas.Map.Keys.{IsDistinct-tail}
use Rattle.hx_forest.specs.declared.change.Change.TheVariants as tree
use Rattle.hx_forest.proofs.NodeLookups.{node_of-with_node}
use Rattle.hx_forest.proofs.Named.{lookup-with_value}
use Rattle.hx_model.specs.First.{so}
use Rattle.hx_model.specs.Forest.{Forest, is_in, node_of, is_there, parent_of, is_child, children_of}
use Rattle.hx_model.specs.ForestChanges.{with_node}
use Rattle.hx_model.specs.State.{Objects}
use Rattle.hx_model.specs.declared.node.Node.{Node}
use Rattle.hx_model.specs.declared.resource.Resource.{Resource}
use Rattle.hx_model.proofs.Climbing.{is_same, same_itself}
use Rattle.hx_model.proofs.Parents.{swap_same}
use Rattle.hx_quota.specs.declared.change.CounterChange.{CounterChange}
use Rattle.hx_quota.specs.declared.change.CounterChange.TheVariants.{Move}
use Rattle.hx_quota.specs.Counters.{Entry}
use Rattle.hx_quota.specs.Counters.{Entries, entry_of, node_for, own_of, with_entry, new_entry, with_parent}
use Rattle.hx_quota.specs.Counting.{Counts, if_there, parent_there, own_charge, changed, changed_all, MayChange, MayChangeAll, under_parent, taken_in, changes_of_tree}
use Rattle.hx_quota.proofs.CountingMoves.{changed_both, may_both, steps, HasTree, counted, has_moved, has_alike, child_parent, child_there, among_children, not_among}
use Rattle.hx_quota.proofs.Fitting.{has_nothing}
use Rattle.hx_quota.proofs.Trees.{node_of-tree}

none_of : {A : Type 0} (o : Option A) → is_some o ≡ false → o ≡ None
none_of None h = refl
none_of (Some x) h = absurd (true≢false h)

never : (b : Bool) → (b && false) ≡ false
never true = refl
never false = refl

module _ (f : Forest) (n : List ℕ) (node : Node) (new : is_there f n ≡ false) where
  abbrev grown : Forest
  grown = with_node n node f

  -- ---- the tree with the namespace

  node_here : node_of grown n ≡ Some node
  node_here = node_of-with_node n node f n ∙ ap (λ b. cond b (Some node) (node_of f n)) (same_itself n)

  node_other : (m : List ℕ) → bytes_eq n m ≡ false → node_of grown m ≡ node_of f m
  node_other m out = node_of-with_node n node f m ∙ ap (λ b. cond b (Some node) (node_of f m)) (swap_same n m out)

  there_here : is_there grown n ≡ true
  there_here = ap is_some node_here

  parent_here : parent_of grown n ≡ node.parent
  parent_here = ap (λ (o : Option Node). option_and_then (λ node. node.parent) o) node_here

  parent_other : (m : List ℕ) → bytes_eq n m ≡ false → parent_of grown m ≡ parent_of f m
  parent_other m out = ap (λ (o : Option Node). option_and_then (λ node. node.parent) o) (node_other m out)

  apart : (m : List ℕ) → is_there f m ≡ true → bytes_eq n m ≡ false
  apart m there = false_from_ne_true (bytes_eq n m) (λ h. true≢false (sym (subst (λ (k : List ℕ). is_there f k ≡ true) (sym (is_same n m h)) there) ∙ new))

  still : (m : List ℕ) → is_there f m ≡ true → is_there grown m ≡ true
  still m there = ap is_some (node_other m (apart m there)) ∙ there

  not_own_child : is_child f n n ≡ false
  not_own_child = false_from_ne_true (is_child f n n) (λ h. true≢false (sym (child_there f n n h) ∙ new))

  -- the parents before those that named it come under it
  abbrev waiting : List (List ℕ) → List ℕ → Option (List ℕ)
  waiting left m = cond (is_in m left) None (parent_there grown m)

  waiting_other : (m : List ℕ) → bytes_eq n m ≡ false → waiting (children_of f n) m ≡ parent_there f m
  waiting_other m out = ap (λ b. cond b None (parent_there grown m)) (among_children f n m)
      ∙ ap (λ (o : Option (List ℕ)). cond (is_child f n m) None (option_and_then (if_there grown) o)) (parent_other m out) ∙ at (parent_of f m)
    where
      at : (o : Option (List ℕ)) → cond (option_map_or (bytes_eq n) o false) None (option_and_then (if_there grown) o) ≡ option_and_then (if_there f) o
      at None = refl
      at (Some q) = by (bytes_eq n q) refl
        where
          by : (b : Bool) → bytes_eq n q ≡ b → cond b None (so (is_there grown q) q) ≡ so (is_there f q) q
          by true same = ap (λ b. so b q) (sym (subst (λ (k : List ℕ). is_there f k ≡ false) (is_same n q same) new))
          by false other = ap (λ b. so b q) (ap is_some (node_other q other))

  waiting_here : (left : List (List ℕ)) → is_in n left ≡ false → waiting left n ≡ option_and_then (if_there grown) node.parent
  waiting_here left out = ap (λ b. cond b None (parent_there grown n)) out ∙ ap (λ (o : Option (List ℕ)). option_and_then (if_there grown) o) parent_here

  -- ---- those that named it come under it

  module _ (objects : Objects) where
    record Waits (left : List (List ℕ)) (es : Entries) : Type 0 where
      has : HasTree objects (is_there grown) (waiting left) es
      children : (m : List ℕ) → is_in m left ≡ true → is_child f n m ≡ true
      distinct : IsDistinct bytes_eq left

    abbrev take_in : List ℕ → CounterChange
    take_in c = Move c (Some n)

    waits_less : (c : List ℕ) (cs : List (List ℕ)) (es : Entries) → Waits (c ∷ cs) es → MayChange (take_in c) es × Waits cs (changed (take_in c) es)
    waits_less c cs es waits = ((waits.has.there c ∙ there_c, waits.has.there n ∙ there_here), less)
      where
        is_one : is_child f n c ≡ true
        is_one = waits.children c (ap (λ b. b || is_in c cs) (same_itself c))

        there_c : is_there grown c ≡ true
        there_c = still c (child_there f n c is_one)

        comes : waiting cs c ≡ Some n
        comes = ap (λ b. cond b None (parent_there grown c)) (not_among c cs waits.distinct)
            ∙ ap (λ (o : Option (List ℕ)). option_and_then (if_there grown) o) (parent_other c (apart c (child_there f n c is_one)) ∙ child_parent f n c is_one)
            ∙ ap (λ b. so b n) there_here

        or_later : (a b : Bool) → b ≡ true → (a || b) ≡ true
        or_later true b h = refl
        or_later false b h = h

        less : Waits cs (with_parent c (Some n) es)
        less = record {
          has = has_moved objects (is_there grown) (waiting (c ∷ cs)) (waiting cs) es c (Some n) waits.has there_c comes (λ m out. ap (λ b. cond (b || is_in m cs) None (parent_there grown m)) (sym (swap_same c m out)));
          children = λ m h. waits.children m (or_later (bytes_eq m c) (is_in m cs) h);
          distinct = IsDistinct-tail bytes_eq c cs waits.distinct;
        }

    -- ---- it comes

    module _ (es : Entries) (counts : Counts objects f es) where
      absent : entry_of es n ≡ None
      absent = none_of (entry_of es n) (counts.there n ∙ new)

      abbrev first : Entries
      first = with_entry n new_entry es

      has_first : HasTree objects (is_there grown) (parent_there f) first
      has_first = record {
        there = λ m. ap is_some (lookup-with_value n new_entry es m) ∙ there (bytes_eq m n) m ∙ sym (ap is_some (node_of-with_node n node f m));
        parents = λ m. ap (λ (o : Option Node). option_and_then (λ node. node.parent) o) (node_of-tree first m ∙ ap (option_map node_for) (lookup-with_value n new_entry es m)) ∙ parent m (bytes_eq m n) refl;
        own = λ m r. ap (λ (o : Option Entry). option_map_or (own_of r) o 0) (lookup-with_value n new_entry es m) ∙ own m r (bytes_eq m n) refl;
      }
        where
          there : (b : Bool) (m : List ℕ) → is_some (cond b (Some new_entry) (entry_of es m)) ≡ is_some (cond b (Some node) (node_of f m))
          there true m = refl
          there false m = counts.there m

          parent : (m : List ℕ) (b : Bool) → bytes_eq m n ≡ b → option_and_then (λ node. node.parent) (option_map node_for (cond b (Some new_entry) (entry_of es m))) ≡ parent_there f m
          parent m true same = subst (λ (k : List ℕ). None ≡ parent_there f k) (sym (is_same m n same)) (sym (ap (λ (o : Option Node). option_and_then (if_there f) (option_and_then (λ node. node.parent) o)) (none_of (node_of f n) new)))
          parent m false out = ap (λ (o : Option Node). option_and_then (λ node. node.parent) o) (sym (node_of-tree es m)) ∙ counts.parents m

          own : (m : List ℕ) (r : Resource) (b : Bool) → bytes_eq m n ≡ b → option_map_or (own_of r) (cond b (Some new_entry) (entry_of es m)) 0 ≡ own_charge objects m r
          own m r true same = has_nothing r ∙ subst (λ (k : List ℕ). 0 ≡ own_charge objects k r) (sym (is_same m n same)) (sym (ap (λ (o : Option Entry). option_map_or (own_of r) o 0) absent) ∙ counts.own n r)
          own m r false out = counts.own m r

      -- what is left then to be done
      abbrev IsUnderParent : List CounterChange → Type 0
      IsUnderParent changes = MayChangeAll changes first × HasTree objects (is_there grown) (waiting (children_of f n)) (changed_all changes first)

      here_by : (o p : Option (List ℕ)) → node.parent ≡ o → option_and_then (if_there grown) o ≡ p → waiting (children_of f n) n ≡ p
      here_by o p is gives = waiting_here (children_of f n) (among_children f n n ∙ not_own_child) ∙ ap (λ (q : Option (List ℕ)). option_and_then (if_there grown) q) is ∙ gives

      -- it stays without a parent
      stays : waiting (children_of f n) n ≡ None → IsUnderParent []
      stays here = (tt, has_alike objects (is_there grown) (parent_there f) (waiting (children_of f n)) first has_first (λ m. at m (bytes_eq n m) refl))
        where
          nothing : parent_there f n ≡ None
          nothing = ap (λ (o : Option Node). option_and_then (if_there f) (option_and_then (λ node. node.parent) o)) (none_of (node_of f n) new)

          at : (m : List ℕ) (b : Bool) → bytes_eq n m ≡ b → waiting (children_of f n) m ≡ parent_there f m
          at m true same = subst (λ (k : List ℕ). waiting (children_of f n) k ≡ parent_there f k) (is_same n m same) (here ∙ sym nothing)
          at m false out = waiting_other m out

      -- it gets a parent
      gets : (p : List ℕ) → is_there grown p ≡ true → waiting (children_of f n) n ≡ Some p → IsUnderParent (Move n (Some p) ∷ [])
      gets p there here = (
        ((has_first.there n ∙ there_here, has_first.there p ∙ there), tt),
        has_moved objects (is_there grown) (parent_there f) (waiting (children_of f n)) first n (Some p) has_first there_here here waiting_other,
      )

      goes_under : (o : Option (List ℕ)) → node.parent ≡ o → IsUnderParent (under_parent f n o)
      goes_under None is = stays (here_by None None is refl)
      goes_under (Some p) is = at (is_there f p) (bytes_eq n p) refl refl
        where
          there_p : (b : Bool) → is_there grown p ≡ b → waiting (children_of f n) n ≡ so b p
          there_p b h = here_by (Some p) (so b p) is (ap (λ c. so c p) h)

          at : (b c : Bool) → is_there f p ≡ b → bytes_eq n p ≡ c → IsUnderParent (cond b (Move n (Some p) ∷ []) (cond c (Move n (Some n) ∷ []) []))
          at true c there e = gets p (still p there) (there_p true (still p there))
          at false true out same = gets n there_here (there_p true (subst (λ (k : List ℕ). is_there grown k ≡ true) (is_same n p same) there_here) ∙ ap Some (sym (is_same n p same)))
          at false false out other = stays (there_p false (ap is_some (node_other p other) ∙ out))

      pub added : IsDistinct bytes_eq (children_of f n) → MayChangeAll (changes_of_tree f (tree.Add n node)) es × Counts objects grown (changed_all (changes_of_tree f (tree.Add n node)) es)
      added distinct =
          let under = goes_under node.parent refl in
          let second : Entries = changed_all (under_parent f n node.parent) first in
          let waits : Waits (children_of f n) second = record { has = under.1; children = λ m h. sym (among_children f n m) ∙ h; distinct = distinct } in
          let taken = steps Waits take_in waits_less (children_of f n) second waits in (
            (absent, may_both (under_parent f n node.parent) (taken_in f n) first under.0 taken.0),
            counted objects grown _ (subst (λ (x : Entries). HasTree objects (is_there grown) (parent_there grown) x) (sym (changed_both (under_parent f n node.parent) (taken_in f n) first)) taken.1.has),
          )
