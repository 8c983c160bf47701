-- Counters of a tree and its objects, where the tree changes.
--     IsEmptied              nothing is charged in a namespace that goes
--     once_ascending         the names of a tree in order are distinct
--     added, moved, terminated, removed      the counters may be changed so, and then count the tree after the change
--     replanted              a namespace that gets the parent that it has leaves all as it was
--     counts_tree            the same of any change
--     fits_tree, ordered_tree         all still fits then, and the entries stay in order
use Rattle.std.proofs.Common.{◌≡◌, ℕ, Bool, true, false, cond, Option, Some, None, option_map, List, [], ◌∷◌, refl, sym, ap, ◌∙◌, subst, true≢false}
use Rattle.std.specs.Prelude.{is_some, option_and_then, IfSome}
use Rattle.std.specs.List.{AllByRecursion, IsDistinct}
use Rattle.std.specs.Str.{bytes_eq}
use Rattle.std.proofs.lemmas.Bool.{and_parts}
use Rattle.std.proofs.lemmas.Map.Keys.{IsDistinct-cons}
use Rattle.hx_forest.specs.Kept.{changed_by, MayChange as MayChangeTree}
use Rattle.hx_forest.specs.declared.change.Change.{Change as TreeChange}
use Rattle.hx_forest.specs.declared.change.Change.TheVariants as tree
use Rattle.hx_forest.proofs.Named.{is_below_all, ascends, none_below}
use Rattle.hx_model.specs.First.{so}
use Rattle.hx_model.specs.Forest.{Forest, names_of, node_of, is_there, parent_of, with_parent as forest_with_parent}
use Rattle.hx_model.specs.ForestChanges.{with_terminating}
use Rattle.hx_model.specs.State.{Objects}
use Rattle.hx_model.specs.declared.node.Node.{Node}
use Rattle.hx_model.specs.declared.resource.Resource.{Resource}
use Rattle.hx_model.proofs.Climbing.{is_same}
use Rattle.hx_model.proofs.Moving.{with_that, changed_node, moved_node, moved_there, moved_parent, other_parent}
use Rattle.hx_quota.specs.declared.change.CounterChange.{CounterChange}
use Rattle.hx_quota.specs.declared.change.CounterChange.TheVariants.{Move}
use Rattle.hx_quota.specs.Counters.{Entries, entry_of, with_parent, AllFit}
use Rattle.hx_quota.specs.Counting.{Counts, if_there, parent_there, own_charge, changed_all, MayChangeAll, changes_of_tree}
use Rattle.hx_quota.specs.SubtreeUsage.{AreOnce}
use Rattle.hx_quota.proofs.CountingMoves.{ascends_changed_all, fits_changed_all, HasTree, has_counted, has_moved}
pub use Rattle.hx_quota.proofs.CountingAdded.{added}
pub use Rattle.hx_quota.proofs.CountingRemoved.{removed}

-- ---- what is needed of a change

-- nothing is charged in a namespace that goes
abbrev pub IsEmptied : Objects → TreeChange → Type 0
IsEmptied objects (tree.Add name node) = Unit {0}
IsEmptied objects (tree.SetParent name parent) = Unit {0}
IsEmptied objects (tree.SetTerminating name) = Unit {0}
IsEmptied objects (tree.Remove name) = (r : Resource) → own_charge objects name r ≡ 0

others_apart : (n : List ℕ) (f : Forest) → node_of f n ≡ None → AllByRecursion (λ m. bytes_eq n m ≡ false) (names_of f)
others_apart n [] none = tt
others_apart n (e ∷ f) none = at (bytes_eq n e.0) refl none (others_apart n f)
  where
    at : (b : Bool) → bytes_eq n e.0 ≡ b → cond b (Some e.1) (node_of f n) ≡ None → (node_of f n ≡ None → AllByRecursion (λ m. bytes_eq n m ≡ false) (names_of f))
        → AllByRecursion (λ m. bytes_eq n m ≡ false) (names_of (e ∷ f))
    at true same h rest = absurd (true≢false (ap is_some h))
    at false out h rest = (out, rest h)

-- names in order are distinct
pub once_ascending : (f : Forest) → ascends f ≡ true → IsDistinct bytes_eq (names_of f)
unfolding IsDistinct
once_ascending [] up = tt
once_ascending (e ∷ f) up =
    let parts = and_parts (is_below_all e.0 f) (ascends f) up in
    IsDistinct-cons bytes_eq e.0 (names_of f) (others_apart e.0 f (none_below e.0 f parts.0)) (once_ascending f parts.1)

-- ---- changes that leave all parents

pub same_parents_ending : (f : Forest) (n m : List ℕ) → parent_of (with_terminating n f) m ≡ parent_of f m
same_parents_ending f n m = ap (λ (o : Option Node). option_and_then (λ node. node.parent) o) (changed_node n (λ (node : Node). record node { terminating = true }) f m) ∙ either (bytes_eq n m) (node_of f m)
  where
    either : (b : Bool) (o : Option Node) → option_and_then (λ node. node.parent) (cond b (option_map (λ (node : Node). record node { terminating = true }) o) o) ≡ option_and_then (λ (node : Node). node.parent) o
    either true None = refl
    either true (Some node) = refl
    either false o = refl

-- the parent that a namespace has leaves all parents
pub same_parents : (f : Forest) (n : List ℕ) (parent : Option (List ℕ)) → parent_of f n ≡ parent → (m : List ℕ) → parent_of (forest_with_parent n parent f) m ≡ parent_of f m
same_parents f n parent is m = at (bytes_eq n m) refl
  where
    at : (b : Bool) → bytes_eq n m ≡ b → parent_of (forest_with_parent n parent f) m ≡ parent_of f m
    at true same = subst (λ (k : List ℕ). parent_of (forest_with_parent n parent f) k ≡ parent_of f k) (is_same n m same)
        (ap (λ (o : Option Node). option_and_then (λ node. node.parent) o) (moved_node f n parent n) ∙ here (node_of f n) (bytes_eq n n) is ∙ sym is)
      where
        here : (o : Option Node) (b : Bool) → option_and_then (λ node. node.parent) o ≡ parent → option_and_then (λ node. node.parent) (cond b (option_map (with_that parent) o) o) ≡ parent
        here None true h = h
        here (Some node) true h = refl
        here o false h = h
    at false out = other_parent f n parent m out

-- ---- where the same namespaces are there

there_alike : (f g : Forest) → ((m : List ℕ) → is_there g m ≡ is_there f m) → (o : Option (List ℕ)) → option_and_then (if_there g) o ≡ option_and_then (if_there f) o
there_alike f g same None = refl
there_alike f g same (Some p) = ap (λ b. so b p) (same p)

module _ (objects : Objects) (f : Forest) (es : Entries) (counts : Counts objects f es) where
  -- ---- a namespace gets another parent

  module _ (n : List ℕ) (parent : Option (List ℕ)) where
    abbrev turned : Forest
    turned = forest_with_parent n parent f

    abbrev move : CounterChange
    move = Move n (option_and_then (if_there f) parent)

    abbrev AreMade : List CounterChange → Type 0
    AreMade changes = MayChangeAll changes es × Counts objects turned (changed_all changes es)

    given : (o : Option (List ℕ)) → IfSome (option_and_then (if_there f) o) (λ p. is_some (entry_of es p) ≡ true)
    given None = tt
    given (Some p) = by (is_there f p) refl
      where
        by : (b : Bool) → is_there f p ≡ b → IfSome (so b p) (λ q. is_some (entry_of es q) ≡ true)
        by true here = counts.there p ∙ here
        by false out = tt

    parent_then : (m : List ℕ) (o : Option (List ℕ)) → parent_of turned m ≡ o → parent_there turned m ≡ option_and_then (if_there f) o
    parent_then m o is = there_alike f turned (λ k. moved_there f n parent k) (parent_of turned m) ∙ ap (λ (q : Option (List ℕ)). option_and_then (if_there f) q) is

    has_then : is_there f n ≡ true → HasTree objects (is_there f) (parent_there turned) (with_parent n (option_and_then (if_there f) parent) es)
    has_then there = has_moved objects (is_there f) (parent_there f) (parent_there turned) es n (option_and_then (if_there f) parent) (has_counted objects f es counts) there
        (parent_then n parent (moved_parent f n parent there)) (λ m out. parent_then m (parent_of f m) (other_parent f n parent m out))

    pub moved : is_there f n ≡ true → MayChangeAll (changes_of_tree f (tree.SetParent n parent)) es × Counts objects turned (changed_all (changes_of_tree f (tree.SetParent n parent)) es)
    moved there =
        let has = has_then there in
        let counts_then : Counts objects turned (with_parent n (option_and_then (if_there f) parent) es) = record { there = λ m. has.there m ∙ sym (moved_there f n parent m); parents = has.parents; own = has.own } in
        subst (λ b. AreMade (cond b (move ∷ []) [])) (sym there) (((counts.there n ∙ there, given parent), tt), counts_then)

  -- ---- a namespace gets the parent that it has

  pub replanted : (n : List ℕ) (parent : Option (List ℕ)) → parent_of f n ≡ parent → Counts objects (forest_with_parent n parent f) es
  replanted n parent is = record {
    there = λ m. counts.there m ∙ sym (moved_there f n parent m);
    parents = λ m. counts.parents m ∙ sym (there_alike f (forest_with_parent n parent f) (moved_there f n parent) (parent_of (forest_with_parent n parent f) m) ∙ ap (λ (o : Option (List ℕ)). option_and_then (if_there f) o) (same_parents f n parent is m));
    own = counts.own;
  }

  -- ---- a namespace is on its way out

  pub terminated : (n : List ℕ) → Counts objects (with_terminating n f) es
  terminated n = record {
    there = λ m. counts.there m ∙ sym (same_there m);
    parents = λ m. counts.parents m ∙ sym (there_alike f (with_terminating n f) same_there (parent_of (with_terminating n f) m) ∙ ap (λ (o : Option (List ℕ)). option_and_then (if_there f) o) (same_parents_ending f n m));
    own = counts.own;
  }
    where
      same_there : (m : List ℕ) → is_there (with_terminating n f) m ≡ is_there f m
      same_there m = ap is_some (changed_node n (λ (node : Node). record node { terminating = true }) f m) ∙ either (bytes_eq n m) (node_of f m)
        where
          either : (b : Bool) (o : Option Node) → is_some (cond b (option_map (λ (node : Node). record node { terminating = true }) o) o) ≡ is_some o
          either true None = refl
          either true (Some node) = refl
          either false o = refl

  -- ---- any change

  module _ (order : ascends es ≡ true) where
    pub counts_tree : (c : TreeChange) → MayChangeTree c f → AreOnce f c → IsEmptied objects c → MayChangeAll (changes_of_tree f c) es × Counts objects (changed_by c f) (changed_all (changes_of_tree f c) es)
    counts_tree (tree.Add name node) may once emptied = added f name node may objects es counts once
    counts_tree (tree.SetParent name parent) may once emptied = moved name parent may
    counts_tree (tree.SetTerminating name) may once emptied = (tt, terminated name)
    counts_tree (tree.Remove name) may once emptied = removed f name objects es may counts order once emptied

    pub fits_tree : (c : TreeChange) → MayChangeTree c f → AreOnce f c → IsEmptied objects c → AllFit es → AllFit (changed_all (changes_of_tree f c) es)
    fits_tree c may once emptied fit = fits_changed_all (changes_of_tree f c) es (counts_tree c may once emptied).0 fit

    pub ordered_tree : (c : TreeChange) → ascends (changed_all (changes_of_tree f c) es) ≡ true
    ordered_tree c = ascends_changed_all (changes_of_tree f c) es order
