-- Changes of counters one after the other, and what a move leaves of what they count.
--     may_both, changed_both             several changes, and then several more
--     ascends_changed_all, fits_changed_all   entries stay in order, and all still fits
--     steps                              changes by the names of a list, where each leaves what the next one needs
--     HasTree objects has parent es      the counters have these namespaces, under these parents, with what their objects are charged
--     has_counted, counted               those of a tree are what counters have that count it
--     has_moved, has_alike               after a move, and under the same parents
--     child_parent, child_there, among_children, not_among   what names n as its parent
use Rattle.std.proofs.Common.{◌≡◌, ℕ, Bool, true, false, cond, Option, Some, None, List, [], ◌∷◌, ◌++◌, map, ◌&&◌, ◌||◌, refl, sym, ap, ◌∙◌, subst, true≢false}
use Rattle.std.specs.Prelude.{is_some, option_and_then}
use Rattle.std.specs.Option.{option_map_or, option_map}
use Rattle.std.specs.List.{AllByRecursion, IsDistinct}
use Rattle.std.specs.Str.{bytes_eq}
use Rattle.std.proofs.lemmas.Map.Keys.{IsDistinct-head}
use Rattle.std.proofs.lemmas.Option.{none-some}
use Rattle.hx_model.specs.Forest.{Forest, is_in, names_of, node_of, is_there, parent_of, is_child, children_of}
use Rattle.hx_model.specs.State.{Objects}
use Rattle.hx_model.specs.declared.node.Node.{Node}
use Rattle.hx_model.specs.declared.resource.Resource.{Resource}
use Rattle.hx_model.proofs.Climbing.{is_same}
use Rattle.hx_model.proofs.Moving.{moved_parent, other_parent}
use Rattle.hx_model.proofs.Parents.{is_in_filter}
use Rattle.hx_model.proofs.Walking.{names_have}
use Rattle.hx_forest.proofs.Named.{ascends, lookup-with_changed, ascends-with_value, ascends-with_changed, ascends-without_value}
use Rattle.hx_quota.specs.declared.change.CounterChange.{CounterChange}
use Rattle.hx_quota.specs.declared.change.CounterChange.TheVariants.{Add, Move, Shift, Remove}
use Rattle.hx_quota.specs.Counters.{Entry}
use Rattle.hx_quota.specs.Counters.{Entries, entry_of, tree_of, own_of, own_in, with_entry, new_entry, without_entry, with_parent, AllFit}
use Rattle.hx_quota.specs.Counting.{Counts, own_charge, parent_there, changed, changed_all, MayChange, MayChangeAll}
use Rattle.hx_quota.proofs.Fitting.{fits_added, fits_moved, fits_removed}
use Rattle.hx_quota.proofs.Moved.{tree_moved}
use Rattle.hx_quota.proofs.UsedSums.{in_tree}

-- ---- several changes

pub changed_both : (xs ys : List CounterChange) (es : Entries) → changed_all (xs ++ ys) es ≡ changed_all ys (changed_all xs es)
changed_both [] ys es = refl
changed_both (c ∷ xs) ys es = changed_both xs ys (changed c es)

pub may_both : (xs ys : List CounterChange) (es : Entries) → MayChangeAll xs es → MayChangeAll ys (changed_all xs es) → MayChangeAll (xs ++ ys) es
may_both [] ys es may then = then
may_both (c ∷ xs) ys es may then = (may.0, may_both xs ys (changed c es) may.1 then)

ascends_changed : (c : CounterChange) (es : Entries) → ascends es ≡ true → ascends (changed c es) ≡ true
ascends_changed (Add name) es up = ascends-with_value name new_entry es up
ascends_changed (Move moved parent) es up = ascends-with_changed moved _ es ∙ up
ascends_changed (Shift n deltas) es up = ascends-with_changed n _ es ∙ up
ascends_changed (Remove name) es up = ascends-without_value name es up

-- entries stay in order
pub ascends_changed_all : (changes : List CounterChange) (es : Entries) → ascends es ≡ true → ascends (changed_all changes es) ≡ true
ascends_changed_all [] es up = up
ascends_changed_all (c ∷ changes) es up = ascends_changed_all changes (changed c es) (ascends_changed c es up)

fits_changed : (c : CounterChange) (es : Entries) → MayChange c es → AllFit es → AllFit (changed c es)
fits_changed (Add name) es may fit = fits_added es es (with_entry name new_entry es) name refl may refl fit
fits_changed (Move moved parent) es may fit = fits_moved es (with_parent moved parent es) moved parent refl fit
fits_changed (Shift n deltas) es may fit = may.3
fits_changed (Remove name) es may fit = fits_removed es (without_entry name es) name refl fit

-- what all have together still fits
pub fits_changed_all : (changes : List CounterChange) (es : Entries) → MayChangeAll changes es → AllFit es → AllFit (changed_all changes es)
fits_changed_all [] es may fit = fit
fits_changed_all (c ∷ changes) es may fit = fits_changed_all changes (changed c es) may.1 (fits_changed c es may.0 fit)

-- a change for each name, where each leaves what the next one needs
pub steps : (Left : List (List ℕ) → Entries → Type 0) (step : List ℕ → CounterChange)
    → ((c : List ℕ) (cs : List (List ℕ)) (es : Entries) → Left (c ∷ cs) es → MayChange (step c) es × Left cs (changed (step c) es))
    → (cs : List (List ℕ)) (es : Entries) → Left cs es → MayChangeAll (map step cs) es × Left [] (changed_all (map step cs) es)
steps Left step on [] es left = (tt, left)
steps Left step on (c ∷ cs) es left =
    let now = on c cs es left in
    let then = steps Left step on cs (changed (step c) es) now.1 in
    ((now.0, then.0), then.1)

-- ---- what counters have

-- these namespaces, under these parents, with what their objects are charged
pub record HasTree (objects : Objects) (has : List ℕ → Bool) (parent : List ℕ → Option (List ℕ)) (es : Entries) : Type 0 where
  pub there : (n : List ℕ) → is_some (entry_of es n) ≡ has n
  pub parents : (n : List ℕ) → parent_of (tree_of es) n ≡ parent n
  pub own : (n : List ℕ) (r : Resource) → own_in es n r ≡ own_charge objects n r

pub has_counted : (objects : Objects) (f : Forest) (es : Entries) → Counts objects f es → HasTree objects (is_there f) (parent_there f) es
has_counted objects f es counts = record { there = counts.there; parents = counts.parents; own = counts.own }

pub counted : (objects : Objects) (f : Forest) (es : Entries) → HasTree objects (is_there f) (parent_there f) es → Counts objects f es
counted objects f es has = record { there = has.there; parents = has.parents; own = has.own }

there_moved : (n : List ℕ) (parent : Option (List ℕ)) (es : Entries) (m : List ℕ) → is_some (entry_of (with_parent n parent es) m) ≡ is_some (entry_of es m)
there_moved n parent es m = ap is_some (lookup-with_changed n (λ (e : Entry). record e { parent = parent }) es m) ∙ either (bytes_eq n m) (entry_of es m)
  where
    either : (b : Bool) (o : Option Entry) → is_some (cond b (option_map (λ (e : Entry). record e { parent = parent }) o) o) ≡ is_some o
    either true None = refl
    either true (Some e) = refl
    either false o = refl

own_moved : (n : List ℕ) (parent : Option (List ℕ)) (es : Entries) (m : List ℕ) (r : Resource) → own_in (with_parent n parent es) m r ≡ own_in es m r
own_moved n parent es m r = ap (λ (o : Option Entry). option_map_or (own_of r) o 0) (lookup-with_changed n (λ (e : Entry). record e { parent = parent }) es m) ∙ either (bytes_eq n m) (entry_of es m)
  where
    either : (b : Bool) (o : Option Entry) → option_map_or (own_of r) (cond b (option_map (λ (e : Entry). record e { parent = parent }) o) o) 0 ≡ option_map_or (own_of r) o 0
    either true None = refl
    either true (Some e) = refl
    either false o = refl

-- after a move of c under p
pub has_moved : (objects : Objects) (has : List ℕ → Bool) (old new : List ℕ → Option (List ℕ)) (es : Entries) (c : List ℕ) (p : Option (List ℕ))
    → HasTree objects has old es → has c ≡ true → new c ≡ p → ((m : List ℕ) → bytes_eq c m ≡ false → new m ≡ old m) → HasTree objects has new (with_parent c p es)
has_moved objects has old new es c p is there here other = record {
  there = λ m. there_moved c p es m ∙ is.there m;
  parents = λ m. at m (bytes_eq c m) refl;
  own = λ m r. own_moved c p es m r ∙ is.own m r;
}
  where
    at : (m : List ℕ) (b : Bool) → bytes_eq c m ≡ b → parent_of (tree_of (with_parent c p es)) m ≡ new m
    at m true same = subst (λ (k : List ℕ). parent_of (tree_of (with_parent c p es)) k ≡ new k) (is_same c m same)
        (ap (λ (t : Forest). parent_of t c) (tree_moved c p es) ∙ moved_parent (tree_of es) c p (in_tree es c ∙ is.there c ∙ there) ∙ sym here)
    at m false out = ap (λ (t : Forest). parent_of t m) (tree_moved c p es) ∙ other_parent (tree_of es) c p m out ∙ is.parents m ∙ sym (other m out)

-- under the same parents
pub has_alike : (objects : Objects) (has : List ℕ → Bool) (old new : List ℕ → Option (List ℕ)) (es : Entries) → HasTree objects has old es → ((m : List ℕ) → new m ≡ old m) → HasTree objects has new es
has_alike objects has old new es is same = record { there = is.there; parents = λ m. is.parents m ∙ sym (same m); own = is.own }

-- ---- children

pub child_parent : (f : Forest) (n m : List ℕ) → is_child f n m ≡ true → parent_of f m ≡ Some n
child_parent f n m = at (parent_of f m)
  where
    at : (o : Option (List ℕ)) → option_map_or (bytes_eq n) o false ≡ true → o ≡ Some n
    at None h = absurd (true≢false (sym h))
    at (Some q) h = ap Some (sym (is_same n q h))

pub child_there : (f : Forest) (n m : List ℕ) → is_child f n m ≡ true → is_there f m ≡ true
child_there f n m h = at (node_of f m) (child_parent f n m h)
  where
    at : (o : Option Node) → option_and_then (λ node. node.parent) o ≡ Some n → is_some o ≡ true
    at None e = absurd (none-some n e)
    at (Some node) e = refl

pub among_children : (f : Forest) (n m : List ℕ) → is_in m (children_of f n) ≡ is_child f n m
among_children f n m = is_in_filter (is_child f n) m (names_of f) ∙ ap (λ b. b && is_child f n m) (sym (names_have f m)) ∙ at (is_child f n m) refl
  where
    at : (b : Bool) → is_child f n m ≡ b → (is_there f m && b) ≡ b
    at true h = ap (λ b. b && true) (child_there f n m h)
    at false h = never (is_there f m)
      where
        never : (b : Bool) → (b && false) ≡ false
        never true = refl
        never false = refl

-- the first of distinct names isn't among the others
pub not_among : (c : List ℕ) (cs : List (List ℕ)) → IsDistinct bytes_eq (c ∷ cs) → is_in c cs ≡ false
not_among c cs distinct = at cs (IsDistinct-head bytes_eq c cs distinct)
  where
    at : (xs : List (List ℕ)) → AllByRecursion (λ y. bytes_eq c y ≡ false) xs → is_in c xs ≡ false
    at [] apart = refl
    at (x ∷ xs) apart = ap (λ b. b || is_in c xs) apart.0 ∙ at xs apart.1
