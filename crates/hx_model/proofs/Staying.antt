-- What lies below a namespace below which nothing comes.
--     named_there         a namespace that is there is among the names
--     above_before        where a is above a namespace that was there, it was so before
--     takes_in_none       and its subtree takes in no object
use Rattle.std.proofs.Common.{◌≡◌, ℕ, Bool, true, false, not, ◌&&◌, Option, Some, None, List, sym, ap, ◌∙◌, true≢false}
use Rattle.std.specs.List.{list_any}
use Rattle.std.specs.Option.{option_map_or}
use Rattle.std.specs.Str.{bytes_eq}
use Rattle.std.proofs.lemmas.Bool.{and_from, not_from_false, true_from_ne_false}
use Rattle.hx_object.specs.declared.object.Object.{Object}
use Rattle.hx_model.specs.Forest.{Forest, names_of, is_there, is_child, parent_of, in_chain}
use Rattle.hx_model.specs.Overruns.{TakesInNone}
use Rattle.hx_model.specs.State.{State}
use Rattle.hx_model.specs.Subnamespaces.{has_children}
use Rattle.hx_model.specs.Tree.{forest_of}
use Rattle.hx_model.proofs.Climbing.{Above, itself, through, chain_above, above_chain, is_same, same_itself}
use Rattle.hx_model.proofs.Walking.{names_have, passes_in}
use Rattle.hx_model.specs.Excess.{gets_parent, comes_below, gives_parent, is_home, gives_home}
use Rattle.hx_model.proofs.Lists.{all_more, each_is_in}

-- a test that a namespace which is there passes finds one among the names
passes_there : (t : List ℕ → Bool) (f : Forest) (n : List ℕ) → is_there f n ≡ true → t n ≡ true → list_any t (names_of f) ≡ true
passes_there t f n there passes = passes_in t n (names_of f) (sym (names_have f n) ∙ there) passes

-- so it fails where none is found
fails_there : (t : List ℕ → Bool) (f : Forest) (n : List ℕ) → list_any t (names_of f) ≡ false → is_there f n ≡ true → t n ≡ true → ⊥
fails_there t f n none there passes = true≢false (sym (passes_there t f n there passes) ∙ none)

-- who has another one above is there
above_there : (f : Forest) (n a : List ℕ) → Above f n a → is_there f n ≡ true
above_there f n a (itself there) = there
above_there f n a (through there is rest) = there

module _ (f g : Forest) (a : List ℕ) (gets : gets_parent f g a ≡ false) (gives : gives_parent f g a ≡ false) where
  -- a namespace below a that was there names the parent that it named
  same_parent : (n p : List ℕ) → is_there f n ≡ true → is_there g n ≡ true → parent_of g n ≡ Some p → in_chain g p a ≡ true → is_child f p n ≡ true
  same_parent n p before there is inside = true_from_ne_false (is_child f p n) (λ other.
      fails_there (λ m. is_there f m && option_map_or (λ q. not (is_child f q m) && in_chain g q a) (parent_of g m) false) g n gets there
      (and_from (is_there f n) _ before (ap (λ o. option_map_or (λ q. not (is_child f q n) && in_chain g q a) o false) is ∙ and_from (not (is_child f p n)) (in_chain g p a) (not_from_false (is_child f p n) other) inside)))

  -- and its parent was there, if it is
  parent_before : (n p : List ℕ) → is_there f n ≡ true → is_child f p n ≡ true → is_there g p ≡ true → in_chain g p a ≡ true → is_there f p ≡ true
  parent_before n p before child there inside = true_from_ne_false (is_there f p) (λ new.
      fails_there (λ m. comes_below f g a m && has_children f m) g p gives there
      (and_from (comes_below f g a p) (has_children f p) (and_from (not (is_there f p)) (in_chain g p a) (not_from_false (is_there f p) new) inside) (passes_there (is_child f p) f n before child)))

  named : (p : List ℕ) (o : Option (List ℕ)) → option_map_or (bytes_eq p) o false ≡ true → o ≡ Some p
  named p None h = absurd (true≢false (sym h))
  named p (Some q) h = ap Some (sym (is_same p q h))

  pub above_before : (n : List ℕ) → Above g n a → is_there f n ≡ true → Above f n a
  above_before n (itself there) before = itself before
  above_before n (through {p = p} there is rest) before =
      let inside = above_chain g p a rest in
      let child = same_parent n p before there is inside in
      through before (named p (parent_of f n) child) (above_before p rest (parent_before n p before child (above_there g p a rest) inside))

module _ (s t : State) (a : List ℕ) (gets : gets_parent (forest_of s) (forest_of t) a ≡ false) (gives : gives_parent (forest_of s) (forest_of t) a ≡ false) (homes : gives_home s t a ≡ false) where
  -- the namespace of an object was there, if it is
  home_before : (n : List ℕ) → is_home s.objects n ≡ true → is_there (forest_of t) n ≡ true → in_chain (forest_of t) n a ≡ true → is_there (forest_of s) n ≡ true
  home_before n home there inside = true_from_ne_false (is_there (forest_of s) n) (λ new.
      fails_there (λ m. comes_below (forest_of s) (forest_of t) a m && is_home s.objects m) (forest_of t) n homes there
      (and_from (comes_below (forest_of s) (forest_of t) a n) (is_home s.objects n) (and_from (not (is_there (forest_of s) n)) (in_chain (forest_of t) n a) (not_from_false (is_there (forest_of s) n) new) inside) home))

  below_before : (n : List ℕ) → is_home s.objects n ≡ true → in_chain (forest_of t) n a ≡ true → in_chain (forest_of s) n a ≡ true
  below_before n home inside =
      let above = chain_above (forest_of t) n a inside in
      above_chain (forest_of s) n a (above_before (forest_of s) (forest_of t) a gets gives n above (home_before n home (above_there (forest_of t) n a above) inside))

  pub takes_in_none : TakesInNone s t a
  takes_in_none = all_more _ _ s.objects (λ x found. below_before x.id.ns (found (λ (y : Object). bytes_eq x.id.ns y.id.ns) (same_itself x.id.ns))) (each_is_in s.objects)
