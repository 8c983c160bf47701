-- Ledgers: rings that are closed and opened.
--     names_from, same_named, same_long      names at indices stay where the names do
--     apart_at                names at two indices differ
--     up_on                   a walk up is shorter from a parent
--     on_top, step_up         what is above a namespace at an index
--     no_ring_top, ring_top   whether a namespace is in the ring that a link closes
--     rings_added, rings_removed      links that close rings, after one comes or goes
--     kept_rings, fewer       and after one gets another parent, and after one has no such link
--     parted_entries, opened_entries      entries after one got no parent
use Rattle.std.specs.Prelude.{is_some, option_and_then, slice_get, unwrap_or}
use Rattle.std.proofs.Common.{◌≡◌, ℕ, zero, suc, ◌<◌, Bool, true, false, cond, Option, Some, None, List, [], ◌∷◌, length, refl, sym, ap, ◌∙◌, subst, arith, true≢false}
use Rattle.std.specs.List.{IsDistinct}
use Rattle.std.specs.Map.{keys_of}
use Rattle.std.specs.Option.{option_map_or}
use Rattle.std.specs.Str.{bytes_eq}
use Rattle.std.proofs.lemmas.Bool.{false_from_ne_true}
use Rattle.std.proofs.lemmas.Option.{none-some}
use Rattle.hx_model.specs.declared.node.Node.{Node}
use Rattle.hx_model.specs.Forest.{Forest, is_there, parent_of, in_chain, with_parent as forest_with_parent}
use Rattle.hx_model.specs.Moves.{chain_from}
use Rattle.hx_model.proofs.Climbing.{Above, itself, through, chain_above, above_chain, chain_trans, is_same, same_itself}
use Rattle.hx_model.proofs.Moving.{moved_parent, other_parent}
use Rattle.hx_model.proofs.Walking.{chain_there, same_flips}
use Rattle.hx_forest.proofs.Named.{ascends, ascends-with_changed}
use Rattle.hx_quota.specs.Counters.{Entry, Entries, entry_of, tree_of, with_entry, new_entry, without_entry, with_parent}
use Rattle.hx_quota.specs.PlaceRows.{Links, IsFoundAt, ring_in}
use Rattle.hx_quota.specs.RingLinks.{or_ring, with_rings, AreRings, IsRingTop}
use Rattle.hx_quota.specs.Inside.{Places, entries_in, ordered, AreClosed, AllEnd}
use Rattle.hx_quota.specs.Anew.{name_at, name_from, named, chain_at, chain_behind}
use Rattle.hx_quota.proofs.Around.{same_root, rings_opened}
use Rattle.hx_quota.proofs.Attaching.{IsNew, alike, chain_new}
use Rattle.hx_quota.proofs.Ending.{chain_on}
use Rattle.hx_quota.proofs.Indexed.{same_index}
use Rattle.hx_quota.proofs.Moved.{tree_moved}
use Rattle.hx_quota.proofs.Placed.{same_keys}
use Rattle.hx_quota.proofs.Reached.{lies_at, named_at, there_at}
use Rattle.hx_quota.proofs.Ringed.{ringed_moved, closed_rings, ascends_ringed, parent_again}
use Rattle.hx_quota.proofs.UsedSums.{in_tree, added_new}

-- ---- names at indices

by_keys : (places : Places) (at : ℕ) → name_at (entries_in places) at ≡ slice_get (keys_of places) at
by_keys [] at = refl
by_keys (e ∷ places) zero = refl
by_keys (e ∷ places) (suc at) = by_keys places at

long_keys : (places : Places) → length (keys_of places) ≡ length places
long_keys [] = refl
long_keys (e ∷ places) = ap (λ k. suc k) (long_keys places)

module _ (new old : Places) (same : keys_of new ≡ keys_of old) where
  same_name : (at : ℕ) → name_at (entries_in new) at ≡ name_at (entries_in old) at
  same_name at = by_keys new at ∙ ap (λ (ks : List (List ℕ)). slice_get ks at) same ∙ sym (by_keys old at)

  pub names_from : (o : Option ℕ) → name_from (entries_in new) o ≡ name_from (entries_in old) o
  names_from None = refl
  names_from (Some at) = same_name at

  pub same_named : (at : ℕ) → named (entries_in new) at ≡ named (entries_in old) at
  same_named at = ap (λ (o : Option (List ℕ)). unwrap_or o []) (same_name at)

  pub same_long : length new ≡ length old
  same_long = sym (long_keys new) ∙ ap length same ∙ long_keys old

-- names at two indices differ
pub apart_at : (places : Places) → IsDistinct bytes_eq (keys_of places) → (i j : ℕ) → i < length places → j < length places → (i ≡ j → ⊥) → bytes_eq (named (entries_in places) i) (named (entries_in places) j) ≡ false
apart_at places distinct i j in_i in_j other = false_from_ne_true (bytes_eq a b) (λ same.
    other (same_index places i j b lies_i.0 lies_j.0 distinct (lies_i.1 ∙ ap (λ (k : List ℕ). Some (k, lies_i.0)) (is_same a b same)) lies_j.1))
  where
    a : List ℕ
    a = named (entries_in places) i

    b : List ℕ
    b = named (entries_in places) j

    whole : IsDistinct bytes_eq (keys_of (entries_in places))
    whole = subst (λ (ks : List (List ℕ)). IsDistinct bytes_eq ks) (sym (same_keys places)) distinct

    lies_i : IsFoundAt places a (Some i)
    lies_i = lies_at places whole i in_i

    lies_j : IsFoundAt places b (Some j)
    lies_j = lies_at places whole j in_j

-- ---- walks up

module _ (places : Places) (all : AllEnd (tree_of (ordered places))) (at : ℕ) (within : at < length places) where
  abbrev tree : Forest
  tree = tree_of (ordered places)

  abbrev mine : List ℕ
  mine = named (entries_in places) at

  pub tree_at : is_there tree mine ≡ true
  tree_at = in_tree (ordered places) mine ∙ there_at places at within

  pub itself_at : in_chain tree mine mine ≡ true
  itself_at = above_chain tree mine mine (itself tree_at)

  parent_by_name : option_and_then (parent_of tree) (name_at (entries_in places) at) ≡ parent_of tree mine
  parent_by_name = ap (λ (o : Option (List ℕ)). option_and_then (parent_of tree) o) (named_at places at within)

  -- a walk from there is longer than from its parent
  pub up_on : length (chain_behind (entries_in places) at) < length (chain_at (entries_in places) (Some at))
  up_on =
      let behind : length (chain_behind (entries_in places) at) ≡ length (chain_from tree (parent_of tree mine)) = ap (λ (o : Option (List ℕ)). length (chain_from tree o)) parent_by_name in
      let here : length (chain_at (entries_in places) (Some at)) ≡ suc (length (chain_from tree (parent_of tree mine))) = ap (λ (o : Option (List ℕ)). length (chain_from tree o)) (named_at places at within) ∙ ap length (chain_on tree mine tree_at (all mine tree_at)) in
      omega (arith, behind, here)

  -- it is a root where there is no index of a parent
  pub on_top : (o : Option (List ℕ)) → o ≡ option_and_then (parent_of tree) (name_at (entries_in places) at) → o ≡ None → parent_of tree mine ≡ None
  on_top o is none = sym parent_by_name ∙ sym is ∙ none

  -- who is at the index of its parent is above it
  pub step_up : (up : ℕ) → up < length places → name_at (entries_in places) up ≡ option_and_then (parent_of tree) (name_at (entries_in places) at) → (m : List ℕ) → in_chain tree m mine ≡ true → in_chain tree m (named (entries_in places) up) ≡ true
  step_up up inside is m low =
      let p = named (entries_in places) up in
      let there : is_there tree p ≡ true = in_tree (ordered places) p ∙ there_at places up inside in
      let on : parent_of tree mine ≡ Some p = sym parent_by_name ∙ sym is ∙ named_at places up inside in
      chain_trans tree m mine p low (above_chain tree mine p (through tree_at on (itself there)))

-- ---- in a ring

module _ (ring : List ℕ → Option (List ℕ)) (f : Forest) (are : AreRings ring f) (n t : List ℕ) (low : in_chain f n t ≡ true) (o : Option (List ℕ)) (is : o ≡ ring t) where
  -- it isn't where the link of its root doesn't lead below it
  pub no_ring_top : parent_of f t ≡ None → option_map_or (λ p. in_chain f p n) o false ≡ false → IsRingTop ring f n None
  no_ring_top root out s p up link over =
      let same : s ≡ t = same_root f n s t (are s p link).0 root up low in
      true≢false (sym over ∙ sym (ap (λ (x : Option (List ℕ)). option_map_or (λ q. in_chain f q n) x false) (is ∙ ap ring (sym same) ∙ link)) ∙ out)

  pub ring_top : option_map_or (λ p. in_chain f p n) o false ≡ true → IsRingTop ring f n (Some t)
  ring_top over = by o is over
    where
      by : (x : Option (List ℕ)) → x ≡ ring t → option_map_or (λ p. in_chain f p n) x false ≡ true → IsRingTop ring f n (Some t)
      by None h none = absurd (true≢false (sym none))
      by (Some p) h has = (p, low, sym h, has)

-- ---- one comes or goes

first_there : (f : Forest) (m a : List ℕ) → in_chain f m a ≡ true → is_there f m ≡ true
first_there f m a h = by (chain_above f m a h)
  where
    by : {x y : List ℕ} → Above f x y → is_there f x ≡ true
    by (itself there) = there
    by (through there on rest) = there

abbrev node_parent : Option Node → Option (List ℕ)
node_parent o = option_and_then (λ (node : Node). node.parent) o

pub rings_added : (ring : List ℕ → Option (List ℕ)) (es : Entries) (n : List ℕ) → entry_of es n ≡ None → AreClosed es → AreRings ring (tree_of es) → AreRings ring (tree_of (with_entry n new_entry es))
rings_added ring es n none closed are m q link =
    let f = tree_of (with_entry n new_entry es) in
    let g = tree_of es in
    let is : IsNew f g n = added_new es n none closed in
    let mine = are m q link in
    let there : is_there g m ≡ true = (chain_there g q).there m mine.1 in
    (ap node_parent (alike f g n is m there) ∙ mine.0, chain_new f g n is q m (first_there g q m mine.1) ∙ mine.1)

pub rings_removed : (ring then : List ℕ → Option (List ℕ)) (es : Entries) (n : List ℕ) → IsNew (tree_of es) (tree_of (without_entry n es)) n → AreRings ring (tree_of es)
    → ((m : List ℕ) → bytes_eq n m ≡ false → ring m ≡ Some n → ⊥) → ((m q : List ℕ) → then m ≡ Some q → (ring m ≡ Some q) × (bytes_eq n m ≡ false)) → AreRings then (tree_of (without_entry n es))
rings_removed ring then es n is are ringless less m q link =
    let f = tree_of es in
    let g = tree_of (without_entry n es) in
    let old = less m q link in
    let mine = are m q old.0 in
    let other : bytes_eq n q ≡ false = false_from_ne_true (bytes_eq n q) (λ same. ringless m old.1 (old.0 ∙ ap Some (sym (is_same n q same)))) in
    let there : is_there g q ≡ true = sym (ap is_some (is.others q other)) ∙ first_there f q m mine.1 in
    (sym (ap node_parent (is.others m old.1)) ∙ mine.0, sym (chain_new f g n is q m there) ∙ mine.1)

-- ---- other links

-- a namespace has no such link any more
pub fewer : (ring then : List ℕ → Option (List ℕ)) (t : List ℕ) → ((q : List ℕ) → then q ≡ cond (bytes_eq t q) None (ring q)) → (m q : List ℕ) → then m ≡ Some q → (ring m ≡ Some q) × (bytes_eq t m ≡ false)
fewer ring then t is m q link = by (bytes_eq t m) refl (sym (is m) ∙ link)
  where
    by : (b : Bool) → bytes_eq t m ≡ b → cond b None (ring m) ≡ Some q → (ring m ≡ Some q) × (bytes_eq t m ≡ false)
    by true same h = absurd (none-some q h)
    by false out h = (h, out)

-- those of others are as before
pub others_stay : (ring then : List ℕ → Option (List ℕ)) (t : List ℕ) (link : Option (List ℕ)) → ((q : List ℕ) → then q ≡ cond (bytes_eq t q) link (ring q)) → (q : List ℕ) → bytes_eq t q ≡ false → then q ≡ ring q
others_stay ring then t link is q out = is q ∙ ap (λ b. cond b link (ring q)) out

pub this_then : (ring then : List ℕ → Option (List ℕ)) (t : List ℕ) (link : Option (List ℕ)) → ((q : List ℕ) → then q ≡ cond (bytes_eq t q) link (ring q)) → then t ≡ link
this_then ring then t link is = is t ∙ ap (λ b. cond b link (ring t)) (same_itself t)

pub none_then : (ring then : List ℕ → Option (List ℕ)) (t : List ℕ) → ((q : List ℕ) → then q ≡ cond (bytes_eq t q) None (ring q)) → ((q : List ℕ) → ring q ≡ None) → (q : List ℕ) → then q ≡ None
none_then ring then t is none q = is q ∙ ap (λ (o : Option (List ℕ)). cond (bytes_eq t q) None o) (none q) ∙ either (bytes_eq t q)
  where
    either : (b : Bool) → ◌≡◌ {A = Option (List ℕ)} (cond b None None) None
    either true = refl
    either false = refl

-- where a root gets such a link
pub rings_closed : (ring then : List ℕ → Option (List ℕ)) (f : Forest) (n : List ℕ) (link : Option (List ℕ)) → AreRings ring f → ((q : List ℕ) → then q ≡ cond (bytes_eq n q) link (ring q)) → parent_of f n ≡ None
    → option_map_or (λ p. in_chain f p n) link false ≡ true → AreRings then f
rings_closed ring then f n link are is root over m q on = by (bytes_eq n m) refl (sym (is m) ∙ on)
  where
    by : (b : Bool) → bytes_eq n m ≡ b → cond b link (ring m) ≡ Some q → (parent_of f m ≡ None) × (in_chain f q m ≡ true)
    by true same h = subst (λ (k : List ℕ). (parent_of f k ≡ None) × (in_chain f q k ≡ true)) (is_same n m same) (root, sym (ap (λ (o : Option (List ℕ)). option_map_or (λ p. in_chain f p n) o false) h) ∙ over)
    by false out h = are m q h

pub kept_rings : (rings now : Links) (es new : Entries) (n : List ℕ) (parent : Option (List ℕ)) → now ≡ rings → new ≡ with_parent n parent es → AreRings (ring_in rings) (forest_with_parent n parent (tree_of es)) → AreRings (ring_in now) (tree_of new)
kept_rings rings now es new n parent same is are =
    subst (λ (ls : Links). AreRings (ring_in ls) (tree_of new)) (sym same) (subst (λ (f : Forest). AreRings (ring_in rings) f) (sym (ap tree_of is ∙ tree_moved n parent es)) are)

-- ---- one that gets no parent

module _ (rings : Links) (es : Entries) (are : AreRings (ring_in rings) (tree_of es)) (n : List ℕ) (there : is_there (tree_of es) n ≡ true) where
  abbrev g : Forest
  g = tree_of es

  -- one that is in no ring closes none
  pub free_here : IsRingTop (ring_in rings) g n None → ring_in rings n ≡ None
  free_here none = by (ring_in rings n) refl
    where
      by : (o : Option (List ℕ)) → ring_in rings n ≡ o → o ≡ None
      by None is = refl
      by (Some p) is = absurd (none n p (above_chain g n n (itself there)) is (are n p is).1)

  pub parted_entries : (parent : Option (List ℕ)) → ring_in rings n ≡ None → with_rings rings (with_parent n parent es) ≡ with_parent n parent (with_rings rings es)
  parted_entries parent free = ringed_moved rings rings n parent (λ q out. refl) es ∙ ap (λ (o : Option (List ℕ)). with_parent n (or_ring o parent) (with_rings rings es)) free

  -- out of a ring that the link of another one closes
  module _ (now : Links) (t p : List ℕ) (up : ascends es ≡ true) (low : in_chain g n t ≡ true) (link : ring_in rings t ≡ Some p) (out : bytes_eq t n ≡ false) (is : (q : List ℕ) → ring_in now q ≡ cond (bytes_eq t q) None (ring_in rings q)) where
    -- it closes none
    pub free_inside : ring_in rings n ≡ None
    free_inside = by (ring_in rings n) refl
      where
        by : (o : Option (List ℕ)) → ring_in rings n ≡ o → o ≡ None
        by None h = refl
        by (Some q) h = absurd (true≢false (sym (subst (λ (k : List ℕ). bytes_eq t k ≡ true) (same_root g n t n (are t p link).0 (are n q h).0 low (above_chain g n n (itself there))) (same_itself t)) ∙ out))

    pub opened_entries : with_rings now (with_parent t (Some p) (with_parent n None es)) ≡ with_parent n None (with_rings rings es)
    opened_entries =
        ringed_moved rings now t (Some p) (others_stay (ring_in rings) (ring_in now) t None is) (with_parent n None es)
        ∙ ap (λ (o : Option (List ℕ)). with_parent t (or_ring o (Some p)) (with_rings rings (with_parent n None es))) (this_then (ring_in rings) (ring_in now) t None is)
        ∙ ap (with_parent t (Some p)) (parted_entries None free_inside)
        ∙ parent_again t (Some p) (with_parent n None (with_rings rings es)) ordered_then parent_then
      where
        whole : Forest
        whole = tree_of (with_rings rings es)

        ordered_then : ascends (with_parent n None (with_rings rings es)) ≡ true
        ordered_then = ascends-with_changed n (λ (e : Entry). record e { parent = None }) (with_rings rings es) ∙ ascends_ringed rings es ∙ up

        parent_then : parent_of (tree_of (with_parent n None (with_rings rings es))) t ≡ Some p
        parent_then =
            ap (λ (f : Forest). parent_of f t) (tree_moved n None (with_rings rings es)) ∙ other_parent whole n None t (same_flips n t ∙ out)
            ∙ (closed_rings rings es are).parents t ∙ ap (λ (o : Option (List ℕ)). or_ring o (parent_of g t)) link

    pub rings_out_of : (in_chain g p n ≡ true) → AreRings (ring_in now) (tree_of (with_parent t (Some p) (with_parent n None es)))
    rings_out_of over =
        subst (λ (f : Forest). AreRings (ring_in now) f) (sym (tree_moved t (Some p) (with_parent n None es) ∙ ap (λ (f : Forest). forest_with_parent t (Some p) f) (tree_moved n None es)))
        (rings_opened (ring_in rings) (ring_in now) g are n t p there low link over out (fewer (ring_in rings) (ring_in now) t is))

    pub root_out_of : parent_of (tree_of (with_parent t (Some p) (with_parent n None es))) n ≡ None
    root_out_of =
        ap (λ (f : Forest). parent_of f n) (tree_moved t (Some p) (with_parent n None es)) ∙ other_parent (tree_of (with_parent n None es)) t (Some p) n out
        ∙ ap (λ (f : Forest). parent_of f n) (tree_moved n None es) ∙ moved_parent g n None there
