-- Entries with links that close rings.
--     ringed_entry, ringed_some, ringed_none, ringed_there      what is found
--     given_open                      a parent is there without them
--     no_ring                         who isn't there has no such link
--     closed_rings                    the forest with them
--     fits_open, own_ringed           sums are the same without them
--     used_apart, used_round          what one has that is in no ring, and what one has that is in a ring
--     ringed_moved, ringed_shifted, ringed_added, ringed_removed      after changes
--     ringed_linked, parent_again     where a root gets such a link, and where a parent stays
--     alone_open, ringless            who is in no other chain is so without them, and none leads to it
use Rattle.std.specs.Prelude.{is_some, option_and_then, filter, sum_by, IfSome}
use Rattle.std.proofs.Common.{◌≡◌, ℕ, ◌<◌, ◌^◌, Bool, true, false, cond, not, ◌&&◌, Option, Some, None, option_map, List, [], ◌∷◌, is_lt, refl, sym, ap, ◌∙◌, subst, arith, true≢false}
use Rattle.std.specs.Option.{option_map_or}
use Rattle.std.specs.Str.{bytes_eq}
use Rattle.std.proofs.lemmas.List.Sums.{sum_by-cons}
use Rattle.std.proofs.lemmas.Option.{none-some}
use Rattle.hx_object.specs.Texts.{bytes_cmp}
use Rattle.hx_model.specs.declared.node.Node.{Node}
use Rattle.hx_model.specs.declared.resource.Resource.{Resource}
use Rattle.hx_model.specs.Forest.{Forest, names_of, is_there, parent_of, in_chain, subtree_of}
use Rattle.hx_model.proofs.Climbing.{Above, itself, through, chain_above, above_chain, is_same}
use Rattle.hx_model.proofs.Parents.{swap_same}
use Rattle.hx_model.proofs.Walking.{both, chain_there}
use Rattle.hx_forest.proofs.Named.{is_below_all, ascends, same_values, ascends-with_value, ascends-with_changed, lookup-with_value, lookup-with_changed}
use Rattle.hx_quota.specs.declared.entry.Delta.{Delta}
use Rattle.hx_quota.specs.Counters.{Entry, Entries, entry_of, node_for, tree_of, own_of, own_in, part_of, used_in, with_entry, new_entry, without_entry, with_parent, with_shifted, AllFit}
use Rattle.hx_quota.specs.PlaceRows.{Links, ring_in}
use Rattle.hx_quota.specs.RingLinks.{or_ring, with_rings, AreRings, IsRingTop}
use Rattle.hx_quota.proofs.Around.{IsClosed, upward, chain_apart, chain_round}
use Rattle.hx_quota.proofs.Cutting.{sum-alike}
use Rattle.hx_quota.proofs.Deltas.{shift_in}
use Rattle.hx_quota.proofs.Sums.{Pair}
use Rattle.hx_quota.proofs.Trees.{node_of-tree}
use Rattle.hx_quota.proofs.UsedSums.{in_tree, out_of_tree, alone_apart, among_names}

-- an entry with the link of its namespace
abbrev pub ringed : Links → List ℕ → Entry → Entry
ringed rings n e = record e { parent = or_ring (ring_in rings n) e.parent }

-- ---- what is found

pub ringed_entry : (rings : Links) (es : Entries) (q : List ℕ) → entry_of (with_rings rings es) q ≡ option_map (ringed rings q) (entry_of es q)
ringed_entry rings [] q = refl
ringed_entry rings (e ∷ es) q = elim (bytes_eq q e.0) as (λ b. bytes_eq q e.0 ≡ b → cond b (Some (ringed rings e.0 e.1)) (entry_of (with_rings rings es) q) ≡ option_map (ringed rings q) (cond b (Some e.1) (entry_of es q))) [
  | true ↦ λ same. ap (λ (k : List ℕ). Some (ringed rings k e.1)) (sym (is_same q e.0 same))
  | false ↦ λ out. ringed_entry rings es q
] refl

some_ringed : (rings : Links) (q : List ℕ) (o : Option Entry) → is_some (option_map (ringed rings q) o) ≡ is_some o
some_ringed rings q None = refl
some_ringed rings q (Some e) = refl

pub ringed_some : (rings : Links) (es : Entries) (q : List ℕ) → is_some (entry_of (with_rings rings es) q) ≡ is_some (entry_of es q)
ringed_some rings es q = ap is_some (ringed_entry rings es q) ∙ some_ringed rings q (entry_of es q)

pub ringed_none : (rings : Links) (es : Entries) (q : List ℕ) → entry_of (with_rings rings es) q ≡ None → entry_of es q ≡ None
ringed_none rings es q none = by (entry_of es q) (sym (ringed_entry rings es q) ∙ none)
  where
    by : (o : Option Entry) → option_map (ringed rings q) o ≡ None → o ≡ None
    by None h = refl
    by (Some e) h = absurd (none-some (ringed rings q e) (sym h))

pub given_open : (rings : Links) (es : Entries) (o : Option (List ℕ)) → IfSome o (λ p. is_some (entry_of (with_rings rings es) p) ≡ true) → IfSome o (λ p. is_some (entry_of es p) ≡ true)
given_open rings es None there = tt
given_open rings es (Some p) there = sym (ringed_some rings es p) ∙ there

pub ringed_there : (rings : Links) (es : Entries) (q : List ℕ) → is_there (tree_of (with_rings rings es)) q ≡ is_there (tree_of es) q
ringed_there rings es q = in_tree (with_rings rings es) q ∙ ringed_some rings es q ∙ sym (in_tree es q)

parent_in_tree : (es : Entries) (m : List ℕ) → parent_of (tree_of es) m ≡ option_and_then (λ (e : Entry). e.parent) (entry_of es m)
parent_in_tree es m = ap (λ (o : Option Node). option_and_then (λ node. node.parent) o) (node_of-tree es m) ∙ either (entry_of es m)
  where
    either : (o : Option Entry) → option_and_then (λ (node : Node). node.parent) (option_map node_for o) ≡ option_and_then (λ (e : Entry). e.parent) o
    either None = refl
    either (Some e) = refl

-- who isn't there has no such link
pub no_ring : (rings : Links) (es : Entries) → AreRings (ring_in rings) (tree_of es) → (m : List ℕ) → entry_of es m ≡ None → ring_in rings m ≡ None
no_ring rings es are m away = by (ring_in rings m) refl
  where
    by : (o : Option (List ℕ)) → ring_in rings m ≡ o → o ≡ None
    by None is = refl
    by (Some p) is = absurd (true≢false (sym ((chain_there (tree_of es) p).there m (are m p is).1) ∙ out_of_tree es m away))

pub closed_rings : (rings : Links) (es : Entries) → AreRings (ring_in rings) (tree_of es) → IsClosed (ring_in rings) (tree_of (with_rings rings es)) (tree_of es)
closed_rings rings es are = record {
  there = λ m. ringed_there rings es m;
  parents = λ m. parent_in_tree (with_rings rings es) m ∙ ap (λ (o : Option Entry). option_and_then (λ e. e.parent) o) (ringed_entry rings es m) ∙ by m (entry_of es m) refl ∙ ap (λ (o : Option (List ℕ)). or_ring (ring_in rings m) o) (sym (parent_in_tree es m));
}
  where
    by : (m : List ℕ) (w : Option Entry) → entry_of es m ≡ w → option_and_then (λ (e : Entry). e.parent) (option_map (ringed rings m) w) ≡ or_ring (ring_in rings m) (option_and_then (λ (e : Entry). e.parent) w)
    by m None away = sym (ap (λ (o : Option (List ℕ)). or_ring o None) (no_ring rings es are m away))
    by m (Some e) is = refl

-- ---- sums

sum_ringed : (g : Pair → ℕ) (rings : Links) → ((n : List ℕ) (e : Entry) → g (n, ringed rings n e) ≡ g (n, e)) → (es : Entries) → sum_by g (with_rings rings es) ≡ sum_by g es
sum_ringed g rings same [] = refl
sum_ringed g rings same (e ∷ es) =
    let here : g (e.0, ringed rings e.0 e.1) ≡ g e = same e.0 e.1 in
    omega (arith, here, sum_ringed g rings same es, sum_by-cons g e es, sum_by-cons g (e.0, ringed rings e.0 e.1) (with_rings rings es))

pub fits_open : (rings : Links) (es : Entries) → AllFit (with_rings rings es) → AllFit es
fits_open rings es fits r = subst (λ (k : ℕ). k < 2 ^ 128) (sum_ringed (λ (e : Pair). own_of r e.1) rings (λ n e. refl) es) (fits r)

pub own_ringed : (rings : Links) (es : Entries) (n : List ℕ) (r : Resource) → own_in (with_rings rings es) n r ≡ own_in es n r
own_ringed rings es n r = ap (λ (o : Option Entry). option_map_or (own_of r) o 0) (ringed_entry rings es n) ∙ either (entry_of es n)
  where
    either : (o : Option Entry) → option_map_or (own_of r) (option_map (ringed rings n) o) 0 ≡ option_map_or (own_of r) o 0
    either None = refl
    either (Some e) = refl

module _ (rings : Links) (es : Entries) (are : AreRings (ring_in rings) (tree_of es)) where
  abbrev f : Forest
  f = tree_of (with_rings rings es)

  abbrev g : Forest
  g = tree_of es

  used_by : (n k : List ℕ) → ((m : List ℕ) → in_chain f m n ≡ in_chain g m k) → (r : Resource) → used_in (with_rings rings es) n r ≡ used_in es k r
  used_by n k same r = sum_ringed (part_of f n r) rings (λ m e. refl) es ∙ sum-alike (part_of f n r) (part_of g k r) es (λ e _. ap (λ b. cond b (own_of r e.1) 0) (same e.0))

  pub used_apart : (n : List ℕ) → IsRingTop (ring_in rings) g n None → (r : Resource) → used_in (with_rings rings es) n r ≡ used_in es n r
  used_apart n none r = used_by n n (chain_apart (ring_in rings) f g (closed_rings rings es are) are n none) r

  pub used_round : (n t : List ℕ) → IsRingTop (ring_in rings) g n (Some t) → (r : Resource) → used_in (with_rings rings es) n r ≡ used_in es t r
  used_round n t top r = used_by n t (chain_round (ring_in rings) f g (closed_rings rings es are) are n t top) r

-- ---- changes

pub ringed_moved : (old new : Links) (n : List ℕ) (parent : Option (List ℕ)) → ((q : List ℕ) → bytes_eq n q ≡ false → ring_in new q ≡ ring_in old q) → (es : Entries)
    → with_rings new (with_parent n parent es) ≡ with_parent n (or_ring (ring_in new n) parent) (with_rings old es)
ringed_moved old new n parent same [] = refl
ringed_moved old new n parent same (e ∷ es) = λ i. (e.0, either (bytes_eq n e.0) refl i) ∷ ringed_moved old new n parent same es i
  where
    either : (b : Bool) → bytes_eq n e.0 ≡ b → ringed new e.0 (cond b (record (e.1) { parent = parent }) e.1) ≡ cond b (record (ringed old e.0 e.1) { parent = or_ring (ring_in new n) parent }) (ringed old e.0 e.1)
    either true is = ap (λ (k : List ℕ). record (e.1) { parent = or_ring (ring_in new k) parent }) (sym (is_same n e.0 is))
    either false out = ap (λ (o : Option (List ℕ)). record (e.1) { parent = or_ring o e.1.parent }) (same e.0 out)

pub ringed_shifted : (rings : Links) (n : List ℕ) (deltas : List Delta) (es : Entries) → with_rings rings (with_shifted (n ∷ []) deltas es) ≡ with_shifted (n ∷ []) deltas (with_rings rings es)
ringed_shifted rings n deltas [] = refl
ringed_shifted rings n deltas (e ∷ es) = λ i. (e.0, either (bytes_eq n e.0) i) ∷ ringed_shifted rings n deltas es i
  where
    either : (b : Bool) → ringed rings e.0 (cond b (shift_in deltas e.1) e.1) ≡ cond b (shift_in deltas (ringed rings e.0 e.1)) (ringed rings e.0 e.1)
    either true = refl
    either false = refl

below_ringed : (a : List ℕ) (rings : Links) (es : Entries) → is_below_all a (with_rings rings es) ≡ is_below_all a es
below_ringed a rings [] = refl
below_ringed a rings (y ∷ es) = ap (λ b. is_lt (bytes_cmp a y.0) && b) (below_ringed a rings es)

pub ascends_ringed : (rings : Links) (es : Entries) → ascends (with_rings rings es) ≡ ascends es
ascends_ringed rings [] = refl
ascends_ringed rings (y ∷ es) = λ i. below_ringed y.0 rings es i && ascends_ringed rings es i

pub ringed_added : (old new : Links) (n : List ℕ) (es : Entries) → ascends es ≡ true → ring_in new n ≡ None → ((q : List ℕ) → bytes_eq n q ≡ false → ring_in new q ≡ ring_in old q)
    → with_rings new (with_entry n new_entry es) ≡ with_entry n new_entry (with_rings old es)
ringed_added old new n es up none same = same_values (with_rings new (with_entry n new_entry es)) (with_entry n new_entry (with_rings old es))
    (ascends_ringed new (with_entry n new_entry es) ∙ ascends-with_value n new_entry es up) (ascends-with_value n new_entry (with_rings old es) (ascends_ringed old es ∙ up))
    (λ q. ringed_entry new (with_entry n new_entry es) q ∙ ap (option_map (ringed new q)) (lookup-with_value n new_entry es q) ∙ by q (bytes_eq q n) refl ∙ sym (lookup-with_value n new_entry (with_rings old es) q))
  where
    by : (q : List ℕ) (b : Bool) → bytes_eq q n ≡ b → option_map (ringed new q) (cond b (Some new_entry) (entry_of es q)) ≡ cond b (Some new_entry) (entry_of (with_rings old es) q)
    by q true is = ap (λ (o : Option (List ℕ)). Some (record new_entry { parent = or_ring o None })) (ap (ring_in new) (is_same q n is) ∙ none)
    by q false out = ap (λ (o : Option (List ℕ)). option_map (λ (e : Entry). record e { parent = or_ring o e.parent }) (entry_of es q)) (same q (swap_same q n out)) ∙ sym (ringed_entry old es q)

-- where a root gets such a link, or loses it
pub ringed_linked : (old new : Links) (n : List ℕ) (link : Option (List ℕ)) (es : Entries) → ascends es ≡ true → parent_of (tree_of es) n ≡ None → ring_in new n ≡ link → ((q : List ℕ) → bytes_eq n q ≡ false → ring_in new q ≡ ring_in old q)
    → with_rings new es ≡ with_parent n link (with_rings old es)
ringed_linked old new n link es up root is same = same_values (with_rings new es) (with_parent n link (with_rings old es))
    (ascends_ringed new es ∙ up) (ascends-with_changed n put (with_rings old es) ∙ ascends_ringed old es ∙ up)
    (λ q. ringed_entry new es q ∙ by q (bytes_eq n q) refl ∙ sym (lookup-with_changed n put (with_rings old es) q ∙ ap (λ (o : Option Entry). cond (bytes_eq n q) (option_map put o) o) (ringed_entry old es q)))
  where
    put : Entry → Entry
    put e = record e { parent = link }

    no_parent : (e : Entry) → entry_of es n ≡ Some e → e.parent ≡ None
    no_parent e there = sym (parent_in_tree es n ∙ ap (λ (o : Option Entry). option_and_then (λ x. x.parent) o) there) ∙ root

    plain : (o : Option (List ℕ)) → or_ring o None ≡ o
    plain None = refl
    plain (Some p) = refl

    here : (o : Option Entry) → entry_of es n ≡ o → option_map (ringed new n) o ≡ option_map put (option_map (ringed old n) o)
    here None there = refl
    here (Some e) there = (λ i. Some (record e { parent = or_ring (is i) (no_parent e there i) })) ∙ ap (λ (o : Option (List ℕ)). Some (record e { parent = o })) (plain link)

    by : (q : List ℕ) (b : Bool) → bytes_eq n q ≡ b → option_map (ringed new q) (entry_of es q) ≡ cond b (option_map put (option_map (ringed old q) (entry_of es q))) (option_map (ringed old q) (entry_of es q))
    by q true at = subst (λ (k : List ℕ). option_map (ringed new k) (entry_of es k) ≡ option_map put (option_map (ringed old k) (entry_of es k))) (is_same n q at) (here (entry_of es n) refl)
    by q false out = ap (λ (o : Option (List ℕ)). option_map (λ (e : Entry). record e { parent = or_ring o e.parent }) (entry_of es q)) (same q out)

-- the same parent again
pub parent_again : (n : List ℕ) (parent : Option (List ℕ)) (es : Entries) → ascends es ≡ true → parent_of (tree_of es) n ≡ parent → with_parent n parent es ≡ es
parent_again n parent es up on = same_values (with_parent n parent es) es (ascends-with_changed n put es ∙ up) up (λ q. lookup-with_changed n put es q ∙ by q (bytes_eq n q) refl)
  where
    put : Entry → Entry
    put e = record e { parent = parent }

    here : (o : Option Entry) → entry_of es n ≡ o → option_map put o ≡ o
    here None there = refl
    here (Some e) there = ap (λ (o : Option (List ℕ)). Some (record e { parent = o })) (sym (sym (parent_in_tree es n ∙ ap (λ (o : Option Entry). option_and_then (λ x. x.parent) o) there) ∙ on))

    by : (q : List ℕ) (b : Bool) → bytes_eq n q ≡ b → cond b (option_map put (entry_of es q)) (entry_of es q) ≡ entry_of es q
    by q true at = subst (λ (k : List ℕ). option_map put (entry_of es k) ≡ entry_of es k) (is_same n q at) (here (entry_of es n) refl)
    by q false out = refl

pub ringed_removed : (old new : Links) (n : List ℕ) → ((q : List ℕ) → bytes_eq n q ≡ false → ring_in new q ≡ ring_in old q) → (es : Entries) → with_rings new (without_entry n es) ≡ without_entry n (with_rings old es)
ringed_removed old new n same [] = refl
ringed_removed old new n same (e ∷ es) = elim (bytes_eq n e.0) as (λ b. bytes_eq n e.0 ≡ b → with_rings new (cond (not b) (e ∷ without_entry n es) (without_entry n es)) ≡ cond (not b) ((e.0, ringed old e.0 e.1) ∷ without_entry n (with_rings old es)) (without_entry n (with_rings old es))) [
  | true ↦ λ is. ringed_removed old new n same es
  | false ↦ λ out. λ i. (e.0, record (e.1) { parent = or_ring (same e.0 out i) e.1.parent }) ∷ ringed_removed old new n same es i
] refl

-- ---- one that is in no other chain

first_there : (f : Forest) (m a : List ℕ) → Above f m a → is_there f m ≡ true
first_there f m a (itself there) = there
first_there f m a (through there on rest) = there

names_ringed : (rings : Links) (es : Entries) → names_of (tree_of (with_rings rings es)) ≡ names_of (tree_of es)
names_ringed rings [] = refl
names_ringed rings (e ∷ es) = ap (λ ns. e.0 ∷ ns) (names_ringed rings es)

module _ (rings : Links) (es : Entries) (are : AreRings (ring_in rings) (tree_of es)) (n : List ℕ) (alone : subtree_of (tree_of (with_rings rings es)) n ≡ n ∷ []) (there : is_some (entry_of es n) ≡ true) where
  abbrev with : Forest
  with = tree_of (with_rings rings es)

  abbrev without : Forest
  without = tree_of es

  -- no other one has it in its chain
  apart : (m : List ℕ) → bytes_eq n m ≡ false → Above with m n → ⊥
  apart m out up = true≢false (sym (above_chain with m n up) ∙ alone_apart (with_rings rings es) n m alone out (among_names (with_rings rings es) m (sym (in_tree (with_rings rings es) m) ∙ first_there with m n up)))

  same_below : (m : List ℕ) → in_chain without m n ≡ in_chain with m n
  same_below m = both (in_chain without m n) (in_chain with m n) (λ h. above_chain with m n (upward (ring_in rings) with without (closed_rings rings es are) are m n (chain_above without m n h))) (λ h. by (bytes_eq n m) refl h)
    where
      by : (b : Bool) → bytes_eq n m ≡ b → in_chain with m n ≡ true → in_chain without m n ≡ true
      by true is h = subst (λ (k : List ℕ). in_chain without k n ≡ true) (is_same n m is) (above_chain without n n (itself (in_tree es n ∙ there)))
      by false out h = absurd (apart m out (chain_above with m n h))

  pub alone_open : subtree_of without n ≡ n ∷ []
  alone_open = (λ i. filter (λ m. same_below m i) (sym (names_ringed rings es) i)) ∙ alone

  pub ringless : (m : List ℕ) → bytes_eq n m ≡ false → ring_in rings m ≡ Some n → ⊥
  ringless m out link =
      let is = closed_rings rings es are in
      let mine : is_there with m ≡ true = ringed_there rings es m ∙ (chain_there without n).there m (are m n link).1 in
      let on = is.parents m ∙ ap (λ (o : Option (List ℕ)). or_ring o (parent_of without m)) link in
      apart m out (through mine on (itself (ringed_there rings es n ∙ in_tree es n ∙ there)))
