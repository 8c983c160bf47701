-- Prepared changes, one made after the other.
--     ready_on                    once the first one is made
--     ready_named                 where only room and notes of the nodes have changed
--     under_same                  where a child goes, there is as much room as before
--     all_within, one_within      what holds of each place of a list
use Rattle.std.proofs.Common.{◌≡◌, ℕ, suc, ◌+◌, ◌-◌, ◌<◌, ◌≤◌, List, [], ◌∷◌, length, get_or, Option, Some, None, sym, ap, subst, ◌∙◌, inl, inr, arith}
use Rattle.std.specs.List.{AllByRecursion, AllWithin}
use Rattle.std.proofs.lemmas.Bool.{cases_order}
use Rattle.std.proofs.lemmas.List.{get_or_default}
use Rattle.std.specs.Map.{keys_of}
use Rattle.std.specs.Prelude.{vec_capacity, vec_len}
use Rattle.indexmap.specs.IndexMap.{spare}
use Rattle.hx_forest.specs.declared.children.Children.{Children}
use Rattle.hx_forest.specs.declared.children.Link.{Link}
use Rattle.hx_forest.specs.declared.nodes.Nodes.{Nodes}
use Rattle.hx_forest.specs.declared.prepared.Prepared.{Prepared}
use Rattle.hx_forest.specs.Children.{Lists, lists_of, IsIndex, Fits}
use Rattle.hx_forest.specs.Kept.{changed_by, MayChangeAll}
use Rattle.hx_forest.specs.ParentRefs.{forest_of}
use Rattle.hx_forest.specs.Staged.{changes_of, StartsEmpty, FitsUnder, IsPrepared}
use Rattle.hx_forest.specs.Invariant.{IsReady}
use Rattle.hx_forest.proofs.Indexing.{lists_named, index_named}

-- ---- less room is there too

pub fewer_start : (j k : ℕ) (link : Option Link) → j ≤ k → StartsEmpty k link → StartsEmpty j link
fewer_start j k None less h = tt
fewer_start j k (Some link) less h = (h.0, omega (arith, h.1))

-- ---- one after the other

under_on : (k : ℕ) (old new : Lists) (link : Option Link) → ((q : List ℕ) → Fits (suc k) (old q) → Fits k (new q)) → FitsUnder (suc k) old link → FitsUnder k new link
under_on k old new None fits h = tt
under_on k old new (Some link) fits h = fits link.parent h

all_on : (k : ℕ) (old new : Lists) (ps : List Prepared) → ((q : List ℕ) → Fits (suc k) (old q) → Fits k (new q)) → AllByRecursion (IsPrepared (suc k) old) ps → AllByRecursion (IsPrepared k new) ps
all_on k old new [] fits h = tt
all_on k old new (p ∷ ps) fits h = (((h.0.0.0, fewer_start k (suc k) p.link (omega arith) h.0.0.1), under_on k old new p.link fits h.0.1), all_on k old new ps fits h.1)

-- once the first one is made
pub ready_on : (nodes after : Nodes) (c new : Children) (p : Prepared) (rest : List Prepared) → IsReady nodes c (p ∷ rest) → forest_of after ≡ changed_by p.change (forest_of nodes) → IsIndex after new (forest_of after)
    → nodes.places.spare ≤ after.places.spare + 1 → vec_capacity c.lists - vec_len c.lists ≤ vec_capacity new.lists - vec_len new.lists + 1 → spare c.others ≤ spare new.others + 1
    → ((k : ℕ) (q : List ℕ) → StartsEmpty (k + 1) p.link → Fits (k + 1) (lists_of nodes c q) → Fits k (lists_of after new q)) → IsReady after new rest
ready_on nodes after c new p rest h is index node_room list_room other_room fits = record {
  index = index;
  may = subst (MayChangeAll (changes_of rest)) (sym is) h.may.1;
  prepared = all_on (length rest) (lists_of nodes c) (lists_of after new) rest step h.prepared.1;
  node_room = omega (arith, h.node_room, node_room);
  list_room = omega (arith, h.list_room, list_room);
  other_room = omega (arith, h.other_room, other_room);
}
  where
    one : suc (length rest) ≡ length rest + 1
    one = omega arith

    step : (q : List ℕ) → Fits (suc (length rest)) (lists_of nodes c q) → Fits (length rest) (lists_of after new q)
    step q h2 = fits (length rest) q (subst (λ (k : ℕ). StartsEmpty k p.link) one h.prepared.0.0.1) (subst (λ (k : ℕ). Fits k (lists_of nodes c q)) one h2)

-- where the names of the nodes stay, and the nodes themselves
pub ready_named : (nodes after : Nodes) (c : Children) (staged : List Prepared) → keys_of after.places.entries ≡ keys_of nodes.places.entries → forest_of after ≡ forest_of nodes → nodes.places.spare ≤ after.places.spare → IsReady nodes c staged → IsReady after c staged
ready_named nodes after c staged names same room h = record {
  index = subst (IsIndex after c) (sym same) (index_named nodes after c (forest_of nodes) names h.index);
  may = subst (MayChangeAll (changes_of staged)) (sym same) h.may;
  prepared = subst (λ (l : Lists). AllByRecursion (IsPrepared (length staged) l) staged) (λ i q. sym (lists_named nodes after c names q) i) h.prepared;
  node_room = omega (arith, h.node_room, room);
  list_room = h.list_room;
  other_room = h.other_room;
}

-- as much room as before
pub under_same : (k : ℕ) (old new : Lists) (link : Option Link) → ((q : List ℕ) → Fits k (old q) → Fits k (new q)) → FitsUnder k old link → FitsUnder k new link
under_same k old new None fits h = tt
under_same k old new (Some link) fits h = fits link.parent h

-- ---- once all have room

pub all_within : (P : Prepared → Type 0) (ps : List Prepared) → AllWithin P ps 0 (length ps) → AllByRecursion P ps
all_within P [] h = tt
all_within P (p ∷ ps) h = (h 0 p (omega arith) (omega arith), all_within P ps (λ k d _ below. h (suc k) d (omega arith) (omega arith)))

-- and one more
pub one_within : (P Q : Prepared → Type 0) (ps : List Prepared) (i : ℕ) (p : Prepared) → p ≡ get_or ps i p → i < length ps → ((x : Prepared) → P x → Q x) → Q p → AllWithin P ps 0 i → AllWithin Q ps 0 (i + 1)
one_within P Q ps i p is within keeps one all k d low below = elim (cases_order k i) [
  | inl same ↦ subst Q (is ∙ get_or_default ps i p d within ∙ ap (λ (j : ℕ). get_or ps j d) (sym same)) one
  | inr (inl less) ↦ keeps (get_or ps k d) (all k d low less)
  | inr (inr more) ↦ absurd (omega arith)
]
