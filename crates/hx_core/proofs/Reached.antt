-- Keys that are marked one by one, and those of an object as a whole.
--     marked_none, marked_both, marked_same    marks of no key, of two lists one behind the other, and of a list that has the same
--     may_still          an object's keys may be marked as a whole while hands, reach and room stay
--     scope_same, ranks_same, ranks_kept   the reach stays right while the state does, and so does how deep keys lie
--     none_ranked, ranked_tree   nothing is kept of how deep keys lie;  the tree stays
--     at_some            what is told of what is there
--     ready_each, ready_whole    keys are ready: one by one, and as a whole
--     marked_ready       what is marked then
--     scope_after, ranks_after   the reach is right after a commit, and so is how deep keys lie
use Rattle.std.proofs.Common.{◌≡◌, ◌≤◌, ◌||◌, ◌&&◌, not, ℕ, Bool, true, false, List, [], ◌++◌, length, Option, Some, None, refl, sym, ap, ◌∙◌, subst, Ok, Err, true≢false}
use Rattle.std.specs.Prelude.{OnOk, IfSome, IsErrOf, IsSomeAnd, option_map, if◌then◌else◌}
use Rattle.std.specs.List.{list_all}
use Rattle.std.specs.declared.result.Result.{Result}
use Rattle.hx_object.specs.declared.object.Id.{Id}
use Rattle.hx_ports.specs.Views.{KeeperView}
use Rattle.hx_model.specs.Forest.{Forest}
use Rattle.hx_model.specs.Hands.{Hand, is_held}
use Rattle.hx_model.specs.Keys.{is_among}
use Rattle.hx_model.specs.State.{State, state_after}
use Rattle.hx_model.specs.Tree.{forest_of}
use Rattle.hx_model.specs.declared.key.Key.{Key}
use Rattle.hx_model.specs.declared.key.Write.{Write}
use Rattle.hx_line.specs.Line.{IsRanked, KeepsRanks, is_at}
use Rattle.hx_marks.proofs.Among.{among_append}
use Rattle.hx_marks.specs.Below.{open_below}
use Rattle.hx_marks.specs.Halves.{Covers, IsWithin}
use Rattle.hx_queue.specs.Spread.{Scope, names_in, place_keys, root_of}
use Rattle.hx_queue.specs.Workers.{WorkersView, WorkersKept, IsMarkedBy, MaySpread}
use Rattle.hx_core.specs.Committing.{AreMarksBut, HasLanded, HasFailed, HasMarkedBut, marks_but}
use Rattle.hx_core.specs.Reaching.{HasRoot, IsScopeOf, IsReady, IsSpreadable, MayMark, whole_keys}
use Rattle.hx_core.specs.declared.commit.CommitFault.{CommitFault}
use Rattle.hx_core.specs.declared.commit.CommitFault.TheVariants.{KeeperFault, NoMemory}

-- ---- marks

or_none : (a : Bool) → (a || false) ≡ a
or_none true = refl
or_none false = refl

pub marked_none : (v : WorkersView) → IsMarkedBy [] v v
marked_none v = record { hands = refl; waiting = λ k. sym (or_none (is_among k v.waiting)); again = λ k. sym (or_none (is_among k v.again)) }

four : (x a b h : Bool) → ((x || (a && h)) || (b && h)) ≡ (x || ((a || b) && h))
four true a b h = refl
four false true b true = refl
four false true true false = refl
four false true false false = refl
four false false b h = refl

joined : (x y z a b ab h g : Bool) → z ≡ (y || (b && g)) → y ≡ (x || (a && h)) → g ≡ h → ab ≡ (a || b) → z ≡ (x || (ab && h))
joined x y z a b ab h g last first held both =
    last ∙ (ap (λ (c : Bool). c || (b && g)) first ∙ (ap (λ (c : Bool). (x || (a && h)) || (b && c)) held ∙ (four x a b h ∙ ap (λ (c : Bool). x || (c && h)) (sym both))))

-- one list was marked, and then another one
pub marked_both : (a b : List Key) (v u w : WorkersView) → IsMarkedBy a v u → IsMarkedBy b u w → IsMarkedBy (a ++ b) v w
marked_both a b v u w first last = record {
  hands = last.hands ∙ first.hands;
  waiting = λ k. joined (is_among k v.waiting) (is_among k u.waiting) (is_among k w.waiting) (is_among k a) (is_among k b) (is_among k (a ++ b)) (not (is_held k v.hands)) (not (is_held k u.hands)) (last.waiting k) (first.waiting k) (ap (λ (hands : List Hand). not (is_held k hands)) first.hands) (among_append k a b);
  again = λ k. joined (is_among k v.again) (is_among k u.again) (is_among k w.again) (is_among k a) (is_among k b) (is_among k (a ++ b)) (is_held k v.hands) (is_held k u.hands) (last.again k) (first.again k) (ap (λ (hands : List Hand). is_held k hands) first.hands) (among_append k a b);
}

pub marked_same : (a b : List Key) (v w : WorkersView) → ((k : Key) → is_among k a ≡ is_among k b) → IsMarkedBy a v w → IsMarkedBy b v w
marked_same a b v w same marked = record {
  hands = marked.hands;
  waiting = λ k. marked.waiting k ∙ ap (λ (x : Bool). is_among k v.waiting || (x && not (is_held k v.hands))) (same k);
  again = λ k. marked.again k ∙ ap (λ (x : Bool). is_among k v.again || (x && is_held k v.hands)) (same k);
}

-- ---- what may be marked as a whole

pub spreadable_still : (id : Id) (w w' : WorkersKept) → IsSpreadable id w → w'.seen.hands ≡ w.seen.hands → w'.scope ≡ w.scope → w'.spread ≡ w.spread → w'.places ≡ w.places → IsSpreadable id w'
spreadable_still id w w' may hands scope spread places = record {
  at = subst (λ (r : Option Scope). HasRoot id.ns r) (sym scope) may.at;
  room = subst (λ n. 1 ≤ n) (sym places) may.room;
  may = subst (λ (hs : List Hand). MaySpread id hs w'.scope w'.spread) (sym hands) (subst (λ (r : Option Scope). MaySpread id w.seen.hands r w'.spread) (sym scope) (subst (λ (ids : List Id). MaySpread id w.seen.hands w.scope ids) (sym spread) may.may));
}

pub may_still : (o : Option Id) (w w' : WorkersKept) → MayMark o w → w'.seen.hands ≡ w.seen.hands → w'.scope ≡ w.scope → w'.spread ≡ w.spread → w'.places ≡ w.places → MayMark o w'
may_still None w w' may hands scope spread places = tt
may_still (Some id) w w' may hands scope spread places = spreadable_still id w w' may hands scope spread places

-- ---- the reach

scope_is : (f : Forest) (place : Option Scope) (n : List ℕ) → IsScopeOf f place → HasRoot n place → names_in place ≡ open_below f n
scope_is f None n right at = absurd at
scope_is f (Some r) n right at = right at.1 ∙ ap (open_below f) at.0

pub scope_same : (s s' : State) (p p' : Option Scope) → s' ≡ s → p' ≡ p → IsScopeOf (forest_of s) p → IsScopeOf (forest_of s') p'
scope_same s s' p p' state place right = subst (λ (r : Option Scope). IsScopeOf (forest_of s') r) (sym place) (subst (λ (t : State). IsScopeOf (forest_of t) p) (sym state) right)

pub ranks_same : (s s' : State) (ranks ranks' : List (Key × ℕ)) → s' ≡ s → ranks' ≡ ranks → IsRanked (forest_of s) ranks → IsRanked (forest_of s') ranks'
ranks_same s s' ranks ranks' state same right = subst (λ (rs : List (Key × ℕ)). IsRanked (forest_of s') rs) (sym same) (subst (λ (t : State). IsRanked (forest_of t) ranks) (sym state) right)

-- and where what holds of all that is kept still does
pub ranks_kept : (s s' : State) (ranks ranks' : List (Key × ℕ)) → s' ≡ s → KeepsRanks ranks ranks' → IsRanked (forest_of s) ranks → IsRanked (forest_of s') ranks'
ranks_kept s s' ranks ranks' state keeps right = subst (λ (t : State). IsRanked (forest_of t) ranks') (sym state) (keeps (is_at (forest_of s)) right)

-- where nothing is kept of it, it is right of any tree
pub none_ranked : (f : Forest) (ranks : List (Key × ℕ)) → ranks ≡ [] → IsRanked f ranks
none_ranked f ranks none = ap (list_all (is_at f)) none

-- it stays right of trees that are the same
pub ranked_tree : (f g : Forest) (ranks : List (Key × ℕ)) → g ≡ f → IsRanked f ranks → IsRanked g ranks
ranked_tree f g ranks same right = subst (λ (t : Forest). IsRanked t ranks) (sym same) right

-- a reach that is outdated is right of any tree
pub outdated_right : (f : Forest) (p p' : Option Scope) → p' ≡ option_map (λ (r : Scope). record r { current = false }) p → IsScopeOf f p'
outdated_right f p p' is = subst (λ (r : Option Scope). IsScopeOf f r) (sym is) (by p)
  where
    by : (o : Option Scope) → IsScopeOf f (option_map (λ (r : Scope). record r { current = false }) o)
    by None = tt
    by (Some r) = λ current. absurd (true≢false (sym current))

-- the reach that is set
pub set_right : (f : Forest) (n : List ℕ) (names : List (List ℕ)) (p : Option Scope) → p ≡ Some (record { root = n; names = names; current = true }) → names ≡ open_below f n → IsScopeOf f p
set_right f n names p is are = subst (λ (r : Option Scope). IsScopeOf f r) (sym is) (λ current. are)

pub set_root : (n : List ℕ) (names : List (List ℕ)) (p : Option Scope) → p ≡ Some (record { root = n; names = names; current = true }) → HasRoot n p
set_root n names p is = subst (λ (r : Option Scope). HasRoot n r) (sym is) (refl, refl)

-- the root of a reach that is current
pub root_is : (n m : List ℕ) (o : Option Scope) → Some m ≡ root_of o → m ≡ n → HasRoot n o
root_is n m None is same = let h = is in cc
root_is n m (Some r) is same = by r.current refl
  where
    by : (b : Bool) → r.current ≡ b → (r.root ≡ n) × (r.current ≡ true)
    by true e = let one : Some m ≡ Some r.root = is ∙ ap (λ (b : Bool). if b then Some r.root else None) e in (let h : m ≡ r.root = cc in sym h ∙ same, e)
    by false e = let none : Some m ≡ None = is ∙ ap (λ (b : Bool). if b then Some r.root else None) e in absurd (let h = none in cc)

pub at_root : (n : List ℕ) (o : Option Scope) → HasRoot n o → IsSomeAnd o (λ (r : Scope). r.root ≡ n)
at_root n None at = at
at_root n (Some r) at = at.0

-- ---- what is ready

pub ready_each : (s : State) (ws : List Write) (own : Option Key) (keys : List Key) (w : WorkersKept) → AreMarksBut s ws own keys → length keys ≤ w.spare → IsScopeOf (forest_of (state_after s ws)) w.scope → IsRanked (forest_of (state_after s ws)) w.ranks → IsReady s ws own keys None w
ready_each s ws own keys w are room right ranked = record {
  marks = are.marks;
  covers = are.covers;
  within = are.within;
  named = λ k. or_none (is_among k keys) ∙ ap (is_among k) are.is;
  room = room;
  may = tt;
  scope = right;
  ranks = ranked;
}

-- what is told of what is there
pub at_some : {A : Type 0} (o : Option A) (x : A) (P : A → Type 0) → o ≡ Some x → IfSome o P → P x
at_some o x P is told = subst (λ p. IfSome p P) is told

pub ready_whole : (s : State) (ws : List Write) (others : List Key) (id : Id) (w : WorkersKept) → Covers s ws (others ++ place_keys (open_below (forest_of s) id.ns) id) → IsWithin s ws (others ++ place_keys (open_below (forest_of s) id.ns) id)
    → forest_of (state_after s ws) ≡ forest_of s → IsScopeOf (forest_of s) w.scope → IsRanked (forest_of s) w.ranks → length others ≤ w.spare → IsSpreadable id w → IsReady s ws None others (Some id) w
ready_whole s ws others id w covers within tree right ranked room may = record {
  marks = others ++ place_keys (open_below (forest_of s) id.ns) id;
  covers = covers;
  within = within;
  named = λ k. ap (λ (names : List (List ℕ)). is_among k others || is_among k (place_keys names id)) (scope_is (forest_of s) w.scope id.ns right may.at) ∙ sym (among_append k others (place_keys (open_below (forest_of s) id.ns) id));
  room = room;
  may = may;
  scope = subst (λ (f : Forest). IsScopeOf f w.scope) (sym tree) right;
  ranks = ranked_tree (forest_of s) (forest_of (state_after s ws)) w.ranks tree ranked;
}

-- keys that were ready are marked
pub marked_ready : {T : Type 0} (s : State) (ws : List Write) (own : Option Key) (keys : List Key) (spread : Option Id) (v v' : WorkersView) (w : WorkersKept) (result : Result T CommitFault) → IsReady s ws own keys spread w → w.seen ≡ v
    → OnOk result (IsMarkedBy (keys ++ whole_keys spread w.scope) w.seen v') → OnOk result (HasMarkedBut s ws own v v')
marked_ready s ws own keys spread v v' w (Ok l) ready seen marked = record {
  marks = ready.marks;
  covers = ready.covers;
  within = ready.within;
  marked = subst (λ (u : WorkersView). IsMarkedBy (marks_but own ready.marks) u v') seen (marked_same (keys ++ whole_keys spread w.scope) (marks_but own ready.marks) w.seen v' (λ k. among_append k keys (whole_keys spread w.scope) ∙ ready.named k) marked);
}
marked_ready s ws own keys spread v v' w (Err fault) ready seen marked = tt

-- ---- after a commit

pub scope_after : {T : Type 0} (s t : State) (ws : List Write) (k k' : KeeperView) (p p' : Option Scope) (result : Result T CommitFault) → IsScopeOf (forest_of s) p → IsScopeOf (forest_of (state_after s ws)) p → p' ≡ p
    → OnOk result (HasLanded s k ws t k') → (IsErrOf result NoMemory → t ≡ s) → (IsErrOf result KeeperFault → HasFailed s k ws t k') → IsScopeOf (forest_of t) p'
scope_after s t ws k k' p p' (Ok l) before after place landed memory fault = scope_same (state_after s ws) t p p' landed.state place after
scope_after s t ws k k' p p' (Err NoMemory) before after place landed memory fault = scope_same s t p p' (memory refl) place before
scope_after s t ws k k' p p' (Err KeeperFault) before after place landed memory fault = scope_same s t p p' (fault refl).state place before

pub ranks_after : {T : Type 0} (s t : State) (ws : List Write) (k k' : KeeperView) (ranks ranks' : List (Key × ℕ)) (result : Result T CommitFault) → IsRanked (forest_of s) ranks → IsRanked (forest_of (state_after s ws)) ranks → ranks' ≡ ranks
    → OnOk result (HasLanded s k ws t k') → (IsErrOf result NoMemory → t ≡ s) → (IsErrOf result KeeperFault → HasFailed s k ws t k') → IsRanked (forest_of t) ranks'
ranks_after s t ws k k' ranks ranks' (Ok l) before after same landed memory fault = ranks_same (state_after s ws) t ranks ranks' landed.state same after
ranks_after s t ws k k' ranks ranks' (Err NoMemory) before after same landed memory fault = ranks_same s t ranks ranks' (memory refl) same before
ranks_after s t ws k k' ranks ranks' (Err KeeperFault) before after same landed memory fault = ranks_same s t ranks ranks' (fault refl).state same before
