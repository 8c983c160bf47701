-- How keys are marked one by one, and those of an object as a whole.
--     IsScopeOf f reach      the reach has what takes part below its root
--     HasRoot n reach        it is that of a namespace, as the tree is
--     whole_keys             the keys that are marked as a whole: of an object, in all of the reach
--     IsSpreadable, MayMark  the keys of an object may be marked as a whole, in its namespace's subtree
--     IsReady                keys and an object stand for keys that cover writes, and may be marked
use Rattle.std.specs.Prelude.{◌≡◌, ◌≤◌, ℕ, true, ◌||◌, List, [], Option, Some, None, IfSome, IsSomeAnd, length}
use Rattle.hx_object.specs.declared.object.Id.{Id}
use Rattle.hx_model.specs.Forest.{Forest}
use Rattle.hx_model.specs.Keys.{is_among}
use Rattle.hx_model.specs.State.{State, state_after}
use Rattle.hx_model.specs.Tree.{forest_of}
use Rattle.hx_model.specs.declared.key.Key.{Key}
use Rattle.hx_model.specs.declared.key.Write.{Write}
use Rattle.hx_line.specs.Line.{IsRanked}
use Rattle.hx_marks.specs.Below.{open_below}
use Rattle.hx_marks.specs.Halves.{Covers, IsWithin}
use Rattle.hx_queue.specs.Spread.{Scope, names_in, place_keys}
use Rattle.hx_queue.specs.Workers.{WorkersKept, MaySpread}
use Rattle.hx_core.specs.Committing.{marks_but}

-- the reach has those of its root's subtree that take part, unless it is outdated
abbrev pub IsScopeOf : Forest → Option Scope → Type 0
IsScopeOf f scope = IfSome scope (λ (r : Scope). r.current ≡ true → r.names ≡ open_below f r.root)

-- it isn't outdated, and is of a namespace
abbrev pub HasRoot : List ℕ → Option Scope → Type 0
HasRoot n scope = IsSomeAnd scope (λ (r : Scope). (r.root ≡ n) × (r.current ≡ true))

-- the keys that are marked as a whole
abbrev pub whole_keys : Option Id → Option Scope → List Key
whole_keys None scope = []
whole_keys (Some id) scope = place_keys (names_in scope) id

-- the keys of an object may be marked in all of the reach, which is that of its namespace
pub record IsSpreadable (id : Id) (w : WorkersKept) : Type 0 where
  pub at : HasRoot id.ns w.scope
  pub room : 1 ≤ w.places
  pub may : MaySpread id w.seen.hands w.scope w.spread

-- if there is one
abbrev pub MayMark : Option Id → WorkersKept → Type 0
MayMark spread w = IfSome spread (λ (id : Id). IsSpreadable id w)

-- Keys, and those of an object in all of the reach, are some that cover the writes and lie within what these may make wait, but for one. They may be marked, and the reach is right afterwards, and so is how deep keys lie
pub record IsReady (s : State) (writes : List Write) (own : Option Key) (keys : List Key) (spread : Option Id) (w : WorkersKept) : Type 0 where
  pub marks : List Key
  pub covers : Covers s writes marks
  pub within : IsWithin s writes marks
  pub named : (k : Key) → (is_among k keys || is_among k (whole_keys spread w.scope)) ≡ is_among k (marks_but own marks)
  pub room : length keys ≤ w.spare
  pub may : MayMark spread w
  pub scope : IsScopeOf (forest_of (state_after s writes)) w.scope
  pub ranks : IsRanked (forest_of (state_after s writes)) w.ranks
