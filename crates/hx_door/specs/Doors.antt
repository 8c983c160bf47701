-- What contracts see of a door, and what its calls do.
--     DoorView        what a door shows
--     Gives           the first of the scripts that were told is the one that a source has to give
--     Gains           what was written to a link stands behind the texts that were told
--     AreFresh        no read or write of two ends has failed or stalled yet
--     Hands           a link was handed out
--     Closes          no link comes any more
--     TakesBack       a link was taken back
use Rattle.std.specs.Prelude.{◌≡◌, ℕ, ◌-◌, ◌<◌, Bool, true, false, List, [], ◌∷◌, ◌++◌, Option, Some, None, IfSome, OnSome}
use Rattle.hx_ports.specs.Calls.{next_number}
use Rattle.hx_ports.specs.Views.{SourceView, SinkView}

-- what a door shows
pub record DoorView : Type 0 where
  -- the number of its failures
  pub faults : ℕ
  -- how many links it handed out
  pub handed : ℕ
  -- how many of them it hasn't taken back
  pub out : ℕ
  -- no link comes any more
  pub closed : Bool
  -- the bytes of each link that is still to come, where it tells them
  pub coming : Option (List (List ℕ))
  -- what was written to each link that was taken back, where it tells that
  pub written : Option (List (List ℕ))

-- of the scripts that were told the first is what a source has to give, and the others are still to come
abbrev pub Gives : Option (List (List ℕ)) → Option (List (List ℕ)) → Option (List ℕ) → Type 0
Gives None new left = Unit {0}
Gives (Some []) new left = ⊥
Gives (Some (script ∷ rest)) new left = (new ≡ Some rest) × (left ≡ Some script)

-- what was written to a link stands behind the texts that were told
abbrev pub Gains : Option (List (List ℕ)) → Option (List (List ℕ)) → Option (List ℕ) → Type 0
Gains None new written = Unit {0}
Gains (Some texts) new None = Unit {0}
Gains (Some texts) new (Some text) = new ≡ Some (texts ++ text ∷ [])

-- no read of a source and no write of a sink has failed yet, and none has stalled
pub record AreFresh (source : SourceView) (sink : SinkView) : Type 0 where
  pub reads : source.faults ≡ 0
  pub writes : sink.faults ≡ 0
  pub stalls : sink.stalls ≡ 0

-- a door that wasn't closed handed out a link, which has these ends. Nothing was written to it
pub record Hands (old new : DoorView) (source : SourceView) (sink : SinkView) : Type 0 where
  pub unclosed : old.closed ≡ false
  pub counts : new ≡ record old { handed = next_number old.handed; out = next_number old.out; closed = new.closed; coming = new.coming }
  pub gives : Gives old.coming new.coming source.left
  pub fresh : AreFresh source sink
  pub blank : OnSome old.written (sink.written ≡ Some [])

-- the door is closed, and no script is left of those that were told
pub record Closes (old new : DoorView) : Type 0 where
  pub stays : new ≡ record old { closed = true }
  pub none : IfSome old.coming (λ scripts. scripts ≡ [])

-- a link was taken back, of which this sink is left. Where none is out nothing changes
pub record TakesBack (old new : DoorView) (sink : SinkView) : Type 0 where
  pub counts : new ≡ record old { out = old.out - 1; written = new.written }
  pub gains : 0 < old.out → Gains old.written new.written sink.written
  pub none : old.out ≡ 0 → new ≡ old
