-- Streams in pieces: what writing all of some bytes leaves, and how much is read.
--     WritesFront                  a front of bytes was written
--     IsCalm, WriteCause           no write failed or stalled;  when a write may fail
--     OfBytes told P               there are bytes with P: those that the source tells, where it tells
--     most_stream_bytes            no more are read of a script or of a link
use Rattle.std.specs.Prelude.{◌≡◌, ◌≤◌, ◌^◌, ◌⊎◌, ℕ, List, ◌++◌, IfSome, OnOk, OnErr}
use Rattle.std.specs.declared.option.Option.{Option}
use Rattle.std.specs.declared.result.Result.{Result}
use Rattle.std.specs.Io.KnownBytes.{Appends}
use Rattle.hx_ports.specs.Causes.{Rose}
use Rattle.hx_ports.specs.Views.{SinkView}

-- a front of the bytes was written
pub record WritesFront (bytes : List ℕ) (before after : Option (List ℕ)) : Type 0 where
  pub front : List ℕ
  pub lacking : List ℕ
  pub whole : bytes ≡ front ++ lacking
  pub wrote : Appends before after front

-- no write failed or stalled
pub record IsCalm (old new : SinkView) : Type 0 where
  pub faults : new.faults ≡ old.faults
  pub stalls : new.stalls ≡ old.stalls

-- the sink's counts never fall; one of them rose where the call failed, and both stayed where it didn't
pub record WriteCause {T E : Type 0} (old new : SinkView) (result : Result T E) : Type 0 where
  pub later : old.faults ≤ new.faults
  pub longer : old.stalls ≤ new.stalls
  pub failed : OnErr result (Rose old.faults new.faults ⊎ Rose old.stalls new.stalls)
  pub still : OnOk result (IsCalm old new)

-- there are bytes with this property. Where the source tells its bytes, it is these
abbrev pub OfBytes : Option (List ℕ) → (List ℕ → Type 0) → Type 0
OfBytes told P = (bytes : List ℕ) × IfSome told (λ all. bytes ≡ all) × P bytes

abbrev pub most_stream_bytes : ℕ
most_stream_bytes = 2 ^ 40
