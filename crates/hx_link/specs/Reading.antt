-- What is answered where a read fails.
--     ReadsFront      each message that is whole in what was read was answered
use Rattle.std.specs.Prelude.{◌≡◌, ℕ, List, ◌++◌}
use Rattle.std.specs.declared.option.Option.{Option}
use Rattle.std.specs.Io.KnownBytes.{Consumes}
use Rattle.hx_http.specs.Streams.{Question, behind, stream_of}
use Rattle.hx_link.specs.Running.{Doing, Does}

-- A read failed behind some bytes. The messages that are whole in them were answered, and whatever follows, it is asked from the one on that isn't whole
pub record ReadsFront {V : Type 0} (does : Doing Question V) (told left : Option (List ℕ)) (old new : V) (before after : Option (List ℕ)) : Type 0 where
  pub bytes : List ℕ
  pub read : Consumes told left bytes
  pub does_them : Does does (stream_of bytes).questions old new before after
  pub goes_on : (more : List ℕ) → stream_of (bytes ++ more) ≡ behind (stream_of bytes).questions (stream_of ((stream_of bytes).unused ++ more))
