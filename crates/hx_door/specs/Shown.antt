-- What the doors show beside what contracts see of every door.
--     script_of, text_of      what a link's client sends;  what was written to a sink
--     ends_of, lines_of       the ends of a link;  of the links that are still to come
--     is_over                 none is left
--     calls_of                which calls fail
--     listens, why_failed     a door listens;  why its last call failed that did
use Rattle.std.specs.Prelude.{ℕ, Bool, true, false, List, [], ◌∷◌, map, unwrap_or, Option, is_some}
use Rattle.hx_ports.specs.contracts.mem.MemSourceSource.TheImpl as mem_source
use Rattle.hx_ports.specs.contracts.mem.MemSinkSink.TheImpl as mem_sink
use Rattle.hx_ports.specs.declared.mem.MemSink.{MemSink}
use Rattle.hx_ports.specs.declared.mem.MemSource.{MemSource}
use Rattle.hx_ports.specs.declared.mem.Plan.{Plan}
use Rattle.hx_door.specs.declared.mem.MemDoor.{MemDoor}
use Rattle.hx_door.specs.declared.mem.MemLine.{MemLine}
use Rattle.hx_door.specs.declared.tcp.TcpDoor.{TcpDoor}
use Rattle.hx_door.specs.declared.tcp.TcpFault.{TcpFault}

-- what the client of the link sends
abbrev pub script_of : MemLine → List ℕ
script_of line = unwrap_or ((mem_source.ghosts).shown line.source).left []

-- the ends of the link
abbrev pub ends_of : MemLine → MemSource × MemSink
ends_of line = (line.source, line.sink)

-- the ends of the links that are still to come
abbrev pub lines_of : MemDoor → List (MemSource × MemSink)
lines_of door = map ends_of door.coming.items

-- what was written to the sink
abbrev pub text_of : MemSink → List ℕ
text_of sink = unwrap_or ((mem_sink.ghosts).shown sink).written []

-- none is left
abbrev pub is_over : {A : Type 0} → List A → Bool
is_over [] = true
is_over (x ∷ xs) = false

-- which calls of `listen` and `accept` fail, and how many there were
abbrev pub calls_of : MemDoor → Plan
calls_of door = record { numbers = door.fails; calls = door.calls }

-- the door listens
abbrev pub listens : TcpDoor → Bool
listens door = is_some door.listener

-- why the last call failed that did
abbrev pub why_failed : TcpDoor → Option TcpFault
why_failed door = door.last_fault
