-- Addresses that a door listens at.
--     IsLoopback            an address that only processes of the machine reach
--     IsHeard, IsForeign    a text asks for a loopback address;  for another one
--     IsListenFault         why a door doesn't listen at what a text asks for
use Rattle.std.specs.Prelude.{ℕ, List}
use Rattle.std.specs.Net.Addr.{MatchIp, IsLoopbackV4, IsLoopbackV6}
use Rattle.std.specs.Net.Grammar.{IsSocketText}
use Rattle.std.specs.Net.Socket.{socket_ip}
use Rattle.std.specs.declared.net.socket_addr.SocketAddr.{SocketAddr}
use Rattle.hx_door.specs.declared.tcp.TcpFault.{TcpFault}
use Rattle.hx_door.specs.declared.tcp.TcpFault.TheVariants.{NotAnAddress, NotLoopback, NotListening, Failed}

-- an address that only processes of the machine reach: 127.0.0.0/8 and ::1 (RFC 1122, 3.2.1.3; RFC 4291, 2.5.3)
abbrev pub IsLoopback : SocketAddr → Type 0
IsLoopback address = MatchIp (socket_ip address) IsLoopbackV4 IsLoopbackV6

-- the text asks for a loopback address and a port
abbrev pub IsHeard : List ℕ → Type 0
IsHeard text = (address : SocketAddr) × IsSocketText text address × IsLoopback address

-- the text asks for another address and a port
abbrev pub IsForeign : List ℕ → Type 0
IsForeign text = (address : SocketAddr) × IsSocketText text address × (¬ IsLoopback address)

-- why a door doesn't listen at what a text asks for: the system is asked for a loopback address alone
abbrev pub IsListenFault : List ℕ → TcpFault → Type 0
IsListenFault text NotAnAddress = (address : SocketAddr) → ¬ IsSocketText text address
IsListenFault text NotLoopback = IsForeign text
IsListenFault text NotListening = ⊥
IsListenFault text (Failed error) = IsHeard text
