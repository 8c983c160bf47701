-- What the ports show beside what contracts see of every port.
--     bytes_left, most_given     how many bytes a source has left, and the most that one read gives
--     room_of                    how many bytes a sink still takes
--     held_by, given_meta, place_of, tells_rows      what a keeper holds, what it was given, where it is, and whether it tells its rows
--     reads_of, writes_of        which reads of a source fail, and which writes of a sink
--     most_taken                 the most that one write of a sink takes
--     read_calls                 which calls of a keeper fail, beside its commits
--     failing_of, commits_of     the commits of a keeper that fail, and how many there were
--     kept_by                    the keeper that holds the rows
--     last_read_fault, last_write_fault      why the last read or write failed that did
use Rattle.std.specs.Prelude.{ℕ, ◌-◌, Bool, List, vec_len, vec_capacity, Option, option_map, string_bytes}
use Rattle.hx_ports.specs.declared.mem.FailCommit.{FailCommit}
use Rattle.hx_ports.specs.declared.mem.MemKeeper.{MemKeeper}
use Rattle.hx_ports.specs.declared.mem.MemSink.{MemSink}
use Rattle.hx_ports.specs.declared.mem.MemSource.{MemSource}
use Rattle.hx_ports.specs.declared.mem.Plan.{Plan}
use Rattle.hx_ports.specs.declared.keeper.Meta.{Meta}
use Rattle.hx_ports.specs.declared.std_stream.StdSink.{StdSink}
use Rattle.hx_ports.specs.declared.std_stream.StdSource.{StdSource}
use Rattle.hx_ports.specs.declared.std_stream.StreamFault.{StreamFault}
use Rattle.hx_ports.specs.declared.sure_keeper.SureKeeper.{SureKeeper}
use Rattle.hx_ports.specs.declared.sure.SureSink.{SureSink}
use Rattle.hx_ports.specs.declared.sure.SureSource.{SureSource}
use Rattle.hx_ports.specs.Keeping.{Kept}
use Rattle.hx_ports.specs.Rows.{rows_in, rows_over}

-- how many bytes are left
abbrev pub bytes_left : SureSource → ℕ
bytes_left s = vec_len s.bytes - s.at

-- the most bytes that one read gives
abbrev pub most_given : SureSource → ℕ
most_given s = s.piece

-- how many bytes are still taken
abbrev pub room_of : SureSink → ℕ
room_of s = vec_capacity s.into - vec_len s.into

-- what the keeper holds, whether it tells it or not
abbrev pub held_by : SureKeeper → Kept
held_by k = record { schema = k.meta.schema; version = k.meta.version; rows = rows_over k.given.items (rows_in k.rows) }

-- the schema and the version, and the number of rows that was given
abbrev pub given_meta : SureKeeper → Meta
given_meta k = k.meta

-- the path that the keeper was attached at
abbrev pub place_of : SureKeeper → Option (List ℕ)
place_of k = option_map string_bytes k.place

-- the keeper tells its rows
abbrev pub tells_rows : SureKeeper → Bool
tells_rows k = k.tells

-- which reads fail, and how many there were
abbrev pub reads_of : MemSource → Plan
reads_of s = s.plan

-- which writes fail, and how many there were
abbrev pub writes_of : MemSink → Plan
writes_of s = s.plan

-- the most bytes that one write takes
abbrev pub most_taken : MemSink → ℕ
most_taken s = s.piece

-- which calls fail, beside commits, and how many there were
abbrev pub read_calls : MemKeeper → Plan
read_calls k = k.reads

-- the commits that fail
abbrev pub failing_of : MemKeeper → List FailCommit
failing_of k = k.fail_commits.items

-- how many commits there were
abbrev pub commits_of : MemKeeper → ℕ
commits_of k = k.commits

-- the keeper that holds the rows
abbrev pub kept_by : MemKeeper → SureKeeper
kept_by k = k.keeper

-- why the last read failed that did
abbrev pub last_read_fault : {R : Type 0} → StdSource R → Option StreamFault
last_read_fault s = s.last_fault

-- why the last write failed that did
abbrev pub last_write_fault : {W : Type 0} → StdSink W → Option StreamFault
last_write_fault s = s.last_fault
