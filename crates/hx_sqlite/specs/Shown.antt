-- What a keeper of rows in a database shows beside what contracts see of every keeper.
--     place_of        the path that it was attached at, and its database
--     why_failed      why the last call failed that did
--     reads_only      it is for reading alone
use Rattle.std.specs.Prelude.{Option, Bool, true, false}
use Rattle.hx_sqlite.specs.declared.fault.SqlFault.{SqlFault}
use Rattle.hx_sqlite.specs.declared.place.Access.{Access}
use Rattle.hx_sqlite.specs.declared.place.Access.TheVariants.{Read, Write}
use Rattle.hx_sqlite.specs.declared.place.Place.{Place}
use Rattle.hx_sqlite.specs.declared.keeper.SqlKeeper.{SqlKeeper}

-- the path that it was attached at, and its database
abbrev pub place_of : SqlKeeper → Option Place
place_of k = k.place

-- why the last call failed that did, commits apart that a broken keeper refused
abbrev pub why_failed : SqlKeeper → Option SqlFault
why_failed k = k.last_fault

-- an access is one to read alone
abbrev pub is_to_read : Access → Bool
is_to_read Read = true
is_to_read Write = false

-- the keeper is for reading alone
abbrev pub reads_only : SqlKeeper → Bool
reads_only k = is_to_read k.access
