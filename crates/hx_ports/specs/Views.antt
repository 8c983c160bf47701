-- What contracts see of a port: what it shows of itself, in one record.
--     KeeperView     of a keeper: its place, what it holds, whether it is broken, how often it failed, and its watchers
--     SinkView       of a sink: what was written, and how often it failed and stalled
--     SourceView     of a source: what is left, and how often it failed
--     HoldsOn        a keeper's view but for the count
use Rattle.std.specs.Prelude.{◌≡◌, ℕ, Bool, List}
use Rattle.std.specs.declared.option.Option.{Option}
use Rattle.hx_watch.specs.Watching.{Members}
use Rattle.hx_ports.specs.Keeping.{Kept}

-- what a keeper shows
pub record KeeperView : Type 0 where
  -- the path that it was attached at, once it was
  pub place : Option (List ℕ)
  -- what it holds, where it tells that
  pub kept : Option Kept
  -- a commit of it failed
  pub broken : Bool
  -- the number of its own failures
  pub faults : ℕ
  -- the watchers that it tells of the events of each commit
  pub watchers : Members

-- what a sink shows
pub record SinkView : Type 0 where
  -- the bytes that were written, where it tells them
  pub written : Option (List ℕ)
  -- the number of writes that failed
  pub faults : ℕ
  -- the number of writes that took nothing of a piece that wasn't empty
  pub stalls : ℕ

-- what a source shows
pub record SourceView : Type 0 where
  -- the bytes that are left, where it tells them
  pub left : Option (List ℕ)
  -- the number of reads that failed
  pub faults : ℕ

-- a keeper is where it was, holds what it held, is as whole as it was, and its watchers are as they were
pub record HoldsOn (old new : KeeperView) : Type 0 where
  pub place : new.place ≡ old.place
  pub kept : new.kept ≡ old.kept
  pub broken : new.broken ≡ old.broken
  pub watchers : new.watchers ≡ old.watchers
