-- What the commands leave that print a report on what is stored.
--     IsDescribed, IsAudited         what is told of a namespace;  by an audit
--     IsReportOn report status s text   what a report says of a state, and the status that it ends with
--     is_told                        a status with which a report is printed whole
--     Says, SaysFront                a report was printed;  a front of it
--     Prints                         what such a command leaves: a report on the state whose rows the keeper has
--     PrintsWhole, PrintsFront       the same where all of it was written;  where a write failed
-- Nothing is committed or told, and nothing is read but what the keeper has.
use Rattle.std.specs.Prelude.{◌≡◌, ℕ, Bool, true, false, List, [], ◌++◌, codes, is_some, IfSome, Option, None, Some}
use Rattle.std.specs.Io.KnownBytes.{Appends}
use Rattle.hx_ports.specs.Views.{KeeperView, SinkView}
use Rattle.hx_words.specs.declared.command.Command.{Command}
use Rattle.hx_words.specs.declared.command.Report.{Report}
use Rattle.hx_words.specs.declared.command.Report.TheVariants.{Tree, Describe, Quota, Audit}
use Rattle.hx_words.specs.declared.command.Task.{Task}
use Rattle.hx_words.specs.declared.command.Task.TheVariants.{Print}
use Rattle.hx_model.specs.State.{State, Objects, object_at, namespace_id}
use Rattle.hx_model.specs.Valid.{IsValid}
use Rattle.hx_model.specs.declared.key.Key.{Key}
use Rattle.hx_audit.specs.Auditing.{IsFirst}
use Rattle.hx_report.specs.Describing.{describe_text}
use Rattle.hx_report.specs.Sums.{quota_text}
use Rattle.hx_report.specs.Trees.{tree_text}
use Rattle.hx_core.specs.Refinement.{kept_of}
use Rattle.hx_core.specs.Starting.{IsUndamaged}
use Rattle.hx_script.specs.Turns.{key_words}
use Rattle.hnc.specs.declared.top.Status.{Status}
use Rattle.hnc.specs.declared.top.Status.TheVariants.{Done, Unsettled, NotFound}

-- that no key wants a write, or the least one that does
abbrev pub audit_line : Option Key → List ℕ
audit_line None = codes "settled\n"
audit_line (Some key) = codes "differs " ++ (key_words key ++ codes "\n")

-- what is told of a namespace: its place in the tree where it is there, and else nothing, by a status of its own
abbrev pub IsDescribed : List (List ℕ) → Objects → List ℕ → Status → List ℕ → Type 0
IsDescribed excluded objects n Done text = (is_some (object_at objects (namespace_id n)) ≡ true) × (text ≡ describe_text excluded objects n)
IsDescribed excluded objects n NotFound text = (is_some (object_at objects (namespace_id n)) ≡ false) × (text ≡ [])
IsDescribed excluded objects n status text = ⊥

-- what an audit tells: that no key wants a write, or the least one that does
abbrev pub IsAudited : State → Status → List ℕ → Type 0
IsAudited s Done text = IsFirst s None × (text ≡ audit_line None)
IsAudited s Unsettled text = (key : Key) × (IsFirst s (Some key) × (text ≡ audit_line (Some key)))
IsAudited s status text = ⊥

-- What a report says of a state, and the status that it ends with
abbrev pub IsReportOn : Report → Status → State → List ℕ → Type 0
IsReportOn Tree status s text = (status ≡ Done) × (text ≡ tree_text s.config.excluded s.objects)
IsReportOn (Describe n) status s text = IsDescribed s.config.excluded s.objects n status text
IsReportOn Quota status s text = (status ≡ Done) × (text ≡ quota_text s.config.excluded s.objects)
IsReportOn Audit status s text = IsAudited s status text

-- a report is printed whole
abbrev pub is_told : Status → Bool
is_told Done = true
is_told Unsettled = true
is_told NotFound = true
is_told _ = false

-- a report on a state was printed, but for what is lacking of its end
pub record Says (report : Report) (status : Status) (s : State) (lacking : List ℕ) (sink sink' : SinkView) : Type 0 where
  pub text : List ℕ
  pub tells : IsReportOn report status s (text ++ lacking)
  pub wrote : Appends sink.written sink'.written text

-- a front of it was
pub record SaysFront (report : Report) (s : State) (sink sink' : SinkView) : Type 0 where
  pub status : Status
  pub lacking : List ℕ
  pub says : Says report status s lacking sink sink'

-- that of a task; no other task prints one
abbrev pub SaysOf : Task → Status → State → List ℕ → SinkView → SinkView → Type 0
SaysOf (Print report) status s lacking sink sink' = Says report status s lacking sink sink'
SaysOf _ status s lacking sink sink' = ⊥

-- There is a valid state, under the configuration of the words: the one whose rows the keeper has, where it tells them. What is written is the report on it, but for what is lacking.
-- The keeper was undamaged. It is at the path of the words now, holds what it held, and its watchers were told of nothing.
pub record Prints (command : Command) (status : Status) (lacking : List ℕ) (sink sink' : SinkView) (keeper keeper' : KeeperView) : Type 0 where
  pub state : State
  pub valid : IsValid state
  pub undamaged : IfSome keeper.kept IsUndamaged
  pub configured : state.config ≡ command.config
  pub opens : IfSome keeper.kept (λ held. held ≡ kept_of state)
  pub says : SaysOf command.task status state lacking sink sink'
  pub place : keeper'.place ≡ Some command.db
  pub same : IfSome keeper.kept (λ held. keeper'.kept ≡ Some held)
  pub whole : keeper'.broken ≡ keeper.broken
  pub still : keeper'.faults ≡ keeper.faults
  pub untold : keeper'.watchers ≡ keeper.watchers

-- all of it was written
abbrev pub PrintsWhole : Command → Status → SinkView → SinkView → KeeperView → KeeperView → Type 0
PrintsWhole command status sink sink' keeper keeper' = Prints command status [] sink sink' keeper keeper'

-- a front of it was
pub record PrintsFront (command : Command) (sink sink' : SinkView) (keeper keeper' : KeeperView) : Type 0 where
  pub status : Status
  pub lacking : List ℕ
  pub prints : Prints command status lacking sink sink' keeper keeper'
