-- What runs leave.
use Rattle.std.proofs.Common.{◌≡◌, ◌≢◌, ◌<◌, ◌≤◌, ℕ, Bool, true, false, if◌then◌else◌, List, [], ◌++◌, None, Some, Ok, is_some, length, refl, sym, ap, subst, ◌∙◌, true≢false, ◌⊎◌, inl, inr}
use Rattle.std.specs.Prelude.{IfSome, IsSome, IsSomeAnd}
use Rattle.std.specs.declared.option.Option.{Option}
use Rattle.hx_ports.specs.Keeping.{Kept}
use Rattle.hx_ports.specs.Causes.{Rose, KeeperCause}
use Rattle.hx_ports.specs.Pieces.{OfBytes, most_stream_bytes}
use Rattle.hx_ports.specs.Views.{KeeperView, SinkView, SourceView}
use Rattle.hx_watch.specs.Watching.{HaveFollowed, Members}
use Rattle.hx_model.specs.Happening.{events_in}
use Rattle.hx_model.specs.Machine.{History, IsHistory, opening_world, replay}
use Rattle.hx_model.specs.State.{State}
use Rattle.hx_model.specs.Valid.{IsValid}
use Rattle.hx_core.specs.Refinement.{AllValid, ClusterView, HasWorld, Represents, Simulates, IsKeptOf, kept_of}
use Rattle.hx_words.specs.Words.{asked_if, is_reading, is_run}
use Rattle.hx_words.specs.declared.command.Command.{Command}
use Rattle.hx_words.specs.declared.command.Report.{Report}
use Rattle.hx_words.specs.declared.command.Task.{Task}
use Rattle.hx_words.specs.declared.command.Task.TheVariants.{Print, Run}
use Rattle.hx_core.specs.Starting.{IsUndamaged, IsDamagedAt, IfDamaged}
use Rattle.hx_core.specs.declared.damage.Damage.{Damage}
use Rattle.hx_core.specs.declared.start.StartFault.{StartFault}
use Rattle.hx_core.specs.declared.start.StartFault.TheVariants as start
use Rattle.hx_core.proofs.Reopening.{never_both}
use Rattle.hnc.specs.declared.top.Status.{Status}
use Rattle.hnc.specs.declared.top.Status.TheVariants as ending
use Rattle.hx_script.specs.declared.script.RunEnd.{RunEnd}
use Rattle.hx_script.specs.declared.script.RunEnd.TheVariants.{Done as Ended, NoMemory as Wanting}
use Rattle.hx_script.specs.Lines.{Line, script_lines, unended}
use Rattle.hx_script.specs.Exchanges.{entries_of}
use Rattle.hx_script.specs.Running.{Ran, Does, Cuts, ReadsFront}
use Rattle.hx_model.proofs.Overrunning.{holds_throughout}
use Rattle.hx_model.proofs.Tearing.{holds_after_fault}
use Rattle.hx_model.proofs.Beginning.{excess_begins_only_there, no_excess_by_fault}
use Rattle.hx_model.proofs.Knowing.{speaks_of_keys_alone}
use Rattle.hnc.proofs.Quiet.{quiet_settled}
use Rattle.hnc.specs.Headline.{HoldsBetween, Runs, Carries, Leaves, LeavesWhole, LeavesFront, LeavesRead, OfRun, IsUnbegun, has_not_begun, is_complete, is_cut_short}
use Rattle.hnc.specs.Reports.{Prints, PrintsWhole, PrintsFront, Says, SaysFront, SaysOf, is_told}

-- a cluster was started on a keeper that took its place at the path of the words
pub record Starts (run : Command) (keeper : KeeperView) (c : ClusterView) : Type 0 where
  pub place : c.keeper.place ≡ Some run.db
  pub same : IfSome keeper.kept (λ held. c.keeper.kept ≡ Some held)
  pub whole : c.keeper.broken ≡ keeper.broken
  pub still : c.keeper.faults ≡ keeper.faults
  pub untold : c.keeper.watchers ≡ keeper.watchers
  pub opens : Represents c (opening_world c.keeper.broken c.state)
  pub configured : c.state.config ≡ run.config
  pub valid : IsValid c.state
  pub holds : IfSome c.keeper.kept (λ held. held ≡ kept_of c.state)
  pub undamaged : IfSome c.keeper.kept IsUndamaged

-- a keeper that failed nothing counted nothing
pub still_ok : {T : Type 0} (before now : ℕ) (x : T) → KeeperCause before now (Ok x) → now ≡ before
still_ok before now x cause = cause.still (λ e. cc)

-- want of memory is no end of a script
pub not_done : (end : RunEnd) → end ≡ Wanting → end ≢ Ended
not_done end is e = cc

pub starts_on : {T : Type 0} (run : Command) (keeper attached : KeeperView) (c : ClusterView) → attached.place ≡ Some run.db → IfSome keeper.kept (λ held. attached.kept ≡ Some held) → attached.broken ≡ keeper.broken → attached.watchers ≡ keeper.watchers → (x : T) → KeeperCause keeper.faults attached.faults (Ok x)
    → c.keeper ≡ attached → Represents c (opening_world c.keeper.broken c.state) → c.state.config ≡ run.config → IsValid c.state → IfSome c.keeper.kept (λ held. held ≡ kept_of c.state) → IfSome c.keeper.kept IsUndamaged → Starts run keeper c
starts_on run keeper attached c place same whole untold x cause is opens configured valid holds undamaged = record {
  place = ap (λ k. k.place) is ∙ place;
  same = subst (λ k. IfSome keeper.kept (λ held. k.kept ≡ Some held)) (sym is) same;
  whole = ap (λ k. k.broken) is ∙ whole;
  still = ap (λ k. k.faults) is ∙ still_ok keeper.faults attached.faults x cause;
  untold = ap (λ k. k.watchers) is ∙ untold;
  opens = opens;
  configured = configured;
  valid = valid;
  holds = holds;
  undamaged = undamaged;
}

-- what holds of what a keeper tells now held of what it told before
told_before : (old new : Option Kept) (P : Kept → Type 0) → IfSome old (λ held. new ≡ Some held) → IfSome new P → IfSome old P
told_before None new P same p = tt
told_before (Some held) new P same p = let Q : Option Kept → Type 0 = λ o. IfSome o P in subst Q same p

-- one that told still tells
tells_on : (old new now : Option Kept) → IfSome old (λ held. new ≡ Some held) → is_some now ≡ is_some new → IfSome old (λ _. IsSome now)
tells_on None new now same tells = tt
tells_on (Some held) new None same tells = absurd (true≢false (sym (tells ∙ ap is_some same)))
tells_on (Some held) new (Some kept) same tells = refl

-- a history with what it leaves in a keeper
record Stands (first : State) (entries : History) (broken : Bool) (before : Members) (keeper : KeeperView) : Type 0 where
  history : IsHistory (opening_world broken first) entries
  valid : AllValid (opening_world broken first) entries
  stored : IfSome keeper.kept (IsKeptOf (replay (opening_world broken first) entries))
  breaks : (replay (opening_world broken first) entries).broken ≡ keeper.broken
  told : HaveFollowed (events_in (opening_world broken first) entries) before keeper.watchers

if_some : {A : Type 0} (o : Option A) (P : A → Type 0) → ((x : A) → o ≡ Some x → P x) → IfSome o P
if_some None P p = tt
if_some (Some x) P p = p x refl

-- what holds of its history
runs : (broken : Bool) (first : State) (entries : History) → IsValid first → IsHistory (opening_world broken first) entries → AllValid (opening_world broken first) entries → Runs (opening_world broken first) entries (replay (opening_world broken first) entries)
runs broken first entries valid history all =
    let last = replay (opening_world broken first) entries in
    record {
      history = history;
      leads = refl;
      valid = all;
      settled = quiet_settled (opening_world broken first) entries history;
      limits = holds_throughout broken first entries valid.in_order;
      excess = excess_begins_only_there broken first entries valid.in_order;
      torn = if_some last.torn (HoldsBetween last.state) (λ t is. record { rises = λ a r. holds_after_fault broken first entries t a r valid.in_order history is; begins = no_excess_by_fault broken first entries t valid.in_order history is });
      known = speaks_of_keys_alone broken first entries valid history;
    }

-- what a started cluster made of entries
pub carries : (words : Command) (entries : History) (keeper keeper' : KeeperView) (a b : ClusterView) → Starts words keeper a → keeper' ≡ b.keeper → (HasWorld a → Simulates a entries b) → Carries words entries keeper keeper'
carries words entries keeper keeper' a b starts is simulates =
    let opening = opening_world a.keeper.broken a.state in
    let run = simulates (opening, starts.opens) in
    let steps = run.steps opening starts.opens in
    let here : Stands a.state entries a.keeper.broken a.keeper.watchers b.keeper = record { history = steps.0; valid = run.valid opening starts.opens; stored = steps.1.kept; breaks = steps.1.broken; told = run.told opening starts.opens } in
    let there : Stands a.state entries keeper.broken keeper.watchers keeper' =
    subst (Stands a.state entries keeper.broken keeper.watchers) (sym is) (subst (λ before. Stands a.state entries keeper.broken before b.keeper) starts.untold (subst (λ broken. Stands a.state entries broken a.keeper.watchers b.keeper) starts.whole here)) in
    record {
      first = a.state;
      last = replay (opening_world keeper.broken a.state) entries;
      undamaged = told_before keeper.kept a.keeper.kept IsUndamaged starts.same starts.undamaged;
      configured = starts.configured;
      opens = told_before keeper.kept a.keeper.kept (λ held. held ≡ kept_of a.state) starts.same starts.holds;
      runs = runs keeper.broken a.state entries starts.valid there.history there.valid;
      place = ap (λ k. k.place) is ∙ run.place ∙ starts.place;
      tells = tells_on keeper.kept a.keeper.kept keeper'.kept starts.same (ap (λ k. is_some k.kept) is ∙ run.tells);
      stored = there.stored;
      breaks = there.breaks;
      lost = λ e. subst (λ k. Rose keeper.faults k.faults) (sym is) (subst (λ n. Rose n b.keeper.faults) starts.still (run.cause e));
      still = λ e. ap (λ k. k.faults) is ∙ run.still e ∙ starts.still;
      told = there.told;
    }

-- where it begins and ends
pub carries_ends : (words : Command) (entries : History) (keeper keeper' : KeeperView) (a b : ClusterView) (starts : Starts words keeper a) (is : keeper' ≡ b.keeper) (simulates : HasWorld a → Simulates a entries b)
    → ((carries words entries keeper keeper' a b starts is simulates).first ≡ a.state) × ((carries words entries keeper keeper' a b starts is simulates).last ≡ replay (opening_world keeper.broken a.state) entries)
unfolding carries
carries_ends words entries keeper keeper' a b starts is simulates = (refl, refl)

-- a run of a cluster that was started
leaves : (words : Command) (script : List ℕ) (rest : List Line) (lacking : List ℕ) (sink sink' : SinkView) (keeper keeper' : KeeperView) (a b : ClusterView)
    → Starts words keeper a → keeper' ≡ b.keeper → Ran (script_lines script) rest lacking a b sink.written sink'.written → Leaves words script rest lacking sink sink' keeper keeper'
leaves words script rest lacking sink sink' keeper keeper' a b starts is ran = record {
  exchanges = ran.exchanges;
  text = ran.text;
  each = ran.each;
  lines = ran.split;
  carries = carries words (entries_of ran.exchanges) keeper keeper' a b starts is ran.simulates;
  says = ran.says;
  lacks = ran.lacks;
  wrote = ran.wrote;
}

-- what the words ask for
of_run : (words : Option Command) (run : Command) (source : SourceView) (P : Command → List ℕ → Type 0) → words ≡ Some run → OfBytes source.left (P run) → OfRun words source P
of_run words run source P is p =
    let Q : Option Command → Type 0 = λ o. IsSomeAnd o (λ asked. OfBytes source.left (P asked)) in
    subst Q (sym is) p

pub of_run-whole : (words : Option Command) (run : Command) (source : SourceView) (sink sink' : SinkView) (keeper keeper' : KeeperView) (a b : ClusterView) → words ≡ Some run → Starts run keeper a → keeper' ≡ b.keeper
    → OfBytes source.left (λ script. (length script ≤ most_stream_bytes) × Does (script_lines script) a b sink.written sink'.written) → OfRun words source (λ run script. LeavesWhole run script sink sink' keeper keeper')
of_run-whole words run source sink sink' keeper keeper' a b is starts ends (script, told, (few, does)) =
    of_run words run source (λ run script. LeavesWhole run script sink sink' keeper keeper') is
    (script, told, record { few = few; leaves = leaves run script [] [] sink sink' keeper keeper' a b starts ends does })

front : (run : Command) (script : List ℕ) (sink sink' : SinkView) (keeper keeper' : KeeperView) (a b : ClusterView) → Starts run keeper a → keeper' ≡ b.keeper
    → Cuts (script_lines script) a b sink.written sink'.written → LeavesFront run script sink sink' keeper keeper'
front run script sink sink' keeper keeper' a b starts ends cuts =
    record { rest = cuts.rest; lacking = cuts.lacking; leaves = leaves run script cuts.rest cuts.lacking sink sink' keeper keeper' a b starts ends cuts.ran }

pub of_run-front : (words : Option Command) (run : Command) (source : SourceView) (sink sink' : SinkView) (keeper keeper' : KeeperView) (a b : ClusterView) → words ≡ Some run → Starts run keeper a → keeper' ≡ b.keeper
    → OfBytes source.left (λ script. Cuts (script_lines script) a b sink.written sink'.written) → OfRun words source (λ run script. LeavesFront run script sink sink' keeper keeper')
of_run-front words run source sink sink' keeper keeper' a b is starts ends (script, told, cuts) =
    of_run words run source (λ run script. LeavesFront run script sink sink' keeper keeper') is
    (script, told, front run script sink sink' keeper keeper' a b starts ends cuts)

pub of_run-long : (words : Option Command) (run : Command) (source : SourceView) (sink sink' : SinkView) (keeper keeper' : KeeperView) (a b : ClusterView) → words ≡ Some run → Starts run keeper a → keeper' ≡ b.keeper
    → OfBytes source.left (λ script. (most_stream_bytes < length script) × Cuts (script_lines script) a b sink.written sink'.written) → OfRun words source (λ run script. (most_stream_bytes < length script) × LeavesFront run script sink sink' keeper keeper')
of_run-long words run source sink sink' keeper keeper' a b is starts ends (script, told, (long, cuts)) =
    of_run words run source (λ run script. (most_stream_bytes < length script) × LeavesFront run script sink sink' keeper keeper') is
    (script, told, (long, front run script sink sink' keeper keeper' a b starts ends cuts))

pub of_run-read : (words : Option Command) (run : Command) (source source' : SourceView) (sink sink' : SinkView) (keeper keeper' : KeeperView) (a b : ClusterView) → words ≡ Some run → Starts run keeper a → keeper' ≡ b.keeper
    → ReadsFront source.left source'.left a b sink.written sink'.written → IsSomeAnd words (λ run. LeavesRead run source source' sink sink' keeper keeper')
of_run-read words run source source' sink sink' keeper keeper' a b is starts ends front =
    let Q : Option Command → Type 0 = λ o. IsSomeAnd o (λ asked. LeavesRead asked source source' sink sink' keeper keeper') in
    subst Q (sym is) (record {
      bytes = front.bytes;
      read = front.read;
      leaves = λ more. leaves run (front.bytes ++ more) (script_lines (unended front.bytes ++ more)) [] sink sink' keeper keeper' a b starts ends (front.ran more);
    })

-- where nothing failed and the rows are undamaged, a start ends for want of memory alone
pub wants_memory : (status : Status) (fault : StartFault) (old attached : KeeperView) (faults : ℕ) → (status ≡ ending.KeeperFault) ⊎ ((status ≡ ending.Damaged) ⊎ (status ≡ ending.NoMemory)) → (status ≡ ending.KeeperFault → fault ≡ start.KeeperFault)
    → (status ≡ ending.Damaged → (row : ℕ) × ((damage : Damage) × (fault ≡ start.Damaged row damage))) → attached.faults ≡ old.faults → (fault ≡ start.KeeperFault → Rose attached.faults faults) → (Rose old.faults faults → ⊥) → IfSome old.kept (λ held. attached.kept ≡ Some held)
    → IsSomeAnd old.kept IsUndamaged → IfDamaged fault (λ row. IfSome attached.kept (λ held. IsDamagedAt held row)) → status ≡ ending.NoMemory
wants_memory status fault old attached faults (inl is) failed damaged still rose calm same sound found = absurd (calm (subst (λ n. Rose n faults) still (rose (failed is))))
wants_memory status fault old attached faults (inr (inl is)) failed damaged still rose calm same sound found =
    let row = damaged is in
    absurd (never old.kept attached.kept row.0 same sound (subst (λ f. IfDamaged f (λ r. IfSome attached.kept (λ held. IsDamagedAt held r))) row.1.1 found))
  where
    never : (before now : Option Kept) (row : ℕ) → IfSome before (λ held. now ≡ Some held) → IsSomeAnd before IsUndamaged → IfSome now (λ held. IsDamagedAt held row) → ⊥
    never None now row s good bad = good
    never (Some held) now row s good bad = never_both held row good (subst (λ o. IfSome o (λ h. IsDamagedAt h row)) s bad)
wants_memory status fault old attached faults (inr (inr is)) failed damaged still rose calm same sound found = is

-- ---- reports

-- what the words ask for, where it only reads
pub reads_of : (words : Option Command) (command : Command) (report : Report) → words ≡ Some command → command.task ≡ Print report → asked_if is_reading words ≡ Some command
reads_of words command report is task = ap (asked_if is_reading) is ∙ ap (λ (t : Task). if is_reading t then Some command else None) task

-- what the words ask for, where it is a run
pub runs_of : (words : Option Command) (command : Command) → words ≡ Some command → command.task ≡ Run → asked_if is_run words ≡ Some command
runs_of words command is task = ap (asked_if is_run) is ∙ ap (λ (t : Task). if is_run t then Some command else None) task

-- a report that ended with a known status
pub told_as : (report : Report) (status known : Status) (s : State) (sink sink' : SinkView) → status ≡ known → is_told known ≡ true → (is_told status ≡ true → Says report status s [] sink sink') → Says report known s [] sink sink'
told_as report status known s sink sink' is told says = subst (λ (st : Status). Says report st s [] sink sink') is (says (ap is_told is ∙ told))

never_cut : (status : Status) → is_told status ≡ true → is_cut_short status ≡ true → ⊥
never_cut ending.Done told cut = true≢false (sym cut)
never_cut ending.Usage told cut = true≢false (sym cut)
never_cut ending.ReadFault told cut = true≢false (sym told)
never_cut ending.WriteFault told cut = true≢false (sym told)
never_cut ending.KeeperFault told cut = true≢false (sym cut)
never_cut ending.Damaged told cut = true≢false (sym cut)
never_cut ending.NoMemory told cut = true≢false (sym cut)
never_cut ending.DoorFault told cut = true≢false (sym told)
never_cut ending.Unsettled told cut = true≢false (sym cut)
never_cut ending.TooLong told cut = true≢false (sym told)
never_cut ending.NotFound told cut = true≢false (sym cut)

-- a report that was cut short met a fault of writing
pub cut_by_fault : (status : Status) → (is_told status ≡ true) ⊎ ((status ≡ ending.WriteFault) ⊎ (status ≡ ending.NoMemory)) → is_cut_short status ≡ true → status ≡ ending.WriteFault
cut_by_fault status (inl told) cut = absurd (never_cut status told cut)
cut_by_fault status (inr (inl is)) cut = is
cut_by_fault status (inr (inr is)) cut = absurd (true≢false (sym cut ∙ ap is_cut_short is))

told_complete : (status : Status) → is_told status ≡ true → is_complete status ≡ true
told_complete ending.Done told = refl
told_complete ending.Usage told = absurd (true≢false (sym told))
told_complete ending.ReadFault told = absurd (true≢false (sym told))
told_complete ending.WriteFault told = absurd (true≢false (sym told))
told_complete ending.KeeperFault told = absurd (true≢false (sym told))
told_complete ending.DoorFault told = absurd (true≢false (sym told))
told_complete ending.Damaged told = absurd (true≢false (sym told))
told_complete ending.NoMemory told = refl
told_complete ending.Unsettled told = refl
told_complete ending.TooLong told = refl
told_complete ending.NotFound told = refl

-- a report that met no fault of writing was printed, or wanted memory
pub report_ends : (status : Status) (Write : Type 0) → (is_told status ≡ true) ⊎ ((status ≡ ending.WriteFault) ⊎ (status ≡ ending.NoMemory)) → (status ≡ ending.WriteFault → Write) → (Write → ⊥) → is_complete status ≡ true
report_ends status Write (inl told) write unwritten = told_complete status told
report_ends status Write (inr (inl is)) write unwritten = absurd (unwritten (write is))
report_ends status Write (inr (inr is)) write unwritten = ap is_complete is

-- one for which memory was wanting wrote nothing
pub nothing_printed : {S W : Type 0} (words : Option Command) (command : Command) (source : S) (sink sink' : W) (keeper keeper' : KeeperView) (a : ClusterView) → words ≡ Some command → Starts command keeper a → keeper' ≡ a.keeper → sink' ≡ sink → IsUnbegun words source source sink sink' keeper keeper'
nothing_printed words command source sink sink' keeper keeper' a is starts ends unwritten =
    let Q : Option Command → Type 0 = λ o. IsSomeAnd o (λ c. keeper'.place ≡ Some c.db) in
    record {
      unread = refl;
      unwritten = unwritten;
      same = subst (λ k. IfSome keeper.kept (λ held. k.kept ≡ Some held)) (sym ends) starts.same;
      whole = ap (λ k. k.broken) ends ∙ starts.whole;
      place = inr (subst Q (sym is) (ap (λ k. k.place) ends ∙ starts.place));
      untold = ap (λ k. k.watchers) ends ∙ starts.untold;
    }

-- a report on a cluster that was started, and is closed as it was
pub prints_on : (command : Command) (report : Report) (status : Status) (lacking : List ℕ) (sink sink' : SinkView) (keeper keeper' : KeeperView) (a : ClusterView) → Starts command keeper a → command.task ≡ Print report → keeper' ≡ a.keeper → Says report status a.state lacking sink sink' → Prints command status lacking sink sink' keeper keeper'
prints_on command report status lacking sink sink' keeper keeper' a starts task is says = record {
  state = a.state;
  valid = starts.valid;
  undamaged = told_before keeper.kept a.keeper.kept IsUndamaged starts.same starts.undamaged;
  configured = starts.configured;
  opens = told_before keeper.kept a.keeper.kept (λ held. held ≡ kept_of a.state) starts.same starts.holds;
  says = subst (λ (t : Task). SaysOf t status a.state lacking sink sink') (sym task) says;
  place = ap (λ k. k.place) is ∙ starts.place;
  same = subst (λ k. IfSome keeper.kept (λ held. k.kept ≡ Some held)) (sym is) starts.same;
  whole = ap (λ k. k.broken) is ∙ starts.whole;
  still = ap (λ k. k.faults) is ∙ starts.still;
  untold = ap (λ k. k.watchers) is ∙ starts.untold;
}

-- the same of what the words ask for
pub of_report : (words : Option Command) (command : Command) (report : Report) (status : Status) (sink sink' : SinkView) (keeper keeper' : KeeperView) (a : ClusterView) → words ≡ Some command → Starts command keeper a → command.task ≡ Print report → keeper' ≡ a.keeper → Says report status a.state [] sink sink' → IsSomeAnd words (λ c. PrintsWhole c status sink sink' keeper keeper')
of_report words command report status sink sink' keeper keeper' a is starts task ends says =
    let Q : Option Command → Type 0 = λ o. IsSomeAnd o (λ c. PrintsWhole c status sink sink' keeper keeper') in
    subst Q (sym is) (prints_on command report status [] sink sink' keeper keeper' a starts task ends says)

-- a front of one
pub of_report-front : (words : Option Command) (command : Command) (report : Report) (sink sink' : SinkView) (keeper keeper' : KeeperView) (a : ClusterView) → words ≡ Some command → Starts command keeper a → command.task ≡ Print report → keeper' ≡ a.keeper → SaysFront report a.state sink sink' → IsSomeAnd words (λ c. PrintsFront c sink sink' keeper keeper')
of_report-front words command report sink sink' keeper keeper' a is starts task ends front =
    let Q : Option Command → Type 0 = λ o. IsSomeAnd o (λ c. PrintsFront c sink sink' keeper keeper') in
    subst Q (sym is) (record { status = front.status; lacking = front.lacking; prints = prints_on command report front.status front.lacking sink sink' keeper keeper' a starts task ends front.says })

-- ---- ends without a fault

-- a run that began, and met no fault of reading or writing, was read to its end, was too long, or wanted memory
pub ends_unharmed : (status : Status) (Read Write : Type 0) → has_not_begun status ≡ false → (status ≢ ending.DoorFault) → (status ≡ ending.ReadFault → Read) → (status ≡ ending.WriteFault → Write) → (Read → ⊥) → (Write → ⊥) → is_complete status ≡ true
ends_unharmed ending.Done Read Write begun other read write unread unwritten = refl
ends_unharmed ending.Usage Read Write begun other read write unread unwritten = absurd (true≢false begun)
ends_unharmed ending.ReadFault Read Write begun other read write unread unwritten = absurd (unread (read refl))
ends_unharmed ending.WriteFault Read Write begun other read write unread unwritten = absurd (unwritten (write refl))
ends_unharmed ending.KeeperFault Read Write begun other read write unread unwritten = absurd (true≢false begun)
ends_unharmed ending.Damaged Read Write begun other read write unread unwritten = absurd (true≢false begun)
ends_unharmed ending.NoMemory Read Write begun other read write unread unwritten = refl
ends_unharmed ending.DoorFault Read Write begun other read write unread unwritten = absurd (other refl)
ends_unharmed ending.Unsettled Read Write begun other read write unread unwritten = refl
ends_unharmed ending.TooLong Read Write begun other read write unread unwritten = refl
ends_unharmed ending.NotFound Read Write begun other read write unread unwritten = refl
