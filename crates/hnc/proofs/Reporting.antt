-- Reports on rows, as reports on the state that has them.
--     says_whole, says_front     a text that was written, or a front of it
--     on_state                   what holds of rows holds of a state that has them
--     found_as, audited_none     what an audit finds, by its cases;  one that finds nothing
use Rattle.std.proofs.Common.{◌≡◌, ℕ, List, [], Option, None, sym, subst}
use Rattle.std.proofs.lemmas.List.{append-nil}
use Rattle.std.specs.Io.KnownBytes.{Appends}
use Rattle.hx_ports.specs.Pieces.{WritesFront}
use Rattle.hx_ports.specs.Views.{SinkView}
use Rattle.hx_words.specs.declared.command.Report.{Report}
use Rattle.hx_model.specs.State.{State, Objects}
use Rattle.hx_audit.specs.Auditing.{HasRows, IsFirst}
use Rattle.hx_model.specs.declared.key.Key.{Key}
use Rattle.hnc.specs.Reports.{IsAudited, IsReportOn, Says, SaysFront, audit_line}
use Rattle.hnc.specs.declared.top.Status.{Status}
use Rattle.hnc.specs.declared.top.Status.TheVariants.{Done}

pub says_whole : (report : Report) (status : Status) (s : State) (text : List ℕ) (sink sink' : SinkView) → IsReportOn report status s text → Appends sink.written sink'.written text → Says report status s [] sink sink'
says_whole report status s text sink sink' tells wrote = record { text = text; tells = subst (IsReportOn report status s) (sym (append-nil text)) tells; wrote = wrote }

pub says_front : (report : Report) (status : Status) (s : State) (text : List ℕ) (sink sink' : SinkView) → IsReportOn report status s text → WritesFront text sink.written sink'.written → SaysFront report s sink sink'
says_front report status s text sink sink' tells front = record {
  status = status;
  lacking = front.lacking;
  says = record { text = front.front; tells = subst (IsReportOn report status s) front.whole tells; wrote = front.wrote };
}

-- what holds of rows holds of a state that has them
pub on_state : (P : List (List ℕ) → Objects → Type 0) (rows : Objects) (excluded : List (List ℕ)) (s : State) → HasRows rows excluded s → P excluded rows → P s.config.excluded s.objects
on_state P rows excluded s has p = subst (λ e. P e s.objects) (sym has.excludes) (subst (P excluded) (sym has.objects) p)

-- what an audit finds, by its cases
pub found_as : (s : State) (found known : Option Key) → found ≡ known → IsFirst s found → IsFirst s known
found_as s found known is first = subst (IsFirst s) is first

-- an audit that finds nothing
pub audited_none : (s : State) (status : Status) (text : List ℕ) → status ≡ Done → text ≡ audit_line None → IsFirst s None → IsAudited s status text
audited_none s status text is said first = subst (λ (st : Status). IsAudited s st text) (sym is) (first, said)
