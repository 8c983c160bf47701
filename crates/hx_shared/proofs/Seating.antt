-- Seats: what calls do under the turn, and what a seat knows behind them.
--     under_request, under_take, under_finish, under_drop, under_busy    the call that was made stands in the history
--     under_plan            a plan of what a seat took is one of what is held
--     adds, legal_after     the seat has made one call more, and what it has seen is legal
--     met_by, legal_at, left_by          what it knows that met another one;  what a cluster is that was closed
use Rattle.std.proofs.Common.{◌≡◌, ◌≢◌, ℕ, [], ◌∷◌, ◌++◌, Option, Some, None, option_map, refl, sym, ap, ◌∙◌, subst}
use Rattle.std.specs.Prelude.{IfSome, IsSome}
use mathlib.Core.List.{IsPrefix}
use Rattle.atomic_table.specs.Table.{Me}
use Rattle.hx_turn.specs.Passes.{Keeps, after_entry, carrying, first_pass, joined}
use Rattle.hx_model.specs.Hands.{hand_of}
use Rattle.hx_model.specs.Requests.{request_entry}
use Rattle.hx_model.specs.declared.ask.Ask.{Ask}
use Rattle.hx_model.specs.declared.ask.Answer.{Answer}
use Rattle.hx_model.specs.declared.key.Finish.{Finish}
use Rattle.hx_model.specs.declared.key.Finish.TheVariants as ending
use Rattle.hx_model.specs.declared.key.Key.{Key}
use Rattle.hx_reconcile.specs.Briefs.{hand_by}
use Rattle.hx_reconcile.specs.declared.brief.Brief.{Brief}
use Rattle.hx_core.specs.Refinement.{ClusterView, Simulates}
use Rattle.hx_core.specs.Turns.{take_entry, IsInHand}
use Rattle.hx_core.specs.declared.turns.Take.{Take}
use Rattle.hx_shared.specs.declared.call.Call.{Call}
use Rattle.hx_shared.specs.declared.call.Call.TheVariants as call
use Rattle.hx_shared.specs.Calls.{Log, entry_of, opened, StandsAt, IsHistoryFrom}
use Rattle.hx_shared.specs.Seats.{SeatView, HasHistory, HasTaken, Adds, Meets, IsLeftBy}
use Rattle.hx_shared.proofs.Orders.{stands_request, stands_take, stands_finish, stands_drop, stands_busy, is_plan, still_open, history_of}

-- ---- calls under the turn

pub under_request : (o c c' d : ClusterView) (seen : Log) (n : ℕ) (ask ask' : Ask) (answer : Answer) → StandsAt o seen c → c' ≡ c → ask' ≡ ask → Simulates c' (request_entry ask answer ∷ []) d
    → StandsAt o (seen ++ (n, call.Request ask' answer) ∷ []) d
under_request o c c' d seen n ask ask' answer stands same said one =
    subst (λ a. StandsAt o (seen ++ (n, call.Request a answer) ∷ []) d) (sym said) (stands_request o c d seen n ask answer stands (subst (λ x. Simulates x (request_entry ask answer ∷ []) d) same one))

pub under_take : (o c c' d : ClusterView) (seen : Log) (n v : ℕ) (taken : Take) → StandsAt o seen c → c' ≡ c → Simulates c' (take_entry v taken ∷ []) d → IsInHand d.workers.hands v taken → StandsAt o (seen ++ (n, call.Take v taken) ∷ []) d
under_take o c c' d seen n v taken stands same one in_hand = stands_take o c d seen n v taken stands (subst (λ x. Simulates x (take_entry v taken ∷ []) d) same one) in_hand

pub under_busy : (o c c' : ClusterView) (seen : Log) (n waiting held : ℕ) → StandsAt o seen c → c' ≡ c → Simulates c' (entry_of (call.Busy waiting held) ∷ []) c' → StandsAt o (seen ++ (n, call.Busy waiting held) ∷ []) c
under_busy o c c' seen n waiting held stands same one = stands_busy o c seen n waiting held stands (subst (λ x. Simulates x (entry_of (call.Busy waiting held) ∷ []) x) same one)

-- what the seat took before it entered is open
open_now : (o c : ClusterView) (old mid : SeatView) (v : ℕ) (brief : Brief) → StandsAt o mid.seen c → carrying mid.number mid.seen ≡ mid.mine → Keeps old mid → HasTaken old v brief → opened v None mid.seen ≡ Some (mid.number, brief)
open_now o c old mid v brief stands own keeps held =
    still_open o c mid.seen mid.mine v mid.number brief stands own (ap (opened v None) keeps.2 ∙ held ∙ ap (λ n. Some (n, brief)) (sym keeps.1))

pub under_plan : (o c c' : ClusterView) (old mid : SeatView) (v : ℕ) (brief : Brief) → StandsAt o mid.seen c → carrying mid.number mid.seen ≡ mid.mine → Keeps old mid → HasTaken old v brief → c' ≡ c
    → IfSome (hand_of v c'.workers.hands) (λ hand. hand ≡ hand_by v brief)
under_plan o c c' old mid v brief stands own keeps held same =
    subst (λ (x : ClusterView). IfSome (hand_of v x.workers.hands) (λ hand. hand ≡ hand_by v brief)) (sym same) (is_plan o c mid.seen mid.number v brief stands (open_now o c old mid v brief stands own keeps held))

pub under_finish : (o c c' d : ClusterView) (old mid : SeatView) (v : ℕ) (end : Finish) (brief : Brief) → StandsAt o mid.seen c → carrying mid.number mid.seen ≡ mid.mine → Keeps old mid → HasTaken old v brief → c' ≡ c
    → Simulates c' (entry_of (call.Finish v end) ∷ []) d → hand_of v d.workers.hands ≡ None → StandsAt o (mid.seen ++ (mid.number, call.Finish v end) ∷ []) d × (end ≢ ending.Empty)
under_finish o c c' d old mid v end brief stands own keeps held same one empty =
    stands_finish o c d mid.seen mid.number v end brief stands (open_now o c old mid v brief stands own keeps held) (subst (λ x. Simulates x (entry_of (call.Finish v end) ∷ []) d) same one) empty

pub under_drop : (o c c' d : ClusterView) (old mid : SeatView) (v : ℕ) (key key' : Option Key) (brief : Brief) → StandsAt o mid.seen c → carrying mid.number mid.seen ≡ mid.mine → Keeps old mid → HasTaken old v brief → c' ≡ c
    → key' ≡ key → Simulates c' (entry_of (call.Drop v key) ∷ []) d → hand_of v d.workers.hands ≡ None → StandsAt o (mid.seen ++ (mid.number, call.Drop v key') ∷ []) d × IsSome key'
under_drop o c c' d old mid v key key' brief stands own keeps held same said one empty =
    stands_drop o c d mid.seen mid.number v key' brief stands (open_now o c old mid v brief stands own keeps held)
    (subst (λ k. Simulates c (entry_of (call.Drop v k) ∷ []) d) (sym said) (subst (λ x. Simulates x (entry_of (call.Drop v key) ∷ []) d) same one)) empty

some_of : {A B : Type 0} (f : A → B) (o : Option A) → IsSome (option_map f o) → IsSome o
some_of f (Some x) is = refl
some_of f None is = is

-- a drop gives the brief back
pub some_dropped : (dropped : Option Brief) → IsSome (option_map (λ (brief : Brief). brief.key) dropped) → IsSome dropped
some_dropped dropped is = some_of (λ (brief : Brief). brief.key) dropped is

-- ---- seats behind a call

pub adds : (old mid new : SeatView) (e : Call) → new ≡ after_entry mid e → Keeps old mid → Adds old e new
adds old mid new e is keeps = record {
  between = keeps.0.0;
  seen = ap (λ (v : SeatView). v.seen) is ∙ ap (λ n. mid.seen ++ (n, e) ∷ []) keeps.1 ∙ ap (λ l. l ++ (old.number, e) ∷ []) (sym keeps.0.1);
  mine = ap (λ (v : SeatView). v.mine) is ∙ ap (λ l. l ++ (mid.number, e) ∷ []) keeps.2 ∙ ap (λ n. old.mine ++ (n, e) ∷ []) keeps.1;
  number = ap (λ (v : SeatView). v.number) is ∙ keeps.1;
  opening = ap (λ (v : SeatView). v.opening) is ∙ keeps.4;
  rights = ap (λ (v : SeatView). v.rights) is ∙ keeps.3;
  first = ap (λ (v : SeatView). v.first) is ∙ keeps.5;
}

pub legal_after : (o d : ClusterView) (mid new : SeatView) (e : Call) → new ≡ after_entry mid e → mid.opening ≡ Some o → StandsAt o (mid.seen ++ (mid.number, e) ∷ []) d → HasHistory new
legal_after o d mid new e is has stands =
    (o, ap (λ (v : SeatView). v.opening) is ∙ has, subst (IsHistoryFrom o) (sym (ap (λ (v : SeatView). v.seen) is)) (history_of o d (mid.seen ++ (mid.number, e) ∷ []) stands))

-- the first seat has seen the history without calls
pub legal_first : (o : ClusterView) (v : SeatView) → v ≡ first_pass o → StandsAt o [] o → HasHistory v
legal_first o v is stands = (o, ap (λ (v : SeatView). v.opening) is, subst (IsHistoryFrom o) (sym (ap (λ (v : SeatView). v.seen) is)) (history_of o o [] stands))

met : (old other new : SeatView) (log : Log) → new ≡ record (joined old other) { seen = log } → IsPrefix old.seen log → IsPrefix other.seen log → Meets old other new
met old other new log is begins heard = record {
  seen = subst (IsPrefix old.seen) (sym (ap (λ (v : SeatView). v.seen) is)) begins;
  heard = subst (IsPrefix other.seen) (sym (ap (λ (v : SeatView). v.seen) is)) heard;
  rights = ap (λ (v : SeatView). v.rights) is;
  mine = ap (λ (v : SeatView). v.mine) is;
  number = ap (λ (v : SeatView). v.number) is;
  opening = ap (λ (v : SeatView). v.opening) is;
  first = ap (λ (v : SeatView). v.first) is;
}

-- by what the lock says of it
pub met_by : (H : Type 0) (old other : SeatView) (new : Me H SeatView) → ((log : Log) × (new ≡ (record (joined old other) { seen = log }, [])) × IsPrefix old.seen log × IsPrefix other.seen log) → Meets old other new.0
met_by H old other new says = met old other new.0 says.0 (ap (λ m. m.0) says.1) says.2 says.3

-- a seat has seen a history for which a cluster stood
pub legal_at : (v : SeatView) (o c : ClusterView) → v.opening ≡ Some o → StandsAt o v.seen c → HasHistory v
legal_at v o c has stands = (o, has, history_of o c v.seen stands)

pub left_by : (v : SeatView) (c d : ClusterView) → ((o : ClusterView) × (v.opening ≡ Some o) × ((log : Log) × IsPrefix v.seen log × StandsAt o log c)) → d ≡ c → IsLeftBy v d
left_by v c d left same = record { opening = left.0; opened = left.1; log = left.2.0; begins = left.2.1; stands = subst (StandsAt left.0 left.2.0) (sym same) left.2.2 }
