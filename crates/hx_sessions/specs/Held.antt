-- A door that several sessions share, and its history.
--     HeldView               what is seen of a door that is held for sessions
--     held_at                as it is before any session was told anything
--     DoorLog                what sessions were told, each with the number of its pass
--     told_of                what an answer tells
--     Links, Ends, Fails     a link was handed out;  no link more is asked for;  the door failed
--     Leads, HaveLed         one of these, or a link was taken back;  one after the other
--     is_link, is_end, is_fault        what a session may be told
--     links_in, ends_in, fails_in      how many links a history hands out, whether it tells that no more come, and whether it has a fault
--     risen                  a count that rises by one so often
--     Stands, LawOfDoors     what a history tells of a door;  it does
--     DoorPassView           what a pass knows: the door as it was held, and what sessions were told
--     Adds, Meets            a pass was told one thing more;  it has met another one
--     EndsBy                 what a door gave in all
--     IsLeftBy               a door is what a history leaves that begins with what a pass has seen
use Rattle.std.specs.Prelude.{◌≡◌, ◌≤◌, ◌<◌, ◌⊎◌, ◌+◌, ℕ, zero, suc, Bool, true, false, List, [], ◌∷◌, ◌++◌, Option, Some, None, Ok, Err, if◌then◌else◌, refl}
use Rattle.std.specs.List.{list_any}
use Rattle.std.specs.Coded.{Coded, code_by, coded×, coded_list, coded_ℕ, coded_bool, coded_option}
use Rattle.std.specs.declared.result.Result.{Result}
use mathlib.Core.List.{IsPrefix}
use Rattle.hx_ports.specs.Calls.{next_number}
use Rattle.hx_ports.specs.Causes.{Rose}
use Rattle.hx_ports.specs.Views.{SinkView, SourceView}
use Rattle.hx_door.specs.Doors.{DoorView, Closes, Hands, TakesBack}
use Rattle.hx_door.specs.declared.door.DoorFault.{DoorFault}
use Rattle.hx_turn.specs.declared.view.View.{View}
use Rattle.hx_sessions.specs.declared.door.Told.{Told}
use Rattle.hx_sessions.specs.declared.door.Told.TheVariants as told

-- ---- a door that is held

-- what the door shows, how many links are wanted of it, how many it handed out since it is held, whether no more is asked for, and whether it failed
pub record HeldView : Type 0 where
  pub door : DoorView
  pub most : ℕ
  pub taken : ℕ
  pub over : Bool
  pub failed : Bool

-- before any session was told anything
abbrev pub held_at : DoorView → ℕ → HeldView
held_at door most = record { door = door; most = most; taken = 0; over = false; failed = false }

-- what sessions were told, each with the number of its pass
abbrev pub DoorLog : Type 0
DoorLog = List (ℕ × Told)

-- what an answer tells
abbrev pub told_of : {X : Type 0} → Result (Option X) DoorFault → Told
told_of (Ok (Some link)) = told.Linked
told_of (Ok None) = told.Over
told_of (Err fault) = told.Failed

-- ---- what the door did

-- fewer links than are wanted were handed out, and one was
pub record Links (old new : HeldView) : Type 0 where
  pub source : SourceView
  pub sink : SinkView
  pub hands : Hands old.door new.door source sink
  pub few : old.taken < old.most
  pub counts : new ≡ record old { door = new.door; taken = old.taken + 1 }

-- no link more is asked for: it was known, or as many as are wanted were handed out, or the door is closed
pub record Ends (old new : HeldView) : Type 0 where
  pub why : (old.over ≡ true) ⊎ ((old.most ≤ old.taken) ⊎ (new.door.closed ≡ true))
  pub door : (new.door ≡ old.door) ⊎ Closes old.door new.door
  pub counts : new ≡ record old { door = new.door; over = true }

-- the door failed, and nothing else changed of it. It isn't asked again
pub record Fails (old new : HeldView) : Type 0 where
  pub rose : Rose old.door.faults new.door.faults
  pub later : old.door.faults ≤ new.door.faults
  pub stays : new.door ≡ record old.door { faults = new.door.faults }
  pub counts : new ≡ record old { door = new.door; over = true; failed = true }

-- a link that had ended was taken back
pub record Returns (old new : HeldView) : Type 0 where
  pub sink : SinkView
  pub takes : TakesBack old.door new.door sink
  pub counts : new ≡ record old { door = new.door }

-- what a door did of which a session was told so
abbrev pub Leads : HeldView → Told → HeldView → Type 0
Leads old told.Linked new = Links old new
Leads old told.Over new = Ends old new
Leads old told.Failed new = Fails old new
Leads old told.Back new = Returns old new

-- one after the other
abbrev pub HaveLed : HeldView → DoorLog → HeldView → Type 0
HaveLed old [] new = new ≡ old
HaveLed old (e ∷ log) new = (between : HeldView) × Leads old e.1 between × HaveLed between log new

-- ---- what a history tells

abbrev pub is_link : Told → Bool
is_link told.Linked = true
is_link _ = false

abbrev pub is_end : Told → Bool
is_end told.Over = true
is_end told.Failed = true
is_end _ = false

abbrev pub is_fault : Told → Bool
is_fault told.Failed = true
is_fault _ = false

-- how many links were handed out
abbrev pub links_in : DoorLog → ℕ
links_in [] = 0
links_in (e ∷ log) = if is_link e.1 then 1 + links_in log else links_in log

-- a session was told that no link more comes
abbrev pub ends_in : DoorLog → Bool
ends_in log = list_any (λ (e : ℕ × Told). is_end e.1) log

-- the door failed
abbrev pub fails_in : DoorLog → Bool
fails_in log = list_any (λ (e : ℕ × Told). is_fault e.1) log

-- a count that rises by one so often, and stands at its last value
abbrev pub risen : ℕ → ℕ → ℕ
risen zero count = count
risen (suc n) count = risen n (next_number count)

-- What a history tells of a door of which so many links are wanted: how many it handed out, no more than are wanted; that its count of faults rose exactly where it failed; and, where a session was told that no more come, that it failed, handed out as many as are wanted, or is closed
pub record Stands (most : ℕ) (old : DoorView) (log : DoorLog) (new : DoorView) : Type 0 where
  pub handed : new.handed ≡ risen (links_in log) old.handed
  pub few : links_in log ≤ most
  pub failed : fails_in log ≡ true → Rose old.faults new.faults
  pub still : fails_in log ≡ false → new.faults ≡ old.faults
  pub ends : ends_in log ≡ true → fails_in log ≡ false → (links_in log ≡ most) ⊎ (new.closed ≡ true)

-- so it is of each door that is held
abbrev pub LawOfDoors : Type 0
LawOfDoors = (most : ℕ) (old : DoorView) (log : DoorLog) (new : HeldView) → HaveLed (held_at old most) log new → Stands most old log new.door × (new.taken ≡ links_in log) × (new.failed ≡ fails_in log)

-- ---- passes

abbrev pub DoorPassView : Type 0
DoorPassView = View Told HeldView

-- It was told one thing more, behind all that sessions had been told. All else stays
pub record Adds (old : DoorPassView) (e : Told) (new : DoorPassView) : Type 0 where
  pub between : DoorLog
  pub seen : new.seen ≡ (old.seen ++ between) ++ (old.number, e) ∷ []
  pub number : new.number ≡ old.number
  pub opening : new.opening ≡ old.opening
  pub rights : new.rights ≡ old.rights
  pub first : new.first ≡ old.first

-- It has met another pass, whose rights it has. What both were told begins what it was told. All else stays
pub record Meets (old other new : DoorPassView) : Type 0 where
  pub seen : IsPrefix old.seen new.seen
  pub heard : IsPrefix other.seen new.seen
  pub rights : new.rights ≡ old.rights + other.rights
  pub number : new.number ≡ old.number
  pub opening : new.opening ≡ old.opening
  pub first : new.first ≡ old.first

-- how many links were handed out, or that the door failed
abbrev pub EndsBy : HeldView → Result ℕ DoorFault → Type 0
EndsBy h (Ok count) = (h.failed ≡ false) × (count ≡ h.taken)
EndsBy h (Err fault) = h.failed ≡ true

-- the door is what a history leaves that begins with what the pass has seen
pub record IsLeftBy (pass : DoorPassView) (last : HeldView) : Type 0 where
  pub opening : HeldView
  pub opened : pass.opening ≡ Some opening
  pub log : DoorLog
  pub begins : IsPrefix pass.seen log
  pub led : HaveLed opening log last

-- ---- doors as pairs

-- what a door shows
abbrev pub door_view_code : Coded DoorView
door_view_code = code_by (ℕ × (ℕ × (ℕ × (Bool × (Option (List (List ℕ)) × Option (List (List ℕ)))))))
    (coded× coded_ℕ (coded× coded_ℕ (coded× coded_ℕ (coded× coded_bool (coded× (coded_option (coded_list (coded_list coded_ℕ))) (coded_option (coded_list (coded_list coded_ℕ))))))))
    (λ d. (d.faults, (d.handed, (d.out, (d.closed, (d.coming, d.written)))))) (λ p. record { faults = p.0; handed = p.1.0; out = p.1.1.0; closed = p.1.1.1.0; coming = p.1.1.1.1.0; written = p.1.1.1.1.1 }) (λ _. refl)

-- what is seen of a door that is held
abbrev pub held_view_code : Coded HeldView
held_view_code = code_by (DoorView × (ℕ × (ℕ × (Bool × Bool)))) (coded× door_view_code (coded× coded_ℕ (coded× coded_ℕ (coded× coded_bool coded_bool))))
    (λ h. (h.door, (h.most, (h.taken, (h.over, h.failed))))) (λ p. record { door = p.0; most = p.1.0; taken = p.1.1.0; over = p.1.1.1.0; failed = p.1.1.1.1 }) (λ _. refl)
