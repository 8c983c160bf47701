-- Passes that are lent and come back.
--     gone_none, gone_then   a pass has seen nothing more;  one after the other
--     told, called, asked_one          a pass was told something;  a seat made calls;  one call
--     is_lent, is_met        what a split and a meeting leave
--     at_home, back_home     a pass met what it had lent;  it has seen more between
--     over_more              an end that was seen stays seen
--     led_none, led_then     a door that was asked nothing;  one history behind the other
--     alone_over, alone_failed, alone_served, led_as, alone_out     what a door leads to that one thread asks
use Rattle.std.proofs.Common.{◌≡◌, ◌≢◌, ℕ, ◌+◌, ◌-◌, ◌<◌, Bool, true, false, List, [], ◌∷◌, ◌++◌, Option, refl, sym, ap, subst, ◌∙◌, true≢false, append_assoc, append-nil, arith, Ok, Err, None, Some, inl, inr, ◌≤◌}
use Rattle.std.specs.Prelude.{◌||◌, ◌⊎◌, IsErr, IsOk, unwrap_or}
use Rattle.hx_ports.specs.Causes.{Rose}
use Rattle.std.proofs.lemmas.List.Folds.{list_any-append}
use mathlib.Core.List.{IsPrefix}
use Rattle.atomic_table.specs.Table.{Me}
use Rattle.hx_turn.specs.Passes.{after_split}
use Rattle.hx_turn.specs.declared.view.View.{View}
use Rattle.hx_shared.specs.Seats.{HasHistory, SeatView, Adds, Meets}
use Rattle.hx_shared.specs.Working.{HasCalled, HasWorked, all_of}
use Rattle.hx_door.specs.declared.door.DoorFault.{DoorFault}
use Rattle.std.specs.declared.result.Result.{Result}
use Rattle.hx_shared.specs.declared.call.Call.{Call}
use Rattle.hx_door.specs.Doors.{DoorView}
use Rattle.hx_link.specs.declared.link.LinkEnd.{LinkEnd}
use Rattle.hx_serve.specs.Visits.{LinkView}
use Rattle.hx_sessions.specs.Seats.{IsServedBy}
use Rattle.hx_sessions.specs.Held.{DoorLog, DoorPassView, EndsBy, HaveLed, HeldView, IsLeftBy, Leads, ends_in, held_at, is_end, links_in, told_of, Adds as Tells, Meets as Joins}
use Rattle.hx_sessions.proofs.Leading.{door_law}
use Rattle.hx_team.specs.Team.{EndsServing, HasGone, HasLed, HasLent, HasMet, HasStayed, HaveGone, IsServedOut}
use Rattle.hx_sessions.specs.declared.door.Told.{Told}
use Rattle.hx_sessions.specs.declared.door.Told.TheVariants as told_as

longer : {X : Type 0} (a b c : List X) → IsPrefix a b → IsPrefix b c → IsPrefix a c
longer a b c (k, p) (l, q) = (k ++ l, sym (append_assoc a k l) ∙ ap (λ m. m ++ l) p ∙ q)

pub gone_none : {E O : Type 0} (v : View E O) → HasGone v v
gone_none v = record { seen = ([], append-nil v.seen); rights = refl; number = refl; opening = refl; first = refl }

pub gone_then : {E O : Type 0} (a b c : View E O) → HasGone a b → HasGone b c → HasGone a c
gone_then a b c p q = record { seen = longer a.seen b.seen c.seen p.seen q.seen; rights = q.rights ∙ p.rights; number = q.number ∙ p.number; opening = q.opening ∙ p.opening; first = q.first ∙ p.first }

pub told : (a b : DoorPassView) (e : Told) → Tells a e b → HasGone a b
told a b e t = record { seen = (t.between ++ (a.number, e) ∷ [], sym (append_assoc a.seen t.between ((a.number, e) ∷ [])) ∙ sym t.seen); rights = t.rights; number = t.number; opening = t.opening; first = t.first }

pub called : (a b : SeatView) (calls : List Call) → HasCalled calls a b → HasGone a b
called a b calls h = record { seen = h.seen; rights = h.rights; number = h.number; opening = h.opening; first = h.first }

pub asked_one : (a b : SeatView) (e : Call) → Adds a e b → HasGone a b
asked_one a b e t = record { seen = (t.between ++ (a.number, e) ∷ [], sym (append_assoc a.seen t.between ((a.number, e) ∷ [])) ∙ sym t.seen); rights = t.rights; number = t.number; opening = t.opening; first = t.first }

pub is_lent : {E O T : Type 0} (a b : Me (Option T) (View E O)) → 1 < a.0.rights → b ≡ (after_split a.0, []) → HasLent a.0 b.0
is_lent a b room same =
    record {
      seen = ap (λ m. m.0.seen) same;
      rights = (let r : b.0.rights ≡ a.0.rights - 1 = ap (λ m. m.0.rights) same in omega arith);
      number = ap (λ m. m.0.number) same;
      opening = ap (λ m. m.0.opening) same;
      first = ap (λ m. m.0.first) same;
    }

pub seat_met : (a other b : SeatView) → Meets a other b → other.rights ≡ 1 → HasMet a b
seat_met a other b m one = record { seen = m.seen; rights = m.rights ∙ ap (λ n. a.rights + n) one; number = m.number; opening = m.opening; first = m.first }

pub door_met : (a other b : DoorPassView) → Joins a other b → other.rights ≡ 1 → HasMet a b
door_met a other b m one = record { seen = m.seen; rights = m.rights ∙ ap (λ n. a.rights + n) one; number = m.number; opening = m.opening; first = m.first }

pub at_home : {E O : Type 0} (a b c : View E O) → HasLent a b → HasMet b c → HasGone a c
at_home a b c l m =
    record {
      seen = subst (λ s. IsPrefix s c.seen) l.seen m.seen;
      rights = m.rights ∙ l.rights;
      number = m.number ∙ l.number;
      opening = m.opening ∙ l.opening;
      first = m.first ∙ l.first;
    }

pub back_home : {E O : Type 0} (a b c d : View E O) → HasLent a b → HasGone b c → HasMet c d → HasGone a d
back_home a b c d l g m =
    record {
      seen = subst (λ s. IsPrefix s d.seen) l.seen (longer b.seen c.seen d.seen g.seen m.seen);
      rights = m.rights ∙ ap (λ n. n + 1) g.rights ∙ l.rights;
      number = m.number ∙ g.number ∙ l.number;
      opening = m.opening ∙ g.opening ∙ l.opening;
      first = m.first ∙ g.first ∙ l.first;
    }

pub over_more : (a b : DoorLog) → ends_in a ≡ true → IsPrefix a b → ends_in b ≡ true
over_more a b over (rest, is) = ap ends_in (sym is) ∙ list_any-append (λ (x : ℕ × Told). is_end x.1) a rest ∙ ap (λ x. x || ends_in rest) over

or-true : (b : Bool) → (b || true) ≡ true
or-true true = refl
or-true false = refl

over_told : (a b : DoorPassView) (e : Told) → Tells a e b → is_end e ≡ true → ends_in b.seen ≡ true
over_told a b e t is = ap ends_in t.seen ∙ list_any-append (λ (x : ℕ × Told). is_end x.1) (a.seen ++ t.between) ((a.number, e) ∷ []) ∙ ap (λ x. ends_in (a.seen ++ t.between) || (x || false)) is ∙ or-true (ends_in (a.seen ++ t.between))

pub over_none : {X : Type 0} (a b : DoorPassView) (answer : Result (Option X) DoorFault) → answer ≡ Ok None → Tells a (told_of answer) b → ends_in b.seen ≡ true
over_none a b answer is t = over_told a b (told_of answer) t (ap (λ x. is_end (told_of x)) is)

pub over_failed : {X : Type 0} (a b : DoorPassView) (answer : Result (Option X) DoorFault) (fault : DoorFault) → answer ≡ Err fault → Tells a (told_of answer) b → ends_in b.seen ≡ true
over_failed a b answer fault is t = over_told a b (told_of answer) t (ap (λ x. is_end (told_of x)) is)

-- ---- turns of a worker

pub worked : (w made : ℕ) (on : Bool) (a b : SeatView) → HasWorked w made on a b → HasGone a b
worked w made on a b h = called a b (all_of h.turns) h.called

-- ---- a link

pub served : (how : LinkEnd) (before after : LinkView) (a b : SeatView) → IsServedBy how before after a b → HasStayed a b
served how before after a b s = (called a b _ s.called, s.legal)

-- ---- seats and passes

pub stayed_then : (a b c : SeatView) → HasStayed a b → HasStayed b c → HasStayed a c
stayed_then a b c p q = (gone_then a b c p.0 q.0, λ h. q.1 (p.1 h))

pub have_gone_then : (a b c : SeatView) (d e f : DoorPassView) → HaveGone a b d e → HaveGone b c e f → HaveGone a c d f
have_gone_then a b c d e f p q = (stayed_then a b c p.0 q.0, gone_then d e f p.1 q.1)

-- ---- a door that was served

pub served_out : (links : ℕ) (old : DoorView) (pass : DoorPassView) (last : HeldView) (end : Result ℕ DoorFault) (door : DoorView)
    → IsLeftBy pass last → pass.opening ≡ Some (held_at old links) → ends_in pass.seen ≡ true → door ≡ last.door → EndsBy last end → IsServedOut links old end door
served_out links old pass last end door left is over same ends =
    let e : left.opening ≡ held_at old links = ap (λ o. unwrap_or o left.opening) (sym left.opened ∙ is) in
    record { log = left.log; last = last; led = subst (λ o. HaveLed o left.log last) e left.led; over = over_more pass.seen left.log over left.begins; door = same; ends = ends }

pub serving_ends : (links : ℕ) (old : DoorView) (end : Result ℕ DoorFault) (new : DoorView) → IsServedOut links old end new → EndsServing links end new
serving_ends links old (Err fault) new s = tt
serving_ends links old (Ok count) new s =
    let l = door_law links old s.log s.last s.led in
    told_how (l.0.ends s.over (sym l.2 ∙ s.ends.0)) l.1 l.0.few
  where
    told_how : (links_in s.log ≡ links) ⊎ (s.last.door.closed ≡ true) → s.last.taken ≡ links_in s.log → links_in s.log ≤ links → EndsServing links (Ok count) new
    told_how (inl e) taken few = inl (s.ends.1 ∙ taken ∙ e)
    told_how (inr e) taken few = inr (subst (λ n. n ≤ links) (sym (s.ends.1 ∙ taken)) few, ap (λ d. d.closed) s.door ∙ e)

-- ---- a door that one thread asks

led_append : (a b c : HeldView) (xs ys : DoorLog) → HaveLed a xs b → HaveLed b ys c → HaveLed a (xs ++ ys) c
led_append a b c [] ys p q = subst (λ v. HaveLed v ys c) p q
led_append a b c (x ∷ xs) ys (m, one, rest) q = (m, one, led_append m b c xs ys rest q)

pub led_none : (v : HeldView) → HasLed true v v
led_none v = record { log = []; led = refl; over = λ e. absurd (true≢false e) }

-- one history behind the other
pub led_then : (goes_on : Bool) (a b c : HeldView) → HasLed true a b → HasLed goes_on b c → HasLed goes_on a c
led_then goes_on a b c p q =
    record {
      log = p.log ++ q.log;
      led = led_append a b c p.log q.log p.led q.led;
      over = λ e. list_any-append (λ (x : ℕ × Told). is_end x.1) p.log q.log ∙ ap (λ x. ends_in p.log || x) (q.over e) ∙ or-true (ends_in p.log);
    }

led_one : (goes_on : Bool) (a b : HeldView) (e : Told) → Leads a e b → (goes_on ≡ false → is_end e ≡ true) → HasLed goes_on a b
led_one goes_on a b e p over = record { log = (0, e) ∷ []; led = (b, p, refl); over = λ f. ap (λ x. x || false) (over f) }

-- no link more comes
pub alone_over : {X : Type 0} (a b : HeldView) (answer : Result (Option X) DoorFault) → answer ≡ Ok None → Leads a (told_of answer) b → HasLed false a b
alone_over a b answer is p = led_one false a b (told_of answer) p (λ e. ap (λ x. is_end (told_of x)) is)

-- the door failed
pub alone_failed : {X : Type 0} (a b : HeldView) (answer : Result (Option X) DoorFault) (fault : DoorFault) → answer ≡ Err fault → Leads a (told_of answer) b → HasLed false a b
alone_failed a b answer fault is p = led_one false a b (told_of answer) p (λ e. ap (λ x. is_end (told_of x)) is)

-- a link came, and was taken back
pub alone_served : (a b c : HeldView) (e : Told) → Leads a e b → Leads b told_as.Back c → HasLed true a c
alone_served a b c e p q = record { log = (0, e) ∷ (0, told_as.Back) ∷ []; led = (b, p, (c, q, refl)); over = λ e. absurd (true≢false e) }

-- an answer that says whether the door goes on
pub led_as : (said goes_on : Bool) (a b : HeldView) → said ≡ goes_on → HasLed said a b → HasLed goes_on a b
led_as said goes_on a b is p = subst (λ x. HasLed x a b) is p

-- it was served out
pub alone_out : (links : ℕ) (old : DoorView) (held last : HeldView) (end : Result ℕ DoorFault) (door : DoorView)
    → HasLed false held last → held ≡ held_at old links → door ≡ last.door → EndsBy last end → IsServedOut links old end door
alone_out links old held last end door p is same ends =
    record { log = p.log; last = last; led = subst (λ (o : HeldView). HaveLed o p.log last) is p.led; over = p.over refl; door = same; ends = ends }

-- its count of faults rose exactly where it failed
pub serving_failed : (links : ℕ) (old : DoorView) (end : Result ℕ DoorFault) (new : DoorView) → IsServedOut links old end new → IsErr end → Rose old.faults new.faults
serving_failed links old (Ok count) new s is = absurd (true≢false (sym is))
serving_failed links old (Err fault) new s is =
    let l = door_law links old s.log s.last s.led in
    subst (λ d. Rose old.faults d.faults) (sym s.door) (l.0.failed (sym l.2 ∙ s.ends))

pub serving_calm : (links : ℕ) (old : DoorView) (end : Result ℕ DoorFault) (new : DoorView) → IsServedOut links old end new → IsOk end → new.faults ≡ old.faults
serving_calm links old (Err fault) new s is = absurd (true≢false (sym is))
serving_calm links old (Ok count) new s is =
    let l = door_law links old s.log s.last s.led in
    ap (λ d. d.faults) s.door ∙ l.0.still (sym l.2 ∙ s.ends.0)

pub stayed_none : (v : SeatView) → HasStayed v v
stayed_none v = (gone_none v, λ h. h)

pub have_gone_none : (v : SeatView) (w : DoorPassView) → HaveGone v v w w
have_gone_none v w = (stayed_none v, gone_none w)

-- what was lent came back at once
pub home : (a b c : SeatView) (d e f : DoorPassView) → HasLent a b → HasLent d e → HasMet b c × HasMet e f → HasHistory c → HaveGone a c d f
home a b c d e f l k m legal = ((at_home a b c l m.0, λ h. legal), at_home d e f k m.1)

-- what was lent came back behind all that was seen between
pub home_again : (a b c z : SeatView) (d e f y : DoorPassView) → HasLent a b → HasLent d e → HaveGone b c e f → HasMet c z × HasMet f y → HasHistory z → HaveGone a z d y
home_again a b c z d e f y l k g m legal = ((back_home a b c z l g.0.0 m.0, λ h. legal), back_home d e f y k g.1 m.1)

pub over_met : (a b : DoorPassView) → HasMet a b → ends_in a.seen ≡ true → ends_in b.seen ≡ true
over_met a b m over = over_more a.seen b.seen over m.seen

-- rights are left for the others
pub room_lent : {E O : Type 0} (left : ℕ) (a b : View E O) → HasLent a b → left ≢ 0 → left < a.rights → left - 1 < b.rights
room_lent left a b l some room = let r = l.rights in omega (arith, some, room, r)
