-- Asks that are made one after the other, and the settle behind them.
--     asked_none, asked_one     no asks;  the next one
--     asked_more, asked_all     one more behind others;  all of them
--     asked_some                            one more, which may have been lost for want of memory
--     settles, settles_some, settles_none   a settle that ended otherwise than for want of memory;  any;  none
--     made_to-as                            both: a cluster was made and settled
--     part_asked-as, part_settled-as, part_made   no memory was left for an ask, for the settle, or for what is to be printed
--     generated_whole, generated_front      what is printed of it, or a front
use Rattle.std.proofs.Common.{◌≡◌, ◌≢◌, ◌≤◌, ◌<◌, ◌⊎◌, ℕ, Bool, true, false, List, [], ◌∷◌, ◌++◌, length, Option, Some, None, Ok, Err, inl, inr, refl, sym, ap, ◌∙◌, subst, arith}
use Rattle.std.specs.Io.KnownBytes.{Appends}
use Rattle.std.specs.List.{AllByRecursion}
use Rattle.std.specs.Prelude.{OnErr}
use Rattle.std.specs.declared.result.Result.{Result}
use Rattle.std.proofs.lemmas.List.{append-nil, length-map, map-append}
use Rattle.hx_object.specs.declared.memory.NoMemory.{NoMemory as Wanting}
use Rattle.hx_ports.specs.Pieces.{WritesFront}
use Rattle.hx_ports.specs.Views.{SinkView}
use Rattle.hx_model.specs.Machine.{World, replay}
use Rattle.hx_model.specs.Requests.{request_entry}
use Rattle.hx_model.specs.State.{State}
use Rattle.hx_model.specs.declared.ask.Answer.{Answer}
use Rattle.hx_model.specs.declared.ask.Ask.{Ask}
use Rattle.hx_model.specs.declared.key.Finish.{Finish}
use Rattle.hx_model.specs.declared.key.Finish.TheVariants as ending
use Rattle.hx_core.proofs.Simulating.{Simulates-none, Simulates-then}
use Rattle.hx_core.specs.Bounding.{IsUnsettled}
use Rattle.hx_core.specs.Refinement.{ClusterView, HasWorld, Simulates}
use Rattle.hx_core.specs.Turns.{EndsBy, IsSettleEnd, LoseLast, end_entries, loss_in, loss_of}
use Rattle.hx_core.specs.declared.turns.Settle.{Settle}
use Rattle.hx_core.specs.declared.turns.Settle.TheVariants as settled
use Rattle.hx_core.specs.declared.turns.Turned.{Turned}
use Rattle.hx_gen.specs.Asked.{IsNext}
use Rattle.hx_queue.specs.Workers.{WorkersView}
use Rattle.hnc.proofs.Enough.{never_spent, still_at}
use Rattle.hnc.specs.Generating.{AskedOne, HasAnswer, HasAsked, HasAskedAll, HasEnded, HasGenerated, HasGeneratedFront, HasSettled, IsEndBy, IsMadeInPart, IsMadeTo, IsNextAsked, Made, SettlesSome, asks_in, entries_in, most_turns, settled_entries, told_of}

-- ---- asks

pub asked_none : (asks : List Ask) (c : ClusterView) → HasWorld c → HasAskedAll asks asks c c
asked_none asks c stood = (record { made = []; is = refl; simulates = Simulates-none c stood; hands = refl }, tt)

-- the ask that was left first
abbrev pub asked_one : (next : Option Ask) (ask : Ask) (answer : Answer) (asks rest : List Ask) (a b : ClusterView) → next ≡ Some ask → IsNext next asks rest → Simulates a (request_entry ask answer ∷ []) b → b.workers.hands ≡ a.workers.hands → AskedOne asks rest a b
asked_one next ask answer asks rest a b some is simulates hands = record { made = (ask, answer); is = subst (λ (o : Option Ask). IsNext o asks rest) some is; simulates = simulates; hands = hands }

appended : {X : Type 0} (xs ys zs : List X) → (xs ++ ys) ++ zs ≡ xs ++ (ys ++ zs)
appended [] ys zs = refl
appended (x ∷ xs) ys zs = ap (λ l. x ∷ l) (appended xs ys zs)

pushed : (P : Ask × Answer → Type 0) (made : Made) (m : Ask × Answer) → AllByRecursion P made → P m → AllByRecursion P (made ++ m ∷ [])
pushed P [] m all p = (p, tt)
pushed P (x ∷ made) m all p = (all.0, pushed P made m all.1 p)

-- one ask more
abbrev joined : (asks rest rest' : List Ask) (a b c : ClusterView) → HasAsked asks rest a b → AskedOne rest rest' b c → HasAsked asks rest' a c
joined asks rest rest' a b c asked one = record {
  made = asked.made ++ one.made ∷ [];
  is = asked.is ∙ ap (λ l. asks_in asked.made ++ l) one.is ∙ sym (appended (asks_in asked.made) (one.made.0 ∷ []) rest') ∙ ap (λ l. l ++ rest') (sym (map-append (λ (m : Ask × Answer). m.0) asked.made (one.made ∷ [])));
  simulates = subst (λ es. Simulates a es c) (sym (map-append (λ (m : Ask × Answer). request_entry m.0 m.1) asked.made (one.made ∷ []))) (Simulates-then a b c (entries_in asked.made) (request_entry one.made.0 one.made.1 ∷ []) asked.simulates one.simulates);
  hands = one.hands ∙ asked.hands;
}

pub asked_more : (there : Bool) (asks rest rest' : List Ask) (a b c : ClusterView) → HasAskedAll asks rest a b → there ≡ true → IsNextAsked (Ok there) rest rest' b c → HasAskedAll asks rest' a c
asked_more true asks rest rest' a b c asked is next = (joined asks rest rest' a b c asked.0 next.0, pushed HasAnswer asked.0.made next.0.made asked.1 next.1)
asked_more false asks rest rest' a b c asked is next = cc

-- none was left
pub asked_all : (there : Bool) (asks rest rest' : List Ask) (a b c : ClusterView) → HasAskedAll asks rest a b → there ≡ false → IsNextAsked (Ok there) rest rest' b c → HasAskedAll asks [] a c
asked_all true asks rest rest' a b c asked is next = cc
asked_all false asks rest rest' a b c asked is next = subst (HasAskedAll asks [] a) (sym next.2) (subst (λ left. HasAskedAll asks left a b) next.0 asked)

-- it may have been lost for want of memory
pub asked_some : (asks rest rest' : List Ask) (a b c : ClusterView) (wanting : Wanting) → HasAskedAll asks rest a b → IsNextAsked (Err wanting) rest rest' b c → HasAsked asks rest' a c
asked_some asks rest rest' a b c wanting asked (inl same) = subst (HasAsked asks rest' a) (sym same.1) (subst (λ left. HasAsked asks left a b) (sym same.0) asked.0)
asked_some asks rest rest' a b c wanting asked (inr one) = joined asks rest rest' a b c asked.0 one

-- ---- settling

lost_end : (end : Finish) → end ≡ ending.NoMemory → loss_in end ≡ Some settled.NoMemory
lost_end end is = ap loss_in is

lasting : (end : Finish) → loss_in end ≡ None → end ≢ ending.NoMemory
lasting end none is = let never : Some settled.NoMemory ≡ None = sym (lost_end end is) ∙ none in cc

ended_all : (turns : List Turned) (end : Settle) → LoseLast turns → ((loss : Settle) → loss_of turns ≡ Some loss → end ≡ loss) → end ≢ settled.NoMemory → AllByRecursion HasEnded turns
ended_all [] end lose ends other = tt
ended_all (turned ∷ []) end lose ends other = ((λ is. other (ends settled.NoMemory (lost_end turned.end is))), tt)
ended_all (turned ∷ next ∷ turns) end lose ends other = (lasting turned.end lose.0, ended_all (next ∷ turns) end lose.1 ends other)

by_loss : (o : Option Settle) (most : ℕ) (turns : List Turned) (v : WorkersView) (end : Settle) → EndsBy o most turns v end → (loss : Settle) → o ≡ Some loss → end ≡ loss
by_loss None most turns v end ends loss is = cc
by_loss (Some found) most turns v end ends loss is = ends ∙ (let e : found ≡ loss = cc in e)

ends_by : (o : Option Settle) (most : ℕ) (turns : List Turned) (v : WorkersView) (end : Settle) → loss_of turns ≡ o → EndsBy o most turns v end → (IsUnsettled end → ⊥) → end ≢ settled.NoMemory → IsEndBy turns end
ends_by o most turns v settled.Settled is ends never other = tt
ends_by o most turns v (settled.Unsettled waiting held) is ends never other = absurd (never tt)
ends_by None most turns v settled.Spent is ends never other = absurd ends
ends_by None most turns v settled.Fault is ends never other = absurd ends
ends_by (Some loss) most turns v settled.Spent is ends never other = is ∙ ap Some (sym ends)
ends_by (Some loss) most turns v settled.Fault is ends never other = is ∙ ap Some (sym ends)
ends_by o most turns v settled.NoMemory is ends never other = absurd (other refl)

-- a settle of no more turns than may be made, which suffice
pub settles : (most : ℕ) (turns : List Turned) (end : Settle) (a b : ClusterView) → most ≤ most_turns → Simulates a (settled_entries turns end) b → IsSettleEnd most turns b.workers end → (IsUnsettled end → ⊥) → end ≢ settled.NoMemory → HasSettled a end b
settles most turns end a b few simulates ended never other = record {
  turns = turns;
  simulates = simulates;
  few = let made = ended.few in omega (arith, few, made);
  ended = ended_all turns end ended.whole (by_loss (loss_of turns) most turns b.workers end ended.ends) other;
  ends = ends_by (loss_of turns) most turns b.workers end refl ended.ends never other;
}

-- it is one of which nothing else is said
pub settles_some : (turns : List Turned) (end : Settle) (a b : ClusterView) → Simulates a (settled_entries turns end) b → SettlesSome a b
settles_some turns end a b simulates = record { entries = settled_entries turns end; simulates = simulates; are = inr (turns, end, refl) }

-- or none
pub settles_none : (c : ClusterView) → HasWorld c → SettlesSome c c
settles_none c stood = record { entries = []; simulates = Simulates-none c stood; are = inl refl }

-- what holds anyway holds where nothing is given
pub on_err : {T E : Type 0} (result : Result T E) (A : Type 0) → A → OnErr result A
on_err (Ok x) A a = tt
on_err (Err e) A a = a

-- and so does what follows
pub on_err_then : {T E : Type 0} (result : Result T E) (A B : Type 0) → (A → B) → OnErr result A → OnErr result B
on_err_then (Ok x) A B f a = tt
on_err_then (Err e) A B f a = f a

-- ---- both

sure : (turns : List Turned) (end : Settle) → IsEndBy turns end → loss_of turns ≢ Some settled.Spent → (end ≡ settled.Settled) ⊎ ((end ≡ settled.Fault) × (loss_of turns ≡ Some settled.Fault))
sure turns settled.Settled ends never = inl refl
sure turns (settled.Unsettled waiting held) ends never = absurd ends
sure turns settled.Spent ends never = absurd (never ends)
sure turns settled.Fault ends never = inr (refl, ends)
sure turns settled.NoMemory ends never = absurd ends

-- versions are left for so many asks and turns
unspent : (asks : List Ask) (a b c : ClusterView) (end : Settle) → length asks < most_turns → (asked : HasAsked asks [] a b) → (s : HasSettled b end c) → a.state.last ≡ 0 → loss_of s.turns ≢ Some settled.Spent
unspent asks a b c end few asked s first =
    let stands = asked.simulates.stood.1 in
    let w : World = asked.simulates.stood.0 in
    let between = replay w (entries_in asked.made) in
    let legal = (s.simulates.steps between (asked.simulates.steps w stands).1).0 in
    let begins : w.state.last ≡ 0 = ap (λ (t : State). t.last) stands.state ∙ first in
    let given = still_at w (entries_in asked.made) in
    let entries = length-map asked.made (λ (m : Ask × Answer). request_entry m.0 m.1) in
    let each = length-map asked.made (λ (m : Ask × Answer). m.0) in
    let all : length asks ≡ length (asks_in asked.made) = ap length (asked.is ∙ append-nil (asks_in asked.made)) in
    let turns = s.few in
    never_spent between s.turns (end_entries end) legal (omega (arith, few, begins, given, entries, each, all, turns))

made_to : (asks : List Ask) (a b c : ClusterView) (end : Settle) → length asks < most_turns → HasAskedAll asks [] a b → HasSettled b end c → IsMadeTo asks a end c
made_to asks a b c end few asked s = record {
  made = asked.0.made;
  turns = s.turns;
  is = sym (asked.0.is ∙ append-nil (asks_in asked.0.made));
  answered = asked.1;
  ended = s.ended;
  simulates = Simulates-then a b c (entries_in asked.0.made) (settled_entries s.turns end) asked.0.simulates s.simulates;
  sure = λ first. sure s.turns end s.ends (unspent asks a b c end few asked.0 s first);
}

part_asked : (asks rest : List Ask) (a b : ClusterView) → HasAsked asks rest a b → IsMadeInPart asks a b
part_asked asks rest a b asked = record {
  made = asked.made;
  rest = rest;
  settling = [];
  is = asked.is;
  are = inl refl;
  simulates = subst (λ es. Simulates a es b) (sym (append-nil (entries_in asked.made))) asked.simulates;
}

part_settled : (asks : List Ask) (a b c : ClusterView) → HasAskedAll asks [] a b → SettlesSome b c → IsMadeInPart asks a c
part_settled asks a b c asked s = record {
  made = asked.0.made;
  rest = [];
  settling = s.entries;
  is = asked.0.is;
  are = elim s.are [
    | inl none ↦ inl none
    | inr some ↦ inr (refl, some)
  ];
  simulates = Simulates-then a b c (entries_in asked.0.made) s.entries asked.0.simulates s.simulates;
}

pub part_made : (asks : List Ask) (a c : ClusterView) (end : Settle) → IsMadeTo asks a end c → IsMadeInPart asks a c
part_made asks a c end made = record {
  made = made.made;
  rest = [];
  settling = settled_entries made.turns end;
  is = sym made.is ∙ sym (append-nil (asks_in made.made));
  are = inr (refl, (made.turns, end, refl));
  simulates = made.simulates;
}

-- the same of asks that are known by another name
pub part_asked-as : (asks known rest : List Ask) (a b : ClusterView) → known ≡ asks → HasAsked known rest a b → IsMadeInPart asks a b
part_asked-as asks known rest a b is asked = part_asked asks rest a b (subst (λ all. HasAsked all rest a b) is asked)

pub part_settled-as : (asks known : List Ask) (a b c : ClusterView) → known ≡ asks → HasAskedAll known [] a b → SettlesSome b c → IsMadeInPart asks a c
part_settled-as asks known a b c is asked s = part_settled asks a b c (subst (λ all. HasAskedAll all [] a b) is asked) s

pub made_to-as : (asks known : List Ask) (a b c : ClusterView) (end : Settle) → known ≡ asks → length asks < most_turns → HasAskedAll known [] a b → HasSettled b end c → IsMadeTo asks a end c
made_to-as asks known a b c end is few asked s = made_to asks a b c end few (subst (λ all. HasAskedAll all [] a b) is asked) s

-- ---- what is printed

pub generated_whole : (asks : List Ask) (end : Settle) (old new : ClusterView) (text : List ℕ) (sink sink' : SinkView) → IsMadeTo asks old end new → text ≡ told_of new.state end → Appends sink.written sink'.written text → HasGenerated asks [] old new sink sink'
generated_whole asks end old new text sink sink' made tells wrote = record { end = end; made = made; text = text; tells = sym tells ∙ sym (append-nil text); wrote = wrote }

pub generated_front : (asks : List Ask) (end : Settle) (old new : ClusterView) (text : List ℕ) (sink sink' : SinkView) → IsMadeTo asks old end new → text ≡ told_of new.state end → WritesFront text sink.written sink'.written → HasGeneratedFront asks old new sink sink'
generated_front asks end old new text sink sink' made tells front = (front.lacking, record { end = end; made = made; text = front.front; tells = sym tells ∙ front.whole; wrote = front.wrote })
