-- What lines make that aren't settles: the entry of a refusal, of a request, or of a worker's turn.
use Rattle.std.proofs.Common.{◌≡◌, ◌≢◌, ℕ, Bool, true, false, List, [], ◌∷◌, None, Some, Ok, Err, refl, sym, ap, subst, ◌∙◌, inl, inr}
use Rattle.std.specs.declared.result.Result.{Result}
use Rattle.hx_ports.specs.Views.{SinkView}
use Rattle.hx_model.specs.declared.ask.Ask.{Ask}
use Rattle.hx_model.specs.declared.ask.Answer.{Answer}
use Rattle.hx_model.specs.declared.ask.Answer.TheVariants.{Refused as Refusing}
use Rattle.hx_model.specs.declared.key.Key.{Key}
use Rattle.hx_model.specs.declared.refusal.Refusal.{Refusal}
use Rattle.hx_model.specs.declared.refusal.Refusal.TheVariants.{StoreFailed, NoMemory as NoRoom}
use Rattle.hx_model.specs.Machine.{Entry, Refused, LostRequest, LostTake, NoMemory, answer_of}
use Rattle.hx_model.specs.Requests.{request_entry}
use Rattle.hx_model.proofs.Histories.{answer_of-request_entry}
use Rattle.hx_core.specs.Refinement.{ClusterView, HasWorld, Simulates}
use Rattle.hx_core.specs.Turns.{take_entry, take_key_entry}
use Rattle.hx_core.specs.declared.turns.Take.{Take}
use Rattle.hx_core.specs.declared.turns.Take.TheVariants as take
use Rattle.hx_script.specs.Replies.{answer_line}
use Rattle.hx_script.specs.Exchanges.{One, Makes, IsTake, IsRequest, MayBeUnsaid, entry_line_by, said_lines, no_memory_line}
use Rattle.hx_script.specs.Inside.{IsUnread, MayBeLost}
use Rattle.hx_script.specs.Running.{IsSaid, SaysAnswer, SaysText, HasMade, Serves}
use Rattle.hx_script.specs.Turns.{turn_line}
use Rattle.hx_script.specs.declared.line.Unread.TheVariants as unread
use Rattle.hx_script.specs.declared.order.Order.{Order}
use Rattle.hx_script.specs.declared.order.Order.TheVariants as order
use Rattle.hx_script.proofs.Saying.{Said-none}
use Rattle.hx_script.proofs.Simulating.{Simulates-refused, Simulates-lost, Simulates-lost_take}

-- ---- one entry

-- its line is all that is written
HasMade-one : (reading : Result Order Refusal) (e : Entry) (unsaid : Bool) (text : List ℕ) (a b : ClusterView) → Makes reading (One e) → MayBeUnsaid (One e) unsaid → (HasWorld a → Simulates a (e ∷ []) b) → said_lines (One e) unsaid ≡ text → HasMade reading [] text a b
HasMade-one reading e unsaid text a b makes said simulates is = record { made = One e; unsaid = unsaid; makes = makes; said = said; simulates = simulates; bounded = tt; whole = is; last = ([], is) }

Serves-one : {T E : Type 0} (reading : Result Order Refusal) (text : List ℕ) (a b : ClusterView) (x y : SinkView) (r : Result T E) → HasMade reading [] text a b → SaysText text x y r → Serves reading a b x y r
Serves-one reading text a b x y r made says = record { head = []; end = text; made = made; between = x; said = Said-none x; says = says }

-- ---- a line that orders nothing

-- a line whose reading found no memory
HasMade-lost : (reading : Result Order Refusal) (text : List ℕ) (c : ClusterView) → MayBeLost reading → text ≡ no_memory_line → HasMade reading [] text c c
HasMade-lost (Ok (order.Ask ask)) text c may is = HasMade-one (Ok (order.Ask ask)) (LostRequest ask NoMemory) false text c c refl tt (Simulates-lost c ask) (sym is)
HasMade-lost (Err refusal) text c may is = HasMade-one (Err refusal) (Refused refusal) true text c c refl tt (Simulates-refused c refusal) (sym is)
HasMade-lost (Ok _) text c may is = absurd may

-- the line for want of memory, whether it was meant or stands for another
said_lost : (text : List ℕ) (refusal : Refusal) → refusal ≡ NoRoom → IsSaid (Refusing refusal) text → text ≡ no_memory_line
said_lost text refusal is (inl said) = said ∙ ap (λ r. answer_line (Refusing r)) is
said_lost text refusal is (inr said) = said.0

HasMade-refused : (reading : Result Order Refusal) (text : List ℕ) (refusal : Refusal) (c : ClusterView) → reading ≡ Err refusal → IsSaid (Refusing refusal) text → HasMade reading [] text c c
HasMade-refused reading text refusal c e (inl said) = HasMade-one reading (Refused refusal) false text c c (subst (λ r. Makes r (One (Refused refusal))) (sym e) refl) tt (Simulates-refused c refusal) (sym said)
HasMade-refused reading text refusal c e (inr said) = HasMade-one reading (Refused refusal) true text c c (subst (λ r. Makes r (One (Refused refusal))) (sym e) refl) tt (Simulates-refused c refusal) (sym said.0)

HasMade-unread : (reading : Result Order Refusal) (text : List ℕ) (refusal : Refusal) (c : ClusterView) → IsUnread reading (unread.Refused refusal) → IsSaid (Refusing refusal) text → HasMade reading [] text c c
HasMade-unread reading text refusal c (inl lost) said = HasMade-lost reading text c lost.1 (said_lost text refusal lost.0 said)
HasMade-unread reading text refusal c (inr e) said = HasMade-refused reading text refusal c e said

-- the refusal was said
pub Serves-refused : {T E : Type 0} (reading : Result Order Refusal) (refusal : Refusal) (c : ClusterView) (x y : SinkView) (r : Result T E) → IsUnread reading (unread.Refused refusal) → SaysAnswer (Refusing refusal) x y r → Serves reading c c x y r
Serves-refused reading refusal c x y r is p = Serves-one reading p.text c c x y r (HasMade-unread reading p.text refusal c is p.said) p.says

-- a take was lost
pub Serves-lost_take : {T E : Type 0} (reading : Result Order Refusal) (worker : ℕ) (c : ClusterView) (x y : SinkView) (r : Result T E) → IsUnread reading (unread.LostTake worker) → SaysText (turn_line (LostTake worker)) x y r → Serves reading c c x y r
Serves-lost_take reading worker c x y r (k, e) p =
    let text = turn_line (LostTake worker) in
    Serves-one reading text c c x y r (HasMade-one reading (LostTake worker) false text c c (subst (λ r. Makes r (One (LostTake worker))) (sym e) refl) tt (Simulates-lost_take c worker) refl) p

-- ---- a request

makes_request : (ask : Ask) (answer : Answer) → IsRequest ask (request_entry ask answer)
makes_request ask (Refusing StoreFailed) = refl
makes_request ask (Refusing NoRoom) = refl
makes_request ask answer = refl

-- the answer of a loss for want of memory is that fixed line
abbrev is_unsaid : Answer → Bool
is_unsaid (Refusing NoRoom) = false
is_unsaid _ = true

may_be_unsaid : (ask : Ask) (answer : Answer) → answer ≢ Refusing StoreFailed → MayBeUnsaid (One (request_entry ask answer)) (is_unsaid answer)
may_be_unsaid ask (Refusing StoreFailed) other = absurd (other refl)
may_be_unsaid ask (Refusing NoRoom) other = tt
may_be_unsaid ask answer other = tt

HasMade-request : (text : List ℕ) (ask : Ask) (answer : Answer) (a b : ClusterView) → Simulates a (request_entry ask answer ∷ []) b → IsSaid answer text → HasMade (Ok (order.Ask ask)) [] text a b
HasMade-request text ask answer a b simulates (inl said) =
    let line = ap (λ o. entry_line_by o (request_entry ask answer)) (answer_of-request_entry ask answer) in
    HasMade-one (Ok (order.Ask ask)) (request_entry ask answer) false text a b (makes_request ask answer) tt (λ stood. simulates) (line ∙ sym said)
HasMade-request text ask (Refusing NoRoom) a b simulates (inr said) = HasMade-one (Ok (order.Ask ask)) (LostRequest ask NoMemory) false text a b refl tt (λ stood. simulates) (sym said.0)
HasMade-request text ask answer a b simulates (inr said) = HasMade-one (Ok (order.Ask ask)) (request_entry ask answer) (is_unsaid answer) text a b (makes_request ask answer) (may_be_unsaid ask answer said.1) (λ stood. simulates) (sym said.0)

pub Serves-request : {T E : Type 0} (ask : Ask) (answer : Answer) (a b : ClusterView) (x y : SinkView) (r : Result T E) → Simulates a (request_entry ask answer ∷ []) b → SaysAnswer answer x y r → Serves (Ok (order.Ask ask)) a b x y r
Serves-request ask answer a b x y r simulates p = Serves-one (Ok (order.Ask ask)) p.text a b x y r (HasMade-request p.text ask answer a b simulates p.said) p.says

-- ---- a turn

-- its line is the entry's
pub Serves-turn : {T E : Type 0} (wanted : Order) (e : Entry) (a b : ClusterView) (x y : SinkView) (r : Result T E) → Makes (Ok wanted) (One e) → answer_of e ≡ None → Simulates a (e ∷ []) b → SaysText (turn_line e) x y r → Serves (Ok wanted) a b x y r
Serves-turn wanted e a b x y r makes none simulates says =
    Serves-one (Ok wanted) (turn_line e) a b x y r (HasMade-one (Ok wanted) e false (turn_line e) a b makes tt (λ stood. simulates) (ap (λ o. entry_line_by o e) none)) says

-- a take is no request, and is one that its line may make
pub take_is : (worker : ℕ) (t : Take) → IsTake worker None (take_entry worker t) × (answer_of (take_entry worker t) ≡ None)
take_is worker (take.Job brief) = ((refl, refl), refl)
take_is worker take.Idle = ((refl, refl), refl)
take_is worker (take.Already brief) = (refl, refl)
take_is worker (take.Other holder) = (refl, refl)
take_is worker take.NoMemory = (refl, refl)

pub take_key_is : (worker : ℕ) (k : Key) (t : Take) → IsTake worker (Some k) (take_key_entry worker k t) × (answer_of (take_key_entry worker k t) ≡ None)
take_key_is worker k (take.Job brief) = ((refl, (refl, refl)), refl)
take_key_is worker k take.Idle = (refl, refl)
take_key_is worker k (take.Already brief) = (refl, refl)
take_key_is worker k (take.Other holder) = ((refl, refl), refl)
take_key_is worker k take.NoMemory = (refl, refl)
