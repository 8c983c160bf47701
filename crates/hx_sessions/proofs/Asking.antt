-- What a message makes of a seat: a call of the cluster, or none.
--     HasAsked-none, HasAsked-refused, HasAsked-then      nothing was asked;  a head was refused;  one after the other
--     asked               a message was answered
use Rattle.std.proofs.Common.{◌≡◌, ◌≢◌, ℕ, Bool, true, false, List, [], ◌∷◌, ◌++◌, Ok, Err, refl, sym, ap, subst, ◌∙◌, inl, inr, map, flat_map, append-nil, append_assoc}
use Rattle.std.specs.Prelude.{◌⊎◌}
use Rattle.std.specs.List.{AllByRecursion}
use Rattle.std.specs.declared.result.Result.{Result}
use Rattle.std.proofs.lemmas.Grind.{flat_map-append}
use Rattle.std.proofs.lemmas.List.{map-append}
use mathlib.Core.List.{IsPrefix}
use Rattle.hx_model.specs.declared.ask.Ask.{Ask}
use Rattle.hx_model.specs.declared.ask.Answer.{Answer}
use Rattle.hx_model.specs.declared.ask.Answer.TheVariants.{Refused as Refusing}
use Rattle.hx_model.specs.declared.refusal.Refusal.{Refusal}
use Rattle.hx_model.specs.declared.refusal.Refusal.TheVariants.{StoreFailed, NoMemory as NoRoom}
use Rattle.hx_model.specs.Machine.{Entry, Refused as Turned, LostRequest, NoMemory}
use Rattle.hx_model.specs.Requests.{request_entry}
use Rattle.hx_model.proofs.Histories.{answer_of-request_entry}
use Rattle.hx_http.specs.Messages.{Message}
use Rattle.hx_http.specs.Replies.{no_memory_text, fault_text}
use Rattle.hx_http.specs.Streams.{Question, Asked, Rejected}
use Rattle.hx_http.specs.declared.fault.HeadFault.{HeadFault}
use Rattle.hx_link.specs.Exchanges.{Exchange as Plain}
use Rattle.hx_script.specs.Exchanges.{One, Makes, IsRequest, MayBeUnsaid}
use Rattle.hx_script.specs.Forms.{asking_for}
use Rattle.hx_serve.specs.Exchanges.{entry_reply, order_of, plain_of, reading_of, reply_of, said_reply}
use Rattle.hx_serve.specs.Inside.{IsSaid}
use Rattle.hx_serve.proofs.Fixed.{no_memory_is}
use Rattle.hx_shared.specs.Calls.{Log}
use Rattle.hx_shared.specs.Seats.{Adds, HasHistory, SeatView}
use Rattle.hx_shared.specs.Working.{HasCalled, signed}
use Rattle.hx_shared.specs.declared.call.Call.{Call}
use Rattle.hx_shared.specs.declared.call.Call.TheVariants as call
use Rattle.hx_sessions.specs.Inside.{IsCalled}
use Rattle.hx_sessions.specs.Seats.{SeatExchange, Called, Uncalled, Refused, HasAsked, IsSeatExchange, IsUncalled, calls_by, exchange_of, seat_plain}

-- ---- calls of a seat

called-none : (v : SeatView) → HasCalled [] v v
called-none v = record { mine = sym (append-nil v.mine); seen = ([], append-nil v.seen); number = refl; opening = refl; rights = refl; first = refl }

signed_append : (n : ℕ) (xs ys : List Call) → signed n (xs ++ ys) ≡ signed n xs ++ signed n ys
signed_append n [] ys = refl
signed_append n (x ∷ xs) ys = ap (λ (l : Log). (n, x) ∷ l) (signed_append n xs ys)

prefix_trans : (a b c : Log) → IsPrefix a b → IsPrefix b c → IsPrefix a c
prefix_trans a b c (k, p) (l, q) = (k ++ l, sym (append_assoc a k l) ∙ ap (λ (m : Log). m ++ l) p ∙ q)

called-then : (xs ys : List Call) (a b c : SeatView) → HasCalled xs a b → HasCalled ys b c → HasCalled (xs ++ ys) a c
called-then xs ys a b c p q =
    record {
      mine = q.mine ∙ ap (λ (l : Log). l ++ signed b.number ys) p.mine ∙ append_assoc a.mine (signed a.number xs) (signed b.number ys) ∙ ap (λ n. a.mine ++ (signed a.number xs ++ signed n ys)) p.number ∙ ap (λ (l : Log). a.mine ++ l) (sym (signed_append a.number xs ys));
      seen = prefix_trans a.seen b.seen c.seen p.seen q.seen;
      number = q.number ∙ p.number;
      opening = q.opening ∙ p.opening;
      rights = q.rights ∙ p.rights;
      first = q.first ∙ p.first;
    }

called-one : (e : Call) (a b : SeatView) → Adds a e b → HasCalled (e ∷ []) a b
called-one e a b p = record { mine = p.mine; seen = (p.between ++ (a.number, e) ∷ [], sym (append_assoc a.seen p.between ((a.number, e) ∷ [])) ∙ sym p.seen); number = p.number; opening = p.opening; rights = p.rights; first = p.first }

-- ---- exchanges put together

pub HasAsked-none : (v : SeatView) → HasAsked v [] v
HasAsked-none v = record { exchanges = []; are = refl; each = tt; called = called-none v; legal = λ h. h }

pub HasAsked-refused : (v : SeatView) (fault : HeadFault) → HasAsked v (record { question = Rejected fault; text = fault_text fault } ∷ []) v
HasAsked-refused v fault = record { exchanges = Refused fault ∷ []; are = refl; each = ((tt, tt), tt); called = called-none v; legal = λ h. h }

all_append : (xs ys : List SeatExchange) → AllByRecursion IsSeatExchange xs → AllByRecursion IsSeatExchange ys → AllByRecursion IsSeatExchange (xs ++ ys)
all_append [] ys p q = q
all_append (x ∷ xs) ys p q = (p.0, all_append xs ys p.1 q)

plain_append : (xs ys : List SeatExchange) → seat_plain (xs ++ ys) ≡ seat_plain xs ++ seat_plain ys
plain_append xs ys = ap (λ l. map plain_of l) (map-append exchange_of xs ys) ∙ map-append plain_of (map exchange_of xs) (map exchange_of ys)

pub HasAsked-then : (a b c : SeatView) (first then : List (Plain Question)) → HasAsked a first b → HasAsked b then c → HasAsked a (first ++ then) c
HasAsked-then a b c first then p q =
    record {
      exchanges = p.exchanges ++ q.exchanges;
      are = ap (λ l. l ++ then) p.are ∙ ap (λ l. seat_plain p.exchanges ++ l) q.are ∙ sym (plain_append p.exchanges q.exchanges);
      each = all_append p.exchanges q.exchanges p.each q.each;
      called = subst (λ (l : List Call). HasCalled l a c) (sym (flat_map-append calls_by p.exchanges q.exchanges)) (called-then (flat_map calls_by p.exchanges) (flat_map calls_by q.exchanges) a b c p.called q.called);
      legal = λ h. q.legal (p.legal h);
    }

-- ---- one message

-- the order of what was read
asks : (m : Message) (ask : Ask) (e : Entry) → reading_of m ≡ Ok ask → IsRequest ask e → Makes (order_of m) (One e)
asks m ask e reads is = subst (λ (reading : Result Ask Refusal). Makes (asking_for reading) (One e)) (sym reads) is

refuses : (m : Message) (refusal : Refusal) → reading_of m ≡ Err refusal → Makes (order_of m) (One (Turned refusal))
refuses m refusal reads = subst (λ (reading : Result Ask Refusal). Makes (asking_for reading) (One (Turned refusal))) (sym reads) refl

-- nothing was asked
uncalled : (m : Message) (e : Entry) (unsaid : Bool) (text : List ℕ) (v : SeatView) → IsUncalled e → Makes (order_of m) (One e) → MayBeUnsaid (One e) unsaid → said_reply m.last (One e) unsaid ≡ text
    → HasAsked v (record { question = Asked m; text = text } ∷ []) v
uncalled m e unsaid text v none makes said is =
    record {
      exchanges = Uncalled m e unsaid ∷ [];
      are = ap (λ (t : List ℕ). record { question = Asked m; text = t } ∷ []) (sym is);
      each = ((record { makes = makes; said = said }, none), tt);
      called = called-none v;
      legal = λ h. h;
    }

-- its reading found no memory
lost : (m : Message) (reading : Result Ask Refusal) (text : List ℕ) (v : SeatView) → reading_of m ≡ reading → text ≡ no_memory_text m.last → HasAsked v (record { question = Asked m; text = text } ∷ []) v
lost m (Ok ask) text v reads is = uncalled m (LostRequest ask NoMemory) false text v tt (asks m ask (LostRequest ask NoMemory) reads refl) tt (sym (no_memory_is m.last) ∙ sym is)
lost m (Err refusal) text v reads is = uncalled m (Turned refusal) true text v tt (refuses m refusal reads) tt (sym is)

-- the text for want of memory, whether it was meant or stands for another
said_lost : (last : Bool) (text : List ℕ) (refusal : Refusal) → refusal ≡ NoRoom → IsSaid last (Refusing refusal) text → text ≡ no_memory_text last
said_lost last text refusal is (inl said) = said ∙ ap (λ r. reply_of last (Refusing r)) is ∙ sym (no_memory_is last)
said_lost last text refusal is (inr said) = said.0

refused : (m : Message) (text : List ℕ) (refusal : Refusal) (v : SeatView) → (refusal ≡ NoRoom) ⊎ (reading_of m ≡ Err refusal) → IsSaid m.last (Refusing refusal) text → HasAsked v (record { question = Asked m; text = text } ∷ []) v
refused m text refusal v (inl is) said = lost m (reading_of m) text v refl (said_lost m.last text refusal is said)
refused m text refusal v (inr reads) (inl said) = uncalled m (Turned refusal) false text v tt (refuses m refusal reads) tt (sym said)
refused m text refusal v (inr reads) (inr said) = uncalled m (Turned refusal) true text v tt (refuses m refusal reads) tt (sym said.0)

-- it was asked of the cluster
is_request : (ask : Ask) (answer : Answer) → IsRequest ask (request_entry ask answer)
is_request ask (Refusing StoreFailed) = refl
is_request ask (Refusing NoRoom) = refl
is_request ask answer = refl

called : (m : Message) (ask : Ask) (answer : Answer) (unsaid : Bool) (text : List ℕ) (a b : SeatView) → reading_of m ≡ Ok ask → Adds a (call.Request ask answer) b → HasHistory b → MayBeUnsaid (One (request_entry ask answer)) unsaid → said_reply m.last (One (request_entry ask answer)) unsaid ≡ text
    → HasAsked a (record { question = Asked m; text = text } ∷ []) b
called m ask answer unsaid text a b reads adds legal said is =
    record {
      exchanges = Called m ask answer unsaid ∷ [];
      are = ap (λ (t : List ℕ). record { question = Asked m; text = t } ∷ []) (sym is);
      each = ((record { makes = asks m ask (request_entry ask answer) reads (is_request ask answer); said = said }, reads), tt);
      called = called-one (call.Request ask answer) a b adds;
      legal = λ h. legal;
    }

-- the reply to a loss for want of memory is that fixed text
abbrev is_unsaid : Answer → Bool
is_unsaid (Refusing NoRoom) = false
is_unsaid _ = true

may_be_unsaid : (ask : Ask) (answer : Answer) → answer ≢ Refusing StoreFailed → MayBeUnsaid (One (request_entry ask answer)) (is_unsaid answer)
may_be_unsaid ask (Refusing StoreFailed) other = absurd (other refl)
may_be_unsaid ask (Refusing NoRoom) other = tt
may_be_unsaid ask answer other = tt

unsaid_text : (last : Bool) (ask : Ask) (answer : Answer) → answer ≢ Refusing StoreFailed → said_reply last (One (request_entry ask answer)) (is_unsaid answer) ≡ no_memory_text last
unsaid_text last ask (Refusing StoreFailed) other = absurd (other refl)
unsaid_text last ask (Refusing NoRoom) other = sym (no_memory_is last)
unsaid_text last ask answer other = refl

request : (m : Message) (text : List ℕ) (ask : Ask) (answer : Answer) (a b : SeatView) → reading_of m ≡ Ok ask → Adds a (call.Request ask answer) b → HasHistory b → IsSaid m.last answer text → HasAsked a (record { question = Asked m; text = text } ∷ []) b
request m text ask answer a b reads adds legal (inl said) = called m ask answer false text a b reads adds legal tt (ap (λ o. entry_reply m.last o) (answer_of-request_entry ask answer) ∙ sym said)
request m text ask answer a b reads adds legal (inr said) = called m ask answer (is_unsaid answer) text a b reads adds legal (may_be_unsaid ask answer said.1) (unsaid_text m.last ask answer said.1 ∙ sym said.0)

-- a message was answered
pub asked : (m : Message) (answer : Answer) (text : List ℕ) (a b : SeatView) → IsCalled (reading_of m) a answer b → IsSaid m.last answer text → HasAsked a (record { question = Asked m; text = text } ∷ []) b
asked m answer text a b (inl made) said = request m text made.ask answer a b made.reads made.adds made.legal said
asked m answer text a b (inr unread) said =
    subst (λ (v : SeatView). HasAsked a (record { question = Asked m; text = text } ∷ []) v) (sym unread.same)
    (refused m text unread.refusal a unread.cause (subst (λ (r : Answer). IsSaid m.last r text) unread.refused said))
