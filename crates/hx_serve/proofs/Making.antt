-- What a message makes: the entry of a request, or of a refusal.
--     HasAnswered-none, HasAnswered-refused, HasAnswered-then      nothing was asked;  a head was refused;  one after the other
--     answered            a message was answered
use Rattle.std.proofs.Common.{◌≡◌, ◌≢◌, ℕ, Bool, true, false, List, [], ◌∷◌, ◌++◌, Ok, Err, refl, sym, ap, subst, ◌∙◌, inl, inr, map, flat_map}
use Rattle.std.specs.Prelude.{◌⊎◌}
use Rattle.std.specs.List.{AllByRecursion}
use Rattle.std.specs.declared.result.Result.{Result}
use Rattle.std.proofs.lemmas.Grind.{flat_map-append}
use Rattle.std.proofs.lemmas.List.{map-append}
use Rattle.hx_model.specs.declared.ask.Ask.{Ask}
use Rattle.hx_model.specs.declared.ask.Answer.{Answer}
use Rattle.hx_model.specs.declared.ask.Answer.TheVariants.{Refused as Refusing}
use Rattle.hx_model.specs.declared.refusal.Refusal.{Refusal}
use Rattle.hx_model.specs.declared.refusal.Refusal.TheVariants.{StoreFailed, NoMemory as NoRoom}
use Rattle.hx_model.specs.Machine.{Entry, Refused as Turned, LostRequest, NoMemory, History}
use Rattle.hx_model.specs.Requests.{request_entry}
use Rattle.hx_model.proofs.Histories.{answer_of-request_entry}
use Rattle.hx_http.specs.Messages.{Message}
use Rattle.hx_http.specs.Replies.{no_memory_text, fault_text}
use Rattle.hx_http.specs.Streams.{Question, Asked, Rejected}
use Rattle.hx_http.specs.declared.fault.HeadFault.{HeadFault}
use Rattle.hx_link.specs.Exchanges.{Exchange as Plain}
use Rattle.hx_core.specs.Refinement.{ClusterView, HasWorld, Simulates}
use Rattle.hx_script.specs.Exchanges.{One, Makes, IsRequest, MayBeUnsaid}
use Rattle.hx_script.specs.Forms.{asking_for}
use Rattle.hx_script.proofs.Simulating.{Simulates-after, Simulates-lost, Simulates-none, Simulates-refused}
use Rattle.hx_serve.specs.Exchanges.{Exchange, Answered, Refused, HasAnswered, IsExchange, entry_reply, made_by, order_of, plain_of, reading_of, reply_of, said_reply}
use Rattle.hx_serve.specs.Inside.{IsCalled, IsSaid}
use Rattle.hx_serve.proofs.Fixed.{no_memory_is}

-- ---- exchanges put together

pub HasAnswered-none : (c : ClusterView) → HasAnswered c [] c
HasAnswered-none c = record { exchanges = []; are = refl; each = tt; simulates = λ stood. Simulates-none c stood }

pub HasAnswered-refused : (c : ClusterView) (fault : HeadFault) → HasAnswered c (record { question = Rejected fault; text = fault_text fault } ∷ []) c
HasAnswered-refused c fault = record { exchanges = Refused fault ∷ []; are = refl; each = (tt, tt); simulates = λ stood. Simulates-none c stood }

all_append : (xs ys : List Exchange) → AllByRecursion IsExchange xs → AllByRecursion IsExchange ys → AllByRecursion IsExchange (xs ++ ys)
all_append [] ys p q = q
all_append (x ∷ xs) ys p q = (p.0, all_append xs ys p.1 q)

pub HasAnswered-then : (a b c : ClusterView) (first then : List (Plain Question)) → HasAnswered a first b → HasAnswered b then c → HasAnswered a (first ++ then) c
HasAnswered-then a b c first then p q =
    record {
      exchanges = p.exchanges ++ q.exchanges;
      are = ap (λ l. l ++ then) p.are ∙ ap (λ l. map plain_of p.exchanges ++ l) q.are ∙ sym (map-append plain_of p.exchanges q.exchanges);
      each = all_append p.exchanges q.exchanges p.each q.each;
      simulates = λ stood. subst (λ (h : History). Simulates a h c) (sym (flat_map-append made_by p.exchanges q.exchanges)) (Simulates-after a b c (flat_map made_by p.exchanges) (flat_map made_by q.exchanges) p.simulates q.simulates stood);
    }

-- ---- one message

-- it made one entry
one : (m : Message) (e : Entry) (unsaid : Bool) (text : List ℕ) (a b : ClusterView) → Makes (order_of m) (One e) → MayBeUnsaid (One e) unsaid → (HasWorld a → Simulates a (e ∷ []) b) → said_reply m.last (One e) unsaid ≡ text
    → HasAnswered a (record { question = Asked m; text = text } ∷ []) b
one m e unsaid text a b makes said simulates is =
    record {
      exchanges = Answered m (One e) unsaid ∷ [];
      are = ap (λ (t : List ℕ). record { question = Asked m; text = t } ∷ []) (sym is);
      each = (record { makes = makes; said = said }, tt);
      simulates = simulates;
    }

-- the order of what was read
asks : (m : Message) (ask : Ask) (e : Entry) → reading_of m ≡ Ok ask → IsRequest ask e → Makes (order_of m) (One e)
asks m ask e reads is = subst (λ (reading : Result Ask Refusal). Makes (asking_for reading) (One e)) (sym reads) is

refuses : (m : Message) (refusal : Refusal) → reading_of m ≡ Err refusal → Makes (order_of m) (One (Turned refusal))
refuses m refusal reads = subst (λ (reading : Result Ask Refusal). Makes (asking_for reading) (One (Turned refusal))) (sym reads) refl

-- ---- a message that is refused

-- its reading found no memory
lost : (m : Message) (reading : Result Ask Refusal) (text : List ℕ) (c : ClusterView) → reading_of m ≡ reading → text ≡ no_memory_text m.last → HasAnswered c (record { question = Asked m; text = text } ∷ []) c
lost m (Ok ask) text c reads is = one m (LostRequest ask NoMemory) false text c c (asks m ask (LostRequest ask NoMemory) reads refl) tt (Simulates-lost c ask) (sym (no_memory_is m.last) ∙ sym is)
lost m (Err refusal) text c reads is = one m (Turned refusal) true text c c (refuses m refusal reads) tt (Simulates-refused c refusal) (sym is)

-- the text for want of memory, whether it was meant or stands for another
said_lost : (last : Bool) (text : List ℕ) (refusal : Refusal) → refusal ≡ NoRoom → IsSaid last (Refusing refusal) text → text ≡ no_memory_text last
said_lost last text refusal is (inl said) = said ∙ ap (λ r. reply_of last (Refusing r)) is ∙ sym (no_memory_is last)
said_lost last text refusal is (inr said) = said.0

refused : (m : Message) (text : List ℕ) (refusal : Refusal) (c : ClusterView) → (refusal ≡ NoRoom) ⊎ (reading_of m ≡ Err refusal) → IsSaid m.last (Refusing refusal) text → HasAnswered c (record { question = Asked m; text = text } ∷ []) c
refused m text refusal c (inl is) said = lost m (reading_of m) text c refl (said_lost m.last text refusal is said)
refused m text refusal c (inr reads) (inl said) = one m (Turned refusal) false text c c (refuses m refusal reads) tt (Simulates-refused c refusal) (sym said)
refused m text refusal c (inr reads) (inr said) = one m (Turned refusal) true text c c (refuses m refusal reads) tt (Simulates-refused c refusal) (sym said.0)

-- ---- a request

is_request : (ask : Ask) (answer : Answer) → IsRequest ask (request_entry ask answer)
is_request ask (Refusing StoreFailed) = refl
is_request ask (Refusing NoRoom) = refl
is_request ask answer = refl

-- the reply to a loss for want of memory is that fixed text
abbrev is_unsaid : Answer → Bool
is_unsaid (Refusing NoRoom) = false
is_unsaid _ = true

may_be_unsaid : (ask : Ask) (answer : Answer) → answer ≢ Refusing StoreFailed → MayBeUnsaid (One (request_entry ask answer)) (is_unsaid answer)
may_be_unsaid ask (Refusing StoreFailed) other = absurd (other refl)
may_be_unsaid ask (Refusing NoRoom) other = tt
may_be_unsaid ask answer other = tt

request : (m : Message) (text : List ℕ) (ask : Ask) (answer : Answer) (a b : ClusterView) → reading_of m ≡ Ok ask → Simulates a (request_entry ask answer ∷ []) b → IsSaid m.last answer text → HasAnswered a (record { question = Asked m; text = text } ∷ []) b
request m text ask answer a b reads simulates (inl said) =
    let reply = ap (λ o. entry_reply m.last o) (answer_of-request_entry ask answer) in
    one m (request_entry ask answer) false text a b (asks m ask (request_entry ask answer) reads (is_request ask answer)) tt (λ stood. simulates) (reply ∙ sym said)
request m text ask (Refusing NoRoom) a b reads simulates (inr said) = one m (LostRequest ask NoMemory) false text a b (asks m ask (LostRequest ask NoMemory) reads refl) tt (λ stood. simulates) (sym (no_memory_is m.last) ∙ sym said.0)
request m text ask answer a b reads simulates (inr said) = one m (request_entry ask answer) (is_unsaid answer) text a b (asks m ask (request_entry ask answer) reads (is_request ask answer)) (may_be_unsaid ask answer said.1) (λ stood. simulates) (sym said.0)

-- a message was answered
pub answered : (m : Message) (answer : Answer) (text : List ℕ) (a b : ClusterView) → IsCalled (reading_of m) a answer b → IsSaid m.last answer text → HasAnswered a (record { question = Asked m; text = text } ∷ []) b
answered m answer text a b (inl made) said = request m text made.ask answer a b made.reads made.simulates said
answered m answer text a b (inr unread) said =
    subst (λ (c : ClusterView). HasAnswered a (record { question = Asked m; text = text } ∷ []) c) (sym unread.same)
    (refused m text unread.refusal a unread.cause (subst (λ (r : Answer). IsSaid m.last r text) unread.refused said))
