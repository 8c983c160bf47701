-- The entries of requests, by what was done for them.
--     passes_orderly     the writes of an ask are those that a commit may make
--     passes_entry       an answer of success is a request's own entry
--     asks_refused       an ask that is refused, or for which no memory was left
--     asks_passed        an answer without writes
--     asks_landed        an answer whose writes landed
--     asks_lost          an ask whose writes were lost
--     marks_refused, marks_passed, marks_landed, marks_lost    the keys that are marked then
use Rattle.std.proofs.Common.{◌≡◌, ◌≢◌, Bool, true, false, List, [], ◌∷◌, None, Some, Option, refl, sym, ap, subst, ◌∙◌, inl, inr}
use Rattle.std.specs.Prelude.{◌⊎◌, ◌||◌}
use Rattle.std.specs.List.{AllByRecursion}
use Rattle.hx_object.specs.declared.object.Id.{Id}
use Rattle.hx_object.specs.declared.object.Object.{Object}
use Rattle.hx_model.specs.Answers.{refusal_of, answer_to, writes_of, success, answer_found, Mutates}
use Rattle.hx_model.specs.Keys.{may_mark}
use Rattle.hx_model.specs.Machine.{World, Entry, Request, LostRequest, NoMemory, KeeperFault, broken_at, writes_if, writes_made}
use Rattle.hx_model.specs.Requests.{request_entry}
use Rattle.hx_model.specs.State.{State, events_of, state_after, object_at}
use Rattle.hx_model.specs.Valid.{IsValid}
use Rattle.hx_model.specs.declared.ask.Ask.{Ask}
use Rattle.hx_model.specs.declared.ask.Ask.TheVariants.{Get, List as ListOf, Create, Replace, Delete, Document as DocumentOf, Events as EventsSince}
use Rattle.hx_model.specs.declared.ask.Answer.{Answer}
use Rattle.hx_model.specs.declared.ask.Answer.TheVariants.{Refused as Refusing}
use Rattle.hx_model.specs.declared.key.Key.{Key}
use Rattle.hx_model.specs.declared.key.Write.{Write}
use Rattle.hx_model.specs.declared.refusal.Refusal.{Refusal}
use Rattle.hx_model.specs.declared.refusal.Refusal.TheVariants.{StoreFailed, NoMemory as NoRoom}
use Rattle.hx_model.proofs.Replying.{answer-refused, answer-passed, changes-refused, changes-read}
use Rattle.hx_marks.specs.Halves.{IsRegular}
use Rattle.hx_marks.proofs.Regular.{regular_request}
use Rattle.hx_admit.specs.Reviewing.{Passes}
use Rattle.hx_core.specs.Committing.{HasLanded, HasFailed, HasMarked, IsOrderly, StaysOut}
use Rattle.hx_core.specs.Queued.{writes_in}
use Rattle.hx_core.specs.Refinement.{ClusterView, HasWorld, Simulates}
use Rattle.hx_queue.specs.Workers.{WorkersView}
use Rattle.hx_core.specs.declared.commit.CommitFault.{CommitFault}
use Rattle.hx_core.specs.declared.commit.CommitFault.TheVariants.{KeeperFault as CommitKeeperFault, NoMemory as CommitNoMemory}
use Rattle.hx_core.proofs.Entering.{request_out}
use Rattle.hx_core.proofs.Making.{enters_still, enters_landed, enters_failed, marks_nothing}
use Rattle.hx_core.proofs.Refusing.{refusal_entry}

-- ---- a success is a request's own entry

shown_entry : (ask : Ask) (found : Option Object) (fresh : Bool) (id : Id) → request_entry ask (answer_found found fresh id) ≡ Request ask (answer_found found fresh id)
shown_entry ask None fresh id = refl
shown_entry ask (Some x) fresh id = refl

success_entry : (s t : State) (ask : Ask) → request_entry ask (success s t ask) ≡ Request ask (success s t ask)
success_entry s t (Get id) = shown_entry (Get id) (object_at s.objects id) false id
success_entry s t (ListOf kind ns selector fields) = refl
success_entry s t (Create x skip) = shown_entry (Create x skip) (object_at t.objects x.id) true x.id
success_entry s t (Replace x expected skip) = shown_entry (Replace x expected skip) (object_at t.objects x.id) false x.id
success_entry s t (Delete id skip) = refl
success_entry s t (DocumentOf document) = refl
success_entry s t (EventsSince version) = refl

pub passes_entry : (s : State) (ask : Ask) (ws : List Write) (answer : Answer) → Passes s ask ws answer → request_entry ask answer ≡ Request ask answer
passes_entry s ask ws answer passes = subst (λ a. request_entry ask a ≡ Request ask a) passes.says (success_entry s (state_after s ws) ask)

-- ---- what is written

-- an ask that would change nothing writes nothing
quiet_made : (s : State) (ask : Ask) → (Mutates s ask → ⊥) → writes_made s ask ≡ []
quiet_made s ask quiet = by (refusal_of s ask) (writes_of s ask) refl refl
  where
    by : (o : Option Refusal) (ws : List Write) → refusal_of s ask ≡ o → writes_of s ask ≡ ws → writes_if o ws ≡ []
    by (Some refusal) ws e f = refl
    by None [] e f = refl
    by None (w ∷ ws) e f = absurd (quiet (e, λ none. let h : (w ∷ ws) ≡ [] = sym f ∙ none in cc))

or_none : (b : Bool) → (b || false) ≡ b
or_none true = refl
or_none false = refl

-- and marks nothing
marks_none : (w : World) (ws : List Write) → ws ≡ [] → ◌≡◌ {A = Key → Bool} (λ k. w.marked k || may_mark w.state ws k) w.marked
marks_none w ws none = λ i k. (ap (λ us. w.marked k || may_mark w.state us k) none ∙ or_none (w.marked k)) i

-- one that passes makes its writes
passes_made : (s : State) (ask : Ask) (ws : List Write) (answer : Answer) → Passes s ask ws answer → writes_made s ask ≡ ws
passes_made s ask ws answer passes = ap (λ o. writes_if o (writes_of s ask)) passes.passes ∙ passes.changes

-- its writes are those of a request, and put nothing new into a namespace that is on its way out
pub passes_orderly : (s : State) (ask : Ask) (ws : List Write) (answer : Answer) → IsValid s → Passes s ask ws answer → IsOrderly s ws
passes_orderly s ask ws answer valid passes = record {
  regular = subst (IsRegular s) passes.changes (regular_request s ask valid.in_order);
  out = subst (AllByRecursion (StaysOut s)) passes.changes (request_out s ask valid passes.passes);
}

-- ---- entries

-- an answer of the machine that leaves the state
answers_still : (c : ClusterView) (ask : Ask) (answer : Answer) → HasWorld c → request_entry ask answer ≡ Request ask answer → answer_to c.state ask ≡ (answer, c.state) → (Mutates c.state ask → ⊥) → Simulates c (request_entry ask answer ∷ []) c
answers_still c ask answer stood own says quiet =
    subst (λ e. Simulates c (e ∷ []) c) (sym own) (enters_still c c (Request ask answer) stood refl refl (λ w stands.
    let here : answer_to w.state ask ≡ (answer, w.state) = subst (λ s. answer_to s ask ≡ (answer, s)) (sym stands.state) says in
    let none : writes_made w.state ask ≡ [] = quiet_made w.state ask (λ changes. quiet (subst (λ s. Mutates s ask) stands.state changes)) in
    ((sym (ap (λ p. p.0) here), λ changes. absurd (quiet (subst (λ s. Mutates s ask) stands.state changes))), λ i. record w { state = (here i).1; marked = marks_none w (writes_made w.state ask) none i }))
    (λ w stands. ap (events_of w.state) (quiet_made w.state ask (λ changes. quiet (subst (λ s. Mutates s ask) stands.state changes)))))

asks_nothing : (c : ClusterView) (ask : Ask) → HasWorld c → Simulates c (LostRequest ask NoMemory ∷ []) c
asks_nothing c ask stood = enters_still c c (LostRequest ask NoMemory) stood refl refl (λ w stands. (tt, refl)) (λ w stands. refl)

-- an ask that is refused, or for which no memory was left
pub asks_refused : (c : ClusterView) (ask : Ask) (refusal : Refusal) → HasWorld c → (refusal ≡ NoRoom) ⊎ (refusal_of c.state ask ≡ Some refusal) → Simulates c (request_entry ask (Refusing refusal) ∷ []) c
asks_refused c ask refusal stood (inl e) = subst (λ r. Simulates c (request_entry ask (Refusing r) ∷ []) c) (sym e) (asks_nothing c ask stood)
asks_refused c ask refusal stood (inr e) =
    answers_still c ask (Refusing refusal) stood (refusal_entry c.state ask refusal e) (answer-refused c.state ask refusal e) (changes-refused c.state ask refusal e)

-- what the machine says of an ask that passes
passes_says : (s : State) (ask : Ask) (ws : List Write) (answer : Answer) → Passes s ask ws answer → answer_to s ask ≡ (answer, state_after s ws)
passes_says s ask ws answer passes = answer-passed s ask ws passes.passes passes.changes ∙ ap (λ a. (a, state_after s ws)) passes.says

-- an answer without writes
pub asks_passed : (c : ClusterView) (ask : Ask) (ws : List Write) (answer : Answer) → HasWorld c → Passes c.state ask ws answer → ws ≡ [] → Simulates c (request_entry ask answer ∷ []) c
asks_passed c ask ws answer stood passes none =
    answers_still c ask answer stood (passes_entry c.state ask ws answer passes) (passes_says c.state ask ws answer passes ∙ ap (λ vs. (answer, state_after c.state vs)) none) (changes-read c.state ask (passes.changes ∙ none))

-- an answer whose writes landed
pub asks_landed : (old new : ClusterView) (ask : Ask) (ws : List Write) (answer : Answer) → HasWorld old → Passes old.state ask ws answer → HasLanded old.state old.keeper ws new.state new.keeper → HasMarked old.state ws old.workers new.workers → Simulates old (request_entry ask answer ∷ []) new
asks_landed old new ask ws answer stood passes landed marked =
    subst (λ e. Simulates old (e ∷ []) new) (sym (passes_entry old.state ask ws answer passes)) (enters_landed old new ws (Request ask answer) stood landed marked refl (λ w stands.
    let here : answer_to w.state ask ≡ (answer, state_after w.state ws) = subst (λ s. answer_to s ask ≡ (answer, state_after s ws)) (sym stands.state) (passes_says old.state ask ws answer passes) in
    let made : writes_made w.state ask ≡ ws = subst (λ s. writes_made s ask ≡ ws) (sym stands.state) (passes_made old.state ask ws answer passes) in
    ((sym (ap (λ p. p.0) here), λ changes. stands.broken ∙ landed.whole), λ i. record w { state = (here i).1; marked = λ k. w.marked k || may_mark w.state (made i) k }))
    (λ w stands. ap (events_of w.state) (subst (λ s. writes_made s ask ≡ ws) (sym stands.state) (passes_made old.state ask ws answer passes))))

-- an ask that makes writes would change something
changing : (s : State) (ask : Ask) (ws : List Write) (answer : Answer) → Passes s ask ws answer → ws ≢ [] → Mutates s ask
changing s ask ws answer passes some = (passes.passes, λ none. some (sym passes.changes ∙ none))

-- an ask whose writes were lost to a fault of the keeper
asks_failed : (old new : ClusterView) (ask : Ask) (ws : List Write) (answer : Answer) → HasWorld old → Passes old.state ask ws answer → ws ≢ [] → HasFailed old.state old.keeper ws new.state new.keeper → new.workers ≡ old.workers → Simulates old (request_entry ask (Refusing StoreFailed) ∷ []) new
asks_failed old new ask ws answer stood passes some failed same =
    enters_failed old new ws (LostRequest ask KeeperFault) stood failed same refl (λ w stands. (
      subst (λ s. Mutates s ask) (sym stands.state) (changing old.state ask ws answer passes some),
      ap (λ vs. broken_at w (state_after w.state vs)) (subst (λ s. writes_of s ask ≡ ws) (sym stands.state) passes.changes),
    )) (λ w stands. refl)

-- an ask whose writes were lost
pub asks_lost : (old new : ClusterView) (ask : Ask) (ws : List Write) (answer : Answer) (fault : CommitFault) (refusal : Refusal) → HasWorld old → Passes old.state ask ws answer → ws ≢ []
    → (fault ≡ CommitNoMemory → new ≡ old) → (fault ≡ CommitKeeperFault → HasFailed old.state old.keeper ws new.state new.keeper) → new.workers ≡ old.workers → (fault ≡ CommitKeeperFault → refusal ≡ StoreFailed) → (fault ≡ CommitNoMemory → refusal ≡ NoRoom)
    → Simulates old (request_entry ask (Refusing refusal) ∷ []) new
asks_lost old new ask ws answer CommitKeeperFault refusal stood passes some memory failed same store room =
    subst (λ r. Simulates old (request_entry ask (Refusing r) ∷ []) new) (sym (store refl)) (asks_failed old new ask ws answer stood passes some (failed refl) same)
asks_lost old new ask ws answer CommitNoMemory refusal stood passes some memory failed same store room =
    subst (λ r. Simulates old (request_entry ask (Refusing r) ∷ []) new) (sym (room refl)) (subst (λ c. Simulates old (LostRequest ask NoMemory ∷ []) c) (sym (memory refl)) (asks_nothing old ask stood))

-- ---- what is marked

-- where the ask's entry writes nothing
marks_none_by : (s : State) (old new : WorkersView) (e : Entry) → new ≡ old → writes_in s e ≡ [] → HasMarked s (writes_in s e) old new
marks_none_by s old new e same none = subst (λ ws. HasMarked s ws old new) (sym none) (marks_nothing s old new same)

refused_none : (s : State) (ask : Ask) (refusal : Refusal) → refusal_of s ask ≡ Some refusal → writes_in s (request_entry ask (Refusing refusal)) ≡ []
refused_none s ask refusal e = ap (writes_in s) (refusal_entry s ask refusal e) ∙ ap (λ o. writes_if o (writes_of s ask)) e

pub marks_refused : (s : State) (v : WorkersView) (ask : Ask) (refusal : Refusal) → (refusal ≡ NoRoom) ⊎ (refusal_of s ask ≡ Some refusal) → HasMarked s (writes_in s (request_entry ask (Refusing refusal))) v v
marks_refused s v ask refusal (inl e) = marks_none_by s v v (request_entry ask (Refusing refusal)) refl (ap (λ r. writes_in s (request_entry ask (Refusing r))) e)
marks_refused s v ask refusal (inr e) = marks_none_by s v v (request_entry ask (Refusing refusal)) refl (refused_none s ask refusal e)

-- what an ask that passes writes
passes_in : (s : State) (ask : Ask) (ws : List Write) (answer : Answer) → Passes s ask ws answer → writes_in s (request_entry ask answer) ≡ ws
passes_in s ask ws answer passes = ap (writes_in s) (passes_entry s ask ws answer passes) ∙ passes_made s ask ws answer passes

pub marks_passed : (s : State) (v : WorkersView) (ask : Ask) (ws : List Write) (answer : Answer) → Passes s ask ws answer → ws ≡ [] → HasMarked s (writes_in s (request_entry ask answer)) v v
marks_passed s v ask ws answer passes none = marks_none_by s v v (request_entry ask answer) refl (passes_in s ask ws answer passes ∙ none)

pub marks_landed : (s : State) (old new : WorkersView) (ask : Ask) (ws : List Write) (answer : Answer) → Passes s ask ws answer → HasMarked s ws old new → HasMarked s (writes_in s (request_entry ask answer)) old new
marks_landed s old new ask ws answer passes marked = subst (λ us. HasMarked s us old new) (sym (passes_in s ask ws answer passes)) marked

pub marks_lost : (s : State) (old new : WorkersView) (ask : Ask) (fault : CommitFault) (refusal : Refusal) → new ≡ old → (fault ≡ CommitKeeperFault → refusal ≡ StoreFailed) → (fault ≡ CommitNoMemory → refusal ≡ NoRoom) → HasMarked s (writes_in s (request_entry ask (Refusing refusal))) old new
marks_lost s old new ask CommitKeeperFault refusal same store room = marks_none_by s old new (request_entry ask (Refusing refusal)) same (ap (λ r. writes_in s (request_entry ask (Refusing r))) (store refl))
marks_lost s old new ask CommitNoMemory refusal same store room = marks_none_by s old new (request_entry ask (Refusing refusal)) same (ap (λ r. writes_in s (request_entry ask (Refusing r))) (room refl))
