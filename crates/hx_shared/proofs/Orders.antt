-- Histories of calls: what one call more does.
--     stands_request, stands_take, stands_finish, stands_drop, stands_busy    the cluster stands for the history with one call more
--     open_hand, is_plan    what is open for a worker is in its hand, and a plan of it is one of what is held
--     still_open            what is open by a seat's own calls is open in the whole history
--     history_of, opens     a history for which a cluster stands is legal;  one that is free stands for none
use Rattle.std.proofs.Common.{◌≡◌, ◌≢◌, ℕ, Bool, true, false, cond, not, ◌==◌, List, [], ◌∷◌, ◌++◌, Option, Some, None, option_map, refl, sym, ap, ◌∙◌, subst, append_assoc, append-nil}
use Rattle.std.specs.Prelude.{IfSome, IsSome}
use Rattle.std.proofs.lemmas.Bool.{eqb-true}
use native.Mathlib.Decide.{ℕ_discrete}
use mathlib.Core.Logic.{dite}
use Rattle.hx_turn.specs.Passes.{carrying}
use Rattle.hx_turn.proofs.Lists.{carrying_own, carrying_other}
use Rattle.hx_model.specs.declared.ask.Ask.{Ask}
use Rattle.hx_model.specs.declared.ask.Answer.{Answer}
use Rattle.hx_model.specs.declared.key.Key.{Key}
use Rattle.hx_model.specs.declared.refusal.Refusal.TheVariants.{BadLine, BadPath, BadQuery, NotJson, NotWhole, NotKind, OtherPlace, Broken, OverQuota, NoPath, NotFound, NoMethod, Exists, OtherVersion, TooLong, Missing, WrongType, NoQuantity, BadName, BadLabel, TooManyLabels, TooLarge, StoreFailed, NotServed, Expired, NoMemory as NoRoom}
use Rattle.hx_model.specs.declared.ask.Answer.TheVariants.{One, Many, Deleted, Document, Events, Refused as Refusing}
use Rattle.hx_reconcile.specs.declared.brief.Brief.{Brief}
use Rattle.hx_model.specs.declared.key.Finish.{Finish}
use Rattle.hx_model.specs.declared.key.Finish.TheVariants as ending
use Rattle.hx_core.specs.declared.turns.Take.{Take}
use Rattle.hx_core.specs.declared.turns.Take.TheVariants as take
use Rattle.hx_model.specs.Hands.{Hand, hand_of, hand_at, without_hand}
use Rattle.hx_model.specs.Machine.{World, Entry, IsLegal, IsEnd, world_after, finished_by, given_back}
use Rattle.hx_core.specs.Refinement.{ClusterView, HasWorld, Simulates}
use Rattle.hx_model.specs.Requests.{request_entry}
use Rattle.hx_core.specs.Turns.{take_entry, IsInHand}
use Rattle.hx_reconcile.specs.Briefs.{hand_by}
use Rattle.hx_core.proofs.Simulating.{Simulates-none, Simulates-then}
use Rattle.hx_shared.specs.declared.call.Call.{Call}
use Rattle.hx_shared.specs.declared.call.Call.TheVariants as call
use Rattle.hx_shared.specs.Calls.{Log, entry_of, entries, opened_take, opened_by, opened, IsOpenedBy, MayTake, MayFollow, IsOrderly, HandsAre, StandsAt, IsHistoryFrom}

-- ---- lists of calls

entries_append : (xs ys : Log) → entries (xs ++ ys) ≡ entries xs ++ entries ys
entries_append [] ys = refl
entries_append (e ∷ xs) ys = ap (λ es. entry_of e.1 ∷ es) (entries_append xs ys)

pub opened_append : (w : ℕ) (o : Option (ℕ × Brief)) (xs ys : Log) → opened w o (xs ++ ys) ≡ opened w (opened w o xs) ys
opened_append w o [] ys = refl
opened_append w o (e ∷ xs) ys = opened_append w (opened_by w o e.0 e.1) xs ys

orderly_snoc : (before es : Log) (n : ℕ) (c : Call) → IsOrderly before es → MayFollow (before ++ es) n c → IsOrderly before (es ++ (n, c) ∷ [])
orderly_snoc before [] n c p q = (subst (λ l. MayFollow l n c) (append-nil before) q, tt)
orderly_snoc before (e ∷ es) n c p q = (p.0, orderly_snoc (before ++ e ∷ []) es n c p.1 (subst (λ l. MayFollow l n c) (sym (append_assoc before (e ∷ []) es)) q))

-- ---- hands

hand_snoc : (w : ℕ) (hands : List Hand) (h : Hand) → (h.worker == w) ≡ false → hand_of w (hands ++ h ∷ []) ≡ hand_of w hands
hand_snoc w [] h ne = ap (λ b. cond b (Some h) None) ne
hand_snoc w (x ∷ hands) h ne = ap (λ o. cond (x.worker == w) (Some x) o) (hand_snoc w hands h ne)

hand_without_by : (v w : ℕ) (hands : List Hand) (x : Hand) → (v == w) ≡ false → hand_of w (without_hand v hands) ≡ hand_of w hands → (b : Bool) → (x.worker == v) ≡ b
    → hand_of w (cond (not b) (x ∷ without_hand v hands) (without_hand v hands)) ≡ cond (x.worker == w) (Some x) (hand_of w hands)
hand_without_by v w hands x ne later true e = later ∙ sym (ap (λ b. cond b (Some x) (hand_of w hands)) (ap (λ n. n == w) (eqb-true x.worker v e) ∙ ne))
hand_without_by v w hands x ne later false e = ap (λ o. cond (x.worker == w) (Some x) o) later

hand_without : (v w : ℕ) (hands : List Hand) → (v == w) ≡ false → hand_of w (without_hand v hands) ≡ hand_of w hands
hand_without v w [] ne = refl
hand_without v w (x ∷ hands) ne = hand_without_by v w hands x ne (hand_without v w hands ne) (x.worker == v) refl

held_by : ℕ → ℕ × Brief → Hand
held_by w o = hand_by w o.1

HandsAre_of : (log : Log) (old : List Hand) → HandsAre log old → (w : ℕ) → hand_of w old ≡ option_map (λ (o : ℕ × Brief). hand_by w o.1) (opened w None log)
HandsAre_of log old are w = are w

-- a call that opens and closes nothing
still_hands : (log : Log) (n : ℕ) (c : Call) (old new : List Hand) → ((w : ℕ) (o : Option (ℕ × Brief)) → opened_by w o n c ≡ o) → new ≡ old → HandsAre log old → HandsAre (log ++ (n, c) ∷ []) new
still_hands log n c old new same is are w =
    ap (hand_of w) is ∙ are w ∙ ap (option_map (λ (o : ℕ × Brief). hand_by w o.1)) (sym (opened_append w None log ((n, c) ∷ []) ∙ same w (opened w None log)))

-- one that opens
take_hands : (log : Log) (n v : ℕ) (brief : Brief) (old new : List Hand) (h : Hand) → h.worker ≡ v → new ≡ old ++ h ∷ [] → hand_of v new ≡ Some (hand_by v brief) → HandsAre log old
    → HandsAre (log ++ (n, call.Take v (take.Job brief)) ∷ []) new
take_hands log n v brief old new h whose is in_hand are w = by (v == w) refl ∙ ap (option_map (λ (o : ℕ × Brief). hand_by w o.1)) (sym (opened_append w None log ((n, call.Take v (take.Job brief)) ∷ [])))
  where
    by : (b : Bool) → (v == w) ≡ b → hand_of w new ≡ option_map (λ (o : ℕ × Brief). hand_by w o.1) (cond (v == w) (Some (n, brief)) (opened w None log))
    by true e = subst (λ u. hand_of u new ≡ Some (hand_by u brief)) (eqb-true v w e) in_hand ∙ ap (λ b. option_map (λ (o : ℕ × Brief). hand_by w o.1) (cond b (Some (n, brief)) (opened w None log))) (sym e)
    by false e =
        ap (hand_of w) is ∙ hand_snoc w old h (ap (λ n. n == w) whose ∙ e) ∙ are w
        ∙ ap (λ b. option_map (λ (o : ℕ × Brief). hand_by w o.1) (cond b (Some (n, brief)) (opened w None log))) (sym e)

-- one that closes
end_hands : (log : Log) (n v : ℕ) (c : Call) (old new : List Hand) → ((w : ℕ) (o : Option (ℕ × Brief)) → opened_by w o n c ≡ cond (v == w) None o) → new ≡ without_hand v old → hand_of v new ≡ None → HandsAre log old
    → HandsAre (log ++ (n, c) ∷ []) new
end_hands log n v c old new ends is empty are w = by (v == w) refl ∙ ap (option_map (λ (o : ℕ × Brief). hand_by w o.1)) (sym (opened_append w None log ((n, c) ∷ []) ∙ ends w (opened w None log)))
  where
    by : (b : Bool) → (v == w) ≡ b → hand_of w new ≡ option_map (λ (o : ℕ × Brief). hand_by w o.1) (cond (v == w) None (opened w None log))
    by true e = subst (λ u. hand_of u new ≡ None) (eqb-true v w e) empty ∙ ap (λ b. option_map (λ (o : ℕ × Brief). hand_by w o.1) (cond b None (opened w None log))) (sym e)
    by false e = ap (hand_of w) is ∙ hand_without v w old e ∙ are w ∙ ap (λ b. option_map (λ (o : ℕ × Brief). hand_by w o.1) (cond b None (opened w None log))) (sym e)

-- ---- the machine

-- one call more, of which the core tells its entry
pub stands_more : (o c d : ClusterView) (log : Log) (n : ℕ) (e : Call) → StandsAt o log c → Simulates c (entry_of e ∷ []) d → MayFollow log n e → HandsAre (log ++ (n, e) ∷ []) d.workers.hands → StandsAt o (log ++ (n, e) ∷ []) d
stands_more o c d log n e stands one may hands = record {
  simulates = subst (λ es. Simulates o es d) (sym (entries_append log ((n, e) ∷ []))) (Simulates-then o c d (entries log) (entry_of e ∷ []) stands.simulates one);
  orderly = orderly_snoc [] log n e stands.orderly may;
  hands = hands;
}

-- the world behind one entry
new_hands : (c d : ClusterView) (e : Entry) (p : Simulates c (e ∷ []) d) → IsLegal p.stood.0 e × (p.stood.0.hands ≡ c.workers.hands) × ((world_after p.stood.0 e).hands ≡ d.workers.hands)
new_hands c d e p = let s = p.steps p.stood.0 p.stood.1 in (s.0.0, p.stood.1.hands, s.1.hands)

request_hands : (w : World) (ask : Ask) (answer : Answer) → (world_after w (request_entry ask answer)).hands ≡ w.hands
request_hands w ask (One x fresh) = refl
request_hands w ask (Many kind objects version) = refl
request_hands w ask (Deleted version) = refl
request_hands w ask (Document document) = refl
request_hands w ask (Events events version) = refl
request_hands w ask (Refusing BadLine) = refl
request_hands w ask (Refusing BadPath) = refl
request_hands w ask (Refusing (BadQuery name)) = refl
request_hands w ask (Refusing NotJson) = refl
request_hands w ask (Refusing NotWhole) = refl
request_hands w ask (Refusing (NotKind kind)) = refl
request_hands w ask (Refusing OtherPlace) = refl
request_hands w ask (Refusing (Broken rule)) = refl
request_hands w ask (Refusing (OverQuota ns quota resource used asked hard)) = refl
request_hands w ask (Refusing NoPath) = refl
request_hands w ask (Refusing (NotFound kind name)) = refl
request_hands w ask (Refusing NoMethod) = refl
request_hands w ask (Refusing (Exists kind name)) = refl
request_hands w ask (Refusing (OtherVersion kind name version)) = refl
request_hands w ask (Refusing TooLong) = refl
request_hands w ask (Refusing (Missing path)) = refl
request_hands w ask (Refusing (WrongType path)) = refl
request_hands w ask (Refusing (NoQuantity path)) = refl
request_hands w ask (Refusing BadName) = refl
request_hands w ask (Refusing BadLabel) = refl
request_hands w ask (Refusing TooManyLabels) = refl
request_hands w ask (Refusing TooLarge) = refl
request_hands w ask (Refusing StoreFailed) = refl
request_hands w ask (Refusing NotServed) = refl
request_hands w ask (Refusing (Expired floor)) = refl
request_hands w ask (Refusing NoRoom) = refl

pub stands_request : (o c d : ClusterView) (log : Log) (n : ℕ) (ask : Ask) (answer : Answer) → StandsAt o log c → Simulates c (request_entry ask answer ∷ []) d → StandsAt o (log ++ (n, call.Request ask answer) ∷ []) d
stands_request o c d log n ask answer stands one =
    let new = new_hands c d (request_entry ask answer) one in
    stands_more o c d log n (call.Request ask answer) stands one tt
    (still_hands log n (call.Request ask answer) c.workers.hands d.workers.hands (λ w o. refl) (sym new.2 ∙ request_hands one.stood.0 ask answer ∙ new.1) stands.hands)

pub stands_busy : (o c : ClusterView) (log : Log) (n waiting held : ℕ) → StandsAt o log c → Simulates c (entry_of (call.Busy waiting held) ∷ []) c → StandsAt o (log ++ (n, call.Busy waiting held) ∷ []) c
stands_busy o c log n waiting held stands one = stands_more o c c log n (call.Busy waiting held) stands one tt (still_hands log n (call.Busy waiting held) c.workers.hands c.workers.hands (λ w o. refl) refl stands.hands)

-- a take that gives nothing
take_still : (o c d : ClusterView) (log : Log) (n v : ℕ) (taken : Take) → MayTake log v taken → ((w : ℕ) (o : Option (ℕ × Brief)) → opened_take w o n v taken ≡ o) → ((w : World) → (world_after w (take_entry v taken)).hands ≡ w.hands)
    → StandsAt o log c → Simulates c (take_entry v taken ∷ []) d → StandsAt o (log ++ (n, call.Take v taken) ∷ []) d
take_still o c d log n v taken may same kept stands one =
    let new = new_hands c d (take_entry v taken) one in
    stands_more o c d log n (call.Take v taken) stands one may (still_hands log n (call.Take v taken) c.workers.hands d.workers.hands same (sym new.2 ∙ kept one.stood.0 ∙ new.1) stands.hands)

none_of : {A B : Type 0} (f : A → B) (o : Option A) → option_map f o ≡ None → o ≡ None
none_of f None e = refl
none_of f (Some x) e = absurd (let p = e in cc)

pub stands_take : (o c d : ClusterView) (log : Log) (n v : ℕ) (taken : Take) → StandsAt o log c → Simulates c (take_entry v taken ∷ []) d → IsInHand d.workers.hands v taken → StandsAt o (log ++ (n, call.Take v taken) ∷ []) d
stands_take o c d log n v (take.Job brief) stands one in_hand =
    let new = new_hands c d (take_entry v (take.Job brief)) one in
    let w = one.stood.0 in
    stands_more o c d log n (call.Take v (take.Job brief)) stands one
    (none_of (λ (o : ℕ × Brief). hand_by v o.1) (opened v None log) (sym (stands.hands v) ∙ ap (hand_of v) (sym new.1) ∙ new.0.0))
    (take_hands log n v brief c.workers.hands d.workers.hands (hand_at w.state v brief.key) refl (sym new.2 ∙ ap (λ hs. hs ++ hand_at w.state v brief.key ∷ []) new.1) in_hand stands.hands)
stands_take o c d log n v take.Idle stands one in_hand = take_still o c d log n v take.Idle tt (λ w o. refl) (λ w. refl) stands one
stands_take o c d log n v (take.Already brief) stands one in_hand = take_still o c d log n v (take.Already brief) tt (λ w o. refl) (λ w. refl) stands one
stands_take o c d log n v (take.Other holder) stands one in_hand = take_still o c d log n v (take.Other holder) tt (λ w o. refl) (λ w. refl) stands one
stands_take o c d log n v take.NoMemory stands one in_hand = take_still o c d log n v take.NoMemory tt (λ w o. refl) (λ w. refl) stands one

-- ---- ends

some_none : {A : Type 0} (x : A) → Some x ≡ None → ⊥
some_none x e = cc

finish_hands : (w : World) (v : ℕ) (end : Finish) (o : Option Hand) (hand : Hand) → o ≡ Some hand → IsEnd w o end → (finished_by w o v end).hands ≡ without_hand v w.hands
finish_hands w v end None hand e legal = absurd (some_none hand (sym e))
finish_hands w v ending.Empty (Some x) hand e legal = absurd legal
finish_hands w v ending.Nothing (Some x) hand e legal = refl
finish_hands w v (ending.Conflict seen now) (Some x) hand e legal = refl
finish_hands w v ending.Spent (Some x) hand e legal = refl
finish_hands w v (ending.Written version) (Some x) hand e legal = refl
finish_hands w v ending.Fault (Some x) hand e legal = refl
finish_hands w v ending.NoMemory (Some x) hand e legal = refl

not_empty : (w : World) (v : ℕ) (end : Finish) (o : Option Hand) (hand : Hand) → o ≡ Some hand → IsEnd w o end → end ≢ ending.Empty
not_empty w v end None hand e legal = absurd (some_none hand (sym e))
not_empty w v end (Some x) hand e legal = λ is. subst (IsEnd w (Some x)) is legal

drop_hands : (w : World) (v : ℕ) (o : Option Hand) (hand : Hand) → o ≡ Some hand → (given_back w o v).hands ≡ without_hand v w.hands
drop_hands w v None hand e = absurd (some_none hand (sym e))
drop_hands w v (Some x) hand e = refl

-- what is open for a worker is in its hand
pub open_hand : (o c : ClusterView) (log : Log) (n v : ℕ) (brief : Brief) → StandsAt o log c → opened v None log ≡ Some (n, brief) → hand_of v c.workers.hands ≡ Some (hand_by v brief)
open_hand o c log n v brief stands is = stands.hands v ∙ ap (option_map (λ (o : ℕ × Brief). hand_by v o.1)) is

is_opened : (n : ℕ) (brief : Brief) (o : Option (ℕ × Brief)) → o ≡ Some (n, brief) → IsOpenedBy n o
is_opened n brief o e = subst (IsOpenedBy n) (sym e) refl

pub stands_finish : (o c d : ClusterView) (log : Log) (n v : ℕ) (end : Finish) (brief : Brief) → StandsAt o log c → opened v None log ≡ Some (n, brief) → Simulates c (entry_of (call.Finish v end) ∷ []) d → hand_of v d.workers.hands ≡ None
    → StandsAt o (log ++ (n, call.Finish v end) ∷ []) d × (end ≢ ending.Empty)
stands_finish o c d log n v end brief stands taken_at one empty =
    let new = new_hands c d (entry_of (call.Finish v end)) one in
    let w = one.stood.0 in
    let has : hand_of v w.hands ≡ Some (hand_by v brief) = ap (hand_of v) new.1 ∙ open_hand o c log n v brief stands taken_at in (
      stands_more o c d log n (call.Finish v end) stands one (is_opened n brief (opened v None log) taken_at)
          (end_hands log n v (call.Finish v end) c.workers.hands d.workers.hands (λ w o. refl) (sym new.2 ∙ finish_hands w v end (hand_of v w.hands) (hand_by v brief) has new.0 ∙ ap (without_hand v) new.1) empty stands.hands),
      not_empty w v end (hand_of v w.hands) (hand_by v brief) has new.0,
    )

is_some_by : {A B : Type 0} (f : A → B) (k : Option B) (o : Option A) (x : A) → k ≡ option_map f o → o ≡ Some x → IsSome k
is_some_by f k o x e is = subst IsSome (sym (e ∙ ap (option_map f) is)) refl

pub stands_drop : (o c d : ClusterView) (log : Log) (n v : ℕ) (key : Option Key) (brief : Brief) → StandsAt o log c → opened v None log ≡ Some (n, brief) → Simulates c (entry_of (call.Drop v key) ∷ []) d → hand_of v d.workers.hands ≡ None
    → StandsAt o (log ++ (n, call.Drop v key) ∷ []) d × IsSome key
stands_drop o c d log n v key brief stands taken_at one empty =
    let new = new_hands c d (entry_of (call.Drop v key)) one in
    let w = one.stood.0 in
    let has : hand_of v w.hands ≡ Some (hand_by v brief) = ap (hand_of v) new.1 ∙ open_hand o c log n v brief stands taken_at in (
      stands_more o c d log n (call.Drop v key) stands one (is_opened n brief (opened v None log) taken_at)
          (end_hands log n v (call.Drop v key) c.workers.hands d.workers.hands (λ w o. refl) (sym new.2 ∙ drop_hands w v (hand_of v w.hands) (hand_by v brief) has ∙ ap (without_hand v) new.1) empty stands.hands),
      is_some_by (λ (hand : Hand). hand.key) key (hand_of v w.hands) (hand_by v brief) new.0 has,
    )

-- a plan of what is open is one of what is held
plan_of : (v : ℕ) (brief : Brief) (o : Option Hand) → o ≡ Some (hand_by v brief) → IfSome o (λ hand. hand ≡ hand_by v brief)
plan_of v brief o e = subst (λ o. IfSome o (λ hand. hand ≡ hand_by v brief)) (sym e) refl

pub is_plan : (o c : ClusterView) (log : Log) (n v : ℕ) (brief : Brief) → StandsAt o log c → opened v None log ≡ Some (n, brief) → IfSome (hand_of v c.workers.hands) (λ hand. hand ≡ hand_by v brief)
is_plan o c log n v brief stands is = plan_of v brief (hand_of v c.workers.hands) (open_hand o c log n v brief stands is)

-- ---- what a seat knows of its own takes

-- a call of the seat itself
same_step : (w n : ℕ) (b : Brief) (o p : Option (ℕ × Brief)) (c : Call) → (o ≡ Some (n, b) → p ≡ Some (n, b)) → opened_by w o n c ≡ Some (n, b) → opened_by w p n c ≡ Some (n, b)
same_step w n b o p (call.Request ask answer) f e = f e
same_step w n b o p (call.Take v (take.Job brief)) f e = by (v == w) e
  where
    by : (x : Bool) → cond x (Some (n, brief)) o ≡ Some (n, b) → cond x (Some (n, brief)) p ≡ Some (n, b)
    by true e = e
    by false e = f e
same_step w n b o p (call.Take v take.Idle) f e = f e
same_step w n b o p (call.Take v (take.Already brief)) f e = f e
same_step w n b o p (call.Take v (take.Other holder)) f e = f e
same_step w n b o p (call.Take v take.NoMemory) f e = f e
same_step w n b o p (call.Finish v end) f e = by (v == w) e
  where
    by : (x : Bool) → cond x None o ≡ Some (n, b) → cond x None p ≡ Some (n, b)
    by true e = e
    by false e = f e
same_step w n b o p (call.Drop v key) f e = by (v == w) e
  where
    by : (x : Bool) → cond x None o ≡ Some (n, b) → cond x None p ≡ Some (n, b)
    by true e = e
    by false e = f e
same_step w n b o p (call.Busy waiting held) f e = f e

-- what is open by one seat isn't closed by another
opened_else : (n m : ℕ) (b : Brief) (o : Option (ℕ × Brief)) → m ≢ n → o ≡ Some (n, b) → IsOpenedBy m o → ⊥
opened_else n m b o ne e by = ne (sym (subst (IsOpenedBy m) e by))

-- a call of another seat
other_step : (w n m : ℕ) (b : Brief) (before : Log) (c : Call) → m ≢ n → MayFollow before m c → opened w None before ≡ Some (n, b) → opened_by w (opened w None before) m c ≡ Some (n, b)
other_step w n m b before (call.Request ask answer) ne may e = e
other_step w n m b before (call.Take v (take.Job brief)) ne may e = by (v == w) refl
  where
    by : (x : Bool) → (v == w) ≡ x → cond x (Some (m, brief)) (opened w None before) ≡ Some (n, b)
    by true is = absurd (some_none (n, b) (sym e ∙ subst (λ u. opened u None before ≡ None) (eqb-true v w is) may))
    by false is = e
other_step w n m b before (call.Take v take.Idle) ne may e = e
other_step w n m b before (call.Take v (take.Already brief)) ne may e = e
other_step w n m b before (call.Take v (take.Other holder)) ne may e = e
other_step w n m b before (call.Take v take.NoMemory) ne may e = e
other_step w n m b before (call.Finish v end) ne may e = by (v == w) refl
  where
    by : (x : Bool) → (v == w) ≡ x → cond x None (opened w None before) ≡ Some (n, b)
    by true is = absurd (opened_else n m b (opened w None before) ne e (subst (λ u. IsOpenedBy m (opened u None before)) (eqb-true v w is) may))
    by false is = e
other_step w n m b before (call.Drop v key) ne may e = by (v == w) refl
  where
    by : (x : Bool) → (v == w) ≡ x → cond x None (opened w None before) ≡ Some (n, b)
    by true is = absurd (opened_else n m b (opened w None before) ne e (subst (λ u. IsOpenedBy m (opened u None before)) (eqb-true v w is) may))
    by false is = e
other_step w n m b before (call.Busy waiting held) ne may e = e

abbrev Knows : ℕ → ℕ → Brief → Log → Type 0
Knows w n b log = opened w None (carrying n log) ≡ Some (n, b) → opened w None log ≡ Some (n, b)

one_more : (w n : ℕ) (b : Brief) (before : Log) (m : ℕ) (c : Call) → MayFollow before m c → Knows w n b before → Knows w n b (before ++ (m, c) ∷ [])
one_more w n b before m c may knows mine = dite (ℕ_discrete m n) same other
  where
    same : m ≡ n → opened w None (before ++ (m, c) ∷ []) ≡ Some (n, b)
    same is =
        let at : opened w None (carrying n before ++ (n, c) ∷ []) ≡ Some (n, b) = ap (opened w None) (sym (carrying_own n before c)) ∙ ap (λ k. opened w None (carrying n (before ++ (k, c) ∷ []))) (sym is) ∙ mine in
        ap (λ k. opened w None (before ++ (k, c) ∷ [])) is ∙ opened_append w None before ((n, c) ∷ [])
        ∙ same_step w n b (opened w None (carrying n before)) (opened w None before) c knows (sym (opened_append w None (carrying n before) ((n, c) ∷ [])) ∙ at)

    other : m ≢ n → opened w None (before ++ (m, c) ∷ []) ≡ Some (n, b)
    other ne =
        opened_append w None before ((m, c) ∷ [])
        ∙ other_step w n m b before c ne may (knows (ap (opened w None) (sym (carrying_other n m before c (λ e. ne (sym e)))) ∙ mine))

knows_all : (w n : ℕ) (b : Brief) (before es : Log) → Knows w n b before → IsOrderly before es → Knows w n b (before ++ es)
knows_all w n b before [] knows p = subst (Knows w n b) (sym (append-nil before)) knows
knows_all w n b before (e ∷ es) knows p = subst (Knows w n b) (append_assoc before (e ∷ []) es) (knows_all w n b (before ++ e ∷ []) es (one_more w n b before e.0 e.1 p.0 knows) p.1)

-- what is open by a seat's own calls is open
pub still_open : (o c : ClusterView) (log mine : Log) (w n : ℕ) (b : Brief) → StandsAt o log c → carrying n log ≡ mine → opened w None mine ≡ Some (n, b) → opened w None log ≡ Some (n, b)
still_open o c log mine w n b stands own is = knows_all w n b [] log (λ e. absurd (some_none (n, b) (sym e))) stands.orderly (ap (opened w None) own ∙ is)

-- ---- openings and ends

pub history_of : (o c : ClusterView) (log : Log) → StandsAt o log c → IsHistoryFrom o log
history_of o c log stands = record { stood = stands.simulates.stood; legal = λ w r. (stands.simulates.steps w r).0; orderly = stands.orderly }

pub opens : (c : ClusterView) → c.workers.hands ≡ [] → HasWorld c → StandsAt c [] c
opens c free stood = record { simulates = Simulates-none c stood; orderly = tt; hands = λ w. ap (hand_of w) free }
