-- Turns one after the other.
use Rattle.std.proofs.Common.{◌≡◌, ℕ, ◌+◌, Bool, true, false, cond, List, [], ◌∷◌, ◌++◌, length, Some, None, eq-eqb, refl, sym, ap, ◌∙◌, subst, append_assoc, append-nil, arith}
use Rattle.std.specs.Prelude.{◌||◌}
use Rattle.std.specs.List.{AllByRecursion, list_any}
use Rattle.std.proofs.lemmas.List.Folds.{list_any-append}
use mathlib.Core.List.{IsPrefix}
use Rattle.hx_reconcile.specs.declared.brief.Brief.{Brief}
use Rattle.hx_core.specs.declared.turns.Take.{Take}
use Rattle.hx_core.specs.declared.turns.Take.TheVariants as take
use Rattle.hx_shared.specs.declared.call.Call.{Call}
use Rattle.hx_shared.specs.declared.call.Call.TheVariants as call
use Rattle.hx_shared.specs.declared.work.WorkEnd.{WorkEnd}
use Rattle.hx_shared.specs.declared.work.WorkEnd.TheVariants as ended
use Rattle.hx_shared.specs.Calls.{opened}
use Rattle.hx_shared.specs.Seats.{SeatView, Adds, HasTaken}
use Rattle.hx_shared.specs.Working.{Ends, HasTakenIfJob, IsRest, IsTurn, signed, HasCalled, HasTurned, HasWorked, all_of, gets_on}
use Rattle.hx_shared.proofs.Orders.{opened_append}

prefix_then : {X : Type 0} (xs ys zs : List X) → IsPrefix xs ys → IsPrefix ys zs → IsPrefix xs zs
prefix_then xs ys zs p q = (p.0 ++ q.0, sym (append_assoc xs p.0 q.0) ∙ ap (λ l. l ++ q.0) p.1 ∙ q.1)

called_one : (old new : SeatView) (e : Call) → Adds old e new → HasCalled (e ∷ []) old new
called_one old new e a = record { mine = a.mine; number = a.number; opening = a.opening; rights = a.rights; first = a.first; seen = (a.between ++ (old.number, e) ∷ [], sym (append_assoc old.seen a.between ((old.number, e) ∷ [])) ∙ sym a.seen) }

called_none : (v : SeatView) → HasCalled [] v v
called_none v = record { mine = sym (append-nil v.mine); number = refl; opening = refl; rights = refl; first = refl; seen = ([], append-nil v.seen) }

signed_append : (n : ℕ) (xs ys : List Call) → signed n (xs ++ ys) ≡ signed n xs ++ signed n ys
signed_append n [] ys = refl
signed_append n (x ∷ xs) ys = ap (λ l. (n, x) ∷ l) (signed_append n xs ys)

called_then : (a b c : SeatView) (xs ys : List Call) → HasCalled xs a b → HasCalled ys b c → HasCalled (xs ++ ys) a c
called_then a b c xs ys p q = record {
  mine =
      q.mine ∙ ap (λ l. l ++ signed b.number ys) p.mine ∙ ap (λ n. (a.mine ++ signed a.number xs) ++ signed n ys) p.number
      ∙ append_assoc a.mine (signed a.number xs) (signed a.number ys) ∙ ap (λ l. a.mine ++ l) (sym (signed_append a.number xs ys));
  number = q.number ∙ p.number;
  opening = q.opening ∙ p.opening;
  rights = q.rights ∙ p.rights;
  first = q.first ∙ p.first;
  seen = prefix_then a.seen b.seen c.seen p.seen q.seen;
}

-- what a seat took it holds
taken_of : (old new : SeatView) (w : ℕ) (brief : Brief) → Adds old (call.Take w (take.Job brief)) new → HasTaken new w brief
taken_of old new w brief a =
    ap (opened w None) a.mine ∙ opened_append w None old.mine ((old.number, call.Take w (take.Job brief)) ∷ [])
    ∙ ap (λ b. cond b (Some (old.number, brief)) (opened w None old.mine)) (eq-eqb w w refl) ∙ ap (λ n. Some (n, brief)) (sym a.number)

pub taken_if : (old new : SeatView) (w : ℕ) (taken : Take) → Adds old (call.Take w taken) new → HasTakenIfJob w taken new
taken_if old new w (take.Job brief) a = taken_of old new w brief a
taken_if old new w take.Idle a = tt
taken_if old new w (take.Already brief) a = tt
taken_if old new w (take.Other holder) a = tt
taken_if old new w take.NoMemory a = tt

pub taken_same : (v : SeatView) (w : ℕ) (brief same : Brief) → same ≡ brief → HasTaken v w brief → HasTaken v w same
taken_same v w brief same is held = subst (HasTaken v w) (sym is) held

alone : (a b c : SeatView) (w : ℕ) (taken : Take) (on : Bool) → Adds a (call.Take w taken) b → (on ≡ false) × (c ≡ b) → IsRest w taken [] → HasTurned w on a c
alone a b c w taken on first same rest =
    record { calls = call.Take w taken ∷ []; is = (taken, [], refl, rest); got = sym same.0; called = subst (HasCalled (call.Take w taken ∷ []) a) (sym same.1) (called_one a b (call.Take w taken) first) }

or_false : (b : Bool) → (b || false) ≡ b
or_false true = refl
or_false false = refl

pub turned : (a b c : SeatView) (w : ℕ) (taken : Take) (on : Bool) → Adds a (call.Take w taken) b → Ends w taken on b c → HasTurned w on a c
turned a b c w (take.Job brief) on first ends = record {
  calls = call.Take w (take.Job brief) ∷ ends.0 ∷ [];
  is = (take.Job brief, ends.0 ∷ [], refl, (ends.0, ends.1, refl));
  got = or_false (gets_on ends.0) ∙ ends.2;
  called = called_then a b c (call.Take w (take.Job brief) ∷ []) (ends.0 ∷ []) (called_one a b (call.Take w (take.Job brief)) first) (called_one b c ends.0 ends.3);
}
turned a b c w take.Idle on first ends = alone a b c w take.Idle on first ends refl
turned a b c w (take.Already brief) on first ends = alone a b c w (take.Already brief) on first ends refl
turned a b c w (take.Other holder) on first ends = alone a b c w (take.Other holder) on first ends refl
turned a b c w take.NoMemory on first ends = alone a b c w take.NoMemory on first ends refl

pub worked_none : (v : SeatView) (w : ℕ) → HasWorked w 0 false v v
worked_none v w = record { turns = []; each = tt; many = refl; got = refl; called = called_none v }

all_snoc : (P : List Call → Type 0) (ts : List (List Call)) (t : List Call) → AllByRecursion P ts → P t → AllByRecursion P (ts ++ t ∷ [])
all_snoc P [] t p q = (q, tt)
all_snoc P (x ∷ ts) t p q = (p.0, all_snoc P ts t p.1 q)

length_snoc : (ts : List (List Call)) (t : List Call) → length (ts ++ t ∷ []) ≡ length ts + 1
length_snoc [] t = refl
length_snoc (x ∷ ts) t = let h = length_snoc ts t in omega (arith, h)

all_of_snoc : (ts : List (List Call)) (t : List Call) → all_of (ts ++ t ∷ []) ≡ all_of ts ++ t
all_of_snoc [] t = append-nil t
all_of_snoc (x ∷ ts) t = ap (λ l. x ++ l) (all_of_snoc ts t) ∙ sym (append_assoc x (all_of ts) t)

pub worked_more : (a b c : SeatView) (w made : ℕ) (on one : Bool) → HasWorked w made on a b → HasTurned w one b c → HasWorked w (made + 1) (on || one) a c
worked_more a b c w made on one p q = record {
  turns = p.turns ++ q.calls ∷ [];
  each = all_snoc (IsTurn w) p.turns q.calls p.each q.is;
  many = length_snoc p.turns q.calls ∙ ap (λ n. n + 1) p.many;
  got = ap (list_any gets_on) (all_of_snoc p.turns q.calls) ∙ list_any-append gets_on (all_of p.turns) q.calls ∙ ap (λ x. x || list_any gets_on q.calls) p.got ∙ ap (λ x. on || x) q.got;
  called = subst (λ l. HasCalled l a c) (sym (all_of_snoc p.turns q.calls)) (called_then a b c (all_of p.turns) q.calls p.called q.called);
}

-- however its turns ended, the seat made some number of them
pub worked_so : (w turns : ℕ) (on : Bool) (end : WorkEnd) (a b : SeatView) → (end ≡ ended.Used → HasWorked w turns on a b) → (end ≡ ended.Stopped → (made : ℕ) × HasWorked w made on a b) → (made : ℕ) × HasWorked w made on a b
worked_so w turns on ended.Used a b used stopped = (turns, used refl)
worked_so w turns on ended.Stopped a b used stopped = stopped refl
