-- What a settle makes: turns whose lines are written one by one, and its end.
--     MadeTurns-none, MadeTurns-more     no turn yet, and one more
--     Serves-settled     its end is written
--     Serves-over, ends_over, ends_left  it makes no turn more, within its turns or behind them
--     Serves-lost        its last turn was lost
--     Serves-cut         the lines of a turn weren't written
use Rattle.std.proofs.Common.{◌≡◌, ◌≤◌, ◌<◌, ◌+◌, ℕ, false, List, [], ◌∷◌, ◌++◌, None, Some, Ok, Err, Option, refl, sym, ap, subst, ◌∙◌, inl, inr, arith, append_assoc, append-nil, length, length-append, flat_map}
use Rattle.std.specs.Prelude.{◌≢◌, IsErrAnd, unwrap_or}
use Rattle.std.specs.declared.result.Result.{Result}
use Rattle.std.proofs.lemmas.Grind.{flat_map-append}
use Rattle.std.proofs.lemmas.List.{nil_from_length}
use Rattle.hx_ports.specs.Views.{SinkView}
use Rattle.hx_model.specs.declared.key.Finish.{Finish}
use Rattle.hx_model.specs.declared.key.Finish.TheVariants as ending
use Rattle.hx_bound.specs.Bound.{turn_bound}
use Rattle.hx_core.specs.Bounding.{IsCounted, IsUnsettled}
use Rattle.hx_core.specs.Refinement.{ClusterView, HasWorld, Simulates}
use Rattle.hx_core.specs.Settling.{IsWhole}
use Rattle.hx_core.specs.Turns.{turn_entries, turns_entries, end_entries, loss_in, loss_of, IsLeft, IsOver, LoseLast}
use Rattle.hx_queue.specs.Workers.{WorkersView}
use Rattle.hx_core.specs.declared.turns.Settle.{Settle}
use Rattle.hx_core.specs.declared.turns.Settle.TheVariants as settled
use Rattle.hx_core.specs.declared.turns.Turn.TheVariants as turn
use Rattle.hx_core.specs.declared.turns.Turned.{Turned}
use Rattle.hx_core.proofs.Bounding.{counted_more, counted_start}
use Rattle.hx_script.specs.Bounded.{SettlesFor}
use Rattle.hx_script.specs.Exchanges.{Turns, EndsBy, IsSettle, last_turn_lines}
use Rattle.hx_script.specs.Running.{MadeTurns, IsEndOf, Said, SaysText, Serves}
use Rattle.hx_script.specs.Turns.{settled_line, turned_lines}
use Rattle.hx_script.specs.declared.order.Order.TheVariants as order
use Rattle.hx_script.proofs.Saying.{Said-none, Said-then, SaysText-cut}
use Rattle.hx_script.proofs.Simulating.{Simulates-after, Simulates-lost_take, Simulates-none}

-- ---- one turn more

loss_last : (turns : List Turned) (turned : Turned) → loss_of (turns ++ turned ∷ []) ≡ loss_in turned.end
loss_last [] turned = refl
loss_last (t ∷ []) turned = refl
loss_last (t ∷ u ∷ turns) turned = loss_last (u ∷ turns) turned

loss_none : (turns : List Turned) → IsWhole turns → loss_of turns ≡ None
loss_none [] whole = refl
loss_none (t ∷ []) whole = whole.0
loss_none (t ∷ u ∷ turns) whole = loss_none (u ∷ turns) whole.1

lose_last : (turns : List Turned) (turned : Turned) → IsWhole turns → LoseLast (turns ++ turned ∷ [])
lose_last [] turned whole = tt
lose_last (t ∷ []) turned whole = (whole.0, tt)
lose_last (t ∷ u ∷ turns) turned whole = (whole.0, lose_last (u ∷ turns) turned whole.1)

lose_none : (turns : List Turned) → IsWhole turns → LoseLast turns
lose_none [] whole = tt
lose_none (t ∷ []) whole = tt
lose_none (t ∷ u ∷ turns) whole = (whole.0, lose_none (u ∷ turns) whole.1)

whole_more : (turns : List Turned) (turned : Turned) → IsWhole turns → loss_in turned.end ≡ None → IsWhole (turns ++ turned ∷ [])
whole_more [] turned whole none = (none, tt)
whole_more (t ∷ turns) turned whole none = (whole.0, whole_more turns turned whole.1 none)

last_lines_last : (turns : List Turned) (turned : Turned) (end : Settle) → last_turn_lines (turns ++ turned ∷ []) end ≡ turned_lines turned ++ settled_line end
last_lines_last [] turned end = refl
last_lines_last (t ∷ []) turned end = refl
last_lines_last (t ∷ u ∷ turns) turned end = last_lines_last (u ∷ turns) turned end

-- the line of the end is written last
end_is_last : (turns : List Turned) (end : Settle) → IsEndOf (last_turn_lines turns end) (settled_line end)
end_is_last [] end = ([], refl)
end_is_last (t ∷ []) end = (turned_lines t, refl)
end_is_last (t ∷ u ∷ turns) end = end_is_last (u ∷ turns) end

longer : (turns : List Turned) (turned : Turned) → length (turns ++ turned ∷ []) ≡ length turns + 1
longer turns turned = length-append {A = Turned} turns (turned ∷ [])

lines_more : (turns : List Turned) (turned : Turned) → flat_map turned_lines (turns ++ turned ∷ []) ≡ flat_map turned_lines turns ++ turned_lines turned
lines_more turns turned = flat_map-append turned_lines turns (turned ∷ []) ∙ ap (λ l. flat_map turned_lines turns ++ l) (append-nil (turned_lines turned))

-- no turn was made yet
pub MadeTurns-none : (c : ClusterView) (x : SinkView) → MadeTurns 0 c c x x
MadeTurns-none c x = record { turns = []; many = refl; whole = tt; simulates = Simulates-none c; counted = counted_start c; said = Said-none x }

Simulates-turned : (turns : List Turned) (turned : Turned) (a b c : ClusterView) → (HasWorld a → Simulates a (turns_entries turns) b) → Simulates b (turn_entries turned) c → HasWorld a → Simulates a (turns_entries (turns ++ turned ∷ [])) c
Simulates-turned turns turned a b c p q stood =
    subst (λ es. Simulates a es c) (sym (flat_map-append turn_entries turns (turned ∷ []))) (Simulates-after a b c (turns_entries turns) (turn_entries turned) p (λ _. q) stood)

Said-turned : (turns : List Turned) (turned : Turned) (x y z : SinkView) → Said (flat_map turned_lines turns) x y → Said (turned_lines turned) y z → Said (flat_map turned_lines (turns ++ turned ∷ [])) x z
Said-turned turns turned x y z p q =
    subst (λ l. Said l x z) (sym (lines_more turns turned)) (Said-then (flat_map turned_lines turns) (turned_lines turned) x y z p q)

-- a turn was made that wasn't lost, and its lines were written
pub MadeTurns-more : (count : ℕ) (turned : Turned) (a b c : ClusterView) (x y z : SinkView) → MadeTurns count a b x y → loss_in turned.end ≡ None → Simulates b (turn_entries turned) c → IsCounted b (turn.Made turned) c → Said (turned_lines turned) y z → MadeTurns (count + 1) a c x z
MadeTurns-more count turned a b c x y z p none made counts said =
    record {
      turns = p.turns ++ turned ∷ [];
      many = longer p.turns turned ∙ ap (λ n. n + 1) p.many;
      whole = whole_more p.turns turned p.whole none;
      simulates = Simulates-turned p.turns turned a b c p.simulates made;
      counted = counted_more a b c count turned p.counted counts none;
      said = Said-turned p.turns turned x y z p.said said;
    }

-- a turn that ends nothing wasn't lost
pub not_lost : (end : Finish) (o : Option Settle) → o ≡ loss_in end → ((loss : Settle) → o ≡ Some loss → ⊥) → loss_in end ≡ None
not_lost end None is never = sym is
not_lost end (Some loss) is never = absurd (never loss refl)

-- ---- ends

-- a settle of so many turns that ends so, as the bound has it
abbrev pub SettlesWith : Settle → ℕ → ClusterView → Type 0
SettlesWith end most c = c.workers.hands ≡ [] → turn_bound c.state (length c.workers.waiting) ≤ most → IsUnsettled end → ⊥

-- the end is written
pub Serves-settled : {T E : Type 0} (most : ℕ) (turns : List Turned) (end : Settle) (a b : ClusterView) (x y z : SinkView) (r : Result T E) → IsSettle most turns end → (HasWorld a → Simulates a (turns_entries turns ++ end_entries end) b)
    → SettlesFor (Turns turns end) (Ok (order.Settle most)) a → Said (flat_map turned_lines turns) x y → SaysText (settled_line end) y z r → Serves (Ok (order.Settle most)) a b x z r
Serves-settled most turns end a b x y z r is simulates bounded said says =
    record {
      head = flat_map turned_lines turns;
      end = settled_line end;
      made = record { made = Turns turns end; unsaid = false; makes = is; said = tt; simulates = simulates; bounded = bounded; whole = refl; last = end_is_last turns end };
      between = y;
      said = said;
      says = says;
    }

-- it makes no turn more
pub Serves-over : {T E : Type 0} (most count : ℕ) (end : Settle) (a b c : ClusterView) (x y z : SinkView) (r : Result T E) → MadeTurns count a b x y → count ≤ most → ((turns : List Turned) → length turns ≡ count → EndsBy None most turns end)
    → Simulates b (end_entries end) c → SettlesWith end most a → SaysText (settled_line end) y z r → Serves (Ok (order.Settle most)) a c x z r
Serves-over most count end a b c x y z r p few ends simulates bounded says =
    let is : IsSettle most p.turns end = record {
      few = let many = p.many in omega (arith, many, few);
      whole = lose_none p.turns p.whole;
      ends = subst (λ loss. EndsBy loss most p.turns end) (sym (loss_none p.turns p.whole)) (ends p.turns p.many);
    } in
    Serves-settled most p.turns end a c x y z r is (Simulates-after a b c (turns_entries p.turns) (end_entries end) p.simulates (λ _. simulates)) bounded p.said says

some_left : {A : Type 0} (n : ℕ) (xs : List A) → n ≡ length xs → xs ≢ [] → n ≢ 0
some_left n xs is some zero = some (nil_from_length xs (sym is ∙ zero))

-- within its turns
pub ends_over : (v : WorkersView) (end : Settle) → IsOver v end → (most : ℕ) (turns : List Turned) → EndsBy None most turns end
ends_over v settled.Settled over most turns = tt
ends_over v (settled.Unsettled waiting held) (w, h, none, some) most turns = inr (w ∙ ap length none, some_left held v.hands h some)
ends_over v settled.Spent over most turns = absurd over
ends_over v settled.Fault over most turns = absurd over
ends_over v settled.NoMemory over most turns = tt

-- behind them
pub ends_left : (v : WorkersView) (end : Settle) → IsLeft v end → (most : ℕ) (turns : List Turned) → length turns ≡ most → EndsBy None most turns end
ends_left v settled.Settled left most turns all = tt
ends_left v (settled.Unsettled waiting held) (w, h, inl some) most turns all = inl (all, some_left waiting v.waiting w some)
ends_left v (settled.Unsettled waiting held) (w, h, inr (none, some)) most turns all = inr (w ∙ ap length none, some_left held v.hands h some)
ends_left v settled.Spent left most turns all = absurd left
ends_left v settled.Fault left most turns all = absurd left
ends_left v settled.NoMemory left most turns all = absurd left

-- ---- the last turn

-- how a settle ends behind a turn, where that isn't told: by the loss of the turn, or else by a take that was lost
abbrev pub end_behind : Finish → Settle
end_behind end = unwrap_or (loss_in end) settled.NoMemory

Simulates-behind : (end : Finish) (c : ClusterView) → HasWorld c → Simulates c (end_entries (end_behind end)) c
Simulates-behind ending.Empty c stood = Simulates-lost_take c 0 stood
Simulates-behind ending.Nothing c stood = Simulates-lost_take c 0 stood
Simulates-behind (ending.Conflict seen now) c stood = Simulates-lost_take c 0 stood
Simulates-behind ending.Spent c stood = Simulates-none c stood
Simulates-behind (ending.Written version) c stood = Simulates-lost_take c 0 stood
Simulates-behind ending.Fault c stood = Simulates-none c stood
Simulates-behind ending.NoMemory c stood = Simulates-lost_take c 0 stood

-- which is no end of a settle that keys outlast
behind_settled : (end : Finish) → IsUnsettled (end_behind end) → ⊥
behind_settled ending.Empty e = e
behind_settled ending.Nothing e = e
behind_settled (ending.Conflict seen now) e = e
behind_settled ending.Spent e = e
behind_settled (ending.Written version) e = e
behind_settled ending.Fault e = e
behind_settled ending.NoMemory e = e

ends_behind : (loss : Option Settle) (most : ℕ) (turns : List Turned) → EndsBy loss most turns (unwrap_or loss settled.NoMemory)
ends_behind None most turns = tt
ends_behind (Some loss) most turns = refl

IsSettle-behind : (most : ℕ) (turns : List Turned) (turned : Turned) → IsWhole turns → length turns < most → IsSettle most (turns ++ turned ∷ []) (end_behind turned.end)
IsSettle-behind most turns turned whole less = record {
  few = let long = longer turns turned in omega (arith, long, less);
  whole = lose_last turns turned whole;
  ends = subst (λ loss. EndsBy loss most (turns ++ turned ∷ []) (end_behind turned.end)) (sym (loss_last turns turned)) (ends_behind (loss_in turned.end) most (turns ++ turned ∷ []));
}

Simulates-last : (turns : List Turned) (turned : Turned) (a b c : ClusterView) → (HasWorld a → Simulates a (turns_entries turns) b) → Simulates b (turn_entries turned) c
    → HasWorld a → Simulates a (turns_entries (turns ++ turned ∷ []) ++ end_entries (end_behind turned.end)) c
Simulates-last turns turned a b c p q = Simulates-after a c c (turns_entries (turns ++ turned ∷ [])) (end_entries (end_behind turned.end)) (Simulates-turned turns turned a b c p q) (Simulates-behind turned.end c)

-- it was lost
pub Serves-lost : {T E : Type 0} (most count : ℕ) (turned : Turned) (end : Settle) (a b c : ClusterView) (x y z w : SinkView) (r : Result T E) → MadeTurns count a b x y → count < most → loss_in turned.end ≡ Some end → Simulates b (turn_entries turned) c
    → Said (turned_lines turned) y z → SaysText (settled_line end) z w r → Serves (Ok (order.Settle most)) a c x w r
Serves-lost most count turned end a b c x y z w r p less lost made said says =
    let turns = p.turns ++ turned ∷ [] in
    let same : end_behind turned.end ≡ end = ap (λ loss. unwrap_or loss settled.NoMemory) lost in
    let few : length p.turns < most = let many = p.many in omega (arith, many, less) in
    Serves-settled most turns end a c x z w r (subst (IsSettle most turns) same (IsSettle-behind most p.turns turned p.whole few))
    (λ stood. subst (λ e. Simulates a (turns_entries turns ++ end_entries e) c) same (Simulates-last p.turns turned a b c p.simulates made stood))
    (λ _ _. subst (λ e. IsUnsettled e → ⊥) same (behind_settled turned.end))
    (Said-turned p.turns turned x y z p.said said) says

-- its lines weren't written, or not whole
pub Serves-cut : {T U E F : Type 0} (P : F → Type 0) (most count : ℕ) (turned : Turned) (a b c : ClusterView) (x y z : SinkView) (e : E) (r : Result U F) → MadeTurns count a b x y → count < most → Simulates b (turn_entries turned) c
    → IsErrAnd r P → SaysText {T = T} (turned_lines turned) y z (Err e) → Serves (Ok (order.Settle most)) a c x z r
Serves-cut P most count turned a b c x y z e r p less made err says =
    let turns = p.turns ++ turned ∷ [] in
    let end = end_behind turned.end in
    let few : length p.turns < most = let many = p.many in omega (arith, many, less) in
    record {
      head = flat_map turned_lines p.turns;
      end = turned_lines turned ++ settled_line end;
      made = record {
        made = Turns turns end;
        unsaid = false;
        makes = IsSettle-behind most p.turns turned p.whole few;
        said = tt;
        simulates = Simulates-last p.turns turned a b c p.simulates made;
        bounded = λ _ _. behind_settled turned.end;
        whole = ap (λ l. l ++ settled_line end) (lines_more p.turns turned) ∙ append_assoc (flat_map turned_lines p.turns) (turned_lines turned) (settled_line end);
        last = ([], last_lines_last p.turns turned end);
      };
      between = y;
      said = p.said;
      says = SaysText-cut P (turned_lines turned) (settled_line end) y z e r err says;
    }
