-- That turns come to an end, where each write keeps the order.
--     ledgers_grow     a key that is written next joins those that were written
--     turns_spend, stays_within    what is left to do falls with each turn, and is below the bound at the start
use Rattle.std.proofs.Common.{◌≡◌, ◌≢◌, ◌≤◌, ◌<◌, ◌+◌, ◌*◌, ℕ, suc, false, List, [], ◌∷◌, Option, Some, None, inl, inr, refl, sym, ap, ◌∙◌, true≢false, arith}
use Rattle.std.specs.List.{AllByRecursion}
use Rattle.std.proofs.Math.Nat.{mul-le-mul_right, suc-mul}
use Rattle.std.proofs.lemmas.Bool.{false_from_ne_true}
use Rattle.std.proofs.lemmas.Option.{none-some}
use Rattle.std.proofs.lemmas.Map.Keys.{IsDistinct-cons}
use Rattle.hx_model.specs.Keys.{same_key}
use Rattle.hx_model.specs.State.{State}
use Rattle.hx_model.specs.Tree.{forest_of}
use Rattle.hx_model.specs.Wanted.{wanted_write}
use Rattle.hx_model.specs.declared.key.Key.{Key}
use Rattle.hx_model.specs.declared.key.Write.{Write}
use Rattle.hx_model.proofs.SameKeys.{same_key_is}
use Rattle.hx_order.specs.Ranks.{precedes}
use Rattle.hx_bound.specs.Rank.{KeepsOrder}
use Rattle.hx_bound.specs.Turns.{IsNext, IsLedger, LedgersGrow, left_turns, TurnsSpend, StaysWithin}
use Rattle.hx_bound.proofs.Ranking.{behind, itself}

-- ---- the ledger

-- what wants a write is none of those that want none
none_is : (s : State) (k : Key) → wanted_write s k ≢ None → (js : List Key) → AllByRecursion (λ j. wanted_write s j ≡ None) js → AllByRecursion (λ j. same_key k j ≡ false) js
none_is s k wants [] quiet = tt
none_is s k wants (j ∷ js) quiet = (false_from_ne_true (same_key k j) (λ same. wants (ap (wanted_write s) (same_key_is k j same) ∙ quiet.0)), none_is s k wants js quiet.1)

-- nothing that wants a write precedes it
abbrev IsFirst : State → Key → Type 0
IsFirst s j = (i : Key) → wanted_write s i ≢ None → precedes (forest_of s) i j ≡ false

module _ (s t : State) (k : Key) (next : IsNext s k) (keeps : KeepsOrder s t k) where
  -- a key that wants a write then precedes none that k doesn't precede
  after_all : (j : Key) → precedes (forest_of s) k j ≡ false → IsFirst s j → IsFirst t j
  after_all j ahead first i wants = keeps.order i j ∙ elim (keeps.begins i wants) [
    | inl before ↦ first i before
    | inr later ↦ behind (forest_of s) j k i ahead later
  ]

  -- one that wanted nothing, and that k doesn't precede, still wants nothing
  still : (j : Key) → wanted_write s j ≡ None → precedes (forest_of s) k j ≡ false → (o : Option Write) → wanted_write t j ≡ o → o ≡ None
  still j quiet ahead None is = refl
  still j quiet ahead (Some w) is = absurd (elim (keeps.begins j (λ none. none-some w (sym none ∙ is))) [
    | inl before ↦ before quiet
    | inr later ↦ true≢false (sym later ∙ ahead)
  ])

  pub goes_on : (done : List Key) → IsLedger s done → IsLedger t (k ∷ done)
  goes_on done ledger = record {
    apart = IsDistinct-cons same_key k done (none_is s k next.0 done ledger.quiet) ledger.apart;
    quiet = (keeps.done, quiet done ledger.quiet ledger.first);
    first = (after_all k (itself (forest_of s) k) next.1, firsts done ledger.first);
  }
    where
      quiet : (js : List Key) → AllByRecursion (λ j. wanted_write s j ≡ None) js → AllByRecursion (IsFirst s) js → AllByRecursion (λ j. wanted_write t j ≡ None) js
      quiet [] q f = tt
      quiet (j ∷ js) q f = (still j q.0 (f.0 k next.0) (wanted_write t j) refl, quiet js q.1 f.1)

      firsts : (js : List Key) → AllByRecursion (IsFirst s) js → AllByRecursion (IsFirst t) js
      firsts [] f = tt
      firsts (j ∷ js) f = (after_all j (f.0 k next.0) f.0, firsts js f.1)

pub ledgers_grow : LedgersGrow
ledgers_grow s t k done next keeps ledger = goes_on s t k next keeps done ledger

-- ---- turns

one_more : (n m : ℕ) → (n + 1) * m ≡ n * m + m
one_more n m = ap (λ k. k * m) (plus_one n) ∙ suc-mul n m
  where
    plus_one : (k : ℕ) → k + 1 ≡ suc k
    plus_one k = omega arith

spends_write : (writes fewer most waiting now : ℕ) → fewer < writes → 0 < waiting → now ≤ most → left_turns fewer most now < left_turns writes most waiting
spends_write writes fewer most waiting now less some few =
    let step : (fewer + 1) * (most + 1) ≤ writes * (most + 1) = mul-le-mul_right (most + 1) (omega (arith, less)) in
    let one : (fewer + 1) * (most + 1) ≡ fewer * (most + 1) + (most + 1) = one_more fewer (most + 1) in
    omega (arith, step, one, some, few)

pub turns_spend : TurnsSpend
turns_spend = record { nothing = λ writes most waiting now e. omega (arith, e); write = spends_write }

pub stays_within : StaysWithin
stays_within left keys waiting = let e = one_more (left + keys) (keys + waiting + 1) in omega (arith, e)
