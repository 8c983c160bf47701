-- Turns that settle are fewer than the bound.
--     IsWithin           the keys of a state, and those that wait, are of the first state or waited there
--     few_wait           so they are few
--     late_turns         turns where removals and subnamespaces want nothing
--     all_turns          turns from any state
--     settles_within
use Rattle.std.proofs.Common.{◌≡◌, ◌≢◌, ◌⊎◌, ◌≤◌, ◌<◌, ◌+◌, ◌-◌, ℕ, suc, Bool, true, false, Option, Some, None, List, [], ◌∷◌, ◌++◌, length, length-append, inl, inr, refl, sym, ap, ◌∙◌, subst, true≢false, arith}
use Rattle.std.specs.Prelude.{is_some}
use Rattle.std.specs.List.{AllByRecursion, IsDistinct}
use Rattle.std.proofs.Math.Nat.{mul-le-mul_right}
use Rattle.std.proofs.lemmas.Bool.{cases_Bool, lt-ltb, ltb-false, ltb-true, or_cases, or_left, or_right}
use Rattle.std.proofs.lemmas.Map.Made.{length-le_from_is_member}
use Rattle.std.proofs.lemmas.Option.{none-some}
use Rattle.hx_model.specs.Hands.{writes_for}
use Rattle.hx_model.specs.Keys.{same_key, is_among, is_key}
use Rattle.hx_model.specs.State.{State, state_after}
use Rattle.hx_model.specs.Tree.{forest_of}
use Rattle.hx_model.specs.Wanted.{wanted_write}
use Rattle.hx_model.specs.declared.key.Key.{Key}
use Rattle.hx_model.specs.declared.key.Write.{Write}
use Rattle.hx_model.proofs.SameKeys.{key_laws}
use Rattle.hx_model.proofs.Wanting.{wanted_is_key}
use Rattle.hx_bound.specs.Bound.{key_count, left_of, next_of}
use Rattle.hx_order.specs.Ranks.{precedes, rank_of}
use Rattle.hx_bound.specs.Rank.{IsCalm, is_early}
use Rattle.hx_bound.specs.Settles.{AreTurns, IsReady, IsTurn, SettlesWithin, turn_of}
use Rattle.hx_bound.specs.Turns.{IsLedger, IsNext, left_turns}
use Rattle.hx_bound.proofs.Counting.{all_count, all_have, all_keys, among_append, keys_count}
use Rattle.hx_bound.proofs.EarlyFalls.{early_writes, most_falls}
use Rattle.hx_bound.proofs.KeysStaying.{keys_stay}
use Rattle.hx_bound.proofs.LateOrder.{late_writes}
use Rattle.hx_bound.proofs.Ledgers.{ledgers_grow, stays_within, turns_spend}
use Rattle.hx_bound.proofs.Ranking.{by_rank}

-- a list that has a member isn't empty
some_there : (k : Key) (keys : List Key) → is_among k keys ≡ true → 0 < length keys
some_there k [] h = absurd (true≢false (sym h))
some_there k (j ∷ keys) h = omega arith

-- more writes that are left leave more turns
more_turns : (writes more most waiting : ℕ) → writes ≤ more → left_turns writes most waiting ≤ left_turns more most waiting
more_turns writes more most waiting le = let step = mul-le-mul_right (most + 1) le in omega (arith, step)

module _ (s : State) (waiting : List Key) (k : Key) (behind : List Key) (turn : IsTurn s waiting k behind) where
  -- what wants a write and is taken is the next one
  is_next : IsReady s waiting → wanted_write s k ≢ None → IsNext s k
  is_next ready wants = (wants, λ j other. turn.first j (ready.covered j other))

  -- where it is of a later rank, removals and subnamespaces want nothing
  is_calm : IsReady s waiting → is_early k ≡ false → IsCalm s
  is_calm ready late j early = by (wanted_write s j) refl
    where
      lower : precedes (forest_of s) j k ≡ true
      lower = let first = ltb-true (rank_of j) 2 early in let then = ltb-false (rank_of k) 2 late in by_rank (forest_of s) j k (lt-ltb (rank_of j) (rank_of k) (omega (arith, first, then)))

      by : (o : Option Write) → wanted_write s j ≡ o → o ≡ None
      by None is = refl
      by (Some write) is = absurd (true≢false (sym lower ∙ turn.first j (ready.covered j (λ none. none-some write (sym none ∙ is)))))

-- ---- the keys of the first state

module _ (start : State) (first : List Key) where
  -- the keys of a state are keys of the first one, and so is what waits that didn't wait there
  record IsWithin (s : State) (waiting : List Key) : Type 0 where
    keys : (j : Key) → is_key s j ≡ true → is_key start j ≡ true
    waits : (j : Key) → is_among j waiting ≡ true → (is_among j first ≡ true) ⊎ (is_key start j ≡ true)

  abbrev most : ℕ
  most = key_count start + length first

  few_wait : (s : State) (waiting : List Key) → IsDistinct same_key waiting → IsWithin s waiting → length waiting ≤ most
  few_wait s waiting distinct within =
      let few : length waiting ≤ length (all_keys start ++ first) =
      length-le_from_is_member key_laws waiting (all_keys start ++ first) distinct (λ j among. among_append j (all_keys start) first ∙ elim (within.waits j among) [
        | inl waited ↦ or_right (is_among j (all_keys start)) (is_among j first) waited
        | inr is ↦ or_left (is_among j (all_keys start)) (is_among j first) (all_have start j is)
      ]) in
      omega (arith, few, length-append (all_keys start) first, all_count start)

  -- a turn stays within them
  stays_inside : (s : State) (waiting : List Key) (k : Key) (behind : List Key) → IsTurn s waiting k behind → IsWithin s waiting → IsWithin (turn_of s k) behind
  stays_inside s waiting k behind turn within = record {
    keys = λ j is. within.keys j (before j is);
    waits = λ j among. elim (turn.kept j among) [
      | inl waited ↦ within.waits j waited
      | inr is ↦ inr (within.keys j (elim (or_cases (is_key s j) (is_key (turn_of s k) j) is) [ inl old ↦ old | inr new ↦ before j new ]))
    ];
  }
    where
      before : (j : Key) → is_key (turn_of s k) j ≡ true → is_key s j ≡ true
      before j is = by (wanted_write s k) refl
        where
          by : (o : Option Write) → wanted_write s k ≡ o → is_key s j ≡ true
          by None none = sym (ap (λ w. is_key (state_after s (writes_for s w)) j) none) ∙ is
          by (Some write) wants = keys_stay s k write (turn.may write wants) j (sym (ap (λ w. is_key (state_after s (writes_for s w)) j) wants) ∙ is)

  -- ---- turns where removals and subnamespaces want nothing

  -- so many writes are left, beside those that were made
  record IsLate (s : State) (waiting done : List Key) (left : ℕ) : Type 0 where
    ready : IsReady s waiting
    within : IsWithin s waiting
    calm : IsCalm s
    ledger : IsLedger s done
    known : AllByRecursion (λ j. is_key start j ≡ true) done
    enough : left + length done ≡ key_count start

  -- a write of another key
  grows : (s : State) (waiting done : List Key) (left : ℕ) (k : Key) (behind : List Key) (write : Write) → IsTurn s waiting k behind → IsLate s waiting done left → wanted_write s k ≡ Some write → (0 < left) × IsLate (turn_of s k) behind (k ∷ done) (left - 1)
  grows s waiting done left k behind write turn late wants =
      let may = turn.may write wants in
      let is : turn_of s k ≡ next_of s write = ap (λ w. state_after s (writes_for s w)) wants in
      let some : wanted_write s k ≢ None = λ none. none-some write (sym none ∙ wants) in
      let keeps = late_writes s k write may late.calm (not_early (is_early k) refl) in
      let ledger : IsLedger (next_of s write) (k ∷ done) = ledgers_grow s (next_of s write) k done (is_next s waiting k behind turn late.ready some) keeps late.ledger in
      let own : is_key start k ≡ true = late.within.keys k (wanted_is_key s may.valid k (ap is_some wants)) in
      let few : suc (length done) ≤ key_count start = keys_count start (k ∷ done) ledger.apart (own, late.known) in
      let enough = late.enough in (
        omega (arith, few, enough),
        record {
          ready = turn.ready;
          within = stays_inside s waiting k behind turn late.within;
          calm = subst IsCalm (sym is) keeps.calm;
          ledger = subst (λ t. IsLedger t (k ∷ done)) (sym is) ledger;
          known = (own, late.known);
          enough = omega (arith, few, enough);
        },
      )
    where
      not_early : (b : Bool) → is_early k ≡ b → is_early k ≡ false
      not_early false is = is
      not_early true is = absurd (none-some write (sym (late.calm k is) ∙ wants))

  -- nothing is written
  rests : (s : State) (waiting done : List Key) (left : ℕ) (k : Key) (behind : List Key) → IsTurn s waiting k behind → IsLate s waiting done left → wanted_write s k ≡ None → IsLate (turn_of s k) behind done left
  rests s waiting done left k behind turn late none =
      let is : turn_of s k ≡ s = ap (λ w. state_after s (writes_for s w)) none in
      record { ready = turn.ready; within = stays_inside s waiting k behind turn late.within; calm = subst IsCalm (sym is) late.calm; ledger = subst (λ t. IsLedger t done) (sym is) late.ledger; known = late.known; enough = late.enough }

  late_turns : (turns : List (Key × List Key)) (s : State) (waiting done : List Key) (left : ℕ) → IsLate s waiting done left → AreTurns s waiting turns → length turns ≤ left_turns left most (length waiting)
  late_turns [] s waiting done left late all = omega arith
  late_turns (turn ∷ turns) s waiting done left late all = by (wanted_write s turn.0) refl (λ done left late. late_turns turns (turn_of s turn.0) turn.1 done left late all.1)
    where
      by : (o : Option Write) → wanted_write s turn.0 ≡ o → ((done : List Key) (left : ℕ) → IsLate (turn_of s turn.0) turn.1 done left → length turns ≤ left_turns left most (length turn.1)) → suc (length turns) ≤ left_turns left most (length waiting)
      by None none rest =
          let later = rest done left (rests s waiting done left turn.0 turn.1 all.0 late none) in
          let spent = turns_spend.nothing left most (length waiting) (length turn.1) (all.0.fewer none) in
          omega (arith, later, spent)
      by (Some write) wants rest =
          let grown = grows s waiting done left turn.0 turn.1 write all.0 late wants in
          let later = rest (turn.0 ∷ done) (left - 1) grown.1 in
          let less : left - 1 < left = let some = grown.0 in omega (arith, some) in
          let spent = turns_spend.write left (left - 1) most (length waiting) (length turn.1) less (some_there turn.0 waiting all.0.taken) (few_wait (turn_of s turn.0) turn.1 grown.1.ready.distinct grown.1.within) in
          omega (arith, later, spent)

  -- ---- turns from any state

  -- the first write of a later rank
  begins_late : (s : State) (waiting : List Key) (k : Key) (behind : List Key) → IsTurn s waiting k behind → IsReady s waiting → IsWithin s waiting → is_early k ≡ false → IsLate s waiting [] (key_count start)
  unfolding IsDistinct
  begins_late s waiting k behind turn ready within late = record {
    ready = ready;
    within = within;
    calm = is_calm s waiting k behind turn ready late;
    ledger = record { apart = tt; quiet = tt; first = tt };
    known = tt;
    enough = omega arith;
  }

  all_turns : (turns : List (Key × List Key)) (s : State) (waiting : List Key) → IsReady s waiting → IsWithin s waiting → AreTurns s waiting turns → length turns ≤ left_turns (left_of s + key_count start) most (length waiting)
  all_turns [] s waiting ready within all = omega arith
  all_turns (turn ∷ turns) s waiting ready within all = by (wanted_write s turn.0) refl (all_turns turns (turn_of s turn.0) turn.1 all.0.ready later all.1)
    where
      later : IsWithin (turn_of s turn.0) turn.1
      later = stays_inside s waiting turn.0 turn.1 all.0 within

      by : (o : Option Write) → wanted_write s turn.0 ≡ o → length turns ≤ left_turns (left_of (turn_of s turn.0) + key_count start) most (length turn.1) → suc (length turns) ≤ left_turns (left_of s + key_count start) most (length waiting)
      by None none rest =
          let same : left_of (turn_of s turn.0) ≡ left_of s = ap (λ w. left_of (state_after s (writes_for s w))) none in
          let then : length turns ≤ left_turns (left_of s + key_count start) most (length turn.1) = subst (λ n. length turns ≤ left_turns (n + key_count start) most (length turn.1)) same rest in
          let spent = turns_spend.nothing (left_of s + key_count start) most (length waiting) (length turn.1) (all.0.fewer none) in
          omega (arith, then, spent)
      by (Some write) wants rest = elim (cases_Bool (is_early turn.0)) [
        | inr late ↦
            let whole = late_turns (turn ∷ turns) s waiting [] (key_count start) (begins_late s waiting turn.0 turn.1 all.0 ready within late) all in
            let more = more_turns (key_count start) (left_of s + key_count start) most (length waiting) (omega arith) in
            omega (arith, whole, more)
        | inl early ↦
            let less : left_of (turn_of s turn.0) < left_of s = subst (λ w. left_of (state_after s (writes_for s w)) < left_of s) (sym wants) (early_writes s turn.0 write (all.0.may write wants) early) in
            let spent = turns_spend.write (left_of s + key_count start) (left_of (turn_of s turn.0) + key_count start) most (length waiting) (length turn.1) (omega (arith, less)) (some_there turn.0 waiting all.0.taken) (few_wait (turn_of s turn.0) turn.1 all.0.ready.distinct later) in
            omega (arith, rest, spent)
      ]

pub settles_within : SettlesWithin
settles_within s waiting turns ready all =
    let within : IsWithin s waiting s waiting = record { keys = λ j is. is; waits = λ j among. inl among } in
    let few = all_turns s waiting turns s waiting ready within all in
    let start = stays_within (left_of s) (key_count s) (length waiting) in
    let most = mul-le-mul_right (key_count s + length waiting + 1) (most_falls s (key_count s)) in
    omega (arith, few, start, most)
