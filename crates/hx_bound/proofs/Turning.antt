-- Where a key waits, there is a turn that settles.
--     least          some key of a list comes first
--     without        a list without one of its keys
--     once_distinct, once_keeps     each item once;  it is one of the list
--     turns_go_on
use Rattle.std.proofs.Common.{◌≡◌, ◌≢◌, ◌⊎◌, ◌+◌, Bool, true, false, cond, ◌&&◌, ◌||◌, Option, Some, None, List, [], ◌∷◌, filter, length, inl, inr, refl, sym, ap, ◌∙◌, subst, true≢false, arith}
use Rattle.std.specs.Prelude.{is_some}
use Rattle.std.specs.List.{AllByRecursion, IsDistinct, list_any}
use Rattle.std.proofs.lemmas.Bool.{and_from, and_parts, false_from_ne_true, or_cases, or_left, or_right}
use Rattle.std.proofs.lemmas.Map.Keys.{IsDistinct-cons, IsDistinct-head, IsDistinct-tail}
use Rattle.std.proofs.lemmas.Option.{none-some}
use Rattle.hx_model.specs.Forest.{Forest}
use Rattle.hx_model.specs.Hands.{writes_for}
use Rattle.hx_model.specs.Keys.{same_key, is_among, is_key}
use Rattle.hx_model.specs.State.{State, state_after}
use Rattle.hx_model.specs.Tree.{forest_of}
use Rattle.hx_model.specs.Valid.{IsValid}
use Rattle.hx_model.specs.Wanted.{wanted_write}
use Rattle.hx_model.specs.declared.key.Key.{Key}
use Rattle.hx_model.specs.declared.key.Write.{Write}
use Rattle.hx_model.proofs.Lists.{none_passes}
use Rattle.hx_model.proofs.Passing.{any_filter}
use Rattle.hx_model.proofs.SameKeys.{same_key_is, same_key_itself}
use Rattle.hx_model.proofs.Wanting.{wanted_is_key}
use Rattle.hx_bound.specs.Bound.{Writes, once}
use Rattle.hx_order.specs.Ranks.{precedes}
use Rattle.hx_bound.specs.Settles.{IsReady, IsTurn, TurnsGoOn, turn_of}
use Rattle.hx_bound.proofs.Counting.{all_have, all_keys, any_by, once_has}
use Rattle.hx_bound.proofs.KeysStaying.{next_valid}
use Rattle.hx_bound.proofs.Ranking.{chained, itself}

-- ---- the first key

-- no key of the list precedes it
record IsFirstOf (f : Forest) (k : Key) (keys : List Key) : Type 0 where
  among : is_among k keys ≡ true
  first : (j : Key) → is_among j keys ≡ true → precedes f j k ≡ false

-- what doesn't precede a key doesn't precede one before that
still_first : (f : Forest) (j k m : Key) → precedes f k m ≡ true → precedes f j m ≡ false → precedes f j k ≡ false
still_first f j k m lower apart = false_from_ne_true (precedes f j k) (λ h. true≢false (sym (chained f j k m h lower) ∙ apart))

-- of one more key and the first of some
first_of_both : (f : Forest) (k m : Key) (keys : List Key) → IsFirstOf f m keys → (b : Bool) → precedes f k m ≡ b → (i : Key) × IsFirstOf f i (k ∷ keys)
first_of_both f k m keys best true lower = (
  k,
  record {
    among = or_left (same_key k k) (is_among k keys) (same_key_itself k);
    first = λ j has. elim (or_cases (same_key j k) (is_among j keys) has) [
      | inl same ↦ ap (λ i. precedes f i k) (same_key_is j k same) ∙ itself f k
      | inr later ↦ still_first f j k m lower (best.first j later)
    ];
  },
)
first_of_both f k m keys best false apart = (
  m,
  record {
    among = or_right (same_key m k) (is_among m keys) best.among;
    first = λ j has. elim (or_cases (same_key j k) (is_among j keys) has) [
      | inl same ↦ ap (λ i. precedes f i m) (same_key_is j k same) ∙ apart
      | inr later ↦ best.first j later
    ];
  },
)

least : (f : Forest) (k : Key) (keys : List Key) → (m : Key) × IsFirstOf f m (k ∷ keys)
least f k [] = (
  k,
  record {
    among = or_left (same_key k k) false (same_key_itself k);
    first = λ j has. elim (or_cases (same_key j k) false has) [
      | inl same ↦ ap (λ i. precedes f i k) (same_key_is j k same) ∙ itself f k
      | inr never ↦ absurd (true≢false (sym never))
    ];
  },
)
least f k (j ∷ keys) = let best = least f j keys in first_of_both f k best.0 (j ∷ keys) best.1 (precedes f k best.0) refl

some_least : (f : Forest) (keys : List Key) → keys ≢ [] → (m : Key) × IsFirstOf f m keys
some_least f [] some = absurd (some refl)
some_least f (k ∷ keys) some = least f k keys

-- ---- lists

-- a list without one of its keys
record IsWithout (k : Key) (keys rest : List Key) : Type 0 where
  distinct : IsDistinct same_key rest
  fewer : length rest + 1 ≡ length keys
  others : (j : Key) → is_among j keys ≡ true → same_key j k ≡ false → is_among j rest ≡ true
  kept : (j : Key) → is_among j rest ≡ true → is_among j keys ≡ true

-- a key that is apart from all of a list is apart from fewer
apart_fewer : (k : Key) (keys rest : List Key) → AllByRecursion (λ j. same_key k j ≡ false) keys → ((j : Key) → is_among j rest ≡ true → is_among j keys ≡ true) → AllByRecursion (λ j. same_key k j ≡ false) rest
apart_fewer k keys rest apart kept = none_passes (same_key k) rest (false_from_ne_true (is_among k rest) (λ h. true≢false (sym (kept k h) ∙ none k keys apart)))
  where
    none : (k : Key) (keys : List Key) → AllByRecursion (λ j. same_key k j ≡ false) keys → is_among k keys ≡ false
    none k [] all = refl
    none k (j ∷ keys) all = ap (λ b. b || is_among k keys) all.0 ∙ none k keys all.1

without : (k : Key) (keys : List Key) → IsDistinct same_key keys → is_among k keys ≡ true → (rest : List Key) × IsWithout k keys rest
without k [] distinct has = absurd (true≢false (sym has))
without k (i ∷ keys) distinct has = by (same_key k i) refl (or_cases (same_key k i) (is_among k keys) has) (without k keys (IsDistinct-tail same_key i keys distinct))
  where
    by : (b : Bool) → same_key k i ≡ b → (same_key k i ≡ true) ⊎ (is_among k keys ≡ true) → (is_among k keys ≡ true → (rest : List Key) × IsWithout k keys rest) → (rest : List Key) × IsWithout k (i ∷ keys) rest
    by true same has rest = (
      keys,
      record {
        distinct = IsDistinct-tail same_key i keys distinct;
        fewer = omega arith;
        others = λ j among apart. elim (or_cases (same_key j i) (is_among j keys) among) [
          | inl is ↦ absurd (true≢false (sym (ap (same_key j) (same_key_is k i same) ∙ is) ∙ apart))
          | inr later ↦ later
        ];
        kept = λ j among. or_right (same_key j i) (is_among j keys) among;
      },
    )
    by false apart (inl same) rest = absurd (true≢false (sym same ∙ apart))
    by false apart (inr later) rest =
        let found = rest later in (
          i ∷ found.0,
          record {
            distinct = IsDistinct-cons same_key i found.0 (apart_fewer i keys found.0 (IsDistinct-head same_key i keys distinct) found.1.kept) found.1.distinct;
            fewer = let e = found.1.fewer in omega (arith, e);
            others = λ j among other. elim (or_cases (same_key j i) (is_among j keys) among) [
              | inl is ↦ or_left (same_key j i) (is_among j found.0) is
              | inr behind ↦ or_right (same_key j i) (is_among j found.0) (found.1.others j behind other)
            ];
            kept = λ j among. elim (or_cases (same_key j i) (is_among j found.0) among) [
              | inl is ↦ or_left (same_key j i) (is_among j keys) is
              | inr behind ↦ or_right (same_key j i) (is_among j keys) (found.1.kept j behind)
            ];
          },
        )

-- an item that stands once is one of the list
once_keeps : (keys : List Key) (j : Key) → is_among j (once same_key keys) ≡ true → is_among j keys ≡ true
once_keeps [] j has = has
once_keeps (k ∷ keys) j has = by (list_any (same_key k) keys) has (once_keeps keys j)
  where
    by : (b : Bool) → is_among j (cond b (once same_key keys) (k ∷ once same_key keys)) ≡ true → (is_among j (once same_key keys) ≡ true → is_among j keys ≡ true) → (same_key j k || is_among j keys) ≡ true
    by true among rest = or_right (same_key j k) (is_among j keys) (rest among)
    by false among rest = elim (or_cases (same_key j k) (is_among j (once same_key keys)) among) [
      | inl same ↦ or_left (same_key j k) (is_among j keys) same
      | inr later ↦ or_right (same_key j k) (is_among j keys) (rest later)
    ]

once_distinct : (keys : List Key) → IsDistinct same_key (once same_key keys)
unfolding IsDistinct
once_distinct [] = tt
once_distinct (k ∷ keys) = by (list_any (same_key k) keys) refl (once_distinct keys)
  where
    by : (b : Bool) → list_any (same_key k) keys ≡ b → IsDistinct same_key (once same_key keys) → IsDistinct same_key (cond b (once same_key keys) (k ∷ once same_key keys))
    by true again rest = rest
    by false none rest = IsDistinct-cons same_key k (once same_key keys) (apart_fewer k keys (once same_key keys) (none_passes (same_key k) keys none) (once_keeps keys)) rest

-- ---- the keys of a state that are its own

abbrev own_keys : State → List Key
own_keys t = once same_key (filter (is_key t) (all_keys t))

own_are : (t : State) (j : Key) → is_among j (own_keys t) ≡ true → is_key t j ≡ true
own_are t j has =
    let both : list_any (λ k. is_key t k && same_key j k) (all_keys t) ≡ true = sym (any_filter (same_key j) (is_key t) (all_keys t)) ∙ once_keeps (filter (is_key t) (all_keys t)) j has in
    by (is_key t j) refl both
  where
    by : (b : Bool) → is_key t j ≡ b → list_any (λ k. is_key t k && same_key j k) (all_keys t) ≡ true → b ≡ true
    by true is h = refl
    by false out h = absurd (true≢false (sym (any_by (λ k. is_key t k && same_key j k) (λ k. false) (all_keys t) (λ k pair.
        let parts = and_parts (is_key t k) (same_key j k) pair in sym out ∙ ap (is_key t) (same_key_is j k parts.1) ∙ parts.0) h) ∙ none (all_keys t)))
      where
        none : (keys : List Key) → list_any (λ k. false) keys ≡ false
        none [] = refl
        none (k ∷ keys) = none keys

own_has : (t : State) (j : Key) → is_key t j ≡ true → is_among j (own_keys t) ≡ true
own_has t j is =
    once_has same_key (same_key j) (filter (is_key t) (all_keys t)) (λ x y here same. ap (same_key j) (sym (same_key_is x y same)) ∙ here)
    (any_filter (same_key j) (is_key t) (all_keys t) ∙ any_by (same_key j) (λ k. is_key t k && same_key j k) (all_keys t) (λ k same. and_from (is_key t k) (same_key j k) (ap (is_key t) (sym (same_key_is j k same)) ∙ is) same) (all_have t j is))

-- ---- the turn

module _ (s : State) (waiting : List Key) (ready : IsReady s waiting) (may : (k : Key) (write : Write) → wanted_write s k ≡ Some write → Writes s k write) (k : Key) (best : IsFirstOf (forest_of s) k waiting) where
  -- where it wants nothing it waits no more
  rests : wanted_write s k ≡ None → (behind : List Key) × IsTurn s waiting k behind
  rests none =
      let found = without k waiting ready.distinct best.among in
      let is : turn_of s k ≡ s = ap (λ w. state_after s (writes_for s w)) none in (
        found.0,
        record {
          taken = best.among;
          first = best.first;
          may = may k;
          ready = subst (λ t. IsReady t found.0) (sym is) (record {
            distinct = found.1.distinct;
            covered = λ j wants. found.1.others j (ready.covered j wants) (false_from_ne_true (same_key j k) (λ same. wants (ap (wanted_write s) (same_key_is j k same) ∙ none)));
          });
          kept = λ j has. inl (found.1.kept j has);
          fewer = λ _. found.1.fewer;
        },
      )

  -- where it writes all keys of the next state may wait
  writes : (write : Write) → wanted_write s k ≡ Some write → (behind : List Key) × IsTurn s waiting k behind
  writes write wants =
      let t = turn_of s k in
      let valid = subst IsValid (sym (ap (λ w. state_after s (writes_for s w)) wants)) (next_valid s k write (may k write wants)) in (
        own_keys t,
        record {
          taken = best.among;
          first = best.first;
          may = may k;
          ready = record { distinct = once_distinct (filter (is_key t) (all_keys t)); covered = λ j some. own_has t j (wanted_is_key t valid j (wants_some (wanted_write t j) some)) };
          kept = λ j has. inr (or_right (is_key s j) (is_key t j) (own_are t j has));
          fewer = λ none. absurd (none-some write (sym none ∙ wants));
        },
      )
    where
      wants_some : (o : Option Write) → o ≢ None → is_some o ≡ true
      wants_some None some = absurd (some refl)
      wants_some (Some w) some = refl

  turn_by : (o : Option Write) → wanted_write s k ≡ o → (behind : List Key) × IsTurn s waiting k behind
  turn_by None none = rests none
  turn_by (Some write) wants = writes write wants

pub turns_go_on : TurnsGoOn
turns_go_on s waiting ready some may =
    let best = some_least (forest_of s) waiting some in
    let turn = turn_by s waiting ready may best.0 best.1 (wanted_write s best.0) refl in
    (best.0, turn.0, turn.1)
