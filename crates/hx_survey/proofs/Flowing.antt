-- Sums that are passed on, each to the parent, by those below before those above.
--     up_among       the parent of one that is in order is among them
--     same_walk      a walk within an order has ended after as many steps as that is long
--     step_up        whom one reaches beside itself its parent reaches
--     stays          a walk doesn't leave an order
--     flow_more      with more in one place, as much more flows where that reaches
--     pass_law       what one passes on doesn't change what the others come to
--     IsPassing      so many are left to pass on, and what the others have is the sum of their subtree
use Rattle.std.proofs.Common.{◌≡◌, ℕ, zero, suc, ◌+◌, ◌<◌, ◌≤◌, eqb, eqb-true, eq-eqb, Bool, true, false, cond, ◌||◌, List, [], ◌∷◌, length, Option, Some, None, refl, sym, ap, ◌∙◌, subst, arith, true≢false, sum_by}
use Rattle.std.specs.Prelude.{slice_index_or, slice_set}
use Rattle.std.specs.Option.{option_map_or}
use Rattle.std.proofs.lemmas.Bool.{false_from_ne_true}
use Rattle.std.proofs.lemmas.List.{get_or-set_same, get_or-set_other, length-set}
use Rattle.hx_model.specs.Forest.{Forest}
use Rattle.hx_model.specs.Quotas.{charge_below}
use Rattle.hx_model.specs.State.{Objects}
use Rattle.hx_model.specs.declared.resource.Resource.{Resource}
use Rattle.hx_model.proofs.Parents.{out_head, out_tail}
use Rattle.hx_survey.specs.Inside.{place_of, up_at, walk_at}
use Rattle.hx_survey.specs.Sums.{IsBottomUp, flow, is_among, is_led, passed_on, reaches}

or_right : (a b : Bool) → b ≡ true → (a || b) ≡ true
or_right true b h = refl
or_right false b h = h

itself : (k : ℕ) → eqb k k ≡ true
itself k = eq-eqb k k refl

apart : (i k : ℕ) → eqb i k ≡ false → i ≡ k → ⊥
apart i k out is = true≢false (sym (eq-eqb i k is) ∙ out)

pub walk_none : (test : ℕ → Bool) (left : ℕ) (ups : List (Option ℕ)) → walk_at test left ups None ≡ false
walk_none test zero ups = refl
walk_none test (suc left) ups = refl

-- ---- orders

-- the parent of one that is in order is among them
pub up_among : (ups : List (Option ℕ)) (places : List ℕ) (q u : ℕ) → IsBottomUp ups places → is_among q places ≡ true → up_at ups q ≡ Some u → is_among u places ≡ true
up_among ups [] q u order among up = absurd (true≢false (sym among))
up_among ups (p ∷ places) q u order among up = elim (eqb p q) as (λ b. eqb p q ≡ b → (b || is_among q places) ≡ true → (eqb p u || is_among u places) ≡ true) [
  | true ↦ λ same all. or_right (eqb p u) (is_among u places) (subst (λ (o : Option ℕ). is_led o places ≡ true) (ap (λ k. up_at ups k) (eqb-true p q same) ∙ up) order.1)
  | false ↦ λ out later. or_right (eqb p u) (is_among u places) (up_among ups places q u order.2 later up)
] refl among

-- a walk within an order has ended after as many steps as that is long
pub same_walk : (test : ℕ → Bool) (ups : List (Option ℕ)) (places : List ℕ) (q j k : ℕ) → IsBottomUp ups places → is_among q places ≡ true → length places ≤ j → length places ≤ k → walk_at test j ups (Some q) ≡ walk_at test k ups (Some q)
same_walk test ups [] q j k order among short brief = absurd (true≢false (sym among))
same_walk test ups (p ∷ places) q zero k order among short brief = absurd (omega (arith, short))
same_walk test ups (p ∷ places) q (suc j) zero order among short brief = absurd (omega (arith, brief))
same_walk test ups (p ∷ places) q (suc j) (suc k) order among short brief =
    elim (eqb p q) as (λ b. eqb p q ≡ b → (b || is_among q places) ≡ true → walk_at test (suc j) ups (Some q) ≡ walk_at test (suc k) ups (Some q)) [
      | true ↦ λ same all. ap (λ b. test q || b) (from (λ u led. same_walk test ups places u j k order.2 led (omega (arith, short)) (omega (arith, brief))) (up_at ups q) (subst (λ (i : ℕ). is_led (up_at ups i) places ≡ true) (eqb-true p q same) order.1))
      | false ↦ λ out later. same_walk test ups places q (suc j) (suc k) order.2 later (omega (arith, short)) (omega (arith, brief))
    ] refl among
  where
    from : ((u : ℕ) → is_among u places ≡ true → walk_at test j ups (Some u) ≡ walk_at test k ups (Some u)) → (o : Option ℕ) → is_led o places ≡ true → walk_at test j ups o ≡ walk_at test k ups o
    from on None led = walk_none test j ups ∙ sym (walk_none test k ups)
    from on (Some u) led = on u led

-- whom one reaches beside itself its parent reaches
pub step_up : (n : ℕ) (ups : List (Option ℕ)) (p : ℕ) (places : List ℕ) (a : ℕ) → IsBottomUp ups (p ∷ places) → length (p ∷ places) ≤ n → eqb p a ≡ false → walk_at (λ i. eqb i a) n ups (Some p) ≡ walk_at (λ i. eqb i a) n ups (up_at ups p)
step_up zero ups p places a order short out = absurd (omega (arith, short))
step_up (suc m) ups p places a order short out = ap (λ b. b || walk_at (λ i. eqb i a) m ups (up_at ups p)) out ∙ on (up_at ups p) order.1
  where
    on : (o : Option ℕ) → is_led o places ≡ true → walk_at (λ i. eqb i a) m ups o ≡ walk_at (λ i. eqb i a) (suc m) ups o
    on None led = walk_none (λ i. eqb i a) m ups
    on (Some u) led = same_walk (λ i. eqb i a) ups places u m (suc m) order.2 led (omega (arith, short)) (omega (arith, short))

-- a walk doesn't leave an order
pub stays : (ups : List (Option ℕ)) (places : List ℕ) (a left q : ℕ) → IsBottomUp ups places → is_among q places ≡ true → walk_at (λ i. eqb i a) left ups (Some q) ≡ true → is_among a places ≡ true
stays ups places a zero q order among h = absurd (true≢false (sym h))
stays ups places a (suc left) q order among h = elim (eqb q a) as (λ b. eqb q a ≡ b → (b || walk_at (λ i. eqb i a) left ups (up_at ups q)) ≡ true → is_among a places ≡ true) [
  | true ↦ λ same all. subst (λ (k : ℕ). is_among k places ≡ true) (eqb-true q a same) among
  | false ↦ λ out later. on (λ u. stays ups places a left u order) (up_at ups q) refl later
] refl h
  where
    on : ((u : ℕ) → is_among u places ≡ true → walk_at (λ i. eqb i a) left ups (Some u) ≡ true → is_among a places ≡ true) → (o : Option ℕ) → up_at ups q ≡ o → walk_at (λ i. eqb i a) left ups o ≡ true → is_among a places ≡ true
    on next None is h = absurd (true≢false (sym h ∙ walk_none (λ i. eqb i a) left ups))
    on next (Some u) is h = next u (up_among ups places q u order among is) h

-- ---- what flows

none_flows : (ups : List (Option ℕ)) (sums places : List ℕ) (p : ℕ) → ((q : ℕ) → is_among q places ≡ true → reaches ups q p ≡ false) → flow ups sums places p ≡ 0
none_flows ups sums [] p out = refl
none_flows ups sums (q ∷ places) p out =
    let head : cond (reaches ups q p) (slice_index_or sums q 0) 0 ≡ 0 = ap (λ b. cond b (slice_index_or sums q 0) 0) (out q (ap (λ b. b || is_among q places) (itself q))) in
    omega (arith, head, none_flows ups sums places p (λ k among. out k (or_right (eqb q k) (is_among k places) among)))

flow_kept : (ups : List (Option ℕ)) (sums : List ℕ) (u y : ℕ) (places : List ℕ) (a : ℕ) → is_among u places ≡ false → flow ups (slice_set sums u y) places a ≡ flow ups sums places a
flow_kept ups sums u y [] a out = refl
flow_kept ups sums u y (q ∷ places) a out =
    let other : slice_index_or (slice_set sums u y) q 0 ≡ slice_index_or sums q 0 = get_or-set_other sums u q y 0 (apart q u (out_head (eqb q u) (is_among u places) out)) in
    let rest = flow_kept ups sums u y places a (out_tail (eqb q u) (is_among u places) out) in
    λ i. cond (reaches ups q a) (other i) 0 + rest i

split : (b : Bool) (v x : ℕ) → cond b (v + x) 0 ≡ cond b v 0 + cond b x 0
split true v x = refl
split false v x = omega arith

-- with more in one place, as much more flows where that reaches
pub flow_more : (ups : List (Option ℕ)) (sums : List ℕ) (u x : ℕ) (places : List ℕ) (a : ℕ) → IsBottomUp ups places → is_among u places ≡ true → u < length sums
    → flow ups (slice_set sums u (slice_index_or sums u 0 + x)) places a ≡ flow ups sums places a + cond (reaches ups u a) x 0
flow_more ups sums u x [] a order among fits = absurd (true≢false (sym among))
flow_more ups sums u x (q ∷ places) a order among fits =
    elim (eqb q u) as (λ b. eqb q u ≡ b → (b || is_among u places) ≡ true → flow ups (slice_set sums u (slice_index_or sums u 0 + x)) (q ∷ places) a ≡ flow ups sums (q ∷ places) a + cond (reaches ups u a) x 0) [
      | true ↦ λ same all.
          let is : q ≡ u = eqb-true q u same in
          let at_u : cond (reaches ups u a) (slice_index_or (slice_set sums u (slice_index_or sums u 0 + x)) u 0) 0 ≡ cond (reaches ups u a) (slice_index_or sums u 0) 0 + cond (reaches ups u a) x 0 =
          ap (λ v. cond (reaches ups u a) v 0) (get_or-set_same sums u (slice_index_or sums u 0 + x) 0 fits) ∙ split (reaches ups u a) (slice_index_or sums u 0) x in
          let here : cond (reaches ups q a) (slice_index_or (slice_set sums u (slice_index_or sums u 0 + x)) q 0) 0 ≡ cond (reaches ups q a) (slice_index_or sums q 0) 0 + cond (reaches ups u a) x 0 =
          subst (λ (k : ℕ). cond (reaches ups k a) (slice_index_or (slice_set sums u (slice_index_or sums u 0 + x)) k 0) 0 ≡ cond (reaches ups k a) (slice_index_or sums k 0) 0 + cond (reaches ups u a) x 0) (sym is) at_u in
          omega (arith, here, flow_kept ups sums u (slice_index_or sums u 0 + x) places a (subst (λ (k : ℕ). is_among k places ≡ false) is order.0))
      | false ↦ λ out later.
          let here : cond (reaches ups q a) (slice_index_or (slice_set sums u (slice_index_or sums u 0 + x)) q 0) 0 ≡ cond (reaches ups q a) (slice_index_or sums q 0) 0 =
          ap (λ v. cond (reaches ups q a) v 0) (get_or-set_other sums u q (slice_index_or sums u 0 + x) 0 (apart q u out)) in
          omega (arith, here, flow_more ups sums u x places a order.2 later fits)
    ] refl among

-- ---- one that passes on what it has

-- what one comes to: what flows to it while it is left, and what it has then
abbrev pub sum_now : List (Option ℕ) → List ℕ → List ℕ → ℕ → ℕ
sum_now ups sums left a = cond (is_among a left) (flow ups sums left a) (slice_index_or sums a 0)

module _ (ups : List (Option ℕ)) (sums : List ℕ) (p : ℕ) (places : List ℕ) (order : IsBottomUp ups (p ∷ places)) (short : length (p ∷ places) ≤ length ups) (within : (k : ℕ) → is_among k places ≡ true → k < length sums) where
  abbrev new_by : Option ℕ → List ℕ
  new_by o = option_map_or (λ up. slice_set sums up (slice_index_or sums up 0 + slice_index_or sums p 0)) o sums

  reaches_itself : (n : ℕ) → 0 < n → walk_at (λ i. eqb i p) n ups (Some p) ≡ true
  reaches_itself zero some = absurd (omega (arith, some))
  reaches_itself (suc m) some = ap (λ b. b || walk_at (λ i. eqb i p) m ups (up_at ups p)) (itself p)

  -- what flows to one that no other reaches is what it has
  own_flow : flow ups sums (p ∷ places) p ≡ slice_index_or sums p 0
  own_flow =
      let here : cond (reaches ups p p) (slice_index_or sums p 0) 0 ≡ slice_index_or sums p 0 = ap (λ b. cond b (slice_index_or sums p 0) 0) (reaches_itself (length ups) (omega (arith, short))) in
      omega (
        arith,
        here,
        none_flows ups sums places p (λ q among. false_from_ne_true (reaches ups q p) (λ h. true≢false (sym (stays ups places p (length ups) q order.2 among h) ∙ order.0))),
      )

  kept_at : (o : Option ℕ) → up_at ups p ≡ o → (k : ℕ) → is_among k places ≡ false → slice_index_or (new_by o) k 0 ≡ slice_index_or sums k 0
  kept_at None is k out = refl
  kept_at (Some u) is k out =
      let led : is_among u places ≡ true = subst (λ (o : Option ℕ). is_led o places ≡ true) is order.1 in
      get_or-set_other sums u k (slice_index_or sums u 0 + slice_index_or sums p 0) 0 (λ e. true≢false (sym (subst (λ (j : ℕ). is_among j places ≡ true) (sym e) led) ∙ out))

  later : (o : Option ℕ) → up_at ups p ≡ o → (a : ℕ) → eqb p a ≡ false → flow ups (new_by o) places a ≡ flow ups sums (p ∷ places) a
  later None is a out =
      let none : reaches ups p a ≡ false = step_up (length ups) ups p places a order short out ∙ ap (walk_at (λ i. eqb i a) (length ups) ups) is ∙ walk_none (λ i. eqb i a) (length ups) ups in
      let here : cond (reaches ups p a) (slice_index_or sums p 0) 0 ≡ 0 = ap (λ b. cond b (slice_index_or sums p 0) 0) none in
      omega (arith, here)
  later (Some u) is a out =
      let led : is_among u places ≡ true = subst (λ (o : Option ℕ). is_led o places ≡ true) is order.1 in
      let same : reaches ups p a ≡ reaches ups u a = step_up (length ups) ups p places a order short out ∙ ap (walk_at (λ i. eqb i a) (length ups) ups) is in
      let here : cond (reaches ups p a) (slice_index_or sums p 0) 0 ≡ cond (reaches ups u a) (slice_index_or sums p 0) 0 = ap (λ b. cond b (slice_index_or sums p 0) 0) same in
      omega (arith, here, flow_more ups sums u (slice_index_or sums p 0) places a order.2 led (within u led))

  by_up : (o : Option ℕ) → up_at ups p ≡ o → (a : ℕ) → sum_now ups (new_by o) places a ≡ sum_now ups sums (p ∷ places) a
  by_up o is a = elim (eqb p a) as (λ b. eqb p a ≡ b → sum_now ups (new_by o) places a ≡ cond (b || is_among a places) (flow ups sums (p ∷ places) a) (slice_index_or sums a 0)) [
    | true ↦ λ same.
        subst (λ (k : ℕ). sum_now ups (new_by o) places k ≡ flow ups sums (p ∷ places) k) (eqb-true p a same)
        (ap (λ b. cond b (flow ups (new_by o) places p) (slice_index_or (new_by o) p 0)) order.0 ∙ kept_at o is p order.0 ∙ sym own_flow)
    | false ↦ λ out. elim (is_among a places) as (λ b. is_among a places ≡ b → cond b (flow ups (new_by o) places a) (slice_index_or (new_by o) a 0) ≡ cond b (flow ups sums (p ∷ places) a) (slice_index_or sums a 0)) [
      | true ↦ λ among. later o is a out
      | false ↦ λ away. kept_at o is a away
    ] refl
  ] refl

  -- what one passes on doesn't change what the others come to
  pub pass_law : (a : ℕ) → sum_now ups (passed_on ups p sums) places a ≡ sum_now ups sums (p ∷ places) a
  pass_law a = by_up (up_at ups p) refl a

  as_long : (o : Option ℕ) → length (new_by o) ≡ length sums
  as_long None = refl
  as_long (Some u) = length-set sums u (slice_index_or sums u 0 + slice_index_or sums p 0)

  pub passed_length : length (passed_on ups p sums) ≡ length sums
  passed_length = as_long (up_at ups p)

-- ---- all that pass on what they have

-- so many are left, and what the one comes to that has the sum of a namespace is what its subtree is charged
pub record IsPassing (objects : Objects) (f : Forest) (r : Resource) (at : ℕ → ℕ) (ups : List (Option ℕ)) (sums left : List ℕ) : Type 0 where
  pub order : IsBottomUp ups left
  pub short : length left ≤ length ups
  pub within : (k : ℕ) → is_among k left ≡ true → k < length ups
  pub long : length sums ≡ length ups
  pub sums_are : (n : List ℕ) (k : ℕ) → place_of f n ≡ Some k → sum_now ups sums left (at k) ≡ sum_by (charge_below f n r) objects

-- one more has passed on what it has
pub one_passed : (objects : Objects) (f : Forest) (r : Resource) (at : ℕ → ℕ) (ups : List (Option ℕ)) (sums : List ℕ) (p : ℕ) (left : List ℕ) → IsPassing objects f r at ups sums (p ∷ left) → IsPassing objects f r at ups (passed_on ups p sums) left
one_passed objects f r at ups sums p left so_far =
    let within : (k : ℕ) → is_among k left ≡ true → k < length sums = λ k among. rw so_far.long (so_far.within k (or_right (eqb p k) (is_among k left) among)) in
    record {
      order = so_far.order.2;
      short = omega (arith, so_far.short);
      within = λ k among. so_far.within k (or_right (eqb p k) (is_among k left) among);
      long = passed_length ups sums p left so_far.order so_far.short within ∙ so_far.long;
      sums_are = λ n k here. pass_law ups sums p left so_far.order so_far.short within (at k) ∙ so_far.sums_are n k here;
    }
