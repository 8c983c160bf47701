-- Sums of subtrees by what lies in each namespace.
--     IsBegun        each namespace of some has what lies in it
--     one_begun      one more has
--     all_begun      all have: it is to be passed on
--     all_passed     all have passed it on: each has the sum of its subtree
use Rattle.std.proofs.Common.{◌≡◌, ℕ, zero, suc, ◌+◌, ◌<◌, ◌≤◌, Bool, true, false, cond, List, [], ◌∷◌, length, take, filter, sum_by, Option, Some, None, refl, sym, ap, ◌∙◌, subst, arith}
use Rattle.std.specs.Prelude.{replicate, slice_get, slice_index_or, slice_set}
use Rattle.std.specs.Option.{option_map_or}
use Rattle.std.proofs.lemmas.List.{length-set, length-replicate, take_all}
use Rattle.std.proofs.lemmas.List.Sums.{sum_by-cons, sum_by_more}
use Rattle.std.proofs.lemmas.Option.{none-some, same_Some}
use Rattle.hx_model.specs.Forest.{Forest, in_chain, names_of}
use Rattle.hx_model.specs.Quotas.{charge_below}
use Rattle.hx_model.specs.State.{Objects}
use Rattle.hx_model.specs.declared.node.Node.{Node}
use Rattle.hx_model.specs.declared.resource.Resource.{Resource}
use Rattle.hx_survey.specs.Inside.{Ascends, charge_in, place_of, ups_of}
use Rattle.hx_survey.specs.Seams.{shared_at}
use Rattle.hx_survey.specs.Sums.{AreSums, AreWays, flow, reaches}
use Rattle.hx_survey.specs.declared.totals.Ways.{Ways}
use Rattle.hx_survey.proofs.Charged.{used_by_names}
use Rattle.hx_survey.proofs.Flowing.{IsPassing, flow_more, sum_now}
use Rattle.hx_survey.proofs.Placed.{found_at, place_at_index}
use Rattle.hx_survey.proofs.Seaming.{At, as_many, bridge, cuts_noted, seams_noted, shared_there}
use Rattle.hx_survey.proofs.Walked.{in_chain_by, no_subtree}

there : {A : Type 0} (xs : List A) (k : ℕ) (x d : A) → slice_get xs k ≡ Some x → slice_index_or xs k d ≡ x
there [] k x d h = absurd (none-some x h)
there (y ∷ xs) zero x d h = same_Some y x h
there (y ∷ xs) (suc k) x d h = there xs k x d h

fits_in : {A : Type 0} (xs : List A) (k : ℕ) (x : A) → slice_get xs k ≡ Some x → k < length xs
fits_in [] k x h = absurd (none-some x h)
fits_in (y ∷ xs) zero x h = omega arith
fits_in (y ∷ xs) (suc k) x h = omega (arith, fits_in xs k x h)

-- what lies in a namespace, if it is below another
abbrev pub charge_if_below : Objects → Forest → Resource → List ℕ → List ℕ × Node → ℕ
charge_if_below objects f r n e = cond (in_chain f e.0 n) (charge_in objects r e.0) 0

-- each of so many namespaces has what lies in it
pub record IsBegun (objects : Objects) (f : Forest) (r : Resource) (ways : Ways) (sums : List ℕ) (place : ℕ) : Type 0 where
  pub long : length sums ≡ length ways.cuts.now
  pub sums_are : (n : List ℕ) (k : ℕ) → place_of f n ≡ Some k → flow ways.cuts.now sums ways.order.now (shared_at ways.seams.now k) ≡ sum_by (charge_if_below objects f r n) (take place f)

-- so many sums that are 0
abbrev pub zeros : ℕ → List ℕ
zeros n = replicate n 0

zero_at : (n k : ℕ) → slice_index_or (zeros n) k 0 ≡ 0
zero_at zero k = refl
zero_at (suc n) zero = refl
zero_at (suc n) (suc k) = zero_at n k

either : (b : Bool) (k : ℕ) → cond b k k ≡ k
either true k = refl
either false k = refl

nothing_flows : (ups : List (Option ℕ)) (n : ℕ) (places : List ℕ) (a : ℕ) → flow ups (zeros n) places a ≡ 0
nothing_flows ups n [] a = refl
nothing_flows ups n (q ∷ places) a =
    let here : cond (reaches ups q a) (slice_index_or (zeros n) q 0) 0 ≡ 0 = ap (λ v. cond (reaches ups q a) v 0) (zero_at n q) ∙ either (reaches ups q a) 0 in
    omega (arith, here, nothing_flows ups n places a)

-- none has yet
pub none_begun : (objects : Objects) (f : Forest) (r : Resource) (ways : Ways) (sums : List ℕ) → sums ≡ zeros (length ways.cuts.now) → IsBegun objects f r ways sums 0
none_begun objects f r ways sums is = subst (λ (ss : List ℕ). IsBegun objects f r ways ss 0) (sym is) (record {
  long = length-replicate {A = ℕ} (length ways.cuts.now) 0;
  sums_are = λ n k here. nothing_flows ways.cuts.now (length ways.cuts.now) ways.order.now (shared_at ways.seams.now k);
})

-- one more has
pub one_begun : (objects : Objects) (f : Forest) (r : Resource) (ways : Ways) (sums : List ℕ) (place : ℕ) (e : List ℕ × Node) → Ascends f → AreWays (ups_of f) ways → slice_get f place ≡ Some e → IsBegun objects f r ways sums place
    → IsBegun objects f r ways (slice_set sums place (slice_index_or sums place 0 + charge_in objects r e.0)) (place + 1)
one_begun objects f r ways sums place e sorted are here so_far =
    let cuts = ways.cuts.now in
    let seams = ways.seams.now in
    let fits : place < length f = fits_in f place e here in
    let inside : place < length cuts = omega (arith, fits, as_many f, are.cuts.many) in
    let from : At f place = record { n = e.0; here = place_at_index f place e.0 e.1 sorted here } in
    record {
      long = length-set sums place (slice_index_or sums place 0 + charge_in objects r e.0) ∙ so_far.long;
      sums_are = λ n k at.
          let more = flow_more cuts sums place (charge_in objects r e.0) ways.order.now (shared_at seams k) are.order.order (are.order.all place inside) (omega (arith, inside, so_far.long)) in
          let named : reaches cuts place (shared_at seams k) ≡ in_chain f e.0 n =
          bridge f seams cuts (seams_noted (ups_of f) seams are.seams) (cuts_noted (ups_of f) seams cuts are.cuts) place k from (record { n = n; here = at }) are.cuts.many
          ∙ in_chain_by f (ups_of f) refl e.0 n (Some place) k (sym from.here) at in
          let part : cond (reaches cuts place (shared_at seams k)) (charge_in objects r e.0) 0 ≡ charge_if_below objects f r n e = ap (λ b. cond b (charge_in objects r e.0) 0) named in
          let next : sum_by (charge_if_below objects f r n) (take (place + 1) f) ≡ sum_by (charge_if_below objects f r n) (take place f) + charge_if_below objects f r n e =
          sum_by_more (charge_if_below objects f r n) f place e fits ∙ ap (λ x. sum_by (charge_if_below objects f r n) (take place f) + charge_if_below objects f r n x) (there f place e e here) in
          omega (arith, more, part, next, so_far.sums_are n k at);
    }

by_filter : (t : List ℕ → Bool) (g : List ℕ → ℕ) (f : Forest) → sum_by (λ (e : List ℕ × Node). cond (t e.0) (g e.0) 0) f ≡ sum_by g (filter t (names_of f))
by_filter t g [] = refl
by_filter t g (x ∷ f) =
    sum_by-cons (λ (e : List ℕ × Node). cond (t e.0) (g e.0) 0) x f
    ∙ elim (t x.0) as (λ b. cond b (g x.0) 0 + sum_by (λ (e : List ℕ × Node). cond (t e.0) (g e.0) 0) f ≡ sum_by g (cond b (x.0 ∷ filter t (names_of f)) (filter t (names_of f)))) [
      | true ↦ ap (λ k. g x.0 + k) (by_filter t g f) ∙ sym (sum_by-cons g x.0 (filter t (names_of f)))
      | false ↦ omega (arith, by_filter t g f)
    ]

-- all have
pub all_begun : (objects : Objects) (f : Forest) (r : Resource) (ways : Ways) (sums : List ℕ) (place : ℕ) → Ascends f → AreWays (ups_of f) ways → length f ≤ place → IsBegun objects f r ways sums place → IsPassing objects f r (shared_at ways.seams.now) ways.cuts.now sums ways.order.now
all_begun objects f r ways sums place sorted are over so_far = record {
  order = are.order.order;
  short = are.order.few;
  within = are.order.within;
  long = so_far.long;
  sums_are = λ n k at.
      let cuts = ways.cuts.now in
      let seams = ways.seams.now in
      let s = shared_at seams k in
      let to = shared_there f seams cuts (seams_noted (ups_of f) seams are.seams) (cuts_noted (ups_of f) seams cuts are.cuts) k (record { n = n; here = at }) in
      let inside : s < length cuts = omega (arith, fits_in f s (to.n, (found_at f to.n s to.here).node) (found_at f to.n s to.here).entry, as_many f, are.cuts.many) in
      ap (λ b. cond b (flow cuts sums ways.order.now s) (slice_index_or sums s 0)) (are.order.all s inside)
      ∙ so_far.sums_are n k at
      ∙ ap (sum_by (charge_if_below objects f r n)) (take_all place f over)
      ∙ by_filter (λ m. in_chain f m n) (charge_in objects r) f
      ∙ used_by_names r f n objects sorted;
}

-- all have passed it on
pub all_passed : (objects : Objects) (f : Forest) (r : Resource) (ways : Ways) (sums left : List ℕ) → Ascends f → left ≡ [] → IsPassing objects f r (shared_at ways.seams.now) ways.cuts.now sums left → AreSums objects f r ways.seams.now sums
all_passed objects f r ways sums left sorted none passed n = at (place_of f n) refl
  where
    at : (o : Option ℕ) → place_of f n ≡ o → option_map_or (λ k. slice_index_or sums (shared_at ways.seams.now k) 0) o 0 ≡ sum_by (charge_below f n r) objects
    at None out = ap (sum_by (charge_in objects r)) (no_subtree f n out) ∙ used_by_names r f n objects sorted
    at (Some k) here = sym (ap (λ (ps : List ℕ). sum_now ways.cuts.now sums ps (shared_at ways.seams.now k)) none) ∙ passed.sums_are n k here
