-- Sums that are adjusted along names.
--     of_place         each place is that of a resource
--     may_now          what may be adjusted at first may be, as long as it isn't yet
--     adjusted_one     one name more
use Rattle.std.specs.Prelude.{slice_index}
use Rattle.std.proofs.Common.{◌≡◌, ℕ, zero, suc, ◌+◌, ◌-◌, ◌<◌, ◌≤◌, ◌^◌, Bool, true, false, cond, not, ◌&&◌, ◌||◌, Option, Some, None, List, [], ◌∷◌, refl, sym, ap, subst, ◌∙◌, arith}
use Rattle.std.specs.List.{AllByRecursion, IsDistinct}
use Rattle.std.specs.Str.{bytes_eq}
use Rattle.std.proofs.lemmas.Bool.{or_left, or_right}
use Rattle.std.proofs.lemmas.Map.Keys.{IsDistinct-head, IsDistinct-tail}
use Rattle.std.proofs.lemmas.Option.{none-some, same_Some}
use Rattle.hx_model.specs.Forest.{is_in}
use Rattle.hx_model.specs.declared.resource.Resource.{Resource}
use Rattle.hx_model.specs.declared.resource.Resource.TheVariants.{Pods, RequestsCpu, RequestsMemory, LimitsCpu, LimitsMemory, RequestsStorage, CountRoles, CountRoleBindings, CountConfigMaps, CountSecrets, CountNetworkPolicies, CountLimitRanges, CountPods, CountServices, CountClaims}
use Rattle.hx_model.proofs.Climbing.{is_same, same_itself}
use Rattle.hx_model.proofs.Parents.{swap_same}
use Rattle.hx_quota.specs.PlaceRows.{Place}
use Rattle.hx_quota.specs.Counters.{place_of}
use Rattle.hx_quota.specs.Inside.{Places, place_at, adjusted, MayAdjust, IsAdjusted}

pub of_place : (k : ℕ) → k < 15 → (r : Resource) × (place_of r ≡ k)
of_place zero h = (Pods, refl)
of_place (suc zero) h = (RequestsCpu, refl)
of_place (suc (suc zero)) h = (RequestsMemory, refl)
of_place (suc (suc (suc zero))) h = (LimitsCpu, refl)
of_place (suc (suc (suc (suc zero)))) h = (LimitsMemory, refl)
of_place (suc (suc (suc (suc (suc zero))))) h = (RequestsStorage, refl)
of_place (suc (suc (suc (suc (suc (suc zero)))))) h = (CountRoles, refl)
of_place (suc (suc (suc (suc (suc (suc (suc zero))))))) h = (CountRoleBindings, refl)
of_place (suc (suc (suc (suc (suc (suc (suc (suc zero)))))))) h = (CountConfigMaps, refl)
of_place (suc (suc (suc (suc (suc (suc (suc (suc (suc zero))))))))) h = (CountSecrets, refl)
of_place (suc (suc (suc (suc (suc (suc (suc (suc (suc (suc zero)))))))))) h = (CountNetworkPolicies, refl)
of_place (suc (suc (suc (suc (suc (suc (suc (suc (suc (suc (suc zero))))))))))) h = (CountLimitRanges, refl)
of_place (suc (suc (suc (suc (suc (suc (suc (suc (suc (suc (suc (suc zero)))))))))))) h = (CountPods, refl)
of_place (suc (suc (suc (suc (suc (suc (suc (suc (suc (suc (suc (suc (suc zero))))))))))))) h = (CountServices, refl)
of_place (suc (suc (suc (suc (suc (suc (suc (suc (suc (suc (suc (suc (suc (suc zero)))))))))))))) h = (CountClaims, refl)
of_place (suc (suc (suc (suc (suc (suc (suc (suc (suc (suc (suc (suc (suc (suc (suc k))))))))))))))) h = absurd (omega (arith, h))

-- a name is done: among all, and not among those that are left
abbrev pub is_done : List (List ℕ) → List (List ℕ) → List ℕ → Bool
is_done names left q = is_in q names && not (is_in q left)

module _ (take give : List ℕ) (names left rest : List (List ℕ)) (m : List ℕ) (is : left ≡ m ∷ rest) where
  pub here_left : is_in m left ≡ true
  here_left = ap (is_in m) is ∙ or_left (bytes_eq m m) (is_in m rest) (same_itself m)

  not_done : is_done names left m ≡ false
  not_done = ap (λ b. is_in m names && not b) here_left ∙ none (is_in m names)
    where
      none : (b : Bool) → (b && false) ≡ false
      none true = refl
      none false = refl

  absent_in : (xs : List (List ℕ)) → AllByRecursion (λ y. bytes_eq m y ≡ false) xs → is_in m xs ≡ false
  absent_in [] h = refl
  absent_in (x ∷ xs) h = (λ i. h.0 i || is_in m xs) ∙ absent_in xs h.1

  pub next_distinct : IsDistinct bytes_eq left → IsDistinct bytes_eq rest
  next_distinct h = IsDistinct-tail bytes_eq m rest (subst (λ (xs : List (List ℕ)). IsDistinct bytes_eq xs) is h)

  pub next_inside : ((q : List ℕ) → is_in q left ≡ true → is_in q names ≡ true) → (q : List ℕ) → is_in q rest ≡ true → is_in q names ≡ true
  next_inside inside q h = inside q (ap (is_in q) is ∙ or_right (bytes_eq q m) (is_in q rest) h)

  now_done : IsDistinct bytes_eq left → ((q : List ℕ) → is_in q left ≡ true → is_in q names ≡ true) → is_done names rest m ≡ true
  now_done distinct inside =
      let out = absent_in rest (IsDistinct-head bytes_eq m rest (subst (λ (xs : List (List ℕ)). IsDistinct bytes_eq xs) is distinct)) in
      (λ i. inside m here_left i && not (out i))

  other_done : (q : List ℕ) → bytes_eq m q ≡ false → is_done names left q ≡ is_done names rest q
  other_done q apart = ap (λ b. is_in q names && not b) (ap (is_in q) is ∙ ap (λ b. b || is_in q rest) (swap_same m q apart))

  -- a place that isn't done has its sums
  pub may_now : (o : Option Place) (place : Place) → IsAdjusted take give (is_done names left m) o (Some place) → ((p : Place) → o ≡ Some p → MayAdjust take give p.sums) → MayAdjust take give place.sums
  may_now None place h may = absurd (none-some place (sym h))
  may_now (Some p) place h may = λ k within.
      let same : place ≡ h.0 = same_Some place h.0 h.1 in
      let sums : slice_index place.sums k ≡ slice_index p.sums k = ap (λ (x : Place). slice_index x.sums k) same ∙ h.3 k within ∙ ap (λ b. cond b (adjusted take give p.sums k) (slice_index p.sums k)) not_done in
      let fine = may p refl k within in
      (subst (λ (n : ℕ). slice_index take k ≤ n) (sym sums) fine.0, subst (λ (n : ℕ). n - slice_index take k + slice_index give k < 2 ^ 128) (sym sums) fine.1)

  -- one name that is there
  pub adjusted_one : (was now new : Places) (place put : Place) → IsDistinct bytes_eq left → ((q : List ℕ) → is_in q left ≡ true → is_in q names ≡ true)
      → ((q : List ℕ) → IsAdjusted take give (is_done names left q) (place_at was q) (place_at now q)) → place_at now m ≡ Some place → put.entry ≡ place.entry
      → ((k : ℕ) → k < 15 → slice_index put.sums k ≡ adjusted take give place.sums k) → ((q : List ℕ) → place_at new q ≡ cond (bytes_eq m q) (Some put) (place_at now q))
      → (q : List ℕ) → IsAdjusted take give (is_done names rest q) (place_at was q) (place_at new q)
  adjusted_one was now new place put distinct inside all there entry sums is_new q = at (bytes_eq m q) refl
    where
      mine : (o : Option Place) → IsAdjusted take give (is_done names left m) o (Some place) → IsAdjusted take give true o (Some put)
      mine None h = absurd (none-some place (sym h))
      mine (Some p) h =
          let same : place ≡ h.0 = same_Some place h.0 h.1 in (
            put,
            refl,
            entry ∙ ap (λ (x : Place). x.entry) same ∙ h.2,
            λ k within.
                sums k within ∙ ap (λ n. n - slice_index take k + slice_index give k) (ap (λ (x : Place). slice_index x.sums k) same ∙ h.3 k within ∙ ap (λ b. cond b (adjusted take give p.sums k) (slice_index p.sums k)) not_done),
          )

      at : (b : Bool) → bytes_eq m q ≡ b → IsAdjusted take give (is_done names rest q) (place_at was q) (place_at new q)
      at true same =
          let got : place_at new m ≡ Some put = is_new m ∙ ap (λ b. cond b (Some put) (place_at now m)) (same_itself m) in
          let whole : IsAdjusted take give (is_done names rest m) (place_at was m) (place_at new m) =
          subst (λ (b : Bool). IsAdjusted take give b (place_at was m) (place_at new m)) (sym (now_done distinct inside))
          (subst (λ (w : Option Place). IsAdjusted take give true (place_at was m) w) (sym got) (mine (place_at was m) (subst (λ (w : Option Place). IsAdjusted take give (is_done names left m) (place_at was m) w) there (all m)))) in
          subst (λ (k : List ℕ). IsAdjusted take give (is_done names rest k) (place_at was k) (place_at new k)) (is_same m q same) whole
      at false out =
          subst (λ (b : Bool). IsAdjusted take give b (place_at was q) (place_at new q)) (other_done q out)
          (subst (λ (w : Option Place). IsAdjusted take give (is_done names left q) (place_at was q) w) (sym (is_new q ∙ ap (λ b. cond b (Some put) (place_at now q)) out)) (all q))

-- what may be adjusted by resources
pub may_by : (take give sums : List ℕ) → ((r : Resource) → (slice_index take (place_of r) ≤ slice_index sums (place_of r)) × (adjusted take give sums (place_of r) < 2 ^ 128)) → MayAdjust take give sums
may_by take give sums each = λ k within.
    let at = of_place k within in
    subst (λ (j : ℕ). (slice_index take j ≤ slice_index sums j) × (adjusted take give sums j < 2 ^ 128)) at.1 (each at.0)

-- a place that is there was there
pub was_there : (take give : List ℕ) (b : Bool) (o : Option Place) (x : Place) → IsAdjusted take give b o (Some x)
    → (p : Place) × (o ≡ Some p) × ((k : ℕ) → k < 15 → slice_index x.sums k ≡ cond b (adjusted take give p.sums k) (slice_index p.sums k))
was_there take give b None x h = absurd (none-some x (sym h))
was_there take give b (Some p) x h = (p, refl, λ k within. ap (λ (y : Place). slice_index y.sums k) (same_Some x h.0 h.1) ∙ h.3 k within)
