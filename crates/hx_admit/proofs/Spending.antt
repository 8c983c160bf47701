-- What quotas refuse, as code finds it.
--     unrefused       no quota refuses a write that raises no charge and brings no Pod that asks for something else
--     over_sides      a sum passes a limit where it did before, or where the rest is too small for the rise
use Rattle.std.proofs.Common.{◌≡◌, ◌+◌, ◌-◌, ℕ, Bool, true, false, ◌&&◌, ◌||◌, nat_lt, List, [], ◌∷◌, None, Some, Option, refl, ap, ◌∙◌, inl, inr, ◌⊎◌, arith, true≢false}
use Rattle.std.proofs.lemmas.Bool.{ltb-true, lt-ltb, le-ltb}
use Rattle.hx_object.specs.declared.object.Limit.{Limit}
use Rattle.hx_object.specs.declared.object.Object.{Object}
use Rattle.hx_model.specs.Charges.{hard_of, resource_named, charge_of}
use Rattle.hx_model.specs.First.{so, or_else, first_of}
use Rattle.hx_model.specs.Quotas.{quotas_for, charge_before, rise_of, asks_anew, is_lacking, over_limit, over_quota, first_over, refused_by_quotas}
use Rattle.hx_model.specs.State.{State}
use Rattle.hx_model.specs.declared.refusal.Refusal.TheVariants.{Broken}
use Rattle.hx_model.specs.declared.resource.Resource.{Resource}
use Rattle.hx_model.specs.declared.rule.Rule.TheVariants.{Q2}
use Rattle.hx_model.proofs.Charging.{uncharged}
use Rattle.hx_admit.specs.Spending.{raises, may_refuse}

-- ---- writes that no quota refuses

left : (a b : Bool) → (a || b) ≡ false → a ≡ false
left false b e = refl
left true b e = e

right : (a b : Bool) → (a || b) ≡ false → b ≡ false
right false b e = e
right true b e = absurd (true≢false e)

first_of_none : {A B : Type 0} (f : A → Option B) → ((x : A) → f x ≡ None) → (xs : List A) → first_of f xs ≡ None
first_of_none f none [] = refl
first_of_none f none (x ∷ xs) = ap (λ o. or_else o (first_of f xs)) (none x) ∙ first_of_none f none xs

-- no charge rises, for no resource
still : (old : Option Object) (x : Object) (r : Resource) → raises old x ≡ false → nat_lt 0 (rise_of old x r) ≡ false
still old x r none = by (uncharged (λ q. nat_lt 0 (rise_of old x q)) x r none)
  where
    by : (nat_lt 0 (rise_of old x r) ≡ false) ⊎ (charge_of x r ≡ 0) → nat_lt 0 (rise_of old x r) ≡ false
    by (inl e) = e
    by (inr e) = ap (λ n. nat_lt 0 (n - charge_before old r)) e ∙ below (charge_before old r)
      where
        below : (n : ℕ) → nat_lt 0 (0 - n) ≡ false
        below n = le-ltb 0 (0 - n) (omega arith)

within : (s : State) (old : Option Object) (x q : Object) → raises old x ≡ false → (limit : Limit) → over_limit s old x q limit ≡ None
within s old x q none limit = by (resource_named limit.resource) refl
  where
    by : (o : Option Resource) → resource_named limit.resource ≡ o → over_limit s old x q limit ≡ None
    by None e = rw e refl
    by (Some r) e = rw (e, still old x r none) refl

pub unrefused : (s : State) (old : Option Object) (x : Object) → may_refuse old x ≡ false → refused_by_quotas s old x ≡ None
unrefused s old x quiet =
    let eligible : asks_anew old x ≡ false = left (asks_anew old x) (raises old x) quiet in
    let none : raises old x ≡ false = right (asks_anew old x) (raises old x) quiet in
    ap (λ b. or_else (so (b && is_lacking x (quotas_for s x.id.ns)) (Broken Q2)) (first_over s old x (quotas_for s x.id.ns))) eligible
    ∙ first_of_none (over_quota s old x) (λ q. first_of_none (over_limit s old x q) (within s old x q none) (hard_of q.payload)) (quotas_for s x.id.ns)

-- ---- what passes a limit

-- it did before
pub over_before : (limit sum rise : ℕ) → nat_lt limit sum ≡ true → nat_lt limit (sum + rise) ≡ true
over_before limit sum rise e = lt-ltb limit (sum + rise) (omega (arith, ltb-true limit sum e))
