-- What a demand asks once it has one test more, and what the demands ask then.
use Rattle.std.proofs.Common.{◌≡◌, ℕ, Bool, true, false, cond, not, ◌&&◌, ◌||◌, List, refl, sym, ap, ◌∙◌}
use Rattle.std.specs.Prelude.{Option, Some, None}
use Rattle.std.specs.BTreeMap.{is_at}
use Rattle.std.specs.Cmp.Lexicographic.{slice_cmp}
use Rattle.std.specs.Map.{lookup}
use Rattle.std.specs.Ordering.{nat_cmp}
use Rattle.std.specs.Str.{bytes_eq}
use Rattle.std.proofs.lemmas.Map.Text.{is_eq-slice_cmp}
use Rattle.std.proofs.lemmas.Slice.Eq.{bytes_eq-Decides}
use Rattle.hx_select.proofs.Members.{same_lookup}
use Rattle.hx_select.specs.declared.selector.Requirement.{Requirement}
use Rattle.hx_select.specs.declared.demand.Demand.{Demand}
use Rattle.hx_select.specs.declared.selector.Test.TheVariants.{NotIn}
use Rattle.hx_select.specs.Matching.{asks, is_allowed, meets, meets_at, meets_by}
use Rattle.hx_select.specs.Selectors.{holds_for, is_among}

and-true : (a : Bool) → a ≡ (a && true)
and-true true = refl
and-true false = refl

without : (allowed among excluded : Bool) → (allowed && not (among || excluded)) ≡ ((allowed && not excluded) && not among)
without true true true = refl
without true true false = refl
without true false true = refl
without true false false = refl
without false among excluded = refl

pub asks_not_in : (old : Demand) (values excluded : List (List ℕ)) → ((q : List ℕ) → is_among q excluded ≡ (is_among q values || is_among q old.excluded))
    → (label : Option (List ℕ)) → meets (record old { excluded = excluded }) label ≡ (meets old label && holds_for (NotIn values) label)
asks_not_in old values excluded both None = and-true (not old.is_wanted)
asks_not_in old values excluded both (Some value) =
    ap (λ b. is_allowed old.allowed value && not b) (both value) ∙ without (is_allowed old.allowed value) (is_among value values) (is_among value old.excluded)

-- what the demands ask where that on one key is put anew
pub put_need : (need : Requirement) (old mid new : List (List ℕ × Demand)) (before after : Demand)
    → ((label : Option (List ℕ)) → meets before label ≡ meets_at old need.key label)
    → ((other : List ℕ) → bytes_eq need.key other ≡ false → lookup (bytes_eq other) mid ≡ lookup (bytes_eq other) old)
    → ((label : Option (List ℕ)) → meets after label ≡ (meets before label && holds_for need.test label))
    → (put : List ℕ) → put ≡ need.key
    → ((q : List ℕ) → lookup (is_at (slice_cmp nat_cmp q)) new ≡ cond (is_at (slice_cmp nat_cmp put) q) (Some after) (lookup (is_at (slice_cmp nat_cmp q)) mid))
    → (key : List ℕ) (label : Option (List ℕ)) → meets_at new key label ≡ (meets_at old key label && asks need key label)
put_need need old mid new before after taken others more put is updates key label = by (bytes_eq need.key key) refl
  where
    found : lookup (bytes_eq key) new ≡ cond (bytes_eq need.key key) (Some after) (lookup (bytes_eq key) mid)
    found = sym (same_lookup key new) ∙ updates key
        ∙ (λ i. cond ((is_eq-slice_cmp put key ∙ ap (λ k. bytes_eq k key) is) i) (Some after) (same_lookup key mid i))

    by : (same : Bool) → bytes_eq need.key key ≡ same → meets_at new key label ≡ (meets_at old key label && (not same || holds_for need.test label))
    by true e =
        ap (λ o. meets_by o label) (found ∙ ap (λ same. cond same (Some after) (lookup (bytes_eq key) mid)) e)
        ∙ more label ∙ ap (λ b. b && holds_for need.test label) (taken label ∙ ap (λ k. meets_at old k label) ((bytes_eq-Decides need.key key).0 e))
    by false e =
        ap (λ o. meets_by o label) (found ∙ ap (λ same. cond same (Some after) (lookup (bytes_eq key) mid)) e ∙ others key e) ∙ and-true (meets_at old key label)
