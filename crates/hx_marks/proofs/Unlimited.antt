-- Where there are no quotas, a write marks none.
use Rattle.std.proofs.Common.{◌≡◌, ℕ, Bool, true, false, cond, Option, List, [], map, filter, refl, ap, ◌∙◌}
use Rattle.hx_object.specs.declared.object.Object.{Object}
use Rattle.hx_model.specs.Forest.{chain_of}
use Rattle.hx_model.specs.Quotas.{quotas_in}
use Rattle.hx_model.specs.State.{Objects, State}
use Rattle.hx_model.specs.Tree.{forest_of}
use Rattle.hx_model.specs.declared.key.Key.{Key}
use Rattle.hx_store.proofs.Listing.{flat_none}
use Rattle.hx_marks.specs.Usage.{charged_usage, counts_change, is_charged_anew, usage_key, usage_keys, usage_of}

pub none_used : (objects : Objects) → ((ns : List ℕ) → quotas_in objects ns ≡ []) → (names : List (List ℕ)) → usage_of objects names ≡ []
none_used objects none names = flat_none (usage_keys objects) (λ n. ap (map usage_key) (none n)) names

pub none_charged : (s : State) (n : List ℕ) (old new : Option Object) → ((ns : List ℕ) → quotas_in s.objects ns ≡ []) → charged_usage s n old new ≡ []
none_charged s n old new none =
    (λ i. cond (is_charged_anew old new) (map usage_key (filter (counts_change old new) (flat_none (quotas_in s.objects) none (chain_of (forest_of s) n) i))) []) ∙ either (is_charged_anew old new)
  where
    either : (b : Bool) → cond {A = List Key} b [] [] ≡ []
    either true = refl
    either false = refl
