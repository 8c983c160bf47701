-- Sums of namespaces and limits of quotas, computed. Each expected value is worked out by hand.
--     tree      acme over team over app, and ops by itself
--     ring      a and b name each other, and c lies under b
use Rattle.std.proofs.Common.{◌≡◌, ℕ, List, [], ◌∷◌, codes, replicate, Option, None, Some, refl}
use Rattle.hx_object.specs.declared.object.Limit.{Limit}
use Rattle.hx_model.specs.Charges.{resource_named}
use Rattle.hx_model.specs.declared.resource.Resource.TheVariants.{Pods, RequestsCpu, CountClaims}
use Rattle.hx_quota.specs.declared.entry.Delta.{Delta}
use Rattle.hx_quota.specs.Counters.{Entry}
use Rattle.hx_quota.specs.declared.limiting.QuotaRow.{QuotaRow}
use Rattle.hx_quota.specs.Counters.{Entries, own_in, used_in, total_of, with_entry, new_entry, without_entry, with_parent, with_shifted}
use Rattle.hx_quota.specs.Limiting.{first_over}

abbrev acme : List ℕ
acme = codes "acme"

abbrev app : List ℕ
app = codes "app"

abbrev ops : List ℕ
ops = codes "ops"

abbrev team : List ℕ
team = codes "team"

-- a namespace with so much of the first two resources
abbrev entry : List ℕ → Option (List ℕ) → ℕ → ℕ → List ℕ × Entry
entry name parent pods cpu = (name, record { parent = parent; own = pods ∷ cpu ∷ replicate 13 0 })

abbrev tree : Entries
tree = entry acme None 1000 5 ∷ entry app (Some team) 3000 70 ∷ entry ops None 4000 0 ∷ entry team (Some acme) 2000 600 ∷ []

-- ---- sums

used_top : used_in tree acme Pods ≡ 6000
used_top = refl

used_middle : used_in tree team RequestsCpu ≡ 670
used_middle = refl

used_leaf : used_in tree app Pods ≡ 3000
used_leaf = refl

used_alone : used_in tree ops Pods ≡ 4000
used_alone = refl

used_nowhere : used_in tree (codes "gone") Pods ≡ 0
used_nowhere = refl

used_of_another : used_in tree acme CountClaims ≡ 0
used_of_another = refl

total : total_of tree Pods ≡ 10000
total = refl

-- each of a ring has what all have, and one below it has its own
abbrev ring : Entries
ring = entry (codes "a") (Some (codes "b")) 1 0 ∷ entry (codes "b") (Some (codes "a")) 20 0 ∷ entry (codes "c") (Some (codes "b")) 300 0 ∷ []

used_in_ring : used_in ring (codes "a") Pods ≡ 321
used_in_ring = refl

used_beside_ring : used_in ring (codes "b") Pods ≡ 321
used_beside_ring = refl

used_below_ring : used_in ring (codes "c") Pods ≡ 300
used_below_ring = refl

-- ---- changes

added : with_entry (codes "b") new_entry (entry (codes "a") None 1 2 ∷ entry (codes "c") None 3 4 ∷ []) ≡ entry (codes "a") None 1 2 ∷ entry (codes "b") None 0 0 ∷ entry (codes "c") None 3 4 ∷ []
added = refl

removed : without_entry (codes "b") (entry (codes "a") None 1 2 ∷ entry (codes "b") None 0 0 ∷ []) ≡ entry (codes "a") None 1 2 ∷ []
removed = refl

-- what is moved is used where it was no more
moved_from : used_in (with_parent team (Some ops) tree) acme Pods ≡ 1000
moved_from = refl

moved_to : used_in (with_parent team (Some ops) tree) ops Pods ≡ 9000
moved_to = refl

abbrev deltas : List Delta
deltas = record { resource = RequestsCpu; old = 70; new = 7 } ∷ record { resource = Pods; old = 1000; new = 2000 } ∷ []

shifted_own : own_in (with_shifted (app ∷ team ∷ acme ∷ []) deltas tree) app Pods ≡ 4000
shifted_own = refl

shifted_above : used_in (with_shifted (app ∷ team ∷ acme ∷ []) deltas tree) acme RequestsCpu ≡ 612
shifted_above = refl

shifted_beside : own_in (with_shifted (app ∷ team ∷ acme ∷ []) deltas tree) team Pods ≡ 2000
shifted_beside = refl

-- ---- limits

abbrev limit : List ℕ → ℕ → Limit
limit resource amount = record { resource = resource; written = []; amount = amount }

abbrev quota : List ℕ → List Limit → QuotaRow
quota ns hard = record { ns = ns; name = codes "q"; hard = hard }

-- just within
within : first_over tree (quota team (limit (codes "pods") 6000 ∷ []) ∷ quota acme (limit (codes "pods") 7000 ∷ []) ∷ []) deltas ≡ None
unfolding resource_named
within = refl

-- not within the second one
over_above : first_over tree (quota team (limit (codes "pods") 6000 ∷ []) ∷ quota acme (limit (codes "cpu") 0 ∷ limit (codes "pods") 6999 ∷ []) ∷ []) deltas ≡ Some (record { at = 1; limit = 1; used = 6000; asked = 1000; hard = 6999 })
unfolding resource_named
over_above = refl

-- the first one that isn't
over_first : first_over tree (quota team (limit (codes "pods") 1 ∷ []) ∷ quota acme (limit (codes "pods") 1 ∷ []) ∷ []) deltas ≡ Some (record { at = 0; limit = 0; used = 5000; asked = 1000; hard = 1 })
unfolding resource_named
over_first = refl

-- a name that stands for no resource limits nothing
unknown : first_over tree (quota acme (limit (codes "pods.example") 0 ∷ []) ∷ []) deltas ≡ None
unfolding resource_named
unknown = refl

-- nor does a limit of what isn't raised
lowered : first_over tree (quota acme (limit (codes "requests.cpu") 0 ∷ limit (codes "count/pods") 0 ∷ []) ∷ []) deltas ≡ None
unfolding resource_named
lowered = refl
