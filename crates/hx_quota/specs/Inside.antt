-- Places by the names of their namespaces, as they are kept.
--     entries_from          the entries in order, of entries in any order
--     entries_in, ordered   the entries of places, and those in order
--     entries_of            those of a ledger, with the links that close rings
--     OwnFit                what a namespace has by itself fits
--     MayShift              deltas may be made one after the other
--     adjusted              a sum of which something is taken and to which something is added
--     MayAdjust             it may be
--     IsAdjusted            a place has sums that are adjusted, where a test holds
--     taken_by, given_by    what deltas take off sums, and what they add
--     Replaces              sums after a change are those before it, less what is taken and with what is added
--     HasShifted            the own sums of a place are shifted
--     SameSums              a place was there with the same sums
--     ends_by, ends_up      a walk up the parents ends at a namespace without one
--     AllEnd                all walks do
--     AreClosed             all parents are there
--     IsFree                a namespace isn't in the chain of a parent
--     HasUsage              the sums of places are those of subtrees, where a walk up ends
--     IsOpen                they are, and all walks up end
--     IsParted              a namespace has no parent, and no link that closes a ring
--     IsKept                that, without the links that close rings, and there are none unless it is noted that there may be
use Rattle.std.specs.Prelude.{◌≡◌, ℕ, zero, suc, ◌+◌, ◌-◌, ◌<◌, ◌≤◌, ◌^◌, Bool, true, false, ◌&&◌, List, [], ◌∷◌, length, map, Option, Some, None, slice_index, slice_set, if◌then◌else◌}
use Rattle.std.specs.Option.{option_map_or}
use Rattle.std.specs.Str.{bytes_eq}
use Rattle.hx_model.specs.Forest.{Forest, is_there, parent_of, in_chain}
use Rattle.hx_model.specs.declared.resource.Resource.{Resource}
use Rattle.hx_forest.specs.Named.{values_from}
use Rattle.hx_quota.specs.declared.entry.Delta.{Delta}
use Rattle.hx_quota.specs.declared.places.Change.{Change}
use Rattle.hx_quota.specs.declared.ledger.Ledger.{Ledger}
pub use Rattle.hx_quota.specs.PlaceRows.{Place, Places, place_at, ring_in}
use Rattle.hx_quota.specs.Counters.{Entry, Entries, tree_of, place_of, used_in, shifted}
use Rattle.hx_quota.specs.RingLinks.{with_rings, AreRings}

-- the entries in order: of two with one name the first one counts
abbrev pub entries_from : List (List ℕ × Entry) → Entries
entries_from es = values_from es

-- the entries of places
abbrev pub entries_in : Places → List (List ℕ × Entry)
entries_in places = map (λ p. (p.0, p.1.entry)) places

-- those in order
abbrev pub ordered : Places → Entries
ordered places = entries_from (entries_in places)

-- those of a ledger, with the links that close rings
abbrev pub entries_of : Ledger → Entries
entries_of ledger = with_rings ledger.places.rings (ordered ledger.places.entries)

-- what a namespace has by itself fits
abbrev pub OwnFit : List ℕ → Type 0
OwnFit own = (r : Resource) → slice_index own (place_of r) < 2 ^ 128

-- deltas may be made one after the other: each finds what it replaces, and leaves what fits
abbrev pub MayShift : List Delta → List ℕ → Type 0
MayShift [] own = Unit {0}
MayShift (d ∷ deltas) own =
    (d.old ≤ slice_index own (place_of d.resource))
    × (slice_index own (place_of d.resource) - d.old + d.new < 2 ^ 128)
    × MayShift deltas (slice_set own (place_of d.resource) (slice_index own (place_of d.resource) - d.old + d.new))

-- ---- sums of subtrees

-- a sum of which something is taken and to which something is added
abbrev pub adjusted : List ℕ → List ℕ → List ℕ → ℕ → ℕ
adjusted take give sums k = slice_index sums k - slice_index take k + slice_index give k

-- there is what is taken, and room for what is added
abbrev pub MayAdjust : List ℕ → List ℕ → List ℕ → Type 0
MayAdjust take give sums = (k : ℕ) → k < 15 → (slice_index take k ≤ slice_index sums k) × (adjusted take give sums k < 2 ^ 128)

-- a place has the same entry, and adjusted sums where the test holds
abbrev pub IsAdjusted : List ℕ → List ℕ → Bool → Option Place → Option Place → Type 0
IsAdjusted take give test None new = new ≡ None
IsAdjusted take give test (Some p) new =
    (q : Place) × (new ≡ Some q) × (q.entry ≡ p.entry) × ((k : ℕ) → k < 15 → slice_index q.sums k ≡ (if test then adjusted take give p.sums k else slice_index p.sums k))

-- what deltas take off sums, and what they add, over what other deltas do
abbrev pub taken_by : List Delta → List ℕ → List ℕ
taken_by [] take = take
taken_by (d ∷ deltas) take = taken_by deltas (slice_set take (place_of d.resource) d.old)

abbrev pub given_by : List Delta → List ℕ → List ℕ
given_by [] give = give
given_by (d ∷ deltas) give = given_by deltas (slice_set give (place_of d.resource) d.new)

-- a sum after a change is that before it, less what is taken and with what is added
abbrev pub Replaces : List ℕ → List ℕ → List ℕ → List ℕ → ℕ → Type 0
Replaces take give before after k = (slice_index take k ≤ slice_index before k) × (slice_index after k + slice_index take k ≡ slice_index before k + slice_index give k)

-- the own sums of the place of n are shifted, and the change says by what
abbrev pub HasShifted : Places → Places → List ℕ → List Delta → Change → Type 0
HasShifted old new n deltas change =
    (p : Place) × (place_at old n ≡ Some p) × ((r : Resource) → Replaces change.take change.give p.entry.own (shifted deltas p.entry.own) (place_of r))
    × ((q : List ℕ) → place_at new q ≡ (if bytes_eq n q then Some (record p { entry = record (p.entry) { own = shifted deltas p.entry.own } }) else place_at old q))

-- a place was there with the same sums
abbrev pub SameSums : Option Place → Place → Type 0
SameSums old p = (q : Place) × (old ≡ Some q) × (p.sums ≡ q.sums)

-- a walk up from there ends at a namespace without a parent, in at most so many steps
abbrev pub ends_by : ℕ → Forest → Option (List ℕ) → Bool
ends_by left f None = true
ends_by zero f (Some n) = false
ends_by (suc left) f (Some n) = is_there f n && ends_by left f (parent_of f n)

-- the same of a name: no chain is longer than the forest
abbrev pub ends_up : Forest → List ℕ → Bool
ends_up f n = ends_by (length f) f (Some n)

-- each walk up does: none comes round
abbrev pub AllEnd : Forest → Type 0
AllEnd f = (n : List ℕ) → is_there f n ≡ true → ends_up f n ≡ true

-- all parents are there
abbrev pub AreClosed : Entries → Type 0
AreClosed es = (m q : List ℕ) → parent_of (tree_of es) m ≡ Some q → is_there (tree_of es) q ≡ true

-- n isn't in the chain of a parent
abbrev pub IsFree : Forest → List ℕ → Option (List ℕ) → Type 0
IsFree f n parent = option_map_or (λ p. in_chain f p n) parent false ≡ false

-- where the walk up from a place ends, its sums are those of its subtree
abbrev pub HasUsage : Places → Entries → Type 0
HasUsage places es = (n : List ℕ) (p : Place) → place_at places n ≡ Some p → ends_up (tree_of es) n ≡ true → (r : Resource) → slice_index p.sums (place_of r) ≡ used_in es n r

-- that, and all walks up end
pub record IsOpen (places : Places) : Type 0 where
  pub summed : HasUsage places (ordered places)
  pub ended : AllEnd (tree_of (ordered places))

-- that, without the links that close rings, and there are none unless it is noted that there may be
pub record IsKept (ledger : Ledger) : Type 0 where
  pub opened : IsOpen ledger.places.entries
  pub rings : AreRings (ring_in ledger.places.rings) (tree_of (ordered ledger.places.entries))
  pub none : ledger.circular ≡ false → (n : List ℕ) → ring_in ledger.places.rings n ≡ None

-- a namespace has no parent, and no link that closes a ring
pub record IsParted (ledger : Ledger) (n : List ℕ) : Type 0 where
  pub root : parent_of (tree_of (ordered ledger.places.entries)) n ≡ None
  pub free : ring_in ledger.places.rings n ≡ None
