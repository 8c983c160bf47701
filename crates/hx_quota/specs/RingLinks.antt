-- Links that close rings, apart from all others: without them each walk up the parents ends.
--     or_ring            a link that closes a ring, where there is one, and else another one
--     with_rings         entries with those links
--     AreRings           each leads from a namespace without a parent to one below it
--     IsRingTop          the namespace whose link closes the ring that one is in, where it is in one
use Rattle.std.specs.Prelude.{◌≡◌, ℕ, true, List, map, Option, Some, None}
use Rattle.hx_model.specs.Forest.{Forest, parent_of, in_chain}
use Rattle.hx_quota.specs.Counters.{Entries}
use Rattle.hx_quota.specs.PlaceRows.{Links, ring_in}

-- a link that closes a ring, where there is one, and else another one
abbrev pub or_ring : Option (List ℕ) → Option (List ℕ) → Option (List ℕ)
or_ring None parent = parent
or_ring (Some p) parent = Some p

-- entries with the links that close rings
abbrev pub with_rings : Links → Entries → Entries
with_rings rings es = map (λ e. (e.0, record (e.1) { parent = or_ring (ring_in rings e.0) e.1.parent })) es

-- each link that closes a ring leads from a namespace without a parent to one below it
abbrev pub AreRings : (List ℕ → Option (List ℕ)) → Forest → Type 0
AreRings ring f = (n p : List ℕ) → ring n ≡ Some p → (parent_of f n ≡ None) × (in_chain f p n ≡ true)

-- n is in none of the rings, or in that which the link of a namespace above it closes
abbrev pub IsRingTop : (List ℕ → Option (List ℕ)) → Forest → List ℕ → Option (List ℕ) → Type 0
IsRingTop ring f n None = (t p : List ℕ) → in_chain f n t ≡ true → ring t ≡ Some p → in_chain f p n ≡ true → ⊥
IsRingTop ring f n (Some t) = (p : List ℕ) × (in_chain f n t ≡ true) × (ring t ≡ Some p) × (in_chain f p n ≡ true)
