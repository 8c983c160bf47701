-- What a walk down from a namespace n finds, each time from a parent to its child.
--     way f n above m                   the chain of m once that of n goes on with these, where m is below n
--     live_at live q, links_at links q  what is known of a name
--     IsFoundBy f n m at x              that is what is known of the parent of m, which isn't n
--     AreLive f n live                  it is known of names below n whether all from one up to n are eligible
--     AreLinks objects kinds f n above links   which of the way of each send something
use Rattle.std.specs.Prelude.{◌≡◌, ℕ, Bool, true, false, List, ◌∷◌, ◌++◌, Option, Some, option_map}
use Rattle.std.specs.List.{list_all}
use Rattle.std.specs.Map.{lookup}
use Rattle.std.specs.Str.{bytes_eq}
use Rattle.hx_object.specs.declared.kind.Kind.{Kind}
use Rattle.hx_model.specs.Forest.{Forest, parent_of, chain_of, in_chain}
use Rattle.hx_model.specs.Moves.{up_to, is_eligible}
use Rattle.hx_model.specs.State.{Objects}
use Rattle.hx_marks.specs.Senders.{senders_of}
use Rattle.hx_marks.specs.declared.links.Links.{Links}
use Rattle.hx_marks.specs.declared.live.Live.{Live}

-- the chain of m once that of n goes on with these, where m is below n
abbrev pub way : Forest → List ℕ → List (List ℕ) → List ℕ → List (List ℕ)
way f n above m = up_to n (chain_of f m) ++ n ∷ above

-- that is what is known of the parent of m, which isn't n
abbrev pub IsFoundBy : {X : Type 0} → Forest → List ℕ → List ℕ → (List ℕ → Option X) → X → Type 0
IsFoundBy f n m at x = (p : List ℕ) × ((bytes_eq m n ≡ false) × ((parent_of f m ≡ Some p) × (at p ≡ Some x)))

-- ---- who takes part

-- what is known of a name
abbrev pub live_at : Live → List ℕ → Option Bool
live_at live q = lookup (bytes_eq q) live.known.entries

-- it is below n, and this is whether all from it up to n are eligible
abbrev pub IsLiveAt : Forest → List ℕ → List ℕ → Bool → Type 0
IsLiveAt f n q b = (in_chain f q n ≡ true) × (b ≡ list_all (is_eligible f) (up_to n (chain_of f q)))

abbrev pub AreLive : Forest → List ℕ → Live → Type 0
AreLive f n live = (q : List ℕ) (b : Bool) → live_at live q ≡ Some b → IsLiveAt f n q b

-- ---- who sends something

-- what is known of a name
abbrev pub links_at : Links → List ℕ → Option (List (List ℕ))
links_at links q = option_map (λ v. v.items) (lookup (bytes_eq q) links.known.entries)

-- it is below n, and these of its way send something
abbrev pub IsLinkAt : Objects → List Kind → Forest → List ℕ → List (List ℕ) → List ℕ → List (List ℕ) → Type 0
IsLinkAt objects kinds f n above q senders = (in_chain f q n ≡ true) × (senders ≡ senders_of objects kinds (way f n above q))

abbrev pub AreLinks : Objects → List Kind → Forest → List ℕ → List (List ℕ) → Links → Type 0
AreLinks objects kinds f n above links = (q : List ℕ) (senders : List (List ℕ)) → links_at links q ≡ Some senders → IsLinkAt objects kinds f n above q senders
