-- Children by the names of their parents.
--     list_at c at p       the list of a name p that lies at an index among the nodes, or at none
--     others_of c          the list of a name without a namespace
--     Lists, lists_of      a list for each name;  those of children, where each name lies as in the nodes
--     names_in             the names in a list that may not be there
--     IsTied nodes c       there are as many lists as nodes, and each of the others is that of a name without a namespace, and isn't empty
--     IsIndex nodes c f    that, and each name has the list of its children
--     IsTaken              a list is that of a name, or an empty one
--     HasEntered, HasLeft  a list has come at the end for a namespace;  one is gone, with the last one in its place
--     HasList              one list has become that of the names that a test takes, and the others stay
--     Fits k list          where there are names, k more fit without taking memory
use Rattle.std.specs.Prelude.{◌≡◌, ℕ, ◌≤◌, ◌==◌, ◌++◌, ◌&&◌, not, cond, Bool, false, List, [], ◌∷◌, length, Option, Some, None, slice_get, swap_remove, IfSome}
use Rattle.std.specs.Option.{option_map_or}
use Rattle.std.specs.Map.{lookup}
use Rattle.std.specs.Str.{bytes_eq}
use Rattle.hx_model.specs.Forest.{Forest, children_of, is_in}
use Rattle.hx_forest.specs.declared.children.Children.{Children}
use Rattle.hx_forest.specs.declared.nodes.Nodes.{Nodes}
use Rattle.hx_forest.specs.Names.{IsAscending, NamesView}
use Rattle.hx_forest.specs.ParentRefs.{index_at}

-- a list for each name, where it has one
abbrev pub Lists : Type 0
Lists = List ℕ → Option NamesView

-- that of a name without a namespace
abbrev pub others_of : Children → Lists
others_of c p = lookup (bytes_eq p) c.others.entries

-- that of a name that lies at an index, or at none
abbrev pub list_at : Children → Option ℕ → Lists
list_at c None p = others_of c p
list_at c (Some i) p = slice_get c.lists.items i

-- each name lies as in the nodes
abbrev pub lists_of : Nodes → Children → Lists
lists_of nodes c p = list_at c (index_at nodes (Some p)) p

-- the names in a list
abbrev pub names_in : Option NamesView → List (List ℕ)
names_in list = option_map_or (λ n. n.names) list []

-- there are as many lists as nodes, and each of the others is that of a name without a namespace, and isn't empty
pub record IsTied (nodes : Nodes) (c : Children) : Type 0 where
  pub as_many : length c.lists.items ≡ length nodes.places.entries
  pub apart : (q : List ℕ) (l : NamesView) → others_of c q ≡ Some l → (index_at nodes (Some q) ≡ None) × ((length l.names == 0) ≡ false)

-- and each name has the list of its children
pub record IsIndex (nodes : Nodes) (c : Children) (f : Forest) : Type 0 where
  pub tied : IsTied nodes c
  pub each : (p : List ℕ) → names_in (lists_of nodes c p) ≡ children_of f p

-- a list is that of a name, or an empty one where it has none
abbrev pub IsTaken : Option NamesView → NamesView → Type 0
IsTaken None list = list.names ≡ []
IsTaken (Some names) list = list ≡ names

-- a list has come at the end for a namespace: that of its name, or an empty one
pub record HasEntered (old new : Children) (name : List ℕ) : Type 0 where
  pub list : NamesView
  pub is : IsTaken (others_of old name) list
  pub lists : new.lists.items ≡ old.lists.items ++ list ∷ []
  pub others : (q : List ℕ) → others_of new q ≡ cond (bytes_eq name q) None (others_of old q)

-- the list at an index is gone, with the last one in its place, and is that of the name where it isn't empty
pub record HasLeft (old new : Children) (at : ℕ) (name : List ℕ) : Type 0 where
  pub list : NamesView
  pub is : slice_get old.lists.items at ≡ Some list
  pub lists : new.lists.items ≡ swap_remove old.lists.items at list
  pub others : (q : List ℕ) → others_of new q ≡ cond (not (length list.names == 0) && bytes_eq name q) (Some list) (others_of old q)

-- the list of p has become that of the names that the test takes, and the others stay
pub record HasList (old new : Lists) (p : List ℕ) (test : List ℕ → Bool) : Type 0 where
  pub others : (q : List ℕ) → bytes_eq p q ≡ false → new q ≡ old q
  pub order : IsAscending (names_in (new p))
  pub members : (q : List ℕ) → is_in q (names_in (new p)) ≡ test q

-- where there are names, so many more fit without taking memory
abbrev pub Fits : ℕ → Option NamesView → Type 0
Fits k list = IfSome list (λ n. (length n.names == 0) ≡ false → k ≤ n.spare)
