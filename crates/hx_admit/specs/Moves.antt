-- What the look-up of a move's conflicts promises.
--     open_way f n above m   the chain of a namespace below n once what is above n is another chain, where all up to n are eligible
--     is_later n chain       the name is that of a later member of a chain
--     is_gone_to             what is found goes to the labels that a chain prescribes
--     CanMove                a namespace that is there may get that parent: no cycle comes of it
--     IsMovedBy              a write by which a namespace gets that parent
use Rattle.std.specs.Prelude.{◌≡◌, ℕ, Bool, true, false, List, [], ◌∷◌, ◌++◌, Option, option_and_then, IfSome, if◌then◌else◌}
use Rattle.std.specs.List.{list_all}
use Rattle.std.specs.Str.{bytes_eq}
use Rattle.hx_object.specs.declared.kind.Kind.{Kind}
use Rattle.hx_object.specs.declared.object.Id.{Id}
use Rattle.hx_object.specs.declared.object.Object.{Object}
use Rattle.hx_model.specs.Forest.{Forest, chain_of, in_chain, is_in, is_there, parent_of, tail_of}
use Rattle.hx_model.specs.Limits.{is_hierarchy}
use Rattle.hx_model.specs.Moves.{up_to, is_eligible, is_going, labels_in, mode_at}
use Rattle.hx_model.specs.Propagation.{id_in}
use Rattle.hx_model.specs.State.{State, Objects, object_at, namespace_id}
use Rattle.hx_model.specs.Tree.{hierarchy, parent_with, forest_of}
use Rattle.hx_model.specs.TreeLabels.{prescribed_labels}

-- up to n as before, and then what is above n, where all up to n are eligible
abbrev pub open_way : Forest → List ℕ → List (List ℕ) → List ℕ → List (List ℕ)
open_way f n above m = if list_all (is_eligible f) (up_to n (chain_of f m)) then up_to n (chain_of f m) ++ n ∷ above else []

-- the name is that of a later member
abbrev pub is_later : List ℕ → List (List ℕ) → Bool
is_later n chain = is_in n (tail_of chain)

-- the object of a kind and name in a namespace goes to the labels that a chain prescribes to its first member, n
abbrev pub is_gone_to : Objects → List ℕ → List (List ℕ) → Kind → List ℕ → List ℕ → Bool
is_gone_to objects n chain kind name a = is_going (mode_at objects kind) (prescribed_labels chain (labels_in objects n)) (object_at objects (id_in kind name a))

-- it is there, and isn't in the chain of the new parent
pub record CanMove (f : Forest) (n : List ℕ) (parent : Option (List ℕ)) : Type 0 where
  pub there : is_there f n ≡ true
  pub apart : IfSome parent (λ p. in_chain f p n ≡ false)

-- a HierarchyConfiguration of the namespace is written or removed, and then the namespace has that parent
pub record IsMovedBy (s : State) (n : List ℕ) (parent : Option (List ℕ)) (id : Id) (new : Option Object) : Type 0 where
  pub kind : is_hierarchy id.kind ≡ true
  pub home : id.ns ≡ n
  pub placed : IfSome new (λ x. x.id ≡ id)
  pub named : parent ≡ (if bytes_eq id.name hierarchy then option_and_then (parent_with new) (object_at s.objects (namespace_id n)) else parent_of (forest_of s) n)
