-- How things are found in order, and walks up the tree by indices.
--     side_of sought id          how an identity lies to what is sought: before it, among it, or behind it
--     fits sought x              an object is sought
--     first_listed               the first object of a kind in a namespace
--     has_name n entry           what lies at a place has a name
--     place_of f n               where a namespace lies in the tree
--     place_at f next            where one lies whose name may be none
--     name_at f at               the name at an index that may be none
--     node_at f at               the node there
--     ups_of f                   for each namespace where its parent lies, if that is there
--     halts_of f                 for each namespace the reason of halting that it has by itself
--     up_at, halt_at             such an entry
--     walk_at test left ups at   whether a walk up from an index, of so many steps, passes an index that the test takes
--     marks built f              for each namespace whether a list has its name
--     names_parent n node        a node has a name as its parent
--     halt_under, halt_by        the reason of halting by the node of a parent
--     charge_of_all, charge_in   what some objects are charged;  and what those in a namespace are
--     Ascends f                  the names of the tree ascend
--     IsTree f ups halts         so they do, and what is noted is so
use Rattle.std.specs.Prelude.{◌≡◌, ℕ, zero, suc, Bool, false, ◌||◌, cond, List, [], ◌∷◌, filter, find, map, sum_by, Option, Some, None, option_map, option_and_then, is_none, slice_get, slice_index_or, if◌then◌else◌}
use Rattle.std.specs.List.Sorted.{IsStrictlySortedBy}
use Rattle.std.specs.Option.{option_map_or}
use Rattle.std.specs.Ordering.{nat_cmp, ordering_then}
use Rattle.std.specs.Str.{bytes_eq}
use Rattle.std.specs.declared.cmp.Ordering.{Ordering}
use Rattle.hx_object.specs.Kinds.{number_of}
use Rattle.hx_object.specs.Order.{id_cmp}
use Rattle.hx_object.specs.Texts.{bytes_cmp}
use Rattle.hx_object.specs.declared.kind.Kind.{Kind}
use Rattle.hx_object.specs.declared.object.Id.{Id}
use Rattle.hx_object.specs.declared.object.Object.{Object}
use Rattle.hx_model.specs.Charges.{charge_of, kind_for}
use Rattle.hx_model.specs.Forest.{Forest, is_in, own_halt_of}
use Rattle.hx_model.specs.State.{Objects, is_listed, same_id}
use Rattle.hx_model.specs.declared.node.Halt.{Halt}
use Rattle.hx_model.specs.declared.node.Halt.TheVariants.{ParentMissing, IllegalParent}
use Rattle.hx_model.specs.declared.node.Node.{Node}
use Rattle.hx_model.specs.declared.resource.Resource.{Resource}
use Rattle.hx_survey.specs.declared.search.Sought.{Sought}
use Rattle.hx_survey.specs.declared.search.Sought.TheVariants.{OfKind, InNamespace, Named}

-- ---- what is sought

-- how the kind and the namespace of an identity lie to others
abbrev pub home_cmp : Id → Kind → List ℕ → Ordering
home_cmp id kind ns = ordering_then (nat_cmp (number_of id.kind) (number_of kind)) (bytes_cmp id.ns ns)

-- before it, among it, or behind it
abbrev pub side_of : Sought → Id → Ordering
side_of (OfKind kind) id = nat_cmp (number_of id.kind) (number_of kind)
side_of (InNamespace kind ns) id = home_cmp id kind ns.now
side_of (Named kind ns name) id = id_cmp id (record { kind = kind; ns = ns.now; name = name.now })

-- an object is sought
abbrev pub fits : Sought → Object → Bool
fits (OfKind kind) x = is_listed kind None x
fits (InNamespace kind ns) x = is_listed kind (Some ns.now) x
fits (Named kind ns name) x = same_id (record { kind = kind; ns = ns.now; name = name.now }) x.id

-- the first object of a kind in a namespace
abbrev pub first_listed : Objects → List ℕ → Kind → Option Object
first_listed objects n kind = find (is_listed kind (Some n)) objects

-- ---- places in the tree

-- what lies at a place has the name
abbrev pub has_name : List ℕ → Option (List ℕ × Node) → Bool
has_name n entry = option_map_or (λ e. bytes_eq n e.0) entry false

-- where a namespace lies
abbrev pub place_of : Forest → List ℕ → Option ℕ
place_of [] n = None
place_of (e ∷ f) n = cond (bytes_eq n e.0) (Some 0) (option_map (λ i. suc i) (place_of f n))

-- where one lies whose name may be none
abbrev pub place_at : Forest → Option (List ℕ) → Option ℕ
place_at f next = option_and_then (place_of f) next

-- the name at an index that may be none
abbrev pub name_at : Forest → Option ℕ → Option (List ℕ)
name_at f at = option_map (λ e. e.0) (option_and_then (slice_get f) at)

-- the node at such an index
abbrev pub node_at : Forest → Option ℕ → Option Node
node_at f at = option_map (λ e. e.1) (option_and_then (slice_get f) at)

-- where the parent of each namespace lies
abbrev pub ups_of : Forest → List (Option ℕ)
ups_of f = map (λ e. place_at f (e.1).parent) f

-- the reason that each has by itself
abbrev pub halts_of : Forest → List (Option Halt)
halts_of f = map (λ e. own_halt_of f e.0) f

-- where the parent of the one at an index lies
abbrev pub up_at : List (Option ℕ) → ℕ → Option ℕ
up_at ups at = slice_index_or ups at None

-- the reason that the one at an index has by itself
abbrev pub halt_at : List (Option Halt) → ℕ → Option Halt
halt_at halts at = slice_index_or halts at None

-- whether a walk up, of so many steps, passes an index that the test takes
abbrev pub walk_at : (ℕ → Bool) → ℕ → List (Option ℕ) → Option ℕ → Bool
walk_at test zero ups at = false
walk_at test (suc left) ups None = false
walk_at test (suc left) ups (Some i) = test i || walk_at test left ups (up_at ups i)

-- ---- lists by the nodes

-- for each node whether a list has its name
abbrev pub marks : List (List ℕ) → Forest → List Bool
marks built f = map (λ e. is_in e.0 built) f

-- a node has this name as its parent
abbrev pub names_parent : List ℕ → Node → Bool
names_parent n node = option_map_or (bytes_eq n) node.parent false

-- ---- reasons of halting

-- the reason that a namespace has by the node of its parent
abbrev pub halt_under : Option Node → Option Halt
halt_under None = Some ParentMissing
halt_under (Some above) = if above.terminating then Some ParentMissing else if above.excluded then Some IllegalParent else None

-- the same of a node, which may have no parent
abbrev pub halt_by : Option Node → Option Node → Option Halt
halt_by None above = None
halt_by (Some node) above = if is_none node.parent then None else halt_under above

-- ---- charges

-- what some objects are charged
abbrev pub charge_of_all : Objects → Resource → ℕ
charge_of_all objects r = sum_by (λ (x : Object). charge_of x r) objects

-- what those in a namespace are charged
abbrev pub charge_in : Objects → Resource → List ℕ → ℕ
charge_in objects r n = charge_of_all (filter (is_listed (kind_for r) (Some n)) objects) r

-- ---- what is kept

-- each name is less than those behind it
abbrev pub Ascends : Forest → Type 0
Ascends f = IsStrictlySortedBy (λ a b. bytes_cmp a.0 b.0) f

-- the names ascend, and what is noted is so
pub record IsTree (f : Forest) (ups : List (Option ℕ)) (halts : List (Option Halt)) : Type 0 where
  pub order : Ascends f
  pub ups_are : ups ≡ ups_of f
  pub halts_are : halts ≡ halts_of f
