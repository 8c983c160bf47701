-- What is looked up by name in all namespaces: sources, which copies are made of, and anchors.
--     is_source_of kind name x   a source of the kind and the name
--     is_anchor_of name x        an anchor of the name
--     is_indexed x               a source or an anchor
--     is_indexed_of kind name x  a source of the kind and the name, or an anchor of both
--     indexed_in found           the source or the anchor among what is found
--     HasNoneBeside objects kind name ns   no source and no anchor of the kind and the name lies in another namespace
use Rattle.std.specs.Prelude.{◌≡◌, ℕ, Bool, false, cond, ◌&&◌, ◌||◌, ◌==◌, List, Option, Some, None}
use Rattle.std.specs.Str.{bytes_eq}
use Rattle.hx_object.specs.Kinds.{number_of, is_anchor, can_be_copied}
use Rattle.hx_object.specs.declared.kind.Kind.{Kind}
use Rattle.hx_object.specs.declared.object.Object.{Object}
use Rattle.hx_model.specs.State.{Objects, object_at}
pub use Rattle.hx_model.specs.Propagation.{is_source}

-- a source of the kind and the name
abbrev pub is_source_of : Kind → List ℕ → Object → Bool
is_source_of kind name x = (number_of kind == number_of x.id.kind) && bytes_eq x.id.name name && is_source x

-- an anchor of the name
abbrev pub is_anchor_of : List ℕ → Object → Bool
is_anchor_of name x = is_anchor x.id.kind && bytes_eq name x.id.name

-- a source or an anchor
abbrev pub is_indexed : Object → Bool
is_indexed x = is_source x || is_anchor x.id.kind

-- a source or an anchor, of the kind and the name
abbrev pub is_indexed_of : Kind → List ℕ → Object → Bool
is_indexed_of kind name x = (number_of kind == number_of x.id.kind) && bytes_eq x.id.name name && is_indexed x

-- some objects of the kind are sources or anchors
abbrev pub may_be_indexed : Kind → Bool
may_be_indexed kind = can_be_copied kind || is_anchor kind

-- what is found, if it is a source or an anchor
abbrev pub indexed_in : Option Object → Option Object
indexed_in None = None
indexed_in (Some x) = cond (is_indexed x) (Some x) None

-- no source and no anchor of the kind and the name lies in another namespace
abbrev pub HasNoneBeside : Objects → Kind → List ℕ → List ℕ → Type 0
HasNoneBeside objects kind name ns = (m : List ℕ) → bytes_eq ns m ≡ false → indexed_in (object_at objects (record { kind = kind; ns = m; name = name })) ≡ None
