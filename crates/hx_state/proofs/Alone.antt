-- One write by itself.
--     alone_distinct, alone_apart, alone_naming      it touches no other, and changes at most one name
use Rattle.std.proofs.Common.{◌≡◌, ◌≤◌, Bool, true, false, cond, ◌&&◌, [], ◌∷◌, filter, length, refl, arith}
use Rattle.std.specs.List.{IsDistinct}
use Rattle.std.specs.Str.{bytes_eq}
use Rattle.hx_object.specs.declared.kind.Kind.{Kind}
use Rattle.hx_object.specs.declared.kind.Kind.TheVariants.{Namespace}
use Rattle.hx_object.specs.declared.object.Id.{Id}
use Rattle.hx_model.specs.Limits.{is_namespace, is_hierarchy}
use Rattle.hx_model.specs.State.{Objects, same_id}
use Rattle.hx_model.specs.Writes.{AreApart, changes_names}
use Rattle.hx_model.specs.declared.key.Write.{Write}

-- it touches no other
pub alone_distinct : (id : Id) → IsDistinct same_id (id ∷ [])
unfolding IsDistinct
alone_distinct id = (tt, tt)

-- no identity is both of a namespace and of a HierarchyConfiguration
unjoined : (kind : Kind) (b : Bool) → (is_namespace kind && is_hierarchy kind && b) ≡ false
unjoined Namespace b = refl
unjoined _ b = refl

pub alone_apart : (id : Id) → AreApart (id ∷ [])
alone_apart id = ((unjoined id.kind (bytes_eq id.name id.ns), tt), tt)

-- and changes at most one name
pub alone_naming : (objects : Objects) (w : Write) → length (filter (changes_names objects) (w ∷ [])) ≤ 1
alone_naming objects w = by (changes_names objects w)
  where
    by : (b : Bool) → length (cond b (w ∷ []) []) ≤ 1
    by true = omega arith
    by false = omega arith
