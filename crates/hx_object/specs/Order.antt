-- The order of identities: by kind number, then namespace, then name, texts by their bytes.
use Rattle.std.specs.declared.cmp.Ordering.{Ordering}
use Rattle.std.specs.Ordering.{nat_cmp, ordering_then}
use Rattle.hx_object.specs.Kinds.{number_of}
use Rattle.hx_object.specs.Texts.{bytes_cmp}
use Rattle.hx_object.specs.declared.object.Id.{Id}

-- the kinds decide, then the namespaces, then the names
abbrev pub id_cmp : Id → Id → Ordering
id_cmp a b = ordering_then (nat_cmp (number_of a.kind) (number_of b.kind)) (ordering_then (bytes_cmp a.ns b.ns) (bytes_cmp a.name b.name))
