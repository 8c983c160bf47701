use Rattle.std.proofs.Common.{◌≡◌, ◌++◌, ℕ, List, not, filter, drop}
use Rattle.std.specs.Str.{bytes_eq}
use Rattle.hx_forest.proofs.descents.push_others.Given as goal

-- the names so far, and the others of the children that are left
abbrev pub invariant-loop-child : goal.invariant-loop-child
invariant-loop-child l =
    let test = λ (m : List ℕ). not (bytes_eq m l.top) in
    l.names.items ++ filter test (drop l.child-index l.children) ≡ l.initial.names.items ++ filter test l.children
