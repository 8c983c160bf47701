use Rattle.std.proofs.Common.{◌≡◌, ◌++◌, drop}
use Rattle.std.specs.Prelude.{flat_map}
use Rattle.hx_marks.specs.Law.{all_of}
use Rattle.hx_marks.specs.Links.{way}
use Rattle.hx_marks.proofs.links.all_by_links.Given as goal

-- the marks so far, and those of the rest
abbrev pub invariant-loop-member : goal.invariant-loop-member
invariant-loop-member l = l.keys.items ++ flat_map (λ m. all_of l.current.store.now.objects (way l.current.forest.now.nodes l.top l.above m) m) (drop l.member-index l.members) ≡ l.initial.keys.items ++ flat_map (λ m. all_of l.current.store.now.objects (way l.current.forest.now.nodes l.top l.above m) m) l.members
