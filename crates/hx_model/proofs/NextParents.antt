-- The parent of a namespace in the tree of the next state.
--     put_tells, cut_tells     it is the one that the rules look at
use Rattle.std.proofs.Common.{◌≡◌, ℕ, Bool, true, false, Option, Some, None, List, [], ◌∷◌, refl, sym, ap, ◌∙◌}
use Rattle.std.specs.Prelude.{is_some, option_and_then, if◌then◌else◌}
use Rattle.std.specs.List.{AllByRecursion}
use Rattle.std.specs.Option.{option_map_or}
use Rattle.std.specs.Str.{bytes_eq}
use Rattle.hx_object.specs.declared.object.Id.{Id}
use Rattle.hx_object.specs.declared.object.Object.{Object}
use Rattle.hx_model.specs.First.{or_else}
use Rattle.hx_model.specs.Forest.{is_there, parent_of, with_parent}
use Rattle.hx_model.specs.Limits.{is_hierarchy}
use Rattle.hx_model.specs.Parents.{PutTellsParent, CutTellsParent}
use Rattle.hx_model.specs.Serving.{IsServed}
use Rattle.hx_model.specs.State.{State, Objects, home_in}
use Rattle.hx_model.specs.Tree.{hierarchy, subnamespace_parent, named_parent, forest_of}
use Rattle.hx_model.specs.Valid.{IsStored, IsValid}
use Rattle.hx_model.proofs.Moving.{moved_parent}
use Rattle.hx_model.proofs.Planting.{there-objects, home_of_hierarchy, forest-put_moves, forest-cut_moves}
use Rattle.hx_model.proofs.Walking.{no_parent}

served : (last : ℕ) (objects : Objects) → AllByRecursion (IsStored last) objects → AllByRecursion IsServed objects
served last [] h = tt
served last (x ∷ objects) h = (h.0.served, served last objects h.1)

-- the namespace is there where the tree has it
there : (s : State) (id : Id) → IsValid s → is_hierarchy id.kind ≡ true → is_there (forest_of s) id.ns ≡ is_some (home_in s.objects id)
there s id valid is = there-objects s.config.excluded s.objects id.ns (served s.last s.objects valid.stored) ∙ ap is_some (sym (home_of_hierarchy s.objects id is))

-- the parent in the tree that the write leaves
after : (s : State) (id : Id) (parent : Option (List ℕ)) (b : Bool) (home : Option Object) → is_there (forest_of s) id.ns ≡ is_some home
    → parent_of (if b then option_map_or (λ h. with_parent id.ns (or_else (subnamespace_parent h) parent) (forest_of s)) home (forest_of s) else forest_of s) id.ns
    ≡ (if b then option_and_then (λ h. or_else (subnamespace_parent h) parent) home else parent_of (forest_of s) id.ns)
after s id parent false home is_there_so = refl
after s id parent true None is_there_so = no_parent (forest_of s) id.ns is_there_so
after s id parent true (Some h) is_there_so = moved_parent (forest_of s) id.ns (or_else (subnamespace_parent h) parent) is_there_so

pub put_tells : PutTellsParent
put_tells s x old skip valid is =
    ap (λ f. parent_of f x.id.ns) (forest-put_moves s.config.excluded s.objects x.id is valid.in_order (served s.last s.objects valid.stored) x (named_parent x) refl refl)
    ∙ after s x.id (named_parent x) (bytes_eq x.id.name hierarchy) (home_in s.objects x.id) (there s x.id valid is)

pub cut_tells : CutTellsParent
cut_tells s id old skip valid is =
    ap (λ f. parent_of f id.ns) (forest-cut_moves s.config.excluded s.objects id is valid.in_order (served s.last s.objects valid.stored))
    ∙ after s id None (bytes_eq id.name hierarchy) (home_in s.objects id) (there s id valid is)
