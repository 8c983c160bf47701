use Rattle.std.proofs.Common.{◌≡◌, ◌∙◌, sym, ap, subst, List, ℕ, not, ◌&&◌}
use Rattle.std.specs.List.{remove}
use Rattle.std.specs.Str.{bytes_eq}
use Rattle.hx_model.specs.Forest.{is_in}
use Rattle.hx_forest.specs.Names.{IsAscending}
use Rattle.hx_forest.proofs.Ascending.{rises, remove_ascends, remove_has, missed_has}
use Rattle.hx_forest.proofs.names.Names.remove.Goals as goal

pub invariant_of-self : goal.invariant_of-self
invariant_of-self c = subst IsAscending (sym c.remove-name.ensures.items) (remove_ascends c.self.inside.names.items c.in-Ok.at c.self.invariant)

pub returns-in-Ok-clause-order : goal.returns-in-Ok-clause-order
returns-in-Ok-clause-order c = invariant_of-self c

pub returns-in-Ok-clause-members : goal.returns-in-Ok-clause-members
returns-in-Ok-clause-members c = λ q.
    let xs = c.as_slice.result.now in
    let n = c.args.name.now in
    let h = c.in-Ok.ensures in
    let up : IsAscending xs = subst IsAscending (sym c.as_slice.ensures) c.self.invariant in
    let same : xs ≡ c.args.self.now.names = c.as_slice.ensures ∙ ap (λ k. k.names) c.self.view_is in
    ap (is_in q) (c.remove-name.ensures.items ∙ ap (λ (ys : List (List ℕ)). remove ys c.in-Ok.at) (sym c.as_slice.ensures))
    ∙ subst (λ (ys : List (List ℕ)). is_in q (remove xs c.in-Ok.at) ≡ (not (bytes_eq q n) && is_in q ys)) same (remove_has xs c.in-Ok.at n q up h.bound h.ok)

pub returns-in_default-clause-members : goal.returns-in_default-clause-members
returns-in_default-clause-members c = λ q.
    let xs = c.as_slice.result.now in
    let n = c.args.name.now in
    let up : IsAscending xs = subst IsAscending (sym c.as_slice.ensures) c.self.invariant in
    let same : xs ≡ c.args.self.now.names = c.as_slice.ensures ∙ ap (λ k. k.names) c.self.view_is in
    let parts = c.in_default.ensures.position (rises xs n up) in
    subst (λ (ys : List (List ℕ)). is_in q ys ≡ (not (bytes_eq q n) && is_in q ys)) same (missed_has xs c.in_default.field-0 n q parts.0 parts.1)
