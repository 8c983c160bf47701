use Rattle.std.proofs.Common.{◌≡◌, ◌∙◌, sym, ap, subst, List, ℕ, ◌||◌}
use Rattle.std.specs.List.{insert}
use Rattle.std.specs.Str.{bytes_eq}
use Rattle.hx_model.specs.Forest.{is_in}
use Rattle.hx_forest.specs.Names.{IsAscending}
use Rattle.hx_forest.proofs.Ascending.{rises, insert_ascends, insert_has, found_has}
use Rattle.hx_forest.proofs.names.Names.insert.Goals as goal

pub invariant_of-self : goal.invariant_of-self
invariant_of-self c =
    let xs = c.as_slice.result.now in
    let n = c.args.name in
    let up : IsAscending xs = subst IsAscending (sym c.as_slice.ensures) c.self.invariant in
    let parts = c.in-Err.ensures.position (rises xs n up) in
    let new : c.insert.new.self.items ≡ insert c.self.inside.names.items c.in-Err.at n = rw c.unwrap.ensures at c.insert.ensures.ok in
    subst IsAscending (sym (new ∙ ap (λ (ys : List (List ℕ)). insert ys c.in-Err.at n) (sym c.as_slice.ensures)))
    (insert_ascends xs c.in-Err.at n up parts.0 parts.1 c.in-Err.ensures.bound)

pub returns-in-Err-clause-order : goal.returns-in-Err-clause-order
returns-in-Err-clause-order c = invariant_of-self c

pub returns-in-Err-clause-members : goal.returns-in-Err-clause-members
returns-in-Err-clause-members c = λ q.
    let new : c.insert.new.self.items ≡ insert c.self.inside.names.items c.in-Err.at c.args.name = rw c.unwrap.ensures at c.insert.ensures.ok in
    ap (is_in q) new ∙ insert_has c.self.inside.names.items c.in-Err.at c.args.name q ∙ ap (λ k. bytes_eq q c.args.name || is_in q k.names) c.self.view_is

pub returns-in_default-clause-members : goal.returns-in_default-clause-members
returns-in_default-clause-members c = λ q.
    let xs = c.as_slice.result.now in
    let same : xs ≡ c.args.self.now.names = c.as_slice.ensures ∙ ap (λ k. k.names) c.self.view_is in
    let h = c.in_default.ensures in
    subst (λ (ys : List (List ℕ)). is_in q ys ≡ (bytes_eq q c.args.name || is_in q ys)) same (found_has xs c.in_default.field-0 c.args.name q h.bound h.ok)
