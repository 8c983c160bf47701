use Rattle.std.proofs.Common.{[], ◌∷◌, ◌++◌, Some, ap, sym, subst, ◌∙◌}
use Rattle.atomic_table.specs.Table.{opening}
use Rattle.hx_turn.specs.Passes.{first_pass}
use Rattle.hx_turn.specs.Rule.{Kept}
use Rattle.hx_turn.proofs.Steps.{opens}
use Rattle.hx_turn.proofs.turn.Turn.make.Goals as goal

pub new-requires : goal.new-requires
new-requires g c =
    let start = g.T.Stands.opening in
    subst (λ v. Kept g.T.Stands.stands (start v) (opening (0 ∷ 0 ∷ []) c.push.new.self.items (first_pass (start v)))) (sym c.of-about.ensures)
    (subst (λ xs. Kept g.T.Stands.stands (start c.args.value) (opening (0 ∷ 0 ∷ []) xs (first_pass (start c.args.value)))) (sym (c.in_default.ensures.items ∙ ap (λ xs. xs ++ Some c.args.value ∷ []) c.new-slots.ensures.items))
    (opens g.T.Stands.stands (start c.args.value) c.args.value c.requires))
