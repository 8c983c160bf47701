use Rattle.std.proofs.Common.{◌≡◌, ◌⊎◌, ◌<◌, length, rules, subst, sym, IfOk, IfErr, Ok, Err}
use Rattle.hx_select.specs.declared.tree_select.TreeFault.TheVariants.{NoMemory}
use Rattle.hx_select.proofs.Stripping.{plain-piece}
use Rattle.hx_select.proofs.tree_select.with_piece.Goals as goal

pub returns-in-None-clause-ok : goal.returns-in-None-clause-ok
unfolding lib.Utf8.encode
returns-in-None-clause-ok c =
    let some : 0 < length c.args.piece.now = search rules in
    subst (λ new. IfOk c.with_plain.result (λ select. new ≡ Ok select)) (sym (plain-piece c.args.select c.args.piece.now some c.in-None.ensures.cases)) c.with_plain.ensures.ok

pub returns-in-None-clause-fault : goal.returns-in-None-clause-fault
unfolding lib.Utf8.encode
returns-in-None-clause-fault c =
    let some : 0 < length c.args.piece.now = search rules in
    subst (λ new. IfErr c.with_plain.result (λ fault. (fault ≡ NoMemory) ⊎ (new ≡ Err fault))) (sym (plain-piece c.args.select c.args.piece.now some c.in-None.ensures.cases)) c.with_plain.ensures.fault
