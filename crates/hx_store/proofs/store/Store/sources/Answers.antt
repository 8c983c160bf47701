use Rattle.std.proofs.Common.{◌≡◌, ◌∙◌, rules, subst}
use Rattle.std.specs.Prelude.{IfOk}
use Rattle.hx_store.proofs.Named.{no_sources, sources_alone}
use Rattle.hx_store.proofs.store.Store.sources.Goals as goal

pub returns-then-not-can_be_copied : goal.returns-then-not-can_be_copied
returns-then-not-can_be_copied c = c.new.ensures.items ∙ no_sources c.args.kind c.args.name.now c.args.self.now.objects (search rules)

pub returns : goal.returns
returns c = subst (λ xs. IfOk c.indexed.result (λ objects. objects.items ≡ xs)) (sources_alone c.args.kind c.args.name.now c.args.self.now.objects (search rules)) c.indexed.ensures
