use Rattle.std.proofs.Common.{◌≡◌, ◌∙◌, ap, sym, Some, None}
use Rattle.std.specs.Map.{lookup}
use Rattle.std.specs.Str.{bytes_eq}
use Rattle.std.proofs.lemmas.Map.Text.{is_eq-slice_cmp}
use Rattle.hx_select.specs.Matching.{meets_by}
use Rattle.hx_select.proofs.Members.{same_lookup}
use Rattle.hx_select.proofs.matcher.taken.Goals as goal

pub returns-in-Some-clause-demand : goal.returns-in-Some-clause-demand
returns-in-Some-clause-demand c = λ label.
    let is : lookup (bytes_eq c.args.key.now) c.args.demands.now.entries ≡ Some c.in-Some.demand =
    sym (same_lookup c.args.key.now c.args.demands.now.entries) ∙ sym c.remove.ensures.value ∙ c.in-Some.is in
    sym (ap (λ o. meets_by o label) is)

pub returns-in-Some-clause-others : goal.returns-in-Some-clause-others
returns-in-Some-clause-others c = λ other apart.
    sym (same_lookup other c.remove.new.self.entries) ∙ c.remove.ensures.updates.2 other (is_eq-slice_cmp c.args.key.now other ∙ apart) ∙ same_lookup other c.args.demands.now.entries

pub returns-in-None-clause-demand : goal.returns-in-None-clause-demand
returns-in-None-clause-demand c = λ label.
    let is : lookup (bytes_eq c.args.key.now) c.args.demands.now.entries ≡ None =
    sym (same_lookup c.args.key.now c.args.demands.now.entries) ∙ sym c.remove.ensures.value ∙ c.in-None.is in
    c.new.ensures label ∙ sym (ap (λ o. meets_by o label) is)
