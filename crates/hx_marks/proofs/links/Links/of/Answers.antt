use Rattle.std.proofs.Common.{◌∙◌, ap, sym, option_map, Some}
use Rattle.std.specs.Prelude.{option_copied}
use Rattle.hx_select.proofs.Members.{same_lookup}
use Rattle.hx_marks.proofs.links.Links.of.Goals as goal

pub returns-in-Some : goal.returns-in-Some
returns-in-Some c =
    ap Some c.as_slice.ensures.value
    ∙ ap (option_map (λ v. v.items)) (sym (ap option_copied c.in-Some.is) ∙ c.get.ensures.value ∙ same_lookup c.args.name.now c.args.self.now.known.entries)

pub returns-in-None : goal.returns-in-None
returns-in-None c =
    ap (option_map (λ v. v.items)) (sym (ap option_copied c.in-None.is) ∙ c.get.ensures.value ∙ same_lookup c.args.name.now c.args.self.now.known.entries)
