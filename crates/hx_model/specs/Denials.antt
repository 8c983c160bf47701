-- Why an ask is denied, before the refusal is made of it.
--     refusal_by id    the refusal of an ask about an identity
use Rattle.hx_object.specs.declared.kind.Kind.TheVariants.{Namespace}
use Rattle.hx_object.specs.declared.object.Id.{Id}
use Rattle.hx_model.specs.declared.denial.Denial.{Denial}
use Rattle.hx_model.specs.declared.denial.Denial.TheVariants.{NoNamespace, NotFound, Exists, OtherVersion, Broken}
use Rattle.hx_model.specs.declared.refusal.Refusal.{Refusal}
use Rattle.hx_model.specs.declared.refusal.Refusal.TheVariants as of

-- the refusal of an ask about an identity
abbrev pub refusal_by : Id → Denial → Refusal
refusal_by id NoNamespace = of.NotFound Namespace id.ns
refusal_by id NotFound = of.NotFound id.kind id.name
refusal_by id Exists = of.Exists id.kind id.name
refusal_by id (OtherVersion version) = of.OtherVersion id.kind id.name version
refusal_by id (Broken rule) = of.Broken rule
