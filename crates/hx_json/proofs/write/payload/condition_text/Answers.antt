use Rattle.std.proofs.Common.{ap, sym}
use Rattle.serde_json.specs.Written.{compact_text}
use Rattle.json.specs.Print.{escape_byte}
use Rattle.hx_object.specs.Json.{condition_data}
use Rattle.hx_json.proofs.write.payload.condition_text.Goals as goal

pub returns-in-InCycle : goal.returns-in-InCycle
unfolding escape_byte
returns-in-InCycle c = ap (λ x. compact_text (condition_data x)) (sym c.in-InCycle.is)

pub returns-in-ParentMissing : goal.returns-in-ParentMissing
unfolding escape_byte
returns-in-ParentMissing c = ap (λ x. compact_text (condition_data x)) (sym c.in-ParentMissing.is)

pub returns-in-IllegalParent : goal.returns-in-IllegalParent
unfolding escape_byte
returns-in-IllegalParent c = ap (λ x. compact_text (condition_data x)) (sym c.in-IllegalParent.is)

pub returns-in-Ancestor : goal.returns-in-Ancestor
unfolding escape_byte
returns-in-Ancestor c = ap (λ x. compact_text (condition_data x)) (sym c.in-Ancestor.is)

pub returns-in-AnchorMissing : goal.returns-in-AnchorMissing
unfolding escape_byte
returns-in-AnchorMissing c = ap (λ x. compact_text (condition_data x)) (sym c.in-AnchorMissing.is)
