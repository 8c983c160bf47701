use Rattle.std.proofs.Common.{rules, ◌≡◌, ◌∙◌, Bool, true, false, sym, ap}
use Rattle.std.specs.Prelude.{if◌then◌else◌, option_copied}
use Rattle.hx_object.specs.declared.object.Id.{Id}
use Rattle.hx_model.specs.State.{object_at}
use Rattle.hx_model.specs.Tree.{forest_of}
use Rattle.hx_model.specs.Writes.{id_written}
use Rattle.hx_marks.specs.Before.{marks_before, marks_before_by}
use Rattle.hx_marks.specs.Reads.{state_in}
use Rattle.hx_marks.specs.Law.{ends_following, following_marks, object_written}
use Rattle.hx_marks.proofs.Adding.{grown}
use Rattle.hx_marks.proofs.writes.marks_among.Goals as goal

pub returns-then-lead_out : goal.returns-then-lead_out
returns-then-lead_out c =
    let s = state_in c.args.current.now in
    let w = c.args.write.now in
    let id : c.id-id.result.now ≡ id_written w = search rules in
    let old : option_copied c.object_in-old.result ≡ object_at s.objects (id_written w) = search rules in
    let new : option_copied c.object_in-new.result ≡ object_written w = search rules in
    let leads : ends_following (forest_of s) c.args.endings.now (id_written w) (object_at s.objects (id_written w)) (object_written w) ≡ true =
    sym (c.lead_out.ensures ∙ (λ i. ends_following (c.args.current.now.tree i) c.args.endings.now (id i) (old i) (new i))) ∙ c.if-lead_out.true in
    grown c.following_marks.result c.following_marks.new.keys.items c.args.keys.now.items _ _
    (ap (λ (q : Id). following_marks s q.name) id ∙ sym (ap (λ (b : Bool). if b then following_marks s (id_written w).name else marks_before s w) leads)) c.following_marks.ensures

pub returns : goal.returns
returns c =
    let s = state_in c.args.current.now in
    let w = c.args.write.now in
    let id : c.id-id.result.now ≡ id_written w = search rules in
    let old : option_copied c.object_in-old.result ≡ object_at s.objects (id_written w) = search rules in
    let new : option_copied c.object_in-new.result ≡ object_written w = search rules in
    let leads : ends_following (forest_of s) c.args.endings.now (id_written w) (object_at s.objects (id_written w)) (object_written w) ≡ false =
    sym (c.lead_out.ensures ∙ (λ i. ends_following (c.args.current.now.tree i) c.args.endings.now (id i) (old i) (new i))) ∙ c.if-lead_out.false in
    grown c.marks_by.result c.marks_by.new.keys.items c.args.keys.now.items _ _
    ((λ i. marks_before_by s (id i) (old i) (new i)) ∙ sym (ap (λ (b : Bool). if b then following_marks s (id_written w).name else marks_before s w) leads)) c.marks_by.ensures
