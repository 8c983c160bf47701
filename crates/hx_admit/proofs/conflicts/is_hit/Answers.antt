use Rattle.std.proofs.Common.{◌∙◌, refl, sym, ap, not, true, false}
use Rattle.std.specs.Str.{bytes_eq}
use Rattle.hx_model.specs.Modes.{mode_of}
use Rattle.hx_admit.proofs.Conflicting.{hit_itself, hit_beside, hit_closed, hit_missed, hit_anew, read_goes, hit_before, reached_beside}
use Rattle.hx_admit.proofs.conflicts.is_hit.Goals as goal
use Rattle.hx_admit.proofs.conflicts.is_hit.Goals.{then-eq-via-then-eq, then-eq-via-else-eq+then-not-is_below, then-eq-via-else-eq+else-not-is_below+then-not-is_open}

pub returns-then-eq : goal.returns-then-eq
returns-then-eq c = elim c.then-eq.branch [
  | then-eq-via-then-eq w ↦ hit_itself c.args.state.now.state c.args.new.now c.args.ns.now ((λ i. bytes_eq ((sym c.as_str.ensures.value) i) ((sym c.as_str-2.ensures.value) i)) ∙ sym c.eq.ensures ∙ w.if-eq.true)
  | then-eq-via-else-eq+then-not-is_below w ↦ hit_beside c.args.state.now.state c.args.new.now c.args.ns.now (sym w.is_below.ensures ∙ w.if-not-is_below.true)
  | then-eq-via-else-eq+else-not-is_below+then-not-is_open w ↦ hit_closed c.args.state.now.state c.args.new.now c.args.ns.now (sym w.is_open.ensures ∙ w.if-not-is_open.true)
]

pub returns-then-not-branch : goal.returns-then-not-branch
returns-then-not-branch c =
    hit_missed c.args.state.now.state c.args.new.now c.args.ns.now (mode_of c.args.state.now.state c.args.new.now.id.kind) refl
    (read_goes c.args.state.now.state c.args.new.now c.args.ns.now c.args.after.now false c.requires.after c.requires.propagated (sym c.in_ok-has_at.ensures ∙ c.if-not-branch.true))

pub returns-then-branch : goal.returns-then-branch
returns-then-branch c =
    hit_before c.args.state.now.state c.args.new.now c.args.ns.now c.args.before.now c.requires.before c.requires.propagated ((λ i. bytes_eq ((sym c.as_str.ensures.value) i) ((sym c.as_str-2.ensures.value) i)) ∙ sym c.eq.ensures ∙ c.if-eq.false) (sym c.is_below.ensures ∙ c.if-not-is_below.false)
    (sym c.in_ok-has_at-2.ensures ∙ c.if-branch.true)

pub returns : goal.returns
returns c =
    ap not (c.in_ok-is_reached.ensures ∙ reached_beside c.args.state.now.state c.args.new.now c.args.ns.now c.args.before.now c.requires.before c.requires.propagated (sym c.in_ok-has_at-2.ensures ∙ c.if-branch.false))
    ∙ hit_anew c.args.state.now.state c.args.new.now c.args.ns.now (mode_of c.args.state.now.state c.args.new.now.id.kind) ((λ i. bytes_eq ((sym c.as_str.ensures.value) i) ((sym c.as_str-2.ensures.value) i)) ∙ sym c.eq.ensures ∙ c.if-eq.false) (sym c.is_below.ensures ∙ c.if-not-is_below.false) (sym c.is_open.ensures ∙ c.if-not-is_open.false) refl
    (read_goes c.args.state.now.state c.args.new.now c.args.ns.now c.args.after.now true c.requires.after c.requires.propagated (sym c.in_ok-has_at.ensures ∙ c.if-not-branch.false))
