use Rattle.std.proofs.Common.{rules, ◌≡◌, ◌+◌, ◌<◌, ◌∙◌, Option, List, ℕ, Some, Vec, Global, length, suc, slice_get, slice_set, refl, ap, sym, arith}
use Rattle.std.specs.Prelude.{vec_len}
use Rattle.std.specs.Vec.{vec_capacity}
use Rattle.std.proofs.lemmas.Option.{slice_get_read}
use Rattle.hx_quota.specs.PlaceRows.{relinked}
use Rattle.hx_quota.proofs.Linked.{relinked_to, relink_one, relink_none, relink_that, relink_all}
use Rattle.hx_quota.proofs.up_table.relink.Goals as goal
use Rattle.hx_quota.proofs.up_table.relink.Goals.{then-is_at, else-is_at}

pub loop-at-init : goal.loop-at-init
loop-at-init c = record { ups = refl; len = refl; room = refl }

pub loop-at-preserved : goal.loop-at-preserved
loop-at-preserved c =
    let from = c.args.from in
    let to = c.args.to in
    let at = c.loop-at.at in
    let old = c.args.ups.now.items in
    let now = c.loop-at.ups.items in
    let long : vec_len c.loop-at.ups ≡ length now = c.loop-at.ups.ok.0 in
    let within : at < vec_len c.loop-at.ups = search rules in
    let read : slice_get now at ≡ Some c.index.result.now = slice_get_read now (vec_len c.loop-at.ups) at c.index.result.now long within c.index.ensures in
    let here : slice_get (relinked_to at from to old) at ≡ Some c.index.result.now = ap (λ (us : List (Option ℕ)). slice_get us at) (sym c.loop-at.invariant.ups) ∙ read in
    let on : suc at ≡ at + 1 = omega arith in
    elim c.if-is_at.branch [
      | then-is_at w ↦ record {
        ups = ap (λ (v : Vec (Option ℕ) Global). v.items) w.ups-is ∙ w.replace_up.ensures.ups ∙ ap (slice_set now at) (relink_that from to c.index.result.now (sym c.is_at.ensures ∙ w.if-is_at.true))
            ∙ ap (λ (us : List (Option ℕ)). slice_set us at (relinked from to c.index.result.now)) c.loop-at.invariant.ups
            ∙ relink_one at from to old c.index.result.now here ∙ ap (λ (k : ℕ). relinked_to k from to old) on;
        len = ap (λ (v : Vec (Option ℕ) Global). vec_len v) w.ups-is ∙ w.replace_up.ensures.len ∙ c.loop-at.invariant.len;
        room = ap (λ (v : Vec (Option ℕ) Global). vec_capacity v) w.ups-is ∙ w.replace_up.ensures.room ∙ c.loop-at.invariant.room;
      }
      | else-is_at w ↦ record {
        ups = ap (λ (v : Vec (Option ℕ) Global). v.items) w.ups-is ∙ c.loop-at.invariant.ups
            ∙ relink_none at from to old c.index.result.now here (sym c.is_at.ensures ∙ w.if-is_at.false) ∙ ap (λ (k : ℕ). relinked_to k from to old) on;
        len = ap (λ (v : Vec (Option ℕ) Global). vec_len v) w.ups-is ∙ c.loop-at.invariant.len;
        room = ap (λ (v : Vec (Option ℕ) Global). vec_capacity v) w.ups-is ∙ c.loop-at.invariant.room;
      }
    ]

pub returns-clause-ups : goal.returns-clause-ups
returns-clause-ups c =
    let old = c.args.ups.now.items in
    let long : vec_len c.args.ups.now ≡ length old = c.args.ups.now.ok.0 in
    let end : c.loop-at.at ≡ vec_len c.args.ups.now = search rules in
    c.loop-at.invariant.ups ∙ ap (λ (k : ℕ). relinked_to k c.args.from c.args.to old) (end ∙ long) ∙ relink_all c.args.from c.args.to old
