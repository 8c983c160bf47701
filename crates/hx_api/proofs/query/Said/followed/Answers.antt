use Rattle.std.proofs.Common.{◌≡◌, codes, rules}
use Rattle.hx_api.proofs.Said.{admission, since, watch, field_selector, dry_run, continued, no_parameter}
use Rattle.hx_api.proofs.query.Said.followed.Goals as goal

pub returns-in-admission : goal.returns-in-admission
returns-in-admission c = let name : c.args.name.now ≡ codes "admission" = search rules in λ rest. rw (name, c.or.ensures, c.eq.ensures) (admission c.args.self c.args.value.now rest)

pub returns-in-since : goal.returns-in-since
returns-in-since c = let name : c.args.name.now ≡ codes "since" = search rules in λ rest. rw (name, c.or-in-since.ensures, c.long_decimal.ensures, c.as_bytes.ensures.value) (since c.args.self c.args.value.now rest)

pub returns-in-watch : goal.returns-in-watch
returns-in-watch c = let name : c.args.name.now ≡ codes "watch" = search rules in λ rest. rw (name, c.or-in-watch.ensures, c.is_filled.ensures) (watch c.args.self c.args.value.now rest)

pub returns-in-fieldSelector : goal.returns-in-fieldSelector
returns-in-fieldSelector c = let name : c.args.name.now ≡ codes "fieldSelector" = search rules in λ rest. rw (name, c.or-in-fieldSelector.ensures, c.is_filled.ensures) (field_selector c.args.self c.args.value.now rest)

pub returns-in-dryRun : goal.returns-in-dryRun
returns-in-dryRun c = let name : c.args.name.now ≡ codes "dryRun" = search rules in λ rest. rw (name, c.or-in-dryRun.ensures, c.is_filled.ensures) (dry_run c.args.self c.args.value.now rest)

pub returns-in-continue : goal.returns-in-continue
returns-in-continue c = let name : c.args.name.now ≡ codes "continue" = search rules in λ rest. rw (name, c.or-in-continue.ensures, c.is_filled.ensures) (continued c.args.self c.args.value.now rest)

pub returns-in_default : goal.returns-in_default
returns-in_default c =
    let w = c.in_default in
    λ rest. no_parameter c.args.self c.args.name.now c.args.value.now rest w.not-admission w.not-since w.not-watch w.not-fieldSelector w.not-dryRun w.not-continue
