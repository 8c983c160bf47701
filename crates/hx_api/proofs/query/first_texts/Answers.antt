use Rattle.std.proofs.Common.{◌≡◌, codes, refl, rules}
use Rattle.std.specs.Cow.{cow_str_bytes}
use Rattle.hx_api.specs.Inside.{kept_text}
use Rattle.hx_api.proofs.Said.{selector, fields, not_labels, not_fields}
use Rattle.hx_api.proofs.query.first_texts.Goals as goal

pub returns-in-labelSelector-clause-labels : goal.returns-in-labelSelector-clause-labels
returns-in-labelSelector-clause-labels c = let name : c.args.name.now ≡ codes "labelSelector" = search rules in λ rest. rw (name, c.or.ensures) (selector c.args.labels c.args.value rest)

pub returns-in-labelSelector-clause-fields : goal.returns-in-labelSelector-clause-fields
returns-in-labelSelector-clause-fields c = let name : c.args.name.now ≡ codes "labelSelector" = search rules in λ rest. rw name refl

pub returns-in-fieldSelector-clause-labels : goal.returns-in-fieldSelector-clause-labels
returns-in-fieldSelector-clause-labels c = let name : c.args.name.now ≡ codes "fieldSelector" = search rules in λ rest. rw name refl

pub returns-in-fieldSelector-clause-fields : goal.returns-in-fieldSelector-clause-fields
returns-in-fieldSelector-clause-fields c = let name : c.args.name.now ≡ codes "fieldSelector" = search rules in λ rest. rw (name, c.or-in-fieldSelector.ensures) (fields c.args.fields c.args.value rest)

pub returns-clause-labels : goal.returns-clause-labels
returns-clause-labels c rest = not_labels (kept_text c.args.labels) c.args.name.now (cow_str_bytes c.args.value) rest c.in_default.not-labelSelector

pub returns-clause-fields : goal.returns-clause-fields
returns-clause-fields c rest = not_fields (kept_text c.args.fields) c.args.name.now (cow_str_bytes c.args.value) rest c.in_default.not-fieldSelector
