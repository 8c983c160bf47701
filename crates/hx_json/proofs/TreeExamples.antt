-- Worked trees: members that come twice, members out of order, and what is kept.
use Rattle.std.proofs.Common.{◌≡◌, true, false, codes, refl}
use Rattle.json.specs.Json as json
use Rattle.serde_json.specs.Data.{boolean, string, object, no_members, member}
use Rattle.hx_object.specs.declared.kind.Kind.TheVariants.{HierarchicalResourceQuota}
use Rattle.hx_json.specs.Trees.{data_of, is_sorted, kept_of, keeps_order_for, has_sorted_metadata}

abbrev twice : json.Json
twice = json.object (json.member (codes "b") json.null (json.member (codes "a") (json.boolean true) (json.member (codes "b") (json.string (codes "x")) json.no_members)))

-- the last member of a name counts, and the value's members ascend
last_counts : data_of twice ≡ object (member (codes "a") (boolean true) (member (codes "b") (string (codes "x")) no_members))
last_counts = refl

out_of_order : is_sorted twice ≡ false
out_of_order = refl

abbrev body : json.Members
body = json.member (codes "kind") (json.string (codes "ConfigMap")) (json.member (codes "data") twice (json.member (codes "apiVersion") (json.string (codes "v1")) json.no_members))

kept : kept_of body ≡ json.member (codes "data") twice json.no_members
kept = refl

-- the limits of a quota have to ascend for it to be read as it stands, and nothing else in its `spec`
abbrev quota : json.Members → json.Json
quota hard = json.object (json.member (codes "spec") (json.object (json.member (codes "x") twice (json.member (codes "hard") (json.object hard) json.no_members))) json.no_members)

limits_ascend : keeps_order_for HierarchicalResourceQuota (quota (json.member (codes "cpu") json.null (json.member (codes "pods") json.null json.no_members))) ≡ true
limits_ascend = refl

limit_twice : keeps_order_for HierarchicalResourceQuota (quota (json.member (codes "pods") json.null (json.member (codes "pods") json.null json.no_members))) ≡ false
limit_twice = refl

-- metadata itself needs no order
natural : has_sorted_metadata (json.object (json.member (codes "metadata") (json.object (json.member (codes "name") (json.string (codes "x")) (json.member (codes "labels") (json.object json.no_members) json.no_members))) json.no_members)) ≡ true
natural = refl
