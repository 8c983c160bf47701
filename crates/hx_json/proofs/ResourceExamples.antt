-- Worked bodies of quotas, Pods and claims: each fault once, and what a body says.
use Rattle.std.proofs.Common.{◌≡◌, ℕ, negsuc, List, [], ◌∷◌, true, false, Option, Some, None, codes, refl}
use Rattle.std.specs.Fmt.{digits}
use Rattle.serde_json.specs.Data.{Data, null, boolean, number, unsigned, negative, array, object, no_items, item, no_members, member}
use Rattle.hx_object.specs.Needs.{need_of}
use Rattle.hx_object.specs.Quantities.{factor_of, quantity_of}
use Rattle.hx_object.specs.declared.kind.Kind.TheVariants.{HierarchicalResourceQuota, Pod, PersistentVolumeClaim}
use Rattle.hx_object.specs.declared.object.Limit.{Limit}
use Rattle.hx_object.specs.declared.object.Payload.TheVariants.{Quota}
use Rattle.hx_json.specs.declared.fault.JsonFault.{JsonFault}
use Rattle.hx_json.specs.declared.fault.JsonFault.TheVariants.{MissingMember, WrongType, BadQuantity}
use Rattle.hx_json.specs.Reading.{target_at, member_fault, kept_members, payload_of}
use Rattle.hx_json.proofs.ReadExamples.{body, hnc, named, one, seven, text}

-- ---- quotas

abbrev of_quota : Data → Option JsonFault
of_quota d = member_fault (target_at HierarchicalResourceQuota (codes "a") None) d

abbrev quota_of : Data → Data
quota_of spec = hnc (codes "HierarchicalResourceQuota") spec

abbrev quota : Data → Data
quota hard = quota_of (one (codes "hard") hard)

no_spec : of_quota (body (codes "hnc.x-k8s.io/v1alpha2") (codes "HierarchicalResourceQuota") (member (codes "metadata") named no_members)) ≡ Some (MissingMember (codes "spec.hard"))
no_spec = refl

null_spec : of_quota (quota_of null) ≡ Some (MissingMember (codes "spec.hard"))
null_spec = refl

spec_is_a_text : of_quota (quota_of (text [])) ≡ Some (WrongType (codes "spec.hard"))
spec_is_a_text = refl

no_hard : of_quota (quota_of (object no_members)) ≡ Some (MissingMember (codes "spec.hard"))
no_hard = refl

null_hard : of_quota (quota null) ≡ Some (WrongType (codes "spec.hard"))
null_hard = refl

hard_is_a_list : of_quota (quota (array no_items)) ≡ Some (WrongType (codes "spec.hard"))
hard_is_a_list = refl

no_limits : of_quota (quota (object no_members)) ≡ None
no_limits = refl

limit_is_true : of_quota (quota (one (codes "pods") (boolean true))) ≡ Some (BadQuantity (codes "spec.hard"))
limit_is_true = refl

limit_is_null : of_quota (quota (one (codes "pods") null)) ≡ Some (BadQuantity (codes "spec.hard"))
limit_is_null = refl

limit_is_negative : of_quota (quota (one (codes "pods") (number (negative (negsuc 0))))) ≡ Some (BadQuantity (codes "spec.hard"))
limit_is_negative = refl

-- the second of two limits has an exponent
second_limit : of_quota (quota (object (member (codes "limits.cpu") (text (codes "1.5")) (member (codes "pods") (text (codes "1e3")) no_members)))) ≡ Some (BadQuantity (codes "spec.hard"))
unfolding quantity_of factor_of
second_limit = refl

abbrev limit : List ℕ → List ℕ → ℕ → Limit
limit resource written amount = record { resource = resource; written = written; amount = amount }

-- a number is kept as a text
limits_said : payload_of HierarchicalResourceQuota (quota (object (member (codes "pods") (number (unsigned 10)) (member (codes "requests.cpu") (text (codes "1")) no_members))))
    ≡ Quota (limit (codes "pods") (codes "10") 10000 ∷ limit (codes "requests.cpu") (codes "1") 1000 ∷ []) []
unfolding quantity_of factor_of digits
limits_said = refl

-- ---- Pods

abbrev of_pod : Data → Option JsonFault
of_pod d = member_fault (target_at Pod (codes "a") None) d

abbrev pod : Data → Data → Data
pod spec status = body (codes "v1") (codes "Pod") (member (codes "metadata") named (member (codes "spec") spec (member (codes "status") status no_members)))

-- a Pod of one container or of one init container, with such resources
abbrev pod_of : List ℕ → Data → Data
pod_of containers resources = pod (one containers (array (item (one (codes "resources") resources) no_items))) null

abbrev asks : List ℕ → List ℕ → Data → Data
asks part resource amount = one part (one resource amount)

pod_spec_is_a_list : of_pod (pod (array no_items) null) ≡ Some (WrongType (codes "spec.containers"))
pod_spec_is_a_list = refl

no_pod_spec : of_pod (pod null null) ≡ None
no_pod_spec = refl

container_is_a_text : of_pod (pod (one (codes "initContainers") (array (item (text []) no_items))) null) ≡ Some (WrongType (codes "spec.initContainers"))
container_is_a_text = refl

resources_are_a_list : of_pod (pod_of (codes "containers") (array no_items)) ≡ Some (WrongType (codes "spec.containers.resources"))
resources_are_a_list = refl

limits_are_a_text : of_pod (pod_of (codes "initContainers") (one (codes "limits") (text []))) ≡ Some (WrongType (codes "spec.initContainers.resources"))
limits_are_a_text = refl

memory_is_no_quantity : of_pod (pod_of (codes "containers") (asks (codes "limits") (codes "memory") (text (codes "1 Gi")))) ≡ Some (BadQuantity (codes "spec.containers.resources"))
unfolding quantity_of factor_of
memory_is_no_quantity = refl

-- other resources aren't looked at
other_resource : of_pod (pod_of (codes "containers") (asks (codes "requests") (codes "example.com/gpu") (text []))) ≡ None
other_resource = refl

status_is_a_list : of_pod (pod null (array no_items)) ≡ Some (WrongType (codes "status.phase"))
status_is_a_list = refl

phase_is_a_number : of_pod (pod null (one (codes "phase") seven)) ≡ Some (WrongType (codes "status.phase"))
phase_is_a_number = refl

-- a request, a limit alone, which is the request too, and the request of an init container
abbrev three : Data
three = object
    (member (codes "containers") (array (item (one (codes "resources") (asks (codes "requests") (codes "cpu") (text (codes "250m")))) (item (one (codes "resources") (asks (codes "limits") (codes "cpu") (text (codes "500m")))) no_items)))
    (member (codes "initContainers") (array (item (one (codes "resources") (asks (codes "requests") (codes "memory") (number (unsigned 1)))) no_items)) no_members))

pod_needs : need_of Pod (kept_members (pod three (one (codes "phase") (text (codes "Failed"))))) ≡ record {
  finished = true;
  token = false;
  storage = 0;
  containers =
      record { init = false; asks = Some 250 ∷ None ∷ None ∷ None ∷ [] }
      ∷ record { init = false; asks = Some 500 ∷ None ∷ Some 500 ∷ None ∷ [] }
      ∷ record { init = true; asks = None ∷ Some 1000 ∷ None ∷ None ∷ [] }
      ∷ [];
}
unfolding quantity_of factor_of digits
pod_needs = refl

running : (need_of Pod (kept_members (pod three (one (codes "phase") (text (codes "Running")))))).finished ≡ false
running = refl

-- ---- claims

abbrev of_claim : Data → Option JsonFault
of_claim d = member_fault (target_at PersistentVolumeClaim (codes "a") None) d

abbrev claim : Data → Data
claim spec = body (codes "v1") (codes "PersistentVolumeClaim") (member (codes "metadata") named (member (codes "spec") spec no_members))

abbrev storage : Data → Data
storage amount = claim (one (codes "resources") (asks (codes "requests") (codes "storage") amount))

claim_needs : need_of PersistentVolumeClaim (kept_members (storage (text (codes "5Gi")))) ≡ record { finished = false; token = false; storage = 5368709120000; containers = [] }
unfolding quantity_of factor_of
claim_needs = refl

no_claim_spec : of_claim (claim null) ≡ None
no_claim_spec = refl

storage_is_a_list : of_claim (storage (array no_items)) ≡ Some (BadQuantity (codes "spec.resources.requests.storage"))
storage_is_a_list = refl

requests_are_a_text : of_claim (claim (one (codes "resources") (one (codes "requests") (text [])))) ≡ Some (WrongType (codes "spec.resources.requests.storage"))
requests_are_a_text = refl

claim_spec_is_true : of_claim (claim (boolean true)) ≡ Some (WrongType (codes "spec.resources.requests.storage"))
claim_spec_is_true = refl
