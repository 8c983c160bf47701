-- What is kept of a body's members is in order, shallow and without the common members, so the object that a body says is legal.
use Rattle.std.proofs.Common.{◌≡◌, ◌≤◌, ℕ, max, List, [], ◌∷◌, Bool, true, false, cond, Option, Some, None, Ordering, Less, Equal, Greater, nat_cmp, bytes_eq, is_eq, codes, refl, sym, subst, ◌∙◌, arith, true≢false}
use Rattle.std.specs.Ordering.{match_ordering}
use Rattle.std.specs.Cmp.Lexicographic.{slice_cmp}
use Rattle.std.proofs.lemmas.Map.Text.{is_eq-slice_cmp}
use Rattle.std.proofs.lemmas.Slice.Eq.{bytes_eq-Decides}
use Rattle.serde_json.specs.Data.{Data, null, boolean, number, string, array, object, Members, no_members, member, depth, members_depth}
use Rattle.serde_json.specs.Find.{get_member}
use Rattle.serde_json.specs.Read.{max_depth}
use Rattle.serde_json.specs.Written.{compact_text}
use Rattle.hx_object.specs.Canonical.{IsBefore, IsCanonical, AreMembers}
use Rattle.hx_object.specs.Faults.{object_fault, IsPlain, IsPayloadOf, IsLegal}
use Rattle.hx_object.specs.Kinds.{is_in_cluster}
use Rattle.hx_object.specs.Needs.{need_of}
use Rattle.hx_object.specs.declared.kind.Kind.{Kind}
use Rattle.hx_object.specs.declared.object.Id.{Id}
use Rattle.hx_json.specs.Rows.{said_object}
use Rattle.hx_json.specs.Reading.{kept_members, payload_of, unless_empty_text, without}
use Rattle.hx_json.specs.Inside.{has_quantities}
use Rattle.hx_json.proofs.Quotas.{quota_payload}

-- ---- removing keeps the order and the depth

pub before_without : (q k : List ℕ) (ms : Members) → IsBefore q ms → IsBefore q (without k ms)
before_without q k no_members h = tt
before_without q k (member l d ms) h = by (bytes_eq k l) (before_without q k ms h.1)
  where
    by : (v : Bool) → IsBefore q (without k ms) → IsBefore q (cond v ms (member l d (without k ms)))
    by true later = h.1
    by false later = (h.0, later)

members_without : (k : List ℕ) (ms : Members) → AreMembers ms → AreMembers (without k ms)
members_without k no_members h = tt
members_without k (member l d ms) h = by (bytes_eq k l) (members_without k ms h.2)
  where
    by : (v : Bool) → AreMembers (without k ms) → AreMembers (cond v ms (member l d (without k ms)))
    by true later = h.2
    by false later = (before_without l k ms h.0, h.1, later)

depth_without : (k : List ℕ) (ms : Members) → members_depth (without k ms) ≤ members_depth ms
depth_without k no_members = omega arith
depth_without k (member l d ms) = by (bytes_eq k l) (depth_without k ms)
  where
    by : (v : Bool) → members_depth (without k ms) ≤ members_depth ms → members_depth (cond v ms (member l d (without k ms))) ≤ max (depth d) (members_depth ms)
    by true later = omega arith
    by false later = omega arith

-- ---- what is removed is gone

absent : (k : List ℕ) (ms : Members) → IsBefore k ms → get_member k ms ≡ None
absent k no_members h = refl
absent k (member l d ms) h = rw h.0 (absent k ms h.1)

gone : (k : List ℕ) (ms : Members) → AreMembers ms → get_member k (without k ms) ≡ None
gone k no_members h = refl
gone k (member l d ms) h = by (bytes_eq k l) refl (gone k ms h.2)
  where
    apart : (o : Ordering) → is_eq o ≡ false → get_member k (without k ms) ≡ None → match_ordering o (get_member k (without k ms)) (Some d) (get_member k (without k ms)) ≡ None
    apart Less e later = later
    apart Equal e later = absurd (true≢false e)
    apart Greater e later = later

    by : (v : Bool) → bytes_eq k l ≡ v → get_member k (without k ms) ≡ None → get_member k (cond v ms (member l d (without k ms))) ≡ None
    by true e later = let same : k ≡ l = (bytes_eq-Decides k l).0 e in absent k ms (subst (λ key. IsBefore key ms) (sym same) h.0)
    by false e later = apart (slice_cmp nat_cmp k l) (is_eq-slice_cmp k l ∙ e) later

still_gone : (k l : List ℕ) (ms : Members) → get_member k ms ≡ None → get_member k (without l ms) ≡ None
still_gone k l no_members h = refl
still_gone k l (member m d ms) h = by (slice_cmp nat_cmp k m) refl h (still_gone k l ms)
  where
    found : (v : Bool) → get_member k ms ≡ None → get_member k (member m d (without l ms)) ≡ None → get_member k (cond v ms (member m d (without l ms))) ≡ None
    found true one later = one
    found false one later = later

    by : (o : Ordering) → slice_cmp nat_cmp k m ≡ o → match_ordering o (get_member k ms) (Some d) (get_member k ms) ≡ None → (get_member k ms ≡ None → get_member k (without l ms) ≡ None)
        → get_member k (cond (bytes_eq l m) ms (member m d (without l ms))) ≡ None
    by Less e none later = found (bytes_eq l m) none (rw e (later none))
    by Equal e none later = cc
    by Greater e none later = found (bytes_eq l m) none (rw e (later none))

-- ---- what is kept

pub kept_in_order : (d : Data) → IsCanonical d → IsCanonical (object (kept_members d))
kept_in_order null h = tt
kept_in_order (boolean b) h = tt
kept_in_order (number n) h = tt
kept_in_order (string s) h = tt
kept_in_order (array ds) h = tt
kept_in_order (object ms) h =
    let a = codes "apiVersion" in
    let k = codes "kind" in
    members_without (codes "metadata") (without k (without a ms)) (members_without k (without a ms) (members_without a ms h))

pub kept_shallow : (d : Data) → depth d ≤ max_depth → depth (object (kept_members d)) ≤ max_depth
kept_shallow null h = omega arith
kept_shallow (boolean b) h = omega arith
kept_shallow (number n) h = omega arith
kept_shallow (string s) h = omega arith
kept_shallow (array ds) h = omega arith
kept_shallow (object ms) h =
    let a = codes "apiVersion" in
    let k = codes "kind" in
    omega (arith, depth_without (codes "metadata") (without k (without a ms)), depth_without k (without a ms), depth_without a ms)

IsWithoutHead : Members → Type 0
IsWithoutHead ms = (get_member (codes "apiVersion") ms ≡ None) × (get_member (codes "kind") ms ≡ None) × (get_member (codes "metadata") ms ≡ None)

kept_without_head : (d : Data) → IsCanonical d → IsWithoutHead (kept_members d)
unfolding IsWithoutHead
kept_without_head null h = (refl, refl, refl)
kept_without_head (boolean b) h = (refl, refl, refl)
kept_without_head (number n) h = (refl, refl, refl)
kept_without_head (string s) h = (refl, refl, refl)
kept_without_head (array ds) h = (refl, refl, refl)
kept_without_head (object ms) h =
    let a = codes "apiVersion" in
    let k = codes "kind" in
    let m = codes "metadata" in
    let one = members_without a ms h in
    let two = members_without k (without a ms) one in
    (still_gone a m (without k (without a ms)) (still_gone a k (without a ms) (gone a ms h)), still_gone k m (without k (without a ms)) (gone k (without a ms) one), gone m (without k (without a ms)) two)

plain_payload : (kind : Kind) (d : Data) → IsCanonical d → depth d ≤ max_depth → IsPlain kind (compact_text (object (kept_members d))) (need_of kind (kept_members d))
unfolding IsWithoutHead
plain_payload kind d h shallow = record {
  whole = kept_members d;
  text = refl;
  canonical = kept_in_order d h;
  shallow = kept_shallow d shallow;
  own = kept_without_head d h;
  says = refl;
}

given : (o : Option (List ℕ)) → unless_empty_text o ≡ Some [] → ⊥
given None h = cc
given (Some []) h = cc
given (Some (byte ∷ text)) h = cc

payload_given : (kind : Kind) (d : Data) → has_quantities kind d ≡ true → IsCanonical d → depth d ≤ max_depth → IsPayloadOf kind (payload_of kind d)
payload_given Kind.Namespace d is h shallow = refl
payload_given Kind.HncConfiguration d is h shallow = refl
payload_given Kind.HierarchyConfiguration d is h shallow = (refl, given _)
payload_given Kind.SubnamespaceAnchor d is h shallow = refl
payload_given Kind.HierarchicalResourceQuota d is h shallow = quota_payload d h is
payload_given Kind.Pod d is h shallow = (refl, plain_payload Kind.Pod d h shallow)
payload_given Kind.PersistentVolumeClaim d is h shallow = (refl, plain_payload Kind.PersistentVolumeClaim d h shallow)
payload_given Kind.Role d is h shallow = (refl, plain_payload Kind.Role d h shallow)
payload_given Kind.RoleBinding d is h shallow = (refl, plain_payload Kind.RoleBinding d h shallow)
payload_given Kind.ConfigMap d is h shallow = (refl, plain_payload Kind.ConfigMap d h shallow)
payload_given Kind.Secret d is h shallow = (refl, plain_payload Kind.Secret d h shallow)
payload_given Kind.NetworkPolicy d is h shallow = (refl, plain_payload Kind.NetworkPolicy d h shallow)
payload_given Kind.LimitRange d is h shallow = (refl, plain_payload Kind.LimitRange d h shallow)
payload_given Kind.Service d is h shallow = (refl, plain_payload Kind.Service d h shallow)

-- an object without fault that a canonical body says is legal
pub legal : (id : Id) (version : ℕ) (d : Data) → has_quantities id.kind d ≡ true → (is_in_cluster id.kind ≡ true → id.ns ≡ []) → IsCanonical d → depth d ≤ max_depth → object_fault (said_object id version d) ≡ None
    → IsLegal (said_object id version d)
legal id version d is home h shallow sound = record { sound = sound; home = home; payload = payload_given id.kind d is h shallow }
