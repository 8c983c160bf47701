-- The value of a legal object is canonical, and shallow enough to be read.
use Rattle.std.proofs.Common.{◌≡◌, ◌≤◌, ℕ, max, List, [], ◌∷◌, Bool, true, false, true≢false, Option, Some, None, Ordering, Less, Equal, Greater, nat_cmp, is_lt, map, codes, refl, sym, subst, ap, ◌∙◌, arith, decimal}
use Rattle.std.specs.Ordering.{match_ordering, ordering_reverse}
use Rattle.std.specs.Cmp.Lexicographic.{slice_cmp}
use Rattle.std.proofs.lemmas.Bool.{and_parts}
use Rattle.std.proofs.lemmas.Cmp.{nat_list_cmp_total}
use Rattle.serde_json.specs.Data.{Data, string, object, Items, no_items, item, Members, no_members, member, put, depth, items_depth, members_depth}
use Rattle.serde_json.specs.Read.{max_depth, read}
use Rattle.hx_object.specs.Canonical.{IsBefore, IsCanonical, AreCanonical, AreMembers}
use Rattle.hx_object.specs.Faults.{IsPlain, IsPayloadOf, IsLegal}
use Rattle.hx_object.specs.Json.{pairs_members, unless_empty, unless_none, unless_blank, texts_items, metadata_of, entries_items, conditions_items, limit_pair, limits_members, hard_pair, used_pair, quota_status, hierarchy_spec, hierarchy_status, members_in, own_members, object_data, object_text}
use Rattle.hx_object.specs.Kinds.{name_of, api_version_of}
use Rattle.hx_object.specs.Pairs.{has_ascending_keys}
use Rattle.hx_object.specs.declared.kind.Kind.{Kind}
use Rattle.hx_object.specs.declared.object.Object.{Object}
use Rattle.hx_object.specs.declared.object.ModeEntry.{ModeEntry}
use Rattle.hx_object.specs.declared.object.Condition.{Condition}
use Rattle.hx_object.specs.declared.object.Usage.{Usage}
use Rattle.hx_object.specs.declared.object.Payload.{Payload}
use Rattle.hx_object.specs.declared.object.Payload.TheVariants.{Namespace, Config, Hierarchy, Anchor, Quota, Plain}
use Rattle.hx_json.proofs.Canonical.{before_all, before_put}
use Rattle.hx_json.proofs.RoundTrip.{read-compact_text, compact_text_once}

-- ---- keys in order

pub less : (o : Ordering) → is_lt o ≡ true → o ≡ Less
less Less h = refl
less Equal h = absurd (true≢false (sym h))
less Greater h = absurd (true≢false (sym h))

pub rest_ascends : (p : List ℕ × List ℕ) (ps : List (List ℕ × List ℕ)) → has_ascending_keys (p ∷ ps) ≡ true → has_ascending_keys ps ≡ true
rest_ascends p [] h = refl
rest_ascends p (q ∷ ps) h = (and_parts (is_lt (slice_cmp nat_cmp p.0 q.0)) (has_ascending_keys (q ∷ ps)) h).1

-- ---- members that are put

in_order_at : (o : Ordering) (k l : List ℕ) (d e : Data) (ms : Members) → slice_cmp nat_cmp k l ≡ o → IsCanonical d → AreMembers (member l e ms) → AreMembers (put k d ms)
    → AreMembers (match_ordering o (member k d (member l e ms)) (member l d ms) (member l e (put k d ms)))
in_order_at Less k l d e ms is one h later = ((is, before_all k l ms is h.0), one, h)
in_order_at Equal k l d e ms is one h later = (h.0, one, h.2)
in_order_at Greater k l d e ms is one h later =
    let below : slice_cmp nat_cmp l k ≡ Less = nat_list_cmp_total.antisymm l k ∙ ap ordering_reverse is in
    (before_put l k d ms below h.0, h.1, later)

put_in_order : (k : List ℕ) (d : Data) (ms : Members) → IsCanonical d → AreMembers ms → AreMembers (put k d ms)
put_in_order k d no_members one h = (tt, one, tt)
put_in_order k d (member l e ms) one h = in_order_at (slice_cmp nat_cmp k l) k l d e ms refl one h (put_in_order k d ms one h.2)

put_shallow : (k : List ℕ) (d : Data) (ms : Members) → members_depth (put k d ms) ≤ max (depth d) (members_depth ms)
put_shallow k d no_members = omega arith
put_shallow k d (member l e ms) = by (slice_cmp nat_cmp k l) (put_shallow k d ms)
  where
    by : (o : Ordering) → members_depth (put k d ms) ≤ max (depth d) (members_depth ms)
        → members_depth (match_ordering o (member k d (member l e ms)) (member l d ms) (member l e (put k d ms))) ≤ max (depth d) (max (depth e) (members_depth ms))
    by Less later = omega arith
    by Equal later = omega arith
    by Greater later = omega arith

-- ---- the metadata

before_pairs : (p : List ℕ × List ℕ) (ps : List (List ℕ × List ℕ)) → has_ascending_keys (p ∷ ps) ≡ true → IsBefore p.0 (pairs_members ps)
before_pairs p [] h = tt
before_pairs p (q ∷ ps) h =
    let parts = and_parts (is_lt (slice_cmp nat_cmp p.0 q.0)) (has_ascending_keys (q ∷ ps)) h in
    let first = less (slice_cmp nat_cmp p.0 q.0) parts.0 in
    (first, before_all p.0 q.0 (pairs_members ps) first (before_pairs q ps parts.1))

pairs_in_order : (ps : List (List ℕ × List ℕ)) → has_ascending_keys ps ≡ true → AreMembers (pairs_members ps)
pairs_in_order [] h = tt
pairs_in_order (p ∷ ps) h = (before_pairs p ps h, tt, pairs_in_order ps (rest_ascends p ps h))

pairs_shallow : (ps : List (List ℕ × List ℕ)) → members_depth (pairs_members ps) ≤ 0
pairs_shallow [] = omega arith
pairs_shallow (p ∷ ps) = omega (arith, pairs_shallow ps)

-- the metadata of these parts
abbrev pub metadata : Members → Members → List ℕ → List ℕ → List ℕ → Members
metadata annotations labels name ns version =
    unless_empty (codes "annotations") annotations
    (unless_empty (codes "labels") labels
    (member (codes "name") (string name) (unless_blank (codes "namespace") ns (member (codes "resourceVersion") (string version) no_members))))

name_in_order : (name ns version : List ℕ) → AreMembers (metadata no_members no_members name ns version)
name_in_order name [] version = ((refl, tt), tt, (tt, tt, tt))
name_in_order name (c ∷ ns) version = ((refl, (refl, tt)), tt, ((refl, tt), tt, (tt, tt, tt)))

labels_first : (name ns version : List ℕ) → IsBefore (codes "labels") (metadata no_members no_members name ns version)
labels_first name [] version = (refl, (refl, tt))
labels_first name (c ∷ ns) version = (refl, (refl, (refl, tt)))

annotations_first : (labels : Members) (name ns version : List ℕ) → IsBefore (codes "annotations") (metadata no_members labels name ns version)
annotations_first no_members name [] version = (refl, (refl, tt))
annotations_first no_members name (c ∷ ns) version = (refl, (refl, (refl, tt)))
annotations_first (member l e labels) name [] version = (refl, (refl, (refl, tt)))
annotations_first (member l e labels) name (c ∷ ns) version = (refl, (refl, (refl, (refl, tt))))

labels_in_order : (labels : Members) (name ns version : List ℕ) → AreMembers labels → AreMembers (metadata no_members labels name ns version)
labels_in_order no_members name ns version k = name_in_order name ns version
labels_in_order (member l e labels) name ns version k = (labels_first name ns version, k, name_in_order name ns version)

metadata_in_order : (annotations labels : Members) (name ns version : List ℕ) → AreMembers annotations → AreMembers labels → AreMembers (metadata annotations labels name ns version)
metadata_in_order no_members labels name ns version h k = labels_in_order labels name ns version k
metadata_in_order (member l e annotations) labels name ns version h k = (annotations_first labels name ns version, h, labels_in_order labels name ns version k)

metadata_shallow : (annotations labels : Members) (name ns version : List ℕ) → members_depth annotations ≤ 0 → members_depth labels ≤ 0
    → members_depth (metadata annotations labels name ns version) ≤ 1
metadata_shallow no_members no_members name [] version h k = omega arith
metadata_shallow no_members no_members name (c ∷ ns) version h k = omega arith
metadata_shallow no_members (member l e labels) name [] version h k = omega arith
metadata_shallow no_members (member l e labels) name (c ∷ ns) version h k = omega arith
metadata_shallow (member l e annotations) no_members name [] version h k = omega arith
metadata_shallow (member l e annotations) no_members name (c ∷ ns) version h k = omega arith
metadata_shallow (member l e annotations) (member m f labels) name [] version h k = omega arith
metadata_shallow (member l e annotations) (member m f labels) name (c ∷ ns) version h k = omega arith

-- ---- the other members

entries_in_order : (entries : List ModeEntry) → AreCanonical (entries_items entries)
entries_in_order [] = tt
entries_in_order (e ∷ es) = (((refl, (refl, tt)), tt, ((refl, tt), tt, (tt, tt, tt))), entries_in_order es)

entries_shallow : (entries : List ModeEntry) → items_depth (entries_items entries) ≤ 1
entries_shallow [] = omega arith
entries_shallow (e ∷ es) = omega (arith, entries_shallow es)

texts_in_order : (texts : List (List ℕ)) → AreCanonical (texts_items texts)
texts_in_order [] = tt
texts_in_order (text ∷ texts) = (tt, texts_in_order texts)

texts_shallow : (texts : List (List ℕ)) → items_depth (texts_items texts) ≤ 0
texts_shallow [] = omega arith
texts_shallow (text ∷ texts) = omega (arith, texts_shallow texts)

conditions_in_order : (conditions : List Condition) → AreCanonical (conditions_items conditions)
conditions_in_order [] = tt
conditions_in_order (c ∷ cs) = (((refl, (refl, (refl, tt))), tt, ((refl, (refl, tt)), tt, ((refl, tt), tt, (tt, tt, tt)))), conditions_in_order cs)

conditions_shallow : (conditions : List Condition) → items_depth (conditions_items conditions) ≤ 1
conditions_shallow [] = omega arith
conditions_shallow (c ∷ cs) = omega (arith, conditions_shallow cs)

spec_in_order : (parent : Option (List ℕ)) (cascade : Bool) → AreMembers (hierarchy_spec parent cascade)
spec_in_order None false = tt
spec_in_order None true = (tt, tt, tt)
spec_in_order (Some parent) false = (tt, tt, tt)
spec_in_order (Some parent) true = ((refl, tt), tt, (tt, tt, tt))

spec_shallow : (parent : Option (List ℕ)) (cascade : Bool) → members_depth (hierarchy_spec parent cascade) ≤ 0
spec_shallow None false = omega arith
spec_shallow None true = omega arith
spec_shallow (Some parent) false = omega arith
spec_shallow (Some parent) true = omega arith

-- the status of these lists
abbrev pub status_of : Items → Items → Members
status_of children conditions = unless_none (codes "children") children (unless_none (codes "conditions") conditions no_members)

status_in_order : (children conditions : Items) → AreCanonical children → AreCanonical conditions → AreMembers (status_of children conditions)
status_in_order no_items no_items h k = tt
status_in_order no_items (item d ds) h k = (tt, k, tt)
status_in_order (item c cs) no_items h k = (tt, h, tt)
status_in_order (item c cs) (item d ds) h k = ((refl, tt), h, (tt, k, tt))

status_shallow : (children conditions : Items) → items_depth children ≤ 0 → items_depth conditions ≤ 1 → members_depth (status_of children conditions) ≤ 2
status_shallow no_items no_items h k = omega arith
status_shallow no_items (item d ds) h k = omega arith
status_shallow (item c cs) no_items h k = omega arith
status_shallow (item c cs) (item d ds) h k = omega arith

-- what is used stands in the order of the limits
used_ascends : (usages : List Usage) → has_ascending_keys (map hard_pair usages) ≡ true → has_ascending_keys (map used_pair usages) ≡ true
used_ascends [] h = refl
used_ascends (u ∷ []) h = refl
used_ascends (u ∷ v ∷ usages) h =
    let parts = and_parts (is_lt (slice_cmp nat_cmp u.resource v.resource)) (has_ascending_keys (map hard_pair (v ∷ usages))) h in
    rw parts.0 (used_ascends (v ∷ usages) parts.1)

-- the status of a quota with these members
abbrev usages_of : Members → Members → Members
usages_of hard used = unless_empty (codes "hard") hard (unless_empty (codes "used") used no_members)

usages_in_order : (hard used : Members) → AreMembers hard → AreMembers used → AreMembers (usages_of hard used)
usages_in_order no_members no_members h k = tt
usages_in_order no_members (member m f used) h k = (tt, k, tt)
usages_in_order (member l e hard) no_members h k = (tt, h, tt)
usages_in_order (member l e hard) (member m f used) h k = ((refl, tt), h, (tt, k, tt))

usages_shallow : (hard used : Members) → members_depth hard ≤ 0 → members_depth used ≤ 0 → members_depth (usages_of hard used) ≤ 1
usages_shallow no_members no_members h k = omega arith
usages_shallow no_members (member m f used) h k = omega arith
usages_shallow (member l e hard) no_members h k = omega arith
usages_shallow (member l e hard) (member m f used) h k = omega arith

-- what is specified, and what is reported
both_in_order : (spec status : Members) → AreMembers spec → AreMembers status → AreMembers (member (codes "spec") (object spec) (unless_empty (codes "status") status no_members))
both_in_order spec no_members h k = (tt, h, tt)
both_in_order spec (member l e status) h k = ((refl, tt), h, (tt, k, tt))

both_shallow : (spec status : Members) → members_depth spec ≤ 1 → members_depth status ≤ 2 → members_depth (member (codes "spec") (object spec) (unless_empty (codes "status") status no_members)) ≤ 3
both_shallow spec no_members h k = omega arith
both_shallow spec (member l e status) h k = omega arith

-- what the kept text of a plain kind reads as
pub plain_whole : (kind : Kind) (members : List ℕ) (need : _) (p : IsPlain kind members need) → members_in (read members) ≡ p.whole
plain_whole kind members need p = ap (λ text. members_in (read text)) p.text ∙ ap members_in (read-compact_text (object p.whole) p.canonical p.shallow)

own_in_order : (kind : Kind) (payload : Payload) → IsPayloadOf kind payload → AreMembers (own_members payload)
own_in_order kind (Namespace terminating) h = (tt, (tt, tt, tt), tt)
own_in_order kind (Config entries) h = (tt, (tt, entries_in_order entries, tt), tt)
own_in_order kind (Hierarchy parent cascade children conditions) h =
    both_in_order (hierarchy_spec parent cascade) (hierarchy_status children conditions) (spec_in_order parent cascade)
    (status_in_order (texts_items children) (conditions_items conditions) (texts_in_order children) (conditions_in_order conditions))
own_in_order kind (Anchor None) h = tt
own_in_order kind (Anchor (Some status)) h = (tt, (tt, tt, tt), tt)
own_in_order kind (Quota hard status) h =
    both_in_order (member (codes "hard") (object (limits_members hard)) no_members) (quota_status status) (tt, pairs_in_order (map limit_pair hard) h.1, tt)
    (usages_in_order (pairs_members (map hard_pair status)) (pairs_members (map used_pair status)) (pairs_in_order (map hard_pair status) h.3) (pairs_in_order (map used_pair status) (used_ascends status h.3)))
own_in_order kind (Plain members need) h = subst AreMembers (sym (plain_whole kind members need h.1)) h.1.canonical

own_shallow : (kind : Kind) (payload : Payload) → IsPayloadOf kind payload → members_depth (own_members payload) ≤ 126
own_shallow kind (Namespace terminating) h = omega arith
own_shallow kind (Config entries) h = omega (arith, entries_shallow entries)
own_shallow kind (Hierarchy parent cascade children conditions) h =
    omega (
      arith,
      both_shallow (hierarchy_spec parent cascade) (hierarchy_status children conditions) (omega (arith, spec_shallow parent cascade))
          (status_shallow (texts_items children) (conditions_items conditions) (texts_shallow children) (conditions_shallow conditions)),
    )
own_shallow kind (Anchor None) h = omega arith
own_shallow kind (Anchor (Some status)) h = omega arith
own_shallow kind (Quota hard status) h =
    omega (
      arith,
      both_shallow (member (codes "hard") (object (limits_members hard)) no_members) (quota_status status) (omega (arith, pairs_shallow (map limit_pair hard)))
          (omega (arith, usages_shallow (pairs_members (map hard_pair status)) (pairs_members (map used_pair status)) (pairs_shallow (map hard_pair status)) (pairs_shallow (map used_pair status)))),
    )
own_shallow kind (Plain members need) h = subst (λ ms. members_depth ms ≤ 126) (sym (plain_whole kind members need h.1)) (omega (arith, h.1.shallow))

-- ---- the whole object

-- the pairs of an object stand in order
pub record HasOrderedPairs (x : Object) : Type 0 where
  pub labels : has_ascending_keys x.labels ≡ true
  pub annotations : has_ascending_keys x.annotations ≡ true

metadata_part : (x : Object) → HasOrderedPairs x → AreMembers (metadata_of x)
metadata_part x h =
    metadata_in_order (pairs_members x.annotations) (pairs_members x.labels) x.id.name x.id.ns (decimal x.version) (pairs_in_order x.annotations h.annotations) (pairs_in_order x.labels h.labels)

pub canonical_object : (x : Object) → IsLegal x → HasOrderedPairs x → IsCanonical (object_data x)
canonical_object x legal h =
    let own = own_in_order x.id.kind x.payload legal.payload in
    let m = put_in_order (codes "metadata") (object (metadata_of x)) (own_members x.payload) (metadata_part x h) own in
    let k = put_in_order (codes "kind") (string (name_of x.id.kind)) _ tt m in
    put_in_order (codes "apiVersion") (string (api_version_of x.id.kind)) _ tt k

pub shallow_object : (x : Object) → IsLegal x → depth (object_data x) ≤ max_depth
shallow_object x legal =
    let metadata = object (metadata_of x) in
    let with_metadata = put (codes "metadata") metadata (own_members x.payload) in
    let with_kind = put (codes "kind") (string (name_of x.id.kind)) with_metadata in
    let low = metadata_shallow (pairs_members x.annotations) (pairs_members x.labels) x.id.name x.id.ns (decimal x.version) (pairs_shallow x.annotations) (pairs_shallow x.labels) in
    omega (
      arith,
      own_shallow x.id.kind x.payload legal.payload,
      low,
      put_shallow (codes "metadata") metadata (own_members x.payload),
      put_shallow (codes "kind") (string (name_of x.id.kind)) with_metadata,
      put_shallow (codes "apiVersion") (string (api_version_of x.id.kind)) with_kind,
    )

-- legal objects of one text have one value
pub same_data : (a b : Object) → IsLegal a → IsLegal b → HasOrderedPairs a → HasOrderedPairs b → object_text a ≡ object_text b → object_data a ≡ object_data b
unfolding object_text
same_data a b p q h k same =
    compact_text_once (object_data a) (object_data b) (canonical_object a p h) (canonical_object b q k) (shallow_object a p) (shallow_object b q) same
