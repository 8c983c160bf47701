-- The requests of each place are ones that a cluster takes.
--     namespace_served, hierarchy_served, role_served, pod_served
use Rattle.std.specs.Prelude.{codes, nat_lt, slice_index, ◌==◌}
use Rattle.std.proofs.Common.{◌≡◌, ◌<◌, ◌≤◌, ◌^◌, ◌-◌, ◌*◌, ◌/◌, ◌%◌, ℕ, suc, zero, ◌+◌, Bool, true, false, cond, ◌&&◌, ◌||◌, List, [], ◌∷◌, length, sum_by, Some, None, refl, sym, arith}
use Rattle.std.specs.Char.{digit_char}
use Rattle.std.specs.Fmt.{decimal}
use Rattle.std.specs.List.{list_all}
use Rattle.std.proofs.lemmas.Bool.{and_parts, le-leb, le-ltb}
use Rattle.std.proofs.lemmas.Bool.Decides.{nat_tests}
use Rattle.std.proofs.lemmas.Fmt.{decimal_by_steps, length-decimal-le}
use Rattle.std.proofs.lemmas.List.Folds.{list_all-append}
use Rattle.json.specs.Print.{escape_byte, escape_letter}
use Rattle.serde_json.specs.Data.{no_members as none}
use Rattle.hx_object.specs.Faults.{object_fault, has_legal_names, has_legal_labels, IsPlain}
use Rattle.hx_object.specs.Names.{is_digit, is_lower, is_dns_byte, is_dns_end, is_role_byte, is_dns_label, is_dns_part, is_subdomain, is_role_name, dash}
use Rattle.std.proofs.lemmas.List.Sums.{sum_by-cons}
use Rattle.hx_object.proofs.Sizes.{hierarchy_size-some, length-quoted}
use Rattle.hx_object.specs.Needs.{need_of}
use Rattle.hx_object.specs.WellKnown.{hierarchy}
use Rattle.hx_object.specs.Sizes.{size_of, specified_size, hierarchy_size}
use Rattle.hx_object.specs.declared.kind.Kind.{Kind}
use Rattle.hx_object.specs.declared.kind.Kind.TheVariants.{HierarchyConfiguration, Role, Pod}
use Rattle.hx_object.specs.declared.object.Id.{Id}
use Rattle.hx_object.specs.declared.object.Need.{Need}
use Rattle.hx_object.specs.declared.object.Payload.{Payload}
use Rattle.hx_model.specs.Serving.{IsServedAsk}
use Rattle.hx_gen.specs.Asked.{namespace_name, role_name, made, namespace_ask, hierarchy_ask, role_ask, pod_ask}

-- ---- names

both : (x y : Bool) → x ≡ true → y ≡ true → (x && y) ≡ true
both x y p q = rw (p, q) refl

digit : (d : ℕ) → d < 10 → is_digit (48 + d) ≡ true
digit d small = grind (arith, nat_tests)

all_digits : (n : ℕ) → n < 2 ^ 64 → list_all is_digit (decimal n) ≡ true
all_digits = decimal_by_steps (λ n ds. list_all is_digit ds ≡ true) (λ n small. both _ _ (digit n small) refl)
    (λ n ds ten front. let small : n % 10 < 10 = omega arith in rw list_all-append (both _ _ front (both _ _ (digit (n % 10) small) refl)))

all_by : (p q : ℕ → Bool) → ((byte : ℕ) → p byte ≡ true → q byte ≡ true) → (xs : List ℕ) → list_all p xs ≡ true → list_all q xs ≡ true
all_by p q by [] all = refl
all_by p q by (x ∷ xs) all = let parts = and_parts (p x) (list_all p xs) all in both _ _ (by x parts.0) (all_by p q by xs parts.1)

at_all : (p : ℕ → Bool) (xs : List ℕ) (k : ℕ) → list_all p xs ≡ true → k < length xs → p (slice_index xs k) ≡ true
at_all p [] k all within = absurd (omega arith)
at_all p (x ∷ xs) zero all within = (and_parts (p x) (list_all p xs) all).0
at_all p (x ∷ xs) (suc k) all within = at_all p xs k (and_parts (p x) (list_all p xs) all).1 (omega arith)

dns_digit : (byte : ℕ) → is_digit byte ≡ true → is_dns_byte byte ≡ true
dns_digit byte is = rw is (elim (is_lower byte) as (λ l. (l || true || (byte == dash)) ≡ true) [ true ↦ refl | false ↦ refl ])

end_digit : (byte : ℕ) → is_digit byte ≡ true → is_dns_end byte ≡ true
end_digit byte is = grind (arith, nat_tests)

role_digit : (byte : ℕ) → is_digit byte ≡ true → is_role_byte byte ≡ true
role_digit byte is = grind (arith, nat_tests)

few : (i : ℕ) → i < 2 ^ 32 → length (decimal i) ≤ 10
few i small = length-decimal-le 10 i (omega arith) (omega arith) (omega arith)

pub legal_namespace : (i : ℕ) → i < 2 ^ 32 → is_dns_label (namespace_name i) ≡ true
unfolding is_dns_label
legal_namespace i small =
    let digits = all_digits i (omega arith) in
    let short = few i small in
    let ends : list_all is_dns_end (namespace_name i) ≡ true = both _ _ refl (all_by is_digit is_dns_end end_digit (decimal i) digits) in
    both _ _ (both _ _ (le-leb 1 (length (namespace_name i)) (omega arith)) (le-leb (length (namespace_name i)) 63 (omega arith)))
    (both _ _ (both _ _ refl (all_by is_digit is_dns_byte dns_digit (decimal i) digits))
    (both _ _ refl (at_all is_dns_end (namespace_name i) (length (namespace_name i) - 1) ends (omega arith))))

legal_role : (i : ℕ) → i < 2 ^ 32 → is_role_name (role_name i) ≡ true
unfolding is_role_name
legal_role i small =
    let digits = all_digits i (omega arith) in
    let short = few i small in
    both _ _ (both _ _ (le-leb 1 (length (role_name i)) (omega arith)) (le-leb (length (role_name i)) 253 (omega arith)))
    (both _ _ (both _ _ refl (all_by is_digit is_role_byte role_digit (decimal i) digits)) refl)

-- ---- sizes

by_tests : (a b : Bool) (u v w : List ℕ) → length u ≤ 6 → length v ≤ 6 → length w ≤ 6 → length (cond a u (cond b v w)) ≤ 6
by_tests true b u v w p q r = p
by_tests false true u v w p q r = q
by_tests false false u v w p q r = r

short_byte : (byte : ℕ) → length (escape_byte byte) ≤ 6
unfolding escape_byte
short_byte byte =
    by_tests (nat_lt 0 (escape_letter byte)) (nat_lt byte 32) (92 ∷ escape_letter byte ∷ []) (92 ∷ 117 ∷ 48 ∷ 48 ∷ digit_char (byte / 16) ∷ digit_char (byte % 16) ∷ []) (byte ∷ []) (omega arith) (omega arith) (omega arith)

short_bytes : (text : List ℕ) → sum_by (λ byte. length (escape_byte byte)) text ≤ 6 * length text
short_bytes [] = omega arith
short_bytes (byte ∷ text) = omega (arith, sum_by-cons (λ byte. length (escape_byte byte)) byte text, short_byte byte, short_bytes text)

small_hierarchy : (parent : ℕ) → parent < 2 ^ 32 → hierarchy_size (Some (namespace_name parent)) false ≤ 65536
small_hierarchy parent small = omega (arith, hierarchy_size-some (namespace_name parent), length-quoted (namespace_name parent), short_bytes (namespace_name parent), few parent small)

-- ---- objects

sound : (id : Id) (payload : Payload) → has_legal_names id ≡ true → specified_size payload ≤ 65536 → object_fault (made id payload) ≡ None
unfolding object_fault has_legal_labels size_of
sound id payload names small =
    let few : nat_lt 65536 (0 + (0 + specified_size payload)) ≡ false = le-ltb 65536 (0 + (0 + specified_size payload)) (omega arith) in
    rw (names, few) refl

pub namespace_served : (i : ℕ) → i < 2 ^ 32 → IsServedAsk (namespace_ask i)
unfolding has_legal_names
namespace_served i small = (
  record {
    legal = record { sound = sound _ _ (legal_namespace i small) (omega arith); home = λ _. refl; payload = refl };
    kept = record { labels = refl; annotations = refl; payload = refl; typed = refl };
  },
  refl,
  refl,
)

-- the namespace and the name of an object in the namespace of a place
hierarchy_names : (i : ℕ) → i < 2 ^ 32 → has_legal_names (record { kind = HierarchyConfiguration; ns = namespace_name i; name = hierarchy }) ≡ true
unfolding has_legal_names is_subdomain is_dns_part
hierarchy_names i small = both _ _ (legal_namespace i small) refl

role_names : (i : ℕ) → i < 2 ^ 32 → has_legal_names (record { kind = Role; ns = namespace_name i; name = role_name i }) ≡ true
unfolding has_legal_names
role_names i small = both _ _ (legal_namespace i small) (legal_role i small)

pod_names : (i : ℕ) → i < 2 ^ 32 → has_legal_names (record { kind = Pod; ns = namespace_name i; name = codes "p" }) ≡ true
unfolding has_legal_names is_subdomain is_dns_part
pod_names i small = both _ _ (legal_namespace i small) refl

pub hierarchy_served : (i parent : ℕ) → i < 2 ^ 32 → parent < 2 ^ 32 → IsServedAsk (hierarchy_ask i parent)
hierarchy_served i parent small within = (
  record {
    legal = record { sound = sound _ _ (hierarchy_names i small) (small_hierarchy parent within); home = λ (e : false ≡ true). cc; payload = (refl, λ e. let h : Some (namespace_name parent) ≡ Some [] = e in cc) };
    kept = record { labels = refl; annotations = refl; payload = refl; typed = refl };
  },
  refl,
  refl,
)

abbrev no_need : Need
no_need = record { finished = false; token = false; storage = 0; containers = [] }

plain : (kind : Kind) → need_of kind none ≡ no_need → IsPlain kind (codes "{}") no_need
plain kind says = record { whole = none; text = refl; canonical = tt; shallow = omega arith; own = (refl, refl, refl); says = sym says }

pub role_served : (i : ℕ) → i < 2 ^ 32 → IsServedAsk (role_ask i)
role_served i small = (
  record {
    legal = record { sound = sound _ _ (role_names i small) (omega arith); home = λ (e : false ≡ true). cc; payload = (refl, plain Role refl) };
    kept = record { labels = refl; annotations = refl; payload = refl; typed = refl };
  },
  refl,
  refl,
)

pub pod_served : (i : ℕ) → i < 2 ^ 32 → IsServedAsk (pod_ask i)
pod_served i small = (
  record {
    legal = record { sound = sound _ _ (pod_names i small) (omega arith); home = λ (e : false ≡ true). cc; payload = (refl, plain Pod refl) };
    kept = record { labels = refl; annotations = refl; payload = refl; typed = refl };
  },
  refl,
  refl,
)
