-- Keys of rows that are formed without memory: their first bytes part by part, the whole key of a legal object, and the test of bytes part by part.
use Rattle.std.proofs.Common.{◌≡◌, ℕ, zero, suc, ◌+◌, ◌-◌, ◌≤◌, min, Bool, true, false, not, ◌&&◌, ◌||◌, nat_eq, if◌then◌else◌, List, [], ◌∷◌, ◌++◌, codes, length, take, drop, Option, None, Some, refl, sym, ap, subst, ◌∙◌, arith, append_assoc, length-append, leb, leb-true}
use Rattle.std.proofs.lemmas.Bool.{and_parts}
use Rattle.std.proofs.lemmas.List.{take_all, take_min}
use Rattle.std.specs.Bool.{one_answer}
use Rattle.std.specs.Cmp.Lexicographic.{bytes_decides}
use Rattle.std.specs.Str.{bytes_eq}
use Rattle.hx_object.proofs.Sameness.{exact_id}
use Rattle.hx_object.specs.Faults.{IsLegal, object_fault, has_legal_names, has_legal_namespace}
use Rattle.hx_object.specs.Kinds.{is_in_cluster, number_of}
use Rattle.hx_object.specs.Names.{is_dns_label, is_dns_subdomain, is_subdomain, is_role_name, is_name_of, has_length}
use Rattle.hx_object.specs.contracts.object.IdEq.TheImpl.Laws.{laws-law}
use Rattle.hx_object.specs.contracts.object.IdPartialEq.TheImpl as id_eq
use Rattle.hx_object.specs.declared.kind.Kind.{Kind}
use Rattle.hx_object.specs.declared.kind.Kind.TheVariants.{Namespace, SubnamespaceAnchor, Role, RoleBinding}
use Rattle.hx_object.specs.declared.object.Id.{Id}
use Rattle.hx_object.specs.declared.object.Object.{Object}
use Rattle.hx_object.specs.declared.object.ObjectFault.{ObjectFault}
use Rattle.hx_object.specs.declared.object.ObjectFault.TheVariants.{BadName}
use Rattle.hx_model.proofs.Legality.{keyed_legal}
use Rattle.hx_model.proofs.Storing.{key_text-injective}
use Rattle.hx_model.specs.Texts.{key_text, two_digits}
use Rattle.hx_ports.specs.Held.{key_front}

-- ---- first bytes

-- what is taken is taken by a shorter list, too
room_taken : (n : ℕ) (old part : List ℕ) → length old ≤ n → take n (old ++ part) ≡ old ++ take (n - length old) part
room_taken n [] part h = let same : n ≡ n - 0 = omega arith in ap (λ k. take k part) same
room_taken zero (x ∷ old) part h = absurd (omega arith)
room_taken (suc n) (x ∷ old) part h =
    let same : n - length old ≡ suc n - suc (length old) = omega arith in
    ap (λ l. x ∷ l) (room_taken n old part (omega arith) ∙ ap (λ k. old ++ take k part) same)

-- a part was added as far as there was room
pub pushed : (old part new : List ℕ) (room : ℕ) → room ≡ min (320 - length old) (length part) → length old ≤ 320 → new ≡ old ++ take room part → new ≡ key_front (old ++ part)
unfolding key_front
pushed old part new room is fits grown =
    grown ∙ ap (λ k. old ++ take k part) is ∙ ap (λ l. old ++ l) (take_min (320 - length old) part) ∙ sym (room_taken 320 old part fits)

-- a slice that ends where the bytes do, or before
pub front_taken : (key : List ℕ) (n : ℕ) → n ≡ min (length key) 320 → take n key ≡ key_front key
unfolding key_front
front_taken key n is = let same : n ≡ min 320 (length key) = omega (arith, is) in ap (λ k. take k key) same ∙ take_min 320 key

front_again : (n : ℕ) (a b : List ℕ) → take n (take n a ++ b) ≡ take n (a ++ b)
front_again zero a b = refl
front_again (suc n) [] b = refl
front_again (suc n) (x ∷ a) b = ap (λ l. x ∷ l) (front_again n a b)

front_then : (front a b : List ℕ) → front ≡ key_front a → key_front (front ++ b) ≡ key_front (a ++ b)
unfolding key_front
front_then front a b is = ap (λ l. take 320 (l ++ b)) is ∙ front_again 320 a b

parts_of : (a b c d e : List ℕ) → (((a ++ b) ++ c) ++ d) ++ e ≡ a ++ (b ++ (c ++ (d ++ e)))
parts_of a b c d e = append_assoc ((a ++ b) ++ c) d e ∙ append_assoc (a ++ b) c (d ++ e) ∙ append_assoc a b (c ++ (d ++ e))

-- the parts of a key were added, one behind the other
pub formed : (id : Id) (none one two three four five digits first ns second name : List ℕ) → none ≡ [] → one ≡ key_front (none ++ digits) → two ≡ key_front (one ++ first) → three ≡ key_front (two ++ ns) → four ≡ key_front (three ++ second) → five ≡ key_front (four ++ name)
    → digits ≡ two_digits (number_of id.kind) → first ≡ codes "/" → ns ≡ id.ns → second ≡ codes "/" → name ≡ id.name → five ≡ key_front (key_text id)
unfolding key_text
formed id none one two three four five digits first ns second name empty a b c d e is_digits is_first is_ns is_second is_name =
    let a' : one ≡ key_front digits = a ∙ ap (λ l. key_front (l ++ digits)) empty in
    let b' = b ∙ front_then one digits first a' in
    let c' = c ∙ front_then two (digits ++ first) ns b' in
    let d' = d ∙ front_then three ((digits ++ first) ++ ns) second c' in
    e ∙ front_then four (((digits ++ first) ++ ns) ++ second) name d' ∙ ap key_front (parts_of digits first ns second name)
    ∙ (λ i. key_front (is_digits i ++ (is_first i ++ (is_ns i ++ (is_second i ++ is_name i)))))

-- ---- the key of a legal object

most : (least most : ℕ) (text : List ℕ) → has_length least most text ≡ true → length text ≤ most
most least n text h = leb-true (length text) n (and_parts (leb least (length text)) (leb (length text) n) h).1

label_length : (name : List ℕ) → is_dns_label name ≡ true → length name ≤ 63
unfolding is_dns_label
label_length name h = most 1 63 name (and_parts _ _ h).0

subdomain_length : (name : List ℕ) → is_dns_subdomain name ≡ true → length name ≤ 253
unfolding is_subdomain
subdomain_length name h = most 1 253 name (and_parts _ _ h).0

role_length : (name : List ℕ) → is_role_name name ≡ true → length name ≤ 253
unfolding is_role_name
role_length name h = most 1 253 name (and_parts _ _ h).0

short : (name : List ℕ) → is_dns_label name ≡ true → length name ≤ 253
short name h = let n : length name ≤ 63 = label_length name h in omega arith

name_length : (kind : Kind) (name : List ℕ) → is_name_of kind name ≡ true → length name ≤ 253
name_length Namespace name h = short name h
name_length SubnamespaceAnchor name h = short name h
name_length Role name h = role_length name h
name_length RoleBinding name h = role_length name h
name_length kind name h = subdomain_length name h

passed : (b : Bool) (fault : ObjectFault) (rest : Option ObjectFault) → (if not b then Some fault else rest) ≡ None → b ≡ true
passed true fault rest e = refl
passed false fault rest e = absurd (let h : Some fault ≡ None = e in cc)

has_names : (x : Object) → object_fault x ≡ None → has_legal_names x.id ≡ true
unfolding object_fault
has_names x e = passed (has_legal_names x.id) BadName _ e

names_length : (x : Object) → IsLegal x → length x.id.ns + length x.id.name ≤ 316
unfolding has_legal_names
names_length x legal =
    let names = and_parts (has_legal_namespace x.id) (is_name_of x.id.kind x.id.name) (has_names x legal.sound) in
    let name : length x.id.name ≤ 253 = name_length x.id.kind x.id.name names.1 in
    let ns : length x.id.ns ≤ 63 = elim (is_in_cluster x.id.kind) as (λ b. is_in_cluster x.id.kind ≡ b → (b || is_dns_label x.id.ns) ≡ true → length x.id.ns ≤ 63) [
      | true ↦ λ e _. let none : length x.id.ns ≡ 0 = ap length (legal.home e) in omega arith
      | false ↦ λ e label. label_length x.id.ns label
    ] refl names.0 in
    omega arith

key_length : (id : Id) → length id.ns + length id.name ≤ 316 → length (key_text id) ≤ 320
unfolding key_text
key_length id h =
    let rest : length (id.ns ++ (47 ∷ id.name)) ≡ length id.ns + suc (length id.name) = length-append id.ns (47 ∷ id.name) in
    let whole : length (key_text id) ≡ 3 + length (id.ns ++ (47 ∷ id.name)) = omega arith in
    omega arith

-- the key of a legal object has no more bytes than are formed
pub whole_key : (x : Object) → IsLegal x → key_front (key_text x.id) ≡ key_text x.id
unfolding key_front
whole_key x legal = take_all 320 (key_text x.id) (key_length x.id (names_length x legal))

-- legal objects have one key where their identity is one
pub one_key : (x y : Object) (same : Bool) → IsLegal x → IsLegal y → same ≡ (id_eq.ghosts).eq x.id y.id → same ≡ bytes_eq (key_text x.id) (key_text y.id)
one_key x y same p q is =
    is ∙ one_answer {P = x.id ≡ y.id} ((id_eq.ghosts).eq x.id y.id) (bytes_eq (key_text x.id) (key_text y.id))
    (exact_id x.id y.id, λ e. subst (λ (id : Id). (id_eq.ghosts).eq x.id id ≡ true) e (laws-law.refl x.id))
    (λ h. key_text-injective x.id y.id (keyed_legal x p) (keyed_legal y q) ((bytes_decides (key_text x.id) (key_text y.id)).0 h), λ e. (bytes_decides (key_text x.id) (key_text y.id)).1 (ap key_text e))

-- ---- bytes part by part

grouped : (a b c : Bool) → (a && (b && c)) ≡ ((a && b) && c)
grouped true b c = refl
grouped false b c = refl

in_parts : (bytes a b : List ℕ) → bytes_eq bytes (a ++ b) ≡ (bytes_eq (take (length a) bytes) a && bytes_eq (drop (length a) bytes) b)
in_parts bytes [] b = refl
in_parts [] (x ∷ a) b = refl
in_parts (y ∷ bytes) (x ∷ a) b = ap (λ t. nat_eq y x && t) (in_parts bytes a b) ∙ grouped (nat_eq y x) (bytes_eq (take (length a) bytes) a) (bytes_eq (drop (length a) bytes) b)

-- bytes that don't begin with a part, and bytes that do
pub not_begun : (bytes part a b : List ℕ) → part ≡ a → bytes_eq (take (length part) bytes) part ≡ false → bytes_eq bytes (a ++ b) ≡ false
not_begun bytes part a b is not = in_parts bytes a b ∙ ap (λ t. t && bytes_eq (drop (length a) bytes) b) (ap (λ p. bytes_eq (take (length p) bytes) p) (sym is) ∙ not)

pub begun : (bytes part rest a b : List ℕ) → part ≡ a → bytes_eq (take (length part) bytes) part ≡ true → rest ≡ drop (length part) bytes → bytes_eq bytes (a ++ b) ≡ bytes_eq rest b
begun bytes part rest a b is so left =
    in_parts bytes a b ∙ ap (λ t. t && bytes_eq (drop (length a) bytes) b) (ap (λ p. bytes_eq (take (length p) bytes) p) (sym is) ∙ so)
    ∙ ap (λ l. bytes_eq l b) (ap (λ p. drop (length p) bytes) (sym is) ∙ sym left)

-- what stands in a key behind the digits
abbrev pub behind_digits : Id → List ℕ
behind_digits id = codes "/" ++ (id.ns ++ (codes "/" ++ id.name))

pub key_is : (id : Id) → key_text id ≡ two_digits (number_of id.kind) ++ behind_digits id
unfolding key_text
key_is id = refl
