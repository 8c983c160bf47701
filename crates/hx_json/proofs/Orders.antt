-- What an ordered tree keeps, part by part, and texts of one value.
use Rattle.std.proofs.Common.{◌≡◌, ◌≤◌, ℕ, List, Bool, true, false, cond, Option, Some, None, Bor, option_map, unwrap_or, Ordering, Less, Equal, Greater, nat_cmp, is_eq, codes, refl, sym, ap, ◌∙◌, subst, true≢false, bytes_eq}
use Rattle.std.specs.Ordering.{match_ordering}
use Rattle.std.specs.Cmp.Lexicographic.{slice_cmp}
use Rattle.std.specs.Prelude.{IsUtf8}
use Rattle.std.proofs.lemmas.Bool.{and_parts}
use Rattle.std.proofs.lemmas.Map.Text.{is_eq-slice_cmp}
use Rattle.std.proofs.lemmas.Slice.Eq.{bytes_eq-Decides}
use Rattle.json.specs.Json.{Json}
use Rattle.json.specs.Find as find
use Rattle.serde_json.specs.Data.{Data, null, boolean, number, string, array, object, Members, no_members, member, depth}
use Rattle.serde_json.specs.Find.{get, get_member}
use Rattle.serde_json.specs.Read.{max_depth, read}
use Rattle.serde_json.specs.Written.{has_float}
use Rattle.serde_json.proofs.Nesting.{depth-read}
use Rattle.hx_object.specs.Canonical.{IsCanonical}
use Rattle.hx_object.specs.declared.kind.Kind.{Kind}
use Rattle.hx_object.specs.declared.object.Object.{Object}
use Rattle.hx_json.specs.Inside.{AreAlike, IsFaultIn, Says}
use Rattle.hx_json.specs.Reading.{Target, fault_of, kept_members, without}
use Rattle.hx_json.specs.ReadObject.{IsFaultOf, IsReadOf, IsWhole}
use Rattle.hx_json.specs.Trees.{data_of, is_tame, is_ordered, is_sorted, is_sorted_in, is_sorted_inside, has_sorted_pairs, tree_of}
use Rattle.hx_json.specs.declared.fault.JsonFault.{JsonFault}
use Rattle.hx_json.specs.declared.fault.JsonFault.TheVariants.{NotJson, NotWhole, WrongKind, MissingMember, WrongType, BadQuantity, WrongPlace, Object as ObjectFaultOf, NoMemory}
use Rattle.hx_json.proofs.Canonical.{read-canonical}
use Rattle.json.specs.Value.{value_view}
use Rattle.json.specs.declared.value.Value.{Value}
use Rattle.hx_json.proofs.Trees.{read_tame, whole_data}

-- ---- ordered trees

pub tame : (kind : Kind) (j : Json) → is_ordered kind j ≡ true → is_tame j ≡ true
tame kind j h = (and_parts (is_tame j) _ h).0

labels_in : (o : Option Json) → unwrap_or (option_map has_sorted_pairs o) true ≡ true → unwrap_or (option_map (is_sorted_in (codes "labels")) o) true ≡ true
labels_in None h = refl
labels_in (Some j) h = (and_parts (is_sorted_in (codes "labels") j) _ h).0

-- ---- the value of an ordered tree

module _ (text : List ℕ) (kind : Kind) (j : Json) (is : tree_of text ≡ Some j) (h : is_ordered kind j ≡ true) where
  pub ordered_read : read text ≡ Some (data_of j)
  ordered_read = read_tame text j is (tame kind j h)

  pub ordered_canonical : IsCanonical (data_of j)
  ordered_canonical = read-canonical text (data_of j) ordered_read (whole_data j)

  pub ordered_shallow : depth (data_of j) ≤ max_depth
  ordered_shallow = depth-read text (data_of j) ordered_read

  pub ordered_whole : IsUtf8 text → IsWhole text (data_of j)
  ordered_whole utf8 = (utf8, ordered_read, whole_data j)

-- a fault of the value is one of the text
pub fault_told : (p : Target) (text : List ℕ) (d : Data) (f : JsonFault) → IsWhole text d → IsFaultIn p d f → IsFaultOf p text f
fault_told p text d NotJson whole h = absurd h
fault_told p text d NotWhole whole h = absurd h
fault_told p text d WrongKind whole h = (d, whole, h)
fault_told p text d (MissingMember m) whole h = (d, whole, h)
fault_told p text d (WrongType m) whole h = (d, whole, h)
fault_told p text d (BadQuantity m) whole h = (d, whole, h)
fault_told p text d WrongPlace whole h = (d, whole, h)
fault_told p text d (ObjectFaultOf f) whole h = (d, whole, h)
fault_told p text d NoMemory whole h = tt

pub read_told : (p : Target) (text : List ℕ) (d : Data) (x : Object) (expected : Option ℕ) → IsWhole text d → Says p d x expected → IsReadOf p text x expected
read_told p text d x expected whole h = record { value = d; whole = whole; sound = h.0; says = h.1; expects = h.2 }

-- ---- texts of one value

one_value : (text : List ℕ) (d e : Data) → read text ≡ Some d → read text ≡ Some e → e ≡ d
one_value text d e is at = let both : Some e ≡ Some d = sym at ∙ is in cc

no_value : (text : List ℕ) (d : Data) → read text ≡ Some d → read text ≡ None → ⊥
no_value text d is none = let both : Some d ≡ None = sym is ∙ none in cc

pub read_alike : (p : Target) (one other : List ℕ) (x : Object) (expected : Option ℕ) → AreAlike one other → IsReadOf p other x expected → IsReadOf p one x expected
read_alike p one other x expected alike r =
    let same = one_value other alike.0 r.value alike.2.1 r.whole.1 in
    record {
      value = r.value;
      whole = subst (IsWhole one) (sym same) alike.1;
      sound = r.sound;
      says = r.says;
      expects = r.expects;
    }

fault_as : (p : Target) (one other : List ℕ) (f : JsonFault) → AreAlike one other → (d : Data) × IsWhole other d × (fault_of p d ≡ Some f) → (d : Data) × IsWhole one d × (fault_of p d ≡ Some f)
fault_as p one other f alike h = (h.0, subst (IsWhole one) (sym (one_value other alike.0 h.0 alike.2.1 h.1.1)) alike.1, h.2)

pub fault_alike : (p : Target) (one other : List ℕ) (f : JsonFault) → AreAlike one other → IsFaultOf p other f → IsFaultOf p one f
fault_alike p one other NotJson alike h = absurd (no_value other alike.0 alike.2.1 (h alike.2.0))
fault_alike p one other NotWhole alike h =
    let same = one_value other alike.0 h.0 alike.2.1 h.2 in
    absurd (true≢false (sym h.3 ∙ ap has_float same ∙ alike.2.2))
fault_alike p one other WrongKind alike h = fault_as p one other WrongKind alike h
fault_alike p one other (MissingMember m) alike h = fault_as p one other (MissingMember m) alike h
fault_alike p one other (WrongType m) alike h = fault_as p one other (WrongType m) alike h
fault_alike p one other (BadQuantity m) alike h = fault_as p one other (BadQuantity m) alike h
fault_alike p one other WrongPlace alike h = fault_as p one other WrongPlace alike h
fault_alike p one other (ObjectFaultOf f) alike h = fault_as p one other (ObjectFaultOf f) alike h
fault_alike p one other NoMemory alike h = tt

-- ---- a look-up past what is removed

either : (o : Ordering) (a b : Option Data) → is_eq o ≡ false → match_ordering o a b a ≡ a
either Less a b e = refl
either Equal a b e = absurd (true≢false e)
either Greater a b e = refl

pub get_without : (n k : List ℕ) (ms : Members) → bytes_eq k n ≡ false → get_member k (without n ms) ≡ get_member k ms
get_without n k no_members other = refl
get_without n k (member l d ms) other = by (bytes_eq n l) refl (get_without n k ms other)
  where
    by : (b : Bool) → bytes_eq n l ≡ b → get_member k (without n ms) ≡ get_member k ms → get_member k (cond b ms (member l d (without n ms))) ≡ get_member k (member l d ms)
    by true e later =
        let same : n ≡ l = (bytes_eq-Decides n l).0 e in
        sym (either (slice_cmp nat_cmp k l) (get_member k ms) (Some d) (is_eq-slice_cmp k l ∙ ap (bytes_eq k) (sym same) ∙ other))
    by false e later = ap (λ o. match_ordering (slice_cmp nat_cmp k l) o (Some d) o) later

-- the type of a Secret isn't removed
pub type_kept : (d : Data) → get_member (codes "type") (kept_members d) ≡ get (codes "type") d
type_kept null = refl
type_kept (boolean b) = refl
type_kept (number n) = refl
type_kept (string s) = refl
type_kept (array ds) = refl
type_kept (object ms) =
    get_without (codes "metadata") (codes "type") (without (codes "kind") (without (codes "apiVersion") ms)) refl
    ∙ get_without (codes "kind") (codes "type") (without (codes "apiVersion") ms) refl
    ∙ get_without (codes "apiVersion") (codes "type") ms refl

-- ---- members of sorted trees

-- a member that is found there is sorted
pub found_sorted : (name : List ℕ) (j i : Json) → is_sorted_in name j ≡ true → Some i ≡ find.get name j → is_sorted i ≡ true
found_sorted name j i h is = ap (λ q. unwrap_or (option_map is_sorted q) true) is ∙ h

pub found_inside : (name : List ℕ) (j i : Json) → is_sorted_inside name j ≡ true → Some i ≡ find.get (codes "metadata") j → is_sorted_in name i ≡ true
found_inside name j i h is = ap (λ q. unwrap_or (option_map (is_sorted_in name) q) true) is ∙ h

-- what is said of each that is found
pub said_of : {A : Type 0} (r : Option (Bor (Value A))) → option_map (λ v. data_of (value_view v.now)) r ≡ option_map data_of (option_map (λ v. value_view v.now) r)
said_of None = refl
said_of (Some v) = refl
