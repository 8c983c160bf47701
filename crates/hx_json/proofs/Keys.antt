-- Keys of rows, cut at their slashes.
--     cut_is, cut_back      what `split_once` at a slash gives, and that it is the one cut
--     outer_cut, inner_cut  where the key of an identity is cut
--     kind_is, kind_back    the kind of two digits
use Rattle.std.proofs.Common.{◌≡◌, ◌≢◌, ◌<◌, ℕ, zero, suc, Bool, true, false, cond, not, ◌||◌, ◌==◌, List, [], ◌∷◌, ◌++◌, length, get_or, Option, Some, None, Bor, bytes_eq, find, refl, sym, subst, ap, ◌∙◌, arith, true≢false, eqb-true, eq-eqb}
use Rattle.std.specs.Prelude.{IfSome, MatchOption}
use Rattle.std.proofs.lemmas.Slice.Eq.{bytes_eq-Decides}
use Rattle.std.proofs.lemmas.Str.Pattern.{IsSplitOnceResult, split_after, split_parts}
use Rattle.hx_object.specs.Kinds.{all_kinds, is_in_cluster, number_of}
use Rattle.hx_object.specs.Names.{slash}
use Rattle.hx_object.specs.declared.kind.Kind.{Kind}
use Rattle.hx_object.specs.declared.kind.Kind.TheVariants as of
use Rattle.hx_object.specs.declared.object.Id.{Id}
use Rattle.hx_model.specs.Texts.{key_text, two_digits}
use Rattle.hx_json.specs.Rows.{HasNoSlash, IsCutAt, IsKeyOf, kind_in, may_lie_in}

-- ---- one cut

other_than_slash : (byte : ℕ) (b : Bool) → (byte == slash) ≡ b → byte ≢ slash → b ≡ false
other_than_slash byte true is other = absurd (other (eqb-true byte slash is))
other_than_slash byte false is other = refl

slashless_from : (xs : List ℕ) → ((i : ℕ) → i < length xs → get_or xs i 0 ≢ slash) → HasNoSlash xs
slashless_from [] h = tt
slashless_from (x ∷ xs) h = (other_than_slash x (x == slash) refl (h 0 (omega arith)), slashless_from xs (λ i below. h (suc i) (omega arith)))

slashless_at : (xs : List ℕ) → HasNoSlash xs → (i : ℕ) → i < length xs → get_or xs i 0 ≢ slash
slashless_at [] h i below = absurd (omega arith)
slashless_at (x ∷ xs) h zero below = λ is. true≢false (sym (eq-eqb x slash is) ∙ h.0)
slashless_at (x ∷ xs) h (suc i) below = slashless_at xs h.1 i (omega arith)

pub cut_is : (text : List ℕ) (r : Option (Bor (List ℕ) × Bor (List ℕ))) → IsSplitOnceResult slash text r → IfSome r (λ cut. IsCutAt text cut.0.now cut.1.now)
cut_is text None h = tt
cut_is text (Some cut) h =
    let parts = split_parts slash text (Some cut) h (omega arith) in
    record { slashless = slashless_from cut.0.now parts.1; is = parts.0 }

pub cut_back : (text : List ℕ) (r : Option (Bor (List ℕ) × Bor (List ℕ))) → IsSplitOnceResult slash text r → (front rest : List ℕ) → IsCutAt text front rest
    → MatchOption r ⊥ (λ cut. (cut.0.now ≡ front) × (cut.1.now ≡ rest))
cut_back text r h front rest cut = split_after slash text front rest r h (omega arith) cut.is (slashless_at front cut.slashless)

-- ---- the cuts of a key

digits_slashless : (kind : Kind) → HasNoSlash (two_digits (number_of kind))
digits_slashless of.Namespace = (refl, (refl, tt))
digits_slashless kind = (refl, (refl, tt))

-- behind the digits and the first slash
abbrev pub behind_digits : Id → List ℕ
behind_digits id = id.ns ++ (slash ∷ id.name)

pub outer_cut : (key : List ℕ) (id : Id) → IsKeyOf key id → IsCutAt key (two_digits (number_of id.kind)) (behind_digits id)
unfolding key_text
outer_cut key id h = record { slashless = digits_slashless id.kind; is = h.is }

pub inner_cut : (key : List ℕ) (id : Id) → IsKeyOf key id → IsCutAt (behind_digits id) id.ns id.name
inner_cut key id h = record { slashless = h.slashless; is = refl }

-- ---- the kind

pub kind_back : (digits : List ℕ) (kind : Kind) → digits ≡ two_digits (number_of kind) → kind_in digits ≡ Some kind
kind_back digits kind is = ap kind_in is ∙ by kind
  where
    by : (kind : Kind) → kind_in (two_digits (number_of kind)) ≡ Some kind
    by of.Namespace = refl
    by kind = refl

passes_by : {A : Type 0} (p : A → Bool) (y x : A) (rest : Option A) → (rest ≡ Some x → p x ≡ true) → (b : Bool) → p y ≡ b → cond b (Some y) rest ≡ Some x → p x ≡ true
passes_by p y x rest later true is h = let same : y ≡ x = cc in subst (λ z. p z ≡ true) same is
passes_by p y x rest later false is h = later h

found_passes : {A : Type 0} (p : A → Bool) (xs : List A) (x : A) → find p xs ≡ Some x → p x ≡ true
found_passes p [] x h = absurd (let clash = h in cc)
found_passes p (y ∷ xs) x h = passes_by p y x (find p xs) (found_passes p xs x) (p y) refl h

pub kind_is : (digits : List ℕ) (kind : Kind) → kind_in digits ≡ Some kind → digits ≡ two_digits (number_of kind)
kind_is digits kind h = (bytes_eq-Decides digits (two_digits (number_of kind))).0 (found_passes (λ kind. bytes_eq digits (two_digits (number_of kind))) all_kinds kind h)

-- ---- the key

may_lie : (kind : Kind) (ns : List ℕ) → may_lie_in kind ns ≡ true → is_in_cluster kind ≡ true → ns ≡ []
may_lie kind ns may inside = by (is_in_cluster kind) inside may
  where
    by : (b : Bool) → b ≡ true → (not b || bytes_eq ns []) ≡ true → ns ≡ []
    by true inside may = (bytes_eq-Decides ns []).0 may
    by false inside may = absurd (true≢false (sym inside))

pub may_lie_back : (kind : Kind) (ns : List ℕ) → (is_in_cluster kind ≡ true → ns ≡ []) → may_lie_in kind ns ≡ true
may_lie_back kind ns home = by (is_in_cluster kind) home
  where
    by : (b : Bool) → (b ≡ true → ns ≡ []) → (not b || bytes_eq ns []) ≡ true
    by true home = (bytes_eq-Decides ns []).1 (home refl)
    by false home = refl

-- parts that were cut are those of a key
pub key_is : (key digits rest ns name : List ℕ) (kind : Kind) → IsCutAt key digits rest → IsCutAt rest ns name → kind_in digits ≡ Some kind → may_lie_in kind ns ≡ true
    → IsKeyOf key (record { kind = kind; ns = ns; name = name })
unfolding key_text
key_is key digits rest ns name kind outer inner found may =
    let known = kind_is digits kind found in
    record {
      is = outer.is ∙ (λ i. known i ++ (slash ∷ inner.is i));
      home = may_lie kind ns may;
      slashless = inner.slashless;
    }

-- cuts of the key of an identity are its parts
module _ (key digits rest : List ℕ) (id : Id) (h : IsKeyOf key id) (outer : (front behind : List ℕ) → IsCutAt key front behind → (digits ≡ front) × (rest ≡ behind)) where
  pub inner_back : IsCutAt rest id.ns id.name
  inner_back = subst (λ t. IsCutAt t id.ns id.name) (sym (outer _ _ (outer_cut key id h)).1) (inner_cut key id h)

  pub known_back : kind_in digits ≡ Some id.kind
  known_back = kind_back digits id.kind (outer _ _ (outer_cut key id h)).0

  pub may_back : (ns : List ℕ) (kind : Kind) → ns ≡ id.ns → kind ≡ id.kind → may_lie_in kind ns ≡ true
  may_back ns kind same known = (λ i. may_lie_in (known i) (same i)) ∙ may_lie_back id.kind id.ns h.home
