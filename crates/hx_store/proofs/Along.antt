-- ObjectTable that are walked: what a push, a write and a removal do to the look-ups.
use Rattle.std.proofs.Common.{◌≡◌, ℕ, zero, suc, Bool, true, false, cond, not, Option, Some, None, List, [], ◌∷◌, ◌++◌, ◌<◌, ◌≤◌, length, get_or, drop, drop-cons, ◌+◌, arith, refl, sym, ap, subst, ◌∙◌, true≢false}
use Rattle.std.specs.Prelude.{is_some, IsSome, position, slice_set}
use Rattle.std.specs.List.{IsDistinct, filter, position_or_len}
use Rattle.std.specs.Map.{keys_of, lookup, set_value}
use Rattle.std.specs.Option.{option_or}
use Rattle.std.specs.Str.{bytes_eq}
use Rattle.std.proofs.lemmas.Cmp.{nat_list_eq_equiv}
use Rattle.std.proofs.lemmas.Grind.{common_steps}
use Rattle.std.proofs.lemmas.List.{drop_all}
use Rattle.std.proofs.lemmas.List.Quantifiers.{position-Some}
use Rattle.std.proofs.lemmas.List.Sums.{fails_before_first}
use Rattle.std.proofs.lemmas.Map.{keys-set_value, lookup-set_value}
use Rattle.std.proofs.lemmas.Map.Entries.{lookup-filter-keys}
use Rattle.std.proofs.lemmas.Map.Keys.{IsDistinct-push}
use Rattle.std.proofs.lemmas.Map.Made.{IsDistinct-keys_filter, is_some-lookup}
use Rattle.std.proofs.lemmas.Slice.Eq.{bytes_eq-Decides}
use Rattle.hx_object.specs.declared.object.Object.{Object}
use Rattle.hx_store.specs.ObjectTable.{Place, added, filled, made, swept}
use Rattle.hx_store.proofs.Edits.{one_name, set_edits}
use Rattle.hx_store.proofs.Finding.{or_none}
use Rattle.hx_store.proofs.Least.{Entry, place_among}

turned : (a b : List ℕ) → bytes_eq a b ≡ bytes_eq b a
turned a b = nat_list_eq_equiv.symm a b

-- ---- a push

-- what one more entry behind the others gives
behind : (q : List ℕ) (es : List Entry) (e : Entry) → place_among (es ++ e ∷ []) q ≡ option_or (place_among es q) (cond (bytes_eq q e.0) (Some e.1) None)
behind q [] e = refl
behind q (f ∷ es) e = by (behind q es e) (bytes_eq q f.0)
  where
    by : place_among (es ++ e ∷ []) q ≡ option_or (place_among es q) (cond (bytes_eq q e.0) (Some e.1) None) → (b : Bool) → cond b (Some f.1) (place_among (es ++ e ∷ []) q) ≡ option_or (cond b (Some f.1) (place_among es q)) (cond (bytes_eq q e.0) (Some e.1) None)
    by rest true = refl
    by rest false = rest

-- and their names
keys_push : (es : List Entry) (e : Entry) → keys_of (es ++ e ∷ []) ≡ keys_of es ++ e.0 ∷ []
keys_push [] e = refl
keys_push (f ∷ es) e = ap (λ ks. f.0 ∷ ks) (keys_push es e)

module _ (es : List Entry) (name : List ℕ) (absent : place_among es name ≡ None) where
  -- a place that is made
  pub push_edits : (new : List Entry) → new ≡ es ++ (name, None) ∷ [] → (q : List ℕ) → place_among new q ≡ cond (bytes_eq name q) (made (place_among es q)) (place_among es q)
  push_edits new is = set_edits made (place_among es) (place_among new) name (Some None) (λ q. ap (λ fs. place_among fs q) is ∙ behind q es (name, None) ∙ by q (bytes_eq name q) refl) (ap made (sym absent))
    where
      by : (q : List ℕ) (b : Bool) → bytes_eq name q ≡ b → option_or (place_among es q) (cond (bytes_eq q name) (Some None) None) ≡ cond b (Some None) (place_among es q)
      by q true same =
          ap (λ p. option_or p (cond (bytes_eq q name) (Some None) None)) (ap (place_among es) (sym ((bytes_eq-Decides name q).0 same)) ∙ absent)
          ∙ ap (λ b. cond {A = Place} b (Some None) None) (turned q name ∙ same)
      by q false other = ap (λ b. option_or (place_among es q) (cond b (Some None) None)) (turned q name ∙ other) ∙ or_none (place_among es q)

  pub push_distinct : (new : List Entry) → new ≡ es ++ (name, None) ∷ [] → IsDistinct bytes_eq (keys_of es) → IsDistinct bytes_eq (keys_of new)
  push_distinct new is distinct =
      subst (λ ks. IsDistinct bytes_eq ks) (sym (ap keys_of is ∙ keys_push es (name, None)))
      (IsDistinct-push nat_list_eq_equiv (keys_of es) name distinct (sym (is_some-lookup (bytes_eq name) es) ∙ ap is_some absent))

-- ---- a write

-- what is written to the first place whose name passes
write_is : (t : List ℕ → Bool) (es : List Entry) (i : ℕ) (d : Entry) (w : Option Object) → i < length es → t (get_or es i d).0 ≡ true → ((k : ℕ) → k < i → t (get_or es k d).0 ≡ false)
    → slice_set es i ((get_or es i d).0, w) ≡ set_value t es w
write_is t [] i d w within hit before = absurd (omega (arith, within))
write_is t (e ∷ es) zero d w within hit before = sym (ap (λ b. cond {A = List Entry} b ((e.0, w) ∷ es) (e ∷ set_value t es w)) hit)
write_is t (e ∷ es) (suc i) d w within hit before =
    ap (λ fs. e ∷ fs) (write_is t es i d w (omega (arith, within)) hit (λ k less. before (suc k) (omega (arith, less))))
    ∙ sym (ap (λ b. cond {A = List Entry} b ((e.0, w) ∷ es) (e ∷ set_value t es w)) (before zero (omega arith)))

-- a place is there
some_place : (t : List ℕ → Bool) (es : List Entry) (i : ℕ) (d : Entry) → i < length es → t (get_or es i d).0 ≡ true → IsSome (lookup t es)
some_place t [] i d within hit = absurd (omega (arith, within))
some_place t (e ∷ es) zero d within hit = ap (λ b. is_some (cond b (Some e.1) (lookup t es))) hit
some_place t (e ∷ es) (suc i) d within hit = by (some_place t es i d (omega (arith, within)) hit) (t e.0)
  where
    by : IsSome (lookup t es) → (b : Bool) → is_some (cond b (Some e.1) (lookup t es)) ≡ true
    by rest true = refl
    by rest false = rest

module _ (name : List ℕ) (es new : List Entry) (i : ℕ) (d : Entry) (w : Option Object) (at : position (λ (e : Entry). bytes_eq name e.0) es ≡ Some i) (is : new ≡ slice_set es i ((get_or es i d).0, w)) where
  all : new ≡ set_value (bytes_eq name) es w
  all = let first = position-Some (λ (e : Entry). bytes_eq name e.0) es i d at in is ∙ write_is (bytes_eq name) es i d w first.0 first.1 first.2

  -- a place that is filled
  pub write_edits : (q : List ℕ) → place_among new q ≡ cond (bytes_eq name q) (filled w (place_among es q)) (place_among es q)
  write_edits = set_edits (filled w) (place_among es) (place_among new) name (Some w) (λ q. ap (λ fs. place_among fs q) all ∙ lookup-set_value nat_list_eq_equiv (bytes_eq name) (nat_list_eq_equiv.congr name) q w es there) (by (place_among es name) there)
    where
      there : IsSome (place_among es name)
      there = let first = position-Some (λ (e : Entry). bytes_eq name e.0) es i d at in some_place (bytes_eq name) es i d first.0 first.1

      by : (p : Place) → IsSome p → Some w ≡ filled w p
      by None some = absurd (true≢false (sym some))
      by (Some o) some = refl

  pub write_distinct : IsDistinct bytes_eq (keys_of es) → IsDistinct bytes_eq (keys_of new)
  write_distinct distinct = subst (λ ks. IsDistinct bytes_eq ks) (sym (ap keys_of all ∙ keys-set_value (bytes_eq name) es w)) distinct

-- a name that no entry has
none_before : (t : List ℕ → Bool) (es : List Entry) → ((k : ℕ) (d : Entry) → k < length es → t (get_or es k d).0 ≡ false) → lookup t es ≡ None
none_before t [] fails = refl
none_before t (e ∷ es) fails =
    ap (λ b. cond b (Some e.1) (lookup t es)) (fails zero e (omega arith)) ∙ none_before t es (λ k d within. fails (suc k) d (omega (arith, within)))

-- a name that has no place
pub missing : (name : List ℕ) (es : List Entry) → position (λ (e : Entry). bytes_eq name e.0) es ≡ None → place_among es name ≡ None
missing name es none = none_before (bytes_eq name) es (λ k d within. fails_before_first (λ (e : Entry). bytes_eq name e.0) es k d (omega (arith, within, past)))
  where
    past : length es ≤ position_or_len (λ (e : Entry). bytes_eq name e.0) es
    past = grind (arith, common_steps)

-- ---- a removal

module _ (name : List ℕ) (es new : List Entry) (is : new ≡ filter (λ e. not (bytes_eq name e.0)) es) where
  -- a place that is empty, and is taken away
  pub filter_edits : place_among es name ≡ Some None → (q : List ℕ) → place_among new q ≡ cond (bytes_eq name q) (swept (place_among es q)) (place_among es q)
  filter_edits was = set_edits swept (place_among es) (place_among new) name None (λ q. ap (λ fs. place_among fs q) is ∙ lookup-filter-keys (bytes_eq q) (λ k. not (bytes_eq name k)) (not (bytes_eq name q)) (alike q) es ∙ turn (bytes_eq name q) (place_among es q)) (ap swept (sym was))
    where
      alike : (q k : List ℕ) → bytes_eq q k ≡ true → not (bytes_eq name k) ≡ not (bytes_eq name q)
      alike q k same = ap (λ n. not (bytes_eq name n)) (sym ((bytes_eq-Decides q k).0 same))

      turn : (b : Bool) (p : Place) → cond (not b) p None ≡ cond b None p
      turn true p = refl
      turn false p = refl

  pub filter_distinct : IsDistinct bytes_eq (keys_of es) → IsDistinct bytes_eq (keys_of new)
  filter_distinct distinct = subst (λ fs. IsDistinct bytes_eq (keys_of fs)) (sym is) (IsDistinct-keys_filter bytes_eq (λ e. not (bytes_eq name e.0)) es distinct)

-- ---- places that go to a table of names one by one

-- what was there, or lies in the entries that are left
abbrev pub either_place : Place → List Entry → List ℕ → Place
either_place p es q = option_or p (place_among es q)

add_step : (q : List ℕ) (e : Entry) (es : List Entry) (p r : Place) → r ≡ cond (bytes_eq e.0 q) (added e.1 p) p → either_place r es q ≡ either_place p (e ∷ es) q
add_step q e es p r is = ap (λ o. either_place o es q) (is ∙ ap (λ b. cond b (added e.1 p) p) (turned e.0 q)) ∙ by p (bytes_eq q e.0)
  where
    by : (o : Place) (b : Bool) → either_place (cond b (added e.1 o) o) es q ≡ option_or o (cond b (Some e.1) (place_among es q))
    by None true = refl
    by None false = refl
    by (Some x) true = refl
    by (Some x) false = refl

-- one more of the places is added
pub next_place : (es : List Entry) (i : ℕ) (x : Entry) (old new : List ℕ → Place) → x ≡ get_or es i x → i < length es → ((q : List ℕ) → new q ≡ cond (bytes_eq x.0 q) (added x.1 (old q)) (old q)) → (q : List ℕ)
    → either_place (old q) (drop i es) q ≡ place_among es q → either_place (new q) (drop (i + 1) es) q ≡ place_among es q
next_place es i x old new is within edits q all =
    let next : i + 1 ≡ suc i = omega arith in
    ap (λ k. either_place (new q) (drop k es) q) next ∙ add_step q x (drop (suc i) es) (old q) (new q) (edits q)
    ∙ ap (λ fs. either_place (old q) fs q) (ap (λ (e : Entry). e ∷ drop (suc i) es) is ∙ sym (drop-cons es i x within)) ∙ all

-- all of them are
pub all_added : (es : List Entry) (i : ℕ) (new : Place) (q : List ℕ) → length es ≤ i → either_place new (drop i es) q ≡ place_among es q → new ≡ place_among es q
all_added es i new q past all = sym (or_none new) ∙ ap (λ fs. either_place new fs q) (sym (drop_all i es past)) ∙ all

-- ---- a list of names of one place

pub one_name_list : (es : List Entry) (e : Entry) → es ≡ e ∷ [] → IsDistinct bytes_eq (keys_of es)
one_name_list es e is = subst (λ fs. IsDistinct bytes_eq (keys_of fs)) (sym is) (one_name e.0)
