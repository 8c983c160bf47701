-- ObjectTable of a table of names, by their slots: what is found where a slot is pushed, replaced, shown, hidden or taken away.
use Rattle.std.proofs.Common.{◌≡◌, ℕ, zero, suc, ◌<◌, ◌≤◌, ◌+◌, ◌-◌, Bool, true, false, cond, not, ◌||◌, if◌then◌else◌, Option, Some, None, List, [], ◌∷◌, ◌++◌, length, take, get_or, swap, swap_remove, slice_get, slice_set, position, refl, sym, ap, subst, ◌∙◌, arith, true≢false}
use Rattle.std.specs.Prelude.{is_some, IfSome, Result, Ok, Err, OnOk, OnErr}
use Rattle.std.specs.Option.{option_map}
use Rattle.std.specs.List.{AllByRecursion, IsDistinct, flat_map, list_any, position_or_len}
use Rattle.std.specs.Map.{keys_of, values_of, lookup}
use Rattle.std.specs.Str.{bytes_eq}
use Rattle.std.proofs.lemmas.Bool.Decides.{nat_tests}
use Rattle.std.proofs.lemmas.Cmp.{nat_list_eq_equiv}
use Rattle.std.proofs.lemmas.List.{get_or-set_other, get_or-set_same, get_or-take, length-take, take-map, take-set-le, take-take}
use Rattle.std.proofs.lemmas.List.Edits.{length-swap}
use Rattle.std.proofs.lemmas.List.Quantifiers.{position-Some}
use Rattle.std.proofs.lemmas.Map.Entries.{place_from_lookup, lookup_from_place}
use Rattle.std.proofs.lemmas.Option.{slice_get-get_or, slice_get_within, get_or_from_slice_get}
use Rattle.std.proofs.lemmas.Slice.Eq.{bytes_eq-Decides}
use native.Mathlib.Decide.{dec_lt, ℕ_discrete}
use Rattle.indexmap.proofs.MapLemmas.{distinct-take}
use Rattle.indexmap.proofs.ReorderLemmas.{exchange, exchange-within, get_or-swap}
use Rattle.indexmap.specs.IndexSet.{insert_key, replace_key, swap_key}
use Rattle.hx_object.specs.declared.object.Object.{Object}
use Rattle.hx_store.specs.Least.{Descends, IsLeast, least_entry}
use Rattle.hx_store.specs.ObjectTable.{Place, added, filled, found, of_place, swept}
use Rattle.hx_store.specs.Slots.{Entry, as_shown, emptied, same_name}
use Rattle.hx_store.proofs.Descending.{descends_take, last_place}
use Rattle.hx_store.proofs.Edits.{none_from, set_edits}
use Rattle.hx_store.proofs.Finding.{text_itself}
use Rattle.hx_store.proofs.Least.{place_among, walked}

-- the place of a name, of so many slots that are shown
abbrev pub place : ℕ → List Entry → List ℕ → Place
place n es q = lookup (bytes_eq q) (as_shown n es)

-- what the place at an index holds
abbrev pub held_at : ℕ → ℕ → Entry → Option Object
held_at zero i e = None
held_at (suc n) zero e = e.1
held_at (suc n) (suc i) e = held_at n i e

-- and its name with that
abbrev entry_at : ℕ → ℕ → Entry → Entry
entry_at n i e = (e.0, held_at n i e)

abbrev name_of : Entry → List ℕ
name_of e = e.0

shows : (n i : ℕ) (e : Entry) → i < n → held_at n i e ≡ e.1
shows zero i e h = absurd (omega (arith, h))
shows (suc n) zero e h = refl
shows (suc n) (suc i) e h = shows n i e (omega (arith, h))

hides : (n i : ℕ) (e : Entry) → n ≤ i → held_at n i e ≡ None
hides zero i e h = refl
hides (suc n) zero e h = absurd (omega (arith, h))
hides (suc n) (suc i) e h = hides n i e (omega (arith, h))

-- ---- the list of places

keys_shown : (n : ℕ) (es : List Entry) → keys_of (as_shown n es) ≡ keys_of es
keys_shown zero [] = refl
keys_shown zero (e ∷ es) = ap (λ ks. e.0 ∷ ks) (keys_shown zero es)
keys_shown (suc n) [] = refl
keys_shown (suc n) (e ∷ es) = ap (λ ks. e.0 ∷ ks) (keys_shown n es)

pub length_shown : (n : ℕ) (es : List Entry) → length (as_shown n es) ≡ length es
length_shown zero [] = refl
length_shown zero (e ∷ es) = ap suc (length_shown zero es)
length_shown (suc n) [] = refl
length_shown (suc n) (e ∷ es) = ap suc (length_shown n es)

get_shown : (n : ℕ) (es : List Entry) (i : ℕ) → slice_get (as_shown n es) i ≡ option_map (entry_at n i) (slice_get es i)
get_shown zero [] i = refl
get_shown zero (e ∷ es) zero = refl
get_shown zero (e ∷ es) (suc i) = get_shown zero es i
get_shown (suc n) [] i = refl
get_shown (suc n) (e ∷ es) zero = refl
get_shown (suc n) (e ∷ es) (suc i) = get_shown n es i

pub name_shown : (n : ℕ) (es : List Entry) (i : ℕ) → option_map (λ e. e.0) (slice_get (as_shown n es) i) ≡ option_map (λ e. e.0) (slice_get es i)
name_shown n es i = ap (option_map name_of) (get_shown n es i) ∙ by (slice_get es i)
  where
    by : (o : Option Entry) → option_map (λ e. e.0) (option_map (entry_at n i) o) ≡ option_map (λ e. e.0) o
    by None = refl
    by (Some e) = refl

-- no two slots have one name
names_apart : (e : Entry) (es : List Entry) → AllByRecursion (λ f. same_name e f ≡ false) es → AllByRecursion (λ k. bytes_eq e.0 k ≡ false) (keys_of es)
names_apart e [] apart = tt
names_apart e (f ∷ es) apart = (apart.0, names_apart e es apart.1)

pub names_distinct : (es : List Entry) → IsDistinct same_name es → IsDistinct bytes_eq (keys_of es)
unfolding IsDistinct
names_distinct [] apart = tt
names_distinct (e ∷ es) apart = (names_apart e es apart.0, names_distinct es apart.1)

pub distinct_shown : (n : ℕ) (es : List Entry) → IsDistinct same_name es → IsDistinct bytes_eq (keys_of (as_shown n es))
distinct_shown n es apart = subst (IsDistinct bytes_eq) (sym (keys_shown n es)) (names_distinct es apart)

-- ---- what is found

-- a place is there where a slot has the name
pub there_shown : (n : ℕ) (es : List Entry) (q : List ℕ) → is_some (place n es q) ≡ list_any (λ (e : Entry). bytes_eq q e.0) es
there_shown zero [] q = refl
there_shown zero (e ∷ es) q = by (bytes_eq q e.0) (there_shown zero es q)
  where
    by : (b : Bool) → is_some (place zero es q) ≡ list_any (λ (f : Entry). bytes_eq q f.0) es → is_some (cond b (Some (emptied e).1) (place zero es q)) ≡ (b || list_any (λ (f : Entry). bytes_eq q f.0) es)
    by true rest = refl
    by false rest = rest
there_shown (suc n) [] q = refl
there_shown (suc n) (e ∷ es) q = by (bytes_eq q e.0) (there_shown n es q)
  where
    by : (b : Bool) → is_some (place n es q) ≡ list_any (λ (f : Entry). bytes_eq q f.0) es → is_some (cond b (Some e.1) (place n es q)) ≡ (b || list_any (λ (f : Entry). bytes_eq q f.0) es)
    by true rest = refl
    by false rest = rest

pub missing : (n : ℕ) (es : List Entry) (q : List ℕ) → list_any (λ (e : Entry). bytes_eq q e.0) es ≡ false → place n es q ≡ None
missing n es q none = none_from (place n es q) (there_shown n es q ∙ none)

-- the place at an index, where no two slots have one name
pub placed : (n : ℕ) (es : List Entry) (i : ℕ) (e : Entry) → IsDistinct same_name es → slice_get es i ≡ Some e → place n es e.0 ≡ Some (held_at n i e)
placed n es i e apart at = lookup_from_place nat_list_eq_equiv (as_shown n es) i e.0 (held_at n i e) (distinct_shown n es apart) (get_shown n es i ∙ ap (option_map (entry_at n i)) at)

-- and where it is the first one of its name
first_placed : (n : ℕ) (es : List Entry) (q : List ℕ) (i : ℕ) (d : Entry) → i < length es → bytes_eq q (get_or es i d).0 ≡ true → ((k : ℕ) → k < i → bytes_eq q (get_or es k d).0 ≡ false) → place n es q ≡ Some (held_at n i (get_or es i d))
first_placed n [] q i d within hit before = absurd (omega (arith, within))
first_placed zero (e ∷ es) q zero d within hit before = ap (λ b. cond b (Some None) (place zero es q)) hit
first_placed (suc n) (e ∷ es) q zero d within hit before = ap (λ b. cond b (Some e.1) (place n es q)) hit
first_placed zero (e ∷ es) q (suc i) d within hit before =
    ap (λ b. cond b (Some None) (place zero es q)) (before zero (omega arith)) ∙ first_placed zero es q i d (omega (arith, within)) hit (λ k less. before (suc k) (omega (arith, less)))
first_placed (suc n) (e ∷ es) q (suc i) d within hit before =
    ap (λ b. cond b (Some e.1) (place n es q)) (before zero (omega arith)) ∙ first_placed n es q i d (omega (arith, within)) hit (λ k less. before (suc k) (omega (arith, less)))

pub found_at : (n : ℕ) (es : List Entry) (q : List ℕ) (i : ℕ) (e : Entry) → position (λ (f : Entry). bytes_eq q f.0) es ≡ Some i → slice_get es i ≡ Some e → place n es q ≡ Some (held_at n i e)
found_at n es q i e first at =
    let is = position-Some (λ (f : Entry). bytes_eq q f.0) es i e first in
    first_placed n es q i e is.0 is.1 is.2 ∙ ap (λ f. Some (held_at n i f)) (get_or_from_slice_get es i e e at)

pub found_shown : (n : ℕ) (es : List Entry) (q : List ℕ) (i : ℕ) (e : Entry) → Some i ≡ position (λ (f : Entry). bytes_eq q f.0) es → slice_get es i ≡ Some e → i < n → e.1 ≡ found (place n es q)
found_shown n es q i e first at less = sym (ap found (found_at n es q i e (sym first) at) ∙ shows n i e less)

pub found_hidden : (n : ℕ) (es : List Entry) (q : List ℕ) (i : ℕ) (e : Entry) → Some i ≡ position (λ (f : Entry). bytes_eq q f.0) es → slice_get es i ≡ Some e → n ≤ i → None ≡ found (place n es q)
found_hidden n es q i e first at past = sym (ap found (found_at n es q i e (sym first) at) ∙ hides n i e past)

-- ---- what the slots that are shown tell

none_emptied : (es : List Entry) (q : List ℕ) → found (place zero es q) ≡ None
none_emptied [] q = refl
none_emptied (e ∷ es) q = by (bytes_eq q e.0) (none_emptied es q)
  where
    by : (b : Bool) → found (place zero es q) ≡ None → found (cond b (Some None) (place zero es q)) ≡ None
    by true rest = refl
    by false rest = rest

-- the objects are those of the slots that are shown
pub found_taken : (n : ℕ) (es : List Entry) (q : List ℕ) → found (place_among (take n es) q) ≡ found (place n es q)
found_taken zero es q = sym (none_emptied es q)
found_taken (suc n) [] q = refl
found_taken (suc n) (e ∷ es) q = by (bytes_eq q e.0) (found_taken n es q)
  where
    by : (b : Bool) → found (place_among (take n es) q) ≡ found (place n es q) → found (cond b (Some e.1) (place_among (take n es) q)) ≡ found (cond b (Some e.1) (place n es q))
    by true rest = refl
    by false rest = rest

none_listed : (es : List Entry) → flat_map of_place (values_of (as_shown zero es)) ≡ []
none_listed [] = refl
none_listed (e ∷ es) = none_listed es

pub listed_taken : (n : ℕ) (es : List Entry) → flat_map of_place (values_of (take n es)) ≡ flat_map of_place (values_of (as_shown n es))
listed_taken zero es = sym (none_listed es)
listed_taken (suc n) [] = refl
listed_taken (suc n) (e ∷ es) = ap (λ l. of_place e.1 ++ l) (listed_taken n es)

-- ---- slots that move

module _ (n m : ℕ) (es fs : List Entry) (name : List ℕ) (apart : IsDistinct same_name es) where
  -- the places of other names stay, where each of their slots that is there now was there, and as well shown
  pub moved : ((j : ℕ) (e : Entry) → slice_get fs j ≡ Some e → bytes_eq name e.0 ≡ false → (i : ℕ) × (slice_get es i ≡ Some e) × (held_at n i e ≡ held_at m j e))
      → ((q : Entry) → bytes_eq name q.0 ≡ false → list_any (same_name q) fs ≡ list_any (same_name q) es) → (q : List ℕ) → bytes_eq name q ≡ false → place m fs q ≡ place n es q
  moved came stay q other = by (place m fs q) refl
    where
      by : (p : Place) → place m fs q ≡ p → p ≡ place n es q
      by None is = sym (missing n es q (sym (stay (q, None) other) ∙ sym (there_shown m fs q) ∙ ap is_some is))
      by (Some v) is =
          let at = place_from_lookup (bytes_eq q) (as_shown m fs) v is in
          here at.0 at.1 (slice_get fs at.0) refl (sym (get_shown m fs at.0) ∙ at.2) at.3
        where
          here : (j : ℕ) (k : List ℕ) (o : Option Entry) → slice_get fs j ≡ o → option_map (entry_at m j) o ≡ Some (k, v) → bytes_eq q k ≡ true → Some v ≡ place n es q
          here j k None there e same = absurd (cc)
          here j k (Some e) there is same =
              let parts : entry_at m j e ≡ (k, v) = cc in
              let named : q ≡ e.0 = (bytes_eq-Decides q k).0 same ∙ ap (λ (p : Entry). p.0) (sym parts) in
              let was = came j e there (subst (λ x. bytes_eq name x ≡ false) named other) in
              sym (ap (place n es) named ∙ placed n es was.0 e apart was.1 ∙ ap Some was.2 ∙ ap (λ (p : Entry). Some p.1) parts)

-- so that of one name becomes what it does, and the others stay
pub settled : (n m : ℕ) (es fs : List Entry) (name : List ℕ) (w : Place) → place m fs name ≡ w → ((q : List ℕ) → bytes_eq name q ≡ false → place m fs q ≡ place n es q) → (q : List ℕ) → place m fs q ≡ cond (bytes_eq name q) w (place n es q)
settled n m es fs name w here others q = by (bytes_eq name q) refl
  where
    by : (b : Bool) → bytes_eq name q ≡ b → place m fs q ≡ cond b w (place n es q)
    by true same = ap (place m fs) (sym ((bytes_eq-Decides name q).0 same)) ∙ here
    by false other = others q other

-- ---- two slots change places

swapped_from : (es : List Entry) (a b j : ℕ) (e : Entry) → a < length es → b < length es → slice_get (swap es a b) j ≡ Some e → slice_get es (exchange a b j) ≡ Some e
swapped_from es a b j e in_a in_b at =
    let within : j < length es = omega (arith, slice_get_within (swap es a b) j e at, length-swap es a b) in
    slice_get-get_or es (exchange a b j) e (exchange-within a b (length es) j in_a in_b within)
    ∙ ap Some (sym (get_or-swap es a b e in_a in_b j) ∙ get_or_from_slice_get (swap es a b) j e e at)

swapped_to : (es : List Entry) (a b : ℕ) (e : Entry) → a < length es → b < length es → slice_get es a ≡ Some e → slice_get (swap es a b) b ≡ Some e
swapped_to es a b e in_a in_b at =
    slice_get-get_or (swap es a b) b e (omega (arith, in_b, length-swap es a b))
    ∙ ap Some (get_or-swap es a b e in_a in_b b ∙ ap (λ i. get_or es i e) (grind (arith, nat_tests)) ∙ get_or_from_slice_get es a e e at)

pub swapped_slot : (es : List Entry) (a b : ℕ) → a < length es → b < length es → slice_get (swap es a b) b ≡ slice_get es a
swapped_slot [] a b in_a in_b = absurd (omega (arith, in_a))
swapped_slot (d ∷ es) a b in_a in_b =
    let at = slice_get-get_or (d ∷ es) a d in_a in
    swapped_to (d ∷ es) a b (get_or (d ∷ es) a d) in_a in_b at ∙ sym at

same_slot : (es : List Entry) (i : ℕ) (e f : Entry) → slice_get es i ≡ Some e → slice_get es i ≡ Some f → e ≡ f
same_slot es i e f is are = let same : Some e ≡ Some f = sym is ∙ are in cc

not_itself : (e f : Entry) {A : Type 0} → e ≡ f → bytes_eq e.0 f.0 ≡ false → A
not_itself e f same other = absurd (true≢false (sym (text_itself e.0) ∙ ap (λ (x : Entry). bytes_eq e.0 x.0) same ∙ other))

-- ---- a slot is shown

module _ (n i : ℕ) (es : List Entry) (e : Entry) (apart : IsDistinct same_name es) (at : slice_get es i ≡ Some e) where
  -- where it is shown already
  pub shown_already : i < n → (q : List ℕ) → place n es q ≡ cond (bytes_eq e.0 q) (Some e.1) (place n es q)
  shown_already less = settled n n es es e.0 (Some e.1) (placed n es i e apart at ∙ ap Some (shows n i e less)) (λ q _. refl)

  pub shown_next : n ≤ i → i < length es → (fs : List Entry) → fs ≡ swap es i n → IsDistinct same_name fs → ((q : Entry) → list_any (same_name q) fs ≡ list_any (same_name q) es)
      → (q : List ℕ) → place (n + 1) fs q ≡ cond (bytes_eq e.0 q) (Some e.1) (place n es q)
  shown_next past within fs is apart-now stay =
      settled n (n + 1) es fs e.0 (Some e.1) (placed (n + 1) fs n e apart-now here ∙ ap Some (shows (n + 1) n e (omega arith)))
      (moved n (n + 1) es fs e.0 apart came (λ q _. stay q))
    where
      here : slice_get fs n ≡ Some e
      here = ap (λ l. slice_get l n) is ∙ swapped_to es i n e within (omega (arith, past, within)) at

      came : (j : ℕ) (f : Entry) → slice_get fs j ≡ Some f → bytes_eq e.0 f.0 ≡ false → (k : ℕ) × (slice_get es k ≡ Some f) × (held_at n k f ≡ held_at (n + 1) j f)
      came j f there other =
          let was = swapped_from es i n j f within (omega (arith, past, within)) (sym (ap (λ l. slice_get l j) is) ∙ there) in
          elim (ℕ_discrete j n) [
            | yes same ↦ not_itself e f (same_slot fs n e f here (sym (ap (slice_get fs) same) ∙ there)) other
            | no apart-n ↦ elim (ℕ_discrete j i) [
              | yes same ↦
                  let to_n : exchange i n j ≡ n = grind (arith, nat_tests) in
                  (n, ap (slice_get es) (sym to_n) ∙ was, hides n n f (omega arith) ∙ sym (hides (n + 1) j f (omega (arith, same, past, apart-n))))
              | no apart-i ↦
                  let to_j : exchange i n j ≡ j = grind (arith, nat_tests) in (
                    j,
                    ap (slice_get es) (sym to_j) ∙ was,
                    elim (dec_lt j n) [
                      | yes below ↦ shows n j f below ∙ sym (shows (n + 1) j f (omega (arith, below)))
                      | no above ↦ hides n j f (omega (arith, above)) ∙ sym (hides (n + 1) j f (omega (arith, above, apart-n)))
                    ],
                  )
            ]
          ]

-- ---- a slot is hidden

module _ (n i : ℕ) (es : List Entry) (e : Entry) (apart : IsDistinct same_name es) (at : slice_get es i ≡ Some e) where
  -- where it is hidden already
  pub hidden_already : n ≤ i → (q : List ℕ) → place n es q ≡ cond (bytes_eq e.0 q) (Some None) (place n es q)
  hidden_already past = settled n n es es e.0 (Some None) (placed n es i e apart at ∙ ap Some (hides n i e past)) (λ q _. refl)

  pub hidden_last : (last : ℕ) (fs : List Entry) → i < length es → i ≤ last → last < n → last < length es → ((j : ℕ) → last < j → j < length es → n ≤ j) → fs ≡ swap es i last → IsDistinct same_name fs
      → ((q : Entry) → list_any (same_name q) fs ≡ list_any (same_name q) es) → (q : List ℕ) → place last fs q ≡ cond (bytes_eq e.0 q) (Some None) (place n es q)
  hidden_last last fs within up below inside behind is apart-now stay =
      settled n last es fs e.0 (Some None) (placed last fs last e apart-now here ∙ ap Some (hides last last e (omega arith)))
      (moved n last es fs e.0 apart came (λ q _. stay q))
    where
      here : slice_get fs last ≡ Some e
      here = ap (λ l. slice_get l last) is ∙ swapped_to es i last e within inside at

      came : (j : ℕ) (f : Entry) → slice_get fs j ≡ Some f → bytes_eq e.0 f.0 ≡ false → (k : ℕ) × (slice_get es k ≡ Some f) × (held_at n k f ≡ held_at last j f)
      came j f there other =
          let there-now : slice_get (swap es i last) j ≡ Some f = sym (ap (λ l. slice_get l j) is) ∙ there in
          let was = swapped_from es i last j f within inside there-now in
          let j-in : j < length es = omega (arith, slice_get_within (swap es i last) j f there-now, length-swap es i last) in
          elim (ℕ_discrete j last) [
            | yes same ↦ not_itself e f (same_slot fs last e f here (sym (ap (slice_get fs) same) ∙ there)) other
            | no apart-last ↦ elim (ℕ_discrete j i) [
              | yes same ↦
                  let to_last : exchange i last j ≡ last = grind (arith, nat_tests) in
                  (last, ap (slice_get es) (sym to_last) ∙ was, shows n last f below ∙ sym (shows last j f (omega (arith, same, up, apart-last))))
              | no apart-i ↦
                  let to_j : exchange i last j ≡ j = grind (arith, nat_tests) in (
                    j,
                    ap (slice_get es) (sym to_j) ∙ was,
                    elim (dec_lt j last) [
                      | yes less ↦ shows n j f (omega (arith, less, below)) ∙ sym (shows last j f less)
                      | no above ↦ hides n j f (behind j (omega (arith, above, apart-last)) j-in) ∙ sym (hides last j f (omega (arith, above)))
                    ],
                  )
            ]
          ]

kept_before : (es : List Entry) (i : ℕ) → take i (swap es i i) ≡ take i es
kept_before [] i = refl
kept_before (d ∷ es) i = take-set-le i (slice_set (d ∷ es) i (get_or (d ∷ es) i d)) i (get_or (d ∷ es) i d) (omega arith) ∙ take-set-le i (d ∷ es) i (get_or (d ∷ es) i d) (omega arith)

-- where it is the last one, the names before it still descend
pub still_descend : (n last : ℕ) (es fs : List Entry) → last ≤ n → fs ≡ swap es last last → Descends (keys_of (take n es)) → Descends (keys_of (take last fs))
still_descend n last es fs below is down = subst (λ l. Descends (keys_of l)) (take-take last n es below ∙ sym (ap (take last) is ∙ kept_before es last)) (descends_take last (take n es) down)

-- ---- a hidden slot is taken away

module _ (n i : ℕ) (es : List Entry) (e : Entry) (apart : IsDistinct same_name es) (past : n ≤ i) (at : slice_get es i ≡ Some e) (fs : List Entry) (is : fs ≡ swap_remove es i e) where
  pub taken_away : list_any (same_name e) fs ≡ false → ((q : Entry) → bytes_eq e.0 q.0 ≡ false → list_any (same_name q) fs ≡ list_any (same_name q) es) → (q : List ℕ) → place n fs q ≡ cond (bytes_eq e.0 q) None (place n es q)
  taken_away gone stay = settled n n es fs e.0 None (missing n fs e.0 gone) (moved n n es fs e.0 apart came stay)
    where
      came : (j : ℕ) (f : Entry) → slice_get fs j ≡ Some f → bytes_eq e.0 f.0 ≡ false → (k : ℕ) × (slice_get es k ≡ Some f) × (held_at n k f ≡ held_at n j f)
      came j f there other =
          let i-in : i < length es = slice_get_within es i e at in
          let there-now : slice_get (swap_remove es i e) j ≡ Some f = sym (ap (λ l. slice_get l j) is) ∙ there in
          let j-in : j < length es - 1 = omega (arith, slice_get_within (swap_remove es i e) j f there-now, length-take (length es - 1) (slice_set es i (get_or es (length es - 1) e))) in
          let put = get_or-take (length es - 1) (slice_set es i (get_or es (length es - 1) e)) j e j-in in
          let now : get_or (swap_remove es i e) j e ≡ f = get_or_from_slice_get (swap_remove es i e) j f e there-now in
          elim (ℕ_discrete j i) [
            | yes same ↦
                let last : get_or es (length es - 1) e ≡ f = sym (get_or-set_same es i _ e i-in) ∙ ap (λ k. get_or (slice_set es i (get_or es (length es - 1) e)) k e) (sym same) ∙ sym put ∙ now in
                (length es - 1, slice_get-get_or es (length es - 1) e (omega (arith, i-in)) ∙ ap Some last, hides n (length es - 1) f (omega (arith, past, i-in)) ∙ sym (hides n j f (omega (arith, same, past))))
            | no differs ↦
                let stays : get_or es j e ≡ f = sym (get_or-set_other es i j _ e differs) ∙ sym put ∙ now in
                (j, slice_get-get_or es j e (omega (arith, j-in)) ∙ ap Some stays, refl)
          ]

  -- the slots that are shown stay
  pub taken_behind : take n fs ≡ take n es
  taken_behind =
      let i-in : i < length es = slice_get_within es i e at in
      ap (take n) is ∙ take-take n (length es - 1) (slice_set es i (get_or es (length es - 1) e)) (omega (arith, past, i-in)) ∙ take-set-le n es i (get_or es (length es - 1) e) past

-- ---- a slot is replaced by another one of its name

names_replaced : (es : List Entry) (e : Entry) → keys_of (swap_key (same_name e) es e) ≡ keys_of es
names_replaced [] e = refl
names_replaced (f ∷ es) e = by (same_name e f) refl (names_replaced es e)
  where
    by : (b : Bool) → same_name e f ≡ b → keys_of (swap_key (same_name e) es e) ≡ keys_of es → keys_of (cond b (e ∷ es) (f ∷ swap_key (same_name e) es e)) ≡ f.0 ∷ keys_of es
    by true same rest = ap (λ k. k ∷ keys_of es) ((bytes_eq-Decides e.0 f.0).0 same)
    by false other rest = ap (λ ks. f.0 ∷ ks) rest

at_first : (es : List Entry) (e : Entry) (i : ℕ) (d : Entry) → i < length es → same_name e (get_or es i d) ≡ true → ((k : ℕ) → k < i → same_name e (get_or es k d) ≡ false) → slice_get (swap_key (same_name e) es e) i ≡ Some e
at_first [] e i d within hit before = absurd (omega (arith, within))
at_first (f ∷ es) e zero d within hit before = ap (λ b. slice_get (cond b (e ∷ es) (f ∷ swap_key (same_name e) es e)) 0) hit
at_first (f ∷ es) e (suc i) d within hit before =
    ap (λ b. slice_get (cond b (e ∷ es) (f ∷ swap_key (same_name e) es e)) (suc i)) (before zero (omega arith)) ∙ at_first es e i d (omega (arith, within)) hit (λ k less. before (suc k) (omega (arith, less)))

others_replaced : (n : ℕ) (es : List Entry) (e : Entry) (q : List ℕ) → bytes_eq e.0 q ≡ false → place n (swap_key (same_name e) es e) q ≡ place n es q
others_replaced zero [] e q other = refl
others_replaced (suc n) [] e q other = refl
others_replaced zero (f ∷ es) e q other = by (same_name e f) refl (others_replaced zero es e q other)
  where
    by : (b : Bool) → same_name e f ≡ b → place zero (swap_key (same_name e) es e) q ≡ place zero es q → place zero (cond b (e ∷ es) (f ∷ swap_key (same_name e) es e)) q ≡ place zero (f ∷ es) q
    by true same rest = ap (λ k. cond (bytes_eq q k) (Some None) (place zero es q)) ((bytes_eq-Decides e.0 f.0).0 same)
    by false apart rest = ap (λ p. cond (bytes_eq q f.0) (Some None) p) rest
others_replaced (suc n) (f ∷ es) e q other = by (same_name e f) refl (others_replaced n es e q other)
  where
    not_this : bytes_eq q e.0 ≡ false
    not_this = nat_list_eq_equiv.symm q e.0 ∙ other

    by : (b : Bool) → same_name e f ≡ b → place n (swap_key (same_name e) es e) q ≡ place n es q → place (suc n) (cond b (e ∷ es) (f ∷ swap_key (same_name e) es e)) q ≡ place (suc n) (f ∷ es) q
    by true same rest =
        ap (λ b. cond b (Some e.1) (place n es q)) not_this ∙ sym (ap (λ b. cond b (Some f.1) (place n es q)) (ap (bytes_eq q) (sym ((bytes_eq-Decides e.0 f.0).0 same)) ∙ not_this))
    by false apart rest = ap (λ p. cond (bytes_eq q f.0) (Some f.1) p) rest

-- ---- a slot is pushed

pub others_pushed : (n : ℕ) (es : List Entry) (e : Entry) (q : List ℕ) → bytes_eq e.0 q ≡ false → place n (es ++ e ∷ []) q ≡ place n es q
others_pushed zero [] e q other = ap (λ b. cond {A = Place} b (Some None) None) (nat_list_eq_equiv.symm q e.0 ∙ other)
others_pushed (suc n) [] e q other = first n
  where
    first : (m : ℕ) → place (suc m) (e ∷ []) q ≡ None
    first zero = ap (λ b. cond {A = Place} b (Some e.1) None) (nat_list_eq_equiv.symm q e.0 ∙ other)
    first (suc m) = ap (λ b. cond {A = Place} b (Some e.1) None) (nat_list_eq_equiv.symm q e.0 ∙ other)
others_pushed zero (f ∷ es) e q other = ap (λ p. cond (bytes_eq q f.0) (Some None) p) (others_pushed zero es e q other)
others_pushed (suc n) (f ∷ es) e q other = ap (λ p. cond (bytes_eq q f.0) (Some f.1) p) (others_pushed n es e q other)

pub at_end : (es : List Entry) (e : Entry) → slice_get (es ++ e ∷ []) (length es) ≡ Some e
at_end [] e = refl
at_end (f ∷ es) e = at_end es e

neither : (a b : Bool) → (a || b) ≡ false → (a ≡ false) × (b ≡ false)
neither true b h = absurd (true≢false h)
neither false b h = (refl, h)

pub index_of_new : (es : List Entry) (e : Entry) → list_any (same_name e) es ≡ false → position_or_len (same_name e) es ≡ length es
index_of_new [] e none = refl
index_of_new (f ∷ es) e none =
    let parts = neither (same_name e f) (list_any (same_name e) es) none in
    ap (λ b. cond (not b) (1 + position_or_len (same_name e) es) 0) parts.0 ∙ ap (λ n. 1 + n) (index_of_new es e parts.1) ∙ omega arith

-- ---- what becomes of the places

-- a look-up of a name as it is after a slot of the name is shown, or hidden
abbrev pub Becomes : ℕ → List Entry → Entry → Option Object → (List ℕ → Place) → Type 0
Becomes n es e held new = (q : List ℕ) → new q ≡ cond (bytes_eq e.0 q) (Some held) (place n es q)

-- a name that has no slot gets one
pub pushed_edits : (n : ℕ) (es fs : List Entry) (e : Entry) (i : ℕ) (new : List ℕ → Place) → list_any (same_name e) es ≡ false → fs ≡ insert_key same_name es e → i ≡ position_or_len (same_name e) es
    → ((f : Entry) → slice_get fs i ≡ Some f → Becomes n fs f f.1 new) → (q : List ℕ) → new q ≡ cond (bytes_eq e.0 q) (added e.1 (place n es q)) (place n es q)
pushed_edits n es fs e i new none is at shows-it =
    let pushed : fs ≡ es ++ e ∷ [] = is ∙ ap (λ b. if b then es else es ++ e ∷ []) none in
    let last : slice_get fs i ≡ Some e = (λ k. slice_get (pushed k) ((at ∙ index_of_new es e none) k)) ∙ at_end es e in
    set_edits (added e.1) (place n es) new e.0 (Some e.1) (λ q. shows-it e last q ∙ by pushed q (bytes_eq e.0 q) refl) (ap (added e.1) (sym (missing n es e.0 none)))
  where
    by : fs ≡ es ++ e ∷ [] → (q : List ℕ) (b : Bool) → bytes_eq e.0 q ≡ b → cond b (Some e.1) (place n fs q) ≡ cond b (Some e.1) (place n es q)
    by pushed q true same = refl
    by pushed q false other = ap (λ l. place n l q) pushed ∙ others_pushed n es e q other

-- the slot of a name, at its index
pub slot_at : (es : List Entry) (q : List ℕ) (i : ℕ) → Some i ≡ position (λ (f : Entry). bytes_eq q f.0) es → (e : Entry) × (slice_get es i ≡ Some e) × (q ≡ e.0)
slot_at es q i first =
    let d : Entry = (q, None) in
    let is = position-Some (λ (f : Entry). bytes_eq q f.0) es i d (sym first) in
    (get_or es i d, slice_get-get_or es i d is.0, (bytes_eq-Decides q (get_or es i d).0).0 is.1)

-- a name that has a slot gets another one
pub replaced_edits : (n : ℕ) (es fs : List Entry) (e : Entry) (i : ℕ) (new : List ℕ → Place) → Some i ≡ position (same_name e) es → fs ≡ replace_key same_name es e → ((f : Entry) → slice_get fs i ≡ Some f → Becomes n fs f f.1 new)
    → (q : List ℕ) → new q ≡ cond (bytes_eq e.0 q) (filled e.1 (place n es q)) (place n es q)
replaced_edits n es fs e i new first is shows-it =
    let at = position-Some (same_name e) es i e (sym first) in
    let was = first_placed n es e.0 i e at.0 at.1 at.2 in
    let replaced : fs ≡ swap_key (same_name e) es e = is ∙ ap (λ b. if b then swap_key (same_name e) es e else es ++ e ∷ []) (sym (there_shown n es e.0) ∙ ap is_some was) in
    let here : slice_get fs i ≡ Some e = ap (λ l. slice_get l i) replaced ∙ at_first es e i e at.0 at.1 at.2 in
    set_edits (filled e.1) (place n es) new e.0 (Some e.1) (λ q. shows-it e here q ∙ by replaced q (bytes_eq e.0 q) refl) (sym (ap (filled e.1) was))
  where
    by : fs ≡ swap_key (same_name e) es e → (q : List ℕ) (b : Bool) → bytes_eq e.0 q ≡ b → cond b (Some e.1) (place n fs q) ≡ cond b (Some e.1) (place n es q)
    by replaced q true same = refl
    by replaced q false other = ap (λ l. place n l q) replaced ∙ others_replaced n es e q other

-- the slots that are shown have the same names then
pub names_stay : (n : ℕ) (es fs : List Entry) (e : Entry) → list_any (same_name e) es ≡ true → fs ≡ replace_key same_name es e → keys_of (take n fs) ≡ keys_of (take n es)
names_stay n es fs e there is =
    sym (take-map (λ x. x.0) n fs) ∙ ap (take n) (ap keys_of (is ∙ ap (λ b. if b then swap_key (same_name e) es e else es ++ e ∷ []) there) ∙ names_replaced es e) ∙ take-map (λ x. x.0) n es

-- a name that has a slot has an empty place
pub emptied_edits : (n : ℕ) (es : List Entry) (name : List ℕ) (i : ℕ) (new : List ℕ → Place) → Some i ≡ position (λ (f : Entry). bytes_eq name f.0) es → ((f : Entry) → slice_get es i ≡ Some f → Becomes n es f None new)
    → (q : List ℕ) → new q ≡ cond (bytes_eq name q) (filled None (place n es q)) (place n es q)
emptied_edits n es name i new first hides-it =
    let slot = slot_at es name i first in
    set_edits (filled None) (place n es) new name (Some None) (λ q. hides-it slot.0 slot.1 q ∙ ap (λ k. cond {A = Place} (bytes_eq k q) (Some None) (place n es q)) (sym slot.2)) (sym (ap (filled None) (found_at n es name i slot.0 (sym first) slot.1)))

-- a name that has no slot
pub filled_none : (o : Option Object) (p : Place) → p ≡ None → filled o p ≡ p
filled_none o p none = ap (filled o) none ∙ sym none

pub added_there : (o : Option Object) (p : Place) → is_some p ≡ true → added o p ≡ p
added_there o None e = absurd (true≢false (sym e))
added_there o (Some _) e = refl

-- a name whose slot is hidden, and then taken away, has no place
pub swept_edits : (old hidden new : List ℕ → Place) (name : List ℕ) (e : Entry) → name ≡ e.0 → None ≡ found (old name) → ((q : List ℕ) → hidden q ≡ cond (bytes_eq e.0 q) (Some None) (old q)) → ((q : List ℕ) → new q ≡ cond (bytes_eq e.0 q) None (hidden q))
    → (q : List ℕ) → new q ≡ cond (bytes_eq name q) (swept (old q)) (old q)
swept_edits old hidden new name e named nothing hides-it takes =
    set_edits swept old new name None (λ q. takes q ∙ ap (cond (bytes_eq e.0 q) None) (hides-it q) ∙ twice (bytes_eq e.0 q) (old q) ∙ ap (λ k. cond {A = Place} (bytes_eq k q) None (old q)) (sym named)) (none_swept (old name) nothing)
  where
    twice : (b : Bool) (p : Place) → cond b None (cond b (Some None) p) ≡ cond b None p
    twice true p = refl
    twice false p = refl

    none_swept : (p : Place) → None ≡ found p → None ≡ swept p
    none_swept None is = refl
    none_swept (Some None) is = refl
    none_swept (Some (Some x)) is = absurd (cc)

pub swept_there : (p : Place) (x : Object) → Some x ≡ found p → swept p ≡ p
swept_there None x is = absurd (cc)
swept_there (Some None) x is = absurd (cc)
swept_there (Some (Some y)) x is = refl

-- of a call that fails only where there is no slot of the name
pub unless_absent : {A E P : Type 0} {b : Bool} (r : Result A E) → OnOk r P → OnErr r (b ≡ false) → true ≡ b → P
unless_absent (Ok x) done absent there = done
unless_absent (Err e) done absent there = absurd (true≢false (there ∙ absent))

-- where all slots are shown, the places hold what they have
pub all_shown : (n : ℕ) (es : List Entry) → length es ≤ n → as_shown n es ≡ es
all_shown zero [] past = refl
all_shown zero (e ∷ es) past = absurd (omega (arith, past))
all_shown (suc n) [] past = refl
all_shown (suc n) (e ∷ es) past = ap (λ fs. e ∷ fs) (all_shown n es (omega (arith, past)))

pub same_in_order : (n : ℕ) (es fs : List Entry) → length es ≤ n → length fs ≡ length es → ((q : List ℕ) → place_among fs q ≡ place_among es q) → (q : List ℕ) → place n fs q ≡ place n es q
same_in_order n es fs past long same q = ap (λ l. place_among l q) (all_shown n fs (omega (arith, past, long))) ∙ same q ∙ sym (ap (λ l. place_among l q) (all_shown n es past))

-- ---- the least name

distinct_taken : (n : ℕ) (es : List Entry) → IsDistinct bytes_eq (keys_of (as_shown n es)) → IsDistinct bytes_eq (keys_of (take n es))
distinct_taken n es distinct = subst (IsDistinct bytes_eq) (take-map (λ (e : Entry). e.0) n es) (distinct-take nat_list_eq_equiv n (keys_of es) (subst (IsDistinct bytes_eq) (keys_shown n es) distinct))

-- a walk over the slots that are shown gives the object of the least name
pub walked_shown : (n : ℕ) (es : List Entry) → IsDistinct bytes_eq (keys_of (as_shown n es)) → IsLeast (λ q. found (place n es q)) (option_map (λ named. named.1) (least_entry None (take n es)))
walked_shown n es distinct = subst (λ at. IsLeast at (option_map (λ named. named.1) (least_entry None (take n es)))) (λ i q. found_taken n es q i) (walked (take n es) (distinct_taken n es distinct))

-- and where the names descend, the last one of them has it
pub last_shown : (n : ℕ) (es : List Entry) (name : List ℕ) (held : Option Object) → IsDistinct bytes_eq (keys_of (as_shown n es)) → Descends (keys_of (take n es)) → slice_get (take n es) (length (take n es) - 1) ≡ Some (name, held)
    → IfSome held (λ x. IsLeast (λ q. found (place n es q)) (Some x))
last_shown n es name held distinct down at = subst (λ look. IfSome held (λ x. IsLeast look (Some x))) (λ i q. found_taken n es q i) (last_place (take n es) name held (distinct_taken n es distinct) down at)
