-- The object of the least name: what a walk over places gives.
use Rattle.std.proofs.Common.{◌≡◌, ℕ, Bool, true, false, cond, Option, Some, None, List, [], ◌∷◌, ◌⊎◌, inl, inr, refl, sym, ap, subst, ◌∙◌, true≢false}
use Rattle.std.specs.Prelude.{is_some, IfSome}
use Rattle.std.specs.Cmp.{IsStrictWeakOrder, tied_itself}
use Rattle.std.specs.Cmp.Lexicographic.{nat_list_cmp_total}
use Rattle.std.specs.Ordering.{is_lt}
use Rattle.std.specs.Option.{option_map}
use Rattle.std.specs.List.{AllByRecursion, IsDistinct}
use Rattle.std.specs.Map.{keys_of, lookup}
use Rattle.std.specs.Str.{bytes_eq}
use Rattle.std.proofs.lemmas.List.Sorted.{ranks_by}
use Rattle.std.proofs.lemmas.Map.Keys.{IsDistinct-head, IsDistinct-tail}
use Rattle.std.proofs.lemmas.Slice.Eq.{bytes_eq-Decides}
use Rattle.hx_object.specs.Texts.{bytes_cmp}
use Rattle.hx_object.specs.declared.object.Object.{Object}
use Rattle.hx_store.specs.Least.{IsLeast, Named, is_less, least_entry}
use Rattle.hx_store.specs.ObjectTable.{found, place_alone}
pub use Rattle.hx_store.specs.Slots.{Entry}
use Rattle.hx_store.proofs.Finding.{none_among, text_itself}

-- the place of a name among entries
abbrev pub place_among : List Entry → List ℕ → Option (Option Object)
place_among es name = lookup (bytes_eq name) es

pub names_ranked : IsStrictWeakOrder is_less
names_ranked = ranks_by nat_list_cmp_total (λ (s : List ℕ). s)

not_itself : (b : Bool) → (b ≡ true → b ≡ false) → b ≡ false
not_itself true h = h refl
not_itself false h = refl

pub not_less_itself : (a : List ℕ) → is_less a a ≡ false
not_less_itself a = not_itself (is_less a a) (names_ranked.one_way a a)

-- an object of the entry, if there is one, has no lesser name
abbrev NotLess : Named → Entry → Type 0
NotLess named e = IfSome e.1 (λ _. is_less e.0 named.0 ≡ false)

-- what was found first, or lies in an entry
abbrev IsAt : Option Named → List Entry → Named → Type 0
IsAt best es named = (best ≡ Some named) ⊎ (place_among es named.0 ≡ Some (Some named.1))

abbrev Outcome : Option Named → List Entry → Option Named → Type 0
Outcome best es None = (best ≡ None) × AllByRecursion (λ e. e.1 ≡ None) es
Outcome best es (Some named) = IsAt best es named × IfSome best (λ b. is_less b.0 named.0 ≡ false) × AllByRecursion (NotLess named) es

module _ (e : Entry) (es : List Entry) (distinct : IsDistinct bytes_eq (keys_of (e ∷ es))) where
  head : place_among (e ∷ es) e.0 ≡ Some e.1
  head = ap (λ b. cond b (Some e.1) (place_among es e.0)) (text_itself e.0)

  past : (name : List ℕ) (v : Option Object) → place_among es name ≡ Some v → place_among (e ∷ es) name ≡ Some v
  past name v there = by (bytes_eq name e.0) refl
    where
      by : (b : Bool) → bytes_eq name e.0 ≡ b → place_among (e ∷ es) name ≡ Some v
      by true same = absurd (true≢false (ap is_some (sym there ∙ none_among e.0 name es same (IsDistinct-head bytes_eq e.0 (keys_of es) distinct))))
      by false other = ap (λ b. cond b (Some e.1) (place_among es name)) other ∙ there

-- one more entry before the others
none_step : (name : List ℕ) (es : List Entry) (best r : Option Named) → IsDistinct bytes_eq (keys_of ((name, None) ∷ es)) → Outcome best es r → Outcome best ((name, None) ∷ es) r
none_step name es best None distinct was = (was.0, (refl, was.1))
none_step name es best (Some named) distinct was = (at was.0, was.1, (tt, was.2))
  where
    at : IsAt best es named → IsAt best ((name, None) ∷ es) named
    at (inl first) = inl first
    at (inr later) = inr (past (name, None) es distinct named.0 (Some named.1) later)

module _ (name : List ℕ) (x : Object) (es : List Entry) (distinct : IsDistinct bytes_eq (keys_of ((name, Some x) ∷ es))) where
  at_head : (named : Named) → Some (name, x) ≡ Some named → place_among ((name, Some x) ∷ es) named.0 ≡ Some (Some named.1)
  at_head named e = let same : (name, x) ≡ named = cc in subst (λ (n : Named). place_among ((name, Some x) ∷ es) n.0 ≡ Some (Some n.1)) same (head (name, Some x) es distinct)

  -- the entry's object is taken
  taken : (best r : Option Named) → IfSome best (λ b. is_less b.0 name ≡ false) → Outcome (Some (name, x)) es r → Outcome best ((name, Some x) ∷ es) r
  taken best None less was = absurd (true≢false (ap is_some was.0))
  taken best (Some named) less was = (at was.0, first best less, (was.1, was.2))
    where
      at : IsAt (Some (name, x)) es named → IsAt best ((name, Some x) ∷ es) named
      at (inl e) = inr (at_head named e)
      at (inr later) = inr (past (name, Some x) es distinct named.0 (Some named.1) later)

      first : (o : Option Named) → IfSome o (λ b. is_less b.0 name ≡ false) → IfSome o (λ b. is_less b.0 named.0 ≡ false)
      first None less = tt
      first (Some b) less = names_ranked.chain b.0 name named.0 less was.1

  -- or left, since what was found has a lesser name
  left : (b : Named) (r : Option Named) → is_less name b.0 ≡ false → Outcome (Some b) es r → Outcome (Some b) ((name, Some x) ∷ es) r
  left b None less was = absurd (true≢false (ap is_some was.0))
  left b (Some named) less was = (at was.0, was.1, (names_ranked.chain name b.0 named.0 less was.1, was.2))
    where
      at : IsAt (Some b) es named → IsAt (Some b) ((name, Some x) ∷ es) named
      at (inl e) = inl e
      at (inr later) = inr (past (name, Some x) es distinct named.0 (Some named.1) later)

outcome : (best : Option Named) (es : List Entry) → IsDistinct bytes_eq (keys_of es) → Outcome best es (least_entry best es)
outcome None [] distinct = (refl, tt)
outcome (Some b) [] distinct = (inl refl, not_less_itself b.0, tt)
outcome None ((name, None) ∷ es) distinct = none_step name es None (least_entry None es) distinct (outcome None es (IsDistinct-tail bytes_eq name (keys_of es) distinct))
outcome (Some b) ((name, None) ∷ es) distinct = none_step name es (Some b) (least_entry (Some b) es) distinct (outcome (Some b) es (IsDistinct-tail bytes_eq name (keys_of es) distinct))
outcome None ((name, Some x) ∷ es) distinct = taken name x es distinct None (least_entry (Some (name, x)) es) tt (outcome (Some (name, x)) es (IsDistinct-tail bytes_eq name (keys_of es) distinct))
outcome (Some b) ((name, Some x) ∷ es) distinct =
    let rest = IsDistinct-tail bytes_eq name (keys_of es) distinct in
    by (is_less name b.0) refl (outcome (Some (name, x)) es rest) (outcome (Some b) es rest)
  where
    by : (t : Bool) → is_less name b.0 ≡ t → Outcome (Some (name, x)) es (least_entry (Some (name, x)) es) → Outcome (Some b) es (least_entry (Some b) es) → Outcome (Some b) ((name, Some x) ∷ es) (least_entry (cond t (Some (name, x)) (Some b)) es)
    by true less new old = taken name x es distinct (Some b) (least_entry (Some (name, x)) es) (names_ranked.one_way name b.0 less) new
    by false less new old = left name x es distinct b (least_entry (Some b) es) less old

-- what holds of each entry holds of what a look-up finds
pub at_each : (P : List ℕ → Option Object → Type 0) (es : List Entry) → AllByRecursion (λ e. P e.0 e.1) es → (name : List ℕ) (v : Option Object) → place_among es name ≡ Some v → P name v
at_each P [] all name v e = absurd (true≢false (sym (ap is_some e)))
at_each P (e ∷ es) all name v is = by (bytes_eq name e.0) refl is (at_each P es all.1 name v)
  where
    by : (b : Bool) → bytes_eq name e.0 ≡ b → cond b (Some e.1) (place_among es name) ≡ Some v → (place_among es name ≡ Some v → P name v) → P name v
    by true same h _ = let this : e.1 ≡ v = cc in subst (λ n. P n v) (sym ((bytes_eq-Decides name e.0).0 same)) (subst (P e.0) this all.0)
    by false _ h rest = rest h

pub least_from : (es : List Entry) (r : Option Named) → Outcome None es r → IsLeast (λ name. found (place_among es name)) (option_map (λ named. named.1) r)
least_from es None was = λ name. by name (place_among es name) refl
  where
    by : (name : List ℕ) (p : Option (Option Object)) → place_among es name ≡ p → found p ≡ None
    by name None e = refl
    by name (Some v) e = at_each (λ _ w. w ≡ None) es was.1 name v e
least_from es (Some named) was = (named.0, ap found (at was.0), λ other y there. less other y (place_among es other) refl there)
  where
    at : IsAt None es named → place_among es named.0 ≡ Some (Some named.1)
    at (inl e) = absurd (true≢false (sym (ap is_some e)))
    at (inr there) = there

    less : (other : List ℕ) (y : Object) (p : Option (Option Object)) → place_among es other ≡ p → found p ≡ Some y → is_lt (bytes_cmp other named.0) ≡ false
    less other y None e h = absurd (true≢false (sym (ap is_some h)))
    less other y (Some None) e h = absurd (true≢false (sym (ap is_some h)))
    less other y (Some (Some z)) e h = at_each (λ n v. IfSome v (λ _. is_lt (bytes_cmp n named.0) ≡ false)) es was.2 other (Some z) e

-- a walk over places gives the object of the least name
pub walked : (es : List Entry) → IsDistinct bytes_eq (keys_of es) → IsLeast (λ name. found (place_among es name)) (option_map (λ named. named.1) (least_entry None es))
walked es distinct = least_from es (least_entry None es) (outcome None es distinct)

-- a place alone
pub of_one : (held : List ℕ) (place : Option Object) → IsLeast (λ name. found (place_alone held place name)) place
of_one held None = λ name. by (bytes_eq name held)
  where
    by : (b : Bool) → found (cond b (Some None) None) ≡ None
    by true = refl
    by false = refl
of_one held (Some x) = (held, ap (λ b. found (cond b (Some (Some x)) None)) (text_itself held), λ other y there. by other y (bytes_eq other held) refl there)
  where
    by : (other : List ℕ) (y : Object) (b : Bool) → bytes_eq other held ≡ b → found (cond b (Some (Some x)) None) ≡ Some y → is_lt (bytes_cmp other held) ≡ false
    by other y true same there = ap (λ n. is_lt (bytes_cmp n held)) ((bytes_eq-Decides other held).0 same) ∙ ap is_lt (tied_itself nat_list_cmp_total held)
    by other y false _ there = absurd (true≢false (ap is_some (sym there)))
