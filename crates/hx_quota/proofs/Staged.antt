-- What is staged counts what is there then.
--     ready_next                      staged changes are ready after the first one
--     filled, empty, one_item         lists by their lengths
--     on_ok                           what holds where a call succeeds
--     IsMade                          changes may be made, and entries count objects and a tree then
--     tells_tree, tells_staying       by changes of the tree
--     unchanged_write                 by a write that changes no charge
--     may_write, tells_write          by one that does
--     uncharged_housed, uncharged_tells      by writes of kinds that are charged nothing
--     may_some .. used_some           the same of entries that may count no more
use Rattle.std.proofs.Common.{◌≡◌, ◌≢◌, ℕ, ◌+◌, ◌≤◌, Bool, true, false, cond, not, Option, Some, None, List, [], ◌∷◌, length, get_or, IfSome, refl, sym, ap, subst, ◌∙◌, inl, inr, ◌⊎◌, arith, true≢false}
use Rattle.std.specs.Prelude.{nat_eq, is_some, slice_index, sum_by, Result, Ok, Err, OnOk, IsSomeAnd}
use Rattle.std.specs.List.{AllByRecursion, list_all, list_any}
use Rattle.std.specs.Option.{option_map_or}
use Rattle.std.proofs.lemmas.Bool.{and_parts, eqb-true}
use Rattle.hx_object.specs.declared.kind.Kind.{Kind}
use Rattle.hx_object.specs.declared.object.Object.{Object}
use Rattle.hx_forest.specs.Kept.{changed_by, changed_by_all, MayChange as MayChangeTree}
use Rattle.hx_forest.specs.declared.change.Change.{Change as TreeChange}
use Rattle.hx_forest.specs.declared.change.Change.TheVariants as tree
use Rattle.hx_forest.proofs.Named.{lookup-without_value}
use Rattle.hx_model.specs.Cases.{same_name}
use Rattle.hx_model.specs.Charges.{charge_of, resources_for}
use Rattle.hx_model.specs.Forest.{Forest, is_there, node_of, parent_of}
use Rattle.hx_model.specs.First.{so}
use Rattle.hx_model.specs.Quotas.{charge_before, charge_below}
use Rattle.hx_model.specs.State.{Objects, object_at, ascends, after_writes}
use Rattle.hx_model.specs.declared.key.Write.{Write}
use Rattle.hx_model.specs.declared.key.Write.TheVariants.{Put, Cut}
use Rattle.hx_model.specs.declared.resource.Resource.{Resource}
use Rattle.hx_model.proofs.Charging.{uncharged}
use Rattle.hx_model.proofs.Climbing.{is_same, same_itself}
use Rattle.hx_model.proofs.Writes.{ascends_after}
use Rattle.hx_store.specs.Changes.{id_of, object_of}
use Rattle.hx_quota.specs.declared.change.CounterChange.{CounterChange}
use Rattle.hx_quota.specs.declared.change.CounterChange.TheVariants.{Shift}
use Rattle.hx_quota.specs.declared.entry.Delta.{Delta}
use Rattle.hx_quota.specs.Counters.{Entry}
use Rattle.hx_quota.specs.Counters.{Entries, CountersView, entry_of, place_of, own_of, own_in, with_shifted, sums_of, used_in, AllFit}
use Rattle.hx_quota.specs.Counting.{AreRegular, own_charge, changed, changed_all, MayChangeAll, changes_of_tree, deltas_of}
use Rattle.hx_quota.specs.SubtreeUsage.{Tells, IsCounted, HasTotals, IsReady, is_any, is_charged_kind, are_uncharged, is_staying, MayShift, IsHoused, AreOnce}
use Rattle.hx_quota.proofs.CountingDeltas.{apart_deltas, old_deltas, deltas_none}
use Rattle.hx_quota.proofs.CountingObjects.{ChargesMove, KeepsCharge, counts_then, put_moves, cut_moves, charged_there, own_alike, writes_alike, writes_unchanged, put_unchanged, cut_unchanged}
use Rattle.hx_quota.proofs.CountingRegular.{in_order, regular_changed, regular_all, regular_shifted}
use Rattle.hx_quota.proofs.CountingSums.{used_of_counts}
use Rattle.hx_quota.proofs.CountingTree.{IsEmptied, counts_tree, replanted, same_parents, same_parents_ending, terminated}
use Rattle.hx_quota.proofs.DeltasAmong.{found_kind}

-- what holds where a call succeeds
pub on_ok : {A E P Q : Type 0} (r : Result A E) → (P → Q) → OnOk r P → OnOk r Q
on_ok (Ok x) f p = f p
on_ok (Err e) f p = tt

-- a list that isn't empty
pub filled : {A : Type 0} (xs : List A) → nat_eq (length xs) 0 ≡ false → xs ≢ []
filled {A = A} xs some none = true≢false (sym (ap (λ (ys : List A). nat_eq (length ys) 0) none) ∙ some)

-- one that is
pub empty : {A : Type 0} (xs : List A) → nat_eq (length xs) 0 ≡ true → xs ≡ []
empty [] none = refl
empty (x ∷ xs) none = absurd (more (eqb-true (length (x ∷ xs)) 0 none))
  where
    more : length (x ∷ xs) ≡ 0 → ⊥
    more e = omega (arith, e)

-- one of one item
pub one_item : {A : Type 0} (xs : List A) (d x : A) → length xs ≡ 1 → x ≡ get_or xs 0 d → xs ≡ x ∷ []
one_item [] d x one is = absurd (none one)
  where
    none : ◌≡◌ {A = ℕ} 0 1 → ⊥
    none e = omega (arith, e)
one_item (y ∷ []) d x one is = λ i. sym is i ∷ []
one_item (y ∷ z ∷ xs) d x one is = absurd (more (length xs) one)
  where
    more : (n : ℕ) → length (y ∷ z ∷ xs) ≡ 1 → ⊥
    more n e = omega (arith, e)

-- what is told of what counts, of what may count no more
pub if_so : {A : Type 0} (P : A → Type 0) (b : Bool) (x : A) (o : Option A) → so b x ≡ o → P x → IfSome o P
if_so P true x o is p = subst (λ q. IfSome q P) is p
if_so P false x o is p = subst (λ q. IfSome q P) is tt

-- ---- changes that are made

pub ready_next : (counters now : CountersView) (totals after : List ℕ) (c : CounterChange) (rest : List CounterChange) → IsReady counters totals (c ∷ rest)
    → now.entries ≡ changed c counters.entries → HasTotals after now.entries → counters.spare ≤ now.spare + 1 → IsReady now after rest
ready_next counters now totals after c rest ready is whole room = record {
  regular = subst AreRegular (sym is) (regular_changed c counters.entries ready.regular);
  whole = whole;
  may = subst (MayChangeAll rest) (sym is) ready.may.1;
  room = less (length rest) counters.spare now.spare ready.room room;
}
  where
    less : (a b d : ℕ) → length (c ∷ rest) ≤ b → b ≤ d + 1 → length rest ≤ d
    less a b d e f = omega (arith, e, f)

-- ---- changes of the tree

-- changes may be made, and entries count objects and a tree then
abbrev pub IsMade : Objects → Forest → List CounterChange → Entries → Type 0
IsMade objects f changes es = MayChangeAll changes es × Tells objects f (changed_all changes es)

emptied : (objects : Objects) (f : Forest) (c : TreeChange) → IsHoused objects (changed_by c f) → IsEmptied objects c
emptied objects f (tree.Add name node) housed = tt
emptied objects f (tree.SetParent name parent) housed = tt
emptied objects f (tree.SetTerminating name) housed = tt
emptied objects f (tree.Remove name) housed = λ r. housed name r (ap is_some (lookup-without_value name f name ∙ ap (λ b. cond b None (node_of f name)) (same_itself name)))

pub tells_tree : (objects : Objects) (f : Forest) (c : TreeChange) (es : Entries) → MayChangeTree c f → AreOnce f c → IsHoused objects (changed_by c f) → Tells objects f es → IsMade objects (changed_by c f) (changes_of_tree f c) es
tells_tree objects f c es may once housed tells =
    let made = counts_tree objects f es tells.counts (in_order es tells.regular) c may once (emptied objects f c housed) in
    (made.0, record { regular = regular_all (changes_of_tree f c) es tells.regular; counts = made.1 })

same_names : (a b : Option (List ℕ)) → same_name a b ≡ true → a ≡ b
same_names None None is = refl
same_names None (Some n) is = absurd (true≢false (sym is))
same_names (Some n) None is = absurd (true≢false (sym is))
same_names (Some n) (Some m) is = ap Some (is_same n m is)

-- several that leave all parents, which are those of f
tells_left : (objects : Objects) (f g : Forest) (es : Entries) (cs : List TreeChange) → list_all (is_staying f) cs ≡ true → ((m : List ℕ) → parent_of g m ≡ parent_of f m) → Tells objects g es → Tells objects (changed_by_all cs g) es
tells_left objects f g es [] stay same tells = tells
tells_left objects f g es (tree.Add name node ∷ cs) stay same tells = absurd (true≢false (sym stay))
tells_left objects f g es (tree.SetParent name parent ∷ cs) stay same tells =
    let parts = and_parts (same_name (parent_of f name) parent) (list_all (is_staying f) cs) stay in
    let is : parent_of g name ≡ parent = same name ∙ same_names (parent_of f name) parent parts.0 in
    tells_left objects f (changed_by (tree.SetParent name parent) g) es cs parts.1 (λ m. same_parents g name parent is m ∙ same m)
    (record { regular = tells.regular; counts = replanted objects g es tells.counts name parent is })
tells_left objects f g es (tree.SetTerminating name ∷ cs) stay same tells =
    tells_left objects f (changed_by (tree.SetTerminating name) g) es cs stay (λ m. same_parents_ending g name m ∙ same m) (record { regular = tells.regular; counts = terminated objects g es tells.counts name })
tells_left objects f g es (tree.Remove name ∷ cs) stay same tells = absurd (true≢false (sym stay))

pub tells_staying : (objects : Objects) (f : Forest) (es : Entries) (cs : List TreeChange) → list_all (is_staying f) cs ≡ true → Tells objects f es → Tells objects (changed_by_all cs f) es
tells_staying objects f es cs stay tells = tells_left objects f f es cs stay (λ m. refl) tells

-- ---- one write

-- one that changes no charge
pub unchanged_write : (objects : Objects) (f : Forest) (es : Entries) (w : Write) → ascends objects ≡ true → deltas_of (object_at objects (id_of w)) (object_of w) ≡ [] → Tells objects f es → Tells (after_writes (w ∷ []) objects) f es
unchanged_write objects f es (Put x) up none tells = record { regular = tells.regular; counts = put_unchanged x objects f es up none tells.counts }
unchanged_write objects f es (Cut id) up none tells = record { regular = tells.regular; counts = cut_unchanged id objects f es up none tells.counts }

moves_by : (w : Write) (objects : Objects) → ascends objects ≡ true → ChargesMove objects (after_writes (w ∷ []) objects) (id_of w).ns (object_at objects (id_of w)) (object_of w)
moves_by (Put x) objects up = put_moves x objects up
moves_by (Cut id) objects up = cut_moves id objects up

-- own sums of a namespace
sums_own : (es : Entries) (n : List ℕ) (r : Resource) → slice_index (sums_of es (n ∷ [])) (place_of r) ≡ own_in es n r
sums_own es n r = at (entry_of es n)
  where
    at : (o : Option Entry) → slice_index (option_map_or (λ e. e.own) o []) (place_of r) ≡ option_map_or (own_of r) o 0
    at None = refl
    at (Some e) = refl

module _ (objects : Objects) (f : Forest) (es : Entries) (w : Write) (up : ascends objects ≡ true) (housed : IsHoused (after_writes (w ∷ []) objects) f) (tells : Tells objects f es) (some : deltas_of (object_at objects (id_of w)) (object_of w) ≢ []) where
  abbrev n : List ℕ
  n = (id_of w).ns

  abbrev old : Option Object
  old = object_at objects (id_of w)

  abbrev new : Option Object
  new = object_of w

  abbrev after : Objects
  after = after_writes (w ∷ []) objects

  -- the namespace is there: without one nothing is charged, neither before nor then
  there : is_there f n ≡ true
  there = at (is_there f n) refl
    where
      level : (a b x y : ℕ) → a ≡ 0 → b ≡ 0 → a + x ≡ b + y → x ≡ y
      level a b x y e g h = omega (arith, e, g, h)

      none_in : (o : Option Entry) → is_some o ≡ false → (r : Resource) → option_map_or (own_of r) o 0 ≡ 0
      none_in None out r = refl
      none_in (Some e) out r = absurd (true≢false out)

      same : is_there f n ≡ false → (r : Resource) → charge_before old r ≡ charge_before new r
      same out r =
          let was : own_charge objects n r ≡ 0 = sym (tells.counts.own n r) ∙ none_in (entry_of es n) (tells.counts.there n ∙ out) r in
          level (own_charge after n r) (own_charge objects n r) (charge_before old r) (charge_before new r) (housed n r out) was
          ((λ i. own_charge after n r + cond (sym (same_itself n) i) (charge_before old r) 0) ∙ moves_by w objects up n r ∙ (λ i. own_charge objects n r + cond (same_itself n i) (charge_before new r) 0))

      at : (b : Bool) → is_there f n ≡ b → b ≡ true
      at true is = refl
      at false out = absurd (some (deltas_none old new (same out)))

  pub may_write : MayShift es n (deltas_of old new)
  may_write = (
    tells.counts.there n ∙ there,
    apart_deltas old new,
    old_deltas old new (sums_of es (n ∷ [])) (λ r. subst (λ (k : ℕ). charge_before old r ≤ k) (sym (sums_own es n r ∙ tells.counts.own n r)) (charged_there objects (id_of w) up r)),
  )

  pub tells_write : Tells after f (with_shifted (n ∷ []) (deltas_of old new) es)
  tells_write = record {
    regular = regular_shifted n (deltas_of old new) es tells.regular;
    counts = counts_then objects after f es n old new tells.regular tells.counts there (moves_by w objects up) (charged_there objects (id_of w) up);
  }

-- ---- writes of kinds that are charged nothing

none_any : (rs : List Resource) → is_any rs ≡ false → list_any (λ (r : Resource). true) rs ≡ false
none_any [] none = refl
none_any (r ∷ rs) none = absurd (true≢false none)

charged_nothing : (x : Object) (r : Resource) → is_charged_kind x.id.kind ≡ false → charge_of x r ≡ 0
charged_nothing x r none = by (uncharged (λ _. true) x r (none_any (resources_for x.id.kind) none))
  where
    by : (true ≡ false) ⊎ (charge_of x r ≡ 0) → charge_of x r ≡ 0
    by (inl e) = absurd (true≢false e)
    by (inr e) = e

before_nothing : (kind : Kind) (o : Option Object) → IfSome o (λ x. x.id.kind ≡ kind) → is_charged_kind kind ≡ false → (r : Resource) → charge_before o r ≡ 0
before_nothing kind None is none r = refl
before_nothing kind (Some x) is none r = charged_nothing x r (ap is_charged_kind is ∙ none)

is_not : (b : Bool) → not b ≡ true → b ≡ false
is_not true e = absurd (true≢false (sym e))
is_not false e = refl

uncharged_keep : (objects : Objects) (ws : List Write) → are_uncharged ws ≡ true → AllByRecursion (KeepsCharge objects) ws
uncharged_keep objects [] none = tt
uncharged_keep objects (w ∷ ws) none =
    let parts = and_parts (not (is_charged_kind (id_of w).kind)) (are_uncharged ws) none in
    (one w (is_not (is_charged_kind (id_of w).kind) parts.0), uncharged_keep objects ws parts.1)
  where
    one : (w : Write) → is_charged_kind (id_of w).kind ≡ false → KeepsCharge objects w
    one (Put x) none = λ r. before_nothing x.id.kind (object_at objects x.id) (found_kind objects x.id (object_at objects x.id) refl) none r ∙ sym (charged_nothing x r none)
    one (Cut id) none = λ r. before_nothing id.kind (object_at objects id) (found_kind objects id (object_at objects id) refl) none r

pub uncharged_housed : (objects : Objects) (f : Forest) (ws : List Write) → ascends objects ≡ true → are_uncharged ws ≡ true → IsHoused (after_writes ws objects) f → IsHoused objects f
uncharged_housed objects f ws up none housed = λ n r out.
    own_alike objects (after_writes ws objects) up (ascends_after ws objects up) (writes_alike objects ws objects (uncharged_keep objects ws none) (λ q r. refl)) n r ∙ housed n r out

pub uncharged_tells : (objects : Objects) (f : Forest) (es : Entries) (ws : List Write) → ascends objects ≡ true → are_uncharged ws ≡ true → Tells objects f es → Tells (after_writes ws objects) f es
uncharged_tells objects f es ws up none tells = record { regular = tells.regular; counts = writes_unchanged ws objects f es up (uncharged_keep objects ws none) tells.counts }

-- ---- what counts, where it isn't lost

pub may_some : (objects : Objects) (f : Forest) (c : TreeChange) → MayChangeTree c f → AreOnce f c → IsHoused objects (changed_by c f) → (o : Option Entries) → IsSomeAnd o (Tells objects f)
    → (changes : List CounterChange) → changes ≡ changes_of_tree f c → IsSomeAnd o (λ es. MayChangeAll changes es)
may_some objects f c may once housed None tells changes is = absurd tells
may_some objects f c may once housed (Some es) tells changes is = subst (λ cs. MayChangeAll cs es) (sym is) (tells_tree objects f c es may once housed tells).0

pub then_some : (objects : Objects) (f : Forest) (c : TreeChange) → MayChangeTree c f → AreOnce f c → IsHoused objects (changed_by c f) → (o : Option Entries) → IsSomeAnd o (Tells objects f)
    → (changes : List CounterChange) → changes ≡ changes_of_tree f c → (next : Option Entries) → IfSome o (λ es. next ≡ Some (changed_all changes es)) → IsCounted objects (changed_by c f) next
then_some objects f c may once housed None tells changes is next made = absurd tells
then_some objects f c may once housed (Some es) tells changes is next made =
    subst (IsCounted objects (changed_by c f)) (sym made) (subst (λ cs. Tells objects (changed_by c f) (changed_all cs es)) (sym is) (tells_tree objects f c es may once housed tells).1)

pub staying_some : (objects : Objects) (f : Forest) (cs : List TreeChange) → list_all (is_staying f) cs ≡ true → (o next : Option Entries) → IsSomeAnd o (Tells objects f) → next ≡ o → IsCounted objects (changed_by_all cs f) next
staying_some objects f cs stay None next tells is = absurd tells
staying_some objects f cs stay (Some es) next tells is = subst (IsCounted objects (changed_by_all cs f)) (sym is) (tells_staying objects f es cs stay tells)

module _ (objects : Objects) (f : Forest) (w : Write) (up : ascends objects ≡ true) where
  pub unchanged_some : (ds : List Delta) → ds ≡ deltas_of (object_at objects (id_of w)) (object_of w) → ds ≡ [] → (o next : Option Entries) → IsSomeAnd o (Tells objects f) → next ≡ o → IsCounted (after_writes (w ∷ []) objects) f next
  unchanged_some ds is none None next tells same = absurd tells
  unchanged_some ds is none (Some es) next tells same = subst (IsCounted (after_writes (w ∷ []) objects) f) (sym same) (unchanged_write objects f es w up (sym is ∙ none) tells)

  pub shift_some : IsHoused (after_writes (w ∷ []) objects) f → (n : List ℕ) (ds : List Delta) → n ≡ (id_of w).ns → ds ≡ deltas_of (object_at objects (id_of w)) (object_of w) → ds ≢ []
      → (o : Option Entries) → IsSomeAnd o (Tells objects f) → IsSomeAnd o (λ es. MayShift es n ds)
  shift_some housed n ds here is some None tells = absurd tells
  shift_some housed n ds here is some (Some es) tells = subst (λ k. MayShift es k ds) (sym here) (subst (λ xs. MayShift es (id_of w).ns xs) (sym is) (may_write objects f es w up housed tells (λ none. some (is ∙ none))))

  pub shifted_some : IsHoused (after_writes (w ∷ []) objects) f → (n : List ℕ) (ds : List Delta) → n ≡ (id_of w).ns → ds ≡ deltas_of (object_at objects (id_of w)) (object_of w) → ds ≢ []
      → (o next : Option Entries) → IsSomeAnd o (Tells objects f) → IfSome o (λ es. next ≡ Some (with_shifted (n ∷ []) ds es)) → IsCounted (after_writes (w ∷ []) objects) f next
  shifted_some housed n ds here is some None next tells made = absurd tells
  shifted_some housed n ds here is some (Some es) next tells made =
      subst (IsCounted (after_writes (w ∷ []) objects) f) (sym made)
      (subst (λ k. Tells (after_writes (w ∷ []) objects) f (with_shifted (k ∷ []) ds es)) (sym here) (subst (λ xs. Tells (after_writes (w ∷ []) objects) f (with_shifted ((id_of w).ns ∷ []) xs es)) (sym is) (tells_write objects f es w up housed tells (λ none. some (is ∙ none)))))

pub may_shift_some : (o : Option Entries) (n : List ℕ) (ds : List Delta) → IsSomeAnd o (λ es. MayShift es n ds) → IfSome o (λ es. (k : List ℕ) → MayShift es k ds → AllFit (with_shifted (k ∷ []) ds es))
    → (changes : List CounterChange) → changes ≡ Shift n ds ∷ [] → IsSomeAnd o (λ es. MayChangeAll changes es)
may_shift_some None n ds may fits changes is = absurd may
may_shift_some (Some es) n ds may fits changes is = subst (λ cs. MayChangeAll cs es) (sym is) ((may.0, may.1, may.2, fits n may), tt)

pub uncharged_some : (objects : Objects) (f : Forest) (ws : List Write) → ascends objects ≡ true → are_uncharged ws ≡ true → (next : Option Entries) → IsCounted objects f next → IsCounted (after_writes ws objects) f next
uncharged_some objects f ws up none None counted = tt
uncharged_some objects f ws up none (Some es) counted = uncharged_tells objects f es ws up none counted

pub used_some : (objects : Objects) (f : Forest) (es : Entries) (o : Option Entries) → Some es ≡ o → IsCounted objects f o → (a : List ℕ) (r : Resource) → used_in es a r ≡ sum_by (charge_below f a r) objects
used_some objects f es o is counted a r =
    let tells : Tells objects f es = subst (IsCounted objects f) (sym is) counted in
    used_of_counts objects f es tells.regular tells.counts a r
