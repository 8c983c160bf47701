-- Counters after objects are written.
--     charge_here                    what an object adds to its namespace, by what is found under its identity
--     own_alike, counts_alike        objects that are charged alike at each place are counted alike
--     counts_moved                   after one namespace is charged anew
--     total_moved, fits_moved        what all have together then, and that it fits
--     may_recharge                   what a shift needs beside that it fits
--     there_moved, put_there, cut_there      the namespace is there, where something charged changes
--     put_shifted, cut_shifted       after an object is put, and after one is cut
--     put_total, put_fits, cut_total, cut_fits       what all have together then, and that it fits
--     put_unchanged, cut_unchanged   where nothing charged changes by it
--     writes_unchanged               nor by any of several writes
use Rattle.std.proofs.Common.{◌≡◌, ℕ, ◌+◌, ◌-◌, ◌≤◌, Bool, true, false, cond, Option, Some, None, option_map, List, [], ◌∷◌, refl, sym, ap, subst, ◌∙◌, arith, true≢false}
use Rattle.std.specs.Prelude.{is_some}
use Rattle.std.specs.List.{AllByRecursion}
use Rattle.std.specs.Option.{option_map_or}
use Rattle.std.specs.Str.{bytes_eq}
use Rattle.std.proofs.lemmas.Bool.{true_from_ne_false}
use Rattle.hx_object.specs.declared.object.Id.{Id}
use Rattle.hx_object.specs.declared.object.Object.{Object}
use Rattle.hx_model.specs.Charges.{charge_of}
use Rattle.hx_model.specs.Forest.{Forest, is_there, parent_of}
use Rattle.hx_model.specs.Limits.{part_of}
use Rattle.hx_model.specs.Quotas.{charge_before}
use Rattle.hx_model.specs.State.{Objects, same_id, object_at, put, cut, ascends, after_writes}
use Rattle.hx_model.specs.declared.key.Write.{Write}
use Rattle.hx_model.specs.declared.key.Write.TheVariants.{Put, Cut}
use Rattle.hx_model.specs.declared.resource.Resource.{Resource}
use Rattle.hx_model.proofs.Climbing.{is_same, same_itself}
use Rattle.hx_model.proofs.Objects.{is_same_id, object_at-put, object_at-put_itself, object_at-cut, found_id, sum-put, sum-cut, ascends-put}
use Rattle.hx_model.proofs.Rising.{sum_less}
use Rattle.hx_model.proofs.Writes.{ascends_after}
use Rattle.hx_forest.specs.Named.{with_changed}
use Rattle.hx_forest.proofs.Named.{lookup-with_changed}
use Rattle.hx_quota.specs.declared.entry.Delta.{Delta}
use Rattle.hx_quota.specs.Counters.{Entry}
use Rattle.hx_quota.specs.Counters.{Entries, entry_of, own_of}
use Rattle.hx_quota.specs.Counting.{Counts, AreRegular, charge_in, own_charge, deltas_of}
use Rattle.hx_quota.proofs.CountingDeltas.{shifted_at, shift_deltas, apart_deltas, deltas_none, none_deltas}
use Rattle.hx_quota.proofs.CountingSums.{nothing_counted}
use Rattle.hx_quota.proofs.Deltas.{shift_in}
use Rattle.hx_quota.proofs.UsedSums.{same_tree}

-- ---- what is found under an identity

-- what an object adds to a namespace
pub charge_here : (m : List ℕ) (r : Resource) (objects : Objects) (id : Id) → part_of (charge_in m r) (object_at objects id) ≡ cond (bytes_eq id.ns m) (charge_before (object_at objects id) r) 0
charge_here m r objects id = at (object_at objects id) refl
  where
    at : (o : Option Object) → object_at objects id ≡ o → part_of (charge_in m r) o ≡ cond (bytes_eq id.ns m) (charge_before o r) 0
    at None there = either (bytes_eq id.ns m)
      where
        either : (b : Bool) → 0 ≡ cond b (charge_before None r) 0
        either true = refl
        either false = refl
    at (Some y) there = ap (λ (q : Id). cond (bytes_eq q.ns m) (charge_of y r) 0) (sym (found_id objects id y there))

-- ---- objects that are charged alike

-- at each place the same is charged
abbrev pub AreChargedAlike : Objects → Objects → Type 0
AreChargedAlike xs ys = (q : Id) (r : Resource) → charge_before (object_at xs q) r ≡ charge_before (object_at ys q) r

own_within : (xs ys : Objects) → ascends xs ≡ true → ascends ys ≡ true → AreChargedAlike xs ys → (m : List ℕ) (r : Resource) → own_charge xs m r ≤ own_charge ys m r
own_within xs ys up high same m r = sum_less (charge_in m r) (charge_in m r) xs ys up high (λ q.
    let here : part_of (charge_in m r) (object_at xs q) ≡ part_of (charge_in m r) (object_at ys q) = charge_here m r xs q ∙ ap (λ (k : ℕ). cond (bytes_eq q.ns m) k 0) (same q r) ∙ sym (charge_here m r ys q) in
    omega (arith, here))

pub own_alike : (xs ys : Objects) → ascends xs ≡ true → ascends ys ≡ true → AreChargedAlike xs ys → (m : List ℕ) (r : Resource) → own_charge xs m r ≡ own_charge ys m r
own_alike xs ys up high same m r = omega (arith, own_within xs ys up high same m r, own_within ys xs high up (λ q s. sym (same q s)) m r)

pub counts_alike : (xs ys : Objects) (f : Forest) (es : Entries) → ascends xs ≡ true → ascends ys ≡ true → AreChargedAlike xs ys → Counts xs f es → Counts ys f es
counts_alike xs ys f es up high same counts = record {
  there = counts.there;
  parents = counts.parents;
  own = λ m r. counts.own m r ∙ own_alike xs ys up high same m r;
}

-- ---- a namespace that is charged anew

there_is : (o : Option Entry) → is_some o ≡ true → (e : Entry) × (o ≡ Some e)
there_is None none = absurd (true≢false (sym none))
there_is (Some e) there = (e, refl)

-- what objects of n are charged, once new stands in the place of old
abbrev pub ChargesMove : Objects → Objects → List ℕ → Option Object → Option Object → Type 0
ChargesMove before after n old new = (m : List ℕ) (r : Resource) → own_charge after m r + cond (bytes_eq n m) (charge_before old r) 0 ≡ own_charge before m r + cond (bytes_eq n m) (charge_before new r) 0

module _ (before after : Objects) (f : Forest) (es : Entries) (n : List ℕ) (old new : Option Object) (regular : AreRegular es) (counts : Counts before f es) (there : is_there f n ≡ true) (moves : ChargesMove before after n old new)
    (had : (r : Resource) → charge_before old r ≤ own_charge before n r) where
  abbrev entry : Entry
  entry = (there_is (entry_of es n) (counts.there n ∙ there)).0

  is_entry : entry_of es n ≡ Some entry
  is_entry = (there_is (entry_of es n) (counts.there n ∙ there)).1

  own_entry : (r : Resource) → own_of r entry ≡ own_charge before n r
  own_entry r = ap (λ (o : Option Entry). option_map_or (own_of r) o 0) (sym is_entry) ∙ counts.own n r

  had_entry : (r : Resource) → charge_before old r ≤ own_of r entry
  had_entry r = subst (λ (k : ℕ). charge_before old r ≤ k) (sym (own_entry r)) (had r)

  abbrev deltas : List Delta
  deltas = deltas_of old new

  abbrev then : Entries
  then = with_changed n (shift_in deltas) es

  own_then : (r : Resource) → own_of r (shift_in deltas entry) ≡ own_charge after n r
  own_then r =
      let move : own_charge after n r + charge_before old r ≡ own_charge before n r + charge_before new r =
      (λ i. own_charge after n r + cond (sym (same_itself n) i) (charge_before old r) 0) ∙ moves n r ∙ (λ i. own_charge before n r + cond (same_itself n i) (charge_before new r) 0) in
      shifted_at deltas entry.own r (regular.long n entry is_entry) (apart_deltas old new)
      ∙ shift_deltas old new r (own_of r entry) (had_entry r)
      ∙ level (own_of r entry) (charge_before old r) (charge_before new r) (own_charge before n r) (own_charge after n r) (own_entry r) (had r) move
    where
      level : (own a b was now : ℕ) → own ≡ was → a ≤ was → now + a ≡ was + b → own - a + b ≡ now
      level own a b was now is le move = omega (arith, is, le, move)

  pub counts_then : Counts after f then
  counts_then = record {
    there = λ m. ap is_some (lookup-with_changed n (shift_in deltas) es m) ∙ still (bytes_eq n m) (entry_of es m) ∙ counts.there m;
    parents = λ m. ap (λ (t : Forest). parent_of t m) (same_tree n deltas es) ∙ counts.parents m;
    own = λ m r. ap (λ (o : Option Entry). option_map_or (own_of r) o 0) (lookup-with_changed n (shift_in deltas) es m) ∙ at m r (bytes_eq n m) refl;
  }
    where
      still : (b : Bool) (o : Option Entry) → is_some (cond b (option_map (shift_in deltas) o) o) ≡ is_some o
      still true None = refl
      still true (Some e) = refl
      still false o = refl

      same : (m : List ℕ) (r : Resource) → bytes_eq n m ≡ false → own_charge before m r ≡ own_charge after m r
      same m r out =
          let move : own_charge after m r + 0 ≡ own_charge before m r + 0 = (λ i. own_charge after m r + cond (sym out i) (charge_before old r) 0) ∙ moves m r ∙ (λ i. own_charge before m r + cond (out i) (charge_before new r) 0) in
          omega (arith, move)

      at : (m : List ℕ) (r : Resource) (b : Bool) → bytes_eq n m ≡ b → option_map_or (own_of r) (cond b (option_map (shift_in deltas) (entry_of es m)) (entry_of es m)) 0 ≡ own_charge after m r
      at m r true is =
          subst (λ (k : List ℕ). option_map_or (own_of r) (option_map (shift_in deltas) (entry_of es k)) 0 ≡ own_charge after k r) (is_same n m is)
          (ap (λ (o : Option Entry). option_map_or (own_of r) (option_map (shift_in deltas) o) 0) is_entry ∙ own_then r)
      at m r false out = counts.own m r ∙ same m r out

-- ---- one write

-- an object is put: what is charged moves in its namespace alone
pub put_moves : (x : Object) (objects : Objects) → ascends objects ≡ true → ChargesMove objects (put x objects) x.id.ns (object_at objects x.id) (Some x)
put_moves x objects up m r =
    let whole : own_charge (put x objects) m r + part_of (charge_in m r) (object_at objects x.id) ≡ own_charge objects m r + charge_in m r x = sum-put (charge_in m r) x objects up in
    ap (λ (k : ℕ). own_charge (put x objects) m r + k) (sym (charge_here m r objects x.id)) ∙ whole

-- one is cut
pub cut_moves : (id : Id) (objects : Objects) → ascends objects ≡ true → ChargesMove objects (cut id objects) id.ns (object_at objects id) None
cut_moves id objects up m r =
    let whole : own_charge (cut id objects) m r + part_of (charge_in m r) (object_at objects id) ≡ own_charge objects m r = sum-cut (charge_in m r) id objects up in
    let free : cond (bytes_eq id.ns m) (charge_before None r) 0 ≡ 0 = either (bytes_eq id.ns m) in
    let here = charge_here m r objects id in
    omega (arith, whole, free, here)
  where
    either : (b : Bool) → cond b (charge_before None r) 0 ≡ 0
    either true = refl
    either false = refl

-- a namespace is charged what is found in it
pub charged_there : (objects : Objects) (id : Id) → ascends objects ≡ true → (r : Resource) → charge_before (object_at objects id) r ≤ own_charge objects id.ns r
charged_there objects id up r =
    let whole : own_charge (cut id objects) id.ns r + part_of (charge_in id.ns r) (object_at objects id) ≡ own_charge objects id.ns r = sum-cut (charge_in id.ns r) id objects up in
    let here : part_of (charge_in id.ns r) (object_at objects id) ≡ charge_before (object_at objects id) r = charge_here id.ns r objects id ∙ ap (λ b. cond b (charge_before (object_at objects id) r) 0) (same_itself id.ns) in
    omega (arith, whole, here)

-- a namespace is there that is charged anew, where nothing is charged before and then outside
pub there_moved : (before after : Objects) (f : Forest) (n : List ℕ) (old new : Option Object) → ((r : Resource) → charge_before old r ≤ own_charge before n r) → ((r : Resource) → charge_before new r ≤ own_charge after n r)
    → (is_there f n ≡ false → (r : Resource) → own_charge before n r ≡ 0) → (is_there f n ≡ false → (r : Resource) → own_charge after n r ≡ 0) → (deltas_of old new ≡ [] → ⊥) → is_there f n ≡ true
there_moved before after f n old new had has none_before none_after some = true_from_ne_false (is_there f n) (λ out. some (deltas_none old new (λ r.
    none (charge_before old r) (charge_before new r) (own_charge before n r) (own_charge after n r) (had r) (has r) (none_before out r) (none_after out r))))
  where
    none : (a b c d : ℕ) → a ≤ c → b ≤ d → c ≡ 0 → d ≡ 0 → a ≡ b
    none a b c d p q e g = omega (arith, p, q, e, g)

pub put_there : (x : Object) (objects : Objects) (f : Forest) (es : Entries) → ascends objects ≡ true → Counts objects f es → ((n : List ℕ) (r : Resource) → is_there f n ≡ false → own_charge (put x objects) n r ≡ 0)
    → (deltas_of (object_at objects x.id) (Some x) ≡ [] → ⊥) → is_there f x.id.ns ≡ true
put_there x objects f es up counts none some =
    there_moved objects (put x objects) f x.id.ns (object_at objects x.id) (Some x) (charged_there objects x.id up)
    (λ r. subst (λ (o : Option Object). charge_before o r ≤ own_charge (put x objects) x.id.ns r) (object_at-put_itself x objects) (charged_there (put x objects) x.id (ascends-put x objects up) r))
    (λ out r. nothing_counted objects f es counts x.id.ns r out) (λ out r. none x.id.ns r out) some

pub cut_there : (id : Id) (objects : Objects) (f : Forest) (es : Entries) → ascends objects ≡ true → Counts objects f es → (deltas_of (object_at objects id) None ≡ [] → ⊥) → is_there f id.ns ≡ true
cut_there id objects f es up counts some =
    there_moved objects objects f id.ns (object_at objects id) None (charged_there objects id up) (λ r. omega arith)
    (λ out r. nothing_counted objects f es counts id.ns r out) (λ out r. nothing_counted objects f es counts id.ns r out) some

-- ---- writes by which nothing charged changes

-- a write leaves what is charged at its place
abbrev pub KeepsCharge : Objects → Write → Type 0
KeepsCharge base (Put x) = (r : Resource) → charge_before (object_at base x.id) r ≡ charge_of x r
KeepsCharge base (Cut id) = (r : Resource) → charge_before (object_at base id) r ≡ 0

put_alike : (base objects : Objects) (x : Object) → KeepsCharge base (Put x) → AreChargedAlike base objects → AreChargedAlike base (put x objects)
put_alike base objects x keeps same q r = at (same_id q x.id) refl ∙ ap (λ (o : Option Object). charge_before o r) (sym (object_at-put x objects q))
  where
    at : (b : Bool) → same_id q x.id ≡ b → charge_before (object_at base q) r ≡ charge_before (cond b (Some x) (object_at objects q)) r
    at true is = ap (λ (k : Id). charge_before (object_at base k) r) (is_same_id q x.id is) ∙ keeps r
    at false other = same q r

cut_alike : (base objects : Objects) (id : Id) → KeepsCharge base (Cut id) → AreChargedAlike base objects → AreChargedAlike base (cut id objects)
cut_alike base objects id keeps same q r = at (same_id q id) refl ∙ ap (λ (o : Option Object). charge_before o r) (sym (object_at-cut id objects q))
  where
    at : (b : Bool) → same_id q id ≡ b → charge_before (object_at base q) r ≡ charge_before (cond b None (object_at objects q)) r
    at true is = ap (λ (k : Id). charge_before (object_at base k) r) (is_same_id q id is) ∙ keeps r
    at false other = same q r

pub writes_alike : (base : Objects) (ws : List Write) (objects : Objects) → AllByRecursion (KeepsCharge base) ws → AreChargedAlike base objects → AreChargedAlike base (after_writes ws objects)
writes_alike base [] objects keep same = same
writes_alike base (Put x ∷ ws) objects keep same = writes_alike base ws (put x objects) keep.1 (put_alike base objects x keep.0 same)
writes_alike base (Cut id ∷ ws) objects keep same = writes_alike base ws (cut id objects) keep.1 (cut_alike base objects id keep.0 same)

pub writes_unchanged : (ws : List Write) (objects : Objects) (f : Forest) (es : Entries) → ascends objects ≡ true → AllByRecursion (KeepsCharge objects) ws → Counts objects f es → Counts (after_writes ws objects) f es
writes_unchanged ws objects f es up keep counts = counts_alike objects (after_writes ws objects) f es up (ascends_after ws objects up) (writes_alike objects ws objects keep (λ q r. refl)) counts

pub put_unchanged : (x : Object) (objects : Objects) (f : Forest) (es : Entries) → ascends objects ≡ true → deltas_of (object_at objects x.id) (Some x) ≡ [] → Counts objects f es → Counts (after_writes (Put x ∷ []) objects) f es
put_unchanged x objects f es up none counts = writes_unchanged (Put x ∷ []) objects f es up ((none_deltas (object_at objects x.id) (Some x) none, tt)) counts

pub cut_unchanged : (id : Id) (objects : Objects) (f : Forest) (es : Entries) → ascends objects ≡ true → deltas_of (object_at objects id) None ≡ [] → Counts objects f es → Counts (after_writes (Cut id ∷ []) objects) f es
cut_unchanged id objects f es up none counts = writes_unchanged (Cut id ∷ []) objects f es up ((none_deltas (object_at objects id) None none, tt)) counts

-- ---- the beginning
