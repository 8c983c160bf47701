-- What edits of places make of the objects.
use Rattle.std.proofs.Common.{◌≡◌, ◌≢◌, ◌≤◌, ◌<◌, ◌+◌, ◌-◌, ◌==◌, ◌++◌, ℕ, suc, Bool, true, false, cond, Option, Some, None, List, [], ◌∷◌, length, get_or, drop, refl, sym, ap, subst, ◌∙◌, true≢false, eqb-true, eq-eqb, add-one, drop-cons, arith}
use Rattle.std.specs.Prelude.{option_and_then, option_copied, IsSome, IfSome, is_some, Result, Ok, Err, MatchResult, OnOk, slice_get, slice_set}
use Rattle.std.proofs.lemmas.List.{drop-set-lt}
use Rattle.std.proofs.lemmas.Option.{get_or_from_slice_get}
use Rattle.std.specs.Borrow.{Bor}
use Rattle.std.specs.Cmp.{both_ways, tied_itself}
use Rattle.std.specs.List.{IsDistinct, flat_map}
use Rattle.std.specs.Map.{keys_of, values_of, lookup}
use Rattle.std.specs.Str.{bytes_eq}
use Rattle.hx_object.specs.Kinds.{number_of}
use Rattle.hx_object.specs.declared.object.Id.{Id}
use Rattle.hx_object.specs.declared.object.Object.{Object}
use Rattle.hx_model.specs.State.{Objects, same_id, put, cut, after_writes}
use Rattle.hx_model.specs.declared.key.Write.{Write}
use Rattle.hx_model.specs.declared.key.Write.TheVariants.{Put, Cut}
use Rattle.hx_model.proofs.Objects.{id_total, is_same_id, same_from_Equal, same_rows, object_at-put, object_at-cut, ascends-put, ascends-cut, ascends-objects_from}
use Rattle.hx_store.specs.Changes.{id_of, object_of}
use Rattle.hx_store.specs.ObjectTable.{IsKindTable, place_in, place_of, kind_at, objects_in, objects_of, Place, IsObjectTable, AreOwn, IsSound, HasPlace, HasSame, KeepsObjectTable, EditsObjectTable, found, filled, made, swept, unchanged, place_at, all_objects, objects_at}
use Rattle.hx_store.specs.declared.kind_table.KindTable.{KindTable}
use Rattle.hx_store.specs.declared.object_table.ObjectTable.{ObjectTable}
use Rattle.hx_store.proofs.ByKind.{slice_get-set_other}
use Rattle.hx_store.proofs.Edits.{made_keeps}
use Rattle.hx_store.proofs.Finding.{found_at}

pub same_itself : (a : Id) → same_id a a ≡ true
same_itself a = same_from_Equal a a (tied_itself id_total a)

pub flip_same : (a b : Id) → same_id a b ≡ same_id b a
flip_same a b = both_ways (same_id a b) (same_id b a)
    (λ h. subst (λ (c : Id). same_id c a ≡ true) (is_same_id a b h) (same_itself a))
    (λ h. subst (λ (c : Id). same_id c b ≡ true) (is_same_id b a h) (same_itself b))

-- ---- edits that leave the objects

pub made_found : (p : Place) → found (made p) ≡ found p
made_found None = refl
made_found (Some o) = refl

pub swept_found : (p : Place) → found (swept p) ≡ found p
swept_found None = refl
swept_found (Some None) = refl
swept_found (Some (Some x)) = refl

module _ (g : Place → Place) (old new : ObjectTable) (id : Id) (edits : EditsObjectTable g old new id) where
  pub same_by : ((p : Place) → found (g p) ≡ found p) → HasSame old new
  same_by leaves q = ap found (edits q) ∙ by (same_id id q)
    where
      by : (b : Bool) → found (cond b (g (place_at old q)) (place_at old q)) ≡ found (place_at old q)
      by true = leaves (place_at old q)
      by false = refl

  -- places that g keeps stay
  pub kept_by : ((p : Place) → IsSome p → IsSome (g p)) → (q : Id) → IsSome (place_at old q) → IsSome (place_at new q)
  kept_by keeps q some = ap is_some (edits q) ∙ by (same_id id q)
    where
      by : (b : Bool) → IsSome (cond b (g (place_at old q)) (place_at old q))
      by true = keeps (place_at old q) some
      by false = some

  -- the place itself
  pub here : place_at new id ≡ g (place_at old id)
  here = edits id ∙ ap (λ b. cond b (g (place_at old id)) (place_at old id)) (same_itself id)

pub made_some : (p : Place) → IsSome (made p)
made_some None = refl
made_some (Some o) = refl

-- what finds the same is as sound
pub sound_by : (old new : ObjectTable) → IsSound old → IsObjectTable new → HasSame old new → IsSound new
sound_by old new sound distinct same = record { distinct = distinct; own = λ id x e. sound.own id x (sym (same id) ∙ e) }

pub same_objects : (old new : ObjectTable) → IsSound old → IsSound new → HasSame old new → objects_at new ≡ objects_at old
same_objects old new sound sound_new same =
    same_rows (objects_at new) (objects_at old) (ascends-objects_from (all_objects new)) (ascends-objects_from (all_objects old))
    (λ q. found_at new sound_new q ∙ same q ∙ sym (found_at old sound q))

-- ---- a write

HasIts : Id → Option Object → Type 0
HasIts id o = IfSome o (λ x. x.id ≡ id)

own_object : (w : Write) → HasIts (id_of w) (object_of w)
unfolding HasIts
own_object (Put x) = refl
own_object (Cut id) = tt

own_by : (old new : ObjectTable) (w : Write) → IsSound old → EditsObjectTable (filled (object_of w)) old new (id_of w) → AreOwn new
unfolding HasIts
own_by old new w sound edits q x e = by (same_id (id_of w) q) refl (sym (ap found (edits q)) ∙ e)
  where
    by : (b : Bool) → same_id (id_of w) q ≡ b → found (cond b (filled (object_of w) (place_at old q)) (place_at old q)) ≡ Some x → x.id ≡ q
    by true same there = filled_own (object_of w) (place_at old q) (own_object w) there ∙ is_same_id (id_of w) q same
      where
        filled_own : (o : Option Object) (p : Place) → HasIts (id_of w) o → found (filled o p) ≡ Some x → x.id ≡ id_of w
        filled_own o None its h = absurd (cc)
        filled_own None (Some _) its h = absurd (cc)
        filled_own (Some y) (Some _) its h = let this : y ≡ x = cc in subst (λ (z : Object). z.id ≡ id_of w) this its
    by false other there = sound.own q x there

pub sound_write : (old new : ObjectTable) (w : Write) → IsSound old → IsObjectTable new → EditsObjectTable (filled (object_of w)) old new (id_of w) → IsSound new
sound_write old new w sound distinct edits = record { distinct = distinct; own = own_by old new w sound edits }

-- the objects after a write
pub objects_write : (old new : ObjectTable) (w : Write) → IsSound old → IsSound new → HasPlace old w → EditsObjectTable (filled (object_of w)) old new (id_of w)
    → objects_at new ≡ after_writes (w ∷ []) (objects_at old)
objects_write old new (Put x) sound sound_new there edits =
    sym (same_rows (put x (objects_at old)) (objects_at new) (ascends-put x (objects_at old) (ascends-objects_from (all_objects old))) (ascends-objects_from (all_objects new))
    (λ q. object_at-put x (objects_at old) q ∙ ap (cond (same_id q x.id) (Some x)) (found_at old sound q) ∙ by q (same_id q x.id) refl ∙ sym (ap found (edits q)) ∙ sym (found_at new sound_new q)))
  where
    fills : (p : Place) → IsSome p → Some x ≡ found (filled (Some x) p)
    fills None some = absurd (true≢false (sym some))
    fills (Some o) some = refl

    by : (q : Id) (b : Bool) → same_id q x.id ≡ b → cond b (Some x) (found (place_at old q)) ≡ found (cond (same_id x.id q) (filled (Some x) (place_at old q)) (place_at old q))
    by q true same =
        fills (place_at old q) (subst (λ (i : Id). IsSome (place_at old i)) (sym (is_same_id q x.id same)) there)
        ∙ ap (λ b. found (cond b (filled (Some x) (place_at old q)) (place_at old q))) (sym same ∙ flip_same q x.id)
    by q false other = ap (λ b. found (cond b (filled (Some x) (place_at old q)) (place_at old q))) (sym other ∙ flip_same q x.id)
objects_write old new (Cut id) sound sound_new there edits =
    sym (same_rows (cut id (objects_at old)) (objects_at new) (ascends-cut id (objects_at old) (ascends-objects_from (all_objects old))) (ascends-objects_from (all_objects new))
    (λ q. object_at-cut id (objects_at old) q ∙ ap (cond (same_id q id) None) (found_at old sound q) ∙ by q (same_id q id) refl ∙ sym (ap found (edits q)) ∙ sym (found_at new sound_new q)))
  where
    fills : (p : Place) → None ≡ found (filled None p)
    fills None = refl
    fills (Some o) = refl

    by : (q : Id) (b : Bool) → same_id q id ≡ b → cond b None (found (place_at old q)) ≡ found (cond (same_id id q) (filled None (place_at old q)) (place_at old q))
    by q true same = fills (place_at old q) ∙ ap (λ b. found (cond b (filled None (place_at old q)) (place_at old q))) (sym same ∙ flip_same q id)
    by q false other = ap (λ b. found (cond b (filled None (place_at old q)) (place_at old q))) (sym other ∙ flip_same q id)

-- what has a place keeps it
pub place_kept : (g : Place → Place) (old new : ObjectTable) (id : Id) → EditsObjectTable g old new id → ((p : Place) → IsSome p → IsSome (g p)) → KeepsObjectTable old new
place_kept g old new id edits keeps (Put x) there = kept_by g old new id edits keeps x.id there
place_kept g old new id edits keeps (Cut _) there = tt

-- where nothing is put, nothing wants a place
pub none_there : (places : ObjectTable) (object : Option (Bor Object)) (w : Write) → option_copied object ≡ object_of w → is_some object ≡ false → HasPlace places w
none_there places None (Put x) is none = absurd (true≢false (sym (ap is_some is)))
none_there places None (Cut id) is none = tt
none_there places (Some o) w is none = absurd (true≢false none)

pub place_there : (old new : ObjectTable) (w : Write) → EditsObjectTable made old new (id_of w) → HasPlace new w
place_there old new (Put x) edits = subst IsSome (sym (here made old new x.id edits)) (made_some (place_at old x.id))
place_there old new (Cut id) edits = tt

-- ---- writes, one after another

pub after_first : (w : Write) (rest : List Write) (objects : Objects) → after_writes (w ∷ rest) objects ≡ after_writes rest (after_writes (w ∷ []) objects)
after_first (Put x) rest objects = refl
after_first (Cut id) rest objects = refl

-- what holds of the writes so far, and of one more
pub more_hold : (Before After : Write → Type 0) (ws : List Write) (n : ℕ) (d : Write) → ((w : Write) → Before w → After w) → ((i : ℕ) (w : Write) → i < n → slice_get ws i ≡ Some w → Before w) → After (get_or ws n d)
    → (i : ℕ) (w : Write) → i < n + 1 → slice_get ws i ≡ Some w → After w
more_hold Before After ws n d kept below this i w less e = by (i == n) refl
  where
    by : (b : Bool) → (i == n) ≡ b → After w
    by true same = subst After (ap (λ k. get_or ws k d) (sym (eqb-true i n same)) ∙ get_or_from_slice_get ws i w d e) this
    by false other =
        let apart : i ≢ n = λ k. true≢false (sym (eq-eqb i n k) ∙ other) in
        kept w (below i w (omega (arith, less, apart)) e)

-- what holds of the writes that are left
pub left_hold : (Before After : Write → Type 0) (ws : List Write) (n : ℕ) (v : Write) → ((w : Write) → Before w → After w) → ((i : ℕ) (w : Write) → n ≤ i → slice_get ws i ≡ Some w → Before w)
    → (i : ℕ) (w : Write) → n + 1 ≤ i → slice_get (slice_set ws n v) i ≡ Some w → After w
left_hold Before After ws n v kept left i w more e = kept w (left i w (omega arith) (sym (slice_get-set_other ws n i v (λ k. absurd (omega (arith, k, more)))) ∙ e))

-- and the writes that are left make of the objects what all make
pub left_writes : (old new : ObjectTable) (ws : List Write) (n : ℕ) (d v : Write) → n < length ws → objects_at new ≡ after_writes (get_or ws n d ∷ []) (objects_at old)
    → after_writes (drop (n + 1) (slice_set ws n v)) (objects_at new) ≡ after_writes (drop n ws) (objects_at old)
left_writes old new ws n d v within is =
    ap (λ rest. after_writes rest (objects_at new)) (drop-set-lt (n + 1) ws n v (omega arith) ∙ ap (λ k. drop k ws) (add-one n))
    ∙ ap (after_writes (drop (suc n) ws)) is ∙ sym (after_first (get_or ws n d) (drop (suc n) ws) (objects_at old))
    ∙ ap (λ rest. after_writes rest (objects_at old)) (sym (drop-cons ws n d within))

-- ---- what calls ensure, in these words

pub make_same : {X Y : Type 0} (old new : ObjectTable) (id : Id) (r : Result X Y) → MatchResult r (λ _. EditsObjectTable made old new id) (λ _. EditsObjectTable unchanged old new id) → HasSame old new
make_same old new id (Ok _) edits = same_by made old new id edits made_found
make_same old new id (Err _) edits = same_by unchanged old new id edits (λ p. refl)

pub make_kept : {X Y : Type 0} (old new : ObjectTable) (id : Id) (r : Result X Y) → MatchResult r (λ _. EditsObjectTable made old new id) (λ _. EditsObjectTable unchanged old new id) → KeepsObjectTable old new
make_kept old new id (Ok _) edits = place_kept made old new id edits made_keeps
make_kept old new id (Err _) edits = place_kept unchanged old new id edits (λ p some. some)

pub make_there : {X Y : Type 0} (old new : ObjectTable) (w : Write) (id : Id) (r : Result X Y) → id ≡ id_of w → MatchResult r (λ _. EditsObjectTable made old new id) (λ _. EditsObjectTable unchanged old new id) → OnOk r (HasPlace new w)
make_there old new w id (Ok _) same edits = place_there old new w (subst (EditsObjectTable made old new) same edits)
make_there old new w id (Err _) same edits = tt

pub fill_edits : (old new : ObjectTable) (w : Write) (o : Option Object) (id : Id) → o ≡ object_of w → id ≡ id_of w → EditsObjectTable (filled o) old new id → EditsObjectTable (filled (object_of w)) old new (id_of w)
fill_edits old new w o id is_o is_id edits = subst (λ i. EditsObjectTable (filled (object_of w)) old new i) is_id (subst (λ v. EditsObjectTable (filled v) old new id) is_o edits)

-- ---- a store without objects

module _ (places : ObjectTable) (long : length places.kinds ≡ 14) (empty : (i : ℕ) (kind_table : KindTable) → slice_get places.kinds i ≡ Some kind_table → kind_table.namespaces.entries ≡ []) where
  empty_kind_table : (kind_table : KindTable) → kind_table.namespaces.entries ≡ [] → IsKindTable kind_table
  unfolding IsDistinct
  empty_kind_table kind_table e = (subst (λ es. IsDistinct bytes_eq (keys_of es)) (sym e) tt, λ ns name_map there. absurd (true≢false (sym (ap is_some (sym (ap (lookup (bytes_eq ns)) e) ∙ there)))))

  empty_place : (id : Id) (o : Option KindTable) → kind_at places id.kind ≡ o → option_and_then (λ s. place_of s id.ns id.name) o ≡ None
  empty_place id None e = refl
  empty_place id (Some s) e = ap (λ es. option_and_then (λ name_map. place_in name_map id.name) (lookup (bytes_eq id.ns) es)) (empty (number_of id.kind - 1) s e)

  pub none_placed : (id : Id) → place_at places id ≡ None
  none_placed id = empty_place id (kind_at places id.kind) refl

  pub empty_sound : IsSound places
  empty_sound = record {
    distinct = (long, λ i kind_table e. empty_kind_table kind_table (empty i kind_table e));
    own = λ id x e. absurd (true≢false (sym (ap is_some (sym (ap found (none_placed id)) ∙ e))));
  }

pub empty_objects : (ss : List KindTable) → ((i : ℕ) (kind_table : KindTable) → slice_get ss i ≡ Some kind_table → kind_table.namespaces.entries ≡ []) → flat_map objects_of ss ≡ []
empty_objects [] empty = refl
empty_objects (s ∷ ss) empty = ap (λ es. flat_map objects_in (values_of es) ++ flat_map objects_of ss) (empty 0 s refl) ∙ empty_objects ss (λ i kind_table e. empty (suc i) kind_table e)
