-- How places change: one is edited, and every other stays.
use Rattle.std.proofs.Common.{◌≡◌, Bool, true, false, cond, ◌&&◌, Option, Some, None, List, [], ◌∷◌, ℕ, refl, sym, ap, subst, ◌∙◌, true≢false}
use Rattle.std.specs.Prelude.{is_some, IsSome, option_and_then, Result, Ok, Err, MatchResult, IfSome}
use Rattle.std.specs.HashMap.{WritesThrough}
use Rattle.std.specs.Map.{keys_of, lookup}
use Rattle.std.specs.List.{IsDistinct}
use Rattle.std.specs.Str.{bytes_eq}
use Rattle.std.proofs.lemmas.Map.Keys.{IsDistinct-cons}
use Rattle.std.proofs.lemmas.Slice.Eq.{bytes_eq-Decides}
use Rattle.hx_object.specs.declared.object.Object.{Object}
use Rattle.hx_store.specs.ObjectTable.{entries_of, entries_on, Place, EditsNameMap, EditsKindTable, IsNameTable, IsNameMap, IsFull, IsNewNameMap, IsKindTable, IsKindTableBut, made, filled, unchanged, place_in, place_of, name_map_in}
use Rattle.hx_store.specs.declared.name_map.NameMap.{NameMap}
use Rattle.hx_store.specs.declared.name_map.NameMap.TheVariants.{Empty, Held, One}
use Rattle.hx_store.specs.declared.name_table.NameTable.{NameTable}
use Rattle.hx_store.specs.declared.kind_table.KindTable.{KindTable}

pub none_from : {X : Type 0} (o : Option X) → is_some o ≡ false → o ≡ None
none_from None e = refl
none_from (Some x) e = absurd (true≢false e)

module _ (g : Place → Place) (old new : List ℕ → Place) (name : List ℕ) where
  -- a place that is set to what it becomes by g is edited by g
  pub set_edits : (w : Place) → ((q : List ℕ) → new q ≡ cond (bytes_eq name q) w (old q)) → w ≡ g (old name) → (q : List ℕ) → new q ≡ cond (bytes_eq name q) (g (old q)) (old q)
  set_edits w is same q = is q ∙ by (bytes_eq name q) refl
    where
      by : (b : Bool) → bytes_eq name q ≡ b → cond b w (old q) ≡ cond b (g (old q)) (old q)
      by true e = same ∙ ap (λ n. g (old n)) ((bytes_eq-Decides name q).0 e)
      by false e = refl

  -- and one that g leaves stays
  pub stay_edits : ((q : List ℕ) → new q ≡ old q) → g (old name) ≡ old name → (q : List ℕ) → new q ≡ cond (bytes_eq name q) (g (old q)) (old q)
  stay_edits is same q = is q ∙ by (bytes_eq name q) refl
    where
      by : (b : Bool) → bytes_eq name q ≡ b → old q ≡ cond b (g (old q)) (old q)
      by true e = ap old (sym ((bytes_eq-Decides name q).0 e)) ∙ sym same ∙ ap (λ n. g (old n)) ((bytes_eq-Decides name q).0 e)
      by false e = refl

module _ (g : Place → Place) (old new : KindTable) (ns name : List ℕ) where
  -- a map of names that is set to an edited one
  pub lift_edits : (was name_map : NameMap) → name_map_in old ns ≡ Some was → ((q : List ℕ) → name_map_in new q ≡ cond (bytes_eq ns q) (Some name_map) (name_map_in old q)) → EditsNameMap g was name_map name → EditsKindTable g old new ns name
  lift_edits was name_map there is edits n m = ap (option_and_then (λ s. place_in s m)) (is n) ∙ by (bytes_eq ns n) refl
    where
      by : (b : Bool) → bytes_eq ns n ≡ b → option_and_then (λ s. place_in s m) (cond b (Some name_map) (name_map_in old n)) ≡ cond (b && bytes_eq name m) (g (place_of old n m)) (place_of old n m)
      by true e =
          let found : name_map_in old n ≡ Some was = ap (name_map_in old) (sym ((bytes_eq-Decides ns n).0 e)) ∙ there in
          edits m ∙ ap (λ o. let p = option_and_then (λ s. place_in s m) o in cond (bytes_eq name m) (g p) p) (sym found)
      by false e = refl

  -- where there is no map of names, and g makes none
  pub none_edits : name_map_in old ns ≡ None → ((q : List ℕ) → name_map_in new q ≡ name_map_in old q) → g None ≡ None → EditsKindTable g old new ns name
  none_edits none is same n m = ap (option_and_then (λ s. place_in s m)) (is n) ∙ by (bytes_eq ns n) refl
    where
      by : (b : Bool) → bytes_eq ns n ≡ b → place_of old n m ≡ cond (b && bytes_eq name m) (g (place_of old n m)) (place_of old n m)
      by true e =
          let gone : name_map_in old n ≡ None = ap (name_map_in old) (sym ((bytes_eq-Decides ns n).0 e)) ∙ none in
          rw gone (either (bytes_eq name m))
        where
          either : (b : Bool) → None ≡ cond b (g None) None
          either true = sym same
          either false = refl
      by false e = refl

pub all_but : (kind_table : KindTable) (ns : List ℕ) → IsKindTable kind_table → IsKindTableBut ns kind_table
all_but kind_table ns sound = (sound.0, λ n name_map there. ((sound.1 n name_map there).0, λ _. (sound.1 n name_map there).1))

-- where the maps of names are the same
pub same_kind_table : (old new : KindTable) → new.namespaces.entries ≡ old.namespaces.entries → IsKindTable old → IsKindTable new
same_kind_table old new same =
    subst (λ es. IsDistinct bytes_eq (keys_of es) × ((ns : List ℕ) (name_map : NameMap) → lookup (bytes_eq ns) es ≡ Some name_map → IsNameMap name_map × IsFull name_map)) (sym same)

-- ---- tables of kinds of no place

pub empty_name_table : (name_table : NameTable) → entries_on name_table ≡ [] → name_table.descends ≡ false → IsNameTable name_table
unfolding IsDistinct
empty_name_table name_table none not = (subst (λ es. IsDistinct bytes_eq (keys_of es)) (sym none) tt, λ is. absurd (true≢false (sym is ∙ not)))

-- ---- maps of names of no place, and of one

pub empty_name_map : IsNameMap Empty
unfolding IsDistinct
empty_name_map = (tt, tt)

pub one_name : (name : List ℕ) → IsDistinct bytes_eq (name ∷ [])
one_name name = IsDistinct-cons bytes_eq name [] tt empty_name_map.0

pub held_name_map : (name : List ℕ) → IsNameMap (Held name)
held_name_map name = (one_name name, tt)

pub one_name_map : (name : List ℕ) (object : Object) → IsNameMap (One name object)
one_name_map name object = (one_name name, tt)

-- ---- places that stay

pub made_keeps : (p : Place) → IsSome p → IsSome (made p)
made_keeps None some = refl
made_keeps (Some o) some = refl

pub filled_keeps : (o : Option Object) (p : Place) → IsSome p → IsSome (filled o p)
filled_keeps o None some = some
filled_keeps o (Some _) some = refl

-- a map of names that has the place of a name isn't without places
pub full_from : (name_map : NameMap) (name : List ℕ) → IsSome (place_in name_map name) → IsFull name_map
full_from name_map name some empty = true≢false (sym some ∙ ap (λ es. is_some (lookup (bytes_eq name) es)) empty)

-- a map of names stays with places, where the edit takes none away
pub full_edits : (g : Place → Place) (old new : NameMap) (name : List ℕ) → EditsNameMap g old new name → ((p : Place) → IsSome p → IsSome (g p)) → IsFull old → IsFull new
full_edits g old new name edits leaves full = by (entries_of old) refl
  where
    stays : (q : List ℕ) → IsSome (place_in old q) → IsSome (place_in new q)
    stays q some = ap is_some (edits q) ∙ either (bytes_eq name q)
      where
        either : (b : Bool) → IsSome (cond b (g (place_in old q)) (place_in old q))
        either true = leaves (place_in old q) some
        either false = some

    by : (es : List (List ℕ × Option Object)) → entries_of old ≡ es → IsFull new
    by [] e = absurd (full e)
    by (e ∷ es) is = full_from new e.0 (stays e.0 (ap (λ fs. is_some (lookup (bytes_eq e.0) fs)) is
        ∙ ap (λ b. is_some (cond b (Some e.1) (lookup (bytes_eq e.0) es))) ((bytes_eq-Decides e.0 e.0).1 refl)))

module _ (old new : KindTable) (ns : List ℕ) where
  -- a map of names that has a new place
  pub new_edits : (name_map : NameMap) (name : List ℕ) → name_map_in old ns ≡ None → ((q : List ℕ) → name_map_in new q ≡ cond (bytes_eq ns q) (Some name_map) (name_map_in old q)) → IsNewNameMap name name_map → EditsKindTable made old new ns name
  new_edits name_map name none is one n m = ap (option_and_then (λ s. place_in s m)) (is n) ∙ by (bytes_eq ns n) refl
    where
      by : (b : Bool) → bytes_eq ns n ≡ b → option_and_then (λ s. place_in s m) (cond b (Some name_map) (name_map_in old n)) ≡ cond (b && bytes_eq name m) (made (place_of old n m)) (place_of old n m)
      by true e =
          let gone : name_map_in old n ≡ None = ap (name_map_in old) (sym ((bytes_eq-Decides ns n).0 e)) ∙ none in
          one m ∙ ap (λ o. let p = option_and_then (λ s. place_in s m) o in cond (bytes_eq name m) (made p) p) (sym gone)
      by false e = refl

  -- what is kept true, where one map of names is set or taken away
  pub is_kind_table : (w : Option NameMap) → ((q : List ℕ) → name_map_in new q ≡ cond (bytes_eq ns q) w (name_map_in old q)) → IsDistinct bytes_eq (keys_of new.namespaces.entries) → IfSome w (λ s. IsNameMap s × IsFull s) → IsKindTableBut ns old → IsKindTable new
  is_kind_table w is distinct sound was = (distinct, λ n name_map there. by n name_map w (bytes_eq ns n) refl sound (sym (is n) ∙ there))
    where
      by : (n : List ℕ) (name_map : NameMap) (o : Option NameMap) (b : Bool) → bytes_eq ns n ≡ b → IfSome o (λ s. IsNameMap s × IsFull s) → cond b o (name_map_in old n) ≡ Some name_map → IsNameMap name_map × IsFull name_map
      by n name_map None true _ _ e = absurd (cc)
      by n name_map (Some s) true _ h e = let same : s ≡ name_map = cc in subst (λ t. IsNameMap t × IsFull t) same h
      by n name_map o false other _ e = ((was.1 n name_map e).0, (was.1 n name_map e).1 other)

  -- where the map of names is set, and may be without places
  pub are_but : (w : NameMap) → ((q : List ℕ) → name_map_in new q ≡ cond (bytes_eq ns q) (Some w) (name_map_in old q)) → IsDistinct bytes_eq (keys_of new.namespaces.entries) → IsNameMap w → IsKindTable old → IsKindTableBut ns new
  are_but w is distinct sound was = (distinct, λ n name_map there. by n name_map (bytes_eq ns n) refl (sym (is n) ∙ there))
    where
      by : (n : List ℕ) (name_map : NameMap) (b : Bool) → bytes_eq ns n ≡ b → cond b (Some w) (name_map_in old n) ≡ Some name_map → IsNameMap name_map × (bytes_eq ns n ≡ false → IsFull name_map)
      by n name_map true here e = let same : w ≡ name_map = cc in (subst IsNameMap same sound, λ other. absurd (true≢false (sym here ∙ other)))
      by n name_map false _ e = ((was.1 n name_map e).0, λ _. (was.1 n name_map e).1)

  -- where a map of names is written
  pub looks : (was name_map : NameMap) → name_map_in old ns ≡ Some was → WritesThrough bytes_eq (bytes_eq ns) old.namespaces name_map new.namespaces → (q : List ℕ) → name_map_in new q ≡ cond (bytes_eq ns q) (Some name_map) (name_map_in old q)
  looks was name_map there writes = (writes.3 (ap is_some there)).0

  pub written_edits : (g : Place → Place) (name : List ℕ) (was name_map : NameMap) → name_map_in old ns ≡ Some was → WritesThrough bytes_eq (bytes_eq ns) old.namespaces name_map new.namespaces → EditsNameMap g was name_map name → EditsKindTable g old new ns name
  written_edits g name was name_map there writes edits = lift_edits g old new ns name was name_map there (looks was name_map there writes) edits

  pub written_full : (was name_map : NameMap) → name_map_in old ns ≡ Some was → WritesThrough bytes_eq (bytes_eq ns) old.namespaces name_map new.namespaces → (IsNameMap was → IsNameMap name_map) → (IsFull was → IsFull name_map) → IsKindTable old → IsKindTable new
  written_full was name_map there writes keeps full sound =
      let before = sound.1 ns was there in
      is_kind_table (Some name_map) (looks was name_map there writes) writes.4 (keeps before.0, full before.1) (all_but old ns sound)

  pub written_but : (was name_map : NameMap) → name_map_in old ns ≡ Some was → WritesThrough bytes_eq (bytes_eq ns) old.namespaces name_map new.namespaces → (IsNameMap was → IsNameMap name_map) → IsKindTable old → IsKindTableBut ns new
  written_but was name_map there writes keeps sound = are_but name_map (looks was name_map there writes) writes.4 (keeps (sound.1 ns was there).0) sound

pub either_way : {X Y : Type 0} {P Q R S : Type 0} (r : Result X Y) → MatchResult r (λ _. P) (λ _. Q) → (P → R) → (Q → S) → MatchResult r (λ _. R) (λ _. S)
either_way (Ok x) h f g = f h
either_way (Err y) h f g = g h

-- what `make` leaves of a map of names
pub make_full : {X Y : Type 0} (old new : NameMap) (name : List ℕ) (r : Result X Y) → MatchResult r (λ _. EditsNameMap made old new name) (λ _. EditsNameMap unchanged old new name) → IsFull old → IsFull new
make_full old new name (Ok _) edits full = full_edits made old new name edits made_keeps full
make_full old new name (Err _) edits full = full_edits unchanged old new name edits (λ p some. some) full

-- a new map of names has its place
pub new_full : (name : List ℕ) (name_map : NameMap) → IsNewNameMap name name_map → IsFull name_map
new_full name name_map new = full_from name_map name (ap is_some (new name) ∙ ap (λ b. is_some (cond {A = Place} b (Some None) None)) ((bytes_eq-Decides name name).1 refl))

-- ---- places that stay

-- a choice between a place and itself
pub either_same : (b : Bool) (p : Place) → p ≡ cond b p p
either_same true p = refl
either_same false p = refl

pub stay_name_map : (old new : NameMap) (name : List ℕ) → ((q : List ℕ) → place_in new q ≡ place_in old q) → EditsNameMap unchanged old new name
stay_name_map old new name same q = same q ∙ either_same (bytes_eq name q) (place_in old q)

pub stay_full : (old new : NameMap) → ((q : List ℕ) → place_in new q ≡ place_in old q) → IsFull old → IsFull new
stay_full old new same = full_edits unchanged old new [] (stay_name_map old new [] same) (λ p some. some)

pub stay_kind_table : (old new : KindTable) (ns name : List ℕ) → EditsKindTable unchanged old new ns name → (n m : List ℕ) → place_of new n m ≡ place_of old n m
stay_kind_table old new ns name edits n m = edits n m ∙ sym (either_same (bytes_eq ns n && bytes_eq name m) (place_of old n m))
