-- What the rows that were taken say of the state, row by row.
--     takeable            the object that a row was read as may be taken, or its namespace isn't there
--     untakeable          a row that was read as none is no object's
--     hindered            what hinders a row lets nobody take it
--     is_new              an object whose key lies behind those of all others is not there yet
--     loaded_next         the row behind the last one was taken
--     damaged_none, damaged_some            it is missing, or can't be taken
--     not_one_more        no row lies behind as many as there are
--     holds_loaded, undamaged_loaded        what a keeper holds once all were taken
use Rattle.std.proofs.Common.{◌≡◌, ◌≤◌, ◌<◌, ◌+◌, ℕ, suc, Bool, true, false, cond, not, ◌||◌, ◌==◌, nat_lt, List, [], ◌∷◌, ◌++◌, map, length, Option, Some, None, IfSome, is_some, Ordering, Less, Equal, Greater, refl, sym, ap, subst, ◌∙◌, arith, inl, inr, true≢false, eqb-true, length-append, append-nil, codes}
use Rattle.std.specs.Prelude.{filter, option_map, option_and_then, IfOk, IfErr, IsErrAnd, IsUtf8, if◌then◌else◌, take, drop, find as find_first}
use Rattle.std.specs.List.{AllByRecursion}
use Rattle.std.specs.declared.result.Result.{Result}
use Rattle.std.specs.declared.result.Result.TheVariants.{Ok, Err}
use Rattle.std.specs.Cmp.{tied_itself}
use Rattle.std.specs.Cmp.Lexicographic.{nat_list_cmp_total}
use Rattle.std.specs.FinMap as finite
use Rattle.std.specs.FinMap.{find, same_map, get, entries, entries_sorted, get-entries, len-entries, get-from_entries, from_entries_push}
use Rattle.std.specs.FinMap.Entries.{find-where_key}
use Rattle.std.specs.Ordering.{is_lt, is_eq, is_ge}
use Rattle.std.proofs.Math.Seq.{take-append_seam, drop-append_seam}
use Rattle.hx_object.specs.Json.{object_text}
use Rattle.hx_object.specs.Kinds.{is_in_cluster, number_of}
use Rattle.hx_object.specs.Texts.{bytes_cmp}
use Rattle.hx_object.specs.declared.kind.Kind.{Kind}
use Rattle.hx_object.specs.declared.kind.Kind.TheVariants as kind
use Rattle.hx_object.specs.declared.object.Id.{Id}
use Rattle.hx_object.specs.declared.object.Object.{Object}
use Rattle.hx_ports.specs.Keeping.{Kept, Rows, meta_of, row_of_entry, row_after, greatest_version}
use Rattle.hx_ports.specs.Rows.{Entry, entry_of}
use Rattle.hx_ports.specs.Views.{KeeperView, HoldsOn}
use Rattle.hx_ports.specs.declared.keeper.Meta.{Meta}
use Rattle.hx_ports.specs.declared.keeper.Row.{Row}
use Rattle.hx_json.specs.Rows.{HasNoObject, IsRowOf}
use Rattle.hx_model.specs.State.{State, Objects, object_at, same_id, namespace_id, has_home}
use Rattle.hx_model.specs.Windows.{opened}
use Rattle.hx_model.specs.Texts.{key_text, two_digits, stored_entry, rows_of_objects}
use Rattle.hx_model.specs.Valid.{IsValid, IsStored}
use Rattle.hx_model.proofs.Homes.{housed-put}
use Rattle.hx_model.proofs.Legality.{keyed_legal}
use Rattle.hx_model.proofs.Objects.{found_id, ascends-put}
use Rattle.hx_model.proofs.Storing.{All-put, All-found, HasNoSlash, IsKeyed, key_text-injective, rows_of_objects-put, stored_contains, same_bytes}
use Rattle.hx_model.proofs.Writes.{key_apart}
use Rattle.hx_core.specs.Loading.{Asked, HasRowBehind, IsTakeable, Takes, IsUntakeable, IsFlaw, Hinders, IfUntaken, IsBehindAll, IsFront, IsLoaded}
use Rattle.hx_core.specs.Refinement.{kept_of}
use Rattle.hx_core.specs.declared.damage.Damage.{Damage}
use Rattle.hx_core.specs.declared.damage.Damage.TheVariants as damage
use Rattle.hx_core.specs.declared.start.StartFault.{StartFault}
use Rattle.hx_core.specs.declared.start.StartFault.TheVariants.{KeeperFault}
use Rattle.hx_core.specs.declared.start.Untaken.{Untaken}
use Rattle.hx_core.specs.declared.start.Untaken.TheVariants as untaken
use Rattle.hx_core.specs.Starting.{has_home_row, IsSoundRow, IsUndamaged, rows_behind, given_rows, IsUnsoundNext, IsDamagedAt}
use Rattle.hx_core.proofs.Behind.{is_behind, less_of, found_passes, none_behind, filter_at_most, filter_whole, next_behind, is_some-front, is_some-split, is_some-filter, not_found}
use Rattle.hx_core.proofs.Storing.{stored_keyed}

-- ---- one object

-- two objects of one row have one identity
same_row_id : (s : State) (row : Row) (x y : Object) → IsTakeable s row y → IsStored s.last x → stored_entry x ≡ entry_of row → y.id ≡ x.id
same_row_id s row x y takes stored entry =
    key_text-injective y.id x.id (keyed_legal y takes.stored.served.legal) (keyed_legal x stored.served.legal) (ap (λ (e : Entry). e.0) takes.entry ∙ sym (ap (λ (e : Entry). e.0) entry))

stored_read : (last version : ℕ) (key body : List ℕ) (x : Object) → IsRowOf key version body x → 1 ≤ version → version ≤ last → IsStored last x
stored_read last version key body x is given known =
    let same : x.version ≡ version = ap (λ (e : Entry). e.1.0) is.is in
    record { served = is.served; given = omega (arith, same, given); known = omega (arith, same, known) }

-- the object that a row was read as may be taken where its namespace is there, and else that is the flaw
pub takeable : (s : State) (row : Row) (key body : List ℕ) (x : Object) (r : Result Object Untaken) → key ≡ row.key → body ≡ row.body → IsRowOf key row.version body x → 1 ≤ row.version → row.version ≤ s.last → r ≡ (if has_home s.objects x.id then Ok x else Err (untaken.Damaged damage.NoNamespace))
    → IfOk r (IsTakeable s row) × IfErr r (λ fault. IfUntaken fault (IsFlaw s row))
takeable s row key body x r same_key same_body is_of given known says = by (has_home s.objects x.id) refl
  where
    is : IsRowOf row.key row.version row.body x
    is = subst (λ b. IsRowOf row.key row.version b x) same_body (subst (λ k. IsRowOf k row.version body x) same_key is_of)

    stored : IsStored s.last x
    stored = stored_read s.last row.version row.key row.body x is given known

    by : (b : Bool) → has_home s.objects x.id ≡ b → IfOk r (IsTakeable s row) × IfErr r (λ fault. IfUntaken fault (IsFlaw s row))
    by true home =
        let found : r ≡ Ok x = says ∙ ap (λ b. if b then Ok x else Err (untaken.Damaged damage.NoNamespace)) home in
        subst (λ (p : Result Object Untaken). IfOk p (IsTakeable s row) × IfErr p (λ fault. IfUntaken fault (IsFlaw s row))) (sym found) (record { stored = stored; entry = is.is; home = home }, tt)
    by false home =
        let lost : r ≡ Err (untaken.Damaged damage.NoNamespace) = says ∙ ap (λ b. if b then Ok x else Err (untaken.Damaged damage.NoNamespace)) home in
        subst (λ (p : Result Object Untaken). IfOk p (IsTakeable s row) × IfErr p (λ fault. IfUntaken fault (IsFlaw s row))) (sym lost) (tt, (x, stored, is.is, home))

-- a row that was read as none is no object's
pub untakeable : (s : State) (row : Row) (key body : List ℕ) → key ≡ row.key → body ≡ row.body → IsUtf8 row.body → 1 ≤ row.version → row.version ≤ s.last → HasNoObject key row.version body → IsFlaw s row damage.NoObject
untakeable s row key body same_key same_body text given known none = (
  given,
  known,
  λ y stored entry. none y (record { served = stored.served; text = subst IsUtf8 (sym same_body) text; is = entry ∙ (λ i. (sym same_key i, (row.version, sym same_body i))) }),
)

-- what hinders a row lets the state take no object of it
pub hindered : (s : State) (key : List ℕ) (row : Row) (d : Damage) → Hinders s key row d → IsUntakeable s key row
hindered s key row damage.KeyOrder out = λ behind x takes. true≢false (sym behind ∙ out)
hindered s key row damage.RowVersion out = λ behind x takes.
    let same : x.version ≡ row.version = ap (λ (e : Entry). e.1.0) takes.entry in
    elim out [
      | inl none ↦ let given : 1 ≤ x.version = takes.stored.given in omega (arith, same, none, given)
      | inr past ↦ let known : x.version ≤ s.last = takes.stored.known in omega (arith, same, past, known)
    ]
hindered s key row damage.NoObject out = λ behind x takes. out.2 x takes.stored takes.entry
hindered s key row damage.NoNamespace out = λ behind y takes. true≢false (sym takes.home ∙ ap (λ (q : Id). has_home s.objects q) (same_row_id s row out.0 y takes out.1 out.2) ∙ out.3)
hindered s key row _ out = absurd out

-- an object whose key lies behind those of all others is not there yet
pub is_new : (key : List ℕ) (x : Object) (objects : Objects) → IsBehindAll key objects → is_lt (bytes_cmp key (key_text x.id)) ≡ true → object_at objects x.id ≡ None
is_new key x objects last behind = by (object_at objects x.id) refl
  where
    by : (o : Option Object) → object_at objects x.id ≡ o → o ≡ None
    by None is = refl
    by (Some y) is =
        absurd (true≢false (sym behind ∙ ap (λ (q : Id). is_lt (bytes_cmp key (key_text q))) (found_id objects x.id y is) ∙ All-found (λ (z : Object). is_lt (bytes_cmp key (key_text z.id)) ≡ false) x.id y objects last is))

pub behind_from : (key next : List ℕ) (b : Bool) → b ≡ is_ge (bytes_cmp key next) → b ≡ false → is_lt (bytes_cmp key next) ≡ true
behind_from key next b says is = by (bytes_cmp key next) (sym says ∙ is)
  where
    by : (r : Ordering) → is_ge r ≡ false → is_lt r ≡ true
    by Less e = refl
    by Equal e = absurd (true≢false e)
    by Greater e = absurd (true≢false e)

pub ahead_from : (key next : List ℕ) (b : Bool) → b ≡ is_ge (bytes_cmp key next) → b ≡ true → is_lt (bytes_cmp key next) ≡ false
ahead_from key next b says is = by (bytes_cmp key next) (sym says ∙ is)
  where
    by : (r : Ordering) → is_ge r ≡ true → is_lt r ≡ false
    by Less e = absurd (true≢false (sym e))
    by Equal e = refl
    by Greater e = refl

-- a flaw hinders a row, whatever key it is to lie behind
pub hindered_on : {T : Type 0} (r : Result T Untaken) (error : Untaken) (s : State) (key : List ℕ) (row : Row) → IsErrAnd r (λ found. found ≡ error) → IfUntaken error (IsFlaw s row) → IfErr r (λ fault. IfUntaken fault (Hinders s key row))
hindered_on (Ok x) error s key row is flaw = tt
hindered_on (Err found) error s key row is flaw = subst (λ fault. IfUntaken fault (Hinders s key row)) (sym is) (by error flaw)
  where
    hinders : (d : Damage) → IsFlaw s row d → Hinders s key row d
    hinders damage.KeyOrder flaw = absurd flaw
    hinders _ flaw = flaw

    by : (fault : Untaken) → IfUntaken fault (IsFlaw s row) → IfUntaken fault (Hinders s key row)
    by (untaken.Damaged d) flaw = hinders d flaw
    by untaken.NoMemory flaw = tt

-- ---- namespaces

-- the keys of namespaces come before those of all that lies in one
namespace_first : (k : Kind) (a b : List ℕ) → is_in_cluster k ≡ false → bytes_cmp (two_digits 1 ++ a) (two_digits (number_of k) ++ b) ≡ Less
namespace_first kind.Namespace a b is = absurd (true≢false is)
namespace_first kind.HncConfiguration a b is = absurd (true≢false is)
namespace_first kind.HierarchyConfiguration a b is = refl
namespace_first kind.SubnamespaceAnchor a b is = refl
namespace_first kind.HierarchicalResourceQuota a b is = refl
namespace_first kind.Role a b is = refl
namespace_first kind.RoleBinding a b is = refl
namespace_first kind.ConfigMap a b is = refl
namespace_first kind.Secret a b is = refl
namespace_first kind.NetworkPolicy a b is = refl
namespace_first kind.LimitRange a b is = refl
namespace_first kind.Pod a b is = refl
namespace_first kind.Service a b is = refl
namespace_first kind.PersistentVolumeClaim a b is = refl

home_first : (n : List ℕ) (id : Id) → is_in_cluster id.kind ≡ false → bytes_cmp (key_text (namespace_id n)) (key_text id) ≡ Less
unfolding key_text
home_first n id is = namespace_first id.kind (codes "/" ++ ([] ++ (codes "/" ++ n))) (codes "/" ++ (id.ns ++ (codes "/" ++ id.name))) is

-- a key isn't empty
pub key_behind : (id : Id) → is_lt (bytes_cmp [] (key_text id)) ≡ true
unfolding key_text
key_behind id = refl

-- an object whose row is found among those of the objects is there
stored_there : (id : Id) (objects : Objects) → HasNoSlash id.ns → AllByRecursion IsKeyed objects → is_some (find bytes_cmp (key_text id) (map stored_entry objects)) ≡ true → is_some (object_at objects id) ≡ true
stored_there id [] keyed all found = found
stored_there id (y ∷ objects) keyed all found =
    elim (same_id id y.id) as (λ b. same_id id y.id ≡ b → is_some (cond b (Some y) (object_at objects id)) ≡ true) [
      | true ↦ λ same. refl
      | false ↦ λ apart. stored_there id objects keyed all.1 (sym (ap (λ b. is_some (cond b (Some (y.version, object_text y)) (find bytes_cmp (key_text id) (map stored_entry objects)))) (key_apart id y.id keyed all.0 apart)) ∙ found)
    ] refl

-- ---- the front

module _ (held : Kept) (s : State) (key : List ℕ) (count : ℕ) (front : IsFront held s key count) (valid : IsValid s) where
  keyed : AllByRecursion IsKeyed s.objects
  keyed = stored_keyed s.last s.objects valid.stored

  -- what is found among the rows that were taken is found among those of the objects
  taken_is : (q : List ℕ) → find bytes_cmp q front.taken ≡ find bytes_cmp q (map stored_entry s.objects)
  taken_is q = sym (get-from_entries nat_list_cmp_total front.taken q) ∙ ap (λ (m : Rows). get m q) (sym front.rows) ∙ get-from_entries nat_list_cmp_total (map stored_entry s.objects) q

  -- a namespace that is there has a row
  home_there : (id : Id) → has_home s.objects id ≡ true → has_home_row held.rows id ≡ true
  home_there id home =
      elim (is_in_cluster id.kind) as (λ b. (b || is_some (option_and_then (object_at s.objects) (if b then None else Some (namespace_id id.ns)))) ≡ true → (b || is_some (get held.rows (key_text (namespace_id id.ns)))) ≡ true) [
        | true ↦ λ _. refl
        | false ↦ λ there. row_there (namespace_id id.ns) there
      ] home
    where
      row_there : (q : Id) → is_some (object_at s.objects q) ≡ true → is_some (get held.rows (key_text q)) ≡ true
      row_there q there = by (object_at s.objects q) refl there
        where
          by : (o : Option Object) → object_at s.objects q ≡ o → is_some o ≡ true → is_some (get held.rows (key_text q)) ≡ true
          by None is some = absurd (true≢false (sym some))
          by (Some y) is some =
              let stored : is_some (find bytes_cmp (key_text q) front.taken) ≡ true = ap is_some (taken_is (key_text q)) ∙ ap is_some (sym (get-from_entries nat_list_cmp_total (map stored_entry s.objects) (key_text q))) ∙ stored_contains q y s.objects is in
              let given : is_some (find bytes_cmp (key_text q) (given_rows held)) ≡ true = ap (λ es. is_some (find bytes_cmp (key_text q) es)) front.splits ∙ is_some-front (key_text q) front.taken (rows_behind key held) stored in
              ap is_some (get-entries held.rows (key_text q)) ∙ is_some-filter (key_text q) (is_behind []) (entries held.rows) given

  -- a namespace whose row comes before the next one is there
  home_back : (id : Id) → AllByRecursion (λ (e : Entry). bytes_cmp (key_text (namespace_id id.ns)) e.0 ≡ Less) (rows_behind key held) → is_in_cluster id.kind ≡ false → is_some (get held.rows (key_text (namespace_id id.ns))) ≡ true → is_some (object_at s.objects (namespace_id id.ns)) ≡ true
  home_back id later inside there =
      let q = key_text (namespace_id id.ns) in
      let alike : (x : List ℕ) → bytes_cmp q x ≡ Equal → is_lt (bytes_cmp [] x) ≡ is_lt (bytes_cmp [] q) = λ x tie. ap (λ k. is_lt (bytes_cmp [] k)) (sym (same_bytes q x tie)) in
      let given : is_some (find bytes_cmp q (given_rows held)) ≡ true =
      ap is_some (find-where_key bytes_cmp (λ k. is_lt (bytes_cmp [] k)) q alike (entries held.rows)) ∙ ap (λ b. is_some (cond b (find bytes_cmp q (entries held.rows)) None)) (key_behind (namespace_id id.ns)) ∙ ap is_some (sym (get-entries held.rows q)) ∙ there in
      let taken : is_some (find bytes_cmp q front.taken) ≡ true = is_some-split q front.taken (rows_behind key held) (not_found q (rows_behind key held) later) (ap (λ es. is_some (find bytes_cmp q es)) (sym front.splits) ∙ given) in
      stored_there (namespace_id id.ns) s.objects tt keyed (ap is_some (sym (taken_is q)) ∙ taken)

  -- ---- the next row

  module _ (e : Entry) (next : find_first (is_behind key) (entries held.rows) ≡ Some e) where
    pub rest_is : rows_behind key held ≡ e ∷ rows_behind e.0 held
    rest_is = next_behind key (entries held.rows) e (entries_sorted held.rows) next

    -- it is none of those that were taken
    not_taken : AllByRecursion (λ (x : Object). is_lt (bytes_cmp key (key_text x.id)) ≡ false) s.objects → find bytes_cmp e.0 front.taken ≡ None
    not_taken last = taken_is e.0 ∙ none s.objects last
      where
        none : (objects : Objects) → IsBehindAll key objects → find bytes_cmp e.0 (map stored_entry objects) ≡ None
        none [] all = refl
        none (x ∷ objects) all = ap (λ b. cond b (Some (x.version, object_text x)) (find bytes_cmp e.0 (map stored_entry objects))) (apart (bytes_cmp e.0 (key_text x.id)) refl) ∙ none objects all.1
          where
            apart : (r : Ordering) → bytes_cmp e.0 (key_text x.id) ≡ r → is_eq r ≡ false
            apart Less is = refl
            apart Greater is = refl
            apart Equal is = absurd (true≢false (sym (found_passes (is_behind key) (entries held.rows) e next) ∙ ap (λ k. is_lt (bytes_cmp key k)) (same_bytes e.0 (key_text x.id) is) ∙ all.0))

    sound_next : (x : Object) → IsTakeable s (row_of_entry e) x → IsSoundRow held e
    sound_next x takes = record { object = x; stored = subst (λ last. IsStored last x) front.version takes.stored; row = takes.entry; home = home_there x.id takes.home }

    front_next : (t : State) → AllByRecursion (λ (x : Object). is_lt (bytes_cmp key (key_text x.id)) ≡ false) s.objects → Takes s key (row_of_entry e) t → IsFront held t e.0 (count + 1)
    front_next t last takes =
        let x = takes.object in
        record {
          taken = front.taken ++ (e ∷ []);
          fits = front.fits;
          version = ap (λ (u : State). u.last) takes.after ∙ front.version;
          splits = front.splits ∙ ap (λ es. front.taken ++ es) rest_is ∙ join front.taken e (rows_behind e.0 held);
          counts = omega (arith, length-append front.taken (e ∷ []), front.counts);
          sound = all_more (IsSoundRow held) front.taken e front.sound (sound_next x takes.takes);
          rows =
              ap (λ (u : State). rows_of_objects u.objects) takes.after ∙ rows_of_objects-put x s.objects (keyed_legal x takes.takes.stored.served.legal) keyed
              ∙ (λ i. finite.insert (front.rows i) (takes.takes.entry i).0 (takes.takes.entry i).1)
              ∙ sym (from_entries_push nat_list_cmp_total same_bytes front.taken e.0 e.1 (not_taken last));
        }
      where
        join : (xs : List Entry) (y : Entry) (zs : List Entry) → xs ++ (y ∷ zs) ≡ (xs ++ (y ∷ [])) ++ zs
        join [] y zs = refl
        join (x ∷ xs) y zs = ap (λ l. x ∷ l) (join xs y zs)

        all_more : {A : Type 0} (P : A → Type 0) (xs : List A) (y : A) → AllByRecursion P xs → P y → AllByRecursion P (xs ++ (y ∷ []))
        all_more P [] y all p = (p, tt)
        all_more P (x ∷ xs) y all p = (all.0, all_more P xs y all.1 p)

    -- nobody may take it: then it isn't sound
    pub unsound_next : IsUntakeable s key (row_of_entry e) → IsSoundRow held e → ⊥
    unsound_next untaken sound =
        let x = sound.object in
        untaken (found_passes (is_behind key) (entries held.rows) e next) x (record { stored = subst (λ last. IsStored last x) (sym front.version) sound.stored; entry = sound.row; home = home sound })
      where
        later : (low : List ℕ) → bytes_cmp low e.0 ≡ Less → (es : List Entry) → AllByRecursion (λ (f : Entry). bytes_cmp low f.0 ≡ Less) (filter (is_behind e.0) es)
        later low first [] = tt
        later low first (f ∷ es) =
            elim (is_behind e.0 f) as (λ b. is_behind e.0 f ≡ b → AllByRecursion (λ (g : Entry). bytes_cmp low g.0 ≡ Less) (cond b (f ∷ filter (is_behind e.0) es) (filter (is_behind e.0) es))) [
              | true ↦ λ above. (nat_list_cmp_total.trans low e.0 f.0 first (less_of (bytes_cmp e.0 f.0) above), later low first es)
              | false ↦ λ _. later low first es
            ] refl

        home : (r : IsSoundRow held e) → has_home s.objects r.object.id ≡ true
        home r =
            let x = r.object in
            let here : key_text x.id ≡ e.0 = ap (λ (f : Entry). f.0) r.row in
            elim (is_in_cluster x.id.kind) as (λ b. is_in_cluster x.id.kind ≡ b → (b || is_some (get held.rows (key_text (namespace_id x.id.ns)))) ≡ true → (b || is_some (option_and_then (object_at s.objects) (if b then None else Some (namespace_id x.id.ns)))) ≡ true) [
              | true ↦ λ _ _. refl
              | false ↦ λ inside there.
                  let first : bytes_cmp (key_text (namespace_id x.id.ns)) e.0 ≡ Less = ap (bytes_cmp (key_text (namespace_id x.id.ns))) (sym here) ∙ home_first x.id.ns x.id inside in
                  home_back x.id (subst (AllByRecursion (λ (f : Entry). bytes_cmp (key_text (namespace_id x.id.ns)) f.0 ≡ Less)) (sym rest_is) (first, later (key_text (namespace_id x.id.ns)) first (entries held.rows))) inside there
            ] refl r.home

  -- ---- damage

  -- the rows behind as many as were taken
  pub left_is : drop count (given_rows held) ≡ rows_behind key held
  left_is = ap (drop count) front.splits ∙ ap (λ n. drop n (front.taken ++ rows_behind key held)) (sym front.counts) ∙ drop-append_seam front.taken (rows_behind key held)

  damaged_next : count < finite.len held.rows → IsUnsoundNext held (rows_behind key held) → IsDamagedAt held (count + 1)
  damaged_next within next =
      let more : suc count ≡ count + 1 = omega arith in
      let drops = left_is in
      let takes : take count (given_rows held) ≡ front.taken = ap (take count) front.splits ∙ ap (λ n. take n (front.taken ++ rows_behind key held)) (sym front.counts) ∙ take-append_seam front.taken (rows_behind key held) in
      subst (IsDamagedAt held) more (front.fits, record { within = within; sound = subst (AllByRecursion (IsSoundRow held)) (sym takes) front.sound; next = subst (IsUnsoundNext held) (sym drops) next })

  pub damaged_none : count < finite.len held.rows → find_first (is_behind key) (entries held.rows) ≡ None → IsDamagedAt held (count + 1)
  damaged_none within none = damaged_next within (subst (IsUnsoundNext held) (sym (none_behind (is_behind key) (entries held.rows) none)) tt)

  pub damaged_some : count < finite.len held.rows → (e : Entry) → find_first (is_behind key) (entries held.rows) ≡ Some e → IsUntakeable s key (row_of_entry e) → IsDamagedAt held (count + 1)
  damaged_some within e next untaken = damaged_next within (subst (IsUnsoundNext held) (sym (rest_is e next)) (unsound_next e next untaken))

  -- ---- the end

  -- once as many were taken as there are, these are all
  all_taken : count ≡ finite.len held.rows → (entries held.rows ≡ front.taken) × (rows_behind key held ≡ [])
  all_taken full =
      let most = filter_at_most (is_behind []) (entries held.rows) in
      let split : length (given_rows held) ≡ length front.taken + length (rows_behind key held) = ap length front.splits ∙ length-append front.taken (rows_behind key held) in
      let long = len-entries held.rows in
      let whole : given_rows held ≡ entries held.rows = filter_whole (is_behind []) (entries held.rows) (omega (arith, most, split, long, full, front.counts)) in
      let none : rows_behind key held ≡ [] = nothing (rows_behind key held) (omega (arith, most, split, long, full, front.counts)) in
      (sym whole ∙ front.splits ∙ ap (λ es. front.taken ++ es) none ∙ append-nil front.taken, none)
    where
      nothing : (es : List Entry) → length es ≡ 0 → es ≡ []
      nothing [] e = refl
      nothing (x ∷ es) e = absurd (omega (arith, e))

  undamaged_all : count ≡ finite.len held.rows → IsUndamaged held
  undamaged_all full = record { fits = front.fits; sound = subst (AllByRecursion (IsSoundRow held)) (sym (all_taken full).0) front.sound }

  holds_all : count ≡ finite.len held.rows → held ≡ kept_of s
  holds_all full =
      let rows : held.rows ≡ rows_of_objects s.objects = same_map nat_list_cmp_total same_bytes held.rows (rows_of_objects s.objects) (λ q.
      get-entries held.rows q ∙ ap (find bytes_cmp q) (all_taken full).0 ∙ sym (get-from_entries nat_list_cmp_total front.taken q) ∙ ap (λ (m : Rows). get m q) (sym front.rows)) in
      let schema : held.schema ≡ 2 = schema_of held.schema held.version front.fits in
      λ i. record { schema = schema i; version = sym front.version i; rows = rows i }
    where
      schema_of : (schema version : ℕ) → (not (schema == 2) || nat_lt greatest_version version) ≡ false → schema ≡ 2
      schema_of schema version fits = by (schema == 2) refl fits
        where
          by : (b : Bool) → (schema == 2) ≡ b → (not b || nat_lt greatest_version version) ≡ false → schema ≡ 2
          by true is _ = eqb-true schema 2 is
          by false is bad = absurd (true≢false bad)

  not_more : count ≡ finite.len held.rows → (e : Entry) → find_first (is_behind key) (entries held.rows) ≡ Some e → ⊥
  not_more full e next = let h : e ∷ rows_behind e.0 held ≡ [] = sym (rest_is e next) ∙ (all_taken full).1 in cc

-- ---- whatever the keeper tells

-- the row that a keeper gives behind a key, where it gives one
pub by_next : (kept : Option Kept) (key : List ℕ) (row : Row) (P : Kept → Type 0) → IfSome kept (λ held. Some row ≡ row_after key held) → ((held : Kept) (e : Entry) → find_first (is_behind key) (entries held.rows) ≡ Some e → row ≡ row_of_entry e → P held) → IfSome kept P
by_next None key row P gives step = tt
by_next (Some held) key row P gives step = by (find_first (is_behind key) (entries held.rows)) refl gives
  where
    by : (o : Option Entry) → find_first (is_behind key) (entries held.rows) ≡ o → Some row ≡ option_map row_of_entry o → P held
    by None is some = absurd (let h : Some row ≡ None = some in cc)
    by (Some e) is some = let same : row ≡ row_of_entry e = cc in step held e is same

pub loaded_next : (s t : State) (kept : Option Kept) (key : List ℕ) (row : Row) (count : ℕ) → IsLoaded s kept key count → IfSome kept (λ held. Some row ≡ row_after key held) → IsUtf8 row.key → Takes s key row t → IsLoaded t kept row.key (count + 1)
loaded_next s t kept key row count loaded gives text takes =
    let x = takes.object in
    record {
      text = text;
      valid = subst IsValid (sym takes.after) (record {
        in_order = ascends-put x s.objects loaded.valid.in_order;
        stored = All-put (IsStored s.last) x s.objects takes.takes.stored loaded.valid.stored;
        housed = housed-put x s.objects takes.takes.home loaded.valid.housed;
        fits = loaded.valid.fits;
        recent = loaded.valid.recent;
      });
      fresh = ap (λ (u : State). u.window) takes.after ∙ loaded.fresh ∙ ap (λ (u : State). opened u.last) (sym takes.after);
      last = subst (λ (u : State). IsBehindAll row.key u.objects) (sym takes.after) (All-put (λ (y : Object). is_lt (bytes_cmp row.key (key_text y.id)) ≡ false) x s.objects (itself x takes.takes) (pass s.objects loaded.last));
      front = both_told kept loaded.front gives;
    }
  where
    itself : (x : Object) → IsTakeable s row x → is_lt (bytes_cmp row.key (key_text x.id)) ≡ false
    itself x it = ap (λ (e : Entry). is_lt (bytes_cmp row.key e.0)) it.entry ∙ ap is_lt (tied_itself nat_list_cmp_total row.key)

    pass : (objects : Objects) → IsBehindAll key objects → IsBehindAll row.key objects
    pass [] all = tt
    pass (y ∷ objects) all = (apart (bytes_cmp row.key (key_text y.id)) refl, pass objects all.1)
      where
        apart : (r : Ordering) → bytes_cmp row.key (key_text y.id) ≡ r → is_lt r ≡ false
        apart Less is = absurd (true≢false (sym (ap is_lt (nat_list_cmp_total.trans key row.key (key_text y.id) (less_of (bytes_cmp key row.key) takes.behind) is)) ∙ all.0))
        apart Equal is = refl
        apart Greater is = refl

    both_told : (k : Option Kept) → IfSome k (λ held. IsFront held s key count) → IfSome k (λ held. Some row ≡ row_after key held) → IfSome k (λ held. IsFront held t row.key (count + 1))
    both_told None front g = tt
    both_told (Some held) front g = by_next (Some held) key row (λ h. IsFront h s key count → IsFront h t row.key (count + 1)) g (λ h e next same was.
        subst (λ k. IsFront h t k (count + 1)) (sym (ap (λ (r : Row). r.key) same)) (front_next h s key count was loaded.valid e next t loaded.last (subst (λ r. Takes s key r t) same takes))) front

-- no row lies behind as many as there are
pub not_one_more : (kept : Option Kept) (s : State) (key : List ℕ) (count : ℕ) (P : Kept → Type 0) → IsLoaded s kept key count → IfSome kept (λ held. count ≡ finite.len held.rows) → IfSome kept (HasRowBehind key) → IfSome kept P
not_one_more None s key count P loaded full more = tt
not_one_more (Some held) s key count P loaded full more =
    absurd (by_next (Some held) key more.0 (λ h. IsFront h s key count → count ≡ finite.len h.rows → ⊥) more.1 (λ h e next same front all. not_more h s key count front loaded.valid all e next) loaded.front full)

-- the number of rows that a keeper says of itself
pub counted : (kept : Option Kept) (meta : Meta) → IfSome kept (λ held. meta ≡ meta_of held) → IfSome kept (λ held. meta.rows ≡ finite.len held.rows)
counted None meta says = tt
counted (Some held) meta says = ap (λ (m : Meta). m.rows) says

pub at_most_all : (kept : Option Kept) (rows : ℕ) → IfSome kept (λ held. rows ≡ finite.len held.rows) → IfSome kept (λ held. rows ≤ finite.len held.rows)
at_most_all None rows all = tt
at_most_all (Some held) rows all = omega (arith, all)

-- what a keeper holds once all its rows were taken
pub holds_loaded : (kept : Option Kept) (s : State) (key : List ℕ) (count : ℕ) → IsLoaded s kept key count → IfSome kept (λ held. count ≡ finite.len held.rows) → IfSome kept (λ held. held ≡ kept_of s)
holds_loaded None s key count loaded full = tt
holds_loaded (Some held) s key count loaded full = holds_all held s key count loaded.front loaded.valid full

pub undamaged_loaded : (kept : Option Kept) (s : State) (key : List ℕ) (count : ℕ) → IsLoaded s kept key count → IfSome kept (λ held. count ≡ finite.len held.rows) → IfSome kept IsUndamaged
undamaged_loaded None s key count loaded full = tt
undamaged_loaded (Some held) s key count loaded full = undamaged_all held s key count loaded.front loaded.valid full

pub none_if : {A : Type 0} (o : Option A) → ((x : A) → o ≡ Some x → ⊥) → o ≡ None
none_if None never = refl
none_if (Some x) never = absurd (never x refl)

-- a keeper that holds on, and whose count stayed, shows the same
pub same_view : (first old : KeeperView) → HoldsOn first old → old.faults ≡ first.faults → old ≡ first
same_view first old holds same = λ i. record { place = holds.place i; kept = holds.kept i; broken = holds.broken i; faults = same i; watchers = holds.watchers i }

-- what a keeper was asked for after calls that succeeded, by the fault of the last one
pub asked_on : {T U : Type 0} (first old new : KeeperView) (error : StartFault) (r : Result T StartFault) → old ≡ first → Asked {T = U} old new (Err error) → IsErrAnd r (λ found. found ≡ error) → Asked first new r
asked_on first old new error (Ok x) view asked is = absurd is
asked_on {T} {U} first old new error (Err found) view asked is =
    let on : Asked {T = U} first new (Err error) = subst (λ v. Asked {T = U} v new (Err error)) view asked in
    let here : ◌≡◌ {A = Result T StartFault} (Err found) (Err KeeperFault) → error ≡ KeeperFault = λ e. let h : found ≡ KeeperFault = cc in sym is ∙ h in
    let there : ◌≡◌ {A = Result U StartFault} (Err error) (Err KeeperFault) → found ≡ KeeperFault = λ e. let h : error ≡ KeeperFault = cc in is ∙ h in
    record { same = on.same; later = on.later; failed = λ e. on.failed (ap (λ f. Err f) (here e)); still = λ never. on.still (λ e. never (ap (λ f. Err f) (there e))) }
