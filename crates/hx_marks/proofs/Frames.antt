-- When a key wants the same in two states.
--     none_in_both, same_in_both      no write in either, or the same one on the same guards
--     closed_wants, ignored_wants, uncopied_wants    a copy key wants nothing in a namespace that takes no part, of a kind that is ignored, or of one that can't be copied
--     nothing_copied                  where nothing can be copied, nothing is taken away
--     same_tree                       where the tree and the namespaces stay, so do the keys of tree labels
--     same_closed                     so do the keys of copies in a namespace that takes no part
--     same_copied                     so do those whose place stays, where what the place is to have stays
--     shut_child, unanchored_child, taken_child    a subnamespace isn't wanted where its parent takes no part, where the anchor isn't there, and where a namespace has the name
--     unanchored_status, staying_removal           no status where the anchor isn't there;  no removal where the namespace isn't on its way out
--     same_child, same_status         where anchor and namespaces stay, so do the keys of the subnamespace and of the status
--     same_removal                    where the first object of a namespace stays, so does the key of its removal
--     KeepsLeast                      the first objects of namespaces stay but for that of one identity
--     removal_beside                  so does the key of the removal of a namespace in which nothing is written
use Rattle.std.proofs.Common.{◌≡◌, ℕ, Bool, true, false, cond, not, ◌&&◌, ◌||◌, Option, Some, None, option_map, List, [], ◌∷◌, ◌++◌, Less, Equal, Greater, inl, inr, refl, sym, ap, ◌∙◌, subst, true≢false}
use Rattle.std.specs.Prelude.{is_some, find, option_and_then, if◌then◌else◌}
use Rattle.std.specs.FinMap.Entries.{by_order}
use Rattle.std.specs.Str.{bytes_eq}
use Rattle.std.proofs.lemmas.Bool.{and_parts, cases_Bool, false_from_ne_true}
use Rattle.hx_object.specs.Kinds.{can_be_copied, is_in_cluster, is_namespace}
use Rattle.hx_object.specs.Order.{id_cmp}
use Rattle.hx_object.specs.declared.kind.Kind.{Kind}
use Rattle.hx_object.specs.declared.object.Id.{Id}
use Rattle.hx_object.specs.declared.object.Mode.{Mode}
use Rattle.hx_object.specs.declared.object.Mode.TheVariants.{Propagate, AllowPropagate, Remove, Ignore}
use Rattle.hx_object.specs.declared.object.Object.{Object}
use Rattle.hx_model.specs.Cases.{is_leaving}
use Rattle.hx_model.specs.Covered.{IsSameFor}
use Rattle.hx_model.specs.First.{so}
use Rattle.hx_model.specs.Forest.{is_in, is_live, chain_of, tail_of}
use Rattle.hx_model.specs.Keys.{is_among}
use Rattle.hx_model.specs.Limits.{is_copy}
use Rattle.hx_model.specs.Modes.{mode_of}
use Rattle.hx_model.specs.Propagation.{is_source, id_in, as_list, source_at, sources_along, sources_above, top_of}
use Rattle.hx_model.specs.State.{State, Objects, object_at, put, cut, same_id, namespace_id, lies_in, least_in}
use Rattle.hx_model.specs.Subnamespaces.{anchor_id}
use Rattle.hx_model.specs.Tree.{forest_of}
use Rattle.hx_model.specs.TreeLabels.{is_open}
use Rattle.hx_model.specs.Wanted.{without_copy, copied_in, copy_write, wanted_copy, tree_write, child_write, status_by, anchor_status, anchor_write, purge_write, least_id, wanted_write, purge_guards, guards_of}
use Rattle.hx_model.specs.declared.key.Guard.{Guard}
use Rattle.hx_model.specs.declared.key.Key.{Key}
use Rattle.hx_model.specs.declared.key.Key.TheVariants as key
use Rattle.hx_model.specs.declared.key.Write.TheVariants.{Cut}
use Rattle.hx_model.proofs.Climbing.{is_same}
use Rattle.hx_model.proofs.Displacing.{KeepsOthers}
use Rattle.hx_model.proofs.Objects.{found_id, is_same_id, same_from_Equal}
use Rattle.hx_marks.specs.Law.{is_ignored, leaving_keys}
use Rattle.hx_marks.proofs.Among.{among_here}

pub none_in_both : (s t : State) (k : Key) → wanted_write s k ≡ None → wanted_write t k ≡ None → IsSameFor s t k
none_in_both s t k before after = (before ∙ sym after, λ some. absurd (some before))

pub same_in_both : (s t : State) (k : Key) → wanted_write s k ≡ wanted_write t k → guards_of s k ≡ guards_of t k → IsSameFor s t k
same_in_both s t k wanted guards = (wanted, λ _. guards)

-- ---- keys that want nothing

closed_write : (found : Option Object) (mode : Mode) (sources : List Object) (n : List ℕ) (place : Option Object) → copy_write false found mode sources n place ≡ None
closed_write None mode sources n place = refl
closed_write (Some x) mode sources n place = refl

pub closed_wants : (s : State) (n : List ℕ) (kind : Kind) (name : List ℕ) → is_open (forest_of s) n ≡ false → wanted_copy s n kind name ≡ None
closed_wants s n kind name closed =
    ap (λ b. copy_write b (object_at s.objects (namespace_id n)) (mode_of s kind) (sources_above s n kind name) n (object_at s.objects (id_in kind name n))) closed
    ∙ closed_write (object_at s.objects (namespace_id n)) (mode_of s kind) (sources_above s n kind name) n (object_at s.objects (id_in kind name n))

-- where a place is to have nothing, whatever the labels
unwanted : (acts : Bool) (found : Option Object) (mode : Mode) (sources : List Object) (n : List ℕ) (place : Option Object) → ((labels : List (List ℕ × List ℕ)) → copied_in mode (top_of mode labels sources) n place ≡ None) → copy_write acts found mode sources n place ≡ None
unwanted acts None mode sources n place none = refl
unwanted true (Some x) mode sources n place none = none x.labels
unwanted false (Some x) mode sources n place none = refl

ignored_mode : (mode : Mode) (top : Option Object) (n : List ℕ) (place : Option Object) → is_ignored mode ≡ true → copied_in mode top n place ≡ None
ignored_mode Ignore top n place is = refl
ignored_mode _ top n place is = absurd (true≢false (sym is))

pub ignored_wants : (s : State) (n : List ℕ) (kind : Kind) (name : List ℕ) → is_ignored (mode_of s kind) ≡ true → wanted_copy s n kind name ≡ None
ignored_wants s n kind name ignored =
    unwanted (is_open (forest_of s) n) (object_at s.objects (namespace_id n)) (mode_of s kind) (sources_above s n kind name) n (object_at s.objects (id_in kind name n))
    (λ labels. ignored_mode (mode_of s kind) (top_of (mode_of s kind) labels (sources_above s n kind name)) n (object_at s.objects (id_in kind name n)) ignored)

copy_can : (x : Object) → is_copy x ≡ true → can_be_copied x.id.kind ≡ true
unfolding is_copy
copy_can x is = (and_parts (can_be_copied x.id.kind) _ is).0

found_kind : (objects : Objects) (q : Id) (x : Object) → object_at objects q ≡ Some x → can_be_copied q.kind ≡ false → can_be_copied x.id.kind ≡ false
found_kind objects q x at out = ap (λ (i : Id). can_be_copied i.kind) (sym (found_id objects q x at)) ∙ out

no_source : (objects : Objects) (q : Id) → can_be_copied q.kind ≡ false → source_at objects q ≡ None
no_source objects q out = by (object_at objects q) refl
  where
    by : (o : Option Object) → object_at objects q ≡ o → option_and_then (λ x. so (is_source x) x) o ≡ None
    by None e = refl
    by (Some x) e = ap (λ b. so (b && not (is_copy x)) x) (found_kind objects q x e out)

no_sources : (objects : Objects) (kind : Kind) (name : List ℕ) (chain : List (List ℕ)) → can_be_copied kind ≡ false → sources_along objects kind name chain ≡ []
no_sources objects kind name [] out = refl
no_sources objects kind name (a ∷ chain) out = λ i. no_sources objects kind name chain out i ++ as_list (no_source objects (id_in kind name a) out i)

-- what is no copy stays
pub nothing_copied : (x : Object) → is_copy x ≡ false → without_copy (Some x) ≡ None
nothing_copied x out = ap (λ b. so b (Cut x.id)) out

no_copy : (objects : Objects) (q : Id) → can_be_copied q.kind ≡ false → without_copy (object_at objects q) ≡ None
no_copy objects q out = by (object_at objects q) refl
  where
    by : (o : Option Object) → object_at objects q ≡ o → without_copy o ≡ None
    by None e = refl
    by (Some x) e = nothing_copied x (false_from_ne_true (is_copy x) (λ h. true≢false (sym (copy_can x h) ∙ found_kind objects q x e out)))

none_top : (mode : Mode) (n : List ℕ) (place : Option Object) → without_copy place ≡ None → copied_in mode None n place ≡ None
none_top Propagate n place none = none
none_top AllowPropagate n place none = none
none_top Remove n place none = none
none_top Ignore n place none = refl

pub uncopied_wants : (s : State) (n : List ℕ) (kind : Kind) (name : List ℕ) → can_be_copied kind ≡ false → wanted_copy s n kind name ≡ None
uncopied_wants s n kind name out =
    unwanted (is_open (forest_of s) n) (object_at s.objects (namespace_id n)) (mode_of s kind) (sources_above s n kind name) n (object_at s.objects (id_in kind name n))
    (λ labels. ap (λ sources. copied_in (mode_of s kind) (top_of (mode_of s kind) labels sources) n (object_at s.objects (id_in kind name n))) (no_sources s.objects kind name (tail_of (chain_of (forest_of s) n)) out)
    ∙ none_top (mode_of s kind) n (object_at s.objects (id_in kind name n)) (no_copy s.objects (id_in kind name n) out))

-- ---- where the tree and the namespaces stay

copy_alike : (acts : Bool) (found : Option Object) (a b : Mode) (before after : List Object) (n : List ℕ) (old new : Option Object)
    → ((labels : List (List ℕ × List ℕ)) → copied_in a (top_of a labels before) n old ≡ copied_in b (top_of b labels after) n new)
    → copy_write acts found a before n old ≡ copy_write acts found b after n new
copy_alike acts None a b before after n old new alike = refl
copy_alike true (Some x) a b before after n old new alike = alike x.labels
copy_alike false (Some x) a b before after n old new alike = refl

module _ (s t : State) (tree : forest_of t ≡ forest_of s) (found : (m : List ℕ) → object_at t.objects (namespace_id m) ≡ object_at s.objects (namespace_id m)) where
  abbrev version_of : Option Object → Id → Guard
  version_of o id = record { id = id; version = option_map (λ (x : Object). x.version) o }

  pub same_tree : (n : List ℕ) → IsSameFor s t (key.Tree n)
  same_tree n = same_in_both s t (key.Tree n) (λ i. tree_write (is_open (sym tree i) n) (chain_of (sym tree i) n) (sym (found n) i)) (ap (λ o. version_of o (namespace_id n) ∷ []) (sym (found n)))

  pub same_closed : (n : List ℕ) (kind : Kind) (name : List ℕ) → is_open (forest_of s) n ≡ false → IsSameFor s t (key.Copy n kind name)
  same_closed n kind name closed = none_in_both s t (key.Copy n kind name) (closed_wants s n kind name closed) (closed_wants t n kind name (ap (λ f. is_open f n) tree ∙ closed))

  -- the sources above a place, by the tree that stays
  abbrev pub then_above : List ℕ → Kind → List ℕ → List Object
  then_above n kind name = sources_along t.objects kind name (tail_of (chain_of (forest_of s) n))

  pub same_copied : (n : List ℕ) (kind : Kind) (name : List ℕ) → object_at t.objects (id_in kind name n) ≡ object_at s.objects (id_in kind name n)
      → ((labels : List (List ℕ × List ℕ)) → copied_in (mode_of s kind) (top_of (mode_of s kind) labels (sources_above s n kind name)) n (object_at s.objects (id_in kind name n)) ≡ copied_in (mode_of t kind) (top_of (mode_of t kind) labels (then_above n kind name)) n (object_at s.objects (id_in kind name n)))
      → IsSameFor s t (key.Copy n kind name)
  same_copied n kind name place alike =
      same_in_both s t (key.Copy n kind name)
      (copy_alike (is_open (forest_of s) n) (object_at s.objects (namespace_id n)) (mode_of s kind) (mode_of t kind) (sources_above s n kind name) (then_above n kind name) n (object_at s.objects (id_in kind name n)) (object_at s.objects (id_in kind name n)) alike
      ∙ (λ i. copy_write (is_open (sym tree i) n) (sym (found n) i) (mode_of t kind) (sources_along t.objects kind name (tail_of (chain_of (sym tree i) n))) n (sym place i)))
      (λ i. version_of (sym place i) (id_in kind name n) ∷ version_of (sym (found n) i) (namespace_id n) ∷ [])

-- ---- keys of anchors

pub shut_child : (s : State) (n m : List ℕ) → is_open (forest_of s) n ≡ false → wanted_write s (key.Child n m) ≡ None
shut_child s n m shut = ap (λ b. child_write b (is_some (object_at s.objects (anchor_id n m))) (is_in m s.config.excluded) (is_some (object_at s.objects (namespace_id m))) n m) shut

pub unanchored_child : (s : State) (n m : List ℕ) → object_at s.objects (anchor_id n m) ≡ None → wanted_write s (key.Child n m) ≡ None
unanchored_child s n m absent =
    ap (λ o. child_write (is_open (forest_of s) n) (is_some o) (is_in m s.config.excluded) (is_some (object_at s.objects (namespace_id m))) n m) absent
    ∙ by (is_open (forest_of s) n)
  where
    by : (acts : Bool) → child_write acts false (is_in m s.config.excluded) (is_some (object_at s.objects (namespace_id m))) n m ≡ None
    by true = refl
    by false = refl

pub taken_child : (s : State) (n m : List ℕ) → is_some (object_at s.objects (namespace_id m)) ≡ true → wanted_write s (key.Child n m) ≡ None
taken_child s n m there =
    ap (λ b. child_write (is_open (forest_of s) n) (is_some (object_at s.objects (anchor_id n m))) (is_in m s.config.excluded) b n m) there
    ∙ by (is_open (forest_of s) n) (is_some (object_at s.objects (anchor_id n m))) (is_in m s.config.excluded)
  where
    by : (acts anchored excluded : Bool) → child_write acts anchored excluded true n m ≡ None
    by true true true = refl
    by true true false = refl
    by true false excluded = refl
    by false anchored excluded = refl

pub unanchored_status : (s : State) (n m : List ℕ) → object_at s.objects (anchor_id n m) ≡ None → wanted_write s (key.Anchor n m) ≡ None
unanchored_status s n m absent = ap (anchor_write (is_live (forest_of s) n) (anchor_status s n m)) absent

pub staying_removal : (s : State) (n : List ℕ) → is_leaving (forest_of s) n ≡ false → wanted_write s (key.Purge n) ≡ None
staying_removal s n stays = ap (λ b. purge_write b (least_id s n) n) stays

abbrev guard_of : Option Object → Id → Guard
guard_of o id = record { id = id; version = option_map (λ (x : Object). x.version) o }

module _ (s t : State) (n m : List ℕ) (anchor : object_at t.objects (anchor_id n m) ≡ object_at s.objects (anchor_id n m)) (home : object_at t.objects (namespace_id n) ≡ object_at s.objects (namespace_id n)) where
  -- the name's namespace stays, too
  pub same_child : t.config ≡ s.config → is_open (forest_of t) n ≡ is_open (forest_of s) n → object_at t.objects (namespace_id m) ≡ object_at s.objects (namespace_id m) → IsSameFor s t (key.Child n m)
  same_child config acts named =
      same_in_both s t (key.Child n m)
      (λ i. child_write (sym acts i) (is_some (sym anchor i)) (is_in m ((sym config i).excluded)) (is_some (sym named i)) n m)
      (λ i. guard_of (sym anchor i) (anchor_id n m) ∷ guard_of (sym home i) (namespace_id n) ∷ guard_of (sym named i) (namespace_id m) ∷ [])

  pub same_status : is_live (forest_of t) n ≡ is_live (forest_of s) n → anchor_status t n m ≡ anchor_status s n m → IsSameFor s t (key.Anchor n m)
  same_status live status =
      same_in_both s t (key.Anchor n m)
      (λ i. anchor_write (sym live i) (sym status i) (sym anchor i))
      (λ i. guard_of (sym anchor i) (anchor_id n m) ∷ guard_of (sym home i) (namespace_id n) ∷ [])

-- the same status, where the namespace of the name stays
pub status_stays : (s t : State) (n m : List ℕ) → t.config ≡ s.config → object_at t.objects (namespace_id m) ≡ object_at s.objects (namespace_id m) → anchor_status t n m ≡ anchor_status s n m
status_stays s t n m config named i = status_by (is_in n ((config i).excluded) || is_in m ((config i).excluded)) n (named i)

-- ---- keys of removals

-- the first objects of namespaces stay, but for that in which the identity lies
abbrev pub KeepsLeast : Id → Objects → Objects → Type 0
KeepsLeast id old new = (n : List ℕ) → lies_in n id ≡ false → least_in new n ≡ least_in old n

pub put_least : (x : Object) (objects : Objects) → KeepsLeast x.id objects (put x objects)
put_least x [] n apart = ap (λ b. cond b (Some x) None) apart
put_least x (y ∷ objects) n apart =
    elim (id_cmp x.id y.id) as (λ o. id_cmp x.id y.id ≡ o → least_in (by_order o (x ∷ y ∷ objects) (x ∷ objects) (y ∷ put x objects)) n ≡ least_in (y ∷ objects) n) [
      | Less ↦ λ e. ap (λ b. cond b (Some x) (least_in (y ∷ objects) n)) apart
      | Equal ↦ λ e.
          ap (λ b. cond b (Some x) (least_in objects n)) apart
          ∙ sym (ap (λ b. cond b (Some y) (least_in objects n)) (ap (lies_in n) (sym (is_same_id x.id y.id (same_from_Equal x.id y.id e))) ∙ apart))
      | Greater ↦ λ e. ap (cond (lies_in n y.id) (Some y)) (put_least x objects n apart)
    ] refl

pub cut_least : (id : Id) (objects : Objects) → KeepsLeast id objects (cut id objects)
cut_least id [] n apart = refl
cut_least id (y ∷ objects) n apart =
    elim (same_id id y.id) as (λ b. same_id id y.id ≡ b → least_in (cond (not b) (y ∷ cut id objects) (cut id objects)) n ≡ least_in (y ∷ objects) n) [
      | true ↦ λ is. cut_least id objects n apart ∙ sym (ap (λ b. cond b (Some y) (least_in objects n)) (ap (lies_in n) (sym (is_same_id id y.id is)) ∙ apart))
      | false ↦ λ other. ap (cond (lies_in n y.id) (Some y)) (cut_least id objects n apart)
    ] refl

-- what is found first lies in the namespace
passes : (p : Object → Bool) (objects : Objects) (x : Object) → find p objects ≡ Some x → p x ≡ true
passes p [] x e = absurd (true≢false (sym (ap is_some e)))
passes p (y ∷ objects) x e = elim (p y) as (λ b. p y ≡ b → cond b (Some y) (find p objects) ≡ Some x → p x ≡ true) [
  | true ↦ λ is h. subst (λ (z : Object). p z ≡ true) (let same : y ≡ x = cc in same) is
  | false ↦ λ _ h. passes p objects x h
] refl e

pub least_lies : (objects : Objects) (n : List ℕ) (x : Object) → least_in objects n ≡ Some x → lies_in n x.id ≡ true
least_lies objects n x at = passes (λ (y : Object). lies_in n y.id) objects x at

-- and what lies in a namespace is none
pub lies_apart : (n m : List ℕ) (id : Id) → lies_in n id ≡ true → same_id (namespace_id m) id ≡ false
lies_apart n m id lies = false_from_ne_true (same_id (namespace_id m) id) (λ h.
    true≢false (sym (and_parts (not (is_in_cluster id.kind)) _ lies).0 ∙ ap (λ (q : Id). not (is_in_cluster q.kind)) (sym (is_same_id (namespace_id m) id h))))

-- the guards of a removal, by what is found first
abbrev guards_by : State → List ℕ → Option Object → List Guard
guards_by s n least = purge_guards s (option_map (λ (x : Object). x.id) least) n

-- where a namespace stays, and what lies in it
pub same_removal : (s t : State) (n : List ℕ) → is_leaving (forest_of t) n ≡ is_leaving (forest_of s) n → least_in t.objects n ≡ least_in s.objects n
    → ((q : Id) → lies_in n q ≡ true → object_at t.objects q ≡ object_at s.objects q) → object_at t.objects (namespace_id n) ≡ object_at s.objects (namespace_id n) → IsSameFor s t (key.Purge n)
same_removal s t n leaves least inside home =
    same_in_both s t (key.Purge n)
    (λ i. purge_write (sym leaves i) (option_map (λ (x : Object). x.id) (sym least i)) n)
    (by (least_in s.objects n) refl ∙ ap (guards_by t n) (sym least))
  where
    by : (o : Option Object) → least_in s.objects n ≡ o → guards_by s n (least_in s.objects n) ≡ guards_by t n (least_in s.objects n)
    by None e = ap (guards_by s n) e ∙ (λ i. guard_of (sym home i) (namespace_id n) ∷ []) ∙ sym (ap (guards_by t n) e)
    by (Some x) e = ap (guards_by s n) e ∙ (λ i. guard_of (sym (inside x.id (least_lies s.objects n x e)) i) x.id ∷ guard_of (sym home i) (namespace_id n) ∷ []) ∙ sym (ap (guards_by t n) e)

-- a write of an identity that is no namespace's
module _ (s t : State) (id : Id) (leaf : is_namespace id.kind ≡ false) (others : KeepsOthers id s.objects t.objects) (least : KeepsLeast id s.objects t.objects) (leaving : (n : List ℕ) → is_leaving (forest_of t) n ≡ is_leaving (forest_of s) n) where
  -- where it doesn't lie in the namespace
  pub removal_apart : (n : List ℕ) → lies_in n id ≡ false → IsSameFor s t (key.Purge n)
  removal_apart n apart =
      same_removal s t n (leaving n) (least n apart)
      (λ q lies. others q (false_from_ne_true (same_id q id) (λ h. true≢false (sym lies ∙ ap (lies_in n) (is_same_id q id h) ∙ apart))))
      (others (namespace_id n) (false_from_ne_true (same_id (namespace_id n) id) (λ h. true≢false (ap (λ (q : Id). is_namespace q.kind) (is_same_id (namespace_id n) id h) ∙ leaf))))

  -- where the removal isn't marked
  pub removal_beside : (n : List ℕ) → is_among (key.Purge n) (leaving_keys (forest_of s) id.ns) ≡ false → IsSameFor s t (key.Purge n)
  removal_beside n out = elim (cases_Bool (is_leaving (forest_of s) n)) [
    | inr stays ↦ none_in_both s t (key.Purge n) (staying_removal s n stays) (staying_removal t n (leaving n ∙ stays))
    | inl leaves ↦ elim (cases_Bool (bytes_eq n id.ns)) [
      | inr apart ↦ removal_apart n (ap (λ b. not (is_in_cluster id.kind) && b) apart ∙ nowhere (not (is_in_cluster id.kind)))
      | inl same ↦
          let is = is_same n id.ns same in
          let marked : is_among (key.Purge n) (leaving_keys (forest_of s) id.ns) ≡ true =
          ap (λ a. is_among (key.Purge n) (leaving_keys (forest_of s) a)) (sym is) ∙ ap (λ b. is_among (key.Purge n) (if b then key.Purge n ∷ [] else [])) leaves ∙ among_here (key.Purge n) [] in
          absurd (true≢false (sym marked ∙ out))
    ]
  ]
    where
      nowhere : (b : Bool) → (b && false) ≡ false
      nowhere true = refl
      nowhere false = refl
