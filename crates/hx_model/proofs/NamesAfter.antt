-- How many names there are after the writes of one commit.
--     brings, takes          what a write adds to the number, and what it takes off
--     names_one              the number after one write
--     names_after_writes     the number after writes of which at most one changes names, by the objects before them
--     brings_found           what a put adds, by the object that is there
use Rattle.std.proofs.Common.{◌≡◌, ◌≤◌, ℕ, suc, ◌+◌, Bool, true, false, cond, not, ◌&&◌, Option, Some, None, List, [], ◌∷◌, filter, map, length, sum_by, refl, sym, ap, ◌∙◌, subst, arith, true≢false}
use Rattle.std.specs.Prelude.{is_some, is_none, if◌then◌else◌}
use Rattle.std.specs.List.{AllByRecursion, IsDistinct}
use Rattle.std.proofs.lemmas.Bool.{and_parts, false_from_ne_true}
use Rattle.std.proofs.lemmas.List.Sums.{sum_by-cons}
use Rattle.std.proofs.lemmas.Map.Keys.{IsDistinct-head, IsDistinct-tail}
use Rattle.hx_object.specs.declared.object.Id.{Id}
use Rattle.hx_object.specs.declared.object.Object.{Object}
use Rattle.hx_model.specs.Limits.{names_in, is_named}
use Rattle.hx_model.specs.State.{Objects, same_id, object_at, put, cut, after_writes}
use Rattle.hx_model.specs.Writes.{gives_name, changes_names, id_written}
use Rattle.hx_model.specs.declared.key.Write.{Write}
use Rattle.hx_model.specs.declared.key.Write.TheVariants.{Put, Cut}
use Rattle.hx_model.proofs.Distinct.{one_unless, itself}
use Rattle.hx_model.proofs.Naming.{IsHomed, AreNamed, AreAlike, named_put, named_cut, same_itself, some_is, given_by, named_from, named_alike, names_put_new, names_put_other, names_cut, names_cut_other, alike_put_same, alike_put_other, alike_cut_other}
use Rattle.hx_model.proofs.Objects.{is_same_id, object_at-put, object_at-cut}

-- ---- the writes of one commit

-- what a write adds to the number of names, made on these objects
abbrev pub brings : Objects → Write → ℕ
brings objects (Put x) = if gives_name x.id.kind then one_unless (is_named objects x.id.name) else 0
brings objects (Cut id) = 0

-- and what it takes off
abbrev pub takes : Objects → Write → ℕ
takes objects (Put x) = 0
takes objects (Cut id) = if gives_name id.kind then one_unless (is_named (cut id objects) id.name) else 0

-- a namespace that is put is told by its name, and a namespace or an anchor that is cut is there
abbrev pub IsFitting : Objects → Write → Type 0
IsFitting objects (Put x) = IsHomed x
IsFitting objects (Cut id) = gives_name id.kind ≡ true → is_some (object_at objects id) ≡ true

-- the objects after one write
abbrev pub made : Write → Objects → Objects
made (Put x) objects = put x objects
made (Cut id) objects = cut id objects

made_first : (w : Write) (ws : List Write) (objects : Objects) → after_writes (w ∷ ws) objects ≡ after_writes ws (made w objects)
made_first (Put x) ws objects = refl
made_first (Cut id) ws objects = refl

named_made : (w : Write) (objects : Objects) → AreNamed objects → IsFitting objects w → AreNamed (made w objects)
named_made (Put x) objects named fits = named_put x objects fits named
named_made (Cut id) objects named fits = named_cut id objects named

-- the number after one write
pub names_one : (w : Write) (objects : Objects) → AreNamed objects → IsFitting objects w → names_in (made w objects) + takes objects w ≡ names_in objects + brings objects w
names_one (Put x) objects named fits = by (gives_name x.id.kind) refl
  where
    by : (b : Bool) → gives_name x.id.kind ≡ b → names_in (put x objects) + 0 ≡ names_in objects + (if b then one_unless (is_named objects x.id.name) else 0)
    by true gives = omega (arith, names_put_new x objects named fits gives)
    by false none = omega (arith, names_put_other x objects named none)
names_one (Cut id) objects named fits = by (gives_name id.kind) refl
  where
    by : (b : Bool) → gives_name id.kind ≡ b → names_in (cut id objects) + (if b then one_unless (is_named (cut id objects) id.name) else 0) ≡ names_in objects + 0
    by true gives =
        let x = some_is (object_at objects id) (fits gives) in
        omega (arith, names_cut id x.0 objects named x.1 gives)
    by false none = omega (arith, names_cut_other id objects named none)

-- a write that changes no names leaves the same namespaces and anchors
alike_quiet : (w : Write) (objects : Objects) → changes_names objects w ≡ false → AreAlike objects (made w objects)
alike_quiet (Put x) objects quiet = by (gives_name x.id.kind) (object_at objects x.id) refl refl quiet
  where
    by : (b : Bool) (o : Option Object) → gives_name x.id.kind ≡ b → object_at objects x.id ≡ o → (b && is_none o) ≡ false → AreAlike objects (put x objects)
    by true (Some old) gives there none = alike_put_same x objects (ap is_some there)
    by true None gives there none = absurd (true≢false none)
    by false o gives there none = alike_put_other x objects gives
alike_quiet (Cut id) objects quiet = alike_cut_other id objects quiet

-- where the same namespaces and anchors are there, a write adds and takes the same
brings_alike : (old new : Objects) → AreAlike old new → (w : Write) → brings old w ≡ brings new w
brings_alike old new alike (Put x) = ap (λ b. if gives_name x.id.kind then one_unless b else 0) (named_alike old new alike x.id.name)
brings_alike old new alike (Cut id) = refl

alike_without : (id : Id) (old new : Objects) → AreAlike old new → AreAlike (cut id old) (cut id new)
alike_without id old new alike k gives =
    ap is_some (object_at-cut id old k) ∙ by (same_id k id) ∙ sym (ap is_some (object_at-cut id new k))
  where
    by : (b : Bool) → is_some (cond b None (object_at old k)) ≡ is_some (cond b None (object_at new k))
    by true = refl
    by false = alike k gives

takes_alike : (old new : Objects) → AreAlike old new → (w : Write) → takes old w ≡ takes new w
takes_alike old new alike (Put x) = refl
takes_alike old new alike (Cut id) = ap (λ b. if gives_name id.kind then one_unless b else 0) (named_alike (cut id old) (cut id new) (alike_without id old new alike) id.name)

changes_alike : (old new : Objects) → AreAlike old new → (w : Write) → changes_names old w ≡ changes_names new w
changes_alike old new alike (Put x) = by (gives_name x.id.kind) refl
  where
    missing : (o : Option Object) → is_none o ≡ not (is_some o)
    missing None = refl
    missing (Some y) = refl

    by : (b : Bool) → gives_name x.id.kind ≡ b → (b && is_none (object_at old x.id)) ≡ (b && is_none (object_at new x.id))
    by true gives = missing (object_at old x.id) ∙ ap not (alike x.id gives) ∙ sym (missing (object_at new x.id))
    by false none = refl
changes_alike old new alike (Cut id) = refl

fitting_alike : (old new : Objects) → AreAlike old new → (ws : List Write) → AllByRecursion (IsFitting old) ws → AllByRecursion (IsFitting new) ws
fitting_alike old new alike [] fits = tt
fitting_alike old new alike (Put x ∷ ws) fits = (fits.0, fitting_alike old new alike ws fits.1)
fitting_alike old new alike (Cut id ∷ ws) fits = ((λ gives. sym (alike id gives) ∙ fits.0 gives), fitting_alike old new alike ws fits.1)

-- ---- writes that change no names

abbrev AreQuiet : Objects → List Write → Type 0
AreQuiet objects ws = AllByRecursion (λ w. changes_names objects w ≡ false) ws

-- they add and take nothing
brings_quiet : (objects : Objects) (w : Write) → IsFitting objects w → changes_names objects w ≡ false → brings objects w ≡ 0
brings_quiet objects (Put x) fits quiet = by (gives_name x.id.kind) (object_at objects x.id) refl refl quiet
  where
    by : (b : Bool) (o : Option Object) → gives_name x.id.kind ≡ b → object_at objects x.id ≡ o → (b && is_none o) ≡ false → (if b then one_unless (is_named objects x.id.name) else 0) ≡ 0
    by true (Some old) gives there none = ap one_unless (named_from objects x.id.name x.id (ap is_some there) (given_by x.id.name x.id gives fits (itself x.id.name)))
    by true None gives there none = absurd (true≢false none)
    by false o gives there none = refl
brings_quiet objects (Cut id) fits quiet = refl

takes_quiet : (objects : Objects) (w : Write) → changes_names objects w ≡ false → takes objects w ≡ 0
takes_quiet objects (Put x) quiet = refl
takes_quiet objects (Cut id) quiet = ap (λ b. if b then one_unless (is_named (cut id objects) id.name) else 0) quiet

sums_quiet : (objects : Objects) (ws : List Write) → AllByRecursion (IsFitting objects) ws → AreQuiet objects ws → (sum_by (brings objects) ws ≡ 0) × (sum_by (takes objects) ws ≡ 0)
sums_quiet objects [] fits quiet = (refl, refl)
sums_quiet objects (w ∷ ws) fits quiet =
    let rest = sums_quiet objects ws fits.1 quiet.1 in
    (omega (arith, rest.0, brings_quiet objects w fits.0 quiet.0, sum_by-cons (brings objects) w ws), omega (arith, rest.1, takes_quiet objects w quiet.0, sum_by-cons (takes objects) w ws))

-- a write of another identity keeps what is there
there_beside : (w : Write) (id : Id) (objects : Objects) → same_id (id_written w) id ≡ false → is_some (object_at objects id) ≡ true → is_some (object_at (made w objects) id) ≡ true
there_beside (Put x) id objects apart there = ap is_some (object_at-put x objects id) ∙ either (same_id id x.id) (object_at objects id) there
  where
    either : (b : Bool) (o : Option Object) → is_some o ≡ true → is_some (cond b (Some x) o) ≡ true
    either true o some = refl
    either false o some = some
there_beside (Cut gone) id objects apart there = ap is_some (object_at-cut gone objects id ∙ ap (λ b. cond b None (object_at objects id)) other) ∙ there
  where
    other : same_id id gone ≡ false
    other = false_from_ne_true (same_id id gone) (λ same. true≢false (sym (subst (λ (k : Id). same_id gone k ≡ true) (sym (is_same_id id gone same)) (same_itself gone)) ∙ apart))

-- and leaves the others such that they change no names
quiet_beside : (w v : Write) (objects : Objects) → same_id (id_written w) (id_written v) ≡ false → changes_names objects v ≡ false → changes_names (made w objects) v ≡ false
quiet_beside w (Put x) objects apart quiet = by (gives_name x.id.kind) (object_at objects x.id) (object_at (made w objects) x.id) (there_beside w x.id objects apart) quiet
  where
    by : (g : Bool) (o p : Option Object) → (is_some o ≡ true → is_some p ≡ true) → (g && is_none o) ≡ false → (g && is_none p) ≡ false
    by false o p kept quiet = refl
    by true None p kept quiet = absurd (true≢false quiet)
    by true (Some y) None kept quiet = absurd (true≢false (sym (kept refl)))
    by true (Some y) (Some z) kept quiet = refl
quiet_beside w (Cut id) objects apart quiet = quiet

-- all others of a commit
all_beside : (w : Write) (ws : List Write) (objects : Objects) → AllByRecursion (λ id. same_id (id_written w) id ≡ false) (map id_written ws) → AreQuiet objects ws → AreQuiet (made w objects) ws
all_beside w [] objects apart quiet = tt
all_beside w (v ∷ ws) objects apart quiet = (quiet_beside w v objects apart.0 quiet.0, all_beside w ws objects apart.1 quiet.1)

-- one that changes no names fits anywhere
fitting_quiet : (old new : Objects) (ws : List Write) → AreQuiet old ws → AllByRecursion (IsFitting old) ws → AllByRecursion (IsFitting new) ws
fitting_quiet old new [] quiet fits = tt
fitting_quiet old new (Put x ∷ ws) quiet fits = (fits.0, fitting_quiet old new ws quiet.1 fits.1)
fitting_quiet old new (Cut id ∷ ws) quiet fits = ((λ gives. absurd (true≢false (sym gives ∙ quiet.0))), fitting_quiet old new ws quiet.1 fits.1)

-- ---- all writes

quiet_by_length : (objects : Objects) (ws : List Write) → length (filter (changes_names objects) ws) ≡ 0 → AreQuiet objects ws
quiet_by_length objects [] none = tt
quiet_by_length objects (w ∷ ws) none =
    elim (changes_names objects w) as (λ b. changes_names objects w ≡ b → length (cond b (w ∷ filter (changes_names objects) ws) (filter (changes_names objects) ws)) ≡ 0 → AreQuiet objects (w ∷ ws)) [
      | true ↦ λ e some. absurd (let h : suc (length (filter (changes_names objects) ws)) ≡ 0 = some in omega (arith, h))
      | false ↦ λ e rest. (e, quiet_by_length objects ws rest)
    ] refl none

length_by_quiet : (objects : Objects) (ws : List Write) → AreQuiet objects ws → length (filter (changes_names objects) ws) ≡ 0
length_by_quiet objects [] quiet = refl
length_by_quiet objects (w ∷ ws) quiet = ap (λ b. length (cond b (w ∷ filter (changes_names objects) ws) (filter (changes_names objects) ws))) quiet.0 ∙ length_by_quiet objects ws quiet.1

same_filter : (p q : Write → Bool) (ws : List Write) → ((w : Write) → p w ≡ q w) → filter p ws ≡ filter q ws
same_filter p q [] same = refl
same_filter p q (w ∷ ws) same = λ i. cond (same w i) (w ∷ same_filter p q ws same i) (same_filter p q ws same i)

same_sum : (f g : Write → ℕ) (ws : List Write) → ((w : Write) → f w ≡ g w) → sum_by f ws ≡ sum_by g ws
same_sum f g [] same = refl
same_sum f g (w ∷ ws) same = omega (arith, same w, same_sum f g ws same, sum_by-cons f w ws, sum_by-cons g w ws)

-- the number after writes of which at most one changes names, by the objects before all of them
abbrev IsNumberAfter : Objects → List Write → Type 0
IsNumberAfter objects ws = names_in (after_writes ws objects) + sum_by (takes objects) ws ≡ names_in objects + sum_by (brings objects) ws

-- where the first changes none
number_quiet : (objects : Objects) (w : Write) (ws : List Write) → AreNamed objects → IsFitting objects w → changes_names objects w ≡ false → IsNumberAfter (made w objects) ws → IsNumberAfter objects (w ∷ ws)
number_quiet objects w ws named fits quiet rest =
    let next = made w objects in
    let alike : AreAlike objects next = alike_quiet w objects quiet in
    let first : names_in next + takes objects w ≡ names_in objects + brings objects w = names_one w objects named fits in
    let added : sum_by (brings objects) ws ≡ sum_by (brings next) ws = same_sum (brings objects) (brings next) ws (brings_alike objects next alike) in
    let taken : sum_by (takes objects) ws ≡ sum_by (takes next) ws = same_sum (takes objects) (takes next) ws (takes_alike objects next alike) in
    let whole : names_in (after_writes (w ∷ ws) objects) ≡ names_in (after_writes ws next) = ap names_in (made_first w ws objects) in
    omega (arith, rest, first, added, taken, whole, sum_by-cons (brings objects) w ws, sum_by-cons (takes objects) w ws)

-- where the others change none
number_once : (objects : Objects) (w : Write) (ws : List Write) → AreNamed objects → AllByRecursion (IsFitting objects) (w ∷ ws) → AreQuiet objects ws → AreQuiet (made w objects) ws → IsNumberAfter (made w objects) ws → IsNumberAfter objects (w ∷ ws)
number_once objects w ws named fits quiet later rest =
    let next = made w objects in
    let first : names_in next + takes objects w ≡ names_in objects + brings objects w = names_one w objects named fits.0 in
    let none = sums_quiet objects ws fits.1 quiet in
    let still = sums_quiet next ws (fitting_quiet objects next ws quiet fits.1) later in
    let whole : names_in (after_writes (w ∷ ws) objects) ≡ names_in (after_writes ws next) = ap names_in (made_first w ws objects) in
    omega (arith, rest, first, none.0, none.1, still.0, still.1, whole, sum_by-cons (brings objects) w ws, sum_by-cons (takes objects) w ws)

pub names_after_writes : (ws : List Write) (objects : Objects) → AreNamed objects → AllByRecursion (IsFitting objects) ws → IsDistinct same_id (map id_written ws) → length (filter (changes_names objects) ws) ≤ 1
    → names_in (after_writes ws objects) + sum_by (takes objects) ws ≡ names_in objects + sum_by (brings objects) ws
names_after_writes [] objects named fits distinct naming = refl
names_after_writes (w ∷ ws) objects named fits distinct naming =
    let next = made w objects in
    let then_named = named_made w objects named fits.0 in
    let tail = IsDistinct-tail same_id (id_written w) (map id_written ws) distinct in
    elim (changes_names objects w) as (λ b. changes_names objects w ≡ b → length (cond b (w ∷ filter (changes_names objects) ws) (filter (changes_names objects) ws)) ≤ 1 → IsNumberAfter objects (w ∷ ws)) [
      | true ↦ λ e most.
          let none : length (filter (changes_names objects) ws) ≡ 0 = let h : suc (length (filter (changes_names objects) ws)) ≤ 1 = most in omega (arith, h) in
          let quiet = quiet_by_length objects ws none in
          let later = all_beside w ws objects (IsDistinct-head same_id (id_written w) (map id_written ws) distinct) quiet in
          number_once objects w ws named fits quiet later (names_after_writes ws next then_named (fitting_quiet objects next ws quiet fits.1) tail (omega (arith, length_by_quiet next ws later)))
      | false ↦ λ e most.
          let alike : AreAlike objects next = alike_quiet w objects e in
          let same : length (filter (changes_names objects) ws) ≡ length (filter (changes_names next) ws) = ap length (same_filter (changes_names objects) (changes_names next) ws (changes_alike objects next alike)) in
          number_quiet objects w ws named fits.0 e (names_after_writes ws next then_named (fitting_alike objects next alike ws fits.1) tail (let h : length (filter (changes_names next) ws) ≤ 1 = omega (arith, same, most) in h))
    ] refl naming

-- what a put adds, by the object that is there
pub brings_found : (x : Object) (objects : Objects) → IsHomed x → brings objects (Put x) ≡ (if gives_name x.id.kind && is_none (object_at objects x.id) then one_unless (is_named objects x.id.name) else 0)
brings_found x objects home = by (changes_names objects (Put x)) refl
  where
    by : (b : Bool) → changes_names objects (Put x) ≡ b → brings objects (Put x) ≡ (if b then one_unless (is_named objects x.id.name) else 0)
    by true changes = ap (λ b. if b then one_unless (is_named objects x.id.name) else 0) (and_parts (gives_name x.id.kind) (is_none (object_at objects x.id)) changes).0
    by false quiet = brings_quiet objects (Put x) home quiet
