-- That no work is forgotten, from one state to the next.
--     HasItsGuards        a hand that has a write rests on the identities that its key and its write tell
--     guards_for          so do the guards of a key that wants a write
--     met_then            guards of a key's identities that are met stay so, where the key rests on the same versions
--     covered_next        each key that wants something waits, was marked again, or wants the same as before
--     fresh_met           the guards of a key are met in the state that they are of
--     taken_guards        the hand of a worker that takes a key rests on the identities of its key
use Rattle.std.proofs.Common.{◌≡◌, ◌≢◌, ℕ, Bool, true, false, ◌==◌, Option, Some, None, List, [], ◌∷◌, map, option_map, ◌⊎◌, inl, inr, refl, sym, ap, ◌∙◌, subst, eq-eqb}
use Rattle.std.specs.Prelude.{if◌then◌else◌}
use Rattle.std.specs.Cmp.{tied_itself}
use Rattle.std.specs.List.{AllByRecursion}
use Rattle.std.specs.Option.{option_eq}
use Rattle.std.proofs.lemmas.Bool.{and_parts, and_from}
use Rattle.hx_object.specs.declared.object.Id.{Id}
use Rattle.hx_object.specs.declared.object.Object.{Object}
use Rattle.hx_model.specs.Cases.{is_leaving}
use Rattle.hx_model.specs.Covered.{IsHeldWell, IsCovered, IsSameFor}
use Rattle.hx_model.specs.Hands.{Hand, hand_at, hand_of, is_met, are_met}
use Rattle.hx_model.specs.Keys.{is_among}
use Rattle.hx_model.specs.Propagation.{id_in}
use Rattle.hx_model.specs.State.{State, object_at, namespace_id, same_id, least_in}
use Rattle.hx_model.specs.Subnamespaces.{anchor_id}
use Rattle.hx_model.specs.Tree.{forest_of, hierarchy_id}
use Rattle.hx_model.specs.Wanted.{quota_id, wanted_write, guards_of, purge_guards, purge_write, least_id}
use Rattle.hx_model.specs.declared.key.Guard.{Guard}
use Rattle.hx_model.specs.declared.key.Key.{Key}
use Rattle.hx_model.specs.declared.key.Key.TheVariants as key
use Rattle.hx_model.specs.declared.key.Write.{Write}
use Rattle.hx_model.specs.declared.key.Write.TheVariants.{Cut}
use Rattle.hx_model.proofs.Objects.{id_total, same_from_Equal}
use Rattle.hx_marks.proofs.Frames.{least_lies, lies_apart}

-- ---- guards

abbrev pub ids_of : List Guard → List Id
ids_of guards = map (λ (g : Guard). g.id) guards

-- what a removal rests on: what goes, and its namespace
abbrev pub ids_gone : List ℕ → Option Write → List Id
ids_gone n (Some (Cut id)) = if same_id (namespace_id n) id then id ∷ [] else id ∷ namespace_id n ∷ []
ids_gone n _ = []

-- the identities that a key's write rests on
abbrev pub ids_for : Key → Option Write → List Id
ids_for (key.Copy n kind name) write = id_in kind name n ∷ namespace_id n ∷ []
ids_for (key.Tree n) write = namespace_id n ∷ []
ids_for (key.Report n) write = hierarchy_id n ∷ namespace_id n ∷ []
ids_for (key.Child n name) write = anchor_id n name ∷ namespace_id n ∷ namespace_id name ∷ []
ids_for (key.Anchor n name) write = anchor_id n name ∷ namespace_id n ∷ []
ids_for (key.Used n name) write = quota_id n name ∷ namespace_id n ∷ []
ids_for (key.Purge n) write = ids_gone n write

-- a hand that has a write rests on the identities that its key and the write tell
abbrev pub HasItsGuards : Hand → Type 0
HasItsGuards hand = hand.write ≢ None → ids_of hand.guards ≡ ids_for hand.key hand.write

-- so do all hands that are found
abbrev pub HaveTheirGuards : List Hand → Type 0
HaveTheirGuards hands = (hand : Hand) → hand_of hand.worker hands ≡ Some hand → HasItsGuards hand

same_itself : (id : Id) → same_id id id ≡ true
same_itself id = same_from_Equal id id (tied_itself id_total id)

abbrev id_found : Option Object → Option Id
id_found o = option_map (λ (x : Object). x.id) o

-- so do the guards of a key that wants a write
pub guards_for : (s : State) (k : Key) → wanted_write s k ≢ None → ids_of (guards_of s k) ≡ ids_for k (wanted_write s k)
guards_for s (key.Copy n kind name) wants = refl
guards_for s (key.Tree n) wants = refl
guards_for s (key.Report n) wants = refl
guards_for s (key.Child n name) wants = refl
guards_for s (key.Anchor n name) wants = refl
guards_for s (key.Used n name) wants = refl
guards_for s (key.Purge n) wants = by (least_in s.objects n) refl (is_leaving (forest_of s) n) refl
  where
    by : (o : Option Object) → least_in s.objects n ≡ o → (leaves : Bool) → is_leaving (forest_of s) n ≡ leaves → ids_of (guards_of s (key.Purge n)) ≡ ids_gone n (wanted_write s (key.Purge n))
    by o least false stays = absurd (wants (ap (λ b. purge_write b (least_id s n) n) stays))
    by None least true goes =
        ap (λ o. ids_of (purge_guards s (id_found o) n)) least
        ∙ sym (ap (λ b. if b then namespace_id n ∷ [] else namespace_id n ∷ namespace_id n ∷ []) (same_itself (namespace_id n)))
        ∙ sym (λ i. ids_gone n (purge_write (goes i) (id_found (least i)) n))
    by (Some x) least true goes =
        ap (λ o. ids_of (purge_guards s (id_found o) n)) least
        ∙ sym (ap (λ b. if b then x.id ∷ [] else x.id ∷ namespace_id n ∷ []) (lies_apart n n x.id (least_lies s.objects n x least)))
        ∙ sym (λ i. ids_gone n (purge_write (goes i) (id_found (least i)) n))

abbrev version_in : State → Id → Option ℕ
version_in s id = option_map (λ (x : Object). x.version) (object_at s.objects id)

-- each guard of a key has the version that is there
abbrev Tells : State → List Guard → Type 0
Tells s guards = AllByRecursion (λ (g : Guard). g.version ≡ version_in s g.id) guards

telling : (s : State) (k : Key) → Tells s (guards_of s k)
telling s (key.Copy n kind name) = (refl, (refl, tt))
telling s (key.Tree n) = (refl, tt)
telling s (key.Report n) = (refl, (refl, tt))
telling s (key.Child n name) = (refl, (refl, (refl, tt)))
telling s (key.Anchor n name) = (refl, (refl, tt))
telling s (key.Used n name) = (refl, (refl, tt))
telling s (key.Purge n) = by (least_id s n)
  where
    by : (o : Option Id) → Tells s (purge_guards s o n)
    by None = (refl, tt)
    by (Some id) = (refl, (refl, tt))

-- guards that tell of two states are of the same versions
both_told : (s t : State) (guards : List Guard) → Tells s guards → Tells t guards → AllByRecursion (λ id. version_in s id ≡ version_in t id) (ids_of guards)
both_told s t [] here there = tt
both_told s t (g ∷ guards) here there = (sym here.0 ∙ there.0, both_told s t guards here.1 there.1)

-- the same guards are of the same versions
same_versions : (s t : State) (k : Key) → guards_of s k ≡ guards_of t k → AllByRecursion (λ id. version_in s id ≡ version_in t id) (ids_of (guards_of s k))
same_versions s t k e = both_told s t (guards_of s k) (telling s k) (subst (Tells t) (sym e) (telling t k))

carried : (s t : State) (guards : List Guard) → AllByRecursion (λ id. version_in s id ≡ version_in t id) (ids_of guards) → are_met s guards ≡ true → are_met t guards ≡ true
carried s t [] same met = refl
carried s t (g ∷ guards) same met =
    let parts = and_parts (is_met s g) (are_met s guards) met in
    and_from (is_met t g) (are_met t guards) (ap (λ o. option_eq (λ a b. a == b) o g.version) (sym same.0) ∙ parts.0) (carried s t guards same.1 parts.1)

-- guards of a key's identities that are met stay so, where the hand's write is wanted
pub met_then : (s t : State) (hand : Hand) → HasItsGuards hand → hand.write ≡ wanted_write s hand.key → wanted_write s hand.key ≢ None → guards_of s hand.key ≡ guards_of t hand.key → are_met s hand.guards ≡ true → are_met t hand.guards ≡ true
met_then s t hand its wanted wants same met =
    let ids : ids_of hand.guards ≡ ids_of (guards_of s hand.key) = its (λ none. wants (sym wanted ∙ none)) ∙ ap (ids_for hand.key) wanted ∙ sym (guards_for s hand.key wants) in
    carried s t hand.guards (subst (AllByRecursion (λ id. version_in s id ≡ version_in t id)) (sym ids) (same_versions s t hand.key same)) met

-- ---- hands

-- a key that wants the same is held as well as before
pub held_then : (s t : State) (hands : List Hand) (k : Key) → HaveTheirGuards hands → IsSameFor s t k → wanted_write s k ≢ None → IsHeldWell s hands k → IsHeldWell t hands k
held_then s t hands k all same wants (hand, at, is, fresh) =
    let here : IsSameFor s t hand.key = subst (IsSameFor s t) (sym is) same in
    let wants_here : wanted_write s hand.key ≢ None = subst (λ (q : Key). wanted_write s q ≢ None) (sym is) wants in
    (hand, at, is, record { wanted = fresh.wanted ∙ here.0; met = met_then s t hand (all hand at) fresh.wanted wants_here (here.1 wants_here) fresh.met })

-- each key that wants something then waits, was marked again, or wants the same as before
pub covered_next : (s t : State) (hands : List Hand) (waiting again new_waiting new_again : List Key) → HaveTheirGuards hands
    → ((k : Key) → is_among k waiting ≡ true → is_among k new_waiting ≡ true) → ((k : Key) → is_among k again ≡ true → is_among k new_again ≡ true)
    → ((k : Key) → wanted_write t k ≢ None → IsSameFor s t k ⊎ (is_among k new_waiting ≡ true) ⊎ (is_among k new_again ≡ true))
    → IsCovered s hands waiting again → IsCovered t hands new_waiting new_again
covered_next s t hands waiting again new_waiting new_again all wait_on mark_on each covered k wants = elim (each k wants) [
  | inr (inl waits) ↦ inl waits
  | inr (inr marked) ↦ inr (inl marked)
  | inl same ↦
      let wanted : wanted_write s k ≢ None = λ none. wants (sym same.0 ∙ none) in
      elim (covered k wanted) [
        | inl waits ↦ inl (wait_on k waits)
        | inr (inl marked) ↦ inr (inl (mark_on k marked))
        | inr (inr held) ↦ inr (inr (held_then s t hands k all same wanted held))
      ]
]

-- ---- a key that is taken

met_itself : (o : Option ℕ) → option_eq (λ a b. a == b) o o ≡ true
met_itself None = refl
met_itself (Some version) = eq-eqb version version refl

all_met : (s : State) (guards : List Guard) → Tells s guards → are_met s guards ≡ true
all_met s [] told = refl
all_met s (g ∷ guards) told = and_from (is_met s g) (are_met s guards) (ap (λ o. option_eq (λ a b. a == b) (version_in s g.id) o) told.0 ∙ met_itself (version_in s g.id)) (all_met s guards told.1)

-- the guards of a key are met in the state that they are of
pub fresh_met : (s : State) (k : Key) → are_met s (guards_of s k) ≡ true
fresh_met s k = all_met s (guards_of s k) (telling s k)

-- the hand of a worker that takes a key rests on the identities of its key
pub taken_guards : (s : State) (worker : ℕ) (k : Key) → HasItsGuards (hand_at s worker k)
taken_guards s worker k wants = guards_for s k wants
