-- States that came of earlier ones.
--     since_itself, since_after      a state, and that after writes
--     taken_after                    what is held was taken in an earlier state, also after writes that put nothing new into a namespace that is on its way out
use Rattle.std.proofs.Common.{◌≡◌, ◌≤◌, ◌+◌, ℕ, true, false, Bool, cond, not, ◌&&◌, List, [], ◌∷◌, Option, Some, None, refl, sym, ap, ◌∙◌, inl, inr, arith, true≢false}
use Rattle.std.specs.Prelude.{◌⊎◌, find, is_some}
use Rattle.std.specs.List.{AllByRecursion}
use Rattle.std.specs.Str.{bytes_eq}
use Rattle.hx_object.specs.Kinds.{is_in_cluster}
use Rattle.hx_object.specs.declared.object.Id.{Id}
use Rattle.hx_object.specs.declared.object.Object.{Object}
use Rattle.hx_model.specs.Hands.{Hand}
use Rattle.hx_model.specs.State.{State, Objects, object_at, put, cut, same_id, after_writes, least_in, lies_in, namespace_id, state_after}
use Rattle.hx_model.specs.Tree.{is_terminating}
use Rattle.hx_model.specs.Writes.{MayWrite, MayWriteAll}
use Rattle.hx_model.specs.declared.key.Write.{Write}
use Rattle.hx_model.specs.declared.key.Write.TheVariants.{Put, Cut}
use Rattle.hx_model.proofs.Climbing.{is_same}
use Rattle.hx_model.proofs.Objects.{found_id, object_at-put, object_at-cut}
use Rattle.hx_model.proofs.Storing.{All-put, All-cut, All-found}
use Rattle.hx_core.specs.Committing.{StaysOut}
use Rattle.hx_core.specs.Turns.{IsSince, IsOf}

-- what is there after writes was there before, or has the next version
found_after : (s : State) (ws : List Write) (objects : Objects) (id : Id) (x : Object) → AllByRecursion (MayWrite s) ws → object_at (after_writes ws objects) id ≡ Some x → (object_at objects id ≡ Some x) ⊎ (x.version ≡ s.last + 1)
found_after s [] objects id x may e = inl e
found_after s (Put y ∷ ws) objects id x may e = elim (found_after s ws (put y objects) id x may.1 e) [
  | inr new ↦ inr new
  | inl there ↦ by (same_id id y.id) (sym (object_at-put y objects id) ∙ there)
]
  where
    by : (b : Bool) → cond b (Some y) (object_at objects id) ≡ Some x → (object_at objects id ≡ Some x) ⊎ (x.version ≡ s.last + 1)
    by true is = let same : y ≡ x = cc in inr (ap (λ (z : Object). z.version) (sym same) ∙ may.0.next)
    by false is = inl is
found_after s (Cut other ∷ ws) objects id x may e = elim (found_after s ws (cut other objects) id x may.1 e) [
  | inr new ↦ inr new
  | inl there ↦ by (same_id id other) (sym (object_at-cut other objects id) ∙ there)
]
  where
    by : (b : Bool) → cond b None (object_at objects id) ≡ Some x → (object_at objects id ≡ Some x) ⊎ (x.version ≡ s.last + 1)
    by true is = absurd (true≢false (sym (ap is_some is)))
    by false is = inl is

pub since_itself : (s : State) → IsSince s s
since_itself s = record { later = omega arith; same = λ _. refl; config = refl; kept = λ id x e known. e; shut = λ n x e known ends none. none }

-- ---- what stays empty

none_found : (p : Object → Bool) (objects : Objects) → find p objects ≡ None → AllByRecursion (λ (x : Object). p x ≡ false) objects
none_found p [] none = tt
none_found p (x ∷ objects) none =
    elim (p x) as (λ b. p x ≡ b → cond b (Some x) (find p objects) ≡ None → AllByRecursion (λ (y : Object). p y ≡ false) (x ∷ objects)) [
      | true ↦ λ _ found. absurd (true≢false (ap is_some found))
      | false ↦ λ is rest. (is, none_found p objects rest)
    ] refl none

found_none : (p : Object → Bool) (objects : Objects) → AllByRecursion (λ (x : Object). p x ≡ false) objects → find p objects ≡ None
found_none p [] all = refl
found_none p (x ∷ objects) all = ap (λ b. cond b (Some x) (find p objects)) all.0 ∙ found_none p objects all.1

-- nothing new lies in a namespace that is on its way out
lies_nowhere : (s : State) (n : List ℕ) (home x : Object) → StaysOut s (Put x) → object_at s.objects (namespace_id n) ≡ Some home → is_terminating home.payload ≡ true → least_in s.objects n ≡ None → lies_in n x.id ≡ false
lies_nowhere s n home x out at ends none = by (is_in_cluster x.id.kind) (bytes_eq n x.id.ns) refl refl
  where
    by : (b c : Bool) → is_in_cluster x.id.kind ≡ b → bytes_eq n x.id.ns ≡ c → (not b && c) ≡ false
    by true c inside e = refl
    by false false inside e = refl
    by false true inside e = absurd (here (object_at s.objects x.id) refl (out home inside (ap (λ m. object_at s.objects (namespace_id m)) (sym (is_same n x.id.ns e)) ∙ at) ends))
      where
        here : (o : Option Object) → object_at s.objects x.id ≡ o → is_some o ≡ true → ⊥
        here None is some = true≢false (sym some)
        here (Some y) is some =
            let apart : lies_in n y.id ≡ false = All-found (λ (z : Object). lies_in n z.id ≡ false) x.id y s.objects (none_found (λ (z : Object). lies_in n z.id) s.objects none) is in
            true≢false (sym (λ i. not (inside i) && e i) ∙ ap (lies_in n) (found_id s.objects x.id y is) ∙ apart)

still_empty : (s : State) (n : List ℕ) (home : Object) (ws : List Write) (objects : Objects) → object_at s.objects (namespace_id n) ≡ Some home → is_terminating home.payload ≡ true → least_in s.objects n ≡ None
    → AllByRecursion (StaysOut s) ws → AllByRecursion (λ (x : Object). lies_in n x.id ≡ false) objects → AllByRecursion (λ (x : Object). lies_in n x.id ≡ false) (after_writes ws objects)
still_empty s n home [] objects at ends none out all = all
still_empty s n home (Put x ∷ ws) objects at ends none out all =
    still_empty s n home ws (put x objects) at ends none out.1 (All-put (λ (y : Object). lies_in n y.id ≡ false) x objects (lies_nowhere s n home x out.0 at ends none) all)
still_empty s n home (Cut id ∷ ws) objects at ends none out all = still_empty s n home ws (cut id objects) at ends none out.1 (All-cut (λ (y : Object). lies_in n y.id ≡ false) id objects all)

-- ---- after writes

pub since_after : (old s : State) (ws : List Write) → MayWriteAll s ws → AllByRecursion (StaysOut s) ws → IsSince old s → IsSince old (state_after s ws)
since_after old s [] may out since = since
since_after old s (w ∷ ws) may out since = record {
  later = omega (arith, since.later);
  same = λ e. absurd (past e);
  config = since.config;
  kept = λ id x e known. elim (found_after s (w ∷ ws) s.objects id x may.each e) [
    | inl there ↦ since.kept id x there known
    | inr new ↦ absurd (fresh x new known)
  ];
  shut = λ n x e known ends none. elim (found_after s (w ∷ ws) s.objects (namespace_id n) x may.each e) [
    | inl there ↦
        let empty : least_in s.objects n ≡ None = since.shut n x there known ends none in
        found_none (λ (y : Object). lies_in n y.id) (after_writes (w ∷ ws) s.objects) (still_empty s n x (w ∷ ws) s.objects there ends empty out (none_found (λ (y : Object). lies_in n y.id) s.objects empty))
    | inr new ↦ absurd (fresh x new known)
  ];
}
  where
    past : old.last ≡ s.last + 1 → ⊥
    past e = omega (arith, e, since.later)

    fresh : (x : Object) → x.version ≡ s.last + 1 → x.version ≤ old.last → ⊥
    fresh x new known = omega (arith, new, known, since.later)

of_after : (s : State) (ws : List Write) (hand : Hand) → MayWriteAll s ws → AllByRecursion (StaysOut s) ws → IsOf s hand → IsOf (state_after s ws) hand
of_after s ws hand may out of = record { then = of.then; valid = of.valid; since = since_after of.then s ws may out of.since; is = of.is; storable = of.storable }

pub taken_after : (s : State) (ws : List Write) (hands : List Hand) → MayWriteAll s ws → AllByRecursion (StaysOut s) ws → AllByRecursion (IsOf s) hands → AllByRecursion (IsOf (state_after s ws)) hands
taken_after s ws [] may out all = tt
taken_after s ws (h ∷ hands) may out all = (of_after s ws h may out all.0, taken_after s ws hands may out all.1)
