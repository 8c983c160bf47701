-- The numbers of what is limited, write by write.
--     stored_found     what is found is stored
--     agrees_seen      the agreement of what is inside, as it is seen
--     agrees_named     objects with which indexes agree have names that can be counted
--     small_legal      a legal object isn't too large
--     is_part          the numbers have those of what is found
--     valid_agrees     objects with which indexes agree are valid, with a window of their run
--     counted          the numbers after a write
use Rattle.std.proofs.Common.{◌≡◌, ◌≤◌, ◌+◌, ℕ, Bool, true, false, not, nat_lt, List, [], ◌∷◌, None, Some, Option, refl, ap, subst, arith, sum_by, ltb-false, length}
use Rattle.std.specs.Prelude.{if◌then◌else◌}
use Rattle.std.specs.List.{AllByRecursion}
use Rattle.hx_object.specs.Faults.{IsLegal, object_fault, has_legal_names, has_legal_labels, most_labels}
use Rattle.hx_object.specs.Sizes.{size_of, greatest_size, counted as counted_labels}
use Rattle.hx_object.specs.declared.object.Id.{Id}
use Rattle.hx_object.specs.declared.object.Object.{Object}
use Rattle.hx_object.specs.declared.object.ObjectFault.{ObjectFault}
use Rattle.hx_object.specs.declared.object.ObjectFault.TheVariants.{BadName, BadLabel, TooManyLabels, TooLarge}
use Rattle.hx_model.specs.Forest.{Forest}
use Rattle.hx_model.specs.Limits.{part_of, counted_one, counted_size, names_in, objects_in, bytes_in}
use Rattle.hx_model.specs.Serving.{IsServed}
use Rattle.hx_model.specs.State.{State, Objects, object_at, ascends, after_writes}
use Rattle.hx_model.specs.Valid.{IsStored, IsRecent, IsValid}
use Rattle.hx_model.specs.Windows.{WindowView, opened}
use Rattle.hx_model.specs.declared.config.RunConfig.{RunConfig}
use Rattle.hx_model.specs.declared.key.Write.{Write}
use Rattle.hx_model.specs.declared.key.Write.TheVariants.{Put, Cut}
use Rattle.hx_model.proofs.Naming.{AreNamed, named_valid}
use Rattle.hx_model.proofs.Objects.{sum-put, sum-cut}
use Rattle.hx_model.proofs.Storing.{All-found}
use Rattle.hx_store.specs.Changes.{id_of, object_of}
use Rattle.hx_state.specs.Counting.{Counts, IsPart, counts_of, come, gone}
use Rattle.hx_state.specs.StateView.{StateView, Agrees, state_in}
use Rattle.hx_state.specs.declared.limits.LimitCounts.{LimitCounts}
use Rattle.hx_state.specs.declared.names.NameChange.{NameChange}
use Rattle.hx_state.proofs.Telling.{recent_opened}

-- ---- stored objects

pub all_served : (last : ℕ) (objects : Objects) → AllByRecursion (IsStored last) objects → AllByRecursion IsServed objects
all_served last [] all = tt
all_served last (x ∷ objects) all = (all.0.served, all_served last objects all.1)

pub valid_served : (s : State) → IsValid s → AllByRecursion IsServed s.objects
valid_served s valid = all_served s.last s.objects valid.stored

module _ (config : RunConfig) (objects : Objects) (last : ℕ) (counts : LimitCounts) (nodes owners : Forest) (agrees : Agrees config objects last counts nodes owners) where
  pub stored_found : (id : Id) (x : Object) → object_at objects id ≡ Some x → IsStored last x
  stored_found id x e = All-found (IsStored last) id x objects agrees.stored e

  pub agrees_served : AllByRecursion IsServed objects
  agrees_served = all_served last objects agrees.stored

  -- objects with which indexes agree are valid, with a window of their run
  pub valid_agrees : (window : WindowView) → IsRecent last window → IsValid (state_in config objects last window)
  valid_agrees window recent = record { in_order = agrees.in_order; stored = agrees.stored; housed = agrees.housed; fits = agrees.fits; recent = recent }

  pub agrees_named : AreNamed objects
  agrees_named = named_valid _ (valid_agrees (opened last) (recent_opened last))

-- the agreement of what is inside, as it is seen
pub agrees_seen : {config : RunConfig} {objects : Objects} {last : ℕ} {window : WindowView} {staged : List Write} {counts : LimitCounts} {nodes owners : Forest} {seen : StateView} → record { state = state_in config objects last window; staged = staged } ≡ seen → Agrees config objects last counts nodes owners
    → Agrees seen.state.config seen.state.objects seen.state.last counts nodes owners
agrees_seen {counts = counts} {nodes = nodes} {owners = owners} same agrees = subst (λ (v : StateView). Agrees v.state.config v.state.objects v.state.last counts nodes owners) same agrees

-- ---- sizes

last_test : (a b c d : Bool) (e f g h : ObjectFault) → (if a then Some e else (if b then Some f else (if c then Some g else (if d then Some h else None)))) ≡ None → d ≡ false
last_test true b c d e f g h is = absurd (let j : Some e ≡ None = is in cc)
last_test false true c d e f g h is = absurd (let j : Some f ≡ None = is in cc)
last_test false false true d e f g h is = absurd (let j : Some g ≡ None = is in cc)
last_test false false false true e f g h is = absurd (let j : Some h ≡ None = is in cc)
last_test false false false false e f g h is = refl

small_sound : (x : Object) → object_fault x ≡ None → size_of x ≤ greatest_size
unfolding object_fault
small_sound x e = ltb-false _ _ (last_test (not (has_legal_names x.id)) (not (has_legal_labels x)) (nat_lt most_labels (length (counted_labels x.labels))) (nat_lt greatest_size (size_of x)) BadName BadLabel TooManyLabels TooLarge e)

pub small_legal : (x : Object) → IsLegal x → size_of x ≤ greatest_size
small_legal x legal = small_sound x legal.sound

-- ---- numbers

part_fits : (f : Object → ℕ) (id : Id) (objects : Objects) → ascends objects ≡ true → part_of f (object_at objects id) ≤ sum_by f objects
part_fits f id objects h = omega (arith, sum-cut f id objects h)

pub is_part : (objects : Objects) (counts : LimitCounts) (id : Id) (found : Option Object) → ascends objects ≡ true → counts ≡ counts_of objects → object_at objects id ≡ found → IsPart found counts
is_part objects counts id found up numbers e =
    subst (λ (o : Option Object). IsPart o counts) e (record {
      objects = omega (arith, part_fits counted_one id objects up, ap (λ (c : LimitCounts). c.objects) numbers);
      bytes = omega (arith, part_fits counted_size id objects up, ap (λ (c : LimitCounts). c.bytes) numbers);
    })

-- a sum after a write
sum-write : (f : Object → ℕ) (w : Write) (objects : Objects) → ascends objects ≡ true → sum_by f (after_writes (w ∷ []) objects) + part_of f (object_at objects (id_of w)) ≡ sum_by f objects + part_of f (object_of w)
sum-write f (Put x) objects up = sum-put f x objects up
sum-write f (Cut id) objects up = omega (arith, sum-cut f id objects up)

-- the numbers after a write
pub counted : (w : Write) (objects : Objects) (name : NameChange) (before after : LimitCounts) → ascends objects ≡ true → before ≡ counts_of objects
    → names_in (after_writes (w ∷ []) objects) + gone name ≡ names_in objects + come name → Counts (object_at objects (id_of w)) (object_of w) name before after → after ≡ counts_of (after_writes (w ∷ []) objects)
counted w objects name before after up numbers named moves =
    let names' : after.names ≡ names_in (after_writes (w ∷ []) objects) = omega (arith, named, moves.names, ap (λ (c : LimitCounts). c.names) numbers) in
    let objects' : after.objects ≡ objects_in (after_writes (w ∷ []) objects) = omega (arith, sum-write counted_one w objects up, moves.objects, ap (λ (c : LimitCounts). c.objects) numbers) in
    let bytes' : after.bytes ≡ bytes_in (after_writes (w ∷ []) objects) = omega (arith, sum-write counted_size w objects up, moves.bytes, ap (λ (c : LimitCounts). c.bytes) numbers) in
    λ i. record { names = names' i; objects = objects' i; bytes = bytes' i }
