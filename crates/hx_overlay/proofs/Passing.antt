-- A call that is passed on to a file, of which nothing was changed there.
use Rattle.std.proofs.Common.{◌≡◌, ◌⊎◌, ◌+◌, ◌<◌, ◌∙◌, ℕ, List, length, take, drop, Result, Ok, Err, OnOk, OnErr, is_ok, ap, sym, subst, arith, rules}
use Rattle.std.proofs.lemmas.Bool.{false≢true}
use Rattle.sqlite_disk.specs.Digest.{digest, Collide}
use Rattle.sqlite_disk.specs.Disk.{Holds, Torn, Cut, CountsFaultIf}
use Rattle.sqlite_disk.specs.Events.{overlaid, padded}
use Rattle.sqlite_disk.proofs.EventLemmas.{Holds-overlaid, Torn-overlaid, Cut-padded, length-padded}
use Rattle.hx_overlay.specs.Changes.{IsKeptBelow, changed_by}
use Rattle.hx_overlay.specs.declared.change.Change.{Change}
use Rattle.hx_overlay.proofs.ChangedBy.{range_kept, range_held}

-- what is read, where N says that no wrong answer was taken then, and O that none had been before
pub held_on : {T E : Type 0} {N O : Type 0} (S : Type 0) (r : Result T E) (file new bytes : List ℕ) (at : ℕ) → (N → O) → (O → IsKeptBelow (at + length bytes) file new) → OnOk r (N → S → Holds file at bytes) → OnOk r (N → S → Holds new at bytes)
held_on S (Ok x) file new bytes at before kept held = λ clean some. range_held at bytes file new (kept (before clean)) (held clean some)
held_on S (Err e) file new bytes at before kept held = tt

-- the same where nothing more is asked
pub tested_on : {T E : Type 0} {N O : Type 0} (r : Result T E) (file new bytes : List ℕ) (at : ℕ) → (N → O) → (O → IsKeptBelow (at + length bytes) file new) → OnOk r (N → Holds file at bytes) → OnOk r (N → Holds new at bytes)
tested_on (Ok x) file new bytes at before kept held = λ clean. range_held at bytes file new (kept (before clean)) (held clean)
tested_on (Err e) file new bytes at before kept held = tt

pub read_on : {T E : Type 0} (P N S : Type 0) (r : Result T E) → OnOk r (N → P) → OnOk r (N → S → P)
read_on P N S (Ok x) held = λ clean some. held clean
read_on P N S (Err e) held = tt

-- a fault of the file is one of both
pub counted_on : {T E P Q : Type 0} (r : Result T E) (old new own : ℕ) → (P → Q) → CountsFaultIf Q r old new → CountsFaultIf P r (old + own) (new + own)
counted_on (Ok x) old new own to counted = ap (λ n. n + own) counted
counted_on (Err e) old new own to counted = (λ p. let more = counted.0 (to p) in omega (arith, more, counted.1), omega (arith, counted.1))

-- what the file was to have, it has still
pub wanted_on : {O : Type 0} (key want at n : ℕ) (file new : List ℕ) → (O → IsKeptBelow (at + n) file new) → (O → want ≡ digest key (take n (drop at new))) → O → want ≡ digest key (take n (drop at file))
wanted_on key want at n file new kept is before = is before ∙ ap (digest key) (range_kept at n file new (kept before))

pub detected_on : {N : Type 0} (key at n : ℕ) (bytes file new : List ℕ) → IsKeptBelow (at + n) file new → N ⊎ Collide key bytes (take n (drop at file)) → N ⊎ Collide key bytes (take n (drop at new))
detected_on {N = N} key at n bytes file new kept = subst (λ part. N ⊎ Collide key bytes part) (sym (range_kept at n file new kept))

-- What a note of a change makes of a file, where one result says that another is `Ok`.
module _ {A B E F : Type 0} (r : Result A E) (file : List ℕ) where
  pub written_on : (outcome : Result B F) (at : ℕ) (bytes : List ℕ) (old new : List Change) → is_ok r ≡ is_ok outcome → OnOk outcome ((f : List ℕ) → changed_by new f ≡ overlaid (changed_by old f) at bytes) → OnOk r (0 < length bytes → Holds (changed_by new file) at bytes)
  written_on outcome at bytes old new same is = by r outcome same is
    where
      by : (r' : Result A E) (o : Result B F) → is_ok r' ≡ is_ok o → OnOk o ((f : List ℕ) → changed_by new f ≡ overlaid (changed_by old f) at bytes) → OnOk r' (0 < length bytes → Holds (changed_by new file) at bytes)
      by (Ok x) (Ok y) alike is = λ some. subst (λ new. Holds new at bytes) (sym (is file)) (Holds-overlaid (changed_by old file) at bytes)
      by (Ok x) (Err e) alike is = absurd (false≢true (sym alike))
      by (Err e) o alike is = tt

  pub length_on : (outcome : Result B F) (len : ℕ) (old new : List Change) → is_ok r ≡ is_ok outcome → OnOk outcome ((f : List ℕ) → changed_by new f ≡ padded (changed_by old f) len) → OnOk r (length (changed_by new file) ≡ len)
  length_on outcome len old new same is = by r outcome same is
    where
      by : (r' : Result A E) (o : Result B F) → is_ok r' ≡ is_ok o → OnOk o ((f : List ℕ) → changed_by new f ≡ padded (changed_by old f) len) → OnOk r' (length (changed_by new file) ≡ len)
      by (Ok x) (Ok y) alike is = ap (λ (new : List ℕ). length new) (is file) ∙ length-padded (changed_by old file) len
      by (Ok x) (Err e) alike is = absurd (false≢true (sym alike))
      by (Err e) o alike is = tt

pub torn_on : {B F : Type 0} (outcome : Result B F) (file : List ℕ) (at : ℕ) (bytes : List ℕ) (old new : List Change) → OnOk outcome ((f : List ℕ) → changed_by new f ≡ overlaid (changed_by old f) at bytes) → OnErr outcome (new ≡ old)
    → Torn at (length bytes) (changed_by old file) (changed_by new file)
torn_on (Ok y) file at bytes old new is same = subst (Torn at (length bytes) (changed_by old file)) (sym (is file)) (Torn-overlaid (changed_by old file) at bytes)
torn_on (Err e) file at bytes old new is same = subst (λ now. Torn at (length bytes) (changed_by old file) (changed_by now file)) (sym same) (search rules)

pub cut_on : {B F : Type 0} (outcome : Result B F) (file : List ℕ) (len : ℕ) (old new : List Change) → OnOk outcome ((f : List ℕ) → changed_by new f ≡ padded (changed_by old f) len) → OnErr outcome (new ≡ old) → Cut len (changed_by old file) (changed_by new file)
cut_on (Ok y) file len old new is same = subst (Cut len (changed_by old file)) (sym (is file)) (Cut-padded (changed_by old file) len)
cut_on (Err e) file len old new is same = subst (λ now. Cut len (changed_by old file) (changed_by now file)) (sym same) (search rules)
