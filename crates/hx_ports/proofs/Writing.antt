-- What is written of some bytes, write by write.
use Rattle.std.proofs.Common.{◌≡◌, ℕ, List, [], ◌++◌, None, Some, Ok, Err, sym, ap, ◌∙◌, append_assoc, append-nil}
use Rattle.std.specs.Prelude.{OnErr}
use Rattle.std.specs.declared.option.Option.{Option}
use Rattle.std.specs.declared.result.Result.{Result}
use Rattle.std.specs.Io.KnownBytes.{Appends, Keeps}
use Rattle.hx_ports.specs.Causes.{IsStall}
use Rattle.hx_ports.specs.Pieces.{IsCalm}
use Rattle.hx_ports.specs.Views.{SinkView}

-- nothing was written
pub Appends-nil : (a : Option (List ℕ)) → Appends a a []
Appends-nil None = tt
Appends-nil (Some x) = sym (append-nil x)

-- some bytes, and then others
pub Appends-trans : (a b c : Option (List ℕ)) (bs cs : List ℕ) → Appends a b bs → Appends b c cs → Appends a c (bs ++ cs)
Appends-trans None b c bs cs p q = tt
Appends-trans (Some x) None c bs cs p q = absurd p
Appends-trans (Some x) (Some y) None bs cs p q = absurd q
Appends-trans (Some x) (Some y) (Some z) bs cs p q = q ∙ ap (λ l. l ++ cs) p ∙ append_assoc x bs cs

-- some bytes, and then none
pub Appends-kept : (a b c : Option (List ℕ)) (bs : List ℕ) → Appends a b bs → Keeps b c → Appends a c bs
Appends-kept None b c bs p q = tt
Appends-kept (Some x) None c bs p q = absurd p
Appends-kept (Some x) (Some y) None bs p q = absurd q
Appends-kept (Some x) (Some y) (Some z) bs p q = q ∙ p

pub Keeps-from_none : (b c : Option (List ℕ)) → Appends b c [] → Keeps b c
Keeps-from_none None c p = tt
Keeps-from_none (Some x) None p = absurd p
Keeps-from_none (Some x) (Some y) p = p ∙ append-nil x

-- a write that takes something doesn't stall
pub not_stall : {E : Type 0} (n : ℕ) (bytes : List ℕ) → (n ≡ 0 → ⊥) → IsStall {E = E} (Ok n) bytes → ⊥
not_stall n bytes some (none, given) = some cc

-- calls that counted nothing
pub calm_on : (a b c : SinkView) → IsCalm a b → IsCalm b c → IsCalm a c
calm_on a b c p q = record { faults = q.faults ∙ p.faults; stalls = q.stalls ∙ p.stalls }

-- what holds however a call ends
pub on_err_all : {T E P : Type 0} (r : Result T E) → P → OnErr r P
on_err_all (Ok x) p = tt
on_err_all (Err e) p = p
