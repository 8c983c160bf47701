-- Entries that change nothing, and entries one after the other.
--     Simulates-refused, Simulates-lost, Simulates-lost_take    a refused line, and what was lost for want of memory
--     Simulates-after               some entries after others, where the cluster stands for a world
use Rattle.std.proofs.Common.{ℕ, ◌∷◌, ◌++◌, [], refl}
use Rattle.hx_model.specs.declared.ask.Ask.{Ask}
use Rattle.hx_model.specs.declared.refusal.Refusal.{Refusal}
use Rattle.hx_model.specs.Machine.{Refused, LostRequest, LostTake, NoMemory, History}
use Rattle.hx_core.specs.Refinement.{ClusterView, HasWorld, Simulates}
pub use Rattle.hx_core.proofs.Simulating.{Simulates-none}
use Rattle.hx_core.proofs.Making.{enters_still}
use Rattle.hx_core.proofs.Simulating.{Simulates-then, HasWorld-after}

-- a refused line changes nothing
pub Simulates-refused : (c : ClusterView) (refusal : Refusal) → HasWorld c → Simulates c (Refused refusal ∷ []) c
Simulates-refused c refusal stood = enters_still c c (Refused refusal) stood refl refl (λ w stands. (tt, refl)) (λ w stands. refl)

-- want of memory changes nothing
pub Simulates-lost : (c : ClusterView) (ask : Ask) → HasWorld c → Simulates c (LostRequest ask NoMemory ∷ []) c
Simulates-lost c ask stood = enters_still c c (LostRequest ask NoMemory) stood refl refl (λ w stands. (tt, refl)) (λ w stands. refl)

-- nor does it where a key is taken
pub Simulates-lost_take : (c : ClusterView) (worker : ℕ) → HasWorld c → Simulates c (LostTake worker ∷ []) c
Simulates-lost_take c worker stood = enters_still c c (LostTake worker) stood refl refl (λ w stands. (tt, refl)) (λ w stands. refl)

-- the same where the first ones are known of a cluster that stands for a world
pub Simulates-after : (a b c : ClusterView) (h k : History) → (HasWorld a → Simulates a h b) → (HasWorld b → Simulates b k c) → HasWorld a → Simulates a (h ++ k) c
Simulates-after a b c h k p q stood = Simulates-then a b c h k (p stood) (q (HasWorld-after a b h (p stood)))
