-- A settle as an order of a script makes it.
use Rattle.std.proofs.Common.{◌≡◌, ℕ, List, [], ◌∷◌, ◌++◌, None, Some, sym, ◌∙◌, inl, inr, length}
use Rattle.std.specs.Prelude.{◌≢◌}
use Rattle.std.specs.declared.option.Option.{Option}
use Rattle.std.proofs.lemmas.List.{nil_from_length}
use Rattle.hx_core.specs.Refinement.{ClusterView, Simulates}
use Rattle.hx_core.specs.Turns.{EndsBy as Ending, IsSettleEnd, end_entries, loss_of, turns_entries}
use Rattle.hx_core.specs.declared.turns.Settle.{Settle}
use Rattle.hx_core.specs.declared.turns.Settle.TheVariants as settled
use Rattle.hx_core.specs.declared.turns.Turned.{Turned}
use Rattle.hx_queue.specs.Workers.{WorkersView}
use Rattle.hx_script.specs.Exchanges.{EndsBy, Turns}
use Rattle.hx_serve.specs.Exchanges.{HasSettled}

-- what isn't empty isn't none
some_waits : {A : Type 0} (n : ℕ) (keys : List A) → n ≡ length keys → keys ≢ [] → n ≢ 0
some_waits n keys is some none = some (nil_from_length keys (sym is ∙ none))

none_waits : {A : Type 0} (n : ℕ) (keys : List A) → n ≡ length keys → keys ≡ [] → n ≡ 0
none_waits n [] is none = is
none_waits n (k ∷ keys) is none = absurd cc

-- how a settle ends, by the counts alone
ends : (loss : Option Settle) (most : ℕ) (turns : List Turned) (v : WorkersView) (end : Settle) → Ending loss most turns v end → EndsBy loss most turns end
ends (Some loss) most turns v end p = p
ends None most turns v settled.Settled p = tt
ends None most turns v (settled.Unsettled waiting held) (w, h, inl used) = inl (used.0, some_waits waiting v.waiting w used.1)
ends None most turns v (settled.Unsettled waiting held) (w, h, inr over) = inr (none_waits waiting v.waiting w over.0, some_waits held v.hands h over.1)
ends None most turns v settled.NoMemory p = tt
ends None most turns v settled.Spent p = p
ends None most turns v settled.Fault p = p

pub settles : (most : ℕ) (a b : ClusterView) (turns : List Turned) (end : Settle) → Simulates a (turns_entries turns ++ end_entries end) b → IsSettleEnd most turns b.workers end → HasSettled most a b
settles most a b turns end simulates is =
    record { made = Turns turns end; makes = record { few = is.few; whole = is.whole; ends = ends (loss_of turns) most turns b.workers end is.ends }; simulates = λ stood. simulates }
