-- What serves the code alone: what lines name, why a line orders nothing, and lines in pieces.
--     key_by named               the key of texts that lie in a line
--     IsServedOrder order        a request that a cluster takes, or an order of a worker that isn't worker 0
--     IsUnread reading unread    why nothing is ordered
--     texts_of pieces            pieces of a text, one behind the other
--     pieced_line head text      a line, by the pieces of its head and of its text
--     IsIdle c                   worker 0, which lines don't name, holds nothing
use Rattle.std.specs.Prelude.{◌≡◌, ◌<◌, ◌⊎◌, ℕ, List, ◌++◌, codes, flat_map, Some, None, Ok, Err}
use Rattle.std.specs.declared.result.Result.{Result}
use Rattle.std.specs.Borrow.{Bor}
use Rattle.hx_model.specs.Hands.{hand_of}
use Rattle.hx_model.specs.Serving.{IsServedAsk}
use Rattle.hx_model.specs.declared.key.Key.{Key}
use Rattle.hx_model.specs.declared.key.Key.TheVariants as key
use Rattle.hx_model.specs.declared.refusal.Refusal.{Refusal}
use Rattle.hx_model.specs.declared.refusal.Refusal.TheVariants.{NoMemory}
use Rattle.hx_core.specs.Refinement.{ClusterView}
use Rattle.hx_script.specs.declared.line.Unread.{Unread}
use Rattle.hx_script.specs.declared.line.Unread.TheVariants as unread
use Rattle.hx_script.specs.declared.order.Order.{Order}
use Rattle.hx_script.specs.declared.order.Order.TheVariants as order
use Rattle.hx_script.specs.declared.worker.NamedKey.{NamedKey}
use Rattle.hx_script.specs.declared.worker.NamedKey.TheVariants as named

-- ---- what is read

-- the key of texts that lie in a line
abbrev pub key_by : NamedKey → Key
key_by (named.Copy n kind name) = key.Copy n.now kind name.now
key_by (named.Tree n) = key.Tree n.now
key_by (named.Report n) = key.Report n.now
key_by (named.Child n name) = key.Child n.now name.now
key_by (named.Anchor n name) = key.Anchor n.now name.now
key_by (named.Used n name) = key.Used n.now name.now
key_by (named.Purge n) = key.Purge n.now

-- a request that a cluster takes, or an order of a worker that isn't worker 0
abbrev pub IsServedOrder : Order → Type 0
IsServedOrder (order.Ask ask) = IsServedAsk ask
IsServedOrder (order.Take worker wanted) = 0 < worker
IsServedOrder (order.Finish worker) = 0 < worker
IsServedOrder (order.Drop worker) = 0 < worker
IsServedOrder (order.Settle turns) = Unit {0}
IsServedOrder order.Check = Unit {0}

-- a reading whose line may be answered as for want of memory
abbrev pub MayBeLost : Result Order Refusal → Type 0
MayBeLost (Ok (order.Ask ask)) = Unit {0}
MayBeLost (Ok _) = ⊥
MayBeLost (Err refusal) = Unit {0}

-- why nothing is ordered: the line is refused, or memory is wanting for it. Where it is wanting for a key that a worker takes, the take is lost
abbrev pub IsUnread : Result Order Refusal → Unread → Type 0
IsUnread reading (unread.Refused refusal) = ((refusal ≡ NoMemory) × MayBeLost reading) ⊎ (reading ≡ Err refusal)
IsUnread reading (unread.LostTake worker) = (k : Key) × (reading ≡ Ok (order.Take worker (Some k)))

-- ---- what is written

-- pieces of a text, one behind the other
abbrev pub texts_of : List (Bor (List ℕ)) → List ℕ
texts_of pieces = flat_map (λ (piece : Bor (List ℕ)). piece.now) pieces

-- a line, by the pieces of its head and of its text
abbrev pub pieced_line : List (Bor (List ℕ)) → List (Bor (List ℕ)) → List ℕ
pieced_line head text = texts_of head ++ (texts_of text ++ codes "\n")

-- ---- what is kept

-- worker 0, which settles, holds nothing
abbrev pub IsIdle : ClusterView → Type 0
IsIdle c = hand_of 0 c.workers.hands ≡ None
