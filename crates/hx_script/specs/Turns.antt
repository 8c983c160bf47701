-- The lines of workers' turns.
--     key_words       a key as it is written in a line
--     turn_line       the line of a worker's entry
--     settle_lines    the lines of a settle: two for each turn, and its end
use Rattle.std.specs.Prelude.{ℕ, false, List, [], ◌++◌, ◌==◌, ◌&&◌, codes, flat_map, Option, Some, None, if◌then◌else◌}
use Rattle.std.specs.Fmt.{decimal}
use Rattle.hx_object.specs.Kinds.{plural_of}
use Rattle.hx_model.specs.Machine.{Entry, Took, Idle, Already, HeldBy, LostTake, Finished, Dropped, Checked}
use Rattle.hx_model.specs.declared.key.Finish.{Finish}
use Rattle.hx_model.specs.declared.key.Finish.TheVariants as ending
use Rattle.hx_model.specs.declared.key.Key.{Key}
use Rattle.hx_model.specs.declared.key.Key.TheVariants as key
use Rattle.hx_core.specs.declared.turns.Settle.{Settle}
use Rattle.hx_core.specs.declared.turns.Settle.TheVariants as settled
use Rattle.hx_core.specs.declared.turns.Turned.{Turned}

-- ---- keys

-- words joined by single spaces
abbrev pub joined : List ℕ → List ℕ → List ℕ
joined word rest = word ++ (codes " " ++ rest)

unfoldable pub key_words : Key → List ℕ
key_words (key.Copy n kind name) = joined (codes "copy") (joined n (joined (plural_of kind) name))
key_words (key.Tree n) = joined (codes "tree") n
key_words (key.Report n) = joined (codes "report") n
key_words (key.Child n name) = joined (codes "child") (joined n name)
key_words (key.Anchor n name) = joined (codes "anchor") (joined n name)
key_words (key.Used n name) = joined (codes "used") (joined n name)
key_words (key.Purge n) = joined (codes "purge") n

-- ---- lines

-- WORD W: TEXT
abbrev pub worker_line : List ℕ → ℕ → List ℕ → List ℕ
worker_line word worker text = word ++ (codes " " ++ (decimal worker ++ (codes ": " ++ (text ++ codes "\n"))))

abbrev pub end_words : Finish → List ℕ
end_words ending.Empty = codes "empty"
end_words ending.Nothing = codes "nothing"
end_words (ending.Conflict seen now) = codes "conflict seen " ++ (decimal seen ++ (codes " now " ++ decimal now))
end_words ending.Spent = codes "spent"
end_words (ending.Written version) = codes "written " ++ decimal version
end_words ending.Fault = codes "fault"
end_words ending.NoMemory = codes "no memory"

abbrev pub dropped_words : Option Key → List ℕ
dropped_words None = codes "empty"
dropped_words (Some k) = codes "dropped " ++ key_words k

-- so many keys wait and are held
abbrev pub check_words : ℕ → ℕ → List ℕ
check_words waiting held = if (waiting == 0) && (held == 0) then codes "quiet" else codes "waiting " ++ (decimal waiting ++ (codes " held " ++ decimal held))

-- the line of a worker's entry, or of a check. The others are requests'
unfoldable pub turn_line : Entry → List ℕ
turn_line (Took worker k named) = worker_line (codes "take") worker (key_words k)
turn_line (Idle worker) = worker_line (codes "take") worker (codes "idle")
turn_line (Already worker k) = worker_line (codes "take") worker (codes "already " ++ key_words k)
turn_line (HeldBy worker k holder) = worker_line (codes "take") worker (codes "held by " ++ decimal holder)
turn_line (LostTake worker) = worker_line (codes "take") worker (codes "no memory")
turn_line (Finished worker end) = worker_line (codes "finish") worker (end_words end)
turn_line (Dropped worker k) = worker_line (codes "drop") worker (dropped_words k)
turn_line (Checked waiting held) = codes "check: " ++ (check_words waiting held ++ codes "\n")
turn_line _ = []

-- ---- settling

abbrev pub turned_lines : Turned → List ℕ
turned_lines turned = turn_line (Took 0 turned.key false) ++ turn_line (Finished 0 turned.end)

abbrev pub settled_words : Settle → List ℕ
settled_words settled.Settled = codes "settled"
settled_words (settled.Unsettled waiting held) = codes "unsettled " ++ (decimal waiting ++ (codes " " ++ decimal held))
settled_words settled.Spent = codes "spent"
settled_words settled.Fault = codes "fault"
settled_words settled.NoMemory = codes "no memory"

unfoldable pub settled_line : Settle → List ℕ
settled_line end = codes "settle: " ++ (settled_words end ++ codes "\n")

abbrev pub settle_lines : List Turned → Settle → List ℕ
settle_lines turns end = flat_map turned_lines turns ++ settled_line end
