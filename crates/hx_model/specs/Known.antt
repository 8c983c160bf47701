-- Which keys a run may speak of.
--     is_named_at e k            the line of a take gave the key
--     known_in known s k         a key is known in a state: it was before, or it is one of the state
--     known_behind known s e k   and behind an entry: it was in the state, or the entry's line gave it
--     KnowsWaiting known w n     so many keys wait, and each is known
--     SpeaksOf known w e         each key that an entry tells is known, but for one that its own line gives
--     SpeaksOfKeys known w es    so it is at each entry of a history
--     none_known k               no key is known
--     SpeaksOfKeysAlone          so it is of each history from a state that is valid, though at first no key is known
-- So each key that a worker takes by itself, and each that is counted as waiting, is a key of some state that the run had, or was given by the line of an earlier take.
use Rattle.std.specs.Prelude.{◌≡◌, ℕ, Bool, true, false, ◌&&◌, ◌||◌, List, [], ◌∷◌, length, IfSome}
use Rattle.std.specs.List.{AllByRecursion}
use Rattle.hx_model.specs.Keys.{same_key, is_key}
use Rattle.hx_model.specs.Machine.{World, Entry, Took, Already, HeldBy, Dropped, Checked, History, IsHistory, AreWaiting, opening_world, world_after}
use Rattle.hx_model.specs.State.{State}
use Rattle.hx_model.specs.Valid.{IsValid}
use Rattle.hx_model.specs.declared.key.Key.{Key}

-- ---- what is known

-- the line of a take gave the key
abbrev pub is_named_at : Entry → Key → Bool
is_named_at (Took worker own named) k = named && same_key k own
is_named_at _ k = false

-- what is known in a state: what was known before, and the keys of the state
abbrev pub known_in : (Key → Bool) → State → Key → Bool
known_in known s k = known k || is_key s k

-- what is known behind an entry: what was known in the state before it, and the key that its line gave
abbrev pub known_behind : (Key → Bool) → State → Entry → Key → Bool
known_behind known s e k = known_in known s k || is_named_at e k

-- ---- what is spoken of

-- so many keys wait, and each is known
abbrev pub KnowsWaiting : (Key → Bool) → World → ℕ → Type 0
KnowsWaiting known w waiting = (keys : List Key) × (length keys ≡ waiting) × AreWaiting w keys × AllByRecursion (λ k. known k ≡ true) keys

-- A key is known that a worker takes by itself, that it has already or that another worker holds, and that it drops. So are those that are counted as waiting
abbrev pub SpeaksOf : (Key → Bool) → World → Entry → Type 0
SpeaksOf known w (Took worker k named) = named ≡ false → known k ≡ true
SpeaksOf known w (Already worker k) = known k ≡ true
SpeaksOf known w (HeldBy worker k holder) = known k ≡ true
SpeaksOf known w (Dropped worker key) = IfSome key (λ k. known k ≡ true)
SpeaksOf known w (Checked waiting held) = KnowsWaiting known w waiting
SpeaksOf known w _ = Unit {0}

-- each entry speaks of what is known where it stands
abbrev pub SpeaksOfKeys : (Key → Bool) → World → History → Type 0
SpeaksOfKeys known w [] = Unit {0}
SpeaksOfKeys known w (e ∷ es) = SpeaksOf (known_in known w.state) w e × SpeaksOfKeys (known_behind known w.state e) (world_after w e) es

-- ---- the law

-- at first no key is known
abbrev pub none_known : Key → Bool
none_known k = false

abbrev pub SpeaksOfKeysAlone : Type 0
SpeaksOfKeysAlone = (broken : Bool) (s : State) (es : History) → IsValid s → IsHistory (opening_world broken s) es → SpeaksOfKeys none_known (opening_world broken s) es
