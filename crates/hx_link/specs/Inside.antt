-- What serves the code alone.
--     OnFed, OnEnded, OnTold      what holds where a link goes on, where a reply ended it, and where so much was told
--     EndsBy                      the end of an input that leaves bytes
use Rattle.std.specs.Prelude.{◌≡◌, ◌≢◌, ◌⊎◌, ℕ, Bool, List, [], Ok, Err}
use Rattle.std.specs.declared.result.Result.{Result}
use Rattle.hx_link.specs.declared.feeding.Fed.{Fed}
use Rattle.hx_link.specs.declared.feeding.Fed.TheVariants.{On, Ended}
use Rattle.hx_link.specs.declared.link.LinkEnd.{LinkEnd}
use Rattle.hx_link.specs.declared.link.LinkEnd.TheVariants.{Closed, CutShort}

-- so many bytes were used, and the link goes on
abbrev pub OnFed : {E : Type 0} → Result Fed E → (ℕ → Type 0) → Type 0
OnFed (Ok (On at)) P = P at
OnFed (Ok Ended) P = Unit {0}
OnFed (Err e) P = Unit {0}

-- a reply ended the link
abbrev pub OnEnded : {E : Type 0} → Result Fed E → Type 0 → Type 0
OnEnded (Ok (On at)) P = Unit {0}
OnEnded (Ok Ended) P = P
OnEnded (Err e) P = Unit {0}

-- it was told whether the link goes on
abbrev pub OnTold : {E : Type 0} → Result Bool E → Bool → Type 0 → Type 0
OnTold (Ok told) wanted P = told ≡ wanted → P
OnTold (Err e) wanted P = Unit {0}

-- the end of an input that leaves bytes
abbrev pub EndsBy : List ℕ → LinkEnd → Type 0
EndsBy waiting end = ((waiting ≡ []) × (end ≡ Closed)) ⊎ ((waiting ≢ []) × (end ≡ CutShort))
