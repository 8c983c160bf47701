-- The rule of a lock, which each step keeps.
--     total f xs            f of each, added up
--     has_ticket, rights_of    1 for a pass with a ticket, and 0 for another;  its rights
--     Fits                  what is so of each pass
--     Kept                  the rule: what is so of the words, the slot and all passes
use Rattle.std.specs.Prelude.{◌≡◌, ℕ, ◌+◌, ◌%◌, ◌^◌, ◌<◌, ◌≤◌, true, false, List, [], ◌∷◌, Option, Some, is_some, if◌then◌else◌}
use mathlib.Core.Option.{some}
use mathlib.Core.List.{IsPrefix}
use lib.ListN.{get_elem?}
use Rattle.atomic_table.specs.Table.{State}
use Rattle.hx_turn.specs.declared.view.View.{View}
use Rattle.hx_turn.specs.Passes.{carrying, all_rights}

-- f of each, added up
abbrev pub total : {X : Type 0} → (X → ℕ) → List X → ℕ
total f [] = 0
total f (x ∷ xs) = f x + total f xs

module _ {E O : Type 0} where
  -- 1 for a pass with a ticket, and 0 for another
  abbrev pub has_ticket : View E O → ℕ
  has_ticket v = if is_some v.ticket then 1 else 0

  -- the rights of a pass
  abbrev pub rights_of : View E O → ℕ
  rights_of v = v.rights

  -- What is so of each pass: its ticket is yet to be served, or is served where it is inside, and then it has seen the whole history. It has a right where it has a ticket. What it has seen, and was told of, begins the history; its own entries are those that carry its number
  pub record Fits (o : O) (log : List (ℕ × E)) (tickets serving given : ℕ) (v : View E O) : Type 0 where
    pub waits : (t : ℕ) → v.ticket ≡ Some t → (serving ≤ t) × (t < tickets)
    pub served : v.inside ≡ true → (v.ticket ≡ Some serving) × (v.seen ≡ log)
    pub entitled : has_ticket v ≤ v.rights
    pub begins : IsPrefix v.seen log
    pub told : IsPrefix v.told log
    pub own : 0 < v.rights → carrying v.number log ≡ v.mine
    pub numbered : 0 < v.rights → v.number < given
    pub opened : 0 < v.rights → v.opening ≡ Some o
    pub gives : v.first ≡ true → v.given ≡ given

  module _ {T : Type 0} (stands : T → O → List (ℕ × E) → Type 0) where
    -- The rule: there is a history. The words count tickets and turns modulo 2 ^ 64, and there are as many tickets out as passes that have one. No ticket and no number is given twice, and one pass is the first. Where nobody is inside, a value lies in the slot that stands for the history; in any case one did when it got its last entry
    pub record Kept (o : O) (s : State (Option T) (View E O)) : Type 0 where
      pub log : List (ℕ × E)
      pub tickets : ℕ
      pub serving : ℕ
      pub given : ℕ
      pub words : s.words ≡ tickets % 2 ^ 64 ∷ serving % 2 ^ 64 ∷ []
      pub waiting : total has_ticket s.views + serving ≡ tickets
      pub rights : total rights_of s.views ≡ all_rights
      pub each : (i : ℕ) (v : View E O) → get_elem? s.views i ≡ some v → Fits o log tickets serving given v
      pub apart : (i j : ℕ) (v w : View E O) (t : ℕ) → get_elem? s.views i ≡ some v → get_elem? s.views j ≡ some w → v.ticket ≡ Some t → w.ticket ≡ Some t → i ≡ j
      pub named : (i j : ℕ) (v w : View E O) → get_elem? s.views i ≡ some v → get_elem? s.views j ≡ some w → 0 < v.rights → 0 < w.rights → v.number ≡ w.number → i ≡ j
      pub one : (i j : ℕ) (v w : View E O) → get_elem? s.views i ≡ some v → get_elem? s.views j ≡ some w → v.first ≡ true → w.first ≡ true → i ≡ j
      pub slot : ((i : ℕ) (v : View E O) → get_elem? s.views i ≡ some v → v.inside ≡ false) → (x : T) × (get_elem? s.homes 0 ≡ some (some (Some x))) × stands x o log
      pub unused : (n : ℕ) → given ≤ n → carrying n log ≡ []
      pub stood : (x : T) × stands x o log
