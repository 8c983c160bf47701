-- What a watcher in memory shows beside what contracts see of every watcher.
--     Choice, choice_of      which events it refuses, and how many came
--     is_chosen, after_push  the next event is one to refuse;  that event came
use Rattle.std.specs.Prelude.{ℕ, Bool, ◌&&◌, nat_eq, nat_le, not}
use Rattle.hx_model.specs.Counts.{next_number}
use Rattle.hx_watch.specs.declared.mem.MemWatcher.{MemWatcher}

-- from which event on a watcher refuses, counted from 1, or 0 where it refuses none, and how many came
pub record Choice : Type 0 where
  pub refuse : ℕ
  pub pushes : ℕ

abbrev pub choice_of : MemWatcher → Choice
choice_of w = record { refuse = w.refuse; pushes = w.pushes }

-- the next event is one to refuse
abbrev pub is_chosen : Choice → Bool
is_chosen choice = not (nat_eq choice.refuse 0) && nat_le choice.refuse (next_number choice.pushes)

-- that event came
abbrev pub after_push : Choice → Choice
after_push choice = record choice { pushes = next_number choice.pushes }
