use Rattle.hx_sessions.specs.Held.{told_of}
use Rattle.hx_sessions.proofs.door.SharedDoor.accept.Given as goal

abbrev pub ghosts-leave_told : goal.ghosts-leave_told
ghosts-leave_told g a = record { told = told_of a.answer.now }
