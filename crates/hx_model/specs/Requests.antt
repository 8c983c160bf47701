-- The entry that a request and its answer are, for the contracts of code. An answer for want of memory or of a fault has no other cause: no refusal of the state is one of the two.
use Rattle.hx_model.specs.declared.ask.Ask.{Ask}
use Rattle.hx_model.specs.declared.ask.Answer.{Answer}
use Rattle.hx_model.specs.declared.ask.Answer.TheVariants.{Refused as Refusing}
use Rattle.hx_model.specs.declared.refusal.Refusal.TheVariants.{StoreFailed, NoMemory as NoRoom}
use Rattle.hx_model.specs.Machine.{Entry, Request, LostRequest, NoMemory, KeeperFault}

-- the entry that a request is, by its answer
abbrev pub request_entry : Ask → Answer → Entry
request_entry ask (Refusing NoRoom) = LostRequest ask NoMemory
request_entry ask (Refusing StoreFailed) = LostRequest ask KeeperFault
request_entry ask answer = Request ask answer
