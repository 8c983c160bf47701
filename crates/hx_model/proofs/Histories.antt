-- Histories one after the other, and the entry that a request is.
use Rattle.std.proofs.Common.{◌≡◌, Some, Bool, true, false, [], ◌∷◌, ◌++◌, refl, ap, ◌∙◌}
use Rattle.std.specs.Prelude.{◌||◌}
use Rattle.hx_model.specs.declared.ask.Ask.{Ask}
use Rattle.hx_model.specs.declared.ask.Answer.{Answer}
use Rattle.hx_model.specs.declared.ask.Answer.TheVariants.{One, Many, Deleted, Document, Events, Refused as Refusing}
use Rattle.hx_model.specs.declared.refusal.Refusal.TheVariants.{BadLine, BadPath, BadQuery, NotJson, NotWhole, NotKind, OtherPlace, Broken, OverQuota, NoPath, NotFound, NoMethod, Exists, OtherVersion, Expired, TooLong, Missing, WrongType, NoQuantity, BadName, BadLabel, TooManyLabels, TooLarge, StoreFailed, NotServed, NoMemory as NoRoom}
use Rattle.hx_model.specs.Machine.{World, History, IsHistory, world_after, replay, loses_to_fault, is_lost_to_fault, answer_of}
use Rattle.hx_model.specs.Requests.{request_entry}

pub IsHistory-append : (w : World) (h k : History) → IsHistory w h → IsHistory (replay w h) k → IsHistory w (h ++ k)
IsHistory-append w [] k p q = q
IsHistory-append w (e ∷ h) k p q = (p.0, IsHistory-append (world_after w e) h k p.1 q)

pub replay-append : (w : World) (h k : History) → replay w (h ++ k) ≡ replay (replay w h) k
replay-append w [] k = refl
replay-append w (e ∷ h) k = replay-append (world_after w e) h k

or_assoc : (a b c : Bool) → (a || (b || c)) ≡ ((a || b) || c)
or_assoc true b c = refl
or_assoc false b c = refl

pub loses_to_fault-append : (h k : History) → loses_to_fault (h ++ k) ≡ (loses_to_fault h || loses_to_fault k)
loses_to_fault-append [] k = refl
loses_to_fault-append (e ∷ h) k = ap (λ b. is_lost_to_fault e || b) (loses_to_fault-append h k) ∙ or_assoc (is_lost_to_fault e) (loses_to_fault h) (loses_to_fault k)

-- the entry of a request answers what the request did
pub answer_of-request_entry : (ask : Ask) (answer : Answer) → answer_of (request_entry ask answer) ≡ Some answer
answer_of-request_entry ask (One x fresh) = refl
answer_of-request_entry ask (Many kind objects version) = refl
answer_of-request_entry ask (Deleted version) = refl
answer_of-request_entry ask (Document document) = refl
answer_of-request_entry ask (Events events version) = refl
answer_of-request_entry ask (Refusing BadLine) = refl
answer_of-request_entry ask (Refusing BadPath) = refl
answer_of-request_entry ask (Refusing (BadQuery name)) = refl
answer_of-request_entry ask (Refusing NotJson) = refl
answer_of-request_entry ask (Refusing NotWhole) = refl
answer_of-request_entry ask (Refusing (NotKind kind)) = refl
answer_of-request_entry ask (Refusing OtherPlace) = refl
answer_of-request_entry ask (Refusing (Broken rule)) = refl
answer_of-request_entry ask (Refusing (OverQuota ns quota resource used asked hard)) = refl
answer_of-request_entry ask (Refusing NoPath) = refl
answer_of-request_entry ask (Refusing (NotFound kind name)) = refl
answer_of-request_entry ask (Refusing NoMethod) = refl
answer_of-request_entry ask (Refusing (Exists kind name)) = refl
answer_of-request_entry ask (Refusing (OtherVersion kind name version)) = refl
answer_of-request_entry ask (Refusing (Expired floor)) = refl
answer_of-request_entry ask (Refusing TooLong) = refl
answer_of-request_entry ask (Refusing (Missing path)) = refl
answer_of-request_entry ask (Refusing (WrongType path)) = refl
answer_of-request_entry ask (Refusing (NoQuantity path)) = refl
answer_of-request_entry ask (Refusing BadName) = refl
answer_of-request_entry ask (Refusing BadLabel) = refl
answer_of-request_entry ask (Refusing TooManyLabels) = refl
answer_of-request_entry ask (Refusing TooLarge) = refl
answer_of-request_entry ask (Refusing StoreFailed) = refl
answer_of-request_entry ask (Refusing NotServed) = refl
answer_of-request_entry ask (Refusing NoRoom) = refl
