-- Statuses of answers are HTTP statuses.
use Rattle.std.proofs.Common.{true, false, lit<, lit≤}
use Rattle.http.specs.StatusCode.{IsStatusCode}
use Rattle.hx_model.specs.Bodies.{answer_code}
use Rattle.hx_model.specs.Replies.{reason_row, status_of}
use Rattle.hx_model.specs.declared.ask.Answer.{Answer}
use Rattle.hx_model.specs.declared.ask.Answer.TheVariants.{One, Many, Deleted, Document, Events, Refused}
use Rattle.hx_model.specs.declared.reason.Reason.{Reason}
use Rattle.hx_model.specs.declared.reason.Reason.TheVariants as reason

reason_code : (r : Reason) → IsStatusCode (reason_row r).code
reason_code reason.BadRequest = (lit≤ tt, lit< tt)
reason_code reason.Forbidden = (lit≤ tt, lit< tt)
reason_code reason.NotFound = (lit≤ tt, lit< tt)
reason_code reason.MethodNotAllowed = (lit≤ tt, lit< tt)
reason_code reason.AlreadyExists = (lit≤ tt, lit< tt)
reason_code reason.Conflict = (lit≤ tt, lit< tt)
reason_code reason.Expired = (lit≤ tt, lit< tt)
reason_code reason.RequestEntityTooLarge = (lit≤ tt, lit< tt)
reason_code reason.Invalid = (lit≤ tt, lit< tt)
reason_code reason.InternalError = (lit≤ tt, lit< tt)
reason_code reason.NotImplemented = (lit≤ tt, lit< tt)
reason_code reason.ServiceUnavailable = (lit≤ tt, lit< tt)
reason_code reason.InsufficientStorage = (lit≤ tt, lit< tt)

pub is_code : (answer : Answer) → IsStatusCode (answer_code answer)
is_code (One x true) = (lit≤ tt, lit< tt)
is_code (One x false) = (lit≤ tt, lit< tt)
is_code (Many kind objects version) = (lit≤ tt, lit< tt)
is_code (Deleted version) = (lit≤ tt, lit< tt)
is_code (Document document) = (lit≤ tt, lit< tt)
is_code (Events events version) = (lit≤ tt, lit< tt)
is_code (Refused refusal) = reason_code (status_of refusal).reason
