-- What refusals say, in code.
--     text_of     the text of a message
use Rattle.std.specs.Prelude.{ℕ, List}
use Rattle.hx_model.specs.declared.status.Message as code
use Rattle.hx_model.specs.declared.status.Message.TheVariants.{Said, Joined, About, HasVersion, EventsGone, OverQuota}
use Rattle.hx_model.specs.Replies.{said_of, message_about, version_message, quota_message, gone_message}

-- the text of a message
abbrev pub text_of : code.Message → List ℕ
text_of (Said text) = text.now
text_of (Joined front back) = said_of front.now back.now
text_of (About kind name said) = message_about kind name.now said.now
text_of (HasVersion kind name version) = version_message kind name.now version
text_of (EventsGone floor) = gone_message floor
text_of (OverQuota ns quota resource used asked hard) = quota_message ns.now quota.now resource.now used asked hard
