-- The reply that carries an answer.
--     IsReplyTo answer reply    the status and the body of the answer, or those for want of memory
use Rattle.std.specs.Prelude.{◌≡◌, ◌⊎◌, []}
use Rattle.hx_model.specs.Bodies.{answer_code, answer_text}
use Rattle.hx_model.specs.declared.ask.Answer.{Answer}
use Rattle.hx_api.specs.declared.reply.Reply.{Reply}

-- the status and the body of the answer
pub record Carries (answer : Answer) (reply : Reply) : Type 0 where
  pub status : reply.status ≡ answer_code answer
  pub body : reply.body ≡ answer_text answer

-- 503 and no body, for which callers write a fixed text
pub record WantsMemory (reply : Reply) : Type 0 where
  pub status : reply.status ≡ 503
  pub body : reply.body ≡ []

-- the answer, or want of memory
abbrev pub IsReplyTo : Answer → Reply → Type 0
IsReplyTo answer reply = Carries answer reply ⊎ WantsMemory reply
