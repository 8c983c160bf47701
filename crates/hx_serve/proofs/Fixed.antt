-- Fixed replies are those of their answers.
use Rattle.std.proofs.Common.{◌≡◌, Bool, List, ℕ, refl, ap, sym}
use Rattle.std.specs.Fmt.{digits}
use Rattle.serde_json.proofs.OnLiterals.{serde_json_on_literals}
use Rattle.hx_model.specs.Replies.{status_text}
use Rattle.hx_model.specs.declared.ask.Answer.TheVariants.{Refused}
use Rattle.hx_model.specs.declared.refusal.Refusal.TheVariants.{NoMemory, StoreFailed}
use Rattle.hx_http.specs.Replies.{failure_text, no_memory_row, no_memory_text, reply_text, status_body, store_failed_row, store_failed_text}
use Rattle.hx_serve.specs.Exchanges.{reply_of}

no_memory_body : status_text NoMemory ≡ status_body no_memory_row.code no_memory_row.reason no_memory_row.message
unfolding status_text digits serde_json_on_literals
no_memory_body = refl

store_failed_body : status_text StoreFailed ≡ status_body store_failed_row.code store_failed_row.reason store_failed_row.message
unfolding status_text digits serde_json_on_literals
store_failed_body = refl

-- no memory is left
pub no_memory_is : (last : Bool) → no_memory_text last ≡ reply_of last (Refused NoMemory)
unfolding failure_text
no_memory_is last = ap (λ (body : List ℕ). reply_text 503 body last) (sym no_memory_body)

-- the store failed
pub store_failed_is : (last : Bool) → store_failed_text last ≡ reply_of last (Refused StoreFailed)
unfolding failure_text
store_failed_is last = ap (λ (body : List ℕ). reply_text 500 body last) (sym store_failed_body)
