-- A take whose line names a key.
use Rattle.std.proofs.Common.{◌≡◌, ◌∙◌, ℕ, List, Some, sym, ap, option_map}
use Rattle.std.specs.Prelude.{option_and_then}
use Rattle.hx_model.specs.declared.key.Key.{Key}
use Rattle.hx_script.specs.Words.{word_of, rest_of}
use Rattle.hx_script.specs.Workers.{key_named, take_order, taking, worker_named}
use Rattle.hx_script.specs.declared.order.Order.TheVariants as order

pub takes_named : (text word rest : List ℕ) (worker : ℕ) (k : Key) → word ≡ word_of text → worker_named word ≡ Some worker → rest_of text ≡ Some rest → key_named rest ≡ Some k → take_order text ≡ Some (order.Take worker (Some k))
takes_named text word rest worker k is named follows key =
    ap (λ w. option_and_then (λ worker. taking worker (rest_of text)) (worker_named w)) (sym is) ∙ ap (option_and_then (λ worker. taking worker (rest_of text))) named ∙ ap (taking worker) follows ∙ ap (option_map (λ k. order.Take worker (Some k))) key
