use Rattle.std.proofs.Common.{rules, ◌≡◌, ◌<◌, List, ℕ, [], false, length, get_or, is_some, sym, ap, subst, ◌∙◌, arith}
use Rattle.std.specs.Prelude.{find}
use Rattle.std.proofs.lemmas.List.{take-map, drop_more}
use Rattle.hx_model.specs.Keys.{same_key}
use Rattle.hx_model.specs.declared.key.Key.{Key}
use Rattle.hx_model.specs.declared.key.Key.TheVariants as key
use Rattle.hx_queue.specs.Kept.{Held, is_held}
use Rattle.hx_line.specs.Line.{with_key}
use Rattle.hx_queue.specs.Spread.{is_place_of, waiting_in}
use Rattle.hx_queue.proofs.Beside.{place_itself}
use Rattle.hx_queue.proofs.Spreads.{held_by_none, one_more}
use Rattle.hx_queue.proofs.spread.mark_places.Goals as goal

pub returns-in_err-key-clause-some : goal.returns-in_err-key-clause-some
returns-in_err-key-clause-some c = record {
  many = c.loop-name.name-index;
  lined = c.loop-name.invariant.lined
      ∙ ap (waiting_in c.args.queue.now.waiting) (sym (take-map (λ (m : List ℕ). key.Copy m c.args.id.now.kind c.args.id.now.name) c.loop-name.name-index c.args.names.now));
}

pub loop-name-preserved : goal.loop-name-preserved
loop-name-preserved c =
    let k : Key = key.Copy c.name-item.result c.args.id.now.kind c.args.id.now.name in
    let is : c.in_ok-key.key ≡ k = search rules in
    let at : c.name-item.result ≡ get_or c.args.names.now c.loop-name.name-index c.name-item.result = search rules in
    let within : c.loop-name.name-index < length c.args.names.now = search rules in
    let free : is_held c.loop-name.queue c.in_ok-key.key ≡ false
    = ap (λ (hs : List Held). is_some (find (λ (h : Held). same_key c.in_ok-key.key h.key) hs)) c.loop-name.invariant.held
    ∙ c.requires.free c.in_ok-key.key (ap (is_place_of c.args.id.now) is ∙ place_itself c.args.id.now c.name-item.result) in
    let marked = held_by_none c.in_ok-key.key c.loop-name.queue c.mark.new.self c.mark.ensures free in
    let rest = ap (λ (l : List (List ℕ)). length l) (drop_more c.args.names.now c.loop-name.name-index [] within) in
    record {
      ranks = c.mark.ensures.ranks ∙ c.loop-name.invariant.ranks;
      held = marked.1 ∙ c.loop-name.invariant.held;
      lined = one_more c.args.id.now c.args.names.now c.loop-name.name-index c.name-item.result c.args.queue.now.waiting c.loop-name.queue.waiting c.mark.new.self.waiting
          c.requires.distinct within at c.loop-name.invariant.lined (subst (λ (q : Key). c.mark.new.self.waiting ≡ with_key q c.loop-name.queue.waiting) is marked.0);
      room = omega (arith, rest, c.loop-name.invariant.room, c.mark.ensures.spare);
    }
