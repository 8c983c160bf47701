-- Who lies below a namespace and takes part.
--     open_is_there       one that takes part is there
--     in_own_chain        one that is there is in its own chain
--     in_open_below, open_below_has      those of a subtree that take part
--     above_apart         a later member of a chain has another name
use Rattle.std.proofs.Common.{◌≡◌, ℕ, true, false, List, sym, ap, ◌∙◌, inl, inr, true≢false}
use Rattle.std.specs.Str.{bytes_eq}
use Rattle.std.proofs.lemmas.Bool.{and_parts, and_from, or_left, cases_Bool, false_from_ne_true}
use Rattle.hx_model.specs.Forest.{Forest, is_in, names_of, is_there, is_live, chain_of, in_chain, tail_of, subtree_of}
use Rattle.hx_model.specs.TreeLabels.{is_open}
use Rattle.hx_model.proofs.Climbing.{is_same, same_itself}
use Rattle.hx_model.proofs.Conflicting.{head_out}
use Rattle.hx_model.proofs.Opening.{chain_first, not_live}
use Rattle.hx_model.proofs.Parents.{in_below, is_in_filter}
use Rattle.hx_model.proofs.Walking.{names_have}
use Rattle.hx_marks.specs.Law.{open_below}

pub open_is_there : (f : Forest) (n : List ℕ) → is_open f n ≡ true → is_there f n ≡ true
open_is_there f n h = elim (cases_Bool (is_there f n)) [
  | inl there ↦ there
  | inr out ↦ absurd (true≢false (sym (and_parts (is_live f n) _ h).0 ∙ not_live f n out))
]

pub in_own_chain : (f : Forest) (n : List ℕ) → is_there f n ≡ true → in_chain f n n ≡ true
in_own_chain f n there = ap (is_in n) (chain_first f n there) ∙ or_left (bytes_eq n n) (is_in n (tail_of (chain_of f n))) (same_itself n)

pub in_open_below : (f : Forest) (n m : List ℕ) → is_open f m ≡ true → in_chain f m n ≡ true → is_in m (open_below f n) ≡ true
in_open_below f n m acts has =
    is_in_filter (is_open f) m (subtree_of f n)
    ∙ and_from (is_in m (subtree_of f n)) (is_open f m)
    (in_below f m n ∙ and_from (is_in m (names_of f)) (in_chain f m n) (sym (names_have f m) ∙ open_is_there f m acts) has) acts

pub open_below_has : (f : Forest) (n m : List ℕ) → is_in m (open_below f n) ≡ true → (is_open f m ≡ true) × (in_chain f m n ≡ true)
open_below_has f n m h =
    let parts = and_parts (is_in m (subtree_of f n)) (is_open f m) (sym (is_in_filter (is_open f) m (subtree_of f n)) ∙ h) in
    (parts.1, (and_parts (is_in m (names_of f)) (in_chain f m n) (sym (in_below f m n) ∙ parts.0)).1)

pub above_apart : (f : Forest) (n a : List ℕ) → is_in a (tail_of (chain_of f n)) ≡ true → bytes_eq n a ≡ false
above_apart f n a mem = false_from_ne_true (bytes_eq n a) (λ h. true≢false (sym mem ∙ ap (λ b. is_in b (tail_of (chain_of f n))) (sym (is_same n a h)) ∙ head_out f n))
