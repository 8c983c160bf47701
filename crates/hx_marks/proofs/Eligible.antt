-- Below a namespace, where each that names a parent is eligible.
--     all_live     all take part whenever it does
--     all_open     all take part, if it does
use Rattle.std.specs.Prelude.{is_some}
use Rattle.std.proofs.Common.{◌≡◌, ℕ, Bool, true, false, cond, List, [], ◌∷◌, filter, refl, sym, ap, subst, ◌∙◌}
use Rattle.std.specs.List.{list_all}
use Rattle.std.specs.Str.{bytes_eq}
use Rattle.std.proofs.lemmas.Bool.{and_from, and_parts}
use Rattle.hx_model.specs.Forest.{Forest, names_of, is_there, parent_of, chain_of, in_chain, subtree_of}
use Rattle.hx_model.specs.Moves.{up_to, is_eligible}
use Rattle.hx_model.specs.TreeLabels.{is_open}
use Rattle.hx_model.proofs.Moving.{Steps, arrived, step}
use Rattle.hx_model.proofs.Opening.{steps_of}
use Rattle.hx_model.proofs.Parents.{chain_parent, swap_same}
use Rattle.hx_marks.specs.Below.{live_below, open_below}
use Rattle.hx_marks.proofs.MoveChains.{up_none}
use Rattle.hx_marks.proofs.TakingPart.{open_under}

-- what holds of all before n holds where the names are cut at m
all_cut : (t : List ℕ → Bool) (m n : List ℕ) (xs : List (List ℕ)) → list_all t (up_to n xs) ≡ true → list_all t (up_to n (up_to m xs)) ≡ true
all_cut t m n [] all = refl
all_cut t m n (x ∷ xs) all = elim (bytes_eq m x) as (λ b. list_all t (up_to n (cond b [] (x ∷ up_to m xs))) ≡ true) [
  | true ↦ refl
  | false ↦ elim (bytes_eq n x) as (λ b. list_all t (cond b [] (x ∷ up_to n xs)) ≡ true → list_all t (cond b [] (x ∷ up_to n (up_to m xs))) ≡ true) [
    | true ↦ λ _. refl
    | false ↦ λ both. let parts = and_parts (t x) (list_all t (up_to n xs)) both in and_from (t x) (list_all t (up_to n (up_to m xs))) parts.0 (all_cut t m n xs parts.1)
  ] all
]

-- a filter keeps all that pass another one
filter_whole : (t v : List ℕ → Bool) (xs : List (List ℕ)) → ((x : List ℕ) → v x ≡ true → t x ≡ true) → filter t (filter v xs) ≡ filter v xs
filter_whole t v [] passes = refl
filter_whole t v (x ∷ xs) passes = elim (v x) as (λ b. v x ≡ b → filter t (cond b (x ∷ filter v xs) (filter v xs)) ≡ cond b (x ∷ filter v xs) (filter v xs)) [
  | true ↦ λ e. ap (λ b. cond b (x ∷ filter t (filter v xs)) (filter t (filter v xs))) (passes x e) ∙ ap (λ ys. x ∷ ys) (filter_whole t v xs passes)
  | false ↦ λ _. filter_whole t v xs passes
] refl

module _ (f : Forest) (n : List ℕ) (eligible : (m : List ℕ) → is_some (parent_of f m) ≡ true → is_eligible f m ≡ true) where
  eligible_steps : (m : List ℕ) (k : ℕ) → Steps f n m k → list_all (is_eligible f) (up_to n (chain_of f m)) ≡ true
  eligible_steps m k (arrived is there) = subst (λ (x : List ℕ). list_all (is_eligible f) (up_to n (chain_of f x)) ≡ true) (sym is) (ap (list_all (is_eligible f)) (up_none f n (subst (λ (x : List ℕ). is_there f x ≡ true) is there)))
  eligible_steps m k (step {q = q} {k = i} there off is more) =
      ap (λ xs. list_all (is_eligible f) (up_to n xs)) (chain_parent f m q there is)
      ∙ ap (λ b. list_all (is_eligible f) (cond b [] (m ∷ up_to n (up_to m (chain_of f q))))) (swap_same m n off)
      ∙ and_from (is_eligible f m) (list_all (is_eligible f) (up_to n (up_to m (chain_of f q)))) (eligible m (ap is_some is)) (all_cut (is_eligible f) m n (chain_of f q) (eligible_steps q i more))

  eligible_below : (m : List ℕ) → in_chain f m n ≡ true → list_all (is_eligible f) (up_to n (chain_of f m)) ≡ true
  eligible_below m has = let steps = steps_of f n m has in eligible_steps m steps.0 steps.1

  pub all_live : subtree_of f n ≡ live_below f n
  all_live = sym (filter_whole (λ m. list_all (is_eligible f) (up_to n (chain_of f m))) (λ m. in_chain f m n) (names_of f) eligible_below)

  pub all_open : is_open f n ≡ true → subtree_of f n ≡ open_below f n
  all_open takes = sym (filter_whole (is_open f) (λ m. in_chain f m n) (names_of f) (λ m has. open_under f n m has ∙ and_from (list_all (is_eligible f) (up_to n (chain_of f m))) (is_open f n) (eligible_below m has) takes))
