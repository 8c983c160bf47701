-- Who lies above a namespace that takes part is less deep.
--     deeper
use Rattle.std.proofs.Common.{◌≡◌, ◌<◌, ℕ, true, false, cond, List, [], ◌∷◌, ◌++◌, length, length-append, ap, ◌∙◌, arith}
use Rattle.std.specs.Str.{bytes_eq}
use Rattle.hx_model.specs.Forest.{Forest, chain_of, depth_of, in_chain, tail_of}
use Rattle.hx_model.specs.Moves.{up_to}
use Rattle.hx_model.specs.TreeLabels.{is_open}
use Rattle.hx_model.proofs.Opening.{chain_first}
use Rattle.hx_marks.proofs.MoveChains.{chain_split, open_above, open_there}

-- a chain is longer than that of a later member
pub deeper : (f : Forest) (n m : List ℕ) → is_open f m ≡ true → in_chain f m n ≡ true → bytes_eq n m ≡ false → depth_of f n < depth_of f m
deeper f n m acts has apart =
    let tail = tail_of (chain_of f m) in
    let before : up_to n (chain_of f m) ≡ m ∷ up_to n tail = ap (up_to n) (chain_first f m (open_there f m acts)) ∙ ap (λ b. cond b [] (m ∷ up_to n tail)) apart in
    let whole : length (chain_of f m) ≡ length (m ∷ (up_to n tail ++ chain_of f n)) = ap length (chain_split f n m has acts ∙ ap (λ xs. xs ++ chain_of f n) before) in
    let own : length (chain_of f n) ≡ length (n ∷ tail_of (chain_of f n)) = ap length (chain_first f n (open_there f n (open_above f n m has acts))) in
    omega (arith, whole, own, length-append (up_to n tail) (chain_of f n))
