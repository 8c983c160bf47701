-- Trees that answer alike: chains, reasons, and who takes part.
--     alike_open      two trees of one length whose look-ups are the same have the same namespaces that take part
--     same_parent_open    so does a tree where a namespace gets the parent that it has
use Rattle.std.specs.Prelude.{is_some, is_none, option_and_then}
use Rattle.std.proofs.Common.{◌≡◌, ℕ, zero, suc, true, false, cond, not, ◌&&◌, Option, Some, None, option_map, List, [], ◌∷◌, ◌++◌, length, refl, ◌∙◌, subst, if◌then◌else◌}
use Rattle.std.specs.List.{list_any}
use Rattle.std.specs.Option.{option_map_or}
use Rattle.std.specs.Str.{bytes_eq}
use Rattle.hx_model.specs.declared.node.Node.{Node}
use Rattle.hx_model.specs.declared.node.Halt.TheVariants.{InCycle, ParentMissing, IllegalParent, Ancestor}
use Rattle.hx_model.specs.First.{so, first}
use Rattle.hx_model.specs.Forest.{Forest, is_in, node_of, is_live, is_excluded, parent_of, climb, chain_of, goes_on, own_halt_of, halt_of, tail_of, with_parent}
use Rattle.hx_model.specs.TreeLabels.{is_open}
use Rattle.hx_model.proofs.Climbing.{is_same}
use Rattle.hx_model.proofs.Moving.{with_that, moved_length, moved_node}

module _ (f g : Forest) (long : length f ≡ length g) (same : (m : List ℕ) → node_of f m ≡ node_of g m) where
  alike_parent : (m : List ℕ) → parent_of f m ≡ parent_of g m
  alike_parent m i = option_and_then (λ (node : Node). node.parent) (same m i)

  alike_live : (m : List ℕ) → is_live f m ≡ is_live g m
  alike_live m i = option_map_or (λ (node : Node). not node.terminating) (same m i) false

  alike_excluded : (m : List ℕ) → is_excluded f m ≡ is_excluded g m
  alike_excluded m i = option_map_or (λ (node : Node). node.excluded) (same m i) false

  alike_climb : (left : ℕ) (built : List (List ℕ)) (next : Option (List ℕ)) → climb left f built next ≡ climb left g built next
  alike_climb zero built next = refl
  alike_climb (suc left) built None = refl
  alike_climb (suc left) built (Some n) =
      (λ i. if is_some (same n i) && not (is_in n built) then climb left f (built ++ n ∷ []) (alike_parent n i) else built)
      ∙ (λ i. if goes_on g built n then alike_climb left (built ++ n ∷ []) (parent_of g n) i else built)

  alike_chain : (m : List ℕ) → chain_of f m ≡ chain_of g m
  alike_chain m = (λ i. climb (long i) f [] (Some m)) ∙ alike_climb (length g) [] (Some m)

  alike_own : (m : List ℕ) → own_halt_of f m ≡ own_halt_of g m
  alike_own m i = first (
      so (option_map_or (λ p. is_in m (alike_chain p i)) (alike_parent m i) false) InCycle
      ∷ so (option_map_or (λ p. not (alike_live p i)) (alike_parent m i) false) ParentMissing
      ∷ so (option_map_or (λ p. alike_excluded p i) (alike_parent m i) false) IllegalParent
      ∷ [])

  alike_halt : (m : List ℕ) → halt_of f m ≡ halt_of g m
  alike_halt m i = first (alike_own m i ∷ so (list_any (λ a. is_some (alike_own a i)) (tail_of (alike_chain m i))) Ancestor ∷ [])

  pub alike_open : (m : List ℕ) → is_open f m ≡ is_open g m
  alike_open m i = alike_live m i && (not (alike_excluded m i) && is_none (alike_halt m i))

-- with the parent that it has each look-up is the same
same_node : (f : Forest) (n m : List ℕ) → node_of (with_parent n (parent_of f n) f) m ≡ node_of f m
same_node f n m =
    moved_node f n (parent_of f n) m
    ∙ elim (bytes_eq n m) as (λ b. bytes_eq n m ≡ b → cond b (option_map (with_that (parent_of f n)) (node_of f m)) (node_of f m) ≡ node_of f m) [
      | true ↦ λ is. subst (λ (k : List ℕ). option_map (with_that (parent_of f n)) (node_of f k) ≡ node_of f k) (is_same n m is) (own (node_of f n))
      | false ↦ λ out. refl
    ] refl
  where
    own : (o : Option Node) → option_map (with_that (option_and_then (λ (node : Node). node.parent) o)) o ≡ o
    own None = refl
    own (Some node) = refl

-- and so is who takes part
pub same_parent_open : (f : Forest) (n m : List ℕ) → is_open (with_parent n (parent_of f n) f) m ≡ is_open f m
same_parent_open f n m = alike_open (with_parent n (parent_of f n) f) f (moved_length f n (parent_of f n)) (same_node f n) m
