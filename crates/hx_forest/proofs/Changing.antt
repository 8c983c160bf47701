-- The children of names after a change of the nodes.
--     children_has                    who is a child of a name
--     parent_added, parent_set        what the node at an index names as its parent then
--     index_parted, index_removed     the lists are those of the nodes where a child has no parent, or is gone, once it has left its parent
--     index_terminated                and those of nodes one of which is on its way out
--     index_changed                   they are those of the changed nodes, once a child has joined its new parent
use Rattle.std.specs.Prelude.{is_some, option_and_then}
use Rattle.std.proofs.Common.{◌≡◌, ℕ, Bool, true, false, cond, not, ◌&&◌, ◌||◌, List, Option, Some, None, option_map, refl, sym, ap, subst, ◌∙◌, true≢false}
use Rattle.std.specs.Option.{option_map_or}
use Rattle.std.specs.Str.{bytes_eq}
use Rattle.std.proofs.lemmas.List.Kept.{IsStrictlySortedBy-filter}
use Rattle.hx_object.specs.Texts.{bytes_cmp}
use Rattle.hx_model.specs.declared.node.Node.{Node}
use Rattle.hx_model.specs.Forest.{Forest, is_in, is_there, names_of, node_of, parent_of, with_parent, is_child, children_of}
use Rattle.hx_model.specs.ForestChanges.{with_node, without_node, with_terminating}
use Rattle.hx_model.proofs.Climbing.{is_same, same_itself}
use Rattle.hx_model.proofs.Parents.{is_in_filter, swap_same}
use Rattle.hx_model.proofs.Walking.{names_have, no_parent, same_flips}
use Rattle.hx_model.proofs.Moving.{changed_node}
use Rattle.hx_forest.specs.declared.change.Change.{Change}
use Rattle.hx_forest.specs.declared.change.Change.TheVariants.{Add, SetParent, SetTerminating, Remove}
use Rattle.hx_forest.specs.Names.{IsAscending}
use Rattle.hx_forest.specs.Children.{Lists, names_in, HasList}
use Rattle.hx_forest.specs.Kept.{changed_by, MayChange}
use Rattle.hx_forest.specs.declared.nodes.Nodes.{Nodes}
use Rattle.hx_forest.specs.ParentRefs.{forest_of, index_at, parent_in}
use Rattle.hx_forest.specs.Staged.{parted_by, joined_by, IsLeft, IsJoined}
use Rattle.hx_forest.proofs.Named.{ascends, ascends-without_value, ascends-with_changed, lookup-without_value}
use Rattle.hx_forest.proofs.NodeLookups.{ascends-with_node, node_of-with_node}
use Rattle.hx_forest.proofs.ParentRefs.{parent_at_name}
use Rattle.hx_forest.proofs.Listing.{names_sorted, same_names}

-- ---- who is a child

pub children_has : (f : Forest) (p m : List ℕ) → is_in m (children_of f p) ≡ is_child f p m
children_has f p m =
    is_in_filter (is_child f p) m (names_of f)
    ∙ ap (λ b. b && is_child f p m) (sym (names_have f m))
    ∙ only (node_of f m)
  where
    only : (o : Option Node) → (is_some o && option_map_or (bytes_eq p) (option_and_then (λ node. node.parent) o) false) ≡ option_map_or (bytes_eq p) (option_and_then (λ node. node.parent) o) false
    only None = refl
    only (Some node) = refl

pub children_ascend : (f : Forest) (p : List ℕ) → ascends f ≡ true → IsAscending (children_of f p)
children_ascend f p up = IsStrictlySortedBy-filter bytes_cmp (is_child f p) (names_of f) (names_sorted f up)

pub same_children : (f g : Forest) (p : List ℕ) → ascends f ≡ true → ascends g ≡ true → ((m : List ℕ) → is_child g p m ≡ is_child f p m) → children_of g p ≡ children_of f p
same_children f g p hf hg alike = same_names (children_of g p) (children_of f p) (children_ascend g p hg) (children_ascend f p hf) (λ m. children_has g p m ∙ alike m ∙ sym (children_has f p m))

-- ---- after one list has changed

-- each name has the list of its children
abbrev Each : Lists → Forest → Type 0
Each lists f = (p : List ℕ) → names_in (lists p) ≡ children_of f p

index_after : (old new : Lists) (f g : Forest) (p : List ℕ) (t : List ℕ → Bool) → Each old f → ascends f ≡ true → ascends g ≡ true → HasList old new p t
    → ((m : List ℕ) → t m ≡ is_child g p m) → ((q : List ℕ) → bytes_eq p q ≡ false → (m : List ℕ) → is_child g q m ≡ is_child f q m) → Each new g
index_after old new f g p t each hf hg h here others q =
    elim (bytes_eq p q) as (λ b. bytes_eq p q ≡ b → names_in (new q) ≡ children_of g q) [
      | true ↦ λ e. subst (λ (r : List ℕ). names_in (new r) ≡ children_of g r) (is_same p q e)
          (same_names (names_in (new p)) (children_of g p) h.order (children_ascend g p hg) (λ m. h.members m ∙ here m ∙ sym (children_has g p m)))
      | false ↦ λ e. ap names_in (h.others q e) ∙ each q ∙ sym (same_children f g q hf hg (others q e))
    ] refl

index_same : (lists : Lists) (f g : Forest) → Each lists f → ascends f ≡ true → ascends g ≡ true → ((m : List ℕ) → parent_of g m ≡ parent_of f m) → Each lists g
index_same lists f g each hf hg same q = each q ∙ sym (same_children f g q hf hg (λ m. ap (λ (o : Option (List ℕ)). option_map_or (bytes_eq q) o false) (same m)))

-- a name without a parent that gets none
none_stays : (f g : Forest) (n : List ℕ) → parent_of f n ≡ None → ((m : List ℕ) → parent_of g m ≡ cond (bytes_eq m n) None (parent_of f m)) → (m : List ℕ) → parent_of g m ≡ parent_of f m
none_stays f g n none is m = is m ∙ by (bytes_eq m n) (λ e. ap (parent_of f) (is_same m n e) ∙ none)
  where
    by : (b : Bool) → (b ≡ true → parent_of f m ≡ None) → cond b None (parent_of f m) ≡ parent_of f m
    by true h = sym (h refl)
    by false h = refl

-- a child has left
index_left : (old new : Lists) (f g : Forest) (n : List ℕ) (o : Option (List ℕ)) → Each old f → ascends f ≡ true → ascends g ≡ true → parent_of f n ≡ o
    → ((m : List ℕ) → parent_of g m ≡ cond (bytes_eq m n) None (parent_of f m)) → IsLeft (option_map (λ p. (p, n)) o) old new → Each new g
index_left old new f g n None each hf hg at is left = λ q. ap names_in (left q) ∙ index_same old f g each hf hg (none_stays f g n at is) q
index_left old new f g n (Some p) each hf hg at is left =
    index_after old new f g p (λ q. not (bytes_eq q n) && is_in q (names_in (old p))) each hf hg left
    (λ m. ap (λ (xs : List (List ℕ)). not (bytes_eq m n) && is_in m xs) (each p) ∙ ap (λ b. not (bytes_eq m n) && b) (children_has f p m)
    ∙ here (bytes_eq m n) (parent_of f m) ∙ sym (ap (λ (o : Option (List ℕ)). option_map_or (bytes_eq p) o false) (is m)))
    (λ q out m. ap (λ (o : Option (List ℕ)). option_map_or (bytes_eq q) o false) (is m) ∙ there q (bytes_eq m n) (parent_of f m) (λ e. ap (λ (o : Option (List ℕ)). option_map_or (bytes_eq q) o false) (ap (parent_of f) (is_same m n e) ∙ at) ∙ swap_same p q out))
  where
    here : (b : Bool) (o : Option (List ℕ)) → (not b && option_map_or (bytes_eq p) o false) ≡ option_map_or (bytes_eq p) (cond b None o) false
    here true o = refl
    here false o = refl

    there : (q : List ℕ) (b : Bool) (o : Option (List ℕ)) → (b ≡ true → option_map_or (bytes_eq q) o false ≡ false) → option_map_or (bytes_eq q) (cond b None o) false ≡ option_map_or (bytes_eq q) o false
    there q true o h = sym (h refl)
    there q false o h = refl

-- a child without a parent has joined the children of one
index_joined : (old new : Lists) (f g : Forest) (n : List ℕ) (o : Option (List ℕ)) → Each old f → ascends f ≡ true → ascends g ≡ true → parent_of f n ≡ None
    → ((m : List ℕ) → parent_of g m ≡ cond (bytes_eq m n) o (parent_of f m)) → IsJoined (option_map (λ p. (p, n)) o) old new → Each new g
index_joined old new f g n None each hf hg at is joined = λ q. ap names_in (joined q) ∙ index_same old f g each hf hg (none_stays f g n at is) q
index_joined old new f g n (Some p) each hf hg at is joined =
    index_after old new f g p (λ q. bytes_eq q n || is_in q (names_in (old p))) each hf hg joined
    (λ m. ap (λ (xs : List (List ℕ)). bytes_eq m n || is_in m xs) (each p) ∙ ap (λ b. bytes_eq m n || b) (children_has f p m)
    ∙ here (bytes_eq m n) (parent_of f m) ∙ sym (ap (λ (o : Option (List ℕ)). option_map_or (bytes_eq p) o false) (is m)))
    (λ q out m. ap (λ (o : Option (List ℕ)). option_map_or (bytes_eq q) o false) (is m) ∙ there q (swap_same p q out) (bytes_eq m n) (parent_of f m) (λ e. ap (parent_of f) (is_same m n e) ∙ at))
  where
    here : (b : Bool) (o : Option (List ℕ)) → (b || option_map_or (bytes_eq p) o false) ≡ option_map_or (bytes_eq p) (cond b (Some p) o) false
    here true o = sym (same_itself p)
    here false o = refl

    there : (q : List ℕ) → bytes_eq q p ≡ false → (b : Bool) (o : Option (List ℕ)) → (b ≡ true → o ≡ None) → option_map_or (bytes_eq q) (cond b (Some p) o) false ≡ option_map_or (bytes_eq q) o false
    there q out true o h = out ∙ sym (ap (λ (o : Option (List ℕ)). option_map_or (bytes_eq q) o false) (h refl))
    there q out false o h = refl

-- ---- parents after a change

parent-with_node : (n : List ℕ) (node : Node) (f : Forest) (m : List ℕ) → parent_of (with_node n node f) m ≡ cond (bytes_eq m n) node.parent (parent_of f m)
parent-with_node n node f m = ap (λ (o : Option Node). option_and_then (λ node. node.parent) o) (node_of-with_node n node f m) ∙ by (bytes_eq m n)
  where
    by : (b : Bool) → option_and_then (λ (node : Node). node.parent) (cond b (Some node) (node_of f m)) ≡ cond b node.parent (parent_of f m)
    by true = refl
    by false = refl

parent-without_node : (n : List ℕ) (f : Forest) (m : List ℕ) → parent_of (without_node n f) m ≡ cond (bytes_eq m n) None (parent_of f m)
parent-without_node n f m = ap (λ (o : Option Node). option_and_then (λ node. node.parent) o) (lookup-without_value n f m) ∙ by (bytes_eq m n)
  where
    by : (b : Bool) → option_and_then (λ (node : Node). node.parent) (cond b None (node_of f m)) ≡ cond b None (parent_of f m)
    by true = refl
    by false = refl

parent-with_parent : (n : List ℕ) (p : Option (List ℕ)) (f : Forest) → is_there f n ≡ true → (m : List ℕ) → parent_of (with_parent n p f) m ≡ cond (bytes_eq m n) p (parent_of f m)
parent-with_parent n p f there m =
    ap (λ (o : Option Node). option_and_then (λ node. node.parent) o) (changed_node n (λ node. record node { parent = p }) f m)
    ∙ by (bytes_eq n m) (node_of f m) (λ same. subst (λ (x : List ℕ). is_there f x ≡ true) (is_same n m same) there) ∙ ap (λ b. cond b p (parent_of f m)) (same_flips n m)
  where
    by : (b : Bool) (o : Option Node) → (b ≡ true → is_some o ≡ true) → option_and_then (λ (node : Node). node.parent) (cond b (option_map (λ (node : Node). record node { parent = p }) o) o) ≡ cond b p (option_and_then (λ (node : Node). node.parent) o)
    by true None h = absurd (true≢false (sym (h refl)))
    by true (Some node) h = refl
    by false o h = refl

parent-with_terminating : (n : List ℕ) (f : Forest) (m : List ℕ) → parent_of (with_terminating n f) m ≡ parent_of f m
parent-with_terminating n f m =
    ap (λ (o : Option Node). option_and_then (λ node. node.parent) o) (changed_node n (λ node. record node { terminating = true }) f m)
    ∙ by (bytes_eq n m) (node_of f m)
  where
    by : (b : Bool) (o : Option Node) → option_and_then (λ (node : Node). node.parent) (cond b (option_map (λ (node : Node). record node { terminating = true }) o) o) ≡ option_and_then (λ (node : Node). node.parent) o
    by true None = refl
    by true (Some node) = refl
    by false o = refl

-- what the node at an index names then
pub parent_added : (nodes : Nodes) (f : Forest) (n : List ℕ) (node : Node) (i : ℕ) → forest_of nodes ≡ with_node n node f → index_at nodes (Some n) ≡ Some i → parent_in nodes (Some i) ≡ node.parent
parent_added nodes f n node i is at = sym (parent_at_name nodes n i at) ∙ ap (λ (g : Forest). parent_of g n) is ∙ parent-with_node n node f n ∙ ap (λ b. cond b node.parent (parent_of f n)) (same_itself n)

pub parent_set : (nodes : Nodes) (f : Forest) (n : List ℕ) (p : Option (List ℕ)) (i : ℕ) → is_there f n ≡ true → forest_of nodes ≡ with_parent n p f → index_at nodes (Some n) ≡ Some i → parent_in nodes (Some i) ≡ p
parent_set nodes f n p i there is at = sym (parent_at_name nodes n i at) ∙ ap (λ (g : Forest). parent_of g n) is ∙ parent-with_parent n p f there n ∙ ap (λ b. cond b p (parent_of f n)) (same_itself n)

-- ---- a change

twice : (n : List ℕ) (p : Option (List ℕ)) (f : Forest) → is_there f n ≡ true → (m : List ℕ) → parent_of (with_parent n p f) m ≡ cond (bytes_eq m n) p (parent_of (with_parent n None f) m)
twice n p f there m = parent-with_parent n p f there m ∙ by (bytes_eq m n) ∙ ap (cond (bytes_eq m n) p) (sym (parent-with_parent n None f there m))
  where
    by : (b : Bool) → cond b p (parent_of f m) ≡ cond b p (cond b None (parent_of f m))
    by true = refl
    by false = refl

-- a child has left its parent, which it names no more
pub index_parted : (old new : Lists) (f : Forest) (n : List ℕ) → ascends f ≡ true → is_there f n ≡ true → Each old f → IsLeft (option_map (λ p. (p, n)) (parent_of f n)) old new → Each new (with_parent n None f)
index_parted old new f n up there each left =
    index_left old new f (with_parent n None f) n (parent_of f n) each up (ascends-with_changed n (λ node. record node { parent = None }) f ∙ up) refl (parent-with_parent n None f there) left

-- or is gone
pub index_removed : (old new : Lists) (f : Forest) (n : List ℕ) → ascends f ≡ true → Each old f → IsLeft (option_map (λ p. (p, n)) (parent_of f n)) old new → Each new (without_node n f)
index_removed old new f n up each left = index_left old new f (without_node n f) n (parent_of f n) each up (ascends-without_value n f up) refl (parent-without_node n f) left

-- who is on its way out keeps its parent
pub index_terminated : (lists : Lists) (f : Forest) (n : List ℕ) → ascends f ≡ true → Each lists f → Each lists (with_terminating n f)
index_terminated lists f n up each = index_same lists f (with_terminating n f) each up (ascends-with_changed n (λ node. record node { terminating = true }) f ∙ up) (parent-with_terminating n f)

-- a child has joined its new parent
pub index_changed : (c : Change) (f : Forest) (mid new : Lists) → ascends f ≡ true → MayChange c f → Each mid (parted_by c f) → IsJoined (joined_by c) mid new → Each new (changed_by c f)
index_changed (Add n node) f mid new up may each joined =
    index_joined mid new f (with_node n node f) n node.parent each up (ascends-with_node n node f up) (no_parent f n may) (parent-with_node n node f) joined
index_changed (SetParent n p) f mid new up may each joined =
    let here : ascends (with_parent n None f) ≡ true = ascends-with_changed n (λ node. record node { parent = None }) f ∙ up in
    let after : ascends (with_parent n p f) ≡ true = ascends-with_changed n (λ node. record node { parent = p }) f ∙ up in
    index_joined mid new (with_parent n None f) (with_parent n p f) n p each here after
    (parent-with_parent n None f may n ∙ ap (λ b. cond b None (parent_of f n)) (same_itself n)) (twice n p f may) joined
index_changed (SetTerminating n) f mid new up may each joined = λ q. ap names_in (joined q) ∙ each q
index_changed (Remove n) f mid new up may each joined = λ q. ap names_in (joined q) ∙ each q
