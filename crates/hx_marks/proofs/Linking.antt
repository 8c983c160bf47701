-- What a walk down from n finds, from a parent to its child.
--     next_up, below_on         up to n, a namespace comes first, and then what comes from its parent on; it is below n
--     top_live, found_live      whether all up to n are eligible: at n, and where it is known of the parent
--     put_entry, put_part       what is found once a value is put
--     none_live, put_live       it is known of nothing; of one more
--     top_links, found_links, none_links, put_links    the same of what sends something
--     by_links                  a call that has the senders above marks what the way gives
--     closing_ways              where n takes part, the ways are the chains
use Rattle.std.specs.Prelude.{IfSome, is_some, flat_map, option_and_then}
use Rattle.std.proofs.Common.{◌≡◌, ℕ, suc, Bool, true, false, cond, ◌&&◌, Option, Some, None, option_map, List, [], ◌∷◌, ◌++◌, filter, length, refl, sym, ap, ◌∙◌, subst, true≢false, arith, suc-ne-zero}
use Rattle.std.specs.BTreeMap.{is_at}
use Rattle.std.specs.Cmp.Lexicographic.{slice_cmp}
use Rattle.std.specs.List.{list_all}
use Rattle.std.specs.Map.{lookup}
use Rattle.std.specs.Ordering.{nat_cmp}
use Rattle.std.specs.Str.{bytes_eq}
use Rattle.std.proofs.lemmas.Bool.{and_from}
use Rattle.std.proofs.lemmas.Option.{same_Some}
use Rattle.std.proofs.lemmas.Map.Text.{is_eq-slice_cmp}
use Rattle.hx_object.specs.declared.kind.Kind.{Kind}
use Rattle.hx_select.proofs.Members.{same_lookup}
use Rattle.hx_model.specs.declared.node.Node.{Node}
use Rattle.hx_model.specs.Forest.{Forest, names_of, node_of, is_there, parent_of, chain_of, in_chain}
use Rattle.hx_model.specs.Moves.{up_to, chain_from, is_eligible}
use Rattle.hx_model.specs.State.{Objects}
use Rattle.hx_model.specs.TreeLabels.{is_open}
use Rattle.hx_model.proofs.Climbing.{is_same, above_chain}
use Rattle.hx_model.proofs.Moving.{Steps, step, steps_above}
use Rattle.hx_model.proofs.Opening.{steps_of}
use Rattle.hx_model.proofs.Parents.{chain_parent, swap_same}
use Rattle.hx_forest.proofs.Rings.{up_to_steps}
use Rattle.hx_marks.specs.Law.{all_of, live_below}
use Rattle.hx_marks.specs.Links.{way, IsFoundBy, live_at, IsLiveAt, AreLive, links_at, IsLinkAt, AreLinks}
use Rattle.hx_marks.specs.Senders.{is_sender, senders_of, sent_kinds}
use Rattle.hx_marks.specs.declared.links.Links.{Links}
use Rattle.hx_marks.specs.declared.live.Live.{Live}
use Rattle.hx_marks.proofs.MoveChains.{chain_split, open_chain, up_none}
use Rattle.hx_marks.proofs.OpenBelow.{in_own_chain}
use Rattle.hx_marks.proofs.Sending.{wants_by_senders}
use Rattle.hx_marks.proofs.TakingPart.{open_under}

-- ---- the way up

no_more : (ys : List (List ℕ)) → 0 ≡ length ys → ys ≡ []
no_more [] e = refl
no_more (y ∷ ys) e = absurd (suc-ne-zero _ (sym e))

-- names that are cut at q as well are the same where they aren't fewer
same_cut : (n q : List ℕ) (xs : List (List ℕ)) → length (up_to n (up_to q xs)) ≡ length (up_to n xs) → up_to n (up_to q xs) ≡ up_to n xs
same_cut n q [] long = refl
same_cut n q (x ∷ xs) long =
    elim (bytes_eq q x) as (λ b. length (up_to n (cond b [] (x ∷ up_to q xs))) ≡ length (up_to n (x ∷ xs)) → up_to n (cond b [] (x ∷ up_to q xs)) ≡ up_to n (x ∷ xs)) [
      | true ↦ λ none. sym (no_more (up_to n (x ∷ xs)) none)
      | false ↦ elim (bytes_eq n x) as (λ b. length (cond b [] (x ∷ up_to n (up_to q xs))) ≡ length (cond b [] (x ∷ up_to n xs)) → cond b [] (x ∷ up_to n (up_to q xs)) ≡ cond b [] (x ∷ up_to n xs)) [
        | true ↦ λ _. refl
        | false ↦ λ both. ap (λ ys. x ∷ ys) (same_cut n q xs (let less : suc (length (up_to n (up_to q xs))) ≡ suc (length (up_to n xs)) = both in omega (arith, less)))
      ]
    ] long

there_by : (o : Option Node) (p : List ℕ) → option_and_then (λ (node : Node). node.parent) o ≡ Some p → is_some o ≡ true
there_by None p e = absurd (true≢false (ap is_some (sym e)))
there_by (Some node) p e = refl

module _ (f : Forest) (n q p : List ℕ) (apart : bytes_eq q n ≡ false) (is : parent_of f q ≡ Some p) (has : in_chain f p n ≡ true) where
  there : is_there f q ≡ true
  there = there_by (node_of f q) p is

  steps : (k : ℕ) × Steps f n p k
  steps = steps_of f n p has

  -- it is below n
  pub below_on : in_chain f q n ≡ true
  below_on = above_chain f q n (steps_above f n q (suc steps.0) (step there apart is steps.1))

  -- up to n it comes first, and then what comes from its parent on
  pub next_up : up_to n (chain_of f q) ≡ q ∷ up_to n (chain_of f p)
  next_up =
      let cut : up_to n (chain_of f q) ≡ q ∷ up_to n (up_to q (chain_of f p)) = ap (up_to n) (chain_parent f q p there is) ∙ ap (λ b. cond b [] (q ∷ up_to n (up_to q (chain_of f p)))) (swap_same q n apart) in
      let long : suc (length (up_to n (up_to q (chain_of f p)))) ≡ suc steps.0 = sym (ap length cut) ∙ up_to_steps f n q (suc steps.0) (step there apart is steps.1) in
      cut ∙ ap (λ ys. q ∷ ys) (same_cut n q (chain_of f p) (omega (arith, long, up_to_steps f n p steps.0 steps.1)))

-- ---- entries

-- what is found once a value is put at a name
pub put_entry : {X : Type 0} (put name : List ℕ) (value : X) (old new : List (List ℕ × X)) → put ≡ name
    → ((q : List ℕ) → lookup (is_at (slice_cmp nat_cmp q)) new ≡ cond (is_at (slice_cmp nat_cmp put) q) (Some value) (lookup (is_at (slice_cmp nat_cmp q)) old))
    → (q : List ℕ) → lookup (bytes_eq q) new ≡ cond (bytes_eq name q) (Some value) (lookup (bytes_eq q) old)
put_entry put name value old new is updates q =
    sym (same_lookup q new) ∙ updates q ∙ (λ i. cond ((is_eq-slice_cmp put q ∙ ap (λ n. bytes_eq n q) is) i) (Some value) (same_lookup q old i))

-- the same of a part of the value
pub put_part : {X Y : Type 0} (put name : List ℕ) (value : X) (old new : List (List ℕ × X)) (part : X → Y) → put ≡ name
    → ((q : List ℕ) → lookup (is_at (slice_cmp nat_cmp q)) new ≡ cond (is_at (slice_cmp nat_cmp put) q) (Some value) (lookup (is_at (slice_cmp nat_cmp q)) old))
    → (q : List ℕ) → option_map part (lookup (bytes_eq q) new) ≡ cond (bytes_eq name q) (Some (part value)) (option_map part (lookup (bytes_eq q) old))
put_part {X = X} put name value old new part is updates q = ap (option_map part) (put_entry put name value old new is updates q) ∙ by (bytes_eq name q) (lookup (bytes_eq q) old)
  where
    by : (b : Bool) (o : Option X) → option_map part (cond b (Some value) o) ≡ cond b (Some (part value)) (option_map part o)
    by true o = refl
    by false o = refl

-- what is found at the parent
pub found_by : {R X : Type 0} (f : Forest) (n q p : List ℕ) (at : List ℕ → Option X) (o : Option R) (value : R → X) → bytes_eq q n ≡ false → parent_of f q ≡ Some p → option_map value o ≡ at p → IfSome o (λ x. IsFoundBy f n q at (value x))
found_by f n q p at None value apart is found = tt
found_by f n q p at (Some x) value apart is found = (p, (apart, (is, sym found)))

-- ---- who takes part

pub top_live : (f : Forest) (n : List ℕ) → is_there f n ≡ true → IsLiveAt f n n true
top_live f n there = (in_own_chain f n there, sym (ap (list_all (is_eligible f)) (up_none f n there)))

pub none_live : (f : Forest) (n : List ℕ) (live : Live) → ((q : List ℕ) → live_at live q ≡ None) → AreLive f n live
none_live f n live none q b is = absurd (true≢false (ap is_some (sym is ∙ none q)))

pub found_live : (f : Forest) (n : List ℕ) (live : Live) (q : List ℕ) (above b : Bool) → AreLive f n live → IsFoundBy f n q (live_at live) above → b ≡ (is_eligible f q && above) → IsLiveAt f n q b
found_live f n live q above b are (p, (apart, (is, known))) same =
    let up = are p above known in
    (below_on f n q p apart is up.0, same ∙ ap (λ c. is_eligible f q && c) up.1 ∙ sym (ap (list_all (is_eligible f)) (next_up f n q p apart is up.0)))

pub put_live : (f : Forest) (n : List ℕ) (old new : Live) (m : List ℕ) (b : Bool) → AreLive f n old → IsLiveAt f n m b → ((q : List ℕ) → live_at new q ≡ cond (bytes_eq m q) (Some b) (live_at old q)) → AreLive f n new
put_live f n old new m b are here put q c is =
    elim (bytes_eq m q) as (λ t. bytes_eq m q ≡ t → cond t (Some b) (live_at old q) ≡ Some c → IsLiveAt f n q c) [
      | true ↦ λ same e. subst (λ (x : List ℕ). IsLiveAt f n x c) (is_same m q same) (subst (λ (d : Bool). IsLiveAt f n m d) (same_Some b c e) here)
      | false ↦ λ _ e. are q c e
    ] refl (sym (put q) ∙ is)

-- ---- who sends something

-- the senders among some names, where one comes first
pub senders_on : (objects : Objects) (kinds : List Kind) (m : List ℕ) (names : List (List ℕ)) → senders_of objects kinds (m ∷ []) ++ senders_of objects kinds names ≡ senders_of objects kinds (m ∷ names)
senders_on objects kinds m names = by (is_sender objects kinds m)
  where
    by : (b : Bool) → (cond b (m ∷ []) [] ++ senders_of objects kinds names) ≡ cond b (m ∷ senders_of objects kinds names) (senders_of objects kinds names)
    by true = refl
    by false = refl

module _ (objects : Objects) (kinds : List Kind) (f : Forest) (n : List ℕ) (above : List (List ℕ)) where
  pub top_links : (senders : List (List ℕ)) → is_there f n ≡ true → senders ≡ senders_of objects kinds (n ∷ []) ++ senders_of objects kinds above → IsLinkAt objects kinds f n above n senders
  top_links senders there same = (in_own_chain f n there, same ∙ senders_on objects kinds n above ∙ sym (ap (λ ys. senders_of objects kinds (ys ++ n ∷ above)) (up_none f n there)))

  pub none_links : (links : Links) → ((q : List ℕ) → links_at links q ≡ None) → AreLinks objects kinds f n above links
  none_links links none q senders is = absurd (true≢false (ap is_some (sym is ∙ none q)))

  pub found_links : (links : Links) (q : List ℕ) (known senders : List (List ℕ)) → IsFoundBy f n q (links_at links) known → senders ≡ senders_of objects kinds (q ∷ []) ++ known → AreLinks objects kinds f n above links → IsLinkAt objects kinds f n above q senders
  found_links links q known senders (p, (apart, (is, at))) same are =
      let up = are p known at in (
        below_on f n q p apart is up.0,
        same ∙ ap (λ xs. senders_of objects kinds (q ∷ []) ++ xs) up.1 ∙ senders_on objects kinds q (way f n above p) ∙ sym (ap (λ ys. senders_of objects kinds (ys ++ n ∷ above)) (next_up f n q p apart is up.0)),
      )

  pub put_links : (old new : Links) (m : List ℕ) (senders : List (List ℕ)) → AreLinks objects kinds f n above old → IsLinkAt objects kinds f n above m senders → ((q : List ℕ) → links_at new q ≡ cond (bytes_eq m q) (Some senders) (links_at old q)) → AreLinks objects kinds f n above new
  put_links old new m senders are here put q others is =
      elim (bytes_eq m q) as (λ t. bytes_eq m q ≡ t → cond t (Some senders) (links_at old q) ≡ Some others → IsLinkAt objects kinds f n above q others) [
        | true ↦ λ same e. subst (λ (x : List ℕ). IsLinkAt objects kinds f n above x others) (is_same m q same) (subst (λ (xs : List (List ℕ)). IsLinkAt objects kinds f n above m xs) (same_Some senders others e) here)
        | false ↦ λ _ e. are q others e
      ] refl (sym (put q) ∙ is)

-- ---- what they mark

pub by_links : (objects : Objects) (f : Forest) (n : List ℕ) (above : List (List ℕ)) (links : Links) (m : List ℕ) (senders : List (List ℕ)) → AreLinks objects (sent_kinds objects) f n above links → IsFoundBy f n m (links_at links) senders
    → all_of objects (m ∷ senders) m ≡ all_of objects (way f n above m) m
by_links objects f n above links m senders are (p, (apart, (is, at))) =
    let up = are p senders at in
    ap (λ xs. all_of objects (m ∷ xs) m) up.1
    ∙ wants_by_senders objects m (way f n above p)
    ∙ sym (ap (λ ys. all_of objects (ys ++ n ∷ above) m) (next_up f n m p apart is up.0))

flat_inside : {B : Type 0} (g h : List ℕ → List B) (t v : List ℕ → Bool) (xs : List (List ℕ)) → ((x : List ℕ) → v x ≡ true → t x ≡ true → g x ≡ h x) → flat_map g (filter t (filter v xs)) ≡ flat_map h (filter t (filter v xs))
flat_inside g h t v [] same = refl
flat_inside g h t v (x ∷ xs) same =
    let rest = flat_inside g h t v xs same in
    elim (v x) as (λ b. v x ≡ b → flat_map g (filter t (cond b (x ∷ filter v xs) (filter v xs))) ≡ flat_map h (filter t (cond b (x ∷ filter v xs) (filter v xs)))) [
      | true ↦ λ inside. elim (t x) as (λ b. t x ≡ b → flat_map g (cond b (x ∷ filter t (filter v xs)) (filter t (filter v xs))) ≡ flat_map h (cond b (x ∷ filter t (filter v xs)) (filter t (filter v xs)))) [
        | true ↦ λ kept. λ i. same x inside kept i ++ rest i
        | false ↦ λ _. rest
      ] refl
      | false ↦ λ _. rest
    ] refl

-- where n takes part, and so all that does whenever it does, the ways are the chains
pub closing_ways : (objects : Objects) (f : Forest) (n : List ℕ) → is_open f n ≡ true
    → flat_map (λ m. all_of objects (way f n (chain_from f (parent_of f n)) m) m) (live_below f n) ≡ flat_map (λ m. all_of objects (chain_of f m) m) (live_below f n)
closing_ways objects f n takes =
    flat_inside (λ m. all_of objects (way f n (chain_from f (parent_of f n)) m) m) (λ m. all_of objects (chain_of f m) m) (λ m. list_all (is_eligible f) (up_to n (chain_of f m))) (λ m. in_chain f m n) (names_of f)
    (λ m has live.
    let opens : is_open f m ≡ true = open_under f n m has ∙ and_from (list_all (is_eligible f) (up_to n (chain_of f m))) (is_open f n) live takes in
    ap (λ chain. all_of objects chain m) (sym (chain_split f n m has opens ∙ ap (λ xs. up_to n (chain_of f m) ++ xs) (open_chain f n takes))))
