-- Writes of objects that neither make the tree nor limit what is used in it.
--     forest_stays         they leave the tree
--     limits_stay          and the limits
--     begins_none          so no excess may begin
--     others_begin_none    so none may begin at an entry that writes such objects alone
use Rattle.std.proofs.Common.{◌≡◌, ℕ, Bool, true, false, cond, not, ◌&&◌, ◌||◌, Option, Some, None, List, [], ◌∷◌, refl, sym, ap, ◌∙◌, true≢false, is_lt, nat_le, arith, eqb-true, ◌==◌}
use Rattle.std.specs.Cmp.{tied_itself}
use Rattle.std.specs.List.{AllByRecursion, list_any}
use Rattle.std.specs.Option.{option_map_or}
use Rattle.std.specs.Str.{bytes_eq}
use Rattle.std.proofs.lemmas.Bool.{and_parts, and_from, false_from_ne_true, le-leb}
use Rattle.hx_object.specs.Kinds.{number_of, is_namespace, is_hierarchy, is_quota}
use Rattle.hx_object.proofs.Identities.{number_of-one}
use Rattle.hx_object.specs.declared.kind.Kind.TheVariants.{HierarchicalResourceQuota}
use Rattle.hx_object.specs.Order.{id_cmp}
use Rattle.hx_object.specs.declared.object.Limit.{Limit}
use Rattle.hx_object.specs.declared.object.Object.{Object}
use Rattle.hx_model.specs.Charges.{hard_of}
use Rattle.hx_model.specs.Forest.{Forest, names_of, is_there, is_child, parent_of, in_chain}
use Rattle.hx_model.specs.Quotas.{quotas_in}
use Rattle.hx_model.specs.State.{State, Objects, object_at, is_listed, same_id, put, cut, is_below_all, ascends, after_writes, state_after}
use Rattle.hx_model.specs.Subnamespaces.{has_children}
use Rattle.hx_model.specs.Tree.{forest_in, forest_of}
use Rattle.hx_model.specs.Writes.{id_written}
use Rattle.hx_model.specs.declared.key.Write.{Write}
use Rattle.hx_model.specs.declared.key.Write.TheVariants.{Put, Cut}
use Rattle.hx_model.proofs.Climbing.{same_itself}
use Rattle.hx_model.proofs.Objects.{id_total, is_same_id, same_from_Equal}
use Rattle.hx_model.proofs.Parents.{out_head, out_tail}
use Rattle.hx_model.proofs.Planting.{forest-put, forest-cut}
use Rattle.hx_model.proofs.Storing.{All-put, All-cut}
use Rattle.hx_model.specs.Excess.{was_limited, gets_limit, limits_more, gets_parent, comes_below, gives_parent, is_home, gives_home, may_begin_excess, bears_on_limits, writes_at, OthersBeginNone}
use Rattle.hx_model.proofs.Housing.{names_there}
use Rattle.hx_model.proofs.Lists.{all_more, all_filtered, none_found, each_is_in}
use Rattle.hx_model.proofs.Writing.{state_written}

-- a write of another object
abbrev bears : Write → Bool
bears write = bears_on_limits (id_written write).kind

-- ---- the tree

forest_kept : (ex : List (List ℕ)) (ws : List Write) (objects : Objects) → list_any bears ws ≡ false → forest_in ex (after_writes ws objects) ≡ forest_in ex objects
forest_kept ex [] objects others = refl
forest_kept ex (Put x ∷ ws) objects others =
    let other = out_head (bears_on_limits x.id.kind) (list_any bears ws) others in
    forest_kept ex ws (put x objects) (out_tail (bears_on_limits x.id.kind) (list_any bears ws) others)
    ∙ forest-put ex x objects (out_head (is_namespace x.id.kind) _ other) (out_head (is_hierarchy x.id.kind) (is_quota x.id.kind) (out_tail (is_namespace x.id.kind) _ other))
forest_kept ex (Cut id ∷ ws) objects others =
    let other = out_head (bears_on_limits id.kind) (list_any bears ws) others in
    forest_kept ex ws (cut id objects) (out_tail (bears_on_limits id.kind) (list_any bears ws) others)
    ∙ forest-cut ex id objects (out_head (is_namespace id.kind) _ other) (out_head (is_hierarchy id.kind) (is_quota id.kind) (out_tail (is_namespace id.kind) _ other))

forest_stays : (s : State) (ws : List Write) → list_any bears ws ≡ false → forest_of (state_after s ws) ≡ forest_of s
forest_stays s [] others = refl
forest_stays s (w ∷ ws) others = forest_kept s.config.excluded (w ∷ ws) s.objects others

-- ---- limits

-- a quota has had the limits that it has
had_itself : (hard : List Limit) → list_any (λ limit. not (was_limited hard limit)) hard ≡ false
had_itself hard = none_found _ hard (all_more _ _ hard (λ limit found. ap not (found (λ old. bytes_eq old.resource limit.resource && nat_le old.amount limit.amount) (and_from _ _ (same_itself limit.resource) (le-leb limit.amount limit.amount (omega arith))))) (each_is_in hard))

-- each of the rows is found under its identity
each_found : (objects : Objects) → ascends objects ≡ true → AllByRecursion (λ (y : Object). object_at objects y.id ≡ Some y) objects
each_found [] up = tt
each_found (y ∷ objects) up =
    let parts = and_parts (is_below_all y.id objects) (ascends objects) up in
    (ap (λ b. cond b (Some y) (object_at objects y.id)) (same_from_Equal y.id y.id (tied_itself id_total y.id)), behind objects parts.0 (each_found objects parts.1))
  where
    apart : (z : Object) → is_lt (id_cmp y.id z.id) ≡ true → same_id z.id y.id ≡ false
    apart z low = false_from_ne_true (same_id z.id y.id) (λ h. true≢false (sym low ∙ ap is_lt (ap (id_cmp y.id) (is_same_id z.id y.id h) ∙ tied_itself id_total y.id)))

    behind : (rest : Objects) → is_below_all y.id rest ≡ true → AllByRecursion (λ (z : Object). object_at objects z.id ≡ Some z) rest → AllByRecursion (λ (z : Object). object_at (y ∷ objects) z.id ≡ Some z) rest
    behind [] low own = tt
    behind (z ∷ rest) low own =
        let parts = and_parts (is_lt (id_cmp y.id z.id)) (is_below_all y.id rest) low in
        (ap (λ b. cond b (Some y) (object_at objects z.id)) (apart z parts.0) ∙ own.0, behind rest parts.1 own.1)

module _ (base : Objects) where
  -- a quota that is there has no new limit
  gets_none : (q : Object) → object_at base q.id ≡ Some q → gets_limit base q ≡ false
  gets_none q at = ap (λ found. list_any (λ limit. not (was_limited (option_map_or (λ (x : Object). hard_of x.payload) found []) limit)) (hard_of q.payload)) at ∙ had_itself (hard_of q.payload)

  -- so it is of each quota
  abbrev HasHad : Object → Type 0
  HasHad q = is_quota q.id.kind ≡ true → gets_limit base q ≡ false

  had_after : (ws : List Write) (objects : Objects) → list_any bears ws ≡ false → AllByRecursion HasHad objects → AllByRecursion HasHad (after_writes ws objects)
  had_after [] objects others had = had
  had_after (Put x ∷ ws) objects others had =
      let other : is_quota x.id.kind ≡ false = out_tail (is_hierarchy x.id.kind) (is_quota x.id.kind) (out_tail (is_namespace x.id.kind) _ (out_head (bears_on_limits x.id.kind) (list_any bears ws) others)) in
      had_after ws (put x objects) (out_tail (bears_on_limits x.id.kind) (list_any bears ws) others) (All-put HasHad x objects (λ is. absurd (true≢false (sym is ∙ other))) had)
  had_after (Cut id ∷ ws) objects others had = had_after ws (cut id objects) (out_tail (bears_on_limits id.kind) (list_any bears ws) others) (All-cut HasHad id objects had)

-- what is listed as a quota of a is a quota
listed_quota : (a : List ℕ) (q : Object) → is_listed HierarchicalResourceQuota (Some a) q ≡ true → is_quota q.id.kind ≡ true
listed_quota a q is = ap is_quota (sym (number_of-one HierarchicalResourceQuota q.id.kind (eqb-true _ _ (and_parts (number_of HierarchicalResourceQuota == number_of q.id.kind) _ is).0)))

none_limits_more : (s t : State) (a : List ℕ) → AllByRecursion (HasHad s.objects) t.objects → limits_more s t a ≡ false
none_limits_more s t a had =
    none_found (gets_limit s.objects) (quotas_in t.objects a) (all_filtered (λ q. gets_limit s.objects q ≡ false) (is_listed HierarchicalResourceQuota (Some a)) t.objects (all_more _ _ t.objects (λ q once is. once (listed_quota a q is)) had))

all_had : (s : State) → ascends s.objects ≡ true → AllByRecursion (HasHad s.objects) s.objects
all_had s up = all_more _ _ s.objects (λ q at _. gets_none s.objects q at) (each_found s.objects up)

limits_stay : (s : State) (ws : List Write) (a : List ℕ) → ascends s.objects ≡ true → list_any bears ws ≡ false → limits_more s (state_after s ws) a ≡ false
limits_stay s [] a up others = none_limits_more s s a (all_had s up)
limits_stay s (w ∷ ws) a up others = none_limits_more s (state_after s (w ∷ ws)) a (had_after s.objects (w ∷ ws) s.objects others (all_had s up))

-- ---- what begins

and_no : (b : Bool) → (b && false) ≡ false
and_no true = refl
and_no false = refl

module _ (f : Forest) (a : List ℕ) where
  -- in a forest that stays no namespace gets a parent
  none_gets : gets_parent f f a ≡ false
  none_gets = none_found _ (names_of f) (all_more _ _ (names_of f) (λ n there. ap (λ b. is_there f n && b) (same n (parent_of f n) refl) ∙ and_no (is_there f n)) (names_there f))
    where
      same : (n : List ℕ) (o : Option (List ℕ)) → parent_of f n ≡ o → option_map_or (λ p. not (is_child f p n) && in_chain f p a) o false ≡ false
      same n None is = refl
      same n (Some p) is = ap (λ b. not b && in_chain f p a) (ap (λ o. option_map_or (bytes_eq p) o false) is ∙ same_itself p)

  -- and none comes
  none_comes : (t : List ℕ → Bool) → list_any (λ n. comes_below f f a n && t n) (names_of f) ≡ false
  none_comes t = none_found _ (names_of f) (all_more _ _ (names_of f) (λ n there. ap (λ b. (not b && in_chain f n a) && t n) there) (names_there f))

begins_none : (s t : State) (a : List ℕ) → limits_more s t a ≡ false → forest_of t ≡ forest_of s → may_begin_excess s t a ≡ false
begins_none s t a limits same =
    let f = forest_of s in
    ap (λ b. b || (gets_parent f (forest_of t) a || (gives_parent f (forest_of t) a || gives_home s t a))) limits
    ∙ ap (λ g. gets_parent f g a || (gives_parent f g a || list_any (λ n. comes_below f g a n && is_home s.objects n) (names_of g))) same
    ∙ ap (λ b. b || (gives_parent f f a || list_any (λ n. comes_below f f a n && is_home s.objects n) (names_of f))) (none_gets f a)
    ∙ ap (λ b. b || list_any (λ n. comes_below f f a n && is_home s.objects n) (names_of f)) (none_comes f a (has_children f))
    ∙ none_comes f a (is_home s.objects)

pub others_begin_none : OthersBeginNone
others_begin_none w e a up others =
    let ws = writes_at w e in
    ap (λ t. may_begin_excess w.state t a) (state_written w e) ∙ begins_none w.state (state_after w.state ws) a (limits_stay w.state ws a up others) (forest_stays w.state ws others)
