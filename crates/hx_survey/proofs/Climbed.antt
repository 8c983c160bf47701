-- A chain by places and marks.
--     climb_names      a climb goes on from a name as from what lies at its place
--     climb_none       without a name it has ended
--     mark_is          the mark of one that lies at an index
--     climb_marked     it has ended where the mark is set
--     none_marked      no mark is set
--     climb_further    and else goes on with one member more
use Rattle.std.proofs.Common.{◌≡◌, ℕ, zero, suc, ◌-◌, ◌<◌, Bool, true, false, not, cond, ◌&&◌, Option, Some, None, option_map, List, [], ◌∷◌, ◌++◌, refl, sym, ap, ◌∙◌, subst, true≢false}
use Rattle.std.specs.Prelude.{is_some, option_and_then, slice_get, slice_index_or, replicate, length}
use Rattle.std.specs.List.{AllByRecursion}
use Rattle.std.proofs.lemmas.Option.{none-some, same_Some}
use Rattle.hx_model.specs.Forest.{Forest, is_in, is_there, node_of, parent_of, goes_on, climb}
use Rattle.hx_model.specs.declared.node.Node.{Node}
use Rattle.hx_model.proofs.Listing.{climb_on}
use Rattle.hx_survey.specs.Inside.{Ascends, marks, name_at, place_of, place_at, ups_of, up_at}
use Rattle.hx_survey.proofs.Placed.{found_at, none_at, own_nodes}
use Rattle.hx_survey.proofs.Walked.{mapped_at}

-- without a name a climb has ended
pub climb_none : (left : ℕ) (f : Forest) (built : List (List ℕ)) (next : Option (List ℕ)) → next ≡ None → climb left f built next ≡ built
climb_none zero f built next is = refl
climb_none (suc left) f built next is = ap (climb (suc left) f built) is

climb_stops : (left : ℕ) (f : Forest) (built : List (List ℕ)) (n : List ℕ) → goes_on f built n ≡ false → climb left f built (Some n) ≡ built
climb_stops zero f built n stops = refl
climb_stops (suc left) f built n stops = ap (λ b. cond b (climb left f (built ++ n ∷ []) (parent_of f n)) built) stops

-- a climb goes on from a name as from what lies at its place
pub climb_names : (left : ℕ) (f : Forest) (built : List (List ℕ)) (next : Option (List ℕ)) → climb left f built (name_at f (place_at f next)) ≡ climb left f built next
climb_names left f built None = refl
climb_names left f built (Some n) = at (place_of f n) refl
  where
    at : (o : Option ℕ) → place_of f n ≡ o → climb left f built (name_at f o) ≡ climb left f built (Some n)
    at None out = climb_none left f built None refl ∙ sym (climb_stops left f built n (ap (λ (o : Option Node). is_some o && not (is_in n built)) (none_at f n out)))
    at (Some k) here = ap (λ (o : Option (List ℕ × Node)). climb left f built (name_of o)) (found_at f n k here).entry
      where
        name_of : Option (List ℕ × Node) → Option (List ℕ)
        name_of None = None
        name_of (Some e) = Some e.0

at_index : (P : List ℕ × Node → Type 0) (f : Forest) (k : ℕ) (e : List ℕ × Node) → AllByRecursion P f → slice_get f k ≡ Some e → P e
at_index P [] k e all h = absurd (none-some e h)
at_index P (x ∷ f) zero e all h = subst P (same_Some x e h) all.0
at_index P (x ∷ f) (suc k) e all h = at_index P f k e all.1 h

-- what lies at an index is found by its name
pub own_at_index : (f : Forest) (k : ℕ) (n : List ℕ) (node : Node) → Ascends f → slice_get f k ≡ Some (n, node) → node_of f n ≡ Some node
own_at_index f k n node sorted here = at_index (λ (e : List ℕ × Node). node_of f e.0 ≡ Some e.1) f k (n, node) (own_nodes f sorted) here

-- the mark of one that lies at an index
pub mark_is : (f : Forest) (built : List (List ℕ)) (seen : List Bool) (k : ℕ) (n : List ℕ) (node : Node) → seen ≡ marks built f → slice_get f k ≡ Some (n, node) → slice_index_or seen k true ≡ is_in n built
mark_is f built seen k n node is here = ap (λ ms. slice_index_or ms k true) is ∙ mapped_at (λ (e : List ℕ × Node). is_in e.0 built) f k (n, node) true here

named : (f : Forest) (at : Option ℕ) (k : ℕ) (n : List ℕ) (node : Node) → at ≡ Some k → slice_get f k ≡ Some (n, node) → name_at f at ≡ Some n
named f at k n node is here = ap (name_at f) is ∙ ap (λ (o : Option (List ℕ × Node)). option_map (λ (e : List ℕ × Node). e.0) o) here

not_true : (b : Bool) → b ≡ true → not b ≡ false
not_true b h = ap not h

no_longer : (b : Bool) → (b && false) ≡ false
no_longer true = refl
no_longer false = refl

-- a climb has ended where the mark is set
pub climb_marked : (left : ℕ) (f : Forest) (built : List (List ℕ)) (at : Option ℕ) (k : ℕ) (n : List ℕ) (node : Node) → at ≡ Some k → slice_get f k ≡ Some (n, node) → is_in n built ≡ true → climb left f built (name_at f at) ≡ built
climb_marked left f built at k n node is here old =
    ap (climb left f built) (named f at k n node is here)
    ∙ climb_stops left f built n (ap (λ b. is_there f n && not b) old ∙ no_longer (is_there f n))

-- and else goes on with one member more
pub climb_further : (left : ℕ) (f : Forest) (ups : List (Option ℕ)) (built : List (List ℕ)) (at : Option ℕ) (k : ℕ) (n : List ℕ) (node : Node) → Ascends f → ups ≡ ups_of f → 0 < left → at ≡ Some k → slice_get f k ≡ Some (n, node) → is_in n built ≡ false
    → climb (left - 1) f (built ++ n ∷ []) (name_at f (up_at ups k)) ≡ climb left f built (name_at f at)
climb_further left f ups built at k n node sorted ups_are some is here new =
    let found : node_of f n ≡ Some node = own_at_index f k n node sorted here in
    let up : up_at ups k ≡ place_at f (parent_of f n) = ap (λ us. up_at us k) ups_are ∙ mapped_at (λ (e : List ℕ × Node). place_at f (e.1).parent) f k (n, node) None here ∙ sym (ap (λ (o : Option Node). place_at f (option_and_then (λ (m : Node). m.parent) o)) found) in
    let goes : goes_on f built n ≡ true = ap (λ (o : Option Node). is_some o && not (is_in n built)) found ∙ ap not new in
    ap (λ o. climb (left - 1) f (built ++ n ∷ []) (name_at f o)) up
    ∙ climb_names (left - 1) f (built ++ n ∷ []) (parent_of f n)
    ∙ climb_on left f built (name_at f at) n (named f at k n node is here) some goes

-- a mark that isn't set
pub unset : (b : Bool) → not b ≡ true → b ≡ false
unset true h = absurd (true≢false (sym h))
unset false h = refl

-- no mark is set
pub none_marked : (f : Forest) → replicate (length f) false ≡ marks [] f
none_marked [] = refl
none_marked (x ∷ f) = ap (λ ms. false ∷ ms) (none_marked f)
