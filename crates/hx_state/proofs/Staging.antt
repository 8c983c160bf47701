-- The writes of one version, made one after the other.
--     same_change               the change of the tree by a write is as it was before all of them
--     plan_step                 the numbers, and the changes of the tree and of the owners, of the next of all
--     plan_small, plan_part, plan_named      the sizes, the numbers and the names of what it looks at
--     may_make_all              the writes of one commit may be planned together
--     grown_tree, grown_owners  the tree and the owners after all of them
--     may_stage                 what is counted of the subtrees may be staged
--     indexed_staged            the indexes where they are staged
use Rattle.std.proofs.Common.{◌≡◌, ◌≢◌, ◌<◌, ◌≤◌, ◌+◌, ℕ, Bool, true, false, List, [], ◌∷◌, ◌++◌, length, take, slice_index_or, None, Some, Option, refl, sym, ap, subst, ◌∙◌, arith, IfSome}
use Rattle.std.specs.Prelude.{if◌then◌else◌, option_and_then}
use Rattle.std.specs.List.{AllByRecursion}
use Rattle.std.proofs.lemmas.List.{take_more}
use Rattle.hx_object.specs.Sizes.{size_of, greatest_size}
use Rattle.hx_object.specs.declared.object.Object.{Object}
use Rattle.hx_forest.specs.Kept.{ForestView, changed_by, changed_by_all, MayChangeAll}
use Rattle.hx_forest.specs.declared.change.Change.{Change as TreeChange}
use Rattle.hx_forest.specs.declared.change.Change.TheVariants.{Add}
use Rattle.hx_model.specs.First.{or_else}
use Rattle.hx_model.specs.Forest.{Forest, is_in}
use Rattle.hx_model.specs.Limits.{is_namespace, is_hierarchy}
use Rattle.hx_model.specs.State.{State, Objects, ascends, object_at, home_in, after_writes, events_of, state_after}
use Rattle.hx_model.specs.Subnamespaces.{owners_in, owners_of}
use Rattle.hx_model.specs.Tree.{subnamespace_parent, named_parent, is_terminating, forest_in, forest_of}
use Rattle.hx_model.specs.Serving.{IsServed}
use Rattle.hx_model.specs.Valid.{IsValid, IsRecent, AreHoused}
use Rattle.hx_model.specs.Windows.{most_events, with_events}
use Rattle.hx_model.specs.Writes.{HasPlace, KeepsItsPlace, MayWrite, MayWriteAll}
use Rattle.hx_model.specs.declared.config.RunConfig.{RunConfig}
use Rattle.hx_model.specs.declared.key.Write.{Write}
use Rattle.hx_model.specs.declared.key.Write.TheVariants.{Put, Cut}
use Rattle.hx_model.proofs.Naming.{AreNamed}
use Rattle.hx_model.proofs.Objects.{ascends-put, ascends-cut}
use Rattle.hx_model.proofs.Planting.{namespace_is_homed}
use Rattle.hx_model.proofs.Happening.{recent_after}
use Rattle.hx_model.proofs.Writes.{valid_after}
use Rattle.hx_model.proofs.Storing.{All-put, All-cut}
use Rattle.hx_quota.specs.SubtreeUsage.{UsageView, IsCounted, MayStage}
use Rattle.hx_quota.proofs.CountingSums.{lie_there, none_outside}
use Rattle.hx_store.specs.Changes.{id_of, object_of}
use Rattle.hx_store.specs.Kept.{StoreView}
use Rattle.hx_state.specs.Counting.{Counts, IsPart, counts_of, gone}
use Rattle.hx_state.specs.Planning.{IsPlan, LeadTo, MayMake, MayMakeAll, planting, moving, tree_change, owning, owner_change, listed}
use Rattle.hx_state.specs.Happening.{LogView}
use Rattle.hx_state.specs.StateView.{Agrees, IsIndexed, state_in}
use Rattle.hx_state.specs.declared.limits.LimitCounts.{LimitCounts}
use Rattle.hx_state.proofs.Apart.{DontTouch, after_writes-append, all_map, may_at, found_own, found_home, found_config}
use Rattle.hx_state.proofs.Counting.{counted, stored_found, valid_agrees, small_legal, is_part}
use Rattle.hx_state.proofs.NameCounts.{names_by, names_at, name_fits}
use Rattle.hx_state.proofs.Owners.{owned}
use Rattle.hx_state.proofs.Planting.{IsPlanted, planted}

-- the state while the writes are made
abbrev pub during : State → List Write → State
during s done = record s { objects = after_writes done s.objects }

-- the change of the tree by a write is as it was before all of them
pub same_change : (s : State) (done : List Write) (w : Write) → MayMake s w → AllByRecursion (λ d. DontTouch (id_of d) (id_of w)) done → tree_change (during s done) w ≡ tree_change s w
same_change s done w may apart = by (is_namespace (id_of w).kind) refl
  where
    plants : (w : Write) → MayMake s w → AllByRecursion (λ d. DontTouch (id_of d) (id_of w)) done → is_namespace (id_of w).kind ≡ true → (o : Option Object) → planting (during s done) o (object_of w) ≡ planting s o (object_of w)
    plants (Put x) may apart is None =
        ap (λ found. Some (Add x.id.name (record { parent = or_else (subnamespace_parent x) (option_and_then named_parent found); terminating = is_terminating x.payload; excluded = is_in x.id.name s.config.excluded })))
        (found_config done s.objects x.id apart x.id.name (namespace_is_homed x may.0 is))
    plants (Put x) may apart is (Some old) = refl
    plants (Cut id) may apart is None = refl
    plants (Cut id) may apart is (Some old) = refl

    moves : (b : Bool) → is_hierarchy (id_of w).kind ≡ b → (if b then moving (id_of w) (object_of w) (home_in (after_writes done s.objects) (id_of w)) else None) ≡ (if b then moving (id_of w) (object_of w) (home_in s.objects (id_of w)) else None)
    moves true is = ap (moving (id_of w) (object_of w)) (found_home done s.objects (id_of w) apart is)
    moves false is = refl

    by : (b : Bool) → is_namespace (id_of w).kind ≡ b
        → (if b then planting (during s done) (object_at (after_writes done s.objects) (id_of w)) (object_of w) else (if is_hierarchy (id_of w).kind then moving (id_of w) (object_of w) (home_in (after_writes done s.objects) (id_of w)) else None))
        ≡ (if b then planting s (object_at s.objects (id_of w)) (object_of w) else (if is_hierarchy (id_of w).kind then moving (id_of w) (object_of w) (home_in s.objects (id_of w)) else None))
    by true is = plants w may apart is (object_at (after_writes done s.objects) (id_of w)) ∙ ap (λ o. planting s o (object_of w)) (found_own done s.objects (id_of w) apart)
    by false is = moves (is_hierarchy (id_of w).kind) refl

-- so is the change of the owners
same_owners : (s : State) (done : List Write) (w : Write) → AllByRecursion (λ d. DontTouch (id_of d) (id_of w)) done → owner_change (during s done) w ≡ owner_change s w
same_owners s done w apart = ap (λ o. if is_namespace (id_of w).kind then owning o (object_of w) else None) (found_own done s.objects (id_of w) apart)

-- ---- one write more

served_then : (s : State) (w : Write) (objects : Objects) → MayMake s w → AllByRecursion IsServed objects → AllByRecursion IsServed (after_writes (w ∷ []) objects)
served_then s (Put x) objects may all = All-put IsServed x objects may.0 all
served_then s (Cut id) objects may all = All-cut IsServed id objects all

ordered : (w : Write) (objects : Objects) → ascends objects ≡ true → ascends (after_writes (w ∷ []) objects) ≡ true
ordered (Put x) objects up = ascends-put x objects up
ordered (Cut id) objects up = ascends-cut id objects up

may_make : (s : State) (done : List Write) (w : Write) → MayMake s w → AllByRecursion (λ d. DontTouch (id_of d) (id_of w)) done → MayMake (during s done) w
may_make s done (Put x) may apart = (may.0, λ is. subst (λ (o : Option Object). IfSome o (λ old. KeepsItsPlace old x)) (sym (found_own done s.objects x.id apart)) (may.1 is))
may_make s done (Cut id) may apart = (may.0, found_own done s.objects id apart ∙ may.1)

-- changes, and more of them
lead_more : (cs ds : List TreeChange) (f g h : Forest) → LeadTo cs f g → LeadTo ds g h → LeadTo (cs ++ ds) f h
lead_more [] ds f g h first more = subst (λ e. LeadTo ds e h) (sym first.gives) more
lead_more (c ∷ cs) ds f g h first more =
    let rest = lead_more cs ds (changed_by c f) g h (record { may = first.may.1; gives = first.gives }) more in
    record { may = (first.may.0, rest.may); gives = rest.gives }

-- the next of all the writes
module _ (s : State) (ws : List Write) (counts : LimitCounts) (tree owners : List TreeChange) (named : AreNamed s.objects) (may : MayMakeAll s ws) (i : ℕ) (w : Write) (less : i < length ws) (at : w ≡ slice_index_or ws i w) (plan : IsPlan s (take i ws) counts tree owners) where
  abbrev done : List Write
  done = take i ws

  abbrev objects : Objects
  objects = after_writes done s.objects

  here : MayMake s w
  here = (may_at s ws i w less at may).0

  apart : AllByRecursion (λ d. DontTouch (id_of d) (id_of w)) done
  apart = (may_at s ws i w less at may).1

  -- a name that goes is one of those that are counted
  pub plan_named : gone (names_by s.objects w) ≤ counts.names
  plan_named = omega (arith, name_fits s ws named may i w less at here, ap (λ (c : LimitCounts). c.names) plan.numbers)

  -- the numbers have those of what is there
  pub plan_part : IsPart (object_at s.objects (id_of w)) counts
  plan_part = is_part objects counts (id_of w) (object_at s.objects (id_of w)) plan.in_order plan.numbers (found_own done s.objects (id_of w) apart)

  pub plan_step : (counts' : LimitCounts) (tree' owners' : List TreeChange) → Counts (object_at s.objects (id_of w)) (object_of w) (names_by s.objects w) counts counts'
      → tree' ≡ tree ++ listed (tree_change s w) → owners' ≡ owners ++ listed (owner_change s w) → IsPlan s (take (i + 1) ws) counts' tree' owners'
  plan_step counts' tree' owners' moves grown grown' =
      let t = during s done in
      let more : take (i + 1) ws ≡ done ++ w ∷ [] = take_more ws i w less ∙ ap (λ v. done ++ v ∷ []) (sym at) in
      let whole : after_writes (take (i + 1) ws) s.objects ≡ after_writes (w ∷ []) objects = ap (λ v. after_writes v s.objects) more ∙ after_writes-append done (w ∷ []) s.objects in
      let may_here : MayMake t w = may_make s done w here apart in
      let planted' : LeadTo (listed (tree_change s w)) (forest_of t) (forest_in s.config.excluded (after_writes (w ∷ []) objects)) = subst (IsPlanted t w) (same_change s done w here apart) (planted t plan.in_order plan.served w may_here) in
      let owned' : LeadTo (listed (owner_change s w)) (owners_of t) (owners_in (after_writes (w ∷ []) objects)) = subst (λ c. LeadTo (listed c) (owners_of t) (owners_in (after_writes (w ∷ []) objects))) (same_owners s done w apart) (owned t plan.in_order plan.served w may_here) in
      record {
        in_order = ap ascends whole ∙ ordered w objects plan.in_order;
        served = subst (AllByRecursion IsServed) (sym whole) (served_then s w objects here plan.served);
        numbers = counted w objects (names_by s.objects w) counts counts' plan.in_order plan.numbers (names_at s ws named may i w less at here)
            (subst (λ (o : Option Object). Counts o (object_of w) (names_by s.objects w) counts counts') (sym (found_own done s.objects (id_of w) apart)) moves) ∙ ap counts_of (sym whole);
        planted = subst (λ cs. LeadTo cs (forest_of s) (forest_in s.config.excluded (after_writes (take (i + 1) ws) s.objects))) (sym grown)
            (subst (λ rows. LeadTo (tree ++ listed (tree_change s w)) (forest_of s) (forest_in s.config.excluded rows)) (sym whole) (lead_more tree (listed (tree_change s w)) (forest_of s) (forest_of t) _ plan.planted planted'));
        owned = subst (λ cs. LeadTo cs (owners_of s) (owners_in (after_writes (take (i + 1) ws) s.objects))) (sym grown')
            (subst (λ rows. LeadTo (owners ++ listed (owner_change s w)) (owners_of s) (owners_in rows)) (sym whole) (lead_more owners (listed (owner_change s w)) (owners_of s) (owners_of t) _ plan.owned owned'));
      }

-- the sizes of what it looks at
pub plan_small : (s : State) (ws : List Write) (i : ℕ) (w : Write) (counts : LimitCounts) (nodes owners : Forest) → Agrees s.config s.objects s.last counts nodes owners → MayMakeAll s ws → i < length ws → w ≡ slice_index_or ws i w
    → IfSome (object_at s.objects (id_of w)) (λ x. size_of x ≤ greatest_size) × IfSome (object_of w) (λ x. size_of x ≤ greatest_size)
plan_small s ws i w counts nodes owners agrees may less at = (old (object_at s.objects (id_of w)) refl, new w (may_at s ws i w less at may).0)
  where
    old : (found : Option Object) → object_at s.objects (id_of w) ≡ found → IfSome found (λ x. size_of x ≤ greatest_size)
    old None e = tt
    old (Some x) e = small_legal x (stored_found s.config s.objects s.last counts nodes owners agrees (id_of w) x e).served.legal

    new : (w : Write) → MayMake s w → IfSome (object_of w) (λ x. size_of x ≤ greatest_size)
    new (Put x) may = small_legal x may.0.legal
    new (Cut id) may = tt

-- ---- all of them

may_be_made : (s : State) (w : Write) → MayWrite s w → MayMake s w
may_be_made s (Put x) may = (may.served, λ is. stays (object_at s.objects x.id) (may.place is))
  where
    stays : (found : Option Object) → HasPlace found x → IfSome found (λ old. KeepsItsPlace old x)
    stays None place = tt
    stays (Some old) place = place
may_be_made s (Cut id) may = may.there

-- the writes of one commit may be planned together
pub may_make_all : (s : State) (ws : List Write) → MayWriteAll s ws → MayMakeAll s ws
may_make_all s ws may = record { each = all_map (MayWrite s) (MayMake s) ws (may_be_made s) may.each; distinct = may.distinct; apart = may.apart; naming = may.naming }

module _ (s : State) (ws : List Write) (counts counts' : LimitCounts) (nodes owners : Forest) (tree own : List TreeChange) (agrees : Agrees s.config s.objects s.last counts nodes owners) (plan : IsPlan s ws counts' tree own) where
  -- the tree after all of them
  pub grown_tree : changed_by_all tree nodes ≡ forest_in s.config.excluded (after_writes ws s.objects)
  grown_tree = ap (changed_by_all tree) agrees.planted ∙ plan.planted.gives

  -- and the owners
  pub grown_owners : changed_by_all own owners ≡ owners_in (after_writes ws s.objects)
  grown_owners = ap (changed_by_all own) agrees.owned ∙ plan.owned.gives

  -- the agreement after the writes of one commit
  agrees_then : IsRecent s.last s.window → MayWriteAll s ws → ws ≢ [] → Agrees s.config (after_writes ws s.objects) (s.last + 1) counts' (changed_by_all tree nodes) (changed_by_all own owners)
  agrees_then recent may some =
      let valid : IsValid (next_state ws) = next ws some (valid_after s ws (valid_agrees s.config s.objects s.last counts nodes owners agrees s.window recent) may) in
      record {
        in_order = valid.in_order;
        stored = valid.stored;
        housed = valid.housed;
        fits = valid.fits;
        numbers = plan.numbers;
        planted = grown_tree;
        owned = grown_owners;
      }
    where
      next_state : List Write → State
      next_state ws = state_in s.config (after_writes ws s.objects) (s.last + 1) (with_events most_events s.window (events_of s ws))

      next : (ws : List Write) → ws ≢ [] → IsValid (state_after s ws) → IsValid (next_state ws)
      next [] some valid = absurd (some refl)
      next (w ∷ ws) some valid = valid

-- what is counted of the subtrees may be staged
pub may_stage : (s : State) (ws : List Write) (counts counts' : LimitCounts) (nodes owners : Forest) (tree own : List TreeChange) → Agrees s.config s.objects s.last counts nodes owners → IsPlan s ws counts' tree own
    → AreHoused (after_writes ws s.objects) → MayStage s.objects nodes ws tree
may_stage s ws counts counts' nodes owners tree own agrees plan housed = record {
  in_order = agrees.in_order;
  tree = subst (MayChangeAll tree) (sym agrees.planted) plan.planted.may;
  housed = none_outside (changed_by_all tree nodes) (after_writes ws s.objects) (lie_there (changed_by_all tree nodes) s.config.excluded (after_writes ws s.objects) (grown_tree s ws counts counts' nodes owners tree own agrees plan) housed);
}

-- the indexes where they are staged
pub indexed_staged : (config : RunConfig) (store store' : StoreView) (counts next next' : LimitCounts) (forest forest' owners owners' : ForestView) (usage usage' : UsageView) (log log' : LogView) (tree own : List TreeChange) (s : State) (ws : List Write)
    → IsIndexed config store counts next forest owners usage log → state_in config store.objects store.version log.window ≡ s → MayWriteAll s ws → IsPlan s ws next' tree own
    → store'.objects ≡ store.objects → store'.version ≡ store.version → store'.staged ≡ ws → forest'.nodes ≡ forest.nodes → forest'.staged ≡ tree → owners'.nodes ≡ owners.nodes → owners'.staged ≡ own
    → usage'.now ≡ usage.now → IsCounted (after_writes ws store.objects) (changed_by_all tree forest.nodes) usage'.next → log'.window ≡ log.window → log'.staged ≡ events_of s ws → IsIndexed config store' counts next' forest' owners' usage' log'
indexed_staged config store store' counts next next' forest forest' owners owners' usage usage' log log' tree own s ws indexed same may plan objects version is nodes staged nodes' staged' counted counted' window events =
    let t = state_in config store.objects store.version log.window in
    let may_here : MayWriteAll t ws = subst (λ s. MayWriteAll s ws) (sym same) may in
    let ready : ws ≢ [] → Agrees config (after_writes ws store.objects) (store.version + 1) next' (changed_by_all tree forest.nodes) (changed_by_all own owners.nodes) =
    agrees_then t ws counts next' forest.nodes owners.nodes tree own indexed.now (subst (λ s. IsPlan s ws next' tree own) (sym same) plan) indexed.recent may_here in
    let tells : log'.staged ≡ events_of t ws = events ∙ ap (λ s. events_of s ws) (sym same) in
    let recent : IsRecent (store.version + 1) (with_events most_events log.window (events_of t ws)) =
    recent_after t ws (valid_agrees config store.objects store.version counts forest.nodes owners.nodes indexed.now log.window indexed.recent) may_here.each in
    record {
      now = rw (objects, version, nodes, nodes') indexed.now;
      then = λ some. rw (objects, version, nodes, staged, nodes', staged', is) (ready (subst (λ v. v ≢ []) is some));
      counted = rw (objects, nodes, counted) indexed.counted;
      counted_then = λ some. rw (objects, nodes, staged, is) counted';
      recent = rw (version, window) indexed.recent;
      recent_then = λ some. rw (version, window, tells) recent;
      told = tells ∙ (λ i. events_of (state_in config (sym objects i) (sym version i) (sym window i)) (sym is i));
    }
