-- Objects that were stored before, taken in one by one.
--     may_load         one that isn't there may be planned by itself
--     housed_loaded    all lie in their namespaces once it is there
--     indexed_loaded   the indexes once it is there
use Rattle.std.proofs.Common.{◌≡◌, true, [], ◌∷◌, None, Option, List, IfSome, sym, ap, subst, ◌∙◌}
use Rattle.hx_object.specs.declared.object.Object.{Object}
use Rattle.hx_forest.specs.Kept.{ForestView, changed_by_all}
use Rattle.hx_forest.specs.declared.change.Change.{Change as TreeChange}
use Rattle.hx_model.specs.Forest.{Forest}
use Rattle.hx_model.specs.State.{State, object_at, put, has_home, after_writes, events_of}
use Rattle.hx_model.specs.Valid.{IsStored, AreHoused}
use Rattle.hx_model.specs.Writes.{KeepsItsPlace}
use Rattle.hx_model.specs.declared.config.RunConfig.{RunConfig}
use Rattle.hx_model.specs.declared.key.Write.{Write}
use Rattle.hx_model.specs.declared.key.Write.TheVariants.{Put}
use Rattle.hx_model.proofs.Homes.{housed-put}
use Rattle.hx_model.proofs.Storing.{All-put}
use Rattle.hx_state.specs.Planning.{IsPlan, MayMakeAll}
use Rattle.hx_quota.specs.SubtreeUsage.{UsageView, IsCounted}
use Rattle.hx_store.specs.Kept.{StoreView}
use Rattle.hx_state.specs.Happening.{LogView}
use Rattle.hx_state.specs.StateView.{Agrees, IsIndexed, state_in}
use Rattle.hx_state.specs.declared.limits.LimitCounts.{LimitCounts}
use Rattle.hx_state.proofs.Alone.{alone_distinct, alone_apart, alone_naming}
use Rattle.hx_state.proofs.Staging.{grown_tree, grown_owners}

module _ (s : State) (x : Object) (stored : IsStored s.last x) where
  -- one that isn't there may be planned by itself
  pub may_load : (ws : List Write) → ws ≡ Put x ∷ [] → object_at s.objects x.id ≡ None → MayMakeAll s ws
  may_load ws is new = subst (MayMakeAll s) (sym is) (record {
    each = ((stored.served, λ is. subst (λ (o : Option Object). IfSome o (λ old. KeepsItsPlace old x)) (sym new) tt), tt);
    distinct = alone_distinct x.id;
    apart = alone_apart x.id;
    naming = alone_naming s.objects (Put x);
  })

  -- all lie in their namespaces once it is there
  pub housed_loaded : (ws : List Write) → ws ≡ Put x ∷ [] → has_home s.objects x.id ≡ true → AreHoused s.objects → AreHoused (after_writes ws s.objects)
  housed_loaded ws is home housed = subst (λ ws. AreHoused (after_writes ws s.objects)) (sym is) (housed-put x s.objects home housed)

  -- the agreement once it is there: the last version stays
  agrees_loaded : (counts counts' : LimitCounts) (nodes owners : Forest) (tree own : List TreeChange) → Agrees s.config s.objects s.last counts nodes owners → has_home s.objects x.id ≡ true → IsPlan s (Put x ∷ []) counts' tree own
      → Agrees s.config (put x s.objects) s.last counts' (changed_by_all tree nodes) (changed_by_all own owners)
  agrees_loaded counts counts' nodes owners tree own agrees home plan = record {
    in_order = plan.in_order;
    stored = All-put (IsStored s.last) x s.objects stored agrees.stored;
    housed = housed-put x s.objects home agrees.housed;
    fits = agrees.fits;
    numbers = plan.numbers;
    planted = grown_tree s (Put x ∷ []) counts counts' nodes owners tree own agrees plan;
    owned = grown_owners s (Put x ∷ []) counts counts' nodes owners tree own agrees plan;
  }

-- the indexes once it is there
pub indexed_loaded : (config : RunConfig) (store store' : StoreView) (counts next next' : LimitCounts) (forest forest' owners owners' : ForestView) (usage : UsageView) (log : LogView) (tree own : List TreeChange) (s : State) (x : Object) (ws : List Write)
    → IsIndexed config store counts next forest owners usage log → state_in config store.objects store.version log.window ≡ s → IsStored s.last x → has_home s.objects x.id ≡ true → ws ≡ Put x ∷ [] → IsPlan s ws next' tree own
    → store'.objects ≡ after_writes ws store.objects → store'.version ≡ store.version → store'.staged ≡ [] → forest'.nodes ≡ changed_by_all tree forest.nodes → owners'.nodes ≡ changed_by_all own owners.nodes
    → (usage' : UsageView) → IsCounted (after_writes ws store.objects) (changed_by_all tree forest.nodes) usage'.now → store.staged ≡ [] → IsIndexed config store' next' next forest' owners' usage' log
indexed_loaded config store store' counts next next' forest forest' owners owners' usage log tree own s x ws indexed same stored home is plan objects version none nodes nodes' usage' counted empty =
    let t = state_in config store.objects store.version log.window in
    let planned : IsPlan t ws next' tree own = subst (λ s. IsPlan s ws next' tree own) (sym same) plan in
    let loaded = agrees_loaded t x (subst (λ (s : State). IsStored s.last x) (sym same) stored) counts next' forest.nodes owners.nodes tree own indexed.now (subst (λ (s : State). has_home s.objects x.id ≡ true) (sym same) home) (subst (λ ws. IsPlan t ws next' tree own) is planned) in
    record {
      now = rw (objects, version, nodes, nodes', is) loaded;
      then = λ some. absurd (some none);
      counted = rw (objects, nodes) counted;
      counted_then = λ some. absurd (some none);
      recent = rw version indexed.recent;
      recent_then = λ some. absurd (some none);
      told = rw none (indexed.told ∙ ap (events_of t) empty);
    }
