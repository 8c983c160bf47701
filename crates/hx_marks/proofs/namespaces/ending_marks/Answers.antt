use Rattle.std.proofs.Common.{◌++◌, ◌∷◌, ℕ, List, [], ◌∙◌, ap}
use Rattle.std.specs.Prelude.{flat_map}
use Rattle.std.proofs.lemmas.List.{append_assoc}
use Rattle.hx_model.specs.Forest.{Forest, chain_of}
use Rattle.hx_model.specs.declared.key.Key.{Key}
use Rattle.hx_model.specs.declared.key.Key.TheVariants as key
use Rattle.hx_marks.specs.Law.{all_of, open_below, status_keys}
use Rattle.hx_marks.specs.Usage.{usage_keys}
use Rattle.hx_marks.proofs.Adding.{grown_on}
use Rattle.hx_marks.proofs.Sending.{all_open}
use Rattle.hx_marks.proofs.namespaces.ending_marks.Goals as goal

pub all_by_chains-requires : goal.all_by_chains-requires
all_by_chains-requires c = record { part = all_open c.args.current.now.forest.now.nodes c.args.name.now c.deref.result.now (c.deref.ensures.value ∙ c.in_ok-members.ensures.named) }

pub returns : goal.returns
returns c =
    let members = c.deref.ensures.value ∙ c.in_ok-members.ensures.named in
    let below = flat_map (λ (m : List ℕ). all_of c.args.current.now.store.now.objects (chain_of c.args.current.now.forest.now.nodes m) m) c.deref.result.now in
    let statuses = status_keys c.args.current.now.store.now.objects c.args.name.now in
    let quotas = usage_keys c.args.current.now.store.now.objects c.args.name.now in
    let removal = key.Purge c.args.name.now ∷ [] in
    grown_on c.push_purge.result _ _ c.args.keys.now.items (below ++ (statuses ++ quotas)) removal _
    (c.in_ok-usage_keys.ensures
    ∙ ap (λ (keys : List Key). keys ++ quotas) (c.in_ok-status_keys.ensures ∙ ap (λ (keys : List Key). keys ++ statuses) c.in_ok-all_by_chains.ensures)
    ∙ append_assoc (c.args.keys.now.items ++ below) statuses quotas
    ∙ append_assoc c.args.keys.now.items below (statuses ++ quotas))
    (append_assoc below (statuses ++ quotas) removal
    ∙ ap (λ (keys : List Key). below ++ keys) (append_assoc statuses quotas removal)
    ∙ ap (λ (names : List (List ℕ)). flat_map (λ (m : List ℕ). all_of c.args.current.now.store.now.objects (chain_of c.args.current.now.forest.now.nodes m) m) names ++ (statuses ++ (quotas ++ removal))) members
    ∙ ap (λ (f : Forest). flat_map (λ (m : List ℕ). all_of c.args.current.now.store.now.objects (chain_of f m) m) (open_below f c.args.name.now) ++ (statuses ++ (quotas ++ removal))) c.args.current.now.tree)
    c.push_purge.ensures
