-- What a write marks, in two parts.
--     usage_by s write         the quotas whose usage it changes
--     marks_beside s write     all else
--     marks_parts, among_parts what is marked are both
--     beside_out, usage_out    a key that isn't marked is in neither
--     UsedSame s t k           where a key is of a quota, it wants the same
--     used_same_for            so it does where it isn't marked
--     put_again_usage          a namespace that is replaced marks none so
--     namespace_usage_key, hierarchy_usage_key    quotas that a namespace or a HierarchyConfiguration marks are there
use Rattle.std.proofs.Common.{◌≡◌, ℕ, Bool, true, false, ◌||◌, Option, Some, None, List, [], ◌∷◌, ◌++◌, sym, ap, ◌∙◌, true≢false}
use Rattle.std.specs.Prelude.{if◌then◌else◌, option_and_then}
use Rattle.std.specs.Str.{bytes_eq}
use Rattle.std.proofs.lemmas.List.{append_assoc}
use Rattle.hx_object.specs.Kinds.{is_namespace, is_hierarchy, is_quota}
use Rattle.hx_object.specs.declared.object.Id.{Id}
use Rattle.hx_object.specs.declared.object.Object.{Object}
use Rattle.hx_model.specs.Cases.{same_name}
use Rattle.hx_model.specs.Covered.{IsSameFor}
use Rattle.hx_model.specs.Forest.{parent_of, children_of, chain_of, tail_of}
use Rattle.hx_model.specs.Keys.{is_among, is_key}
use Rattle.hx_model.specs.Moves.{chain_from, up_to}
use Rattle.hx_model.specs.State.{State, object_at, namespace_id, state_after}
use Rattle.hx_model.specs.Tree.{forest_of, hierarchy, hierarchy_id, parent_with}
use Rattle.hx_model.specs.Writes.{id_written}
use Rattle.hx_model.specs.declared.key.Key.{Key}
use Rattle.hx_model.specs.declared.key.Key.TheVariants as key
use Rattle.hx_model.specs.declared.key.Write.{Write}
use Rattle.hx_model.specs.declared.key.Write.TheVariants.{Put}
use Rattle.hx_model.proofs.Planting.{hierarchy_no_namespace}
use Rattle.hx_marks.specs.Law.{in_one, marks_by, marks_of, object_written, report_marks}
use Rattle.hx_marks.specs.Reports.{has_any}
use Rattle.hx_marks.specs.Usage.{charged_usage, hierarchy_usage, moved_usage, namespace_usage, usage_marks, usage_of}
use Rattle.hx_marks.proofs.Among.{among_append, out_left, out_right}
use Rattle.hx_marks.proofs.UsageKeys.{usage_of_key}

-- the quotas whose usage it changes
abbrev pub usage_by : State → Write → List Key
usage_by s write = usage_marks s (id_written write) (object_at s.objects (id_written write)) (object_written write)

-- all else
abbrev pub marks_beside : State → Write → List Key
marks_beside s write =
    marks_by s (state_after s (write ∷ [])) (id_written write) (object_at s.objects (id_written write)) (object_written write)
    ++ report_marks s (state_after s (write ∷ [])) (id_written write) (object_at s.objects (id_written write)) (object_written write)

pub marks_parts : (s : State) (write : Write) → marks_of s write ≡ marks_beside s write ++ usage_by s write
marks_parts s write =
    let t = state_after s (write ∷ []) in
    let old = object_at s.objects (id_written write) in
    let new = object_written write in
    sym (append_assoc (marks_by s t (id_written write) old new) (report_marks s t (id_written write) old new) (usage_by s write))

module _ (s : State) (write : Write) (k : Key) where
  pub among_parts : is_among k (marks_of s write) ≡ (is_among k (marks_beside s write) || is_among k (usage_by s write))
  among_parts = ap (is_among k) (marks_parts s write) ∙ among_append k (marks_beside s write) (usage_by s write)

  pub beside_out : is_among k (marks_of s write) ≡ false → is_among k (marks_beside s write) ≡ false
  beside_out out = out_left (is_among k (marks_beside s write)) (is_among k (usage_by s write)) (sym among_parts ∙ out)

  pub usage_out : is_among k (marks_of s write) ≡ false → is_among k (usage_by s write) ≡ false
  usage_out out = out_right (is_among k (marks_beside s write)) (is_among k (usage_by s write)) (sym among_parts ∙ out)

-- ---- keys of quotas

-- where a key is of a quota, it wants the same
abbrev pub UsedSame : State → State → Key → Type 0
UsedSame s t k = (n name : List ℕ) → k ≡ key.Used n name → IsSameFor s t (key.Used n name)

-- so it does where it isn't marked
pub used_same_for : (s t : State) (marks : List Key) (k : Key) → ((n name : List ℕ) → is_among (key.Used n name) marks ≡ false → IsSameFor s t (key.Used n name)) → is_among k marks ≡ false → UsedSame s t k
used_same_for s t marks k law out n name is = law n name (sym (ap (λ (q : Key). is_among q marks) is) ∙ out)

-- a namespace that is replaced, or begins to leave, marks none so
pub put_again_usage : (s : State) (x old : Object) → is_namespace x.id.kind ≡ true → object_at s.objects x.id ≡ Some old → usage_by s (Put x) ≡ []
put_again_usage s x old is there =
    ap (λ b. if b then namespace_usage s x.id.name (object_at s.objects x.id) (Some x) else beside) is ∙ ap (λ o. namespace_usage s x.id.name o (Some x)) there
  where
    beside : List Key
    beside =
        if is_hierarchy x.id.kind then hierarchy_usage s x.id (Some x) else (
        if is_quota x.id.kind then key.Used x.id.ns x.id.name ∷ [] else charged_usage s x.id.ns (object_at s.objects x.id) (Some x))

-- ---- quotas that are marked are there

module _ (s : State) (k : Key) where
  cond_key : (b : Bool) (xs ys : List Key) → (is_among k xs ≡ true → is_key s k ≡ true) → (is_among k ys ≡ true → is_key s k ≡ true) → is_among k (if b then xs else ys) ≡ true → is_key s k ≡ true
  cond_key true xs ys one other mem = one mem
  cond_key false xs ys one other mem = other mem

  none_key : is_among k [] ≡ true → is_key s k ≡ true
  none_key mem = absurd (true≢false (sym mem))

  by_namespace : (n : List ℕ) (old new : Option Object) → is_among k (namespace_usage s n old new) ≡ true → is_key s k ≡ true
  by_namespace n (Some old) (Some x) mem = none_key mem
  by_namespace n (Some old) None mem =
      let names = tail_of (chain_of (forest_of s) n) in
      cond_key (has_any (children_of (forest_of s) n)) (usage_of s.objects names) [] (usage_of_key s names k) none_key mem
  by_namespace n None (Some x) mem =
      let names = chain_from (forest_of s) (parent_with (object_at s.objects (hierarchy_id n)) x) in
      cond_key (has_any (children_of (forest_of s) n)) (usage_of s.objects names) [] (usage_of_key s names k) none_key mem
  by_namespace n None None mem = none_key mem

  by_move : (n : List ℕ) (parent : Option (List ℕ)) → is_among k (moved_usage s n parent) ≡ true → is_key s k ≡ true
  by_move n parent mem =
      let names = in_one (tail_of (chain_of (forest_of s) n)) (up_to n (chain_from (forest_of s) parent)) in
      cond_key (same_name (parent_of (forest_of s) n) parent) [] (usage_of s.objects names) none_key (usage_of_key s names k) mem

  module _ (id : Id) (old new : Option Object) where
    abbrev inner : List Key
    inner = if is_quota id.kind then key.Used id.ns id.name ∷ [] else charged_usage s id.ns old new

    abbrev placed : List Key
    placed = if is_hierarchy id.kind then hierarchy_usage s id new else inner

    pub namespace_usage_key : is_namespace id.kind ≡ true → is_among k (usage_marks s id old new) ≡ true → is_key s k ≡ true
    namespace_usage_key is mem = by_namespace id.name old new (sym (ap (λ b. is_among k (if b then namespace_usage s id.name old new else placed)) is) ∙ mem)

    pub hierarchy_usage_key : is_hierarchy id.kind ≡ true → is_among k (usage_marks s id old new) ≡ true → is_key s k ≡ true
    hierarchy_usage_key is mem =
        let parent = option_and_then (parent_with new) (object_at s.objects (namespace_id id.ns)) in
        cond_key (bytes_eq id.name hierarchy) (moved_usage s id.ns parent) [] (by_move id.ns parent) none_key
        (sym (ap (λ b. is_among k (if b then namespace_usage s id.name old new else placed)) (hierarchy_no_namespace id is) ∙ ap (λ b. is_among k (if b then hierarchy_usage s id new else inner)) is) ∙ mem)
