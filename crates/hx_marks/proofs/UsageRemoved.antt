-- What quotas tell where a namespace goes that is on its way out, and in which nothing lies.
--     usage_of_removed     the key of a quota that isn't marked wants the same
use Rattle.std.proofs.Common.{◌≡◌, ℕ, true, false, Option, Some, None, List, [], ◌∷◌, refl, sym, ap, ◌∙◌, true≢false}
use Rattle.std.specs.Prelude.{if◌then◌else◌}
use Rattle.std.specs.List.{AllByRecursion}
use Rattle.std.specs.Str.{bytes_eq}
use Rattle.std.proofs.lemmas.Bool.{false_from_ne_true}
use Rattle.hx_object.specs.Kinds.{is_hierarchy, is_namespace, is_quota}
use Rattle.hx_object.specs.declared.object.Id.{Id}
use Rattle.hx_model.specs.Covered.{IsSameFor}
use Rattle.hx_model.specs.Forest.{Forest, is_in, parent_of, chain_of, tail_of}
use Rattle.hx_model.specs.Keys.{is_among}
use Rattle.hx_model.specs.Moves.{chain_from}
use Rattle.hx_model.specs.Serving.{IsServed}
use Rattle.hx_model.specs.State.{State, object_at, ascends, state_after}
use Rattle.hx_model.specs.Tree.{forest_of}
use Rattle.hx_model.specs.Valid.{AreHoused, IsValid}
use Rattle.hx_model.specs.Wanted.{quota_id}
use Rattle.hx_model.specs.Writes.{MayCut, MayWriteAll}
use Rattle.hx_model.specs.declared.key.Key.{Key}
use Rattle.hx_model.specs.declared.key.Key.TheVariants as key
use Rattle.hx_model.specs.declared.key.Write.TheVariants.{Cut}
use Rattle.hx_model.proofs.Climbing.{through, chain_above, above_chain}
use Rattle.hx_model.proofs.Homes.{housed_gone}
use Rattle.hx_model.proofs.Opening.{chain_first}
use Rattle.hx_model.proofs.Parents.{swap_same}
use Rattle.hx_model.proofs.Storing.{All-cut}
use Rattle.hx_model.proofs.Writes.{ascends_after}
use Rattle.hx_marks.specs.Usage.{usage_of, removed_usage, namespace_usage, hierarchy_usage, charged_usage, usage_marks}
use Rattle.hx_marks.proofs.CreatedChains.{IsMade, in_rest}
use Rattle.hx_marks.proofs.Keeping.{turned}
use Rattle.hx_marks.proofs.OneMore.{HasOneMore}
use Rattle.hx_marks.proofs.OneMoreWrites.{cut_more}
use Rattle.hx_marks.proofs.Replacing.{valid_served}
use Rattle.hx_marks.proofs.UsageCreated.{child_any, there_then, named_then, above_then, lies_apart, more_used}
use Rattle.hx_marks.proofs.UsageTree.{unmarked_apart, found_home}

-- a name that the chain of its parent has without it is behind it in its own
behind_gone : (f g : Forest) (n : List ℕ) → IsMade f g n → (a : List ℕ) → bytes_eq a n ≡ false → is_in a (chain_from f (parent_of g n)) ≡ true → is_in a (tail_of (chain_of g n)) ≡ true
behind_gone f g n made a off = by (parent_of g n) refl
  where
    by : (next : Option (List ℕ)) → parent_of g n ≡ next → is_in a (chain_from f next) ≡ true → is_in a (tail_of (chain_of g n)) ≡ true
    by None is mem = absurd (true≢false (sym mem))
    by (Some p) is mem =
        in_rest a n (tail_of (chain_of g n)) off
        (sym (ap (is_in a) (chain_first g n made.made)) ∙ above_chain g n a (through made.made is (above_then f g n made p a (chain_above f p a mem))))

module _ (s : State) (id : Id) (valid : IsValid s) (may : MayCut s id) (is : is_namespace id.kind ≡ true) where
  abbrev t : State
  t = state_after s (Cut id ∷ [])

  abbrev n : List ℕ
  n = id.name

  served_then : AllByRecursion IsServed t.objects
  served_then = All-cut IsServed id s.objects (valid_served s valid)

  -- the state before it has one namespace more
  more : HasOneMore t s n
  more = cut_more s id valid may is

  -- nothing lay in it
  housed_then : AreHoused t.objects
  housed_then = housed_gone id s.objects (may.leaf is).empty valid.housed

  marks_are : usage_marks s id (object_at s.objects id) None ≡ removed_usage s n
  marks_are =
      let rest : List Key = if is_hierarchy id.kind then hierarchy_usage s id None else (if is_quota id.kind then key.Used id.ns n ∷ [] else charged_usage s id.ns (object_at s.objects id) None) in
      ap (λ b. if b then namespace_usage s n (object_at s.objects id) None else rest) is ∙ ap (λ o. namespace_usage s n o None) may.there.1

  high : ascends t.objects ≡ true
  high = ascends_after (Cut id ∷ []) s.objects valid.in_order

  used_gone : (a name : List ℕ) → is_among (key.Used a name) (removed_usage s n) ≡ false → IsSameFor s t (key.Used a name)
  used_gone a name out = turned t s (key.Used a name) (more_used t s n more served_then housed_then high valid.in_order a name (λ q at p there names.
      let off : bytes_eq n a ≡ false = lies_apart t s n more served_then housed_then high valid.in_order a (found_home t.objects (quota_id a name) q housed_then at refl) in
      let outside : is_in a (tail_of (chain_of (forest_of s) n)) ≡ false =
      unmarked_apart s.objects a name q (tail_of (chain_of (forest_of s) n)) (more.others (quota_id a name) refl ∙ at)
      (sym (ap (λ b. is_among (key.Used a name) (if b then usage_of s.objects (tail_of (chain_of (forest_of s) n)) else [])) (child_any (forest_of s) n p (there_then (forest_of t) (forest_of s) n more.made p there) (named_then (forest_of t) (forest_of s) n more.made p there ∙ names))) ∙ out) in
      false_from_ne_true (is_in a (chain_from (forest_of t) (parent_of (forest_of s) n))) (λ mem. true≢false (sym (behind_gone (forest_of t) (forest_of s) n more.made a (swap_same n a off) mem) ∙ outside))))

-- a namespace goes: the key of a quota that isn't marked wants the same
pub usage_of_removed : (s : State) (id : Id) → IsValid s → MayWriteAll s (Cut id ∷ []) → is_namespace id.kind ≡ true → (n name : List ℕ)
    → is_among (key.Used n name) (usage_marks s id (object_at s.objects id) None) ≡ false → IsSameFor s (state_after s (Cut id ∷ [])) (key.Used n name)
usage_of_removed s id valid may is n name out = used_gone s id valid may.each.0 is n name (sym (ap (is_among (key.Used n name)) (marks_are s id valid may.each.0 is)) ∙ out)
