-- What the keys of the writes of a commit promise.
--     covers, keeps_within     both promises, of the keys that the law names
--     spread_covers, spread_within    the same of a source's write that marks a subtree as a whole
use Rattle.std.proofs.Common.{◌≡◌, List, [], ◌∷◌, ◌++◌, refl, sym, ap, ◌∙◌}
use Rattle.hx_object.specs.declared.object.Id.{Id}
use Rattle.hx_model.specs.Keys.{is_among}
use Rattle.hx_model.specs.State.{State}
use Rattle.hx_model.specs.Tree.{forest_of}
use Rattle.hx_model.specs.Valid.{IsValid}
use Rattle.hx_model.specs.Writes.{MayWriteAll}
use Rattle.hx_model.specs.declared.key.Key.{Key}
use Rattle.hx_model.specs.declared.key.Write.{Write}
use Rattle.hx_marks.specs.Below.{open_below}
use Rattle.hx_marks.specs.Halves.{Covers, IsWithin}
use Rattle.hx_marks.specs.Law.{all_marks}
use Rattle.hx_marks.specs.Spread.{IsSpread, spread_keys}
use Rattle.hx_marks.proofs.Among.{among_append}
use Rattle.hx_marks.proofs.Covering.{law_of_commit, within_commit}
use Rattle.hx_marks.proofs.SpreadLaw.{commit_named}

pub covers : (s : State) (writes : List Write) (keys : List Key) → IsValid s → MayWriteAll s writes → keys ≡ all_marks s writes → Covers s writes keys
covers s writes keys valid may is regular k none = law_of_commit s writes regular valid may k (ap (is_among k) (sym is) ∙ none)

pub keeps_within : (s : State) (writes : List Write) (keys : List Key) → IsValid s → MayWriteAll s writes → keys ≡ all_marks s writes → IsWithin s writes keys
keeps_within s writes keys valid may is regular k marked = within_commit s writes regular valid may k (ap (is_among k) (sym is) ∙ marked)

-- a subtree as a whole: the lists have the same keys
module _ (s : State) (writes : List Write) (write : Write) (id : Id) (others : List Key) (valid : IsValid s) (may : MayWriteAll s writes) (one : writes ≡ write ∷ []) (spread : IsSpread s write id others) where
  same_named : (k : Key) → is_among k (all_marks s writes) ≡ is_among k (others ++ spread_keys (open_below (forest_of s) id.ns) id)
  same_named k = commit_named s (forest_of s) writes write refl one id others spread valid may k ∙ sym (among_append k others (spread_keys (open_below (forest_of s) id.ns) id))

  pub spread_covers : Covers s writes (others ++ spread_keys (open_below (forest_of s) id.ns) id)
  spread_covers regular k none = law_of_commit s writes regular valid may k (same_named k ∙ none)

  pub spread_within : IsWithin s writes (others ++ spread_keys (open_below (forest_of s) id.ns) id)
  spread_within regular k marked = within_commit s writes regular valid may k (same_named k ∙ marked)
