-- The write that a key wants may be made, where what it puts may be stored.
--     one_write                     the write of one identity by itself
--     least_at                      what is first in a namespace is found under its identity
--     wanted_may_be_written
use Rattle.std.proofs.Common.{◌≡◌, ◌<◌, ◌+◌, ℕ, Bool, true, false, ◌&&◌, ◌||◌, Option, Some, None, List, [], ◌∷◌, inl, inr, refl, sym, ap, ◌∙◌, subst, true≢false, ◌≤◌, cond, not, filter, length, option_map, Equal, arith}
use Rattle.std.specs.Cmp.{tied_itself}
use Rattle.std.specs.Prelude.{is_some, option_and_then, if◌then◌else◌, IsSomeAnd}
use Rattle.std.specs.List.{IsDistinct}
use Rattle.std.specs.Str.{bytes_eq}
use Rattle.std.proofs.lemmas.Bool.{and_parts, false_from_ne_true, not-true}
use Rattle.hx_object.specs.Kinds.{is_namespace, is_hierarchy, is_in_cluster}
use Rattle.hx_object.specs.Order.{id_cmp}
use Rattle.hx_object.specs.declared.kind.Kind.{Kind}
use Rattle.hx_object.specs.declared.kind.Kind.TheVariants.{Namespace}
use Rattle.hx_object.specs.declared.object.Id.{Id}
use Rattle.hx_object.specs.declared.object.Object.{Object}
use Rattle.hx_object.proofs.KindTests.{namespace_kind}
use Rattle.hx_model.specs.Forest.{chain_of}
use Rattle.hx_model.specs.Hands.{versioned}
use Rattle.hx_model.specs.Limits.{greatest_version}
use Rattle.hx_model.specs.Modes.{mode_of}
use Rattle.hx_model.specs.Propagation.{copy_of, id_in, top_source}
use Rattle.hx_model.specs.Serving.{IsServed, IsKept}
use Rattle.hx_model.specs.State.{State, Objects, object_at, same_id, namespace_id, with_version, has_home, ascends, is_below_all, lies_in, least_in}
use Rattle.hx_model.specs.Subnamespaces.{anchor_id}
use Rattle.hx_model.specs.Tree.{forest_of, is_terminating}
use Rattle.hx_model.specs.Valid.{IsValid}
use Rattle.hx_model.specs.Wanted.{wanted_write, labelled, subnamespace, with_status_of, anchor_status, quota_id, sums_of, with_sums, next_to_go}
use Rattle.hx_model.specs.Writes.{id_written, MayPut, MayCut, MayWrite, MayWriteAll, AreApart, HasPlace, changes_names}
use Rattle.hx_model.specs.declared.key.Key.{Key}
use Rattle.hx_model.specs.declared.key.Key.TheVariants as key
use Rattle.hx_model.specs.declared.key.Write.{Write}
use Rattle.hx_model.specs.declared.key.Write.TheVariants.{Put, Cut}
use Rattle.hx_model.proofs.Legality.{legal_with_version}
use Rattle.hx_model.proofs.Objects.{found_id, id_total, is_same_id, same_from_Equal, none_below}
use Rattle.hx_model.proofs.Storing.{All-found}
use Rattle.hx_marks.proofs.Frames.{least_lies}
use Rattle.hx_marks.proofs.Making.{IsCopyOrCut, in_mode_is, IsCopyWrite, copy_write_known, IsTreeWrite, tree_write_known, IsChildWrite, child_write_known, IsStatusWrite, status_write_known, IsUsedWrite, used_write_known, IsRemovalWrite, removal_write_known}
use Rattle.hx_marks.proofs.Replacing.{copied_leaf, leaving_found}
use Rattle.hx_marks.proofs.ReportWrites.{IsReportWrite, report_write_known}

-- ---- one write by itself

alone_distinct : (id : Id) → IsDistinct same_id (id ∷ [])
unfolding IsDistinct
alone_distinct id = (tt, tt)

unjoined : (kind : Kind) (b : Bool) → (is_namespace kind && is_hierarchy kind && b) ≡ false
unjoined Namespace b = refl
unjoined _ b = refl

alone_apart : (id : Id) → AreApart (id ∷ [])
alone_apart id = ((unjoined id.kind (bytes_eq id.name id.ns), tt), tt)

-- one that may count counts once at most
one_counts : (write : Write) (p : Write → Bool) → length (filter p (write ∷ [])) ≤ 1
one_counts write p = by (p write)
  where
    by : (b : Bool) → length (if b then write ∷ [] else []) ≤ 1
    by true = omega arith
    by false = omega arith

pub one_write : (s : State) (write : Write) → s.last < greatest_version → MayWrite s write → MayWriteAll s (write ∷ [])
one_write s write fits may = record {
  each = (may, tt);
  distinct = alone_distinct (id_written write);
  apart = alone_apart (id_written write);
  alone = λ _. refl;
  naming = one_counts write (changes_names s.objects);
  fits = λ _. fits;
}

-- ---- what is put

served_with_version : (x : Object) (version : ℕ) → IsServed x → IsServed (with_version x version)
served_with_version x version served =
    let kept : IsKept (with_version x version) = record { labels = served.kept.labels; annotations = served.kept.annotations; payload = served.kept.payload; typed = served.kept.typed } in
    record { legal = legal_with_version x version served.legal; kept = kept }

-- the namespace that an identity lies in is there
home_there : (objects : Objects) (id : Id) → is_some (object_at objects (namespace_id id.ns)) ≡ true → has_home objects id ≡ true
home_there objects id there = by (is_in_cluster id.kind)
  where
    by : (b : Bool) → (b || is_some (option_and_then (object_at objects) (if b then None else Some (namespace_id id.ns)))) ≡ true
    by true = refl
    by false = there

-- a namespace lies in none
namespace_home : (objects : Objects) (n : List ℕ) (id : Id) → namespace_id n ≡ id → has_home objects id ≡ true
namespace_home objects n id is = subst (λ (q : Id). has_home objects q ≡ true) is refl

-- ---- what is first in a namespace

-- it is found under its identity
pub least_at : (objects : Objects) (n : List ℕ) (x : Object) → ascends objects ≡ true → least_in objects n ≡ Some x → object_at objects x.id ≡ Some x
least_at [] n x up e = absurd (true≢false (sym (ap is_some e)))
least_at (y ∷ objects) n x up e =
    let parts = and_parts (is_below_all y.id objects) (ascends objects) up in
    elim (lies_in n y.id) as (λ b. cond b (Some y) (least_in objects n) ≡ Some x → cond (same_id x.id y.id) (Some y) (object_at objects x.id) ≡ Some x) [
      | true ↦ λ found. ap (λ b. cond b (Some y) (object_at objects x.id)) (same_from_Equal x.id y.id (itself found)) ∙ found
      | false ↦ λ found. let later = least_at objects n x parts.1 found in ap (λ b. cond b (Some y) (object_at objects x.id)) (differs parts.0 later) ∙ later
    ] e
  where
    itself : Some y ≡ Some x → id_cmp x.id y.id ≡ Equal
    itself found = let same : y ≡ x = cc in ap (λ (z : Object). id_cmp x.id z.id) same ∙ tied_itself id_total x.id

    differs : is_below_all y.id objects ≡ true → object_at objects x.id ≡ Some x → same_id x.id y.id ≡ false
    differs low later = false_from_ne_true (same_id x.id y.id) (λ h. true≢false (ap is_some (sym later ∙ ap (object_at objects) (is_same_id x.id y.id h) ∙ none_below y.id objects low)))

-- ---- what is wanted

module _ (s : State) (write : Write) (fits : s.last < greatest_version) (served : (x : Object) → write ≡ Put x → IsServed x) where
  copy_may : (m : List ℕ) (kind : Kind) (name : List ℕ) → IsCopyWrite s m kind name write → MayWrite s (versioned (s.last + 1) write)
  copy_may m kind name known = by (in_mode_is (mode_of s kind) (top_source s m kind name known.home.labels) m (object_at s.objects (id_in kind name m)) write known.wanted)
    where
      by : IsCopyOrCut (top_source s m kind name known.home.labels) m (object_at s.objects (id_in kind name m)) write → MayWrite s (versioned (s.last + 1) write)
      by (inl (x, top, is)) =
          let place : (copy_of x m).id ≡ id_in kind name m = ap id_written (sym is) ∙ known.place in
          let out : is_namespace (copy_of x m).id.kind ≡ false = ap (λ (q : Id). is_namespace q.kind) place ∙ copied_leaf kind known.copied in
          let may : MayPut s (with_version (copy_of x m) (s.last + 1)) = record {
            served = served_with_version (copy_of x m) (s.last + 1) (served (copy_of x m) is);
            next = refl;
            home = home_there s.objects (copy_of x m).id (ap is_some known.there);
            place = λ one. absurd (true≢false (sym one ∙ out));
          } in
          subst (λ (w : Write). MayWrite s (versioned (s.last + 1) w)) (sym is) may
      by (inr (y, at, is)) =
          let id : id_in kind name m ≡ y.id = found_id s.objects (id_in kind name m) y at in
          let may : MayCut s y.id = record {
            there = (y, ap (object_at s.objects) (sym id) ∙ at);
            leaf = λ one. absurd (true≢false (sym one ∙ ap (λ (q : Id). is_namespace q.kind) (sym id) ∙ copied_leaf kind known.copied));
          } in
          subst (λ (w : Write). MayWrite s (versioned (s.last + 1) w)) (sym is) may

  tree_may : (m : List ℕ) → IsTreeWrite s m write → MayWrite s (versioned (s.last + 1) write)
  tree_may m known =
      let x = known.home in
      let y = labelled (chain_of (forest_of s) m) x in
      let id : namespace_id m ≡ x.id = found_id s.objects (namespace_id m) x known.there in
      let there : object_at s.objects x.id ≡ Some x = ap (object_at s.objects) (sym id) ∙ known.there in
      let may : MayPut s (with_version y (s.last + 1)) = record {
        served = served_with_version y (s.last + 1) (served y known.puts);
        next = refl;
        home = namespace_home s.objects m x.id id;
        place = λ _. subst (λ (o : Option Object). HasPlace o (with_version y (s.last + 1))) (sym there) (record { annotation = refl; phase = λ leaves. leaves });
      } in
      subst (λ (w : Write). MayWrite s (versioned (s.last + 1) w)) (sym known.puts) may

  -- the namespace of a report is there
  report_may : (n : List ℕ) → IsReportWrite s n write → MayWrite s (versioned (s.last + 1) write)
  report_may n known =
      let y = known.report in
      let may : MayPut s (with_version y (s.last + 1)) = record {
        served = served_with_version y (s.last + 1) (served y known.puts);
        next = refl;
        home = home_there s.objects y.id (ap (λ (q : Id). is_some (object_at s.objects (namespace_id q.ns))) known.place ∙ ap is_some known.there);
        place = λ one. absurd (true≢false (sym one ∙ ap (λ (q : Id). is_namespace q.kind) known.place));
      } in
      subst (λ (w : Write). MayWrite s (versioned (s.last + 1) w)) (sym known.puts) may

  -- a name that no namespace has, under a parent that may be there or not
  child_may : (n m : List ℕ) → IsChildWrite s n m write → MayWrite s (versioned (s.last + 1) write)
  child_may n m known =
      let y = subnamespace n m in
      let may : MayPut s (with_version y (s.last + 1)) = record {
        served = served_with_version y (s.last + 1) (served y known.puts);
        next = refl;
        home = refl;
        place = λ _. subst (λ (o : Option Object). HasPlace o (with_version y (s.last + 1))) (sym known.absent) refl;
      } in
      subst (λ (w : Write). MayWrite s (versioned (s.last + 1) w)) (sym known.puts) may

  -- an anchor's namespace is there
  status_may : IsValid s → (n m : List ℕ) → IsStatusWrite s n m write → MayWrite s (versioned (s.last + 1) write)
  status_may valid n m known =
      let x = known.anchor in
      let y = with_status_of (anchor_status s n m) x in
      let id : anchor_id n m ≡ x.id = found_id s.objects (anchor_id n m) x known.there in
      let may : MayPut s (with_version y (s.last + 1)) = record {
        served = served_with_version y (s.last + 1) (served y known.puts);
        next = refl;
        home = All-found (λ (z : Object). has_home s.objects z.id ≡ true) (anchor_id n m) x s.objects valid.housed known.there;
        place = λ one. absurd (true≢false (sym one ∙ ap (λ (q : Id). is_namespace q.kind) (sym id)));
      } in
      subst (λ (w : Write). MayWrite s (versioned (s.last + 1) w)) (sym known.puts) may

  -- so is a quota's
  used_may : IsValid s → (n m : List ℕ) → IsUsedWrite s n m write → MayWrite s (versioned (s.last + 1) write)
  used_may valid n m known =
      let x = known.quota in
      let y = with_sums (sums_of s n (Some x)) x in
      let id : quota_id n m ≡ x.id = found_id s.objects (quota_id n m) x known.there in
      let may : MayPut s (with_version y (s.last + 1)) = record {
        served = served_with_version y (s.last + 1) (served y known.puts);
        next = refl;
        home = All-found (λ (z : Object). has_home s.objects z.id ≡ true) (quota_id n m) x s.objects valid.housed known.there;
        place = λ one. absurd (true≢false (sym one ∙ ap (λ (q : Id). is_namespace q.kind) (sym id)));
      } in
      subst (λ (w : Write). MayWrite s (versioned (s.last + 1) w)) (sym known.puts) may

  -- what is first in a namespace that is on its way out goes, and then the namespace
  removal_may : IsValid s → (n : List ℕ) → IsRemovalWrite s n write → MayWrite s (versioned (s.last + 1) write)
  removal_may valid n known = by (least_in s.objects n) refl
    where
      gone : (o : Option Object) → least_in s.objects n ≡ o → write ≡ Cut (next_to_go (option_map (λ (x : Object). x.id) o) n)
      gone o is = known.cuts ∙ ap (λ (o : Option Object). Cut (next_to_go (option_map (λ (x : Object). x.id) o) n)) is

      by : (o : Option Object) → least_in s.objects n ≡ o → MayWrite s (versioned (s.last + 1) write)
      by None empty =
          let found = leaving_found s valid n known.leaves in
          let may : MayCut s (namespace_id n) = record {
            there = (found.0, found.1);
            leaf = λ _. record { ended = subst (λ (o : Option Object). IsSomeAnd o (λ x. is_terminating x.payload ≡ true)) (sym found.1) found.2; empty = empty };
          } in
          subst (λ (w : Write). MayWrite s (versioned (s.last + 1) w)) (sym (gone None empty)) may
      by (Some x) first =
          let inner : is_in_cluster x.id.kind ≡ false = not-true (is_in_cluster x.id.kind) (and_parts (not (is_in_cluster x.id.kind)) _ (least_lies s.objects n x first)).0 in
          let may : MayCut s x.id = record {
            there = (x, least_at s.objects n x valid.in_order first);
            leaf = λ one. absurd (true≢false (sym (ap is_in_cluster (namespace_kind x.id.kind one)) ∙ inner));
          } in
          subst (λ (w : Write). MayWrite s (versioned (s.last + 1) w)) (sym (gone (Some x) first)) may

-- what a key wants may be made, where what is put may be stored
pub wanted_may_be_written : (s : State) (k : Key) (write : Write) → IsValid s → s.last < greatest_version → wanted_write s k ≡ Some write → ((x : Object) → write ≡ Put x → IsServed x) → MayWriteAll s (versioned (s.last + 1) write ∷ [])
wanted_may_be_written s (key.Copy m kind name) write valid fits wants served = one_write s (versioned (s.last + 1) write) fits (copy_may s write fits served m kind name (copy_write_known s m kind name write wants))
wanted_may_be_written s (key.Tree m) write valid fits wants served = one_write s (versioned (s.last + 1) write) fits (tree_may s write fits served m (tree_write_known s m write wants))
wanted_may_be_written s (key.Report m) write valid fits wants served = one_write s (versioned (s.last + 1) write) fits (report_may s write fits served m (report_write_known s m write valid wants))
wanted_may_be_written s (key.Child m name) write valid fits wants served = one_write s (versioned (s.last + 1) write) fits (child_may s write fits served m name (child_write_known s m name write wants))
wanted_may_be_written s (key.Anchor m name) write valid fits wants served = one_write s (versioned (s.last + 1) write) fits (status_may s write fits served valid m name (status_write_known s m name write wants))
wanted_may_be_written s (key.Used m name) write valid fits wants served = one_write s (versioned (s.last + 1) write) fits (used_may s write fits served valid m name (used_write_known s m name write wants))
wanted_may_be_written s (key.Purge m) write valid fits wants served = one_write s (versioned (s.last + 1) write) fits (removal_may s write fits served valid m (removal_write_known s m write wants))
