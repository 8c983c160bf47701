-- What the parts of a review promise one another.
--     IsRefusal          why an ask is refused
--     IsConfigFor        the HNCConfiguration that is stored, where a copy is removed. The rules look at it nowhere else
--     IsConflictFor      whether a write makes a conflict. The rules look at it where they aren't skipped, for a HierarchyConfiguration that closes no cycle, an HNCConfiguration, and an object that can be copied
--     AreFindings        what is read of a write before the rules
--     IsCreation         an object that a POST gives, where nothing stands against it
--     IsReplacement      the object that a PUT gives, where neither its version nor a rule nor a quota stands against it
--     IsDeletion         what a DELETE writes of an object that is there, where no rule stands against it
--     IsReviewed         the review of one write
--     place_refusals     the refusals of a POST by its place
--     growth_refusals    the refusals by the sum of sizes and by the versions
--     objects_with       the objects once one stands in the place of another
use Rattle.std.specs.Prelude.{◌≡◌, ◌⊎◌, ◌+◌, ◌<◌, ℕ, Bool, true, false, nat_le, is_some, List, [], ◌∷◌, Option, Some, None, IfSome}
use Rattle.hx_object.specs.Kinds.{can_be_copied}
use Rattle.hx_object.specs.declared.kind.Kind.TheVariants.{Namespace, HncConfiguration}
use Rattle.hx_object.specs.declared.object.Id.{Id}
use Rattle.hx_object.specs.declared.object.Object.{Object}
use Rattle.hx_model.specs.Answers.{refusal_of, version_refusal, rule_refusal, quota_refusal, replaced_by, deleting, exceeds_bytes, lacks_namespace, already_there}
use Rattle.hx_model.specs.Cases.{Case, any_of}
use Rattle.hx_model.specs.Conflicts.{makes_conflict, with_written}
use Rattle.hx_model.specs.First.{so, first}
use Rattle.hx_model.specs.Limits.{is_hierarchy, is_copy, greatest_version}
use Rattle.hx_model.specs.Modes.{config_id}
use Rattle.hx_model.specs.RulesCopies.{misuses_exceptions}
use Rattle.hx_model.specs.RulesHierarchy.{closes_cycle}
use Rattle.hx_model.specs.State.{State, Objects, object_at, put, cut, with_version, has_home}
use Rattle.hx_model.specs.Serving.{IsServed}
use Rattle.hx_model.specs.Valid.{IsValid}
use Rattle.hx_model.specs.declared.ask.Ask.{Ask}
use Rattle.hx_model.specs.declared.ask.Ask.TheVariants.{Create, Replace, Delete}
use Rattle.hx_model.specs.declared.ask.Answer.{Answer}
use Rattle.hx_model.specs.declared.key.Write.{Write}
use Rattle.hx_model.specs.declared.refusal.Refusal.{Refusal}
use Rattle.hx_model.specs.declared.refusal.Refusal.TheVariants.{NoMemory, Broken, NotFound}
use Rattle.hx_model.specs.declared.rule.Rule.TheVariants.{L3, L4}
use Rattle.hx_admit.specs.declared.findings.Findings.{Findings}

-- no memory was left, or this refuses the ask
abbrev pub IsRefusal : State → Ask → Refusal → Type 0
IsRefusal s ask refusal = (refusal ≡ NoMemory) ⊎ (refusal_of s ask ≡ Some refusal)

-- the HNCConfiguration that is stored, where a copy is removed
abbrev pub IsConfigFor : State → Option Object → Option Object → Option Object → Type 0
IsConfigFor s old new found = is_some new ≡ false → any_of is_copy old ≡ true → found ≡ object_at s.objects config_id

-- whether a write makes a conflict, where a rule looks at it
pub record IsConflictFor (c : Case) (conflict : Bool) : Type 0 where
  pub move : is_hierarchy c.id.kind ≡ true → c.skip ≡ false → closes_cycle c ≡ false → conflict ≡ c.conflict
  pub modes : c.id.kind ≡ HncConfiguration → c.skip ≡ false → conflict ≡ c.conflict
  pub source : is_some c.new ≡ true → can_be_copied c.id.kind ≡ true → c.skip ≡ false → conflict ≡ c.conflict

-- the same of an object that is put, if it can be copied
abbrev pub IsConflictOf : State → Option Object → Bool → Type 0
IsConflictOf s new conflict = IfSome new (λ x. can_be_copied x.id.kind ≡ true → conflict ≡ makes_conflict s (with_written s x.id (Some x)))

-- what is read of a write before the rules
pub record AreFindings (c : Case) (found : Findings) : Type 0 where
  pub exceptions : found.is_invalid ≡ misuses_exceptions c
  pub conflict : IsConflictFor c found.conflict

-- an object that a POST gives, where nothing stands against it
pub record IsCreation (s : State) (x : Object) (skip : Bool) : Type 0 where
  pub free : object_at s.objects x.id ≡ None
  pub home : has_home s.objects x.id ≡ true
  pub passes : refusal_of s (Create x skip) ≡ None
  pub fits : s.last < greatest_version

-- the object that a PUT gives in the place of the one that is there, where neither its version nor a rule nor a quota stands against it
pub record IsReplacement (s : State) (x old : Object) (expected : Option ℕ) (skip : Bool) (next : Object) : Type 0 where
  pub valid : IsValid s
  pub served : IsServed x
  pub there : object_at s.objects x.id ≡ Some old
  pub passes : first (version_refusal s (Replace x expected skip) ∷ rule_refusal s (Replace x expected skip) ∷ []) ≡ None
  pub quotas : quota_refusal s (Replace x expected skip) ≡ None
  pub gives : next ≡ replaced_by old x

-- what a DELETE writes of an object that is there, where no rule stands against it
pub record IsDeletion (s : State) (id : Id) (old : Object) (skip : Bool) (writes : List Write) : Type 0 where
  pub valid : IsValid s
  pub there : object_at s.objects id ≡ Some old
  pub passes : rule_refusal s (Delete id skip) ≡ None
  pub changes : writes ≡ deleting s id skip

-- the review of one write, and its answer
pub record IsReviewed (write : Write) (answer : Answer) (writes : List Write) (says : Answer) : Type 0 where
  pub writing : writes ≡ write ∷ []
  pub answers : says ≡ answer

-- the objects once one stands in the place of that of an identity, or that one is gone
abbrev pub objects_with : State → Id → Option Object → Objects
objects_with s id None = cut id s.objects
objects_with s id (Some x) = put (with_version x (s.last + 1)) s.objects

-- the namespace isn't there, or the object is
abbrev pub place_refusals : State → Id → List (Option Refusal)
place_refusals s id =
    so (lacks_namespace s id) (NotFound Namespace id.ns)
    ∷ so (is_some (object_at s.objects id)) (already_there id)
    ∷ []

-- the sum of sizes would pass its limit, or no version is left
abbrev pub growth_refusals : State → Objects → List (Option Refusal)
growth_refusals s rows =
    so (exceeds_bytes s.objects rows) (Broken L3)
    ∷ so (nat_le greatest_version s.last) (Broken L4)
    ∷ []
