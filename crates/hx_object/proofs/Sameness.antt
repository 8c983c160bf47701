-- What `==` says of two objects and of their parts: that they are equal.
use Rattle.std.proofs.Common.{◌≡◌, ℕ, Bool, true, Some, None, List, [], ◌∷◌, refl, sym, ap, ◌∙◌, subst, eqb, eqb-true, true≢false}
use Rattle.std.specs.Bool.{Decides, beq}
use Rattle.std.specs.Option.{option_eq}
use Rattle.std.specs.Cmp.{booleans_Decides}
use Rattle.std.specs.Cmp.Lexicographic.{pointwise, bytes_decides}
use Rattle.std.proofs.lemmas.Bool.{and_parts}
use denote.Enum.Bare.{same_true}
use Rattle.hx_object.specs.Pairs.{same_pair, same_pairs_law}
use Rattle.hx_object.specs.declared.object.Object.{Object}
use Rattle.hx_object.specs.declared.object.Payload.{Payload}
use Rattle.hx_object.specs.declared.object.Payload.TheVariants.{Namespace, Config, Hierarchy, Anchor, Quota, Plain}
use Rattle.hx_object.specs.contracts.kind.Kind as kind
use Rattle.hx_object.specs.contracts.object.Mode as mode
use Rattle.hx_object.specs.contracts.object.Condition as condition
use Rattle.hx_object.specs.contracts.object.AnchorStatus as status
use Rattle.hx_object.specs.contracts.kind.KindPartialEq.TheImpl as kind_eq
use Rattle.hx_object.specs.contracts.object.ObjectPartialEq.TheImpl as object_eq
use Rattle.hx_object.specs.contracts.object.ObjectEq.TheImpl.Laws as object_laws
use Rattle.hx_object.specs.contracts.object.PayloadPartialEq.TheImpl as payload_eq
use Rattle.hx_object.specs.contracts.object.PayloadEq.TheImpl.Laws as payload_laws
use Rattle.hx_object.specs.contracts.object.ContainerPartialEq.TheImpl as container_eq
use Rattle.hx_object.specs.contracts.object.NeedPartialEq.TheImpl as need_eq
use Rattle.hx_object.specs.contracts.object.LimitPartialEq.TheImpl as limit_eq
use Rattle.hx_object.specs.contracts.object.UsagePartialEq.TheImpl as usage_eq
use Rattle.hx_object.specs.contracts.object.ModeEntryPartialEq.TheImpl as entry_eq
use Rattle.hx_object.specs.contracts.object.ModePartialEq.TheImpl as mode_eq
use Rattle.hx_object.specs.contracts.object.ConditionPartialEq.TheImpl as condition_eq
use Rattle.hx_object.specs.contracts.object.AnchorStatusPartialEq.TheImpl as status_eq
use Rattle.hx_object.specs.contracts.object.IdPartialEq.TheImpl as id_eq

-- ---- the test holds of equal values alone

abbrev pub IsExact : {A : Type 0} → (A → A → Bool) → Type 0
IsExact {A} test = (a b : A) → test a b ≡ true → a ≡ b

pub exact_list : {A : Type 0} {test : A → A → Bool} → IsExact test → IsExact (pointwise test)
exact_list exact [] [] h = refl
exact_list exact [] (y ∷ ys) h = absurd (true≢false (sym h))
exact_list exact (x ∷ xs) [] h = absurd (true≢false (sym h))
exact_list {A} {test} exact (x ∷ xs) (y ∷ ys) h = let parts = and_parts (test x y) (pointwise test xs ys) h in λ i. exact x y parts.0 i ∷ exact_list exact xs ys parts.1 i

pub exact_option : {A : Type 0} {test : A → A → Bool} → IsExact test → IsExact (option_eq test)
exact_option exact None None h = refl
exact_option exact None (Some y) h = absurd (true≢false (sym h))
exact_option exact (Some x) None h = absurd (true≢false (sym h))
exact_option exact (Some x) (Some y) h = ap Some (exact x y h)

pub exact_text : IsExact (pointwise eqb)
exact_text a b = (bytes_decides a b).0

pub exact_bool : IsExact beq
exact_bool a b = (booleans_Decides a b).0

-- ---- the parts

pub exact_mode : IsExact (mode_eq.ghosts).eq
exact_mode = same_true mode.the_type tt

pub exact_condition : IsExact (condition_eq.ghosts).eq
exact_condition = same_true condition.the_type tt

pub exact_status : IsExact (status_eq.ghosts).eq
exact_status = same_true status.the_type tt

pub exact_kind : IsExact (kind_eq.ghosts).eq
exact_kind = same_true kind.the_type tt

pub exact_id : IsExact (id_eq.ghosts).eq
exact_id a b h =
    let p = and_parts _ _ h in
    let q = and_parts _ _ p.1 in
    λ i. record {
      kind = exact_kind a.kind b.kind p.0 i;
      ns = exact_text a.ns b.ns q.0 i;
      name = exact_text a.name b.name q.1 i;
    }

pub exact_container : IsExact (container_eq.ghosts).eq
exact_container a b h =
    let p = and_parts _ _ h in
    λ i. record {
      init = exact_bool a.init b.init p.0 i;
      asks = exact_list (exact_option eqb-true) a.asks b.asks p.1 i;
    }

pub exact_need : IsExact (need_eq.ghosts).eq
exact_need a b h =
    let p = and_parts _ _ h in
    let q = and_parts _ _ p.1 in
    let r = and_parts _ _ q.1 in
    λ i. record {
      finished = exact_bool a.finished b.finished p.0 i;
      token = exact_bool a.token b.token q.0 i;
      storage = eqb-true a.storage b.storage r.0 i;
      containers = exact_list exact_container a.containers b.containers r.1 i;
    }

pub exact_limit : IsExact (limit_eq.ghosts).eq
exact_limit a b h =
    let p = and_parts _ _ h in
    let q = and_parts _ _ p.1 in
    λ i. record {
      resource = exact_text a.resource b.resource p.0 i;
      written = exact_text a.written b.written q.0 i;
      amount = eqb-true a.amount b.amount q.1 i;
    }

pub exact_usage : IsExact (usage_eq.ghosts).eq
exact_usage a b h =
    let p = and_parts _ _ h in
    let q = and_parts _ _ p.1 in
    λ i. record {
      resource = exact_text a.resource b.resource p.0 i;
      hard = eqb-true a.hard b.hard q.0 i;
      used = eqb-true a.used b.used q.1 i;
    }

pub exact_entry : IsExact (entry_eq.ghosts).eq
exact_entry a b h =
    let p = and_parts _ _ h in
    let q = and_parts _ _ p.1 in
    λ i. record {
      group = exact_text a.group b.group p.0 i;
      resource = exact_text a.resource b.resource q.0 i;
      mode = exact_mode a.mode b.mode q.1 i;
    }

pub exact_pairs : IsExact (pointwise same_pair)
exact_pairs = exact_list (λ x y h. let p = and_parts _ _ h in λ i. (exact_text x.0 y.0 p.0 i, exact_text x.1 y.1 p.1 i))

pub exact_payload : IsExact (payload_eq.ghosts).eq
exact_payload (Namespace t) (Namespace u) h = ap Namespace (exact_bool t u h)
exact_payload (Config es) (Config fs) h = ap Config (exact_list exact_entry es fs h)
exact_payload (Hierarchy p c ns cs) (Hierarchy q d ms ds) h =
    let x = and_parts _ _ h in
    let y = and_parts _ _ x.1 in
    let z = and_parts _ _ y.1 in
    λ i. Hierarchy (exact_option exact_text p q x.0 i) (exact_bool c d y.0 i)
    (exact_list exact_text ns ms z.0 i) (exact_list exact_condition cs ds z.1 i)
exact_payload (Anchor s) (Anchor t) h = ap Anchor (exact_option exact_status s t h)
exact_payload (Quota hs us) (Quota ks vs) h =
    let x = and_parts _ _ h in
    λ i. Quota (exact_list exact_limit hs ks x.0 i) (exact_list exact_usage us vs x.1 i)
exact_payload (Plain m n) (Plain o p) h =
    let x = and_parts _ _ h in
    λ i. Plain (exact_text m o x.0 i) (exact_need n p x.1 i)
exact_payload _ _ h = absurd (true≢false (sym h))

pub exact_object : IsExact (object_eq.ghosts).eq
exact_object a b h =
    let p = and_parts _ _ h in
    let q = and_parts _ _ p.1 in
    let r = and_parts _ _ q.1 in
    let s = and_parts _ _ r.1 in
    λ i. record {
      id = exact_id a.id b.id p.0 i;
      version = eqb-true a.version b.version q.0 i;
      labels = exact_pairs a.labels b.labels r.0 i;
      annotations = exact_pairs a.annotations b.annotations s.0 i;
      payload = exact_payload a.payload b.payload s.1 i;
    }

-- ---- what an answer of the test says

pub same_pairs_from : (a b : List (List ℕ × List ℕ)) (r : Bool) → r ≡ pointwise same_pair a b → Decides r (a ≡ b)
same_pairs_from a b r e = (λ h. exact_pairs a b (sym e ∙ h), λ h. e ∙ subst (λ p. pointwise same_pair a p ≡ true) h (same_pairs_law.refl a))

pub same_payload_from : (a b : Payload) (r : Bool) → r ≡ (payload_eq.ghosts).eq a b → Decides r (a ≡ b)
same_payload_from a b r e = (λ h. exact_payload a b (sym e ∙ h), λ h. e ∙ subst (λ p. (payload_eq.ghosts).eq a p ≡ true) h (payload_laws.laws-law.refl a))

pub same_object_from : (a b : Object) (r : Bool) → r ≡ (object_eq.ghosts).eq a b → Decides r (a ≡ b)
same_object_from a b r e = (λ h. exact_object a b (sym e ∙ h), λ h. e ∙ subst (λ o. (object_eq.ghosts).eq a o ≡ true) h (object_laws.laws-law.refl a))
