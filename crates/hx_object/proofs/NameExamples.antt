-- The grammar of names at its edges: for each definition, texts that it takes and texts that it refuses.
use Rattle.std.specs.Prelude.{◌≡◌, ℕ, true, false, List, [], ◌∷◌, ◌++◌, replicate, refl, codes}
use Rattle.std.specs.List.{list_all, list_any}
use Rattle.hx_object.specs.Names.{is_dns_label, is_dns_subdomain, is_dns_part, is_subdomain, is_key, is_qualified_part, is_role_name, is_label_key, is_annotation_key, is_label_value, is_name_of}
use Rattle.hx_object.specs.declared.kind.Kind.TheVariants.{Namespace, HierarchyConfiguration, SubnamespaceAnchor, Role, RoleBinding, Secret, Service}

-- so many letters
abbrev letters : ℕ → List ℕ
letters count = replicate count 97

-- the bytes of é
abbrev accented : List ℕ
accented = 195 ∷ 169 ∷ []

-- ---- DNS labels

labels_taken : list_all is_dns_label (codes "a" ∷ codes "z" ∷ codes "0" ∷ codes "9" ∷ codes "a-b" ∷
    codes "0--9" ∷ codes "team-a2" ∷ letters 63 ∷ []) ≡ true
unfolding is_dns_label
labels_taken = refl

labels_refused : list_any is_dns_label ([] ∷ codes "-" ∷ codes "-a" ∷ codes "a-" ∷ codes "A" ∷ codes "aBc" ∷
    codes "a.b" ∷ codes "a_b" ∷ codes "a b" ∷ codes "a/" ∷ codes "a:" ∷ codes "`" ∷ codes "{" ∷ accented ∷ letters 64 ∷ []) ≡ false
unfolding is_dns_label
labels_refused = refl

-- ---- DNS subdomains

subdomains_taken : list_all is_dns_subdomain (codes "a" ∷ codes "a.b" ∷ codes "kube-root-ca.crt" ∷
    codes "0.9.a-b" ∷ letters 64 ∷ (codes "a." ++ letters 64) ∷ letters 253 ∷
    (letters 126 ++ codes "." ++ letters 126) ∷ []) ≡ true
unfolding is_subdomain is_dns_part
subdomains_taken = refl

subdomains_refused : list_any is_dns_subdomain ([] ∷ codes "." ∷ codes ".a" ∷ codes "a." ∷ codes "a..b" ∷
    codes "a-.b" ∷ codes "a.-b" ∷ codes "-a.b" ∷ codes "a.b-" ∷ codes "A.b" ∷ codes "a.B" ∷ codes "a_b" ∷
    codes "a/b" ∷ letters 254 ∷ (letters 127 ++ codes "." ++ letters 126) ∷ []) ≡ false
unfolding is_subdomain is_dns_part
subdomains_refused = refl

-- ---- names of Roles and RoleBindings

roles_taken : list_all is_role_name (codes "system:x" ∷ codes "a" ∷ codes "!" ∷ codes "~" ∷ codes "..." ∷
    codes ".a" ∷ codes "A_B" ∷ codes "-" ∷ letters 253 ∷ []) ≡ true
unfolding is_role_name
roles_taken = refl

roles_refused : list_any is_role_name ([] ∷ codes "." ∷ codes ".." ∷ codes "a/b" ∷ codes "/" ∷ codes "a%b" ∷
    codes "%" ∷ codes "a b" ∷ (127 ∷ []) ∷ accented ∷ letters 254 ∷ []) ≡ false
unfolding is_role_name
roles_refused = refl

-- ---- keys

label_keys_taken : list_all is_label_key (codes "app" ∷ codes "App" ∷ codes "a" ∷ codes "9" ∷
    codes "a-b_c.D" ∷ codes "x.io/a" ∷ codes "x/a" ∷ codes "kubernetes.io/metadata.name" ∷ letters 63 ∷
    (letters 253 ++ codes "/" ++ letters 63) ∷ []) ≡ true
unfolding is_key is_subdomain is_dns_part is_qualified_part
label_keys_taken = refl

label_keys_refused : list_any is_label_key ([] ∷ codes "-a" ∷ codes "a-" ∷ codes "_a" ∷ codes "a." ∷
    codes "a b" ∷ codes "/a" ∷ codes "x.io/" ∷ codes "/" ∷ codes "x.io/a/b" ∷ codes "x.io//a" ∷
    codes "x_y/a" ∷ codes "x-/a" ∷ codes "x..y/a" ∷ codes "X.io/a" ∷ codes "x.iO/a" ∷ codes "x.io/-a" ∷
    letters 64 ∷ (codes "x/" ++ letters 64) ∷ (letters 254 ++ codes "/a") ∷ []) ≡ false
unfolding is_key is_subdomain is_dns_part is_qualified_part
label_keys_refused = refl

annotation_keys_taken : list_all is_annotation_key (codes "app" ∷ codes "x.io/a" ∷ codes "X.io/a" ∷
    codes "x.iO/A" ∷ codes "X/a" ∷ codes "X-9.Y/a" ∷ (letters 253 ++ codes "/" ++ letters 63) ∷ []) ≡ true
unfolding is_key is_subdomain is_dns_part is_qualified_part
annotation_keys_taken = refl

annotation_keys_refused : list_any is_annotation_key ([] ∷ codes "/a" ∷ codes "X/" ∷ codes "X/a/b" ∷
    codes "X_Y/a" ∷ codes "-X/a" ∷ codes "X-/a" ∷ codes "X..Y/a" ∷ codes "X/-a" ∷ letters 64 ∷
    (letters 254 ++ codes "/a") ∷ []) ≡ false
unfolding is_key is_subdomain is_dns_part is_qualified_part
annotation_keys_refused = refl

-- ---- label values

values_taken : list_all is_label_value ([] ∷ codes "a" ∷ codes "A" ∷ codes "0" ∷ codes "true" ∷
    codes "a-b_c.D" ∷ letters 63 ∷ []) ≡ true
unfolding is_qualified_part
values_taken = refl

values_refused : list_any is_label_value (codes "-" ∷ codes "-a" ∷ codes "a-" ∷ codes "_a" ∷ codes "a_" ∷
    codes ".a" ∷ codes "a." ∷ codes "a b" ∷ codes "a/b" ∷ codes "a:b" ∷ accented ∷ letters 64 ∷
    []) ≡ false
unfolding is_qualified_part
values_refused = refl

-- ---- the grammar of each kind

-- only Namespaces and anchors are kept to labels, and only Roles and RoleBindings have the wider names
label_kinds : list_any (λ kind. is_name_of kind (codes "a.b")) (Namespace ∷ SubnamespaceAnchor ∷ []) ≡ false
unfolding is_dns_label
label_kinds = refl

subdomain_kinds : list_all (λ kind. is_name_of kind (codes "a.b")) (HierarchyConfiguration ∷ Secret ∷
    Service ∷ []) ≡ true
unfolding is_dns_label is_subdomain is_dns_part
subdomain_kinds = refl

role_kinds : list_all (λ kind. is_name_of kind (codes "system:x")) (Role ∷ RoleBinding ∷ []) ≡ true
unfolding is_role_name
role_kinds = refl

other_kinds : list_any (λ kind. is_name_of kind (codes "system:x")) (Namespace ∷ HierarchyConfiguration ∷
    SubnamespaceAnchor ∷ Secret ∷ Service ∷ []) ≡ false
unfolding is_dns_label is_subdomain is_dns_part
other_kinds = refl
