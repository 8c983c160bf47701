-- The labels, the annotations and the name that have a meaning of their own, as the HNC user guide has them.
use Rattle.std.specs.Prelude.{ℕ, List, codes}

-- the label of a copy: the namespace that it was copied from
abbrev pub inherited_from : List ℕ
inherited_from = codes "hnc.x-k8s.io/inherited-from"

-- the label of a namespace that takes part in trees
abbrev pub included_namespace : List ℕ
included_namespace = codes "hnc.x-k8s.io/included-namespace"

-- the end of a label of the tree: before it stands an ancestor, and its value is how far that is
abbrev pub tree_suffix : List ℕ
tree_suffix = codes ".tree.hnc.x-k8s.io/depth"

-- the annotation of a subnamespace: its parent
abbrev pub subnamespace_of : List ℕ
subnamespace_of = codes "hnc.x-k8s.io/subnamespace-of"

-- the only name of a HierarchyConfiguration
abbrev pub hierarchy : List ℕ
hierarchy = codes "hierarchy"

-- the only name of an HNCConfiguration
abbrev pub config : List ℕ
config = codes "config"

-- the exceptions to propagation, which are annotations: a selector of labels
abbrev pub select_exception : List ℕ
select_exception = codes "propagate.hnc.x-k8s.io/select"

-- names of namespaces whose subtrees a source goes to, or doesn't
abbrev pub tree_select_exception : List ℕ
tree_select_exception = codes "propagate.hnc.x-k8s.io/treeSelect"

-- `true` where a source goes nowhere
abbrev pub none_exception : List ℕ
none_exception = codes "propagate.hnc.x-k8s.io/none"

-- the ConfigMap of certificates that Kubernetes keeps in each namespace
abbrev pub root_certificates : List ℕ
root_certificates = codes "kube-root-ca.crt"
