use Rattle.std.proofs.Common.{◌≡◌, drop}
use Rattle.std.specs.Prelude.{find}
use Rattle.std.specs.Str.{bytes_eq}
use Rattle.hx_discovery.specs.Documents.{path_of}
use Rattle.hx_discovery.proofs.document.first_on.Given as goal

-- the documents that are left give the document
abbrev pub invariant-loop-document : goal.invariant-loop-document
invariant-loop-document l = find (λ document. bytes_eq l.path (path_of document)) (drop l.document-index l.documents) ≡ find (λ document. bytes_eq l.path (path_of document)) l.documents
