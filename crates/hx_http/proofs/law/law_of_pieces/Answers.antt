use Rattle.hx_http.proofs.Pieces.{law_of_pieces}
use Rattle.hx_http.proofs.law.law_of_pieces.Goals as goal

pub returns : goal.returns
returns c = law_of_pieces
