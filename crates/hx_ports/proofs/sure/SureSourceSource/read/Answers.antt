use Rattle.std.proofs.Common.{◌≡◌, ◌+◌, ◌-◌, arith}
use Rattle.hx_ports.proofs.Placed.{read_piece}
use Rattle.std.proofs.lemmas.List.{drop_all}
use Rattle.hx_ports.proofs.sure.SureSourceSource.read.Goals as goal

pub returns-clause-bytes : goal.returns-clause-bytes
returns-clause-bytes c = (
  read_piece c.args.self.now.bytes.items c.args.into.now c.copy_from_slice.new.self c.args.self.now.at c.min-count.result (omega arith) (omega arith)
      (let n : (c.args.self.now.at + c.min-count.result) - c.args.self.now.at ≡ c.min-count.result = omega arith in rw (← n, ← c.deref.ensures.value) c.copy_from_slice.ensures.after),
  λ none some. drop_all _ c.args.self.now.bytes.items (omega arith),
)
