use Rattle.std.proofs.Common.{ap, length, refl, sym, ◌∙◌}
use Rattle.std.proofs.lemmas.Result.{on_ok_weaker}
use Rattle.slice_chain.proofs.ReadingSlots.{has_bytes}
use Rattle.slice_chain.proofs.slots.read_cell.Goals as goal

pub returns-clause-lent : goal.returns-clause-lent
returns-clause-lent g c = (c.read.new.buf, refl)

pub returns-clause-read : goal.returns-clause-read
returns-clause-read g c = on_ok_weaker c.read.result (λ h told. has_bytes c.args.pass.now c.read.new.buf (ap length (h told) ∙ c.cells_are_wide.ensures c.args.cell.now told ∙ sym c.requires) ∙ h told) c.read.ensures.read
