use Rattle.std.proofs.Common.{subst, ℕ}
use Rattle.std.specs.Prelude.{codes, decimal}
use Rattle.rock_io.specs.LineBuffer.{Adds}
use Rattle.file_commands.proofs.Printing.{adds_three}
use Rattle.file_commands.proofs.migrate.put_slots.Goals as goal

pub returns : goal.returns
returns c =
    adds_three c.args.buffer.now c.put.new.self c.put_number.new.self c.put-2.new.self (codes "MIGRATED slots=") (decimal c.args.slots) (codes "\n")
    c.put.ensures (subst (λ (n : ℕ). Adds c.put.new.self c.put_number.new.self (decimal n)) c.from.ensures c.put_number.ensures) c.put-2.ensures
