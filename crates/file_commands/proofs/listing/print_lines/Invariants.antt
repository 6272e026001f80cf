use Rattle.std.proofs.Common.{List, [], length, ◌++◌, ◌≡◌, ◌≤◌, ℕ}
use Rattle.std.specs.Prelude.{All, IsTrue}
use Rattle.rock_io.specs.LineBuffer.{Puts, held_of, size_of}
use Rattle.rock_io.specs.declared.line_buffer.TheConstants.{BUFFER_BYTES}
use Rattle.file_commands.specs.Listing.{HasShortUrl}
use Rattle.file_commands.proofs.Printing.{lines}
use Rattle.file_commands.proofs.listing.print_lines.Given as goal

abbrev pub invariant-entries : goal.invariant-entries
invariant-entries g l =
    ((done : List ℕ) × (lines l.found ≡ done ++ lines l.left) × (IsTrue g.K.Sink.tells → Puts done (g.K.Sink.taken l.initial.out) [] (g.K.Sink.taken l.out) (held_of l.buffer)))
    × (BUFFER_BYTES ≤ size_of l.buffer) × All HasShortUrl l.left × (g.K.Sink.faults l.out ≡ g.K.Sink.faults l.initial.out)

abbrev pub decreases-entries : goal.decreases-entries
decreases-entries g l = length l.left
