use Rattle.std.proofs.Common.{IsTrue, List, length, ◌++◌, ◌≡◌, ℕ}
use Rattle.rock_io.specs.LineBuffer.{Puts, held_of}
use Rattle.answer_text.specs.Text.{text_of_worker}
use Rattle.answer_text.proofs.print.print_worker.Given as goal

abbrev pub invariant-answers : goal.invariant-answers
invariant-answers g l =
    ((done : List ℕ) × (text_of_worker l.worker l.fn.answers ≡ done ++ text_of_worker l.worker l.left)
    × (IsTrue g.K.Sink.tells → Puts done (g.K.Sink.taken l.initial.out) (held_of l.initial.buffer) (g.K.Sink.taken l.out) (held_of l.buffer)))
    × (g.K.Sink.faults l.out ≡ g.K.Sink.faults l.initial.out)

abbrev pub decreases-answers : goal.decreases-answers
decreases-answers g l = length l.left
