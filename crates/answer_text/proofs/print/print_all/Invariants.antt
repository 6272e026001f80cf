use Rattle.std.proofs.Common.{IsTrue, List, length, map, ◌+◌, ◌++◌, ◌≡◌, ◌≤◌, ℕ}
use Rattle.rock_io.specs.LineBuffer.{Puts, held_of}
use Rattle.answer_text.specs.Text.{text_from}
use Rattle.answer_text.proofs.print.print_all.Given as goal

abbrev pub invariant-workers : goal.invariant-workers
invariant-workers g l =
    ((done : List ℕ) × (text_from 1 (map (λ each. each.items) l.fn.answers) ≡ done ++ text_from l.worker (map (λ each. each.items) l.left))
    × (IsTrue g.K.Sink.tells → Puts done (g.K.Sink.taken l.initial.out) (held_of l.initial.buffer) (g.K.Sink.taken l.out) (held_of l.buffer)))
    × (g.K.Sink.faults l.out ≡ g.K.Sink.faults l.initial.out) × (l.worker + length l.left ≤ 33)

abbrev pub decreases-workers : goal.decreases-workers
decreases-workers g l = length l.left
