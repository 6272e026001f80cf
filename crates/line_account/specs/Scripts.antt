-- The lines of a script, and those that workers served.
use Rattle.std.specs.Prelude.{List, [], count_by, ◌+◌, ◌++◌, ◌==◌, ◌∷◌, ◌≡◌, ℕ}
use Rattle.std.specs.List.{filter}
use mathlib.Core.Option.{some}
use lib.ListN.{get_elem?}
use Rattle.script_text.specs.declared.line.Line.{Line}
use Rattle.line_account.specs.Lines.{Served, offers}
use Rattle.line_account.specs.Closing.{Worker}
use Rattle.line_account.specs.ScriptOrder.{◌then◌}

-- the lines that a worker served, the first one first
abbrev pub in_order : List Served → List Line
in_order [] = []
in_order (earlier then s) = in_order earlier ++ s.asked ∷ []

-- the workers, numbered from 1, served the lines of a script, each its own ones in their order
abbrev pub ServesScript : List Line → List Worker → Type 0
ServesScript lines crew = (j : ℕ) (w : Worker) → get_elem? crew j ≡ some w → in_order w.served ≡ filter (λ l. l.worker == j + 1) lines

-- how many of these lines offer a body
abbrev pub offering : List Line → ℕ
offering lines = count_by (λ l. offers l.request) lines
