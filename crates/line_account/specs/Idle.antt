-- Workers that served nothing.
use Rattle.std.specs.Prelude.{List, [], zero, suc, ◌∷◌, ℕ}
use Rattle.line_account.specs.Closing.{Worker}

-- as many workers
abbrev pub idle_workers : (count : ℕ) → List Worker
idle_workers zero = []
idle_workers (suc count) = record { served = [] } ∷ idle_workers count
