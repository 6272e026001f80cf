use Rattle.std.proofs.Common.{◌≡◌, ℕ, ◌+◌, List, ◌++◌, length, take}
use Rattle.workload.specs.declared.shares.Share.{Share}
use Rattle.workload.specs.Script.{IsDraft}
use Rattle.workload.proofs.script.Draft.add_round.Given as goal

abbrev pub invariant-turns : goal.invariant-turns
invariant-turns l = record {
  drafted : (seed : ℕ) (turns : List Share) → IsDraft seed l.fn.self turns → IsDraft seed l.self (turns ++ take l.share-index l.shares);
  length : length l.self.lines.items ≡ length l.fn.self.lines.items + l.share-index;
}
