use Rattle.std.proofs.Common.{◌≡◌, ◌≤◌, ◌*◌, take}
use Rattle.std.specs.Prelude.{sum_by}
use Rattle.workload.specs.Kinds.{hit_bytes}
use Rattle.workload.proofs.summary.bytes_of.Given as goal

abbrev pub invariant-answers : goal.invariant-answers
invariant-answers l = record {
  sum : l.bytes ≡ sum_by hit_bytes (take l.answer-index l.answers);
  few : l.bytes ≤ l.answer-index * 18446744073709551615;
}
