-- The summary of answers.
use Rattle.std.specs.Prelude.{ℕ, ◌+◌, List, length, count_by, sum_by}
use Rattle.script_text.specs.declared.answer.Answer.{Answer}
use Rattle.workload.specs.declared.kind.Kind.{Kind}
use Rattle.workload.specs.declared.kind.Kind.TheVariants.{Hit, Miss, Stored, Purged, NoEntry, Other}
use Rattle.workload.specs.declared.summary.Summary.{Summary}
use Rattle.workload.specs.Kinds.{is_of, hit_bytes}

-- how many answers are of a kind
abbrev pub count_of : Kind → List Answer → ℕ
count_of kind answers = count_by (is_of kind) answers

abbrev pub summary_of : List Answer → Summary
summary_of answers = record {
  requests = length answers;
  hits = count_of Hit answers;
  misses = count_of Miss answers;
  stored = count_of Stored answers;
  purged = count_of Purged answers;
  none = count_of NoEntry answers;
  other = count_of Other answers;
  bytes = sum_by hit_bytes answers;
}

-- the six kinds together
abbrev pub kinds_in : Summary → ℕ
kinds_in s = s.hits + s.misses + s.stored + s.purged + s.none + s.other
