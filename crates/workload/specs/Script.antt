-- The lines of a benchmark.
use Rattle.std.specs.Prelude.{◌≡◌, ℕ, ◌+◌, ◌*◌, List, length, map, flat_map}
use Rattle.std.specs.List.{range_with_len, enumerate_from}
use Rattle.script_text.specs.declared.line.Line.{Line}
use Rattle.workload.specs.declared.shares.Share.{Share}
use Rattle.workload.specs.declared.script.Draft.{Draft}
use Rattle.workload.specs.Numbers.{number_at, drawn}
use Rattle.workload.specs.Requests.{request_of}
use Rattle.workload.specs.Shares.{shares_of}

-- whose turn it is: in each round each worker that has a URL, in order
unfoldable pub turns_of : (workers count : ℕ) → List Share
turns_of workers count = flat_map (λ round. shares_of workers) (range_with_len 0 count)

-- the line of the turn at a place, from 0, for which the next three numbers are drawn, from number 1 on
unfoldable pub line_of : (seed place : ℕ) → Share → Line
line_of seed place share = record {
  worker = share.worker;
  number = place + 1;
  request = request_of share.urls (drawn seed (3 * place + 1)) (drawn seed (3 * place + 2)) (drawn seed (3 * place + 3));
}

-- the lines of turns, in order
unfoldable pub lines_of : (seed : ℕ) → List Share → List Line
lines_of seed turns = map (λ turn. line_of seed turn.0 turn.1) (enumerate_from 0 turns)

abbrev pub bench_lines : (seed workers count : ℕ) → List Line
bench_lines seed workers count = lines_of seed (turns_of workers count)

-- what was made for turns so far
pub record IsDraft (seed : ℕ) (draft : Draft) (turns : List Share) : Type 0 where
  pub last : draft.last ≡ number_at seed (3 * length turns)
  pub lines : draft.lines.items ≡ lines_of seed turns
