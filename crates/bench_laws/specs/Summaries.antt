-- Two summaries together.
use Rattle.std.specs.Prelude.{◌+◌}
use Rattle.workload.specs.declared.summary.Summary.{Summary}

abbrev pub both : Summary → Summary → Summary
both s t = record {
  requests = s.requests + t.requests;
  hits = s.hits + t.hits;
  misses = s.misses + t.misses;
  stored = s.stored + t.stored;
  purged = s.purged + t.purged;
  none = s.none + t.none;
  other = s.other + t.other;
  bytes = s.bytes + t.bytes;
}
