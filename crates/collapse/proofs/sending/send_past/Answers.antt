use Rattle.std.proofs.Common.{[], ap, inl, inr, subst, sym, List, ◌++◌, ◌∙◌}
use Rattle.std.proofs.lemmas.List.{append-nil}
use Rattle.collapse.specs.Sending.{Sends}
use Rattle.collapse.proofs.Sends.{front_on, sends_on}
use Rattle.collapse.proofs.sending.send_past.Goals as goal

pub returns-in-Whole-clause-forwards : goal.returns-in-Whole-clause-forwards
returns-in-Whole-clause-forwards g c s t offer url p q body sent old starts most goes is sends once = record {
  goes = goes;
  sent = subst (λ (z : List _). Sends g.K.Sink.tells old (g.K.Sink.taken c.send_rest.new.out) z) (sym is) (sends_on g.K.Sink.tells old (g.K.Sink.taken c.args.out.now) (g.K.Sink.taken c.send_rest.new.out) sent (g.F.Fetcher.left c.args.fetcher.now) sends c.in-Whole.ensures.sent);
  once = c.in-Whole.ensures.starts ∙ once;
}

pub returns-in-FetchFault-clause-forwards : goal.returns-in-FetchFault-clause-forwards
returns-in-FetchFault-clause-forwards g c s t offer url p q body sent old starts most goes is sends once = record {
  stops = inr (c.args.why, goes);
  sent = front_on g.K.Sink.tells old (g.K.Sink.taken c.args.out.now) (g.K.Sink.taken c.send_rest.new.out) sent (g.F.Fetcher.left c.args.fetcher.now) [] body sends c.in-FetchFault.ensures.sent (is ∙ ap (λ z. sent ++ z) (sym (append-nil (g.F.Fetcher.left c.args.fetcher.now))));
  once = inr (c.in-FetchFault.ensures.starts ∙ once);
}

pub returns-in-SinkFault-clause-forwards : goal.returns-in-SinkFault-clause-forwards
returns-in-SinkFault-clause-forwards g c s t offer url p q body sent old starts most goes is sends once = inl record {
  stops = inr (c.args.why, goes);
  sent = front_on g.K.Sink.tells old (g.K.Sink.taken c.args.out.now) (g.K.Sink.taken c.send_rest.new.out) sent (g.F.Fetcher.left c.args.fetcher.now) [] body sends c.in-SinkFault.ensures.sent (is ∙ ap (λ z. sent ++ z) (sym (append-nil (g.F.Fetcher.left c.args.fetcher.now))));
  once = c.in-SinkFault.ensures.starts ∙ once;
}

pub returns-in-Whole-clause-fetch : goal.returns-in-Whole-clause-fetch
returns-in-Whole-clause-fetch g c = c.in-Whole.ensures.fetch

pub returns-in-Whole-clause-sink : goal.returns-in-Whole-clause-sink
returns-in-Whole-clause-sink g c = c.in-Whole.ensures.sink

pub returns-in-FetchFault-clause-fetch : goal.returns-in-FetchFault-clause-fetch
returns-in-FetchFault-clause-fetch g c = c.in-FetchFault.ensures.fetch

pub returns-in-FetchFault-clause-sink : goal.returns-in-FetchFault-clause-sink
returns-in-FetchFault-clause-sink g c = c.in-FetchFault.ensures.sink

pub returns-in-SinkFault-clause-fetch : goal.returns-in-SinkFault-clause-fetch
returns-in-SinkFault-clause-fetch g c = c.in-SinkFault.ensures.fetch

pub returns-in-SinkFault-clause-sink : goal.returns-in-SinkFault-clause-sink
returns-in-SinkFault-clause-sink g c = c.in-SinkFault.ensures.sink
