use Rattle.std.proofs.Common.{[], inl, inr, refl, subst, sym, ℕ}
use Rattle.collapse.specs.Faults.{FetcherAt}
use Rattle.collapse.proofs.Sends.{front_here}
use Rattle.collapse.proofs.sending.fetch_past.Goals as goal

pub returns-in-Err-clause-forwards : goal.returns-in-Err-clause-forwards
returns-in-Err-clause-forwards g c s t p q most old goes sends = record {
  stops = inr (c.args.why, goes);
  sent = front_here g.K.Sink.tells old (g.K.Sink.taken c.args.out.now) [] (g.F.Fetcher.body c.args.fetcher.now c.args.url.now c.args.offer) (g.F.Fetcher.body c.args.fetcher.now c.args.url.now c.args.offer) sends refl;
  once = inl c.in-Err.ensures.unstarted;
}

pub returns-clause-forwards : goal.returns-clause-forwards
returns-clause-forwards g c s t p q most old goes sends = c.send_past.ensures.forwards s t c.args.offer c.args.url.now p q (g.F.Fetcher.body c.args.fetcher.now c.args.url.now c.args.offer) [] old (g.F.Fetcher.starts c.args.fetcher.now) most goes (sym c.in_default.ensures.left) sends c.in_default.ensures.started

pub returns-clause-past : goal.returns-clause-past
returns-clause-past g c = c.send_past.ensures.past

pub returns-clause-fetch : goal.returns-clause-fetch
returns-clause-fetch g c = subst (λ (z : ℕ). FetcherAt c.send_past.result z (g.F.Fetcher.faults c.send_past.new.fetcher)) c.in_default.ensures.unfailed c.send_past.ensures.fetch

pub returns-clause-sink : goal.returns-clause-sink
returns-clause-sink g c = c.send_past.ensures.sink
