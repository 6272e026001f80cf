use Rattle.std.proofs.Common.{ap, append_assoc, sym, take, ◌++◌, ◌∙◌}
use Rattle.collapse.proofs.Sends.{front_here, front_on, sends_on}
use Rattle.collapse.proofs.sending.send_rest.Goals as goal

pub returns-in_default-clause-sent : goal.returns-in_default-clause-sent
returns-in_default-clause-sent g c = let i = c.loop-count.invariant.sent in front_here g.K.Sink.tells _ _ i.0 _ _ i.2 i.1

pub returns-in-Err-clause-sent : goal.returns-in-Err-clause-sent
returns-in-Err-clause-sent g c = let i = c.loop-count.invariant.sent in
    front_on g.K.Sink.tells _ _ _ i.0 (take c.in-Ok.count c.next.new.buf) (g.F.Fetcher.left c.next.new.self) _ i.2 c.in-Err.ensures.prefix (i.1 ∙ ap (λ z. i.0 ++ z) c.in-Ok.ensures.given)

pub loop-count-preserved : goal.loop-count-preserved
loop-count-preserved g c = let i = c.loop-count.invariant in record {
  room = c.next.auto.buf ∙ i.room;
  sent = (
    i.sent.0 ++ take c.in-Ok.count c.next.new.buf,
    i.sent.1 ∙ ap (λ z. i.sent.0 ++ z) c.in-Ok.ensures.given ∙ sym (append_assoc i.sent.0 (take c.in-Ok.count c.next.new.buf) (g.F.Fetcher.left c.next.new.self)),
    sends_on g.K.Sink.tells _ _ _ i.sent.0 (take c.in-Ok.count c.next.new.buf) i.sent.2 c.in_default-write_all.ensures.all,
  );
  starts = c.in-Ok.ensures.starts ∙ i.starts;
  fetch = c.in-Ok.ensures.unfailed ∙ i.fetch;
  sink = c.in_default-write_all.ensures.unfailed ∙ i.sink;
}
