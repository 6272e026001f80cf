use Rattle.std.proofs.Common.{arith, inl, refl, subst, sym, ◌∙◌, ℕ}
use Rattle.rock_io.specs.Faults.{Rose}
use Rattle.collapse.specs.Faults.{FetcherAt, SinkAt, StationAtWrite}
use Rattle.collapse.specs.declared.answer.Why.TheVariants.{Write}
use Rattle.collapse.proofs.Faults.{at_write, may_rise, past}
use Rattle.collapse.proofs.Going.{writing_on, writing_tab}
use Rattle.collapse.proofs.WrittenEntries.{fails_to_fetch, fails_to_send, fails_to_start, fetches, gives_up, may_finish, may_take, not_finished}
use Rattle.collapse.proofs.writing.write_entry.Goals as goal

pub abort-requires : goal.abort-requires
abort-requires g c = (_, c.requires.writes)

pub returns-in-Err-clause-forwards : goal.returns-in-Err-clause-forwards
returns-in-Err-clause-forwards g c p most begins = fails_to_start g.C.Cell.tells g.C.Cell.state g.O.Origin.offers c.args.store.now c.args.tab c.args.offer c.args.url.now c.args.version (g.F.Fetcher.body c.args.fetcher.now c.args.url.now c.args.offer) c.requires.body p c.args.pass.now c.abort.new.pass most begins g.K.Sink.tells (g.K.Sink.taken c.args.out.now) (g.F.Fetcher.starts c.args.fetcher.now) (g.F.Fetcher.starts c.start.new.self) c.requires.writes c.abort.ensures.halts c.in-Err.ensures.unstarted

pub returns-in-Err-clause-free : goal.returns-in-Err-clause-free
returns-in-Err-clause-free g c = c.abort.ensures.halts.parted.free

pub returns-in-Err-clause-inner : goal.returns-in-Err-clause-inner
returns-in-Err-clause-inner g c = c.abort.ensures.halts.parted.inner_free

pub returns-in-Err-clause-others : goal.returns-in-Err-clause-others
returns-in-Err-clause-others g c = writing_tab g.C.Cell.tells g.C.Cell.state g.O.Origin.offers c.args.store.now c.args.tab c.args.pass.now c.abort.new.pass c.abort.ensures.others

pub returns-in-Err-clause-station : goal.returns-in-Err-clause-station
returns-in-Err-clause-station g c = inl refl

pub keep_rest-requires-clause-takes : goal.keep_rest-requires-clause-takes
keep_rest-requires-clause-takes g c = (_, (may_take g.C.Cell.tells g.C.Cell.state g.O.Origin.offers c.args.store.now c.args.tab c.args.offer c.args.url.now c.args.version (g.F.Fetcher.body c.args.fetcher.now c.args.url.now c.args.offer) c.requires.body c.args.pass.now (g.F.Fetcher.left c.start.new.self) c.requires.writes c.in_default.ensures.left))

pub finish-requires : goal.finish-requires
finish-requires g c = (_, (may_finish g.C.Cell.tells g.C.Cell.state g.O.Origin.offers c.args.store.now c.args.tab c.args.offer c.args.url.now c.args.version (g.F.Fetcher.body c.args.fetcher.now c.args.url.now c.args.offer) c.requires.body c.args.pass.now c.keep_rest.new.pass g.K.Sink.tells (g.K.Sink.taken c.args.out.now) (g.K.Sink.taken c.keep_rest.new.out) (g.F.Fetcher.left c.start.new.self) (g.F.Fetcher.left c.keep_rest.new.fetcher) (c.in-Whole.ensures.kept _ (may_take g.C.Cell.tells g.C.Cell.state g.O.Origin.offers c.args.store.now c.args.tab c.args.offer c.args.url.now c.args.version (g.F.Fetcher.body c.args.fetcher.now c.args.url.now c.args.offer) c.requires.body c.args.pass.now (g.F.Fetcher.left c.start.new.self) c.requires.writes c.in_default.ensures.left))))

pub send_past-requires : goal.send_past-requires
send_past-requires g c = let same = c.keep_rest.ensures.length in let some = c.requires.some in omega arith

pub abort-requires-in-FetchFault : goal.abort-requires-in-FetchFault
abort-requires-in-FetchFault g c = (_, (c.in-FetchFault.ensures.kept _ (may_take g.C.Cell.tells g.C.Cell.state g.O.Origin.offers c.args.store.now c.args.tab c.args.offer c.args.url.now c.args.version (g.F.Fetcher.body c.args.fetcher.now c.args.url.now c.args.offer) c.requires.body c.args.pass.now (g.F.Fetcher.left c.start.new.self) c.requires.writes c.in_default.ensures.left)).added.writes)

pub abort-requires-in-SinkFault : goal.abort-requires-in-SinkFault
abort-requires-in-SinkFault g c = (_, (c.in-SinkFault.ensures.kept _ (may_take g.C.Cell.tells g.C.Cell.state g.O.Origin.offers c.args.store.now c.args.tab c.args.offer c.args.url.now c.args.version (g.F.Fetcher.body c.args.fetcher.now c.args.url.now c.args.offer) c.requires.body c.args.pass.now (g.F.Fetcher.left c.start.new.self) c.requires.writes c.in_default.ensures.left)).added.writes)

pub returns-in-Ok-clause-forwards : goal.returns-in-Ok-clause-forwards
returns-in-Ok-clause-forwards g c p most begins = fetches g.C.Cell.tells g.C.Cell.state g.O.Origin.offers c.args.store.now c.args.tab c.args.offer c.args.url.now c.args.version (g.F.Fetcher.body c.args.fetcher.now c.args.url.now c.args.offer) c.requires.body p c.args.pass.now c.finish.new.pass most begins g.K.Sink.tells (g.K.Sink.taken c.args.out.now) (g.F.Fetcher.starts c.args.fetcher.now) (g.F.Fetcher.starts c.keep_rest.new.fetcher) c.keep_rest.new.pass (g.K.Sink.taken c.keep_rest.new.out) (g.F.Fetcher.left c.start.new.self) (g.F.Fetcher.left c.keep_rest.new.fetcher) c.in-Ok.field-0 c.in_default.ensures.left (c.in-Whole.ensures.kept _ (may_take g.C.Cell.tells g.C.Cell.state g.O.Origin.offers c.args.store.now c.args.tab c.args.offer c.args.url.now c.args.version (g.F.Fetcher.body c.args.fetcher.now c.args.url.now c.args.offer) c.requires.body c.args.pass.now (g.F.Fetcher.left c.start.new.self) c.requires.writes c.in_default.ensures.left)) (c.in-Ok.ensures.ok _ (may_finish g.C.Cell.tells g.C.Cell.state g.O.Origin.offers c.args.store.now c.args.tab c.args.offer c.args.url.now c.args.version (g.F.Fetcher.body c.args.fetcher.now c.args.url.now c.args.offer) c.requires.body c.args.pass.now c.keep_rest.new.pass g.K.Sink.tells (g.K.Sink.taken c.args.out.now) (g.K.Sink.taken c.keep_rest.new.out) (g.F.Fetcher.left c.start.new.self) (g.F.Fetcher.left c.keep_rest.new.fetcher) (c.in-Whole.ensures.kept _ (may_take g.C.Cell.tells g.C.Cell.state g.O.Origin.offers c.args.store.now c.args.tab c.args.offer c.args.url.now c.args.version (g.F.Fetcher.body c.args.fetcher.now c.args.url.now c.args.offer) c.requires.body c.args.pass.now (g.F.Fetcher.left c.start.new.self) c.requires.writes c.in_default.ensures.left)))) (c.in-Whole.ensures.starts ∙ c.in_default.ensures.started)

pub returns-in-Ok-clause-free : goal.returns-in-Ok-clause-free
returns-in-Ok-clause-free g c = (c.in-Ok.ensures.ok _ (may_finish g.C.Cell.tells g.C.Cell.state g.O.Origin.offers c.args.store.now c.args.tab c.args.offer c.args.url.now c.args.version (g.F.Fetcher.body c.args.fetcher.now c.args.url.now c.args.offer) c.requires.body c.args.pass.now c.keep_rest.new.pass g.K.Sink.tells (g.K.Sink.taken c.args.out.now) (g.K.Sink.taken c.keep_rest.new.out) (g.F.Fetcher.left c.start.new.self) (g.F.Fetcher.left c.keep_rest.new.fetcher) (c.in-Whole.ensures.kept _ (may_take g.C.Cell.tells g.C.Cell.state g.O.Origin.offers c.args.store.now c.args.tab c.args.offer c.args.url.now c.args.version (g.F.Fetcher.body c.args.fetcher.now c.args.url.now c.args.offer) c.requires.body c.args.pass.now (g.F.Fetcher.left c.start.new.self) c.requires.writes c.in_default.ensures.left)))).parted.free

pub returns-in-Ok-clause-inner : goal.returns-in-Ok-clause-inner
returns-in-Ok-clause-inner g c = (c.in-Ok.ensures.ok _ (may_finish g.C.Cell.tells g.C.Cell.state g.O.Origin.offers c.args.store.now c.args.tab c.args.offer c.args.url.now c.args.version (g.F.Fetcher.body c.args.fetcher.now c.args.url.now c.args.offer) c.requires.body c.args.pass.now c.keep_rest.new.pass g.K.Sink.tells (g.K.Sink.taken c.args.out.now) (g.K.Sink.taken c.keep_rest.new.out) (g.F.Fetcher.left c.start.new.self) (g.F.Fetcher.left c.keep_rest.new.fetcher) (c.in-Whole.ensures.kept _ (may_take g.C.Cell.tells g.C.Cell.state g.O.Origin.offers c.args.store.now c.args.tab c.args.offer c.args.url.now c.args.version (g.F.Fetcher.body c.args.fetcher.now c.args.url.now c.args.offer) c.requires.body c.args.pass.now (g.F.Fetcher.left c.start.new.self) c.requires.writes c.in_default.ensures.left)))).parted.inner_free

pub returns-in-Ok-clause-others : goal.returns-in-Ok-clause-others
returns-in-Ok-clause-others g c = writing_on g.C.Cell.tells g.C.Cell.state g.O.Origin.offers c.args.store.now c.args.tab c.args.pass.now c.keep_rest.new.pass c.finish.new.pass c.in-Whole.ensures.others c.in-Ok.ensures.others

pub returns-in-Ok-clause-station : goal.returns-in-Ok-clause-station
returns-in-Ok-clause-station g c = c.in-Ok.ensures.unfailed (λ w. cc) ∙ c.in-Whole.ensures.station

pub returns-in-Ok-clause-fetch : goal.returns-in-Ok-clause-fetch
returns-in-Ok-clause-fetch g c = c.in-Whole.ensures.fetch ∙ c.in_default.ensures.unfailed

pub returns-in-Ok-clause-sink : goal.returns-in-Ok-clause-sink
returns-in-Ok-clause-sink g c = c.in-Whole.ensures.sink

pub returns-in-Err-finish-clause-forwards : goal.returns-in-Err-finish-clause-forwards
returns-in-Err-finish-clause-forwards g c p most begins = not_finished g.C.Cell.tells g.C.Cell.state g.O.Origin.offers c.args.store.now c.args.tab c.args.offer c.args.url.now c.args.version (g.F.Fetcher.body c.args.fetcher.now c.args.url.now c.args.offer) c.requires.body p c.args.pass.now c.finish.new.pass most begins g.K.Sink.tells (g.K.Sink.taken c.args.out.now) (g.F.Fetcher.starts c.args.fetcher.now) (g.F.Fetcher.starts c.keep_rest.new.fetcher) c.keep_rest.new.pass (g.K.Sink.taken c.keep_rest.new.out) (g.F.Fetcher.left c.start.new.self) (g.F.Fetcher.left c.keep_rest.new.fetcher) c.in-Err-finish.fault c.in_default.ensures.left (c.in-Whole.ensures.kept _ (may_take g.C.Cell.tells g.C.Cell.state g.O.Origin.offers c.args.store.now c.args.tab c.args.offer c.args.url.now c.args.version (g.F.Fetcher.body c.args.fetcher.now c.args.url.now c.args.offer) c.requires.body c.args.pass.now (g.F.Fetcher.left c.start.new.self) c.requires.writes c.in_default.ensures.left)) (c.in-Err-finish.ensures.err _ (may_finish g.C.Cell.tells g.C.Cell.state g.O.Origin.offers c.args.store.now c.args.tab c.args.offer c.args.url.now c.args.version (g.F.Fetcher.body c.args.fetcher.now c.args.url.now c.args.offer) c.requires.body c.args.pass.now c.keep_rest.new.pass g.K.Sink.tells (g.K.Sink.taken c.args.out.now) (g.K.Sink.taken c.keep_rest.new.out) (g.F.Fetcher.left c.start.new.self) (g.F.Fetcher.left c.keep_rest.new.fetcher) (c.in-Whole.ensures.kept _ (may_take g.C.Cell.tells g.C.Cell.state g.O.Origin.offers c.args.store.now c.args.tab c.args.offer c.args.url.now c.args.version (g.F.Fetcher.body c.args.fetcher.now c.args.url.now c.args.offer) c.requires.body c.args.pass.now (g.F.Fetcher.left c.start.new.self) c.requires.writes c.in_default.ensures.left)))) (c.in-Whole.ensures.starts ∙ c.in_default.ensures.started)

pub returns-in-Err-finish-clause-free : goal.returns-in-Err-finish-clause-free
returns-in-Err-finish-clause-free g c = (c.in-Err-finish.ensures.err _ (may_finish g.C.Cell.tells g.C.Cell.state g.O.Origin.offers c.args.store.now c.args.tab c.args.offer c.args.url.now c.args.version (g.F.Fetcher.body c.args.fetcher.now c.args.url.now c.args.offer) c.requires.body c.args.pass.now c.keep_rest.new.pass g.K.Sink.tells (g.K.Sink.taken c.args.out.now) (g.K.Sink.taken c.keep_rest.new.out) (g.F.Fetcher.left c.start.new.self) (g.F.Fetcher.left c.keep_rest.new.fetcher) (c.in-Whole.ensures.kept _ (may_take g.C.Cell.tells g.C.Cell.state g.O.Origin.offers c.args.store.now c.args.tab c.args.offer c.args.url.now c.args.version (g.F.Fetcher.body c.args.fetcher.now c.args.url.now c.args.offer) c.requires.body c.args.pass.now (g.F.Fetcher.left c.start.new.self) c.requires.writes c.in_default.ensures.left)))).halts.parted.free

pub returns-in-Err-finish-clause-inner : goal.returns-in-Err-finish-clause-inner
returns-in-Err-finish-clause-inner g c = (c.in-Err-finish.ensures.err _ (may_finish g.C.Cell.tells g.C.Cell.state g.O.Origin.offers c.args.store.now c.args.tab c.args.offer c.args.url.now c.args.version (g.F.Fetcher.body c.args.fetcher.now c.args.url.now c.args.offer) c.requires.body c.args.pass.now c.keep_rest.new.pass g.K.Sink.tells (g.K.Sink.taken c.args.out.now) (g.K.Sink.taken c.keep_rest.new.out) (g.F.Fetcher.left c.start.new.self) (g.F.Fetcher.left c.keep_rest.new.fetcher) (c.in-Whole.ensures.kept _ (may_take g.C.Cell.tells g.C.Cell.state g.O.Origin.offers c.args.store.now c.args.tab c.args.offer c.args.url.now c.args.version (g.F.Fetcher.body c.args.fetcher.now c.args.url.now c.args.offer) c.requires.body c.args.pass.now (g.F.Fetcher.left c.start.new.self) c.requires.writes c.in_default.ensures.left)))).halts.parted.inner_free

pub returns-in-Err-finish-clause-others : goal.returns-in-Err-finish-clause-others
returns-in-Err-finish-clause-others g c = writing_on g.C.Cell.tells g.C.Cell.state g.O.Origin.offers c.args.store.now c.args.tab c.args.pass.now c.keep_rest.new.pass c.finish.new.pass c.in-Whole.ensures.others c.in-Err-finish.ensures.others

pub returns-in-Err-finish-clause-station : goal.returns-in-Err-finish-clause-station
returns-in-Err-finish-clause-station g c = subst (λ (z : ℕ). StationAtWrite c.in-Err-finish.fault z (g.St.Station.faults c.finish.new.station)) c.in-Whole.ensures.station (at_write c.in-Err-finish.fault _ _ c.in-Err-finish.ensures.unfailed c.in-Err-finish.ensures.failed)

pub returns-in-Err-finish-clause-fetch : goal.returns-in-Err-finish-clause-fetch
returns-in-Err-finish-clause-fetch g c = c.in-Whole.ensures.fetch ∙ c.in_default.ensures.unfailed

pub returns-in-Err-finish-clause-sink : goal.returns-in-Err-finish-clause-sink
returns-in-Err-finish-clause-sink g c = c.in-Whole.ensures.sink

pub returns-in-Refused-clause-forwards : goal.returns-in-Refused-clause-forwards
returns-in-Refused-clause-forwards g c p most begins = let k = (c.in-Refused.ensures.kept _ (may_take g.C.Cell.tells g.C.Cell.state g.O.Origin.offers c.args.store.now c.args.tab c.args.offer c.args.url.now c.args.version (g.F.Fetcher.body c.args.fetcher.now c.args.url.now c.args.offer) c.requires.body c.args.pass.now (g.F.Fetcher.left c.start.new.self) c.requires.writes c.in_default.ensures.left)) in
    c.send_past.ensures.forwards c.args.store.now c.args.tab c.args.offer c.args.url.now p c.keep_rest.new.pass (g.F.Fetcher.body c.args.fetcher.now c.args.url.now c.args.offer) k.bytes (g.K.Sink.taken c.args.out.now) (g.F.Fetcher.starts c.args.fetcher.now) most (gives_up g.C.Cell.tells g.C.Cell.state g.O.Origin.offers c.args.store.now c.args.tab c.args.offer c.args.url.now c.args.version (g.F.Fetcher.body c.args.fetcher.now c.args.url.now c.args.offer) c.requires.body p c.args.pass.now c.keep_rest.new.pass most begins g.K.Sink.tells (g.K.Sink.taken c.args.out.now) (g.F.Fetcher.starts c.args.fetcher.now) (g.F.Fetcher.starts c.keep_rest.new.fetcher) (g.K.Sink.taken c.keep_rest.new.out) (g.F.Fetcher.left c.start.new.self) (g.F.Fetcher.left c.keep_rest.new.fetcher) c.in-Refused.fault k) (sym c.in_default.ensures.left ∙ k.rest_is) k.sent (c.in-Refused.ensures.starts ∙ c.in_default.ensures.started)

pub returns-in-Refused-clause-free : goal.returns-in-Refused-clause-free
returns-in-Refused-clause-free g c = (c.in-Refused.ensures.kept _ (may_take g.C.Cell.tells g.C.Cell.state g.O.Origin.offers c.args.store.now c.args.tab c.args.offer c.args.url.now c.args.version (g.F.Fetcher.body c.args.fetcher.now c.args.url.now c.args.offer) c.requires.body c.args.pass.now (g.F.Fetcher.left c.start.new.self) c.requires.writes c.in_default.ensures.left)).not_added.stopped.halts.parted.free

pub returns-in-Refused-clause-inner : goal.returns-in-Refused-clause-inner
returns-in-Refused-clause-inner g c = (c.in-Refused.ensures.kept _ (may_take g.C.Cell.tells g.C.Cell.state g.O.Origin.offers c.args.store.now c.args.tab c.args.offer c.args.url.now c.args.version (g.F.Fetcher.body c.args.fetcher.now c.args.url.now c.args.offer) c.requires.body c.args.pass.now (g.F.Fetcher.left c.start.new.self) c.requires.writes c.in_default.ensures.left)).not_added.stopped.halts.parted.inner_free

pub returns-in-Refused-clause-others : goal.returns-in-Refused-clause-others
returns-in-Refused-clause-others g c = c.in-Refused.ensures.others

pub returns-in-Refused-clause-station : goal.returns-in-Refused-clause-station
returns-in-Refused-clause-station g c = past (Write c.in-Refused.fault) c.send_past.result _ _ c.send_past.ensures.past c.in-Refused.ensures.station (may_rise c.in-Refused.fault _ _ c.in-Refused.ensures.station)

pub returns-in-Refused-clause-fetch : goal.returns-in-Refused-clause-fetch
returns-in-Refused-clause-fetch g c = subst (λ (z : ℕ). FetcherAt c.send_past.result z (g.F.Fetcher.faults c.send_past.new.fetcher)) (c.in-Refused.ensures.fetch ∙ c.in_default.ensures.unfailed) c.send_past.ensures.fetch

pub returns-in-Refused-clause-sink : goal.returns-in-Refused-clause-sink
returns-in-Refused-clause-sink g c = subst (λ (z : ℕ). SinkAt c.send_past.result z (g.K.Sink.faults c.send_past.new.out)) c.in-Refused.ensures.sink c.send_past.ensures.sink

pub returns-in-FetchFault-clause-forwards : goal.returns-in-FetchFault-clause-forwards
returns-in-FetchFault-clause-forwards g c p most begins = fails_to_fetch g.C.Cell.tells g.C.Cell.state g.O.Origin.offers c.args.store.now c.args.tab c.args.offer c.args.url.now c.args.version (g.F.Fetcher.body c.args.fetcher.now c.args.url.now c.args.offer) c.requires.body p c.args.pass.now c.abort-in-FetchFault.new.pass most begins g.K.Sink.tells (g.K.Sink.taken c.args.out.now) (g.F.Fetcher.starts c.args.fetcher.now) (g.F.Fetcher.starts c.keep_rest.new.fetcher) c.keep_rest.new.pass (g.K.Sink.taken c.keep_rest.new.out) (g.F.Fetcher.left c.start.new.self) (g.F.Fetcher.left c.keep_rest.new.fetcher) c.in_default.ensures.left (c.in-FetchFault.ensures.kept _ (may_take g.C.Cell.tells g.C.Cell.state g.O.Origin.offers c.args.store.now c.args.tab c.args.offer c.args.url.now c.args.version (g.F.Fetcher.body c.args.fetcher.now c.args.url.now c.args.offer) c.requires.body c.args.pass.now (g.F.Fetcher.left c.start.new.self) c.requires.writes c.in_default.ensures.left)) c.abort-in-FetchFault.ensures.halts (c.in-FetchFault.ensures.starts ∙ c.in_default.ensures.started)

pub returns-in-FetchFault-clause-station : goal.returns-in-FetchFault-clause-station
returns-in-FetchFault-clause-station g c = inl c.in-FetchFault.ensures.station

pub returns-in-FetchFault-clause-fetch : goal.returns-in-FetchFault-clause-fetch
returns-in-FetchFault-clause-fetch g c = subst (λ (z : ℕ). Rose z (g.F.Fetcher.faults c.keep_rest.new.fetcher)) c.in_default.ensures.unfailed c.in-FetchFault.ensures.fetch

pub returns-in-FetchFault-clause-sink : goal.returns-in-FetchFault-clause-sink
returns-in-FetchFault-clause-sink g c = c.in-FetchFault.ensures.sink

pub returns-in-SinkFault-clause-forwards : goal.returns-in-SinkFault-clause-forwards
returns-in-SinkFault-clause-forwards g c p most begins = inl (fails_to_send g.C.Cell.tells g.C.Cell.state g.O.Origin.offers c.args.store.now c.args.tab c.args.offer c.args.url.now c.args.version (g.F.Fetcher.body c.args.fetcher.now c.args.url.now c.args.offer) c.requires.body p c.args.pass.now c.abort-in-SinkFault.new.pass most begins g.K.Sink.tells (g.K.Sink.taken c.args.out.now) (g.F.Fetcher.starts c.args.fetcher.now) (g.F.Fetcher.starts c.keep_rest.new.fetcher) c.keep_rest.new.pass (g.K.Sink.taken c.keep_rest.new.out) (g.F.Fetcher.left c.start.new.self) (g.F.Fetcher.left c.keep_rest.new.fetcher) c.in_default.ensures.left (c.in-SinkFault.ensures.kept _ (may_take g.C.Cell.tells g.C.Cell.state g.O.Origin.offers c.args.store.now c.args.tab c.args.offer c.args.url.now c.args.version (g.F.Fetcher.body c.args.fetcher.now c.args.url.now c.args.offer) c.requires.body c.args.pass.now (g.F.Fetcher.left c.start.new.self) c.requires.writes c.in_default.ensures.left)) c.abort-in-SinkFault.ensures.halts (c.in-SinkFault.ensures.starts ∙ c.in_default.ensures.started))

pub returns-in-SinkFault-clause-station : goal.returns-in-SinkFault-clause-station
returns-in-SinkFault-clause-station g c = inl c.in-SinkFault.ensures.station

pub returns-in-SinkFault-clause-fetch : goal.returns-in-SinkFault-clause-fetch
returns-in-SinkFault-clause-fetch g c = c.in-SinkFault.ensures.fetch ∙ c.in_default.ensures.unfailed

pub returns-in-SinkFault-clause-sink : goal.returns-in-SinkFault-clause-sink
returns-in-SinkFault-clause-sink g c = c.in-SinkFault.ensures.sink

pub returns-in-FetchFault-clause-free : goal.returns-in-FetchFault-clause-free
returns-in-FetchFault-clause-free g c = c.abort-in-FetchFault.ensures.halts.parted.free

pub returns-in-FetchFault-clause-inner : goal.returns-in-FetchFault-clause-inner
returns-in-FetchFault-clause-inner g c = c.abort-in-FetchFault.ensures.halts.parted.inner_free

pub returns-in-FetchFault-clause-others : goal.returns-in-FetchFault-clause-others
returns-in-FetchFault-clause-others g c = writing_on g.C.Cell.tells g.C.Cell.state g.O.Origin.offers c.args.store.now c.args.tab c.args.pass.now c.keep_rest.new.pass c.abort-in-FetchFault.new.pass c.in-FetchFault.ensures.others (writing_tab g.C.Cell.tells g.C.Cell.state g.O.Origin.offers c.args.store.now c.args.tab c.keep_rest.new.pass c.abort-in-FetchFault.new.pass c.abort-in-FetchFault.ensures.others)

pub returns-in-SinkFault-clause-free : goal.returns-in-SinkFault-clause-free
returns-in-SinkFault-clause-free g c = c.abort-in-SinkFault.ensures.halts.parted.free

pub returns-in-SinkFault-clause-inner : goal.returns-in-SinkFault-clause-inner
returns-in-SinkFault-clause-inner g c = c.abort-in-SinkFault.ensures.halts.parted.inner_free

pub returns-in-SinkFault-clause-others : goal.returns-in-SinkFault-clause-others
returns-in-SinkFault-clause-others g c = writing_on g.C.Cell.tells g.C.Cell.state g.O.Origin.offers c.args.store.now c.args.tab c.args.pass.now c.keep_rest.new.pass c.abort-in-SinkFault.new.pass c.in-SinkFault.ensures.others (writing_tab g.C.Cell.tells g.C.Cell.state g.O.Origin.offers c.args.store.now c.args.tab c.keep_rest.new.pass c.abort-in-SinkFault.new.pass c.abort-in-SinkFault.ensures.others)
