use Rattle.std.proofs.Common.{arith, refl, subst, sym, ◌+◌, ◌∙◌, ℕ}
use Rattle.std.proofs.lemmas.List.{length-take-le}
use Rattle.rock_io.specs.Faults.{Rose}
use Rattle.rock_reader.specs.Reading.{Gave}
use Rattle.rock_reader.specs.declared.answer.More.{More}
use Rattle.collapse.proofs.Going.{reader_none, reader_on}
use Rattle.collapse.proofs.Turns.{ends_with, finds_other, followed_none, followed_piece, followed_wait, looks_only, loses_sink, reads_after}
use Rattle.collapse.proofs.following.follow.Goals as goal

pub loop-init : goal.loop-init
loop-init g c = record {
  next = tt;
  finite = tt;
  room = refl;
  read = λ e reads. followed_none g.C.Cell.tells g.C.Cell.state g.O.Origin.offers c.args.store.now c.args.tab e c.args.pass.now g.K.Sink.tells (g.K.Sink.taken c.args.out.now) c.args.looks reads;
  fewer = c.requires.fewer;
  follows = reader_none g.C.Cell.tells g.C.Cell.state g.O.Origin.offers c.args.store.now c.args.tab c.args.pass.now c.requires.reads.1.own;
  inner = refl;
  station = refl;
  sink = refl;
}

pub more-answer-requires : goal.more-answer-requires
more-answer-requires g c = let i = c.loop.invariant in let h = i.read c.requires.reads.0 c.requires.reads.1 in
    c.reading_tabs_may_go_on.ensures.more _ _ _ _ h.standing h.reads (let room = c.requires.room in let same = i.room in omega arith)

pub slice_bounds-write_all-end : goal.slice_bounds-write_all-end
slice_bounds-write_all-end g c = let i = c.loop.invariant in let h = i.read c.requires.reads.0 c.requires.reads.1 in
    let piece = subst (λ (z : More). Gave g.C.Cell.tells g.C.Cell.state g.O.Origin.offers c.args.store.now c.args.tab c.loop.pass h.standing c.loop.buf c.more-answer.new.out c.more-answer.new.pass z) c.in-Piece.is (c.more-answer.ensures.gave h.standing h.reads) in let within = piece.within in let same = c.more-answer.ensures.length in omega arith

pub slice_bounds-write_all-end-in-Piece : goal.slice_bounds-write_all-end-in-Piece
slice_bounds-write_all-end-in-Piece g c = let i = c.loop.invariant in let h = i.read c.requires.reads.0 c.requires.reads.1 in
    let piece = subst (λ (z : More). Gave g.C.Cell.tells g.C.Cell.state g.O.Origin.offers c.args.store.now c.args.tab c.loop.pass h.standing c.loop.buf c.more-answer.new.out c.more-answer.new.pass z) c.in-Piece.is (c.more-answer.ensures.gave h.standing h.reads) in sym (length-take-le c.in-Piece.count c.more-answer.new.out (let within = piece.within in let same = c.more-answer.ensures.length in omega arith))

pub returns-in-Err-clause-went : goal.returns-in-Err-clause-went
returns-in-Err-clause-went g c e reads = let h = c.loop.invariant.read e reads in
    let piece = subst (λ (z : More). Gave g.C.Cell.tells g.C.Cell.state g.O.Origin.offers c.args.store.now c.args.tab c.loop.pass h.standing c.loop.buf c.more-answer.new.out c.more-answer.new.pass z) c.in-Piece.is (c.more-answer.ensures.gave h.standing h.reads) in
    loses_sink g.C.Cell.tells g.C.Cell.state g.O.Origin.offers c.args.store.now c.args.tab e c.args.pass.now c.loop.pass c.more-answer.new.pass g.K.Sink.tells (g.K.Sink.taken c.args.out.now) (g.K.Sink.taken c.loop.out) (g.K.Sink.taken c.write_all.new.out) c.loop.buf c.more-answer.new.out c.args.looks c.loop.times c.args.most c.in-Piece.count c.loop.is_late h c.loop.invariant.fewer piece c.in-Err.ensures.prefix

pub returns-in-Err-clause-reads : goal.returns-in-Err-clause-reads
returns-in-Err-clause-reads g c = let i = c.loop.invariant in let h = i.read c.requires.reads.0 c.requires.reads.1 in
    let piece = subst (λ (z : More). Gave g.C.Cell.tells g.C.Cell.state g.O.Origin.offers c.args.store.now c.args.tab c.loop.pass h.standing c.loop.buf c.more-answer.new.out c.more-answer.new.pass z) c.in-Piece.is (c.more-answer.ensures.gave h.standing h.reads) in (_, piece.reads)

pub returns-in-Err-clause-others : goal.returns-in-Err-clause-others
returns-in-Err-clause-others g c = let i = c.loop.invariant in reader_on g.C.Cell.tells g.C.Cell.state g.O.Origin.offers c.args.store.now c.args.tab c.args.pass.now c.loop.pass c.more-answer.new.pass i.follows c.more-answer.ensures.others

pub returns-in-Err-clause-inner : goal.returns-in-Err-clause-inner
returns-in-Err-clause-inner g c = c.more-answer.ensures.inner ∙ c.loop.invariant.inner

pub returns-in-Err-clause-length : goal.returns-in-Err-clause-length
returns-in-Err-clause-length g c = c.more-answer.ensures.length ∙ c.loop.invariant.room

pub returns-in-Err-clause-station : goal.returns-in-Err-clause-station
returns-in-Err-clause-station g c = c.more-answer.ensures.unfailed (λ w. let is = c.in-Piece.is in cc) ∙ c.loop.invariant.station

pub returns-in-Err-clause-sink : goal.returns-in-Err-clause-sink
returns-in-Err-clause-sink g c = subst (λ (z : ℕ). Rose z (g.K.Sink.faults c.write_all.new.out)) c.loop.invariant.sink c.in-Err.ensures.failed

pub loop-preserved-in_default : goal.loop-preserved-in_default
loop-preserved-in_default g c = let i = c.loop.invariant in record {
  next = tt;
  finite = tt;
  room = c.more-answer.ensures.length ∙ i.room;
  read = λ e reads. let h = i.read e reads in
      let piece = subst (λ (z : More). Gave g.C.Cell.tells g.C.Cell.state g.O.Origin.offers c.args.store.now c.args.tab c.loop.pass h.standing c.loop.buf c.more-answer.new.out c.more-answer.new.pass z) c.in-Piece.is (c.more-answer.ensures.gave h.standing h.reads) in
      followed_piece g.C.Cell.tells g.C.Cell.state g.O.Origin.offers c.args.store.now c.args.tab e c.args.pass.now c.loop.pass c.more-answer.new.pass g.K.Sink.tells (g.K.Sink.taken c.args.out.now) (g.K.Sink.taken c.loop.out) (g.K.Sink.taken c.write_all.new.out) c.loop.buf c.more-answer.new.out c.args.looks c.loop.times c.in-Piece.count c.loop.is_late c.is_late_with-later.result h piece c.more-answer.ensures.length c.in_default.ensures.all c.is_late_with-later.ensures.none c.is_late_with-later.ensures.some;
  fewer = i.fewer;
  follows = reader_on g.C.Cell.tells g.C.Cell.state g.O.Origin.offers c.args.store.now c.args.tab c.args.pass.now c.loop.pass c.more-answer.new.pass i.follows c.more-answer.ensures.others;
  inner = c.more-answer.ensures.inner ∙ i.inner;
  station = c.more-answer.ensures.unfailed (λ w. let is = c.in-Piece.is in cc) ∙ i.station;
  sink = c.in_default.ensures.unfailed ∙ i.sink;
}

pub returns-then-times-most-clause-went : goal.returns-then-times-most-clause-went
returns-then-times-most-clause-went g c e reads = let h = c.loop.invariant.read e reads in
    let wait = subst (λ (z : More). Gave g.C.Cell.tells g.C.Cell.state g.O.Origin.offers c.args.store.now c.args.tab c.loop.pass h.standing c.loop.buf c.more-answer.new.out c.more-answer.new.pass z) c.in-NotYet.is (c.more-answer.ensures.gave h.standing h.reads) in
    looks_only g.C.Cell.tells g.C.Cell.state g.O.Origin.offers c.args.store.now c.args.tab e c.args.pass.now c.more-answer.new.pass g.K.Sink.tells (g.K.Sink.taken c.args.out.now) (g.K.Sink.taken c.loop.out) c.args.looks (c.loop.times + 1) c.args.most c.loop.is_late
    (followed_wait g.C.Cell.tells g.C.Cell.state g.O.Origin.offers c.args.store.now c.args.tab e c.args.pass.now c.loop.pass c.more-answer.new.pass g.K.Sink.tells (g.K.Sink.taken c.args.out.now) (g.K.Sink.taken c.loop.out) c.loop.buf c.more-answer.new.out c.args.looks c.loop.times c.in-NotYet.epoch c.loop.is_late h wait) c.if-times-most.true

pub returns-then-times-most-clause-reads : goal.returns-then-times-most-clause-reads
returns-then-times-most-clause-reads g c = let i = c.loop.invariant in let h = i.read c.requires.reads.0 c.requires.reads.1 in
    let wait = subst (λ (z : More). Gave g.C.Cell.tells g.C.Cell.state g.O.Origin.offers c.args.store.now c.args.tab c.loop.pass h.standing c.loop.buf c.more-answer.new.out c.more-answer.new.pass z) c.in-NotYet.is (c.more-answer.ensures.gave h.standing h.reads) in (_, wait.stays)

pub returns-then-times-most-clause-others : goal.returns-then-times-most-clause-others
returns-then-times-most-clause-others g c = let i = c.loop.invariant in reader_on g.C.Cell.tells g.C.Cell.state g.O.Origin.offers c.args.store.now c.args.tab c.args.pass.now c.loop.pass c.more-answer.new.pass i.follows c.more-answer.ensures.others

pub returns-then-times-most-clause-inner : goal.returns-then-times-most-clause-inner
returns-then-times-most-clause-inner g c = c.more-answer.ensures.inner ∙ c.loop.invariant.inner

pub returns-then-times-most-clause-length : goal.returns-then-times-most-clause-length
returns-then-times-most-clause-length g c = c.more-answer.ensures.length ∙ c.loop.invariant.room

pub returns-then-times-most-clause-station : goal.returns-then-times-most-clause-station
returns-then-times-most-clause-station g c = c.more-answer.ensures.unfailed (λ w. let is = c.in-NotYet.is in cc) ∙ c.loop.invariant.station

pub returns-then-times-most-clause-sink : goal.returns-then-times-most-clause-sink
returns-then-times-most-clause-sink g c = c.loop.invariant.sink

pub loop-preserved : goal.loop-preserved
loop-preserved g c = let i = c.loop.invariant in record {
  next = tt;
  finite = tt;
  room = c.more-answer.ensures.length ∙ i.room;
  read = λ e reads. let h = i.read e reads in
      let wait = subst (λ (z : More). Gave g.C.Cell.tells g.C.Cell.state g.O.Origin.offers c.args.store.now c.args.tab c.loop.pass h.standing c.loop.buf c.more-answer.new.out c.more-answer.new.pass z) c.in-NotYet.is (c.more-answer.ensures.gave h.standing h.reads) in
      followed_wait g.C.Cell.tells g.C.Cell.state g.O.Origin.offers c.args.store.now c.args.tab e c.args.pass.now c.loop.pass c.more-answer.new.pass g.K.Sink.tells (g.K.Sink.taken c.args.out.now) (g.K.Sink.taken c.loop.out) c.loop.buf c.more-answer.new.out c.args.looks c.loop.times c.in-NotYet.epoch c.loop.is_late h wait;
  fewer = let below = i.fewer in let other = c.if-times-most.false in omega arith;
  follows = reader_on g.C.Cell.tells g.C.Cell.state g.O.Origin.offers c.args.store.now c.args.tab c.args.pass.now c.loop.pass c.more-answer.new.pass i.follows c.more-answer.ensures.others;
  inner = c.more-answer.ensures.inner ∙ i.inner;
  station = c.more-answer.ensures.unfailed (λ w. let is = c.in-NotYet.is in cc) ∙ i.station;
  sink = i.sink;
}

pub returns-in-End-clause-went : goal.returns-in-End-clause-went
returns-in-End-clause-went g c e reads = let h = c.loop.invariant.read e reads in
    ends_with g.C.Cell.tells g.C.Cell.state g.O.Origin.offers c.args.store.now c.args.tab e c.args.pass.now c.loop.pass c.more-answer.new.pass g.K.Sink.tells (g.K.Sink.taken c.args.out.now) (g.K.Sink.taken c.loop.out) c.loop.buf c.more-answer.new.out c.args.looks c.loop.times c.args.most c.loop.is_late More.End h c.loop.invariant.fewer (subst (λ (z : More). Gave g.C.Cell.tells g.C.Cell.state g.O.Origin.offers c.args.store.now c.args.tab c.loop.pass h.standing c.loop.buf c.more-answer.new.out c.more-answer.new.pass z) c.in-End.is (c.more-answer.ensures.gave h.standing h.reads))

pub returns-in-End-clause-reads : goal.returns-in-End-clause-reads
returns-in-End-clause-reads g c = let i = c.loop.invariant in let h = i.read c.requires.reads.0 c.requires.reads.1 in
    reads_after g.C.Cell.tells g.C.Cell.state g.O.Origin.offers c.args.store.now c.args.tab h.standing c.loop.pass c.more-answer.new.pass c.loop.buf c.more-answer.new.out c.more-answer.result h.reads (c.more-answer.ensures.gave h.standing h.reads)

pub returns-in-End-clause-others : goal.returns-in-End-clause-others
returns-in-End-clause-others g c = let i = c.loop.invariant in reader_on g.C.Cell.tells g.C.Cell.state g.O.Origin.offers c.args.store.now c.args.tab c.args.pass.now c.loop.pass c.more-answer.new.pass i.follows c.more-answer.ensures.others

pub returns-in-End-clause-inner : goal.returns-in-End-clause-inner
returns-in-End-clause-inner g c = c.more-answer.ensures.inner ∙ c.loop.invariant.inner

pub returns-in-End-clause-length : goal.returns-in-End-clause-length
returns-in-End-clause-length g c = c.more-answer.ensures.length ∙ c.loop.invariant.room

pub returns-in-End-clause-sink : goal.returns-in-End-clause-sink
returns-in-End-clause-sink g c = c.loop.invariant.sink

pub returns-in-End-clause-station : goal.returns-in-End-clause-station
returns-in-End-clause-station g c = c.more-answer.ensures.unfailed (λ w. let is = c.in-End.is in cc) ∙ c.loop.invariant.station

pub returns-in-Halted-clause-went : goal.returns-in-Halted-clause-went
returns-in-Halted-clause-went g c e reads = let h = c.loop.invariant.read e reads in
    ends_with g.C.Cell.tells g.C.Cell.state g.O.Origin.offers c.args.store.now c.args.tab e c.args.pass.now c.loop.pass c.more-answer.new.pass g.K.Sink.tells (g.K.Sink.taken c.args.out.now) (g.K.Sink.taken c.loop.out) c.loop.buf c.more-answer.new.out c.args.looks c.loop.times c.args.most c.loop.is_late More.Halted h c.loop.invariant.fewer (subst (λ (z : More). Gave g.C.Cell.tells g.C.Cell.state g.O.Origin.offers c.args.store.now c.args.tab c.loop.pass h.standing c.loop.buf c.more-answer.new.out c.more-answer.new.pass z) c.in-Halted.is (c.more-answer.ensures.gave h.standing h.reads))

pub returns-in-Halted-clause-reads : goal.returns-in-Halted-clause-reads
returns-in-Halted-clause-reads g c = let i = c.loop.invariant in let h = i.read c.requires.reads.0 c.requires.reads.1 in
    reads_after g.C.Cell.tells g.C.Cell.state g.O.Origin.offers c.args.store.now c.args.tab h.standing c.loop.pass c.more-answer.new.pass c.loop.buf c.more-answer.new.out c.more-answer.result h.reads (c.more-answer.ensures.gave h.standing h.reads)

pub returns-in-Halted-clause-others : goal.returns-in-Halted-clause-others
returns-in-Halted-clause-others g c = let i = c.loop.invariant in reader_on g.C.Cell.tells g.C.Cell.state g.O.Origin.offers c.args.store.now c.args.tab c.args.pass.now c.loop.pass c.more-answer.new.pass i.follows c.more-answer.ensures.others

pub returns-in-Halted-clause-inner : goal.returns-in-Halted-clause-inner
returns-in-Halted-clause-inner g c = c.more-answer.ensures.inner ∙ c.loop.invariant.inner

pub returns-in-Halted-clause-length : goal.returns-in-Halted-clause-length
returns-in-Halted-clause-length g c = c.more-answer.ensures.length ∙ c.loop.invariant.room

pub returns-in-Halted-clause-sink : goal.returns-in-Halted-clause-sink
returns-in-Halted-clause-sink g c = c.loop.invariant.sink

pub returns-in-Halted-clause-station : goal.returns-in-Halted-clause-station
returns-in-Halted-clause-station g c = c.more-answer.ensures.unfailed (λ w. let is = c.in-Halted.is in cc) ∙ c.loop.invariant.station

pub returns-in-OtherUrl-clause-went : goal.returns-in-OtherUrl-clause-went
returns-in-OtherUrl-clause-went g c e reads = let h = c.loop.invariant.read e reads in
    finds_other g.C.Cell.tells g.C.Cell.state g.O.Origin.offers c.args.store.now c.args.tab e c.args.pass.now c.loop.pass c.more-answer.new.pass g.K.Sink.tells (g.K.Sink.taken c.args.out.now) (g.K.Sink.taken c.loop.out) c.loop.buf c.more-answer.new.out c.args.looks c.loop.times c.args.most c.loop.is_late h c.loop.invariant.fewer (subst (λ (z : More). Gave g.C.Cell.tells g.C.Cell.state g.O.Origin.offers c.args.store.now c.args.tab c.loop.pass h.standing c.loop.buf c.more-answer.new.out c.more-answer.new.pass z) c.in-OtherUrl.is (c.more-answer.ensures.gave h.standing h.reads))

pub returns-in-OtherUrl-clause-reads : goal.returns-in-OtherUrl-clause-reads
returns-in-OtherUrl-clause-reads g c = let i = c.loop.invariant in let h = i.read c.requires.reads.0 c.requires.reads.1 in
    reads_after g.C.Cell.tells g.C.Cell.state g.O.Origin.offers c.args.store.now c.args.tab h.standing c.loop.pass c.more-answer.new.pass c.loop.buf c.more-answer.new.out c.more-answer.result h.reads (c.more-answer.ensures.gave h.standing h.reads)

pub returns-in-OtherUrl-clause-others : goal.returns-in-OtherUrl-clause-others
returns-in-OtherUrl-clause-others g c = let i = c.loop.invariant in reader_on g.C.Cell.tells g.C.Cell.state g.O.Origin.offers c.args.store.now c.args.tab c.args.pass.now c.loop.pass c.more-answer.new.pass i.follows c.more-answer.ensures.others

pub returns-in-OtherUrl-clause-inner : goal.returns-in-OtherUrl-clause-inner
returns-in-OtherUrl-clause-inner g c = c.more-answer.ensures.inner ∙ c.loop.invariant.inner

pub returns-in-OtherUrl-clause-length : goal.returns-in-OtherUrl-clause-length
returns-in-OtherUrl-clause-length g c = c.more-answer.ensures.length ∙ c.loop.invariant.room

pub returns-in-OtherUrl-clause-sink : goal.returns-in-OtherUrl-clause-sink
returns-in-OtherUrl-clause-sink g c = c.loop.invariant.sink

pub returns-in-OtherUrl-clause-station : goal.returns-in-OtherUrl-clause-station
returns-in-OtherUrl-clause-station g c = c.more-answer.ensures.unfailed (λ w. let is = c.in-OtherUrl.is in cc) ∙ c.loop.invariant.station

pub returns-in-Fault-clause-went : goal.returns-in-Fault-clause-went
returns-in-Fault-clause-went g c e reads = let h = c.loop.invariant.read e reads in
    ends_with g.C.Cell.tells g.C.Cell.state g.O.Origin.offers c.args.store.now c.args.tab e c.args.pass.now c.loop.pass c.more-answer.new.pass g.K.Sink.tells (g.K.Sink.taken c.args.out.now) (g.K.Sink.taken c.loop.out) c.loop.buf c.more-answer.new.out c.args.looks c.loop.times c.args.most c.loop.is_late More.Fault h c.loop.invariant.fewer (subst (λ (z : More). Gave g.C.Cell.tells g.C.Cell.state g.O.Origin.offers c.args.store.now c.args.tab c.loop.pass h.standing c.loop.buf c.more-answer.new.out c.more-answer.new.pass z) c.in-Fault.is (c.more-answer.ensures.gave h.standing h.reads))

pub returns-in-Fault-clause-reads : goal.returns-in-Fault-clause-reads
returns-in-Fault-clause-reads g c = let i = c.loop.invariant in let h = i.read c.requires.reads.0 c.requires.reads.1 in
    reads_after g.C.Cell.tells g.C.Cell.state g.O.Origin.offers c.args.store.now c.args.tab h.standing c.loop.pass c.more-answer.new.pass c.loop.buf c.more-answer.new.out c.more-answer.result h.reads (c.more-answer.ensures.gave h.standing h.reads)

pub returns-in-Fault-clause-others : goal.returns-in-Fault-clause-others
returns-in-Fault-clause-others g c = let i = c.loop.invariant in reader_on g.C.Cell.tells g.C.Cell.state g.O.Origin.offers c.args.store.now c.args.tab c.args.pass.now c.loop.pass c.more-answer.new.pass i.follows c.more-answer.ensures.others

pub returns-in-Fault-clause-inner : goal.returns-in-Fault-clause-inner
returns-in-Fault-clause-inner g c = c.more-answer.ensures.inner ∙ c.loop.invariant.inner

pub returns-in-Fault-clause-length : goal.returns-in-Fault-clause-length
returns-in-Fault-clause-length g c = c.more-answer.ensures.length ∙ c.loop.invariant.room

pub returns-in-Fault-clause-sink : goal.returns-in-Fault-clause-sink
returns-in-Fault-clause-sink g c = c.loop.invariant.sink

pub returns-in-Fault-clause-station : goal.returns-in-Fault-clause-station
returns-in-Fault-clause-station g c = subst (λ (z : ℕ). Rose z (g.St.Station.faults c.more-answer.new.station)) c.loop.invariant.station (c.more-answer.ensures.failed c.in-Fault.is)
