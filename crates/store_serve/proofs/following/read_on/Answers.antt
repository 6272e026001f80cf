use Rattle.std.proofs.Common.{arith, refl, subst, sym, ◌∙◌}
use Rattle.std.proofs.lemmas.List.{length-take-le}
use Rattle.rock_io.specs.Faults.{Rose}
use Rattle.rock_reader.specs.Reading.{Gave}
use Rattle.rock_reader.specs.declared.answer.More.{More}
use Rattle.store_serve.proofs.Gives.{no_fault, on_err, read_none, read_one, reader_none, reader_on, some_given, went_on}
use Rattle.store_serve.proofs.following.read_on.Goals as goal

pub loop-init : goal.loop-init
loop-init g c = record {
  next = tt;
  finite = tt;
  room = refl;
  read = λ e reads. read_none g.C.Cell.tells g.C.Cell.state g.O.Origin.offers c.args.store.now c.args.tab e c.args.pass.now c.args.out.now.items reads;
  follows = reader_none g.C.Cell.tells g.C.Cell.state g.O.Origin.offers c.args.store.now c.args.tab c.args.pass.now c.requires.reads.1.own;
  inner = refl;
  station = refl;
}

pub more-answer-requires : goal.more-answer-requires
more-answer-requires g c = let i = c.loop.invariant in let h = i.read c.requires.reads.0 c.requires.reads.1 in
    c.reading_tabs_may_go_on.ensures.more _ _ _ _ h.standing h.reads (let room = c.requires.room in let same = i.room in omega arith)

pub returns-in_default : goal.returns-in_default
returns-in_default g c = let i = c.loop.invariant in record {
  went = λ e reads. let h = i.read e reads in went_on g.C.Cell.tells g.C.Cell.state g.O.Origin.offers c.args.store.now c.args.tab e c.args.pass.now c.loop.pass c.more-answer.new.pass c.args.out.now.items c.loop.out.items c.loop.piece c.more-answer.new.out c.more-answer.result h
      (c.more-answer.ensures.gave h.standing h.reads) c.in_default.not-Piece;
  stopped = λ e reads. tt;
  others = reader_on g.C.Cell.tells g.C.Cell.state g.O.Origin.offers c.args.store.now c.args.tab c.args.pass.now c.loop.pass c.more-answer.new.pass i.follows c.more-answer.ensures.others;
  inner = c.more-answer.ensures.inner ∙ i.inner;
  length = c.more-answer.ensures.length ∙ i.room;
  failed = λ w. subst (λ z. Rose z (g.St.Station.faults c.more-answer.new.station)) i.station (c.more-answer.ensures.failed w);
  unfailed = λ w. c.more-answer.ensures.unfailed w ∙ i.station;
  memory = tt;
}

pub slice_bounds-extend_from_slice-end : goal.slice_bounds-extend_from_slice-end
slice_bounds-extend_from_slice-end g c = let i = c.loop.invariant in let h = i.read c.requires.reads.0 c.requires.reads.1 in
    let piece = subst (λ (z : More). Gave g.C.Cell.tells g.C.Cell.state g.O.Origin.offers c.args.store.now c.args.tab c.loop.pass h.standing c.loop.piece c.more-answer.new.out c.more-answer.new.pass z) c.in-Piece.is (c.more-answer.ensures.gave h.standing h.reads) in let within = piece.within in let same = c.more-answer.ensures.length in omega arith

pub slice_bounds-extend_from_slice-end-in-loop : goal.slice_bounds-extend_from_slice-end-in-loop
slice_bounds-extend_from_slice-end-in-loop g c = let i = c.loop.invariant in let h = i.read c.requires.reads.0 c.requires.reads.1 in
    let piece = subst (λ (z : More). Gave g.C.Cell.tells g.C.Cell.state g.O.Origin.offers c.args.store.now c.args.tab c.loop.pass h.standing c.loop.piece c.more-answer.new.out c.more-answer.new.pass z) c.in-Piece.is (c.more-answer.ensures.gave h.standing h.reads) in sym (length-take-le c.in-Piece.count c.more-answer.new.out (let within = piece.within in let same = c.more-answer.ensures.length in omega arith))

pub loop-preserved : goal.loop-preserved
loop-preserved g c = let i = c.loop.invariant in record {
  next = tt;
  finite = tt;
  room = c.more-answer.ensures.length ∙ i.room;
  read = λ e reads. let h = i.read e reads in
      let piece = subst (λ (z : More). Gave g.C.Cell.tells g.C.Cell.state g.O.Origin.offers c.args.store.now c.args.tab c.loop.pass h.standing c.loop.piece c.more-answer.new.out c.more-answer.new.pass z) c.in-Piece.is (c.more-answer.ensures.gave h.standing h.reads) in
      read_one g.C.Cell.tells g.C.Cell.state g.O.Origin.offers c.args.store.now c.args.tab e c.args.pass.now c.loop.pass c.more-answer.new.pass c.args.out.now.items c.loop.out.items c.extend_from_slice.new.self.items c.loop.piece c.more-answer.new.out c.in-Piece.count h piece c.in_ok-extend_from_slice.ensures.items;
  follows = reader_on g.C.Cell.tells g.C.Cell.state g.O.Origin.offers c.args.store.now c.args.tab c.args.pass.now c.loop.pass c.more-answer.new.pass i.follows c.more-answer.ensures.others;
  inner = c.more-answer.ensures.inner ∙ i.inner;
  station = c.more-answer.ensures.unfailed (no_fault c.in-Piece.is) ∙ i.station;
}

pub returns-in_err-extend_from_slice-clause-stopped : goal.returns-in_err-extend_from_slice-clause-stopped
returns-in_err-extend_from_slice-clause-stopped g c e reads = let h = c.loop.invariant.read e reads in
    let piece = subst (λ (z : More). Gave g.C.Cell.tells g.C.Cell.state g.O.Origin.offers c.args.store.now c.args.tab c.loop.pass h.standing c.loop.piece c.more-answer.new.out c.more-answer.new.pass z) c.in-Piece.is (c.more-answer.ensures.gave h.standing h.reads) in
    on_err _ c.from_residual.result (some_given g.C.Cell.tells g.C.Cell.state g.O.Origin.offers c.args.store.now c.args.tab e c.args.pass.now c.loop.pass c.more-answer.new.pass c.args.out.now.items c.loop.out.items c.loop.piece c.more-answer.new.out c.in-Piece.count h piece)

pub returns-in_err-extend_from_slice-clause-others : goal.returns-in_err-extend_from_slice-clause-others
returns-in_err-extend_from_slice-clause-others g c = reader_on g.C.Cell.tells g.C.Cell.state g.O.Origin.offers c.args.store.now c.args.tab c.args.pass.now c.loop.pass c.more-answer.new.pass c.loop.invariant.follows c.more-answer.ensures.others

pub returns-in_err-extend_from_slice-clause-inner : goal.returns-in_err-extend_from_slice-clause-inner
returns-in_err-extend_from_slice-clause-inner g c = let i = c.loop.invariant in c.more-answer.ensures.inner ∙ i.inner
