use Rattle.std.proofs.Common.{◌≡◌, ◌++◌, take, arith, ap, sym, ◌∙◌}
use Rattle.script_text.proofs.Sourcing.{chunk_given, taken_more, explained, explained_again, bad_now, bad_at_end, script_at_end, good_read, bad_read, no_script}
use Rattle.script_text.proofs.script.read_script.Goals as goal

pub script-preserved : goal.script-preserved
script-preserved g c =
    let (front, is, was) = c.script.invariant.front in
    let chunk : take c.in_ok-count.count c.deref.result.now ≡ take c.in_ok-count.count c.read.new.buf =
    ap (take c.in_ok-count.count) c.deref.ensures.value ∙ chunk_given c.in_ok-count.count c.script.buf.len c.read.new.buf c.script.buf.items (omega (arith, c.in_ok-count.ensures.count, c.read.auto.buf)) (omega (arith, c.in_ok-count.ensures.count, c.deref_mut.ensures.len)) in
    record {
      buffer = c.script.invariant.buffer;
      reading = c.in_ok-take_bytes.ensures.reading;
      workers = c.take_bytes.ensures.workers ∙ c.script.invariant.workers;
      front = (
        front ++ take c.in_ok-count.count c.deref.result.now,
        c.in_ok-take_bytes.ensures.front front is,
        λ told. taken_more _ front (take c.in_ok-count.count c.deref.result.now) _ _ (was told) (c.in_ok-count.ensures.given told ∙ ap (λ l. l ++ g.S.Source.left c.read.new.self) (sym chunk)),
      );
      faults = c.in_ok-count.ensures.unfailed ∙ c.script.invariant.faults;
    }

pub returns-in_err-take_bytes-clause-refused : goal.returns-in_err-take_bytes-clause-refused
returns-in_err-take_bytes-clause-refused g c =
    let (front, is, was) = c.script.invariant.front in
    let bytes = take c.in_ok-count.count c.deref.result.now in
    let chunk : bytes ≡ take c.in_ok-count.count c.read.new.buf =
    ap (take c.in_ok-count.count) c.deref.ensures.value ∙ chunk_given c.in_ok-count.count c.script.buf.len c.read.new.buf c.script.buf.items (omega (arith, c.in_ok-count.ensures.count, c.read.auto.buf)) (omega (arith, c.in_ok-count.ensures.count, c.deref_mut.ensures.len)) in
    explained_again _ c.in_err-take_bytes.field-0.0 _ _ _ c.from_residual-in_err-take_bytes.ensures.1 c.in_err-take_bytes.ensures.bad
    (λ line cause bad. bad_now g.S.Source.tells c.script.reading c.args.workers _ front bytes _ (g.S.Source.left c.read.new.self) line cause c.script.invariant.workers is was
    (λ told. c.in_ok-count.ensures.given told ∙ ap (λ l. l ++ g.S.Source.left c.read.new.self) (sym chunk)) bad)

pub returns-in_err-take_bytes-clause-taken : goal.returns-in_err-take_bytes-clause-taken
returns-in_err-take_bytes-clause-taken g c told =
    let (front, is, was) = c.script.invariant.front in
    (front ++ take c.in_ok-count.count c.read.new.buf, taken_more _ front (take c.in_ok-count.count c.read.new.buf) _ _ (was told) (c.in_ok-count.ensures.given told))

pub returns-clause-script : goal.returns-clause-script
returns-clause-script g c =
    let (front, is, was) = c.script.invariant.front in
    script_at_end g.S.Source.tells c.script.reading c.args.workers _ front _ _ (take c.in_ok-count.count c.read.new.buf) c.finish.result c.script.invariant.workers is was c.in_ok-count.ensures.given
    (λ told. c.in_ok-count.ensures.end told c.if-count-eq0.true (omega (arith, c.deref_mut.ensures.len, c.script.invariant.buffer))) c.finish.ensures.script

pub returns-clause-refused : goal.returns-clause-refused
returns-clause-refused g c =
    let (front, is, was) = c.script.invariant.front in
    explained c.finish.result _ _ _ c.finish.ensures.bad
    (λ line cause bad. bad_at_end g.S.Source.tells c.script.reading c.args.workers _ front _ (g.S.Source.left c.read.new.self) (take c.in_ok-count.count c.read.new.buf) line cause c.script.invariant.workers is was c.in_ok-count.ensures.given
    (λ told. c.in_ok-count.ensures.end told c.if-count-eq0.true (omega (arith, c.deref_mut.ensures.len, c.script.invariant.buffer))) bad)

pub returns-in_err-take_bytes-clause-good : goal.returns-in_err-take_bytes-clause-good
returns-in_err-take_bytes-clause-good g c lines told good =
    good_read g.S.Source.tells c.args.workers (g.S.Source.left c.args.src.now) (g.S.Source.left c.read.new.self) _ c.from_residual-in_err-take_bytes.result lines (omega (arith, c.ranges.workers.fits))
    (no_script _ _ _ c.from_residual-in_err-take_bytes.ensures.1) (returns-in_err-take_bytes-clause-refused g c) told good

pub returns-in_err-take_bytes-clause-bad : goal.returns-in_err-take_bytes-clause-bad
returns-in_err-take_bytes-clause-bad g c line cause told bad =
    bad_read g.S.Source.tells c.args.workers (g.S.Source.left c.args.src.now) (g.S.Source.left c.read.new.self) _ c.from_residual-in_err-take_bytes.result line cause (omega (arith, c.ranges.workers.fits))
    (no_script _ _ _ c.from_residual-in_err-take_bytes.ensures.1) (returns-in_err-take_bytes-clause-refused g c) told bad

pub returns-clause-good : goal.returns-clause-good
returns-clause-good g c lines told good =
    good_read g.S.Source.tells c.args.workers (g.S.Source.left c.args.src.now) (g.S.Source.left c.read.new.self) _ c.finish.result lines (omega (arith, c.ranges.workers.fits)) (returns-clause-script g c) (returns-clause-refused g c) told good

pub returns-clause-bad : goal.returns-clause-bad
returns-clause-bad g c line cause told bad =
    bad_read g.S.Source.tells c.args.workers (g.S.Source.left c.args.src.now) (g.S.Source.left c.read.new.self) _ c.finish.result line cause (omega (arith, c.ranges.workers.fits)) (returns-clause-script g c) (returns-clause-refused g c) told bad
