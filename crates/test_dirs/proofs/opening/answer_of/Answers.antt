use Rattle.std.proofs.Common.{ap, arith, length, ◌≡◌}
use Rattle.std.proofs.lemmas.List.{length-map}
use Rattle.std.specs.Prelude.{string_bytes}
use Rattle.test_dirs.proofs.opening.answer_of.Goals as goal

pub close_dirs-requires-clause-may : goal.close_dirs-requires-clause-may
close_dirs-requires-clause-may c κs d name s h en es eh =
    let long = length-map c.as_slice.result.now string_bytes in
    let same : length c.in_ok-origins.origins.items ≡ length c.args.names.now = omega (arith, c.in_ok-origins.ensures, c.in_ok-origins.origins.ok.0, long, ap length c.as_slice.ensures) in
    c.new_caches_may_be_closed.ensures.may _ _ _ _ _ _ _ _ _ _ _ c.in-Ok.ensures.opened same d name s h en es eh
