use Rattle.std.proofs.Common.{ap, sym, ◌∙◌}
use Rattle.std.specs.Prelude.{slice_get}
use Rattle.test_dirs.specs.Offered.{offers_in}
use Rattle.test_dirs.proofs.Filed.{cache_ready}
use Rattle.test_dirs.proofs.files.told_over.Goals as goal

pub pass-pass-requires-clause-own : goal.pass-pass-requires-clause-own
pass-pass-requires-clause-own g c d s p es ep = (c.requires.files.each d s p (ap (λ v. slice_get v.items d) (sym c.from_stores-dirs.ensures) ∙ es) ep).own

pub told_all-text-requires-clause-ready : goal.told_all-text-requires-clause-ready
told_all-text-requires-clause-ready g c = cache_ready g.V.C.Cell.tells g.V.C.Cell.state g.O.Origin.offers 3 (offers_in c.args.first.now c.args.second.now c.args.body.now) c.args.stores c.args.passes c.from_stores-dirs.result c.pass-pass.result
    c.from_stores-dirs.ensures c.pass-pass.ensures.passes c.requires.files c.pass-pass.ensures.own
