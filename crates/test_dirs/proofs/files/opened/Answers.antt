use Rattle.std.proofs.Common.{refl, ◌∙◌}
use Rattle.test_dirs.specs.Offered.{offers_in}
use Rattle.test_dirs.proofs.Filed.{new_file}
use Rattle.test_dirs.proofs.files.opened.Goals as goal

pub returns-clause-file : goal.returns-clause-file
returns-clause-file g c = let st = c.in-Ok.ensures.opened.store in
    new_file g.V.C.Cell.tells g.V.C.Cell.state g.O.Origin.offers 3 (offers_in c.args.first.now c.args.second.now c.args.body.now) c.in-Ok.open.store c.in-Some.pass c.in-Ok.open.passes.items c.pop.new.self.items refl st.new c.in-Some.ensures.items st.slot_is (st.offers_are ∙ c.requires.offers)

pub returns-clause-there : goal.returns-clause-there
returns-clause-there g c = λ t. c.opened_cells_are_the_files.ensures.there _ _ _ _ _ _ _ (c.in-Ok.ensures.opened.out t)
