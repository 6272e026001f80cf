use Rattle.test_dirs.specs.Offered.{offers_in}
use Rattle.test_dirs.proofs.Filed.{put_files}
use Rattle.test_dirs.proofs.files.add.Goals as goal

pub returns-clause-files : goal.returns-clause-files
returns-clause-files g c = put_files g.C.Cell.tells g.C.Cell.state g.O.Origin.offers 3 (offers_in c.args.first.now c.args.second.now c.args.body.now) c.args.stores.now.items c.push.new.self.items c.args.passes.now.items c.push-2.new.self.items c.args.store c.args.pass
    c.requires.files c.requires.file c.in-Ok.ensures.items c.in-Ok-push.ensures.items
