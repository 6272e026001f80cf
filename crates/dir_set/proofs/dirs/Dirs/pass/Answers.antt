use Rattle.std.proofs.Common.{arith, ◌<◌}
use Rattle.dir_set.proofs.OneFile.{first_of_all}
use Rattle.dir_set.specs.Dirs.{dir_count}
use Rattle.dir_set.proofs.dirs.Dirs.pass.Goals as goal

pub returns-clause-own : goal.returns-clause-own
returns-clause-own g c =
    let some : 0 < dir_count c.args.self.now = omega (arith, c.args.self.now.some, c.args.self.now.stores.ok.0) in record {
      many = omega (arith, c.requires.many, c.args.self.now.stores.ok.0, c.args.passes.ok.0);
      own = c.requires.own;
      hand = some;
      tabs = λ t lt. first_of_all (dir_count c.args.self.now) some 8 t;
    }
