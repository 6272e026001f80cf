use Rattle.std.proofs.Common.{arith, subst, sym}
use Rattle.std.specs.Prelude.{string_bytes}
use Rattle.test_dirs.proofs.Names.{AreLonger, longer_differ, longer_put}
use Rattle.test_dirs.proofs.opening.names_of.Goals as goal

pub loop-place-preserved : goal.loop-place-preserved
loop-place-preserved c = let i = c.loop-place.invariant in record {
  many = let l = c.in-Ok.ensures.len in let m = i.many in omega (arith, l, m);
  longer = longer_put string_bytes c.loop-place.names.items c.push.new.self.items c.in_ok-name.name c.loop-place.place (let m = i.many in omega (arith, m, c.loop-place.names.ok.0)) i.longer c.in-Ok.ensures.items c.in_ok-name.ensures;
}

pub returns-clause-different : goal.returns-clause-different
returns-clause-different c = longer_differ c.from_vec.result (subst AreLonger (sym c.from_vec.ensures) c.loop-place.invariant.longer)
