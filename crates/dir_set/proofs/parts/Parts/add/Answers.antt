use Rattle.std.proofs.Common.{List, arith, drop, length, refl, subst, sym}
use Rattle.dir_set.proofs.Dealing.{filled}
use Rattle.dir_set.specs.declared.dirs.DirPass.{DirPass}
use Rattle.dir_set.specs.Parts.{Dealt}
use Rattle.dir_set.proofs.parts.Parts.add.Goals as goal

pub returns : goal.returns
returns g c = record {
  stores = c.push_reserved.ensures.items;
  stores_room = c.push_reserved.ensures.capacity;
  home = record { header = c.args.opened.header; room = c.deal.new.passes };
  homes = c.push_reserved-2.ensures.items;
  homes_room = c.push_reserved-2.ensures.capacity;
  header_is = refl;
  emptied = c.deal.ensures.emptied;
  kept = c.deal.ensures.kept;
  dealt =
      let dealt = subst (λ (xs : List (DirPass g.row.C.Denot)). Dealt xs c.deal.new.workers c.args.opened.passes.items) c.deref_mut.ensures.value c.deal.ensures.dealt in
      subst (λ (xs : List (DirPass g.row.C.Denot)). Dealt c.args.self.now.passes.items xs c.args.opened.passes.items)
      (sym (filled c.deal.new.workers (drop (length c.deal.new.workers) c.args.self.now.passes.items) c.args.self.now.passes.len (let m = dealt.many in omega (arith, m, c.args.self.now.passes.ok.0)))) dealt;
}
