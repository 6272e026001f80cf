use Rattle.std.proofs.Common.{◌≡◌, refl, sym, subst, rules}
use Rattle.rebuild_model.specs.Plain.{IsFound, HasNoEntry}
use Rattle.rock_rebuild.specs.Gathered.{found_with}
use Rattle.rock_rebuild.specs.declared.entries.Whole.{Whole}
use Rattle.rock_rebuild.proofs.Options.{at_some, at_none}
use Rattle.rock_rebuild.proofs.Completing.{same_found}
use Rattle.rock_rebuild.proofs.entries.find_at.Goals as goal

pub returns-in_default-clause-found : goal.returns-in_default-clause-found
returns-in_default-clause-found c images file left tells =
    let told = c.in_ok-whole.ensures.whole images file left tells in (
      told.0,
      at_none (HasNoEntry c.args.slot images c.args.first)
          (λ (w : Whole). IsFound c.args.slot images c.args.first (found_with c.args.first w.version w.key w.url.now w.length c.whole_at.new.chain.items)) c.in_default.is told.1,
    )

pub returns-clause-found : goal.returns-clause-found
returns-clause-found c images file left tells =
    let told = c.in_ok-whole.ensures.whole images file left tells in
    let url_is : c.from_vec.result ≡ c.in-Some.whole.url.now = search rules in
    let copied : c.from_vec-2.result ≡ c.whole_at.new.chain.items = search rules in (
      told.0,
      subst (IsFound c.args.slot images c.args.first) (same_found c.args.first refl refl (sym url_is) refl (sym copied))
          (at_some (HasNoEntry c.args.slot images c.args.first)
          (λ (w : Whole). IsFound c.args.slot images c.args.first (found_with c.args.first w.version w.key w.url.now w.length c.whole_at.new.chain.items)) c.in-Some.is told.1),
    )
