use Rattle.std.proofs.Common.{ap, ◌∙◌, ℕ}
use Rattle.std.specs.Global.{Vec}
use Rattle.test_dirs.specs.Offered.{offers_in}
use Rattle.test_dirs.proofs.urls.TwoUrls.new.Goals as goal

pub returns : goal.returns
returns c = ap (λ (v : Vec ℕ). offers_in v.items c.of-2.result.value.items c.of-3.result.value.items) c.of.ensures
    ∙ ap (λ (v : Vec ℕ). offers_in c.args.first.now.items v.items c.of-3.result.value.items) c.of-2.ensures
    ∙ ap (λ (v : Vec ℕ). offers_in c.args.first.now.items c.args.second.now.items v.items) c.of-3.ensures
