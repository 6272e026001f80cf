-- Where no anchor is left to one pass, each may go to all.
use Rattle.std.proofs.Common.{Bool, List, ap, sym, ◌∙◌, ◌≡◌, ℕ}
use Rattle.std.specs.Prelude.{None, Some}
use Rattle.rock_disk.specs.Cell.{CellState}
use Rattle.rock_run.specs.Offered.{OffersLines}
use Rattle.script_text.specs.declared.line.Line.{Line}
use Rattle.store_rule.specs.declared.store.Pass.{Pass}
use Rattle.store_rule.specs.declared.store.Store.{Store}
use Rattle.store_rule.specs.Ground.{Offers, anchor_for}
use Rattle.store_rule.specs.Passes.{basis}
use Rattle.store_serve.specs.Tabs.{MayGo}
use Rattle.test_forwarding_kit.specs.Shared.{shared_of}

module _ {C O : Type 0} (tells : Bool) (state : C → CellState) (offers : O → Offers) (s : Store C O) (lines : List Line) (given : (basis tells state offers s).offers ≡ shared_of lines) where
  pub lines_offered : OffersLines lines (basis tells state offers s).offers
  lines_offered = record { url = ap Offers.url given; body = ap Offers.body given; need = ap Offers.need given }

  pub goes : (p : Pass C) (url : List ℕ) → MayGo tells state offers s p url
  goes p url pass e =
      let anchors : ℕ = (basis tells state offers s).setting.anchors in
      let a : ℕ = anchor_for (basis tells state offers s) url in
      let none : None ≡ Some pass = sym (ap (λ (o : Offers). o.alone anchors a) given) ∙ e in cc
