-- When a store of one pass may be closed.
use Rattle.std.proofs.Common.{All, Bool, [], ap, arith, length, subst, sym, ◌∙◌, ◌∷◌, ◌≡◌}
use Rattle.std.specs.Global.{Vec}
use Rattle.std.specs.Prelude.{vec_len}
use Rattle.std.proofs.lemmas.List.Elements.{All-cons, All-nil}
use Rattle.rock_disk.specs.Cell.{CellState}
use Rattle.store_rule.specs.declared.store.Pass.{Pass}
use Rattle.store_rule.specs.declared.store.Store.{Store}
use Rattle.store_rule.specs.Closing.{IsResting}
use Rattle.store_rule.specs.Ground.{Offers}
use Rattle.store_rule.specs.Passes.{IsOf, KeepsRoom, basis, view}
use Rattle.rock_run.specs.Crews.{MayRest}
use Rattle.test_closings.specs.Closable.{MayClose}

module _ {C O : Type 0} (tells : Bool) (state : C → CellState) (offers : O → Offers) (s : Store C O) where
  -- its pass is here, at rest
  pub one_may_close : (p : Pass C) (ps : Vec (Pass C)) → MayRest tells state offers s p → (view p).pass ≡ 0
      → (basis tells state offers s).setting.passes ≡ 1 → ps.items ≡ p ∷ [] → MayClose tells state offers s ps
  one_may_close p ps may first alone one =
      let many : vec_len ps ≡ 1 = let long = ps.ok.0 in let single = ap length one in omega (arith, long, single) in
      record {
        some = omega (arith, many);
        all = many ∙ sym alone;
        own = subst (All (IsOf tells state offers s)) (sym one) (All-cons (IsOf tells state offers s) p [] may.own (All-nil (IsOf tells state offers s)));
        rest = subst (All IsResting) (sym one) (All-cons IsResting p [] may.rest (All-nil IsResting));
        room = subst (KeepsRoom (basis tells state offers s).setting.slots) (sym one) (may.cells first);
      }
