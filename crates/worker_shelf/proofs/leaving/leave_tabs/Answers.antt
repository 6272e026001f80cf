use Rattle.std.proofs.Common.{arith, inl, inr, refl, subst, sym, ◌≡◌, ◌∙◌, ◌⊎◌, false, true, ℕ}
use Rattle.std.specs.Prelude.{◌≢◌}
use Rattle.std.proofs.Math.Dec.{eqb}
use Rattle.std.proofs.lemmas.Bool.Decides.{eqb_tells}
use Rattle.store_rule.specs.Passes.{view}
use Rattle.store_serve.specs.Tabs.{Holds, IsFree}
use Rattle.store_serve.specs.Whole.{whole_tab}
use Rattle.worker_shelf.specs.Shelves.{LeftBelow}
use Rattle.worker_shelf.proofs.Holding.{all_hold, both_kept, holds_taken, nothing_lost}
use Rattle.worker_shelf.proofs.Partings.{left_on}
use Rattle.worker_shelf.proofs.leaving.leave_tabs.Goals as goal

pub loop-tab-init : goal.loop-tab-init
loop-tab-init g c = record { left = refl; holds = c.requires; free = λ t lt. absurd (omega arith); keeps = nothing_lost (view c.args.pass.now); places = refl; cells = refl }

pub leave-requires-clause-ready : goal.leave-requires-clause-ready
leave-requires-clause-ready g c = c.loop-tab.invariant.holds.ready

pub leave-requires-clause-holds : goal.leave-requires-clause-holds
leave-requires-clause-holds g c = holds_taken g.C.Cell.tells g.C.Cell.state g.O.Origin.offers c.args.store.now c.loop-tab.pass c.loop-tab.tab c.loop-tab.tabs c.replace-kept.result _ c.loop-tab.invariant.holds (omega arith) c.replace-kept.ensures.value

pub loop-tab-preserved : goal.loop-tab-preserved
loop-tab-preserved g c = let i = c.loop-tab.invariant in let p = c.loop-tab.pass in let q = c.leave.new.pass in let left = c.leave.ensures in let t = c.loop-tab.tab in record {
  left = left_on g.C.Cell.tells g.C.Cell.state g.O.Origin.offers c.args.store.now t c.args.pass.now p q i.left left;
  holds = all_hold g.C.Cell.tells g.C.Cell.state g.O.Origin.offers c.args.store.now record { writes = c.requests_keep_other_tabs.ensures.writes c.args.store.now; reads = c.requests_keep_other_tabs.ensures.reads c.args.store.now } t p q left.leaves c.loop-tab.tabs c.replace-kept.new.dest i.holds (omega arith)
      (subst (λ z. Holds g.C.Cell.tells g.C.Cell.state g.O.Origin.offers c.args.store.now q t z) (sym c.replace-kept.ensures.after) left.free);
  free = λ j lt.
      let at : ((eqb j t ≡ true) × (j ≡ t)) ⊎ ((eqb j t ≡ false) × (j ≢ t)) → IsFree q j = λ w. elim w [ inl is ↦ subst (λ (z : ℕ). IsFree q z) (sym is.1) left.free | inr ne ↦ left.leaves.others j ne.1 (λ e. let z = e in omega arith) ∙ i.free j (let z = ne.1 in omega arith) ] in
      at (eqb_tells j t);
  keeps = both_kept (view c.args.pass.now) (view p) (view q) i.keeps left.leaves.keeps;
  places = left.leaves.places ∙ i.places;
  cells = left.leaves.cells ∙ i.cells;
}

pub returns-clause-left : goal.returns-clause-left
returns-clause-left g c = let whole : c.loop-tab.tab ≡ whole_tab = omega arith in
    subst (λ (n : ℕ). LeftBelow g.C.Cell.tells g.C.Cell.state g.O.Origin.offers c.args.store.now n c.args.pass.now c.loop-tab.pass) whole c.loop-tab.invariant.left
