use Rattle.std.proofs.Common.{arith, sym, ap, length, ◌∙◌}
use Rattle.core_model.specs.declared.view.View.{View}
use Rattle.core_table.specs.declared.content.Content.{Content}
use Rattle.core_table.proofs.Lists.{at_length, at_slice, slice_at}
use Rattle.core_change.proofs.table.Table.pass.Goals as goal

pub returns-in-None : goal.returns-in-None
returns-in-None c view at pass = let lt = at_length c.args.self.now.views.items c.args.number view at in omega (arith, lt, c.in-None.ensures)

pub returns-then-as_slice-ne-TABS : goal.returns-then-as_slice-ne-TABS
returns-then-as_slice-ne-TABS c view at pass =
    let same = slice_at c.args.self.now.views.items c.args.number c.in-Some.view.now view c.in-Some.ensures at in
    let tabs = ap length c.as_slice.ensures ∙ ap (λ (v : View Content). length v.tabs) same in
    c.if-as_slice-ne-TABS.true (tabs ∙ pass)

pub returns-else-as_slice-ne-TABS : goal.returns-else-as_slice-ne-TABS
returns-else-as_slice-ne-TABS c = (at_slice c.args.self.now.views.items c.args.number c.in-Some.view.now c.in-Some.ensures, sym (ap length c.as_slice.ensures) ∙ c.if-as_slice-ne-TABS.false)
