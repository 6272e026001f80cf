use Rattle.std.proofs.Common.{◌≡◌, sym, ap, ◌∙◌, Some}
use Rattle.core_model.specs.declared.tab.Tab.{Tab}
use Rattle.core_table.specs.declared.content.Content.{Content}
use Rattle.core_change.specs.Changed.{tabs_changed}
use Rattle.core_change.proofs.Changing.{appended}
use Rattle.core_change.proofs.change.change_tabs.Goals as goal

pub returns-in-Writing : goal.returns-in-Writing
returns-in-Writing c =
    let there = c.replace.ensures.value ∙ ap (λ (x : Tab Content). Some x) c.in-Writing.is in
    let new : c.set-in-Appends.new.self ≡ tabs_changed c.args.view.now c.args.change =
    appended _ _ _ _ _ c.replace.ensures.after there c.set-in-Appends.ensures ∙ ap (tabs_changed c.args.view.now) (sym c.in-Appends.is) in
    ap (λ ts. record c.args.view.now { tabs = ts }) new
