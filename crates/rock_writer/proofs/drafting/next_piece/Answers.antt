use Rattle.std.proofs.Common.{ap, ◌∙◌}
use Rattle.tab_states.specs.declared.desks.Draft.{Draft}
use Rattle.rock_writer.proofs.Desks.{drafted_draft, drafted_moves}
use Rattle.rock_writer.proofs.drafting.next_piece.Goals as goal

pub returns-clause-emptied : goal.returns-clause-emptied
returns-clause-emptied g c =
    let draft = c.draft-draft in
    drafted_draft c.args.tab c.args.pass.now c.set_draft.new.self (record draft.result { held = 0 }) c.requires.below c.set_draft.ensures ∙ ap (λ (x : Draft). record x { held = 0 }) draft.ensures

pub returns-clause-kept : goal.returns-clause-kept
returns-clause-kept g c = drafted_moves c.args.tab c.args.pass.now c.set_draft.new.self (record c.draft-draft.result { held = 0 }) c.set_draft.ensures
