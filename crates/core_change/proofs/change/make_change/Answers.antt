use Rattle.std.proofs.Common.{ℕ, List, Option, length, set, sym, ap, ◌∙◌, subst, arith}
use Rattle.std.proofs.lemmas.List.{with_items_is}
use Rattle.core_model.specs.declared.chain.Chain.{Chain}
use Rattle.core_model.specs.declared.tab.Cell.{Cell}
use Rattle.core_model.specs.declared.view.View.{View}
use Rattle.core_table.specs.declared.content.Content.{Content}
use Rattle.core_change.specs.Changed.{FitsTabs, words_changed, view_changed, turned_view, chains_changed}
use Rattle.core_change.specs.Notes.{notes_changed}
use Rattle.core_change.specs.Turns.{FitsTurn, places_changed}
use Rattle.core_table.proofs.Lists.{at_length, still_at}
use Rattle.core_change.proofs.change.make_change.Goals as goal

pub index_mut-requires : goal.index_mut-requires
index_mut-requires c = omega (arith, at_length c.args.table.now.views.items c.args.pass c.requires.view c.requires.at, c.reserve.ensures.len)

pub change_view-requires-clause-turn : goal.change_view-requires-clause-turn
change_view-requires-clause-turn c =
    let is = still_at c.reserve.new.self.items c.args.table.now.views.items c.args.pass c.requires.view c.index_mut.result.now c.index_mut.ensures.value c.reserve.ensures.items c.requires.at in
    subst (λ (v : View Content). FitsTurn (length v.tabs) (length c.deref_mut.result.now) c.args.change.turn) (sym is)
    (subst (λ (ps : List (Option (Cell Content))). FitsTurn (length c.requires.view.tabs) (length ps) c.args.change.turn) (sym c.deref_mut.ensures.value) c.requires.turn)

pub change_view-requires-clause-tabs : goal.change_view-requires-clause-tabs
change_view-requires-clause-tabs c =
    let is = still_at c.reserve.new.self.items c.args.table.now.views.items c.args.pass c.requires.view c.index_mut.result.now c.index_mut.ensures.value c.reserve.ensures.items c.requires.at in
    subst (λ (v : View Content). FitsTabs (turned_view v c.deref_mut.result.now c.args.change.turn) c.args.change.tabs) (sym is)
    (subst (λ (ps : List (Option (Cell Content))). FitsTabs (turned_view c.requires.view ps c.args.change.turn) c.args.change.tabs) (sym c.deref_mut.ensures.value) c.requires.tabs)

pub returns-clause-ok : goal.returns-clause-ok
returns-clause-ok c view at =
    let is = still_at c.reserve.new.self.items c.args.table.now.views.items c.args.pass view c.index_mut.result.now c.index_mut.ensures.value c.reserve.ensures.items at in
    let home = c.deref_mut.ensures.value in
    let new = c.in_ok-change_view.ensures.view ∙ (λ j. view_changed (is j) (home j) c.args.change.addition c.args.change.used c.args.change.turn c.args.change.tabs) in
    let words =
    with_items_is c.args.table.now.words c.change_word.new.words (c.change_word.auto.words ∙ c.deref_mut-2.ensures.len) ∙ c.change_word.ensures
    ∙ ap (λ (ws : List ℕ). words_changed ws c.args.change.word) c.deref_mut-2.ensures.value in
    let places =
    with_items_is c.args.table.now.places c.change_view.new.places (c.change_view.auto.places ∙ c.deref_mut.ensures.len) ∙ c.in_ok-change_view.ensures.places
    ∙ (λ j. places_changed (is j).tabs (home j) c.args.change.turn) in
    let views = c.change_notes.ensures ∙ (λ j. notes_changed (set (c.reserve.ensures.items j) c.args.pass (new j)) c.args.change.notes) in
    let chains =
    with_items_is c.args.table.now.chains c.change_chain.new.chains (c.change_chain.auto.chains ∙ c.deref_mut-3.ensures.len) ∙ c.change_chain.ensures
    ∙ ap (λ (cs : List Chain). chains_changed cs c.args.change.chain) c.deref_mut-3.ensures.value in
    λ j. record { words = words j; places = places j; views = views j; chains = chains j }
