-- Steps that log a piece, as they are worked out.
use Rattle.std.proofs.Common.{◌≡◌, ◌<◌, ◌+◌, ◌%◌, ◌^◌, ℕ, Bool, Some, None, [], ◌∷◌, length, set, refl, sym, ap, ◌∙◌, subst, arith}
use Rattle.std.specs.Prelude.{slice_get, slice_index}
use Rattle.std.proofs.lemmas.Option.{slice_get_within}
use Rattle.core_model.specs.declared.adding.Addition.{Addition}
use Rattle.core_model.specs.declared.moves.Move.TheVariants as move
use Rattle.core_model.specs.declared.tab.Piece.{Piece}
use Rattle.core_model.specs.declared.tab.Tab.{Tab}
use Rattle.core_model.specs.declared.tab.Tab.TheVariants.{Writing}
use Rattle.core_model.specs.declared.tab.Writer.{Writer}
use Rattle.core_model.specs.declared.view.Kind.TheVariants as kind
use Rattle.core_model.specs.declared.view.LoggedPiece.{LoggedPiece}
use Rattle.core_model.specs.declared.view.Place.TheVariants.{LogCounter}
use Rattle.core_model.specs.declared.view.Sight.TheVariants.{Logged}
use Rattle.core_model.specs.declared.view.View.{View}
use Rattle.core_model.specs.CellMoves.{MayLog, logged_by, logs, piece_of}
use Rattle.core_model.specs.Layout.{index}
use Rattle.core_model.specs.Tabs.{OfWriter, inner}
use Rattle.core_table.specs.declared.content.Content.{Content}
use Rattle.core_table.specs.declared.opening.Opening.{Opening}
use Rattle.core_change.specs.declared.table.Table.{Table}
use Rattle.core_table.specs.Inside.{setting}
use Rattle.core_change.specs.declared.change.ChainChange.TheVariants as chains
use Rattle.core_change.specs.declared.change.NotesChange.TheVariants as notes
use Rattle.core_change.specs.declared.change.TabsChange.TheVariants as tabs
use Rattle.core_change.specs.declared.tab_change.TabChange.TheVariants.{Logs}
use Rattle.core_change.specs.declared.turn_change.TurnChange.TheVariants as turns
use Rattle.core_change.specs.Changed.{word_addition}
use Rattle.core_change.specs.Planned.{IsScene, Plans}
use Rattle.core_change.specs.Tabs.{changed_tab}
use Rattle.core_change.proofs.Facts.{tab_is}
use Rattle.core_change.proofs.Worded.{worded}
use Rattle.core_slots.specs.Logging.{logged_piece}
use Rattle.core_slots.proofs.Reserved.{few_published}

module _ (o : Opening) (t : Table) (v : View Content) (scene : IsScene o t v) where
  -- the counter of logged pieces is one of the table's words
  pub counter_there : (word : ℕ) → word ≡ index (setting o) LogCounter → word < length t.words.items
  counter_there word word_is = let many = scene.sound.shaped.words in omega (arith, many, word_is)

  module _ (at slot : ℕ) (w : Writer Content) (there : slice_get v.tabs at ≡ Some (Writing w)) (may : MayLog slot w) where
    -- the tab has published fewer slots than there are
    pub few_logged : length w.published < o.slots
    few_logged = few_published o t v scene at slot w there may.first

    pub log_planned : at < inner → (durable : Bool) (word n left : ℕ) (piece : Piece) (logged : LoggedPiece) (base : Addition)
        → word ≡ index (setting o) LogCounter → n ≡ slice_index t.words.items word → left ≡ (n + 1) % 2 ^ 64
        → piece ≡ piece_of w → logged ≡ logged_piece w slot durable n → base ≡ word_addition kind.Logged LogCounter slot n left (Some (Logged logged))
        → Plans o t v (move.LogPiece at slot durable) record {
          answer = n;
          word = Some record { index = word; left = left };
          turn = turns.Same;
          tabs = tabs.Becomes at (Logs piece slot durable);
          chain = chains.Same;
          used = None;
          addition = base;
          notes = notes.Same;
        }
    log_planned writes durable word n left piece logged base word_is n_is left_is piece_is logged_is base_is =
        let is = tab_is o t v scene at (Writing w) there in
        let finds : slice_index t.words.items (index (setting o) LogCounter) ≡ n = ap (λ i. slice_index t.words.items i) (sym word_is) ∙ sym n_is in
        record {
          allowed = (writes, subst (λ (x : Tab Content). OfWriter (MayLog slot) x) (sym is) may);
          answers = sym finds;
          matches = worded o t v (move.LogPiece at slot durable) LogCounter slot n left kind.Logged (Some (Logged logged)) n word (tabs.Becomes at (Logs piece slot durable)) base base_is word_is
              record {
                on = refl;
                leaves = ap (λ i. (i + 1) % 2 ^ 64) finds ∙ sym left_is;
                item = λ j. record { kind = kind.Logged; at = slot; found = finds j };
                sees = (λ j. logged_by (is j) slot durable (finds j)) ∙ sym (ap (λ x. Logged x ∷ []) logged_is);
                places = refl;
                views = λ i. refl;
                held = refl;
                deeds = refl;
                met = refl;
                chains = refl;
              }
              (ap (λ (y : Tab Content). set v.tabs at y) (ap (λ (y : Tab Content). changed_tab y (Logs piece slot durable)) is ∙ ap (λ p. changed_tab (Writing w) (Logs p slot durable)) piece_is ∙ sym (ap (λ (y : Tab Content). logs y slot durable) is)));
          word = counter_there word word_is;
          turn = tt;
          tabs = slice_get_within v.tabs at (Writing w) there;
          chain = tt;
        }
