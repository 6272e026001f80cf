-- Closed entries of a store that was closed, in the cells that were left.
use Rattle.std.proofs.Common.{Bool, List, arith, length, map, ◌<◌, ◌≡◌, ℕ}
use Rattle.std.specs.Prelude.{IsTrue}
use Rattle.std.specs.Global.{Vec}
use Rattle.std.proofs.lemmas.List.{length-map}
use Rattle.lock_word.specs.Words.{epoch_of, stage_of}
use Rattle.rock_disk.specs.Cell.{CellState}
use Rattle.rock_disk.specs.Opened.{AreSlots}
use Rattle.core_model.specs.declared.moves.Side.TheVariants.{Offer}
use Rattle.core_model.specs.declared.view.View.{View}
use Rattle.core_model.specs.State.{side_word, word}
use Rattle.store_rule.specs.declared.store.Pass.{Pass}
use Rattle.store_rule.specs.declared.store.Store.{Store}
use Rattle.store_rule.specs.Closing.{Closed}
use Rattle.store_rule.specs.Ground.{Ground, Offers}
use Rattle.store_rule.specs.Passes.{basis}
use Rattle.rock_open.specs.Opening.{IsStoreOver}
use Rattle.rock_reader.specs.Responses.{IsResponse}
use Rattle.plain_runs.specs.Ends.{SpellsResponse}
use Rattle.plain_runs.proofs.AtAnchors.{OneKept}
use Rattle.plain_runs.proofs.Ends.{PlacedPieces, home_as}
use Rattle.plain_runs.proofs.Opened.{as_many, has_versions, tells_pieces}
use Rattle.plain_runs.proofs.Spelled.{spells}

module _ {C O : Type 0} (tells : Bool) (state : C → CellState) (offers : O → Offers) (slot anchors passes : ℕ) (origin : O) (cells : List C) (s : Store C O) (ps : Vec (Pass C))
    (over : IsStoreOver tells state offers slot anchors passes origin cells s ps) (told : IsTrue tells) (as_wide : (c : C) → IsTrue tells → length (state c).now ≡ (state c).width)
    (slots : AreSlots slot (map state cells)) (one : OneKept) (placed : PlacedPieces) where
  abbrev g : Ground (List ℕ)
  g = basis tells state offers s

  pub closed_entry : (views : List (View (List ℕ))) (left : List C) (closed : Closed tells state g views left) (a : ℕ) → a < g.setting.anchors → stage_of (epoch_of (word closed.gathered.state a)) ≡ 3
      → (url body : List ℕ) → IsResponse g a (side_word g.setting closed.gathered.state Offer a) url body
      → SpellsResponse g closed.gathered.state (map (λ c. (state c).now) left) a url body
  closed_entry views left closed a lt stage url body response =
      spells g closed.gathered.state closed.gathered.rule
      (tells_pieces tells state offers slot anchors passes origin cells s ps over told)
      (has_versions tells state offers slot anchors passes origin cells s ps over told as_wide slots one)
      (map (λ c. (state c).now) left)
      (home_as tells state told g closed.gathered.state left closed.many closed.home)
      a lt stage
      (as_many tells state offers slot anchors passes origin cells s ps over told)
      (let z = slots.size.to in let e = over.slot_is in omega arith)
      (let z = slots.few in let e = over.slots_are in let n = length-map cells state in omega arith)
      placed url body response
