-- What a pass shows of its lot when its store is closed stands in the file that is given back.
use Rattle.std.proofs.Common.{Bool, List, [], ap, arith, length, map, refl, subst, suc, sym, true, zero, ◌+◌, ◌<◌, ◌∙◌, ◌∷◌, ◌≡◌, ◌≤◌, ◌^◌, ℕ}
use Rattle.std.specs.Prelude.{IsTrue, None, Option, Some, slice_index_or}
use Rattle.std.proofs.lemmas.List.{length-map}
use mathlib.Core.Option.{some}
use lib.ListN.{get_elem?}
use Rattle.lock_word.specs.Words.{epoch_of, stage_of, version_of, word_number}
use Rattle.store_key.specs.Anchor.{anchor_of}
use Rattle.store_key.specs.Key.{key_of}
use Rattle.rock_disk.specs.Cell.{CellState}
use Rattle.rebuild_model.specs.Entry.{IsComplete}
use Rattle.entry_cut.specs.Content.{Cut}
use Rattle.entry_cut.specs.Standing.{IsWritable, Stand, entry_of}
use Rattle.core_model.specs.declared.moves.Side.TheVariants.{Offer}
use Rattle.core_model.specs.declared.tab.Cell.{Cell}
use Rattle.core_model.specs.declared.view.Place.TheVariants.{Anchor}
use Rattle.core_model.specs.declared.view.View.{View}
use Rattle.core_model.specs.State.{State, side_word, word}
use Rattle.core_model.specs.Tabs.{IsPass}
use Rattle.plain_model.specs.declared.entry.Entry.{Entry}
use Rattle.plain_model.specs.declared.entry.Life.TheVariants.{Whole}
use Rattle.plain_model.specs.declared.store.Plain.{Plain}
use Rattle.plain_model.specs.Store.{entry_at, place_at, word_at}
use Rattle.plain_laws.specs.Renaming.{renamed_word}
use Rattle.store_rule.specs.declared.store.Pass.{Pass}
use Rattle.store_rule.specs.declared.store.Store.{Store}
use Rattle.store_rule.specs.Closing.{Closed}
use Rattle.store_rule.specs.Ground.{Ground, Offers, Rule}
use Rattle.store_rule.specs.Told.{Stands}
use Rattle.store_rule.specs.Passes.{basis, view}
use Rattle.store_rule.proofs.Passing.{pass_of}
use Rattle.store_rule.specs.Setting.{shown}
use Rattle.rock_reader.specs.Responses.{IsResponse}
use Rattle.plain_runs.specs.Words.{IsLone, KnowsLot, Lot, ShowsEntry, no_guests, setting_of, whole_lot}
use Rattle.plain_runs.proofs.OwnAnchors.{OwnsAnchor, OwnsLot, lot_lone}
use Rattle.plain_runs.specs.Ends.{HasVersions, HoldsEntry, HoldsWholeAt, IsHomeAs, SpellsResponse, TellsPieces}
use Rattle.plain_runs.specs.Runs.{ShowsPlain}
use Rattle.plain_runs.specs.Shows.{ShowsLot}
use Rattle.plain_runs.proofs.Spelled.{spells}
use Rattle.plain_runs.proofs.Standing.{entry_shown, offer_stands, stage_is, version_stands}

-- the law that the pieces of an entry are one where they stand in a file
abbrev pub PlacedPieces : Type 0
PlacedPieces = (cut : Cut) (images : List (List ℕ)) (chain : List ℕ) → IsWritable cut → length images ≤ 1048576 → Stand cut images chain → IsComplete cut.slot images (entry_of cut chain)

-- cells that tell what they hold, each in its place
module _ {C : Type 0} (tells : Bool) (state : C → CellState) (told : IsTrue tells) where
  record HasCellAt (xs : List C) (k : ℕ) : Type 0 where
    pub cell : C
    pub place : slice_index_or (map (λ c. Some (shown tells state c)) xs) k None ≡ Some (shown tells state cell)
    pub image : slice_index_or (map (λ c. (state c).now) xs) k [] ≡ (state cell).now

  cell_at : (xs : List C) (k : ℕ) → k < length xs → HasCellAt xs k
  cell_at [] k lt = absurd (omega arith)
  cell_at (c ∷ xs) zero lt = record { cell = c; place = refl; image = refl }
  cell_at (c ∷ xs) (suc k) lt = let h = cell_at xs k (omega arith) in record { cell = h.cell; place = h.place; image = h.image }

  pub home_as : (g : Ground (List ℕ)) (s : State (List ℕ)) (cells : List C) → length cells ≡ g.setting.slots → s.places ≡ map (λ c. Some (shown tells state c)) cells
      → IsHomeAs g s (map (λ c. (state c).now) cells)
  home_as g s cells many home = record {
    many = length-map cells (λ (c : C). (state c).now) ∙ many;
    cells = λ slot lt. let h = cell_at cells slot (let n = many in omega arith) in (
      shown tells state h.cell,
      ap (λ (xs : List (Option (Cell (List ℕ)))). slice_index_or xs slot None) home ∙ h.place,
      h.image ∙ sym (ap (λ (b : Bool). (shown b state h.cell).now) told),
    );
  }

module _ (g : Ground (List ℕ)) (rename : ℕ → ℕ) (lot : Lot) (s : State (List ℕ)) (i : ℕ) (v : View (List ℕ)) (owns : OwnsLot g lot v.pass) (rule : Rule g s) (at : get_elem? s.views i ≡ some v) (pass : IsPass v)
    (pieces : TellsPieces g) (versions : HasVersions g) (images : List (List ℕ)) (home : IsHomeAs g s images) (many : length g.setting.contents ≡ g.setting.slots)
    (sized : g.slot < 2 ^ 32) (few : g.setting.slots ≤ 1048576) (placed : PlacedPieces) (p : Plain) (knows : KnowsLot g rename lot v p no_guests) (eight : length p.tabs ≡ 8) where
  abbrev at_state : Stands g v
  at_state = record { state = s; index = i; rule = rule; at = at }

  module _ (a : ℕ) (e : Entry) (lt : a < g.setting.anchors) (ours : lot.anchors a ≡ true) (there : entry_at p a ≡ Some e) (whole : e.life ≡ Whole) where
    own : OwnsAnchor g v.pass a
    own = owns a lt ours

    closed : stage_of (epoch_of (word s a)) ≡ 3
    closed = stage_is g rename lot v at_state pass p knows eight a own e lt ours there whole

    version_is : version_of (epoch_of (word s a)) ≡ rename (place_at p a).version
    version_is = version_stands g rename lot v at_state pass p knows eight a own e lt ours there whole

    entry_there : ShowsEntry g v a (place_at p a).version e
    entry_there = entry_shown g rename lot v at_state pass p knows eight a own e lt ours there whole

    offer_is : side_word g.setting s Offer a ≡ e.offer
    offer_is = offer_stands g rename lot v at_state pass p knows eight a own e lt ours there whole

    spelled : SpellsResponse g s images a e.url e.body
    spelled = spells g s rule pieces versions images home a lt closed many sized few placed e.url e.body
        (subst (λ (n : ℕ). IsResponse g a n e.url e.body) (sym offer_is) entry_there.offer.response)

    held : HoldsEntry g.slot g.setting.anchors images a (rename (place_at p a).version) e
    held = record {
      entry = spelled.entry;
      complete = spelled.complete;
      at = ap (λ (key : List ℕ). anchor_of key g.setting.anchors) spelled.complete.key_of_url ∙ ap (λ (url : List ℕ). anchor_of (key_of url) g.setting.anchors) spelled.url_is ∙ entry_there.offer.at;
      version_is = spelled.version ∙ version_is;
      url_is = spelled.url_is;
      body_is = spelled.body_is;
    }

  -- Each whole entry of the lot stands in these images.
  pub holds_lot : HoldsWholeAt g.slot g.setting.anchors images lot.anchors rename p
  holds_lot a e lt ours there whole = held a e lt ours there whole

-- When a store was closed, each anchor of the lot had the word of the plain store of which a pass showed the lot.
module _ {C O : Type 0} (tells : Bool) (state : C → CellState) (offers : O → Offers) (s : Store C O) (rename : ℕ → ℕ) (lot : Lot) (w : ℕ) (p : Pass C) (plain : Plain) (views : List (View (List ℕ))) (left : List C)
    (closed : Closed tells state (basis tells state offers s) views left) (a : ℕ) (owns : OwnsLot (basis tells state offers s) lot (view p).pass) (there : get_elem? views w ≡ some (view p))
    (shows : ShowsLot tells state offers s rename p plain lot) (lt : a < (basis tells state offers s).setting.anchors) (ours : lot.anchors a ≡ true) where
  pub lot_word : word closed.gathered.state a ≡ word_number (renamed_word rename (word_at (setting_of (basis tells state offers s)) plain a))
  lot_word = let gathered = closed.gathered in
      (owns a lt ours).stands (view p) record { state = gathered.state; index = gathered.index w; rule = gathered.rule; at = gathered.at w (view p) there } (Anchor a) refl (pass_of p) refl lt
      ∙ (shows.knows.each a lt ours).word ∙ plus_none _
    where
      plus_none : (n : ℕ) → n + 0 ≡ n
      plus_none n = omega arith

-- When a store with one pass was closed, each anchor had the word of the plain store that the pass showed.
module _ {C O : Type 0} (tells : Bool) (state : C → CellState) (offers : O → Offers) (s : Store C O) (p : Pass C) (plain : Plain) (views : List (View (List ℕ))) (left : List C)
    (closed : Closed tells state (basis tells state offers s) views left) (a : ℕ) (lone : IsLone (basis tells state offers s)) (first : get_elem? views 0 ≡ some (view p))
    (shows : ShowsPlain tells state offers s p plain) (lt : a < (basis tells state offers s).setting.anchors) where
  pub closed_word : word closed.gathered.state a ≡ word_number (word_at (setting_of (basis tells state offers s)) plain a)
  closed_word = lot_word tells state offers s (λ v. v) whole_lot 0 p plain views left closed a (lot_lone (basis tells state offers s) lone whole_lot (view p).pass) first shows lt refl
