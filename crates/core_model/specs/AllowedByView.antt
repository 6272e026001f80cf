-- Where a step is allowed, as far as the view of the pass tells it. A step that is allowed so is allowed in each sound state
-- that has the view.
use Rattle.std.specs.Prelude.{◌<◌, ◌∷◌, ◌≡◌, ◌≢◌, ◌≤◌, ◌⊎◌, Some, [], false, true, ℕ}
use Rattle.link_word.specs.declared.link.Link.{Link}
use Rattle.link_word.specs.declared.link.Link.TheVariants.{NotWritten}
use Rattle.core_model.specs.declared.moves.Move.{Move}
use Rattle.core_model.specs.declared.moves.Move.TheVariants.{GetLink, Learn, Publish, Raise, TryTurn}
use Rattle.core_model.specs.declared.tab.Piece.{Piece}
use Rattle.core_model.specs.declared.tab.Reader.{Reader}
use Rattle.core_model.specs.declared.tab.Writer.{Writer}
use Rattle.core_model.specs.declared.view.View.{View}
use Rattle.core_model.specs.Layout.{Setting}
use Rattle.core_model.specs.Chains.{rest_of, start_number}
use Rattle.core_model.specs.State.{State}
use Rattle.core_model.specs.Tabs.{IsPass, OfFreer, OfReader, OfWriter, holds_turn, inner, tab_at}
use Rattle.core_model.specs.AnchorMoves.{MayEnd, MayRaise}
use Rattle.core_model.specs.SlotMoves.{IsFront}
use Rattle.core_model.specs.CellMoves.{MayWipe, MayWrite}
use Rattle.core_model.specs.Table.{Allowed}

-- at TAKEN the tab stored the start that its chain has
abbrev pub StoredStart : {X : Type 0} → Writer X → Type 0
StoredStart w = w.is_appending ≡ false → w.start ≡ Some (start_number w.published)

-- the slot is the tab's first reserved one, with the link of the piece that it chose, the tab wrote that
-- piece, and synced it where it is durable
pub record WroteFirst {X : Type 0} (slot : ℕ) (link : Link) (w : Writer X) : Type 0 where
  pub first : w.reserved ≡ slot ∷ rest_of w.reserved
  pub goes_on : w.is_ending ≡ false
  pub piece : Piece
  pub chosen : w.chosen ≡ Some piece
  pub link_is : piece.next ≡ link
  pub written : w.is_written ≡ true
  pub settled : w.is_durable ≡ true → w.is_settled ≡ true

-- the tab knows that this slot is at its place
abbrev pub KnowsSlot : {X : Type 0} → ℕ → Reader X → Type 0
KnowsSlot slot r = r.slot ≡ Some slot

-- and found its link written
abbrev pub KnowsLink : {X : Type 0} → ℕ → Reader X → Type 0
KnowsLink slot r = KnowsSlot slot r × (r.found ≢ NotWritten)

-- a state with nothing in it: for most moves what is allowed reads no state
abbrev pub no_state : {X : Type 0} → State X
no_state = record { words = []; places = []; views = []; chains = [] }

-- Learning a note asks for the note, of which no view of a pass tells: a store has it in hand as a seat of its own.
abbrev pub AllowedByView : {X : Type 0} → Setting X → View X → Move → Type 0
AllowedByView k v (Raise t to) = (t ≤ inner) × (OfWriter (λ w. MayRaise w to × StoredStart w) (tab_at v t) ⊎ OfFreer (λ f. MayEnd f to) (tab_at v t))
AllowedByView k v (Publish t slot link) = (t < inner) × OfWriter (WroteFirst slot link) (tab_at v t)
AllowedByView k v (GetLink t slot) = (t ≤ inner) × (OfReader (KnowsSlot slot) (tab_at v t) ⊎ OfFreer (IsFront slot) (tab_at v t))
AllowedByView k v (TryTurn t slot) = (t ≤ inner) × (holds_turn (tab_at v t) ≡ false)
    × (OfReader (KnowsLink slot) (tab_at v t) ⊎ OfWriter (MayWrite slot) (tab_at v t) ⊎ OfFreer (MayWipe slot) (tab_at v t))
AllowedByView k v (Learn note) = ⊥
AllowedByView k v m = Allowed k no_state v m

-- the pass may make this step, by what it knows
pub record MayMake {X : Type 0} (k : Setting X) (v : View X) (m : Move) : Type 0 where
  pub pass : IsPass v
  pub allowed : AllowedByView k v m
