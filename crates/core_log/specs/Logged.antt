-- Pieces that were logged, and what a crash may leave of a slot.
use Rattle.std.specs.Prelude.{◌<◌, ◌≤◌, ◌^◌, ◌≡◌, ◌⊎◌, ◌+◌, ◌++◌, ◌∷◌, [], ℕ, Bool, Contains, List, Option, Some, drop, false, length, true, unwrap_or}
use mathlib.Core.Option.{some}
use lib.ListN.{get_elem?}
use Rattle.link_word.specs.declared.link.Link.TheVariants.{Next}
use Rattle.core_model.specs.declared.moves.Move.{Move}
use Rattle.core_model.specs.declared.moves.Move.TheVariants.{LogPiece}
use Rattle.core_model.specs.declared.tab.Cell.{Cell}
use Rattle.core_model.specs.declared.tab.Hold.{Hold}
use Rattle.core_model.specs.declared.tab.Piece.{Piece}
use Rattle.core_model.specs.declared.tab.Tab.{Tab}
use Rattle.core_model.specs.declared.tab.Tab.TheVariants.{Writing}
use Rattle.core_model.specs.declared.tab.Turn.TheVariants.{Has}
use Rattle.core_model.specs.declared.tab.Writer.{Writer}
use Rattle.core_model.specs.declared.view.LoggedPiece.{LoggedPiece}
use Rattle.core_model.specs.declared.view.Place.TheVariants.{LogCounter}
use Rattle.core_model.specs.declared.view.Sight.TheVariants.{Logged}
use Rattle.core_model.specs.declared.view.View.{View}
use Rattle.core_model.specs.Layout.{Setting, word_in}
use Rattle.lock_word.specs.Words.{epoch_of, version_limit, version_of}
use Rattle.core_model.specs.declared.moves.Side.TheVariants.{Offer}
use Rattle.core_model.specs.State.{State, chain_of, side_word, word}
use Rattle.core_model.specs.Chains.{first_of, link_to, rest_of}
use Rattle.core_model.specs.Tabs.{tab_at}
use Rattle.core_model.specs.CellMoves.{piece_of}
use Rattle.core_model.specs.Steps.{after}
use Rattle.core_model.specs.Table.{MayStep}
use Rattle.core_model.specs.Cells.{IsCell, IsContent}
use Rattle.core_model.specs.Anchors.{opening_counter}
use Rattle.core_model.specs.Versions.{IsSighted}
use Rattle.core_model.specs.Holders.{IsTab}
use Rattle.core_log.specs.Seen.{IsSeen}

-- what a step logs
abbrev pub piece_logged : {X : Type 0} → ℕ → Bool → ℕ → Writer X → LoggedPiece
piece_logged slot is_durable n w = record {
  number = n;
  anchor = w.anchor;
  key0 = unwrap_or w.key0 0;
  key1 = unwrap_or w.key1 0;
  slot = slot;
  is_durable = is_durable;
  piece = piece_of w;
}

abbrev pub logged_with : {X : Type 0} → ℕ → Bool → ℕ → Tab X → List LoggedPiece
logged_with slot is_durable n (Writing w) = piece_logged slot is_durable n w ∷ []
logged_with slot is_durable n tab = []

abbrev pub logged_now : {X : Type 0} → Setting X → State X → View X → Move → List LoggedPiece
logged_now k s v (LogPiece t slot is_durable) = logged_with slot is_durable (word_in k s.words LogCounter) (tab_at v t)
logged_now k s v m = []

-- how many pieces were logged
abbrev pub log_counter : {X : Type 0} → Setting X → State X → ℕ
log_counter k s = word_in k s.words LogCounter

-- the log is what passes and notes have seen together
pub record IsLogOf {X : Type 0} (views : List (View X)) (log : List LoggedPiece) : Type 0 where
  pub seen : (l : LoggedPiece) → Contains log l → IsSeen views (Logged l)
  pub all : (l : LoggedPiece) → IsSeen views (Logged l) → Contains log l

-- the piece was logged for this slot
pub record HasLogged (log : List LoggedPiece) (slot : ℕ) (p : Piece) : Type 0 where
  pub link : LoggedPiece
  pub among : Contains log link
  pub slot_is : link.slot ≡ slot
  pub piece_is : link.piece ≡ p

-- a content is the opening's of this slot, or that of a piece that was logged for it, or the blank one that a freeing tab writes
abbrev pub IsKnown : {X : Type 0} → Setting X → List LoggedPiece → ℕ → X → Type 0
IsKnown k log slot x = (get_elem? k.contents slot ≡ some x) ⊎ ((p : Piece) × HasLogged log slot p × (x ≡ k.image p)) ⊎ (x ≡ k.blank)

-- The piece that a tab chose was logged for the slot that the tab knows, and a turn that it holds is of that slot.
pub record ChoseLogged (log : List LoggedPiece) (slot : ℕ) (p : Piece) (chosen : Option ℕ) : Type 0 where
  pub slot_is : chosen ≡ Some slot
  pub logged : HasLogged log slot p

pub record CellsLogged {X : Type 0} (k : Setting X) (s : State X) (log : List LoggedPiece) : Type 0 where
  pub possible : (slot : ℕ) (c : Cell X) (x : X) → IsCell s slot c → Contains c.possible x → IsKnown k log slot x
  pub chosen : (i t : ℕ) (w : Writer X) (p : Piece) → IsTab s i t (Writing w) → w.chosen ≡ Some p → (slot : ℕ) × ChoseLogged log slot p w.logged_in
  pub turn : (i t : ℕ) (w : Writer X) (h : Hold X) → IsTab s i t (Writing w) → w.turn ≡ Has h → w.logged_in ≡ Some h.slot

-- A piece of the version that a tab writes is published, in its place of the chain, or it is the one that the tab has chosen.
pub record IsPublished {X : Type 0} (w : Writer X) (l : LoggedPiece) : Type 0 where
  pub place : get_elem? w.published l.piece.place ≡ some l.slot
  pub next : l.piece.next ≡ link_to (drop (l.piece.place + 1) w.published) w.end

pub record IsChosen {X : Type 0} (w : Writer X) (l : LoggedPiece) : Type 0 where
  pub chosen : w.chosen ≡ Some l.piece
  pub slot_is : w.logged_in ≡ Some l.slot
  pub durable : w.is_durable ≡ l.is_durable
  pub place : l.piece.place ≡ length w.published
  pub first : w.is_ending ≡ false → w.reserved ≡ l.slot ∷ rest_of w.reserved

pub record IsOfWriter {X : Type 0} (w : Writer X) (l : LoggedPiece) : Type 0 where
  pub anchor : l.anchor ≡ w.anchor
  pub key0 : w.key0 ≡ Some l.key0
  pub key1 : w.key1 ≡ Some l.key1
  pub offer : w.offer ≡ Some l.piece.offer
  pub first : l.piece.first ≡ first_of (w.published ++ l.slot ∷ [])
  pub stands : IsPublished w l ⊎ IsChosen w l

-- what holds of two pieces of one version
pub record Agree (l m : LoggedPiece) : Type 0 where
  pub anchor : l.anchor ≡ m.anchor
  pub key0 : l.key0 ≡ m.key0
  pub key1 : l.key1 ≡ m.key1
  pub offer : l.piece.offer ≡ m.piece.offer
  pub first : l.piece.first ≡ m.piece.first
  pub place : l.piece.place ≡ m.piece.place → l ≡ m
  pub slot : l.slot ≡ m.slot → l ≡ m
  pub behind : l.piece.next ≡ Next m.slot → m.piece.place ≡ l.piece.place + 1
  pub before : m.piece.next ≡ Next l.slot → l.piece.place ≡ m.piece.place + 1
  pub follows : m.piece.place ≡ l.piece.place + 1 → l.piece.next ≡ Next m.slot
  pub followed : l.piece.place ≡ m.piece.place + 1 → m.piece.next ≡ Next l.slot

-- What holds of the log: versions are new and stood where they were logged, pieces of one version are of one offer in their order, and the
-- pieces of the version that a tab writes are its own.
pub record LinksStand {X : Type 0} (k : Setting X) (s : State X) (log : List LoggedPiece) : Type 0 where
  pub new : (l : LoggedPiece) → Contains log l → opening_counter k < l.piece.version
  pub stood : (l : LoggedPiece) → Contains log l → IsSighted s l.anchor l.piece.version
  pub begins : (l : LoggedPiece) → Contains log l → l.piece.first ≡ l.slot → l.piece.place ≡ 0
  pub agree : (l m : LoggedPiece) → Contains log l → Contains log m → l.piece.version ≡ m.piece.version → Agree l m
  pub writers : (i t : ℕ) (w : Writer X) → IsTab s i t (Writing w) → (l : LoggedPiece) → Contains log l → l.piece.version ≡ w.version → IsOfWriter w l

-- Pieces are numbered from 0 on, in the order in which they were logged, and each number below the counter is that of one. The
-- versions and places of pieces are bounded, and so the counter never comes near what a word can tell.
pub record NumbersStand {X : Type 0} (k : Setting X) (s : State X) (log : List LoggedPiece) : Type 0 where
  pub few : k.slots < 2 ^ 32
  pub inside : (l : LoggedPiece) → Contains log l → (l.piece.version ≤ version_limit) × (l.piece.place < k.slots)
  pub below : (l : LoggedPiece) → Contains log l → l.number < log_counter k s
  pub once : (l m : LoggedPiece) → Contains log l → Contains log m → l.number ≡ m.number → l ≡ m
  pub each : (n : ℕ) → n < log_counter k s → (l : LoggedPiece) × Contains log l × (l.number ≡ n)

-- what is published at a place of a chain stood at the opening, or was logged as durable
pub record IsDurable {X : Type 0} (s : State X) (log : List LoggedPiece) (a place : ℕ) : Type 0 where
  pub link : LoggedPiece
  pub among : Contains log link
  pub durable : link.is_durable ≡ true
  pub anchor_is : link.anchor ≡ a
  pub version_is : link.piece.version ≡ version_of (epoch_of (word s a))
  pub place_is : link.piece.place ≡ place

abbrev pub IsFast : {X : Type 0} → Setting X → State X → List LoggedPiece → ℕ → ℕ → Type 0
IsFast k s log a place = (side_word k s Offer a < k.slots) ⊎ IsDurable s log a place

-- a crash may leave of its cell only what is published there
abbrev pub SettledStand : {X : Type 0} → Setting X → State X → List LoggedPiece → Type 0
SettledStand {X} k s log = (a place slot : ℕ) (c : Cell X) (x : X) → a < k.anchors → get_elem? (chain_of s a).slots place ≡ some slot → IsCell s slot c → Contains c.possible x → IsFast k s log a place → IsContent k s a place slot x

-- all that holds between two steps of the log, the list of what passes and notes have seen as logged
pub record LogStands {X : Type 0} (k : Setting X) (s : State X) (log : List LoggedPiece) : Type 0 where
  pub of : IsLogOf s.views log
  pub cells : CellsLogged k s log
  pub links : LinksStand k s log
  pub numbers : NumbersStand k s log
  pub settled : SettledStand k s log

-- what holds of a state is that there is such a list
abbrev pub Logs : {X : Type 0} → Setting X → State X → Type 0
Logs k s = (log : List LoggedPiece) × LogStands k s log

-- one step of a pass
pub record PassMove : Type 0 where
  pub pass : ℕ
  pub move : Move

-- these steps lead from one state and log to another
abbrev pub IsLoggedRun : {X : Type 0} → Setting X → State X → List LoggedPiece → List PassMove → State X → List LoggedPiece → Type 0
IsLoggedRun k s log [] t more = (t ≡ s) × (more ≡ log)
IsLoggedRun {X} k s log (x ∷ xs) t more = (v : View X) × (get_elem? s.views x.pass ≡ some v) × MayStep k s v x.move × IsLoggedRun k (after k s x.pass v x.move) (logged_now k s v x.move ++ log) xs t more
