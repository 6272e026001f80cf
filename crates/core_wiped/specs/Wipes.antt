-- What it means that the first slot of an entry was wiped, and what a crash may leave of the slot from then on.
use Rattle.std.specs.Prelude.{◌+◌, ◌<◌, ◌≡◌, ◌≢◌, ◌≤◌, ◌⊎◌, ◌∷◌, ℕ, Contains, List, Some}
use mathlib.Core.Option.{some}
use lib.ListN.{get_elem?}
use Rattle.lock_word.specs.Words.{doom_of, epoch_of, stage_of, version_of}
use Rattle.core_model.specs.declared.moves.Side.TheVariants.{Start}
use Rattle.core_model.specs.declared.tab.Cell.{Cell}
use Rattle.core_model.specs.declared.tab.Freer.{Freer}
use Rattle.core_model.specs.declared.tab.Piece.{Piece}
use Rattle.core_model.specs.declared.tab.Tab.TheVariants.{Freeing, Writing}
use Rattle.core_model.specs.declared.tab.Writer.{Writer}
use Rattle.core_model.specs.declared.view.Deed.{Deed}
use Rattle.core_model.specs.declared.view.LoggedPiece.{LoggedPiece}
use Rattle.core_model.specs.declared.view.Sight.TheVariants.{Stood, Wiped}
use Rattle.core_model.specs.declared.view.View.{View}
use Rattle.core_model.specs.Layout.{Setting}
use Rattle.core_model.specs.State.{State, side_word, word}
use Rattle.core_model.specs.Cells.{IsCell}
use Rattle.core_model.specs.Chains.{rest_of}
use Rattle.core_model.specs.Tabs.{tab_at}
use Rattle.core_model.specs.Deeds.{Changes}
use Rattle.core_model.specs.Holders.{IsTab}
use Rattle.core_log.specs.Logged.{HasLogged, IsLogOf}
use Rattle.core_log.specs.Seen.{IsSeen}

-- some pass or note has seen that the slot of the entry of this version was wiped
abbrev pub IsSeenWiped : {X : Type 0} → State X → (a version slot : ℕ) → Type 0
IsSeenWiped s a version slot = IsSeen s.views (Wiped a version slot)

-- the entry of this version was seen doomed, at FREEING
pub record WasFreed {X : Type 0} (views : List (View X)) (a version : ℕ) : Type 0 where
  pub epoch : ℕ
  pub seen : IsSeen views (Stood a epoch)
  pub version_is : version_of epoch ≡ version
  pub stage_is : stage_of epoch ≡ 5
  pub doom_is : doom_of epoch ≡ 1

-- a content is the blank one, or that of a piece of another version which was logged for the slot
abbrev pub IsOfOther : {X : Type 0} → Setting X → List LoggedPiece → (version slot : ℕ) → X → Type 0
IsOfOther k log version slot x = (x ≡ k.blank) ⊎ ((p : Piece) × HasLogged log slot p × (p.version ≢ version) × (x ≡ k.image p))

-- What it says that the slot was wiped: the entry was freed as a doomed one, each piece of its version names this slot as the
-- first, and a crash leaves there nothing that the opening had, and no piece of that version.
pub record IsWiped {X : Type 0} (k : Setting X) (s : State X) (log : List LoggedPiece) (a version slot : ℕ) : Type 0 where
  pub freed : WasFreed s.views a version
  pub inside : slot < k.slots
  pub first : (l : LoggedPiece) → Contains log l → l.piece.version ≡ version → l.piece.first ≡ slot
  pub left : (c : Cell X) (x : X) → IsCell s slot c → Contains c.possible x → IsOfOther k log version slot x

-- Where the version of a logged piece stands and is written no more, the Start word names the first slot of that piece, or none.
abbrev pub StartsNamed : {X : Type 0} → Setting X → State X → List LoggedPiece → Type 0
StartsNamed k s log = (l : LoggedPiece) → Contains log l → version_of (epoch_of (word s l.anchor)) ≡ l.piece.version
    → 3 ≤ stage_of (epoch_of (word s l.anchor))
    → (side_word k s Start l.anchor ≡ 0) ⊎ (side_word k s Start l.anchor ≡ l.piece.first + 1)

-- each epoch that a deed left was seen
abbrev pub DeedsSeen : {X : Type 0} → State X → Type 0
DeedsSeen {X} s = (i : ℕ) (v : View X) → get_elem? s.views i ≡ some v → (d : Deed) → Contains v.deeds d → Changes d.anchor d
    → IsSeen s.views (Stood d.anchor d.epoch)

-- the piece that a tab chose is of the version that the tab writes, also where the tab gave a slot back
abbrev pub ChoicesOwn : {X : Type 0} → State X → Type 0
ChoicesOwn {X} s = (i t : ℕ) (w : Writer X) (p : Piece) → IsTab s i t (Writing w) → w.chosen ≡ Some p → p.version ≡ w.version

-- beside a doomed entry that is not gone the Start word names a slot
abbrev pub DoomedStart : {X : Type 0} → Setting X → State X → Type 0
DoomedStart k s = (a : ℕ) → a < k.anchors → doom_of (epoch_of (word s a)) ≡ 1 → stage_of (epoch_of (word s a)) ≤ 5 → 0 < side_word k s Start a

-- all that holds between two steps of slots that were wiped, and of what it is told by when one is wiped
pub record WipesStand {X : Type 0} (k : Setting X) (s : State X) (log : List LoggedPiece) : Type 0 where
  pub each : (a version slot : ℕ) → IsSeenWiped s a version slot → IsWiped k s log a version slot
  pub starts : StartsNamed k s log
  pub deeds : DeedsSeen s
  pub choices : ChoicesOwn s
  pub filled : DoomedStart k s

-- what a rule over a running store keeps of it, beside the log of the state: it holds of each list that is the log
abbrev pub HasWipes : {X : Type 0} → Setting X → State X → Type 0
HasWipes k s = (log : List LoggedPiece) → IsLogOf s.views log → WipesStand k s log

-- The tab t of a pass, whose view is v, ended its turn with the slot wiped, which left the state s: its pass has seen so of the
-- version that the tab frees and of the first slot of its chain, and a crash leaves the slot blank and nothing else.
pub record LeavesWiped {X : Type 0} (k : Setting X) (s : State X) (v : View X) (t slot : ℕ) : Type 0 where
  pub freer : Freer X
  pub tab : tab_at v t ≡ Freeing freer
  pub seen : IsSeenWiped s freer.anchor freer.version slot
  pub first : freer.rest ≡ slot ∷ rest_of freer.rest
  pub blank : (c : Cell X) (x : X) → IsCell s slot c → Contains c.possible x → x ≡ k.blank

-- What follows where a slot was wiped.

-- the version stands at the anchor and is given back, or is gone, or a later one stands there
abbrev pub IsPast : {X : Type 0} → State X → (a version : ℕ) → Type 0
IsPast s a version = (version < version_of (epoch_of (word s a)))
    ⊎ ((version_of (epoch_of (word s a)) ≡ version) × (5 ≤ stage_of (epoch_of (word s a))))

-- No tab writes the version any more, and no pass holds it. So no piece of it is logged.
pub record IsOver {X : Type 0} (k : Setting X) (s : State X) (a version : ℕ) : Type 0 where
  pub anchor : a < k.anchors
  pub past : IsPast s a version
  pub unwritten : (i t : ℕ) (w : Writer X) → IsTab s i t (Writing w) → w.version ≢ version
  pub unheld : (i : ℕ) (v : View X) → get_elem? s.views i ≡ some v → Contains v.held version → ⊥

-- a piece that was logged for a slot is of another version, or its entry begins at another slot, the one that was wiped
abbrev pub BeginsElsewhere : (version wiped slot : ℕ) → Piece → Type 0
BeginsElsewhere version wiped slot p = (p.version ≢ version) ⊎ ((p.first ≡ wiped) × (slot ≢ wiped))

-- a content is the opening's of this slot, or the blank one, or that of such a piece which was logged for the slot
abbrev pub IsLeftOf : {X : Type 0} → Setting X → List LoggedPiece → (version wiped slot : ℕ) → X → Type 0
IsLeftOf k log version wiped slot x =
    (get_elem? k.contents slot ≡ some x) ⊎ ((p : Piece) × HasLogged log slot p × BeginsElsewhere version wiped slot p × (x ≡ k.image p))
    ⊎ (x ≡ k.blank)
