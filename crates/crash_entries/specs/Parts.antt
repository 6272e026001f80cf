-- Pieces of offers that were logged, and files of which each sane slot has what it had at the opening, or a piece that was logged for it.
use Rattle.std.specs.Prelude.{◌≡◌, ◌≢◌, ◌⊎◌, ◌↔◌, ◌+◌, ◌<◌, ◌≤◌, ℕ, ℤ, pos, negsuc, List, length}
use Rattle.link_word.specs.declared.link.Link.{Link}
use Rattle.link_word.specs.declared.link.Link.TheVariants.{Last, Next, NotWritten}
use Rattle.slot_cell.specs.declared.header.TheConstants.{GREATEST_VERSION}
use Rattle.store_key.specs.Anchor.{anchor_of}
use Rattle.store_key.specs.Key.{key_of}
use Rattle.store_key.specs.Url.{IsUrl}
use Rattle.rebuild_model.specs.Image.{IsSaneAt, header_at, image_at}
use Rattle.rebuild_model.specs.Entry.{Entry}
use Rattle.entry_cut.specs.Content.{Cut, LeavesRoom, count, image}
use Rattle.entry_cut.specs.Standing.{entry_of}

-- the responses that were offered, by the numbers of their offers
pub record Offers : Type 0 where
  pub url : ℕ → List ℕ
  pub body : ℕ → List ℕ

-- a piece that was logged: for which slot, of which anchor, offer and version, at which place of its entry, with the entry's first slot, and
-- the link to the slot of the next piece
pub record Part : Type 0 where
  pub slot : ℕ
  pub anchor : ℕ
  pub offer : ℕ
  pub version : ℕ
  pub place : ℕ
  pub first : ℕ
  pub next : Link

-- the entry that it is a piece of, with slots of this size
abbrev pub cut_of : (slot : ℕ) → Offers → Part → Cut
cut_of slot o p = record { slot = slot; url = o.url p.offer; body = o.body p.offer; version = p.version; first = p.first }

-- what a header says of the next slot: its number, or -1
abbrev pub next_number : Link → ℤ
next_number (Next slot) = pos slot
next_number _ = negsuc 0

-- the image of a slot that has this piece
abbrev pub bytes_of : (slot : ℕ) → Offers → Part → List ℕ
bytes_of slot o p = image (cut_of slot o p) p.place (next_number p.next)

-- It is a piece of its offer, which has a good URL that leaves room in a slot and has this anchor, and it is the last exactly where it is
-- the last one of the offer's content. All its numbers fit a header.
pub record KeepsTo (slot anchors slots : ℕ) (o : Offers) (p : Part) : Type 0 where
  pub url : IsUrl (o.url p.offer)
  pub short : LeavesRoom slot (o.url p.offer)
  pub anchor_is : anchor_of (key_of (o.url p.offer)) anchors ≡ p.anchor
  pub last : (p.next ≡ Last) ↔ (p.place + 1 ≡ count (cut_of slot o p))
  pub linked : p.next ≢ NotWritten
  pub version_from : 0 < p.version
  pub version_to : p.version ≤ GREATEST_VERSION
  pub place_low : p.place < slots
  pub first_low : p.first < slots
  pub next_low : (t : ℕ) → p.next ≡ Next t → t < slots

-- Pieces of one version are of one offer and have one first slot. That of the first slot is at place 0, and the one in the slot that a
-- link names is at the next place. Each version is above those of the sane slots at the opening.
pub record PartsStand (slot anchors : ℕ) (o : Offers) (file : List (List ℕ)) (P : Part → Type 0) : Type 0 where
  pub keeps : (p : Part) → P p → KeepsTo slot anchors (length file) o p
  pub offer : (p q : Part) → P p → P q → p.version ≡ q.version → p.offer ≡ q.offer
  pub first : (p q : Part) → P p → P q → p.version ≡ q.version → p.first ≡ q.first
  pub begins : (p : Part) → P p → p.first ≡ p.slot → p.place ≡ 0
  pub behind : (p q : Part) → P p → P q → p.version ≡ q.version → p.next ≡ Next q.slot → q.place ≡ p.place + 1
  pub new : (p : Part) → P p → (s : ℕ) → IsSaneAt slot file s → (header_at file s).version < p.version

-- a slot has a piece that was logged for it
pub record HasPart (slot : ℕ) (o : Offers) (P : Part → Type 0) (image : List ℕ) (s : ℕ) : Type 0 where
  pub part : Part
  pub logged : P part
  pub slot_is : part.slot ≡ s
  pub bytes : image ≡ bytes_of slot o part

-- Each slot of a file has what it had at the opening, or a piece that was logged for it, or it is not sane, as one of zeros.
pub record IsMixed (slot : ℕ) (o : Offers) (file : List (List ℕ)) (P : Part → Type 0) (images : List (List ℕ)) : Type 0 where
  pub count : length images ≡ length file
  pub each : (s : ℕ) → s < length images → (image_at images s ≡ image_at file s) ⊎ (HasPart slot o P (image_at images s) s ⊎ ¬ IsSaneAt slot images s)

-- an entry is the whole response of the offer of a piece that was logged, with that version
pub record IsOfPart (slot : ℕ) (o : Offers) (P : Part → Type 0) (e : Entry) : Type 0 where
  pub part : Part
  pub logged : P part
  pub version : part.version ≡ e.version
  pub entry : e ≡ entry_of (cut_of slot o part) e.chain
