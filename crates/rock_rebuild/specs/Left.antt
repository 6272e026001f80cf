-- The headers that no chain took yet.
use Rattle.std.specs.Prelude.{◌≡◌, ℕ, ◌<◌, ◌≤◌, pos, List, length, slice_index_or, Option, Some, None, sum_by}
use Rattle.slot_cell.specs.declared.header.Header.{Header}
use Rattle.rebuild_model.specs.Image.{image_at, header_at, BelongsTo}
use Rattle.rebuild_model.specs.Entry.{IsChain}
use Rattle.rebuild_model.specs.Plain.{IsWhole, size_at}
use Rattle.rock_rebuild.specs.Kept.{IsHeaderOf}

-- a slot with this header is of the entry that begins at slot `first` with header `head`
pub record IsOf (first : ℕ) (head header : Header) : Type 0 where
  pub k0 : header.k0 ≡ head.k0
  pub k1 : header.k1 ≡ head.k1
  pub version : header.version ≡ head.version
  pub starts : header.first_slot ≡ pos first

-- each header that is left is its slot's, and those of entries that begin at slot `first` or behind it are all left
pub record AreLeft (slot : ℕ) (images : List (List ℕ)) (first : ℕ) (headers : List (Option Header)) : Type 0 where
  pub told : (s : ℕ) (h : Header) → slice_index_or headers s None ≡ Some h → (s < length images) × IsHeaderOf (length images) slot (image_at images s) h
  pub all : (f s : ℕ) → first ≤ f → BelongsTo slot images f s → slice_index_or headers s None ≡ Some (header_at images s)

-- no chain of full slots begins at this slot
abbrev pub HasNoChain : ℕ → List (List ℕ) → ℕ → Type 0
HasNoChain slot images first = (chain : List ℕ) → IsChain slot images first chain → IsWhole slot images chain → ⊥

-- this one does, and its slots have so many bytes
pub record IsChainAt (slot : ℕ) (images : List (List ℕ)) (first : ℕ) (chain : List ℕ) (size : ℕ) : Type 0 where
  pub is : IsChain slot images first chain
  pub whole : IsWhole slot images chain
  pub sum : size ≡ sum_by (size_at images) chain
