-- A file whose header area records its slots has one slot size, whether none is given or the one that is recorded.
use Rattle.std.proofs.Common.{◌≡◌, inl, inr, ℕ, List, refl, sym, ◌∙◌, subst, Some, None}
use Rattle.std.specs.Prelude.{Option}
use Rattle.db_layout.specs.Layout.{IsSlotSize}
use Rattle.db_layout.specs.declared.geometry.Geometry.{Geometry}
use Rattle.rock_disk.specs.File.{Files}
use Rattle.slot_finding.specs.Finding.{FieldSays, FileRecords, FindsSlot, GivesSlot, IsKeptFor, IsTooSmall, IsUnknown, RecordsOther, WithSlot}
use Rattle.slot_finding.proofs.Causes.{found_known, one_slot}

same_number : {n m : ℕ} → Some n ≡ Some m → n ≡ m
same_number e = cc

no_number : {n : ℕ} → ◌≡◌ {A = Option ℕ} None (Some n) → ⊥
no_number e = cc

-- the size that is recorded may be given too
gives_too : (recorded : Option Geometry) (bytes slot other : ℕ) → other ≡ slot → GivesSlot recorded bytes None other → GivesSlot recorded bytes (Some slot) other
gives_too (Some g) bytes slot other same gives = (gives.0, gives.1, λ n e. same ∙ same_number e)
gives_too None bytes slot other same gives = absurd (no_number gives)

-- and where something is recorded, none has to be given
gives_alone : (recorded : Option Geometry) (bytes slot other : ℕ) → (recorded ≡ None → ⊥) → GivesSlot recorded bytes (Some slot) other → GivesSlot recorded bytes None other
gives_alone (Some g) bytes slot other marked gives = (gives.0, gives.1, λ n e. absurd (no_number e))
gives_alone None bytes slot other marked gives = absurd (marked refl)

gives_sized : (recorded : Option Geometry) (bytes slot : ℕ) → GivesSlot recorded bytes None slot → IsSlotSize slot
gives_sized (Some g) bytes slot gives = subst IsSlotSize (sym gives.1) gives.0.size
gives_sized None bytes slot gives = absurd (no_number gives)

module _ {files : Files} {name : List ℕ} {slot : ℕ} (found : FindsSlot files name None slot) where
  pub recorded_size : IsSlotSize slot
  recorded_size = gives_sized found.recorded found.bytes slot found.gives

  pub given_too : (other : ℕ) → FindsSlot files name None other → FindsSlot files name (Some slot) other
  given_too other h = record {
    recorded = h.recorded;
    bytes = h.bytes;
    file = h.file;
    gives = gives_too h.recorded h.bytes slot other (one_slot files name None other slot h found) h.gives;
  }

  marked : (recorded : Option Geometry) (bytes : ℕ) → FileRecords files name recorded bytes → recorded ≡ None → ⊥
  marked recorded bytes file none = found_known files name None slot found (record { bytes = bytes; file = subst (λ r. FileRecords files name r bytes) none file; none = refl })

  pub given_alone : (other : ℕ) → FindsSlot files name (Some slot) other → FindsSlot files name None other
  given_alone other h = record {
    recorded = h.recorded;
    bytes = h.bytes;
    file = h.file;
    gives = gives_alone h.recorded h.bytes slot other (marked h.recorded h.bytes h.file) h.gives;
  }

  -- what holds of the slot size
  pub with_given : {P : ℕ → Type 0} → WithSlot files name None P → WithSlot files name (Some slot) P
  with_given w = (w.0, given_too w.0 w.1, w.2)

  pub without_given : {P : ℕ → Type 0} → WithSlot files name (Some slot) P → WithSlot files name None P
  without_given w = (w.0, given_alone w.0 w.1, w.2)

  -- no other size is recorded than the one that is given then
  pub none_differs : RecordsOther files name (Some slot) → ⊥
  none_differs other =
      let mine : FindsSlot files name None other.geometry.slot = record {
        recorded = Some other.geometry;
        bytes = other.bytes;
        file = other.file;
        gives = (other.fits, refl, λ n e. absurd (no_number e));
      } in
      other.differs (sym (same_number other.given_is) ∙ one_slot files name None slot other.geometry.slot found mine)

  -- what a refusal says
  pub field_given : {Unfit : ℕ → Type 0} (field : ℕ) → FieldSays Unfit files name None field → FieldSays Unfit files name (Some slot) field
  field_given field says = record {
    unfit = λ two. with_given (says.unfit two);
    wrong = says.wrong;
    differs = λ five. absurd (no_number (says.differs five).given_is);
    unknown = λ seven. absurd (found_known files name None slot found (says.unknown seven));
  }

  pub unknown_given : {Unfit : ℕ → Type 0} (field : ℕ) → FieldSays Unfit files name None field → IsUnknown None field → IsUnknown (Some slot) field
  unknown_given field says (inl six) = inl six
  unknown_given field says (inr (inl five)) = absurd (no_number five.1.1)
  unknown_given field says (inr (inr seven)) = absurd (found_known files name None slot found (says.unknown seven.0))

  pub small_given : (bytes : ℕ) → IsTooSmall files name None bytes → IsTooSmall files name (Some slot) bytes
  small_given bytes (inl short) = inl short
  small_given bytes (inr w) = inr (with_given w)

  -- and what is left of the files
  pub kept_given : (after : Files) → IsKeptFor name None files after → IsKeptFor name (Some slot) files after
  kept_given after (inl same) = inl same
  kept_given after (inr w) = inr (with_given w)
