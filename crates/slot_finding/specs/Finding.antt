-- The slot size of a file: its header area records it, or it was given.
use Rattle.std.specs.Prelude.{◌≡◌, ◌≢◌, ◌⊎◌, ◌<◌, Err, IfSome, IsErrOf, List, None, Ok, Option, Result, Some, ℕ}
use Rattle.std.specs.FinMap.{get}
use Rattle.db_layout.specs.declared.geometry.Geometry.{Geometry}
use Rattle.db_layout.specs.Geometry.{IsMarked, Records}
use Rattle.db_layout.specs.Layout.{IsSlotSize, slots_of}
use Rattle.rock_disk.specs.File.{Files, IsKept}
use Rattle.rock_disk.specs.Opened.{IsPeeked, IsSmall}
use Rattle.slot_finding.specs.declared.finding.FindFault.{FindFault}
use Rattle.slot_finding.specs.declared.finding.FindFault.TheVariants.{BadGeometry, Failed, Memory, Missing, Small}

-- where a size is given, slots may have it
abbrev pub IsGiven : (given : Option ℕ) → Type 0
IsGiven given = IfSome given IsSlotSize

-- a file of so many bytes has slots of this size, and this many, at least one
pub record Fits (g : Geometry) (bytes : ℕ) : Type 0 where
  pub size : IsSlotSize g.slot
  pub some : 0 < g.slots
  pub count : g.slots ≡ slots_of bytes g.slot

-- what a header area records, or that it records nothing
abbrev pub HeaderSays : List ℕ → Option Geometry → Type 0
HeaderSays header None = IsMarked header → ⊥
HeaderSays header (Some g) = Records header g

-- the file of this name has so many bytes, and its header area records this
pub record FileRecords (files : Files) (name : List ℕ) (recorded : Option Geometry) (bytes : ℕ) : Type 0 where
  pub header : List ℕ
  pub there : IsPeeked files name bytes header
  pub says : HeaderSays header recorded

-- the slot size that is recorded, where it fits and no other was given; where nothing is recorded, the one that was given
abbrev pub GivesSlot : Option Geometry → (bytes : ℕ) → (given : Option ℕ) → (slot : ℕ) → Type 0
GivesSlot (Some g) bytes given slot = Fits g bytes × (slot ≡ g.slot) × ((n : ℕ) → given ≡ Some n → slot ≡ n)
GivesSlot None bytes given slot = given ≡ Some slot

-- the file and what was given have this slot size
pub record FindsSlot (files : Files) (name : List ℕ) (given : Option ℕ) (slot : ℕ) : Type 0 where
  pub recorded : Option Geometry
  pub bytes : ℕ
  pub file : FileRecords files name recorded bytes
  pub gives : GivesSlot recorded bytes given slot

-- the header area records slots that the file has not
pub record RecordsMisfit (files : Files) (name : List ℕ) : Type 0 where
  pub geometry : Geometry
  pub bytes : ℕ
  pub file : FileRecords files name (Some geometry) bytes
  pub unfit : ¬ Fits geometry bytes

-- it records those that the file has, and another size was given
pub record RecordsOther (files : Files) (name : List ℕ) (given : Option ℕ) : Type 0 where
  pub geometry : Geometry
  pub bytes : ℕ
  pub file : FileRecords files name (Some geometry) bytes
  pub fits : Fits geometry bytes
  pub number : ℕ
  pub given_is : given ≡ Some number
  pub differs : number ≢ geometry.slot

-- it records nothing, and nothing was given
pub record TellsNoSlot (files : Files) (name : List ℕ) (given : Option ℕ) : Type 0 where
  pub bytes : ℕ
  pub file : FileRecords files name None bytes
  pub none : given ≡ None

-- What is judged by what was recorded and given, in a file of so many bytes: the slot size, or the field that is wrong.
abbrev pub Judged : Option Geometry → (bytes : ℕ) → (given : Option ℕ) → Result ℕ ℕ → Type 0
Judged recorded bytes given (Ok slot) = GivesSlot recorded bytes given slot
Judged (Some g) bytes given (Err field) = ((field ≡ 6) × ¬ Fits g bytes) ⊎ ((field ≡ 5) × Fits g bytes × ((n : ℕ) × (given ≡ Some n) × (n ≢ g.slot)))
Judged None bytes given (Err field) = (field ≡ 7) × (given ≡ None)

-- what a refusal says of the file, and of what was given
abbrev pub FindingSays : Files → (name : List ℕ) → (given : Option ℕ) → FindFault → Type 0
FindingSays files name given Missing = get files name ≡ None
FindingSays files name given (Small bytes) = IsSmall files name 0 bytes
FindingSays files name given (BadGeometry field) = ((field ≡ 6) × RecordsMisfit files name) ⊎ (((field ≡ 5) × RecordsOther files name given) ⊎ ((field ≡ 7) × TellsNoSlot files name given))
FindingSays files name given fault = Unit {0}

-- this is the answer, unless the volume failed or memory was wanting
abbrev pub AnswersOrFails : (answer result : Result ℕ FindFault) → Type 0
AnswersOrFails answer result = (result ≡ answer) ⊎ (IsErrOf result Failed ⊎ IsErrOf result Memory)

-- the number of this field refuses a file whose slot size is not known, by what was given
abbrev pub IsUnknown : (given : Option ℕ) → (field : ℕ) → Type 0
IsUnknown given field = (field ≡ 6) ⊎ (((field ≡ 5) × ((n : ℕ) × (given ≡ Some n))) ⊎ ((field ≡ 7) × (given ≡ None)))

-- the file and what was given have a slot size, of which this holds
abbrev pub WithSlot : Files → (name : List ℕ) → (given : Option ℕ) → (ℕ → Type 0) → Type 0
WithSlot files name given P = (slot : ℕ) × FindsSlot files name given slot × P slot

-- the file is shorter than its header area, or too short for one slot of its size
abbrev pub IsTooSmall : Files → (name : List ℕ) → (given : Option ℕ) → (bytes : ℕ) → Type 0
IsTooSmall files name given bytes = IsSmall files name 0 bytes ⊎ WithSlot files name given (λ slot. IsSmall files name slot bytes)

-- what a refusal says of the file, by the number of its field: with field 2 this of the file's slot size, and with each other field of a file
-- whose slot size is not known why it is not
pub record FieldSays (Unfit : ℕ → Type 0) (files : Files) (name : List ℕ) (given : Option ℕ) (field : ℕ) : Type 0 where
  pub unfit : field ≡ 2 → WithSlot files name given Unfit
  pub wrong : field ≡ 6 → RecordsMisfit files name
  pub differs : field ≡ 5 → RecordsOther files name given
  pub unknown : field ≡ 7 → TellsNoSlot files name given

-- the file is as it was, or as opening cuts it by its slot size, and the other files are as they were
abbrev pub IsKeptFor : (name : List ℕ) → (given : Option ℕ) → Files → Files → Type 0
IsKeptFor name given before after = (after ≡ before) ⊎ WithSlot before name given (λ slot. IsKept slot name before after)
