-- The command lines that the program knows, as lists of words without its own name.
use Rattle.std.specs.Prelude.{◌≡◌, ◌≢◌, ◌⊎◌, ℕ, ◌^◌, ◌<◌, IfSome, List, [], ◌∷◌, None, Option, Some, codes, decimal}

-- the name of a file: it is not empty and does not begin with `-`
abbrev pub IsName : List ℕ → Type 0
IsName [] = ⊥
IsName (first ∷ rest) = first ≢ 45

-- The word SLOT of `list`, `check` and `run`: the size of a slot, or `-` where none is given. A number is written with no sign and no
-- leading zero.
abbrev pub slot_word : (given : Option ℕ) → List ℕ
slot_word None = codes "-"
slot_word (Some slot) = decimal slot

-- a size that is given is a number of 32 bits
abbrev pub FitsWord : (given : Option ℕ) → Type 0
FitsWord given = IfSome given (λ slot. slot < 2 ^ 32)

-- `list NAME SLOT`
pub record IsList (words : List (List ℕ)) (name : List ℕ) (given : Option ℕ) : Type 0 where
  -- the words
  pub words_are : words ≡ codes "list" ∷ name ∷ slot_word given ∷ []
  -- NAME is the name of a file
  pub named : IsName name
  -- SLOT, where it is a number, has 32 bits
  pub fits : FitsWord given

-- `check NAME SLOT ANCHORS`
pub record IsCheck (words : List (List ℕ)) (name : List ℕ) (given : Option ℕ) (anchors : ℕ) : Type 0 where
  -- the words
  pub words_are : words ≡ codes "check" ∷ name ∷ slot_word given ∷ decimal anchors ∷ []
  -- NAME is the name of a file
  pub named : IsName name
  -- SLOT, where it is a number, has 32 bits
  pub fits : FitsWord given
  -- and so has ANCHORS
  pub anchors_fit : anchors < 2 ^ 32

-- `create NAME SLOT SLOTS`
pub record IsCreate (words : List (List ℕ)) (name : List ℕ) (slot slots : ℕ) : Type 0 where
  -- the words
  pub words_are : words ≡ codes "create" ∷ name ∷ decimal slot ∷ decimal slots ∷ []
  -- NAME is the name of a file
  pub named : IsName name
  -- SLOT has 32 bits
  pub fits : slot < 2 ^ 32
  -- and so has SLOTS
  pub slots_fit : slots < 2 ^ 32

-- `run NAME SLOT ANCHORS WORKERS`
pub record IsRun (words : List (List ℕ)) (name : List ℕ) (given : Option ℕ) (anchors workers : ℕ) : Type 0 where
  -- the words
  pub words_are : words ≡ codes "run" ∷ name ∷ slot_word given ∷ decimal anchors ∷ decimal workers ∷ []
  -- NAME is the name of a file
  pub named : IsName name
  -- SLOT, where it is a number, has 32 bits
  pub fits : FitsWord given
  -- so has ANCHORS
  pub anchors_fit : anchors < 2 ^ 32
  -- and so has WORKERS
  pub workers_fit : workers < 2 ^ 32

-- the words are a line `run`
abbrev pub IsRunLine : List (List ℕ) → Type 0
IsRunLine words = (name : List ℕ) × (given : Option ℕ) × (anchors workers : ℕ) × IsRun words name given anchors workers

-- `bench NAME SEED WORKERS COUNT`
pub record IsBench (words : List (List ℕ)) (name : List ℕ) (seed workers count : ℕ) : Type 0 where
  -- the words
  pub words_are : words ≡ codes "bench" ∷ name ∷ decimal seed ∷ decimal workers ∷ decimal count ∷ []
  -- NAME is the name of a file
  pub named : IsName name
  -- SEED has 64 bits
  pub fits : seed < 2 ^ 64
  -- WORKERS has 32 bits
  pub workers_fit : workers < 2 ^ 32
  -- and so has COUNT
  pub count_fit : count < 2 ^ 32

-- the words are a line `bench`
abbrev pub IsBenchLine : List (List ℕ) → Type 0
IsBenchLine words = (name : List ℕ) × (seed workers count : ℕ) × IsBench words name seed workers count

-- `migrate NAME SLOT`
pub record IsMigrate (words : List (List ℕ)) (name : List ℕ) (slot : ℕ) : Type 0 where
  -- the words
  pub words_are : words ≡ codes "migrate" ∷ name ∷ decimal slot ∷ []
  -- NAME is the name of a file
  pub named : IsName name
  -- SLOT has 32 bits
  pub fits : slot < 2 ^ 32

-- the words are a command line of the table
abbrev pub IsCommandLine : List (List ℕ) → Type 0
IsCommandLine words =
    ((name : List ℕ) × (given : Option ℕ) × IsList words name given)
    ⊎ (((name : List ℕ) × (given : Option ℕ) × (anchors : ℕ) × IsCheck words name given anchors)
    ⊎ (((name : List ℕ) × (slot slots : ℕ) × IsCreate words name slot slots)
    ⊎ (IsRunLine words ⊎ (IsBenchLine words ⊎ ((name : List ℕ) × (slot : ℕ) × IsMigrate words name slot)))))
