-- Bytes of a body are taken by calls, one behind the other.
use Rattle.std.specs.Prelude.{Bool, List, [], length, ◌+◌, ◌<◌, ◌∷◌, ◌≡◌, ◌≤◌, ℕ}
use Rattle.rock_disk.specs.Cell.{CellState}
use Rattle.store_rule.specs.declared.store.Pass.{Pass}
use Rattle.store_rule.specs.declared.store.Store.{Store}
use Rattle.store_rule.specs.Ground.{Offers}
use Rattle.store_rule.specs.Passes.{basis}
use Rattle.rock_writer.specs.declared.fault.WriteFault.{WriteFault}
use Rattle.rock_writer.specs.Appending.{Appended, NotAppended}
use Rattle.rock_writer.specs.Entries.{Entry, WritesAs, body_in, with_taken}

-- a call took so many of these bytes, and left this pass
pub record Call (C : Type 0) : Type 0 where
  pub bytes : List ℕ
  pub count : ℕ
  pub after : Pass C

-- the entry with so many more bytes of its body
abbrev pub taken_on : Entry → ℕ → Entry
taken_on e count = with_taken e (e.taken + count)

module _ {C O : Type 0} (tells : Bool) (state : C → CellState) (offers : O → Offers) (s : Store C O) (t : ℕ) where
  -- These calls, the newest first, took so many bytes of the body of the entry e, each from the pass that the one before it left.
  abbrev pub Took : Entry → Pass C → List (Call C) → Pass C → ℕ → Type 0
  Took e p [] q total = (q ≡ p) × (total ≡ 0)
  Took e p (c ∷ earlier) q total =
      (middle : Pass C) × (before : ℕ) × Took e p earlier middle before × Appended tells state offers s t (taken_on e before) c.bytes middle c.after c.count × (q ≡ c.after) × (total ≡ before + c.count)

  -- The tab writes the entry, of whose body it has taken what is before this place. The next place is in the body.
  pub record MayAdd (e : Entry) (body : List ℕ) (from upto : ℕ) (p : Pass C) : Type 0 where
    pub writes : WritesAs tells state offers s p t e
    pub body_is : body_in (basis tells state offers s) e ≡ body
    pub from_is : e.taken ≡ from
    pub order : from ≤ upto
    pub inside : upto ≤ length body

  module _ (e : Entry) (p q : Pass C) where
    -- `total` bytes more were taken
    pub record Added (total : ℕ) : Type 0 where
      pub calls : List (Call C)
      pub took : Took e p calls q total
      pub writes : WritesAs tells state offers s q t (taken_on e total)

    -- some were, and then the entry was given up for this cause
    pub record NotAdded (fault : WriteFault) : Type 0 where
      pub calls : List (Call C)
      pub middle : Pass C
      pub total : ℕ
      pub took : Took e p calls middle total
      pub bytes : List ℕ
      pub stopped : NotAppended tells state offers s t (taken_on e total) bytes middle q fault

    -- it was given up so, and fewer than `most` bytes had been taken before
    pub record StoppedBelow (most : ℕ) (fault : WriteFault) : Type 0 where
      pub not_added : NotAdded fault
      pub fewer : not_added.total < most
