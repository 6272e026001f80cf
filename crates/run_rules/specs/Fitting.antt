-- Whether a script fits into a file.
use Rattle.std.specs.Prelude.{List, length, max, min, sum_by, ◌<◌, ◌≡◌, ◌≤◌, ◌⊎◌, ℕ}
use Rattle.std.specs.List.{range_with_len}
use Rattle.rebuild_model.specs.Entry.{Entry}
use Rattle.rebuild_model.specs.Keeping.{HasNoneAt}
use Rattle.rebuild_model.specs.Rebuilt.{IsWinner}
use Rattle.script_text.specs.declared.line.Line.{Line}
use Rattle.rock_run.specs.Offered.{most_taken}

module _ (slot anchors : ℕ) (images : List (List ℕ)) where
  -- an entry with so many slots, which a rebuild of the file keeps at the anchor
  pub record KeepsSlots (a count : ℕ) : Type 0 where
    -- an entry
    pub entry : Entry
    -- that a rebuild keeps at the anchor
    pub winner : IsWinner slot images anchors a entry
    -- with so many slots
    pub count_is : count ≡ length entry.chain

  -- a rebuild keeps nothing there, and so no slot
  pub record KeepsNone (a count : ℕ) : Type 0 where
    -- a rebuild keeps nothing at the anchor
    pub none : HasNoneAt slot images anchors a
    -- so no slot is kept there
    pub count_is : count ≡ 0

  -- The most that an anchor ever holds at which a rebuild keeps so many slots: these, or what the response of the script takes there that
  -- takes most, if that is more. No entry takes more slots than there are.
  abbrev pub most_held : List Line → (kept : ℕ → ℕ) → ℕ → ℕ
  most_held script kept a = max (min (most_taken anchors slot a script) (length images)) (kept a)

  -- The script fits into the file.
  pub record FitsInto (script : List Line) : Type 0 where
    -- So many slots are kept at each anchor.
    pub kept : ℕ → ℕ
    -- They are those of the entry that a rebuild keeps there, or none.
    pub file : (a : ℕ) → a < anchors → KeepsSlots a (kept a) ⊎ KeepsNone a (kept a)
    -- The most that each anchor ever holds is together no more than the slots of the file.
    pub enough : sum_by (most_held script kept) (range_with_len 0 anchors) ≤ length images
