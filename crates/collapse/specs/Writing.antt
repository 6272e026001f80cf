-- Bytes of a body are taken by calls, one behind the other.
use Rattle.std.specs.Prelude.{Bool, List, [], drop, length, ◌++◌, ◌+◌, ◌∷◌, ◌≡◌, ℕ}
use Rattle.rock_disk.specs.Cell.{CellState}
use Rattle.store_rule.specs.declared.store.Pass.{Pass}
use Rattle.store_rule.specs.declared.store.Store.{Store}
use Rattle.store_rule.specs.Ground.{Offers}
use Rattle.store_rule.specs.Passes.{basis}
use Rattle.rock_writer.specs.declared.fault.WriteFault.{WriteFault}
use Rattle.rock_writer.specs.Appending.{Appended, NotAppended}
use Rattle.rock_writer.specs.Entries.{Entry, WritesAs, body_in, with_taken}
use Rattle.collapse.specs.Sending.{Sends, SendsAtLeast}
use Rattle.collapse.specs.declared.writing.Kept.{Kept}
use Rattle.collapse.specs.declared.writing.Kept.TheVariants.{FetchFault, Refused, SinkFault, Whole}

-- a call took so many of these bytes, and left this pass
pub record Call (C : Type 0) : Type 0 where
  pub bytes : List ℕ
  pub count : ℕ
  pub after : Pass C

module _ {C O : Type 0} (tells : Bool) (state : C → CellState) (offers : O → Offers) (s : Store C O) (t : ℕ) where
  -- These calls, the newest first, took bytes of the body of the entry e, each from the pass that the one before it left. So many are taken then.
  abbrev pub Took : Entry → Pass C → List (Call C) → Pass C → ℕ → Type 0
  Took e p [] q total = (q ≡ p) × (total ≡ e.taken)
  Took e p (c ∷ earlier) q total =
      (middle : Pass C) × (before : ℕ) × Took e p earlier middle before × Appended tells state offers s t (with_taken e before) c.bytes middle c.after c.count × (q ≡ c.after) × (total ≡ before + c.count)

  -- The tab writes the entry, and these bytes are the rest of its body.
  pub record MayTake (e : Entry) (rest : List ℕ) (p : Pass C) : Type 0 where
    pub writes : WritesAs tells state offers s p t e
    pub rest_is : rest ≡ drop e.taken (body_in (basis tells state offers s) e)

  module _ (e : Entry) (p q : Pass C) where
    -- so many bytes of the body are taken then
    pub record Added (total : ℕ) : Type 0 where
      pub calls : List (Call C)
      pub took : Took e p calls q total
      pub writes : WritesAs tells state offers s q t (with_taken e total)

    -- some were, and then the entry was given up for this cause
    pub record NotAdded (fault : WriteFault) : Type 0 where
      pub calls : List (Call C)
      pub middle : Pass C
      pub total : ℕ
      pub took : Took e p calls middle total
      pub bytes : List ℕ
      pub stopped : NotAppended tells state offers s t (with_taken e total) bytes middle q fault

  -- What keeping the rest of a fetch came to, of a sink that took `old` before and `new` after, where `rest` was left and `left` is.
  module _ (e : Entry) (p q : Pass C) (sink_tells : Bool) (old new rest left : List ℕ) where
    -- all of it was taken, and went to the sink
    pub record KeepsWhole : Type 0 where
      pub added : Added e p q (length (body_in (basis tells state offers s) e))
      pub sent : Sends sink_tells old new rest

    -- the entry was given up, and what came so far went to the sink
    pub record KeepsNoMore (fault : WriteFault) : Type 0 where
      pub not_added : NotAdded e p q fault
      pub bytes : List ℕ
      pub rest_is : rest ≡ bytes ++ left
      pub sent : Sends sink_tells old new bytes

    -- The fetcher or the sink failed, and the tab writes the entry still. What was taken went to the sink.
    pub record KeepsSome : Type 0 where
      pub total : ℕ
      pub added : Added e p q total
      pub many : ℕ
      pub total_is : total ≡ e.taken + many
      pub sent : SendsAtLeast sink_tells old new rest many

    abbrev pub KeptAs : Kept → Type 0
    KeptAs Whole = KeepsWhole
    KeptAs (Refused fault) = KeepsNoMore fault
    KeptAs FetchFault = KeepsSome
    KeptAs SinkFault = KeepsSome
