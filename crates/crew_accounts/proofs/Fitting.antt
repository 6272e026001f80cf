-- Whether the tab of a request is as it needs it: by the lines, and by the pass.
use Rattle.std.proofs.Common.{Bool, List, None, Option, Some, inl, inr, sym, ◌≡◌, ◌⊎◌, ◌∙◌, ℕ}
use Rattle.std.specs.Prelude.{◌≢◌}
use Rattle.rock_disk.specs.Cell.{CellState}
use Rattle.script_text.specs.declared.answer.Answer.{Answer}
use Rattle.core_model.specs.Tabs.{tab_at}
use Rattle.core_model.specs.declared.tab.Tab.{Tab}
use Rattle.core_model.specs.declared.tab.Tab.TheVariants as tab
use Rattle.core_model.specs.declared.tab.Reader.{Reader}
use Rattle.core_model.specs.declared.tab.Writer.{Writer}
use Rattle.line_account.specs.Lines.{Served, reading, writing}
use Rattle.store_rule.specs.declared.store.Pass.{Pass}
use Rattle.store_rule.specs.declared.store.Store.{Store}
use Rattle.store_rule.specs.Ground.{Offers}
use Rattle.store_rule.specs.Passes.{view}
use Rattle.store_serve.specs.Tabs.{IsFree, IsMet, IsReading, IsTurnedAway, IsWriting}
use Rattle.crew_accounts.specs.Runs.{Past}
use Rattle.crew_accounts.specs.Tracks.{IsIdle, IsReader, IsTracked, IsWriter}

module _ {X : Type 0} where
  pub free_writes : (x : Tab X) (w : Writer X) → x ≡ tab.Free → x ≡ tab.Writing w → ⊥
  free_writes x w e f = let z : tab.Free ≡ tab.Writing w = sym e ∙ f in cc

  free_reads : (x : Tab X) (r : Reader X) → x ≡ tab.Free → x ≡ tab.Reading r → ⊥
  free_reads x r e f = let z : tab.Free ≡ tab.Reading r = sym e ∙ f in cc

  pub writes_reads : (x : Tab X) (w : Writer X) (r : Reader X) → x ≡ tab.Writing w → x ≡ tab.Reading r → ⊥
  writes_reads x w r e f = let z : tab.Writing w ≡ tab.Reading r = sym e ∙ f in cc

is_some : {A : Type 0} (o : Option A) (x : A) → o ≡ Some x → o ≡ None → ⊥
is_some o x e f = let z : Some x ≡ None = sym e ∙ f in cc

module _ {C O : Type 0} (tells : Bool) (state : C → CellState) (offers : O → Offers) (s : Store C O) (told : Bool) (past : Past) (served : List Served) (p : Pass C) (t : ℕ) (a : Answer) (q : Pass C) where
  pub writer_fits : (h : IsWriter tells state offers s told past served p t) → writing t served ≢ None
  writer_fits h e = is_some (writing t served) h.first h.writes e

  pub reader_fits : (h : IsReader tells state offers s told past served p t) → reading t served ≢ None
  reader_fits h e = is_some (reading t served) h.first h.reads e

  -- a request on a tab that writes
  pub on_writer : (S : Type 0) → IsMet (IsWriting tells state offers s p t) S p a q → IsTracked tells state offers s told past served p t
      → (IsWriter tells state offers s told past served p t × S) ⊎ ((writing t served ≡ None) × IsTurnedAway p a q)
  on_writer S met h = by_tab met.met h
    where
      by_tab : (IsWriting tells state offers s p t × S) ⊎ ((IsWriting tells state offers s p t → ⊥) × IsTurnedAway p a q) → IsTracked tells state offers s told past served p t
          → (IsWriter tells state offers s told past served p t × S) ⊎ ((writing t served ≡ None) × IsTurnedAway p a q)
      by_tab (inl m) (inl h) = absurd (free_writes (tab_at (view p) t) _ h.free m.0.1.rests.is)
      by_tab (inl m) (inr (inl h)) = inl (h, m.1)
      by_tab (inl m) (inr (inr h)) = absurd (writes_reads (tab_at (view p) t) _ h.is.reader m.0.1.rests.is h.is.is)
      by_tab (inr m) (inl h) = inr (h.writes, m.1)
      by_tab (inr m) (inr (inl h)) = absurd (m.0 (h.entry, h.is))
      by_tab (inr m) (inr (inr h)) = inr (h.writes, m.1)

  -- on one that reads
  pub on_reader : (S : Type 0) → IsMet (IsReading tells state offers s p t) S p a q → IsTracked tells state offers s told past served p t
      → (IsReader tells state offers s told past served p t × S) ⊎ ((reading t served ≡ None) × IsTurnedAway p a q)
  on_reader S met h = by_tab met.met h
    where
      by_tab : (IsReading tells state offers s p t × S) ⊎ ((IsReading tells state offers s p t → ⊥) × IsTurnedAway p a q) → IsTracked tells state offers s told past served p t
          → (IsReader tells state offers s told past served p t × S) ⊎ ((reading t served ≡ None) × IsTurnedAway p a q)
      by_tab (inl m) (inl h) = absurd (free_reads (tab_at (view p) t) m.0.1.reader h.free m.0.1.is)
      by_tab (inl m) (inr (inl h)) = absurd (writes_reads (tab_at (view p) t) _ m.0.1.reader h.is.rests.is m.0.1.is)
      by_tab (inl m) (inr (inr h)) = inl (h, m.1)
      by_tab (inr m) (inl h) = inr (h.reads, m.1)
      by_tab (inr m) (inr (inl h)) = inr (h.reads, m.1)
      by_tab (inr m) (inr (inr h)) = absurd (m.0 (h.standing, h.is))

  -- and on a free one
  pub on_free : (S : Type 0) → IsMet (IsFree p t) S p a q → IsTracked tells state offers s told past served p t
      → (IsIdle tells state offers s told past served p t × S) ⊎ (((writing t served ≡ None) × (reading t served ≡ None) → ⊥) × IsTurnedAway p a q)
  on_free S met h = by_tab met.met h
    where
      by_tab : (IsFree p t × S) ⊎ ((IsFree p t → ⊥) × IsTurnedAway p a q) → IsTracked tells state offers s told past served p t
          → (IsIdle tells state offers s told past served p t × S) ⊎ (((writing t served ≡ None) × (reading t served ≡ None) → ⊥) × IsTurnedAway p a q)
      by_tab (inl m) (inl h) = inl (h, m.1)
      by_tab (inl m) (inr (inl h)) = absurd (free_writes (tab_at (view p) t) _ m.0 h.is.rests.is)
      by_tab (inl m) (inr (inr h)) = absurd (free_reads (tab_at (view p) t) h.is.reader m.0 h.is.is)
      by_tab (inr m) (inl h) = absurd (m.0 h.free)
      by_tab (inr m) (inr (inl h)) = inr ((λ f. writer_fits h f.0), m.1)
      by_tab (inr m) (inr (inr h)) = inr ((λ f. reader_fits h f.1), m.1)

-- a tab that writes is one that writes by the lines
module _ {C O : Type 0} (tells : Bool) (state : C → CellState) (offers : O → Offers) (s : Store C O) (told : Bool) (past : Past) (served : List Served) (p : Pass C) (t : ℕ) where
  pub writer_of : IsTracked tells state offers s told past served p t → IsWriting tells state offers s p t → IsWriter tells state offers s told past served p t
  writer_of (inl h) w = absurd (free_writes (tab_at (view p) t) _ h.free w.1.rests.is)
  writer_of (inr (inl h)) w = h
  writer_of (inr (inr h)) w = absurd (writes_reads (tab_at (view p) t) _ h.is.reader w.1.rests.is h.is.is)
