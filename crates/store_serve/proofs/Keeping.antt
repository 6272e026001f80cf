-- What is kept of a tab, against what its pass has there.
use Rattle.std.proofs.Common.{Bool, List, length, refl, subst, ◌≤◌, ℕ}
use Rattle.std.specs.Prelude.{◌≢◌}
use Rattle.rock_disk.specs.Cell.{CellState}
use Rattle.script_text.specs.declared.body.Body.{Body}
use Rattle.store_rule.specs.declared.store.Pass.{Pass}
use Rattle.store_rule.specs.declared.store.Store.{Store}
use Rattle.store_rule.specs.Ground.{Offers}
use Rattle.rock_writer.specs.Entries.{Entry, WritesAs}
use Rattle.store_serve.specs.Adding.{MayAdd}
use Rattle.store_serve.specs.Tabs.{Holds, IsFree, IsReading, IsWriting, WritesBody}
use Rattle.store_serve.proofs.Entries.{same_entry}
use Rattle.store_serve.specs.declared.tabs.ScriptTab.{ScriptTab}
use Rattle.store_serve.specs.declared.tabs.ScriptTab.TheVariants.{Free, Reading, Writing}

module _ {C O : Type 0} (tells : Bool) (state : C → CellState) (offers : O → Offers) (s : Store C O) (p : Pass C) (t : ℕ) where
  -- no tab is in two ways
  writing_or_free : IsWriting tells state offers s p t → IsFree p t → ⊥
  writing_or_free h free = let is = h.1.rests.is in cc

  reading_or_free : IsReading tells state offers s p t → IsFree p t → ⊥
  reading_or_free h free = let is = h.1.is in cc

  reading_or_writing : IsReading tells state offers s p t → IsWriting tells state offers s p t → ⊥
  reading_or_writing h k = let is = h.1.is in let other = k.1.rests.is in cc

  pub not_free : (kept : ScriptTab) → kept ≢ Free → Holds tells state offers s p t kept → IsFree p t → ⊥
  not_free Free other h free = other refl
  not_free (Writing body taken) other h free = writing_or_free (h.entry, h.writes) free
  not_free Reading other h free = reading_or_free h free

  pub not_writing : (kept : ScriptTab) → ((body : Body) (taken : ℕ) → kept ≢ Writing body taken) → Holds tells state offers s p t kept → IsWriting tells state offers s p t → ⊥
  not_writing Free other h writes = writing_or_free writes h
  not_writing (Writing body taken) other h writes = other body taken refl
  not_writing Reading other h writes = reading_or_writing h writes

  pub not_reading : (kept : ScriptTab) → kept ≢ Reading → Holds tells state offers s p t kept → IsReading tells state offers s p t → ⊥
  not_reading Free other h reads = reading_or_free reads h
  not_reading (Writing body taken) other h reads = reading_or_writing reads (h.entry, h.writes)
  not_reading Reading other h reads = other refl

  -- bytes may be added to the body that the tab writes, whatever entry it is
  pub may_add : (body : List ℕ) (from upto : ℕ) (h : WritesBody tells state offers s p t body from) → from ≤ upto → upto ≤ length body → MayAdd tells state offers s t h.entry body from upto p
  may_add body from upto h order within = record { writes = h.writes; body_is = h.body_is; from_is = h.taken_is; order = order; inside = within }

  pub may_add_any : (body : List ℕ) (from upto : ℕ) (h : WritesBody tells state offers s p t body from) → from ≤ upto → upto ≤ length body → (e : Entry) → WritesAs tells state offers s p t e → MayAdd tells state offers s t e body from upto p
  may_add_any body from upto h order within e writes = subst (λ (z : Entry). MayAdd tells state offers s t z body from upto p) (same_entry tells state offers s p t h.entry e h.writes writes) (may_add body from upto h order within)
