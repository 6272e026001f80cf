-- Desks that are set and looked up.
use Rattle.std.proofs.Common.{List, Option, Some, [], ap, refl, set, sym, suc, zero, ◌≡◌, ◌∷◌, ℕ}
use Rattle.std.specs.Prelude.{slice_get, slice_index_or, unwrap_or}
use Rattle.tab_states.specs.declared.desks.Desk.{Desk}
use Rattle.tab_states.specs.declared.desks.Draft.{Draft}
use Rattle.tab_states.specs.Desks.{buffer_at, with_buffer, with_buffer_at, with_draft_at}

pub set_buffer : (ds : List Desk) (at : ℕ) (d : Desk) (bytes : List ℕ) → slice_get ds at ≡ Some d → set ds at (with_buffer d bytes) ≡ with_buffer_at ds at bytes
set_buffer [] at d bytes e = refl
set_buffer (x ∷ ds) zero d bytes e = sym (ap (λ (z : Option Desk). with_buffer (unwrap_or z d) bytes ∷ ds) e)
set_buffer (x ∷ ds) (suc at) d bytes e = ap (λ (z : List Desk). x ∷ z) (set_buffer ds at d bytes e)

pub buffer_there : (ds : List Desk) (at : ℕ) (d : Desk) → slice_get ds at ≡ Some d → d.page.bytes.items ≡ buffer_at ds at
buffer_there [] at d e = cc
buffer_there (x ∷ ds) zero d e = sym (ap (λ (z : Option Desk). (unwrap_or z d).page.bytes.items) e)
buffer_there (x ∷ ds) (suc at) d e = buffer_there ds at d e

pub set_draft : (ds : List Desk) (at : ℕ) (d : Desk) (draft : Draft) → d ≡ slice_index_or ds at d → set ds at (record d { draft = draft }) ≡ with_draft_at ds at draft
set_draft [] at d draft e = refl
set_draft (x ∷ ds) zero d draft e = ap (λ (z : Desk). record z { draft = draft } ∷ ds) e
set_draft (x ∷ ds) (suc at) d draft e = ap (λ (z : List Desk). x ∷ z) (set_draft ds at d draft e)
