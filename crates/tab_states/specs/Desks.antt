-- What is in the desks of a pass, and in what they lend.
use Rattle.std.specs.Prelude.{List, [], length, map, replicate, slice_index_or, slice_set, false, suc, zero, ◌∷◌, ◌≡◌, ℕ}
use Rattle.std.specs.Borrow.{Array, Fml, Lends, MutBor, u8}
use mathlib.Core.Path.{ap, refl}
use Rattle.page_pool.specs.Lending.{with_bytes}
use Rattle.tab_states.specs.declared.desks.Desk.{Desk}
use Rattle.tab_states.specs.declared.desks.Draft.{Draft}
use Rattle.tab_states.specs.contracts.desks.Desks.{the_row as desks_row}
use Rattle.tab_states.specs.contracts.desks.Desk.{the_row as desk_row}

-- the bytes in the buffer of a desk
abbrev pub buffer_at : List Desk → ℕ → List ℕ
buffer_at desks at = slice_index_or (map (λ (d : Desk). d.page.bytes.items) desks) at []

-- the number of the page of a desk
abbrev pub page_at : List Desk → ℕ → ℕ
page_at desks at = slice_index_or (map (λ (d : Desk). d.page.number) desks) at 0

-- the desk with these bytes in its buffer, which keeps its length
abbrev pub with_buffer : Desk → List ℕ → Desk
with_buffer d bytes = record d { page = with_bytes d.page bytes }

abbrev pub with_buffer_at : List Desk → ℕ → List ℕ → List Desk
with_buffer_at [] at bytes = []
with_buffer_at (d ∷ ds) zero bytes = with_buffer d bytes ∷ ds
with_buffer_at (d ∷ ds) (suc at) bytes = d ∷ with_buffer_at ds at bytes

pub as_many : (ds : List Desk) (at : ℕ) (bytes : List ℕ) → length (with_buffer_at ds at bytes) ≡ length ds
as_many [] at bytes = refl
as_many (d ∷ ds) zero bytes = refl
as_many (d ∷ ds) (suc at) bytes = ap suc (as_many ds at bytes)

abbrev pub draft_at : List Desk → ℕ → Draft
draft_at desks at = slice_index_or (map (λ (d : Desk). d.draft) desks) at record { key = replicate 16 0; held = 0; is_durable = false }

abbrev pub with_draft_at : List Desk → ℕ → Draft → List Desk
with_draft_at [] at draft = []
with_draft_at (d ∷ ds) zero draft = record d { draft = draft } ∷ ds
with_draft_at (d ∷ ds) (suc at) draft = d ∷ with_draft_at ds at draft

pub as_many_drafted : (ds : List Desk) (at : ℕ) (draft : Draft) → length (with_draft_at ds at draft) ≡ length ds
as_many_drafted [] at draft = refl
as_many_drafted (d ∷ ds) zero draft = refl
as_many_drafted (d ∷ ds) (suc at) draft = ap suc (as_many_drafted ds at draft)

-- When the borrow r ends, the lender has in that place what was left behind r.
abbrev pub LendsBuffer : MutBor Desk → MutBor (List ℕ) → Fml
LendsBuffer d r = Lends desk_row (Array u8 0) d r (with_buffer d.now)

abbrev pub LendsDesk : MutBor (List Desk) → ℕ → MutBor Desk → Fml
LendsDesk s at r = Lends desks_row desk_row s r (slice_set s.now at)

abbrev pub LendsBufferAt : MutBor (List Desk) → ℕ → MutBor (List ℕ) → Fml
LendsBufferAt s at r = Lends desks_row (Array u8 0) s r (with_buffer_at s.now at)
