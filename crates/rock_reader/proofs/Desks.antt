-- What a tab works on, where the buffer or the draft of one is another one.
use Rattle.std.proofs.Common.{List, [], ap, arith, length, refl, suc, take, zero, ◌<◌, ◌≡◌, ◌≢◌, ◌∙◌, ◌∷◌, sym, ℕ}
use Rattle.std.proofs.lemmas.List.{with_items_is}
use Rattle.tab_states.specs.declared.desks.Draft.{Draft}
use Rattle.tab_states.specs.declared.desks.Desk.{Desk}
use Rattle.tab_states.specs.Desks.{buffer_at, draft_at, with_buffer_at, with_draft_at}
use Rattle.rock_reader.specs.Wanted.{held_at, kept_at}

pub draft_same : (ds : List Desk) (t : ℕ) (d : Draft) → t < length ds → draft_at (with_draft_at ds t d) t ≡ d
draft_same [] t d lt = absurd (omega arith)
draft_same (x ∷ ds) zero d lt = refl
draft_same (x ∷ ds) (suc t) d lt = draft_same ds t d (omega arith)

pub draft_other : (ds : List Desk) (t j : ℕ) (d : Draft) → j ≢ t → draft_at (with_draft_at ds t d) j ≡ draft_at ds j
draft_other [] t j d ne = refl
draft_other (x ∷ ds) zero zero d ne = absurd (ne refl)
draft_other (x ∷ ds) zero (suc j) d ne = refl
draft_other (x ∷ ds) (suc t) zero d ne = refl
draft_other (x ∷ ds) (suc t) (suc j) d ne = draft_other ds t j d (λ e. ne (ap suc e))

pub buffer_drafted : (ds : List Desk) (t j : ℕ) (d : Draft) → buffer_at (with_draft_at ds t d) j ≡ buffer_at ds j
buffer_drafted [] t j d = refl
buffer_drafted (x ∷ ds) zero zero d = refl
buffer_drafted (x ∷ ds) zero (suc j) d = refl
buffer_drafted (x ∷ ds) (suc t) zero d = refl
buffer_drafted (x ∷ ds) (suc t) (suc j) d = buffer_drafted ds t j d

pub draft_lent : (ds : List Desk) (t j : ℕ) (bytes : List ℕ) → draft_at (with_buffer_at ds t bytes) j ≡ draft_at ds j
draft_lent [] t j bytes = refl
draft_lent (x ∷ ds) zero zero bytes = refl
draft_lent (x ∷ ds) zero (suc j) bytes = refl
draft_lent (x ∷ ds) (suc t) zero bytes = refl
draft_lent (x ∷ ds) (suc t) (suc j) bytes = draft_lent ds t j bytes

pub buffer_same : (ds : List Desk) (t : ℕ) (bytes : List ℕ) → t < length ds → length bytes ≡ length (buffer_at ds t) → buffer_at (with_buffer_at ds t bytes) t ≡ bytes
buffer_same [] t bytes lt e = absurd (omega arith)
buffer_same (x ∷ ds) zero bytes lt e = with_items_is x.page.bytes bytes (e ∙ sym x.page.bytes.ok.0)
buffer_same (x ∷ ds) (suc t) bytes lt e = buffer_same ds t bytes (omega arith) e

pub buffer_other : (ds : List Desk) (t j : ℕ) (bytes : List ℕ) → j ≢ t → buffer_at (with_buffer_at ds t bytes) j ≡ buffer_at ds j
buffer_other [] t j bytes ne = refl
buffer_other (x ∷ ds) zero zero bytes ne = absurd (ne refl)
buffer_other (x ∷ ds) zero (suc j) bytes ne = refl
buffer_other (x ∷ ds) (suc t) zero bytes ne = refl
buffer_other (x ∷ ds) (suc t) (suc j) bytes ne = buffer_other ds t j bytes (λ e. ne (ap suc e))

-- what is kept for a tab
pub kept_there : (ds qs : List Desk) (t : ℕ) (bytes : List ℕ) (d : Draft) → t < length ds → length bytes ≡ length (buffer_at ds t) → qs ≡ with_draft_at (with_buffer_at ds t bytes) t d → kept_at qs t ≡ take d.held bytes
kept_there ds qs t bytes d lt e is = ap (λ (z : List Desk). kept_at z t) is
    ∙ ap (λ (z : Draft). take z.held (buffer_at (with_draft_at (with_buffer_at ds t bytes) t d) t)) (draft_same (with_buffer_at ds t bytes) t d (let l = Rattle.tab_states.specs.Desks.as_many ds t bytes in omega arith))
    ∙ ap (take d.held) (buffer_drafted (with_buffer_at ds t bytes) t t d ∙ buffer_same ds t bytes lt e)

pub held_there : (ds qs : List Desk) (t : ℕ) (bytes : List ℕ) (d : Draft) → t < length ds → qs ≡ with_draft_at (with_buffer_at ds t bytes) t d → held_at qs t ≡ d.held
held_there ds qs t bytes d lt is = ap (λ (z : List Desk). held_at z t) is
    ∙ ap (λ (z : Draft). z.held) (draft_same (with_buffer_at ds t bytes) t d (let l = Rattle.tab_states.specs.Desks.as_many ds t bytes in omega arith))
