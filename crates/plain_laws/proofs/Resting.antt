-- Stores at their beginning.
use Rattle.std.proofs.Common.{◌≡◌, ◌∙◌, ℕ, zero, suc, ◌+◌, ◌≤◌, List, length, get_or, sum_by, refl, sym, arith}
use Rattle.std.specs.Prelude.{Option, Some, None, map, replicate}
use Rattle.std.specs.List.{range_with_len}
use Rattle.std.proofs.lemmas.List.FromFn.{length-map-range_with_len}
use Rattle.std.proofs.lemmas.List.Sums.{sum_by-cons}
use Rattle.plain_model.specs.declared.entry.Life.TheVariants.{Growing, Whole}
use Rattle.plain_model.specs.declared.entry.Place.{Place}
use Rattle.plain_model.specs.declared.kept.Kept.{Kept}
use Rattle.plain_model.specs.declared.store.Setting.{Setting}
use Rattle.plain_model.specs.declared.store.Tab.TheVariants.{Free, Writing}
use Rattle.plain_model.specs.declared.store.Plain.{Plain}
use Rattle.plain_model.specs.Place.{nothing}
use Rattle.plain_model.specs.Store.{tab_at}
use Rattle.plain_model.specs.Slots.{held}
use Rattle.plain_model.specs.Serving.{fresh}
use Rattle.plain_model.specs.Opening.{place_kept, kept_at, opened}
use Rattle.plain_laws.specs.Holding.{IsGrowing, WritesApart, HoldsItsSlots, slots_held}
use Rattle.plain_laws.specs.Fitting.{IsAtRest}

all_free : (n t : ℕ) → get_or (replicate n Free) t Free ≡ Free
all_free zero t = refl
all_free (suc n) zero = refl
all_free (suc n) (suc t) = all_free n t

kept_rests : (o : Option Kept) → IsGrowing (place_kept o).entry → ⊥
kept_rests None g = g
kept_rests (Some k) g = let e : Whole ≡ Growing = g in cc

-- places that are made one by one rest where each does
places_rest : (f : ℕ → Place) → ((a : ℕ) → IsGrowing (f a).entry → ⊥) → (i n a : ℕ) → IsGrowing (get_or (map f (range_with_len i n)) a nothing).entry → ⊥
places_rest f rests i zero a g = g
places_rest f rests i (suc n) zero g = rests i g
places_rest f rests i (suc n) (suc a) g = places_rest f rests (i + 1) n a g

nothing_held : (room i n : ℕ) → sum_by (held room) (map (λ a. nothing) (range_with_len i n)) ≡ 0
nothing_held room i zero = refl
nothing_held room i (suc n) = let rest = nothing_held room (i + 1) n in omega (arith, rest, sum_by-cons (held room) nothing (map (λ a. nothing) (range_with_len (i + 1) n)))

free_apart : (p : Plain) → ((tab : ℕ) → tab_at p tab ≡ Free) → WritesApart p
free_apart p free = record {
  grows = λ t a w. absurd (let k : Free ≡ Writing a = sym (free t) ∙ w in cc);
  apart = λ t u a w x. absurd (let k : Free ≡ Writing a = sym (free t) ∙ w in cc);
}

pub fresh_rests : (s : Setting) → IsAtRest (fresh s.anchors) × HoldsItsSlots s (fresh s.anchors) × (length (fresh s.anchors).places ≡ s.anchors)
fresh_rests s = (
  record { free = all_free 8; settled = λ a g. places_rest (λ b. nothing) (λ b h. h) 0 s.anchors a g },
  record { within = (let none = nothing_held s.room 0 s.anchors in omega arith); writes = free_apart (fresh s.anchors) (all_free 8) },
  length-map-range_with_len (λ b. nothing) 0 s.anchors,
)

pub opened_rests : (s : Setting) (kept : List Kept) (greatest : ℕ) → IsAtRest (opened s.anchors kept greatest) × (length (opened s.anchors kept greatest).places ≡ s.anchors)
    × (slots_held s (opened s.anchors kept greatest) ≤ s.slots → HoldsItsSlots s (opened s.anchors kept greatest))
opened_rests s kept greatest = (
  record { free = all_free 8; settled = λ a g. places_rest (λ b. place_kept (kept_at s.anchors kept b)) (λ b h. kept_rests (kept_at s.anchors kept b) h) 0 s.anchors a g },
  length-map-range_with_len (λ b. place_kept (kept_at s.anchors kept b)) 0 s.anchors,
  λ within. record { within = within; writes = free_apart (opened s.anchors kept greatest) (all_free 8) },
)
