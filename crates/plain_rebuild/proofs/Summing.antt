-- The sizes of a chain's slots, added from the front.
use Rattle.std.proofs.Common.{◌≡◌, ℕ, ◌+◌, ◌*◌, ◌<◌, ◌≤◌, List, [], ◌∷◌, length, refl, sym, subst, ◌∙◌, arith}
use Rattle.std.specs.Prelude.{All, sum_by, ◌↔◌}
use Rattle.std.proofs.lemmas.List.Sums.{sum_by-cons}
use Rattle.std.proofs.lemmas.List.Elements.{All-tail}
use Rattle.rebuild_model.specs.Image.{header_at}
use Rattle.rebuild_model.specs.Entry.{AllButLast, OfLast}
use Rattle.rebuild_model.specs.Plain.{IsFull, IsWhole, size_at}

abbrev pub Sized : List (List ℕ) → List ℕ → ℕ → Type 0
Sized images chain s = (header_at images s).entry_size ≡ sum_by (size_at images) chain

-- the slots before `left` are full, and have `size` bytes
pub record Summed (slot : ℕ) (images : List (List ℕ)) (chain left : List ℕ) (size : ℕ) : Type 0 where
  pub full : AllButLast (IsFull slot images) left ↔ AllButLast (IsFull slot images) chain
  pub last : OfLast (Sized images chain) left ↔ OfLast (Sized images chain) chain
  pub sum : size + sum_by (size_at images) left ≡ sum_by (size_at images) chain
  pub there : All (λ s. s < length images) left
  pub small : size + 4294967296 * length left ≤ 4294967296 * length chain

pub none_yet : (slot : ℕ) (images : List (List ℕ)) (chain : List ℕ) → All (λ s. s < length images) chain → Summed slot images chain chain 0
none_yet slot images chain there = record {
  full = ((λ a. a), (λ a. a));
  last = ((λ a. a), (λ a. a));
  sum = omega arith;
  there = there;
  small = omega arith;
}

-- the last slot has the size of the whole
pub whole : (slot : ℕ) (images : List (List ℕ)) (chain : List ℕ) (s size grown : ℕ) → Summed slot images chain (s ∷ []) size → grown ≡ size + size_at images s
    → (header_at images s).entry_size ≡ grown → IsWhole slot images chain × (grown ≡ sum_by (size_at images) chain)
whole slot images chain s size grown w grows same =
    let all : grown ≡ sum_by (size_at images) chain = omega (arith, grows, w.sum, sum_by-cons (size_at images) s []) in
    (record { full = w.full.0 tt; size = w.last.0 (same ∙ all) }, all)

-- or another
pub not_whole : (slot : ℕ) (images : List (List ℕ)) (chain : List ℕ) (s size grown : ℕ) → Summed slot images chain (s ∷ []) size → grown ≡ size + size_at images s
    → ((header_at images s).entry_size ≡ grown → ⊥) → IsWhole slot images chain → ⊥
not_whole slot images chain s size grown w grows differs is =
    let all : grown ≡ sum_by (size_at images) chain = omega (arith, grows, w.sum, sum_by-cons (size_at images) s []) in
    differs (w.last.1 is.size ∙ sym all)

-- a slot with others behind it is not full
pub not_full : (slot : ℕ) (images : List (List ℕ)) (chain : List ℕ) (s t : ℕ) (rest : List ℕ) (size : ℕ) → Summed slot images chain (s ∷ t ∷ rest) size
    → (IsFull slot images s → ⊥) → IsWhole slot images chain → ⊥
not_full slot images chain s t rest size w not is = not (w.full.1 is.full).0

-- or it is
pub one_full : (slot : ℕ) (images : List (List ℕ)) (chain : List ℕ) (s t : ℕ) (rest : List ℕ) (size grown : ℕ) → Summed slot images chain (s ∷ t ∷ rest) size
    → grown ≡ size + size_at images s → size_at images s < 4294967296 → IsFull slot images s → Summed slot images chain (t ∷ rest) grown
one_full slot images chain s t rest size grown w grows small full = record {
  full = ((λ a. w.full.0 (full, a)), (λ a. (w.full.1 a).1));
  last = w.last;
  sum = omega (arith, grows, w.sum, sum_by-cons (size_at images) s (t ∷ rest));
  there = All-tail (λ u. u < length images) s (t ∷ rest) w.there;
  small = omega (arith, grows, small, w.small);
}

-- a chain has a slot
pub no_slots : (slot : ℕ) (images : List (List ℕ)) (chain : List ℕ) (size : ℕ) → Summed slot images chain [] size → IsWhole slot images chain → ⊥
no_slots slot images chain size w is = w.last.1 is.size

-- so with any slots behind it
pub goes_on : (slot : ℕ) (images : List (List ℕ)) (chain left : List ℕ) (s : ℕ) (rest : List ℕ) (size grown : ℕ) → Summed slot images chain left size → left ≡ s ∷ rest
    → (rest ≡ [] → ⊥) → grown ≡ size + size_at images s → size_at images s < 4294967296 → IsFull slot images s → Summed slot images chain rest grown
goes_on slot images chain left s [] size grown w is behind grows small full = absurd (behind refl)
goes_on slot images chain left s (t ∷ rest) size grown w is behind grows small full =
    one_full slot images chain s t rest size grown (subst (λ l. Summed slot images chain l size) is w) grows small full
