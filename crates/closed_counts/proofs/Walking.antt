-- A closed chain is walked along the links of its slots.
use Rattle.std.proofs.Common.{None, Some, [], arith, get_or, length, refl, sym, ◌*◌, ◌+◌, ◌-◌, ◌<◌, ◌≡◌, ◌≤◌, ◌∙◌, ◌∷◌, List, ℕ, ap, subst}
use Rattle.std.specs.Prelude.{slice_get}
use mathlib.Core.Logic.{dite}
use mathlib.Core.Option.{some}
use native.Mathlib.Decide.{ℕ_discrete}
use lib.ListN.{get_elem?}
use Rattle.link_word.specs.declared.link.Link.{Link}
use Rattle.link_word.specs.declared.link.Link.TheVariants.{Last}
use Rattle.link_word.specs.Words.{link_number}
use Rattle.lock_word.specs.Words.{epoch_of, stage_of}
use Rattle.core_model.specs.declared.moves.Side.TheVariants.{Start}
use Rattle.core_model.specs.Chains.{Fits, Spells, link_to, start_number}
use Rattle.core_model.specs.Layout.{Setting, anchor_index, beside_index, link_index}
use Rattle.core_model.specs.Slots.{slot_words}
use Rattle.core_model.specs.State.{State, chain_of, word}
use Rattle.core_model.proofs.Telling.{stage_told, told_in, told_out}
use Rattle.closed_counts.specs.Counts.{AreWordsOf, IsClosedAt, slots_of}
use Rattle.closed_counts.proofs.Reading.{read}

-- a link that is written
to_some : (rest : List ℕ) → 0 < link_number (link_to rest Last)
to_some [] = omega arith
to_some (x ∷ rest) = omega arith

module _ {X : Type 0} {anchors slots : ℕ} {words : List ℕ} {k : Setting X} {s : State X} (w : AreWordsOf anchors slots words k s) where
  -- a slot that is spelled is one of the table
  pub inside : (slot : ℕ) (rest : List ℕ) → Spells (slot_words k s.words).link (slot ∷ rest) Last → slot < slots
  inside slot rest spelled = dite (ℕ_discrete (k.slots - slot) 0)
      (λ e. absurd (let z = told_out k.slots slot (get_or s.words (link_index k slot) 0) (omega arith) in let first = spelled.0 in
      let more = to_some rest in omega arith))
      (λ ne. let is = w.slots_are in omega arith)

  -- the link that was read
  pub behind : (slot at n : ℕ) (rest : List ℕ) → at ≡ 5 * anchors + 2 * slot → get_elem? words at ≡ some n
      → Spells (slot_words k s.words).link (slot ∷ rest) Last → n ≡ link_number (link_to rest Last)
  behind slot at n rest is found spelled =
      sym (read w at (link_index k slot) n (is ∙ ap (λ (m : ℕ). 5 * m + 2 * slot) (sym w.anchors_are)) found)
      ∙ sym (told_in k.slots slot (get_or s.words (link_index k slot) 0) (let lt = inside slot rest spelled in
      let is_so = w.slots_are in omega arith))
      ∙ spelled.0

  -- it names a slot of the table, if any
  pub few : (slot n : ℕ) (rest : List ℕ) → n ≡ link_number (link_to rest Last) → Spells (slot_words k s.words).link (slot ∷ rest) Last
      → n ≤ slots + 1
  few slot n [] is spelled = omega arith
  few slot n (x ∷ rest) is spelled = let lt = inside x rest spelled.1 in omega arith

-- where the chain goes on by the link that was read
pub goes_on : (rest : List ℕ) (next n : ℕ) → n ≡ link_number (link_to rest Last) → next + 2 ≡ n → Some next ≡ slice_get rest 0
goes_on [] next n is number = absurd (omega arith)
goes_on (x ∷ rest) next n is number = let e : next ≡ x = omega arith in ap Some e

pub ends : (rest : List ℕ) (n : ℕ) → n ≡ link_number (link_to rest Last) → n ≤ 1 → None ≡ slice_get rest 0
ends [] n is number = refl
ends (x ∷ rest) n is number = absurd (omega arith)

-- a closed chain has a first slot, which its start names
record Begins (links : ℕ → ℕ) (slots : List ℕ) (start : ℕ) : Type 0 where
  first : ℕ
  rest : List ℕ
  is : slots ≡ first ∷ rest
  starts : start ≡ first + 1
  spelled : Spells links (first ∷ rest) Last

begins_so : (links : ℕ → ℕ) (slots : List ℕ) (end : Link) (start : ℕ) → end ≡ Last → Fits slots end → Spells links slots end
    → start ≡ start_number slots → Begins links slots start
begins_so links [] end start e fits spelled is = absurd (subst (Fits []) e fits)
begins_so links (x ∷ rest) end start e fits spelled is = record {
  first = x;
  rest = rest;
  is = refl;
  starts = is;
  spelled = subst (Spells links (x ∷ rest)) e spelled;
}

-- The walk is at a slot of the chain of an anchor, and counted so many up to it.
pub record IsWalked {X : Type 0} (k : Setting X) (s : State X) (a slot count : ℕ) : Type 0 where
  pub rest : List ℕ
  pub spelled : Spells (slot_words k s.words).link (slot ∷ rest) Last
  pub left : length rest + count ≡ slots_of s a

module _ {X : Type 0} {anchors slots : ℕ} {words : List ℕ} {k : Setting X} {s : State X} (w : AreWordsOf anchors slots words k s) where
  begins_at : (a start : ℕ) → a < anchors → IsClosedAt words a → start ≡ get_or s.words (beside_index Start a) 0
      → Begins (slot_words k s.words).link (chain_of s a).slots start
  begins_at a start lt closed is =
      let low : a < k.anchors = let e = w.anchors_are in omega arith in
      let three : stage_of (epoch_of (word s a)) ≡ 3 =
      ap (λ (xs : List ℕ). stage_of (epoch_of (get_or xs (anchor_index a) 0))) w.words_are ∙ closed in
      let stands = w.sound.slots.stand a low in
      let stage = stage_told k s.words a low ∙ three in
      begins_so (slot_words k s.words).link (chain_of s a).slots (chain_of s a).end start (stands.closed stage) stands.fits stands.spelled
      (is ∙ sym (told_in k.anchors a (get_or s.words (beside_index Start a) 0) low) ∙ stands.starts (omega arith) (omega arith))

  -- the walk begins at the slot that the start names
  pub begins : (a at n : ℕ) → a < anchors → IsClosedAt words a → at ≡ beside_index Start a → get_elem? words at ≡ some n
      → (0 < n) × (n ≤ slots) × IsWalked k s a (n - 1) 1
  begins a at n lt closed is found =
      let b = begins_at a n lt closed (sym (read w at (beside_index Start a) n is found)) in
      let first : n - 1 ≡ b.first = let e = b.starts in omega arith in (
        (let e = b.starts in omega arith),
        (let e = b.starts in let low = inside w b.first b.rest b.spelled in omega arith),
        record {
          rest = b.rest;
          spelled = subst (λ (z : ℕ). Spells (slot_words k s.words).link (z ∷ b.rest) Last) (sym first) b.spelled;
          left = let e = ap length b.is in omega arith;
        },
      )

  -- it goes on
  pub on : (a slot count next : ℕ) (h : IsWalked k s a slot count) → Some next ≡ slice_get h.rest 0 → IsWalked k s a next (count + 1)
  on a slot count next h is = at h.rest h.spelled.1 h.left is
    where
      at : (rest : List ℕ) → Spells (slot_words k s.words).link rest Last → length rest + count ≡ slots_of s a
          → Some next ≡ slice_get rest 0 → IsWalked k s a next (count + 1)
      at [] spelled left is = absurd cc
      at (x ∷ rest) spelled left is = let e : next ≡ x = cc in record {
        rest = rest;
        spelled = subst (λ (z : ℕ). Spells (slot_words k s.words).link (z ∷ rest) Last) (sym e) spelled;
        left = omega arith;
      }

  -- and ends behind the last slot
  pub done : (a slot count : ℕ) (h : IsWalked k s a slot count) → None ≡ slice_get h.rest 0 → count ≡ slots_of s a
  done a slot count h is = at h.rest h.left is
    where
      at : (rest : List ℕ) → length rest + count ≡ slots_of s a → None ≡ slice_get rest 0 → count ≡ slots_of s a
      at [] left is = omega arith
      at (x ∷ rest) left is = absurd cc
