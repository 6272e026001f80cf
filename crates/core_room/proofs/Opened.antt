-- A store that was just opened has room.
use Rattle.std.proofs.Common.{Contains, List, [], ap, arith, length, refl, subst, suc, zero, ⊎_elim, ◌+◌, ◌/◌, ◌<◌, ◌≡◌, ◌≤◌, ℕ}
use Rattle.store_key.specs.Anchor.{anchor_of}
use Rattle.rebuild_model.specs.declared.found.Found.{Found}
use Rattle.rebuild_model.specs.declared.rebuilt.Rebuilt.{Rebuilt}
use Rattle.link_word.proofs.Mapped.{few}
use Rattle.core_model.specs.declared.chain.Chain.{Chain}
use Rattle.core_model.specs.declared.view.Place.TheVariants.{Map}
use Rattle.core_model.specs.Layout.{Setting, word_in}
use Rattle.core_model.specs.State.{State, chain_of}
use Rattle.core_model.specs.Tabs.{count}
use Rattle.core_model.specs.Anchors.{IsSetting}
use Rattle.core_model.specs.Opening.{IsOpened}
use Rattle.core_model.proofs.CellsOpened.{numbered}
use Rattle.core_model.proofs.Opened.{no_sum}
use Rattle.core_room.specs.Fitting.{capacity}
use Rattle.core_room.specs.Room.{Room, holds_at, past_in, taken_at, taken_from}

module _ {X : Type 0} (k : Setting X) (r : Rebuilt) (s : State X) (is : IsSetting k) (o : IsOpened k r s) where
  few_taken : (slot n : ℕ) → taken_from (taken_at k s) slot n ≤ n
  few_taken slot zero = omega arith
  few_taken slot (suc n) = let f = few (word_in k s.words (Map (slot / 64))) slot in let h = few_taken (slot + 1) n in omega arith

  -- no chain has a tail
  no_tail : (a : ℕ) → a < k.anchors → (chain_of s a).tail ≡ []
  no_tail a lt = ⊎_elim
      (λ (q : (f : Found) × Contains r.winners f × (anchor_of f.key k.anchors ≡ a)).
      subst (λ (z : ℕ). (chain_of s z).tail ≡ []) q.2 (ap Chain.tail (o.kept q.0 q.1).chain))
      (λ (q : (f : Found) → Contains r.winners f → anchor_of f.key k.anchors ≡ a → ⊥). ap Chain.tail (o.empty a lt q).chain)
      (numbered (λ (f : Found). anchor_of f.key k.anchors) a r.winners)

  pub room_opened : (need : ℕ → ℕ) (chain : ℕ → List ℕ) → ((a : ℕ) → a < k.anchors → chain a ≡ (chain_of s a).slots)
      → Room k (capacity k.slots need chain) s
  room_opened need chain kept = record {
    places = λ slot n e. let f = few_taken slot n in let z = no_sum k r s is o (count (past_in slot)) (λ p. refl) in omega arith;
    anchors = λ a lt. let t = ap length (no_tail a lt) in let c = ap length (kept a lt) in let z = no_sum k r s is o (count (holds_at a))
        (λ p. refl) in omega arith;
  }
