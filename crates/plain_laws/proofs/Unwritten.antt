-- A store that is opened on slots of zeros is one that was never written.
use Rattle.std.proofs.Common.{◌≡◌, ◌∙◌, ℕ, zero, suc, List, [], ◌∷◌, map, refl, subst, arith}
use Rattle.std.specs.Prelude.{All, Contains, drop, slice_index, take}
use Rattle.std.proofs.lemmas.List.Elements.{All-drop, All-head, All-nil, All-tail, All-take}
use Rattle.store_key.specs.Anchor.{anchor_of}
use Rattle.slot_cell.specs.Header.{header_of}
use Rattle.rebuild_model.specs.Image.{BelongsTo, IsGreatest, IsSaneAt, image_at}
use Rattle.rebuild_model.specs.Entry.{Entry, IsComplete}
use Rattle.rebuild_model.specs.Rebuilt.{IsWinner}
use Rattle.plain_model.specs.declared.store.Plain.{Plain}
use Rattle.plain_model.specs.Opening.{IsOpened, kept_of, opened}
use Rattle.plain_model.specs.Serving.{fresh}

abbrev AreZeros : List ℕ → Type 0
AreZeros bytes = All (λ b. b ≡ 0) bytes

zero_at : (bytes : List ℕ) → AreZeros bytes → (i : ℕ) → slice_index bytes i ≡ 0
zero_at [] zeros i = refl
zero_at (b ∷ bytes) zeros zero = All-head (λ b. b ≡ 0) b bytes zeros
zero_at (b ∷ bytes) zeros (suc i) = zero_at bytes (All-tail (λ b. b ≡ 0) b bytes zeros) i

-- the version of a header of zeros is 0
no_version : (image : List ℕ) → AreZeros image → (header_of image).version ≡ 0
unfolding header_of
no_version image zeros =
    let at = zero_at (take 4 (drop 28 image)) (All-take (λ b. b ≡ 0) 4 (drop 28 image) (All-drop (λ b. b ≡ 0) 28 image zeros)) in
    omega (arith, at 0, at 1, at 2, at 3)

zeros_at : (images : List (List ℕ)) → All AreZeros images → (s : ℕ) → AreZeros (image_at images s)
zeros_at [] zeros s = All-nil (λ b. b ≡ 0)
zeros_at (image ∷ images) zeros zero = All-head AreZeros image images zeros
zeros_at (image ∷ images) zeros (suc s) = zeros_at images (All-tail AreZeros image images zeros) s

module _ (slot : ℕ) (images : List (List ℕ)) (zeros : All AreZeros images) where
  none_sane : (s : ℕ) → IsSaneAt slot images s → ⊥
  none_sane s h = let some = h.sane.version_from in let none = no_version (image_at images s) (zeros_at images zeros s) in omega (arith, some, none)

  pub none_complete : (e : Entry) → IsComplete slot images e → ⊥
  none_complete e h = let belong : All (BelongsTo slot images e.first) (e.first ∷ h.chain.behind) = subst (All (BelongsTo slot images e.first)) h.chain.begins h.chain.belong in
      none_sane e.first (All-head (BelongsTo slot images e.first) e.first h.chain.behind belong).sane

  none_won : (anchors : ℕ) (entries : List Entry) → ((e : Entry) → Contains entries e → IsWinner slot images anchors (anchor_of e.key anchors) e) → entries ≡ []
  none_won anchors [] won = refl
  none_won anchors (e ∷ entries) won = absurd (none_complete e (won e (0, (omega arith), refl)).complete)

  least : (greatest : ℕ) → IsGreatest slot images greatest → greatest ≡ 0
  least zero h = refl
  least (suc n) h = let there = h.there (omega arith) in absurd (none_sane there.0 there.1)

  pub unwritten : (anchors : ℕ) (p : Plain) → IsOpened slot images anchors p → p ≡ fresh anchors
  unwritten anchors p h =
      let none = none_won anchors h.is.entries h.is.won in
      let low = least h.rebuilt.greatest h.is.greatest in
      h.store ∙ (λ i. opened anchors (map (kept_of images) (none i)) (low i))
