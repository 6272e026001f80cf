-- Pages of zeros as the slots of a store.
use Rattle.std.proofs.Common.{◌≡◌, ⊎_elim, ℕ, zero, suc, Bool, true, false, List, [], ◌∷◌, ◌++◌, length, map, replicate, refl, sym, ap, ◌∙◌, subst, arith}
use Rattle.std.specs.Prelude.{All, drop, slice_index, take}
use mathlib.Core.Option.{some}
use lib.ListN.{get_elem?}
use Rattle.std.proofs.lemmas.List.{length-replicate}
use Rattle.std.proofs.lemmas.List.Elements.{All-cons, All-drop, All-head, All-nil, All-push, All-replicate, All-tail, All-take}
use Rattle.page_pool.proofs.Lists.{at_end, at_length}
use Rattle.rock_disk.specs.Cell.{shape}
use Rattle.rebuild_model.specs.Image.{image_at}
use Rattle.slot_cell.specs.Header.{header_of}
use Rattle.store_rule.specs.Rebuilding.{HoldNothing}
use Rattle.store_rule.specs.Setting.{IsSettled, blank_in, shown}
use Rattle.mem_cache.specs.declared.cell.PageCell.{PageCell}
use Rattle.mem_cache.specs.Cell.{cell_state}
use Rattle.mem_cache.specs.Pages.{AreNew}

zero_at : (bytes : List ℕ) → All (λ b. b ≡ 0) bytes → (i : ℕ) → slice_index bytes i ≡ 0
zero_at [] zeros i = refl
zero_at (b ∷ bytes) zeros zero = All-head (λ b. b ≡ 0) b bytes zeros
zero_at (b ∷ bytes) zeros (suc i) = zero_at bytes (All-tail (λ b. b ≡ 0) b bytes zeros) i

-- the version of a header of zeros is 0
no_version : (image : List ℕ) → All (λ b. b ≡ 0) image → (header_of image).version ≡ 0
unfolding header_of
no_version image zeros =
    let at = zero_at (take 4 (drop 28 image)) (All-take (λ b. b ≡ 0) 4 (drop 28 image) (All-drop (λ b. b ≡ 0) 28 image zeros)) in
    omega (arith, at 0, at 1, at 2, at 3)

zeros_at : (images : List (List ℕ)) → All (All (λ b. b ≡ 0)) images → (s : ℕ) → All (λ b. b ≡ 0) (image_at images s)
zeros_at [] zeros s = All-nil (λ b. b ≡ 0)
zeros_at (image ∷ images) zeros zero = All-head (All (λ b. b ≡ 0)) image images zeros
zeros_at (image ∷ images) zeros (suc s) = zeros_at images (All-tail (All (λ b. b ≡ 0)) image images zeros) s

module _ {D : Type 0} where
  abbrev images : List (PageCell D) → List (List ℕ)
  images cells = map (λ c. (cell_state c).now) cells

  all_zeros : (slot : ℕ) (cells : List (PageCell D)) → All (λ c. c.page.bytes.items ≡ replicate slot 0) cells → All (All (λ b. b ≡ 0)) (images cells)
  all_zeros slot [] zeros = All-nil (All (λ b. b ≡ 0))
  all_zeros slot (c ∷ cells) zeros = let IsZeros : PageCell D → Type 0 = λ c. c.page.bytes.items ≡ replicate slot 0 in
      All-cons (All (λ b. b ≡ 0)) c.page.bytes.items (images cells) (subst (All (λ b. b ≡ 0)) (sym (All-head IsZeros c cells zeros)) (All-replicate (λ b. b ≡ 0) slot 0 refl))
      (all_zeros slot cells (All-tail IsZeros c cells zeros))

  -- no slot of zeros is sane
  pub hold_nothing : (tells : Bool) (slot size : ℕ) (cells : List (PageCell D)) → All (λ c. c.page.bytes.items ≡ replicate size 0) cells → HoldNothing tells cell_state slot cells
  hold_nothing tells slot size cells zeros told s h =
      let some = h.sane.version_from in
      let none = no_version (image_at (images cells) s) (zeros_at (images cells) (all_zeros size cells zeros) s) in omega (arith, some, none)

  -- a crash leaves what a page holds
  pub settled_shown : (tells : Bool) (c : PageCell D) → IsSettled tells cell_state c
  settled_shown true c = refl
  settled_shown false c = refl

  blank_shown : (tells : Bool) (slot : ℕ) (c : PageCell D) → c.page.bytes.items ≡ replicate slot 0 → (shown tells cell_state c).now ≡ blank_in tells slot
  blank_shown true slot c zeros = zeros
  blank_shown false slot c zeros = refl

  -- each slot shows the blank content
  pub all_blank : (tells : Bool) (slot : ℕ) (cells : List (PageCell D)) → All (λ c. c.page.bytes.items ≡ replicate slot 0) cells → map (λ c. (shown tells cell_state c).now) cells ≡ replicate (length cells) (blank_in tells slot)
  all_blank tells slot [] zeros = refl
  all_blank tells slot (c ∷ cells) zeros = let IsZeros : PageCell D → Type 0 = λ c. c.page.bytes.items ≡ replicate slot 0 in
      λ i. blank_shown tells slot c (All-head IsZeros c cells zeros) i ∷ all_blank tells slot cells (All-tail IsZeros c cells zeros) i

  -- one slot more, of the next number
  pub new_more : (slot : ℕ) (cells more : List (PageCell D)) (c : PageCell D) → more ≡ cells ++ c ∷ [] → AreNew slot cells → c.number ≡ length cells → c.page.bytes.items ≡ replicate slot 0 → AreNew slot more
  new_more slot cells more c is so number zeros = record {
    row = λ j x at. ⊎_elim
        (λ (e : get_elem? cells j ≡ some x). so.row j x e)
        (λ (e : (j ≡ length cells) × (c ≡ x)). subst (λ (x : PageCell D). shape (cell_state x) ≡ (j, slot)) e.1 (λ i. ((number ∙ sym e.0) i, (ap length zeros ∙ length-replicate slot 0) i)))
        (at_end cells c x j (subst (λ (z : List (PageCell D)). get_elem? z j ≡ some x) is at));
    zeros = subst (All (λ (c : PageCell D). c.page.bytes.items ≡ replicate slot 0)) (sym is) (All-push (λ (c : PageCell D). c.page.bytes.items ≡ replicate slot 0) cells c so.zeros zeros);
  }

  -- none yet
  pub new_none : (slot : ℕ) (cells : List (PageCell D)) → cells ≡ [] → AreNew slot cells
  new_none slot cells none = subst (AreNew slot) (sym none) record { row = λ j c at. absurd (omega (arith, at_length [] j c at)); zeros = λ k d lt. absurd (omega arith) }

  -- the slots of a row are as wide as it says
  pub row_wide : (slot : ℕ) (cells : List (PageCell D)) → ((j : ℕ) (c : PageCell D) → get_elem? cells j ≡ some c → length c.page.bytes.items ≡ slot) → All (λ c. length c.page.bytes.items ≡ slot) cells
  row_wide slot [] wide = All-nil (λ c. length c.page.bytes.items ≡ slot)
  row_wide slot (c ∷ cells) wide = All-cons (λ c. length c.page.bytes.items ≡ slot) c cells (wide 0 c refl) (row_wide slot cells (λ j x at. wide (suc j) x at))
