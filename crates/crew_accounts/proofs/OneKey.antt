-- URLs whose keys have the same halves have one key.
use Rattle.std.proofs.Common.{[], List, refl, sym, take, ◌++◌, ◌∙◌, ◌≡◌, ℕ}
use Rattle.std.specs.Prelude.{pos}
use Rattle.std.specs.Int.{to_le_bytes, w64}
use Rattle.slot_cell.specs.Header.{header_bytes}
use Rattle.store_key.specs.Anchor.{back_half, front_half}
use Rattle.store_key.specs.Key.{key_of}
use Rattle.store_key.proofs.KeyFacts.{key_is_bytes, key_is_long}
use Rattle.entry_cut.specs.Content.{Cut, image}
use Rattle.entry_cut.proofs.Images.{key_of_image}

-- an entry of this URL with no body
abbrev empty : List ℕ → Cut
empty url = record { slot = 0; url = url; body = []; version = 0; first = 0 }

-- a slot of it has the halves of the key in front
halves_first : (url : List ℕ) → take 16 (image (empty url) 0 (pos 0)) ≡ to_le_bytes w64 (front_half (key_of url)) ++ to_le_bytes w64 (back_half (key_of url))
unfolding header_bytes
halves_first url = refl

key_is : (url : List ℕ) → key_of url ≡ to_le_bytes w64 (front_half (key_of url)) ++ to_le_bytes w64 (back_half (key_of url))
key_is url = sym (key_of_image (empty url) 0 (pos 0) (key_is_bytes url) (key_is_long url)) ∙ halves_first url

pub one_key : (url other : List ℕ) → front_half (key_of url) ≡ front_half (key_of other) → back_half (key_of url) ≡ back_half (key_of other) → key_of url ≡ key_of other
one_key url other front back = key_is url ∙ (λ i. to_le_bytes w64 (front i) ++ to_le_bytes w64 (back i)) ∙ sym (key_is other)
