-- The search for an entry goes on by one.
use Rattle.std.proofs.Common.{◌≡◌, ℕ, ◌+◌, List, [], ◌∷◌, ◌++◌, ap, ◌∙◌, Bool, true, false, cond, refl, sym, arith}
use Rattle.std.specs.Prelude.{◌==◌, Option, Some, None, map}
use Rattle.std.specs.List.{range_with_len}
use Rattle.std.proofs.lemmas.List.FromFn.{map-range_with_len_more}
use Rattle.store_key.specs.Anchor.{anchor_of}
use Rattle.plain_model.specs.declared.kept.Kept.{Kept}
use Rattle.plain_model.specs.declared.entry.Place.{Place}
use Rattle.plain_model.specs.Opening.{kept_at, place_kept}

pub kept_next : (anchors anchor : ℕ) (k : Kept) (rest kept : List Kept) (b : Bool) → kept ≡ k ∷ rest → (anchor_of k.key anchors == anchor) ≡ b
    → kept_at anchors kept anchor ≡ cond b (Some k) (kept_at anchors rest anchor)
kept_next anchors anchor k rest kept b is t = ap (λ ks. kept_at anchors ks anchor) is ∙ ap (λ c. cond c (Some k) (kept_at anchors rest anchor)) t

-- one place more
pub places_grow : (anchors : ℕ) (kept : List Kept) (i : ℕ) (old new : List Place) (x : Place) → old ≡ map (λ anchor. place_kept (kept_at anchors kept anchor)) (range_with_len 0 i)
    → new ≡ old ++ x ∷ [] → x ≡ place_kept (kept_at anchors kept i) → new ≡ map (λ anchor. place_kept (kept_at anchors kept anchor)) (range_with_len 0 (i + 1))
places_grow anchors kept i old new x is grown here =
    grown ∙ ap (λ xs. xs ++ x ∷ []) is ∙ ap (λ y. map (λ anchor. place_kept (kept_at anchors kept anchor)) (range_with_len 0 i) ++ y ∷ []) here
    ∙ sym (map-range_with_len_more (λ anchor. place_kept (kept_at anchors kept anchor)) 0 i i (omega arith))
