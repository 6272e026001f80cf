-- What is known of the entries that a rebuild keeps.
use Rattle.std.proofs.Common.{◌≡◌, ℕ, ◌+◌, ◌<◌, List, [], ◌∷◌, length, map, refl, ap, sym, ◌∙◌, subst}
use Rattle.std.specs.Prelude.{Contains, slice_index}
use Rattle.std.specs.List.Sorted.{IsStrictlyIncreasing}
use Rattle.std.proofs.Math.Nat.{mod-lt}
use Rattle.std.proofs.lemmas.List.Elements.{All-contains}
use Rattle.store_key.specs.Anchor.{anchor_of}
use Rattle.rebuild_model.specs.declared.found.Found.{Found}
use Rattle.rebuild_model.specs.declared.rebuilt.Rebuilt.{Rebuilt}
use Rattle.rebuild_model.specs.Image.{BelongsTo}
use Rattle.rebuild_model.specs.Entry.{Entry, found_of}
use Rattle.rebuild_model.specs.Rebuilt.{IsWinner, IsRebuilt}
use Rattle.rebuild_model.specs.Keeping.{IsKept}
use Rattle.rebuild_model.proofs.Whole.{some_entry, map_from}

-- the entry that a find tells of
entry_found : {slot : ℕ} {images : List (List ℕ)} {anchors : ℕ} {rebuilt : Rebuilt} → (r : IsRebuilt slot images anchors rebuilt) → (f : Found) → Contains rebuilt.winners f → (e : Entry) × Contains r.entries e × (f ≡ found_of e)
entry_found r f there = map_from found_of r.entries some_entry f (subst (λ l. Contains l f) r.told there)

pub find_is_kept : (slot : ℕ) (images : List (List ℕ)) (anchors : ℕ) (rebuilt : Rebuilt) → IsRebuilt slot images anchors rebuilt → (f : Found) → Contains rebuilt.winners f → IsKept slot images anchors (anchor_of f.key anchors) f
find_is_kept slot images anchors rebuilt r f there =
    let of = entry_found r f there in
    record { entry = of.0; winner = subst (λ g. IsWinner slot images anchors (anchor_of g.key anchors) of.0) (sym of.2) (r.won of.0 of.1); told = of.2 }

pub anchor_is_below : (slot : ℕ) (images : List (List ℕ)) (anchors : ℕ) (rebuilt : Rebuilt) → 0 < anchors → IsRebuilt slot images anchors rebuilt → (f : Found) → Contains rebuilt.winners f → anchor_of f.key anchors < anchors
anchor_is_below slot images anchors rebuilt some r f there = mod-lt _ some

-- what finds tell of anchors is what entries say
same_anchors : (anchors : ℕ) (entries : List Entry) → map (λ f. anchor_of f.key anchors) (map found_of entries) ≡ map (λ e. anchor_of e.key anchors) entries
same_anchors anchors [] = refl
same_anchors anchors (e ∷ entries) = ap (λ l. anchor_of e.key anchors ∷ l) (same_anchors anchors entries)

pub in_order : (slot : ℕ) (images : List (List ℕ)) (anchors : ℕ) (rebuilt : Rebuilt) → IsRebuilt slot images anchors rebuilt → IsStrictlyIncreasing (map (λ f. anchor_of f.key anchors) rebuilt.winners)
in_order slot images anchors rebuilt r = subst IsStrictlyIncreasing (sym (ap (map (λ f. anchor_of f.key anchors)) r.told ∙ same_anchors anchors r.entries)) r.ordered

pub slot_is_theirs : (slot : ℕ) (images : List (List ℕ)) (anchors : ℕ) (rebuilt : Rebuilt) → IsRebuilt slot images anchors rebuilt → (f : Found) (s : ℕ) → Contains rebuilt.winners f → Contains f.chain s
    → (s < length images) × (slice_index rebuilt.owner s ≡ anchor_of f.key anchors + 1)
slot_is_theirs slot images anchors rebuilt r f s there has =
    let of = entry_found r f there in
    let mine : Contains (of.0).chain s = subst (λ g. Contains g.chain s) of.2 has in
    let whole = (r.won of.0 of.1).complete in
    ((All-contains (BelongsTo slot images (of.0).first) (of.0).chain s whole.chain.belong mine).sane.within, r.owned of.0 s of.1 mine ∙ ap (λ g. anchor_of g.key anchors + 1) (sym of.2))
