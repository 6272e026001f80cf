-- What a rebuild keeps of a file may be opened.
use Rattle.std.proofs.Common.{◌≡◌, ℕ, ◌<◌, List, ◌∷◌, [], length, map, sym, refl, ap, subst, Contains}
use Rattle.std.specs.List.Sorted.{IsStrictlyIncreasing}
use Rattle.std.proofs.lemmas.List.Elements.{All-contains}
use Rattle.store_key.specs.Anchor.{anchor_of}
use Rattle.rebuild_model.specs.Image.{BelongsTo}
use Rattle.rebuild_model.specs.Entry.{Entry, found_of}
use Rattle.rebuild_model.specs.Rebuilt.{IsRebuilt}
use Rattle.rebuild_model.specs.declared.found.Found.{Found}
use Rattle.rebuild_model.specs.declared.rebuilt.Rebuilt.{Rebuilt}
use Rattle.core_model.proofs.SlotsOpened.{contains_map, map_contains}
use Rattle.core_table.proofs.Winners.{chain_once, has_owner, version_from, version_to, greatest_to}
use Rattle.core_openings.specs.KeptSo.{IsKeptSo}

map_map : {X Y Z : Type 0} (f : X → Y) (g : Y → Z) (xs : List X) → map g (map f xs) ≡ map (λ x. g (f x)) xs
map_map f g [] = refl
map_map f g (x ∷ xs) = ap (λ zs. g (f x) ∷ zs) (map_map f g xs)

module _ (slot : ℕ) (images : List (List ℕ)) (anchors : ℕ) (r : Rebuilt) (b : IsRebuilt slot images anchors r) where
  abbrev place : Found → ℕ
  place f = anchor_of f.key anchors

  entry_is : (f : Found) → Contains r.winners f → (e : Entry) × Contains b.entries e × (found_of e ≡ f)
  entry_is f h = contains_map found_of b.entries f (subst (λ (fs : List Found). Contains fs f) b.told h)

  abbrev Begins : Found → Type 0
  Begins f = (behind : List ℕ) × (f.chain ≡ f.first ∷ behind)

  begins : (f : Found) → Contains r.winners f → Begins f
  begins f h = let q = entry_is f h in let c = (b.won q.0 q.1).complete.chain in subst Begins q.2 (c.behind, c.begins)

  within : (f : Found) → Contains r.winners f → (s : ℕ) → Contains f.chain s → s < length images
  within f h = let q = entry_is f h in subst (λ (g : Found). (s : ℕ) → Contains g.chain s → s < length images) q.2
      (λ s has. (All-contains (BelongsTo slot images q.0.first) q.0.chain s (b.won q.0 q.1).complete.chain.belong has).sane.within)

  pub kept_so : IsKeptSo anchors (length images) r
  kept_so = record {
    begins = begins;
    once = chain_once slot anchors images r b;
    within = within;
    ordered = subst (λ (fs : List Found). IsStrictlyIncreasing (map place fs)) (sym b.told) (subst IsStrictlyIncreasing (sym (map_map found_of place b.entries)) b.ordered);
    one_a_slot = b.one_a_slot;
    owned = λ f s h has. has_owner slot anchors images r b f h s has;
    free = λ s none. b.free s (λ e kept has. none (found_of e) (subst (λ (fs : List Found). Contains fs (found_of e)) (sym b.told) (map_contains found_of b.entries e kept)) has);
    some_version = version_from slot anchors images r b;
    versions = version_to slot anchors images r b;
    limited = greatest_to slot anchors images r b;
  }
