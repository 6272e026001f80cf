-- What a rebuild keeps, put together.
use Rattle.std.proofs.Common.{◌≡◌, inl, inr, ℕ, ◌+◌, ◌<◌, List, [], length, map, get_or, ap, sym, ◌∙◌, subst, arith}
use Rattle.std.specs.Prelude.{Contains, slice_index}
use Rattle.std.proofs.Math.Nat.{mod-lt}
use Rattle.std.proofs.Math.ListN.{get_or-eq_default}
use Rattle.std.proofs.lemmas.Bool.{cases_lt}
use Rattle.std.proofs.lemmas.List.{length-map, get_or-map, get_or_default}
use Rattle.std.proofs.lemmas.List.Elements.{All-contains}
use Rattle.store_key.specs.Anchor.{anchor_of}
use Rattle.rebuild_model.specs.declared.found.Found.{Found}
use Rattle.rebuild_model.specs.declared.rebuilt.Rebuilt.{Rebuilt}
use Rattle.rebuild_model.specs.Image.{BelongsTo, IsGreatest}
use Rattle.rebuild_model.specs.Entry.{Entry, IsComplete, found_of}
use Rattle.rebuild_model.specs.Rebuilt.{IsRebuilt}
use Rattle.rebuild_model.specs.Keeping.{AreWinners, AreOwners}
use Rattle.rebuild_model.proofs.Chains.{same_first}

-- one entry begins at a slot
abbrev pub One : Type 0
One = (slot : ℕ) (images : List (List ℕ)) (e f : Entry) → IsComplete slot images e → IsComplete slot images f → e.first ≡ f.first → e ≡ f

map_there : {X Y : Type 0} (f : X → Y) (xs : List X) (x : X) → Contains xs x → Contains (map f xs) (f x)
map_there f xs x there = (there.0, omega (arith, there.1, length-map xs f), get_or-map f xs there.0 x (f x) there.1 ∙ ap f there.2)

pub map_from : {X Y : Type 0} (f : X → Y) (xs : List X) (d : X) (y : Y) → Contains (map f xs) y → (x : X) × Contains xs x × (y ≡ f x)
map_from f xs d y there =
    let inside : there.0 < length xs = omega (arith, there.1, length-map xs f) in
    (get_or xs there.0 d, (there.0, inside, get_or_default xs there.0 (get_or xs there.0 d) d inside), sym there.2 ∙ get_or-map f xs there.0 d y inside)

-- any entry
pub some_entry : Entry
some_entry = record { first = 0; version = 0; key = []; url = []; chain = []; body = [] }

-- the entry that a slot is said to be of
owner_is : (slot : ℕ) (images : List (List ℕ)) (anchors : ℕ) (winners : List Found) → (w : AreWinners slot images anchors anchors winners) → (s : ℕ) (f : Found) → Contains winners f → Contains f.chain s
    → (e : Entry) × Contains w.entries e × Contains e.chain s × (f ≡ found_of e)
owner_is slot images anchors winners w s f there has =
    let from = map_from found_of w.entries some_entry f (subst (λ l. Contains l f) w.told there) in
    (from.0, from.1, subst (λ u. Contains u.chain s) from.2 has, from.2)

pub rebuilt : One → (slot : ℕ) (images : List (List ℕ)) (anchors : ℕ) (r : Rebuilt) → 0 < anchors → AreWinners slot images anchors anchors r.winners → length r.owner ≡ length images → AreOwners anchors r.winners r.owner
    → IsGreatest slot images r.greatest → IsRebuilt slot images anchors r
rebuilt one slot images anchors r some w count owners greatest = record {
  entries = w.entries;
  told = w.told;
  won = w.won;
  ordered = w.ordered;
  every = λ e c. w.every e c (mod-lt _ some);
  one_a_slot = count;
  owned = λ e s there has.
      let c : IsComplete slot images e = (w.won e there).complete in
      let within : s < length r.owner = omega (arith, count, (All-contains (BelongsTo slot images e.first) e.chain s c.chain.belong has).sane.within) in
      elim (owners s within) as (λ _. slice_index r.owner s ≡ anchor_of e.key anchors + 1) [
        | inl o ↦
            let g = owner_is slot images anchors r.winners w s o.0 o.1 o.2 in
            let d : IsComplete slot images g.0 = (w.won g.0 g.1).complete in
            let same : g.0 ≡ e = one slot images g.0 e d c (same_first slot images g.0.first e.first g.0.chain e.chain s d.chain c.chain g.2 has) in
            o.3 ∙ ap (λ u. anchor_of u.key anchors + 1) g.3 ∙ ap (λ u. anchor_of u.key anchors + 1) same
        | inr none ↦ absurd (none.0 (found_of e) (subst (λ l. Contains l (found_of e)) (sym w.told) (map_there found_of w.entries e there)) has)
      ];
  free = λ s none. elim (cases_lt s (length r.owner)) as (λ _. slice_index r.owner s ≡ 0) [
    | inl within ↦ elim (owners s within) as (λ _. slice_index r.owner s ≡ 0) [
      | inl o ↦ let g = owner_is slot images anchors r.winners w s o.0 o.1 o.2 in absurd (none g.0 g.1 g.2)
      | inr free ↦ free.1
    ]
    | inr outside ↦ get_or-eq_default r.owner 0 outside
  ];
  greatest = greatest;
}
