-- The best of all complete entries are what is kept.
use Rattle.std.proofs.Common.{◌≡◌, ◌⊎◌, ℕ, ◌<◌, ◌≤◌, List, [], ◌∷◌, length, map, get_or, refl, ap, sym, ◌∙◌, subst, arith}
use Rattle.std.specs.Prelude.{Option, None, Some, MatchOption, Contains}
use Rattle.std.proofs.lemmas.List.{length-map, get_or-map, get_or_default}
use Rattle.store_key.specs.Anchor.{anchor_of}
use Rattle.rebuild_model.specs.declared.found.Found.{Found}
use Rattle.rebuild_model.specs.Entry.{Entry, found_of}
use Rattle.rebuild_model.specs.Keeping.{HasNoneAt, IsKept}
use Rattle.rock_rebuild.specs.declared.outcome.Scan.{Scan}
use Rattle.rock_rebuild.specs.Scan.{IsScan}
use Rattle.rock_rebuild.specs.Best.{BestOf, AreBest, found_at}
use Rattle.rock_rebuild.specs.Winners.{AreKept}

-- any entry
pub some_entry : Entry
some_entry = record { first = 0; version = 0; key = []; url = []; chain = []; body = [] }

pub map_there : {X Y : Type 0} (f : X → Y) (xs : List X) (x : X) → Contains xs x → Contains (map f xs) (f x)
map_there f xs x there = (there.0, omega (arith, there.1, length-map xs f), get_or-map f xs there.0 x (f x) there.1 ∙ ap f there.2)

pub map_from : {X Y : Type 0} (f : X → Y) (xs : List X) (d : X) (y : Y) → Contains (map f xs) y → (x : X) × Contains xs x × (y ≡ f x)
map_from f xs d y there =
    let inside : there.0 < length xs = omega (arith, there.1, length-map xs f) in
    (get_or xs there.0 d, (there.0, inside, get_or_default xs there.0 (get_or xs there.0 d) d inside), sym there.2 ∙ get_or-map f xs there.0 d y inside)

pub firsts_of : (entries : List Entry) → map (λ f. f.first) (map found_of entries) ≡ map (λ e. e.first) entries
firsts_of [] = refl
firsts_of (e ∷ entries) = ap (λ l. e.first ∷ l) (firsts_of entries)

pub kept_at : (slot : ℕ) (images : List (List ℕ)) (anchors anchor : ℕ) (scan : Scan) (best : Option Found) → IsScan slot images scan → BestOf anchors anchor scan.found best
    → MatchOption best (HasNoneAt slot images anchors anchor) (IsKept slot images anchors anchor)
kept_at slot images anchors anchor scan None s none = λ e c at. none (found_of e) (subst (λ l. Contains l (found_of e)) (sym s.told) (map_there found_of s.entries e (s.every e c))) at
kept_at slot images anchors anchor scan (Some b) s is =
    let from = map_from found_of s.entries some_entry b (subst (λ l. Contains l b) s.told is.among) in
    let e : Entry = from.0 in
    let told : b ≡ found_of e = from.2 in
    record {
      entry = e;
      winner = record {
        complete = s.complete e from.1;
        at = subst (λ f. anchor_of f.key anchors ≡ anchor) told is.at;
        best = λ f c at. subst (λ g. (f.version < g.version) ⊎ ((f.version ≡ g.version) × (g.first ≤ f.first))) told
            (is.best (found_of f) (subst (λ l. Contains l (found_of f)) (sym s.told) (map_there found_of s.entries f (s.every f c))) at);
      };
      told = told;
    }

-- the best of all complete entries are what is kept
pub are_kept : (slot : ℕ) (images : List (List ℕ)) (anchors : ℕ) (scan : Scan) (best : List (Option ℕ)) → IsScan slot images scan → AreBest anchors scan.found 0 best → AreKept slot images anchors scan.found best
are_kept slot images anchors scan best s are = record {
  count = are.count;
  each = λ anchor inside. kept_at slot images anchors anchor scan (found_at scan.found (get_or best anchor None)) s (are.each anchor inside);
}
