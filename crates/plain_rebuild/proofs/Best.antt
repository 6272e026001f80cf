-- The best entry at an anchor, sought from the first slot on.
use Rattle.std.proofs.Common.{◌≡◌, ◌⊎◌, inl, inr, ℕ, ◌+◌, ◌<◌, ◌≤◌, List, length, ap, sym, ◌∙◌, subst, arith}
use Rattle.std.specs.Prelude.{Option, None, Some, MatchOption}
use Rattle.std.proofs.lemmas.Bool.{cases_lt}
use Rattle.store_key.specs.Anchor.{anchor_of}
use Rattle.rebuild_model.specs.declared.found.Found.{Found}
use Rattle.rebuild_model.specs.Entry.{Entry, IsComplete, found_of}
use Rattle.rebuild_model.specs.Plain.{IsFound}
use Rattle.rebuild_model.specs.Keeping.{HasNoneAt, IsKept, IsBest, BestBefore}
use Rattle.rebuild_model.proofs.Chains.{first_belongs}
use Rattle.rebuild_model.proofs.Whole.{One}
use Rattle.rebuild_model.proofs.Winners.{nearer}

-- nothing new stands at the anchor
pub keep : (slot : ℕ) (images : List (List ℕ)) (anchors anchor first : ℕ) (best : Option Found) → BestBefore slot images anchors anchor first best
    → ((e : Entry) → IsComplete slot images e → anchor_of e.key anchors ≡ anchor → e.first ≡ first → ⊥) → BestBefore slot images anchors anchor (first + 1) best
keep slot images anchors anchor first None none new = λ e c at below. elim (nearer e.first first below) as (λ _. ⊥) [ inl less ↦ none e c at less | inr same ↦ new e c at same ]
keep slot images anchors anchor first (Some b) is new = record {
  entry = is.entry;
  complete = is.complete;
  at = is.at;
  before = omega (arith, is.before);
  best = λ f c at below. elim (nearer f.first first below) as (λ _. (f.version < is.entry.version) ⊎ ((f.version ≡ is.entry.version) × (is.entry.first ≤ f.first))) [ inl less ↦ is.best f c at less | inr same ↦ absurd (new f c at same) ];
  told = is.told;
}

-- an entry that begins there is the one that was found
pub same_found : One → (slot : ℕ) (images : List (List ℕ)) (first : ℕ) (f : Found) → IsFound slot images first f → (e : Entry) → IsComplete slot images e → e.first ≡ first → f ≡ found_of e
same_found one slot images first f is e c same = is.told ∙ ap found_of (one slot images is.entry e is.complete c (is.begins ∙ sym same))

-- what was found is better than all before
pub take_new : One → (slot : ℕ) (images : List (List ℕ)) (anchors anchor first : ℕ) (f : Found) → IsFound slot images first f → anchor_of f.key anchors ≡ anchor
    → ((g : Entry) → IsComplete slot images g → anchor_of g.key anchors ≡ anchor → g.first < first → g.version < f.version) → IsBest slot images anchors anchor (first + 1) f
take_new one slot images anchors anchor first f is at better =
    let version : f.version ≡ is.entry.version = ap (λ u. u.version) is.told in
    record {
      entry = is.entry;
      complete = is.complete;
      at = subst (λ k. anchor_of k anchors ≡ anchor) (ap (λ u. u.key) is.told) at;
      before = omega (arith, is.begins);
      best = λ g c there below. elim (nearer g.first first below) as (λ _. (g.version < is.entry.version) ⊎ ((g.version ≡ is.entry.version) × (is.entry.first ≤ g.first))) [
        | inl less ↦ inl (subst (λ v. g.version < v) version (better g c there less))
        | inr same ↦ inr (ap (λ e. e.version) (one slot images g is.entry c is.complete (same ∙ sym is.begins)), omega (arith, same, is.begins))
      ];
      told = is.told;
    }

-- the best is better than all others, and what is better still is better than those
pub above : (slot : ℕ) (images : List (List ℕ)) (anchors anchor first : ℕ) (b : Found) (version : ℕ) → IsBest slot images anchors anchor first b → b.version < version
    → (g : Entry) → IsComplete slot images g → anchor_of g.key anchors ≡ anchor → g.first < first → g.version < version
above slot images anchors anchor first b version best less g c at before =
    let old : b.version ≡ best.entry.version = ap (λ u. u.version) best.told in
    elim (best.best g c at before) as (λ _. g.version < version) [
      | inl lower ↦ omega (arith, old, less, lower)
      | inr same ↦ omega (arith, old, less, same.0)
    ]

-- or not better than the best
pub stay : One → (slot : ℕ) (images : List (List ℕ)) (anchors anchor first : ℕ) (b f : Found) → IsBest slot images anchors anchor first b → IsFound slot images first f
    → (b.version < f.version → ⊥) → IsBest slot images anchors anchor (first + 1) b
stay one slot images anchors anchor first b f best is not =
    let old : b.version ≡ best.entry.version = ap (λ u. u.version) best.told in
    let new : f.version ≡ is.entry.version = ap (λ u. u.version) is.told in
    record {
      entry = best.entry;
      complete = best.complete;
      at = best.at;
      before = omega (arith, best.before);
      best = λ g c there below. elim (nearer g.first first below) as (λ _. (g.version < best.entry.version) ⊎ ((g.version ≡ best.entry.version) × (best.entry.first ≤ g.first))) [
        | inl less ↦ best.best g c there less
        | inr same ↦
            let version : g.version ≡ is.entry.version = ap (λ e. e.version) (one slot images g is.entry c is.complete (same ∙ sym is.begins)) in
            elim (cases_lt g.version best.entry.version) as (λ _. (g.version < best.entry.version) ⊎ ((g.version ≡ best.entry.version) × (best.entry.first ≤ g.first))) [
              | inl less ↦ inl less
              | inr more ↦ inr (grind (arith, old, new, version, not, more), omega (arith, same, best.before))
            ]
      ];
      told = best.told;
    }

-- at the end it is what is kept
pub at_end : (slot : ℕ) (images : List (List ℕ)) (anchors anchor bound : ℕ) (best : Option Found) → BestBefore slot images anchors anchor bound best → length images ≤ bound
    → MatchOption best (HasNoneAt slot images anchors anchor) (λ f. IsKept slot images anchors anchor f)
at_end slot images anchors anchor bound None none all = λ e c at. none e c at (omega (arith, all, (first_belongs slot images e.first e.chain c.chain).sane.within))
at_end slot images anchors anchor bound (Some b) is all = record {
  entry = is.entry;
  winner = record {
    complete = is.complete;
    at = is.at;
    best = λ f c at. is.best f c at (omega (arith, all, (first_belongs slot images f.first f.chain c.chain).sane.within));
  };
  told = is.told;
}
