-- The best entry at an anchor, sought from the first slot on.
use Rattle.std.proofs.Common.{◌≡◌, ◌⊎◌, inl, inr, ℕ, ◌+◌, ◌<◌, ◌≤◌, List, length, ap, sym, ◌∙◌, arith}
use Rattle.std.specs.Prelude.{Option, None, Some, MatchOption}
use Rattle.std.proofs.lemmas.Bool.{cases_lt}
use Rattle.store_key.specs.Anchor.{anchor_of}
use Rattle.rebuild_model.specs.declared.found.Found.{Found}
use Rattle.rebuild_model.specs.declared.image.FileImage.{FileImage}
use Rattle.rebuild_model.proofs.Winners.{nearer}
use Rattle.named_rebuild.specs.declared.contents.FirstContent.{FirstContent}
use Rattle.named_rebuild.specs.Entries.{IsFoundAt, IsNamedEntry}
use Rattle.named_rebuild.specs.Keeping.{BestBefore, HasNoneAt, IsBestAt, IsBestBefore}
use Rattle.named_rebuild.proofs.Facts.{first_within, same}

module _ (file : FileImage) (contents : List FirstContent) (anchors anchor first : ℕ) where
  abbrev IsBetter : Found → Found → Type 0
  IsBetter g f = (g.version < f.version) ⊎ ((g.version ≡ f.version) × (f.first ≤ g.first))

  -- nothing new stands at the anchor
  pub keep : (best : Option Found) → BestBefore file contents anchors anchor first best
      → ((f : Found) → IsNamedEntry file contents f → anchor_of f.key anchors ≡ anchor → f.first ≡ first → ⊥) → BestBefore file contents anchors anchor (first + 1) best
  keep None none new = λ f q at below. elim (nearer f.first first below) as (λ _. ⊥) [ inl less ↦ none f q at less | inr here ↦ new f q at here ]
  keep (Some b) is new = record {
    entry = is.entry;
    at = is.at;
    before = omega (arith, is.before);
    best = λ g q at below. elim (nearer g.first first below) as (λ _. IsBetter g b) [ inl less ↦ is.best g q at less | inr here ↦ absurd (new g q at here) ];
  }

  -- an entry that begins there is of the anchor of the one that was found
  pub one_anchor : (f : Found) → IsFoundAt file contents first f → (g : Found) → IsNamedEntry file contents g → g.first ≡ first → anchor_of f.key anchors ≡ anchor_of g.key anchors
  one_anchor f is g q here = ap (λ (key : List ℕ). anchor_of key anchors) (same file contents f g is.entry q (is.begins ∙ sym here)).0

  -- what was found is better than all before
  pub take_new : (f : Found) → IsFoundAt file contents first f → anchor_of f.key anchors ≡ anchor
      → ((g : Found) → IsNamedEntry file contents g → anchor_of g.key anchors ≡ anchor → g.first < first → g.version < f.version) → IsBestBefore file contents anchors anchor (first + 1) f
  take_new f is at better = record {
    entry = is.entry;
    at = at;
    before = omega (arith, is.begins);
    best = λ g q there below. elim (nearer g.first first below) as (λ _. IsBetter g f) [
      | inl less ↦ inl (better g q there less)
      | inr here ↦ inr ((same file contents g f q is.entry (here ∙ sym is.begins)).1, omega (arith, here, is.begins))
    ];
  }

  -- the best is better than all others, and what is better still is better than those
  pub above : (b : Found) (version : ℕ) → IsBestBefore file contents anchors anchor first b → b.version < version
      → (g : Found) → IsNamedEntry file contents g → anchor_of g.key anchors ≡ anchor → g.first < first → g.version < version
  above b version best less g q at before = elim (best.best g q at before) as (λ _. g.version < version) [
    | inl lower ↦ omega (arith, less, lower)
    | inr here ↦ omega (arith, less, here.0)
  ]

  -- or not better than the best
  pub stay : (b f : Found) → IsBestBefore file contents anchors anchor first b → IsFoundAt file contents first f → (b.version < f.version → ⊥) → IsBestBefore file contents anchors anchor (first + 1) b
  stay b f best is not = record {
    entry = best.entry;
    at = best.at;
    before = omega (arith, best.before);
    best = λ g q there below. elim (nearer g.first first below) as (λ _. IsBetter g b) [
      | inl less ↦ best.best g q there less
      | inr here ↦
          let version : g.version ≡ f.version = (same file contents g f q is.entry (here ∙ sym is.begins)).1 in
          elim (cases_lt g.version b.version) as (λ _. IsBetter g b) [
            | inl less ↦ inl less
            | inr more ↦ inr (grind (arith, version, not, more), omega (arith, here, best.before))
          ]
    ];
  }

-- at the end it is what is kept
pub at_end : (file : FileImage) (contents : List FirstContent) (anchors anchor bound : ℕ) (best : Option Found) → length contents ≡ length file.slots → BestBefore file contents anchors anchor bound best → length contents ≤ bound
    → MatchOption best (HasNoneAt file contents anchors anchor) (IsBestAt file contents anchors anchor)
at_end file contents anchors anchor bound None many none all = λ f q at. none f q at (omega (arith, all, first_within file contents many f q))
at_end file contents anchors anchor bound (Some b) many is all = record {
  entry = is.entry;
  at = is.at;
  best = λ g q at. is.best g q at (omega (arith, all, first_within file contents many g q));
}
