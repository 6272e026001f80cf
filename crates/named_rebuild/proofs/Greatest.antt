-- The greatest version that a slot shows, sought from the front.
use Rattle.std.proofs.Common.{◌≡◌, inl, inr, ℕ, ◌+◌, ◌<◌, ◌≤◌, List, length, sym, ap, ◌∙◌, subst, arith}
use Rattle.std.specs.Prelude.{max}
use Rattle.rebuild_model.specs.declared.image.FileImage.{FileImage}
use Rattle.rebuild_model.proofs.Winners.{nearer}
use Rattle.named_rebuild.specs.declared.contents.FirstContent.{FirstContent}
use Rattle.std.proofs.lemmas.Bool.{cases_lt}
use Rattle.core_model.specs.declared.view.LoggedPiece.{LoggedPiece}
use Rattle.named_rebuild.specs.Keeping.{IsGreatestShown, ShowsVersion}
use Rattle.named_rebuild.proofs.Facts.{not_both}
use Rattle.named_rebuild.proofs.Walking.{same_piece}

pub record GreatestBefore (file : FileImage) (contents : List FirstContent) (bound greatest : ℕ) : Type 0 where
  pub above : (s version : ℕ) → s < bound → ShowsVersion file contents s version → version ≤ greatest
  pub there : 0 < greatest → (s : ℕ) × (s < bound) × ShowsVersion file contents s greatest
  pub within : bound ≤ length contents

pub of_all : (file : FileImage) (contents : List FirstContent) (bound greatest : ℕ) → GreatestBefore file contents bound greatest → length contents ≤ bound → IsGreatestShown file contents greatest
of_all file contents bound greatest g all = record {
  above = λ s version low h. g.above s version (omega (arith, all, low)) h;
  there = λ some. let q = g.there some in (q.0, omega (arith, q.1, g.within), q.2);
}

-- a slot shows one version at most
one_version : (file : FileImage) (contents : List FirstContent) (s v w : ℕ) → ShowsVersion file contents s v → ShowsVersion file contents s w → v ≡ w
one_version file contents s v w (inl p) (inl q) = p.2 ∙ sym q.2
one_version file contents s v w (inl p) (inr q) = absurd (not_both contents s q.piece p.0 q.there)
one_version file contents s v w (inr p) (inl q) = absurd (not_both contents s p.piece q.0 p.there)
one_version file contents s v w (inr p) (inr q) = p.version_is ∙ ap (λ (l : LoggedPiece). l.piece.version) (same_piece contents s p.piece q.piece p.there q.there) ∙ sym q.version_is

pub shown_on : (file : FileImage) (contents : List FirstContent) (bound greatest version grown : ℕ) → GreatestBefore file contents bound greatest → bound < length contents → ShowsVersion file contents bound version
    → grown ≡ max greatest version → GreatestBefore file contents (bound + 1) grown
shown_on file contents bound greatest version grown g lt shows is = record {
  above = λ s v low h. elim (nearer s bound low) as (λ _. v ≤ grown) [
    | inl less ↦ let z = g.above s v less h in omega (arith, z, is)
    | inr here ↦ let z = one_version file contents bound v version (subst (λ (x : ℕ). ShowsVersion file contents x v) here h) shows in omega (arith, z, is)
  ];
  there = λ some. elim (cases_lt greatest version) as (λ _. (s : ℕ) × (s < bound + 1) × ShowsVersion file contents s grown) [
    | inl less ↦ (bound, omega arith, subst (ShowsVersion file contents bound) (let z : version ≡ grown = omega (arith, less, is) in z) shows)
    | inr more ↦ let same : greatest ≡ grown = omega (arith, more, is) in let q = g.there (omega (arith, some, same)) in (q.0, omega (arith, q.1), subst (ShowsVersion file contents q.0) same q.2)
  ];
  within = omega arith;
}

pub none_on : (file : FileImage) (contents : List FirstContent) (bound greatest grown : ℕ) → GreatestBefore file contents bound greatest → bound < length contents → ((version : ℕ) → ShowsVersion file contents bound version → ⊥)
    → grown ≡ greatest → GreatestBefore file contents (bound + 1) grown
none_on file contents bound greatest grown g lt none is = subst (GreatestBefore file contents (bound + 1)) (sym is) record {
  above = λ s v low h. elim (nearer s bound low) as (λ _. v ≤ greatest) [
    | inl less ↦ g.above s v less h
    | inr here ↦ absurd (none v (subst (λ (x : ℕ). ShowsVersion file contents x v) here h))
  ];
  there = λ some. let q = g.there some in (q.0, omega (arith, q.1), q.2);
  within = omega arith;
}
