-- Slots that hold what the file has, looked at from the front.
use Rattle.std.proofs.Common.{◌≡◌, ℕ, List, ◌∷◌, sym, subst, All}
use Rattle.std.specs.Prelude.{◌↔◌}
use Rattle.std.proofs.lemmas.List.Elements.{All-cons, All-rest}
use Rattle.named_rebuild.specs.declared.contents.FirstContent.{FirstContent}
use Rattle.named_rebuild.specs.declared.contents.FirstContent.TheVariants.{File}
use Rattle.named_rebuild.specs.Contents.{content_at}

pub files_on : (contents : List FirstContent) (left rest whole : List ℕ) (s : ℕ) → left ≡ s ∷ rest → content_at contents s ≡ File
    → All (λ x. content_at contents x ≡ File) left ↔ All (λ x. content_at contents x ≡ File) whole → All (λ x. content_at contents x ≡ File) rest ↔ All (λ x. content_at contents x ≡ File) whole
files_on contents left rest whole s is here both = (
  λ all. both.0 (subst (All (λ x. content_at contents x ≡ File)) (sym is) (All-cons (λ x. content_at contents x ≡ File) s rest here all)),
  λ all. All-rest (λ x. content_at contents x ≡ File) s rest left is (both.1 all),
)
