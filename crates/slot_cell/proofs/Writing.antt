-- Bytes are written part by part.
use Rattle.std.proofs.Common.{◌≡◌, ℕ, List, ◌++◌, take, ap, ◌∙◌}

-- one more part stands behind those that were written
pub one_more : {part bytes front : List ℕ} (new old : List ℕ) (end at : ℕ) → take end new ≡ take at old ++ part → take at old ≡ front → part ≡ bytes → take end new ≡ front ++ bytes
one_more {part = part} {front = front} new old end at put before is = put ∙ ap (λ (f : List ℕ). f ++ part) before ∙ ap (λ (b : List ℕ). front ++ b) is
