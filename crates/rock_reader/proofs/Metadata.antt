-- Metadata at the front of a payload: their length, and their one URL.
use Rattle.std.proofs.Common.{Bool, List, [], arith, false, length, not, refl, take, true, ◌==◌, ◌≡◌, ◌≢◌, ◌≤◌, ◌∷◌, ℕ}
use Rattle.std.proofs.lemmas.Bool.{eqb-true, false≢true}
use Rattle.std.proofs.lemmas.List.{length-take}
use Rattle.std.specs.List.{flat_map}
use Rattle.std.specs.Cmp.Lexicographic.{other_text}
use Rattle.std.specs.Str.{bytes_eq}
use Rattle.swap_meta.specs.Meta.{Spells, item_bytes, whole_length}
use Rattle.swap_meta.proofs.OneFrame.{framed_length}
use Rattle.swap_meta.proofs.OneOutcome.{spelled_once}
use Rattle.rock_reader.specs.Bodies.{HasUrl}

within : (bytes : List ℕ) (n : ℕ) → length (take n bytes) ≡ n → n ≤ length bytes
within bytes n e = let l = length-take n bytes in omega arith

-- they say how long they are
pub spelled_length : (bytes key url : List ℕ) (n : ℕ) → Spells (take n bytes) key url n → whole_length bytes ≡ n
spelled_length bytes key url n s = (framed_length bytes (flat_map item_bytes s.items) n record { within = within bytes n s.size; fits = s.fits; spelled = s.spelled }).0

-- and there is one URL
pub one_url : (bytes url other : List ℕ) → HasUrl bytes url → HasUrl bytes other → url ≡ other
one_url bytes url other a b = (spelled_once bytes a.key url b.key other a.size b.size a.spelled b.spelled).1

pub no_bytes : (xs : List ℕ) → (length xs == 0) ≡ true → xs ≡ []
no_bytes [] e = refl
no_bytes (x ∷ xs) e = absurd (let h = eqb-true (length (x ∷ xs)) 0 e in omega arith)

pub not_same : (xs ys : List ℕ) → not (bytes_eq xs ys) ≡ true → xs ≢ ys
not_same xs ys e = other_text xs ys (is_false (bytes_eq xs ys) e)
  where
    is_false : (b : Bool) → not b ≡ true → false ≡ b
    is_false true h = absurd (false≢true h)
    is_false false h = refl
