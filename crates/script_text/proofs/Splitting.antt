-- How a text is cut into lines.
use Rattle.std.proofs.Common.{◌≡◌, ◌≢◌, ℕ, ◌<◌, false, List, [], ◌∷◌, ◌++◌, length, arith, inl, inr, refl, ap, sym, ◌∙◌, zero, suc, append_assoc}
use Rattle.std.specs.Prelude.{◌==◌}
use Rattle.std.specs.List.{slice_split}
use Rattle.std.proofs.lemmas.Bool.{cases_eq}
use Rattle.std.proofs.lemmas.Bool.Decides.{nat_tests}
use Rattle.std.proofs.lemmas.List.{append-nil}
use Rattle.std.proofs.lemmas.List.Elements.{All-append}
use Rattle.std.proofs.lemmas.List.Splits.{slice_split_none, slice_split_at, length-slice_split}
use Rattle.script_text.specs.Words.{lines_of, without_empty_end}
use Rattle.script_text.specs.Reading.{IsUnbroken}

pub lines_nil : lines_of [] ≡ []
unfolding lines_of
lines_nil = refl

kept_end : (line : List ℕ) → line ≢ [] → without_empty_end (line ∷ []) ≡ line ∷ []
kept_end [] some = absurd (some refl)
kept_end (x ∷ xs) some = grind (arith, nat_tests)

-- the last line lacks its line feed
pub lines_last : (line : List ℕ) → IsUnbroken line → line ≢ [] → lines_of line ≡ line ∷ []
unfolding lines_of
lines_last line whole some = ap without_empty_end (slice_split_none (λ b. b == 10) line whole) ∙ kept_end line some

front_kept : (line : List ℕ) (pieces : List (List ℕ)) → 0 < length pieces → without_empty_end (line ∷ pieces) ≡ line ∷ without_empty_end pieces
front_kept line [] some = absurd (omega arith)
front_kept line (piece ∷ pieces) some = refl

-- a line ends at its line feed
pub lines_cut : (line rest : List ℕ) → IsUnbroken line → lines_of (line ++ 10 ∷ rest) ≡ line ∷ lines_of rest
unfolding lines_of
lines_cut line rest whole =
    ap without_empty_end (slice_split_at (λ b. b == 10) line 10 rest whole refl)
    ∙ front_kept line (slice_split (λ b. b == 10) rest) (omega (arith, length-slice_split (λ b. b == 10) rest))

no_feed : (byte : ℕ) → byte ≢ 10 → (byte == 10) ≡ false
no_feed byte plain = grind (arith, nat_tests)

alone : (byte : ℕ) → byte ≢ 10 → IsUnbroken (byte ∷ [])
alone byte plain zero d within = no_feed byte plain
alone byte plain (suc k) d within = absurd (omega arith)

-- one byte more of a line
unbroken_more : (line : List ℕ) (byte : ℕ) → byte ≢ 10 → IsUnbroken line → IsUnbroken (line ++ byte ∷ [])
unbroken_more line byte plain whole = All-append (λ b. (b == 10) ≡ false) line (byte ∷ []) whole (alone byte plain)

not_empty : (line : List ℕ) (byte : ℕ) → line ++ byte ∷ [] ≢ []
not_empty [] byte is = cc
not_empty (x ∷ xs) byte is = cc

pub has_bytes : (line part : List ℕ) → 0 < length part → line ++ part ≢ []
has_bytes [] [] some is = absurd (omega arith)
has_bytes [] (x ∷ xs) some is = cc
has_bytes (y ∷ ys) part some is = cc

-- a line that was begun goes on in the first line of what follows
pub first_line : (rest line : List ℕ) → IsUnbroken line → line ≢ [] → (more : List ℕ) × (behind : List (List ℕ)) × (lines_of (line ++ rest) ≡ (line ++ more) ∷ behind)
first_line [] line whole some = ([], [], ap lines_of (append-nil line) ∙ lines_last line whole some ∙ ap (λ l. l ∷ []) (sym (append-nil line)))
first_line (b ∷ rest) line whole some = elim (cases_eq b 10) as (λ _. (more : List ℕ) × (behind : List (List ℕ)) × (lines_of (line ++ b ∷ rest) ≡ (line ++ more) ∷ behind)) [
  | inl feed ↦ ([], lines_of rest, ap (λ c. lines_of (line ++ c ∷ rest)) feed ∙ lines_cut line rest whole ∙ ap (λ l. l ∷ lines_of rest) (sym (append-nil line)))
  | inr plain ↦
      let (more, behind, is) = first_line rest (line ++ b ∷ []) (unbroken_more line b plain whole) (not_empty line b) in
      (b ∷ more, behind, ap lines_of (sym (append_assoc line (b ∷ []) rest)) ∙ is ∙ ap (λ l. l ∷ behind) (append_assoc line (b ∷ []) more))
]
