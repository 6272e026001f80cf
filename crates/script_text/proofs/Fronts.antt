-- What was read of a text, as it grows, and bad lines in it.
use Rattle.std.proofs.Common.{◌≡◌, ◌≢◌, ℕ, ◌+◌, ◌<◌, false, List, [], ◌∷◌, ◌++◌, length, arith, inl, inr, refl, ap, sym, ◌∙◌, subst, append_assoc}
use Rattle.std.specs.Prelude.{◌==◌}
use Rattle.std.proofs.lemmas.List.{append-nil, length-append}
use Rattle.std.proofs.lemmas.List.Elements.{All-append}
use Rattle.script_text.specs.Words.{lines_of}
use Rattle.script_text.specs.Lines.{IsLine, AreLines}
use Rattle.script_text.specs.Lines.AreLines.{no_line, one_more}
use Rattle.script_text.specs.Causes.{HasCause, IsFirst}
use Rattle.script_text.specs.Reading.{lines_read, IsFront, IsTooLong, IsUnbroken}
use Rattle.script_text.specs.Script.{IsScript, IsBadScript}
use Rattle.script_text.specs.declared.line.Line.{Line}
use Rattle.script_text.specs.declared.reading.Reading.{Reading}
use Rattle.script_text.proofs.Firsts.{limits_first}
use Rattle.script_text.proofs.Splitting.{lines_nil, lines_last, lines_cut, first_line, has_bytes}

-- there are as many texts as lines
pub as_many : {workers : ℕ} {texts : List (List ℕ)} {lines : List Line} → AreLines workers texts lines → length texts ≡ length lines
as_many no_line = refl
as_many (one_more {texts = before} {lines = good} {text = text} {line = line} are is) =
    length-append before (text ∷ []) ∙ ap (λ n. n + 1) (as_many are) ∙ sym (length-append good (line ∷ []))

-- a line ends
pub front_ended : (old new : Reading) (front : List ℕ) (line : Line) → IsFront old front → IsUnbroken old.begun.items
    → IsLine old.workers (lines_read old) old.begun.items line → lines_read new ≡ lines_read old ++ line ∷ [] → new.workers ≡ old.workers → new.begun.items ≡ []
    → IsFront new (front ++ 10 ∷ [])
front_ended old new front line was whole is lines workers begun = record {
  texts = was.texts ++ old.begun.items ∷ [];
  lines = subst (λ (w : ℕ). AreLines w (was.texts ++ old.begun.items ∷ []) (lines_read new)) (sym workers) (subst (λ (l : List Line). AreLines old.workers (was.texts ++ old.begun.items ∷ []) l) (sym lines) (one_more was.lines is));
  cut = λ rest. ap lines_of (append_assoc front (10 ∷ []) rest) ∙ was.cut (10 ∷ rest) ∙ ap (λ l. was.texts ++ l) (lines_cut old.begun.items rest whole)
      ∙ sym (append_assoc was.texts (old.begun.items ∷ []) (lines_of rest)) ∙ ap (λ b. (was.texts ++ old.begun.items ∷ []) ++ lines_of (b ++ rest)) (sym begun);
}

-- a line goes on
pub front_grown : (old new : Reading) (front part : List ℕ) → IsFront old front → lines_read new ≡ lines_read old → new.workers ≡ old.workers
    → new.begun.items ≡ old.begun.items ++ part → IsFront new (front ++ part)
front_grown old new front part was lines workers begun = record {
  texts = was.texts;
  lines = subst (λ (w : ℕ). AreLines w was.texts (lines_read new)) (sym workers) (subst (λ (l : List Line). AreLines old.workers was.texts l) (sym lines) was.lines);
  cut = λ rest. ap lines_of (append_assoc front part rest) ∙ was.cut (part ++ rest)
      ∙ ap (λ l. was.texts ++ lines_of l) (sym (append_assoc old.begun.items part rest)) ∙ ap (λ b. was.texts ++ lines_of (b ++ rest)) (sym begun);
}

-- the line that ends is bad
pub bad_ended : (old : Reading) (front rest : List ℕ) (cause : ℕ) → IsFront old front → IsUnbroken old.begun.items
    → IsFirst (HasCause old.workers (lines_read old) old.begun.items) cause → IsBadScript old.workers (front ++ 10 ∷ rest) (length (lines_read old) + 1) cause
bad_ended old front rest cause was whole first = record {
  texts = was.texts;
  lines = lines_read old;
  bad = old.begun.items;
  behind = lines_of rest;
  cut = was.cut (10 ∷ rest) ∙ ap (λ l. was.texts ++ l) (lines_cut old.begun.items rest whole);
  good = was.lines;
  numbered = ap (λ n. n + 1) (sym (as_many was.lines));
  first = first;
}

past_limits : (old : Reading) (part tail : List ℕ) → IsTooLong old part → IsFirst (HasCause old.workers (lines_read old) ((old.begun.items ++ part) ++ tail)) 1
past_limits old part tail past =
    limits_first old.workers (lines_read old) _ (elim past [ inl many ↦ inl many | inr long ↦ inr (omega (arith, length-append {A = ℕ})) ])

-- the line that goes on is past its limits
pub bad_long : (old : Reading) (front part rest : List ℕ) → IsFront old front → IsUnbroken old.begun.items → IsUnbroken part → 0 < length part → IsTooLong old part
    → IsBadScript old.workers (front ++ (part ++ rest)) (length (lines_read old) + 1) 1
bad_long old front part rest was whole plain some past =
    let line = old.begun.items ++ part in
    let (tail, behind, is) = first_line rest line (All-append (λ b. (b == 10) ≡ false) old.begun.items part whole plain) (has_bytes old.begun.items part some) in
    record {
      texts = was.texts;
      lines = lines_read old;
      bad = line ++ tail;
      behind = behind;
      cut = was.cut (part ++ rest) ∙ ap (λ l. was.texts ++ lines_of l) (sym (append_assoc old.begun.items part rest)) ∙ ap (λ l. was.texts ++ l) is;
      good = was.lines;
      numbered = ap (λ n. n + 1) (sym (as_many was.lines));
      first = past_limits old part tail past;
    }

-- the line that ends is past its limits
pub bad_fed : (old : Reading) (front part rest : List ℕ) → IsFront old front → IsUnbroken old.begun.items → IsUnbroken part → IsTooLong old part
    → IsBadScript old.workers (front ++ (part ++ 10 ∷ rest)) (length (lines_read old) + 1) 1
bad_fed old front part rest was whole plain past =
    let line = old.begun.items ++ part in
    record {
      texts = was.texts;
      lines = lines_read old;
      bad = line;
      behind = lines_of rest;
      cut = was.cut (part ++ 10 ∷ rest) ∙ ap (λ l. was.texts ++ lines_of l) (sym (append_assoc old.begun.items part (10 ∷ rest)))
          ∙ ap (λ l. was.texts ++ l) (lines_cut line rest (All-append (λ b. (b == 10) ≡ false) old.begun.items part whole plain));
      good = was.lines;
      numbered = ap (λ n. n + 1) (sym (as_many was.lines));
      first = subst (λ text. IsFirst (HasCause old.workers (lines_read old) text) 1) (append-nil line) (past_limits old part [] past);
    }

-- the text ends in a line that was begun
pub bad_last : (old : Reading) (front : List ℕ) (cause : ℕ) → IsFront old front → IsUnbroken old.begun.items → old.begun.items ≢ []
    → IsFirst (HasCause old.workers (lines_read old) old.begun.items) cause → IsBadScript old.workers front (length (lines_read old) + 1) cause
bad_last old front cause was whole some first = record {
  texts = was.texts;
  lines = lines_read old;
  bad = old.begun.items;
  behind = [];
  cut = ap lines_of (sym (append-nil front)) ∙ was.cut [] ∙ ap (λ l. was.texts ++ lines_of l) (append-nil old.begun.items) ∙ ap (λ l. was.texts ++ l) (lines_last old.begun.items whole some);
  good = was.lines;
  numbered = ap (λ n. n + 1) (sym (as_many was.lines));
  first = first;
}

-- the text ends behind a line
pub whole_script : (old : Reading) (front : List ℕ) → IsFront old front → old.begun.items ≡ [] → IsScript old.workers front (lines_read old)
whole_script old front was none_begun =
    let cut : lines_of front ≡ was.texts =
    ap lines_of (sym (append-nil front)) ∙ was.cut [] ∙ ap (λ b. was.texts ++ lines_of (b ++ [])) none_begun ∙ ap (λ l. was.texts ++ l) lines_nil ∙ append-nil was.texts in
    subst (λ (texts : List (List ℕ)). AreLines old.workers texts (lines_read old)) (sym cut) was.lines

-- the text ends in a good line
pub last_script : (old : Reading) (front : List ℕ) (line : Line) → IsFront old front → IsUnbroken old.begun.items → old.begun.items ≢ []
    → IsLine old.workers (lines_read old) old.begun.items line → IsScript old.workers front (lines_read old ++ line ∷ [])
last_script old front line was whole some is =
    let cut : lines_of front ≡ was.texts ++ old.begun.items ∷ [] =
    ap lines_of (sym (append-nil front)) ∙ was.cut [] ∙ ap (λ l. was.texts ++ lines_of l) (append-nil old.begun.items) ∙ ap (λ l. was.texts ++ l) (lines_last old.begun.items whole some) in
    subst (λ (texts : List (List ℕ)). AreLines old.workers texts (lines_read old ++ line ∷ [])) (sym cut) (one_more was.lines is)
