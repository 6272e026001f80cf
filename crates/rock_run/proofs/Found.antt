-- In a script that was read each line is found by its number, and is spelled by words of the grammar.
use Rattle.std.proofs.Common.{◌∙◌, ◌+◌, ◌==◌, ◌≡◌, ◌≤◌, Bool, Contains, List, [], ap, arith, cond, false, length, length-append, refl, subst, true, ◌++◌, ◌∷◌, ⊎_elim, ℕ}
use Rattle.std.specs.Prelude.{All, None, Some, find}
use Rattle.std.specs.Option.{option_or}
use Rattle.std.proofs.lemmas.Bool.{eq-eqb, ne_eqb}
use Rattle.std.proofs.lemmas.List.Elements.{All-head, All-nil, All-push, All-tail, All-weaker, Contains-push_cases}
use Rattle.std.proofs.lemmas.List.Folds.{find-append}
use Rattle.script_text.specs.Lines.{AreLines}
use Rattle.script_text.specs.Lines.AreLines.{no_line, one_more}
use Rattle.script_text.specs.Requests.{SpellsRequest}
use Rattle.script_text.specs.declared.line.Line.{Line}
use Rattle.script_text.specs.declared.request.Request.{Request}
use Rattle.script_text.specs.declared.verb.Verb.{Verb}

-- none is found where none passes
find_none : {X : Type 0} (p : X → Bool) (xs : List X) → All (λ x. p x ≡ false) xs → find p xs ≡ None
find_none p [] all = refl
find_none p (x ∷ xs) all = rw (All-head (λ y. p y ≡ false) x xs all) (find_none p xs (All-tail (λ y. p y ≡ false) x xs all))

-- no number is above that of the lines
numbered : {workers : ℕ} {texts : List (List ℕ)} {lines : List Line} → AreLines workers texts lines → All (λ line. line.number ≤ length lines) lines
numbered no_line = All-nil (λ line. line.number ≤ 0)
numbered (one_more {lines = lines} {line = line} before is) =
    let longer : length (lines ++ line ∷ []) ≡ length lines + 1 = length-append lines (line ∷ []) in
    let has = is.numbered in
    All-push (λ l. l.number ≤ length (lines ++ line ∷ [])) lines line
    (All-weaker (λ l. l.number ≤ length lines) (λ l. l.number ≤ length (lines ++ line ∷ [])) (λ l le. omega arith) lines (numbered before))
    (omega arith)

-- each line is the one of its number
pub found : {workers : ℕ} {texts : List (List ℕ)} {lines : List Line} → AreLines workers texts lines → (x : Line) → Contains lines x → find (λ l. l.number == x.number) lines ≡ Some x
found no_line x among = absurd (let lt = among.1 in omega arith)
found (one_more {lines = lines} {line = line} before is) x among =
    let P : Line → Bool = λ l. l.number == x.number in
    ⊎_elim
    (λ (old : Contains lines x). find-append P lines (line ∷ []) ∙ ap (λ o. option_or o (find P (line ∷ []))) (found before x old))
    (λ (same : line ≡ x).
    let number : line.number ≡ x.number = ap (λ (l : Line). l.number) same in
    let has = is.numbered in
    let none : find P lines ≡ None = find_none P lines
    (All-weaker (λ l. l.number ≤ length lines) (λ l. P l ≡ false) (λ l le. ne_eqb l.number x.number (λ e. omega arith)) lines (numbered before)) in
    let passes : P line ≡ true = eq-eqb line.number x.number number in
    find-append P lines (line ∷ [])
    ∙ (ap (λ o. option_or o (find P (line ∷ []))) none ∙ (ap (λ b. cond b (Some line) None) passes ∙ ap Some same)))
    (Contains-push_cases lines line x among)

-- a request is written by some name and words
pub record IsSpelled (request : Request) : Type 0 where
  pub name : Verb
  pub words : List (List ℕ)
  pub spells : SpellsRequest request name words

pub spelled : {workers : ℕ} {texts : List (List ℕ)} {lines : List Line} → AreLines workers texts lines → (x : Line) → Contains lines x → IsSpelled x.request
spelled no_line x among = absurd (let lt = among.1 in omega arith)
spelled (one_more {lines = lines} {line = line} before is) x among = ⊎_elim
    (λ (old : Contains lines x). spelled before x old)
    (λ (same : line ≡ x). subst (λ (l : Line). IsSpelled l.request) same record { name = is.name; words = is.fields; spells = is.request })
    (Contains-push_cases lines line x among)
