-- A line has one reading.
use Rattle.std.proofs.Common.{◌≡◌, ◌==◌, ℕ, ◌<◌, ◌^◌, false, List, [], ◌∷◌, ◌++◌, codes, decimal, ap, sym, ◌∙◌, arith, append_assoc}
use Rattle.std.proofs.lemmas.List.Elements.{All-append}
use Rattle.script_text.specs.declared.answer.Answer.{Answer}
use Rattle.answer_text.specs.Lines.{answer_words, spaced, line_of, line_with}
use Rattle.answer_text.specs.Ranges.{IsAnswer}
use Rattle.answer_text.proofs.Dark.{number_dark}
use Rattle.answer_text.proofs.Cutting.{Lacks, pieces, AreDark, unbroken, spaced_unbroken, two_cuts, words_cut}
use Rattle.answer_text.proofs.Reading.{number_of, number_back}
use Rattle.answer_text.proofs.Names.{answer_from, answer_back, answer_dark}

-- a line without its line feed
abbrev body : (worker number : ℕ) → List (List ℕ) → List ℕ
body worker number words = decimal worker ++ spaced (decimal number ∷ words)

line_joined : (worker number : ℕ) (words : List (List ℕ)) (rest : List ℕ) → line_with worker number words ++ rest ≡ body worker number words ++ 10 ∷ rest
line_joined worker number words rest =
    let first = decimal worker in
    let second = decimal number in
    let more = spaced words in
    append_assoc (first ++ codes " " ++ second ++ more) (codes "\n") rest
    ∙ ap (λ t. t ++ 10 ∷ rest) (ap (λ t. t ++ more) (append_assoc first (codes " ") second) ∙ append_assoc first (codes " " ++ second) more)

number_there : (n : ℕ) → n < 2 ^ 32 → number_of (decimal n) ≡ n
number_there n fits = number_back n (omega arith)

words_dark : (number : ℕ) (a : Answer) → number < 2 ^ 32 → IsAnswer a → AreDark (decimal number ∷ answer_words a)
words_dark number a fits is = (number_dark number (omega arith), answer_dark a is)

body_unbroken : (worker number : ℕ) (a : Answer) → worker < 2 ^ 32 → number < 2 ^ 32 → IsAnswer a → Lacks 10 (body worker number (answer_words a))
body_unbroken worker number a few fits is =
    All-append (λ b. (b == 10) ≡ false) (decimal worker) (spaced (decimal number ∷ answer_words a)) (unbroken (decimal worker) (number_dark worker (omega arith))) (spaced_unbroken (decimal number ∷ answer_words a) (words_dark number a fits is))

body_pieces : (worker number : ℕ) (a : Answer) → worker < 2 ^ 32 → number < 2 ^ 32 → IsAnswer a → pieces 32 (body worker number (answer_words a)) ≡ decimal worker ∷ decimal number ∷ answer_words a
body_pieces worker number a few fits is = words_cut (decimal number ∷ answer_words a) (decimal worker) (number_dark worker (omega arith)) (words_dark number a fits is)

same_number : (n m : ℕ) → n < 2 ^ 32 → m < 2 ^ 32 → decimal n ≡ decimal m → n ≡ m
same_number n m few fits same = sym (number_there n few) ∙ ap number_of same ∙ number_there m fits

same_answer : (a b : Answer) → IsAnswer a → IsAnswer b → answer_words a ≡ answer_words b → a ≡ b
same_answer a b is too same = sym (answer_back a is) ∙ ap answer_from same ∙ answer_back b too

pub same_line : (worker number other another : ℕ) (answer found : Answer) (rest others : List ℕ) → worker < 2 ^ 32 → number < 2 ^ 32 → other < 2 ^ 32 → another < 2 ^ 32 → IsAnswer answer → IsAnswer found
    → line_of worker number answer ++ rest ≡ line_of other another found ++ others → (worker ≡ other) × (number ≡ another) × (answer ≡ found) × (rest ≡ others)
same_line worker number other another answer found rest others few fits low small is too same =
    let words = answer_words answer in
    let words' = answer_words found in
    let joined : body worker number words ++ 10 ∷ rest ≡ body other another words' ++ 10 ∷ others = sym (line_joined worker number words rest) ∙ same ∙ line_joined other another words' others in
    let (bodies, behind) = two_cuts 10 (body worker number words) (body other another words') rest others (body_unbroken worker number answer few fits is) (body_unbroken other another found low small too) joined in
    let cut : decimal worker ∷ decimal number ∷ words ≡ decimal other ∷ decimal another ∷ words' = sym (body_pieces worker number answer few fits is) ∙ ap (pieces 32) bodies ∙ body_pieces other another found low small too in
    let first : decimal worker ≡ decimal other = cc in
    let second : decimal number ≡ decimal another = cc in
    let third : words ≡ words' = cc in
    (same_number worker other few low first, same_number number another fits small second, same_answer answer found is too third, behind)

pub same_answer_line : (worker number : ℕ) (answer found : Answer) → worker < 2 ^ 32 → number < 2 ^ 32 → IsAnswer answer → IsAnswer found → line_of worker number answer ≡ line_of worker number found → answer ≡ found
same_answer_line worker number answer found few fits is too same =
    (same_line worker number worker number answer found [] [] few fits few fits is too (ap (λ t. t ++ []) same)).2
