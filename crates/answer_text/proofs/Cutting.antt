-- Texts are cut where they were joined.
use Rattle.std.proofs.Common.{◌≡◌, ◌==◌, ℕ, ◌<◌, true, false, List, [], ◌∷◌, ◌++◌, All, refl, ap, sym, ◌∙◌, arith, codes}
use Rattle.std.specs.List.{slice_split}
use Rattle.std.proofs.lemmas.Bool.Decides.{nat_tests}
use Rattle.std.proofs.lemmas.List.{append-nil, append_cancel_left}
use Rattle.std.proofs.lemmas.List.Elements.{All-nil, All-cons, All-append, All-weaker}
use Rattle.std.proofs.lemmas.List.Splits.{slice_split_none, slice_split_at}
use Rattle.answer_text.specs.Lines.{spaced}
use Rattle.answer_text.proofs.Dark.{IsDark}

-- no byte of the text is this one
abbrev pub Lacks : ℕ → List ℕ → Type 0
Lacks c text = All (λ b. (b == c) ≡ false) text

abbrev pub pieces : ℕ → List ℕ → List (List ℕ)
pieces c text = slice_split (λ b. b == c) text

same_byte : (c : ℕ) → (c == c) ≡ true
same_byte c = grind (arith, nat_tests)

pub cut_at : (c : ℕ) (text rest : List ℕ) → Lacks c text → pieces c (text ++ c ∷ rest) ≡ text ∷ pieces c rest
cut_at c text rest lacks = slice_split_at (λ b. b == c) text c rest lacks (same_byte c)

pub not_cut : (c : ℕ) (text : List ℕ) → Lacks c text → pieces c text ≡ text ∷ []
not_cut c text lacks = slice_split_none (λ b. b == c) text lacks

-- two texts without a byte that go on with it
pub two_cuts : (c : ℕ) (text other rest others : List ℕ) → Lacks c text → Lacks c other → text ++ c ∷ rest ≡ other ++ c ∷ others → (text ≡ other) × (rest ≡ others)
two_cuts c text other rest others lacks too same =
    let cut : text ∷ pieces c rest ≡ other ∷ pieces c others = sym (cut_at c text rest lacks) ∙ ap (pieces c) same ∙ cut_at c other others too in
    let front : text ≡ other = cc in
    let joined : text ++ c ∷ rest ≡ text ++ c ∷ others = same ∙ ap (λ t. t ++ c ∷ others) (sym front) in
    let behind : c ∷ rest ≡ c ∷ others = append_cancel_left text (c ∷ rest) (c ∷ others) joined in
    (front, cc)

abbrev pub AreDark : List (List ℕ) → Type 0
AreDark [] = Unit {0}
AreDark (word ∷ words) = IsDark word × AreDark words

unspaced_byte : (b : ℕ) → 32 < b → (b == 32) ≡ false
unspaced_byte b dark = grind (arith, nat_tests)

unbroken_byte : (b : ℕ) → 32 < b → (b == 10) ≡ false
unbroken_byte b dark = grind (arith, nat_tests)

pub unspaced : (word : List ℕ) → IsDark word → Lacks 32 word
unspaced word dark = All-weaker (λ b. 32 < b) (λ b. (b == 32) ≡ false) unspaced_byte word dark

pub unbroken : (word : List ℕ) → IsDark word → Lacks 10 word
unbroken word dark = All-weaker (λ b. 32 < b) (λ b. (b == 10) ≡ false) unbroken_byte word dark

space_unbroken : Lacks 10 (codes " ")
space_unbroken = All-cons (λ b. (b == 10) ≡ false) 32 [] refl (All-nil (λ b. (b == 10) ≡ false))

-- words behind spaces have no line feed
pub spaced_unbroken : (words : List (List ℕ)) → AreDark words → Lacks 10 (spaced words)
spaced_unbroken [] dark = All-nil (λ b. (b == 10) ≡ false)
spaced_unbroken (word ∷ words) dark =
    All-append (λ b. (b == 10) ≡ false) (codes " " ++ word) (spaced words) (All-append (λ b. (b == 10) ≡ false) (codes " ") word space_unbroken (unbroken word dark.0)) (spaced_unbroken words dark.1)

-- and are the pieces between spaces
pub words_cut : (words : List (List ℕ)) (word : List ℕ) → IsDark word → AreDark words → pieces 32 (word ++ spaced words) ≡ word ∷ words
words_cut [] word dark are = ap (pieces 32) (append-nil word) ∙ not_cut 32 word (unspaced word dark)
words_cut (next ∷ words) word dark are = cut_at 32 word (next ++ spaced words) (unspaced word dark) ∙ ap (λ ws. word ∷ ws) (words_cut words next are.0 are.1)
