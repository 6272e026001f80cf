-- A command line is one command, with one reading.
use Rattle.std.proofs.Common.{◌≡◌, inl, inr, ℕ, ◌+◌, ◌%◌, ◌^◌, ◌<◌, List, [], ◌∷◌, length, length-append, get_or, map, true, ap, refl, sym}
use Rattle.std.proofs.Common.{◌∙◌, subst, arith, None, Some}
use Rattle.std.specs.Prelude.{Option, codes, decimal}
use Rattle.std.specs.Str.{bytes_eq}
use Rattle.std.proofs.lemmas.Slice.Eq.{bytes_eq-Decides}
use Rattle.std.proofs.lemmas.Fmt.{decimal_by_steps, decimal_injective}
use Rattle.rock_commands.specs.CommandLine.{FitsWord, IsList, IsCheck, IsCreate, IsMigrate, IsRun, IsBench, IsCommandLine, slot_word}

third : {a b c a' b' c' : List ℕ} → a ∷ b ∷ c ∷ [] ≡ a' ∷ b' ∷ c' ∷ [] → (b ≡ b') × (c ≡ c')
third e = (cc, cc)

fourth : {a b c d a' b' c' d' : List ℕ} → a ∷ b ∷ c ∷ d ∷ [] ≡ a' ∷ b' ∷ c' ∷ d' ∷ [] → (b ≡ b') × (c ≡ c') × (d ≡ d')
fourth e = (cc, cc, cc)

fifth : {a b c d e a' b' c' d' e' : List ℕ} → a ∷ b ∷ c ∷ d ∷ e ∷ [] ≡ a' ∷ b' ∷ c' ∷ d' ∷ e' ∷ []
    → (b ≡ b') × (c ≡ c') × (d ≡ d') × (e ≡ e')
fifth same = (cc, cc, cc, cc)

three_are_not_four : {A : Type 0} {a b c a' b' c' d' : A} → a ∷ b ∷ c ∷ [] ≡ a' ∷ b' ∷ c' ∷ d' ∷ [] → ⊥
three_are_not_four e = let counts = ap length e in omega (arith, counts)

three_are_not_five : {A : Type 0} {a b c a' b' c' d' e' : A} → a ∷ b ∷ c ∷ [] ≡ a' ∷ b' ∷ c' ∷ d' ∷ e' ∷ [] → ⊥
three_are_not_five e = let counts = ap length e in omega (arith, counts)

four_are_not_five : {A : Type 0} {a b c d a' b' c' d' e' : A} → a ∷ b ∷ c ∷ d ∷ [] ≡ a' ∷ b' ∷ c' ∷ d' ∷ e' ∷ [] → ⊥
four_are_not_five e = let counts = ap length e in omega (arith, counts)

-- a number is not spelled `-`
spelled_with_digits : (n : ℕ) → n < 2 ^ 64 → (0 < length (decimal n)) × (decimal n ≡ codes "-" → ⊥)
spelled_with_digits = decimal_by_steps (λ n text. (0 < length text) × (text ≡ codes "-" → ⊥))
    (λ n small. (omega arith, λ e. let digit : 48 + n ≡ 45 = cc in omega (arith, digit)))
    (λ n front large h. (
      omega (arith, length-append front ((48 + n % 10) ∷ [])),
      λ e. let long = ap length e in omega (arith, long, h.0, length-append front ((48 + n % 10) ∷ [])),
    ))

-- a slot size that is given, or none, is spelled in a way of its own
one_slot_word : (given other : Option ℕ) → FitsWord given → FitsWord other → slot_word given ≡ slot_word other → given ≡ other
one_slot_word None None fits too e = refl
one_slot_word None (Some n) fits too e = absurd ((spelled_with_digits n (omega (arith, too))).1 (sym e))
one_slot_word (Some n) None fits too e = absurd ((spelled_with_digits n (omega (arith, fits))).1 e)
one_slot_word (Some n) (Some m) fits too e = ap Some (decimal_injective n m (omega (arith, fits)) (omega (arith, too)) e)

-- what holds of the name and the slot size of one reading of the words holds of those of each
pub of_each : (words : List (List ℕ)) (P : List ℕ → Option ℕ → Type 0) {name : List ℕ} {given : Option ℕ} (name' : List ℕ)
    (given' : Option ℕ) → IsList words name given → IsList words name' given' → P name given → P name' given'
of_each words P {name = name} {given = given} name' given' p q holds =
    let parts = third (sym p.words_are ∙ q.words_are) in
    subst (λ s. P name' s) (one_slot_word given given' p.fits q.fits parts.1) (subst (λ n. P n given) parts.0 holds)

-- and of its anchors
pub of_each_check : (words : List (List ℕ)) (P : List ℕ → Option ℕ → ℕ → Type 0) {name : List ℕ} {given : Option ℕ} {anchors : ℕ}
    (name' : List ℕ) (given' : Option ℕ) (anchors' : ℕ) → IsCheck words name given anchors → IsCheck words name' given' anchors'
    → P name given anchors → P name' given' anchors'
of_each_check words P {name = name} {given = given} {anchors = anchors} name' given' anchors' p q holds =
    let parts = fourth (sym p.words_are ∙ q.words_are) in
    subst (λ a. P name' given' a) (decimal_injective anchors anchors' (omega (arith, p.anchors_fit)) (omega (arith, q.anchors_fit)) parts.2)
    (subst (λ s. P name' s anchors) (one_slot_word given given' p.fits q.fits parts.1) (subst (λ n. P n given anchors) parts.0 holds))

-- and of the slots of a file that is made
pub of_each_create : (words : List (List ℕ)) (P : List ℕ → ℕ → ℕ → Type 0) {name : List ℕ} {slot slots : ℕ} (name' : List ℕ)
    (slot' slots' : ℕ) → IsCreate words name slot slots → IsCreate words name' slot' slots'
    → P name slot slots → P name' slot' slots'
of_each_create words P {name = name} {slot = slot} {slots = slots} name' slot' slots' p q holds =
    let parts = fourth (sym p.words_are ∙ q.words_are) in
    subst (λ a. P name' slot' a) (decimal_injective slots slots' (omega (arith, p.slots_fit)) (omega (arith, q.slots_fit)) parts.2)
    (subst (λ s. P name' s slots) (decimal_injective slot slot' (omega (arith, p.fits)) (omega (arith, q.fits)) parts.1)
    (subst (λ n. P n slot slots) parts.0 holds))

-- and of its anchors and workers
pub of_each_run : (words : List (List ℕ)) (P : List ℕ → Option ℕ → ℕ → ℕ → Type 0) {name : List ℕ} {given : Option ℕ} {anchors workers : ℕ}
    (name' : List ℕ) (given' : Option ℕ) (anchors' workers' : ℕ) → IsRun words name given anchors workers
    → IsRun words name' given' anchors' workers'
    → P name given anchors workers → P name' given' anchors' workers'
of_each_run words P {name = name} {given = given} {anchors = anchors} {workers = workers} name' given' anchors' workers' p q holds =
    let parts = fifth (sym p.words_are ∙ q.words_are) in
    subst (λ w. P name' given' anchors' w) (decimal_injective workers workers' (omega (arith, p.workers_fit))
    (omega (arith, q.workers_fit)) parts.3)
    (subst (λ a. P name' given' a workers) (decimal_injective anchors anchors' (omega (arith, p.anchors_fit))
    (omega (arith, q.anchors_fit)) parts.2)
    (subst (λ s. P name' s anchors workers) (one_slot_word given given' p.fits q.fits parts.1)
    (subst (λ n. P n given anchors workers) parts.0 holds)))

-- and of its seed, workers and rounds
pub of_each_bench : (words : List (List ℕ)) (P : List ℕ → ℕ → ℕ → ℕ → Type 0) {name : List ℕ} {seed workers count : ℕ} (name' : List ℕ)
    (seed' workers' count' : ℕ) → IsBench words name seed workers count → IsBench words name' seed' workers' count'
    → P name seed workers count → P name' seed' workers' count'
of_each_bench words P {name = name} {seed = seed} {workers = workers} {count = count} name' seed' workers' count' p q holds =
    let parts = fifth (sym p.words_are ∙ q.words_are) in
    subst (λ k. P name' seed' workers' k) (decimal_injective count count' (omega (arith, p.count_fit)) (omega (arith, q.count_fit)) parts.3)
    (subst (λ w. P name' seed' w count) (decimal_injective workers workers' (omega (arith, p.workers_fit))
    (omega (arith, q.workers_fit)) parts.2)
    (subst (λ s. P name' s workers count) (decimal_injective seed seed' (omega (arith, p.fits)) (omega (arith, q.fits)) parts.1)
    (subst (λ n. P n seed workers count) parts.0 holds)))

-- and of the size of the slots of a file that is to record them
pub of_each_migrate : (words : List (List ℕ)) (P : List ℕ → ℕ → Type 0) {name : List ℕ} {slot : ℕ} (name' : List ℕ) (slot' : ℕ)
    → IsMigrate words name slot → IsMigrate words name' slot' → P name slot → P name' slot'
of_each_migrate words P {name = name} {slot = slot} name' slot' p q holds =
    let parts = third (sym p.words_are ∙ q.words_are) in
    subst (λ s. P name' s) (decimal_injective slot slot' (omega (arith, p.fits)) (omega (arith, q.fits)) parts.1)
    (subst (λ n. P n slot) parts.0 holds)

-- a line of one command is no line of another
pub list_is_no_run : {words : List (List ℕ)} {name name' : List ℕ} {given given' : Option ℕ} {anchors workers : ℕ} → IsList words name given
    → IsRun words name' given' anchors workers → ⊥
list_is_no_run l r = three_are_not_five (sym l.words_are ∙ r.words_are)

pub list_is_no_check : {words : List (List ℕ)} {name name' : List ℕ} {given given' : Option ℕ} {anchors : ℕ} → IsList words name given
    → IsCheck words name' given' anchors → ⊥
list_is_no_check l k = three_are_not_four (sym l.words_are ∙ k.words_are)

pub list_is_no_create : {words : List (List ℕ)} {name name' : List ℕ} {given : Option ℕ} {slot slots : ℕ} → IsList words name given
    → IsCreate words name' slot slots → ⊥
list_is_no_create l k = three_are_not_four (sym l.words_are ∙ k.words_are)

pub list_is_no_bench : {words : List (List ℕ)} {name name' : List ℕ} {given : Option ℕ} {seed workers count : ℕ} → IsList words name given
    → IsBench words name' seed workers count → ⊥
list_is_no_bench l b = three_are_not_five (sym l.words_are ∙ b.words_are)

one_first : {a b c a' b' c' : List ℕ} → a ∷ b ∷ c ∷ [] ≡ a' ∷ b' ∷ c' ∷ [] → a ≡ a'
one_first e = cc

pub list_is_no_migrate : {words : List (List ℕ)} {name name' : List ℕ} {given : Option ℕ} {slot : ℕ} → IsList words name given
    → IsMigrate words name' slot → ⊥
list_is_no_migrate l m = let first = ap length (one_first (sym l.words_are ∙ m.words_are)) in omega (arith, first)

pub migrate_is_no_check : {words : List (List ℕ)} {name name' : List ℕ} {given' : Option ℕ} {slot anchors : ℕ} → IsMigrate words name slot
    → IsCheck words name' given' anchors → ⊥
migrate_is_no_check m k = three_are_not_four (sym m.words_are ∙ k.words_are)

pub migrate_is_no_create : {words : List (List ℕ)} {name name' : List ℕ} {slot other slots : ℕ} → IsMigrate words name slot
    → IsCreate words name' other slots → ⊥
migrate_is_no_create m k = three_are_not_four (sym m.words_are ∙ k.words_are)

pub migrate_is_no_run : {words : List (List ℕ)} {name name' : List ℕ} {given' : Option ℕ} {slot anchors workers : ℕ}
    → IsMigrate words name slot → IsRun words name' given' anchors workers → ⊥
migrate_is_no_run m r = three_are_not_five (sym m.words_are ∙ r.words_are)

pub migrate_is_no_bench : {words : List (List ℕ)} {name name' : List ℕ} {slot seed workers count : ℕ} → IsMigrate words name slot
    → IsBench words name' seed workers count → ⊥
migrate_is_no_bench m b = three_are_not_five (sym m.words_are ∙ b.words_are)

pub check_is_no_run : {words : List (List ℕ)} {name name' : List ℕ} {given given' : Option ℕ} {count anchors workers : ℕ}
    → IsCheck words name given count → IsRun words name' given' anchors workers → ⊥
check_is_no_run k r = four_are_not_five (sym k.words_are ∙ r.words_are)

pub check_is_no_bench : {words : List (List ℕ)} {name name' : List ℕ} {given : Option ℕ} {anchors seed workers count : ℕ}
    → IsCheck words name given anchors → IsBench words name' seed workers count → ⊥
check_is_no_bench k b = four_are_not_five (sym k.words_are ∙ b.words_are)

first_of_four : {a b c d a' b' c' d' : List ℕ} → a ∷ b ∷ c ∷ d ∷ [] ≡ a' ∷ b' ∷ c' ∷ d' ∷ [] → a ≡ a'
first_of_four e = cc

pub check_is_no_create : {words : List (List ℕ)} {name name' : List ℕ} {given : Option ℕ} {anchors slot slots : ℕ}
    → IsCheck words name given anchors → IsCreate words name' slot slots → ⊥
check_is_no_create k m = let first = ap length (first_of_four (sym k.words_are ∙ m.words_are)) in omega (arith, first)

pub create_is_no_run : {words : List (List ℕ)} {name name' : List ℕ} {given' : Option ℕ} {slot count anchors workers : ℕ}
    → IsCreate words name slot count → IsRun words name' given' anchors workers → ⊥
create_is_no_run k r = four_are_not_five (sym k.words_are ∙ r.words_are)

pub create_is_no_bench : {words : List (List ℕ)} {name name' : List ℕ} {slot slots seed workers count : ℕ} → IsCreate words name slot slots
    → IsBench words name' seed workers count → ⊥
create_is_no_bench k b = four_are_not_five (sym k.words_are ∙ b.words_are)

first_of_five : {a b c d e a' b' c' d' e' : List ℕ} → a ∷ b ∷ c ∷ d ∷ e ∷ [] ≡ a' ∷ b' ∷ c' ∷ d' ∷ e' ∷ [] → a ≡ a'
first_of_five same = cc

pub run_is_no_bench : {words : List (List ℕ)} {name name' : List ℕ} {given : Option ℕ} {anchors workers seed others count : ℕ}
    → IsRun words name given anchors workers → IsBench words name' seed others count → ⊥
run_is_no_bench r b = let first = ap length (first_of_five (sym r.words_are ∙ b.words_are)) in omega (arith, first)

-- a list of three is its elements
pub three : {A : Type 0} (xs : List A) (a b c : A) → length xs ≡ 3 → a ≡ get_or xs 0 a → b ≡ get_or xs 1 b → c ≡ get_or xs 2 c
    → xs ≡ a ∷ b ∷ c ∷ []
three [] a b c long p q r = absurd (omega arith)
three (x ∷ []) a b c long p q r = absurd (omega arith)
three (x ∷ y ∷ []) a b c long p q r = absurd (omega arith)
three (x ∷ y ∷ z ∷ []) a b c long p q r = cc
three (x ∷ y ∷ z ∷ w ∷ xs) a b c long p q r = absurd (omega arith)

-- and one of four
pub four : {A : Type 0} (xs : List A) (a b c d : A) → length xs ≡ 4 → a ≡ get_or xs 0 a → b ≡ get_or xs 1 b → c ≡ get_or xs 2 c
    → d ≡ get_or xs 3 d → xs ≡ a ∷ b ∷ c ∷ d ∷ []
four [] a b c d long p q r s = absurd (omega arith)
four (x ∷ []) a b c d long p q r s = absurd (omega arith)
four (x ∷ y ∷ []) a b c d long p q r s = absurd (omega arith)
four (x ∷ y ∷ z ∷ []) a b c d long p q r s = absurd (omega arith)
four (x ∷ y ∷ z ∷ w ∷ []) a b c d long p q r s = cc
four (x ∷ y ∷ z ∷ w ∷ v ∷ xs) a b c d long p q r s = absurd (omega arith)

-- and one of five
pub five : {A : Type 0} (xs : List A) (a b c d e : A) → length xs ≡ 5 → a ≡ get_or xs 0 a → b ≡ get_or xs 1 b → c ≡ get_or xs 2 c
    → d ≡ get_or xs 3 d → e ≡ get_or xs 4 e → xs ≡ a ∷ b ∷ c ∷ d ∷ e ∷ []
five [] a b c d e long p q r s t = absurd (omega arith)
five (x ∷ []) a b c d e long p q r s t = absurd (omega arith)
five (x ∷ y ∷ []) a b c d e long p q r s t = absurd (omega arith)
five (x ∷ y ∷ z ∷ []) a b c d e long p q r s t = absurd (omega arith)
five (x ∷ y ∷ z ∷ w ∷ []) a b c d e long p q r s t = absurd (omega arith)
five (x ∷ y ∷ z ∷ w ∷ v ∷ []) a b c d e long p q r s t = cc
five (x ∷ y ∷ z ∷ w ∷ v ∷ u ∷ xs) a b c d e long p q r s t = absurd (omega arith)

-- three words, by what is seen of each
pub three_words : {A : Type 0} (view : A → List ℕ) (xs : List A) (a b c : A) (words : List (List ℕ)) (first second last : List ℕ)
    → map view xs ≡ words → length xs ≡ 3
    → a ≡ get_or xs 0 a → b ≡ get_or xs 1 b → c ≡ get_or xs 2 c → view a ≡ first → view b ≡ second → view c ≡ last
    → words ≡ first ∷ second ∷ last ∷ []
three_words view xs a b c words first second last seen long p q r one two end = sym seen ∙ ap (map view) (three xs a b c long p q r)
    ∙ cc (one, two, end)

-- and four
pub four_words : {A : Type 0} (view : A → List ℕ) (xs : List A) (a b c d : A) (words : List (List ℕ)) (first second next last : List ℕ)
    → map view xs ≡ words → length xs ≡ 4
    → a ≡ get_or xs 0 a → b ≡ get_or xs 1 b → c ≡ get_or xs 2 c → d ≡ get_or xs 3 d → view a ≡ first → view b ≡ second → view c ≡ next
    → view d ≡ last → words ≡ first ∷ second ∷ next ∷ last ∷ []
four_words view xs a b c d words first second next last seen long p q r s one two three end = sym seen
    ∙ ap (map view) (four xs a b c d long p q r s) ∙ cc (one, two, three, end)

-- and five
pub five_words : {A : Type 0} (view : A → List ℕ) (xs : List A) (a b c d e : A) (words : List (List ℕ))
    (first second next then last : List ℕ) → map view xs ≡ words → length xs ≡ 5
    → a ≡ get_or xs 0 a → b ≡ get_or xs 1 b → c ≡ get_or xs 2 c → d ≡ get_or xs 3 d → e ≡ get_or xs 4 e
    → view a ≡ first → view b ≡ second → view c ≡ next → view d ≡ then → view e ≡ last → words ≡ first ∷ second ∷ next ∷ then ∷ last ∷ []
five_words view xs a b c d e words first second next then last seen long p q r s t one two three four end = sym seen
    ∙ ap (map view) (five xs a b c d e long p q r s t) ∙ cc (one, two, three, four, end)

-- four words are no command line where the last is no number
pub no_number : (words : List (List ℕ)) (first second next last : List ℕ) → words ≡ first ∷ second ∷ next ∷ last ∷ []
    → ((count : ℕ) → count < 2 ^ 32 → last ≡ decimal count → ⊥) → IsCommandLine words → ⊥
no_number words first second next last are not (inl l) = three_are_not_four (sym l.2.words_are ∙ are)
no_number words first second next last are not (inr (inl k)) =
    let parts = fourth (sym are ∙ k.3.words_are) in
    not k.2 k.3.anchors_fit parts.2
no_number words first second next last are not (inr (inr (inl k))) =
    let parts = fourth (sym are ∙ k.3.words_are) in
    not k.2 k.3.slots_fit parts.2
no_number words first second next last are not (inr (inr (inr (inl r)))) = four_are_not_five (sym are ∙ r.4.words_are)
no_number words first second next last are not (inr (inr (inr (inr (inl b))))) = four_are_not_five (sym are ∙ b.4.words_are)
no_number words first second next last are not (inr (inr (inr (inr (inr m))))) = three_are_not_four (sym m.2.words_are ∙ are)

-- nor are five where the last two are no numbers
pub no_two_numbers : (words : List (List ℕ)) (first second next then last : List ℕ) → words ≡ first ∷ second ∷ next ∷ then ∷ last ∷ []
    → ((a b : ℕ) → a < 2 ^ 32 → b < 2 ^ 32 → then ≡ decimal a → last ≡ decimal b → ⊥) → IsCommandLine words → ⊥
no_two_numbers words first second next then last are not (inl l) = three_are_not_five (sym l.2.words_are ∙ are)
no_two_numbers words first second next then last are not (inr (inl k)) = four_are_not_five (sym k.3.words_are ∙ are)
no_two_numbers words first second next then last are not (inr (inr (inl k))) = four_are_not_five (sym k.3.words_are ∙ are)
no_two_numbers words first second next then last are not (inr (inr (inr (inl r)))) =
    let parts = fifth (sym are ∙ r.4.words_are) in
    not r.2 r.3 r.4.anchors_fit r.4.workers_fit parts.2 parts.3
no_two_numbers words first second next then last are not (inr (inr (inr (inr (inr m))))) = three_are_not_five (sym m.2.words_are ∙ are)
no_two_numbers words first second next then last are not (inr (inr (inr (inr (inl b))))) =
    let parts = fifth (sym are ∙ b.4.words_are) in
    not b.2 b.3 b.4.workers_fit b.4.count_fit parts.2 parts.3

pub found_equal : (a b : List ℕ) → true ≡ bytes_eq a b → a ≡ b
found_equal a b e = (bytes_eq-Decides a b).0 (sym e)
