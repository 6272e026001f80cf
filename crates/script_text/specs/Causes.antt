-- What is wrong with a line, by the number of the cause.
use Rattle.std.specs.Prelude.{◌≡◌, ◌≢◌, ◌⊎◌, ℕ, ◌+◌, ◌<◌, ◌≤◌, List, [], ◌∷◌, length, All, decimal}
use Rattle.script_text.specs.Words.{words_of, IsPrintable}
use Rattle.script_text.specs.Fields.{Kind, HasBad, Offers, body_size}
use Rattle.script_text.specs.Fields.Kind.{TabWord, UrlWord, BodyWord, CountWord, MarkWord}
use Rattle.script_text.specs.Requests.{name_of, kinds_of}
use Rattle.script_text.specs.Lines.{total_of, IsMarked}
use Rattle.script_text.specs.declared.body.Body.{Body}
use Rattle.script_text.specs.declared.line.Line.{Line}
use Rattle.script_text.specs.declared.verb.Verb.{Verb}
use Rattle.script_text.specs.declared.verb.Verb.TheVariants as verb

-- what is wrong with the words behind a request's name, which are to be of these kinds
abbrev pub HasFieldCause : List Kind → List (List ℕ) → ℕ → Type 0
HasFieldCause kinds words cause =
    ((cause ≡ 5) × (length words ≢ length kinds))
    ⊎ ((cause ≡ 6) × HasBad TabWord kinds words)
    ⊎ ((cause ≡ 7) × HasBad UrlWord kinds words)
    ⊎ ((cause ≡ 8) × HasBad BodyWord kinds words)
    ⊎ ((cause ≡ 9) × (HasBad CountWord kinds words ⊎ HasBad MarkWord kinds words))

-- with the body of this line the bodies pass their limit
abbrev pub PassesRoom : List Line → List Kind → List (List ℕ) → Type 0
PassesRoom before kinds words = (body : Body) × Offers body kinds words × (67108864 < total_of before + body_size body)

-- an earlier line sets the mark that this line is to set
abbrev pub MarksAgain : List Line → Verb → List (List ℕ) → Type 0
MarksAgain before name words = (name ≡ verb.Mark) × ((mark : ℕ) × (words ≡ decimal mark ∷ []) × IsMarked before mark)

-- what is wrong with a request of this name and these words, behind these lines
abbrev pub HasRequestCause : List Line → Verb → List (List ℕ) → ℕ → Type 0
HasRequestCause before name words cause =
    HasFieldCause (kinds_of name) words cause
    ⊎ ((cause ≡ 8) × PassesRoom before (kinds_of name) words)
    ⊎ ((cause ≡ 9) × MarksAgain before name words)

abbrev pub BeginsWithWorker : ℕ → List (List ℕ) → Type 0
BeginsWithWorker workers words = (worker : ℕ) × (rest : List (List ℕ)) × (1 ≤ worker) × (worker ≤ workers) × (words ≡ decimal worker ∷ rest)

-- the first word is followed by the name of a request, and that by these
abbrev pub Names : Verb → List (List ℕ) → List (List ℕ) → Type 0
Names name fields words = (first : List ℕ) × (words ≡ first ∷ name_of name ∷ fields)

abbrev pub NamesRequest : List (List ℕ) → Type 0
NamesRequest words = (name : Verb) × (fields : List (List ℕ)) × Names name fields words

-- the text is a bad line behind these, by this cause
abbrev pub HasCause : ℕ → List Line → List ℕ → ℕ → Type 0
HasCause workers before text cause =
    ((cause ≡ 1) × ((4096 ≤ length before) ⊎ (8192 < length text)))
    ⊎ ((cause ≡ 2) × ¬ All IsPrintable text)
    ⊎ ((cause ≡ 3) × ¬ BeginsWithWorker workers (words_of text))
    ⊎ ((cause ≡ 4) × ¬ NamesRequest (words_of text))
    ⊎ ((name : Verb) × (fields : List (List ℕ)) × Names name fields (words_of text) × HasRequestCause before name fields cause)

-- the least of the numbers for which this holds
pub record IsFirst (Has : ℕ → Type 0) (cause : ℕ) : Type 0 where
  pub has : Has cause
  pub none_before : (other : ℕ) → other < cause → ¬ Has other
