-- The words behind a request's name, by kind.
use Rattle.std.specs.Prelude.{◌≡◌, ◌≢◌, ◌⊎◌, ℕ, ◌<◌, ◌≤◌, ◌++◌, List, [], ◌∷◌, length, slice_index, codes, decimal}
use Rattle.store_key.specs.Url.{IsUrl, IsUrlByte}
use Rattle.script_text.specs.Words.{IsNumber}
use Rattle.script_text.specs.declared.body.Body.{Body}
use Rattle.script_text.specs.declared.body.Body.TheVariants.{Text, Made}

-- what a word behind a request's name stands for
pub data Kind : Type 0 where
  TabWord : Kind
  UrlWord : Kind
  BodyWord : Kind
  CountWord : Kind
  MarkWord : Kind

-- a text that stands for itself in a body: 1 to 4,096 bytes, each one that a URL may have
pub record IsText (text : List ℕ) : Type 0 where
  pub some : text ≢ []
  pub short : length text ≤ 4096
  pub bytes : (k : ℕ) → k < length text → IsUrlByte (slice_index text k)

-- the first colon of a word
pub record IsFirstColon (word : List ℕ) (at : ℕ) : Type 0 where
  pub within : at < length word
  pub colon : slice_index word at ≡ 58
  pub none_before : (k : ℕ) → k < at → slice_index word k ≢ 58

-- `#`, how many bytes are made, `:`, and their shift
abbrev pub made_word : ℕ → ℕ → List ℕ
made_word count shift = codes "#" ++ decimal count ++ codes ":" ++ decimal shift

-- a body as a word: `=` and a text, or `#N:K`, or `-` for none
abbrev pub SpellsBody : Body → List ℕ → Type 0
SpellsBody (Text text) word = IsText text × (word ≡ codes "=" ++ text)
SpellsBody (Made count shift) word =
    ((count ≤ 4194304) × (shift ≤ 25) × (word ≡ made_word count shift)) ⊎ ((count ≡ 0) × (shift ≡ 0) × (word ≡ codes "-"))

-- how many bytes a body has
abbrev pub body_size : Body → ℕ
body_size (Text text) = length text
body_size (Made count shift) = count

abbrev pub IsBodyWord : List ℕ → Type 0
IsBodyWord word = (body : Body) × SpellsBody body word

abbrev pub IsTabWord : List ℕ → Type 0
IsTabWord = IsNumber 0 6

abbrev pub IsCountWord : List ℕ → Type 0
IsCountWord = IsNumber 1 4194304

abbrev pub IsMarkWord : List ℕ → Type 0
IsMarkWord = IsNumber 0 63

-- the word is one of this kind
abbrev pub IsOfKind : Kind → List ℕ → Type 0
IsOfKind TabWord word = IsTabWord word
IsOfKind UrlWord word = IsUrl word
IsOfKind BodyWord word = IsBodyWord word
IsOfKind CountWord word = IsCountWord word
IsOfKind MarkWord word = IsMarkWord word

-- some word that is to be of this kind is not
abbrev pub HasBad : Kind → List Kind → List (List ℕ) → Type 0
HasBad kind [] words = ⊥
HasBad kind (k ∷ kinds) [] = ⊥
HasBad kind (k ∷ kinds) (word ∷ words) = ((k ≡ kind) × ¬ IsOfKind k word) ⊎ HasBad kind kinds words

-- the word that is to be a body is this one
abbrev pub Offers : Body → List Kind → List (List ℕ) → Type 0
Offers body [] words = ⊥
Offers body (k ∷ kinds) [] = ⊥
Offers body (k ∷ kinds) (word ∷ words) = ((k ≡ BodyWord) × SpellsBody body word) ⊎ Offers body kinds words
