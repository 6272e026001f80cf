-- The five words of each anchor, in the words that a rebuild kept.
use Rattle.std.proofs.Common.{◌≡◌, ◌≢◌, ℕ, ◌+◌, ◌*◌, ◌<◌, List, replicate, length, get_or, refl, ◌∙◌, arith, Contains}
use Rattle.std.proofs.lemmas.List.{length-replicate}
use Rattle.store_key.specs.Anchor.{anchor_of}
use Rattle.rebuild_model.specs.declared.found.Found.{Found}
use Rattle.core_model.specs.declared.moves.Side.TheVariants.{Key0, Key1, Offer, Start}
use Rattle.core_model.specs.Layout.{side_index}
use Rattle.core_model.proofs.Places.{side_below}
use Rattle.core_model.specs.declared.moves.Side.{Side}
use Rattle.core_model.specs.Layout.{anchor_index, beside_index}
use Rattle.lock_word.specs.Words.{word_at}
use Rattle.store_key.specs.Anchor.{front_half, back_half}
use Rattle.core_table.specs.Kept.{placed, anchor_words}
use Rattle.core_table.proofs.Lists.{same_at}
use Rattle.core_table.proofs.Placing.{Apart, apart_more, length-placed, placed_else, placed_here}

-- one of the five words of an anchor: its own, or one beside it
pub data Column : Type 0 where
  Anchor : Column
  Beside : Side → Column

-- where it stands, and what an entry that was kept has there
abbrev pub column_index : Column → ℕ → ℕ
column_index Anchor a = anchor_index a
column_index (Beside side) a = beside_index side a

abbrev pub entry_word : Column → Found → ℕ
entry_word Anchor f = word_at f.version 3
entry_word (Beside Key0) f = front_half f.key
entry_word (Beside Key1) f = back_half f.key
entry_word (Beside Offer) f = f.first
entry_word (Beside Start) f = f.first + 1

-- which of the five words of an anchor a column has
abbrev number : Column → ℕ
number Anchor = 0
number (Beside side) = 1 + side_index side

number_below : (c : Column) → number c < 5
number_below Anchor = omega arith
number_below (Beside side) = let q = side_below side in omega arith

index_is : (c : Column) (a : ℕ) → column_index c a ≡ 5 * a + number c
index_is Anchor a = omega arith
index_is (Beside side) a = omega arith

pub column_within : (c : Column) (a anchors : ℕ) → a < anchors → column_index c a < 5 * anchors
column_within c a anchors lt = let q = index_is c a in let n = number_below c in omega arith

-- different words of anchors stand apart
same_anchor : (c d : Column) (a b : ℕ) → column_index c a ≡ column_index d b → a ≡ b
same_anchor c d a b e = let p = index_is c a in let q = index_is d b in let x = number_below c in let y = number_below d in omega arith

same_column : (c d : Column) (a b : ℕ) → column_index c a ≡ column_index d b → number c ≡ number d
same_column c d a b e = let p = index_is c a in let q = index_is d b in let x = number_below c in let y = number_below d in omega arith

module _ (winners : List Found) (anchors : ℕ) where
  abbrev place : Found → ℕ
  place f = anchor_of f.key anchors

  abbrev put : Column → List ℕ → List ℕ
  put c ws = placed (λ f. column_index c (place f)) (entry_word c) ws winners

  -- the words with so many columns
  abbrev w0 : List ℕ
  w0 = replicate (5 * anchors) 0

  abbrev w1 : List ℕ
  w1 = put Anchor w0

  abbrev w2 : List ℕ
  w2 = put (Beside Key0) w1

  abbrev w3 : List ℕ
  w3 = put (Beside Key1) w2

  abbrev w4 : List ℕ
  w4 = put (Beside Offer) w3

  words_are : anchor_words winners anchors ≡ put (Beside Start) w4
  words_are = refl

  same_many : (c : Column) (ws : List ℕ) → length (put c ws) ≡ length ws
  same_many c ws = length-placed (λ f. column_index c (place f)) (entry_word c) ws winners

  many0 : length w0 ≡ 5 * anchors
  many0 = length-replicate (5 * anchors) 0

  many1 : length w1 ≡ 5 * anchors
  many1 = same_many Anchor w0 ∙ many0

  many2 : length w2 ≡ 5 * anchors
  many2 = same_many (Beside Key0) w1 ∙ many1

  many3 : length w3 ≡ 5 * anchors
  many3 = same_many (Beside Key1) w2 ∙ many2

  many4 : length w4 ≡ 5 * anchors
  many4 = same_many (Beside Offer) w3 ∙ many3

  pub many_words : length (anchor_words winners anchors) ≡ 5 * anchors
  many_words = same_many (Beside Start) w4 ∙ many4

  -- another column leaves a word
  other : (c d : Column) (ws : List ℕ) (a : ℕ) → number c ≢ number d → get_or (put c ws) (column_index d a) 0 ≡ get_or ws (column_index d a) 0
  other c d ws a ne = placed_else (λ f. column_index c (place f)) (entry_word c) ws winners (column_index d a) 0 (λ f h e. ne (same_column c d (place f) a e))

  -- and each column those of an anchor without an entry
  none_there : (c d : Column) (ws : List ℕ) (a : ℕ) → ((f : Found) → Contains winners f → place f ≡ a → ⊥) → get_or (put c ws) (column_index d a) 0 ≡ get_or ws (column_index d a) 0
  none_there c d ws a none = placed_else (λ f. column_index c (place f)) (entry_word c) ws winners (column_index d a) 0 (λ f h e. none f h (same_anchor c d (place f) a e))

  pub empty_at : (c : Column) (a : ℕ) → ((f : Found) → Contains winners f → place f ≡ a → ⊥) → get_or (anchor_words winners anchors) (column_index c a) 0 ≡ 0
  empty_at c a none =
      none_there (Beside Start) c w4 a none ∙ none_there (Beside Offer) c w3 a none ∙ none_there (Beside Key1) c w2 a none
      ∙ none_there (Beside Key0) c w1 a none ∙ none_there Anchor c w0 a none ∙ same_at (5 * anchors) (column_index c a) 0

  module _ (apart : Apart (λ f g. place f ≢ place g) winners) (below : (f : Found) → place f < anchors) (f : Found) (h : Contains winners f) where
    put_here : (c : Column) (ws : List ℕ) → length ws ≡ 5 * anchors → get_or (put c ws) (column_index c (place f)) 0 ≡ entry_word c f
    put_here c ws many = placed_here (λ g. column_index c (place g)) (entry_word c) ws winners 0
        (apart_more (λ g k. place g ≢ place k) (λ g k. column_index c (place g) ≢ column_index c (place k)) (λ g k ne e. ne (same_anchor c c (place g) (place k) e)) winners apart)
        f h (let z = column_within c (place f) anchors (below f) in omega arith)

    pub here : (c : Column) → get_or (anchor_words winners anchors) (column_index c (place f)) 0 ≡ entry_word c f
    here Anchor = let a : ℕ = place f in
        other (Beside Start) Anchor w4 a (λ e. omega arith) ∙ other (Beside Offer) Anchor w3 a (λ e. omega arith) ∙ other (Beside Key1) Anchor w2 a (λ e. omega arith)
        ∙ other (Beside Key0) Anchor w1 a (λ e. omega arith) ∙ put_here Anchor w0 many0
    here (Beside Key0) = let a : ℕ = place f in
        other (Beside Start) (Beside Key0) w4 a (λ e. omega arith) ∙ other (Beside Offer) (Beside Key0) w3 a (λ e. omega arith)
        ∙ other (Beside Key1) (Beside Key0) w2 a (λ e. omega arith) ∙ put_here (Beside Key0) w1 many1
    here (Beside Key1) = let a : ℕ = place f in
        other (Beside Start) (Beside Key1) w4 a (λ e. omega arith) ∙ other (Beside Offer) (Beside Key1) w3 a (λ e. omega arith) ∙ put_here (Beside Key1) w2 many2
    here (Beside Offer) = other (Beside Start) (Beside Offer) w4 (place f) (λ e. omega arith) ∙ put_here (Beside Offer) w3 many3
    here (Beside Start) = put_here (Beside Start) w4 many4
