-- What holds of the table of pages between any two steps.
use Rattle.std.specs.Prelude.{◌≡◌, ◌⊎◌, ◌<◌, Contains, List, None, Option, Some, length, slice_index, true, ℕ}
use mathlib.Core.Option as maybe
use mathlib.Core.Option.{some}
use lib.ListN.{get_elem?}
use Rattle.atomic_table.specs.Table.{State}
use Rattle.page_pool.specs.declared.page.Page.{Page}
use Rattle.page_pool.specs.declared.pool.PoolSize.{PoolSize}
use Rattle.page_pool.specs.declared.view.View.{View}

-- a page is free, or the seat of this number moves it, or holds it
pub data Phase : Type 0 where
  free : Phase
  moves : ℕ → Phase
  holds : ℕ → Phase

-- what the page's word says
abbrev pub number_of : Phase → ℕ
number_of free = 0
number_of (moves i) = 2
number_of (holds i) = 1

-- a seat has the page, or moves it
abbrev pub IsTaken : Phase → Type 0
IsTaken free = ⊥
IsTaken (moves i) = Unit {0}
IsTaken (holds i) = Unit {0}

-- the page has this number, which is one of the pool, and as many bytes as each page of the pool
pub record IsPage (about : PoolSize) (m : ℕ) (page : Page) : Type 0 where
  pub number : page.number ≡ m
  pub within : m < about.pages
  pub size : length page.bytes.items ≡ about.size

-- these are pages of this size, in order of their numbers
abbrev pub AreFree : ℕ → List (Option Page) → Type 0
AreFree size pages = (m : ℕ) (x : Option Page) → get_elem? pages m ≡ some x → (page : Page) × (x ≡ Some page) × (page.number ≡ m) × (length page.bytes.items ≡ size)

-- What is in the place of a page: itself while it is free, and nothing while a seat holds it. A seat that moves it has the place too.
abbrev pub Lies : PoolSize → ℕ → Phase → maybe.Option (maybe.Option (Option Page)) → Type 0
Lies about m free x = (page : Page) × (x ≡ some (some (Some page))) × IsPage about m page
Lies about m (moves i) x = Unit {0}
Lies about m (holds i) x = x ≡ some (some None)

-- what the seat i knows is so
pub record Fits (about : PoolSize) (phases : ℕ → Phase) (i : ℕ) (v : View) : Type 0 where
  pub about_is : (k : PoolSize) → v.about ≡ Some k → k ≡ about
  pub held : (m : ℕ) → Contains v.held m → (m < about.pages) × (phases m ≡ holds i)
  pub moving : (m : ℕ) → Contains v.moving m → (m < about.pages) × (phases m ≡ moves i)

-- a seat of this number is there, and its view is so
abbrev pub Seated : List View → ℕ → (View → Type 0) → Type 0
Seated views i P = (v : View) × (get_elem? views i ≡ some v) × P v

-- the rule of the table
pub record Ruled (about : PoolSize) (s : State (Option Page) View) : Type 0 where
  pub phases : ℕ → Phase
  pub word_count : length s.words ≡ about.pages
  pub words : (m : ℕ) → m < about.pages → slice_index s.words m ≡ number_of (phases m)
  pub places : (m : ℕ) → m < about.pages → Lies about m (phases m) (get_elem? s.homes m)
  pub seats : (i : ℕ) (v : View) → get_elem? s.views i ≡ some v → Fits about phases i v
  pub holders : (m i : ℕ) → m < about.pages → phases m ≡ holds i → Seated s.views i (λ v. Contains v.held m)  -- who holds a page knows it
  pub movers : (m i : ℕ) → m < about.pages → phases m ≡ moves i → Seated s.views i (λ v. Contains v.moving m)
  pub lone : (i : ℕ) (v : View) → get_elem? s.views i ≡ some v → v.is_alone ≡ true → length s.views ≡ 1  -- who is alone is the only one

-- the seat of this number has the page, or moves it
abbrev pub Has : ℕ → View → Type 0
Has m v = Contains v.held m ⊎ Contains v.moving m

-- nobody has the page, or exactly one seat has
abbrev pub IsFreeOrHeld : PoolSize → State (Option Page) View → ℕ → Type 0
IsFreeOrHeld about s m =
    ((i : ℕ) (v : View) → get_elem? s.views i ≡ some v → Has m v → ⊥)
    ⊎ ((i : ℕ) × Seated s.views i (Has m) × ((j : ℕ) (w : View) → get_elem? s.views j ≡ some w → Has m w → j ≡ i))
