-- What the steps of a pass tell. The newest item of a trail stands first.
use Rattle.std.specs.Prelude.{◌&&◌, ◌+◌, ◌==◌, ◌||◌, ◌∷◌, Bool, List, [], cond, false, max, nat_le, true, ℕ, ◌≡◌, Contains, None, Option, Some}
use Rattle.lock_word.specs.Words.{version_limit, version_of}
use Rattle.core_model.specs.declared.view.Item.{Item}
use Rattle.core_model.specs.declared.view.Kind.{Kind}
use Rattle.core_model.specs.declared.view.Kind.TheVariants.{Changed, Counted, Doomed, Drew, Entered, Left, Looked, Raised}
use Rattle.core_model.specs.declared.view.Sight.{Sight}
use Rattle.core_model.specs.declared.view.Sight.TheVariants.{Logged, Named, Published, Stood, Wiped}
use Rattle.core_model.specs.declared.view.View.{View}

-- an item of this kind tells the word of an anchor
abbrev pub tells_word : Kind → Bool
tells_word Looked = true
tells_word Entered = true
tells_word Left = true
tells_word Changed = true
tells_word Raised = true
tells_word Doomed = true
tells_word _ = false

abbrev pub is_find : ℕ → Item → Bool
is_find a x = tells_word x.kind && (x.at == a)

abbrev pub has_find : ℕ → List Item → Bool
has_find a [] = false
has_find a (x ∷ xs) = is_find a x || has_find a xs

-- the word that the pass last found or left at the anchor a, or 0
abbrev pub last_find : ℕ → List Item → ℕ
last_find a [] = 0
last_find a (x ∷ xs) = cond (is_find a x) x.found (last_find a xs)

abbrev pub is_draw : Kind → Bool
is_draw Drew = true
is_draw _ = false

-- the item draws this version
abbrev pub draws_version : ℕ → Item → Bool
draws_version version x = is_draw x.kind && (x.found + 1 == version)

-- the version was drawn after the last find at the anchor a
abbrev pub drew_since : ℕ → ℕ → List Item → Bool
drew_since version a [] = false
drew_since version a (x ∷ xs) = cond (is_find a x) false (draws_version version x || drew_since version a xs)

-- the word that the pass last found at the anchor a before it drew this version, or 0; the newest item of a trail stands first
abbrev pub find_before : ℕ → ℕ → List Item → ℕ
find_before version a [] = 0
find_before version a (x ∷ xs) = cond (draws_version version x) (last_find a xs) (find_before version a xs)

-- how often this version was drawn, and how often one was
abbrev pub drawn : ℕ → List Item → ℕ
drawn version [] = 0
drawn version (x ∷ xs) = cond (draws_version version x) 1 0 + drawn version xs

abbrev pub draws : List Item → ℕ
draws [] = 0
draws (x ∷ xs) = cond (is_draw x.kind) 1 0 + draws xs

-- whether what was drawn, a version or none, is this version, and whether it is one
abbrev pub is_drawn : ℕ → Option ℕ → Bool
is_drawn version None = false
is_drawn version (Some x) = x == version

abbrev pub has_drawn : Option ℕ → Bool
has_drawn None = false
has_drawn (Some x) = true

-- how often there was none left to draw
abbrev pub draws_in_vain : List Item → ℕ
draws_in_vain [] = 0
draws_in_vain (x ∷ xs) = cond (is_draw x.kind && nat_le version_limit x.found) 1 0 + draws_in_vain xs

-- the counter as the pass last looked at it, or the limit where it never did, or drew since
abbrev pub counted_in : Kind → ℕ → ℕ → ℕ
counted_in Counted found before = found
counted_in Drew found before = version_limit
counted_in _ found before = before

abbrev pub last_count : List Item → ℕ
last_count [] = version_limit
last_count (x ∷ xs) = counted_in x.kind x.found (last_count xs)

-- where and of which version a sight is; who knows a logged piece or a wiped slot need not know of its version at the anchor
abbrev pub sight_anchor : Sight → ℕ
sight_anchor (Stood a epoch) = a
sight_anchor (Named a version side value) = a
sight_anchor (Published a version count) = a
sight_anchor (Logged l) = l.anchor
sight_anchor (Wiped a version slot) = a

abbrev pub sight_version : Sight → ℕ
sight_version (Stood a epoch) = version_of epoch
sight_version (Named a version side value) = version
sight_version (Published a version count) = version
sight_version (Logged l) = 0
sight_version (Wiped a version slot) = 0

abbrev pub stood : ℕ → Sight → ℕ
stood a (Stood b epoch) = cond (b == a) epoch 0
stood a _ = 0

-- the greatest epoch that was seen at the anchor a
abbrev pub seen_at : ℕ → List Sight → ℕ
seen_at a [] = 0
seen_at a (x ∷ xs) = max (stood a x) (seen_at a xs)

-- with the view w a worker knows all that it knew with the view v
pub record KnowsAll {X : Type 0} (v w : View X) : Type 0 where
  pub pass : w.pass ≡ v.pass
  pub seen : (x : Sight) → Contains v.seen x → Contains w.seen x
  pub trail : (x : Item) → Contains v.trail x → Contains w.trail x
  pub met : (a : ℕ) → Contains v.met a → Contains w.met a
