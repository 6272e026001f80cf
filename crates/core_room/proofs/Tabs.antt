-- What steps make of one tab, to room: its search comes no further, and it has no more slots of any anchor.
use Rattle.std.proofs.Common.{Bool, List, Option, [], arith, cond, false, get_or, length, not, refl, set, suc, sum_by, true, zero, ◌&&◌, ◌+◌, ◌==◌, ◌∷◌, ◌≡◌, ◌≤◌, ℕ}
use Rattle.std.proofs.lemmas.List.Sums.{sum_by-cons}
use Rattle.lock_word.specs.declared.stage.Stage.{Stage}
use Rattle.lock_word.specs.declared.stage.Stage.TheVariants.{Appending, Closed, Empty, Freeing as FreeingStage, Gone, Halted, Taken}
use Rattle.lock_word.specs.Words.{is_left_over, is_readable}
use Rattle.core_model.specs.declared.moves.Side.{Side}
use Rattle.core_model.specs.declared.moves.Side.TheVariants.{Key0, Key1, Offer, Start}
use Rattle.core_model.specs.declared.moves.Then.{Then}
use Rattle.core_model.specs.declared.moves.Then.TheVariants.{GoesOn, Stays, Wiped}
use Rattle.core_model.specs.declared.tab.Cell.{Cell}
use Rattle.core_model.specs.declared.tab.Tab.{Tab}
use Rattle.core_model.specs.declared.tab.Tab.TheVariants.{Free, Freeing, Last, Reading, Retreating, Writing}
use Rattle.core_model.specs.Chains.{without}
use Rattle.core_model.specs.AnchorMoves.{entered, left_tab, raised_tab}
use Rattle.core_model.specs.SlotMoves.{gives_back, loaded, looks, stores}
use Rattle.core_model.specs.CellMoves.{ends, logs, moves, rewrites, tries}
use Rattle.core_room.specs.Room.{holds_at, past_in, running}

-- a list of slots without one of them is no longer
length_without : (slot : ℕ) (xs : List ℕ) → length (without slot xs) ≤ length xs
length_without slot [] = omega arith
length_without slot (x ∷ xs) = let r = length_without slot xs in by_test (x == slot) r
  where
    by_test : (b : Bool) → length (without slot xs) ≤ length xs → length (cond b (without slot xs) (x ∷ without slot xs)) ≤ suc (length xs)
    by_test true r = omega arith
    by_test false r = omega arith

-- of an anchor or of none
pub if_at : (b : Bool) (m n : ℕ) → m ≤ n → cond b m 0 ≤ cond b n 0
if_at true m n le = le
if_at false m n le = omega arith

module _ {X : Type 0} where
  pub record Less (x y : Tab X) : Type 0 where
    pub past : (slot : ℕ) → past_in slot y ≤ past_in slot x
    pub held : (a : ℕ) → holds_at a y ≤ holds_at a x

  pub alike : (x y : Tab X) → ((slot : ℕ) → past_in slot y ≡ past_in slot x) → ((a : ℕ) → holds_at a y ≡ holds_at a x) → Less x y
  alike x y p h = record { past = λ slot. let e = p slot in omega arith; held = λ a. let e = h a in omega arith }

  pub nothing : (x y : Tab X) → ((slot : ℕ) → past_in slot y ≡ 0) → ((a : ℕ) → holds_at a y ≡ 0) → Less x y
  nothing x y p h = record { past = λ slot. let e = p slot in omega arith; held = λ a. let e = h a in omega arith }

  pub itself : (x : Tab X) → Less x x
  itself x = alike x x (λ slot. refl) (λ a. refl)

  pub either : (b : Bool) (x y z : Tab X) → Less x y → Less x z → Less x (cond b y z)
  either true x y z p q = p
  either false x y z p q = q

  pub entered_less : (x : Tab X) (a e : ℕ) → Less x (entered a e)
  entered_less x a e = either (is_readable e) x _ (Retreating a) (nothing x _ (λ slot. refl) (λ b. refl)) (nothing x (Retreating a)
      (λ slot. refl) (λ b. refl))

  pub left_less : (x : Tab X) (a n : ℕ) → Less x (left_tab a n)
  left_less x a n = either (is_left_over n) x (Last a) Free (nothing x (Last a) (λ slot. refl) (λ b. refl)) (nothing x Free (λ slot. refl)
      (λ b. refl))

  pub raised_less : (to : Stage) (n : ℕ) (x : Tab X) → Less x (raised_tab x to n)
  raised_less to n Free = left_less Free 0 n
  raised_less to n (Retreating b) = left_less (Retreating b) b n
  raised_less to n (Reading r) = left_less (Reading r) r.anchor n
  raised_less to n (Last b) = left_less (Last b) b n
  raised_less to n (Freeing f) = left_less (Freeing f) f.anchor n
  raised_less Empty n (Writing w) = left_less (Writing w) w.anchor n
  raised_less Taken n (Writing w) = left_less (Writing w) w.anchor n
  raised_less Closed n (Writing w) = left_less (Writing w) w.anchor n
  raised_less Halted n (Writing w) = left_less (Writing w) w.anchor n
  raised_less FreeingStage n (Writing w) = left_less (Writing w) w.anchor n
  raised_less Gone n (Writing w) = left_less (Writing w) w.anchor n
  raised_less Appending n (Writing w) = alike (Writing w) (raised_tab (Writing w) Appending n) (λ slot. refl) (λ a. refl)

  pub loaded_less : (side : Side) (n : ℕ) (x : Tab X) → Less x (loaded x side n)
  loaded_less side n Free = itself Free
  loaded_less side n (Retreating b) = itself (Retreating b)
  loaded_less Key0 n (Reading r) = itself (Reading r)
  loaded_less Key1 n (Reading r) = itself (Reading r)
  loaded_less Offer n (Reading r) = itself (Reading r)
  loaded_less Start n (Reading r) = alike (Reading r) (loaded (Reading r) Start n) (λ slot. refl) (λ a. refl)
  loaded_less side n (Writing w) = itself (Writing w)
  loaded_less side n (Last b) = itself (Last b)
  loaded_less side n (Freeing f) = itself (Freeing f)

  pub stores_less : (side : Side) (n : ℕ) (x : Tab X) → Less x (stores x side n)
  stores_less side n Free = itself Free
  stores_less side n (Retreating b) = itself (Retreating b)
  stores_less side n (Reading r) = itself (Reading r)
  stores_less Key0 n (Writing w) = alike (Writing w) (stores (Writing w) Key0 n) (λ slot. refl) (λ a. refl)
  stores_less Key1 n (Writing w) = alike (Writing w) (stores (Writing w) Key1 n) (λ slot. refl) (λ a. refl)
  stores_less Offer n (Writing w) = alike (Writing w) (stores (Writing w) Offer n) (λ slot. refl) (λ a. refl)
  stores_less Start n (Writing w) = alike (Writing w) (stores (Writing w) Start n) (λ slot. refl) (λ a. refl)
  stores_less side n (Last b) = itself (Last b)
  stores_less side n (Freeing f) = itself (Freeing f)

  pub gives_back_less : (slot : ℕ) (x : Tab X) → Less x (gives_back x slot)
  gives_back_less slot Free = itself Free
  gives_back_less slot (Retreating b) = itself (Retreating b)
  gives_back_less slot (Reading r) = itself (Reading r)
  gives_back_less slot (Writing w) = record {
    past = λ j. omega arith;
    held = λ a. if_at (w.anchor == a) (length (without slot w.reserved) + running w.claim) (length w.reserved + running w.claim)
        (let l = length_without slot w.reserved in omega arith);
  }
  gives_back_less slot (Last b) = itself (Last b)
  gives_back_less slot (Freeing f) = let y : Tab X = Freeing record f { loose = without slot f.loose } in
      either ((length f.rest == 0) && (length (without slot f.loose) == 0) && not f.is_freeing) (Freeing f) Free y
      (nothing (Freeing f) Free (λ j. refl) (λ a. refl))
      record {
        past = λ j. omega arith;
        held = λ a. if_at (f.anchor == a) (length f.rest + length (without slot f.loose)) (length f.rest + length f.loose)
            (let l = length_without slot f.loose in omega arith);
      }

  pub logs_less : (slot : ℕ) (durable : Bool) (x : Tab X) → Less x (logs x slot durable)
  logs_less slot durable Free = itself Free
  logs_less slot durable (Retreating b) = itself (Retreating b)
  logs_less slot durable (Reading r) = itself (Reading r)
  logs_less slot durable (Writing w) = alike (Writing w) (logs (Writing w) slot durable) (λ j. refl) (λ a. refl)
  logs_less slot durable (Last b) = itself (Last b)
  logs_less slot durable (Freeing f) = itself (Freeing f)

  pub looks_less : (n : ℕ) (x : Tab X) → Less x (looks x n)
  looks_less n Free = itself Free
  looks_less n (Retreating b) = itself (Retreating b)
  looks_less n (Reading r) = alike (Reading r) (looks (Reading r) n) (λ j. refl) (λ a. refl)
  looks_less n (Writing w) = itself (Writing w)
  looks_less n (Last b) = itself (Last b)
  looks_less n (Freeing f) = alike (Freeing f) (looks (Freeing f) n) (λ j. refl) (λ a. refl)

  pub tries_less : (slot n : ℕ) (cell : Option (Cell X)) (x : Tab X) → Less x (tries x slot n cell)
  tries_less slot n cell Free = itself Free
  tries_less slot n cell (Retreating b) = itself (Retreating b)
  tries_less slot n cell (Reading r) = alike (Reading r) (tries (Reading r) slot n cell) (λ j. refl) (λ a. refl)
  tries_less slot n cell (Writing w) = alike (Writing w) (tries (Writing w) slot n cell) (λ j. refl) (λ a. refl)
  tries_less slot n cell (Last b) = itself (Last b)
  tries_less slot n cell (Freeing f) = alike (Freeing f) (tries (Freeing f) slot n cell) (λ j. refl) (λ a. refl)

  pub ends_less : (then : Then) (x : Tab X) → Less x (ends x then)
  ends_less then Free = itself Free
  ends_less then (Retreating b) = itself (Retreating b)
  ends_less Stays (Reading r) = alike (Reading r) (ends (Reading r) Stays) (λ j. refl) (λ a. refl)
  ends_less GoesOn (Reading r) = alike (Reading r) (ends (Reading r) GoesOn) (λ j. refl) (λ a. refl)
  ends_less Wiped (Reading r) = alike (Reading r) (ends (Reading r) Wiped) (λ j. refl) (λ a. refl)
  ends_less then (Writing w) = alike (Writing w) (ends (Writing w) then) (λ j. refl) (λ a. refl)
  ends_less then (Last b) = itself (Last b)
  ends_less then (Freeing f) = alike (Freeing f) (ends (Freeing f) then) (λ j. refl) (λ a. refl)

  pub moves_less : (out : Bool) (x : Tab X) → Less x (moves x out)
  moves_less out Free = itself Free
  moves_less out (Retreating b) = itself (Retreating b)
  moves_less out (Reading r) = alike (Reading r) (moves (Reading r) out) (λ j. refl) (λ a. refl)
  moves_less out (Writing w) = alike (Writing w) (moves (Writing w) out) (λ j. refl) (λ a. refl)
  moves_less out (Last b) = itself (Last b)
  moves_less out (Freeing f) = alike (Freeing f) (moves (Freeing f) out) (λ j. refl) (λ a. refl)

  pub rewrites_less : (kept settled : Bool) (cell : Option (Cell X)) (x : Tab X) → Less x (rewrites x kept settled cell)
  rewrites_less kept settled cell Free = itself Free
  rewrites_less kept settled cell (Retreating b) = itself (Retreating b)
  rewrites_less kept settled cell (Reading r) = itself (Reading r)
  rewrites_less kept settled cell (Writing w) = alike (Writing w) (rewrites (Writing w) kept settled cell) (λ j. refl) (λ a. refl)
  rewrites_less kept settled cell (Last b) = itself (Last b)
  rewrites_less kept settled cell (Freeing f) = alike (Freeing f) (rewrites (Freeing f) kept settled cell) (λ j. refl) (λ a. refl)

-- One tab of a list becomes another, counted by anything that a free tab has none of.
module _ {X : Type 0} (f : Tab X → ℕ) (none : f Free ≡ 0) where
  pub set_tab : (tabs : List (Tab X)) (t : ℕ) (y : Tab X) → sum_by f (set tabs t y) + f (get_or tabs t Free) ≤ sum_by f tabs + f y
  set_tab [] t y = omega arith
  set_tab (x ∷ xs) zero y = let a = sum_by-cons f x xs in let b = sum_by-cons f y xs in omega arith
  set_tab (x ∷ xs) (suc t) y = let a = sum_by-cons f x xs in let b = sum_by-cons f x (set xs t y) in let r = set_tab xs t y in omega arith

  pub set_less : (tabs : List (Tab X)) (t : ℕ) (y : Tab X) → f y ≤ f (get_or tabs t Free) → sum_by f (set tabs t y) ≤ sum_by f tabs
  set_less tabs t y le = let h = set_tab tabs t y in omega arith

  pub set_more : (tabs : List (Tab X)) (t : ℕ) (y : Tab X) → sum_by f (set tabs t y) ≤ sum_by f tabs + f y
  set_more tabs t y = let h = set_tab tabs t y in omega arith
