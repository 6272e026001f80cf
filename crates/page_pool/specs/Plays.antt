-- What each step tells.
use Rattle.std.specs.Prelude.{◌≡◌, ◌∷◌, ◌++◌, Contains, None, Option, Some, [], ℕ}
use mathlib.Core.Option.{some}
use lib.ListN.{get_elem?}
use Rattle.atomic_table.specs.Table.{Me, State, Step, rest}
use Rattle.page_pool.specs.declared.page.Page.{Page}
use Rattle.page_pool.specs.declared.pool.PoolSize.{PoolSize}
use Rattle.page_pool.specs.declared.view.View.{View}
use Rattle.page_pool.specs.Ruled.{IsPage, IsTaken, Ruled}
use Rattle.page_pool.specs.Views.{after_take, going, opened}

-- a table that keeps the rule, in which a seat has the view v, and the page m is taken
pub record FoundTaken (about : PoolSize) (m : ℕ) (v : View) : Type 0 where
  pub state : State (Option Page) View
  pub rule : Ruled about state
  pub id : ℕ
  pub seat : get_elem? state.views id ≡ some v
  pub taken : IsTaken (rule.phases m)

-- the page was free, and is with the seat
pub record Taken (m : ℕ) (me me' : Me (Option Page) View) : Type 0 where
  pub page : Page
  pub view : me'.0 ≡ going m me.0
  pub hand : me'.1 ≡ (m, Some page) ∷ me.1
  pub new : Contains me.0.held m → ⊥
  pub is : (k : PoolSize) → me.0.about ≡ Some k → IsPage k m page

-- A try for a page that is free takes it, and any other changes nothing: the page was found taken.
abbrev pub took : Step (Option Page) → Me (Option Page) View → ℕ → Me (Option Page) View → Type 0
took st me n me' = (n ≡ 0 → Taken st.word me me') × ((n ≡ 0 → ⊥) → (me' ≡ me) × ((k : PoolSize) → me.0.about ≡ Some k → FoundTaken k st.word me.0))

-- the place of the page was given back without it, and the seat holds the page
abbrev pub kept : Step (Option Page) → Me (Option Page) View → ℕ → Me (Option Page) View → Type 0
kept st me n me' = me' ≡ (record me.0 { held = me.0.moving ++ me.0.held; moving = [] }, rest me.1)

-- the place of a page that the seat held was taken
abbrev pub entered : Step (Option Page) → Me (Option Page) View → ℕ → Me (Option Page) View → Type 0
entered st me n me' = me' ≡ (opened st.word me.0, (st.word, None) ∷ me.1)

-- the place was given back with the page
abbrev pub given : Step (Option Page) → Me (Option Page) View → ℕ → Me (Option Page) View → Type 0
given st me n me' = me' ≡ (record me.0 { moving = [] }, rest me.1)

-- a try for the page of this number: it was free and the seat has it, or it was found taken
abbrev pub TookAt : PoolSize → ℕ → View → Option Page → View → Type 0
TookAt about m v (Some page) w = IsPage about m page × (Contains v.held m → ⊥) × (w ≡ after_take m v)
TookAt about m v None w = (w ≡ v) × FoundTaken about m v
