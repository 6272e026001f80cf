-- What a pass has at hand before its first step, and the pages of its buffers.
use Rattle.std.specs.Prelude.{◌+◌, ◌*◌, ◌<◌, ◌∷◌, ◌≡◌, All, IsTrue, List, [], length, replicate, suc, zero, ℕ}
use mathlib.Core.Option.{some}
use lib.ListN.{get_elem?}
use Rattle.page_pool.specs.declared.view.View.{View}
use Rattle.tab_states.specs.declared.desks.Desk.{Desk}
use Rattle.tab_states.specs.declared.hands.Hands.{Hands}
use Rattle.tab_states.specs.declared.tabs.At.{At}
use Rattle.tab_states.specs.Desks.{page_at}

-- the first n numbers, the greatest first
abbrev pub first_numbers : ℕ → List ℕ
first_numbers zero = []
first_numbers (suc n) = n ∷ first_numbers n

-- how many pages a seat holds
abbrev pub held_count : View → ℕ
held_count v = length v.held

-- A seat that is alone and took pages, and gave none back: it holds those of the first numbers, and takes the next one next.
pub record TakesInOrder (v : View) : Type 0 where
  pub alone : IsTrue v.is_alone
  pub held : v.held ≡ first_numbers (length v.held)

-- these are nine desks with the pages from this one on, in order, and each page has so many bytes
pub record AreDesks (slot first : ℕ) (desks : List Desk) : Type 0 where
  pub many : length desks ≡ 9
  pub buffers : All (λ (d : Desk). length d.page.bytes.items ≡ slot) desks
  pub pages : (tab : ℕ) → tab < 9 → page_at desks tab ≡ first + tab

-- what a pass has at hand before its first step, whose buffers are the pages from this one on
pub record AreHands (slot first : ℕ) (h : Hands) : Type 0 where
  pub tabs : h.tabs ≡ replicate 9 At.Free
  pub left : h.left ≡ replicate 9 0
  pub desks : AreDesks slot first h.desks

-- what passes have at hand, of which each has the nine pages behind those of the one before
abbrev pub AreAllHands : (slot : ℕ) → List Hands → Type 0
AreAllHands slot all = (k : ℕ) (h : Hands) → get_elem? all k ≡ some h → AreHands slot (9 * k) h
