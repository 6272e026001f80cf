-- The part on places is kept by what one search does, whatever slots are taken and however many others search.
use Rattle.std.proofs.Common.{None, Option, Some, ap, arith, refl, subst, suc, sym, zero, ◌+◌, ◌-◌, ◌<◌, ◌≡◌, ◌≢◌, ◌≤◌, ℕ}
use Rattle.std.proofs.lemmas.Bool.{le-leb, lt-leb}
use mathlib.Core.Logic.{dite}
use native.Mathlib.Decide.{ℕ_discrete}
use Rattle.core_room.specs.Room.{past, taken_from}

pub past_at : (slot place : ℕ) → slot ≤ place → past slot (Some place) ≡ 1
past_at slot place le = let b = le-leb slot place le in rw b refl

pub not_past : (slot place : ℕ) → place < slot → past slot (Some place) ≡ 0
not_past slot place lt = let b = lt-leb slot place lt in rw b refl

-- a search that has found the slots below the next one taken has found those below this one so
pub past_less : (slot : ℕ) (claim : Option ℕ) → past (slot + 1) claim ≤ past slot claim
past_less slot None = omega arith
past_less slot (Some place) = dite (ℕ_discrete (slot + 1 - place) 0)
    (λ e. let a = past_at slot place (omega arith) in let b = past_at (slot + 1) place (omega arith) in omega arith)
    (λ ne. let b = not_past (slot + 1) place (omega arith) in omega arith)

-- of the n slots from each one on those that are taken and so many searches are together at most n
abbrev pub Places : (slots : ℕ) → (taken searches : ℕ → ℕ) → Type 0
Places slots taken searches = (slot n : ℕ) → slot + n ≡ slots → taken_from taken slot n + searches slot ≤ n

pub fewer_from : (taken less : ℕ → ℕ) (slots : ℕ) → ((j : ℕ) → j < slots → less j ≤ taken j) → (slot n : ℕ) → slot + n ≡ slots
    → taken_from less slot n ≤ taken_from taken slot n
fewer_from taken less slots h slot zero e = omega arith
fewer_from taken less slots h slot (suc n) e = let a = h slot (omega arith) in
    let r = fewer_from taken less slots h (slot + 1) n (omega arith) in omega arith

-- fewer slots are taken, and fewer search
pub fewer : (slots : ℕ) (taken less searches few : ℕ → ℕ) → ((j : ℕ) → j < slots → less j ≤ taken j) → ((j : ℕ) → few j ≤ searches j)
    → Places slots taken searches → Places slots less few
fewer slots taken less searches few h g room slot n e = let a = fewer_from taken less slots h slot n e in let b = g slot in
    let r = room slot n e in omega arith

-- no search has come past all slots
pub none_past_all : (slots : ℕ) (taken searches : ℕ → ℕ) (place : ℕ) → Places slots taken searches → past slots (Some place)
    ≤ searches slots → place < slots
none_past_all slots taken searches place room counts = dite (ℕ_discrete (slots - place) 0)
    (λ e. absurd (let h = room slots 0 (omega arith) in let b = past_at slots place (omega arith) in omega arith))
    (λ ne. omega arith)

-- What one search does, where so many others have come so far.
module _ (slots : ℕ) (taken others : ℕ → ℕ) (falls : (slot : ℕ) → others (slot + 1) ≤ others slot) where
  abbrev pub WithOne : Option ℕ → Type 0
  WithOne claim = Places slots taken (λ slot. others slot + past slot claim)

  -- it begins, where there is a slot more
  pub begins : (claim : Option ℕ) → taken_from taken 0 slots + (others 0 + 1) ≤ slots → WithOne claim → WithOne (Some 0)
  begins claim one room zero n e = subst (λ (z : ℕ). taken_from taken 0 z + (others 0 + past 0 (Some 0)) ≤ z) (sym (omega arith)) one
  begins claim one room (suc slot) n e = let h = room (suc slot) n e in let a = not_past (suc slot) 0 (omega arith) in omega arith

  -- it goes on past a taken slot
  goes_on : (place : ℕ) → taken place ≡ 1 → WithOne (Some place) → WithOne (Some (place + 1))
  goes_on place is_taken room slot n e = dite (ℕ_discrete slot (place + 1)) here there
    where
      here : slot ≡ place + 1 → taken_from taken slot n + (others slot + past slot (Some (place + 1))) ≤ n
      here q =
          let h = room place (suc n) (omega arith) in
          let f = ap (λ (z : ℕ). taken_from taken z n) q in
          let o = ap others q in
          let l = falls place in
          let a = past_at place place (omega arith) in
          let b = past_at slot (place + 1) (omega arith) in
          omega arith

      there : slot ≢ place + 1 → taken_from taken slot n + (others slot + past slot (Some (place + 1))) ≤ n
      there ne = let h = room slot n e in dite (ℕ_discrete (slot - place) 0)
          (λ low. let a = past_at slot place (omega arith) in let b = past_at slot (place + 1) (omega arith) in omega arith)
          (λ far. let a = not_past slot place (omega arith) in let b = not_past slot (place + 1) (omega arith) in omega arith)

  -- and past several
  pub goes_far : (place many : ℕ) → ((j : ℕ) → place ≤ j → j < place + many → taken j ≡ 1) → WithOne (Some place)
      → WithOne (Some (place + many))
  goes_far place zero all room = subst (λ (z : ℕ). WithOne (Some z)) (omega arith) room
  goes_far place (suc many) all room = subst (λ (z : ℕ). WithOne (Some z)) (omega arith)
      (goes_far (place + 1) many (λ j from low. all j (omega arith) (omega arith))
      (goes_on place (all place (omega arith) (omega arith)) room))

  -- it takes the slot at its place
  pub takes : (now : ℕ → ℕ) (place : ℕ) → taken place ≡ 0 → now place ≡ 1 → ((j : ℕ) → j < slots → j ≢ place → now j ≡ taken j)
      → WithOne (Some place) → Places slots now (λ slot. others slot + past slot None)
  takes now place was is else room slot n e = let h = room slot n e in let m = most slot n e in dite (ℕ_discrete (slot - place) 0)
      (λ low. let a = past_at slot place (omega arith) in omega arith)
      (λ far. let a = not_past slot place (omega arith) in let b = behind slot n e (omega arith) in omega arith)
    where
      behind : (slot n : ℕ) → slot + n ≡ slots → place < slot → taken_from now slot n ≡ taken_from taken slot n
      behind slot zero e far = refl
      behind slot (suc n) e far = let a = else slot (omega arith) (λ q. absurd (omega arith)) in
          let f = behind (slot + 1) n (omega arith) (omega arith) in omega arith

      most : (slot n : ℕ) → slot + n ≡ slots → taken_from now slot n ≤ taken_from taken slot n + 1
      most slot zero e = omega arith
      most slot (suc n) e = dite (ℕ_discrete slot place)
          (λ q. let a = ap now q in let b = ap taken q in let f = behind (slot + 1) n (omega arith) (omega arith) in omega arith)
          (λ ne. let a = else slot (omega arith) ne in let f = most (slot + 1) n (omega arith) in omega arith)
