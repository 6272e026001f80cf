-- How many slots there are, and how an entry gets one more.
use Rattle.std.specs.Prelude.{ℕ, zero, suc, ◌+◌, ◌-◌, ◌*◌, ◌%◌, ◌==◌, ◌||◌, List, slice_set, sum_by, map, find, min, nat_lt, nat_le, if◌then◌else◌, Bool, true, false, Option, Some, None, is_some, not}
use Rattle.std.specs.List.{range_with_len}
use Rattle.plain_model.specs.declared.entry.Life.TheVariants.{Whole}
use Rattle.plain_model.specs.declared.entry.Entry.{Entry}
use Rattle.plain_model.specs.declared.entry.Place.{Place}
use Rattle.plain_model.specs.declared.store.Setting.{Setting}
use Rattle.plain_model.specs.declared.store.Plain.{Plain}
use Rattle.plain_model.specs.declared.store.Refusal.{Refusal}
use Rattle.plain_model.specs.declared.store.Refusal.TheVariants.{Full, Large}
use Rattle.plain_model.specs.Place.{vacated, resized}
use Rattle.plain_model.specs.Store.{place_at, published, has_life, is_idle_at}

-- how many slots an entry holds: the published ones and one more, but none while it grows and nothing is published
abbrev pub held_by : ℕ → Option Entry → ℕ
held_by room None = 0
held_by room (Some e) = (if has_life Whole (Some e) || not (published room e.content == 0) then published room e.content + 1 else 0)

abbrev pub held : ℕ → Place → ℕ
held room place = held_by room place.entry

abbrev pub free : Setting → Plain → ℕ
free s p = s.slots - sum_by (held s.room) p.places

-- the anchors, from the hand on round
abbrev pub from_hand : Setting → Plain → List ℕ
from_hand s p = map (λ i. (p.hand + i) % s.anchors) (range_with_len 0 s.anchors)

-- the first anchor from the hand on whose entry may give way
abbrev pub victim : Setting → Plain → Option ℕ
victim s p = find (λ anchor. is_idle_at p anchor) (from_hand s p)

-- its entry is lost, and the hand stands behind it
abbrev pub evicted : Setting → ℕ → Plain → Plain
evicted s anchor p = record p { hand = (anchor + 1) % s.anchors; places = slice_set p.places anchor (vacated (place_at p anchor)) }

-- what a claim of a slot leaves, and whether there was one
pub record Claimed : Type 0 where
  pub store : Plain
  pub done : Bool

abbrev pub claimed_as : Plain → Bool → Claimed
claimed_as store done = record { store = store; done = done }

-- one slot beside so many that are claimed already: a free one, or else the victim's
abbrev pub claim_of : Setting → Plain → Option ℕ → Claimed
claim_of s p None = record { store = p; done = false }
claim_of s p (Some anchor) = record { store = evicted s anchor p; done = true }

abbrev pub claim : Setting → (claimed : ℕ) → Plain → Claimed
claim s claimed p = (if nat_lt claimed (free s p) then record { store = p; done = true } else claim_of s p (victim s p))

-- two slots, one after the other. Where there is no second one the first goes back, and what was evicted stays lost
abbrev pub claim_two : Setting → Plain → Claimed
claim_two s p = second (claim s 0 p)
  where
    second : Claimed → Claimed
    second first = (if first.done then claim s 1 first.store else first)

-- the entry at an anchor gets so many bytes
abbrev pub resize : ℕ → ℕ → Plain → Plain
resize anchor content p = record p { places = slice_set p.places anchor (resized content (place_at p anchor)) }

-- what growing leaves, and why it ended before, if it did
pub record Grown : Type 0 where
  pub store : Plain
  pub refusal : Option Refusal

abbrev pub grown_as : Plain → Option Refusal → Grown
grown_as store refusal = record { store = store; refusal = refusal }

-- how many slots an entry may have
abbrev pub limit : Setting → ℕ
limit s = min 4096 s.slots

-- bytes come behind so many full slots: the last of these is published, and one more is needed. The first publishing
-- needs its own slot too
abbrev pub publish : Setting → (anchor filled : ℕ) → Plain → Grown
publish s anchor filled p = (if nat_le (limit s) filled then record { store = full; refusal = Some Large } else grown (if filled == 1 then claim_two s full else claim s 0 full))
  where
    full : Plain
    full = resize anchor (filled * s.room) p

    grown : Claimed → Grown
    grown c = record { store = c.store; refusal = (if c.done then None else Some Full) }

-- the entry grows to `content` bytes, by so many publishings. `filled` slots are full at the first of these
abbrev pub grow : Setting → (anchor content : ℕ) → (publishings filled : ℕ) → Plain → Grown
grow s anchor content zero filled p = record { store = resize anchor content p; refusal = None }
grow s anchor content (suc publishings) filled p = (if is_some (publish s anchor filled p).refusal then publish s anchor filled p else grow s anchor content publishings (filled + 1) (publish s anchor filled p).store)
