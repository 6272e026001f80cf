-- Chains, and the words that spell them.
use Rattle.std.specs.Prelude.{◌+◌, ◌-◌, ◌==◌, ◌∷◌, ◌≡◌, List, [], cond, drop, ℕ}
use Rattle.link_word.specs.Words.{link_number}
use Rattle.link_word.specs.declared.link.Link.{Link}
use Rattle.link_word.specs.declared.link.Link.TheVariants.{Last, Last as LastLink, Next, NotWritten}
use Rattle.core_model.specs.declared.chain.Chain.{Chain}

abbrev pub no_chain : Chain
no_chain = record { slots = []; end = NotWritten; tail = [] }

-- a link to the first of these slots, or else this one
abbrev pub link_to : List ℕ → Link → Link
link_to [] end = end
link_to (s ∷ rest) end = Next s

-- the link words spell these slots in order, and the last one has the link `end`
abbrev pub Spells : (ℕ → ℕ) → List ℕ → Link → Type 0
Spells links [] end = Unit {0}
Spells links (s ∷ rest) end = (links s ≡ link_number (link_to rest end)) × Spells links rest end

-- the slot that a link names, if any
abbrev pub slots_of_link : Link → List ℕ
slots_of_link NotWritten = []
slots_of_link Last = []
slots_of_link (Next s) = s ∷ []

-- the Start word of a chain
abbrev pub start_number : List ℕ → ℕ
start_number [] = 0
start_number (s ∷ rest) = s + 1

abbrev pub rest_of : List ℕ → List ℕ
rest_of [] = []
rest_of (s ∷ rest) = rest

-- the piece for the first reserved slot: it is the last where no other slot is reserved, and else the next one is the second
abbrev pub first_of : List ℕ → ℕ
first_of [] = 0
first_of (s ∷ rest) = s

-- the slots but this one
abbrev pub without : ℕ → List ℕ → List ℕ
without slot [] = []
without slot (t ∷ rest) = cond (t == slot) (without slot rest) (t ∷ without slot rest)

-- how often a slot stands in a list
abbrev pub one : ℕ → ℕ → ℕ
one s t = cond (t == s) 1 0

abbrev pub times : ℕ → List ℕ → ℕ
times s [] = 0
times s (t ∷ rest) = one s t + times s rest

-- the link behind the last slot of a chain with its tail: a tail is not written
abbrev pub behind_of : Link → Link
behind_of NotWritten = NotWritten
behind_of Last = Last
behind_of (Next s) = NotWritten

-- nothing is published exactly where no link is written
abbrev pub Fits : List ℕ → Link → Type 0
Fits [] NotWritten = Unit {0}
Fits [] _ = ⊥
Fits (s ∷ rest) NotWritten = ⊥
Fits (s ∷ rest) _ = Unit {0}

-- what a writing tab published and reserved, where the link of its last published slot is this one: it has published nothing
-- yet, or the last slot, after which it reserves none, or its first reserved slot is the one that is linked
abbrev pub Tied : Link → List ℕ → List ℕ → Type 0
Tied NotWritten published reserved = published ≡ []
Tied Last published reserved = reserved ≡ []
Tied (Next s) published reserved = reserved ≡ s ∷ rest_of reserved

-- the link of the published slot at this place
abbrev pub link_at : Chain → ℕ → Link
link_at c place = link_to (drop (place + 1) c.slots) c.end

-- the link that a link word spells
abbrev pub link_of : ℕ → Link
link_of n = cond (n == 0) NotWritten (cond (n == 1) LastLink (Next (n - 2)))

-- no link is written in the slot that this one names, if any
abbrev pub EndsUnwritten : (ℕ → ℕ) → Link → Type 0
EndsUnwritten links NotWritten = Unit {0}
EndsUnwritten links Last = Unit {0}
EndsUnwritten links (Next s) = links s ≡ 0

-- Words spell these slots: the Start word names the first, the links give the others and then this end, which names no slot that
-- is written.
pub record IsSpelled (start : ℕ) (links : ℕ → ℕ) (slots : List ℕ) (end : Link) : Type 0 where
  pub starts : start ≡ start_number slots
  pub spelled : Spells links slots end
  pub fits : Fits slots end
  pub ends : EndsUnwritten links end
