-- What a crash leaves of the cells of a store, and what may be found there.
use Rattle.std.specs.Prelude.{◌-◌, ◌<◌, ◌≡◌, ℕ, List, length, map}
use Rattle.lock_word.specs.Words.{epoch_of, version_of}
use Rattle.link_word.specs.declared.link.Link.TheVariants.{Last}
use Rattle.rock_disk.specs.Cell.{CellState}
use Rattle.rebuild_model.specs.Entry.{Entry}
use Rattle.core_model.specs.declared.view.LoggedPiece.{LoggedPiece}
use Rattle.core_model.specs.Anchors.{opening_counter}
use Rattle.core_model.specs.State.{State, chain_of, word}
use Rattle.core_log.specs.Logged.{IsDurable}
use Rattle.crash_entries.specs.Parts.{Offers as Offered}
use Rattle.crash_laws.specs.Left.{IsLeftWhile}
use Rattle.store_rule.specs.Ground.{Ground, Offers, url_of}

-- what a read of each cell gives
abbrev pub bytes_now : {C : Type 0} → (C → CellState) → List C → List (List ℕ)
bytes_now cell cells = map (λ c. (cell c).now) cells

-- A crash leaves this of a state of a store, while any number of tabs write pieces that were logged.
abbrev pub IsLeftOf : Ground (List ℕ) → State (List ℕ) → List LoggedPiece → List (List ℕ) → Type 0
IsLeftOf g s log images = IsLeftWhile g.setting (λ x. x) s log images

-- an entry is the whole response of an offer
pub record IsOfOrigin (o : Offers) (e : Entry) : Type 0 where
  pub offer : ℕ
  pub url : e.url ≡ o.url offer
  pub body : e.body ≡ o.body offer

-- the offers of a store, by the numbers that stand beside anchors
abbrev pub offers_in : Ground (List ℕ) → Offered
offers_in g = record { url = url_of g; body = λ n. g.offers.body (n - g.setting.slots) }

-- The entry that stands at an anchor is new and whole, and each of its pieces was logged as durable.
pub record IsDurableEntry (g : Ground (List ℕ)) (s : State (List ℕ)) (log : List LoggedPiece) (a : ℕ) : Type 0 where
  pub new : opening_counter g.setting < version_of (epoch_of (word s a))
  pub some_slot : 0 < length (chain_of s a).slots
  pub closed : (chain_of s a).end ≡ Last
  pub durable : (place : ℕ) → place < length (chain_of s a).slots → IsDurable s log a place
