-- Writing an entry: begin, append, finish, give up.
use Rattle.std.specs.Prelude.{ℕ, ◌+◌, ◌-◌, ◌==◌, ◌||◌, List, length, min, nat_lt, nat_le, slice_set, if◌then◌else◌, false, Option, Some, None, not}
use Rattle.script_text.specs.declared.answer.Answer.{Answer}
use Rattle.script_text.specs.declared.answer.Answer.TheVariants as answer
use Rattle.store_key.specs.Key.{key_of}
use Rattle.store_key.specs.Anchor.{anchor_of}
use Rattle.plain_model.specs.declared.entry.Life.{Life}
use Rattle.plain_model.specs.declared.entry.Life.TheVariants.{Growing, Whole, GivenUp}
use Rattle.plain_model.specs.declared.entry.Entry.{Entry}
use Rattle.plain_model.specs.declared.store.Setting.{Setting}
use Rattle.plain_model.specs.declared.store.Tab.{Tab}
use Rattle.plain_model.specs.declared.store.Tab.TheVariants.{Free, Writing, Reading}
use Rattle.plain_model.specs.declared.store.Plain.{Plain}
use Rattle.plain_model.specs.declared.store.Refusal.{Refusal}
use Rattle.plain_model.specs.declared.store.Refusal.TheVariants.{Full, Large}
use Rattle.plain_model.specs.Place.{vacated, ended}
use Rattle.plain_model.specs.Store.{place_at, entry_at, tab_at, meta_size, published, word_at, is_vacant_at, is_idle_at, is_left_over_at}
use Rattle.plain_model.specs.Slots.{Claimed, claim, Grown, grow}

-- what a request is answered, and what it leaves
pub record Step : Type 0 where
  pub answer : Answer
  pub after : Plain

abbrev pub step : Answer → Plain → Step
step answer after = record { answer = answer; after = after }

-- an entry that is left over goes
abbrev pub settle : ℕ → Plain → Plain
settle anchor p = (if is_left_over_at p anchor then record p { places = slice_set p.places anchor (vacated (place_at p anchor)) } else p)

-- the entry of a tab ends its growing
abbrev pub close_writer : Life → ℕ → ℕ → Plain → Plain
close_writer life tab anchor p = settle anchor (record p { tabs = slice_set p.tabs tab Free; places = slice_set p.places anchor (ended life (place_at p anchor)) })

abbrev pub refused_by : Refusal → Answer
refused_by Full = answer.Full
refused_by Large = answer.Large

-- how many bytes of its body an entry still lacks
abbrev pub lacking : Entry → ℕ
lacking e = length e.body - (e.content - meta_size e.url)

-- `count` bytes are added to an entry that has `content` of them, one slot's filling at a time
abbrev pub append : Setting → (anchor count content : ℕ) → Plain → Grown
append s anchor count content p = grow s anchor (content + count) (published s.room (content + count) - published s.room content) (published s.room content + 1) p

-- a version more is given out, and a new entry has the anchor
abbrev pub taken_by : ℕ → ℕ → Entry → Plain → Plain
taken_by tab anchor e p = record p {
  counter = p.counter + 1;
  places = slice_set p.places anchor (record { version = p.counter + 1; doom = false; entry = Some e });
  tabs = slice_set p.tabs tab (Writing anchor);
}

abbrev pub entry_of : (url body : List ℕ) → ℕ → Entry
entry_of url body offer = record { url = url; key = key_of url; body = body; offer = offer; content = meta_size url; life = Growing }

abbrev pub begin_at : Setting → (tab anchor : ℕ) → Entry → Plain → Step
begin_at s tab anchor e p =
    (if not (is_vacant_at p anchor || is_idle_at p anchor) then step (answer.Busy (word_at s p anchor) (word_at s p anchor)) p
    else (if nat_le 4294901760 p.counter then step (answer.Spent p.counter) p
    else step (answer.Begun (p.counter + 1)) (taken_by tab anchor e p)))

abbrev pub begin_free : Setting → ℕ → (url body : List ℕ) → ℕ → Plain → Step
begin_free s tab url body offer p = (if nat_lt s.room (meta_size url) then step answer.LongUrl p else begin_at s tab (anchor_of (key_of url) s.anchors) (entry_of url body offer) p)

abbrev pub begin : Setting → ℕ → (url body : List ℕ) → ℕ → Plain → Step
begin s tab url body offer p = on (tab_at p tab)
  where
    on : Tab → Step
    on (Writing at) = step answer.Tab p
    on (Reading at given is_other) = step answer.Tab p
    on Free = begin_free s tab url body offer p

-- after a refusal the entry was given up
abbrev pub unless_refused : ℕ → ℕ → (Plain → Step) → Grown → Step
unless_refused tab anchor next g = of_refusal g.refusal
  where
    of_refusal : Option Refusal → Step
    of_refusal None = next g.store
    of_refusal (Some refusal) = step (refused_by refusal) (close_writer GivenUp tab anchor g.store)

abbrev pub add : Setting → ℕ → ℕ → Plain → Step
add s tab count p = on (tab_at p tab)
  where
    to : ℕ → Option Entry → Step
    to anchor None = step answer.Tab p
    to anchor (Some e) = unless_refused tab anchor (step (answer.Added (min count (lacking e)))) (append s anchor (min count (lacking e)) e.content p)

    on : Tab → Step
    on Free = step answer.Tab p
    on (Reading at given is_other) = step answer.Tab p
    on (Writing anchor) = to anchor (entry_at p anchor)

-- the last slot: nothing is needed for it but where nothing was published
abbrev pub last_slot : Setting → ℕ → Plain → Grown
last_slot s content p = (if published s.room content == 0 then grown (claim s 0 p) else record { store = p; refusal = None })
  where
    grown : Claimed → Grown
    grown c = record { store = c.store; refusal = (if c.done then None else Some Full) }

abbrev pub finish : ℕ → ℕ → Plain → Step
finish tab anchor p = step (if (place_at p anchor).doom then answer.Doomed (place_at p anchor).version else answer.Stored (place_at p anchor).version) (close_writer Whole tab anchor p)

abbrev pub end : Setting → ℕ → Plain → Step
end s tab p = on (tab_at p tab)
  where
    to : ℕ → Option Entry → Step
    to anchor None = step answer.Tab p
    to anchor (Some e) = unless_refused tab anchor (λ q. unless_refused tab anchor (finish tab anchor) (last_slot s (e.content + lacking e) q)) (append s anchor (lacking e) e.content p)

    on : Tab → Step
    on Free = step answer.Tab p
    on (Reading at given is_other) = step answer.Tab p
    on (Writing anchor) = to anchor (entry_at p anchor)

abbrev pub give_up : ℕ → Plain → Step
give_up tab p = on (tab_at p tab)
  where
    on : Tab → Step
    on Free = step answer.Tab p
    on (Reading at given is_other) = step answer.Tab p
    on (Writing anchor) = step answer.Dropped (close_writer GivenUp tab anchor p)
