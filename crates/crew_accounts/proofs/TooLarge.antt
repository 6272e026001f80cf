-- An entry that was given up as too large has a content that needs more slots than an entry may have.
use Rattle.std.proofs.Common.{Bool, List, [], arith, inl, inr, length, min, mul-le-mul_right, refl, ◌*◌, ◌+◌, ◌∷◌, ◌<◌, ◌≡◌, ◌≤◌, ℕ}
use Rattle.std.specs.Prelude.{◌≢◌}
use Rattle.rock_disk.specs.Cell.{CellState}
use Rattle.script_text.specs.declared.answer.Answer.TheVariants as answer
use Rattle.entry_cut.specs.Content.{room_of}
use Rattle.store_rule.specs.declared.store.Pass.{Pass}
use Rattle.store_rule.specs.declared.store.Store.{Store}
use Rattle.store_rule.specs.Ground.{Ground, Offers}
use Rattle.store_rule.specs.Passes.{basis, view}
use Rattle.rock_writer.specs.Appending.{IsFull, NotAppended, place_of}
use Rattle.rock_writer.specs.Entries.{Entry, body_in, size_of, url_in}
use Rattle.rock_writer.specs.Finishing.{NotWrittenLast}
use Rattle.rock_writer.specs.Flushing.{IsAtLimit}
use Rattle.rock_writer.specs.declared.fault.WriteFault.{WriteFault}
use Rattle.rock_writer.specs.declared.fault.WriteFault.TheVariants.{Fault, Full, Large}
use Rattle.rock_writer.proofs.Sizes.{more_there}
use Rattle.store_serve.specs.Adding.{NotAdded, taken_on}
use Rattle.store_serve.specs.Storing.{NotEnded}
use Rattle.store_serve.specs.Answers.{answer_to_fault}

-- so many bytes of metadata, URL and body need more slots than an entry may have
abbrev pub NeedsTooMany : {X : Type 0} → Ground X → (url body : List ℕ) → Type 0
NeedsTooMany g url body = min 4096 g.setting.slots * room_of g.slot < 32 + length url + length body

some_bytes : (xs : List ℕ) → xs ≢ [] → length xs ≢ 0
some_bytes [] some e = some refl
some_bytes (x ∷ xs) some e = omega arith

is_large : (cause : WriteFault) → answer_to_fault cause ≡ answer.Large → cause ≡ Large
is_large Large is = refl
is_large Full is = cc
is_large Fault is = cc

-- a slot that is full is the last one that there may be, and bytes are left
past_limit : (most place room size whole : ℕ) → most ≤ place + 1 → size ≡ (place + 1) * room → size < whole → most * room < whole
past_limit most place room size whole limit full more = let m = mul-le-mul_right room limit in omega arith

at_limit : {X : Type 0} (g : Ground X) (e : Entry) → IsAtLimit g (place_of g e) → IsFull g e → e.taken < length (body_in g e) → NeedsTooMany g (url_in g e) (body_in g e)
at_limit g e limit full more = past_limit (min 4096 g.setting.slots) (place_of g e) (room_of g.slot) (size_of g e) (32 + length (url_in g e) + length (body_in g e)) limit full (omega arith)

module _ {C O : Type 0} (tells : Bool) (state : C → CellState) (offers : O → Offers) (s : Store C O) (t : ℕ) where
  abbrev g : Ground (List ℕ)
  g = basis tells state offers s

  appended_large : (e : Entry) (bytes : List ℕ) (p q : Pass C) (cause : WriteFault) → NotAppended tells state offers s t e bytes p q cause → cause ≡ Large → NeedsTooMany g (url_in g e) (body_in g e)
  appended_large e bytes p q cause k is = at_limit g e (k.limit.0 is) k.full (more_there (body_in g e) bytes e.taken k.continues (some_bytes bytes k.some))

  added_large : (e : Entry) (p q : Pass C) (cause : WriteFault) → NotAdded tells state offers s t e p q cause → cause ≡ Large → NeedsTooMany g (url_in g e) (body_in g e)
  added_large e p q cause k is = appended_large (taken_on e k.total) k.bytes k.middle q cause k.stopped is

  -- where bytes of the body were to be added, and where it was to be written to its end
  pub not_added_large : (e : Entry) (p q : Pass C) (cause : WriteFault) → NotAdded tells state offers s t e p q cause → answer_to_fault cause ≡ answer.Large → NeedsTooMany g (url_in g e) (body_in g e)
  not_added_large e p q cause k is = added_large e p q cause k (is_large cause is)

  pub not_ended_large : (e : Entry) (p q : Pass C) (cause : WriteFault) → NotEnded tells state offers s t e p q cause → answer_to_fault cause ≡ answer.Large → NeedsTooMany g (url_in g e) (body_in g e)
  not_ended_large e p q cause (inl k) is = added_large e p q cause k (is_large cause is)
  not_ended_large e p q cause (inr k) is = absurd (not_last cause (is_large cause is) k.stopped.stopped)
    where
      not_last : (f : WriteFault) → f ≡ Large → NotWrittenLast g t k.middle.hand e.is_durable (view k.middle) f k.stopped.middle q.hand → ⊥
      not_last Large same h = h
      not_last Full same h = cc
      not_last Fault same h = cc
