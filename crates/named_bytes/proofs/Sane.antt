-- A slot whose bytes are those of a piece is sane.
use Rattle.std.proofs.Common.{rules, ◌≡◌, inl, inr, ℕ, ◌+◌, ◌*◌, ◌<◌, ◌≤◌, ◌^◌, List, length, drop, refl, sym, subst, arith}
use Rattle.std.specs.Prelude.{pos, negsuc, ◌≤ℤ◌, ◌<ℤ◌}
use Rattle.std.proofs.lemmas.Bool.{cases_lt}
use Rattle.std.proofs.lemmas.List.{length-take}
use Rattle.link_word.specs.declared.link.Link.{Link}
use Rattle.link_word.specs.declared.link.Link.TheVariants.{Last, Next, NotWritten}
use Rattle.slot_cell.specs.declared.header.Header.{Header}
use Rattle.slot_cell.specs.Header.{IsSane, header_of}
use Rattle.entry_cut.specs.Content.{Cut, content, count, payload, piece, room_of, slots_needed}
use Rattle.crash_entries.specs.Parts.{KeepsTo, Offers, Part, bytes_of, cut_of, next_number}
use Rattle.crash_entries.proofs.Telling.{Tools, read}

-- pieces fill their slots, but for the last
abbrev pub Full : Type 0
Full = (content : List ℕ) (slot k : ℕ) → 40 < slot → k + 1 < slots_needed (length content) slot → length (piece (room_of slot) content k) ≡ room_of slot

next_from : (l : Link) → negsuc 0 ≤ℤ next_number l
next_from NotWritten = search rules
next_from Last = search rules
next_from (Next t) = search rules

next_below : (l : Link) (n : ℕ) → ((t : ℕ) → l ≡ Next t → t < n) → next_number l <ℤ pos n
next_below NotWritten n low = search rules
next_below Last n low = search rules
next_below (Next t) n low = let below : t < n = low t refl in search rules

module _ (t : Tools) (full : Full) (slot anchors slots : ℕ) (o : Offers) (p : Part) (h : KeepsTo slot anchors slots o p) (sized : slot < 2 ^ 32) (few : slots ≤ 1048576) (inside : p.place < count (cut_of slot o p)) where
  abbrev c : Cut
  c = cut_of slot o p

  room : 40 < slot
  room = let y = h.short in omega arith

  some_byte : 0 < length (payload c p.place)
  some_byte = elim (cases_lt (p.place + 1) (count c)) as (λ _. 0 < length (payload c p.place)) [
    | inl less ↦ let f = full (content c) slot p.place room less in let r = room in omega arith
    | inr more ↦ (t.ends (content c) slot p.place room (omega (arith, inside, more))).0
  ]

  within_slot : length (payload c p.place) + 40 ≤ slot
  within_slot = let exact = length-take (room_of slot) (drop (p.place * room_of slot) (content c)) in let r = room in omega (arith, exact)

  low_first : pos p.first <ℤ pos slots
  low_first = let z = h.first_low in search rules

  pub piece_sane : IsSane (header_of (bytes_of slot o p)) slots slot
  piece_sane = subst (λ (x : Header). IsSane x slots slot) (sym (read t slot anchors slots o p h sized few)) record {
    first_from = search rules;
    first_below = low_first;
    next_from = next_from p.next;
    next_below = next_below p.next slots h.next_low;
    version_from = h.version_from;
    version_to = h.version_to;
    payload_from = some_byte;
    payload_to = within_slot;
  }
