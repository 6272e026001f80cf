-- A store that was opened over a file fits exactly where the script of its lines fits into the file.
use Rattle.std.proofs.Common.{Bool, IsTrue, List, ap, arith, inl, inr, length, max, min, suc, sum_by, sym, zero, ⊎_elim, ◌+◌, ◌<◌, ◌∙◌, ◌≡◌}
use Rattle.std.proofs.Common.{◌≤◌, ◌⊎◌, ℕ}
use Rattle.std.specs.Prelude.{nat_le, nat_lt, ◌↔◌}
use Rattle.std.specs.List.{range_with_len}
use Rattle.std.proofs.lemmas.Bool.{and_from, and_parts, le-leb, leb-true, lt-ltb}
use Rattle.std.proofs.lemmas.List.Sums.{sum_by-cons}
use Rattle.rock_disk.specs.Cell.{CellState}
use Rattle.rebuild_model.specs.Entry.{Entry}
use Rattle.rebuild_model.specs.Rebuilt.{IsWinner}
use Rattle.script_text.specs.declared.line.Line.{Line}
use Rattle.store_rule.specs.Ground.{Ground, fits, need_of}
use Rattle.crew_accounts.specs.Openings.{HadKept, HadNone, OpenedAsKept}
use Rattle.rock_run.specs.Offered.{most_taken, offers_of}
use Rattle.run_rules.specs.Fitting.{FitsInto, KeepsNone, KeepsSlots, most_held}

-- sums over numbers of anchors, each item of which is at most the other's
pub sum_below : (f g : ℕ → ℕ) (from n : ℕ) → ((a : ℕ) → a < from + n → f a ≤ g a)
    → sum_by f (range_with_len from n) ≤ sum_by g (range_with_len from n)
sum_below f g from zero h = omega arith
sum_below f g from (suc n) h =
    let first = sum_by-cons f from (range_with_len (from + 1) n) in
    let second = sum_by-cons g from (range_with_len (from + 1) n) in
    let here = h from (omega arith) in
    let rest = sum_below f g (from + 1) n (λ a lt. h a (omega arith)) in
    omega arith

-- where one entry is kept at an anchor, the number of its slots is one
abbrev pub OneWinner : Type 0
OneWinner = (slot : ℕ) (images : List (List ℕ)) (anchors anchor : ℕ) (e f : Entry) → IsWinner slot images anchors anchor e
    → IsWinner slot images anchors anchor f → e ≡ f

module _ {C : Type 0} (told : Bool) (state : C → CellState) (g : Ground (List ℕ)) (slot anchors : ℕ) (script : List Line) (cells : List C)
    (o : OpenedAsKept told state g slot anchors cells)
    (one : OneWinner) (anchors_are : g.setting.anchors ≡ anchors) (slot_is : g.slot ≡ slot)
    (slots_are : g.setting.slots ≡ length o.kept.images) (offers_are : g.offers ≡ offers_of script)
    (some : 0 < length o.kept.images) where
  abbrev images : List (List ℕ)
  images = o.kept.images

  -- how many slots each anchor had
  abbrev chained : ℕ → ℕ
  chained a = length (g.chain a)

  kept_there : (a : ℕ) → a < anchors → KeepsSlots slot anchors images a (chained a) ⊎ KeepsNone slot anchors images a (chained a)
  kept_there a lt = ⊎_elim
      (λ (h : HadKept g slot anchors images a). inl record { entry = h.entry; winner = h.winner; count_is = ap length h.chain })
      (λ (h : HadNone g slot anchors images a). inr record { none = h.none; count_is = ap length h.chain })
      (o.each a lt)

  -- no other number of slots is kept there
  one_number : (a m n : ℕ) → KeepsSlots slot anchors images a m ⊎ KeepsNone slot anchors images a m
      → KeepsSlots slot anchors images a n ⊎ KeepsNone slot anchors images a n → m ≡ n
  one_number a m n (inl h) (inl k) = h.count_is ∙ ap (λ (e : Entry). length e.chain)
      (one slot images anchors a h.entry k.entry h.winner k.winner) ∙ sym k.count_is
  one_number a m n (inl h) (inr k) = absurd (k.none h.entry h.winner.complete h.winner.at)
  one_number a m n (inr h) (inl k) = absurd (h.none k.entry k.winner.complete k.winner.at)
  one_number a m n (inr h) (inr k) = h.count_is ∙ sym k.count_is

  -- the sum that the store goes by
  abbrev summed : ℕ
  summed = sum_by (λ a. max (min (need_of g a) g.setting.slots) (chained a)) (range_with_len 0 g.setting.anchors)

  -- is that of the script and the file
  same_sum : summed ≡ sum_by (most_held slot anchors images script chained) (range_with_len 0 anchors)
  unfolding offers_of
  same_sum = λ i. sum_by (λ a. max (min ((offers_are i).need (anchors_are i) (slot_is i) a) (slots_are i)) (chained a))
      (range_with_len 0 (anchors_are i))

  into : IsTrue (fits g) → FitsInto slot anchors images script
  unfolding fits
  into fit =
      let within = leb-true summed g.setting.slots ((and_parts (nat_lt 0 g.setting.slots) (nat_le summed g.setting.slots) fit).1) in
      let same = same_sum in
      record { kept = chained; file = kept_there; enough = omega (arith, within, same, slots_are) }

  back : FitsInto slot anchors images script → IsTrue (fits g)
  unfolding fits
  back f =
      let less = sum_below (most_held slot anchors images script chained) (most_held slot anchors images script f.kept) 0 anchors
      (λ a lt. let small : a < anchors = omega (arith, lt) in
      let same = ap (λ (n : ℕ). max (min (most_taken anchors slot a script) (length images)) n)
      (one_number a (chained a) (f.kept a) (kept_there a small) (f.file a small)) in omega arith) in
      let same = same_sum in
      let within = f.enough in
      let at_most = le-leb summed g.setting.slots (omega (arith, less, same, within, slots_are)) in
      let there = lt-ltb 0 g.setting.slots (omega (arith, some, slots_are)) in
      and_from (nat_lt 0 g.setting.slots) (nat_le summed g.setting.slots) there at_most

  pub fits_is : IsTrue (fits g) ↔ FitsInto slot anchors images script
  fits_is = (into, back)
