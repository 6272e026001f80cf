-- A slot that is full is followed by an empty one.
use Rattle.std.proofs.Common.{◌≡◌, ◌+◌, ◌*◌, ℕ, List, take, arith, ap, sym, ◌∙◌}
use Rattle.std.proofs.Math.Nat.{suc-mul}
use Rattle.std.proofs.Math.Numerals.{suc-eq-add-one}
use Rattle.std.proofs.lemmas.List.{drop_all}
use Rattle.entry_cut.specs.Filling.{CutterState, Holds}

pub next_holds : (before after : CutterState) (page new_page filled : List ℕ) → after.place ≡ before.place + 1 → after.held ≡ 0 → after.room ≡ before.room → before.held ≡ before.room → Holds before page filled
    → Holds after new_page filled
next_holds before after page new_page filled place held room full h =
    let more : (before.place + 1) * before.room ≡ before.place * before.room + before.room = ap (λ n. n * before.room) (sym (suc-eq-add-one before.place)) ∙ suc-mul before.place before.room in
    let start : after.place * after.room ≡ (before.place + 1) * before.room = ap (λ p. p * after.room) place ∙ ap (λ r. (before.place + 1) * r) room in
    record {
      within = omega (arith, held);
      count = omega (arith, h.count, full, held, more, start);
      bytes = ap (λ n. take n new_page) held ∙ sym (drop_all (after.place * after.room) filled (omega (arith, h.count, full, more, start)));
    }
