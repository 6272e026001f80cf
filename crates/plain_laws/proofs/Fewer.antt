-- Fewer lines fit where all do.
use Rattle.std.proofs.Common.{◌≡◌, ℕ, ◌+◌, ◌≤◌, List, [], ◌∷◌, sum_by, refl, arith, Bool, true, false}
use Rattle.std.specs.Prelude.{filter, max}
use Rattle.std.specs.List.{range_with_len}
use Rattle.std.proofs.lemmas.List.Sums.{sum_by-le-sum_by}
use Rattle.script_text.specs.declared.line.Line.{Line}
use Rattle.plain_model.specs.declared.store.Setting.{Setting}
use Rattle.plain_model.specs.declared.store.Plain.{Plain}
use Rattle.plain_model.specs.Store.{place_at}
use Rattle.plain_model.specs.Slots.{held}
use Rattle.plain_laws.specs.Fitting.{need_at, most_needed, most_held, Fits}
use Rattle.plain_laws.proofs.Running.{offers_in, offers_cons}

fewer_need : (s : Setting) (a : ℕ) (these : Line → Bool) (lines : List Line) → most_needed s a (filter these lines) ≤ most_needed s a lines
fewer_need s a these [] = omega arith
fewer_need s a these (line ∷ lines) = by_test (these line) refl (fewer_need s a these lines)
  where
    by_test : (b : Bool) → these line ≡ b → most_needed s a (filter these lines) ≤ most_needed s a lines → most_needed s a (filter these (line ∷ lines)) ≤ most_needed s a (line ∷ lines)
    by_test true t less =
        let is : most_needed s a (filter these (line ∷ lines)) ≡ max (need_at s a line.request) (most_needed s a (filter these lines)) = rw t refl in omega arith
    by_test false t less =
        let is : most_needed s a (filter these (line ∷ lines)) ≡ most_needed s a (filter these lines) = rw t refl in omega arith

fewer_hold : (s : Setting) (p : Plain) (these : Line → Bool) (lines : List Line) (a : ℕ) → most_held s (filter these lines) p a ≤ most_held s lines p a
fewer_hold s p these lines a =
    let less = fewer_need s a these lines in
    let most : max (held s.room (place_at p a)) (most_needed s a (filter these lines)) ≤ max (held s.room (place_at p a)) (most_needed s a lines) = omega arith in most

fewer_offer : (these : Line → Bool) (lines : List Line) → offers_in (filter these lines) ≤ offers_in lines
fewer_offer these [] = omega arith
fewer_offer these (line ∷ lines) = by_test (these line) refl (fewer_offer these lines)
  where
    by_test : (b : Bool) → these line ≡ b → offers_in (filter these lines) ≤ offers_in lines → offers_in (filter these (line ∷ lines)) ≤ offers_in (line ∷ lines)
    by_test true t less =
        let is : offers_in (filter these (line ∷ lines)) ≡ offers_in (line ∷ filter these lines) = rw t refl in
        omega (arith, is, offers_cons line (filter these lines), offers_cons line lines)
    by_test false t less =
        let is : offers_in (filter these (line ∷ lines)) ≡ offers_in (filter these lines) = rw t refl in
        omega (arith, is, offers_cons line lines)

pub fewer_fit : (s : Setting) (lines : List Line) (p : Plain) (these : Line → Bool) → Fits s lines p → Fits s (filter these lines) p
fewer_fit s lines p these h = record {
  slots = (let all = h.slots in
      let less : sum_by (most_held s (filter these lines) p) (range_with_len 0 s.anchors) ≤ sum_by (most_held s lines p) (range_with_len 0 s.anchors) =
      sum_by-le-sum_by (most_held s (filter these lines) p) (most_held s lines p) (range_with_len 0 s.anchors) (fewer_hold s p these lines) in omega (arith, all, less));
  versions = (let all : p.counter + offers_in lines ≤ 4294901760 = h.versions in let less = fewer_offer these lines in omega (arith, all, less));
}
