-- A tab that came to the end of its entry, turned from it, or found that its writer gave up, is answered so again.
use Rattle.std.proofs.Common.{Bool, List, [], ap, subst, sym, ◌++◌, ◌∙◌, ◌∷◌, ◌≡◌, true, ℕ}
use Rattle.rock_disk.specs.Cell.{CellState}
use Rattle.store_rule.specs.declared.store.Pass.{Pass}
use Rattle.store_rule.specs.declared.store.Store.{Store}
use Rattle.store_rule.specs.Ground.{Offers}
use Rattle.rock_reader.specs.Reading.{Gave, IsPiece, ReadsAs, Standing}
use Rattle.rock_reader.specs.declared.answer.More.{More}
use Rattle.rock_reader.specs.declared.answer.More.TheVariants as more
use Rattle.rock_reader.proofs.Stopped.{stays_at_end, stays_halted, stays_turned}
use Rattle.store_serve.specs.Following.{Given, Gives, WentOn}
use Rattle.crew_accounts.specs.Tracks.{HasEnded}

end_no_piece : (count : ℕ) → more.Piece count ≡ more.End → ⊥
end_no_piece count e = cc

halted_no_piece : (count : ℕ) → more.Piece count ≡ more.Halted → ⊥
halted_no_piece count e = cc

other_no_piece : (count : ℕ) → more.Piece count ≡ more.OtherUrl → ⊥
other_no_piece count e = cc

module _ {C O : Type 0} (tells : Bool) (state : C → CellState) (offers : O → Offers) (s : Store C O) (t : ℕ) (e : Standing) (p : Pass C) where
  -- Where each call from here comes to this answer, which is no piece, reading on comes to it at once.
  module _ (last : More) (stays : (before after : List ℕ) (q : Pass C) (answer : More) → Gave tells state offers s t p e before after q answer → answer ≡ last) (no_piece : (count : ℕ) → more.Piece count ≡ last → ⊥) where
    gives_none : (calls : List (Given C)) (f : Standing) (q : Pass C) (bytes : List ℕ) → Gives tells state offers s t e p calls f q bytes → (f ≡ e) × (q ≡ p) × (bytes ≡ [])
    gives_none [] f q bytes h = h
    gives_none (c ∷ earlier) f q bytes h =
        let standing = h.0 in
        let middle = h.1 in
        let before = gives_none earlier standing middle h.2 h.3 in
        let piece = subst (λ (z : Pass C). IsPiece tells state offers s t z e c.before c.after c.left c.count) before.1
        (subst (λ (z : Standing). IsPiece tells state offers s t middle z c.before c.after c.left c.count) before.0 h.4) in
        absurd (no_piece c.count (stays c.before c.after c.left (more.Piece c.count) piece))

    went_so : (q : Pass C) (bytes : List ℕ) (why : More) → WentOn tells state offers s t e p q bytes why → (why ≡ last) × (bytes ≡ [])
    went_so q bytes why h =
        let none = gives_none h.calls h.standing h.middle bytes h.gives in
        let ends = subst (λ (z : Pass C). Gave tells state offers s t z e h.before h.after q why) none.1
        (subst (λ (z : Standing). Gave tells state offers s t h.middle z h.before h.after q why) none.0 h.ends) in
        (stays h.before h.after q why ends, none.2)

  pub went_ended : ReadsAs tells state offers s p t e → HasEnded p t e → (q : Pass C) (bytes : List ℕ) (why : More) → WentOn tells state offers s t e p q bytes why → (why ≡ more.End) × (bytes ≡ [])
  went_ended reads at q bytes why h = went_so more.End (λ before after w answer gave. stays_at_end tells state offers s t p e reads before after w at.was at.some at.none answer gave) end_no_piece q bytes why h

  pub went_turned : ReadsAs tells state offers s p t e → e.is_other ≡ true → (q : Pass C) (bytes : List ℕ) (why : More) → WentOn tells state offers s t e p q bytes why → (why ≡ more.OtherUrl) × (bytes ≡ [])
  went_turned reads other q bytes why h = went_so more.OtherUrl (λ before after w answer gave. stays_turned tells state offers s t p e reads before after w other answer gave) other_no_piece q bytes why h

  pub went_halted : ReadsAs tells state offers s p t e → e.is_halted ≡ true → (q : Pass C) (bytes : List ℕ) (why : More) → WentOn tells state offers s t e p q bytes why → (why ≡ more.Halted) × (bytes ≡ [])
  went_halted reads halted q bytes why h = went_so more.Halted (λ before after w answer gave. (stays_halted tells state offers s t p e reads before after w halted answer gave).0) halted_no_piece q bytes why h
