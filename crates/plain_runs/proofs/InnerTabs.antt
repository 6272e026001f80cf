-- A tab that reads on leaves the inner tab as it is.
use Rattle.std.proofs.Common.{Bool, List, [], ap, false, inl, inr, true, ◌∙◌, ◌∷◌, ◌≡◌, ◌≢◌, ◌⊎◌, ℕ}
use Rattle.rock_disk.specs.Cell.{CellState}
use Rattle.core_model.specs.Tabs.{inner, tab_at}
use Rattle.store_rule.specs.declared.store.Pass.{Pass}
use Rattle.store_rule.specs.declared.store.Store.{Store}
use Rattle.store_rule.specs.Ground.{Ground, Offers}
use Rattle.store_rule.specs.Passes.{basis, view}
use Rattle.rock_reader.specs.Reading.{Gave, HasTried, Standing, StaysOther, TurnsOut}
use Rattle.rock_reader.specs.declared.answer.More.{More}
use Rattle.rock_reader.specs.declared.answer.More.TheVariants as more
use Rattle.rock_reader.proofs.InnerTab.{looked_inner, read_inner}
use Rattle.store_serve.specs.Following.{Given, Gives, WentOn}

module _ {C O : Type 0} (tells : Bool) (state : C → CellState) (offers : O → Offers) (s : Store C O) (t : ℕ) (far : inner ≢ t) where
  abbrev g : Ground (List ℕ)
  g = basis tells state offers s

  -- it is as it was
  abbrev InnerSame : Pass C → Pass C → Type 0
  InnerSame p q = tab_at (view q) inner ≡ tab_at (view p) inner

  tried_inner : (p : Pass C) (e : Standing) (before after : List ℕ) (q : Pass C) (done : Bool) → HasTried tells state offers s t p e before after q done → InnerSame p q
  tried_inner p e before after q done h = read_inner g t far done h.cell h.middle (view q) h.read ∙ looked_inner g t far h.epoch h.link (view p) h.middle h.found

  gave_inner : (p : Pass C) (e : Standing) (before after : List ℕ) (q : Pass C) (answer : More) → Gave tells state offers s t p e before after q answer → InnerSame p q
  gave_inner p e before after q (more.Piece count) h = tried_inner p e before after q true h.tried
  gave_inner p e before after q (more.NotYet epoch) h = looked_inner g t far epoch _ (view p) (view q) h.waits.found
  gave_inner p e before after q more.End h = ap (λ (z : Pass C). tab_at (view z) inner) h.still
  gave_inner p e before after q more.Halted h = looked_inner g t far h.epoch _ (view p) (view q) h.waits.found
  gave_inner p e before after q more.OtherUrl h = of_other h
    where
      of_other : StaysOther tells state offers s t p e before after q ⊎ TurnsOut tells state offers s t p e before after q → InnerSame p q
      of_other (inl k) = ap (λ (z : Pass C). tab_at (view z) inner) k.still
      of_other (inr k) = tried_inner p e before after q true k.tried
  gave_inner p e before after q more.Fault h = tried_inner p e before after q false h.tried

  gives_inner : (e : Standing) (p : Pass C) (calls : List (Given C)) (f : Standing) (q : Pass C) (bytes : List ℕ) → Gives tells state offers s t e p calls f q bytes → InnerSame p q
  gives_inner e p [] f q bytes h = ap (λ (z : Pass C). tab_at (view z) inner) h.1
  gives_inner e p (c ∷ earlier) f q bytes h = ap (λ (z : Pass C). tab_at (view z) inner) h.6 ∙ gave_inner h.1 h.0 c.before c.after c.left (more.Piece c.count) h.4 ∙ gives_inner e p earlier h.0 h.1 h.2 h.3

  pub went_inner : (e : Standing) (p q : Pass C) (bytes : List ℕ) (answer : More) → WentOn tells state offers s t e p q bytes answer → InnerSame p q
  went_inner e p q bytes answer h = gave_inner h.middle h.standing h.before h.after q answer h.ends ∙ gives_inner e p h.calls h.standing h.middle bytes h.gives
