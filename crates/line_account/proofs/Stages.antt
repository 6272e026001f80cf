-- The lines that a worker served, as stages of its course.
use Rattle.std.proofs.Common.{Contains, List, [], ap, arith, refl, subst, sym, ◌++◌, ◌∙◌, ◌∷◌, ◌≡◌}
use Rattle.std.proofs.lemmas.List.Elements.{Contains-append_right}
use Rattle.line_account.specs.Courses.{Stage, lines_in}
use Rattle.line_account.specs.Lines.{Served}
use Rattle.line_account.specs.Order.{StandsIn}
use Rattle.line_account.specs.Crews.{IsAmong}

module _ {X : Type 0} where
  -- a line that was served is one of the stages
  pub record HasStage (stages : List (Stage X)) (t : Served) (earlier : List Served) : Type 0 where
    pub stage : Stage X
    pub before : List (Stage X)
    pub stands : StandsIn stages stage before
    pub served_is : stage.served ≡ t
    pub lines_are : lines_in before ≡ earlier

  split_at : (stages : List (Stage X)) (later earlier : List Served) (t : Served) → lines_in stages ≡ later ++ t ∷ earlier → HasStage stages t earlier
  split_at [] [] earlier t e = absurd cc
  split_at [] (x ∷ later) earlier t e = absurd cc
  split_at (s ∷ stages) [] earlier t e = record { stage = s; before = stages; stands = record { later = []; split = refl }; served_is = cc; lines_are = cc }
  split_at (s ∷ stages) (x ∷ later) earlier t e = let h = split_at stages later earlier t cc in record {
    stage = h.stage;
    before = h.before;
    stands = record { later = s ∷ h.stands.later; split = ap (λ z. s ∷ z) h.stands.split };
    served_is = h.served_is;
    lines_are = h.lines_are;
  }

  pub stage_of : (stages : List (Stage X)) (served : List Served) (t : Served) (earlier : List Served) → lines_in stages ≡ served → IsAmong served t earlier → HasStage stages t earlier
  stage_of stages served t earlier same among = split_at stages among.later earlier t (same ∙ among.split)

  -- what stands among stages is in them
  pub is_in : (stages before : List (Stage X)) (t : Stage X) → StandsIn stages t before → Contains stages t
  is_in stages before t s = subst (λ z. Contains z t) (sym s.split) (Contains-append_right s.later (t ∷ before) t (0, omega arith, refl))

  -- what holds of the stage and of those before it holds of the line, and the other way round
  pub of_line : (P : List Served → Served → Type 0) (stages : List (Stage X)) (t : Served) (earlier : List Served) → (h : HasStage stages t earlier) → P (lines_in h.before) h.stage.served → P earlier t
  of_line P stages t earlier h p = subst (λ z. P earlier z) h.served_is (subst (λ z. P z h.stage.served) h.lines_are p)

  pub of_stage : (P : List Served → Served → Type 0) (stages : List (Stage X)) (t : Served) (earlier : List Served) → (h : HasStage stages t earlier) → P earlier t → P (lines_in h.before) h.stage.served
  of_stage P stages t earlier h p = subst (λ z. P (lines_in h.before) z) (sym h.served_is) (subst (λ z. P z t) (sym h.lines_are) p)
