-- A kind that has no arm names no move: the rows of 0, 23 and 24 are none, and there are no others.
use Rattle.std.proofs.Common.{◌≡◌, ◌∙◌, ℕ, List, Option, None, get_or, sym, refl, ap, arith}
use Rattle.std.proofs.lemmas.List.{get_or_past}
use mathlib.Core.Logic.{dite}
use native.Mathlib.Decide.{ℕ_discrete}
use Rattle.core_model.specs.declared.moves.Move.{Move}
use Rattle.core_state.specs.Decoded.{moves_of}
use Rattle.core_state.proofs.decode.decode.Goals as goal

at_row : (rows : List (Option Move)) (n k : ℕ) → n ≡ k → get_or rows k None ≡ None → None ≡ get_or rows n None
at_row rows n k e is_none = sym (ap (λ (i : ℕ). get_or rows i None) e ∙ is_none)

pub returns-in_default : goal.returns-in_default
returns-in_default c =
    let n = c.args.act.now.kind in let rows = moves_of c.args.act.now in let h = c.in_default in
    dite (ℕ_discrete n 0) (λ e. at_row rows n 0 e refl) (λ not0.
    dite (ℕ_discrete n 23) (λ e. at_row rows n 23 e refl) (λ not23.
    dite (ℕ_discrete n 24) (λ e. at_row rows n 24 e refl) (λ not24.
    sym (get_or_past rows n None (omega arith)))))
