-- Versions that answers tell, named anew.
use Rattle.std.proofs.Common.{◌≡◌, ◌∙◌, ℕ, List, [], ◌∷◌, ◌++◌, map, refl, sym, ap}
use Rattle.std.proofs.lemmas.List.{map-append}
use Rattle.script_text.specs.declared.line.Line.{Line}
use Rattle.script_text.specs.declared.request.Request.{Request}
use Rattle.script_text.specs.declared.request.Request.TheVariants.{Put, Save, Begin}
use Rattle.script_text.specs.declared.answer.Answer.{Answer}
use Rattle.script_text.specs.declared.answer.Answer.TheVariants as answer
use Rattle.plain_laws.specs.Begun.{told_begun, told_stored, begun_by, begun}
use Rattle.plain_laws.specs.Renaming.{renamed}

told_begun_renamed : (rename : ℕ → ℕ) (a : Answer) → told_begun (renamed rename a) ≡ map rename (told_begun a)
told_begun_renamed rename (answer.Begun version) = refl
told_begun_renamed rename a = refl

told_stored_renamed : (rename : ℕ → ℕ) (a : Answer) → told_stored (renamed rename a) ≡ map rename (told_stored a)
told_stored_renamed rename (answer.Stored version) = refl
told_stored_renamed rename (answer.Doomed version) = refl
told_stored_renamed rename a = refl

by_renamed : (rename : ℕ → ℕ) (request : Request) (a : Answer) → begun_by request (renamed rename a) ≡ map rename (begun_by request a)
by_renamed rename (Put url made) a = told_stored_renamed rename a
by_renamed rename (Save url made) a = told_stored_renamed rename a
by_renamed rename (Begin tab url made) a = told_begun_renamed rename a
by_renamed rename _ a = refl

pub begun_renamed : (rename : ℕ → ℕ) (lines : List Line) (given : List Answer) → begun lines (map (renamed rename) given) ≡ map rename (begun lines given)
begun_renamed rename [] given = refl
begun_renamed rename (line ∷ lines) [] = refl
begun_renamed rename (line ∷ lines) (a ∷ given) =
    ap (λ (xs : List ℕ). xs ++ begun lines (map (renamed rename) given)) (by_renamed rename line.request a)
    ∙ ap (λ (xs : List ℕ). map rename (begun_by line.request a) ++ xs) (begun_renamed rename lines given)
    ∙ sym (map-append rename (begun_by line.request a) (begun lines given))
