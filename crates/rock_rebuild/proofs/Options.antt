-- What is told of an option.
use Rattle.std.proofs.Common.{◌≡◌, subst}
use Rattle.std.specs.Prelude.{Option, None, Some, MatchOption}

-- of one that is there, and of one that is not
pub at_some : {X : Type 0} (A : Type 0) (B : X → Type 0) {o : Option X} {x : X} → o ≡ Some x → MatchOption o A B → B x
at_some A B is told = subst (λ o. MatchOption o A B) is told

pub at_none : {X : Type 0} (A : Type 0) (B : X → Type 0) {o : Option X} → o ≡ None → MatchOption o A B → A
at_none A B is told = subst (λ o. MatchOption o A B) is told

-- of two that are there
pub one_of : {X : Type 0} {o : Option X} {x y : X} → o ≡ Some x → o ≡ Some y → x ≡ y
one_of first second = cc

pub not_both : {X : Type 0} {o : Option X} {x : X} → o ≡ None → o ≡ Some x → ⊥
not_both none some = cc
