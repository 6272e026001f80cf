-- What comes with a turn, as it is gathered: whether a piece is among the known sights and the news, by the test that Sight derives.
use Rattle.std.proofs.Common.{◌≡◌, ◌∙◌, List, [], ◌∷◌, ◌++◌, ap, arith, reverse, refl, rules, subst, sym, Bool, true, false, ◌||◌}
use Rattle.std.specs.List.{list_any}
use Rattle.std.proofs.lemmas.Grind.{common_steps}
use Rattle.std.proofs.lemmas.List.{reverse-append}
use Rattle.core_model.specs.declared.view.LoggedPiece.{LoggedPiece}
use Rattle.core_model.specs.declared.view.Sight.{Sight}
use Rattle.core_model.specs.declared.view.Sight.TheVariants.{Logged}
use Rattle.core_model.specs.contracts.view.SightEq.TheImpl.Laws.{laws-law}
use Rattle.core_model.specs.contracts.view.SightPartialEq.TheImpl.{ghosts}
use Rattle.core_model.specs.CellMoves.{has_piece, is_logged_as, is_sight_of}

-- The derived test of two sights, and that of the definition.

equal_is : (x y : Sight) → ghosts.eq x y ≡ true → x ≡ y
equal_is x y h = search rules

is_equal : (x y : Sight) → x ≡ y → ghosts.eq x y ≡ true
is_equal x y e = subst (λ (z : Sight). ghosts.eq x z ≡ true) e (laws-law.refl x)

logged_is : (l m : LoggedPiece) → is_logged_as l m ≡ true → l ≡ m
logged_is l m h = search rules

is_logged : (l : LoggedPiece) → is_logged_as l l ≡ true
is_logged l = grind (arith, common_steps)

sight_is : (l : LoggedPiece) (x : Sight) → is_sight_of l x ≡ true → x ≡ Logged l
sight_is l x h = search (rules, logged_is)

same_flag : (a b : Bool) → (a ≡ true → b ≡ true) → (b ≡ true → a ≡ true) → a ≡ b
same_flag true b f g = sym (f refl)
same_flag false true f g = g refl
same_flag false false f g = refl

same_sight : (l : LoggedPiece) (x : Sight) → ghosts.eq x (Logged l) ≡ is_sight_of l x
same_sight l x = same_flag (ghosts.eq x (Logged l)) (is_sight_of l x)
    (λ h. subst (λ (z : Sight). is_sight_of l z ≡ true) (sym (equal_is x (Logged l) h)) (is_logged l))
    (λ h. is_equal x (Logged l) (sight_is l x h))

-- Whether a list has a piece, and whether two lists do.

any_has : (l : LoggedPiece) (xs : List Sight) → list_any (λ y. ghosts.eq y (Logged l)) xs ≡ has_piece l xs
any_has l [] = refl
any_has l (x ∷ xs) = let a = same_sight l x in let b = any_has l xs in cc

has_both : (l : LoggedPiece) (xs ys : List Sight) → has_piece l (xs ++ ys) ≡ (has_piece l xs || has_piece l ys)
has_both l [] ys = refl
has_both l (x ∷ xs) ys = by (is_sight_of l x) (has_both l xs ys)
  where
    by : (b : Bool) → has_piece l (xs ++ ys) ≡ (has_piece l xs || has_piece l ys) → (b || has_piece l (xs ++ ys)) ≡ ((b || has_piece l xs) || has_piece l ys)
    by true h = refl
    by false h = h

swapped : (a b : Bool) → (a || (b || false)) ≡ (b || a)
swapped true true = refl
swapped true false = refl
swapped false true = refl
swapped false false = refl

has_reverse : (l : LoggedPiece) (xs : List Sight) → has_piece l (reverse xs) ≡ has_piece l xs
has_reverse l [] = refl
has_reverse l (x ∷ xs) =
    ap (has_piece l) (reverse-append (x ∷ []) xs)
    ∙ (has_both l (reverse xs) (x ∷ []) ∙ (ap (λ b. b || (is_sight_of l x || false)) (has_reverse l xs) ∙ swapped (has_piece l xs) (is_sight_of l x)))

module _ (l : LoggedPiece) (x : Sight) (e : x ≡ Logged l) (news known : List Sight) where
  abbrev is_among : List Sight → Bool
  is_among xs = list_any (λ y. ghosts.eq y x) xs

  among : (xs : List Sight) → is_among xs ≡ has_piece l xs
  among xs = ap (λ (z : Sight). list_any (λ y. ghosts.eq y z) xs) e ∙ any_has l xs

  has_either : (a : Bool) → has_piece l news ≡ a → has_piece l (reverse news ++ known) ≡ (a || has_piece l known)
  has_either a is = has_both l (reverse news) known ∙ ap (λ b. b || has_piece l known) (has_reverse l news ∙ is)

  pub among_news : (a : Bool) → a ≡ is_among news → a ≡ true → a ≡ has_piece l (reverse news ++ known)
  among_news a is found = found ∙ sym (has_either true (sym (among news) ∙ (sym is ∙ found)))

  pub among_known : (seen : List Sight) → reverse seen ≡ known → (a b : Bool) → a ≡ is_among news → a ≡ false → b ≡ is_among seen → b ≡ has_piece l (reverse news ++ known)
  among_known seen are a b is none b_is =
      b_is ∙ (among seen ∙ (sym (has_reverse l seen) ∙ (ap (has_piece l) are ∙ sym (has_either false (sym (among news) ∙ (sym is ∙ none))))))
