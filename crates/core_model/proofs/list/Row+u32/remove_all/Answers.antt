use Rattle.std.proofs.Common.{◌≡◌, ℕ, List, [], ◌∷◌, refl, ap, ◌∙◌, not, arith, rules, filter, ◌==◌}
use Rattle.std.proofs.lemmas.Fn.{filter_same}
use Rattle.core_model.specs.Chains.{without}
use Rattle.core_model.proofs.list.Row+u32.remove_all.Goals as goal

filter-not : (n : ℕ) (xs : List ℕ) → filter (λ x. not (x == n)) xs ≡ without n xs
filter-not n [] = refl
filter-not n (x ∷ xs) = grind (arith, filter-not n xs)

pub returns : goal.returns
returns c = filter_same _ (λ x. not (x == c.args.number)) _ (λ x b f h. search rules) _ _ c.retain.ensures.filtered ∙ filter-not c.args.number _ ∙ ap (without c.args.number) c.self.view_is
