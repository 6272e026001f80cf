use Rattle.std.proofs.Common.{◌≡◌, length, None, Some, sym, ◌∙◌, subst, refl, arith}
use Rattle.std.specs.Prelude.{Option, MatchOption, string_bytes}
use Rattle.rock_commands.specs.Command.{IsCommand}
use Rattle.rock_commands.specs.CommandLine.{IsCommandLine}
use Rattle.rock_commands.proofs.CommandFacts.{three_words, four_words, five_words, no_number, no_two_numbers}
use Rattle.rock_commands.proofs.command.Command.parse.Goals as goal

none_is_none : {X : Type 0} {o : Option X} {x : X} → o ≡ None → o ≡ Some x → ⊥
none_is_none e k = cc

pub returns-in_err-count-in-len4 : goal.returns-in_err-count-in-len4
returns-in_err-count-in-len4 c =
    let long : length c.as_slice.result.now ≡ 4 = omega (arith, c.in-len4.len_at_least, c.in-len4.len_below) in
    let are = four_words string_bytes c.as_slice.result.now c.command-item-then-this-lt5.result c.name-item-then-this-lt5.result
    c.slot-item-then-this-lt5.result c.count-item.result c.args.words.now _ _ _ _
    c.as_slice.ensures long c.command-item-then-this-lt5.is c.name-item-then-this-lt5.is c.slot-item-then-this-lt5.is c.count-item.is
    refl refl refl (sym c.as_str-in-len4.ensures.value)
    in
    subst (λ r. MatchOption r (IsCommandLine c.args.words.now → ⊥) (IsCommand c.args.words.now)) (sym c.from_residual.ensures)
    (no_number c.args.words.now _ _ _ _ are (λ count small other. none_is_none refl
    (c.in_err-count-in-len4.ensures.none count small other)))

pub returns-in_ok-count-in-len4 : goal.returns-in_ok-count-in-len4
returns-in_ok-count-in-len4 c =
    let long : length c.as_slice.result.now ≡ 4 = omega (arith, c.in-len4.len_at_least, c.in-len4.len_below) in
    let are = four_words string_bytes c.as_slice.result.now c.command-item-then-this-lt5.result c.name-item-then-this-lt5.result
    c.slot-item-then-this-lt5.result c.count-item.result c.args.words.now _ _ _ _
    c.as_slice.ensures long c.command-item-then-this-lt5.is c.name-item-then-this-lt5.is c.slot-item-then-this-lt5.is c.count-item.is
    (sym c.as_str-in-len4-2.ensures.value) (sym c.as_str-in-len4-3.ensures.value) (sym c.as_str-in-len4-4.ensures.value)
    (sym c.as_str-in-len4.ensures.value ∙ c.in_ok-count-in-len4.ensures.some)
    in
    subst (λ words. MatchOption c.of_four.result (IsCommandLine words → ⊥) (IsCommand words)) (sym are) c.of_four.ensures

pub returns-in_err-second-in-len5 : goal.returns-in_err-second-in-len5
returns-in_err-second-in-len5 c =
    let long : length c.as_slice.result.now ≡ 5 = omega (arith, c.in-len5.len_at_least, c.in-len5.len_below) in
    let are = five_words string_bytes c.as_slice.result.now c.command-item-then-this-lt6.result c.name-item-then-this-lt6.result
    c.first-item.result c.second-item.result c.third-item.result c.args.words.now _ _ _ _ _
    c.as_slice.ensures long c.command-item-then-this-lt6.is c.name-item-then-this-lt6.is c.first-item.is c.second-item.is c.third-item.is
    refl refl refl (sym c.as_str-in-len5.ensures.value) refl
    in
    subst (λ r. MatchOption r (IsCommandLine c.args.words.now → ⊥) (IsCommand c.args.words.now))
    (sym c.from_residual-in_err-second-in-len5.ensures)
    (no_two_numbers c.args.words.now _ _ _ _ _ are (λ a b fits more spelled last.
    none_is_none refl (c.in_err-second-in-len5.ensures.none a fits spelled)))

pub returns-in_err-third-in-len5 : goal.returns-in_err-third-in-len5
returns-in_err-third-in-len5 c =
    let long : length c.as_slice.result.now ≡ 5 = omega (arith, c.in-len5.len_at_least, c.in-len5.len_below) in
    let are = five_words string_bytes c.as_slice.result.now c.command-item-then-this-lt6.result c.name-item-then-this-lt6.result
    c.first-item.result c.second-item.result c.third-item.result c.args.words.now _ _ _ _ _
    c.as_slice.ensures long c.command-item-then-this-lt6.is c.name-item-then-this-lt6.is c.first-item.is c.second-item.is c.third-item.is
    refl refl refl refl (sym c.as_str-in-len5-2.ensures.value)
    in
    subst (λ r. MatchOption r (IsCommandLine c.args.words.now → ⊥) (IsCommand c.args.words.now))
    (sym c.from_residual-in_err-third-in-len5.ensures)
    (no_two_numbers c.args.words.now _ _ _ _ _ are (λ a b fits more spelled last.
    none_is_none refl (c.in_err-third-in-len5.ensures.none b more last)))

pub returns-in_ok-third-in-len5 : goal.returns-in_ok-third-in-len5
returns-in_ok-third-in-len5 c =
    let long : length c.as_slice.result.now ≡ 5 = omega (arith, c.in-len5.len_at_least, c.in-len5.len_below) in
    let are = five_words string_bytes c.as_slice.result.now c.command-item-then-this-lt6.result c.name-item-then-this-lt6.result
    c.first-item.result c.second-item.result c.third-item.result c.args.words.now _ _ _ _ _
    c.as_slice.ensures long c.command-item-then-this-lt6.is c.name-item-then-this-lt6.is c.first-item.is c.second-item.is c.third-item.is
    (sym c.as_str-in-len5-3.ensures.value) (sym c.as_str-in-len5-4.ensures.value) (sym c.as_str-in-len5-5.ensures.value)
    (sym c.as_str-in-len5.ensures.value ∙ c.in_ok-second-in-len5.ensures.some)
    (sym c.as_str-in-len5-2.ensures.value ∙ c.in_ok-third-in-len5.ensures.some)
    in
    subst (λ words. MatchOption c.of_five.result (IsCommandLine words → ⊥) (IsCommand words)) (sym are) c.of_five.ensures

pub returns-in-len3 : goal.returns-in-len3
returns-in-len3 c =
    let long : length c.as_slice.result.now ≡ 3 = omega (arith, c.in-len3.len_at_least, c.in-len3.len_below) in
    let are = three_words string_bytes c.as_slice.result.now c.command-item.result c.name-item.result c.slot-item.result c.args.words.now _
    _ _
    c.as_slice.ensures long c.command-item.is c.name-item.is c.slot-item.is
    (sym c.as_str.ensures.value) (sym c.as_str-in-len3.ensures.value) (sym c.as_str-in-len3-2.ensures.value)
    in
    subst (λ words. MatchOption c.of_three.result (IsCommandLine words → ⊥) (IsCommand words)) (sym are) c.of_three.ensures
