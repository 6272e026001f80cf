use Rattle.line_account.proofs.absurd.nothing_is_full_where_lines_fit.Goals as goal

pub returns : goal.returns
returns c start r script crew rules fit p = rules.answers.full fit p
