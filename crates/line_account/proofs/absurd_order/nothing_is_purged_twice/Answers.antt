use Rattle.std.proofs.Common.{[], ap, refl, subst, sym, true, ◌∷◌}
use Rattle.lock_word.specs.declared.epoch.Epoch.{Epoch}
use Rattle.lock_word.specs.declared.stage.Stage.TheVariants as stage
use Rattle.script_text.specs.declared.answer.Answer.{Answer}
use Rattle.line_account.specs.Answers.{TellsDoom}
use Rattle.line_account.specs.Lines.{url_at}
use Rattle.line_account.proofs.UnexplainedOrder.{never_twice}
use Rattle.line_account.proofs.absurd_order.nothing_is_purged_twice.Goals as goal

pub returns : goal.returns
returns c start r script w p s url x rules is pq sq pa sa =
    let e : Epoch = record { version = x; stage = stage.Closed; doom = true } in
    let tells : Answer → Type 0 = λ a. TellsDoom a e in
    never_twice r script w rules p s url e is (ap (url_at []) pq) (ap (url_at (p ∷ [])) sq) (subst tells (sym pa) refl) (subst tells (sym sa) refl) refl
