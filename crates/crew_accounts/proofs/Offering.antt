-- Lines that offer a body.
use Rattle.std.proofs.Common.{Bool, Contains, List, Some, ap, false, length, ◌∙◌, refl, subst, sym, true, ◌+◌, ◌<◌, ◌≡◌, ℕ}
use Rattle.std.specs.Prelude.{◌≢◌, ◌↔◌}
use Rattle.lock_word.specs.declared.word.Word.{Word}
use Rattle.rock_disk.specs.Cell.{CellState}
use Rattle.script_text.specs.declared.answer.Answer.{Answer}
use Rattle.script_text.specs.declared.answer.Answer.TheVariants as answer
use Rattle.script_text.specs.declared.body.Body.{Body}
use Rattle.script_text.specs.declared.request.Request.{Request}
use Rattle.script_text.specs.declared.request.Request.TheVariants.{Begin, Put, Save}
use Rattle.core_model.specs.declared.view.Sight.TheVariants.{Stood}
use Rattle.core_model.specs.declared.view.View.{View}
use Rattle.line_account.specs.Accounts.{HasBegun, Shows}
use Rattle.line_account.specs.Answers.{ComesIn, Run}
use Rattle.line_account.specs.Deeds.{Began}
use Rattle.script_text.specs.Requests.{url_in}
use Rattle.line_account.specs.Lines.{Fits, Offers as OffersOf, Served, begun_of, offers as offers_body, url_at}
use Rattle.line_account.specs.Requests.{IsAnswerTo}
use Rattle.store_rule.specs.declared.store.Store.{Store}
use Rattle.store_rule.specs.Ground.{Offers}
use Rattle.store_rule.specs.Passes.{basis}
use Rattle.rock_writer.specs.Beginning.{IsTooLong}
use Rattle.store_serve.specs.Tabs.{IsOffered}
use Rattle.crew_accounts.specs.Runs.{Past, run_of}
use Rattle.crew_accounts.proofs.Running.{is_offered}
use Rattle.crew_accounts.proofs.Telling.{ToAnswer, no_more}

-- The request offers this body under this URL.
pub record IsOffering (request : Request) (url : List ℕ) (body : Body) : Type 0 where
  pub named : url_in request ≡ Some url
  pub at : (earlier : List Served) → url_at earlier request ≡ Some url
  pub offers : offers_body request ≡ true
  pub only : (u : List ℕ) (b : Body) → OffersOf request u b → (url ≡ u) × (body ≡ b)
  pub comes : (a : Answer) (x : ℕ) → ComesIn request a x → ⊥
  pub long : IsAnswerTo request answer.LongUrl
  pub busy : (looked other : Word) → IsAnswerTo request (answer.Busy looked other)
  pub spent : (n : ℕ) → IsAnswerTo request (answer.Spent n)
  pub not_long : (x : ℕ) → Began request answer.LongUrl x → ⊥
  pub not_busy : (looked other : Word) (x : ℕ) → Began request (answer.Busy looked other) x → ⊥
  pub not_spent : (n x : ℕ) → Began request (answer.Spent n) x → ⊥
  pub begun : (earlier : List Served) (s : Served) → begun_of earlier s request ≡ Some s

pub puts : (url : List ℕ) (body : Body) → IsOffering (Put url body) url body
puts url body = record {
  named = refl;
  at = λ earlier. refl;
  offers = refl;
  only = λ u b h. h;
  comes = λ a x h. h;
  long = tt;
  busy = λ looked other. tt;
  spent = λ n. tt;
  not_long = λ x h. h;
  not_busy = λ looked other x h. h;
  not_spent = λ n x h. h;
  begun = λ earlier s. refl;
}

pub saves : (url : List ℕ) (body : Body) → IsOffering (Save url body) url body
saves url body = record {
  named = refl;
  at = λ earlier. refl;
  offers = refl;
  only = λ u b h. h;
  comes = λ a x h. h;
  long = tt;
  busy = λ looked other. tt;
  spent = λ n. tt;
  not_long = λ x h. h;
  not_busy = λ looked other x h. h;
  not_spent = λ n x h. h;
  begun = λ earlier s. refl;
}

pub begins : (t : ℕ) (url : List ℕ) (body : Body) → IsOffering (Begin t url body) url body
begins t url body = record {
  named = refl;
  at = λ earlier. refl;
  offers = refl;
  only = λ u b h. h;
  comes = λ a x h. h;
  long = tt;
  busy = λ looked other. tt;
  spent = λ n. tt;
  not_long = λ x h. h;
  not_busy = λ looked other x h. h;
  not_spent = λ n x h. h;
  begun = λ earlier s. refl;
}

module _ {C O : Type 0} (tells : Bool) (state : C → CellState) (offers : O → Offers) (s : Store C O) (told : Bool) (past : Past) (earlier : List Served) (v : View (List ℕ)) (l : Served) (url : List ℕ) (body : Body) where
  abbrev r : Run (List ℕ)
  r = run_of (basis tells state offers s) told past

  pub offering : IsOffering l.asked.request url body → IsOffered tells state offers s ((basis tells state offers s).setting.slots + l.asked.number) url body → ((l.answer ≡ answer.LongUrl) ↔ IsTooLong (basis tells state offers s) url)
      → ((a e : ℕ) → Shows r.setting.anchors earlier l a e → Contains v.seen (Stood a e)) → IsAnswerTo l.asked.request l.answer → ((x : ℕ) → Began l.asked.request l.answer x → HasBegun l) → Fits earlier l.asked.request → l.answer ≢ answer.Tab
      → ToAnswer r v earlier l
  offering is body_is long shown answers began fits no_tab = record {
    shown = shown;
    answers = answers;
    drew = λ n. is.offers;
    began = began;
    opened = λ x h. absurd (is.comes l.answer x h);
    short = λ u b h fit far. long.1 (subst (λ (z : List ℕ). r.room < 32 + length z) (sym (is.only u b h).0) far);
    offered = λ u b h. is_offered tells state offers s told past l url body body_is u b (is.only u b h);
    tab = ((λ h. absurd (no_tab h)), (λ n. absurd (n fits)));
    stays = no_more r v earlier l (λ t e. let z : false ≡ true = sym (ap offers_body e) ∙ is.offers in cc);
  }
