-- How a change is made.
use Rattle.std.proofs.Common.{◌≡◌, ℕ, List, get_or, set, sym, ap, ◌∙◌, Some, true}
use Rattle.std.specs.Prelude.{slice_get}
use Rattle.std.proofs.lemmas.Option.{get_or_from_slice_get}
use Rattle.core_model.specs.declared.tab.Tab.{Tab}
use Rattle.core_model.specs.declared.tab.Tab.TheVariants.{Free, Writing}
use Rattle.core_model.specs.declared.tab.Writer.{Writer}
use Rattle.core_model.specs.AnchorMoves.{raised_tab}
use Rattle.lock_word.specs.declared.stage.Stage.TheVariants.{Appending}
use Rattle.core_table.specs.declared.content.Content.{Content}
use Rattle.core_table.proofs.Lists.{set_twice}

-- a writing tab that is taken out and put back at APPENDING
pub appended : (tabs was now : List (Tab Content)) (t : ℕ) (w : Writer Content) → was ≡ set tabs t Free → slice_get tabs t ≡ Some (Writing w)
    → now ≡ set was t (Writing record w { is_appending = true }) → now ≡ set tabs t (raised_tab (get_or tabs t Free) Appending 0)
appended tabs was now t w out there back =
    back ∙ ap (λ (l : List (Tab Content)). set l t (Writing record w { is_appending = true })) out ∙ set_twice tabs t Free _
    ∙ ap (λ (x : Tab Content). set tabs t (raised_tab x Appending 0)) (sym (get_or_from_slice_get tabs t (Writing w) Free there))

-- a tab that is taken out, changed and put back
pub put_back : (f : Tab Content → Tab Content) (tabs was now : List (Tab Content)) (t : ℕ) (tab new : Tab Content) → was ≡ set tabs t Free → slice_get tabs t ≡ Some tab → new ≡ f tab → now ≡ set was t new
    → now ≡ set tabs t (f (get_or tabs t Free))
put_back f tabs was now t tab new out there is back =
    back ∙ ap (λ (l : List (Tab Content)). set l t new) out ∙ set_twice tabs t Free new
    ∙ ap (λ (x : Tab Content). set tabs t x) (is ∙ ap f (sym (get_or_from_slice_get tabs t tab Free there)))

-- and what it had
pub was_there : {A : Type 0} → (f : Tab Content → A) (tabs : List (Tab Content)) (t : ℕ) (tab : Tab Content) (had : A) → slice_get tabs t ≡ Some tab → had ≡ f tab → had ≡ f (get_or tabs t Free)
was_there f tabs t tab had there is = is ∙ ap f (sym (get_or_from_slice_get tabs t tab Free there))
