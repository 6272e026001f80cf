-- Where all lines of a worker are private, or at marks, its tabs are apart.
use Rattle.std.proofs.Common.{Bool, Contains, List, ap, false, inl, inr, refl, sym, true, ◌∙◌, ◌≡◌, ◌⊎◌, ℕ}
use Rattle.std.specs.Prelude.{not, ◌||◌}
use Rattle.std.proofs.lemmas.Bool.{eqb-true, false≢true}
use Rattle.std.proofs.lemmas.List.Elements.{All-contains}
use Rattle.std.proofs.lemmas.List.Sums.{AllPass-from_list_all}
use Rattle.script_text.specs.declared.line.Line.{Line}
use Rattle.script_text.specs.declared.request.Request.{Request}
use Rattle.script_text.specs.declared.request.Request.TheVariants.{Begin, OpenTab}
use Rattle.plain_model.specs.declared.store.Setting.{Setting}
use Rattle.plain_model.specs.Serving.{lines_for}
use Rattle.plain_laws.specs.Private.{OpenOnly, is_of, is_private, is_private_anchor, is_private_tab, names_only, takes}
use Rattle.plain_runs.specs.Alone.{IsAtMark}

then_so : (a b : Bool) → (not a || b) ≡ true → a ≡ true → b ≡ true
then_so true b h t = h
then_so false b h t = absurd (false≢true t)

module _ (s : Setting) (script : List Line) (worker tab : ℕ) where
  takes_private : (request : Request) → takes tab request ≡ true
      → IsAtMark request ⊎ (is_of s (is_private_anchor s script worker) (is_private_tab s script worker) request ≡ true)
      → is_private_tab s script worker tab ≡ true
  takes_private (Begin on url body) t (inl mark) = absurd mark
  takes_private (Begin on url body) t (inr is) = sym (ap (is_private_tab s script worker) (eqb-true on tab t)) ∙ is
  takes_private (OpenTab on url) t (inl mark) = absurd mark
  takes_private (OpenTab on url) t (inr is) = sym (ap (is_private_tab s script worker) (eqb-true on tab t)) ∙ is
  takes_private request t is = absurd (false≢true t)

  pub alone_apart : ((line : Line) → Contains (lines_for worker script) line → IsAtMark line.request
      ⊎ (is_private s script worker line ≡ true))
      → OpenOnly s (is_private_anchor s script worker) tab (lines_for worker script)
      ⊎ OpenOnly s (λ anchor. not (is_private_anchor s script worker anchor)) tab (lines_for worker script)
  alone_apart h = by_test (is_private_tab s script worker tab) refl
    where
      by_test : (b : Bool) → is_private_tab s script worker tab ≡ b
          → OpenOnly s (is_private_anchor s script worker) tab (lines_for worker script)
          ⊎ OpenOnly s (λ anchor. not (is_private_anchor s script worker anchor)) tab (lines_for worker script)
      by_test true is = inl
          (λ line among t. then_so (takes tab line.request) (names_only s (is_private_anchor s script worker) line.request)
          (All-contains (λ l. (not (takes tab l.request) || names_only s (is_private_anchor s script worker) l.request) ≡ true)
          (lines_for worker script) line
          (AllPass-from_list_all (λ l. not (takes tab l.request) || names_only s (is_private_anchor s script worker) l.request)
          (lines_for worker script) is) among) t)
      by_test false is = inr (λ line among t. absurd (false≢true (sym is ∙ takes_private line.request t (h line among))))
