-- Pages that a seat takes, and gives back again.
use Rattle.std.proofs.Common.{◌≡◌, ⊎_elim, ℕ, ◌<◌, suc, true, not, List, [], ◌∷◌, ◌++◌, map, reverse, refl, sym, ap, ◌∙◌, subst, arith, eq-eqb, ne_eqb, Contains}
use Rattle.std.specs.Prelude.{All, Some, ◌==◌, ◌≢◌}
use Rattle.std.proofs.lemmas.Bool.{cond-false, cond-true}
use Rattle.std.proofs.lemmas.List.{map-append, reverse-append}
use Rattle.std.proofs.lemmas.List.Elements.{All-cons, All-head, All-tail, All-pop, All-push, All-contains, Contains-append_cases, Contains-append_left, Contains-append_right, Contains-get_or, Contains-push}
use Rattle.std.proofs.lemmas.List.Kept.{AllPairs-cons}
use Rattle.page_pool.specs.declared.pool.PoolSize.{PoolSize}
use Rattle.page_pool.specs.declared.view.View.{View}
use Rattle.page_pool.specs.Ruled.{IsPage}
use Rattle.page_pool.specs.Views.{after_give, after_take, others}
use Rattle.page_pool.proofs.Lists.{first_in, later_in}
use Rattle.mem_cache.specs.declared.cell.PageCell.{PageCell}
use Rattle.mem_cache.specs.Pages.{AreTaken, TookPages, numbers_of}

-- where it is none of them, all stay
all_others : (m : ℕ) (xs : List ℕ) → (Contains xs m → ⊥) → others m xs ≡ xs
all_others m [] free = refl
all_others m (x ∷ xs) free =
    let else : not (x == m) ≡ true = ap not (ne_eqb x m (λ e. free (subst (Contains (x ∷ xs)) e (first_in x xs)))) in
    cond-true (not (x == m)) (x ∷ others m xs) (others m xs) else ∙ ap (λ (ys : List ℕ). x ∷ ys) (all_others m xs (λ c. free (later_in x m xs c)))

-- the one that was put in front is gone
but_first : (m : ℕ) (xs : List ℕ) → (Contains xs m → ⊥) → others m (m ∷ xs) ≡ xs
but_first m xs free = cond-false (not (m == m)) (m ∷ others m xs) (others m xs) (ap not (eq-eqb m m refl)) ∙ all_others m xs free

module _ (about : PoolSize) (before : View) where
  -- no page was taken
  pub took_none : TookPages about [] before before
  took_none = record { within = λ k d lt. absurd (omega arith); free = λ k d lt. absurd (omega arith); apart = λ i j d lt low. absurd (omega arith); view = refl }

  held_is : (numbers : List ℕ) (v : View) → TookPages about numbers before v → v.held ≡ numbers ++ before.held
  held_is numbers v so = ap (λ (w : View). w.held) so.view

  -- one page more was taken
  took_more : (n : ℕ) (numbers : List ℕ) (v w : View) → TookPages about numbers before v → n < about.pages → (Contains v.held n → ⊥) → w ≡ after_take n v → TookPages about (n ∷ numbers) before w
  took_more n numbers v w so low free took =
      let not_now : (Contains (numbers ++ before.held) n → ⊥) = λ c. free (subst (λ (held : List ℕ). Contains held n) (sym (held_is numbers v so)) c) in
      record {
        within = All-cons (λ m. m < about.pages) n numbers low so.within;
        free = All-cons (λ m. Contains before.held m → ⊥) n numbers (λ c. not_now (Contains-append_right numbers before.held n c)) so.free;
        apart = AllPairs-cons (λ m k. m ≢ k) n numbers (λ k d lt e. not_now (Contains-append_left numbers before.held n (subst (Contains numbers) (sym e) (Contains-get_or numbers k d lt)))) so.apart;
        view = took ∙ ap (after_take n) so.view;
      }

  -- the last page that was taken was given back
  gave_last : (n : ℕ) (numbers : List ℕ) (v w : View) → TookPages about (n ∷ numbers) before v → w ≡ after_give n v → TookPages about numbers before w
  gave_last n numbers v w so gave =
      let not_now : (Contains (numbers ++ before.held) n → ⊥) = λ c. ⊎_elim
      (λ (h : Contains numbers n). so.apart 0 (suc h.0) n (omega arith) (let lt = h.1 in omega (arith, lt)) (sym h.2))
      (λ (h : Contains before.held n). All-head (λ m. Contains before.held m → ⊥) n numbers so.free h)
      (Contains-append_cases numbers before.held n c) in
      record {
        within = All-tail (λ m. m < about.pages) n numbers so.within;
        free = All-tail (λ m. Contains before.held m → ⊥) n numbers so.free;
        apart = λ i j d lt low. so.apart (suc i) (suc j) d (omega (arith, lt)) (omega (arith, low));
        view = gave ∙ (ap (after_give n) so.view ∙ ap (λ (held : List ℕ). record before { held = held }) (but_first n (numbers ++ before.held) not_now));
      }

module _ {D : Type 0} where
  -- none was taken yet
  pub taken_none : (about : PoolSize) (before : View) (cells : List (PageCell D)) → cells ≡ [] → AreTaken about cells before before
  taken_none about before cells none = subst (λ (cs : List (PageCell D)). AreTaken about cs before before) (sym none) record { pages = λ k d lt. absurd (omega arith); took = took_none about before }

  -- all were given back
  pub given_all : (about : PoolSize) (before v : View) (cells : List (PageCell D)) → cells ≡ [] → AreTaken about cells before v → v ≡ before
  given_all about before v cells none so = so.took.view ∙ ap (λ (cs : List (PageCell D)). record before { held = numbers_of cs ++ before.held }) none

  pub numbers_more : (cells more : List (PageCell D)) (c : PageCell D) → more ≡ cells ++ c ∷ [] → numbers_of more ≡ c.page.number ∷ numbers_of cells
  numbers_more cells more c is = let number : PageCell D → ℕ = λ c. c.page.number in
      ap numbers_of is ∙ (ap reverse (map-append number cells (c ∷ [])) ∙ reverse-append (map number cells) (number c ∷ []))

  module _ (about : PoolSize) (before : View) (cells more : List (PageCell D)) (c : PageCell D) (is : more ≡ cells ++ c ∷ []) where
    pub taken_more : (v w : View) → AreTaken about cells before v → IsPage about c.page.number c.page → (Contains v.held c.page.number → ⊥) → w ≡ after_take c.page.number v → AreTaken about more before w
    taken_more v w so page free took = record {
      pages = subst (All (λ (c : PageCell D). IsPage about c.page.number c.page)) (sym is) (All-push (λ (c : PageCell D). IsPage about c.page.number c.page) cells c so.pages page);
      took = subst (λ (numbers : List ℕ). TookPages about numbers before w) (sym (numbers_more cells more c is)) (took_more about before c.page.number (numbers_of cells) v w so.took page.within free took);
    }

    module _ (v : View) (so : AreTaken about more before v) where
      now_last : TookPages about (c.page.number ∷ numbers_of cells) before v
      now_last = subst (λ (numbers : List ℕ). TookPages about numbers before v) (numbers_more cells more c is) so.took

      pub last_is_page : IsPage about c.page.number c.page
      last_is_page = All-contains (λ (c : PageCell D). IsPage about c.page.number c.page) more c so.pages (subst (λ (cs : List (PageCell D)). Contains cs c) (sym is) (Contains-push cells c))

      pub last_is_held : Contains v.held c.page.number
      last_is_held = subst (λ (held : List ℕ). Contains held c.page.number) (sym (held_is about before (c.page.number ∷ numbers_of cells) v now_last)) (first_in c.page.number (numbers_of cells ++ before.held))

      pub last_given : (w : View) → w ≡ after_give c.page.number v → AreTaken about cells before w
      last_given w gave = record {
        pages = (All-pop (λ (c : PageCell D). IsPage about c.page.number c.page) more cells (Some c) is so.pages).0;
        took = gave_last about before c.page.number (numbers_of cells) v w now_last gave;
      }
