-- How many pages are left to a seat that takes one after the other.
use Rattle.std.proofs.Common.{◌≡◌, ⊎_elim, ℕ, ◌+◌, ◌<◌, ◌≤◌, zero, suc, Bool, true, false, List, [], ◌∷◌, length, refl, sym, ap, ◌∙◌, subst, arith, eq-eqb, ne_eqb, Contains}
use Rattle.std.specs.Prelude.{filter, ◌==◌}
use Rattle.std.specs.List.{range_with_len}
use Rattle.std.proofs.lemmas.Bool.{cases_Bool, cases_eq, cond-false, cond-true}
use Rattle.page_pool.proofs.Lists.{cons_cases, first_in, later_in, none_in}
use Rattle.page_pool.specs.declared.pool.PoolSize.{PoolSize}
use Rattle.page_pool.specs.declared.view.View.{View}
use Rattle.page_pool.specs.Views.{after_take}
use Rattle.mem_cache.specs.Pages.{is_none_of, pages_left}

module _ (p : ℕ → Bool) (x : ℕ) (xs : List ℕ) where
  one_more : p x ≡ true → length (filter p (x ∷ xs)) ≡ suc (length (filter p xs))
  one_more e = ap length (cond-true (p x) (x ∷ filter p xs) (filter p xs) e)

  no_more : p x ≡ false → length (filter p (x ∷ xs)) ≡ length (filter p xs)
  no_more e = ap length (cond-false (p x) (x ∷ filter p xs) (filter p xs) e)

none_of : (xs : List ℕ) (m : ℕ) → (Contains xs m → ⊥) → is_none_of xs m ≡ true
none_of [] m h = refl
none_of (x ∷ xs) m h =
    let else : (x == m) ≡ false = ne_eqb x m (λ e. h (subst (Contains (x ∷ xs)) e (first_in x xs))) in
    ap (λ (n : ℕ). n == 0) (no_more (λ k. k == m) x xs else) ∙ none_of xs m (λ c. h (later_in x m xs c))

one_of : (xs : List ℕ) (m : ℕ) → Contains xs m → is_none_of xs m ≡ false
one_of [] m h = absurd (none_in m h)
one_of (x ∷ xs) m h = ⊎_elim
    (λ (e : x ≡ m). ap (λ (n : ℕ). n == 0) (one_more (λ k. k == m) x xs (eq-eqb x m e)) ∙ ne_eqb (suc (length (filter (λ k. k == m) xs))) 0 (λ e. absurd (omega (arith, e))))
    (λ (ne : x ≡ m → ⊥). ap (λ (n : ℕ). n == 0) (no_more (λ k. k == m) x xs (ne_eqb x m ne))
    ∙ one_of xs m (⊎_elim (λ (e : x ≡ m). absurd (ne e)) (λ (c : Contains xs m). c) (cons_cases x m xs h)))
    (cases_eq x m)

module _ (held : List ℕ) (n : ℕ) where
  abbrev before : ℕ → Bool
  before = is_none_of held

  abbrev after : ℕ → Bool
  after = is_none_of (n ∷ held)

  else_same : (m : ℕ) → (n ≡ m → ⊥) → after m ≡ before m
  else_same m ne = ap (λ (k : ℕ). k == 0) (no_more (λ k. k == m) n held (ne_eqb n m ne))

  one_same : (a : ℕ) (xs : List ℕ) → (n ≡ a → ⊥) → length (filter after xs) ≡ length (filter before xs) → length (filter after (a ∷ xs)) ≡ length (filter before (a ∷ xs))
  one_same a xs ne rest = ⊎_elim
      (λ (e : before a ≡ true). one_more after a xs (else_same a ne ∙ e) ∙ (ap suc rest ∙ sym (one_more before a xs e)))
      (λ (e : before a ≡ false). no_more after a xs (else_same a ne ∙ e) ∙ (rest ∙ sym (no_more before a xs e)))
      (cases_Bool (before a))

  -- where the page is none of these, as many are left as before
  apart : (a len : ℕ) → ((k : ℕ) → a ≤ k → k < a + len → n ≡ k → ⊥) → length (filter after (range_with_len a len)) ≡ length (filter before (range_with_len a len))
  apart a zero ne = refl
  apart a (suc len) ne = one_same a (range_with_len (a + 1) len) (ne a (omega arith) (omega arith)) (apart (a + 1) len (λ k from to. ne k (omega (arith, from)) (omega (arith, to))))

  module _ (free : Contains held n → ⊥) where
    -- where it is one of them, one is left less
    pub within : (a len : ℕ) → a ≤ n → n < a + len → length (filter before (range_with_len a len)) ≡ suc (length (filter after (range_with_len a len)))
    within a zero from to = absurd (omega (arith, from, to))
    within a (suc len) from to = let xs = range_with_len (a + 1) len in ⊎_elim
        (λ (e : n ≡ a).
        let was : before a ≡ true = subst (λ (z : ℕ). before z ≡ true) e (none_of held n free) in
        let is : after a ≡ false = subst (λ (z : ℕ). after z ≡ false) e (one_of (n ∷ held) n (first_in n held)) in
        let rest : length (filter after xs) ≡ length (filter before xs) = apart (a + 1) len (λ k above to same. omega (arith, above, same, e)) in
        one_more before a xs was ∙ ap suc (sym rest ∙ sym (no_more after a xs is)))
        (λ (ne : n ≡ a → ⊥).
        let above : a + 1 ≤ n = let strict : a < n = omega (arith, from, ne) in omega arith in
        let rest : length (filter before xs) ≡ suc (length (filter after xs)) = within (a + 1) len above (omega (arith, to)) in ⊎_elim
        (λ (e : before a ≡ true). one_more before a xs e ∙ (ap suc rest ∙ ap suc (sym (one_more after a xs (else_same a ne ∙ e)))))
        (λ (e : before a ≡ false). no_more before a xs e ∙ (rest ∙ ap suc (sym (no_more after a xs (else_same a ne ∙ e)))))
        (cases_Bool (before a)))
        (cases_eq n a)

-- where all are held, none is left
pub none_left : (held : List ℕ) (a len : ℕ) → ((k : ℕ) → k < a + len → Contains held k) → length (filter (is_none_of held) (range_with_len a len)) ≡ 0
none_left held a zero all = refl
none_left held a (suc len) all = no_more (is_none_of held) a (range_with_len (a + 1) len) (one_of held a (all a (omega arith))) ∙ none_left held (a + 1) len (λ k to. all k (omega (arith, to)))

module _ (about : PoolSize) (v : View) where
  -- a seat that took a page has one less to take
  pub left_less : (n : ℕ) (w : View) → n < about.pages → (Contains v.held n → ⊥) → w ≡ after_take n v → length (pages_left about v) ≡ length (pages_left about w) + 1
  left_less n w low free took =
      let one : length (pages_left about v) ≡ suc (length (pages_left about (after_take n v))) = within v.held n free 0 about.pages (omega arith) (omega (arith, low)) in
      let same : length (pages_left about w) ≡ length (pages_left about (after_take n v)) = ap (λ (z : View). length (pages_left about z)) took in
      omega (arith, one, same)

  -- one that holds all has none to take
  pub left_none : ((m : ℕ) → m < about.pages → Contains v.held m) → length (pages_left about v) ≡ 0
  left_none all = none_left v.held 0 about.pages (λ k low. all k (omega (arith, low)))
