-- Tabs and words tell the same.
use Rattle.std.proofs.Common.{◌≡◌, ℕ, ◌<◌, ◌≤◌, sym, refl, ap, ◌∙◌, subst, arith, sum_by, Bool, true, false, cond, ◌==◌, ◌&&◌, eq-eqb}
use mathlib.Core.Option.{some, some-injective}
use mathlib.Core.Logic.{dite}
use native.Mathlib.Decide.{ℕ_discrete}
use lib.ListN.{get_elem?}
use Rattle.lock_word.specs.Words.{doom_number, doom_of, epoch_of, version_of, stage_of, is_written}
use Rattle.core_model.specs.declared.tab.Writer.{Writer}
use Rattle.core_model.specs.declared.tab.Freer.{Freer}
use Rattle.core_model.specs.declared.tab.Tab.{Tab}
use Rattle.core_model.specs.declared.tab.Tab.TheVariants.{Free, Retreating, Reading, Writing, Last, Freeing}
use Rattle.core_model.specs.declared.view.View.{View}
use Rattle.core_model.specs.Layout.{Setting}
use Rattle.core_model.specs.State.{State, word}
use Rattle.core_model.specs.Tabs.{stage_written, writes, frees, count}
use Rattle.core_model.specs.Anchors.{written_at, freed_at}
use Rattle.core_model.specs.Sound.{AnchorsSound}
use Rattle.core_model.proofs.Lists.{by_eq, le_sum_at, sum_some, two_le_sum}
use Rattle.core_model.specs.Holders.{IsTab, MatchesWriter, MatchesFreer, HasWriter, HasFreer}

written_few : (e u g : ℕ) → written_at e u g ≤ 1
written_few e u g = by_bool (is_written e && (version_of e == u) && (stage_of e == g))
  where
    by_bool : (b : Bool) → cond b 1 0 ≤ 1
    by_bool true = omega arith
    by_bool false = omega arith

freed_few : (e u d : ℕ) → freed_at e u d ≤ 1
freed_few e u d = by_bool ((stage_of e == 5) && (version_of e == u) && (doom_of e == d))
  where
    by_bool : (b : Bool) → cond b 1 0 ≤ 1
    by_bool true = omega arith
    by_bool false = omega arith

module _ {X : Type 0} where
  -- a tab that counts as a writer is one
  record WritesSo (a u g : ℕ) (x : Tab X) : Type 0 where
    writer : Writer X
    is : x ≡ Writing writer
    anchor_is : writer.anchor ≡ a
    version_is : writer.version ≡ u
    stage_is : stage_written writer ≡ g

  writes_so : (a u g : ℕ) (x : Tab X) → 0 < writes a u g x → WritesSo a u g x
  writes_so a u g Free = λ h. absurd (omega arith)
  writes_so a u g (Retreating b) = λ h. absurd (omega arith)
  writes_so a u g (Reading r) = λ h. absurd (omega arith)
  writes_so a u g (Writing w) = by_eq (λ z. 0 < cond (z && (w.version == u) && (stage_written w == g)) 1 0 → WritesSo a u g (Writing w)) w.anchor a
      (λ p. by_eq (λ z. 0 < cond (z && (stage_written w == g)) 1 0 → WritesSo a u g (Writing w)) w.version u
      (λ q. by_eq (λ z. 0 < cond z 1 0 → WritesSo a u g (Writing w)) (stage_written w) g (λ r _. record { writer = w; is = refl; anchor_is = p; version_is = q; stage_is = r }) (λ _ h. absurd (omega arith)))
      (λ _ h. absurd (omega arith)))
      (λ _ h. absurd (omega arith))
  writes_so a u g (Last b) = λ h. absurd (omega arith)
  writes_so a u g (Freeing f) = λ h. absurd (omega arith)

  record FreesSo (a : ℕ) (x : Tab X) : Type 0 where
    freer : Freer X
    is : x ≡ Freeing freer
    anchor_is : freer.anchor ≡ a
    is_so : freer.is_freeing ≡ true

  frees_so : (a u d : ℕ) (x : Tab X) → 0 < frees a u d x → FreesSo a x
  frees_so a u d Free = λ h. absurd (omega arith)
  frees_so a u d (Retreating b) = λ h. absurd (omega arith)
  frees_so a u d (Reading r) = λ h. absurd (omega arith)
  frees_so a u d (Writing w) = λ h. absurd (omega arith)
  frees_so a u d (Last b) = λ h. absurd (omega arith)
  frees_so a u d (Freeing f) = by_eq (λ z. 0 < cond (z && f.is_freeing && (f.version == u) && (doom_number f.is_doomed == d)) 1 0 → FreesSo a (Freeing f)) f.anchor a
      (λ p. by_bool p f.is_freeing refl)
      (λ _ h. absurd (omega arith))
    where
      by_bool : f.anchor ≡ a → (b : Bool) → b ≡ f.is_freeing → 0 < cond (b && (f.version == u) && (doom_number f.is_doomed == d)) 1 0 → FreesSo a (Freeing f)
      by_bool p true e h = record { freer = f; is = refl; anchor_is = p; is_so = sym e }
      by_bool p false e h = absurd (omega arith)

  -- a tab that frees at this anchor counts with what it knows
  frees_itself : (f : Freer X) (a u d : ℕ) → f.anchor ≡ a → f.is_freeing ≡ true → f.version ≡ u → doom_number f.is_doomed ≡ d → frees a u d (Freeing f) ≡ 1
  frees_itself f a u d p q r e = rw (eq-eqb f.anchor a p, q, eq-eqb f.version u r, eq-eqb (doom_number f.is_doomed) d e) refl

  module _ (k : Setting X) (s : State X) (so : AnchorsSound k s) where
    -- one tab at most counts
    pub one_tab : (f : Tab X → ℕ) → sum_by (count f) s.views ≤ 1 → (i j t p : ℕ) (x y : Tab X) → IsTab s i t x → IsTab s j p y → 0 < f x → 0 < f y → (i ≡ j) × (t ≡ p)
    one_tab f few i j t p x y ix jy fx fy = let g = le_sum_at f ix.view.tabs t x ix.there in let h = le_sum_at f jy.view.tabs p y jy.there in dite (ℕ_discrete j i)
        (λ e. (sym e, same_view e))
        (λ ne. absurd (let z = two_le_sum (count f) s.views i j ix.view jy.view ix.at jy.at ne in omega arith))
      where
        same_view : j ≡ i → t ≡ p
        same_view e = let same : ix.view ≡ jy.view = some-injective ix.view jy.view (sym ix.at ∙ subst (λ (z : ℕ). get_elem? s.views z ≡ some jy.view) e jy.at) in dite (ℕ_discrete p t) (λ q. sym q)
            (λ ne. absurd (let z = two_le_sum f ix.view.tabs t p x y ix.there (subst (λ (u : View X). get_elem? u.tabs p ≡ some y) (sym same) jy.there) ne in let m = le_sum_at (count f) s.views i ix.view ix.at in omega arith))

    -- a tab's anchor is one of the table
    pub matches_writer : (i t : ℕ) (w : Writer X) → IsTab s i t (Writing w) → (w.anchor < k.anchors) × MatchesWriter s w
    matches_writer i t w x = let st = so.tabs i x.view x.at t (Writing w) x.there in (st.0, matched st.0)
      where
        matched : w.anchor < k.anchors → MatchesWriter s w
        matched lt = let g = le_sum_at (writes w.anchor w.version (stage_written w)) x.view.tabs t (Writing w) x.there in let h = le_sum_at (count (writes w.anchor w.version (stage_written w))) s.views i x.view x.at in
            let r = so.writers w.anchor w.version (stage_written w) lt in let one = itself in from_test (is_written (epoch_of (word s w.anchor))) (omega arith)
          where
            itself : writes w.anchor w.version (stage_written w) (Writing w) ≡ 1
            itself = rw (eq-eqb w.anchor w.anchor refl, eq-eqb w.version w.version refl, eq-eqb (stage_written w) (stage_written w) refl) refl

            from_test : (b : Bool) → 0 < cond (b && (version_of (epoch_of (word s w.anchor)) == w.version) && (stage_of (epoch_of (word s w.anchor)) == stage_written w)) 1 0 → MatchesWriter s w
            from_test true = by_eq (λ z. 0 < cond (z && (stage_of (epoch_of (word s w.anchor)) == stage_written w)) 1 0 → MatchesWriter s w) (version_of (epoch_of (word s w.anchor))) w.version
                (λ q. by_eq (λ z. 0 < cond z 1 0 → MatchesWriter s w) (stage_of (epoch_of (word s w.anchor))) (stage_written w) (λ p _. record { version_is = q; stage_is = p }) (λ _ h. absurd (omega arith)))
                (λ _ h. absurd (omega arith))
            from_test false = λ h. absurd (omega arith)

    pub has_writer : (a : ℕ) → a < k.anchors → is_written (epoch_of (word s a)) ≡ true → HasWriter s a
    has_writer a lt h = let u : ℕ = version_of (epoch_of (word s a)) in let g : ℕ = stage_of (epoch_of (word s a)) in
        let r = so.writers a u g lt in let one = written_one u g refl refl in
        let x = sum_some (count (writes a u g)) s.views (omega arith) in let y = sum_some (writes a u g) x.item.tabs x.some_ in let z = writes_so a u g y.item y.some_ in
        let there : IsTab s x.i y.i (Writing z.writer) = record { view = x.item; at = x.at; there = y.at ∙ ap some z.is } in
        record { i = x.i; t = y.i; writer = z.writer; tab = there; anchor_is = z.anchor_is; matches = (matches_writer x.i y.i z.writer there).1 }
      where
        written_one : (u g : ℕ) → version_of (epoch_of (word s a)) ≡ u → stage_of (epoch_of (word s a)) ≡ g → written_at (epoch_of (word s a)) u g ≡ 1
        written_one u g p q = let e = eq-eqb (version_of (epoch_of (word s a))) u p in let f = eq-eqb (stage_of (epoch_of (word s a))) g q in rw (h, e, f) refl

    pub has_freer : (a : ℕ) → a < k.anchors → stage_of (epoch_of (word s a)) ≡ 5 → HasFreer s a
    has_freer a lt h = let u : ℕ = version_of (epoch_of (word s a)) in let d : ℕ = doom_of (epoch_of (word s a)) in
        let r = so.freers a u d lt in let one = freed_one u d refl refl in let x = sum_some (count (frees a u d)) s.views (omega arith) in let y = sum_some (frees a u d) x.item.tabs x.some_ in let z = frees_so a u d y.item y.some_ in
        record { i = x.i; t = y.i; freer = z.freer; tab = record { view = x.item; at = x.at; there = y.at ∙ ap some z.is }; anchor_is = z.anchor_is; is_so = z.is_so }
      where
        freed_one : (u d : ℕ) → version_of (epoch_of (word s a)) ≡ u → doom_of (epoch_of (word s a)) ≡ d → freed_at (epoch_of (word s a)) u d ≡ 1
        freed_one u d p q = let e = eq-eqb (version_of (epoch_of (word s a))) u p in let f = eq-eqb (doom_of (epoch_of (word s a))) d q in rw (h, e, f) refl

    -- what the word says of an entry that a tab frees
    record Freed (f : Freer X) : Type 0 where
      stage_is : stage_of (epoch_of (word s f.anchor)) ≡ 5
      matches : MatchesFreer s f

    freed : (i t : ℕ) (f : Freer X) → IsTab s i t (Freeing f) → f.is_freeing ≡ true → Freed f
    freed i t f x freeing = let d : ℕ = doom_number f.is_doomed in let st = so.tabs i x.view x.at t (Freeing f) x.there in let g = le_sum_at (frees f.anchor f.version d) x.view.tabs t (Freeing f) x.there in
        let h = le_sum_at (count (frees f.anchor f.version d)) s.views i x.view x.at in
        let r = so.freers f.anchor f.version d st.0 in let one = frees_itself f f.anchor f.version d refl freeing refl refl in from_test (omega arith)
      where
        from_test : 0 < freed_at (epoch_of (word s f.anchor)) f.version (doom_number f.is_doomed) → Freed f
        from_test = by_eq (λ z. 0 < cond (z && (version_of (epoch_of (word s f.anchor)) == f.version) && (doom_of (epoch_of (word s f.anchor)) == doom_number f.is_doomed)) 1 0 → Freed f) (stage_of (epoch_of (word s f.anchor))) 5
            (λ p. by_eq (λ z. 0 < cond (z && (doom_of (epoch_of (word s f.anchor)) == doom_number f.is_doomed)) 1 0 → Freed f) (version_of (epoch_of (word s f.anchor))) f.version
            (λ q. by_eq (λ z. 0 < cond z 1 0 → Freed f) (doom_of (epoch_of (word s f.anchor))) (doom_number f.is_doomed) (λ e _. record { stage_is = p; matches = record { version_is = q; doom_is = e } }) (λ _ h. absurd (omega arith)))
            (λ _ h. absurd (omega arith)))
            (λ _ h. absurd (omega arith))

    pub matches_freer : (i t : ℕ) (f : Freer X) → IsTab s i t (Freeing f) → f.is_freeing ≡ true → stage_of (epoch_of (word s f.anchor)) ≡ 5
    matches_freer i t f x freeing = (freed i t f x freeing).stage_is

    pub matches_freed : (i t : ℕ) (f : Freer X) → IsTab s i t (Freeing f) → f.is_freeing ≡ true → MatchesFreer s f
    matches_freed i t f x freeing = (freed i t f x freeing).matches

    pub one_writer : (a i j t p : ℕ) (v w : Writer X) → a < k.anchors → IsTab s i t (Writing v) → IsTab s j p (Writing w) → v.anchor ≡ a → w.anchor ≡ a → (i ≡ j) × (t ≡ p)
    one_writer a i j t p v w lt iv jw va wa = let x = (matches_writer i t v iv).1 in let y = (matches_writer j p w jw).1 in one_tab (writes a v.version (stage_written v)) (let r = so.writers a v.version (stage_written v) lt in let f = written_few (epoch_of (word s a)) v.version (stage_written v) in omega arith)
        i j t p (Writing v) (Writing w) iv jw (counts_one v va refl refl)
        (counts_one w wa (sym y.version_is ∙ ap (λ (b : ℕ). version_of (epoch_of (word s b))) (wa ∙ sym va) ∙ x.version_is) (sym y.stage_is ∙ ap (λ (b : ℕ). stage_of (epoch_of (word s b))) (wa ∙ sym va) ∙ x.stage_is))
      where
        counts_one : (x : Writer X) → x.anchor ≡ a → x.version ≡ v.version → stage_written x ≡ stage_written v → 0 < writes a v.version (stage_written v) (Writing x)
        counts_one x p q r = let e = eq-eqb x.anchor a p in let f = eq-eqb x.version v.version q in let g = eq-eqb (stage_written x) (stage_written v) r in rw (e, f, g) (omega arith)

    -- one inner tab frees at an anchor
    pub one_freer : (a i j t p : ℕ) (f g : Freer X) → a < k.anchors → IsTab s i t (Freeing f) → IsTab s j p (Freeing g) → f.anchor ≡ a → g.anchor ≡ a → f.is_freeing ≡ true → g.is_freeing ≡ true → (i ≡ j) × (t ≡ p)
    one_freer a i j t p f g lt fi gj fa ga ff gf = let d : ℕ = doom_number f.is_doomed in let x = matches_freed i t f fi ff in let y = matches_freed j p g gj gf in let same : g.anchor ≡ f.anchor = ga ∙ sym fa in
        one_tab (frees a f.version d) (let r = so.freers a f.version d lt in let z = freed_few (epoch_of (word s a)) f.version d in omega arith) i j t p (Freeing f) (Freeing g) fi gj
        (let z = frees_itself f a f.version d fa ff refl refl in omega arith)
        (let z = frees_itself g a f.version d ga gf (sym y.version_is ∙ ap (λ (b : ℕ). version_of (epoch_of (word s b))) same ∙ x.version_is) (sym y.doom_is ∙ ap (λ (b : ℕ). doom_of (epoch_of (word s b))) same ∙ x.doom_is) in omega arith)
