-- A line that begins an entry: what it found, and what it left.
use Rattle.std.proofs.Common.{Bool, Contains, List, [], ap, arith, cond, eq-eqb, inl, inr, refl, subst, sum_by, sym, true, ◌+◌, ◌++◌, ◌<◌, ◌≤◌, ◌==◌, ◌∙◌, ◌∷◌, ◌≡◌, ◌⊎◌, ℕ}
use Rattle.std.proofs.lemmas.Bool.{lt-ltb}
use Rattle.std.proofs.Common.{ltb}
use Rattle.std.proofs.Math.Decide.{dec_le}
use mathlib.Core.Logic.{dite}
use Rattle.lock_word.specs.Words.{epoch_at, epoch_of, readers_of, version_of, word_at}
use Rattle.lock_word.specs.declared.word.Word.{Word}
use Rattle.lock_word.proofs.Parts.{readers_of-word_number}
use Rattle.lock_word.proofs.Taking.{epoch_of-word_at, rises}
use Rattle.core_model.specs.Table.{left_by}
use Rattle.core_model.specs.Tabs.{counts}
use Rattle.core_model.specs.Trails.{last_find, seen_at}
use Rattle.core_model.specs.Sound.{AnchorsSound}
use Rattle.core_model.specs.declared.moves.Move.TheVariants.{Draw, Look, Take}
use Rattle.core_model.specs.declared.tab.Tab.{Tab}
use Rattle.core_model.specs.declared.view.Sight.{Sight}
use Rattle.core_model.specs.declared.view.Sight.TheVariants.{Stood}
use Rattle.core_model.specs.declared.view.View.{View}
use Rattle.store_serve.specs.Growing.{GrowsTo}
use Rattle.store_rule.specs.Ground.{Ground}
use Rattle.store_rule.specs.Told.{Steps}
use Rattle.store_rule.proofs.Moves.{known_of}
use Rattle.store_rule.specs.Calls.{IsFresh}
use Rattle.rock_writer.specs.Beginning.{InUse, Overtaken, Took, TookAnchor, WasIdle, WasVacant}
use Rattle.store_serve.proofs.Anchors.{drew}
use Rattle.store_serve.proofs.Grown.{by_step, on, same}
use Rattle.store_serve.proofs.Slots.{freed}
use Rattle.crew_accounts.proofs.Shown.{fresh_from, fresh_to, nothing_seen, seen_below}

-- A version that is drawn is later than all that was seen, at whatever anchor.
module _ {X : Type 0} {g : Ground X} where
  -- the counter is not below the version of what was seen
  counted_all : {v w : View X} {n : ℕ} → Steps g v Draw n w → (b : ℕ) → version_of (seen_at b v.seen) ≤ n
  counted_all {v} {w} {n} st b = dite (dec_le g.setting.anchors b) outside (λ n. inside (omega arith))
    where
      so : AnchorsSound g.setting st.state
      so = st.rule.sound.anchors

      inside : b < g.setting.anchors → version_of (seen_at b v.seen) ≤ n
      inside lt = let seen = so.seen.epochs st.index v st.at b lt in let stands = so.drawn.stand b lt in let is = st.found in omega arith

      outside : g.setting.anchors ≤ b → version_of (seen_at b v.seen) ≤ n
      outside far = let none = nothing_seen b v.seen (λ e h. let near = so.seen.inside st.index v st.at (Stood b e) h in omega arith) in omega arith

  drawn_later : {u v w : View X} {n : ℕ} → GrowsTo u v → Steps g v Draw n w → (b : ℕ) → version_of (seen_at b u.seen) < n + 1
  drawn_later {u} {v} keeps draws b = let counted = counted_all draws b in let before = seen_below b u.seen v.seen keeps.seen in omega arith

module _ {X : Type 0} {g : Ground X} {t a : ℕ} {v : View X} where
  -- the word that was looked at is the last find still
  found_still : {n version : ℕ} {w : View X} (h : TookAnchor g t a v n version w) → last_find a h.drawn.trail ≡ n
  found_still {n} {version} {w} h = ap (last_find a) (ap View.trail h.drew.draw.leaves) ∙ ap (last_find a) (ap View.trail h.drew.look.leaves) ∙ ap (last_find a) (ap View.trail h.looks.leaves) ∙ here
    where
      here : cond (a == a) n (last_find a v.trail) ≡ n
      here = let e = eq-eqb a a refl in rw e refl

  -- the version is later than that of the last find
  newer : {n version : ℕ} {w : View X} (h : TookAnchor g t a v n version w) → version_of (epoch_of (last_find a h.drawn.trail)) < version
  newer {n} {version} {w} h = h.takes.rule.sound.anchors.held.since h.takes.index h.drawn h.takes.at a version h.takes.may.allowed.0 h.takes.may.allowed.1.held h.takes.may.allowed.1.since

  -- the epoch at which it was taken is above all that was seen there
  took_fresh : {n version : ℕ} {w : View X} (h : TookAnchor g t a v n version w) → IsFresh a (epoch_at version 1) h.drawn w
  took_fresh {n} {version} {w} h = record {
    above = let found = (known_of g h.drawn (Take t a version) n w h.takes).anchors.fresh in
        let up = rises (epoch_of (last_find a h.drawn.trail)) version 1 (newer h) in
        let same = ap epoch_of (found_still h) in
        omega arith;
    seen = subst (λ (z : List Sight). Contains z (Stood a (epoch_at version 1))) (sym (ap View.seen h.takes.leaves)) (0, omega arith, ap (λ (e : ℕ). Stood a e) left);
  }
    where
      won : (n == last_find a h.drawn.trail) ≡ true
      won = eq-eqb n (last_find a h.drawn.trail) (sym (found_still h))

      left : epoch_of (left_by h.drawn (Take t a version) n) ≡ epoch_at version 1
      left = ap (λ (b : Bool). epoch_of (cond b (word_at version 1) n)) won ∙ epoch_of-word_at version 1

  cleared : {n : ℕ} {taken w : View X} → WasVacant g t a v n taken w ⊎ WasIdle g t a v n taken w → GrowsTo taken w
  cleared (inl h) = same h.same
  cleared (inr h) = freed h.freed

  pub begun_fresh : {n version : ℕ} {w : View X} → Took g t a v n version w → IsFresh a (epoch_at version 1) v w
  begun_fresh h = fresh_to (fresh_from (on (by_step h.took.looks) (drew h.took.drew)) (took_fresh h.took)) (cleared h.cleared)

  -- and later than all that was seen, at whatever anchor
  pub begun_later : {n version : ℕ} {w : View X} → Took g t a v n version w → (b : ℕ) → version_of (seen_at b v.seen) < version
  begun_later {n} {version} {w} h b =
      let later = drawn_later (on (by_step h.took.looks) (by_step h.took.drew.look)) h.took.drew.draw b in
      let is = h.took.drew.version_is in
      omega arith

-- Whom it met.

met_more : (a n m : ℕ) (met : List ℕ) → m < readers_of n → Contains (cond (ltb m (readers_of n)) (a ∷ []) [] ++ met) a
met_more a n m met lt = subst (λ (b : Bool). Contains (cond b (a ∷ []) [] ++ met) a) (sym (lt-ltb m (readers_of n) lt)) (0, omega arith, refl)

module _ {X : Type 0} {g : Ground X} {a : ℕ} where
  looked_met : {v w : View X} {n : ℕ} → Steps g v (Look a) n w → sum_by (counts a) v.tabs < readers_of n → Contains w.met a
  looked_met {v} {w} {n} st more = subst (λ (z : List ℕ). Contains z a) (sym (ap View.met st.leaves)) (met_more a n (sum_by (counts a) v.tabs) v.met more)

  missed_met : {t version n : ℕ} {u w : View X} → Steps g u (Take t a version) n w → sum_by (counts a) u.tabs < readers_of n → Contains w.met a
  missed_met {t} {version} {n} {u} {w} st more = subst (λ (z : List ℕ). Contains z a) (sym (ap View.met st.leaves)) (met_more a n (sum_by (counts a) u.tabs) u.met more)

module _ {X : Type 0} {g : Ground X} {t a : ℕ} {v : View X} where
  -- the anchor was in use, or another pass came first
  in_use_met : (looked found : Word) (w : View X) → looked.readers < 65536 → InUse g t a v looked found w → (sum_by (counts a) v.tabs < looked.readers) ⊎ (sum_by (counts a) v.tabs < found.readers) → Contains w.met a
  in_use_met looked found w small h (inl more) = looked_met h.looks (let r = readers_of-word_number looked (omega arith) in omega arith)
  in_use_met looked found w small h (inr more) = looked_met h.looks (let r = readers_of-word_number looked (omega arith) in let e = ap Word.readers h.same in omega arith)

  pub drawn_tabs : {looked found : Word} {w : View X} (h : Overtaken g t a v looked found w) → h.drawn.tabs ≡ v.tabs
  drawn_tabs h = ap View.tabs h.drew.draw.leaves ∙ ap View.tabs h.drew.look.leaves ∙ ap View.tabs h.looks.leaves

  overtaken_met : (looked found : Word) (w : View X) → looked.readers < 65536 → found.readers < 65536 → Overtaken g t a v looked found w → (sum_by (counts a) v.tabs < looked.readers) ⊎ (sum_by (counts a) v.tabs < found.readers) → Contains w.met a
  overtaken_met looked found w small low h (inl more) = (on (drew h.drew) (by_step h.misses)).met a (looked_met h.looks (let r = readers_of-word_number looked (omega arith) in omega arith))
  overtaken_met looked found w small low h (inr more) = missed_met h.misses (let r = readers_of-word_number found (omega arith) in let e = ap (λ (xs : List (Tab X)). sum_by (counts a) xs) (drawn_tabs h) in omega arith)

  pub busy_met : (looked found : Word) (w : View X) → looked.readers < 65536 → found.readers < 65536 → InUse g t a v looked found w ⊎ Overtaken g t a v looked found w
      → (sum_by (counts a) v.tabs < looked.readers) ⊎ (sum_by (counts a) v.tabs < found.readers) → Contains w.met a
  busy_met looked found w small low (inl h) more = in_use_met looked found w small h more
  busy_met looked found w small low (inr h) more = overtaken_met looked found w small low h more
