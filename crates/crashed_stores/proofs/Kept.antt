-- An entry that was kept at the opening and still stands.
use Rattle.std.proofs.Common.{◌≡◌, ◌<◌, ◌≤◌, ◌^◌, ℕ, zero, suc, List, [], ◌∷◌, Bool, All, IsTrue, Contains, length, map, refl, sym, ap, subst, ◌∙◌, arith}
use Rattle.std.proofs.lemmas.List.Elements.{All-head}
use Rattle.std.specs.Global.{Vec}
use Rattle.store_key.specs.Anchor.{anchor_of}
use Rattle.lock_word.specs.Words.{epoch_of, version_of}
use Rattle.rock_disk.specs.Cell.{CellState}
use Rattle.rebuild_model.specs.declared.found.Found.{Found}
use Rattle.rebuild_model.specs.Entry.{Entry, found_of}
use Rattle.rebuild_model.specs.Image.{BelongsTo}
use Rattle.rebuild_model.specs.Rebuilt.{IsRebuilt, IsWinner}
use Rattle.core_model.specs.declared.chain.Chain.{Chain}
use Rattle.core_model.specs.Anchors.{opening_counter}
use Rattle.core_model.specs.Offers.{IsOldEntry}
use Rattle.core_model.specs.Opening.{IsKeptAt}
use Rattle.core_model.specs.State.{State, chain_of, word}
use Rattle.crash_entries.proofs.Telling.{Tools}
use Rattle.crash_laws.specs.Left.{StandsOld}
use Rattle.crash_laws.proofs.Standing.{old_kept}
use Rattle.store_rule.specs.declared.store.Pass.{Pass}
use Rattle.store_rule.specs.declared.store.Store.{Store}
use Rattle.store_rule.specs.Ground.{Ground, Offers, Rule, offering_of}
use Rattle.store_rule.specs.Passes.{basis}
use Rattle.store_rule.specs.Rebuilding.{opened_state}
use Rattle.rock_open.specs.Opening.{IsStoreOver}
use Rattle.crashed_stores.specs.Left.{IsLeftOf, bytes_now, offers_in}
use Rattle.crashed_stores.proofs.Over.{is_file, keeps, rebuilt}

-- the law that one entry is kept at an anchor
abbrev pub OneKept : Type 0
OneKept = (slot : ℕ) (images : List (List ℕ)) (anchors anchor : ℕ) (e f : Entry) → IsWinner slot images anchors anchor e → IsWinner slot images anchors anchor f → e ≡ f

-- what is made of an element of a list is among what is made of all
made : {A B : Type 0} (f : A → B) (xs : List A) (x : A) → Contains xs x → Contains (map f xs) (f x)
made f [] x h = absurd (let lt = h.1 in omega arith)
made f (y ∷ xs) x (zero, lt, is) = (0, omega arith, ap f is)
made f (y ∷ xs) x (suc i, lt, is) = let c = made f xs x (i, omega arith, is) in (suc c.0, (let z = c.1 in omega arith), c.2)

-- and what is among that was made of one
made_of : {A B : Type 0} (f : A → B) (xs : List A) (y : B) → Contains (map f xs) y → (x : A) × Contains xs x × (f x ≡ y)
made_of f [] y h = absurd (let lt = h.1 in omega arith)
made_of f (x ∷ xs) y (zero, lt, is) = (x, (0, omega arith, refl), is)
made_of f (x ∷ xs) y (suc i, lt, is) = let c = made_of f xs y (i, omega arith, is) in (c.0, (suc c.1.0, (let z = c.1.1 in omega arith), c.1.2), c.2)

module _ {C O : Type 0} (tells : Bool) (told : IsTrue tells) (cell : C → CellState) (offers : O → Offers) (slot anchors many : ℕ) (origin : O) (cells : List C) (store : Store C O) (passes : Vec (Pass C))
    (over : IsStoreOver tells cell offers slot anchors many origin cells store passes) (s : State (List ℕ)) (rule : Rule (basis tells cell offers store) s) (one : OneKept) (a : ℕ) (e : Entry)
    (won : IsWinner slot (bytes_now cell cells) anchors a e) where
  abbrev g : Ground (List ℕ)
  g = basis tells cell offers store

  is_rebuilt : IsRebuilt slot (bytes_now cell cells) anchors over.rebuilt
  is_rebuilt = rebuilt tells told cell offers slot anchors many origin cells store passes over

  among : Contains is_rebuilt.entries e
  among = let h = made_of (λ (f : Entry). anchor_of f.key anchors) is_rebuilt.entries (anchor_of e.key anchors) (is_rebuilt.every e won.complete) in
      subst (Contains is_rebuilt.entries) (one slot (bytes_now cell cells) anchors a h.0 e (subst (λ n. IsWinner slot (bytes_now cell cells) anchors n h.0) (h.2 ∙ won.at) (is_rebuilt.won h.0 h.1)) won) h.1

  kept : IsKeptAt g.setting (opened_state g.setting over.rebuilt.winners) (anchor_of e.key g.setting.anchors) (found_of e)
  kept = over.opened.opened.kept (found_of e) (subst (λ (fs : List Found). Contains fs (found_of e)) (sym is_rebuilt.told) (made found_of is_rebuilt.entries e among))

  here : anchor_of e.key g.setting.anchors ≡ a
  here = ap (anchor_of e.key) over.anchors_are ∙ won.at

  chain_is : g.chain a ≡ e.chain
  chain_is = ap (λ (f : ℕ → List ℕ). f a) over.opened.chain
      ∙ ap Chain.slots (subst (λ (n : ℕ). IsKeptAt g.setting (opened_state g.setting over.rebuilt.winners) n (found_of e)) here kept).chain

  low : e.version ≤ opening_counter g.setting
  low = let c = won.complete in let belong = subst (All (BelongsTo slot (bytes_now cell cells) e.first)) c.chain.begins c.chain.belong in
      let first = All-head (BelongsTo slot (bytes_now cell cells) e.first) e.first c.chain.behind belong in
      let above = is_rebuilt.greatest.above e.first first.sane in let counter = over.opened.opened.counter in let v = c.version in omega arith

  module _ (lt : a < anchors) (some_slot : 0 < length (chain_of s a).slots) (version_is : version_of (epoch_of (word s a)) ≡ e.version) where
    under : a < g.setting.anchors
    under = let z = over.anchors_are in omega arith

    old : IsOldEntry (offering_of g) g.setting s a
    old = rule.offered.old a under some_slot (let z = low in omega arith)

    stands : StandsOld slot (bytes_now cell cells) g.setting s a e
    stands = record {
      won = subst (λ (n : ℕ). IsWinner slot (bytes_now cell cells) n a e) (sym over.anchors_are) won;
      offer = old.inside;
      version_is = sym version_is;
      chain_is = sym chain_is ∙ sym old.slots;
    }

    pub kept_stays : (t : Tools) → slot < 2 ^ 32 → length cells ≤ 1048576 → (images : List (List ℕ)) → IsLeftOf g s rule.logged.log images → IsWinner slot images anchors a e
    kept_stays t sized few images left = subst (λ (n : ℕ). IsWinner slot images n a e) over.anchors_are
        (old_kept t slot (offers_in g) g.setting (λ x. x) (bytes_now cell cells) s rule.logged.log sized (let z = over.slots_are in omega arith) (is_file tells told cell offers slot anchors many origin cells store passes over) rule.sound
        rule.logged.stands.cells rule.logged.stands.links (keeps tells told cell offers slot anchors many origin cells store passes over s rule) rule.logged.stands.settled images left a under e stands)
