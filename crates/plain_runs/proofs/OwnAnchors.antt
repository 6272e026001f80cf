-- Anchors that are a pass's own: nobody else changes what stands there, so the pass knows it. In a store with one pass all of them are.
use mathlib.Core.Option.{some}
use lib.ListN.{get_elem?}
use Rattle.std.proofs.Common.{List, ap, false, refl, subst, sym, true, ◌<◌, ◌∙◌, ◌≡◌, ◌≤◌, ℕ}
use Rattle.lock_word.specs.Words.{epoch_of, stage_of}
use Rattle.core_model.specs.Chains.{IsSpelled, start_number}
use Rattle.core_model.specs.Layout.{IsPlace, index, word_in}
use Rattle.core_model.specs.State.{chain_of, word}
use Rattle.core_model.specs.Holders.{IsTab}
use Rattle.core_model.specs.Tabs.{IsPass, anchor_of, is_free, tab_at}
use Rattle.core_model.specs.declared.tab.Tab.{Tab}
use Rattle.core_model.specs.declared.moves.Move.{Move}
use Rattle.core_model.specs.declared.moves.Move.TheVariants.{GetLink}
use Rattle.core_model.specs.declared.moves.Side.TheVariants.{Start}
use Rattle.core_model.specs.declared.view.Place.{Place}
use Rattle.core_model.specs.declared.view.Place.TheVariants.{Anchor, Beside, Link}
use Rattle.core_model.specs.declared.view.View.{View}
use Rattle.plain_model.specs.declared.entry.Entry.{Entry}
use Rattle.store_rule.specs.Ground.{Ground}
use Rattle.store_rule.specs.Told.{Stands, Steps}
use Rattle.store_rule.specs.Words.{Mine, has}
use Rattle.core_model.proofs.SpelledOnce.{spelled_once}
use Rattle.core_model.proofs.Telling.{told_in}
use Rattle.store_rule.proofs.MyWords.{found_mine, mine_lone as one_owns}
use Rattle.plain_runs.specs.Words.{HasChain, IsLone, Lot, link_known}
use Rattle.plain_runs.proofs.Chains.{chain_spelled, chain_starts, only_tabs, word_is}

-- The word of the anchor, or one beside it.
abbrev pub IsOfAnchor : ℕ → Place → Type 0
IsOfAnchor a (Anchor b) = b ≡ a
IsOfAnchor a (Beside side b) = b ≡ a
IsOfAnchor a q = ⊥

-- a step was made in a state of its pass
abbrev pub stands_before : {g : Ground (List ℕ)} {v w : View (List ℕ)} {m : Move} {n : ℕ} → Steps g v m n w → Stands g v
stands_before st = record { state = st.state; index = st.index; rule = st.rule; at = st.at }

-- it leaves the pass its number
pub pass_stays : (g : Ground (List ℕ)) (v w : View (List ℕ)) (m : Move) (n : ℕ) → Steps g v m n w → w.pass ≡ v.pass
pass_stays g v w m n st = ap View.pass st.leaves

-- In a store with one pass nobody else changes any word.
pub mine_lone : (g : Ground (List ℕ)) → IsLone g → (v : View (List ℕ)) (q : Place) → Mine g v q
mine_lone g lone v q = one_owns g v.pass lone (index g.setting q)

-- The anchor is the own one of the pass with this number.
pub record OwnsAnchor (g : Ground (List ℕ)) (pass a : ℕ) : Type 0 where
  -- nobody else changes its word and those beside it
  pub words : (v : View (List ℕ)) (q : Place) → v.pass ≡ pass → IsOfAnchor a q → Mine g v q
  -- a tab that is there finds each link as the pass has it
  pub links : (v w : View (List ℕ)) (t slot n : ℕ) → v.pass ≡ pass → anchor_of (tab_at v t) ≡ a → Steps g v (GetLink t slot) n w
      → n ≡ has g v (Link slot)
  -- where the pass stands in a state, its words there are as the pass has them
  pub stands : (v : View (List ℕ)) (st : Stands g v) (q : Place) → v.pass ≡ pass → IsPass v → IsOfAnchor a q → IsPlace g.setting q
      → word_in g.setting st.state.words q ≡ has g v q
  -- each tab there is one of it
  pub tabs : (v : View (List ℕ)) (st : Stands g v) (j t : ℕ) (tab : Tab (List ℕ)) → v.pass ≡ pass → IsPass v → IsTab st.state j t tab
      → is_free tab ≡ false → anchor_of tab ≡ a → (j ≡ st.index) × (get_elem? v.tabs t ≡ some tab)
  -- and what it has spells the chain, where the Start word names the first slot
  pub spelled : (v : View (List ℕ)) (st : Stands g v) → v.pass ≡ pass → IsPass v → a < g.setting.anchors
      → has g v (Beside Start a) ≡ start_number (chain_of st.state a).slots
      → IsSpelled (has g v (Beside Start a)) (link_known g v) (chain_of st.state a).slots (chain_of st.state a).end

-- in a store with one pass each anchor is its own
pub owns_lone : (g : Ground (List ℕ)) → IsLone g → (pass a : ℕ) → OwnsAnchor g pass a
owns_lone g lone pass a = record {
  words = λ v q same here. mine_lone g lone v q;
  links = λ v w t slot n same at st. found_mine g v w (GetLink t slot) n (Link slot) st (mine_lone g lone v (Link slot)) refl;
  stands = λ v st q same nine here inside. word_is g lone st.state st.index v st.rule st.at nine q inside;
  tabs = λ v st j t tab same nine is used at. only_tabs g lone st.state st.index v st.rule st.at nine j t tab is;
  spelled = λ v st same nine lt starts. chain_spelled g lone st.state st.index v st.rule st.at nine a lt starts;
}

-- Each anchor of the lot is the own one of the pass with this number.
abbrev pub OwnsLot : Ground (List ℕ) → Lot → ℕ → Type 0
OwnsLot g lot pass = (a : ℕ) → a < g.setting.anchors → lot.anchors a ≡ true → OwnsAnchor g pass a

-- it stays so while the pass keeps its number
pub lot_stays : (g : Ground (List ℕ)) (lot : Lot) (v w : View (List ℕ)) → w.pass ≡ v.pass → OwnsLot g lot v.pass → OwnsLot g lot w.pass
lot_stays g lot v w same owns = subst (OwnsLot g lot) (sym same) owns

-- in a store with one pass so is any lot
pub lot_lone : (g : Ground (List ℕ)) → IsLone g → (lot : Lot) (pass : ℕ) → OwnsLot g lot pass
lot_lone g lone lot pass a lt ours = owns_lone g lone pass a

-- What spells the chain of an entry at such an anchor of which slots are published spells the chain that stands there.
pub own_chain : (g : Ground (List ℕ)) (v : View (List ℕ)) (a : ℕ) → OwnsAnchor g v.pass a → (st : Stands g v) → IsPass v
    → a < g.setting.anchors → (e : Entry) (h : HasChain g v a e) → 2 ≤ stage_of (epoch_of (word st.state a)) → stage_of (epoch_of (word st.state a)) ≤ 4
    → (h.slots ≡ (chain_of st.state a).slots) × (h.end ≡ (chain_of st.state a).end)
own_chain g v a own st nine lt e h least most = spelled_once (link_known g v) (has g v (Beside Start a))
    h.slots (chain_of st.state a).slots h.end (chain_of st.state a).end h.spelled (own.spelled v st refl nine lt starts)
  where
    starts : has g v (Beside Start a) ≡ start_number (chain_of st.state a).slots
    starts = sym (told_in g.setting.anchors a _ lt ∙ own.stands v st (Beside Start a) refl nine refl lt)
        ∙ chain_starts g st.state st.rule a lt least most
