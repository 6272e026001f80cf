-- The free slots, those that the entries of the plain store hold, and those that tabs have spare are together all.
use Rattle.std.proofs.Common.{List, ap, arith, length, refl, sum_by, sym, ◌+◌, ◌<◌, ◌∙◌, ◌≡◌, ◌≤◌, ℕ}
use Rattle.std.proofs.lemmas.Bool.{false≢true}
use mathlib.Core.Option.{some}
use lib.ListN.{get_elem?}
use Rattle.core_model.proofs.Lists.{at_or}
use Rattle.core_model.proofs.SlotsCounted.{slots_counted}
use Rattle.core_model.specs.Chains.{Tied, no_chain, slots_of_link}
use Rattle.core_model.specs.Layout.{Setting}
use Rattle.core_model.specs.Spots.{free_below, slots_chained, slots_held}
use Rattle.core_model.specs.State.{State}
use Rattle.core_model.specs.Tabs.{InnerIsFree, IsPass, count, is_free, tab_at}
use Rattle.core_model.specs.declared.tab.Freer.{Freer}
use Rattle.core_model.specs.declared.tab.Tab.{Tab}
use Rattle.core_model.specs.declared.tab.Tab.TheVariants.{Free, Freeing, Last as LastTab, Reading, Retreating, Writing}
use Rattle.core_model.specs.declared.tab.Writer.{Writer}
use Rattle.core_model.specs.declared.view.View.{View}
use Rattle.entry_cut.specs.Content.{room_of}
use Rattle.link_word.specs.declared.link.Link.{Link}
use Rattle.link_word.specs.declared.link.Link.TheVariants.{Last, Next, NotWritten}
use Rattle.plain_runs.specs.Words.{IsLone, Knows, spare, spare_of}
use Rattle.plain_runs.proofs.Chains as told
use Rattle.plain_runs.proofs.OwnAnchors.{owns_lone}
use Rattle.plain_runs.proofs.Freeing.{FewReaders}
use Rattle.plain_runs.proofs.Holding.{AllRaised, holds_at, linked, linked_at}
use Rattle.plain_runs.proofs.Totals.{sum_only, sum_plus, sum_same, sums_match, total, total_none, total_of_sums, total_only}
use Rattle.plain_model.specs.Place.{nothing}
use Rattle.plain_model.specs.Slots.{held}
use Rattle.plain_model.specs.Store.{place_at}
use Rattle.plain_model.specs.declared.store.Plain.{Plain}
use Rattle.store_rule.specs.Ground.{Ground, Rule}

-- what the last link of a tab names it has reserved
pub tied_few : (e : Link) (published reserved : List ℕ) → Tied e published reserved → length (slots_of_link e) ≤ length reserved
tied_few NotWritten published reserved h = omega arith
tied_few Last published reserved h = omega arith
tied_few (Next x) published reserved h = let e = ap length h in omega arith

module _ (g : Ground (List ℕ)) (lone : IsLone g) (s : State (List ℕ)) (i : ℕ) (v : View (List ℕ)) (rule : Rule g s) (at : get_elem? s.views i ≡ some v) (pass : IsPass v) where
  abbrev k : Setting (List ℕ)
  k = g.setting

  pub writer_tied : (t : ℕ) (w : Writer (List ℕ)) → get_elem? v.tabs t ≡ some (Writing w) → length (slots_of_link w.end) ≤ length w.reserved
  writer_tied t w there = tied_few w.end w.published w.reserved (told.writer_holds g s rule i t w record { view = v; at = at; there = there }).tied

  own_tabs : sum_by (count slots_held) s.views ≡ sum_by slots_held v.tabs
  own_tabs = sum_only (count slots_held) s.views i v at (λ j u there ne. ap (sum_by slots_held) (told.other_views g lone s i v rule at pass j u there ne))

  module _ (free : InnerIsFree v) where
    none_frees : (t : ℕ) (f : Freer (List ℕ)) → get_elem? v.tabs t ≡ some (Freeing f) → ⊥
    none_frees t f there = let at_inner = (rule.sound.anchors.tabs i v at t (Freeing f) there).1 in
        false≢true (ap is_free (sym (at_or v.tabs t (Freeing f) Free there) ∙ ap (tab_at v) at_inner) ∙ free)

    split : (t : ℕ) (tab : Tab (List ℕ)) → get_elem? v.tabs t ≡ some tab → slots_held tab ≡ spare_of tab + linked tab
    split t (Writing w) there = let few = writer_tied t w there in omega arith
    split t (Freeing f) there = absurd (none_frees t f there)
    split t Free there = omega arith
    split t (Retreating a) there = omega arith
    split t (Reading r) there = omega arith
    split t (LastTab a) there = omega arith

    held_split : sum_by slots_held v.tabs ≡ spare v + sum_by linked v.tabs
    held_split = sum_same slots_held (λ (x : Tab (List ℕ)). spare_of x + linked x) v.tabs split ∙ sum_plus spare_of linked v.tabs

  linked_of : (t : ℕ) (tab : Tab (List ℕ)) → get_elem? v.tabs t ≡ some tab → total (λ a. linked_at a tab) 0 k.anchors ≡ linked tab
  linked_of t (Writing w) there = total_only w.anchor (length (slots_of_link w.end)) 0 k.anchors (omega arith) (let h = (rule.sound.anchors.tabs i v at t (Writing w) there).0 in omega arith)
  linked_of t (Freeing f) there = total_none (λ a. linked_at {X = List ℕ} a (Freeing f)) 0 k.anchors (λ a le lt. refl)
  linked_of t Free there = total_none (λ a. linked_at {X = List ℕ} a Free) 0 k.anchors (λ a le lt. refl)
  linked_of t (Retreating b) there = total_none (λ a. linked_at {X = List ℕ} a (Retreating b)) 0 k.anchors (λ a le lt. refl)
  linked_of t (Reading r) there = total_none (λ a. linked_at {X = List ℕ} a (Reading r)) 0 k.anchors (λ a le lt. refl)
  linked_of t (LastTab b) there = total_none (λ a. linked_at {X = List ℕ} a (LastTab b)) 0 k.anchors (λ a le lt. refl)

  all_linked : total (λ a. sum_by (linked_at a) v.tabs) 0 k.anchors ≡ sum_by linked v.tabs
  all_linked = total_of_sums linked_at v.tabs 0 k.anchors ∙ sum_same (λ (x : Tab (List ℕ)). total (λ a. linked_at a x) 0 k.anchors) linked v.tabs linked_of

  module _ (rename : ℕ → ℕ) (p : Plain) (guests : ℕ → ℕ) (knows : Knows g rename v p guests) (few : FewReaders p guests) (raised : AllRaised v) where
    abbrev room : ℕ
    room = room_of g.slot

    at_place : (a : ℕ) → a < length s.chains → slots_chained (Rattle.core_model.specs.State.chain_of s a) + sum_by (linked_at (0 + a)) v.tabs ≡ held room (place_at p a)
    at_place a lt = let inside : a < k.anchors = (let e = rule.sound.anchors.shaped.chains in omega arith) in
        let h = holds_at g s i v rule at pass a (owns_lone g lone v.pass a) inside rename p (guests a) (knows.each a inside refl) (few a) raised in let e = ap (λ z. sum_by (linked_at z) v.tabs) (zero_first a) in omega arith
      where
        zero_first : (n : ℕ) → 0 + n ≡ n
        zero_first n = omega arith

    chains_match : sum_by slots_chained s.chains + total (λ a. sum_by (linked_at a) v.tabs) 0 (length s.chains) ≡ sum_by (held room) p.places
    chains_match = sums_match slots_chained no_chain (λ a. sum_by (linked_at a) v.tabs) (held room) nothing 0 s.chains p.places (rule.sound.anchors.shaped.chains ∙ sym knows.many) at_place

    pub slots_add_up : InnerIsFree v → free_below k s k.slots + sum_by (held room) p.places + spare v ≡ k.slots
    slots_add_up free = let all = slots_counted k s rule.sound.slots in let own = own_tabs in let split_ = held_split free in let links = all_linked in let chains = chains_match in
        let same = ap (total (λ a. sum_by (linked_at a) v.tabs) 0) rule.sound.anchors.shaped.chains in omega arith
