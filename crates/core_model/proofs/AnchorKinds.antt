-- What the kinds of steps on an anchor share: how one tab changes, and a step that leaves the epoch alone.
use Rattle.std.proofs.Common.{◌≡◌, ◌≢◌, ◌⊎◌, inl, inr, ⊎_elim, ℕ, ◌+◌, ◌<◌, ◌≤◌, List, [], ◌∷◌, length, get_or, set, sym, refl, ap, ◌∙◌, subst, arith, sum_by, Bool, true, false, cond, ltb, length-set, max, Contains}
use Rattle.std.proofs.lemmas.Bool.{ltb-true}
use mathlib.Core.Option.{some}
use lib.ListN.{get_elem?}
use Rattle.lock_word.specs.Words.{readers_of, epoch_of, version_of, doom_of, IsWord, is_left_over}
use Rattle.core_model.specs.declared.tab.Tab.{Tab}
use Rattle.core_model.specs.declared.tab.Tab.TheVariants.{Last}
use Rattle.core_model.specs.declared.view.Item.{Item}
use Rattle.core_model.specs.declared.view.Sight.{Sight}
use Rattle.core_model.specs.declared.view.Sight.TheVariants.{Stood}
use Rattle.core_model.specs.declared.view.Deed.{Deed}
use Rattle.core_model.specs.declared.view.View.{View}
use Rattle.core_model.specs.declared.chain.Chain.{Chain}
use Rattle.core_model.specs.Chains.{times}
use Rattle.core_model.specs.Layout.{Setting}
use Rattle.core_model.specs.State.{State, word}
use Rattle.core_model.specs.Trails.{tells_word, is_draw, counted_in, last_find, seen_at}
use Rattle.core_model.specs.Tabs.{counts, writes, frees, count, IsPass}
use Rattle.core_model.specs.Anchors.{written_at, freed_at, TabStands}
use Rattle.core_model.specs.Deeds.{EnteredBy}
use Rattle.core_model.specs.Sound.{AnchorsSound}
use Rattle.core_model.proofs.Lists.{by_eq, at_set, contains_none}
use Rattle.core_model.proofs.Tabs.{Turns, changes, counts_else, writes_else, frees_else, stay_last}
use Rattle.core_model.proofs.AnchorStep.{stepped, moved}
use Rattle.core_model.proofs.AnchorKept.{at_anchor}
use Rattle.core_model.specs.AnchorMoves.{entered, meets}

pub meets_others : {X : Type 0} → (a n b : ℕ) (tabs : List (Tab X)) → Contains (meets a n tabs) b → (b ≡ a) × (sum_by (counts a) tabs < readers_of n)
meets_others {X} a n b tabs = by_bool (ltb (sum_by (counts a) tabs) (readers_of n)) refl
  where
    by_bool : (z : Bool) → z ≡ ltb (sum_by (counts a) tabs) (readers_of n) → Contains (cond z (a ∷ []) []) b → (b ≡ a) × (sum_by (counts a) tabs < readers_of n)
    by_bool true e (i, lt, q) = (one_of i lt q, ltb-true _ _ (sym e))
      where
        one_of : (i : ℕ) → i < 1 → get_or (a ∷ []) i b ≡ b → b ≡ a
        one_of i lt q = let z : i ≡ 0 = omega arith in sym (subst (λ (m : ℕ). get_or (a ∷ []) m b ≡ b) z q)
    by_bool false e h = absurd (contains_none b h)

pub sees_now : (a e : ℕ) (xs : List Sight) → e ≤ seen_at a (Stood a e ∷ xs)
sees_now a e xs = by_eq (λ z. e ≤ max (cond z e 0) (seen_at a xs)) a a (λ q. omega arith) (λ ne. absurd (ne refl))

-- the item of a step on the anchor a, which left n'
pub record ItemOwes (a n' : ℕ) (item : Item) : Type 0 where
  pub at_a : item.at ≡ a
  pub tells : tells_word item.kind ≡ true
  pub no_draw : is_draw item.kind ≡ false
  pub no_count : (found before : ℕ) → counted_in item.kind found before ≡ before
  pub found : epoch_of item.found ≤ epoch_of n'

-- what the tabs owe
pub record TabsOwe {X : Type 0} (k : Setting X) (s : State X) (i : ℕ) (v : View X) (a n' e : ℕ) (tabs : List (Tab X)) (held : List ℕ) (item : Item) (deeds : List Deed) (met : List ℕ) (chains : List Chain) : Type 0 where
  pub length_same : length tabs ≡ length v.tabs
  pub readers : readers_of n' + count (counts a) v ≡ readers_of (word s a) + sum_by (counts a) tabs
  pub writers : (u g : ℕ) → written_at (epoch_of n') u g + count (writes a u g) v ≡ written_at (epoch_of (word s a)) u g + sum_by (writes a u g) tabs
  pub freers : (u d : ℕ) → freed_at (epoch_of n') u d + count (frees a u d) v ≡ freed_at (epoch_of (word s a)) u d + sum_by (frees a u d) tabs
  pub readers_else : (b : ℕ) → b ≢ a → sum_by (counts b) tabs ≡ count (counts b) v
  pub writers_else : (b u g : ℕ) → b ≢ a → sum_by (writes b u g) tabs ≡ count (writes b u g) v
  pub freers_else : (b u d : ℕ) → b ≢ a → sum_by (frees b u d) tabs ≡ count (frees b u d) v
  pub stand : (t : ℕ) (tab : Tab X) → get_elem? tabs t ≡ some tab
      → (get_elem? v.tabs t ≡ some tab) ⊎ TabStands k (moved s i (stepped v a n' e tabs held item deeds met) a n' chains) (stepped v a n' e tabs held item deeds met) t tab
  pub lasts_else : (b t : ℕ) → b ≢ a → get_elem? v.tabs t ≡ some (Last b) → get_elem? tabs t ≡ some (Last b)

module _ {X : Type 0} (k : Setting X) (s : State X) (i : ℕ) (v : View X) (so : AnchorsSound k s) (at : get_elem? s.views i ≡ some v) (pass : IsPass v) where
  -- no tab changes
  pub no_tab : (a n' e : ℕ) (held : List ℕ) (item : Item) (deeds : List Deed) (met : List ℕ) (chains : List Chain)
      → readers_of n' ≡ readers_of (word s a) → ((u g : ℕ) → written_at (epoch_of n') u g ≡ written_at (epoch_of (word s a)) u g) → ((u d : ℕ) → freed_at (epoch_of n') u d ≡ freed_at (epoch_of (word s a)) u d)
      → TabsOwe k s i v a n' e v.tabs held item deeds met chains
  no_tab a n' e held item deeds met chains r w f = record {
    length_same = refl;
    readers = omega arith;
    writers = λ u g. let z = w u g in omega arith;
    freers = λ u d. let z = f u d in omega arith;
    readers_else = λ b ne. refl;
    writers_else = λ b u g ne. refl;
    freers_else = λ b u d ne. refl;
    stand = λ t tab h. inl h;
    lasts_else = λ b t ne h. h;
  }

  -- the tab t goes from old to new
  pub one_tab : (a n' e t : ℕ) (old new : Tab X) (held : List ℕ) (item : Item) (deeds : List Deed) (met : List ℕ) (chains : List Chain) → Turns v.tabs t a old new
      → readers_of n' + counts a old ≡ readers_of (word s a) + counts a new
      → ((u g : ℕ) → written_at (epoch_of n') u g + writes a u g old ≡ written_at (epoch_of (word s a)) u g + writes a u g new)
      → ((u d : ℕ) → freed_at (epoch_of n') u d + frees a u d old ≡ freed_at (epoch_of (word s a)) u d + frees a u d new)
      → TabStands k (moved s i (stepped v a n' e (set v.tabs t new) held item deeds met) a n' chains) (stepped v a n' e (set v.tabs t new) held item deeds met) t new
      → TabsOwe k s i v a n' e (set v.tabs t new) held item deeds met chains
  one_tab a n' e t old new held item deeds met chains turns r w f stands = record {
    length_same = length-set v.tabs t new;
    readers = let c = changes v.tabs t a old new turns (counts a) in omega arith;
    writers = λ u g. let c = changes v.tabs t a old new turns (writes a u g) in let z = w u g in omega arith;
    freers = λ u d. let c = changes v.tabs t a old new turns (frees a u d) in let z = f u d in omega arith;
    readers_else = counts_else v.tabs t a old new turns;
    writers_else = writes_else v.tabs t a old new turns;
    freers_else = frees_else v.tabs t a old new turns;
    stand = λ p tab h. ⊎_elim
        (λ (q : (p ≡ t) × (new ≡ tab)). inr (subst (λ (z : ℕ). TabStands k (moved s i (stepped v a n' e (set v.tabs t new) held item deeds met) a n' chains) (stepped v a n' e (set v.tabs t new) held item deeds met) z tab) (sym q.0)
        (subst (TabStands k (moved s i (stepped v a n' e (set v.tabs t new) held item deeds met) a n' chains) (stepped v a n' e (set v.tabs t new) held item deeds met) t) q.1 stands)))
        (λ (q : (p ≢ t) × (get_elem? v.tabs p ≡ some tab)). inl q.1)
        (at_set v.tabs t p new tab h);
    lasts_else = stay_last v.tabs t a old new turns;
  }

  there : (s' : State X) (w : View X) (q r : ℕ) (tab x : Tab X) → q ≡ r → x ≡ tab → TabStands k s' w r x → TabStands k s' w q tab
  there s' w q r tab x e f h = subst (λ (z : ℕ). TabStands k s' w z tab) (sym e) (subst (TabStands k s' w r) f h)

  -- the tab p goes from one to another, and then the tab t
  pub two_tabs : (a n' e p t : ℕ) (old new before last : Tab X) (held : List ℕ) (item : Item) (deeds : List Deed) (met : List ℕ) (chains : List Chain)
      → Turns v.tabs p a old new → Turns (set v.tabs p new) t a before last
      → readers_of n' + counts a old + counts a before ≡ readers_of (word s a) + counts a new + counts a last
      → ((u g : ℕ) → written_at (epoch_of n') u g + writes a u g old + writes a u g before ≡ written_at (epoch_of (word s a)) u g + writes a u g new + writes a u g last)
      → ((u d : ℕ) → freed_at (epoch_of n') u d + frees a u d old + frees a u d before ≡ freed_at (epoch_of (word s a)) u d + frees a u d new + frees a u d last)
      → TabStands k (moved s i (stepped v a n' e (set (set v.tabs p new) t last) held item deeds met) a n' chains) (stepped v a n' e (set (set v.tabs p new) t last) held item deeds met) p new
      → TabStands k (moved s i (stepped v a n' e (set (set v.tabs p new) t last) held item deeds met) a n' chains) (stepped v a n' e (set (set v.tabs p new) t last) held item deeds met) t last
      → TabsOwe k s i v a n' e (set (set v.tabs p new) t last) held item deeds met chains
  two_tabs a n' e p t old new before last held item deeds met chains one two r w f stands stands_last = record {
    length_same = length-set (set v.tabs p new) t last ∙ length-set v.tabs p new;
    readers = let c = changes v.tabs p a old new one (counts a) in let d = changes (set v.tabs p new) t a before last two (counts a) in omega arith;
    writers = λ u g. let c = changes v.tabs p a old new one (writes a u g) in let d = changes (set v.tabs p new) t a before last two (writes a u g) in let z = w u g in omega arith;
    freers = λ x y. let c = changes v.tabs p a old new one (frees a x y) in let d = changes (set v.tabs p new) t a before last two (frees a x y) in let z = f x y in omega arith;
    readers_else = λ b ne. counts_else (set v.tabs p new) t a before last two b ne ∙ counts_else v.tabs p a old new one b ne;
    writers_else = λ b u g ne. writes_else (set v.tabs p new) t a before last two b u g ne ∙ writes_else v.tabs p a old new one b u g ne;
    freers_else = λ b u d ne. frees_else (set v.tabs p new) t a before last two b u d ne ∙ frees_else v.tabs p a old new one b u d ne;
    stand = λ q tab h. ⊎_elim
        (λ (x : (q ≡ t) × (last ≡ tab)). inr (there (moved s i (stepped v a n' e (set (set v.tabs p new) t last) held item deeds met) a n' chains) (stepped v a n' e (set (set v.tabs p new) t last) held item deeds met) q t tab last x.0 x.1 stands_last))
        (λ (x : (q ≢ t) × (get_elem? (set v.tabs p new) q ≡ some tab)). ⊎_elim
        (λ (y : (q ≡ p) × (new ≡ tab)). inr (there (moved s i (stepped v a n' e (set (set v.tabs p new) t last) held item deeds met) a n' chains) (stepped v a n' e (set (set v.tabs p new) t last) held item deeds met) q p tab new y.0 y.1 stands))
        (λ (y : (q ≢ p) × (get_elem? v.tabs q ≡ some tab)). inl y.1)
        (at_set v.tabs p q new tab x.1))
        (at_set (set v.tabs p new) t q last tab h);
    lasts_else = λ b q ne h. stay_last (set v.tabs p new) t a before last two b q ne (stay_last v.tabs p a old new one b q ne h);
  }

  -- a step that leaves the epoch
  pub same_epoch : (a n' e : ℕ) (tabs : List (Tab X)) (held : List ℕ) (item : Item) (deeds : List Deed) (met : List ℕ) → a < k.anchors → IsWord n' → epoch_of n' ≡ epoch_of (word s a) → e ≡ epoch_of n' → ItemOwes a n' item
      → TabsOwe k s i v a n' e tabs held item deeds met s.chains
      → ((u : ℕ) → Contains held u → Contains v.held u × (times u held ≡ times u v.held))
      → (is_left_over n' ≡ true → ((t : ℕ) × (get_elem? tabs t ≡ some (Last a)) × (item.found ≡ n'))
      ⊎ ((n' ≡ word s a) × ((t : ℕ) → get_elem? v.tabs t ≡ some (Last a) → last_find a v.trail ≡ n' → (get_elem? tabs t ≡ some (Last a)) × (item.found ≡ n'))))
      → ((b : ℕ) → 0 < sum_by (counts b) tabs → (0 < count (counts b) v) ⊎ ((d : Deed) × Contains deeds d × EnteredBy b v.pass d))
      → ((b : ℕ) → Contains met b → (b ≡ a) × (count (counts a) v < readers_of (word s a)))
      → AnchorsSound k (moved s i (stepped v a n' e tabs held item deeds met) a n' s.chains)
  same_epoch a n' e tabs held item deeds met lt good same sees it tb before lasts entered met_others = at_anchor k s i v so at a n' e tabs held item deeds met s.chains record {
    inside = lt;
    good = good;
    rises = omega arith;
    is_pass = pass;
    length_same = tb.length_same;
    sees = sees;
    item_at = it.at_a;
    tells = it.tells;
    no_draw = it.no_draw;
    no_count = it.no_count;
    found = it.found;
    held_before = before;
    readers = tb.readers;
    writers = tb.writers;
    freers = tb.freers;
    readers_else = tb.readers_else;
    writers_else = tb.writers_else;
    freers_else = tb.freers_else;
    steady = inr (ap version_of same, λ from to. (let z = same in omega arith, let z = same in omega arith));
    stand = tb.stand;
    lasts = lasts;
    lasts_else = tb.lasts_else;
    version = inl (ap version_of same);
    chain_count = refl;
    chain_else = λ b ne. refl;
    chain_here = λ _ low. (let z = same in omega arith, refl);
    left = inl same;
    doomed = λ h. inl (let z = ap doom_of same in sym z ∙ h, ap version_of same);
    undoomed = λ h g. inl (let z = ap doom_of same in sym z ∙ h, let z = same in omega arith, ap version_of same);
    entered = entered;
    met_others = met_others;
  }
