-- Steps that publish a slot, as they are worked out.
use Rattle.std.proofs.Common.{◌≡◌, ◌<◌, ◌++◌, ℕ, [], ◌∷◌, Some, length, get_or, refl, sym, ap, ◌∙◌, subst, arith, set}
use Rattle.std.specs.Prelude.{slice_get}
use Rattle.std.proofs.lemmas.Option.{slice_get_within}
use Rattle.link_word.specs.declared.link.Link.{Link}
use Rattle.core_model.specs.declared.chain.Chain.{Chain}
use Rattle.core_model.specs.declared.moves.Move.TheVariants as move
use Rattle.core_model.specs.declared.tab.Tab.{Tab}
use Rattle.core_model.specs.declared.tab.Tab.TheVariants.{Writing}
use Rattle.core_model.specs.declared.tab.Writer.{Writer}
use Rattle.core_model.specs.declared.view.Place.TheVariants.{Link as LinkWord}
use Rattle.core_model.specs.declared.view.View.{View}
use Rattle.core_model.specs.Chains.{no_chain, rest_of}
use Rattle.core_model.specs.Layout.{index}
use Rattle.core_model.specs.Steps.{longer}
use Rattle.core_model.specs.Tabs.{inner, tab_at, anchor_of, OfWriter}
use Rattle.core_model.specs.SlotMoves.{MayPublish, shows, publishes}
use Rattle.core_change.specs.declared.change.Change.{Change}
use Rattle.core_change.specs.declared.change.TabsChange.{TabsChange}
use Rattle.core_change.specs.declared.tab_change.TabChange.TheVariants.{Publishes}
use Rattle.core_table.specs.declared.content.Content.{Content}
use Rattle.core_table.specs.declared.opening.Opening.{Opening}
use Rattle.core_change.specs.declared.table.Table.{Table}
use Rattle.core_change.specs.Changed.{tabs_changed}
use Rattle.core_table.specs.Inside.{setting}
use Rattle.core_change.specs.Inside.{state}
use Rattle.core_change.specs.Planned.{IsScene, Plans, Matches}
use Rattle.core_slots.specs.Publishing.{published_tab, published_change}
use Rattle.core_change.specs.Tabs.{changed_tab}
use Rattle.core_change.proofs.Facts.{tab_is}
use Rattle.core_slots.proofs.Reserved.{slot_there, chain_there as writer_chain, few_published as writer_few}

module _ (o : Opening) (t : Table) (v : View Content) (scene : IsScene o t v) (at slot : ℕ) (link : Link) (w : Writer Content) (there : slice_get v.tabs at ≡ Some (Writing w)) (may : MayPublish (setting o) (state t) slot link w) where
  -- the link word of the slot is one of the table's words
  pub link_there : index (setting o) (LinkWord slot) < length t.words.items
  link_there = let lt = slot_there o t v scene at slot w there may.first in let n = scene.sound.shaped.words in omega arith

  -- the tab's chain is one of the table's
  pub chain_there : w.anchor < length t.chains.items
  chain_there = writer_chain o t v scene at slot w there may.first

  -- the tab has published fewer slots than there are
  pub few_published : length w.published < o.slots
  few_published = writer_few o t v scene at slot w there may.first

  abbrev chain : Chain
  chain = get_or t.chains.items w.anchor no_chain

  is : tab_at v at ≡ Writing w
  is = tab_is o t v scene at (Writing w) there

  abbrev step_change : Change
  step_change = published_change o t w slot link (published_tab at w slot link) (longer chain slot link)

  tabs_are : tabs_changed v (published_tab at w slot link) ≡ set v.tabs at (publishes (tab_at v at) slot link)
  tabs_are =
      ap (λ (x : Tab Content). set v.tabs at (changed_tab x (Publishes (rest_of w.reserved) (w.published ++ (slot ∷ [])) link))) is
      ∙ sym (ap (λ (x : Tab Content). set v.tabs at (publishes x slot link)) is)

  chains_are : set t.chains.items w.anchor (longer chain slot link) ≡ set t.chains.items (anchor_of (tab_at v at)) (longer (get_or t.chains.items (anchor_of (tab_at v at)) no_chain) slot link)
  chains_are = sym (ap (λ (x : Tab Content). set t.chains.items (anchor_of x) (longer (get_or t.chains.items (anchor_of x) no_chain) slot link)) is)

  matched : Matches o t v (move.Publish at slot link) step_change
  matched = record {
    words = refl;
    places = refl;
    views = λ i. refl;
    tabs = tabs_are;
    held = refl;
    seen = sym (ap shows is);
    trail = refl;
    mirror = refl;
    deeds = refl;
    met = refl;
    chains = chains_are;
  }

  planned : at < inner → Plans o t v (move.Publish at slot link) step_change
  planned writes = record {
    allowed = (writes, subst (λ (x : Tab Content). OfWriter (MayPublish (setting o) (state t) slot link) x) (sym is) may);
    answers = refl;
    matches = matched;
    word = link_there;
    turn = tt;
    tabs = slice_get_within v.tabs at (Writing w) there;
    chain = chain_there;
  }

  pub published_planned : at < inner → (tabs : TabsChange) (c d : Chain) (change : Change) → tabs ≡ published_tab at w slot link → c ≡ get_or t.chains.items w.anchor no_chain → d ≡ longer c slot link → change ≡ published_change o t w slot link tabs d
      → Plans o t v (move.Publish at slot link) change
  published_planned writes tabs c d change tabs_is c_is d_is change_is =
      subst (λ (x : Change). Plans o t v (move.Publish at slot link) x)
      (sym (change_is ∙ (λ j. published_change o t w slot link (tabs_is j) ((d_is ∙ ap (λ (e : Chain). longer e slot link) c_is) j))))
      (planned writes)
