-- Tabs are as the lines say, behind one line more.
use Rattle.std.proofs.Common.{Bool, Contains, List, arith, inl, inr, refl, subst, sym, ◌<◌, ◌∷◌, ◌≡◌, ◌∙◌, ℕ}
use Rattle.std.specs.Prelude.{None, ◌≢◌}
use mathlib.Core.Logic.{dite}
use native.Mathlib.Decide.{ℕ_discrete}
use Rattle.rock_disk.specs.Cell.{CellState}
use Rattle.core_model.specs.Tabs.{OfReader, inner, tab_at}
use Rattle.core_model.specs.declared.view.Sight.{Sight}
use Rattle.core_model.specs.declared.view.View.{View}
use Rattle.line_account.specs.Answers.{IsEntryAt, Run}
use Rattle.store_serve.specs.Growing.{GrowsTo}
use Rattle.line_account.specs.Lines.{Served}
use Rattle.line_account.specs.Stopping.{is_end, is_halted, is_other_url}
use Rattle.rock_reader.specs.Reading.{Standing}
use Rattle.store_rule.specs.declared.store.Pass.{Pass}
use Rattle.store_rule.specs.declared.store.Store.{Store}
use Rattle.store_rule.specs.Ground.{Ground, Offers}
use Rattle.store_rule.specs.Passes.{basis, view}
use Rattle.rock_writer.specs.Entries.{Entry}
use Rattle.store_serve.specs.Showing.{HasShown}
use Rattle.store_serve.proofs.EntryTabs.{names_on}
use Rattle.store_serve.proofs.StandingReaders.{stays}
use Rattle.store_serve.specs.Tabs.{IsFree, Leaves}
use Rattle.store_serve.specs.Whole.{whole_tab}
use Rattle.store_serve.proofs.Standing.{writes_still}
use Rattle.crew_accounts.specs.Runs.{Past, run_of}
use Rattle.crew_accounts.specs.Tracks.{HasEnded, IsTracked, Tracks}
use Rattle.crew_accounts.proofs.TabLines.{LeavesAlone, added_on, answered_on, given_on, not_end, not_halted, not_other_url, reading_on, writing_on}

pub shown_on : {X : Type 0} (g : Ground X) (e : Entry) (seen all : List Sight) → ((x : Sight) → Contains seen x → Contains all x) → HasShown g e seen → HasShown g e all
shown_on g e seen all f h = λ some. let k = h some in (f _ k.0, names_on k.1 f)

pub entry_on : {X : Type 0} (r : Run X) (v w : View X) (a e : ℕ) (url : List ℕ) → GrowsTo v w → (h : IsEntryAt r v a e url) → (k : IsEntryAt r w a e url) × (k.offer ≡ h.offer)
entry_on r v w a e url keeps h = (
  record {
    readable = h.readable;
    seen = keeps.seen _ h.seen;
    front = keeps.seen _ h.front;
    back = keeps.seen _ h.back;
    offer = h.offer;
    offered = keeps.seen _ h.offered;
    old = h.old;
    old_front = h.old_front;
    old_back = h.old_back;
  },
  refl,
)

-- of the same anchor and URL
pub entry_moved : {X : Type 0} (r : Run X) (v : View X) (a b e : ℕ) (url u : List ℕ) → a ≡ b → url ≡ u → (h : IsEntryAt r v a e url) → (k : IsEntryAt r v b e u) × (k.offer ≡ h.offer)
entry_moved r v a b e url u same its h = subst (λ (z : List ℕ). (k : IsEntryAt r v b e z) × (k.offer ≡ h.offer)) its
    (subst (λ (c : ℕ). (k : IsEntryAt r v c e url) × (k.offer ≡ h.offer)) same (h, refl))

-- what comes to the end of its entry is so still
pub ended_on : {C : Type 0} (j : ℕ) (e : Standing) (p q : Pass C) → tab_at (view q) j ≡ tab_at (view p) j → HasEnded p j e → HasEnded q j e
ended_on j e p q same h = record { was = h.was; some = h.some; none = subst (OfReader (λ r. r.slot ≡ None)) (sym same) h.none }

module _ {C O : Type 0} (tells : Bool) (state : C → CellState) (offers : O → Offers) (s : Store C O) (told : Bool) (past : Past) where
  -- by the lines: behind one that is nothing to the tab
  pub lines_on : (served : List Served) (p : Pass C) (j : ℕ) (l : Served) → LeavesAlone j l.asked.request l.answer → IsTracked tells state offers s told past served p j → IsTracked tells state offers s told past (l ∷ served) p j
  lines_on served p j l alone (inl h) = inl (record { writes = writing_on j l served alone ∙ h.writes; reads = reading_on j l served alone ∙ h.reads; free = h.free })
  lines_on served p j l alone (inr (inl h)) = inr (inl (record {
    reads = reading_on j l served alone ∙ h.reads;
    first = h.first;
    writes = writing_on j l served alone ∙ h.writes;
    url = h.url;
    named = h.named;
    entry = h.entry;
    is = h.is;
    offer = h.offer;
    url_is = h.url_is;
    anchor = h.anchor;
    drew = h.drew;
    taken = h.taken ∙ sym (added_on j l served alone);
    shown = h.shown;
    small = h.small;
  }))
  lines_on served p j l alone (inr (inr h)) = inr (inr (record {
    writes = writing_on j l served alone ∙ h.writes;
    first = h.first;
    reads = reading_on j l served alone ∙ h.reads;
    standing = h.standing;
    is = h.is;
    named = h.named;
    anchor = h.anchor;
    version = h.version;
    entry = h.entry;
    offer = h.offer;
    new = h.new;
    given = λ y other. given_on j l served alone ∙ h.given y other;
    none = λ y other. given_on j l served alone ∙ h.none y other;
    other = h.other;
    shown = h.shown;
    ended = λ e. h.ended (sym (answered_on j l served alone is_end not_end) ∙ e);
    turned = λ e. h.turned (sym (answered_on j l served alone is_other_url not_other_url) ∙ e);
    halted = λ e. h.halted (sym (answered_on j l served alone is_halted not_halted) ∙ e);
  }))

  -- by the pass: where a request left the tab as it was
  pub pass_on : (served : List Served) (p q : Pass C) (t j : ℕ) → Leaves tells state offers s t p q → j ≢ t → j ≢ inner → IsTracked tells state offers s told past served p j → IsTracked tells state offers s told past served q j
  pass_on served p q t j leaves ne far (inl h) = inl (record { writes = h.writes; reads = h.reads; free = leaves.others j ne far ∙ h.free })
  pass_on served p q t j leaves ne far (inr (inl h)) = inr (inl (record {
    reads = h.reads;
    first = h.first;
    writes = h.writes;
    url = h.url;
    named = h.named;
    entry = h.entry;
    is = writes_still tells state offers s p q t j h.entry leaves ne h.is;
    offer = h.offer;
    url_is = h.url_is;
    anchor = h.anchor;
    drew = h.drew;
    taken = h.taken;
    shown = shown_on (basis tells state offers s) h.entry (view p).seen (view q).seen leaves.keeps.seen h.shown;
    small = h.small;
  }))
  pass_on served p q t j leaves ne far (inr (inr h)) = let entry = entry_on (run_of (basis tells state offers s) told past) (view p) (view q) h.standing.anchor h.first.opened h.standing.url leaves.keeps h.entry in
      inr (inr (record {
        writes = h.writes;
        first = h.first;
        reads = h.reads;
        standing = h.standing;
        is = stays tells state offers s p q j h.standing h.is leaves.own (leaves.others j ne far) (leaves.desks j ne far) leaves.keeps;
        named = h.named;
        anchor = h.anchor;
        version = h.version;
        entry = entry.0;
        offer = entry.1 ∙ h.offer;
        new = h.new;
        given = h.given;
        none = h.none;
        other = h.other;
        shown = λ some. leaves.keeps.seen _ (h.shown some);
        ended = λ e. ended_on j h.standing p q (leaves.others j ne far) (h.ended e);
        turned = h.turned;
        halted = h.halted;
      }))

  far : (j : ℕ) → j < whole_tab → j ≢ inner
  far j lt e = absurd (omega arith)

  -- a line on a tab of the script
  pub tracks_on_tab : (served : List Served) (p q : Pass C) (t : ℕ) (l : Served) → t < whole_tab → Leaves tells state offers s t p q → ((j : ℕ) → j ≢ t → LeavesAlone j l.asked.request l.answer)
      → IsTracked tells state offers s told past (l ∷ served) q t → Tracks tells state offers s told past served p → Tracks tells state offers s told past (l ∷ served) q
  tracks_on_tab served p q t l lt leaves alone own h = record {
    ready = record { own = leaves.own; inner_free = leaves.inner_free };
    whole = leaves.others whole_tab (λ e. absurd (omega arith)) (λ e. absurd (omega arith)) ∙ h.whole;
    beyond = λ j from. writing_on j l served (alone j (λ e. absurd (omega arith))) ∙ h.beyond j from;
    each = λ j below. dite (ℕ_discrete j t)
        (λ (e : j ≡ t). subst (IsTracked tells state offers s told past (l ∷ served) q) (sym e) own)
        (λ (ne : j ≢ t). lines_on served q j l (alone j ne) (pass_on served p q t j leaves ne (far j below) (h.each j below)));
  }

  -- a whole request
  pub tracks_whole : (served : List Served) (p q : Pass C) (l : Served) → Leaves tells state offers s whole_tab p q → IsFree q whole_tab → ((j : ℕ) → LeavesAlone j l.asked.request l.answer)
      → Tracks tells state offers s told past served p → Tracks tells state offers s told past (l ∷ served) q
  tracks_whole served p q l leaves free alone h = record {
    ready = record { own = leaves.own; inner_free = leaves.inner_free };
    whole = free;
    beyond = λ j from. writing_on j l served (alone j) ∙ h.beyond j from;
    each = λ j below. let ne : j ≢ whole_tab = λ e. absurd (omega arith) in lines_on served q j l (alone j) (pass_on served p q whole_tab j leaves ne (far j below) (h.each j below));
  }

  -- a line that was turned away
  pub tracks_still : (served : List Served) (p q : Pass C) (l : Served) → q ≡ p → ((j : ℕ) → LeavesAlone j l.asked.request l.answer) → Tracks tells state offers s told past served p → Tracks tells state offers s told past (l ∷ served) q
  tracks_still served p q l same alone h = subst (Tracks tells state offers s told past (l ∷ served)) (sym same)
      (record { ready = h.ready; whole = h.whole; beyond = λ j from. writing_on j l served (alone j) ∙ h.beyond j from; each = λ j below. lines_on served p j l (alone j) (h.each j below) })
