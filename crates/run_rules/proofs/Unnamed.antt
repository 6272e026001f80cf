-- An anchor that no line of a script names: in the plain store what stood there at the opening stands there once all tabs were left.
use Rattle.std.proofs.Common.{Bool, Contains, List, [], ap, arith, cond, false, not, refl, suc, sym, true, ◌++◌, ◌+◌, ◌==◌, ◌∙◌, ◌∷◌, ◌≡◌}
use Rattle.std.proofs.Common.{eq-eqb, subst, ◌≤◌, ℕ}
use Rattle.std.specs.Prelude.{Some, count_by, max, sum_by}
use Rattle.std.specs.List.{list_all, range_with_len}
use Rattle.std.proofs.lemmas.Bool.{false≢true}
use Rattle.std.proofs.lemmas.List.Elements.{All-contains}
use Rattle.std.proofs.lemmas.List.Sums.{AllPass-from_list_all, sum_by-cons}
use Rattle.script_text.specs.Requests.{offers_body, url_in}
use Rattle.script_text.specs.declared.line.Line.{Line}
use Rattle.script_text.specs.declared.request.Request.{Request}
use Rattle.script_text.specs.declared.request.Request.TheVariants.{Begin, CloseTab, DropTab, Get, OpenTab, Purge, Put, Save, Wipe}
use Rattle.plain_model.specs.declared.store.Plain.{Plain}
use Rattle.plain_model.specs.declared.store.Setting.{Setting}
use Rattle.plain_model.specs.declared.store.Tab.{Tab}
use Rattle.plain_model.specs.declared.store.Tab.TheVariants.{Free, Reading, Writing}
use Rattle.plain_model.specs.Serving.{after, leave, leave_all, lines_for, serve}
use Rattle.plain_model.specs.Slots.{held}
use Rattle.plain_model.specs.Store.{place_at, tab_at, with_tab}
use Rattle.plain_model.specs.declared.entry.Life.TheVariants.{GivenUp}
use Rattle.plain_model.specs.Reading.{close}
use Rattle.plain_model.specs.Writing.{close_writer, give_up, settle}
use Rattle.plain_laws.specs.Fitting.{Fits, Names, NamesNone, RunsInRoom, most_needed, need_at}
use Rattle.plain_laws.specs.Private.{is_private, names_only, private_lines, url_anchor}
use Rattle.plain_runs.specs.PrivateRuns.{left_alone}
use Rattle.run_rules.proofs.Scripts.{of_filter}

-- A tab is left by a line that closes it or gives its entry up.

-- the request does one of these
abbrev pub Leaves : Request → Type 0
Leaves (CloseTab t) = Unit {0}
Leaves (DropTab t) = Unit {0}
Leaves request = ⊥

-- by what a tab does
abbrev leaving : (t : ℕ) → Tab → Request
leaving t Free = CloseTab t
leaving t (Writing a) = DropTab t
leaving t (Reading a given is_other) = CloseTab t

leaving_leaves : (t : ℕ) (tab : Tab) → Leaves (leaving t tab)
leaving_leaves t Free = tt
leaving_leaves t (Writing a) = tt
leaving_leaves t (Reading a given is_other) = tt

leaving_is : (s : Setting) (script : List Line) (t : ℕ) (p : Plain)
    → (serve s script (record { worker = 0; number = 0; request = leaving t (tab_at p t) }) p).after ≡ leave t p
leaving_is s script t p = by_tab (tab_at p t) refl
  where
    by_tab : (x : Tab) → tab_at p t ≡ x → (serve s script (record { worker = 0; number = 0; request = leaving t x }) p).after ≡ leave t p
    by_tab Free is = let closed : (close t p).after ≡ p = (rw is refl) in
        let stays : leave t p ≡ p = (rw is refl) in closed ∙ sym stays
    by_tab (Writing a) is = let ends : (give_up t p).after ≡ close_writer GivenUp t a p = (rw is refl) in
        let left : leave t p ≡ close_writer GivenUp t a p = (rw is ends) in ends ∙ sym left
    by_tab (Reading a given is_other) is = let closed : (close t p).after ≡ settle a (with_tab p t Free) = (rw is refl) in
        let left : leave t p ≡ settle a (with_tab p t Free) = (rw is closed) in closed ∙ sym left

-- so do all of these
abbrev AllLeave : List Line → Type 0
AllLeave [] = Unit {0}
AllLeave (line ∷ lines) = Leaves line.request × AllLeave lines

record TabsLeft (s : Setting) (script : List Line) (tabs : List ℕ) (p : Plain) : Type 0 where
  lines : List Line
  quiet : AllLeave lines
  is : after s script lines p ≡ leave_all tabs p

tabs_left : (s : Setting) (script : List Line) (tabs : List ℕ) (p : Plain) → TabsLeft s script tabs p
tabs_left s script [] p = record { lines = []; quiet = tt; is = refl }
tabs_left s script (t ∷ tabs) p = let rest = tabs_left s script tabs (leave t p) in record {
  lines = record { worker = 0; number = 0; request = leaving t (tab_at p t) } ∷ rest.lines;
  quiet = (leaving_leaves t (tab_at p t), rest.quiet);
  is = ap (λ (q : Plain). after s script rest.lines q) (leaving_is s script t p) ∙ rest.is;
}

-- Such lines need nothing and name nothing, so where others fit they fit behind them.

no_need : (s : Setting) (a : ℕ) (request : Request) → Leaves request → need_at s a request ≡ 0
no_need s a (CloseTab t) h = refl
no_need s a (DropTab t) h = refl
no_need s a request h = absurd h

no_body : (request : Request) → Leaves request → offers_body request ≡ false
no_body (CloseTab t) h = refl
no_body (DropTab t) h = refl
no_body request h = absurd h

no_name : (s : Setting) (a : ℕ) (request : Request) → Leaves request → Names s a request → ⊥
no_name s a (CloseTab t) h names = names
no_name s a (DropTab t) h names = names
no_name s a request h names = absurd h

after_both : (s : Setting) (script lines more : List Line) (p : Plain) → after s script (lines ++ more) p ≡ after s script more (after s script lines p)
after_both s script [] more p = refl
after_both s script (line ∷ lines) more p = after_both s script lines more (serve s script line p).after

module _ (s : Setting) (more : List Line) (quiet : AllLeave more) where
  none_needed : (a : ℕ) (lines : List Line) → AllLeave lines → most_needed s a lines ≡ 0
  none_needed a [] h = refl
  none_needed a (line ∷ lines) h = ap (λ (n : ℕ). max n (most_needed s a lines)) (no_need s a line.request h.0) ∙ ap (max 0) (none_needed a lines h.1)

  same_needed : (a : ℕ) (lines : List Line) → most_needed s a (lines ++ more) ≡ most_needed s a lines
  same_needed a [] = none_needed a more quiet
  same_needed a (line ∷ lines) = ap (max (need_at s a line.request)) (same_needed a lines)

  none_offered : (lines : List Line) → AllLeave lines → count_by (λ (l : Line). offers_body l.request) lines ≡ 0
  none_offered [] h = refl
  none_offered (line ∷ lines) h = sum_by-cons (λ (l : Line). cond (offers_body l.request) 1 0) line lines
      ∙ ap (λ (b : Bool). cond b 1 0 + count_by (λ (l : Line). offers_body l.request) lines) (no_body line.request h.0)
      ∙ ap (λ (n : ℕ). 0 + n) (none_offered lines h.1)

  same_offered : (lines : List Line) → count_by (λ (l : Line). offers_body l.request) (lines ++ more) ≡ count_by (λ (l : Line). offers_body l.request) lines
  same_offered [] = none_offered more quiet
  same_offered (line ∷ lines) = sum_by-cons (λ (l : Line). cond (offers_body l.request) 1 0) line (lines ++ more)
      ∙ ap (λ (n : ℕ). cond (offers_body line.request) 1 0 + n) (same_offered lines)
      ∙ sym (sum_by-cons (λ (l : Line). cond (offers_body l.request) 1 0) line lines)

  fits_more : (lines : List Line) (p : Plain) → Fits s lines p → Fits s (lines ++ more) p
  fits_more lines p fits = record {
    slots = subst (λ (f : ℕ → ℕ). sum_by f (range_with_len 0 s.anchors) ≤ s.slots)
        (λ i a. max (held s.room (place_at p a)) (sym (same_needed a lines) i)) fits.slots;
    versions = subst (λ (n : ℕ). p.counter + n ≤ 4294901760) (sym (same_offered lines)) fits.versions;
  }

  none_named : (a : ℕ) (lines : List Line) → AllLeave lines → NamesNone s a lines
  none_named a [] h = tt
  none_named a (line ∷ lines) h = (no_name s a line.request h.0, none_named a lines h.1)

  none_more : (a : ℕ) (lines : List Line) → NamesNone s a lines → NamesNone s a (lines ++ more)
  none_more a [] h = none_named a more quiet
  none_more a (line ∷ lines) h = (h.0, none_more a lines h.1)

-- no line of these names the anchor
abbrev pub names_none : Setting → List Line → ℕ → Bool
names_none s script anchor = list_all (λ line. names_only s (λ a. not (a == anchor)) line.request) script

-- none of the script names a URL of it
pub unnamed : (s : Setting) (script : List Line) (a : ℕ) → names_none s script a ≡ true → (line : Line) → Contains script line
    → (url : List ℕ) → url_in line.request ≡ Some url → url_anchor s url ≡ a → ⊥
unnamed s script a none line among url named at =
    let others : names_only s (λ b. not (b == a)) line.request ≡ true =
    All-contains (λ (l : Line). names_only s (λ b. not (b == a)) l.request ≡ true) script line
    (AllPass-from_list_all (λ l. names_only s (λ b. not (b == a)) l.request) script none) among in
    let test : names_only s (λ b. not (b == a)) line.request ≡ not (url_anchor s url == a) = rw named refl in
    let here : (url_anchor s url == a) ≡ true = eq-eqb (url_anchor s url) a at in
    let no : names_only s (λ b. not (b == a)) line.request ≡ false = test ∙ ap not here in
    false≢true (sym no ∙ others)

-- a request that names the anchor has a URL of it
named_url : (s : Setting) (a : ℕ) (request : Request) → Names s a request → (url : List ℕ) × (url_in request ≡ Some url) × (url_anchor s url ≡ a)
named_url s a (Put url body) h = (url, refl, h)
named_url s a (Save url body) h = (url, refl, h)
named_url s a (Get url) h = (url, refl, h)
named_url s a (Purge url) h = (url, refl, h)
named_url s a (Wipe url) h = (url, refl, h)
named_url s a (Begin t url body) h = (url, refl, h)
named_url s a (OpenTab t url) h = (url, refl, h)
named_url s a request h = absurd h

each_none : (s : Setting) (a : ℕ) (lines : List Line) → ((line : Line) → Contains lines line → Names s a line.request → ⊥) → NamesNone s a lines
each_none s a [] h = tt
each_none s a (line ∷ lines) h = (
  h line (0, omega arith, refl),
  each_none s a lines (λ l c. h l (suc c.0, (let lower = c.1 in omega arith), c.2)),
)

pub unnamed_place : (s : Setting) (script : List Line) (worker : ℕ) (p : Plain) (a : ℕ)
    → ((lines : List Line) → Fits s lines p → RunsInRoom s script lines p) → Fits s (private_lines s script worker) p
    → names_none s script a ≡ true → place_at (left_alone s script worker p) a ≡ place_at p a
unnamed_place s script worker p a runs fits none =
    ap (λ (q : Plain). place_at q a) (sym l.is ∙ sym (after_both s script own l.lines p))
    ∙ (runs (own ++ l.lines) (fits_more s l.lines l.quiet own p fits)).unnamed a (none_more s l.lines l.quiet a own (each_none s a own not_there))
  where
    own : List Line
    own = private_lines s script worker

    l : TabsLeft s script (range_with_len 0 8) (after s script own p)
    l = tabs_left s script (range_with_len 0 8) (after s script own p)

    not_there : (line : Line) → Contains own line → Names s a line.request → ⊥
    not_there line among names =
        let url = named_url s a line.request names in
        unnamed s script a none line
        (of_filter (λ (m : Line). m.worker == worker) script line (of_filter (is_private s script worker) (lines_for worker script) line among))
        url.0 url.1 url.2
