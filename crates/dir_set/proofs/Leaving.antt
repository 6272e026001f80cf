-- What a refusal leaves of the files of a cache, and of the counts of a volume.
use Rattle.std.proofs.Common.{Bool, List, Some, [], ap, append_assoc, arith, inl, inr, length, refl, replicate, subst, sym, ◌%◌, ◌+◌, ◌++◌, ◌<◌, ◌≡◌, ◌≢◌, ◌≤◌, ◌⊎◌, ◌∙◌, ◌∷◌, ℕ, ⊎_elim}
use Rattle.std.specs.FinMap.{get}
use Rattle.std.specs.Global.{Vec}
use Rattle.std.specs.Prelude.{IsTrue, slice_get, vec_len}
use Rattle.std.proofs.lemmas.Bool.{cases_eq, cases_lt}
use Rattle.std.proofs.lemmas.Grind.{replicate_next}
use Rattle.std.proofs.lemmas.List.{append-nil}
use Rattle.std.proofs.lemmas.Option.{slice_get_within}
use Rattle.db_layout.specs.Layout.{IsSlotSize, slots_of}
use Rattle.rock_disk.specs.Cell.{CellState}
use Rattle.rock_disk.specs.File.{Files, HasSlots, IsKept, IsNotAway, bytes_of, cut}
use Rattle.rock_disk.specs.Opened.{HasShape, IsSmall}
use Rattle.rock_disk.proofs.Out.{get_inserted}
use Rattle.rock_open.specs.declared.fault.OpenStoreFault.{OpenStoreFault}
use Rattle.rock_open.specs.declared.fault.OpenStoreFault.TheVariants.{BadGeometry, Failed, Memory, Missing, Small}
use Rattle.rock_disk.specs.Counts.{Counts, OneStation}
use Rattle.rock_open.specs.Opening.{FileSays, IsPasses, OpensStore}
use Rattle.store_rule.specs.declared.store.Pass.{Pass}
use Rattle.store_rule.specs.declared.store.Store.{Store}
use Rattle.store_rule.specs.Closing.{Closed, IsResting, views_of}
use Rattle.store_rule.specs.Ground.{Offers}
use Rattle.store_rule.specs.Passes.{IsNewOf, basis}
use Rattle.std.specs.Prelude.{All}
use Rattle.dir_set.specs.declared.fault.DirFault.{DirFault}
use Rattle.dir_set.specs.declared.parts.DirHome.{DirHome}
use Rattle.dir_set.specs.declared.parts.Parts.{Parts}
use Rattle.dir_set.specs.Files.{AreDifferent, ClosesAgain, ClosesDir, ClosesFile, HaveOpened, KeepsFile, LeavesDir, MayCloseDir, OthersStay, StaysHome}
use Rattle.dir_set.specs.Parts.{AreOpen}
use Rattle.dir_set.proofs.Names.{name_or_not, others_inserted}
use Rattle.dir_set.proofs.Dealing.{one_item, one_row}
use Rattle.dir_set.proofs.OneFile.{there_is}
use Rattle.dir_set.proofs.Openings.{may_close_dir}

-- whether a number is within its limits can be told
at_most : (m n : ℕ) → ((m ≤ n → ⊥) → ⊥) → m ≤ n
at_most m n h = ⊎_elim (λ (lt : n < m). absurd (h (λ z. absurd (omega (arith, z, lt))))) (λ (le : m ≤ n). le) (cases_lt n m)

same_number : (m n : ℕ) → ((m ≡ n → ⊥) → ⊥) → m ≡ n
same_number m n h = ⊎_elim (λ (e : m ≡ n). e) (λ (ne : m ≡ n → ⊥). absurd (h ne)) (cases_eq m n)

pub as_size : (slot : ℕ) → ((IsSlotSize slot → ⊥) → ⊥) → IsSlotSize slot
as_size slot h = record {
  from = at_most 512 slot (λ n. h (λ z. n z.from));
  to = at_most slot 32768 (λ n. h (λ z. n z.to));
  multiple = same_number (slot % 512) 0 (λ n. h (λ z. n z.multiple));
}

pub as_passes : (passes : ℕ) → ((IsPasses passes → ⊥) → ⊥) → IsPasses passes
as_passes passes h = record { from = at_most 1 passes (λ n. h (λ z. n z.from)); to = at_most passes 32 (λ n. h (λ z. n z.to)) }

-- one more file was opened
pub one_more_station : (n : ℕ) (before middle after : Counts) → HaveOpened n before middle → after.faults ≡ middle.faults → OneStation 0 middle after → HaveOpened (n + 1) before after
one_more_station n before middle after h faults one = record {
  faults = faults ∙ h.faults;
  made = let a = one.made in let b = h.made in omega (arith, a, b);
  ended = one.ended ∙ ap (λ (xs : List ℕ). xs ++ 0 ∷ []) h.ended ∙ append_assoc before.ended (replicate n 0) (0 ∷ []) ∙ ap (λ (xs : List ℕ). before.ended ++ xs) (sym (replicate_next n 0));
}

pub no_stations : (before : Counts) → HaveOpened 0 before before
no_stations before = record { faults = refl; made = omega arith; ended = nothing before.ended }
  where
    nothing : (xs : List ℕ) → xs ≡ xs ++ []
    nothing xs = sym (append-nil xs)

-- what is said of a file as it was is said of it as it is
module _ (before mid : Files) (name : List ℕ) (same : get mid name ≡ get before name) where
  pub has_still : (slot slots : ℕ) → HasSlots mid name slot slots → HasSlots before name slot slots
  has_still slot slots h = record { was = h.was; there = sym same ∙ h.there; long = h.long; count = h.count }

  pub has_now : (slot slots : ℕ) → HasSlots before name slot slots → HasSlots mid name slot slots
  has_now slot slots h = record { was = h.was; there = same ∙ h.there; long = h.long; count = h.count }

  pub small_still : (slot bytes : ℕ) → IsSmall mid name slot bytes → IsSmall before name slot bytes
  small_still slot bytes h = record { was = h.was; found = sym same ∙ h.found; size = h.size; short = h.short }

  pub small_now : (slot bytes : ℕ) → IsSmall before name slot bytes → IsSmall mid name slot bytes
  small_now slot bytes h = record { was = h.was; found = same ∙ h.found; size = h.size; short = h.short }

  pub says_still : (slot anchors : ℕ) (fault : OpenStoreFault) → FileSays mid name slot anchors fault → FileSays before name slot anchors fault
  says_still slot anchors (BadGeometry field) h = λ is. let x = h is in (x.0, has_still slot x.0 x.1, x.2)
  says_still slot anchors Missing h = sym same ∙ h
  says_still slot anchors (Small bytes) h = small_still slot bytes h
  says_still slot anchors Failed h = tt
  says_still slot anchors Memory h = tt

-- a file that is kept is as it was, or as opening cuts it, and each other one is as it was
module _ (slot : ℕ) (name : List ℕ) (before after : Files) where
  pub kept_here : IsKept slot name before after → KeepsFile slot name before after
  kept_here (inl same) = inl (ap (λ (m : Files). get m name) same)
  kept_here (inr x) = inr (x.0, x.1, ap (λ (m : Files). get m name) x.2 ∙ get_inserted before name (cut slot (bytes_of x.0)))

  pub kept_beside : IsKept slot name before after → (other : List ℕ) → other ≢ name → get after other ≡ get before other
  kept_beside (inl same) other ne = ap (λ (m : Files). get m other) same
  kept_beside (inr x) other ne = ap (λ (m : Files). get m other) x.2 ∙ others_inserted before name _ other ne

  pub home_here : KeepsFile slot name before after → IsNotAway (get before name) → IsNotAway (get after name)
  home_here (inl same) home = subst IsNotAway (sym same) home
  home_here (inr x) home = subst IsNotAway (sym x.2) tt

  -- so it is in, where it was in
  pub home_kept : IsKept slot name before after → (other : List ℕ) → IsNotAway (get before other) → IsNotAway (get after other)
  home_kept kept other home = pick (name_or_not other name)
    where
      pick : ((other ≡ name) ⊎ (other ≢ name)) → IsNotAway (get after other)
      pick (inl same) = subst (λ (z : List ℕ). IsNotAway (get after z)) (sym same) (home_here (kept_here kept) (subst (λ (z : List ℕ). IsNotAway (get before z)) same home))
      pick (inr ne) = subst IsNotAway (sym (kept_beside kept other ne)) home

  pub keeps_from : (first last : Files) → get before name ≡ get first name → get last name ≡ get after name → KeepsFile slot name before after → KeepsFile slot name first last
  keeps_from first last b e (inl same) = inl (e ∙ same ∙ b)
  keeps_from first last b e (inr x) = inr (x.0, sym b ∙ x.1, e ∙ x.2)

module _ {C O : Type 0} (told tells : Bool) (state : C → CellState) (offers : O → Offers) (slot anchors passes : ℕ) where
  -- a file that was opened alone was closed
  pub closed_alone : (before mid after : Files) (name : List ℕ) (origin : O) (header : C) (s : Store C O) (all : Vec (Pass C)) → OpensStore told tells state offers before mid name slot anchors passes origin header s all
      → ClosesFile told tells state offers mid after name s header all.items → ClosesAgain told tells state offers before after slot anchors passes name origin
  closed_alone before mid after name origin header s all opened closes = record {
    files = mid;
    store = s;
    header = header;
    all = all;
    opened = opened;
    cells = closes.cells;
    closed = closes.closed;
    back = λ t.
        let o = opened.out t in
        ap (λ (m : Files). get m name) (closes.back t _ _ _ (ap (λ (m : Files). get m name) o.out ∙ get_inserted before name _)) ∙ get_inserted mid name _;
  }

  -- each file that was opened is closed again
  module _ (names : List (List ℕ)) (origins : List O) (same : length origins ≡ length names) (differ : AreDifferent names) (before mid kept after : Files) (n : ℕ) (p : Parts C O)
      (h : AreOpen told tells state offers before mid slot anchors passes names origins n p) (name : List ℕ) (at : slice_get names n ≡ Some name) (keeps : IsTrue told → IsKept slot name mid kept) where
    stores_open : length p.stores.items ≡ n
    stores_open = let m = h.parts.stores in omega (arith, m, p.stores.ok.0)

    homes_open : length p.homes.items ≡ n
    homes_open = let m = h.parts.homes in omega (arith, m, p.homes.ok.0)

    -- the others were not touched by the refusal of this one
    beside_kept : IsTrue told → (d : ℕ) (other : List ℕ) → d < n → slice_get names d ≡ Some other → get kept other ≡ get mid other
    beside_kept t d other lt en = kept_beside slot name mid kept (keeps t) other (λ is. let e = differ d n other en (at ∙ ap Some (sym is)) in omega (arith, e, lt))

    module _ (count : (slot bytes : ℕ) (header : CellState) (cells : List CellState) → HasShape slot bytes header cells → length cells ≡ slots_of bytes slot)
        (rests : (s : Store C O) (ps : List (Pass C)) → All (IsNewOf tells state offers s) ps → All IsResting ps) where
      pub may_close_open : (d : ℕ) (other : List ℕ) (s : Store C O) (x : DirHome C) → slice_get names d ≡ Some other → slice_get p.stores.items d ≡ Some s → slice_get p.homes.items d ≡ Some x
          → MayCloseDir told tells state offers kept p.passes.items d other s x
      may_close_open d other s x en es ex =
          let lt = slice_get_within p.stores.items d s es in
          let origin = there_is origins d (let within = slice_get_within names d other en in omega (arith, within, same)) in
          may_close_dir told tells state offers slot anchors passes names origins count rests before mid kept p.passes.items d other origin.0 s x (h.each d other origin.0 s x en origin.1 es ex) (λ t. beside_kept t d other (omega (arith, lt, stores_open)) en)

    module _ (closed : (d : ℕ) (other : List ℕ) (s : Store C O) (x : DirHome C) → slice_get names d ≡ Some other → slice_get p.stores.items d ≡ Some s → slice_get p.homes.items d ≡ Some x
        → ClosesDir told tells state offers kept after p.passes.items d other s x)
        (others : IsTrue told → (other : List ℕ) → ((d : ℕ) × (d < vec_len p.stores) × (slice_get names d ≡ Some other)) ⊎ (get after other ≡ get kept other)) where
      again : (d : ℕ) (other : List ℕ) (o : O) → d < n → slice_get names d ≡ Some other → slice_get origins d ≡ Some o → ClosesAgain told tells state offers before after slot anchors passes other o
      again d other o lt en eo =
          let s = there_is p.stores.items d (omega (arith, lt, stores_open)) in
          let x = there_is p.homes.items d (omega (arith, lt, homes_open)) in
          let open_is = h.each d other o s.0 x.0 en eo s.1 x.1 in
          let c = closed d other s.0 x.0 en s.1 x.1 in record {
            files = open_is.files;
            store = s.0;
            header = x.0.header;
            all = open_is.all;
            opened = open_is.opened;
            cells = c.cells;
            closed = subst (λ (ps : List (Pass C)). Closed tells state (basis tells state offers s.0) (views_of ps) c.cells) (one_row p.passes.items d c.passes open_is.all.items c.passes_are open_is.passes_are) c.closed;
            back = λ t.
                let w = open_is.opened.out t in
                c.back t _ _ _ (beside_kept t d other lt en ∙ open_is.out t ∙ ap (λ (m : Files). get m other) w.out ∙ get_inserted before other _);
          }

      -- each file but those that were open is as the refusal left it
      untouched_by : IsTrue told → (d : ℕ) (other : List ℕ) → n ≤ d → slice_get names d ≡ Some other → get after other ≡ get kept other
      untouched_by t d other le en = pick (others t other)
        where
          pick : ((e : ℕ) × (e < vec_len p.stores) × (slice_get names e ≡ Some other)) ⊎ (get after other ≡ get kept other) → get after other ≡ get kept other
          pick (inl x) = absurd (let is = differ x.0 d other x.2 en in let lt = x.1 in omega (arith, is, lt, le, stores_open, p.stores.ok.0))
          pick (inr e) = e

      still_open : IsTrue told → (d : ℕ) (other : List ℕ) → n ≤ d → slice_get names d ≡ Some other → get mid other ≡ get before other
      still_open t d other le en = pick (h.others t other)
        where
          pick : ((e : ℕ) × (e < n) × (slice_get names e ≡ Some other)) ⊎ (get mid other ≡ get before other) → get mid other ≡ get before other
          pick (inl x) = absurd (let is = differ x.0 d other x.2 en in let lt = x.1 in omega (arith, is, lt, le))
          pick (inr e) = e

      pub leaves : (r : DirFault) → r.dir ≡ n → (d : ℕ) (other : List ℕ) (o : O) → slice_get names d ≡ Some other → slice_get origins d ≡ Some o → LeavesDir told tells state offers before after slot anchors passes r d other o
      leaves r is d other o en eo = record {
        before_it = λ lt. again d other o (omega (arith, lt, is)) en eo;
        here = λ e. inl (λ t.
            let same_name : name ≡ other = one_item (slice_get names n) name other at (ap (λ (j : ℕ). slice_get names j) (sym (e ∙ is)) ∙ en) in
            subst (λ (z : List ℕ). KeepsFile slot z before after) same_name
            (keeps_from slot name mid kept before after (still_open t n name (omega arith) at) (untouched_by t n name (omega arith) at) (kept_here slot name mid kept (keeps t))));
        behind = λ lt t.
            untouched_by t d other (omega (arith, lt, is)) en
            ∙ kept_beside slot name mid kept (keeps t) other (λ e. let x = differ d n other en (at ∙ ap Some (sym e)) in omega (arith, x, lt, is))
            ∙ still_open t d other (omega (arith, lt, is)) en;
      }

      pub leaves_others : IsTrue told → OthersStay names before after
      leaves_others t other = pick (name_or_not other name) (others t other) (h.others t other)
        where
          pick : ((other ≡ name) ⊎ (other ≢ name)) → ((d : ℕ) × (d < vec_len p.stores) × (slice_get names d ≡ Some other)) ⊎ (get after other ≡ get kept other) → ((d : ℕ) × (d < n) × (slice_get names d ≡ Some other)) ⊎ (get mid other ≡ get before other)
              → ((d : ℕ) × (slice_get names d ≡ Some other)) ⊎ (get after other ≡ get before other)
          pick (inl e) x y = inl (n, at ∙ ap Some (sym e))
          pick (inr ne) (inl x) y = inl (x.0, x.2)
          pick (inr ne) (inr x) (inl y) = inl (y.0, y.2)
          pick (inr ne) (inr x) (inr y) = inr (x ∙ kept_beside slot name mid kept (keeps t) other ne ∙ y)

      home_closed : IsTrue told → (d : ℕ) (other : List ℕ) → d < n → slice_get names d ≡ Some other → IsNotAway (get after other)
      home_closed t d other lt en =
          let o = there_is origins d (let within = slice_get_within names d other en in omega (arith, within, same)) in
          subst IsNotAway (sym ((again d other o.0 lt en o.1).back t)) tt

      pub leaves_home : IsTrue told → StaysHome before after
      leaves_home t other home = pick (others t other) (h.others t other)
        where
          pick : ((d : ℕ) × (d < vec_len p.stores) × (slice_get names d ≡ Some other)) ⊎ (get after other ≡ get kept other) → ((d : ℕ) × (d < n) × (slice_get names d ≡ Some other)) ⊎ (get mid other ≡ get before other) → IsNotAway (get after other)
          pick x (inl y) = home_closed t y.0 other y.1 y.2
          pick (inl x) (inr y) = home_closed t x.0 other (let lt = x.1 in omega (arith, lt, stores_open, p.stores.ok.0)) x.2
          pick (inr x) (inr y) = subst IsNotAway (sym x) (home_kept slot name mid kept (keeps t) other (subst IsNotAway (sym y) home))
