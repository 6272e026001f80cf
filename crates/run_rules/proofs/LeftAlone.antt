-- The anchors that a worker alone names are left to its pass.
use Rattle.std.proofs.Common.{Bool, Contains, List, [], ap, arith, cond, eq-eqb, false, refl, suc, sym, true, zero, ◌+◌, ◌-◌, ◌==◌}
use Rattle.std.proofs.Common.{◌∙◌, ◌∷◌, ◌≡◌, ℕ}
use Rattle.std.specs.List.{filter, list_all}
use Rattle.std.specs.Prelude.{None, Option, Some, not, ◌&&◌, ◌||◌}
use Rattle.std.proofs.lemmas.Bool.{and_from, and_parts, eqb-true, false≢true}
use Rattle.std.proofs.lemmas.List.Elements.{All-contains}
use Rattle.std.proofs.lemmas.List.Sums.{AllPass-from_list_all}
use Rattle.script_text.specs.Requests.{url_in}
use Rattle.script_text.specs.declared.line.Line.{Line}
use Rattle.script_text.specs.declared.request.Request.{Request}
use Rattle.script_text.specs.declared.request.Request.TheVariants.{Begin, Get, OpenTab, Purge, Put, Save, Wipe}
use Rattle.plain_model.specs.declared.store.Setting.{Setting}
use Rattle.plain_model.specs.Serving.{lines_for}
use Rattle.plain_laws.specs.Private.{is_of, is_private, is_private_anchor, is_private_tab, names_only, takes, url_anchor}
use Rattle.store_rule.specs.Ground.{Ground, alone_of, fits, is_that, left_to}
use Rattle.rock_run.specs.Leaving.{leaves_to, names_at, pass_of_all}
use Rattle.rock_run.specs.Offered.{offers_of}
use Rattle.run_rules.specs.Private.{is_own_anchor}

-- a line of a list that passes a test is among those that do
kept_in : (test : Line → Bool) (lines : List Line) (line : Line) → test line ≡ true → Contains lines line → Contains (filter test lines) line
kept_in test [] line so (k, lt, is) = absurd (omega arith)
kept_in test (x ∷ xs) line so among = by_test (test x) refl (kept_in test xs line so) among
  where
    by_test : (b : Bool) → test x ≡ b → (Contains xs line → Contains (filter test xs) line) → Contains (x ∷ xs) line
        → Contains (cond b (x ∷ filter test xs) (filter test xs)) line
    by_test true t rest (zero, lt, is) = (0, omega arith, is)
    by_test true t rest (suc k, lt, is) = let h = rest (k, omega arith, is) in (suc h.0, (let lower = h.1 in omega arith), h.2)
    by_test false t rest (zero, lt, is) = absurd (false≢true (sym t ∙ ap test is ∙ so))
    by_test false t rest (suc k, lt, is) = rest (k, omega arith, is)

-- a line at which a test fails
record FailsAt (test : Line → Bool) (lines : List Line) : Type 0 where
  line : Line
  among : Contains lines line
  fails : test line ≡ false

fails_at : (test : Line → Bool) (lines : List Line) → list_all test lines ≡ false → FailsAt test lines
fails_at test [] e = absurd (false≢true (sym e))
fails_at test (x ∷ xs) e = by_test (test x) refl (fails_at test xs)
  where
    by_test : (b : Bool) → test x ≡ b → (list_all test xs ≡ false → FailsAt test xs) → FailsAt test (x ∷ xs)
    by_test true t behind =
        let rest = behind (sym (ap (λ (b : Bool). b && list_all test xs) t) ∙ e) in
        record { line = rest.line; among = (suc rest.among.0, (let lower = rest.among.1 in omega arith), rest.among.2); fails = rest.fails }
    by_test false t behind = record { line = x; among = (0, omega arith, refl); fails = t }

not_false : (b : Bool) → not b ≡ true → b ≡ false
not_false true e = absurd (false≢true e)
not_false false e = refl

not_true : (b : Bool) → not b ≡ false → b ≡ true
not_true true e = refl
not_true false e = absurd (false≢true (sym e))

module _ (s : Setting) (script : List Line) (w : ℕ) where
  -- the lines of a worker are all of one pass
  pass_of : (lines : List Line) (line : Line) → list_all (λ l. l.worker == w + 1) lines ≡ true → Contains lines line → pass_of_all lines ≡ Some w
  pass_of [] line own (k, lt, is) = absurd (omega arith)
  pass_of (x ∷ xs) line own among =
      let parts = and_parts (x.worker == w + 1) (list_all (λ l. l.worker == w + 1) xs) own in
      let first : x.worker ≡ w + 1 = eqb-true x.worker (w + 1) parts.0 in
      let others : list_all (λ l. l.worker == x.worker) xs ≡ true = ap (λ n. list_all (λ l. l.worker == n) xs) first ∙ parts.1 in
      let number : x.worker - 1 ≡ w = omega (arith, first) in
      ap (λ (b : Bool). cond b (Some (x.worker - 1)) None) others ∙ ap (λ (n : ℕ). Some n) number

  module _ (a : ℕ) where
    abbrev names : Line → Bool
    names line = names_at s.anchors a line.request

    abbrev names_others : Line → Bool
    names_others line = names_only s (λ b. not (b == a)) line.request

    -- a line that names the anchor does not name others alone
    not_others : (request : Request) → names_at s.anchors a request ≡ true → names_only s (λ b. not (b == a)) request ≡ false
    not_others request named = by_url (url_in request) refl
      where
        by_url : (o : Option (List ℕ)) → url_in request ≡ o → names_only s (λ b. not (b == a)) request ≡ false
        by_url None e = let none : names_at s.anchors a request ≡ false = rw e refl in absurd (false≢true (sym none ∙ named))
        by_url (Some url) e =
            let at : names_at s.anchors a request ≡ (url_anchor s url == a) = rw e refl in
            let test : names_only s (λ b. not (b == a)) request ≡ not (url_anchor s url == a) = rw e refl in
            test ∙ ap not (sym at ∙ named)

    -- and one that names not only others names it
    names_it : (request : Request) → names_only s (λ b. not (b == a)) request ≡ false → names_at s.anchors a request ≡ true
    names_it request e = by_url (url_in request) refl
      where
        by_url : (o : Option (List ℕ)) → url_in request ≡ o → names_at s.anchors a request ≡ true
        by_url None is = let all : names_only s (λ b. not (b == a)) request ≡ true = rw is refl in absurd (false≢true (sym e ∙ all))
        by_url (Some url) is =
            let at : names_at s.anchors a request ≡ (url_anchor s url == a) = rw is refl in
            let test : names_only s (λ b. not (b == a)) request ≡ not (url_anchor s url == a) = rw is refl in
            at ∙ not_true (url_anchor s url == a) (sym test ∙ e)

    -- so it is the worker's own, where the anchor is private to that
    own_line : (line : Line) → (line.worker == w + 1 || names_others line) ≡ true → names line ≡ true → (line.worker == w + 1) ≡ true
    own_line line so named = by_worker (line.worker == w + 1) refl
      where
        by_worker : (b : Bool) → (line.worker == w + 1) ≡ b → (line.worker == w + 1) ≡ true
        by_worker true t = t
        by_worker false t =
            let others = not_others line.request named in
            let none : (line.worker == w + 1 || names_others line) ≡ false = rw (t, others) refl in absurd (false≢true (sym none ∙ so))

    all_own : (lines : List Line) → list_all (λ line. line.worker == w + 1 || names_others line) lines ≡ true
        → list_all (λ l. l.worker == w + 1) (filter names lines) ≡ true
    all_own [] so = refl
    all_own (x ∷ xs) so =
        let parts = and_parts (x.worker == w + 1 || names_others x) (list_all (λ line. line.worker == w + 1 || names_others line) xs) so in
        by_name (names x) refl parts.0 (all_own xs parts.1)
      where
        by_name : (b : Bool) → names x ≡ b → (x.worker == w + 1 || names_others x) ≡ true → list_all (λ l. l.worker == w + 1) (filter names xs) ≡ true
            → list_all (λ l. l.worker == w + 1) (cond b (x ∷ filter names xs) (filter names xs)) ≡ true
        by_name true t first rest = and_from (x.worker == w + 1) (list_all (λ l. l.worker == w + 1) (filter names xs)) (own_line x first t) rest
        by_name false t first rest = rest

    pub left_alone : (line : Line) → Contains script line → names line ≡ true → is_private_anchor s script (w + 1) a ≡ true
        → leaves_to s.anchors a script ≡ Some w
    left_alone line among named own = pass_of (filter names script) line (all_own script own) (kept_in names script line named among)

  -- a request that is private to the worker names no anchor but those that are
  private_names : (number : ℕ) (worker : ℕ) (request : Request) → Contains (lines_for (w + 1) script) record { worker = worker; number = number; request = request }
      → is_of s (is_private_anchor s script (w + 1)) (is_private_tab s script (w + 1)) request ≡ true
      → names_only s (is_private_anchor s script (w + 1)) request ≡ true
  private_names number worker (Put url body) among own = own
  private_names number worker (Save url body) among own = own
  private_names number worker (Get url) among own = own
  private_names number worker (Purge url) among own = own
  private_names number worker (Wipe url) among own = own
  private_names number worker (Begin tab url body) among own =
      let all = AllPass-from_list_all (λ line. not (takes tab line.request) || names_only s (is_private_anchor s script (w + 1)) line.request)
      (lines_for (w + 1) script) own in
      let this : (not (tab == tab) || is_private_anchor s script (w + 1) (url_anchor s url)) ≡ true =
      All-contains (λ line. (not (takes tab line.request) || names_only s (is_private_anchor s script (w + 1)) line.request) ≡ true)
      (lines_for (w + 1) script) record { worker = worker; number = number; request = Begin tab url body } all among in
      let same : (tab == tab) ≡ true = eq-eqb tab tab refl in
      let is : (not (tab == tab) || is_private_anchor s script (w + 1) (url_anchor s url)) ≡ is_private_anchor s script (w + 1) (url_anchor s url) = rw same refl in
      sym is ∙ this
  private_names number worker (OpenTab tab url) among own =
      let all = AllPass-from_list_all (λ line. not (takes tab line.request) || names_only s (is_private_anchor s script (w + 1)) line.request)
      (lines_for (w + 1) script) own in
      let this : (not (tab == tab) || is_private_anchor s script (w + 1) (url_anchor s url)) ≡ true =
      All-contains (λ line. (not (takes tab line.request) || names_only s (is_private_anchor s script (w + 1)) line.request) ≡ true)
      (lines_for (w + 1) script) record { worker = worker; number = number; request = OpenTab tab url } all among in
      let same : (tab == tab) ≡ true = eq-eqb tab tab refl in
      let is : (not (tab == tab) || is_private_anchor s script (w + 1) (url_anchor s url)) ≡ is_private_anchor s script (w + 1) (url_anchor s url) = rw same refl in
      sym is ∙ this
  private_names number worker _ among own = refl

  -- in a store that fits these anchors are left to the worker's pass
  module _ {X : Type 0} (g : Ground X) (fit : fits g ≡ true) (anchors_are : g.setting.anchors ≡ s.anchors) (offers_are : g.offers ≡ offers_of script) where
    alone_is : (a : ℕ) → alone_of g a ≡ leaves_to s.anchors a script
    unfolding offers_of
    alone_is a = λ i. (offers_are i).alone (anchors_are i) a

    left_is : (a : ℕ) → leaves_to s.anchors a script ≡ Some w → left_to g w a ≡ true
    unfolding left_to
    left_is a e =
        let that : is_that w (alone_of g a) ≡ true = ap (is_that w) (alone_is a ∙ e) ∙ eq-eqb w w refl in
        by_passes (g.setting.passes == 1) (and_from (fits g) (is_that w (alone_of g a)) fit that)
      where
        by_passes : (b : Bool) → (fits g && is_that w (alone_of g a)) ≡ true → (b || (fits g && is_that w (alone_of g a))) ≡ true
        by_passes true h = refl
        by_passes false h = h

    pub names_left : (line : Line) → Contains script line → Contains (lines_for (w + 1) script) line → is_private s script (w + 1) line ≡ true
        → names_only s (left_to g w) line.request ≡ true
    names_left line among mine own = by_url (url_in line.request) refl
      where
        names_private : names_only s (is_private_anchor s script (w + 1)) line.request ≡ true
        names_private = private_names line.number line.worker line.request mine own

        by_url : (o : Option (List ℕ)) → url_in line.request ≡ o → names_only s (left_to g w) line.request ≡ true
        by_url None e = rw e refl
        by_url (Some url) e =
            let private_there : names_only s (is_private_anchor s script (w + 1)) line.request ≡ is_private_anchor s script (w + 1) (url_anchor s url) = rw e refl in
            let left_there : names_only s (left_to g w) line.request ≡ left_to g w (url_anchor s url) = rw e refl in
            let named : names_at s.anchors (url_anchor s url) line.request ≡ (url_anchor s url == url_anchor s url) = rw e refl in
            let named_is : names_at s.anchors (url_anchor s url) line.request ≡ true = named ∙ eq-eqb (url_anchor s url) (url_anchor s url) refl in
            left_there ∙ left_is (url_anchor s url) (left_alone (url_anchor s url) line among named_is (sym private_there ∙ names_private))

    -- so are the anchors that the worker alone names
    pub own_left : (a : ℕ) → is_own_anchor s script (w + 1) a ≡ true → left_to g w a ≡ true
    own_left a own =
        let parts = and_parts (is_private_anchor s script (w + 1) a) (not (list_all (names_others a) script)) own in
        let named = fails_at (names_others a) script (not_false (list_all (names_others a) script) parts.1) in
        left_is a (left_alone a named.line named.among (names_it a named.line.request named.fails) parts.0)
