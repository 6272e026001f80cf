-- Private lines are answered by themselves.
use Rattle.std.proofs.Common.{◌≡◌, ◌⊎◌, inl, inr, ◌∙◌, ℕ, ◌<◌, ◌≤◌, List, [], ◌∷◌, length, refl, sym, ap, arith, Bool, true, false}
use Rattle.std.specs.Prelude.{◌==◌, ◌||◌, not, Contains}
use Rattle.std.specs.List.{range_with_len, list_all}
use Rattle.std.proofs.lemmas.Bool.Decides.{nat_tests}
use Rattle.std.proofs.lemmas.List.Elements.{All-weaker, All-contains, All-contains_itself}
use Rattle.std.proofs.lemmas.List.Sums.{AllPass-from_list_all, list_all-from_AllPass}
use Rattle.script_text.specs.Tabs.{IsOnTab}
use Rattle.script_text.specs.declared.line.Line.{Line}
use Rattle.script_text.specs.declared.request.Request.{Request}
use Rattle.script_text.specs.declared.request.Request.TheVariants.{Begin, OpenTab}
use Rattle.plain_model.specs.declared.store.Setting.{Setting}
use Rattle.plain_model.specs.declared.store.Plain.{Plain}
use Rattle.plain_model.specs.Store.{place_at, tab_at}
use Rattle.plain_model.specs.Serving.{answers_of, after, lines_for}
use Rattle.plain_laws.specs.Fitting.{most_held, Fits, IsAtRest}
use Rattle.plain_laws.specs.Renaming.{IsRenaming, CountsVersions}
use Rattle.plain_laws.specs.Private.{names_only, takes, is_private_anchor, is_private_tab, is_private, private_lines, OpenOnly, TabsApart, AnswersAlone}
use Rattle.plain_laws.proofs.Course.{first, further}
use Rattle.plain_laws.proofs.Running.{not_at, room_at_rest, all_needed}
use Rattle.plain_laws.proofs.Agreeing.{Agree}
use Rattle.plain_laws.proofs.OwnLines.{Sorts}
use Rattle.plain_laws.proofs.ServedAlone.{told_in_turn}
use Rattle.plain_laws.proofs.Leaving.{tabs_left}
use Rattle.plain_laws.proofs.Parted.{drawn, drawn_rise, AllSorted, Parts, parts}
use Rattle.plain_laws.proofs.Standing.{standing, standing_is, standing_stands, none_kept}

-- a test of all lines
all_of : (test : Line → Bool) (lines : List Line) → ((line : Line) → Contains lines line → test line ≡ true) → list_all test lines ≡ true
all_of test lines h = list_all-from_AllPass test lines (All-weaker (Contains lines) (λ line. test line ≡ true) h lines (All-contains_itself lines))

one_of : (test : Line → Bool) (lines : List Line) (line : Line) → list_all test lines ≡ true → Contains lines line → test line ≡ true
one_of test lines line h among = All-contains (λ l. test l ≡ true) lines line (AllPass-from_list_all test lines h) among

abbrev only_opens : Setting → (ℕ → Bool) → ℕ → Line → Bool
only_opens s own tab line = not (takes tab line.request) || names_only s own line.request

or_not : (a b : Bool) → (a ≡ true → b ≡ true) → (not a || b) ≡ true
or_not true b h = h refl
or_not false b h = refl

then_so : (a b : Bool) → (not a || b) ≡ true → a ≡ true → b ≡ true
then_so true b h t = h
then_so false b h t = absurd (let k : false ≡ true = t in cc)

-- a line that opens a tab names a private anchor exactly where the tab is private
not_both : (a b c : Bool) → (a ≡ true → b ≡ true) → not b ≡ true → c ≡ a → b ≡ c
not_both true true c h n e = sym e
not_both true false c h n e = absurd (let k : false ≡ true = h refl in cc)
not_both false true c h n e = absurd (let k : false ≡ true = n in cc)
not_both false false c h n e = sym e

opens_alike : (s : Setting) (own : ℕ → Bool) (tab : ℕ) (lines : List Line) (line : Line) → Contains lines line → takes tab line.request ≡ true → (b c : Bool) → names_only s own line.request ≡ b → names_only s (λ a. not (own a)) line.request ≡ not b
    → OpenOnly s own tab lines ⊎ OpenOnly s (λ a. not (own a)) tab lines → list_all (only_opens s own tab) lines ≡ c → b ≡ c
opens_alike s own tab lines line among t b c hb hn (inl only) hc =
    sym hb ∙ (only line among t ∙ (sym (all_of (only_opens s own tab) lines (λ l k. or_not (takes tab l.request) (names_only s own l.request) (λ u. only l k u))) ∙ hc))
opens_alike s own tab lines line among t b c hb hn (inr others) hc =
    not_both c b c (λ e. sym hb ∙ then_so (takes tab line.request) (names_only s own line.request) (one_of (only_opens s own tab) lines line (hc ∙ e) among) t) (sym hn ∙ others line among t) refl

same_number : (n : ℕ) → (n == n) ≡ true
same_number n = grind (arith, nat_tests)

sorts : (s : Setting) (own : ℕ → Bool) (lines : List Line) (worker number : ℕ) (request : Request) → Contains lines (record { worker = worker; number = number; request = request })
    → ((tab : ℕ) → OpenOnly s own tab lines ⊎ OpenOnly s (λ a. not (own a)) tab lines) → Sorts s own (λ tab. list_all (only_opens s own tab) lines) request
sorts s own lines w n (Begin tab url made) among apart = opens_alike s own tab lines (record { worker = w; number = n; request = Begin tab url made }) among (same_number tab) _ _ refl refl (apart tab) refl
sorts s own lines w n (OpenTab tab url) among apart = opens_alike s own tab lines (record { worker = w; number = n; request = OpenTab tab url }) among (same_number tab) _ _ refl refl (apart tab) refl
sorts s own lines w n _ among apart = tt

all_sorted : (s : Setting) (own mine : ℕ → Bool) (lines : List Line) → ((line : Line) → Contains lines line → Sorts s own mine line.request) → ((line : Line) → Contains lines line → IsOnTab line.request) → AllSorted s own mine lines
all_sorted s own mine [] h k = tt
all_sorted s own mine (line ∷ lines) h k = (
  h line (first line lines),
  k line (first line lines),
  all_sorted s own mine lines (λ l among. h l (further line l lines among)) (λ l among. k l (further line l lines among)),
)

-- no line opens the last tab
never_last : (tab : ℕ) → tab ≤ 6 → (tab == 7) ≡ false
never_last tab h = grind (arith, nat_tests)

last_not_taken : (request : Request) → IsOnTab request → takes 7 request ≡ false
last_not_taken (Begin tab url made) on = never_last tab on
last_not_taken (OpenTab tab url) on = never_last tab on
last_not_taken _ on = refl

last_private : (s : Setting) (script : List Line) (worker : ℕ) → TabsApart s script worker → is_private_tab s script worker 7 ≡ true
last_private s script worker h = all_of (only_opens s (is_private_anchor s script worker) 7) (lines_for worker script)
    (λ line among. or_not (takes 7 line.request) (names_only s (is_private_anchor s script worker) line.request)
    (λ t. absurd (let k : false ≡ true = sym (last_not_taken line.request (h.tabs line among)) ∙ t in cc)))

-- a store at rest agrees with itself
rests_alike : (rename : ℕ → ℕ) (own mine : ℕ → Bool) (p : Plain) → IsRenaming p.counter rename → CountsVersions p → IsAtRest p → Agree rename own mine p p
rests_alike rename own mine p h counts rest = record {
  places = λ a o. ap (λ (v : ℕ). record (place_at p a) { version = v }) (sym (h.keeps (place_at p a).version (counts a)));
  tabs = λ t m. refl;
  left = λ t a at. absurd (not_at a (tab_at p t) (rest.free t) at);
  right = λ t a at. absurd (not_at a (tab_at p t) (rest.free t) at);
  idle = λ t off. rest.free t;
  as_many = refl;
  as_long = refl;
}

pub answered_alone : (s : Setting) (script : List Line) (worker : ℕ) (p : Plain) → 0 < s.room → 0 < s.anchors → 0 < s.slots → length p.places ≡ s.anchors → IsAtRest p → CountsVersions p
    → Fits s (lines_for worker script) p → TabsApart s script worker → AnswersAlone s script worker p
answered_alone s script worker p room some slots are rest counts fits apart =
    record {
      served = record {
        rename = rename;
        is = is;
        answered = both.answered;
        in_turn = told_in_turn s script worker p (answers_of s script worker p) rename both.answered;
      };
      places = both.agree.places;
      left = (tabs_left rename own mine s (most_held s lines p) (range_with_len 0 8) (after s script lines p) (after s script (private_lines s script worker) p) both.agree both.room).places;
    }
  where
    own : ℕ → Bool
    own = is_private_anchor s script worker

    mine : ℕ → Bool
    mine = is_private_tab s script worker

    lines : List Line
    lines = lines_for worker script

    drew : List ℕ
    drew = drawn s script (is_private s script worker) lines p

    rename : ℕ → ℕ
    rename = standing p.counter drew

    is : IsRenaming p.counter rename
    is = standing_is p.counter drew (drawn_rise s script (is_private s script worker) lines p)

    both : Parts rename own mine s (most_held s lines p) script lines p p
    both = parts rename own mine s (most_held s lines p) script lines p p
        (record {
          none = none_kept p.counter rename is;
          agree = rests_alike rename own mine p is counts rest;
          last = last_private s script worker apart;
          left = room_at_rest s lines p room some slots are rest fits;
          right = room_at_rest s lines p room some slots are rest fits;
          left_free = rest.free 7;
          right_free = rest.free 7;
        })
        (all_needed s lines p)
        (record { left = fits.versions; right = fits.versions })
        (all_sorted s own mine lines (λ line among. sorts s own lines line.worker line.number line.request among apart.apart) apart.tabs)
        (standing_stands p.counter drew)
