-- The laws on what PART gives.
use Rattle.std.proofs.Common.{◌≡◌, inr, ℕ, ◌+◌, ◌*◌, ◌<◌, ◌≤◌, List, [], ◌∷◌, length, sym, refl, ap, ◌∙◌, subst, arith, Bool, true, false, cond, Contains, mul-le-mul_right}
use Rattle.std.specs.Prelude.{IsTrue, None, Some}
use mathlib.Core.Option.{some}
use mathlib.Core.Logic.{dite}
use native.Mathlib.Decide.{ℕ_discrete}
use Rattle.std.proofs.Math.Decide.{dec_le}
use lib.ListN.{get_elem?}
use Rattle.store_key.specs.Anchor.{anchor_of}
use Rattle.store_key.specs.Key.{key_of}
use Rattle.lock_word.specs.Words.{epoch_number, stage_of, version_of}
use Rattle.script_text.specs.declared.request.Request.TheVariants.{Add}
use Rattle.core_model.specs.declared.moves.Side.TheVariants.{Offer}
use Rattle.core_model.specs.declared.view.Sight.{Sight}
use Rattle.core_model.specs.declared.view.Sight.TheVariants.{Named, Published, Stood}
use Rattle.core_model.specs.declared.view.View.{View}
use Rattle.core_model.specs.Anchors.{opening_counter}
use Rattle.core_model.proofs.DeedsTell.{known_quiet}
use Rattle.script_text.specs.Requests.{url_in}
use Rattle.line_account.specs.Lines.{Served, closes, given, opened_of, opens, reading, writing}
use Rattle.line_account.specs.Answers.{HasPart, Run, bytes_behind, bytes_of_tab, given_with, slots_after}
use Rattle.line_account.specs.Accounts.{Account, Tells}
use Rattle.line_account.specs.Courses.{Adds, Stage, lines_in}
use Rattle.line_account.specs.Closing.{Closed, LineIn, Worker}
use Rattle.line_account.specs.Crews.{HaveCourses, KnewOf}
use Rattle.line_account.specs.Ordering.{AreNotShort}
use Rattle.line_account.specs.Parts.{AddsTo, GivesOf, PrintsPart}
use Rattle.line_account.proofs.Rows.{Split}
use Rattle.line_account.proofs.Courses.{account_after, account_along}
use Rattle.line_account.proofs.Crews.{IsKnown as Known, adds, has_stage, kept, known_before}
use Rattle.line_account.proofs.Ordering.{opened_at}
use Rattle.line_account.proofs.Stages.{HasStage, of_line, of_stage}

pub reading_among : (t : ℕ) (served : List Served) (b : Served) → reading t served ≡ Some b → Split served b
reading_among t [] b e = absurd (let q : None ≡ Some b = e in cc)
reading_among t (s ∷ earlier) b e = among (λ q. reading_among t earlier b q) (opens t s.asked.request s.answer) (closes t s.asked.request s.answer) e
  where
    among : (reading t earlier ≡ Some b → Split earlier b) → (x y : Bool) → cond x (Some s) (cond y None (reading t earlier)) ≡ Some b → Split (s ∷ earlier) b
    among before true y q = let is : s ≡ b = cc in record { front = []; back = earlier; split = ap (λ z. z ∷ earlier) is }
    among before false true q = absurd (let z : None ≡ Some b = q in cc)
    among before false false q = let h = before q in record { front = s ∷ h.front; back = h.back; split = ap (λ l. s ∷ l) h.split }

-- more slots hold more bytes
more_behind : (room : ℕ) (url : List ℕ) (n p : ℕ) → n ≤ p → bytes_behind room url n ≤ bytes_behind room url p
more_behind room url n p le = let m = mul-le-mul_right room le in omega arith

none_behind : (room : ℕ) (url : List ℕ) (n : ℕ) → n ≡ 0 → bytes_behind room url n ≤ 0
none_behind room url n e = let m : n * room ≡ 0 * room = ap (λ x. x * room) e in omega arith

module _ {X : Type 0} (r : Run X) (crew : List Worker) (c : Closed r crew) where
  -- what stood or was named with a new version did so at one anchor
  same_anchor : (j l : ℕ) (w u : Worker) → get_elem? crew j ≡ some w → get_elem? crew l ≡ some u → (a b e offer : ℕ) → stage_of e ≡ 2 → Contains (c.view_at j).seen (Stood a e) → Contains (c.view_at l).seen (Named b (version_of e) Offer offer) → b ≡ a
  same_anchor j l w u at there a b e offer two stood named = dite (dec_le (version_of e) (opening_counter r.setting))
      (λ low. absurd ((known_quiet r.setting c.state c.sound a e (inr (c.index j, c.view_at j, c.at j w at, stood)) low).1 two))
      (λ high. c.sound.anchors.held.one_anchor b a (version_of e) (omega arith)
      (inr record { i = c.index l; view = c.view_at l; at = c.at l u there; sight = Named b (version_of e) Offer offer; seen = named; anchor = refl; version_is = refl })
      (inr record { i = c.index j; view = c.view_at j; at = c.at j w at; sight = Stood a e; seen = stood; anchor = refl; version_is = refl }))

  -- PART gives at least the bytes of slots that were seen published before
  enough : (j l : ℕ) (w u : Worker) → get_elem? crew j ≡ some w → get_elem? crew l ≡ some u → (v after : View X) (earlier : List Served) (s : Served) (e : ℕ) → stage_of e ≡ 2
      → (p : HasPart r v after earlier s e) → ((x : Sight) → Contains after.seen x → Contains (c.view_at j).seen x)
      → (b n offer : ℕ) (url : List ℕ) → 0 < n → Contains v.seen (Published b (version_of e) n) → Contains (c.view_at l).seen (Named b (version_of e) Offer offer) → r.url offer ≡ url
      → bytes_behind r.room url n ≤ given_with earlier s
  enough j l w u at there v after earlier s e two p keeps b n offer url some_slot published named url_is =
      let g = p.given in
      let a : ℕ = anchor_of (key_of g.url) r.setting.anchors in
      let same : b ≡ a = same_anchor j l w u at there a b e offer two (keeps (Stood a e) p.seen) named in
      let least : n ≤ g.place = p.least n (subst (λ y. Contains v.seen (Published a y n)) p.version (subst (λ z. Contains v.seen (Published z (version_of e) n)) same published)) in
      let mine : Contains (c.view_at j).seen (Named a (version_of e) Offer g.entry.offer) = keeps (Named a (version_of e) Offer g.entry.offer) (subst (λ y. Contains after.seen (Named a y Offer g.entry.offer)) (sym p.version) g.entry.offered) in
      let theirs : Contains (c.view_at l).seen (Named a (version_of e) Offer offer) = subst (λ z. Contains (c.view_at l).seen (Named z (version_of e) Offer offer)) same named in
      let one : g.entry.offer ≡ offer = c.sound.anchors.seen.agree (c.index j) (c.index l) (c.view_at j) (c.view_at l) (c.at j w at) (c.at l u there) a (version_of e) Offer g.entry.offer offer mine theirs in
      let urls : url ≡ g.url = sym url_is ∙ ap r.url (sym one) ∙ g.url_is (omega arith) in
      let m = more_behind r.room g.url n g.place least in
      subst (λ z. bytes_behind r.room z n ≤ given_with earlier s) (sym urls) (let all = p.all in omega arith)

-- What the lines of a worker say.

module _ {X : Type 0} (r : Run X) where
  part_of : (v after : View X) (earlier : List Served) (s : Served) (x : ℕ) → IsTrue r.tells → Adds r v earlier s after → (p : PrintsPart s x) → HasPart r v after earlier s (epoch_number p.epoch)
  part_of v after earlier s x y n p = n.parts y p.epoch p.bytes p.printed

  -- what ADDED tells, by what it prints
  record Behind (v : View X) (x : ℕ) (url : List ℕ) (slots : ℕ) : Type 0 where
    anchor : ℕ
    offer : ℕ
    url_is : r.url offer ≡ url
    published : Contains v.seen (Published anchor x slots)
    named : Contains v.seen (Named anchor x Offer offer)

  added_behind : (v : View X) (earlier : List Served) (s : Served) (x : ℕ) (url : List ℕ) (slots : ℕ) → Tells r v earlier s → AddsTo r earlier s x url slots → 0 < slots → Behind v x url slots
  added_behind v earlier s x url slots t a some_slot =
      let h = t.added a.count a.printed in
      let k : Add h.tab h.asked ≡ Add a.tab a.asked = sym h.request ∙ a.request in
      let tab : h.tab ≡ a.tab = cc in
      let f : Some h.writes.first ≡ Some a.first = sym h.writes.begun_is ∙ ap (λ u. writing u earlier) tab ∙ a.begun_is in
      let first : h.writes.first ≡ a.first = cc in
      let u : Some h.writes.url ≡ Some url = sym h.writes.named ∙ ap (λ (z : Served). url_in z.asked.request) first ∙ a.named in
      let urls : h.writes.url ≡ url = cc in
      let w : Some h.writes.version ≡ Some x = sym h.writes.drew ∙ ap Served.drew first ∙ a.drew in
      let version : h.writes.version ≡ x = cc in
      let slots_are : slots_after r.room h.writes.url h.tab (s ∷ earlier) ≡ slots = ap (λ z. slots_after r.room z h.tab (s ∷ earlier)) urls ∙ ap (λ z. slots_after r.room url z (s ∷ earlier)) tab ∙ sym a.slots_are in
      let some_there : 0 < slots_after r.room h.writes.url h.tab (s ∷ earlier) = omega arith in
      let b : ℕ = anchor_of (key_of h.writes.url) r.setting.anchors in
      record {
        anchor = b;
        offer = r.setting.slots + h.writes.first.asked.number;
        url_is = h.url_is ∙ urls;
        published = subst (λ n. Contains v.seen (Published b x n)) slots_are (subst (λ y. Contains v.seen (Published b y (slots_after r.room h.writes.url h.tab (s ∷ earlier)))) version (h.published some_there));
        named = subst (λ y. Contains v.seen (Named b y Offer (r.setting.slots + h.writes.first.asked.number))) version (h.offer some_there);
      }

  -- what a read tells, by what it prints
  record Given (v : View X) (x many : ℕ) : Type 0 where
    url : List ℕ
    slots : ℕ
    most : many ≤ bytes_behind r.room url slots
    behind : 0 < slots → Behind v x url slots

  given_behind : (v : View X) (earlier : List Served) (s : Served) (tab x : ℕ) → IsTrue r.tells → Account r v (s ∷ earlier) false → Tells r v earlier s → GivesOf earlier s tab x → Given v x (given tab (s ∷ earlier))
  given_behind v earlier s tab x y account t g =
      let h = t.given y g.reads in
      let f : Some h.first ≡ Some g.first = sym h.opened_is ∙ ap (opened_of earlier s) g.request ∙ g.opened_is in
      let first : h.first ≡ g.first = cc in
      let among = reading_among tab earlier g.first g.opened_is in
      let told = account.lines (s ∷ among.front) among.back g.first (ap (λ l. s ∷ l) among.split) in
      let version : x ≡ version_of g.first.opened = (opened_at r v among.back g.first told x g.printed).version_is in
      let x_is : version_of h.first.opened ≡ x = ap (λ (z : Served). version_of z.opened) first ∙ sym version in
      let a : ℕ = anchor_of (key_of h.url) r.setting.anchors in
      let many : given_with earlier s ≡ given tab (s ∷ earlier) = ap (λ q. length (bytes_of_tab earlier s q)) g.request in
      record {
        url = h.url;
        slots = h.place;
        most = (let m = h.most in omega arith);
        behind = λ some_slot. record {
          anchor = a;
          offer = h.entry.offer;
          url_is = h.url_is some_slot;
          published = subst (λ z. Contains v.seen (Published a z h.place)) x_is (h.published some_slot);
          named = subst (λ z. Contains v.seen (Named a z Offer h.entry.offer)) x_is h.entry.offered;
        };
      }

module _ {X : Type 0} (r : Run X) (crew : List Worker) (c : Closed r crew) (y : IsTrue r.tells) where
  -- a line of a worker: what it adds, and that the worker knows at the end what it knew after the line
  record IsLineOf (j : ℕ) (t : Stage X) (before : List (Stage X)) : Type 0 where
    adds : Adds r t.before (lines_in before) t.served t.after
    keeps : (x : Sight) → Contains t.after.seen x → Contains (c.view_at j).seen x

  -- where another line is known before the line that printed PART
  bound : (j l : ℕ) (w u : Worker) → get_elem? crew j ≡ some w → get_elem? crew l ≡ some u → (t s : Stage X) (before : List (Stage X)) (x slots : ℕ) (url : List ℕ)
      → IsLineOf j t before → PrintsPart t.served x → ((z : Sight) → Contains s.after.seen z → Contains t.before.seen z) → ((z : Sight) → Contains s.after.seen z → Contains (c.view_at l).seen z)
      → (0 < slots → Behind r s.after x url slots) → bytes_behind r.room url slots ≤ given_with (lines_in before) t.served
  bound j l w u at there t s before x slots url line p known kept behind = dite (ℕ_discrete slots 0)
      (λ none. let z = none_behind r.room url slots none in omega arith)
      (λ some_slot.
      let b = behind (omega arith) in
      let part = part_of r t.before t.after (lines_in before) t.served x y line.adds p in
      let e : ℕ = epoch_number p.epoch in
      enough r crew c j l w u at there t.before t.after (lines_in before) t.served e (line.adds.tells.part p.epoch p.bytes p.printed) part line.keeps b.anchor slots b.offer url (omega arith)
      (subst (λ z. Contains t.before.seen (Published b.anchor z slots)) (sym p.version_is) (known _ b.published))
      (subst (λ z. Contains (c.view_at l).seen (Named b.anchor z Offer b.offer)) (sym p.version_is) (kept _ b.named))
      b.url_is)

  -- a line that the worker knew of before the line t
  record IsKnown (l : ℕ) (t s : Stage X) (earlier : List (Stage X)) : Type 0 where
    adds : Adds r s.before (lines_in earlier) s.served s.after
    account : Account r s.after (s.served ∷ lines_in earlier) false
    known : (z : Sight) → Contains s.after.seen z → Contains t.before.seen z
    kept : (z : Sight) → Contains s.after.seen z → Contains (c.view_at l).seen z

  added_bound : (j l : ℕ) (w u : Worker) → get_elem? crew j ≡ some w → get_elem? crew l ≡ some u → (t s : Stage X) (before earlier : List (Stage X)) (x slots : ℕ) (url : List ℕ)
      → IsLineOf j t before → IsKnown l t s earlier → PrintsPart t.served x → AddsTo r (lines_in earlier) s.served x url slots → bytes_behind r.room url slots ≤ given_with (lines_in before) t.served
  added_bound j l w u at there t s before earlier x slots url line k p a = bound j l w u at there t s before x slots url line p k.known k.kept (added_behind r s.after (lines_in earlier) s.served x url slots k.adds.tells a)

  given_bound : (j l : ℕ) (w u : Worker) → get_elem? crew j ≡ some w → get_elem? crew l ≡ some u → (t s : Stage X) (before earlier : List (Stage X)) (x tab : ℕ)
      → IsLineOf j t before → IsKnown l t s earlier → PrintsPart t.served x → GivesOf (lines_in earlier) s.served tab x → given tab (s.served ∷ lines_in earlier) ≤ given_with (lines_in before) t.served
  given_bound j l w u at there t s before earlier x tab line k p g =
      let h = given_behind r s.after (lines_in earlier) s.served tab x y k.account k.adds.tells g in
      let b = bound j l w u at there t s before x h.slots h.url line p k.known k.kept h.behind in
      let m = h.most in
      omega arith

  module _ (have : HaveCourses r crew c.view_at) (x : ℕ) (p : LineIn crew (λ before t. PrintsPart t x)) (s : Served) (earlier : List Served) (knows : KnewOf crew p.earlier s earlier) where
    abbrev P : List Served → Served → Type 0
    P before t = PrintsPart t x

    abbrev stages : List (Stage X)
    stages = (have.course p.j p.worker p.at).stages

    abbrev h : HasStage stages p.served p.earlier
    h = has_stage r crew have P p

    line : IsLineOf p.j h.stage h.before
    line = record { adds = adds r crew have P p; keeps = kept r crew have P p }

    part : PrintsPart h.stage.served x
    part = of_stage P stages p.served p.earlier h p.so

    k : Known r crew have h.stage.before s earlier
    k = known_before r crew have P p s earlier knows

    known : IsKnown k.j h.stage k.has.stage k.has.before
    known = record {
      adds = k.adds;
      account = account_after r k.has.stage.before k.has.stage.after (lines_in k.has.before) k.has.stage.served
          (account_along r (have.course k.j k.worker k.at).start k.has.stage.before k.has.before (have.course k.j k.worker k.at).is.begins k.course) k.adds;
      known = k.known;
      kept = k.kept;
    }

    pub added_known : (slots : ℕ) (url : List ℕ) → AddsTo r earlier s x url slots → bytes_behind r.room url slots ≤ given_with p.earlier p.served
    added_known slots url a = of_line (λ before t. bytes_behind r.room url slots ≤ given_with before t) stages p.served p.earlier h
        (added_bound p.j k.j p.worker k.worker p.at k.at h.stage k.has.stage h.before k.has.before x slots url line known part (of_stage (λ before z. AddsTo r before z x url slots) k.stages s earlier k.has a))

    pub given_known : (tab : ℕ) → GivesOf earlier s tab x → given tab (s ∷ earlier) ≤ given_with p.earlier p.served
    given_known tab g = of_line (λ before t. given tab (s ∷ earlier) ≤ given_with before t) stages p.served p.earlier h
        (of_line (λ before z. given tab (z ∷ before) ≤ given_with (lines_in h.before) h.stage.served) k.stages s earlier k.has
        (given_bound p.j k.j p.worker k.worker p.at k.at h.stage k.has.stage h.before k.has.before x tab line known part (of_stage (λ before z. GivesOf before z tab x) k.stages s earlier k.has g)))

pub not_short : {X : Type 0} → (r : Run X) (crew : List Worker) → (c : Closed r crew) → HaveCourses r crew c.view_at → IsTrue r.tells → AreNotShort r crew
not_short r crew c have y = record {
  added = λ x slots url s earlier p knows a. added_known r crew c y have x p s earlier knows slots url a;
  gave = λ x tab s earlier p knows g. given_known r crew c y have x p s earlier knows tab g;
}
