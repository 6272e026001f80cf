-- A good line has nothing wrong with it, and so a text has one reading.
use Rattle.std.proofs.Common.{◌≡◌, ◌≢◌, ℕ, ◌+◌, ◌^◌, ◌<◌, ◌≤◌, List, [], ◌∷◌, ◌++◌, length, arith, inl, inr, refl, ap, sym, ◌∙◌, subst}
use Rattle.std.specs.Prelude.{decimal}
use Rattle.std.proofs.lemmas.Bool.{cases_lt}
use Rattle.std.proofs.lemmas.Fmt.{decimal_injective}
use Rattle.std.proofs.lemmas.List.{length-append, same_from_push}
use Rattle.script_text.specs.Words.{words_of}
use Rattle.script_text.specs.Fields.{Offers, body_size}
use Rattle.script_text.specs.Requests.{name_of, kinds_of, SpellsRequest, offered_size}
use Rattle.script_text.specs.Lines.{total_of, IsMarked, IsLine, AreLines}
use Rattle.script_text.specs.Lines.AreLines.{no_line, one_more}
use Rattle.script_text.specs.Causes.{HasCause, IsFirst, PassesRoom, MarksAgain}
use Rattle.script_text.specs.Script.{IsScript, IsBadScript}
use Rattle.script_text.specs.declared.body.Body.{Body}
use Rattle.script_text.specs.declared.line.Line.{Line}
use Rattle.script_text.specs.declared.request.Request.{Request}
use Rattle.script_text.specs.declared.request.Request.TheVariants.{Mark}
use Rattle.script_text.specs.declared.verb.Verb.{Verb}
use Rattle.script_text.specs.declared.verb.Verb.TheVariants as verb
use Rattle.script_text.proofs.Adding.{marked_more}
use Rattle.script_text.proofs.Firsts.{spelled_well, this_call}
use Rattle.script_text.proofs.OneLine.{one_body, one_line}
use Rattle.script_text.proofs.Seams.{two_cuts}

-- a mark that a good line sets is below 64
low_mark : (request : Request) (name : Verb) (words : List (List ℕ)) (mark : ℕ) → request ≡ Mark mark → SpellsRequest request name words → (mark ≤ 63) × (words ≡ decimal mark ∷ [])
low_mark request name words mark is spelled =
    let now : SpellsRequest (Mark mark) name words = subst (λ (r : Request). SpellsRequest r name words) is spelled in
    (now.1.0, now.1.1)

low_marks : {workers : ℕ} {texts : List (List ℕ)} {lines : List Line} → AreLines workers texts lines → (mark : ℕ) → IsMarked lines mark → mark ≤ 63
low_marks no_line mark (line, (k, within, is), sets) = absurd (omega arith)
low_marks (one_more {lines = good} {line = line} are is) mark marked =
    elim (marked_more good line mark marked) [
      | inl before ↦ low_marks are mark before
      | inr now ↦ (low_mark line.request is.name is.fields mark now is.request).0
    ]

-- a request that sets a mark is named so
mark_named : (request : Request) (words : List (List ℕ)) → SpellsRequest request verb.Mark words → (mark : ℕ) × (request ≡ Mark mark) × (mark ≤ 63) × (words ≡ decimal mark ∷ [])
mark_named (Mark mark) words (is, (low, are)) = (mark, refl, low, are)
mark_named request words spelled = absurd (grind arith)

-- a good request offers no more than one body
one_offer : (request : Request) (name : Verb) (words : List (List ℕ)) (body : Body) → SpellsRequest request name words → Offers body (kinds_of name) words → body_size body ≡ offered_size request
one_offer request name words body spelled offers = grind (arith, one_body)

no_past : (before : List Line) (request : Request) (name : Verb) (words : List (List ℕ)) → SpellsRequest request name words → total_of before + offered_size request ≤ 67108864 → ¬ PassesRoom before (kinds_of name) words
no_past before request name words spelled room (body, offers, past) =
    let size = one_offer request name words body spelled offers in omega (arith, size)

-- a good line sets no mark again
no_twice : {workers : ℕ} {texts : List (List ℕ)} {lines : List Line} → AreLines workers texts lines → (request : Request) (name : Verb) (words : List (List ℕ)) → SpellsRequest request name words
    → ((mark : ℕ) → request ≡ Mark mark → ¬ IsMarked lines mark) → ¬ MarksAgain lines name words
no_twice {lines = lines} are request name words spelled unmarked (is, (mark, again, marked)) =
    let (own, sets, low, written) = mark_named request words (subst (λ (n : Verb). SpellsRequest request n words) is spelled) in
    let joined : decimal own ∷ [] ≡ decimal mark ∷ [] = sym written ∙ again in
    let digits : decimal own ≡ decimal mark = cc in
    let few = low_marks are mark marked in
    let same : mark ≡ own = sym (decimal_injective own mark (omega (arith, low)) (omega (arith, few)) digits) in
    unmarked own sets (subst (λ (m : ℕ). IsMarked lines m) same marked)

-- a good line has no cause to be bad
pub nothing_wrong : {workers : ℕ} {texts : List (List ℕ)} {lines : List Line} → AreLines workers texts lines → (text : List ℕ) (line : Line) (cause : ℕ) → IsLine workers lines text line → ¬ HasCause workers lines text cause
nothing_wrong are text line cause good (inl (is, inl many)) = omega (arith, good.few)
nothing_wrong are text line cause good (inl (is, inr long)) = omega (arith, good.short)
nothing_wrong are text line cause good (inr (inl (is, bad))) = bad good.printable
nothing_wrong are text line cause good (inr (inr (inl (is, none)))) = none (line.worker, name_of good.name ∷ good.fields, good.from, good.to, good.spelled)
nothing_wrong are text line cause good (inr (inr (inr (inl (is, none))))) = none (good.name, good.fields, (decimal line.worker, good.spelled))
nothing_wrong {lines = lines} are text line cause good (inr (inr (inr (inr (other, others, named, bad))))) =
    elim (this_call lines good.name other good.fields others (words_of text) cause (decimal line.worker, good.spelled) named bad) as (λ _. ⊥) [
      | inl field ↦ spelled_well line.request good.name good.fields cause good.request field
      | inr (inl (is, past)) ↦ no_past lines line.request good.name good.fields good.request good.room past
      | inr (inr (is, again)) ↦ no_twice are line.request good.name good.fields good.request good.unmarked again
    ]

-- texts are good lines in one way
same_lines : {workers : ℕ} {texts others : List (List ℕ)} {lines again : List Line} → workers < 2 ^ 32 → AreLines workers texts lines → AreLines workers others again → texts ≡ others → lines ≡ again
same_lines few no_line no_line same = refl
same_lines few no_line (one_more {texts = u} {text = y} are is) same = absurd (let count : length {A = List ℕ} [] ≡ length (u ++ y ∷ []) = ap length same in omega (arith, length-append u (y ∷ [])))
same_lines few (one_more {texts = t} {text = x} are is) no_line same = absurd (let count : length (t ++ x ∷ []) ≡ length {A = List ℕ} [] = ap length same in omega (arith, length-append t (x ∷ [])))
same_lines {workers = w} few (one_more {texts = t} {lines = ls} {text = x} {line = l} are is) (one_more {texts = u} {lines = ms} {text = y} {line = m} being be) same =
    let ends = same_from_push t u x y same in
    let fronts : ls ≡ ms = same_lines few are being ends.0 in
    let moved : IsLine w ms y l = subst (λ (text : List ℕ). IsLine w ms text l) ends.1 (subst (λ (b : List Line). IsLine w b x l) fronts is) in
    ap (λ b. b ++ l ∷ []) fronts ∙ ap (λ (line : Line). ms ++ line ∷ []) (one_line w ms y l m few moved be)

pub one_script : (workers : ℕ) (texts : List (List ℕ)) (lines others : List Line) → workers < 2 ^ 32 → AreLines workers texts lines → AreLines workers texts others → lines ≡ others
one_script workers texts lines others few are again = same_lines few are again refl

-- each of the texts is a good line behind those before it
a_good_line : {workers : ℕ} {all : List (List ℕ)} {lines : List Line} → AreLines workers all lines → (texts : List (List ℕ)) (text : List ℕ) (behind : List (List ℕ)) → all ≡ texts ++ text ∷ behind
    → (before : List Line) × (line : Line) × AreLines workers texts before × IsLine workers before text line
a_good_line no_line texts text behind same = absurd (let count : length {A = List ℕ} [] ≡ length (texts ++ text ∷ behind) = ap length same in omega (arith, length-append texts (text ∷ behind)))
a_good_line {workers = w} (one_more {texts = t} {lines = ls} {text = x} {line = l} are is) texts text behind same =
    elim (two_cuts t x [] texts text behind same) as (λ _. (before : List Line) × (line : Line) × AreLines w texts before × IsLine w before text line) [
      | inl (fronts, items) ↦ (ls, l, subst (λ (f : List (List ℕ)). AreLines w f ls) fronts are, subst (λ (b : List ℕ). IsLine w ls b l) items is)
      | inr (inl (more, longer)) ↦ absurd (let count : length (t ++ x ∷ []) ≡ length (texts ++ text ∷ behind) = ap length same in let long : length texts ≡ length (t ++ x ∷ more) = ap length longer in omega (arith, length-append t (x ∷ []), length-append texts (text ∷ behind), length-append t (x ∷ more)))
      | inr (inr (more, shorter)) ↦ a_good_line are texts text more shorter
    ]

-- no good lines have a bad one among them
pub none_bad : (workers : ℕ) (texts : List (List ℕ)) (bad : List ℕ) (behind : List (List ℕ)) (all before : List Line) (cause : ℕ) → workers < 2 ^ 32 → AreLines workers (texts ++ bad ∷ behind) all
    → AreLines workers texts before → ¬ HasCause workers before bad cause
none_bad workers texts bad behind all before cause few are good has =
    let (lines, line, texts_good, line_good) = a_good_line are texts bad behind refl in
    let same : before ≡ lines = one_script workers texts before lines few good texts_good in
    nothing_wrong texts_good bad line cause line_good (subst (λ (b : List Line). HasCause workers b bad cause) same has)

pub never_both : (workers : ℕ) (text : List ℕ) (lines : List Line) (number cause : ℕ) → workers < 2 ^ 32 → IsScript workers text lines → ¬ IsBadScript workers text number cause
never_both workers text lines number cause few script is =
    none_bad workers is.texts is.bad is.behind lines is.lines cause few (subst (λ (t : List (List ℕ)). AreLines workers t lines) is.cut script) is.good is.first.has

-- the first of the causes is one
one_cause : (Has : ℕ → Type 0) (a b : ℕ) → IsFirst Has a → IsFirst Has b → a ≡ b
one_cause Has a b first again = elim (cases_lt a b) as (λ _. a ≡ b) [
  | inl below ↦ absurd (again.none_before a below first.has)
  | inr above ↦ elim (cases_lt b a) as (λ _. a ≡ b) [
    | inl under ↦ absurd (first.none_before b under again.has)
    | inr over ↦ omega arith
  ]
]

-- a bad line is not behind another one
not_behind : (workers : ℕ) (text : List ℕ) (number cause n c : ℕ) → workers < 2 ^ 32 → (p : IsBadScript workers text number cause) → (q : IsBadScript workers text n c) → (more : List (List ℕ)) → q.texts ≢ p.texts ++ p.bad ∷ more
not_behind workers text number cause n c few p q more longer =
    none_bad workers p.texts p.bad more q.lines p.lines cause few (subst (λ (t : List (List ℕ)). AreLines workers t q.lines) longer q.good) p.good p.first.has

-- the first bad line is one
pub one_bad_line : (workers : ℕ) (text : List ℕ) (number cause n c : ℕ) → workers < 2 ^ 32 → IsBadScript workers text number cause → IsBadScript workers text n c → (number ≡ n) × (cause ≡ c)
one_bad_line workers text number cause n c few p q =
    elim (two_cuts p.texts p.bad p.behind q.texts q.bad q.behind (sym p.cut ∙ q.cut)) as (λ _. (number ≡ n) × (cause ≡ c)) [
      | inl (fronts, items) ↦
          let lines : p.lines ≡ q.lines = same_lines few p.good q.good fronts in
          let moved : IsFirst (HasCause workers q.lines q.bad) cause =
          subst (λ (b : List ℕ). IsFirst (HasCause workers q.lines b) cause) items (subst (λ (l : List Line). IsFirst (HasCause workers l p.bad) cause) lines p.first) in
          (p.numbered ∙ ap (λ t. length t + 1) fronts ∙ sym q.numbered, one_cause (HasCause workers q.lines q.bad) cause c moved q.first)
      | inr (inl (more, longer)) ↦ absurd (not_behind workers text number cause n c few p q more longer)
      | inr (inr (more, longer)) ↦ absurd (not_behind workers text n c number cause few q p more longer)
    ]
