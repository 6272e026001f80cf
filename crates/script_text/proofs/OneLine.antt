-- A text is at most one line.
use Rattle.std.proofs.Common.{◌≡◌, ℕ, ◌^◌, ◌<◌, ◌≤◌, List, [], ◌∷◌, ◌++◌, length, take, arith, inl, inr, ap, sym, ◌∙◌, subst, append_assoc}
use Rattle.std.specs.Prelude.{decimal}
use Rattle.std.proofs.Math.Seq.{get_or-append_seam, take-append_seam}
use Rattle.std.proofs.lemmas.Fmt.{decimal_injective}
use Rattle.std.proofs.lemmas.List.{get_or_append_left, length-append, append_cancel_left}
use Rattle.script_text.specs.Fields.{IsFirstColon, SpellsBody, made_word}
use Rattle.script_text.specs.Requests.{name_of, SpellsRequest}
use Rattle.script_text.specs.Lines.{IsLine}
use Rattle.script_text.specs.declared.body.Body.{Body}
use Rattle.script_text.specs.declared.body.Body.TheVariants.{Text, Made}
use Rattle.script_text.specs.declared.line.Line.{Line}
use Rattle.script_text.specs.declared.request.Request.{Request}
use Rattle.script_text.specs.declared.verb.Verb.{Verb}
use Rattle.script_text.proofs.Made.{no_colon, colon_stands}
use Rattle.script_text.proofs.Firsts.{one_name}

-- the first number ends at the first colon
first_colon : (count : ℕ) (tail : List ℕ) → count < 2 ^ 64 → IsFirstColon (decimal count ++ 58 ∷ tail) (length (decimal count))
first_colon count tail small = record {
  within = grind (arith, length-append {A = ℕ});
  colon = get_or-append_seam (decimal count) 58 tail 0;
  none_before = λ k below is. no_colon count small k below (sym (get_or_append_left (decimal count) (58 ∷ tail) 0 k below) ∙ is);
}

-- numbers in front of colons are one number
one_count : (m n : ℕ) (tail other : List ℕ) → m < 2 ^ 64 → n < 2 ^ 64 → decimal m ++ 58 ∷ tail ≡ decimal n ++ 58 ∷ other → m ≡ n
one_count m n tail other small low same =
    let count : length (decimal m) ≡ length (decimal n) = colon_stands (decimal m ++ 58 ∷ tail) (length (decimal m)) n other low (first_colon m tail small) same in
    decimal_injective m n small low
    (sym (take-append_seam (decimal m) (58 ∷ tail)) ∙ ap (take (length (decimal m))) same ∙ ap (λ k. take k (decimal n ++ 58 ∷ other)) count ∙ take-append_seam (decimal n) (58 ∷ other))

tails_same : (a b : ℕ) (xs ys : List ℕ) → a ∷ xs ≡ b ∷ ys → xs ≡ ys
tails_same a b xs ys same = cc

-- a body that is made is written in one way
made_same : (m k n l : ℕ) → m ≤ 4194304 → k ≤ 25 → n ≤ 4194304 → l ≤ 25 → made_word m k ≡ made_word n l → Made m k ≡ Made n l
made_same m k n l few low small short same =
    let behind : (decimal m ++ 58 ∷ []) ++ decimal k ≡ (decimal n ++ 58 ∷ []) ++ decimal l = tails_same 35 35 _ _ same in
    let marked : decimal m ++ 58 ∷ decimal k ≡ decimal n ++ 58 ∷ decimal l =
    sym (append_assoc (decimal m) (58 ∷ []) (decimal k)) ∙ behind ∙ append_assoc (decimal n) (58 ∷ []) (decimal l) in
    let counts : m ≡ n = one_count m n (decimal k) (decimal l) (omega arith) (omega arith) marked in
    let moved : decimal m ++ 58 ∷ decimal k ≡ decimal m ++ 58 ∷ decimal l = marked ∙ ap (λ c. decimal c ++ 58 ∷ decimal l) (sym counts) in
    let shifts : k ≡ l = decimal_injective k l (omega arith) (omega arith) (tails_same 58 58 _ _ (append_cancel_left (decimal m) _ _ moved)) in
    ap (λ c. Made c k) counts ∙ ap (Made n) shifts

-- one word is one body
pub one_body : (a b : Body) (word : List ℕ) → SpellsBody a word → SpellsBody b word → a ≡ b
one_body (Text s) (Text t) word (good, is) (fine, same) = ap Text (tails_same 61 61 s t (sym is ∙ same))
one_body (Text s) (Made n l) word (good, is) (inl (few, low, same)) = cc
one_body (Text s) (Made n l) word (good, is) (inr (none, zero_shift, same)) = cc
one_body (Made m k) (Text t) word (inl (few, low, is)) (fine, same) = cc
one_body (Made m k) (Text t) word (inr (none, zero_shift, is)) (fine, same) = cc
one_body (Made m k) (Made n l) word (inl (few, low, is)) (inl (small, short, same)) = made_same m k n l few low small short (sym is ∙ same)
one_body (Made m k) (Made n l) word (inl (few, low, is)) (inr (none, zero_shift, same)) = cc
one_body (Made m k) (Made n l) word (inr (none, zero_shift, is)) (inl (small, short, same)) = cc
one_body (Made m k) (Made n l) word (inr (none, zero_shift, is)) (inr (nothing, no_shift, same)) = cc

small_number : (m n : ℕ) → m ≤ 4194304 → n ≤ 4194304 → decimal m ≡ decimal n → m ≡ n
small_number m n few small same = decimal_injective m n (omega arith) (omega arith) same

-- one name and its words are one request
pub one_request : (r s : Request) (name : Verb) (words : List (List ℕ)) → SpellsRequest r name words → SpellsRequest s name words → r ≡ s
one_request r s name words p q = grind (arith, one_body, small_number)

abbrev line : ℕ → ℕ → Request → Line
line worker number request = record { worker = worker; number = number; request = request }

same_fields : {w n v m : ℕ} {r s : Request} → w ≡ v → n ≡ m → r ≡ s → line w n r ≡ line v m s
same_fields workers numbers requests = cc

-- one text is one line
pub one_line : (workers : ℕ) (before : List Line) (text : List ℕ) (one other : Line) → workers < 2 ^ 32 → IsLine workers before text one → IsLine workers before text other → one ≡ other
one_line workers before text one other few p q =
    let joined : decimal one.worker ∷ name_of p.name ∷ p.fields ≡ decimal other.worker ∷ name_of q.name ∷ q.fields = sym p.spelled ∙ q.spelled in
    let numbers : decimal one.worker ≡ decimal other.worker = cc in
    let names : name_of p.name ≡ name_of q.name = cc in
    let fields : p.fields ≡ q.fields = cc in
    let request : SpellsRequest other.request p.name p.fields =
    subst (λ (n : Verb). SpellsRequest other.request n p.fields) (sym (one_name p.name q.name names)) (subst (λ (f : List (List ℕ)). SpellsRequest other.request q.name f) (sym fields) q.request) in
    same_fields
    (decimal_injective one.worker other.worker (omega (arith, p.to)) (omega (arith, q.to)) numbers)
    (p.numbered ∙ sym q.numbered)
    (one_request one.request other.request p.name p.fields p.request request)
