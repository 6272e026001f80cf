-- Complete entries that begin at one slot are one.
use Rattle.std.proofs.Common.{◌≡◌, ℕ, List, take, drop, ap, sym, ◌∙◌, subst}
use Rattle.swap_meta.specs.Meta.{Spells}
use Rattle.rebuild_model.specs.Image.{header_at, key_at, payload_at}
use Rattle.rebuild_model.specs.Entry.{Entry, IsChain, IsComplete, content_of}
use Rattle.rebuild_model.proofs.Chains.{one_chain}
use Rattle.rebuild_model.proofs.Metadata.{Agree, one_meta}

abbrev entry : ℕ → ℕ → List ℕ → List ℕ → List ℕ → List ℕ → Entry
entry first version key url chain body = record { first = first; version = version; key = key; url = url; chain = chain; body = body }

same_fields : {a b a' b' : ℕ} {c d e f c' d' e' f' : List ℕ} → a ≡ a' → b ≡ b' → c ≡ c' → d ≡ d' → e ≡ e' → f ≡ f' → entry a b c d e f ≡ entry a' b' c' d' e' f'
same_fields p q r s t u = cc

pub same_entry : Agree → (slot : ℕ) (images : List (List ℕ)) (e f : Entry) → IsComplete slot images e → IsComplete slot images f → e.first ≡ f.first → e ≡ f
same_entry agree slot images e f p q same =
    let meta = one_meta agree (payload_at images f.first) e.key e.url f.key f.url p.size q.size
    (subst (λ s. Spells (take p.size (payload_at images s)) e.key e.url p.size) same p.meta) q.meta in
    let chain = one_chain slot images f.first e.chain f.chain (subst (λ s. IsChain slot images s e.chain) same p.chain) q.chain in
    same_fields same
    (p.version ∙ ap (λ s. (header_at images s).version) same ∙ sym q.version)
    (p.key ∙ ap (key_at images) same ∙ sym q.key)
    meta.0
    chain
    (p.body ∙ ap (λ n. drop n (content_of images e.chain)) meta.1 ∙ ap (λ c. drop q.size (content_of images c)) chain ∙ sym q.body)
