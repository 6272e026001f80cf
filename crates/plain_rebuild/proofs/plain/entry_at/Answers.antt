use Rattle.std.proofs.Common.{rules, ◌≡◌, ℕ, List, [], length, drop, ◌-◌, ◌≤◌, subst, sym, ap, refl, ◌∙◌}
use Rattle.std.specs.Prelude.{sum_by}
use Rattle.std.proofs.lemmas.List.{length-drop, get_or_default}
use Rattle.rebuild_model.specs.Image.{image_at}
use Rattle.rebuild_model.specs.Entry.{content_of, IsChain}
use Rattle.rebuild_model.specs.Plain.{IsWhole, size_at}
use Rattle.rebuild_model.proofs.Chains.{first_belongs}
use Rattle.plain_rebuild.proofs.Completing.{at_some, at_none, retold, its_chain, few, is_whole, is_named, complete, entry_of}
use Rattle.rebuild_model.proofs.Lengths.{content_length}
use Rattle.plain_rebuild.proofs.plain.entry_at.Goals as goal

pub returns-in_default : goal.returns-in_default
returns-in_default c e whole same =
    at_none ((chain : List ℕ) → IsChain c.args.slot c.args.images.now c.args.first chain → ⊥) (λ chain. IsChain c.args.slot c.args.images.now c.args.first chain.items)
    c.in_default.is c.in_ok-chain.ensures e.chain (its_chain c.args.slot c.args.images.now c.args.first e whole same)

pub whole_size-requires-clause-few : goal.whole_size-requires-clause-few
whole_size-requires-clause-few c =
    let chain : IsChain c.args.slot c.args.images.now c.args.first c.in-Some.chain.items = at_some ((chain : List ℕ) → IsChain c.args.slot c.args.images.now c.args.first chain → ⊥) (λ chain. IsChain c.args.slot c.args.images.now c.args.first chain.items) c.in-Some.is c.in_ok-chain.ensures in
    subst (λ xs. length xs ≤ length c.args.images.now) (sym c.deref.ensures.value) (few c.args.slot c.args.images.now c.args.first c.in-Some.chain.items chain)

pub returns-in_default-whole_size : goal.returns-in_default-whole_size
returns-in_default-whole_size c e whole same =
    let chain : IsChain c.args.slot c.args.images.now c.args.first c.in-Some.chain.items = at_some ((chain : List ℕ) → IsChain c.args.slot c.args.images.now c.args.first chain → ⊥) (λ chain. IsChain c.args.slot c.args.images.now c.args.first chain.items) c.in-Some.is c.in_ok-chain.ensures in
    c.in_default-whole_size.ensures (subst (IsWhole c.args.slot c.args.images.now) (sym c.deref.ensures.value) (is_whole c.args.slot c.args.images.now c.args.first c.in-Some.chain.items e chain whole same))

pub payload_of_slot-payload-requires-clause-sane : goal.payload_of_slot-payload-requires-clause-sane
payload_of_slot-payload-requires-clause-sane c =
    let chain : IsChain c.args.slot c.args.images.now c.args.first c.in-Some.chain.items = at_some ((chain : List ℕ) → IsChain c.args.slot c.args.images.now c.args.first chain → ⊥) (λ chain. IsChain c.args.slot c.args.images.now c.args.first chain.items) c.in-Some.is c.in_ok-chain.ensures in
    (first_belongs c.args.slot c.args.images.now c.args.first c.in-Some.chain.items chain).sane

pub returns-in_default-named_meta : goal.returns-in_default-named_meta
returns-in_default-named_meta c e whole same =
    let named = is_named c.args.slot c.args.images.now c.args.first e whole same in
    let image : c.as_slice.result.now ≡ image_at c.args.images.now c.args.first = c.as_slice.ensures ∙ c.index-images-first.is ∙ get_or_default c.args.images.now c.args.first _ [] c.requires.within in
    c.in_default-named_meta.ensures e.key e.url whole.size (retold e.key e.url whole.size (sym image) (sym c.payload_of_slot-payload.ensures.value) named)

pub returns : goal.returns
returns c =
    let chain : IsChain c.args.slot c.args.images.now c.args.first c.in-Some.chain.items = at_some ((chain : List ℕ) → IsChain c.args.slot c.args.images.now c.args.first chain → ⊥) (λ chain. IsChain c.args.slot c.args.images.now c.args.first chain.items) c.in-Some.is c.in_ok-chain.ensures in
    let sized = c.in-Some-whole_size.ensures in
    let named = c.in-Some-named_meta.ensures in
    let image : c.as_slice.result.now ≡ image_at c.args.images.now c.args.first = c.as_slice.ensures ∙ c.index-images-first.is ∙ get_or_default c.args.images.now c.args.first _ [] c.requires.within in
    let version = ap (λ h. h.version) c.header_of_slot.ensures in
    let url : c.from_vec.result ≡ c.in-Some-named_meta.meta.url.now = search rules in
    let size : c.in-Some-whole_size.size ≡ length (content_of c.args.images.now c.in-Some.chain.items) =
    sized.1 ∙ ap (sum_by (size_at c.args.images.now)) c.deref.ensures.value ∙ sym (content_length c.args.slot c.args.images.now c.args.first c.in-Some.chain.items c.requires.file chain) in
    let body : c.in-Some-whole_size.size - c.in-Some-named_meta.meta.length ≡ length (drop c.in-Some-named_meta.meta.length (content_of c.args.images.now c.in-Some.chain.items)) =
    ap (λ n. n - c.in-Some-named_meta.meta.length) size ∙ sym (length-drop c.in-Some-named_meta.meta.length (content_of c.args.images.now c.in-Some.chain.items)) in
    let chained = c.from_vec-2.ensures in
    record {
      entry = entry_of c.args.images.now c.args.first c.in-Some.chain.items c.in-Some-named_meta.meta.key c.in-Some-named_meta.meta.url.now c.in-Some-named_meta.meta.length;
      complete = complete c.args.slot c.args.images.now c.args.first c.in-Some.chain.items c.in-Some-named_meta.meta.key c.in-Some-named_meta.meta.url.now c.in-Some-named_meta.meta.length chain
          (subst (IsWhole c.args.slot c.args.images.now) c.deref.ensures.value sized.0)
          (retold c.in-Some-named_meta.meta.key c.in-Some-named_meta.meta.url.now c.in-Some-named_meta.meta.length image c.payload_of_slot-payload.ensures.value named.0);
      begins = refl;
      told = cc;
    }
