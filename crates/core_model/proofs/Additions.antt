-- What is added to the records of a view.
use Rattle.std.proofs.Common.{◌≡◌, ℕ, List, ◌∷◌, ◌++◌, reverse, Option, Some, None, refl, ap, ◌∙◌}
use Rattle.std.specs.Option.{option_to_list}
use Rattle.std.proofs.lemmas.List.{reverse-append, reverse-reverse}
use Rattle.core_model.specs.declared.adding.Addition.{Addition}
use Rattle.core_model.specs.declared.tab.Tab.{Tab}
use Rattle.core_model.specs.declared.view.Item.{Item}
use Rattle.core_model.specs.declared.view.Sight.{Sight}
use Rattle.core_model.specs.declared.view.Trace.{Trace}
use Rattle.core_model.specs.declared.view.Deed.{Deed}
use Rattle.core_model.specs.declared.view.View.{View}
use Rattle.core_model.specs.Additions.{added, names_seen, sights_learned}

pub reverse-option : {A : Type 0} → (o : Option A) → reverse (option_to_list o) ≡ option_to_list o
reverse-option None = refl
reverse-option (Some x) = refl

-- an item that is put at the end of a list comes first in the log
pub logged : {A : Type 0} → (xs ys zs : List A) (o : Option A) → ys ≡ xs → zs ≡ ys ++ option_to_list o → reverse zs ≡ option_to_list o ++ reverse xs
logged {A} xs ys zs o same more = ap reverse (more ∙ ap (λ (l : List A). l ++ option_to_list o) same) ∙ reverse-append xs (option_to_list o) ∙ ap (λ (l : List A). l ++ reverse xs) (reverse-option o)

-- items that are put there the other way round stand in their order in the log
logged_all : {A : Type 0} → (xs ys zs more : List A) → ys ≡ xs → zs ≡ ys ++ reverse more → reverse zs ≡ more ++ reverse xs
logged_all {A} xs ys zs more same is =
    ap reverse (is ∙ ap (λ (l : List A). l ++ reverse more) same) ∙ reverse-append xs (reverse more) ∙ ap (λ (l : List A). l ++ reverse xs) (reverse-reverse more)

-- the sights that were learned are put there, the sights of names, and then one more
pub logged_sights : {A : Type 0} → (xs ys zs ws us learned names : List A) (o : Option A) → ys ≡ xs → zs ≡ ys ++ reverse learned → ws ≡ zs ++ reverse names → us ≡ ws ++ option_to_list o
    → reverse us ≡ option_to_list o ++ (names ++ (learned ++ reverse xs))
logged_sights {A} xs ys zs ws us learned names o same learns named more =
    logged ws ws us o refl more
    ∙ ap (λ (l : List A). option_to_list o ++ l) (logged_all zs zs ws names refl named ∙ ap (λ (l : List A). names ++ l) (logged_all xs ys zs learned same learns))

pub fronted : {A : Type 0} → (xs ys zs : List A) (o : Option A) → ys ≡ xs → zs ≡ option_to_list o ++ ys → zs ≡ option_to_list o ++ xs
fronted {A} xs ys zs o same more = more ∙ ap (λ (l : List A). option_to_list o ++ l) same

-- the view with these records is the one that has all of it
pub added_is : {X : Type 0} → (v : View X) (a : Addition) (u : View X) (held : List ℕ) (seen : List Sight) (trail : List Item) (mirror : List Trace) (deeds : List Deed) (met : List ℕ) → u ≡ v
    → held ≡ option_to_list a.drawn ++ u.held → seen ≡ option_to_list a.sight ++ (names_seen a.names ++ (sights_learned a.learned ++ u.seen)) → trail ≡ a.item ∷ u.trail
    → mirror ≡ option_to_list a.trace ++ u.mirror → deeds ≡ option_to_list a.deed ++ u.deeds → met ≡ option_to_list a.met ++ u.met
    → record u { held = held; seen = seen; trail = trail; mirror = mirror; deeds = deeds; met = met } ≡ added v a
added_is {X} v a u held seen trail mirror deeds met is held_is seen_is trail_is mirror_is deeds_is met_is =
    (λ j. record u { held = held_is j; seen = seen_is j; trail = trail_is j; mirror = mirror_is j; deeds = deeds_is j; met = met_is j })
    ∙ ap (λ (w : View X). added w a) is
