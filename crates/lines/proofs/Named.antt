-- A word that is no verb's name is no verb.
use Rattle.std.proofs.Common.{◌≡◌, ℕ, List, [], ◌∷◌, Some, None, sym, refl, ◌∙◌, ⊎_elim}
use Rattle.std.specs.Str.{bytes_eq}
use Rattle.std.proofs.lemmas.Slice.Eq.{bytes_eq-Decides}
use Rattle.std.proofs.lemmas.Bool.{cases_Bool, cond-false}
use Rattle.lines.specs.declared.verbs.Verb.{Verb}
use Rattle.lines.specs.Verbs.{name_of, verbs, named, verb_of}

none_of : (vs : List Verb) (w : List ℕ) → ((v : Verb) → w ≡ name_of v → ⊥) → named vs w ≡ None
none_of [] w h = refl
none_of (v ∷ vs) w h =
    cond-false (bytes_eq w (name_of v)) (Some v) (named vs w) (⊎_elim (λ e. absurd (h v ((bytes_eq-Decides w (name_of v)).0 e))) (λ e. e) (cases_Bool (bytes_eq w (name_of v))))
    ∙ none_of vs w h

pub not_named : (w : List ℕ) → ((v : Verb) → w ≡ name_of v → ⊥) → None ≡ verb_of w
not_named w h = sym (none_of verbs w h)
