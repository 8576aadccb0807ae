-- What a line gives, by its first word.
use Rattle.std.proofs.Common.{◌≡◌, ℕ, ◌≤◌, ltb, List, ◌∷◌, length, Err, sym, ap, ◌∙◌}
use Rattle.std.proofs.lemmas.Bool.{le-ltb, cond-false}
use Rattle.words.specs.declared.faults.LineFault.TheVariants.{TooLong, UnknownWord}
use Rattle.lines.specs.declared.verbs.Verb.{Verb}
use Rattle.lines.specs.Verbs.{name_of}
use Rattle.words.specs.Words.{words}
use Rattle.lines.specs.Decoding.{by_verb, by_words, decoded}
use Rattle.lines.proofs.Named.{not_named}

pub short : (line : List ℕ) (w : List ℕ) (ws : List (List ℕ)) → length line ≤ 80 → words line ≡ w ∷ ws → decoded line ≡ by_words (w ∷ ws)
short line w ws h e = cond-false (ltb 80 (length line)) (Err TooLong) (by_words (words line)) (le-ltb 80 (length line) h) ∙ ap by_words e

pub unknown : (line : List ℕ) (w : List ℕ) (ws : List (List ℕ)) → length line ≤ 80 → words line ≡ w ∷ ws → ((v : Verb) → w ≡ name_of v → ⊥) → Err UnknownWord ≡ decoded line
unknown line w ws h e none = sym (short line w ws h e ∙ ap (λ o. by_verb o ws) (sym (not_named w none)))
