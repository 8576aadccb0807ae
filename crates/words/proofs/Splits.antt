-- A line's first word ends at its first space.
use Rattle.std.proofs.Common.{◌≡◌, ℕ, ◌+◌, ◌-◌, ◌==◌, List, [], ◌∷◌, length, take, drop, filter, position, Option, Some, None, sym, ap, ◌∙◌, arith, drop-drop, length-take}
use Rattle.std.proofs.lemmas.Option.{cond_some}
use Rattle.std.proofs.lemmas.Bool.{ltb-true}
use Rattle.std.proofs.lemmas.Bool.Decides.{nat_tests}
use Rattle.std.proofs.lemmas.List.{take_rest}
use Rattle.std.proofs.lemmas.List.Splits.{length-slice_split, slice_split_none, slice_split_first}
use Rattle.std.proofs.lemmas.List.Sums.{fails_before_first, length-filter}
use Rattle.words.specs.Words.{words, left}

none_is_space : (s : List ℕ) → None ≡ position (λ b. b == 32) s → words s ≡ s ∷ []
none_is_space s none =
    slice_split_none (λ b. b == 32) s (λ k d lt. fails_before_first (λ b. b == 32) s k d (grind (arith, nat_tests)))

first_is_space : (s : List ℕ) (end : ℕ) → Some end ≡ position (λ b. b == 32) s → words s ≡ take end s ∷ words (drop (end + 1) s)
first_is_space s end found =
    let at = cond_some _ _ _ (sym found) in
    slice_split_first (λ b. b == 32) s 0 (ltb-true _ _ at.0) ∙ ap (λ n. take n s ∷ words (drop (n + 1) s)) at.1

-- a line has one word more than spaces
spaces : (line : List ℕ) → length (filter (λ b. b == 32) line) + 1 ≡ length (words line)
spaces line = ap (λ n. n + 1) (length-filter (λ b. b == 32) line) ∙ sym (length-slice_split (λ b. b == 32) line)

-- what a slice from `place` on holds
abbrev rest : List ℕ → ℕ → List ℕ
rest line place = take (length line - place) (drop place line)

-- where a reader at `at` stands at a word
module _ (line : List ℕ) (at : Option ℕ) (place : ℕ) (is : at ≡ Some place) where
  here : left line at ≡ words (rest line place)
  here = ap (left line) is ∙ ap words (sym (take_rest line place))

  after : (end : ℕ) → drop (end + 1) (rest line place) ≡ drop (place + end + 1) line
  after end = ap (drop (end + 1)) (take_rest line place) ∙ drop-drop (end + 1) place line ∙ ap (λ k. drop k line) (omega arith)

  -- no space is left
  pub last : None ≡ position (λ b. b == 32) (rest line place) → left line at ≡ rest line place ∷ []
  last none = here ∙ none_is_space _ none

  -- the first space stands `end` bytes on
  pub next : (end : ℕ) → Some end ≡ position (λ b. b == 32) (rest line place) → left line at ≡ take end (rest line place) ∷ words (drop (place + end + 1) line)
  next end found = here ∙ first_is_space _ end found ∙ ap (λ bytes. take end (rest line place) ∷ words bytes) (after end)

  -- a word more is left than spaces
  all : length (filter (λ b. b == 32) (rest line place)) + 1 ≡ length (left line at)
  all = spaces (rest line place) ∙ ap length (sym here)

  -- of the spaces no more are counted than so many, and of the words one more
  pub counted : (n most : ℕ) → n ≡ length (take most (filter (λ b. b == 32) (rest line place))) → n + 1 ≡ length (take (most + 1) (left line at))
  counted n most told =
      let spaces_taken = length-take most (filter (λ b. b == 32) (rest line place)) in
      let words_taken = length-take (most + 1) (left line at) in
      grind (arith, nat_tests, told, all)
