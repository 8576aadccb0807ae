-- The words that a line can begin with, and how many fields follow each.
use Rattle.std.specs.Prelude.{ℕ, cond, List, [], ◌∷◌, Some, None, codes, Option}
use Rattle.std.specs.Str.{bytes_eq}
use Rattle.lines.specs.declared.verbs.Verb.{Verb}
use Rattle.lines.specs.declared.verbs.Verb.TheVariants.{Party, Link, Point, Initial, Advance, Take}

abbrev pub name_of : Verb → List ℕ
name_of Party = codes "party"
name_of Link = codes "link"
name_of Point = codes "point"
name_of Initial = codes "initial"
name_of Advance = codes "advance"
name_of Take = codes "take"

abbrev pub count_of : Verb → ℕ
count_of Party = 4
count_of Link = 2
count_of Point = 4
count_of Initial = 4
count_of Advance = 1
count_of Take = 0

abbrev pub verbs : List Verb
verbs = Party ∷ Link ∷ Point ∷ Initial ∷ Advance ∷ Take ∷ []

-- the one of vs that w is the name of
abbrev pub named : List Verb → List ℕ → Option Verb
named [] w = None
named (v ∷ vs) w = cond (bytes_eq w (name_of v)) (Some v) (named vs w)

abbrev pub verb_of : List ℕ → Option Verb
verb_of w = named verbs w
