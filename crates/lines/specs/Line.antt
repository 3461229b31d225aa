-- The lines that the programs print (document 01, 'The two programs', and document 02, K2): words separated by one space, ended by a line feed.
use Rattle.std.specs.Prelude.{ℕ, ◌+◌, ◌*◌, List, [], ◌∷◌, ◌++◌, length}
use Prim.Native.Char.{code}
use Prim.Native.String.{String, [] as no_more, ◌∷◌ as ◌then◌}
use Rattle.numbers.specs.Decimal.{decimal}
use Rattle.routes.specs.declared.Route.{Route}
use Rattle.routes.specs.declared.Route.TheVariants.{None, Held}
use Rattle.lines.specs.declared.Line.{Line}
use Rattle.lines.specs.declared.Line.TheVariants.{Pass, Refused, Found}

-- a text's characters by their numbers, which are its bytes as every character here is ASCII
abbrev pub text : String → List ℕ
text no_more = []
text (c then s) = code c ∷ text s

-- words, each behind a space
unfoldable pub spaced : List (List ℕ) → List ℕ
spaced [] = []
spaced (w ∷ ws) = text " " ++ (w ++ spaced ws)

-- a line: its first word, the words behind it, a line feed
unfoldable pub line : List ℕ → List (List ℕ) → List ℕ
line first ws = first ++ (spaced ws ++ text "\n")

-- a route: `none`, or preference, cost, origin, tags
unfoldable pub route_words : Route → List (List ℕ)
route_words None = text "none" ∷ []
route_words (Held f) = decimal f.preference ∷ decimal f.cost ∷ decimal f.origin ∷ decimal f.tags ∷ []

-- `pass JUDGED`
unfoldable pub pass_line : ℕ → List ℕ
pass_line judged = line (text "pass") (decimal judged ∷ [])

-- `refused NUMBER PLACE`
unfoldable pub refused_line : ℕ → ℕ → List ℕ
refused_line number place = line (text "refused") (decimal number ∷ decimal place ∷ [])

-- `found NUMBER NODE JUDGED` and the route
unfoldable pub found_line : ℕ → ℕ → ℕ → Route → List ℕ
found_line number node judged route = line (text "found") (decimal number ∷ decimal node ∷ decimal judged ∷ route_words route)

-- a box's id and its route
unfoldable pub box_line : ℕ → Route → List ℕ
box_line id route = line (decimal id) (route_words route)

-- a line, by its kind
unfoldable pub line_bytes : Line → List ℕ
line_bytes (Pass judged) = pass_line judged
line_bytes (Refused number place) = refused_line number place
line_bytes (Found number node judged route) = found_line number node judged route

-- The longest line is a finding's with a route: its first word, seven numbers of at most 20 digits behind a space each, a line feed.
abbrev pub longest_line : ℕ
longest_line = length (text "found") + 7 * 21 + 1

-- A box's line is an id of at most 20 digits, four numbers behind a space each, a line feed.
abbrev pub longest_box_line : ℕ
longest_box_line = 20 + 4 * 21 + 1
