-- No line is longer than the longest: at most 21 bytes for each word behind its space (line_short).
use Prim.Native.Nat.{ℕ, ◌+◌, ◌*◌, ◌≤◌}
use mathlib.Core.List.{List, [], ◌∷◌, ◌++◌}
use native.Mathlib.Omega.{arith}
use lib.ListN.{length, length-append}
use Rattle.numbers.specs.Decimal.{decimal}
use Rattle.numbers.proofs.DecimalLaws.{decimal_short}
use Rattle.routes.specs.declared.Route.{Route}
use Rattle.routes.specs.declared.Route.TheVariants.{None, Held}
use Rattle.lines.specs.Line.{text, spaced, line, route_words, pass_line, refused_line, found_line, box_line, line_bytes, longest_line, longest_box_line}
use Rattle.lines.specs.declared.Line.{Line}
use Rattle.lines.specs.declared.Line.TheVariants.{Pass, Refused, Found}

-- every word is no longer than 20 bytes
abbrev pub Short : List (List ℕ) → Type 0
Short [] = Unit {0}
Short (w ∷ ws) = (length w ≤ 20) × Short ws

spaced_short : (ws : List (List ℕ)) → Short ws → length (spaced ws) ≤ 21 * length ws
unfolding spaced
spaced_short [] s = omega arith
spaced_short (w ∷ ws) s = let h = spaced_short ws s.1 in omega (arith, length-append w (spaced ws), s.0)

pub line_short : (first : List ℕ) (ws : List (List ℕ)) → Short ws → length (line first ws) ≤ length first + 21 * length ws + 1
unfolding line
line_short first ws s = let h = spaced_short ws s in omega (arith, length-append first (spaced ws ++ text "\n"), length-append (spaced ws) (text "\n"))

route_short : (route : Route) → Short (route_words route) × (length (route_words route) ≤ 4)
unfolding route_words
route_short None = ((omega arith, tt), omega arith)
route_short (Held f) = ((decimal_short f.preference, (decimal_short f.cost, (decimal_short f.origin, (decimal_short f.tags, tt)))), omega arith)

pub pass_length : (judged : ℕ) → length (pass_line judged) ≤ longest_line
unfolding pass_line
pass_length judged = let h = line_short (text "pass") (decimal judged ∷ []) (decimal_short judged, tt) in omega arith

pub refused_length : (number place : ℕ) → length (refused_line number place) ≤ longest_line
unfolding refused_line
refused_length number place =
    let h = line_short (text "refused") (decimal number ∷ decimal place ∷ []) (decimal_short number, (decimal_short place, tt)) in omega arith

pub found_length : (number node judged : ℕ) (route : Route) → length (found_line number node judged route) ≤ longest_line
unfolding found_line
found_length number node judged route =
    let r = route_short route in
    let h = line_short (text "found") (decimal number ∷ decimal node ∷ decimal judged ∷ route_words route)
    (decimal_short number, (decimal_short node, (decimal_short judged, r.0))) in
    let few = r.1 in
    omega arith

pub line_length : (l : Line) → length (line_bytes l) ≤ longest_line
unfolding line_bytes
line_length (Pass judged) = pass_length judged
line_length (Refused number place) = refused_length number place
line_length (Found number node judged route) = found_length number node judged route

pub box_length : (id : ℕ) (route : Route) → length (box_line id route) ≤ longest_box_line
unfolding box_line
box_length id route =
    let r = route_short route in
    let h = line_short (decimal id) (route_words route) r.0 in
    let d = decimal_short id in
    let few = r.1 in
    omega arith
