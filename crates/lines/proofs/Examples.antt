-- Worked examples: lines written out, and inputs that are split. One table, one statement.
use mathlib.Core.Path.{◌≡◌, refl}
use mathlib.Core.List.{List, [], ◌∷◌, map}
use Prim.Native.Nat.{ℕ}
use Rattle.lists.specs.First.{first_bad}
use Rattle.numbers.specs.BigEndian.{u16_at, u32_at}
use Rattle.numbers.specs.Decimal.{decimal, places}
use Rattle.routes.specs.declared.Route.TheVariants.{None, Held}
use Rattle.lines.specs.Split.{first_length, first_record, rest_of}
use Rattle.lines.specs.Line.{text, spaced, line, route_words, pass_line, refused_line, found_line}

pub record Example : Type 0 where
  pub answer : List ℕ
  pub expected : List ℕ

abbrev is : List ℕ → List ℕ → Example
is a e = record { answer = a; expected = e }

abbrev pub examples : List Example
examples =
    -- lines: of a chain's pass, of an input that is too long, of the longest number, of findings with a route and without
    is (pass_line 3) (text "pass 3\n") ∷
    is (pass_line 0) (text "pass 0\n") ∷
    is (refused_line 5 40785) (text "refused 5 40785\n") ∷
    is (refused_line 20 18446744073709551615) (text "refused 20 18446744073709551615\n") ∷
    is (found_line 31 1 1 (Held (record { preference = 100; cost = 0; origin = 1; tags = 0 }))) (text "found 31 1 1 100 0 1 0\n") ∷
    is (found_line 33 65535 512 None) (text "found 33 65535 512 none\n") ∷
    -- splits: a record and a rest; fewer bytes than four; a length that points past the end, the greatest one too
    is (first_record (0 ∷ 0 ∷ 0 ∷ 1 ∷ 9 ∷ 7 ∷ 8 ∷ [])) (0 ∷ 0 ∷ 0 ∷ 1 ∷ 9 ∷ []) ∷
    is (rest_of (0 ∷ 0 ∷ 0 ∷ 1 ∷ 9 ∷ 7 ∷ 8 ∷ [])) (7 ∷ 8 ∷ []) ∷
    is (first_record (0 ∷ 0 ∷ 0 ∷ [])) (0 ∷ 0 ∷ 0 ∷ []) ∷
    is (rest_of (0 ∷ 0 ∷ 0 ∷ [])) [] ∷
    is (first_record (0 ∷ 0 ∷ 0 ∷ 2 ∷ 9 ∷ [])) (0 ∷ 0 ∷ 0 ∷ 2 ∷ 9 ∷ []) ∷
    is (rest_of (255 ∷ 255 ∷ 255 ∷ 255 ∷ 9 ∷ [])) [] ∷
    []

-- every answer is the expected one
pub examples_hold : map (λ (x : Example). x.answer) examples ≡ map (λ (x : Example). x.expected) examples
unfolding pass_line refused_line found_line line spaced route_words decimal places first_bad first_length u32_at u16_at
examples_hold = refl
