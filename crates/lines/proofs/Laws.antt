-- What the code's proofs cite, in the order of the code.
--     splitting, naming             the ways of first_length, and of an id behind the first record
--     byte_out, putting             a byte, and a word byte by byte
--     numbering                     a number's digits
--     adding                        numbers, each behind a space
--     wording                       words behind words: a route's, a line's, a box's
use mathlib.Core.Path.{◌≡◌, refl, sym, ap, ◌∙◌}
use mathlib.Core.List.{List, [], ◌∷◌, ◌++◌, map, map-append}
use Prim.Native.Nat.{ℕ, ◌+◌, ◌-◌, ◌*◌, ◌^◌, ◌≤◌, ◌<◌}
use native.Mathlib.Nat.{min-eq_left, min-eq_right, sub-zero}
use native.Mathlib.Numerals.{add-one}
use native.Mathlib.Omega.{arith}
use lib.ListN.{length, get_or, set, take, drop}
use lib.Seq.{sets, set_out, take-suc, take_all, length-take-le}
use borrow.Author.Tests.{lt-ltb, le-ltb}
use Rattle.io.specs.Digits.{last_digits as digits, IsDigitCount}
use Rattle.lists.proofs.Laid.{sets_append}
use Rattle.numbers.specs.BigEndian.{u16_at, u32_at}
use Rattle.numbers.specs.Decimal.{decimal}
use Rattle.numbers.proofs.DecimalLaws.{decimal_short, fewest_decimal}
use Rattle.routes.specs.declared.Fields.{Fields}
use Rattle.routes.specs.declared.Route.{Route}
use Rattle.routes.specs.declared.Route.TheVariants.{None, Held}
use Rattle.lines.specs.Split.{first_length, named_of}
use Rattle.lines.specs.Line.{text, spaced, route_words, pass_line, refused_line, found_line, box_line, line_bytes}
use Rattle.lines.specs.Written.{Written}
use Rattle.lines.specs.declared.Line.{Line}
use Rattle.lines.specs.declared.Line.TheVariants.{Pass, Refused, Found}
use Rattle.lines.proofs.Writing.{written_spaced, written_words, written_line}

-- the first record of an input
module _ (b : List ℕ) where
  pub split_short : length b < 4 → length b ≡ first_length b
  unfolding first_length
  split_short h = rw (lt-ltb (length b) 4 h)

  module _ (v : ℕ) (long : 4 ≤ length b) (e : v ≡ u32_at b 0) where
    pub split_past : length b - 4 < v → length b ≡ first_length b
    unfolding first_length
    split_past h = rw (le-ltb (length b) 4 long, ← e) (sym (min-eq_right (omega arith)))

    pub split_within : v ≤ length b - 4 → v + 4 ≡ first_length b
    unfolding first_length
    split_within h = rw (le-ltb (length b) 4 long, ← e) (sym (min-eq_left (omega arith)))

pub ruleset splitting = (split_short, split_past, split_within)

-- an id behind the first record
pub named_none : (rest : List ℕ) → length rest ≡ 0 → 0 ≡ named_of rest
unfolding u16_at
named_none [] e = refl
named_none (x ∷ xs) e = absurd (omega arith)

pub named_one : (rest : List ℕ) (r : ℕ) → length rest ≡ 1 → r ≡ u16_at (get_or rest 0 0 ∷ 0 ∷ []) 0 → r ≡ named_of rest
unfolding u16_at
named_one [] r e q = absurd (omega arith)
named_one (x ∷ []) r e q = q
named_one (x ∷ (y ∷ ys)) r e q = absurd (omega arith)

pub ruleset naming = (named_none, named_one)

-- a byte behind the room's end
pub byte_out : (room : List ℕ) (at byte : ℕ) → length room ≤ at → room ≡ set room at byte
byte_out room at byte h = sym (set_out room at byte h)

-- what the loop of a word knows: the first i of its bytes are put
pub record Putting (word before after : List ℕ) (at i : ℕ) : Type 0 where
  pub put : after ≡ sets before at (take i word)

pub putting_start : (word room : List ℕ) (at : ℕ) → Putting word room room at 0
putting_start word room at = record { put = refl }

module _ (word before after : List ℕ) (at i : ℕ) (p : Putting word before after at i) where
  pub putting_next : (after' : List ℕ) → i < length word → after' ≡ set after (at + i) (get_or word i 0) → Putting word before after' at (i + 1)
  putting_next after' h e =
      let n : length (take i word) ≡ i = length-take-le i word (omega arith) in
      record { put = e ∙ rw (p.put, add-one, take-suc word i 0 h, sets_append before at (take i word) (get_or word i 0 ∷ []), n) }

  pub putting_end : length word ≤ i → Written word before at after (at + length word)
  unfolding Written
  putting_end h = (rw (take_all i word h) at p.put, refl)

pub ruleset putting = (putting_start, putting_next, putting_end)

-- a number's digits, in the room of the conversion
module _ (n k at : ℕ) (ds : List ℕ) (small : n < 2 ^ 64) (few : IsDigitCount 10 1 n k) (e : take k ds ≡ digits 10 k n) where
  digits_are : take (k - 0) (drop 0 ds) ≡ decimal n
  digits_are = ap (λ (m : ℕ). take m ds) (sub-zero k) ∙ e ∙ fewest_decimal n k small few

  pub digits_room : at + 20 < 2 ^ 64 → at + length (take (k - 0) (drop 0 ds)) < 2 ^ 64
  digits_room h = rw digits_are (let d = decimal_short n in omega arith)

  module _ (room room' : List ℕ) (r : ℕ) (w : Written (take (k - 0) (drop 0 ds)) room at room' r) where
    pub number_written : Written (decimal n) room at room' r
    number_written = rw digits_are at w

    pub number_near : r ≤ at + 20
    unfolding Written
    number_near = let d = decimal_short n in let v = number_written.1 in omega arith

pub ruleset numbering = (digits_room, number_written, number_near)

-- what the loop over numbers knows: the first i of them are put
pub record Adding (ns before after : List ℕ) (at next i : ℕ) : Type 0 where
  pub added : Written (spaced (map decimal (take i ns))) before at after next
  pub near : next ≤ at + 21 * i

pub adding_start : (ns room : List ℕ) (at : ℕ) → Adding ns room room at at 0
unfolding Written spaced
adding_start ns room at = record { added = (refl, omega arith); near = omega arith }

module _ (ns before after : List ℕ) (at next i : ℕ) (a : Adding ns before after at next i) where
  pub adding_space : i < length ns → at + 21 * length ns < 2 ^ 64 → next + 1 < 2 ^ 64
  adding_space h r = let n = a.near in omega arith

  pub adding_next : (mid after' : List ℕ) (digits next' : ℕ) → i < length ns → Written (text " ") after next mid digits → digits ≡ next + 1
      → Written (decimal (get_or ns i 0)) mid digits after' next' → next' ≤ digits + 20 → Adding ns before after' at next' (i + 1)
  adding_next mid after' digits next' h s q w n =
      let m = a.near in
      let e : map decimal (take (i + 1) ns) ≡ map decimal (take i ns) ++ (decimal (get_or ns i 0) ∷ []) =
      rw (add-one, take-suc ns i 0 h, map-append decimal (take i ns) (get_or ns i 0 ∷ [])) in
      let v = written_spaced after mid after' (decimal (get_or ns i 0)) next digits next' s w in
      record {
        added = rw e (written_words before after after' (map decimal (take i ns)) (decimal (get_or ns i 0) ∷ []) at next next' a.added v);
        near = omega arith;
      }

  pub added_all : length ns ≤ i → Written (spaced (map decimal ns)) before at after next
  added_all h = rw (take_all i ns h) at a.added

  pub added_near : i ≤ length ns → next ≤ at + 21 * length ns
  added_near h = let n = a.near in omega arith

pub ruleset adding = (adding_start, adding_space, adding_next, added_all, added_near)

-- a route, by its case, and by its fields as the code widens them
module _ (a b : List ℕ) (i j : ℕ) (route : Route) where
  pub route_none : route ≡ None → Written (text " none") a i b j → Written (spaced (route_words route)) a i b j
  unfolding route_words spaced
  route_none e w = rw e w

  pub route_held : (f : Fields) (preference cost origin tags : ℕ) → route ≡ Held f
      → Written (spaced (decimal preference ∷ decimal cost ∷ decimal origin ∷ decimal tags ∷ [])) a i b j
      → preference ≡ f.preference → cost ≡ f.cost → origin ≡ f.origin → tags ≡ f.tags → Written (spaced (route_words route)) a i b j
  unfolding route_words
  route_held f preference cost origin tags e w p c o t = rw (e, ← p, ← c, ← o, ← t) w

-- a line, by its kind
module _ (a b c d : List ℕ) (i j k l : ℕ) where
  pub line_pass : (x : Line) (judged : ℕ) → x ≡ Pass judged → Written (text "pass") a i b j → Written (spaced (decimal judged ∷ [])) b j c k
      → Written (text "\n") c k d l → Written (line_bytes x) a i d l
  unfolding line_bytes pass_line
  line_pass x judged q f w e = rw q (written_line a b c d i j k l (text "pass") (decimal judged ∷ []) f w e)

  pub line_refused : (x : Line) (number place : ℕ) → x ≡ Refused number place → Written (text "refused") a i b j
      → Written (spaced (decimal number ∷ decimal place ∷ [])) b j c k → Written (text "\n") c k d l → Written (line_bytes x) a i d l
  unfolding line_bytes refused_line
  line_refused x number place q f w e = rw q (written_line a b c d i j k l (text "refused") (decimal number ∷ decimal place ∷ []) f w e)

  pub line_found : (x : Line) (number node judged : ℕ) (route : Route) (m : List ℕ) (n : ℕ) → x ≡ Found number node judged route
      → Written (text "found") a i b j → Written (spaced (decimal number ∷ decimal node ∷ decimal judged ∷ [])) b j m n
      → Written (spaced (route_words route)) m n c k → Written (text "\n") c k d l → Written (line_bytes x) a i d l
  unfolding line_bytes found_line
  line_found x number node judged route m n q f w r e =
      rw q (written_line a b c d i j k l (text "found") (decimal number ∷ decimal node ∷ decimal judged ∷ route_words route) f
      (written_words b m c (decimal number ∷ decimal node ∷ decimal judged ∷ []) (route_words route) j n k w r) e)

-- a box, by its id as the code widens it
pub box_put : (a b c d : List ℕ) (i j k l wide id : ℕ) (route : Route) → wide ≡ id → Written (decimal wide) a i b j
    → Written (spaced (route_words route)) b j c k → Written (text "\n") c k d l → Written (box_line id route) a i d l
unfolding box_line
box_put a b c d i j k l wide id route e f w n = rw (← e) (written_line a b c d i j k l (decimal wide) (route_words route) f w n)

pub ruleset wording = (route_none, route_held, line_pass, line_refused, line_found, box_put)
