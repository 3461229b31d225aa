-- What a row of one network finds in the other, as the code looks it up.
--     once_laws         21: an own node that the other owns, too
--     field_rooms       the fields of a node
--     match_laws        22: what the node with the id says of an assumption
--     matching_row      22: whether a row is matched
--     id_shared, sharing the rows with an id of the other's, and their number
use mathlib.Core.Path.{◌≡◌, refl, sym, ap, ◌∙◌}
use mathlib.Core.Bool.{Bool, true, false, not}
use mathlib.Core.List.{List}
use mathlib.Core.Option.{none, some}
use Prim.Native.Nat.{ℕ, ◌+◌, ◌≤◌, ◌<◌}
use native.Mathlib.Omega.{arith}
use lib.Dec.{eqb}
use lib.ListN.{length, get_or}
use mir.Syntax.{w64}
use mir.Val.{Fits, bool_byte}
use borrow.Author.Tests.{not-true, not-false}
use Rattle.lists.specs.First.{first_bad}
use Rattle.lists.specs.Gather.{count}
use Rattle.lists.proofs.Gather.{count_none, count_next, count_le, count_one, count_most}
use Rattle.lists.proofs.Walk.{Seek, seek_end}
use Rattle.routes.specs.Carry.{highest}
use Rattle.routes.specs.Form.{route_at}
use Rattle.routes.specs.Order.{same}
use Rattle.routes.specs.declared.Route.{Route}
use Rattle.networks.specs.Join.{matched}
use Rattle.networks.specs.Network.{box}
use Rattle.layout.specs.Layout.{Room, node_count, node_offset}
use Rattle.layout.specs.declared.Form.{Form}
use Rattle.nodes.specs.Node.{node_id, is_own, row_of, promising}
use Rattle.layout.proofs.Places.{node_fields_room}
use Rattle.records.specs.Edge.{boxed, owned}
use Rattle.reading.specs.House.{house}
use Rattle.reading.specs.Parts.{box_at}
use Rattle.reading.specs.Whole.{read_network}
use Rattle.reading.proofs.Said.{promise_none, promise_some, read_find}
use Rattle.matching.specs.Rows.{owned_once, row_matched, in_other}

module _ (f : Form) (a b : List ℕ) (i : ℕ) (t : Bool) (e : t ≡ is_own f a i) where
  pub input_once : not t ≡ true → true ≡ owned_once f a b i
  unfolding owned_once
  input_once y = rw (← e, not-true t y) refl

  pub own_once : not t ≡ false → (id : ℕ) → id ≡ node_id f a i → (g : Form) → g ≡ f → (s : Bool) → s ≡ owned g b id → not s ≡ owned_once f a b i
  unfolding owned_once
  own_once y id q g one s d = rw (← e, not-false t y, ← q, ← one, ← d) refl

pub ruleset once_laws = (input_once, own_once)

-- a node's fields are there
module _ (f : Form) (b : List ℕ) (r : Room f b) (row o : ℕ) (l : row < node_count b) (e : o ≡ node_offset f b row) where
  fields : o + (9 + f.route + f.route) ≤ length b
  fields = rw e (node_fields_room f b r row l)

  pub kind_there : o + 2 < length b
  kind_there = omega (arith, fields)

  pub route_there : o + 3 + f.route ≤ length b
  route_there = omega (arith, fields)

  pub promise_there : o + 4 + f.route + f.route ≤ length b
  promise_there = omega (arith, fields)

  pub flag_there : o + (9 + f.route + f.route) ≤ length b
  flag_there = fields

pub row_small : (f : Form) (b : List ℕ) → Room f b → (row : ℕ) → row < node_count b → row ≤ 65535
row_small f b r row l = let few = r.few in let most = r.usable.few in omega arith

pub ruleset field_rooms = (kind_there, route_there, promise_there, flag_there, row_small)

-- the node at an offset of b, and an assumption
module _ (w : ℕ) (b : List ℕ) (o at : ℕ) (same_place : at ≡ o) (assumed : Route) (t : Bool) (e : t ≡ eqb (get_or b (at + 2) 0) 0) where
  pub input_matches : not t ≡ true → (x : Route) → x ≡ route_at w b (at + 3) → (s : Bool) → s ≡ same x assumed → s ≡ matched (house highest) assumed (some (box_at w b o))
  unfolding box_at
  input_matches y x q s d = rw (← same_place, ← e, not-true t y, ← q) d

  module _ (y : not t ≡ false) (p : Bool) (h : p ≡ promising w b at) where
    pub silent_matches : not p ≡ true → false ≡ matched (house highest) assumed (some (box_at w b o))
    unfolding box_at
    silent_matches z = rw (← same_place, ← e, not-false t y, promise_none w b at p h (not-true p z)) refl

    pub promise_matches : not p ≡ false → (x : Route) → x ≡ route_at w b (at + 4 + w) → (s : Bool) → s ≡ same x assumed → s ≡ matched (house highest) assumed (some (box_at w b o))
    unfolding box_at
    promise_matches z x q s d = rw (← same_place, ← e, not-false t y, promise_some w b at p h (not-false p z), ← q) d

pub ruleset match_laws = (input_matches, silent_matches, promise_matches)

-- the box of b with an id
module _ (f : Form) (b : List ℕ) (id : ℕ) where
  pub no_box : boxed f b id ≡ false → box (read_network f b) id ≡ none
  unfolding boxed
  no_box h = read_find f b id ∙ rw h refl

  pub row_box : boxed f b id ≡ true → box (read_network f b) id ≡ some (box_at f.route b (node_offset f b (row_of f b id)))
  unfolding boxed node_offset
  row_box h = read_find f b id ∙ rw h refl

-- b has the id, or has it not
module _ (f : Form) (b : List ℕ) (id : ℕ) (t : Bool) (e : t ≡ boxed f b id) where
  pub there : not t ≡ false → boxed f b id ≡ true
  there y = sym e ∙ not-false t y

  pub not_there : not t ≡ true → boxed f b id ≡ false
  not_there y = sym e ∙ not-true t y

-- a row of a, by what b, whose form is the same, has of its id
module _ (f : Form) (a b : List ℕ) (i : ℕ) (t : Bool) (e : t ≡ is_own f a i) where
  pub own_matched : t ≡ true → true ≡ row_matched f a b i
  unfolding row_matched
  own_matched y = rw (← e, y) refl

  module _ (y : t ≡ false) (id : ℕ) (q : id ≡ node_id f a i) (g : Form) (one : g ≡ f) where
    pub alone_matched : boxed g b id ≡ false → true ≡ row_matched f a b i
    unfolding row_matched
    alone_matched z = rw (← e, y, ← q, no_box f b id (rw one at z)) refl

    pub said_matched : (s : Bool) (assumed : Route) (row o : ℕ) → s ≡ matched (house highest) assumed (some (box_at g.route b (node_offset g b row)))
        → row ≡ row_of g b id → assumed ≡ route_at f.route a (o + 3) → o ≡ node_offset f a i → boxed g b id ≡ true → s ≡ row_matched f a b i
    unfolding row_matched
    said_matched s assumed row o h r x u z =
        rw (← e, y, ← q, row_box f b id (rw one at z), ← u, ← x, ← one, ← r) h

pub ruleset matching_row = (own_matched, there, not_there, alone_matched, said_matched)

-- an id that b has
pub id_shared : (f : Form) (a b : List ℕ) (i id : ℕ) → id ≡ node_id f a i → (g : Form) → g ≡ f → (t : Bool) → t ≡ boxed g b id → t ≡ in_other f a b i
unfolding in_other
id_shared f a b i id q g one t e = rw (← q, ← one) e

-- what the loop that counts them knows
pub record Sharing (f : Form) (a b : List ℕ) (n i so_far : ℕ) : Type 0 where
  pub within : i ≤ n
  pub counts : so_far ≡ count (in_other f a b) i

module _ (f : Form) (a b : List ℕ) (n : ℕ) where
  pub sharing_start : Sharing f a b n 0 0
  sharing_start = record { within = omega arith; counts = count_none _ }

  module _ (i so_far : ℕ) (s : Sharing f a b n i so_far) where
    pub sharing_end : n ≤ i → n ≡ node_count a → so_far ≡ count (in_other f a b) (node_count a)
    sharing_end l p = let e : i ≡ node_count a = let w = s.within in omega arith in s.counts ∙ ap (count (in_other f a b)) e

    module _ (l : i < n) (t : Bool) (one : ℕ) (q : t ≡ in_other f a b i) (e : one ≡ bool_byte t) where
      pub sharing_fits : n ≤ 65535 → Fits w64 (so_far + one)
      sharing_fits g = let h = count_most t in let w = s.counts in omega (arith, count_le (in_other f a b) i)

      pub sharing_next : Sharing f a b n (i + 1) (so_far + one)
      sharing_next = record { within = omega arith; counts = rw (s.counts, e, count_one t, q) (sym (count_next (in_other f a b) i)) }

-- a row of the loop is one of the record's
pub row_in : (i n c : ℕ) → i < n → n ≡ c → i < c
row_in i n c l p = omega arith

-- behind the last row no row has failed the test
pub rows_end : (ok : ℕ → Bool) (n c i : ℕ) → Seek ok c i → n ≤ i → n ≡ c → n ≡ first_bad ok c
rows_end ok n c i s l p = p ∙ seek_end ok c i s (omega arith)

pub ruleset rowing = (row_in, rows_end)

pub ruleset sharing = (row_in, sharing_start, sharing_end, sharing_fits, sharing_next)
