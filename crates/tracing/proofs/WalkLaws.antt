-- The walk: a box's line, and behind it the trail from its sender, which holds a cheaper route.
--     walk_room, walk_next_room     there are offsets for a line, and for the lines behind it
--     walk_last, walk_more          the trail that ends at the box, and the one that goes on
--     walk_boxed, walk_cheaper      the sender is a box, and holds a cheaper route
use mathlib.Core.Path.{◌≡◌, sym, ap, ◌∙◌}
use mathlib.Core.Bool.{true}
use mathlib.Core.List.{List, ◌++◌}
use Prim.Native.Nat.{ℕ, ◌+◌, ◌^◌, ◌<◌}
use native.Mathlib.Omega.{arith}
use lib.ListN.{length, length-append}
use Rattle.routes.specs.declared.Route.{Route}
use Rattle.layout.specs.declared.Form.{Form}
use Rattle.records.specs.Edge.{boxed}
use Rattle.reading.specs.House.{cost_of}
use Rattle.lines.specs.Line.{box_line, longest_box_line}
use Rattle.lines.specs.Written.{Written}
use Rattle.lines.proofs.Writing.{written_then}
use Rattle.preparing.specs.Prepared.{Prepared}
use Rattle.tracing.specs.Text.{trail_line, trail_from}
use Rattle.tracing.specs.Tracing.{mapping_in, sender_in, Passing, sender_of}
use Rattle.std.proofs.Common.{Option, Some, None}
use Rattle.tracing.proofs.TrailLaws.{from_last, from_next, sent_boxed, sent_cheaper}

module _ (f : Form) (network list : List ℕ) (id at : ℕ) where
  pub walk_room : at + (length (trail_from f network list id) + longest_box_line) < 2 ^ 64 → at + longest_box_line < 2 ^ 64
  walk_room l = omega arith

module _ (f : Form) (network list rows stands : List ℕ) (h : Prepared f network list rows stands) (p : Passing f network list) (id : ℕ)
    (x : Option ℕ) (s : sender_of x ≡ sender_in f network list id) where
  -- the line of the box
  module _ (a b : List ℕ) (i j : ℕ) (route : Route) (q : route ≡ mapping_in f network list id) (w : Written (box_line id route) a i b j) where
    line_put : Written (trail_line f network list id) a i b j
    unfolding trail_line
    line_put = rw q at w

    pub walk_last : x ≡ None → Written (trail_from f network list id) a i b j
    walk_last e = rw (from_last f network list rows stands h p id (sym s ∙ ap sender_of e)) line_put

    module _ (from : ℕ) (e : x ≡ Some from) where
      next_is : trail_from f network list id ≡ trail_line f network list id ++ trail_from f network list from
      next_is = from_next f network list rows stands h p id from (sym s ∙ ap sender_of e)

      pub walk_next_room : i + (length (trail_from f network list id) + longest_box_line) < 2 ^ 64
          → j + (length (trail_from f network list from) + longest_box_line) < 2 ^ 64
      unfolding Written
      walk_next_room l =
          let m : j ≡ i + length (trail_line f network list id) = line_put.1 in
          omega (arith, ap length next_is, length-append (trail_line f network list id) (trail_from f network list from))

      pub walk_more : (c : List ℕ) (k : ℕ) → Written (trail_from f network list from) b j c k → Written (trail_from f network list id) a i c k
      walk_more c k v = rw next_is (written_then a b c _ _ i j k line_put v)

  module _ (from : ℕ) (e : x ≡ Some from) where
    pub walk_boxed : boxed f network from ≡ true
    walk_boxed = sent_boxed f network list rows stands h p id from (sym s ∙ ap sender_of e)

    pub walk_cheaper : (t : ℕ) → cost_of (mapping_in f network list id) ≡ t → cost_of (mapping_in f network list from) < t
    walk_cheaper t q = rw q at (sent_cheaper f network list rows stands h p id from (sym s ∙ ap sender_of e))

pub ruleset walking = (walk_room, walk_last, walk_next_room, walk_more, walk_boxed, walk_cheaper)
