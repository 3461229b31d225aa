-- No output is longer than the longest: at most a line for each own box, and for an input.
--     from_short                   the lines of a trail
--     trail_fits, trail_read       the longest trail's room is enough for every output
--     trail_start                  what is behind an input that is over the bound does not show
use mathlib.Core.Path.{◌≡◌}
use mathlib.Core.Bool.{true}
use mathlib.Core.List.{List, [], ◌∷◌, ◌++◌}
use Prim.Native.Nat.{ℕ, ◌-◌, ◌*◌, ◌≤◌, ◌<◌}
use native.Mathlib.Omega.{arith}
use lib.ListN.{length, take, drop, length-append, length-map}
use Rattle.lists.specs.Laid.{placed}
use Rattle.routes.specs.Carry.{highest}
use Rattle.routes.specs.declared.Route.{Route}
use Rattle.networks.specs.Sheets.{ListEntry}
use Rattle.networks.specs.Trail.{trail_behind, with_routes}
use Rattle.layout.specs.declared.Form.{Form}
use Rattle.records.specs.Edge.{owned}
use Rattle.reading.specs.House.{house}
use Rattle.reading.specs.Whole.{read_network}
use Rattle.reading.proofs.Lengths.{own_few}
use Rattle.lines.specs.Line.{box_line, line_bytes, longest_box_line}
use Rattle.lines.specs.declared.Line.{Line}
use Rattle.lines.proofs.Answers.{answer_read}
use Rattle.lines.proofs.Lengths.{line_length, box_length}
use Rattle.lines.proofs.Starts.{bound_start}
use Rattle.preparing.specs.Prepared.{Prepared}
use Rattle.preparing.proofs.PreparedLaws.{prepared_checked}
use Rattle.judging.specs.Text.{naming_bound}
use Rattle.tracing.specs.Text.{trail_lines, trail_from, longest_trail, trail_text}
use Rattle.tracing.specs.Tracing.{mapping_in, Passing}
use Rattle.tracing.proofs.TrailLaws.{behind_few}

lines_short : (boxes : List (ListEntry Route)) → length (trail_lines boxes) ≤ longest_box_line * length boxes
unfolding trail_lines
lines_short [] = omega arith
lines_short (e ∷ es) =
    let l = box_length e.id e.route in
    let r = lines_short es in
    omega (arith, length-append (box_line e.id e.route) (trail_lines es))

module _ (f : Form) (network list rows stands : List ℕ) (h : Prepared f network list rows stands) (p : Passing f network list) (id : ℕ) where
  pub from_short : owned f network id ≡ true → length (trail_from f network list id) ≤ longest_trail
  unfolding trail_from
  from_short o =
      let ℒ = mapping_in f network list in
      let behind = trail_behind (house highest) (read_network f network) ℒ id in
      let few = behind_few f network list rows stands h p id o in
      let room = (prepared_checked f network list rows stands h).room in
      let own = own_few f network room.few room.usable.few in
      let l = lines_short (with_routes (house highest) (read_network f network) ℒ (id ∷ behind)) in
      omega (arith, length-map {B = ListEntry Route} behind (λ (j : ℕ). record { id = j; route = ℒ j }))

-- the line of a verdict
pub line_short : (l : Line) (r : ℕ) → r ≡ length (line_bytes l) → r ≤ longest_trail
line_short l r q = omega (arith, line_length l)

-- a room for the longest
pub trail_fits : (r : ℕ) → r ≤ longest_trail → (out' : List ℕ) → length out' ≡ longest_trail → r ≤ length out'
trail_fits r few out' long = omega arith

pub trail_read : (input : List ℕ) (r : ℕ) → r ≡ length (trail_text input) → r ≤ longest_trail → (out out' : List ℕ) → longest_trail ≤ length out
    → out' ≡ placed (trail_text input) out → take (r - 0) (drop 0 out') ≡ trail_text input
trail_read input r q few out out' room e = answer_read (trail_text input) out out' r (omega arith) q e

pub trail_start : (read more : List ℕ) → naming_bound < length read → trail_text (read ++ more) ≡ trail_text read
unfolding trail_text
trail_start read more over = bound_start naming_bound read more _ _ over
