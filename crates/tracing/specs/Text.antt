-- What the tracing program prints of what it reads (documents 01, 'The two programs', and 02, K2).
--     trail_lines, shown_text     the lines of a trail; what is printed of an answer
--     trail_line, trail_from, output_at, trail_output     what is printed of two records and an id
--     longest_trail, trail_text   the longest output; what is printed of an input
use Rattle.std.specs.Prelude.{ℕ, ◌+◌, ◌*◌, List, ◌∷◌}
use Rattle.lists.specs.Answer.{Answer, given, refused}
use Rattle.lists.specs.Rows.{laid_rows}
use Rattle.routes.specs.Carry.{highest}
use Rattle.routes.specs.declared.Route.{Route}
use Rattle.networks.specs.Sheets.{ListEntry}
use Rattle.networks.specs.Trail.{Shown, trail, fails, trail_behind, with_routes}
use Rattle.layout.specs.declared.Form.{Form}
use Rattle.reading.specs.House.{house}
use Rattle.reading.specs.Whole.{read_network}
use Rattle.lines.specs.Bound.{within_bound}
use Rattle.lines.specs.Line.{box_line, found_line, refused_line, longest_box_line}
use Rattle.lines.specs.Split.{first_record, rest_of, named_of, behind_named}
use Rattle.judging.specs.Text.{naming_bound}
use Rattle.tracing.specs.Tracing.{mapping_in, show_records, shown_at}

-- the lines of a trail: of each box its id and the route that it holds
unfoldable pub trail_lines : List (ListEntry Route) → List ℕ
trail_lines boxes = laid_rows (λ (e : ListEntry Route). box_line e.id e.route) boxes

-- the trail's lines; the judge's line of a finding or of a refusal
unfoldable pub shown_text : Answer (Shown Route) → List ℕ
shown_text (given (trail boxes)) = trail_lines boxes
shown_text (given (fails number node route count)) = found_line number node count route
shown_text (refused number place) = refused_line number place

module _ (f : Form) (network list : List ℕ) where
  -- the line of a box
  unfoldable pub trail_line : ℕ → List ℕ
  trail_line id = box_line id (mapping_in f network list id)

  -- the lines of the trail that is shown of a box
  unfoldable pub trail_from : ℕ → List ℕ
  trail_from id = trail_lines (with_routes (house highest) (read_network f network) (mapping_in f network list)
      (id ∷ trail_behind (house highest) (read_network f network) (mapping_in f network list) id))

  -- what is printed of a box, where judging refuses nothing
  unfoldable pub output_at : ℕ → List ℕ
  output_at id = shown_text (shown_at f network list id)

unfoldable pub trail_output : List ℕ → List ℕ → ℕ → List ℕ
trail_output network list id = shown_text (show_records network list id)

-- Room enough for every output: a line for each of as many own boxes as a record can have, and for an input.
abbrev pub longest_trail : ℕ
longest_trail = longest_box_line * (1024 + 1)

-- The first record is the network; behind it stand two bytes, the id, and the list.
unfoldable pub trail_text : List ℕ → List ℕ
trail_text input = within_bound naming_bound input (trail_output (first_record input) (behind_named (rest_of input)) (named_of (rest_of input)))
