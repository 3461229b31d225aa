-- How long the largest records of a form are (document 01, 'Records'): every count at its bound.
use Rattle.std.specs.Prelude.{ℕ, ◌+◌, ◌*◌}
use Rattle.layout.specs.Form.{node_width, entry_width}
use Rattle.layout.specs.declared.Form.{Form}
use Rattle.reading.specs.Whole.{bounds}

-- ten bytes, the policies, the nodes, the edges
unfoldable pub largest_network : Form → ℕ
largest_network f = 10 + ((bounds f).policies * 13 + (bounds f).boxes * node_width f + (bounds f).wires * 5)

-- seven bytes and the entries of a list, or of a sheet
unfoldable pub largest_entries : Form → ℕ → ℕ
largest_entries f lead = 7 + f.most * entry_width f lead
