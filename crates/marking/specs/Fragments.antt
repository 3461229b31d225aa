-- What the tables of a fragment say, by the types that hold them.
--     crossing, entering              the cut wires, and those that lead into the fragment
--     kept_of, keeping, PiecesOf      what is kept of the rows, and the table of it
--     reaching                        which edges are kept
--     LeavesOf, FeedsOf               the marks
use Rattle.std.specs.Prelude.{ℕ, Bool, List}
use Rattle.marking.specs.declared.tables.Entered.{Entered}
use Rattle.marking.specs.declared.tables.Fragment.{Fragment}
use Rattle.marking.specs.declared.tables.Wires.{Wires}
use Rattle.marking.specs.Marks.{crosses, reaches, Leaving, Feeding}
use Rattle.marking.specs.Pieces.{keeps, with_piece, Pieces}

module _ (w : Wires) where
  abbrev pub crossing : ℕ → Bool
  crossing = crosses w.table.network.form w.table.network.bytes.now w.fragments.now

  abbrev pub entering : ℕ → Bool
  entering = reaches w.table.network.form w.table.network.bytes.now w.fragments.now w.k

abbrev pub LeavesOf : Entered → List ℕ → Type 0
LeavesOf e = Leaving e.network.form e.network.bytes.now e.sheet.now

module _ (c : Fragment) where
  abbrev pub FeedsOf : List ℕ → Type 0
  FeedsOf = Feeding c.entered.network.form c.entered.network.bytes.now c.entered.sheet.now c.k

  abbrev pub kept_of : ℕ → Bool
  kept_of = keeps c.entered.network.form c.entered.network.bytes.now c.entered.sheet.now c.k

  abbrev pub keeping : ℕ → List ℕ → List ℕ
  keeping = with_piece c.entered.network.form c.entered.network.bytes.now c.entered.sheet.now c.k

  abbrev pub reaching : ℕ → Bool
  reaching = reaches c.entered.network.form c.entered.network.bytes.now c.fragments.now c.k

  abbrev pub PiecesOf : List ℕ → Type 0
  PiecesOf = Pieces c.entered.network.form c.entered.network.bytes.now c.entered.sheet.now c.entered.entries.now c.k
